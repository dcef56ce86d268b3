use Rattle.std.proofs.Common.{option_map, ap, sym, ◌∙◌}
use Rattle.xf_binds.specs.Held.{entries_in, entry_of}
use Rattle.xf_binds.specs.Kept.{Kept}
use Rattle.xf_binds.specs.Since.{stood_since}
use Rattle.xf_binds.proofs.Onlys.{only-since}
use Rattle.xf_binds.proofs.Tellings.{entries-told}
use Rattle.xf_binds.proofs.kept.Kept.stood.Goals as goal

pub returns-in-Nothing : goal.returns-in-Nothing
returns-in-Nothing c =
    only-since c.args.self.now.stood c.self.inside.present.held c.self.inside.stood c.self.inside.since c.stood_in.result.now (entry_of c.args.entry.now) (option_map entry_of c.only.result)
    (ap (λ (k : Kept). k.stood) c.self.view_is) (ap (λ s. entries_in (stood_since c.self.inside.present.held c.self.inside.stood s)) c.in-Nothing.is ∙ ap entries_in (sym c.stood_in.ensures)) c.requires c.only.ensures

pub returns-in-Told : goal.returns-in-Told
returns-in-Told c =
    only-since c.args.self.now.stood c.self.inside.present.held c.self.inside.stood c.self.inside.since c.applied.result.now (entry_of c.args.entry.now) (option_map entry_of c.only-in-Told.result)
    (ap (λ (k : Kept). k.stood) c.self.view_is) (ap (λ s. entries_in (stood_since c.self.inside.present.held c.self.inside.stood s)) c.in-Told.is ∙ entries-told (entries_in c.self.inside.present.held) c.in-Told.field-0 ∙ ap entries_in (sym c.applied.ensures)) c.requires c.only-in-Told.ensures

pub returns-in-Built : goal.returns-in-Built
returns-in-Built c =
    only-since c.args.self.now.stood c.self.inside.present.held c.self.inside.stood c.self.inside.since c.stood_in-in-Built.result.now (entry_of c.args.entry.now) (option_map entry_of c.only-in-Built.result)
    (ap (λ (k : Kept). k.stood) c.self.view_is) (ap (λ s. entries_in (stood_since c.self.inside.present.held c.self.inside.stood s)) c.in-Built.is ∙ ap entries_in (sym c.stood_in-in-Built.ensures)) c.requires c.only-in-Built.ensures

pub returns-in-ToldBuilt : goal.returns-in-ToldBuilt
returns-in-ToldBuilt c =
    only-since c.args.self.now.stood c.self.inside.present.held c.self.inside.stood c.self.inside.since c.applied-in-ToldBuilt.result.now (entry_of c.args.entry.now) (option_map entry_of c.only-in-ToldBuilt.result)
    (ap (λ (k : Kept). k.stood) c.self.view_is) (ap (λ s. entries_in (stood_since c.self.inside.present.held c.self.inside.stood s)) c.in-ToldBuilt.is ∙ entries-told (entries_in c.self.inside.present.held) c.in-ToldBuilt.field-0 ∙ ap entries_in (sym c.applied-in-ToldBuilt.ensures)) c.requires c.only-in-ToldBuilt.ensures

pub returns-in-BuiltTold : goal.returns-in-BuiltTold
returns-in-BuiltTold c =
    only-since c.args.self.now.stood c.self.inside.present.held c.self.inside.stood c.self.inside.since c.applied-in-BuiltTold.result.now (entry_of c.args.entry.now) (option_map entry_of c.only-in-BuiltTold.result)
    (ap (λ (k : Kept). k.stood) c.self.view_is) (ap (λ s. entries_in (stood_since c.self.inside.present.held c.self.inside.stood s)) c.in-BuiltTold.is ∙ ap entries_in (sym c.applied-in-BuiltTold.ensures)) c.requires c.only-in-BuiltTold.ensures

pub returns-in-Past : goal.returns-in-Past
returns-in-Past c =
    only-since c.args.self.now.stood c.self.inside.present.held c.self.inside.stood c.self.inside.since c.in-Past.stood (entry_of c.args.entry.now) (option_map entry_of c.only-in-Past.result)
    (ap (λ (k : Kept). k.stood) c.self.view_is) (ap (λ s. entries_in (stood_since c.self.inside.present.held c.self.inside.stood s)) c.in-Past.is) c.requires c.only-in-Past.ensures

use Rattle.std.proofs.Common.{ap, sym, ◌∙◌}
use Rattle.xf_binds.specs.Held.{entries_in}
use Rattle.xf_binds.specs.Kept.{Kept}
use Rattle.xf_binds.specs.Since.{stood_since}
use Rattle.xf_binds.proofs.Onlys.{only-since}
use Rattle.xf_binds.proofs.Tellings.{entries-told}
use Rattle.xf_binds.proofs.kept.Kept.has_only.Goals as goal

pub returns-in-Nothing : goal.returns-in-Nothing
returns-in-Nothing c = λ e computed.
    let only = c.is_single.ensures.only e in (
      only.0,
      only-since c.args.self.now.stood c.self.inside.present.held c.self.inside.stood c.self.inside.since c.stood_in.result.now e only.0
          (ap (λ (k : Kept). k.stood) c.self.view_is) (ap (λ s. entries_in (stood_since c.self.inside.present.held c.self.inside.stood s)) c.in-Nothing.is ∙ ap entries_in (sym c.stood_in.ensures)) computed only.1,
    )

pub returns-in-Told : goal.returns-in-Told
returns-in-Told c = λ e computed.
    let only = c.is_single-in-Told.ensures.only e in (
      only.0,
      only-since c.args.self.now.stood c.self.inside.present.held c.self.inside.stood c.self.inside.since c.applied.result.now e only.0
          (ap (λ (k : Kept). k.stood) c.self.view_is) (ap (λ s. entries_in (stood_since c.self.inside.present.held c.self.inside.stood s)) c.in-Told.is ∙ entries-told (entries_in c.self.inside.present.held) c.in-Told.field-0 ∙ ap entries_in (sym c.applied.ensures)) computed only.1,
    )

pub returns-in-Built : goal.returns-in-Built
returns-in-Built c = λ e computed.
    let only = c.is_single-in-Built.ensures.only e in (
      only.0,
      only-since c.args.self.now.stood c.self.inside.present.held c.self.inside.stood c.self.inside.since c.stood_in-in-Built.result.now e only.0
          (ap (λ (k : Kept). k.stood) c.self.view_is) (ap (λ s. entries_in (stood_since c.self.inside.present.held c.self.inside.stood s)) c.in-Built.is ∙ ap entries_in (sym c.stood_in-in-Built.ensures)) computed only.1,
    )

pub returns-in-ToldBuilt : goal.returns-in-ToldBuilt
returns-in-ToldBuilt c = λ e computed.
    let only = c.is_single-in-ToldBuilt.ensures.only e in (
      only.0,
      only-since c.args.self.now.stood c.self.inside.present.held c.self.inside.stood c.self.inside.since c.applied-in-ToldBuilt.result.now e only.0
          (ap (λ (k : Kept). k.stood) c.self.view_is) (ap (λ s. entries_in (stood_since c.self.inside.present.held c.self.inside.stood s)) c.in-ToldBuilt.is ∙ entries-told (entries_in c.self.inside.present.held) c.in-ToldBuilt.field-0 ∙ ap entries_in (sym c.applied-in-ToldBuilt.ensures)) computed only.1,
    )

pub returns-in-BuiltTold : goal.returns-in-BuiltTold
returns-in-BuiltTold c = λ e computed.
    let only = c.is_single-in-BuiltTold.ensures.only e in (
      only.0,
      only-since c.args.self.now.stood c.self.inside.present.held c.self.inside.stood c.self.inside.since c.applied-in-BuiltTold.result.now e only.0
          (ap (λ (k : Kept). k.stood) c.self.view_is) (ap (λ s. entries_in (stood_since c.self.inside.present.held c.self.inside.stood s)) c.in-BuiltTold.is ∙ ap entries_in (sym c.applied-in-BuiltTold.ensures)) computed only.1,
    )

pub returns-in-Past : goal.returns-in-Past
returns-in-Past c = λ e computed.
    let only = c.is_single-in-Past.ensures.only e in (
      only.0,
      only-since c.args.self.now.stood c.self.inside.present.held c.self.inside.stood c.self.inside.since c.in-Past.stood e only.0
          (ap (λ (k : Kept). k.stood) c.self.view_is) (ap (λ s. entries_in (stood_since c.self.inside.present.held c.self.inside.stood s)) c.in-Past.is) computed only.1,
    )

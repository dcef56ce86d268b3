use Rattle.std.proofs.Common.{◌≡◌, Bool, true, Option, Some, None, List, not, is_some, filter, refl, ap, sym, ◌∙◌}
use Rattle.std.proofs.lemmas.Bool.{OnTrue_from}
use Rattle.xf_def_model.specs.Entries.{is_computed}
use Rattle.xf_binds.specs.declared.kept.Since.TheVariants.{Nothing}
use Rattle.xf_binds.specs.Held.{Held, entries_in}
use Rattle.xf_binds.specs.Kept.{Kept, entries_of}
use Rattle.xf_binds.specs.Since.{present_in, stood_since}
use Rattle.xf_binds.proofs.Sinces.{settled-since}
use Rattle.xf_binds.proofs.Tellings.{entries-told}
use Rattle.xf_binds.proofs.kept.Kept.is_settled.Goals as goal

none-stood : (o : Option (List Held)) (b : Bool) → is_some o ≡ not b → b ≡ true → o ≡ None
none-stood None b h t = refl
none-stood (Some held) b h t = cc (h, t)

pub returns-in-Nothing : goal.returns-in-Nothing
returns-in-Nothing c =
    let k = c.args.self.now in
    OnTrue_from c.is_none.result (entries_of k.stood ≡ filter is_computed k.entries) (λ t.
    settled-since k c.self.inside.present c.self.inside.stood c.self.inside.since
    (ap (λ (k : Kept). k.stood) c.self.view_is) (ap (λ (k : Kept). k.entries) c.self.view_is)
    (ap (λ s. entries_in (stood_since c.self.inside.present.held c.self.inside.stood s)) c.in-Nothing.is
    ∙ ap (λ o. entries_in (stood_since c.self.inside.present.held o Nothing)) (none-stood c.self.inside.stood c.is_none.result c.is_none.ensures t)
    ∙ sym (ap (λ s. entries_in (present_in c.self.inside.present s).held) c.in-Nothing.is)))

pub returns-in-Told : goal.returns-in-Told
returns-in-Told c =
    settled-since c.args.self.now c.self.inside.present c.self.inside.stood c.self.inside.since
    (ap (λ (k : Kept). k.stood) c.self.view_is) (ap (λ (k : Kept). k.entries) c.self.view_is)
    (ap (λ s. entries_in (stood_since c.self.inside.present.held c.self.inside.stood s)) c.in-Told.is
    ∙ entries-told (entries_in c.self.inside.present.held) c.in-Told.field-0
    ∙ sym (ap (λ s. entries_in (present_in c.self.inside.present s).held) c.in-Told.is))

pub returns-in-BuiltTold : goal.returns-in-BuiltTold
returns-in-BuiltTold c =
    settled-since c.args.self.now c.self.inside.present c.self.inside.stood c.self.inside.since
    (ap (λ (k : Kept). k.stood) c.self.view_is) (ap (λ (k : Kept). k.entries) c.self.view_is)
    (ap (λ s. entries_in (stood_since c.self.inside.present.held c.self.inside.stood s)) c.in-BuiltTold.is
    ∙ sym (ap (λ s. entries_in (present_in c.self.inside.present s).held) c.in-BuiltTold.is))

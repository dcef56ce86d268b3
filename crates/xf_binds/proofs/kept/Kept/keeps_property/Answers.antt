use Rattle.std.proofs.Common.{◌≡◌, true, Some, slice_get, sym, ◌∙◌, arith}
use Rattle.std.proofs.lemmas.Bool.{OnFalse_from}
use Rattle.std.proofs.lemmas.Bool.Decides.{nat_tests}
use Rattle.xf_binds.specs.Alike.{is_shown}
use Rattle.xf_binds.specs.Held.{entry_of}
use Rattle.xf_binds.proofs.Alikes.{truths-apart}
use Rattle.xf_binds.proofs.kept.Kept.keeps_property.Goals as goal

pub returns-else-not-is_shown-clause-differs : goal.returns-else-not-is_shown-clause-differs
returns-else-not-is_shown-clause-differs c =
    let k = c.args.self.now in
    let e = entry_of c.in-Some.entry in
    let here : slice_get k.entries c.args.at ≡ Some e = grind (arith, nat_tests, c.entry.ensures, c.in-Some.is, c.present.ensures) in
    let shown : is_shown e.property ≡ true = grind (arith, nat_tests, c.is_shown.ensures, c.if-not-is_shown.false) in
    OnFalse_from c.eq.result _ (λ other keeps.
    truths-apart c.truth_at.result c.at.result (sym c.eq.ensures ∙ other) (c.truth_at.ensures.truth ∙ sym (keeps e here shown) ∙ sym c.at.ensures))

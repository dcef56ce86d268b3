use Rattle.std.proofs.Common.{◌≡◌, ◌∙◌, nat_eq, Some, ap, refl, sym, subst}
use Rattle.std.specs.Prelude.{IsSome}
use Rattle.std.specs.Option.{option_copied_mut}
use Rattle.std.proofs.lemmas.Bool.{eqb-true}
use Rattle.std.proofs.lemmas.Result.{on_ok_weaker}
use Rattle.indexmap.specs.IndexMap.{get}
use Rattle.xf_binds_rebuild.proofs.Linked.{pushed}
use Rattle.xf_binds_rebuild.proofs.readers.add.Goals as goal

pub returns-in-Some : goal.returns-in-Some
returns-in-Some c =
    let old = get nat_eq c.args.readers.now in
    let got : old c.args.number ≡ Some c.in-Some.list.now = sym c.get_mut.ensures.value ∙ ap option_copied_mut c.in-Some.is in
    let some : IsSome (old c.args.number) = subst (λ o. IsSome o) (sym got) refl in
    let updates = ((c.get_mut.follows.holds c.push.new.self).3 some).0 in
    on_ok_weaker c.push.result (λ more n other.
    pushed c.args.number c.args.place n other c.in-Some.list.now c.push.new.self (old n) _ (updates n) more (λ same. ap old (sym (eqb-true c.args.number n same)) ∙ got)) c.push.ensures.ok

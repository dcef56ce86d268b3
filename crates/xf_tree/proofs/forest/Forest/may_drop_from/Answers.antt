use Rattle.std.proofs.Common.{◌≡◌, ℕ, ◌≤◌, true, nat_le, sym, subst, arith}
use Rattle.std.specs.List.{list_all}
use Rattle.std.proofs.lemmas.Bool.Decides.{nat_tests}
use Rattle.xf_def_forest.specs.Needs.{goes_or_stays}
use Rattle.xf_def_forest.specs.Texts.{Keeping}
use Rattle.xf_def_forest.specs.Visit.{visits}
use Rattle.xf_tree.proofs.WholeLemmas.{rows-whole, whole-rows}
use Rattle.xf_tree.proofs.forest.Forest.may_drop_from.Goals as goal

at-most : (m n : ℕ) → m ≤ n → nat_le m n ≡ true
at-most m n h = grind (arith, nat_tests)

pub returns-then-number-self : goal.returns-then-number-self
returns-then-number-self c =
    let number = c.args.number in
    let s = c.self.inside.slots in
    let rows = c.self.inside.rows.items in
    let kept = c.self.inside.kept.items in
    let next = c.self.inside.next in
    let sound = c.self.invariant.sound in (
      λ e. record {
        known = subst (λ (k : Keeping). nat_le number k.forest.next ≡ true) c.self.view_is (at-most number next c.if-number-self.true);
        whole = subst (λ (k : Keeping). list_all (goes_or_stays number) (visits k.forest.nodes) ≡ true) c.self.view_is
            (whole-rows s number next rows kept sound ((c.are_whole.ensures.0 e)));
      },
      λ may. c.are_whole.ensures.1 ((rows-whole s number next rows kept sound (subst (λ (k : Keeping). list_all (goes_or_stays number) (visits k.forest.nodes) ≡ true) (sym c.self.view_is) may.whole))),
    )

-- Which numbers are taken after a change, as its call tells it.
use Rattle.std.proofs.Common.{◌≡◌, ℕ, Bool, true, false, ◌||◌, nat_lt, refl, sym, ap, ◌∙◌, inl, inr, arith}
use Rattle.std.specs.Prelude.{◌≤◌, ◌<◌}
use Rattle.std.proofs.lemmas.Bool.Decides.{nat_tests}
use Rattle.xf_def_forest.specs.Forest.{has_number}
use Rattle.xf_def_forest.specs.Visit.{has}
use Rattle.xf_def_xpath.proofs.VisitFacts.{or-cases, or-left, or-right}
use Rattle.xf_law_recalculation.specs.Change.Elsewhere.{UnderTakes, ReservedTakes, UnusedFree}
use Rattle.xf_law_recalculation.proofs.ChangeLemmas.Carry.{less-number}

pub under_takes : UnderTakes
under_takes taken forest after trees less grows few = record {
  keeps = λ k h. let l = less k h in let g = grows in grind (arith, nat_tests, l, g);
  nodes = λ k h. less-number after.next k after.nodes trees.below h;
  less = λ k h. h;
  few = few;
}

pub unused_free : UnusedFree
unused_free first number used least unused = let e : nat_lt number first ≡ false = grind (arith, nat_tests, least) in ap (λ b. b || has number used) e ∙ unused

pub reserved_takes : ReservedTakes
reserved_takes first used more after trees least few wider used_less free = record {
  keeps = λ k h. elim (or-cases (nat_lt k first) (has k used) h) [
    | inl e ↦ or-left (nat_lt k first) (has k more) e
    | inr e ↦ or-right (nat_lt k first) (has k more) (wider k e)
  ];
  nodes = λ k h. by k (nat_lt k first) refl (has k more) refl h;
  less = λ k h. elim (or-cases (nat_lt k first) (has k more) h) [
    | inl e ↦ (let l = least in grind (arith, nat_tests, e, l))
    | inr e ↦ used_less k e
  ];
  few = few;
}
  where
    by : (k : ℕ) (b : Bool) → nat_lt k first ≡ b → (c : Bool) → has k more ≡ c → has_number k after.nodes ≡ true → (b || c) ≡ true
    by k true e c i h = refl
    by k false e true i h = refl
    by k false e false i h =
        let from : first ≤ k = grind (arith, nat_tests, e) in
        let below : nat_lt k after.next ≡ true = less-number after.next k after.nodes trees.below h in
        let under : k < after.next = grind (arith, nat_tests, below) in
        sym (free k from under i) ∙ h

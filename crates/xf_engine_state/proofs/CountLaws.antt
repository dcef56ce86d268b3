-- How many copies and items there are, one copy after the other.
use Rattle.std.proofs.Common.{◌≡◌, ℕ, suc, ◌+◌, ◌-◌, ◌<◌, ◌≤◌, true, false, List, [], ◌∷◌, map, length, nat_lt, refl, ap, arith}
use Rattle.std.specs.Prelude.{sum_by, fold}
use Rattle.std.proofs.lemmas.Bool.Decides.{nat_tests}
use Rattle.xf_def_ui.specs.Copies.{Copy, copy_count}
use Rattle.xf_controls.specs.declared.copy.ControlCopy.{ControlCopy}
use Rattle.xf_controls.specs.Seen.{seen_copy}

abbrev pub items_in : List ControlCopy → ℕ
items_in cs = sum_by (λ (c : Copy). length c.items) (map seen_copy cs)

fold-from : (n : ℕ) (cs : List Copy) → fold (λ (b : ℕ) (c : Copy). b + length c.items) n cs ≡ n + fold (λ (b : ℕ) (c : Copy). b + length c.items) 0 cs
fold-from n [] = omega arith
fold-from n (c ∷ cs) = let one = fold-from (n + length c.items) cs in let two = fold-from (0 + length c.items) cs in omega (arith, one, two)

pub items-more : (c : ControlCopy) (cs : List ControlCopy) → items_in (c ∷ cs) ≡ length c.items + items_in cs
items-more c cs = let e = fold-from (0 + length c.items) (map seen_copy cs) in omega (arith, e)

seen-length : (cs : List ControlCopy) → length (map seen_copy cs) ≡ length cs
seen-length [] = refl
seen-length (c ∷ cs) = ap suc (seen-length cs)

pub count-over : (cs : List ControlCopy) → 65536 < length cs → nat_lt 65536 (copy_count (map seen_copy cs)) ≡ true
count-over cs h = let l = seen-length cs in grind (arith, nat_tests, h, l)

pub count-left : (cs : List ControlCopy) → length cs ≤ 65536 → nat_lt (65536 - length cs) (items_in cs) ≡ nat_lt 65536 (copy_count (map seen_copy cs))
count-left cs h = let l = seen-length cs in grind (arith, nat_tests, h, l)

pub left-over : (left : ℕ) (c : ControlCopy) (cs : List ControlCopy) → left < length c.items → nat_lt left (items_in (c ∷ cs)) ≡ true
left-over left c cs h = let e = items-more c cs in grind (arith, nat_tests, h, e)

pub left-less : (left : ℕ) (c : ControlCopy) (cs : List ControlCopy) → length c.items ≤ left → nat_lt (left - length c.items) (items_in cs) ≡ nat_lt left (items_in (c ∷ cs))
left-less left c cs h = let e = items-more c cs in grind (arith, nat_tests, h, e)

pub left-none : (left : ℕ) → nat_lt left (items_in []) ≡ false
left-none left = grind (arith, nat_tests)

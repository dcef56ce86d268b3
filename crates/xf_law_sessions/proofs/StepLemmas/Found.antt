-- Nodes that are the same one by one, but for their numbers, are so by a renumbering.
use Rattle.std.proofs.Common.{◌≡◌, ℕ, ◌+◌, ◌^◌, ◌<◌, ◌==◌, Bool, true, false, not, ◌&&◌, ◌||◌, List, [], ◌∷◌, map, nat_lt, refl, sym, ap, ◌∙◌, subst, arith}
use Rattle.std.specs.Prelude.{◌≤◌}
use Rattle.std.specs.List.{list_all}
use Rattle.std.proofs.lemmas.Bool.Decides.{nat_tests}
use Rattle.xf_def_forest.specs.declared.content.Content.{Content}
use Rattle.xf_def_forest.specs.declared.content.Node.{Node}
use Rattle.xf_def_forest.specs.Forest.{Forest, has_number}
use Rattle.xf_def_forest.specs.Same.{IsRenumbering, KeepsTexts, renumbered}
use Rattle.xf_def_forest.specs.WellFormed.{are_apart, are_below, HasTrees}
use Rattle.xf_law_forests.proofs.SettleLemmas.Renamed.{swap-other}
use Rattle.xf_law_sessions.specs.Step.Fixed.{without_number}
use Rattle.xf_law_sessions.proofs.SameLemmas.Extending.{swapped, swap-first, swap-below, swapped-low, swapped-above, swapped-renumbers}

or-false : (a b : Bool) → (a || b) ≡ false → (a ≡ false) × (b ≡ false)
or-false true b h = cc
or-false false b h = (refl, h)

and-true : (a b : Bool) → (a && b) ≡ true → (a ≡ true) × (b ≡ true)
and-true true b h = (refl, h)
and-true false b h = cc

not-true : (b : Bool) → not b ≡ true → b ≡ false
not-true true h = cc
not-true false h = refl

pub below-all : (next : ℕ) (xs : List Node) → are_below next xs ≡ true → (w : ℕ) → next ≤ w → list_all (λ x. nat_lt x.number w) xs ≡ true
below-all next [] h w l = refl
below-all next (x ∷ xs) h w l =
    let parts = and-true (nat_lt x.number next) (are_below next xs) h in
    let less : nat_lt x.number w ≡ true = less-of x.number next w parts.0 l in
    rw (less, below-all next xs parts.1 w l) refl
  where
    less-of : (n a b : ℕ) → nat_lt n a ≡ true → a ≤ b → nat_lt n b ≡ true
    less-of n a b p q = grind (arith, nat_tests, p, q)

pub record Found (w : ℕ) (xs ys : List Node) : Type 0 where
  pub by : ℕ → ℕ
  pub renumbers : IsRenumbering by
  pub above : (n : ℕ) → by (w + n) ≡ w + by n
  pub low : (n : ℕ) → n < w → by n < w
  pub nodes : map (renumbered by) xs ≡ ys

abbrev pub contents_of : List Node → List (ℕ × Content)
contents_of xs = map without_number xs

module _ (w : ℕ) (some : 0 < w) (g : ℕ → ℕ) (same : IsRenumbering g) (m n : ℕ) (low : g m < w) (less : n < w) where
  still : (xs ys : List Node) → map (renumbered g) xs ≡ ys → has_number m xs ≡ false → has_number n ys ≡ false → list_all (λ y. nat_lt y.number w) ys ≡ true
      → map (renumbered (λ k. swapped w (g m) n (g k))) xs ≡ map (renumbered g) xs
  still [] ys q a b l = refl
  still (x ∷ xs) [] q a b l = cc
  still (x ∷ xs) (y ∷ ys) q a b l =
      let p = or-false (x.number == m) (has_number m xs) a in
      let r = or-false (y.number == n) (has_number n ys) b in
      let t = and-true (nat_lt y.number w) (list_all (λ z. nat_lt z.number w) ys) l in
      let head : renumbered g x ≡ y = cc q in
      let tail : map (renumbered g) xs ≡ ys = cc q in
      let number : g x.number ≡ y.number = ap (λ (z : Node). z.number) head in
      let below : g x.number < w = subst (λ k. k < w) (sym number) (less-than y.number t.0) in
      let one : (g x.number == g m) ≡ false = same x.number m ∙ p.0 in
      let two : (g x.number == n) ≡ false = subst (λ k. (k == n) ≡ false) (sym number) r.0 in
      let is : swapped w (g m) n (g x.number) ≡ g x.number = swapped-low w (g m) n some low less (g x.number) below ∙ swap-other (g m) n (g x.number) one two in
      ap {A = ℕ} {B = List Node} (λ k. record x { number = k } ∷ map (renumbered (λ j. swapped w (g m) n (g j))) xs) is ∙ ap (λ l. renumbered g x ∷ l) (still xs ys tail p.1 r.1 t.1)
    where
      less-than : (k : ℕ) → nat_lt k w ≡ true → k < w
      less-than k h = grind (arith, nat_tests, h)

less-of : (k w : ℕ) → nat_lt k w ≡ true → k < w
less-of k w h = grind (arith, nat_tests, h)

pub found : (w : ℕ) → 0 < w → (xs ys : List Node) → contents_of xs ≡ contents_of ys → are_apart xs ≡ true → are_apart ys ≡ true
    → list_all (λ x. nat_lt x.number w) xs ≡ true → list_all (λ y. nat_lt y.number w) ys ≡ true → Found w xs ys
found w some [] [] e a b c d = record { by = λ n. n; renumbers = λ x y. refl; above = λ n. refl; low = λ n h. h; nodes = refl }
found w some [] (y ∷ ys) e a b c d = cc
found w some (x ∷ xs) [] e a b c d = cc
found w some (x ∷ xs) (y ∷ ys) e a b c d =
    let p = and-true (not (has_number x.number xs)) (are_apart xs) a in
    let q = and-true (not (has_number y.number ys)) (are_apart ys) b in
    let r = and-true (nat_lt x.number w) (list_all (λ z. nat_lt z.number w) xs) c in
    let t = and-true (nat_lt y.number w) (list_all (λ z. nat_lt z.number w) ys) d in
    let rest : contents_of xs ≡ contents_of ys = cc e in
    let pair : without_number x ≡ without_number y = cc e in
    let depth : x.depth ≡ y.depth = ap (λ (z : ℕ × Content). z.0) pair in
    let content : x.content ≡ y.content = ap (λ (z : ℕ × Content). z.1) pair in
    let g = found w some xs ys rest p.1 q.1 r.1 t.1 in
    let low : g.by x.number < w = g.low x.number (less-of x.number w r.0) in
    let less : y.number < w = less-of y.number w t.0 in
    let f : ℕ → ℕ = λ n. swapped w (g.by x.number) y.number (g.by n) in
    let first : f x.number ≡ y.number = swapped-low w (g.by x.number) y.number some low less (g.by x.number) low ∙ swap-first (g.by x.number) y.number in
    record {
      by = f;
      renumbers = λ m n. swapped-renumbers w (g.by x.number) y.number some low less (g.by m) (g.by n) ∙ g.renumbers m n;
      above = λ n. ap (swapped w (g.by x.number) y.number) (g.above n) ∙ swapped-above w (g.by x.number) y.number some low less (g.by n);
      low = λ n h. subst (λ m. m < w) (sym (swapped-low w (g.by x.number) y.number some low less (g.by n) (g.low n h))) (swap-below w (g.by x.number) y.number (g.by n) low less (g.low n h));
      nodes = ap {A = ℕ} {B = List Node} (λ k. record { number = k; depth = x.depth; content = x.content } ∷ map (renumbered f) xs) first
          ∙ ap {A = ℕ} {B = List Node} (λ k. record { number = y.number; depth = k; content = x.content } ∷ map (renumbered f) xs) depth
          ∙ ap {A = Content} {B = List Node} (λ k. record { number = y.number; depth = y.depth; content = k } ∷ map (renumbered f) xs) content
          ∙ ap (λ l. y ∷ l) (still w some g.by g.renumbers x.number y.number low less xs ys g.nodes (not-true (has_number x.number xs) p.0) (not-true (has_number y.number ys) q.0) t.1 ∙ g.nodes);
    }

pub record Renumbers (xs ys : List Node) : Type 0 where
  pub by : ℕ → ℕ
  pub renumbers : IsRenumbering by
  pub keeps_texts : KeepsTexts by
  pub nodes : map (renumbered by) xs ≡ ys

pub found-by : (one two : Forest) → HasTrees one → HasTrees two → one.next ≤ 2 ^ 128 → two.next ≤ 2 ^ 128 → contents_of one.nodes ≡ contents_of two.nodes → Renumbers one.nodes two.nodes
found-by one two h k a b e =
    let g = found (2 ^ 128) (omega arith) one.nodes two.nodes e h.apart k.apart (below-all one.next one.nodes h.below (2 ^ 128) a) (below-all two.next two.nodes k.below (2 ^ 128) b) in
    record { by = g.by; renumbers = g.renumbers; keeps_texts = g.above; nodes = g.nodes }

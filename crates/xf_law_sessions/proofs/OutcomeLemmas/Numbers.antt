-- Nodes that are the same one by one are so by a renumbering that goes on: the numbers that are given next stand behind them as those of nodes.
use Rattle.std.proofs.Common.{◌≡◌, ℕ, zero, suc, ◌+◌, ◌^◌, ◌<◌, ◌==◌, Bool, true, false, not, ◌&&◌, ◌||◌, List, [], ◌∷◌, ◌++◌, map, length, nat_lt, refl, sym, ap, ◌∙◌, arith}
use Rattle.std.specs.Prelude.{◌≤◌}
use Rattle.std.specs.List.{list_all}
use Rattle.std.proofs.lemmas.Bool.Decides.{nat_tests}
use Rattle.std.proofs.lemmas.List.{map-append}
use Rattle.xf_def_forest.specs.declared.content.Content.{Content}
use Rattle.xf_def_forest.specs.declared.content.Content.TheVariants.{Root}
use Rattle.xf_def_forest.specs.declared.content.Node.{Node}
use Rattle.xf_def_forest.specs.Forest.{has_number}
use Rattle.xf_def_forest.specs.Same.{renumbered}
use Rattle.xf_def_forest.specs.WellFormed.{are_apart, are_below}
use Rattle.xf_law_sessions.specs.Step.Fixed.{without_number}
use Rattle.xf_law_sessions.proofs.StepLemmas.Found.{Found, found, below-all}
use Rattle.xf_law_sessions.specs.Outcome.Numbers.{ContentsRenumber}

and-true : (a b : Bool) → (a && b) ≡ true → (a ≡ true) × (b ≡ true)
and-true true b h = (refl, h)
and-true false b h = cc

-- nodes with so many numbers from this one on
abbrev numbered_on : ℕ → ℕ → List Node
numbered_on n zero = []
numbered_on n (suc count) = record { number = n; depth = 0; content = Root } ∷ numbered_on (suc n) count

abbrev contents : List Node → List (ℕ × Content)
contents xs = map without_number xs

-- ---- what stands behind

on-contents : (m n count : ℕ) → contents (numbered_on m count) ≡ contents (numbered_on n count)
on-contents m n zero = refl
on-contents m n (suc count) = ap (λ l. (0, Root) ∷ l) (on-contents (suc m) (suc n) count)

contents-append : (xs ys : List Node) → contents (xs ++ ys) ≡ contents xs ++ contents ys
contents-append xs ys = map-append without_number xs ys

on-without : (n first count : ℕ) → n < first → has_number n (numbered_on first count) ≡ false
on-without n first zero h = refl
on-without n first (suc count) h =
    let other : (first == n) ≡ false = grind (arith, nat_tests, h) in
    ap (λ b. b || has_number n (numbered_on (suc first) count)) other ∙ on-without n (suc first) count (omega (arith, h))

on-apart : (first count : ℕ) → are_apart (numbered_on first count) ≡ true
on-apart first zero = refl
on-apart first (suc count) =
    ap (λ b. not b && are_apart (numbered_on (suc first) count)) (on-without first (suc first) count (omega arith)) ∙ on-apart (suc first) count

has-append : (n : ℕ) (xs ys : List Node) → has_number n xs ≡ false → has_number n ys ≡ false → has_number n (xs ++ ys) ≡ false
has-append n [] ys h k = k
has-append n (x ∷ xs) ys h k = by (x.number == n) h (λ q. has-append n xs ys q k)
  where
    by : (b : Bool) → (b || has_number n xs) ≡ false → (has_number n xs ≡ false → has_number n (xs ++ ys) ≡ false) → (b || has_number n (xs ++ ys)) ≡ false
    by true q rest = cc q
    by false q rest = rest q

behind-apart : (first count : ℕ) (xs : List Node) → are_apart xs ≡ true → are_below first xs ≡ true → are_apart (xs ++ numbered_on first count) ≡ true
behind-apart first count [] h k = on-apart first count
behind-apart first count (x ∷ xs) h k =
    let p = and-true (not (has_number x.number xs)) (are_apart xs) h in
    let q = and-true (nat_lt x.number first) (are_below first xs) k in
    let less : x.number < first = less-of x.number q.0 in
    ap (λ b. not b && are_apart (xs ++ numbered_on first count)) (has-append x.number xs (numbered_on first count) (not-true (has_number x.number xs) p.0) (on-without x.number first count less))
    ∙ behind-apart first count xs p.1 q.1
  where
    less-of : (n : ℕ) → nat_lt n first ≡ true → n < first
    less-of n h = grind (arith, nat_tests, h)

    not-true : (b : Bool) → not b ≡ true → b ≡ false
    not-true true h = cc
    not-true false h = refl

on-below : (w first count : ℕ) → first + count ≤ w → list_all (λ x. nat_lt x.number w) (numbered_on first count) ≡ true
on-below w first zero h = refl
on-below w first (suc count) h =
    let less : nat_lt first w ≡ true = grind (arith, nat_tests, h) in
    ap (λ b. b && list_all (λ (x : Node). nat_lt x.number w) (numbered_on (suc first) count)) less ∙ on-below w (suc first) count (omega (arith, h))

all-append : (w : ℕ) (xs ys : List Node) → list_all (λ x. nat_lt x.number w) xs ≡ true → list_all (λ x. nat_lt x.number w) ys ≡ true → list_all (λ x. nat_lt x.number w) (xs ++ ys) ≡ true
all-append w [] ys h k = k
all-append w (x ∷ xs) ys h k = by (nat_lt x.number w) h (λ q. all-append w xs ys q k)
  where
    by : (b : Bool) → (b && list_all (λ (y : Node). nat_lt y.number w) xs) ≡ true → (list_all (λ (y : Node). nat_lt y.number w) xs ≡ true → list_all (λ (y : Node). nat_lt y.number w) (xs ++ ys) ≡ true)
        → (b && list_all (λ (y : Node). nat_lt y.number w) (xs ++ ys)) ≡ true
    by true q rest = rest q
    by false q rest = cc q

-- ---- both parts again

-- two lists that are one behind others of one length
record Both (ks ls ms ns : List Node) : Type 0 where
  first : ks ≡ ms
  second : ls ≡ ns

both : (ks ls ms ns : List Node) → length ks ≡ length ms → ks ++ ls ≡ ms ++ ns → Both ks ls ms ns
both [] ls [] ns l q = record { first = refl; second = q }
both [] ls (m ∷ ms) ns l q = cc l
both (k ∷ ks) ls [] ns l q = cc l
both (k ∷ ks) ls (m ∷ ms) ns l q =
    let head : k ≡ m = cc q in
    let tail : ks ++ ls ≡ ms ++ ns = cc q in
    let less : length ks ≡ length ms = omega (arith, l) in
    let rest = both ks ls ms ns less tail in
    record { first = ap (λ x. x ∷ ks) head ∙ ap (λ l. m ∷ l) rest.first; second = rest.second }

same-length : (xs ys : List Node) → contents xs ≡ contents ys → length xs ≡ length ys
same-length [] [] q = refl
same-length [] (y ∷ ys) q = cc q
same-length (x ∷ xs) [] q = cc q
same-length (x ∷ xs) (y ∷ ys) q = let rest : contents xs ≡ contents ys = cc q in ap suc (same-length xs ys rest)

length-renumbered : (f : ℕ → ℕ) (xs : List Node) → length (map (renumbered f) xs) ≡ length xs
length-renumbered f [] = refl
length-renumbered f (x ∷ xs) = ap suc (length-renumbered f xs)

goes-on : (f : ℕ → ℕ) (first second count : ℕ) → map (renumbered f) (numbered_on first count) ≡ numbered_on second count → (k : ℕ) → k < count → f (first + k) ≡ second + k
goes-on f first second zero q k h = let no : ⊥ = omega (arith, h) in absurd no
goes-on f first second (suc count) q zero h =
    let heads : ◌≡◌ {A = Node} (record { number = f first; depth = 0; content = Root }) (record { number = second; depth = 0; content = Root }) = cc q in
    let one : first + 0 ≡ first = omega arith in
    let two : second ≡ second + 0 = omega arith in
    ap f one ∙ ap (λ (x : Node). x.number) heads ∙ two
goes-on f first second (suc count) q (suc k) h =
    let tails : map (renumbered f) (numbered_on (suc first) count) ≡ numbered_on (suc second) count = cc q in
    let one : first + suc k ≡ suc first + k = omega arith in
    let two : suc second + k ≡ second + suc k = omega arith in
    ap f one ∙ goes-on f (suc first) (suc second) count tails k (omega (arith, h)) ∙ two

pub contents_renumber : ContentsRenumber
contents_renumber made one two h q a b e =
    let count = suc made in
    let w = 2 ^ 128 in
    let xs = one.nodes ++ numbered_on one.next count in
    let ys = two.nodes ++ numbered_on two.next count in
    let low : one.next ≤ w = omega (arith, a) in
    let low_too : two.next ≤ w = omega (arith, b) in
    let same : contents xs ≡ contents ys =
    contents-append one.nodes (numbered_on one.next count) ∙ ap (λ l. l ++ contents (numbered_on one.next count)) e ∙ ap (λ l. contents two.nodes ++ l) (on-contents one.next two.next count)
    ∙ sym (contents-append two.nodes (numbered_on two.next count)) in
    let g : Found w xs ys = found w (omega arith) xs ys same (behind-apart one.next count one.nodes h.apart h.below) (behind-apart two.next count two.nodes q.apart q.below)
    (all-append w one.nodes (numbered_on one.next count) (below-all one.next one.nodes h.below w low) (on-below w one.next count (omega (arith, a))))
    (all-append w two.nodes (numbered_on two.next count) (below-all two.next two.nodes q.below w low_too) (on-below w two.next count (omega (arith, b)))) in
    let parts = both (map (renumbered g.by) one.nodes) (map (renumbered g.by) (numbered_on one.next count)) two.nodes (numbered_on two.next count)
    (length-renumbered g.by one.nodes ∙ same-length one.nodes two.nodes e) (sym (map-append (renumbered g.by) one.nodes (numbered_on one.next count)) ∙ g.nodes) in
    record {
      by = g.by;
      renumbers = g.renumbers;
      keeps_texts = g.above;
      nodes = parts.first;
      continues = λ k less. goes-on g.by one.next two.next count parts.second k (omega (arith, less));
    }

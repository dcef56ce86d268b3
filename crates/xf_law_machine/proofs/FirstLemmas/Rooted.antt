-- The trees that are planted stand one behind the other, each under a root of its own.
use Rattle.std.proofs.Common.{◌≡◌, ℕ, suc, ◌+◌, ◌-◌, ◌≤◌, ◌==◌, Bool, true, false, not, cond, ◌&&◌, List, [], ◌∷◌, ◌++◌, map, length, nat_lt, Option, Some, None, Result, Ok, Err, refl, sym, ap, ◌∙◌, subst, arith, append-nil}
use Rattle.std.proofs.lemmas.Bool.Decides.{nat_tests}
use Rattle.xf_def_forest.specs.declared.content.Content.{Content}
use Rattle.xf_def_forest.specs.declared.content.Content.TheVariants.{Root}
use Rattle.xf_def_forest.specs.declared.content.Node.{Node}
use Rattle.xf_def_forest.specs.declared.fault.TreeFault.{TreeFault}
use Rattle.xf_def_forest.specs.Changes.{in_detached, in_instances, is_detached_top, moved_to, shifted, with_root, without_tree}
use Rattle.xf_def_forest.specs.Forest.{Forest, below, first_tree, from_node, has_number, is_root, past, tree_of}
use Rattle.xf_def_forest.specs.Limits.{passed_by_tree, unless}
use Rattle.xf_def_forest.specs.Plant.{numbered_from}
use Rattle.xf_def_forest.specs.WellFormed.{are_below}
use Rattle.xf_def_forest.proofs.BackLaws.{or-false}
use Rattle.xf_def_forest.proofs.FreeLaws.{fresh-nodes}
use Rattle.xf_def_forest.proofs.MoveLemmas.{without-behind}
use Rattle.xf_def_machine.specs.Construct.{plant_document, rooted}
use Rattle.xf_def_machine.specs.Flow.{◌>>=◌, in_turn}
use Rattle.xf_def_machine.specs.Primitives.{grown, over_made}
use Rattle.xf_def_machine.specs.Profile.{Profile}
use Rattle.xf_def_machine.specs.Refusal.{Refused, unless_passed}
use Rattle.xf_def_machine.specs.State.{State}
use Rattle.xf_def_machine.specs.declared.limit.LimitWord.{LimitWord}
use Rattle.xf_law_machine.proofs.RestLemmas.Holds.{Held}

abbrev Document : Type 0
Document = List (ℕ × Content)

-- all stand below the first
abbrev pub AllBelow : Document → Type 0
AllBelow [] = Unit {0}
AllBelow (p ∷ ps) = (1 ≤ p.0) × AllBelow ps

abbrev pub IsTree : Document → Type 0
IsTree [] = ⊥
IsTree (p ∷ ps) = (p.0 ≡ 0) × AllBelow ps

-- ---- a tree that came goes as one

self : (n : ℕ) → (n == n) ≡ true
self n = grind (arith, nat_tests)

deeper : (k : ℕ) → 1 ≤ k → nat_lt 0 k ≡ true
deeper k h = grind (arith, nat_tests, h)

none-past : (n : ℕ) (ps : Document) → AllBelow ps → past 0 (numbered_from n ps) ≡ []
none-past n [] h = refl
none-past n (p ∷ ps) h = ap (λ b. cond b (past 0 (numbered_from (suc n) ps)) (record { number = n; depth = p.0; content = p.1 } ∷ numbered_from (suc n) ps)) (deeper p.0 h.0) ∙ none-past (suc n) ps h.1

all-below : (n : ℕ) (ps : Document) → AllBelow ps → below 0 (numbered_from n ps) ≡ numbered_from n ps
all-below n [] h = refl
all-below n (p ∷ ps) h =
    ap (λ b. cond b (record { number = n; depth = p.0; content = p.1 } ∷ below 0 (numbered_from (suc n) ps)) []) (deeper p.0 h.0)
    ∙ ap (λ l. record { number = n; depth = p.0; content = p.1 } ∷ l) (all-below (suc n) ps h.1)

none-without : (n : ℕ) (d : Document) → IsTree d → without_tree n (numbered_from n d) ≡ []
none-without n [] h = absurd h
none-without n (p ∷ ps) h =
    ap (λ b. cond b (past p.0 (numbered_from (suc n) ps)) (record { number = n; depth = p.0; content = p.1 } ∷ without_tree n (numbered_from (suc n) ps))) (self n)
    ∙ ap (λ k. past k (numbered_from (suc n) ps)) h.0 ∙ none-past (suc n) ps h.1

from-behind : (n : ℕ) (xs ys : List Node) → has_number n xs ≡ false → from_node n (xs ++ ys) ≡ from_node n ys
from-behind n [] ys h = refl
from-behind n (x ∷ xs) ys h = let ps = or-false (x.number == n) (has_number n xs) h in ap (λ b. cond b (x ∷ xs ++ ys) (from_node n (xs ++ ys))) ps.0 ∙ from-behind n xs ys ps.1

whole-tree : (n : ℕ) (d : Document) → IsTree d → first_tree (from_node n (numbered_from n d)) ≡ numbered_from n d
whole-tree n [] h = absurd h
whole-tree n (p ∷ ps) h =
    ap (λ b. first_tree (cond b (numbered_from n (p ∷ ps)) (from_node n (numbered_from (suc n) ps)))) (self n)
    ∙ ap (λ k. record { number = n; depth = p.0; content = p.1 } ∷ below k (numbered_from (suc n) ps)) h.0
    ∙ ap (λ l. record { number = n; depth = p.0; content = p.1 } ∷ l) (all-below (suc n) ps h.1)

-- ---- no detached tree is left

all-instances : (xs : List Node) → in_detached xs ≡ [] → in_instances xs ≡ xs
all-instances [] e = refl
all-instances (x ∷ xs) e = by (all-instances xs) (is_detached_top x) e
  where
    by : (in_detached xs ≡ [] → in_instances xs ≡ xs) → (b : Bool) → cond b (x ∷ xs) (in_detached xs) ≡ [] → cond b [] (x ∷ in_instances xs) ≡ x ∷ xs
    by later true i = cc i
    by later false i = ap (λ l. x ∷ l) (later i)

detached-behind : (xs ys : List Node) → in_detached xs ≡ [] → in_detached (xs ++ ys) ≡ in_detached ys
detached-behind [] ys e = refl
detached-behind (x ∷ xs) ys e = by (detached-behind xs ys) (is_detached_top x) e
  where
    by : (in_detached xs ≡ [] → in_detached (xs ++ ys) ≡ in_detached ys) → (b : Bool) → cond b (x ∷ xs) (in_detached xs) ≡ [] → cond b (x ∷ xs ++ ys) (in_detached (xs ++ ys)) ≡ in_detached ys
    by later true i = cc i
    by later false i = later i

not-top : (k : ℕ) (b : Bool) → 1 ≤ k → ((k == 0) && b) ≡ false
not-top k b h = let e : (k == 0) ≡ false = grind (arith, nat_tests, h) in ap (λ c. c && b) e

none-shifted : (from : ℕ) (xs : List Node) → in_detached (map (shifted from 1) xs) ≡ []
none-shifted from [] = refl
none-shifted from (x ∷ xs) =
    let h : 1 ≤ 1 + (x.depth - from) = omega arith in
    ap (λ b. cond b (shifted from 1 x ∷ map (shifted from 1) xs) (in_detached (map (shifted from 1) xs))) (not-top (1 + (x.depth - from)) (not (is_root x.content)) h) ∙ none-shifted from xs

none-moved : (xs : List Node) → in_detached (moved_to 1 xs) ≡ []
none-moved [] = refl
none-moved (x ∷ xs) = none-shifted x.depth (x ∷ xs)

-- ---- under its root

abbrev pub under_root : ℕ → Document → List Node
under_root from d = record { number = from + length d; depth = 0; content = Root } ∷ moved_to 1 (numbered_from from d)

abbrev with_new : Document → Forest → Forest
with_new d before = record { nodes = before.nodes ++ numbered_from before.next d; next = before.next + length d }

rooted-nodes : (d : Document) (before : Forest) → IsTree d → in_detached before.nodes ≡ [] → has_number before.next before.nodes ≡ false
    → (with_root before.next (with_new d before)).1.nodes ≡ before.nodes ++ under_root before.next d
rooted-nodes d before is alone new =
    let tree = numbered_from before.next d in
    let rest : without_tree before.next (before.nodes ++ numbered_from before.next d) ≡ before.nodes =
    without-behind before.next before.nodes (numbered_from before.next d) new ∙ ap (λ l. before.nodes ++ l) (none-without before.next d is) ∙ append-nil before.nodes in
    let own : tree_of before.next (before.nodes ++ numbered_from before.next d) ≡ numbered_from before.next d =
    ap first_tree (from-behind before.next before.nodes (numbered_from before.next d) new) ∙ whole-tree before.next d is in
    ap (λ l. (in_instances l ++ (record { number = before.next + length d; depth = 0; content = Root } ∷ moved_to 1 (tree_of before.next (before.nodes ++ tree)))) ++ in_detached l) rest
    ∙ ap (λ t. (in_instances before.nodes ++ (record { number = before.next + length d; depth = 0; content = Root } ∷ moved_to 1 t)) ++ in_detached before.nodes) own
    ∙ ap (λ l. (l ++ under_root before.next d) ++ in_detached before.nodes) (all-instances before.nodes alone)
    ∙ ap (λ l. (before.nodes ++ under_root before.next d) ++ l) alone
    ∙ append-nil (before.nodes ++ under_root before.next d)

-- ---- numbers

below-append : (m : ℕ) (xs ys : List Node) → are_below m xs ≡ true → are_below m ys ≡ true → are_below m (xs ++ ys) ≡ true
below-append m [] ys h k = k
below-append m (x ∷ xs) ys h k = by (nat_lt x.number m) h (λ i. below-append m xs ys i k)
  where
    by : (b : Bool) → (b && are_below m xs) ≡ true → (are_below m xs ≡ true → are_below m (xs ++ ys) ≡ true) → (b && are_below m (xs ++ ys)) ≡ true
    by true i later = later i
    by false i later = i

below-more : (m k : ℕ) (xs : List Node) → m ≤ k → are_below m xs ≡ true → are_below k xs ≡ true
below-more m k [] h i = refl
below-more m k (x ∷ xs) h i = by (nat_lt x.number m) refl i (below-more m k xs h)
  where
    more : nat_lt x.number m ≡ true → nat_lt x.number k ≡ true
    more j = grind (arith, nat_tests, h, j)

    by : (b : Bool) → nat_lt x.number m ≡ b → (b && are_below m xs) ≡ true → (are_below m xs ≡ true → are_below k xs ≡ true) → (nat_lt x.number k && are_below k xs) ≡ true
    by true j l later = ap (λ c. c && are_below k xs) (more j) ∙ later l
    by false j l later = cc l

numbered-below : (n m : ℕ) (d : Document) → n + length d ≤ m → are_below m (numbered_from n d) ≡ true
numbered-below n m [] h = refl
numbered-below n m (p ∷ ps) h =
    let one : nat_lt n m ≡ true = grind (arith, nat_tests, h) in
    ap (λ c. c && are_below m (numbered_from (suc n) ps)) one ∙ numbered-below (suc n) m ps (omega (arith, h))

shifted-below : (m from : ℕ) (xs : List Node) → are_below m (map (shifted from 1) xs) ≡ are_below m xs
shifted-below m from [] = refl
shifted-below m from (x ∷ xs) = ap (λ c. nat_lt x.number m && c) (shifted-below m from xs)

moved-below : (m : ℕ) (xs : List Node) → are_below m (moved_to 1 xs) ≡ are_below m xs
moved-below m [] = refl
moved-below m (x ∷ xs) = shifted-below m x.depth (x ∷ xs)

-- ---- the planting of all documents

-- what is so of the nodes that stand, and stays so where a document comes under its root
module _ (P : List Node → Type 0) (IsOne : Document → Type 0) (tree : (d : Document) → IsOne d → IsTree d) (come : (d : Document) (nodes : List Node) (from : ℕ) → IsOne d → P nodes → P (nodes ++ under_root from d)) (p : Profile) where
  pub record Stands (s : State) : Type 0 where
    pub alone : in_detached s.forest.nodes ≡ []
    pub below : are_below s.forest.next s.forest.nodes ≡ true
    pub nodes : P s.forest.nodes

  abbrev pub AllOne : List Document → Type 0
  AllOne [] = Unit {0}
  AllOne (d ∷ ds) = IsOne d × AllOne ds

  stands-rooted : (d : Document) (s : State) (made : ℕ) → IsOne d → Stands s → Stands (record s { forest = (with_root s.forest.next (with_new d s.forest)).1; made = made })
  stands-rooted d s made one h =
      let n = s.forest.next in
      let fresh : has_number s.forest.next s.forest.nodes ≡ false = fresh-nodes s.forest.next s.forest.next s.forest.nodes (omega arith) h.below in
      let is = rooted-nodes d s.forest (tree d one) h.alone fresh in
      let last : nat_lt (n + length d) (suc (n + length d)) ≡ true = grind (arith, nat_tests) in
      record {
        alone = ap in_detached is ∙ detached-behind s.forest.nodes (under_root n d) h.alone ∙ none-moved (numbered_from n d);
        below = ap (are_below (suc (n + length d))) is
            ∙ below-append (suc (n + length d)) s.forest.nodes (under_root n d) (below-more n (suc (n + length d)) s.forest.nodes (omega arith) h.below)
            (ap (λ c. c && are_below (suc (n + length d)) (moved_to 1 (numbered_from n d))) last ∙ moved-below (suc (n + length d)) (numbered_from n d) ∙ numbered-below n (suc (n + length d)) d (omega arith));
        nodes = subst P (sym is) (come d s.forest.nodes n one h.nodes);
      }

  document-stands : (d : Document) (s : State) → IsOne d → Stands s → Held Stands (plant_document p d s)
  document-stands d s one h = fits (passed_by_tree p.bounds.limits (numbered_from s.forest.next d) (s.forest.nodes ++ numbered_from s.forest.next d))
    where
      made : (words : List LimitWord) → Held Stands (rooted (unless_passed s words ((s.forest.next, with_new d s.forest), record s { made = s.made + length d })))
      made [] = stands-rooted d s (s.made + length d) one h
      made (w ∷ ws) = tt

      fits : (o : Option TreeFault) → Held Stands (rooted (grown p (length d) (unless {X = ℕ × Forest} o (s.forest.next, with_new d s.forest)) s))
      fits (Some f) = tt
      fits None = made (over_made p (s.made + length d))

  pub all-stand : (ds : List Document) (s : State) → AllOne ds → Stands s → Held Stands (in_turn (plant_document p) ds s)
  all-stand [] s one h = h
  all-stand (d ∷ ds) s one h = by (plant_document p d s) (document-stands d s one.0 h) (λ t. all-stand ds t one.1)
    where
      by : (r : Result State Refused) → Held Stands r → ((t : State) → Stands t → Held Stands (in_turn (plant_document p) ds t)) → Held Stands (r >>= in_turn (plant_document p) ds)
      by (Err e) i later = tt
      by (Ok t) i later = later t i

-- What the rows keep is what the list of nodes needs to be that of trees.
use Rattle.std.proofs.Common.{◌≡◌, ℕ, suc, ◌+◌, ◌<◌, ◌≤◌, ◌==◌, ◌&&◌, ◌||◌, not, Bool, true, false, if◌then◌else◌, List, [], ◌∷◌, map, nat_lt, refl, sym, ap, ◌∙◌, subst, inl, inr, arith}
use Rattle.std.specs.Prelude.{nat_le}
use Rattle.std.specs.List.{list_any, list_all}
use Rattle.std.proofs.lemmas.Bool.{cases_Bool, cases_lt}
use Rattle.std.proofs.lemmas.Bool.Decides.{nat_tests}
use Rattle.slab.specs.Slab.{Slab}
use Rattle.xf_def_forest.specs.declared.content.Node.{Node}
use Rattle.xf_def_forest.specs.declared.content.Content.{Content}
use Rattle.xf_def_forest.specs.declared.content.Content.TheVariants.{Root, Element, Attribute, Text}
use Rattle.xf_def_forest.specs.Forest.{has_number, is_root, is_element, is_attribute, is_text}
use Rattle.xf_def_forest.specs.Texts.{KeptText}
use Rattle.xf_def_forest.specs.WellFormed.{are_below, are_depths_from, are_first, are_tops, are_kept_apart, AreTrees}
use Rattle.xf_tree_rows.specs.declared.rows.Row.{Row}
use Rattle.xf_tree_rows.specs.Rows.{AreSteps}
use Rattle.xf_tree_rows.proofs.SizedLemmas.{lt-true}
use Rattle.xf_tree_contents.specs.Slot.{Slot}
use Rattle.xf_tree_contents.specs.Keys.{kept_of, kept_times}
use Rattle.xf_tree_contents.proofs.AlikeLemmas.{eq-true}
use Rattle.xf_tree_walks.specs.First.{attribute_depth, AreFirst}
use Rattle.xf_tree_walks.specs.Leaves.{is_leaf, parts_in, NotDeeper, AreLeaves}
use Rattle.xf_tree_walks.specs.Nodes.{node_of, times, AllTops}
use Rattle.xf_tree_walks.proofs.KidLemmas.{node_depths}
use Rattle.xf_tree_walks.proofs.NodeLemmas.{eq-false}
use Rattle.xf_tree.specs.State.{keeping_of, IsSound}
use Rattle.xf_tree.proofs.AboveLemmas.{depths-of}
use Rattle.xf_tree.proofs.ApartLemmas.{none-has, once-apart}

-- ---- numbers

here : (n : ℕ) → (n == n) ≡ true
here n = eq-true n n refl

-- no number from the next one on is there
fresh-below : (next : ℕ) (xs : List Node) → ((n : ℕ) → next ≤ n → times n xs ≡ 0) → are_below next xs ≡ true
fresh-below next [] fresh = refl
fresh-below next (x ∷ xs) fresh = elim (cases_lt x.number next) [
  | inl l ↦ rw (lt-true x.number next l) (fresh-below next xs (λ n h. let none = fresh n h in omega (arith, none)))
  | inr l ↦ absurd (let none : 1 + times x.number xs ≡ 0 = rw (here x.number) at (fresh x.number l) in omega (arith, none))
]

kept-below : (next : ℕ) (ts : List KeptText) → ((n : ℕ) → next ≤ n → kept_times n ts ≡ 0) → list_all (λ t. nat_lt t.number next) ts ≡ true
kept-below next [] fresh = refl
kept-below next (t ∷ ts) fresh = elim (cases_lt t.number next) [
  | inl l ↦ rw (lt-true t.number next l) (kept-below next ts (λ n h. let none = fresh n h in omega (arith, none)))
  | inr l ↦ absurd (let none : 1 + kept_times t.number ts ≡ 0 = rw (here t.number) at (fresh t.number l) in omega (arith, none))
]

-- no number of a kept text is there twice, or stands in the forest
none-kept : (n : ℕ) (ts : List KeptText) → kept_times n ts ≡ 0 → list_any (λ t. t.number == n) ts ≡ false
none-kept n [] h = refl
none-kept n (t ∷ ts) h = elim (cases_Bool (t.number == n)) [
  | inl e ↦ absurd (let one : 1 + kept_times n ts ≡ 0 = rw e at h in omega (arith, one))
  | inr e ↦ let rest : 0 + kept_times n ts ≡ 0 = rw e at h in rw e (none-kept n ts (omega (arith, rest)))
]

kept-apart : (ts : List KeptText) → ((n : ℕ) → kept_times n ts ≤ 1) → are_kept_apart ts ≡ true
kept-apart [] once = refl
kept-apart (t ∷ ts) once =
    let one : 1 + kept_times t.number ts ≤ 1 = rw (here t.number) at (once t.number) in
    rw (none-kept t.number ts (omega (arith, one))) (kept-apart ts (λ n. let g = once n in omega (arith, g)))

kept-outside : (xs : List Node) (ts : List KeptText) → ((n : ℕ) → times n xs + kept_times n ts ≤ 1) → list_any (λ t. has_number t.number xs) ts ≡ false
kept-outside xs [] once = refl
kept-outside xs (t ∷ ts) once =
    let one : times t.number xs + (1 + kept_times t.number ts) ≤ 1 = rw (here t.number) at (once t.number) in
    rw (none-has t.number xs (omega (arith, one))) (kept-outside xs ts (λ n. let g = once n in omega (arith, g)))

-- ---- depths

leaf-is : (c : Content) → (is_attribute c || is_text c) ≡ is_leaf c
leaf-is Root = refl
leaf-is (Element name) = refl
leaf-is (Attribute name text) = refl
leaf-is (Text text) = refl

lower : (d most : ℕ) (ys : List Node) → NotDeeper d (parts_in ys) → AreSteps most (node_depths ys) → AreSteps d (node_depths ys)
lower d most [] h steps = tt
lower d most (y ∷ ys) h steps = (h, steps.1)

le-true : (m n : ℕ) → m ≤ n → nat_le m n ≡ true
le-true m n h = grind (arith, nat_tests, h)

steps-depths : (most : ℕ) (xs : List Node) → AreSteps most (node_depths xs) → AreLeaves (parts_in xs) → are_depths_from most xs ≡ true
steps-depths most [] steps leaves = refl
steps-depths most (x ∷ xs) steps leaves =
    rw (le-true x.depth most steps.0) (ap (λ b. are_depths_from (if b then x.depth else suc x.depth) xs) (leaf-is x.content) ∙ elim (cases_Bool (is_leaf x.content)) [
      | inl leaf ↦ rw leaf (steps-depths x.depth xs (lower x.depth (suc x.depth) xs (leaves.0 leaf) steps.1) leaves.1)
      | inr other ↦ rw other (steps-depths (suc x.depth) xs steps.1 leaves.1)
    ])

-- ---- roots and attributes

all-tops : (xs : List Node) → AllTops xs → are_tops xs ≡ true
all-tops [] tops = refl
all-tops (x ∷ xs) tops = elim (cases_Bool (is_root x.content)) [
  | inl is ↦ rw (is, eq-true x.depth 0 (tops.0 is)) (all-tops xs tops.1)
  | inr other ↦ rw other (all-tops xs tops.1)
]

stands : (c : Content) (d e : ℕ) (b : Bool) → (b ≡ true → 0 < e → e ≡ attribute_depth d c) → (not b || (e == 0) || (is_element c && (suc d == e)) || (is_attribute c && (d == e))) ≡ true
stands c d e false may = refl
stands c d e true may = elim (cases_lt 0 e) [
  | inl pos ↦ rw (eq-false e 0 (λ top. let w : ⊥ = omega arith in w)) (by c pos (may refl pos))
  | inr l ↦ let top : e ≡ 0 = omega arith in rw (eq-true e 0 top) refl
]
  where
    by : (c : Content) → 0 < e → e ≡ attribute_depth d c → ((is_element c && (suc d == e)) || (is_attribute c && (d == e))) ≡ true
    by Root pos is = absurd (omega arith)
    by (Element name) pos is = rw (eq-true (suc d) e (sym is)) refl
    by (Attribute name text) pos is = rw (eq-true d e (sym is)) refl
    by (Text text) pos is = absurd (omega arith)

first-are : (d : ℕ) (xs : List Node) → AreFirst d (parts_in xs) → are_first xs ≡ true
first-are d [] first = refl
first-are d (x ∷ []) first = refl
first-are d (x ∷ (y ∷ ys)) first =
    rw (stands x.content x.depth y.depth (is_attribute y.content) first.1.0) (first-are (attribute_depth x.depth x.content) (y ∷ ys) first.1)

-- ---- all of it

pub sound-trees : (s : Slab Slot) (rows : List Row) (kept : List ℕ) (next : ℕ) → IsSound s rows kept next → AreTrees (keeping_of s rows kept next)
sound-trees s rows kept next sound =
    let nodes = map (node_of s) rows in
    let texts = map (kept_of s) kept in
    record {
      apart = once-apart nodes (λ n. let once = sound.apart n in omega (arith, once));
      below = fresh-below next nodes (λ n h. let none = sound.fresh n h in omega (arith, none));
      depths = steps-depths 0 nodes (subst (AreSteps 0) (sym (depths-of s rows)) sound.steps) sound.leaves;
      tops = all-tops nodes sound.tops;
      first = first-are 0 nodes sound.first;
      kept_apart = kept-apart texts (λ n. let once = sound.apart n in omega (arith, once));
      kept_outside = kept-outside nodes texts sound.apart;
      kept_below = kept-below next texts (λ n h. let none = sound.fresh n h in omega (arith, none));
    }

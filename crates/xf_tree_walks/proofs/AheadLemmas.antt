-- Walks over attributes: they stand first, so none comes behind what is none.
use Rattle.std.proofs.Common.{◌≡◌, ℕ, suc, ◌+◌, ◌<◌, ◌≤◌, ◌==◌, ◌&&◌, Bool, true, false, cond, List, [], ◌∷◌, ◌++◌, map, length, take, drop, get_or, refl, sym, ap, ◌∙◌, subst, inl, inr, arith}
use Rattle.std.specs.Prelude.{filter}
use Rattle.std.proofs.lemmas.Bool.{cases_Bool, cases_lt, true≢false, and_parts}
use Rattle.std.proofs.lemmas.List.{take-append-drop, map-append}
use Rattle.slab.specs.Slab.{Slab, get}
use Rattle.xf_def_forest.specs.declared.content.Content.{Content}
use Rattle.xf_def_forest.specs.declared.content.Content.TheVariants.{Root, Element, Attribute, Text}
use Rattle.xf_def_forest.specs.Forest.{is_attribute, name_in}
use Rattle.xf_def_forest.specs.Visit.{numbers}
use Rattle.xf_def_forest.specs.Plant.{is_less, written_of}
use Rattle.xf_def_forest.specs.WellFormed.{have_same_name}
use Rattle.xf_tree_rows.specs.declared.rows.Row.{Row}
use Rattle.xf_tree_rows.specs.Rows.{deeper, no_row}
use Rattle.xf_tree_rows.proofs.SizedLemmas.{lt-true, lt-false}
use Rattle.xf_tree_rows.proofs.RowLemmas.{split-at}
use Rattle.xf_tree_contents.specs.Slot.{Slot}
use Rattle.xf_tree_contents.specs.Keys.{content_in}
use Rattle.xf_tree_contents.proofs.AlikeLemmas.{eq-true}
use Rattle.xf_tree_walks.specs.Leaves.{parts_in}
use Rattle.xf_tree_walks.specs.First.{attribute_depth, AreFirst}
use Rattle.xf_tree_walks.specs.Kids.{is_kid, is_attribute_like, is_lesser_attribute, kids_in}
use Rattle.xf_tree_walks.specs.Nodes.{node_of}
use Rattle.xf_tree_walks.specs.Walks.{attributes_ahead}
use Rattle.xf_tree_walks.proofs.NodeLemmas.{eq-false, eq-is}
use Rattle.xf_tree_walks.proofs.CountLemmas.{count-cons}
use Rattle.xf_tree_walks.proofs.LeafLemmas.{parts-append}
use Rattle.xf_tree_walks.proofs.FirstLemmas.{first-parts}
use Rattle.xf_tree_walks.proofs.KidLemmas.{filtered-length}

-- where attributes stand behind a row
pub later-first : (s : Slab Slot) (at : ℕ) (rows : List Row) → at < length rows → AreFirst 0 (parts_in (map (node_of s) rows))
    → AreFirst (attribute_depth (get_or rows at no_row).depth (content_in (get s (get_or rows at no_row).key))) (parts_in (map (node_of s) (drop (at + 1) rows)))
later-first s at rows h first =
    let f = node_of s in
    let us = map f (take at rows) in
    let later = map f (get_or rows at no_row ∷ drop (at + 1) rows) in
    let whole : parts_in (map f rows) ≡ parts_in us ++ parts_in later =
    ap (λ l. parts_in (map f l)) (sym (take-append-drop at rows) ∙ ap (λ l. take at rows ++ l) (split-at at rows no_row h)) ∙ ap parts_in (map-append f (take at rows) (get_or rows at no_row ∷ drop (at + 1) rows)) ∙ parts-append us later in
    (first-parts 0 (parts_in us) (parts_in later) (subst (AreFirst 0) whole first)).1.1

-- behind what is no attribute of an element, but as deep, none of the element's stands
other-behind : (e n : ℕ) (c : Content) → e ≤ n → 0 < e → ((n == e) && is_attribute c) ≡ false → attribute_depth n c ≡ e → ⊥
other-behind e n Root h pos other is = omega arith
other-behind e n (Element name) h pos other is = omega arith
other-behind e n (Attribute name text) h pos other is = true≢false (rw (eq-true n e is) at other)
other-behind e n (Text text) h pos other is = omega arith

kept-out : (q : Content → Bool) → ((c : Content) → q c ≡ true → is_attribute c ≡ true) → (b : Bool) (c : Content) → (b && is_attribute c) ≡ false → (b && q c) ≡ false
kept-out q only false c other = refl
kept-out q only true c other = elim (cases_Bool (q c)) [ inl is ↦ absurd (true≢false (sym (only c is) ∙ other)) | inr no_q ↦ no_q ]

-- nor does any later in the element's tree
none-later : (s : Slab Slot) (q : Content → Bool) → ((c : Content) → q c ≡ true → is_attribute c ≡ true) → (d p : ℕ) (xs : List Row) → (p ≡ suc d → ⊥) → AreFirst p (parts_in (map (node_of s) xs))
    → filter (is_kid q (suc d)) (map (node_of s) (take (deeper d xs) xs)) ≡ []
none-later s q only d p [] none a = refl
none-later s q only d p (x ∷ xs) none a =
    let c = content_in (get s x.key) in
    elim (cases_lt d x.depth) [
      | inl l ↦ elim (cases_Bool ((x.depth == suc d) && is_attribute c)) [
        | inl is ↦
            absurd (
            let both = and_parts (x.depth == suc d) (is_attribute c) is in
            let depth = eq-is x.depth (suc d) both.0 in
            let pos : 0 < x.depth = omega arith in
            none (sym (a.0 both.1 pos) ∙ depth)
            )
        | inr other ↦
            let pos : 0 < suc d = omega arith in
            rw (lt-true d x.depth l, kept-out q only (x.depth == suc d) c other)
            (none-later s q only d (attribute_depth x.depth c) xs (other-behind (suc d) x.depth c l pos other) a.1)
      ]
      | inr l ↦ rw (lt-false d x.depth l) refl
    ]

-- the attributes in an element's tree are those with which it begins
pub ahead-all : (s : Slab Slot) (d p : ℕ) (xs : List Row) → AreFirst p (parts_in (map (node_of s) xs))
    → filter (is_kid is_attribute (suc d)) (map (node_of s) (take (deeper d xs) xs)) ≡ attributes_ahead (suc d) (map (node_of s) xs)
ahead-all s d p [] a = refl
ahead-all s d p (x ∷ xs) a =
    let c = content_in (get s x.key) in
    elim (cases_lt d x.depth) [
      | inl l ↦ elim (cases_Bool ((x.depth == suc d) && is_attribute c)) [
        | inl is ↦ rw (lt-true d x.depth l, is) (ap (λ l. node_of s x ∷ l) (ahead-all s d (attribute_depth x.depth c) xs a.1))
        | inr other ↦
            let pos : 0 < suc d = omega arith in
            rw (lt-true d x.depth l, other) (none-later s is_attribute (λ c is. is) d (attribute_depth x.depth c) xs (other-behind (suc d) x.depth c l pos other) a.1)
      ]
      | inr l ↦ rw (lt-false d x.depth l, eq-false x.depth (suc d) (λ e. let w : ⊥ = omega arith in w)) refl
    ]

-- ---- those that meet a test

abbrev pub like_ahead : (Content → Bool) → Slab Slot → ℕ → ℕ → List Row → ℕ
like_ahead q s d at rows = kids_in q s (suc d) (take (deeper d (drop at rows)) (drop at rows))

pub like-only : (like c : Content) → is_attribute_like like c ≡ true → is_attribute c ≡ true
like-only like c is = (and_parts (is_attribute c) (have_same_name (name_in c) (name_in like)) is).0

pub lesser-only : (content c : Content) → is_lesser_attribute content c ≡ true → is_attribute c ≡ true
lesser-only content c is = (and_parts (is_attribute c) (is_less (written_of c) (written_of content)) is).0

-- none is ahead of what is no attribute
pub like-stop : (s : Slab Slot) (q : Content → Bool) → ((c : Content) → q c ≡ true → is_attribute c ≡ true) → (d at : ℕ) (rows : List Row) → at < length rows → AreFirst 0 (parts_in (map (node_of s) rows))
    → is_kid is_attribute (suc d) (node_of s (get_or rows at no_row)) ≡ false → like_ahead q s d at rows ≡ 0
like-stop s q only d at rows h first other =
    let x = get_or rows at no_row in
    let xs = drop (at + 1) rows in
    let c = content_in (get s x.key) in
    ap (λ r. kids_in q s (suc d) (take (deeper d r) r)) (split-at at rows no_row h) ∙ elim (cases_lt d x.depth) [
      | inl l ↦
          let pos : 0 < suc d = omega arith in
          let none = none-later s q only d (attribute_depth x.depth c) xs (other-behind (suc d) x.depth c l pos other) (later-first s at rows h first) in
          let rest : kids_in q s (suc d) (take (deeper d xs) xs) ≡ 0 = sym (filtered-length (is_kid q (suc d)) (map (node_of s) (take (deeper d xs) xs))) ∙ ap (λ l. length (numbers l)) none in
          rw (lt-true d x.depth l) (count-cons (is_kid q (suc d)) (node_of s x) (map (node_of s) (take (deeper d xs) xs)) ∙ rw (kept-out q only (x.depth == suc d) c other) (omega (arith, rest)))
      | inr l ↦ rw (lt-false d x.depth l) refl
    ]

-- from one attribute to the next
pub like-more : (s : Slab Slot) (q : Content → Bool) (d at : ℕ) (rows : List Row) → at < length rows → is_kid is_attribute (suc d) (node_of s (get_or rows at no_row)) ≡ true
    → like_ahead q s d at rows ≡ cond (q (content_in (get s (get_or rows at no_row).key))) 1 0 + like_ahead q s d (at + 1) rows
like-more s q d at rows h is =
    let x = get_or rows at no_row in
    let xs = drop (at + 1) rows in
    let c = content_in (get s x.key) in
    let same = (and_parts (x.depth == suc d) (is_attribute c) is).0 in
    let depth = eq-is x.depth (suc d) same in
    let l : d < x.depth = omega arith in
    ap (λ r. kids_in q s (suc d) (take (deeper d r) r)) (split-at at rows no_row h)
    ∙ rw (lt-true d x.depth l) (count-cons (is_kid q (suc d)) (node_of s x) (map (node_of s) (take (deeper d xs) xs)) ∙ rw same refl)

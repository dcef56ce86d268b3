-- Rows of attributes and of others: the steps of loops over them.
use Rattle.std.proofs.Common.{◌≡◌, ℕ, ◌+◌, ◌-◌, ◌<◌, ◌≤◌, ◌==◌, ◌||◌, cond, if◌then◌else◌, Bool, true, false, List, [], ◌∷◌, ◌++◌, map, length, take, drop, get_or, Option, Some, None, refl, sym, ap, ◌∙◌, inl, inr, arith, append-nil, length-drop}
use Rattle.std.specs.Prelude.{filter, option_map}
use Rattle.std.proofs.lemmas.Bool.{cases_Bool}
use Rattle.std.proofs.lemmas.List.{map-append, get_or-drop, drop-drop}
use Rattle.std.proofs.lemmas.List.Elements.{filter_more}
use Rattle.std.proofs.lemmas.List.Folds.{list_any-append}
use Rattle.slab.specs.Slab.{Slab, get, Updates}
use Rattle.xf_def_forest.specs.Forest.{is_attribute}
use Rattle.xf_tree_rows.specs.declared.rows.Row.{Row}
use Rattle.xf_tree_rows.specs.Rows.{no_row}
use Rattle.xf_tree_rows.proofs.RowLemmas.{split-at}
use Rattle.xf_tree_contents.specs.Slot.{Slot}
use Rattle.xf_tree_contents.specs.Keys.{number_in, content_in}
use Rattle.xf_tree_contents.specs.Slots.{owned_slot}
use Rattle.xf_tree_contents.proofs.AlikeLemmas.{eq-true}
use Rattle.xf_tree_contents.proofs.FreeLemmas.{same-key}
use Rattle.xf_tree_walks.specs.Nodes.{node_of, times, KeepsBut}
use Rattle.xf_tree_walks.proofs.NodeLemmas.{eq-false, times-append}
use Rattle.xf_tree_changes.specs.Texts.{is_attribute_row, attributes, has_key, owned_where, IsOwned}

pub filter-yes : {X : Type 0} (p : X → Bool) (xs : List X) (i : ℕ) (d : X) → i < length xs → p (get_or xs i d) ≡ true → filter p (take (i + 1) xs) ≡ filter p (take i xs) ++ (get_or xs i d ∷ [])
filter-yes p xs i d h e = filter_more p xs i d h ∙ ap (λ b. filter p (take i xs) ++ cond b (get_or xs i d ∷ []) []) e

pub filter-no : {X : Type 0} (p : X → Bool) (xs : List X) (i : ℕ) (d : X) → i < length xs → p (get_or xs i d) ≡ false → filter p (take (i + 1) xs) ≡ filter p (take i xs)
filter-no p xs i d h e = filter_more p xs i d h ∙ ap (λ b. filter p (take i xs) ++ cond b (get_or xs i d ∷ []) []) e ∙ append-nil (filter p (take i xs))

pub rest-yes : {X : Type 0} (p : X → Bool) (xs : List X) (i : ℕ) (d : X) → i < length xs → p (get_or xs i d) ≡ true → filter p (drop i xs) ≡ get_or xs i d ∷ filter p (drop (i + 1) xs)
rest-yes p xs i d h e = ap (filter p) (split-at i xs d h) ∙ rw e refl

pub rest-no : {X : Type 0} (p : X → Bool) (xs : List X) (i : ℕ) (d : X) → i < length xs → p (get_or xs i d) ≡ false → filter p (drop i xs) ≡ filter p (drop (i + 1) xs)
rest-no p xs i d h e = ap (filter p) (split-at i xs d h) ∙ rw e refl

-- ---- an owner for one slot more

pub owned-content : (b : Bool) (owner : ℕ) (o : Option Slot) → content_in (owned_where b owner o) ≡ content_in o
owned-content true owner None = refl
owned-content true owner (Some v) = refl
owned-content false owner o = refl

pub owned-number : (b : Bool) (owner : ℕ) (o : Option Slot) → number_in (owned_where b owner o) ≡ number_in o
owned-number true owner None = refl
owned-number true owner (Some v) = refl
owned-number false owner o = refl

owned-again : (b : Bool) (owner : ℕ) (o : Option Slot) → option_map (owned_slot owner) (owned_where b owner o) ≡ option_map (owned_slot owner) o
owned-again true owner None = refl
owned-again true owner (Some v) = refl
owned-again false owner o = refl

or-true : (b : Bool) → (b || true) ≡ true
or-true true = refl
or-true false = refl

or-none : (b : Bool) → (b || false) ≡ b
or-none true = refl
or-none false = refl

pub owned-more : (owner : ℕ) (keys : List ℕ) (k : ℕ) (s s1 s2 : Slab Slot) → IsOwned owner keys s s1 → Updates s1 s2 k (option_map (owned_slot owner) (get s1 k)) → IsOwned owner (keys ++ (k ∷ [])) s s2
owned-more owner keys k s s1 s2 owned up key =
    let one = list_any-append (λ (j : ℕ). j == key) keys (k ∷ []) in
    elim (same-key key k) [
      | inl ne ↦
          let no = eq-false k key (λ e. ne (sym e)) in
          let has : has_key key (keys ++ (k ∷ [])) ≡ has_key key keys = one ∙ rw no (or-none (has_key key keys)) in
          up.others key ne ∙ owned key ∙ ap (λ b. owned_where b owner (get s key)) (sym has)
      | inr e ↦
          let yes = eq-true k key (sym e) in
          let has : has_key key (keys ++ (k ∷ [])) ≡ true = one ∙ rw yes (or-true (has_key key keys)) in
          ap (get s2) e ∙ up.changed ∙ ap (option_map (owned_slot owner)) (owned k) ∙ owned-again (has_key k keys) owner (get s k)
          ∙ ap (λ j. option_map (owned_slot owner) (get s j)) (sym e) ∙ ap (λ b. owned_where b owner (get s key)) (sym has)
    ]

-- ---- slots emptied one after another

pub free-next : (s s1 s2 : Slab Slot) (rs : List Row) (x : Row) → KeepsBut s s1 (map (node_of s) rs) → Updates s1 s2 x.key None → KeepsBut s s2 (map (node_of s) (rs ++ (x ∷ [])))
free-next s s1 s2 rs x keeps up key none =
    let n = number_in (get s key) in
    let t = ap (times n) (map-append (node_of s) rs (x ∷ [])) ∙ times-append n (map (node_of s) rs) (node_of s x ∷ []) in
    elim (same-key key x.key) [
      | inl ne ↦ up.others key ne ∙ keeps key (omega arith)
      | inr e ↦ absurd (let one = ap {B = ℕ} (λ b. if b then 1 else 0) (eq-true (number_in (get s x.key)) n (ap (λ k. number_in (get s k)) (sym e))) in omega arith)
    ]

pub kinds-more : (s1 s2 : Slab Slot) (k key : ℕ) → is_attribute (content_in (get s1 k)) ≡ false → Updates s1 s2 k None → is_attribute (content_in (get s2 key)) ≡ is_attribute (content_in (get s1 key))
kinds-more s1 s2 k key none up = elim (same-key key k) [
  | inl ne ↦ ap (λ o. is_attribute (content_in o)) (up.others key ne)
  | inr e ↦ ap (λ j. is_attribute (content_in (get s2 j))) e ∙ ap (λ o. is_attribute (content_in o)) up.changed ∙ sym none ∙ ap (λ j. is_attribute (content_in (get s1 j))) (sym e)
]

pub filter-least : (s : Slab Slot) (p : Row → Bool) (n : ℕ) (rows : List Row) → times n (map (node_of s) (filter p rows)) ≤ times n (map (node_of s) rows)
filter-least s p n [] = omega arith
filter-least s p n (r ∷ rs) =
    let i = filter-least s p n rs in
    elim (cases_Bool (p r)) [ inl e ↦ rw e (omega (arith, i)) | inr e ↦ rw e (omega (arith, i)) ]

pub keeps-more : (s s1 : Slab Slot) (p : Row → Bool) (rows : List Row) → KeepsBut s s1 (map (node_of s) (filter p rows)) → KeepsBut s s1 (map (node_of s) rows)
keeps-more s s1 p rows keeps key none = keeps key (omega (arith, filter-least s p (number_in (get s key)) rows))

-- ---- attributes to the front

-- the row at a place, where the rows from there on are what they were
pub still-row : (rows old : List Row) (at : ℕ) (d : Row) → at < length old → drop at rows ≡ drop at old → get_or rows at d ≡ get_or old at d
still-row rows old at d h e =
    let z : at + 0 ≡ at = omega arith in
    ap (λ k. get_or rows k d) (sym z) ∙ sym (get_or-drop at rows 0 d) ∙ ap (λ l. get_or l 0 d) e ∙ get_or-drop at old 0 d ∙ ap (λ k. get_or old k d) z

module _ (s : Slab Slot) (old : List Row) (from at : ℕ) (first : from ≤ at) (within : at < length old) where
  part : List Row
  part = drop from old

  next : at + 1 - from ≡ (at - from) + 1
  next = omega arith

  row-is : get_or (drop from old) (at - from) no_row ≡ get_or old at no_row
  row-is = let sum : from + (at - from) ≡ at = omega arith in get_or-drop from old (at - from) no_row ∙ ap (λ k. get_or old k no_row) sum

  in-part : at - from < length (drop from old)
  in-part = omega (arith, length-drop from old)

  pub pack-no : is_attribute (content_in (get s (get_or old at no_row).key)) ≡ false → attributes s (take (at + 1 - from) (drop from old)) ≡ attributes s (take (at - from) (drop from old))
  pack-no e = ap (λ k. attributes s (take k (drop from old))) next ∙ filter-no (is_attribute_row s) (drop from old) (at - from) no_row in-part (ap (is_attribute_row s) row-is ∙ e)

  pub pack-yes : is_attribute (content_in (get s (get_or old at no_row).key)) ≡ true
      → attributes s (take (at + 1 - from) (drop from old)) ≡ attributes s (take (at - from) (drop from old)) ++ (get_or old at no_row ∷ [])
  pack-yes e =
      ap (λ k. attributes s (take k (drop from old))) next ∙ filter-yes (is_attribute_row s) (drop from old) (at - from) no_row in-part (ap (is_attribute_row s) row-is ∙ e)
      ∙ ap (λ r. attributes s (take (at - from) (drop from old)) ++ (r ∷ [])) row-is

pub drop-next : {X : Type 0} (at : ℕ) (xs ys : List X) → drop at xs ≡ drop at ys → drop (at + 1) xs ≡ drop (at + 1) ys
drop-next at xs ys e = sym (drop-drop 1 at xs) ∙ ap (drop 1) e ∙ drop-drop 1 at ys

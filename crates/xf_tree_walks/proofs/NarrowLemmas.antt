-- Where all that is sought in a range of rows stands in a part of it.
use Rattle.std.proofs.Common.{◌≡◌, ℕ, zero, suc, ◌+◌, ◌-◌, ◌<◌, ◌≤◌, ◌&&◌, true, false, List, [], ◌++◌, length, take, drop, get_or, refl, sym, ap, ◌∙◌, subst, inl, inr, arith}
use Rattle.std.proofs.lemmas.Bool.{cases_Bool, cases_lt}
use Rattle.std.proofs.lemmas.List.{drop-drop}
use Rattle.slab.specs.Slab.{Slab, get}
use Rattle.xf_name.specs.declared.qname.QName.{QName}
use Rattle.xf_def_forest.specs.declared.content.Content.{Content}
use Rattle.xf_def_forest.specs.declared.content.Node.{Node}
use Rattle.xf_def_forest.specs.Forest.{is_element, name_in}
use Rattle.xf_tree_rows.specs.declared.rows.Row.{Row}
use Rattle.xf_tree_rows.specs.Rows.{AllDeep, no_row}
use Rattle.xf_tree_contents.specs.declared.sought.Sought.{Sought}
use Rattle.xf_tree_contents.specs.Slot.{Slot}
use Rattle.xf_tree_contents.specs.Sought.{has_name, is_sought}
use Rattle.xf_tree_contents.specs.Keys.{number_in, content_in}
use Rattle.xf_tree_walks.specs.Found.{alone_where, is_kin_sought, sought_within}
use Rattle.xf_tree_walks.specs.Nodes.{node_of, is_kin}
use Rattle.xf_tree_walks.specs.Walks.{between, number_of_row, AreNodes}
use Rattle.xf_tree_walks.proofs.OrderLemmas.{two-places}
use Rattle.xf_tree_walks.proofs.SoughtLemmas.{and-first, and-second, rows-on, rows-passed, within-none}
use Rattle.xf_tree_walks.proofs.WalkLemmas.{between-first, between-none, deep-behind}

module _ (s : Slab Slot) (rows : List Row) (sought : Sought) (nodes : AreNodes s rows) where
  -- the node of the row at a place
  abbrev pub node_at_row : ℕ → Node
  node_at_row i = node_of s (get_or rows i no_row)

  -- none of so many rows is sought
  none-among : (depth from n end : ℕ) → from + n ≤ end → end ≤ length rows → ((i : ℕ) → from ≤ i → i < from + n → is_kin_sought depth sought (node_at_row i) ≡ false)
      → sought_within s rows sought (is_kin depth false) (from + n) end ≡ sought_within s rows sought (is_kin depth false) from end
  none-among depth from zero end h l none = let e : from + 0 ≡ from = omega arith in ap (λ k. sought_within s rows sought (is_kin depth false) k end) e
  none-among depth from (suc n) end h l none =
      let e : from + suc n ≡ (from + 1) + n = omega arith in
      let less : from < end = omega arith in
      let one : from < from + suc n = omega arith in
      ap (λ k. sought_within s rows sought (is_kin depth false) k end) e
      ∙ none-among depth (from + 1) n end (omega arith) l (λ i a b. none i (omega (arith, a)) (omega (arith, b)))
      ∙ rows-passed s rows sought nodes (is_kin depth false) from end less l (omega (arith, less, l)) (none from (omega arith) one)

  pub none-before : (depth at place end : ℕ) → at ≤ place → place ≤ end → end ≤ length rows → ((i : ℕ) → at ≤ i → i < place → is_kin_sought depth sought (node_at_row i) ≡ false)
      → sought_within s rows sought (is_kin depth false) place end ≡ sought_within s rows sought (is_kin depth false) at end
  none-before depth at place end h m l none =
      let e : place ≡ at + (place - at) = omega arith in
      ap (λ k. sought_within s rows sought (is_kin depth false) k end) e ∙ none-among depth at (place - at) end (omega (arith, h, m)) l (λ i a b. none i a (omega (arith, b, h)))

  -- but one of the rows
  pub none-but : (depth at place end : ℕ) → at ≤ place → place < end → end ≤ length rows
      → ((i : ℕ) → at ≤ i → i < end → (i ≡ place → ⊥) → is_kin_sought depth sought (node_at_row i) ≡ false)
      → sought_within s rows sought (is_kin depth false) place (place + 1) ≡ sought_within s rows sought (is_kin depth false) at end
  none-but depth at place end h m l none =
      let b = is_kin_sought depth sought (node_at_row place) in
      let one = number_of_row s rows place in
      let within : place < length rows = omega (arith, m, l) in
      let next : place < place + 1 = omega arith in
      let ahead = none-before depth at place end h (omega (arith, m)) l (λ i a less. none i a (omega (arith, less, m)) (λ e. omega (arith, less, e))) in
      let here = rows-on s rows sought nodes (is_kin depth false) place end b m l within refl in
      let behind : sought_within s rows sought (is_kin depth false) (place + 1) end ≡ [] =
      sym (none-before depth (place + 1) end end (omega (arith, m)) (omega arith) l (λ i a less. none i (omega (arith, a, h)) less (λ e. omega (arith, a, e)))) ∙ within-none s rows sought nodes (is_kin depth false) end end (omega arith) in
      let alone = rows-on s rows sought nodes (is_kin depth false) place (place + 1) b next (omega (arith, within)) within refl in
      let end_of_it : place + 1 ≤ place + 1 = omega arith in
      alone ∙ ap (λ ns. alone_where b one ++ ns) (within-none s rows sought nodes (is_kin depth false) (place + 1) (place + 1) end_of_it ∙ sym behind) ∙ sym here ∙ ahead

  named-key : (asked : QName) (depth i : ℕ) → ((content : Content) → is_sought sought content ≡ (is_element content && has_name asked (name_in content))) → is_kin_sought depth sought (node_at_row i) ≡ true
      → (is_element (content_in (get s (get_or rows i no_row).key)) ≡ true) × (has_name asked (name_in (content_in (get s (get_or rows i no_row).key))) ≡ true)
  named-key asked depth i means found =
      let content = content_in (get s (get_or rows i no_row).key) in
      let is = sym (means content) ∙ and-second s rows sought nodes (is_kin depth false (node_at_row i)) (is_sought sought content) found in
      (and-first s rows sought nodes (is_element content) (has_name asked (name_in content)) is, and-second s rows sought nodes (is_element content) (has_name asked (name_in content)) is)

  -- where no key has the name that is asked for
  pub none-named : (asked : QName) (depth i : ℕ) → ((content : Content) → is_sought sought content ≡ (is_element content && has_name asked (name_in content)))
      → ((key : ℕ) → is_element (content_in (get s key)) ≡ true → has_name asked (name_in (content_in (get s key))) ≡ true → ⊥) → is_kin_sought depth sought (node_at_row i) ≡ false
  none-named asked depth i means none = elim (cases_Bool (is_kin_sought depth sought (node_at_row i))) [
    | inl found ↦ let has = named-key asked depth i means found in absurd (none (get_or rows i no_row).key has.0 has.1)
    | inr passed ↦ passed
  ]

  -- a row that is not the only one with the name that is asked for is not sought
  pub another : (asked : QName) (depth place i : ℕ) → ((content : Content) → is_sought sought content ≡ (is_element content && has_name asked (name_in content)))
      → ((key : ℕ) → is_element (content_in (get s key)) ≡ true → has_name asked (name_in (content_in (get s key))) ≡ true → (get_or rows place no_row).key ≡ key)
      → i < length rows → place < length rows → (i ≡ place → ⊥) → is_kin_sought depth sought (node_at_row i) ≡ false
  another asked depth place i means only within there other = elim (cases_Bool (is_kin_sought depth sought (node_at_row i))) [
    | inl found ↦
        let has = named-key asked depth i means found in
        let same = only (get_or rows i no_row).key has.0 has.1 in
        let n = number_of_row s rows i in
        let number : number_of_row s rows place ≡ n = ap (λ k. number_in (get s k)) same in
        absurd (elim (cases_lt i place) [
          | inl less ↦ two-places s rows n i place (nodes.apart n) (record { within = within; number = refl }) (record { within = there; number = number }) less
          | inr more ↦ two-places s rows n place i (nodes.apart n) (record { within = there; number = number }) (record { within = within; number = refl }) (omega (arith, more, other))
        ])
    | inr passed ↦ passed
  ]

-- a row alone of a range that is deep
pub deep-alone : (depth at place end : ℕ) (rows : List Row) → at ≤ place → place < end → end ≤ length rows → AllDeep depth (between at end rows) → AllDeep depth (between place (place + 1) rows)
deep-alone depth at place end rows h m l deep =
    let k = place - at in
    let left : end - at - k ≡ end - place = omega arith in
    let sum : at + k ≡ place = omega arith in
    let from : AllDeep depth (between place end rows) =
    subst (AllDeep depth) (ap (λ n. take n (drop k (drop at rows))) left ∙ ap (take (end - place)) (drop-drop k at rows ∙ ap (λ n. drop n rows) sum)) (deep-behind depth (end - at) k (drop at rows) deep) in
    let first = subst (AllDeep depth) (between-first place end rows m l) from in
    let next : place < place + 1 = omega arith in
    let last : place + 1 ≤ length rows = omega (arith, m, l) in
    let none : place + 1 ≤ place + 1 = omega arith in
    subst (AllDeep depth) (sym (between-first place (place + 1) rows next last)) (first.0, subst (AllDeep depth) (sym (between-none (place + 1) (place + 1) rows none)) tt)

-- One turn of a loop over nodes: what is gathered, with what the nodes that are left give, is what all of them give.
use Rattle.std.proofs.Common.{◌≡◌, ℕ, zero, suc, ◌+◌, ◌-◌, ◌<◌, ◌≤◌, ◌==◌, Bool, true, false, cond, ◌&&◌, List, [], ◌∷◌, ◌++◌, map, drop, get_or, length, Option, Some, None, refl, sym, ap, ◌∙◌, arith, append_assoc}
use Rattle.std.proofs.lemmas.List.{drop_all, drop_more}
use Rattle.indexmap.specs.IndexSet.{insert_key}
use Rattle.xf_def_forest.specs.declared.content.Content.{Content}
use Rattle.xf_def_forest.specs.declared.node.NodeId.{NodeId}
use Rattle.xf_def_forest.specs.Forest.{is_attribute, is_element}
use Rattle.xf_def_forest.specs.Visit.{Visit}
use Rattle.xf_def_forest.specs.WellFormed.{have_same_name}
use Rattle.xf_def_model.specs.Places as model
use Rattle.xf_def_model.specs.Places.{is_in, name_of, named_place, row_place, within}
use Rattle.xf_def_model.specs.Taken.{taken_from}
use Rattle.xf_actions.specs.Seen.{place_of}
use Rattle.xf_actions.specs.declared.place.Place.{Place}
use Rattle.xf_insert.specs.Numbers.{numbers}
use Rattle.xf_insert.specs.Placing.{among, copy_of, first_named, is_alike, next_of}
use Rattle.xf_insert.specs.Taking.{may_take}
use Rattle.xf_insert.proofs.DeleteLaws.{inserted-alike, taken-alike}

append-none : {X : Type 0} (xs : List X) → xs ++ [] ≡ xs
append-none [] = refl
append-none (x ∷ xs) = ap (λ l. x ∷ l) (append-none xs)

left : (ns : List NodeId) (i : ℕ) (d : NodeId) → i < length ns → numbers (drop i ns) ≡ (get_or ns i d).number ∷ numbers (drop (i + 1) ns)
left ns i d h = ap numbers (drop_more ns i d h)

none-left : (ns : List NodeId) (i : ℕ) → length ns ≤ i → numbers (drop i ns) ≡ []
none-left ns i h = ap numbers (drop_all i ns h)

-- ---- those of a kind

module _ (test : Content → Bool) (all : List Visit) where
  among-one : (n : ℕ) (ns : List ℕ) → among test all (n ∷ ns) ≡ among test all (n ∷ []) ++ among test all ns
  among-one n ns = by (is_in test all n)
    where
      by : (b : Bool) → cond b (n ∷ among test all ns) (among test all ns) ≡ cond b (n ∷ []) [] ++ among test all ns
      by true = refl
      by false = refl

  pub among-next : (ns : List NodeId) (i : ℕ) (d : NodeId) (old new w : List ℕ) → i < length ns → new ≡ old ++ among test all ((get_or ns i d).number ∷ [])
      → old ++ among test all (numbers (drop i ns)) ≡ w → new ++ among test all (numbers (drop (i + 1) ns)) ≡ w
  among-next ns i d old new w h pushed is =
      let n = (get_or ns i d).number in
      let rest = numbers (drop (i + 1) ns) in
      ap (λ l. l ++ among test all rest) pushed ∙ append_assoc old (among test all (n ∷ [])) (among test all rest)
      ∙ ap (λ l. old ++ l) (sym (ap (among test all) (left ns i d h) ∙ among-one n rest)) ∙ is

  pub among-end : (ns : List NodeId) (i : ℕ) (got w : List ℕ) → length ns ≤ i → got ++ among test all (numbers (drop i ns)) ≡ w → got ≡ w
  among-end ns i got w h is = sym (ap (λ l. got ++ among test all l) (none-left ns i h) ∙ append-none got) ∙ is

-- ---- copies within a parent

module _ (all : List Visit) (q : ℕ) where
  within-one : (before : ℕ) (earlier : List model.Place) (n : ℕ) (ns : List ℕ)
      → within all q before earlier (n ∷ ns) ≡ copy_of all q before earlier n ++ within all q (next_of all before n) (earlier ++ copy_of all q before earlier n) ns
  within-one before earlier n ns = by (is_in is_element all n) (is_in is_attribute all n)
    where
      element : model.Place
      element = row_place q before n

      attribute : model.Place
      attribute = named_place all q earlier n

      by : (a b : Bool)
          → cond a (element ∷ within all q (suc before) (earlier ++ element ∷ []) ns) (cond b (attribute ∷ within all q before (earlier ++ attribute ∷ []) ns) (within all q before earlier ns))
          ≡ cond a (element ∷ []) (cond b (attribute ∷ []) []) ++ within all q (cond a (suc before) before) (earlier ++ cond a (element ∷ []) (cond b (attribute ∷ []) [])) ns
      by true b = refl
      by false true = refl
      by false false = ap (λ l. within all q before l ns) (sym (append-none earlier))

  pub within-next : (ns : List NodeId) (i : ℕ) (d : NodeId) (before next : ℕ) (old new w : List model.Place) → i < length ns
      → new ≡ old ++ copy_of all q before old (get_or ns i d).number → next ≡ next_of all before (get_or ns i d).number
      → old ++ within all q before old (numbers (drop i ns)) ≡ w → new ++ within all q next new (numbers (drop (i + 1) ns)) ≡ w
  within-next ns i d before next old new w h pushed goes is =
      let n = (get_or ns i d).number in
      let rest = numbers (drop (i + 1) ns) in
      ap (λ l. l ++ within all q next l rest) pushed ∙ ap (λ k. (old ++ copy_of all q before old n) ++ within all q k (old ++ copy_of all q before old n) rest) goes
      ∙ append_assoc old (copy_of all q before old n) (within all q (next_of all before n) (old ++ copy_of all q before old n) rest)
      ∙ ap (λ l. old ++ l) (sym (ap (within all q before old) (left ns i d h) ∙ within-one before old n rest)) ∙ is

  pub within-end : (ns : List NodeId) (i before : ℕ) (got w : List model.Place) → length ns ≤ i → got ++ within all q before got (numbers (drop i ns)) ≡ w → got ≡ w
  within-end ns i before got w h is = sym (ap (λ l. got ++ within all q before got l) (none-left ns i h) ∙ append-none got) ∙ is

-- ---- what a delete takes

module _ (all : List Visit) (closed : List ℕ) where
  taken-one : (keys : List ℕ) (n : ℕ) (ns : List ℕ)
      → taken_from all closed keys (n ∷ ns)
      ≡ cond (may_take all closed keys n) (n ∷ []) [] ++ taken_from all closed (cond (may_take all closed keys n) (insert_key (λ x y. x == y) keys n) keys) ns
  taken-one keys n ns = by (may_take all closed keys n)
    where
      by : (b : Bool)
          → cond b (n ∷ taken_from all closed (n ∷ keys) ns) (taken_from all closed keys ns)
          ≡ cond b (n ∷ []) [] ++ taken_from all closed (cond b (insert_key (λ x y. x == y) keys n) keys) ns
      by true = ap (λ l. n ∷ l) (sym (taken-alike all closed (insert_key (λ x y. x == y) keys n) (n ∷ keys) (inserted-alike keys (insert_key (λ x y. x == y) keys n) n refl) ns))
      by false = refl

  pub taken-next : (ns : List NodeId) (i : ℕ) (d : NodeId) (keys keys2 old new w : List ℕ) → i < length ns
      → new ≡ old ++ cond (may_take all closed keys (get_or ns i d).number) ((get_or ns i d).number ∷ []) []
      → keys2 ≡ cond (may_take all closed keys (get_or ns i d).number) (insert_key (λ x y. x == y) keys (get_or ns i d).number) keys
      → old ++ taken_from all closed keys (numbers (drop i ns)) ≡ w → new ++ taken_from all closed keys2 (numbers (drop (i + 1) ns)) ≡ w
  taken-next ns i d keys keys2 old new w h pushed made is =
      let n = (get_or ns i d).number in
      let rest = numbers (drop (i + 1) ns) in
      let one = cond (may_take all closed keys n) (n ∷ []) [] in
      let keys3 = cond (may_take all closed keys n) (insert_key (λ x y. x == y) keys n) keys in
      ap (λ l. l ++ taken_from all closed keys2 rest) pushed ∙ ap (λ k. (old ++ one) ++ taken_from all closed k rest) made
      ∙ append_assoc old one (taken_from all closed keys3 rest)
      ∙ ap (λ l. old ++ l) (sym (ap (taken_from all closed keys) (left ns i d h) ∙ taken-one keys n rest)) ∙ is

  pub taken-end : (ns : List NodeId) (i : ℕ) (keys got w : List ℕ) → length ns ≤ i → got ++ taken_from all closed keys (numbers (drop i ns)) ≡ w → got ≡ w
  taken-end ns i keys got w h is = sym (ap (λ l. got ++ taken_from all closed keys l) (none-left ns i h) ∙ append-none got) ∙ is

-- ---- the first of a name

module _ (all : List Visit) (n : ℕ) where
  pub first-next : (ns : List NodeId) (i : ℕ) (d : NodeId) (w : Option ℕ) → i < length ns → have_same_name (name_of all n) (name_of all (get_or ns i d).number) ≡ false
      → first_named all n (numbers (drop i ns)) ≡ w → first_named all n (numbers (drop (i + 1) ns)) ≡ w
  first-next ns i d w h other is =
      let rest = numbers (drop (i + 1) ns) in
      sym (ap (first_named all n) (left ns i d h) ∙ ap (λ b. cond b (Some (get_or ns i d).number) (first_named all n rest)) other) ∙ is

  pub first-found : (ns : List NodeId) (i : ℕ) (d : NodeId) (w : Option ℕ) → i < length ns → have_same_name (name_of all n) (name_of all (get_or ns i d).number) ≡ true
      → first_named all n (numbers (drop i ns)) ≡ w → Some (get_or ns i d).number ≡ w
  first-found ns i d w h same is =
      let rest = numbers (drop (i + 1) ns) in
      sym (ap (first_named all n) (left ns i d h) ∙ ap (λ b. cond b (Some (get_or ns i d).number) (first_named all n rest)) same) ∙ is

  pub first-end : (ns : List NodeId) (i : ℕ) (w : Option ℕ) → length ns ≤ i → first_named all n (numbers (drop i ns)) ≡ w → None ≡ w
  first-end ns i w h is = sym (ap (first_named all n) (none-left ns i h)) ∙ is

  -- ---- the last of a name, looked for from the end

  later-is : (at k j : ℕ) (ps : List Place) → model.last_alike all n (k + at) (map place_of (drop at ps)) ≡ Some j → model.last_alike all n k (map place_of ps) ≡ Some j
  later-is zero k j ps e = ap (λ m. model.last_alike all n m (map place_of ps)) (let f : k ≡ k + 0 = omega arith in f) ∙ e
  later-is (suc at) k j [] e = cc e
  later-is (suc at) k j (p ∷ ps) e =
      let shift : suc k + at ≡ k + suc at = omega arith in
      let later = later-is at (suc k) j ps (ap (λ m. model.last_alike all n m (map place_of (drop at ps))) shift ∙ e) in
      ap (λ o. model.later_one o k (is_in is_attribute all (place_of p).origin && have_same_name (name_of all n) (name_of all (place_of p).origin))) later

  one-alike : (ps : List Place) (at : ℕ) (d : Place) → at < length ps → model.last_alike all n (at + 1) (map place_of (drop (at + 1) ps)) ≡ None
      → model.last_alike all n at (map place_of (drop at ps)) ≡ model.later_one None at (is_alike all n (get_or ps at d).origin.number)
  one-alike ps at d h none =
      let shift : suc at ≡ at + 1 = omega arith in
      let b = is_alike all n (get_or ps at d).origin.number in
      ap (λ l. model.last_alike all n at (map place_of l)) (drop_more ps at d h)
      ∙ ap (λ m. model.later_one (model.last_alike all n m (map place_of (drop (at + 1) ps))) at b) shift
      ∙ ap (λ o. model.later_one o at b) none

  -- the place looked at is the one before, and those behind it have no such attribute
  pub alike-before : (ps : List Place) (at : ℕ) (d : Place) → 0 < at → at ≤ length ps → is_alike all n (get_or ps (at - 1) d).origin.number ≡ false
      → model.last_alike all n at (map place_of (drop at ps)) ≡ None → model.last_alike all n (at - 1) (map place_of (drop (at - 1) ps)) ≡ None
  alike-before ps at d some within other none =
      let back : (at - 1) + 1 ≡ at = omega (arith, some) in
      one-alike ps (at - 1) d (omega (arith, some, within)) (ap (λ m. model.last_alike all n m (map place_of (drop m ps))) back ∙ none) ∙ ap (model.later_one None (at - 1)) other

  pub alike-found : (ps : List Place) (at : ℕ) (d : Place) → 0 < at → at ≤ length ps → is_alike all n (get_or ps (at - 1) d).origin.number ≡ true
      → model.last_alike all n at (map place_of (drop at ps)) ≡ None → Some (at - 1) ≡ model.last_alike all n 0 (map place_of ps)
  alike-found ps at d some within same none =
      let back : (at - 1) + 1 ≡ at = omega (arith, some) in
      let here : model.last_alike all n (at - 1) (map place_of (drop (at - 1) ps)) ≡ Some (at - 1) =
      one-alike ps (at - 1) d (omega (arith, some, within)) (ap (λ m. model.last_alike all n m (map place_of (drop m ps))) back ∙ none) ∙ ap (model.later_one None (at - 1)) same in
      let from : 0 + (at - 1) ≡ at - 1 = omega arith in
      sym (later-is (at - 1) 0 (at - 1) ps (ap (λ m. model.last_alike all n m (map place_of (drop (at - 1) ps))) from ∙ here))

  pub alike-end : (ps : List Place) (at : ℕ) → at ≡ 0 → model.last_alike all n at (map place_of (drop at ps)) ≡ None → None ≡ model.last_alike all n 0 (map place_of ps)
  alike-end ps at zero-is none = sym (ap (λ k. model.last_alike all n k (map place_of (drop k ps))) (sym zero-is) ∙ none)

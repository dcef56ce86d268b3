-- The string value of what may be set is the text that stands there.
use Rattle.std.proofs.Common.{◌≡◌, ℕ, suc, ◌==◌, Bool, true, false, not, cond, ◌&&◌, ◌||◌, List, [], ◌∷◌, ◌++◌, map, nat_lt, Option, Some, None, refl, sym, ap, ◌∙◌, subst, append-nil, inl, inr, arith}
use Rattle.std.specs.Prelude.{◌⊎◌, filter, length, nat_le, option_map}
use Rattle.std.specs.List.{list_any, flat_map}
use Rattle.std.specs.Str.{bytes_eq}
use Rattle.std.proofs.lemmas.Bool.{cases_Bool}
use Rattle.std.proofs.lemmas.Bool.Decides.{nat_tests}
use Rattle.std.proofs.lemmas.Grind.{flat_map-append}
use Rattle.std.proofs.lemmas.List.{length-map}
use Rattle.xf_def_forest.specs.declared.content.Node.{Node}
use Rattle.xf_def_forest.specs.declared.content.Content.{Content}
use Rattle.xf_def_forest.specs.declared.content.Content.TheVariants.{Root, Element, Attribute, Text}
use Rattle.xf_def_forest.specs.declared.content.Kind.{Kind}
use Rattle.xf_def_forest.specs.declared.content.Kind.TheVariants as kind
use Rattle.xf_def_forest.specs.Forest.{is_element, is_attribute, is_text, own_text, has_number, kind_of, kind_at, node_at, below, past, tree_of}
use Rattle.xf_def_forest.specs.Settle.{are_texts}
use Rattle.xf_def_forest.specs.Shape.{as_texts}
use Rattle.xf_def_forest.specs.StringValue.{characters, text_below, value_of, string_value}
use Rattle.xf_def_forest.specs.Texts.{is_attribute_at, value_in}
use Rattle.xf_def_forest.specs.Visit.{Visit, has, is_first, still_above, numbers, visit, visits_from, visits}
use Rattle.xf_def_forest.specs.WellFormed.{are_apart, reach, are_depths_from}
use Rattle.xf_def_forest.proofs.BackLaws.{and-true, or-false, HasText}
use Rattle.xf_def_forest.proofs.MoveLemmas.{gone-after}
use Rattle.xf_def_forest.proofs.RunLemmas.{AreTexts, IsRun, IsLeafAt, text-no_attribute, below-then-past, tree-here, tree-other}
use Rattle.xf_def_forest.proofs.TextLaws.{has_text as text-there}
use Rattle.xf_def_forest.proofs.VisitLemmas.{BeginsWithin, past-within, closed, deeper-by_one, run-visits}
use Rattle.xf_def_xpath.specs.Asked.{found}
use Rattle.xf_def_xpath.proofs.VisitFacts.{no, none-some, self-same, found-number, filter-append}
use Rattle.xf_law_recalculation.specs.Edit.InstanceEdits.{StandsThere}
use Rattle.xf_law_recalculation.proofs.EditLemmas.CutLaws.{absent-past, still-has, first-has}
use Rattle.xf_law_recalculation.proofs.EditLemmas.TextAgain.{element-no_text, attribute-no_text, texts_of, bytes-same}
use Rattle.xf_law_recalculation.proofs.EditLemmas.TextSetLaws.{run-at}

abbrev joined : List Node → List ℕ
joined xs = flat_map (λ x. own_text x.content) xs

no-characters : (c : Content) → is_text c ≡ false → characters c ≡ []
no-characters Root h = refl
no-characters (Element name) h = refl
no-characters (Attribute name text) h = refl
no-characters (Text text) h = no (sym h)

text-characters : (c : Content) → is_text c ≡ true → characters c ≡ own_text c
text-characters Root h = no h
text-characters (Element name) h = no h
text-characters (Attribute name text) h = no h
text-characters (Text text) h = refl

element-no_own : (c : Content) → is_element c ≡ true → own_text c ≡ []
element-no_own Root h = refl
element-no_own (Element name) h = refl
element-no_own (Attribute name text) h = no h
element-no_own (Text text) h = no h

turned : (a b : ℕ) → (a == b) ≡ (b == a)
turned a b = grind (arith, nat_tests)

depths-within : (d : ℕ) (xs : List Node) → are_depths_from d xs ≡ true → BeginsWithin d xs
depths-within d [] h = tt
depths-within d (x ∷ xs) h = let k : nat_le x.depth d ≡ true = (and-true (nat_le x.depth d) (are_depths_from (reach x) xs) h).0 in grind (arith, nat_tests, k)

module _ (n : ℕ) where
  abbrev child : Visit → Bool
  child v = is_first n v.above && not (is_attribute v.content)

  -- what stands where it does not
  still-none : (d : ℕ) (above : List Node) → has n (numbers above) ≡ false → has n (numbers (still_above d above)) ≡ false
  still-none d above h = by (has n (numbers (still_above d above))) refl
    where
      by : (b : Bool) → has n (numbers (still_above d above)) ≡ b → b ≡ false
      by true e = sym (still-has n d above e) ∙ h
      by false e = refl

  first-none : (ns : List ℕ) → has n ns ≡ false → is_first n ns ≡ false
  first-none ns h = by (is_first n ns) refl
    where
      by : (b : Bool) → is_first n ns ≡ b → b ≡ false
      by true e = sym (first-has n ns e) ∙ h
      by false e = refl

  -- a node that it is not above
  one-outside : (v : Visit) → has n v.above ≡ false → (text_below n v ≡ []) × (child v ≡ false)
  one-outside v h = (ap (λ b. cond b (characters v.content) []) h, ap (λ b. b && not (is_attribute v.content)) (first-none v.above h))

  outside : (above xs : List Node) → has n (numbers above) ≡ false → has_number n xs ≡ false → (flat_map (text_below n) (visits_from above xs) ≡ []) × (filter child (visits_from above xs) ≡ [])
  outside above [] h k = (refl, refl)
  outside above (x ∷ xs) h k =
      let parts = or-false (x.number == n) (has_number n xs) k in
      let still = still-none x.depth above h in
      let one = one-outside (visit above x) still in
      let rest = outside (x ∷ still_above x.depth above) xs (ap (λ b. b || has n (numbers (still_above x.depth above))) (turned n x.number ∙ parts.0) ∙ still) parts.1 in (
        ap (λ l. l ++ flat_map (text_below n) (visits_from (x ∷ still_above x.depth above) xs)) one.0 ∙ rest.0,
        ap (λ b. cond b (visit above x ∷ filter child (visits_from (x ∷ still_above x.depth above) xs)) (filter child (visits_from (x ∷ still_above x.depth above) xs))) one.1 ∙ rest.1,
      )

  module _ (x : Node) (stay : List Node) (here : (x.number == n) ≡ true) where
    abbrev seen : List Node → List Visit
    seen zs = map (visit (x ∷ stay)) zs

    open_ : (z : Node) → z.depth ≡ suc x.depth → still_above z.depth (x ∷ stay) ≡ x ∷ stay
    open_ z deep = ap (λ d. still_above d (x ∷ stay)) deep ∙ ap (λ b. cond b (x ∷ stay) (still_above (suc x.depth) stay)) (deeper-by_one x.depth)

    one-text : (z : Node) → z.depth ≡ suc x.depth → is_text z.content ≡ true → (text_below n (visit (x ∷ stay) z) ≡ own_text z.content) × (child (visit (x ∷ stay) z) ≡ true)
    one-text z deep h = (
      ap (λ l. cond (has n (numbers l)) (characters z.content) []) (open_ z deep)
          ∙ ap (λ b. cond (b || has n (numbers stay)) (characters z.content) []) (turned n x.number ∙ here) ∙ text-characters z.content h,
      ap (λ l. is_first n (numbers l) && not (is_attribute z.content)) (open_ z deep)
          ∙ ap (λ b. b && not (is_attribute z.content)) (turned n x.number ∙ here) ∙ ap not (text-no_attribute z.content h),
    )

    one-attribute : (z : Node) → is_attribute z.content ≡ true → (text_below n (visit (x ∷ stay) z) ≡ []) × (child (visit (x ∷ stay) z) ≡ false)
    one-attribute z h = (
      ap (λ c. cond (has n (numbers (still_above z.depth (x ∷ stay)))) c []) (no-characters z.content (attribute-no_text z.content h)) ∙ either (has n (numbers (still_above z.depth (x ∷ stay)))),
      ap (λ b. is_first n (numbers (still_above z.depth (x ∷ stay))) && not b) h ∙ none (is_first n (numbers (still_above z.depth (x ∷ stay)))),
    )
      where
        nil : List ℕ
        nil = []

        either : (b : Bool) → cond b nil [] ≡ []
        either true = refl
        either false = refl

        none : (b : Bool) → (b && false) ≡ false
        none true = refl
        none false = refl

    abbrev Told : List Node → Type 0
    Told zs = (flat_map (text_below n) (seen zs) ≡ joined (texts_of zs)) × (length (filter child (seen zs)) ≡ length (texts_of zs))

    text-told : (z : Node) (zs : List Node) → z.depth ≡ suc x.depth → is_text z.content ≡ true → Told zs → Told (z ∷ zs)
    text-told z zs deep h k =
        let one = one-text z deep h in
        let is : texts_of (z ∷ zs) ≡ z ∷ texts_of zs = ap (λ b. cond b (z ∷ texts_of zs) (texts_of zs)) h in (
          ap (λ l. l ++ flat_map (text_below n) (seen zs)) one.0 ∙ ap (λ l. own_text z.content ++ l) k.0 ∙ sym (ap joined is),
          ap (λ b. length (cond b (visit (x ∷ stay) z ∷ filter child (seen zs)) (filter child (seen zs)))) one.1 ∙ ap suc k.1 ∙ sym (ap length is),
        )

    texts-told : (zs : List Node) → AreTexts x.depth zs → Told zs
    texts-told [] h = (refl, refl)
    texts-told (z ∷ zs) h = text-told z zs h.1 h.0 (texts-told zs h.2)

    run-told : (zs : List Node) → IsRun x.depth zs → Told zs
    run-told [] h = (refl, refl)
    run-told (z ∷ zs) (inl h) =
        let k = run-told zs h.2 in
        let one = one-attribute z h.0 in
        let is : texts_of (z ∷ zs) ≡ texts_of zs = ap (λ b. cond b (z ∷ texts_of zs) (texts_of zs)) (attribute-no_text z.content h.0) in (
          ap (λ l. l ++ flat_map (text_below n) (seen zs)) one.0 ∙ k.0 ∙ sym (ap joined is),
          ap (λ b. length (cond b (visit (x ∷ stay) z ∷ filter child (seen zs)) (filter child (seen zs)))) one.1 ∙ k.1 ∙ sym (ap length is),
        )
    run-told (z ∷ zs) (inr h) = text-told z zs h.1 h.0 (texts-told zs h.2)

  -- ---- the forest

  abbrev Says : List Visit → List ℕ → List Node → Type 0
  Says all own texts = (v : Visit) × (found n all ≡ Some v) × (own_text v.content ≡ own) × (flat_map (text_below n) all ≡ joined texts) × (length (filter child all) ≡ length texts)

  -- a node that stands before it
  ahead : (above xs : List Node) (x : Node) (own : List ℕ) (texts : List Node) → (x.number == n) ≡ false → has n (numbers above) ≡ false → Says (visits_from (x ∷ still_above x.depth above) xs) own texts → Says (visits_from above (x ∷ xs)) own texts
  ahead above xs x own texts q h r =
      let one = one-outside (visit above x) (still-none x.depth above h) in
      let rest = visits_from (x ∷ still_above x.depth above) xs in (
        r.0,
        ap (λ b. cond b (Some (visit above x)) (found n rest)) q ∙ r.1,
        r.2,
        ap (λ l. l ++ flat_map (text_below n) rest) one.0 ∙ r.3,
        ap (λ b. length (cond b (visit above x ∷ filter child rest) (filter child rest))) one.1 ∙ r.4,
      )

  before-none : (above : List Node) (x : Node) → (x.number == n) ≡ false → has n (numbers above) ≡ false → has n (numbers (x ∷ still_above x.depth above)) ≡ false
  before-none above x q h = ap (λ b. b || has n (numbers (still_above x.depth above))) (turned n x.number ∙ q) ∙ still-none x.depth above h

  attribute-says : (above nodes : List Node) (k : ℕ) → are_apart nodes ≡ true → are_depths_from k nodes ≡ true → has n (numbers above) ≡ false → is_attribute_at n nodes ≡ true → Says (visits_from above nodes) (value_in (tree_of n nodes)) []
  attribute-says above [] k a d h i = no i
  attribute-says above (x ∷ xs) k a d h i =
      elim (cases_Bool (x.number == n)) [
        | inl q ↦ here q
        | inr q ↦ subst (λ l. Says (visits_from above (x ∷ xs)) (value_in l) []) (sym (tree-other n x xs q))
            (ahead above xs x (value_in (tree_of n xs)) [] q h
            (attribute-says (x ∷ still_above x.depth above) xs (reach x) (and-true (not (has_number x.number xs)) (are_apart xs) a).1 (and-true (nat_le x.depth k) (are_depths_from (reach x) xs) d).1
            (before-none above x q h) (sym (ap (λ b. (b && is_attribute x.content) || is_attribute_at n xs) q) ∙ i)))
      ]
    where
      absent : (ys : List Node) → has_number n ys ≡ false → is_attribute_at n ys ≡ false
      absent [] j = refl
      absent (y ∷ ys) j =
          let parts = or-false (y.number == n) (has_number n ys) j in
          ap (λ b. (b && is_attribute y.content) || is_attribute_at n ys) parts.0 ∙ absent ys parts.1

      here : (x.number == n) ≡ true → Says (visits_from above (x ∷ xs)) (value_in (tree_of n (x ∷ xs))) []
      here q =
          let gone = gone-after n x xs a q in
          let is = is-attribute (is_attribute x.content) refl gone in
          let flat : reach x ≡ x.depth = ap (λ b. cond (b || is_text x.content) x.depth (suc x.depth)) is in
          let begins = depths-within x.depth xs (ap (λ l. are_depths_from l xs) (sym flat) ∙ (and-true (nat_le x.depth k) (are_depths_from (reach x) xs) d).1) in
          let shut : visits_from (x ∷ still_above x.depth above) xs ≡ visits_from (still_above x.depth above) xs = closed x (still_above x.depth above) xs begins in
          let one = one-outside (visit above x) (still-none x.depth above h) in
          let rest = outside (still_above x.depth above) xs (still-none x.depth above h) gone in (
            visit above x,
            ap (λ b. cond b (Some (visit above x)) (found n (visits_from (x ∷ still_above x.depth above) xs))) q,
            ap value_in (sym (tree-here n x xs q)),
            ap (λ l. l ++ flat_map (text_below n) (visits_from (x ∷ still_above x.depth above) xs)) one.0 ∙ ap (flat_map (text_below n)) shut ∙ rest.0,
            ap (λ b. length (cond b (visit above x ∷ filter child (visits_from (x ∷ still_above x.depth above) xs)) (filter child (visits_from (x ∷ still_above x.depth above) xs)))) one.1
                ∙ ap (λ l. length (filter child l)) shut ∙ ap length rest.1,
          )
        where
          is-attribute : (b : Bool) → is_attribute x.content ≡ b → has_number n xs ≡ false → b ≡ true
          is-attribute true e gone = refl
          is-attribute false e gone = sym (and-none (x.number == n)) ∙ ap (λ b. (x.number == n) && b) (sym e) ∙ or-none ((x.number == n) && is_attribute x.content) (absent xs gone) ∙ i
            where
              and-none : (b : Bool) → (b && false) ≡ false
              and-none true = refl
              and-none false = refl

              or-none : (b : Bool) → is_attribute_at n xs ≡ false → b ≡ (b || is_attribute_at n xs)
              or-none true j = refl
              or-none false j = sym j

  element-says : (above nodes : List Node) → are_apart nodes ≡ true → has n (numbers above) ≡ false → has_number n nodes ≡ true → IsLeafAt n nodes → Says (visits_from above nodes) [] (texts_of (tree_of n nodes))
  element-says above [] a h i l = no i
  element-says above (x ∷ xs) a h i l = by (x.number == n) refl i l (λ q j m. element-says (x ∷ still_above x.depth above) xs (and-true (not (has_number x.number xs)) (are_apart xs) a).1 (before-none above x q h) j m)
    where
      by : (b : Bool) → (x.number == n) ≡ b → (b || has_number n xs) ≡ true → cond b ((is_element x.content ≡ true) × IsRun x.depth (below x.depth xs)) (IsLeafAt n xs) →
          ((x.number == n) ≡ false → has_number n xs ≡ true → IsLeafAt n xs → Says (visits_from (x ∷ still_above x.depth above) xs) [] (texts_of (tree_of n xs))) → Says (visits_from above (x ∷ xs)) [] (texts_of (tree_of n (x ∷ xs)))
      by true q j m f =
          let stay = still_above x.depth above in
          let one = one-outside (visit above x) (still-none x.depth above h) in
          let gone = gone-after n x xs a q in
          let split : visits_from (x ∷ stay) xs ≡ map (visit (x ∷ stay)) (below x.depth xs) ++ visits_from stay (past x.depth xs) =
          ap (visits_from (x ∷ stay)) (sym (below-then-past x.depth xs)) ∙ run-visits x stay (below x.depth xs) (past x.depth xs) (run-at x.depth (below x.depth xs) m.1) (past-within x.depth xs)
          ∙ ap (λ k. map (visit (x ∷ stay)) (below x.depth xs) ++ k) (closed x stay (past x.depth xs) (past-within x.depth xs)) in
          let rest = outside stay (past x.depth xs) (still-none x.depth above h) (absent-past n x.depth xs gone) in
          let told = run-told x stay q (below x.depth xs) m.1 in
          let tree : texts_of (tree_of n (x ∷ xs)) ≡ texts_of (below x.depth xs) =
          ap texts_of (tree-here n x xs q) ∙ ap (λ b. cond b (x ∷ texts_of (below x.depth xs)) (texts_of (below x.depth xs))) (element-no_text x.content m.0) in
          subst (λ k. Says (visits_from above (x ∷ xs)) [] k) (sym tree) (
            visit above x,
            ap (λ b. cond b (Some (visit above x)) (found n (visits_from (x ∷ stay) xs))) q,
            element-no_own x.content m.0,
            ap (λ k. k ++ flat_map (text_below n) (visits_from (x ∷ stay) xs)) one.0 ∙ ap (flat_map (text_below n)) split
                ∙ flat_map-append (text_below n) (map (visit (x ∷ stay)) (below x.depth xs)) (visits_from stay (past x.depth xs))
                ∙ ap (λ k. flat_map (text_below n) (map (visit (x ∷ stay)) (below x.depth xs)) ++ k) rest.0 ∙ append-nil _ ∙ told.0,
            ap (λ b. length (cond b (visit above x ∷ filter child (visits_from (x ∷ stay) xs)) (filter child (visits_from (x ∷ stay) xs)))) one.1
                ∙ ap (λ k. length (filter child k)) split
                ∙ ap length (filter-append child (map (visit (x ∷ stay)) (below x.depth xs)) (visits_from stay (past x.depth xs)) ∙ ap (λ k. filter child (map (visit (x ∷ stay)) (below x.depth xs)) ++ k) rest.1 ∙ append-nil _)
                ∙ told.1,
          )
      by false q j m f = subst (λ k. Says (visits_from above (x ∷ xs)) [] (texts_of k)) (sym (tree-other n x xs q)) (ahead above xs x [] (texts_of (tree_of n xs)) q h (f q j m))

-- ---- no text is empty

abbrev empty : Node → Bool
empty x = is_text x.content && (length (own_text x.content) == 0)

below-filled : (d : ℕ) (xs : List Node) → list_any empty xs ≡ false → list_any empty (below d xs) ≡ false
below-filled d [] h = refl
below-filled d (x ∷ xs) h = by (nat_lt d x.depth) (or-false (empty x) (list_any empty xs) h) (below-filled d xs (or-false (empty x) (list_any empty xs) h).1)
  where
    by : (b : Bool) → (empty x ≡ false) × (list_any empty xs ≡ false) → list_any empty (below d xs) ≡ false → list_any empty (cond b (x ∷ below d xs) []) ≡ false
    by true p i = ap (λ b. b || list_any empty (below d xs)) p.0 ∙ i
    by false p i = refl

tree-filled : (n : ℕ) (xs : List Node) → list_any empty xs ≡ false → list_any empty (tree_of n xs) ≡ false
tree-filled n [] h = refl
tree-filled n (x ∷ xs) h =
    let parts = or-false (empty x) (list_any empty xs) h in
    elim (cases_Bool (x.number == n)) [
      | inl q ↦ ap (list_any empty) (tree-here n x xs q) ∙ ap (λ b. b || list_any empty (below x.depth xs)) parts.0 ∙ below-filled x.depth xs parts.1
      | inr q ↦ ap (list_any empty) (tree-other n x xs q) ∙ tree-filled n xs parts.1
    ]

texts-filled : (xs : List Node) → list_any empty xs ≡ false → list_any (λ x. length (own_text x.content) == 0) (texts_of xs) ≡ false
texts-filled [] h = refl
texts-filled (x ∷ xs) h = by (is_text x.content) refl (or-false (empty x) (list_any empty xs) h).0 (texts-filled xs (or-false (empty x) (list_any empty xs) h).1)
  where
    by : (b : Bool) → is_text x.content ≡ b → (is_text x.content && (length (own_text x.content) == 0)) ≡ false → list_any (λ y. length (own_text y.content) == 0) (texts_of xs) ≡ false →
        list_any (λ y. length (own_text y.content) == 0) (cond b (x ∷ texts_of xs) (texts_of xs)) ≡ false
    by true e i f = ap (λ b. b || list_any (λ y. length (own_text y.content) == 0) (texts_of xs)) (sym (ap (λ b. b && (length (own_text x.content) == 0)) e) ∙ i) ∙ f
    by false e i f = f

bytes-equal : (us : List ℕ) → bytes_eq us us ≡ true
bytes-equal [] = refl
bytes-equal (u ∷ us) = ap (λ b. b && bytes_eq us us) (self-same u) ∙ bytes-equal us

-- texts that are not more than one, and not empty, are what they are joined to
alone : (xs : List Node) (text : List ℕ) → list_any (λ x. length (own_text x.content) == 0) xs ≡ false → joined xs ≡ text → nat_lt 1 (length xs) ≡ false → are_texts (as_texts text) xs ≡ true
alone [] text h e i = ap (λ l. are_texts (as_texts l) []) (sym e)
alone (x ∷ []) text h e i = by (own_text x.content) text refl h (sym (append-nil (own_text x.content)) ∙ e)
  where
    by : (own given : List ℕ) → own_text x.content ≡ own → ((length (own_text x.content) == 0) || false) ≡ false → own_text x.content ≡ given → are_texts (as_texts given) (x ∷ []) ≡ true
    by own [] q j l = no (sym (ap (λ k. (length k == 0) || false) (sym l) ∙ j))
    by own (c ∷ cs) q j l = ap (λ k. bytes_eq k (c ∷ cs) && true) l ∙ ap (λ b. b && true) (bytes-equal (c ∷ cs))
alone (x ∷ y ∷ ys) text h e i = no (sym i ∙ many)
  where
    many : nat_lt 1 (suc (suc (length ys))) ≡ true
    many = grind (arith, nat_tests)

pub stands_there : StandsThere
stands_there n text forest trees able filled value few = by (text-there n forest trees able)
  where
    all : List Visit
    all = visits forest.nodes

    stands : has_number n forest.nodes ≡ true
    stands = by-kind able.kind
      where
        there : (xs : List Node) (k : Kind) → kind_at n xs ≡ Some k → has_number n xs ≡ true
        there [] k e = none-some e
        there (x ∷ xs) k e = of (x.number == n) e (there xs k)
          where
            of : (b : Bool) → option_map kind_of (option_map (λ (y : Node). y.content) (cond b (Some x) (node_at n xs))) ≡ Some k → (kind_at n xs ≡ Some k → has_number n xs ≡ true) → (b || has_number n xs) ≡ true
            of true i f = refl
            of false i f = f i

        by-kind : (kind_at n forest.nodes ≡ Some kind.Attribute) ⊎ (kind_at n forest.nodes ≡ Some kind.Element) → has_number n forest.nodes ≡ true
        by-kind (inl e) = there forest.nodes kind.Attribute e
        by-kind (inr e) = there forest.nodes kind.Element e

    value-is : (v : Visit) → found n all ≡ Some v → own_text v.content ++ flat_map (text_below n) all ≡ text
    value-is v e =
        ap (λ k. own_text v.content ++ flat_map (text_below k) all) (sym (found-number n all v e)) ∙ sym (ap (value_in_all) e) ∙ bytes-same (string_value n all) text value
      where
        value_in_all : Option Visit → List ℕ
        value_in_all None = []
        value_in_all (Some x) = value_of all x

    by : HasText n forest.nodes → cond (is_attribute_at n forest.nodes) (bytes_eq (value_in (tree_of n forest.nodes)) text) (are_texts (as_texts text) (texts_of (tree_of n forest.nodes))) ≡ true
    by (inl h) =
        let r = attribute-says n [] forest.nodes 0 trees.apart trees.depths refl h in
        ap (λ b. cond b (bytes_eq (value_in (tree_of n forest.nodes)) text) (are_texts (as_texts text) (texts_of (tree_of n forest.nodes)))) h
        ∙ ap (λ l. bytes_eq l text) (sym r.2 ∙ sym (append-nil _) ∙ ap (λ l. own_text r.0.content ++ l) (sym r.3) ∙ value-is r.0 r.1) ∙ bytes-equal text
    by (inr h) =
        let r = element-says n [] forest.nodes trees.apart refl stands h.1 in
        ap (λ b. cond b (bytes_eq (value_in (tree_of n forest.nodes)) text) (are_texts (as_texts text) (texts_of (tree_of n forest.nodes)))) h.0
        ∙ alone (texts_of (tree_of n forest.nodes)) text (texts-filled (tree_of n forest.nodes) (tree-filled n forest.nodes filled))
        (sym r.3 ∙ ap (λ l. l ++ flat_map (text_below n) all) (sym r.2) ∙ value-is r.0 r.1)
        (ap (nat_lt 1) (sym r.4 ∙ sym (length-map (filter (child n) all) (λ (v : Visit). v.number))) ∙ few)

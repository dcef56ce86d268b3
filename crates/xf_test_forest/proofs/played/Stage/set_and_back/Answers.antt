-- A text that was just set may be put back.
use Rattle.std.proofs.Common.{◌≡◌, ℕ, suc, ◌==◌, Bool, true, false, not, ◌&&◌, ◌||◌, List, [], ◌∷◌, ◌++◌, map, filter, length, nat_lt, Option, Some, None, Ok, refl, sym, ap, ◌∙◌, subst, inl, inr, arith}
use Rattle.std.specs.Prelude.{⊤, ◌⊎◌}
use Rattle.std.specs.List.{list_any}
use Rattle.std.proofs.lemmas.Bool.{cases_Bool}
use Rattle.std.proofs.lemmas.Bool.Decides.{nat_tests}
use Rattle.xf_def_forest.specs.declared.content.Node.{Node}
use Rattle.xf_def_forest.specs.declared.content.Content.{Content}
use Rattle.xf_def_forest.specs.declared.content.Content.TheVariants.{Root, Element, Attribute, Text}
use Rattle.xf_def_forest.specs.declared.content.Kind.TheVariants as kind
use Rattle.xf_def_forest.specs.declared.fault.TreeFault.{TreeFault}
use Rattle.xf_def_forest.specs.Forest.{kind_of, kind_at, is_element, is_attribute, has_number, below, past, tree_of}
use Rattle.xf_def_forest.specs.Visit.{Visit, is_first, still_above, numbers, visit, visits_from}
use Rattle.xf_def_forest.specs.Limits.{Limits, limits, passed_by_text, unless}
use Rattle.xf_def_forest.specs.WellFormed.{AreTrees, are_apart}
use Rattle.xf_def_forest.specs.Needs.{IsSettable, MayPutBack, are_kept_of}
use Rattle.xf_def_forest.specs.Texts.{Keeping, KeptText, Before, one_text, at_depth, with_content, with_texts, with_value, valued, with_attribute_text, is_attribute_at, texts_in, kept_from, before_of, taken_from, with_text, text_set}
use Rattle.xf_def_forest.proofs.BackLaws.{and-true, or-false, attribute-absent}
use Rattle.xf_def_forest.proofs.MoveLemmas.{gone-after}
use Rattle.xf_def_forest.proofs.RunLemmas.{AreDeeper, below-deeper, placed-deeper, deeper-append}
use Rattle.xf_def_forest.proofs.VisitLemmas.{BeginsWithin, past-within, closed, still_above-map}
use Rattle.xf_test_forest.proofs.played.Stage.set_and_back.Goals as goal

abbrev NoElements : List Node → Type 0
NoElements [] = ⊤
NoElements (y ∷ ys) = (is_element y.content ≡ false) × NoElements ys

none-append : (xs ys : List Node) → NoElements xs → NoElements ys → NoElements (xs ++ ys)
none-append [] ys h k = k
none-append (x ∷ xs) ys h k = (h.0, none-append xs ys h.1 k)

attribute-no_element : (c : Content) → is_attribute c ≡ true → is_element c ≡ false
attribute-no_element Root e = refl
attribute-no_element (Element name) e = cc e
attribute-no_element (Attribute name text) e = refl
attribute-no_element (Text text) e = refl

none-attributes : (xs : List Node) → NoElements (filter (λ x. is_attribute x.content) xs)
none-attributes [] = tt
none-attributes (x ∷ xs) = elim (cases_Bool (is_attribute x.content)) [ inl e ↦ rw e (attribute-no_element x.content e, none-attributes xs) | inr e ↦ rw e (none-attributes xs) ]

-- ---- a node whose stack is known

record Stack (x : Node) (stay ys : List Node) : Type 0 where
  over : List Node
  deeper : AreDeeper x.depth over
  is : ys ≡ over ++ (x ∷ stay)

deep-stack : (x : Node) (stay : List Node) (e : ℕ) (zs : List Node) → AreDeeper x.depth zs → nat_lt x.depth e ≡ true → Stack x stay (still_above e (zs ++ (x ∷ stay)))
deep-stack x stay e [] d h = record { over = []; deeper = tt; is = rw h refl }
deep-stack x stay e (z ∷ zs) d h =
    elim (cases_Bool (nat_lt z.depth e)) [
      | inl k ↦ record { over = z ∷ zs; deeper = d; is = rw k refl }
      | inr k ↦ let r = deep-stack x stay e zs d.1 h in record { over = r.over; deeper = r.deeper; is = rw k r.is }
    ]

wider : (d e : ℕ) (xs : List Node) → nat_lt d e ≡ true → BeginsWithin d xs → BeginsWithin e xs
wider d e [] h b = tt
wider d e (x ∷ xs) h b = grind (arith, nat_tests, h, b)

-- nodes that are deeper are above nothing that follows, and neither is the node
closed-all : (x : Node) (stay zs xs : List Node) → AreDeeper x.depth zs → BeginsWithin x.depth xs → visits_from (zs ++ (x ∷ stay)) xs ≡ visits_from stay xs
closed-all x stay [] xs d b = closed x stay xs b
closed-all x stay (z ∷ zs) xs d b = closed z (zs ++ (x ∷ stay)) xs (wider x.depth z.depth xs d.0 b) ∙ closed-all x stay zs xs d.1 b

and-none : (a b : Bool) → b ≡ false → (a && b) ≡ false
and-none true b h = h
and-none false b h = refl

module _ (n : ℕ) where
  abbrev child : Visit → Bool
  child v = is_element v.content && is_first n v.above

  still-lacks : (d : ℕ) (ys : List Node) → has_number n ys ≡ false → has_number n (still_above d ys) ≡ false
  still-lacks d [] h = h
  still-lacks d (y ∷ ys) h = elim (cases_Bool (nat_lt y.depth d)) [ inl e ↦ rw e h | inr e ↦ rw e (still-lacks d ys (or-false (y.number == n) (has_number n ys) h).1) ]

  past-lacks : (d : ℕ) (ys : List Node) → has_number n ys ≡ false → has_number n (past d ys) ≡ false
  past-lacks d [] h = h
  past-lacks d (y ∷ ys) h = elim (cases_Bool (nat_lt d y.depth)) [ inl e ↦ rw e (past-lacks d ys (or-false (y.number == n) (has_number n ys) h).1) | inr e ↦ rw e h ]

  first-lacks : (ys : List Node) → has_number n ys ≡ false → is_first n (numbers ys) ≡ false
  first-lacks [] h = refl
  first-lacks (y ∷ ys) h = let k = (or-false (y.number == n) (has_number n ys) h).0 in grind (arith, nat_tests, k)

  visit-none : (stay : List Node) (x : Node) → has_number n stay ≡ false → child (visit stay x) ≡ false
  visit-none stay x h = and-none (is_element x.content) (is_first n (numbers (still_above x.depth stay))) (first-lacks (still_above x.depth stay) (still-lacks x.depth stay h))

  lacks-more : (x : Node) (stay : List Node) → (x.number == n) ≡ false → has_number n stay ≡ false → has_number n (x ∷ still_above x.depth stay) ≡ false
  lacks-more x stay e h = ap (λ b. b || has_number n (still_above x.depth stay)) e ∙ still-lacks x.depth stay h

  none-below : (stay xs : List Node) → has_number n stay ≡ false → has_number n xs ≡ false → list_any child (visits_from stay xs) ≡ false
  none-below stay [] h k = refl
  none-below stay (x ∷ xs) h k =
      let parts = or-false (x.number == n) (has_number n xs) k in
      ap (λ b. b || list_any child (visits_from (x ∷ still_above x.depth stay) xs)) (visit-none stay x h)
      ∙ none-below (x ∷ still_above x.depth stay) xs (lacks-more x stay parts.0 h) parts.1

  -- nodes below it that are no elements
  run-none : (x : Node) (stay zs ys xs : List Node) → AreDeeper x.depth zs → AreDeeper x.depth ys → NoElements ys → BeginsWithin x.depth xs → list_any child (visits_from stay xs) ≡ false
      → list_any child (visits_from (zs ++ (x ∷ stay)) (ys ++ xs)) ≡ false
  run-none x stay zs [] xs dz dy none b h = subst (λ l. list_any child l ≡ false) (sym (closed-all x stay zs xs dz b)) h
  run-none x stay zs (y ∷ ys) xs dz dy none b h =
      let r = deep-stack x stay y.depth zs dz dy.0 in
      ap (λ c. (c && is_first n (numbers (still_above y.depth (zs ++ (x ∷ stay))))) || list_any child (visits_from (y ∷ still_above y.depth (zs ++ (x ∷ stay))) (ys ++ xs))) none.0
      ∙ ap (λ l. list_any child (visits_from (y ∷ l) (ys ++ xs))) r.is
      ∙ run-none x stay (y ∷ r.over) ys xs (dy.0, r.deeper) dy.1 none.1 b h

  content-none : (x : Node) (stay texts xs : List Node) → NoElements (map (at_depth (suc x.depth)) texts) → has_number n stay ≡ false → has_number n xs ≡ false
      → list_any child (visits_from (x ∷ stay) (with_content x.depth texts xs)) ≡ false
  content-none x stay texts xs none h k =
      let attributes = filter (λ (y : Node). is_attribute y.content) (below x.depth xs) in
      let placed = map (at_depth (suc x.depth)) texts in
      run-none x stay [] (attributes ++ placed) (past x.depth xs) tt
      (deeper-append x.depth attributes placed (below-deeper (λ y. is_attribute y.content) x.depth xs) (placed-deeper x.depth texts))
      (none-append attributes placed (none-attributes (below x.depth xs)) none)
      (past-within x.depth xs) (none-below stay (past x.depth xs) h (past-lacks x.depth xs k))

  texts-none : (next : ℕ) (text : List ℕ) (d : ℕ) → NoElements (map (at_depth d) (one_text next text))
  texts-none next [] d = tt
  texts-none next (c ∷ cs) d = (refl, tt)

  with-none : (next : ℕ) (text : List ℕ) (stay nodes : List Node) → has_number n stay ≡ false → are_apart nodes ≡ true
      → list_any child (visits_from stay (with_texts n (one_text next text) nodes)) ≡ false
  with-none next text stay [] h apart = refl
  with-none next text stay (x ∷ xs) h apart =
      elim (cases_Bool (x.number == n)) [
        | inl e ↦
            rw e
            (ap (λ b. b || list_any child (visits_from (x ∷ still_above x.depth stay) (with_content x.depth (one_text next text) xs))) (visit-none stay x h)
            ∙ content-none x (still_above x.depth stay) (one_text next text) xs (texts-none next text (suc x.depth)) (still-lacks x.depth stay h) (gone-after n x xs apart e))
        | inr e ↦
            rw e
            (ap (λ b. b || list_any child (visits_from (x ∷ still_above x.depth stay) (with_texts n (one_text next text) xs))) (visit-none stay x h)
            ∙ with-none next text (x ∷ still_above x.depth stay) xs (lacks-more x stay e h) (and-true (not (has_number x.number xs)) (are_apart xs) apart).1)
      ]

  texts-kind : (texts nodes : List Node) → kind_at n (with_texts n texts nodes) ≡ kind_at n nodes
  texts-kind texts [] = refl
  texts-kind texts (x ∷ xs) = elim (cases_Bool (x.number == n)) [ inl e ↦ rw e (rw e refl) | inr e ↦ rw e (rw e (texts-kind texts xs)) ]

  -- ---- an attribute

  module _ (text : List ℕ) where
    value-kind : (c : Content) → kind_of (with_value text c) ≡ kind_of c
    value-kind Root = refl
    value-kind (Element name) = refl
    value-kind (Attribute name old) = refl
    value-kind (Text old) = refl

    value-element : (c : Content) → is_element (with_value text c) ≡ is_element c
    value-element Root = refl
    value-element (Element name) = refl
    value-element (Attribute name old) = refl
    value-element (Text old) = refl

    valued-depth : (x : Node) → (valued n text x).depth ≡ x.depth
    valued-depth x = elim (cases_Bool (x.number == n)) [ inl e ↦ rw e refl | inr e ↦ rw e refl ]

    valued-number : (x : Node) → (valued n text x).number ≡ x.number
    valued-number x = elim (cases_Bool (x.number == n)) [ inl e ↦ rw e refl | inr e ↦ rw e refl ]

    valued-element : (x : Node) → is_element (valued n text x).content ≡ is_element x.content
    valued-element x = elim (cases_Bool (x.number == n)) [ inl e ↦ rw e (value-element x.content) | inr e ↦ rw e refl ]

    valued-numbers : (xs : List Node) → numbers (map (valued n text) xs) ≡ numbers xs
    valued-numbers [] = refl
    valued-numbers (x ∷ xs) = ap (λ m. m ∷ numbers (map (valued n text) xs)) (valued-number x) ∙ ap (λ l. x.number ∷ l) (valued-numbers xs)

    valued-kind : (nodes : List Node) → kind_at n (with_attribute_text n text nodes) ≡ kind_at n nodes
    valued-kind [] = refl
    valued-kind (x ∷ xs) = elim (cases_Bool (x.number == n)) [ inl e ↦ rw e (rw e (ap (λ k. Some k) (value-kind x.content))) | inr e ↦ rw e (rw e (valued-kind xs)) ]

    valued-child : (stay : List Node) (x : Node) → child (visit (map (valued n text) stay) (valued n text x)) ≡ child (visit stay x)
    valued-child stay x =
        let f = valued n text in
        ap (λ d. is_element (f x).content && is_first n (numbers (still_above d (map f stay)))) (valued-depth x)
        ∙ ap (λ l. is_element (f x).content && is_first n (numbers l)) (still_above-map f valued-depth x.depth stay)
        ∙ ap (λ l. is_element (f x).content && is_first n l) (valued-numbers (still_above x.depth stay))
        ∙ ap (λ b. b && is_first n (numbers (still_above x.depth stay))) (valued-element x)

    valued-elements : (stay xs : List Node) → list_any child (visits_from (map (valued n text) stay) (map (valued n text) xs)) ≡ list_any child (visits_from stay xs)
    valued-elements stay [] = refl
    valued-elements stay (x ∷ xs) =
        let f = valued n text in
        ap (λ b. b || list_any child (visits_from (f x ∷ still_above (f x).depth (map f stay)) (map f xs))) (valued-child stay x)
        ∙ ap (λ l. child (visit stay x) || list_any child (visits_from (f x ∷ l) (map f xs))) (ap (λ d. still_above d (map f stay)) (valued-depth x) ∙ still_above-map f valued-depth x.depth stay)
        ∙ ap (λ b. child (visit stay x) || b) (valued-elements (x ∷ still_above x.depth stay) xs)

-- ---- the texts that were taken are kept

abbrev is_kept_of : ℕ → ℕ → KeptText → Bool
is_kept_of owner n t = (t.number == n) && (t.owner == owner)

or-true : (b : Bool) → (b || true) ≡ true
or-true true = refl
or-true false = refl

same : (n : ℕ) → (n == n) ≡ true
same n = grind (arith, nat_tests)

has-kept : (owner n : ℕ) (ts us : List KeptText) → list_any (is_kept_of owner n) us ≡ true → list_any (is_kept_of owner n) (ts ++ us) ≡ true
has-kept owner n [] us h = h
has-kept owner n (t ∷ ts) us h = ap (λ b. is_kept_of owner n t || b) (has-kept owner n ts us h) ∙ or-true (is_kept_of owner n t)

among : (owner : ℕ) (x : Node) (us xs : List Node) → list_any (is_kept_of owner x.number) (kept_from owner (us ++ (x ∷ xs))) ≡ true
among owner x [] xs = rw (same x.number, same owner) refl
among owner x (u ∷ us) xs = ap (λ b. ((u.number == x.number) && (owner == owner)) || b) (among owner x us xs) ∙ or-true ((u.number == x.number) && (owner == owner))

shift : (x : Node) (us xs : List Node) → (us ++ (x ∷ [])) ++ xs ≡ us ++ (x ∷ xs)
shift x [] xs = refl
shift x (u ∷ us) xs = ap (λ l. u ∷ l) (shift x us xs)

taken-kept : (owner : ℕ) (kept : List KeptText) (pre texts : List Node) → are_kept_of owner (numbers texts) (kept ++ kept_from owner (pre ++ texts)) ≡ true
taken-kept owner kept pre [] = refl
taken-kept owner kept pre (x ∷ xs) =
    let here : list_any (is_kept_of owner x.number) (kept ++ kept_from owner (pre ++ (x ∷ xs))) ≡ true = has-kept owner x.number kept (kept_from owner (pre ++ (x ∷ xs))) (among owner x pre xs) in
    ap (λ b. b && are_kept_of owner (numbers xs) (kept ++ kept_from owner (pre ++ (x ∷ xs)))) here
    ∙ subst (λ l. are_kept_of owner (numbers xs) (kept ++ kept_from owner l) ≡ true) (shift x pre xs) (taken-kept owner kept (pre ++ (x ∷ [])) xs)

-- ---- which case it is

some : {K : Type 0} {a b : K} → ◌≡◌ {A = Option K} (Some a) (Some b) → a ≡ b
some e = cc e

attribute-kind : (c : Content) → kind_of c ≡ kind.Attribute → is_attribute c ≡ true
attribute-kind Root e = cc e
attribute-kind (Element name) e = cc e
attribute-kind (Attribute name text) e = refl
attribute-kind (Text text) e = cc e

element-kind : (c : Content) → kind_of c ≡ kind.Element → is_attribute c ≡ false
element-kind Root e = refl
element-kind (Element name) e = refl
element-kind (Attribute name text) e = cc e
element-kind (Text text) e = refl

attribute-there : (n : ℕ) (nodes : List Node) → kind_at n nodes ≡ Some kind.Attribute → is_attribute_at n nodes ≡ true
attribute-there n [] h = cc h
attribute-there n (x ∷ xs) h = elim (cases_Bool (x.number == n)) [ inl e ↦ rw (e, attribute-kind x.content (some (rw e at h))) refl | inr e ↦ rw e (attribute-there n xs (rw e at h)) ]

element-there : (n : ℕ) (nodes : List Node) → are_apart nodes ≡ true → kind_at n nodes ≡ Some kind.Element → is_attribute_at n nodes ≡ false
element-there n [] apart h = refl
element-there n (x ∷ xs) apart h =
    elim (cases_Bool (x.number == n)) [
      | inl e ↦ rw (e, element-kind x.content (some (rw e at h)), attribute-absent n xs (gone-after n x xs apart e)) refl
      | inr e ↦ rw e (element-there n xs (and-true (not (has_number x.number xs)) (are_apart xs) apart).1 (rw e at h))
    ]

-- ---- both

abbrev after_text : ℕ → List ℕ → Keeping → Keeping
after_text n text k = record { forest = with_text n text k.forest; kept = k.kept ++ taken_from n k.forest.nodes }

set-back : (n : ℕ) (text : List ℕ) (k : Keeping) → are_apart k.forest.nodes ≡ true → IsSettable n k.forest → MayPutBack n (before_of n k.forest.nodes) (after_text n text k)
set-back n text k apart able = by able.kind
  where
    by : (kind_at n k.forest.nodes ≡ Some kind.Attribute) ⊎ (kind_at n k.forest.nodes ≡ Some kind.Element) → MayPutBack n (before_of n k.forest.nodes) (after_text n text k)
    by (inl h) = rw (attribute-there n k.forest.nodes h) (record { fits = valued-kind n text k.forest.nodes ∙ h; childless = valued-elements n text [] k.forest.nodes ∙ able.childless })
    by (inr h) =
        let texts = texts_in (tree_of n k.forest.nodes) in
        rw (element-there n k.forest.nodes apart h) (record {
          fits = (texts-kind n (one_text k.forest.next text) k.forest.nodes ∙ h, taken-kept n k.kept [] texts);
          childless = with-none n k.forest.next text [] k.forest.nodes refl apart;
        })

-- what a text took the place of may be put back
set-may : (l : Limits) (n : ℕ) (text : List ℕ) (k after : Keeping) (before : Before) → AreTrees k → IsSettable n k.forest → text_set l n text k ≡ Ok (before, after) → MayPutBack n before after
set-may l n text k after before trees able e = by (passed_by_text l (length text) (with_text n text k.forest).nodes) e
  where
    by : (fault : Option TreeFault) → unless {X = Before × Keeping} fault (before_of n k.forest.nodes, after_text n text k) ≡ Ok (before, after) → MayPutBack n before after
    by None e =
        let same : ◌≡◌ {A = Before × Keeping} (before_of n k.forest.nodes, after_text n text k) (before, after) = cc e in
        subst (λ (p : Before × Keeping). MayPutBack n p.0 p.1) same (set-back n text k trees.apart able)
    by (Some fault) e = cc e

pub put_back-requires : goal.put_back-requires
put_back-requires c =
    set-may limits c.args.node.number c.args.text.now c.args.self.now.forest c.set_text.new.self c.in-Ok.before c.are_trees.ensures (c.if-not-may_set_text.ensures.0 refl) c.in-Ok.ensures.answer

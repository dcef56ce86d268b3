-- Data that hold other contents: their structure is the same, and so is the string value of a node, where it and what is below it have the
-- same contents.
use Rattle.std.proofs.Common.{◌≡◌, ℕ, ◌==◌, Bool, true, false, not, cond, ◌&&◌, inl, inr, List, [], ◌∷◌, ◌++◌, map, Option, Some, None, if◌then◌else◌, refl, sym, ap, ◌∙◌}
use Rattle.std.specs.Prelude.{filter}
use Rattle.std.specs.List.{flat_map}
use Rattle.std.proofs.lemmas.List.{append_assoc, append-nil}
use Rattle.std.proofs.lemmas.Bool.{cases_Bool, false≢true}
use Rattle.xf_def_forest.specs.declared.content.Content.{Content}
use Rattle.xf_def_forest.specs.declared.content.Content.TheVariants.{Root, Element, Attribute, Text}
use Rattle.xf_def_forest.specs.Forest.{is_text, is_element, is_attribute}
use Rattle.xf_def_forest.specs.Visit.{Visit, has, has_parent}
use Rattle.xf_def_forest.specs.Shape.{Texts, text_number, is_replaced, is_gone, text_visit, given_visits, visits_in, is_borne, filled, without_text, erased, texts_given, value_given, with_value}
use Rattle.xf_def_forest.specs.StringValue.{characters, text_below}
use Rattle.xf_def_forest.proofs.RenumberLaws.{flat-through}
use Rattle.xf_def_model.specs.Settled.{Contents, content_of, holding}
use Rattle.xf_def_model.specs.Pertinent.{AllOf}

-- ---- without the texts

abbrev pub structure : List Visit → List Visit
structure all = filter (λ x. not (is_text x.content)) (map erased all)

abbrev AreTexts : List Visit → Type 0
AreTexts xs = AllOf (λ x. is_text x.content ≡ true) xs

kept-kind : (c : Content) → is_text (without_text c) ≡ is_text c
kept-kind Root = refl
kept-kind (Element name) = refl
kept-kind (Attribute name text) = refl
kept-kind (Text text) = refl

one-more : (x : Visit) (b : Bool) (ys zs : List Visit) → ys ≡ zs → cond b (x ∷ ys) ys ≡ cond b (x ∷ zs) zs
one-more x b ys zs e = ap (λ l. cond b (x ∷ l) l) e

in_front : (x : Visit) (b : Bool) (ls xs ys : List Visit) → ls ≡ xs ++ ys → cond b (x ∷ ls) ls ≡ cond b (x ∷ xs) xs ++ ys
in_front x true ls xs ys e = ap (λ l. x ∷ l) e
in_front x false ls xs ys e = e

structure-append : (xs ys : List Visit) → structure (xs ++ ys) ≡ structure xs ++ structure ys
structure-append [] ys = refl
structure-append (x ∷ xs) ys = in_front (erased x) (not (is_text (without_text x.content))) (structure (xs ++ ys)) (structure xs) (structure ys) (structure-append xs ys)

structure-texts : (xs : List Visit) → AreTexts xs → structure xs ≡ []
structure-texts [] h = refl
structure-texts (x ∷ xs) h = rw (kept-kind x.content, h.0) (structure-texts xs h.1)

given-texts : (x : Visit) (m : Option (List (List ℕ))) → AreTexts (given_visits x m)
given-texts x None = tt
given-texts x (Some ts) = by ts
  where
    by : (us : List (List ℕ)) → AreTexts (map (text_visit x) us)
    by [] = tt
    by (u ∷ us) = (refl, by us)

visits-texts : (t : Texts) (x : Visit) → AreTexts (visits_in t x)
visits-texts t x = at (is_element x.content)
  where
    at : (b : Bool) → AreTexts (if b then given_visits x (t x.number) else [])
    at true = given-texts x (t x.number)
    at false = tt

filled-at : (t : Texts) (waiting xs : List Visit) (x : Visit) (b : Bool) → AreTexts waiting
    → structure (filled (visits_in t) waiting xs) ≡ structure xs → structure (filled (visits_in t) (visits_in t x) xs) ≡ structure xs
    → structure (if b then x ∷ filled (visits_in t) waiting xs else waiting ++ x ∷ filled (visits_in t) (visits_in t x) xs) ≡ structure (x ∷ xs)
filled-at t waiting xs x true h p q = one-more (erased x) (not (is_text (without_text x.content))) _ _ p
filled-at t waiting xs x false h p q =
    structure-append waiting (x ∷ filled (visits_in t) (visits_in t x) xs)
    ∙ ap (λ l. l ++ structure (x ∷ filled (visits_in t) (visits_in t x) xs)) (structure-texts waiting h)
    ∙ one-more (erased x) (not (is_text (without_text x.content))) _ _ q

filled-structure : (t : Texts) (waiting xs : List Visit) → AreTexts waiting → structure (filled (visits_in t) waiting xs) ≡ structure xs
filled-structure t waiting [] h = structure-texts waiting h
filled-structure t waiting (x ∷ xs) h = filled-at t waiting xs x (is_borne x) h (filled-structure t waiting xs h) (filled-structure t (visits_in t x) xs (visits-texts t x))

gone-at : (x : Visit) (b c : Bool) → is_text x.content ≡ b → (ys xs : List Visit) → structure ys ≡ structure xs → structure (cond (not (b && c)) (x ∷ ys) ys) ≡ structure (x ∷ xs)
gone-at x true true e ys xs h = rw (kept-kind x.content, e) h
gone-at x true false e ys xs h = one-more (erased x) (not (is_text (without_text x.content))) _ _ h
gone-at x false c e ys xs h = one-more (erased x) (not (is_text (without_text x.content))) _ _ h

gone-structure : (t : Texts) (xs : List Visit) → structure (filter (λ x. not (is_gone t x)) xs) ≡ structure xs
gone-structure t [] = refl
gone-structure t (x ∷ xs) = gone-at x (is_text x.content) (is_replaced t x.above) refl (filter (λ y. not (is_gone t y)) xs) xs (gone-structure t xs)

value-structure : (given : ℕ → Option (List ℕ)) (xs : List Visit) → structure (map (with_value given) xs) ≡ structure xs
value-structure given [] = refl
value-structure given (x ∷ xs) =
    ap (λ (c : Content). cond (not (is_text c)) (record x { content = c } ∷ structure (map (with_value given) xs)) (structure (map (with_value given) xs))) (same (given x.number) x.content)
    ∙ ap (λ l. cond (not (is_text (without_text x.content))) (erased x ∷ l) l) (value-structure given xs)
  where
    same : (m : Option (List ℕ)) (c : Content) → without_text (value_given m c) ≡ without_text c
    same None c = refl
    same (Some text) Root = refl
    same (Some text) (Element name) = refl
    same (Some text) (Attribute name old) = refl
    same (Some text) (Text old) = refl

pub structure-kept : (all : List Visit) (contents : Contents) → structure (holding all contents) ≡ structure all
structure-kept all contents =
    let t : Texts = λ n. texts_given (content_of contents n) in
    filled-structure t [] (filter (λ x. not (is_gone t x)) (map (with_value (content_of contents)) all)) tt
    ∙ gone-structure t (map (with_value (content_of contents)) all)
    ∙ value-structure (content_of contents) all

-- ---- string values

-- what a visit has to do with the string value of a node: those of the node and below it hold the same content for both
pub record SameAt (m : ℕ) (one other : Contents) (x : Visit) : Type 0 where
  -- of the visited node itself, and of the element in which a text stands
  pub itself : has m (x.number ∷ x.above) ≡ true → content_of one x.number ≡ content_of other x.number
  pub parent : has m x.above ≡ true → is_replaced (λ n. texts_given (content_of one n)) x.above ≡ is_replaced (λ n. texts_given (content_of other n)) x.above
  -- the node is no text, neither one that stands nor one that is given
  pub no_text : is_text x.content ≡ true → (x.number == m) ≡ false
  pub no_given : (text_number x.number == m) ≡ false

abbrev pub texts_by : Contents → Texts
texts_by contents n = texts_given (content_of contents n)

module _ (m : ℕ) where
  abbrev below : List Visit → List ℕ
  below xs = flat_map (text_below m) xs

  below-append : (xs ys : List Visit) → below (xs ++ ys) ≡ below xs ++ below ys
  below-append [] ys = refl
  below-append (x ∷ xs) ys = ap (λ l. text_below m x ++ l) (below-append xs ys) ∙ sym (append_assoc (text_below m x) (below xs) (below ys))

  -- texts given for an element that is not below the node say nothing
  nothing-below : (x : Visit) (ts : List (List ℕ)) → has m (x.number ∷ x.above) ≡ false → below (map (text_visit x) ts) ≡ []
  nothing-below x [] h = refl
  nothing-below x (t ∷ ts) h = rw h (nothing-below x ts h)

  none-below : (x : Visit) (g : Option (List (List ℕ))) → has m (x.number ∷ x.above) ≡ false → below (given_visits x g) ≡ []
  none-below x None h = refl
  none-below x (Some ts) h = nothing-below x ts h

  -- ---- each visit gives its piece

  abbrev pub piece : Texts → Visit → List ℕ
  piece t x = if is_gone t x then [] else text_below m x ++ below (visits_in t x)

  nothing-borne : (x : Visit) (c : Content) (b : Bool) → is_attribute c ≡ true → (if b then characters c else []) ≡ []
  nothing-borne x Root b h = absurd (false≢true h)
  nothing-borne x (Element name) b h = absurd (false≢true h)
  nothing-borne x (Text text) b h = absurd (false≢true h)
  nothing-borne x (Attribute name text) true h = refl
  nothing-borne x (Attribute name text) false h = refl

  no-element : (c : Content) → is_attribute c ≡ true → is_element c ≡ false
  no-element Root h = refl
  no-element (Element name) h = sym h
  no-element (Attribute name text) h = refl
  no-element (Text text) h = refl

  left-of : (b c : Bool) → (b && c) ≡ true → b ≡ true
  left-of true c h = refl
  left-of false c h = h

  flushed-at : (t : Texts) (waiting xs : List Visit) (x : Visit) (b : Bool) → is_borne x ≡ b
      → below (filled (visits_in t) waiting xs) ≡ below waiting ++ flat_map (λ x. text_below m x ++ below (visits_in t x)) xs
      → below (filled (visits_in t) (visits_in t x) xs) ≡ below (visits_in t x) ++ flat_map (λ x. text_below m x ++ below (visits_in t x)) xs
      → below (if b then x ∷ filled (visits_in t) waiting xs else waiting ++ x ∷ filled (visits_in t) (visits_in t x) xs)
      ≡ below waiting ++ (text_below m x ++ below (visits_in t x) ++ flat_map (λ x. text_below m x ++ below (visits_in t x)) xs)
  flushed-at t waiting xs x true e p q =
      let attribute = left-of (is_attribute x.content) (has_parent x.above) e in
      rw (nothing-borne x x.content (has m x.above) attribute, no-element x.content attribute) p
  flushed-at t waiting xs x false e p q =
      below-append waiting (x ∷ filled (visits_in t) (visits_in t x) xs)
      ∙ ap (λ l. below waiting ++ (text_below m x ++ l)) q
      ∙ ap (λ l. below waiting ++ l) (sym (append_assoc (text_below m x) (below (visits_in t x)) (flat_map (λ x. text_below m x ++ below (visits_in t x)) xs)))

  kept-at : (t : Texts) (x : Visit) (b : Bool) (xs : List Visit) (rest : List ℕ) → flat_map (λ x. text_below m x ++ below (visits_in t x)) xs ≡ rest
      → flat_map (λ x. text_below m x ++ below (visits_in t x)) (cond (not b) (x ∷ xs) xs) ≡ (if b then [] else text_below m x ++ below (visits_in t x)) ++ rest
  kept-at t x true xs rest h = h
  kept-at t x false xs rest h = ap (λ l. text_below m x ++ below (visits_in t x) ++ l) h

  -- what waits comes first: only attributes stand before it, which say nothing
  flushed : (t : Texts) (waiting xs : List Visit) → below (filled (visits_in t) waiting xs) ≡ below waiting ++ flat_map (λ x. text_below m x ++ below (visits_in t x)) xs
  flushed t waiting [] = sym (append-nil (below waiting))
  flushed t waiting (x ∷ xs) = flushed-at t waiting xs x (is_borne x) refl (flushed t waiting xs) (flushed t (visits_in t x) xs)

  kept-pieces : (t : Texts) (xs : List Visit) → flat_map (λ x. text_below m x ++ below (visits_in t x)) (filter (λ x. not (is_gone t x)) xs) ≡ flat_map (piece t) xs
  kept-pieces t [] = refl
  kept-pieces t (x ∷ xs) = kept-at t x (is_gone t x) (filter (λ y. not (is_gone t y)) xs) (flat_map (piece t) xs) (kept-pieces t xs)

  -- attributes with other texts give the same pieces
  value-characters : (g : Option (List ℕ)) (c : Content) → characters (value_given g c) ≡ characters c
  value-characters None c = refl
  value-characters (Some text) Root = refl
  value-characters (Some text) (Element name) = refl
  value-characters (Some text) (Attribute name old) = refl
  value-characters (Some text) (Text old) = refl

  pub value-text : (g : Option (List ℕ)) (c : Content) → is_text (value_given g c) ≡ is_text c
  value-text None c = refl
  value-text (Some text) Root = refl
  value-text (Some text) (Element name) = refl
  value-text (Some text) (Attribute name old) = refl
  value-text (Some text) (Text old) = refl

  value-element : (g : Option (List ℕ)) (c : Content) → is_element (value_given g c) ≡ is_element c
  value-element None c = refl
  value-element (Some text) Root = refl
  value-element (Some text) (Element name) = refl
  value-element (Some text) (Attribute name old) = refl
  value-element (Some text) (Text old) = refl

  value-piece : (t : Texts) (given : ℕ → Option (List ℕ)) (x : Visit) → piece t (with_value given x) ≡ piece t x
  value-piece t given x =
      rw (value-text (given x.number) x.content, value-characters (given x.number) x.content, value-element (given x.number) x.content) refl

  pub held-below : (all : List Visit) (contents : Contents) → below (holding all contents) ≡ flat_map (piece (texts_by contents)) all
  held-below all contents =
      flushed (texts_by contents) [] (filter (λ x. not (is_gone (texts_by contents) x)) (map (with_value (content_of contents)) all))
      ∙ kept-pieces (texts_by contents) (map (with_value (content_of contents)) all)
      ∙ flat-through (with_value (content_of contents)) (piece (texts_by contents)) (piece (texts_by contents)) (value-piece (texts_by contents) (content_of contents)) all

  module _ (one other : Contents) where
    pub given-below : (x : Visit) (b : Bool) → SameAt m one other x
        → below (if b then given_visits x (texts_by one x.number) else []) ≡ below (if b then given_visits x (texts_by other x.number) else [])
    given-below x false h = refl
    given-below x true h = elim (cases_Bool (has m (x.number ∷ x.above))) [
      | inl e ↦ ap (λ c. below (given_visits x (texts_given c))) (h.itself e)
      | inr e ↦ none-below x (texts_by one x.number) e ∙ sym (none-below x (texts_by other x.number) e)
    ]

    pub silent : (c : Content) (b d : Bool) (ts us : List Visit) → is_text c ≡ true
        → (if d then [] else [] ++ below (if is_element c then ts else [])) ≡ (if b then [] else [] ++ below (if is_element c then us else []))
    silent Root b d ts us h = absurd (false≢true h)
    silent (Element name) b d ts us h = absurd (false≢true h)
    silent (Attribute name text) b d ts us h = absurd (false≢true h)
    silent (Text text) true true ts us h = refl
    silent (Text text) true false ts us h = refl
    silent (Text text) false true ts us h = refl
    silent (Text text) false false ts us h = refl

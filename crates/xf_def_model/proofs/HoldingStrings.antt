-- The string value of a node in data that hold other contents is the same, where the node and what is below it have the same contents.
use Rattle.std.proofs.Common.{◌≡◌, ℕ, ◌==◌, Bool, true, false, not, cond, ◌&&◌, ◌||◌, inl, inr, List, [], ◌∷◌, ◌++◌, map, find, Option, Some, None, option_map, if◌then◌else◌, refl, sym, ap, ◌∙◌}
use Rattle.std.specs.Prelude.{filter}
use Rattle.std.specs.List.{flat_map}
use Rattle.std.proofs.lemmas.Bool.{cases_Bool, eqb-true, eq-eqb}
use Rattle.xf_def_forest.specs.Forest.{is_text, is_element, own_text}
use Rattle.xf_def_forest.specs.Visit.{Visit, has}
use Rattle.xf_def_forest.specs.Shape.{Texts, text_number, is_replaced, is_gone, text_visit, given_visits, visits_in, is_borne, filled, value_given, with_value}
use Rattle.xf_def_forest.specs.StringValue.{text_below, value_in, string_value}
use Rattle.xf_def_model.specs.Settled.{Contents, content_of, holding}
use Rattle.xf_def_model.specs.Pertinent.{AllOf}
use Rattle.xf_def_model.proofs.EachLemmas.{each_then}
use Rattle.xf_def_model.proofs.HoldingLaws.{SameAt, texts_by, piece, silent, given-below, held-below, value-text}

-- ---- facts of each, of parts and of what is made

each-kept : {X : Type 0} (P : X → Type 0) (test : X → Bool) (xs : List X) → AllOf P xs → AllOf P (filter test xs)
each-kept P test [] h = tt
each-kept P test (x ∷ xs) h = at (test x) (filter test xs) (each-kept P test xs h.1)
  where
    at : (b : Bool) (ys : List _) → AllOf P ys → AllOf P (cond b (x ∷ ys) ys)
    at true ys k = (h.0, k)
    at false ys k = k

each-made : {X Y : Type 0} (g : X → Y) (P : Y → Type 0) (xs : List X) → AllOf (λ x. P (g x)) xs → AllOf P (map g xs)
each-made g P [] h = tt
each-made g P (x ∷ xs) h = (h.0, each-made g P xs h.1)

module _ (m : ℕ) where
  abbrev is_it : Visit → Bool
  is_it x = x.number == m

  abbrev Others : List Visit → Type 0
  Others xs = AllOf (λ x. (x.number == m) ≡ false) xs

  -- ---- the visit of the node

  past-others : (xs ys : List Visit) → Others xs → find is_it (xs ++ ys) ≡ find is_it ys
  past-others [] ys h = refl
  past-others (x ∷ xs) ys h = rw h.0 (past-others xs ys h.1)

  none-of_others : (xs : List Visit) → Others xs → find is_it xs ≡ None
  none-of_others [] h = refl
  none-of_others (x ∷ xs) h = rw h.0 (none-of_others xs h.1)

  given-others : (x : Visit) → (text_number x.number == m) ≡ false → (g : Option (List (List ℕ))) → Others (given_visits x g)
  given-others x h None = tt
  given-others x h (Some ts) = by ts
    where
      by : (us : List (List ℕ)) → Others (map (text_visit x) us)
      by [] = tt
      by (u ∷ us) = (h, by us)

  in-others : (t : Texts) (x : Visit) → (text_number x.number == m) ≡ false → Others (visits_in t x)
  in-others t x h = at (is_element x.content)
    where
      at : (b : Bool) → Others (if b then given_visits x (t x.number) else [])
      at true = given-others x h (t x.number)
      at false = tt

  found-at : (t : Texts) (waiting xs : List Visit) (x : Visit) (b : Bool) → Others waiting
      → find is_it (filled (visits_in t) waiting xs) ≡ find is_it xs → find is_it (filled (visits_in t) (visits_in t x) xs) ≡ find is_it xs
      → find is_it (if b then x ∷ filled (visits_in t) waiting xs else waiting ++ x ∷ filled (visits_in t) (visits_in t x) xs) ≡ find is_it (x ∷ xs)
  found-at t waiting xs x true h p q = ap (cond (x.number == m) (Some x)) p
  found-at t waiting xs x false h p q = past-others waiting (x ∷ filled (visits_in t) (visits_in t x) xs) h ∙ ap (cond (x.number == m) (Some x)) q

  found-filled : (t : Texts) (waiting xs : List Visit) → Others waiting → AllOf (λ x. (text_number x.number == m) ≡ false) xs → find is_it (filled (visits_in t) waiting xs) ≡ find is_it xs
  found-filled t waiting [] h k = none-of_others waiting h
  found-filled t waiting (x ∷ xs) h k = found-at t waiting xs x (is_borne x) h (found-filled t waiting xs h k.1) (found-filled t (visits_in t x) xs (in-others t x k.0) k.1)

  kept-at : (x : Visit) (b c : Bool) → is_text x.content ≡ b → (is_text x.content ≡ true → (x.number == m) ≡ false) → (ys xs : List Visit) → find is_it ys ≡ find is_it xs
      → find is_it (cond (not (b && c)) (x ∷ ys) ys) ≡ find is_it (x ∷ xs)
  kept-at x true true e h ys xs k = rw (h e) k
  kept-at x true false e h ys xs k = ap (cond (x.number == m) (Some x)) k
  kept-at x false c e h ys xs k = ap (cond (x.number == m) (Some x)) k

  found-kept : (t : Texts) (xs : List Visit) → AllOf (λ x. is_text x.content ≡ true → (x.number == m) ≡ false) xs → find is_it (filter (λ x. not (is_gone t x)) xs) ≡ find is_it xs
  found-kept t [] h = refl
  found-kept t (x ∷ xs) h = kept-at x (is_text x.content) (is_replaced t x.above) refl h.0 (filter (λ y. not (is_gone t y)) xs) xs (found-kept t xs h.1)

  -- its own text and what is below it
  abbrev joined_value : Option (List ℕ) → List ℕ → List ℕ
  joined_value None below = []
  joined_value (Some own) below = own ++ below

  abbrev own_of : List Visit → Option (List ℕ)
  own_of xs = option_map (λ x. own_text x.content) (find is_it xs)

  value-at : (all : List Visit) (x : Visit) (b : Bool) (rest : Option Visit) → (x.number == m) ≡ b
      → value_in all rest ≡ joined_value (option_map (λ y. own_text y.content) rest) (flat_map (text_below m) all)
      → value_in all (cond b (Some x) rest) ≡ joined_value (option_map (λ y. own_text y.content) (cond b (Some x) rest)) (flat_map (text_below m) all)
  value-at all x true rest e h = ap (λ n. own_text x.content ++ flat_map (text_below n) all) (eqb-true x.number m e)
  value-at all x false rest e h = h

  value-found : (all xs : List Visit) → value_in all (find is_it xs) ≡ joined_value (own_of xs) (flat_map (text_below m) all)
  value-found all [] = refl
  value-found all (x ∷ xs) = value-at all x (x.number == m) (find is_it xs) refl (value-found all xs)

  module _ (one other : Contents) where
    own-at : (x : Visit) (b : Bool) → (x.number == m) ≡ b → SameAt m one other x → (r s : Option Visit) → option_map (λ y. own_text y.content) r ≡ option_map (λ y. own_text y.content) s
        → option_map (λ y. own_text y.content) (cond b (Some (with_value (content_of one) x)) r) ≡ option_map (λ y. own_text y.content) (cond b (Some (with_value (content_of other) x)) s)
    own-at x true e h r s k =
        ap (λ c. Some (own_text (value_given c x.content))) (h.itself (self x.number (x.number == m) e))
      where
        self : (n : ℕ) (c : Bool) → (n == m) ≡ true → has m (n ∷ x.above) ≡ true
        self n c e = ap (λ d. d || has m x.above) (eq-eqb m n (sym (eqb-true n m e)))
    own-at x false e h r s k = k

    own-same : (xs : List Visit) → AllOf (SameAt m one other) xs → own_of (map (with_value (content_of one)) xs) ≡ own_of (map (with_value (content_of other)) xs)
    own-same [] h = refl
    own-same (x ∷ xs) h = own-at x (x.number == m) refl h.0 (find is_it (map (with_value (content_of one)) xs)) (find is_it (map (with_value (content_of other)) xs)) (own-same xs h.1)

    -- ---- what is below

    piece-above : (x : Visit) → has m x.above ≡ true → SameAt m one other x → piece m (texts_by one) x ≡ piece m (texts_by other) x
    piece-above x e h =
        ap (λ b. if is_text x.content && b then [] else text_below m x ++ flat_map (text_below m) (visits_in (texts_by one) x)) (h.parent e)
        ∙ ap (λ l. if is_text x.content && is_replaced (texts_by other) x.above then [] else text_below m x ++ l) (given-below m one other x (is_element x.content) h)

    piece-beside : (x : Visit) (b : Bool) → is_text x.content ≡ b → has m x.above ≡ false → SameAt m one other x → piece m (texts_by one) x ≡ piece m (texts_by other) x
    piece-beside x true k e h =
        rw e (silent m one other x.content (is_text x.content && is_replaced (texts_by other) x.above) (is_text x.content && is_replaced (texts_by one) x.above)
        (given_visits x (texts_by one x.number)) (given_visits x (texts_by other x.number)) k)
    piece-beside x false k e h = rw (e, k) (given-below m one other x (is_element x.content) h)

    piece-same : (x : Visit) → SameAt m one other x → piece m (texts_by one) x ≡ piece m (texts_by other) x
    piece-same x h = elim (cases_Bool (has m x.above)) [ inl e ↦ piece-above x e h | inr e ↦ piece-beside x (is_text x.content) refl e h ]

    pieces-same : (xs : List Visit) → AllOf (SameAt m one other) xs → flat_map (piece m (texts_by one)) xs ≡ flat_map (piece m (texts_by other)) xs
    pieces-same [] h = refl
    pieces-same (x ∷ xs) h = ap (λ l. l ++ flat_map (piece m (texts_by one)) xs) (piece-same x h.0) ∙ ap (λ l. piece m (texts_by other) x ++ l) (pieces-same xs h.1)

  -- ---- the string value

  own-held : (all : List Visit) (contents : Contents) → AllOf (λ x. is_text x.content ≡ true → (x.number == m) ≡ false) all → AllOf (λ x. (text_number x.number == m) ≡ false) all
      → own_of (holding all contents) ≡ own_of (map (with_value (content_of contents)) all)
  own-held all contents no_text no_given =
      let valued = map (with_value (content_of contents)) all in
      ap (option_map (λ y. own_text y.content))
      (found-filled (texts_by contents) [] (filter (λ x. not (is_gone (texts_by contents) x)) valued) tt
      (each-kept _ (λ x. not (is_gone (texts_by contents) x)) valued (each-made (with_value (content_of contents)) _ all no_given))
      ∙ found-kept (texts_by contents) valued
      (each-made (with_value (content_of contents)) _ all (each_then _ _ (λ x h e. h (sym (value-text m (content_of contents x.number) x.content) ∙ e)) all no_text)))

  pub string_value-kept : (all : List Visit) (one other : Contents) → AllOf (SameAt m one other) all → string_value m (holding all one) ≡ string_value m (holding all other)
  string_value-kept all one other h =
      let no_text = each_then (SameAt m one other) (λ x. is_text x.content ≡ true → (x.number == m) ≡ false) (λ x k. k.no_text) all h in
      let no_given = each_then (SameAt m one other) (λ x. (text_number x.number == m) ≡ false) (λ x k. k.no_given) all h in
      value-found (holding all one) (holding all one)
      ∙ ap (λ own. joined_value own (flat_map (text_below m) (holding all one))) (own-held all one no_text no_given ∙ own-same one other all h ∙ sym (own-held all other no_text no_given))
      ∙ ap (joined_value (own_of (holding all other))) (held-below m all one ∙ pieces-same one other all h ∙ sym (held-below m all other))
      ∙ sym (value-found (holding all other) (holding all other))

-- Data that hold other contents, as trees: what `holding` makes of their visits.
use Rattle.std.proofs.Common.{◌≡◌, ℕ, Bool, true, false, not, ◌&&◌, if◌then◌else◌, List, [], ◌∷◌, ◌++◌, map, Option, Some, None, refl, sym, ap, ◌∙◌, inl, inr, append-nil}
use Rattle.std.specs.Prelude.{◌⊎◌, ⊤, filter, is_some}
use Rattle.std.proofs.lemmas.Bool.{cases_Bool}
use Rattle.xf_def_forest.specs.declared.content.Content.{Content}
use Rattle.xf_def_forest.specs.declared.content.Content.TheVariants.{Root, Element, Attribute, Text}
use Rattle.xf_def_forest.specs.Forest.{is_element, is_attribute, is_text}
use Rattle.xf_def_forest.specs.Visit.{Visit, has_parent, visits}
use Rattle.xf_def_forest.specs.Shape.{Texts, text_number, is_replaced, is_gone, given_visits, visits_in, filled, as_texts, texts_given, value_given, with_value, with_contents}
use Rattle.xf_def_forest.specs.Texts.{one_text}
use Rattle.xf_law_forests.proofs.RollbackLemmas.Trees.{Trees, none, tree, onto, followed}
use Rattle.xf_law_forests.proofs.RollbackLemmas.TreeTexts.{lone, attributes}
use Rattle.xf_law_forests.proofs.RollbackLemmas.TreeVisits.{seen, visits-seen}
use Rattle.xf_law_forests.proofs.RollbackLemmas.TreeShape.{is_leaf}
use Rattle.xf_law_forests.proofs.RollbackLemmas.TreeBlank.{AreLeaves}
use Rattle.xf_law_forests.proofs.RollbackLemmas.TreeOrder.{NoAttributes, AttributesFirst}
use Rattle.xf_law_forests.proofs.SettleLemmas.KindLemmas.{attribute-no_element, attribute-no_text, attribute-leaf, leaf-text, and-none}
use Rattle.xf_law_forests.proofs.SettleLemmas.Spots.{FitsHere}

abbrev pub Given : Type 0
Given = ℕ → Option (List ℕ)

-- below a node that is given a content
abbrev pub held_below : ℕ → Content → Option (List ℕ) → Trees → Trees
held_below n c None k = k
held_below n c (Some text) k = if is_element c then followed (attributes k) (lone (one_text (text_number n) text)) else k

abbrev pub hold : Given → Trees → Trees
hold given none = none
hold given (tree m c k r) = tree m (value_given (given m) c) (held_below m c (given m) (hold given k)) (hold given r)

-- a node that is given a content fits, nothing is below a leaf, and attributes come first below each node
abbrev pub Good : Given → Trees → Type 0
Good given none = ⊤
Good given (tree m c k r) = (is_some (given m) ≡ true → FitsHere c k) × (is_leaf c ≡ true → k ≡ none) × AttributesFirst k × Good given k × Good given r

-- ---- kinds that stay

pub given-attribute : (o : Option (List ℕ)) (c : Content) → is_attribute (value_given o c) ≡ is_attribute c
given-attribute None Root = refl
given-attribute None (Element name) = refl
given-attribute None (Attribute name old) = refl
given-attribute None (Text old) = refl
given-attribute (Some text) Root = refl
given-attribute (Some text) (Element name) = refl
given-attribute (Some text) (Attribute name old) = refl
given-attribute (Some text) (Text old) = refl

given-element : (o : Option (List ℕ)) (c : Content) → is_element (value_given o c) ≡ is_element c
given-element None Root = refl
given-element None (Element name) = refl
given-element None (Attribute name old) = refl
given-element None (Text old) = refl
given-element (Some text) Root = refl
given-element (Some text) (Element name) = refl
given-element (Some text) (Attribute name old) = refl
given-element (Some text) (Text old) = refl

given-text : (o : Option (List ℕ)) (c : Content) → is_text (value_given o c) ≡ is_text c
given-text None Root = refl
given-text None (Element name) = refl
given-text None (Attribute name old) = refl
given-text None (Text old) = refl
given-text (Some text) Root = refl
given-text (Some text) (Element name) = refl
given-text (Some text) (Attribute name old) = refl
given-text (Some text) (Text old) = refl

pub held-attribute : (n : ℕ) (c : Content) (o : Option (List ℕ)) (k : Trees) → is_element c ≡ false → held_below n c o k ≡ k
held-attribute n c None k e = refl
held-attribute n c (Some text) k e = rw e refl

pub seen-followed : (up : List ℕ) (t s : Trees) (vs : List Visit) → seen up (followed t s) vs ≡ seen up t (seen up s vs)
seen-followed up none s vs = refl
seen-followed up (tree n c k r) s vs = ap (λ l. record { number = n; above = up; content = c } ∷ seen (n ∷ up) k l) (seen-followed up r s vs)

module _ (given : Given) where
  abbrev texts : Texts
  texts n = texts_given (given n)

  -- what is left of visits, with their values, and with what is given put in
  abbrev left : List Visit → List Visit
  left vs = filter (λ x. not (is_gone texts x)) (map (with_value given) vs)

  abbrev put_in : List Visit → List Visit → List Visit
  put_in waiting vs = filled (visits_in texts) waiting (left vs)

  -- what waits goes before these
  abbrev Flushes : List Visit → Type 0
  Flushes vs = (waiting : List Visit) → put_in waiting vs ≡ waiting ++ put_in [] vs

  abbrev PlainLaw : Trees → Type 0
  PlainLaw t = (up : List ℕ) (vs : List Visit) → is_replaced texts up ≡ false → ((has_parent up ≡ false) ⊎ NoAttributes t) → Flushes vs
      → (waiting : List Visit) → put_in waiting (seen up t vs) ≡ waiting ++ seen up (hold given t) (put_in [] vs)

  abbrev FirstLaw : Trees → Type 0
  FirstLaw t = (up : List ℕ) (vs : List Visit) → is_replaced texts up ≡ false → has_parent up ≡ true → AttributesFirst t → Flushes vs
      → put_in [] (seen up t vs) ≡ seen up (hold given t) (put_in [] vs)

  abbrev visit_of : ℕ → List ℕ → Content → Visit
  visit_of m up c = record { number = m; above = up; content = c }

  abbrev held_visit : ℕ → List ℕ → Content → Visit
  held_visit m up c = record { number = m; above = up; content = value_given (given m) c }

  -- a visit that stays, and what waits before it or not
  stays : (m : ℕ) (up : List ℕ) (c : Content) (vs : List Visit) → (is_text c && is_replaced texts up) ≡ false → left (visit_of m up c ∷ vs) ≡ held_visit m up c ∷ left vs
  stays m up c vs e = let same = given-text (given m) c in rw (same, e) refl

  goes : (m : ℕ) (up : List ℕ) (c : Content) (vs : List Visit) → (is_text c && is_replaced texts up) ≡ true → left (visit_of m up c ∷ vs) ≡ left vs
  goes m up c vs e = let same = given-text (given m) c in rw (same, e) refl

  borne : (m : ℕ) (up : List ℕ) (c : Content) (waiting vs : List Visit) → is_attribute c ≡ true → has_parent up ≡ true
      → put_in waiting (visit_of m up c ∷ vs) ≡ held_visit m up c ∷ put_in waiting vs
  borne m up c waiting vs is inside =
      let plain = attribute-no_text c is in
      let same = given-attribute (given m) c in
      ap (filled (visits_in texts) waiting) (stays m up c vs (rw plain refl)) ∙ rw (same, is, inside) refl

  unborne : (m : ℕ) (up : List ℕ) (c : Content) (waiting vs : List Visit) → is_replaced texts up ≡ false → (is_attribute c && has_parent up) ≡ false
      → put_in waiting (visit_of m up c ∷ vs) ≡ waiting ++ held_visit m up c ∷ put_in (visits_in texts (held_visit m up c)) vs
  unborne m up c waiting vs kept out =
      let same = given-attribute (given m) c in
      ap (filled (visits_in texts) waiting) (stays m up c vs (ap (λ b. is_text c && b) kept ∙ and-none (is_text c))) ∙ rw (same, out) refl

  -- below an element whose texts go
  replaced-law : (m : ℕ) (up : List ℕ) (k : Trees) (vs waiting : List Visit) → is_some (given m) ≡ true → AreLeaves k → Flushes vs
      → put_in waiting (seen (m ∷ up) k vs) ≡ seen (m ∷ up) (attributes (hold given k)) (waiting ++ put_in [] vs)
  replaced-law m up none vs waiting some h flush = flush waiting
  replaced-law m up (tree a c j r) vs waiting some h flush =
      let next = replaced-law m up r vs waiting some h.2 flush in
      let same = given-attribute (given a) c in
      let gone = replaced (given m) some in
      elim (cases_Bool (is_attribute c)) [
        | inl is ↦
            let none_below : held_below a c (given a) (hold given none) ≡ none = held-attribute a c (given a) none (attribute-no_element c is) in
            borne a (m ∷ up) c waiting (seen (a ∷ m ∷ up) j (seen (m ∷ up) r vs)) is refl
            ∙ ap (λ x. held_visit a (m ∷ up) c ∷ put_in waiting (seen (a ∷ m ∷ up) x (seen (m ∷ up) r vs))) h.1 ∙ ap (λ l. held_visit a (m ∷ up) c ∷ l) next
            ∙ sym (ap (λ x. held_visit a (m ∷ up) c ∷ seen (a ∷ m ∷ up) x (seen (m ∷ up) (attributes (hold given r)) (waiting ++ put_in [] vs))) none_below)
            ∙ sym (ap (λ x. held_visit a (m ∷ up) c ∷ seen (a ∷ m ∷ up) (held_below a c (given a) (hold given x)) (seen (m ∷ up) (attributes (hold given r)) (waiting ++ put_in [] vs))) h.1)
            ∙ rw (same, is) refl
        | inr is ↦
            let text : is_text c ≡ true = leaf-text c h.0 is in
            ap (filled (visits_in texts) waiting) (goes a (m ∷ up) c (seen (a ∷ m ∷ up) j (seen (m ∷ up) r vs)) (rw (text, gone) refl))
            ∙ ap (λ x. put_in waiting (seen (a ∷ m ∷ up) x (seen (m ∷ up) r vs))) h.1 ∙ next ∙ rw (same, is) refl
      ]
    where
      replaced : (o : Option (List ℕ)) → is_some o ≡ true → is_some (texts_given o) ≡ true
      replaced None e = let no : false ≡ true = e in cc
      replaced (Some text) e = refl

  lone-seen : (m : ℕ) (up : List ℕ) (x : Visit) (text : List ℕ) (vs : List Visit) → x.number ≡ m → x.above ≡ up
      → seen (m ∷ up) (lone (one_text (text_number m) text)) vs ≡ map (λ t. record { number = text_number x.number; above = x.number ∷ x.above; content = Text t }) (as_texts text) ++ vs
  lone-seen m up x [] vs e f = refl
  lone-seen m up x (c ∷ cs) vs e f =
      ap (λ n. record { number = text_number n; above = n ∷ up; content = Text (c ∷ cs) } ∷ vs) (sym e) ∙ ap (λ ns. record { number = text_number x.number; above = x.number ∷ ns; content = Text (c ∷ cs) } ∷ vs) (sym f)

  -- below a node
  abbrev BelowGoal : ℕ → List ℕ → Content → Trees → List Visit → Option (List ℕ) → Type 0
  BelowGoal m up c k vs o = put_in (visits_in texts (held_visit m up c)) (seen (m ∷ up) k vs) ≡ seen (m ∷ up) (held_below m c o (hold given k)) (put_in [] vs)

  below-law : (m : ℕ) (up : List ℕ) (c : Content) (k : Trees) (vs : List Visit) → (is_some (given m) ≡ true → FitsHere c k) → (is_leaf c ≡ true → k ≡ none) → AttributesFirst k → FirstLaw k → Flushes vs
      → put_in (visits_in texts (held_visit m up c)) (seen (m ∷ up) k vs) ≡ seen (m ∷ up) (held_below m c (given m) (hold given k)) (put_in [] vs)
  below-law m up c k vs fits leaf first law flush = by (given m) refl
    where
      nothing : (b : Bool) → given m ≡ None → (if b then given_visits (held_visit m up c) (texts m) else []) ≡ []
      nothing true e = ap (λ o. given_visits (held_visit m up c) (texts_given o)) e
      nothing false e = refl

      some : (text : List ℕ) → given m ≡ Some text → is_some (given m) ≡ true
      some text e = ap (λ o. is_some o) e

      as_leaf : (text : List ℕ) → is_attribute c ≡ true → BelowGoal m up c k vs (Some text)
      as_leaf text is =
          let plain = attribute-no_element c is in
          let same = given-element (given m) c in
          let bare = leaf (attribute-leaf c is) in
          let waits : visits_in texts (held_visit m up c) ≡ [] = rw (same, plain) refl in
          ap (λ w. put_in w (seen (m ∷ up) k vs)) waits ∙ ap (λ x. put_in [] (seen (m ∷ up) x vs)) bare
          ∙ sym (ap (λ x. seen (m ∷ up) (held_below m c (Some text) (hold given x)) (put_in [] vs)) bare ∙ ap (λ x. seen (m ∷ up) x (put_in [] vs)) (held-attribute m c (Some text) none plain))

      as_element : (text : List ℕ) → given m ≡ Some text → is_element c ≡ true → AreLeaves k → BelowGoal m up c k vs (Some text)
      as_element text e is leaves =
          let same = given-element (given m) c in
          let waits : visits_in texts (held_visit m up c) ≡ map (λ t. record { number = text_number m; above = m ∷ up; content = Text t }) (as_texts text) =
          rw (same, is) (ap (λ o. given_visits (held_visit m up c) (texts_given o)) e) in
          ap (λ w. put_in w (seen (m ∷ up) k vs)) waits
          ∙ replaced-law m up k vs (map (λ t. record { number = text_number m; above = m ∷ up; content = Text t }) (as_texts text)) (some text e) leaves flush
          ∙ ap (seen (m ∷ up) (attributes (hold given k))) (sym (lone-seen m up (held_visit m up c) text (put_in [] vs) refl refl))
          ∙ sym (seen-followed (m ∷ up) (attributes (hold given k)) (lone (one_text (text_number m) text)) (put_in [] vs)) ∙ rw is refl

      fitting : (text : List ℕ) → given m ≡ Some text → FitsHere c k → BelowGoal m up c k vs (Some text)
      fitting text e (inl is) = as_leaf text is
      fitting text e (inr is) = as_element text e is.0 is.1

      by : (o : Option (List ℕ)) → given m ≡ o → BelowGoal m up c k vs o
      by None e =
          let same : visits_in texts (held_visit m up c) ≡ [] = nothing (is_element (value_given (given m) c)) e in
          ap (λ w. put_in w (seen (m ∷ up) k vs)) same ∙ law (m ∷ up) vs (ap (λ o. is_some (texts_given o)) e) refl first flush
      by (Some text) e = fitting text e (fits (some text e))

  flushing : (t : Trees) (up : List ℕ) (vs : List Visit) → PlainLaw t → is_replaced texts up ≡ false → ((has_parent up ≡ false) ⊎ NoAttributes t) → Flushes vs → Flushes (seen up t vs)
  flushing t up vs law kept out flush waiting = law up vs kept out flush waiting ∙ ap (λ l. waiting ++ l) (sym (law up vs kept out flush []))

  out-here : (up : List ℕ) (m : ℕ) (c : Content) (k r : Trees) → ((has_parent up ≡ false) ⊎ NoAttributes (tree m c k r)) → (is_attribute c && has_parent up) ≡ false
  out-here up m c k r (inl e) = ap (λ b. is_attribute c && b) e ∙ and-none (is_attribute c)
  out-here up m c k r (inr h) = ap (λ b. b && has_parent up) h.0

  out-next : (up : List ℕ) (m : ℕ) (c : Content) (k r : Trees) → ((has_parent up ≡ false) ⊎ NoAttributes (tree m c k r)) → (has_parent up ≡ false) ⊎ NoAttributes r
  out-next up m c k r (inl e) = inl e
  out-next up m c k r (inr h) = inr h.1

  plain-step : (m : ℕ) (c : Content) (k r : Trees) → Good given (tree m c k r) → FirstLaw k → PlainLaw r → PlainLaw (tree m c k r)
  plain-step m c k r good inner next up vs kept out flush waiting =
      let out_r = out-next up m c k r out in
      let flush_r = flushing r up vs next kept out_r flush in
      unborne m up c waiting (seen (m ∷ up) k (seen up r vs)) kept (out-here up m c k r out)
      ∙ ap (λ l. waiting ++ held_visit m up c ∷ l) (below-law m up c k (seen up r vs) good.0 good.1 good.2 inner flush_r)
      ∙ ap (λ l. waiting ++ held_visit m up c ∷ seen (m ∷ up) (held_below m c (given m) (hold given k)) l) (next up vs kept out_r flush [])

  first-step : (m : ℕ) (c : Content) (k r : Trees) → Good given (tree m c k r) → PlainLaw (tree m c k r) → FirstLaw r → FirstLaw (tree m c k r)
  first-step m c k r good plain next up vs kept inside first flush =
      elim (cases_Bool (is_attribute c)) [
        | inl is ↦
            let bare = good.1 (attribute-leaf c is) in
            let none_below : held_below m c (given m) (hold given none) ≡ none = held-attribute m c (given m) none (attribute-no_element c is) in
            borne m up c [] (seen (m ∷ up) k (seen up r vs)) is inside
            ∙ ap (λ x. held_visit m up c ∷ put_in [] (seen (m ∷ up) x (seen up r vs))) bare ∙ ap (λ l. held_visit m up c ∷ l) (next up vs kept inside first.1 flush)
            ∙ sym (ap (λ x. held_visit m up c ∷ seen (m ∷ up) x (seen up (hold given r) (put_in [] vs))) none_below)
            ∙ sym (ap (λ x. held_visit m up c ∷ seen (m ∷ up) (held_below m c (given m) (hold given x)) (seen up (hold given r) (put_in [] vs))) bare)
        | inr is ↦ plain up vs kept (inr (is, first.0 is)) flush []
      ]

  both : (t : Trees) → Good given t → PlainLaw t × FirstLaw t
  both none good = (λ up vs kept out flush waiting. flush waiting, λ up vs kept inside first flush. refl)
  both (tree m c k r) good =
      let below = both k good.3 in
      let next = both r good.4 in
      let plain : PlainLaw (tree m c k r) = plain-step m c k r good below.1 next.0 in
      (plain, first-step m c k r good plain next.1)

  -- the visits of trees that hold contents
  pub holding-seen : (t : Trees) → Good given t → with_contents given (visits (onto 0 t [])) ≡ seen [] (hold given t) []
  holding-seen t good = ap (put_in []) (visits-seen t) ∙ (both t good).0 [] [] refl (inl refl) (λ waiting. sym (append-nil waiting)) []

-- Texts put into elements of the part are put into these of the whole list: so the shape of the part is a part of the shape, and where nodes hold
-- contents, the part that holds them is a part of what holds them.
use Rattle.std.proofs.Common.{◌≡◌, ℕ, ◌==◌, Bool, true, false, not, cond, ◌&&◌, ◌||◌, List, [], ◌∷◌, ◌++◌, map, Option, Some, None, is_some, refl, sym, ap, ◌∙◌, inl, inr}
use Rattle.std.specs.Prelude.{filter}
use Rattle.std.specs.List.{list_any, flat_map}
use Rattle.std.proofs.lemmas.Bool.{eqb-true}
use Rattle.xf_def_forest.specs.declared.content.Content.{Content}
use Rattle.xf_def_forest.specs.declared.content.Content.TheVariants as content
use Rattle.xf_def_forest.specs.Forest.{is_text, is_attribute, is_element, own_text}
use Rattle.xf_def_forest.specs.Visit.{Visit, has, is_first, has_parent}
use Rattle.xf_def_forest.specs.StringValue.{characters, string_value, value_in, text_below}
use Rattle.xf_def_forest.specs.Shape.{Texts, text_number, text_visit, given_visits, visits_in, is_borne, is_replaced, is_gone, filled, retexted, has_elements, only_text, without_text, erased, shape, texts_given, value_given, with_value, with_contents}
use Rattle.xf_def_forest.proofs.BackLaws.{and-true}
use Rattle.xf_def_forest.proofs.RenumberLaws.{filter-through}
use Rattle.xf_def_xpath.specs.Asked.{found}
use Rattle.xf_def_xpath.proofs.VisitFacts.{no, self-same, or-cases, or-left, found-number}
use Rattle.xf_def_xpath.proofs.ForestVisits.{Each, each-map, each-filter}
use Rattle.xf_law_forests.proofs.SettleLemmas.Held.{given-attribute}
use Rattle.xf_law_recalculation.proofs.BindLemmas.Filled.{filled-part, filled-on, AreLed, led-stays, takes-all}
use Rattle.xf_law_recalculation.specs.Within.Within.{Whole, kept}
use Rattle.xf_law_recalculation.proofs.WithinLemmas.Within.{found-kept}
use Rattle.xf_law_recalculation.proofs.WithinLemmas.Reading.{filter-swap}

first-has : (n : ℕ) (ns : List ℕ) → is_first n ns ≡ true → has n ns ≡ true
first-has n [] h = no h
first-has n (m ∷ ms) h = or-left (n == m) (has n ms) h

each-both : (Q R S : Visit → Type 0) (ys : List Visit) → ((y : Visit) → Q y → R y → S y) → Each Q ys → Each R ys → Each S ys
each-both Q R S [] h d e = tt
each-both Q R S (y ∷ ys) h d e = (h y d.0 e.0, each-both Q R S ys h d.1 e.1)

filter-on : (f g : Visit → Bool) (ys : List Visit) → Each (λ y. f y ≡ g y) ys → filter f ys ≡ filter g ys
filter-on f g [] e = refl
filter-on f g (y ∷ ys) e = ap (λ b. cond b (y ∷ filter f ys) (filter f ys)) e.0 ∙ ap (λ l. cond (g y) (y ∷ l) l) (filter-on f g ys e.1)

-- what a filter leaves meets its test
filter-told : (f : Visit → Bool) (ys : List Visit) → Each (λ y. f y ≡ true) (filter f ys)
filter-told f [] = tt
filter-told f (y ∷ ys) = by (f y) refl (filter-told f ys)
  where
    by : (b : Bool) → f y ≡ b → Each (λ z. f z ≡ true) (filter f ys) → Each (λ z. f z ≡ true) (cond b (y ∷ filter f ys) (filter f ys))
    by true i e = (i, e)
    by false i e = e

pub filled-each : (P : Visit → Type 0) (g : Visit → List Visit) (ws ys : List Visit) → Each P ws → Each (λ y. P y × Each P (g y)) ys → Each P (filled g ws ys)
filled-each P g ws [] h k = h
filled-each P g ws (y ∷ ys) h k = by (is_borne y) (filled-each P g ws ys h k.1) (filled-each P g (g y) ys k.0.1 k.1)
  where
    each-append : (xs zs : List Visit) → Each P xs → Each P zs → Each P (xs ++ zs)
    each-append [] zs i j = j
    each-append (x ∷ xs) zs i j = (i.0, each-append xs zs i.1 j)

    by : (b : Bool) → Each P (filled g ws ys) → Each P (filled g (g y) ys) → Each P (cond b (y ∷ filled g ws ys) (ws ++ y ∷ filled g (g y) ys))
    by true i j = (k.0.0, i)
    by false i j = each-append ws (y ∷ filled g (g y) ys) h (k.0.0, j)

module _ (p : ℕ → Bool) where
  pub any-kept : (f : Visit → Bool) (ys : List Visit) → Each (λ y. f y ≡ true → p y.number ≡ true) ys → list_any f (kept p ys) ≡ list_any f ys
  any-kept f [] e = refl
  any-kept f (y ∷ ys) e = by (p y.number) (f y) refl refl (any-kept f ys e.1)
    where
      by : (a c : Bool) → p y.number ≡ a → f y ≡ c → list_any f (kept p ys) ≡ list_any f ys → list_any f (cond a (y ∷ kept p ys) (kept p ys)) ≡ (c || list_any f ys)
      by true c i j g = ap (λ d. d || list_any f (kept p ys)) j ∙ ap (λ d. c || d) g
      by false true i j g = no (sym i ∙ e.0 j)
      by false false i j g = g

  -- a change of each visit that leaves its number
  pub map-kept : (f : Visit → Visit) → ((y : Visit) → (f y).number ≡ y.number) → (ys : List Visit) → map f (kept p ys) ≡ kept p (map f ys)
  map-kept f same ys = sym (filter-through f (λ y. p y.number) (λ y. p y.number) (λ y. ap p (same y)) ys)

  pub map-each : (f : Visit → Visit) (Q R : Visit → Type 0) → ((y : Visit) → Q y → R (f y)) → (ys : List Visit) → Each Q ys → Each R (map f ys)
  map-each f Q R h [] e = tt
  map-each f Q R h (y ∷ ys) e = (h y e.0, map-each f Q R h ys e.1)

  abbrev pub Texted : Visit → Type 0
  Texted y = p (text_number y.number) ≡ p y.number

  texts-kept : (y : Visit) (texts : List (List ℕ)) → Texted y → p y.number ≡ true → filter (λ z. p z.number) (map (text_visit y) texts) ≡ map (text_visit y) texts
  texts-kept y [] t h = refl
  texts-kept y (text ∷ texts) t h = ap (λ b. cond b (text_visit y text ∷ filter (λ z. p z.number) (map (text_visit y) texts)) (filter (λ z. p z.number) (map (text_visit y) texts))) (t ∙ h) ∙ ap (λ l. text_visit y text ∷ l) (texts-kept y texts t h)

  texts-out : (y : Visit) (texts : List (List ℕ)) → Texted y → p y.number ≡ false → filter (λ z. p z.number) (map (text_visit y) texts) ≡ []
  texts-out y [] t h = refl
  texts-out y (text ∷ texts) t h = ap (λ b. cond b (text_visit y text ∷ filter (λ z. p z.number) (map (text_visit y) texts)) (filter (λ z. p z.number) (map (text_visit y) texts))) (t ∙ h) ∙ texts-out y texts t h

  given-kept : (y : Visit) (m : Option (List (List ℕ))) → Texted y → p y.number ≡ true → filter (λ z. p z.number) (given_visits y m) ≡ given_visits y m
  given-kept y None t h = refl
  given-kept y (Some texts) t h = texts-kept y texts t h

  given-out : (y : Visit) (m : Option (List (List ℕ))) → Texted y → p y.number ≡ false → filter (λ z. p z.number) (given_visits y m) ≡ []
  given-out y None t h = refl
  given-out y (Some texts) t h = texts-out y texts t h

  visits-out : (texts : Texts) (y : Visit) → Texted y → p y.number ≡ false → filter (λ z. p z.number) (visits_in texts y) ≡ []
  visits-out texts y t h = by (is_element y.content)
    where
      by : (b : Bool) → filter (λ z. p z.number) (cond b (given_visits y (texts y.number)) []) ≡ []
      by true = given-out y (texts y.number) t h
      by false = refl

  -- ---- other texts

  module _ (all : List Visit) (whole : Each (Whole p) all) (texted : Each Texted all) (led : AreLed None all) where
    first-out : Each (λ y. (n : ℕ) → is_first n y.above ≡ true → p n ≡ false → p y.number ≡ false) all
    first-out = each-map (Whole p) (λ y. (n : ℕ) → is_first n y.above ≡ true → p n ≡ false → p y.number ≡ false) all (λ y w n i h. sym (w n (first-has n y.above i)) ∙ h) whole

    module _ (texts part_texts : Texts) (same : (n : ℕ) → p n ≡ true → part_texts n ≡ texts n) where
      abbrev stays : List Visit → List Visit
      stays ys = filter (λ y. not (is_gone texts y)) ys

      gone-same : (y : Visit) → Whole p y → p y.number ≡ true → is_gone texts y ≡ is_gone part_texts y
      gone-same y w h = by y.above refl
        where
          by : (ns : List ℕ) → y.above ≡ ns → is_gone texts y ≡ is_gone part_texts y
          by [] e = ap (λ ns. is_text y.content && is_replaced texts ns) e ∙ sym (ap (λ ns. is_text y.content && is_replaced part_texts ns) e)
          by (n ∷ ns) e =
              ap (λ ms. is_text y.content && is_replaced texts ms) e
              ∙ ap (λ m. is_text y.content && is_some m) (sym (same n (w n (ap (has n) e ∙ or-left (n == n) (has n ns) (self-same n)) ∙ h)))
              ∙ sym (ap (λ ms. is_text y.content && is_replaced part_texts ms) e)

      visits-same : (y : Visit) → Texted y → p y.number ≡ true → filter (λ z. p z.number) (visits_in texts y) ≡ visits_in part_texts y
      visits-same y t h = by (is_element y.content)
        where
          by : (b : Bool) → filter (λ z. p z.number) (cond b (given_visits y (texts y.number)) []) ≡ cond b (given_visits y (part_texts y.number)) []
          by true = given-kept y (texts y.number) t h ∙ ap (given_visits y) (sym (same y.number h))
          by false = refl

      pub retexted-part : kept p (retexted texts all) ≡ retexted part_texts (kept p all)
      retexted-part =
          filled-part (λ y. p y.number) (visits_in texts) (stays all)
          (takes-all p (visits_in texts) None false (stays all) (led-stays texts None all led) (λ o. no o)
          (each-filter (λ y. (n : ℕ) → is_first n y.above ≡ true → p n ≡ false → p y.number ≡ false) (λ y. not (is_gone texts y)) all first-out)
          (each-filter (λ y. p y.number ≡ false → filter (λ z. p z.number) (visits_in texts y) ≡ []) (λ y. not (is_gone texts y)) all
          (each-map Texted (λ y. p y.number ≡ false → filter (λ z. p z.number) (visits_in texts y) ≡ []) all (λ y t h. visits-out texts y t h) texted)))
          ∙ filled-on (λ y. filter (λ z. p z.number) (visits_in texts y)) (visits_in part_texts) [] (kept p (stays all))
          (each-both Texted (λ y. p y.number ≡ true) (λ y. filter (λ z. p z.number) (visits_in texts y) ≡ visits_in part_texts y) (kept p (stays all)) visits-same
          (each-filter Texted (λ y. p y.number) (stays all) (each-filter Texted (λ y. not (is_gone texts y)) all texted)) (filter-told (λ y. p y.number) (stays all)))
          ∙ ap (filled (visits_in part_texts) [])
          (filter-swap (λ y. not (is_gone texts y)) (λ y. p y.number) all
          ∙ filter-on (λ y. not (is_gone texts y)) (λ y. not (is_gone part_texts y)) (kept p all)
          (each-both (Whole p) (λ y. p y.number ≡ true) (λ y. not (is_gone texts y) ≡ not (is_gone part_texts y)) (kept p all) (λ y w h. ap not (gone-same y w h))
          (each-filter (Whole p) (λ y. p y.number) all whole) (filter-told (λ y. p y.number) all)))

    -- what comes in is in the part where its element is
    text-whole : (y : Visit) (text : List ℕ) → Whole p y → Texted y → Whole p (text_visit y text)
    text-whole y text w t n h = elim (or-cases (n == y.number) (has n y.above) h) [ inl a ↦ ap p (eqb-true n y.number a) ∙ sym t | inr b ↦ w n b ∙ sym t ]

    visits-whole : (texts : Texts) (y : Visit) → Whole p y → Texted y → Each (Whole p) (visits_in texts y)
    visits-whole texts y w t = by (is_element y.content) (texts y.number)
      where
        each-text : (ts : List (List ℕ)) → Each (Whole p) (map (text_visit y) ts)
        each-text [] = tt
        each-text (text ∷ ts) = (text-whole y text w t, each-text ts)

        by : (b : Bool) (m : Option (List (List ℕ))) → Each (Whole p) (cond b (given_visits y m) [])
        by true None = tt
        by true (Some ts) = each-text ts
        by false m = tt

    pub retexted-whole : (texts : Texts) → Each (Whole p) (retexted texts all)
    retexted-whole texts =
        filled-each (Whole p) (visits_in texts) [] (filter (λ y. not (is_gone texts y)) all) tt
        (each-filter (λ y. Whole p y × Each (Whole p) (visits_in texts y)) (λ y. not (is_gone texts y)) all
        (each-both (Whole p) Texted (λ y. Whole p y × Each (Whole p) (visits_in texts y)) all (λ y w t. (w, visits-whole texts y w t)) whole texted))

  -- ---- elements and string values

  pub elements-kept : (all : List Visit) → Each (Whole p) all → (n : ℕ) → p n ≡ true → has_elements (kept p all) n ≡ has_elements all n
  elements-kept all whole n h =
      any-kept (λ y. is_element y.content && is_first n y.above) all
      (each-map (Whole p) (λ y. (is_element y.content && is_first n y.above) ≡ true → p y.number ≡ true) all (λ y w i. sym (w n (first-has n y.above (and-true _ _ i).1)) ∙ h) whole)

  texts-below : (n : ℕ) (ys : List Visit) → Each (λ y. has n y.above ≡ true → p y.number ≡ true) ys → flat_map (text_below n) (kept p ys) ≡ flat_map (text_below n) ys
  texts-below n [] e = refl
  texts-below n (y ∷ ys) e = by (p y.number) (has n y.above) refl refl (texts-below n ys e.1)
    where
      by : (a c : Bool) → p y.number ≡ a → has n y.above ≡ c → flat_map (text_below n) (kept p ys) ≡ flat_map (text_below n) ys →
          flat_map (text_below n) (cond a (y ∷ kept p ys) (kept p ys)) ≡ text_below n y ++ flat_map (text_below n) ys
      by true c i j g = ap (λ l. text_below n y ++ l) g
      by false true i j g = no (sym i ∙ e.0 j)
      by false false i j g = g ∙ sym (ap (λ b. cond b (characters y.content) [] ++ flat_map (text_below n) ys) j)

  pub string-kept : (all : List Visit) → Each (Whole p) all → (n : ℕ) → p n ≡ true → string_value n (kept p all) ≡ string_value n all
  string-kept all whole n h = ap (value_in (kept p all)) (found-kept p n all h) ∙ by (found n all) refl
    where
      by : (m : Option Visit) → found n all ≡ m → value_in (kept p all) m ≡ value_in all m
      by None e = refl
      by (Some x) e =
          ap (λ l. own_text x.content ++ l) (texts-below x.number all
          (each-map (Whole p) (λ y. has x.number y.above ≡ true → p y.number ≡ true) all (λ y w i. sym (w x.number i) ∙ ap p (found-number n all x e) ∙ h) whole))

-- ---- where attributes stand

attribute-kept : (c : Content) → is_attribute (without_text c) ≡ is_attribute c
attribute-kept content.Root = refl
attribute-kept (content.Element name) = refl
attribute-kept (content.Attribute name text) = refl
attribute-kept (content.Text text) = refl

text-kept : (c : Content) → is_text (without_text c) ≡ is_text c
text-kept content.Root = refl
text-kept (content.Element name) = refl
text-kept (content.Attribute name text) = refl
text-kept (content.Text text) = refl

given-text : (o : Option (List ℕ)) (c : Content) → is_text (value_given o c) ≡ is_text c
given-text None content.Root = refl
given-text None (content.Element name) = refl
given-text None (content.Attribute name old) = refl
given-text None (content.Text old) = refl
given-text (Some text) content.Root = refl
given-text (Some text) (content.Element name) = refl
given-text (Some text) (content.Attribute name old) = refl
given-text (Some text) (content.Text old) = refl

-- attributes are led whatever their values are
pub led-given : (given : ℕ → Option (List ℕ)) (last : Option ℕ) (ys : List Visit) → AreLed last (map erased ys) → AreLed last (map (with_value given) ys)
led-given given last [] h = tt
led-given given last (y ∷ ys) h = (
  λ b. h.0 (sym borne ∙ b),
  by (is_borne (erased y)) (is_text (erased y).content) refl refl h.1 (λ l. led-given given l ys),
)
  where
    borne : is_borne (with_value given y) ≡ is_borne (erased y)
    borne = ap (λ b. b && has_parent y.above) (given-attribute (given y.number) y.content ∙ sym (attribute-kept y.content))

    texts : is_text (with_value given y).content ≡ is_text (erased y).content
    texts = given-text (given y.number) y.content ∙ sym (text-kept y.content)

    by : (b t : Bool) → is_borne (erased y) ≡ b → is_text (erased y).content ≡ t → AreLed (cond b last (cond t None (Some y.number))) (map erased ys) →
        ((l : Option ℕ) → AreLed l (map erased ys) → AreLed l (map (with_value given) ys)) →
        AreLed (cond (is_borne (with_value given y)) last (cond (is_text (with_value given y).content) None (Some y.number))) (map (with_value given) ys)
    by b t i j k f = rw (borne ∙ i) (rw (texts ∙ j) (f (cond b last (cond t None (Some y.number))) k))

-- ---- the shape, and what holds contents

module _ (p : ℕ → Bool) (all : List Visit) (whole : Each (Whole p) all) (texted : Each (λ y. p (text_number y.number) ≡ p y.number) all) (led : AreLed None (map erased all)) where
  bare-whole : (f : Visit → Visit) → ((y : Visit) → (f y).number ≡ y.number) → ((y : Visit) → (f y).above ≡ y.above) → Each (Whole p) (map f all)
  bare-whole f number above = map-each p f (Whole p) (Whole p) (λ y w n h. w n (ap (has n) (sym (above y)) ∙ h) ∙ ap p (sym (number y))) all whole

  bare-texted : (f : Visit → Visit) → ((y : Visit) → (f y).number ≡ y.number) → Each (Texted p) (map f all)
  bare-texted f number = map-each p f (Texted p) (Texted p) (λ y t. ap (λ n. p (text_number n)) (number y) ∙ t ∙ ap p (sym (number y))) all texted

  pub shape-part : kept p (shape all) ≡ shape (kept p all)
  shape-part =
      retexted-part p (map erased all) (bare-whole erased (λ y. refl) (λ y. refl)) (bare-texted erased (λ y. refl)) led (only_text all) (only_text (kept p all))
      (λ n h. ap (λ b. cond b None (Some ([] ∷ []))) (elements-kept p all whole n h))
      ∙ ap (retexted (only_text (kept p all))) (sym (map-kept p erased (λ y. refl) all))

  pub shape-whole : Each (Whole p) (shape all)
  shape-whole = retexted-whole p (map erased all) (bare-whole erased (λ y. refl) (λ y. refl)) (bare-texted erased (λ y. refl)) led (only_text all)

  pub contents-part : (given : ℕ → Option (List ℕ)) → kept p (with_contents given all) ≡ with_contents given (kept p all)
  contents-part given =
      retexted-part p (map (with_value given) all) (bare-whole (with_value given) (λ y. refl) (λ y. refl)) (bare-texted (with_value given) (λ y. refl)) (led-given given None all led)
      (λ n. texts_given (given n)) (λ n. texts_given (given n)) (λ n h. refl)
      ∙ ap (retexted (λ n. texts_given (given n))) (sym (map-kept p (with_value given) (λ y. refl) all))

  pub contents-whole : (given : ℕ → Option (List ℕ)) → Each (Whole p) (with_contents given all)
  contents-whole given =
      retexted-whole p (map (with_value given) all) (bare-whole (with_value given) (λ y. refl) (λ y. refl)) (bare-texted (with_value given) (λ y. refl)) (led-given given None all led) (λ n. texts_given (given n))

-- a fact of each node and of each text that comes into an element
pub shape-each : (Q : Visit → Type 0) (all : List Visit) → Each (λ y. Q (erased y) × ((text : List ℕ) → Q (text_visit (erased y) text))) all → Each Q (shape all)
shape-each Q all e =
    filled-each Q (visits_in (only_text all)) [] (filter (λ y. not (is_gone (only_text all) y)) (map erased all)) tt
    (each-filter (λ y. Q y × Each Q (visits_in (only_text all) y)) (λ y. not (is_gone (only_text all) y)) (map erased all) (mapped all e))
  where
    given : (y : Visit) → ((text : List ℕ) → Q (text_visit y text)) → (b : Bool) (m : Option (List (List ℕ))) → Each Q (cond b (given_visits y m) [])
    given y h false m = tt
    given y h true None = tt
    given y h true (Some texts) = each texts
      where
        each : (ts : List (List ℕ)) → Each Q (map (text_visit y) ts)
        each [] = tt
        each (t ∷ ts) = (h t, each ts)

    mapped : (ys : List Visit) → Each (λ y. Q (erased y) × ((text : List ℕ) → Q (text_visit (erased y) text))) ys → Each (λ y. Q y × Each Q (visits_in (only_text all) y)) (map erased ys)
    mapped [] i = tt
    mapped (y ∷ ys) i = ((i.0.0, given (erased y) i.0.1 (is_element (erased y).content) (only_text all y.number)), mapped ys i.1)

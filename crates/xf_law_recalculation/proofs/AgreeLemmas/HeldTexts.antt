-- A text in an element that holds the same content in both data has the same characters in both.
use Rattle.std.proofs.Common.{◌≡◌, ℕ, ◌==◌, Bool, true, false, not, cond, ◌&&◌, ◌||◌, List, [], ◌∷◌, ◌++◌, map, Option, Some, None, option_map, refl, sym, ap, ◌∙◌, subst}
use Rattle.std.specs.Prelude.{filter}
use Rattle.std.specs.List.{flat_map}
use Rattle.xf_def_forest.specs.declared.content.Content.{Content}
use Rattle.xf_def_forest.specs.declared.content.Content.TheVariants as content
use Rattle.xf_def_forest.specs.Forest.{is_text, is_element, is_attribute, own_text}
use Rattle.xf_def_forest.specs.Visit.{Visit, has, has_parent}
use Rattle.xf_def_forest.specs.StringValue.{string_value, value_in, text_below, characters}
use Rattle.xf_def_forest.specs.Shape.{Texts, text_visit, given_visits, visits_in, is_borne, is_replaced, filled, retexted, erased, without_text, texts_given, value_given, with_value}
use Rattle.xf_def_forest.proofs.RenumberLaws.{map-cond, filter-through, find-through}
use Rattle.xf_def_xpath.specs.Asked.{found}
use Rattle.xf_def_xpath.specs.Agree.{numbers_of, are_apart, AreVisits}
use Rattle.xf_def_xpath.proofs.VisitFacts.{no, some-same, none-some, found-number, found-in, found-out}
use Rattle.xf_def_xpath.proofs.ForestVisits.{Each, self-found, found-erased}
use Rattle.xf_def_model.specs.Settled.{Contents, content_of, holding}
use Rattle.xf_def_model.proofs.HoldingLaws.{texts_by}
use Rattle.xf_law_recalculation.proofs.AgreeLemmas.Covers.{stays}
use Rattle.xf_law_recalculation.proofs.AgreeLemmas.Meeting.{is_known, keeps, kept}
use Rattle.xf_law_recalculation.proofs.AgreeLemmas.Known.{above-text}
use Rattle.xf_law_recalculation.proofs.AgreeLemmas.Retexted.{Late, retexted-same}

-- ---- without the values of attributes

abbrev without_value : Content → Content
without_value (content.Attribute name text) = content.Attribute name []
without_value c = c

abbrev unvalued : Visit → Visit
unvalued x = record x { content = without_value x.content }

text-kept : (c : Content) → is_text (without_value c) ≡ is_text c
text-kept content.Root = refl
text-kept (content.Element name) = refl
text-kept (content.Attribute name text) = refl
text-kept (content.Text text) = refl

element-kept : (c : Content) → is_element (without_value c) ≡ is_element c
element-kept content.Root = refl
element-kept (content.Element name) = refl
element-kept (content.Attribute name text) = refl
element-kept (content.Text text) = refl

attribute-kept : (c : Content) → is_attribute (without_value c) ≡ is_attribute c
attribute-kept content.Root = refl
attribute-kept (content.Element name) = refl
attribute-kept (content.Attribute name text) = refl
attribute-kept (content.Text text) = refl

text-itself : (c : Content) → is_text c ≡ true → without_value c ≡ c
text-itself content.Root h = refl
text-itself (content.Element name) h = refl
text-itself (content.Attribute name text) h = no h
text-itself (content.Text text) h = refl

module _ (t : Texts) where
  texts-through : (x : Visit) (ts : List (List ℕ)) → map unvalued (map (text_visit x) ts) ≡ map (text_visit (unvalued x)) ts
  texts-through x [] = refl
  texts-through x (u ∷ us) = ap (λ l. text_visit x u ∷ l) (texts-through x us)

  given-through : (x : Visit) (o : Option (List (List ℕ))) → map unvalued (given_visits x o) ≡ given_visits (unvalued x) o
  given-through x None = refl
  given-through x (Some ts) = texts-through x ts

  in-through : (x : Visit) → map unvalued (visits_in t x) ≡ visits_in t (unvalued x)
  in-through x =
      map-cond (map unvalued) (is_element x.content) (given_visits x (t x.number)) []
      ∙ ap (λ l. cond (is_element x.content) l []) (given-through x (t x.number))
      ∙ ap (λ b. cond b (given_visits (unvalued x) (t x.number)) []) (sym (element-kept x.content))

  map-joined : (xs ys : List Visit) → map unvalued (xs ++ ys) ≡ map unvalued xs ++ map unvalued ys
  map-joined [] ys = refl
  map-joined (x ∷ xs) ys = ap (λ l. unvalued x ∷ l) (map-joined xs ys)

  filled-through : (ws xs : List Visit) → map unvalued (filled (visits_in t) ws xs) ≡ filled (visits_in t) (map unvalued ws) (map unvalued xs)
  filled-through ws [] = refl
  filled-through ws (x ∷ xs) =
      by (is_borne x) (filled-through ws xs) (filled-through (visits_in t x) xs)
      ∙ ap (λ b. cond b (unvalued x ∷ filled (visits_in t) (map unvalued ws) (map unvalued xs)) (map unvalued ws ++ unvalued x ∷ filled (visits_in t) (visits_in t (unvalued x)) (map unvalued xs))) (ap (λ b. b && has_parent x.above) (sym (attribute-kept x.content)))
    where
      by : (b : Bool) → map unvalued (filled (visits_in t) ws xs) ≡ filled (visits_in t) (map unvalued ws) (map unvalued xs) → map unvalued (filled (visits_in t) (visits_in t x) xs) ≡ filled (visits_in t) (map unvalued (visits_in t x)) (map unvalued xs) →
          map unvalued (cond b (x ∷ filled (visits_in t) ws xs) (ws ++ x ∷ filled (visits_in t) (visits_in t x) xs))
          ≡ cond b (unvalued x ∷ filled (visits_in t) (map unvalued ws) (map unvalued xs)) (map unvalued ws ++ unvalued x ∷ filled (visits_in t) (visits_in t (unvalued x)) (map unvalued xs))
      by true h k = ap (λ l. unvalued x ∷ l) h
      by false h k = map-joined ws (x ∷ filled (visits_in t) (visits_in t x) xs)
          ∙ ap (λ l. map unvalued ws ++ unvalued x ∷ l) (k ∙ ap (λ l. filled (visits_in t) l (map unvalued xs)) (in-through x))

  retexted-through : (xs : List Visit) → map unvalued (retexted t xs) ≡ retexted t (map unvalued xs)
  retexted-through xs =
      filled-through [] (filter (stays t) xs)
      ∙ ap (filled (visits_in t) []) (sym (filter-through unvalued (stays t) (stays t) (λ x. ap (λ b. not (b && is_replaced t x.above)) (text-kept x.content)) xs))

value-same : (o : Option (List ℕ)) (c : Content) → without_value (value_given o c) ≡ without_value c
value-same None c = refl
value-same (Some text) content.Root = refl
value-same (Some text) (content.Element name) = refl
value-same (Some text) (content.Attribute name old) = refl
value-same (Some text) (content.Text old) = refl

values-same : (given : ℕ → Option (List ℕ)) (xs : List Visit) → map unvalued (map (with_value given) xs) ≡ map unvalued xs
values-same given [] = refl
values-same given (x ∷ xs) =
    ap (λ c. record { number = x.number; above = x.above; content = c } ∷ map unvalued (map (with_value given) xs)) (value-same (given x.number) x.content)
    ∙ ap (λ l. unvalued x ∷ l) (values-same given xs)

held-unvalued : (contents : Contents) (all : List Visit) → map unvalued (holding all contents) ≡ retexted (texts_by contents) (map unvalued all)
held-unvalued contents all = retexted-through (texts_by contents) (map (with_value (content_of contents)) all) ∙ ap (retexted (texts_by contents)) (values-same (content_of contents) all)

-- ---- its characters

erased-text : (c : Content) → is_text (without_text c) ≡ is_text c
erased-text content.Root = refl
erased-text (content.Element name) = refl
erased-text (content.Attribute name text) = refl
erased-text (content.Text text) = refl

erased-attribute : (c : Content) → is_attribute (without_text c) ≡ is_attribute c
erased-attribute content.Root = refl
erased-attribute (content.Element name) = refl
erased-attribute (content.Attribute name text) = refl
erased-attribute (content.Text text) = refl

late-same : (after : Bool) (xs : List Visit) → Late after (map erased xs) → Late after (map unvalued xs)
late-same after [] h = tt
late-same after (x ∷ xs) h = (
  λ i. ap (λ b. b && has_parent x.above) (attribute-kept x.content ∙ sym (erased-attribute x.content)) ∙ h.0 i,
  subst (λ b. Late b (map unvalued xs)) (erased-text x.content ∙ sym (text-kept x.content)) (late-same (is_text (without_text x.content)) xs h.1),
)

original : (f : Visit → Visit) → ((x : Visit) → (f x).number ≡ x.number) → (k : ℕ) (xs : List Visit) (y : Visit) → found k (map f xs) ≡ Some y → (x : Visit) × (found k xs ≡ Some x) × (f x ≡ y)
original f named k xs y e = by (found k xs) refl (sym (find-through f (λ x. x.number == k) (λ x. x.number == k) (λ x. ap (λ n. n == k) (named x)) xs) ∙ e)
  where
    by : (o : Option Visit) → found k xs ≡ o → option_map f o ≡ Some y → (x : Visit) × (found k xs ≡ Some x) × (f x ≡ y)
    by None i j = none-some j
    by (Some x) i j = (x, i, some-same j)

-- nothing stands below a text
text-value : (all : List Visit) → AreVisits (map erased all) → (k : ℕ) (x : Visit) → found k all ≡ Some x → is_text x.content ≡ true → string_value k all ≡ own_text x.content ++ []
text-value all v k x e t =
    ap (value_in all) e ∙ ap (λ l. own_text x.content ++ l) (none all (erased-each all (self-found (map erased all) v.apart)))
  where
    none-at : (y : Visit) → found y.number (map erased all) ≡ Some (erased y) → has x.number y.above ≡ false
    none-at y i = of (has x.number y.above) refl
      where
        of : (b : Bool) → has x.number y.above ≡ b → b ≡ false
        of true h = sym (above-text (map erased all) v y.number (erased y) i x.number (erased x)
            (found-erased x.number all ∙ ap (option_map erased) (ap (λ n. found n all) (found-number k all x e) ∙ e)) h (erased-text x.content ∙ t))
        of false h = refl

    erased-each : (xs : List Visit) → Each (λ y. found y.number (map erased all) ≡ Some y) (map erased xs) → Each (λ y. found y.number (map erased all) ≡ Some (erased y)) xs
    erased-each [] h = tt
    erased-each (y ∷ ys) h = (h.0, erased-each ys h.1)

    none : (xs : List Visit) → Each (λ y. found y.number (map erased all) ≡ Some (erased y)) xs → flat_map (text_below x.number) xs ≡ []
    none [] h = refl
    none (y ∷ ys) h = ap (λ b. cond b (characters y.content) [] ++ flat_map (text_below x.number) ys) (none-at y h.0) ∙ none ys h.1

pub kept-texts : (known : ℕ → Bool) (all : List Visit) (one other : Contents) → Late false (map erased all) → ((p : ℕ) → known p ≡ true → content_of one p ≡ content_of other p) → AreVisits (map erased (holding all one)) → AreVisits (map erased (holding all other)) →
    (k : ℕ) (x : Visit) (q : ℕ) (qs : List ℕ) → found k (map erased (holding all one)) ≡ Some x → is_text x.content ≡ true → x.above ≡ q ∷ qs → known q ≡ true → string_value k (holding all one) ≡ string_value k (holding all other)
kept-texts known all one other late agree va vb k x q qs e t i kq =
    let first = original erased (λ y. refl) k (holding all one) x e in
    let text_x : is_text first.0.content ≡ true = sym (erased-text first.0.content) ∙ ap (λ (y : Visit). is_text y.content) first.2 ∙ t in
    let same : kept known (map unvalued (holding all one)) ≡ kept known (map unvalued (holding all other)) =
    ap (kept known) (held-unvalued one all)
    ∙ retexted-same known (texts_by one) (texts_by other) (λ p h. ap texts_given (agree p h)) (map unvalued all) (late-same false all late)
    ∙ ap (kept known) (sym (held-unvalued other all)) in
    let apart_one = apart-unvalued (holding all one) va in
    let apart_other = apart-unvalued (holding all other) vb in
    let keep : keeps known (unvalued first.0) ≡ true = or-right_known (not (is_text (without_value first.0.content))) (ap (is_known known) (ap (λ (y : Visit). y.above) first.2 ∙ i) ∙ kq) in
    let here : found k (map unvalued (holding all one)) ≡ Some (unvalued first.0) = found-unvalued (holding all one) first.0 first.1 in
    let there = (found-out (keeps known) k (map unvalued (holding all other)) (unvalued first.0) apart_other (ap (found k) (sym same) ∙ found-in (keeps known) k (map unvalued (holding all one)) (unvalued first.0) apart_one here keep)).0 in
    let second = original unvalued (λ y. refl) k (holding all other) (unvalued first.0) there in
    let text_y : is_text second.0.content ≡ true = sym (text-kept second.0.content) ∙ ap (λ (y : Visit). is_text y.content) second.2 ∙ text-kept first.0.content ∙ text_x in
    let contents : second.0.content ≡ first.0.content = sym (text-itself second.0.content text_y) ∙ ap (λ (y : Visit). y.content) second.2 ∙ text-itself first.0.content text_x in
    text-value (holding all one) va k first.0 first.1 text_x ∙ ap (λ c. own_text c ++ []) (sym contents) ∙ sym (text-value (holding all other) vb k second.0 second.1 text_y)
  where
    or-right_known : (c : Bool) {d : Bool} → d ≡ true → (c || d) ≡ true
    or-right_known true h = refl
    or-right_known false h = h

    found-unvalued : (xs : List Visit) (y : Visit) → found k xs ≡ Some y → found k (map unvalued xs) ≡ Some (unvalued y)
    found-unvalued xs y h = find-through unvalued (λ z. z.number == k) (λ z. z.number == k) (λ z. refl) xs ∙ ap (option_map unvalued) h

    apart-unvalued : (xs : List Visit) → AreVisits (map erased xs) → are_apart (numbers_of (map unvalued xs)) ≡ true
    apart-unvalued xs v = ap are_apart (same-numbers xs) ∙ v.apart
      where
        same-numbers : (ys : List Visit) → numbers_of (map unvalued ys) ≡ numbers_of (map erased ys)
        same-numbers [] = refl
        same-numbers (y ∷ ys) = ap (λ l. y.number ∷ l) (same-numbers ys)

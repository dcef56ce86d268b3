-- What stands in the shape of a forest: its nodes but for the texts of elements without elements, and one text for each of these elements.
use Rattle.std.proofs.Common.{◌≡◌, ℕ, ◌==◌, ◌^◌, Bool, true, false, not, cond, ◌&&◌, List, [], ◌∷◌, ◌++◌, nat_lt, Some, None, refl, sym, ap, ◌∙◌, arith, subst, inl, inr}
use Rattle.std.specs.Prelude.{filter, ◌⊎◌}
use Rattle.std.proofs.lemmas.Bool.Decides.{nat_tests}
use Rattle.xf_def_forest.specs.declared.content.Content.{Content}
use Rattle.xf_def_forest.specs.declared.content.Content.TheVariants as content
use Rattle.xf_def_forest.specs.Forest.{Forest, is_text, is_element, is_attribute}
use Rattle.xf_def_forest.specs.Visit.{Visit, visits, has, has_parent}
use Rattle.xf_def_forest.specs.Shape.{Texts, text_number, text_visit, given_visits, visits_in, is_borne, is_replaced, is_gone, filled, has_elements, only_text, erased, shape}
use Rattle.xf_def_forest.specs.WellFormed.{HasTrees}
use Rattle.xf_def_forest.proofs.RenumberLaws.{map-map}
use Rattle.xf_def_xpath.specs.Asked.{found}
use Rattle.xf_def_xpath.specs.Agree.{numbers_of, AreVisits}
use Rattle.xf_def_xpath.proofs.VisitFacts.{no, some-same, none-some, or-left, or-right, or-cases, self-same, found-in, found-out, present}
use Rattle.xf_def_xpath.proofs.ForestVisits.{Each, each-found, self-found, forest-visits}
use Rattle.xf_def_xpath.proofs.ShapeVisits.{AreBelow, shape-visits}
use Rattle.xf_law_recalculation.specs.Agree.Forests.{bare}
use Rattle.xf_law_recalculation.proofs.AgreeLemmas.Covers.{stays}
use Rattle.xf_law_recalculation.proofs.AgreeLemmas.HeldShape.{shape-erased}
use Rattle.xf_law_recalculation.proofs.AgreeLemmas.Retexted.{stays-retexted}

each-kept : (P : Visit → Type 0) (q : Visit → Bool) (xs : List Visit) → Each P xs → Each (λ y. P y × (q y ≡ true)) (filter q xs)
each-kept P q [] e = tt
each-kept P q (x ∷ xs) e = by (q x) refl (each-kept P q xs e.1)
  where
    by : (b : Bool) → q x ≡ b → Each (λ y. P y × (q y ≡ true)) (filter q xs) → Each (λ y. P y × (q y ≡ true)) (cond b (x ∷ filter q xs) (filter q xs))
    by true i h = ((e.0, i), h)
    by false i h = h

filled-each : (P : Visit → Type 0) (g : Visit → List Visit) (ws ys : List Visit) → Each P ws → Each (λ y. P y × Each P (g y)) ys → Each P (filled g ws ys)
filled-each P g ws [] h k = h
filled-each P g ws (y ∷ ys) h k = by (is_borne y) (filled-each P g ws ys h k.1) (filled-each P g (g y) ys k.0.1 k.1)
  where
    each-append : (xs zs : List Visit) → Each P xs → Each P zs → Each P (xs ++ zs)
    each-append [] zs i j = j
    each-append (x ∷ xs) zs i j = (i.0, each-append xs zs i.1 j)

    by : (b : Bool) → Each P (filled g ws ys) → Each P (filled g (g y) ys) → Each P (cond b (y ∷ filled g ws ys) (ws ++ y ∷ filled g (g y) ys))
    by true i j = (k.0.0, i)
    by false i j = each-append ws (y ∷ filled g (g y) ys) h (k.0.0, j)

-- ---- what is put in stands there

has-front : (k : ℕ) (ws rest : List Visit) → has k (numbers_of ws) ≡ true → has k (numbers_of (ws ++ rest)) ≡ true
has-front k [] rest h = no h
has-front k (w ∷ ws) rest h = elim (or-cases (k == w.number) (has k (numbers_of ws)) h) [
  | inl a ↦ or-left (k == w.number) (has k (numbers_of (ws ++ rest))) a
  | inr b ↦ or-right (k == w.number) (has k (numbers_of (ws ++ rest))) (has-front k ws rest b)
]

has-back : (k : ℕ) (ws rest : List Visit) → has k (numbers_of rest) ≡ true → has k (numbers_of (ws ++ rest)) ≡ true
has-back k [] rest h = h
has-back k (w ∷ ws) rest h = or-right (k == w.number) (has k (numbers_of (ws ++ rest))) (has-back k ws rest h)

waiting-in : (g : Visit → List Visit) (k : ℕ) (ws ys : List Visit) → has k (numbers_of ws) ≡ true → has k (numbers_of (filled g ws ys)) ≡ true
waiting-in g k ws [] h = h
waiting-in g k ws (y ∷ ys) h = by (is_borne y) (waiting-in g k ws ys h)
  where
    by : (b : Bool) → has k (numbers_of (filled g ws ys)) ≡ true → has k (numbers_of (cond b (y ∷ filled g ws ys) (ws ++ y ∷ filled g (g y) ys))) ≡ true
    by true i = or-right (k == y.number) (has k (numbers_of (filled g ws ys))) i
    by false i = has-front k ws (y ∷ filled g (g y) ys) h

given-in : (g : Visit → List Visit) (k m : ℕ) (y : Visit) (ws ys : List Visit) → found m ys ≡ Some y → is_borne y ≡ false → has k (numbers_of (g y)) ≡ true → has k (numbers_of (filled g ws ys)) ≡ true
given-in g k m y ws [] e b h = none-some e
given-in g k m y ws (x ∷ xs) e b h = by (x.number == m) (is_borne x) refl e (λ i. given-in g k m y ws xs i b h) (λ i. given-in g k m y (g x) xs i b h)
  where
    by : (c d : Bool) → is_borne x ≡ d → cond c (Some x) (found m xs) ≡ Some y → (found m xs ≡ Some y → has k (numbers_of (filled g ws xs)) ≡ true) → (found m xs ≡ Some y → has k (numbers_of (filled g (g x) xs)) ≡ true) →
        has k (numbers_of (cond d (x ∷ filled g ws xs) (ws ++ x ∷ filled g (g x) xs))) ≡ true
    by true true i j one other = no (sym b ∙ ap is_borne (sym (some-same j)) ∙ i)
    by true false i j one other = has-back k ws (x ∷ filled g (g x) xs) (or-right (k == x.number) (has k (numbers_of (filled g (g x) xs))) (waiting-in g k (g x) xs (ap (λ z. has k (numbers_of (g z))) (some-same j) ∙ h)))
    by false true i j one other = or-right (k == x.number) (has k (numbers_of (filled g ws xs))) (one j)
    by false false i j one other = has-back k ws (x ∷ filled g (g x) xs) (or-right (k == x.number) (has k (numbers_of (filled g (g x) xs))) (other j))

element-only : (y : Visit) (texts : Texts) → is_element y.content ≡ true → (is_borne y ≡ false) × (is_gone texts y ≡ false)
element-only y texts h = by y.content h
  where
    by : (c : Content) → is_element c ≡ true → ((is_attribute c && has_parent y.above) ≡ false) × ((is_text c && is_replaced texts y.above) ≡ false)
    by content.Root i = no i
    by (content.Element name) i = (refl, refl)
    by (content.Attribute name text) i = no i
    by (content.Text text) i = no i

-- ---- the shape of a forest

pub not-text : (k n : ℕ) → nat_lt k (2 ^ 128) ≡ true → k ≡ text_number n → false ≡ true
not-text k n h e = sym (above n) ∙ ap (λ m. nat_lt m (2 ^ 128)) (sym e) ∙ h
  where
    above : (m : ℕ) → nat_lt (text_number m) (2 ^ 128) ≡ false
    above m = grind (arith, nat_tests)

pub one-text : (n m : ℕ) → text_number n ≡ text_number m → n ≡ m
one-text n m h = omega (arith, h)

module _ (forest : Forest) (trees : HasTrees forest) (below : AreBelow (numbers_of (visits forest.nodes))) where
  abbrev pub V : List Visit
  V = visits forest.nodes

  abbrev pub A : List Visit
  A = bare forest

  abbrev pub S : List Visit
  S = shape V

  abbrev texts : Texts
  texts = only_text V

  pub bare_visits : AreVisits A
  bare_visits = forest-visits forest trees

  pub shape_visits : AreVisits S
  shape_visits = subst AreVisits (shape-erased V) (shape-visits forest trees below)

  -- a node of the forest
  abbrev pub IsOwn : Visit → Type 0
  IsOwn y = (found y.number A ≡ Some y) × (is_gone (only_text V) y ≡ false)

  -- the text of an element without elements
  abbrev pub IsMade : Visit → Type 0
  IsMade y = (z : Visit) × (found z.number A ≡ Some z) × (is_element z.content ≡ true) × (has_elements V z.number ≡ false) × (y ≡ text_visit z [])

  abbrev Member : Visit → Type 0
  Member y = IsOwn y ⊎ IsMade y

  not-of : (b : Bool) → not b ≡ true → b ≡ false
  not-of true h = sym h
  not-of false h = refl

  given : (y : Visit) → found y.number A ≡ Some y → Each Member (visits_in texts y)
  given y e = by (is_element y.content) (has_elements V y.number) refl refl
    where
      by : (b c : Bool) → is_element y.content ≡ b → has_elements V y.number ≡ c → Each Member (cond b (given_visits y (cond c None (Some ([] ∷ [])))) [])
      by false c i j = tt
      by true true i j = tt
      by true false i j = (inr (y, e, i, j, refl), tt)

  members : Each Member S
  members = filled-each Member (visits_in texts) [] (filter (λ x. not (is_gone texts x)) A) tt
      (with-given (filter (λ x. not (is_gone texts x)) A) (each-kept (λ y. found y.number A ≡ Some y) (λ x. not (is_gone texts x)) A (self-found A bare_visits.apart)))
    where
      with-given : (ys : List Visit) → Each (λ y. (found y.number A ≡ Some y) × (not (is_gone texts y) ≡ true)) ys → Each (λ y. Member y × Each Member (visits_in texts y)) ys
      with-given [] e = tt
      with-given (y ∷ ys) e = ((inl (e.0.0, not-of (is_gone texts y) e.0.1), given y e.0.0), with-given ys e.1)

  pub member : (k : ℕ) (y : Visit) → found k S ≡ Some y → IsOwn y ⊎ IsMade y
  member k y e = each-found Member k S y members e

  pub own-below : (k : ℕ) (y : Visit) → found k A ≡ Some y → nat_lt k (2 ^ 128) ≡ true
  own-below k y e = below k (ap (has k) (sym (map-map (λ (x : Visit). x.number) erased V)) ∙ present k A y e)

  pub own-in : (k : ℕ) (y : Visit) → found k A ≡ Some y → is_gone (only_text V) y ≡ false → found k S ≡ Some y
  own-in k y e g =
      (found-out (stays texts) k S y shape_visits.apart (ap (found k) (stays-retexted texts texts (λ p h. h) A) ∙ found-in (stays texts) k A y bare_visits.apart e (ap not g))).0

  pub made-in : (z : Visit) → found z.number A ≡ Some z → is_element z.content ≡ true → has_elements V z.number ≡ false → has (text_number z.number) (numbers_of S) ≡ true
  made-in z e el leaf =
      let only = element-only z texts el in
      given-in (visits_in texts) (text_number z.number) z.number z [] (filter (λ x. not (is_gone texts x)) A)
      (found-in (λ x. not (is_gone texts x)) z.number A z bare_visits.apart e (ap not only.1)) only.0
      (ap (λ b. has (text_number z.number) (numbers_of (cond b (given_visits z (only_text V z.number)) []))) el
      ∙ ap (λ b. has (text_number z.number) (numbers_of (given_visits z (cond b None (Some ([] ∷ [])))))) leaf
      ∙ or-left (text_number z.number == text_number z.number) false (self-same (text_number z.number)))

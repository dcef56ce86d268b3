-- The shape of a forest beside the forest: which nodes stand in it, what is found there, and which lists are the same.
use Rattle.std.proofs.Common.{◌≡◌, ℕ, ◌==◌, ◌^◌, Bool, true, false, not, cond, ◌&&◌, List, [], ◌∷◌, map, nat_lt, Option, Some, None, refl, sym, ap, ◌∙◌, arith, subst}
use Rattle.std.specs.Prelude.{filter, is_some}
use Rattle.std.proofs.lemmas.Bool.{eqb-true}
use Rattle.std.proofs.lemmas.Bool.Decides.{nat_tests}
use Rattle.xf_def_forest.specs.declared.content.Node.{Node}
use Rattle.xf_def_forest.specs.declared.content.Content.{Content}
use Rattle.xf_def_forest.specs.declared.content.Content.TheVariants as content
use Rattle.xf_def_forest.specs.Forest.{Forest, is_text, is_element, is_attribute, has_number}
use Rattle.xf_def_forest.specs.Visit.{Visit, visits, has, is_first}
use Rattle.xf_def_forest.specs.Shape.{Texts, text_number, text_visit, given_visits, visits_in, is_borne, is_replaced, is_gone, filled, has_elements, only_text, erased, without_text, shape_of}
use Rattle.xf_def_forest.proofs.BackLaws.{and-true, not-true}
use Rattle.xf_def_forest.proofs.OrderLaws.{seen-has}
use Rattle.xf_def_forest.proofs.RenumberLaws.{map-map}
use Rattle.xf_def_xpath.specs.Asked.{found}
use Rattle.xf_def_xpath.specs.Agree.{numbers_of, untexted, AreVisits}
use Rattle.xf_def_xpath.proofs.VisitFacts.{no, filter-within, found-number, found-in, found-filter, kept_if, absent, present, has-found}
use Rattle.xf_def_xpath.proofs.ForestVisits.{Each, each-map, each-filter, each-found, self-found, forest-visits}
use Rattle.xf_def_xpath.proofs.ShapeVisits.{shape-visits, shape-untexted, not-has}
use Rattle.xf_eval.specs.Worth.{seen}
pub use Rattle.xf_eval_shape.specs.Sound.{Sound}
use Rattle.xf_eval_shape.specs.Spots.{shaped, stands}
use Rattle.xf_eval_shape.proofs.Filled.{unfilled, found-filled, each-filled, each-unfilled}

-- ---- the texts that are put in

abbrev pub texts_of : List Node → Texts
texts_of nodes = only_text (visits nodes)

-- none where there are elements
abbrev pub text_or : Bool → Option (List (List ℕ))
text_or b = cond b None (Some ([] ∷ []))

abbrev pub given : List Node → Visit → List Visit
given nodes = visits_in (texts_of nodes)

abbrev pub is_kept : List Node → Visit → Bool
is_kept nodes x = not (is_gone (texts_of nodes) x)

abbrev pub kept : List Node → List Visit
kept nodes = filter (is_kept nodes) (seen nodes)

abbrev pub is_leaf_visit : List Node → Visit → Bool
is_leaf_visit nodes y = is_element y.content && not (has_elements (visits nodes) y.number)

abbrev pub text_in : Visit → Visit
text_in y = text_visit y []

pub given-is : (nodes : List Node) (y : Visit) → given nodes y ≡ cond (is_leaf_visit nodes y) (text_in y ∷ []) []
given-is nodes y = by (is_element y.content) (has_elements (visits nodes) y.number)
  where
    by : (a b : Bool) → cond a (given_visits y (cond b None (Some ([] ∷ [])))) [] ≡ cond (a && not b) (text_in y ∷ []) []
    by true true = refl
    by true false = refl
    by false b = refl

attribute-element : (c : Content) → is_attribute c ≡ true → is_element c ≡ false
attribute-element content.Root h = no h
attribute-element (content.Element name) h = no h
attribute-element (content.Attribute name text) h = refl
attribute-element (content.Text text) h = no h

pub given-none : (nodes : List Node) (y : Visit) → is_borne y ≡ true → given nodes y ≡ []
given-none nodes y h = ap (λ b. cond b (given_visits y (texts_of nodes y.number)) []) (attribute-element y.content (and-true _ _ h).0)

-- of a text that is put in all is known by its element
pub given-each : (nodes : List Node) (P : Visit → Type 0) (y : Visit) → (is_leaf_visit nodes y ≡ true → P (text_in y)) → Each P (given nodes y)
given-each nodes P y h = subst (Each P) (sym (given-is nodes y)) (by (is_leaf_visit nodes y) refl)
  where
    by : (b : Bool) → is_leaf_visit nodes y ≡ b → Each P (cond b (text_in y ∷ []) [])
    by true e = (h e, tt)
    by false e = tt

-- ---- the shape has empty texts

erased-erased : (c : Content) → without_text (without_text c) ≡ without_text c
erased-erased content.Root = refl
erased-erased (content.Element name) = refl
erased-erased (content.Attribute name text) = refl
erased-erased (content.Text text) = refl

abbrev IsBare : Visit → Type 0
IsBare y = erased y ≡ y

bare-each : (xs : List Visit) → Each IsBare (map erased xs)
bare-each [] = tt
bare-each (x ∷ xs) = (ap (λ c. record { number = x.number; above = x.above; content = c }) (erased-erased x.content), bare-each xs)

bare-map : (xs : List Visit) → Each IsBare xs → map erased xs ≡ xs
bare-map [] h = refl
bare-map (x ∷ xs) h = ap (λ y. y ∷ map erased xs) h.0 ∙ ap (λ l. x ∷ l) (bare-map xs h.1)

pub shaped-is : (nodes : List Node) → shaped nodes ≡ filled (given nodes) [] (kept nodes)
shaped-is nodes =
    bare-map (shape_of nodes) (each-filled IsBare (given nodes) [] (kept nodes) tt
    (each-map IsBare (λ y. IsBare y × Each IsBare (given nodes y)) (kept nodes) (λ y h. (h, given-each nodes IsBare y (λ i. refl)))
    (each-filter IsBare (is_kept nodes) (seen nodes) (bare-each (visits nodes)))))

-- ---- numbers

pub is-above : (n : ℕ) → nat_lt (text_number n) (2 ^ 128) ≡ false
is-above n = grind (arith, nat_tests)

pub text-apart : (k n : ℕ) → nat_lt k (2 ^ 128) ≡ true → (text_number n == k) ≡ false
text-apart k n h = not-has (text_number n == k) (λ e. sym (is-above n) ∙ ap (λ m. nat_lt m (2 ^ 128)) (eqb-true (text_number n) k e) ∙ h)

module _ (forest : Forest) (sound : Sound forest) where
  abbrev nodes : List Node
  nodes = forest.nodes

  abbrev pub real : List Visit
  real = seen forest.nodes

  abbrev pub whole : List Visit
  whole = shaped forest.nodes

  pub real-visits : AreVisits real
  real-visits = forest-visits forest sound.trees

  pub whole-visits : AreVisits whole
  whole-visits = shape-visits forest sound.trees sound.below

  pub same-bare : untexted whole ≡ untexted real
  same-bare = shape-untexted (visits forest.nodes)

  real-numbers : numbers_of real ≡ numbers_of (visits forest.nodes)
  real-numbers = map-map (λ (x : Visit). x.number) erased (visits forest.nodes)

  -- a node that is live is found, and its number is not that of a text
  pub live-has : (n : ℕ) → has_number n forest.nodes ≡ true → has n (numbers_of real) ≡ true
  live-has n h = ap (has n) real-numbers ∙ seen-has n [] forest.nodes ∙ h

  pub live-below : (n : ℕ) → has_number n forest.nodes ≡ true → nat_lt n (2 ^ 128) ≡ true
  live-below n h = sound.below n (seen-has n [] forest.nodes ∙ h)

  pub real-below : (n : ℕ) → has n (numbers_of real) ≡ true → nat_lt n (2 ^ 128) ≡ true
  real-below n h = sound.below n (ap (has n) (sym real-numbers) ∙ h)

  pub found-live : (n : ℕ) (x : Visit) → found n real ≡ Some x → has_number n forest.nodes ≡ true
  found-live n x e = sym (seen-has n [] forest.nodes) ∙ ap (has n) (sym real-numbers) ∙ present n real x e

  some-found : (m : Option Visit) → is_some m ≡ true → (x : Visit) × (m ≡ Some x)
  some-found None h = no h
  some-found (Some x) h = (x, refl)

  pub live-found : (n : ℕ) → has_number n forest.nodes ≡ true → (x : Visit) × (found n real ≡ Some x)
  live-found n h = some-found (found n real) (sym (has-found n real) ∙ live-has n h)

  -- ---- what is found in the shape

  no-text : (k : ℕ) → nat_lt k (2 ^ 128) ≡ true → (y : Visit) → found k (given forest.nodes y) ≡ None
  no-text k h y = ap (found k) (given-is forest.nodes y) ∙ by (is_leaf_visit forest.nodes y)
    where
      by : (b : Bool) → found k (cond b (text_in y ∷ []) []) ≡ None
      by true = ap (λ b. cond b (Some (text_in y)) None) (text-apart k y.number h)
      by false = refl

  pub found-whole : (k : ℕ) → nat_lt k (2 ^ 128) ≡ true → found k whole ≡ kept_if (is_kept forest.nodes) (found k real)
  found-whole k h =
      ap (found k) (shaped-is forest.nodes)
      ∙ found-filled k (given forest.nodes) (no-text k h) [] (kept forest.nodes) refl
      ∙ found-filter (is_kept forest.nodes) k real real-visits.apart

  -- whether a node of the forest stands in the shape
  pub stands-is : (n : ℕ) (x : Visit) → found n real ≡ Some x → stands forest.nodes n ≡ is_kept forest.nodes x
  stands-is n x e = has-found n whole ∙ ap is_some (found-whole n (live-below n (found-live n x e)) ∙ ap (kept_if (is_kept forest.nodes)) e) ∙ by (is_kept forest.nodes x)
    where
      by : (b : Bool) → is_some (cond b (Some x) None) ≡ b
      by true = refl
      by false = refl

  pub stands-found : (n : ℕ) (x : Visit) → found n real ≡ Some x → stands forest.nodes n ≡ true → found n whole ≡ Some x
  stands-found n x e h = found-whole n (live-below n (found-live n x e)) ∙ ap (kept_if (is_kept forest.nodes)) e ∙ ap (λ b. cond b (Some x) None) (sym (stands-is n x e) ∙ h)

  pub absent-found : (n : ℕ) → stands forest.nodes n ≡ false → found n whole ≡ None
  absent-found n h = absent n whole h

  -- the text of an element is found
  pub text-found : (n : ℕ) (y : Visit) → found n real ≡ Some y → is_leaf_visit forest.nodes y ≡ true → found (text_number n) whole ≡ Some (text_in y)
  text-found n y e leaf =
      let P : Visit → Type 0 = λ v. found v.number whole ≡ Some v in
      let all : Each P (filled (given forest.nodes) [] (kept forest.nodes)) = subst (Each P) (shaped-is forest.nodes) (self-found whole whole-visits.apart) in
      let parts : Each (λ v. P v × Each P (given forest.nodes v)) (kept forest.nodes) = (each-unfilled P (given forest.nodes) (given-none forest.nodes) [] (kept forest.nodes) all).1 in
      let in-kept : found n (kept forest.nodes) ≡ Some y = found-in (is_kept forest.nodes) n real y real-visits.apart e (element-kept y (and-true _ _ leaf).0) in
      let here : Each P (given forest.nodes y) = (each-found (λ v. P v × Each P (given forest.nodes v)) n (kept forest.nodes) y parts in-kept).1 in
      let one : Each P (text_in y ∷ []) = subst (Each P) (given-is forest.nodes y ∙ ap (λ b. cond b (text_in y ∷ []) []) leaf) here in
      ap (λ m. found (text_number m) whole) (sym (found-number n real y e)) ∙ one.0
    where
      element-text : (c : Content) → is_element c ≡ true → is_text c ≡ false
      element-text content.Root h = refl
      element-text (content.Element name) h = refl
      element-text (content.Attribute name text) h = refl
      element-text (content.Text text) h = no h

      element-kept : (v : Visit) → is_element v.content ≡ true → is_kept forest.nodes v ≡ true
      element-kept v h = ap (λ b. not (b && is_replaced (texts_of forest.nodes) v.above)) (element-text v.content h)

  -- ---- lists

  -- the list of a node with elements in it is the same
  module _ (p : ℕ) (filled-with : has_elements (visits forest.nodes) p ≡ true) where
    in-list : Visit → Bool
    in-list y = is_first p y.above

    list-kept : (y : Visit) → is_first p y.above ≡ true → is_kept forest.nodes y ≡ true
    list-kept y h = by y.above h
      where
        of : (m : ℕ) → (p == m) ≡ true → is_some (texts_of forest.nodes m) ≡ false
        of m i = ap (λ k. is_some (texts_of forest.nodes k)) (sym (eqb-true p m i)) ∙ ap (λ b. is_some (text_or b)) filled-with

        and-none : (b : Bool) → not (b && false) ≡ true
        and-none true = refl
        and-none false = refl

        by : (ns : List ℕ) → is_first p ns ≡ true → not (is_text y.content && is_replaced (texts_of forest.nodes) ns) ≡ true
        by [] i = no i
        by (m ∷ ms) i = ap (λ b. not (is_text y.content && b)) (of m i) ∙ and-none (is_text y.content)

    no-text-in : (y : Visit) → filter (λ z. is_first p z.above) (given forest.nodes y) ≡ []
    no-text-in y = ap (filter (λ z. is_first p z.above)) (given-is forest.nodes y) ∙ by (is_leaf_visit forest.nodes y) refl
      where
        of : (b : Bool) → (p == y.number) ≡ b → is_leaf_visit forest.nodes y ≡ true → cond b (text_in y ∷ []) [] ≡ []
        of true e h = no (sym (not-true _ (and-true (is_element y.content) _ h).1) ∙ ap (has_elements (visits forest.nodes)) (sym (eqb-true p y.number e)) ∙ filled-with)
        of false e h = refl

        by : (b : Bool) → is_leaf_visit forest.nodes y ≡ b → filter (λ z. is_first p z.above) (cond b (text_in y ∷ []) []) ≡ []
        by true h = of (p == y.number) refl h
        by false h = refl

    pub same-list : filter (λ y. is_first p y.above) whole ≡ filter (λ y. is_first p y.above) real
    same-list =
        ap (filter (λ y. is_first p y.above)) (shaped-is forest.nodes)
        ∙ unfilled (λ y. is_first p y.above) (given forest.nodes) no-text-in [] (kept forest.nodes) refl
        ∙ filter-within (λ y. is_first p y.above) (is_kept forest.nodes) list-kept real

-- A node with a list and no elements in it has in the shape at most one child: its one text, where it is an element.
use Rattle.std.proofs.Common.{◌≡◌, ℕ, ◌==◌, Bool, true, false, not, cond, ◌&&◌, List, [], ◌∷◌, map, Some, refl, sym, ap, ◌∙◌}
use Rattle.std.specs.Prelude.{filter}
use Rattle.std.proofs.lemmas.Bool.{eqb-true}
use Rattle.xf_name.specs.declared.axis.Axis.TheVariants.{Child}
use Rattle.xf_def_syntax.specs.declared.expr.Test.{Test}
use Rattle.xf_def_forest.specs.declared.content.Content.{Content}
use Rattle.xf_def_forest.specs.declared.content.Content.TheVariants as content
use Rattle.xf_def_forest.specs.Forest.{Forest, is_text, is_element, is_attribute, is_root}
use Rattle.xf_def_forest.specs.Visit.{Visit, visits, is_first}
use Rattle.xf_def_forest.specs.Axis.{axis_from, is_on}
use Rattle.xf_def_forest.specs.Shape.{is_borne, has_elements, text_number}
use Rattle.xf_def_forest.proofs.BackLaws.{and-true}
use Rattle.xf_def_forest.proofs.OrderLaws.{filter-sub, map-sub, sub-different}
use Rattle.xf_def_xpath.specs.Asked.{has_list, found}
use Rattle.xf_def_xpath.specs.AskedSteps.{is_kind}
use Rattle.xf_def_xpath.specs.Agree.{numbers_of, are_apart}
use Rattle.xf_def_xpath.specs.Steps.{reached}
use Rattle.xf_def_xpath.proofs.VisitFacts.{no, found-in, found-out}
use Rattle.xf_def_xpath.proofs.ForestVisits.{each-map, self-found}
use Rattle.xf_eval_shape.specs.Spots.{stands, is_leaf}
use Rattle.xf_eval_shape.specs.Steps.{if_so}
use Rattle.xf_eval_shape.proofs.Filled.{filtered-filled, pieces}
use Rattle.xf_eval_shape.proofs.Lists.{flat-each, flat-one}
use Rattle.xf_eval_shape.proofs.Shapes.{Sound, given, given-is, given-none, is_kept, kept, is_leaf_visit, text_in, real, whole, real-visits, shaped-is, stands-is}
use Rattle.xf_eval_shape.proofs.Plain.{element-parent, root-parent, text-parent}
use Rattle.xf_eval_shape.proofs.Texts.{here, named, Met, meets-text, leaf-is}

module _ (forest : Forest) (sound : Sound forest) (n : ℕ) (x : Visit) (e : found n (real forest sound) ≡ Some x) (s : stands forest.nodes n ≡ true)
    (listed : has_list x.content ≡ true) (t : Test) (kind : is_kind t ≡ true) (hollow : has_elements (visits forest.nodes) n ≡ false) where
  at : x.number ≡ n
  at = named forest sound n x e s listed t kind

  no-attribute : (b : Bool) → (b && not true) ≡ false
  no-attribute true = refl
  no-attribute false = refl

  child-borne : (y : Visit) → is_borne y ≡ true → (is_on Child x y ≡ false) × (given forest.nodes y ≡ [])
  child-borne y h = (ap (λ b. is_first x.number y.above && not b) (and-true _ _ h).0 ∙ no-attribute (is_first x.number y.above), given-none forest.nodes y h)

  -- what stands in the shape is no child of it
  parent-filled : (y : Visit) → found y.number (real forest sound) ≡ Some y → is_kept forest.nodes y ≡ true → is_attribute y.content ≡ false → (p : ℕ) (ps : List ℕ) → y.above ≡ p ∷ ps → has_elements (visits forest.nodes) p ≡ true
  parent-filled y i k a = by y.content refl
    where
      there : stands forest.nodes y.number ≡ true
      there = stands-is forest sound y.number y i ∙ k

      by : (c : Content) → y.content ≡ c → (p : ℕ) (ps : List ℕ) → y.above ≡ p ∷ ps → has_elements (visits forest.nodes) p ≡ true
      by content.Root j = root-parent forest sound y.number y i there (ap is_root j)
      by (content.Element name) j = element-parent forest sound y.number y i there (ap is_element j)
      by (content.Attribute name text) j = no (sym a ∙ ap is_attribute j)
      by (content.Text text) j = text-parent forest sound y.number y i there (ap is_text j)

  no-child : (y : Visit) → found y.number (real forest sound) ≡ Some y → is_kept forest.nodes y ≡ true → is_on Child x y ≡ false
  no-child y i k = by (is_attribute y.content) refl
    where
      of : is_attribute y.content ≡ false → (ns : List ℕ) → y.above ≡ ns → (is_first x.number ns && true) ≡ false
      of a [] j = refl
      of a (p ∷ ps) j = first (x.number == p) refl
        where
          first : (b : Bool) → (x.number == p) ≡ b → (b && true) ≡ false
          first true l = no (sym hollow ∙ ap (has_elements (visits forest.nodes)) (sym at ∙ eqb-true x.number p l) ∙ parent-filled y i k a p ps j)
          first false l = refl

      by : (b : Bool) → is_attribute y.content ≡ b → (is_first x.number y.above && not b) ≡ false
      by true a = no-attribute (is_first x.number y.above)
      by false a = of a y.above refl

  child-piece : (y : Visit) → found y.number (real forest sound) ≡ Some y → is_kept forest.nodes y ≡ true → pieces (is_on Child x) (given forest.nodes) child-borne y ≡ cond (n == y.number) (given forest.nodes y) []
  child-piece y i k =
      ap (λ b. cond b (y ∷ filter (is_on Child x) (given forest.nodes y)) (filter (is_on Child x) (given forest.nodes y))) (no-child y i k)
      ∙ ap (filter (is_on Child x)) (given-is forest.nodes y)
      ∙ of (is_leaf_visit forest.nodes y)
      ∙ ap (λ m. cond (m == y.number) (cond (is_leaf_visit forest.nodes y) (text_in y ∷ []) []) []) at
      ∙ ap (λ l. cond (n == y.number) l []) (sym (given-is forest.nodes y))
    where
      one : (b : Bool) → cond (b && true) (text_in y ∷ []) [] ≡ cond b (text_in y ∷ []) []
      one true = refl
      one false = refl

      nothing : List Visit
      nothing = []

      none : (b : Bool) → nothing ≡ cond b nothing nothing
      none true = refl
      none false = refl

      of : (b : Bool) → filter (is_on Child x) (cond b (text_in y ∷ []) []) ≡ cond (x.number == y.number) (cond b (text_in y ∷ []) []) []
      of true = one (x.number == y.number)
      of false = none (x.number == y.number)

  kept-found : (y : Visit) → found y.number (kept forest.nodes) ≡ Some y → (found y.number (real forest sound) ≡ Some y) × (is_kept forest.nodes y ≡ true)
  kept-found y i = found-out (is_kept forest.nodes) y.number (real forest sound) y (real-visits forest sound).apart i

  kept-apart : are_apart (numbers_of (kept forest.nodes)) ≡ true
  kept-apart = sub-different (map-sub (λ (y : Visit). y.number) (filter-sub (is_kept forest.nodes) (real forest sound))) (real-visits forest sound).apart

  pub child-alone : reached Child t (whole forest sound) n ≡ if_so (is_leaf forest.nodes n) (text_number n)
  child-alone =
      let W = whole forest sound in
      let number : List Visit → List ℕ = map (λ (z : Visit). z.number) in
      let met = Met forest sound n x e s listed t kind Child in
      ap (λ m. number (filter met (axis_from Child W m))) (here forest sound n x e s listed t kind)
      ∙ ap (λ l. number (filter met l)) (
      ap (filter (is_on Child x)) (shaped-is forest.nodes)
      ∙ filtered-filled (is_on Child x) (given forest.nodes) child-borne [] (kept forest.nodes)
      ∙ flat-each (pieces (is_on Child x) (given forest.nodes) child-borne) (λ y. cond (n == y.number) (given forest.nodes y) []) (kept forest.nodes)
      (each-map (λ y. found y.number (kept forest.nodes) ≡ Some y) (λ y. pieces (is_on Child x) (given forest.nodes) child-borne y ≡ cond (n == y.number) (given forest.nodes y) []) (kept forest.nodes)
      (λ y i. child-piece y (kept-found y i).0 (kept-found y i).1) (self-found (kept forest.nodes) kept-apart))
      ∙ flat-one n (given forest.nodes) (kept forest.nodes) x kept-apart (found-in (is_kept forest.nodes) n (real forest sound) x (real-visits forest sound).apart e (sym (stands-is forest sound n x e) ∙ s))
      ∙ given-is forest.nodes x)
      ∙ of (is_leaf_visit forest.nodes x)
      ∙ ap (λ b. if_so b (text_number x.number)) (sym (leaf-is forest sound n x e s listed t kind x (ap (λ k. found k (real forest sound)) at ∙ e)))
      ∙ ap (λ k. if_so (is_leaf forest.nodes k) (text_number k)) at
    where
      of : (b : Bool) → map (λ (z : Visit). z.number) (filter (Met forest sound n x e s listed t kind Child) (cond b (text_in x ∷ []) [])) ≡ if_so b (text_number x.number)
      of true = ap (λ b. map (λ (z : Visit). z.number) (cond b (text_in x ∷ []) [])) (meets-text Child t kind)
      of false = refl

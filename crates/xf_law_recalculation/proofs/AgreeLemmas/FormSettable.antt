-- The calculated nodes of a form are attributes, or elements without elements: a bind takes a root for its document element, and a text for
-- its parent.
use Rattle.std.proofs.Common.{◌≡◌, ℕ, ◌==◌, Bool, true, false, not, cond, List, [], ◌∷◌, map, find, Option, Some, None, option_map, refl, sym, ap, ◌∙◌, subst, inl, inr}
use Rattle.std.specs.Prelude.{◌⊎◌}
use Rattle.xf_def_syntax.specs.declared.form.Tables.{Tables}
use Rattle.xf_def_forest.specs.declared.content.Node.{Node}
use Rattle.xf_def_forest.specs.declared.content.Content.{Content}
use Rattle.xf_def_forest.specs.declared.content.Content.TheVariants as content
use Rattle.xf_def_forest.specs.declared.content.Kind.{Kind}
use Rattle.xf_def_forest.specs.declared.content.Kind.TheVariants as kind
use Rattle.xf_def_forest.specs.Forest.{Forest, is_root, is_text, kind_of, kind_at}
use Rattle.xf_def_forest.specs.Needs.{IsSettable}
use Rattle.xf_def_forest.specs.Visit.{Visit, has_parent, still_above, visit, visits_from, visits}
use Rattle.xf_def_forest.specs.Shape.{erased, without_text, shape, has_elements}
use Rattle.xf_def_values.specs.Functions.{Functions}
use Rattle.xf_def_xpath.specs.Given.{Given}
use Rattle.xf_def_xpath.specs.Asked.{found}
use Rattle.xf_def_xpath.specs.Agree.{untexted}
use Rattle.xf_def_xpath.proofs.VisitFacts.{no, some-same, none-some}
use Rattle.xf_def_xpath.proofs.UntextedLaws.{solid-found}
use Rattle.xf_def_xpath.proofs.ForestVisits.{each-found, found-erased, forest-visits}
use Rattle.xf_def_xpath.proofs.ShapeVisits.{shape-untexted}
use Rattle.xf_def_model.specs.Rules.{scope_of}
use Rattle.xf_def_model.specs.Applied.{Entry, is_calculate}
use Rattle.xf_def_model.specs.Settled.{Bounds, calculates}
use Rattle.xf_def_model.specs.Pertinent.{AllOf}
use Rattle.xf_def_model.proofs.EachLemmas.{each_then, each_both}
use Rattle.xf_law_recalculation.specs.Agree.Settles.{Surrounds, IsStatic}
use Rattle.xf_law_recalculation.specs.Agree.Settles as settles
use Rattle.xf_law_recalculation.specs.Agree.FormSettles.{AreCovered, Applies, FormSettable}
use Rattle.xf_law_recalculation.proofs.AgreeLemmas.FormEntries.{Stands, all-filter}
use Rattle.xf_law_recalculation.proofs.AgreeLemmas.FormSettled.{both, v, hung, same_shape, applied-parts, form_static}
use Rattle.xf_law_recalculation.proofs.AgreeLemmas.HeldShape.{IsTop, tops-from}

kind-from : (n : ℕ) (above nodes : List Node) (y : Visit) → found n (visits_from above nodes) ≡ Some y → kind_at n nodes ≡ Some (kind_of y.content)
kind-from n above [] y h = none-some h
kind-from n above (z ∷ zs) y h = by (z.number == n) h (λ e. kind-from n (z ∷ still_above z.depth above) zs y e)
  where
    by : (b : Bool) → cond b (Some (visit above z)) (found n (visits_from (z ∷ still_above z.depth above) zs)) ≡ Some y →
        (found n (visits_from (z ∷ still_above z.depth above) zs) ≡ Some y → kind_at n zs ≡ Some (kind_of y.content)) →
        option_map kind_of (option_map (λ (x : Node). x.content) (cond b (Some z) (find (λ x. x.number == n) zs))) ≡ Some (kind_of y.content)
    by true i later = ap (λ (q : Visit). Some (kind_of q.content)) (some-same i)
    by false i later = later i

kinds : (c : Content) → is_text c ≡ false → is_root c ≡ false → (kind_of c ≡ kind.Attribute) ⊎ (kind_of c ≡ kind.Element)
kinds content.Root t r = no (sym r)
kinds (content.Element name) t r = inr refl
kinds (content.Attribute name text) t r = inl refl
kinds (content.Text text) t r = no (sym t)

root-kept : (c : Content) → is_root (without_text c) ≡ is_root c
root-kept content.Root = refl
root-kept (content.Element name) = refl
root-kept (content.Attribute name old) = refl
root-kept (content.Text old) = refl

text-kept : (c : Content) → is_text (without_text c) ≡ is_text c
text-kept content.Root = refl
text-kept (content.Element name) = refl
text-kept (content.Attribute name old) = refl
text-kept (content.Text old) = refl

given-back : (o : Option Visit) (y : Visit) → option_map erased o ≡ Some y → (x : Visit) × (o ≡ Some x) × (erased x ≡ y)
given-back None y h = none-some h
given-back (Some x) y h = (x, refl, some-same h)

module _ (b : Bounds) (functions : Functions) (given : Given) (tables : Tables) (model : ℕ) (forest : Forest) (entries : List Entry)
    (covered : AreCovered tables) (around : Surrounds (scope_of functions given tables model) b.string forest) (applies : Applies functions given tables model forest entries) where
  abbrev all : List Visit
  all = visits forest.nodes

  settable : (n : ℕ) (x : Visit) → found n (untexted (shape all)) ≡ Some x → (is_root x.content ≡ true → has_parent x.above ≡ true) → has_elements all n ≡ false → IsSettable n forest
  settable n x e rooted childless =
      let at : found n (untexted (map erased all)) ≡ Some x =
      ap (found n) (sym (shape-untexted all) ∙ ap untexted (same_shape b functions given tables model forest entries covered around applies)) ∙ e in
      let out = solid-found (map erased all) (forest-visits forest around.trees) n x at in
      let y = given-back (found n all) x (sym (found-erased n all) ∙ out.0) in
      let text : is_text y.0.content ≡ false = not-of (is_text y.0.content) (ap not (sym (text-kept y.0.content)) ∙ ap (λ (q : Visit). not (is_text q.content)) y.2 ∙ out.1) in
      let root : is_root y.0.content ≡ false = off (is_root y.0.content) (λ h.
      let top : y.0.above ≡ [] = each-found IsTop n all y.0 (tops-from [] forest.nodes around.trees.tops) y.1 h in
      sym (ap has_parent (ap (λ (q : Visit). q.above) (sym y.2) ∙ top)) ∙ rooted (ap (λ (q : Visit). is_root q.content) (sym y.2) ∙ root-kept y.0.content ∙ h)) in
      let kind = kind-from n [] forest.nodes y.0 y.1 in
      record { kind = of (kind_of y.0.content) (kinds y.0.content text root) kind; childless = childless }
    where
      not-of : (c : Bool) → not c ≡ true → c ≡ false
      not-of true h = sym h
      not-of false h = refl

      off : (c : Bool) → (c ≡ true → false ≡ true) → c ≡ false
      off true h = sym (h refl)
      off false h = refl

      of : (k : Kind) → (k ≡ kind.Attribute) ⊎ (k ≡ kind.Element) → kind_at n forest.nodes ≡ Some k → (kind_at n forest.nodes ≡ Some kind.Attribute) ⊎ (kind_at n forest.nodes ≡ Some kind.Element)
      of k (inl h) i = inl (i ∙ ap Some h)
      of k (inr h) i = inr (i ∙ ap Some h)

  abbrev Here : Entry → Type 0
  Here e = Stands (shape all) (v b functions given tables model forest entries covered around applies) (hung b functions given tables model forest entries covered around applies) (scope_of functions given tables model).rules 0 e

  standing : AllOf (λ e. Here e × (is_calculate e ≡ true → has_elements (shape all) e.node ≡ false)) entries
  standing = subst (AllOf (λ e. Here e × (is_calculate e ≡ true → has_elements (shape all) e.node ≡ false))) (applied-parts b functions given tables model forest entries covered around applies).1
      (both b functions given tables model forest entries covered around applies)

  -- every entry stands at a node that is no text
  pub entries_solid : AllOf (λ e. settles.IsSolid all e.node) entries
  entries_solid = each_then _ (λ e. settles.IsSolid all e.node) (λ e h.
      (h.0.node.0, ap (found e.node) (sym (shape-untexted all) ∙ ap untexted (same_shape b functions given tables model forest entries covered around applies)) ∙ h.0.node.1)) entries standing

  all_settable : AllOf (λ e. IsSettable e.node forest) (calculates entries)
  all_settable = each_then _ _ (λ e h. settable e.node h.0.0.0.node.0 h.0.0.0.node.1 h.0.0.0.node.2 h.1.leaf) (calculates entries)
      (each_both _ (IsStatic (scope_of functions given tables model) forest) (calculates entries)
      (all-filter (λ e. Here e × (is_calculate e ≡ true → has_elements (shape all) e.node ≡ false)) is_calculate entries standing)
      (form_static b functions given tables model forest entries covered around applies))

pub form_settable : FormSettable
form_settable b functions given tables model forest entries covered around applies = all_settable b functions given tables model forest entries covered around applies

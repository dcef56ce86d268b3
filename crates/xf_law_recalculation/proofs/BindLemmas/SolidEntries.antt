-- The nodes of what a bind sets over the instances of a forest are no texts.
use Rattle.std.proofs.Common.{◌≡◌, ℕ, true, not, List, [], map, Some, refl, sym, ap, ◌∙◌, subst}
use Rattle.xf_def_forest.specs.declared.content.Content.{Content}
use Rattle.xf_def_forest.specs.declared.content.Content.TheVariants as content
use Rattle.xf_def_forest.specs.Forest.{Forest, is_text, is_element}
use Rattle.xf_def_forest.specs.Visit.{Visit}
use Rattle.xf_def_forest.specs.Shape.{erased, shape}
use Rattle.xf_def_xpath.specs.Asked.{found}
use Rattle.xf_def_xpath.specs.Agree.{untexted, AreVisits}
use Rattle.xf_def_xpath.proofs.VisitFacts.{no, found-in}
use Rattle.xf_def_xpath.proofs.UntextedLaws.{solid-found}
use Rattle.xf_def_xpath.proofs.ForestVisits.{forest-visits}
use Rattle.xf_def_xpath.proofs.ShapeVisits.{shape-untexted, shape-visits}
use Rattle.xf_def_model.specs.Rules.{Rule, Scope}
use Rattle.xf_def_model.specs.Applied.{entries_by}
use Rattle.xf_def_model.specs.Pertinent.{AllOf}
use Rattle.xf_def_model.proofs.EachLemmas.{each_then}
use Rattle.xf_law_recalculation.specs.Agree.Settles.{AreHung, IsSolid}
use Rattle.xf_law_recalculation.specs.Agree.Forests.{bare}
use Rattle.xf_law_recalculation.proofs.AgreeLemmas.FormEntries.{bind-stands}
use Rattle.xf_law_recalculation.proofs.AgreeLemmas.HeldShape.{shape-erased}
use Rattle.xf_law_recalculation.specs.Marks.Binds.{SameStructure, instances_of, HasInstances}
use Rattle.xf_law_recalculation.specs.Marks.Instances.{standing}
use Rattle.xf_law_recalculation.proofs.MarksLemmas.BindInstances.{structure}
use Rattle.xf_law_recalculation.proofs.MarksLemmas.ShapeHung.{shape-texts}

element-solid : (c : Content) → is_element c ≡ true → not (is_text c) ≡ true
element-solid content.Root h = no h
element-solid (content.Element name) h = refl
element-solid (content.Attribute name text) h = no h
element-solid (content.Text text) h = no h

module _ (scope : Scope) (forest : Forest) (h : HasInstances scope forest) where
  abbrev P : List Visit
  P = standing forest

  abbrev part : Forest
  part = instances_of forest

  parts : SameStructure [] scope forest part
  parts = structure scope forest h

  same_shape : map erased (shape P) ≡ shape P
  same_shape = shape-erased P

  erased_visits : AreVisits (map erased (shape P))
  erased_visits = shape-visits part parts.trees_before parts.below_before

  v : AreVisits (shape P)
  v = subst AreVisits same_shape erased_visits

  -- an element of the data is one of their shape
  hung : AreHung (shape P)
  hung k x e t =
      let p = shape-texts part parts.trees_before parts.below_before parts.hung_before k x (ap (found k) same_shape ∙ e) t in
      let solid : found p.0 (untexted (bare part)) ≡ Some p.1 = found-in (λ y. not (is_text y.content)) p.0 (bare part) p.1 (forest-visits part parts.trees_before).apart p.2 (element-solid p.1.content p.3) in
      let at = solid-found (map erased (shape P)) erased_visits p.0 p.1 (ap (found p.0) (shape-untexted P) ∙ solid) in
      (p.0, p.1, sym (ap (found p.0) same_shape) ∙ at.0, p.3, p.4)

  pub entries-solid : (bind : ℕ) (r : Rule) → AllOf (λ e. IsSolid P e.node) (entries_by scope (shape P) bind r)
  entries-solid bind r =
      each_then _ (λ e. IsSolid P e.node) (λ e s. (s.node.0, ap (found e.node) (sym (shape-untexted P) ∙ ap untexted same_shape) ∙ s.node.1)) (entries_by scope (shape P) bind r) (bind-stands (shape P) v hung scope bind r [])

-- The roots of a part are those of the model's instances; so it tells their document elements, and a shape is cut as the data are.
use Rattle.std.proofs.Common.{◌≡◌, ℕ, Bool, true, false, List, [], ◌∷◌, refl, sym, ap, ◌∙◌, subst}
use Rattle.std.specs.Prelude.{filter}
use Rattle.xf_def_syntax.specs.declared.form.Instance.{Instance}
use Rattle.xf_def_forest.specs.declared.content.Node.{Node}
use Rattle.xf_def_forest.specs.Forest.{Forest}
use Rattle.xf_def_forest.specs.Visit.{Visit, visits, has}
use Rattle.xf_def_forest.specs.Shape.{text_number, shape, shape_of}
use Rattle.xf_def_forest.specs.WellFormed.{HasTrees}
use Rattle.xf_def_forest.proofs.OrderLaws.{seen-has}
use Rattle.xf_def_xpath.specs.Given.{document_of}
use Rattle.xf_def_xpath.proofs.VisitFacts.{no}
use Rattle.xf_def_xpath.proofs.ForestVisits.{Each}
use Rattle.xf_def_xpath.proofs.PartLaws.{is_under as is_seen}
use Rattle.xf_law_forests.specs.Root.Roots.{roots_in}
use Rattle.xf_law_recalculation.proofs.BindLemmas.Led.{forest-led}
use Rattle.xf_law_recalculation.proofs.BindLemmas.Pair.{filter-each}
use Rattle.xf_law_recalculation.specs.Document.Documents.{documents_at}
use Rattle.xf_law_recalculation.specs.Elsewhere.Parts.{own_roots, trees_from, IsPart}
use Rattle.xf_law_recalculation.specs.Held.OwnForest.{PartHasTrees, AreLow, DocumentsOfPart, ShapeOfPart}
use Rattle.xf_law_recalculation.proofs.ElsewhereLemmas.Own.{has_root, own-root, root-there}
use Rattle.xf_law_recalculation.proofs.ElsewhereLemmas.Trees.{top-in}
use Rattle.xf_law_recalculation.specs.Within.Within.{Whole, kept}
use Rattle.xf_law_recalculation.proofs.HeldLemmas.Seats.{in_part, own_numbers, above-in, numbers-kept, p-seen, part-kept, trees-whole, texts-too}
use Rattle.xf_law_recalculation.proofs.HeldLemmas.Shapes.{shape-part, shape-whole, shape-each}
use Rattle.xf_law_recalculation.proofs.HeldLemmas.Forests.{part-trees, part-roots}
use Rattle.xf_law_recalculation.proofs.HeldLemmas.Documents.{by_roots, at-roots, own_instances, own-documents, roots-kept, own-filter}
use Rattle.xf_law_recalculation.proofs.HeldLemmas.Held.{roots-apart}

-- ---- the roots of a part

abbrev pub tops_of : List Instance → ℕ → List Node → List ℕ
tops_of instances model nodes = own_roots model instances (roots_in nodes)

-- they are its tops
pub own-tops : (instances : List Instance) (model : ℕ) (part whole : Forest) → HasTrees whole → IsPart instances model part whole → roots_in part.nodes ≡ tops_of instances model whole.nodes
own-tops instances model part whole trees h =
    ap roots_in h.nodes
    ∙ part-roots (tops_of instances model whole.nodes) false whole.nodes trees.tops
    ∙ own-filter model instances (roots_in whole.nodes) (roots-apart whole.nodes trees.apart)

pub top-root : (instances : List Instance) (model : ℕ) (nodes : List Node) (n : ℕ) → has n (tops_of instances model nodes) ≡ true → has_root n nodes ≡ true
top-root instances model nodes n h = by (has n (roots_in nodes)) refl
  where
    by : (b : Bool) → has n (roots_in nodes) ≡ b → has_root n nodes ≡ true
    by true e = sym (root-there n nodes) ∙ e
    by false e = no (sym (own-root model n instances (roots_in nodes) e) ∙ h)

-- each is a node of it
pub top-number : (instances : List Instance) (model : ℕ) (whole : Forest) (trees : HasTrees whole) (n : ℕ) → has n (tops_of instances model whole.nodes) ≡ true → has n (own_numbers whole trees (tops_of instances model whole.nodes)) ≡ true
top-number instances model whole trees n h =
    seen-has n [] (trees_from (tops_of instances model whole.nodes) false whole.nodes)
    ∙ top-in (tops_of instances model whole.nodes) n false whole.nodes trees.tops (top-root instances model whole.nodes n h) h

pub part_has_trees : PartHasTrees
part_has_trees instances model part whole trees h =
    subst (λ nodes. HasTrees (record { nodes = nodes; next = whole.next })) (sym h.nodes) (part-trees (tops_of instances model whole.nodes) whole.next whole trees trees.below)

-- ---- document elements

-- those that the model names are told by the part
pub named : (instances : List Instance) (model : ℕ) (part whole : Forest) → HasTrees whole → IsPart instances model part whole → (id : List ℕ) →
    document_of model id (documents_at instances whole.nodes) ≡ document_of model id (by_roots (own_instances model instances) (roots_in part.nodes) (visits part.nodes))
named instances model part whole trees h id =
    let tops = tops_of instances model whole.nodes in
    let own = own_numbers whole trees tops in
    ap (document_of model id) (at-roots instances whole.nodes)
    ∙ own-documents model instances (roots_in whole.nodes) (visits whole.nodes) id
    ∙ ap (document_of model id) (sym (roots-kept (λ k. has k own) (visits whole.nodes) (above-in whole trees tops) (own_instances model instances) tops (λ n i. top-number instances model whole trees n i)))
    ∙ ap (λ l. document_of model id (by_roots (own_instances model instances) tops l)) (numbers-kept whole trees tops ∙ ap visits (sym h.nodes))
    ∙ ap (λ roots. document_of model id (by_roots (own_instances model instances) roots (visits part.nodes))) (sym (own-tops instances model part whole trees h))

pub documents_of_part : DocumentsOfPart
documents_of_part instances model part before now trees trees_too h h_too id = named instances model part before trees h id ∙ sym (named instances model part now trees_too h_too id)

-- ---- shapes

module _ (instances : List Instance) (model : ℕ) (part whole : Forest) (h : IsPart instances model part whole) (trees : HasTrees whole) (below : AreLow whole) where
  -- by their numbers: a node of the part, or the one text of such an element in a shape
  abbrev pub is_own : ℕ → Bool
  is_own k = in_part (own_numbers whole trees (tops_of instances model whole.nodes)) k

  pub whole-trees : Each (Whole is_own) (visits whole.nodes)
  whole-trees = trees-whole whole trees (tops_of instances model whole.nodes) below

  pub texts-own : Each (λ v. is_own (text_number v.number) ≡ is_own v.number) (visits whole.nodes)
  texts-own = texts-too whole trees (tops_of instances model whole.nodes) below

  pub kept-is : kept is_own (visits whole.nodes) ≡ visits part.nodes
  kept-is = part-kept whole trees (tops_of instances model whole.nodes) below ∙ ap visits (sym h.nodes)

  pub shape-is : kept is_own (shape (visits whole.nodes)) ≡ shape_of part.nodes
  shape-is = shape-part is_own (visits whole.nodes) whole-trees texts-own (forest-led whole.nodes trees.first) ∙ ap shape kept-is

  pub shape-trees : Each (Whole is_own) (shape (visits whole.nodes))
  shape-trees = shape-whole is_own (visits whole.nodes) whole-trees texts-own (forest-led whole.nodes trees.first)

  -- a node of the shape is in the part by its top alone
  pub seen-shape : filter (is_seen (tops_of instances model whole.nodes)) (shape (visits whole.nodes)) ≡ shape_of part.nodes
  seen-shape =
      sym (filter-each (λ v. is_own v.number) (is_seen (tops_of instances model whole.nodes)) (shape (visits whole.nodes))
      (shape-each (λ v. is_own v.number ≡ is_seen (tops_of instances model whole.nodes) v) (visits whole.nodes) (both (visits whole.nodes) (p-seen whole trees (tops_of instances model whole.nodes) below) texts-own)))
      ∙ shape-is
    where
      both : (vs : List Visit) → Each (λ v. is_own v.number ≡ is_seen (tops_of instances model whole.nodes) v) vs → Each (λ v. is_own (text_number v.number) ≡ is_own v.number) vs →
          Each (λ v. (is_own v.number ≡ is_seen (tops_of instances model whole.nodes) v) × ((text : List ℕ) → is_own (text_number v.number) ≡ is_seen (tops_of instances model whole.nodes) v)) vs
      both [] d e = tt
      both (v ∷ vs) d e = ((d.0, λ text. e.0 ∙ d.0), both vs d.1 e.1)

pub shape_of_part : ShapeOfPart
shape_of_part instances model part after whole now trees trees_too low low_too h h_too roots shapes =
    sym (seen-shape instances model after now h_too trees_too low_too)
    ∙ ap (λ rs. filter (is_seen (own_roots model instances rs)) (shape_of now.nodes)) roots
    ∙ ap (filter (is_seen (tops_of instances model whole.nodes))) shapes
    ∙ seen-shape instances model part whole h trees low

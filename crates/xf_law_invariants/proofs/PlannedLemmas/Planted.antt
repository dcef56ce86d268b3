-- An element that is planted: it is a detached tree, and what stood stays as it was.
use Rattle.std.proofs.Common.{◌≡◌, ℕ, ◌+◌, ◌==◌, Bool, true, false, ◌&&◌, ◌||◌, List, [], ◌∷◌, ◌++◌, length, Option, Some, None, Ok, refl, sym, ap, ◌∙◌, subst, arith}
use Rattle.std.proofs.lemmas.Bool.Decides.{nat_tests}
use Rattle.xf_def_forest.specs.declared.content.Content.{Content}
use Rattle.xf_def_forest.specs.declared.content.Content.TheVariants as content
use Rattle.xf_def_forest.specs.declared.content.Kind.TheVariants as kind
use Rattle.xf_def_forest.specs.declared.content.Node.{Node}
use Rattle.xf_def_forest.specs.declared.fault.TreeFault.{TreeFault}
use Rattle.xf_def_forest.specs.Forest.{Forest, has_number, is_element, kind_at, kind_of, tree_of}
use Rattle.xf_def_forest.specs.Limits.{Limits, passed_by_tree, unless}
use Rattle.xf_def_forest.specs.Needs.{is_top}
use Rattle.xf_def_forest.specs.Plant.{numbered_from}
use Rattle.xf_def_forest.specs.Planted.{with_tree}
use Rattle.xf_def_forest.specs.WellFormed.{HasTrees}
use Rattle.xf_law_forests.specs.Rollback.Made.{IsGrowth}
use Rattle.xf_law_invariants.specs.Tree.Kinds.{KindsStay}
use Rattle.xf_law_invariants.specs.Tree.Trees.{AreTreesAlone}
use Rattle.xf_law_invariants.proofs.TreeLemmas.Come.{tree_laws}
use Rattle.xf_law_invariants.proofs.TreeLemmas.OfKind.{kind_laws}
use Rattle.xf_law_invariants.specs.Planned.Outside.{IsOutside}
use Rattle.xf_law_invariants.proofs.PlannedLemmas.OutsideForests.{top-stands}
use Rattle.xf_law_invariants.proofs.PlannedLemmas.NewTrees.{new-number}
use Rattle.xf_law_invariants.proofs.PlannedLemmas.RootForests.{document_grown, document_none}
use Rattle.xf_law_invariants.proofs.PlannedLemmas.Ready.{kind-behind, kinds-no-root, less-number, old-out, tree-behind, tree-part}
use Rattle.xf_law_invariants.specs.Planned.Roots.{IsNoDocument}
use Rattle.xf_law_invariants.specs.Planned.Ready.{MayCut}

-- the first is an element at depth 0
pub record IsElementFirst (contents : List (ℕ × Content)) : Type 0 where
  pub name : Content
  pub rest : List (ℕ × Content)
  pub is : contents ≡ (0, name) ∷ rest
  pub element : is_element name ≡ true

pub record IsPlanted (c : ℕ) (contents : List (ℕ × Content)) (forest after : Forest) : Type 0 where
  pub nodes : after.nodes ≡ forest.nodes ++ numbered_from forest.next contents
  pub kinds : KindsStay forest after
  pub kind : kind_at c after.nodes ≡ Some kind.Element
  pub top : is_top c after.nodes ≡ true
  pub inner : IsNoDocument c after.nodes
  pub out : (q : ℕ) → has_number q forest.nodes ≡ true → IsOutside q c after.nodes
  pub grown : (m : ℕ) → MayCut m forest → MayCut m after

unless-same : {X : Type 0} (o : Option TreeFault) (x y : X) → unless o x ≡ Ok y → x ≡ y
unless-same None x y e = cc e
unless-same (Some fault) x y e = cc e

self : (n : ℕ) → (n == n) ≡ true
self n = grind (arith, nat_tests)

top-behind : (k : ℕ) (xs ys : List Node) → is_top k ys ≡ true → is_top k (xs ++ ys) ≡ true
top-behind k [] ys h = h
top-behind k (x ∷ xs) ys h = by ((x.number == k) && (x.depth == 0)) (top-behind k xs ys h)
  where
    by : (b : Bool) → is_top k (xs ++ ys) ≡ true → (b || is_top k (xs ++ ys)) ≡ true
    by true e = refl
    by false e = e

module _ (l : Limits) (contents : List (ℕ × Content)) (c : ℕ) (forest after : Forest) (h : HasTrees forest) (growth : IsGrowth contents) (alone : AreTreesAlone contents) (first : IsElementFirst contents)
    (e : with_tree l contents forest ≡ Ok (c, after)) where
  abbrev whole : ℕ × Forest
  whole = (forest.next, record { nodes = forest.nodes ++ numbered_from forest.next contents; next = forest.next + length contents })

  same : ◌≡◌ {A = ℕ × Forest} whole (c, after)
  same = unless-same (passed_by_tree l (numbered_from forest.next contents) (forest.nodes ++ numbered_from forest.next contents)) whole (c, after) e

  number : c ≡ forest.next
  number = sym (ap (λ (w : ℕ × Forest). w.0) same)

  nodes : after.nodes ≡ forest.nodes ++ numbered_from forest.next contents
  nodes = sym (ap (λ (w : ℕ × Forest). w.1.nodes) same)

  whole-trees : HasTrees (record { nodes = forest.nodes ++ numbered_from forest.next contents; next = forest.next + length contents })
  whole-trees = subst (λ (w : ℕ × Forest). HasTrees w.1) (sym same) (tree_laws.planted l contents c forest after h alone e)

  new-out : has_number forest.next forest.nodes ≡ false
  new-out = new-number forest.next forest.nodes h.below

  first-kind : kind_at forest.next (numbered_from forest.next contents) ≡ Some kind.Element
  first-kind = subst (λ cs. kind_at forest.next (numbered_from forest.next cs) ≡ Some kind.Element) (sym first.is) (rw (self forest.next) (of first.name first.element))
    where
      of : (k : Content) → is_element k ≡ true → ◌≡◌ {A = Option _} (Some (kind_of k)) (Some kind.Element)
      of content.Root i = cc i
      of (content.Element name) i = refl
      of (content.Attribute name text) i = cc i
      of (content.Text text) i = cc i

  first-top : is_top forest.next (numbered_from forest.next contents) ≡ true
  first-top = subst (λ cs. is_top forest.next (numbered_from forest.next cs) ≡ true) (sym first.is) (rw (self forest.next) refl)

  is-top : is_top c after.nodes ≡ true
  is-top = ap (λ k. is_top k after.nodes) number ∙ ap (is_top forest.next) nodes ∙ top-behind forest.next forest.nodes (numbered_from forest.next contents) first-top

  pub planted-is : IsPlanted c contents forest after
  planted-is =
      let kinds = kind_laws.planted l contents c forest after e in
      record {
        nodes = nodes;
        kinds = kinds;
        kind = ap (λ k. kind_at k after.nodes) number ∙ ap (kind_at forest.next) nodes ∙ kind-behind forest.next forest.nodes (numbered_from forest.next contents) new-out ∙ first-kind;
        top = is-top;
        inner = subst (λ k. IsNoDocument k after.nodes) (sym number) (subst (IsNoDocument forest.next) (sym nodes) (document_grown forest h contents growth whole-trees forest.next (document_none forest h forest.next new-out)));
        out = λ q there. record {
          stands = top-stands c after.nodes is-top;
          outside = ap (λ k. has_number q (tree_of k after.nodes)) number ∙ ap (λ ys. has_number q (tree_of forest.next ys)) nodes ∙ ap (has_number q) (tree-behind forest.next forest.nodes (numbered_from forest.next contents) new-out)
              ∙ tree-part q forest.next (numbered_from forest.next contents) (old-out q forest.next contents (less-number q forest.next forest.nodes h.below there));
        };
        grown = λ m q. record {
          kind = kinds-no-root m forest after kinds q.kind;
          inner = subst (IsNoDocument m) (sym nodes) (document_grown forest h contents growth whole-trees m q.inner);
        };
      }

-- While texts are settled the shape of the data stays.
use Rattle.std.proofs.Common.{◌≡◌, ℕ, zero, suc, ◌≤◌, Bool, true, false, cond, List, [], ◌∷◌, map, length, sym, ap, ◌∙◌, subst, arith}
use Rattle.xf_def_forest.specs.declared.content.Node.{Node}
use Rattle.xf_def_forest.specs.Forest.{Forest}
use Rattle.xf_def_forest.specs.Needs.{IsSettable}
use Rattle.xf_def_forest.specs.Settle.{with_settled_text}
use Rattle.xf_def_forest.specs.Shape.{has_elements, shape_of}
use Rattle.xf_def_forest.specs.Visit.{Visit, visits}
use Rattle.xf_def_forest.specs.WellFormed.{HasTrees}
use Rattle.xf_law_forests.proofs.RollbackLemmas.Trees.{Trees, onto}
use Rattle.xf_law_forests.proofs.RollbackLemmas.KeepingTrees.{stands}
use Rattle.xf_law_forests.specs.Settle.Written.{AreSettable, Contents, written}
use Rattle.xf_law_forests.proofs.SettleLemmas.Bridge.{AreReady, ready-later, ready-put, settled-onto}
use Rattle.xf_law_forests.proofs.SettleLemmas.MeasureLaws.{all_done}
use Rattle.xf_law_forests.proofs.SettleLemmas.Put.{put}
use Rattle.xf_law_forests.proofs.SettleLemmas.WrittenLaws.{alone, alone-trees, ready}
use Rattle.xf_def_model.specs.Applied.{Entry}
use Rattle.xf_def_model.specs.Pertinent.{AllOf}
use Rattle.xf_def_model.specs.Rules.{Scope}
use Rattle.xf_def_model.specs.Settled.{Bounds, calculates, content_by, round, rounds, settled_contents}
use Rattle.xf_law_recalculation.proofs.AgreeLemmas.FormEntries.{elements-same}
use Rattle.xf_law_recalculation.proofs.AgreeLemmas.HeldShape.{shape-erased}
use Rattle.xf_law_machine.proofs.BehavioursLemmas.WrittenContents.{all-written}
use Rattle.xf_def_machine.specs.Behave.{with_contents}
use Rattle.xf_law_sessions.proofs.EnteredLemmas.PutShape.{put-shape}

shape-elements : (nodes : List Node) (n : ℕ) → has_elements (shape_of nodes) n ≡ has_elements (visits nodes) n
shape-elements nodes n = ap (λ all. has_elements all n) (sym (shape-erased (visits nodes))) ∙ elements-same (visits nodes) n

-- no elements are in these nodes
abbrev AreChildless : Contents → List Visit → Type 0
AreChildless [] shape = Unit {0}
AreChildless (p ∷ ps) shape = (has_elements shape p.0 ≡ false) × AreChildless ps shape

childless : (contents : Contents) (forest : Forest) → AreSettable contents forest → AreChildless contents (shape_of forest.nodes)
childless [] forest h = tt
childless (p ∷ ps) forest h = (shape-elements forest.nodes p.0 ∙ h.0.childless, childless ps forest h.1)

onto-still : (done : ℕ → Bool) (number : ℕ) (contents : Contents) (t : Trees) (shape : List Visit) → AreReady number contents t → AreChildless contents shape → shape_of (onto 0 t []) ≡ shape
    → shape_of (written done number contents (onto 0 t [])) ≡ shape
onto-still done number [] t shape r c h = h
onto-still done number ((n, text) ∷ rest) t shape r c h =
    by (done n) (onto-still done (suc number) rest t shape (ready-later number rest t r.3) c.1 h)
    (onto-still done (suc number) rest (put number n text t) shape (ready-later number rest (put number n text t) (ready-put number n text rest t r.0 r.1 r.3)) c.1 once)
  where
    once : shape_of (onto 0 (put number n text t) []) ≡ shape
    once = put-shape number n text t r.0 (sym (shape-elements (onto 0 t []) n) ∙ ap (λ s. has_elements s n) h ∙ c.0) ∙ h

    by : (b : Bool) → shape_of (written done (suc number) rest (onto 0 t [])) ≡ shape → shape_of (written done (suc number) rest (onto 0 (put number n text t) [])) ≡ shape
        → shape_of (written done (suc number) rest (cond b (with_settled_text number n text (onto 0 t [])) (onto 0 t []))) ≡ shape
    by true i j = subst (λ l. shape_of (written done (suc number) rest l) ≡ shape) (sym (settled-onto number n text t r.0 r.1)) j
    by false i j = i

-- whichever were written
pub written-still : (done : ℕ → Bool) (number : ℕ) (contents : Contents) (forest : Forest) → HasTrees forest → AreSettable contents forest → forest.next ≤ number
    → shape_of (written done number contents forest.nodes) ≡ shape_of forest.nodes
written-still done number contents forest trees may later =
    let s = stands (alone forest) (alone-trees forest trees) in
    let are_ready = ready forest s number later contents may in
    subst (λ l. shape_of (written done number contents l) ≡ shape_of forest.nodes) (sym s.nodes)
    (onto-still done number contents s.trees (shape_of forest.nodes) are_ready (childless contents forest may) (ap shape_of (sym s.nodes)))

-- ---- settled contents

are-settable : (b : Bounds) (scope : Scope) (all : List Visit) (forest : Forest) (es : List Entry) → AllOf (λ e. IsSettable e.node forest) es → AreSettable (map (content_by b scope all) es) forest
are-settable b scope all forest [] h = tt
are-settable b scope all forest (e ∷ es) h = (h.0, are-settable b scope all forest es h.1)

-- of calculates whose texts can be set
module _ (b : Bounds) (scope : Scope) (entries : List Entry) (forest : Forest) (trees : HasTrees forest) (able : AllOf (λ e. IsSettable e.node forest) (calculates entries)) where
  rounds-settable : (all : List Visit) (k : ℕ) (contents : Contents) → AreSettable contents forest → AreSettable (rounds b scope entries all k contents) forest
  rounds-settable all zero contents h = h
  rounds-settable all (suc k) contents h = rounds-settable all k (round b scope entries all contents) (are-settable b scope _ forest (calculates entries) able)

  pub settled-settable : (all : List Visit) → AreSettable (settled_contents b scope entries all) forest
  settled-settable all = rounds-settable all (length (calculates entries)) [] tt

  pub settled-shape : (all : List Visit) → shape_of (with_contents forest.next (settled_contents b scope entries all) forest.nodes) ≡ shape_of forest.nodes
  settled-shape all =
      ap shape_of (sym (all-written forest.next (settled_contents b scope entries all) forest.nodes))
      ∙ written-still all_done forest.next (settled_contents b scope entries all) forest trees (settled-settable all) (omega arith)

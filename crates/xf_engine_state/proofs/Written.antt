-- While texts are settled the shape of the data stays, and texts stand in elements.
use Rattle.std.proofs.Common.{◌≡◌, ℕ, suc, Bool, true, false, cond, List, [], ◌∷◌, refl, sym, ap, ◌∙◌, subst}
use Rattle.xf_def_forest.specs.declared.content.Node.{Node}
use Rattle.xf_def_forest.specs.Forest.{Forest}
use Rattle.xf_def_forest.specs.Settle.{with_settled_text}
use Rattle.xf_def_forest.specs.Shape.{has_elements, shape_of}
use Rattle.xf_def_forest.specs.Visit.{Visit}
use Rattle.xf_law_forests.proofs.RollbackLemmas.Trees.{Trees, onto}
use Rattle.xf_law_forests.proofs.RollbackLemmas.KeepingTrees.{stands}
use Rattle.xf_law_forests.specs.Settle.Written.{AreSettable, Contents, MayWrite, written}
use Rattle.xf_law_forests.proofs.SettleLemmas.Bridge.{AreReady, ready-later, ready-put, settled-onto}
use Rattle.xf_law_forests.proofs.SettleLemmas.Put.{put}
use Rattle.xf_law_forests.proofs.SettleLemmas.WrittenLaws.{alone, alone-trees, ready}
use Rattle.xf_law_recalculation.specs.Agree.Hung.{are_hung}
use Rattle.xf_binds_apply.proofs.SetLaws.{elements-same}
use Rattle.xf_engine_state.proofs.SettledHung.{put-hung}
use Rattle.xf_engine_state.proofs.SettledShape.{put-shape}

-- the nodes have this shape, and texts stand in elements
pub record IsStill (shape : List Visit) (nodes : List Node) : Type 0 where
  pub shaped : shape_of nodes ≡ shape
  pub hung : are_hung nodes ≡ true

-- no elements are in these nodes
abbrev AreChildless : Contents → List Visit → Type 0
AreChildless [] shape = Unit {0}
AreChildless (p ∷ ps) shape = (has_elements shape p.0 ≡ false) × AreChildless ps shape

childless : (contents : Contents) (forest : Forest) → AreSettable contents forest → AreChildless contents (shape_of forest.nodes)
childless [] forest h = tt
childless (p ∷ ps) forest h = (elements-same forest.nodes p.0 ∙ h.0.childless, childless ps forest h.1)

onto-still : (done : ℕ → Bool) (number : ℕ) (contents : Contents) (t : Trees) (shape : List Visit) → AreReady number contents t → AreChildless contents shape → IsStill shape (onto 0 t [])
    → IsStill shape (written done number contents (onto 0 t []))
onto-still done number [] t shape r c h = h
onto-still done number ((n, text) ∷ rest) t shape r c h =
    by (done n) (onto-still done (suc number) rest t shape (ready-later number rest t r.3) c.1 h)
    (onto-still done (suc number) rest (put number n text t) shape (ready-later number rest (put number n text t) (ready-put number n text rest t r.0 r.1 r.3)) c.1 once)
  where
    once : IsStill shape (onto 0 (put number n text t) [])
    once = record {
      shaped = put-shape number n text t r.0 (sym (elements-same (onto 0 t []) n) ∙ ap (λ s. has_elements s n) h.shaped ∙ c.0) ∙ h.shaped;
      hung = put-hung number n text t r.0 h.hung;
    }

    by : (b : Bool) → IsStill shape (written done (suc number) rest (onto 0 t [])) → IsStill shape (written done (suc number) rest (onto 0 (put number n text t) []))
        → IsStill shape (written done (suc number) rest (cond b (with_settled_text number n text (onto 0 t [])) (onto 0 t [])))
    by true i j = subst (λ l. IsStill shape (written done (suc number) rest l)) (sym (settled-onto number n text t r.0 r.1)) j
    by false i j = i

-- whichever were written
pub written-still : (done : ℕ → Bool) (number : ℕ) (contents : Contents) (forest : Forest) → MayWrite number contents forest → are_hung forest.nodes ≡ true
    → IsStill (shape_of forest.nodes) (written done number contents forest.nodes)
written-still done number contents forest may h =
    let s = stands (alone forest) (alone-trees forest may.trees) in
    let are_ready = ready forest s number may.later contents may.settable in
    subst (λ l. IsStill (shape_of forest.nodes) (written done number contents l)) (sym s.nodes)
    (onto-still done number contents s.trees (shape_of forest.nodes) are_ready (childless contents forest may.settable)
    (subst (IsStill (shape_of forest.nodes)) s.nodes (record { shaped = refl; hung = h })))

-- The data without their detached trees: what is built over the ones is built over the others.
use Rattle.std.proofs.Common.{◌≡◌, ℕ, ◌<◌, ◌^◌, List, [], ap, ◌∙◌}
use Rattle.xf_def_forest.specs.Changes.{in_detached}
use Rattle.xf_def_forest.specs.Forest.{Forest}
use Rattle.xf_def_forest.specs.Texts.{without_detached}
use Rattle.xf_def_forest.specs.WellFormed.{HasTrees}
use Rattle.xf_law_forests.specs.Root.Roots.{AreAhead}
use Rattle.xf_law_rebuild.proofs.Places.{alone_dropped, roots_dropped}
use Rattle.xf_binds.specs.Kept.{Kept}
use Rattle.xf_binds.specs.Table.{kept_at}
use Rattle.xf_form.specs.declared.loaded.Loaded.{Loaded}
use Rattle.xf_undo.specs.Draft.{alone}
use Rattle.xf_engine_state.specs.declared.flags.Flags.{Flags}
use Rattle.xf_engine_state.specs.Built.{IsWhole}
use Rattle.xf_engine_state.specs.Held.{last_place}
use Rattle.xf_engine_state.proofs.BuiltLaws.{dropped-built}
use Rattle.xf_engine_state.proofs.DeepLaws.{all-instances}

abbrev pub dropped : Forest → Forest
dropped forest = (without_detached (alone forest)).forest

-- where none is detached
pub dropped-same : (forest : Forest) → in_detached forest.nodes ≡ [] → dropped forest ≡ forest
dropped-same forest none = ap (λ ns. record forest { nodes = ns }) (all-instances forest.nodes none)

-- none is left
pub dropped-alone : (forest : Forest) → in_detached (dropped forest).nodes ≡ []
dropped-alone forest = alone_dropped forest.nodes

pub whole-dropped : (l : Loaded) (forest : Forest) (table : List Kept) (flags : List Flags) (built : ℕ) → HasTrees forest → HasTrees (dropped forest) → forest.next < 2 ^ 128 → AreAhead forest.nodes
    → IsWhole l forest table flags built → IsWhole l (dropped forest) table flags built
whole-dropped l forest table flags built trees trees_after few ahead w =
    let after = dropped-built l forest (record { trees = trees; hung = w.hung; few = few }) trees_after ahead in
    record {
      hung = after.now.hung;
      few = roots_dropped forest.nodes ahead last_place ∙ w.few;
      models = λ model less settled. after.built model (kept_at table model) (w.models model less settled);
    }

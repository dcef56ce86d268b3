-- What is known of the data and of the models that are built stays true over data of the same shape, and while no entries change.
use Rattle.std.proofs.Common.{◌≡◌, ℕ, zero, suc, ◌<◌, ◌≤◌, ◌==◌, Bool, true, false, List, [], ◌∷◌, map, length, get_or, max, Ok, refl, sym, ap, ◌∙◌, subst, arith}
use Rattle.std.specs.Prelude.{slice_set}
use Rattle.std.proofs.lemmas.Bool.{eqb-true}
use Rattle.xf_def_forest.specs.declared.content.Node.{Node}
use Rattle.xf_def_forest.specs.Changes.{in_detached}
use Rattle.xf_def_forest.specs.Forest.{Forest}
use Rattle.xf_def_forest.specs.Needs.{IsSettable}
use Rattle.xf_def_forest.specs.Shape.{shape_of}
use Rattle.xf_def_forest.specs.Texts.{with_text}
use Rattle.xf_def_forest.specs.WellFormed.{HasTrees}
use Rattle.xf_def_forest.proofs.SettleLaws.{numbered-is}
use Rattle.xf_def_forest.proofs.TextLaws.{setting-keeps_shape}
use Rattle.xf_funcs.specs.Called.{called}
use Rattle.xf_graph.specs.Cycle.{IsAcyclic}
use Rattle.xf_def_xpath.proofs.VisitFacts.{no, self-same}
use Rattle.xf_def_model.specs.Applied.{applied_over}
use Rattle.xf_def_model.specs.Circular.{graph_over}
use Rattle.xf_def_model.specs.Rules.{Scope, scope_of}
use Rattle.xf_law_recalculation.specs.Agree.Hung.{are_hung}
use Rattle.xf_law_recalculation.proofs.AgreeLemmas.HungChanges.{hung_text}
use Rattle.xf_binds.specs.Kept.{Kept}
use Rattle.xf_binds.specs.Table.{kept_at, with_kept}
use Rattle.xf_binds_rebuild.specs.Built.{IsBuilt}
use Rattle.xf_binds_rebuild.specs.Rebuilt.{rebuilt}
use Rattle.xf_binds_rebuild.specs.Web.{asks_of}
use Rattle.xf_binds_rebuild.proofs.Told.{rebuild_tells}
use Rattle.xf_form.specs.declared.loaded.Loaded.{Loaded}
use Rattle.xf_engine_state.specs.declared.flags.Flag.TheVariants.{Rebuild}
use Rattle.xf_engine_state.specs.declared.flags.Flags.{Flags}
use Rattle.xf_engine_state.specs.Around.{given_by}
use Rattle.xf_engine_state.specs.Built.{IsRenewed, IsWhole, is_rebuild_due, scope_at}
use Rattle.xf_engine_state.specs.Calls.{rebuilt_flags}
use Rattle.xf_engine_state.specs.Flags.{none_due, without, without_refresh}
use Rattle.xf_engine_state.specs.Held.{last_place}
use Rattle.xf_engine_state.specs.Settling.{StaysWhole}
use Rattle.xf_engine_state.proofs.Alone.{numbered-alone}
use Rattle.xf_engine_state.proofs.Documents.{documents-same, roots-same}
use Rattle.xf_engine_state.proofs.Written.{IsStill}

-- ---- other data of the same shape

module _ (l : Loaded) (before after : Forest) (b : HasTrees before) (a : HasTrees after) (hung : are_hung before.nodes ≡ true) (s : IsStill (shape_of before.nodes) after.nodes) where
  pub scope-still : (model : ℕ) → scope_at l after model ≡ scope_at l before model
  scope-still model =
      ap (λ ds. scope_of called (given_by l.form.tables.instances l.prefixes l.form.decimals ds) l.form.tables model)
      (documents-same l.form.tables.instances before after b a hung s.hung s.shaped)

  built-still : (model : ℕ) (k : Kept) → IsBuilt (scope_at l before model) before.nodes k → IsBuilt (scope_at l after model) after.nodes k
  built-still model k i =
      let same : shape_of before.nodes ≡ shape_of after.nodes = sym s.shaped in
      subst (λ x. IsBuilt x after.nodes k) (sym (scope-still model)) (record {
        applies = ap (applied_over (scope_at l before model)) s.shaped ∙ i.applies;
        asks = i.asks ∙ ap (λ all. map (asks_of (scope_at l before model) all) k.entries) same;
        acyclic = subst (λ all. IsAcyclic (graph_over (scope_at l before model) all k.entries)) same i.acyclic;
      })

  pub whole-still : (table : List Kept) (flags : List Flags) (built : ℕ) → IsWhole l before table flags built → IsWhole l after table flags built
  whole-still table flags built w = record {
    hung = s.hung;
    few = roots-same last_place before.nodes after.nodes s.shaped ∙ w.few;
    models = λ model less settled. built-still model (kept_at table model) (w.models model less settled);
  }

-- a text that is set
pub text-stays : (l : Loaded) (forest : Forest) (n : ℕ) (text : List ℕ) → HasTrees forest → HasTrees (with_text n text forest) → IsSettable n forest → StaysWhole l forest (with_text n text forest)
text-stays l forest n text b a able =
    let is = numbered-is forest.next n text forest.nodes in
    let shaped = setting-keeps_shape n text forest b able in
    record {
      whole = λ table flags built w. whole-still l forest (with_text n text forest) b a w.hung (record { shaped = shaped; hung = ap are_hung is ∙ hung_text forest forest.next n text b able w.hung }) table flags built w;
      shape = shaped;
      alone = λ none. ap in_detached is ∙ numbered-alone forest.next n text forest.nodes none;
    }

-- ---- other things are due

-- each rebuild that is due stays due
abbrev pub KeepsDue : List Flags → List Flags → Type 0
KeepsDue flags others = (model : ℕ) → is_rebuild_due others model ≡ false → is_rebuild_due flags model ≡ false

pub whole-flags : (l : Loaded) (forest : Forest) (table : List Kept) (flags others : List Flags) (built : ℕ) → KeepsDue flags others → IsWhole l forest table flags built → IsWhole l forest table others built
whole-flags l forest table flags others built keeps w = record {
  hung = w.hung;
  few = w.few;
  models = λ model less settled. w.models model less (keeps model settled);
}

-- other flags of one model
due-set : (flags : List Flags) (model : ℕ) (f : Flags) → f.rebuild ≡ is_rebuild_due flags model → (n : ℕ) → is_rebuild_due (slice_set flags model f) n ≡ is_rebuild_due flags n
due-set [] model f e n = refl
due-set (g ∷ gs) zero f e zero = e
due-set (g ∷ gs) zero f e (suc n) = refl
due-set (g ∷ gs) (suc model) f e zero = refl
due-set (g ∷ gs) (suc model) f e (suc n) = due-set gs model f e n

pub set-keeps : (flags : List Flags) (model : ℕ) (f : Flags) → f.rebuild ≡ is_rebuild_due flags model → KeepsDue flags (slice_set flags model f)
set-keeps flags model f e n h = sym (due-set flags model f e n) ∙ h

due-map : (flags : List Flags) (n : ℕ) → is_rebuild_due (map without_refresh flags) n ≡ is_rebuild_due flags n
due-map [] n = refl
due-map (f ∷ fs) zero = refl
due-map (f ∷ fs) (suc n) = due-map fs n

pub map-keeps : (flags : List Flags) → KeepsDue flags (map without_refresh flags)
map-keeps flags n h = sym (due-map flags n) ∙ h

-- of the others the same is due
due-other : (flags : List Flags) (model other : ℕ) (f : Flags) → (other ≡ model → ⊥) → is_rebuild_due (slice_set flags model f) other ≡ is_rebuild_due flags other
due-other [] model other f h = refl
due-other (g ∷ gs) zero zero f h = absurd (h refl)
due-other (g ∷ gs) zero (suc other) f h = refl
due-other (g ∷ gs) (suc model) zero f h = refl
due-other (g ∷ gs) (suc model) (suc other) f h = due-other gs model other f (λ e. h (ap suc e))

-- ---- another table

pub kept-set : (ks : List Kept) (model : ℕ) (k : Kept) → model < length ks → kept_at (slice_set ks model k) model ≡ k
kept-set [] model k h = absurd (omega (arith, h))
kept-set (y ∷ ys) zero k h = refl
kept-set (y ∷ ys) (suc model) k h = kept-set ys model k (omega (arith, h))

pub kept-other : (ks : List Kept) (model other : ℕ) (k : Kept) → (other ≡ model → ⊥) → kept_at (slice_set ks model k) other ≡ kept_at ks other
kept-other [] model other k h = refl
kept-other (y ∷ ys) zero zero k h = absurd (h refl)
kept-other (y ∷ ys) zero (suc other) k h = refl
kept-other (y ∷ ys) (suc model) zero k h = refl
kept-other (y ∷ ys) (suc model) (suc other) k h = kept-other ys model other k (λ e. h (ap suc e))

-- the same entries, with what they ask
pub record IsSame (j k : Kept) : Type 0 where
  pub entries : k.entries ≡ j.entries
  pub asks : k.asks ≡ j.asks

pub built-same : (scope : Scope) (nodes : List Node) (j k : Kept) → IsSame j k → IsBuilt scope nodes j → IsBuilt scope nodes k
built-same scope nodes j k s i = record {
  applies = i.applies ∙ ap Ok (sym s.entries);
  asks = s.asks ∙ i.asks ∙ ap (map (asks_of scope (shape_of nodes))) (sym s.entries);
  acyclic = subst (λ es. IsAcyclic (graph_over scope (shape_of nodes) es)) (sym s.entries) i.acyclic;
}

pub whole-kept : (l : Loaded) (forest : Forest) (table : List Kept) (flags : List Flags) (built model : ℕ) (k : Kept) → model < length table → IsSame (kept_at table model) k → IsWhole l forest table flags built
    → IsWhole l forest (with_kept table model k) flags built
whole-kept l forest table flags built model k within same w = record {
  hung = w.hung;
  few = w.few;
  models = λ other less settled. by other (other == model) refl (w.models other less settled);
}
  where
    by : (other : ℕ) (b : Bool) → (other == model) ≡ b → IsBuilt (scope_at l forest other) forest.nodes (kept_at table other) → IsBuilt (scope_at l forest other) forest.nodes (kept_at (with_kept table model k) other)
    by other true e i =
        let is : other ≡ model = eqb-true other model e in
        subst (λ m. IsBuilt (scope_at l forest m) forest.nodes (kept_at (with_kept table model k) m)) (sym is)
        (subst (IsBuilt (scope_at l forest model) forest.nodes) (sym (kept-set table model k within))
        (built-same (scope_at l forest model) forest.nodes (kept_at table model) k same (subst (λ m. IsBuilt (scope_at l forest m) forest.nodes (kept_at table m)) is i)))
    by other false e i = subst (IsBuilt (scope_at l forest other) forest.nodes) (sym (kept-other table model other k (λ is. different is))) i
      where
        different : other ≡ model → ⊥
        different is = no (sym e ∙ ap (λ m. m == model) is ∙ self-same model)

-- ---- a rebuild

pub renewed : (scope : Scope) (nodes : List Node) (table after : List Kept) → scope.model < length table → rebuilt scope nodes table ≡ Ok after → IsRenewed scope nodes table after
renewed scope nodes table after within e =
    let i = rebuild_tells scope nodes table after e in
    let k : Kept = record (kept_at table scope.model) { entries = i.entries; asks = map (asks_of scope (shape_of nodes)) i.entries } in
    record {
      built = subst (λ t. IsBuilt scope nodes (kept_at t scope.model)) (sym i.kept)
          (subst (IsBuilt scope nodes) (sym (kept-set table scope.model k within)) (record { applies = i.applies; asks = refl; acyclic = i.acyclic }));
      others = λ other h. ap (λ t. kept_at t other) i.kept ∙ kept-other table scope.model other k h;
    }

pub whole-renewed : (l : Loaded) (forest : Forest) (before after : List Kept) (flags : List Flags) (built model : ℕ) → model ≤ built → IsRenewed (scope_at l forest model) forest.nodes before after
    → IsWhole l forest before flags built → IsWhole l forest after (rebuilt_flags flags model) (max built (suc model))
whole-renewed l forest before after flags built model within r w = record {
  hung = w.hung;
  few = w.few;
  models = λ other less settled. by other less settled (other == model) refl;
}
  where
    different : (other : ℕ) → (other == model) ≡ false → other ≡ model → ⊥
    different other e is = no (sym e ∙ ap (λ m. m == model) is ∙ self-same model)

    earlier : (other : ℕ) → other < max built (suc model) → (other ≡ model → ⊥) → other < built
    earlier other less h = omega (arith, less, within, h)

    by : (other : ℕ) → other < max built (suc model) → is_rebuild_due (rebuilt_flags flags model) other ≡ false → (b : Bool) → (other == model) ≡ b → IsBuilt (scope_at l forest other) forest.nodes (kept_at after other)
    by other less settled true e = subst (λ m. IsBuilt (scope_at l forest m) forest.nodes (kept_at after m)) (sym (eqb-true other model e)) r.built
    by other less settled false e =
        let apart = different other e in
        subst (IsBuilt (scope_at l forest other) forest.nodes) (sym (r.others other apart))
        (w.models other (earlier other less apart) (sym (due-other flags model other (without Rebuild (get_or flags model none_due)) apart) ∙ settled))

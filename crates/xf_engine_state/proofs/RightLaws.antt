-- What is told of data, of a table and of controls stays right: while texts change, at the end of an event, and after a roll-back.
use Rattle.std.proofs.Common.{◌≡◌, ℕ, Bool, true, List, [], Option, sym, ap, ◌∙◌, subst}
use Rattle.std.specs.Bool.{OnTrue}
use Rattle.std.proofs.lemmas.Bool.{OnTrue_at, OnTrue_from}
use Rattle.xf_def_forest.specs.Changes.{in_detached}
use Rattle.xf_def_forest.specs.Forest.{Forest}
use Rattle.xf_binds.specs.Kept.{Kept}
use Rattle.xf_binds.specs.Table.{all_committed, all_rolled_back}
use Rattle.xf_controls.specs.declared.copy.ControlCopy.{ControlCopy}
use Rattle.xf_controls.specs.Former.{Standing}
use Rattle.xf_form.specs.declared.loaded.Loaded.{Loaded}
use Rattle.xf_undo.specs.Draft.{Draft, kept_as}
use Rattle.xf_engine_state.specs.declared.knowing.Knowledge.{Knowledge}
use Rattle.xf_engine_state.specs.Fit.{AreAsPlanted, IsRight}
use Rattle.xf_engine_state.specs.Known.{Knows}
use Rattle.xf_engine_state.specs.Settling.{StaysWhole}
use Rattle.xf_engine_state.proofs.DroppedLaws.{dropped, dropped-alone, dropped-same}
use Rattle.xf_engine_state.proofs.KnownEnds.{committed-known}
use Rattle.xf_engine_state.proofs.Models.{back-again}
use Rattle.xf_engine_state.proofs.SteadyLaws.{committed-steady}

on-weaker : {P Q : Type 0} (b : Bool) → (P → Q) → OnTrue b P → OnTrue b Q
on-weaker {P} {Q} b f h = OnTrue_from b Q (λ e. f (OnTrue_at e h))

-- ---- texts alone have changed

module _ (l : Loaded) (before after : Forest) (stays : StaysWhole l before after) where
  pub planted-still : (b : Bool) → OnTrue b (AreAsPlanted l before) → OnTrue b (AreAsPlanted l after)
  planted-still b = on-weaker b (λ (p : AreAsPlanted l before). record { shape = stays.shape ∙ p.shape; alone = stays.alone p.alone })

  pub alone-still : (b : Bool) → OnTrue b (in_detached before.nodes ≡ []) → OnTrue b (in_detached after.nodes ≡ [])
  alone-still b = on-weaker b stays.alone

  -- of a last recalculation this is known then
  pub right-still : (table : List Kept) (controls : List ControlCopy) (k : Knowledge) (known : Option ℕ) → Knows l after table known → IsRight l before table controls k → IsRight l after table controls (record k { known = known })
  right-still table controls k known knows r = record {
    known = knows;
    steady = r.steady;
    planted = planted-still k.is_planted r.planted;
    alone = alone-still k.is_alone r.alone;
  }

-- ---- the end of an event

module _ (l : Loaded) (forest : Forest) (table : List Kept) (list : List ControlCopy) (k : Knowledge) (r : IsRight l forest table list k) where
  abbrev told : Knowledge
  told = record k { is_alone = true }

  planted-dropped : OnTrue k.is_planted (AreAsPlanted l (dropped forest))
  planted-dropped = on-weaker k.is_planted (λ (p : AreAsPlanted l forest). subst (AreAsPlanted l) (sym (dropped-same forest p.alone)) p) r.planted

  committed-core : IsRight l (dropped forest) (all_committed table) list told
  committed-core = record {
    known = (committed-known l forest table k.known r.known).0;
    steady = (committed-steady l table list k.is_steady r.steady).0;
    planted = planted-dropped;
    alone = dropped-alone forest;
  }

  back-core : IsRight l (dropped forest) (all_rolled_back (all_committed table)) list told
  back-core = record {
    known = (committed-known l forest table k.known r.known).1;
    steady = (committed-steady l table list k.is_steady r.steady).1;
    planted = planted-dropped;
    alone = dropped-alone forest;
  }

  module _ (d : Draft) (t : List Kept) (shown : Standing) (drafted : d ≡ kept_as (dropped forest)) (tabled : t ≡ all_committed table) (listed : shown ≡ record { now = list; kept = list }) where
    pub committed-now : IsRight l d.now t shown.now told
    committed-now =
        subst (λ (x : Draft). IsRight l x.now t shown.now told) (sym drafted)
        (subst (λ ks. IsRight l (dropped forest) ks shown.now told) (sym tabled)
        (subst (λ (x : Standing). IsRight l (dropped forest) (all_committed table) x.now told) (sym listed) committed-core))

    pub committed-before : IsRight l d.kept (all_rolled_back t) shown.kept told
    committed-before =
        subst (λ (x : Draft). IsRight l x.kept (all_rolled_back t) shown.kept told) (sym drafted)
        (subst (λ ks. IsRight l (dropped forest) (all_rolled_back ks) shown.kept told) (sym tabled)
        (subst (λ (x : Standing). IsRight l (dropped forest) (all_rolled_back (all_committed table)) x.kept told) (sym listed) back-core))

-- ---- what was kept stands

module _ (l : Loaded) (draft : Draft) (table : List Kept) (before : Standing) (k : Knowledge) (r : IsRight l draft.kept (all_rolled_back table) before.kept k)
    (d : Draft) (t : List Kept) (shown : Standing) (drafted : d ≡ kept_as draft.kept) (tabled : t ≡ all_rolled_back table) (listed : shown ≡ record { now = before.kept; kept = before.kept }) where
  pub back-now : IsRight l d.now t shown.now k
  back-now =
      subst (λ (x : Draft). IsRight l x.now t shown.now k) (sym drafted)
      (subst (λ ks. IsRight l draft.kept ks shown.now k) (sym tabled)
      (subst (λ (x : Standing). IsRight l draft.kept (all_rolled_back table) x.now k) (sym listed) r))

  pub back-before : IsRight l d.kept (all_rolled_back t) shown.kept k
  back-before =
      subst (λ (x : Draft). IsRight l x.kept (all_rolled_back t) shown.kept k) (sym drafted)
      (subst (λ ks. IsRight l draft.kept ks shown.kept k) (sym (ap all_rolled_back tabled ∙ back-again table))
      (subst (λ (x : Standing). IsRight l draft.kept (all_rolled_back table) x.kept k) (sym listed) r))

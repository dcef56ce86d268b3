-- Controls that are made afresh, or of which the values of their nodes alone are looked at.
use Rattle.std.proofs.Common.{◌≡◌, ℕ, Bool, true, false, ◌&&◌, List, [], map, length, nat_lt, Option, Some, None, Result, Ok, Err, refl, sym, ap, ◌∙◌, subst, ◌⊎◌, inl, inr}
use Rattle.std.specs.Bool.{OnTrue}
use Rattle.std.specs.Prelude.{option_map}
use Rattle.std.proofs.lemmas.Bool.{OnTrue_at}
use Rattle.xf_def_forest.specs.declared.node.NodeId.{NodeId}
use Rattle.xf_def_forest.specs.Forest.{Forest}
use Rattle.xf_def_forest.specs.WellFormed.{HasTrees}
use Rattle.xf_def_forest.proofs.BackLaws.{and-true}
use Rattle.xf_law_recalculation.specs.Agree.Hung.{are_hung}
use Rattle.xf_def_xpath.specs.declared.fault.EvalFault.{EvalFault}
use Rattle.xf_def_xpath.specs.declared.fault.EvalFault.TheVariants as eval
use Rattle.xf_def_ui.specs.Copies as copies
use Rattle.xf_def_ui.specs.Interface.{interface_of}
use Rattle.xf_def_ui.specs.Notifications.{notifications}
use Rattle.xf_def_machine.specs.declared.limit.LimitWord.TheVariants.{Long}
use Rattle.xf_def_machine.specs.Construct.{first_shown}
use Rattle.xf_def_machine.specs.Flow.{◌>>=◌}
use Rattle.xf_def_machine.specs.Refusal.{Refused}
use Rattle.xf_def_machine.specs.State.{State}
use Rattle.xf_def_machine.specs.Update as update
use Rattle.xf_binds.specs.Kept.{Kept}
use Rattle.xf_controls.specs.declared.copy.ControlCopy.{ControlCopy}
use Rattle.xf_controls.specs.declared.known.Known.{Known}
use Rattle.xf_controls.specs.Bound.{AllBound}
use Rattle.xf_controls.specs.Known.{known_at}
use Rattle.xf_controls.specs.Plain.{is_plain}
use Rattle.xf_controls.specs.Renewed.{renewed}
use Rattle.xf_controls.specs.Rising.{is_rising}
use Rattle.xf_controls.specs.declared.refresh.Notification.{Notification}
use Rattle.xf_controls.specs.Seen.{seen_copy, seen_notification}
use Rattle.xf_controls.proofs.RenewedLaws.{copies-renewed, copies-there, renewed-again, renewed-count, renewed-rising, renewed-there}
use Rattle.xf_valid.specs.Nodes.{marks_in}
use Rattle.xf_valid.proofs.ShapeLaws.{marks-shaped}
use Rattle.xf_def_machine.specs.declared.refusal.Refusal.{Refusal}
use Rattle.xf_def_machine.specs.declared.refusal.Refusal.TheVariants.{Limit}
use Rattle.xf_form.specs.declared.loaded.Loaded.{Loaded}
use Rattle.xf_engine_state.specs.declared.fault.WorkFault.{WorkFault}
use Rattle.xf_engine_state.specs.declared.fault.WorkFault.TheVariants as fault
use Rattle.xf_engine_state.specs.declared.flags.Flags.{Flags}
use Rattle.xf_engine_state.specs.declared.tally.Tally.{Tally}
use Rattle.xf_engine_state.specs.Around.{given_in}
use Rattle.xf_engine_state.specs.Calls.{AreRefreshed, AreShown, Refreshes, Renews, ShowsOthers, long_or_memory}
use Rattle.xf_def_form.specs.Formed.{profile}
use Rattle.xf_engine_state.specs.Does.{Does, Finds, IsRefused}
use Rattle.xf_engine_state.specs.Fit.{AreAsPlanted}
use Rattle.xf_engine_state.specs.Held.{IsHeld, around_over}
use Rattle.xf_engine_state.specs.Parts.{Chosen, IsLoaded, standing_of}
use Rattle.xf_engine_state.specs.Standing.{Standing, state_of}
use Rattle.xf_engine_state.specs.Steady.{AreSteady, IsShaped}
use Rattle.xf_engine_state.proofs.ShownLaws.{long-found, shown-given, shown-listed}

pub planted-shaped : (l : Loaded) (forest : Forest) → are_hung forest.nodes ≡ true → AreAsPlanted l forest → HasTrees forest → IsShaped l forest
planted-shaped l forest hung p trees = record { trees = trees; hung = hung; shape = p.shape }

-- ---- copies that got the values of their nodes

pub again-steady : (l : Loaded) (table : List Kept) (forest : Forest) (list after : List ControlCopy) → renewed forest.nodes list ≡ Some after → AreSteady l table list → AreSteady l table after
again-steady l table forest list after e s = record {
  over = λ other shaped marks is cases indexes. s.over other shaped marks is cases indexes ∙ ap (option_map (map seen_copy)) (sym (renewed-again forest.nodes other.nodes list after e));
  there = λ other shaped. renewed-there forest.nodes other.nodes list after e (s.there other shaped);
  rising = renewed-rising forest.nodes list after e ∙ s.rising;
  few = ap (nat_lt 65536) (renewed-count forest.nodes list after e) ∙ s.few;
}

module _ (chosen : Chosen) (l : Loaded) (is : IsLoaded l) (forest : Forest) (table : List Kept) (flags : List Flags) (controls : List ControlCopy) (tally : Tally) (many : length table ≡ length flags)
    (shaped : IsShaped l forest) where
  abbrev here : State
  here = state_of (standing_of chosen l forest table flags controls tally)

  -- ---- made afresh

  made-steady : is_plain (interface_of l.form) ≡ true → (known : List Known) (list : List ControlCopy) → IsHeld l known → AllBound (interface_of l.form) known → is_rising list ≡ true → update.shown profile here ≡ Ok (map seen_copy list) → AreSteady l table list
  made-steady plain known list held bound rising e = record {
    over = λ other s marks same cases indexes.
        copies-renewed l.form (given_in l.form.tables.instances l.prefixes l.form.decimals forest) (given_in l.form.tables.instances l.prefixes l.form.decimals other) forest.nodes other.nodes (marks_in table forest.nodes) marks known list chosen.cases cases chosen.indexes indexes
        plain (record { indexes = refl; event = refl }) (record { indexes = refl; event = refl }) bound
        (held.over forest shaped.trees shaped.hung shaped.shape) (held.over other s.trees s.hung s.shape) (λ n k at. same k.number ∙ alike other s n k at) given.0;
    there = λ other s.
        copies-there l.form (given_in l.form.tables.instances l.prefixes l.form.decimals forest) (given_in l.form.tables.instances l.prefixes l.form.decimals other) forest.nodes other.nodes (marks_in table forest.nodes) (marks_in table other.nodes) known list chosen.cases [] chosen.indexes []
        plain (record { indexes = refl; event = refl }) (record { indexes = refl; event = refl }) bound
        (held.over forest shaped.trees shaped.hung shaped.shape) (held.over other s.trees s.hung s.shape) (alike other s) given.0;
    rising = rising;
    few = given.1;
  }
    where
      given : (copies.copies (interface_of l.form) (around_over l forest) (marks_in table forest.nodes) chosen.cases chosen.indexes ≡ Some (map seen_copy list)) × (nat_lt 65536 (copies.copy_count (map seen_copy list)) ≡ false)
      given = shown-given chosen l is forest table flags controls tally many (map seen_copy list) e

      alike : (other : Forest) → IsShaped l other → (n : ℕ) (k : NodeId) → known_at known n ≡ Some (Some k) → marks_in table other.nodes k.number ≡ marks_in table forest.nodes k.number
      alike other s n k at = marks-shaped table forest other k.number shaped.trees s.trees (s.shape ∙ sym shaped.shape) (held.solid forest shaped.trees shaped.hung shaped.shape n k at)

  pub taken-steady : is_plain (interface_of l.form) ≡ true → (known : List Known) (list : List ControlCopy) (rising : Bool) → IsHeld l known → AllBound (interface_of l.form) known → rising ≡ is_rising list → update.shown profile here ≡ Ok (map seen_copy list)
      → OnTrue rising (AreSteady l table list)
  taken-steady plain known list false held bound h e = tt
  taken-steady plain known list true held bound h e = made-steady plain known list held bound (sym h) e

  -- ---- by the values of nodes

  module _ (list : List ControlCopy) (s : AreSteady l table list) where
    given-now : copies.copies (interface_of l.form) (around_over l forest) (marks_in table forest.nodes) chosen.cases chosen.indexes ≡ option_map (map seen_copy) (renewed forest.nodes list)
    given-now = s.over forest shaped (marks_in table forest.nodes) (λ n. refl) chosen.cases chosen.indexes

    pub renewed-shown : (after : List ControlCopy) → renewed forest.nodes list ≡ Some after → update.shown profile here ≡ Ok (map seen_copy after)
    renewed-shown after e =
        shown-listed chosen l is forest table flags controls tally many (map seen_copy after) false (given-now ∙ ap (option_map (map seen_copy)) e) (ap (nat_lt 65536) (renewed-count forest.nodes list after e) ∙ s.few)

    pub renewed-long : renewed forest.nodes list ≡ None → IsRefused (Limit Long) (update.shown profile here)
    renewed-long e = long-found chosen l is forest table flags controls tally many (given-now ∙ ap (option_map (map seen_copy)) e)

  -- those that stand get the values of their nodes
  module _ (steady : AreSteady l table controls) where
    pub renewed-done : (after : List ControlCopy) (answer : List Notification) → renewed forest.nodes controls ≡ Some after → map seen_notification answer ≡ notifications (map seen_copy controls) (map seen_copy after)
        → AreShown answer (standing_of chosen l forest table flags controls tally) (standing_of chosen l forest table flags after tally)
    renewed-done after answer e told = record {
      list = map seen_copy after;
      shown = renewed-shown controls steady after e;
      told = told;
      now = refl;
    }

    pub renewed-fails : (e : WorkFault) (list : List ControlCopy) (after : Standing) → Renews {X = List Notification} (Err e) (renewed forest.nodes controls) list → ShowsOthers (Err e) (standing_of chosen l forest table flags controls tally) after
    renewed-fails (fault.Refused refusal) list after h = subst (λ r. IsRefused r (update.shown profile here)) (sym h.0) (renewed-long controls steady h.1)
    renewed-fails fault.Memory list after h = tt

-- controls that are taken: those over data of the shape that was planted are steady, where all that is shown is bound
pub steady-taken : (chosen : Chosen) (l : Loaded) (is : IsLoaded l) (forest : Forest) (table : List Kept) (flags : List Flags) (controls : List ControlCopy) (tally : Tally) (many : length table ≡ length flags)
    → are_hung forest.nodes ≡ true → HasTrees forest → (known : List Known) (list : List ControlCopy) (planted plain bound rising : Bool) → IsHeld l known → OnTrue planted (AreAsPlanted l forest)
    → OnTrue plain (is_plain (interface_of l.form) ≡ true) → OnTrue bound (AllBound (interface_of l.form) known) → (planted && (plain && bound)) ≡ true → rising ≡ is_rising list
    → update.shown profile (state_of (standing_of chosen l forest table flags controls tally)) ≡ Ok (map seen_copy list) → OnTrue rising (AreSteady l table list)
steady-taken chosen l is forest table flags controls tally many hung trees known list planted plain bound rising held p r b both h e =
    let parts = and-true planted (plain && bound) both in
    let more = and-true plain bound parts.1 in
    taken-steady chosen l is forest table flags controls tally many (planted-shaped l forest hung (OnTrue_at parts.0 p) trees) (OnTrue_at more.0 r) known list rising held (OnTrue_at more.1 b) h e

-- ---- what is refused

refused-then : {A B : Type 0} (refusal : Refusal) (g : Result A Refused) (next : A → Result B Refused) → IsRefused refusal g → IsRefused refusal (g >>= next)
refused-then refusal (Err r) next h = h
refused-then refusal (Ok x) next h = absurd h

-- ---- the indexes are brought up to date before

pub brought-shown : (answer : List Notification) (before mid after : Standing) → update.reindex profile [] (state_of before) ≡ Ok (state_of mid) → AreShown answer mid after → AreRefreshed (λ s. s) answer before after
brought-shown answer before mid after e h = record {
  t = state_of mid;
  list = h.list;
  brought = e;
  shown = h.shown;
  told = h.told;
  now = ap state_of h.now;
}

pub brought-fails : (e : WorkFault) (before mid after : Standing) → update.reindex profile [] (state_of before) ≡ Ok (state_of mid) → ShowsOthers (Err e) mid after → Refreshes (λ s. s) (Err e) before after
brought-fails (fault.Refused refusal) before mid after e h = subst (λ given. IsRefused refusal (given >>= update.shown profile)) (sym e) h
brought-fails fault.Memory before mid after e h = tt

pub brought-shows : (result : Result (List Notification) WorkFault) (before mid after : Standing) → update.reindex profile [] (state_of before) ≡ Ok (state_of mid) → ShowsOthers result mid after → Refreshes (λ s. s) result before after
brought-shows (Ok answer) before mid after e h = brought-shown answer before mid after e h
brought-shows (Err told) before mid after e h = brought-fails told before mid after e h

pub reindex-fails : (e : WorkFault) (before mid after : Standing) → Does {X = Unit {0}} (Err e) mid (update.reindex profile [] (state_of before)) → Refreshes (λ s. s) (Err e) before after
reindex-fails (fault.Refused refusal) before mid after h = refused-then refusal (update.reindex profile [] (state_of before)) (update.shown profile) h
reindex-fails fault.Memory before mid after h = tt

-- the flags of a refresh are cleared besides
pub cleared-done : (cleared : State → State) (answer : List Notification) (before mid after : Standing) → AreRefreshed (λ s. s) answer before mid → state_of after ≡ cleared (state_of mid)
    → AreRefreshed cleared answer before after
cleared-done cleared answer before mid after h e = record {
  t = h.t;
  list = h.list;
  brought = h.brought;
  shown = h.shown;
  told = h.told;
  now = e ∙ ap cleared h.now;
}

pub others-fail : (cleared : State → State) (e : WorkFault) (before mid after : Standing) → Refreshes (λ s. s) (Err e) before mid → Refreshes cleared (Err e) before after
others-fail cleared (fault.Refused refusal) before mid after h = h
others-fail cleared fault.Memory before mid after h = tt

-- ---- the first time

pub show-stops : (e : WorkFault) (s after : Standing) → Finds {X = List ControlCopy} (map seen_copy) (Err e) (update.shown profile (state_of s)) → Does {X = Unit {0}} (Err e) after (first_shown profile (state_of s))
show-stops (fault.Refused refusal) s after h = refused-then refusal (update.shown profile (state_of s)) (λ list. Ok (record (state_of s) { controls = list })) h
show-stops fault.Memory s after h = tt

pub shows : (s after : Standing) (list : List copies.Copy) → update.shown profile (state_of s) ≡ Ok list → after ≡ record s { controls = list } → first_shown profile (state_of s) ≡ Ok (state_of after)
shows s after list e h = ap (λ r. r >>= λ cs. Ok (record (state_of s) { controls = cs })) e ∙ ap (λ (x : Standing). Ok (state_of x)) (sym h)

pub told-renews : (e : EvalFault) (given : Option (List ControlCopy)) (list : List ControlCopy) → (e ≡ eval.Memory) ⊎ ((e ≡ eval.Long) × (given ≡ None)) → Renews {X = List Notification} (Err (long_or_memory e)) given list
told-renews eval.Long given list (inl h) = cc h
told-renews eval.Long given list (inr h) = (refl, h.1)
told-renews eval.Memory given list h = tt

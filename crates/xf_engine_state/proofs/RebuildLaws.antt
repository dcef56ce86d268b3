-- The rebuild of a table is that of the state.
use Rattle.std.proofs.Common.{◌≡◌, ℕ, zero, suc, ◌<◌, Bool, true, false, List, [], ◌∷◌, map, length, get_or, Option, Some, None, Result, Ok, Err, refl, sym, ap, ◌∙◌, subst, arith}
use Rattle.std.specs.Prelude.{slice_set}
use Rattle.xf_def_forest.specs.declared.content.Node.{Node}
use Rattle.xf_def_forest.specs.Forest.{Forest}
use Rattle.xf_def_forest.specs.Visit.{Visit}
use Rattle.xf_def_forest.specs.Shape.{shape_of}
use Rattle.xf_funcs.specs.Called.{called}
use Rattle.xf_def_model.specs.Rules.{Scope, scope_of}
use Rattle.xf_def_model.specs.Applied.{Entry, Exception, twice, on_parent, applied}
use Rattle.xf_def_model.specs.Circular.{Reader, calculated, dependents}
use Rattle.xf_def_machine.specs.Cycles.{reported_cycle}
use Rattle.xf_def_machine.specs.Surround.{bind_scope}
use Rattle.xf_def_machine.specs.Primitives.{in_model}
use Rattle.xf_def_machine.specs.Behave as machine
use Rattle.xf_def_machine.specs.Behave.{rebuilt_with}
use Rattle.xf_binds.specs.declared.web.Asks.{Asks}
use Rattle.xf_binds.specs.Kept.{Kept, no_kept}
use Rattle.xf_binds.specs.Table.{all_rolled_back, kept_at}
use Rattle.xf_binds.specs.Asked.{asked_of}
use Rattle.xf_controls.specs.declared.copy.ControlCopy.{ControlCopy}
use Rattle.xf_form.specs.declared.loaded.Loaded.{Loaded}
use Rattle.xf_binds_rebuild.specs.Web.{asks_of, is_over}
use Rattle.xf_binds_rebuild.specs.Rebuilt.{IsStopped, Stop, exception, edges, circular, table_with, unless_cycle, unless_over, by_applied, rebuilt}
use Rattle.xf_binds_rebuild.specs.declared.fault.RebuildFault.{RebuildFault}
use Rattle.xf_binds_rebuild.specs.declared.fault.RebuildFault.TheVariants as stopped
use Rattle.xf_binds_rebuild.specs.Machine.{refusal_of, taken_over, told}
use Rattle.xf_binds_rebuild.proofs.MachineLaw.{rebuilds_alike}
use Rattle.xf_engine_state.specs.declared.flags.Flags.{Flags}
use Rattle.xf_engine_state.specs.declared.tally.Tally.{Tally}
use Rattle.xf_engine_state.specs.declared.fault.WorkFault.{WorkFault}
use Rattle.xf_engine_state.specs.declared.fault.WorkFault.TheVariants as fault
use Rattle.xf_engine_state.specs.Around.{given_in}
use Rattle.xf_engine_state.specs.Calls.{rebuilt_flags}
use Rattle.xf_def_form.specs.Formed.{profile}
use Rattle.xf_engine_state.specs.Does.{Does, IsRefused}
use Rattle.xf_engine_state.specs.Parts.{Chosen, IsLoaded, standing_of}
use Rattle.xf_engine_state.specs.Standing.{Standing, state_of}
use Rattle.xf_engine_state.specs.Told.{IsSaid, IsTold}
use Rattle.xf_engine_state.proofs.AroundLaws.{scope-same}
use Rattle.xf_engine_state.proofs.Models.{asked-same, back-same, model-changed, set-length}

-- ---- what a table is after a rebuild

pub record IsAfter (table : List Kept) (model : ℕ) (after : List Kept) : Type 0 where
  pub entries : List Entry
  pub asks : List Asks
  pub is : after ≡ table_with table model entries asks

no-stop : {P : Type 0} {x : Stop} {t : List Kept} → ◌≡◌ {A = Result (List Kept) Stop} (Err x) (Ok t) → P
no-stop e = cc e

same-table : (a b : List Kept) → ◌≡◌ {A = Result (List Kept) Stop} (Ok a) (Ok b) → a ≡ b
same-table a b e = cc e

by-cycle : (table : List Kept) (model : ℕ) (entries : List Entry) (asks : List Asks) (readers : List Reader) (o : Option (List ℕ)) (after : List Kept)
    → unless_cycle readers o (table_with table model entries asks) ≡ Ok after → IsAfter table model after
by-cycle table model entries asks readers None after e = record { entries = entries; asks = asks; is = sym (same-table (table_with table model entries asks) after e) }
by-cycle table model entries asks readers (Some places) after e = no-stop e

by-over : (table : List Kept) (model : ℕ) (entries : List Entry) (asks : List Asks) (readers : List Reader) (o : Option (List ℕ)) (b : Bool) (after : List Kept)
    → unless_over b (unless_cycle readers o (table_with table model entries asks)) ≡ Ok after → IsAfter table model after
by-over table model entries asks readers o true after e = no-stop e
by-over table model entries asks readers o false after e = by-cycle table model entries asks readers o after e

by-entries : (scope : Scope) (all : List Visit) (table : List Kept) (given : Result (List Entry) Exception) (after : List Kept)
    → by_applied scope all table given ≡ Ok after → IsAfter table scope.model after
by-entries scope all table (Err x) after e = no-stop e
by-entries scope all table (Ok entries) after e =
    by-over table scope.model entries (map (asks_of scope all) entries) (calculated scope all entries) (reported_cycle (dependents all (calculated scope all entries)))
    (is_over (table_with table scope.model entries (map (asks_of scope all) entries))) after e

pub after-rebuild : (scope : Scope) (nodes : List Node) (table after : List Kept) → rebuilt scope nodes table ≡ Ok after → IsAfter table scope.model after
after-rebuild scope nodes table after e = by-entries scope (shape_of nodes) table (applied scope nodes) after e

-- how many there are stays, and what was kept of each at the end of the last event
pub after-many : (table : List Kept) (model : ℕ) (after : List Kept) → IsAfter table model after → length after ≡ length table
after-many table model after i = ap length i.is ∙ set-length table model (record (kept_at table model) { entries = i.entries; asks = i.asks })

pub after-kept : (table : List Kept) (model : ℕ) (after : List Kept) → model < length table → IsAfter table model after → all_rolled_back after ≡ all_rolled_back table
after-kept table model after within i = ap all_rolled_back i.is ∙ back-same table model (record (kept_at table model) { entries = i.entries; asks = i.asks }) within refl

-- ---- over a state

kept-set : (ks : List Kept) (model : ℕ) (k : Kept) → model < length ks → get_or (slice_set ks model k) model no_kept ≡ k
kept-set [] model k h = absurd (omega (arith, h))
kept-set (y ∷ ys) zero k h = refl
kept-set (y ∷ ys) (suc model) k h = kept-set ys model k (omega (arith, h))

module _ (chosen : Chosen) (loaded : Loaded) (is : IsLoaded loaded) (forest : Forest) (model : ℕ) (table : List Kept) (flags : List Flags) (controls : List ControlCopy) (tally : Tally)
    (many : length table ≡ length flags) (within : model < length table) where
  abbrev before : Standing
  before = standing_of chosen loaded forest table flags controls tally

  abbrev surroundings : Scope
  surroundings = scope_of called (given_in loaded.form.tables.instances loaded.prefixes loaded.form.decimals forest) loaded.form.tables model

  here-same : bind_scope profile (state_of before) model ≡ surroundings
  here-same = scope-same chosen loaded forest model table flags controls tally

  pub rebuild-told : machine.rebuild profile model (state_of before) ≡ told model (state_of before) (rebuilt surroundings forest.nodes table)
  rebuild-told =
      rebuilds_alike profile (state_of before) model table refl (asked-same table flags many) within
      ∙ ap (λ x. told model (state_of before) (rebuilt x forest.nodes table)) here-same

  taken : (entries : List Entry) (asks : List Asks) → in_model (rebuilt_with (kept_at (table_with table model entries asks) model).entries (asked_of (kept_at (table_with table model entries asks) model).asks)) model (state_of before)
      ≡ state_of (standing_of chosen loaded forest (table_with table model entries asks) (rebuilt_flags flags model) controls tally)
  taken entries asks =
      ap (λ (k : Kept). in_model (rebuilt_with k.entries (asked_of k.asks)) model (state_of before)) (kept-set table model (record (kept_at table model) { entries = entries; asks = asks }) within)
      ∙ ap (λ ms. record (state_of before) { models = ms })
      (model-changed (rebuilt_with entries (asked_of asks)) table flags model (record (kept_at table model) { entries = entries; asks = asks }) _ many (subst (λ n. model < n) many within) refl)

  pub rebuild-done : (after : List Kept) → rebuilt surroundings forest.nodes table ≡ Ok after
      → machine.rebuild profile model (state_of before) ≡ Ok (state_of (standing_of chosen loaded forest after (rebuilt_flags flags model) controls tally))
  rebuild-done after e =
      let i = after-rebuild surroundings forest.nodes table after e in
      rebuild-told
      ∙ ap (told model (state_of before)) e
      ∙ ap Ok (ap (λ t. taken_over model (state_of before) t) i.is ∙ taken i.entries i.asks ∙ ap (λ t. state_of (standing_of chosen loaded forest t (rebuilt_flags flags model) controls tally)) (sym i.is))

  pub rebuild-stopped : (stop : Stop) → rebuilt surroundings forest.nodes table ≡ Err stop
      → machine.rebuild profile model (state_of before) ≡ Err (record { why = refusal_of (state_of before) stop; calls = [] })
  rebuild-stopped stop e = rebuild-told ∙ ap (told model (state_of before)) e

  -- what is told of a stop is what the machine refuses
  said-does : (after : Standing) (stop : Stop) (tells : WorkFault) → rebuilt surroundings forest.nodes table ≡ Err stop → IsSaid loaded.form.tables.instances forest tells stop
      → Does {X = Unit {0}} (Err tells) after (machine.rebuild profile model (state_of before))
  said-does after stop (fault.Refused refusal) e said =
      subst (λ given. IsRefused refusal given) (sym (rebuild-stopped stop e)) (said (state_of before) (record { tables = refl; nodes = refl }), refl)
  said-does after stop fault.Memory e said = tt

  pub stopped-does : (after : Standing) (why : RebuildFault) (tells : WorkFault) → IsStopped why (rebuilt surroundings forest.nodes table) → IsTold loaded.form.tables.instances forest why tells
      → Does {X = Unit {0}} (Err tells) after (machine.rebuild profile model (state_of before))
  stopped-does after (stopped.Twice node) tells e said = said-does after (exception (twice node.number)) tells e said
  stopped-does after (stopped.OnParent node) tells e said = said-does after (exception (on_parent node.number)) tells e said
  stopped-does after stopped.Edges tells e said = said-does after edges tells e said
  stopped-does after (stopped.Circular nodes) tells e said = said-does after (circular nodes) tells e said
  stopped-does after stopped.Memory tells e said = subst (λ w. Does {X = Unit {0}} (Err w) after (machine.rebuild profile model (state_of before))) (sym said) tt

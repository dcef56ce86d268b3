-- How the state of a form is made of what an engine keeps of it.
use Rattle.std.specs.Prelude.{ℕ, ◌≡◌, ◌<◌, ◌^◌, List, [], ◌∷◌, map, length, Ok}
use Rattle.xf_def_forest.specs.Forest.{Forest}
use Rattle.xf_def_ui.specs.Index as ui
use Rattle.xf_binds.specs.Kept.{Kept}
use Rattle.xf_binds.specs.Asked.{asked_of}
use Rattle.xf_binds.specs.Table.{all_rolled_back}
use Rattle.xf_controls.specs.declared.copy.ControlCopy.{ControlCopy}
use Rattle.xf_controls.specs.Seen.{seen_copy}
use Rattle.xf_eval_context.specs.declared.indexes.Index.{Index}
use Rattle.xf_eval_context.specs.Indexes.{seen_index}
use Rattle.xf_def_machine.specs.State.{Model}
use Rattle.xf_form.specs.declared.loaded.Loaded.{Loaded}
use Rattle.xf_form.specs.Loading.{loaded_in}
use Rattle.xf_engine_state.specs.declared.flags.Flags.{Flags}
use Rattle.xf_engine_state.specs.declared.tally.Tally.{Tally}
use Rattle.xf_undo.specs.Draft.{Draft}
use Rattle.xf_engine_state.specs.Built.{IsWhole}
use Rattle.xf_def_form.specs.Formed.{documents_in}
use Rattle.xf_engine_state.specs.Flags.{flags_of}
use Rattle.xf_engine_state.specs.Standing.{Standing}

-- ---- models: what a table keeps of each, and what is due of it

abbrev pub model_of : Kept → Flags → Model
model_of k f = record {
  entries = k.entries;
  asked = asked_of k.asks;
  stood = k.stood;
  invalid = k.invalid;
  flags = flags_of f;
  texts = k.texts;
  lists = k.lists;
}

abbrev pub models_of : List Kept → List Flags → List Model
models_of [] fs = []
models_of (k ∷ ks) [] = []
models_of (k ∷ ks) (f ∷ fs) = model_of k f ∷ models_of ks fs

-- ---- what is chosen: the indexes of repeats and the cases of switches

pub record Chosen : Type 0 where
  pub indexes : List ui.Index
  pub cases : List ℕ

abbrev pub chosen_of : List Index → List ℕ → Chosen
chosen_of indexes cases = record { indexes = map seen_index indexes; cases = cases }

-- ---- the state, and that at the end of the last event

abbrev pub standing_of : Chosen → Loaded → Forest → List Kept → List Flags → List ControlCopy → Tally → Standing
standing_of chosen loaded forest table flags controls tally = record {
  form = loaded.form;
  prefixes = loaded.prefixes;
  documents = documents_in loaded;
  forest = forest;
  indexes = chosen.indexes;
  cases = chosen.cases;
  models = models_of table flags;
  controls = map seen_copy controls;
  accepted = tally.accepted;
  turns = tally.turns;
  made = tally.made;
  evaluated = tally.evaluated;
}

-- ---- what is known of a form that is loaded and of what is kept of it

-- it was read from some bytes
pub record IsLoaded (l : Loaded) : Type 0 where
  pub bytes : List ℕ
  pub read : loaded_in bytes ≡ Ok l

-- of each model there is one, and what stands and what was kept are whole
pub record IsSound (l : Loaded) (draft : Draft) (table : List Kept) (flags old_flags : List Flags) (built old_built : ℕ) : Type 0 where
  pub loaded : IsLoaded l
  pub many : length table ≡ length flags
  pub kept : length old_flags ≡ length flags
  pub few : length flags < 2 ^ 32
  pub now : IsWhole l draft.now table flags built
  pub before : IsWhole l draft.kept (all_rolled_back table) old_flags old_built

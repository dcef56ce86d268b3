-- One calculate after the other: what is done in a turn, and what each entry is found to be over the data that stand then.
use Rattle.std.specs.Prelude.{ℕ, ◌≡◌, Bool, true, false, List, [], ◌∷◌, ◌++◌, map, length, nat_lt, Option, Some, None, option_map, Result, Ok, Err, slice_get, if◌then◌else◌}
use Rattle.xf_base.specs.Limits.{string_limit}
use Rattle.xf_def_forest.specs.Limits.{limits}
use Rattle.xf_def_forest.specs.declared.content.Node.{Node}
use Rattle.xf_def_forest.specs.Forest.{has_number}
use Rattle.xf_def_forest.specs.Visit.{Visit}
use Rattle.xf_def_forest.specs.Settle.{has_text}
use Rattle.xf_def_values.specs.Bounded.{◌>>=◌}
use Rattle.xf_def_xpath.specs.Conversions.{truth_of}
use Rattle.xf_def_model.specs.Rules.{Scope}
use Rattle.xf_def_model.specs.Applied.{Entry}
use Rattle.xf_def_model.specs.Entries.{is_computed, value_of}
use Rattle.xf_def_model.specs.Settled.{calculates}
use Rattle.xf_def_model.specs.Pertinent.{AllOf}
use Rattle.xf_law_recalculation.specs.Agree.InTurn.{AreSingle, IsOrdered}
use Rattle.xf_undo.specs.Draft.{Draft, with_settled}
use Rattle.xf_binds.specs.Held.{entry_of}
use Rattle.xf_binds.specs.declared.turns.Turn.{Turn}
use Rattle.xf_recalc.specs.declared.fault.SettleFault.{SettleFault}
use Rattle.xf_recalc.specs.declared.fault.SettleFault.TheVariants.{Long, Text}

abbrev pub entry_in : Turn → Entry
entry_in t = entry_of t.entry

-- the calculates in an order of their graph, each with its place among them
pub record AreTurns (scope : Scope) (entries : List Entry) (all : List Visit) (turns : List Turn) : Type 0 where
  pub ordered : IsOrdered scope entries all (map entry_in turns)
  pub single : AreSingle (map entry_in turns)
  pub placed : AllOf (λ t. slice_get (calculates entries) t.place ≡ Some (entry_in t)) turns

-- ---- a turn

abbrev pub written_once : ℕ → ℕ → List ℕ → Draft → Draft
written_once number n text d = if has_text n text d.now.nodes then d else with_settled number n text d

-- the text is written where it does not stand already
abbrev pub turned : ℕ → ℕ → Draft → Option (List ℕ) → Result Draft SettleFault
turned number n d None = Err Long
turned number n d (Some text) = if nat_lt limits.text (length text) then Err Text else Ok (written_once number n text d)

-- ---- truths

abbrev pub truth_if : Scope → List Visit → Entry → Bool → Option (Option Bool)
truth_if scope all e true = option_map (λ value. Some (truth_of value)) (value_of (Some string_limit) scope all e)
truth_if scope all e false = Some None

-- of its value; a type has none. None where a string is too long
abbrev pub truth_over : Scope → List Visit → Entry → Option (Option Bool)
truth_over scope all e = truth_if scope all e (is_computed e)

abbrev pub found_if : List (Option Bool) → Option (Option Bool) → Option (List (Option Bool))
found_if found None = None
found_if found (Some truth) = Some (found ++ truth ∷ [])

-- with that of the entry at a place, where there is one
abbrev pub found_step : List (Option Bool) → Scope → List Visit → Option Entry → Option (List (Option Bool))
found_step found scope all None = Some found
found_step found scope all (Some e) = found_if found (truth_over scope all e)

abbrev pub found_over : List (Option Bool) → Scope → List Visit → List Entry → Option (List (Option Bool))
found_over found scope all [] = Some found
found_over found scope all (e ∷ es) = found_if found (truth_over scope all e) >>= λ more. found_over more scope all es

-- ---- what is known of an entry at a place

abbrev pub is_there : List Node → Entry → Bool
is_there nodes e = has_number e.node nodes

abbrev pub is_there_at : List Node → Option Entry → Bool
is_there_at nodes None = true
is_there_at nodes (Some e) = is_there nodes e

-- How the rebuild of a table stands to that of the form machine (XForms 1.1, section 4.3.1).
use Rattle.std.specs.Prelude.{ℕ, ◌≡◌, ◌<◌, List, [], ◌∷◌, map, length, Result, Ok, Err}
use Rattle.xf_def_model.specs.Applied.{Exception, twice, on_parent}
use Rattle.xf_def_machine.specs.declared.limit.LimitWord.TheVariants as word
use Rattle.xf_def_machine.specs.Profile.{Profile}
use Rattle.xf_def_machine.specs.State.{State}
use Rattle.xf_def_machine.specs.Refusal.{Refused, Refusal, limit}
use Rattle.xf_def_machine.specs.Refusal as refusal
use Rattle.xf_def_machine.specs.Surround.{bind_scope}
use Rattle.xf_def_machine.specs.Primitives.{in_model}
use Rattle.xf_def_machine.specs.Properties.{path_in}
use Rattle.xf_def_machine.specs.Behave.{rebuild, rebuilt_with}
use Rattle.xf_binds.specs.Kept.{Kept}
use Rattle.xf_binds.specs.Table.{kept_at}
use Rattle.xf_binds_rebuild.specs.Web.{edge_limit}
use Rattle.xf_binds.specs.Asked.{asked_of}
use Rattle.xf_binds_rebuild.specs.Rebuilt.{Stop, exception, edges, circular, rebuilt}

-- what stops it is told with the paths of nodes
abbrev pub refusal_of : State → Stop → Refusal
refusal_of s (exception (twice n)) = refusal.twice (path_in s n)
refusal_of s (exception (on_parent n)) = refusal.on_parent (path_in s n)
refusal_of s edges = limit (word.Edges ∷ [])
refusal_of s (circular ns) = refusal.circular (map (path_in s) ns)

-- the state with what the table keeps of a model's entries
abbrev pub taken_over : ℕ → State → List Kept → State
taken_over model s table = let k = kept_at table model in in_model (rebuilt_with k.entries (asked_of k.asks)) model s

abbrev pub told : ℕ → State → Result (List Kept) Stop → Result State Refused
told model s (Ok table) = Ok (taken_over model s table)
told model s (Err stop) = refusal.refused (refusal_of s stop) s

-- the table keeps as much as the models of the state ask
abbrev pub AsksAsMuch : State → List Kept → Type 0
AsksAsMuch s table = map (λ m. m.asked) s.models ≡ map (λ k. asked_of k.asks) table

-- the machine's rebuild is that of the table
abbrev pub RebuildsAlike : Type 0
RebuildsAlike = (p : Profile) (s : State) (model : ℕ) (table : List Kept) → p.edges ≡ edge_limit → AsksAsMuch s table → model < length table →
    rebuild p model s ≡ told model s (rebuilt (bind_scope p s model) s.forest.nodes table)

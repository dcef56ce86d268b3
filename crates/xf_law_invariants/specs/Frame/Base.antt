-- What is so of the data after each change of a state, whatever the form asks of it: they are trees whose texts stand in elements, the roots stand
-- first, no root has two children, and the numbers that an event gives are counted.
use Rattle.std.specs.Prelude.{ℕ, ◌≡◌, ◌≤◌, ◌+◌, Bool, true, false, ◌&&◌, ◌==◌, List, [], ◌∷◌, Some, nat_lt}
use Rattle.std.specs.List.{list_all}
use Rattle.xf_def_forest.specs.declared.content.Content.{Content}
use Rattle.xf_def_forest.specs.Forest.{is_element}
use Rattle.xf_def_forest.specs.Plant.{numbered_from}
use Rattle.xf_def_forest.specs.WellFormed.{HasTrees}
use Rattle.xf_law_forests.specs.Rollback.Made.{IsGrowth}
use Rattle.xf_law_forests.specs.Root.Roots.{AreAhead, IsNoRoot}
use Rattle.xf_law_invariants.specs.Tree.Trees.{AreTreesAlone}
use Rattle.xf_law_recalculation.specs.Agree.Hung.{are_hung}
use Rattle.xf_def_model.specs.Pertinent.{AllOf}
use Rattle.xf_def_machine.specs.Profile.{Profile}
use Rattle.xf_def_machine.specs.Program.{Program}
use Rattle.xf_def_machine.specs.State.{State}
use Rattle.xf_law_machine.specs.Rest.Rests.{are_filled}
use Rattle.xf_law_invariants.specs.Planned.Roots.{AreSingle}

-- from the number that came next when the event began
pub record IsBase (p : Profile) (first : ℕ) (s : State) : Type 0 where
  pub trees : HasTrees s.forest
  pub hung : are_hung s.forest.nodes ≡ true
  pub ahead : AreAhead s.forest.nodes
  pub single : AreSingle s.forest.nodes
  pub few : s.forest.next ≤ first + s.made
  pub made : s.made ≤ p.made

-- ---- what comes in

-- an element, and nothing beside it
abbrev pub is_one_element : List (ℕ × Content) → Bool
is_one_element [] = false
is_one_element (c ∷ cs) = (c.0 == 0) && is_element c.1 && list_all (λ x. nat_lt 0 x.0) cs

-- the contents of one element with what is below it, of which no text is empty
pub record IsNewElement (form : Program) (contents : List (ℕ × Content)) : Type 0 where
  pub growth : IsGrowth contents
  pub hung : (next : ℕ) → are_hung (numbered_from next contents) ≡ true
  pub alone : AreTreesAlone contents
  pub filled : are_filled contents ≡ true
  pub element : is_one_element contents ≡ true

-- ---- what controls bind

-- elements and attributes that stand
abbrev pub AreBound : State → Type 0
AreBound s = AllOf (λ c. (n : ℕ) → c.node ≡ Some n → IsNoRoot n s.forest) s.controls

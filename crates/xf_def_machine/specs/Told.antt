-- Which refusal is told of those that the machine gives: of the limits that are passed at one time any one may be.
use Rattle.std.specs.Prelude.{◌≡◌, List, [], ◌∷◌, Contains}
use Rattle.xf_def_machine.specs.declared.limit.LimitWord.{LimitWord}
use Rattle.xf_def_machine.specs.declared.refusal.Refusal.{Refusal}
use Rattle.xf_def_machine.specs.declared.refusal.Refusal.TheVariants.{NoSuchTarget, Disabled, ReadOnly, NotAnItem, BadIndex, PropertyTwice, CalculateOnParent, Binding, Circular, Limit, Budget, Depth, Sends}
use Rattle.xf_def_machine.specs.Refusal as machine

-- where one limit alone is passed
abbrev pub told : Refusal → machine.Refusal
told NoSuchTarget = machine.no_target
told Disabled = machine.disabled
told ReadOnly = machine.readonly
told NotAnItem = machine.not_an_item
told BadIndex = machine.bad_index
told (PropertyTwice path) = machine.twice path
told (CalculateOnParent path) = machine.on_parent path
told (Binding path) = machine.binding path
told (Circular paths) = machine.circular paths
told (Limit word) = machine.limit (word ∷ [])
told Budget = machine.budget
told Depth = machine.depth
told Sends = machine.sends

-- the refusal of the machine, of whose limits any one may be told
abbrev pub Tells : Refusal → machine.Refusal → Type 0
Tells (Limit word) why = (words : List LimitWord) × (why ≡ machine.limit words) × Contains words word
Tells refusal why = why ≡ told refusal

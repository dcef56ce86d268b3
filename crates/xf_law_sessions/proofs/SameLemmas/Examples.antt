-- Changes over a state with other numbers of nodes, and what comes where the renumbering is not such as the laws ask.
use Rattle.std.proofs.Common.{◌≡◌, ℕ, ◌+◌, List, [], ◌∷◌, map, Option, Some, None, Result, Ok, Err, refl, codes, if◌then◌else◌}
use Rattle.std.specs.Prelude.{nat_lt, ◌==◌}
use Rattle.xf_def_forest.specs.StringValue.{string_value}
use Rattle.xf_def_ui.specs.Interface as sort
use Rattle.xf_def_machine.specs.Program.{Program}
use Rattle.xf_def_machine.specs.Program as role
use Rattle.xf_def_machine.specs.State.{State}
use Rattle.xf_def_machine.specs.Refusal.{Refused}
use Rattle.xf_def_machine.specs.Surround.{all_in}
use Rattle.xf_def_machine.specs.Primitives.{set_text, copy, detach}
use Rattle.xf_def_machine.specs.Construct.{unbuilt}
use Rattle.xf_def_machine.specs.Step.{Outcome, accepted, refused}
use Rattle.xf_def_machine.specs.Start.{start}
use Rattle.xf_def_machine.specs.Examples
use Rattle.xf_def_machine.specs.Examples.{profile, element, model, instance}
use Rattle.xf_def_machine.specs.ExampleEvents.{pair}
use Rattle.xf_law_sessions.specs.Same.Going.{image, imaged, imaged_top}

-- ---- ["d",["a","1"],["b","2"]], whose nodes have the numbers 0 to 4 below the root 5; 6 is the next one

abbrev silent : Program
silent = Examples.form (element None (1 ∷ []) sort.host role.other ∷ model (2 ∷ []) ∷ instance ∷ []) [] [] [] pair

abbrev state_of : Outcome → State
state_of (accepted s posted) = s
state_of (refused why calls) = unbuilt profile silent

abbrev begun : State
begun = state_of (start profile silent [])

abbrev numbers : State → List ℕ
numbers s = map (λ x. x.number) s.forest.nodes

abbrev numbers_in : Result State Refused → List ℕ
numbers_in (Ok s) = numbers s
numbers_in (Err refusal) = []

abbrev top_in : Result (ℕ × State) Refused → Option ℕ
top_in (Ok (top, s)) = Some top
top_in (Err refusal) = None

-- ---- all numbers are 10 more, those too that are yet to come

abbrev ten_more : ℕ → ℕ
ten_more n = n + 10

the_image : numbers (image ten_more 16 begun) ≡ 15 ∷ 10 ∷ 11 ∷ 12 ∷ 13 ∷ 14 ∷ []
the_image = refl

a_text_goes : set_text profile 11 (codes "5") (image ten_more 16 begun) ≡ imaged ten_more 16 (set_text profile 1 (codes "5") begun)
a_text_goes = refl

its_new_number : numbers_in (set_text profile 11 (codes "5") (image ten_more 16 begun)) ≡ 15 ∷ 10 ∷ 11 ∷ 16 ∷ 13 ∷ 14 ∷ []
its_new_number = refl

a_copy_goes : copy profile 11 (image ten_more 16 begun) ≡ imaged_top ten_more 16 (copy profile 1 begun)
a_copy_goes = refl

a_tree_goes : Ok (detach 11 (image ten_more 16 begun)) ≡ imaged ten_more 16 (Ok (detach 1 begun))
a_tree_goes = refl

-- ---- one that does not go on through the numbers that are to come: a copy has 16, and not 26

abbrev broken_off : ℕ → ℕ
broken_off n = if nat_lt n 6 then n + 10 else n + 20

another_top : top_in (copy profile 11 (image broken_off 16 begun)) ≡ Some 16
another_top = refl

not_that_of_the_image : top_in (imaged_top broken_off 16 (copy profile 1 begun)) ≡ Some 26
not_that_of_the_image = refl

-- ---- one that gives a and b the same number: the text of b comes to a

abbrev both_eleven : ℕ → ℕ
both_eleven n = if n == 3 then 11 else n + 10

abbrev text_in : ℕ → Result State Refused → List ℕ
text_in n (Ok s) = string_value n (all_in s)
text_in n (Err refusal) = []

abbrev document_text : Result State Refused → List ℕ
document_text r = text_in 10 r

set_at_a : document_text (set_text profile 11 (codes "5") (image both_eleven 16 begun)) ≡ codes "52"
set_at_a = refl

not_at_b : document_text (imaged both_eleven 16 (set_text profile 3 (codes "5") begun)) ≡ codes "15"
not_at_b = refl

-- What binds make of the data, what is counted, and what construction refuses.
use Rattle.std.proofs.Common.{◌≡◌, ℕ, true, List, [], ◌∷◌, map, Some, refl, codes}
use Rattle.xf_line.specs.declared.event.Event.{Event}
use Rattle.xf_line.specs.declared.event.Event.TheVariants.{Set}
use Rattle.xf_def_forest.specs.StringValue.{string_value}
use Rattle.xf_def_forest.specs.Visit.{children_of}
use Rattle.xf_def_model.specs.Rules.{Rule}
use Rattle.xf_def_model.specs.Examples as bind
use Rattle.xf_def_machine.specs.State.{State}
use Rattle.xf_def_machine.specs.Surround.{all_in}
use Rattle.xf_def_machine.specs.Refusal.{twice, on_parent, circular}
use Rattle.xf_def_machine.specs.Properties.{readonly_in}
use Rattle.xf_def_machine.specs.Step.{Outcome}
use Rattle.xf_def_machine.specs.Start.{start}
use Rattle.xf_def_machine.specs.Examples.{profile}
use Rattle.xf_def_machine.specs.ExampleOutcomes.{seen, given_out, why, then}
use Rattle.xf_def_machine.specs.ExampleBinds.{binding, of_node, b_by_a, a_by_b, of_whole}

abbrev first : List Rule → Outcome
first rules = start profile (binding rules) []

abbrev texts : State → List (List ℕ)
texts s = map (λ n. string_value n (all_in s)) (1 ∷ 3 ∷ [])

abbrev set_a : List ℕ → Event
set_a text = Set (codes "i") [] text

b_is_computed : seen texts (first (b_by_a ∷ [])) ≡ Some (codes "1" ∷ codes "1" ∷ [])
b_is_computed = refl

b_follows : seen texts (then (first (b_by_a ∷ [])) (set_a (codes "5"))) ≡ Some (codes "5" ∷ codes "5" ∷ [])
b_follows = refl

-- one evaluation; none where the text stands
one_evaluation : given_out (λ g. g.evaluated) (then (first (b_by_a ∷ [])) (set_a (codes "5"))) ≡ Some 1
one_evaluation = refl

no_evaluation : given_out (λ g. g.evaluated) (then (first (b_by_a ∷ [])) (set_a (codes "1"))) ≡ Some 0
no_evaluation = refl

-- the text of b has the number that is reserved for it, and keeps it where it stands; a number is reserved all the same
abbrev texts_of_b : State → List ℕ
texts_of_b s = children_of 3 (all_in s)

a_reserved_number : seen texts_of_b (first (b_by_a ∷ [])) ≡ Some (5 ∷ [])
a_reserved_number = refl

the_same_text : seen texts_of_b (then (first (b_by_a ∷ [])) (set_a (codes "1"))) ≡ Some (5 ∷ [])
the_same_text = refl

one_number_more : seen (λ s. s.forest.next) (then (first (b_by_a ∷ [])) (set_a (codes "1"))) ≡ Some 8
one_number_more = refl

-- a relevant `../a` gives a truth; what it reads is a text all the same, so that it is evaluated where that changes
abbrev b_if_a : Rule
b_if_a = bind.relevant (bind.beside (codes "a")) (of_node (codes "b"))

one_truth : given_out (λ g. g.evaluated) (then (first (b_if_a ∷ [])) (set_a (codes "5"))) ≡ Some 1
one_truth = refl

-- a calculate makes its node readonly
b_is_readonly : seen (λ s. readonly_in s 3) (first (b_by_a ∷ [])) ≡ Some true
b_is_readonly = refl

-- ---- refused

in_a_ring : why (first (a_by_b ∷ b_by_a ∷ [])) ≡ Some (circular (codes "/d/a" ∷ codes "/d/b" ∷ []))
in_a_ring = refl

set_twice : why (first (b_by_a ∷ b_by_a ∷ [])) ≡ Some (twice (codes "/d/b"))
set_twice = refl

on_elements : why (first (of_whole ∷ [])) ≡ Some (on_parent (codes "/d"))
on_elements = refl

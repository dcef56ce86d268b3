-- Where the copies of an insert come to stand in the data, and what a delete leaves.
use Rattle.std.proofs.Common.{◌≡◌, ℕ, true, false, List, [], ◌∷◌, map, Some, None, refl, codes}
use Rattle.xf_num.specs.Number.{scale}
use Rattle.xf_name.specs.declared.axis.Axis.TheVariants as axis
use Rattle.xf_def_syntax.specs.declared.expr.Test.TheVariants as test
use Rattle.xf_def_forest.specs.declared.content.Content.{Content}
use Rattle.xf_def_xpath.specs.Setting.{Meaning}
use Rattle.xf_def_xpath.specs.Examples.{step, up, path, number}
use Rattle.xf_line.specs.declared.event.Event.TheVariants.{Activate}
use Rattle.xf_def_machine.specs.Program.{Program, Work}
use Rattle.xf_def_machine.specs.Program as work
use Rattle.xf_def_machine.specs.State.{State}
use Rattle.xf_def_machine.specs.Data.{data_of}
use Rattle.xf_def_machine.specs.Step.{Outcome}
use Rattle.xf_def_machine.specs.Start.{start}
use Rattle.xf_def_machine.specs.Examples.{Part, profile, bound, to, itself, element_at, text_at}
use Rattle.xf_def_machine.specs.ExampleOutcomes.{seen, then}
use Rattle.xf_def_machine.specs.ExampleEvents.{twice, as_it_is, insert_a, beside}

abbrev done : (Part → Part) → Work → Work → Outcome
done first one other = then (start profile (twice as_it_is first one other) []) (Activate (codes "x") [])

abbrev documents : State → List (List (ℕ × Content))
documents s = (data_of s).documents

abbrev numbers : State → List ℕ
numbers s = map (λ x. x.number) s.forest.nodes

-- ["d",["a","1"],["b","2"]] has the numbers 0 to 4, its root 5

behind : seen numbers (done (bound (to (codes "a"))) insert_a work.all_in_it) ≡ Some (5 ∷ 0 ∷ 1 ∷ 2 ∷ 6 ∷ 7 ∷ 3 ∷ 4 ∷ [])
behind = refl

before : seen numbers (done (bound (to (codes "a"))) (work.insert (record { context = None; origin = None; at = None; is_before = true })) work.all_in_it)
    ≡ Some (5 ∷ 0 ∷ 6 ∷ 7 ∷ 1 ∷ 2 ∷ 3 ∷ 4 ∷ [])
before = refl

-- the document element is replaced
in_place_of_the_document : seen documents (done (bound itself) (work.insert (record { context = None; origin = Some (to (codes "a")); at = None; is_before = false })) work.all_in_it)
    ≡ Some ((element_at 0 (codes "a") ∷ text_at 1 (codes "1") ∷ []) ∷ [])
in_place_of_the_document = refl

-- of an empty set, in the context, from which the origin is selected too
in_the_context : seen documents (done (bound (to (codes "z"))) (work.insert (record { context = Some (to (codes "a")); origin = Some (beside (codes "b")); at = None; is_before = false })) work.all_in_it)
    ≡ Some ((element_at 0 (codes "d") ∷ element_at 1 (codes "a") ∷ element_at 2 (codes "b") ∷ text_at 3 (codes "2") ∷ text_at 2 (codes "1") ∷ element_at 1 (codes "b") ∷ text_at 2 (codes "2") ∷ []) ∷ [])
in_the_context = refl

-- a document element is not deleted; its children are
no_delete : seen numbers (done (bound itself) (work.delete (record { context = None; at = None })) work.all_in_it) ≡ Some (5 ∷ 0 ∷ 1 ∷ 2 ∷ 3 ∷ 4 ∷ [])
no_delete = refl

a_delete : seen numbers (done (bound (to (codes "a"))) (work.delete (record { context = None; at = None })) work.all_in_it) ≡ Some (5 ∷ 0 ∷ 3 ∷ 4 ∷ [])
a_delete = refl

-- ---- by `at`, which counts from 1, among the children a and b

abbrev children : Meaning
children = (path (step axis.Child test.AnyName [] ∷ [])).meaning

abbrev copy_at : ℕ → Work
copy_at n = work.insert (record { context = None; origin = Some (to (codes "b")); at = Some (number n).meaning; is_before = false })

behind_the_first : seen numbers (done (bound children) (copy_at 1) work.all_in_it) ≡ Some (5 ∷ 0 ∷ 1 ∷ 2 ∷ 6 ∷ 7 ∷ 3 ∷ 4 ∷ [])
unfolding scale
behind_the_first = refl

behind_the_second : seen numbers (done (bound children) (copy_at 2) work.all_in_it) ≡ Some (5 ∷ 0 ∷ 1 ∷ 2 ∷ 3 ∷ 4 ∷ 6 ∷ 7 ∷ [])
unfolding scale
behind_the_second = refl

-- held between 1 and the size
held_at_the_first : seen numbers (done (bound children) (copy_at 0) work.all_in_it) ≡ Some (5 ∷ 0 ∷ 1 ∷ 2 ∷ 6 ∷ 7 ∷ 3 ∷ 4 ∷ [])
unfolding scale
held_at_the_first = refl

held_at_the_last : seen numbers (done (bound children) (copy_at 9) work.all_in_it) ≡ Some (5 ∷ 0 ∷ 1 ∷ 2 ∷ 3 ∷ 4 ∷ 6 ∷ 7 ∷ [])
unfolding scale
held_at_the_last = refl

-- several origins, in document order, all copied before the first goes to its place
both_copied : seen numbers (done (bound (to (codes "a"))) (work.insert (record { context = None; origin = Some children; at = None; is_before = false })) work.all_in_it)
    ≡ Some (5 ∷ 0 ∷ 1 ∷ 2 ∷ 6 ∷ 7 ∷ 8 ∷ 9 ∷ 3 ∷ 4 ∷ [])
both_copied = refl

-- the document element into its own child: the copy does not hold itself
in_its_own_child : seen documents (done (bound (to (codes "z"))) (work.insert (record { context = Some (to (codes "a")); origin = Some (path (up false ∷ [])).meaning; at = None; is_before = false })) work.all_in_it)
    ≡ Some ((element_at 0 (codes "d") ∷ element_at 1 (codes "a") ∷ element_at 2 (codes "d") ∷ element_at 3 (codes "a") ∷ text_at 4 (codes "1") ∷ element_at 3 (codes "b") ∷ text_at 4 (codes "2")
    ∷ text_at 2 (codes "1") ∷ element_at 1 (codes "b") ∷ text_at 2 (codes "2") ∷ []) ∷ [])
in_its_own_child = refl

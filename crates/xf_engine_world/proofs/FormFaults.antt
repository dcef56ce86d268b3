-- For which reasons a construction is refused: binds, or limits.
use Rattle.std.proofs.Common.{ℕ, ◌≡◌, ◌+◌, nat_lt, Bool, true, false, List, [], ◌∷◌, length, Option, Some, None, Result, Ok, Err, refl, ap, sym, ◌∙◌, subst}
use Rattle.xf_def_forest.specs.declared.content.Content.{Content}
use Rattle.xf_def_forest.specs.declared.fault.TreeFault.{TreeFault}
use Rattle.xf_def_forest.specs.Forest.{Forest}
use Rattle.xf_def_forest.specs.Planted.{with_tree}
use Rattle.xf_def_forest.specs.Shape.{shape_of}
use Rattle.xf_def_model.specs.Applied.{Entry, Exception, twice, on_parent, applied}
use Rattle.xf_def_model.specs.Circular.{Reader}
use Rattle.xf_def_model.specs.Entries.{edge_count}
use Rattle.xf_def_ui.specs.Cases.{first_cases}
use Rattle.xf_def_ui.specs.Copies.{Copy, copies, copy_count}
use Rattle.xf_def_ui.specs.Index.{Index, Stop, brought_up}
use Rattle.xf_def_ui.specs.Started.{started}
use Rattle.xf_def_machine.specs.declared.limit.LimitWord.{LimitWord}
use Rattle.xf_def_machine.specs.declared.limit.LimitWord.TheVariants.{Controls, Edges}
use Rattle.xf_def_machine.specs.Behave.{asked_by_all, rebuilt_with, unless_cycle, no_cycle, by_applied, rebuild, recalculate, revalidate}
use Rattle.xf_def_machine.specs.Construct.{plant_document, rooted, build_model, first_shown, start_indexes, unbuilt, construct}
use Rattle.xf_def_machine.specs.Cycles.{counted_from}
use Rattle.xf_def_machine.specs.Flow.{Run, ◌>>=◌, in_turn}
use Rattle.xf_def_machine.specs.Primitives.{grown, in_model, over_made, with_indexes}
use Rattle.xf_def_machine.specs.Profile.{Profile}
use Rattle.xf_def_machine.specs.Program.{Program}
use Rattle.xf_def_machine.specs.Properties.{marks_in}
use Rattle.xf_def_machine.specs.Refusal as machine
use Rattle.xf_def_machine.specs.Refusal.{Refused, unless_passed, if_over, or_long}
use Rattle.xf_def_machine.specs.State.{State}
use Rattle.xf_def_machine.specs.Surround.{interface, quiet, bind_scope}
use Rattle.xf_def_machine.specs.Update.{reindex, shown, with_brought}
use Rattle.xf_def_machine.specs.declared.refusal.Refusal.{Refusal}
use Rattle.xf_def_machine.specs.declared.refusal.Refusal.TheVariants.{NoSuchTarget, Disabled, ReadOnly, NotAnItem, BadIndex, PropertyTwice, CalculateOnParent, Binding, Circular, Limit, Budget, Depth, Sends}
use Rattle.xf_def_machine.specs.Told.{Tells}
use Rattle.xf_engine_state.specs.Does.{IsRefused}
use Rattle.xf_engine_world.specs.Constructed.{all_built, built_and_shown, rows_started}
use Rattle.xf_engine_world.specs.Constructed.{is_of_form}

-- ---- a reason

abbrev is_form_fault : machine.Refusal → Bool
is_form_fault (machine.twice path) = true
is_form_fault (machine.on_parent path) = true
is_form_fault (machine.circular paths) = true
is_form_fault (machine.limit words) = true
is_form_fault other = false

-- no construction is refused for this reason
other-told : (why other : machine.Refusal) → why ≡ other → is_form_fault why ≡ true → is_form_fault other ≡ true
other-told why other e h = ap is_form_fault (sym e) ∙ h

told-fault : (refusal : Refusal) (why : machine.Refusal) → Tells refusal why → is_form_fault why ≡ true → is_of_form refusal ≡ true
told-fault (Limit word) why t h = refl
told-fault (PropertyTwice path) why t h = refl
told-fault (CalculateOnParent path) why t h = refl
told-fault (Circular paths) why t h = refl
told-fault NoSuchTarget why t h = other-told why machine.no_target t h
told-fault Disabled why t h = other-told why machine.disabled t h
told-fault ReadOnly why t h = other-told why machine.readonly t h
told-fault NotAnItem why t h = other-told why machine.not_an_item t h
told-fault BadIndex why t h = other-told why machine.bad_index t h
told-fault (Binding path) why t h = other-told why (machine.binding path) t h
told-fault Budget why t h = other-told why machine.budget t h
told-fault Depth why t h = other-told why machine.depth t h
told-fault Sends why t h = other-told why machine.sends t h

-- ---- changes that are refused for no other

abbrev is_refused_so : {X : Type 0} → Result X Refused → Bool
is_refused_so (Ok x) = true
is_refused_so (Err r) = is_form_fault r.why

record OfForm {X : Type 0} (r : Result X Refused) : Type 0 where
  is : is_refused_so r ≡ true

so : {X : Type 0} (r : Result X Refused) → is_refused_so r ≡ true → OfForm r
so r h = record { is = h }

of-then : {A B : Type 0} (r : Result A Refused) (next : A → Result B Refused) → OfForm r → ((x : A) → OfForm (next x)) → OfForm (r >>= next)
of-then (Err r) next h k = so _ h.is
of-then (Ok x) next h k = k x

of-turn : {X : Type 0} (run : X → Run) (xs : List X) (s : State) → ((x : X) (t : State) → OfForm (run x t)) → OfForm (in_turn run xs s)
of-turn run [] s h = so _ refl
of-turn run (x ∷ xs) s h = of-then (run x s) (in_turn run xs) (h x s) (λ t. of-turn run xs t h)

of-passed : {X : Type 0} (s : State) (words : List LimitWord) (x : X) → OfForm (unless_passed s words x)
of-passed s [] x = so _ refl
of-passed s (word ∷ words) x = so _ refl

of-rooted : (r : Result ((ℕ × Forest) × State) Refused) → OfForm r → OfForm (rooted r)
of-rooted (Err refusal) h = so _ h.is
of-rooted (Ok ((top, forest), s)) h = so _ refl

of-grown : {X : Type 0} (p : Profile) (count : ℕ) (r : Result X TreeFault) (s : State) → OfForm (grown p count r s)
of-grown p count (Err fault) s = so _ refl
of-grown p count (Ok x) s = of-passed s (over_made p (s.made + count)) (x, record s { made = s.made + count })

of-planted : (p : Profile) (contents : List (ℕ × Content)) (s : State) → OfForm (plant_document p contents s)
of-planted p contents s =
    of-rooted (grown p (length contents) (with_tree p.bounds.limits contents s.forest) s) (of-grown p (length contents) (with_tree p.bounds.limits contents s.forest) s)

of-exception : (p : Profile) (model : ℕ) (x : Exception) (s : State) → OfForm (by_applied p model (Err x) s)
of-exception p model (twice n) s = so _ refl
of-exception p model (on_parent n) s = so _ refl

of-cycle : (before : State) (readers : List Reader) (o : Option (List ℕ)) (s : State) → OfForm (unless_cycle before readers o s)
of-cycle before readers None s = so _ refl
of-cycle before readers (Some places) s = so _ refl

of-applied : (p : Profile) (model : ℕ) (r : Result (List Entry) Exception) (s : State) → OfForm (by_applied p model r s)
of-applied p model (Err x) s = of-exception p model x s
of-applied p model (Ok entries) s =
    let after = in_model (rebuilt_with entries (edge_count (bind_scope p s model) (shape_of s.forest.nodes) entries)) model s in
    of-then (unless_passed after (if_over (nat_lt p.edges (asked_by_all after)) Edges) after) (no_cycle p model entries) (of-passed after _ after) (λ t. of-cycle t _ _ t)

passed-end : (words : List LimitWord) (s : State) (after : State → State) (r : Result State Refused)
    → unless_passed s words s >>= (λ t. Ok (after t)) ≡ r → OfForm r
passed-end [] s after r e = subst (λ (q : Result State Refused). OfForm q) e (so _ refl)
passed-end (word ∷ words) s after r e = subst (λ (q : Result State Refused). OfForm q) e (so _ refl)

of-recalculated : (p : Profile) (model : ℕ) (s : State) → OfForm (recalculate p model s)
of-recalculated p model s = passed-end _ s _ (recalculate p model s) refl

of-built : (p : Profile) (model : ℕ) (s : State) → OfForm (build_model p model s)
of-built p model s =
    of-then (rebuild p model s >>= recalculate p model) (λ t. Ok (revalidate p model t))
    (of-then (rebuild p model s) (recalculate p model) (of-applied p model (applied (bind_scope p s model) s.forest.nodes) s) (of-recalculated p model)) (λ t. so _ refl)

within-end : (o : Option (List Copy)) (s : State) (words : List Copy → List LimitWord) (r : Result (List Copy) Refused)
    → or_long s o >>= (λ list. unless_passed s (words list) list) ≡ r → OfForm r
within-end None s words r e = subst (λ (q : Result (List Copy) Refused). OfForm q) e (so _ refl)
within-end (Some list) s words r e = subst (λ (q : Result (List Copy) Refused). OfForm q) e (of-passed s (words list) list)

of-shown : (p : Profile) (s : State) → OfForm (shown p s)
of-shown p s =
    within-end (copies (interface s) (quiet p s) (marks_in s) s.cases s.indexes) s (λ list. if_over (nat_lt p.controls (copy_count list)) Controls) (shown p s) refl

of-first-shown : (p : Profile) (s : State) → OfForm (first_shown p s)
of-first-shown p s = of-then (shown p s) (λ list. Ok (record s { controls = list })) (of-shown p s) (λ list. so _ refl)

of-long : {X : Type 0} (s : State) (o : Option X) → OfForm (or_long s o)
of-long s None = so _ refl
of-long s (Some x) = so _ refl

of-brought : (s : State) (r : Result (List Index) Stop) → OfForm (with_brought s r)
of-brought s (Err stop) = so _ refl
of-brought s (Ok indexes) = so _ refl

of-started : (p : Profile) (s : State) → OfForm (start_indexes p s)
of-started p s =
    of-then (or_long s (started (interface s) (quiet p s))) (λ indexes. reindex p [] (with_indexes indexes s))
    (of-long s (started (interface s) (quiet p s)))
    (λ indexes. let t = with_indexes indexes s in of-brought t (brought_up p.passes (interface t) (quiet p t) [] t.indexes))

of-shown-rows : (p : Profile) (s : State) → OfForm (rows_started p s >>= first_shown p)
of-shown-rows p s = of-then (rows_started p s) (first_shown p) (of-started p (record s { cases = first_cases (interface s) })) (of-first-shown p)

of-constructed : (p : Profile) (form : Program) → OfForm (construct p form)
of-constructed p form =
    of-then (in_turn (plant_document p) form.documents (unbuilt p form)) (built_and_shown p)
    (of-turn (plant_document p) form.documents (unbuilt p form) (of-planted p))
    (λ s. of-then (all_built p s) (λ t. rows_started p t >>= first_shown p)
    (of-turn (build_model p) (counted_from 0 (length s.models)) s (of-built p)) (of-shown-rows p))

refused-fault : {X : Type 0} (refusal : Refusal) (r : Result X Refused) → OfForm r → IsRefused refusal r → is_of_form refusal ≡ true
refused-fault refusal (Ok x) h q = absurd q
refused-fault refusal (Err r) h q = told-fault refusal r.why q.0 h.is

pub construct-fault : (p : Profile) (form : Program) (refusal : Refusal) → IsRefused refusal (construct p form) → is_of_form refusal ≡ true
construct-fault p form refusal h = refused-fault refusal (construct p form) (of-constructed p form) h

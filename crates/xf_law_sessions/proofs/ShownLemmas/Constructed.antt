-- What a construction shows: its indexes are placed before its controls are made.
use Rattle.std.proofs.Common.{ℕ, ◌≡◌, ◌+◌, true, List, [], ◌∷◌, length, Result, Ok, Err, refl, sym, ap, subst}
use Rattle.xf_def_forest.specs.declared.content.Content.{Content}
use Rattle.xf_def_forest.specs.declared.fault.TreeFault.{TreeFault}
use Rattle.xf_def_forest.specs.Forest.{Forest}
use Rattle.xf_def_forest.specs.Planted.{with_tree}
use Rattle.xf_def_ui.specs.Cases.{first_cases}
use Rattle.xf_def_ui.specs.Copies.{Copy, copies}
use Rattle.xf_def_ui.specs.Index.{Index, Stop, brought_up}
use Rattle.xf_def_ui.specs.Started.{started}
use Rattle.xf_def_machine.specs.declared.limit.LimitWord.{LimitWord}
use Rattle.xf_def_machine.specs.AtRest.{are_placed}
use Rattle.xf_def_machine.specs.Behave.{rebuild, recalculate, revalidate}
use Rattle.xf_def_machine.specs.Carried.{Document}
use Rattle.xf_def_machine.specs.Construct.{build_model, construct, first_shown, plant_document, rooted, start_indexes, unbuilt}
use Rattle.xf_def_machine.specs.Cycles.{counted_from}
use Rattle.xf_def_machine.specs.Flow.{◌>>=◌, in_turn}
use Rattle.xf_def_machine.specs.Primitives.{grown, over_made, with_indexes}
use Rattle.xf_def_machine.specs.Profile.{Profile}
use Rattle.xf_def_machine.specs.Program.{Program}
use Rattle.xf_def_machine.specs.Properties.{marks_in}
use Rattle.xf_def_machine.specs.Refusal.{Refused, or_long, unless_passed}
use Rattle.xf_def_machine.specs.State.{State}
use Rattle.xf_def_machine.specs.Step.{at_end}
use Rattle.xf_def_machine.specs.Surround.{interface, quiet}
use Rattle.xf_def_machine.specs.Update.{reindex, shown, with_brought, within_controls}
use Rattle.xf_law_machine.proofs.RestLemmas.FlagLaws.{rebuild-held, recalculate-held}
use Rattle.xf_law_machine.proofs.RestLemmas.Holds.{Held, held-any, held-by, held-is, held-then, held-turn}
use Rattle.xf_law_sessions.proofs.StepLemmas.ChangesAlike.{has-form}
use Rattle.xf_law_sessions.specs.Outcome.Indexes.{IsNumbered}
use Rattle.xf_law_sessions.specs.Shown.Constructed.{IsShown, ConstructedIsShown, EndIsShown, AdoptedIsShown, ConstructionLaws}
use Rattle.xf_law_sessions.specs.Shown.Shown.{dropped}
use Rattle.xf_law_sessions.proofs.ShownLemmas.Reindexed.{started_placed}
use Rattle.xf_law_sessions.proofs.ShownLemmas.Placed.{placed_law}
use Rattle.xf_law_sessions.proofs.ShownLemmas.State.{shown_law, list-too}

abbrev OfForm : Program → State → Type 0
OfForm form s = s.form ≡ form

module _ (p : Profile) (form : Program) where
  planted-of : (contents : List (ℕ × Content)) (s : State) → OfForm form s → Held (OfForm form) (plant_document p contents s)
  planted-of contents s h = by (with_tree p.bounds.limits contents s.forest)
    where
      made : (words : List LimitWord) (one : ℕ × Forest) → Held (OfForm form) (rooted (unless_passed s words (one, record s { made = s.made + length contents })))
      made [] one = h
      made (word ∷ words) one = tt

      by : (r : Result (ℕ × Forest) TreeFault) → Held (OfForm form) (rooted (grown p (length contents) r s))
      by (Err fault) = tt
      by (Ok one) = made (over_made p (s.made + length contents)) one

  built-of : (model : ℕ) (s : State) → OfForm form s → Held (OfForm form) (build_model p model s)
  built-of model s h =
      held-then (OfForm form) (OfForm form) (rebuild p model s >>= recalculate p model) (λ t. Ok (revalidate p model t))
      (held-then (OfForm form) (OfForm form) (rebuild p model s) (recalculate p model) (rebuild-held (OfForm form) p model s (λ entries asked q. h))
      (λ t i. recalculate-held (OfForm form) p model t (λ made evaluated. i))) (λ t i. i)

  -- the list of the controls is the same where no more than it is another one
  pub shown-again : (s t : State) (list : List Copy) → copies (interface t) (quiet p t) (marks_in t) t.cases t.indexes ≡ copies (interface s) (quiet p s) (marks_in s) s.cases s.indexes
      → shown p s ≡ Ok list → shown p t ≡ Ok list
  shown-again s t list same e =
      list-too p s t (copies (interface t) (quiet p t) (marks_in t) t.cases t.indexes) list
      (subst (λ o. (or_long s o >>= λ l. within_controls p l s) ≡ Ok list) (sym same) e)

  first-is : (s : State) → are_placed p s ≡ true → Held (IsShown p) (first_shown p s)
  first-is s placed = by (shown p s) refl
    where
      by : (r : Result (List Copy) Refused) → shown p s ≡ r → Held (IsShown p) (r >>= λ list. Ok (record s { controls = list }))
      by (Err refusal) e = tt
      by (Ok list) e = record { controls = shown-again s (record s { controls = list }) list refl e; placed = placed }

  constructed-is : IsNumbered form → Held (IsShown p) (construct p form)
  constructed-is numbered =
      let O = OfForm form in
      let last : State → Result State Refused = λ t. start_indexes p (record t { cases = first_cases (interface t) }) >>= first_shown p in
      held-then O (IsShown p) (in_turn (plant_document p) form.documents (unbuilt p form)) (λ s. in_turn (build_model p) (counted_from 0 (length s.models)) s >>= last)
      (held-turn O (plant_document p) form.documents planted-of (unbuilt p form) refl)
      (λ s h. held-then O (IsShown p) (in_turn (build_model p) (counted_from 0 (length s.models)) s) last
      (held-turn O (build_model p) (counted_from 0 (length s.models)) built-of s h)
      (λ t i. let u : State = record t { cases = first_cases (interface t) } in
      held-then (λ v. are_placed p v ≡ true) (IsShown p) (start_indexes p u) (first_shown p)
      (held-by (λ v. are_placed p v ≡ true) (start_indexes p u) (λ v e. started_placed p u v (subst IsNumbered (sym i) numbered) e)) first-is))

constructed_shown : ConstructedIsShown
constructed_shown p form s numbered e = held-is (IsShown p) (construct p form) s (constructed-is p form numbered) e

pub end_shown : EndIsShown
end_shown p s numbered trees ahead h = record {
  controls = shown-again p s.form (dropped s) (at_end p s) s.controls refl (shown_law p s s.controls (has-form s numbered.of_form) trees ahead h.controls);
  placed = placed_law p s numbered trees ahead h.placed;
}

-- the form with other documents
over-form : (form : Program) (documents : List Document) → IsNumbered form → IsNumbered (record form { documents = documents })
over-form form documents h = record {
  of_form = record {
    form = h.of_form.form;
    bindings = h.of_form.bindings;
    documents = documents;
    is = ap (λ (x : Program). record x { documents = documents }) h.of_form.is;
  };
  ordered = h.ordered;
}

constructed-of : (p : Profile) (form : Program) → Held (OfForm form) (construct p form)
constructed-of p form =
    let O = OfForm form in
    let last : State → Result State Refused = λ t. start_indexes p (record t { cases = first_cases (interface t) }) >>= first_shown p in
    held-then O O (in_turn (plant_document p) form.documents (unbuilt p form)) (λ s. in_turn (build_model p) (counted_from 0 (length s.models)) s >>= last)
    (held-turn O (plant_document p) form.documents (planted-of p form) (unbuilt p form) refl)
    (λ s h. held-then O O (in_turn (build_model p) (counted_from 0 (length s.models)) s) last
    (held-turn O (build_model p) (counted_from 0 (length s.models)) (built-of p form) s h)
    (λ t i. let u : State = record t { cases = first_cases (interface t) } in
    held-then O O (start_indexes p u) (first_shown p) (indexes-of u i) shown-of))
  where
    indexes-of : (s : State) → OfForm form s → Held (OfForm form) (start_indexes p s)
    indexes-of s h =
        held-any (OfForm form) (or_long s (started (interface s) (quiet p s))) (λ indexes. reindex p [] (with_indexes indexes s))
        (λ indexes. let t = with_indexes indexes s in brought-of (brought_up p.passes (interface t) (quiet p t) [] t.indexes) t h)
      where
        brought-of : (r : Result (List Index) Stop) (t : State) → OfForm form t → Held (OfForm form) (with_brought t r)
        brought-of (Err stop) t i = tt
        brought-of (Ok indexes) t i = i

    shown-of : (s : State) → OfForm form s → Held (OfForm form) (first_shown p s)
    shown-of s h = held-any (OfForm form) (shown p s) (λ list. Ok (record s { controls = list })) (λ list. h)

adopted_shown : AdoptedIsShown
adopted_shown p form documents accepted s numbered e trees ahead =
    let over = record form { documents = documents } in
    let of : s.form ≡ over = held-is (OfForm over) (construct p over) s (constructed-of p over) e in
    let number = over-form form documents numbered in
    let whole = constructed_shown p over s number e in
    let ended = end_shown p s (subst IsNumbered (sym of) number) trees ahead whole in
    let same : IsShown p (record (at_end p s) { form = over }) = subst (λ (x : Program). IsShown p (record (at_end p s) { form = x })) of ended in
    record { controls = shown-again p form (record (at_end p s) { form = over }) (record (at_end p s) { form = form; accepted = accepted }) s.controls refl same.controls; placed = same.placed }

pub construction_laws : ConstructionLaws
construction_laws = record { constructed = constructed_shown; ended = end_shown; adopted = adopted_shown }

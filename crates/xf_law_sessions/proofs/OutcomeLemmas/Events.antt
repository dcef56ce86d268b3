-- One event after the other goes with a renumbering that goes on through all numbers that are given.
use Rattle.std.proofs.Common.{◌≡◌, ℕ, ◌+◌, List, [], ◌∷◌, Result, Ok, Err, refl, sym, ap, ◌∙◌, subst, arith}
use Rattle.std.specs.Prelude.{◌≤◌}
use Rattle.xf_line.specs.declared.event.Event.{Event}
use Rattle.xf_def_forest.proofs.RenumberChanges.{in_instances-renumbered}
use Rattle.xf_store.specs.declared.answers.Answer.{Answer}
use Rattle.xf_def_machine.specs.Profile.{Profile}
use Rattle.xf_def_machine.specs.State.{State}
use Rattle.xf_def_machine.specs.Refusal.{Refused}
use Rattle.xf_def_machine.specs.Step.{Outcome, accepted, refused, fresh, changed_by, at_end, outcome, one_more, step}
use Rattle.xf_law_machine.proofs.RestLemmas.Holds.{Held}
use Rattle.xf_law_sessions.specs.Same.Going.{Runs, imaged}
use Rattle.xf_law_sessions.proofs.SameLemmas.GoingLaws.{changes_go}
use Rattle.xf_law_sessions.specs.Step.Steps.{IsOfForm}
use Rattle.xf_law_sessions.proofs.StepLemmas.Alike.{Two, other, Fits}
use Rattle.xf_law_sessions.proofs.StepLemmas.StepsGo.{changed-goes}
use Rattle.xf_law_sessions.specs.Outcome.Events.{AreSameFor, EndSame, EventGoes, left_by, made_by, EventsGo, EventGives, EventLaws}

runs-of : (p : Profile) (made : ℕ) (s t : State) → (h : AreSameFor (p.made + made) s t) → Runs p h.same.by s.forest.next t.forest.next
runs-of p made s t h = record { renumbers = h.same.renumbers; keeps_texts = h.same.keeps_texts; continues = λ k l. h.continues k (omega (arith, l)) }

module _ (p : Profile) (made : ℕ) (event : Event) (answers : List Answer) (s t : State) (h : AreSameFor (p.made + made) s t) where
  abbrev two : Two
  two = record { p = p; answers = answers; f = h.same.by; first = s.forest.next; second = t.forest.next; runs = runs-of p made s t h }

  abbrev end : State → State
  end u = one_more (at_end p u)

  -- the numbers that come after those of the event
  ended : (u : State) → Fits two u → AreSameFor made (end u) (end (other two u))
  ended u fits = record {
    same = record {
      by = h.same.by;
      renumbers = h.same.renumbers;
      keeps_texts = h.same.keeps_texts;
      form = refl;
      nodes = sym (in_instances-renumbered h.same.by h.same.renumbers u.forest.nodes);
      indexes = refl;
      cases = refl;
      models = refl;
      controls = refl;
      accepted = refl;
      notes = refl;
      turns = refl;
      made = refl;
      evaluated = refl;
      calls = refl;
    };
    continues = λ k less.
        let next : u.forest.next ≡ s.forest.next + u.made = fits.counts.next in
        let within : u.made ≤ p.made = fits.counts.within in
        let one : u.forest.next + k ≡ s.forest.next + (u.made + k) = omega (arith, next) in
        let after : t.forest.next + (u.made + k) ≡ t.forest.next + u.made + k = omega arith in
        ap h.same.by one ∙ h.continues (u.made + k) (omega (arith, within, less)) ∙ after;
  }

  ends : (x : Result State Refused) → Held (Fits two) x → EndSame made (outcome end x) (outcome end (imaged h.same.by t.forest.next x))
  ends (Ok u) fits = (ended u fits, refl)
  ends (Err refusal) fits = (refl, refl)

  one-event : IsOfForm s.form → EndSame made (step p s event answers) (step p t event answers)
  one-event form =
      let begun = fresh p s in
      let plain : s.forest.next ≡ s.forest.next + 0 = omega arith in
      let fits : Fits two begun = record { counts = record { next = plain; within = omega arith }; form = form } in
      let first = changed_by p answers event begun in
      let goes = changed-goes two event begun fits in
      subst (λ x. EndSame made (outcome end first) (outcome end (changed_by p answers event x))) (sym (changes_go.same p s t h.same))
      (subst (λ x. EndSame made (outcome end first) (outcome end x)) (sym goes.is) (ends first goes.fits))

pub event_goes : EventGoes
event_goes p made event answers s t form h = one-event p made event answers s t h form

-- ---- one after the other

fewer : (made less : ℕ) (s t : State) → less ≤ made → AreSameFor made s t → AreSameFor less s t
fewer made less s t l h = record { same = h.same; continues = λ k q. h.continues k (omega (arith, l, q)) }

-- such states are left, also where the event is refused
left-same : (p : Profile) (made : ℕ) (s t : State) → AreSameFor (p.made + made) s t → (x y : Outcome) → EndSame made x y → AreSameFor made (left_by s x) (left_by t y)
left-same p made s t h (accepted u posted) (accepted v other_posted) q = q.0
left-same p made s t h (accepted u posted) (refused why calls) q = absurd q
left-same p made s t h (refused why calls) (accepted v other_posted) q = absurd q
left-same p made s t h (refused why calls) (refused other_why other_calls) q = fewer (p.made + made) made s t (omega arith) h

-- no event changes the form
left-form : (p : Profile) (made : ℕ) (event : Event) (answers : List Answer) (s t : State) → IsOfForm s.form → AreSameFor (p.made + made) s t → IsOfForm (left_by s (step p s event answers)).form
left-form p made event answers s t form h =
    let begun = fresh p s in
    let e = two p made event answers s t h in
    let plain : s.forest.next ≡ s.forest.next + 0 = omega arith in
    let fits : Fits e begun = record { counts = record { next = plain; within = omega arith }; form = form } in
    by (changed_by p answers event begun) (changed-goes e event begun fits).fits
  where
    by : (x : Result State Refused) → Held (Fits (two p made event answers s t h)) x → IsOfForm (left_by s (outcome (λ u. one_more (at_end p u)) x)).form
    by (Ok u) fits = fits.form
    by (Err refusal) fits = form

pub events_go : EventsGo
events_go p made [] s t form h = fewer (0 + made) made s t (omega arith) h
events_go p made ((event, answers) ∷ lines) s t form h =
    let more = made_by p lines + made in
    let all : AreSameFor (p.made + more) s t = fewer (p.made + made_by p lines + made) (p.made + more) s t (omega arith) h in
    let ends = event_goes p more event answers s t form all in (
      ends,
      events_go p made lines (left_by s (step p s event answers)) (left_by t (step p t event answers)) (left-form p more event answers s t form all)
          (left-same p more s t all (step p s event answers) (step p t event answers) ends),
    )

-- ---- how many numbers it gives

-- each number stays itself
abbrev itself : Profile → List Answer → State → Two
itself p answers s = record {
  p = p;
  answers = answers;
  f = λ n. n;
  first = s.forest.next;
  second = s.forest.next;
  runs = record { renumbers = λ m n. refl; keeps_texts = λ n. refl; continues = λ k l. refl };
}

event_gives : EventGives
event_gives p event answers s t posted form e =
    let begun = fresh p s in
    let plain : s.forest.next ≡ s.forest.next + 0 = omega arith in
    let fits : Fits (itself p answers s) begun = record { counts = record { next = plain; within = omega arith }; form = form } in
    by (changed_by p answers event begun) (changed-goes (itself p answers s) event begun fits).fits e
  where
    most : (u : State) → Fits (itself p answers s) u → u.forest.next ≤ s.forest.next + p.made
    most u fits = let next : u.forest.next ≡ s.forest.next + u.made = fits.counts.next in let within : u.made ≤ p.made = fits.counts.within in omega (arith, next, within)

    by : (x : Result State Refused) → Held (Fits (itself p answers s)) x → outcome (λ u. one_more (at_end p u)) x ≡ accepted t posted → t.forest.next ≤ s.forest.next + p.made
    by (Ok u) fits q =
        let is : one_more (at_end p u) ≡ t = cc q in
        subst (λ (x : State). x.forest.next ≤ s.forest.next + p.made) is (most u fits)
    by (Err refusal) fits q = cc q

pub event_laws : EventLaws
event_laws = record { one = event_goes; all = events_go; gives = event_gives }

-- Two states with one snapshot are the same but for numbers, so that an event makes the same of both; an adoption looks at what they share.
use Rattle.std.proofs.Common.{◌≡◌, ℕ, suc, ◌+◌, ◌*◌, ◌<◌, ◌^◌, List, map, Some, Result, Ok, Err, refl, sym, ap, ◌∙◌, subst, arith}
use Rattle.std.specs.Prelude.{◌≤◌}
use Rattle.xf_line.specs.declared.event.Event.{Event}
use Rattle.xf_form.specs.declared.fault.FormFault.{FormFault}
use Rattle.xf_form.specs.declared.loaded.Loaded.{Loaded}
use Rattle.xf_form.specs.Loading.{loaded_in}
use Rattle.xf_form.proofs.OrderLaw.{loaded_ordered}
use Rattle.xf_store.specs.declared.answers.Answer.{Answer}
use Rattle.xf_snap.specs.declared.snap.Snap.{Snap}
use Rattle.xf_def_machine.specs.Profile.{Profile}
use Rattle.xf_def_machine.specs.Program.{Program}
use Rattle.xf_def_machine.specs.State.{State}
use Rattle.xf_def_machine.specs.Step.{Posted, Outcome, accepted, refused, step}
use Rattle.xf_def_form.specs.Formed.{documents_in, program_in}
use Rattle.xf_def_sessions.specs.Alike.{AreAlike, EndAlike}
use Rattle.xf_def_sessions.specs.Sessions.{Machine, IsSessionState, snap_of}
use Rattle.xf_def_sessions.specs.Usual.{loaded_program, usual}
use Rattle.xf_def_sessions.proofs.FilledForms.{usual_filled}
use Rattle.xf_def_sessions.proofs.StepCounts.{step-counts}
use Rattle.xf_law_sessions.specs.Outcome.Events.{AreSameFor, EndSame}
use Rattle.xf_law_sessions.specs.Outcome.Indexes.{IsNumbered}
use Rattle.xf_law_sessions.specs.Outcome.Same.{AreOneAtRest}
use Rattle.xf_law_sessions.specs.Outcome.Snapshot.{HaveSameSnapshot}
use Rattle.xf_law_sessions.proofs.OutcomeLemmas.Events.{event_laws}
use Rattle.xf_law_sessions.proofs.OutcomeLemmas.Same.{data_laws, same_data}
use Rattle.xf_law_sessions.proofs.OutcomeLemmas.Snapshot.{snapshot_laws}
use Rattle.xf_law_sessions.specs.Alike.Rested.{ReadsForms, EndsAtRest, AlikeByRest, AlikeLaws}

-- ---- snapshots

same-snapshot : (s t : State) → s.form ≡ t.form → snap_of s ≡ snap_of t → HaveSameSnapshot s t
unfolding snap_of
same-snapshot s t form q = record {
  form = form;
  trees = ap (λ (x : Snap). x.documents) q;
  indexes = ap (λ (x : Snap). x.indexes) q;
  cases = ap (λ (x : Snap). x.cases) q;
  accepted = ap (λ (x : Snap). x.accepted) q;
}

one-snapshot : (s t : State) → HaveSameSnapshot s t → snap_of s ≡ snap_of t
unfolding snap_of
one-snapshot s t h =
    ap {B = Snap} (λ l. record { accepted = s.accepted; documents = l; indexes = map (λ i. i.index) s.indexes; cases = s.cases }) h.trees
    ∙ ap {B = Snap} (λ l. record { accepted = s.accepted; documents = (snap_of t).documents; indexes = l; cases = s.cases }) h.indexes
    ∙ ap {B = Snap} (λ l. record { accepted = s.accepted; documents = (snap_of t).documents; indexes = map (λ i. i.index) t.indexes; cases = l }) h.cases
    ∙ ap {B = Snap} (λ n. record { accepted = n; documents = (snap_of t).documents; indexes = map (λ i. i.index) t.indexes; cases = t.cases }) h.accepted

-- ---- numbers

-- few events were accepted, so that there is room for those of one more
room-for : (next count made : ℕ) → next ≤ 2 ^ 34 * suc count → count < 2 ^ 62 → made ≤ 2 ^ 34 → next + made < 2 ^ 128
room-for next count made h l m = omega (arith, h, l, m)

room-after : (next before count made : ℕ) → before ≤ 2 ^ 34 * suc count → next ≤ before + made → made ≤ 2 ^ 34 → next ≤ 2 ^ 34 * suc (suc count)
room-after next before count made h l m = omega (arith, h, l, m)

module _ (m : Machine) (reads : ReadsForms m) (ends : EndsAtRest m) where
  abbrev p : Profile
  p = m.profile

  module _ (bytes : List ℕ) (s t : State) (form : m.form_in bytes ≡ Some s.form) (h : AreAlike p s t) where
    numbered : IsNumbered s.form
    numbered = reads.numbered bytes s.form form

    snapshot : HaveSameSnapshot s t
    snapshot = same-snapshot s t h.form h.snap

    one-at-rest : (made : ℕ) → made ≤ 2 ^ 34 → s.accepted < 2 ^ 62 → AreOneAtRest p made s t
    one-at-rest made few less = record {
      numbered = numbered;
      snapshot = snapshot;
      room = room-for s.forest.next s.accepted made h.one.room less few;
      other_room = room-for t.forest.next t.accepted made h.other.room (subst (λ n. n < 2 ^ 62) snapshot.accepted less) few;
      rest = h.one.rest;
      other_rest = h.other.rest;
    }

    -- an accepted event leaves a state of sessions
    session-state : (u v : State) (event : Event) (answers : List Answer) (posted : Posted) → m.form_in bytes ≡ Some u.form → IsSessionState p u
        → step p u event answers ≡ accepted v posted → IsSessionState p v
    session-state u v event answers posted f i e =
        let counts = step-counts p event answers u v posted (reads.filled bytes u.form f) e in
        let gives = event_laws.gives p event answers u v posted (reads.numbered bytes u.form f).of_form e in
        let count : suc u.accepted ≡ v.accepted = sym counts.count_stays in
        record {
          rest = ends.steps bytes event answers u v posted f i e;
          room = subst (λ n. v.forest.next ≤ 2 ^ 34 * suc n) count (room-after v.forest.next u.forest.next u.accepted p.made i.room gives reads.made);
        }

    form-too : m.form_in bytes ≡ Some t.form
    form-too = form ∙ ap Some h.form

    ends-alike : s.accepted < 2 ^ 62 → (event : Event) (answers : List Answer) → EndAlike p (step p s event answers) (step p t event answers)
    ends-alike less event answers =
        let plain : p.made ≡ p.made + 0 = omega arith in
        let same : AreSameFor (p.made + 0) s t = subst (λ n. AreSameFor n s t) plain (same_data p p.made s t (one-at-rest p.made reads.made less)) in
        by (step p s event answers) (step p t event answers) (event_laws.one p 0 event answers s t numbered.of_form same)
        (λ v posted e. session-state s v event answers posted form h.one e) (λ v posted e. session-state t v event answers posted form-too h.other e) refl refl
      where
        by : (x y : Outcome) → EndSame 0 x y → ((v : State) (posted : Posted) → x ≡ accepted v posted → IsSessionState p v) → ((v : State) (posted : Posted) → y ≡ accepted v posted → IsSessionState p v)
            → x ≡ x → y ≡ y → EndAlike p x y
        by (accepted u posted) (accepted v other) e one two i j =
            let same = snapshot_laws.stays u v e.0.same in
            (record { one = one u posted refl; other = two v other refl; form = same.form; snap = one-snapshot u v same }, e.1)
        by (refused why calls) (refused other_why other_calls) e one two i j = e
        by (accepted u posted) (refused why calls) e one two i j = absurd e
        by (refused why calls) (accepted v other) e one two i j = absurd e

alike_by_rest : AlikeByRest
alike_by_rest m reads ends = record {
  starts = ends.starts;
  steps = λ bytes s t form h less event answers. ends-alike m reads ends bytes s t form h less event answers;
  adopts = λ bytes form q s t h. data_laws.adopt m.profile form s t (same-snapshot s t h.form h.snap) h.one.rest h.other.rest;
  adopted_rests = ends.adopted;
}

-- ---- the forms of this processor

usual-numbered : (bytes : List ℕ) (form : Program) → usual.form_in bytes ≡ Some form → IsNumbered form
usual-numbered bytes form h = by (loaded_in bytes) refl h
  where
    numbered-of : (l : Loaded) → loaded_in bytes ≡ Ok l → IsNumbered (program_in l)
    numbered-of l e = record { of_form = record { form = l.form; bindings = l.prefixes; documents = documents_in l; is = refl }; ordered = loaded_ordered bytes l e }

    by : (r : Result Loaded FormFault) → loaded_in bytes ≡ r → loaded_program r ≡ Some form → IsNumbered form
    by (Ok l) e q = let same : program_in l ≡ form = cc q in subst IsNumbered same (numbered-of l e)
    by (Err fault) e q = cc q

usual_reads : ReadsForms usual
usual_reads = record { numbered = usual-numbered; filled = usual_filled; made = omega arith }

pub alike_laws : AlikeLaws
alike_laws = record { by_rest = alike_by_rest; usual_reads = usual_reads }

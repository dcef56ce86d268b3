-- What a form at work makes of an event that is pending then, and how that is kept or taken back.
use Rattle.std.proofs.Common.{ℕ, ◌≡◌, ◌≤◌, ◌++◌, ◌&&◌, Bool, true, false, cond, length, Result, List, [], ◌∷◌, Option, Some, None, Ok, Err, refl, sym, ap, subst, ◌∙◌}
use Rattle.std.specs.Prelude.{IfOk, IsSome, IsTrue}
use Rattle.std.specs.List.{list_all}
use Rattle.std.proofs.lemmas.Bool.{le-leb}
use Rattle.xf_base.specs.Limits.{answer_limit}
use Rattle.xf_def_forest.specs.declared.content.Node.{Node}
use Rattle.xf_def_forest.specs.Changes.{in_instances, is_detached_top}
use Rattle.xf_store.specs.declared.answers.Answer.{Answer}
use Rattle.xf_store.specs.declared.call.StoreCall.{StoreCall}
use Rattle.xf_store.specs.Replay.{Covers}
use Rattle.xf_store.specs.Called.{Called, Told}
use Rattle.xf_store.specs.Replies.{is_short}
use Rattle.xf_journal.specs.Entry.{is_within}
use Rattle.xf_line.specs.declared.event.Event.{Event}
use Rattle.xf_def_machine.specs.Refusal.{Refused}
use Rattle.xf_def_machine.specs.Replies.{answers_in, note_lines}
use Rattle.xf_def_machine.specs.State.{State}
use Rattle.xf_def_machine.specs.Start.{readied}
use Rattle.xf_def_machine.specs.Step.{Outcome, accepted, outcome, posted, at_end, fresh, one_more, step, changed_by}
use Rattle.xf_def_form.specs.Formed.{profile}
use Rattle.xf_actions.specs.declared.fault.EventFault.{EventFault}
use Rattle.xf_actions.specs.declared.fault.EventFault.TheVariants as fault
use Rattle.xf_actions.specs.Fault.{means}
use Rattle.xf_actions.specs.Performs.{Refuses}
use Rattle.xf_session.specs.Processing.{IsRefusedAfter, Posts, Starts, kept_after}
use Rattle.xf_engine.specs.Handled.{HandlesOver}
use Rattle.xf_engine.specs.Running.{AtWork, IsAtRest, calls_in, kept_in, shown_in}
use Rattle.xf_engine.proofs.EngineLaws.{accepted-as, refused-outcome}
use Rattle.xf_engine.proofs.Told.{refused-for}

-- ---- at rest

whole-twice : (nodes : List Node) → in_instances (in_instances nodes) ≡ in_instances nodes
whole-twice [] = refl
whole-twice (x ∷ xs) = by (is_detached_top x) refl (whole-twice xs)
  where
    by : (b : Bool) → is_detached_top x ≡ b → in_instances (in_instances xs) ≡ in_instances xs → in_instances (cond b [] (x ∷ in_instances xs)) ≡ cond b [] (x ∷ in_instances xs)
    by true e h = refl
    by false e h = ap (λ b. cond b [] (x ∷ in_instances (in_instances xs))) e ∙ ap (λ l. x ∷ l) h

ended-twice : (s : State) → at_end profile (at_end profile s) ≡ at_end profile s
ended-twice s = ap (λ nodes. fresh profile (record s { forest = record s.forest { nodes = nodes } })) (whole-twice s.forest.nodes)

-- what is kept at the end of an event
pub rests : (mid after kept : State) → after ≡ at_end profile mid → kept ≡ after → IsAtRest after kept
rests mid after kept now k = record { whole = ap (at_end profile) now ∙ ended-twice mid ∙ sym now; stands = k }

-- nothing is pending
pub not-pending : (b : Bool) (kept : State) → kept_in b kept ≡ None → b ≡ false
not-pending true kept e = cc
not-pending false kept e = refl

pub is-pending : (b : Bool) (kept : State) → IsSome (kept_in b kept) → b ≡ true
is-pending true kept e = refl
is-pending false kept e = absurd (let never : false ≡ true = e in cc)

-- ---- what contracts see of it

module _ {W : Type 0} (kept : W → State) (v : AtWork W) (b : Bool) (w : W) (view : record { world = w; is_pending = b } ≡ v) where
  pub idle-seen : kept_in v.is_pending (kept v.world) ≡ None → kept_in b (kept w) ≡ None
  idle-seen h = subst (λ (u : AtWork W). kept_in u.is_pending (kept u.world) ≡ None) (sym view) h

  pub some-seen : IsSome (kept_in v.is_pending (kept v.world)) → IsSome (kept_in b (kept w))
  some-seen h = subst (λ (u : AtWork W). IsSome (kept_in u.is_pending (kept u.world))) (sym view) h

-- ---- an event

abbrev pub IsCovered : State → Type 0
IsCovered s = Covers (answers_in s.calls) s.calls

-- what the machine does over these
abbrev pub changed_over : Event → State → List Answer → Result State Refused
changed_over event s answers = changed_by profile answers event s

-- nothing is left of the event before
clean : (before : State) → at_end profile before ≡ before → fresh profile before ≡ before
clean before e = ap (fresh profile) (sym e) ∙ e

-- the event begins with a whole budget
step-is : (before : State) (event : Event) (answers : List Answer) → at_end profile before ≡ before
    → step profile before event answers ≡ outcome (λ t. one_more (at_end profile t)) (changed_by profile answers event before)
step-is before event answers e = ap (λ t. outcome (λ t. one_more (at_end profile t)) (changed_by profile answers event t)) (clean before e)

-- and without a call of the store
called-anew : (before : State) (first last : Told) (made : List StoreCall) → at_end profile before ≡ before → Called first last before.calls made → Called first last [] made
called-anew before first last made e called = subst (λ calls. Called first last calls made) (sym (ap (λ (s : State). s.calls) e)) called

posts-whole : (before mid : State) (event : Event) (count : ℕ) (first last : Told) (old new : List ℕ) → at_end profile before ≡ before
    → Called first last before.calls mid.calls → IsCovered mid → HandlesOver (Ok count) mid old new (changed_over event before)
    → Posts (Ok tt) before (at_end profile mid) mid.calls first last old new (step profile before event)
posts-whole before mid event count first last old new whole called covered h = record {
  made = mid.calls;
  called = called-anew before first last mid.calls whole called;
  own = covered;
  pending = λ e. refl;
  is = λ answers c.
      let a = accepted-as (changed_by profile answers event before) mid count old new (h answers c) in
      (a.0, record { is = step-is before event answers whole ∙ a.1.is; calls = a.1.calls }, a.2);
}

unposts-whole : (before mid after : State) (event : Event) (e : EventFault) (first last : Told) (old new : List ℕ) → at_end profile before ≡ before
    → Called first last before.calls mid.calls → IsCovered mid → HandlesOver (Err e) mid old new (changed_over event before) → after ≡ before
    → Posts (Err e) before after [] first last old new (step profile before event)
unposts-whole before mid after event (fault.Refused refusal) first last old new whole called covered h same = record {
  made = mid.calls;
  called = called-anew before first last mid.calls whole called;
  own = covered;
  pending = λ e. absurd (cc);
  is = λ answers c. (
    subst (λ (o : Outcome). IsRefusedAfter refusal mid.calls o) (sym (step-is before event answers whole))
        (refused-outcome refusal mid.calls (λ t. one_more (at_end profile t)) (changed_by profile answers event before) (h answers c)),
    same,
  );
}
unposts-whole before mid after event fault.Memory first last old new whole called covered h same = record {
  made = mid.calls;
  called = called-anew before first last mid.calls whole called;
  own = covered;
  pending = λ e. absurd (cc);
  is = λ answers c. same;
}

-- ---- the same where none was pending

module _ (b : Bool) (before kept : State) (idle : kept_in b kept ≡ None) (rest : b ≡ false → IsAtRest before kept) where
  no : b ≡ false
  no = not-pending b kept idle

  at_rest : IsAtRest before kept
  at_rest = rest no

  pub posts : (mid : State) (event : Event) (count : ℕ) (first last : Told) (old new : List ℕ)
      → Called first last before.calls mid.calls → IsCovered mid → HandlesOver (Ok count) mid old new (changed_over event before)
      → Posts (Ok tt) (shown_in b before) (shown_in true mid) (calls_in true mid) first last old new (step profile (shown_in b before) event)
  posts mid event count first last old new called covered h =
      subst (λ c. Posts (Ok tt) (shown_in c before) (shown_in true mid) (calls_in true mid) first last old new (step profile (shown_in c before) event)) (sym no)
      (posts-whole before mid event count first last old new at_rest.whole called covered h)

  pub given-back : (mid-kept : State) → mid-kept ≡ kept → kept_in true mid-kept ≡ kept_after (Ok tt) (shown_in b before)
  given-back mid-kept k =
      ap (λ s. Some (at_end profile s)) (k ∙ at_rest.stands) ∙ ap (λ s. Some s) at_rest.whole ∙ ap (λ c. Some (shown_in c before)) (sym no)

  pub unposts : (mid mid-kept after : State) (event : Event) (e : EventFault) (first last : Told) (old new : List ℕ)
      → Called first last before.calls mid.calls → IsCovered mid → HandlesOver (Err e) mid old new (changed_over event before) → mid-kept ≡ kept → after ≡ mid-kept
      → Posts (Err e) (shown_in b before) (shown_in b after) (calls_in b after) first last old new (step profile (shown_in b before) event)
  unposts mid mid-kept after event e first last old new called covered h k now =
      subst (λ c. Posts (Err e) (shown_in c before) (shown_in c after) (calls_in c after) first last old new (step profile (shown_in c before) event)) (sym no)
      (unposts-whole before mid after event e first last old new at_rest.whole called covered h (now ∙ k ∙ at_rest.stands))

  pub none-given : (after-kept : State) → kept_in b after-kept ≡ None
  none-given after-kept = ap (λ c. kept_in c after-kept) no

  -- what is shown is what stands
  pub shown-so : shown_in b before ≡ before
  shown-so = ap (λ c. shown_in c before) no

-- ---- what is pending

-- what was kept stands again, and is kept
pub taken-back : (b : Bool) (kept mid after : State) → IsSome (kept_in b kept) → mid ≡ kept → after ≡ at_end profile mid → kept_in b kept ≡ Some (shown_in false after)
taken-back b kept mid after some e now =
    ap (λ c. kept_in c kept) (is-pending b kept some) ∙ ap (λ s. Some (at_end profile s)) (sym e) ∙ ap (λ s. Some s) (sym now)

pub calls-so : (b : Bool) (before kept : State) → IsSome (kept_in b kept) → before.calls ≡ calls_in b before
calls-so b before kept some = ap (λ c. calls_in c before) (sym (is-pending b kept some))

-- few answers, of which none is long, may stand in an entry of a journal
pub is-within : (answers : List Answer) → length answers ≤ answer_limit → IsTrue (list_all is_short answers) → IsTrue (is_within [] answers)
is-within answers few short = ap (λ b. b && list_all is_short answers) (le-leb (length answers) answer_limit few) ∙ short

pub are-within : {E : Type 0} (r : Result (List Answer) E) (calls : List StoreCall) → IfOk r (λ answers. answers ≡ answers_in calls) → length (answers_in calls) ≤ answer_limit
    → IsTrue (list_all is_short (answers_in calls)) → IfOk r (λ answers. IsTrue (is_within [] answers))
are-within (Ok answers) calls h few short = subst (λ a. IsTrue (is_within [] a)) (sym h) (is-within (answers_in calls) few short)
are-within (Err e) calls h few short = tt

-- ---- the start

module _ {R : Type 0} (state : R → State) (kept : R → Option State) (calls : R → List StoreCall) (before mid : State) where
  pub started-pending : (r : R) (told last : Told) (old new : List ℕ) (given : State) → state r ≡ shown_in true mid → kept r ≡ kept_in true given → calls r ≡ calls_in true mid
      → Called told last [] mid.calls → IsCovered mid → ((answers : List Answer) → Covers answers mid.calls → readied profile answers before ≡ Ok mid)
      → new ≡ old ++ note_lines mid.notes → Starts state kept calls (Ok r) before told last old new
  started-pending r told last old new given s k m called covered e w = record {
    made = mid.calls;
    called = called;
    own = covered;
    pending = (subst IsSome (sym k) refl, m);
    is = λ answers c. (
      posted mid,
      record { is = ap (outcome (at_end profile)) (e answers c) ∙ ap (λ x. accepted x (posted mid)) (sym s); calls = refl },
      w,
    );
  }

  pub not-started : (e : EventFault) (told last : Told) (old new : List ℕ) → Called told last [] mid.calls → IsCovered mid
      → ((answers : List Answer) → Covers answers mid.calls → Refuses (means e) mid.calls (readied profile answers before))
      → Starts state kept calls (Err e) before told last old new
  not-started (fault.Refused refusal) told last old new called covered h = record {
    made = mid.calls;
    called = called;
    own = covered;
    pending = tt;
    is = λ answers c.
        refused-outcome refusal mid.calls (at_end profile) (readied profile answers before) (refused-for refusal mid.calls (readied profile answers before) (h answers c));
  }
  not-started fault.Memory told last old new called covered h =
      record { made = mid.calls; called = called; own = covered; pending = tt; is = λ answers c. tt }

-- a form at work over this world, of which an event is pending
module _ {W : Type 0} (state kept : W → State) (before : State) (r : AtWork W) (w : W) (same : r.world ≡ w) (on : r.is_pending ≡ true) where
  shown-same : shown_in r.is_pending (state r.world) ≡ shown_in true (state w)
  shown-same = ap (λ b. shown_in b (state r.world)) on ∙ ap (λ x. shown_in true (state x)) same

  kept-same : kept_in r.is_pending (kept r.world) ≡ kept_in true (kept w)
  kept-same = ap (λ b. kept_in b (kept r.world)) on ∙ ap (λ x. kept_in true (kept x)) same

  calls-same : calls_in r.is_pending (state r.world) ≡ calls_in true (state w)
  calls-same = ap (λ b. calls_in b (state r.world)) on ∙ ap (λ x. calls_in true (state x)) same

  pub started-so : (told last : Told) (old new : List ℕ) → Called told last [] (state w).calls → IsCovered (state w)
      → ((answers : List Answer) → Covers answers (state w).calls → readied profile answers before ≡ Ok (state w)) → new ≡ old ++ note_lines (state w).notes
      → Starts (λ (q : AtWork W). shown_in q.is_pending (state q.world)) (λ q. kept_in q.is_pending (kept q.world)) (λ q. calls_in q.is_pending (state q.world)) (Ok r) before told last old new
  started-so told last old new called covered e lines =
      started-pending (λ (q : AtWork W). shown_in q.is_pending (state q.world)) (λ q. kept_in q.is_pending (kept q.world)) (λ q. calls_in q.is_pending (state q.world))
      before (state w) r told last old new (kept w) shown-same kept-same calls-same called covered e lines

-- A default action is what it changes, then its events told one after the other, then the end of a submission.
use Rattle.std.proofs.Common.{ℕ, ◌≡◌, List, [], ◌∷◌, length, nat_le, Bool, true, false, Option, Some, None, Result, Ok, Err, refl, ap, sym, ◌∙◌, codes, bytes_eq, slice_get, if◌then◌else◌}
use Rattle.std.specs.Str.{is_utf8}
use Rattle.xf_name.specs.declared.lit.Lit.{Lit}
use Rattle.xf_json.specs.declared.fault.JsonFault.{JsonFault}
use Rattle.xf_json.specs.Element.{lit_in}
use Rattle.xf_store.specs.declared.answers.Answer.{Answer}
use Rattle.xf_store.specs.declared.answers.Answer.TheVariants.{PutDone, Failed, Found, Absent, TooLong}
use Rattle.xf_store.specs.declared.call.Asked.{Asked}
use Rattle.xf_def_syntax.specs.declared.form.Replace.{Replace}
use Rattle.xf_def_syntax.specs.declared.form.Replace.TheVariants as instead
use Rattle.xf_def_syntax.specs.declared.form.Submission.{Submission}
use Rattle.xf_def_model.specs.Submitted.{Submitted, left, no_data, invalid}
use Rattle.xf_def_model.specs.Submitted as model
use Rattle.xf_def_forest.specs.Plant.{contents_of}
use Rattle.xf_store.specs.Replay.{fits, answer_at}
use Rattle.xf_def_machine.specs.declared.note.Note.TheVariants as note
use Rattle.xf_def_machine.specs.Primitives.{set_text, add_note}
use Rattle.xf_def_machine.specs.Properties.{relevant_in, valid_in}
use Rattle.xf_def_machine.specs.Construct.{replace}
use Rattle.xf_def_machine.specs.Program.{Role, role_at}
use Rattle.xf_def_machine.specs.Program as role
use Rattle.xf_def_machine.specs.Profile.{Profile}
use Rattle.xf_def_machine.specs.State.{State}
use Rattle.xf_def_machine.specs.Refusal.{Refused, or_long}
use Rattle.xf_def_machine.specs.Flow.{Run, ◌>>=◌, where_some, in_turn, when}
use Rattle.xf_def_machine.specs.Surround.{scope, model_holding}
use Rattle.xf_def_machine.specs.Behave.{rebuild, recalculate, revalidate}
use Rattle.xf_def_machine.specs.Update.{reindex, due_revalidation, refresh_cleared}
use Rattle.xf_def_machine.specs.Events.{Fired, Tell}
use Rattle.xf_def_machine.specs.Submit as submit
use Rattle.xf_def_machine.specs.Exchange as exchange
use Rattle.xf_def_machine.specs.Default as default
use Rattle.xf_actions.specs.Told.{Telling, told, untold}
use Rattle.xf_actions.specs.Sent.{End, done, failed, Sent, end_event, then_done, behaved, put_tree, put_text, on_target, with_tree, with_text, responded, answered, exchanged, selected, attempted, sent, told_sent}
use Rattle.xf_actions.specs.Defaulted.{Defaulted, nothing, telling, with_end, concluded, refreshed_now, of_model, of_role, submitted, defaulted}
use Rattle.xf_actions.proofs.Flow.{bind-assoc, then-same, then-ok}
use Rattle.xf_actions.proofs.Telling.{untold-told, where-told, one-told, refresh-told}

-- ---- choices

abbrev if-told : {A B : Type 0} (b : Bool) (x y : Result A Refused) (v w : Result B Refused) (end : B → Result A Refused)
    → x ≡ v >>= end → y ≡ w >>= end → (if b then x else y) ≡ (if b then v else w) >>= end
if-told true x y v w end first second = first
if-told false x y v w end first second = second

-- ---- a submission, up to the event that tells how it ended

abbrev ending : End → State → submit.Ended
ending done t = submit.done t
ending (failed error) t = submit.failed error t

abbrev told_then : Tell → Sent → submit.Sending
told_then tell w = in_turn tell w.events w.state >>= λ t. Ok (ending w.end t)

is_then : (g : Result State Refused) → submit.then_done g ≡ g >>= (λ t. Ok (submit.done t))
is_then (Err refusal) = refl
is_then (Ok t) = refl

done-told : (tell : Tell) (r : Result State Refused) (w : Result (List Fired × State) Refused)
    → r ≡ w >>= told tell → submit.then_done r ≡ then_done w >>= told_then tell
done-told tell r (Err refusal) e = ap submit.then_done e
done-told tell r (Ok (events, s)) e = ap submit.then_done e ∙ is_then (in_turn tell events s)

behaved-told : (p : Profile) (tell : Tell) (model : ℕ) (s : State) → submit.behave_all p tell model s ≡ behaved p model s >>= told tell
behaved-told p tell model s =
    then-same (rebuild p model s >>= recalculate p model) _ _ (λ t. refresh-told p (refresh_cleared model) tell (revalidate p model t))
    ∙ sym (bind-assoc (rebuild p model s >>= recalculate p model) _ (told tell))

put_tree-told : (p : Profile) (tell : Tell) (lit : Lit) (n : ℕ) (s : State) → submit.put_tree p tell lit n s ≡ put_tree p lit n s >>= told tell
put_tree-told p tell lit n s =
    let put = replace p n (contents_of s.form.bindings lit 0 0) s >>= reindex p [] in
    then-same put _ _ (λ t. where-told tell (submit.behave_all p tell) (behaved p) (model_holding s n) t (behaved-told p tell))
    ∙ sym (bind-assoc put _ (told tell))

put_text-told : (p : Profile) (tell : Tell) (text : List ℕ) (n : ℕ) (s : State)
    → submit.put_text p tell text n s ≡ put_text p text n s >>= told tell
put_text-told p tell text n s =
    then-same (set_text p n text s) _ _ (λ t. where-told tell (submit.behave_all p tell) (behaved p) (model_holding s n) t (behaved-told p tell))
    ∙ sym (bind-assoc (set_text p n text s) _ (told tell))

on_target-told : (tell : Tell) (takes : State → ℕ → Bool) (put : ℕ → Run) (puts : ℕ → Telling) (target : Option ℕ) (s : State)
    → ((n : ℕ) (t : State) → put n t ≡ puts n t >>= told tell) → submit.on_target takes put target s ≡ on_target takes puts target s >>= told_then tell
on_target-told tell takes put puts None s e = refl
on_target-told tell takes put puts (Some n) s e = if-told (takes s n) _ _ _ _ (told_then tell) (done-told tell _ _ (e n s)) refl

with_tree-told : (p : Profile) (tell : Tell) (sub : Submission) (n : ℕ) (lit : Result Lit JsonFault) (s : State)
    → submit.with_tree p tell sub n s lit ≡ with_tree p sub n lit s >>= told_then tell
with_tree-told p tell sub n (Err fault) s = refl
with_tree-told p tell sub n (Ok lit) s =
    if-told (submit.has_fault s lit) _ _ _ _ (told_then tell) refl
    (then-same (submit.target_by p sub n s sub.target sub.instance) _ _
    (λ target. on_target-told tell submit.takes_tree (submit.put_tree p tell lit) (put_tree p lit) target s (put_tree-told p tell lit))
    ∙ sym (bind-assoc (submit.target_by p sub n s sub.target sub.instance) _ (told_then tell)))

with_text-told : (p : Profile) (tell : Tell) (sub : Submission) (n : ℕ) (bytes : List ℕ) (s : State)
    → submit.with_text p tell sub n s bytes ≡ with_text p sub n bytes s >>= told_then tell
with_text-told p tell sub n bytes s =
    if-told (is_utf8 bytes) _ _ _ _ (told_then tell)
    (then-same (submit.target_by p sub n s sub.target sub.instance) _ _
    (λ target. on_target-told tell submit.takes_text (submit.put_text p tell bytes) (put_text p bytes) target s (put_text-told p tell bytes))
    ∙ sym (bind-assoc (submit.target_by p sub n s sub.target sub.instance) _ (told_then tell)))
    refl

responded-told : (p : Profile) (tell : Tell) (sub : Submission) (n : ℕ) (bytes : List ℕ) (how : Replace) (s : State)
    → submit.respond p tell sub n s bytes how ≡ responded p sub n bytes how s >>= told_then tell
responded-told p tell sub n bytes instead.All s =
    let noted = add_note p (note.All sub.resource (length bytes)) s in done-told tell noted (untold noted) (untold-told tell noted)
responded-told p tell sub n bytes instead.Nothing s = refl
responded-told p tell sub n [] instead.Instance s = refl
responded-told p tell sub n [] instead.Text s = refl
responded-told p tell sub n (b ∷ bs) instead.Instance s = with_tree-told p tell sub n (lit_in (b ∷ bs)) s
responded-told p tell sub n (b ∷ bs) instead.Text s = with_text-told p tell sub n (b ∷ bs) s

answered-told : (p : Profile) (tell : Tell) (sub : Submission) (n : ℕ) (answer : Answer) (s : State)
    → submit.answered p tell sub n s answer ≡ answered p sub n answer s >>= told_then tell
answered-told p tell sub n PutDone s = responded-told p tell sub n [] sub.replace s
answered-told p tell sub n (Found bytes) s = responded-told p tell sub n bytes sub.replace s
answered-told p tell sub n Failed s = refl
answered-told p tell sub n Absent s = refl
answered-told p tell sub n TooLong s = refl

exchanged-told : (p : Profile) (answers : List Answer) (tell : Tell) (sub : Submission) (n : ℕ) (asked : Asked) (s : State)
    → exchange.exchange p answers tell sub n asked s ≡ exchanged p answers sub n asked s >>= told_then tell
exchanged-told p answers tell sub n asked s =
    let asking = exchange.unless_many (nat_le p.sends (length s.calls)) s in
    then-same asking _ _
    (λ t. answered-told p tell sub n (answer_at (fits asked) answers (length t.calls)) (exchange.with_call sub.resource asked (answer_at (fits asked) answers (length t.calls)) t))
    ∙ sym (bind-assoc asking _ (told_then tell))

selected-told : (p : Profile) (answers : List Answer) (tell : Tell) (sub : Submission) (found : Submitted) (s : State)
    → exchange.selected p answers tell sub s found ≡ selected p answers sub found s >>= told_then tell
selected-told p answers tell sub no_data s = refl
selected-told p answers tell sub (invalid n) s = refl
selected-told p answers tell sub (left n kept) s =
    if-told (exchange.is_store_name sub.resource) _ _ _ _ (told_then tell) (exchanged-told p answers tell sub n _ s) refl

attempted-told : (p : Profile) (answers : List Answer) (tell : Tell) (sub : Submission) (s : State)
    → exchange.attempt p answers tell sub s ≡ attempted p answers sub s >>= told_then tell
attempted-told p answers tell sub s =
    let found = or_long s (model.submitted (Some p.bounds.string) (scope p s sub.model) (relevant_in s) (valid_in s) s.forest.nodes sub) in
    then-same found _ _ (λ f. selected-told p answers tell sub f s) ∙ sym (bind-assoc found _ (told_then tell))

end-told : (tell : Tell) (k : ℕ) (sub : Submission) (end : End) (t : State)
    → exchange.told_end tell k sub (ending end t) ≡ tell (end_event k sub end t) t
end-told tell k sub done t = refl
end-told tell k sub (failed error) t = refl

sent_then-told : (tell : Tell) (k : ℕ) (sub : Submission) (w : Sent)
    → told_then tell w >>= exchange.told_end tell k sub ≡ told_sent tell k sub w
sent_then-told tell k sub w =
    bind-assoc (in_turn tell w.events w.state) _ _ ∙ then-same (in_turn tell w.events w.state) _ _ (end-told tell k sub w.end)

attempt_then-told : (p : Profile) (answers : List Answer) (tell : Tell) (k : ℕ) (sub : Submission) (s : State)
    → exchange.attempt p answers tell sub s >>= exchange.told_end tell k sub ≡ attempted p answers sub s >>= told_sent tell k sub
attempt_then-told p answers tell k sub s =
    ap (λ r. r >>= exchange.told_end tell k sub) (attempted-told p answers tell sub s)
    ∙ bind-assoc (attempted p answers sub s) _ _ ∙ then-same (attempted p answers sub s) _ _ (sent_then-told tell k sub)

sent-told : (p : Profile) (answers : List Answer) (tell : Tell) (k : ℕ) (sub : Submission) (s : State)
    → exchange.submit_by p answers tell k sub s ≡ sent p answers sub s >>= told_sent tell k sub
sent-told p answers tell k sub s =
    bind-assoc (due_revalidation p sub.model s) _ _
    ∙ then-same (due_revalidation p sub.model s) _ _ (attempt_then-told p answers tell k sub)
    ∙ sym (bind-assoc (due_revalidation p sub.model s) _ _)

-- ---- default actions

telling-told : (tell : Tell) (r : Result State Refused) (w : Result (List Fired × State) Refused)
    → r ≡ w >>= told tell → r ≡ telling w >>= concluded tell
telling-told tell r (Err refusal) e = e
telling-told tell r (Ok (events, s)) e = e ∙ sym (then-ok (in_turn tell events s))

with_end-told : (tell : Tell) (k : ℕ) (sub : Submission) (w : Result Sent Refused)
    → w >>= told_sent tell k sub ≡ with_end k (Some sub) w >>= concluded tell
with_end-told tell k sub (Err refusal) = refl
with_end-told tell k sub (Ok w) = refl

submitted-told : (p : Profile) (answers : List Answer) (tell : Tell) (k : ℕ) (o : Option Submission) (s : State)
    → where_some o (exchange.submit_by p answers tell k) s ≡ submitted p answers k o s >>= concluded tell
submitted-told p answers tell k None s = refl
submitted-told p answers tell k (Some sub) s = sent-told p answers tell k sub s ∙ with_end-told tell k sub (sent p answers sub s)

when-told : (tell : Tell) (b : Bool) (run : Run) (w : Result Defaulted Refused) (s : State)
    → run s ≡ w >>= concluded tell → when b run s ≡ (if b then w else nothing s) >>= concluded tell
when-told tell true run w s e = e
when-told tell false run w s e = refl

run_if-told : (tell : Tell) (b : Bool) (run other : Run) (v w : Result Defaulted Refused) (s : State)
    → run s ≡ v >>= concluded tell → other s ≡ w >>= concluded tell → (if b then run else other) s ≡ (if b then v else w) >>= concluded tell
run_if-told tell true run other v w s first second = first
run_if-told tell false run other v w s first second = second

quiet-told : (tell : Tell) (r : Result State Refused) → r ≡ telling (untold r) >>= concluded tell
quiet-told tell r = telling-told tell r (untold r) (untold-told tell r)

refreshed_now-told : (p : Profile) (tell : Tell) (k : ℕ) (s : State) → default.refresh_now p tell k s ≡ refreshed_now p k s >>= told tell
refreshed_now-told p tell k s =
    then-same (due_revalidation p k s) _ _ (λ t. refresh-told p (refresh_cleared k) tell t) ∙ sym (bind-assoc (due_revalidation p k s) _ (told tell))

of_model-told : (p : Profile) (tell : Tell) (k : ℕ) (name : List ℕ) (s : State)
    → default.of_model p tell k name s ≡ of_model p k name s >>= concluded tell
of_model-told p tell k name s =
    run_if-told tell (bytes_eq name (codes "xforms-rebuild")) _ _ _ _ s (quiet-told tell _)
    (run_if-told tell (bytes_eq name (codes "xforms-recalculate")) _ _ _ _ s (quiet-told tell _)
    (run_if-told tell (bytes_eq name (codes "xforms-revalidate")) _ _ _ _ s (quiet-told tell _)
    (run_if-told tell (bytes_eq name (codes "xforms-refresh")) _ _ _ _ s (telling-told tell _ _ (refreshed_now-told p tell k s))
    (run_if-told tell (bytes_eq name (codes "xforms-reset")) _ _ _ _ s (quiet-told tell _) refl))))

of_role-told : (p : Profile) (answers : List Answer) (tell : Tell) (name : List ℕ) (r : Role) (s : State)
    → default.of_role p answers tell name r s ≡ of_role p answers name r s >>= concluded tell
of_role-told p answers tell name (role.model k) s = of_model-told p tell k name s
of_role-told p answers tell name (role.submission k) s =
    when-told tell (bytes_eq name (codes "xforms-submit")) _ _ s (submitted-told p answers tell k (slice_get s.form.submissions k) s)
of_role-told p answers tell name (role.submit target) s =
    when-told tell (bytes_eq name (codes "DOMActivate")) _ _ s
    (telling-told tell _ _ (where-told tell _ _ target s (λ k t. one-told tell _ t)))
of_role-told p answers tell name (role.action a) s = refl
of_role-told p answers tell name role.entry s = refl
of_role-told p answers tell name role.trigger s = refl
of_role-told p answers tell name role.other s = refl

pub default-told : (p : Profile) (answers : List Answer) (tell : Tell) (e : Fired) (s : State) → default.default p answers tell e s ≡ defaulted p answers e s >>= concluded tell
default-told p answers tell e s = of_role-told p answers tell e.event.name (role_at s.form e.event.target) s

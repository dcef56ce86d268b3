-- What is written for a line, by what it asks for.
use Rattle.std.proofs.Common.{ℕ, ◌≡◌, ◌≤◌, Bool, true, false, List, [], ◌∷◌, ◌++◌, map, length, nat_lt, codes, Result, Ok, Err, refl, ap, sym, ◌∙◌, subst, lit<, arith, ◌<◌, ◌⊎◌, inl, inr, if◌then◌else◌}
use Rattle.std.specs.Prelude.{Contains, IfOk, OnErr, String, string_bytes}
use Rattle.std.specs.declared.alloc.AllocError.{AllocError}
use Rattle.std.specs.declared.alloc.Global.{Global}
use Rattle.std.specs.List.{list_all}
use Rattle.std.proofs.lemmas.Bool.{le-ltb}
use Rattle.std.proofs.lemmas.List.{length-map, get_or-map}
use Rattle.xf_base.specs.Limits.{line_limit}
use Rattle.xf_line.specs.declared.event.Asked.{Asked}
use Rattle.xf_line.specs.declared.event.Asked.TheVariants as asked
use Rattle.xf_line.specs.declared.event.Event.{Event}
use Rattle.xf_line.specs.declared.fault.LineFault.{LineFault}
use Rattle.xf_line.specs.Line.{asked_by}
use Rattle.xf_store.specs.declared.answers.Answer.{Answer}
use Rattle.xf_store.specs.declared.call.StoreCall.{StoreCall}
use Rattle.xf_store.specs.Called.{Told}
use Rattle.xf_store.proofs.CalledLaws.{called-none}
use Rattle.xf_def_machine.specs.State.{State}
use Rattle.xf_def_machine.specs.Refusal as machine
use Rattle.xf_def_machine.specs.FormReplies.{form_texts, construct_texts, ready_text}
use Rattle.xf_def_machine.specs.StateText.{line_of}
use Rattle.xf_def_machine.specs.Step.{Outcome, accepted, refused, Posted, step}
use Rattle.xf_def_machine.specs.Replies.{Reply, without_event, note_lines, ok_text, limit_text, refusal_texts, reply, reply_outcome, reply_read, is_blank, answers_in}
use Rattle.xf_def_machine.specs.declared.refusal.Refusal.{Refusal}
use Rattle.xf_def_machine.specs.declared.refusal.Refusal.TheVariants as told
use Rattle.xf_def_machine.specs.Told.{Tells}
use Rattle.xf_report.specs.Refusals.{refusal_text, construct_text}
use Rattle.xf_def_machine.specs.Told as meaning
use Rattle.xf_report.proofs.AnswerLaws.{tells-text}
use Rattle.xf_def_machine.specs.ControlText.{state_text}
use Rattle.xf_actions.specs.declared.fault.EventFault.{EventFault}
use Rattle.xf_actions.specs.declared.fault.EventFault.TheVariants.{Refused, Memory}
use Rattle.xf_def_form.specs.Formed.{profile}
use Rattle.xf_session.specs.Constructing.{is_of_form, IsNotConstructed}
use Rattle.xf_session.specs.Processing.{IsRefusedAfter, IsAccepted, IsStarted, StartsAlone, started}
use Rattle.xf_cli_commands.specs.Outside.{IsCalled, stored_of}
use Rattle.xf_cli_commands.specs.Finish.{IsSaid}
use Rattle.xf_cli_commands.specs.Forms.{IsStartRefused, RefusesWith, StartsSo}
use Rattle.xf_cli_commands.specs.Replies.{Gives, IsReplied, IsReply}

pub only : {X : Type 0} (x : X) → Contains (x ∷ []) x
only x = (0, lit< tt, refl)

contains-map : {X Y : Type 0} (f : X → Y) (xs : List X) (x : X) → Contains xs x → Contains (map f xs) (f x)
contains-map f xs x h =
    let within : h.0 < length (map f xs) = omega (arith, h.1, length-map xs f) in
    (h.0, within, get_or-map f xs h.0 x (f x) h.1 ∙ ap f h.2)

-- the line of a refusal that is told
pub contains_line : (r : Refusal) (w : machine.Refusal) → Tells r w → Contains (map line_of (refusal_texts w)) (line_of (refusal_text r))
contains_line r w t = contains-map line_of (refusal_texts w) (refusal_text r) (tells-text r w t)

-- ---- by its length, and whether it is blank

abbrev by_tests : State → Bool → Bool → Reply → Reply
by_tests s long blank r = if long then without_event s (codes "no E1 LineTooLong\n" ∷ []) else if blank then without_event s ([] ∷ []) else r

-- one that is not too long
by-length : (s : State) (answers : List Answer) (line : List ℕ) → length line ≤ line_limit
    → reply profile true s answers line ≡ by_tests s false (list_all is_blank line) (reply_read profile true s answers (asked_by line))
by-length s answers line h =
    ap (λ l. by_tests s l (list_all is_blank line) (reply_read profile true s answers (asked_by line))) (le-ltb line_limit (length line) h)

-- without a call of the store
pub quiet_reply : (s : State) (told : Told) (given : List Answer → Reply) (text : List ℕ) → Gives (given []) text s [] → IsReplied given told told text s
quiet_reply s told given text h = record { made = []; called = called-none told []; gives = h }

-- one that asks for nothing
pub said_reply : (s : State) (line text : List ℕ) (told : Told) → IsSaid line text → IsReply s line text s told told
said_reply s line text told h =
    quiet_reply s told (λ answers. reply profile true s answers line) text
    (subst (λ r. Gives r text s []) (sym (h.reply_is s [])) (record { text = only text; after = refl; calls = refl }))

-- one that is
pub long_reply : (s : State) (line text : List ℕ) (told : Told) → nat_lt line_limit (length line) ≡ true → text ≡ codes "no E1 LineTooLong\n" → IsReply s line text s told told
long_reply s line text told h e =
    let same : reply profile true s [] line ≡ without_event s (codes "no E1 LineTooLong\n" ∷ []) =
    ap (λ l. by_tests s l (list_all is_blank line) (reply_read profile true s [] (asked_by line))) h in
    quiet_reply s told (λ answers. reply profile true s answers line) text
    (subst (λ r. Gives r text s []) (sym same)
    (record { text = subst (λ t. Contains (codes "no E1 LineTooLong\n" ∷ []) t) (sym e) (only (codes "no E1 LineTooLong\n")); after = refl; calls = refl }))

pub read_reply : (s after : State) (line text : List ℕ) (given : Result Asked LineFault) (first last : Told) → length line ≤ line_limit → list_all is_blank line ≡ false
    → asked_by line ≡ given → IsReplied (λ answers. reply_read profile true s answers given) first last text after → IsReply s line text after first last
read_reply s after line text given first last h b e k =
    let answers = answers_in k.made in
    let same = by-length s answers line h ∙ ap (λ c. by_tests s false c (reply_read profile true s answers (asked_by line))) b
    ∙ ap (λ g. reply_read profile true s answers g) e in
    record { made = k.made; called = k.called; gives = subst (λ r. Gives r text after k.made) (sym same) k.gives }

-- ---- an event

pub accepted-reply : (s after : State) (made : List StoreCall) (posted : Posted) (text : List ℕ) (given : Outcome) → IsAccepted given after made posted → text ≡ ok_text true after posted
    → Gives (reply_outcome true s given) text after made
accepted-reply s after made posted text given h e =
    subst (λ o. Gives (reply_outcome true s o) text after made) (sym h.is)
    (record { text = subst (λ t. Contains (ok_text true after posted ∷ []) t) (sym e) (only (ok_text true after posted)); after = refl; calls = h.calls })

pub refused-reply : (s : State) (refusal : Refusal) (made : List StoreCall) (given : Outcome) → IsRefusedAfter refusal made given
    → Gives (reply_outcome true s given) (line_of (refusal_text refusal)) s made
refused-reply s refusal made (accepted t posted) h = absurd h
refused-reply s refusal made (refused why calls) h = record { text = contains_line refusal why h.0; after = refl; calls = h.1 }

-- ---- the line of a form that is refused

form-line : (r : Refusal) (why : machine.Refusal) → Tells r why → is_of_form r ≡ true → Contains (map line_of (form_texts why)) (construct_text r)
form-line (told.PropertyTwice path) why h k = subst (λ w. Contains (map line_of (form_texts w)) (construct_text (told.PropertyTwice path))) (sym h) (only (construct_text (told.PropertyTwice path)))
form-line (told.CalculateOnParent path) why h k = subst (λ w. Contains (map line_of (form_texts w)) (construct_text (told.CalculateOnParent path))) (sym h) (only (construct_text (told.CalculateOnParent path)))
form-line (told.Circular paths) why h k = subst (λ w. Contains (map line_of (form_texts w)) (construct_text (told.Circular paths))) (sym h) (only (construct_text (told.Circular paths)))
form-line (told.Limit word) why h k =
    subst (λ w. Contains (map line_of (form_texts w)) (construct_text (told.Limit word))) (sym h.1)
    (contains-map line_of (map (λ w. codes "form F17 Limit " ++ limit_text w) h.0) (codes "form F17 Limit " ++ limit_text word)
    (contains-map (λ w. codes "form F17 Limit " ++ limit_text w) h.0 word h.2))
form-line told.NoSuchTarget why h k = cc
form-line told.Disabled why h k = cc
form-line told.ReadOnly why h k = cc
form-line told.NotAnItem why h k = cc
form-line told.BadIndex why h k = cc
form-line (told.Binding path) why h k = cc
form-line told.Budget why h k = cc
form-line told.Depth why h k = cc
form-line told.Sends why h k = cc

pub construct_refused : (r : Refusal) (given : Result State machine.Refused) (line : List ℕ) → IsNotConstructed r given → line ≡ construct_text r → Contains (construct_texts given) line
construct_refused r (Ok s) line h e = absurd h
construct_refused r (Err given) line h e = subst (λ l. Contains (map line_of (form_texts given.why)) l) (sym e) (form-line r given.why h.0 h.1)

ready-same : (r : Refusal) (why : machine.Refusal) → Tells r why → ready_text why ≡ ready_text (meaning.told r)
ready-same (told.Limit word) why h = ap ready_text h.1
ready-same (told.PropertyTwice path) why h = ap ready_text h
ready-same (told.CalculateOnParent path) why h = ap ready_text h
ready-same (told.Circular paths) why h = ap ready_text h
ready-same told.NoSuchTarget why h = ap ready_text h
ready-same told.Disabled why h = ap ready_text h
ready-same told.ReadOnly why h = ap ready_text h
ready-same told.NotAnItem why h = ap ready_text h
ready-same told.BadIndex why h = ap ready_text h
ready-same (told.Binding path) why h = ap ready_text h
ready-same told.Budget why h = ap ready_text h
ready-same told.Depth why h = ap ready_text h
ready-same told.Sends why h = ap ready_text h

pub start_refused : (r : Refusal) (made : List StoreCall) (given : Outcome) (line : List ℕ) → IsRefusedAfter r made given → line ≡ line_of (ready_text (meaning.told r))
    → RefusesWith given made line
start_refused r made (accepted s posted) line h e = absurd h
start_refused r made (refused why calls) line h e = (e ∙ ap line_of (sym (ready-same r why h.0)), h.1)

-- ---- texts that were empty before

pub from_empty : (new old text : List ℕ) → new ≡ old ++ text → old ≡ [] → new ≡ text
from_empty new old text e h = e ∙ ap (λ b. b ++ text) h

pub show_reply : (s : State) (told : Told) (text : List ℕ) → text ≡ state_text profile s → IsReplied (λ answers. reply_read profile true s answers (Ok asked.Show)) told told text s
show_reply s told text e =
    quiet_reply s told (λ answers. reply_read profile true s answers (Ok asked.Show)) text
    (record { text = subst (λ t. Contains (state_text profile s ∷ []) t) (sym e) (only (state_text profile s)); after = refl; calls = refl })

-- ---- the start of a session that nothing keeps

pub started_refused : {P : Type 0} (state : P → State) (fault : EventFault) (r : Refusal) (c : State) (first last : Told) (old new line : List ℕ) → fault ≡ Refused r
    → StartsAlone state (Err fault) c first last old new → line ≡ line_of (ready_text (meaning.told r)) → IsStartRefused (started c) (stored_of first last) line
started_refused state fault r c first last old new line e h k =
    let g = subst (λ f. StartsAlone state (Err f) c first last old new) e h in
    record { made = g.made; called = g.called; refused = start_refused r g.made (started c (answers_in g.made)) line (g.is (answers_in g.made) g.own) k }

-- with the notes in a text that was empty before
pub started_noted : {P : Type 0} (state : P → State) (s : P) (c : State) (first last : Told) (old new : List ℕ) → StartsAlone state (Ok s) c first last old new → old ≡ []
    → (posted : Posted) × StartsSo (started c) first (state s, last) posted × (new ≡ note_lines posted.notes)
started_noted state s c first last old new h e =
    let is = h.is (answers_in h.made) h.own in
    (is.0, record { made = h.made; called = h.called; is = is.1 }, from_empty new old (note_lines is.0.notes) is.2 e)

-- some calls of the store were made
pub started_called : {P : Type 0} (state : P → State) (result : Result P EventFault) (c : State) (first last : Told) (old new : List ℕ) → StartsAlone state result c first last old new
    → IsCalled (stored_of first last)
started_called state result c first last old new h = (h.made, h.called)

-- none was
pub uncalled : (told : Told) → IsCalled (stored_of told told)
uncalled told = ([], called-none told [])

-- a line that is read
pub asked_reply : (s after : State) (line text : List ℕ) (asks : Asked) (first last : Told) → (asked_by line ≡ Ok asks) × (length line ≤ line_limit) × (list_all is_blank line ≡ false)
    → IsReplied (λ answers. reply_read profile true s answers (Ok asks)) first last text after → IsReply s line text after first last
asked_reply s after line text asks first last g k = read_reply s after line text (Ok asks) first last g.1 g.2 g.0 k

-- What is written for an event is what the machine allows.
use Rattle.std.proofs.Common.{◌≡◌, ℕ, ◌<◌, Bool, true, false, List, [], ◌∷◌, ◌++◌, map, length, codes, decimal, Option, refl, sym, ap, ◌∙◌, subst, arith, lit<, append-nil}
use Rattle.std.specs.Prelude.{Contains, Result, Ok, Err, OnOk}
use Rattle.xf_def_machine.specs.declared.note.Note.{Note}
use Rattle.xf_def_machine.specs.State.{State}
use Rattle.xf_def_machine.specs.Step.{Posted}
use Rattle.xf_def_machine.specs.StateText.{line_of}
use Rattle.xf_def_machine.specs.Replies.{note_lines, count_part, ok_text}
use Rattle.std.proofs.lemmas.List.{length-map, get_or-map}
use Rattle.xf_def_machine.specs.Replies.{limit_text, refusal_texts}
use Rattle.xf_def_machine.specs.Refusal as machine
use Rattle.xf_def_machine.specs.declared.refusal.Refusal.{Refusal}
use Rattle.xf_def_machine.specs.declared.refusal.Refusal.TheVariants.{NoSuchTarget, Disabled, ReadOnly, NotAnItem, BadIndex, PropertyTwice, CalculateOnParent, Binding, Circular, Limit, Budget, Depth, Sends}
use Rattle.xf_def_machine.specs.Told.{Tells, told}
use Rattle.xf_report.specs.Refusals.{refusal_text, construct_text}
use Rattle.std.specs.List.{flat_map}
use Rattle.xf_def_machine.specs.FormReplies.{form_texts}
use Rattle.xf_report.specs.Answers.{IsAnswer, counted_in, count_text, answer_text}

count-same : (counts : Bool) (count : ℕ) → count_part counts count ≡ count_text (counted_in counts count)
count-same true count = refl
count-same false count = refl

pub answer-ok : (counts : Bool) (s : State) (posted : Posted) (notes : List Note) (accepted : ℕ) (counted : Option ℕ) → IsAnswer counts s posted notes accepted counted → answer_text notes accepted counted ≡ ok_text counts s posted
answer-ok counts s posted notes accepted counted is =
    ap (λ l. note_lines l ++ line_of (codes "ok " ++ decimal accepted ++ count_text counted)) (sym is.told)
    ∙ ap (λ n. note_lines posted.notes ++ line_of (codes "ok " ++ decimal n ++ count_text counted)) (sym is.number)
    ∙ ap (λ c. note_lines posted.notes ++ line_of (codes "ok " ++ decimal s.accepted ++ c)) (sym (count-same counts posted.evaluated ∙ ap count_text is.count))

-- ---- what follows from what a call adds

pub then-ok : {T E P Q : Type 0} (r : Result T E) → (P → Q) → OnOk r P → OnOk r Q
then-ok (Ok x) f h = f h
then-ok (Err e) f h = tt

-- ---- a refusal of the machine is told by one of its texts

contains-map : {X Y : Type 0} (f : X → Y) (xs : List X) (x : X) → Contains xs x → Contains (map f xs) (f x)
contains-map f xs x h =
    let within : h.0 < length (map f xs) = omega (arith, h.1, length-map xs f) in
    (h.0, within, get_or-map f xs h.0 x (f x) h.1 ∙ ap f h.2)

only : {X : Type 0} (x : X) → Contains (x ∷ []) x
only x = (0, lit< tt, refl)

tells-told : (r : Refusal) (why : machine.Refusal) → why ≡ told r → Contains (refusal_texts (told r)) (refusal_text r) → Contains (refusal_texts why) (refusal_text r)
tells-told r why e h = let P : machine.Refusal → Type 0 = λ w. Contains (refusal_texts w) (refusal_text r) in subst P (sym e) h

pub tells-text : (r : Refusal) (why : machine.Refusal) → Tells r why → Contains (refusal_texts why) (refusal_text r)
tells-text (Limit word) why h =
    let P : machine.Refusal → Type 0 = λ w. Contains (refusal_texts w) (refusal_text (Limit word)) in
    subst P (sym h.1) (contains-map (λ w. codes "no E11 Limit " ++ limit_text w) h.0 word h.2)
tells-text NoSuchTarget why h = tells-told NoSuchTarget why h (only (refusal_text NoSuchTarget))
tells-text Disabled why h = tells-told Disabled why h (only (refusal_text Disabled))
tells-text ReadOnly why h = tells-told ReadOnly why h (only (refusal_text ReadOnly))
tells-text NotAnItem why h = tells-told NotAnItem why h (only (refusal_text NotAnItem))
tells-text BadIndex why h = tells-told BadIndex why h (only (refusal_text BadIndex))
tells-text (PropertyTwice path) why h = tells-told (PropertyTwice path) why h (only (refusal_text (PropertyTwice path)))
tells-text (CalculateOnParent path) why h = tells-told (CalculateOnParent path) why h (only (refusal_text (CalculateOnParent path)))
tells-text (Binding path) why h = tells-told (Binding path) why h (only (refusal_text (Binding path)))
tells-text (Circular paths) why h = tells-told (Circular paths) why h (only (refusal_text (Circular paths)))
tells-text Budget why h = tells-told Budget why h (only (refusal_text Budget))
tells-text Depth why h = tells-told Depth why h (only (refusal_text Depth))
tells-text Sends why h = tells-told Sends why h (only (refusal_text Sends))

-- where one limit alone is passed, the line of a refused form is the one that may be written
pub construct-text : (r : Refusal) → construct_text r ≡ flat_map line_of (form_texts (told r))
construct-text (PropertyTwice path) = sym (append-nil _)
construct-text (Circular paths) = sym (append-nil _)
construct-text (CalculateOnParent path) = sym (append-nil _)
construct-text (Limit word) = sym (append-nil _)
construct-text NoSuchTarget = refl
construct-text Disabled = refl
construct-text ReadOnly = refl
construct-text NotAnItem = refl
construct-text BadIndex = refl
construct-text (Binding path) = refl
construct-text Budget = refl
construct-text Depth = refl
construct-text Sends = refl

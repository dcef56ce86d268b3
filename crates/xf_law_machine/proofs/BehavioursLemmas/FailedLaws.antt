-- A submission that fails keeps the data.
use Rattle.std.proofs.Common.{ℕ, ◌≡◌, List, [], ◌∷◌, length, nat_le, Bool, true, false, Option, Some, None, Result, Ok, Err, refl, sym, subst, if◌then◌else◌}
use Rattle.std.specs.Str.{is_utf8}
use Rattle.xf_name.specs.declared.lit.Lit.{Lit}
use Rattle.xf_json.specs.declared.fault.JsonFault.{JsonFault}
use Rattle.xf_json.specs.Element.{lit_in}
use Rattle.xf_store.specs.declared.answers.Answer.{Answer}
use Rattle.xf_store.specs.declared.answers.Answer.TheVariants.{PutDone, Failed, Found, Absent, TooLong}
use Rattle.xf_store.specs.declared.call.Asked.{Asked}
use Rattle.xf_store.specs.Replay.{fits, answer_at}
use Rattle.xf_def_syntax.specs.declared.form.Replace.{Replace}
use Rattle.xf_def_syntax.specs.declared.form.Replace.TheVariants as instead
use Rattle.xf_def_syntax.specs.declared.form.Submission.{Submission}
use Rattle.xf_def_model.specs.Submitted.{Submitted, left, no_data, invalid, submitted}
use Rattle.xf_def_machine.specs.Profile.{Profile}
use Rattle.xf_def_machine.specs.State.{State}
use Rattle.xf_def_machine.specs.Refusal.{Refused, or_long}
use Rattle.xf_def_machine.specs.Flow.{Run, ◌>>=◌}
use Rattle.xf_def_machine.specs.Events.{Tell}
use Rattle.xf_def_machine.specs.Properties.{relevant_in, valid_in}
use Rattle.xf_def_machine.specs.Surround.{scope}
use Rattle.xf_def_machine.specs.Submit.{failed, Sending, then_done, target_by, takes_tree, takes_text, put_tree, put_text, on_target, has_fault, with_tree, with_text, respond, answered}
use Rattle.xf_def_machine.specs.Exchange.{with_call, unless_many, asked_by, is_store_name, selected}
use Rattle.xf_law_machine.specs.Behaviours.Failed.{KeepsAllButCalls, FailedKeeps}

-- ---- what is done does not fail, and what fails is as it was

abbrev Fails : List ℕ → State → State → Sending → Type 0
Fails error s t r = r ≡ Ok (failed error t) → t ≡ s

done-fails : (error : List ℕ) (s t : State) (r : Result State Refused) → Fails error s t (then_done r)
done-fails error s t (Err refusal) h = cc
done-fails error s t (Ok u) h = cc

same-fails : (error other : List ℕ) (s t : State) → Fails error s t (Ok (failed other s))
same-fails error other s t h = cc

if-fails : (error : List ℕ) (s t : State) (b : Bool) (x y : Sending) → Fails error s t x → Fails error s t y → Fails error s t (if b then x else y)
if-fails error s t true x y f g h = f h
if-fails error s t false x y f g h = g h

then-fails : {A : Type 0} (error : List ℕ) (s t : State) (r : Result A Refused) (next : A → Sending)
    → ((a : A) → Fails error s t (next a)) → Fails error s t (r >>= next)
then-fails error s t (Err refusal) next f h = cc
then-fails error s t (Ok a) next f h = f a h

target-fails : (error : List ℕ) (s t : State) (takes : State → ℕ → Bool) (put : ℕ → Run) (target : Option ℕ) → Fails error s t (on_target takes put target s)
target-fails error s t takes put None h = same-fails error _ s t h
target-fails error s t takes put (Some n) h = if-fails error s t (takes s n) _ _ (done-fails error s t (put n s)) (same-fails error _ s t) h

tree-fails : (p : Profile) (tell : Tell) (sub : Submission) (n : ℕ) (error : List ℕ) (s t : State) (lit : Result Lit JsonFault)
    → Fails error s t (with_tree p tell sub n s lit)
tree-fails p tell sub n error s t (Err fault) h = same-fails error _ s t h
tree-fails p tell sub n error s t (Ok lit) h =
    if-fails error s t (has_fault s lit) _ _ (same-fails error _ s t)
    (then-fails error s t (target_by p sub n s sub.target sub.instance) _ (λ target. target-fails error s t takes_tree (put_tree p tell lit) target)) h

text-fails : (p : Profile) (tell : Tell) (sub : Submission) (n : ℕ) (error : List ℕ) (s t : State) (bytes : List ℕ)
    → Fails error s t (with_text p tell sub n s bytes)
text-fails p tell sub n error s t bytes h =
    if-fails error s t (is_utf8 bytes) _ _
    (then-fails error s t (target_by p sub n s sub.target sub.instance) _ (λ target. target-fails error s t takes_text (put_text p tell bytes) target))
    (same-fails error _ s t) h

respond-fails : (p : Profile) (tell : Tell) (sub : Submission) (n : ℕ) (error : List ℕ) (s t : State) (bytes : List ℕ) (how : Replace)
    → Fails error s t (respond p tell sub n s bytes how)
respond-fails p tell sub n error s t bytes instead.All h = done-fails error s t _ h
respond-fails p tell sub n error s t bytes instead.Nothing h = cc
respond-fails p tell sub n error s t [] instead.Instance h = cc
respond-fails p tell sub n error s t [] instead.Text h = cc
respond-fails p tell sub n error s t (b ∷ bs) instead.Instance h = tree-fails p tell sub n error s t (lit_in (b ∷ bs)) h
respond-fails p tell sub n error s t (b ∷ bs) instead.Text h = text-fails p tell sub n error s t (b ∷ bs) h

answered-fails : (p : Profile) (tell : Tell) (sub : Submission) (n : ℕ) (error : List ℕ) (s t : State) (answer : Answer)
    → Fails error s t (answered p tell sub n s answer)
answered-fails p tell sub n error s t PutDone h = respond-fails p tell sub n error s t [] sub.replace h
answered-fails p tell sub n error s t (Found bytes) h = respond-fails p tell sub n error s t bytes sub.replace h
answered-fails p tell sub n error s t Failed h = same-fails error _ s t h
answered-fails p tell sub n error s t Absent h = same-fails error _ s t h
answered-fails p tell sub n error s t TooLong h = same-fails error _ s t h

-- ---- up to the call of the store

abbrev Keeps : State → Sending → Type 0
Keeps s r = (error : List ℕ) (t : State) → r ≡ Ok (failed error t) → KeepsAllButCalls s t

same-keeps : (s : State) (other : List ℕ) → Keeps s (Ok (failed other s))
same-keeps s other error t h = let q : t ≡ s = same-fails error other s t h in subst (λ (u : State). KeepsAllButCalls s u) (sym q) refl

call-keeps : (p : Profile) (answers : List Answer) (tell : Tell) (sub : Submission) (n : ℕ) (asked : Asked) (b : Bool) (s : State)
    → Keeps s (unless_many b s >>= λ t. let answer = answer_at (fits asked) answers (length t.calls) in answered p tell sub n (with_call sub.resource asked answer t) answer)
call-keeps p answers tell sub n asked true s error t h = cc
call-keeps p answers tell sub n asked false s error t h =
    let answer = answer_at (fits asked) answers (length s.calls) in
    let q : t ≡ with_call sub.resource asked answer s = answered-fails p tell sub n error (with_call sub.resource asked answer s) t answer h in
    subst (λ (u : State). KeepsAllButCalls s u) (sym q) refl

if-keeps : (s : State) (b : Bool) (x y : Sending) → Keeps s x → Keeps s y → Keeps s (if b then x else y)
if-keeps s true x y f g = f
if-keeps s false x y f g = g

selected-keeps : (p : Profile) (answers : List Answer) (tell : Tell) (sub : Submission) (s : State) (found : Submitted) → Keeps s (selected p answers tell sub s found)
selected-keeps p answers tell sub s no_data = same-keeps s _
selected-keeps p answers tell sub s (invalid n) = same-keeps s _
selected-keeps p answers tell sub s (left n kept) =
    if-keeps s (is_store_name sub.resource) _ _
    (call-keeps p answers tell sub n (asked_by sub n kept s sub.method) (nat_le p.sends (length s.calls)) s) (same-keeps s _)

long-keeps : (p : Profile) (answers : List Answer) (tell : Tell) (sub : Submission) (s : State) (o : Option Submitted) → Keeps s (or_long s o >>= selected p answers tell sub s)
long-keeps p answers tell sub s None error t h = cc
long-keeps p answers tell sub s (Some found) error t h = selected-keeps p answers tell sub s found error t h

pub failed_keeps : FailedKeeps
failed_keeps p answers tell sub s t error h =
    long-keeps p answers tell sub s (submitted (Some p.bounds.string) (scope p s sub.model) (relevant_in s) (valid_in s) s.forest.nodes sub) error t h

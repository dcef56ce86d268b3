-- The answers of the calls that an event made cover these calls, and may be kept with the event.
use Rattle.std.proofs.Common.{◌≡◌, ◌≤◌, ◌∙◌, Bool, true, false, ◌&&◌, IsTrue, List, [], ◌∷◌, length, refl, sym, ap, subst, if◌then◌else◌, arith}
use Rattle.std.specs.List.{list_all}
use Rattle.std.proofs.lemmas.List.{length-map}
use Rattle.xf_base.specs.Limits.{answer_limit}
use Rattle.xf_def_machine.specs.Replies.{answers_in}
use Rattle.xf_store.specs.declared.answers.Answer.TheVariants as answer
use Rattle.xf_store.specs.declared.call.StoreCall.{StoreCall}
use Rattle.xf_store.specs.Replay.{Covers}
use Rattle.xf_store.specs.Replies.{is_short}
use Rattle.xf_submit.specs.Calling.{AreMade, is_answered}

both : (a b : Bool) → IsTrue (a && b) → IsTrue a × IsTrue b
both true b h = (refl, h)
both false b h = let c : false ≡ true = h in absurd (cc)

-- no call is made
pub none-made : AreMade []
none-made = record { few = omega arith; answered = refl }

abbrev all_answered : List StoreCall → Bool
all_answered calls = list_all (λ c. is_answered c.asked c.answer) calls

pub covered : (calls : List StoreCall) → IsTrue (all_answered calls) → Covers (answers_in calls) calls
covered [] h = tt
covered (c ∷ cs) h =
    let two = both _ _ h in
    (ap (λ (b : Bool). if b then c.answer else answer.Failed) (both _ _ two.0).0, covered cs two.1)

pub few : (calls : List StoreCall) → length calls ≤ answer_limit → length (answers_in calls) ≤ answer_limit
few calls h = subst (λ n. n ≤ answer_limit) (sym (length-map calls (λ c. c.answer))) h

pub short : (calls : List StoreCall) → IsTrue (all_answered calls) → IsTrue (list_all is_short (answers_in calls))
short [] h = refl
short (c ∷ cs) h =
    let two = both _ _ h in
    ap (λ (b : Bool). b && list_all is_short (answers_in cs)) (both _ _ two.0).1 ∙ short cs two.1

-- One call of a store stands behind the others, with its answer.
use Rattle.std.proofs.Common.{◌≡◌, ◌<◌, ℕ, true, false, cond, ◌||◌, ◌&&◌, List, [], ◌∷◌, ◌++◌, length, slice_set, Option, Some, None, Ok, Err, sym, ap, subst, ◌∙◌, arith}
use Rattle.std.specs.Prelude.{IsTrue, MatchOption, nat_le}
use Rattle.std.specs.List.{list_all}
use Rattle.std.proofs.Math.Seq.{set-append_seam}
use Rattle.std.proofs.lemmas.Bool.Decides.{nat_tests}
use Rattle.std.proofs.lemmas.List.{length-append, same_from_push}
use Rattle.std.proofs.lemmas.List.Folds.{list_all-append}
use Rattle.xf_base.specs.Limits.{answer_limit}
use Rattle.xf_store.specs.declared.answers.Answer.{Answer}
use Rattle.xf_store.specs.declared.call.Asked.{Asked}
use Rattle.xf_store.specs.declared.call.StoreCall.{StoreCall}
use Rattle.xf_store.specs.Called.{Called, ListsAll, UsesAll}
use Rattle.xf_store.specs.Calls.{Lists}
use Rattle.xf_store.specs.Replay.{Covers, Uses, answer_at, fits}
use Rattle.xf_store.specs.Replies.{has_failed}
use Rattle.xf_store.proofs.CalledLaws.{called-none, covers-last}
use Rattle.xf_submit.specs.declared.calling.CallFault.TheVariants.{Many}
use Rattle.xf_submit.specs.Calling.{AreMade, call_of, exchanged, is_answered}

-- ---- the list

placed : (old pushed new : List StoreCall) (none : StoreCall) (at : ℕ) (name text : List ℕ) (asked : Asked) (answer : Answer)
    → at ≡ length old → pushed ≡ old ++ none ∷ [] → new ≡ slice_set pushed at (call_of name asked answer) → name ≡ text → new ≡ old ++ call_of text asked answer ∷ []
placed old pushed new none at name text asked answer a p n e =
    n ∙ ap (λ l. slice_set l at (call_of name asked answer)) p ∙ ap (λ k. slice_set (old ++ none ∷ []) k (call_of name asked answer)) a
    ∙ set-append_seam old none [] (call_of name asked answer) ∙ ap (λ t. old ++ call_of t asked answer ∷ []) e

-- where one more may be made, and is answered
made-behind : (old : List StoreCall) (call : StoreCall) → length old < answer_limit → AreMade old → IsTrue (is_answered call.asked call.answer) → AreMade (old ++ call ∷ [])
made-behind old call small all one = record {
  few = omega (arith, small, length-append old (call ∷ []));
  answered =
      list_all-append (λ c. is_answered c.asked c.answer) old (call ∷ [])
      ∙ ap (λ b. b && list_all (λ c. is_answered c.asked c.answer) (call ∷ [])) all.answered
      ∙ ap (λ b. true && (b && true)) one;
}

-- ---- what the store tells

lists-one : (a b : Option (List StoreCall)) (call : StoreCall) → Lists a b call → ListsAll a b (call ∷ [])
lists-one None b call h = h
lists-one (Some calls) None call h = ap (λ answer. has_failed answer || false) h
lists-one (Some calls) (Some more) call h = h

uses-one : (p q : Option (List Answer)) (call : StoreCall) → Uses (fits call.asked) p q call.answer → UsesAll p q (call ∷ [])
uses-one None q call h = h
uses-one (Some left) q call h = ((sym h.0, tt), h.1)

module _ (old pushed new : List StoreCall) (none : StoreCall) (at : ℕ) (name text : List ℕ) (asked : Asked) (answer : Answer)
    (a : at ≡ length old) (p : pushed ≡ old ++ none ∷ []) (n : new ≡ slice_set pushed at (call_of name asked answer)) (e : name ≡ text) where
  pub called-one : (before after : Option (List StoreCall)) (left rest : Option (List Answer))
      → Lists before after (call_of text asked answer) × Uses (fits asked) left rest answer → Called (before, left) (after, rest) old new
  called-one before after left rest h = record {
    made = call_of text asked answer ∷ [];
    grown = placed old pushed new none at name text asked answer a p n e;
    calls = lists-one before after (call_of text asked answer) h.0;
    answers = uses-one left rest (call_of text asked answer) h.1;
  }

  -- of all answers that cover the calls it got the one at its place
  pub exchanged-one : length old < answer_limit → (answers : List Answer) → Covers answers new → exchanged answer_limit answers text asked old ≡ Ok new
  exchanged-one small answers covers =
      let whole : new ≡ old ++ call_of text asked answer ∷ [] = placed old pushed new none at name text asked answer a p n e in
      let got : answer_at (fits asked) answers (length old) ≡ answer = covers-last answers old (call_of text asked answer) (subst (Covers answers) whole covers) in
      let few : nat_le answer_limit (length old) ≡ false = grind (arith, nat_tests, small) in
      ap (λ b. cond b (Err Many) (Ok (old ++ call_of text asked (answer_at (fits asked) answers (length old)) ∷ []))) few
      ∙ ap (λ x. Ok (old ++ call_of text asked x ∷ [])) got ∙ ap Ok (sym whole)

  pub made-one : length old < answer_limit → AreMade old → IsTrue (is_answered asked answer) → AreMade new
  made-one small all one = subst AreMade (sym (placed old pushed new none at name text asked answer a p n e)) (made-behind old (call_of text asked answer) small all one)

-- no call is made
pub uncalled : (before after : Option (List StoreCall)) (left rest : Option (List Answer)) (old new : List StoreCall) → after ≡ before → rest ≡ left → new ≡ old → Called (before, left) (after, rest) old new
uncalled before after left rest old new a r n =
    subst (λ l. Called (before, left) (after, rest) old l) (sym n)
    (subst (λ x. Called (before, left) (x, rest) old old) (sym a) (subst (λ y. Called (before, left) (before, y) old old) (sym r) (called-none (before, left) old)))

-- the last one is taken off again
pub popped : (o : Option StoreCall) (old pushed new : List StoreCall) (none : StoreCall) → pushed ≡ old ++ none ∷ []
    → MatchOption o ((pushed ≡ []) × (new ≡ [])) (λ last. pushed ≡ new ++ last ∷ []) → new ≡ old
popped None [] pushed new none p h = h.1
popped None (c ∷ cs) pushed new none p h = cc (p, h.0)
popped (Some last) old pushed new none p h = (same_from_push new old last none (sym h ∙ p)).0

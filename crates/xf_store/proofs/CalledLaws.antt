-- Calls that follow one another, and answers that cover them.
use Rattle.std.proofs.Common.{◌≡◌, ℕ, zero, suc, List, [], ◌∷◌, ◌++◌, length, drop, Bool, true, false, ◌||◌, IsTrue, Option, Some, None, refl, sym, ap, subst, ◌∙◌}
use Rattle.std.specs.List.{list_any}
use Rattle.xf_store.specs.declared.answers.Answer.{Answer}
use Rattle.xf_store.specs.declared.call.StoreCall.{StoreCall}
use Rattle.xf_store.specs.Replies.{has_failed}
use Rattle.xf_store.specs.Replay.{fits, answer_at, Covers}
use Rattle.xf_store.specs.Called.{ListsAll, UsesAll, Told, Called}

-- ---- answers that cover calls

-- behind the first one, and then behind so many more
behind : (n : ℕ) (answers : List Answer) → drop n (drop 1 answers) ≡ drop (suc n) answers
behind zero [] = refl
behind (suc n) [] = refl
behind zero (next ∷ rest) = refl
behind (suc n) (next ∷ rest) = refl

at-behind : (test : Answer → Bool) (answers : List Answer) (n : ℕ) → answer_at test answers (suc n) ≡ answer_at test (drop 1 answers) n
at-behind test [] n = refl
at-behind test (next ∷ rest) n = refl

-- what covers a list covers each list that it begins with
pub covers-front : (answers : List Answer) (front more : List StoreCall) → Covers answers (front ++ more) → Covers answers front
covers-front answers [] more h = tt
covers-front answers (call ∷ calls) more h = (h.0, covers-front (drop 1 answers) calls more h.1)

-- and what is left of it covers the rest
pub covers-rest : (answers : List Answer) (front more : List StoreCall) → Covers answers (front ++ more) → Covers (drop (length front) answers) more
covers-rest answers [] more h = h
covers-rest answers (call ∷ calls) more h = subst (λ left. Covers left more) (behind (length calls) answers) (covers-rest (drop 1 answers) calls more h.1)

-- both together
pub covers-all : (answers : List Answer) (front more : List StoreCall) → Covers answers front → Covers (drop (length front) answers) more → Covers answers (front ++ more)
covers-all answers [] more h k = k
covers-all answers (call ∷ calls) more h k =
    (h.0, covers-all (drop 1 answers) calls more h.1 (subst (λ left. Covers left more) (sym (behind (length calls) answers)) k))

-- the last call got the answer at its place
pub covers-last : (answers : List Answer) (calls : List StoreCall) (call : StoreCall) → Covers answers (calls ++ call ∷ []) → answer_at (fits call.asked) answers (length calls) ≡ call.answer
covers-last answers [] call h = h.0
covers-last answers (c ∷ cs) call h = at-behind (fits call.asked) answers (length cs) ∙ covers-last (drop 1 answers) cs call h.1

-- ---- lists

append-none : (calls : List StoreCall) → calls ++ [] ≡ calls
append-none [] = refl
append-none (c ∷ cs) = ap (λ rest. c ∷ rest) (append-none cs)

append-on : (a b c : List StoreCall) → (a ++ b) ++ c ≡ a ++ (b ++ c)
append-on [] b c = refl
append-on (x ∷ a) b c = ap (λ rest. x ∷ rest) (append-on a b c)

drop-on : (front more : List StoreCall) (answers : List Answer) → drop (length more) (drop (length front) answers) ≡ drop (length (front ++ more)) answers
drop-on [] more answers = refl
drop-on (c ∷ cs) more answers =
    ap (drop (length more)) (sym (behind (length cs) answers)) ∙ drop-on cs more (drop 1 answers) ∙ behind (length (cs ++ more)) answers

either-true : (a b : Bool) → IsTrue b → IsTrue (a || b)
either-true true b h = refl
either-true false b h = h

any-front : (front more : List StoreCall) → IsTrue (list_any (λ c. has_failed c.answer) front) → IsTrue (list_any (λ c. has_failed c.answer) (front ++ more))
any-front [] more h = search
any-front (c ∷ cs) more h =
    (elim (has_failed c.answer) as (λ b. IsTrue (b || list_any (λ x. has_failed x.answer) cs) → IsTrue (b || list_any (λ x. has_failed x.answer) (cs ++ more))) [
      | true ↦ λ given. refl
      | false ↦ λ given. any-front cs more given
    ]) h

any-rest : (front more : List StoreCall) → IsTrue (list_any (λ c. has_failed c.answer) more) → IsTrue (list_any (λ c. has_failed c.answer) (front ++ more))
any-rest [] more h = h
any-rest (c ∷ cs) more h = either-true (has_failed c.answer) (list_any (λ x. has_failed x.answer) (cs ++ more)) (any-rest cs more h)

-- ---- what a store tells

lists-on : (a b c : Option (List StoreCall)) (made more : List StoreCall) → ListsAll a b made → ListsAll b c more → ListsAll a c (made ++ more)
lists-on None b c made more h k = subst (λ x. ListsAll x c more) h k
lists-on (Some calls) None c made more h k = subst (λ x. ListsAll (Some calls) x (made ++ more)) (sym k) (any-front made more h)
lists-on (Some calls) (Some told) None made more h k = any-rest made more k
lists-on (Some calls) (Some told) (Some last) made more h k = k ∙ ap (λ x. x ++ more) h ∙ append-on calls made more

uses-on : (a b c : Option (List Answer)) (made more : List StoreCall) → UsesAll a b made → UsesAll b c more → UsesAll a c (made ++ more)
uses-on None b c made more h k = subst (λ x. UsesAll x c more) h k
uses-on (Some left) b c made more h k =
    let then : UsesAll (Some (drop (length made) left)) c more = subst (λ x. UsesAll x c more) h.1 k in
    (covers-all left made more h.0 then.0, then.1 ∙ ap Some (drop-on made more left))

lists-none : (a : Option (List StoreCall)) → ListsAll a a []
lists-none None = refl
lists-none (Some calls) = sym (append-none calls)

uses-none : (a : Option (List Answer)) → UsesAll a a []
uses-none None = refl
uses-none (Some left) = (tt, refl)

-- no call is made
pub called-none : (told : Told) (calls : List StoreCall) → Called told told calls calls
called-none told calls = record { made = []; grown = sym (append-none calls); calls = lists-none told.0; answers = uses-none told.1 }

-- calls that follow one another
pub called-on : (a b c : Told) (old mid new : List StoreCall) → Called a b old mid → Called b c mid new → Called a c old new
called-on a b c old mid new h k = record {
  made = h.made ++ k.made;
  grown = k.grown ∙ ap (λ calls. calls ++ k.made) h.grown ∙ append-on old h.made k.made;
  calls = lists-on a.0 b.0 c.0 h.made k.made h.calls k.calls;
  answers = uses-on a.1 b.1 c.1 h.made k.made h.answers k.answers;
}

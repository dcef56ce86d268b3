-- Changes that follow one another, by the calls of the store that are made in them, and the answers that cover those.
use Rattle.std.proofs.Common.{◌≡◌, List, ◌++◌, sym, subst}
use Rattle.xf_store.specs.declared.answers.Answer.{Answer}
use Rattle.xf_store.specs.declared.call.StoreCall.{StoreCall}
use Rattle.xf_store.specs.Replay.{Covers}
use Rattle.xf_store.specs.Called.{Told, Called}
use Rattle.xf_store.proofs.CalledLaws.{covers-front, called-none, called-on}

-- ---- answers

-- what covers the calls after a change covers those before it
pub covers-before : {new : List StoreCall} (old made : List StoreCall) → new ≡ old ++ made → (answers : List Answer) → Covers answers new → Covers answers old
covers-before old made h answers k = covers-front answers old made (subst (λ calls. Covers answers calls) h k)

-- so where no call was made
pub covers-same : (answers : List Answer) (old new : List StoreCall) → new ≡ old → Covers answers new → Covers answers old
covers-same answers old new h k = subst (λ calls. Covers answers calls) h k

-- ---- changes

-- no call is made
pub called-still : (told : Told) (old new : List StoreCall) → new ≡ old → Called told told old new
called-still told old new h = subst (λ calls. Called told told old calls) (sym h) (called-none told old)

-- behind a change without a call
pub called-behind : {a b : Told} {mid new : List StoreCall} (old : List StoreCall) → mid ≡ old → Called a b mid new → Called a b old new
called-behind {a} {b} {new} old h k = subst (λ calls. Called a b calls new) h k

-- before one
pub called-ahead : {a b : Told} {old mid : List StoreCall} (new : List StoreCall) → Called a b old mid → new ≡ mid → Called a b old new
called-ahead {a} {b} {old} new k h = subst (λ calls. Called a b old calls) (sym h) k

-- one after the other
pub called-both : {a b c : Told} {old mid new : List StoreCall} → Called a b old mid → Called b c mid new → Called a c old new
called-both {a} {b} {c} {old} {mid} {new} h k = called-on a b c old mid new h k

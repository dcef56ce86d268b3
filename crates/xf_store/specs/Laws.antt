-- What a put means for the names: the bytes stand under its name, and what stands under others stays. Kept answers by place.
use Rattle.std.proofs.Common.{◌≡◌, ℕ, zero, suc, List, [], ◌∷◌, drop, Some, true, false, if◌then◌else◌, refl, Bool}
use Rattle.std.specs.Str.{bytes_eq}
use Rattle.std.proofs.lemmas.Slice.Eq.{bytes_eq-Decides}
use Rattle.xf_store.specs.declared.call.Named.{Named}
use Rattle.xf_store.specs.declared.answers.Answer.{Answer}
use Rattle.xf_store.specs.Held.{found, put_under}
use Rattle.xf_store.specs.Replay.{answer_at}

pub name_same : (name : List ℕ) → bytes_eq name name ≡ true
name_same name = (bytes_eq-Decides name name).1 refl

pub found_put : (name bytes : List ℕ) (held : List Named) → found name (put_under name bytes held) ≡ Some bytes
found_put name bytes [] = rw (name_same name) refl
found_put name bytes (y ∷ ys) =
    let P = λ (b : Bool). bytes_eq y.name name ≡ b → found name (if b then record { name = name; bytes = bytes } ∷ ys else y ∷ put_under name bytes ys) ≡ Some bytes in
    (elim (bytes_eq y.name name) as P [
      | true ↦ λ is. rw (name_same name) refl
      | false ↦ λ is. rw is (found_put name bytes ys)
    ]) refl

pub found_put_other : (name other bytes : List ℕ) (held : List Named) → bytes_eq name other ≡ false → found other (put_under name bytes held) ≡ found other held
found_put_other name other bytes [] differ = rw differ refl
found_put_other name other bytes (y ∷ ys) differ =
    let P = λ (b : Bool). bytes_eq y.name name ≡ b → found other (if b then record { name = name; bytes = bytes } ∷ ys else y ∷ put_under name bytes ys) ≡ found other (y ∷ ys) in
    (elim (bytes_eq y.name name) as P [
      | true ↦ λ is. let same : y.name ≡ name = (bytes_eq-Decides y.name name).0 is in rw (same, differ) refl
      | false ↦ λ is. rw (found_put_other name other bytes ys differ) refl
    ]) refl

-- what comes first behind some answers is at their number
pub first_behind : (fits : Answer → Bool) (answers : List Answer) (at : ℕ) → answer_at fits (drop at answers) 0 ≡ answer_at fits answers at
first_behind fits answers zero = refl
first_behind fits [] (suc at) = refl
first_behind fits (next ∷ rest) (suc at) = first_behind fits rest at

-- Names in a list of named bytes.
use Rattle.std.proofs.Common.{◌≡◌, ◌+◌, ℕ, suc, List, [], ◌∷◌, ◌++◌, Some, None, true, false, if◌then◌else◌, slice_set, refl, ap, arith}
use Rattle.std.specs.Str.{bytes_eq}
use Rattle.xf_store.specs.declared.call.Named.{Named}
use Rattle.xf_store.specs.Held.{put_under, place_from}

abbrev named_as : List ℕ → List ℕ → Named
named_as name bytes = record { name = name; bytes = bytes }

-- where the name has a place, the bytes are put there
pub put_at : (name bytes : List ℕ) (held : List Named) (k at : ℕ) → place_from k name held ≡ Some at → (i : ℕ) × ((at ≡ k + i) × (put_under name bytes held ≡ slice_set held i (named_as name bytes)))
put_at name bytes [] k at = λ is. cc
put_at name bytes (y ∷ ys) k at =
    elim (bytes_eq y.name name) as (λ b. (if b then Some k else place_from (suc k) name ys) ≡ Some at → (i : ℕ) × ((at ≡ k + i) × ((if b then named_as name bytes ∷ ys else y ∷ put_under name bytes ys) ≡ slice_set (y ∷ ys) i (named_as name bytes)))) [
      | true ↦ λ is. let same : k ≡ at = cc in (0, (omega arith, refl))
      | false ↦ λ is. let rest = put_at name bytes ys (suc k) at is in (suc rest.0, (omega (arith, rest.1.0), ap (λ l. y ∷ l) rest.1.1))
    ]

pub put_in_place : (name bytes own_name own_bytes : List ℕ) (held looked new : List Named) (at : ℕ) → Some at ≡ place_from 0 name looked → looked ≡ held → new ≡ slice_set held at (named_as own_name own_bytes) → own_name ≡ name → own_bytes ≡ bytes → new ≡ put_under name bytes held
put_in_place name bytes own_name own_bytes held looked new at is same_held set same_name same_bytes =
    let found : place_from 0 name held ≡ Some at = cc in
    let place = put_at name bytes held 0 at found in
    let same : place.0 ≡ at = omega (arith, place.1.0) in
    let put : put_under name bytes held ≡ slice_set held place.0 (named_as name bytes) = place.1.1 in
    cc

-- where it has none, they stand behind all others
pub put_behind : (name bytes : List ℕ) (held : List Named) (k : ℕ) → place_from k name held ≡ None → put_under name bytes held ≡ held ++ named_as name bytes ∷ []
put_behind name bytes [] k = λ is. refl
put_behind name bytes (y ∷ ys) k =
    elim (bytes_eq y.name name) as (λ b. (if b then Some k else place_from (suc k) name ys) ≡ None → (if b then named_as name bytes ∷ ys else y ∷ put_under name bytes ys) ≡ (y ∷ ys) ++ named_as name bytes ∷ []) [
      | true ↦ λ is. cc
      | false ↦ λ is. ap (λ l. y ∷ l) (put_behind name bytes ys (suc k) is)
    ]

pub put_last : (name bytes own_name own_bytes : List ℕ) (held : List Named) → place_from 0 name held ≡ None → own_name ≡ name → own_bytes ≡ bytes → put_under name bytes held ≡ held ++ named_as own_name own_bytes ∷ []
put_last name bytes own_name own_bytes held is same_name same_bytes =
    let put = put_behind name bytes held 0 is in
    cc put

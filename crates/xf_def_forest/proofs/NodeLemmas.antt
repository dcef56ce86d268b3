-- Looking for a node by its number.
use Rattle.std.proofs.Common.{◌≡◌, ℕ, List, [], ◌∷◌, map, ◌==◌, position, refl}
use Rattle.std.specs.List.{list_any, position_or_len}
use Rattle.std.proofs.lemmas.List.{length-map}
use Rattle.xf_def_forest.specs.declared.node.NodeId.{NodeId}

place-map : (k : ℕ) (xs : List NodeId) → position_or_len (λ n. n == k) (map (λ (n : NodeId). n.number) xs) ≡ position_or_len (λ (n : NodeId). n.number == k) xs
place-map k [] = refl
place-map k (x ∷ xs) = cc (place-map k xs)

pub position-map : (k : ℕ) (xs : List NodeId) → position (λ n. n == k) (map (λ (n : NodeId). n.number) xs) ≡ position (λ (n : NodeId). n.number == k) xs
position-map k xs = cc (place-map k xs, length-map xs (λ (n : NodeId). n.number))

pub any-map : (k : ℕ) (xs : List NodeId) → list_any (λ n. n == k) (map (λ (n : NodeId). n.number) xs) ≡ list_any (λ (n : NodeId). n.number == k) xs
any-map k [] = refl
any-map k (x ∷ xs) = cc (any-map k xs)

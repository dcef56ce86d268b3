-- Rows, beside what is shown of them.
use Rattle.std.proofs.Common.{◌≡◌, ℕ, zero, suc, List, [], ◌∷◌, ◌++◌, map, set, slice_get, option_map, refl, ap, ◌∙◌}
use Rattle.std.proofs.lemmas.List.{map-set}

pub slice_get-map : {A B : Type 0} (f : A → B) (xs : List A) (i : ℕ) → option_map f (slice_get xs i) ≡ slice_get (map f xs) i
slice_get-map f [] i = refl
slice_get-map f (x ∷ xs) zero = refl
slice_get-map f (x ∷ xs) (suc i) = slice_get-map f xs i

pub map-push : {A B : Type 0} (f : A → B) (xs : List A) (x : A) → map f (xs ++ x ∷ []) ≡ map f xs ++ f x ∷ []
map-push f [] x = refl
map-push f (y ∷ ys) x = ap (λ l. f y ∷ l) (map-push f ys x)

-- one put in the place of another
pub put_is : {A B : Type 0} (f : A → B) (after final : List A) (place n : ℕ) (x : A) → final ≡ set after place x → place ≡ n → map f final ≡ set (map f after) n (f x)
put_is f after final place n x put same = ap (map f) put ∙ map-set f after place x ∙ ap (λ k. set (map f after) k (f x)) same

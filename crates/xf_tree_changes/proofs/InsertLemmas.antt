-- An item that comes in where there is room.
use Rattle.std.proofs.Common.{◌≡◌, ℕ, zero, suc, ◌+◌, List, [], ◌∷◌, ◌++◌, length, take, drop, refl, ap, ◌∙◌, arith, add-one}

module _ {X : Type 0} where
  front-suc : (r : ℕ) (xs : List X) (v : X) → take (suc r) (take r xs ++ (v ∷ drop r xs)) ≡ take r xs ++ (v ∷ [])
  front-suc zero [] v = refl
  front-suc zero (x ∷ xs) v = refl
  front-suc (suc r) [] v = refl
  front-suc (suc r) (x ∷ xs) v = ap (λ l. x ∷ l) (front-suc r xs v)

  rest-suc : (r : ℕ) (xs : List X) (v : X) → drop (suc r) (take r xs ++ (v ∷ drop r xs)) ≡ drop r xs
  rest-suc zero [] v = refl
  rest-suc zero (x ∷ xs) v = refl
  rest-suc (suc r) [] v = refl
  rest-suc (suc r) (x ∷ xs) v = rest-suc r xs v

  pub insert-front : (r : ℕ) (xs : List X) (v : X) → take (r + 1) (take r xs ++ (v ∷ drop r xs)) ≡ take r xs ++ (v ∷ [])
  insert-front r xs v = ap (λ k. take k (take r xs ++ (v ∷ drop r xs))) (add-one r) ∙ front-suc r xs v

  pub insert-rest : (r : ℕ) (xs : List X) (v : X) → drop (r + 1) (take r xs ++ (v ∷ drop r xs)) ≡ drop r xs
  insert-rest r xs v = ap (λ k. drop k (take r xs ++ (v ∷ drop r xs))) (add-one r) ∙ rest-suc r xs v

  pub insert-length : (r : ℕ) (xs : List X) (v : X) → length (take r xs ++ (v ∷ drop r xs)) ≡ length xs + 1
  insert-length zero [] v = refl
  insert-length zero (x ∷ xs) v = omega arith
  insert-length (suc r) [] v = refl
  insert-length (suc r) (x ∷ xs) v = let h = insert-length r xs v in omega arith

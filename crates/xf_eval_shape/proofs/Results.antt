-- What an answer that is right holds, from two facts.
use Rattle.std.proofs.Common.{◌≡◌, Bool, ◌&&◌, List, [], ◌∷◌, map, refl, ap}
use Rattle.std.specs.Prelude.{Result, Ok, Err, IfOk}
use Rattle.std.specs.List.{list_all}

pub ok-two : {X E : Type 0} (r : Result X E) (P Q R : X → Type 0) → ((x : X) → P x → Q x → R x) → IfOk r P → IfOk r Q → IfOk r R
ok-two (Ok x) P Q R f p q = f x p q
ok-two (Err e) P Q R f p q = tt

-- all of the items that stand for these
pub all-mapped : {X Y : Type 0} (p : Y → Bool) (g : X → Y) (xs : List X) → list_all (λ x. p (g x)) xs ≡ list_all p (map g xs)
all-mapped p g [] = refl
all-mapped p g (x ∷ xs) = ap (λ b. p (g x) && b) (all-mapped p g xs)

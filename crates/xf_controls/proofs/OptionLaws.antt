-- Lists of what may be too long.
use Rattle.std.proofs.Common.{◌≡◌, List, [], ◌∷◌, ◌++◌, map, Option, Some, None, option_map, refl, sym, ap, ◌∙◌, append_assoc}
use Rattle.xf_def_xpath.specs.Setting.{◌>>=◌, each}

pub bind-some : {A : Type 0} (m : Option A) → (m >>= λ x. Some x) ≡ m
bind-some None = refl
bind-some (Some x) = refl

pub each-some : {A B : Type 0} (f : A → Option B) (g : A → B) → ((x : A) → f x ≡ Some (g x)) → (xs : List A) → each f xs ≡ Some (map g xs)
each-some f g h [] = refl
each-some f g h (x ∷ xs) = ap (λ m. m >>= λ y. each f xs >>= λ ys. Some (y ∷ ys)) (h x) ∙ ap (λ m. m >>= λ ys. Some (g x ∷ ys)) (each-some f g h xs)

-- both lists one after the other
abbrev pub after : {B : Type 0} → Option (List B) → Option (List B) → Option (List B)
after first second = first >>= λ xs. second >>= λ ys. Some (xs ++ ys)

pub after-nothing : {B : Type 0} (m : Option (List B)) → after (Some []) m ≡ m
after-nothing None = refl
after-nothing (Some xs) = refl

pub after-more : {B : Type 0} (one : Option (List B)) (two three : Option (List B)) → after (after one two) three ≡ after one (after two three)
after-more None two three = refl
after-more (Some xs) None three = refl
after-more (Some xs) (Some ys) None = refl
after-more (Some xs) (Some ys) (Some zs) = ap Some (append_assoc xs ys zs)

abbrev pub alone : {B : Type 0} → Option B → Option (List B)
alone m = option_map (λ y. y ∷ []) m

first-after : {B : Type 0} (m : Option B) (ys : Option (List B)) → (m >>= λ y. ys >>= λ zs. Some (y ∷ zs)) ≡ after (alone m) ys
first-after None ys = refl
first-after (Some y) ys = refl

pub each-first : {A B : Type 0} (f : A → Option B) (x : A) (xs : List A) → each f (x ∷ xs) ≡ after (alone (f x)) (each f xs)
each-first f x xs = first-after (f x) (each f xs)

pub each-append : {A B : Type 0} (f : A → Option B) (xs ys : List A) → each f (xs ++ ys) ≡ after (each f xs) (each f ys)
each-append f [] ys = sym (after-nothing (each f ys))
each-append f (x ∷ xs) ys =
    each-first f x (xs ++ ys) ∙ ap (after (alone (f x))) (each-append f xs ys)
    ∙ sym (after-more (alone (f x)) (each f xs) (each f ys)) ∙ ap (λ m. after m (each f ys)) (sym (each-first f x xs))

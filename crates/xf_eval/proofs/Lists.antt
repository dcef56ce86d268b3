-- Lists that may be too long, item by item: what is done, and what is left.
use Rattle.std.proofs.Common.{◌≡◌, ◌⊎◌, inl, inr, ℕ, ◌+◌, List, [], ◌∷◌, ◌++◌, map, length, Option, Some, None, option_map, Bool, false, is_some, slice_get, refl, sym, ap, ◌∙◌, append_assoc}
use Rattle.std.specs.Prelude.{filter}
use Rattle.xf_def_xpath.specs.Setting.{◌>>=◌, each}
use Rattle.xf_def_xpath.specs.Conversions.{is_filled}

-- what is left behind what is done
abbrev pub onto : {B : Type 0} → List B → Option (List B) → Option (List B)
onto done left = option_map (λ rest. done ++ rest) left

pub append-none : {B : Type 0} (xs : List B) → xs ++ [] ≡ xs
append-none [] = refl
append-none (x ∷ xs) = ap (λ l. x ∷ l) (append-none xs)

pub onto-start : {B : Type 0} (left : Option (List B)) → onto [] left ≡ left
onto-start None = refl
onto-start (Some xs) = refl

pub onto-end : {B : Type 0} (done : List B) → onto done (Some []) ≡ Some done
onto-end done = ap Some (append-none done)

pub onto-more : {A B : Type 0} (made : A → Option B) (done : List B) (n : A) (ns : List A) (y : B) → made n ≡ Some y →
    onto done (each made (n ∷ ns)) ≡ onto (done ++ y ∷ []) (each made ns)
onto-more {B = B} made done n ns y h = by (made n) (each made ns) h
  where
    by : (m : Option B) (left : Option (List B)) → m ≡ Some y → onto done (m >>= λ z. left >>= λ zs. Some (z ∷ zs)) ≡ onto (done ++ y ∷ []) left
    by None left e = cc e
    by (Some z) None e = refl
    by (Some z) (Some zs) e = let i : z ≡ y = cc e in ap Some (ap (λ w. done ++ (w ∷ zs)) i ∙ sym (append_assoc done (y ∷ []) zs))

pub onto-none : {A B : Type 0} (made : A → Option B) (done : List B) (n : A) (ns : List A) → made n ≡ None → onto done (each made (n ∷ ns)) ≡ None
onto-none {B = B} made done n ns h = by (made n) (each made ns) h
  where
    by : (m : Option B) (left : Option (List B)) → m ≡ None → onto done (m >>= λ z. left >>= λ zs. Some (z ∷ zs)) ≡ None
    by None left e = refl
    by (Some z) left e = cc e

-- where one item is too long, so is the whole
pub whole-long : {A B E X : Type 0} (memory long fault : E) (made : A → Option X) (worth : Option B) (n : A) → (fault ≡ memory) ⊎ ((fault ≡ long) × (made n ≡ None)) →
    (made n ≡ None → worth ≡ None) → (fault ≡ memory) ⊎ ((fault ≡ long) × (worth ≡ None))
whole-long memory long fault made worth n (inl e) f = inl e
whole-long memory long fault made worth n (inr e) f = inr (e.0, f e.1)

pub none-mapped : {A B : Type 0} (f : A → B) (m : Option A) → m ≡ None → option_map f m ≡ None
none-mapped f m h = ap (option_map f) h

pub each-mapped : {A B C : Type 0} (made : A → Option B) (f : B → C) (ns : List A) → each (λ n. option_map f (made n)) ns ≡ option_map (map f) (each made ns)
each-mapped made f [] = refl
each-mapped {B = B} {C = C} made f (n ∷ ns) = by (made n) (each made ns) (each (λ m. option_map f (made m)) ns) (each-mapped made f ns)
  where
    by : (m : Option B) (left : Option (List B)) (left' : Option (List C)) → left' ≡ option_map (map f) left →
        (option_map f m >>= λ z. left' >>= λ zs. Some (z ∷ zs)) ≡ option_map (map f) (m >>= λ z. left >>= λ zs. Some (z ∷ zs))
    by None left left' e = refl
    by (Some z) None left' e = ap (λ l. l >>= λ zs. Some (f z ∷ zs)) e
    by (Some z) (Some zs) left' e = ap (λ l. l >>= λ ws. Some (f z ∷ ws)) e

-- ---- how many are filled

abbrev pub counted : ℕ → Option (List (List ℕ)) → Option ℕ
counted count left = option_map (λ texts. count + length (filter is_filled texts)) left

-- a list without a first item is empty
pub none-first : {X : Type 0} (ns : List ℕ) (found : Option X) (number : X → ℕ) → is_some found ≡ false → option_map number found ≡ slice_get ns 0 → ns ≡ []
none-first [] found number h e = refl
none-first (n ∷ ns) None number h e = cc e
none-first (n ∷ ns) (Some x) number h e = cc h

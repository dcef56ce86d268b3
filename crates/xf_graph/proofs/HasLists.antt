-- `has` on lists that grow.
use Rattle.std.proofs.Common.{◌≡◌, ℕ, Bool, true, false, cond, ◌||◌, ◌⊎◌, inl, inr, List, [], ◌∷◌, ◌++◌, reverse, ◌==◌, refl, sym, ap, ◌∙◌}
use Rattle.std.proofs.lemmas.List.{reverse-append}
use Rattle.std.proofs.lemmas.Bool.{eqb-true, eq-eqb, ne_eqb, cases_eq, or_cases, or_left, or_right, false≢true}
use Rattle.xf_graph.specs.Edges.{has}

pub has-append : (xs ys : List ℕ) (v : ℕ) → has (xs ++ ys) v ≡ (has xs v || has ys v)
has-append [] ys v = refl
has-append (x ∷ xs) ys v = ap (λ b. (x == v) || b) (has-append xs ys v) ∙ or_assoc (x == v) (has xs v) (has ys v)
  where
    or_assoc : (a b c : Bool) → (a || (b || c)) ≡ ((a || b) || c)
    or_assoc true b c = refl
    or_assoc false b c = refl

pub has_first : (v : ℕ) (xs : List ℕ) → has (v ∷ xs) v ≡ true
has_first v xs = or_left (v == v) (has xs v) (eq-eqb v v refl)

pub has_later : (x v : ℕ) (xs : List ℕ) → has xs v ≡ true → has (x ∷ xs) v ≡ true
has_later x v xs h = or_right (x == v) (has xs v) h

pub has_cases : (x v : ℕ) (xs : List ℕ) → has (x ∷ xs) v ≡ true → (x ≡ v) ⊎ (has xs v ≡ true)
has_cases x v xs h = elim (or_cases (x == v) (has xs v) h) [ inl e ↦ inl (eqb-true x v e) | inr e ↦ inr e ]

pub has-push_cases : (xs : List ℕ) (x v : ℕ) → has (xs ++ x ∷ []) v ≡ true → (has xs v ≡ true) ⊎ (x ≡ v)
has-push_cases xs x v h =
    elim (or_cases (has xs v) (has (x ∷ []) v) (sym (has-append xs (x ∷ []) v) ∙ h)) [
      | inl e ↦ inl e
      | inr e ↦ elim (has_cases x v [] e) [ inl q ↦ inr q | inr q ↦ absurd (false≢true q) ]
    ]

pub has-push_old : (xs : List ℕ) (x v : ℕ) → has xs v ≡ true → has (xs ++ x ∷ []) v ≡ true
has-push_old xs x v h = has-append xs (x ∷ []) v ∙ or_left (has xs v) (has (x ∷ []) v) h

pub has-push_new : (xs : List ℕ) (v : ℕ) → has (xs ++ v ∷ []) v ≡ true
has-push_new xs v = has-append xs (v ∷ []) v ∙ or_right (has xs v) (has (v ∷ []) v) (has_first v [])

or-turned : (a b : Bool) → (a || b) ≡ (b || a)
or-turned true true = refl
or-turned true false = refl
or-turned false true = refl
or-turned false false = refl

pub reverse-push : (xs : List ℕ) (x : ℕ) → reverse (xs ++ x ∷ []) ≡ x ∷ reverse xs
reverse-push xs x = reverse-append xs (x ∷ [])

pub reverse-cons : (x : ℕ) (xs : List ℕ) → reverse (x ∷ xs) ≡ reverse xs ++ x ∷ []
reverse-cons x xs = reverse-append (x ∷ []) xs

pub has-reverse : (xs : List ℕ) (v : ℕ) → has (reverse xs) v ≡ has xs v
has-reverse [] v = refl
has-reverse (x ∷ xs) v =
    ap (λ l. has l v) (reverse-cons x xs) ∙ has-append (reverse xs) (x ∷ []) v
    ∙ or-turned (has (reverse xs) v) (has (x ∷ []) v) ∙ ap (λ b. ((x == v) || false) || b) (has-reverse xs v) ∙ ap (λ b. b || has xs v) (or-turned (x == v) false)

-- ---- a mark that is set
module _ (mark marked : ℕ → ℕ) (at value : ℕ) (set : (x : ℕ) → marked x ≡ cond (at == x) value (mark x)) where
  pub mark_at : marked at ≡ value
  mark_at = set at ∙ ap (λ b. cond b value (mark at)) (eq-eqb at at refl)

  pub mark_else : (x : ℕ) → (at ≡ x → ⊥) → marked x ≡ mark x
  mark_else x ne = set x ∙ ap (λ b. cond b value (mark x)) (ne_eqb at x ne)

  pub mark_cases : (x : ℕ) → ((at ≡ x) × (marked x ≡ value)) ⊎ ((at ≡ x → ⊥) × (marked x ≡ mark x))
  mark_cases x = elim (cases_eq at x) [ inl e ↦ inl (e, ap marked (sym e) ∙ mark_at) | inr ne ↦ inr (ne, mark_else x ne) ]

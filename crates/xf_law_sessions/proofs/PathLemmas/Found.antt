-- Numbers in lists, and visits that are found: what the law of paths needs of them.
use Rattle.std.proofs.Common.{◌≡◌, ℕ, ◌==◌, Bool, true, false, ◌||◌, List, [], ◌∷◌, ◌++◌, Option, Some, None, option_map, refl, sym, ap, ◌∙◌, inl, inr}
use Rattle.std.specs.Prelude.{is_some}
use Rattle.std.specs.List.{list_any}
use Rattle.std.proofs.lemmas.Bool.{eqb-true}
use Rattle.xf_def_forest.specs.Visit.{Visit, has}
use Rattle.xf_def_xpath.specs.Asked.{found}
use Rattle.xf_def_xpath.specs.Agree.{numbers_of}
use Rattle.xf_def_xpath.proofs.VisitFacts.{or-cases, no, some-same, none-some, has-found}

pub has-append : (n : ℕ) (ns ms : List ℕ) → has n (ns ++ ms) ≡ (has n ns || has n ms)
has-append n [] ms = refl
has-append n (m ∷ ns) ms = ap (λ b. (n == m) || b) (has-append n ns ms) ∙ by (n == m)
  where
    by : (b : Bool) → (b || (has n ns || has n ms)) ≡ ((b || has n ns) || has n ms)
    by true = refl
    by false = refl

-- what no item of a list does, one of them does not
pub none-does : (f : ℕ → Bool) (n : ℕ) (ns : List ℕ) → list_any f ns ≡ false → has n ns ≡ true → f n ≡ false
none-does f n [] e h = no h
none-does f n (m ∷ ms) e h = by (f m) refl e (none-does f n ms)
  where
    by : (b : Bool) → f m ≡ b → (b || list_any f ms) ≡ false → (list_any f ms ≡ false → has n ms ≡ true → f n ≡ false) → f n ≡ false
    by true i j below = no (sym j)
    by false i j below = elim (or-cases (n == m) (has n ms) h) [ inl k ↦ ap f (eqb-true n m k) ∙ i | inr later ↦ below j later ]

there : (m : Option Visit) → is_some m ≡ true → (z : Visit) × (m ≡ Some z)
there None h = no h
there (Some z) h = (z, refl)

pub standing-at : (k : ℕ) (all : List Visit) → has k (numbers_of all) ≡ true → (z : Visit) × (found k all ≡ Some z)
standing-at k all h = there (found k all) (sym (has-found k all) ∙ h)

pub opened : (m : Option Visit) (ns : List ℕ) → option_map (λ (z : Visit). z.above) m ≡ Some ns → (z : Visit) × (m ≡ Some z) × (z.above ≡ ns)
opened None ns h = none-some h
opened (Some z) ns h = (z, refl, some-same h)

-- Written names byte by byte.
use Rattle.std.proofs.Common.{◌≡◌, ℕ, zero, suc, ◌+◌, ◌<◌, ◌≤◌, Bool, true, false, List, [], ◌∷◌, ◌++◌, length, drop, Some, None, refl, sym, ap, ◌∙◌, ◌==◌, arith, add-one}
use Rattle.std.specs.Prelude.{slice_get, nat_lt}
use Rattle.std.proofs.lemmas.Bool.Decides.{nat_tests}
use Rattle.std.proofs.lemmas.Grind.{common_steps}
use Rattle.xf_def_forest.specs.Forest.{written_with}
use Rattle.xf_def_forest.specs.Plant.{is_less}

-- ---- bytes of a written name

before : (xs ys : List ℕ) (i : ℕ) → i < length xs → slice_get xs i ≡ slice_get (xs ++ ys) i
before [] ys i h = absurd (omega arith)
before (x ∷ xs) ys zero h = refl
before (x ∷ xs) ys (suc i) h = before xs ys i (omega arith)

behind : (xs ys : List ℕ) (i j : ℕ) → i ≡ length xs + j → slice_get ys j ≡ slice_get (xs ++ ys) i
behind [] ys i j e = ap (slice_get ys) (omega arith)
behind (x ∷ xs) ys zero j e = absurd (omega arith)
behind (x ∷ xs) ys (suc i) j e = behind xs ys i j (omega arith)

pub byte-bare : (prefix local : List ℕ) (i : ℕ) → true ≡ (length prefix == 0) → slice_get local i ≡ slice_get (written_with prefix local) i
byte-bare [] local i none = refl
byte-bare (c ∷ cs) local i none = absurd (let differ : true ≡ false = none ∙ not-zero (length cs) in let no : ⊥ = cc in no)
  where
    not-zero : (n : ℕ) → (suc n == 0) ≡ false
    not-zero n = grind (arith, nat_tests)

pub byte-before : (prefix local : List ℕ) (i : ℕ) → i < length prefix → slice_get prefix i ≡ slice_get (written_with prefix local) i
byte-before [] local i h = absurd (omega arith)
byte-before (c ∷ cs) local i h = before (c ∷ cs) (58 ∷ local) i h

pub byte-between : (prefix local : List ℕ) (i : ℕ) → false ≡ (length prefix == 0) → i ≡ length prefix → Some 58 ≡ slice_get (written_with prefix local) i
byte-between [] local i some e = absurd (let no : ⊥ = cc in no)
byte-between (c ∷ cs) local i some e = behind (c ∷ cs) (58 ∷ local) i 0 (omega arith)

pub byte-behind : (prefix local : List ℕ) (i j : ℕ) → false ≡ (length prefix == 0) → i ≡ length prefix + (j + 1) → slice_get local j ≡ slice_get (written_with prefix local) i
byte-behind [] local i j some e = absurd (let no : ⊥ = cc in no)
byte-behind (c ∷ cs) local i j some e = behind (c ∷ cs) (58 ∷ local) i (suc j) (omega arith)

-- ---- comparing

some-drop : (xs : List ℕ) (i x : ℕ) → slice_get xs i ≡ Some x → drop i xs ≡ x ∷ drop (suc i) xs
some-drop [] i x e = absurd (nothing e)
  where
    nothing : {x : ℕ} → None ≡ Some x → ⊥
    nothing e = cc
some-drop (y ∷ ys) zero x e = let same : y ≡ x = cc in ap (λ z. z ∷ ys) same
some-drop (y ∷ ys) (suc i) x e = some-drop ys i x e

none-drop : (xs : List ℕ) (i : ℕ) → slice_get xs i ≡ None → drop i xs ≡ []
none-drop [] zero e = refl
none-drop [] (suc i) e = refl
none-drop (y ∷ ys) zero e = absurd (nothing e)
  where
    nothing : {x : ℕ} → Some x ≡ None → ⊥
    nothing e = cc
none-drop (y ∷ ys) (suc i) e = none-drop ys i e

-- the names compared from a place on
abbrev pub less_from : ℕ → List ℕ → List ℕ → Bool
less_from i xs ys = is_less (drop i xs) (drop i ys)

pub less-end : (i : ℕ) (xs ys : List ℕ) → None ≡ slice_get ys i → false ≡ less_from i xs ys
less-end i xs ys e = sym (ap (is_less (drop i xs)) (none-drop ys i (sym e)) ∙ no_less (drop i xs))
  where
    no_less : (zs : List ℕ) → is_less zs [] ≡ false
    no_less [] = refl
    no_less (z ∷ zs) = refl

pub less-start : (i y : ℕ) (xs ys : List ℕ) → None ≡ slice_get xs i → Some y ≡ slice_get ys i → true ≡ less_from i xs ys
less-start i y xs ys e f = sym (ap (λ l. is_less l (drop i ys)) (none-drop xs i (sym e)) ∙ ap (is_less []) (some-drop ys i y (sym f)))

pub less-more : (i x y : ℕ) (xs ys : List ℕ) → Some x ≡ slice_get xs i → Some y ≡ slice_get ys i → x ≡ y → less_from (i + 1) xs ys ≡ less_from i xs ys
less-more i x y xs ys e f same =
    rw add-one (sym (ap (λ l. is_less l (drop i ys)) (some-drop xs i x (sym e)) ∙ ap (is_less (x ∷ drop (suc i) xs)) (some-drop ys i y (sym f)) ∙ equal x y (drop (suc i) xs) (drop (suc i) ys) same))
  where
    equal : (x y : ℕ) (ms ns : List ℕ) → x ≡ y → is_less (x ∷ ms) (y ∷ ns) ≡ is_less ms ns
    equal x y ms ns e = grind (arith, common_steps)

pub less-here : (i x y : ℕ) (xs ys : List ℕ) → Some x ≡ slice_get xs i → Some y ≡ slice_get ys i → (x ≡ y → ⊥) → nat_lt x y ≡ less_from i xs ys
less-here i x y xs ys e f differ =
    sym (ap (λ l. is_less l (drop i ys)) (some-drop xs i x (sym e)) ∙ ap (is_less (x ∷ drop (suc i) xs)) (some-drop ys i y (sym f)) ∙ unequal x y (drop (suc i) xs) (drop (suc i) ys) differ)
  where
    unequal : (x y : ℕ) (ms ns : List ℕ) → (x ≡ y → ⊥) → is_less (x ∷ ms) (y ∷ ns) ≡ nat_lt x y
    unequal x y ms ns ne = grind (arith, common_steps)

pub less-stop : (i : ℕ) (xs ys : List ℕ) → length ys ≤ i → false ≡ less_from i xs ys
less-stop i xs ys h = less-end i xs ys (sym (past ys i h))
  where
    past : (ys : List ℕ) (i : ℕ) → length ys ≤ i → slice_get ys i ≡ None
    past [] zero h = refl
    past [] (suc i) h = refl
    past (y ∷ ys) zero h = absurd (omega arith)
    past (y ∷ ys) (suc i) h = past ys i (omega arith)

-- The pertinent entries are a closed set, and the least one.
use Rattle.std.proofs.Common.{◌≡◌, ℕ, zero, suc, ◌<◌, ◌≤◌, Bool, true, false, cond, ◌&&◌, ◌||◌, ◌⊎◌, inl, inr, List, [], ◌∷◌, map, length, refl, sym, ap, ◌∙◌, subst, arith}
use Rattle.std.specs.Prelude.{filter}
use Rattle.std.specs.List.{list_any}
use Rattle.std.proofs.lemmas.Bool.{or_cases, or_left, or_right, false≢true}
use Rattle.xf_def_forest.specs.Visit.{Visit}
use Rattle.xf_def_model.specs.Applied.{is_calculate}
use Rattle.xf_def_model.specs.Entries.{touches}
use Rattle.xf_def_model.specs.Pertinent.{Changes, Asking, AllOf, is_begun, reads_any, calculated_in, follows, next_wave, waves, pertinent_of, IsClosed, is_pertinent}
use Rattle.xf_def_model.proofs.EachLemmas.{of_each, each_then}

-- ---- filters by a test and by one that passes more

abbrev pub PassesMore : {X : Type 0} → (X → Bool) → (X → Bool) → X → Type 0
PassesMore s t x = s x ≡ true → t x ≡ true

grows-at : {X : Type 0} (x : X) (b c : Bool) (ys zs : List X) → (b ≡ true → c ≡ true)
    → (ys ≡ zs) ⊎ (length ys < length zs)
    → (cond b (x ∷ ys) ys ≡ cond c (x ∷ zs) zs) ⊎ (length (cond b (x ∷ ys) ys) < length (cond c (x ∷ zs) zs))
grows-at x true true ys zs h (inl e) = inl (ap (λ l. x ∷ l) e)
grows-at x true true ys zs h (inr less) = inr (omega arith)
grows-at x true false ys zs h r = absurd (false≢true (h refl))
grows-at x false true ys zs h (inl e) = inr (let same : length ys ≡ length zs = ap length e in omega arith)
grows-at x false true ys zs h (inr less) = inr (omega arith)
grows-at x false false ys zs h r = r

pub filter-grows : {X : Type 0} (s t : X → Bool) (xs : List X) → AllOf (PassesMore s t) xs → (filter s xs ≡ filter t xs) ⊎ (length (filter s xs) < length (filter t xs))
filter-grows s t [] h = inl refl
filter-grows s t (x ∷ xs) h = grows-at x (s x) (t x) (filter s xs) (filter t xs) h.0 (filter-grows s t xs h.1)

shorter-at : {X : Type 0} (x : X) (b : Bool) (ys zs : List X) → length ys ≤ length zs → length (cond b (x ∷ ys) ys) ≤ length (x ∷ zs)
shorter-at x true ys zs h = omega arith
shorter-at x false ys zs h = omega arith

pub filter-shorter : {X : Type 0} (s : X → Bool) (xs : List X) → length (filter s xs) ≤ length xs
filter-shorter s [] = omega arith
filter-shorter s (x ∷ xs) = shorter-at x (s x) (filter s xs) xs (filter-shorter s xs)

filter-none : {X : Type 0} (s : X → Bool) → ((x : X) → s x ≡ false) → (xs : List X) → filter s xs ≡ []
filter-none s h [] = refl
filter-none s h (x ∷ xs) = ap (λ b. cond b (x ∷ filter s xs) (filter s xs)) (h x) ∙ filter-none s h xs

-- ---- the nodes of calculates that pass

calculated-first : (p : ℕ → Bool) (x : Asking) (b : Bool) (xs : List Asking)
    → list_any p (map (λ (a : Asking). a.entry.node) (cond b (x ∷ xs) xs)) ≡ ((b && p x.entry.node) || list_any p (map (λ (a : Asking). a.entry.node) xs))
calculated-first p x true xs = refl
calculated-first p x false xs = refl

any-first : (p : ℕ → Bool) (x : Asking) (xs : List Asking) → list_any p (calculated_in (x ∷ xs)) ≡ ((is_calculate x.entry && p x.entry.node) || list_any p (calculated_in xs))
any-first p x xs = calculated-first p x (is_calculate x.entry) (filter (λ (a : Asking). is_calculate a.entry) xs)

nodes-at : (p : ℕ → Bool) (x : Asking) (b c : Bool) (ys zs : List Asking) → (b ≡ true → c ≡ true)
    → (list_any p (calculated_in ys) ≡ true → list_any p (calculated_in zs) ≡ true)
    → list_any p (calculated_in (cond b (x ∷ ys) ys)) ≡ true → list_any p (calculated_in (cond c (x ∷ zs) zs)) ≡ true
nodes-at p x true false ys zs h k e = absurd (false≢true (h refl))
nodes-at p x true true ys zs h k e =
    any-first p x zs
    ∙ elim (or_cases (is_calculate x.entry && p x.entry.node) (list_any p (calculated_in ys)) (sym (any-first p x ys) ∙ e)) [
      | inl one ↦ or_left (is_calculate x.entry && p x.entry.node) (list_any p (calculated_in zs)) one
      | inr later ↦ or_right (is_calculate x.entry && p x.entry.node) (list_any p (calculated_in zs)) (k later)
    ]
nodes-at p x false true ys zs h k e = any-first p x zs ∙ or_right (is_calculate x.entry && p x.entry.node) (list_any p (calculated_in zs)) (k e)
nodes-at p x false false ys zs h k e = k e

any-grows : (p : ℕ → Bool) (s t : Asking → Bool) (xs : List Asking) → AllOf (PassesMore s t) xs
    → list_any p (calculated_in (filter s xs)) ≡ true → list_any p (calculated_in (filter t xs)) ≡ true
any-grows p s t [] h e = e
any-grows p s t (x ∷ xs) h e = nodes-at p x (s x) (t x) (filter s xs) (filter t xs) h.0 (any-grows p s t xs h.1) e

module _ (all : List Visit) (changes : Changes) (asked : List Asking) where
  -- what follows from some entries follows from more of them
  follows-grows : (s t : Asking → Bool) → AllOf (PassesMore s t) asked → (a : Asking)
      → follows all changes (filter s asked) a ≡ true → follows all changes (filter t asked) a ≡ true
  follows-grows s t h a e = elim (or_cases (is_begun all changes a) (reads_any all a (calculated_in (filter s asked))) e) [
    | inl one ↦ or_left (is_begun all changes a) (reads_any all a (calculated_in (filter t asked))) one
    | inr read ↦ or_right (is_begun all changes a) (reads_any all a (calculated_in (filter t asked))) (any-grows (touches all a.reads) s t asked h read)
  ]

  -- ---- the waves as tests

  abbrev in_wave : ℕ → Asking → Bool
  in_wave zero a = false
  in_wave (suc k) a = follows all changes (filter (in_wave k) asked) a

  waves-next : (k : ℕ) (wave : List Asking) → waves all changes asked k (next_wave all changes asked wave) ≡ next_wave all changes asked (waves all changes asked k wave)
  waves-next zero wave = refl
  waves-next (suc k) wave = waves-next k (next_wave all changes asked wave)

  waves-tests : (k : ℕ) → waves all changes asked k [] ≡ filter (in_wave k) asked
  waves-tests zero = sym (filter-none (in_wave zero) (λ x. refl) asked)
  waves-tests (suc k) = waves-next k [] ∙ ap (next_wave all changes asked) (waves-tests k)

  wave-grows : (k : ℕ) (a : Asking) → in_wave k a ≡ true → in_wave (suc k) a ≡ true
  wave-grows zero a e = absurd (false≢true e)
  wave-grows (suc k) a e = follows-grows (in_wave k) (in_wave (suc k)) (of_each (PassesMore (in_wave k) (in_wave (suc k))) (wave-grows k) asked) a e

  grown : (k : ℕ) → AllOf (PassesMore (in_wave k) (in_wave (suc k))) asked
  grown k = of_each (PassesMore (in_wave k) (in_wave (suc k))) (wave-grows k) asked

  -- ---- a wave that adds nothing comes before there are more waves than entries

  stands-or_grew : (k : ℕ) → (filter (in_wave k) asked ≡ filter (in_wave (suc k)) asked) ⊎ (k < length (filter (in_wave (suc k)) asked))
  stands-or_grew zero = elim (filter-grows (in_wave zero) (in_wave (suc zero)) asked (grown zero)) [ inl e ↦ inl e | inr less ↦ inr (omega (arith, less)) ]
  stands-or_grew (suc k) = elim (stands-or_grew k) [
    | inl e ↦ inl (ap (next_wave all changes asked) e)
    | inr less ↦ elim (filter-grows (in_wave (suc k)) (in_wave (suc (suc k))) asked (grown (suc k))) [ inl e ↦ inl e | inr more ↦ inr (omega (arith, less, more)) ]
  ]

  stands : filter (in_wave (length asked)) asked ≡ filter (in_wave (suc (length asked))) asked
  stands = elim (stands-or_grew (length asked)) [
    | inl e ↦ e
    | inr less ↦ absurd (omega (arith, less, filter-shorter (in_wave (suc (length asked))) asked))
  ]

  -- the pertinent entries are those that follow from them
  pub pertinent-stands : pertinent_of all changes asked ≡ next_wave all changes asked (pertinent_of all changes asked)
  pertinent-stands =
      let same = waves-tests (length asked) in
      same ∙ stands ∙ ap (next_wave all changes asked) (sym same)

  -- they are a closed set
  pub pertinent-closed : IsClosed all changes asked (is_pertinent all changes asked)
  pertinent-closed =
      of_each _ (λ a e. subst (λ wave. follows all changes wave a ≡ true) (sym pertinent-stands) e) asked

  -- and are in each
  least-at : (set : Asking → Bool) → IsClosed all changes asked set → (k : ℕ) → AllOf (PassesMore (in_wave k) set) asked
  least-at set closed zero = of_each (PassesMore (in_wave zero) set) (λ a e. absurd (false≢true e)) asked
  least-at set closed (suc k) =
      each_then _ (PassesMore (in_wave (suc k)) set) (λ a holds e. holds (follows-grows (in_wave k) set (least-at set closed k) a e)) asked closed

  pub pertinent-least : (set : Asking → Bool) → IsClosed all changes asked set → AllOf (PassesMore (is_pertinent all changes asked) set) asked
  pertinent-least set closed =
      subst (λ wave. AllOf (PassesMore (follows all changes wave) set) asked) (sym (waves-tests (length asked))) (least-at set closed (suc (length asked)))

-- What surrounds the calculates of a form whose texts stand in elements, outside an event.
use Rattle.std.proofs.Common.{◌≡◌, ℕ, zero, suc, ◌+◌, ◌<◌, ◌==◌, Bool, true, false, ◌||◌, List, [], ◌∷◌, nat_lt, get_or, Some, refl, ap, subst, arith}
use Rattle.std.specs.Prelude.{◌^◌}
use Rattle.std.proofs.lemmas.Bool.Decides.{nat_tests}
use Rattle.xf_def_values.specs.declared.plain.Plain.{Plain}
use Rattle.xf_def_forest.specs.declared.content.Node.{Node}
use Rattle.xf_def_forest.specs.Forest.{Forest}
use Rattle.xf_def_forest.specs.Visit.{has, still_above, visits_from}
use Rattle.xf_def_forest.specs.WellFormed.{HasTrees, are_below}
use Rattle.xf_def_forest.proofs.BackLaws.{and-true}
use Rattle.xf_def_xpath.specs.Agree.{numbers_of}
use Rattle.xf_def_xpath.specs.Table.{Function, function_at, functions}
use Rattle.xf_def_xpath.specs.Table as of
use Rattle.xf_def_xpath.proofs.VisitFacts.{no}
use Rattle.xf_funcs.specs.Called.{called}
use Rattle.xf_funcs.proofs.CallLaws.{IsTruth, within_a_limit, boolean-from-string_gives_truths, contains_gives_truths, starts-with_gives_truths}
use Rattle.xf_def_model.specs.Settled.{bounds}
use Rattle.xf_law_recalculation.specs.Agree.Hung.{are_hung}
use Rattle.xf_law_recalculation.specs.Agree.Settles.{Surrounds}
use Rattle.xf_law_recalculation.proofs.AgreeLemmas.HungLaws.{hung_forest}
use Rattle.xf_form.specs.declared.loaded.Loaded.{Loaded}
use Rattle.xf_engine_state.specs.Built.{scope_at}
use Rattle.xf_engine_state.proofs.SolidLaws.{document-solid}

-- ---- functions that give truths

is_asking : Function → Bool
is_asking of.asking = true
is_asking other = false

abbrev also : Bool → Type 0 → Type 0 → Type 0
also true A B = A × B
also false A B = B

-- a fact of the code of each function that gives a truth, where the first has this code
abbrev EachAsking : (ℕ → Type 0) → ℕ → List Function → Type 0
EachAsking P code [] = Unit {0}
EachAsking P code (f ∷ fs) = also (is_asking f) (P code) (EachAsking P (suc code) fs)

asking-first : (A B : Type 0) (b : Bool) → also b A B → b ≡ true → A
asking-first A B true h e = h.0
asking-first A B false h e = no e

asking-rest : (A B : Type 0) (b : Bool) → also b A B → B
asking-rest A B true h = h.1
asking-rest A B false h = h

asking-at : (P : ℕ → Type 0) (code : ℕ) (fs : List Function) (k : ℕ) → EachAsking P code fs → get_or fs k of.plainly ≡ of.asking → P (code + k)
unfolding is_asking
asking-at P code [] k h e = no (ap is_asking e)
asking-at P code (f ∷ fs) zero h e =
    let same : code ≡ code + 0 = omega arith in
    subst P same (asking-first (P code) (EachAsking P (suc code) fs) (is_asking f) h (ap is_asking e))
asking-at P code (f ∷ fs) (suc k) h e =
    let same : suc code + k ≡ code + suc k = omega arith in
    subst P same (asking-at P (suc code) fs k (asking-rest (P code) (EachAsking P (suc code) fs) (is_asking f) h) e)

-- with d decimals
abbrev pub Truthful : ℕ → ℕ → Type 0
Truthful d code = (ps : List Plain) (p : Plain) → called (Some bounds.string) d code ps ≡ Some p → IsTruth p

pub truthful : (d code : ℕ) → function_at code ≡ of.asking → Truthful d code
unfolding is_asking
truthful d code e =
    let same : 0 + code ≡ code = omega arith in
    subst (Truthful d) same (asking-at (Truthful d) 0 functions code (
      boolean-from-string_gives_truths (Some bounds.string) d,
      (contains_gives_truths (Some bounds.string) d, (starts-with_gives_truths (Some bounds.string) d, tt)),
    ) e)

-- ---- numbers

number-below : (next k : ℕ) (above nodes : List Node) → are_below next nodes ≡ true → has k (numbers_of (visits_from above nodes)) ≡ true → nat_lt k next ≡ true
number-below next k above [] h e = no e
number-below next k above (x ∷ xs) h e = by (k == x.number) refl e (number-below next k (x ∷ still_above x.depth above) xs (and-true (nat_lt x.number next) (are_below next xs) h).1)
  where
    first : nat_lt x.number next ≡ true
    first = (and-true (nat_lt x.number next) (are_below next xs) h).0

    by : (b : Bool) → (k == x.number) ≡ b → (b || has k (numbers_of (visits_from (x ∷ still_above x.depth above) xs))) ≡ true
        → (has k (numbers_of (visits_from (x ∷ still_above x.depth above) xs)) ≡ true → nat_lt k next ≡ true) → nat_lt k next ≡ true
    by true i j later = grind (arith, nat_tests, i, first)
    by false i j later = later j

less : (k next most : ℕ) → nat_lt k next ≡ true → next < most → nat_lt k most ≡ true
less k next most h e = grind (arith, nat_tests, h, e)

-- ---- what surrounds

pub surrounds : (loaded : Loaded) (forest : Forest) (model : ℕ) → HasTrees forest → are_hung forest.nodes ≡ true → forest.next < 2 ^ 126
    → Surrounds (scope_at loaded forest model) bounds.string forest
surrounds loaded forest model trees hung small =
    let texts = hung_forest forest trees hung in
    let few : forest.next < 2 ^ 128 = omega (arith, small) in
    record {
      trees = trees;
      below = λ k h. less k forest.next (2 ^ 128) (number-below forest.next k [] forest.nodes trees.below h) few;
      hung = texts;
      documents = λ id n e. document-solid forest trees texts loaded.form.tables.instances model id n e;
      extend = λ code ps p e. within_a_limit (Some bounds.string) loaded.form.decimals code ps p e;
      truths = λ code ps p e f. truthful loaded.form.decimals code e ps p f;
    }

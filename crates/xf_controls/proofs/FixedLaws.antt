-- Expressions that name nodes by where they stand, of their parts.
use Rattle.std.proofs.Common.{◌≡◌, ℕ, ◌+◌, ◌<◌, ◌≤◌, Bool, true, false, not, ◌&&◌, ◌||◌, List, [], ◌∷◌, map, length, get_or, drop, refl, sym, ap, ◌∙◌, subst}
use Rattle.std.specs.List.{list_all}
use Rattle.std.proofs.lemmas.List.{drop_all, drop_more}
use Rattle.xf_def_syntax.specs.declared.expr.Expr.{Expr}
use Rattle.xf_def_syntax.specs.declared.expr.Start.{Start}
use Rattle.xf_def_syntax.specs.declared.expr.Step.{Step}
use Rattle.xf_def_syntax.specs.declared.expr.Expr.TheOpen.{Expr-F}
use Rattle.xf_def_syntax.specs.declared.expr.Expr.TheFolds.{fold-roll-Expr, fold-Step, fold_out-Step}
use Rattle.xf_def_syntax.specs.declared.expr.Expr.TheVariants.{Number, Literal, Call, Path, From, rolls-Number, rolls-Literal, rolls-Call, rolls-Path, rolls-From}
use Rattle.xf_def_values.specs.Conversions.{Decimal}
use Rattle.xf_def_xpath.specs.AskedSteps.{goes_up, is_kind, meets_texts}
use Rattle.xf_def_xpath.specs.Exact.{Facts, LinkFacts, all_placed, expr_facts, facts_of, is_sibling, link_facts, step_facts}
use Rattle.xf_def_xpath.specs.Quiet.{Quiet, LinkQuiet, all_silent, expr_quiet, link_quiet, quiet_of, step_quiet}
use Rattle.xf_def_model.specs.Pertinent.{AllOf}
use Rattle.xf_law_bindings.specs.Fixed.{IsPlace}
use Rattle.xf_controls.specs.Fixed.{IsPlaceStep, IsWritten}

-- ---- what holds of each, as a loop comes to it

pub all-more : {X : Type 0} (P : X → Type 0) (xs : List X) (i : ℕ) (x : X) → i < length xs → x ≡ get_or xs i x → P x → (AllOf P (drop i xs) → AllOf P xs) → AllOf P (drop (i + 1) xs) → AllOf P xs
all-more P xs i x l is p whole rest = whole (subst (AllOf P) (sym (drop_more xs i x l)) (subst P is p, rest))

pub all-get : {X : Type 0} (P : X → Type 0) (xs : List X) (i : ℕ) (d : X) → i < length xs → P (get_or xs i d) → (AllOf P (drop i xs) → AllOf P xs) → AllOf P (drop (i + 1) xs) → AllOf P xs
all-get P xs i d l p whole rest = whole (subst (AllOf P) (sym (drop_more xs i d l)) (p, rest))

pub all-end : {X : Type 0} (P : X → Type 0) (xs : List X) (i : ℕ) → length xs ≤ i → (AllOf P (drop i xs) → AllOf P xs) → AllOf P xs
all-end P xs i l whole = whole (subst (AllOf P) (sym (drop_all i xs l)) tt)

-- ---- numbers and texts

facts-Number : (place : ℕ) (k : Decimal) → facts_of (Number place k) ≡ expr_facts (Expr-F.Number place k)
facts-Number place k = ap facts_of (sym (rolls-Number place k)) ∙ fold-roll-Expr Facts LinkFacts Bool expr_facts link_facts step_facts (Expr-F.Number place k)

quiet-Number : (place : ℕ) (k : Decimal) → quiet_of (Number place k) ≡ expr_quiet (Expr-F.Number place k)
quiet-Number place k = ap quiet_of (sym (rolls-Number place k)) ∙ fold-roll-Expr Quiet LinkQuiet Bool expr_quiet link_quiet step_quiet (Expr-F.Number place k)

facts-Literal : (place : ℕ) (text : List ℕ) → facts_of (Literal place text) ≡ expr_facts (Expr-F.Literal place text)
facts-Literal place text = ap facts_of (sym (rolls-Literal place text)) ∙ fold-roll-Expr Facts LinkFacts Bool expr_facts link_facts step_facts (Expr-F.Literal place text)

quiet-Literal : (place : ℕ) (text : List ℕ) → quiet_of (Literal place text) ≡ expr_quiet (Expr-F.Literal place text)
quiet-Literal place text = ap quiet_of (sym (rolls-Literal place text)) ∙ fold-roll-Expr Quiet LinkQuiet Bool expr_quiet link_quiet step_quiet (Expr-F.Literal place text)

pub number-written : (place : ℕ) (k : Decimal) (e : Expr) → e ≡ Number place k → IsWritten e
number-written place k e is = subst IsWritten (sym is) (record {
  placed = ap (λ (x : Facts). x.is_placed) (facts-Number place k);
  quiet = ap (λ (x : Quiet). x.is_quiet) (quiet-Number place k);
  empty = ap (λ (x : Quiet). x.is_empty) (quiet-Number place k);
})

pub literal-written : (place : ℕ) (text : List ℕ) (e : Expr) → e ≡ Literal place text → IsWritten e
literal-written place text e is = subst IsWritten (sym is) (record {
  placed = ap (λ (x : Facts). x.is_placed) (facts-Literal place text);
  quiet = ap (λ (x : Quiet). x.is_quiet) (quiet-Literal place text);
  empty = ap (λ (x : Quiet). x.is_empty) (quiet-Literal place text);
})

placed-all : (es : List Expr) → AllOf IsWritten es → all_placed (map facts_of es) ≡ true
placed-all [] h = refl
placed-all (e ∷ es) h = ap (λ b. b && all_placed (map facts_of es)) h.0.placed ∙ placed-all es h.1

silent-all : (es : List Expr) → AllOf IsWritten es → all_silent (map quiet_of es) ≡ true
silent-all [] h = refl
silent-all (e ∷ es) h =
    ap (λ b. (b && (quiet_of e).is_empty) && all_silent (map quiet_of es)) h.0.quiet ∙ ap (λ b. b && all_silent (map quiet_of es)) h.0.empty ∙ silent-all es h.1

-- ---- a named instance

facts-Call : (place code : ℕ) (arguments : List Expr) → facts_of (Call place code arguments) ≡ expr_facts (Expr-F.Call place code (map facts_of arguments))
facts-Call place code arguments = ap facts_of (sym (rolls-Call place code arguments)) ∙ fold-roll-Expr Facts LinkFacts Bool expr_facts link_facts step_facts (Expr-F.Call place code arguments)

quiet-Call : (place code : ℕ) (arguments : List Expr) → quiet_of (Call place code arguments) ≡ expr_quiet (Expr-F.Call place code (map quiet_of arguments))
quiet-Call place code arguments = ap quiet_of (sym (rolls-Call place code arguments)) ∙ fold-roll-Expr Quiet LinkQuiet Bool expr_quiet link_quiet step_quiet (Expr-F.Call place code arguments)

instance-place : (place : ℕ) (arguments : List Expr) → AllOf IsWritten arguments → IsPlace (Call place 18 arguments)
instance-place place arguments h = record {
  exact = ap (λ (x : Facts). x.is_exact) (facts-Call place 18 arguments) ∙ placed-all arguments h;
  quiet = ap (λ (x : Quiet). x.is_quiet) (quiet-Call place 18 arguments) ∙ silent-all arguments h;
}

pub call-place : (place code : ℕ) (arguments : List Expr) (e : Expr) → e ≡ Call place code arguments → code ≡ 18 → AllOf IsWritten arguments → IsPlace e
call-place place code arguments e is named h = subst IsPlace (sym (is ∙ ap (λ c. Call place c arguments) named)) (instance-place place arguments h)

-- ---- steps

first-none : (a b : Bool) → (a || b) ≡ false → a ≡ false
first-none true b h = cc h
first-none false b h = refl

pair-none : (below up sibling : Bool) → (below && (up || sibling)) ≡ false → (below && up) ≡ false
pair-none true up sibling h = first-none up sibling h
pair-none false up sibling h = refl

kinds-none : (written kind texts : Bool) → (kind && texts) ≡ false → (written && kind && texts) ≡ false
kinds-none true kind texts h = h
kinds-none false kind texts h = refl

pub step-place : (s : Step) → (is_kind s.test && meets_texts s.axis) ≡ false → (s.is_below && (goes_up s.axis || is_sibling s.axis)) ≡ false → AllOf IsWritten s.predicates → IsPlaceStep s
step-place s kinds back h = record {
  exact =
      fold_out-Step Facts LinkFacts Bool expr_facts link_facts step_facts s
      ∙ ap (λ b. not b && not (s.is_below && (goes_up s.axis || is_sibling s.axis)) && all_placed (map facts_of s.predicates)) kinds
      ∙ ap (λ b. not b && all_placed (map facts_of s.predicates)) back ∙ placed-all s.predicates h;
  quiet =
      fold_out-Step Quiet LinkQuiet Bool expr_quiet link_quiet step_quiet s
      ∙ ap (λ b. not b && not (s.is_below && goes_up s.axis)) (kinds-none s.is_written (is_kind s.test) (meets_texts s.axis) kinds)
      ∙ ap not (pair-none s.is_below (goes_up s.axis) (is_sibling s.axis) back);
}

-- ---- paths

abbrev exact_step : Step → Bool
exact_step = fold-Step Facts LinkFacts Bool expr_facts link_facts step_facts

abbrev quiet_step : Step → Bool
quiet_step = fold-Step Quiet LinkQuiet Bool expr_quiet link_quiet step_quiet

all-exact : (steps : List Step) → AllOf IsPlaceStep steps → list_all (λ b. b) (map exact_step steps) ≡ true
all-exact [] h = refl
all-exact (s ∷ steps) h = ap (λ b. b && list_all (λ c. c) (map exact_step steps)) h.0.exact ∙ all-exact steps h.1

all-quiet : (steps : List Step) → AllOf IsPlaceStep steps → list_all (λ b. b) (map quiet_step steps) ≡ true
all-quiet [] h = refl
all-quiet (s ∷ steps) h = ap (λ b. b && list_all (λ c. c) (map quiet_step steps)) h.0.quiet ∙ all-quiet steps h.1

pub path-place : (place : ℕ) (start : Start) (steps : List Step) (e : Expr) → e ≡ Path place start steps → AllOf IsPlaceStep steps → IsPlace e
path-place place start steps e is h = subst IsPlace (sym is) (record {
  exact =
      ap (λ (x : Facts). x.is_exact) (ap facts_of (sym (rolls-Path place start steps)) ∙ fold-roll-Expr Facts LinkFacts Bool expr_facts link_facts step_facts (Expr-F.Path place start steps))
      ∙ all-exact steps h;
  quiet =
      ap (λ (x : Quiet). x.is_quiet) (ap quiet_of (sym (rolls-Path place start steps)) ∙ fold-roll-Expr Quiet LinkQuiet Bool expr_quiet link_quiet step_quiet (Expr-F.Path place start steps))
      ∙ all-quiet steps h;
})

pub from-place : (first : Expr) (steps : List Step) (e : Expr) → e ≡ From first steps → IsPlace first → AllOf IsPlaceStep steps → IsPlace e
from-place first steps e is p h = subst IsPlace (sym is) (record {
  exact =
      ap (λ (x : Facts). x.is_exact) (ap facts_of (sym (rolls-From first steps)) ∙ fold-roll-Expr Facts LinkFacts Bool expr_facts link_facts step_facts (Expr-F.From first steps))
      ∙ ap (λ b. b && list_all (λ c. c) (map exact_step steps)) p.exact ∙ all-exact steps h;
  quiet =
      ap (λ (x : Quiet). x.is_quiet) (ap quiet_of (sym (rolls-From first steps)) ∙ fold-roll-Expr Quiet LinkQuiet Bool expr_quiet link_quiet step_quiet (Expr-F.From first steps))
      ∙ ap (λ b. b && list_all (λ c. c) (map quiet_step steps)) p.quiet ∙ all-quiet steps h;
})

-- A string that passes the limit in a part passes it whole.
use Rattle.std.proofs.Common.{◌≡◌, ◌⊎◌, ℕ, ◌+◌, ◌<◌, ◌≤◌, true, false, nat_lt, if◌then◌else◌, List, length, get_or, take, flat_map, Some, None, sym, ap, ◌∙◌, arith, inl, inr}
use Rattle.std.proofs.lemmas.Bool.{cases_lt}
use Rattle.std.proofs.lemmas.Bool.Decides.{nat_tests}
use Rattle.std.proofs.lemmas.List.Folds.{length-flat_map-take}
use Rattle.xf_base.specs.Limits.{string_limit}
use Rattle.xf_def_values.specs.declared.plain.Plain.{Plain}
use Rattle.xf_def_values.specs.Bounded.{capped}
use Rattle.xf_def_values.specs.Conversions.{text_in}
use Rattle.xf_funcs.specs.declared.fault.FuncFault.{FuncFault}
use Rattle.xf_funcs.specs.declared.fault.FuncFault.TheVariants.{Long, Memory}
use Rattle.xf_funcs.specs.Given.{string_of}
use Rattle.xf_funcs.specs.Called.{text, concat_of}

pub too_long : (bytes : List ℕ) → string_limit < length bytes → capped (Some string_limit) bytes ≡ None
too_long bytes h = let yes : nat_lt string_limit (length bytes) ≡ true = grind (arith, nat_tests) in ap (λ b. if b then None else Some bytes) yes

short_enough : (bytes : List ℕ) → length bytes ≤ string_limit → capped (Some string_limit) bytes ≡ Some bytes
short_enough bytes h = let no : nat_lt string_limit (length bytes) ≡ false = grind (arith, nat_tests) in ap (λ b. if b then None else Some bytes) no

-- what is kept is the string itself
pub is_kept : (bytes made : List ℕ) → capped (Some string_limit) bytes ≡ Some made → made ≡ bytes
is_kept bytes made h = elim (cases_lt string_limit (length bytes)) as (λ _. made ≡ bytes) [
  | inl l ↦ absurd (let e = sym (too_long bytes l) ∙ h in cc)
  | inr l ↦ let e = sym (short_enough bytes l) ∙ h in cc
]

-- what is refused is too long
pub is_long : (bytes : List ℕ) → capped (Some string_limit) bytes ≡ None → string_limit < length bytes
is_long bytes h = elim (cases_lt string_limit (length bytes)) as (λ _. string_limit < length bytes) [
  | inl l ↦ l
  | inr l ↦ absurd (let e = sym (short_enough bytes l) ∙ h in cc)
]

-- ---- concatenation

abbrev concatenated : ℕ → List Plain → List ℕ
concatenated d given = flat_map (text_in d) given

long_with : (d : ℕ) (given : List Plain) (i : ℕ) (value : Plain) → i < length given → value ≡ get_or given i value → string_limit < length (concatenated d (take i given)) + length (text_in d value) → concat_of (Some string_limit) d given ≡ None
long_with d given i value l e h =
    let more = length-flat_map-take (text_in d) given i value l in
    let same : length (text_in d (get_or given i value)) ≡ length (text_in d value) = ap (λ v. length (text_in d v)) (sym e) in
    ap text (too_long (concatenated d given) (omega arith))

pub concat_fault : (d : ℕ) (given : List Plain) (i : ℕ) (value : Plain) (fault : FuncFault) → i < length given → value ≡ get_or given i value → (fault ≡ Memory) ⊎ ((fault ≡ Long) × (string_of (Some string_limit) d value ≡ None)) → (fault ≡ Memory) ⊎ ((fault ≡ Long) × (concat_of (Some string_limit) d given ≡ None))
concat_fault d given i value fault l e (inl memory) = inl memory
concat_fault d given i value fault l e (inr refused) =
    let long = is_long (text_in d value) refused.1 in
    inr (refused.0, long_with d given i value l e (omega (arith, long)))

pub concat_long : (d : ℕ) (given : List Plain) (i : ℕ) (value : Plain) (made string : List ℕ) → i < length given → value ≡ get_or given i value → made ≡ concatenated d (take i given) → string_of (Some string_limit) d value ≡ Some string → string_limit < length made + length string → concat_of (Some string_limit) d given ≡ None
concat_long d given i value made string l e m s h =
    long_with d given i value l e (omega (arith, ap length m, ap length (is_kept (text_in d value) string s)))

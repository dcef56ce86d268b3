-- The bytes that were read of a form give what all of its bytes give.
use Rattle.std.proofs.Common.{◌≡◌, ◌⊎◌, ◌≤◌, ◌^◌, ℕ, List, [], ◌++◌, length, nat_lt, Bool, true, false, Option, Some, None, Result, Ok, Err, refl, ap, sym, ◌∙◌, arith, length-append, if◌then◌else◌, inl, inr}
use Rattle.std.specs.Io.KnownBytes.{Consumes, IsAtEnd}
use Rattle.std.proofs.lemmas.Bool.Decides.{nat_tests}
use Rattle.std.proofs.lemmas.List.{append-nil}
use Rattle.xf_base.specs.Limits.{form_limit}
use Rattle.xf_json.specs.Element.{lit_in}
use Rattle.xf_form.specs.declared.fault.FormFault.{FormFault}
use Rattle.xf_form.specs.declared.fault.FormFault.TheVariants.{Refused}
use Rattle.xf_form.specs.declared.loaded.Loaded.{Loaded}
use Rattle.xf_form.specs.Loading.{loaded_in, by_json}
use Rattle.xf_cli_commands.specs.Forms.{Give}
use Rattle.xf_cli_commands.specs.Finish.{GivesForm}

abbrev by_size : Bool → Result Loaded FormFault → Result Loaded FormFault
by_size large r = if large then Err (Refused 2 []) else r

too_large : (bytes : List ℕ) → nat_lt form_limit (length bytes) ≡ true → loaded_in bytes ≡ Err (Refused 2 [])
too_large bytes h = ap (λ large. by_size large (by_json (lit_in bytes))) h

larger : (xs read ys : List ℕ) → xs ≡ read ++ ys → nat_lt form_limit (length read) ≡ true → nat_lt form_limit (length xs) ≡ true
larger xs read ys c h =
    let l : form_limit ≤ length read = grind (arith, nat_tests, h) in
    let same = ap length c ∙ length-append read ys in
    grind (arith, nat_tests, same, h)

no_more : (n : ℕ) → nat_lt form_limit n ≡ false → n ≤ 2 ^ 20
no_more n h = grind (arith, nat_tests, h)

pub gives : (form left : Option (List ℕ)) (read : List ℕ) (given : Result Loaded FormFault) → Consumes form left read → (length read ≤ 2 ^ 20 → IsAtEnd left) → loaded_in read ≡ given → Give form given
gives None left read given c e r = record { bytes = read; of = tt; give = r }
gives (Some xs) None read given c e r = absurd c
gives (Some xs) (Some ys) read given c e r = by (nat_lt form_limit (length read)) refl
  where
    by : (large : Bool) → nat_lt form_limit (length read) ≡ large → Give (Some xs) given
    by true h = record { bytes = xs; of = refl; give = too_large xs (larger xs read ys c h) ∙ sym (too_large read h) ∙ r }
    by false h = record { bytes = xs; of = refl; give = ap loaded_in (c ∙ ap (λ l. read ++ l) (e (no_more (length read) h)) ∙ append-nil read) ∙ r }

-- ---- what loading them answers

no_fault : {X : Type 0} (bytes : List ℕ) (l : Loaded) → loaded_in bytes ≡ Ok l → nat_lt form_limit (length bytes) ≡ true → X
no_fault bytes l e h =
    let both : Err (Refused 2 []) ≡ Ok l = sym (too_large bytes h) ∙ e in
    absurd (cc)

-- a form that is loaded is small
pub small : (bytes : List ℕ) (l : Loaded) → loaded_in bytes ≡ Ok l → length bytes ≤ form_limit
small bytes l e = by_test (nat_lt form_limit (length bytes)) refl
  where
    by_test : (large : Bool) → nat_lt form_limit (length bytes) ≡ large → length bytes ≤ form_limit
    by_test true h = no_fault bytes l e h
    by_test false h = no_more (length bytes) h

given_by : (form left : Option (List ℕ)) (read : List ℕ) (l : Loaded) → Consumes form left read → (length read ≤ form_limit → IsAtEnd left) → loaded_in read ≡ Ok l → GivesForm form l read
given_by None left read l c e r = (tt, r)
given_by (Some xs) None read l c e r = absurd c
given_by (Some xs) (Some ys) read l c e r = (c ∙ ap (λ l. read ++ l) (e (small read l r)) ∙ append-nil read, r)

pub gives_form : (form left : Option (List ℕ)) (read seen : List ℕ) (l : Loaded) → Consumes form left read × (length read ≤ form_limit → IsAtEnd left)
    → seen ≡ read → loaded_in seen ≡ Ok l → GivesForm form l read
gives_form form left read seen l was same e = given_by form left read l was.0 was.1 (ap loaded_in (sym same) ∙ e)

-- Texts, part behind part.
use Rattle.std.proofs.Common.{◌≡◌, ℕ, false, List, ◌++◌, length, nat_eq, cond, sym, ap, ◌∙◌, append_assoc, refl}
use Rattle.std.specs.Prelude.{codes}
use Rattle.xf_form_explain.specs.Texts.{quoted, misplaced_text}

pub two_parts : (old a b new : List ℕ) → new ≡ old ++ a ++ b → new ≡ old ++ (a ++ b)
two_parts old a b new h = h ∙ append_assoc old a b

pub three_parts : (old a b c new : List ℕ) → new ≡ old ++ a ++ b ++ c → new ≡ old ++ (a ++ b ++ c)
three_parts old a b c new h = h ∙ ap (λ x. x ++ c) (append_assoc old a b) ∙ append_assoc old (a ++ b) c

pub four_parts : (old a b c d new : List ℕ) → new ≡ old ++ a ++ b ++ c ++ d → new ≡ old ++ (a ++ b ++ c ++ d)
four_parts old a b c d new h = h ∙ ap (λ x. x ++ d) (three_parts old a b c (old ++ a ++ b ++ c) refl) ∙ append_assoc old (a ++ b ++ c) d

pub five_parts : (old a b c d e new : List ℕ) → new ≡ old ++ a ++ b ++ c ++ d ++ e → new ≡ old ++ (a ++ b ++ c ++ d ++ e)
five_parts old a b c d e new h = h ∙ ap (λ x. x ++ e) (four_parts old a b c d (old ++ a ++ b ++ c ++ d) refl) ∙ append_assoc old (a ++ b ++ c ++ d) e

-- it stands in another element
pub placed_in : (old around new : List ℕ) → nat_eq (length around) 0 ≡ false → new ≡ old ++ codes ": it may not stand in " ++ quoted around → new ≡ old ++ misplaced_text around
placed_in old around new apart h =
    two_parts old (codes ": it may not stand in ") (quoted around) new h
    ∙ ap (λ t. old ++ cond t (codes ": it may not stand around all others") (codes ": it may not stand in " ++ quoted around)) (sym apart)

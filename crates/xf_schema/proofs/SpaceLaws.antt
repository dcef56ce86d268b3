-- White space replaced one character after the other.
use Rattle.std.proofs.Common.{◌≡◌, ℕ, List, [], ◌∷◌, ◌++◌, map, sym, ap, ◌∙◌, append-nil, append_assoc}
use Rattle.std.specs.Prelude.{encode_utf8, encode_utf8_all}
use Rattle.xf_schema.specs.Spaces.{as_space}

pub one-replaced : (made new whole rest all : List ℕ) (c d : ℕ) → d ≡ as_space c → new ≡ made ++ encode_utf8 d → all ≡ c ∷ rest → made ++ encode_utf8_all (map as_space all) ≡ whole
    → new ++ encode_utf8_all (map as_space rest) ≡ whole
one-replaced made new whole rest all c d e h i k =
    ap (λ l. l ++ encode_utf8_all (map as_space rest)) (h ∙ ap (λ x. made ++ encode_utf8 x) e)
    ∙ append_assoc made (encode_utf8 (as_space c)) (encode_utf8_all (map as_space rest))
    ∙ sym (ap (λ l. made ++ encode_utf8_all (map as_space l)) i) ∙ k

pub all-replaced : (made whole all : List ℕ) → all ≡ [] → made ++ encode_utf8_all (map as_space all) ≡ whole → made ≡ whole
all-replaced made whole all none k = sym (append-nil made) ∙ sym (ap (λ l. made ++ encode_utf8_all (map as_space l)) none) ∙ k

-- String values in pieces: where there are several, the value is not empty.
use Rattle.std.proofs.Common.{◌≡◌, ℕ, ◌==◌, false, List, [], ◌∷◌, map, filter, find, Option, Some, None, refl, sym, ap, ◌∙◌}
use Rattle.xf_num.specs.Written.{is_empty}
use Rattle.xf_def_forest.specs.Forest.{own_text}
use Rattle.xf_def_forest.specs.Visit.{Visit}
use Rattle.xf_def_forest.specs.StringValue.{text_below, string_value, has_character, pieces, pieces_in, whole}
use Rattle.xf_def_forest.proofs.PieceLaws.{joined, pieces-value, whole-value}

filled-joined : (ls : List (List ℕ)) → whole (filter has_character ls) ≡ None → is_empty (joined (filter has_character ls)) ≡ false
filled-joined [] h = cc h
filled-joined ([] ∷ ls) h = filled-joined ls h
filled-joined ((c ∷ cs) ∷ ls) h = refl

pub many-filled : (n : ℕ) (all : List Visit) → None ≡ whole (pieces n all) → false ≡ is_empty (string_value n all)
many-filled n all h = sym (ap is_empty (sym (pieces-value n all)) ∙ by (find (λ x. x.number == n) all) (sym h))
  where
    by : (found : Option Visit) → whole (pieces_in all found) ≡ None → is_empty (joined (pieces_in all found)) ≡ false
    by None i = cc i
    by (Some x) i = filled-joined (own_text x.content ∷ map (text_below x.number) all) i

pub one-filled : (n : ℕ) (all : List Visit) (text : List ℕ) → Some text ≡ whole (pieces n all) → is_empty text ≡ is_empty (string_value n all)
one-filled n all text h = ap is_empty (whole-value n all text (sym h))

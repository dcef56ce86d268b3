-- The pieces of a string value, one after another, are the string value.
use Rattle.std.proofs.Common.{◌≡◌, ℕ, ◌==◌, List, [], ◌∷◌, ◌++◌, map, Option, Some, None, refl, sym, ap, ◌∙◌}
use Rattle.std.specs.Prelude.{filter, find}
use Rattle.std.specs.List.{flat_map}
use Rattle.xf_def_forest.specs.Forest.{own_text}
use Rattle.xf_def_forest.specs.Visit.{Visit}
use Rattle.xf_def_forest.specs.StringValue.{text_below, string_value, value_in, has_character, pieces, pieces_in, whole}

-- texts one after another
abbrev pub joined : List (List ℕ) → List ℕ
joined texts = flat_map (λ text. text) texts

-- those that are empty add nothing
pub filled-same : (ps : List (List ℕ)) → joined (filter has_character ps) ≡ joined ps
filled-same [] = refl
filled-same ([] ∷ ps) = filled-same ps
filled-same ((c ∷ cs) ∷ ps) = ap (λ l. (c ∷ cs) ++ l) (filled-same ps)

joined-map : {X : Type 0} (f : X → List ℕ) (xs : List X) → joined (map f xs) ≡ flat_map f xs
joined-map f [] = refl
joined-map f (x ∷ xs) = ap (λ l. f x ++ l) (joined-map f xs)

pub pieces-value : (n : ℕ) (all : List Visit) → joined (pieces n all) ≡ string_value n all
pieces-value n all = by (find (λ x. x.number == n) all)
  where
    by : (found : Option Visit) → joined (pieces_in all found) ≡ value_in all found
    by None = refl
    by (Some x) = filled-same (own_text x.content ∷ map (text_below x.number) all) ∙ ap (λ l. own_text x.content ++ l) (joined-map (text_below x.number) all)

append-none : (text : List ℕ) → text ++ [] ≡ text
append-none [] = refl
append-none (c ∷ cs) = ap (λ l. c ∷ l) (append-none cs)

-- a text in one piece is the whole of it
pub whole-value : (n : ℕ) (all : List Visit) (text : List ℕ) → whole (pieces n all) ≡ Some text → text ≡ string_value n all
whole-value n all text h = by (pieces n all) h ∙ pieces-value n all
  where
    by : (ps : List (List ℕ)) → whole ps ≡ Some text → text ≡ joined ps
    by [] i = cc i
    by (p ∷ []) i = let e : text ≡ p = cc i in e ∙ sym (append-none p)
    by (p ∷ q ∷ ps) i = cc i

-- The tokens of an element, part by part.
use Rattle.std.proofs.Common.{◌≡◌, ℕ, ◌+◌, ◌<◌, List, [], ◌∷◌, ◌++◌, map, length, get_or, drop, refl, sym, ap, ◌∙◌, append_assoc}
use Rattle.std.proofs.lemmas.List.{drop_more}
use Rattle.json.specs.Token.{Token, begin_array, end_array, string}
use Rattle.json.specs.Tree.{json_tokens, items_tokens}
use Rattle.serde_json.specs.Data.{Data}
use Rattle.serde_json.specs.View.{items_of}
use Rattle.serde_json.specs.Written.{outline, items_outline}
use Rattle.xf_name.specs.declared.lit.Pair.{Pair}
use Rattle.xf_name.specs.declared.lit.Lit.{Lit}
use Rattle.xf_name.specs.declared.lit.Lit.TheFolds.{fold_out-LitElement}
use Rattle.xf_name.specs.declared.lit.LitElement.{LitElement}
use Rattle.xf_json.specs.Printed.{value_of, value_of_element, lit_value, element_value, with_object}
use Rattle.xf_json.specs.Tokens.{tokens_of, tokens_of_element, tokens_of_children, tokens_of_object}

children_tokens : (xs : List Lit) → items_tokens (items_outline (items_of (map value_of xs))) ≡ tokens_of_children xs ++ end_array ∷ []
children_tokens [] = refl
children_tokens (x ∷ xs) = ap (λ ts. tokens_of x ++ ts) (children_tokens xs) ∙ sym (append_assoc (tokens_of x) (tokens_of_children xs) (end_array ∷ []))

object_tokens : (ps : List Pair) (xs : List Lit) → items_tokens (items_outline (with_object ps (items_of (map value_of xs)))) ≡ tokens_of_object ps ++ (tokens_of_children xs ++ end_array ∷ [])
object_tokens [] xs = children_tokens xs
object_tokens (p ∷ ps) xs = ap (λ ts. tokens_of_object (p ∷ ps) ++ ts) (children_tokens xs)

pub value_of_element-is : (e : LitElement) → value_of_element e ≡ element_value (record { name = e.name; attributes = e.attributes; children = map value_of e.children })
value_of_element-is e = fold_out-LitElement Data Data lit_value element_value e

pub element_tokens : (e : LitElement) → tokens_of_element e ≡ begin_array ∷ string e.name ∷ (tokens_of_object e.attributes ++ (tokens_of_children e.children ++ end_array ∷ []))
element_tokens e = ap (λ d. json_tokens (outline d)) (value_of_element-is e) ∙ ap (λ ts. begin_array ∷ string e.name ∷ ts) (object_tokens e.attributes e.children)

-- the parts, one after another
pub written : (old a b c d end : List Token) (name : List ℕ) (object children whole : List Token)
    → a ≡ old ++ begin_array ∷ [] → b ≡ a ++ string name ∷ [] → c ≡ b ++ object → d ≡ c ++ children → end ≡ d ++ end_array ∷ []
    → whole ≡ begin_array ∷ string name ∷ (object ++ (children ++ end_array ∷ [])) → end ≡ old ++ whole
written old a b c d end name object children whole ea eb ec ed ee is = rw (ee, ed, ec, eb, ea, is) (simp append_assoc)

-- one more child
pub child_more : (xs : List Lit) (i : ℕ) (x : Lit) (old new all : List Token) → i < length xs → x ≡ get_or xs i x → old ++ tokens_of_children (drop i xs) ≡ all → new ≡ old ++ tokens_of x → new ++ tokens_of_children (drop (i + 1) xs) ≡ all
child_more xs i x old new all within is so_far more =
    ap (λ ts. ts ++ tokens_of_children (drop (i + 1) xs)) more ∙ append_assoc old (tokens_of x) (tokens_of_children (drop (i + 1) xs))
    ∙ ap (λ ys. old ++ tokens_of_children ys) (ap (λ y. y ∷ drop (i + 1) xs) is ∙ sym (drop_more xs i x within)) ∙ so_far

-- The JSON tokens of the parts of a literal tree.
use Rattle.std.specs.Prelude.{ℕ, List, [], ◌∷◌, ◌++◌}
use denote.Ref.{Bor}
use Rattle.json.specs.Token.{Token, key, string, begin_object}
use Rattle.json.specs.Tree.{json_tokens, members_tokens}
use Rattle.serde_json.specs.Data.{Members, no_members, member, string as string_data}
use Rattle.serde_json.specs.Written.{outline, members_outline}
use Rattle.xf_name.specs.declared.lit.Pair.{Pair}
use Rattle.xf_name.specs.declared.lit.Lit.{Lit}
use Rattle.xf_name.specs.declared.lit.LitElement.{LitElement}
use Rattle.xf_json.specs.Printed.{value_of, value_of_element, with_pairs}

abbrev pub tokens_of : Lit → List Token
tokens_of lit = json_tokens (outline (value_of lit))

abbrev pub tokens_of_element : LitElement → List Token
tokens_of_element e = json_tokens (outline (value_of_element e))

abbrev pub tokens_of_children : List Lit → List Token
tokens_of_children [] = []
tokens_of_children (x ∷ xs) = tokens_of x ++ tokens_of_children xs

-- the members of an object with these attributes, with the closing brace
abbrev pub tokens_of_pairs : List Pair → List Token
tokens_of_pairs pairs = members_tokens (members_outline (with_pairs no_members pairs))

abbrev pub tokens_of_object : List Pair → List Token
tokens_of_object [] = []
tokens_of_object (p ∷ ps) = begin_object ∷ tokens_of_pairs (p ∷ ps)

-- these attributes as members in their own order
abbrev pub tokens_in_order : List Pair → List Token
tokens_in_order [] = []
tokens_in_order (p ∷ ps) = key p.name ∷ string p.text ∷ tokens_in_order ps

-- the entries of a map from names to texts, as members
abbrev pub members_of_refs : List (Bor (List ℕ) × Bor (List ℕ)) → Members
members_of_refs [] = no_members
members_of_refs (e ∷ es) = member e.0.now (string_data e.1.now) (members_of_refs es)

-- Where an expression is evaluated, and what a meaning is (XPath 1.0, section 1).
use Rattle.std.specs.Prelude.{ℕ, List, [], ◌∷◌, map, filter, Option, Some}
use Rattle.std.specs.List.{flat_map}
use Rattle.xf_def_syntax.specs.declared.expr.Operator.{Operator}
use Rattle.xf_def_forest.specs.Visit.{Visit, has}
use Rattle.xf_def_forest.specs.StringValue.{string_value}
use Rattle.xf_def_forest.specs.Shape.{erased}
use Rattle.xf_def_xpath.specs.declared.value.Value.{Value}
use Rattle.xf_def_xpath.specs.Given.{Given}
use Rattle.xf_def_values.specs.declared.plain.Plain.{Plain}
use Rattle.xf_def_values.specs.Functions.{Functions}
pub use Rattle.xf_def_values.specs.Bounded.{◌>>=◌, capped}

-- what is the same in all parts of an expression; the structure of the data stands apart from their texts
pub record Setting : Type 0 where
  -- the visits of the forest, with empty texts
  pub all : List Visit
  -- the string value of each node
  pub strings : ℕ → List ℕ
  -- the most bytes that a string may have, or None
  pub most : Option ℕ
  -- the functions of plain values, by their codes
  pub functions : ℕ → List Plain → Option Plain
  pub given : Given
  -- the model in scope
  pub model : ℕ
  -- the context node of the whole expression
  pub current : ℕ

-- the context of a part: a node, its place among the nodes at hand, from 1, and how many they are
pub record Focus : Type 0 where
  pub node : ℕ
  pub position : ℕ
  pub size : ℕ

-- the value of a part, or None where a string passed the limit
abbrev pub Meaning : Type 0
Meaning = Setting → Focus → Option Value

-- a step: from nodes to nodes, both in document order
abbrev pub Walk : Type 0
Walk = Setting → List ℕ → Option (List ℕ)

-- an operator with the meaning of its right side
pub record LinkMeaning : Type 0 where
  pub operator : Operator
  pub right : Meaning

-- the setting of an expression over these visits: those of a forest, or of a shape
abbrev pub setting_over : Functions → Option ℕ → Given → List Visit → ℕ → ℕ → Setting
setting_over functions most given all model current = record {
  all = map erased all;
  strings = λ n. string_value n all;
  most = most;
  functions = functions most given.decimals;
  given = given;
  model = model;
  current = current;
}

-- ---- lists of what may be too long

-- what is made of each item, unless something was too long
abbrev pub each : {A B : Type 0} → (A → Option B) → List A → Option (List B)
each made [] = Some []
each made (x ∷ xs) = do
  y ← made x
  ys ← each made xs
  Some (y ∷ ys)

-- ---- sets of nodes

-- these nodes in document order, each once
abbrev pub in_order : List Visit → List ℕ → List ℕ
in_order all ns = map (λ x. x.number) (filter (λ x. has x.number ns) all)

abbrev pub joined : List (List ℕ) → List ℕ
joined sets = flat_map (λ ns. ns) sets

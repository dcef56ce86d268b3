-- Static expressions: what is known of the parts of an expression, and which calls are static (XForms 1.1, sections 6.1 and 7).
use Rattle.std.specs.Prelude.{ℕ, Bool, true, false, ◌&&◌, not, ◌==◌, List, [], ◌∷◌, Option, Some, None, bytes_eq, codes, if◌then◌else◌}
use Rattle.std.specs.List.{list_any}
use Rattle.xf_table.specs.Contents.{function_entries}
use Rattle.xf_table.specs.Places.{name_at}
use Rattle.xf_def_syntax.specs.declared.expr.Operator.{Operator}

-- of an expression: where it begins, and the places of the first parts that are not allowed
pub record Static : Type 0 where
  pub place : ℕ
  -- in a computed expression
  pub fault : Option ℕ
  -- in a predicate of one
  pub in_predicate : Option ℕ
  pub is_literal : Bool
  -- whether it gives nodes by its syntax
  pub gives_nodes : Bool

pub record LinkStatic : Type 0 where
  pub place : ℕ
  pub operator : Operator
  pub right : Static

-- the first of two
abbrev pub or_else : Option ℕ → Option ℕ → Option ℕ
or_else None later = later
or_else (Some place) later = Some place

abbrev pub place_if : Bool → ℕ → Option ℕ
place_if true place = Some place
place_if false place = None

abbrev pub first_of : {X : Type 0} → (X → Option ℕ) → List X → Option ℕ
first_of found [] = None
first_of found (x ∷ xs) = or_else (found x) (first_of found xs)

abbrev pub first_fault : List Static → Option ℕ
first_fault es = first_of (λ e. e.fault) es

abbrev pub first_in_predicates : List Static → Option ℕ
first_in_predicates es = first_of (λ e. e.in_predicate) es

abbrev pub first_in_links : List LinkStatic → Option ℕ
first_in_links links = first_of (λ link. link.right.fault) links

abbrev pub first_in_steps : List (Option ℕ) → Option ℕ
first_in_steps steps = first_of (λ found. found) steps

abbrev pub any_gives_nodes : List Static → Bool
any_gives_nodes es = list_any (λ e. e.gives_nodes) es

abbrev pub first_of_nodes : List Static → Option ℕ
first_of_nodes es = first_of (λ e. place_if e.gives_nodes e.place) es

-- ---- functions

abbrev pub is_called : ℕ → List ℕ → Bool
is_called code name = bytes_eq (name_at function_entries code) name

abbrev pub is_one_of : ℕ → List (List ℕ) → Bool
is_one_of code names = list_any (is_called code) names

-- `instance` names an instance by a literal, or the first
abbrev pub is_literal_call : List Static → Bool
is_literal_call [] = true
is_literal_call (e ∷ es) = e.is_literal

-- of `choose`, the branches that give nodes
abbrev pub node_branch : List Static → Option ℕ
node_branch [] = None
node_branch (condition ∷ branches) = first_of_nodes branches

abbrev pub call_fault : ℕ → ℕ → List Static → Option ℕ
call_fault place code es =
    if is_one_of code (codes "index" ∷ codes "event" ∷ []) then Some place
    else if is_called code (codes "instance") then place_if (not (is_literal_call es)) place
    else if is_called code (codes "choose") then node_branch es
    else None

abbrev pub call_gives_nodes : ℕ → List Static → Bool
call_gives_nodes code es =
    if is_one_of code (codes "current" ∷ codes "event" ∷ codes "instance" ∷ []) then true
    else if is_called code (codes "choose") then any_gives_nodes es
    else false

-- functions that ask nodes, indexes or the event
abbrev pub asks_more : ℕ → Bool
asks_more code = is_one_of code (
    codes "avg" ∷ codes "count" ∷ codes "count-non-empty" ∷ codes "current" ∷ codes "event" ∷ codes "index" ∷ codes "instance"
    ∷ codes "local-name" ∷ codes "max" ∷ codes "min" ∷ codes "name" ∷ codes "namespace-uri" ∷ codes "sum" ∷ [])

-- functions that ask the context node where no argument is written
abbrev pub asks_context : ℕ → Bool
asks_context code = is_one_of code (codes "normalize-space" ∷ codes "number" ∷ codes "string" ∷ codes "string-length" ∷ [])

-- a function of plain values with all arguments written, `position()` and `last()`
abbrev pub is_plain_call : ℕ → ℕ → Bool
is_plain_call code arguments = not (asks_more code) && not (asks_context code && (arguments == 0))

-- The functions in the order of the table of functions (XPath 1.0, section 4; XForms 1.1, section 7), by what their meaning needs.
use Rattle.std.specs.Prelude.{ℕ, Bool, true, false, List, [], ◌∷◌, get_or}

pub data Function : Type 0 where
  -- on plain values alone: one that gives a truth, one that asks the context node where no argument is written, and the others
  asking : Function
  owning : Function
  plainly : Function
  -- of truths
  boolean : Function
  not : Function
  truth : Bool → Function
  -- that evaluate one branch
  choosing : Function
  branching : Function
  -- of nodes
  counting : Function
  counting_filled : Function
  adding : Function
  averaging : Function
  greatest : Function
  least : Function
  local_name : Function
  name : Function
  namespace : Function
  -- conversions
  number : Function
  string : Function
  -- of the context and what surrounds it
  current : Function
  event : Function
  index : Function
  instance : Function
  last : Function
  position : Function

-- by their codes, from `avg` to `true`
abbrev pub functions : List Function
functions =
    averaging ∷ boolean ∷ asking ∷ plainly ∷ choosing ∷ plainly ∷ plainly ∷ asking ∷ counting ∷ counting_filled
    ∷ current ∷ plainly ∷ plainly ∷ event ∷ truth false ∷ plainly ∷ branching ∷ index ∷ instance ∷ last
    ∷ local_name ∷ greatest ∷ least ∷ plainly ∷ name ∷ namespace ∷ owning ∷ not ∷ number ∷ position
    ∷ plainly ∷ plainly ∷ plainly ∷ plainly ∷ plainly ∷ plainly ∷ asking ∷ string ∷ owning ∷ plainly
    ∷ plainly ∷ plainly ∷ adding ∷ plainly ∷ truth true ∷ []

abbrev pub function_at : ℕ → Function
function_at code = get_or functions code plainly

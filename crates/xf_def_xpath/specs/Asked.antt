-- What an expression asks of the data, a notion of this processor for the dependencies of XForms 1.1, appendix C: the nodes whose string
-- values it reads, and the lists of attributes and children that it looks at. Every part is taken as asked.
use Rattle.std.specs.Prelude.{ℕ, Bool, true, false, ◌||◌, List, [], ◌∷◌, ◌++◌, map, filter, find, Option, Some, None, unwrap_or, ◌==◌, if◌then◌else◌}
use Rattle.std.specs.List.{flat_map}
use Rattle.xf_def_syntax.specs.declared.expr.Operator.{Operator}
use Rattle.xf_def_forest.specs.declared.content.Content.{Content}
use Rattle.xf_def_forest.specs.Forest.{is_root, is_element, is_text}
use Rattle.xf_def_forest.specs.Visit.{Visit, has, first_of}
use Rattle.xf_def_xpath.specs.Setting.{Setting, Focus, Meaning, Walk}

pub record Asked : Type 0 where
  -- the nodes that the expression can give; a plain value has none
  pub set : List ℕ
  -- whether the set only covers what the expression gives
  pub is_loose : Bool
  -- whether its value is a truth by its syntax
  pub is_truth : Bool
  -- the nodes that are read, and those whose list is looked at
  pub reads : List ℕ
  pub looks : List ℕ

-- of an expression: its meaning, by which predicates keep nodes, and what it asks
pub record Trace : Type 0 where
  pub meaning : Meaning
  pub asked : Setting → Focus → Asked

pub record LinkTrace : Type 0 where
  pub operator : Operator
  pub right : Trace

-- of a step: what is asked once it is taken, from what was asked before
pub record WalkTrace : Type 0 where
  pub walk : Walk
  pub asked : Setting → Asked → Asked

-- ---- lists

-- attributes and texts have none; a node has one for its attributes and its children
abbrev pub has_list : Content → Bool
has_list content = is_root content || is_element content

abbrev pub found : ℕ → List Visit → Option Visit
found n all = find (λ x. x.number == n) all

abbrev pub as_list : Option ℕ → List ℕ
as_list None = []
as_list (Some n) = n ∷ []

abbrev pub parent_in : Option Visit → List ℕ
parent_in None = []
parent_in (Some x) = as_list (first_of x.above)

-- the list in which the node stands
abbrev pub list_around : List Visit → ℕ → List ℕ
list_around all n = parent_in (found n all)

-- its own list, and all from it down
abbrev pub lists_below : List Visit → ℕ → List ℕ
lists_below all n = n ∷ map (λ y. y.number) (filter (λ y. has n y.above) all)

-- ---- reading

-- the string value of a text counts as that of its parent
abbrev pub reader_of : Option Visit → List ℕ
reader_of None = []
reader_of (Some x) = (if is_text x.content then unwrap_or (first_of x.above) x.number else x.number) ∷ []

abbrev pub read_for : List Visit → ℕ → List ℕ
read_for all n = reader_of (found n all)

-- ---- what is asked of a value

-- a plain value
abbrev pub plainly : List ℕ → List ℕ → Asked
plainly reads looks = record { set = []; is_loose = false; is_truth = false; reads = reads; looks = looks }

-- exactly these nodes
abbrev pub tightly : List ℕ → Asked
tightly ns = record { set = ns; is_loose = false; is_truth = false; reads = []; looks = [] }

-- a plain value for which both are asked
abbrev pub both : Asked → Asked → Asked
both a b = plainly (a.reads ++ b.reads) (a.looks ++ b.looks)

-- a truth, a plain value, a set: what was asked is no less
abbrev pub as_truth : Asked → Asked
as_truth a = record { set = []; is_loose = false; is_truth = true; reads = a.reads; looks = a.looks }

abbrev pub as_plain : Asked → Asked
as_plain a = plainly a.reads a.looks

abbrev pub as_set : Asked → Asked
as_set a = record a { is_truth = false }

-- the string values of these nodes are asked too
abbrev pub with_read : List Visit → List ℕ → Asked → Asked
with_read all ns a = plainly (a.reads ++ flat_map (read_for all) ns) (a.looks ++ flat_map (lists_below all) ns)

abbrev pub all_read : Setting → Asked → Asked
all_read s a = with_read s.all a.set a

abbrev pub first_node : List ℕ → List ℕ
first_node [] = []
first_node (n ∷ ns) = n ∷ []

-- where a text or number is made of it: the first node is asked, of a loose set each node
abbrev pub asked_first : Bool → List ℕ → List ℕ
asked_first true ns = ns
asked_first false ns = first_node ns

abbrev pub converted : Setting → Asked → Asked
converted s a = with_read s.all (asked_first a.is_loose a.set) a

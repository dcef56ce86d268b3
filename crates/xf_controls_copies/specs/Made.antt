-- The copies of an element and of those in it under a chain of rows, element after element and row by row, as they are put behind others.
use Rattle.std.specs.Prelude.{ℕ, zero, suc, ◌≡◌, Bool, true, false, ◌&&◌, List, [], ◌∷◌, ◌++◌, Option, Some, None, option_map, Result, Ok, Err, if◌then◌else◌}
use Rattle.xf_def_syntax.specs.declared.element.Part.{Part}
use Rattle.xf_def_syntax.specs.declared.element.Part.TheVariants as part
use Rattle.xf_def_xpath.specs.declared.fault.EvalFault.{EvalFault}
use Rattle.xf_def_xpath.specs.declared.fault.EvalFault.TheVariants.{Long, Memory}
use Rattle.xf_def_xpath.specs.Setting.{Meaning, ◌>>=◌}
use Rattle.xf_def_ui.specs.Around.{Around, first_bound}
use Rattle.xf_def_ui.specs.Context.{Context}
use Rattle.xf_def_ui.specs.Copies.{Copy, copy_of, copy_with, is_enabled, is_open, items_if, marks_if, own_binding, printed_value, value_by}
use Rattle.xf_def_ui.specs.Elements.{element_at, is_container, is_control, is_repeat}
use Rattle.xf_def_ui.specs.Interface.{Interface, Sort, select}
use Rattle.xf_def_ui.specs.Rows.{rows_of}
use Rattle.xf_def_ui.specs.declared.marks.Marks.{Marks}

-- ---- one copy

-- the node that an element binds, by where it is evaluated
abbrev pub node_in : Interface → Around → ℕ → Context → Option (Option ℕ)
node_in f a n c = let e = element_at f n in first_bound a c.model (own_binding e e.sort) c.focus

-- the value of what binds a node
abbrev pub value_in : Interface → Around → ℕ → Context → Option ℕ → Option (Option (List ℕ))
value_in f a n c node = let e = element_at f n in value_by a c (own_binding e e.sort) e.sort node

-- of an expression, where one is written
abbrev pub printed_if : Around → Context → Option Meaning → Option (Option (List ℕ))
printed_if a c None = Some None
printed_if a c (Some m) = printed_value a c m c.focus

-- the copy of an element, by where it is evaluated and the node that it binds
abbrev pub copy_in : Interface → Around → (ℕ → Marks) → List ℕ → List ℕ → ℕ → Context → Option ℕ → Option Copy
copy_in f a marks cases rows n c node = do
  text ← value_in f a n c node
  enabled ← is_enabled f a marks cases rows n
  items ← items_if f a rows n (element_at f n).sort
  Some (copy_with n rows node text enabled (marks_if marks node) items)

abbrev pub is_select : Sort → Bool
is_select (select many is_free) = true
is_select sort = false

-- ---- whether it is enabled

-- an element is no container, or an open one
abbrev pub is_passable : Interface → Around → (ℕ → Marks) → List ℕ → ℕ → Option Bool
is_passable f a marks rows n = if is_container (element_at f n).sort then is_open f a marks rows n else Some true

-- all of these are
abbrev pub are_open : Interface → Around → (ℕ → Marks) → List ℕ → List ℕ → Option Bool
are_open f a marks rows [] = Some true
are_open f a marks rows (n ∷ ns) = do
  own ← is_passable f a marks rows n
  outer ← are_open f a marks rows ns
  Some (own && outer)

-- ---- all copies

-- what is made of the first, and then of the others
abbrev pub all_of : {X : Type 0} → (X → Option (List Copy)) → List X → Option (List Copy)
all_of made [] = Some []
all_of made (x ∷ xs) = do
  own ← made x
  more ← all_of made xs
  Some (own ++ more)

-- of a part in these rows
abbrev pub of_part : (ℕ → Option (List Copy)) → Part → Option (List Copy)
of_part further (part.Text text) = Some []
of_part further (part.Element n) = further n

abbrev pub of_parts : (ℕ → Option (List Copy)) → List Part → Option (List Copy)
of_parts further ps = all_of (of_part further) ps

-- of those in an element, in a row further in
abbrev pub in_row : Interface → (List ℕ → ℕ → Option (List Copy)) → List ℕ → ℕ → ℕ → Option (List Copy)
in_row f further rows n m = of_parts (further (rows ++ m ∷ [])) (element_at f n).parts

-- of those in a repeat, row by row
abbrev pub row_copies : Interface → Around → (List ℕ → ℕ → Option (List Copy)) → List ℕ → ℕ → Option (List Copy)
row_copies f a further rows n = rows_of f a rows n >>= all_of (in_row f further rows n)

-- of those in an element
abbrev pub inner_copies : Interface → Around → (List ℕ → ℕ → Option (List Copy)) → List ℕ → ℕ → Option (List Copy)
inner_copies f a further rows n = if is_repeat f n then row_copies f a further rows n else of_parts (further rows) (element_at f n).parts

-- of the element itself, where it is a control or container
abbrev pub if_control : Bool → Option Copy → Option (List Copy)
if_control true copy = option_map (λ c. c ∷ []) copy
if_control false copy = Some []

-- of an element and of those in it, of which at most so many are nested
abbrev pub copies_at : ℕ → Interface → Around → (ℕ → Marks) → List ℕ → List ℕ → ℕ → Option (List Copy)
copies_at zero f a marks cases rows n = Some []
copies_at (suc most) f a marks cases rows n = do
  own ← if_control (is_control (element_at f n).sort) (copy_of f a marks cases rows n)
  more ← inner_copies f a (copies_at most f a marks cases) rows n
  Some (own ++ more)

-- ---- behind others

abbrev pub behind : List Copy → Option (List Copy) → Option (List Copy)
behind before copies = option_map (λ more. before ++ more) copies

-- they were put there, or a string was too long
abbrev pub Puts : {X : Type 0} → Result X EvalFault → List Copy → List Copy → Option (List Copy) → Type 0
Puts (Ok x) before after given = behind before given ≡ Some after
Puts (Err Long) before after given = given ≡ None
Puts (Err Memory) before after given = Unit {0}

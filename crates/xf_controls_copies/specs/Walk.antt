-- The copies of an element and of those in it, row by row, where what is around is handed down (XForms 1.1, section 9).
use Rattle.std.specs.Prelude.{ℕ, zero, suc, List, [], ◌∷◌, Option, Some, if◌then◌else◌}
use Rattle.xf_def_xpath.specs.Setting.{◌>>=◌}
use Rattle.xf_def_ui.specs.declared.marks.Marks.{Marks}
use Rattle.xf_def_ui.specs.Interface.{Interface}
use Rattle.xf_def_ui.specs.Elements.{element_at, is_control, is_repeat}
use Rattle.xf_def_ui.specs.Around.{Around}
use Rattle.xf_def_ui.specs.Context.{enter}
use Rattle.xf_def_ui.specs.Copies.{Copy}
use Rattle.xf_controls.specs.Below.{is_passed, unless}
use Rattle.xf_controls_copies.specs.Handed.{Handed, inside_of, node_in, copy_by, handed_by, handed_in, rows_in, handed_row}
use Rattle.xf_controls_copies.specs.Made.{all_of, of_parts}

-- what comes of an element by what is handed down to it
abbrev pub Further : Type 0
Further = Handed → ℕ → Option (List Copy)

-- of those in an element
abbrev pub of_children : Further → Interface → Handed → ℕ → Option (List Copy)
of_children further f h n = of_parts (further h) (element_at f n).parts

-- of those in a repeat, row by row
abbrev pub in_rows : Further → Interface → Around → Handed → ℕ → Option (List Copy)
in_rows further f a h n = do
  set ← rows_in f a h (element_at f n)
  all_of (λ m. of_children further f (handed_row f h (element_at f n) set m) n) set

-- of those in a control or container that binds a node
abbrev pub in_control : Further → Interface → Around → (ℕ → Marks) → List ℕ → Handed → ℕ → Option ℕ → Option (List Copy)
in_control further f a marks cases h n selected =
    if is_repeat f n then in_rows further f a h n else of_children further f (handed_by f marks cases h n (element_at f n) selected) n

-- of a control or container, and then of those in it
abbrev pub of_control : Further → Interface → Around → (ℕ → Marks) → List ℕ → Handed → ℕ → Option (List Copy)
of_control further f a marks cases h n = do
  node ← node_in f a h (element_at f n)
  own ← copy_by f a marks h n (element_at f n) node
  more ← in_control further f a marks cases h n node
  Some (own ∷ more)

-- of those in any other element
abbrev pub in_other : Further → Interface → Around → Handed → ℕ → Option (List Copy)
in_other further f a h n = do
  s ← enter f a (inside_of h) (element_at f n)
  of_children further f (handed_in h s) n

abbrev pub copies_by : Further → Interface → Around → (ℕ → Marks) → List ℕ → Handed → ℕ → Option (List Copy)
copies_by further f a marks cases h n = if is_control (element_at f n).sort then of_control further f a marks cases h n else in_other further f a h n

-- of an element and of those in it, of which at most so many are nested
abbrev pub copies_from : ℕ → Interface → Around → (ℕ → Marks) → List ℕ → Handed → ℕ → Option (List Copy)
copies_from zero f a marks cases h n = Some []
copies_from (suc most) f a marks cases h n = unless (is_passed most f (element_at f n)) (copies_by (copies_from most f a marks cases) f a marks cases h n)

-- The text of a state, by what it is made of.
use Rattle.std.specs.Prelude.{ℕ, ◌≡◌, List, [], ◌++◌, length, zip, get_or, codes, unwrap_or, if◌then◌else◌}
use Rattle.std.specs.List.{flat_map}
use Rattle.xf_def_ui.specs.Around.{Around}
use Rattle.xf_def_ui.specs.Cases.{cases_of}
use Rattle.xf_def_ui.specs.Copies.{Copy}
use Rattle.xf_def_ui.specs.declared.marks.Marks.{Marks}
use Rattle.xf_def_ui.specs.Elements.{element_at, repeats_around}
use Rattle.xf_def_ui.specs.Index.{Index, index_of, rows_now}
use Rattle.xf_def_ui.specs.Interface.{Interface, interface_of}
use Rattle.xf_def_machine.specs.ControlText.{has_line, marks_of}
use Rattle.xf_def_machine.specs.Cycles.{counted_from}
use Rattle.xf_def_machine.specs.Profile.{Profile}
use Rattle.xf_def_machine.specs.State.{State}
use Rattle.xf_def_machine.specs.Surround.{interface, quiet}
use Rattle.xf_eval_context.specs.declared.over.Over.{Over}
use Rattle.xf_eval_context.specs.Over.{around_over}
use Rattle.xf_report.specs.Controls.{Seen, copy_text, repeat_text, switch_text}
use Rattle.xf_report.specs.Lines.{IsOf, block_of}
use Rattle.xf_report_state.specs.Levels.{numbers_under}

-- ---- repeats and switches

abbrev pub repeat_of : Interface → Around → List Index → ℕ → List ℕ
repeat_of f a indexes r = repeat_text f r (index_of f indexes r).index (length (unwrap_or (rows_now f a indexes r) []))

-- a switch, and the place of its selected case
abbrev pub switch_of : Interface → ℕ × ℕ → List ℕ
switch_of f w = switch_text f w.0 (get_or (cases_of f w.0) w.1 0)

-- ---- copies

-- with these numbers of its rows
abbrev pub shown_of : List ℕ → Copy → Seen
shown_of numbers c = record { element = c.element; rows = numbers; marks = marks_of c; value = c.value; items = c.items }

abbrev pub copy_with : Interface → Around → Copy → Seen
copy_with f a c = shown_of (numbers_under f a [] (repeats_around f c.element) c.rows) c

unfoldable pub lines_with : Interface → Around → Copy → List ℕ
lines_with f a c = copy_text f (copy_with f a c)

-- the lines of a copy: none of a repeat or a case
abbrev pub lines_of : Interface → Around → Copy → List ℕ
lines_of f a c = if has_line (element_at f c.element).sort then lines_with f a c else []

abbrev pub copies_text : Interface → Around → List Copy → List ℕ
copies_text f a cs = flat_map (lines_of f a) cs

-- ---- the state

abbrev pub text_of : Over → (ℕ → Marks) → List Copy → List Index → List ℕ → List ℕ
text_of o marks controls indexes cases =
    let f = interface_of o.form.now in
    let instances = o.form.now.tables.instances in
    flat_map (block_of marks o.forest.now.forest.nodes instances) (counted_from 0 (length instances))
    ++ flat_map (repeat_of f (around_over o) indexes) f.repeats
    ++ flat_map (switch_of f) (zip f.switches cases)
    ++ copies_text f (around_over o) controls
    ++ codes "end\n"

-- these are the parts of a state, and what its expressions are evaluated over outside an event
pub record IsState (p : Profile) (s : State) (o : Over) (marks : ℕ → Marks) (copies : List Copy) (ix : List Index) (places : List ℕ) : Type 0 where
  pub parts : IsOf s o.forest.now.forest o.form.now.tables.instances marks
  pub face : interface s ≡ interface_of o.form.now
  pub around : quiet p s ≡ around_over o
  pub indexes : s.indexes ≡ ix
  pub cases : s.cases ≡ places
  pub controls : s.controls ≡ copies

-- The text of a state is that of its parts.
use Rattle.std.proofs.Common.{◌≡◌, ◌≤◌, ℕ, zero, suc, Bool, true, false, cond, List, [], ◌∷◌, ◌++◌, length, drop, codes, refl, ap, ◌∙◌, arith}
use Rattle.std.specs.Prelude.{Result, Ok, Err, OnOk, filter, min, unwrap_or, zip, if◌then◌else◌}
use Rattle.std.specs.List.{flat_map}
use Rattle.xf_def_forest.specs.WellFormed.{HasTrees}
use Rattle.xf_def_ui.specs.Around.{Around}
use Rattle.xf_def_ui.specs.Copies.{Copy}
use Rattle.xf_def_ui.specs.declared.marks.Marks.{Marks}
use Rattle.xf_def_ui.specs.Elements.{element_at, repeats_around}
use Rattle.xf_def_ui.specs.Index.{Index, index_of, rows_now}
use Rattle.xf_def_ui.specs.Interface.{Interface, interface_of}
use Rattle.xf_def_ui.specs.Rows.{rows_of}
use Rattle.xf_def_machine.specs.ControlText.{copy_lines, has_line, number_in, row_numbers, state_text}
use Rattle.xf_def_machine.specs.Cycles.{counted_from}
use Rattle.xf_def_machine.specs.Profile.{Profile}
use Rattle.xf_def_machine.specs.State.{State}
use Rattle.xf_def_machine.specs.StateText.{instance_lines, repeat_line, switch_line}
use Rattle.xf_def_machine.specs.Surround.{instances_in, interface, quiet}
use Rattle.xf_eval_context.specs.declared.over.Over.{Over}
use Rattle.xf_eval_context.specs.Over.{around_over}
use Rattle.xf_report.specs.Controls.{Seen, copy_text}
use Rattle.xf_report.specs.Lines.{block_of}
use Rattle.xf_report.proofs.ControlLaws.{copy-is, flat-same, repeat-is, switch-is}
use Rattle.xf_report.proofs.LineLaws.{instance-lines}
use Rattle.xf_report_state.specs.Levels.{numbers_under}
use Rattle.xf_report_state.specs.Parts.{IsState, copies_text, copy_with, lines_with, repeat_of, switch_of, text_of}

-- those that pass, each by its own lines
flat-where : (q : Copy → Bool) (g h : Copy → List ℕ) → ((c : Copy) → g c ≡ h c) → (cs : List Copy) → flat_map g (filter q cs) ≡ flat_map (λ c. if q c then h c else []) cs
flat-where q g h same [] = refl
flat-where q g h same (c ∷ cs) = by (q c) (flat-where q g h same cs)
  where
    by : (b : Bool) → flat_map g (filter q cs) ≡ flat_map (λ x. if q x then h x else []) cs
        → flat_map g (cond b (c ∷ filter q cs) (filter q cs)) ≡ (if b then h c else []) ++ flat_map (λ x. if q x then h x else []) cs
    by true e = ap (λ l. l ++ flat_map g (filter q cs)) (same c) ∙ ap (λ l. h c ++ l) e
    by false e = e

module _ (p : Profile) (s : State) (o : Over) (m : ℕ → Marks) (controls : List Copy) (indexes : List Index) (cases : List ℕ) (sound : HasTrees o.forest.now.forest) (is : IsState p s o m controls indexes cases) where
  abbrev f : Interface
  f = interface_of o.form.now

  numbers-same : (chain rs ns : List ℕ) → row_numbers p s chain rs ns ≡ numbers_under (interface s) (quiet p s) chain rs ns
  numbers-same chain (r ∷ rs) (n ∷ ns) = ap (λ l. number_in (unwrap_or (rows_of (interface s) (quiet p s) chain r) []) n ∷ l) (numbers-same (chain ++ n ∷ []) rs ns)
  numbers-same chain [] ns = refl
  numbers-same chain (r ∷ rs) [] = refl

  instances : flat_map (instance_lines s) (counted_from 0 (length (instances_in s)))
      ≡ flat_map (block_of m o.forest.now.forest.nodes o.form.now.tables.instances) (counted_from 0 (length o.form.now.tables.instances))
  instances =
      let g = block_of m o.forest.now.forest.nodes o.form.now.tables.instances in
      flat-same (instance_lines s) g (λ place. instance-lines s o.forest.now.forest o.form.now.tables.instances m place sound is.parts) (counted_from 0 (length (instances_in s)))
      ∙ ap (λ l. flat_map g (counted_from 0 (length l))) is.parts.tables

  repeat : (r : ℕ) → repeat_line p s r ≡ repeat_of f (around_over o) indexes r
  repeat r = repeat-is p s f r (index_of f indexes r).index (length (unwrap_or (rows_now f (around_over o) indexes r) [])) (record {
    form = is.face;
    place = ap (λ g. (index_of g s.indexes r).index) is.face ∙ ap (λ ix. (index_of f ix r).index) is.indexes;
    count = ap (λ g. length (unwrap_or (rows_now g (quiet p s) s.indexes r) [])) is.face
        ∙ ap (λ a. length (unwrap_or (rows_now f a s.indexes r) [])) is.around
        ∙ ap (λ ix. length (unwrap_or (rows_now f (around_over o) ix r) [])) is.indexes;
  })

  repeats : flat_map (repeat_line p s) (interface s).repeats ≡ flat_map (repeat_of f (around_over o) indexes) f.repeats
  repeats =
      flat-same (repeat_line p s) (repeat_of f (around_over o) indexes) repeat (interface s).repeats
      ∙ ap (λ (g : Interface). flat_map (repeat_of f (around_over o) indexes) g.repeats) is.face

  switches : flat_map (switch_line s) (zip (interface s).switches s.cases) ≡ flat_map (switch_of f) (zip f.switches cases)
  switches =
      flat-same (switch_line s) (switch_of f) (λ w. switch-is s f w.0 w.1 _ is.face refl) (zip (interface s).switches s.cases)
      ∙ ap (λ (g : Interface). flat_map (switch_of f) (zip g.switches s.cases)) is.face
      ∙ ap (λ l. flat_map (switch_of f) (zip f.switches l)) is.cases

  copy : (c : Copy) → copy_lines p s c ≡ lines_with f (around_over o) c
  unfolding lines_with
  copy c = copy-is p s f c (copy_with f (around_over o) c) (record {
    form = is.face;
    element = refl;
    rows = numbers-same [] (repeats_around (interface s) c.element) c.rows
        ∙ ap (λ (g : Interface). numbers_under g (quiet p s) [] (repeats_around g c.element) c.rows) is.face
        ∙ ap (λ a. numbers_under f a [] (repeats_around f c.element) c.rows) is.around;
    marks = refl;
    value = refl;
    items = refl;
  })

  copies : flat_map (copy_lines p s) (filter (λ c. has_line (element_at (interface s) c.element).sort) s.controls) ≡ copies_text f (around_over o) controls
  copies =
      flat-where (λ c. has_line (element_at (interface s) c.element).sort) (copy_lines p s) (lines_with f (around_over o)) copy s.controls
      ∙ ap (λ (g : Interface). flat_map (λ c. if has_line (element_at g c.element).sort then lines_with f (around_over o) c else []) s.controls) is.face
      ∙ ap (λ cs. copies_text f (around_over o) cs) is.controls

  pub state-is : state_text p s ≡ text_of o m controls indexes cases
  state-is =
      let i = flat_map (block_of m o.forest.now.forest.nodes o.form.now.tables.instances) (counted_from 0 (length o.form.now.tables.instances)) in
      let r = flat_map (repeat_line p s) (interface s).repeats in
      let w = flat_map (switch_line s) (zip (interface s).switches s.cases) in
      let c = flat_map (copy_lines p s) (filter (λ x. has_line (element_at (interface s) x.element).sort) s.controls) in
      let rr = flat_map (repeat_of f (around_over o) indexes) f.repeats in
      let ww = flat_map (switch_of f) (zip f.switches cases) in
      ap (λ l. l ++ r ++ w ++ c ++ codes "end\n") instances
      ∙ ap (λ l. i ++ l ++ w ++ c ++ codes "end\n") repeats
      ∙ ap (λ l. i ++ rr ++ l ++ c ++ codes "end\n") switches
      ∙ ap (λ l. i ++ rr ++ ww ++ l ++ codes "end\n") copies

-- ---- a copy is written as it is shown

pub written : {T E : Type 0} (r : Result T E) (old new : List ℕ) (f : Interface) (a : Around) (c : Copy) (x : Seen) → x ≡ copy_with f a c → OnOk r (new ≡ old ++ copy_text f x)
    → OnOk r (new ≡ old ++ lines_with f a c)
unfolding lines_with
written (Ok t) old new f a c x same h = h ∙ ap (λ y. old ++ copy_text f y) same
written (Err e) old new f a c x same h = tt

-- ---- switches beside places of cases

none-beside : (xs : List ℕ) → zip {X = ℕ} xs [] ≡ []
none-beside [] = refl
none-beside (x ∷ xs) = refl

pub zip-done : (xs ys : List ℕ) (k : ℕ) → min (length xs) (length ys) ≤ k → zip (drop k xs) (drop k ys) ≡ []
zip-done [] ys zero h = refl
zip-done [] ys (suc k) h = refl
zip-done (x ∷ xs) [] zero h = refl
zip-done (x ∷ xs) [] (suc k) h = none-beside (drop k xs)
zip-done (x ∷ xs) (y ∷ ys) zero h = absurd (omega (arith, h))
zip-done (x ∷ xs) (y ∷ ys) (suc k) h = zip-done xs ys k (omega (arith, h))

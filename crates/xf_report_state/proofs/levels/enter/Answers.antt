use Rattle.std.proofs.Common.{◌≡◌, ℕ, ◌+◌, ◌<◌, ◌≤◌, true, [], length, map, take, get_or, refl, sym, ap, ◌∙◌, arith}
use Rattle.std.specs.Prelude.{slice_get, unwrap_or}
use Rattle.std.proofs.lemmas.List.{get_or-map, length-map, length-take-le, take-map}
use Rattle.xf_def_forest.specs.declared.node.NodeId.{NodeId}
use Rattle.xf_def_ui.specs.Interface.{interface_of}
use Rattle.xf_def_ui.specs.Rows.{rows_of}
use Rattle.xf_eval_context.specs.Over.{around_over}
use Rattle.xf_report_state.specs.Levels.{AreLevels, Starts, is_at, row_of}
use Rattle.xf_report_state.proofs.LevelLaws.{entered, starts-there}
use Rattle.xf_report_state.proofs.levels.enter.Goals as goal

abbrev number : NodeId → ℕ
number n = n.number

abbrev no_node : NodeId
no_node = record { number = 0; place = 0 }

pub returns-then-is_at-clause-here : goal.returns-then-is_at-clause-here
returns-then-is_at-clause-here c =
    let k = c.args.at in
    let rs = c.args.repeats.now in
    let rows = c.args.rows.now in
    let ls = c.args.levels.now.items in
    let within : k < length (map number rows) = omega (arith, c.requires.row, length-map rows number) in
    let test : is_at (get_or rs k 0) (get_or (map number rows) k 0) (slice_get ls k) ≡ true =
    ap (λ n. is_at (get_or rs k 0) n (slice_get ls k)) (get_or-map number rows k no_node 0 c.requires.row)
    ∙ ap (λ l. is_at (get_or rs k 0) (number (get_or rows k no_node)) (slice_get l k)) (sym c.deref.ensures.value)
    ∙ sym c.is_at.ensures ∙ c.if-is_at.true in
    starts-there ls k rs (map number rows) c.requires.before c.requires.repeat within test

pub take_rows-requires-clause-outer : goal.take_rows-requires-clause-outer
take_rows-requires-clause-outer c =
    let rows = c.args.rows.now in
    let within : c.args.at ≤ length rows = omega (arith, c.requires.row) in
    ap (λ k. map row_of (take k c.args.levels.now.items)) (length-take-le c.args.at rows within)
    ∙ c.requires.before.rows ∙ take-map number c.args.at rows

stands : (c : goal.In_ok-push) → AreLevels (interface_of c.args.over.now.form.now) (around_over c.args.over.now) [] c.push.new.self.items × Starts c.push.new.self.items (c.args.at + 1) c.args.repeats.now (map number c.args.rows.now)
stands c =
    let f = interface_of c.args.over.now.form.now in
    let a = around_over c.args.over.now in
    let k = c.args.at in
    let rs = c.args.repeats.now in
    let rows = c.args.rows.now in
    let within : k < length (map number rows) = omega (arith, c.requires.row, length-map rows number) in
    let few : k ≤ length rows = omega (arith, c.requires.row) in
    entered f a c.args.levels.now.items c.take_rows.new.levels.items c.push.new.self.items k rs (map number rows) _ c.requires.levels c.requires.before c.requires.repeat within
    (c.in_ok-all.ensures.left ∙ ap (λ j. take j c.args.levels.now.items) (length-take-le k rows few)) c.in_ok-push.ensures.items refl (sym (get_or-map number rows k no_node 0 c.requires.row))
    (c.in_ok-all.ensures.rows ∙ ap (λ ns. unwrap_or (rows_of f a ns (get_or rs k 0)) []) (sym (take-map number k rows))) c.in_ok-number.ensures

pub returns-clause-levels : goal.returns-clause-levels
returns-clause-levels c = (stands c).0

pub returns-clause-here : goal.returns-clause-here
returns-clause-here c = (stands c).1

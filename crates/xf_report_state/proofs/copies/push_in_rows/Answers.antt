use Rattle.std.proofs.Common.{◌≡◌, [], map, ap, sym, ◌∙◌}
use Rattle.std.specs.Prelude.{string_bytes}
use Rattle.xf_def_forest.specs.declared.node.NodeId.{NodeId}
use Rattle.xf_def_ui.specs.Elements.{repeats_around}
use Rattle.xf_def_ui.specs.Interface.{interface_of}
use Rattle.xf_eval_context.specs.Over.{around_over}
use Rattle.xf_controls.specs.Seen as controls
use Rattle.xf_report.specs.Controls.{seen_copy}
use Rattle.xf_report_state.specs.declared.levels.Level.{Level}
use Rattle.xf_report_state.specs.Levels.{numbers_under}
use Rattle.xf_report_state.specs.Parts.{shown_of}
use Rattle.xf_report_state.proofs.LevelLaws.{no-numbers}
use Rattle.xf_report_state.proofs.PartLaws.{written}
use Rattle.xf_report_state.proofs.copies.push_in_rows.Goals as goal

pub returns-then-is_empty-clause-text : goal.returns-then-is_empty-clause-text
returns-then-is_empty-clause-text c =
    let f = interface_of c.args.over.now.form.now in
    let a = around_over c.args.over.now in
    let copy = c.args.copy.now in
    let none : copy.rows ≡ [] = c.is_empty.ensures.0 c.if-is_empty.true in
    written c.push_copy.result (string_bytes c.args.text.now) (string_bytes c.push_copy.new.text) f a (controls.seen_copy copy) (seen_copy c.shown_of.result)
    (c.shown_of.ensures ∙ ap (λ l. shown_of l (controls.seen_copy copy)) (sym (no-numbers f a [] (repeats_around f copy.element) copy.rows none)))
    c.push_copy.ensures

pub returns-clause-text : goal.returns-clause-text
returns-clause-text c =
    let f = interface_of c.args.over.now.form.now in
    let a = around_over c.args.over.now in
    let copy = c.args.copy.now in
    let numbers : c.as_slice-3.result.now ≡ numbers_under f a [] (repeats_around f copy.element) copy.rows =
    c.as_slice-3.ensures.value ∙ c.in_ok-rows.ensures ∙ ap (map (λ (l : Level). l.number)) c.deref.ensures.value ∙ c.in_ok-go_to.ensures.numbers
    ∙ ap (λ rs. numbers_under f a [] rs (map (λ (n : NodeId). n.number) c.as_slice-2.result.now)) (c.as_slice.ensures ∙ c.in_ok-repeats.ensures)
    ∙ ap (numbers_under f a [] (repeats_around f copy.element)) c.as_slice-2.ensures in
    written c.push_copy-2.result (string_bytes c.args.text.now) (string_bytes c.push_copy-2.new.text) f a (controls.seen_copy copy) (seen_copy c.shown_of-shown.result)
    (c.shown_of-shown.ensures ∙ ap (λ l. shown_of l (controls.seen_copy copy)) numbers) c.push_copy-2.ensures

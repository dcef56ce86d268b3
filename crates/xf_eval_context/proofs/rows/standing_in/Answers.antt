use Rattle.std.proofs.Common.{suc, Some, sym, ap, ◌∙◌, ℕ}
use Rattle.xf_def_xpath.specs.declared.fault.EvalFault.TheVariants.{Long, Memory}
use Rattle.xf_def_xpath.specs.Setting.{Focus}
use Rattle.xf_def_ui.specs.Focused.{focus_of}
use Rattle.xf_eval.proofs.Bounded.{gives-same}
use Rattle.xf_eval_context.proofs.RowPlaces.{placed, unplaced}
use Rattle.xf_eval_context.proofs.rows.standing_in.Goals as goal

abbrev among : ℕ → ℕ → ℕ → Focus
among n k size = record { node = n; position = suc k; size = size }

pub returns-in-Some : goal.returns-in-Some
returns-in-Some c =
    let n = c.args.node.number in
    let k = c.in-Some.place in
    gives-same Memory Long focus_of c.row_focus.result _ _ (ap Some (ap (among n k) c.len.ensures ∙ sym (placed n c.args.rows.now k c.in-Some.ensures))) c.row_focus.ensures

pub returns-in-None : goal.returns-in-None
returns-in-None c = ap Some (unplaced c.args.node.number c.args.rows.now c.in-None.ensures ∙ sym c.alone.ensures)

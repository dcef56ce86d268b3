use Rattle.std.proofs.Common.{◌<◌, ◌++◌, ◌-◌, length, get_or, take, drop, decimal, ap, sym, ◌∙◌, append_assoc, arith}
use Rattle.std.specs.Prelude.{string_bytes}
use Rattle.std.specs.List.{flat_map}
use Rattle.std.proofs.lemmas.Bool.Decides.{nat_tests}
use Rattle.xf_report.specs.Controls.{behind_comma}
use Rattle.xf_report.proofs.AnswerLaws.{then-ok}
use Rattle.xf_report.proofs.ControlLaws.{joined-split}
use Rattle.xf_report.proofs.WordLemmas.{whole-rest}
use Rattle.xf_report.proofs.control.push_joined.Goals as goal

pub returns : goal.returns
returns c =
    let old = string_bytes c.args.text.now in
    let rows = c.args.rows.now in
    let some : 0 < length rows = grind (arith, nat_tests, c.is_empty.ensures, c.if-is_empty.false) in
    let rest = take (length rows - 1) (drop 1 rows) in
    then-ok c.push_more.result (λ e.
    e ∙ ap (λ l. l ++ flat_map behind_comma rest) c.in_ok-push_number.ensures
    ∙ append_assoc old (decimal (get_or rows 0 0)) (flat_map behind_comma rest)
    ∙ ap (λ l. old ++ (decimal (get_or rows 0 0) ++ flat_map behind_comma l)) (whole-rest rows 1)
    ∙ ap (λ l. old ++ l) (sym (joined-split rows some))) c.push_more.ensures

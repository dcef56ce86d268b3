use Rattle.std.proofs.Common.{map}
use Rattle.std.proofs.lemmas.Result.{on_ok_weaker}
use Rattle.xf_form_refusals.specs.Rows.{shown}
use Rattle.xf_form_refusals.proofs.RefusalLemmas.{step_numbered}
use Rattle.xf_form_refusals.proofs.paths.push_step.Goals as goal

pub returns : goal.returns
returns c =
    on_ok_weaker c.push_in_brackets.result
    (λ told. step_numbered (map shown c.args.rows.now) (shown c.args.row.now) c.args.place c.count_like.result c.count_up_to.result c.args.path.now c.push_str.new.self c.push_name.new.path c.push_in_brackets.new.path c.as_str-name.result.now
    c.siblings-parts.result.now c.in_ok-push_str.ensures.ok c.in_ok-push_name.ensures told c.as_str-name.ensures c.siblings-parts.ensures c.count_like.ensures c.count_up_to.ensures c.if-count_like-le1.false)
    c.push_in_brackets.ensures

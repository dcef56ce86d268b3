use Rattle.std.proofs.Common.{◌≡◌, ◌<◌, length, arith}
use Rattle.std.proofs.lemmas.Bool.Decides.{nat_tests}
use Rattle.xf_def_ui.specs.Interface.{interface_of}
use Rattle.xf_eval_context.specs.Over.{around_over}
use Rattle.xf_repeat.proofs.NamedLaws.{no-number}
use Rattle.xf_repeat.proofs.named.+push_named.Goals as goal

pub returns-then-is_empty-2 : goal.returns-then-is_empty-2
returns-then-is_empty-2 t c =
    let o = c.args.over.now in
    let more : 0 < length c.args.repeats.now = grind (arith, nat_tests, c.if-is_empty.ensures) in
    let end : length c.args.numbers.now ≡ 0 = grind (arith, nat_tests, c.if-is_empty-2.ensures) in
    no-number (interface_of o.form.now) (around_over o) c.args.chain.now c.args.repeats.now c.args.numbers.now more end

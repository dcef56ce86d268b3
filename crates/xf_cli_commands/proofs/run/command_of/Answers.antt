use Rattle.std.proofs.Common.{◌∙◌, ap, sym, arith, bytes_eq, codes}
use Rattle.xf_cli_commands.specs.declared.status.Command.TheVariants.{Run, Try, Show, Check}
use Rattle.xf_cli_commands.proofs.Words.{spells}
use Rattle.xf_cli_commands.proofs.run.command_of.Goals as goal

pub returns-then-eq : goal.returns-then-eq
returns-then-eq c =
    spells Run c.args.words.now c.index-words-0.result (omega arith) c.index-words-0.is
    (sym (c.eq.ensures ∙ ap (λ t. bytes_eq t (codes "run")) c.as_str-word.ensures.value) ∙ c.if-eq.true)

pub returns-then-eq-2 : goal.returns-then-eq-2
returns-then-eq-2 c =
    spells Try c.args.words.now c.index-words-0.result (omega arith) c.index-words-0.is
    (sym (c.eq-2.ensures ∙ ap (λ t. bytes_eq t (codes "try")) c.as_str-word.ensures.value) ∙ c.if-eq-2.true)

pub returns-then-eq-3 : goal.returns-then-eq-3
returns-then-eq-3 c =
    spells Show c.args.words.now c.index-words-0.result (omega arith) c.index-words-0.is
    (sym (c.eq-3.ensures ∙ ap (λ t. bytes_eq t (codes "show")) c.as_str-word.ensures.value) ∙ c.if-eq-3.true)

pub returns-then-eq-4 : goal.returns-then-eq-4
returns-then-eq-4 c =
    spells Check c.args.words.now c.index-words-0.result (omega arith) c.index-words-0.is
    (sym (c.eq-4.ensures ∙ ap (λ t. bytes_eq t (codes "check")) c.as_str-word.ensures.value) ∙ c.if-eq-4.true)

use Rattle.std.proofs.Common.{sym, ◌∙◌}
use Rattle.xf_num.proofs.TextLemmas.{last_space, last_other}
use Rattle.xf_num.proofs.text.trimmed_end.Goals as goal

pub loop-rest-preserved : goal.loop-rest-preserved
loop-rest-preserved c =
    last_space c.loop-rest.rest.now c.in-len1-up.len_at_least (sym c.if-not-is_space.ensures) ∙ c.loop-rest.invariant

pub returns-then-not-is_space : goal.returns-then-not-is_space
returns-then-not-is_space c =
    sym (last_other c.loop-rest.rest.now c.in-len1-up.len_at_least (sym c.if-not-is_space.ensures)) ∙ c.loop-rest.invariant

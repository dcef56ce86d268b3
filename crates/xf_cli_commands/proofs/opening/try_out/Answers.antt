use Rattle.xf_cli_commands.proofs.ReplyLaws.{started_called, started_noted, started_refused}
use Rattle.xf_cli_commands.proofs.opening.try_out.Goals as goal

pub returns-in-Ok-clause-tries : goal.returns-in-Ok-clause-tries
returns-in-Ok-clause-tries g c = started_noted _ c.in-Ok.session _ _ _ _ _ c.in-Ok.ensures.done c.new-notes.ensures.bytes

pub returns-in-Ok-refused_line-clause-tries : goal.returns-in-Ok-refused_line-clause-tries
returns-in-Ok-refused_line-clause-tries g c =
    started_refused _ c.in-Err-Refused.field-0 c.in-Err-Refused.refusal _ _ _ _ _ _ c.in-Err-Refused.field-0-is c.in-Err-Refused.ensures.done c.in-Ok-refused_line.ensures

pub returns-in-Err-Refused-clause-tries : goal.returns-in-Err-Refused-clause-tries
returns-in-Err-Refused-clause-tries g c = started_called _ _ _ _ _ _ _ c.start.ensures.done

pub returns-clause-tries : goal.returns-clause-tries
returns-clause-tries g c = started_called _ _ _ _ _ _ _ c.start.ensures.done

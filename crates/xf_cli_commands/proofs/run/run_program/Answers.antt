use Rattle.xf_cli_commands.proofs.Ends.{finishes}
use Rattle.xf_cli_commands.proofs.Flushing.{out_or_failed}
use Rattle.xf_cli_commands.proofs.run.run_program.Goals as goal

pub returns-clause-ends : goal.returns-clause-ends
returns-clause-ends g c = finishes c.run-status.result c.finish.result _ _ _ c.run-status.ensures.runs c.finish.ensures.finishes

pub returns-clause-flushed : goal.returns-clause-flushed
returns-clause-flushed g c = out_or_failed _ _ _ _ _ _ c.run-status.ensures.later c.finish.ensures.later c.run-status.ensures.flushed c.finish.ensures.flushed

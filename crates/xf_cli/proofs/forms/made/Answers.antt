use Rattle.xf_cli.proofs.MadeLaws.{made_refused, made_world}
use Rattle.xf_cli.proofs.forms.made.Goals as goal

pub returns-in-Err-Refused : goal.returns-in-Err-Refused
returns-in-Err-Refused c = made_refused c.in-Err-Refused.field-0 c.in-Err-Refused.refusal _ c.in-Err-Refused.field-0-is c.in-Err-Refused.ensures

pub returns-in-Ok : goal.returns-in-Ok
returns-in-Ok c = made_world _ c.new.result c.in-Ok.world c.in-Ok.ensures c.new.ensures

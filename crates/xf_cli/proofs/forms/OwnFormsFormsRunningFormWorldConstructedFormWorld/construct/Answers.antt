use Rattle.xf_cli.proofs.MadeLaws.{not_form, of_made}
use Rattle.xf_cli.proofs.forms.OwnFormsFormsRunningFormWorldConstructedFormWorld.construct.Goals as goal

pub made-requires : goal.made-requires
made-requires g c = (c.args.bytes.now, c.in-Ok.ensures)

pub returns-in-Ok : goal.returns-in-Ok
returns-in-Ok g c = of_made c.args.bytes.now c.in-Ok.loaded c.made.result c.in-Ok.ensures c.made.ensures

pub returns-in-Err : goal.returns-in-Err
returns-in-Err g c = not_form c.args.bytes.now c.in-Err.fault c.not_loaded.result c.not_loaded.ensures c.in-Err.ensures

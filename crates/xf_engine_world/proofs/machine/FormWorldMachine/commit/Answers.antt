use Rattle.std.proofs.Common.{◌∙◌, ap, sym}
use Rattle.xf_engine_state.specs.Does.{Stage}
use Rattle.xf_engine_state.specs.Standing.{state_of}
use Rattle.xf_engine_world.proofs.OutsideLaws.{ends, plain}
use Rattle.xf_engine_world.proofs.machine.FormWorldMachine.commit.Goals as goal

pub returns-clause-now : goal.returns-clause-now
returns-clause-now c = ends c.args.self.now.work.now c.commit.new.self.now c.args.self.now.notes c.clear.new.self c.args.self.now.calls c.clear-2.new.self c.clear.ensures c.clear-2.ensures c.commit.ensures.now

pub returns-clause-kept : goal.returns-clause-kept
returns-clause-kept c =
    ap (λ (s : Stage). state_of s.standing) c.commit.ensures.kept ∙ sym (plain c.commit.new.self.now c.clear.new.self c.clear-2.new.self c.clear.ensures c.clear-2.ensures)

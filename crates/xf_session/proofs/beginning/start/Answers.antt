use Rattle.std.proofs.Common.{sym}
use Rattle.xf_session.proofs.PostLaws.{err-is}
use Rattle.xf_session.proofs.StartLaws.{alone-refused, alone-started}
use Rattle.xf_session.proofs.beginning.start.Goals as goal

pub returns-in_err-processor-clause-done : goal.returns-in_err-processor-clause-done
returns-in_err-processor-clause-done g c =
    let p = g.P.Processor in
    alone-refused p.state p.kept p.calls c.from_residual.result _ _ _ _ _ _ (err-is c.from_residual.result _ c.from_residual.ensures.0 c.from_residual.ensures.1) c.in_err-processor.ensures.done

pub returns-clause-done : goal.returns-clause-done
returns-clause-done g c =
    let p = g.P.Processor in
    alone-started p.state p.kept p.calls c.unkept.result c.in_ok-processor.processor c.commit.new.self _ _ _ _ _ c.in_ok-processor.ensures.done c.commit.ensures.same c.unkept.ensures.processor

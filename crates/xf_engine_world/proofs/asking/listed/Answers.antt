use Rattle.std.proofs.Common.{Ok, sym, ap, ◌∙◌}
use Rattle.xf_def_xpath.specs.Binding.{as_list}
use Rattle.xf_actions.proofs.Flow.{same-reads}
use Rattle.xf_actions.specs.Fault.{means}
use Rattle.xf_engine_world.specs.State.{state_of}
use Rattle.xf_engine_world.proofs.asking.listed.Goals as goal

pub returns-in-Some : goal.returns-in-Some
returns-in-Some c =
    same-reads means (λ ns. ns) (state_of c.args.world.now) c.one.result _ _ (ap (λ o. Ok (as_list o)) (sym c.in-Some.ensures)) c.one.ensures

pub returns-in-None : goal.returns-in-None
returns-in-None c = ap (λ l. Ok l) (ap as_list (sym c.in-None.ensures) ∙ sym c.new.ensures)

use Rattle.std.proofs.Common.{sym, subst}
use Rattle.std.proofs.lemmas.Result.{IfOk-weaker}
use Rattle.xf_binds_apply.specs.Standing.{AreSets}
use Rattle.xf_binds_apply.proofs.Chains.{kept-is, sets-around}
use Rattle.xf_binds_apply.proofs.sets.sets_of.Goals as goal

pub sets_at-requires-in-Some-kept_at-clause-from : goal.sets_at-requires-in-Some-kept_at-clause-from
sets_at-requires-in-Some-kept_at-clause-from g c = (c.requires.kept c.in-Some.outer c.in-Some-kept_at.from.now (kept-is _ _ c.in-Some-kept_at.ensures)).1

pub returns-in-Some-kept_at-clause-sets : goal.returns-in-Some-kept_at-clause-sets
returns-in-Some-kept_at-clause-sets g c =
    let given = g.A.Around.given c.args.around.now in
    let kept = c.requires.kept c.in-Some.outer c.in-Some-kept_at.from.now (kept-is _ _ c.in-Some-kept_at.ensures) in
    IfOk-weaker c.sets_at-in-Some-kept_at.result _ _ (λ s h. subst (AreSets s.nodes s.places)
    (sym (sets-around given c.args.binds.now c.args.model c.args.forest.now.forest.nodes c.args.bind.now c.in-Some.outer c.in-Some-kept_at.from.now c.in-Some.is kept.0)) h) c.sets_at-in-Some-kept_at.ensures.sets

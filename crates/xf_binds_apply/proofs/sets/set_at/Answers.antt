use Rattle.std.proofs.lemmas.Result.{IfOk-weaker}
use Rattle.xf_def_xpath.specs.declared.context.Context.{Context}
use Rattle.xf_binds_apply.proofs.SetLaws.{ok-both, set-apart, set-shown, set-value}
use Rattle.xf_binds_apply.proofs.sets.set_at.Goals as goal

pub returns-clause-value : goal.returns-clause-value
returns-clause-value g c =
    let given = g.A.Around.given c.args.around.now in
    IfOk-weaker c.selected.result _ _ (λ set h. set-value given c.args.forest.now.forest.nodes c.args.node_set.now c.args.model c.args.node set h) c.selected.ensures.value

pub returns-clause-shown : goal.returns-clause-shown
returns-clause-shown g c =
    let given = g.A.Around.given c.args.around.now in
    let context : Context = record { model = c.args.model; node = c.args.node; position = 1; size = 1; current = c.args.node } in
    ok-both c.selected.result _ _ _ (λ set h live. set-shown c.args.forest.now.forest c.is_sound.ensures given c.args.node_set.now context set h live) c.selected.ensures.value c.selected.ensures.live

pub returns-clause-apart : goal.returns-clause-apart
returns-clause-apart g c =
    let given = g.A.Around.given c.args.around.now in
    let context : Context = record { model = c.args.model; node = c.args.node; position = 1; size = 1; current = c.args.node } in
    IfOk-weaker c.selected.result _ _ (λ set h. set-apart c.args.forest.now.forest c.is_sound.ensures given c.args.node_set.now context set h) c.selected.ensures.value

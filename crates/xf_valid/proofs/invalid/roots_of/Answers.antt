use Rattle.std.proofs.Common.{◌<◌, ◌≤◌, length, ◌∙◌, arith}
use Rattle.std.proofs.lemmas.Result.{IfOk-weaker}
use Rattle.xf_valid.specs.Failed.{roots_from}
use Rattle.xf_valid.proofs.InvalidLemmas.{roots-more, roots-all}
use Rattle.xf_valid.proofs.invalid.roots_of.Goals as goal

pub loop-place-preserved : goal.loop-place-preserved
loop-place-preserved c =
    let within : c.loop-place.place < length c.args.instances.now = omega arith in
    roots-more c.args.model c.args.forest.now.forest.nodes c.args.instances.now c.loop-place.place c.index-instances-place.result c.loop-place.roots c.push_root.new.roots
    (roots_from c.args.model c.args.forest.now.forest.nodes 0 c.args.instances.now) within c.index-instances-place.is c.loop-place.invariant c.in_ok-push_root.ensures

pub returns : goal.returns
returns c =
    let past : length c.args.instances.now ≤ c.loop-place.place = omega arith in
    IfOk-weaker c.of.result _ _
    (λ set h. h ∙ roots-all c.args.model c.args.forest.now.forest.nodes c.args.instances.now c.loop-place.place c.loop-place.roots (roots_from c.args.model c.args.forest.now.forest.nodes 0 c.args.instances.now) past c.loop-place.invariant)
    c.of.ensures

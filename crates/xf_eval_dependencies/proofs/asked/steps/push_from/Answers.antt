use Rattle.std.proofs.Common.{◌++◌, refl, sym, ap, ◌∙◌}
use Rattle.std.specs.Prelude.{filter}
use Rattle.std.specs.List.{flat_map}
use Rattle.std.proofs.lemmas.List.{take_all}
use Rattle.xf_def_xpath.specs.AskedSteps.{kind_read, lists_of, read_if}
use Rattle.xf_eval_shape.specs.Spots.{numbers_at, shaped}
use Rattle.xf_eval_shape.proofs.Lists.{filter-flat}
use Rattle.xf_eval_dependencies.specs.Asked.Tells.{is_list}
use Rattle.xf_eval_dependencies.proofs.AskedLemmas.Tellings.{onward, read-if_flat}
use Rattle.xf_eval_dependencies.proofs.asked.steps.push_from.Goals as goal

pub loop-spot-preserved : goal.loop-spot-preserved
loop-spot-preserved c =
    let nodes = c.args.forest.now.forest.nodes in
    let axis = c.args.step.now.axis in record {
      reads = onward (λ n. read_if c.tells_kinds-tells_kinds.result (kind_read axis (shaped nodes) n)) c.args.from.now c.loop-spot.spot-index _ _ _ _ _ c.loop-spot.invariant.reads c.loop-spot-test.true c.in_ok-push_kind_read.ensures refl;
      looks = onward (λ n. filter (is_list nodes) (lists_of axis (shaped nodes) n)) c.args.from.now c.loop-spot.spot-index _ _ _ _ _ c.loop-spot.invariant.looks c.loop-spot-test.true c.in_ok-push_looks.ensures refl;
    }

pub returns-clause-reads : goal.returns-clause-reads
returns-clause-reads c =
    let nodes = c.args.forest.now.forest.nodes in
    let f = kind_read c.args.step.now.axis (shaped nodes) in
    c.loop-spot.invariant.reads
    ∙ ap (λ ns. c.args.reads.now ++ flat_map (λ n. read_if c.tells_kinds-tells_kinds.result (f n)) ns) (ap numbers_at (take_all c.loop-spot.spot-index c.args.from.now c.loop-spot-test.false))
    ∙ ap (λ l. c.args.reads.now ++ l) (read-if_flat c.tells_kinds-tells_kinds.result f (numbers_at c.args.from.now) ∙ ap (λ b. read_if b (flat_map f (numbers_at c.args.from.now))) c.tells_kinds-tells_kinds.ensures)

pub returns-clause-looks : goal.returns-clause-looks
returns-clause-looks c =
    let nodes = c.args.forest.now.forest.nodes in
    let f = lists_of c.args.step.now.axis (shaped nodes) in
    c.loop-spot.invariant.looks
    ∙ ap (λ ns. c.args.looks.now ++ flat_map (λ n. filter (is_list nodes) (f n)) ns) (ap numbers_at (take_all c.loop-spot.spot-index c.args.from.now c.loop-spot-test.false))
    ∙ ap (λ l. c.args.looks.now ++ l) (sym (filter-flat (is_list nodes) f (numbers_at c.args.from.now)))

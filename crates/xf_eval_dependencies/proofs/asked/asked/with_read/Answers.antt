use Rattle.std.proofs.Common.{◌++◌, refl, ap, ◌∙◌}
use Rattle.std.specs.Prelude.{filter}
use Rattle.std.specs.List.{flat_map, list_all}
use Rattle.std.proofs.lemmas.List.{take_all}
use Rattle.xf_def_xpath.specs.Asked.{lists_below, read_for}
use Rattle.xf_eval_shape.specs.Spots.{is_spot, numbers_at, shaped}
use Rattle.xf_eval_dependencies.specs.Asked.Tells.{is_list}
use Rattle.xf_eval_dependencies.proofs.AskedLemmas.Spotted.{reads-shown}
use Rattle.xf_eval_dependencies.proofs.AskedLemmas.Tellings.{onward, read-tells, reads-stand}
use Rattle.xf_eval_dependencies.proofs.asked.asked.with_read.Goals as goal

pub loop-spot-preserved : goal.loop-spot-preserved
loop-spot-preserved c =
    let nodes = c.args.forest.now.forest.nodes in record {
      reads = onward (read_for (shaped nodes)) c.args.spots.now c.loop-spot.spot-index _ _ _ _ _ c.loop-spot.invariant.reads c.loop-spot-test.true c.in_ok-push_read.ensures refl;
      looks = onward (λ n. filter (is_list nodes) (lists_below (shaped nodes) n)) c.args.spots.now c.loop-spot.spot-index _ _ _ _ _ c.loop-spot.invariant.looks c.loop-spot-test.true c.in_ok-push_below.ensures refl;
    }

pub returns-clause-tells : goal.returns-clause-tells
returns-clause-tells c =
    let nodes = c.args.forest.now.forest.nodes in
    let whole = ap numbers_at (take_all c.loop-spot.spot-index c.args.spots.now c.loop-spot-test.false) in
    λ a r k. read-tells nodes c.args.spots.now _ c.args.reads c.args.looks a c.new.ensures.items refl refl
    (c.loop-spot.invariant.reads ∙ ap (λ ns. c.args.reads ++ flat_map (read_for (shaped nodes)) ns) whole)
    (c.loop-spot.invariant.looks ∙ ap (λ ns. c.args.looks ++ flat_map (λ n. filter (is_list nodes) (lists_below (shaped nodes) n)) ns) whole)
    r k

pub returns-clause-stands : goal.returns-clause-stands
returns-clause-stands c =
    let f = c.args.forest.now.forest in
    let whole = ap numbers_at (take_all c.loop-spot.spot-index c.args.spots.now c.loop-spot-test.false) in record {
      set = ap (λ l. list_all (is_spot f.nodes) l) c.new.ensures.items;
      reads = reads-stand f.nodes c.args.reads (flat_map (read_for (shaped f.nodes)) (numbers_at c.args.spots.now)) _
          (c.loop-spot.invariant.reads ∙ ap (λ ns. c.args.reads ++ flat_map (read_for (shaped f.nodes)) ns) whole)
          c.requires.reads (reads-shown f c.is_sound.ensures c.args.spots.now c.requires.spots);
    }

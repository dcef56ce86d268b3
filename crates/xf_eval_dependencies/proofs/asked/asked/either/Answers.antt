use Rattle.std.proofs.Common.{◌++◌, refl, sym, ap, ◌∙◌, subst}
use Rattle.xf_def_xpath.specs.Setting.{in_order}
use Rattle.xf_eval_shape.specs.Spots.{AreSpots}
use Rattle.xf_eval_shape.proofs.Rounds.{spots-append}
use Rattle.xf_eval_dependencies.proofs.AskedLemmas.Tellings.{looks-both, loose-both, reads-both, reads-stand, set-both}
use Rattle.xf_eval_dependencies.proofs.asked.asked.either.Goals as goal

pub in_order-requires : goal.in_order-requires
in_order-requires c =
    let nodes = c.args.forest.now.forest.nodes in
    subst (AreSpots nodes) (sym (c.deref-2.ensures.value ∙ c.in_ok-extend_from_slice.ensures.items ∙ ap (λ l. c.args.one.set.items ++ l) c.deref.ensures.value))
    (spots-append nodes c.args.one.set.items c.args.other.set.items c.requires.one.set c.requires.other.set)

pub returns-clause-tells : goal.returns-clause-tells
returns-clause-tells c =
    let nodes = c.args.forest.now.forest.nodes in
    λ s e a b t u. record {
      set = set-both nodes c.args.one c.args.other a b t u _ c.deref-2.result.now (c.deref-2.ensures.value ∙ c.in_ok-extend_from_slice.ensures.items ∙ ap (λ l. c.args.one.set.items ++ l) c.deref.ensures.value) c.in_ok-in_order.ensures.value
          ∙ ap (λ all. in_order all (a.set ++ b.set)) (sym e);
      is_loose = loose-both nodes c.args.one c.args.other a b t u _ c.is_one-is_loose.ensures;
      is_truth = refl;
      reads = reads-both nodes c.args.one c.args.other a b t u _ c.in_ok-append.ensures;
      looks = looks-both nodes c.args.one c.args.other a b t u _ c.in_ok-append-2.ensures;
    }

pub returns-clause-stands : goal.returns-clause-stands
returns-clause-stands c =
    let nodes = c.args.forest.now.forest.nodes in record {
      set = c.in_ok-in_order.ensures.spots;
      reads = reads-stand nodes c.args.one.reads c.args.other.reads _ c.in_ok-append.ensures c.requires.one.reads c.requires.other.reads;
    }

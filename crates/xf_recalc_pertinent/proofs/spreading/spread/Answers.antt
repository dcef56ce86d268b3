use Rattle.std.proofs.Common.{◌∙◌, refl, sym}
use Rattle.xf_def_forest.specs.Visit.{has}
use Rattle.xf_binds.specs.Table.{kept_at}
use Rattle.xf_recalc_pertinent.specs.Places.{is_marked, reads_at}
use Rattle.xf_recalc_pertinent.proofs.Lists.{past-got}
use Rattle.xf_recalc_pertinent.proofs.Spreads.{spread-all, spreading-first, spreading-next}
use Rattle.xf_recalc_pertinent.proofs.spreading.spread.Goals as goal

pub loop-at-init : goal.loop-at-init
loop-at-init c =
    let k = kept_at c.args.table.now c.args.model in
    spreading-first k.entries k.asks c.args.begun c.args.touched c.hear_marked.new.heard c.requires c.in_ok-hear_marked.ensures

pub returns-in-None : goal.returns-in-None
returns-in-None c =
    let k = kept_at c.args.table.now c.args.model in (
      c.loop-at.heard,
      spread-all k.entries k.asks (is_marked c.args.begun) (λ n. has n c.args.touched) c.loop-at.marks c.loop-at.heard c.loop-at.at c.loop-at.invariant
          (past-got c.loop-at.heard c.loop-at.at (sym c.in-None.is ∙ c.get.ensures)),
    )

pub loop-at-preserved : goal.loop-at-preserved
loop-at-preserved c =
    let k = kept_at c.args.table.now c.args.model in
    spreading-next k.entries k.asks (is_marked c.args.begun) (λ n. has n c.args.touched) c.loop-at.marks c.tell.new.marks c.loop-at.heard c.tell.new.heard c.loop-at.at c.in-Some.number
    (λ place. reads_at k.entries k.asks place c.in-Some.number) c.loop-at.invariant (sym c.get.ensures ∙ c.in-Some.is)
    (λ place. refl) c.in_ok-tell-in-Some.ensures

pub tell-requires : goal.tell-requires
tell-requires c = c.loop-at.invariant.size

use Rattle.std.proofs.Common.{◌+◌, true, false, sym, ◌∙◌, subst}
use Rattle.xf_binds.specs.Table.{kept_at}
use Rattle.xf_recalc_pertinent.specs.Spread.{Hears, gives_before}
use Rattle.xf_recalc_pertinent.specs.Places.{gives_at}
use Rattle.xf_recalc_pertinent.proofs.Lists.{hears-more, hears-same}
use Rattle.xf_recalc_pertinent.proofs.Spreads.{before-next}
use Rattle.xf_recalc_pertinent.proofs.spreading.hear_marked.Goals as goal
use Rattle.xf_recalc_pertinent.proofs.spreading.hear_marked.Goals.{then-is_marked+in_ok-hear_given, else-is_marked}

pub loop-at-preserved : goal.loop-at-preserved
loop-at-preserved c =
    let k = kept_at c.args.table.now c.args.model in
    let before = gives_before k.entries k.asks c.args.marks.now in
    let at = c.loop-at.at in
    elim c.if-is_marked.branch [
      | then-is_marked+in_ok-hear_given w ↦
          subst (λ l. Hears c.args.heard.now l (before (at + 1))) (sym w.heard-is)
          (hears-more c.args.heard.now c.loop-at.heard w.hear_given.new.heard (before at) (gives_at k.entries k.asks at) (before (at + 1)) c.loop-at.invariant w.in_ok-hear_given.ensures
          (λ n. before-next k.entries k.asks c.args.marks.now at n true (sym c.is_marked.ensures ∙ w.if-is_marked.true)))
      | else-is_marked w ↦
          subst (λ l. Hears c.args.heard.now l (before (at + 1))) (sym w.heard-is)
          (hears-same c.args.heard.now c.loop-at.heard (before at) (before (at + 1)) c.loop-at.invariant
          (λ n. sym (before-next k.entries k.asks c.args.marks.now at n false (sym c.is_marked.ensures ∙ w.if-is_marked.false))))
    ]

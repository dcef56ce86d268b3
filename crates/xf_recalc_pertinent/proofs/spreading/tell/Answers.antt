use Rattle.std.proofs.Common.{◌≡◌, ◌<◌, ◌∙◌, true, ap, sym, subst}
use Rattle.xf_def_forest.specs.Visit.{has}
use Rattle.xf_binds.specs.Readers.{list_or, reads_at}
use Rattle.xf_binds.specs.Table.{kept_at}
use Rattle.xf_recalc_pertinent.proofs.Spreads.{reaches-as, reaches-none, read-within}
use Rattle.xf_recalc_pertinent.proofs.spreading.tell.Goals as goal

pub reach_all-requires : goal.reach_all-requires
reach_all-requires c = λ place h.
    let k = kept_at c.args.table.now c.args.model in
    let read : reads_at k.entries k.asks place c.args.number ≡ true = sym (c.in-Some.ensures.each place) ∙ ap (has place) (sym c.as_slice.ensures) ∙ h in
    subst (λ count. place < count) (sym c.requires) (read-within k.entries k.asks place c.args.number read)

pub returns-in_ok-reach_all-in-Some : goal.returns-in_ok-reach_all-in-Some
returns-in_ok-reach_all-in-Some c =
    let k = kept_at c.args.table.now c.args.model in
    reaches-as k.entries k.asks c.args.marks.now c.reach_all.new.marks c.args.heard.now c.reach_all.new.heard _ _ c.in_ok-reach_all-in-Some.ensures
    (λ place. ap (has place) c.as_slice.ensures ∙ c.in-Some.ensures.each place)

pub returns-in-None : goal.returns-in-None
returns-in-None c =
    let k = kept_at c.args.table.now c.args.model in
    reaches-none k.entries k.asks c.args.marks.now c.args.heard.now (λ place. reads_at k.entries k.asks place c.args.number) (λ place. sym (c.in-None.ensures.each place))

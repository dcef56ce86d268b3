use Rattle.std.proofs.Common.{refl, ◌∙◌, arith}
use Rattle.xf_tree_contents.specs.declared.sought.Principal.TheVariants.{Element}
use Rattle.xf_tree_contents.specs.declared.sought.Sought.TheVariants.{Named}
use Rattle.xf_tree_walks.proofs.NarrowLemmas.{none-before, none-but, none-named, another, deep-alone}
use Rattle.xf_tree_walks.proofs.narrow.narrowed_to.Goals.{else-at-place-via-then-at-place+else-place-end, else-at-place-via-else-at-place}
use Rattle.xf_tree_walks.proofs.narrow.narrowed_to.Goals as goal

pub returns-in-Nobody-clause-same : goal.returns-in-Nobody-clause-same
returns-in-Nobody-clause-same c =
    let s = c.args.slots.now in
    let rows = c.args.rows.now.items in
    let sought = Named Element c.args.asked in
    none-before s rows sought c.requires.nodes c.args.depth c.args.at c.args.end c.args.end c.requires.order (omega arith) c.requires.within
    (λ i a less. none-named s rows sought c.requires.nodes c.args.asked.now c.args.depth i (λ content. refl) c.in-Nobody.ensures)

pub returns-then-place-end-clause-deep : goal.returns-then-place-end-clause-deep
returns-then-place-end-clause-deep c = deep-alone c.args.depth c.args.at c.in-Some.place c.args.end c.args.rows.now.items c.if-at-place.true c.if-place-end.true c.requires.within c.requires.deep

pub returns-then-place-end-clause-same : goal.returns-then-place-end-clause-same
returns-then-place-end-clause-same c =
    let s = c.args.slots.now in
    let rows = c.args.rows.now.items in
    let sought = Named Element c.args.asked in
    let place = c.in-Some.place in
    let here = c.in-Some.ensures in
    none-but s rows sought c.requires.nodes c.args.depth c.args.at place c.args.end c.if-at-place.true c.if-place-end.true c.requires.within
    (λ i a less other. another s rows sought c.requires.nodes c.args.asked.now c.args.depth place i (λ content. refl) (λ key is named. here.1 ∙ c.in-One.ensures key is named) (omega (arith, less, c.requires.within)) here.0 other)

pub returns-clause-same : goal.returns-clause-same
returns-clause-same c =
    let s = c.args.slots.now in
    let rows = c.args.rows.now.items in
    let sought = Named Element c.args.asked in
    let place = c.in-Some.place in
    let here = c.in-Some.ensures in
    none-before s rows sought c.requires.nodes c.args.depth c.args.at c.args.end c.args.end c.requires.order (omega arith) c.requires.within
    (λ i a less. another s rows sought c.requires.nodes c.args.asked.now c.args.depth place i (λ content. refl) (λ key is named. here.1 ∙ c.in-One.ensures key is named) (omega (arith, less, c.requires.within)) here.0
    (λ e. elim c.else-at-place.branch [
      | else-at-place-via-then-at-place+else-place-end w ↦ omega (arith, e, less, w.if-place-end.false)
      | else-at-place-via-else-at-place w ↦ omega (arith, e, a, w.if-at-place.false)
    ]))

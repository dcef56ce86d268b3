use Rattle.std.proofs.Common.{◌≡◌, ◌<◌, ◌&&◌, ◌||◌, true, length, Some, None, sym, ap, ◌∙◌, refl, arith}
use Rattle.std.specs.List.{list_all, list_any}
use Rattle.xf_def_forest.specs.Forest.{has_number}
use Rattle.xf_def_forest.specs.Visit.{visits, ancestors_of}
use Rattle.xf_def_forest.proofs.LiveLaws.{parent-live}
use Rattle.xf_def_model.specs.declared.property.Property.TheVariants.{Relevant}
use Rattle.xf_def_model.specs.Properties.{own, own_readonly}
use Rattle.xf_binds.specs.Kept.{values_in}
use Rattle.xf_valid.specs.Nodes.{readonly_in, relevant_in}
use Rattle.xf_valid.proofs.Unset.{and-true, closed-readonly, closed-relevant, number_of, or-false, path, path-shorter, path-up, readonly-at, readonly-here, relevant-at, relevant-here}
use Rattle.xf_valid.proofs.above.climbed.Goals as goal

pub loop-next-init : goal.loop-next-init
loop-next-init c = record {
  live = λ m e. let is : c.args.node.number ≡ m = cc e in ap (λ k. has_number k c.args.forest.now.forest.nodes) (sym is) ∙ c.requires.live;
  relevant = refl;
  readonly = refl;
}

pub loop-next-preserved : goal.loop-next-preserved
loop-next-preserved c =
    let table = c.args.table.now in
    let nodes = c.args.forest.now.forest.nodes in
    let at = c.in-Some.at.number in
    let live : has_number at nodes ≡ true = c.loop-next.invariant.live at (ap number_of c.in-Some.is) in
    let up = path-up nodes at (number_of c.parent-next.result) c.are_trees.ensures.apart live c.parent-next.ensures in
    record {
      live = λ m e. parent-live at m nodes (sym c.parent-next.ensures ∙ e);
      relevant =
          ap (λ ns. c.joined-found.result.relevant && list_all (own (values_in table) Relevant true) ns) up
          ∙ relevant-here table at (ancestors_of at (visits nodes)) c.loop-next.found.relevant c.joined-found.result.relevant (relevant_in table nodes c.args.node.number) c.joined-found.ensures.relevant
          (relevant-at table (visits nodes) c.loop-next.next (Some c.in-Some.at) c.loop-next.found.relevant (relevant_in table nodes c.args.node.number) c.in-Some.is c.loop-next.invariant.relevant);
      readonly =
          ap (λ ns. c.joined-found.result.readonly || list_any (own_readonly (values_in table)) ns) up
          ∙ readonly-here table at (ancestors_of at (visits nodes)) c.loop-next.found.readonly c.joined-found.result.readonly (readonly_in table nodes c.args.node.number) c.joined-found.ensures.readonly
          (readonly-at table (visits nodes) c.loop-next.next (Some c.in-Some.at) c.loop-next.found.readonly (readonly_in table nodes c.args.node.number) c.in-Some.is c.loop-next.invariant.readonly);
    }

pub loop-next-smaller : goal.loop-next-smaller
loop-next-smaller c =
    let nodes = c.args.forest.now.forest.nodes in
    let at = c.in-Some.at.number in
    let live : has_number at nodes ≡ true = c.loop-next.invariant.live at (ap number_of c.in-Some.is) in
    let less : length (path (number_of c.parent-next.result) (visits nodes)) < length (path (Some at) (visits nodes)) =
    path-shorter nodes at (number_of c.parent-next.result) c.are_trees.ensures.apart live c.parent-next.ensures in
    let same : length (path (number_of c.loop-next.next) (visits nodes)) ≡ length (path (Some at) (visits nodes)) = ap (λ o. length (path (number_of o) (visits nodes))) c.in-Some.is in
    omega (arith, less, same)

pub returns-then-not-is_open-clause-relevant : goal.returns-then-not-is_open-clause-relevant
returns-then-not-is_open-clause-relevant c =
    let table = c.args.table.now in
    let nodes = c.args.forest.now.forest.nodes in
    let at = c.in-Some.at.number in
    sym (closed-relevant table c.args.looks c.joined-found.result (ancestors_of at (visits nodes)) c.requires.looks (sym c.is_open-is_open.ensures ∙ c.if-not-is_open.true))
    ∙ relevant-here table at (ancestors_of at (visits nodes)) c.loop-next.found.relevant c.joined-found.result.relevant (relevant_in table nodes c.args.node.number) c.joined-found.ensures.relevant
    (relevant-at table (visits nodes) c.loop-next.next (Some c.in-Some.at) c.loop-next.found.relevant (relevant_in table nodes c.args.node.number) c.in-Some.is c.loop-next.invariant.relevant)

pub returns-then-not-is_open-clause-readonly : goal.returns-then-not-is_open-clause-readonly
returns-then-not-is_open-clause-readonly c =
    let table = c.args.table.now in
    let nodes = c.args.forest.now.forest.nodes in
    let at = c.in-Some.at.number in
    sym (closed-readonly table c.args.looks c.joined-found.result (ancestors_of at (visits nodes)) c.requires.looks (sym c.is_open-is_open.ensures ∙ c.if-not-is_open.true))
    ∙ readonly-here table at (ancestors_of at (visits nodes)) c.loop-next.found.readonly c.joined-found.result.readonly (readonly_in table nodes c.args.node.number) c.joined-found.ensures.readonly
    (readonly-at table (visits nodes) c.loop-next.next (Some c.in-Some.at) c.loop-next.found.readonly (readonly_in table nodes c.args.node.number) c.in-Some.is c.loop-next.invariant.readonly)

pub returns-clause-relevant : goal.returns-clause-relevant
returns-clause-relevant c =
    let nodes = c.args.forest.now.forest.nodes in
    sym (and-true c.loop-next.found.relevant)
    ∙ relevant-at c.args.table.now (visits nodes) c.loop-next.next None c.loop-next.found.relevant (relevant_in c.args.table.now nodes c.args.node.number) c.in_default.is c.loop-next.invariant.relevant

pub returns-clause-readonly : goal.returns-clause-readonly
returns-clause-readonly c =
    let nodes = c.args.forest.now.forest.nodes in
    sym (or-false c.loop-next.found.readonly)
    ∙ readonly-at c.args.table.now (visits nodes) c.loop-next.next None c.loop-next.found.readonly (readonly_in c.args.table.now nodes c.args.node.number) c.in_default.is c.loop-next.invariant.readonly

use Rattle.std.proofs.Common.{[], subst}
use Rattle.xf_def_ui.specs.Copies.{no_marks}
use Rattle.xf_def_ui.specs.Interface.{interface_of}
use Rattle.xf_controls.specs.Known.{AreNoted}
use Rattle.xf_controls.specs.Surrounded.{around_in}
use Rattle.xf_controls.proofs.KnownLaws.{nothing-known}
use Rattle.xf_controls.proofs.NotedLaws.{held-noted}
use Rattle.xf_controls.proofs.finding.known_nodes.Goals as goal

pub controls-requires-clause-known : goal.controls-requires-clause-known
controls-requires-clause-known g c =
    let form = c.args.form.now in
    let nodes = c.args.forest.now.forest.nodes in
    nothing-known (interface_of form) (around_in (g.A.Around.given c.args.around.now) form.tables nodes) nodes c.new-nothing.result c.new-nothing.ensures

pub returns : goal.returns
returns g c =
    let form = c.args.form.now in
    held-noted form (g.A.Around.given c.args.around.now) c.args.forest.now.forest.nodes (λ n. no_marks) c.in_ok-copies.copies c.requires.plain c.requires.quiet (c.in_ok-copies.ensures [] []) c.in_ok-noted.field-0
    (subst (λ list. AreNoted (interface_of form) list c.in_ok-noted.field-0) c.as_slice.ensures c.in_ok-noted.ensures)

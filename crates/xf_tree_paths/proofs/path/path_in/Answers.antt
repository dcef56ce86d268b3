use Rattle.std.proofs.Common.{◌++◌, ap, ◌∙◌}
use Rattle.xf_def_forest.specs.Forest.{has_number}
use Rattle.xf_def_forest.specs.Path.{path_of}
use Rattle.xf_def_forest.specs.Visit.{visits}
use Rattle.xf_def_machine.specs.Properties.{braced}
use Rattle.xf_tree_paths.proofs.PathLaws.{if-ok, not-live, gone-path, known-path, alone-path}
use Rattle.xf_tree_paths.proofs.path.path_in.Goals as goal

pub returns-then-not-is_live : goal.returns-then-not-is_live
returns-then-not-is_live c =
    let nodes = c.args.forest.now.forest.nodes in
    let n = c.args.node.number in
    let gone = not-live (has_number n nodes) c.is_live.result c.is_live.ensures.1 c.if-not-is_live.true in
    if-ok c.from_str.result (λ path e. gone-path c.args.instances.now c.args.forest.now.forest n path gone e) c.from_str.ensures

pub returns-in-Some : goal.returns-in-Some
returns-in-Some c =
    let instances = c.args.instances.now in
    let forest = c.args.forest.now.forest in
    let n = c.args.node.number in
    if-ok c.path_with.result (λ path e. known-path instances forest n c.in-Some.place path c.in-Some.ensures.1 (e ∙ ap (λ p. braced p ++ path_of n (visits forest.nodes)) c.pair_among.ensures)) c.path_with.ensures

pub returns-in-None : goal.returns-in-None
returns-in-None c =
    if-ok c.path.result (λ path e. alone-path c.args.instances.now c.args.forest.now.forest c.args.node.number path c.in-None.ensures e) c.path.ensures

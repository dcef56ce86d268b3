use Rattle.std.proofs.Common.{◌≡◌, true, not, ◌&&◌, sym, ap, ◌∙◌}
use Rattle.std.specs.List.{list_any}
use Rattle.xf_def_forest.specs.Visit.{has, parent_of, visits}
use Rattle.xf_tree_walks.proofs.StackLemmas.{absent-parent}
use Rattle.xf_def_model.specs.Taken.{is_apart, is_open}
use Rattle.xf_insert.specs.Closed.{closed_by}
use Rattle.xf_insert.proofs.DeleteLaws.{any-ancestor}
use Rattle.xf_insert.proofs.taking.is_taken.Goals as goal

pub returns-then-not-is_live : goal.returns-then-not-is_live
returns-then-not-is_live g c =
    let nodes = c.args.planning.now.forest.now.forest.nodes in
    let closed = closed_by (g.M.NodeMarks.marks_of c.args.planning.now.marks.now) nodes in
    let n = c.args.node.number in
    ap (λ o. is_open (visits nodes) closed o && is_apart (visits nodes) c.args.known.now.keys n) (sym (absent-parent n nodes (sym c.is_live.ensures ∙ c.if-not-is_live.true)))

pub returns : goal.returns
returns g c =
    let nodes = c.args.planning.now.forest.now.forest.nodes in
    let closed = closed_by (g.M.NodeMarks.marks_of c.args.planning.now.marks.now) nodes in
    let n = c.args.node.number in
    let keys = c.args.known.now.keys in
    let opened : is_open (visits nodes) closed (parent_of n (visits nodes)) ≡ true =
    ap (is_open (visits nodes) closed) (sym c.in-Some.ensures) ∙ ap (λ b. not b && not (has c.in-Some.parent.number closed)) (sym c.is_root.ensures ∙ c.if-is_root.false)
    ∙ ap not (sym c.is_closed.ensures ∙ c.if-is_closed.false) in
    let known : not c.is_some_known.result ≡ is_apart (visits nodes) keys n =
    ap not (c.is_some_known.ensures ∙ ap (list_any (λ m. has m keys)) (c.as_slice.ensures ∙ c.in_ok-around.ensures) ∙ any-ancestor (λ m. has m keys) n nodes) in
    known ∙ ap (λ b. b && is_apart (visits nodes) keys n) (sym opened)

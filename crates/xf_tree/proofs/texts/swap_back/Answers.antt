use Rattle.std.proofs.Common.{◌+◌, ◌-◌, length, map, ap, ◌∙◌, subst, arith}
use Rattle.xf_def_forest.specs.Limits.{node_count, all_size}
use Rattle.xf_tree_walks.specs.Nodes.{KeepsBut, node_of, times}
use Rattle.xf_tree_changes.specs.Texts.{children, run_of, depth_at}
use Rattle.xf_tree.proofs.SwappedLemmas.{run-part, part-times}
use Rattle.xf_tree.proofs.texts.swap_back.Goals as goal

pub free_texts-requires : goal.free_texts-requires
free_texts-requires c = λ n.
    let s = c.args.slots.now in
    let rows = c.args.rows.now.items in
    let part = part-times s n (c.end_of-end.result - (c.args.at + 1)) (c.args.at + 1) rows in
    omega (arith, c.requires.apart n, part, ap (λ l. times n (map (node_of s) l)) c.slice.ensures)

pub returns-clause-rest : goal.returns-clause-rest
returns-clause-rest c =
    let s = c.args.slots.now in
    let run = c.slice.ensures ∙ run-part c.args.at c.end_of-end.result c.args.rows.now.items c.requires.within c.end_of-end.ensures.answer in
    subst (λ l. KeepsBut s c.free_texts.new.slots (map (node_of s) (children s l))) run c.free_texts.ensures.rest

pub returns-clause-count : goal.returns-clause-count
returns-clause-count c =
    let s = c.args.slots.now in
    let run = c.slice.ensures ∙ run-part c.args.at c.end_of-end.result c.args.rows.now.items c.requires.within c.end_of-end.ensures.answer in
    c.free_texts.ensures.total ∙ ap (λ l. c.args.count.now + length c.args.wanted.now - node_count (map (node_of s) (children s l))) run

pub returns-clause-bytes : goal.returns-clause-bytes
returns-clause-bytes c =
    let s = c.args.slots.now in
    let at = c.args.at in
    let rows = c.args.rows.now.items in
    let run = c.slice.ensures ∙ run-part at c.end_of-end.result rows c.requires.within c.end_of-end.ensures.answer in
    c.free_texts.ensures.size ∙ ap (λ l. c.args.bytes.now + c.size_of_texts.result - all_size (map (node_of s) (children s l))) run
    ∙ ap (λ z. c.args.bytes.now + z - all_size (map (node_of s) (children s (run_of at rows)))) (c.size_of_texts.ensures.answer (depth_at at rows + 1))

use Rattle.std.proofs.Common.{◌++◌, map, reverse, sym, ap, ◌∙◌, arith}
use Rattle.std.specs.Prelude.{string_bytes}
use Rattle.std.specs.List.{flat_map}
use Rattle.xf_def_forest.specs.Path.{step_of, or_slash}
use Rattle.xf_def_forest.specs.Visit.{visits}
use Rattle.xf_tree_walks.specs.Nodes.{node_of}
use Rattle.xf_tree_walks.specs.Walks.{number_of_row}
use Rattle.xf_tree_walks.proofs.PathLemmas.{path-is}
use Rattle.xf_tree_walks.proofs.PathTextLemmas.{slash-none, slash-some}
use Rattle.xf_tree_walks.proofs.path.path_at.Goals.{then-is_empty+in_ok-push, else-is_empty}
use Rattle.xf_tree_walks.proofs.path.path_at.Goals as goal

pub returns : goal.returns
returns c =
    let rows = c.args.rows.now.items in
    let s = c.args.slots.now in
    let steps = c.push_steps.new.text in
    let path = path-is s rows c.args.at c.in_ok-places.places.items c.requires.nodes c.requires.within c.in_ok-places.ensures.rows in
    let text = c.in_ok-push_steps.ensures ∙ ap (λ l. l ++ flat_map (step_of (visits (map (node_of s) rows))) (reverse (map (number_of_row s rows) c.in_ok-places.places.items))) c.new-text.ensures.bytes in
    let whole = ap or_slash text ∙ sym path in
    c.from_string.ensures ∙ elim c.if-is_empty.branch [
      | then-is_empty+in_ok-push w ↦
          ap string_bytes w.text-is
          ∙ slash-none steps.bytes.len (string_bytes steps) (string_bytes w.push.new.self) steps.bytes.ok.0 (sym c.is_empty.ensures ∙ w.if-is_empty.true)
          (w.in_ok-push.ensures.bytes ∙ ap (λ l. string_bytes steps ++ l) (w.in_ok-push.ensures.ascii (omega arith)))
          ∙ whole
      | else-is_empty w ↦ ap string_bytes w.text-is ∙ slash-some steps.bytes.len (string_bytes steps) steps.bytes.ok.0 (sym c.is_empty.ensures ∙ w.if-is_empty.false) ∙ whole
    ]

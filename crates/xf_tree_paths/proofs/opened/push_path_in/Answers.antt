use Rattle.std.proofs.Common.{◌-◌, refl, ap, arith}
use Rattle.std.proofs.lemmas.List.Elements.{All-same, All-set}
use Rattle.std.specs.Vec.{vec_len}
use Rattle.xf_def_forest.specs.Forest.{content_at}
use Rattle.xf_tree_paths.specs.Opened.{IsOpen}
use Rattle.xf_tree_paths.proofs.OpenLemmas.{last-open}
use Rattle.xf_tree_paths.proofs.opened.push_path_in.Goals as goal
use Rattle.xf_tree_paths.proofs.opened.push_path_in.Goals.{then-comes_next+in-Some+in-Some-turn_of+in_default-seen_of, then-comes_next+in-Some+in_default-turn_of, then-comes_next+in_default, else-comes_next}

pub push_known-requires-clause-one : goal.push_known-requires-clause-one
push_known-requires-clause-one c =
    let all = c.args.forest.now.forest.nodes in
    c.turn_of.ensures.one all (last-open all c.close.new.nodes.items (vec_len c.close.new.nodes - 1) c.in-Some.one.now (c.close.ensures all c.requires.nodes) (omega (arith, c.in-Some.ensures.variant.0 refl, c.close.new.nodes.ok)) c.in-Some.ensures.value)

pub push_known-requires-clause-content : goal.push_known-requires-clause-content
push_known-requires-clause-content c =
    let all = c.args.forest.now.forest.nodes in
    let one = last-open all c.close.new.nodes.items (vec_len c.close.new.nodes - 1) c.in-Some.one.now (c.close.ensures all c.requires.nodes) (omega (arith, c.in-Some.ensures.variant.0 refl, c.close.new.nodes.ok)) c.in-Some.ensures.value in
    c.in-Some-seen_of.ensures (content_at c.args.node.number all) (c.in-Some-turn_of.ensures.sort all one)

pub returns-in-Some-seen_of-clause-nodes : goal.returns-in-Some-seen_of-clause-nodes
returns-in-Some-seen_of-clause-nodes c =
    let all = c.args.forest.now.forest.nodes in
    let stands = c.close.ensures all c.requires.nodes in
    All-set (IsOpen all) c.close.new.nodes.items (vec_len c.close.new.nodes - 1) c.turn_of.new.one
    (c.turn_of.ensures.one all (last-open all c.close.new.nodes.items (vec_len c.close.new.nodes - 1) c.in-Some.one.now stands (omega (arith, c.in-Some.ensures.variant.0 refl, c.close.new.nodes.ok)) c.in-Some.ensures.value)) stands

pub push_below-requires-clause-nodes : goal.push_below-requires-clause-nodes
push_below-requires-clause-nodes c =
    let all = c.args.forest.now.forest.nodes in
    elim c.if-comes_next.branch [
      | then-comes_next+in-Some+in-Some-turn_of+in_default-seen_of w ↦
          let stands = w.close.ensures all c.requires.nodes in
          All-same (IsOpen all) c.if-comes_next.nodes.items _ (ap (λ v. v.items) w.nodes-is) (All-set (IsOpen all) w.close.new.nodes.items (vec_len w.close.new.nodes - 1) w.turn_of.new.one
          (w.turn_of.ensures.one all (last-open all w.close.new.nodes.items (vec_len w.close.new.nodes - 1) w.in-Some.one.now stands (omega (arith, w.in-Some.ensures.variant.0 refl, w.close.new.nodes.ok)) w.in-Some.ensures.value)) stands)
      | then-comes_next+in-Some+in_default-turn_of w ↦
          let stands = w.close.ensures all c.requires.nodes in
          All-same (IsOpen all) c.if-comes_next.nodes.items _ (ap (λ v. v.items) w.nodes-is) (All-set (IsOpen all) w.close.new.nodes.items (vec_len w.close.new.nodes - 1) w.turn_of.new.one
          (w.turn_of.ensures.one all (last-open all w.close.new.nodes.items (vec_len w.close.new.nodes - 1) w.in-Some.one.now stands (omega (arith, w.in-Some.ensures.variant.0 refl, w.close.new.nodes.ok)) w.in-Some.ensures.value)) stands)
      | then-comes_next+in_default w ↦ All-same (IsOpen all) c.if-comes_next.nodes.items w.close.new.nodes.items (ap (λ v. v.items) w.nodes-is) (w.close.ensures all c.requires.nodes)
      | else-comes_next w ↦ All-same (IsOpen all) c.if-comes_next.nodes.items c.args.nodes.now.items (ap (λ v. v.items) w.nodes-is) c.requires.nodes
    ]

use Rattle.std.proofs.Common.{◌≡◌, ◌||◌, map, drop, option_map}
use Rattle.xf_def_xpath.specs.Setting.{each}
use Rattle.xf_eval.specs.Sides.{some_beside}
use Rattle.xf_eval.proofs.Made.{text_made}
use Rattle.xf_eval.proofs.compare.some_beside.Given as goal

abbrev pub invariant-loop-node : goal.invariant-loop-node
invariant-loop-node l =
    let made = text_made l.forest.forest.nodes in
    let some = some_beside l.decimals l.operator l.is_left l.others in
    option_map (λ texts. l.found || some texts) (each made (map (λ n. n.number) (drop l.node-index l.node-items))) ≡ option_map some (each made (map (λ n. n.number) l.node-items))

use Rattle.std.proofs.Common.{◌≡◌, ◌-◌, ◌≤◌, ℕ, List, [], map, length, take, drop, sym, ap, ◌∙◌, subst, arith, length-take}
use Rattle.std.proofs.lemmas.List.{take-append-drop, map-append, take_rest}
use Rattle.xf_def_forest.specs.declared.content.Node.{Node}
use Rattle.xf_def_forest.specs.Changes.{in_instances}
use Rattle.xf_def_forest.specs.Limits.{node_count, all_size}
use Rattle.xf_def_forest.specs.Texts.{Keeping, without_detached}
use Rattle.xf_tree_contents.specs.Keys.{kept_of}
use Rattle.xf_tree_walks.specs.Nodes.{node_of, times, KeepsBut}
use Rattle.xf_tree_walks.proofs.NodeLemmas.{times-append}
use Rattle.xf_tree.specs.State.{IsState}
use Rattle.xf_tree.proofs.DropLemmas.{dropped-state, dropped-nodes, front-parted, front-shaped}
use Rattle.xf_tree.proofs.forest.Forest.drop_detached.Goals.{After-truncate}
use Rattle.xf_tree.proofs.forest.Forest.drop_detached.Goals as goal

pub free_rows-requires : goal.free_rows-requires
free_rows-requires c = λ n.
    let s = c.self.inside.slots in
    let rows = c.self.inside.rows.items in
    let end = c.tops_end-end.result in
    let e = ap (λ l. times n (map (node_of s) l)) (c.slice.ensures ∙ ap (λ k. take (k - end) (drop end rows)) c.len.ensures ∙ take_rest rows end) in
    let a = ap (λ l. times n (map (node_of s) l)) (sym (take-append-drop end rows)) ∙ ap (times n) (map-append (node_of s) (take end rows) (drop end rows)) ∙ times-append n (map (node_of s) (take end rows)) (map (node_of s) (drop end rows)) in
    omega (arith, c.self.invariant.sound.apart n)

rows-rest : (c : After-truncate) → KeepsBut c.self.inside.slots c.free_rows.new.slots (map (node_of c.self.inside.slots) (drop c.tops_end-end.result c.self.inside.rows.items))
rows-rest c = subst (λ l. KeepsBut c.self.inside.slots c.free_rows.new.slots (map (node_of c.self.inside.slots) l)) (c.slice.ensures ∙ ap (λ k. take (k - c.tops_end-end.result) (drop c.tops_end-end.result c.self.inside.rows.items)) c.len.ensures ∙ take_rest c.self.inside.rows.items c.tops_end-end.result) c.free_rows.ensures.rest

pub invariant_of-self : goal.invariant_of-self
invariant_of-self c =
    let k = (goal.at.invariant_of-self c).After-truncate in
    let s = c.self.inside.slots in
    let rows = c.self.inside.rows.items in
    let end = c.tops_end-end.result in
    let gone = c.slice.ensures ∙ ap (λ k. take (k - end) (drop end rows)) c.len.ensures ∙ take_rest rows end in
    let total = c.free_rows.ensures.total ∙ ap (λ l. c.self.inside.count - node_count (map (node_of s) l)) gone in
    let size = c.free_rows.ensures.size ∙ ap (λ l. c.self.inside.bytes - all_size (map (node_of s) l)) gone in
    let stops = c.tops_end-end.ensures.stops in
    let kept = c.self.inside.kept.items in
    let next = c.self.inside.next in
    let less : length (take end rows) ≤ length rows = omega (arith, length-take end rows) in
    let state = dropped-state s c.free_rows.new.slots c.drop_kept.new.slots rows (take end rows) (drop end rows) kept next c.self.inside.count c.self.inside.bytes (c.self.inside.rows.capacity) c.self.invariant
    (front-parted s end rows) (rows-rest k) c.drop_kept.ensures.rest
    c.free_rows.ensures.less c.drop_kept.ensures.less next c.free_rows.new.total c.free_rows.new.size c.truncate.new.self.capacity (omega (arith, c.truncate.ensures.room)) total size
    (front-shaped s end next rows kept c.self.invariant.sound stops) less (λ n h. omega (arith, front-parted s end rows (times n) (times-append n), c.self.invariant.sound.fresh n h)) in
    let with_rows = subst (λ l. IsState c.drop_kept.new.slots l [] c.self.inside.next c.free_rows.new.total c.free_rows.new.size c.truncate.new.self.capacity) (sym c.truncate.ensures.items) state in
    subst (λ l. IsState c.drop_kept.new.slots c.truncate.new.self.items l c.self.inside.next c.free_rows.new.total c.free_rows.new.size c.truncate.new.self.capacity) (sym c.drop_kept.ensures.none) with_rows

pub returns : goal.returns
returns c =
    let k = (goal.at.returns c).After-truncate in
    let s = c.self.inside.slots in
    let s2 = c.drop_kept.new.slots in
    let rows = c.self.inside.rows.items in
    let end = c.tops_end-end.result in
    let same = dropped-nodes s c.free_rows.new.slots s2 rows (take end rows) (drop end rows) c.self.inside.kept.items c.self.inside.next c.self.inside.count c.self.inside.bytes (c.self.inside.rows.capacity) c.self.invariant
    (front-parted s end rows) (rows-rest k) c.drop_kept.ensures.rest in
    let is : map (node_of s) (take end rows) ≡ in_instances (map (node_of s) rows) = c.tops_end-end.ensures.answer in
    let nodes : map (node_of s2) c.truncate.new.self.items ≡ in_instances (map (node_of s) rows) = ap (map (node_of s2)) c.truncate.ensures.items ∙ same ∙ is in
    let whole : List Node → List ℕ → Keeping = λ l ks. record { forest = record { nodes = l; next = c.self.inside.next }; kept = map (kept_of s2) ks } in
    ap (λ l. whole l c.drop_kept.new.kept.items) nodes ∙ ap (whole (in_instances (map (node_of s) rows))) c.drop_kept.ensures.none ∙ ap without_detached c.self.view_is

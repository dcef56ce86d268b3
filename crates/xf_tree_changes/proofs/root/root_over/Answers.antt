use Rattle.std.proofs.Common.{◌≡◌, ℕ, ◌+◌, ◌-◌, ◌<◌, ◌≤◌, List, [], ◌∷◌, ◌++◌, map, length, take, drop, get_or, refl, sym, ap, ◌∙◌, subst, arith}
use Rattle.xf_def_forest.specs.Changes.{in_instances}
use Rattle.xf_tree_rows.specs.declared.rows.Row.{Row}
use Rattle.xf_tree_rows.specs.Rows.{Sized, deeper, deepened, tree_of, rest_of, no_row}
use Rattle.xf_tree_rows.proofs.CutLemmas.{size-at, tree-within}
use Rattle.xf_tree_rows.proofs.RootedLemmas.{rest-sized, rooted-is, rest-front, depths-fit}
use Rattle.xf_tree_walks.specs.Nodes.{node_of}
use Rattle.xf_tree_changes.proofs.root.root_over.Goals as goal

-- what stands before the tree
front-is : (from : ℕ) (rows front rest : List Row) → front ≡ take (from - 0) (drop 0 rows) → take from rows ≡ rest → front ≡ rest
front-is from rows front rest is same = let e : from - 0 ≡ from = omega arith in is ∙ ap (λ n. take n rows) e ∙ same

pub tops_end_in-place-requires : goal.tops_end_in-place-requires
tops_end_in-place-requires c =
    let old = c.args.rows.now.items in
    let at = c.args.at in
    let w = rest-front at c.move_last-from.result old c.move_last-from.new.rows.items c.move_last-from.ensures.moved c.move_last-from.ensures.from in
    let r = rest-sized at old c.requires.within c.requires.top c.requires.sized in
    record { sized = subst Sized (sym (front-is c.move_last-from.result c.move_last-from.new.rows.items c.slice.result (rest_of at old) c.slice.ensures w.2)) r.0 }

size-is : (at : ℕ) (old : List Row) (x : Row) → at < length old → Sized old → x ≡ get_or old at no_row → x.size ≡ length (tree_of (drop at old))
size-is at old x h sized is = ap (λ (r : Row). r.size) is ∙ size-at at old no_row h sized

pub overflow_add-size : goal.overflow_add-size
overflow_add-size c =
    let old = c.args.rows.now.items in
    let at = c.args.at in
    let row = c.at-size.ensures in
    omega (arith, size-is at old c.at-size.result c.requires.within c.requires.sized row, tree-within at old c.requires.within, c.requires.few)

rows-is : (rows1 rows2 W T : List Row) (R : Row) → rows1 ≡ W ++ T → rows2 ≡ rows1 ++ (R ∷ []) → rows2 ≡ (W ++ T) ++ (R ∷ [])
rows-is rows1 rows2 W T R e f = f ∙ ap (λ l. l ++ (R ∷ [])) e

pub lift_root-requires-clause-fits : goal.lift_root-requires-clause-fits
lift_root-requires-clause-fits c =
    let old = c.args.rows.now.items in
    let at = c.args.at in
    let w = rest-front at c.move_last-from.result old c.move_last-from.new.rows.items c.move_last-from.ensures.moved c.move_last-from.ensures.from in
    let R : Row = record { key = c.push_node-key.result; size = c.at-size.result.size + 1; depth = 0 } in
    depths-fit at old c.push_node-key.new.rows.items R c.requires.steps c.requires.few refl (rows-is c.move_last-from.new.rows.items c.push_node-key.new.rows.items (rest_of at old) (tree_of (drop at old)) R w.0 c.push_node-key.ensures.row)

pub returns-clause-answer : goal.returns-clause-answer
returns-clause-answer c =
    let old = c.args.rows.now.items in
    let at = c.args.at in
    let s = c.args.slots.now in
    let from = c.move_last-from.result in
    let place = c.tops_end_in-place.result in
    let W = rest_of at old in
    let T = tree_of (drop at old) in
    let w = rest-front at from old c.move_last-from.new.rows.items c.move_last-from.ensures.moved c.move_last-from.ensures.from in
    let row = c.at-size.ensures in
    let size = size-is at old c.at-size.result c.requires.within c.requires.sized row in
    let R : Row = record { key = c.push_node-key.result; size = c.at-size.result.size + 1; depth = 0 } in
    let slice : c.slice.result ≡ W = front-is from c.move_last-from.new.rows.items c.slice.result W c.slice.ensures w.2 in
    let within : place ≤ from = omega (arith, c.tops_end_in-place.ensures.within, ap length slice, w.1) in
    let rooted = rooted-is place from W T c.push_node-key.new.rows.items c.lift_root.new.rows.items R
    (rows-is c.move_last-from.new.rows.items c.push_node-key.new.rows.items W T R w.0 c.push_node-key.ensures.row) w.1 within c.lift_root.ensures.answer in
    record {
      place = place;
      rows = rooted ∙ ap (λ n. take place W ++ ((record { key = c.push_node-key.result; size = n + 1; depth = 0 } ∷ map (deepened 1) T) ++ drop place W)) size;
      instances = subst (λ l. map (node_of s) (take place l) ≡ in_instances (map (node_of s) l)) slice c.tops_end_in-place.ensures.answer;
      stops = subst (λ l. deeper 0 (drop place l) ≡ 0) slice c.tops_end_in-place.ensures.stops;
      vacant = c.push_node-key.ensures.vacant;
      slot = c.push_node-key.ensures.slot;
    }

use Rattle.std.proofs.Common.{◌≡◌, ◌+◌, ◌-◌, ◌≤◌, ◌++◌, length, map, take, drop, reverse, ap, ◌∙◌, arith, length-append, length-take, length-drop}
use Rattle.std.proofs.lemmas.List.{take_at, drop_at}
use Rattle.xf_tree_rows.specs.declared.rows.Row.{Row}
use Rattle.xf_tree_rows.specs.Rows.{Sized, RowList}
use Rattle.xf_tree_changes.specs.Trees.{unsized}
use Rattle.xf_tree_changes.specs.Texts.{children, text_row, settled, depth_at, with_text_rows}
use Rattle.xf_tree_changes.proofs.RunLemmas.{room-more, settled-length, change-sized, change-rows}
use Rattle.xf_tree_changes.proofs.run.change_texts.Goals.{After-settle, After-fill}
use Rattle.xf_tree_changes.proofs.run.change_texts.Goals as goal

pub settle-requires-clause-room : goal.settle-requires-clause-room
settle-requires-clause-room c = room-more (c.args.at + 1) (length c.args.texts.now) c.args.rows.now.items c.requires.sized c.requires.few

as-many : (c : After-settle) → length c.settle.new.rows.items ≡ length c.args.rows.now.items
as-many c =
    ap length c.settle.ensures.answer
    ∙ settled-length c.text_rows-had.result (length c.args.texts.now) (c.at-depth.result.depth + 1) (c.args.at + 1) c.args.rows.now.items

pub pack-from-requires-clause-second : goal.pack-from-requires-clause-second
pack-from-requires-clause-second c = omega (arith, c.end_of-end.ensures.within, as-many (goal.at.pack-from-requires-clause-second c).After-settle)

pub open-requires-clause-second : goal.open-requires-clause-second
open-requires-clause-second c = omega (arith, c.end_of-end.ensures.within, as-many (goal.at.open-requires-clause-second c).After-settle, c.pack-from.ensures.same)

pub fill-requires : goal.fill-requires
fill-requires c =
    let packed = c.pack-from.new.rows.items in
    let opened = ap (λ (r : RowList). length r.items) c.open.ensures in
    let room = ap (λ (r : RowList). r.capacity) c.open.ensures in
    omega (
      arith,
      c.requires.room,
      opened,
      room,
      length-append (take c.pack-from.result packed) (drop c.end_of-end.result packed),
      length-take c.pack-from.result packed,
      length-drop c.end_of-end.result packed,
      as-many (goal.at.fill-requires c).After-settle,
      c.pack-from.ensures.within,
      c.pack-from.ensures.same,
      c.pack-from.ensures.room,
      c.settle.ensures.room,
    )

packed-long : (c : After-fill) → length c.pack-from.new.rows.items ≡ length c.args.rows.now.items
packed-long c =
    c.pack-from.ensures.same
    ∙ ap length c.settle.ensures.answer
    ∙ settled-length c.text_rows-had.result (length c.args.texts.now) (c.at-depth.result.depth + 1) (c.args.at + 1) c.args.rows.now.items

depth-is : (c : After-fill) → c.at-depth.result.depth + 1 ≡ depth_at c.args.at c.args.rows.now.items + 1
depth-is c = ap (λ (r : Row). r.depth + 1) c.at-depth.ensures

had-is : (c : After-fill) → c.text_rows-had.result
    ≡ length (children c.args.slots.now (take (c.end_of-end.result - (c.args.at + 1)) (drop (c.args.at + 1) c.args.rows.now.items)))
had-is c = c.text_rows-had.ensures ∙ ap (λ l. length (children c.args.slots.now l)) c.slice.ensures

now-is : (c : After-fill) → c.settle.new.rows.items
    ≡ settled c.text_rows-had.result (length c.args.texts.now) (depth_at c.args.at c.args.rows.now.items + 1)
    (reverse (take (c.args.at + 1) c.args.rows.now.items)) (drop (c.args.at + 1) c.args.rows.now.items)
now-is c =
    c.settle.ensures.answer
    ∙ ap (λ n. settled c.text_rows-had.result (length c.args.texts.now) n (reverse (take (c.args.at + 1) c.args.rows.now.items)) (drop (c.args.at + 1) c.args.rows.now.items)) (depth-is c)

full-is : (c : After-fill) → c.fill.new.rows.items ≡ take c.pack-from.result c.pack-from.new.rows.items
    ++ (map (text_row (depth_at c.args.at c.args.rows.now.items + 1)) c.args.texts.now ++ drop c.end_of-end.result c.pack-from.new.rows.items)
full-is c =
    let from = c.pack-from.result in
    let packed = c.pack-from.new.rows.items in
    let front = take from packed in
    let rest = drop c.end_of-end.result packed in
    let opened = c.open.new.self in
    let texts = map (text_row (c.at-depth.result.depth + 1)) c.args.texts.now in
    let is : opened.items ≡ front ++ rest = ap (λ (r : RowList). r.items) c.open.ensures in
    let place : opened.room_at ≡ from = ap (λ (r : RowList). r.room_at) c.open.ensures in
    let inside : from ≤ length packed =
    omega (arith, c.pack-from.ensures.within, c.end_of-end.ensures.within, packed-long c) in
    let long : length front ≡ from = omega (arith, inside, length-take from packed) in
    c.fill.ensures.answer
    ∙ ap (λ n. take n opened.items ++ (texts ++ drop n opened.items)) place
    ∙ ap (λ l. take from l ++ (texts ++ drop from l)) is
    ∙ ap (λ l. l ++ (texts ++ drop from (front ++ rest))) (take_at front rest from long)
    ∙ ap (λ l. front ++ (texts ++ l)) (drop_at front rest from long)
    ∙ ap (λ n. front ++ (map (text_row n) c.args.texts.now ++ rest)) (depth-is c)

rows-are : (c : After-fill) → map unsized c.fill.new.rows.items ≡ map unsized (with_text_rows c.args.slots.now c.args.at c.args.texts.now c.args.rows.now.items)
rows-are c =
    change-rows c.args.slots.now c.args.at c.args.texts.now c.args.rows.now.items c.requires.within c.requires.sized c.requires.flat c.pack-from.result c.end_of-end.result
    c.text_rows-had.result c.settle.new.rows.items c.pack-from.new.rows.items c.fill.new.rows.items c.end_of-end.ensures.answer (had-is c) (now-is c)
    c.pack-from.ensures.front c.pack-from.ensures.rest (full-is c)

sized-are : (c : After-fill) → Sized c.fill.new.rows.items
sized-are c =
    change-sized c.args.slots.now c.args.at c.args.texts.now c.args.rows.now.items c.requires.within c.requires.sized c.requires.flat c.pack-from.result c.end_of-end.result
    c.text_rows-had.result c.settle.new.rows.items c.pack-from.new.rows.items c.fill.new.rows.items c.end_of-end.ensures.answer (had-is c) (now-is c)
    c.pack-from.ensures.front c.pack-from.ensures.rest (full-is c)

pub returns-clause-rows : goal.returns-clause-rows
returns-clause-rows c = rows-are (goal.at.returns-clause-rows c).After-fill

pub returns-clause-sized : goal.returns-clause-sized
returns-clause-sized c = sized-are (goal.at.returns-clause-sized c).After-fill

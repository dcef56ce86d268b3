use Rattle.std.proofs.Common.{◌≡◌, ◌+◌, ◌++◌, [], ◌∷◌, length, map, take, drop, get_or, sym, ap, ◌∙◌, arith, append_assoc}
use Rattle.std.proofs.lemmas.List.{map_more, take_all, take-append-drop}
use Rattle.xf_tree_rows.specs.Rows.{RowList}
use Rattle.xf_tree_changes.specs.Texts.{text_row, no_text}
use Rattle.xf_tree_changes.proofs.InsertLemmas.{insert-front, insert-rest, insert-length}
use Rattle.xf_tree_changes.proofs.run.fill.Goals as goal

pub loop-text-preserved : goal.loop-text-preserved
loop-text-preserved c =
    let old = c.args.rows.now in
    let texts = c.args.texts.now in
    let row = text_row c.args.depth in
    let i = c.loop-text.text-index in
    let rows = c.loop-text.rows in
    let v = row (get_or texts i no_text) in
    let inv = c.loop-text.invariant in
    let new = c.insert.new.self in
    let is : new.items ≡ take rows.room_at rows.items ++ (v ∷ drop rows.room_at rows.items) = ap (λ (r : RowList). r.items) c.insert.ensures in
    let place : new.room_at ≡ rows.room_at + 1 = ap (λ (r : RowList). r.room_at) c.insert.ensures in
    let more = map_more row texts i no_text c.loop-text-test.true in
    record {
      front = ap (λ n. take n new.items) place ∙ ap (take (rows.room_at + 1)) is ∙ insert-front rows.room_at rows.items v ∙ ap (λ l. l ++ (v ∷ [])) inv.front
          ∙ append_assoc (take old.room_at old.items) (map row (take i texts)) (v ∷ []) ∙ ap (λ l. take old.room_at old.items ++ l) (sym more);
      rest = ap (λ n. drop n new.items) place ∙ ap (drop (rows.room_at + 1)) is ∙ insert-rest rows.room_at rows.items v ∙ inv.rest;
      count = omega (arith, ap length is, insert-length rows.room_at rows.items v, inv.count);
      room = ap (λ (r : RowList). r.capacity) c.insert.ensures ∙ inv.room;
    }

pub returns-clause-answer : goal.returns-clause-answer
returns-clause-answer c =
    let old = c.args.rows.now in
    let texts = c.args.texts.now in
    let row = text_row c.args.depth in
    let rows = c.loop-text.rows in
    let inv = c.loop-text.invariant in
    let all = take_all c.loop-text.text-index texts c.loop-text-test.false in
    sym (take-append-drop rows.room_at rows.items) ∙ ap (λ l. l ++ drop rows.room_at rows.items) inv.front
    ∙ ap (λ l. (take old.room_at old.items ++ map row (take c.loop-text.text-index texts)) ++ l) inv.rest
    ∙ append_assoc (take old.room_at old.items) (map row (take c.loop-text.text-index texts)) (drop old.room_at old.items)
    ∙ ap (λ l. take old.room_at old.items ++ (map row l ++ drop old.room_at old.items)) all

use Rattle.std.proofs.Common.{◌≡◌, ◌+◌, ◌-◌, ◌++◌, ◌∷◌, [], ℕ, List, length, map, take, drop, ap, ◌∙◌, subst, arith}
use Rattle.slab.specs.Slab.{Updates}
use Rattle.xf_def_forest.specs.declared.node.NodeId.{NodeId}
use Rattle.xf_tree_changes.specs.Trees.{unsized}
use Rattle.xf_tree_changes.specs.Texts.{text_slot, text_count, children, keys_of, numbers_at, numbers_in, run_of, with_text_rows, IsOwned}
use Rattle.xf_tree.proofs.SwappedLemmas.{run-part, taken-long}
use Rattle.xf_tree.proofs.texts.swap_texts.Goals as goal

pub keep_texts-requires-clause-kept : goal.keep_texts-requires-clause-kept
keep_texts-requires-clause-kept c =
    let at = c.args.sums.at in
    let rows = c.args.rows.now.items in
    let s2 = c.add_text-place.new.slots in
    let run = c.slice.ensures ∙ ap (λ l. take (c.args.sums.end - (at + 1)) (drop (at + 1) l)) c.make_ready.ensures.rows ∙ run-part at c.args.sums.end rows c.requires.within c.requires.end in
    let slot = subst (λ t. Updates c.make_ready.new.slots s2 c.add_text-place.result (text_slot c.args.number t)) c.in_ok-word.ensures.word c.add_text-place.ensures.slot in
    let long = taken-long c.args.slots.now c.make_ready.new.slots s2 c.add_text-place.result c.args.number at c.args.sums.taken c.args.text.now rows c.slice.result
    c.make_ready.ensures.same c.add_text-place.ensures.vacant slot c.requires.live run c.requires.taken in
    omega (arith, long, c.in_ok-word.ensures.more, ap length c.make_ready.ensures.kept, c.make_ready.new.kept.ok.0, c.args.kept.now.ok.0)

pub keep_texts-requires-clause-had : goal.keep_texts-requires-clause-had
keep_texts-requires-clause-had c =
    let at = c.args.sums.at in
    let rows = c.args.rows.now.items in
    let s2 = c.add_text-place.new.slots in
    let run = c.slice.ensures ∙ ap (λ l. take (c.args.sums.end - (at + 1)) (drop (at + 1) l)) c.make_ready.ensures.rows ∙ run-part at c.args.sums.end rows c.requires.within c.requires.end in
    let slot = subst (λ t. Updates c.make_ready.new.slots s2 c.add_text-place.result (text_slot c.args.number t)) c.in_ok-word.ensures.word c.add_text-place.ensures.slot in
    let long = taken-long c.args.slots.now c.make_ready.new.slots s2 c.add_text-place.result c.args.number at c.args.sums.taken c.args.text.now rows c.slice.result
    c.make_ready.ensures.same c.add_text-place.ensures.vacant slot c.requires.live run c.requires.taken in
    omega (arith, long, c.in_ok-word.ensures.long)

pub returns-clause-ok : goal.returns-clause-ok
returns-clause-ok c =
    let at = c.args.sums.at in
    let rows = c.args.rows.now.items in
    let kept = c.args.kept.now.items in
    let s2 = c.add_text-place.new.slots in
    let s3 = c.keep_texts.new.slots in
    let place = c.add_text-place.result in
    let texts : ℕ → List NodeId = λ k. take k (record { number = c.args.number; place = place } ∷ []) in
    let run = c.slice.ensures ∙ ap (λ l. take (c.args.sums.end - (at + 1)) (drop (at + 1) l)) c.make_ready.ensures.rows ∙ run-part at c.args.sums.end rows c.requires.within c.requires.end in
    let rows_are : map unsized c.change_texts.new.rows.items ≡ map unsized (with_text_rows s3 at (texts c.args.sums.more) c.make_ready.new.rows.items) = c.change_texts.ensures.rows in
    record {
      made = c.make_ready.new.slots;
      added = s2;
      place = place;
      same = c.make_ready.ensures.same;
      vacant = c.add_text-place.ensures.vacant;
      slot = subst (λ t. Updates c.make_ready.new.slots s2 place (text_slot c.args.number t)) c.in_ok-word.ensures.word c.add_text-place.ensures.slot;
      owned = subst (λ l. IsOwned c.args.owner (keys_of (children s2 l)) s2 s3) run c.keep_texts.ensures.slots;
      rows_are = rows_are ∙ ap (λ k. map unsized (with_text_rows s3 at (texts k) c.make_ready.new.rows.items)) c.requires.more
          ∙ ap (λ r. map unsized (with_text_rows s3 at (texts (text_count c.args.text.now)) r)) c.make_ready.ensures.rows;
      kept_are = c.keep_texts.ensures.kept ∙ ap (λ l. c.make_ready.new.kept.items ++ keys_of (children s2 l)) run ∙ ap (λ l. l ++ keys_of (children s2 (run_of at rows))) c.make_ready.ensures.kept;
      had_are = c.keep_texts.ensures.had ∙ ap (λ l. numbers_in l ++ numbers_at s2 (children s2 c.slice.result)) c.in_ok-word.ensures.had ∙ ap (λ l. numbers_at s2 (children s2 l)) run;
      sized = c.change_texts.ensures.sized;
      few = omega (arith, c.in_ok-word.ensures.few, c.args.kept.now.ok.0);
      spare = omega (arith, c.in_ok-word.ensures.row, c.change_texts.ensures.room, c.args.kept.now.ok.0);
    }

use Rattle.std.proofs.Common.{◌≡◌, ◌-◌, ◌<◌, ◌++◌, ℕ, ◌∷◌, [], length, map, take, not, cond, true, false, sym, ap, ◌∙◌, subst, arith}
use Rattle.std.proofs.lemmas.List.{map-append}
use Rattle.xf_def_forest.specs.Forest.{is_root, is_attribute}
use Rattle.xf_def_forest.specs.Limits.{node_count, all_size, size_of}
use Rattle.xf_tree_rows.specs.declared.rows.Row.{Row}
use Rattle.xf_tree_rows.specs.Rows.{no_row}
use Rattle.xf_tree_contents.specs.Keys.{content_in}
use Rattle.xf_tree_contents.proofs.FreeLemmas.{less-more}
use Rattle.xf_tree_walks.specs.Nodes.{node_of, KeepsBut}
use Rattle.xf_tree_walks.proofs.CountLemmas.{nodes-append, sizes-append, nodes-cons, sizes-cons}
use Rattle.xf_tree_changes.specs.Texts.{is_child_row, children}
use Rattle.xf_tree_changes.proofs.FreeLemmas.{still-there}
use Rattle.xf_tree_changes.proofs.PackLemmas.{kinds-more, filter-yes, filter-no, free-next, keeps-more}
use Rattle.xf_tree_changes.proofs.kept.free_texts.Goals as goal

pub loop-at-preserved-then-is_attribute_at : goal.loop-at-preserved-then-is_attribute_at
loop-at-preserved-then-is_attribute_at c =
    let s = c.args.slots.now in
    let rows = c.args.rows.now in
    let i = c.loop-at.at in
    let x = c.at-row.result in
    let is = sym c.at-row.ensures in
    let h : i < length rows = omega (arith, c.loop-at-test.true, c.len-at-end.ensures) in
    let inv = c.loop-at.invariant in
    let there = still-there s rows i x h is c.loop-at.slots c.requires (keeps-more s c.loop-at.slots (is_child_row s) (take i rows) inv.rest) in
    let none : is_child_row s x ≡ false = ap not (ap (λ o. is_attribute (content_in o)) (sym there) ∙ sym c.is_attribute_at.ensures ∙ c.if-is_attribute_at.true) in
    let same = filter-no (is_child_row s) rows i no_row h (ap (is_child_row s) is ∙ none) in
    record {
      rest = subst (λ l. KeepsBut s c.loop-at.slots (map (node_of s) l)) (sym same) inv.rest;
      kinds = inv.kinds;
      less = inv.less;
      total = inv.total ∙ ap (λ l. c.args.total.now - node_count (map (node_of s) l)) (sym same);
      size = inv.size ∙ ap (λ l. c.args.size.now - all_size (map (node_of s) l)) (sym same);
    }

pub loop-at-preserved : goal.loop-at-preserved
loop-at-preserved c =
    let s = c.args.slots.now in
    let rows = c.args.rows.now in
    let i = c.loop-at.at in
    let x = c.at-row.result in
    let is = sym c.at-row.ensures in
    let h : i < length rows = omega (arith, c.loop-at-test.true, c.len-at-end.ensures) in
    let s1 = c.loop-at.slots in
    let s2 = c.free_node.new.slots in
    let inv = c.loop-at.invariant in
    let there = still-there s rows i x h is s1 c.requires (keeps-more s s1 (is_child_row s) (take i rows) inv.rest) in
    let some : is_child_row s x ≡ true = ap not (ap (λ o. is_attribute (content_in o)) (sym there) ∙ sym c.is_attribute_at.ensures ∙ c.if-is_attribute_at.false) in
    let all = children s (take i rows) in
    let more = filter-yes (is_child_row s) rows i no_row h (ap (is_child_row s) is ∙ some) ∙ ap (λ (r : Row). all ++ (r ∷ [])) is in
    let one = ap {B = ℕ} (λ o. cond (not (is_root (content_in o))) 1 0) there in
    let bytes = ap (λ o. size_of (content_in o)) there in
    let n = ap (λ l. node_count (map (node_of s) l)) more ∙ ap node_count (map-append (node_of s) all (x ∷ [])) ∙ nodes-append (map (node_of s) all) (node_of s x ∷ []) in
    let z = ap (λ l. all_size (map (node_of s) l)) more ∙ ap all_size (map-append (node_of s) all (x ∷ [])) ∙ sizes-append (map (node_of s) all) (node_of s x ∷ []) in
    record {
      rest = subst (λ l. KeepsBut s s2 (map (node_of s) l)) (sym more) (free-next s s1 s2 all x inv.rest c.free_node.ensures.gone);
      kinds = λ key. kinds-more s1 s2 x.key key (sym c.is_attribute_at.ensures ∙ c.if-is_attribute_at.false) c.free_node.ensures.gone ∙ inv.kinds key;
      less = less-more s s1 s2 x.key inv.less c.free_node.ensures.gone;
      total = omega (arith, inv.total, c.free_node.ensures.total, n, nodes-cons (node_of s x) [], one);
      size = omega (arith, inv.size, c.free_node.ensures.size, z, sizes-cons (node_of s x) [], bytes);
    }

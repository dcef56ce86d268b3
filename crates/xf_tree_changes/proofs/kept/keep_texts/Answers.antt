use Rattle.std.proofs.Common.{◌≡◌, ◌<◌, ◌++◌, ◌∷◌, [], length, take, not, true, false, sym, ap, ◌∙◌, subst, arith, append_assoc}
use Rattle.std.proofs.lemmas.List.{map-append}
use Rattle.slab.specs.Slab.{get}
use Rattle.xf_def_forest.specs.declared.node.NodeId.{NodeId}
use Rattle.xf_def_forest.specs.Forest.{is_attribute}
use Rattle.xf_tree_rows.specs.declared.rows.Row.{Row}
use Rattle.xf_tree_rows.specs.Rows.{no_row}
use Rattle.xf_tree_contents.specs.Keys.{content_in, number_in}
use Rattle.xf_tree_changes.specs.Texts.{is_child_row, children, keys_of, numbers_at, numbers_in, IsOwned, has_key}
use Rattle.xf_tree_changes.proofs.PackLemmas.{filter-yes, filter-no, rest-yes, rest-no, owned-content, owned-number, owned-more}
use Rattle.xf_tree_changes.proofs.kept.keep_texts.Goals as goal

pub loop-at-preserved-then-is_attribute_at : goal.loop-at-preserved-then-is_attribute_at
loop-at-preserved-then-is_attribute_at c =
    let s = c.args.slots.now in
    let rows = c.args.rows.now in
    let i = c.loop-at.at in
    let x = c.at-row.result in
    let is = sym c.at-row.ensures in
    let inv = c.loop-at.invariant in
    let h : i < length rows = omega (arith, c.loop-at-test.true, c.len-at-end.ensures) in
    let content = ap content_in (inv.slots x.key) ∙ owned-content (has_key x.key (keys_of (children s (take i rows)))) c.args.owner (get s x.key) in
    let none : is_child_row s x ≡ false = ap not (ap is_attribute (sym content) ∙ sym c.is_attribute_at.ensures ∙ c.if-is_attribute_at.true) in
    let same = filter-no (is_child_row s) rows i no_row h (ap (is_child_row s) is ∙ none) in
    let left = rest-no (is_child_row s) rows i no_row h (ap (is_child_row s) is ∙ none) in
    record {
      kept = inv.kept ∙ ap (λ l. c.args.kept.now.items ++ keys_of l) (sym same);
      had = inv.had ∙ ap (λ l. numbers_in c.args.had.now.items ++ numbers_at s l) (sym same);
      slots = subst (λ l. IsOwned c.args.owner (keys_of l) s c.loop-at.slots) (sym same) inv.slots;
      kept_room = omega (arith, inv.kept_room, ap length left);
      had_room = omega (arith, inv.had_room, ap length left);
    }

pub loop-at-preserved : goal.loop-at-preserved
loop-at-preserved c =
    let s = c.args.slots.now in
    let rows = c.args.rows.now in
    let i = c.loop-at.at in
    let x = c.at-row.result in
    let is = sym c.at-row.ensures in
    let inv = c.loop-at.invariant in
    let h : i < length rows = omega (arith, c.loop-at-test.true, c.len-at-end.ensures) in
    let all = children s (take i rows) in
    let content = ap content_in (inv.slots x.key) ∙ owned-content (has_key x.key (keys_of all)) c.args.owner (get s x.key) in
    let number : c.number_of.result ≡ number_in (get s x.key) = c.number_of.ensures ∙ ap number_in (inv.slots x.key) ∙ owned-number (has_key x.key (keys_of all)) c.args.owner (get s x.key) in
    let some : is_child_row s x ≡ true = ap not (ap is_attribute (sym content) ∙ sym c.is_attribute_at.ensures ∙ c.if-is_attribute_at.false) in
    let more = filter-yes (is_child_row s) rows i no_row h (ap (is_child_row s) is ∙ some) ∙ ap (λ (r : Row). all ++ (r ∷ [])) is in
    let left = rest-yes (is_child_row s) rows i no_row h (ap (is_child_row s) is ∙ some) in
    let keys = ap keys_of more ∙ map-append (λ (r : Row). r.key) all (x ∷ []) in
    let numbers = ap (numbers_at s) more ∙ map-append (λ (r : Row). number_in (get s r.key)) all (x ∷ []) in
    record {
      kept = c.push_reserved-in-loop-at.ensures.items ∙ ap (λ l. l ++ (x.key ∷ [])) inv.kept ∙ append_assoc c.args.kept.now.items (keys_of all) (x.key ∷ []) ∙ ap (λ l. c.args.kept.now.items ++ l) (sym keys);
      had = ap numbers_in c.push_reserved.ensures.items ∙ map-append (λ (n : NodeId). n.number) c.loop-at.had.items (record { number = c.number_of.result; place = x.key } ∷ [])
          ∙ ap (λ l. l ++ (c.number_of.result ∷ [])) inv.had ∙ ap (λ n. (numbers_in c.args.had.now.items ++ numbers_at s all) ++ (n ∷ [])) number
          ∙ append_assoc (numbers_in c.args.had.now.items) (numbers_at s all) (number_in (get s x.key) ∷ []) ∙ ap (λ l. numbers_in c.args.had.now.items ++ l) (sym numbers);
      slots = subst (λ l. IsOwned c.args.owner l s c.set_owner.new.self) (sym keys) (owned-more c.args.owner (keys_of all) x.key s c.loop-at.slots c.set_owner.new.self inv.slots c.set_owner.ensures);
      kept_room = omega (arith, inv.kept_room, ap length left, c.push_reserved-in-loop-at.ensures.len, c.push_reserved-in-loop-at.ensures.capacity);
      had_room = omega (arith, inv.had_room, ap length left, c.push_reserved.ensures.len, c.push_reserved.ensures.capacity);
    }

pub push_reserved-requires : goal.push_reserved-requires
push_reserved-requires c =
    let s = c.args.slots.now in
    let rows = c.args.rows.now in
    let i = c.loop-at.at in
    let x = c.at-row.result in
    let inv = c.loop-at.invariant in
    let h : i < length rows = omega (arith, c.loop-at-test.true, c.len-at-end.ensures) in
    let content = ap content_in (inv.slots x.key) ∙ owned-content (has_key x.key (keys_of (children s (take i rows)))) c.args.owner (get s x.key) in
    let some : is_child_row s x ≡ true = ap not (ap is_attribute (sym content) ∙ sym c.is_attribute_at.ensures ∙ c.if-is_attribute_at.false) in
    let left = rest-yes (is_child_row s) rows i no_row h (ap (is_child_row s) (sym c.at-row.ensures) ∙ some) in
    omega (arith, inv.had_room, ap length left)

pub push_reserved-requires-in-loop-at : goal.push_reserved-requires-in-loop-at
push_reserved-requires-in-loop-at c =
    let s = c.args.slots.now in
    let rows = c.args.rows.now in
    let i = c.loop-at.at in
    let x = c.at-row.result in
    let inv = c.loop-at.invariant in
    let h : i < length rows = omega (arith, c.loop-at-test.true, c.len-at-end.ensures) in
    let content = ap content_in (inv.slots x.key) ∙ owned-content (has_key x.key (keys_of (children s (take i rows)))) c.args.owner (get s x.key) in
    let some : is_child_row s x ≡ true = ap not (ap is_attribute (sym content) ∙ sym c.is_attribute_at.ensures ∙ c.if-is_attribute_at.false) in
    let left = rest-yes (is_child_row s) rows i no_row h (ap (is_child_row s) (sym c.at-row.ensures) ∙ some) in
    omega (arith, inv.kept_room, ap length left)

use Rattle.std.proofs.Common.{◌≡◌, ℕ, ◌<◌, ◌==◌, ◌&&◌, suc, cond, length, get_or, nat_lt, sym, ap, ◌∙◌, arith}
use Rattle.std.proofs.lemmas.Bool.{and_parts}
use Rattle.slab.specs.Slab.{get}
use Rattle.xf_def_forest.specs.Forest.{is_attribute, name_in}
use Rattle.xf_def_forest.specs.WellFormed.{have_same_name}
use Rattle.xf_tree_rows.specs.Rows.{no_row}
use Rattle.xf_tree_rows.proofs.SizedLemmas.{lt-true}
use Rattle.xf_tree_contents.specs.Keys.{content_in}
use Rattle.xf_tree_walks.specs.Kids.{is_attribute_like, kids_at}
use Rattle.xf_tree_walks.proofs.AheadLemmas.{like-only, like-stop, like-more}
use Rattle.xf_tree_walks.proofs.child.has_attribute.Goals as goal

pub returns-else-is_attribute_below : goal.returns-else-is_attribute_below
returns-else-is_attribute_below c =
    let s = c.args.slots.now in
    let like = content_in (get s c.args.like) in
    let none = like-stop s (is_attribute_like like) (like-only like) _ c.loop-next.next c.args.rows.now.items (omega (arith, c.loop-next-test.true, c.len-end.ensures)) c.requires.first (rw c.at-depth.ensures at (sym c.is_attribute_below.ensures ∙ c.if-is_attribute_below.false)) in
    ap (nat_lt 0) (sym none ∙ c.loop-next.invariant)

pub returns-then-has_same_name : goal.returns-then-has_same_name
returns-then-has_same_name c =
    let s = c.args.slots.now in
    let rows = c.args.rows.now.items in
    let next = c.loop-next.next in
    let d = (get_or rows c.args.above no_row).depth in
    let x = get_or rows next no_row in
    let own = content_in (get s x.key) in
    let like = content_in (get s c.args.like) in
    let within : next < length rows = omega (arith, c.loop-next-test.true, c.len-end.ensures) in
    let is = rw c.at-depth.ensures at (sym c.is_attribute_below.ensures ∙ c.if-is_attribute_below.true) in
    let more = like-more s (is_attribute_like like) d next rows within is in
    let test : is_attribute_like like own ≡ c.has_same_name.result = ap (λ b. b && have_same_name (name_in own) (name_in like)) (and_parts (x.depth == suc d) (is_attribute own) is).1 ∙ sym (rw c.at.ensures at c.has_same_name.ensures) in
    let one = ap {B = ℕ} (λ b. cond b 1 0) (test ∙ c.if-has_same_name.true) in
    let some : 0 < kids_at (is_attribute_like like) s rows c.args.above = omega (arith, more, one, c.loop-next.invariant) in
    sym (lt-true 0 (kids_at (is_attribute_like like) s rows c.args.above) some)

pub loop-next-preserved : goal.loop-next-preserved
loop-next-preserved c =
    let s = c.args.slots.now in
    let rows = c.args.rows.now.items in
    let next = c.loop-next.next in
    let d = (get_or rows c.args.above no_row).depth in
    let x = get_or rows next no_row in
    let own = content_in (get s x.key) in
    let like = content_in (get s c.args.like) in
    let within : next < length rows = omega (arith, c.loop-next-test.true, c.len-end.ensures) in
    let is = rw c.at-depth.ensures at (sym c.is_attribute_below.ensures ∙ c.if-is_attribute_below.true) in
    let more = like-more s (is_attribute_like like) d next rows within is in
    let test : is_attribute_like like own ≡ c.has_same_name.result = ap (λ b. b && have_same_name (name_in own) (name_in like)) (and_parts (x.depth == suc d) (is_attribute own) is).1 ∙ sym (rw c.at.ensures at c.has_same_name.ensures) in
    let none = ap {B = ℕ} (λ b. cond b 1 0) (test ∙ c.if-has_same_name.false) in
    omega (arith, more, none, c.loop-next.invariant)

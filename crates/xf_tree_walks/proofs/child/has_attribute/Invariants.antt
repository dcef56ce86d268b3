use Rattle.std.proofs.Common.{◌≡◌, ◌-◌, length, get_or}
use Rattle.slab.specs.Slab.{get}
use Rattle.xf_tree_rows.specs.Rows.{no_row}
use Rattle.xf_tree_contents.specs.Keys.{content_in}
use Rattle.xf_tree_walks.specs.Kids.{is_attribute_like, kids_at}
use Rattle.xf_tree_walks.proofs.AheadLemmas.{like_ahead}
use Rattle.xf_tree_walks.proofs.child.has_attribute.Given as goal

abbrev pub invariant-loop-next : goal.invariant-loop-next
invariant-loop-next l = like_ahead (is_attribute_like (content_in (get l.slots l.like))) l.slots (get_or l.rows.items l.above no_row).depth l.next l.rows.items ≡ kids_at (is_attribute_like (content_in (get l.slots l.like))) l.slots l.rows.items l.above

abbrev pub decreases-loop-next : goal.decreases-loop-next
decreases-loop-next l = length l.rows.items - l.next

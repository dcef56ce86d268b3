use Rattle.std.proofs.Common.{◌≡◌, drop}
use Rattle.xf_def_ui.specs.Items.{has_value}
use Rattle.xf_items.proofs.words.has_value.Given as goal

abbrev pub invariant-loop-item : goal.invariant-loop-item
invariant-loop-item l = has_value l.items l.text ≡ has_value (drop l.item-index l.items) l.text

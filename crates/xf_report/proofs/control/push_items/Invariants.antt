use Rattle.std.proofs.Common.{◌≡◌, ◌++◌, drop, string_bytes, option_map}
use Rattle.std.specs.List.{flat_map}
use Rattle.xf_report.specs.Controls.{item_text}
use Rattle.xf_report.proofs.control.push_items.Given as goal

abbrev pub invariant-loop-item : goal.invariant-loop-item
invariant-loop-item l = string_bytes l.text ++ flat_map (item_text l.name l.many (option_map (λ v. v.now) l.value)) (drop l.item-index l.items) ≡ string_bytes l.fn.text ++ flat_map (item_text l.name l.many (option_map (λ v. v.now) l.value)) l.items

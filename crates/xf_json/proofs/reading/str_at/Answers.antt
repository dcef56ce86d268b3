use Rattle.std.proofs.Common.{◌∙◌, ap, sym, arith}
use Rattle.std.specs.Prelude.{option_and_then}
use Rattle.serde_json.proofs.Views.{get_item_within}
use Rattle.serde_json.specs.Find.{as_str}
use Rattle.serde_json.specs.View.{view}
use Rattle.xf_json.proofs.Parts.{get_item_past}
use Rattle.xf_json.proofs.reading.str_at.Goals as goal

pub returns-then-i-items : goal.returns-then-i-items
returns-then-i-items c =
    c.as_str.ensures ∙ ap (λ v. as_str (view v)) c.index-items-i.is
    ∙ ap (option_and_then as_str) (get_item_within c.args.items.now c.args.i c.index-items-i.result c.if-i-items.true)

pub returns-else-i-items : goal.returns-else-i-items
returns-else-i-items c = ap (option_and_then as_str) (sym (get_item_past c.args.items.now c.args.i (omega arith)))

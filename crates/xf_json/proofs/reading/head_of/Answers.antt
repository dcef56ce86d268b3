use Rattle.std.proofs.Common.{[], ◌∙◌, ap, sym, Some, option_map}
use Rattle.serde_json.specs.View.{items_view, members_view}
use Rattle.xf_json.specs.Element.{element, children_in}
use Rattle.xf_json.specs.Part.{items_from}
use Rattle.xf_json.proofs.Parts.{head_plain, head_object}
use Rattle.xf_json.proofs.reading.head_of.Goals as goal

pub returns-in_ok-attributes_of-in-Some-object_at : goal.returns-in_ok-attributes_of-in-Some-object_at
returns-in_ok-attributes_of-in-Some-object_at c =
    head_object (items_view c.args.items.now) c.in_ok-name.name (members_view c.in-Some-object_at.members.now.entries) c.in_ok-attributes_of-in-Some-object_at.field-0 (sym c.in-Some.ensures ∙ ap Some (sym c.in_ok-name.ensures))
    (sym c.in-Some-object_at.ensures) c.in_ok-attributes_of-in-Some-object_at.ensures

pub returns-in-None : goal.returns-in-None
returns-in-None c =
    head_plain (items_view c.args.items.now) c.in_ok-name.name (sym c.in-Some.ensures ∙ ap Some (sym c.in_ok-name.ensures)) (sym c.in-None.ensures)
    ∙ ap (λ pairs. option_map (element c.in_ok-name.name pairs) (children_in [] (items_from 1 (items_view c.args.items.now)))) (sym c.new.ensures)

use Rattle.std.proofs.Common.{◌≡◌, ◌++◌, map, drop}
use Rattle.xf_form_refusals.specs.Rows.{shown}
use Rattle.xf_form.specs.Elements.{parts_of}
use Rattle.xf_form.proofs.elements.parts_of.Given as goal

abbrev pub invariant-loop-part : goal.invariant-loop-part
invariant-loop-part l =
    let all = map shown l.plan.rows.now in
    l.all ++ parts_of all (drop l.part-index l.parts) ≡ parts_of all l.parts

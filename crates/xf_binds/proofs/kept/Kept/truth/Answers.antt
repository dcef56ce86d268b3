use Rattle.std.proofs.Common.{◌≡◌, Some, option_map, slice_get, ap, sym, ◌∙◌}
use Rattle.xf_binds.specs.Held.{entry_of, place_on}
use Rattle.xf_binds.specs.Kept.{truth_from}
use Rattle.xf_binds.proofs.Items.{found-computed}
use Rattle.xf_binds.proofs.Singles.{place-find, place-none, truth-placed}
use Rattle.xf_binds.proofs.kept.Kept.truth.Goals as goal

pub truth_of-requires : goal.truth_of-requires
truth_of-requires c =
    let k = c.args.self.now in
    let n = c.args.node.number in
    let placed : Some c.in-Some.at ≡ place_on k.entries n c.args.property = c.in-Some.ensures ∙ ap (λ es. place_on es n c.args.property) c.present.ensures in
    let here : Some (entry_of c.in-Some-entry.entry) ≡ slice_get k.entries c.in-Some.at = c.in-Some-entry.ensures ∙ ap (λ es. slice_get es c.in-Some.at) c.present-in-Some.ensures in
    found-computed k.entries n c.args.property (entry_of c.in-Some-entry.entry) c.requires (here ∙ sym (place-find k.entries n c.args.property c.in-Some.at (sym placed)))

pub returns-in-Some-entry : goal.returns-in-Some-entry
returns-in-Some-entry c =
    let k = c.args.self.now in
    let n = c.args.node.number in
    truth-placed k n c.args.property c.in-Some.at (entry_of c.in-Some-entry.entry) c.truth_of.result
    (c.in-Some.ensures ∙ ap (λ es. place_on es n c.args.property) c.present.ensures)
    (c.in-Some-entry.ensures ∙ ap (λ es. slice_get es c.in-Some.at) c.present-in-Some.ensures) c.truth_of.ensures

pub returns-in-None-entry : goal.returns-in-None-entry
returns-in-None-entry c =
    let k = c.args.self.now in
    let n = c.args.node.number in
    ap (option_map (truth_from k.stood))
    (c.in-None-entry.ensures ∙ ap (λ es. slice_get es c.in-Some.at) c.present-in-Some.ensures
    ∙ sym (place-find k.entries n c.args.property c.in-Some.at (sym (c.in-Some.ensures ∙ ap (λ es. place_on es n c.args.property) c.present.ensures))))

pub returns-in-None : goal.returns-in-None
returns-in-None c =
    let k = c.args.self.now in
    let n = c.args.node.number in
    ap (option_map (truth_from k.stood)) (sym (place-none k.entries n c.args.property (sym (c.in-None.ensures ∙ ap (λ es. place_on es n c.args.property) c.present.ensures))))

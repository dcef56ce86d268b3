use Rattle.std.proofs.Common.{◌≡◌, ◌+◌, Some, ap, refl, sym, subst, ◌∙◌}
use Rattle.std.specs.Prelude.{IsSome, unwrap_or}
use Rattle.std.specs.Option.{option_copied_mut}
use Rattle.std.specs.HashMap.{get_by_text}
use Rattle.xf_tree_paths.proofs.TallyLemmas.{tally-more}
use Rattle.xf_tree_paths.proofs.written.add.Goals as goal

pub returns-in-Some : goal.returns-in-Some
returns-in-Some c =
    let name = c.args.name.now in
    let tally = c.args.tally.now in
    let count = c.in-Some.count.now in
    let got : get_by_text tally name ≡ Some count = sym c.get_mut.ensures.value ∙ ap option_copied_mut c.in-Some.is in
    let some : IsSome (get_by_text tally name) = subst (λ o. IsSome o) (sym got) refl in
    let updates = (c.get_mut.follows.holds (count + 1)).3 some in
    let more = ap (λ o. unwrap_or o 0 + 1) (sym got) in
    record { count = more; tally = tally-more name tally (c.get_mut.follows.lender (count + 1)) (count + 1) updates more }

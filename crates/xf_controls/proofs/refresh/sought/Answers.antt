use Rattle.std.proofs.Common.{sym, ap, ◌∙◌}
use Rattle.xf_controls.specs.Seen.{seen_copy}
use Rattle.xf_controls.proofs.BeforeLaws.{from-place, none-from, past-end, rest-is, sought}
use Rattle.xf_controls.proofs.refresh.sought.Goals as goal

pub returns-in_default : goal.returns-in_default
returns-in_default c = sym (none-from c.args.copy.now c.args.before.now.copies.now (sym c.in_default.ensures))

pub returns-then-place-copies : goal.returns-then-place-copies
returns-then-place-copies c = sym (past-end c.args.copy.now c.in-Some.place c.args.before.now.copies.now (sym c.in-Some.ensures) c.if-place-copies.true)

pub returns : goal.returns
returns c =
    let copies = c.args.before.now.copies.now in
    let place = c.in-Some.place in
    c.searched.ensures ∙ ap (sought (seen_copy c.args.copy.now)) (rest-is copies place)
    ∙ sym (from-place c.args.copy.now place copies (sym c.in-Some.ensures))

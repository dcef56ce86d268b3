use Rattle.std.proofs.Common.{◌≡◌, None, is_some, nat_eq, sym, ap, ◌∙◌}
use Rattle.std.proofs.lemmas.Result.{on_ok_weaker}
use Rattle.indexmap.specs.IndexMap.{get}
use Rattle.xf_controls.proofs.BeforeLaws.{has-row, not-some, put-first}
use Rattle.xf_controls.proofs.before.add_row.Goals as goal

pub returns-then-is_some : goal.returns-then-is_some
returns-then-is_some c = λ n.
    has-row (get nat_eq c.args.places.now) c.args.row n c.args.place (ap is_some (sym c.place_in.ensures) ∙ sym c.is_some.ensures ∙ c.if-is_some.true)

pub returns : goal.returns
returns c =
    let old = get nat_eq c.args.places.now in
    let none : old c.args.row ≡ None = not-some (old c.args.row) (ap is_some (sym c.place_in.ensures) ∙ sym c.is_some.ensures ∙ c.if-is_some.false) in
    on_ok_weaker c.put.result (λ e n. e n ∙ put-first old c.args.row n c.args.place none) c.put.ensures

use Rattle.std.proofs.Common.{◌≡◌, ◌-◌, suc, map, sym, arith}
use Rattle.xf_form_refusals.specs.Rows.{shown}
use Rattle.xf_form.proofs.PlaceLemmas.{places_step}
use Rattle.xf_form.proofs.models.+push_places.Goals as goal

pub returns : goal.returns
returns t c =
    let deep : c.args.depth ≡ suc (c.args.depth - 1) = omega arith in
    places_step c.args.depth (c.args.depth - 1) c.args.place c.in-Some-parent.parent (map shown c.args.rows.now) (shown c.in-Some.row.now) c.args.places.now c.push_places.new.places c.push.new.self
    deep (sym c.in-Some.ensures) c.in-Some-parent.is c.in_ok-push_places.ensures c.in_ok-push.ensures.ok

use Rattle.std.proofs.Common.{◌≡◌, ◌<◌, ◌≤◌, ◌-◌, ◌++◌, ◌∷◌, [], length, Some, slice_get, refl, ap, ◌∙◌, subst, rules, tests, arith}
use Rattle.std.proofs.lemmas.Option.{slice_get_past, slice_get_read}
use Rattle.xf_eval.specs.Places.{IsPosition}
use Rattle.xf_eval.proofs.Positions.{position-keeps}
use Rattle.xf_eval_shape.specs.Spots.{numbers_at}
use Rattle.xf_eval_shape.proofs.Positions.{placed-none, placed-some}
use Rattle.xf_eval_shape.proofs.places.placed.Goals as goal
use Rattle.xf_eval_shape.proofs.places.placed.Goals.{in-Some+in_ok-push, in_default}

pub returns-then-place-eq0-clause-value : goal.returns-then-place-eq0-clause-value
returns-then-place-eq0-clause-value c =
    position-keeps c.args.decimals c.args.number (numbers_at c.args.spots.now) (numbers_at c.new-kept.result.items) 0 (subst (IsPosition c.args.decimals c.args.number) c.if-place-eq0.true c.position_of-place.ensures) (ap numbers_at c.new-kept.ensures.items)

pub returns-clause-value : goal.returns-clause-value
returns-clause-value c =
    let spots = c.args.spots.now in
    let place = c.position_of-place.result in
    let above : 0 < place = omega (arith, c.if-place-eq0.false) in
    position-keeps c.args.decimals c.args.number (numbers_at spots) (numbers_at c.match-get.kept.items) place c.position_of-place.ensures
    (elim c.match-get.branch [
      | in-Some+in_ok-push w ↦
          let spot = w.in-Some.spot.now in
          let small : place - 1 < length spots = search (rules, tests) in
          let there : slice_get spots (place - 1) ≡ Some spot = slice_get_read spots (length spots) (place - 1) spot refl small w.in-Some.ensures.lookup.1 in
          ap (λ k. numbers_at k.items) w.kept-is ∙ ap numbers_at (w.in_ok-push.ensures.items ∙ ap (λ l. l ++ spot ∷ []) c.new-kept.ensures.items) ∙ placed-some spots place spot above there
      | in_default w ↦
          let large : length spots ≤ place - 1 = omega (arith, w.in_default.ensures.lookup.3) in
          ap (λ k. numbers_at k.items) w.kept-is ∙ ap numbers_at c.new-kept.ensures.items ∙ placed-none spots place above (slice_get_past spots (place - 1) large)
    ])

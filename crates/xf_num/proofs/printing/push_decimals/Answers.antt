use Rattle.std.proofs.Common.{◌<◌, ◌∙◌, arith, string_bytes, lit<, rules, ◌-◌, ◌/◌, ◌%◌}
use Rattle.xf_num.specs.Written.{after_point, decimals_of}
use Rattle.xf_num.proofs.DigitLemmas.{point_before, one_decimal, next_decimal, pushed}
use Rattle.xf_num.proofs.printing.push_decimals.Goals as goal

pub places-init : goal.places-init
places-init c =
    let some : 0 < c.args.units = omega (arith, c.if-units-eq0.false) in
    let decimals = decimals_of c.args.decimals c.args.units in
    let many = c.count-left.ensures.value in
    rw many (record {
      few = rw many at c.count-left.ensures.most;
      below_one = c.requires;
      so_far = pushed (string_bytes c.args.text.now) (string_bytes c.push.new.self) _ decimals (after_point decimals) 46
          c.in_ok-push.ensures.bytes (c.in_ok-push.ensures.ascii (lit< tt)) (point_before c.args.decimals c.args.units some c.requires);
    })

pub overflow_sub-left : goal.overflow_sub-left
overflow_sub-left c =
    let t = c.places-test.true in (one_decimal c.places.left c.places.rest (omega arith) c.places.invariant.below_one).some

pub overflow_cast-rest : goal.overflow_cast-rest
overflow_cast-rest c =
    let t = c.places-test.true in
    let one = one_decimal c.places.left c.places.rest (omega arith) c.places.invariant.below_one in
    rw c.units_for-unit.ensures.value (search (rules, one.digit))

pub overflow_add-rest : goal.overflow_add-rest
overflow_add-rest c =
    let t = c.places-test.true in
    let one = one_decimal c.places.left c.places.rest (omega arith) c.places.invariant.below_one in
    rw c.units_for-unit.ensures.value (search (rules, one.digit))

pub places-smaller : goal.places-smaller
places-smaller c =
    let t = c.places-test.true in
    omega (arith, (one_decimal c.places.left c.places.rest (omega arith) c.places.invariant.below_one).some)

pub places-preserved : goal.places-preserved
places-preserved c =
    let t = c.places-test.true in
    let some : 0 < c.places.rest = omega (arith, t) in
    let below = c.places.invariant.below_one in
    let one = one_decimal c.places.left c.places.rest some below in
    let unit = c.units_for-unit.ensures.value in
    let digit : c.places.rest / c.units_for-unit.result < 10 = rw unit one.digit in
    record {
      few = omega arith;
      below_one = rw unit one.below;
      so_far = pushed (string_bytes c.places.text) (string_bytes c.push-in-places.new.self) _
          (decimals_of (c.places.left - 1) (c.places.rest % c.units_for-unit.result)) (decimals_of c.places.left c.places.rest) c.from.result
          c.in_ok-push-2.ensures.bytes (c.in_ok-push-2.ensures.ascii (omega (arith, digit)))
          (next_decimal c.places.left c.places.rest c.units_for-unit.result c.from.result some below unit c.from.ensures)
          ∙ c.places.invariant.so_far;
    }

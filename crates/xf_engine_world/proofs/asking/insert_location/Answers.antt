use Rattle.std.proofs.Common.{◌≡◌, ◌-◌, suc, length, Ok, sym, ap, ◌∙◌, arith}
use Rattle.std.specs.Prelude.{slice_get}
use Rattle.xf_def_xpath.specs.Binding.{as_list}
use Rattle.xf_def_model.specs.Places.{held}
use Rattle.xf_actions.specs.Seen.{focus_of}
use Rattle.xf_actions.proofs.Flow.{same-reads}
use Rattle.xf_actions.specs.Fault.{means}
use Rattle.xf_engine_world.specs.State.{state_of}
use Rattle.xf_events.proofs.AskLaws.{location-empty, location-named}
use Rattle.xf_engine_world.proofs.asking.insert_location.Goals as goal

pub returns-then-count-eq0 : goal.returns-then-count-eq0
returns-then-count-eq0 c =
    let none : length c.args.set.now ≡ 0 = sym c.len-count.ensures ∙ c.if-count-eq0.true in
    same-reads means (λ ns. ns) (state_of c.args.world.now) c.one.result _ _
    (ap (λ l. Ok l) (location-empty c.args.at (focus_of c.args.focus.now) c.args.set.now none)) c.one.ensures

pub returns : goal.returns
returns c =
    let ns = c.args.set.now in
    let count = c.len-count.result in
    let many : length ns ≡ suc (count - 1) = omega (arith, c.len-count.ensures, c.if-count-eq0.false) in
    let place : c.one_less.result ≡ held (length ns) c.args.at - 1 =
    c.one_less.ensures ∙ ap (λ n. n - 1) c.held_at.ensures ∙ ap (λ n. held n c.args.at - 1) c.len-count.ensures in
    same-reads means (λ ns. ns) (state_of c.args.world.now) c.listed.result _ _
    (ap (λ l. Ok l) (location-named c.args.at (focus_of c.args.focus.now) ns (count - 1) many ∙ ap (λ n. as_list (slice_get ns n)) (sym place))) c.listed.ensures

use Rattle.std.proofs.Common.{◌≡◌, ◌<◌, ◌^◌, ◌∙◌, true, nat_lt, [], ℕ, List, map, Some, None, slice_get, ap, sym, arith}
use Rattle.std.specs.Prelude.{option_and_then}
use Rattle.std.specs.List.{list_all}
use Rattle.std.proofs.lemmas.Bool.Decides.{nat_tests}
use Rattle.xf_def_forest.specs.Visit.{ancestors_of}
use Rattle.xf_def_forest.specs.Shape.{shape_of}
use Rattle.xf_funcs.specs.Called.{called}
use Rattle.xf_def_model.specs.Entries.{expression_in, expression_of}
use Rattle.xf_def_model.specs.Rules.{Rule, computed_of, rule_of, scope_of}
use Rattle.xf_binds.specs.Held.{entry_of}
use Rattle.xf_binds_rebuild.specs.Static.{is_fixed_bind}
use Rattle.xf_binds_rebuild.proofs.Expressions.{asks-some, asks-none}
use Rattle.xf_binds_rebuild.proofs.Shown.{shown-above, shown-live}
use Rattle.xf_binds_rebuild.proofs.web.asks_of.Goals as goal

small : (n : ℕ) → n < 2 ^ 128 → nat_lt n (2 ^ 128) ≡ true
small n h = grind (arith, nat_tests, h)

pub above-requires : goal.above-requires
above-requires g c = shown-live c.args.forest.now.forest c.is_sound.ensures c.args.entry.node.number (c.requires.there, small c.args.entry.node.number c.fits.ensures)

pub asks-requires-clause-ready : goal.asks-requires-clause-ready
asks-requires-clause-ready g c =
    let live = shown-live c.args.forest.now.forest c.is_sound.ensures c.args.entry.node.number (c.requires.there, small c.args.entry.node.number c.fits.ensures) in
    record { around = c.requires.stands; node = live; current = live }

pub asks-requires-clause-fixed : goal.asks-requires-clause-fixed
asks-requires-clause-fixed g c = c.in-Some.ensures.fixed (ap (list_all is_fixed_bind) c.as_slice.ensures ∙ c.requires.fixed)

pub returns-in_ok-reads-in-Some : goal.returns-in_ok-reads-in-Some
returns-in_ok-reads-in-Some g c =
    let scope = scope_of called (g.A.Around.given c.args.around.now) c.args.tables.now c.args.model in
    let all = shape_of c.args.forest.now.forest.nodes in
    let e = entry_of c.args.entry in
    let up : c.in_ok-above.above ≡ ancestors_of c.args.entry.node.number all =
    c.in_ok-above.ensures ∙ sym (shown-above c.args.forest.now.forest c.is_sound.ensures c.args.entry.node.number (c.requires.there, small c.args.entry.node.number c.fits.ensures)) in
    let some : expression_of scope e ≡ Some (computed_of c.in-Some.expr.now) =
    ap (λ bs. option_and_then (λ (r : Rule). expression_in r c.args.entry.property) (slice_get (map rule_of bs) c.args.entry.bind)) (sym c.as_slice.ensures) ∙ sym c.in-Some.ensures.value in
    asks-some scope all e c.in-Some.expr.now c.in_ok-reads-in-Some.reads c.in_ok-reads-in-Some.looks c.in_ok-above.above (sym c.is_type.ensures ∙ c.if-is_type.false) some
    c.in_ok-reads-in-Some.ensures.reads c.in_ok-reads-in-Some.ensures.looks up

pub returns-in-None : goal.returns-in-None
returns-in-None g c =
    let scope = scope_of called (g.A.Around.given c.args.around.now) c.args.tables.now c.args.model in
    let all = shape_of c.args.forest.now.forest.nodes in
    let e = entry_of c.args.entry in
    let up : c.in_ok-above.above ≡ ancestors_of c.args.entry.node.number all =
    c.in_ok-above.ensures ∙ sym (shown-above c.args.forest.now.forest c.is_sound.ensures c.args.entry.node.number (c.requires.there, small c.args.entry.node.number c.fits.ensures)) in
    let none : expression_of scope e ≡ None =
    ap (λ bs. option_and_then (λ (r : Rule). expression_in r c.args.entry.property) (slice_get (map rule_of bs) c.args.entry.bind)) (sym c.as_slice.ensures) ∙ sym c.in-None.ensures.value in
    ap (λ (ns : List ℕ). record { reads = ns; looks = c.new-in-None.result; above = c.in_ok-above.above }) c.new.ensures
    ∙ ap (λ (ns : List ℕ). record { reads = []; looks = ns; above = c.in_ok-above.above }) c.new-in-None.ensures
    ∙ asks-none scope all e c.in_ok-above.above (sym c.is_type.ensures ∙ c.if-is_type.false) none up

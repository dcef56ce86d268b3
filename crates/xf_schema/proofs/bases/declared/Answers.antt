use Rattle.std.proofs.Common.{◌+◌, drop, Some, sym, ap, ◌∙◌}
use Rattle.std.specs.Prelude.{if◌then◌else◌}
use Rattle.std.proofs.lemmas.List.{drop_all}
use Rattle.xf_schema.specs.Types.{declared_from}
use Rattle.xf_schema.proofs.WayLaws.{declared-more}
use Rattle.xf_schema.proofs.bases.declared.Goals as goal

pub loop-number-preserved : goal.loop-number-preserved
loop-number-preserved c =
    let names = c.args.names.now in
    let i = c.loop-number.number in
    c.loop-number.invariant
    ∙ declared-more names i c.index-names-number.result c.args.space.now c.args.local.now c.loop-number-test.true c.index-names-number.is
    ∙ ap (λ b. if b then Some i else declared_from (i + 1) (drop (i + 1) names) c.args.space.now c.args.local.now) (sym c.is_named.ensures ∙ c.if-is_named.false)

pub returns-then-is_named : goal.returns-then-is_named
returns-then-is_named c =
    let names = c.args.names.now in
    let i = c.loop-number.number in
    sym (c.loop-number.invariant
    ∙ declared-more names i c.index-names-number.result c.args.space.now c.args.local.now c.loop-number-test.true c.index-names-number.is
    ∙ ap (λ b. if b then Some i else declared_from (i + 1) (drop (i + 1) names) c.args.space.now c.args.local.now) (sym c.is_named.ensures ∙ c.if-is_named.true))

pub returns : goal.returns
returns c =
    let i = c.loop-number.number in
    sym (c.loop-number.invariant ∙ ap (λ l. declared_from i l c.args.space.now c.args.local.now) (drop_all i c.args.names.now c.loop-number-test.false))

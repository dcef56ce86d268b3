use Rattle.std.proofs.Common.{◌&&◌, sym, ap, ◌∙◌}
use Rattle.xf_def_forest.specs.StringValue.{string_value}
use Rattle.xf_def_forest.specs.Visit.{has, visits}
use Rattle.xf_binds.specs.Held.{entry_of}
use Rattle.xf_valid.specs.Failed.{fails_told, is_under}
use Rattle.xf_valid.proofs.AskedLemmas.{if-ok, told-not}
use Rattle.xf_valid.proofs.InvalidLemmas.{under-inside, under-none, under-outside}
use Rattle.xf_valid.proofs.invalid.is_failed.Goals as goal

pub returns-then-not-can_fail : goal.returns-then-not-can_fail
returns-then-not-can_fail c =
    let nodes = c.args.forest.now.forest.nodes in
    let e = entry_of c.args.entry.now in
    under-none (is_under nodes c.args.roots.now e.node) (told-not c.args.tables.now.types c.args.tables.now.binds e c.args.truth (string_value e.node (visits nodes)) (sym c.can_fail-can_fail.ensures ∙ c.if-not-can_fail.true))

pub returns-then-not-is_under : goal.returns-then-not-is_under
returns-then-not-is_under c =
    let nodes = c.args.forest.now.forest.nodes in
    let e = entry_of c.args.entry.now in
    under-outside nodes c.args.roots.now e.node (fails_told c.args.tables.now.types c.args.tables.now.binds e c.args.truth (string_value e.node (visits nodes)))
    (ap (λ t. has t c.args.roots.now) (sym c.top.ensures) ∙ sym c.has-is_under.ensures ∙ c.if-not-is_under.true)

pub returns : goal.returns
returns c =
    let nodes = c.args.forest.now.forest.nodes in
    let e = entry_of c.args.entry.now in
    if-ok c.fails.result _ _
    (λ failed is.
    is ∙ ap (λ b. b && fails_told c.args.tables.now.types c.args.tables.now.binds e c.args.truth (string_value e.node (visits nodes)))
    (under-inside nodes c.args.roots.now e.node (c.is_live-stands.ensures.0 c.if-not-stands.false) (ap (λ t. has t c.args.roots.now) (sym c.top.ensures) ∙ sym c.has-is_under.ensures ∙ c.if-not-is_under.false)))
    c.fails.ensures

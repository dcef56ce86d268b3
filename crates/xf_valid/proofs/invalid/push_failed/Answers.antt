use Rattle.std.proofs.Common.{◌++◌, refl, sym, ap, ◌∙◌}
use Rattle.xf_def_model.specs.Rules.{scope_of}
use Rattle.xf_binds.specs.Held.{entry_of}
use Rattle.xf_binds.specs.Table.{kept_at}
use Rattle.xf_valid.proofs.AskedLemmas.{failed-entry}
use Rattle.xf_valid.proofs.InvalidLemmas.{on-ok}
use Rattle.xf_valid.proofs.invalid.push_failed.Goals as goal

pub returns : goal.returns
returns c =
    let nodes = c.args.forest.now.forest.nodes in
    let k = kept_at c.args.table.now c.args.model in
    on-ok c.push_where.result _ _
    (λ h functions given.
    h
    ∙ ap (λ l. c.args.found.now ++ l)
    (failed-entry c.args.tables.now.types (scope_of functions given c.args.tables.now c.args.model) nodes c.args.roots.now k c.args.at (entry_of c.in-Some.entry) c.args.tables.now.binds
    c.in_ok-failed.failed c.truth_at-truth.result refl c.requires (sym c.in-Some.ensures) c.truth_at-truth.ensures.truth c.in_ok-failed.ensures))
    c.push_where.ensures

use Rattle.std.proofs.Common.{sym, ap, ◌∙◌}
use Rattle.xf_def_forest.specs.Order.{in_order}
use Rattle.xf_def_forest.specs.Visit.{visits}
use Rattle.xf_def_model.specs.Rules.{scope_of}
use Rattle.xf_binds.specs.Table.{kept_at, with_kept}
use Rattle.xf_valid.specs.Failed.{failed_among, roots_from}
use Rattle.xf_valid.proofs.AlikeLaws.{other-invalid, same-invalid}
use Rattle.xf_valid.proofs.AskedLemmas.{invalid-nothing}
use Rattle.xf_valid.proofs.InvalidLemmas.{invalid-found}
use Rattle.xf_valid.proofs.invalid.revalidate.Goals as goal

pub returns-clause-ok : goal.returns-clause-ok
returns-clause-ok c = λ functions given.
    let scope = scope_of functions given c.args.tables.now c.args.model in
    let nodes = c.args.forest.now.forest.nodes in
    let k = kept_at c.args.table.now c.args.model in
    c.set_invalid-2.ensures.done
    ∙ ap (λ ns. with_kept c.args.table.now c.args.model (record k { invalid = ns }))
    (c.in_ok-invalid.ensures ∙ c.in_ok-ordered.ensures
    ∙ ap (in_order (visits nodes))
    (c.in_ok-found.ensures functions given ∙ ap (λ rs. failed_among c.args.tables.now.types scope nodes rs k k.entries) (c.in_ok-roots.ensures ∙ ap (roots_from c.args.model nodes 0) c.as_slice.ensures))
    ∙ invalid-found c.args.tables.now.types scope c.args.tables.now.instances nodes k c.are_trees.ensures.apart)

pub returns-clause-same : goal.returns-clause-same
returns-clause-same c = same-invalid c.args.table.now c.set_invalid-2.new.self c.args.model c.in_ok-invalid.invalid c.set_invalid-2.result c.requires c.set_invalid-2.ensures.done c.set_invalid-2.ensures.same

pub returns-then-not-is_asked-clause-ok : goal.returns-then-not-is_asked-clause-ok
returns-then-not-is_asked-clause-ok c = λ functions given.
    let scope = scope_of functions given c.args.tables.now c.args.model in
    let k = kept_at c.args.table.now c.args.model in
    c.set_invalid.ensures.done
    ∙ ap (λ ns. with_kept c.args.table.now c.args.model (record k { invalid = ns }))
    (c.new.ensures ∙ sym (invalid-nothing c.args.tables.now.types scope c.args.tables.now.instances c.args.forest.now.forest.nodes k (sym c.asks_any-is_asked.ensures ∙ c.if-not-is_asked.true)))

pub returns-then-not-is_asked-clause-same : goal.returns-then-not-is_asked-clause-same
returns-then-not-is_asked-clause-same c = same-invalid c.args.table.now c.set_invalid.new.self c.args.model c.new.result c.set_invalid.result c.requires c.set_invalid.ensures.done c.set_invalid.ensures.same

pub returns-clause-differs : goal.returns-clause-differs
returns-clause-differs c = other-invalid c.args.table.now c.set_invalid-2.new.self c.args.model c.in_ok-invalid.invalid c.set_invalid-2.result c.requires c.set_invalid-2.ensures.done c.set_invalid-2.ensures.differs

pub returns-then-not-is_asked-clause-differs : goal.returns-then-not-is_asked-clause-differs
returns-then-not-is_asked-clause-differs c =
    other-invalid c.args.table.now c.set_invalid.new.self c.args.model c.new.result c.set_invalid.result c.requires c.set_invalid.ensures.done c.set_invalid.ensures.differs

use Rattle.std.proofs.Common.{get_or, ap, ◌∙◌, subst}
use Rattle.std.specs.Bool.{OnFalse}
use Rattle.xf_binds.specs.Alike.{AreAlike}
use Rattle.xf_binds.specs.Kept.{no_kept, recalculated, values_of}
use Rattle.xf_binds.proofs.table.Table.keeps_properties.Goals as goal

pub returns-in-Some-clause-differs : goal.returns-in-Some-clause-differs
returns-in-Some-clause-differs c =
    subst (λ k. OnFalse c.keeps_properties.result (AreAlike (values_of k) (values_of (recalculated c.args.truths.now k)) → ⊥))
    (c.in-Some.ensures.lookup.3.1 no_kept ∙ ap (λ ks. get_or ks c.args.model no_kept) (c.deref.ensures.value ∙ c.self.view_is))
    c.keeps_properties.ensures.differs

use Rattle.std.proofs.Common.{List, [], ◌++◌, ◌∙◌, is_some}
use Rattle.xf_def_model.specs.declared.property.Property.{Property}
use Rattle.xf_def_model.specs.declared.property.Property.TheVariants.{Kind, Calculate, Relevant, Readonly, Required, Constraint}
use Rattle.xf_binds_apply.specs.Adding.{if_set}
use Rattle.xf_binds_apply.proofs.EntryLaws.{properties-are, pushed}
use Rattle.xf_binds_apply.proofs.adding.properties_of.Goals as goal

pub returns : goal.returns
returns c =
    let p = c.args.bind.now.properties in
    let k : List Property = [] ++ if_set (is_some p.kind) Kind in
    let a : List Property = k ++ if_set (is_some p.calculate) Calculate in
    let r : List Property = a ++ if_set (is_some p.relevant) Relevant in
    let o : List Property = r ++ if_set (is_some p.readonly) Readonly in
    let u : List Property = o ++ if_set (is_some p.required) Required in
    pushed _ _ u _ _ Constraint c.in_ok-push_if-6.ensures
    (pushed _ _ o _ _ Required c.in_ok-push_if-5.ensures
    (pushed _ _ r _ _ Readonly c.in_ok-push_if-4.ensures
    (pushed _ _ a _ _ Relevant c.in_ok-push_if-3.ensures
    (pushed _ _ k _ _ Calculate c.in_ok-push_if-2.ensures
    (pushed _ _ [] _ _ Kind c.in_ok-push_if.ensures c.new-set.ensures.items c.is_some.ensures) c.is_some-2.ensures) c.is_some-3.ensures) c.is_some-4.ensures) c.is_some-5.ensures) c.is_some-6.ensures
    ∙ properties-are c.args.bind.now

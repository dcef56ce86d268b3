use Rattle.std.proofs.Common.{◌≡◌, ◌<◌, ◌≤◌, true, false, length, nat_lt, option_map, ap, sym, ◌∙◌, arith}
use Rattle.std.proofs.lemmas.Bool.Decides.{nat_tests}
use Rattle.xf_def_forest.specs.declared.node.NodeId.{NodeId}
use Rattle.xf_def_xpath.specs.declared.fault.EvalFault.TheVariants.{Long, Memory}
use Rattle.xf_eval.proofs.Bounded.{gives-same}
use Rattle.xf_def_model.specs.Submitted.{first_in}
use Rattle.xf_submit.proofs.SourceLaws.{bind-none, bind-own}
use Rattle.xf_submit.proofs.sources.first_of_bind.Goals as goal

pub returns-then-is_bind : goal.returns-then-is_bind
returns-then-is_bind c =
    let o = c.args.over.now in
    let k = c.args.bind in
    let test : nat_lt k (length o.form.now.tables.binds) ≡ true = sym c.is_bind.ensures ∙ c.if-is_bind.true in
    let small : k < length o.form.now.tables.binds = grind (arith, nat_tests, test) in
    gives-same Memory Long (option_map (λ (i : NodeId). i.number)) c.first_nested.result _ _ (ap (option_map first_in) (bind-own o c.args.model k small)) c.first_nested.ensures

pub returns : goal.returns
returns c =
    let o = c.args.over.now in
    let k = c.args.bind in
    let test : nat_lt k (length o.form.now.tables.binds) ≡ false = sym c.is_bind.ensures ∙ c.if-is_bind.false in
    let large : length o.form.now.tables.binds ≤ k = grind (arith, nat_tests, test) in
    gives-same Memory Long (option_map (λ (i : NodeId). i.number)) c.first_of_whole.result _ _ (sym (bind-none o c.args.model k large)) c.first_of_whole.ensures

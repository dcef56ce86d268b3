use Rattle.std.proofs.Common.{sym, ap, ◌∙◌, option_map}
use Rattle.xf_def_forest.specs.Forest.{name_at}
use Rattle.xf_insert.specs.Names.{are_same}
use Rattle.xf_insert.proofs.KindLaws.{same-names}
use Rattle.xf_insert.proofs.kinds.has_same_name.Goals as goal

pub returns : goal.returns
returns c =
    let nodes = c.args.forest.now.forest.nodes in
    c.are_same.ensures ∙ ap (λ o. are_same o (option_map (λ name. name.now) c.name_in-second.result)) c.name_in-first.ensures
    ∙ ap (are_same (name_at c.args.one.number nodes)) c.name_in-second.ensures ∙ sym (same-names c.args.one.number c.args.other.number nodes)

use Rattle.std.proofs.Common.{Some, None, ap, ◌∙◌}
use Rattle.slab.specs.Slab.{get}
use Rattle.xf_def_forest.specs.Forest.{name_in}
use Rattle.xf_def_forest.specs.WellFormed.{have_same_name}
use Rattle.xf_tree_contents.specs.Keys.{content_in}
use Rattle.xf_tree_contents.specs.Names.{named}
use Rattle.xf_tree_contents.proofs.SlotLemmas.{name-at, no-name}
use Rattle.xf_tree_contents.proofs.slots.Slots.has_same_name.Goals as goal

pub returns-in_default : goal.returns-in_default
returns-in_default c =
    let seen = c.args.self.now in
    let first = name-at c.self.inside.slab c.self.inside.names seen c.args.first None c.self.view_is c.in_default.ensures in
    ap (λ n. have_same_name n (name_in (content_in (get seen c.args.second)))) first

pub returns-in_default-name_number : goal.returns-in_default-name_number
returns-in_default-name_number c =
    let seen = c.args.self.now in
    let name = name_in (content_in (get seen c.args.first)) in
    let second = name-at c.self.inside.slab c.self.inside.names seen c.args.second None c.self.view_is c.in_default-name_number.ensures in
    no-name name ∙ ap (have_same_name name) second

pub returns : goal.returns
returns c =
    let table = c.self.inside.names in
    let seen = c.args.self.now in
    let first = name-at c.self.inside.slab table seen c.args.first (Some c.in-Some.one) c.self.view_is c.in-Some.ensures in
    let second = name-at c.self.inside.slab table seen c.args.second (Some c.in-Some-name_number.other) c.self.view_is c.in-Some-name_number.ensures in
    c.is_same.ensures ∙ ap (λ n. have_same_name n (named table.names (Some c.in-Some-name_number.other))) first ∙ ap (have_same_name (name_in (content_in (get seen c.args.first)))) second

use Rattle.std.proofs.Common.{◌≡◌, not, false, map, nat_lt, option_map, get_or, sym, ap, ◌∙◌}
use Rattle.slab.specs.Slab.{get}
use Rattle.xf_def_forest.specs.declared.content.Node.{Node}
use Rattle.xf_def_forest.specs.Forest.{Forest, has_number}
use Rattle.xf_def_forest.specs.Needs.{lacks_name}
use Rattle.xf_def_forest.specs.Texts.{Keeping}
use Rattle.xf_tree_rows.specs.declared.rows.Row.{Row}
use Rattle.xf_tree_rows.specs.Rows.{no_row}
use Rattle.xf_tree_contents.specs.Keys.{content_in}
use Rattle.xf_tree_walks.specs.Kids.{is_attribute_like, kids_at}
use Rattle.xf_tree_walks.specs.Nodes.{node_of}
use Rattle.xf_tree.proofs.ChildLemmas.{kids-mean, lacks-are, lacks-nameless, lacks-nobody}
use Rattle.xf_tree.proofs.NamedLemmas.{node-none}
use Rattle.xf_tree.proofs.MeansLemmas.{content-means}
use Rattle.xf_tree.proofs.forest.Forest.lacks_name.Goals as goal

pub returns-in_default : goal.returns-in_default
returns-in_default c =
    let n = c.args.node.number in
    let s = c.self.inside.slots in
    let rows = c.self.inside.rows.items in
    let forest : Forest = record { nodes = map (node_of s) rows; next = c.self.inside.next } in
    let absent : has_number n (map (node_of s) rows) ≡ false = c.in_default.ensures in
    sym (lacks-nameless n c.args.parent.number forest (ap (option_map (λ (x : Node). x.content)) (node-none n (map (node_of s) rows) absent)))
    ∙ ap (λ (k : Keeping). lacks_name n c.args.parent.number k.forest) c.self.view_is

pub returns-in-Some-row_of : goal.returns-in-Some-row_of
returns-in-Some-row_of c =
    let n = c.args.node.number in
    let m = c.args.parent.number in
    let s = c.self.inside.slots in
    let rows = c.self.inside.rows.items in
    let kept = c.self.inside.kept.items in
    let next = c.self.inside.next in
    let at = c.in-Some.at in
    let above = c.in-Some-row_of.above in
    let forest : Forest = record { nodes = map (node_of s) rows; next = next } in
    let here = c.in-Some.ensures in
    let there = c.in-Some-row_of.ensures in
    let row = c.at.ensures in
    let like = content_in (get s (get_or rows at no_row).key) in
    let means = kids-mean (is_attribute_like like) s m above rows kept next c.self.invariant.sound there in
    let is = lacks-are n m forest like (content-means s n at rows kept next c.self.invariant.sound here) in
    ap not (c.has_attribute.ensures ∙ ap (λ (r : Row). nat_lt 0 (kids_at (is_attribute_like (content_in (get s r.key))) s rows above)) row ∙ ap (nat_lt 0) (sym means))
    ∙ sym is ∙ ap (λ (k : Keeping). lacks_name n m k.forest) c.self.view_is

pub returns-in-None : goal.returns-in-None
returns-in-None c =
    let n = c.args.node.number in
    let m = c.args.parent.number in
    let s = c.self.inside.slots in
    let rows = c.self.inside.rows.items in
    let at = c.in-Some.at in
    let forest : Forest = record { nodes = map (node_of s) rows; next = c.self.inside.next } in
    let here = c.in-Some.ensures in
    let absent : has_number m (map (node_of s) rows) ≡ false = c.in-None.ensures in
    let like = content_in (get s (get_or rows at no_row).key) in
    sym (lacks-nobody n m forest like (content-means s n at rows c.self.inside.kept.items c.self.inside.next c.self.invariant.sound here) absent)
    ∙ ap (λ (k : Keeping). lacks_name n m k.forest) c.self.view_is

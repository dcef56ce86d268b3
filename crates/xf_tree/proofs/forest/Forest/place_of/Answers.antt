use Rattle.std.proofs.Common.{◌≡◌, true, false, if◌then◌else◌, map, get_or, sym, ap, ◌∙◌}
use Rattle.std.specs.Prelude.{count_by}
use Rattle.slab.specs.Slab.{get}
use Rattle.xf_def_forest.specs.Changes.{place_of, is_lesser}
use Rattle.xf_def_forest.specs.Forest.{is_attribute, content_at}
use Rattle.xf_def_forest.specs.Texts.{Keeping}
use Rattle.xf_def_forest.specs.Visit.{visits}
use Rattle.xf_tree_rows.specs.declared.rows.Row.{Row}
use Rattle.xf_tree_rows.specs.Rows.{no_row}
use Rattle.xf_tree_contents.specs.Keys.{content_in}
use Rattle.xf_tree_walks.specs.Kids.{is_lesser_attribute, kids_at}
use Rattle.xf_tree_walks.specs.Nodes.{node_of}
use Rattle.xf_tree.proofs.ChildLemmas.{kids-mean, lesser-are}
use Rattle.xf_tree.proofs.MeansLemmas.{content-means}
use Rattle.xf_tree.proofs.forest.Forest.place_of.Goals as goal

pub returns-then-is_attribute_at : goal.returns-then-is_attribute_at
returns-then-is_attribute_at c =
    let n = c.args.node.number in
    let m = c.args.parent.number in
    let s = c.self.inside.slots in
    let rows = c.self.inside.rows.items in
    let kept = c.self.inside.kept.items in
    let next = c.self.inside.next in
    let at = c.in-Some-Some.at in
    let above = c.in-Some-Some.above in
    let all = visits (map (node_of s) rows) in
    let here = c.in-Some-Some.ensures in
    let there = c.in-Some-Some.ensures' in
    let row = c.at-key.ensures in
    let own = content_in (get s (get_or rows at no_row).key) in
    let is : is_attribute own ≡ true = ap (λ (r : Row). is_attribute (content_in (get s r.key))) (sym row) ∙ sym c.is_attribute_at.ensures ∙ c.if-is_attribute_at.true in
    let count = c.count_lesser.ensures ∙ ap (λ (r : Row). kids_at (is_lesser_attribute (content_in (get s r.key))) s rows above) row
    ∙ sym (kids-mean (is_lesser_attribute own) s m above rows kept next c.self.invariant.sound there) ∙ sym (lesser-are m own all) in
    let placed : place_of m c.args.place all (content_at n (map (node_of s) rows)) ≡ count_by (is_lesser m own) all =
    ap (place_of m c.args.place all) (content-means s n at rows kept next c.self.invariant.sound here) ∙ ap (λ b. if b then count_by (is_lesser m own) all else c.args.place) is in
    count ∙ sym placed ∙ ap (λ (k : Keeping). place_of m c.args.place (visits k.forest.nodes) (content_at n k.forest.nodes)) c.self.view_is

pub returns-else-is_attribute_at : goal.returns-else-is_attribute_at
returns-else-is_attribute_at c =
    let n = c.args.node.number in
    let m = c.args.parent.number in
    let s = c.self.inside.slots in
    let rows = c.self.inside.rows.items in
    let at = c.in-Some-Some.at in
    let all = visits (map (node_of s) rows) in
    let here = c.in-Some-Some.ensures in
    let row = c.at-key.ensures in
    let own = content_in (get s (get_or rows at no_row).key) in
    let other : is_attribute own ≡ false = ap (λ (r : Row). is_attribute (content_in (get s r.key))) (sym row) ∙ sym c.is_attribute_at.ensures ∙ c.if-is_attribute_at.false in
    let placed : place_of m c.args.place all (content_at n (map (node_of s) rows)) ≡ c.args.place =
    ap (place_of m c.args.place all) (content-means s n at rows c.self.inside.kept.items c.self.inside.next c.self.invariant.sound here)
    ∙ ap (λ b. if b then count_by (is_lesser m own) all else c.args.place) other in
    sym placed ∙ ap (λ (k : Keeping). place_of m c.args.place (visits k.forest.nodes) (content_at n k.forest.nodes)) c.self.view_is

use Rattle.std.proofs.Common.{◌≡◌, ℕ, List, [], map, true, false, sym, ap, ◌∙◌, subst, arith, nat_lt}
use Rattle.std.specs.Prelude.{filter}
use Rattle.std.specs.List.{list_all}
use Rattle.xf_def_forest.specs.declared.content.Node.{Node}
use Rattle.xf_def_forest.specs.Needs.{goes_or_stays}
use Rattle.xf_def_forest.specs.Texts.{Keeping, without_from}
use Rattle.xf_def_forest.specs.Visit.{visits}
use Rattle.xf_tree_contents.specs.Keys.{kept_of}
use Rattle.xf_tree_walks.specs.Nodes.{node_of}
use Rattle.xf_tree_changes.specs.Older.{is_older, is_newer, AreWhole}
use Rattle.xf_tree_changes.proofs.OlderLemmas.{older-parted}
use Rattle.xf_tree.specs.State.{IsState}
use Rattle.xf_tree.proofs.DropLemmas.{dropped-state, dropped-nodes}
use Rattle.xf_tree.proofs.OlderLemmas.{older-shaped, length-older, times-older, nodes-older}
use Rattle.xf_tree.proofs.WholeLemmas.{rows-whole}
use Rattle.xf_tree.proofs.forest.Forest.drop_from.Goals.{After-tops_end-from}
use Rattle.xf_tree.proofs.forest.Forest.drop_from.Goals as goal

whole-here : (c : After-tops_end-from) → AreWhole c.args.number false (map (node_of c.self.inside.slots) c.self.inside.rows.items)
whole-here c =
    rows-whole c.self.inside.slots c.args.number c.self.inside.next c.self.inside.rows.items c.self.inside.kept.items c.self.invariant.sound
    (subst (λ (k : Keeping). list_all (goes_or_stays c.args.number) (visits k.forest.nodes) ≡ true) (sym c.self.view_is) c.requires.whole)

pub drop_newer-requires-clause-whole : goal.drop_newer-requires-clause-whole
drop_newer-requires-clause-whole c = whole-here (goal.at.drop_newer-requires-clause-whole c).After-tops_end-from

pub invariant_of-self : goal.invariant_of-self
invariant_of-self c =
    let s = c.self.inside.slots in
    let n = c.args.number in
    let rows = c.self.inside.rows.items in
    let kept = c.self.inside.kept.items in
    let next = c.self.inside.next in
    let stay = filter (is_older s n) rows in
    let s2 = c.drop_kept.new.slots in
    let room = c.drop_newer.new.rows in
    let state = dropped-state s c.drop_newer.new.slots s2 rows stay (filter (is_newer s n) rows) kept next c.self.inside.count c.self.inside.bytes (c.self.inside.rows.capacity) c.self.invariant
    (λ X add. older-parted s n X add rows) c.drop_newer.ensures.rest c.drop_kept.ensures.rest
    c.drop_newer.ensures.less c.drop_kept.ensures.less n c.drop_newer.new.total c.drop_newer.new.size room.capacity (omega (arith, c.drop_newer.ensures.room)) c.drop_newer.ensures.total c.drop_newer.ensures.size
    (older-shaped s n next rows kept c.self.invariant.sound (whole-here (goal.at.invariant_of-self c).After-tops_end-from)) (length-older s n rows) (λ m h. times-older s n m rows h) in
    let with_rows = subst (λ l. IsState s2 l [] n c.drop_newer.new.total c.drop_newer.new.size room.capacity) (sym c.drop_newer.ensures.stay) state in
    subst (λ l. IsState s2 room.items l n c.drop_newer.new.total c.drop_newer.new.size room.capacity) (sym c.drop_kept.ensures.none) with_rows

pub returns : goal.returns
returns c =
    let s = c.self.inside.slots in
    let n = c.args.number in
    let rows = c.self.inside.rows.items in
    let stay = filter (is_older s n) rows in
    let s2 = c.drop_kept.new.slots in
    let same = dropped-nodes s c.drop_newer.new.slots s2 rows stay (filter (is_newer s n) rows) c.self.inside.kept.items c.self.inside.next c.self.inside.count c.self.inside.bytes (c.self.inside.rows.capacity) c.self.invariant
    (λ X add. older-parted s n X add rows) c.drop_newer.ensures.rest c.drop_kept.ensures.rest in
    let older = λ (l : List Node). filter (λ (x : Node). nat_lt x.number n) l in
    let nodes : map (node_of s2) c.drop_newer.new.rows.items ≡ older (map (node_of s) rows) = ap (map (node_of s2)) c.drop_newer.ensures.stay ∙ same ∙ nodes-older s n rows in
    let whole : List Node → List ℕ → Keeping = λ l ks. record { forest = record { nodes = l; next = n }; kept = map (kept_of s2) ks } in
    ap (λ l. whole l c.drop_kept.new.kept.items) nodes ∙ ap (whole (older (map (node_of s) rows))) c.drop_kept.ensures.none ∙ ap (without_from n) c.self.view_is

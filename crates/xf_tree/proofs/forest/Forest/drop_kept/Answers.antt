use Rattle.std.proofs.Common.{◌≤◌, map, sym, ap, ◌∙◌, subst, arith}
use Rattle.std.specs.Prelude.{filter}
use Rattle.xf_def_forest.specs.Texts.{element_texts, given_up}
use Rattle.xf_tree_contents.specs.Keys.{kept_of, KeepsButKept}
use Rattle.xf_tree_changes.specs.Texts.{numbers_in, places_of, is_wanted}
use Rattle.xf_tree.specs.State.{IsState, keeping_of}
use Rattle.xf_tree.proofs.DropLemmas.{rest-of}
use Rattle.xf_tree.proofs.BackLemmas.{given-state, given-view}
use Rattle.xf_tree.proofs.forest.Forest.drop_kept.Goals.{After-free_all}
use Rattle.xf_tree.proofs.forest.Forest.drop_kept.Goals as goal

keeps-in : (c : After-free_all) → KeepsButKept c.self.inside.slots c.free_all.new.slots (map (kept_of c.self.inside.slots) (filter (is_wanted c.self.inside.slots (numbers_in c.args.texts.items)) c.self.inside.kept.items))
keeps-in c =
    let s = c.self.inside.slots in
    let s2 = c.free_all.new.slots in
    let first = c.take_kept-first.result in
    let is = rest-of first c.deref.result.now c.take_kept-first.new.texts.items c.deref.ensures.value in
    subst (λ l. KeepsButKept s s2 (map (kept_of s) l)) c.take_kept-first.ensures.taken (subst (λ l. KeepsButKept s s2 (map (kept_of s) (places_of l))) is c.free_all.ensures.rest)

pub invariant_of-self : goal.invariant_of-self
invariant_of-self c =
    let k = (goal.at.invariant_of-self c).After-free_all in
    let ns = numbers_in c.args.texts.items in
    let same : c.self.inside.rows.capacity ≤ c.self.inside.rows.capacity = omega arith in
    let state = given-state c.self.inside.slots c.free_all.new.slots c.self.inside.rows.items c.self.inside.kept.items ns c.self.inside.next c.self.inside.count c.self.inside.bytes _ c.self.invariant
    (keeps-in k) c.free_all.ensures.less (c.self.inside.rows.capacity) same in
    subst (λ l. IsState c.free_all.new.slots c.self.inside.rows.items l c.self.inside.next c.self.inside.count c.self.inside.bytes (c.self.inside.rows.capacity)) (sym c.take_kept-first.ensures.left) state

pub returns : goal.returns
returns c =
    let k = (goal.at.returns c).After-free_all in
    let ns = numbers_in c.args.texts.items in
    let view = given-view c.self.inside.slots c.free_all.new.slots c.self.inside.rows.items c.self.inside.kept.items ns c.self.inside.next c.self.inside.count c.self.inside.bytes _ c.self.invariant
    (keeps-in k) c.free_all.ensures.less in
    ap (λ l. keeping_of c.free_all.new.slots c.self.inside.rows.items l c.self.inside.next) c.take_kept-first.ensures.left ∙ view ∙ ap (given_up (element_texts ns)) c.self.view_is

use Rattle.std.proofs.Common.{◌≡◌, ℕ, ◌+◌, ◌≤◌, ◌<◌, ◌&&◌, Bool, true, false, length, drop, nat_le, nat_lt, refl, sym, ap, ◌∙◌, arith}
use Rattle.std.proofs.lemmas.Bool.Decides.{nat_tests}
use Rattle.xf_def_forest.specs.Forest.{has_number, tree_of as tree_of_node}
use Rattle.xf_def_forest.specs.Texts.{Keeping}
use Rattle.xf_tree_rows.specs.Rows.{tree_of}
use Rattle.xf_tree.proofs.NamedLemmas.{inside-none, inside-means, inside-other}
use Rattle.xf_tree.proofs.forest.Forest.is_inside.Goals as goal

pub returns-in_default : goal.returns-in_default
returns-in_default c =
    let n = c.args.node.number in
    let s = c.self.inside.slots in
    let absent = c.in_default.ensures in
    sym (inside-none n c.args.other.number _ absent) ∙ ap (λ (k : Keeping). has_number c.args.other.number (tree_of_node n k.forest.nodes)) c.self.view_is

within : (at to : ℕ) → at ≤ to → (b : Bool) → b ≡ (nat_le at to && b)
within at to h b = let yes : nat_le at to ≡ true = grind (arith, nat_tests) in rw yes refl

before : (at to : ℕ) → to < at → (b : Bool) → nat_le at to ≡ (nat_le at to && b)
before at to h b = let no : nat_le at to ≡ false = grind (arith, nat_tests) in rw no refl

pub returns-then-at-to : goal.returns-then-at-to
returns-then-at-to c =
    let n = c.args.node.number in
    let m = c.args.other.number in
    let s = c.self.inside.slots in
    let rows = c.self.inside.rows.items in
    let at = c.in-Some.at in
    let to = c.in-Some-row_of.to in
    let here = c.in-Some.ensures in
    let there = c.in-Some-row_of.ensures in
    let last = at + length (tree_of (drop at rows)) in
    let end : c.end_of.result ≡ last = c.end_of.ensures.answer in
    ap (nat_lt to) end ∙ within at to c.if-at-to.true (nat_lt to last) ∙ sym (inside-means s n m at to rows c.self.inside.kept.items c.self.inside.next c.self.invariant.sound here there)
    ∙ ap (λ (k : Keeping). has_number m (tree_of_node n k.forest.nodes)) c.self.view_is

pub returns-else-at-to : goal.returns-else-at-to
returns-else-at-to c =
    let n = c.args.node.number in
    let m = c.args.other.number in
    let s = c.self.inside.slots in
    let rows = c.self.inside.rows.items in
    let at = c.in-Some.at in
    let to = c.in-Some-row_of.to in
    let here = c.in-Some.ensures in
    let there = c.in-Some-row_of.ensures in
    let last = at + length (tree_of (drop at rows)) in
    before at to c.if-at-to.false (nat_lt to last) ∙ sym (inside-means s n m at to rows c.self.inside.kept.items c.self.inside.next c.self.invariant.sound here there)
    ∙ ap (λ (k : Keeping). has_number m (tree_of_node n k.forest.nodes)) c.self.view_is

pub returns-in-None : goal.returns-in-None
returns-in-None c =
    let n = c.args.node.number in
    let m = c.args.other.number in
    let s = c.self.inside.slots in
    let rows = c.self.inside.rows.items in
    let at = c.in-Some.at in
    let here = c.in-Some.ensures in
    let absent = c.in-None.ensures in
    sym (inside-other s n m at rows c.self.inside.kept.items c.self.inside.next c.self.invariant.sound here absent)
    ∙ ap (λ (k : Keeping). has_number m (tree_of_node n k.forest.nodes)) c.self.view_is

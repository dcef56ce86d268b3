-- Under a root of its own the tree of an element has no text right below the root.
use Rattle.std.proofs.Common.{◌≡◌, ℕ, ◌==◌, Bool, true, false, not, cond, ◌&&◌, ◌||◌, List, [], ◌∷◌, ◌++◌, map, find, nat_lt, Some, option_map, refl, ap, ◌∙◌, arith, append-nil}
use Rattle.std.proofs.lemmas.Bool.Decides.{nat_tests}
use Rattle.xf_def_forest.specs.declared.content.Content.{Content}
use Rattle.xf_def_forest.specs.declared.content.Content.TheVariants as content
use Rattle.xf_def_forest.specs.declared.content.Kind.TheVariants.{Element}
use Rattle.xf_def_forest.specs.declared.content.Node.{Node}
use Rattle.xf_def_forest.specs.Changes.{in_detached, in_instances, moved_to, shifted, with_root, without_tree}
use Rattle.xf_def_forest.specs.Forest.{Forest, below, first_tree, from_node, is_text, kind_at, kind_of, tree_of}
use Rattle.xf_def_xpath.proofs.VisitFacts.{no, some-same}
use Rattle.xf_law_recalculation.specs.Agree.Hung.{are_hung, are_hung_from, hangs, rooted_by}
use Rattle.xf_law_recalculation.proofs.AgreeLemmas.HungChanges.{hung_grown, hung_instances}

both-true : (a b : Bool) → a ≡ true → b ≡ true → (a && b) ≡ true
both-true true b h k = k
both-true false b h k = h

or-middle : (a b c : Bool) → b ≡ true → (a || b || c) ≡ true
or-middle true b c h = refl
or-middle false true c h = refl
or-middle false false c h = no h

hangs-plain : (r : Bool) (x : Node) → is_text x.content ≡ false → hangs r x ≡ true
hangs-plain r x t = ap (λ b. not b || nat_lt 1 x.depth || ((x.depth == 1) && not r)) t

deep-hung : (d : ℕ) (r : Bool) (xs : List Node) → are_hung_from r (map (shifted d 1) (below d xs)) ≡ true
deep-hung d r [] = refl
deep-hung d r (y ∷ ys) = by (nat_lt d y.depth) refl (deep-hung d (rooted_by r (shifted d 1 y)) ys)
  where
    deep : nat_lt d y.depth ≡ true → nat_lt 1 (shifted d 1 y).depth ≡ true
    deep e = grind (arith, nat_tests, e)

    by : (b : Bool) → nat_lt d y.depth ≡ b → are_hung_from (rooted_by r (shifted d 1 y)) (map (shifted d 1) (below d ys)) ≡ true → are_hung_from r (map (shifted d 1) (cond b (y ∷ below d ys) [])) ≡ true
    by true e i =
        both-true (hangs r (shifted d 1 y)) (are_hung_from (rooted_by r (shifted d 1 y)) (map (shifted d 1) (below d ys)))
        (or-middle (not (is_text y.content)) (nat_lt 1 (shifted d 1 y).depth) (((shifted d 1 y).depth == 1) && not r) (deep e)) i
    by false e i = refl

first-hung : (x : Node) (xs : List Node) → is_text x.content ≡ false → are_hung_from true (moved_to 1 (x ∷ below x.depth xs)) ≡ true
first-hung x xs plain =
    both-true (hangs true (shifted x.depth 1 x)) (are_hung_from (rooted_by true (shifted x.depth 1 x)) (map (shifted x.depth 1) (below x.depth xs)))
    (hangs-plain true (shifted x.depth 1 x) plain) (deep-hung x.depth (rooted_by true (shifted x.depth 1 x)) xs)

element-plain : (c : Content) → kind_of c ≡ Element → is_text c ≡ false
element-plain content.Root e = refl
element-plain (content.Element name) e = refl
element-plain (content.Attribute name text) e = refl
element-plain (content.Text text) e = cc e

tree-hung : (n : ℕ) (nodes : List Node) → kind_at n nodes ≡ Some Element → are_hung_from true (moved_to 1 (tree_of n nodes)) ≡ true
tree-hung n [] h = refl
tree-hung n (x ∷ xs) h = by (x.number == n) h (tree-hung n xs)
  where
    by : (b : Bool) → option_map kind_of (option_map (λ (z : Node). z.content) (cond b (Some x) (find (λ z. z.number == n) xs))) ≡ Some Element
        → (kind_at n xs ≡ Some Element → are_hung_from true (moved_to 1 (tree_of n xs)) ≡ true) → are_hung_from true (moved_to 1 (first_tree (cond b (x ∷ xs) (from_node n xs)))) ≡ true
    by true i later = first-hung x xs (element-plain x.content (some-same i))
    by false i later = later i

-- texts stand in elements after the root has come, where they did beside the tree
pub rooted-hung : (top : ℕ) (forest : Forest) → kind_at top forest.nodes ≡ Some Element → in_detached (without_tree top forest.nodes) ≡ [] → are_hung (without_tree top forest.nodes) ≡ true
    → are_hung (with_root top forest).1.nodes ≡ true
rooted-hung top forest kind none hung =
    let rest = without_tree top forest.nodes in
    let root : Node = record { number = forest.next; depth = 0; content = content.Root } in
    let tree = moved_to 1 (tree_of top forest.nodes) in
    ap (λ l. are_hung ((in_instances rest ++ (root ∷ tree)) ++ l)) none
    ∙ ap are_hung (append-nil (in_instances rest ++ (root ∷ tree)))
    ∙ hung_grown (in_instances rest) (root ∷ tree) refl (hung_instances rest hung) (tree-hung top forest.nodes kind)

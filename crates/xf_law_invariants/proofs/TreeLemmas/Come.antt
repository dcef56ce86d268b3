-- Trees that come behind all others, and trees that go, leave a list of trees.
use Rattle.std.proofs.Common.{◌≡◌, ℕ, suc, ◌+◌, ◌-◌, ◌<◌, ◌==◌, Bool, true, false, not, cond, ◌||◌, List, [], ◌∷◌, ◌++◌, map, length, nat_lt, Option, Some, None, Ok, refl, ap, ◌∙◌, subst, inl, inr, arith}
use Rattle.std.specs.Prelude.{◌≤◌}
use Rattle.std.specs.List.{list_all}
use Rattle.std.proofs.lemmas.Bool.{cases_Bool}
use Rattle.std.proofs.lemmas.Bool.Decides.{nat_tests}
use Rattle.xf_def_forest.specs.declared.content.Content.{Content}
use Rattle.xf_def_forest.specs.declared.content.Node.{Node}
use Rattle.xf_def_forest.specs.declared.fault.TreeFault.{TreeFault}
use Rattle.xf_def_forest.specs.Changes.{contents_in, in_instances, is_detached_top, moved_to, shifted, without_tree}
use Rattle.xf_def_forest.specs.Forest.{Forest, is_root, tree_of}
use Rattle.xf_def_forest.specs.Limits.{passed_by_all, passed_by_tree, unless}
use Rattle.xf_def_forest.specs.Plant.{numbered_from}
use Rattle.xf_def_forest.specs.WellFormed.{are_apart, are_below, are_tops, HasTrees}
use Rattle.xf_law_invariants.specs.Tree.Trees.{DetachedTrees, DroppedTrees, PlantedTrees, CopiedTrees, TreeLaws}
use Rattle.xf_law_invariants.proofs.TreeLemmas.Links.{and-true, both-true, Stands, plain, top, under, beside, Linked, Well, to-well, well-depths, well-first, well-links, well-append, without-well, tree-well}
use Rattle.xf_law_invariants.proofs.TreeLemmas.Counted.{times, times-append, apart-times, times-apart, times-parts, times-moved, all-append, all-without, all-tree, all-moved}

abbrev contents : List Node → List (ℕ × Content)
contents xs = map (λ (x : Node). (x.depth, x.content)) xs

well-of : (forest : Forest) → HasTrees forest → Well forest.nodes
well-of forest h = to-well forest.nodes h.depths h.first

-- ---- other numbers

numbered-stands : (m n : ℕ) (x y : Node) → Stands x y → Stands (record x { number = m }) (record y { number = n })
numbered-stands m n x y (plain a) = plain a
numbered-stands m n x y (top a) = top a
numbered-stands m n x y (under a b) = under a b
numbered-stands m n x y (beside a b) = beside a b

numbered-linked : (m n : ℕ) (x : Node) (xs : List Node) → Linked x xs → Linked (record x { number = m }) (numbered_from n (contents xs))
numbered-linked m n x [] h = tt
numbered-linked m n x (y ∷ ys) h = (record { deep = h.0.deep; stands = numbered-stands m n x y h.0.stands }, numbered-linked n (suc n) y ys h.1)

numbered-well : (n : ℕ) (xs : List Node) → Well xs → Well (numbered_from n (contents xs))
numbered-well n [] h = tt
numbered-well n (x ∷ xs) h = (h.0, numbered-linked n (suc n) x xs h.1)

numbered-tops : (n : ℕ) (xs : List Node) → are_tops xs ≡ true → are_tops (numbered_from n (contents xs)) ≡ true
numbered-tops n [] h = refl
numbered-tops n (x ∷ xs) h =
    let parts = and-true (not (is_root x.content) || (x.depth == 0)) (are_tops xs) h in
    both-true (not (is_root x.content) || (x.depth == 0)) (are_tops (numbered_from (suc n) (contents xs))) parts.0 (numbered-tops (suc n) xs parts.1)

numbered-contents : (n : ℕ) (ps : List (ℕ × Content)) → contents (numbered_from n ps) ≡ ps
numbered-contents n [] = refl
numbered-contents n (p ∷ ps) = ap (λ l. p ∷ l) (numbered-contents (suc n) ps)

-- ---- new numbers

zero-more : (m : ℕ) → m ≡ 0 → 0 + m ≡ 0
zero-more m h = omega (arith, h)

times-below : (k next : ℕ) (xs : List Node) → are_below next xs ≡ true → next ≤ k → times k xs ≡ 0
times-below k next [] h l = refl
times-below k next (x ∷ xs) h l =
    let parts = and-true (nat_lt x.number next) (are_below next xs) h in
    let other : (x.number == k) ≡ false = differ x.number parts.0 in
    ap (λ b. cond b 1 0 + times k xs) other ∙ zero-more (times k xs) (times-below k next xs parts.1 l)
  where
    differ : (n : ℕ) → nat_lt n next ≡ true → (n == k) ≡ false
    differ n q = grind (arith, nat_tests, q, l)

times-before : (k n : ℕ) (ps : List (ℕ × Content)) → k < n → times k (numbered_from n ps) ≡ 0
times-before k n [] l = refl
times-before k n (p ∷ ps) l =
    let other : (n == k) ≡ false = grind (arith, nat_tests, l) in
    ap (λ b. cond b 1 0 + times k (numbered_from (suc n) ps)) other ∙ zero-more (times k (numbered_from (suc n) ps)) (times-before k (suc n) ps (omega (arith, l)))

times-numbered : (k n : ℕ) (ps : List (ℕ × Content)) → times k (numbered_from n ps) ≤ 1
times-numbered k n [] = omega arith
times-numbered k n (p ∷ ps) = by (n == k) refl (times-numbered k (suc n) ps)
  where
    by : (b : Bool) → (n == k) ≡ b → times k (numbered_from (suc n) ps) ≤ 1 → cond b 1 0 + times k (numbered_from (suc n) ps) ≤ 1
    by true e rest =
        let less : k < suc n = grind (arith, nat_tests, e) in
        let none = times-before k (suc n) ps less in omega (arith, none)
    by false e rest = omega (arith, rest)

numbered-below : (n m : ℕ) (ps : List (ℕ × Content)) → n + length ps ≤ m → are_below m (numbered_from n ps) ≡ true
numbered-below n m [] h = refl
numbered-below n m (p ∷ ps) h =
    let one : nat_lt n m ≡ true = grind (arith, nat_tests, h) in
    both-true (nat_lt n m) (are_below m (numbered_from (suc n) ps)) one (numbered-below (suc n) m ps (omega (arith, h)))

below-more : (m k : ℕ) (xs : List Node) → m ≤ k → are_below m xs ≡ true → are_below k xs ≡ true
below-more m k [] h i = refl
below-more m k (x ∷ xs) h i =
    let parts = and-true (nat_lt x.number m) (are_below m xs) i in
    both-true (nat_lt x.number k) (are_below k xs) (more x.number parts.0) (below-more m k xs h parts.1)
  where
    more : (n : ℕ) → nat_lt n m ≡ true → nat_lt n k ≡ true
    more n j = grind (arith, nat_tests, h, j)

-- ---- behind all others

grown-apart : (next : ℕ) (ps : List (ℕ × Content)) (xs : List Node) → are_apart xs ≡ true → are_below next xs ≡ true → (k : ℕ) → times k (xs ++ numbered_from next ps) ≤ 1
grown-apart next ps xs h l k =
    let sum = times-append k xs (numbered_from next ps) in
    elim (cases_Bool (nat_lt k next)) [
      | inl p ↦
          let less : k < next = grind (arith, nat_tests, p) in
          let none = times-before k next ps less in
          let most = apart-times xs h k in omega (arith, sum, none, most)
      | inr p ↦
          let more : next ≤ k = grind (arith, nat_tests, p) in
          let none = times-below k next xs l more in
          let most = times-numbered k next ps in omega (arith, sum, none, most)
    ]

-- with a tree of new numbers behind all others
grown-trees : (forest : Forest) (ps : List (ℕ × Content)) (trees : List Node) → HasTrees forest → contents trees ≡ ps → Well trees → are_tops trees ≡ true
    → HasTrees (record { nodes = forest.nodes ++ numbered_from forest.next ps; next = forest.next + length ps })
grown-trees forest ps trees h e w t =
    let n = forest.next in
    let well : Well (numbered_from n ps) = subst (λ l. Well (numbered_from n l)) e (numbered-well n trees w) in
    let tops : are_tops (numbered_from n ps) ≡ true = subst (λ l. are_tops (numbered_from n l) ≡ true) e (numbered-tops n trees t) in
    let all : Well (forest.nodes ++ numbered_from n ps) = well-append forest.nodes (numbered_from n ps) (well-of forest h) well in
    record {
      apart = times-apart (forest.nodes ++ numbered_from n ps) (grown-apart n ps forest.nodes h.apart h.below);
      below = all-append (λ x. nat_lt x.number (n + length ps)) forest.nodes (numbered_from n ps) (below-more n (n + length ps) forest.nodes (omega arith) h.below) (numbered-below n (n + length ps) ps (omega arith));
      depths = well-depths (forest.nodes ++ numbered_from n ps) all;
      tops = all-append (λ x. not (is_root x.content) || (x.depth == 0)) forest.nodes (numbered_from n ps) h.tops tops;
      first = well-first (forest.nodes ++ numbered_from n ps) all;
    }

unless-same : {X : Type 0} (o : Option TreeFault) (x y : X) → unless o x ≡ Ok y → x ≡ y
unless-same None x y e = cc e
unless-same (Some fault) x y e = cc e

planted : PlantedTrees
planted l contents_given m forest after h alone e =
    let tree = numbered_from forest.next contents_given in
    let made : Forest = record { nodes = forest.nodes ++ tree; next = forest.next + length contents_given } in
    let is = unless-same (passed_by_tree l tree (forest.nodes ++ tree)) (forest.next, made) (m, after) e in
    let whole : made ≡ after = ap (λ (q : ℕ × Forest). q.1) is in
    let first = numbered_from 0 contents_given in
    subst HasTrees whole (grown-trees forest contents_given first h (numbered-contents 0 contents_given) (to-well first alone.depths alone.first) alone.tops)

-- ---- a tree by itself

moved-top : (from : ℕ) (x : Node) → (not (is_root x.content) || (x.depth == 0)) ≡ true → (not (is_root x.content) || (0 + (x.depth - from) == 0)) ≡ true
moved-top from x h = by (is_root x.content) h
  where
    zero-still : (d : ℕ) → (d == 0) ≡ true → (0 + (d - from) == 0) ≡ true
    zero-still d q = let e : d ≡ 0 = grind (arith, nat_tests, q) in let f : 0 + (d - from) ≡ 0 = omega (arith, e) in grind (arith, nat_tests, f)

    by : (b : Bool) → (not b || (x.depth == 0)) ≡ true → (not b || (0 + (x.depth - from) == 0)) ≡ true
    by true q = zero-still x.depth q
    by false q = refl

tree-tops : (n : ℕ) (xs : List Node) → are_tops xs ≡ true → are_tops (moved_to 0 (tree_of n xs)) ≡ true
tree-tops n xs h =
    all-moved (λ x. not (is_root x.content) || (x.depth == 0)) 0 moved-top (tree_of n xs) (all-tree (λ x. not (is_root x.content) || (x.depth == 0)) n xs h)

length-moved : (to : ℕ) (xs : List Node) → length (contents (moved_to to xs)) ≡ length xs
length-moved to [] = refl
length-moved to (x ∷ xs) = ap suc (rest xs)
  where
    rest : (ys : List Node) → length (contents (map (shifted x.depth to) ys)) ≡ length ys
    rest [] = refl
    rest (y ∷ ys) = ap suc (rest ys)

copied_trees : CopiedTrees
copied_trees l n m forest after h e =
    let tree = tree_of n forest.nodes in
    let nodes = forest.nodes ++ numbered_from forest.next (contents_in tree) in
    let is = unless-same (passed_by_all l nodes) (forest.next, record { nodes = nodes; next = forest.next + length tree }) (m, after) e in
    let whole : record { nodes = nodes; next = forest.next + length tree } ≡ after = ap (λ (q : ℕ × Forest). q.1) is in
    let grown = grown-trees forest (contents_in tree) (moved_to 0 tree) h refl (tree-well n forest.nodes (well-links forest.nodes (well-of forest h))) (tree-tops n forest.nodes h.tops) in
    subst HasTrees whole (subst (λ k. HasTrees (record { nodes = nodes; next = forest.next + k })) (length-moved 0 tree) grown)

detached_trees : DetachedTrees
detached_trees n forest h =
    let rest = without_tree n forest.nodes in
    let tree = tree_of n forest.nodes in
    let all : Well (rest ++ moved_to 0 tree) = well-append rest (moved_to 0 tree) (without-well n forest.nodes (well-of forest h)) (tree-well n forest.nodes (well-links forest.nodes (well-of forest h))) in
    record {
      apart = times-apart (rest ++ moved_to 0 tree) (λ k.
          let sum = times-append k rest (moved_to 0 tree) in
          let same = times-moved k 0 tree in
          let parts = times-parts k n forest.nodes in
          let most = apart-times forest.nodes h.apart k in omega (arith, sum, same, parts, most));
      below = all-append (λ x. nat_lt x.number forest.next) rest (moved_to 0 tree) (all-without (λ x. nat_lt x.number forest.next) n forest.nodes h.below)
          (all-moved (λ x. nat_lt x.number forest.next) 0 (λ from x q. q) tree (all-tree (λ x. nat_lt x.number forest.next) n forest.nodes h.below));
      depths = well-depths (rest ++ moved_to 0 tree) all;
      tops = all-append (λ x. not (is_root x.content) || (x.depth == 0)) rest (moved_to 0 tree) (all-without (λ x. not (is_root x.content) || (x.depth == 0)) n forest.nodes h.tops) (tree-tops n forest.nodes h.tops);
      first = well-first (rest ++ moved_to 0 tree) all;
    }

-- ---- the detached trees are dropped

linked-in : (x : Node) (xs : List Node) → Linked x xs → Linked x (in_instances xs)
linked-in x [] h = tt
linked-in x (y ∷ ys) h = by (is_detached_top y) (linked-in y ys h.1)
  where
    by : (b : Bool) → Linked y (in_instances ys) → Linked x (cond b [] (y ∷ in_instances ys))
    by true rest = tt
    by false rest = (h.0, rest)

well-in : (xs : List Node) → Well xs → Well (in_instances xs)
well-in [] h = tt
well-in (x ∷ xs) h = by (is_detached_top x) (linked-in x xs h.1)
  where
    by : (b : Bool) → Linked x (in_instances xs) → Well (cond b [] (x ∷ in_instances xs))
    by true rest = tt
    by false rest = (h.0, rest)

times-in : (k : ℕ) (xs : List Node) → times k (in_instances xs) ≤ times k xs
times-in k [] = omega arith
times-in k (x ∷ xs) = by (is_detached_top x) (times-in k xs)
  where
    by : (b : Bool) → times k (in_instances xs) ≤ times k xs → times k (cond b [] (x ∷ in_instances xs)) ≤ cond (x.number == k) 1 0 + times k xs
    by true rest = omega arith
    by false rest = omega (arith, rest)

all-in : (test : Node → Bool) (xs : List Node) → list_all test xs ≡ true → list_all test (in_instances xs) ≡ true
all-in test [] h = refl
all-in test (x ∷ xs) h = by (is_detached_top x) (all-in test xs parts.1)
  where
    parts : (test x ≡ true) × (list_all test xs ≡ true)
    parts = and-true (test x) (list_all test xs) h

    by : (b : Bool) → list_all test (in_instances xs) ≡ true → list_all test (cond b [] (x ∷ in_instances xs)) ≡ true
    by true rest = refl
    by false rest = both-true (test x) (list_all test (in_instances xs)) parts.0 rest

dropped : DroppedTrees
dropped forest h =
    let all = well-in forest.nodes (well-of forest h) in
    record {
      apart = times-apart (in_instances forest.nodes) (λ k. let fewer = times-in k forest.nodes in let most = apart-times forest.nodes h.apart k in omega (arith, fewer, most));
      below = all-in (λ x. nat_lt x.number forest.next) forest.nodes h.below;
      depths = well-depths (in_instances forest.nodes) all;
      tops = all-in (λ x. not (is_root x.content) || (x.depth == 0)) forest.nodes h.tops;
      first = well-first (in_instances forest.nodes) all;
    }

pub tree_laws : TreeLaws
tree_laws = record { detached = detached_trees; dropped = dropped; planted = planted; copied = copied_trees }

-- Each change of a forest goes with a renumbering of its nodes.
use Rattle.std.proofs.Common.{◌≡◌, ℕ, zero, suc, ◌+◌, ◌==◌, Bool, true, false, not, cond, ◌&&◌, ◌||◌, List, [], ◌∷◌, ◌++◌, map, nat_lt, if◌then◌else◌, Option, Some, None, option_map, Result, Ok, Err, refl, sym, ap, ◌∙◌}
use Rattle.std.specs.Prelude.{count_by}
use Rattle.std.specs.List.{prefix_len, fold}
use Rattle.std.proofs.lemmas.List.{map-append}
use Rattle.xf_def_forest.specs.declared.content.Node.{Node}
use Rattle.xf_def_forest.specs.declared.content.Content.{Content}
use Rattle.xf_def_forest.specs.declared.fault.TreeFault.{TreeFault}
use Rattle.xf_def_forest.specs.declared.fault.TreeFault.TheVariants.{Depth}
use Rattle.xf_def_forest.specs.Forest.{Forest, is_attribute, is_element, is_root, content_at, node_at, from_node, below, past, first_tree, tree_of}
use Rattle.xf_def_forest.specs.Visit.{Visit, visits, has, ancestors_of, parent_of, children_of, attributes_of}
use Rattle.xf_def_forest.specs.Limits.{Limits, node_count, size_of, all_size, is_too_deep, unless}
use Rattle.xf_def_forest.specs.Plant.{is_less, written_of}
use Rattle.xf_def_forest.specs.Changes.{shifted, moved_to, without_tree, is_detached_top, in_instances, in_detached, root_of, place_among, place_in, with_place, standing, detached, with_child, with_attribute, with_part, with_below, elements_above, placed, is_lesser, place_of, attached}
use Rattle.xf_def_forest.specs.Same.{IsRenumbering, renumbered, renumbered_visit}
use Rattle.xf_def_forest.proofs.RenumberLaws.{map-cond, first-renumbered, any-through, visits-renumbered, ancestors-renumbered, parent_of-renumbered, children_of-renumbered, attributes_of-renumbered, has-renumbered}

-- the forest with other numbers
abbrev pub renumbered_forest : (ℕ → ℕ) → ℕ → Forest → Forest
renumbered_forest f next forest = record { nodes = map (renumbered f) forest.nodes; next = next }

abbrev pub result_map : {X Y : Type 0} → (X → Y) → Result X TreeFault → Result Y TreeFault
result_map g (Ok x) = Ok (g x)
result_map g (Err fault) = Err fault

module _ (f : ℕ → ℕ) (same : IsRenumbering f) where
  abbrev r : Node → Node
  r = renumbered f

  -- ---- parts of the list

  from_node-renumbered : (n : ℕ) (xs : List Node) → from_node (f n) (map (renumbered f) xs) ≡ map (renumbered f) (from_node n xs)
  from_node-renumbered n [] = refl
  from_node-renumbered n (x ∷ xs) =
      ap (λ b. cond b (map (renumbered f) (x ∷ xs)) (from_node (f n) (map (renumbered f) xs))) (same x.number n)
      ∙ ap (cond (x.number == n) (map (renumbered f) (x ∷ xs))) (from_node-renumbered n xs)
      ∙ sym (map-cond (map (renumbered f)) (x.number == n) (x ∷ xs) (from_node n xs))

  pub below-renumbered : (d : ℕ) (xs : List Node) → below d (map (renumbered f) xs) ≡ map (renumbered f) (below d xs)
  below-renumbered d [] = refl
  below-renumbered d (x ∷ xs) =
      ap (λ l. cond (nat_lt d x.depth) (renumbered f x ∷ l) []) (below-renumbered d xs) ∙ sym (map-cond (map (renumbered f)) (nat_lt d x.depth) (x ∷ below d xs) [])

  pub past-renumbered : (d : ℕ) (xs : List Node) → past d (map (renumbered f) xs) ≡ map (renumbered f) (past d xs)
  past-renumbered d [] = refl
  past-renumbered d (x ∷ xs) =
      ap (λ l. cond (nat_lt d x.depth) l (map (renumbered f) (x ∷ xs))) (past-renumbered d xs) ∙ sym (map-cond (map (renumbered f)) (nat_lt d x.depth) (past d xs) (x ∷ xs))

  first_tree-renumbered : (xs : List Node) → first_tree (map (renumbered f) xs) ≡ map (renumbered f) (first_tree xs)
  first_tree-renumbered [] = refl
  first_tree-renumbered (x ∷ xs) = ap (λ l. renumbered f x ∷ l) (below-renumbered x.depth xs)

  pub tree_of-renumbered : (n : ℕ) (xs : List Node) → tree_of (f n) (map (renumbered f) xs) ≡ map (renumbered f) (tree_of n xs)
  tree_of-renumbered n xs = ap first_tree (from_node-renumbered n xs) ∙ first_tree-renumbered (from_node n xs)

  shifted-renumbered : (a b : ℕ) (xs : List Node) → map (shifted a b) (map (renumbered f) xs) ≡ map (renumbered f) (map (shifted a b) xs)
  shifted-renumbered a b [] = refl
  shifted-renumbered a b (x ∷ xs) = ap (λ l. shifted a b (renumbered f x) ∷ l) (shifted-renumbered a b xs)

  pub moved_to-renumbered : (d : ℕ) (xs : List Node) → moved_to d (map (renumbered f) xs) ≡ map (renumbered f) (moved_to d xs)
  moved_to-renumbered d [] = refl
  moved_to-renumbered d (x ∷ xs) = shifted-renumbered x.depth d (x ∷ xs)

  pub without_tree-renumbered : (n : ℕ) (xs : List Node) → without_tree (f n) (map (renumbered f) xs) ≡ map (renumbered f) (without_tree n xs)
  without_tree-renumbered n [] = refl
  without_tree-renumbered n (x ∷ xs) =
      ap (λ b. cond b (past x.depth (map (renumbered f) xs)) (renumbered f x ∷ without_tree (f n) (map (renumbered f) xs))) (same x.number n)
      ∙ ap (λ l. cond (x.number == n) l (renumbered f x ∷ without_tree (f n) (map (renumbered f) xs))) (past-renumbered x.depth xs)
      ∙ ap (λ l. cond (x.number == n) (map (renumbered f) (past x.depth xs)) (renumbered f x ∷ l)) (without_tree-renumbered n xs)
      ∙ sym (map-cond (map (renumbered f)) (x.number == n) (past x.depth xs) (x ∷ without_tree n xs))

  pub in_instances-renumbered : (xs : List Node) → in_instances (map (renumbered f) xs) ≡ map (renumbered f) (in_instances xs)
  in_instances-renumbered [] = refl
  in_instances-renumbered (x ∷ xs) =
      ap (λ l. cond (is_detached_top x) [] (renumbered f x ∷ l)) (in_instances-renumbered xs) ∙ sym (map-cond (map (renumbered f)) (is_detached_top x) [] (x ∷ in_instances xs))

  pub in_detached-renumbered : (xs : List Node) → in_detached (map (renumbered f) xs) ≡ map (renumbered f) (in_detached xs)
  in_detached-renumbered [] = refl
  in_detached-renumbered (x ∷ xs) =
      ap (cond (is_detached_top x) (map (renumbered f) (x ∷ xs))) (in_detached-renumbered xs) ∙ sym (map-cond (map (renumbered f)) (is_detached_top x) (x ∷ xs) (in_detached xs))

  pub root_of-renumbered : (place : ℕ) (xs : List Node) → root_of place (map (renumbered f) xs) ≡ option_map f (root_of place xs)
  root_of-renumbered place [] = refl
  root_of-renumbered zero (x ∷ xs) =
      ap (cond (is_root x.content) (Some (f x.number))) (root_of-renumbered zero xs) ∙ sym (map-cond (option_map f) (is_root x.content) (Some x.number) (root_of zero xs))
  root_of-renumbered (suc place) (x ∷ xs) =
      ap (λ l. cond (is_root x.content) l (root_of (suc place) (map (renumbered f) xs))) (root_of-renumbered place xs)
      ∙ ap (cond (is_root x.content) (option_map f (root_of place xs))) (root_of-renumbered (suc place) xs)
      ∙ sym (map-cond (option_map f) (is_root x.content) (root_of place xs) (root_of (suc place) xs))

  -- ---- detach

  pub detached-renumbered : (n next : ℕ) (forest : Forest) → detached (f n) (renumbered_forest f next forest) ≡ renumbered_forest f next (detached n forest)
  detached-renumbered n next forest =
      ap (λ l. record { nodes = l; next = next })
      (ap (λ l. l ++ moved_to 0 (tree_of (f n) (map (renumbered f) forest.nodes))) (without_tree-renumbered n forest.nodes)
      ∙ ap (λ l. map (renumbered f) (without_tree n forest.nodes) ++ l) (ap (moved_to 0) (tree_of-renumbered n forest.nodes) ∙ moved_to-renumbered 0 (tree_of n forest.nodes))
      ∙ sym (map-append (renumbered f) (without_tree n forest.nodes) (moved_to 0 (tree_of n forest.nodes))))

  place_among-renumbered : (n : ℕ) (ns : List ℕ) → place_among (f n) (map f ns) ≡ place_among n ns
  place_among-renumbered n [] = refl
  place_among-renumbered n (m ∷ ms) =
      ap (λ b. cond (not b) (1 + prefix_len (λ k. not (k == f n)) (map f ms)) 0) (same m n)
      ∙ ap (λ k. cond (not (m == n)) (1 + k) 0) (place_among-renumbered n ms)

  place_in-renumbered : (all : List Visit) (n p : ℕ) → place_in (map (renumbered_visit f) all) (f n) (f p) ≡ place_in all n p
  place_in-renumbered all n p =
      ap (λ l. cond (has (f n) l) (place_among (f n) l) (place_among (f n) (children_of (f p) (map (renumbered_visit f) all)))) (attributes_of-renumbered f same p all)
      ∙ ap (λ l. cond (has (f n) (map f (attributes_of p all))) (place_among (f n) (map f (attributes_of p all))) (place_among (f n) l)) (children_of-renumbered f same p all)
      ∙ ap (λ b. cond b (place_among (f n) (map f (attributes_of p all))) (place_among (f n) (map f (children_of p all)))) (has-renumbered f same n (attributes_of p all))
      ∙ ap (λ k. cond (has n (attributes_of p all)) k (place_among (f n) (map f (children_of p all)))) (place_among-renumbered n (attributes_of p all))
      ∙ ap (cond (has n (attributes_of p all)) (place_among n (attributes_of p all))) (place_among-renumbered n (children_of p all))

  pub standing-renumbered : (n : ℕ) (nodes : List Node) → standing (f n) (map (renumbered f) nodes) ≡ option_map (λ p. (f p.0, p.1)) (standing n nodes)
  standing-renumbered n nodes =
      ap (λ all. with_place all (f n) (parent_of (f n) all)) (visits-renumbered f same nodes)
      ∙ ap (with_place (map (renumbered_visit f) (visits nodes)) (f n)) (parent_of-renumbered f same n (visits nodes))
      ∙ by (parent_of n (visits nodes))
    where
      by : (p : Option ℕ) → with_place (map (renumbered_visit f) (visits nodes)) (f n) (option_map f p) ≡ option_map (λ (q : ℕ × ℕ). (f q.0, q.1)) (with_place (visits nodes) n p)
      by None = refl
      by (Some p) = ap (λ k. Some (f p, k)) (place_in-renumbered (visits nodes) n p)

  -- ---- attach

  with_child-renumbered : (d place : ℕ) (tree xs : List Node) → with_child d place (map (renumbered f) tree) (map (renumbered f) xs) ≡ map (renumbered f) (with_child d place tree xs)
  with_child-renumbered d place tree [] = refl
  with_child-renumbered d zero tree (y ∷ ys) =
      ap (λ l. cond (nat_lt y.depth d) (map (renumbered f) tree ++ map (renumbered f) (y ∷ ys)) (cond (nat_lt d y.depth || is_attribute y.content) (renumbered f y ∷ l) (map (renumbered f) tree ++ map (renumbered f) (y ∷ ys)))) (with_child-renumbered d zero tree ys)
      ∙ ap (λ l. cond (nat_lt y.depth d) l (cond (nat_lt d y.depth || is_attribute y.content) (renumbered f y ∷ map (renumbered f) (with_child d zero tree ys)) l)) (sym (map-append (renumbered f) tree (y ∷ ys)))
      ∙ ap (cond (nat_lt y.depth d) (map (renumbered f) (tree ++ y ∷ ys))) (sym (map-cond (map (renumbered f)) (nat_lt d y.depth || is_attribute y.content) (y ∷ with_child d zero tree ys) (tree ++ y ∷ ys)))
      ∙ sym (map-cond (map (renumbered f)) (nat_lt y.depth d) (tree ++ y ∷ ys) (cond (nat_lt d y.depth || is_attribute y.content) (y ∷ with_child d zero tree ys) (tree ++ y ∷ ys)))
  with_child-renumbered d (suc place) tree (y ∷ ys) =
      ap (λ l. cond (nat_lt y.depth d) (map (renumbered f) tree ++ map (renumbered f) (y ∷ ys)) (cond (nat_lt d y.depth || is_attribute y.content) (renumbered f y ∷ l) (renumbered f y ∷ with_child d place (map (renumbered f) tree) (map (renumbered f) ys)))) (with_child-renumbered d (suc place) tree ys)
      ∙ ap (λ l. cond (nat_lt y.depth d) (map (renumbered f) tree ++ map (renumbered f) (y ∷ ys)) (cond (nat_lt d y.depth || is_attribute y.content) (renumbered f y ∷ map (renumbered f) (with_child d (suc place) tree ys)) (renumbered f y ∷ l))) (with_child-renumbered d place tree ys)
      ∙ ap (λ l. cond (nat_lt y.depth d) l (cond (nat_lt d y.depth || is_attribute y.content) (map (renumbered f) (y ∷ with_child d (suc place) tree ys)) (map (renumbered f) (y ∷ with_child d place tree ys)))) (sym (map-append (renumbered f) tree (y ∷ ys)))
      ∙ ap (cond (nat_lt y.depth d) (map (renumbered f) (tree ++ y ∷ ys))) (sym (map-cond (map (renumbered f)) (nat_lt d y.depth || is_attribute y.content) (y ∷ with_child d (suc place) tree ys) (y ∷ with_child d place tree ys)))
      ∙ sym (map-cond (map (renumbered f)) (nat_lt y.depth d) (tree ++ y ∷ ys) (cond (nat_lt d y.depth || is_attribute y.content) (y ∷ with_child d (suc place) tree ys) (y ∷ with_child d place tree ys)))

  with_attribute-renumbered : (d place : ℕ) (tree xs : List Node) → with_attribute d place (map (renumbered f) tree) (map (renumbered f) xs) ≡ map (renumbered f) (with_attribute d place tree xs)
  with_attribute-renumbered d place tree [] = refl
  with_attribute-renumbered d zero tree (y ∷ ys) =
      let first = (y.depth == d) && is_attribute y.content in
      ap (λ l. cond first l l) (sym (map-append (renumbered f) tree (y ∷ ys))) ∙ sym (map-cond (map (renumbered f)) first (tree ++ y ∷ ys) (tree ++ y ∷ ys))
  with_attribute-renumbered d (suc place) tree (y ∷ ys) =
      let first = (y.depth == d) && is_attribute y.content in
      ap (λ l. cond first (renumbered f y ∷ l) (map (renumbered f) tree ++ map (renumbered f) (y ∷ ys))) (with_attribute-renumbered d place tree ys)
      ∙ ap (cond first (map (renumbered f) (y ∷ with_attribute d place tree ys))) (sym (map-append (renumbered f) tree (y ∷ ys)))
      ∙ sym (map-cond (map (renumbered f)) first (y ∷ with_attribute d place tree ys) (tree ++ y ∷ ys))

  with_part-renumbered : (d place : ℕ) (tree xs : List Node) → with_part d place (map (renumbered f) tree) (map (renumbered f) xs) ≡ map (renumbered f) (with_part d place tree xs)
  with_part-renumbered d place [] xs = refl
  with_part-renumbered d place (t ∷ ts) xs =
      ap (λ l. cond (is_attribute t.content) (with_attribute d place l (map (renumbered f) xs)) (with_child d place l (map (renumbered f) xs))) (moved_to-renumbered d (t ∷ ts))
      ∙ ap (λ l. cond (is_attribute t.content) l (with_child d place (map (renumbered f) (moved_to d (t ∷ ts))) (map (renumbered f) xs))) (with_attribute-renumbered d place (moved_to d (t ∷ ts)) xs)
      ∙ ap (cond (is_attribute t.content) (map (renumbered f) (with_attribute d place (moved_to d (t ∷ ts)) xs))) (with_child-renumbered d place (moved_to d (t ∷ ts)) xs)
      ∙ sym (map-cond (map (renumbered f)) (is_attribute t.content) (with_attribute d place (moved_to d (t ∷ ts)) xs) (with_child d place (moved_to d (t ∷ ts)) xs))

  with_below-renumbered : (p place : ℕ) (tree xs : List Node) → with_below (f p) place (map (renumbered f) tree) (map (renumbered f) xs) ≡ map (renumbered f) (with_below p place tree xs)
  with_below-renumbered p place tree [] = refl
  with_below-renumbered p place tree (x ∷ xs) =
      ap (λ b. cond b (renumbered f x ∷ with_part (suc x.depth) place (map (renumbered f) tree) (map (renumbered f) xs)) (renumbered f x ∷ with_below (f p) place (map (renumbered f) tree) (map (renumbered f) xs))) (same x.number p)
      ∙ ap (λ l. cond (x.number == p) (renumbered f x ∷ l) (renumbered f x ∷ with_below (f p) place (map (renumbered f) tree) (map (renumbered f) xs))) (with_part-renumbered (suc x.depth) place tree xs)
      ∙ ap (λ l. cond (x.number == p) (map (renumbered f) (x ∷ with_part (suc x.depth) place tree xs)) (renumbered f x ∷ l)) (with_below-renumbered p place tree xs)
      ∙ sym (map-cond (map (renumbered f)) (x.number == p) (x ∷ with_part (suc x.depth) place tree xs) (x ∷ with_below p place tree xs))

  pub placed-renumbered : (n p place next : ℕ) (forest : Forest) → placed (f n) (f p) place (renumbered_forest f next forest) ≡ renumbered_forest f next (placed n p place forest)
  placed-renumbered n p place next forest =
      ap (λ l. record { nodes = l; next = next })
      (ap (λ l. with_below (f p) place l (without_tree (f n) (map (renumbered f) forest.nodes))) (tree_of-renumbered n forest.nodes)
      ∙ ap (with_below (f p) place (map (renumbered f) (tree_of n forest.nodes))) (without_tree-renumbered n forest.nodes)
      ∙ with_below-renumbered p place (tree_of n forest.nodes) (without_tree n forest.nodes))

  -- ---- limits

  counted : {X Y : Type 0} (g : X → Y) (p : Y → ℕ) (q : X → ℕ) → ((x : X) → p (g x) ≡ q x) → (from : ℕ) (xs : List X) → fold (λ a y. a + p y) from (map g xs) ≡ fold (λ a x. a + q x) from xs
  counted g p q h from [] = refl
  counted g p q h from (x ∷ xs) = ap (λ k. fold (λ a y. a + p y) (from + k) (map g xs)) (h x) ∙ counted g p q h (from + q x) xs

  pub node_count-renumbered : (xs : List Node) → node_count (map (renumbered f) xs) ≡ node_count xs
  node_count-renumbered xs = counted (renumbered f) (λ x. cond (not (is_root x.content)) 1 0) (λ x. cond (not (is_root x.content)) 1 0) (λ x. refl) 0 xs

  pub all_size-renumbered : (xs : List Node) → all_size (map (renumbered f) xs) ≡ all_size xs
  all_size-renumbered xs = counted (renumbered f) (λ x. size_of x.content) (λ x. size_of x.content) (λ x. refl) 0 xs

  too_deep-renumbered : (limit above : ℕ) (tree : List Node) → is_too_deep limit above (map (renumbered f) tree) ≡ is_too_deep limit above tree
  too_deep-renumbered limit above tree = any-through (renumbered f) (λ x. is_element x.content && nat_lt limit (above + suc x.depth)) (λ x. is_element x.content && nat_lt limit (above + suc x.depth)) (λ x. refl) tree

  elements_above-renumbered : (p : ℕ) (all : List Visit) → elements_above (f p) (map (renumbered_visit f) all) ≡ elements_above p all
  elements_above-renumbered p all =
      ap (λ ns. count_by (λ (x : Visit). is_element x.content && has x.number (f p ∷ ns)) (map (renumbered_visit f) all)) (ancestors-renumbered f same p all)
      ∙ counted (renumbered_visit f) (λ x. cond (is_element x.content && has x.number (map f (p ∷ ancestors_of p all))) 1 0) (λ x. cond (is_element x.content && has x.number (p ∷ ancestors_of p all)) 1 0)
      (λ x. ap (λ b. cond (is_element x.content && b) 1 0) (has-renumbered f same x.number (p ∷ ancestors_of p all))) 0 all

  content_at-renumbered : (n : ℕ) (nodes : List Node) → content_at (f n) (map (renumbered f) nodes) ≡ content_at n nodes
  content_at-renumbered n [] = refl
  content_at-renumbered n (x ∷ xs) =
      ap (λ b. option_map (λ (y : Node). y.content) (cond b (Some (renumbered f x)) (node_at (f n) (map (renumbered f) xs)))) (same x.number n) ∙ by (x.number == n) (content_at-renumbered n xs)
    where
      by : (b : Bool) → content_at (f n) (map (renumbered f) xs) ≡ content_at n xs
          → option_map (λ (y : Node). y.content) (cond b (Some (renumbered f x)) (node_at (f n) (map (renumbered f) xs))) ≡ option_map (λ (y : Node). y.content) (cond b (Some x) (node_at n xs))
      by true later = refl
      by false later = later

  place_of-renumbered : (p place : ℕ) (all : List Visit) (content : Option Content) → place_of (f p) place (map (renumbered_visit f) all) content ≡ place_of p place all content
  place_of-renumbered p place all None = refl
  place_of-renumbered p place all (Some c) =
      ap (λ k. cond (is_attribute c) k place)
      (counted (renumbered_visit f) (λ x. cond (is_lesser (f p) c x) 1 0) (λ x. cond (is_lesser p c x) 1 0)
      (λ x. ap (λ b. cond (b && is_attribute x.content && is_less (written_of x.content) (written_of c)) 1 0) (first-renumbered f same p x.above)) 0 all)

  pub attached-renumbered : (l : Limits) (n p place next : ℕ) (forest : Forest)
      → attached l (f n) (f p) place (renumbered_forest f next forest) ≡ result_map (renumbered_forest f next) (attached l n p place forest)
  attached-renumbered l n p place next forest =
      let all = visits forest.nodes in
      let deep = is_too_deep l.depth (elements_above p all) (tree_of n forest.nodes) in
      let at = place_of p place all (content_at n forest.nodes) in
      let there = place_of (f p) place (visits (map (renumbered f) forest.nodes)) (content_at (f n) (map (renumbered f) forest.nodes)) in
      ap (λ k. unless (if is_too_deep l.depth k (tree_of (f n) (map (renumbered f) forest.nodes)) then Some Depth else None) (placed (f n) (f p) there (renumbered_forest f next forest)))
      (ap (elements_above (f p)) (visits-renumbered f same forest.nodes) ∙ elements_above-renumbered p all)
      ∙ ap (λ b. unless (if b then Some Depth else None) (placed (f n) (f p) there (renumbered_forest f next forest)))
      (ap (is_too_deep l.depth (elements_above p all)) (tree_of-renumbered n forest.nodes) ∙ too_deep-renumbered l.depth (elements_above p all) (tree_of n forest.nodes))
      ∙ ap (λ k. unless (if deep then Some Depth else None) (placed (f n) (f p) k (renumbered_forest f next forest)))
      (ap (λ v. place_of (f p) place v (content_at (f n) (map (renumbered f) forest.nodes))) (visits-renumbered f same forest.nodes)
      ∙ ap (place_of (f p) place (map (renumbered_visit f) all)) (content_at-renumbered n forest.nodes) ∙ place_of-renumbered p place all (content_at n forest.nodes))
      ∙ ap (unless (if deep then Some Depth else None)) (placed-renumbered n p at next forest) ∙ by deep at
    where
      by : (b : Bool) (at : ℕ) → unless (if b then Some Depth else None) (renumbered_forest f next (placed n p at forest)) ≡ result_map (renumbered_forest f next) (unless (if b then Some Depth else None) (placed n p at forest))
      by true at = refl
      by false at = refl

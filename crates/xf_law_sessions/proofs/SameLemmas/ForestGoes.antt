-- What the machine asks of a forest goes with a renumbering: limits of new nodes, the instance and the model of a node, texts that stand.
use Rattle.std.proofs.Common.{◌≡◌, ℕ, suc, ◌+◌, ◌==◌, Bool, not, cond, ◌&&◌, ◌||◌, List, [], ◌∷◌, ◌++◌, map, length, nat_lt, bytes_eq, Option, Some, None, option_map, refl, ap, ◌∙◌, if◌then◌else◌}
use Rattle.std.specs.Prelude.{fold, option_and_then}
use Rattle.std.specs.List.{list_any}
use Rattle.xf_def_forest.specs.declared.content.Node.{Node}
use Rattle.xf_def_forest.specs.declared.content.Content.{Content}
use Rattle.xf_def_forest.specs.declared.fault.TreeFault.{TreeFault}
use Rattle.xf_def_forest.specs.declared.fault.TreeFault.TheVariants.{Nodes, NodeText, AllText, Depth}
use Rattle.xf_def_forest.specs.Forest.{is_root, is_element, own_text}
use Rattle.xf_def_forest.specs.Limits.{Limits, node_count, all_size, size_of, has_long_text, is_too_deep, passed_by_all, passed_by_text, passed_by_tree}
use Rattle.xf_def_forest.specs.Plant.{numbered_from}
use Rattle.xf_def_forest.specs.Order.{instance_of}
use Rattle.xf_def_forest.specs.Same.{IsRenumbering, renumbered, renumbered_visit}
use Rattle.xf_def_forest.specs.StringValue.{string_value}
use Rattle.xf_def_forest.specs.Visit.{top_of, children_of}
use Rattle.xf_def_forest.proofs.RenumberLaws.{visits-renumbered, top_of-renumbered, children_of-renumbered, string_value-renumbered}
use Rattle.xf_def_forest.proofs.RenumberChanges.{node_count-renumbered, all_size-renumbered}
use Rattle.xf_def_machine.specs.State.{State}
use Rattle.xf_def_machine.specs.Surround.{all_in, instance_holding, model_of_instance, model_holding}
use Rattle.xf_def_machine.specs.Primitives.{is_other_text}
use Rattle.xf_law_sessions.specs.Same.Going.{image}

pub map-length : {A B : Type 0} (g : A → B) (xs : List A) → length (map g xs) ≡ length xs
map-length g [] = refl
map-length g (x ∷ xs) = ap suc (map-length g xs)

-- ---- measures of contents: numbers do not count

counted : (measure : Content → ℕ) (a b : ℕ) (cs : List (ℕ × Content)) (sum : ℕ)
    → fold (λ (n : ℕ) (x : Node). n + measure x.content) sum (numbered_from a cs) ≡ fold (λ (n : ℕ) (x : Node). n + measure x.content) sum (numbered_from b cs)
counted measure a b [] sum = refl
counted measure a b (c ∷ cs) sum = counted measure (suc a) (suc b) cs (sum + measure c.1)

counted-behind : (measure : Content → ℕ) (f : ℕ → ℕ) (a b : ℕ) (cs : List (ℕ × Content)) (sum : ℕ) (xs : List Node)
    → fold (λ (n : ℕ) (x : Node). n + measure x.content) sum (map (renumbered f) xs ++ numbered_from b cs) ≡ fold (λ (n : ℕ) (x : Node). n + measure x.content) sum (xs ++ numbered_from a cs)
counted-behind measure f a b cs sum [] = counted measure b a cs sum
counted-behind measure f a b cs sum (x ∷ xs) = counted-behind measure f a b cs (sum + measure x.content) xs

pub count-behind : (f : ℕ → ℕ) (a b : ℕ) (cs : List (ℕ × Content)) (xs : List Node) → node_count (map (renumbered f) xs ++ numbered_from b cs) ≡ node_count (xs ++ numbered_from a cs)
count-behind f a b cs xs = counted-behind (λ c. cond (not (is_root c)) 1 0) f a b cs 0 xs

pub size-behind : (f : ℕ → ℕ) (a b : ℕ) (cs : List (ℕ × Content)) (xs : List Node) → all_size (map (renumbered f) xs ++ numbered_from b cs) ≡ all_size (xs ++ numbered_from a cs)
size-behind f a b cs xs = counted-behind size_of f a b cs 0 xs

any-numbered : (test : ℕ → Content → Bool) (a b : ℕ) (cs : List (ℕ × Content))
    → list_any (λ (x : Node). test x.depth x.content) (numbered_from a cs) ≡ list_any (λ (x : Node). test x.depth x.content) (numbered_from b cs)
any-numbered test a b [] = refl
any-numbered test a b (c ∷ cs) = ap (λ r. test c.0 c.1 || r) (any-numbered test (suc a) (suc b) cs)

-- ---- limits

abbrev by_all : Limits → ℕ → ℕ → Option TreeFault
by_all l count size = if nat_lt l.nodes count then Some Nodes else if nat_lt l.all size then Some AllText else None

abbrev by_text : Limits → ℕ → ℕ → ℕ → Option TreeFault
by_text l text count size = if nat_lt l.nodes count then Some Nodes else if nat_lt l.text text then Some NodeText else if nat_lt l.all size then Some AllText else None

abbrev by_tree : Limits → ℕ → Bool → ℕ → Bool → Option TreeFault
by_tree l count long size deep = if nat_lt l.nodes count then Some Nodes else if long then Some NodeText else if nat_lt l.all size then Some AllText else if deep then Some Depth else None

pub all-behind : (l : Limits) (f : ℕ → ℕ) (a b : ℕ) (cs : List (ℕ × Content)) (xs : List Node)
    → passed_by_all l (map (renumbered f) xs ++ numbered_from b cs) ≡ passed_by_all l (xs ++ numbered_from a cs)
all-behind l f a b cs xs =
    ap (λ n. by_all l n (all_size (map (renumbered f) xs ++ numbered_from b cs))) (count-behind f a b cs xs)
    ∙ ap (by_all l (node_count (xs ++ numbered_from a cs))) (size-behind f a b cs xs)

pub tree-behind : (l : Limits) (f : ℕ → ℕ) (a b : ℕ) (cs : List (ℕ × Content)) (xs : List Node)
    → passed_by_tree l (numbered_from b cs) (map (renumbered f) xs ++ numbered_from b cs) ≡ passed_by_tree l (numbered_from a cs) (xs ++ numbered_from a cs)
tree-behind l f a b cs xs =
    let long = has_long_text l.text (numbered_from b cs) in
    let deep = is_too_deep l.depth 0 (numbered_from b cs) in
    let size = all_size (map (renumbered f) xs ++ numbered_from b cs) in
    ap (λ n. by_tree l n long size deep) (count-behind f a b cs xs)
    ∙ ap (λ t. by_tree l (node_count (xs ++ numbered_from a cs)) t size deep) (any-numbered (λ d c. nat_lt l.text (length (own_text c))) b a cs)
    ∙ ap (λ n. by_tree l (node_count (xs ++ numbered_from a cs)) (has_long_text l.text (numbered_from a cs)) n deep) (size-behind f a b cs xs)
    ∙ ap (by_tree l (node_count (xs ++ numbered_from a cs)) (has_long_text l.text (numbered_from a cs)) (all_size (xs ++ numbered_from a cs)))
    (any-numbered (λ d c. is_element c && nat_lt l.depth (0 + suc d)) b a cs)

pub text-passed : (l : Limits) (f : ℕ → ℕ) (same : IsRenumbering f) (size : ℕ) (xs : List Node) → passed_by_text l size (map (renumbered f) xs) ≡ passed_by_text l size xs
text-passed l f same size xs =
    ap (λ n. by_text l size n (all_size (map (renumbered f) xs))) (node_count-renumbered f same xs) ∙ ap (by_text l size (node_count xs)) (all_size-renumbered f same xs)

-- ---- where a node stands

module _ (f : ℕ → ℕ) (same : IsRenumbering f) where
  instance-goes : (n : ℕ) (xs : List Node) → instance_of (f n) (map (renumbered f) xs) ≡ instance_of n xs
  instance-goes n [] = refl
  instance-goes n (x ∷ xs) =
      ap (λ b. if is_root x.content then if b then Some 0 else option_map suc (instance_of (f n) (map (renumbered f) xs)) else instance_of (f n) (map (renumbered f) xs)) (same x.number n)
      ∙ ap (λ o. if is_root x.content then if x.number == n then Some 0 else option_map suc o else o) (instance-goes n xs)

  pub holding-goes : (second : ℕ) (s : State) (n : ℕ) → instance_holding (image f second s) (f n) ≡ instance_holding s n
  holding-goes second s n =
      ap (λ all. instance_of (top_of (f n) all) (map (renumbered f) s.forest.nodes)) (visits-renumbered f same s.forest.nodes)
      ∙ ap (λ top. instance_of top (map (renumbered f) s.forest.nodes)) (top_of-renumbered f same n (all_in s))
      ∙ instance-goes (top_of n (all_in s)) s.forest.nodes

  pub model-goes : (second : ℕ) (s : State) (n : ℕ) → model_holding (image f second s) (f n) ≡ model_holding s n
  model-goes second s n = ap (option_and_then (model_of_instance s)) (holding-goes second s n)

  pub other-goes : (second : ℕ) (s : State) (n : ℕ) (text : List ℕ) → is_other_text (image f second s) (f n) text ≡ is_other_text s n text
  other-goes second s n text =
      ap (λ all. not (bytes_eq (string_value (f n) all) text) || nat_lt 1 (length (children_of (f n) all))) (visits-renumbered f same s.forest.nodes)
      ∙ ap (λ value. not (bytes_eq value text) || nat_lt 1 (length (children_of (f n) (map (renumbered_visit f) (all_in s))))) (string_value-renumbered f same n (all_in s))
      ∙ ap (λ ns. not (bytes_eq (string_value n (all_in s)) text) || nat_lt 1 (length ns)) (children_of-renumbered f same n (all_in s))
      ∙ ap (λ k. not (bytes_eq (string_value n (all_in s)) text) || nat_lt 1 k) (map-length f (children_of n (all_in s)))

-- What a snapshot that is within the limits gives of its parts, and how bytes go on.
use Rattle.std.proofs.Common.{◌≡◌, ◌≤◌, ◌<◌, ℕ, suc, ◌+◌, ◌-◌, ◌^◌, All, List, [], ◌∷◌, ◌++◌, length, take, refl, sym, ◌∙◌, ap, arith, append_assoc}
use Rattle.std.specs.Prelude.{Bool, true, ◌&&◌, nat_lt, nat_le, sum_by}
use Rattle.std.specs.List.{flat_map, list_all, AllByRecursion}
use Rattle.std.proofs.lemmas.Bool.{leb-true, and_parts, and_from}
use Rattle.std.proofs.lemmas.List.Elements.{All-from_recursion}
use Rattle.std.proofs.lemmas.List.Sums.{sum_by-cons}
use Rattle.xf_def_forest.specs.declared.bare.Bare.{Bare}
use Rattle.xf_def_forest.specs.declared.bare.BareElement.{BareElement}
use Rattle.xf_def_forest.specs.declared.bare.BareAttribute.{BareAttribute}
use Rattle.xf_snap.specs.Within.{is_fit_name, is_fit_attribute, is_fit, is_fit_part, tree_nodes, element_nodes}
use Rattle.xf_snap.proofs.SeveralLemmas.{all_each, each_in, each_within}
use Rattle.xf_snap.proofs.TreeLemmas.{fit-out, nodes-out}
use Rattle.xf_snap.proofs.AgainLemmas.{has_node}

-- each of a list passes where all do
pub all_pass : {X : Type 0} (p : X → Bool) (xs : List X) → list_all p xs ≡ true → All (λ x. p x ≡ true) xs
all_pass p xs all = All-from_recursion (λ x. p x ≡ true) xs (all_each p xs all)

-- no tree has more nodes than all
pub all_few : (xs : List Bare) → sum_by tree_nodes xs ≤ 65536 → All (λ t. tree_nodes t ≤ 65536) xs
all_few xs few = All-from_recursion (λ t. tree_nodes t ≤ 65536) xs (each_in (λ t. tree_nodes t < 65537) (λ t. tree_nodes t ≤ 65536) xs (λ t h. omega (arith, h)) (each_within tree_nodes 65537 xs (omega (arith, few))))

-- ---- an element

pub record Parts (e : BareElement) (depth : ℕ) : Type 0 where
  pub some : 0 < depth
  pub name : is_fit_name e.name ≡ true
  pub attributes : list_all is_fit_attribute e.attributes ≡ true
  pub children : All (λ t. is_fit t (depth - 1) ≡ true) e.children

pub parts_of : (e : BareElement) (depth : ℕ) → is_fit_part e depth ≡ true → Parts e depth
parts_of e depth is =
    let all = and_parts (nat_lt 0 depth && is_fit_name e.name && list_all is_fit_attribute e.attributes) (list_all (λ child. is_fit child (depth - 1)) e.children) (sym (fit-out e depth) ∙ is) in
    let front = and_parts (nat_lt 0 depth && is_fit_name e.name) (list_all is_fit_attribute e.attributes) all.0 in
    let first = and_parts (nat_lt 0 depth) (is_fit_name e.name) front.0 in
    record {
      some = leb-true 1 depth first.0;
      name = first.1;
      attributes = front.1;
      children = all_pass (λ t. is_fit t (depth - 1)) e.children all.1;
    }

each_counts : (xs : List Bare) → length xs ≤ sum_by tree_nodes xs
each_counts [] = omega arith
each_counts (x ∷ xs) = omega (arith, sum_by-cons tree_nodes x xs, has_node x, each_counts xs)

pub record Counts (e : BareElement) : Type 0 where
  pub attributes : length e.attributes < 2 ^ 16
  pub children : length e.children < 2 ^ 32
  pub each : All (λ t. tree_nodes t ≤ 65536) e.children

pub counts_of : (e : BareElement) → element_nodes e ≤ 65536 → Counts e
counts_of e few =
    let nodes = nodes-out e in
    record {
      attributes = omega (arith, nodes, few);
      children = omega (arith, nodes, few, each_counts e.children);
      each = all_few e.children (omega (arith, nodes, few));
    }

-- A node that may be cut off stands in the data, and so does the parent below which a tree may come.
use Rattle.std.proofs.Common.{◌≡◌, ℕ, ◌==◌, Bool, true, false, cond, ◌||◌, List, [], ◌∷◌, Some, option_map, refl, ◌⊎◌, inl, inr}
use Rattle.xf_def_forest.specs.declared.content.Kind.{Kind}
use Rattle.xf_def_forest.specs.declared.content.Kind.TheVariants as kind
use Rattle.xf_def_forest.specs.declared.content.Node.{Node}
use Rattle.xf_def_forest.specs.Forest.{Forest, IsLive, has_number, kind_at, kind_of, node_at}
use Rattle.xf_def_forest.specs.Needs.{MayAttach, MayDetach, MayStand, as_attribute, in_element, in_root}
use Rattle.xf_def_xpath.proofs.VisitFacts.{none-some}

of-kind : (n : ℕ) (xs : List Node) (k : Kind) → kind_at n xs ≡ Some k → has_number n xs ≡ true
of-kind n [] k e = none-some e
of-kind n (x ∷ xs) k e = by (x.number == n) e (of-kind n xs k)
  where
    by : (b : Bool) → option_map kind_of (option_map (λ (y : Node). y.content) (cond b (Some x) (node_at n xs))) ≡ Some k → (kind_at n xs ≡ Some k → has_number n xs ≡ true) → (b || has_number n xs) ≡ true
    by true i f = refl
    by false i f = f i

stands-below : (n parent place : ℕ) (forest : Forest) → MayStand n parent place forest → IsLive parent forest
stands-below n parent place forest (in_element own above fits) = of-kind parent forest.nodes kind.Element above
stands-below n parent place forest (in_root own above none first) = of-kind parent forest.nodes kind.Root above
stands-below n parent place forest (as_attribute own above lacks) = of-kind parent forest.nodes kind.Element above

-- the parent to which a tree may come
pub come-live : (n parent place : ℕ) (forest : Forest) → MayAttach n parent place forest → IsLive parent forest
come-live n parent place forest may = stands-below n parent place forest may.stands

-- a node that may be cut off
pub go-live : (n : ℕ) (forest : Forest) → MayDetach n forest → IsLive n forest
go-live n forest may = by may.kind
  where
    by : (kind_at n forest.nodes ≡ Some kind.Element) ⊎ (kind_at n forest.nodes ≡ Some kind.Attribute) → IsLive n forest
    by (inl e) = of-kind n forest.nodes kind.Element e
    by (inr e) = of-kind n forest.nodes kind.Attribute e

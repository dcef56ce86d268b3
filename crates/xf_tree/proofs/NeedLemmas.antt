-- What the needs of a change say of the nodes that it names.
use Rattle.std.proofs.Common.{◌≡◌, ℕ, ◌==◌, ◌&&◌, ◌⊎◌, Bool, true, false, List, [], ◌∷◌, Option, Some, None, option_map, inl, inr, refl, sym, ap, ◌∙◌}
use Rattle.std.proofs.lemmas.Bool.{cases_Bool, false≢true}
use Rattle.std.specs.List.{list_any}
use Rattle.xf_def_forest.specs.declared.content.Node.{Node}
use Rattle.xf_def_forest.specs.declared.content.Content.{Content}
use Rattle.xf_def_forest.specs.declared.content.Content.TheVariants.{Root, Element, Attribute, Text}
use Rattle.xf_def_forest.specs.declared.content.Kind.{Kind}
use Rattle.xf_def_forest.specs.declared.content.Kind.TheVariants as kind
use Rattle.xf_def_forest.specs.Forest.{Forest, is_root, is_attribute, kind_of, kind_at, node_at, has_number}
use Rattle.xf_def_forest.specs.Needs.{MayAttach, MayStand, MayPlace, in_element, in_root, as_attribute, goes_below}
use Rattle.xf_tree_walks.specs.Leaves.{is_leaf}
use Rattle.xf_tree_walks.proofs.StackLemmas.{absent-parts}

-- what is said of a node that is not there
pub none-named : (n : ℕ) (p : Node → Bool) (nodes : List Node) → has_number n nodes ≡ false → list_any (λ (y : Node). (y.number == n) && p y) nodes ≡ true → ⊥
none-named n p [] h may = false≢true may
none-named n p (z ∷ zs) h may = let q = absent-parts n z zs h in none-named n p zs q.1 (rw q.0 at may)

absent-node : (n : ℕ) (nodes : List Node) → has_number n nodes ≡ false → node_at n nodes ≡ None
absent-node n [] h = refl
absent-node n (z ∷ zs) h = let q = absent-parts n z zs h in rw q.0 (absent-node n zs q.1)

pub none-kind : (n : ℕ) (k : Kind) (nodes : List Node) → has_number n nodes ≡ false → kind_at n nodes ≡ Some k → ⊥
none-kind n k nodes h e = nothing (sym (ap (λ o. option_map kind_of (option_map (λ (x : Node). x.content) o)) (absent-node n nodes h)) ∙ e)
  where
    nothing : ◌≡◌ {A = Option Kind} None (Some k) → ⊥
    nothing e = cc

-- what comes below a node is an element or an attribute, and that node is an element or a root
pub node-kind : (a b : Option Kind) → goes_below a b ≡ true → (a ≡ Some kind.Element) ⊎ (a ≡ Some kind.Attribute)
node-kind None b e = absurd (false≢true e)
node-kind (Some kind.Root) b e = absurd (false≢true e)
node-kind (Some kind.Element) b e = inl refl
node-kind (Some kind.Attribute) b e = inr refl
node-kind (Some kind.Text) b e = absurd (false≢true e)

pub parent-kind : (a b : Option Kind) → goes_below a b ≡ true → (b ≡ Some kind.Element) ⊎ (b ≡ Some kind.Root)
parent-kind (Some kind.Element) (Some kind.Element) e = inl refl
parent-kind (Some kind.Element) (Some kind.Root) e = inr refl
parent-kind (Some kind.Attribute) (Some kind.Element) e = inl refl
parent-kind None b e = absurd (false≢true e)
parent-kind (Some kind.Root) b e = absurd (false≢true e)
parent-kind (Some kind.Text) b e = absurd (false≢true e)
parent-kind (Some kind.Element) None e = absurd (false≢true e)
parent-kind (Some kind.Element) (Some kind.Attribute) e = absurd (false≢true e)
parent-kind (Some kind.Element) (Some kind.Text) e = absurd (false≢true e)
parent-kind (Some kind.Attribute) None e = absurd (false≢true e)
parent-kind (Some kind.Attribute) (Some kind.Root) e = absurd (false≢true e)
parent-kind (Some kind.Attribute) (Some kind.Attribute) e = absurd (false≢true e)
parent-kind (Some kind.Attribute) (Some kind.Text) e = absurd (false≢true e)

-- an attribute comes below an element
pub attribute-parent : (b : Option Kind) → goes_below (Some kind.Attribute) b ≡ true → b ≡ Some kind.Element
attribute-parent None e = absurd (false≢true e)
attribute-parent (Some kind.Root) e = absurd (false≢true e)
attribute-parent (Some kind.Element) e = refl
attribute-parent (Some kind.Attribute) e = absurd (false≢true e)
attribute-parent (Some kind.Text) e = absurd (false≢true e)

-- what may be attached may be placed
pub attach-place : (n m place : ℕ) (forest : Forest) → MayAttach n m place forest → MayPlace n m forest
attach-place n m place forest may = record { detached = may.detached; outside = may.outside; kinds = kinds may.stands }
  where
    kinds : MayStand n m place forest → goes_below (kind_at n forest.nodes) (kind_at m forest.nodes) ≡ true
    kinds (in_element a b e) = rw (a, b) refl
    kinds (in_root a b e g) = rw (a, b) refl
    kinds (as_attribute a b e) = rw (a, b) refl

pub attribute-kind : (c : Content) → is_attribute c ≡ true → kind_of c ≡ kind.Attribute
attribute-kind Root is = absurd (false≢true is)
attribute-kind (Element name) is = absurd (false≢true is)
attribute-kind (Attribute name text) is = refl
attribute-kind (Text text) is = absurd (false≢true is)

pub no-root_content : (c : Content) → (Some (kind_of c) ≡ Some kind.Element) ⊎ (Some (kind_of c) ≡ Some kind.Attribute) → is_root c ≡ false
no-root_content Root e = absurd (elim e [ inl x ↦ cc x | inr x ↦ cc x ])
no-root_content (Element name) e = refl
no-root_content (Attribute name text) e = refl
no-root_content (Text text) e = refl

pub no-leaf_content : (c : Content) → (Some (kind_of c) ≡ Some kind.Element) ⊎ (Some (kind_of c) ≡ Some kind.Root) → is_leaf c ≡ false
no-leaf_content Root e = refl
no-leaf_content (Element name) e = refl
no-leaf_content (Attribute name text) e = absurd (elim e [ inl x ↦ cc x | inr x ↦ cc x ])
no-leaf_content (Text text) e = absurd (elim e [ inl x ↦ cc x | inr x ↦ cc x ])

-- both are there
pub node-live : (n m : ℕ) (forest : Forest) → MayPlace n m forest → has_number n forest.nodes ≡ true
node-live n m forest may = elim (cases_Bool (has_number n forest.nodes)) [
  | inl e ↦ e
  | inr e ↦ absurd (none-named n (λ (x : Node). x.depth == 0) forest.nodes e may.detached)
]

pub parent-live : (n m : ℕ) (forest : Forest) → MayPlace n m forest → has_number m forest.nodes ≡ true
parent-live n m forest may = elim (cases_Bool (has_number m forest.nodes)) [
  | inl e ↦ e
  | inr e ↦ absurd (elim (parent-kind (kind_at n forest.nodes) (kind_at m forest.nodes) may.kinds) [ inl k ↦ none-kind m kind.Element forest.nodes e k | inr k ↦ none-kind m kind.Root forest.nodes e k ])
]

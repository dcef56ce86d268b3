-- What a node has from its parent: that it is relevant, and that it is readonly.
use Rattle.std.proofs.Common.{◌≡◌, ℕ, Bool, true, false, ◌&&◌, ◌||◌, List, Some, None, refl, ap, ◌∙◌}
use Rattle.std.specs.List.{list_all, list_any}
use Rattle.xf_def_forest.specs.declared.content.Node.{Node}
use Rattle.xf_def_forest.specs.Forest.{has_number}
use Rattle.xf_def_forest.specs.Visit.{visits, parent_of}
use Rattle.xf_def_forest.specs.WellFormed.{are_apart}
use Rattle.xf_def_model.specs.declared.property.Property.TheVariants.{Relevant}
use Rattle.xf_def_model.specs.Properties.{own, own_readonly}
use Rattle.xf_binds.specs.Kept.{Kept, values_in}
use Rattle.xf_valid.specs.Nodes.{relevant_in, readonly_in}
use Rattle.xf_valid.proofs.Chains.{parent-chain, no-parent}

pub relevant-up : (table : List Kept) (nodes : List Node) (n p : ℕ) → are_apart nodes ≡ true → has_number n nodes ≡ true → parent_of n (visits nodes) ≡ Some p
    → relevant_in table nodes n ≡ (own (values_in table) Relevant true n && relevant_in table nodes p)
relevant-up table nodes n p a h e = ap (λ ns. own (values_in table) Relevant true n && list_all (own (values_in table) Relevant true) ns) (parent-chain nodes n p a h e)

pub relevant-top : (table : List Kept) (nodes : List Node) (n : ℕ) → parent_of n (visits nodes) ≡ None → relevant_in table nodes n ≡ own (values_in table) Relevant true n
relevant-top table nodes n e =
    ap (λ ns. own (values_in table) Relevant true n && list_all (own (values_in table) Relevant true) ns) (no-parent (visits nodes) n e) ∙ and-true (own (values_in table) Relevant true n)
  where
    and-true : (b : Bool) → (b && true) ≡ b
    and-true true = refl
    and-true false = refl

pub readonly-up : (table : List Kept) (nodes : List Node) (n p : ℕ) → are_apart nodes ≡ true → has_number n nodes ≡ true → parent_of n (visits nodes) ≡ Some p
    → readonly_in table nodes n ≡ (own_readonly (values_in table) n || readonly_in table nodes p)
readonly-up table nodes n p a h e = ap (λ ns. own_readonly (values_in table) n || list_any (own_readonly (values_in table)) ns) (parent-chain nodes n p a h e)

pub readonly-top : (table : List Kept) (nodes : List Node) (n : ℕ) → parent_of n (visits nodes) ≡ None → readonly_in table nodes n ≡ own_readonly (values_in table) n
readonly-top table nodes n e =
    ap (λ ns. own_readonly (values_in table) n || list_any (own_readonly (values_in table)) ns) (no-parent (visits nodes) n e) ∙ or-false (own_readonly (values_in table) n)
  where
    or-false : (b : Bool) → (b || false) ≡ b
    or-false true = refl
    or-false false = refl

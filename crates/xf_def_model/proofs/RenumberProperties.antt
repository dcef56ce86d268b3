-- Model item properties go with a renumbering of the nodes.
use Rattle.std.proofs.Common.{◌≡◌, ℕ, Bool, true, false, ◌&&◌, List, [], ◌∷◌, map, find, Option, Some, None, option_map, refl, ap, ◌∙◌}
use Rattle.std.specs.Prelude.{option_and_then, slice_get}
use Rattle.std.specs.List.{list_any, list_all}
use Rattle.xf_def_forest.specs.Visit.{Visit, ancestors_of}
use Rattle.xf_def_forest.specs.Same.{IsRenumbering, renumbered_visit}
use Rattle.xf_def_forest.proofs.RenumberLaws.{find-through, any-through, ancestors-renumbered, string_value-renumbered}
use Rattle.xf_def_xpath.specs.declared.value.Value.{Value}
use Rattle.xf_def_xpath.specs.Same.{renumbered_value}
use Rattle.xf_def_xpath.proofs.RenumberLaws.{truth-renumbered}
use Rattle.xf_def_model.specs.declared.property.Property.{Property}
use Rattle.xf_def_model.specs.declared.property.Property.TheVariants.{Kind, Calculate, Relevant, Readonly, Required, Constraint}
use Rattle.xf_def_model.specs.Rules.{Rule, Scope}
use Rattle.xf_def_model.specs.Applied.{Entry, is_property}
use Rattle.xf_def_model.specs.Settled.{Valued}
use Rattle.xf_def_model.specs.Properties.{Meets, sets_on, has_own, truth_or, own, own_readonly, is_relevant, is_readonly, is_required, kind_of, is_valid, properties_at}
use Rattle.xf_def_model.specs.Same.{renumbered_entry, renumbered_valued, renumbered_scope}

module _ (f : ℕ → ℕ) (same : IsRenumbering f) where
  sets-renumbered : (n : ℕ) (p : Property) (e : Entry) → sets_on (f n) p (renumbered_entry f e) ≡ sets_on n p e
  sets-renumbered n p e = ap (λ b. b && is_property e.property p) (same e.node n)

  module _ (values : List Valued) where
    abbrev new_values : List Valued
    new_values = map (renumbered_valued f) values

    has_own-renumbered : (p : Property) (n : ℕ) → has_own new_values p (f n) ≡ has_own values p n
    has_own-renumbered p n = any-through (renumbered_valued f) (λ v. sets_on (f n) p v.entry) (λ v. sets_on n p v.entry) (λ v. sets-renumbered n p v.entry) values

    truth-kept : (default : Bool) (v : Option Value) → truth_or default (option_map (renumbered_value f) v) ≡ truth_or default v
    truth-kept default None = refl
    truth-kept default (Some v) = truth-renumbered f v

    found-kept : (default : Bool) (v : Option Valued)
        → truth_or default (option_and_then (λ (x : Valued). x.value) (option_map (renumbered_valued f) v)) ≡ truth_or default (option_and_then (λ (x : Valued). x.value) v)
    found-kept default None = refl
    found-kept default (Some v) = truth-kept default v.value

    own-renumbered : (p : Property) (default : Bool) (n : ℕ) → own new_values p default (f n) ≡ own values p default n
    own-renumbered p default n =
        ap (λ v. truth_or default (option_and_then (λ (x : Valued). x.value) v))
        (find-through (renumbered_valued f) (λ v. sets_on (f n) p v.entry) (λ v. sets_on n p v.entry) (λ v. sets-renumbered n p v.entry) values)
        ∙ found-kept default (find (λ v. sets_on n p v.entry) values)

    readonly-renumbered : (n : ℕ) → own_readonly new_values (f n) ≡ own_readonly values n
    readonly-renumbered n = ap (λ b. own new_values Readonly b (f n)) (has_own-renumbered Calculate n) ∙ own-renumbered Readonly (has_own values Calculate n) n

    all-through : (p q : ℕ → Bool) → ((n : ℕ) → p (f n) ≡ q n) → (ns : List ℕ) → list_all p (map f ns) ≡ list_all q ns
    all-through p q h [] = refl
    all-through p q h (n ∷ ns) = rw (h n, all-through p q h ns) refl

    pub is_relevant-renumbered : (all : List Visit) (n : ℕ) → is_relevant (map (renumbered_visit f) all) new_values (f n) ≡ is_relevant all values n
    is_relevant-renumbered all n =
        ap (λ above. list_all (own new_values Relevant true) (f n ∷ above)) (ancestors-renumbered f same n all)
        ∙ all-through (own new_values Relevant true) (own values Relevant true) (own-renumbered Relevant true) (n ∷ ancestors_of n all)

    pub is_readonly-renumbered : (all : List Visit) (n : ℕ) → is_readonly (map (renumbered_visit f) all) new_values (f n) ≡ is_readonly all values n
    is_readonly-renumbered all n =
        ap (λ above. list_any (own_readonly new_values) (f n ∷ above)) (ancestors-renumbered f same n all)
        ∙ any-through f (own_readonly new_values) (own_readonly values) readonly-renumbered (n ∷ ancestors_of n all)

    pub is_required-renumbered : (n : ℕ) → is_required new_values (f n) ≡ is_required values n
    is_required-renumbered n = own-renumbered Required false n

    kind-of_entry : (scope : Scope) (e : Option Entry)
        → option_and_then (λ (x : Entry). option_and_then (λ (r : Rule). r.kind) (slice_get scope.rules x.bind)) (option_map (renumbered_entry f) e)
        ≡ option_and_then (λ (x : Entry). option_and_then (λ (r : Rule). r.kind) (slice_get scope.rules x.bind)) e
    kind-of_entry scope None = refl
    kind-of_entry scope (Some e) = refl

    kind-renumbered : (scope : Scope) (entries : List Entry) (n : ℕ) → kind_of (renumbered_scope f scope) (map (renumbered_entry f) entries) (f n) ≡ kind_of scope entries n
    kind-renumbered scope entries n =
        ap (option_and_then (λ (x : Entry). option_and_then (λ (r : Rule). r.kind) (slice_get scope.rules x.bind)))
        (find-through (renumbered_entry f) (sets_on (f n) Kind) (sets_on n Kind) (sets-renumbered n Kind) entries)
        ∙ kind-of_entry scope (find (sets_on n Kind) entries)

    pub is_valid-renumbered : (meets : Meets) (scope : Scope) (all : List Visit) (entries : List Entry) (n : ℕ)
        → is_valid meets (renumbered_scope f scope) (map (renumbered_visit f) all) (map (renumbered_entry f) entries) new_values (f n) ≡ is_valid meets scope all entries values n
    is_valid-renumbered meets scope all entries n =
        rw (own-renumbered Constraint true n, is_required-renumbered n, kind-renumbered scope entries n, string_value-renumbered f same n all) refl

    pub properties-renumbered : (meets : Meets) (scope : Scope) (all : List Visit) (entries : List Entry) (n : ℕ)
        → properties_at meets (renumbered_scope f scope) (map (renumbered_visit f) all) (map (renumbered_entry f) entries) new_values (f n) ≡ properties_at meets scope all entries values n
    properties-renumbered meets scope all entries n =
        rw (is_valid-renumbered meets scope all entries n, is_relevant-renumbered all n, is_readonly-renumbered all n, is_required-renumbered n) refl

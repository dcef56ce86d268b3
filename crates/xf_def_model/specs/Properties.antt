-- Model item properties (XForms 1.1, section 6.1), by the values that the entries had at the last recalculation.
use Rattle.std.specs.Prelude.{ℕ, Bool, true, false, not, ◌&&◌, List, ◌∷◌, find, Option, Some, None, option_and_then, slice_get, ◌==◌}
use Rattle.std.specs.List.{list_any, list_all}
use Rattle.xf_num.specs.Written.{is_empty}
use Rattle.xf_schema.specs.declared.written.NamedType.{NamedType}
use Rattle.xf_def_forest.specs.Visit.{Visit, ancestors_of}
use Rattle.xf_def_forest.specs.StringValue.{string_value}
use Rattle.xf_def_xpath.specs.declared.value.Value.{Value}
use Rattle.xf_def_xpath.specs.Conversions.{truth_of}
use Rattle.xf_def_model.specs.declared.property.Property.{Property}
use Rattle.xf_def_model.specs.declared.property.Property.TheVariants.{Kind, Calculate, Relevant, Readonly, Required, Constraint}
use Rattle.xf_def_model.specs.Rules.{Scope}
use Rattle.xf_def_model.specs.Applied.{Entry, is_property}
use Rattle.xf_def_model.specs.Settled.{Valued}

-- whether a text meets a type that is named
abbrev pub Meets : Type 0
Meets = NamedType → List ℕ → Bool

-- ---- of the node itself

abbrev pub sets_on : ℕ → Property → Entry → Bool
sets_on n p e = (e.node == n) && is_property e.property p

-- the node has such an entry
abbrev pub has_own : List Valued → Property → ℕ → Bool
has_own values p n = list_any (λ v. sets_on n p v.entry) values

abbrev pub truth_or : Bool → Option Value → Bool
truth_or default None = default
truth_or default (Some value) = truth_of value

-- the truth that the node's entry has; the default where it has none, or no value yet
abbrev pub own : List Valued → Property → Bool → ℕ → Bool
own values p default n = truth_or default (option_and_then (λ v. v.value) (find (λ v. sets_on n p v.entry) values))

-- a calculate makes its node readonly, unless the node has a readonly entry
abbrev pub own_readonly : List Valued → ℕ → Bool
own_readonly values n = own values Readonly (has_own values Calculate n) n

-- ---- of the node and its ancestors

-- it and all its ancestors are (section 6.1.4)
abbrev pub is_relevant : List Visit → List Valued → ℕ → Bool
is_relevant all values n = list_all (own values Relevant true) (n ∷ ancestors_of n all)

-- it or an ancestor is (section 6.1.2)
abbrev pub is_readonly : List Visit → List Valued → ℕ → Bool
is_readonly all values n = list_any (own_readonly values) (n ∷ ancestors_of n all)

-- not inherited (section 6.1.3)
abbrev pub is_required : List Valued → ℕ → Bool
is_required values n = own values Required false n

-- ---- validity (sections 4.3.3, 6.1.1 and 6.1.6)

abbrev pub kind_of : Scope → List Entry → ℕ → Option NamedType
kind_of scope entries n = option_and_then (λ e. option_and_then (λ r. r.kind) (slice_get scope.rules e.bind)) (find (sets_on n Kind) entries)

abbrev pub meets_kind : Meets → Option NamedType → List ℕ → Bool
meets_kind meets None text = true
meets_kind meets (Some kind) text = meets kind text

abbrev pub is_valid : Meets → Scope → List Visit → List Entry → List Valued → ℕ → Bool
is_valid meets scope all entries values n =
    own values Constraint true n
    && not (is_required values n && is_empty (string_value n all))
    && meets_kind meets (kind_of scope entries n) (string_value n all)

pub record Marks : Type 0 where
  pub relevant : Bool
  pub readonly : Bool
  pub required : Bool
  pub valid : Bool

abbrev pub properties_at : Meets → Scope → List Visit → List Entry → List Valued → ℕ → Marks
properties_at meets scope all entries values n = record {
  relevant = is_relevant all values n;
  readonly = is_readonly all values n;
  required = is_required values n;
  valid = is_valid meets scope all entries values n;
}

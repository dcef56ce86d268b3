-- The faults of an element's names (Namespaces in XML 1.0, sections 4 to 6).
use Rattle.std.specs.Prelude.{ℕ, List, [], ◌∷◌, Bool, false, not, ◌&&◌, ◌||◌, ◌==◌, Option, Some, None, is_some, is_none, Result, Ok, filter_map, if◌then◌else◌}
use Rattle.std.specs.List.{list_any}
use Rattle.std.specs.Str.{bytes_eq}
use Rattle.xf_name.specs.Part.{Kind, no_declaration, of_prefix, kind_of, parts_of, Parts}
use Rattle.xf_name.specs.Bindings.{Bindings, space_number, prefix_numbers, resolved}
use Rattle.xf_name.specs.declared.lit.Pair.{Pair}
use Rattle.xf_name.specs.declared.qname.QName.{QName}
use Rattle.xf_name.specs.declared.fault.NameFault.{NameFault}
use Rattle.xf_name.specs.declared.fault.NameFault.TheVariants.{BadName, PrefixUnknown, PrefixRebound}

abbrev pub is_name : List ℕ → Bool
is_name written = is_some (parts_of written)

abbrev pub expanded_as : Kind → Result QName NameFault → Option (ℕ × List ℕ)
expanded_as no_declaration (Ok name) = Some (name.space, name.local)
expanded_as kind name = None

-- the namespace and local name of an attribute, where it has them: a declaration is no attribute, and one without a prefix has no
-- namespace
abbrev pub expanded : Bindings → Pair → Option (ℕ × List ℕ)
expanded b p = expanded_as (kind_of p.name) (resolved b p.name 0)

abbrev pub is_same_name : ℕ × List ℕ → ℕ × List ℕ → Bool
is_same_name x y = (x.0 == y.0) && bytes_eq x.1 y.1

abbrev pub has_double : List (ℕ × List ℕ) → Bool
has_double [] = false
has_double (x ∷ xs) = list_any (is_same_name x) xs || has_double xs

abbrev pub has_bad_name : Bindings → List ℕ → List Pair → Bool
has_bad_name b name attributes = not (is_name name) || list_any (λ p. not (is_name p.name)) attributes || has_double (filter_map (expanded b) attributes)

abbrev pub is_unknown_prefix : Bindings → Option (List ℕ) → Bool
is_unknown_prefix b None = false
is_unknown_prefix b (Some name) = is_none (prefix_numbers b name)

abbrev pub is_unknown_in : Bindings → Option Parts → Bool
is_unknown_in b None = false
is_unknown_in b (Some parts) = is_unknown_prefix b parts.prefix

-- the name has a prefix that the form does not declare
abbrev pub is_unknown : Bindings → List ℕ → Bool
is_unknown b written = is_unknown_in b (parts_of written)

abbrev pub is_unknown_as : Bindings → Kind → List ℕ → Bool
is_unknown_as b no_declaration written = is_unknown b written
is_unknown_as b kind written = false

-- the prefix has this namespace and no other
abbrev pub is_bound_to : Option (ℕ × ℕ) → Option ℕ → Bool
is_bound_to (Some numbers) (Some space) = numbers.1 == space
is_bound_to numbers space = false

abbrev pub is_rebound_as : Bindings → Kind → List ℕ → Bool
is_rebound_as b (of_prefix name) text = not (is_bound_to (prefix_numbers b name) (space_number b text))
is_rebound_as b kind text = false

-- the first fault of an element: of its names, then of its prefixes
abbrev pub name_fault : Bindings → List ℕ → List Pair → Option NameFault
name_fault b name attributes =
    if has_bad_name b name attributes then Some BadName
    else if is_unknown b name || list_any (λ p. is_unknown_as b (kind_of p.name) p.name) attributes then Some PrefixUnknown
    else if list_any (λ p. is_rebound_as b (kind_of p.name) p.text) attributes then Some PrefixRebound
    else None

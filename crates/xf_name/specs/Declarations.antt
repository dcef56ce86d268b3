-- What a form declares (Namespaces in XML 1.0, sections 3 and 6).
use Rattle.std.specs.Prelude.{ℕ, List, [], ◌∷◌, ◌++◌, length, Bool, ◌&&◌, ◌||◌, nat_lt, is_some, is_none, unwrap_or, if◌then◌else◌}
use Rattle.xf_base.specs.Limits.{namespace_limit, prefix_limit}
use Rattle.xf_name.specs.Part.{Kind, no_declaration, of_default, of_prefix, kind_of, is_part}
use Rattle.xf_name.specs.Bindings.{Bindings, no_bindings, space_number, prefix_numbers}
use Rattle.xf_name.specs.Written.{Written, elements_of}
use Rattle.xf_name.specs.declared.lit.Pair.{Pair}
use Rattle.xf_name.specs.declared.lit.Lit.{Lit}

-- with a namespace, which goes last where it is new; the empty text is none
abbrev pub with_space : Bindings → List ℕ → Bindings
with_space b [] = b
with_space b (c ∷ cs) = if is_some (space_number b (c ∷ cs)) then b else record b { spaces = b.spaces ++ (c ∷ cs) ∷ [] }

-- with a prefix for a namespace that is declared
abbrev pub with_last_prefix : Bindings → List ℕ → List ℕ → Bindings
with_last_prefix b name uri = record b { prefixes = b.prefixes ++ (name, unwrap_or (space_number b uri) 0) ∷ [] }

-- with a prefix, which stays as it is where it is known: the first declaration counts
abbrev pub with_prefix : Bindings → List ℕ → List ℕ → Bindings
with_prefix b name [] = b
with_prefix b name (c ∷ cs) = if is_part name && is_none (prefix_numbers b name) then with_last_prefix (with_space b (c ∷ cs)) name (c ∷ cs) else b

abbrev pub with_kind : Bindings → Kind → List ℕ → Bindings
with_kind b no_declaration text = b
with_kind b of_default text = with_space b text
with_kind b (of_prefix name) text = with_prefix b name text

-- with what the attributes of an element declare, in their order
abbrev pub with_attributes : Bindings → List Pair → Bindings
with_attributes b [] = b
with_attributes b (p ∷ ps) = with_attributes (with_kind b (kind_of p.name) p.text) ps

abbrev pub with_elements : Bindings → List Written → Bindings
with_elements b [] = b
with_elements b (e ∷ es) = with_elements (with_attributes b e.attributes) es

-- all that a form declares
abbrev pub bindings_of : Lit → Bindings
bindings_of form = with_elements no_bindings (elements_of form)

abbrev pub are_too_many : Bindings → Bool
are_too_many b = nat_lt namespace_limit (length b.spaces) || nat_lt prefix_limit (length b.prefixes)

-- The definitions at small names and forms.
use Rattle.std.proofs.Common.{◌≡◌, List, ℕ, [], ◌∷◌, Some, None, Ok, Err, refl}
use Rattle.std.specs.Prelude.{codes, true, false}
use Rattle.xf_name.specs.Part.{at_colon, kind_of, no_declaration, of_default, of_prefix}
use Rattle.xf_name.specs.Bindings.{Bindings, no_bindings, space_number, prefix_numbers, text_of_space, text_of_prefix, resolved_parts, xml_space}
use Rattle.xf_name.specs.Written.{element_walk, default_below}
use Rattle.xf_name.specs.Declarations.{with_space, with_last_prefix}
use Rattle.xf_name.specs.Faults.{has_double, is_rebound_as}
use Rattle.xf_name.specs.declared.fault.NameFault.TheVariants.{PrefixUnknown}

abbrev p : List ℕ
p = codes "p"

abbrev u : List ℕ
u = codes "urn:u"

abbrev d : List ℕ
d = codes "urn:d"

-- a form that first declares a default namespace and then two prefixes, one for it
abbrev tables : Bindings
tables = record { spaces = d ∷ u ∷ []; prefixes = (p, 2) ∷ (codes "q", 1) ∷ [] }

split : at_colon (codes "p:a:b") ≡ Some (p, codes "a:b")
split = refl

default_kind : kind_of (codes "xmlns") ≡ of_default
default_kind = refl

prefix_kind : kind_of (codes "xmlns:p") ≡ of_prefix p
prefix_kind = refl

plain_kind : kind_of (codes "xml:lang") ≡ no_declaration
plain_kind = refl

-- numbers from 1, in the order of declaration
second_space : space_number tables u ≡ Some 2
second_space = refl

xml_is_known : space_number no_bindings xml_space ≡ Some 65535
xml_is_known = refl

nothing_has_no_number : space_number tables [] ≡ None
nothing_has_no_number = refl

first_prefix : prefix_numbers tables p ≡ Some (1, 2)
first_prefix = refl

texts : (text_of_space tables 1 ≡ Some d) × (text_of_space tables 0 ≡ None) × (text_of_space tables 3 ≡ None) × (text_of_prefix tables 2 ≡ Some (codes "q")) × (text_of_prefix tables 65535 ≡ Some (codes "xml"))
texts = (refl, refl, refl, refl, refl)

-- a name without a prefix has the namespace that is asked for
unprefixed : resolved_parts tables 7 (Some (record { prefix = None; local = u })) ≡ Ok (record { space = 7; prefix = 0; local = u })
unprefixed = refl

with_prefix_q : resolved_parts tables 7 (Some (record { prefix = Some (codes "q"); local = u })) ≡ Ok (record { space = 1; prefix = 2; local = u })
with_prefix_q = refl

unknown : resolved_parts tables 7 (Some (record { prefix = Some u; local = u })) ≡ Err PrefixUnknown
unknown = refl

-- a namespace is counted once, and that of XML and the empty one not at all
known_space : (with_space tables u ≡ tables) × (with_space tables xml_space ≡ tables) × (with_space tables [] ≡ tables)
known_space = (refl, refl, refl)

new_prefix : with_last_prefix tables (codes "r") xml_space ≡ record { spaces = d ∷ u ∷ []; prefixes = (p, 2) ∷ (codes "q", 1) ∷ (codes "r", 65535) ∷ [] }
new_prefix = refl

-- the default namespace of an element holds below it
walked : element_walk (record { name = p; attributes = record { name = codes "xmlns"; text = u } ∷ []; children = (λ above depth. record { name = d; attributes = []; default = above; depth = depth } ∷ []) ∷ [] }) d 0
    ≡ record { name = p; attributes = record { name = codes "xmlns"; text = u } ∷ []; default = u; depth = 0 } ∷ record { name = d; attributes = []; default = u; depth = 1 } ∷ []
walked = refl

no_namespace_below : default_below u (record { name = codes "xmlns"; text = [] } ∷ []) ≡ []
no_namespace_below = refl

-- two prefixes of one namespace make one name
double : has_double ((2, p) ∷ (0, p) ∷ (2, p) ∷ []) ≡ true
double = refl

-- a prefix is bound to one namespace, which is not empty
rebound : (is_rebound_as tables (of_prefix p) u ≡ false) × (is_rebound_as tables (of_prefix p) d ≡ true) × (is_rebound_as tables (of_prefix p) [] ≡ true) × (is_rebound_as tables (of_prefix (codes "xml")) u ≡ true)
rebound = (refl, refl, refl, refl)

-- The namespaces and prefixes of a form (Namespaces in XML 1.0, sections 2 and 3), and names under them.
use Rattle.std.specs.Prelude.{ℕ, zero, suc, ◌+◌, List, [], ◌∷◌, ◌==◌, codes, Option, Some, None, option_map, Result, Ok, Err, slice_get, if◌then◌else◌}
use Rattle.std.specs.List.{position_from}
use Rattle.std.specs.Str.{bytes_eq}
use Rattle.xf_name.specs.Part.{Parts, parts_of}
use Rattle.xf_name.specs.declared.qname.QName.{QName}
use Rattle.xf_name.specs.declared.fault.NameFault.{NameFault}
use Rattle.xf_name.specs.declared.fault.NameFault.TheVariants.{BadName, PrefixUnknown}

-- the namespaces but that of XML, and the prefixes but `xml`, each with the number of its namespace; both in the order in which the
-- form first declares them, so that their places are their numbers, counted from 1
pub record Bindings : Type 0 where
  pub spaces : List (List ℕ)
  pub prefixes : List (List ℕ × ℕ)

abbrev pub no_bindings : Bindings
no_bindings = record { spaces = []; prefixes = [] }

-- the prefix `xml`, its namespace, and the number of both
abbrev pub xml_prefix : List ℕ
xml_prefix = codes "xml"

abbrev pub xml_space : List ℕ
xml_space = codes "http://www.w3.org/XML/1998/namespace"

abbrev pub xml_number : ℕ
xml_number = 65535

-- the number of a namespace
abbrev pub space_number : Bindings → List ℕ → Option ℕ
space_number b uri = if bytes_eq uri xml_space then Some xml_number else position_from (bytes_eq uri) 1 b.spaces

-- the numbers of a prefix and of its namespace, where the first of the pairs has the number n
abbrev pub numbers_from : ℕ → List (List ℕ × ℕ) → List ℕ → Option (ℕ × ℕ)
numbers_from n [] prefix = None
numbers_from n (p ∷ ps) prefix = if bytes_eq prefix p.0 then Some (n, p.1) else numbers_from (n + 1) ps prefix

abbrev pub prefix_numbers : Bindings → List ℕ → Option (ℕ × ℕ)
prefix_numbers b prefix = if bytes_eq prefix xml_prefix then Some (xml_number, xml_number) else numbers_from 1 b.prefixes prefix

-- the item with a number, counted from 1: 0 is none
abbrev pub numbered : {X : Type 0} → List X → ℕ → Option X
numbered xs zero = None
numbered xs (suc i) = slice_get xs i

abbrev pub text_of_space : Bindings → ℕ → Option (List ℕ)
text_of_space b number = if number == xml_number then Some xml_space else numbered b.spaces number

abbrev pub text_of_prefix : Bindings → ℕ → Option (List ℕ)
text_of_prefix b number = if number == xml_number then Some xml_prefix else option_map (λ p. p.0) (numbered b.prefixes number)

-- the number of the namespace of the prefix with a number
abbrev pub space_of_prefix : Bindings → ℕ → Option ℕ
space_of_prefix b number = if number == xml_number then Some xml_number else option_map (λ p. p.1) (numbered b.prefixes number)

abbrev pub prefixed : List ℕ → Option (ℕ × ℕ) → Result QName NameFault
prefixed local None = Err PrefixUnknown
prefixed local (Some numbers) = Ok (record { space = numbers.1; prefix = numbers.0; local = local })

abbrev pub resolved_by : Bindings → ℕ → Option (List ℕ) → List ℕ → Result QName NameFault
resolved_by b space None local = Ok (record { space = space; prefix = 0; local = local })
resolved_by b space (Some prefix) local = prefixed local (prefix_numbers b prefix)

abbrev pub resolved_parts : Bindings → ℕ → Option Parts → Result QName NameFault
resolved_parts b space None = Err BadName
resolved_parts b space (Some parts) = resolved_by b space parts.prefix parts.local

-- what a written name means, where one without a prefix has the given namespace
abbrev pub resolved : Bindings → List ℕ → ℕ → Result QName NameFault
resolved b written space = resolved_parts b space (parts_of written)

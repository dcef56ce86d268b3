-- Names as they are resolved.
use Rattle.std.specs.Prelude.{Bool, false, ◌&&◌, Option, Some, ◌==◌, bytes_eq}
use Rattle.xf_name.specs.declared.qname.QName.{QName}

-- there are two, in the same namespace and with the same local part
abbrev pub are_same : Option QName → Option QName → Bool
are_same (Some a) (Some b) = (a.space == b.space) && bytes_eq a.local b.local
are_same a b = false

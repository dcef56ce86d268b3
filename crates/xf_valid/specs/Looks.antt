-- Which properties no entry sets, and what may still change from those above a node.
use Rattle.std.specs.Prelude.{ℕ, ◌≡◌, Bool, not, ◌&&◌, ◌||◌, List, None}
use Rattle.std.specs.Bool.{OnFalse}
use Rattle.xf_def_model.specs.declared.property.Property.{Property}
use Rattle.xf_def_model.specs.declared.property.Property.TheVariants.{Calculate, Relevant, Readonly}
use Rattle.xf_binds.specs.Kept.{Kept}
use Rattle.xf_binds.specs.Table.{truth_among}
use Rattle.xf_valid.specs.declared.above.Looks.{Looks}
use Rattle.xf_valid.specs.declared.above.Inherited.{Inherited}

-- no node has such an entry
abbrev pub IsUnset : List Kept → Property → Type 0
IsUnset table p = (n : ℕ) → truth_among table p n ≡ None

-- one that is not looked for is set on no node
abbrev pub AreLooks : List Kept → Looks → Type 0
AreLooks table l = (OnFalse l.relevant (IsUnset table Relevant)) × (OnFalse l.readonly (IsUnset table Readonly)) × (OnFalse l.calculate (IsUnset table Calculate))

-- a node above that is not relevant, or that is readonly, would change it
abbrev pub is_open : Looks → Inherited → Bool
is_open l i = (l.relevant && i.relevant) || ((l.readonly || l.calculate) && not i.readonly)

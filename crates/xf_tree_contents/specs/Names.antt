-- The names of a forest's nodes, each under the number of its place.
use Rattle.std.specs.Prelude.{◌≡◌, ℕ, ◌-◌, ◌^◌, Bool, List, Option, Some, None, option_map, slice_get, length, min, nat_eq}
use Rattle.std.specs.Cmp.Lexicographic.{pointwise}
use Rattle.std.specs.Ordering.{on, eq_of_both}
use Rattle.xf_def_forest.specs.declared.content.Name.{Name}
use Rattle.xf_tree_contents.specs.declared.names.Known.{Known}

-- the names, and how many more fit with no allocation
pub record NameTable : Type 0 where
  pub names : List Known
  pub room : ℕ

-- both have the same numbers, the same local part, and the same prefix as it is written
abbrev pub same_known : Known → Known → Bool
same_known =
    eq_of_both (on (λ k. k.name.meaning.space) nat_eq)
    (eq_of_both (on (λ k. k.name.meaning.prefix) nat_eq)
    (eq_of_both (on (λ k. k.name.meaning.local) (pointwise nat_eq)) (on (λ k. k.name.prefix) (pointwise nat_eq))))

-- every number keeps its name
abbrev pub KeepsNames : List Known → List Known → Type 0
KeepsNames old new = (n : ℕ) (k : Known) → slice_get old n ≡ Some k → slice_get new n ≡ Some k

-- how many more names fit, by the room of a set and by the numbers that are left
abbrev pub room_of : List Known → ℕ → ℕ
room_of names spare = min spare (2 ^ 32 - length names)

-- the name with a number, where there is one
abbrev pub named : List Known → Option ℕ → Option Name
named names None = None
named names (Some n) = option_map (λ k. k.name) (slice_get names n)

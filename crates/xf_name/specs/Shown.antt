-- What names need of the elements of a form: of each its written name and its attributes.
use Rattle.std.specs.Prelude.{◌≡◌, ℕ, List, [], ◌∷◌, ◌++◌, map, flat_map}
use denote.Ref.{Bor}
use Rattle.xf_name.specs.Bindings.{Bindings}
use Rattle.xf_name.specs.Written.{Written, Walk, walk_of}
use Rattle.xf_name.specs.Declarations.{with_attributes}
use Rattle.xf_name.specs.declared.lit.Pair.{Pair}
use Rattle.xf_name.specs.declared.lit.Lit.{Lit}
use Rattle.xf_name.specs.declared.lit.LitElement.{LitElement}

abbrev pub Shown : Type 0
Shown = List ℕ × List Pair

abbrev pub shown : Written → Shown
shown e = (e.name, e.attributes)

abbrev pub shown_by : Bor LitElement → Shown
shown_by e = (e.now.name, e.now.attributes)

-- the elements of a walk have come behind those that stood, from wherever it starts
abbrev pub ShowsWalk : List (Bor LitElement) → List (Bor LitElement) → Walk → Type 0
ShowsWalk old new walk = (above : List ℕ) (depth : ℕ) → map shown_by new ≡ map shown_by old ++ map shown (walk above depth)

abbrev pub walk_of_all : List Lit → Walk
walk_of_all xs above depth = flat_map (λ x. walk_of x above depth) xs

-- what elements declare
abbrev pub with_shown : Bindings → List Shown → Bindings
with_shown b [] = b
with_shown b (e ∷ es) = with_shown (with_attributes b e.1) es

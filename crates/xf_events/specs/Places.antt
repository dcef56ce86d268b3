-- The instances of a model, by their places.
use Rattle.std.specs.Prelude.{ℕ, List, map, ◌==◌}
use Rattle.std.specs.Prelude.{filter}
use Rattle.xf_def_syntax.specs.declared.form.Instance.{Instance}
use Rattle.xf_def_syntax.specs.Ordered.{numbered_from}

-- of instances of which the first has this place
abbrev pub places_of : ℕ → ℕ → List Instance → List ℕ
places_of model place is = map (λ i. i.0) (filter (λ i. i.1.model == model) (numbered_from place is))

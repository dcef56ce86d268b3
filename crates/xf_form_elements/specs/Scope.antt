-- The model in scope at an element (XForms 1.1, section 3.2.3), from the root of the form down: each element names one by its bind or by
-- `model`, or keeps that of the element around. At the root it is the first.
use Rattle.std.specs.Prelude.{ℕ, List, [], ◌∷◌}
use Rattle.xf_def_ui.specs.Interface.{Interface}
use Rattle.xf_def_ui.specs.Elements.{element_at, path_to}
use Rattle.xf_def_ui.specs.Context.{scope_of}

-- after each of these
abbrev pub model_along : Interface → List ℕ → ℕ → ℕ
model_along f [] outer = outer
model_along f (n ∷ ns) outer = model_along f ns (scope_of f outer (element_at f n))

abbrev pub model_at : Interface → ℕ → ℕ
model_at f n = scope_of f (model_along f (path_to f n) 0) (element_at f n)

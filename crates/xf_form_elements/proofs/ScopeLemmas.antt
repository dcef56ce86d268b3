-- The model in scope, one element more.
use Rattle.std.proofs.Common.{◌≡◌, ℕ, suc, List, [], ◌∷◌, ◌++◌, reverse, Some, refl, ap, ◌∙◌}
use Rattle.xf_def_ui.specs.Interface.{Interface}
use Rattle.xf_def_ui.specs.Elements.{above, element_at}
use Rattle.xf_def_ui.specs.Context.{scope_of}
use Rattle.xf_form_elements.specs.Scope.{model_along}
use Rattle.xf_form_elements.proofs.AroundLemmas.{reverse-above}

along-last : (f : Interface) (ns : List ℕ) (n outer : ℕ) → model_along f (ns ++ n ∷ []) outer ≡ scope_of f (model_along f ns outer) (element_at f n)
along-last f [] n outer = refl
along-last f (m ∷ ns) n outer = along-last f ns n (scope_of f outer (element_at f m))

pub along-more : (f : Interface) (most k n : ℕ) → most ≡ suc k
    → model_along f (reverse (above most f (Some n))) 0 ≡ scope_of f (model_along f (reverse (above k f (element_at f n).parent)) 0) (element_at f n)
along-more f most k n h =
    ap (λ ns. model_along f ns 0) (reverse-above f most k n h) ∙ along-last f (reverse (above k f (element_at f n).parent)) n 0

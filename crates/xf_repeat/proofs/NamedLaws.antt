-- Rows that numbers name: too few numbers name none.
use Rattle.std.proofs.Common.{◌≡◌, ℕ, ◌<◌, List, [], ◌∷◌, length, Some, None, refl, arith}
use Rattle.xf_def_ui.specs.Around.{Around}
use Rattle.xf_def_ui.specs.Interface.{Interface}
use Rattle.xf_def_ui.specs.Named.{named_from}

pub no-number : (f : Interface) (a : Around) (chain rs ks : List ℕ) → 0 < length rs → length ks ≡ 0 → named_from f a chain rs ks ≡ Some None
no-number f a chain [] ks l e = absurd (omega (arith, l))
no-number f a chain (r ∷ rs) [] l e = refl
no-number f a chain (r ∷ rs) (k ∷ ks) l e = absurd (omega (arith, e))

-- The node sets of binds that were read, and are static, are fixed.
use Rattle.std.proofs.Common.{◌≡◌, Bool, true, false, ◌&&◌, List, [], ◌∷◌, refl}
use Rattle.std.specs.List.{list_all}
use Rattle.xf_def_syntax.specs.declared.form.Bind.{Bind}
use Rattle.xf_eval_shape.specs.Fixed.{is_fixed}
use Rattle.xf_law_static.proofs.CoveredLemmas.ReaderLaw.{read_as_made}
use Rattle.xf_law_static.specs.Fixed.Laws.{BindsFixed}
use Rattle.xf_law_static.proofs.FixedLemmas.FixedLaw.{static_fixed}

both : (a b : Bool) → a ≡ true → b ≡ true → (a && b) ≡ true
both true b h k = k
both false b h k = h

pub binds_fixed : BindsFixed
binds_fixed d b [] h = refl
binds_fixed d b (bind ∷ binds) h =
    both (is_fixed bind.node_set) (list_all (λ (x : Bind). is_fixed x.node_set) binds) (static_fixed bind.node_set (read_as_made d b h.0.0 bind.node_set h.0.1) h.0.2) (binds_fixed d b binds h.1)

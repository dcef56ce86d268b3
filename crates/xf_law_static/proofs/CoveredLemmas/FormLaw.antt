-- The calculates of a form that were read, and are static, are covered by the law of two forests.
use Rattle.std.proofs.Common.{◌≡◌, ℕ, true, Option, Some, None, refl}
use Rattle.xf_def_syntax.specs.declared.expr.Expr.{Expr}
use Rattle.xf_def_syntax.specs.declared.form.Bind.{Bind}
use Rattle.xf_name.specs.Bindings.{Bindings}
use Rattle.xf_def_model.proofs.EachLemmas.{each_then}
use Rattle.xf_law_recalculation.specs.Agree.FormSettles.{calculate_covered}
use Rattle.xf_law_static.specs.Covered.AsRead.{IsReadStatic, FormCovered}
use Rattle.xf_law_static.proofs.CoveredLemmas.StaticLaw.{static_covered}
use Rattle.xf_law_static.proofs.CoveredLemmas.ReaderLaw.{read_as_made}

calculate-covered : (d : ℕ) (b : Bindings) (o : Option Expr) → IsReadStatic d b o → calculate_covered o ≡ true
calculate-covered d b None h = refl
calculate-covered d b (Some expr) h = static_covered expr (read_as_made d b h.0 expr h.1) h.2

pub form_covered : FormCovered
form_covered d b tables h = each_then (λ (bind : Bind). IsReadStatic d b bind.properties.calculate) (λ (bind : Bind). calculate_covered bind.properties.calculate ≡ true) (λ bind read. calculate-covered d b bind.properties.calculate read) tables.binds h

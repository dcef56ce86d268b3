use Rattle.std.proofs.Common.{◌≡◌, ℕ, length, get_or, ap, ◌∙◌, arith}
use Rattle.std.specs.Prelude.{min}
use Rattle.xf_report.specs.Named.{numbers_of}
use Rattle.xf_report.proofs.NamedLemmas.{number-is, numbers-length}
use Rattle.xf_report.proofs.names.number_of.Goals as goal

pub bounds-numbers-at : goal.bounds-numbers-at
bounds-numbers-at c = omega (arith, numbers-length 1 c.args.form.now.elements, ap length c.requires, ap length c.as_slice.ensures, c.min-at.ensures)

pub returns : goal.returns
returns c =
    let at : c.min-at.result ≡ min c.args.element (length c.args.form.now.elements) = omega (arith, ap length c.as_slice.ensures, c.min-at.ensures) in
    ap (λ l. get_or l c.min-at.result 0) c.requires ∙ ap (λ k. get_or (numbers_of c.args.form.now.elements) k 0) at ∙ number-is c.args.form.now c.args.element 0

-- What one level of an expression asks, from what its parts ask.
use Rattle.std.proofs.Common.{◌≡◌, ℕ, List, [], map, sym, ap, ◌∙◌}
use Rattle.xf_def_syntax.specs.declared.expr.Expr.{Expr}
use Rattle.xf_def_syntax.specs.declared.expr.Expr.TheVariants as e
use Rattle.xf_def_syntax.specs.declared.expr.Link.{Link}
use Rattle.xf_def_syntax.specs.declared.expr.Start.{Start}
use Rattle.xf_def_syntax.specs.declared.expr.Step.{Step}
use Rattle.xf_def_values.specs.Conversions.{Decimal}
use Rattle.xf_def_xpath.specs.Asked.{Asked, Trace, plainly, tightly, converted}
use Rattle.xf_def_xpath.specs.AskedCalls.{call_asked, links_asked}
use Rattle.xf_def_xpath.specs.AskedSteps.{filtered, walks_asked}
use Rattle.xf_def_xpath.specs.Reads.{trace, trace_of_link, trace_of_step}
use Rattle.xf_def_xpath.specs.Setting.{Setting, Focus}
use Rattle.xf_def_xpath.specs.Steps.{begun}
use Rattle.xf_def_xpath.specs.Table.{function_at}
use Rattle.xf_def_xpath.proofs.Equations.{trace-Number, trace-Literal, trace-Call, trace-Negated, trace-Chain, trace-Filter, trace-Path, trace-From}

module _ (s : Setting) (c : Focus) where
  abbrev asked-in : Trace → Asked
  asked-in t = t.asked s c

  pub number-asks : (x : Expr) (place : ℕ) (k : Decimal) → x ≡ e.Number place k → (trace x).asked s c ≡ plainly [] []
  number-asks x place k i = ap (λ y. asked-in (trace y)) i ∙ ap asked-in (trace-Number place k)

  pub literal-asks : (x : Expr) (place : ℕ) (text : List ℕ) → x ≡ e.Literal place text → (trace x).asked s c ≡ plainly [] []
  literal-asks x place text i = ap (λ y. asked-in (trace y)) i ∙ ap asked-in (trace-Literal place text)

  pub call-asks : (x : Expr) (place code : ℕ) (arguments : List Expr) → x ≡ e.Call place code arguments → (trace x).asked s c ≡ call_asked (function_at code) code (map trace arguments) s c
  call-asks x place code arguments i = ap (λ y. asked-in (trace y)) i ∙ ap asked-in (trace-Call place code arguments)

  pub negated-asks : (x : Expr) (place signs : ℕ) (operand : Expr) → x ≡ e.Negated place signs operand → (trace x).asked s c ≡ converted s ((trace operand).asked s c)
  negated-asks x place signs operand i = ap (λ y. asked-in (trace y)) i ∙ ap asked-in (trace-Negated place signs operand)

  pub chain-asks : (x first : Expr) (links : List Link) → x ≡ e.Chain first links → (trace x).asked s c ≡ links_asked (map trace_of_link links) s c ((trace first).asked s c)
  chain-asks x first links i = ap (λ y. asked-in (trace y)) i ∙ ap asked-in (trace-Chain first links)

  pub filter-asks : (x first : Expr) (predicates : List Expr) → x ≡ e.Filter first predicates → (trace x).asked s c ≡ filtered s (map trace predicates) ((trace first).asked s c)
  filter-asks x first predicates i = ap (λ y. asked-in (trace y)) i ∙ ap asked-in (trace-Filter first predicates)

  pub path-asks : (x : Expr) (place : ℕ) (start : Start) (steps ss : List Step) (ns : List ℕ) → x ≡ e.Path place start steps → ss ≡ steps → ns ≡ begun start s c →
      walks_asked s (map trace_of_step ss) (tightly ns) ≡ (trace x).asked s c
  path-asks x place start steps ss ns i same from =
      ap (λ l. walks_asked s (map trace_of_step l) (tightly ns)) same
      ∙ ap (λ l. walks_asked s (map trace_of_step steps) (tightly l)) from
      ∙ sym (ap (λ y. asked-in (trace y)) i ∙ ap asked-in (trace-Path place start steps))

  pub from-asks : (x first : Expr) (steps : List Step) → x ≡ e.From first steps → (trace x).asked s c ≡ walks_asked s (map trace_of_step steps) ((trace first).asked s c)
  from-asks x first steps i = ap (λ y. asked-in (trace y)) i ∙ ap asked-in (trace-From first steps)

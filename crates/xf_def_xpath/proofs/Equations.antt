-- The equations of `meaning` and `trace`, one for each variant: the fold over Rust types does not compute, so they are cited.
use Rattle.std.proofs.Common.{◌≡◌, ℕ, List, map, sym, ap, ◌∙◌}
use Rattle.xf_def_syntax.specs.declared.expr.Expr.{Expr}
use Rattle.xf_def_syntax.specs.declared.expr.Start.{Start}
use Rattle.xf_def_syntax.specs.declared.expr.Step.{Step}
use Rattle.xf_def_syntax.specs.declared.expr.Link.{Link}
use Rattle.xf_def_syntax.specs.declared.expr.Expr.TheOpen.{Expr-F}
use Rattle.xf_def_syntax.specs.declared.expr.Expr.TheFolds.{fold-roll-Expr, fold_out-Step, fold_out-Link}
use Rattle.xf_def_syntax.specs.declared.expr.Expr.TheVariants.{Number, Literal, Call, Negated, Chain, Filter, Path, From, rolls-Number, rolls-Literal, rolls-Call, rolls-Negated, rolls-Chain, rolls-Filter, rolls-Path, rolls-From}
use Rattle.xf_def_values.specs.Conversions.{Decimal}
use Rattle.xf_def_xpath.specs.Setting.{Meaning, LinkMeaning, Walk}
use Rattle.xf_def_xpath.specs.Steps.{step_walk}
use Rattle.xf_def_xpath.specs.Meaning.{expr_meaning, link_meaning, meaning, meaning_of_link, walk_of}
use Rattle.xf_def_xpath.specs.Asked.{Trace, LinkTrace, WalkTrace}
use Rattle.xf_def_xpath.specs.Reads.{expr_trace, link_trace, step_trace, trace, trace_of_link, trace_of_step}

-- ---- of the meaning

pub meaning-Number : (place : ℕ) (k : Decimal) → meaning (Number place k) ≡ expr_meaning (Expr-F.Number place k)
meaning-Number place k = ap meaning (sym (rolls-Number place k)) ∙ fold-roll-Expr Meaning LinkMeaning Walk expr_meaning link_meaning step_walk (Expr-F.Number place k)

pub meaning-Literal : (place : ℕ) (text : List ℕ) → meaning (Literal place text) ≡ expr_meaning (Expr-F.Literal place text)
meaning-Literal place text = ap meaning (sym (rolls-Literal place text)) ∙ fold-roll-Expr Meaning LinkMeaning Walk expr_meaning link_meaning step_walk (Expr-F.Literal place text)

pub meaning-Call : (place code : ℕ) (arguments : List Expr) → meaning (Call place code arguments) ≡ expr_meaning (Expr-F.Call place code (map meaning arguments))
meaning-Call place code arguments = ap meaning (sym (rolls-Call place code arguments)) ∙ fold-roll-Expr Meaning LinkMeaning Walk expr_meaning link_meaning step_walk (Expr-F.Call place code arguments)

pub meaning-Negated : (place signs : ℕ) (operand : Expr) → meaning (Negated place signs operand) ≡ expr_meaning (Expr-F.Negated place signs (meaning operand))
meaning-Negated place signs operand = ap meaning (sym (rolls-Negated place signs operand)) ∙ fold-roll-Expr Meaning LinkMeaning Walk expr_meaning link_meaning step_walk (Expr-F.Negated place signs operand)

pub meaning-Chain : (first : Expr) (links : List Link) → meaning (Chain first links) ≡ expr_meaning (Expr-F.Chain (meaning first) (map meaning_of_link links))
meaning-Chain first links = ap meaning (sym (rolls-Chain first links)) ∙ fold-roll-Expr Meaning LinkMeaning Walk expr_meaning link_meaning step_walk (Expr-F.Chain first links)

pub meaning-Filter : (first : Expr) (predicates : List Expr) → meaning (Filter first predicates) ≡ expr_meaning (Expr-F.Filter (meaning first) (map meaning predicates))
meaning-Filter first predicates = ap meaning (sym (rolls-Filter first predicates)) ∙ fold-roll-Expr Meaning LinkMeaning Walk expr_meaning link_meaning step_walk (Expr-F.Filter first predicates)

pub meaning-Path : (place : ℕ) (start : Start) (steps : List Step) → meaning (Path place start steps) ≡ expr_meaning (Expr-F.Path place start (map walk_of steps))
meaning-Path place start steps = ap meaning (sym (rolls-Path place start steps)) ∙ fold-roll-Expr Meaning LinkMeaning Walk expr_meaning link_meaning step_walk (Expr-F.Path place start steps)

pub meaning-From : (first : Expr) (steps : List Step) → meaning (From first steps) ≡ expr_meaning (Expr-F.From (meaning first) (map walk_of steps))
meaning-From first steps = ap meaning (sym (rolls-From first steps)) ∙ fold-roll-Expr Meaning LinkMeaning Walk expr_meaning link_meaning step_walk (Expr-F.From first steps)

pub meaning-link : (l : Link) → meaning_of_link l ≡ record { operator = l.operator; right = meaning l.right }
meaning-link l = fold_out-Link Meaning LinkMeaning Walk expr_meaning link_meaning step_walk l

pub walk-step : (s : Step) → walk_of s ≡ step_walk (record { place = s.place; is_below = s.is_below; is_written = s.is_written; axis = s.axis; test = s.test; predicates = map meaning s.predicates })
walk-step s = fold_out-Step Meaning LinkMeaning Walk expr_meaning link_meaning step_walk s

-- ---- of what is asked

pub trace-Number : (place : ℕ) (k : Decimal) → trace (Number place k) ≡ expr_trace (Expr-F.Number place k)
trace-Number place k = ap trace (sym (rolls-Number place k)) ∙ fold-roll-Expr Trace LinkTrace WalkTrace expr_trace link_trace step_trace (Expr-F.Number place k)

pub trace-Literal : (place : ℕ) (text : List ℕ) → trace (Literal place text) ≡ expr_trace (Expr-F.Literal place text)
trace-Literal place text = ap trace (sym (rolls-Literal place text)) ∙ fold-roll-Expr Trace LinkTrace WalkTrace expr_trace link_trace step_trace (Expr-F.Literal place text)

pub trace-Call : (place code : ℕ) (arguments : List Expr) → trace (Call place code arguments) ≡ expr_trace (Expr-F.Call place code (map trace arguments))
trace-Call place code arguments = ap trace (sym (rolls-Call place code arguments)) ∙ fold-roll-Expr Trace LinkTrace WalkTrace expr_trace link_trace step_trace (Expr-F.Call place code arguments)

pub trace-Negated : (place signs : ℕ) (operand : Expr) → trace (Negated place signs operand) ≡ expr_trace (Expr-F.Negated place signs (trace operand))
trace-Negated place signs operand = ap trace (sym (rolls-Negated place signs operand)) ∙ fold-roll-Expr Trace LinkTrace WalkTrace expr_trace link_trace step_trace (Expr-F.Negated place signs operand)

pub trace-Chain : (first : Expr) (links : List Link) → trace (Chain first links) ≡ expr_trace (Expr-F.Chain (trace first) (map trace_of_link links))
trace-Chain first links = ap trace (sym (rolls-Chain first links)) ∙ fold-roll-Expr Trace LinkTrace WalkTrace expr_trace link_trace step_trace (Expr-F.Chain first links)

pub trace-Filter : (first : Expr) (predicates : List Expr) → trace (Filter first predicates) ≡ expr_trace (Expr-F.Filter (trace first) (map trace predicates))
trace-Filter first predicates = ap trace (sym (rolls-Filter first predicates)) ∙ fold-roll-Expr Trace LinkTrace WalkTrace expr_trace link_trace step_trace (Expr-F.Filter first predicates)

pub trace-Path : (place : ℕ) (start : Start) (steps : List Step) → trace (Path place start steps) ≡ expr_trace (Expr-F.Path place start (map trace_of_step steps))
trace-Path place start steps = ap trace (sym (rolls-Path place start steps)) ∙ fold-roll-Expr Trace LinkTrace WalkTrace expr_trace link_trace step_trace (Expr-F.Path place start steps)

pub trace-From : (first : Expr) (steps : List Step) → trace (From first steps) ≡ expr_trace (Expr-F.From (trace first) (map trace_of_step steps))
trace-From first steps = ap trace (sym (rolls-From first steps)) ∙ fold-roll-Expr Trace LinkTrace WalkTrace expr_trace link_trace step_trace (Expr-F.From first steps)

pub trace-link : (l : Link) → trace_of_link l ≡ record { operator = l.operator; right = trace l.right }
trace-link l = fold_out-Link Trace LinkTrace WalkTrace expr_trace link_trace step_trace l

pub trace-step : (s : Step) → trace_of_step s ≡ step_trace (record { place = s.place; is_below = s.is_below; is_written = s.is_written; axis = s.axis; test = s.test; predicates = map trace s.predicates })
trace-step s = fold_out-Step Trace LinkTrace WalkTrace expr_trace link_trace step_trace s

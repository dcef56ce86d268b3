-- The expressions of a form give over a part what they give over all data, so that each of its elements and each chain of its binds does.
use Rattle.std.proofs.Common.{◌≡◌, ℕ, zero, suc, Bool, List, [], ◌∷◌, ◌++◌, map, get_or, slice_get, Option, Some, None, option_map, sym, subst}
use Rattle.xf_def_syntax.specs.declared.element.Binding.{Binding}
use Rattle.xf_def_syntax.specs.declared.element.Binding.TheVariants as binding
use Rattle.xf_def_syntax.specs.declared.element.Control.{Control}
use Rattle.xf_def_syntax.specs.declared.element.Control.TheVariants as control
use Rattle.xf_def_syntax.specs.declared.element.Element as written
use Rattle.xf_def_syntax.specs.declared.element.Kind.{Kind}
use Rattle.xf_def_syntax.specs.declared.element.Kind.TheVariants as kind
use Rattle.xf_def_syntax.specs.declared.expr.Expr.{Expr}
use Rattle.xf_def_syntax.specs.declared.form.Bind.{Bind}
use Rattle.xf_def_syntax.specs.declared.form.Selection.{Selection}
use Rattle.xf_def_syntax.specs.declared.form.Selection.TheVariants as selection
use Rattle.xf_def_syntax.specs.declared.form.Submission.{Submission}
use Rattle.xf_def_syntax.specs.declared.form.Tables.{Tables}
use Rattle.xf_def_xpath.specs.Asked.{Trace}
use Rattle.xf_def_xpath.specs.Meaning.{meaning}
use Rattle.xf_def_xpath.proofs.ForestVisits.{Each}
use Rattle.xf_def_xpath.proofs.TraceKeeps.{meaning-of_trace}
use Rattle.xf_def_model.specs.Rules.{Rule, rule_of, chains_after, chain_around}
use Rattle.xf_def_ui.specs.Interface.{bound_of, selected_of, sent_of, binding_of, sort_of_control, sort_of, element_of, Interface}
use Rattle.xf_def_ui.specs.Elements.{element_at, no_element}
use Rattle.xf_def_machine.specs.State.{State}
use Rattle.xf_law_sessions.specs.Same.Controls.{HasForm}
use Rattle.xf_law_recalculation.proofs.WithinLemmas.Asks.{TraceKeeps, trace-keeps}
use Rattle.xf_law_recalculation.proofs.WithinLemmas.Seen.{Keeps}
use Rattle.xf_law_recalculation.proofs.PartLemmas.Binds.{each-append}
use Rattle.xf_law_sessions.proofs.ShownLemmas.AroundPart.{BoundKeeps}
use Rattle.xf_law_sessions.proofs.ShownLemmas.LabelsPart.{MeaningKeeps, SortKeeps, ElementKeeps}

module _ (p : ℕ → Bool) where
  meaning-keeps : (e : Expr) → Keeps p (meaning e)
  meaning-keeps e = subst (λ m. Keeps p m) (meaning-of_trace e) (trace-keeps p e).meaning

  some-keeps : (o : Option Expr) → MeaningKeeps p (option_map meaning o)
  some-keeps None = tt
  some-keeps (Some e) = meaning-keeps e

  bound-keeps : (b : Binding) → BoundKeeps p (bound_of b)
  bound-keeps binding.Absent = tt
  bound-keeps (binding.Nodes e) = meaning-keeps e
  bound-keeps (binding.Bind k) = tt

  selected-keeps : (s : Selection) → BoundKeeps p (selected_of s)
  selected-keeps selection.Whole = tt
  selected-keeps (selection.Ref e) = meaning-keeps e
  selected-keeps (selection.Bind k) = tt

  sent-keeps : (o : Option Submission) → BoundKeeps p (sent_of o)
  sent-keeps None = tt
  sent-keeps (Some s) = selected-keeps s.selection

  binding-keeps : (tables : Tables) (k : Kind) (b : Binding) → BoundKeeps p (binding_of tables k b)
  binding-keeps tables (kind.Submission k) b = sent-keeps (slice_get tables.submissions k)
  binding-keeps tables k b = bound-keeps b

  control-keeps : (c : Control) → SortKeeps p (sort_of_control c)
  control-keeps (control.Output e) = some-keeps e
  control-keeps control.Group = tt
  control-keeps (control.Switch k) = tt
  control-keeps (control.Case is_selected) = tt
  control-keeps (control.Repeat k start) = tt
  control-keeps control.Input = tt
  control-keeps control.Secret = tt
  control-keeps control.Textarea = tt
  control-keeps (control.Select is_free) = tt
  control-keeps (control.SelectOne is_free) = tt
  control-keeps control.Trigger = tt
  control-keeps (control.Submit k) = tt

  sort-keeps : (k : Kind) → SortKeeps p (sort_of k)
  sort-keeps kind.Host = tt
  sort-keeps (kind.Model k) = tt
  sort-keeps (kind.Instance k) = tt
  sort-keeps (kind.Bind k) = tt
  sort-keeps (kind.Submission k) = tt
  sort-keeps (kind.Control place c) = control-keeps c
  sort-keeps kind.Item = tt
  sort-keeps kind.Itemset = tt
  sort-keeps kind.Choices = tt
  sort-keeps kind.Label = tt
  sort-keeps (kind.Value e) = some-keeps e
  sort-keeps (kind.Output e) = some-keeps e
  sort-keeps (kind.Action a) = tt

  at-keeps : (tables : Tables) (es : List written.Element) (n : ℕ) → ElementKeeps p (get_or (map (element_of tables) es) n no_element)
  at-keeps tables [] zero = record { binding = tt; sort = tt }
  at-keeps tables [] (suc n) = record { binding = tt; sort = tt }
  at-keeps tables (e ∷ es) zero = record { binding = binding-keeps tables e.kind e.binding; sort = sort-keeps e.kind }
  at-keeps tables (e ∷ es) (suc n) = at-keeps tables es n

  pub elements-keep : (s : State) → HasForm s.form → (n : ℕ) → ElementKeeps p (element_at s.form.interface n)
  elements-keep s h n = subst (λ (i : Interface). ElementKeeps p (element_at i n)) (sym h.interface) (at-keeps h.form.tables h.form.elements n)

  -- ---- binds

  abbrev pub Known : List Trace → Type 0
  Known ts = Each (TraceKeeps p) ts

  known-at : (known : List (List Trace)) (k : ℕ) → Each Known known → Known (get_or known k [])
  known-at [] zero e = tt
  known-at [] (suc k) e = tt
  known-at (ts ∷ known) zero e = e.0
  known-at (ts ∷ known) (suc k) e = known-at known k e.1

  known-around : (known : List (List Trace)) (around : Option ℕ) → Each Known known → Known (chain_around known around)
  known-around known None e = tt
  known-around known (Some k) e = known-at known k e

  all-known : (known : List (List Trace)) (binds : List Bind) → Each Known known → Each Known (chains_after known (map rule_of binds))
  all-known known [] e = e
  all-known known (bind ∷ binds) e =
      let one : Known (chain_around known bind.around ++ (rule_of bind).node_set ∷ []) =
      each-append (TraceKeeps p) (chain_around known bind.around) ((rule_of bind).node_set ∷ []) (known-around known bind.around e) (trace-keeps p bind.node_set, tt) in
      all-known (known ++ (chain_around known bind.around ++ (rule_of bind).node_set ∷ []) ∷ []) binds
      (each-append Known known ((chain_around known bind.around ++ (rule_of bind).node_set ∷ []) ∷ []) e (one, tt))

  -- the chain of each bind of a form
  pub chain-known : (rules : List Rule) (tables : Tables) → rules ≡ map rule_of tables.binds → (k : ℕ) → Known (get_or (chains_after [] rules) k [])
  chain-known rules tables e k = subst (λ rs. Known (get_or (chains_after [] rs) k [])) (sym e) (known-at (chains_after [] (map rule_of tables.binds)) k (all-known [] tables.binds tt))

-- The numbers of nodes do not count: an entry keeps its value where the forest of before agrees once its nodes have other numbers.
use Rattle.std.proofs.Common.{◌≡◌, ℕ, Bool, true, false, List, map, Option, Some, option_map, refl, sym, ap, ◌∙◌}
use Rattle.std.specs.Prelude.{option_and_then, slice_get}
use Rattle.xf_def_syntax.specs.declared.expr.Expr.{Expr}
use Rattle.xf_def_forest.specs.Forest.{Forest}
use Rattle.xf_def_forest.specs.Visit.{visits}
use Rattle.xf_def_xpath.specs.declared.value.Value.{Value}
use Rattle.xf_def_xpath.specs.Given.{Document}
use Rattle.xf_def_xpath.specs.Setting.{Setting, Focus, ◌>>=◌}
use Rattle.xf_def_xpath.specs.Conversions.{string_of}
use Rattle.xf_def_xpath.specs.Meaning.{meaning}
use Rattle.xf_def_xpath.specs.Same.{renumbered_value, renumbered_document, renumbered_property}
use Rattle.xf_def_xpath.proofs.ForestLaws.{worth-of_renumbered}
use Rattle.xf_def_xpath.proofs.TraceKeeps.{meaning-of_trace}
use Rattle.xf_def_model.specs.Rules.{Scope, computed_of, calls_place}
use Rattle.xf_def_model.specs.Applied.{Entry}
use Rattle.xf_def_model.specs.Entries.{expression_in, expression_of, focus_of, value_by, value_of, text_of}
use Rattle.xf_def_model.specs.Nested.{setting_for}
use Rattle.xf_law_recalculation.specs.Agree.Forests.{text_over, over_second, renumbered_forest}
use Rattle.xf_law_recalculation.proofs.AgreeLemmas.ForestNumbers.{text-renumbered}
use Rattle.xf_law_recalculation.specs.Marks.Outside.{WasThere, Premises, ButNumbersValue, ButNumbersText}
use Rattle.xf_law_recalculation.proofs.MarksLemmas.MarksAgree.{entry_keeps_value, entry_keeps_text}
use Rattle.xf_law_recalculation.proofs.MarksLemmas.Unplaced.{one-place}

module _ (most : ℕ) (scope : Scope) (documents : List Document) (indexes : List (List ℕ × ℕ)) (event : Option (List (List ℕ × Value)))
    (now before : Forest) (f : ℕ → ℕ) (texts lists : List ℕ) (e old : Entry) (expr : Expr) (p : Premises most scope documents now before f texts lists e old expr) where
  abbrev was : WasThere f expr e old
  was = p.4

  abbrev then_scope : Scope
  then_scope = over_second scope documents indexes event

  abbrev other_documents : List Document
  other_documents = map (renumbered_document f) documents

  abbrev other_event : Option (List (List ℕ × Value))
  other_event = option_map (map (renumbered_property f)) event

  -- that of before, with the numbers of now
  abbrev other_scope : Scope
  other_scope = over_second scope other_documents indexes other_event

  abbrev other : Forest
  other = renumbered_forest f before

  abbrev over_then : Setting
  over_then = setting_for (Some most) then_scope (visits before.nodes) old.node

  abbrev over_other : ℕ → Setting
  over_other n = setting_for (Some most) other_scope (visits other.nodes) n

  abbrev placed : ℕ → Focus
  placed n = record { node = n; position = e.position; size = e.size }

  expression : expression_of scope old ≡ Some (computed_of expr)
  expression =
      ap (λ property. option_and_then (λ r. expression_in r property) (slice_get scope.rules old.bind)) was.property
      ∙ ap (λ bind. option_and_then (λ r. expression_in r e.property) (slice_get scope.rules bind)) was.bind ∙ p.3.0

  one-place_then : meaning expr over_then (placed old.node) ≡ meaning expr over_then (focus_of old)
  one-place_then = by (calls_place expr) refl
    where
      by : (b : Bool) → calls_place expr ≡ b → meaning expr over_then (placed old.node) ≡ meaning expr over_then (focus_of old)
      by true h =
          let at = was.place h in
          ap (λ k. meaning expr over_then (record { node = old.node; position = k; size = e.size })) (sym at.0)
          ∙ ap (λ k. meaning expr over_then (record { node = old.node; position = old.position; size = k })) (sym at.1)
      by false h = one-place expr h over_then old.node e.position e.size old.position old.size

  value_then : value_of (Some most) then_scope (visits before.nodes) old ≡ meaning expr over_then (placed old.node)
  value_then = ap (λ x. value_by (Some most) then_scope (visits before.nodes) old x) expression ∙ ap (λ m. m over_then (focus_of old)) (meaning-of_trace expr) ∙ sym one-place_then

  value_other : value_of (Some most) other_scope (visits other.nodes) e ≡ meaning expr (over_other e.node) (placed e.node)
  value_other = ap (λ x. value_by (Some most) other_scope (visits other.nodes) e x) p.3.0 ∙ ap (λ m. m (over_other e.node) (focus_of e)) (meaning-of_trace expr)

  same-value : value_of (Some most) scope (visits now.nodes) e ≡ option_map (renumbered_value f) (value_of (Some most) then_scope (visits before.nodes) old)
  same-value =
      entry_keeps_value most scope other_documents indexes other_event now other texts lists e expr p.1 p.2 p.3 p.5 p.6
      ∙ value_other
      ∙ ap (λ n. meaning expr (over_other n) (placed n)) (sym was.node)
      ∙ worth-of_renumbered f p.0 scope.functions (Some most) then_scope.given scope.model old.node expr before.nodes (placed old.node)
      ∙ ap (option_map (renumbered_value f)) (sym value_then)

  same-text : text_of (Some most) scope (visits now.nodes) e ≡ text_of (Some most) then_scope (visits before.nodes) old
  same-text =
      entry_keeps_text most scope other_documents indexes other_event now other texts lists e expr p.1 p.2 p.3 p.5 p.6
      ∙ ap (λ o. o >>= string_of (over_other e.node)) value_other
      ∙ ap (λ n. text_over (over_other n) expr (placed n)) (sym was.node)
      ∙ text-renumbered f p.0 scope.functions (Some most) then_scope.given scope.model old.node before expr (placed old.node)
      ∙ ap (λ o. o >>= string_of over_then) (sym value_then)

pub but_numbers_value : ButNumbersValue
but_numbers_value most scope documents indexes event now before f texts lists e old expr p = same-value most scope documents indexes event now before f texts lists e old expr p

pub but_numbers_text : ButNumbersText
but_numbers_text most scope documents indexes event now before f texts lists e old expr p = same-text most scope documents indexes event now before f texts lists e old expr p

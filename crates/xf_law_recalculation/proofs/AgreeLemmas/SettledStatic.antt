-- Static calculates agree, so that one settled state exists and no other.
use Rattle.std.proofs.Common.{◌≡◌, List, Some, sym, ap, ◌∙◌}
use Rattle.xf_def_forest.specs.Forest.{Forest}
use Rattle.xf_def_forest.specs.Visit.{visits}
use Rattle.xf_def_xpath.specs.Setting.{◌>>=◌}
use Rattle.xf_def_xpath.specs.Conversions.{string_of}
use Rattle.xf_def_xpath.proofs.TraceKeeps.{meaning-of_trace}
use Rattle.xf_def_model.specs.Rules.{Scope}
use Rattle.xf_def_model.specs.Applied.{Entry}
use Rattle.xf_def_model.specs.Entries.{focus_of, value_by, value_of, text_of}
use Rattle.xf_def_model.specs.Nested.{setting_for}
use Rattle.xf_def_model.specs.Settled.{Bounds, Contents, holding, calculates, fitting}
use Rattle.xf_def_model.specs.Pertinent.{AllOf}
use Rattle.xf_def_model.specs.Stands.{AreCalculated, AgreeFor}
use Rattle.xf_def_model.proofs.EachLemmas.{each_then}
use Rattle.xf_def_model.proofs.SettledLaws.{settled-unique, settled-stands}
use Rattle.xf_law_recalculation.specs.Agree.Settles.{Surrounds, IsStatic, CalculatesAgree, SettlesOnce, Settles}
use Rattle.xf_law_recalculation.proofs.AgreeLemmas.HeldMeets.{text_same, value_same}

module _ (b : Bounds) (scope : Scope) (entries : List Entry) (forest : Forest) (around : Surrounds scope b.string forest) (static : AllOf (IsStatic scope forest) (calculates entries)) where
  pub one-text : (e : Entry) → IsStatic scope forest e → (one other : Contents) → AreCalculated entries one → AreCalculated entries other → AgreeFor scope (visits forest.nodes) e one other →
      text_of (Some b.string) scope (holding (visits forest.nodes) one) e ≡ text_of (Some b.string) scope (holding (visits forest.nodes) other) e
  one-text e is_static one other of_one of_other agree =
      let c = focus_of e in
      let all = visits forest.nodes in
      ap (λ x. value_by (Some b.string) scope (holding all one) e x >>= string_of (setting_for (Some b.string) scope (holding all one) e.node)) is_static.expression
      ∙ ap (λ m. m (setting_for (Some b.string) scope (holding all one) e.node) c >>= string_of (setting_for (Some b.string) scope (holding all one) e.node)) (meaning-of_trace is_static.expr)
      ∙ text_same scope b forest entries around static e is_static one other of_one of_other agree
      ∙ sym (ap (λ m. m (setting_for (Some b.string) scope (holding all other) e.node) c >>= string_of (setting_for (Some b.string) scope (holding all other) e.node)) (meaning-of_trace is_static.expr))
      ∙ sym (ap (λ x. value_by (Some b.string) scope (holding all other) e x >>= string_of (setting_for (Some b.string) scope (holding all other) e.node)) is_static.expression)

  pub one-value : (e : Entry) → IsStatic scope forest e → (one other : Contents) → AreCalculated entries one → AreCalculated entries other → AgreeFor scope (visits forest.nodes) e one other →
      value_of (Some b.string) scope (holding (visits forest.nodes) one) e ≡ value_of (Some b.string) scope (holding (visits forest.nodes) other) e
  one-value e is_static one other of_one of_other agree =
      let c = focus_of e in
      let all = visits forest.nodes in
      ap (value_by (Some b.string) scope (holding all one) e) is_static.expression
      ∙ ap (λ m. m (setting_for (Some b.string) scope (holding all one) e.node) c) (meaning-of_trace is_static.expr)
      ∙ value_same scope b forest entries around static e is_static one other of_one of_other agree
      ∙ sym (ap (λ m. m (setting_for (Some b.string) scope (holding all other) e.node) c) (meaning-of_trace is_static.expr))
      ∙ sym (ap (value_by (Some b.string) scope (holding all other) e) is_static.expression)

pub calculates_agree : CalculatesAgree
calculates_agree b scope entries forest around static =
    each_then _ _ (λ e is_static one other of_one of_other agree. ap (λ t. (e.node, fitting b.limits.text t)) (one-text b scope entries forest around static e is_static one other of_one of_other agree)) (calculates entries) static

pub settles_once : SettlesOnce
settles_once b scope entries forest around static standing acyclic = settled-unique b scope entries (visits forest.nodes) standing acyclic (calculates_agree b scope entries forest around static)

pub settles : Settles
settles b scope entries forest around static standing acyclic = settled-stands b scope entries (visits forest.nodes) standing acyclic (calculates_agree b scope entries forest around static)

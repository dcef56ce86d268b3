-- The work of a recalculation (XForms 1.1, section 4.3.2) over a forest: the texts of the calculates of one model are settled, and each
-- entry has the truth of its value over these.
use Rattle.std.specs.Prelude.{ℕ, ◌≡◌, ◌<◌, ◌^◌, Bool, true, false, List, [], map, length, Option, Some, None}
use Rattle.std.specs.List.{list_any}
use Rattle.xf_def_syntax.specs.declared.form.Tables.{Tables}
use Rattle.xf_def_forest.specs.declared.fault.TreeFault.{TreeFault}
use Rattle.xf_def_forest.specs.declared.fault.TreeFault.TheVariants as tree
use Rattle.xf_def_forest.specs.Forest.{Forest}
use Rattle.xf_def_forest.specs.Visit.{visits}
use Rattle.xf_def_forest.specs.Settle.{reserved}
use Rattle.xf_law_forests.specs.Settle.Written.{written}
use Rattle.xf_funcs.specs.Called.{called}
use Rattle.xf_def_xpath.specs.Given.{Document, Given}
use Rattle.xf_def_xpath.specs.declared.fault.EvalFault.{EvalFault}
use Rattle.xf_def_xpath.specs.declared.fault.EvalFault.TheVariants as eval
use Rattle.xf_def_model.specs.Rules.{Scope, scope_of}
use Rattle.xf_def_model.specs.Applied.{Entry}
use Rattle.xf_def_model.specs.Settled.{Contents, Passed, nodes, all_texts, bounds, settled_contents, values_over, passed}
use Rattle.xf_def_model.specs.Pertinent.{AllOf}
use Rattle.xf_def_model.specs.Stands.{AreAcyclic}
use Rattle.xf_law_recalculation.specs.Agree.Settles.{IsSolid, Surrounds}
use Rattle.xf_law_recalculation.specs.Agree.FormSettles.{AreCovered, Applies}
use Rattle.xf_law_recalculation.specs.Agree.InTurn.{tells_long, tells_text}
use Rattle.xf_def_machine.specs.Behave.{with_contents, truly}
use Rattle.xf_binds.specs.Held.{held_by}
use Rattle.xf_binds.specs.Kept.{valued_in}
use Rattle.xf_recalc.specs.declared.fault.SettleFault.{SettleFault}
use Rattle.xf_recalc.specs.declared.fault.SettleFault.TheVariants.{Long, Text, Nodes, AllTexts, Memory}

abbrev pub scope_in : Given → Tables → ℕ → Scope
scope_in given tables model = scope_of called given tables model

-- ---- what is known before

-- the entries are what the binds apply to the forest, without an exception and without a cycle, and no event is handled
pub record MaySettle (given : Given) (tables : Tables) (model : ℕ) (forest : Forest) (entries : List Entry) : Type 0 where
  pub covered : AreCovered tables
  pub around : Surrounds (scope_in given tables model) bounds.string forest
  pub applies : Applies called given tables model forest entries
  pub acyclic : AreAcyclic (scope_in given tables model) entries (visits forest.nodes)
  pub documents : AllOf (λ (d : Document). IsSolid (visits forest.nodes) d.element) given.documents
  pub no_event : given.event ≡ None
  pub small : forest.next < 2 ^ 126

-- ---- what is left

abbrev pub contents_in : Scope → List Entry → Forest → Contents
contents_in scope entries forest = settled_contents bounds scope entries (visits forest.nodes)

-- for each calculate a number is reserved, whether a text comes in or not
abbrev pub settled_forest : Scope → List Entry → Forest → Forest
settled_forest scope entries forest =
    let contents = contents_in scope entries forest in
    record (reserved (length contents) forest) { nodes = with_contents forest.next contents forest.nodes }

abbrev pub words_of : Scope → List Entry → Forest → List Passed
words_of scope entries forest = passed bounds scope entries (visits forest.nodes)

-- the forest holds the settled texts, and the entries have these truths of their values over it, by their places; no limit is passed
pub record IsSettled (scope : Scope) (entries : List Entry) (forest after : Forest) (truths : List (Option Bool)) : Type 0 where
  pub written : after ≡ settled_forest scope entries forest
  pub values : valued_in (held_by entries truths) ≡ map truly (values_over bounds scope entries (visits after.nodes))
  pub within : words_of scope entries forest ≡ []

-- of the nodes where it is refused: some of the settled texts were written
pub record IsLeft (scope : Scope) (entries : List Entry) (forest after : Forest) : Type 0 where
  pub done : ℕ → Bool
  pub nodes : after.nodes ≡ written done forest.next (contents_in scope entries forest) forest.nodes

-- ---- why it is refused

abbrev pub tells_nodes : Passed → Bool
tells_nodes nodes = true
tells_nodes word = false

abbrev pub tells_all : Passed → Bool
tells_all all_texts = true
tells_all word = false

-- the limit that is told is among those that are passed; want of memory is free
abbrev pub IsTold : SettleFault → List Passed → Type 0
IsTold Long words = list_any tells_long words ≡ true
IsTold Text words = list_any tells_text words ≡ true
IsTold Nodes words = list_any tells_nodes words ≡ true
IsTold AllTexts words = list_any tells_all words ≡ true
IsTold Memory words = Unit {0}

-- what the forest tells of its limits
abbrev pub word_of : Option TreeFault → Option SettleFault
word_of None = None
word_of (Some tree.Nodes) = Some Nodes
word_of (Some other) = Some AllTexts

abbrev pub fault_of : EvalFault → SettleFault
fault_of eval.Long = Long
fault_of eval.Memory = Memory

-- What a recalculation passes over (XForms 1.1, section 4.3.2 and appendix C): an entry that is not pertinent has the text that stands and the
-- truth that was kept, so that evaluating the pertinent entries alone leaves what evaluating all of them would.
use Rattle.std.specs.Prelude.{ℕ, ◌≡◌, ◌+◌, ◌^◌, Bool, true, false, List, [], ◌∷◌, ◌++◌, map, length, Some, nat_le}
use Rattle.xf_def_syntax.specs.declared.expr.Expr.{Expr}
use Rattle.xf_def_syntax.specs.declared.form.Tables.{Tables}
use Rattle.xf_def_forest.specs.declared.content.Node.{Node}
use Rattle.xf_def_forest.specs.Changes.{in_detached}
use Rattle.xf_def_forest.specs.Forest.{Forest}
use Rattle.xf_def_forest.specs.Visit.{visits, has}
use Rattle.xf_def_values.specs.Functions.{Functions}
use Rattle.xf_def_xpath.specs.Given.{Given}
use Rattle.xf_def_model.specs.Rules.{scope_of}
use Rattle.xf_def_model.specs.Applied.{Entry}
use Rattle.xf_def_model.specs.Entries.{value_of}
use Rattle.xf_def_model.specs.Settled.{Bounds, calculates, values_over, passed}
use Rattle.xf_def_model.specs.Pertinent.{Changes, AllOf, asking, stands_as, calculated_in}
use Rattle.xf_law_forests.specs.Settle.Written.{written}
use Rattle.xf_law_recalculation.specs.Agree.Settles.{IsSolid, Surrounds}
use Rattle.xf_law_recalculation.specs.Agree.FormSettles.{AreCovered, Applies}
use Rattle.xf_law_recalculation.specs.Agree.InTurn.{AreSingle, IsOrdered}
use Rattle.xf_law_recalculation.specs.Marks.Marks.{IsOf}
use Rattle.xf_law_recalculation.specs.Marks.Outside.{shape_now, evaluated, IsOutside}
use Rattle.xf_law_recalculation.specs.Marks.Instances.{standing}
use Rattle.xf_law_recalculation.specs.Change.Carried.{under}
use Rattle.xf_law_recalculation.specs.Written.Turn.{contents_of}
use Rattle.xf_law_recalculation.specs.Since.Since.{Before, Since, IsDue, HoldsText, kept_of, truly, changes_since}

-- ---- what is written

-- a pertinent calculate has this node
abbrev pub is_written : Functions → Given → Tables → ℕ → Forest → List Entry → Changes → ℕ → Bool
is_written functions given tables model now entries changes n = has n (calculated_in (evaluated (scope_of functions given tables model) now changes entries))

-- the nodes where the settled contents of these nodes were written
abbrev pub nodes_with : (ℕ → Bool) → Bounds → Functions → Given → Tables → ℕ → Forest → List Entry → List Node
nodes_with done b functions given tables model now entries = written done now.next (contents_of b functions given tables model now entries) now.nodes

abbrev pub settled_nodes : Bounds → Functions → Given → Tables → ℕ → Forest → List Entry → List Node
settled_nodes b functions given tables model now entries = nodes_with (λ n. true) b functions given tables model now entries

-- an order of the calculates, each of which stands there once
pub record AreOrdered (functions : Functions) (given : Given) (tables : Tables) (model : ℕ) (now : Forest) (entries es : List Entry) : Type 0 where
  pub ordered : IsOrdered (scope_of functions given tables model) entries (visits now.nodes) es
  pub single : AreSingle es

-- ---- the laws

-- whichever pertinent calculates were written, one that is not pertinent has the text that stands at its node
abbrev pub PertinentText : Type 0
PertinentText = (f : ℕ → ℕ) (taken : ℕ → Bool) (texts lists : List ℕ) (b : Bounds) (functions : Functions) (given : Given) (tables : Tables) (model : ℕ) (was : Before) (now : Forest) (entries : List Entry) →
    Since f taken texts lists b functions given tables model was now entries →
    (done : ℕ → Bool) → ((n : ℕ) → done n ≡ true → is_written functions given tables model now entries (changes_since texts lists was) n ≡ true) →
    AllOf (λ e. IsOutside (scope_of functions given tables model) now (changes_since texts lists was) entries e →
    HoldsText b (scope_of functions given tables model) (nodes_with done b functions given tables model now entries) e) (calculates entries)

-- so nothing is left to write where the pertinent ones are written
abbrev pub PertinentWritten : Type 0
PertinentWritten = (f : ℕ → ℕ) (taken : ℕ → Bool) (texts lists : List ℕ) (b : Bounds) (functions : Functions) (given : Given) (tables : Tables) (model : ℕ) (was : Before) (now : Forest) (entries es : List Entry) →
    Since f taken texts lists b functions given tables model was now entries → AreOrdered functions given tables model now entries es →
    settled_nodes b functions given tables model now entries
    ≡ nodes_with (is_written functions given tables model now entries (changes_since texts lists was)) b functions given tables model now entries

-- and an entry that is not pertinent has over the settled nodes the truth that is kept of each entry that it was
abbrev pub PertinentTruth : Type 0
PertinentTruth = (f : ℕ → ℕ) (taken : ℕ → Bool) (texts lists : List ℕ) (b : Bounds) (functions : Functions) (given : Given) (tables : Tables) (model : ℕ) (was : Before) (now : Forest) (entries es : List Entry) →
    Since f taken texts lists b functions given tables model was now entries → AreOrdered functions given tables model now entries es →
    (e : Entry) (expr : Expr) → IsSolid (standing now) e.node → IsOf (scope_of functions given tables model) e expr →
    IsOutside (scope_of functions given tables model) now (changes_since texts lists was) entries e →
    AllOf (λ v. stands_as (asking (scope_of functions given tables model) (shape_now now) e) v.entry ≡ true →
    kept_of (value_of (Some b.string) (scope_of functions given tables model) (visits (settled_nodes b functions given tables model now entries)) e) ≡ v.value) was.stood

-- where the calculates before it were written in an order of theirs, one that is not pertinent has in its turn the text that stands
abbrev pub PassedTurn : Type 0
PassedTurn = (f : ℕ → ℕ) (taken : ℕ → Bool) (texts lists : List ℕ) (b : Bounds) (functions : Functions) (given : Given) (tables : Tables) (model : ℕ) (was : Before) (now : Forest) (entries es : List Entry) →
    Since f taken texts lists b functions given tables model was now entries → AreOrdered functions given tables model now entries es →
    (before after : List Entry) (e : Entry) → es ≡ before ++ e ∷ after → IsOutside (scope_of functions given tables model) now (changes_since texts lists was) entries e →
    (done : ℕ → Bool) → AllOf (λ g. done g.node ≡ true) before → AllOf (λ g. done g.node ≡ false) (e ∷ after) →
    HoldsText b (scope_of functions given tables model) (nodes_with done b functions given tables model now entries) e

-- ---- from one recalculation to the next

-- with as many numbers taken as there are calculates
abbrev pub settled_now : Bounds → Functions → Given → Tables → ℕ → Forest → List Entry → Forest
settled_now b functions given tables model now entries =
    record { nodes = settled_nodes b functions given tables model now entries; next = now.next + length (contents_of b functions given tables model now entries) }

-- the settled data beside themselves, with the truths over them
abbrev pub then_of : Bounds → Functions → Given → Tables → ℕ → Forest → List Entry → Before
then_of b functions given tables model after entries = record {
  forest = after;
  documents = given.documents;
  indexes = given.indexes;
  event = given.event;
  stood = map truly (values_over b (scope_of functions given tables model) entries (visits after.nodes));
}

-- after a recalculation that passed no limit all is so again, and nothing is marked
abbrev pub SinceAnew : Type 0
SinceAnew = (b : Bounds) (functions : Functions) (given : Given) (tables : Tables) (model : ℕ) (now : Forest) (entries : List Entry) →
    IsDue b functions given tables model now entries → passed b (scope_of functions given tables model) entries (visits now.nodes) ≡ [] →
    nat_le ((now.next + length (calculates entries)) + length (calculates entries)) (2 ^ 127) ≡ true →
    Since (λ k. k) (under (settled_now b functions given tables model now entries).next) [] [] b functions given tables model
    (then_of b functions given tables model (settled_now b functions given tables model now entries) entries) (settled_now b functions given tables model now entries) entries

-- where no tree is detached, what is no text stands in an instance
abbrev pub AloneStands : Type 0
AloneStands = (now : Forest) (n : ℕ) → in_detached now.nodes ≡ [] → IsSolid (visits now.nodes) n → IsSolid (standing now) n

-- and so do the nodes of entries
abbrev pub EntriesStand : Type 0
EntriesStand = (b : Bounds) (functions : Functions) (given : Given) (tables : Tables) (model : ℕ) (now : Forest) (entries : List Entry) →
    AreCovered tables → Surrounds (scope_of functions given tables model) b.string now → Applies functions given tables model now entries → in_detached now.nodes ≡ [] →
    AllOf (λ e. IsSolid (standing now) e.node) entries

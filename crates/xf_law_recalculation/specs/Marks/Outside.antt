-- What is not pertinent keeps its value: an entry outside those that a recalculation evaluates has over the data that stand now the value that
-- it had over those of the last recalculation. Numbers of nodes do not count there: texts that were set to what they were have other ones, and
-- a tree that was detached is not the one that stood.
use Rattle.std.specs.Prelude.{ℕ, ◌≡◌, true, false, List, ◌++◌, map, Option, Some, option_map}
use Rattle.std.specs.List.{list_any}
use Rattle.xf_def_syntax.specs.declared.expr.Expr.{Expr}
use Rattle.xf_def_forest.specs.Forest.{Forest}
use Rattle.xf_def_forest.specs.Visit.{Visit, visits, has}
use Rattle.xf_def_forest.specs.Shape.{shape}
use Rattle.xf_def_forest.specs.Same.{IsRenumbering}
use Rattle.xf_def_xpath.specs.declared.value.Value.{Value}
use Rattle.xf_def_xpath.specs.Given.{Document}
use Rattle.xf_def_xpath.specs.Conversions.{truth_of}
use Rattle.xf_def_xpath.specs.Same.{renumbered_value, renumbered_document}
use Rattle.xf_def_model.specs.Rules.{Scope, calls_place}
use Rattle.xf_def_model.specs.Applied.{Entry, is_calculate}
use Rattle.xf_def_model.specs.Entries.{value_of, text_of}
use Rattle.xf_def_model.specs.Pertinent.{Changes, Asking, asking, askings, stands_as, calculated_in, pertinent_of, is_pertinent}
use Rattle.xf_law_recalculation.specs.Agree.Settles.{IsSolid, Surrounds}
use Rattle.xf_law_recalculation.specs.Agree.Forests.{InBoth, over_second, renumbered_forest}
use Rattle.xf_law_recalculation.specs.Marks.Marks.{SameBut, IsUnmarked, IsOf}

-- ---- up to numbers

-- the entry that was there before: of the same attribute of the same bind, at the same place where the expression asks for that
pub record WasThere (f : ℕ → ℕ) (expr : Expr) (e old : Entry) : Type 0 where
  pub node : f old.node ≡ e.node
  pub property : old.property ≡ e.property
  pub bind : old.bind ≡ e.bind
  pub place : calls_place expr ≡ true → (old.position ≡ e.position) × (old.size ≡ e.size)

abbrev pub Premises : (ℕ → Scope → List Document → Forest → Forest → (ℕ → ℕ) → List ℕ → List ℕ → Entry → Entry → Expr → Type 0)
Premises most scope documents now before f texts lists e old expr =
    IsRenumbering f × Surrounds scope most now × SameBut texts lists scope (map (renumbered_document f) documents) now (renumbered_forest f before)
    × IsOf scope e expr × WasThere f expr e old × InBoth now (renumbered_forest f before) e.node × IsUnmarked texts lists scope now e

abbrev pub ButNumbersValue : Type 0
ButNumbersValue = (most : ℕ) (scope : Scope) (documents : List Document) (indexes : List (List ℕ × ℕ)) (event : Option (List (List ℕ × Value)))
    (now before : Forest) (f : ℕ → ℕ) (texts lists : List ℕ) (e old : Entry) (expr : Expr) → Premises most scope documents now before f texts lists e old expr →
    value_of (Some most) scope (visits now.nodes) e ≡ option_map (renumbered_value f) (value_of (Some most) (over_second scope documents indexes event) (visits before.nodes) old)

abbrev pub ButNumbersText : Type 0
ButNumbersText = (most : ℕ) (scope : Scope) (documents : List Document) (indexes : List (List ℕ × ℕ)) (event : Option (List (List ℕ × Value)))
    (now before : Forest) (f : ℕ → ℕ) (texts lists : List ℕ) (e old : Entry) (expr : Expr) → Premises most scope documents now before f texts lists e old expr →
    text_of (Some most) scope (visits now.nodes) e ≡ text_of (Some most) (over_second scope documents indexes event) (visits before.nodes) old

-- ---- outside the pertinent entries

abbrev pub shape_now : Forest → List Visit
shape_now now = shape (visits now.nodes)

-- what a recalculation of these entries evaluates
abbrev pub evaluated : Scope → Forest → Changes → List Entry → List Asking
evaluated scope now changes entries = pertinent_of (shape_now now) changes (askings scope (shape_now now) entries)

-- the nodes that may have another text once it is done
abbrev pub touched : Scope → Forest → Changes → List Entry → List ℕ
touched scope now changes entries = changes.texts ++ calculated_in (evaluated scope now changes entries)

abbrev pub IsOutside : Scope → Forest → Changes → List Entry → Entry → Type 0
IsOutside scope now changes entries e = is_pertinent (shape_now now) changes (askings scope (shape_now now) entries) (asking scope (shape_now now) e) ≡ false

-- an entry that stood then was one of a node that is no text, and has kept its number
abbrev pub HadNode : (ℕ → ℕ) → Forest → Entry → Type 0
HadNode f before old = IsSolid (visits before.nodes) old.node × (f old.node ≡ old.node)

-- it stood then, and a calculate's node has no other text
abbrev pub OutsideStood : Type 0
OutsideStood = (scope : Scope) (now : Forest) (changes : Changes) (entries : List Entry) (e : Entry) → IsOutside scope now changes entries e →
    (list_any (stands_as (asking scope (shape_now now) e)) changes.stood ≡ true) × (is_calculate e ≡ true → has e.node changes.texts ≡ false)

-- what happened between the two, with what the calculates of the recalculation may have given by now
pub record Since (f : ℕ → ℕ) (most : ℕ) (scope : Scope) (documents : List Document) (now before : Forest) (changes : Changes) (entries : List Entry) : Type 0 where
  pub renumbers : IsRenumbering f
  pub around : Surrounds scope most now
  pub same_but : SameBut (touched scope now changes entries) changes.lists scope (map (renumbered_document f) documents) now (renumbered_forest f before)

pub record OldOutside (f : ℕ → ℕ) (scope : Scope) (now before : Forest) (changes : Changes) (entries : List Entry) (e old : Entry) (expr : Expr) : Type 0 where
  pub of : IsOf scope e expr
  pub outside : IsOutside scope now changes entries e
  pub stands : stands_as (asking scope (shape_now now) e) old ≡ true
  pub node : IsSolid (visits now.nodes) e.node
  pub had : HadNode f before old

abbrev pub OutsideValue : Type 0
OutsideValue = (most : ℕ) (scope : Scope) (documents : List Document) (indexes : List (List ℕ × ℕ)) (event : Option (List (List ℕ × Value)))
    (now before : Forest) (f : ℕ → ℕ) (changes : Changes) (entries : List Entry) (e old : Entry) (expr : Expr) →
    Since f most scope documents now before changes entries → OldOutside f scope now before changes entries e old expr →
    value_of (Some most) scope (visits now.nodes) e ≡ option_map (renumbered_value f) (value_of (Some most) (over_second scope documents indexes event) (visits before.nodes) old)

-- so has it the truth, of which a model keeps that of then
abbrev pub OutsideTruth : Type 0
OutsideTruth = (most : ℕ) (scope : Scope) (documents : List Document) (indexes : List (List ℕ × ℕ)) (event : Option (List (List ℕ × Value)))
    (now before : Forest) (f : ℕ → ℕ) (changes : Changes) (entries : List Entry) (e old : Entry) (expr : Expr) →
    Since f most scope documents now before changes entries → OldOutside f scope now before changes entries e old expr →
    option_map truth_of (value_of (Some most) scope (visits now.nodes) e) ≡ option_map truth_of (value_of (Some most) (over_second scope documents indexes event) (visits before.nodes) old)

abbrev pub OutsideText : Type 0
OutsideText = (most : ℕ) (scope : Scope) (documents : List Document) (indexes : List (List ℕ × ℕ)) (event : Option (List (List ℕ × Value)))
    (now before : Forest) (f : ℕ → ℕ) (changes : Changes) (entries : List Entry) (e old : Entry) (expr : Expr) →
    Since f most scope documents now before changes entries → OldOutside f scope now before changes entries e old expr →
    text_of (Some most) scope (visits now.nodes) e ≡ text_of (Some most) (over_second scope documents indexes event) (visits before.nodes) old

-- Entries that are passed over (XForms 1.1, section 4.3.2 and appendix C): those that are not pertinent, where it is known how the data stand beside
-- those of the last recalculation.
use Rattle.std.specs.Prelude.{ℕ, ◌≡◌, Bool, true, false, not, List, Option, Some, None, get_or, slice_get}
use Rattle.xf_def_syntax.specs.declared.form.Bind.{Bind}
use Rattle.xf_def_syntax.specs.declared.form.Properties.{Properties}
use Rattle.xf_def_syntax.specs.declared.form.Tables.{Tables}
use Rattle.xf_def_forest.specs.Forest.{Forest}
use Rattle.xf_def_forest.specs.Visit.{Visit}
use Rattle.xf_funcs.specs.Called.{called}
use Rattle.xf_def_xpath.specs.Given.{Given}
use Rattle.xf_def_model.specs.declared.property.Property.TheVariants.{Calculate}
use Rattle.xf_def_model.specs.Rules.{Scope}
use Rattle.xf_def_model.specs.Applied.{Entry}
use Rattle.xf_def_model.specs.Entries.{is_computed}
use Rattle.xf_def_model.specs.Settled.{bounds}
use Rattle.xf_def_model.specs.Pertinent.{AllOf}
use Rattle.xf_law_recalculation.specs.Agree.FormSettles.{calculate_covered}
use Rattle.xf_law_recalculation.specs.Marks.Outside.{IsOutside}
use Rattle.xf_law_recalculation.specs.Since.Since.{Before, Since, changes_since}
use Rattle.xf_binds.specs.Held.{IsOnly, place_on}
use Rattle.xf_binds.specs.Kept.{Kept, entries_of, truth_in}
use Rattle.xf_recalc.specs.Known.{known_at}
use Rattle.xf_recalc.specs.Settles.{scope_in}
use Rattle.xf_recalc.specs.Turns.{truth_over}

-- ---- marks, by the places of the entries: past them each is evaluated

abbrev pub is_passed : List Bool → ℕ → Bool
is_passed marks place = not (get_or marks place true)

abbrev pub passed_at : List Bool → Option ℕ → Bool
passed_at marks None = false
passed_at marks (Some place) = is_passed marks place

-- the calculate of a node
abbrev pub passed_on : List Entry → List Bool → ℕ → Bool
passed_on entries marks n = passed_at marks (place_on entries n Calculate)

-- ---- what is known of an entry that is passed over

-- the law of two forests covers each expression
pub record AreCoveredIn (p : Properties) : Type 0 where
  pub calculate : calculate_covered p.calculate ≡ true
  pub relevant : calculate_covered p.relevant ≡ true
  pub readonly : calculate_covered p.readonly ≡ true
  pub required : calculate_covered p.required ≡ true
  pub constraint : calculate_covered p.constraint ≡ true

-- it is not pertinent, by what is known of the last recalculation, of which the table keeps what stood and what was marked since
pub record MayPass (given : Given) (tables : Tables) (model : ℕ) (now : Forest) (kept : Kept) (e : Entry) : Type 0 where
  pub f : ℕ → ℕ
  pub taken : ℕ → Bool
  pub was : Before
  pub since : Since f taken kept.texts kept.lists bounds called given tables model was now kept.entries
  pub stood : was.stood ≡ kept.stood
  pub covered : AllOf (λ (bind : Bind). AreCoveredIn bind.properties) tables.binds
  pub outside : IsOutside (scope_in given tables model) now (changes_since kept.texts kept.lists was) kept.entries e

-- of each that is passed over
abbrev pub ArePassed : Given → Tables → ℕ → Forest → Kept → List Bool → Type 0
ArePassed given tables model now kept marks =
    (place : ℕ) (e : Entry) → slice_get kept.entries place ≡ Some e → is_passed marks place ≡ true → is_computed e ≡ true → MayPass given tables model now kept e

-- ---- the truth that is kept

-- it is that of the entry that stood, of which there is one at most
abbrev pub IsKept : Kept → Option Entry → Option Bool → Type 0
IsKept k None truth = Unit {0}
IsKept k (Some e) None = Unit {0}
IsKept k (Some e) (Some b) = (is_computed e ≡ true) × ((found : Option Entry) × IsOnly (entries_of k.stood) e found) × (truth_in k e.property e.node ≡ Some (Some b))

-- what is known of an entry, where so many calculates stand before it
abbrev pub IsKnownBy : Bool → Kept → List (Option Bool) → ℕ → Option Entry → Option Bool → Type 0
IsKnownBy true k known place e truth = IsKept k e truth
IsKnownBy false k known place e truth = truth ≡ known_at e known place

-- over these visits the entries that are passed over have the truths that are kept
abbrev pub AreTrue : Scope → List Visit → Kept → List Bool → Type 0
AreTrue scope all kept marks =
    (place : ℕ) (e : Entry) (b : Bool) → slice_get kept.entries place ≡ Some e → is_passed marks place ≡ true → IsKept kept (Some e) (Some b) → truth_over scope all e ≡ Some (Some b)

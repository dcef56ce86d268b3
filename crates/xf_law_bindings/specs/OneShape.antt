-- What elements bind over the data of two forests that differ in texts alone: where all that is bound around an element, and by it, names nodes by
-- where they stand, it binds the same node over both.
use Rattle.std.specs.Prelude.{ℕ, ◌≡◌, Bool, List, [], ◌∷◌, Option, Some}
use Rattle.xf_def_forest.specs.declared.content.Node.{Node}
use Rattle.xf_def_forest.specs.Forest.{Forest}
use Rattle.xf_def_forest.specs.Shape.{shape_of}
use Rattle.xf_def_forest.specs.Visit.{visits}
use Rattle.xf_def_forest.specs.WellFormed.{HasTrees}
use Rattle.xf_def_values.specs.declared.plain.Plain.{Plain}
use Rattle.xf_def_values.specs.declared.plain.Plain.TheVariants as plain
use Rattle.xf_def_values.specs.Functions.{Functions}
use Rattle.xf_def_xpath.specs.Given.{Given, document_of}
use Rattle.xf_def_xpath.specs.Table.{function_at}
use Rattle.xf_def_xpath.specs.Table as of
use Rattle.xf_law_recalculation.specs.Agree.Settles.{AreHung, IsSolid}
use Rattle.xf_def_ui.specs.Interface.{Interface}
use Rattle.xf_def_ui.specs.Elements.{ancestors}
use Rattle.xf_def_ui.specs.Around.{Around}
use Rattle.xf_def_ui.specs.Copies.{node_of}
use Rattle.xf_law_bindings.specs.Fixed.{AllFixed}

-- what surrounds the expressions of a form over these nodes
abbrev pub over : Functions → Option ℕ → Given → (ℕ → Option (List ℕ)) → List Node → Around
over functions most given bound nodes = record { functions = functions; most = most; given = given; all = visits nodes; bound = bound }

pub record HaveOneShape (functions : Functions) (most : Option ℕ) (given : Given) (first second : Forest) : Type 0 where
  pub trees : HasTrees first
  pub trees_too : HasTrees second
  -- texts stand in elements
  pub hung : AreHung (visits first.nodes)
  pub hung_too : AreHung (visits second.nodes)
  pub shape : shape_of first.nodes ≡ shape_of second.nodes
  pub documents : (model : ℕ) (id : List ℕ) (n : ℕ) → document_of model id given.documents ≡ Some n → IsSolid (visits first.nodes) n
  -- functions give truths where they give truths
  pub truths : (code : ℕ) (ps : List Plain) (p : Plain) → function_at code ≡ of.asking → functions most given.decimals code ps ≡ Some p → (b : Bool) × (p ≡ plain.Truth b)

-- the node that an element binds is the same, whatever binds select
abbrev pub NodeStays : Type 0
NodeStays = (functions : Functions) (most : Option ℕ) (given : Given) (first second : Forest) (bound others : ℕ → Option (List ℕ)) (f : Interface) (n : ℕ) → HaveOneShape functions most given first second →
    AllFixed f (n ∷ ancestors f n) → node_of f (over functions most given bound first.nodes) [] n ≡ node_of f (over functions most given others second.nodes) [] n

-- and it stands in the data
abbrev pub NodeStands : Type 0
NodeStands = (functions : Functions) (most : Option ℕ) (given : Given) (first second : Forest) (bound : ℕ → Option (List ℕ)) (f : Interface) (n k : ℕ) → HaveOneShape functions most given first second →
    AllFixed f (n ∷ ancestors f n) → node_of f (over functions most given bound first.nodes) [] n ≡ Some (Some k) → IsSolid (visits second.nodes) k

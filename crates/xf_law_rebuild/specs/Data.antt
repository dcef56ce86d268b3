-- The data of a form with what surrounds its binds over them: outside an event, with the document elements of all instances.
use Rattle.std.specs.Prelude.{◌≡◌, ◌<◌, ◌^◌, true, List, None}
use Rattle.xf_def_syntax.specs.declared.form.Instance.{Instance}
use Rattle.xf_def_forest.specs.Forest.{Forest}
use Rattle.xf_def_forest.specs.WellFormed.{HasTrees}
use Rattle.xf_def_xpath.specs.Given.{Given}
use Rattle.xf_law_recalculation.specs.Agree.Hung.{are_hung}
use Rattle.xf_law_recalculation.specs.Document.Documents.{documents_at}
use Rattle.xf_law_recalculation.specs.Part.Whole.{with_documents}

-- a list of trees with texts in elements, whose numbers are no text's of a shape
pub record IsData (forest : Forest) : Type 0 where
  pub trees : HasTrees forest
  pub hung : are_hung forest.nodes ≡ true
  pub few : forest.next < 2 ^ 128

-- over each of two data the same is given but for document elements
abbrev pub SameBesides : Given → Given → Type 0
SameBesides before after = with_documents after.documents before ≡ after

-- what is given over all data
pub record Presents (instances : List Instance) (given : Forest → Given) : Type 0 where
  pub same : (before after : Forest) → SameBesides (given before) (given after)
  pub documents : (forest : Forest) → (given forest).documents ≡ documents_at instances forest.nodes
  pub quiet : (forest : Forest) → (given forest).event ≡ None

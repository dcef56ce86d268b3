-- The part of a model as a forest of its own: it tells which document elements the model has, and its shape is that of the whole there.
use Rattle.std.specs.Prelude.{ℕ, ◌≡◌, ◌^◌, true, List, nat_lt}
use Rattle.xf_def_syntax.specs.declared.form.Instance.{Instance}
use Rattle.xf_def_forest.specs.Forest.{Forest}
use Rattle.xf_def_forest.specs.Visit.{visits, has}
use Rattle.xf_def_forest.specs.Shape.{shape_of}
use Rattle.xf_def_forest.specs.WellFormed.{HasTrees}
use Rattle.xf_def_xpath.specs.Given.{Document, document_of}
use Rattle.xf_def_xpath.specs.Agree.{numbers_of}
use Rattle.xf_law_forests.specs.Root.Roots.{roots_in}
use Rattle.xf_law_recalculation.specs.Document.Documents.{documents_at}
use Rattle.xf_law_recalculation.specs.Elsewhere.Parts.{IsPart}

-- it is a list of trees
abbrev pub PartHasTrees : Type 0
PartHasTrees = (instances : List Instance) (model : ℕ) (part whole : Forest) → HasTrees whole → IsPart instances model part whole → HasTrees (record part { next = whole.next })

-- ---- document elements

-- both name the same document elements in the model
abbrev pub NameSame : ℕ → List Document → List Document → Type 0
NameSame model documents others = (id : List ℕ) → document_of model id documents ≡ document_of model id others

-- two forests with the same part have the same document elements of the model
abbrev pub DocumentsOfPart : Type 0
DocumentsOfPart = (instances : List Instance) (model : ℕ) (part before now : Forest) → HasTrees before → HasTrees now → IsPart instances model part before → IsPart instances model part now →
    NameSame model (documents_at instances before.nodes) (documents_at instances now.nodes)

-- ---- shapes

-- no node has the number of a text in a shape
abbrev pub AreLow : Forest → Type 0
AreLow forest = (k : ℕ) → has k (numbers_of (visits forest.nodes)) ≡ true → nat_lt k (2 ^ 128) ≡ true

-- where all shapes are the same, those of the parts are: as where texts are set, also in the part
abbrev pub ShapeOfPart : Type 0
ShapeOfPart = (instances : List Instance) (model : ℕ) (part after whole now : Forest) → HasTrees whole → HasTrees now → AreLow whole → AreLow now → IsPart instances model part whole → IsPart instances model after now →
    roots_in now.nodes ≡ roots_in whole.nodes → shape_of now.nodes ≡ shape_of whole.nodes → shape_of after.nodes ≡ shape_of part.nodes

use Rattle.xf_law_recalculation.proofs.HeldLemmas.Named.{part_has_trees, documents_of_part, shape_of_part}
use Rattle.xf_law_recalculation.proofs.held.part_is_forest.Goals as goal

pub returns-clause-trees : goal.returns-clause-trees
returns-clause-trees c = part_has_trees

pub returns-clause-documents : goal.returns-clause-documents
returns-clause-documents c = documents_of_part

pub returns-clause-shape : goal.returns-clause-shape
returns-clause-shape c = shape_of_part

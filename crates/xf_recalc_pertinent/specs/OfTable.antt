-- What is kept of a model, as a recalculation asks of it (XForms 1.1, section 4.3.2 and appendix C).
use Rattle.std.specs.Prelude.{◌≡◌, List, map}
use Rattle.xf_def_syntax.specs.declared.form.Tables.{Tables}
use Rattle.xf_def_forest.specs.declared.content.Node.{Node}
use Rattle.xf_def_forest.specs.Shape.{shape_of}
use Rattle.xf_def_model.specs.Rules.{Scope, rule_of}
use Rattle.xf_def_model.specs.Pertinent.{Changes}
use Rattle.xf_binds.specs.Kept.{Kept, entries_of}
use Rattle.xf_binds_rebuild.specs.Web.{asks_of}

-- the binds are those of the tables, and what is kept of each entry is what it asks over the shape of these nodes
pub record IsOfTable (scope : Scope) (tables : Tables) (nodes : List Node) (kept : Kept) : Type 0 where
  pub rules : scope.rules ≡ map rule_of tables.binds
  pub asks : kept.asks ≡ map (asks_of scope (shape_of nodes)) kept.entries

-- what happened since the last recalculation
abbrev pub changes_in : Kept → Changes
changes_in k = record { texts = k.texts; lists = k.lists; stood = entries_of k.stood }

-- Which entries a recalculation evaluates (XForms 1.1, section 4.3.2 and appendix C), by their places: a type is none of them.
use Rattle.std.specs.Prelude.{Bool, ◌&&◌, List, map}
use Rattle.xf_def_forest.specs.Visit.{Visit}
use Rattle.xf_def_model.specs.Rules.{Scope}
use Rattle.xf_def_model.specs.Applied.{Entry}
use Rattle.xf_def_model.specs.Entries.{is_computed}
use Rattle.xf_def_model.specs.Pertinent.{Changes, asking, askings, is_pertinent}

abbrev pub is_evaluated : Scope → List Visit → List Entry → Changes → Entry → Bool
is_evaluated scope all entries changes e = is_computed e && is_pertinent all changes (askings scope all entries) (asking scope all e)

-- over the visits of a shape
abbrev pub pertinent_marks : Scope → List Visit → List Entry → Changes → List Bool
pertinent_marks scope all entries changes = map (is_evaluated scope all entries changes) entries

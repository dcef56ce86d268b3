-- What the tallies of ids have counted.
use Rattle.std.specs.Prelude.{List}
use Rattle.xf_form_refusals.specs.Rows.{Seen}
use Rattle.xf_form_refusals.specs.Tally.{Counts}
use Rattle.xf_form_refusals.specs.declared.classes.Class.TheVariants as class
use Rattle.xf_form_explain.specs.declared.ids.Ids.{Ids}

-- each counts the elements of its kind
pub record HasCounts (ids : Ids) (all : List Seen) : Type 0 where
  pub outside : Counts ids.outside class.Outside all
  pub numbered : Counts ids.numbered class.Numbered all
  pub models : Counts ids.models class.Model all
  pub instances : Counts ids.instances class.Instance all
  pub binds : Counts ids.binds class.Bind all
  pub submissions : Counts ids.submissions class.Submission all
  pub repeats : Counts ids.repeats class.Repeat all
  pub cases : Counts ids.cases class.Case all
  pub controls : Counts ids.controls class.Control all

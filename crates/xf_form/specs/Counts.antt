-- How many elements of each kind stand before an element, as they are counted from the first to the last.
use Rattle.std.specs.Prelude.{◌≡◌, ◌+◌, List, [], ◌∷◌}
use Rattle.xf_form_refusals.specs.declared.classes.Class.TheVariants as class
use Rattle.xf_form_refusals.specs.Classes.{is_of}
use Rattle.xf_form_refusals.specs.Limits.{count_of}
use Rattle.xf_form_refusals.specs.Rows.{Seen}
use Rattle.xf_form_refusals.specs.Tally.{one_where}
use Rattle.xf_form.specs.declared.counts.Counts.{Counts}
use Rattle.xf_form.specs.declared.counts.Numbers.{Numbers}

-- among these elements
abbrev pub counted : List Seen → Counts
counted all = record {
  elements = count_of class.Numbered all;
  models = count_of class.Model all;
  instances = count_of class.Instance all;
  binds = count_of class.Bind all;
  submissions = count_of class.Submission all;
  repeats = count_of class.Repeat all;
  switches = count_of class.Switch all;
  controls = count_of class.Control all;
}

-- with one element more
abbrev pub with_one : Counts → Seen → Counts
with_one counts r = record {
  elements = counts.elements + one_where (is_of class.Numbered r);
  models = counts.models + one_where (is_of class.Model r);
  instances = counts.instances + one_where (is_of class.Instance r);
  binds = counts.binds + one_where (is_of class.Bind r);
  submissions = counts.submissions + one_where (is_of class.Submission r);
  repeats = counts.repeats + one_where (is_of class.Repeat r);
  switches = counts.switches + one_where (is_of class.Switch r);
  controls = counts.controls + one_where (is_of class.Control r);
}

-- before each of the elements, where so many stand before the first
abbrev pub counts_from : Counts → List Seen → List Counts
counts_from counts [] = []
counts_from counts (r ∷ rs) = counts ∷ counts_from (with_one counts r) rs

abbrev pub counts_after : Counts → List Seen → Counts
counts_after counts [] = counts
counts_after counts (r ∷ rs) = counts_after (with_one counts r) rs

-- before each of the elements, and among all of them
pub record AreNumbers (numbers : Numbers) (all : List Seen) : Type 0 where
  pub before_each : numbers.before.items ≡ counts_from (counted []) all
  pub whole : numbers.whole ≡ counts_after (counted []) all

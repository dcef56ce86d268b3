-- The limits of a form.
use Rattle.std.specs.Prelude.{ℕ, Bool, ◌||◌, nat_lt, if◌then◌else◌, List, codes, count_by, Option, Some, None}
use Rattle.std.specs.List.{list_any}
use Rattle.xf_base.specs.Limits.{model_limit, instance_limit, bind_limit, control_limit, depth_limit}
use Rattle.xf_form_refusals.specs.declared.classes.Class.{Class}
use Rattle.xf_form_refusals.specs.declared.classes.Class.TheVariants as class
use Rattle.xf_form_refusals.specs.Classes.{is_of}
use Rattle.xf_form_refusals.specs.Rows.{Seen}

abbrev pub count_of : Class → List Seen → ℕ
count_of c all = count_by (is_of c) all

-- more models, instances, binds, or controls and containers than a form may have
abbrev pub has_too_many : List Seen → Bool
has_too_many all =
    nat_lt model_limit (count_of class.Model all) || nat_lt instance_limit (count_of class.Instance all)
    || nat_lt bind_limit (count_of class.Bind all) || nat_lt control_limit (count_of class.Control all)

abbrev pub is_too_deep : Seen → Bool
is_too_deep r = nat_lt depth_limit r.standing.depth

-- the word of the first limit that is passed
abbrev pub limit_of : List Seen → Option (List ℕ)
limit_of all = if has_too_many all then Some (codes "counts") else (if list_any is_too_deep all then Some (codes "depth") else None)

-- What expressions are evaluated over outside an event, with indexes (XForms 1.1, section 9.3.1).
use Rattle.std.specs.Prelude.{◌≡◌, List}
use Rattle.xf_def_ui.specs.Index.{Index, seeing}
use Rattle.xf_def_ui.specs.Interface.{interface_of}
use Rattle.xf_eval_context.specs.declared.over.Over.{Over}
use Rattle.xf_eval_context.specs.Over.{around_over}

-- the same form, and what surrounds its expressions with these indexes
pub record Sees (o before : Over) (indexes : List Index) : Type 0 where
  pub interface : interface_of o.form.now ≡ interface_of before.form.now
  pub around : around_over o ≡ seeing (interface_of before.form.now) indexes (around_over before)

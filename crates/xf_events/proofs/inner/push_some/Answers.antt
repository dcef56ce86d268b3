use Rattle.std.proofs.Common.{◌++◌, sym, ap, ◌∙◌}
use Rattle.std.proofs.lemmas.List.{append-nil}
use Rattle.xf_def_xpath.specs.Binding.{as_list}
use Rattle.xf_events.proofs.inner.push_some.Goals as goal

pub returns-in-None : goal.returns-in-None
returns-in-None c = sym (append-nil c.args.all.now) ∙ ap (λ o. c.args.all.now ++ as_list o) (sym c.in-None.is)

use Rattle.std.proofs.Common.{◌∙◌, ap}
use Rattle.xf_num.specs.Written.{trimmed}
use Rattle.xf_dates.specs.Durations.{duration_in}
use Rattle.xf_dates.proofs.durations.duration.Goals as goal

pub returns : goal.returns
returns c = c.duration_in.ensures ∙ ap (duration_in c.args.decimals) (c.trimmed.ensures ∙ ap trimmed c.as_bytes.ensures.value)

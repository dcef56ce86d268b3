use Rattle.std.proofs.Common.{refl}
use Rattle.std.proofs.lemmas.Str.{encodes-chars}
use Rattle.xf_funcs.proofs.text.past.Goals as goal

pub loop-left-init : goal.loop-left-init
loop-left-init c = (refl, encodes-chars c.args.text.now c.utf8.text, c.utf8.text)

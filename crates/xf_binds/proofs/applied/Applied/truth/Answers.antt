use Rattle.std.proofs.Common.{Some, None, refl}
use Rattle.xf_binds.specs.Held.{entry_of}
use Rattle.xf_binds.specs.Kept.{valued_in}
use Rattle.xf_binds.proofs.Items.{truth-item}
use Rattle.xf_binds.proofs.applied.Applied.truth.Goals as goal

pub returns-in-Some : goal.returns-in-Some
returns-in-Some c = truth-item c.args.self.now (valued_in c.args.self.now) (entry_of c.args.entry.now) (Some c.in-Some.item) c.requires refl c.in-Some.ensures

pub returns-in-None : goal.returns-in-None
returns-in-None c = truth-item c.args.self.now (valued_in c.args.self.now) (entry_of c.args.entry.now) None c.requires refl c.in-None.ensures

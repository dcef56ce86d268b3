use Rattle.std.proofs.Common.{Some, None, ap}
use Rattle.xf_name.proofs.TableLemmas.{space_found}
use Rattle.xf_name.proofs.prefixes.Prefixes.space_of.Goals as goal

pub returns-in-Some : goal.returns-in-Some
returns-in-Some c = space_found c.args.self.now c.args.uri.now c.self.inside.spaces.keys (Some c.in-Some.at) (ap (λ b. b.spaces) c.self.view_is) c.if-eq.ensures c.in-Some.ensures.index

pub returns-in-None : goal.returns-in-None
returns-in-None c = space_found c.args.self.now c.args.uri.now c.self.inside.spaces.keys None (ap (λ b. b.spaces) c.self.view_is) c.if-eq.ensures c.in-None.ensures.index

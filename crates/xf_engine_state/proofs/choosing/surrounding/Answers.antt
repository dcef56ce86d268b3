use Rattle.std.proofs.Common.{refl}
use Rattle.xf_engine_state.proofs.ChoosingLaws.{surrounds}
use Rattle.xf_engine_state.proofs.choosing.surrounding.Goals as goal

pub returns : goal.returns
returns c = λ s h. surrounds _ c.args.loaded.now.form c.args.loaded.now.prefixes c.args.forest.now.forest refl refl s h

use Rattle.std.proofs.Common.{ap}
use Rattle.xf_io.proofs.Steps.{skip_seen}
use Rattle.xf_io.proofs.lines.Lines.skip.Goals as goal

pub returns-clause-bytes : goal.returns-clause-bytes
returns-clause-bytes c =
    skip_seen c.args.count c.self.inside.start c.self.inside.end c.self.inside.buffer c.args.self.now.bytes (ap (λ ahead. ahead.bytes) c.self.view_is) c.requires.there

use Rattle.std.proofs.Common.{◌-◌, ◌<◌, length, subst, refl}
use Rattle.xf_io.proofs.Parts.{open-append, kept_long, kept_past, grown_if_ok}
use Rattle.xf_io.proofs.part.Part.extend.Goals.{then-self-via-then-self, then-self-via-else-self+then-more-len}
use Rattle.xf_io.proofs.part.Part.extend.Goals as goal

pub returns-then-self : goal.returns-then-self
returns-then-self c bytes part = record {
  without_line_feed = open-append bytes c.args.more.now part.without_line_feed c.requires;
  kept = elim c.then-self.branch [
    | then-self-via-then-self w ↦ kept_long c.args.self.now.long bytes c.args.self.now.kept c.args.more.now part.kept w.if-self.true
    | then-self-via-else-self+then-more-len w ↦ kept_past c.args.self.now.long bytes c.args.self.now.kept c.args.more.now part.kept (subst (λ n. 65536 - n < length c.args.more.now) w.len.ensures w.if-more-len.true)
  ];
}

pub returns : goal.returns
returns c = grown_if_ok c.extend.result c.args.self.now _ c.args.more.now c.requires c.if-self.false c.extend.ensures.ok refl

use Rattle.std.proofs.Common.{ap, ◌∙◌}
use Rattle.xf_binds.specs.Held.{entries_in}
use Rattle.xf_binds.specs.Kept.{Kept}
use Rattle.xf_binds.specs.Since.{built_more, kept_of, was_of}
use Rattle.xf_binds.proofs.Sinces.{rebuilt-is}
use Rattle.xf_binds.proofs.kept.Kept.rebuild.Goals as goal

pub returns : goal.returns
returns c =
    let w = (was_of c.self.inside.present c.self.inside.stood c.self.inside.invalid c.self.inside.texts c.self.inside.texts_kept c.self.inside.lists c.self.inside.lists_kept) in
    ap (λ s. kept_of c.self.inside.present c.self.inside.stood c.self.inside.invalid c.self.inside.checked c.self.inside.texts c.self.inside.lists c.self.inside.late_texts c.self.inside.late_lists s w) (c.built.ensures ∙ ap (built_more c.args.present) c.replace-since.ensures.value)
    ∙ rebuilt-is c.self.inside.present c.self.inside.stood c.self.inside.invalid c.self.inside.checked c.self.inside.texts c.self.inside.lists c.self.inside.late_texts c.self.inside.late_lists w c.args.present c.self.inside.since
    ∙ ap (λ (k : Kept). record k { entries = entries_in c.args.present.held; asks = c.args.present.asks }) c.self.view_is

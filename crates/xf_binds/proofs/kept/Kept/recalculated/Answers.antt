use Rattle.std.proofs.Common.{[], ap, ◌∙◌}
use Rattle.xf_binds.specs.Kept.{recalculated}
use Rattle.xf_binds.specs.Since.{kept_of, told_more, was_of}
use Rattle.xf_binds.proofs.Sinces.{told-is}
use Rattle.xf_binds.proofs.kept.Kept.recalculated.Goals as goal

pub returns : goal.returns
returns c =
    let w = (was_of c.self.inside.present c.self.inside.stood c.self.inside.invalid c.self.inside.texts c.self.inside.texts_kept c.self.inside.lists c.self.inside.lists_kept) in
    ap (λ s. kept_of c.self.inside.present c.self.inside.stood c.self.inside.invalid c.self.inside.checked c.self.inside.texts c.self.inside.lists c.clear.new.self c.clear-2.new.self s w) (c.told.ensures ∙ ap (told_more c.args.truths) c.replace-since.ensures.value)
    ∙ ap (λ l. kept_of c.self.inside.present c.self.inside.stood c.self.inside.invalid c.self.inside.checked c.self.inside.texts c.self.inside.lists l c.clear-2.new.self (told_more c.args.truths c.self.inside.since) w) c.clear.ensures
    ∙ ap (λ l. kept_of c.self.inside.present c.self.inside.stood c.self.inside.invalid c.self.inside.checked c.self.inside.texts c.self.inside.lists [] l (told_more c.args.truths c.self.inside.since) w) c.clear-2.ensures
    ∙ told-is c.self.inside.present c.self.inside.stood c.self.inside.invalid c.self.inside.checked c.self.inside.texts c.self.inside.lists c.self.inside.late_texts c.self.inside.late_lists w c.args.truths c.self.inside.since
    ∙ ap (recalculated c.args.truths) c.self.view_is

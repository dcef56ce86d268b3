use Rattle.std.proofs.Common.{◌≡◌, ◌<◌, ◌==◌, suc, length, take, get_or, ap, ◌∙◌, arith}
use Rattle.std.specs.Prelude.{count_by}
use Rattle.std.proofs.lemmas.Option.{slice_get-get_or}
use Rattle.xf_def_syntax.specs.declared.form.Instance.{Instance}
use Rattle.xf_tree_paths.proofs.PairLaws.{pair-found}
use Rattle.xf_tree_paths.proofs.pair.pair_among.Goals as goal

pub returns : goal.returns
returns c =
    let xs = c.args.instances.now in
    let i = get_or xs c.args.place c.index-instances-place.result in
    let h : c.args.place < length xs = omega arith in
    let end : c.loop-at.at ≡ c.args.place = omega arith in
    pair-found xs c.args.place c.loop-at.number i (slice_get-get_or xs c.args.place c.index-instances-place.result h)
    (c.loop-at.invariant ∙ ap (λ k. suc (count_by (λ (j : Instance). j.model == i.model) (take k xs))) end)

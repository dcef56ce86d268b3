use Rattle.std.proofs.Common.{◌≡◌, false, ◌∷◌, ◌++◌, sym, ap, ◌∙◌, not, string_bytes, rules}
use Rattle.std.specs.Prelude.{chars, encode_utf8_all}
use Rattle.xf_num.specs.Written.{is_empty}
use Rattle.xf_types.proofs.SpaceLemmas.{onward, pushed, all_pushed}
use Rattle.xf_types.proofs.spaces.normalized.Goals as goal

pub returns : goal.returns
returns c =
    all_pushed (string_bytes c.loop-c.made) c.args.text.now c.loop-c.left.now (not (is_empty (string_bytes c.loop-c.made))) c.loop-c.space_due c.in_default.ensures.0
    c.loop-c.invariant.0

pub loop-c-preserved : goal.loop-c-preserved
loop-c-preserved c =
    let made = string_bytes c.loop-c.made in
    let begun = not (is_empty made) in
    let due = c.loop-c.space_due in
    let whole = encode_utf8_all (onward false false (chars c.args.text.now)) in
    let before : made ++ encode_utf8_all (onward begun due (c.in-Some.c ∷ chars c.in-Some.rest.now)) ≡ whole =
    ap (λ cs. made ++ encode_utf8_all (onward begun due cs)) (sym c.in-Some.ensures.0) ∙ c.loop-c.invariant.0 in (
      pushed made (string_bytes c.push.new.made) (chars c.in-Some.rest.now) whole c.in-Some.c begun due (sym c.if-is_space.ensures) c.in_ok-push.ensures before,
      search rules,
    )

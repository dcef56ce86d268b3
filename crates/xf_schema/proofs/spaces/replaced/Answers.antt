use Rattle.std.proofs.Common.{map, string_bytes, rules}
use Rattle.std.specs.Prelude.{chars, encode_utf8_all}
use Rattle.xf_schema.specs.Spaces.{as_space}
use Rattle.xf_schema.proofs.SpaceLaws.{one-replaced, all-replaced}
use Rattle.xf_schema.proofs.spaces.replaced.Goals as goal

pub returns : goal.returns
returns c =
    all-replaced (string_bytes c.loop-c.made) (encode_utf8_all (map as_space (chars c.args.text.now))) (chars c.loop-c.left.now) c.in_default.ensures.0 c.loop-c.invariant.0

pub loop-c-preserved : goal.loop-c-preserved
loop-c-preserved c = (
  one-replaced (string_bytes c.loop-c.made) (string_bytes c.push.new.self) (encode_utf8_all (map as_space (chars c.args.text.now))) (chars c.in-Some.rest.now) (chars c.loop-c.left.now) c.in-Some.c
      c.as_space.result c.as_space.ensures c.in_ok-push.ensures.bytes c.in-Some.ensures.0 c.loop-c.invariant.0,
  search rules,
)

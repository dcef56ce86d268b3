use Rattle.std.proofs.Common.{ap, sym, ◌∙◌, ◌^◌}
use Rattle.std.specs.Prelude.{◌&&◌, nat_lt}
use Rattle.std.proofs.lemmas.Bool.{and_from, lt-ltb}
use Rattle.std.proofs.lemmas.Str.{is_utf8-from_IsUtf8}
use Rattle.std.specs.Str.{is_utf8}
use Rattle.xf_snap.proofs.writing.put_name.Goals as goal

pub returns-clause-typed : goal.returns-clause-typed
returns-clause-typed c =
    let name = c.args.name.now in
    let local = ap is_utf8 (sym c.as_str-local.ensures) ∙ is_utf8-from_IsUtf8 c.as_str-local.result.now c.as_str-local.utf8 in
    and_from (nat_lt name.space (2 ^ 16) && nat_lt name.prefix (2 ^ 16)) (is_utf8 name.local)
    (and_from (nat_lt name.space (2 ^ 16)) (nat_lt name.prefix (2 ^ 16)) (lt-ltb name.space (2 ^ 16) c.two.ensures.small) (lt-ltb name.prefix (2 ^ 16) c.two-2.ensures.small)) local

use Rattle.std.proofs.Common.{ap, sym, ◌∙◌}
use Rattle.std.proofs.lemmas.Str.{is_utf8-from_IsUtf8}
use Rattle.std.specs.Str.{is_utf8}
use Rattle.xf_snap.proofs.writing.put_text.Goals as goal

pub returns-clause-typed : goal.returns-clause-typed
returns-clause-typed c = ap is_utf8 (sym c.as_str-text.ensures) ∙ is_utf8-from_IsUtf8 c.as_str-text.result.now c.as_str-text.utf8

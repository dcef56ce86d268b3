use Rattle.std.proofs.Common.{◌++◌, take, arith, length-append, length-take}
use Rattle.std.proofs.KnownBytes.{Consumes-trans}
use Rattle.xf_cli_commands.proofs.form.read_form.Goals as goal

pub returns-then-is_err-clause-left : goal.returns-then-is_err-clause-left
returns-then-is_err-clause-left g c =
    let so_far = c.loop-buffer.invariant in
    let more = take c.in-Ok.count c.read.new.into in
    let read = c.in-Ok.ensures.bound in
    let room = length-take c.min-room.result c.loop-buffer.buffer in (
      c.loop-buffer.bytes ++ more,
      Consumes-trans _ _ _ c.loop-buffer.bytes more so_far.taken c.in-Ok.ensures.bytes.0,
      omega (arith, length-append c.loop-buffer.bytes more, read.0, read.1, c.read.auto.into, room, c.min-room.ensures, c.len-in-loop-buffer.ensures, so_far.within),
    )

use Rattle.std.proofs.Common.{◌∙◌, ap, sym, min}
use Rattle.xf_io.proofs.Known.{read_front}
use Rattle.xf_io.proofs.memory.MemorySourceSource.read.Goals as goal

pub returns-clause-bytes : goal.returns-clause-bytes
returns-clause-bytes c =
    let most = c.self.inside.piece in
    let read =
    read_front c.self.inside.held.items c.args.into.now c.copy_from_slice.new.self c.self.inside.at most c.min-count.result
    (c.min-count.ensures ∙ ap (λ n. min n most) (rw (← c.deref.ensures.value) c.min.ensures)) c.self.invariant.1 (rw (← c.deref.ensures.value) c.copy_from_slice.ensures.after) in
    (sym (ap (λ s. s.left) c.self.view_is) ∙ read.0, read.1)

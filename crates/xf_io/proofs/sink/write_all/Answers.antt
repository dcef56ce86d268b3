use Rattle.std.proofs.Common.{◌≡◌, ◌+◌, ◌-◌, ◌++◌, ◌∙◌, ap, length, take, drop, arith, length-drop, sym, take-append-drop, List, ℕ}
use Rattle.std.proofs.KnownBytes.{Appends-trans, Appends-kept}
use Rattle.std.proofs.Math.Seq.{take-add}
use Rattle.xf_io.specs.Front.{AppendsFront}
use Rattle.xf_io.proofs.Known.{rest_from, on_err, flushes-trans}
use Rattle.xf_io.proofs.sink.write_all.Goals as goal

pub loop-done-preserved : goal.loop-done-preserved
loop-done-preserved g c =
    let kept = c.loop-done.invariant in
    let done = c.loop-done.done in
    let count = c.in_ok-count.count in
    let bytes : List ℕ = c.args.bytes.now in
    let both = Appends-trans _ _ _ _ _ kept.1 c.in_ok-count.ensures.bytes in
    let joined : take (done + count) bytes ≡ take done bytes ++ take count (take (length bytes - done) (drop done bytes)) =
    take-add done count bytes ∙ ap (λ l. take done bytes ++ take count l) (sym (rest_from bytes done)) in (
      omega (arith, c.in_ok-count.ensures.bound, ap length (rest_from bytes done), length-drop done bytes),
      rw joined both,
      c.in_ok-count.ensures.steady ∙ kept.2,
      flushes-trans _ _ _ kept.3 c.in_ok-count.ensures.flushed,
    )

pub returns-in_err-count-clause-err : goal.returns-in_err-count-clause-err
returns-in_err-count-clause-err g c =
    let kept = c.loop-done.invariant in
    let bytes : List ℕ = c.args.bytes.now in
    let front : AppendsFront (g.O.Sink.taken c.args.out.now) (g.O.Sink.taken c.write.new.self) bytes =
    (take c.loop-done.done bytes, drop c.loop-done.done bytes, sym (take-append-drop c.loop-done.done bytes), Appends-kept _ _ _ _ kept.1 c.in_err-count.ensures.bytes) in
    on_err _ _ front

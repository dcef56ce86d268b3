use Rattle.std.proofs.Common.{◌≡◌, ◌==◌, ◌&&◌, ◌||◌, ◌∙◌, ap, sym, take, arith}
use Rattle.xf_def_forest.specs.Visit.{has}
use Rattle.xf_binds.specs.declared.web.Asks.{Asks}
use Rattle.std.proofs.lemmas.List.{length-map}
use Rattle.xf_binds.specs.Held.{Held, entries_in}
use Rattle.xf_binds.specs.Readers.{asks_at, asks_or, readers_at, reads_at}
use Rattle.xf_binds.proofs.Readings.{reads-next}
use Rattle.xf_binds.proofs.readers.readers_of.Goals as goal
use Rattle.xf_binds.proofs.readers.readers_of.Goals.{in-Some+in_ok-add_all-in-Some, in-None}

pub loop-place-preserved : goal.loop-place-preserved
loop-place-preserved c = λ n other.
    let entries = entries_in c.args.applied.now in
    let web = c.args.web.now in
    let at = c.loop-place.place in
    let rest = reads_at (take at entries) web other n in
    let told : has other (readers_at c.match-get.readers n) ≡ ((has n (asks_at web at).reads && (at == other)) || rest) = elim c.match-get.branch [
      | in-Some+in_ok-add_all-in-Some w ↦
          ap (λ r. has other (readers_at r n)) w.readers-is
          ∙ w.in_ok-add_all-in-Some.ensures n other
          ∙ ap (λ ns. (has n ns && (at == other)) || has other (readers_at c.loop-place.readers n)) (w.as_slice.ensures ∙ ap (λ (a : Asks). a.reads) (ap asks_or w.in-Some.ensures))
          ∙ ap (λ b. (has n (asks_at web at).reads && (at == other)) || b) (c.loop-place.invariant n other)
      | in-None w ↦
          ap (λ r. has other (readers_at r n)) w.readers-is
          ∙ c.loop-place.invariant n other
          ∙ ap (λ (a : Asks). (has n a.reads && (at == other)) || rest) (ap asks_or w.in-None.ensures)
    ] in
    told ∙ sym (reads-next entries web at other n (let e = length-map c.args.applied.now (λ (h : Held). h.entry) in omega (arith, c.loop-place-test.true, c.len-place-end.ensures, e)))

use Rattle.std.proofs.Common.{◌≡◌, ◌+◌, ◌<◌, ◌++◌, [], ◌∷◌, length, take, sym, ap, ◌∙◌, arith}
use Rattle.std.proofs.lemmas.List.{length-map}
use Rattle.std.specs.Prelude.{slice_get}
use Rattle.xf_def_model.specs.Settled.{calculates}
use Rattle.xf_binds.specs.Held.{Held, entries_in}
use Rattle.xf_binds.specs.Placed.{is_calculate_at, places_from}
use Rattle.xf_binds.proofs.Placings.{counted, one_if, places-next, plus-none}
use Rattle.xf_binds.proofs.turns.places_of.Goals as goal
use Rattle.xf_binds.proofs.turns.places_of.Goals.{then-is_calculate, else-is_calculate}

pub loop-at-preserved : goal.loop-at-preserved
loop-at-preserved c =
    let entries = entries_in c.args.applied.now in
    let at = c.loop-at.at in
    let old = c.loop-at.invariant in
    let here : c.is_calculate.result ≡ is_calculate_at (slice_get entries at) = c.is_calculate.ensures ∙ ap is_calculate_at c.entry.ensures in
    let less : at < length entries = omega (arith, c.loop-at-test.true, c.len-at-end.ensures, length-map c.args.applied.now (λ (h : Held). h.entry)) in
    let places =
    c.in_ok-push.ensures.items ∙ ap (λ l. l ++ c.loop-at.count ∷ []) old.places ∙ ap (λ n. places_from 0 (take at entries) ++ n ∷ []) old.so_far ∙ sym (places-next at entries less) in
    elim c.if-is_calculate.branch [
      | then-is_calculate w ↦
          let more = counted entries at ∙ ap (λ b. length (calculates (take at entries)) + one_if b) (sym here ∙ w.if-is_calculate.true) in
          record { places = places; so_far = w.count-is ∙ ap (λ n. n + 1) old.so_far ∙ sym more; few = let f = old.few in let i = w.count-is in omega (arith, f, i) }
      | else-is_calculate w ↦
          let more = counted entries at ∙ ap (λ b. length (calculates (take at entries)) + one_if b) (sym here ∙ w.if-is_calculate.false) in
          record {
            places = places;
            so_far = w.count-is ∙ old.so_far ∙ sym (more ∙ plus-none (length (calculates (take at entries))));
            few = let f = old.few in let i = w.count-is in omega (arith, f, i);
          }
    ]

-- The indexes of a state that are brought up to date are placed, and no change of them changes how many there are.
use Rattle.std.proofs.Common.{◌≡◌, ℕ, ◌==◌, true, List, [], length, Option, Some, None, Result, Ok, Err, refl, ap, ◌∙◌, subst}
use Rattle.std.specs.List.{list_all}
use Rattle.xf_def_ui.specs.Index.{Index, Stop, index_of, rows_now, brought_up}
use Rattle.xf_def_ui.specs.Started as ui
use Rattle.xf_def_machine.specs.AtRest.{are_placed, is_placed_in}
use Rattle.xf_def_machine.specs.Choose.{set_index}
use Rattle.xf_def_machine.specs.Flow.{◌>>=◌}
use Rattle.xf_def_machine.specs.Primitives.{with_indexes, in_model, refresh_due}
use Rattle.xf_def_machine.specs.Profile.{Profile}
use Rattle.xf_def_machine.specs.Refusal.{Refused, or_long}
use Rattle.xf_def_machine.specs.State.{State}
use Rattle.xf_def_machine.specs.Surround.{interface, quiet}
use Rattle.xf_def_machine.specs.Update.{reindex, with_brought}
use Rattle.xf_law_sessions.specs.Shown.Brought.{HasIndexes, BroughtArePlaced, StartedArePlaced, KeepsIndexes, IndexLaws}
use Rattle.xf_law_sessions.proofs.ShownLemmas.Brought.{both, self, brought-placed, brought-length, started-length, set-index-length}
use Rattle.xf_law_sessions.proofs.ShownLemmas.Placed.{in-turn}

brought-state : (p : Profile) (s t : State) (r : Result (List Index) Stop) → with_brought s r ≡ Ok t → (js : List Index) × ((r ≡ Ok js) × (with_indexes js s ≡ t))
brought-state p s t (Err stop) e = cc e
brought-state p s t (Ok js) e = (js, (refl, (let same : with_indexes js s ≡ t = cc e in same)))

pub brought_placed : BroughtArePlaced
brought_placed p s t form h e =
    let f = interface s in
    let b = brought-state p s t (brought_up p.passes f (quiet p s) [] s.indexes) e in
    let placed = brought-placed f (quiet p s) (in-turn s.form form) p.passes s.indexes b.0 h b.1.0 in
    subst (λ u. are_placed p u ≡ true) b.1.1
    (both (length b.0 == length f.repeats) (list_all (λ r. is_placed_in (rows_now f (quiet p s) b.0 r) (index_of f b.0 r)) f.repeats)
    (ap (λ k. k == length f.repeats) placed.0 ∙ self (length f.repeats)) placed.1)

started-state : (s t : State) (o : Option (List Index)) (run : List Index → Result State Refused) → (or_long s o >>= run) ≡ Ok t → (js : List Index) × ((o ≡ Some js) × (run js ≡ Ok t))
started-state s t None run e = cc e
started-state s t (Some js) run e = (js, (refl, e))

pub started_placed : StartedArePlaced
started_placed p s t form e =
    let f = interface s in
    let b = started-state s t (ui.started f (quiet p s)) (λ indexes. reindex p [] (with_indexes indexes s)) e in
    brought_placed p (with_indexes b.0 s) t form (started-length f (quiet p s) b.0 b.1.0) b.1.1

reindex-keeps : (p : Profile) (added : List ℕ) → KeepsIndexes (reindex p added)
reindex-keeps p added s t h e =
    let f = interface s in
    let b = brought-state p s t (brought_up p.passes f (quiet p s) added s.indexes) e in
    subst (λ u. HasIndexes u) b.1.1 (brought-length f (quiet p s) p.passes added s.indexes b.0 b.1.0 ∙ h)

set-keeps : (p : Profile) (model r n : ℕ) → KeepsIndexes (set_index p model r n)
set-keeps p model r n s t h e =
    let f = interface s in
    let b = started-state s t (ui.index_set f (quiet p s) r n s.indexes) (λ indexes. Ok (in_model refresh_due model (with_indexes indexes s))) e in
    let same : in_model refresh_due model (with_indexes b.0 s) ≡ t = cc (b.1.1) in
    subst (λ u. HasIndexes u) same (set-index-length f (quiet p s) r n s.indexes b.0 b.1.0 ∙ h)

pub index_laws : IndexLaws
index_laws = record { reindex = reindex-keeps; set_index = set-keeps }

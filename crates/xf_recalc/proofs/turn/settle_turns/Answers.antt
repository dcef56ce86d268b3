use Rattle.std.proofs.Common.{◌≡◌, ◌+◌, ◌<◌, ◌^◌, [], Some, map, length, take, take_all, drop, get_or, refl, sym, ap, ◌∙◌, subst, arith, inl, inr}
use Rattle.std.proofs.lemmas.List.{take_more}
use Rattle.std.proofs.lemmas.Result.{err_from_is_err_and}
use Rattle.xf_base.specs.Limits.{string_limit}
use Rattle.xf_def_forest.specs.Visit.{visits}
use Rattle.xf_def_model.specs.declared.property.Property.TheVariants.{Calculate}
use Rattle.xf_def_model.specs.Entries.{text_of}
use Rattle.xf_def_model.specs.Settled.{calculates}
use Rattle.xf_eval.specs.Live.{AroundStands}
use Rattle.xf_undo.specs.Draft.{IsUnused}
use Rattle.xf_binds.specs.Held.{place_on}
use Rattle.xf_binds.specs.Placed.{IsSeatedIn}
use Rattle.xf_binds.specs.Table.{kept_at}
use Rattle.xf_recalc.specs.Known.{AreKnown}
use Rattle.xf_recalc.specs.Passes.{passed_at}
use Rattle.xf_recalc.specs.Settles.{IsLeft, IsTold, contents_in, scope_in, settled_forest, words_of}
use Rattle.xf_recalc.specs.Turns.{entry_in, turned}
use Rattle.xf_recalc.proofs.Known.{none-known}
use Rattle.xf_recalc.proofs.Left.{left-none}
use Rattle.xf_recalc.proofs.ListLemmas.{all-got, done_by, split-at}
use Rattle.xf_recalc.proofs.Passing.{passed-place}
use Rattle.xf_recalc.proofs.Surroundings.{stands-now}
use Rattle.xf_recalc.proofs.Turning.{Going, ended, in-turn, may-write, no_turn, one-told, pass, placed, refused, settable, start, step, turned-kept, unused}
use Rattle.xf_recalc.proofs.turn.settle_turns.Goals as goal

pub loop-turn-init : goal.loop-turn-init
loop-turn-init g c =
    let given = g.A.Around.given c.args.around.now in
    let entries = (kept_at c.args.table.now c.args.model).entries in
    let scope = scope_in given c.args.tables.now c.args.model in
    let d = c.args.draft.now in
    let few : length (calculates entries) < 2 ^ 32 = let fits = c.ranges.count.fits in let is = c.requires.count in omega (arith, fits, is) in
    record {
      going = subst (Going scope entries d.now []) (sym c.reserve_numbers.ensures)
          (start given c.args.tables.now c.args.model d.now entries c.requires.may c.args.turns.now c.requires.turns few d c.args.count refl c.requires.count);
      kept = ap (λ x. x.kept) c.reserve_numbers.ensures;
      known = subst (AreKnown scope (visits (settled_forest scope entries d.now).nodes) entries) (sym c.in_ok-truths.ensures)
          (none-known scope (visits (settled_forest scope entries d.now).nodes) entries c.args.count);
    }

pub settle_turn-requires-clause-stands : goal.settle_turn-requires-clause-stands
settle_turn-requires-clause-stands g c =
    let given = g.A.Around.given c.args.around.now in
    let entries = (kept_at c.args.table.now c.args.model).entries in
    let scope = scope_in given c.args.tables.now c.args.model in
    let d = c.args.draft.now in
    let few : length (calculates entries) < 2 ^ 32 = let fits = c.ranges.count.fits in let is = c.requires.count in omega (arith, fits, is) in
    subst (AroundStands given) (sym c.loop-turn.invariant.going.nodes)
    (stands-now given c.args.tables.now c.args.model d.now entries c.requires.may (done_by (map entry_in (take c.loop-turn.turn-index c.args.turns.now))) (contents_in scope entries d.now)
    (may-write given c.args.tables.now c.args.model d.now entries c.requires.may c.args.turns.now c.requires.turns few))

pub settle_turn-requires-clause-may : goal.settle_turn-requires-clause-may
settle_turn-requires-clause-may g c =
    let given = g.A.Around.given c.args.around.now in
    let entries = (kept_at c.args.table.now c.args.model).entries in
    let d = c.args.draft.now in
    let k = c.loop-turn.turn-index in
    let turns = c.args.turns.now in
    let few : length (calculates entries) < 2 ^ 32 = let fits = c.ranges.count.fits in let is = c.requires.count in omega (arith, fits, is) in
    settable given c.args.tables.now c.args.model d.now entries c.requires.may turns c.requires.turns few (take k turns) (drop (k + 1) turns) (get_or turns k no_turn)
    (split-at turns k no_turn c.loop-turn-test.true) c.loop-turn.draft c.loop-turn.invariant.going

pub settle_turn-requires-clause-number : goal.settle_turn-requires-clause-number
settle_turn-requires-clause-number g c =
    let given = g.A.Around.given c.args.around.now in
    let entries = (kept_at c.args.table.now c.args.model).entries in
    let d = c.args.draft.now in
    let k = c.loop-turn.turn-index in
    let turns = c.args.turns.now in
    let few : length (calculates entries) < 2 ^ 32 = let fits = c.ranges.count.fits in let is = c.requires.count in omega (arith, fits, is) in
    let first : c.next_number-first.result ≡ d.now.next = c.next_number-first.ensures ∙ ap (λ f. f.next) c.forest.ensures in
    subst (λ n. IsUnused (n + (get_or turns k no_turn).place) c.loop-turn.draft) (sym first)
    (unused given c.args.tables.now c.args.model d.now entries c.requires.may turns c.requires.turns few (take k turns) (drop (k + 1) turns) (get_or turns k no_turn)
    (split-at turns k no_turn c.loop-turn-test.true) c.loop-turn.draft c.loop-turn.invariant.going)

pub returns-in_err-truth-clause-err : goal.returns-in_err-truth-clause-err
returns-in_err-truth-clause-err g c =
    let given = g.A.Around.given c.args.around.now in
    let entries = (kept_at c.args.table.now c.args.model).entries in
    let scope = scope_in given c.args.tables.now c.args.model in
    let d = c.args.draft.now in
    let k = c.loop-turn.turn-index in
    let turns = c.args.turns.now in
    let x = get_or turns k no_turn in
    let few : length (calculates entries) < 2 ^ 32 = let fits = c.ranges.count.fits in let is = c.requires.count in omega (arith, fits, is) in
    let first : c.next_number-first.result ≡ d.now.next = c.next_number-first.ensures ∙ ap (λ f. f.next) c.forest.ensures in
    let text = text_of (Some string_limit) scope (visits c.loop-turn.draft.now.nodes) (entry_in x) in
    let p = err_from_is_err_and c.from_residual-in_err-truth.result c.from_residual-in_err-truth.ensures.1 in
    rw (p.1, p.2) (elim c.in_err-truth.ensures.answer [
      | inl m ↦ subst (λ f. IsTold f (words_of scope entries d.now)) (sym m) tt
      | inr h ↦
          refused given c.args.tables.now c.args.model d.now entries c.requires.may turns c.requires.turns few (take k turns) (drop (k + 1) turns) x
          (split-at turns k no_turn c.loop-turn-test.true) c.loop-turn.draft _ c.loop-turn.invariant.going
          (ap (λ n. turned (n + x.place) x.entry.node.number c.loop-turn.draft text) (sym first) ∙ h)
    ])

pub loop-turn-preserved : goal.loop-turn-preserved
loop-turn-preserved g c =
    let given = g.A.Around.given c.args.around.now in
    let entries = (kept_at c.args.table.now c.args.model).entries in
    let scope = scope_in given c.args.tables.now c.args.model in
    let d = c.args.draft.now in
    let k = c.loop-turn.turn-index in
    let turns = c.args.turns.now in
    let x = get_or turns k no_turn in
    let few : length (calculates entries) < 2 ^ 32 = let fits = c.ranges.count.fits in let is = c.requires.count in omega (arith, fits, is) in
    let first : c.next_number-first.result ≡ d.now.next = c.next_number-first.ensures ∙ ap (λ f. f.next) c.forest.ensures in
    let text = text_of (Some string_limit) scope (visits c.loop-turn.draft.now.nodes) (entry_in x) in
    record {
      going = subst (λ l. Going scope entries d.now l c.settle_turn.new.draft) (sym (take_more turns k no_turn c.loop-turn-test.true))
          (step given c.args.tables.now c.args.model d.now entries c.requires.may turns c.requires.turns few (take k turns) (drop (k + 1) turns) x
          (split-at turns k no_turn c.loop-turn-test.true) c.loop-turn.draft c.settle_turn.new.draft c.loop-turn.invariant.going
          (ap (λ n. turned (n + x.place) x.entry.node.number c.loop-turn.draft text) (sym first) ∙ c.in_ok-truth.ensures.answer));
      kept = turned-kept (c.next_number-first.result + x.place) x.entry.node.number c.loop-turn.draft c.settle_turn.new.draft text c.in_ok-truth.ensures.answer ∙ c.loop-turn.invariant.kept;
      known = subst (AreKnown scope (visits (settled_forest scope entries d.now).nodes) entries) (sym c.tell.ensures)
          (one-told given c.args.tables.now c.args.model d.now entries c.requires.may turns c.requires.turns few (take k turns) (drop (k + 1) turns) x
          (split-at turns k no_turn c.loop-turn-test.true) c.loop-turn.draft c.loop-turn.truths.items c.in_ok-truth.truth c.loop-turn.invariant.going c.loop-turn.invariant.known c.in_ok-truth.ensures.truth);
    }

pub loop-turn-preserved-then-is_passed : goal.loop-turn-preserved-then-is_passed
loop-turn-preserved-then-is_passed g c =
    let given = g.A.Around.given c.args.around.now in
    let kept = kept_at c.args.table.now c.args.model in
    let scope = scope_in given c.args.tables.now c.args.model in
    let d = c.args.draft.now in
    let k = c.loop-turn.turn-index in
    let turns = c.args.turns.now in
    let x = get_or turns k no_turn in
    let few : length (calculates kept.entries) < 2 ^ 32 = let fits = c.ranges.count.fits in let is = c.requires.count in omega (arith, fits, is) in
    let split = split-at turns k no_turn c.loop-turn-test.true in
    let seat : place_on kept.entries x.entry.node.number Calculate ≡ Some x.seat = all-got (IsSeatedIn kept.entries) turns k no_turn c.requires.seated c.loop-turn-test.true in
    let p = passed-place kept.entries c.args.marks.now x.place (entry_in x) (in-turn given c.args.tables.now c.args.model d.now kept.entries c.requires.may turns c.requires.turns few).single
    (placed given c.args.tables.now c.args.model d.now kept.entries c.requires.may turns c.requires.turns few (take k turns) (drop (k + 1) turns) x split) (ap (passed_at c.args.marks.now) seat ∙ sym c.is_passed.ensures ∙ c.if-is_passed.true) in
    let m = c.requires.passes p.place (entry_in x) p.got p.passed p.computed in
    record {
      going = subst (λ l. Going scope kept.entries d.now l c.loop-turn.draft) (sym (take_more turns k no_turn c.loop-turn-test.true))
          (pass given c.args.tables.now c.args.model d.now kept.entries c.requires.may turns c.requires.turns few (take k turns) (drop (k + 1) turns) x split m.f m.taken kept.texts kept.lists m.was c.loop-turn.draft m.since m.outside
          c.loop-turn.invariant.going);
      kept = c.loop-turn.invariant.kept;
      known = c.loop-turn.invariant.known;
    }

pub returns-in_err-truths-clause-left : goal.returns-in_err-truths-clause-left
returns-in_err-truths-clause-left g c =
    let p = err_from_is_err_and c.from_residual.result c.from_residual.ensures.1 in
    rw p.1 (left-none (scope_in (g.A.Around.given c.args.around.now) c.args.tables.now c.args.model) (kept_at c.args.table.now c.args.model).entries c.args.draft.now.now c.args.draft.now.now refl)

pub returns-clause-truths : goal.returns-clause-truths
returns-clause-truths g c =
    let given = g.A.Around.given c.args.around.now in
    let entries = (kept_at c.args.table.now c.args.model).entries in
    let scope = scope_in given c.args.tables.now c.args.model in
    let d = c.args.draft.now in
    let turns = c.args.turns.now in
    let few : length (calculates entries) < 2 ^ 32 = let fits = c.ranges.count.fits in let is = c.requires.count in omega (arith, fits, is) in
    let w = ended given c.args.tables.now c.args.model d.now entries c.requires.may turns c.requires.turns few c.loop-turn.draft
    (subst (λ l. Going scope entries d.now l c.loop-turn.draft) (take_all c.loop-turn.turn-index turns c.loop-turn-test.false) c.loop-turn.invariant.going) in
    subst (λ f. AreKnown scope (visits f.nodes) entries c.loop-turn.truths.items) (sym w.written) c.loop-turn.invariant.known

pub returns-clause-ok : goal.returns-clause-ok
returns-clause-ok g c =
    let given = g.A.Around.given c.args.around.now in
    let entries = (kept_at c.args.table.now c.args.model).entries in
    let scope = scope_in given c.args.tables.now c.args.model in
    let d = c.args.draft.now in
    let turns = c.args.turns.now in
    let few : length (calculates entries) < 2 ^ 32 = let fits = c.ranges.count.fits in let is = c.requires.count in omega (arith, fits, is) in
    ended given c.args.tables.now c.args.model d.now entries c.requires.may turns c.requires.turns few c.loop-turn.draft
    (subst (λ l. Going scope entries d.now l c.loop-turn.draft) (take_all c.loop-turn.turn-index turns c.loop-turn-test.false) c.loop-turn.invariant.going)

pub returns-in_err-truth-clause-left : goal.returns-in_err-truth-clause-left
returns-in_err-truth-clause-left g c =
    let entries = (kept_at c.args.table.now c.args.model).entries in
    let scope = scope_in (g.A.Around.given c.args.around.now) c.args.tables.now c.args.model in
    let left : IsLeft scope entries c.args.draft.now.now c.settle_turn.new.draft.now = record {
      done = done_by (map entry_in (take c.loop-turn.turn-index c.args.turns.now));
      nodes = ap (λ d. d.now.nodes) c.in_err-truth.ensures.err ∙ c.loop-turn.invariant.going.nodes;
    } in
    let p = err_from_is_err_and c.from_residual-in_err-truth.result c.from_residual-in_err-truth.ensures.1 in
    rw p.1 left

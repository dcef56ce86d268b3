use Rattle.std.proofs.Common.{rules, ◌≡◌, ◌-◌, ◌++◌, suc, map, option_map, ap, sym, ◌∙◌, arith}
use Rattle.std.proofs.lemmas.Result.{err_from_is_err_and}
use Rattle.xf_def_xpath.specs.declared.fault.EvalFault.TheVariants.{Long, Memory}
use Rattle.xf_eval.proofs.Bounded.{part-long}
use Rattle.xf_def_ui.specs.Interface.{element_of, interface_of}
use Rattle.xf_controls.specs.Below.{copies_from, of_parts}
use Rattle.xf_controls.specs.Known.{IsReached}
use Rattle.xf_controls.specs.Seen.{number, seen_copy, seen_handed}
use Rattle.xf_controls.specs.Surrounded.{around_in}
use Rattle.xf_controls.proofs.CodeLaws.{part-lost, part-put, parts-put, put-nothing}
use Rattle.xf_controls.proofs.KnownLaws.{knows-here, reached-part}
use Rattle.xf_controls.proofs.WalkLaws.{lost-node, lost-own, not-passed, nothing-there, passed-over, put-all}
use Rattle.xf_controls.proofs.walk.+push_copies.Goals as goal

pub returns-in_default : goal.returns-in_default
returns-in_default g t c =
    let form = c.args.over.now.form.now in
    let a = around_in (g.A.Around.given c.args.over.now.around.now) form.tables c.args.over.now.forest.now.forest.nodes in
    let marks = g.M.NodeMarks.marks_of c.args.over.now.marks.now in
    let h = seen_handed c.args.handed.now in
    put-nothing (map seen_copy c.args.copies.now) (copies_from c.args.most (interface_of form) a marks h c.args.element) (nothing-there form a marks h c.args.most c.args.element c.in_default.ensures)

pub returns-then-is_passed : goal.returns-then-is_passed
returns-then-is_passed g t c =
    let form = c.args.over.now.form.now in
    let a = around_in (g.A.Around.given c.args.over.now.around.now) form.tables c.args.over.now.forest.now.forest.nodes in
    let marks = g.M.NodeMarks.marks_of c.args.over.now.marks.now in
    let h = seen_handed c.args.handed.now in
    let more : c.args.most ≡ suc (c.args.most - 1) = omega (arith, c.if-most-eq0.false) in
    put-nothing (map seen_copy c.args.copies.now) (copies_from c.args.most (interface_of form) a marks h c.args.element)
    (passed-over form a marks h c.args.most (c.args.most - 1) c.args.element c.in-Some.here.now more c.in-Some.ensures (sym c.is_passed.ensures ∙ c.if-is_passed.true))

pub returns-in_err-found : goal.returns-in_err-found
returns-in_err-found g t c =
    let form = c.args.over.now.form.now in
    let f = interface_of form in
    let a = around_in (g.A.Around.given c.args.over.now.around.now) form.tables c.args.over.now.forest.now.forest.nodes in
    let marks = g.M.NodeMarks.marks_of c.args.over.now.marks.now in
    let h = seen_handed c.args.handed.now in
    let k = c.args.most - 1 in
    let n = c.args.element in
    let old = map seen_copy c.args.copies.now in
    let more : c.args.most ≡ suc k = omega (arith, c.if-most-eq0.false) in
    let p = err_from_is_err_and c.from_residual.result c.from_residual.ensures.1 in
    rw (p.1, p.2) (part-long Memory Long _ _ (option_map (λ x. old ++ x) (copies_from c.args.most f a marks h n)) c.in_err-found.ensures.value
    (λ e. ap (option_map (λ x. old ++ x)) (
    not-passed form a marks h c.args.most k n c.in-Some.here.now more c.in-Some.ensures (sym c.is_passed.ensures ∙ c.if-is_passed.false)
    ∙ lost-node (copies_from k f a marks) f a marks h n (element_of form.tables c.in-Some.here.now) e)))

pub returns-in_err-push_own : goal.returns-in_err-push_own
returns-in_err-push_own g t c =
    let form = c.args.over.now.form.now in
    let f = interface_of form in
    let a = around_in (g.A.Around.given c.args.over.now.around.now) form.tables c.args.over.now.forest.now.forest.nodes in
    let marks = g.M.NodeMarks.marks_of c.args.over.now.marks.now in
    let h = seen_handed c.args.handed.now in
    let k = c.args.most - 1 in
    let n = c.args.element in
    let old = map seen_copy c.args.copies.now in
    let more : c.args.most ≡ suc k = omega (arith, c.if-most-eq0.false) in
    let p = err_from_is_err_and c.from_residual-in_err-push_own.result c.from_residual-in_err-push_own.ensures.1 in
    rw (p.1, p.2) (part-long Memory Long _ _ (option_map (λ x. old ++ x) (copies_from c.args.most f a marks h n)) c.in_err-push_own.ensures
    (λ e. ap (option_map (λ x. old ++ x)) (
    not-passed form a marks h c.args.most k n c.in-Some.here.now more c.in-Some.ensures (sym c.is_passed.ensures ∙ c.if-is_passed.false)
    ∙ lost-own (copies_from k f a marks) f a marks h n (element_of form.tables c.in-Some.here.now) (option_map number c.in_ok-found.found.node) old c.in_ok-found.ensures.value e)))

pub returns-in_err-push_copies-in-Element : goal.returns-in_err-push_copies-in-Element
returns-in_err-push_copies-in-Element g t c =
    let form = c.args.over.now.form.now in
    let f = interface_of form in
    let a = around_in (g.A.Around.given c.args.over.now.around.now) form.tables c.args.over.now.forest.now.forest.nodes in
    let marks = g.M.NodeMarks.marks_of c.args.over.now.marks.now in
    let h = seen_handed c.args.handed.now in
    let k = c.args.most - 1 in
    let n = c.args.element in
    let e = element_of form.tables c.in-Some.here.now in
    let old = map seen_copy c.args.copies.now in
    let initial = map seen_copy c.push_own.new.copies in
    let now = map seen_copy c.loop-part.copies in
    let ps = c.as_slice-part-items.result.now in
    let below = seen_handed c.handed_by-below.result in
    let further = copies_from k f a marks below in
    let more : c.args.most ≡ suc k = omega (arith, c.if-most-eq0.false) in
    let p = err_from_is_err_and c.from_residual-in_err-push_copies-in-Element.result c.from_residual-in_err-push_copies-in-Element.ensures.1 in
    rw (p.1, p.2) (part-long Memory Long _ _ (option_map (λ x. old ++ x) (copies_from c.args.most f a marks h n)) c.in_err-push_copies-in-Element.ensures
    (λ lost.
    ap (option_map (λ x. old ++ x)) (not-passed form a marks h c.args.most k n c.in-Some.here.now more c.in-Some.ensures (sym c.is_passed.ensures ∙ c.if-is_passed.false))
    ∙ put-all (copies_from k f a marks) f a marks h below n e (option_map number c.in_ok-found.found.node) old initial c.in_ok-found.ensures.value c.handed_by-below.ensures.value c.in_ok-push_own.ensures
    ∙ ap (λ qs. option_map (λ x. initial ++ x) (of_parts further qs)) (sym c.as_slice-part-items.ensures) ∙ sym c.loop-part.invariant
    ∙ ap (option_map (λ x. now ++ x)) (part-lost further ps c.loop-part.part-index c.in-Element.child c.part-item.result now c.loop-part-test.true c.part-item.is c.in-Element.is lost)))

pub loop-part-preserved : goal.loop-part-preserved
loop-part-preserved g t c =
    let form = c.args.over.now.form.now in
    let f = interface_of form in
    let a = around_in (g.A.Around.given c.args.over.now.around.now) form.tables c.args.over.now.forest.now.forest.nodes in
    let marks = g.M.NodeMarks.marks_of c.args.over.now.marks.now in
    let below = seen_handed c.handed_by-below.result in
    let further = copies_from (c.args.most - 1) f a marks below in
    part-put further c.as_slice-part-items.result.now c.loop-part.part-index c.in-Element.child c.part-item.result (map seen_copy c.loop-part.copies) (map seen_copy c.push_copies.new.copies) c.loop-part-test.true c.part-item.is c.in-Element.is
    c.in_ok-push_copies-in-Element.ensures ∙ c.loop-part.invariant

pub returns : goal.returns
returns g t c =
    let form = c.args.over.now.form.now in
    let f = interface_of form in
    let a = around_in (g.A.Around.given c.args.over.now.around.now) form.tables c.args.over.now.forest.now.forest.nodes in
    let marks = g.M.NodeMarks.marks_of c.args.over.now.marks.now in
    let h = seen_handed c.args.handed.now in
    let k = c.args.most - 1 in
    let n = c.args.element in
    let e = element_of form.tables c.in-Some.here.now in
    let old = map seen_copy c.args.copies.now in
    let initial = map seen_copy c.push_own.new.copies in
    let now = map seen_copy c.loop-part.copies in
    let below = seen_handed c.handed_by-below.result in
    let further = copies_from k f a marks below in
    let more : c.args.most ≡ suc k = omega (arith, c.if-most-eq0.false) in
    ap (option_map (λ x. old ++ x)) (not-passed form a marks h c.args.most k n c.in-Some.here.now more c.in-Some.ensures (sym c.is_passed.ensures ∙ c.if-is_passed.false))
    ∙ put-all (copies_from k f a marks) f a marks h below n e (option_map number c.in_ok-found.found.node) old initial c.in_ok-found.ensures.value c.handed_by-below.ensures.value c.in_ok-push_own.ensures
    ∙ ap (λ qs. option_map (λ x. initial ++ x) (of_parts further qs)) (sym c.as_slice-part-items.ensures) ∙ sym c.loop-part.invariant
    ∙ parts-put further c.as_slice-part-items.result.now c.loop-part.part-index now c.loop-part-test.false

pub found_at-requires-clause-known : goal.found_at-requires-clause-known
found_at-requires-clause-known g t c =
    let form = c.args.over.now.form.now in
    let nodes = c.args.over.now.forest.now.forest.nodes in
    let a = around_in (g.A.Around.given c.args.over.now.around.now) form.tables nodes in
    knows-here form a nodes c.args.over.now.known.now (seen_handed c.args.handed.now) c.args.most c.args.element c.in-Some.here.now c.requires.plain c.requires.known c.requires.reached c.in-Some.ensures

pub push_copies-requires : goal.push_copies-requires
push_copies-requires g t c =
    let form = c.args.over.now.form.now in
    let f = interface_of form in
    let a = around_in (g.A.Around.given c.args.over.now.around.now) form.tables c.args.over.now.forest.now.forest.nodes in
    let marks = g.M.NodeMarks.marks_of c.args.over.now.marks.now in
    let more : c.args.most ≡ suc (c.args.most - 1) = omega (arith, c.if-most-eq0.false) in
    let reached : IsReached f a (seen_handed c.handed_by-below.result) (c.args.most - 1) c.in-Element.child =
    reached-part form a marks (seen_handed c.args.handed.now) (seen_handed c.handed_by-below.result) c.args.most (c.args.most - 1) c.args.element c.in-Some.here.now (option_map number c.in_ok-found.found.node)
    c.as_slice-part-items.result.now c.loop-part.part-index c.part-item.result c.in-Element.child c.requires.plain c.requires.reached more c.in-Some.ensures c.in_ok-found.ensures.value c.handed_by-below.ensures.value
    c.as_slice-part-items.ensures c.loop-part-test.true c.part-item.is c.in-Element.is in
    search rules

use Rattle.std.proofs.Common.{◌≡◌, ◌+◌, ◌∷◌, ℕ, suc, Some, None, drop, sym, ap, ◌∙◌, subst, add-one}
use Rattle.std.specs.Prelude.{IfOk, Result, Ok, Err}
use Rattle.std.proofs.Math.Seq.{drop-cons}
use Rattle.xf_name.specs.Faults.{name_fault}
use Rattle.xf_name.specs.Shown.{walk_of_all}
use Rattle.xf_name.specs.Written.{Walk, walk_of, walk_of_element, default_below}
use Rattle.xf_name.proofs.WalkLemmas.{walk_of-Element}
use Rattle.xf_def_forest.specs.Planted.{first_fault, written_fault, fault_by, is_unknown_space, or_later}
use Rattle.xf_tree_literals.proofs.FaultLemmas.{later-fault, found-fault, element-fault}
use Rattle.xf_tree_literals.proofs.fault.+faults.Goals as goal

if_ok_weaker : {X E : Type 0} (r : Result X E) (P Q : X → Type 0) → ((x : X) → P x → Q x) → IfOk r P → IfOk r Q
if_ok_weaker (Ok x) P Q f h = f x h
if_ok_weaker (Err e) P Q f h = tt

pub fault_of_lit-returns-in-Element : goal.fault_of_lit-returns-in-Element
fault_of_lit-returns-in-Element t c =
    let e = c.in-Element.element in
    let same : walk_of_element e ≡ walk_of c.args.lit.now = sym (ap walk_of c.in-Element.is ∙ walk_of-Element e) in
    subst (λ (w : Walk). IfOk c.fault_of_element.result (λ fault. (depth : ℕ) → fault ≡ first_fault (written_fault c.args.prefixes.now) (w c.args.above.now depth))) same c.fault_of_element.ensures

pub fault_of_element-returns : goal.fault_of_element-returns
fault_of_element-returns t c =
    let b = c.args.prefixes.now in
    let e = c.args.element.now in
    let above = c.args.above.now in
    let own : c.default_text-own.result.now ≡ default_below above e.attributes = c.default_text-own.ensures ∙ ap (default_below above) c.as_slice.ensures in
    let none : None ≡ fault_by (name_fault b e.name e.attributes) (is_unknown_space b (default_below above e.attributes)) =
    sym c.in_default.is ∙ c.in_ok-fault.ensures ∙ ap (λ o. fault_by (name_fault b e.name e.attributes) (is_unknown_space b o)) own in
    if_ok_weaker c.fault_of_all.result _ _
    (λ fault h depth.
    h (suc depth) ∙ ap (λ ls. first_fault (written_fault b) (walk_of_all ls c.default_text-own.result.now (suc depth))) c.as_slice-2.ensures
    ∙ ap (λ o. first_fault (written_fault b) (walk_of_all e.children o (suc depth))) own
    ∙ ap (λ o. or_later o (first_fault (written_fault b) (walk_of_all e.children (default_below above e.attributes) (suc depth)))) none
    ∙ sym (element-fault b e above depth))
    c.fault_of_all.ensures

pub fault_of_all-returns-in-Some : goal.fault_of_all-returns-in-Some
fault_of_all-returns-in-Some t c = λ depth.
    let f = written_fault c.args.prefixes.now in
    let i = c.loop-lit.lit-index in
    let lits = c.args.lits.now in
    let lit = c.lit-item.result in
    let split : drop i lits ≡ lit ∷ drop (i + 1) lits = rw add-one (drop-cons lits i lit c.loop-lit-test.true) ∙ ap (λ x. x ∷ drop (i + 1) lits) (sym c.lit-item.is) in
    let here : Some c.in-Some.fault ≡ first_fault f (walk_of lit c.args.above.now depth) = sym c.in-Some.is ∙ c.in_ok-fault.ensures depth in
    found-fault f c.in-Some.fault lit (drop (i + 1) lits) c.args.above.now depth here ∙ ap (λ l. first_fault f (walk_of_all l c.args.above.now depth)) (sym split) ∙ c.loop-lit.invariant depth

pub fault_of_all-loop-lit-preserved : goal.fault_of_all-loop-lit-preserved
fault_of_all-loop-lit-preserved t c = λ depth.
    let f = written_fault c.args.prefixes.now in
    let i = c.loop-lit.lit-index in
    let lits = c.args.lits.now in
    let lit = c.lit-item.result in
    let split : drop i lits ≡ lit ∷ drop (i + 1) lits = rw add-one (drop-cons lits i lit c.loop-lit-test.true) ∙ ap (λ x. x ∷ drop (i + 1) lits) (sym c.lit-item.is) in
    let here : None ≡ first_fault f (walk_of lit c.args.above.now depth) = sym c.in_default.is ∙ c.in_ok-fault.ensures depth in
    later-fault f lit (drop (i + 1) lits) c.args.above.now depth here ∙ ap (λ l. first_fault f (walk_of_all l c.args.above.now depth)) (sym split) ∙ c.loop-lit.invariant depth

-- The handlers of an observer, one element more.
use Rattle.std.proofs.Common.{◌≡◌, ℕ, suc, ◌+◌, ◌<◌, Bool, true, false, List, [], ◌∷◌, ◌++◌, map, length, drop, get_or, Some, None, refl, sym, ap, ◌∙◌, append_assoc, arith}
use Rattle.std.specs.Prelude.{filter, if◌then◌else◌}
use Rattle.std.proofs.lemmas.List.{at_drop_more}
use Rattle.xf_def_syntax.specs.declared.action.Handler.{Handler}
use Rattle.xf_def_syntax.specs.declared.element.Element as written
use Rattle.xf_def_syntax.specs.declared.form.Tables.{Tables}
use Rattle.xf_def_ui.specs.Interface.{Sort, element_of, sort_of, host, other, group, switch, one_case, repeated, field, output, select, item, itemset, choices, label, item_value, inline, action}
use Rattle.xf_def_ui.specs.Calls.{handlers_of, is_element}
use Rattle.xf_form_elements.specs.Handlers.{handlers_from, has_observer, is_heard}

abbrev one_where : Bool → ℕ → List ℕ
one_where b n = if b then n ∷ [] else []

by-observer : (b : Bool) (h : ℕ × Handler) (rest : List (ℕ × Handler)) → map (λ x. x.0) (if b then h ∷ rest else rest) ≡ one_where b h.0 ++ map (λ x. x.0) rest
by-observer true h rest = refl
by-observer false h rest = refl

by-sort : (o n : ℕ) (s : Sort) (rest : List (ℕ × Handler))
    → map (λ x. x.0) (filter (has_observer o) (handlers_of n s ++ rest)) ≡ one_where (is_heard o s) n ++ map (λ x. x.0) (filter (has_observer o) rest)
by-sort o n (action (Some h)) rest = by-observer (is_element h.observer o) (n, h) (filter (has_observer o) rest)
by-sort o n (action None) rest = refl
by-sort o n host rest = refl
by-sort o n other rest = refl
by-sort o n group rest = refl
by-sort o n (switch k) rest = refl
by-sort o n (one_case b) rest = refl
by-sort o n (repeated k j) rest = refl
by-sort o n field rest = refl
by-sort o n (output e) rest = refl
by-sort o n (select b c) rest = refl
by-sort o n item rest = refl
by-sort o n itemset rest = refl
by-sort o n choices rest = refl
by-sort o n label rest = refl
by-sort o n (item_value e) rest = refl
by-sort o n (inline e) rest = refl

-- those among the elements from a place on
abbrev pub left : Tables → ℕ → ℕ → List written.Element → List ℕ
left t o n es = handlers_from o n (map (element_of t) es)

left-more : (t : Tables) (o n : ℕ) (e : written.Element) (es : List written.Element) → left t o n (e ∷ es) ≡ one_where (is_heard o (sort_of e.kind)) n ++ left t o (suc n) es
left-more t o n e es = by-sort o n (sort_of e.kind) _

pub left-step : (t : Tables) (o i : ℕ) (es : List written.Element) (e : written.Element) → i < length es → e ≡ get_or es i e
    → left t o i (drop i es) ≡ one_where (is_heard o (sort_of e.kind)) i ++ left t o (i + 1) (drop (i + 1) es)
left-step t o i es e h q =
    at_drop_more (λ ys. left t o i ys) es i e h
    ∙ ap (λ x. left t o i (x ∷ drop (i + 1) es)) (sym q)
    ∙ left-more t o i e (drop (i + 1) es)
    ∙ ap (λ k. one_where (is_heard o (sort_of e.kind)) i ++ left t o k (drop (i + 1) es)) (let j : suc i ≡ i + 1 = omega arith in j)

-- an element that is heard goes behind those before
pub heard : (t : Tables) (o i number : ℕ) (es : List written.Element) (e : written.Element) (old new : List ℕ) → i < length es → e ≡ get_or es i e → is_heard o (sort_of e.kind) ≡ true → number ≡ i
    → new ≡ old ++ number ∷ [] → new ++ left t o (i + 1) (drop (i + 1) es) ≡ old ++ left t o i (drop i es)
heard t o i number es e old new h q is same added =
    let rest = left t o (i + 1) (drop (i + 1) es) in
    ap (λ l. l ++ rest) (added ∙ ap (λ n. old ++ n ∷ []) same) ∙ append_assoc old (i ∷ []) rest
    ∙ ap (λ l. old ++ l) (sym (left-step t o i es e h q ∙ ap (λ b. one_where b i ++ rest) is))

pub unheard : (t : Tables) (o i : ℕ) (es : List written.Element) (e : written.Element) (old : List ℕ) → i < length es → e ≡ get_or es i e → is_heard o (sort_of e.kind) ≡ false
    → old ++ left t o (i + 1) (drop (i + 1) es) ≡ old ++ left t o i (drop i es)
unheard t o i es e old h q is =
    let rest = left t o (i + 1) (drop (i + 1) es) in
    ap (λ l. old ++ l) (sym (left-step t o i es e h q ∙ ap (λ b. one_where b i ++ rest) is))

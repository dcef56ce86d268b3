-- The first submission of a model, one submission more.
use Rattle.std.proofs.Common.{◌≡◌, ℕ, suc, ◌+◌, ◌<◌, ◌==◌, List, [], ◌∷◌, ◌++◌, length, get_or, take, ap, sym, ◌∙◌, arith}
use Rattle.std.proofs.lemmas.List.{take_more, length-take-le}
use Rattle.xf_def_syntax.specs.declared.form.Submission.{Submission}
use Rattle.xf_form.specs.Plan.{first_or}
use Rattle.xf_form.specs.Submissions.{first_from}
use Rattle.xf_form.proofs.TargetLemmas.{at_end, before_end}

first_push : (n : ℕ) (all : List Submission) (s : Submission) (model : ℕ) → first_from n (all ++ s ∷ []) model ≡ first_or (first_from n all model) (s.model == model) (n + length all)
first_push n [] s model = at_end (s.model == model) n (n + 0) (omega arith)
first_push n (x ∷ xs) s model =
    let next : suc n + length xs ≡ n + suc (length xs) = omega arith in
    before_end (x.model == model) n (n + suc (length xs)) (first_from (suc n) xs model) (first_from (suc n) (xs ++ s ∷ []) model) (s.model == model)
    (first_push (suc n) xs s model ∙ ap (first_or (first_from (suc n) xs model) (s.model == model)) next)

pub first_more : (model : ℕ) (all : List Submission) (i number : ℕ) (s : Submission) → i < length all → s ≡ get_or all i s → number ≡ i
    → first_from 0 (take (i + 1) all) model ≡ first_or (first_from 0 (take i all) model) (s.model == model) number
first_more model all i number s h e same =
    let size : length (take i all) ≡ i = length-take-le i all (omega arith) in
    let short : 0 + length (take i all) ≡ i = omega (arith, size) in
    ap (λ l. first_from 0 l model) (take_more all i s h ∙ ap (λ x. take i all ++ x ∷ []) (sym e)) ∙ first_push 0 (take i all) s model
    ∙ ap (first_or (first_from 0 (take i all) model) (s.model == model)) (short ∙ sym same)

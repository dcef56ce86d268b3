-- Counting elements from the first to the last.
use Rattle.std.proofs.Common.{◌≡◌, ℕ, zero, suc, ◌+◌, Bool, List, [], ◌∷◌, ◌++◌, take, slice_get, ap, sym, ◌∙◌, append_assoc, append-nil, arith}
use Rattle.std.specs.Prelude.{unwrap_or, count_by}
use Rattle.std.proofs.lemmas.List.Sums.{sum_by-append}
use Rattle.xf_form_refusals.specs.Rows.{Seen}
use Rattle.xf_form_refusals.specs.Tally.{one_where}
use Rattle.xf_form.specs.Counts.{counted, with_one, counts_from, counts_after}
use Rattle.xf_form.specs.declared.counts.Counts.{Counts}
use Rattle.xf_form_refusals.specs.Classes.{is_of}
use Rattle.xf_form_refusals.specs.declared.classes.Class.TheVariants as class

count_push : {A : Type 0} (p : A → Bool) (xs : List A) (x : A) → count_by p (xs ++ x ∷ []) ≡ count_by p xs + one_where (p x)
count_push p xs x =
    let split : count_by p (xs ++ x ∷ []) ≡ count_by p xs + (0 + one_where (p x)) = sum_by-append (λ y. one_where (p y)) xs (x ∷ []) in
    omega (arith, split)

pub counted_push : (all : List Seen) (r : Seen) → counted (all ++ r ∷ []) ≡ with_one (counted all) r
counted_push all r =
    let elements = count_push (is_of class.Numbered) all r in
    let models = count_push (is_of class.Model) all r in
    let instances = count_push (is_of class.Instance) all r in
    let binds = count_push (is_of class.Bind) all r in
    let submissions = count_push (is_of class.Submission) all r in
    let repeats = count_push (is_of class.Repeat) all r in
    let switches = count_push (is_of class.Switch) all r in
    let controls = count_push (is_of class.Control) all r in
    cc

-- the counts that a look-up finds, which takes those of all elements past the end
pub counts_is : (before left : List Seen) (place : ℕ) → unwrap_or (slice_get (counts_from (counted before) left) place) (counts_after (counted before) left) ≡ counted (before ++ take place left)
counts_is before [] zero = ap counted (sym (append-nil before))
counts_is before [] (suc place) = ap counted (sym (append-nil before))
counts_is before (r ∷ rs) zero = ap counted (sym (append-nil before))
counts_is before (r ∷ rs) (suc place) =
    ap (λ c. unwrap_or (slice_get (counts_from c rs) place) (counts_after c rs)) (sym (counted_push before r))
    ∙ counts_is (before ++ r ∷ []) rs place ∙ ap counted (append_assoc before (r ∷ []) (take place rs))

pub counts_found : (all : List Seen) (place : ℕ) (counts : List Counts) (whole : Counts) → counts ≡ counts_from (counted []) all → whole ≡ counts_after (counted []) all
    → unwrap_or (slice_get counts place) whole ≡ counted (take place all)
counts_found all place counts whole before after =
    ap (λ l. unwrap_or (slice_get l place) whole) before ∙ ap (unwrap_or (slice_get (counts_from (counted []) all) place)) after ∙ counts_is [] all place

-- Tallies of ids, one element more.
use Rattle.std.proofs.Common.{◌≡◌, ℕ, ◌+◌, ◌<◌, ◌≤◌, List, [], ◌∷◌, ◌++◌, length, get_or, take, map, Bool, true, false, ap, sym, ◌∙◌, arith, inl, inr, Bor, Some}
use Rattle.std.specs.Prelude.{unwrap_or, count_by}
use Rattle.std.specs.HashMap.{HashMap, UpdatesBy}
use Rattle.std.specs.Str.{bytes_eq}
use Rattle.std.proofs.lemmas.Map.Text.{hash_map_updates_str}
use Rattle.std.proofs.lemmas.Slice.Eq.{bytes_eq-Decides}
use Rattle.std.proofs.lemmas.Bool.{cases_Bool, cond-true, cond-false, false_from_ne_true, both_ways}
use Rattle.std.proofs.lemmas.List.{take_more, length-map, length-take-le}
use Rattle.std.proofs.lemmas.List.Sums.{count_by-le-length, sum_by-append}
use Rattle.xf_form_refusals.specs.Classes.{is_called, count_called}
use Rattle.xf_form_refusals.specs.Rows.{shown}
use Rattle.xf_form_refusals.specs.Tally.{counted, one_where}
use Rattle.xf_form_refusals.specs.declared.classes.Class.{Class}
use Rattle.xf_form_refusals.specs.declared.rows.Row.{Row}
use Rattle.xf_form_refusals.proofs.RowLemmas.{map-push}

-- one more of an id
pub named_more : {S : Type 0} (name : List ℕ) (m n : HashMap (Bor (List ℕ)) ℕ S) (next : ℕ) → UpdatesBy (λ x y. bytes_eq x.now y.now) (λ k. bytes_eq name k.now) m n (Some next)
    → next ≡ counted m name + 1 → (q : List ℕ) → counted n q ≡ counted m q + one_where (bytes_eq q name)
named_more name m n next h e q =
    let found = hash_map_updates_str name m n (Some next) h q in
    elim (cases_Bool (bytes_eq name q)) [
      | inl t ↦
          let same : name ≡ q = (bytes_eq-Decides name q).0 t in
          let back : bytes_eq q name ≡ true = (bytes_eq-Decides q name).1 (sym same) in
          ap (λ o. unwrap_or o 0) (found ∙ cond-true _ _ _ t) ∙ e ∙ ap (λ b. counted m b + 1) same ∙ ap (λ b. counted m q + one_where b) (sym back)
      | inr f ↦
          let apart : bytes_eq q name ≡ false = false_from_ne_true _ (λ t. both_ways _ f ((bytes_eq-Decides name q).1 (sym ((bytes_eq-Decides q name).0 t)))) in
          let old : counted n q ≡ counted m q = ap (λ o. unwrap_or o 0) (found ∙ cond-false _ _ _ f) in
          let none : one_where (bytes_eq q name) ≡ 0 = ap one_where apart in
          omega (arith, old, none)
    ]

count_push : {A : Type 0} (p : A → Bool) (xs : List A) (x : A) → count_by p (xs ++ x ∷ []) ≡ count_by p xs + one_where (p x)
count_push p xs x =
    let split : count_by p (xs ++ x ∷ []) ≡ count_by p xs + (0 + one_where (p x)) = sum_by-append (λ y. one_where (p y)) xs (x ∷ []) in
    omega (arith, split)

-- one row more
pub count_more : (c : Class) (id : List ℕ) (rows : List Row) (i : ℕ) (r : Row) → i < length rows → r ≡ get_or rows i r
    → count_called c (map shown (take (i + 1) rows)) id ≡ count_called c (map shown (take i rows)) id + one_where (is_called c id (shown r))
count_more c id rows i r h e =
    ap (λ xs. count_called c (map shown xs) id) (take_more rows i r h ∙ ap (λ x. take i rows ++ x ∷ []) (sym e))
    ∙ ap (count_by (is_called c id)) (map-push shown (take i rows) r) ∙ count_push (is_called c id) (map shown (take i rows)) (shown r)

pub count_within : (c : Class) (id : List ℕ) (rows : List Row) (i : ℕ) → i ≤ length rows → count_called c (map shown (take i rows)) id ≤ i
count_within c id rows i h =
    let short : length (map shown (take i rows)) ≡ i = length-map (take i rows) shown ∙ length-take-le i rows h in
    omega (arith, count_by-le-length (is_called c id) (map shown (take i rows)), short)

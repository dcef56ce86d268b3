-- The first element with an id, one element more.
use Rattle.std.proofs.Common.{◌≡◌, ℕ, suc, ◌+◌, ◌<◌, List, [], ◌∷◌, ◌++◌, length, get_or, take, map, Bool, true, false, cond, refl, ap, sym, ◌∙◌, arith, inl, inr, Bor, Some, None, Option, is_some}
use Rattle.std.specs.HashMap.{HashMap, UpdatesBy}
use Rattle.std.specs.Str.{bytes_eq}
use Rattle.std.proofs.lemmas.Map.Text.{hash_map_updates_str}
use Rattle.std.proofs.lemmas.Slice.Eq.{bytes_eq-Decides}
use Rattle.std.proofs.lemmas.Bool.{cases_Bool, cond-true, cond-false, false_from_ne_true, both_ways}
use Rattle.std.proofs.lemmas.List.{take_more, length-map, length-take-le}
use Rattle.xf_form_refusals.specs.Classes.{is_called}
use Rattle.xf_form_refusals.specs.Rows.{Seen, shown}
use Rattle.xf_form_refusals.specs.declared.classes.Class.TheVariants as class
use Rattle.xf_form_refusals.specs.declared.rows.Row.{Row}
use Rattle.xf_form_refusals.proofs.RowLemmas.{map-push}
use Rattle.xf_form.specs.Numbers.{place_from}
use Rattle.xf_form.specs.Plan.{found, first_or}

kept : (o : Option ℕ) (place : ℕ) → first_or o false place ≡ o
kept None place = refl
kept (Some old) place = refl

-- a place under an id that had none
pub named_first : {S : Type 0} (name : List ℕ) (m n : HashMap (Bor (List ℕ)) ℕ S) (place : ℕ) → UpdatesBy (λ x y. bytes_eq x.now y.now) (λ k. bytes_eq name k.now) m n (Some place)
    → found m name ≡ None → (q : List ℕ) → found n q ≡ first_or (found m q) (bytes_eq q name) place
named_first name m n place h none q =
    let after = hash_map_updates_str name m n (Some place) h q in
    elim (cases_Bool (bytes_eq name q)) [
      | inl t ↦
          let same : name ≡ q = (bytes_eq-Decides name q).0 t in
          let back : bytes_eq q name ≡ true = (bytes_eq-Decides q name).1 (sym same) in
          after ∙ cond-true _ _ _ t ∙ sym (ap (λ o. first_or o (bytes_eq q name) place) (ap (found m) (sym same) ∙ none) ∙ ap (λ b. first_or None b place) back)
      | inr f ↦
          let apart : bytes_eq q name ≡ false = false_from_ne_true _ (λ t. both_ways _ f ((bytes_eq-Decides name q).1 (sym ((bytes_eq-Decides q name).0 t)))) in
          after ∙ cond-false _ _ _ f ∙ sym (ap (λ b. first_or (found m q) b place) apart ∙ kept (found m q) place)
    ]

-- what was not found
pub none_from : (o : Option ℕ) {b : Bool} → b ≡ is_some o → b ≡ false → o ≡ None
none_from None is none = refl
none_from (Some old) is none = cc

-- nothing changes where the id has a place
pub named_already : (name : List ℕ) (o : Option ℕ) (old place : ℕ) (b : Bool) → o ≡ Some old → first_or o b place ≡ o
named_already name o old place b h = ap (λ x. first_or x b place) h ∙ sym h

pub at_end : (b : Bool) (n m : ℕ) → n ≡ m → cond b (Some n) None ≡ first_or None b m
at_end true n m e = ap Some e
at_end false n m e = refl

pub before_end : (b : Bool) (n m : ℕ) (o p : Option ℕ) (c : Bool) → p ≡ first_or o c m → cond b (Some n) p ≡ first_or (cond b (Some n) o) c m
before_end true n m o p c e = refl
before_end false n m o p c e = e

pub place_push : (n : ℕ) (all : List Seen) (r : Seen) (id : List ℕ) → place_from n (all ++ r ∷ []) id ≡ first_or (place_from n all id) (is_called class.Numbered id r) (n + length all)
place_push n [] r id = at_end (is_called class.Numbered id r) n (n + 0) (omega arith)
place_push n (x ∷ xs) r id =
    let next : suc n + length xs ≡ n + suc (length xs) = omega arith in
    before_end (is_called class.Numbered id x) n (n + suc (length xs)) (place_from (suc n) xs id) (place_from (suc n) (xs ++ r ∷ []) id) (is_called class.Numbered id r)
    (place_push (suc n) xs r id ∙ ap (first_or (place_from (suc n) xs id) (is_called class.Numbered id r)) next)

-- one row more
pub place_more : (id : List ℕ) (rows : List Row) (i place : ℕ) (r : Row) → i < length rows → r ≡ get_or rows i r → place ≡ i
    → place_from 0 (map shown (take (i + 1) rows)) id ≡ first_or (place_from 0 (map shown (take i rows)) id) (is_called class.Numbered id (shown r)) place
place_more id rows i place r h e same =
    let size : length (map shown (take i rows)) ≡ i = length-map (take i rows) shown ∙ length-take-le i rows (omega arith) in
    let short : 0 + length (map shown (take i rows)) ≡ i = omega (arith, size) in
    ap (λ xs. place_from 0 (map shown xs) id) (take_more rows i r h ∙ ap (λ x. take i rows ++ x ∷ []) (sym e))
    ∙ ap (λ l. place_from 0 l id) (map-push shown (take i rows) r) ∙ place_push 0 (map shown (take i rows)) (shown r) id
    ∙ ap (first_or (place_from 0 (map shown (take i rows)) id) (is_called class.Numbered id (shown r))) (short ∙ sym same)

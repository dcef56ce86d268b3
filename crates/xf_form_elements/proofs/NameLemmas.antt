-- The first element with an id, one element more.
use Rattle.std.proofs.Common.{◌≡◌, ℕ, suc, ◌+◌, ◌<◌, List, [], ◌∷◌, ◌++◌, length, get_or, take, map, Bool, true, false, cond, refl, ap, sym, ◌∙◌, arith, inl, inr, Bor, Some, None, Option, is_some}
use Rattle.std.specs.HashMap.{HashMap, UpdatesBy}
use Rattle.std.specs.Str.{bytes_eq}
use Rattle.std.proofs.lemmas.Map.Text.{hash_map_updates_str}
use Rattle.std.proofs.lemmas.Slice.Eq.{bytes_eq-Decides}
use Rattle.std.proofs.lemmas.Bool.{cases_Bool, cond-true, cond-false, false_from_ne_true, both_ways}
use Rattle.std.proofs.lemmas.List.{take_more, length-take-le}
use Rattle.xf_def_syntax.specs.declared.element.Element as written
use Rattle.xf_def_syntax.specs.declared.form.Tables.{Tables}
use Rattle.xf_def_ui.specs.Interface.{element_of}
use Rattle.xf_form_elements.specs.Names.{found, first_or, is_named, named_from}

pub kept : (o : Option ℕ) (n : ℕ) → first_or o false n ≡ o
kept None n = refl
kept (Some old) n = refl

-- a number under an id that had none
pub named_first : {S : Type 0} (name : List ℕ) (m n : HashMap (Bor (List ℕ)) ℕ S) (number : ℕ) → UpdatesBy (λ x y. bytes_eq x.now y.now) (λ k. bytes_eq name k.now) m n (Some number)
    → found m name ≡ None → (q : List ℕ) → found n q ≡ first_or (found m q) (bytes_eq q name) number
named_first name m n number h none q =
    let after = hash_map_updates_str name m n (Some number) h q in
    elim (cases_Bool (bytes_eq name q)) [
      | inl t ↦
          let same : name ≡ q = (bytes_eq-Decides name q).0 t in
          let back : bytes_eq q name ≡ true = (bytes_eq-Decides q name).1 (sym same) in
          after ∙ cond-true _ _ _ t ∙ sym (ap (λ o. first_or o (bytes_eq q name) number) (ap (found m) (sym same) ∙ none) ∙ ap (λ b. first_or None b number) back)
      | inr f ↦
          let apart : bytes_eq q name ≡ false = false_from_ne_true _ (λ t. both_ways _ f ((bytes_eq-Decides name q).1 (sym ((bytes_eq-Decides q name).0 t)))) in
          after ∙ cond-false _ _ _ f ∙ sym (ap (λ b. first_or (found m q) b number) apart ∙ kept (found m q) number)
    ]

-- what was not found
pub none_from : (o : Option ℕ) {b : Bool} → b ≡ is_some o → b ≡ false → o ≡ None
none_from None is none = refl
none_from (Some old) is none = cc

at_end : (b : Bool) (n m : ℕ) → n ≡ m → cond b (Some n) None ≡ first_or None b m
at_end true n m e = ap Some e
at_end false n m e = refl

before_end : (b : Bool) (n m : ℕ) (o p : Option ℕ) (c : Bool) → p ≡ first_or o c m → cond b (Some n) p ≡ first_or (cond b (Some n) o) c m
before_end true n m o p c e = refl
before_end false n m o p c e = e

named_push : (t : Tables) (n : ℕ) (all : List written.Element) (e : written.Element) (id : List ℕ)
    → named_from id n (map (element_of t) (all ++ e ∷ [])) ≡ first_or (named_from id n (map (element_of t) all)) (is_named id e.id) (n + length all)
named_push t n [] e id = at_end (is_named id e.id) n (n + 0) (omega arith)
named_push t n (x ∷ xs) e id =
    let next : suc n + length xs ≡ n + suc (length xs) = omega arith in
    before_end (is_named id x.id) n (n + suc (length xs)) (named_from id (suc n) (map (element_of t) xs)) (named_from id (suc n) (map (element_of t) (xs ++ e ∷ []))) (is_named id e.id)
    (named_push t (suc n) xs e id ∙ ap (first_or (named_from id (suc n) (map (element_of t) xs)) (is_named id e.id)) next)

-- one element more
pub named_more : (t : Tables) (id : List ℕ) (all : List written.Element) (i number : ℕ) (e : written.Element) → i < length all → e ≡ get_or all i e → number ≡ i
    → named_from id 0 (map (element_of t) (take (i + 1) all)) ≡ first_or (named_from id 0 (map (element_of t) (take i all))) (is_named id e.id) number
named_more t id all i number e h q same =
    let short : 0 + length (take i all) ≡ i = omega (arith, length-take-le i all (omega arith)) in
    ap (λ xs. named_from id 0 (map (element_of t) xs)) (take_more all i e h ∙ ap (λ x. take i all ++ x ∷ []) (sym q))
    ∙ named_push t 0 (take i all) e id
    ∙ ap (first_or (named_from id 0 (map (element_of t) (take i all))) (is_named id e.id)) (short ∙ sym same)

-- What the numbers of a form give: whoever walks down its elements by their numbers comes to an end.
use Rattle.std.proofs.Common.{◌≡◌, ℕ, zero, suc, ◌+◌, ◌<◌, nat_lt, Bool, true, ◌&&◌, List, [], ◌∷◌, length, Some, refl, subst, arith}
use Rattle.std.specs.Prelude.{slice_get}
use Rattle.std.specs.List.{list_all, flat_map}
use Rattle.std.proofs.lemmas.Bool.{and_parts, ltb-true}
use Rattle.xf_def_syntax.specs.declared.element.Element.{Element}
use Rattle.xf_def_syntax.specs.declared.element.Part.{Part}
use Rattle.xf_def_syntax.specs.declared.element.Part.TheVariants as part
use Rattle.xf_def_syntax.specs.declared.form.Form.{Form}
use Rattle.xf_def_syntax.specs.Ordered.{IsOrdered, child_in, children, numbered_from, are_later}

-- what all children pass, the element among the parts passes
child-among : (p : ℕ → Bool) (ps : List Part) → list_all p (flat_map child_in ps) ≡ true → (i m : ℕ) → slice_get ps i ≡ Some (part.Element m) → p m ≡ true
child-among p [] all i m found = cc
child-among p (part.Text t ∷ ps) all zero m found = cc
child-among p (part.Text t ∷ ps) all (suc i) m found = child-among p ps all i m found
child-among p (part.Element n ∷ ps) all zero m found =
    let same : n ≡ m = cc in subst (λ k. p k ≡ true) same (and_parts (p n) (list_all p (flat_map child_in ps)) all).0
child-among p (part.Element n ∷ ps) all (suc i) m found = child-among p ps (and_parts (p n) (list_all p (flat_map child_in ps)) all).1 i m found

later-at : (size k : ℕ) (es : List Element) → list_all (are_later size) (numbered_from k es) ≡ true → (n : ℕ) (e : Element) → slice_get es n ≡ Some e → are_later size (k + n, e) ≡ true
later-at size k [] all n e found = cc
later-at size k (x ∷ xs) all zero e found =
    let same : x ≡ e = cc in
    let here : k ≡ k + 0 = omega arith in
    let first : are_later size (k, x) ≡ true = (and_parts (are_later size (k, x)) (list_all (are_later size) (numbered_from (suc k) xs)) all).0 in
    subst (λ m. are_later size (m, e) ≡ true) here (subst (λ y. are_later size (k, y) ≡ true) same first)
later-at size k (x ∷ xs) all (suc n) e found =
    let next : suc k + n ≡ k + suc n = omega arith in
    let rest : list_all (are_later size) (numbered_from (suc k) xs) ≡ true = (and_parts (are_later size (k, x)) (list_all (are_later size) (numbered_from (suc k) xs)) all).1 in
    subst (λ m. are_later size (m, e) ≡ true) next (later-at size (suc k) xs rest n e found)

-- a child has a greater number than its element, and is one of the elements of the form
pub later-child : (form : Form) → IsOrdered form → (n i m : ℕ) (e : Element) → slice_get form.elements n ≡ Some e → slice_get e.parts i ≡ Some (part.Element m) → (n < m) × (m < length form.elements)
later-child form ordered n i m e found among =
    let size = length form.elements in
    let zero_and : 0 + n ≡ n = omega arith in
    let later : are_later size (n, e) ≡ true = subst (λ k. are_later size (k, e) ≡ true) zero_and (later-at size 0 form.elements ordered.later n e found) in
    let test : (nat_lt n m && nat_lt m size) ≡ true = child-among (λ k. nat_lt n k && nat_lt k size) e.parts later i m among in
    let both = and_parts (nat_lt n m) (nat_lt m size) test in
    (ltb-true n m both.0, ltb-true m size both.1)

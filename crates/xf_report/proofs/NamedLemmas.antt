-- The elements of a form by their numbers, and those that are controls and containers, counted.
use Rattle.std.proofs.Common.{◌≡◌, ℕ, zero, suc, ◌+◌, ◌<◌, ◌≤◌, Bool, true, false, cond, List, [], ◌∷◌, map, length, take, get_or, Option, Some, None, refl, sym, ap, ◌∙◌, arith}
use Rattle.std.specs.Prelude.{count_by, slice_get, min}
use Rattle.std.proofs.lemmas.List.Sums.{sum_by-cons}
use Rattle.xf_def_syntax.specs.declared.element.Element as written
use Rattle.xf_def_syntax.specs.declared.form.Form.{Form}
use Rattle.xf_def_syntax.specs.declared.form.Tables.{Tables}
use Rattle.xf_def_ui.specs.Interface.{Element, element_of, interface_of, sort_of}
use Rattle.xf_def_ui.specs.Elements.{no_element, element_at, is_control}
use Rattle.xf_report.specs.Named.{numbers_from, numbers_of, number_in}

-- ---- elements

some-same : {X : Type 0} {x y : X} → Some x ≡ Some y → x ≡ y
some-same h = cc h

found-in : (tables : Tables) (es : List written.Element) (n : ℕ) (e : written.Element) → Some e ≡ slice_get es n → get_or (map (element_of tables) es) n no_element ≡ element_of tables e
found-in tables [] n e h = cc h
found-in tables (x ∷ xs) zero e h = ap (element_of tables) (some-same (sym h))
found-in tables (x ∷ xs) (suc n) e h = found-in tables xs n e h

lost-in : (tables : Tables) (es : List written.Element) (n : ℕ) → None ≡ slice_get es n → get_or (map (element_of tables) es) n no_element ≡ no_element
lost-in tables [] n h = refl
lost-in tables (x ∷ xs) zero h = cc h
lost-in tables (x ∷ xs) (suc n) h = lost-in tables xs n h

pub element-found : (form : Form) (n : ℕ) (e : written.Element) → Some e ≡ slice_get form.elements n → element_at (interface_of form) n ≡ element_of form.tables e
element-found form n e h = found-in form.tables form.elements n e h

pub element-lost : (form : Form) (n : ℕ) → None ≡ slice_get form.elements n → element_at (interface_of form) n ≡ no_element
element-lost form n h = lost-in form.tables form.elements n h

-- ---- numbers

abbrev is_one : written.Element → Bool
is_one e = is_control (sort_of e.kind)

one-more : (b : Bool) (k : ℕ) → (cond b (suc k) k) ≡ k + cond {A = ℕ} b 1 0
one-more true k = omega arith
one-more false k = omega arith

number-at : (k : ℕ) (es : List written.Element) (n d : ℕ) → n ≤ length es → get_or (numbers_from k es) n d ≡ k + count_by is_one (take n es)
number-at k [] zero d h = omega arith
number-at k [] (suc n) d h = absurd (omega arith)
number-at k (e ∷ es) zero d h = omega arith
number-at k (e ∷ es) (suc n) d h =
    let later = number-at (cond (is_one e) (suc k) k) es n d (omega arith) in
    let one = one-more (is_one e) k in
    let split = sum_by-cons (λ (x : written.Element). cond {A = ℕ} (is_one x) 1 0) e (take n es) in
    omega (arith, later, one, split)

count-map : (tables : Tables) (es : List written.Element) (n : ℕ) → count_by (λ (e : Element). is_control e.sort) (take n (map (element_of tables) es)) ≡ count_by is_one (take n es)
count-map tables [] zero = refl
count-map tables [] (suc n) = refl
count-map tables (e ∷ es) zero = refl
count-map tables (e ∷ es) (suc n) =
    sum_by-cons (λ (x : Element). cond {A = ℕ} (is_control x.sort) 1 0) (element_of tables e) (take n (map (element_of tables) es))
    ∙ ap (λ k. cond {A = ℕ} (is_one e) 1 0 + k) (count-map tables es n)
    ∙ sym (sum_by-cons (λ (x : written.Element). cond {A = ℕ} (is_one x) 1 0) e (take n es))

take-min : (es : List written.Element) (n : ℕ) → take (min n (length es)) es ≡ take n es
take-min [] zero = let e : min 0 0 ≡ 0 = omega arith in ap (λ k. take {A = written.Element} k []) e
take-min [] (suc n) = let e : min (suc n) 0 ≡ 0 = omega arith in ap (λ k. take {A = written.Element} k []) e
take-min (x ∷ xs) zero = let e : min 0 (length (x ∷ xs)) ≡ 0 = omega arith in ap (λ k. take k (x ∷ xs)) e
take-min (x ∷ xs) (suc n) = let e : min (suc n) (suc (length xs)) ≡ suc (min n (length xs)) = omega arith in ap (λ k. take k (x ∷ xs)) e ∙ ap (λ l. x ∷ l) (take-min xs n)

pub number-is : (form : Form) (n d : ℕ) → get_or (numbers_of form.elements) (min n (length form.elements)) d ≡ number_in (interface_of form) n
number-is form n d =
    let at = number-at 1 form.elements (min n (length form.elements)) d (omega arith) in
    let same = ap (λ l. count_by is_one l) (take-min form.elements n) in
    let count = count-map form.tables form.elements n in
    omega (arith, at, same, count)

pub numbers-length : (k : ℕ) (es : List written.Element) → length (numbers_from k es) ≡ suc (length es)
numbers-length k [] = refl
numbers-length k (e ∷ es) = ap suc (numbers-length (cond (is_one e) (suc k) k) es)

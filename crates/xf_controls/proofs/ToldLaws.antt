-- What is told, one name after another, and a copy at a place of a list that rises.
use Rattle.std.proofs.Common.{◌≡◌, ◌==◌, ℕ, zero, suc, ◌<◌, ◌≤◌, Bool, true, false, not, ◌&&◌, cond, List, [], ◌∷◌, ◌++◌, map, length, get_or, Some, refl, sym, ap, ◌∙◌, arith, append_assoc}
use Rattle.std.specs.Prelude.{find, nat_lt, bytes_eq}
use Rattle.std.proofs.lemmas.Bool.{and_parts}
use Rattle.std.proofs.lemmas.Bool.Decides.{nat_tests}
use Rattle.xf_def_ui.specs.Copies.{Copy}
use Rattle.xf_def_ui.specs.Notifications.{Notification, is_same_copy, told}
use Rattle.xf_controls.specs.declared.copy.ControlCopy.{ControlCopy}
use Rattle.xf_controls.specs.Rising.{rises_from}
use Rattle.xf_controls.specs.Seen.{seen_copy}

pub told-append : (c : Copy) (xs ys : List (List ℕ)) → told c (xs ++ ys) ≡ told c xs ++ told c ys
told-append c [] ys = refl
told-append c (x ∷ xs) ys = ap (λ l. record { name = x; target = c.element; rows = c.rows } ∷ l) (told-append c xs ys)

-- one after another
told-two : (c : Copy) (xs ys : List (List ℕ)) (n0 n1 n2 : List Notification) → n1 ≡ n0 ++ told c xs → n2 ≡ n1 ++ told c ys → n2 ≡ n0 ++ told c (xs ++ ys)
told-two c xs ys n0 n1 n2 h1 h2 = h2 ∙ ap (λ l. l ++ told c ys) h1 ∙ append_assoc n0 (told c xs) (told c ys) ∙ ap (λ l. n0 ++ l) (sym (told-append c xs ys))

pub told-five : (c : Copy) (a b d e g : List (List ℕ)) (n0 n1 n2 n3 n4 n5 : List Notification)
    → n1 ≡ n0 ++ told c a → n2 ≡ n1 ++ told c b → n3 ≡ n2 ++ told c d → n4 ≡ n3 ++ told c e → n5 ≡ n4 ++ told c g → n5 ≡ n0 ++ told c (a ++ b ++ d ++ e ++ g)
told-five c a b d e g n0 n1 n2 n3 n4 n5 h1 h2 h3 h4 h5 =
    told-two c (a ++ b ++ d ++ e) g n0 n4 n5 (told-two c (a ++ b ++ d) e n0 n3 n4 (told-two c (a ++ b) d n0 n2 n3 (told-two c a b n0 n1 n2 h1 h2) h3) h4) h5

-- ---- in a list that rises

not-less : (m n : ℕ) → not (nat_lt n m) ≡ true → m ≤ n
not-less m n h = grind (arith, nat_tests, h)

-- all elements of a list that rises from here on are so great
pub rises-over : (least : ℕ) (cs : List ControlCopy) → rises_from least cs ≡ true → (i : ℕ) (c : ControlCopy) → i < length cs → c ≡ get_or cs i c → least ≤ c.element
rises-over least [] h i c l is = absurd (omega (arith, l))
rises-over least (x ∷ cs) h zero c l is =
    let both = and_parts (not (nat_lt x.element least)) (rises_from (suc x.element) cs) h in
    let same : c.element ≡ x.element = ap (λ (y : ControlCopy). y.element) is in
    let first : least ≤ x.element = not-less least x.element both.0 in
    omega (arith, same, first)
rises-over least (x ∷ cs) h (suc i) c l is =
    let both = and_parts (not (nat_lt x.element least)) (rises_from (suc x.element) cs) h in
    let first : least ≤ x.element = not-less least x.element both.0 in
    let rest : suc x.element ≤ c.element = rises-over (suc x.element) cs both.1 i c (omega (arith, l)) is in
    omega (arith, first, rest)

other-element : (one other : Copy) → (one.element ≡ other.element → ⊥) → is_same_copy one other ≡ false
other-element one other h = by (one.element == other.element) refl
  where
    by : (b : Bool) → (one.element == other.element) ≡ b → (b && bytes_eq one.rows other.rows) ≡ false
    by true e = absurd (h (grind (arith, nat_tests, e)))
    by false e = refl

same-element : (one other : Copy) → is_same_copy one other ≡ true → one.element ≡ other.element
same-element one other h =
    let both = and_parts (one.element == other.element) (bytes_eq one.rows other.rows) h in
    let e : (one.element == other.element) ≡ true = both.0 in
    grind (arith, nat_tests, e)

-- the same copy at a place is the first one
pub same-at : (least : ℕ) (cs : List ControlCopy) (c : Copy) (i : ℕ) (d : ControlCopy) → rises_from least cs ≡ true → i < length cs → d ≡ get_or cs i d → is_same_copy c (seen_copy d) ≡ true → find (is_same_copy c) (map seen_copy cs) ≡ Some (seen_copy d)
same-at least [] c i d h l is same = absurd (omega (arith, l))
same-at least (x ∷ cs) c zero d h l is same =
    by (is_same_copy c (seen_copy x)) refl
  where
    by : (b : Bool) → is_same_copy c (seen_copy x) ≡ b → cond b (Some (seen_copy x)) (find (is_same_copy c) (map seen_copy cs)) ≡ Some (seen_copy d)
    by true e = ap (λ y. Some (seen_copy y)) (sym is)
    by false e = let no : true ≡ false = sym same ∙ ap (λ y. is_same_copy c (seen_copy y)) is ∙ e in cc no
same-at least (x ∷ cs) c (suc i) d h l is same =
    let both = and_parts (not (nat_lt x.element least)) (rises_from (suc x.element) cs) h in
    let later : suc x.element ≤ d.element = rises-over (suc x.element) cs both.1 i d (omega (arith, l)) is in
    let here : c.element ≡ d.element = same-element c (seen_copy d) same in
    let off : is_same_copy c (seen_copy x) ≡ false = other-element c (seen_copy x) (λ e. omega (arith, e, here, later)) in
    ap (λ b. cond b (Some (seen_copy x)) (find (is_same_copy c) (map seen_copy cs))) off
    ∙ same-at (suc x.element) cs c i d both.1 (omega (arith, l)) is same

same-place : {X : Type 0} (xs : List X) (i : ℕ) (x y : X) → i < length xs → x ≡ get_or xs i x → y ≡ get_or xs i y → x ≡ y
same-place [] i x y l h k = absurd (omega (arith, l))
same-place (z ∷ xs) zero x y l h k = h ∙ sym k
same-place (z ∷ xs) (suc i) x y l h k = same-place xs i x y (omega (arith, l)) h k

-- what was tested and what is given stand at one place
pub given-at : (cs : List ControlCopy) (c : Copy) (i : ℕ) (tested given : ControlCopy) → rises_from 0 cs ≡ true → i < length cs → tested ≡ get_or cs i tested → given ≡ get_or cs i given → is_same_copy c (seen_copy tested) ≡ true
    → Some (seen_copy given) ≡ find (is_same_copy c) (map seen_copy cs)
given-at cs c i tested given h l is at same =
    let one : tested ≡ given = same-place cs i tested given l is at in
    sym (same-at 0 cs c i given h l at (ap (λ d. is_same_copy c (seen_copy d)) (sym one) ∙ same))

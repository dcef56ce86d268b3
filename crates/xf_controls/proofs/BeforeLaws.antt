-- A copy is sought from the first one of its row on.
use Rattle.std.proofs.Common.{◌≡◌, ◌==◌, ℕ, zero, suc, ◌+◌, ◌-◌, ◌<◌, ◌≤◌, Bool, true, false, cond, List, [], ◌∷◌, ◌++◌, map, length, take, drop, get_or, Option, Some, None, is_some, option_map, refl, sym, ap, ◌∙◌, arith, length-drop}
use Rattle.std.specs.Prelude.{find, nat_eq, bytes_eq}
use Rattle.std.proofs.lemmas.Bool.{and_parts}
use Rattle.std.proofs.lemmas.Bool.Decides.{nat_tests}
use Rattle.std.proofs.lemmas.List.{drop_all, length-take-le, take_all, take_more}
use Rattle.std.proofs.lemmas.Slice.Eq.{bytes_eq-Decides}
use Rattle.xf_def_ui.specs.Copies.{Copy}
use Rattle.xf_def_ui.specs.Notifications.{is_same_copy}
use Rattle.xf_controls.specs.Before.{first_by, first_from, first_in, first_or, in_row, innermost, is_row}
use Rattle.xf_controls.specs.declared.copy.ControlCopy.{ControlCopy}
use Rattle.xf_controls.specs.Seen.{seen_copy}

-- ---- one copy more

pub kept : (o : Option ℕ) (place : ℕ) → first_or o false place ≡ o
kept None place = refl
kept (Some old) place = refl

one-behind : (n : ℕ) (cs : List ControlCopy) (c : ControlCopy) → first_in n (cs ++ c ∷ []) ≡ first_or (first_in n cs) (in_row n c) (length cs)
one-behind n [] c = by (in_row n c)
  where
    by : (b : Bool) → cond b (Some zero) None ≡ first_or None b zero
    by true = refl
    by false = refl
one-behind n (x ∷ cs) c = by (in_row n x) (first_in n cs) (in_row n c) (one-behind n cs c)
  where
    after : (o : Option ℕ) (d : Bool) → option_map suc (first_or o d (length cs)) ≡ first_or (option_map suc o) d (suc (length cs))
    after None true = refl
    after None false = refl
    after (Some old) d = refl

    by : (b : Bool) (o : Option ℕ) (d : Bool) → first_in n (cs ++ c ∷ []) ≡ first_or o d (length cs)
        → cond b (Some zero) (option_map suc (first_in n (cs ++ c ∷ []))) ≡ first_or (cond b (Some zero) (option_map suc o)) d (suc (length cs))
    by true o d e = refl
    by false o d e = ap (option_map suc) e ∙ after o d

pub first-more : (n : ℕ) (cs : List ControlCopy) (i place : ℕ) (c : ControlCopy) → i < length cs → c ≡ get_or cs i c → place ≡ i
    → first_in n (take (i + 1) cs) ≡ first_or (first_in n (take i cs)) (in_row n c) place
first-more n cs i place c l is same =
    let short : length (take i cs) ≡ place = omega (arith, length-take-le i cs (omega (arith, l)), same) in
    ap (first_in n) (take_more cs i c l ∙ ap (λ x. take i cs ++ x ∷ []) (sym is)) ∙ one-behind n (take i cs) c ∙ ap (first_or (first_in n (take i cs)) (in_row n c)) short

-- ---- in a map

pub put-first : (o : ℕ → Option ℕ) (row n place : ℕ) → o row ≡ None → cond (nat_eq row n) (Some place) (o n) ≡ first_or (o n) (row == n) place
put-first o row n place none = by (row == n) refl
  where
    by : (b : Bool) → (row == n) ≡ b → cond b (Some place) (o n) ≡ first_or (o n) b place
    by true e = let same : row ≡ n = grind (arith, nat_tests, e) in sym (ap (λ m. first_or m true place) (ap o (sym same) ∙ none))
    by false e = sym (kept (o n) place)

pub has-row : (o : ℕ → Option ℕ) (row n place : ℕ) → is_some (o row) ≡ true → o n ≡ first_or (o n) (row == n) place
has-row o row n place some = by (row == n) refl
  where
    old : (m : Option ℕ) → is_some m ≡ true → m ≡ first_or m true place
    old None e = cc e
    old (Some q) e = refl

    by : (b : Bool) → (row == n) ≡ b → o n ≡ first_or (o n) b place
    by true e = let same : row ≡ n = grind (arith, nat_tests, e) in old (o n) (ap (λ k. is_some (o k)) (sym same) ∙ some)
    by false e = sym (kept (o n) place)

pub not-some : (m : Option ℕ) → is_some m ≡ false → m ≡ None
not-some None e = refl
not-some (Some q) e = cc e

-- ---- what stands before it

same-rows : (c : Copy) (x : ControlCopy) → is_same_copy c (seen_copy x) ≡ true → c.rows ≡ x.rows
same-rows c x h =
    let both = and_parts (c.element == x.element) (bytes_eq c.rows x.rows) h in
    (bytes_eq-Decides c.rows x.rows).0 both.1

row-is : (n m : ℕ) → m ≡ n → (m == n) ≡ true
row-is n m e = grind (arith, nat_tests, e)

same-row : (c : Copy) (x : ControlCopy) (n : ℕ) → innermost c.rows ≡ Some n → is_same_copy c (seen_copy x) ≡ true → in_row n x ≡ true
same-row c x n e h = ap (λ rows. is_row n (innermost rows)) (sym (same-rows c x h)) ∙ ap (is_row n) e ∙ row-is n n refl

off-row : (c : Copy) (x : ControlCopy) (n : ℕ) → innermost c.rows ≡ Some n → in_row n x ≡ false → is_same_copy c (seen_copy x) ≡ false
off-row c x n e h = by (is_same_copy c (seen_copy x)) refl
  where
    by : (b : Bool) → is_same_copy c (seen_copy x) ≡ b → b ≡ false
    by true g = let no : true ≡ false = sym (same-row c x n e g) ∙ h in cc no
    by false g = refl

abbrev pub sought : Copy → List ControlCopy → Option Copy
sought c cs = find (is_same_copy c) (map seen_copy cs)

none-by : (c : Copy) (x : ControlCopy) (n : ℕ) (cs : List ControlCopy) → innermost c.rows ≡ Some n → (b : Bool) → in_row n x ≡ b → (o : Option ℕ) → (o ≡ None → sought c cs ≡ None)
    → cond b (Some zero) (option_map suc o) ≡ None → sought c (x ∷ cs) ≡ None
none-by c x n cs e true g o h i = cc i
none-by c x n cs e false g None h i = ap (λ b. cond b (Some (seen_copy x)) (sought c cs)) (off-row c x n e g) ∙ h refl
none-by c x n cs e false g (Some p) h i = cc i

pub none-in : (c : Copy) (n : ℕ) (cs : List ControlCopy) → innermost c.rows ≡ Some n → first_in n cs ≡ None → sought c cs ≡ None
none-in c n [] e h = refl
none-in c n (x ∷ cs) e h = none-by c x n cs e (in_row n x) refl (first_in n cs) (none-in c n cs e) h

from-by : (c : Copy) (x : ControlCopy) (n p : ℕ) (cs : List ControlCopy) → innermost c.rows ≡ Some n → (b : Bool) → in_row n x ≡ b → (o : Option ℕ) → ((q : ℕ) → o ≡ Some q → sought c cs ≡ sought c (drop q cs))
    → cond b (Some zero) (option_map suc o) ≡ Some p → sought c (x ∷ cs) ≡ sought c (drop p (x ∷ cs))
from-by c x n p cs e true g o h i = let first : zero ≡ p = cc i in ap (λ q. sought c (drop q (x ∷ cs))) first
from-by c x n p cs e false g None h i = cc i
from-by c x n p cs e false g (Some q) h i =
    let next : suc q ≡ p = cc i in
    ap (λ b. cond b (Some (seen_copy x)) (sought c cs)) (off-row c x n e g) ∙ h q refl ∙ ap (λ r. sought c (drop r (x ∷ cs))) next

pub from-first : (c : Copy) (n p : ℕ) (cs : List ControlCopy) → innermost c.rows ≡ Some n → first_in n cs ≡ Some p → sought c cs ≡ sought c (drop p cs)
from-first c n p [] e h = cc h
from-first c n p (x ∷ cs) e h = from-by c x n p cs e (in_row n x) refl (first_in n cs) (λ q. from-first c n q cs e) h

-- of a copy that may stand in a row or in none
pub none-from : (c : ControlCopy) (cs : List ControlCopy) → first_from c cs ≡ None → sought (seen_copy c) cs ≡ None
none-from c cs h = by (innermost c.rows) refl h
  where
    by : (o : Option ℕ) → innermost c.rows ≡ o → first_by o cs ≡ None → sought (seen_copy c) cs ≡ None
    by None e i = cc i
    by (Some n) e i = none-in (seen_copy c) n cs e i

pub from-place : (c : ControlCopy) (p : ℕ) (cs : List ControlCopy) → first_from c cs ≡ Some p → sought (seen_copy c) cs ≡ sought (seen_copy c) (drop p cs)
from-place c p cs h = by (innermost c.rows) refl h
  where
    by : (o : Option ℕ) → innermost c.rows ≡ o → first_by o cs ≡ Some p → sought (seen_copy c) cs ≡ sought (seen_copy c) (drop p cs)
    by None e i = let first : zero ≡ p = cc i in ap (λ q. sought (seen_copy c) (drop q cs)) first
    by (Some n) e i = from-first (seen_copy c) n p cs e i

pub past-end : (c : ControlCopy) (p : ℕ) (cs : List ControlCopy) → first_from c cs ≡ Some p → length cs ≤ p → sought (seen_copy c) cs ≡ None
past-end c p cs h l = from-place c p cs h ∙ ap (sought (seen_copy c)) (drop_all p cs l)

pub rest-is : (cs : List ControlCopy) (p : ℕ) → take (length cs - p) (drop p cs) ≡ drop p cs
rest-is cs p = take_all (length cs - p) (drop p cs) (omega (arith, length-drop p cs))

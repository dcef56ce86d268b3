-- Cases by the sort of an element, and by that of the element around.
use Rattle.std.proofs.Common.{◌≡◌, ℕ, ◌+◌, ◌<◌, Bool, true, false, cond, List, [], ◌∷◌, length, drop, Some, None, refl, sym, ap, ◌∙◌, get_or}
use Rattle.std.specs.Prelude.{◌==◌, if◌then◌else◌}
use Rattle.std.proofs.lemmas.List.{drop_more}
use Rattle.xf_def_syntax.specs.declared.element.Part.{Part}
use Rattle.xf_def_syntax.specs.declared.element.Part.TheVariants as part
use Rattle.xf_def_ui.specs.Cases.{if_case, is_case, is_case_of, is_case_sort, is_selected, place_of_case}
use Rattle.xf_def_ui.specs.Interface.{Interface, Sort, host, other, group, switch, one_case, repeated, field, output, select, item, itemset, choices, label, item_value, inline, action}
use Rattle.xf_form_elements.specs.Switch.Among.{cases_among, own_case, own_switch}

-- what is no case is not asked
pub no-case : (f : Interface) (cases : List ℕ) (n : ℕ) (s : Sort) → is_case_sort s ≡ false → if_case f cases n s ≡ true
no-case f cases n (one_case b) h = cc h
no-case f cases n host h = refl
no-case f cases n other h = refl
no-case f cases n group h = refl
no-case f cases n (switch k) h = refl
no-case f cases n (repeated k i) h = refl
no-case f cases n field h = refl
no-case f cases n (output e) h = refl
no-case f cases n (select a b) h = refl
no-case f cases n item h = refl
no-case f cases n itemset h = refl
no-case f cases n choices h = refl
no-case f cases n label h = refl
no-case f cases n (item_value e) h = refl
no-case f cases n (inline e) h = refl
no-case f cases n (action a) h = refl

pub one-case : (f : Interface) (cases : List ℕ) (n : ℕ) (s : Sort) → is_case_sort s ≡ true → if_case f cases n s ≡ is_selected f cases n
one-case f cases n (one_case b) h = refl
one-case f cases n host h = cc h
one-case f cases n other h = cc h
one-case f cases n group h = cc h
one-case f cases n (switch k) h = cc h
one-case f cases n (repeated k i) h = cc h
one-case f cases n field h = cc h
one-case f cases n (output e) h = cc h
one-case f cases n (select a b) h = cc h
one-case f cases n item h = cc h
one-case f cases n itemset h = cc h
one-case f cases n choices h = cc h
one-case f cases n label h = cc h
one-case f cases n (item_value e) h = cc h
one-case f cases n (inline e) h = cc h
one-case f cases n (action a) h = cc h

-- a case stands in a switch alone
pub no-switch : (f : Interface) (cases : List ℕ) (one n : ℕ) (s : Sort) → None ≡ own_switch s → is_case_of f cases one (Some n) s ≡ false
no-switch f cases one n (switch k) h = cc h
no-switch f cases one n (one_case b) h = refl
no-switch f cases one n host h = refl
no-switch f cases one n other h = refl
no-switch f cases one n group h = refl
no-switch f cases one n (repeated k i) h = refl
no-switch f cases one n field h = refl
no-switch f cases one n (output e) h = refl
no-switch f cases one n (select a b) h = refl
no-switch f cases one n item h = refl
no-switch f cases one n itemset h = refl
no-switch f cases one n choices h = refl
no-switch f cases one n label h = refl
no-switch f cases one n (item_value e) h = refl
no-switch f cases one n (inline e) h = refl
no-switch f cases one n (action a) h = refl

pub one-switch : (f : Interface) (cases : List ℕ) (one n k : ℕ) (s : Sort) → Some k ≡ own_switch s
    → is_case_of f cases one (Some n) s ≡ (place_of_case f n one == get_or cases k 0)
one-switch f cases one n k (switch j) h = let same : k ≡ j = cc h in ap (λ i. place_of_case f n one == get_or cases i 0) (sym same)
one-switch f cases one n k (one_case b) h = cc h
one-switch f cases one n k host h = cc h
one-switch f cases one n k other h = cc h
one-switch f cases one n k group h = cc h
one-switch f cases one n k (repeated i j) h = cc h
one-switch f cases one n k field h = cc h
one-switch f cases one n k (output e) h = cc h
one-switch f cases one n k (select a b) h = cc h
one-switch f cases one n k item h = cc h
one-switch f cases one n k itemset h = cc h
one-switch f cases one n k choices h = cc h
one-switch f cases one n k label h = cc h
one-switch f cases one n k (item_value e) h = cc h
one-switch f cases one n k (inline e) h = cc h
one-switch f cases one n k (action a) h = cc h

-- a part that is no case leaves the cases as they are
skips : (f : Interface) (p : Part) (ps : List Part) → None ≡ own_case f p → cases_among f (p ∷ ps) ≡ cases_among f ps
skips f (part.Text t) ps h = refl
skips f (part.Element n) ps h = by (is_case f n) h
  where
    by : (b : Bool) → None ≡ (if b then Some n else None) → cond b (n ∷ cases_among f ps) (cases_among f ps) ≡ cases_among f ps
    by true e = cc e
    by false e = refl

pub no-case-at : (f : Interface) (ps : List Part) (i : ℕ) (p : Part) → i < length ps → p ≡ get_or ps i p → None ≡ own_case f p → cases_among f (drop i ps) ≡ cases_among f (drop (i + 1) ps)
no-case-at f ps i p l e h = ap (cases_among f) (drop_more ps i p l ∙ ap (λ x. x ∷ drop (i + 1) ps) (sym e)) ∙ skips f p (drop (i + 1) ps) h

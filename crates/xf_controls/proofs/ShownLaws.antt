-- Copies that get other values one after the other, the values that they had, and what is told of all.
use Rattle.std.proofs.Common.{◌≡◌, ℕ, zero, suc, ◌+◌, ◌<◌, ◌≤◌, Bool, true, false, cond, not, ◌&&◌, List, [], ◌∷◌, ◌++◌, map, length, get_or, drop, Option, Some, None, option_map, refl, sym, ap, ◌∙◌, subst, arith, append_assoc, append-nil}
use Rattle.std.specs.Prelude.{slice_get, slice_set, find, bytes_eq, codes, nat_lt}
use Rattle.std.specs.List.{flat_map}
use Rattle.std.specs.Bool.{OnFalse, OnTrue}
use Rattle.std.proofs.lemmas.Slice.Eq.{bytes_eq-Decides}
use Rattle.std.proofs.lemmas.Bool.Decides.{nat_tests}
use Rattle.xf_base.specs.Limits.{string_limit}
use Rattle.xf_def_forest.specs.declared.content.Node.{Node}
use Rattle.xf_def_forest.specs.StringValue.{pieces, string_value, whole}
use Rattle.xf_def_forest.specs.Visit.{Visit}
use Rattle.xf_def_forest.proofs.PieceLaws.{whole-value}
use Rattle.xf_def_xpath.specs.Setting.{◌>>=◌, capped}
use Rattle.xf_def_xpath.proofs.VisitFacts.{self-same}
use Rattle.xf_def_ui.specs.Copies.{Copy}
use Rattle.xf_def_ui.specs.Notifications.{Notification, is_same_copy, names_of, notifications, same_value, state_names, told, told_since, value_names}
use Rattle.xf_controls.specs.declared.copy.ControlCopy.{ControlCopy}
use Rattle.xf_controls.specs.declared.shown.Former.{Former}
use Rattle.xf_controls.specs.Former.{kept_in, node_at, others, put_back, told_if, value_at, with_value_at}
use Rattle.xf_controls.specs.Renewed.{AreThere, renewed, renewed_copy, value_over, with_value}
use Rattle.xf_controls.specs.Rising.{rises_from}
use Rattle.xf_controls.specs.Seen.{IsThere, number, seen_copy}
use Rattle.xf_controls.proofs.RenewedLaws.{AreOver, renewed-over}
use Rattle.xf_controls.proofs.ToldLaws.{same-at}

-- ---- what holds where a test says so

pub on-true : {P : Type 0} (b : Bool) → (b ≡ true → P) → OnTrue b P
on-true true h = h refl
on-true false h = tt

pub from-true : {P : Type 0} (b : Bool) → b ≡ true → OnTrue b P → P
from-true true e h = h
from-true false e h = cc e

pub from-false : {P : Type 0} (b : Bool) → b ≡ false → OnFalse b P → P
from-false true e h = cc e
from-false false e h = h

-- ---- a value in one piece

not-over : (n m : ℕ) → n ≤ m → nat_lt m n ≡ false
not-over n m h = grind (arith, nat_tests, h)

pub text-stays : (n : ℕ) (all : List Visit) (text piece : List ℕ) → Some piece ≡ whole (pieces n all) → length piece ≤ string_limit → bytes_eq text piece ≡ true → capped (Some string_limit) (string_value n all) ≡ Some text
text-stays n all text piece h short same =
    ap (capped (Some string_limit)) (sym (whole-value n all piece (sym h)))
    ∙ ap (λ b. cond b None (Some piece)) (not-over (length piece) string_limit short)
    ∙ ap Some (sym ((bytes_eq-Decides text piece).0 same))

-- ---- values

pub same-is : (v w : Option (List ℕ)) → same_value v w ≡ true → v ≡ w
same-is None None h = refl
same-is None (Some t) h = cc h
same-is (Some s) None h = cc h
same-is (Some s) (Some t) h = ap Some ((bytes_eq-Decides s t).0 h)

pub same-itself : (v : Option (List ℕ)) → same_value v v ≡ true
same-itself None = refl
same-itself (Some text) = (bytes_eq-Decides text text).1 refl

-- ---- a copy with another value

pub set-value : (cs : List ControlCopy) (place : ℕ) (c : ControlCopy) (v : Option (List ℕ)) → place < length cs → c ≡ get_or cs place c → slice_set cs place (with_value c v) ≡ with_value_at place v cs
set-value [] place c v l e = refl
set-value (x ∷ cs) zero c v l e = ap (λ y. with_value y v ∷ cs) e
set-value (x ∷ cs) (suc place) c v l e = ap (λ ys. x ∷ ys) (set-value cs place c v (omega (arith, l)) e)

pub get-node : (cs : List ControlCopy) (place : ℕ) (c : ControlCopy) → place < length cs → c ≡ get_or cs place c → c.node ≡ node_at cs place
get-node [] place c l e = absurd (omega (arith, l))
get-node (x ∷ cs) zero c l e = ap (λ (y : ControlCopy). y.node) e
get-node (x ∷ cs) (suc place) c l e = get-node cs place c (omega (arith, l)) e

pub get-value : (cs : List ControlCopy) (place : ℕ) (c : ControlCopy) → place < length cs → c ≡ get_or cs place c → c.value ≡ value_at cs place
get-value [] place c l e = absurd (omega (arith, l))
get-value (x ∷ cs) zero c l e = ap (λ (y : ControlCopy). y.value) e
get-value (x ∷ cs) (suc place) c l e = get-value cs place c (omega (arith, l)) e

pub had-value : (cs : List ControlCopy) (place : ℕ) (v : Option (List ℕ)) → option_map (λ (c : ControlCopy). c.value) (slice_get cs place) ≡ Some v → value_at cs place ≡ v
had-value [] place v e = cc e
had-value (x ∷ cs) zero v e = cc e
had-value (x ∷ cs) (suc place) v e = had-value cs place v e

pub value-back : (cs : List ControlCopy) (place : ℕ) (v : Option (List ℕ)) → with_value_at place (value_at cs place) (with_value_at place v cs) ≡ cs
value-back [] place v = refl
value-back (c ∷ cs) zero v = refl
value-back (c ∷ cs) (suc place) v = ap (λ ys. c ∷ ys) (value-back cs place v)

pub value-same : (cs : List ControlCopy) (place : ℕ) → with_value_at place (value_at cs place) cs ≡ cs
value-same [] place = refl
value-same (c ∷ cs) zero = refl
value-same (c ∷ cs) (suc place) = ap (λ ys. c ∷ ys) (value-same cs place)

pub value-past : (cs : List ControlCopy) (place : ℕ) (v : Option (List ℕ)) → length cs ≤ place → with_value_at place v cs ≡ cs
value-past [] place v l = refl
value-past (c ∷ cs) zero v l = absurd (omega (arith, l))
value-past (c ∷ cs) (suc place) v l = ap (λ ys. c ∷ ys) (value-past cs place v (omega (arith, l)))

pub value-length : (cs : List ControlCopy) (place : ℕ) (v : Option (List ℕ)) → length (with_value_at place v cs) ≡ length cs
value-length [] place v = refl
value-length (c ∷ cs) zero v = refl
value-length (c ∷ cs) (suc place) v = ap suc (value-length cs place v)

pub value-new : (cs : List ControlCopy) (place : ℕ) (v : Option (List ℕ)) → place < length cs → value_at (with_value_at place v cs) place ≡ v
value-new [] place v l = absurd (omega (arith, l))
value-new (c ∷ cs) zero v l = refl
value-new (c ∷ cs) (suc place) v l = value-new cs place v (omega (arith, l))

-- ---- former values

put-append : (list : List ControlCopy) (fs : List Former) (x : Former) → put_back list (fs ++ x ∷ []) ≡ put_back (with_value_at x.place x.value list) fs
put-append list [] x = refl
put-append list (f ∷ fs) x = ap (with_value_at f.place f.value) (put-append list fs x)

-- the value that was there is noted
pub put-noted : (list new : List ControlCopy) (fs gs : List Former) (place : ℕ) (was v : Option (List ℕ)) → was ≡ value_at list place → new ≡ with_value_at place v list → gs ≡ fs ++ record { place = place; value = was } ∷ []
    → put_back new gs ≡ put_back list fs
put-noted list new fs gs place was v had is more =
    ap (put_back new) more ∙ put-append new fs (record { place = place; value = was }) ∙ ap (λ w. put_back (with_value_at place w new) fs) had
    ∙ ap (λ l. put_back (with_value_at place (value_at list place) l) fs) is ∙ ap (λ l. put_back l fs) (value-back list place v)

-- the last one is put back
pub put-one : (list next : List ControlCopy) (fs before : List Former) (x : Former) → before ≡ fs ++ x ∷ [] → next ≡ with_value_at x.place x.value list → put_back next fs ≡ put_back list before
put-one list next fs before x e h = ap (λ l. put_back l fs) h ∙ sym (put-append list fs x) ∙ ap (put_back list) (sym e)

pub kept-same : (list new : List ControlCopy) (aside : Option (List ControlCopy)) (fs gs : List Former) → put_back new gs ≡ put_back list fs → kept_in new aside gs ≡ kept_in list aside fs
kept-same list new None fs gs e = e
kept-same list new (Some kept) fs gs e = refl

-- ---- as far as copies are renewed

abbrev pub IsUpTo : List Node → ℕ → List ControlCopy → List ControlCopy → Type 0
IsUpTo nodes zero before list = list ≡ before
IsUpTo nodes (suc place) [] list = list ≡ []
IsUpTo nodes (suc place) (o ∷ os) [] = ⊥
IsUpTo nodes (suc place) (o ∷ os) (n ∷ ns) = (renewed_copy nodes o ≡ Some n) × IsUpTo nodes place os ns

pub up-first : (nodes : List Node) (before list : List ControlCopy) (place : ℕ) → place ≡ 0 → list ≡ before → IsUpTo nodes place before list
up-first nodes before list place at e = subst (λ k. IsUpTo nodes k before list) (sym at) e

pub up-length : (nodes : List Node) (place : ℕ) (before list : List ControlCopy) → IsUpTo nodes place before list → length list ≡ length before
up-length nodes zero before list h = ap length h
up-length nodes (suc place) [] list h = ap length h
up-length nodes (suc place) (o ∷ os) [] h = absurd h
up-length nodes (suc place) (o ∷ os) (n ∷ ns) h = ap suc (up-length nodes place os ns h.1)

there-at : (cs : List ControlCopy) (place : ℕ) (nodes : List Node) → AreThere cs nodes → IsThere (node_at cs place) nodes
there-at [] place nodes t = refl
there-at (c ∷ cs) zero nodes t = t.0
there-at (c ∷ cs) (suc place) nodes t = there-at cs place nodes t.1

pub up-there : (nodes : List Node) (place : ℕ) (before list : List ControlCopy) → IsUpTo nodes place before list → AreThere before nodes → IsThere (node_at list place) nodes
up-there nodes zero before list h t = subst (λ l. IsThere (node_at l 0) nodes) (sym h) (there-at before 0 nodes t)
up-there nodes (suc place) [] list h t = subst (λ l. IsThere (node_at l (suc place)) nodes) (sym h) refl
up-there nodes (suc place) (o ∷ os) [] h t = absurd h
up-there nodes (suc place) (o ∷ os) (n ∷ ns) h t = up-there nodes place os ns h.1 t.1

up-step : (nodes : List Node) (place : ℕ) (before list : List ControlCopy) (v : Option (List ℕ)) → IsUpTo nodes place before list → place < length before → value_over nodes (option_map number (node_at list place)) ≡ Some v
    → IsUpTo nodes (suc place) before (with_value_at place v list)
up-step nodes zero [] list v h l e = absurd (omega (arith, l))
up-step nodes zero (o ∷ os) list v h l e =
    subst (λ k. IsUpTo nodes 1 (o ∷ os) (with_value_at 0 v k)) (sym h)
    (ap (option_map (with_value o)) (ap (λ k. value_over nodes (option_map number (node_at k 0))) (sym h) ∙ e), refl)
up-step nodes (suc place) [] list v h l e = absurd (omega (arith, l))
up-step nodes (suc place) (o ∷ os) [] v h l e = absurd h
up-step nodes (suc place) (o ∷ os) (n ∷ ns) v h l e = (h.0, up-step nodes place os ns v h.1 (omega (arith, l)) e)

pub up-lost : (nodes : List Node) (place : ℕ) (before list : List ControlCopy) → IsUpTo nodes place before list → place < length before → value_over nodes (option_map number (node_at list place)) ≡ None → renewed nodes before ≡ None
up-lost nodes zero [] list h l e = absurd (omega (arith, l))
up-lost nodes zero (o ∷ os) list h l e =
    ap (λ m. option_map (with_value o) m >>= λ y. renewed nodes os >>= λ ys. Some (y ∷ ys)) (ap (λ k. value_over nodes (option_map number (node_at k 0))) (sym h) ∙ e)
up-lost nodes (suc place) [] list h l e = absurd (omega (arith, l))
up-lost nodes (suc place) (o ∷ os) [] h l e = absurd h
up-lost nodes (suc place) (o ∷ os) (n ∷ ns) h l e =
    ap (λ m. m >>= λ y. renewed nodes os >>= λ ys. Some (y ∷ ys)) h.0 ∙ ap (λ m. m >>= λ ys. Some (n ∷ ys)) (up-lost nodes place os ns h.1 (omega (arith, l)) e)

pub up-all : (nodes : List Node) (place : ℕ) (before list : List ControlCopy) → IsUpTo nodes place before list → length before ≤ place → renewed nodes before ≡ Some list
up-all nodes zero [] list h l = ap Some (sym h)
up-all nodes zero (o ∷ os) list h l = absurd (omega (arith, l))
up-all nodes (suc place) [] list h l = ap Some (sym h)
up-all nodes (suc place) (o ∷ os) [] h l = absurd h
up-all nodes (suc place) (o ∷ os) (n ∷ ns) h l =
    ap (λ m. m >>= λ y. renewed nodes os >>= λ ys. Some (y ∷ ys)) h.0 ∙ ap (λ m. m >>= λ ys. Some (n ∷ ys)) (up-all nodes place os ns h.1 (omega (arith, l)))

-- ---- what is told of those that got another value

others-none : (cs : List ControlCopy) → others cs cs ≡ []
others-none [] = refl
others-none (c ∷ cs) = ap (λ b. told_if b c ++ others cs cs) (same-itself c.value) ∙ others-none cs

pub others-first : (before list : List ControlCopy) (all : List Notification) → list ≡ before → all ≡ [] → all ≡ others before list
others-first before list all e none = none ∙ sym (ap (others before) e ∙ others-none before)

others-step : (nodes : List Node) (place : ℕ) (before list : List ControlCopy) (v : Option (List ℕ)) (c : ControlCopy) → IsUpTo nodes place before list → place < length before → slice_get (with_value_at place v list) place ≡ Some c
    → others before (with_value_at place v list) ≡ others before list ++ told_if (same_value (value_at list place) v) c
others-step nodes zero [] list v c h l e = absurd (omega (arith, l))
others-step nodes zero (o ∷ os) list v c h l e =
    subst (λ k. slice_get (with_value_at 0 v k) 0 ≡ Some c → others (o ∷ os) (with_value_at 0 v k) ≡ others (o ∷ os) k ++ told_if (same_value (value_at k 0) v) c) (sym h)
    (λ is. let same : with_value o v ≡ c = cc is in
    ap (λ l. told_if (same_value o.value v) (with_value o v) ++ l) (others-none os) ∙ append-nil (told_if (same_value o.value v) (with_value o v)) ∙ ap (told_if (same_value o.value v)) same
    ∙ ap (λ l. l ++ told_if (same_value o.value v) c) (sym (others-none (o ∷ os))))
    e
others-step nodes (suc place) [] list v c h l e = absurd (omega (arith, l))
others-step nodes (suc place) (o ∷ os) [] v c h l e = absurd h
others-step nodes (suc place) (o ∷ os) (n ∷ ns) v c h l e =
    ap (λ l. told_if (same_value o.value n.value) n ++ l) (others-step nodes place os ns v c h.1 (omega (arith, l)) e)
    ∙ sym (append_assoc (told_if (same_value o.value n.value) n) (others os ns) (told_if (same_value (value_at ns place) v) c))

-- ---- one more copy

pub record IsRenewed (nodes : List Node) (place : ℕ) (all : List Notification) (before list : List ControlCopy) : Type 0 where
  pub upto : IsUpTo nodes place before list
  pub told : all ≡ others before list

some-parts : {A B : Type 0} (g : A → B) (m : Option A) (y : B) → option_map g m ≡ Some y → (x : A) × ((m ≡ Some x) × (g x ≡ y))
some-parts g None y e = cc e
some-parts g (Some x) y e = let same : g x ≡ y = cc e in (x, (refl, same))

pub none-part : {A B : Type 0} (g : A → B) (m : Option A) → option_map g m ≡ None → m ≡ None
none-part g None e = refl
none-part g (Some x) e = cc e

pub one-length : (m : Option (Option (List ℕ))) (place : ℕ) (list new : List ControlCopy) → option_map (λ v. with_value_at place v list) m ≡ Some new → length new ≡ length list
one-length m place list new e = let p = some-parts (λ v. with_value_at place v list) m new e in ap length (sym p.1.1) ∙ value-length list place p.0

pub one-renewed : (nodes : List Node) (place : ℕ) (all more : List Notification) (before list new : List ControlCopy) (other : Bool) (c : ControlCopy) → IsRenewed nodes place all before list → place < length before
    → option_map (λ v. with_value_at place v list) (value_over nodes (option_map number (node_at list place))) ≡ Some new
    → other ≡ not (same_value (value_at list place) (value_at new place)) → slice_get new place ≡ Some c → more ≡ all ++ told_if (not other) c → IsRenewed nodes (place + 1) more before new
one-renewed nodes place all more before list new other c is l e o at m =
    let p = some-parts (λ v. with_value_at place v list) (value_over nodes (option_map number (node_at list place))) new e in
    let one : place + 1 ≡ suc place = omega arith in
    let long : place < length list = subst (λ k. place < k) (sym (up-length nodes place before list is.upto)) l in
    let new-value : value_at new place ≡ p.0 = ap (λ k. value_at k place) (sym p.1.1) ∙ value-new list place p.0 long in
    let tested : not other ≡ same_value (value_at list place) p.0 = ap not o ∙ twice (same_value (value_at list place) (value_at new place)) ∙ ap (same_value (value_at list place)) new-value in
    let here : slice_get (with_value_at place p.0 list) place ≡ Some c = ap (λ k. slice_get k place) p.1.1 ∙ at in
    record {
      upto = subst (λ k. IsUpTo nodes k before new) (sym one) (subst (IsUpTo nodes (suc place) before) p.1.1 (up-step nodes place before list p.0 is.upto l p.1.0));
      told =
          m ∙ ap (λ b. all ++ told_if b c) tested ∙ ap (λ a. a ++ told_if (same_value (value_at list place) p.0) c) is.told
          ∙ sym (others-step nodes place before list p.0 c is.upto l here) ∙ ap (others before) p.1.1;
    }
  where
    twice : (b : Bool) → not (not b) ≡ b
    twice true = refl
    twice false = refl

-- ---- what a refresh tells

no-state : (on off : List ℕ) (b : Bool) → state_names on off b b ≡ []
no-state on off true = refl
no-state on off false = refl

-- where the values alone may differ
names-over : (c : ControlCopy) (v : Option (List ℕ)) → names_of (seen_copy c) (seen_copy (with_value c v)) ≡ value_names (seen_copy c) (seen_copy (with_value c v)) ++ [] ++ [] ++ [] ++ []
names-over c v =
    let own = value_names (seen_copy c) (seen_copy (with_value c v)) in
    let readwrite = state_names (codes "xforms-readwrite") (codes "xforms-readonly") c.readwrite c.readwrite in
    let required = state_names (codes "xforms-required") (codes "xforms-optional") c.required c.required in
    let enabled = state_names (codes "xforms-enabled") (codes "xforms-disabled") c.enabled c.enabled in
    ap (λ l. own ++ l ++ readwrite ++ required ++ enabled) (no-state (codes "xforms-valid") (codes "xforms-invalid") c.valid)
    ∙ ap (λ l. own ++ [] ++ l ++ required ++ enabled) (no-state (codes "xforms-readwrite") (codes "xforms-readonly") c.readwrite)
    ∙ ap (λ l. own ++ [] ++ [] ++ l ++ enabled) (no-state (codes "xforms-required") (codes "xforms-optional") c.required)
    ∙ ap (λ l. own ++ [] ++ [] ++ [] ++ l) (no-state (codes "xforms-enabled") (codes "xforms-disabled") c.enabled)

told-over : (c : ControlCopy) (v : Option (List ℕ)) → told (seen_copy (with_value c v)) (names_of (seen_copy c) (seen_copy (with_value c v))) ≡ told_if (same_value c.value v) (with_value c v)
told-over c v = ap (told (seen_copy (with_value c v))) (names-over c v) ∙ by (same_value c.value v)
  where
    by : (b : Bool) → told (seen_copy (with_value c v)) (cond b [] (codes "xforms-value-changed" ∷ []) ++ [] ++ [] ++ [] ++ []) ≡ told_if b (with_value c v)
    by true = refl
    by false = refl

same-here : (c : Copy) → is_same_copy c c ≡ true
same-here c = ap (λ b. b && bytes_eq c.rows c.rows) (self-same c.element) ∙ (bytes_eq-Decides c.rows c.rows).1 refl

drop-next : {X : Type 0} (n : ℕ) (xs : List X) (d : X) (ys : List X) → drop n xs ≡ d ∷ ys → drop (suc n) xs ≡ ys
drop-next zero [] d ys e = cc e
drop-next zero (x ∷ xs) d ys e = cc e
drop-next (suc n) [] d ys e = cc e
drop-next (suc n) (x ∷ xs) d ys e = drop-next n xs d ys e

drop-here : {X : Type 0} (n : ℕ) (xs : List X) (d : X) (ys : List X) → drop n xs ≡ d ∷ ys → (n < length xs) × (d ≡ get_or xs n d)
drop-here zero [] d ys e = cc e
drop-here zero (x ∷ xs) d ys e = let same : x ≡ d = cc e in (omega arith, sym same)
drop-here (suc n) [] d ys e = cc e
drop-here (suc n) (x ∷ xs) d ys e = let h = drop-here n xs d ys e in (omega (arith, h.0), h.1)

from-here : (before : List ControlCopy) → rises_from 0 before ≡ true → (i : ℕ) (os ns : List ControlCopy) → drop i before ≡ os → AreOver os ns
    → flat_map (λ c. told_since (find (is_same_copy c) (map seen_copy before)) c) (map seen_copy ns) ≡ others os ns
from-here before rises i [] [] e s = refl
from-here before rises i [] (n ∷ ns) e s = absurd s
from-here before rises i (o ∷ os) [] e s = absurd s
from-here before rises i (o ∷ os) (n ∷ ns) e s =
    let at = drop-here i before o os e in
    let rest = flat_map (λ c. told_since (find (is_same_copy c) (map seen_copy before)) c) (map seen_copy ns) in
    ap (λ x. told_since (find (is_same_copy (seen_copy x)) (map seen_copy before)) (seen_copy x) ++ rest) s.0
    ∙ ap (λ m. told_since m (seen_copy (with_value o n.value)) ++ rest) (same-at 0 before (seen_copy (with_value o n.value)) i o rises at.0 at.1 (same-here (seen_copy o)))
    ∙ ap (λ l. l ++ rest) (told-over o n.value ∙ ap (told_if (same_value o.value n.value)) (sym s.0))
    ∙ ap (λ l. told_if (same_value o.value n.value) n ++ l) (from-here before rises (suc i) os ns (drop-next i before o os e) s.1)

pub told-all : (nodes : List Node) (before list : List ControlCopy) (all : List Notification) → rises_from 0 before ≡ true → renewed nodes before ≡ Some list → all ≡ others before list → all ≡ notifications (map seen_copy before) (map seen_copy list)
told-all nodes before list all rises e told = told ∙ sym (from-here before rises 0 before list refl (renewed-over nodes before list e))

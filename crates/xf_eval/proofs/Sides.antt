-- Some pair of two sides, one of them a set.
use Rattle.std.proofs.Common.{◌≡◌, ℕ, Bool, true, false, ◌||◌, List, [], ◌∷◌, map, Option, Some, None, option_map, refl, sym, ap, ◌∙◌}
use Rattle.std.specs.List.{list_any}
use Rattle.xf_def_forest.specs.declared.content.Node.{Node}
use Rattle.xf_def_syntax.specs.declared.expr.Operator.{Operator}
use Rattle.xf_def_values.specs.declared.plain.Plain.{Plain}
use Rattle.xf_def_values.specs.declared.plain.Plain.TheVariants as plain
use Rattle.xf_def_xpath.specs.declared.value.Value.{Value}
use Rattle.xf_def_xpath.specs.declared.value.Value.TheVariants.{Nodes, Text, Number, Truth}
use Rattle.xf_def_xpath.specs.Setting.{◌>>=◌}
use Rattle.xf_def_xpath.specs.Conversions.{strings_of, value_of_plain}
use Rattle.xf_def_xpath.specs.Comparisons.{compared, holds, pairs_hold, plains_of, some_pair}
use Rattle.xf_eval.specs.declared.compare.Side.{Side}
use Rattle.xf_eval.specs.declared.compare.Side.TheVariants as side
use Rattle.xf_eval.specs.Sides.{holds_for_some, plain_on, some_beside}
use Rattle.xf_eval.specs.Worth.{bare_setting, setting_in}

any-map : {X Y : Type 0} (p : Y → Bool) (f : X → Y) (xs : List X) → list_any p (map f xs) ≡ list_any (λ x. p (f x)) xs
any-map p f [] = refl
any-map p f (x ∷ xs) = ap (λ b. p (f x) || b) (any-map p f xs)

or-none : (b : Bool) → (b || false) ≡ b
or-none true = refl
or-none false = refl

-- ---- a set on the left

pairs-left : (d : ℕ) (o : Operator) (texts : List (List ℕ)) (rights : List Side) → some_pair (holds d o) (map plain.Text texts) (map plain_on rights) ≡ some_beside d o true rights texts
pairs-left d o [] rights = refl
pairs-left d o (t ∷ ts) rights =
    ap (λ b. b || some_pair (holds d o) (map plain.Text ts) (map plain_on rights)) (any-map (holds d o (plain.Text t)) plain_on rights)
    ∙ ap (λ b. list_any (λ (right : Side). holds d o (plain.Text t) (plain_on right)) rights || b) (pairs-left d o ts rights)

pub set-left : (d : ℕ) (nodes : List Node) (o : Operator) (ns : List ℕ) (right : Value) (sides : List Side) → plains_of (setting_in d nodes) right ≡ Some (map plain_on sides) →
    option_map (some_beside d o true sides) (strings_of (bare_setting nodes) ns) ≡ pairs_hold (setting_in d nodes) o (Nodes ns) right
set-left d nodes o ns right sides h =
    by (strings_of (bare_setting nodes) ns) ∙ sym (ap (λ m. plains_of (setting_in d nodes) (Nodes ns) >>= λ lefts. m >>= λ rights. Some (some_pair (holds d o) lefts rights)) h)
  where
    by : (m : Option (List (List ℕ))) → option_map (some_beside d o true sides) m ≡ (option_map (map plain.Text) m >>= λ lefts. Some (some_pair (holds d o) lefts (map plain_on sides)))
    by None = refl
    by (Some texts) = ap Some (sym (pairs-left d o texts sides))

-- a set on the right that is too long
pub set-long : (d : ℕ) (nodes : List Node) (o : Operator) (ns ms : List ℕ) → plains_of (setting_in d nodes) (Nodes ms) ≡ None → pairs_hold (setting_in d nodes) o (Nodes ns) (Nodes ms) ≡ None
set-long d nodes o ns ms h =
    ap (λ m. plains_of (setting_in d nodes) (Nodes ns) >>= λ lefts. m >>= λ rights. Some (some_pair (holds d o) lefts rights)) h ∙ by (plains_of (setting_in d nodes) (Nodes ns))
  where
    by : (m : Option (List Plain)) → (m >>= λ lefts. None >>= λ rights. Some (some_pair (holds d o) lefts rights)) ≡ None
    by None = refl
    by (Some lefts) = refl

-- ---- a plain value on the left

one-right : (d : ℕ) (o : Operator) (lefts : List Side) (right : Plain) → some_pair (holds d o) (map plain_on lefts) (right ∷ []) ≡ holds_for_some d o false lefts right
one-right d o [] right = refl
one-right d o (l ∷ ls) right =
    ap (λ b. b || some_pair (holds d o) (map plain_on ls) (right ∷ [])) (or-none (holds d o (plain_on l) right)) ∙ ap (λ b. holds d o (plain_on l) right || b) (one-right d o ls right)

none-right : (d : ℕ) (o : Operator) (lefts : List Plain) → some_pair (holds d o) lefts [] ≡ false
none-right d o [] = refl
none-right d o (l ∷ ls) = none-right d o ls

or-across : (a b c d : Bool) → ((a || b) || (c || d)) ≡ ((a || c) || (b || d))
or-across true b c d = refl
or-across false true true d = refl
or-across false true false d = refl
or-across false false true d = refl
or-across false false false d = refl

more-right : (d : ℕ) (o : Operator) (lefts : List Plain) (right : Plain) (rights : List Plain) →
    some_pair (holds d o) lefts (right ∷ rights) ≡ (some_pair (holds d o) lefts (right ∷ []) || some_pair (holds d o) lefts rights)
more-right d o [] right rights = refl
more-right d o (l ∷ ls) right rights =
    ap (λ b. (holds d o l right || list_any (holds d o l) rights) || b) (more-right d o ls right rights)
    ∙ or-across (holds d o l right) (list_any (holds d o l) rights) (some_pair (holds d o) ls (right ∷ [])) (some_pair (holds d o) ls rights)
    ∙ ap (λ b. (b || some_pair (holds d o) ls (right ∷ [])) || (list_any (holds d o l) rights || some_pair (holds d o) ls rights)) (sym (or-none (holds d o l right)))

pairs-right : (d : ℕ) (o : Operator) (lefts : List Side) (texts : List (List ℕ)) → some_pair (holds d o) (map plain_on lefts) (map plain.Text texts) ≡ some_beside d o false lefts texts
pairs-right d o lefts [] = none-right d o (map plain_on lefts)
pairs-right d o lefts (t ∷ ts) =
    more-right d o (map plain_on lefts) (plain.Text t) (map plain.Text ts)
    ∙ ap (λ b. b || some_pair (holds d o) (map plain_on lefts) (map plain.Text ts)) (one-right d o lefts (plain.Text t))
    ∙ ap (λ b. holds_for_some d o false lefts (plain.Text t) || b) (pairs-right d o lefts ts)

pub set-right : (d : ℕ) (nodes : List Node) (o : Operator) (lefts : List Side) (left : Value) (ns : List ℕ) → plains_of (setting_in d nodes) left ≡ Some (map plain_on lefts) →
    option_map (some_beside d o false lefts) (strings_of (bare_setting nodes) ns) ≡ pairs_hold (setting_in d nodes) o left (Nodes ns)
set-right d nodes o lefts left ns h =
    by (strings_of (bare_setting nodes) ns) ∙ sym (ap (λ m. m >>= λ ls. plains_of (setting_in d nodes) (Nodes ns) >>= λ rights. Some (some_pair (holds d o) ls rights)) h)
  where
    by : (m : Option (List (List ℕ))) → option_map (some_beside d o false lefts) m ≡ (option_map (map plain.Text) m >>= λ rights. Some (some_pair (holds d o) (map plain_on lefts) rights))
    by None = refl
    by (Some texts) = ap Some (sym (pairs-right d o lefts texts))

-- ---- plain values on both sides

one-one : (d : ℕ) (o : Operator) (left right : Plain) → Some (some_pair (holds d o) (left ∷ []) (right ∷ [])) ≡ Some (holds d o left right)
one-one d o left right = ap Some (or-none (holds d o left right || false) ∙ or-none (holds d o left right))

pub plain-plain : (d : ℕ) (nodes : List Node) (o : Operator) (left right : Plain) → compared (setting_in d nodes) o (value_of_plain left) (value_of_plain right) ≡ Some (holds d o left right)
plain-plain d nodes o (plain.Text t) (plain.Text u) = one-one d o (plain.Text t) (plain.Text u)
plain-plain d nodes o (plain.Text t) (plain.Number k) = one-one d o (plain.Text t) (plain.Number k)
plain-plain d nodes o (plain.Text t) (plain.Truth b) = one-one d o (plain.Text t) (plain.Truth b)
plain-plain d nodes o (plain.Number j) (plain.Text u) = one-one d o (plain.Number j) (plain.Text u)
plain-plain d nodes o (plain.Number j) (plain.Number k) = one-one d o (plain.Number j) (plain.Number k)
plain-plain d nodes o (plain.Number j) (plain.Truth b) = one-one d o (plain.Number j) (plain.Truth b)
plain-plain d nodes o (plain.Truth a) (plain.Text u) = one-one d o (plain.Truth a) (plain.Text u)
plain-plain d nodes o (plain.Truth a) (plain.Number k) = one-one d o (plain.Truth a) (plain.Number k)
plain-plain d nodes o (plain.Truth a) (plain.Truth b) = one-one d o (plain.Truth a) (plain.Truth b)

-- ---- a set beside a side that is no truth

pub side-right : (d : ℕ) (nodes : List Node) (o : Operator) (ns : List ℕ) (right : Side) → ((b : Bool) → right ≡ side.Truth b → ⊥) →
    option_map (some_beside d o true (right ∷ [])) (strings_of (bare_setting nodes) ns) ≡ compared (setting_in d nodes) o (Nodes ns) (value_of_plain (plain_on right))
side-right d nodes o ns (side.Text text) h = set-left d nodes o ns (value_of_plain (plain_on (side.Text text))) (side.Text text ∷ []) refl
side-right d nodes o ns (side.Number k) h = set-left d nodes o ns (Number k) (side.Number k ∷ []) refl
side-right d nodes o ns (side.Truth b) h = absurd (h b refl)

pub side-left : (d : ℕ) (nodes : List Node) (o : Operator) (ns : List ℕ) (left : Side) → ((b : Bool) → left ≡ side.Truth b → ⊥) →
    option_map (some_beside d o false (left ∷ [])) (strings_of (bare_setting nodes) ns) ≡ compared (setting_in d nodes) o (value_of_plain (plain_on left)) (Nodes ns)
side-left d nodes o ns (side.Text text) h = set-right d nodes o (side.Text text ∷ []) (value_of_plain (plain_on (side.Text text))) ns refl
side-left d nodes o ns (side.Number k) h = set-right d nodes o (side.Number k ∷ []) (Number k) ns refl
side-left d nodes o ns (side.Truth b) h = absurd (h b refl)

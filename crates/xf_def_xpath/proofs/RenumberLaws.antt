-- Sets, values and what is made of them go with a renumbering of the nodes.
use Rattle.std.proofs.Common.{◌≡◌, ℕ, ◌==◌, Bool, true, false, cond, List, [], ◌∷◌, ◌++◌, map, find, reverse, Option, Some, None, option_map, refl, sym, ap, ◌∙◌}
use Rattle.std.specs.Prelude.{filter}
use Rattle.std.specs.List.{flat_map}
use Rattle.std.proofs.lemmas.List.{map-append}
use Rattle.xf_name.specs.declared.axis.Axis.{Axis}
use Rattle.xf_def_syntax.specs.declared.expr.Operator.{Operator}
use Rattle.xf_def_syntax.specs.declared.expr.Operator.TheVariants.{Or, And, Equal, NotEqual, Less, LessOrEqual, Greater, GreaterOrEqual, Add, Subtract, Multiply, Divide, Modulo, Union}
use Rattle.xf_def_syntax.specs.declared.expr.Test.{Test}
use Rattle.xf_def_forest.specs.Visit.{Visit, has}
use Rattle.xf_def_forest.specs.Axis.{on_axis, in_proximity, is_reverse, axis_from}
use Rattle.xf_def_forest.specs.Same.{IsRenumbering, renumbered_visit}
use Rattle.xf_def_forest.proofs.RenumberLaws.{map-cond, filter-through, find-through, map-map, map-reverse, has-renumbered, on_axis-renumbered}
use Rattle.xf_def_xpath.specs.declared.value.Value.{Value}
use Rattle.xf_def_xpath.specs.declared.value.Value.TheVariants.{Nodes, Text, Number, Truth}
use Rattle.xf_def_values.specs.declared.plain.Plain.{Plain}
use Rattle.xf_def_values.specs.Conversions.{Decimal, text_in}
use Rattle.xf_def_values.specs.declared.plain.Plain.TheVariants as plain
use Rattle.xf_def_xpath.specs.Setting.{Setting, ◌>>=◌, capped, in_order, joined}
use Rattle.xf_def_xpath.specs.Tests.{meets}
use Rattle.xf_def_xpath.specs.Conversions.{nodes_of, value_of_plain, is_filled, truth_of, string_of_node, strings_of, first_string, plain_of, number_of, string_of}
use Rattle.xf_def_xpath.specs.Comparisons.{plains_of, some_pair, holds, pairs_hold, compared}
use Rattle.xf_def_xpath.specs.Steps.{reached, is_true_at, with_first}
use Rattle.xf_def_xpath.specs.Operators.{truly, or_else, and_then, computed, united, combined}
use Rattle.xf_def_xpath.specs.Same.{renumbered_value, renumbered_setting, HasStrings}
use Rattle.xf_def_xpath.proofs.Options.{then-same, map-same, each-kept}

-- ---- sets

module _ (f : ℕ → ℕ) (same : IsRenumbering f) where
  numbers-renumbered : (all : List Visit) → map (λ (x : Visit). x.number) (map (renumbered_visit f) all) ≡ map f (map (λ (x : Visit). x.number) all)
  numbers-renumbered all = map-map (λ (x : Visit). x.number) (renumbered_visit f) all ∙ sym (map-map f (λ (x : Visit). x.number) all)

  pub in_order-renumbered : (all : List Visit) (ns : List ℕ) → in_order (map (renumbered_visit f) all) (map f ns) ≡ map f (in_order all ns)
  in_order-renumbered all ns =
      ap (map (λ (x : Visit). x.number)) (filter-through (renumbered_visit f) (λ x. has x.number (map f ns)) (λ x. has x.number ns) (λ x. has-renumbered f same x.number ns) all)
      ∙ numbers-renumbered (filter (λ x. has x.number ns) all)

  proximity-renumbered : (axis : Axis) (xs : List Visit) → in_proximity axis (map (renumbered_visit f) xs) ≡ map (renumbered_visit f) (in_proximity axis xs)
  proximity-renumbered axis xs =
      ap (λ l. cond (is_reverse axis) l (map (renumbered_visit f) xs)) (sym (map-reverse (renumbered_visit f) xs))
      ∙ sym (map-cond (map (renumbered_visit f)) (is_reverse axis) (reverse xs) xs)

  axis_from-renumbered : (axis : Axis) (all : List Visit) (x : Option Visit) → axis_from axis (map (renumbered_visit f) all) (option_map (renumbered_visit f) x) ≡ map (renumbered_visit f) (axis_from axis all x)
  axis_from-renumbered axis all None = refl
  axis_from-renumbered axis all (Some x) = ap (in_proximity axis) (on_axis-renumbered f same axis all x) ∙ proximity-renumbered axis (on_axis axis all x)

  pub found-renumbered : (n : ℕ) (all : List Visit) → find (λ x. x.number == f n) (map (renumbered_visit f) all) ≡ option_map (renumbered_visit f) (find (λ x. x.number == n) all)
  found-renumbered n all = find-through (renumbered_visit f) (λ x. x.number == f n) (λ x. x.number == n) (λ x. same x.number n) all

  pub reached-renumbered : (axis : Axis) (test : Test) (all : List Visit) (n : ℕ) → reached axis test (map (renumbered_visit f) all) (f n) ≡ map f (reached axis test all n)
  reached-renumbered axis test all n =
      ap (λ x. map (λ (y : Visit). y.number) (filter (λ y. meets axis test y.content) (axis_from axis (map (renumbered_visit f) all) x))) (found-renumbered n all)
      ∙ ap (λ ys. map (λ (y : Visit). y.number) (filter (λ y. meets axis test y.content) ys)) (axis_from-renumbered axis all (find (λ x. x.number == n) all))
      ∙ ap (map (λ (y : Visit). y.number)) (filter-through (renumbered_visit f) (λ y. meets axis test y.content) (λ y. meets axis test y.content) (λ y. refl) (axis_from axis all (find (λ x. x.number == n) all)))
      ∙ numbers-renumbered (filter (λ y. meets axis test y.content) (axis_from axis all (find (λ x. x.number == n) all)))

-- what goes with a renumbering of one goes with that of each
pub flat-renumbered : (f : ℕ → ℕ) (k k' : ℕ → List ℕ) → ((n : ℕ) → k' (f n) ≡ map f (k n)) → (ns : List ℕ) → flat_map k' (map f ns) ≡ map f (flat_map k ns)
flat-renumbered f k k' e [] = refl
flat-renumbered f k k' e (n ∷ ns) = ap (λ l. l ++ flat_map k' (map f ns)) (e n) ∙ ap (λ l. map f (k n) ++ l) (flat-renumbered f k k' e ns) ∙ sym (map-append f (k n) (flat_map k ns))

pub joined-renumbered : (f : ℕ → ℕ) (sets : List (List ℕ)) → joined (map (map f) sets) ≡ map f (joined sets)
joined-renumbered f [] = refl
joined-renumbered f (ns ∷ sets) = ap (λ l. map f ns ++ l) (joined-renumbered f sets) ∙ sym (map-append f ns (joined sets))

-- ---- values

pub nodes-renumbered : (f : ℕ → ℕ) (v : Value) → nodes_of (renumbered_value f v) ≡ map f (nodes_of v)
nodes-renumbered f (Nodes ns) = refl
nodes-renumbered f (Text text) = refl
nodes-renumbered f (Number k) = refl
nodes-renumbered f (Truth b) = refl

pub filled-renumbered : (f : ℕ → ℕ) (ns : List ℕ) → is_filled (map f ns) ≡ is_filled ns
filled-renumbered f [] = refl
filled-renumbered f (n ∷ ns) = refl

pub truth-renumbered : (f : ℕ → ℕ) (v : Value) → truth_of (renumbered_value f v) ≡ truth_of v
truth-renumbered f (Nodes ns) = filled-renumbered f ns
truth-renumbered f (Text text) = refl
truth-renumbered f (Number k) = refl
truth-renumbered f (Truth b) = refl

pub plain-renumbered : (f : ℕ → ℕ) (p : Plain) → renumbered_value f (value_of_plain p) ≡ value_of_plain p
plain-renumbered f (plain.Text text) = refl
plain-renumbered f (plain.Number k) = refl
plain-renumbered f (plain.Truth b) = refl

pub true_at-renumbered : (f : ℕ → ℕ) (d position : ℕ) (v : Value) → is_true_at d position (renumbered_value f v) ≡ is_true_at d position v
true_at-renumbered f d position (Nodes ns) = filled-renumbered f ns
true_at-renumbered f d position (Text text) = refl
true_at-renumbered f d position (Number k) = refl
true_at-renumbered f d position (Truth b) = refl

pub with_first-renumbered : (f : ℕ → ℕ) (n : ℕ) (b : Bool) (ns : List ℕ) → with_first (f n) b (map f ns) ≡ map f (with_first n b ns)
with_first-renumbered f n true ns = refl
with_first-renumbered f n false ns = refl

-- ---- over a setting

module _ (f : ℕ → ℕ) (same : IsRenumbering f) (s : Setting) (strings : ℕ → List ℕ) (h : HasStrings f strings s) where
  abbrev t : Setting
  t = renumbered_setting f strings s

  string-renumbered : (n : ℕ) → string_of_node t (f n) ≡ string_of_node s n
  string-renumbered n = ap (capped s.most) (h n)

  pub strings-renumbered : (ns : List ℕ) → strings_of t (map f ns) ≡ strings_of s ns
  strings-renumbered ns = each-kept f (string_of_node s) (string_of_node t) string-renumbered ns

  first_string-renumbered : (ns : List ℕ) → first_string t (map f ns) ≡ first_string s ns
  first_string-renumbered [] = refl
  first_string-renumbered (n ∷ ns) = string-renumbered n

  pub plain_of-renumbered : (v : Value) → plain_of t (renumbered_value f v) ≡ plain_of s v
  plain_of-renumbered (Nodes ns) = ap (option_map plain.Text) (first_string-renumbered ns)
  plain_of-renumbered (Text text) = refl
  plain_of-renumbered (Number k) = refl
  plain_of-renumbered (Truth b) = refl

  pub number_of-renumbered : (v : Value) → number_of t (renumbered_value f v) ≡ number_of s v
  number_of-renumbered v = ap (option_map _) (plain_of-renumbered v)

  pub string_of-renumbered : (v : Value) → string_of t (renumbered_value f v) ≡ string_of s v
  string_of-renumbered v = ap (λ m. m >>= λ p. capped s.most (text_in s.given.decimals p)) (plain_of-renumbered v)

  -- ---- comparisons

  plains_of-renumbered : (v : Value) → plains_of t (renumbered_value f v) ≡ plains_of s v
  plains_of-renumbered (Nodes ns) = ap (option_map (map plain.Text)) (strings-renumbered ns)
  plains_of-renumbered (Text text) = refl
  plains_of-renumbered (Number k) = refl
  plains_of-renumbered (Truth b) = refl

  abbrev tested : Operator → List Plain → List Plain → Option Bool
  tested o lefts rights = Some (some_pair (holds s.given.decimals o) lefts rights)

  pairs-renumbered : (o : Operator) (a b : Value) → pairs_hold t o (renumbered_value f a) (renumbered_value f b) ≡ pairs_hold s o a b
  pairs-renumbered o a b =
      ap (λ m. m >>= λ lefts. plains_of t (renumbered_value f b) >>= tested o lefts) (plains_of-renumbered a)
      ∙ ap (λ m. plains_of s a >>= λ lefts. m >>= tested o lefts) (plains_of-renumbered b)

  pub compared-renumbered : (o : Operator) (a b : Value) → compared t o (renumbered_value f a) (renumbered_value f b) ≡ compared s o a b
  compared-renumbered o (Nodes ns) (Nodes ms) = pairs-renumbered o (Nodes ns) (Nodes ms)
  compared-renumbered o (Nodes ns) (Text b) = pairs-renumbered o (Nodes ns) (Text b)
  compared-renumbered o (Nodes ns) (Number b) = pairs-renumbered o (Nodes ns) (Number b)
  compared-renumbered o (Nodes ns) (Truth b) = ap (λ x. Some (holds s.given.decimals o (plain.Truth x) (plain.Truth b))) (filled-renumbered f ns)
  compared-renumbered o (Text a) (Nodes ms) = pairs-renumbered o (Text a) (Nodes ms)
  compared-renumbered o (Text a) (Text b) = refl
  compared-renumbered o (Text a) (Number b) = refl
  compared-renumbered o (Text a) (Truth b) = refl
  compared-renumbered o (Number a) (Nodes ms) = pairs-renumbered o (Number a) (Nodes ms)
  compared-renumbered o (Number a) (Text b) = refl
  compared-renumbered o (Number a) (Number b) = refl
  compared-renumbered o (Number a) (Truth b) = refl
  compared-renumbered o (Truth a) (Nodes ms) = ap (λ x. Some (holds s.given.decimals o (plain.Truth a) (plain.Truth x))) (filled-renumbered f ms)
  compared-renumbered o (Truth a) (Text b) = refl
  compared-renumbered o (Truth a) (Number b) = refl
  compared-renumbered o (Truth a) (Truth b) = refl

  -- ---- operators

  abbrev R : Value → Value
  R = renumbered_value f

  abbrev operated : (Decimal → Decimal → Decimal) → Decimal → Decimal → Option Value
  operated operation j k = Some (Number (operation j k))

  computed-renumbered : (operation : Decimal → Decimal → Decimal) (a b : Value) → computed t operation (R a) (R b) ≡ option_map R (computed s operation a b)
  computed-renumbered operation a b =
      ap (λ m. m >>= λ j. number_of t (R b) >>= operated operation j) (number_of-renumbered a)
      ∙ ap (λ m. number_of s a >>= λ j. m >>= operated operation j) (number_of-renumbered b)
      ∙ then-same R (number_of s a) (λ j. number_of s b >>= operated operation j) (λ j. number_of s b >>= operated operation j) (λ j.
      then-same R (number_of s b) (operated operation j) (operated operation j) (λ k. refl))

  holds-renumbered : (o : Operator) (a b : Value) → option_map Truth (compared t o (R a) (R b)) ≡ option_map R (option_map Truth (compared s o a b))
  holds-renumbered o a b = ap (option_map Truth) (compared-renumbered o a b) ∙ map-same R (compared s o a b) Truth Truth (λ b. refl)

  united-renumbered : (a b : Value) → united t (R a) (R b) ≡ R (united s a b)
  united-renumbered a b =
      ap (λ ns. Nodes (in_order t.all (ns ++ nodes_of (R b)))) (nodes-renumbered f a)
      ∙ ap (λ ns. Nodes (in_order t.all (map f (nodes_of a) ++ ns))) (nodes-renumbered f b)
      ∙ ap (λ ns. Nodes (in_order t.all ns)) (sym (map-append f (nodes_of a) (nodes_of b)))
      ∙ ap Nodes (in_order-renumbered f same s.all (nodes_of a ++ nodes_of b))

  pub combined-renumbered : (o : Operator) (a b : Value) → combined o t (R a) (R b) ≡ option_map R (combined o s a b)
  combined-renumbered Or a b = holds-renumbered Or a b
  combined-renumbered And a b = holds-renumbered And a b
  combined-renumbered Equal a b = holds-renumbered Equal a b
  combined-renumbered NotEqual a b = holds-renumbered NotEqual a b
  combined-renumbered Less a b = holds-renumbered Less a b
  combined-renumbered LessOrEqual a b = holds-renumbered LessOrEqual a b
  combined-renumbered Greater a b = holds-renumbered Greater a b
  combined-renumbered GreaterOrEqual a b = holds-renumbered GreaterOrEqual a b
  combined-renumbered Add a b = computed-renumbered _ a b
  combined-renumbered Subtract a b = computed-renumbered _ a b
  combined-renumbered Multiply a b = computed-renumbered _ a b
  combined-renumbered Divide a b = computed-renumbered _ a b
  combined-renumbered Modulo a b = computed-renumbered _ a b
  combined-renumbered Union a b = ap Some (united-renumbered a b)

  pub truly-renumbered : (m : Option Value) → truly (option_map R m) ≡ option_map R (truly m)
  truly-renumbered None = refl
  truly-renumbered (Some v) = ap (λ b. Some (Truth b)) (truth-renumbered f v)

  pub or-renumbered : (b : Bool) (m : Option Value) → or_else b (option_map R m) ≡ option_map R (or_else b m)
  or-renumbered true m = refl
  or-renumbered false m = truly-renumbered m

  pub and-renumbered : (b : Bool) (m : Option Value) → and_then b (option_map R m) ≡ option_map R (and_then b m)
  and-renumbered true m = truly-renumbered m
  and-renumbered false m = refl

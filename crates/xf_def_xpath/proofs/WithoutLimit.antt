-- Without a limit on strings every expression has a value: nothing that is selected over a shape is too long.
use Rattle.std.proofs.Common.{◌≡◌, ℕ, zero, suc, Bool, true, false, List, [], ◌∷◌, map, length, Option, Some, None, option_map, refl, ap}
use Rattle.std.specs.Prelude.{is_some}
use Rattle.xf_def_syntax.specs.declared.expr.Expr.{Expr}
use Rattle.xf_def_syntax.specs.declared.expr.Expr.TheOpen.{Expr-F}
use Rattle.xf_def_syntax.specs.declared.expr.Expr.TheFolds.{map-Expr}
use Rattle.xf_def_syntax.specs.declared.expr.Operator.{Operator}
use Rattle.xf_def_syntax.specs.declared.expr.Operator.TheVariants.{Or, And, Equal, NotEqual, Less, LessOrEqual, Greater, GreaterOrEqual, Add, Subtract, Multiply, Divide, Modulo, Union}
use Rattle.xf_name.specs.declared.axis.Axis.{Axis}
use Rattle.xf_def_syntax.specs.declared.expr.Test.{Test}
use Rattle.xf_def_forest.specs.Forest.{written_in}
use Rattle.xf_def_xpath.specs.declared.value.Value.{Value}
use Rattle.xf_def_xpath.specs.declared.value.Value.TheVariants.{Nodes, Text, Number, Truth}
use Rattle.xf_def_values.specs.declared.plain.Plain.{Plain}
use Rattle.xf_def_values.specs.Conversions.{Decimal, text_in}
use Rattle.xf_def_xpath.specs.Setting.{Setting, Focus, Meaning, LinkMeaning, Walk, ◌>>=◌, each, capped}
use Rattle.xf_def_xpath.specs.Conversions.{nodes_of, truth_of, string_of_node, strings_of, first_string, plain_of, number_of, string_of, value_of_plain}
use Rattle.xf_def_xpath.specs.Comparisons.{plains_of, pairs_hold, compared}
use Rattle.xf_def_xpath.specs.Steps.{reached, kept_from, kept_by_all, from_one, begun_at, walked, begun, step_walk}
use Rattle.xf_def_xpath.specs.Operators.{or_else, and_then, computed, combined, linked, chained}
use Rattle.xf_def_xpath.specs.Functions.{argument, own_argument, plain_arguments, text_value, count_of, filled_count, of_numbers, total, average, extreme, greater, lesser, first_name, local_part, namespace_of, instance_id, branch, branched, called}
use Rattle.xf_def_xpath.specs.Table.{Function, function_at}
use Rattle.xf_def_xpath.specs.Table as of
use Rattle.xf_def_xpath.specs.Meaning.{expr_meaning, link_meaning, meaning}
use Rattle.xf_def_xpath.proofs.Keeps.{fold_keeps}
use Rattle.xf_def_xpath.proofs.VisitFacts.{no}

-- strings have no limit, and each function of plain values gives something
pub record NoLimit (s : Setting) : Type 0 where
  pub limit : s.most ≡ None
  pub total : (code : ℕ) (ps : List Plain) → is_some (s.functions code ps) ≡ true

abbrev Has : {A : Type 0} → Option A → Type 0
Has m = is_some m ≡ true

abbrev pub Always : Meaning → Type 0
Always m = (s : Setting) → NoLimit s → (c : Focus) → Has (m s c)

abbrev AlwaysLink : LinkMeaning → Type 0
AlwaysLink l = Always l.right

abbrev AlwaysWalk : Walk → Type 0
AlwaysWalk w = (s : Setting) → NoLimit s → (ns : List ℕ) → Has (w s ns)

-- ---- what is made of something

mapped : {A B : Type 0} (m : Option A) (f : A → B) → Has m → Has (option_map f m)
mapped None f h = no h
mapped (Some a) f h = refl

then : {A B : Type 0} (m : Option A) (k : A → Option B) → Has m → ((a : A) → Has (k a)) → Has (m >>= k)
then None k h i = no h
then (Some a) k h i = i a

of-each : {A B : Type 0} (k : A → Option B) → ((a : A) → Has (k a)) → (xs : List A) → Has (each k xs)
of-each k h [] = refl
of-each k h (x ∷ xs) = then (k x) _ (h x) (λ y. then (each k xs) _ (of-each k h xs) (λ ys. refl))

abbrev Known : Type 0
Known = (m : Meaning) × Always m

abbrev meanings : List Known → List Meaning
meanings ms = map (λ (e : Known). e.0) ms

abbrev KnownLink : Type 0
KnownLink = (l : LinkMeaning) × AlwaysLink l

abbrev KnownWalk : Type 0
KnownWalk = (w : Walk) × AlwaysWalk w

module _ (s : Setting) (h : NoLimit s) where
  -- ---- conversions

  short : (text : List ℕ) → Has (capped s.most text)
  short text = ap (λ most. is_some (capped most text)) h.limit

  strings : (ns : List ℕ) → Has (strings_of s ns)
  strings ns = of-each (string_of_node s) (λ n. short (s.strings n)) ns

  first-one : (ns : List ℕ) → Has (first_string s ns)
  first-one [] = refl
  first-one (n ∷ ns) = short (s.strings n)

  plain : (v : Value) → Has (plain_of s v)
  plain (Nodes ns) = mapped (first_string s ns) _ (first-one ns)
  plain (Text text) = refl
  plain (Number k) = refl
  plain (Truth b) = refl

  number : (v : Value) → Has (number_of s v)
  number v = mapped (plain_of s v) _ (plain v)

  text : (v : Value) → Has (string_of s v)
  text v = then (plain_of s v) _ (plain v) (λ p. short (text_in s.given.decimals p))

  -- ---- operators

  plains : (v : Value) → Has (plains_of s v)
  plains (Nodes ns) = mapped (strings_of s ns) _ (strings ns)
  plains (Text text) = refl
  plains (Number k) = refl
  plains (Truth b) = refl

  pairs : (o : Operator) (a b : Value) → Has (pairs_hold s o a b)
  pairs o a b = then (plains_of s a) _ (plains a) (λ ls. then (plains_of s b) _ (plains b) (λ rs. refl))

  comparison : (o : Operator) (a b : Value) → Has (compared s o a b)
  comparison o (Nodes ns) (Nodes ms) = pairs o (Nodes ns) (Nodes ms)
  comparison o (Nodes ns) (Text b) = pairs o (Nodes ns) (Text b)
  comparison o (Nodes ns) (Number b) = pairs o (Nodes ns) (Number b)
  comparison o (Nodes ns) (Truth b) = refl
  comparison o (Text a) (Nodes ms) = pairs o (Text a) (Nodes ms)
  comparison o (Text a) (Text b) = pairs o (Text a) (Text b)
  comparison o (Text a) (Number b) = pairs o (Text a) (Number b)
  comparison o (Text a) (Truth b) = pairs o (Text a) (Truth b)
  comparison o (Number a) (Nodes ms) = pairs o (Number a) (Nodes ms)
  comparison o (Number a) (Text b) = pairs o (Number a) (Text b)
  comparison o (Number a) (Number b) = pairs o (Number a) (Number b)
  comparison o (Number a) (Truth b) = pairs o (Number a) (Truth b)
  comparison o (Truth a) (Nodes ms) = refl
  comparison o (Truth a) (Text b) = pairs o (Truth a) (Text b)
  comparison o (Truth a) (Number b) = pairs o (Truth a) (Number b)
  comparison o (Truth a) (Truth b) = pairs o (Truth a) (Truth b)

  computation : (operation : Decimal → Decimal → Decimal) (a b : Value) → Has (computed s operation a b)
  computation operation a b = then (number_of s a) _ (number a) (λ j. then (number_of s b) _ (number b) (λ k. refl))

  combination : (o : Operator) (a b : Value) → Has (combined o s a b)
  combination Or a b = mapped (compared s Or a b) Truth (comparison Or a b)
  combination And a b = mapped (compared s And a b) Truth (comparison And a b)
  combination Equal a b = mapped (compared s Equal a b) Truth (comparison Equal a b)
  combination NotEqual a b = mapped (compared s NotEqual a b) Truth (comparison NotEqual a b)
  combination Less a b = mapped (compared s Less a b) Truth (comparison Less a b)
  combination LessOrEqual a b = mapped (compared s LessOrEqual a b) Truth (comparison LessOrEqual a b)
  combination Greater a b = mapped (compared s Greater a b) Truth (comparison Greater a b)
  combination GreaterOrEqual a b = mapped (compared s GreaterOrEqual a b) Truth (comparison GreaterOrEqual a b)
  combination Add a b = computation _ a b
  combination Subtract a b = computation _ a b
  combination Multiply a b = computation _ a b
  combination Divide a b = computation _ a b
  combination Modulo a b = computation _ a b
  combination Union a b = refl

  either : (b : Bool) (m : Option Value) → Has m → Has (or_else b m)
  either true m k = refl
  either false m k = mapped m _ k

  both : (b : Bool) (m : Option Value) → Has m → Has (and_then b m)
  both true m k = mapped m _ k
  both false m k = refl

  link : (o : Operator) (a : Value) (m : Known) (c : Focus) → Has (linked o a m.0 s c)
  link Or a m c = either (truth_of a) (m.0 s c) (m.1 s h c)
  link And a m c = both (truth_of a) (m.0 s c) (m.1 s h c)
  link Equal a m c = then (m.0 s c) _ (m.1 s h c) (combination Equal a)
  link NotEqual a m c = then (m.0 s c) _ (m.1 s h c) (combination NotEqual a)
  link Less a m c = then (m.0 s c) _ (m.1 s h c) (combination Less a)
  link LessOrEqual a m c = then (m.0 s c) _ (m.1 s h c) (combination LessOrEqual a)
  link Greater a m c = then (m.0 s c) _ (m.1 s h c) (combination Greater a)
  link GreaterOrEqual a m c = then (m.0 s c) _ (m.1 s h c) (combination GreaterOrEqual a)
  link Add a m c = then (m.0 s c) _ (m.1 s h c) (combination Add a)
  link Subtract a m c = then (m.0 s c) _ (m.1 s h c) (combination Subtract a)
  link Multiply a m c = then (m.0 s c) _ (m.1 s h c) (combination Multiply a)
  link Divide a m c = then (m.0 s c) _ (m.1 s h c) (combination Divide a)
  link Modulo a m c = then (m.0 s c) _ (m.1 s h c) (combination Modulo a)
  link Union a m c = then (m.0 s c) _ (m.1 s h c) (combination Union a)

  chain : (ls : List KnownLink) (a : Value) (c : Focus) → Has (chained (map (λ (l : KnownLink). l.0) ls) a s c)
  chain [] a c = refl
  chain (l ∷ ls) a c = then (linked l.0.operator a l.0.right s c) _ (link l.0.operator a (l.0.right, l.1) c) (λ b. chain ls b c)

  -- ---- paths

  kept : (m : Known) (size position : ℕ) (ns : List ℕ) → Has (kept_from s m.0 size position ns)
  kept m size position [] = refl
  kept m size position (n ∷ ns) =
      then (m.0 s (record { node = n; position = position; size = size })) _ (m.1 s h (record { node = n; position = position; size = size })) (λ v.
      then (kept_from s m.0 size (suc position) ns) _ (kept m size (suc position) ns) (λ ks. refl))

  kept-all : (ms : List Known) (ns : List ℕ) → Has (kept_by_all s (meanings ms) ns)
  kept-all [] ns = refl
  kept-all (m ∷ ms) ns = then (kept_from s m.0 (length ns) 1 ns) _ (kept m (length ns) 1 ns) (λ ks. kept-all ms ks)

  step : (axis : Axis) (test : Test) (ms : List Known) (ns : List ℕ) → Has (each (from_one axis test (meanings ms) s) ns)
  step axis test ms ns = of-each (from_one axis test (meanings ms) s) (λ n. kept-all ms (reached axis test s.all n)) ns

  path : (ws : List KnownWalk) (ns : List ℕ) → Has (walked s (map (λ (w : KnownWalk). w.0) ws) ns)
  path [] ns = refl
  path (w ∷ ws) ns = then (w.0 s ns) _ (w.1 s h ns) (λ ms. path ws ms)

  -- ---- functions

  at-place : (at : ℕ) (ms : List Known) (c : Focus) → Has (argument at (meanings ms) s c)
  at-place at [] c = refl
  at-place zero (m ∷ ms) c = m.1 s h c
  at-place (suc at) (m ∷ ms) c = at-place at ms c

  own : (ms : List Known) (c : Focus) → Has (own_argument (meanings ms) s c)
  own [] c = refl
  own (m ∷ ms) c = m.1 s h c

  all-plain : (ms : List Known) (c : Focus) → Has (plain_arguments (meanings ms) s c)
  all-plain [] c = refl
  all-plain (m ∷ ms) c = then (m.0 s c >>= plain_of s) _ (then (m.0 s c) _ (m.1 s h c) plain) (λ p. then (plain_arguments (meanings ms) s c) _ (all-plain ms c) (λ ps. refl))

  one-branch : (b : Bool) (ms : List Known) (c : Focus) → Has (branch b (meanings ms) s c)
  one-branch true ms c = at-place 1 ms c
  one-branch false ms c = at-place 2 ms c

  branches : (ms : List Known) (c : Focus) → Has (branched (meanings ms) s c)
  branches ms c = then (argument 0 (meanings ms) s c) _ (at-place 0 ms c) (λ v. one-branch (truth_of v) ms c)

  id : (ms : List Known) (c : Focus) → Has (instance_id (meanings ms) s c)
  id [] c = refl
  id (m ∷ ms) c = then (m.0 s c) _ (m.1 s h c) text

  numbers : (made : List Decimal → Decimal) (ns : List ℕ) → Has (of_numbers s made ns)
  numbers made ns = mapped (strings_of s ns) _ (strings ns)

  written : (text : List ℕ) → Has (text_value s text)
  written text = mapped (capped s.most text) Text (short text)

  set : (ms : List Known) (c : Focus) (made : List ℕ → Option Value) → ((ns : List ℕ) → Has (made ns)) → Has (argument 0 (meanings ms) s c >>= λ v. made (nodes_of v))
  set ms c made k = then (argument 0 (meanings ms) s c) _ (at-place 0 ms c) (λ v. k (nodes_of v))

  own-set : (ms : List Known) (c : Focus) (made : List ℕ → Option Value) → ((ns : List ℕ) → Has (made ns)) → Has (own_argument (meanings ms) s c >>= λ v. made (nodes_of v))
  own-set ms c made k = then (own_argument (meanings ms) s c) _ (own ms c) (λ v. k (nodes_of v))

  plainly : (code : ℕ) (ms : List Known) (c : Focus) → Has (option_map value_of_plain (plain_arguments (meanings ms) s c >>= s.functions code))
  plainly code ms c = mapped (plain_arguments (meanings ms) s c >>= s.functions code) value_of_plain (then (plain_arguments (meanings ms) s c) _ (all-plain ms c) (h.total code))

  call : (g : Function) (code : ℕ) (ms : List Known) (c : Focus) → Has (called g code (meanings ms) s c)
  call of.asking code ms c = plainly code ms c
  call of.plainly code ms c = plainly code ms c
  call of.owning code ms c =
      mapped (own_argument (meanings ms) s c >>= plain_of s >>= λ p. s.functions code (p ∷ [])) value_of_plain
      (then (own_argument (meanings ms) s c >>= plain_of s) _ (then (own_argument (meanings ms) s c) _ (own ms c) plain) (λ p. h.total code (p ∷ [])))
  call of.boolean code ms c = mapped (argument 0 (meanings ms) s c) _ (at-place 0 ms c)
  call of.not code ms c = mapped (argument 0 (meanings ms) s c) _ (at-place 0 ms c)
  call (of.truth b) code ms c = refl
  call of.choosing code ms c = branches ms c
  call of.branching code ms c = mapped (branched (meanings ms) s c >>= string_of s) Text (then (branched (meanings ms) s c) _ (branches ms c) text)
  call of.counting code ms c = set ms c (λ ns. Some (count_of s ns)) (λ ns. refl)
  call of.counting_filled code ms c = set ms c (filled_count s) (λ ns. mapped (strings_of s ns) _ (strings ns))
  call of.adding code ms c = set ms c (of_numbers s total) (numbers total)
  call of.averaging code ms c = set ms c (of_numbers s (average s.given.decimals)) (numbers (average s.given.decimals))
  call of.greatest code ms c = set ms c (of_numbers s (extreme greater)) (numbers (extreme greater))
  call of.least code ms c = set ms c (of_numbers s (extreme lesser)) (numbers (extreme lesser))
  call of.local_name code ms c = own-set ms c (λ ns. text_value s (local_part (first_name s.all ns))) (λ ns. written (local_part (first_name s.all ns)))
  call of.name code ms c = own-set ms c (λ ns. text_value s (written_in (first_name s.all ns))) (λ ns. written (written_in (first_name s.all ns)))
  call of.namespace code ms c = own-set ms c (λ ns. text_value s (namespace_of s.given.bindings (first_name s.all ns))) (λ ns. written (namespace_of s.given.bindings (first_name s.all ns)))
  call of.number code ms c = mapped (own_argument (meanings ms) s c >>= number_of s) Number (then (own_argument (meanings ms) s c) _ (own ms c) number)
  call of.string code ms c = mapped (own_argument (meanings ms) s c >>= string_of s) Text (then (own_argument (meanings ms) s c) _ (own ms c) text)
  call of.current code ms c = refl
  call of.event code ms c = mapped (argument 0 (meanings ms) s c >>= string_of s) _ (then (argument 0 (meanings ms) s c) _ (at-place 0 ms c) text)
  call of.index code ms c = mapped (argument 0 (meanings ms) s c >>= string_of s) _ (then (argument 0 (meanings ms) s c) _ (at-place 0 ms c) text)
  call of.instance code ms c = mapped (instance_id (meanings ms) s c) _ (id ms c)
  call of.last code ms c = refl
  call of.position code ms c = refl

-- ---- every expression

abbrev Level : Type 0
Level = Expr-F Known KnownLink KnownWalk

level : (y : Level) → Always (expr_meaning (map-Expr _ _ _ Meaning LinkMeaning Walk (λ e. e.0) (λ e. e.0) (λ e. e.0) y))
level (Expr-F.Number place k) = λ s h c. refl
level (Expr-F.Literal place text) = λ s h c. written s h text
level (Expr-F.Call place code ms) = λ s h c. call s h (function_at code) code ms c
level (Expr-F.Negated place signs m) = λ s h c. mapped (m.0 s c >>= number_of s) _ (then (m.0 s c) _ (m.1 s h c) (number s h))
level (Expr-F.Chain first ls) = λ s h c. then (first.0 s c) _ (first.1 s h c) (λ a. chain s h ls a c)
level (Expr-F.Filter first ms) = λ s h c. mapped (first.0 s c >>= λ v. kept_by_all s (meanings ms) (nodes_of v)) Nodes (then (first.0 s c) _ (first.1 s h c) (λ v. kept-all s h ms (nodes_of v)))
level (Expr-F.Path place start ws) = λ s h c. mapped (walked s (map (λ (w : KnownWalk). w.0) ws) (begun start s c)) Nodes (path s h ws (begun start s c))
level (Expr-F.From first ws) = λ s h c. mapped (first.0 s c >>= λ v. walked s (map (λ (w : KnownWalk). w.0) ws) (nodes_of v)) Nodes (then (first.0 s c) _ (first.1 s h c) (λ v. path s h ws (nodes_of v)))

pub always : (e : Expr) → Always (meaning e)
always = fold_keeps Meaning LinkMeaning Walk expr_meaning link_meaning step_walk Always AlwaysLink AlwaysWalk
    level (λ y. y.right.1) (λ y s h ns. mapped (each (from_one y.axis y.test (meanings y.predicates) s) (begun_at y.is_below s.all ns)) _ (step s h y.axis y.test y.predicates (begun_at y.is_below s.all ns)))

-- The limit on strings only refuses: the value that an expression has within it, it has without it. So nothing depends on whether predicates are
-- decided with the limit or without it, as in what an expression reads.
use Rattle.std.proofs.Common.{◌≡◌, ℕ, nat_lt, cond, sym, subst, zero, suc, Bool, true, false, List, [], ◌∷◌, map, length, Option, Some, None, option_map, refl}
use Rattle.xf_num.specs.Number.{sum, difference, product, quotient, remainder}
use Rattle.xf_def_syntax.specs.declared.expr.Expr.{Expr}
use Rattle.xf_def_syntax.specs.declared.expr.Expr.TheOpen.{Expr-F}
use Rattle.xf_def_syntax.specs.declared.expr.Expr.TheFolds.{map-Expr}
use Rattle.xf_def_syntax.specs.declared.expr.Start.TheVariants.{Root, Context}
use Rattle.xf_def_syntax.specs.declared.expr.Operator.{Operator}
use Rattle.xf_def_syntax.specs.declared.expr.Operator.TheVariants.{Or, And, Equal, NotEqual, Less, LessOrEqual, Greater, GreaterOrEqual, Add, Subtract, Multiply, Divide, Modulo, Union}
use Rattle.xf_name.specs.declared.axis.Axis.{Axis}
use Rattle.xf_def_syntax.specs.declared.expr.Test.{Test}
use Rattle.xf_def_forest.specs.Forest.{written_in}
use Rattle.xf_def_xpath.specs.declared.value.Value.{Value}
use Rattle.xf_def_xpath.specs.declared.value.Value.TheVariants.{Nodes, Text, Number, Truth}
use Rattle.xf_def_values.specs.declared.plain.Plain.{Plain}
use Rattle.xf_def_values.specs.Conversions.{Decimal, text_in}
use Rattle.xf_def_xpath.specs.Setting.{Setting, Focus, Meaning, LinkMeaning, Walk, ◌>>=◌, each, capped}
use Rattle.xf_def_xpath.specs.Conversions.{nodes_of, truth_of, string_of_node, strings_of, first_string, plain_of, number_of, string_of, value_of_plain}
use Rattle.xf_def_xpath.specs.Comparisons.{plains_of, pairs_hold, compared}
use Rattle.xf_def_xpath.specs.Steps.{reached, kept_from, kept_by_all, from_one, begun_at, walked, begun, step_walk}
use Rattle.xf_def_xpath.specs.Operators.{or_else, and_then, computed, combined, linked, chained}
use Rattle.xf_def_xpath.specs.Functions.{argument, own_argument, plain_arguments, text_value, of_numbers, total, average, extreme, greater, lesser, first_name, local_part, namespace_of, instance_id, branch, branched, called}
use Rattle.xf_def_xpath.specs.Table.{Function, function_at}
use Rattle.xf_def_xpath.specs.Table as of
use Rattle.xf_def_xpath.specs.Meaning.{expr_meaning, link_meaning, meaning}
use Rattle.xf_def_xpath.proofs.Keeps.{fold_keeps}
use Rattle.xf_def_xpath.proofs.VisitFacts.{none-some}

-- what is given in the first is given in the second
data Kept {A : Type 0} : Option A → Option A → Type 0 where
  lost : {m : Option A} → Kept None m
  kept : {a : A} → Kept (Some a) (Some a)

mapped : {A B : Type 0} {m m' : Option A} (f : A → B) → Kept m m' → Kept (option_map f m) (option_map f m')
mapped f lost = lost
mapped f kept = kept

then : {A B : Type 0} {m m' : Option A} (k k' : A → Option B) → Kept m m' → ((a : A) → Kept (k a) (k' a)) → Kept (m >>= k) (m' >>= k')
then k k' lost i = lost
then k k' (kept {a = a}) i = i a

equal : {A : Type 0} (m : Option A) → Kept m m
equal None = lost
equal (Some a) = kept

of-each : {A B : Type 0} (k k' : A → Option B) → ((a : A) → Kept (k a) (k' a)) → (xs : List A) → Kept (each k xs) (each k' xs)
of-each k k' h [] = kept
of-each k k' h (x ∷ xs) = then _ _ (h x) (λ y. then _ _ (of-each k k' h xs) (λ ys. kept))

abbrev Plainly : Type 0
Plainly = ℕ → List Plain → Option Plain

-- the same functions without the limit
abbrev pub Extends : Setting → Plainly → Type 0
Extends s f = (code : ℕ) (ps : List Plain) (p : Plain) → s.functions code ps ≡ Some p → f code ps ≡ Some p

abbrev pub without : Setting → Plainly → Setting
without s f = record s { most = None; functions = f }

abbrev Free : Meaning → Type 0
Free m = (s : Setting) (f : Plainly) → Extends s f → (c : Focus) → Kept (m s c) (m (without s f) c)

abbrev FreeLink : LinkMeaning → Type 0
FreeLink l = Free l.right

abbrev FreeWalk : Walk → Type 0
FreeWalk w = (s : Setting) (f : Plainly) → Extends s f → (ns : List ℕ) → Kept (w s ns) (w (without s f) ns)

abbrev Known : Type 0
Known = (m : Meaning) × Free m

abbrev meanings : List Known → List Meaning
meanings ms = map (λ (e : Known). e.0) ms

abbrev KnownLink : Type 0
KnownLink = (l : LinkMeaning) × FreeLink l

abbrev KnownWalk : Type 0
KnownWalk = (w : Walk) × FreeWalk w

given-too : {A : Type 0} (m m' : Option A) → ((a : A) → m ≡ Some a → m' ≡ Some a) → Kept m m'
given-too None m' h = lost
given-too (Some a) m' h = subst (λ n. Kept (Some a) n) (sym (h a refl)) kept

given-back : {A : Type 0} {m m' : Option A} (a : A) → Kept m m' → m ≡ Some a → m' ≡ Some a
given-back a lost e = none-some e
given-back a kept e = e

module _ (s : Setting) (f : Plainly) (h : Extends s f) where
  abbrev t : Setting
  t = without s f

  -- ---- conversions

  short : (text : List ℕ) → Kept (capped s.most text) (capped None text)
  short text = by s.most
    where
      by : (most : Option ℕ) → Kept (capped most text) (capped None text)
      by None = kept
      by (Some most) = of (nat_lt most (length text))
        where
          of : (b : Bool) → Kept (cond b None (Some text)) (Some text)
          of true = lost
          of false = kept

  strings : (ns : List ℕ) → Kept (strings_of s ns) (strings_of t ns)
  strings ns = of-each (string_of_node s) (string_of_node t) (λ n. short (s.strings n)) ns

  first-one : (ns : List ℕ) → Kept (first_string s ns) (first_string t ns)
  first-one [] = kept
  first-one (n ∷ ns) = short (s.strings n)

  plain : (v : Value) → Kept (plain_of s v) (plain_of t v)
  plain (Nodes ns) = mapped _ (first-one ns)
  plain (Text text) = kept
  plain (Number k) = kept
  plain (Truth b) = kept

  number : (v : Value) → Kept (number_of s v) (number_of t v)
  number v = mapped _ (plain v)

  text : (v : Value) → Kept (string_of s v) (string_of t v)
  text v = then _ _ (plain v) (λ p. short (text_in s.given.decimals p))

  -- ---- operators

  plains : (v : Value) → Kept (plains_of s v) (plains_of t v)
  plains (Nodes ns) = mapped _ (strings ns)
  plains (Text text) = kept
  plains (Number k) = kept
  plains (Truth b) = kept

  pairs : (o : Operator) (a b : Value) → Kept (pairs_hold s o a b) (pairs_hold t o a b)
  pairs o a b = then _ _ (plains a) (λ ls. then _ _ (plains b) (λ rs. kept))

  comparison : (o : Operator) (a b : Value) → Kept (compared s o a b) (compared t o a b)
  comparison o (Nodes ns) (Nodes ms) = pairs o (Nodes ns) (Nodes ms)
  comparison o (Nodes ns) (Text b) = pairs o (Nodes ns) (Text b)
  comparison o (Nodes ns) (Number b) = pairs o (Nodes ns) (Number b)
  comparison o (Nodes ns) (Truth b) = kept
  comparison o (Text a) (Nodes ms) = pairs o (Text a) (Nodes ms)
  comparison o (Text a) (Text b) = pairs o (Text a) (Text b)
  comparison o (Text a) (Number b) = pairs o (Text a) (Number b)
  comparison o (Text a) (Truth b) = pairs o (Text a) (Truth b)
  comparison o (Number a) (Nodes ms) = pairs o (Number a) (Nodes ms)
  comparison o (Number a) (Text b) = pairs o (Number a) (Text b)
  comparison o (Number a) (Number b) = pairs o (Number a) (Number b)
  comparison o (Number a) (Truth b) = pairs o (Number a) (Truth b)
  comparison o (Truth a) (Nodes ms) = kept
  comparison o (Truth a) (Text b) = pairs o (Truth a) (Text b)
  comparison o (Truth a) (Number b) = pairs o (Truth a) (Number b)
  comparison o (Truth a) (Truth b) = pairs o (Truth a) (Truth b)

  computation : (operation : Decimal → Decimal → Decimal) (a b : Value) → Kept (computed s operation a b) (computed t operation a b)
  computation operation a b = then _ _ (number a) (λ j. then _ _ (number b) (λ k. kept))

  combination : (o : Operator) (a b : Value) → Kept (combined o s a b) (combined o t a b)
  combination Or a b = mapped Truth (comparison Or a b)
  combination And a b = mapped Truth (comparison And a b)
  combination Equal a b = mapped Truth (comparison Equal a b)
  combination NotEqual a b = mapped Truth (comparison NotEqual a b)
  combination Less a b = mapped Truth (comparison Less a b)
  combination LessOrEqual a b = mapped Truth (comparison LessOrEqual a b)
  combination Greater a b = mapped Truth (comparison Greater a b)
  combination GreaterOrEqual a b = mapped Truth (comparison GreaterOrEqual a b)
  combination Add a b = computation sum a b
  combination Subtract a b = computation difference a b
  combination Multiply a b = computation (product s.given.decimals) a b
  combination Divide a b = computation (quotient s.given.decimals) a b
  combination Modulo a b = computation remainder a b
  combination Union a b = kept

  either : (b : Bool) {m m' : Option Value} → Kept m m' → Kept (or_else b m) (or_else b m')
  either true k = kept
  either false k = mapped _ k

  both : (b : Bool) {m m' : Option Value} → Kept m m' → Kept (and_then b m) (and_then b m')
  both true k = mapped _ k
  both false k = kept

  link : (o : Operator) (a : Value) (m : Known) (c : Focus) → Kept (linked o a m.0 s c) (linked o a m.0 t c)
  link Or a m c = either (truth_of a) (m.1 s f h c)
  link And a m c = both (truth_of a) (m.1 s f h c)
  link Equal a m c = then _ _ (m.1 s f h c) (combination Equal a)
  link NotEqual a m c = then _ _ (m.1 s f h c) (combination NotEqual a)
  link Less a m c = then _ _ (m.1 s f h c) (combination Less a)
  link LessOrEqual a m c = then _ _ (m.1 s f h c) (combination LessOrEqual a)
  link Greater a m c = then _ _ (m.1 s f h c) (combination Greater a)
  link GreaterOrEqual a m c = then _ _ (m.1 s f h c) (combination GreaterOrEqual a)
  link Add a m c = then _ _ (m.1 s f h c) (combination Add a)
  link Subtract a m c = then _ _ (m.1 s f h c) (combination Subtract a)
  link Multiply a m c = then _ _ (m.1 s f h c) (combination Multiply a)
  link Divide a m c = then _ _ (m.1 s f h c) (combination Divide a)
  link Modulo a m c = then _ _ (m.1 s f h c) (combination Modulo a)
  link Union a m c = then _ _ (m.1 s f h c) (combination Union a)

  chain : (ls : List KnownLink) (a : Value) (c : Focus) → Kept (chained (map (λ (l : KnownLink). l.0) ls) a s c) (chained (map (λ (l : KnownLink). l.0) ls) a t c)
  chain [] a c = kept
  chain (l ∷ ls) a c = then _ _ (link l.0.operator a (l.0.right, l.1) c) (λ b. chain ls b c)

  -- ---- paths

  kept-one : (m : Known) (size position : ℕ) (ns : List ℕ) → Kept (kept_from s m.0 size position ns) (kept_from t m.0 size position ns)
  kept-one m size position [] = kept
  kept-one m size position (n ∷ ns) =
      then _ _ (m.1 s f h (record { node = n; position = position; size = size })) (λ v.
      then _ _ (kept-one m size (suc position) ns) (λ ks. kept))

  kept-all : (ms : List Known) (ns : List ℕ) → Kept (kept_by_all s (meanings ms) ns) (kept_by_all t (meanings ms) ns)
  kept-all [] ns = kept
  kept-all (m ∷ ms) ns = then _ _ (kept-one m (length ns) 1 ns) (λ ks. kept-all ms ks)

  step : (axis : Axis) (test : Test) (ms : List Known) (ns : List ℕ) → Kept (each (from_one axis test (meanings ms) s) ns) (each (from_one axis test (meanings ms) t) ns)
  step axis test ms ns = of-each (from_one axis test (meanings ms) s) (from_one axis test (meanings ms) t) (λ n. kept-all ms (reached axis test s.all n)) ns

  path : (ws : List KnownWalk) (ns : List ℕ) → Kept (walked s (map (λ (w : KnownWalk). w.0) ws) ns) (walked t (map (λ (w : KnownWalk). w.0) ws) ns)
  path [] ns = kept
  path (w ∷ ws) ns = then _ _ (w.1 s f h ns) (λ ms. path ws ms)

  -- ---- functions

  at-place : (at : ℕ) (ms : List Known) (c : Focus) → Kept (argument at (meanings ms) s c) (argument at (meanings ms) t c)
  at-place at [] c = kept
  at-place zero (m ∷ ms) c = m.1 s f h c
  at-place (suc at) (m ∷ ms) c = at-place at ms c

  own : (ms : List Known) (c : Focus) → Kept (own_argument (meanings ms) s c) (own_argument (meanings ms) t c)
  own [] c = kept
  own (m ∷ ms) c = m.1 s f h c

  all-plain : (ms : List Known) (c : Focus) → Kept (plain_arguments (meanings ms) s c) (plain_arguments (meanings ms) t c)
  all-plain [] c = kept
  all-plain (m ∷ ms) c = then _ _ (then _ _ (m.1 s f h c) plain) (λ p. then _ _ (all-plain ms c) (λ ps. kept))

  one-branch : (b : Bool) (ms : List Known) (c : Focus) → Kept (branch b (meanings ms) s c) (branch b (meanings ms) t c)
  one-branch true ms c = at-place 1 ms c
  one-branch false ms c = at-place 2 ms c

  branches : (ms : List Known) (c : Focus) → Kept (branched (meanings ms) s c) (branched (meanings ms) t c)
  branches ms c = then _ _ (at-place 0 ms c) (λ v. one-branch (truth_of v) ms c)

  id : (ms : List Known) (c : Focus) → Kept (instance_id (meanings ms) s c) (instance_id (meanings ms) t c)
  id [] c = kept
  id (m ∷ ms) c = then _ _ (m.1 s f h c) text

  numbers : (made : List Decimal → Decimal) (ns : List ℕ) → Kept (of_numbers s made ns) (of_numbers t made ns)
  numbers made ns = mapped _ (strings ns)

  written : (text : List ℕ) → Kept (text_value s text) (text_value t text)
  written text = mapped Text (short text)

  answer : (code : ℕ) (ps : List Plain) → Kept (s.functions code ps) (f code ps)
  answer code ps = given-too (s.functions code ps) (f code ps) (h code ps)

  plainly : (code : ℕ) (ms : List Known) (c : Focus) → Kept (option_map value_of_plain (plain_arguments (meanings ms) s c >>= s.functions code)) (option_map value_of_plain (plain_arguments (meanings ms) t c >>= f code))
  plainly code ms c = mapped value_of_plain (then _ _ (all-plain ms c) (answer code))

  call : (g : Function) (code : ℕ) (ms : List Known) (c : Focus) → Kept (called g code (meanings ms) s c) (called g code (meanings ms) t c)
  call of.asking code ms c = plainly code ms c
  call of.plainly code ms c = plainly code ms c
  call of.owning code ms c = mapped value_of_plain (then _ _ (then _ _ (own ms c) plain) (λ p. answer code (p ∷ [])))
  call of.boolean code ms c = mapped _ (at-place 0 ms c)
  call of.not code ms c = mapped _ (at-place 0 ms c)
  call (of.truth b) code ms c = kept
  call of.choosing code ms c = branches ms c
  call of.branching code ms c = mapped Text (then _ _ (branches ms c) text)
  call of.counting code ms c = then _ _ (at-place 0 ms c) (λ v. kept)
  call of.counting_filled code ms c = then _ _ (at-place 0 ms c) (λ v. mapped _ (strings (nodes_of v)))
  call of.adding code ms c = then _ _ (at-place 0 ms c) (λ v. numbers total (nodes_of v))
  call of.averaging code ms c = then _ _ (at-place 0 ms c) (λ v. numbers (average s.given.decimals) (nodes_of v))
  call of.greatest code ms c = then _ _ (at-place 0 ms c) (λ v. numbers (extreme greater) (nodes_of v))
  call of.least code ms c = then _ _ (at-place 0 ms c) (λ v. numbers (extreme lesser) (nodes_of v))
  call of.local_name code ms c = then _ _ (own ms c) (λ v. written (local_part (first_name s.all (nodes_of v))))
  call of.name code ms c = then _ _ (own ms c) (λ v. written (written_in (first_name s.all (nodes_of v))))
  call of.namespace code ms c = then _ _ (own ms c) (λ v. written (namespace_of s.given.bindings (first_name s.all (nodes_of v))))
  call of.number code ms c = mapped Number (then _ _ (own ms c) number)
  call of.string code ms c = mapped Text (then _ _ (own ms c) text)
  call of.current code ms c = kept
  call of.event code ms c = mapped _ (then _ _ (at-place 0 ms c) text)
  call of.index code ms c = mapped _ (then _ _ (at-place 0 ms c) text)
  call of.instance code ms c = mapped _ (id ms c)
  call of.last code ms c = kept
  call of.position code ms c = kept

-- ---- every expression

abbrev Level : Type 0
Level = Expr-F Known KnownLink KnownWalk

level : (y : Level) → Free (expr_meaning (map-Expr _ _ _ Meaning LinkMeaning Walk (λ e. e.0) (λ e. e.0) (λ e. e.0) y))
level (Expr-F.Number place k) = λ s f h c. kept
level (Expr-F.Literal place text) = λ s f h c. written s f h text
level (Expr-F.Call place code ms) = λ s f h c. call s f h (function_at code) code ms c
level (Expr-F.Negated place signs m) = λ s f h c. mapped _ (then _ _ (m.1 s f h c) (number s f h))
level (Expr-F.Chain first ls) = λ s f h c. then _ _ (first.1 s f h c) (λ a. chain s f h ls a c)
level (Expr-F.Filter first ms) = λ s f h c. mapped Nodes (then _ _ (first.1 s f h c) (λ v. kept-all s f h ms (nodes_of v)))
level (Expr-F.Path place Root ws) = λ s f h c. mapped Nodes (path s f h ws (begun Root s c))
level (Expr-F.Path place Context ws) = λ s f h c. mapped Nodes (path s f h ws (begun Context s c))
level (Expr-F.From first ws) = λ s f h c. mapped Nodes (then _ _ (first.1 s f h c) (λ v. path s f h ws (nodes_of v)))

free : (e : Expr) → Free (meaning e)
free = fold_keeps Meaning LinkMeaning Walk expr_meaning link_meaning step_walk Free FreeLink FreeWalk
    level (λ y. y.right.1) (λ y s f h ns. mapped _ (step s f h y.axis y.test y.predicates (begun_at y.is_below s.all ns)))

-- the value within the limit
pub same-without : (e : Expr) (s : Setting) (f : Plainly) → Extends s f → (c : Focus) (v : Value) → meaning e s c ≡ Some v → meaning e (without s f) c ≡ Some v
same-without e s f h c v i = given-back v (free e s f h c) i

-- the text within the limit
pub same-text_without : (e : Expr) (s : Setting) (f : Plainly) → Extends s f → (c : Focus) (cs : List ℕ) →
    (meaning e s c >>= string_of s) ≡ Some cs → (meaning e (without s f) c >>= string_of (without s f)) ≡ Some cs
same-text_without e s f h c cs i = given-back cs (then (string_of s) (string_of (without s f)) (free e s f h c) (text s f h)) i

-- The nodes that an expression gives stand in document order, each once: they are a part of the list of all nodes.
use Rattle.std.proofs.Common.{◌≡◌, ℕ, zero, suc, Bool, true, false, List, [], ◌∷◌, ◌++◌, map, length, Option, Some, None, option_map, unwrap_or}
use Rattle.xf_def_syntax.specs.declared.expr.Expr.{Expr}
use Rattle.xf_def_syntax.specs.declared.expr.Expr.TheOpen.{Expr-F}
use Rattle.xf_def_syntax.specs.declared.expr.Expr.TheFolds.{map-Expr}
use Rattle.xf_def_syntax.specs.declared.expr.Operator.{Operator}
use Rattle.xf_def_syntax.specs.declared.expr.Operator.TheVariants.{Or, And, Equal, NotEqual, Less, LessOrEqual, Greater, GreaterOrEqual, Add, Subtract, Multiply, Divide, Modulo, Union}
use Rattle.xf_def_syntax.specs.declared.expr.Start.{Start}
use Rattle.xf_def_syntax.specs.declared.expr.Start.TheVariants.{Root, Context}
use Rattle.xf_def_forest.specs.Visit.{Visit, has, top_of}
use Rattle.xf_def_forest.proofs.OrderLaws.{Sub, done, skip, keep, sub-none, sub-all, sub-through, filter-sub, map-sub, sub-different, are_different}
use Rattle.xf_def_xpath.specs.declared.value.Value.{Value}
use Rattle.xf_def_xpath.specs.declared.value.Value.TheVariants.{Nodes, Text, Number, Truth}
use Rattle.xf_def_xpath.specs.Given.{document_of, property_of}
use Rattle.xf_def_values.specs.declared.plain.Plain.{Plain}
use Rattle.xf_def_values.specs.Conversions.{Decimal}
use Rattle.xf_def_values.specs.declared.plain.Plain.TheVariants as plain
use Rattle.xf_def_xpath.specs.Setting.{Setting, Focus, Meaning, LinkMeaning, Walk, each, in_order}
use Rattle.xf_def_xpath.specs.Conversions.{nodes_of, truth_of, number_of, value_of_plain, strings_of}
use Rattle.xf_def_xpath.specs.Comparisons.{compared}
use Rattle.xf_def_xpath.specs.Steps.{is_true_at, with_first, kept_from, kept_by_all, from_one, begun_at, step_walk, walked, begun}
use Rattle.xf_def_xpath.specs.Operators.{truly, or_else, and_then, computed, combined, linked, chained}
use Rattle.xf_def_xpath.specs.Functions.{argument, own_argument, of_numbers, total, average, extreme, greater, lesser, branch, set_of, called}
use Rattle.xf_def_xpath.specs.Table.{Function, function_at}
use Rattle.xf_def_xpath.specs.Table as of
use Rattle.xf_def_xpath.specs.Meaning.{expr_meaning, link_meaning, meaning}
use Rattle.xf_def_xpath.proofs.Keeps.{fold_keeps}
use Rattle.xf_def_xpath.proofs.Options.{IfGiven, nothing, given, if-mapped, if-then, any-mapped, any-then}

abbrev pub numbers_in : List Visit → List ℕ
numbers_in all = map (λ x. x.number) all

-- these nodes stand in the data, in document order, each once
abbrev pub Stand : Setting → List ℕ → Type 0
Stand s ns = Sub ns (numbers_in s.all)

-- the nodes of a value, where there is one
abbrev pub StandIf : Setting → Option Value → Type 0
StandIf s m = IfGiven (λ v. Stand s (nodes_of v)) m

-- what surrounds the expression stands in the data
pub record IsWithin (s : Setting) (c : Focus) : Type 0 where
  pub node : Stand s (c.node ∷ [])
  pub top : Stand s (top_of c.node s.all ∷ [])
  pub current : Stand s (s.current ∷ [])
  pub documents : (id : List ℕ) → Stand s (nodes_of (set_of (document_of s.model id s.given.documents)))
  pub event : (name : List ℕ) → Stand s (nodes_of (unwrap_or (property_of name s.given.event) (Nodes [])))

abbrev pub InOrder : Meaning → Type 0
InOrder m = (s : Setting) (c : Focus) → IsWithin s c → StandIf s (m s c)

abbrev InOrderLink : LinkMeaning → Type 0
InOrderLink l = InOrder l.right

abbrev InOrderWalk : Walk → Type 0
InOrderWalk w = (s : Setting) (ns : List ℕ) → IfGiven (Stand s) (w s ns)

pub in_order-sub : (all : List Visit) (ns : List ℕ) → Sub (in_order all ns) (numbers_in all)
in_order-sub all ns = map-sub (λ x. x.number) (filter-sub (λ x. has x.number ns) all)

-- ---- predicates

with_first-sub : (n : ℕ) (b : Bool) {ns all : List ℕ} → Sub ns all → Sub (with_first n b ns) (n ∷ all)
with_first-sub n true p = keep p
with_first-sub n false p = skip p

kept-sub : (s : Setting) (m : Meaning) (size position : ℕ) (ns : List ℕ) → IfGiven (λ kept. Sub kept ns) (kept_from s m size position ns)
kept-sub s m size position [] = given done
kept-sub s m size position (n ∷ ns) =
    any-then (m s (record { node = n; position = position; size = size })) _ (λ v.
    if-then (kept_from s m size (suc position) ns) _ (kept-sub s m size (suc position) ns) (λ kept p. given (with_first-sub n (is_true_at s.given.decimals position v) p)))

weaker : {xs ys : List ℕ} → Sub xs ys → (m : Option (List ℕ)) → IfGiven (λ zs. Sub zs xs) m → IfGiven (λ zs. Sub zs ys) m
weaker q None h = nothing
weaker q (Some zs) (given h) = given (sub-through h q)

pub kept_all-sub : (s : Setting) (ms : List Meaning) (ns : List ℕ) → IfGiven (λ kept. Sub kept ns) (kept_by_all s ms ns)
kept_all-sub s [] ns = given (sub-all ns)
kept_all-sub s (m ∷ ms) ns =
    if-then (kept_from s m (length ns) 1 ns) (kept_by_all s ms) (kept-sub s m (length ns) 1 ns) (λ kept q. weaker q (kept_by_all s ms kept) (kept_all-sub s ms kept))

-- ---- values that are plain

no-nodes : (s : Setting) {A : Type 0} (m : Option A) (f : A → Value) → ((a : A) → Stand s (nodes_of (f a))) → StandIf s (option_map f m)
no-nodes s m f h = any-mapped m f h

none : (s : Setting) → Stand s []
none s = sub-none (numbers_in s.all)

of-plain : (s : Setting) (p : Plain) → Stand s (nodes_of (value_of_plain p))
of-plain s (plain.Text text) = none s
of-plain s (plain.Number k) = none s
of-plain s (plain.Truth b) = none s

truly-stand : (s : Setting) (m : Option Value) → StandIf s (truly m)
truly-stand s m = any-mapped m _ (λ v. none s)

or-stand : (s : Setting) (b : Bool) (m : Option Value) → StandIf s (or_else b m)
or-stand s true m = given (none s)
or-stand s false m = truly-stand s m

and-stand : (s : Setting) (b : Bool) (m : Option Value) → StandIf s (and_then b m)
and-stand s true m = truly-stand s m
and-stand s false m = given (none s)

computed-stand : (s : Setting) (operation : Decimal → Decimal → Decimal) (a b : Value) → StandIf s (computed s operation a b)
computed-stand s operation a b = any-then (number_of s a) _ (λ j. any-then (number_of s b) _ (λ k. given (none s)))

compared-stand : (s : Setting) (o : Operator) (a b : Value) → StandIf s (option_map Truth (compared s o a b))
compared-stand s o a b = any-mapped (compared s o a b) Truth (λ t. none s)

combined-stand : (o : Operator) (s : Setting) (a b : Value) → StandIf s (combined o s a b)
combined-stand Or s a b = compared-stand s Or a b
combined-stand And s a b = compared-stand s And a b
combined-stand Equal s a b = compared-stand s Equal a b
combined-stand NotEqual s a b = compared-stand s NotEqual a b
combined-stand Less s a b = compared-stand s Less a b
combined-stand LessOrEqual s a b = compared-stand s LessOrEqual a b
combined-stand Greater s a b = compared-stand s Greater a b
combined-stand GreaterOrEqual s a b = compared-stand s GreaterOrEqual a b
combined-stand Add s a b = computed-stand s _ a b
combined-stand Subtract s a b = computed-stand s _ a b
combined-stand Multiply s a b = computed-stand s _ a b
combined-stand Divide s a b = computed-stand s _ a b
combined-stand Modulo s a b = computed-stand s _ a b
combined-stand Union s a b = given (in_order-sub s.all (nodes_of a ++ nodes_of b))

linked-stand : (o : Operator) (a : Value) (m : Meaning) (s : Setting) (c : Focus) → StandIf s (linked o a m s c)
linked-stand Or a m s c = or-stand s (truth_of a) (m s c)
linked-stand And a m s c = and-stand s (truth_of a) (m s c)
linked-stand Equal a m s c = any-then (m s c) _ (combined-stand Equal s a)
linked-stand NotEqual a m s c = any-then (m s c) _ (combined-stand NotEqual s a)
linked-stand Less a m s c = any-then (m s c) _ (combined-stand Less s a)
linked-stand LessOrEqual a m s c = any-then (m s c) _ (combined-stand LessOrEqual s a)
linked-stand Greater a m s c = any-then (m s c) _ (combined-stand Greater s a)
linked-stand GreaterOrEqual a m s c = any-then (m s c) _ (combined-stand GreaterOrEqual s a)
linked-stand Add a m s c = any-then (m s c) _ (combined-stand Add s a)
linked-stand Subtract a m s c = any-then (m s c) _ (combined-stand Subtract s a)
linked-stand Multiply a m s c = any-then (m s c) _ (combined-stand Multiply s a)
linked-stand Divide a m s c = any-then (m s c) _ (combined-stand Divide s a)
linked-stand Modulo a m s c = any-then (m s c) _ (combined-stand Modulo s a)
linked-stand Union a m s c = any-then (m s c) _ (combined-stand Union s a)

chained-stand : (links : List LinkMeaning) (a : Value) (s : Setting) (c : Focus) → Stand s (nodes_of a) → StandIf s (chained links a s c)
chained-stand [] a s c h = given h
chained-stand (l ∷ ls) a s c h = if-then (linked l.operator a l.right s c) _ (linked-stand l.operator a l.right s c) (λ b k. chained-stand ls b s c k)

-- ---- functions

abbrev Known : Type 0
Known = (m : Meaning) × InOrder m

abbrev meanings : List Known → List Meaning
meanings ms = map (λ (e : Known). e.0) ms

argument-stand : (at : ℕ) (ms : List Known) (s : Setting) (c : Focus) → IsWithin s c → StandIf s (argument at (meanings ms) s c)
argument-stand at [] s c h = given (none s)
argument-stand zero (m ∷ ms) s c h = m.1 s c h
argument-stand (suc at) (m ∷ ms) s c h = argument-stand at ms s c h

branch-stand : (b : Bool) (ms : List Known) (s : Setting) (c : Focus) → IsWithin s c → StandIf s (branch b (meanings ms) s c)
branch-stand true ms s c h = argument-stand 1 ms s c h
branch-stand false ms s c h = argument-stand 2 ms s c h

texts-stand : (s : Setting) (m : Option (List ℕ)) → StandIf s (option_map Text m)
texts-stand s m = any-mapped m Text (λ t. none s)

of-numbers-stand : (s : Setting) (made : List Decimal → Decimal) (ns : List ℕ) → StandIf s (of_numbers s made ns)
of-numbers-stand s made ns = any-mapped (strings_of s ns) _ (λ texts. none s)

called-stand : (f : Function) (code : ℕ) (ms : List Known) (s : Setting) (c : Focus) → IsWithin s c → StandIf s (called f code (meanings ms) s c)
called-stand of.asking code ms s c h = any-mapped _ value_of_plain (of-plain s)
called-stand of.plainly code ms s c h = any-mapped _ value_of_plain (of-plain s)
called-stand of.owning code ms s c h = any-mapped _ value_of_plain (of-plain s)
called-stand of.boolean code ms s c h = any-mapped _ _ (λ v. none s)
called-stand of.not code ms s c h = any-mapped _ _ (λ v. none s)
called-stand (of.truth b) code ms s c h = given (none s)
called-stand of.choosing code ms s c h = any-then (argument 0 (meanings ms) s c) _ (λ v. branch-stand (truth_of v) ms s c h)
called-stand of.branching code ms s c h = texts-stand s _
called-stand of.counting code ms s c h = any-then (argument 0 (meanings ms) s c) _ (λ v. given (none s))
called-stand of.counting_filled code ms s c h = any-then (argument 0 (meanings ms) s c) _ (λ v. any-mapped (strings_of s (nodes_of v)) _ (λ texts. none s))
called-stand of.adding code ms s c h = any-then (argument 0 (meanings ms) s c) _ (λ v. of-numbers-stand s total (nodes_of v))
called-stand of.averaging code ms s c h = any-then (argument 0 (meanings ms) s c) _ (λ v. of-numbers-stand s (average s.given.decimals) (nodes_of v))
called-stand of.greatest code ms s c h = any-then (argument 0 (meanings ms) s c) _ (λ v. of-numbers-stand s (extreme greater) (nodes_of v))
called-stand of.least code ms s c h = any-then (argument 0 (meanings ms) s c) _ (λ v. of-numbers-stand s (extreme lesser) (nodes_of v))
called-stand of.local_name code ms s c h = any-then (own_argument (meanings ms) s c) _ (λ v. texts-stand s _)
called-stand of.name code ms s c h = any-then (own_argument (meanings ms) s c) _ (λ v. texts-stand s _)
called-stand of.namespace code ms s c h = any-then (own_argument (meanings ms) s c) _ (λ v. texts-stand s _)
called-stand of.number code ms s c h = any-mapped _ Number (λ k. none s)
called-stand of.string code ms s c h = texts-stand s _
called-stand of.current code ms s c h = given h.current
called-stand of.event code ms s c h = any-mapped _ _ (λ name. h.event name)
called-stand of.index code ms s c h = any-mapped _ _ (λ id. none s)
called-stand of.instance code ms s c h = any-mapped _ _ (λ id. h.documents id)
called-stand of.last code ms s c h = given (none s)
called-stand of.position code ms s c h = given (none s)

-- ---- paths

set-stand : (s : Setting) (m : Option (List ℕ)) → IfGiven (Stand s) m → StandIf s (option_map Nodes m)
set-stand s m h = if-mapped m Nodes h (λ ns k. k)

abbrev KnownWalk : Type 0
KnownWalk = (w : Walk) × InOrderWalk w

walked-stand : (s : Setting) (ws : List KnownWalk) (ns : List ℕ) → Stand s ns → IfGiven (Stand s) (walked s (map (λ (e : KnownWalk). e.0) ws) ns)
walked-stand s [] ns h = given h
walked-stand s (w ∷ ws) ns h = if-then (w.0 s ns) _ (w.1 s ns) (λ ms k. walked-stand s ws ms k)

begun-stand : (start : Start) (s : Setting) (c : Focus) → IsWithin s c → Stand s (begun start s c)
begun-stand Root s c h = h.top
begun-stand Context s c h = h.node

-- ---- every expression

abbrev Level : Type 0
Level = Expr-F Known ((l : LinkMeaning) × InOrderLink l) KnownWalk

level-stand : (y : Level) → InOrder (expr_meaning (map-Expr _ _ _ Meaning LinkMeaning Walk (λ e. e.0) (λ e. e.0) (λ e. e.0) y))
level-stand (Expr-F.Number place k) = λ s c h. given (none s)
level-stand (Expr-F.Literal place text) = λ s c h. texts-stand s _
level-stand (Expr-F.Call place code ms) = λ s c h. called-stand (function_at code) code ms s c h
level-stand (Expr-F.Negated place signs m) = λ s c h. any-mapped _ _ (λ k. none s)
level-stand (Expr-F.Chain first links) = λ s c h. if-then (first.0 s c) _ (first.1 s c h) (λ a p. chained-stand (map (λ (e : (l : LinkMeaning) × InOrderLink l). e.0) links) a s c p)
level-stand (Expr-F.Filter first ms) = λ s c h. set-stand s _ (if-then (first.0 s c) _ (first.1 s c h) (λ v p. weaker p _ (kept_all-sub s _ (nodes_of v))))
level-stand (Expr-F.Path place start ws) = λ s c h. set-stand s _ (walked-stand s ws (begun start s c) (begun-stand start s c h))
level-stand (Expr-F.From first ws) = λ s c h. set-stand s _ (if-then (first.0 s c) _ (first.1 s c h) (λ v p. walked-stand s ws (nodes_of v) p))

pub all-in_order : (e : Expr) → InOrder (meaning e)
all-in_order = fold_keeps Meaning LinkMeaning Walk expr_meaning link_meaning step_walk InOrder InOrderLink InOrderWalk
    level-stand (λ y. y.right.1) (λ y s ns. any-mapped (each (from_one y.axis y.test (map (λ p. p.0) y.predicates) s) (begun_at y.is_below s.all ns)) _ (λ sets. in_order-sub s.all _))

-- no node comes twice where the numbers of the data differ
pub all-different : (e : Expr) (s : Setting) (c : Focus) → IsWithin s c → are_different (numbers_in s.all) ≡ true →
    IfGiven (λ v. are_different (nodes_of v) ≡ true) (meaning e s c)
all-different e s c h d = by (meaning e s c) (all-in_order e s c h)
  where
    by : (m : Option Value) → StandIf s m → IfGiven (λ v. are_different (nodes_of v) ≡ true) m
    by None k = nothing
    by (Some v) (given k) = given (sub-different k d)

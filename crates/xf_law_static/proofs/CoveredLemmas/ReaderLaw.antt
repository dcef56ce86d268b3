-- Every expression that is read is as the reader makes it.
use Rattle.std.proofs.Common.{◌≡◌, ℕ, zero, suc, ◌==◌, Bool, true, false, not, ◌&&◌, ◌||◌, List, [], ◌∷◌, ◌++◌, map, length, Option, Some, None, refl, sym, ap, ◌∙◌, arith, subst}
use Rattle.std.specs.Prelude.{nat_le, nat_lt, get_or, Ok, Err, if◌then◌else◌}
use Rattle.std.specs.List.{list_all}
use Rattle.std.proofs.lemmas.Bool.Decides.{nat_tests}
use Rattle.std.proofs.lemmas.Bool.{eqb-true}
use Rattle.xf_num.specs.Written.{read_at}
use Rattle.xf_base.specs.Limits.{expression_limit, nesting_limit}
use Rattle.xf_table.specs.Rows.{Entry, code_of}
use Rattle.xf_table.specs.Contents.{function_entries}
use Rattle.xf_name.specs.Bindings.{Bindings}
use Rattle.xf_name.specs.declared.axis.Axis.{Axis}
use Rattle.xf_name.specs.declared.axis.Axis.TheVariants as axis
use Rattle.xf_def_syntax.specs.declared.expr.Test.TheVariants as test
use Rattle.xf_def_syntax.specs.declared.expr.Start.{Start}
use Rattle.xf_def_syntax.specs.declared.expr.Start.TheVariants as start
use Rattle.xf_def_syntax.specs.declared.expr.Operator.{Operator}
use Rattle.xf_def_syntax.specs.declared.expr.Expr.{Expr}
use Rattle.xf_def_syntax.specs.declared.expr.Link.{Link, roll-Link}
use Rattle.xf_def_syntax.specs.declared.expr.Step.{Step, roll-Step}
use Rattle.xf_def_syntax.specs.declared.expr.Expr.TheOpen.{Expr-F, Link-F, Step-F}
use Rattle.xf_def_syntax.specs.declared.expr.Expr.TheFolds.{fold-Link, fold-Step, fold-roll-Expr, fold-roll-Link, fold-roll-Step}
use Rattle.xf_def_syntax.specs.declared.expr.Expr.TheVariants.{Number, Literal, Call, Negated, Chain, Filter, Path, From, rolls-Number, rolls-Literal, rolls-Call, rolls-Negated, rolls-Chain, rolls-Filter, rolls-Path, rolls-From}
use Rattle.xf_path.specs.declared.fault.ExprKind.TheVariants.{Long, Deep}
use Rattle.xf_path.specs.declared.fault.ParseFault.TheVariants as fault
use Rattle.xf_path.specs.declared.token.Kind.{Kind}
use Rattle.xf_path.specs.declared.token.Kind.TheVariants as k
use Rattle.xf_path.specs.Tokens.{Token, tokens_of}
use Rattle.xf_path.specs.Reading.{Outcome, Rule, kind_of, place_of, text_of, ◌>>=◌, ◌>>◌, pure, next_kind, next_place, take_next, pass_next, and_then, close, close_square, open_bracket, refuse}
use Rattle.xf_path.specs.Steps.{axis_rule, node_test, predicate, opens_predicate, predicates_by, more_predicates, predicates, abbreviated, written, step_by, step}
use Rattle.xf_path.specs.Paths as paths
use Rattle.xf_path.specs.Calls as calls
use Rattle.xf_path.specs.Primary as primary
use Rattle.xf_path.specs.Operators as operators
use Rattle.xf_path.specs.Grammar as grammar
use Rattle.xf_def_xpath.specs.Table.{Function, functions, function_at}
use Rattle.xf_def_xpath.specs.Table as of
use Rattle.xf_law_recalculation.specs.Agree.Covered.{is_told}
use Rattle.xf_law_static.specs.Covered.AsRead.{all_of, few_arguments, expr_as_read, link_as_read, step_as_read, is_as_read, ReadAsMade}

-- ---- what a rule makes

abbrev Makes : {A : Type 0} → (A → Type 0) → Rule A → Type 0
Makes {A = A} P r = (ts rest : List Token) (a : A) → r ts ≡ Ok (a, rest) → P a

abbrev first_in : {A : Type 0} → A → Outcome A → A
first_in d (Ok p) = p.0
first_in d (Err e) = d

makes-pure : {A : Type 0} (P : A → Type 0) (a : A) → P a → Makes P (pure a)
makes-pure P a p ts rest b e = subst P (ap (first_in a) e) p

makes-then : {A B : Type 0} (P : A → Type 0) (Q : B → Type 0) (r : Rule A) (f : A → Rule B) → Makes P r → ((a : A) → P a → Makes Q (f a)) → Makes Q (r >>= f)
makes-then {A = A} {B = B} P Q r f h g ts rest b e = by (r ts) refl e
  where
    by : (o : Outcome A) → r ts ≡ o → and_then o f ≡ Ok (b, rest) → Q b
    by (Ok p) i j = g p.0 (h ts p.1 p.0 i) p.1 rest b j
    by (Err x) i j = cc j

-- whatever was read before
makes-after : {A B : Type 0} (Q : B → Type 0) (r : Rule A) (f : A → Rule B) → ((a : A) → Makes Q (f a)) → Makes Q (r >>= f)
makes-after {A = A} Q r f g = makes-then (λ (a : A). Unit {0}) Q r f (λ ts rest a e. tt) (λ a p. g a)

-- ---- expressions, steps and links as they are read

abbrev E : Expr → Type 0
E x = is_as_read x ≡ true

step_read : Step → Bool
step_read = fold-Step Bool Bool Bool expr_as_read link_as_read step_as_read

link_read : Link → Bool
link_read = fold-Link Bool Bool Bool expr_as_read link_as_read step_as_read

abbrev S : Step → Type 0
S x = step_read x ≡ true

abbrev L : Link → Type 0
L x = link_read x ≡ true

abbrev Each : {A : Type 0} → (A → Bool) → List A → Type 0
Each read xs = all_of (map read xs) ≡ true

both : (a b : Bool) → a ≡ true → b ≡ true → (a && b) ≡ true
both true b h k = k
both false b h k = h

and-true : (a b : Bool) → (a && b) ≡ true → (a ≡ true) × (b ≡ true)
and-true true b h = (refl, h)
and-true false b h = cc h

each-more : {A : Type 0} (read : A → Bool) (xs : List A) (x : A) → Each read xs → read x ≡ true → Each read (xs ++ x ∷ [])
each-more read [] x h k = both (read x) true k refl
each-more read (y ∷ ys) x h k = let p = and-true (read y) (all_of (map read ys)) h in both (read y) (all_of (map read (ys ++ x ∷ []))) p.0 (each-more read ys x p.1 k)

each-one : {A : Type 0} (read : A → Bool) (x : A) → read x ≡ true → Each read (x ∷ [])
each-one read x k = both (read x) true k refl

of-number : (place : ℕ) (n : _) → E (Number place n)
of-number place n = ap is_as_read (sym (rolls-Number place n)) ∙ fold-roll-Expr Bool Bool Bool expr_as_read link_as_read step_as_read (Expr-F.Number place n)

of-literal : (place : ℕ) (text : List ℕ) → E (Literal place text)
of-literal place text = ap is_as_read (sym (rolls-Literal place text)) ∙ fold-roll-Expr Bool Bool Bool expr_as_read link_as_read step_as_read (Expr-F.Literal place text)

of-call : (place code : ℕ) (xs : List Expr) → few_arguments (function_at code) (map is_as_read xs) ≡ true → Each is_as_read xs → E (Call place code xs)
of-call place code xs few h = ap is_as_read (sym (rolls-Call place code xs)) ∙ fold-roll-Expr Bool Bool Bool expr_as_read link_as_read step_as_read (Expr-F.Call place code xs) ∙ both (few_arguments (function_at code) (map is_as_read xs)) (all_of (map is_as_read xs)) few h

of-negated : (place signs : ℕ) (x : Expr) → E x → E (Negated place signs x)
of-negated place signs x h = ap is_as_read (sym (rolls-Negated place signs x)) ∙ fold-roll-Expr Bool Bool Bool expr_as_read link_as_read step_as_read (Expr-F.Negated place signs x) ∙ h

of-chain : (x : Expr) (l : Link) (ls : List Link) → E x → Each link_read (l ∷ ls) → E (Chain x (l ∷ ls))
unfolding link_read
of-chain x l ls h k = ap is_as_read (sym (rolls-Chain x (l ∷ ls))) ∙ fold-roll-Expr Bool Bool Bool expr_as_read link_as_read step_as_read (Expr-F.Chain x (l ∷ ls)) ∙ both (true && is_as_read x) (all_of (map link_read (l ∷ ls))) h k

of-filter : (x : Expr) (xs : List Expr) → E x → Each is_as_read xs → E (Filter x xs)
of-filter x xs h k = ap is_as_read (sym (rolls-Filter x xs)) ∙ fold-roll-Expr Bool Bool Bool expr_as_read link_as_read step_as_read (Expr-F.Filter x xs) ∙ both (is_as_read x) (all_of (map is_as_read xs)) h k

of-path : (place : ℕ) (from : Start) (steps : List Step) → Each step_read steps → E (Path place from steps)
unfolding step_read
of-path place from steps h = ap is_as_read (sym (rolls-Path place from steps)) ∙ fold-roll-Expr Bool Bool Bool expr_as_read link_as_read step_as_read (Expr-F.Path place from steps) ∙ h

of-from : (x : Expr) (steps : List Step) → E x → Each step_read steps → E (From x steps)
unfolding step_read
of-from x steps h k = ap is_as_read (sym (rolls-From x steps)) ∙ fold-roll-Expr Bool Bool Bool expr_as_read link_as_read step_as_read (Expr-F.From x steps) ∙ both (is_as_read x) (all_of (map step_read steps)) h k

of-step : (y : Step-F Expr Link Step) → is_told y.is_written y.axis y.test ≡ true → Each is_as_read y.predicates → S (roll-Step y)
unfolding step_read
of-step y h k = fold-roll-Step Bool Bool Bool expr_as_read link_as_read step_as_read y ∙ both (is_told y.is_written y.axis y.test) (all_of (map is_as_read y.predicates)) h k

of-link : (y : Link-F Expr Link Step) → E y.right → L (roll-Link y)
unfolding link_read
of-link y h = fold-roll-Link Bool Bool Bool expr_as_read link_as_read step_as_read y ∙ h

-- ---- steps

module _ (b : Bindings) (nested : Rule Expr) (reads : Makes E nested) where
  makes-predicate : Makes E (predicate nested)
  unfolding predicate
  makes-predicate = makes-then E E nested (λ inner. close_square >> pure inner) reads (λ inner h. makes-after E close_square (λ u. pure inner) (λ u. makes-pure E inner h))

  makes-predicates : (most : ℕ) (found : List Expr) → Each is_as_read found → Makes (Each is_as_read) (more_predicates nested most found)
  unfolding more_predicates
  makes-predicates zero found h = makes-pure (Each is_as_read) found h
  makes-predicates (suc most) found h =
      makes-after (Each is_as_read) next_kind (λ kind. predicates_by (predicate nested >>= (λ next. more_predicates nested most (found ++ next ∷ []))) found (opens_predicate kind)) (λ kind. by (opens_predicate kind)
      (makes-then E (Each is_as_read) (predicate nested) (λ next. more_predicates nested most (found ++ next ∷ [])) makes-predicate (λ next i. makes-predicates most (found ++ next ∷ []) (each-more is_as_read found next h i))))
    where
      by : (c : Bool) → Makes (Each is_as_read) (predicate nested >>= (λ next. more_predicates nested most (found ++ next ∷ []))) → Makes (Each is_as_read) (predicates_by (predicate nested >>= (λ next. more_predicates nested most (found ++ next ∷ []))) found c)
      by true i = i
      by false i = makes-pure (Each is_as_read) found h

  all-predicates : Makes (Each is_as_read) (predicates nested)
  all-predicates = makes-predicates expression_limit [] refl

  makes-abbreviated : (is_below : Bool) (along : Axis) → is_told false along test.Node ≡ true → Makes S (abbreviated is_below along)
  unfolding abbreviated
  makes-abbreviated is_below along h = makes-after S next_place _ (λ place. makes-after S pass_next _ (λ u. makes-pure S _ (of-step (record { place = place; is_below = is_below; is_written = false; axis = along; test = test.Node; predicates = [] }) h refl)))

  makes-written : (is_below : Bool) → Makes S (written b nested is_below)
  unfolding written
  makes-written is_below =
      makes-after S next_place _ (λ place. makes-after S axis_rule _ (λ along. makes-after S (node_test b) _ (λ asked.
      makes-then (Each is_as_read) S (predicates nested) _ all-predicates (λ found h. makes-pure S _ (of-step (record { place = place; is_below = is_below; is_written = true; axis = along; test = asked; predicates = found }) refl h)))))

  makes-step_by : (is_below : Bool) (kind : Kind) → Makes S (step_by b nested is_below kind)
  makes-step_by is_below k.Dot = makes-abbreviated is_below axis.Self_ refl
  makes-step_by is_below k.DotDot = makes-abbreviated is_below axis.Parent refl
  makes-step_by is_below _ = makes-written is_below

  makes-step : (is_below : Bool) → Makes S (step b nested is_below)
  unfolding step
  makes-step is_below = makes-after S next_kind (step_by b nested is_below) (makes-step_by is_below)

  -- ---- paths

  makes-more_steps : (most : ℕ) (found : List Step) → Each step_read found → Makes (Each step_read) (paths.more_steps b nested most found)
  unfolding paths.more_steps
  makes-more_steps zero found h = makes-pure (Each step_read) found h
  makes-more_steps (suc most) found h =
      makes-after (Each step_read) next_kind (λ kind. paths.more_by (λ is_below. step b nested is_below >>= (λ next. paths.more_steps b nested most (found ++ next ∷ []))) found (paths.separator kind)) (λ kind. by (paths.separator kind)
      (λ is_below. makes-then S (Each step_read) (step b nested is_below) (λ next. paths.more_steps b nested most (found ++ next ∷ [])) (makes-step is_below) (λ next i. makes-more_steps most (found ++ next ∷ []) (each-more step_read found next h i))))
    where
      by : (o : Option Bool) → ((is_below : Bool) → Makes (Each step_read) (step b nested is_below >>= (λ next. paths.more_steps b nested most (found ++ next ∷ [])))) →
          Makes (Each step_read) (paths.more_by (λ is_below. step b nested is_below >>= (λ next. paths.more_steps b nested most (found ++ next ∷ []))) found o)
      by None i = makes-pure (Each step_read) found h
      by (Some is_below) i = makes-after (Each step_read) pass_next (λ u. step b nested is_below >>= (λ next. paths.more_steps b nested most (found ++ next ∷ []))) (λ u. i is_below)

  makes-steps : (is_below : Bool) → Makes (Each step_read) (paths.steps b nested is_below)
  unfolding paths.steps
  makes-steps is_below = makes-then S (Each step_read) (step b nested is_below) (λ first. paths.more_steps b nested expression_limit (first ∷ [])) (makes-step is_below) (λ first h. makes-more_steps expression_limit (first ∷ []) (each-one step_read first h))

  makes-rooted : (place : ℕ) (c : Bool) → Makes E (paths.rooted b nested place c)
  makes-rooted place true = makes-then (Each step_read) E (paths.steps b nested false) (λ found. pure (Path place start.Root found)) (makes-steps false) (λ found h. makes-pure E (Path place start.Root found) (of-path place start.Root found h))
  makes-rooted place false = makes-pure E (Path place start.Root []) (of-path place start.Root [] refl)

  makes-path_by : (place : ℕ) (kind : Kind) → Makes E (paths.path_by b nested place kind)
  makes-path_by place k.Slash = makes-after E (pass_next >> next_kind) (λ kind. paths.rooted b nested place (paths.begins_step kind)) (λ kind. makes-rooted place (paths.begins_step kind))
  makes-path_by place k.SlashSlash = makes-then (Each step_read) E (pass_next >> paths.steps b nested true) (λ found. pure (Path place start.Root found)) (makes-after (Each step_read) pass_next (λ u. paths.steps b nested true) (λ u. makes-steps true)) (λ found h. makes-pure E (Path place start.Root found) (of-path place start.Root found h))
  makes-path_by place _ = makes-then (Each step_read) E (paths.steps b nested false) (λ found. pure (Path place start.Context found)) (makes-steps false) (λ found h. makes-pure E (Path place start.Context found) (of-path place start.Context found h))

  makes-path : Makes E (paths.path b nested)
  unfolding paths.path
  makes-path = makes-after E next_place _ (λ place. makes-after E next_kind _ (λ kind. makes-path_by place kind))

-- ---- calls

-- so many arguments as `instance` takes
fits : Function → Entry → Bool
fits of.instance e = e.most == 1
fits g e = true

all_fit : List Function → List Entry → Bool
all_fit [] es = true
all_fit (g ∷ gs) [] = true
all_fit (g ∷ gs) (e ∷ es) = fits g e && all_fit gs es

table-fits : all_fit functions function_entries ≡ true
unfolding fits all_fit function_entries
table-fits = refl

two-many : {A : Type 0} (xs : List A) → nat_le (suc (suc (length xs))) 1 ≡ true → false ≡ true
two-many xs h = grind (arith, nat_tests, h)

same-most : (n : ℕ) → (n == 1) ≡ true → n ≡ 1
same-most n h = eqb-true n 1 h

few-one : (xs : List Expr) → nat_le (length xs) 1 ≡ true → few_arguments of.instance (map is_as_read xs) ≡ true
few-one [] h = refl
few-one (x ∷ []) h = refl
few-one (x ∷ y ∷ xs) h = two-many xs h

few-of : (g : Function) (e : Entry) (xs : List Expr) → fits g e ≡ true → nat_le (length xs) e.most ≡ true → few_arguments g (map is_as_read xs) ≡ true
unfolding fits
few-of of.instance e xs h l = few-one xs (ap (nat_le (length xs)) (sym (same-most e.most h)) ∙ l)
few-of of.asking e xs h l = refl
few-of of.owning e xs h l = refl
few-of of.plainly e xs h l = refl
few-of of.boolean e xs h l = refl
few-of of.not e xs h l = refl
few-of (of.truth c) e xs h l = refl
few-of of.choosing e xs h l = refl
few-of of.branching e xs h l = refl
few-of of.counting e xs h l = refl
few-of of.counting_filled e xs h l = refl
few-of of.adding e xs h l = refl
few-of of.averaging e xs h l = refl
few-of of.greatest e xs h l = refl
few-of of.least e xs h l = refl
few-of of.local_name e xs h l = refl
few-of of.name e xs h l = refl
few-of of.namespace e xs h l = refl
few-of of.number e xs h l = refl
few-of of.string e xs h l = refl
few-of of.current e xs h l = refl
few-of of.event e xs h l = refl
few-of of.index e xs h l = refl
few-of of.last e xs h l = refl
few-of of.position e xs h l = refl

few-at : (gs : List Function) (es : List Entry) → all_fit gs es ≡ true → (code : ℕ) (xs : List Expr) → calls.takes (calls.entry_at es code) xs ≡ true → few_arguments (get_or gs code of.plainly) (map is_as_read xs) ≡ true
unfolding all_fit
few-at [] es h code xs t = refl
few-at (g ∷ gs) [] h code xs t = cc t
few-at (g ∷ gs) (e ∷ es) h zero xs t =
    let p = and-true (nat_le e.least (length xs) && nat_le (length xs) e.most) (not (e.marks == 1) || list_all calls.may_give_nodes xs) t in
    few-of g e xs (and-true (fits g e) (all_fit gs es) h).0 (and-true (nat_le e.least (length xs)) (nat_le (length xs) e.most) p.0).1
few-at (g ∷ gs) (e ∷ es) h (suc code) xs t = few-at gs es (and-true (fits g e) (all_fit gs es) h).1 code xs t

module _ (inside : Rule Expr) (reads : Makes E inside) where
  makes-more : (most : ℕ) (found : List Expr) → Each is_as_read found → Makes (Each is_as_read) (calls.more_arguments inside most found)
  unfolding calls.more_arguments
  makes-more zero found h = makes-pure (Each is_as_read) found h
  makes-more (suc most) found h =
      makes-after (Each is_as_read) next_kind (λ kind. calls.more_by (inside >>= (λ next. calls.more_arguments inside most (found ++ next ∷ []))) found (calls.is_comma kind)) (λ kind. by (calls.is_comma kind)
      (makes-then E (Each is_as_read) inside (λ next. calls.more_arguments inside most (found ++ next ∷ [])) reads (λ next i. makes-more most (found ++ next ∷ []) (each-more is_as_read found next h i))))
    where
      by : (c : Bool) → Makes (Each is_as_read) (inside >>= (λ next. calls.more_arguments inside most (found ++ next ∷ []))) → Makes (Each is_as_read) (calls.more_by (inside >>= (λ next. calls.more_arguments inside most (found ++ next ∷ []))) found c)
      by true i = makes-after (Each is_as_read) pass_next (λ u. inside >>= (λ next. calls.more_arguments inside most (found ++ next ∷ []))) (λ u. i)
      by false i = makes-pure (Each is_as_read) found h

  makes-arguments_by : (kind : Kind) → Makes (Each is_as_read) (calls.arguments_by inside kind)
  makes-arguments_by k.Close = makes-after (Each is_as_read) pass_next (λ u. pure []) (λ u. makes-pure (Each is_as_read) [] refl)
  makes-arguments_by _ =
      makes-then (Each is_as_read) (Each is_as_read) (inside >>= (λ first. calls.more_arguments inside expression_limit (first ∷ []))) calls.ended
      (makes-then E (Each is_as_read) inside (λ first. calls.more_arguments inside expression_limit (first ∷ [])) reads (λ first h. makes-more expression_limit (first ∷ []) (each-one is_as_read first h)))
      (λ found h. makes-after (Each is_as_read) close (λ u. pure found) (λ u. makes-pure (Each is_as_read) found h))

  makes-arguments : Makes (Each is_as_read) (calls.arguments inside)
  unfolding calls.arguments
  makes-arguments = makes-after (Each is_as_read) next_kind (calls.arguments_by inside) makes-arguments_by

  makes-checked : (place code : ℕ) (found : List Expr) → Each is_as_read found → (c : Bool) → calls.takes (calls.entry_at function_entries code) found ≡ c → Makes E (calls.checked place code found c)
  makes-checked place code found h true t = makes-pure E (Call place code found) (of-call place code found (few-at functions function_entries table-fits code found t) h)
  makes-checked place code found h false t = λ ts rest a e. cc e

  makes-call : (b : Bindings) (opened : Rule (Unit {0})) → Makes E (calls.call b opened inside)
  unfolding calls.call calls.called
  makes-call b opened ts = by (code_of (text_of ts) function_entries) ts
    where
      by : (o : Option ℕ) → Makes E (calls.call_by b opened inside (place_of ts) (text_of ts) o)
      by None = λ us rest a e. cc e
      by (Some code) =
          makes-then (Each is_as_read) E (pass_next >> opened >> calls.arguments inside) (λ found. calls.checked (place_of ts) code found (calls.takes (calls.entry_at function_entries code) found))
          (makes-after (Each is_as_read) (pass_next >> opened) (λ u. calls.arguments inside) (λ u. makes-arguments))
          (λ found h. makes-checked (place_of ts) code found h (calls.takes (calls.entry_at function_entries code) found) refl)

-- ---- operands

module _ (d : ℕ) (b : Bindings) (nested called : Rule Expr) (reads : Makes E nested) (reads_call : Makes E called) where
  makes-primary_by : (kind : Kind) → Makes E (primary.primary_by d nested called kind)
  unfolding primary.grouped primary.number primary.literal
  makes-primary_by k.Open = makes-then E E nested (λ inner. close >> pure inner) reads (λ inner h. makes-after E close (λ u. pure inner) (λ u. makes-pure E inner h))
  makes-primary_by k.Number = makes-after E next_place _ (λ place. makes-after E take_next _ (λ written. makes-pure E (Number place (read_at d written)) (of-number place (read_at d written))))
  makes-primary_by k.Literal = makes-after E next_place _ (λ place. makes-after E take_next _ (λ written. makes-pure E (Literal place (primary.unquoted written)) (of-literal place (primary.unquoted written))))
  makes-primary_by _ = reads_call

  makes-primary : Makes E (primary.primary d nested called)
  unfolding primary.primary
  makes-primary = makes-after E next_kind (primary.primary_by d nested called) makes-primary_by

  filter-of : (first : Expr) (found : List Expr) → E first → Each is_as_read found → E (primary.filter_of first found)
  filter-of first [] h i = h
  filter-of first (p ∷ ps) h i = of-filter first (p ∷ ps) h i

  makes-filtered : Makes E (primary.filtered d nested called)
  unfolding primary.filtered
  makes-filtered = makes-then E E (primary.primary d nested called) _ makes-primary (λ first h. makes-then (Each is_as_read) E (predicates nested) _ (all-predicates b nested reads) (λ found i. makes-pure E _ (filter-of first found h i)))

  makes-onward_by : (first : Expr) → E first → (o : Option Bool) → Makes E (primary.onward_by b nested first o)
  makes-onward_by first h None = makes-pure E first h
  makes-onward_by first h (Some is_below) = makes-then (Each step_read) E (pass_next >> paths.steps b nested is_below) (λ found. pure (From first found)) (makes-after (Each step_read) pass_next (λ u. paths.steps b nested is_below) (λ u. makes-steps b nested reads is_below)) (λ found i. makes-pure E (From first found) (of-from first found h i))

  makes-onward : (first : Expr) → E first → Makes E (primary.onward b nested first)
  unfolding primary.onward
  makes-onward first h = makes-after E next_kind (λ kind. primary.onward_by b nested first (paths.separator kind)) (λ kind. makes-onward_by first h (paths.separator kind))

  makes-operand_by : (c : Bool) → Makes E (primary.operand_by d b nested called c)
  makes-operand_by true = makes-then E E (primary.filtered d nested called) (primary.onward b nested) makes-filtered makes-onward
  makes-operand_by false = makes-path b nested reads

makes-operand : (d : ℕ) (b : Bindings) (opened : Rule (Unit {0})) (inside : Rule Expr) → Makes E inside → Makes E (primary.operand d b opened inside)
unfolding primary.operand
makes-operand d b opened inside reads ts =
    makes-operand_by d b (opened >> inside) (calls.call b opened inside) (makes-after E opened (λ u. inside) (λ u. reads)) (makes-call inside reads b opened) (primary.begins_primary (kind_of ts) (text_of ts)) ts

-- ---- operators

module _ (side : Rule Expr) (reads : Makes E side) (rank : ℕ) where
  makes-links : (most : ℕ) (found : List Link) → Each link_read found → Makes (Each link_read) (operators.more_links side rank most found)
  unfolding operators.more_links
  makes-links zero found h ts = makes-pure (Each link_read) found h ts
  makes-links (suc most) found h ts = by (makes-links most) (operators.operator_at rank (kind_of ts) (text_of ts)) ts
    where
      by : ((more : List Link) → Each link_read more → Makes (Each link_read) (operators.more_links side rank most more)) → (o : Option Operator) → Makes (Each link_read) (operators.link_by side (operators.more_links side rank most) found (place_of ts) o)
      by go None = makes-pure (Each link_read) found h
      by go (Some operator) = makes-after (Each link_read) pass_next _ (λ u. makes-then E (Each link_read) side _ reads (λ right i. go (found ++ roll-Link (record { place = place_of ts; operator = operator; right = right }) ∷ [])
          (each-more link_read found (roll-Link (record { place = place_of ts; operator = operator; right = right })) h (of-link (record { place = place_of ts; operator = operator; right = right }) i))))

  chain-of : (first : Expr) (found : List Link) → E first → Each link_read found → E (operators.chain_of first found)
  chain-of first [] h i = h
  chain-of first (l ∷ ls) h i = of-chain first l ls h i

  makes-chain : Makes E (operators.chain side rank)
  unfolding operators.chain
  makes-chain = makes-then E E side _ reads (λ first h. makes-then (Each link_read) E (operators.more_links side rank expression_limit []) _ (makes-links expression_limit [] refl) (λ found i. makes-pure E _ (chain-of first found h i)))

-- ---- the whole

abbrev Signed : ℕ × Expr → Type 0
Signed p = E p.1

makes-unary : (signs : Rule (ℕ × Expr)) → Makes Signed signs → Makes E (grammar.unary_by signs)
unfolding grammar.unary_by
makes-unary signs reads = makes-after E next_place _ (λ place. makes-then Signed E signs _ reads (λ found h. makes-pure E _ (negated-of place found.0 found.1 h)))
  where
    negated-of : (place n : ℕ) (x : Expr) → E x → E (grammar.negated place n x)
    negated-of place zero x h = h
    negated-of place (suc n) x h = of-negated place (suc n) x h

makes-ranked : (unary : Rule Expr) → Makes E unary → (rank : ℕ) → Makes E (grammar.ranked unary rank)
unfolding grammar.ranked
makes-ranked unary reads zero = reads
makes-ranked unary reads (suc rank) = makes-chain (grammar.ranked unary rank) (makes-ranked unary reads rank) (suc rank)

makes-expression : (signs : Rule (ℕ × Expr)) → Makes Signed signs → Makes E (grammar.expression_by signs)
makes-expression signs reads = makes-ranked (grammar.unary_by signs) (makes-unary signs reads) 6

makes-sign_by : (behind : Rule (ℕ × Expr)) (unsigned : Rule Expr) → Makes Signed behind → Makes E unsigned → (kind : Kind) → Makes Signed (grammar.sign_by behind unsigned kind)
makes-sign_by behind unsigned h i k.Minus = h
makes-sign_by behind unsigned h i _ = makes-then E Signed unsigned (λ inner. pure (0, inner)) i (λ inner j. makes-pure Signed (0, inner) j)

makes-union : (d : ℕ) (b : Bindings) (depth : ℕ) (inside : Rule Expr) → Makes E inside → Makes E (grammar.union_of d b depth inside)
makes-union d b depth inside h = makes-chain (primary.operand d b (open_bracket depth) inside) (makes-operand d b (open_bracket depth) inside h) 0

makes-one_more : (fewer : Rule (ℕ × Expr)) → Makes Signed fewer → Makes Signed (grammar.one_more fewer)
makes-one_more fewer h = makes-then Signed Signed (pass_next >> fewer) (λ found. pure (suc found.0, found.1)) (makes-after Signed pass_next (λ u. fewer) (λ u. h)) (λ found i. makes-pure Signed (suc found.0, found.1) i)

makes-signed : (d : ℕ) (b : Bindings) (depth : ℕ) → Makes Signed (grammar.signed d b depth)
unfolding grammar.signed
makes-signed d b zero = makes-after Signed next_kind (grammar.sign_by (refuse Deep) (grammar.union_of d b zero (refuse Deep))) (λ kind. makes-sign_by (refuse Deep) (grammar.union_of d b zero (refuse Deep)) (λ ts rest a e. cc e) (makes-union d b zero (refuse Deep) (λ ts rest a e. cc e)) kind)
makes-signed d b (suc depth) = makes-after Signed next_kind (grammar.sign_by (grammar.one_more (grammar.signed d b depth)) (grammar.union_of d b (suc depth) (grammar.expression_by (grammar.signed d b depth)))) (λ kind.
    makes-sign_by (grammar.one_more (grammar.signed d b depth)) (grammar.union_of d b (suc depth) (grammar.expression_by (grammar.signed d b depth)))
    (makes-one_more (grammar.signed d b depth) (makes-signed d b depth)) (makes-union d b (suc depth) (grammar.expression_by (grammar.signed d b depth)) (makes-expression (grammar.signed d b depth) (makes-signed d b depth))) kind)

whole-tree : (tree : Expr) (kind : Kind) (left : List Token) (x : Expr) → grammar.whole_by tree kind left ≡ Ok x → tree ≡ x
whole-tree tree k.End left x h = cc h
whole-tree tree _ left x h = cc h

pub read_as_made : ReadAsMade
read_as_made d b text x h = by (nat_lt expression_limit (length text)) h
  where
    of : (o : Outcome Expr) → grammar.expression_by (grammar.signed d b nesting_limit) (tokens_of text) ≡ o → grammar.whole o ≡ Ok x → E x
    of (Ok p) i j = subst E (whole-tree p.0 (kind_of p.1) p.1 x j) (makes-expression (grammar.signed d b nesting_limit) (makes-signed d b nesting_limit) (tokens_of text) p.1 p.0 i)
    of (Err e) i j = cc j

    by : (c : Bool) → (if c then Err (fault.Expr 0 Long) else grammar.whole (grammar.expression_by (grammar.signed d b nesting_limit) (tokens_of text))) ≡ Ok x → E x
    by true i = cc i
    by false i = of (grammar.expression_by (grammar.signed d b nesting_limit) (tokens_of text)) refl i

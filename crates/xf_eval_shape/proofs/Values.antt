-- The nodes of the value of an expression over the shape, one level of the syntax at a time.
use Rattle.std.proofs.Common.{◌≡◌, ℕ, Bool, true, List, [], ◌∷◌, ◌++◌, map, Option, Some, None, option_map, refl, sym, ap, ◌∙◌}
use Rattle.std.specs.Prelude.{is_some}
use Rattle.xf_def_syntax.specs.declared.expr.Expr.{Expr}
use Rattle.xf_def_syntax.specs.declared.expr.Expr.TheVariants as e
use Rattle.xf_def_syntax.specs.declared.expr.Link.{Link}
use Rattle.xf_def_syntax.specs.declared.expr.Operator.TheVariants.{Union}
use Rattle.xf_def_forest.specs.declared.content.Node.{Node}
use Rattle.xf_funcs.proofs.CallLaws.{without_a_limit}
use Rattle.xf_def_xpath.specs.declared.context.Context.{Context}
use Rattle.xf_def_xpath.specs.declared.value.Value.{Value}
use Rattle.xf_def_xpath.specs.declared.value.Value.TheVariants.{Nodes, Text}
use Rattle.xf_def_xpath.specs.Binding.{as_list, bound_nodes}
use Rattle.xf_def_forest.specs.Shape.{shape_of}
use Rattle.xf_def_xpath.specs.Conversions.{nodes_of, string_of}
use Rattle.xf_def_xpath.specs.Functions.{called, instance_id, set_of, text_value}
use Rattle.xf_def_xpath.specs.Given.{Given, document_of}
use Rattle.xf_def_xpath.specs.Meaning.{expr_meaning, focus_of, link_meaning, meaning, meaning_of_link, walk_of}
use Rattle.xf_def_xpath.specs.Operators.{chained, combined, linked}
use Rattle.xf_def_xpath.specs.Setting.{Setting, Focus, LinkMeaning, Meaning, Walk, ◌>>=◌, in_order}
use Rattle.xf_def_xpath.specs.Table.{function_at}
use Rattle.xf_def_syntax.specs.declared.expr.Expr.TheOpen.{Expr-F}
use Rattle.xf_def_syntax.specs.declared.expr.Expr.TheFolds.{map-Expr}
use Rattle.xf_def_syntax.specs.declared.expr.Start.{Start}
use Rattle.xf_def_syntax.specs.declared.expr.Step.{Step}
use Rattle.xf_def_forest.proofs.BackLaws.{and-true}
use Rattle.xf_def_values.specs.Conversions.{Decimal}
use Rattle.xf_def_xpath.specs.Exact.{Facts, call_facts}
use Rattle.xf_def_xpath.specs.Steps.{begun, kept_by_all, step_walk, walked}
use Rattle.xf_def_xpath.proofs.Equations.{meaning-Call, meaning-Chain, meaning-Filter, meaning-From, meaning-Path}
use Rattle.xf_def_xpath.proofs.PairKeeps.{pair_keeps}
use Rattle.xf_def_xpath.proofs.VisitFacts.{no, some-same, none-some}
use Rattle.xf_eval.specs.declared.kinds.Kind.{Kind}
use Rattle.xf_eval.specs.declared.kinds.Kind.TheVariants as kind
use Rattle.xf_eval.specs.Kinds.{function_in}
use Rattle.xf_eval_shape.specs.Fixed.{Fixed, LinkFixed, begins_literal, call_fixed, expr_fixed, fixed_of, is_fixed, link_fixed, step_fixed, told}
use Rattle.xf_eval_shape.proofs.FixedEquations.{fixed-Call, fixed-Literal, fixed-Negated, fixed-Number}
use Rattle.xf_def_xpath.proofs.WithoutLimit.{NoLimit, always}
use Rattle.xf_eval_shape.specs.Bound.{CallGives, Gives, document_by, literal_id}
use Rattle.xf_eval_shape.specs.Over.{nodes_at, set_over, shape_at}
use Rattle.xf_eval_shape.proofs.Plainly.{plain-nodes}

pub no-limit : (given : Given) (nodes : List Node) (context : Context) → NoLimit (shape_at given nodes context)
no-limit given nodes context = record { limit = refl; total = λ code ps. without_a_limit given.decimals code ps }

pub has-value : (e : Expr) (given : Given) (nodes : List Node) (context : Context) (c : Focus) → is_some (meaning e (shape_at given nodes context) c) ≡ true
has-value e given nodes context c = always e (shape_at given nodes context) (no-limit given nodes context) c

-- ---- what nodes are given

pub of-value : (m : Option Value) (ks : List ℕ) → option_map nodes_of m ≡ Some ks → (v : Value) × (m ≡ Some v) × (nodes_of v ≡ ks)
of-value None ks h = none-some h
of-value (Some v) ks h = (v, refl, some-same h)

-- a chain of nodes behind a value
pub behind-value : (m : Option Value) (k : List ℕ → Option (List ℕ)) (ks ns : List ℕ) → option_map nodes_of m ≡ Some ks → k ks ≡ Some ns → option_map nodes_of (option_map Nodes (m >>= λ v. k (nodes_of v))) ≡ Some ns
behind-value m k ks ns h i =
    let v = of-value m ks h in
    ap (λ x. option_map nodes_of (option_map Nodes (x >>= λ w. k (nodes_of w)))) v.1 ∙ ap (λ x. option_map nodes_of (option_map Nodes (k x))) v.2 ∙ ap (λ x. option_map nodes_of (option_map Nodes x)) i

pub of-nodes : (m : Option (List ℕ)) (ns : List ℕ) → m ≡ Some ns → option_map nodes_of (option_map Nodes m) ≡ Some ns
of-nodes m ns h = ap (λ x. option_map nodes_of (option_map Nodes x)) h

-- operators behind a value, where the whole has one
pub behind-chain : (m : Option Value) (k : Value → Option Value) (ks ns : List ℕ) → option_map nodes_of m ≡ Some ks → ((v : Value) → nodes_of v ≡ ks → Gives ns (k v)) → is_some (m >>= k) ≡ true → option_map nodes_of (m >>= k) ≡ Some ns
behind-chain m k ks ns h g a = by (m >>= k) refl a
  where
    by : (x : Option Value) → (m >>= k) ≡ x → is_some x ≡ true → option_map nodes_of x ≡ Some ns
    by None i j = no j
    by (Some w) i j = let v = of-value m ks h in ap Some (g v.0 v.2 w (sym (ap (λ y. y >>= k) v.1) ∙ i))

-- ---- operators

pub union-gives : (s : Setting) (c : Focus) (right : Meaning) (ks ls : List ℕ) → option_map nodes_of (right s c) ≡ Some ls → (v : Value) → nodes_of v ≡ ks → Gives (in_order s.all (ks ++ ls)) (linked Union v right s c)
union-gives s c right ks ls h v i w j =
    let u = of-value (right s c) ls h in
    ap nodes_of (sym (some-same (sym (ap (λ m. m >>= combined Union s v) u.1) ∙ j)))
    ∙ ap (λ l. in_order s.all (l ++ nodes_of u.0)) i
    ∙ ap (λ l. in_order s.all (ks ++ l)) u.2

-- ---- literals

abbrev LiteralLaw : Fixed → Meaning → Type 0
LiteralLaw f m = (text : List ℕ) → f.literal ≡ Some text → (s : Setting) (c : Focus) → m s c ≡ text_value s text

literal-level : (y : Expr-F ((f : Fixed) × (m : Meaning) × LiteralLaw f m) ((l : LinkFixed) × (m : LinkMeaning) × (true ≡ true)) ((b : Bool) × (m : Walk) × (true ≡ true))) →
    LiteralLaw (expr_fixed (map-Expr _ _ _ Fixed LinkFixed Bool (λ k. k.0) (λ k. k.0) (λ k. k.0) y)) (expr_meaning (map-Expr _ _ _ Meaning LinkMeaning Walk (λ k. k.1) (λ k. k.1) (λ k. k.1) y))
literal-level (Expr-F.Number place k) = λ text h. none-some h
literal-level (Expr-F.Literal place written) = λ text h s c. ap (text_value s) (some-same h)
literal-level (Expr-F.Call place code ks) = λ text h. none-some h
literal-level (Expr-F.Negated place signs k) = λ text h. none-some h
literal-level (Expr-F.Chain k ls) = λ text h. none-some h
literal-level (Expr-F.Filter k ks) = λ text h. none-some h
literal-level (Expr-F.Path place start ks) = λ text h. none-some h
literal-level (Expr-F.From k ks) = λ text h. none-some h

literal-law : (x : Expr) → LiteralLaw (fixed_of x) (meaning x)
literal-law = pair_keeps Fixed LinkFixed Bool expr_fixed link_fixed step_fixed Meaning LinkMeaning Walk expr_meaning link_meaning step_walk LiteralLaw (λ l m. true ≡ true) (λ b m. true ≡ true) literal-level (λ y. refl) (λ y. refl)

-- ---- every level

module _ (given : Given) (nodes : List Node) (context : Context) where
  abbrev s : Setting
  s = shape_at given nodes context

  abbrev c : Focus
  c = focus_of context

  abbrev NodesAre : Expr → List ℕ → Type 0
  NodesAre e ns = nodes_at given nodes e context ≡ Some ns

  pub plain-are : (x : Expr) → is_fixed x ≡ true → (fixed_of x).is_plain ≡ true → NodesAre x []
  plain-are x h i = plain-nodes x h i s c (has-value x given nodes context c)

  pub number-are : (place : ℕ) (k : Decimal) → NodesAre (e.Number place k) []
  number-are place k = plain-are (e.Number place k) (ap (λ (f : Fixed). f.is_fixed) (fixed-Number place k)) (ap (λ (f : Fixed). f.is_plain) (fixed-Number place k))

  pub literal-are : (place : ℕ) (text : List ℕ) → NodesAre (e.Literal place text) []
  literal-are place text = plain-are (e.Literal place text) (ap (λ (f : Fixed). f.is_fixed) (fixed-Literal place text)) (ap (λ (f : Fixed). f.is_plain) (fixed-Literal place text))

  pub negated-are : (place signs : ℕ) (operand : Expr) → is_fixed (e.Negated place signs operand) ≡ true → NodesAre (e.Negated place signs operand) []
  negated-are place signs operand h = plain-are (e.Negated place signs operand) h (ap (λ (f : Fixed). f.is_plain) (fixed-Negated place signs operand))

  pub chain-are : (first : Expr) (links : List Link) (ks ns : List ℕ) → NodesAre first ks → ((v : Value) → nodes_of v ≡ ks → Gives ns (chained (map meaning_of_link links) v s c)) → NodesAre (e.Chain first links) ns
  chain-are first links ks ns h g =
      let same = ap (λ (m : Meaning). m s c) (meaning-Chain first links) in
      ap (option_map nodes_of) same
      ∙ behind-chain (meaning first s c) (λ v. chained (map meaning_of_link links) v s c) ks ns h g (ap is_some (sym same) ∙ has-value (e.Chain first links) given nodes context c)

  pub filter-are : (first : Expr) (predicates : List Expr) (ks ns : List ℕ) → NodesAre first ks → kept_by_all s (map meaning predicates) ks ≡ Some ns → NodesAre (e.Filter first predicates) ns
  filter-are first predicates ks ns h i = ap (λ (m : Meaning). option_map nodes_of (m s c)) (meaning-Filter first predicates) ∙ behind-value (meaning first s c) (kept_by_all s (map meaning predicates)) ks ns h i

  pub path-are : (place : ℕ) (start : Start) (steps : List Step) (ks ns : List ℕ) → ks ≡ begun start s c → walked s (map walk_of steps) ks ≡ Some ns → NodesAre (e.Path place start steps) ns
  path-are place start steps ks ns h i = ap (λ (m : Meaning). option_map nodes_of (m s c)) (meaning-Path place start steps) ∙ of-nodes (walked s (map walk_of steps) (begun start s c)) ns (ap (walked s (map walk_of steps)) (sym h) ∙ i)

  pub from-are : (first : Expr) (steps : List Step) (ks ns : List ℕ) → NodesAre first ks → walked s (map walk_of steps) ks ≡ Some ns → NodesAre (e.From first steps) ns
  from-are first steps ks ns h i = ap (λ (m : Meaning). option_map nodes_of (m s c)) (meaning-From first steps) ∙ behind-value (meaning first s c) (walked s (map walk_of steps)) ks ns h i

  -- ---- calls

  literal-meaning : (x : Expr) (text : List ℕ) → (fixed_of x).literal ≡ Some text → meaning x s c ≡ Some (Text text)
  literal-meaning x text h = literal-law x text h s c

  instance-id : (arguments : List Expr) → begins_literal (map fixed_of arguments) ≡ true → (id : List ℕ) × (literal_id arguments ≡ Some id) × (instance_id (map meaning arguments) s c ≡ Some id)
  instance-id [] h = ([], refl, refl)
  instance-id (x ∷ xs) h = by (fixed_of x).literal refl h
    where
      by : (m : Option (List ℕ)) → (fixed_of x).literal ≡ m → is_some m ≡ true → (id : List ℕ) × ((fixed_of x).literal ≡ Some id) × ((meaning x s c >>= string_of s) ≡ Some id)
      by None i j = no j
      by (Some text) i j = (text, i, ap (λ m. m >>= string_of s) (literal-meaning x text i))

  set-nodes : (m : Option ℕ) → nodes_of (set_of m) ≡ as_list m
  set-nodes None = refl
  set-nodes (Some n) = refl

  -- by kinds of functions
  pub call-are : (k : Kind) (place code : ℕ) (arguments : List Expr) → function_in k ≡ function_at code → is_fixed (e.Call place code arguments) ≡ true → (ns : List ℕ) → CallGives k given arguments context ns → NodesAre (e.Call place code arguments) ns
  call-are k place code arguments f h ns g = by k f g
    where
      equation : nodes_at given nodes (e.Call place code arguments) context ≡ option_map nodes_of (called (function_at code) code (map meaning arguments) s c)
      equation = ap (λ (m : Meaning). option_map nodes_of (m s c)) (meaning-Call place code arguments)

      fixed : call_fixed (function_at code) (map fixed_of arguments) ≡ true
      fixed = sym (ap (λ (x : Fixed). x.is_fixed) (fixed-Call place code arguments)) ∙ h

      plainly : (k : Kind) → function_in k ≡ function_at code → ((xs : List Facts) → (call_facts (function_in k) xs).is_plain ≡ true) → ns ≡ [] → NodesAre (e.Call place code arguments) ns
      plainly k f p i = plain-are (e.Call place code arguments) h (ap (λ (x : Fixed). x.is_plain) (fixed-Call place code arguments) ∙ ap (λ g. (call_facts g (map told (map fixed_of arguments))).is_plain) (sym f) ∙ p _) ∙ ap Some (sym i)

      by : (k : Kind) → function_in k ≡ function_at code → CallGives k given arguments context ns → NodesAre (e.Call place code arguments) ns
      by kind.Current f i = equation ∙ ap (λ g. option_map nodes_of (called g code (map meaning arguments) s c)) (sym f) ∙ ap Some (sym i)
      by kind.Instance f i =
          let p = and-true (begins_literal (map fixed_of arguments)) _ (ap (λ g. call_fixed g (map fixed_of arguments)) f ∙ fixed) in
          let id = instance-id arguments p.0 in
          equation
          ∙ ap (λ g. option_map nodes_of (called g code (map meaning arguments) s c)) (sym f)
          ∙ ap (λ m. option_map nodes_of (option_map (λ x. set_of (document_of s.model x s.given.documents)) m)) id.2
          ∙ ap Some (set-nodes (document_of s.model id.0 s.given.documents) ∙ sym (i ∙ ap (λ m. as_list (document_by given context.model m)) id.1))
      by kind.Event f i = no (ap (λ g. call_fixed g (map fixed_of arguments)) f ∙ fixed)
      by kind.Asking f i = plainly kind.Asking f (λ xs. refl) i
      by kind.Plainly f i = plainly kind.Plainly f (λ xs. refl) i
      by kind.Owning f i = plainly kind.Owning f (λ xs. refl) i
      by kind.Boolean f i = plainly kind.Boolean f (λ xs. refl) i
      by kind.Not f i = plainly kind.Not f (λ xs. refl) i
      by (kind.Truth b) f i = plainly (kind.Truth b) f (λ xs. refl) i
      by kind.Choosing f i = plainly kind.Choosing f (λ xs. refl) i
      by kind.Branching f i = plainly kind.Branching f (λ xs. refl) i
      by kind.Counting f i = plainly kind.Counting f (λ xs. refl) i
      by kind.CountingFilled f i = plainly kind.CountingFilled f (λ xs. refl) i
      by kind.Adding f i = plainly kind.Adding f (λ xs. refl) i
      by kind.Averaging f i = plainly kind.Averaging f (λ xs. refl) i
      by kind.Greatest f i = plainly kind.Greatest f (λ xs. refl) i
      by kind.Least f i = plainly kind.Least f (λ xs. refl) i
      by kind.LocalName f i = plainly kind.LocalName f (λ xs. refl) i
      by kind.Name f i = plainly kind.Name f (λ xs. refl) i
      by kind.Namespace f i = plainly kind.Namespace f (λ xs. refl) i
      by kind.Number f i = plainly kind.Number f (λ xs. refl) i
      by kind.Text f i = plainly kind.Text f (λ xs. refl) i
      by kind.Index f i = plainly kind.Index f (λ xs. refl) i
      by kind.Last f i = plainly kind.Last f (λ xs. refl) i
      by kind.Position f i = plainly kind.Position f (λ xs. refl) i

-- what a bind selects, by the nodes of its value
pub set-of : (given : Given) (nodes : List Node) (x : Expr) (context : Context) (ns : List ℕ) → nodes_at given nodes x context ≡ Some ns → set_over given nodes x context ≡ Some (bound_nodes (shape_of nodes) ns)
set-of given nodes x context ns i = by (meaning x (shape_at given nodes context) (focus_of context)) i
  where
    by : (m : Option Value) → option_map nodes_of m ≡ Some ns → option_map (λ v. bound_nodes (shape_of nodes) (nodes_of v)) m ≡ Some (bound_nodes (shape_of nodes) ns)
    by None j = none-some j
    by (Some v) j = ap (λ k. Some (bound_nodes (shape_of nodes) k)) (some-same j)

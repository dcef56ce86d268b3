-- What an expression reads are no texts: a text that is asked stands for its parent.
use Rattle.std.proofs.Common.{◌≡◌, ℕ, zero, suc, ◌==◌, Bool, true, false, not, List, [], ◌∷◌, ◌++◌, map, Option, Some, None, option_map, unwrap_or, if◌then◌else◌, refl, sym, ap, subst, inl, inr}
use Rattle.std.specs.List.{flat_map}
use Rattle.std.proofs.lemmas.Bool.{eqb-true}
use Rattle.xf_name.specs.declared.axis.Axis.{Axis}
use Rattle.xf_name.specs.declared.axis.Axis.TheVariants.{Child, Attribute, Self_, Parent, Ancestor, AncestorOrSelf, Descendant, DescendantOrSelf, FollowingSibling, PrecedingSibling}
use Rattle.xf_def_syntax.specs.declared.expr.Expr.{Expr}
use Rattle.xf_def_syntax.specs.declared.expr.Expr.TheOpen.{Expr-F, Step-F}
use Rattle.xf_def_syntax.specs.declared.expr.Expr.TheFolds.{map-Expr, map-Step}
use Rattle.xf_def_syntax.specs.declared.expr.Operator.{Operator}
use Rattle.xf_def_syntax.specs.declared.expr.Operator.TheVariants.{Or, And, Equal, NotEqual, Less, LessOrEqual, Greater, GreaterOrEqual, Add, Subtract, Multiply, Divide, Modulo, Union}
use Rattle.xf_def_forest.specs.Forest.{is_text}
use Rattle.xf_def_forest.specs.Visit.{Visit, has, first_of}
use Rattle.xf_def_xpath.specs.Setting.{Setting, Focus}
use Rattle.xf_def_xpath.specs.Steps.{begun, begun_at}
use Rattle.xf_def_xpath.specs.Table.{Function, function_at}
use Rattle.xf_def_xpath.specs.Table as of
use Rattle.xf_def_xpath.specs.Asked.{Asked, Trace, LinkTrace, WalkTrace, found, as_list, parent_in, reader_of, read_for, tightly, both, as_plain, with_read, all_read, asked_first, converted}
use Rattle.xf_def_xpath.specs.AskedSteps.{kind_read, tells_kinds, is_pair, read_if, step_asked, walks_asked}
use Rattle.xf_def_xpath.specs.AskedCalls as asked
use Rattle.xf_def_xpath.specs.Reads.{expr_trace, link_trace, step_trace, trace}
use Rattle.xf_def_xpath.specs.Agree.{untexted, AreVisits}
use Rattle.xf_def_xpath.proofs.Keeps.{fold_keeps}
use Rattle.xf_def_xpath.proofs.VisitFacts.{or-cases, no, none-some, found-number, found-in}
use Rattle.xf_def_xpath.proofs.SameKept.{has-append}
use Rattle.xf_def_xpath.proofs.BelowAgree.{flat-has}

-- a node that is no text
abbrev pub IsSolid : List Visit → ℕ → Type 0
IsSolid all k = (x : Visit) × (found k (untexted all) ≡ Some x)

abbrev pub AreSolid : List Visit → List ℕ → Type 0
AreSolid all ns = (k : ℕ) → has k ns ≡ true → IsSolid all k

-- visits in which each text stands in a node
pub record AreHung (all : List Visit) : Type 0 where
  pub visits : AreVisits all
  pub texts : (k : ℕ) (x : Visit) → found k all ≡ Some x → is_text x.content ≡ true → x.above ≡ [] → ⊥

opened : (m : Option Visit) (ns : List ℕ) → option_map (λ (z : Visit). z.above) m ≡ Some ns → (z : Visit) × (m ≡ Some z)
opened None ns h = none-some h
opened (Some z) ns h = (z, refl)

module _ (all : List Visit) where
  none-solid : AreSolid all []
  none-solid k i = no i

  joined-solid : (ns ms : List ℕ) → AreSolid all ns → AreSolid all ms → AreSolid all (ns ++ ms)
  joined-solid ns ms i j k l = elim (has-append k ns ms l) [ inl a ↦ i k a | inr b ↦ j k b ]

  flat-solid : (f : ℕ → List ℕ) (ns : List ℕ) → ((n : ℕ) → AreSolid all (f n)) → AreSolid all (flat_map f ns)
  flat-solid f ns h k i = let n = flat-has f k ns i in h n.0 k n.2

  one-solid : (r : ℕ) → IsSolid all r → AreSolid all (r ∷ [])
  one-solid r h k i = elim (or-cases (k == r) false i) [ inl a ↦ subst (IsSolid all) (sym (eqb-true k r a)) h | inr b ↦ no b ]

  if-solid : (b : Bool) (ns : List ℕ) → AreSolid all ns → AreSolid all (read_if b ns)
  if-solid true ns h = h
  if-solid false ns h = none-solid

  module _ (h : AreHung all) where
    parent-of : (n : ℕ) (x : Visit) (above : List ℕ) → found n all ≡ Some x → x.above ≡ above → AreSolid all (as_list (first_of above))
    parent-of n x [] e i = none-solid
    parent-of n x (p ∷ ps) e i = one-solid p (opened (found p (untexted all)) ps (h.visits.closed n p ps x e i))

    around-solid : (n : ℕ) (m : Option Visit) → found n all ≡ m → AreSolid all (parent_in m)
    around-solid n None e = none-solid
    around-solid n (Some x) e = parent-of n x x.above e refl

    itself-solid : (n : ℕ) (x : Visit) → found n all ≡ Some x → is_text x.content ≡ false → IsSolid all x.number
    itself-solid n x e i = subst (IsSolid all) (sym (found-number n all x e)) (x, found-in (λ y. not (is_text y.content)) n all x h.visits.apart e (ap not i))

    text-parent : (n : ℕ) (x : Visit) (above : List ℕ) → found n all ≡ Some x → is_text x.content ≡ true → x.above ≡ above → IsSolid all (unwrap_or (first_of above) x.number)
    text-parent n x [] e t i = absurd (h.texts n x e t i)
    text-parent n x (p ∷ ps) e t i = opened (found p (untexted all)) ps (h.visits.closed n p ps x e i)

    read-at : (n : ℕ) (x : Visit) (b : Bool) → found n all ≡ Some x → is_text x.content ≡ b → IsSolid all (if b then unwrap_or (first_of x.above) x.number else x.number)
    read-at n x true e t = text-parent n x x.above e t refl
    read-at n x false e t = itself-solid n x e t

    reader-solid : (n : ℕ) (m : Option Visit) → found n all ≡ m → AreSolid all (reader_of m)
    reader-solid n None e = none-solid
    reader-solid n (Some x) e = one-solid _ (read-at n x (is_text x.content) e refl)

    read-solid : (n : ℕ) → AreSolid all (read_for all n)
    read-solid n = reader-solid n (found n all) refl

    kind-solid : (axis : Axis) (n : ℕ) → AreSolid all (kind_read axis all n)
    kind-solid Child n = read-solid n
    kind-solid Attribute n = none-solid
    kind-solid Self_ n = none-solid
    kind-solid Parent n = none-solid
    kind-solid Ancestor n = none-solid
    kind-solid AncestorOrSelf n = none-solid
    kind-solid Descendant n = read-solid n
    kind-solid DescendantOrSelf n = read-solid n
    kind-solid FollowingSibling n = around-solid n (found n all) refl
    kind-solid PrecedingSibling n = around-solid n (found n all) refl

-- ---- what is made of what is asked

abbrev pub ReadsSolid : Setting → Asked → Type 0
ReadsSolid s a = AreSolid s.all a.reads

module _ (s : Setting) (h : AreHung s.all) where
  both-solid : (a b : Asked) → ReadsSolid s a → ReadsSolid s b → ReadsSolid s (both a b)
  both-solid a b i j = joined-solid s.all a.reads b.reads i j

  with-solid : (ns : List ℕ) (a : Asked) → ReadsSolid s a → ReadsSolid s (with_read s.all ns a)
  with-solid ns a i = joined-solid s.all a.reads (flat_map (read_for s.all) ns) i (flat-solid s.all (read_for s.all) ns (read-solid s.all h))

  pub converted-solid : (a : Asked) → ReadsSolid s a → ReadsSolid s (converted s a)
  converted-solid a i = with-solid (asked_first a.is_loose a.set) a i

  all-solid : (a : Asked) → ReadsSolid s a → ReadsSolid s (all_read s a)
  all-solid a i = with-solid a.set a i

  beside-solid : (b : Bool) (a : Asked) → ReadsSolid s a → ReadsSolid s (asked.beside s b a)
  beside-solid true a i = i
  beside-solid false a i = all-solid a i

  computed-solid : (a b : Asked) → ReadsSolid s a → ReadsSolid s b → ReadsSolid s (asked.computed s a b)
  computed-solid a b i j = both-solid (converted s a) (converted s b) (converted-solid a i) (converted-solid b j)

  compared-solid : (a b : Asked) → ReadsSolid s a → ReadsSolid s b → ReadsSolid s (asked.asked_by_both s a b)
  compared-solid a b i j = both-solid (asked.beside s b.is_truth a) (asked.beside s a.is_truth b) (beside-solid b.is_truth a i) (beside-solid a.is_truth b j)

  either-solid : (a b : Asked) → ReadsSolid s a → ReadsSolid s b → ReadsSolid s (asked.either s a b)
  either-solid a b i j = joined-solid s.all a.reads b.reads i j

  link-solid : (o : Operator) (a b : Asked) → ReadsSolid s a → ReadsSolid s b → ReadsSolid s (asked.link_asked o s a b)
  link-solid Or a b i j = both-solid a b i j
  link-solid And a b i j = both-solid a b i j
  link-solid Equal a b i j = compared-solid a b i j
  link-solid NotEqual a b i j = compared-solid a b i j
  link-solid Less a b i j = compared-solid a b i j
  link-solid LessOrEqual a b i j = compared-solid a b i j
  link-solid Greater a b i j = compared-solid a b i j
  link-solid GreaterOrEqual a b i j = compared-solid a b i j
  link-solid Add a b i j = computed-solid a b i j
  link-solid Subtract a b i j = computed-solid a b i j
  link-solid Multiply a b i j = computed-solid a b i j
  link-solid Divide a b i j = computed-solid a b i j
  link-solid Modulo a b i j = computed-solid a b i j
  link-solid Union a b i j = either-solid a b i j

  step-solid : (step : Step-F Trace LinkTrace WalkTrace) (a : Asked) → ReadsSolid s a → ReadsSolid s (step_asked step s a)
  step-solid step a i =
      let from = begun_at step.is_below s.all a.set in
      let kinds = read_if (tells_kinds step.is_written step.axis step.test) (flat_map (kind_read step.axis s.all) from) in
      joined-solid s.all (a.reads ++ kinds) (read_if (is_pair step.is_below step.axis) (flat_map (read_for s.all) a.set))
      (joined-solid s.all a.reads kinds i (if-solid s.all (tells_kinds step.is_written step.axis step.test) _ (flat-solid s.all (kind_read step.axis s.all) from (kind-solid s.all h step.axis))))
      (if-solid s.all (is_pair step.is_below step.axis) _ (flat-solid s.all (read_for s.all) a.set (read-solid s.all h)))

-- ---- every expression

abbrev pub TraceSolid : Trace → Type 0
TraceSolid t = (s : Setting) → AreHung s.all → (c : Focus) → ReadsSolid s (t.asked s c)

abbrev WalkSolid : WalkTrace → Type 0
WalkSolid t = (s : Setting) → AreHung s.all → (a : Asked) → ReadsSolid s a → ReadsSolid s (t.asked s a)

abbrev Known : Type 0
Known = (t : Trace) × TraceSolid t

abbrev KnownLink : Type 0
KnownLink = (l : LinkTrace) × TraceSolid l.right

abbrev KnownWalk : Type 0
KnownWalk = (w : WalkTrace) × WalkSolid w

module _ (s : Setting) (h : AreHung s.all) (c : Focus) where
  abbrev traces : List Known → List Trace
  traces ts = map (λ (t : Known). t.0) ts

  argument-solid : (place : ℕ) (ts : List Known) → ReadsSolid s (asked.argument place (traces ts) s c)
  argument-solid place [] = none-solid s.all
  argument-solid zero (t ∷ ts) = t.1 s h c
  argument-solid (suc place) (t ∷ ts) = argument-solid place ts

  own-solid : (ts : List Known) → ReadsSolid s (asked.own_argument (traces ts) s c)
  own-solid [] = none-solid s.all
  own-solid (t ∷ ts) = t.1 s h c

  converted-all : (ts : List Known) → ReadsSolid s (asked.all_converted (traces ts) s c)
  converted-all [] = none-solid s.all
  converted-all (t ∷ ts) = both-solid s h (converted s (t.0.asked s c)) (asked.all_converted (traces ts) s c) (converted-solid s h (t.0.asked s c) (t.1 s h c)) (converted-all ts)

  call-solid : (g : Function) (code : ℕ) (ts : List Known) → ReadsSolid s (asked.call_asked g code (traces ts) s c)
  call-solid of.asking code ts = converted-all ts
  call-solid of.plainly code ts = converted-all ts
  call-solid of.owning code ts = converted-solid s h (asked.own_argument (traces ts) s c) (own-solid ts)
  call-solid of.boolean code ts = argument-solid 0 ts
  call-solid of.not code ts = argument-solid 0 ts
  call-solid (of.truth b) code ts = none-solid s.all
  call-solid of.choosing code ts = either-solid s h (as_plain (asked.argument 0 (traces ts) s c)) (asked.either s (asked.argument 1 (traces ts) s c) (asked.argument 2 (traces ts) s c)) (argument-solid 0 ts) (either-solid s h (asked.argument 1 (traces ts) s c) (asked.argument 2 (traces ts) s c) (argument-solid 1 ts) (argument-solid 2 ts))
  call-solid of.branching code ts = both-solid s h (asked.argument 0 (traces ts) s c) (asked.computed s (asked.argument 1 (traces ts) s c) (asked.argument 2 (traces ts) s c)) (argument-solid 0 ts) (computed-solid s h (asked.argument 1 (traces ts) s c) (asked.argument 2 (traces ts) s c) (argument-solid 1 ts) (argument-solid 2 ts))
  call-solid of.counting code ts = argument-solid 0 ts
  call-solid of.counting_filled code ts = all-solid s h (asked.argument 0 (traces ts) s c) (argument-solid 0 ts)
  call-solid of.adding code ts = all-solid s h (asked.argument 0 (traces ts) s c) (argument-solid 0 ts)
  call-solid of.averaging code ts = all-solid s h (asked.argument 0 (traces ts) s c) (argument-solid 0 ts)
  call-solid of.greatest code ts = all-solid s h (asked.argument 0 (traces ts) s c) (argument-solid 0 ts)
  call-solid of.least code ts = all-solid s h (asked.argument 0 (traces ts) s c) (argument-solid 0 ts)
  call-solid of.local_name code ts = own-solid ts
  call-solid of.name code ts = own-solid ts
  call-solid of.namespace code ts = own-solid ts
  call-solid of.number code ts = converted-solid s h (asked.own_argument (traces ts) s c) (own-solid ts)
  call-solid of.string code ts = converted-solid s h (asked.own_argument (traces ts) s c) (own-solid ts)
  call-solid of.current code ts = none-solid s.all
  call-solid of.event code ts = converted-all ts
  call-solid of.index code ts = converted-all ts
  call-solid of.instance code ts = converted-all ts
  call-solid of.last code ts = none-solid s.all
  call-solid of.position code ts = none-solid s.all

  links-solid : (ls : List KnownLink) (a : Asked) → ReadsSolid s a → ReadsSolid s (asked.links_asked (map (λ (l : KnownLink). l.0) ls) s c a)
  links-solid [] a i = i
  links-solid (l ∷ ls) a i = links-solid ls (asked.link_asked l.0.operator s a (l.0.right.asked s c)) (link-solid s h l.0.operator a (l.0.right.asked s c) i (l.1 s h c))

  walks-solid : (ws : List KnownWalk) (a : Asked) → ReadsSolid s a → ReadsSolid s (walks_asked s (map (λ (w : KnownWalk). w.0) ws) a)
  walks-solid [] a i = i
  walks-solid (w ∷ ws) a i = walks-solid ws (w.0.asked s a) (w.1 s h a i)

expr-level : (y : Expr-F Known KnownLink KnownWalk) → TraceSolid (expr_trace (map-Expr Known KnownLink KnownWalk Trace LinkTrace WalkTrace (λ e. e.0) (λ e. e.0) (λ e. e.0) y))
expr-level (Expr-F.Number place k) = λ s h c. none-solid s.all
expr-level (Expr-F.Literal place text) = λ s h c. none-solid s.all
expr-level (Expr-F.Call place code ts) = λ s h c. call-solid s h c (function_at code) code ts
expr-level (Expr-F.Negated place signs t) = λ s h c. converted-solid s h (t.0.asked s c) (t.1 s h c)
expr-level (Expr-F.Chain first links) = λ s h c. links-solid s h c links (first.0.asked s c) (first.1 s h c)
expr-level (Expr-F.Filter first ts) = λ s h c. first.1 s h c
expr-level (Expr-F.Path place start ws) = λ s h c. walks-solid s h c ws (tightly (begun start s c)) (none-solid s.all)
expr-level (Expr-F.From first ws) = λ s h c. walks-solid s h c ws (first.0.asked s c) (first.1 s h c)

step-level : (y : Step-F Known KnownLink KnownWalk) → WalkSolid (step_trace (map-Step Known KnownLink KnownWalk Trace LinkTrace WalkTrace (λ e. e.0) (λ e. e.0) (λ e. e.0) y))
step-level y = λ s h a i. step-solid s h (map-Step Known KnownLink KnownWalk Trace LinkTrace WalkTrace (λ e. e.0) (λ e. e.0) (λ e. e.0) y) a i

pub trace-solid : (e : Expr) → TraceSolid (trace e)
trace-solid = fold_keeps Trace LinkTrace WalkTrace expr_trace link_trace step_trace TraceSolid (λ l. TraceSolid l.right) WalkSolid expr-level (λ y. y.right.1) step-level

-- The nodes whose lists an expression looks at stand in the data, and so do the nodes that it can give: for the expressions of the law of two
-- forests, which ask no event.
use Rattle.std.proofs.Common.{◌≡◌, ℕ, zero, suc, ◌==◌, Bool, true, false, List, [], ◌∷◌, ◌++◌, map, Option, Some, None, option_map, unwrap_or, refl, sym, ap, ◌∙◌, subst, inl, inr}
use Rattle.std.specs.Prelude.{filter, ◌⊎◌}
use Rattle.std.specs.List.{flat_map}
use Rattle.std.proofs.lemmas.Bool.{eqb-true}
use Rattle.xf_name.specs.declared.axis.Axis.{Axis}
use Rattle.xf_name.specs.declared.axis.Axis.TheVariants.{Child, Attribute, Self_, Parent, Ancestor, AncestorOrSelf, Descendant, DescendantOrSelf, FollowingSibling, PrecedingSibling}
use Rattle.xf_def_syntax.specs.declared.expr.Expr.{Expr}
use Rattle.xf_def_syntax.specs.declared.expr.Expr.TheOpen.{Expr-F, Step-F}
use Rattle.xf_def_syntax.specs.declared.expr.Expr.TheFolds.{map-Expr, map-Step}
use Rattle.xf_def_syntax.specs.declared.expr.Operator.{Operator}
use Rattle.xf_def_syntax.specs.declared.expr.Operator.TheVariants.{Or, And, Equal, NotEqual, Less, LessOrEqual, Greater, GreaterOrEqual, Add, Subtract, Multiply, Divide, Modulo, Union}
use Rattle.xf_def_syntax.specs.declared.expr.Start.{Start}
use Rattle.xf_def_syntax.specs.declared.expr.Start.TheVariants.{Root, Context}
use Rattle.xf_def_forest.specs.Visit.{Visit, has, top_of}
use Rattle.xf_def_forest.proofs.OrderLaws.{Sub, filter-sub, map-sub}
use Rattle.xf_def_xpath.specs.declared.value.Value.{Value}
use Rattle.xf_def_xpath.specs.Given.{document_of}
use Rattle.xf_def_xpath.specs.Setting.{Setting, Focus, in_order}
use Rattle.xf_def_xpath.specs.Conversions.{nodes_of}
use Rattle.xf_def_xpath.specs.Functions.{set_of, instance_id}
use Rattle.xf_def_xpath.specs.Steps.{begun, begun_at, kept_by_all}
use Rattle.xf_def_xpath.specs.Table.{Function, function_at}
use Rattle.xf_def_xpath.specs.Table as of
use Rattle.xf_def_xpath.specs.Asked.{Asked, Trace, LinkTrace, WalkTrace, list_around, lists_below, plainly, tightly, both, as_truth, as_plain, with_read, all_read, asked_first, converted}
use Rattle.xf_def_xpath.specs.AskedSteps.{lists_of, read_if, if_tight, filtered, step_asked, walks_asked}
use Rattle.xf_def_xpath.specs.AskedCalls as asked
use Rattle.xf_def_xpath.specs.Reads.{expr_trace, link_trace, step_trace, trace}
use Rattle.xf_def_xpath.specs.Agree.{numbers_of}
use Rattle.xf_def_xpath.specs.Exact.{Facts, LinkFacts, all_placed, all_exact, call_facts, links_placed, links_exact, expr_facts, link_facts, step_facts, facts_of}
use Rattle.xf_def_xpath.proofs.PairKeeps.{pair_keeps}
use Rattle.xf_def_forest.proofs.BackLaws.{and-true}
use Rattle.xf_def_xpath.proofs.Options.{IfGiven, given}
use Rattle.xf_def_xpath.proofs.OrderLaws.{in_order-sub, kept_all-sub}
use Rattle.xf_def_xpath.proofs.VisitFacts.{or-cases, or-left, no}
use Rattle.xf_def_xpath.proofs.SameKept.{has-append}
use Rattle.xf_def_xpath.proofs.AxisAgree.{has-sub}
use Rattle.xf_def_xpath.proofs.BelowAgree.{flat-has}

-- these nodes stand in the data
abbrev pub AreIn : Setting → List ℕ → Type 0
AreIn s ns = (k : ℕ) → has k ns ≡ true → has k (numbers_of s.all) ≡ true

-- what surrounds an expression stands in the data, and so do parents
pub record Stands (s : Setting) (c : Focus) : Type 0 where
  pub node : has c.node (numbers_of s.all) ≡ true
  pub top : has (top_of c.node s.all) (numbers_of s.all) ≡ true
  pub current : has s.current (numbers_of s.all) ≡ true
  pub documents : (id : List ℕ) → AreIn s (nodes_of (set_of (document_of s.model id s.given.documents)))

abbrev pub HasParents : Setting → Type 0
HasParents s = (n : ℕ) → AreIn s (list_around s.all n)

pub record AskedStands (s : Setting) (a : Asked) : Type 0 where
  pub set : AreIn s a.set
  pub looks : AreIn s a.looks

module _ (s : Setting) (parents : HasParents s) where
  none-in : AreIn s []
  none-in k h = no h

  joined-in : (ns ms : List ℕ) → AreIn s ns → AreIn s ms → AreIn s (ns ++ ms)
  joined-in ns ms h i k j = elim (has-append k ns ms j) [ inl a ↦ h k a | inr b ↦ i k b ]

  flat-in : (f : ℕ → List ℕ) (ns : List ℕ) → ((n : ℕ) → has n ns ≡ true → AreIn s (f n)) → AreIn s (flat_map f ns)
  flat-in f ns h k i = let n = flat-has f k ns i in h n.0 n.1 k n.2

  sub-in : (ns : List ℕ) → Sub ns (numbers_of s.all) → AreIn s ns
  sub-in ns p k h = has-sub k p h

  ordered-in : (ns : List ℕ) → AreIn s (in_order s.all ns)
  ordered-in ns = sub-in (in_order s.all ns) (in_order-sub s.all ns)

  one-in : (n : ℕ) → has n (numbers_of s.all) ≡ true → AreIn s (n ∷ [])
  one-in n h k i = elim (or-cases (k == n) false i) [ inl a ↦ ap (λ m. has m (numbers_of s.all)) (eqb-true k n a) ∙ h | inr b ↦ no b ]

  below-in : (n : ℕ) → has n (numbers_of s.all) ≡ true → AreIn s (lists_below s.all n)
  below-in n h k i = elim (or-cases (k == n) (has k (numbers_of (filter (λ y. has n y.above) s.all))) i)
      [ inl a ↦ ap (λ m. has m (numbers_of s.all)) (eqb-true k n a) ∙ h | inr b ↦ has-sub k (map-sub (λ (y : Visit). y.number) (filter-sub (λ y. has n y.above) s.all)) b ]

  lists-in : (axis : Axis) (n : ℕ) → has n (numbers_of s.all) ≡ true → AreIn s (lists_of axis s.all n)
  lists-in Child n h = one-in n h
  lists-in Attribute n h = one-in n h
  lists-in Self_ n h = none-in
  lists-in Parent n h = none-in
  lists-in Ancestor n h = none-in
  lists-in AncestorOrSelf n h = none-in
  lists-in Descendant n h = below-in n h
  lists-in DescendantOrSelf n h = below-in n h
  lists-in FollowingSibling n h = parents n
  lists-in PrecedingSibling n h = parents n

  -- ---- what is made of what is asked

  plainly-stands : (reads looks : List ℕ) → AreIn s looks → AskedStands s (plainly reads looks)
  plainly-stands reads looks h = record { set = none-in; looks = h }

  plain-stands : (a : Asked) → AskedStands s a → AskedStands s (as_plain a)
  plain-stands a h = plainly-stands a.reads a.looks h.looks

  truth-stands : (a : Asked) → AskedStands s a → AskedStands s (as_truth a)
  truth-stands a h = record { set = none-in; looks = h.looks }

  both-stands : (a b : Asked) → AskedStands s a → AskedStands s b → AskedStands s (both a b)
  both-stands a b h i = plainly-stands _ _ (joined-in a.looks b.looks h.looks i.looks)

  read-stands : (ns : List ℕ) (a : Asked) → AreIn s ns → AskedStands s a → AskedStands s (with_read s.all ns a)
  read-stands ns a h i = plainly-stands _ _ (joined-in a.looks (flat_map (lists_below s.all) ns) i.looks (flat-in (lists_below s.all) ns (λ n j. below-in n (h n j))))

  first-in : (b : Bool) (ns : List ℕ) → AreIn s ns → AreIn s (asked_first b ns)
  first-in true ns h = h
  first-in false [] h = none-in
  first-in false (n ∷ ns) h = λ k i. elim (or-cases (k == n) false i) [ inl a ↦ h k (or-left (k == n) (has k ns) a) | inr b ↦ no b ]

  pub converted-stands : (a : Asked) → AskedStands s a → AskedStands s (converted s a)
  converted-stands a h = read-stands (asked_first a.is_loose a.set) a (first-in a.is_loose a.set h.set) h

  all-stands : (a : Asked) → AskedStands s a → AskedStands s (all_read s a)
  all-stands a h = read-stands a.set a h.set h

  beside-stands : (b : Bool) (a : Asked) → AskedStands s a → AskedStands s (asked.beside s b a)
  beside-stands true a h = h
  beside-stands false a h = all-stands a h

  computed-stands : (a b : Asked) → AskedStands s a → AskedStands s b → AskedStands s (asked.computed s a b)
  computed-stands a b h i = both-stands (converted s a) (converted s b) (converted-stands a h) (converted-stands b i)

  compared-stands : (a b : Asked) → AskedStands s a → AskedStands s b → AskedStands s (asked.asked_by_both s a b)
  compared-stands a b h i = truth-stands _ (both-stands (asked.beside s b.is_truth a) (asked.beside s a.is_truth b) (beside-stands b.is_truth a h) (beside-stands a.is_truth b i))

  either-stands : (a b : Asked) → AskedStands s a → AskedStands s b → AskedStands s (asked.either s a b)
  either-stands a b h i = record { set = ordered-in (a.set ++ b.set); looks = joined-in a.looks b.looks h.looks i.looks }

  link-stands : (o : Operator) (a b : Asked) → AskedStands s a → AskedStands s b → AskedStands s (asked.link_asked o s a b)
  link-stands Or a b h i = truth-stands (both a b) (both-stands a b h i)
  link-stands And a b h i = truth-stands (both a b) (both-stands a b h i)
  link-stands Equal a b h i = compared-stands a b h i
  link-stands NotEqual a b h i = compared-stands a b h i
  link-stands Less a b h i = compared-stands a b h i
  link-stands LessOrEqual a b h i = compared-stands a b h i
  link-stands Greater a b h i = compared-stands a b h i
  link-stands GreaterOrEqual a b h i = compared-stands a b h i
  link-stands Add a b h i = computed-stands a b h i
  link-stands Subtract a b h i = computed-stands a b h i
  link-stands Multiply a b h i = computed-stands a b h i
  link-stands Divide a b h i = computed-stands a b h i
  link-stands Modulo a b h i = computed-stands a b h i
  link-stands Union a b h i = either-stands a b h i

  -- ---- steps

  begun-in : (b : Bool) (ns : List ℕ) → AreIn s ns → AreIn s (begun_at b s.all ns)
  begun-in true ns h = ordered-in _
  begun-in false ns h = h

  if-in : (b : Bool) (ns : List ℕ) → AreIn s ns → AreIn s (read_if b ns)
  if-in true ns h = h
  if-in false ns h = none-in

  step-stands : (step : Step-F Trace LinkTrace WalkTrace) (a : Asked) → AskedStands s a → AskedStands s (step_asked step s a)
  step-stands step a h =
      let from : AreIn s (begun_at step.is_below s.all a.set) = begun-in step.is_below a.set h.set in
      record {
        set = ordered-in _;
        looks = joined-in (a.looks ++ flat_map (lists_of step.axis s.all) (begun_at step.is_below s.all a.set)) (read_if step.is_below (flat_map (lists_below s.all) a.set))
            (joined-in a.looks (flat_map (lists_of step.axis s.all) (begun_at step.is_below s.all a.set)) h.looks (flat-in (lists_of step.axis s.all) (begun_at step.is_below s.all a.set) (λ n i. lists-in step.axis n (from n i))))
            (if-in step.is_below (flat_map (lists_below s.all) a.set) (flat-in (lists_below s.all) a.set (λ n i. below-in n (h.set n i))));
      }

  kept-in : (m : Option (List ℕ)) (ns : List ℕ) → IfGiven (λ ks. Sub ks ns) m → AreIn s ns → AreIn s (unwrap_or m [])
  kept-in None ns h i = none-in
  kept-in (Some ks) ns (given p) i = λ k j. i k (has-sub k p j)

  filtered-stands : (ts : List Trace) (a : Asked) → AskedStands s a → AskedStands s (filtered s ts a)
  filtered-stands ts a h = record { set = kept-in (kept_by_all s (if_tight a.is_loose ts) a.set) a.set (kept_all-sub s (if_tight a.is_loose ts) a.set) h.set; looks = h.looks }

-- ---- calls, chains and paths

abbrev pub TraceStands : Trace → Type 0
TraceStands t = (s : Setting) → HasParents s → (c : Focus) → Stands s c → AskedStands s (t.asked s c)

abbrev WalkStands : WalkTrace → Type 0
WalkStands t = (s : Setting) → HasParents s → (a : Asked) → AskedStands s a → AskedStands s (t.asked s a)

abbrev is_event : Function → Bool
is_event of.event = true
is_event g = false

module _ (s : Setting) (parents : HasParents s) (c : Focus) (h : Stands s c) where
  abbrev Known : Type 0
  Known = (t : Trace) × TraceStands t

  abbrev traces : List Known → List Trace
  traces ts = map (λ (t : Known). t.0) ts

  argument-stands : (place : ℕ) (ts : List Known) → AskedStands s (asked.argument place (traces ts) s c)
  argument-stands place [] = plainly-stands s parents [] [] (none-in s parents)
  argument-stands zero (t ∷ ts) = t.1 s parents c h
  argument-stands (suc place) (t ∷ ts) = argument-stands place ts

  own-stands : (ts : List Known) → AskedStands s (asked.own_argument (traces ts) s c)
  own-stands [] = record { set = one-in s parents c.node h.node; looks = none-in s parents }
  own-stands (t ∷ ts) = t.1 s parents c h

  converted-all : (ts : List Known) → AskedStands s (asked.all_converted (traces ts) s c)
  converted-all [] = plainly-stands s parents [] [] (none-in s parents)
  converted-all (t ∷ ts) = both-stands s parents _ _ (converted-stands s parents (t.0.asked s c) (t.1 s parents c h)) (converted-all ts)

  nodes-in : {A : Type 0} (m : Option A) (f : A → Value) → ((x : A) → AreIn s (nodes_of (f x))) → AreIn s (asked.nodes_if (option_map f m))
  nodes-in None f i = none-in s parents
  nodes-in (Some x) f i = i x

  given-stands : (ns looks : List ℕ) (a : Asked) → AreIn s ns → AreIn s looks → AskedStands s a → AskedStands s (asked.with_nodes ns looks a)
  given-stands ns looks a i j k = record { set = i; looks = joined-in s parents a.looks looks k.looks j }

  call-stands : (g : Function) → is_event g ≡ false → (code : ℕ) (ts : List Known) → AskedStands s (asked.call_asked g code (traces ts) s c)
  call-stands of.asking i code ts = truth-stands s parents _ (converted-all ts)
  call-stands of.plainly i code ts = converted-all ts
  call-stands of.owning i code ts = converted-stands s parents _ (own-stands ts)
  call-stands of.boolean i code ts = truth-stands s parents _ (argument-stands 0 ts)
  call-stands of.not i code ts = truth-stands s parents _ (argument-stands 0 ts)
  call-stands (of.truth b) i code ts = record { set = none-in s parents; looks = none-in s parents }
  call-stands of.choosing i code ts = either-stands s parents _ _ (plain-stands s parents _ (argument-stands 0 ts)) (either-stands s parents _ _ (argument-stands 1 ts) (argument-stands 2 ts))
  call-stands of.branching i code ts = both-stands s parents _ _ (argument-stands 0 ts) (computed-stands s parents _ _ (argument-stands 1 ts) (argument-stands 2 ts))
  call-stands of.counting i code ts = plain-stands s parents _ (argument-stands 0 ts)
  call-stands of.counting_filled i code ts = all-stands s parents _ (argument-stands 0 ts)
  call-stands of.adding i code ts = all-stands s parents _ (argument-stands 0 ts)
  call-stands of.averaging i code ts = all-stands s parents _ (argument-stands 0 ts)
  call-stands of.greatest i code ts = all-stands s parents _ (argument-stands 0 ts)
  call-stands of.least i code ts = all-stands s parents _ (argument-stands 0 ts)
  call-stands of.local_name i code ts = plain-stands s parents _ (own-stands ts)
  call-stands of.name i code ts = plain-stands s parents _ (own-stands ts)
  call-stands of.namespace i code ts = plain-stands s parents _ (own-stands ts)
  call-stands of.number i code ts = converted-stands s parents _ (own-stands ts)
  call-stands of.string i code ts = converted-stands s parents _ (own-stands ts)
  call-stands of.current i code ts = record { set = one-in s parents s.current h.current; looks = none-in s parents }
  call-stands of.event i code ts = no (sym i)
  call-stands of.index i code ts = converted-all ts
  call-stands of.instance i code ts = given-stands _ _ _
      (nodes-in (instance_id (asked.meanings (traces ts)) s c) (λ id. set_of (document_of s.model id s.given.documents)) h.documents)
      (flat-in s parents (list_around s.all) _ (λ n j. parents n)) (converted-all ts)
  call-stands of.last i code ts = plainly-stands s parents [] [] (none-in s parents)
  call-stands of.position i code ts = plainly-stands s parents [] [] (none-in s parents)

  links-stand : (ls : List ((l : LinkTrace) × TraceStands l.right)) (a : Asked) → AskedStands s a → AskedStands s (asked.links_asked (map (λ (l : (l : LinkTrace) × TraceStands l.right). l.0) ls) s c a)
  links-stand [] a i = i
  links-stand (l ∷ ls) a i = links-stand ls _ (link-stands s parents l.0.operator a (l.0.right.asked s c) i (l.1 s parents c h))

  walks-stand : (ws : List ((t : WalkTrace) × WalkStands t)) (a : Asked) → AskedStands s a → AskedStands s (walks_asked s (map (λ (t : (t : WalkTrace) × WalkStands t). t.0) ws) a)
  walks-stand [] a i = record { set = i.set; looks = i.looks }
  walks-stand (t ∷ ws) a i = walks-stand ws (t.0.asked s a) (t.1 s parents a i)

  begun-stand : (start : Start) → AskedStands s (tightly (begun start s c))
  begun-stand Root = record { set = one-in s parents (top_of c.node s.all) h.top; looks = none-in s parents }
  begun-stand Context = record { set = one-in s parents c.node h.node; looks = none-in s parents }

-- ---- every expression that the law covers, and every one that goes by position

abbrev Covered : Facts → Type 0
Covered f = (f.is_exact ≡ true) ⊎ (f.is_placed ≡ true)

abbrev PairStands : Facts → Trace → Type 0
PairStands f t = Covered f → TraceStands t

abbrev LinkStands : LinkFacts → LinkTrace → Type 0
LinkStands l t = Covered l.right → TraceStands t.right

abbrev StepStands : Bool → WalkTrace → Type 0
StepStands b t = WalkStands t

abbrev Pair : Type 0
Pair = (f : Facts) × (t : Trace) × PairStands f t

abbrev LinkPair : Type 0
LinkPair = (l : LinkFacts) × (t : LinkTrace) × LinkStands l t

abbrev StepPair : Type 0
StepPair = (b : Bool) × (t : WalkTrace) × StepStands b t

abbrev SuchTrace : Type 0
SuchTrace = (t : Trace) × TraceStands t

exacts : (ks : List Pair) → all_exact (map (λ (k : Pair). k.0) ks) ≡ true → (ts : List SuchTrace) × (map (λ (t : SuchTrace). t.0) ts ≡ map (λ (k : Pair). k.1) ks)
exacts [] h = ([], refl)
exacts (k ∷ ks) h = let rest = exacts ks (and-true _ _ h).1 in ((k.1, k.2 (inl (and-true _ _ h).0)) ∷ rest.0, ap (λ l. k.1 ∷ l) rest.1)

placeds : (ks : List Pair) → all_placed (map (λ (k : Pair). k.0) ks) ≡ true → (ts : List SuchTrace) × (map (λ (t : SuchTrace). t.0) ts ≡ map (λ (k : Pair). k.1) ks)
placeds [] h = ([], refl)
placeds (k ∷ ks) h = let rest = placeds ks (and-true _ _ h).1 in ((k.1, k.2 (inr (and-true _ _ h).0)) ∷ rest.0, ap (λ l. k.1 ∷ l) rest.1)

abbrev CallStands : Function → ℕ → List Trace → Type 0
CallStands g code ts = (s : Setting) → HasParents s → (c : Focus) → Stands s c → AskedStands s (asked.call_asked g code ts s c)

call-such : (g : Function) → is_event g ≡ false → (code : ℕ) (ks : List Pair) → (ts : List SuchTrace) × (map (λ (t : SuchTrace). t.0) ts ≡ map (λ (k : Pair). k.1) ks) → CallStands g code (map (λ (k : Pair). k.1) ks)
call-such g i code ks such = subst (CallStands g code) such.1 (λ s p c h. call-stands s p c h g i code such.0)

by-exact : (g : Function) → is_event g ≡ false → (code : ℕ) (ks : List Pair) → all_exact (map (λ (k : Pair). k.0) ks) ≡ true → CallStands g code (map (λ (k : Pair). k.1) ks)
by-exact g i code ks h = call-such g i code ks (exacts ks h)

by-placed : (g : Function) → is_event g ≡ false → (code : ℕ) (ks : List Pair) → all_placed (map (λ (k : Pair). k.0) ks) ≡ true → CallStands g code (map (λ (k : Pair). k.1) ks)
by-placed g i code ks h = call-such g i code ks (placeds ks h)

call-covered : (g : Function) (code : ℕ) (ks : List Pair) → Covered (call_facts g (map (λ (k : Pair). k.0) ks)) → CallStands g code (map (λ (k : Pair). k.1) ks)
call-covered of.asking code ks (inl h) = by-exact of.asking refl code ks h
call-covered of.asking code ks (inr h) = by-placed of.asking refl code ks h
call-covered of.plainly code ks (inl h) = by-exact of.plainly refl code ks h
call-covered of.plainly code ks (inr h) = by-placed of.plainly refl code ks h
call-covered of.owning code ks (inl h) = by-exact of.owning refl code ks h
call-covered of.owning code ks (inr h) = by-placed of.owning refl code ks (and-true _ _ h).1
call-covered of.boolean code ks (inl h) = by-exact of.boolean refl code ks h
call-covered of.boolean code ks (inr h) = by-placed of.boolean refl code ks h
call-covered of.not code ks (inl h) = by-exact of.not refl code ks h
call-covered of.not code ks (inr h) = by-placed of.not refl code ks h
call-covered (of.truth b) code ks h = λ s p c i. call-stands s p c i (of.truth b) refl code []
call-covered of.choosing code ks (inl h) = by-exact of.choosing refl code ks (and-true _ _ h).0
call-covered of.choosing code ks (inr h) = by-placed of.choosing refl code ks h
call-covered of.branching code ks (inl h) = by-exact of.branching refl code ks h
call-covered of.branching code ks (inr h) = by-placed of.branching refl code ks h
call-covered of.counting code ks (inl h) = by-exact of.counting refl code ks h
call-covered of.counting code ks (inr h) = no h
call-covered of.counting_filled code ks (inl h) = by-exact of.counting_filled refl code ks h
call-covered of.counting_filled code ks (inr h) = no h
call-covered of.adding code ks (inl h) = by-exact of.adding refl code ks h
call-covered of.adding code ks (inr h) = no h
call-covered of.averaging code ks (inl h) = by-exact of.averaging refl code ks h
call-covered of.averaging code ks (inr h) = no h
call-covered of.greatest code ks (inl h) = by-exact of.greatest refl code ks h
call-covered of.greatest code ks (inr h) = no h
call-covered of.least code ks (inl h) = by-exact of.least refl code ks h
call-covered of.least code ks (inr h) = no h
call-covered of.local_name code ks (inl h) = by-exact of.local_name refl code ks h
call-covered of.local_name code ks (inr h) = no h
call-covered of.name code ks (inl h) = by-exact of.name refl code ks h
call-covered of.name code ks (inr h) = no h
call-covered of.namespace code ks (inl h) = by-exact of.namespace refl code ks h
call-covered of.namespace code ks (inr h) = no h
call-covered of.number code ks (inl h) = by-exact of.number refl code ks h
call-covered of.number code ks (inr h) = by-placed of.number refl code ks (and-true _ _ h).1
call-covered of.string code ks (inl h) = by-exact of.string refl code ks h
call-covered of.string code ks (inr h) = by-placed of.string refl code ks (and-true _ _ h).1
call-covered of.current code ks h = λ s p c i. call-stands s p c i of.current refl code []
call-covered of.event code ks (inl h) = no h
call-covered of.event code ks (inr h) = no h
call-covered of.index code ks (inl h) = no h
call-covered of.index code ks (inr h) = no h
call-covered of.instance code ks (inl h) = by-placed of.instance refl code ks h
call-covered of.instance code ks (inr h) = no h
call-covered of.last code ks h = λ s p c i. call-stands s p c i of.last refl code []
call-covered of.position code ks h = λ s p c i. call-stands s p c i of.position refl code []

abbrev SuchLink : Type 0
SuchLink = (l : LinkTrace) × TraceStands l.right

exact-links : (ls : List LinkPair) → links_exact (map (λ (l : LinkPair). l.0) ls) ≡ true → (ts : List SuchLink) × (map (λ (t : SuchLink). t.0) ts ≡ map (λ (l : LinkPair). l.1) ls)
exact-links [] h = ([], refl)
exact-links (l ∷ ls) h = let rest = exact-links ls (and-true _ _ h).1 in ((l.1, l.2 (inl (and-true _ _ h).0)) ∷ rest.0, ap (λ m. l.1 ∷ m) rest.1)

placed-links : (ls : List LinkPair) → links_placed (map (λ (l : LinkPair). l.0) ls) ≡ true → (ts : List SuchLink) × (map (λ (t : SuchLink). t.0) ts ≡ map (λ (l : LinkPair). l.1) ls)
placed-links [] h = ([], refl)
placed-links (l ∷ ls) h = let rest = placed-links ls (and-true _ _ h).1 in ((l.1, l.2 (inr (and-true _ _ (and-true _ _ h).0).0)) ∷ rest.0, ap (λ m. l.1 ∷ m) rest.1)

abbrev ChainStands : Trace → List LinkTrace → Type 0
ChainStands first ls = (s : Setting) → HasParents s → (c : Focus) → Stands s c → AskedStands s (asked.links_asked ls s c (first.asked s c))

chain-such : (first : Trace) → TraceStands first → (ls : List LinkPair) → (ts : List SuchLink) × (map (λ (t : SuchLink). t.0) ts ≡ map (λ (l : LinkPair). l.1) ls) → ChainStands first (map (λ (l : LinkPair). l.1) ls)
chain-such first k ls such = subst (ChainStands first) such.1 (λ s p c h. links-stand s p c h such.0 (first.asked s c) (k s p c h))

abbrev SuchWalk : Type 0
SuchWalk = (t : WalkTrace) × WalkStands t

such-walks : (ks : List StepPair) → (ts : List SuchWalk) × (map (λ (t : SuchWalk). t.0) ts ≡ map (λ (k : StepPair). k.1) ks)
such-walks [] = ([], refl)
such-walks (k ∷ ks) = let rest = such-walks ks in ((k.1, k.2) ∷ rest.0, ap (λ l. k.1 ∷ l) rest.1)

path-stands : (ks : List StepPair) (s : Setting) → HasParents s → (c : Focus) → Stands s c → (a : Asked) → AskedStands s a → AskedStands s (walks_asked s (map (λ (k : StepPair). k.1) ks) a)
path-stands ks s p c h a i = let such = such-walks ks in subst (λ ts. AskedStands s (walks_asked s ts a)) such.1 (walks-stand s p c h such.0 a i)

level-stands : (y : Expr-F Pair LinkPair StepPair) → PairStands (expr_facts (map-Expr Pair LinkPair StepPair Facts LinkFacts Bool (λ k. k.0) (λ k. k.0) (λ k. k.0) y)) (expr_trace (map-Expr Pair LinkPair StepPair Trace LinkTrace WalkTrace (λ k. k.1) (λ k. k.1) (λ k. k.1) y))
level-stands (Expr-F.Number place k) i = λ s p c h. plainly-stands s p [] [] (none-in s p)
level-stands (Expr-F.Literal place text) i = λ s p c h. plainly-stands s p [] [] (none-in s p)
level-stands (Expr-F.Call place code ks) i = call-covered (function_at code) code ks i
level-stands (Expr-F.Negated place signs k) (inl i) = λ s p c h. converted-stands s p (k.1.asked s c) (k.2 (inl i) s p c h)
level-stands (Expr-F.Negated place signs k) (inr i) = λ s p c h. converted-stands s p (k.1.asked s c) (k.2 (inr i) s p c h)
level-stands (Expr-F.Chain k ls) (inl i) = chain-such k.1 (k.2 (inl (and-true _ _ i).0)) ls (exact-links ls (and-true _ _ i).1)
level-stands (Expr-F.Chain k ls) (inr i) = chain-such k.1 (k.2 (inr (and-true _ _ i).0)) ls (placed-links ls (and-true _ _ i).1)
level-stands (Expr-F.Filter k ks) (inl i) = λ s p c h. filtered-stands s p _ (k.1.asked s c) (k.2 (inl (and-true _ _ i).0) s p c h)
level-stands (Expr-F.Filter k ks) (inr i) = no i
level-stands (Expr-F.Path place start ks) i = λ s p c h. path-stands ks s p c h (tightly (begun start s c)) (begun-stand s p c h start)
level-stands (Expr-F.From k ks) (inl i) = λ s p c h. path-stands ks s p c h (k.1.asked s c) (k.2 (inl (and-true _ _ i).0) s p c h)
level-stands (Expr-F.From k ks) (inr i) = no i

pub asked-stands : (e : Expr) → (facts_of e).is_exact ≡ true → TraceStands (trace e)
asked-stands e h = covered e (inl h)
  where
    covered : (x : Expr) → PairStands (facts_of x) (trace x)
    covered = pair_keeps Facts LinkFacts Bool expr_facts link_facts step_facts Trace LinkTrace WalkTrace expr_trace link_trace step_trace PairStands LinkStands StepStands
        level-stands (λ y. y.right.2) (λ y s p a i. step-stands s p (map-Step Pair LinkPair StepPair Trace LinkTrace WalkTrace (λ k. k.1) (λ k. k.1) (λ k. k.1) y) a i)

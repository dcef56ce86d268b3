-- A predicate that goes by position and size alone has over the shape the value that it has over the forest.
use Rattle.std.proofs.Common.{◌≡◌, ℕ, Bool, true, false, not, List, [], ◌∷◌, map, Option, Some, None, refl, sym, ap, ◌∙◌, subst}
use Rattle.xf_base.specs.Limits.{string_limit}
use Rattle.xf_def_syntax.specs.declared.expr.Expr.{Expr}
use Rattle.xf_def_syntax.specs.declared.expr.Expr.TheOpen.{Expr-F}
use Rattle.xf_def_syntax.specs.declared.expr.Expr.TheFolds.{map-Expr}
use Rattle.xf_def_forest.specs.Forest.{Forest}
use Rattle.xf_def_forest.specs.StringValue.{string_value}
use Rattle.xf_def_forest.specs.Shape.{shape_of}
use Rattle.xf_def_forest.proofs.BackLaws.{and-true, not-true}
use Rattle.xf_funcs.specs.Called.{called}
use Rattle.xf_funcs.proofs.CallLaws.{within_a_limit}
use Rattle.xf_def_xpath.specs.declared.context.Context.{Context}
use Rattle.xf_def_xpath.specs.declared.value.Value.{Value}
use Rattle.xf_def_xpath.specs.declared.value.Value.TheVariants.{Number}
use Rattle.xf_def_xpath.specs.Agree.{untexted}
use Rattle.xf_def_xpath.specs.Asked.{Trace, LinkTrace, WalkTrace}
use Rattle.xf_def_xpath.specs.Exact.{Facts, is_union, call_facts, links_placed}
use Rattle.xf_def_xpath.specs.Given.{Given}
use Rattle.xf_def_xpath.specs.Meaning.{meaning, setting_of}
use Rattle.xf_def_xpath.specs.Operators.{chained, signed}
use Rattle.xf_def_xpath.specs.Reads.{meaning_in, link_meaning_in, expr_trace, link_trace, step_trace, trace}
use Rattle.xf_def_xpath.specs.Setting.{Setting, Meaning, LinkMeaning, ◌>>=◌}
use Rattle.xf_def_xpath.specs.Steps.{is_true_at}
use Rattle.xf_def_xpath.specs.Functions as functions
use Rattle.xf_def_xpath.specs.Table.{function_at}
use Rattle.xf_def_xpath.proofs.AgreeCases.{Lawful, call-placed}
use Rattle.xf_def_xpath.proofs.AxisAgree.{Frame}
use Rattle.xf_def_xpath.proofs.Comparison.{Comparison, over_shape}
use Rattle.xf_def_xpath.proofs.Gives.{Gives, both, nothing, gives-then, gives-weaker, capped-gives}
use Rattle.xf_def_xpath.proofs.PairKeeps.{pair_keeps}
use Rattle.xf_def_xpath.proofs.PlacedLaws.{Placed, at, numbers, texts, mapped, chained-placed}
use Rattle.xf_def_xpath.proofs.TraceKeeps.{meaning-of_trace}
use Rattle.xf_def_xpath.proofs.UntextedLaws.{itself}
use Rattle.xf_def_xpath.proofs.VisitFacts.{no, some-same, none-some}
use Rattle.xf_eval_shape.specs.Fixed.{Fixed, LinkFixed, told, link_told, expr_fixed, link_fixed, step_fixed, fixed_of, is_placed}
use Rattle.xf_eval_shape.specs.Over.{shape_at}
use Rattle.xf_eval_shape.specs.Told.{IsTold}
use Rattle.xf_eval_shape.proofs.Shapes.{Sound, real, whole, real-visits, whole-visits, same-bare}

-- ---- by one induction over the syntax

module _ (w : Comparison) where
  abbrev Law : Fixed → Trace → Type 0
  Law f x = f.is_placed ≡ true → Placed w x.meaning

  abbrev LinkLaw : LinkFixed → LinkTrace → Type 0
  LinkLaw l x = (x.operator ≡ l.operator) × Law l.right x.right

  abbrev StepLaw : Bool → WalkTrace → Type 0
  StepLaw b x = true ≡ true

  abbrev Pair : Type 0
  Pair = (f : Fixed) × (x : Trace) × Law f x

  abbrev LinkPair : Type 0
  LinkPair = (l : LinkFixed) × (x : LinkTrace) × LinkLaw l x

  abbrev StepPair : Type 0
  StepPair = (b : Bool) × (x : WalkTrace) × StepLaw b x

  -- ---- calls

  abbrev Known : Type 0
  Known = (f : Facts) × (x : Trace) × Lawful w f x

  abbrev known : Pair → Known
  known k = (told k.0, k.1, record { placed = k.2; exact = λ h. no h; plain = λ h i. no i })

  facts-known : (ks : List Pair) → map (λ (k : Known). k.0) (map known ks) ≡ map told (map (λ (k : Pair). k.0) ks)
  facts-known [] = refl
  facts-known (k ∷ ks) = ap (λ l. told k.0 ∷ l) (facts-known ks)

  traces-known : (ks : List Pair) → map (λ (k : Known). k.1) (map known ks) ≡ map (λ (k : Pair). k.1) ks
  traces-known [] = refl
  traces-known (k ∷ ks) = ap (λ l. k.1 ∷ l) (traces-known ks)

  -- ---- chains

  abbrev Placing : Type 0
  Placing = (m : Meaning) × Placed w m

  abbrev PlacedLink : Type 0
  PlacedLink = (l : LinkMeaning) × (is_union l.operator ≡ false) × Placed w l.right

  placed-links : (ls : List LinkPair) → links_placed (map link_told (map (λ (l : LinkPair). l.0) ls)) ≡ true → (ps : List PlacedLink) × (map (λ (p : PlacedLink). p.0) ps ≡ map link_meaning_in (map (λ (l : LinkPair). l.1) ls))
  placed-links [] h = ([], refl)
  placed-links (l ∷ ls) h =
      let head = and-true (l.0.right.is_placed) (not (is_union l.0.operator)) (and-true _ _ h).0 in
      let rest = placed-links ls (and-true _ _ h).1 in
      ((link_meaning_in l.1, ap is_union l.2.0 ∙ not-true (is_union l.0.operator) head.1, l.2.1 head.0) ∷ rest.0, ap (λ m. link_meaning_in l.1 ∷ m) rest.1)

  chain-placed : (first : Placing) (ps : List PlacedLink) → Placed w (λ x c. first.0 x c >>= λ v. chained (map (λ (p : PlacedLink). p.0) ps) v x c)
  chain-placed first ps n n' n'' position size =
      gives-then (λ v. chained (map (λ (p : PlacedLink). p.0) ps) v w.setting (at n position size)) _ (first.1 n n' n'' position size) (λ v e.
      gives-weaker (chained-placed w n n' n'' position size ps v e.1) (λ x f. (ap (λ m. m >>= λ y. chained (map (λ (p : PlacedLink). p.0) ps) y (over_shape w) (at n'' position size)) e.0 ∙ f.0, f.1)))

  level : (y : Expr-F Pair LinkPair StepPair) → Law (expr_fixed (map-Expr Pair LinkPair StepPair Fixed LinkFixed Bool (λ k. k.0) (λ k. k.0) (λ k. k.0) y)) (expr_trace (map-Expr Pair LinkPair StepPair Trace LinkTrace WalkTrace (λ k. k.1) (λ k. k.1) (λ k. k.1) y))
  level (Expr-F.Number place k) = λ h n n' n'' position size. both (refl, refl)
  level (Expr-F.Literal place text) = λ h n n' n'' position size. texts w n n' n'' position size _ _ _ (gives-weaker (capped-gives w.setting.most text) (λ x e. ap Some (sym e)))
  level (Expr-F.Call place code ks) = λ h.
      subst (λ ts. Placed w (functions.called (function_at code) code (map meaning_in ts))) (traces-known ks)
      (call-placed w (function_at code) code (map known ks) (ap (λ xs. (call_facts (function_at code) xs).is_placed) (facts-known ks) ∙ h))
  level (Expr-F.Negated place signs k) = λ h n n' n'' position size. mapped w n n' n'' position size _ _ _ (λ x. Number (signed signs x)) (numbers w n n' n'' position size _ _ _ (k.2 h n n' n'' position size)) (λ x. refl)
  level (Expr-F.Chain k ls) = λ h. let ps = placed-links ls (and-true _ _ h).1 in
      subst (λ ms. Placed w (λ x c. k.1.meaning x c >>= λ v. chained ms v x c)) ps.1 (chain-placed (k.1.meaning, k.2 (and-true _ _ h).0) ps.0)
  level (Expr-F.Filter k ks) = λ h. no h
  level (Expr-F.Path place start ks) = λ h. no h
  level (Expr-F.From k ks) = λ h. no h

  placed-law : (e : Expr) → Law (fixed_of e) (trace e)
  placed-law = pair_keeps Fixed LinkFixed Bool expr_fixed link_fixed step_fixed Trace LinkTrace WalkTrace expr_trace link_trace step_trace Law LinkLaw StepLaw level (λ y. (refl, y.right.2)) (λ y. refl)

-- ---- over a forest and its shape

of-given : {A : Type 0} {P : A → Type 0} {m m' : Option A} (x : A) → Gives P m m' → m ≡ Some x → P x
of-given x nothing e = none-some e
of-given {P = P} x (both p) e = subst P (some-same e) p

module _ (forest : Forest) (sound : Sound forest) (given : Given) (context : Context) where
  abbrev pub over : Setting
  over = setting_of called given forest.nodes context

  bare-frame : Frame (untexted (whole forest sound)) (untexted (real forest sound))
  bare-frame = subst (λ l. Frame (untexted (whole forest sound)) l) (same-bare forest sound) (itself (whole forest sound) (whole-visits forest sound))

  abbrev beside : Comparison
  beside = record {
    setting = over;
    others = real forest sound;
    strings = over.strings;
    documents = given.documents;
    indexes = given.indexes;
    event = given.event;
    shape = whole forest sound;
    shape_strings = λ n. string_value n (shape_of forest.nodes);
    shape_documents = given.documents;
    shape_indexes = given.indexes;
    shape_event = given.event;
    functions = called None given.decimals;
    extend = λ code ps p e. within_a_limit (Some string_limit) given.decimals code ps p e;
    visits = real-visits forest sound;
    other_visits = real-visits forest sound;
    shape_visits = whole-visits forest sound;
    frame = bare-frame;
    other_frame = bare-frame;
  }

  pub predicate-told : (e : Expr) → is_placed e ≡ true → (n position size : ℕ) (v : Value) → meaning e over (record { node = n; position = position; size = size }) ≡ Some v →
      IsTold (shape_at given forest.nodes context) (meaning e) position size (is_true_at given.decimals position v)
  predicate-told e h n position size v i =
      let j : (trace e).meaning over (at n position size) ≡ Some v = ap (λ m. m over (at n position size)) (meaning-of_trace e) ∙ i in
      (v, (λ k. ap (λ m. m (shape_at given forest.nodes context) (at k position size)) (sym (meaning-of_trace e)) ∙ (of-given v (placed-law beside e h n n k position size) j).0), refl)

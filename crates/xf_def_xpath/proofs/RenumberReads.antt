-- What an expression reads and looks at goes with a renumbering of the nodes: by one induction over the syntax.
use Rattle.std.proofs.Common.{◌≡◌, ℕ, zero, suc, Bool, true, false, ◌||◌, List, [], ◌∷◌, ◌++◌, map, Option, Some, None, option_map, unwrap_or, refl, sym, ap, ◌∙◌}
use Rattle.std.specs.Prelude.{filter}
use Rattle.std.specs.List.{flat_map}
use Rattle.std.proofs.lemmas.List.{map-append}
use Rattle.xf_def_syntax.specs.declared.expr.Expr.{Expr}
use Rattle.xf_def_syntax.specs.declared.expr.Expr.TheOpen.{Expr-F, Step-F}
use Rattle.xf_def_syntax.specs.declared.expr.Expr.TheFolds.{map-Expr, map-Step}
use Rattle.xf_def_syntax.specs.declared.expr.Operator.{Operator}
use Rattle.xf_def_syntax.specs.declared.expr.Operator.TheVariants.{Or, And, Equal, NotEqual, Less, LessOrEqual, Greater, GreaterOrEqual, Add, Subtract, Multiply, Divide, Modulo, Union}
use Rattle.xf_def_forest.specs.Visit.{Visit}
use Rattle.xf_def_forest.specs.Same.{IsRenumbering, renumbered_visit}
use Rattle.xf_def_forest.proofs.RenumberLaws.{map-map, filter-through}
use Rattle.xf_def_xpath.specs.declared.value.Value.{Value}
use Rattle.xf_def_xpath.specs.Setting.{Setting, Focus, Meaning, in_order}
use Rattle.xf_def_xpath.specs.Steps.{from_one, begun_at, kept_by_all}
use Rattle.xf_def_xpath.specs.Functions.{called}
use Rattle.xf_def_xpath.specs.Table.{Function, function_at}
use Rattle.xf_def_xpath.specs.Table as of
use Rattle.xf_def_xpath.specs.Asked.{Asked, Trace, LinkTrace, WalkTrace, has_list, list_around, lists_below, read_for, tightly, both, as_truth, as_plain, as_set, all_read, converted}
use Rattle.xf_def_xpath.specs.AskedSteps.{lists_of, kind_read, tells_kinds, is_pair, read_if, text_beside, if_tight, filtered, stepped, asked_from, step_asked, walks_asked}
use Rattle.xf_def_xpath.specs.AskedCalls.{beside, asked_by_both, computed, either, link_asked, links_asked, argument, own_argument, all_converted, nodes_if, with_nodes, meanings, call_asked}
use Rattle.xf_def_xpath.specs.Reads.{expr_asked, expr_trace, link_trace, step_trace, trace, listed, reads_in, looks_in, set_looks_in}
use Rattle.xf_def_xpath.specs.Same.{renumbered_value, renumbered_focus, renumbered_setting, renumbered_asked, HasStrings}
use Rattle.xf_def_xpath.proofs.Keeps.{fold_keeps}
use Rattle.xf_def_xpath.proofs.TraceKeeps.{meaning-kept, walk-kept}
use Rattle.xf_def_xpath.proofs.RenumberLaws.{in_order-renumbered, reached-renumbered, flat-renumbered, nodes-renumbered}
use Rattle.xf_def_xpath.proofs.RenumberValues.{Renumbers, WalkRenumbers, called-renumbered, level-renumbered, step-renumbered, kept_all-renumbered, begun_at-renumbered, begun-renumbered}
use Rattle.xf_def_xpath.proofs.RenumberAsked.{around-renumbered, read_for-renumbered, below-renumbered, lists-renumbered, kinds-renumbered, text_beside-renumbered, joined-both, both-renumbered, read_if-renumbered, with_read-renumbered, converted-renumbered}

abbrev pub AskedRenumbers : (ℕ → ℕ) → (Setting → Focus → Asked) → Type 0
AskedRenumbers f m = (s : Setting) (strings : ℕ → List ℕ) → HasStrings f strings s → (c : Focus) →
    m (renumbered_setting f strings s) (renumbered_focus f c) ≡ renumbered_asked f (m s c)

abbrev pub StepRenumbers : (ℕ → ℕ) → (Setting → Asked → Asked) → Type 0
StepRenumbers f m = (s : Setting) (strings : ℕ → List ℕ) → HasStrings f strings s → (a : Asked) →
    m (renumbered_setting f strings s) (renumbered_asked f a) ≡ renumbered_asked f (m s a)

pub record TraceRenumbers (f : ℕ → ℕ) (t : Trace) : Type 0 where
  pub meaning : Renumbers f t.meaning
  pub asked : AskedRenumbers f t.asked

pub record WalkTraceRenumbers (f : ℕ → ℕ) (t : WalkTrace) : Type 0 where
  pub walk : WalkRenumbers f t.walk
  pub asked : StepRenumbers f t.asked

unwrapped : (f : ℕ → ℕ) (m : Option (List ℕ)) → unwrap_or (option_map (map f) m) [] ≡ map f (unwrap_or m [])
unwrapped f None = refl
unwrapped f (Some ns) = refl

module _ (f : ℕ → ℕ) (same : IsRenumbering f) (s : Setting) (strings : ℕ → List ℕ) (h : HasStrings f strings s) where
  abbrev t : Setting
  t = renumbered_setting f strings s

  abbrev R : Asked → Asked
  R = renumbered_asked f

  abbrev Known : Type 0
  Known = (t : Trace) × TraceRenumbers f t

  abbrev Predicate : Type 0
  Predicate = (m : Meaning) × Renumbers f m

  abbrev known : Known → Predicate
  known k = (k.0.meaning, k.1.meaning)

  -- ---- operators

  read-all : (a : Asked) → all_read t (R a) ≡ R (all_read s a)
  read-all a = with_read-renumbered f same s.all a.set a

  convert : (a : Asked) → converted t (R a) ≡ R (converted s a)
  convert a = converted-renumbered f same s.all a s t refl refl

  beside-renumbered : (b : Bool) (a : Asked) → beside t b (R a) ≡ R (beside s b a)
  beside-renumbered true a = refl
  beside-renumbered false a = read-all a

  truth-renumbered : (a b : Asked) → as_truth (both (R a) (R b)) ≡ R (as_truth (both a b))
  truth-renumbered a b = ap as_truth (both-renumbered f a b)

  compared-renumbered : (a b : Asked) → asked_by_both t (R a) (R b) ≡ R (asked_by_both s a b)
  compared-renumbered a b =
      ap (λ l. as_truth (both l (beside t a.is_truth (R b)))) (beside-renumbered b.is_truth a)
      ∙ ap (λ r. as_truth (both (R (beside s b.is_truth a)) r)) (beside-renumbered a.is_truth b)
      ∙ truth-renumbered (beside s b.is_truth a) (beside s a.is_truth b)

  computed-renumbered : (a b : Asked) → computed t (R a) (R b) ≡ R (computed s a b)
  computed-renumbered a b =
      ap (λ l. both l (converted t (R b))) (convert a) ∙ ap (λ r. both (R (converted s a)) r) (convert b) ∙ both-renumbered f (converted s a) (converted s b)

  abbrev anyhow : Bool → List ℕ → List ℕ → List ℕ → Asked
  anyhow loose set reads looks = record { set = set; is_loose = loose; is_truth = false; reads = reads; looks = looks }

  anyhow-renumbered : (loose : Bool) (set set' reads reads' looks looks' : List ℕ) → set' ≡ map f set → reads' ≡ map f reads → looks' ≡ map f looks → anyhow loose set' reads' looks' ≡ R (anyhow loose set reads looks)
  anyhow-renumbered loose set set' reads reads' looks looks' i j k =
      ap (λ ns. anyhow loose ns reads' looks') i ∙ ap (λ ns. anyhow loose (map f set) ns looks') j ∙ ap (anyhow loose (map f set) (map f reads)) k

  either-renumbered : (a b : Asked) → either t (R a) (R b) ≡ R (either s a b)
  either-renumbered a b = anyhow-renumbered (a.is_loose || b.is_loose) (in_order s.all (a.set ++ b.set)) _ (a.reads ++ b.reads) _ (a.looks ++ b.looks) _
      (ap (in_order t.all) (sym (map-append f a.set b.set)) ∙ in_order-renumbered f same s.all (a.set ++ b.set))
      (sym (map-append f a.reads b.reads)) (sym (map-append f a.looks b.looks))

  link-renumbered : (o : Operator) (a b : Asked) → link_asked o t (R a) (R b) ≡ R (link_asked o s a b)
  link-renumbered Or a b = truth-renumbered a b
  link-renumbered And a b = truth-renumbered a b
  link-renumbered Equal a b = compared-renumbered a b
  link-renumbered NotEqual a b = compared-renumbered a b
  link-renumbered Less a b = compared-renumbered a b
  link-renumbered LessOrEqual a b = compared-renumbered a b
  link-renumbered Greater a b = compared-renumbered a b
  link-renumbered GreaterOrEqual a b = compared-renumbered a b
  link-renumbered Add a b = computed-renumbered a b
  link-renumbered Subtract a b = computed-renumbered a b
  link-renumbered Multiply a b = computed-renumbered a b
  link-renumbered Divide a b = computed-renumbered a b
  link-renumbered Modulo a b = computed-renumbered a b
  link-renumbered Union a b = either-renumbered a b

  -- ---- steps

  tight-renumbered : (b : Bool) (ps : List Known) (ns : List ℕ) →
      kept_by_all t (if_tight b (map (λ (p : Known). p.0) ps)) (map f ns) ≡ option_map (map f) (kept_by_all s (if_tight b (map (λ (p : Known). p.0) ps)) ns)
  tight-renumbered true ps ns = refl
  tight-renumbered false ps ns =
      ap (λ ms. kept_by_all t ms (map f ns)) (map-map (λ (p : Trace). p.meaning) (λ (p : Known). p.0) ps ∙ sym (map-map (λ (p : Predicate). p.0) known ps))
      ∙ kept_all-renumbered f same s strings h (map known ps) ns
      ∙ ap (λ ms. option_map (map f) (kept_by_all s ms ns)) (map-map (λ (p : Predicate). p.0) known ps ∙ sym (map-map (λ (p : Trace). p.meaning) (λ (p : Known). p.0) ps))

  filtered-renumbered : (ps : List Known) (a : Asked) → filtered t (map (λ (p : Known). p.0) ps) (R a) ≡ R (filtered s (map (λ (p : Known). p.0) ps) a)
  filtered-renumbered ps a =
      ap (λ m. record (as_set (R a)) { set = unwrap_or m [] }) (tight-renumbered a.is_loose ps a.set)
      ∙ ap (λ ns. record (as_set (R a)) { set = ns }) (unwrapped f (kept_by_all s (if_tight a.is_loose (map (λ (p : Known). p.0) ps)) a.set))

  abbrev Taken : Type 0
  Taken = Step-F Known ((l : LinkTrace) × TraceRenumbers f l.right) ((w : WalkTrace) × WalkTraceRenumbers f w)

  abbrev predicates : Bool → Taken → List Meaning
  predicates loose y = if_tight loose (map (λ (p : Known). p.0) y.predicates)

  one-renumbered : (y : Taken) (loose : Bool) (n : ℕ) → unwrap_or (from_one y.axis y.test (predicates loose y) t (f n)) [] ≡ map f (unwrap_or (from_one y.axis y.test (predicates loose y) s n) [])
  one-renumbered y loose n =
      ap (λ ns. unwrap_or (kept_by_all t (predicates loose y) ns) []) (reached-renumbered f same y.axis y.test s.all n)
      ∙ ap (λ m. unwrap_or m []) (tight-renumbered loose y.predicates _)
      ∙ unwrapped f (from_one y.axis y.test (predicates loose y) s n)

  stepped-renumbered : (y : Taken) (loose : Bool) (from : List ℕ) → stepped y.is_written y.axis y.test (predicates loose y) t (map f from) ≡ map f (stepped y.is_written y.axis y.test (predicates loose y) s from)
  stepped-renumbered y loose from =
      ap (in_order t.all)
      (joined-both f (flat_map (λ n. unwrap_or (from_one y.axis y.test (predicates loose y) s n) []) from) _ (read_if (tells_kinds y.is_written y.axis y.test) (flat_map (text_beside y.axis s.all) from)) _
      (flat-renumbered f (λ n. unwrap_or (from_one y.axis y.test (predicates loose y) s n) []) (λ n. unwrap_or (from_one y.axis y.test (predicates loose y) t n) []) (one-renumbered y loose) from)
      (read_if-renumbered f (tells_kinds y.is_written y.axis y.test) _ _ (flat-renumbered f (text_beside y.axis s.all) (text_beside y.axis t.all) (text_beside-renumbered f same s.all y.axis) from)))
      ∙ in_order-renumbered f same s.all _

  abbrev open_step : Taken → Step-F Trace LinkTrace WalkTrace
  open_step y = map-Step Known ((l : LinkTrace) × TraceRenumbers f l.right) ((w : WalkTrace) × WalkTraceRenumbers f w) Trace LinkTrace WalkTrace (λ e. e.0) (λ e. e.0) (λ e. e.0) y

  from-renumbered : (y : Taken) (a : Asked) (from : List ℕ) (loose : Bool) → asked_from (open_step y) t (R a) (map f from) loose ≡ R (asked_from (open_step y) s a from loose)
  from-renumbered y a from loose = anyhow-renumbered loose (stepped y.is_written y.axis y.test (predicates loose y) s from) _
      (a.reads ++ read_if (tells_kinds y.is_written y.axis y.test) (flat_map (kind_read y.axis s.all) from) ++ read_if (is_pair y.is_below y.axis) (flat_map (read_for s.all) a.set)) _
      (a.looks ++ flat_map (lists_of y.axis s.all) from ++ read_if y.is_below (flat_map (lists_below s.all) a.set)) _
      (stepped-renumbered y loose from)
      (joined-both f (a.reads ++ read_if (tells_kinds y.is_written y.axis y.test) (flat_map (kind_read y.axis s.all) from)) _ (read_if (is_pair y.is_below y.axis) (flat_map (read_for s.all) a.set)) _
      (joined-both f a.reads _ (read_if (tells_kinds y.is_written y.axis y.test) (flat_map (kind_read y.axis s.all) from)) _ refl
      (read_if-renumbered f (tells_kinds y.is_written y.axis y.test) _ _ (flat-renumbered f (kind_read y.axis s.all) (kind_read y.axis t.all) (kinds-renumbered f same s.all y.axis) from)))
      (read_if-renumbered f (is_pair y.is_below y.axis) _ _ (flat-renumbered f (read_for s.all) (read_for t.all) (read_for-renumbered f same s.all) a.set)))
      (joined-both f (a.looks ++ flat_map (lists_of y.axis s.all) from) _ (read_if y.is_below (flat_map (lists_below s.all) a.set)) _
      (joined-both f a.looks _ (flat_map (lists_of y.axis s.all) from) _ refl (flat-renumbered f (lists_of y.axis s.all) (lists_of y.axis t.all) (lists-renumbered f same s.all y.axis) from))
      (read_if-renumbered f y.is_below _ _ (flat-renumbered f (lists_below s.all) (lists_below t.all) (below-renumbered f same s.all) a.set)))

  pub step_asked-renumbered : (y : Taken) (a : Asked) → step_asked (open_step y) t (R a) ≡ R (step_asked (open_step y) s a)
  step_asked-renumbered y a =
      ap (λ from. asked_from (open_step y) t (R a) from (a.is_loose || tells_kinds y.is_written y.axis y.test || is_pair y.is_below y.axis)) (begun_at-renumbered f same s strings h y.is_below a.set)
      ∙ from-renumbered y a (begun_at y.is_below s.all a.set) (a.is_loose || tells_kinds y.is_written y.axis y.test || is_pair y.is_below y.axis)

  abbrev KnownWalk : Type 0
  KnownWalk = (w : WalkTrace) × WalkTraceRenumbers f w

  walks-renumbered : (ws : List KnownWalk) (a : Asked) → walks_asked t (map (λ (w : KnownWalk). w.0) ws) (R a) ≡ R (walks_asked s (map (λ (w : KnownWalk). w.0) ws) a)
  walks-renumbered [] a = refl
  walks-renumbered (w ∷ ws) a = ap (walks_asked t (map (λ (v : KnownWalk). v.0) ws)) (w.1.asked s strings h a) ∙ walks-renumbered ws (w.0.asked s a)

-- ---- functions

module _ (f : ℕ → ℕ) (same : IsRenumbering f) (s : Setting) (strings : ℕ → List ℕ) (h : HasStrings f strings s) (c : Focus) where
  abbrev to : Setting
  to = renumbered_setting f strings s

  abbrev e : Focus
  e = renumbered_focus f c

  abbrev RA : Asked → Asked
  RA = renumbered_asked f

  abbrev Argument : Type 0
  Argument = (t : Trace) × TraceRenumbers f t

  abbrev traces : List Argument → List Trace
  traces ts = map (λ (t : Argument). t.0) ts

  abbrev at : ℕ → List Argument → Asked
  at place ts = argument place (traces ts) s c

  abbrev own : List Argument → Asked
  own ts = own_argument (traces ts) s c

  abbrev KnownLink : Type 0
  KnownLink = (l : LinkTrace) × TraceRenumbers f l.right

  links-renumbered : (links : List KnownLink) (a : Asked) → links_asked (map (λ (l : KnownLink). l.0) links) to e (RA a) ≡ RA (links_asked (map (λ (l : KnownLink). l.0) links) s c a)
  links-renumbered [] a = refl
  links-renumbered (l ∷ ls) a =
      ap (λ b. links_asked (map (λ (l : KnownLink). l.0) ls) to e (link_asked l.0.operator to (RA a) b)) (l.1.asked s strings h c)
      ∙ ap (links_asked (map (λ (l : KnownLink). l.0) ls) to e) (link-renumbered f same s strings h l.0.operator a (l.0.right.asked s c))
      ∙ links-renumbered ls (link_asked l.0.operator s a (l.0.right.asked s c))

  argument-renumbered : (at : ℕ) (ts : List Argument) → argument at (traces ts) to e ≡ RA (argument at (traces ts) s c)
  argument-renumbered at [] = refl
  argument-renumbered zero (t ∷ ts) = t.1.asked s strings h c
  argument-renumbered (suc at) (t ∷ ts) = argument-renumbered at ts

  own-renumbered : (ts : List Argument) → own_argument (traces ts) to e ≡ RA (own_argument (traces ts) s c)
  own-renumbered [] = refl
  own-renumbered (t ∷ ts) = t.1.asked s strings h c

  converts : (a a' : Asked) → a' ≡ RA a → converted to a' ≡ RA (converted s a)
  converts a a' k = ap (converted to) k ∙ convert f same s strings h a

  reads-all : (a a' : Asked) → a' ≡ RA a → all_read to a' ≡ RA (all_read s a)
  reads-all a a' k = ap (all_read to) k ∙ read-all f same s strings h a

  boths : (a a' b b' : Asked) → a' ≡ RA a → b' ≡ RA b → both a' b' ≡ RA (both a b)
  boths a a' b b' k j = ap (λ l. both l b') k ∙ ap (both (RA a)) j ∙ both-renumbered f a b

  eithers : (a a' b b' : Asked) → a' ≡ RA a → b' ≡ RA b → either to a' b' ≡ RA (either s a b)
  eithers a a' b b' k j = ap (λ l. either to l b') k ∙ ap (either to (RA a)) j ∙ either-renumbered f same s strings h a b

  all-renumbered : (ts : List Argument) → all_converted (traces ts) to e ≡ RA (all_converted (traces ts) s c)
  all-renumbered [] = refl
  all-renumbered (t ∷ ts) = boths (converted s (t.0.asked s c)) _ (all_converted (traces ts) s c) _ (converts (t.0.asked s c) _ (t.1.asked s strings h c)) (all-renumbered ts)

  abbrev Meant : Type 0
  Meant = (m : Meaning) × Renumbers f m

  abbrev known_meaning : Argument → Meant
  known_meaning t = (t.0.meaning, t.1.meaning)

  nodes_if-renumbered : (m : Option Value) → nodes_if (option_map (renumbered_value f) m) ≡ map f (nodes_if m)
  nodes_if-renumbered None = refl
  nodes_if-renumbered (Some v) = nodes-renumbered f v

  given-renumbered : (g : Function) (code : ℕ) (ts : List Argument) → nodes_if (called g code (meanings (traces ts)) to e) ≡ map f (nodes_if (called g code (meanings (traces ts)) s c))
  given-renumbered g code ts =
      ap (λ ms. nodes_if (called g code ms to e)) (map-map (λ (t : Trace). t.meaning) (λ (t : Argument). t.0) ts ∙ sym (map-map (λ (p : Meant). p.0) known_meaning ts))
      ∙ ap nodes_if (called-renumbered f same s strings h c g code (map known_meaning ts))
      ∙ nodes_if-renumbered (called g code (map (λ (p : Meant). p.0) (map known_meaning ts)) s c)
      ∙ ap (λ ms. map f (nodes_if (called g code ms s c))) (map-map (λ (p : Meant). p.0) known_meaning ts ∙ sym (map-map (λ (t : Trace). t.meaning) (λ (t : Argument). t.0) ts))

  with_nodes-renumbered : (ns ns' looks looks' : List ℕ) (a a' : Asked) → ns' ≡ map f ns → looks' ≡ map f looks → a' ≡ RA a → with_nodes ns' looks' a' ≡ RA (with_nodes ns looks a)
  with_nodes-renumbered ns ns' looks looks' a a' i j k =
      ap (with_nodes ns' looks') k ∙ ap (λ ms. with_nodes ms looks' (RA a)) i ∙ ap (λ ls. with_nodes (map f ns) ls (RA a)) j
      ∙ ap (λ ls. record (as_plain (RA a)) { set = map f ns; looks = ls }) (sym (map-append f a.looks looks))

  call-renumbered : (g : Function) (code : ℕ) (ts : List Argument) → call_asked g code (traces ts) to e ≡ RA (call_asked g code (traces ts) s c)
  call-renumbered of.asking code ts = ap as_truth (all-renumbered ts)
  call-renumbered of.plainly code ts = all-renumbered ts
  call-renumbered of.owning code ts = converts (own ts) _ (own-renumbered ts)
  call-renumbered of.boolean code ts = ap as_truth (argument-renumbered 0 ts)
  call-renumbered of.not code ts = ap as_truth (argument-renumbered 0 ts)
  call-renumbered (of.truth b) code ts = refl
  call-renumbered of.choosing code ts = eithers (as_plain (at 0 ts)) _ (either s (at 1 ts) (at 2 ts)) _ (ap as_plain (argument-renumbered 0 ts)) (eithers (at 1 ts) _ (at 2 ts) _ (argument-renumbered 1 ts) (argument-renumbered 2 ts))
  call-renumbered of.branching code ts = boths (at 0 ts) _ (computed s (at 1 ts) (at 2 ts)) _ (argument-renumbered 0 ts)
      (boths (converted s (at 1 ts)) _ (converted s (at 2 ts)) _ (converts (at 1 ts) _ (argument-renumbered 1 ts)) (converts (at 2 ts) _ (argument-renumbered 2 ts)))
  call-renumbered of.counting code ts = ap as_plain (argument-renumbered 0 ts)
  call-renumbered of.counting_filled code ts = reads-all (at 0 ts) _ (argument-renumbered 0 ts)
  call-renumbered of.adding code ts = reads-all (at 0 ts) _ (argument-renumbered 0 ts)
  call-renumbered of.averaging code ts = reads-all (at 0 ts) _ (argument-renumbered 0 ts)
  call-renumbered of.greatest code ts = reads-all (at 0 ts) _ (argument-renumbered 0 ts)
  call-renumbered of.least code ts = reads-all (at 0 ts) _ (argument-renumbered 0 ts)
  call-renumbered of.local_name code ts = ap as_plain (own-renumbered ts)
  call-renumbered of.name code ts = ap as_plain (own-renumbered ts)
  call-renumbered of.namespace code ts = ap as_plain (own-renumbered ts)
  call-renumbered of.number code ts = converts (own ts) _ (own-renumbered ts)
  call-renumbered of.string code ts = converts (own ts) _ (own-renumbered ts)
  call-renumbered of.current code ts = refl
  call-renumbered of.event code ts = with_nodes-renumbered (nodes_if (called of.event code (meanings (traces ts)) s c)) _ [] [] (all_converted (traces ts) s c) _ (given-renumbered of.event code ts) refl (all-renumbered ts)
  call-renumbered of.index code ts = all-renumbered ts
  call-renumbered of.instance code ts =
      let ns : List ℕ = nodes_if (called of.instance code (meanings (traces ts)) s c) in
      with_nodes-renumbered ns _ (flat_map (list_around s.all) ns) _ (all_converted (traces ts) s c) _ (given-renumbered of.instance code ts)
      (ap (flat_map (list_around to.all)) (given-renumbered of.instance code ts) ∙ flat-renumbered f (list_around s.all) (list_around to.all) (around-renumbered f same s.all) ns)
      (all-renumbered ts)
  call-renumbered of.last code ts = refl
  call-renumbered of.position code ts = refl

-- ---- every expression

module _ (f : ℕ → ℕ) (same : IsRenumbering f) where
  abbrev Level : Type 0
  Level = Expr-F ((t : Trace) × TraceRenumbers f t) ((l : LinkTrace) × TraceRenumbers f l.right) ((w : WalkTrace) × WalkTraceRenumbers f w)

  asked-level : (y : Level) → AskedRenumbers f (expr_asked (map-Expr _ _ _ Trace LinkTrace WalkTrace (λ e. e.0) (λ e. e.0) (λ e. e.0) y))
  asked-level (Expr-F.Number place k) = λ s strings h c. refl
  asked-level (Expr-F.Literal place text) = λ s strings h c. refl
  asked-level (Expr-F.Call place code ts) = λ s strings h c. call-renumbered f same s strings h c (function_at code) code ts
  asked-level (Expr-F.Negated place signs t) = λ s strings h c. converts f same s strings h c (t.0.asked s c) _ (t.1.asked s strings h c)
  asked-level (Expr-F.Chain first links) = λ s strings h c.
      ap (links_asked (map (λ (l : (l : LinkTrace) × TraceRenumbers f l.right). l.0) links) (renumbered_setting f strings s) (renumbered_focus f c)) (first.1.asked s strings h c)
      ∙ links-renumbered f same s strings h c links (first.0.asked s c)
  asked-level (Expr-F.Filter first ts) = λ s strings h c.
      ap (filtered (renumbered_setting f strings s) (map (λ (t : (t : Trace) × TraceRenumbers f t). t.0) ts)) (first.1.asked s strings h c)
      ∙ filtered-renumbered f same s strings h ts (first.0.asked s c)
  asked-level (Expr-F.Path place start ws) = λ s strings h c.
      ap (λ ns. walks_asked (renumbered_setting f strings s) (map (λ (w : (w : WalkTrace) × WalkTraceRenumbers f w). w.0) ws) (tightly ns)) (begun-renumbered f same s strings h start c)
      ∙ walks-renumbered f same s strings h ws (tightly _)
  asked-level (Expr-F.From first ws) = λ s strings h c.
      ap (walks_asked (renumbered_setting f strings s) (map (λ (w : (w : WalkTrace) × WalkTraceRenumbers f w). w.0) ws)) (first.1.asked s strings h c)
      ∙ walks-renumbered f same s strings h ws (first.0.asked s c)

  trace-level : (y : Level) → TraceRenumbers f (expr_trace (map-Expr _ _ _ Trace LinkTrace WalkTrace (λ e. e.0) (λ e. e.0) (λ e. e.0) y))
  trace-level y = record {
    meaning = meaning-kept (Renumbers f) (λ l. Renumbers f l.right) (WalkRenumbers f) _ _ _ (λ e. e.0) (λ e. e.0) (λ e. e.0) (λ e. e.1.meaning) (λ e. e.1.meaning) (λ e. e.1.walk) (level-renumbered f same) y;
    asked = asked-level y;
  }

  step-level : (y : Step-F ((t : Trace) × TraceRenumbers f t) ((l : LinkTrace) × TraceRenumbers f l.right) ((w : WalkTrace) × WalkTraceRenumbers f w)) →
      WalkTraceRenumbers f (step_trace (map-Step _ _ _ Trace LinkTrace WalkTrace (λ e. e.0) (λ e. e.0) (λ e. e.0) y))
  step-level y = record {
    walk = walk-kept (Renumbers f) (λ l. Renumbers f l.right) (WalkRenumbers f) _ _ _ (λ e. e.0) (λ e. e.0) (λ e. e.0) (λ e. e.1.meaning) (λ e. e.1.meaning) (λ e. e.1.walk) (λ z s strings h ns. step-renumbered f same s strings h z ns) y;
    asked = λ s strings h a. step_asked-renumbered f same s strings h y a;
  }

  pub trace-renumbered : (e : Expr) → TraceRenumbers f (trace e)
  trace-renumbered = fold_keeps Trace LinkTrace WalkTrace expr_trace link_trace step_trace (TraceRenumbers f) (λ l. TraceRenumbers f l.right) (WalkTraceRenumbers f)
      trace-level (λ y. y.right.1) step-level

  pub reads-renumbered : (x : Expr) (s : Setting) (strings : ℕ → List ℕ) → HasStrings f strings s → (c : Focus) →
      reads_in (trace x) (renumbered_setting f strings s) (renumbered_focus f c) ≡ map f (reads_in (trace x) s c)
  reads-renumbered x s strings h c =
      ap (λ (a : Asked). in_order (map (renumbered_visit f) s.all) a.reads) (converts f same s strings h c ((trace x).asked s c) _ ((trace-renumbered x).asked s strings h c))
      ∙ in_order-renumbered f same s.all (converted s ((trace x).asked s c)).reads

  listed-renumbered : (all : List Visit) (ns : List ℕ) → listed (map (renumbered_visit f) all) (map f ns) ≡ map f (listed all ns)
  listed-renumbered all ns =
      ap (λ xs. in_order xs (map f ns)) (filter-through (renumbered_visit f) (λ x. has_list x.content) (λ x. has_list x.content) (λ x. refl) all)
      ∙ in_order-renumbered f same (filter (λ x. has_list x.content) all) ns

  pub looks-renumbered : (x : Expr) (s : Setting) (strings : ℕ → List ℕ) → HasStrings f strings s → (c : Focus) →
      looks_in (trace x) (renumbered_setting f strings s) (renumbered_focus f c) ≡ map f (looks_in (trace x) s c)
  looks-renumbered x s strings h c =
      ap (λ (a : Asked). listed (map (renumbered_visit f) s.all) a.looks) (converts f same s strings h c ((trace x).asked s c) _ ((trace-renumbered x).asked s strings h c))
      ∙ listed-renumbered s.all (converted s ((trace x).asked s c)).looks

  pub set_looks-renumbered : (x : Expr) (s : Setting) (strings : ℕ → List ℕ) → HasStrings f strings s → (c : Focus) →
      set_looks_in (trace x) (renumbered_setting f strings s) (renumbered_focus f c) ≡ map f (set_looks_in (trace x) s c)
  set_looks-renumbered x s strings h c =
      ap (λ (a : Asked). listed (map (renumbered_visit f) s.all) a.looks) ((trace-renumbered x).asked s strings h c)
      ∙ listed-renumbered s.all ((trace x).asked s c).looks

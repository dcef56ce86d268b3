-- An expression that reads nothing by its syntax asks no reads.
use Rattle.std.proofs.Common.{◌≡◌, ℕ, Bool, true, false, not, List, [], ◌∷◌, ◌++◌, map, refl, ap, ◌∙◌}
use Rattle.std.specs.List.{flat_map}
use Rattle.xf_def_syntax.specs.declared.expr.Expr.{Expr}
use Rattle.xf_def_syntax.specs.declared.expr.Expr.TheOpen.{Expr-F, Step-F}
use Rattle.xf_def_syntax.specs.declared.expr.Expr.TheFolds.{map-Expr, map-Step}
use Rattle.xf_def_syntax.specs.declared.expr.Operator.{Operator}
use Rattle.xf_def_syntax.specs.declared.expr.Operator.TheVariants.{Or, And, Equal, NotEqual, Less, LessOrEqual, Greater, GreaterOrEqual, Add, Subtract, Multiply, Divide, Modulo, Union}
use Rattle.xf_def_forest.proofs.BackLaws.{and-true}
use Rattle.xf_def_xpath.specs.Setting.{Setting, Focus}
use Rattle.xf_def_xpath.specs.Table.{Function, function_at}
use Rattle.xf_def_xpath.specs.Table as of
use Rattle.xf_def_xpath.specs.Asked.{Asked, Trace, LinkTrace, WalkTrace, read_for, tightly, asked_first, converted}
use Rattle.xf_def_xpath.specs.AskedSteps.{kind_read, tells_kinds, is_pair, read_if, step_asked, walks_asked}
use Rattle.xf_def_xpath.specs.AskedCalls.{link_asked, links_asked, all_converted, call_asked}
use Rattle.xf_def_xpath.specs.Steps.{begun, begun_at}
use Rattle.xf_def_xpath.specs.Reads.{expr_trace, link_trace, step_trace, trace}
use Rattle.xf_def_xpath.specs.Exact.{is_union}
use Rattle.xf_def_xpath.specs.Quiet.{Quiet, LinkQuiet, quiet, all_silent, call_quiet, links_quiet, steps_quiet, expr_quiet, link_quiet, step_quiet, quiet_of}
use Rattle.xf_def_xpath.proofs.PairKeeps.{pair_keeps}
use Rattle.xf_def_xpath.proofs.VisitFacts.{no}

-- nothing is read, and no nodes are given, where the syntax says so
record Silent (q : Quiet) (asked : Setting → Focus → Asked) : Type 0 where
  reads : q.is_quiet ≡ true → (s : Setting) (c : Focus) → (asked s c).reads ≡ []
  set : q.is_empty ≡ true → (s : Setting) (c : Focus) → (asked s c).set ≡ []

record SilentLink (l : LinkQuiet) (t : LinkTrace) : Type 0 where
  same : t.operator ≡ l.operator
  right : Silent l.right t.right.asked

abbrev SilentStep : Bool → WalkTrace → Type 0
SilentStep b t = b ≡ true → (s : Setting) (a : Asked) → a.reads ≡ [] → (t.asked s a).reads ≡ []

abbrev Pair : Type 0
Pair = (q : Quiet) × (t : Trace) × Silent q t.asked

abbrev LinkPair : Type 0
LinkPair = (l : LinkQuiet) × (t : LinkTrace) × SilentLink l t

abbrev StepPair : Type 0
StepPair = (b : Bool) × (t : WalkTrace) × SilentStep b t

-- ---- parts

first-none : (b : Bool) (ns : List ℕ) → ns ≡ [] → asked_first b ns ≡ []
first-none true ns h = h
first-none false ns h = ap (asked_first false) h

converted-none : (s : Setting) (a : Asked) → a.reads ≡ [] → a.set ≡ [] → (converted s a).reads ≡ []
converted-none s a h i =
    ap (λ ns. ns ++ flat_map (read_for s.all) (asked_first a.is_loose a.set)) h
    ∙ ap (flat_map (read_for s.all)) (first-none a.is_loose a.set i)

all-none : (ks : List Pair) → all_silent (map (λ (k : Pair). k.0) ks) ≡ true → (s : Setting) (c : Focus) → (all_converted (map (λ (k : Pair). k.1) ks) s c).reads ≡ []
all-none [] h s c = refl
all-none (k ∷ ks) h s c =
    let both = and-true _ _ h in
    let own = and-true _ _ both.0 in
    ap (λ ns. ns ++ (all_converted (map (λ (k : Pair). k.1) ks) s c).reads) (converted-none s (k.1.asked s c) (k.2.reads own.0 s c) (k.2.set own.1 s c))
    ∙ all-none ks both.1 s c

union-none : (o : Operator) → is_union o ≡ true → (s : Setting) (a b : Asked) → a.reads ≡ [] → b.reads ≡ [] → (link_asked o s a b).reads ≡ []
union-none Union h s a b i j = ap (λ ns. ns ++ b.reads) i ∙ j
union-none Or h s a b i j = no h
union-none And h s a b i j = no h
union-none Equal h s a b i j = no h
union-none NotEqual h s a b i j = no h
union-none Less h s a b i j = no h
union-none LessOrEqual h s a b i j = no h
union-none Greater h s a b i j = no h
union-none GreaterOrEqual h s a b i j = no h
union-none Add h s a b i j = no h
union-none Subtract h s a b i j = no h
union-none Multiply h s a b i j = no h
union-none Divide h s a b i j = no h
union-none Modulo h s a b i j = no h

links-none : (ls : List LinkPair) → links_quiet (map (λ (l : LinkPair). l.0) ls) ≡ true → (s : Setting) (c : Focus) (a : Asked) → a.reads ≡ [] → (links_asked (map (λ (l : LinkPair). l.1) ls) s c a).reads ≡ []
links-none [] h s c a i = i
links-none (l ∷ ls) h s c a i =
    let both = and-true _ _ h in
    let own = and-true _ _ both.0 in
    links-none ls both.1 s c (link_asked l.1.operator s a (l.1.right.asked s c))
    (union-none l.1.operator (ap is_union l.2.same ∙ own.0) s a (l.1.right.asked s c) i (l.2.right.reads own.1 s c))

walks-none : (ks : List StepPair) → steps_quiet (map (λ (k : StepPair). k.0) ks) ≡ true → (s : Setting) (a : Asked) → a.reads ≡ [] → (walks_asked s (map (λ (k : StepPair). k.1) ks) a).reads ≡ []
walks-none [] h s a i = i
walks-none (k ∷ ks) h s a i = let both = and-true _ _ h in walks-none ks both.1 s (k.1.asked s a) (k.2 both.0 s a i)

read-none : (b : Bool) (ns : List ℕ) → not b ≡ true → read_if b ns ≡ []
read-none true ns h = no h
read-none false ns h = refl

step-none : (step : Step-F Trace LinkTrace WalkTrace) → not (tells_kinds step.is_written step.axis step.test) ≡ true → not (is_pair step.is_below step.axis) ≡ true →
    (s : Setting) (a : Asked) → a.reads ≡ [] → (step_asked step s a).reads ≡ []
step-none step h i s a j =
    ap (λ ns. ns ++ read_if (tells_kinds step.is_written step.axis step.test) (flat_map (kind_read step.axis s.all) (begun_at step.is_below s.all a.set))
    ++ read_if (is_pair step.is_below step.axis) (flat_map (read_for s.all) a.set)) j
    ∙ ap (λ ns. ns ++ read_if (is_pair step.is_below step.axis) (flat_map (read_for s.all) a.set)) (read-none (tells_kinds step.is_written step.axis step.test) _ h)
    ∙ read-none (is_pair step.is_below step.axis) _ i

-- ---- one level

never : (asked : Setting → Focus → Asked) → Silent (quiet false false) asked
never asked = record { reads = λ h. no h; set = λ h. no h }

-- only nodes are given, or nothing
gives : (q : Bool) (asked : Setting → Focus → Asked) → (q ≡ true → (s : Setting) (c : Focus) → (asked s c).reads ≡ []) → Silent (quiet q false) asked
gives q asked h = record { reads = h; set = λ i. no i }

nothing : (asked : Setting → Focus → Asked) → ((s : Setting) (c : Focus) → (asked s c).reads ≡ []) → ((s : Setting) (c : Focus) → (asked s c).set ≡ []) → Silent (quiet true true) asked
nothing asked h i = record { reads = λ j. h; set = λ j. i }

call-silent : (g : Function) (code : ℕ) (ks : List Pair) → Silent (call_quiet g (map (λ (k : Pair). k.0) ks)) (call_asked g code (map (λ (k : Pair). k.1) ks))
call-silent (of.truth b) code ks = nothing _ (λ s c. refl) (λ s c. refl)
call-silent of.current code ks = gives true _ (λ h s c. refl)
call-silent of.instance code ks = gives _ _ (λ h s c. all-none ks h s c)
call-silent of.last code ks = nothing _ (λ s c. refl) (λ s c. refl)
call-silent of.position code ks = nothing _ (λ s c. refl) (λ s c. refl)
call-silent of.asking code ks = never _
call-silent of.plainly code ks = never _
call-silent of.owning code ks = never _
call-silent of.boolean code ks = never _
call-silent of.not code ks = never _
call-silent of.choosing code ks = never _
call-silent of.branching code ks = never _
call-silent of.counting code ks = never _
call-silent of.counting_filled code ks = never _
call-silent of.adding code ks = never _
call-silent of.averaging code ks = never _
call-silent of.greatest code ks = never _
call-silent of.least code ks = never _
call-silent of.local_name code ks = never _
call-silent of.name code ks = never _
call-silent of.namespace code ks = never _
call-silent of.number code ks = never _
call-silent of.string code ks = never _
call-silent of.event code ks = never _
call-silent of.index code ks = never _

level-silent : (y : Expr-F Pair LinkPair StepPair) → Silent (expr_quiet (map-Expr Pair LinkPair StepPair Quiet LinkQuiet Bool (λ k. k.0) (λ k. k.0) (λ k. k.0) y)) (expr_trace (map-Expr Pair LinkPair StepPair Trace LinkTrace WalkTrace (λ k. k.1) (λ k. k.1) (λ k. k.1) y)).asked
level-silent (Expr-F.Number place k) = nothing _ (λ s c. refl) (λ s c. refl)
level-silent (Expr-F.Literal place text) = nothing _ (λ s c. refl) (λ s c. refl)
level-silent (Expr-F.Call place code ks) = call-silent (function_at code) code ks
level-silent (Expr-F.Negated place signs k) = record {
  reads = λ h s c. let both = and-true _ _ h in converted-none s (k.1.asked s c) (k.2.reads both.0 s c) (k.2.set both.1 s c);
  set = λ h s c. refl;
}
level-silent (Expr-F.Chain k ls) = gives _ _ (λ h s c. let both = and-true _ _ h in links-none ls both.1 s c (k.1.asked s c) (k.2.reads both.0 s c))
level-silent (Expr-F.Filter k ks) = gives _ _ (λ h s c. k.2.reads h s c)
level-silent (Expr-F.Path place start ks) = gives _ _ (λ h s c. walks-none ks h s (tightly (begun start s c)) refl)
level-silent (Expr-F.From k ks) = gives _ _ (λ h s c. let both = and-true _ _ h in walks-none ks both.1 s (k.1.asked s c) (k.2.reads both.0 s c))

step-silent : (y : Step-F Pair LinkPair StepPair) → SilentStep (step_quiet (map-Step Pair LinkPair StepPair Quiet LinkQuiet Bool (λ k. k.0) (λ k. k.0) (λ k. k.0) y)) (step_trace (map-Step Pair LinkPair StepPair Trace LinkTrace WalkTrace (λ k. k.1) (λ k. k.1) (λ k. k.1) y))
step-silent y h = let both = and-true _ _ h in step-none (map-Step Pair LinkPair StepPair Trace LinkTrace WalkTrace (λ k. k.1) (λ k. k.1) (λ k. k.1) y) both.0 both.1

pub reads-none : (e : Expr) → (quiet_of e).is_quiet ≡ true → (s : Setting) (c : Focus) → ((trace e).asked s c).reads ≡ []
reads-none e h = (silent e).reads h
  where
    silent : (x : Expr) → Silent (quiet_of x) (trace x).asked
    silent = pair_keeps Quiet LinkQuiet Bool expr_quiet link_quiet step_quiet Trace LinkTrace WalkTrace expr_trace link_trace step_trace (λ q t. Silent q t.asked) SilentLink SilentStep
        level-silent (λ y. record { same = refl; right = y.right.2 }) step-silent

-- What a step tells stands to what it asks as what was told before.
use Rattle.std.proofs.Common.{◌≡◌, ℕ, ◌+◌, ◌<◌, ◌≤◌, ◌==◌, Bool, true, false, ◌&&◌, ◌||◌, List, [], ◌∷◌, ◌++◌, map, drop, get_or, length, Option, Some, None, refl, sym, ap, ◌∙◌, subst}
use Rattle.std.specs.Prelude.{filter, unwrap_or, option_map}
use Rattle.std.specs.List.{flat_map}
use Rattle.std.proofs.lemmas.List.{at_drop_all, at_drop_more}
use Rattle.xf_name.specs.declared.axis.Axis.{Axis}
use Rattle.xf_name.specs.declared.axis.Axis.TheVariants.{Child, Attribute, Self_, Parent, Ancestor, AncestorOrSelf, Descendant, DescendantOrSelf, FollowingSibling, PrecedingSibling}
use Rattle.xf_def_syntax.specs.declared.expr.Expr.{Expr}
use Rattle.xf_def_syntax.specs.declared.expr.Step.{Step}
use Rattle.xf_def_syntax.specs.declared.expr.Test.{Test}
use Rattle.xf_def_forest.specs.declared.content.Node.{Node}
use Rattle.xf_def_forest.specs.Visit.{Visit, has}
use Rattle.xf_def_forest.proofs.BackLaws.{and-true}
use Rattle.xf_def_forest.proofs.RenumberLaws.{filter-through}
use Rattle.xf_def_xpath.specs.Agree.{are_apart, numbers_of}
use Rattle.xf_def_xpath.specs.Asked.{as_set, found, lists_below, read_for}
use Rattle.xf_def_xpath.specs.Asked as lang
use Rattle.xf_def_xpath.specs.AskedSteps.{filtered, if_tight, is_pair, kind_read, lists_of, read_if, stepped, tells_kinds, text_beside, walks_asked}
use Rattle.xf_def_xpath.specs.Meaning.{meaning}
use Rattle.xf_def_xpath.specs.Reads.{trace, trace_of_step}
use Rattle.xf_def_xpath.specs.Setting.{Setting, Meaning, ◌>>=◌, each, in_order, joined}
use Rattle.xf_def_xpath.specs.Steps.{begun_at, from_one, kept_by_all}
use Rattle.xf_def_xpath.proofs.Equations.{trace-step}
use Rattle.xf_def_xpath.proofs.TraceKeeps.{meaning-of_trace}
use Rattle.xf_def_xpath.proofs.VisitFacts.{filter-append, no, none-some, present, some-same}
use Rattle.xf_def_xpath.proofs.ForestVisits.{each-map, self-found}
use Rattle.xf_eval.specs.Taken.{taken}
use Rattle.xf_eval_shape.specs.declared.spot.Spot.{Spot}
use Rattle.xf_eval_shape.specs.Spots.{numbers_at, shaped}
use Rattle.xf_eval_shape.proofs.Filled.{append-none}
use Rattle.xf_eval_shape.proofs.Frames.{each-same}
use Rattle.xf_eval_dependencies.specs.declared.asked.asked.Asked.{Asked}
use Rattle.xf_eval_dependencies.specs.Asked.Beside.{goes_beside, text_of}
use Rattle.xf_eval_dependencies.specs.Asked.Tells.{Tells, is_list}
use Rattle.xf_eval_dependencies.proofs.AskedLemmas.Ends.{has-filter}

-- ---- what a step reaches

each-flat : (f : ℕ → Option (List ℕ)) (ns : List ℕ) (sets : List (List ℕ)) → each f ns ≡ Some sets → flat_map (λ n. unwrap_or (f n) []) ns ≡ joined sets
each-flat f [] sets e = ap joined (some-same e)
each-flat f (n ∷ ns) sets e = by (f n) refl (each f ns) refl e (each-flat f ns)
  where
    by : (m : Option (List ℕ)) → f n ≡ m → (k : Option (List (List ℕ))) → each f ns ≡ k → (m >>= λ y. k >>= λ ys. Some (y ∷ ys)) ≡ Some sets →
        ((sets : List (List ℕ)) → each f ns ≡ Some sets → flat_map (λ i. unwrap_or (f i) []) ns ≡ joined sets) → unwrap_or (f n) [] ++ flat_map (λ i. unwrap_or (f i) []) ns ≡ joined sets
    by None i k l j rest = none-some j
    by (Some y) i None l j rest = none-some j
    by (Some y) i (Some ys) l j rest = ap (λ m. unwrap_or m [] ++ flat_map (λ i. unwrap_or (f i) []) ns) i ∙ ap (λ l. y ++ l) (rest ys l) ∙ ap joined (some-same j)

-- ---- sets in document order

has-append : (k : ℕ) (ns ms : List ℕ) → has k (ns ++ ms) ≡ (has k ns || has k ms)
has-append k [] ms = refl
has-append k (n ∷ ns) ms = ap (λ b. (k == n) || b) (has-append k ns ms) ∙ by (k == n)
  where
    by : (b : Bool) → (b || (has k ns || has k ms)) ≡ ((b || has k ns) || has k ms)
    by true = refl
    by false = refl

has-ordered : (all : List Visit) (ns : List ℕ) (k : ℕ) → has k (numbers_of all) ≡ true → has k (in_order all ns) ≡ has k ns
has-ordered all ns k h =
    ap (has k) (sym (filter-through (λ (x : Visit). x.number) (λ n. has n ns) (λ x. has x.number ns) (λ x. refl) all))
    ∙ has-filter (λ n. has n ns) k (numbers_of all)
    ∙ ap (λ b. has k ns && b) h
    ∙ by (has k ns)
  where
    by : (b : Bool) → (b && true) ≡ b
    by true = refl
    by false = refl

-- a set may be put in order before others come to it
order-again : (all : List Visit) → are_apart (numbers_of all) ≡ true → (ns ms : List ℕ) → in_order all (in_order all ns ++ ms) ≡ in_order all (ns ++ ms)
order-again all apart ns ms =
    ap (map (λ (x : Visit). x.number)) (each-same (λ x. has x.number (in_order all ns ++ ms)) (λ x. has x.number (ns ++ ms)) all
    (each-map (λ x. found x.number all ≡ Some x) _ all
    (λ x e. has-append x.number (in_order all ns) ms ∙ ap (λ b. b || has x.number ms) (has-ordered all ns x.number (present x.number all x e)) ∙ sym (has-append x.number ns ms))
    (self-found all apart)))

-- ---- the set of a step

abbrev reached_from : Axis → Test → List Meaning → Setting → List ℕ → List ℕ
reached_from axis test ms s from = flat_map (λ n. unwrap_or (from_one axis test ms s n) []) from

taken-flat : (axis : Axis) (test : Test) (ms : List Meaning) (s : Setting) (from ns : List ℕ) → taken axis test ms s from ≡ Some ns → ns ≡ in_order s.all (reached_from axis test ms s from)
taken-flat axis test ms s from ns e = by (each (from_one axis test ms s) from) refl e
  where
    by : (m : Option (List (List ℕ))) → each (from_one axis test ms s) from ≡ m → option_map (λ sets. in_order s.all (joined sets)) m ≡ Some ns → ns ≡ in_order s.all (reached_from axis test ms s from)
    by None i j = none-some j
    by (Some sets) i j = sym (some-same j) ∙ ap (in_order s.all) (sym (each-flat (from_one axis test ms s) from sets i))

none-beside : (axis : Axis) (all : List Visit) → goes_beside axis ≡ false → (ns : List ℕ) → flat_map (text_beside axis all) ns ≡ []
none-beside axis all h [] = refl
none-beside axis all h (n ∷ ns) = ap (λ l. l ++ flat_map (text_beside axis all) ns) (by axis h) ∙ none-beside axis all h ns
  where
    by : (axis : Axis) → goes_beside axis ≡ false → text_beside axis all n ≡ []
    by Child i = refl
    by Attribute i = refl
    by Self_ i = refl
    by Parent i = refl
    by Ancestor i = refl
    by AncestorOrSelf i = refl
    by Descendant i = refl
    by DescendantOrSelf i = refl
    by FollowingSibling i = no (sym i)
    by PrecedingSibling i = no (sym i)

all-beside : (axis : Axis) (all : List Visit) → goes_beside axis ≡ true → (ns : List ℕ) → flat_map (text_of all) ns ≡ flat_map (text_beside axis all) ns
all-beside FollowingSibling all h ns = refl
all-beside PrecedingSibling all h ns = refl
all-beside Child all h ns = no h
all-beside Attribute all h ns = no h
all-beside Self_ all h ns = no h
all-beside Parent all h ns = no h
all-beside Ancestor all h ns = no h
all-beside AncestorOrSelf all h ns = no h
all-beside Descendant all h ns = no h
all-beside DescendantOrSelf all h ns = no h

-- without texts, and with them
pub stepped-plain : (is_written : Bool) (axis : Axis) (test : Test) (ms : List Meaning) (s : Setting) (from ns : List ℕ) → taken axis test ms s from ≡ Some ns → (tells_kinds is_written axis test && goes_beside axis) ≡ false →
    ns ≡ stepped is_written axis test ms s from
stepped-plain is_written axis test ms s from ns e h =
    taken-flat axis test ms s from ns e
    ∙ ap (in_order s.all) (sym (append-none (reached_from axis test ms s from)) ∙ ap (λ l. reached_from axis test ms s from ++ l) (sym (by (tells_kinds is_written axis test) (goes_beside axis) refl h)))
  where
    by : (b c : Bool) → goes_beside axis ≡ c → (b && c) ≡ false → read_if b (flat_map (text_beside axis s.all) from) ≡ []
    by false c i j = refl
    by true true i j = no (sym j)
    by true false i j = none-beside axis s.all i from

pub stepped-texts : (is_written : Bool) (axis : Axis) (test : Test) (ms : List Meaning) (s : Setting) (from ns ks : List ℕ) → are_apart (numbers_of s.all) ≡ true → taken axis test ms s from ≡ Some ns → (tells_kinds is_written axis test && goes_beside axis) ≡ true →
    ks ≡ in_order s.all (ns ++ flat_map (text_of s.all) from) → ks ≡ stepped is_written axis test ms s from
stepped-texts is_written axis test ms s from ns ks apart e h k =
    let p = and-true (tells_kinds is_written axis test) (goes_beside axis) h in
    k
    ∙ ap (λ l. in_order s.all (l ++ flat_map (text_of s.all) from)) (taken-flat axis test ms s from ns e)
    ∙ order-again s.all apart (reached_from axis test ms s from) (flat_map (text_of s.all) from)
    ∙ ap (λ l. in_order s.all (reached_from axis test ms s from ++ l)) (all-beside axis s.all p.1 from ∙ sym (ap (λ b. read_if b (flat_map (text_beside axis s.all) from)) p.0))

pub tight-meanings : (exprs : List Expr) → if_tight false (map trace exprs) ≡ map meaning exprs
tight-meanings [] = refl
tight-meanings (e ∷ es) = ap (λ m. m ∷ if_tight false (map trace es)) (meaning-of_trace e) ∙ ap (λ l. meaning e ∷ l) (tight-meanings es)

-- ---- what it tells

filter-if : (p : ℕ → Bool) (b : Bool) (ns : List ℕ) → filter p (read_if b ns) ≡ read_if b (filter p ns)
filter-if p true ns = refl
filter-if p false ns = refl

module _ (nodes : List Node) (s : Setting) (same : s.all ≡ shaped nodes) (step : Step) (asked told : Asked) (from : List ℕ) (a : lang.Asked) (t : Tells nodes asked a) where
  abbrev is_loose : Bool
  is_loose = asked.is_loose || tells_kinds step.is_written step.axis step.test || is_pair step.is_below step.axis

  pub step-tells : from ≡ begun_at step.is_below (shaped nodes) (numbers_at asked.set.items) → told.is_loose ≡ is_loose → told.is_truth ≡ false →
      numbers_at told.set.items ≡ stepped step.is_written step.axis step.test (if_tight told.is_loose (map trace step.predicates)) s from →
      told.reads ≡ asked.reads ++ read_if (tells_kinds step.is_written step.axis step.test) (flat_map (kind_read step.axis (shaped nodes)) from) ++ read_if (is_pair step.is_below step.axis) (flat_map (read_for (shaped nodes)) (numbers_at asked.set.items)) →
      told.looks ≡ asked.looks ++ filter (is_list nodes) (flat_map (lists_of step.axis (shaped nodes)) from) ++ read_if step.is_below (filter (is_list nodes) (flat_map (lists_below (shaped nodes)) (numbers_at asked.set.items))) →
      Tells nodes told ((trace_of_step step).asked s a)
  step-tells f l h e r k =
      subst (λ w. Tells nodes told (w.asked s a)) (sym (trace-step step)) (record {
        set = e ∙ ap (λ b. stepped step.is_written step.axis step.test (if_tight b (map trace step.predicates)) s from) loose ∙ ap (stepped step.is_written step.axis step.test (if_tight (a.is_loose || tells_kinds step.is_written step.axis step.test || is_pair step.is_below step.axis) (map trace step.predicates)) s) begins;
        is_loose = loose;
        is_truth = h;
        reads = r
            ∙ ap (λ i. i ++ read_if (tells_kinds step.is_written step.axis step.test) (flat_map (kind_read step.axis (shaped nodes)) from) ++ read_if (is_pair step.is_below step.axis) (flat_map (read_for (shaped nodes)) (numbers_at asked.set.items))) t.reads
            ∙ ap (λ i. a.reads ++ read_if (tells_kinds step.is_written step.axis step.test) (flat_map (kind_read step.axis (shaped nodes)) i) ++ read_if (is_pair step.is_below step.axis) (flat_map (read_for (shaped nodes)) (numbers_at asked.set.items))) begins
            ∙ ap (λ i. a.reads ++ read_if (tells_kinds step.is_written step.axis step.test) (flat_map (kind_read step.axis (shaped nodes)) start) ++ read_if (is_pair step.is_below step.axis) (flat_map (read_for (shaped nodes)) i)) t.set
            ∙ ap (λ all. a.reads ++ read_if (tells_kinds step.is_written step.axis step.test) (flat_map (kind_read step.axis all) start) ++ read_if (is_pair step.is_below step.axis) (flat_map (read_for all) a.set)) (sym same);
        looks = k
            ∙ ap (λ i. i ++ filter (is_list nodes) (flat_map (lists_of step.axis (shaped nodes)) from) ++ read_if step.is_below (filter (is_list nodes) (flat_map (lists_below (shaped nodes)) (numbers_at asked.set.items)))) t.looks
            ∙ ap (λ i. filter (is_list nodes) a.looks ++ filter (is_list nodes) (flat_map (lists_of step.axis (shaped nodes)) i) ++ read_if step.is_below (filter (is_list nodes) (flat_map (lists_below (shaped nodes)) (numbers_at asked.set.items)))) begins
            ∙ ap (λ i. filter (is_list nodes) a.looks ++ filter (is_list nodes) (flat_map (lists_of step.axis (shaped nodes)) start) ++ read_if step.is_below (filter (is_list nodes) (flat_map (lists_below (shaped nodes)) i))) t.set
            ∙ ap (λ l. filter (is_list nodes) a.looks ++ filter (is_list nodes) (flat_map (lists_of step.axis (shaped nodes)) start) ++ l) (sym (filter-if (is_list nodes) step.is_below (flat_map (lists_below (shaped nodes)) a.set)))
            ∙ ap (λ l. l ++ filter (is_list nodes) (read_if step.is_below (flat_map (lists_below (shaped nodes)) a.set))) (sym (filter-append (is_list nodes) a.looks (flat_map (lists_of step.axis (shaped nodes)) start)))
            ∙ sym (filter-append (is_list nodes) (a.looks ++ flat_map (lists_of step.axis (shaped nodes)) start) (read_if step.is_below (flat_map (lists_below (shaped nodes)) a.set)))
            ∙ ap (λ all. filter (is_list nodes) (a.looks ++ flat_map (lists_of step.axis all) start ++ read_if step.is_below (flat_map (lists_below all) a.set))) (sym same);
      })
    where
      start : List ℕ
      start = begun_at step.is_below s.all a.set

      begins : from ≡ start
      begins = f ∙ ap (begun_at step.is_below (shaped nodes)) t.set ∙ ap (λ all. begun_at step.is_below all a.set) (sym same)

      loose : told.is_loose ≡ (a.is_loose || tells_kinds step.is_written step.axis step.test || is_pair step.is_below step.axis)
      loose = l ∙ ap (λ b. b || tells_kinds step.is_written step.axis step.test || is_pair step.is_below step.axis) t.is_loose

module _ (nodes : List Node) (s : Setting) (same : s.all ≡ shaped nodes) (step : Step) (asked told : Asked) (a : lang.Asked) (t : Tells nodes asked a) where
  abbrev Loose : Bool
  Loose = asked.is_loose || tells_kinds step.is_written step.axis step.test || is_pair step.is_below step.axis

  abbrev KindReads : List Spot → List ℕ
  KindReads spots = read_if (tells_kinds step.is_written step.axis step.test) (flat_map (kind_read step.axis (shaped nodes)) (numbers_at spots))

  abbrev AxisLooks : List Spot → List ℕ
  AxisLooks spots = filter (is_list nodes) (flat_map (lists_of step.axis (shaped nodes)) (numbers_at spots))

  abbrev Reached : List Spot → List ℕ
  Reached spots = stepped step.is_written step.axis step.test (if_tight told.is_loose (map trace step.predicates)) s (numbers_at spots)

  -- from the nodes at hand
  pub step-here : step.is_below ≡ false → told.is_loose ≡ Loose → told.is_truth ≡ false → (from : List Spot) → from ≡ asked.set.items → told.reads ≡ asked.reads ++ KindReads from → told.looks ≡ asked.looks ++ AxisLooks from →
      (set : List Spot) → set ≡ asked.set.items → numbers_at told.set.items ≡ Reached set → Tells nodes told ((trace_of_step step).asked s a)
  step-here b l h from f r k set e i =
      step-tells nodes s same step asked told (numbers_at asked.set.items) a t
      (sym (ap (λ c. begun_at c (shaped nodes) (numbers_at asked.set.items)) b)) l h (i ∙ ap Reached e)
      (r ∙ ap (λ spots. asked.reads ++ KindReads spots) f ∙ sym (append-none (asked.reads ++ KindReads asked.set.items))
      ∙ ap (λ c. asked.reads ++ KindReads asked.set.items ++ read_if (is_pair c step.axis) (flat_map (read_for (shaped nodes)) (numbers_at asked.set.items))) (sym b))
      (k ∙ ap (λ spots. asked.looks ++ AxisLooks spots) f ∙ sym (append-none (asked.looks ++ AxisLooks asked.set.items))
      ∙ ap (λ c. asked.looks ++ AxisLooks asked.set.items ++ read_if c (filter (is_list nodes) (flat_map (lists_below (shaped nodes)) (numbers_at asked.set.items)))) (sym b))

  -- behind `//`
  pub step-below : step.is_below ≡ true → told.is_loose ≡ Loose → told.is_truth ≡ false → (below : List Spot) → numbers_at below ≡ begun_at true (shaped nodes) (numbers_at asked.set.items) →
      (from : List Spot) → from ≡ below → (reads : List ℕ) → reads ≡ asked.reads ++ KindReads from → (looks : List ℕ) → looks ≡ asked.looks ++ AxisLooks from →
      (above : List Spot) → above ≡ asked.set.items → told.reads ≡ reads ++ read_if (is_pair step.is_below step.axis) (flat_map (read_for (shaped nodes)) (numbers_at above)) →
      told.looks ≡ looks ++ filter (is_list nodes) (flat_map (lists_below (shaped nodes)) (numbers_at above)) →
      (set : List Spot) → set ≡ below → numbers_at told.set.items ≡ Reached set → Tells nodes told ((trace_of_step step).asked s a)
  step-below b l h below v from f reads r looks k above g r' k' set e i =
      step-tells nodes s same step asked told (numbers_at below) a t
      (v ∙ ap (λ c. begun_at c (shaped nodes) (numbers_at asked.set.items)) (sym b)) l h (i ∙ ap Reached e)
      (r' ∙ ap (λ x. x ++ read_if (is_pair step.is_below step.axis) (flat_map (read_for (shaped nodes)) (numbers_at above))) (r ∙ ap (λ spots. asked.reads ++ KindReads spots) f)
      ∙ ap (λ spots. asked.reads ++ KindReads below ++ read_if (is_pair step.is_below step.axis) (flat_map (read_for (shaped nodes)) (numbers_at spots))) g)
      (k' ∙ ap (λ x. x ++ filter (is_list nodes) (flat_map (lists_below (shaped nodes)) (numbers_at above))) (k ∙ ap (λ spots. asked.looks ++ AxisLooks spots) f)
      ∙ ap (λ spots. asked.looks ++ AxisLooks below ++ filter (is_list nodes) (flat_map (lists_below (shaped nodes)) (numbers_at spots))) g
      ∙ ap (λ c. asked.looks ++ AxisLooks below ++ read_if c (filter (is_list nodes) (flat_map (lists_below (shaped nodes)) (numbers_at asked.set.items)))) (sym b))

-- ---- a chain of steps

pub walks-round : (s : Setting) (steps : List Step) (i : ℕ) (step : Step) (b whole : lang.Asked) → i < length steps → step ≡ get_or steps i step → walks_asked s (map trace_of_step (drop i steps)) b ≡ whole →
    walks_asked s (map trace_of_step (drop (i + 1) steps)) ((trace_of_step step).asked s b) ≡ whole
walks-round s steps i step b whole l e h =
    ap (λ x. walks_asked s (map trace_of_step (drop (i + 1) steps)) ((trace_of_step x).asked s b)) e
    ∙ sym (at_drop_more (λ xs. walks_asked s (map trace_of_step xs) b) steps i step l)
    ∙ h

pub walks-end : (s : Setting) (steps : List Step) (i : ℕ) (b whole : lang.Asked) → length steps ≤ i → walks_asked s (map trace_of_step (drop i steps)) b ≡ whole → as_set b ≡ whole
walks-end s steps i b whole l h = sym (at_drop_all (λ xs. walks_asked s (map trace_of_step xs) b) steps i l) ∙ h

-- ---- predicates

pub filtered-loose : (nodes : List Node) (s : Setting) (exprs : List Expr) (asked told : Asked) (a : lang.Asked) → Tells nodes asked a → asked.is_loose ≡ true → Tells nodes told (as_set a) → Tells nodes told (filtered s (map trace exprs) a)
filtered-loose nodes s exprs asked told a t l u = record {
  set = u.set ∙ sym (ap (λ b. unwrap_or (kept_by_all s (if_tight b (map trace exprs)) a.set) []) (sym t.is_loose ∙ l));
  is_loose = u.is_loose;
  is_truth = u.is_truth;
  reads = u.reads;
  looks = u.looks;
}

pub filtered-tight : (nodes : List Node) (s : Setting) (exprs : List Expr) (asked told : Asked) (a : lang.Asked) → Tells nodes asked a → asked.is_loose ≡ false →
    kept_by_all s (map meaning exprs) (numbers_at asked.set.items) ≡ Some (numbers_at told.set.items) → told.is_loose ≡ asked.is_loose → told.is_truth ≡ false → told.reads ≡ asked.reads → told.looks ≡ asked.looks →
    Tells nodes told (filtered s (map trace exprs) a)
filtered-tight nodes s exprs asked told a t l e i h r k = record {
  set = sym (
      ap (λ b. unwrap_or (kept_by_all s (if_tight b (map trace exprs)) a.set) []) (sym t.is_loose ∙ l)
      ∙ ap (λ ms. unwrap_or (kept_by_all s ms a.set) []) (tight-meanings exprs)
      ∙ ap (λ ns. unwrap_or (kept_by_all s (map meaning exprs) ns) []) (sym t.set)
      ∙ ap (λ m. unwrap_or m []) e);
  is_loose = i ∙ t.is_loose;
  is_truth = h;
  reads = r ∙ t.reads;
  looks = k ∙ t.looks;
}

-- What an expression asks of the part, from a node of it, it asks of the whole list, and all of that is in the part: by one induction over the
-- syntax.
use Rattle.std.proofs.Common.{◌≡◌, ℕ, zero, suc, Bool, true, false, ◌||◌, List, [], ◌∷◌, ◌++◌, map, Option, Some, None, unwrap_or, refl, sym, ap, ◌∙◌, subst}
use Rattle.std.specs.List.{flat_map}
use Rattle.xf_def_syntax.specs.declared.expr.Expr.{Expr}
use Rattle.xf_def_syntax.specs.declared.expr.Expr.TheOpen.{Expr-F, Step-F}
use Rattle.xf_def_syntax.specs.declared.expr.Expr.TheFolds.{map-Expr, map-Step}
use Rattle.xf_def_syntax.specs.declared.expr.Operator.{Operator}
use Rattle.xf_def_syntax.specs.declared.expr.Operator.TheVariants.{Or, And, Equal, NotEqual, Less, LessOrEqual, Greater, GreaterOrEqual, Add, Subtract, Multiply, Divide, Modulo, Union}
use Rattle.xf_def_forest.proofs.RenumberLaws.{map-map}
use Rattle.xf_def_xpath.specs.declared.value.Value.{Value}
use Rattle.xf_def_xpath.specs.Given.{Document}
use Rattle.xf_def_xpath.specs.Setting.{Setting, Focus, Meaning, in_order}
use Rattle.xf_def_xpath.specs.Steps.{from_one, begun_at, kept_by_all, begun}
use Rattle.xf_def_xpath.specs.Functions.{called}
use Rattle.xf_def_xpath.specs.Table.{Function, function_at}
use Rattle.xf_def_xpath.specs.Table as of
use Rattle.xf_def_xpath.specs.Asked.{Asked, Trace, LinkTrace, WalkTrace, list_around, lists_below, read_for, plainly, tightly, both, as_truth, as_plain, as_set, with_read, asked_first, all_read, converted}
use Rattle.xf_def_xpath.specs.AskedSteps.{lists_of, kind_read, tells_kinds, is_pair, read_if, text_beside, if_tight, filtered, stepped, asked_from, step_asked, walks_asked}
use Rattle.xf_def_xpath.specs.AskedCalls.{beside, asked_by_both, computed, either, link_asked, links_asked, argument, own_argument, all_converted, nodes_if, with_nodes, meanings, call_asked}
use Rattle.xf_def_xpath.specs.Reads.{expr_asked, expr_trace, link_trace, step_trace, trace}
use Rattle.xf_def_xpath.proofs.Keeps.{fold_keeps}
use Rattle.xf_def_xpath.proofs.TraceKeeps.{meaning-kept, walk-kept}
use Rattle.xf_law_recalculation.specs.Within.Within.{over_part}
use Rattle.xf_law_recalculation.proofs.WithinLemmas.Within.{In, in-append, in-flat, flat-same, ordered-same, ordered-in, around-same, around-in, below-same, below-in, reached-same, reached-in, begun-same, begun-in as begun-at_in}
use Rattle.xf_law_recalculation.proofs.WithinLemmas.Lists.{read-same, read-in, lists-same, lists-in, kinds-same, kinds-in, beside-same, beside-in}
use Rattle.xf_law_recalculation.proofs.WithinLemmas.Seen.{Sees, Inside, Keeps, WalkKeeps, level-keeps, called-ok, kept-all, step-ok, begun-ok}
use Rattle.xf_law_recalculation.proofs.WithinLemmas.Told.{Agree, Told}

-- all that is asked is in the part
pub record AskedIn (p : ℕ → Bool) (a : Asked) : Type 0 where
  pub set : In p a.set
  pub reads : In p a.reads
  pub looks : In p a.looks

-- and the same is asked of both
pub record AskedKeeps (p : ℕ → Bool) (of_part of_whole : Asked) : Type 0 where
  pub same : of_part ≡ of_whole
  pub inside : AskedIn p of_whole

pub record TraceKeeps (p : ℕ → Bool) (t : Trace) : Type 0 where
  pub meaning : Keeps p t.meaning
  pub asked : (b : Setting) (strings : ℕ → List ℕ) (documents : List Document) → Sees p b strings documents → (c : Focus) → p c.node ≡ true → AskedKeeps p (t.asked (over_part p b strings documents) c) (t.asked b c)

pub record WalkTraceKeeps (p : ℕ → Bool) (t : WalkTrace) : Type 0 where
  pub walk : WalkKeeps p t.walk
  pub asked : (b : Setting) (strings : ℕ → List ℕ) (documents : List Document) → Sees p b strings documents → (a : Asked) → AskedIn p a → AskedKeeps p (t.asked (over_part p b strings documents) a) (t.asked b a)

module _ (p : ℕ → Bool) (b : Setting) (strings : ℕ → List ℕ) (documents : List Document) (h : Sees p b strings documents) where
  abbrev s : Setting
  s = over_part p b strings documents

  -- ---- what is made of what is asked

  plainly-in : (reads looks : List ℕ) → In p reads → In p looks → AskedIn p (plainly reads looks)
  plainly-in reads looks i j = record { set = tt; reads = i; looks = j }

  plain-in : (a : Asked) → AskedIn p a → AskedIn p (as_plain a)
  plain-in a i = plainly-in a.reads a.looks i.reads i.looks

  truth-in : (a : Asked) → AskedIn p a → AskedIn p (as_truth a)
  truth-in a i = record { set = tt; reads = i.reads; looks = i.looks }

  both-in : (a a' : Asked) → AskedIn p a → AskedIn p a' → AskedIn p (both a a')
  both-in a a' i j = plainly-in _ _ (in-append p a.reads a'.reads i.reads j.reads) (in-append p a.looks a'.looks i.looks j.looks)

  read-same_of : (ns : List ℕ) (a : Asked) → In p ns → with_read s.all ns a ≡ with_read b.all ns a
  read-same_of ns a i =
      ap (λ rs. plainly (a.reads ++ rs) (a.looks ++ flat_map (lists_below s.all) ns)) (flat-same p (read_for s.all) (read_for b.all) ns i (λ n k. read-same p b.all h.trees n k))
      ∙ ap (λ ls. plainly (a.reads ++ flat_map (read_for b.all) ns) (a.looks ++ ls)) (flat-same p (lists_below s.all) (lists_below b.all) ns i (λ n k. below-same p b.all h.trees n k))

  read-in_of : (ns : List ℕ) (a : Asked) → In p ns → AskedIn p a → AskedIn p (with_read b.all ns a)
  read-in_of ns a i j = plainly-in _ _
      (in-append p a.reads (flat_map (read_for b.all) ns) j.reads (in-flat p (read_for b.all) ns i (λ n k. read-in p b.all h.trees n k)))
      (in-append p a.looks (flat_map (lists_below b.all) ns) j.looks (in-flat p (lists_below b.all) ns i (λ n k. below-in p b.all h.trees n k)))

  first-in : (t : Bool) (ns : List ℕ) → In p ns → In p (asked_first t ns)
  first-in true ns i = i
  first-in false [] i = tt
  first-in false (n ∷ ns) i = (i.0, tt)

  abbrev Ok : Asked → Asked → Type 0
  Ok a a' = AskedKeeps p a a'

  plain-ok : (a a' : Asked) → Ok a a' → Ok (as_plain a) (as_plain a')
  plain-ok a a' i = record { same = ap as_plain i.same; inside = plain-in a' i.inside }

  truth-ok : (a a' : Asked) → Ok a a' → Ok (as_truth a) (as_truth a')
  truth-ok a a' i = record { same = ap as_truth i.same; inside = truth-in a' i.inside }

  both-ok : (a a' c c' : Asked) → Ok a a' → Ok c c' → Ok (both a c) (both a' c')
  both-ok a a' c c' i j = record { same = ap (λ x. both x c) i.same ∙ ap (both a') j.same; inside = both-in a' c' i.inside j.inside }

  all-ok : (a a' : Asked) → Ok a a' → Ok (all_read s a) (all_read b a')
  all-ok a a' i = record { same = ap (all_read s) i.same ∙ read-same_of a'.set a' i.inside.set; inside = read-in_of a'.set a' i.inside.set i.inside }

  pub converted-ok : (a a' : Asked) → Ok a a' → Ok (converted s a) (converted b a')
  converted-ok a a' i =
      let first = first-in a'.is_loose a'.set i.inside.set in
      record { same = ap (converted s) i.same ∙ read-same_of (asked_first a'.is_loose a'.set) a' first; inside = read-in_of (asked_first a'.is_loose a'.set) a' first i.inside }

  -- ---- operators

  beside-ok : (t : Bool) (a a' : Asked) → Ok a a' → Ok (beside s t a) (beside b t a')
  beside-ok true a a' i = i
  beside-ok false a a' i = all-ok a a' i

  beside-told : (t t' : Bool) (a a' : Asked) → t ≡ t' → Ok a a' → Ok (beside s t a) (beside b t' a')
  beside-told t t' a a' e i = let j = beside-ok t' a a' i in record { same = ap (λ u. beside s u a) e ∙ j.same; inside = j.inside }

  compared-ok : (a a' c c' : Asked) → Ok a a' → Ok c c' → Ok (asked_by_both s a c) (asked_by_both b a' c')
  compared-ok a a' c c' i j =
      truth-ok _ _ (both-ok (beside s c.is_truth a) (beside b c'.is_truth a') (beside s a.is_truth c) (beside b a'.is_truth c')
      (beside-told c.is_truth c'.is_truth a a' (ap (λ (x : Asked). x.is_truth) j.same) i) (beside-told a.is_truth a'.is_truth c c' (ap (λ (x : Asked). x.is_truth) i.same) j))

  computed-ok : (a a' c c' : Asked) → Ok a a' → Ok c c' → Ok (computed s a c) (computed b a' c')
  computed-ok a a' c c' i j = both-ok (converted s a) (converted b a') (converted s c) (converted b c') (converted-ok a a' i) (converted-ok c c' j)

  either-ok : (a a' c c' : Asked) → Ok a a' → Ok c c' → Ok (either s a c) (either b a' c')
  either-ok a a' c c' i j =
      let set = in-append p a'.set c'.set i.inside.set j.inside.set in
      record {
        same = ap (λ x. either s x c) i.same ∙ ap (either s a') j.same
            ∙ ap (λ ns. record { set = ns; is_loose = a'.is_loose || c'.is_loose; is_truth = false; reads = a'.reads ++ c'.reads; looks = a'.looks ++ c'.looks }) (ordered-same p b.all (a'.set ++ c'.set) set);
        inside = record {
          set = ordered-in p b.all (a'.set ++ c'.set) set;
          reads = in-append p a'.reads c'.reads i.inside.reads j.inside.reads;
          looks = in-append p a'.looks c'.looks i.inside.looks j.inside.looks;
        };
      }

  link-ok : (o : Operator) (a a' c c' : Asked) → Ok a a' → Ok c c' → Ok (link_asked o s a c) (link_asked o b a' c')
  link-ok Or a a' c c' i j = truth-ok _ _ (both-ok a a' c c' i j)
  link-ok And a a' c c' i j = truth-ok _ _ (both-ok a a' c c' i j)
  link-ok Equal a a' c c' i j = compared-ok a a' c c' i j
  link-ok NotEqual a a' c c' i j = compared-ok a a' c c' i j
  link-ok Less a a' c c' i j = compared-ok a a' c c' i j
  link-ok LessOrEqual a a' c c' i j = compared-ok a a' c c' i j
  link-ok Greater a a' c c' i j = compared-ok a a' c c' i j
  link-ok GreaterOrEqual a a' c c' i j = compared-ok a a' c c' i j
  link-ok Add a a' c c' i j = computed-ok a a' c c' i j
  link-ok Subtract a a' c c' i j = computed-ok a a' c c' i j
  link-ok Multiply a a' c c' i j = computed-ok a a' c c' i j
  link-ok Divide a a' c c' i j = computed-ok a a' c c' i j
  link-ok Modulo a a' c c' i j = computed-ok a a' c c' i j
  link-ok Union a a' c c' i j = either-ok a a' c c' i j

  -- ---- steps

  abbrev Known : Type 0
  Known = (t : Trace) × TraceKeeps p t

  abbrev KnownLink : Type 0
  KnownLink = (l : LinkTrace) × TraceKeeps p l.right

  abbrev KnownWalk : Type 0
  KnownWalk = (w : WalkTrace) × WalkTraceKeeps p w

  abbrev SuchMeaning : Type 0
  SuchMeaning = (m : Meaning) × Keeps p m

  abbrev known : Known → SuchMeaning
  known k = (k.0.meaning, k.1.meaning)

  abbrev traces : List Known → List Trace
  traces ts = map (λ (t : Known). t.0) ts

  -- the meanings of what is known
  meant : (ts : List Known) → map (λ (t : Trace). t.meaning) (traces ts) ≡ map (λ (m : SuchMeaning). m.0) (map known ts)
  meant ts = map-map (λ (t : Trace). t.meaning) (λ (t : Known). t.0) ts ∙ sym (map-map (λ (m : SuchMeaning). m.0) known ts)

  tight-ok : (loose : Bool) (ts : List Known) (ns : List ℕ) → In p ns → Agree (In p) (kept_by_all s (if_tight loose (traces ts)) ns) (kept_by_all b (if_tight loose (traces ts)) ns)
  tight-ok true ts ns i = record { same = refl; told = i }
  tight-ok false ts ns i = subst (λ ms. Agree (In p) (kept_by_all s ms ns) (kept_by_all b ms ns)) (sym (meant ts)) (kept-all p b strings documents h (map known ts) ns i)

  unwrapped-in : (m : Option (List ℕ)) → Told (In p) m → In p (unwrap_or m [])
  unwrapped-in None i = tt
  unwrapped-in (Some ns) i = i

  pub filtered-ok : (ts : List Known) (a a' : Asked) → Ok a a' → Ok (filtered s (traces ts) a) (filtered b (traces ts) a')
  filtered-ok ts a a' i =
      let k = tight-ok a'.is_loose ts a'.set i.inside.set in
      record {
        same = ap (filtered s (traces ts)) i.same ∙ ap (λ m. record (as_set a') { set = unwrap_or m [] }) k.same;
        inside = record { set = unwrapped-in _ k.told; reads = i.inside.reads; looks = i.inside.looks };
      }

  abbrev Taken : Type 0
  Taken = Step-F Known KnownLink KnownWalk

  abbrev predicates : Bool → Taken → List Meaning
  predicates loose y = if_tight loose (traces y.predicates)

  abbrev one : Taken → Bool → Setting → ℕ → List ℕ
  one y loose t n = unwrap_or (from_one y.axis y.test (predicates loose y) t n) []

  one-ok : (y : Taken) (loose : Bool) (n : ℕ) → p n ≡ true → (one y loose s n ≡ one y loose b n) × In p (one y loose b n)
  one-ok y loose n i =
      let at = reached-in p b.all h.trees y.axis y.test n i in
      let k = tight-ok loose y.predicates _ at in (
        ap (λ ns. unwrap_or (kept_by_all s (predicates loose y) ns) []) (reached-same p b.all h.trees y.axis y.test n i) ∙ ap (λ m. unwrap_or m []) k.same,
        unwrapped-in _ k.told,
      )

  if-in : (t : Bool) (ns : List ℕ) → In p ns → In p (read_if t ns)
  if-in true ns i = i
  if-in false ns i = tt

  -- what is asked of each of some nodes
  flat-both : (f g : ℕ → List ℕ) (ns : List ℕ) → In p ns → ((n : ℕ) → p n ≡ true → (f n ≡ g n) × In p (g n)) → (flat_map f ns ≡ flat_map g ns) × In p (flat_map g ns)
  flat-both f g ns i k = (flat-same p f g ns i (λ n j. (k n j).0), in-flat p g ns i (λ n j. (k n j).1))

  if-both : (t : Bool) (ns ms : List ℕ) → (ns ≡ ms) × In p ms → (read_if t ns ≡ read_if t ms) × In p (read_if t ms)
  if-both t ns ms i = (ap (read_if t) i.0, if-in t ms i.1)

  append-both : (ns ns' ms ms' : List ℕ) → (ns ≡ ns') × In p ns' → (ms ≡ ms') × In p ms' → (ns ++ ms ≡ ns' ++ ms') × In p (ns' ++ ms')
  append-both ns ns' ms ms' i j = (ap (λ l. l ++ ms) i.0 ∙ ap (λ l. ns' ++ l) j.0, in-append p ns' ms' i.1 j.1)

  stepped-ok : (y : Taken) (loose : Bool) (from : List ℕ) → In p from →
      (stepped y.is_written y.axis y.test (predicates loose y) s from ≡ stepped y.is_written y.axis y.test (predicates loose y) b from) × In p (stepped y.is_written y.axis y.test (predicates loose y) b from)
  stepped-ok y loose from i =
      let told = tells_kinds y.is_written y.axis y.test in
      let k = append-both (flat_map (one y loose s) from) (flat_map (one y loose b) from) (read_if told (flat_map (text_beside y.axis s.all) from)) (read_if told (flat_map (text_beside y.axis b.all) from))
      (flat-both (one y loose s) (one y loose b) from i (one-ok y loose))
      (if-both told (flat_map (text_beside y.axis s.all) from) (flat_map (text_beside y.axis b.all) from)
      (flat-both (text_beside y.axis s.all) (text_beside y.axis b.all) from i (λ n j. (beside-same p b.all h.trees y.axis n j, beside-in p b.all h.trees y.axis n j)))) in (
        ap (in_order s.all) k.0 ∙ ordered-same p b.all _ k.1,
        ordered-in p b.all _ k.1,
      )

  abbrev open_step : Taken → Step-F Trace LinkTrace WalkTrace
  open_step y = map-Step Known KnownLink KnownWalk Trace LinkTrace WalkTrace (λ e. e.0) (λ e. e.0) (λ e. e.0) y

  from-ok : (y : Taken) (a : Asked) (from : List ℕ) (loose : Bool) → AskedIn p a → In p from → Ok (asked_from (open_step y) s a from loose) (asked_from (open_step y) b a from loose)
  from-ok y a from loose i j =
      let told = tells_kinds y.is_written y.axis y.test in
      let set = stepped-ok y loose from j in
      let reads = append-both (a.reads ++ read_if told (flat_map (kind_read y.axis s.all) from)) (a.reads ++ read_if told (flat_map (kind_read y.axis b.all) from))
      (read_if (is_pair y.is_below y.axis) (flat_map (read_for s.all) a.set)) (read_if (is_pair y.is_below y.axis) (flat_map (read_for b.all) a.set))
      (append-both a.reads a.reads (read_if told (flat_map (kind_read y.axis s.all) from)) (read_if told (flat_map (kind_read y.axis b.all) from)) (refl, i.reads)
      (if-both told _ _ (flat-both (kind_read y.axis s.all) (kind_read y.axis b.all) from j (λ n k. (kinds-same p b.all h.trees y.axis n k, kinds-in p b.all h.trees y.axis n k)))))
      (if-both (is_pair y.is_below y.axis) _ _ (flat-both (read_for s.all) (read_for b.all) a.set i.set (λ n k. (read-same p b.all h.trees n k, read-in p b.all h.trees n k)))) in
      let looks = append-both (a.looks ++ flat_map (lists_of y.axis s.all) from) (a.looks ++ flat_map (lists_of y.axis b.all) from)
      (read_if y.is_below (flat_map (lists_below s.all) a.set)) (read_if y.is_below (flat_map (lists_below b.all) a.set))
      (append-both a.looks a.looks (flat_map (lists_of y.axis s.all) from) (flat_map (lists_of y.axis b.all) from) (refl, i.looks)
      (flat-both (lists_of y.axis s.all) (lists_of y.axis b.all) from j (λ n k. (lists-same p b.all h.trees y.axis n k, lists-in p b.all h.trees y.axis n k))))
      (if-both y.is_below _ _ (flat-both (lists_below s.all) (lists_below b.all) a.set i.set (λ n k. (below-same p b.all h.trees n k, below-in p b.all h.trees n k)))) in
      record {
        same = made loose set.0 reads.0 looks.0;
        inside = record { set = set.1; reads = reads.1; looks = looks.1 };
      }
    where
      made : (loose : Bool) {set set' reads reads' looks looks' : List ℕ} → set ≡ set' → reads ≡ reads' → looks ≡ looks' →
          ◌≡◌ {A = Asked} (record { set = set; is_loose = loose; is_truth = false; reads = reads; looks = looks }) (record { set = set'; is_loose = loose; is_truth = false; reads = reads'; looks = looks' })
      made loose i j k = cc (i, j, k)

  pub step_asked-ok : (y : Taken) (a : Asked) → AskedIn p a → Ok (step_asked (open_step y) s a) (step_asked (open_step y) b a)
  step_asked-ok y a i =
      let loose = a.is_loose || tells_kinds y.is_written y.axis y.test || is_pair y.is_below y.axis in
      let k = from-ok y a (begun_at y.is_below b.all a.set) loose i (begun-at_in p b.all h.trees y.is_below a.set i.set) in
      record { same = ap (λ from. asked_from (open_step y) s a from loose) (begun-same p b.all h.trees y.is_below a.set i.set) ∙ k.same; inside = k.inside }

  pub walks-ok : (ws : List KnownWalk) (a : Asked) → AskedIn p a → Ok (walks_asked s (map (λ (w : KnownWalk). w.0) ws) a) (walks_asked b (map (λ (w : KnownWalk). w.0) ws) a)
  walks-ok [] a i = record { same = refl; inside = record { set = i.set; reads = i.reads; looks = i.looks } }
  walks-ok (w ∷ ws) a i =
      let j = w.1.asked b strings documents h a i in
      let k = walks-ok ws (w.0.asked b a) j.inside in
      record { same = ap (walks_asked s (map (λ (v : KnownWalk). v.0) ws)) j.same ∙ k.same; inside = k.inside }

  walks-told : (ws : List KnownWalk) (a a' : Asked) → Ok a a' → Ok (walks_asked s (map (λ (w : KnownWalk). w.0) ws) a) (walks_asked b (map (λ (w : KnownWalk). w.0) ws) a')
  walks-told ws a a' i = let k = walks-ok ws a' i.inside in record { same = ap (walks_asked s (map (λ (w : KnownWalk). w.0) ws)) i.same ∙ k.same; inside = k.inside }

  -- ---- functions

  module _ (c : Focus) (here : p c.node ≡ true) where
    abbrev at : Trace → Asked
    at t = t.asked s c

    abbrev at_whole : Trace → Asked
    at_whole t = t.asked b c

    known-ok : (t : Known) → Ok (at t.0) (at_whole t.0)
    known-ok t = t.1.asked b strings documents h c here

    links-ok : (links : List KnownLink) (a a' : Asked) → Ok a a' → Ok (links_asked (map (λ (l : KnownLink). l.0) links) s c a) (links_asked (map (λ (l : KnownLink). l.0) links) b c a')
    links-ok [] a a' i = i
    links-ok (l ∷ ls) a a' i = links-ok ls _ _ (link-ok l.0.operator a a' (l.0.right.asked s c) (l.0.right.asked b c) i (l.1.asked b strings documents h c here))

    argument-ok : (place : ℕ) (ts : List Known) → Ok (argument place (traces ts) s c) (argument place (traces ts) b c)
    argument-ok place [] = record { same = refl; inside = plainly-in [] [] tt tt }
    argument-ok zero (t ∷ ts) = known-ok t
    argument-ok (suc place) (t ∷ ts) = argument-ok place ts

    own-ok : (ts : List Known) → Ok (own_argument (traces ts) s c) (own_argument (traces ts) b c)
    own-ok [] = record { same = refl; inside = record { set = (here, tt); reads = tt; looks = tt } }
    own-ok (t ∷ ts) = known-ok t

    all-converted : (ts : List Known) → Ok (all_converted (traces ts) s c) (all_converted (traces ts) b c)
    all-converted [] = record { same = refl; inside = plainly-in [] [] tt tt }
    all-converted (t ∷ ts) = both-ok (converted s (at t.0)) (converted b (at_whole t.0)) (all_converted (traces ts) s c) (all_converted (traces ts) b c) (converted-ok (at t.0) (at_whole t.0) (known-ok t)) (all-converted ts)

    nodes-in : (m : Option Value) → Told (Inside p) m → In p (nodes_if m)
    nodes-in None i = tt
    nodes-in (Some v) i = i

    given-ok : (g : Function) (code : ℕ) (ts : List Known) → (nodes_if (called g code (meanings (traces ts)) s c) ≡ nodes_if (called g code (meanings (traces ts)) b c)) × In p (nodes_if (called g code (meanings (traces ts)) b c))
    given-ok g code ts =
        let k = called-ok p b strings documents h c here g code (map known ts) in
        subst (λ ms. (nodes_if (called g code ms s c) ≡ nodes_if (called g code ms b c)) × In p (nodes_if (called g code ms b c))) (sym (meant ts)) (ap nodes_if k.same, nodes-in _ k.told)

    with-ok : (ns ns' looks looks' : List ℕ) (a a' : Asked) → (ns ≡ ns') × In p ns' → (looks ≡ looks') × In p looks' → Ok a a' → Ok (with_nodes ns looks a) (with_nodes ns' looks' a')
    with-ok ns ns' looks looks' a a' i j k = record {
      same = ap (with_nodes ns looks) k.same ∙ ap (λ ms. with_nodes ms looks a') i.0 ∙ ap (λ ls. with_nodes ns' ls a') j.0;
      inside = record { set = i.1; reads = k.inside.reads; looks = in-append p a'.looks looks' k.inside.looks j.1 };
    }

    call-ok : (g : Function) (code : ℕ) (ts : List Known) → Ok (call_asked g code (traces ts) s c) (call_asked g code (traces ts) b c)
    call-ok of.asking code ts = truth-ok _ _ (all-converted ts)
    call-ok of.plainly code ts = all-converted ts
    call-ok of.owning code ts = converted-ok _ _ (own-ok ts)
    call-ok of.boolean code ts = truth-ok _ _ (argument-ok 0 ts)
    call-ok of.not code ts = truth-ok _ _ (argument-ok 0 ts)
    call-ok (of.truth t) code ts = record { same = refl; inside = record { set = tt; reads = tt; looks = tt } }
    call-ok of.choosing code ts = either-ok _ _ _ _ (plain-ok _ _ (argument-ok 0 ts)) (either-ok _ _ _ _ (argument-ok 1 ts) (argument-ok 2 ts))
    call-ok of.branching code ts = both-ok _ _ _ _ (argument-ok 0 ts) (computed-ok _ _ _ _ (argument-ok 1 ts) (argument-ok 2 ts))
    call-ok of.counting code ts = plain-ok _ _ (argument-ok 0 ts)
    call-ok of.counting_filled code ts = all-ok _ _ (argument-ok 0 ts)
    call-ok of.adding code ts = all-ok _ _ (argument-ok 0 ts)
    call-ok of.averaging code ts = all-ok _ _ (argument-ok 0 ts)
    call-ok of.greatest code ts = all-ok _ _ (argument-ok 0 ts)
    call-ok of.least code ts = all-ok _ _ (argument-ok 0 ts)
    call-ok of.local_name code ts = plain-ok _ _ (own-ok ts)
    call-ok of.name code ts = plain-ok _ _ (own-ok ts)
    call-ok of.namespace code ts = plain-ok _ _ (own-ok ts)
    call-ok of.number code ts = converted-ok _ _ (own-ok ts)
    call-ok of.string code ts = converted-ok _ _ (own-ok ts)
    call-ok of.current code ts = record { same = refl; inside = record { set = (h.current, tt); reads = tt; looks = tt } }
    call-ok of.event code ts = with-ok (nodes_if (called of.event code (meanings (traces ts)) s c)) _ [] [] (all_converted (traces ts) s c) _ (given-ok of.event code ts) (refl, tt) (all-converted ts)
    call-ok of.index code ts = all-converted ts
    call-ok of.instance code ts =
        let given = given-ok of.instance code ts in
        let ns : List ℕ = nodes_if (called of.instance code (meanings (traces ts)) b c) in
        with-ok (nodes_if (called of.instance code (meanings (traces ts)) s c)) ns (flat_map (list_around s.all) (nodes_if (called of.instance code (meanings (traces ts)) s c))) (flat_map (list_around b.all) ns) (all_converted (traces ts) s c) _ given
        (ap (flat_map (list_around s.all)) given.0 ∙ flat-same p (list_around s.all) (list_around b.all) ns given.1 (λ n k. around-same p b.all h.trees n k), in-flat p (list_around b.all) ns given.1 (λ n k. around-in p b.all h.trees n k))
        (all-converted ts)
    call-ok of.last code ts = record { same = refl; inside = plainly-in [] [] tt tt }
    call-ok of.position code ts = record { same = refl; inside = plainly-in [] [] tt tt }

-- ---- every expression

module _ (p : ℕ → Bool) where
  abbrev Such : Type 0
  Such = (t : Trace) × TraceKeeps p t

  abbrev SuchLink : Type 0
  SuchLink = (l : LinkTrace) × TraceKeeps p l.right

  abbrev SuchWalk : Type 0
  SuchWalk = (w : WalkTrace) × WalkTraceKeeps p w

  abbrev AskedBy : (Setting → Focus → Asked) → Type 0
  AskedBy m = (b : Setting) (strings : ℕ → List ℕ) (documents : List Document) → Sees p b strings documents → (c : Focus) → p c.node ≡ true → AskedKeeps p (m (over_part p b strings documents) c) (m b c)

  asked-level : (y : Expr-F Such SuchLink SuchWalk) → AskedBy (expr_asked (map-Expr Such SuchLink SuchWalk Trace LinkTrace WalkTrace (λ e. e.0) (λ e. e.0) (λ e. e.0) y))
  asked-level (Expr-F.Number place k) = λ b strings documents h c i. record { same = refl; inside = plainly-in p b strings documents h [] [] tt tt }
  asked-level (Expr-F.Literal place text) = λ b strings documents h c i. record { same = refl; inside = plainly-in p b strings documents h [] [] tt tt }
  asked-level (Expr-F.Call place code ts) = λ b strings documents h c i. call-ok p b strings documents h c i (function_at code) code ts
  asked-level (Expr-F.Negated place signs t) = λ b strings documents h c i. converted-ok p b strings documents h _ _ (t.1.asked b strings documents h c i)
  asked-level (Expr-F.Chain first links) = λ b strings documents h c i. links-ok p b strings documents h c i links _ _ (first.1.asked b strings documents h c i)
  asked-level (Expr-F.Filter first ts) = λ b strings documents h c i. filtered-ok p b strings documents h ts _ _ (first.1.asked b strings documents h c i)
  asked-level (Expr-F.Path place start ws) = λ b strings documents h c i.
      let at = begun-ok p b strings documents h c i start in
      walks-told p b strings documents h ws (tightly (begun start (over_part p b strings documents) c)) (tightly (begun start b c)) (record { same = ap tightly at.0; inside = record { set = at.1; reads = tt; looks = tt } })
  asked-level (Expr-F.From first ws) = λ b strings documents h c i. walks-told p b strings documents h ws _ _ (first.1.asked b strings documents h c i)

  trace-level : (y : Expr-F Such SuchLink SuchWalk) → TraceKeeps p (expr_trace (map-Expr Such SuchLink SuchWalk Trace LinkTrace WalkTrace (λ e. e.0) (λ e. e.0) (λ e. e.0) y))
  trace-level y = record {
    meaning = meaning-kept (Keeps p) (λ l. Keeps p l.right) (WalkKeeps p) Such SuchLink SuchWalk (λ e. e.0) (λ e. e.0) (λ e. e.0) (λ e. e.1.meaning) (λ e. e.1.meaning) (λ e. e.1.walk) (level-keeps p) y;
    asked = asked-level y;
  }

  step-level : (y : Step-F Such SuchLink SuchWalk) → WalkTraceKeeps p (step_trace (map-Step Such SuchLink SuchWalk Trace LinkTrace WalkTrace (λ e. e.0) (λ e. e.0) (λ e. e.0) y))
  step-level y = record {
    walk = walk-kept (Keeps p) (λ l. Keeps p l.right) (WalkKeeps p) Such SuchLink SuchWalk (λ e. e.0) (λ e. e.0) (λ e. e.0) (λ e. e.1.meaning) (λ e. e.1.meaning) (λ e. e.1.walk)
        (λ z b strings documents h ns i. step-ok p b strings documents h z ns i) y;
    asked = λ b strings documents h a i. step_asked-ok p b strings documents h y a i;
  }

  pub trace-keeps : (e : Expr) → TraceKeeps p (trace e)
  trace-keeps = fold_keeps Trace LinkTrace WalkTrace expr_trace link_trace step_trace (TraceKeeps p) (λ l. TraceKeeps p l.right) (WalkTraceKeeps p) trace-level (λ y. y.right.1) step-level

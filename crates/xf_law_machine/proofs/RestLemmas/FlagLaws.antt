-- Which behaviours are due after those that were done: those of one model, and of all where all were done in turn.
use Rattle.std.proofs.Common.{ℕ, zero, suc, ◌+◌, ◌≡◌, Bool, true, false, List, [], ◌∷◌, ◌++◌, map, filter, length, get_or, nat_lt, Option, Some, None, Result, Ok, Err, refl, ap, ◌∙◌, subst, arith}
use Rattle.xf_def_forest.specs.Shape.{shape_of}
use Rattle.xf_def_model.specs.Applied.{Entry, Exception, applied}
use Rattle.xf_def_model.specs.Entries.{edge_count}
use Rattle.xf_def_model.specs.Circular.{Reader, calculated, dependents}
use Rattle.xf_def_model.specs.Pertinent.{AllOf}
use Rattle.xf_def_model.specs.Settled.{Valued, calculates, settled_contents, values_over, passed}
use Rattle.xf_def_model.specs.Pertinent.{pertinent_count}
use Rattle.xf_def_forest.specs.Visit.{visits}
use Rattle.xf_def_forest.specs.Shape.{shape}
use Rattle.xf_def_machine.specs.declared.limit.LimitWord.{LimitWord}
use Rattle.xf_def_machine.specs.declared.limit.LimitWord.TheVariants.{Edges}
use Rattle.xf_def_machine.specs.Profile.{Profile}
use Rattle.xf_def_machine.specs.State.{Model, State}
use Rattle.xf_def_machine.specs.Refusal.{word_of, unless_passed, if_over}
use Rattle.xf_def_machine.specs.Flow.{◌>>=◌, when, in_turn}
use Rattle.xf_def_machine.specs.Surround.{bind_scope, all_in}
use Rattle.xf_def_machine.specs.Primitives.{changed_at, in_model, over_made}
use Rattle.xf_def_machine.specs.Cycles.{counted_from, reported_cycle}
use Rattle.xf_def_machine.specs.Behave.{no_model, model_at, asked_by_all, changes_of, with_contents, is_invalid, within_edges, rebuilt_with, unless_cycle, no_cycle, by_applied, rebuild, recalculated_with, settled_in, evaluated_more, recalculate, revalidated_with, revalidate}
use Rattle.xf_def_machine.specs.Update.{if_due, due_rebuild, due_recalculation, due_revalidation}
use Rattle.xf_law_machine.specs.Behaviours.Chain.{NoRebuild, NoneBefore}
use Rattle.xf_law_machine.proofs.RestLemmas.Holds.{Held, held-then, held-more, held-both, held-when}

-- no behaviour is due but for the refresh
pub record IsCalm (m : Model) : Type 0 where
  pub rebuild : m.flags.rebuild ≡ false
  pub recalculate : m.flags.recalculate ≡ false
  pub revalidate : m.flags.revalidate ≡ false

-- ---- lists of models

pub changed-at : (Q : Model → Type 0) (change : Model → Model) (k : ℕ) (ms : List Model)
    → Q no_model → Q (change (get_or ms k no_model)) → Q (get_or (changed_at k change ms) k no_model)
changed-at Q change zero [] h c = h
changed-at Q change (suc k) [] h c = h
changed-at Q change zero (m ∷ ms) h c = c
changed-at Q change (suc k) (m ∷ ms) h c = changed-at Q change k ms h c

pub kept-at : (Q : Model → Type 0) (change : Model → Model) → ((m : Model) → Q m → Q (change m)) → (k j : ℕ) (ms : List Model)
    → Q (get_or ms j no_model) → Q (get_or (changed_at k change ms) j no_model)
kept-at Q change f k j [] h = h
kept-at Q change f zero zero (m ∷ ms) h = f m h
kept-at Q change f zero (suc j) (m ∷ ms) h = h
kept-at Q change f (suc k) zero (m ∷ ms) h = h
kept-at Q change f (suc k) (suc j) (m ∷ ms) h = kept-at Q change f k j ms h

pub changed-length : (change : Model → Model) (k : ℕ) (ms : List Model) → length (changed_at k change ms) ≡ length ms
changed-length change k [] = refl
changed-length change zero (m ∷ ms) = refl
changed-length change (suc k) (m ∷ ms) = ap suc (changed-length change k ms)

-- the first so many are
abbrev CalmTo : ℕ → List Model → Type 0
CalmTo zero ms = Unit {0}
CalmTo (suc k) [] = Unit {0}
CalmTo (suc k) (m ∷ ms) = IsCalm m × CalmTo k ms

calm-more : (k : ℕ) (ms : List Model) → CalmTo k ms → IsCalm (get_or ms k no_model) → CalmTo (suc k) ms
calm-more zero [] h c = tt
calm-more zero (m ∷ ms) h c = (c, tt)
calm-more (suc k) [] h c = tt
calm-more (suc k) (m ∷ ms) h c = (h.0, calm-more k ms h.1 c)

calm-all : (ms : List Model) → CalmTo (length ms) ms → AllOf IsCalm ms
calm-all [] h = tt
calm-all (m ∷ ms) h = (h.0, calm-all ms h.1)

calm-kept : (change : Model → Model) → ((m : Model) → IsCalm m → IsCalm (change m)) → (j k : ℕ) (ms : List Model) → CalmTo k ms → CalmTo k (changed_at j change ms)
calm-kept change f j zero ms h = tt
calm-kept change f j (suc k) [] h = tt
calm-kept change f zero (suc k) (m ∷ ms) h = (f m h.0, h.1)
calm-kept change f (suc j) (suc k) (m ∷ ms) h = (h.0, calm-kept change f j k ms h.1)

-- ---- what the behaviours make

pub over-held : {X : Type 0} (P : X → Type 0) (b : Bool) (word : LimitWord) (s : State) (x : X) → (b ≡ false → P x) → Held P (unless_passed s (if_over b word) x)
over-held P true word s x k = tt
over-held P false word s x k = k refl

cycle-held : (P : State → Type 0) (before : State) (readers : List Reader) (o : Option (List ℕ)) (s : State) → P s → Held P (unless_cycle before readers o s)
cycle-held P before readers None s h = h
cycle-held P before readers (Some places) s h = tt

applied-held : (P : State → Type 0) (p : Profile) (model : ℕ) (r : Result (List Entry) Exception) (s : State)
    → ((entries : List Entry) (asked : ℕ) → nat_lt p.edges (asked_by_all (in_model (rebuilt_with entries asked) model s)) ≡ false → P (in_model (rebuilt_with entries asked) model s))
    → Held P (by_applied p model r s)
applied-held P p model (Err x) s k = tt
applied-held P p model (Ok entries) s k =
    let asked = edge_count (bind_scope p s model) (shape_of s.forest.nodes) entries in
    let after = in_model (rebuilt_with entries asked) model s in
    held-then P P (within_edges p after) (no_cycle p model entries)
    (over-held P (nat_lt p.edges (asked_by_all after)) Edges after after (k entries asked))
    (λ t h. let readers = calculated (bind_scope p t model) (shape_of t.forest.nodes) entries in
    cycle-held P t readers (reported_cycle (dependents (shape_of t.forest.nodes) readers)) t h)

pub rebuild-held : (P : State → Type 0) (p : Profile) (model : ℕ) (s : State)
    → ((entries : List Entry) (asked : ℕ) → nat_lt p.edges (asked_by_all (in_model (rebuilt_with entries asked) model s)) ≡ false → P (in_model (rebuilt_with entries asked) model s))
    → Held P (rebuild p model s)
rebuild-held P p model s k = applied-held P p model (applied (bind_scope p s model) s.forest.nodes) s k

words-held : (P : State → Type 0) (words : List LimitWord) (s : State) (after : State → State) → P (after s) → Held P (unless_passed s words s >>= λ t. Ok (after t))
words-held P [] s after h = h
words-held P (word ∷ words) s after h = tt

pub recalculate-held : (P : State → Type 0) (p : Profile) (model : ℕ) (s : State)
    → ((made count : ℕ) → P (evaluated_more made count (settled_in p model (model_at s model).entries (settled_contents p.bounds (bind_scope p s model) (model_at s model).entries (all_in s)) s)))
    → Held P (recalculate p model s)
recalculate-held P p model s k =
    let m = model_at s model in
    let made = length (calculates m.entries) in
    let count = pertinent_count (bind_scope p s model) (shape (all_in s)) m.entries (changes_of m) in
    words-held P (map word_of (passed p.bounds (bind_scope p s model) m.entries (all_in s)) ++ over_made p (s.made + made)) s
    (λ t. evaluated_more made count (settled_in p model m.entries (settled_contents p.bounds (bind_scope p s model) m.entries (all_in s)) t)) (k made count)

-- the values that a recalculation finds, and the nodes that a revalidation does
abbrev pub settled_values_in : Profile → ℕ → State → List Valued
settled_values_in p model s =
    let entries = (model_at s model).entries in
    values_over p.bounds (bind_scope p s model) entries
    (visits (with_contents s.forest.next (settled_contents p.bounds (bind_scope p s model) entries (all_in s)) s.forest.nodes))

abbrev pub invalid_in : Profile → ℕ → State → List ℕ
invalid_in p model s = map (λ x. x.number) (filter (is_invalid p model s) (all_in s))

-- ---- of the model

abbrev pub CalmAt : ℕ → State → Type 0
CalmAt model s = IsCalm (model_at s model)

pub rebuilt-none : (p : Profile) (model : ℕ) (s : State) → Held (NoRebuild model) (rebuild p model s)
rebuilt-none p model s = rebuild-held (NoRebuild model) p model s (λ entries asked q. changed-at (λ m. m.flags.rebuild ≡ false) (rebuilt_with entries asked) model s.models refl refl)

pub recalculated-none : (p : Profile) (model : ℕ) (s : State) → NoRebuild model s → Held (NoneBefore model) (recalculate p model s)
recalculated-none p model s h =
    let change = recalculated_with (settled_values_in p model s) in
    recalculate-held (NoneBefore model) p model s (λ made count. record {
      rebuild = changed-at (λ m. m.flags.rebuild ≡ false) change model s.models refl h;
      recalculate = changed-at (λ m. m.flags.recalculate ≡ false) change model s.models refl refl;
    })

pub due-rebuilt : (p : Profile) (model : ℕ) (s : State) → Held (NoRebuild model) (due_rebuild p model s)
due-rebuilt p model s = by (model_at s model).flags.rebuild refl
  where
    by : (b : Bool) → (model_at s model).flags.rebuild ≡ b → Held (NoRebuild model) (when b (rebuild p model) s)
    by false e = e
    by true e = rebuilt-none p model s

recalculated : (p : Profile) (model : ℕ) (s : State) → NoRebuild model s → Held (NoneBefore model) (if_due (λ f. f.recalculate) model (recalculate p model) s)
recalculated p model s h = by (model_at s model).flags.recalculate refl
  where
    by : (b : Bool) → (model_at s model).flags.recalculate ≡ b → Held (NoneBefore model) (when b (recalculate p model) s)
    by false e = record { rebuild = h; recalculate = e }
    by true e = recalculated-none p model s h

pub due-recalculated : (p : Profile) (model : ℕ) (s : State) → Held (NoneBefore model) (due_recalculation p model s)
due-recalculated p model s = held-then (NoRebuild model) (NoneBefore model) (due_rebuild p model s) _ (due-rebuilt p model s) (recalculated p model)

pub none-calm : (p : Profile) (model : ℕ) (s : State) → NoneBefore model s → CalmAt model (revalidate p model s)
none-calm p model s h =
    changed-at IsCalm (revalidated_with (invalid_in p model s)) model s.models (record { rebuild = refl; recalculate = refl; revalidate = refl })
    (record { rebuild = h.rebuild; recalculate = h.recalculate; revalidate = refl })

revalidated : (p : Profile) (model : ℕ) (s : State) → NoneBefore model s → Held (CalmAt model) (if_due (λ f. f.revalidate) model (λ t. Ok (revalidate p model t)) s)
revalidated p model s h = by (model_at s model).flags.revalidate refl
  where
    by : (b : Bool) → (model_at s model).flags.revalidate ≡ b → Held (CalmAt model) (when b (λ t. Ok (revalidate p model t)) s)
    by false e = record { rebuild = h.rebuild; recalculate = h.recalculate; revalidate = e }
    by true e = none-calm p model s h

pub due-revalidated : (p : Profile) (model : ℕ) (s : State) → Held (CalmAt model) (due_revalidation p model s)
due-revalidated p model s = held-then (NoneBefore model) (CalmAt model) (due_recalculation p model s) _ (due-recalculated p model s) (revalidated p model)

-- ---- of all models

record IsKept (Q : List Model → Type 0) (model : ℕ) : Type 0 where
  pub rebuilt : (entries : List Entry) (asked : ℕ) (ms : List Model) → Q ms → Q (changed_at model (rebuilt_with entries asked) ms)
  pub recalculated : (values : List Valued) (ms : List Model) → Q ms → Q (changed_at model (recalculated_with values) ms)
  pub revalidated : (ns : List ℕ) (ms : List Model) → Q ms → Q (changed_at model (revalidated_with ns) ms)

kept-due : (Q : List Model → Type 0) (p : Profile) (model : ℕ) → IsKept Q model → (s : State) → Q s.models → Held (λ t. Q t.models) (due_revalidation p model s)
kept-due Q p model k s h =
    let R : State → Type 0 = λ t. Q t.models in
    held-then R R (due_recalculation p model s) _
    (held-then R R (due_rebuild p model s) _
    (held-when R (model_at s model).flags.rebuild (rebuild p model) s h (rebuild-held R p model s (λ entries asked q. k.rebuilt entries asked s.models h)))
    (λ t i. held-when R (model_at t model).flags.recalculate (recalculate p model) t i
    (recalculate-held R p model t (λ made count. k.recalculated (settled_values_in p model t) t.models i))))
    (λ t i. held-when R (model_at t model).flags.revalidate (λ u. Ok (revalidate p model u)) t i (k.revalidated (invalid_in p model t) t.models i))

turns-calm : (p : Profile) (k count n : ℕ) (s : State) → k + count ≡ n → CalmTo k s.models → length s.models ≡ n
    → Held (λ t. AllOf IsCalm t.models) (in_turn (due_revalidation p) (counted_from k count) s)
turns-calm p k zero n s e h l = let q : k ≡ length s.models = omega (arith, e, l) in calm-all s.models (subst (λ j. CalmTo j s.models) q h)
turns-calm p k (suc count) n s e h l =
    held-then (λ t. CalmTo (suc k) t.models × (length t.models ≡ n)) (λ t. AllOf IsCalm t.models) (due_revalidation p k s) _
    (held-more (λ t. (CalmTo k t.models × (length t.models ≡ n)) × CalmAt k t) (λ t. CalmTo (suc k) t.models × (length t.models ≡ n)) (due_revalidation p k s)
    (λ t i. (calm-more k t.models i.0.0 i.1, i.0.1))
    (held-both (λ t. CalmTo k t.models × (length t.models ≡ n)) (CalmAt k) (due_revalidation p k s) (kept-due (λ ms. CalmTo k ms × (length ms ≡ n)) p k kept s (h, l)) (due-revalidated p k s)))
    (λ t i. turns-calm p (suc k) count n t (omega (arith, e)) i.0 i.1)
  where
    kept : IsKept (λ ms. CalmTo k ms × (length ms ≡ n)) k
    kept = record {
      rebuilt = λ entries asked ms i. (calm-kept (rebuilt_with entries asked) (λ m c. record { rebuild = refl; recalculate = c.recalculate; revalidate = c.revalidate }) k k ms i.0, changed-length (rebuilt_with entries asked) k ms ∙ i.1);
      recalculated = λ values ms i. (calm-kept (recalculated_with values) (λ m c. record { rebuild = c.rebuild; recalculate = refl; revalidate = c.revalidate }) k k ms i.0, changed-length (recalculated_with values) k ms ∙ i.1);
      revalidated = λ ns ms i. (calm-kept (revalidated_with ns) (λ m c. record { rebuild = c.rebuild; recalculate = c.recalculate; revalidate = refl }) k k ms i.0, changed-length (revalidated_with ns) k ms ∙ i.1);
    }

pub all-calm : (p : Profile) (s : State) → Held (λ t. AllOf IsCalm t.models) (in_turn (due_revalidation p) (counted_from 0 (length s.models)) s)
all-calm p s = turns-calm p 0 (length s.models) (length s.models) s (omega arith) tt refl

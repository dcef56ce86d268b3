-- The form machine's rebuild is that of the table.
use Rattle.std.proofs.Common.{◌≡◌, ℕ, zero, suc, ◌+◌, ◌<◌, Bool, true, false, cond, List, [], ◌∷◌, map, length, get_or, Option, Some, None, Result, Ok, Err, refl, sym, ap, ◌∙◌, arith}
use Rattle.std.specs.Prelude.{filter, fold, sum_by, nat_lt, slice_set}
use Rattle.xf_def_forest.specs.Visit.{Visit}
use Rattle.xf_def_forest.specs.Shape.{shape_of}
use Rattle.xf_def_model.specs.declared.property.Property.{Property}
use Rattle.xf_def_model.specs.declared.property.Property.TheVariants.{Kind, Calculate, Relevant, Readonly, Required, Constraint}
use Rattle.xf_def_model.specs.Rules.{Scope}
use Rattle.xf_def_model.specs.Applied.{Entry, Exception, twice, on_parent, applied}
use Rattle.xf_def_model.specs.Entries.{is_computed, asked_size, edge_count}
use Rattle.xf_def_model.specs.Circular.{Reader, calculated, dependents}
use Rattle.xf_def_machine.specs.declared.limit.LimitWord.TheVariants.{Edges}
use Rattle.xf_def_machine.specs.Profile.{Profile}
use Rattle.xf_def_machine.specs.State.{Model, State}
use Rattle.xf_def_machine.specs.Refusal.{Refused, unless_passed, if_over}
use Rattle.xf_def_machine.specs.Flow.{◌>>=◌}
use Rattle.xf_def_machine.specs.Surround.{bind_scope}
use Rattle.xf_def_machine.specs.Primitives.{changed_at, in_model}
use Rattle.xf_def_machine.specs.Cycles.{reported_cycle}
use Rattle.xf_def_machine.specs.Behave as behave
use Rattle.xf_def_machine.specs.Behave.{rebuild, rebuilt_with}
use Rattle.xf_binds.specs.declared.web.Asks.{Asks}
use Rattle.xf_binds.specs.Kept.{Kept, no_kept}
use Rattle.xf_binds.specs.Table.{kept_at, with_kept}
use Rattle.xf_binds.specs.Asked.{asked_in, asked_of, asked_by_all}
use Rattle.xf_binds_rebuild.specs.Web.{asks_by, asks_of, edge_limit, is_over}
use Rattle.xf_binds_rebuild.specs.Rebuilt.{Stop, exception, edges, circular, table_with, unless_cycle, unless_over, with_entries, by_applied, rebuilt}
use Rattle.xf_binds_rebuild.specs.Machine.{refusal_of, taken_over, told, AsksAsMuch, RebuildsAlike}

-- ---- sums

abbrev tail_of : List ℕ → List ℕ
tail_of [] = []
tail_of (n ∷ ns) = ns

abbrev head_of : List ℕ → ℕ
head_of [] = 0
head_of (n ∷ ns) = n

pub fold-same : {X Y : Type 0} (f : X → ℕ) (g : Y → ℕ) (a : ℕ) (xs : List X) (ys : List Y) → map f xs ≡ map g ys → fold (λ b x. b + f x) a xs ≡ fold (λ b y. b + g y) a ys
fold-same f g a [] [] e = refl
fold-same f g a [] (y ∷ ys) e = absurd (let n = ap length e in omega (arith, n))
fold-same f g a (x ∷ xs) [] e = absurd (let n = ap length e in omega (arith, n))
fold-same f g a (x ∷ xs) (y ∷ ys) e = ap (λ n. fold (λ b x. b + f x) (a + n) xs) (ap head_of e) ∙ fold-same f g (a + g y) xs ys (ap tail_of e)

-- what the entries of a model ask, as it is kept
type-asks : (scope : Scope) (all : List Visit) (e : Entry) (a : ℕ) (es : List Entry) (b : Bool) → is_computed e ≡ b
    → fold (λ n x. n + asked_size scope all x) a (cond b (e ∷ es) es) ≡ fold (λ n x. n + asked_size scope all x) (a + asked_in (asks_by scope all e b)) es
type-asks scope all e a es true h = refl
type-asks scope all e a es false h = ap (λ n. fold (λ n x. n + asked_size scope all x) n es) (let n : a ≡ a + 0 = omega arith in n)

asked-from : (scope : Scope) (all : List Visit) (a : ℕ) (es : List Entry)
    → fold (λ n x. n + asked_size scope all x) a (filter is_computed es) ≡ fold (λ n x. n + asked_in x) a (map (asks_of scope all) es)
asked-from scope all a [] = refl
asked-from scope all a (e ∷ es) =
    type-asks scope all e a (filter is_computed es) (is_computed e) refl
    ∙ asked-from scope all (a + asked_in (asks_of scope all e)) es

asked-kept : (scope : Scope) (all : List Visit) (es : List Entry) → edge_count scope all es ≡ asked_of (map (asks_of scope all) es)
asked-kept scope all es = asked-from scope all 0 es

-- ---- tables

cons-same : (m n : ℕ) (ms ns : List ℕ) → m ≡ n → ms ≡ ns → m ∷ ms ≡ n ∷ ns
cons-same m n ms ns e f = ap (λ k. k ∷ ms) e ∙ ap (λ l. n ∷ l) f

changed-as_much : (entries : List Entry) (asked : ℕ) (model : ℕ) (ms : List Model) (ks : List Kept) (k : Kept) → asked ≡ asked_of k.asks
    → map (λ (m : Model). m.asked) ms ≡ map (λ (k : Kept). asked_of k.asks) ks
    → map (λ (m : Model). m.asked) (changed_at model (rebuilt_with entries asked) ms) ≡ map (λ (k : Kept). asked_of k.asks) (slice_set ks model k)
changed-as_much entries asked model [] [] k h e = refl
changed-as_much entries asked model [] (y ∷ ys) k h e = absurd (let n = ap length e in omega (arith, n))
changed-as_much entries asked model (x ∷ xs) [] k h e = absurd (let n = ap length e in omega (arith, n))
changed-as_much entries asked zero (x ∷ xs) (y ∷ ys) k h e = cons-same _ _ _ _ h (ap tail_of e)
changed-as_much entries asked (suc model) (x ∷ xs) (y ∷ ys) k h e = cons-same _ _ _ _ (ap head_of e) (changed-as_much entries asked model xs ys k h (ap tail_of e))

kept-set : (ks : List Kept) (model : ℕ) (k : Kept) → model < length ks → get_or (slice_set ks model k) model no_kept ≡ k
kept-set [] model k h = absurd (omega arith)
kept-set (y ∷ ys) zero k h = refl
kept-set (y ∷ ys) (suc model) k h = kept-set ys model k (omega arith)

-- ---- the rebuild

module _ (p : Profile) (s : State) (model : ℕ) (table : List Kept) (limited : p.edges ≡ edge_limit) (as_much : AsksAsMuch s table) (within : model < length table) where
  abbrev around : Scope
  around = bind_scope p s model

  abbrev all : List Visit
  all = shape_of s.forest.nodes

  module _ (entries : List Entry) where
    abbrev asked : ℕ
    asked = edge_count (bind_scope p s model) (shape_of s.forest.nodes) entries

    abbrev state : State
    state = in_model (rebuilt_with entries (edge_count (bind_scope p s model) (shape_of s.forest.nodes) entries)) model s

    abbrev kept : Kept
    kept = record (kept_at table model) { entries = entries; asks = map (asks_of (bind_scope p s model) (shape_of s.forest.nodes)) entries }

    abbrev after : List Kept
    after = slice_set table model kept

    sums : behave.asked_by_all state ≡ asked_by_all after
    sums = fold-same (λ (m : Model). m.asked) (λ (k : Kept). asked_of k.asks) 0 state.models after
        (changed-as_much entries asked model s.models table kept (asked-kept around all entries) as_much)

    over-same : nat_lt p.edges (behave.asked_by_all state) ≡ is_over after
    over-same = ap (λ n. nat_lt n (behave.asked_by_all state)) limited ∙ ap (nat_lt edge_limit) sums

    taken : state ≡ taken_over model s after
    taken =
        ap (λ n. in_model (rebuilt_with entries n) model s) (asked-kept around all entries)
        ∙ ap (λ (k : Kept). in_model (rebuilt_with k.entries (asked_of k.asks)) model s) (sym (kept-set table model kept within))

    abbrev readers : List Reader
    readers = calculated (bind_scope p s model) (shape_of s.forest.nodes) entries

    by-cycle : (o : Option (List ℕ)) → behave.unless_cycle state readers o state ≡ told model s (unless_cycle readers o after)
    by-cycle None = ap Ok taken
    by-cycle (Some places) = refl

    by-over : (b : Bool) → (unless_passed state (if_over b Edges) state >>= behave.no_cycle p model entries)
        ≡ told model s (unless_over b (unless_cycle readers (reported_cycle (dependents all readers)) after))
    by-over true = refl
    by-over false = by-cycle (reported_cycle (dependents all readers))

    with-entries : behave.by_applied p model (Ok entries) s ≡ told model s (with_entries around all table entries)
    with-entries =
        ap (λ b. unless_passed state (if_over b Edges) state >>= behave.no_cycle p model entries) over-same
        ∙ by-over (is_over after)

  by : (given : Result (List Entry) Exception) → behave.by_applied p model given s ≡ told model s (by_applied around all table given)
  by (Err (twice n)) = refl
  by (Err (on_parent n)) = refl
  by (Ok entries) = with-entries entries

  pub alike : rebuild p model s ≡ told model s (rebuilt around s.forest.nodes table)
  alike = by (applied around s.forest.nodes)

pub rebuilds_alike : RebuildsAlike
rebuilds_alike p s model table limited as_much within = alike p s model table limited as_much within

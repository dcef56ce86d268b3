-- What is shown is told by the instances, the indexes and cases, the values of entries and the nodes that are not valid; and what a refresh shows.
use Rattle.std.proofs.Common.{◌≡◌, ℕ, zero, suc, ◌++◌, Bool, true, not, ◌||◌, List, [], ◌∷◌, map, None, Result, Ok, Err, refl, sym, ap, ◌∙◌, subst}
use Rattle.std.specs.List.{list_any, list_all, flat_map}
use Rattle.xf_def_forest.specs.declared.content.Node.{Node}
use Rattle.xf_def_forest.specs.Changes.{in_instances}
use Rattle.xf_def_forest.specs.Visit.{Visit, has, ancestors_of}
use Rattle.xf_def_forest.specs.WellFormed.{HasTrees}
use Rattle.xf_law_forests.specs.Root.Roots.{AreAhead}
use Rattle.xf_def_xpath.proofs.ForestVisits.{Each}
use Rattle.xf_def_model.specs.declared.property.Property.TheVariants.{Relevant}
use Rattle.xf_def_model.specs.Properties.{own, own_readonly, is_required}
use Rattle.xf_def_model.specs.Settled.{Valued}
use Rattle.xf_def_ui.specs.declared.marks.Marks.{Marks}
use Rattle.xf_def_ui.specs.Around.{Around}
use Rattle.xf_def_ui.specs.Copies.{Copy, copies}
use Rattle.xf_def_ui.specs.Index.{Index, Stop, brought_up}
use Rattle.xf_def_machine.specs.Primitives.{changed_at}
use Rattle.xf_def_machine.specs.Profile.{Profile}
use Rattle.xf_def_machine.specs.Program.{Program}
use Rattle.xf_def_machine.specs.Properties.{values_of, values_in, valid_in, marks_in}
use Rattle.xf_def_machine.specs.State.{Model, State}
use Rattle.xf_def_machine.specs.Surround.{all_in, interface, quiet}
use Rattle.xf_def_machine.specs.Update.{reindex, with_brought, no_refresh, refresh_cleared, all_cleared}
use Rattle.xf_law_sessions.specs.Same.Controls.{HasForm}
use Rattle.xf_law_sessions.proofs.StepLemmas.ChangesAlike.{has-form}
use Rattle.xf_law_sessions.specs.Outcome.Indexes.{IsNumbered}
use Rattle.xf_law_recalculation.specs.Within.Within.{Whole, kept}
use Rattle.xf_law_recalculation.proofs.WithinLemmas.Told.{agree-any}
use Rattle.xf_law_recalculation.proofs.WithinLemmas.Within.{In}
use Rattle.xf_law_sessions.specs.Shown.Constructed.{IsShown}
use Rattle.xf_law_sessions.specs.Shown.Shown.{dropped}
use Rattle.xf_law_sessions.proofs.ShownLemmas.AroundPart.{IsSeen}
use Rattle.xf_law_sessions.proofs.ShownLemmas.CopiesPart.{copies-same}
use Rattle.xf_law_sessions.proofs.ShownLemmas.Constructed.{shown-again}
use Rattle.xf_law_sessions.proofs.ShownLemmas.ElementsPart.{elements-keep}
use Rattle.xf_law_sessions.proofs.ShownLemmas.Placed.{placed_law}
use Rattle.xf_law_sessions.proofs.ShownLemmas.Reindexed.{brought_placed}
use Rattle.xf_law_sessions.proofs.ShownLemmas.State.{shown_law}
use Rattle.xf_law_sessions.specs.Control.Leaves.{ShowsSame, LeavesShown, LeavesFurther, RefreshShows}

-- ---- with the same properties of nodes

abbrev every : ℕ → Bool
every n = true

all-whole : (xs : List Visit) → Each (Whole every) xs
all-whole [] = tt
all-whole (x ∷ xs) = (λ n h. refl, all-whole xs)

all-kept : (xs : List Visit) → kept every xs ≡ xs
all-kept [] = refl
all-kept (x ∷ xs) = ap (λ l. x ∷ l) (all-kept xs)

all-in : (ns : List ℕ) → In every ns
all-in [] = tt
all-in (n ∷ ns) = (refl, all-in ns)

every-seen : (a : Around) → a.given.event ≡ None → IsSeen every a a.bound
every-seen a quiet_is = record {
  whole = all-whole a.all;
  inside = λ model id n e. refl;
  quiet = quiet_is;
  bound = λ k. agree-any (a.bound k) (a.bound k) refl all-in;
}

copies-marked : (p : Profile) (s : State) → HasForm s.form → (marks other_marks : ℕ → Marks) → ((n : ℕ) → other_marks n ≡ marks n) → (cases : List ℕ) (is : List Index)
    → copies (interface s) (quiet p s) other_marks cases is ≡ copies (interface s) (quiet p s) marks cases is
copies-marked p s h marks other_marks e cases is =
    let a = quiet p s in
    ap {A = List Visit} (λ all. copies (interface s) (record { functions = a.functions; most = a.most; given = a.given; all = all; bound = a.bound }) other_marks cases is) (sym (all-kept a.all))
    ∙ copies-same every (interface s) (elements-keep every s h) a a.bound (every-seen a refl) marks other_marks (λ n i. e n) cases is

-- ---- of the same

-- another state with these
abbrev made_of : State → Program → List Node → List Index → List ℕ → List Copy → State
made_of t form nodes indexes cases controls = record t { form = form; forest = record t.forest { nodes = nodes }; indexes = indexes; cases = cases; controls = controls }

marks-are : (s t : State) (all : List Visit) → values_in s ≡ values_in t → ((n : ℕ) → valid_in s n ≡ valid_in t n) → (n : ℕ)
    → ◌≡◌ {A = Marks} (record {
      relevant = list_all (own (values_in t) Relevant true) (n ∷ ancestors_of n all);
      readonly = list_any (own_readonly (values_in t)) (n ∷ ancestors_of n all);
      required = is_required (values_in t) n;
      valid = valid_in t n;
    })
    (record {
      relevant = list_all (own (values_in s) Relevant true) (n ∷ ancestors_of n all);
      readonly = list_any (own_readonly (values_in s)) (n ∷ ancestors_of n all);
      required = is_required (values_in s) n;
      valid = valid_in s n;
    })
marks-are s t all e v n =
    ap {A = List Valued} {B = Marks} (λ vs. record {
      relevant = list_all (own vs Relevant true) (n ∷ ancestors_of n all);
      readonly = list_any (own_readonly vs) (n ∷ ancestors_of n all);
      required = is_required vs n;
      valid = valid_in t n;
    }) (sym e)
    ∙ ap {A = Bool} {B = Marks} (λ b. record {
      relevant = list_all (own (values_in s) Relevant true) (n ∷ ancestors_of n all);
      readonly = list_any (own_readonly (values_in s)) (n ∷ ancestors_of n all);
      required = is_required (values_in s) n;
      valid = b;
    }) (sym (v n))

same-shown : (p : Profile) (s t : State) → HasForm s.form → ShowsSame s t → IsShown p (dropped s) → IsShown p (dropped t)
same-shown p s t form same h =
    let d = dropped s in
    let u = made_of t s.form (in_instances s.forest.nodes) s.indexes s.cases s.controls in
    let is : IsShown p u = record {
      controls = shown-again p s.form d u s.controls (copies-marked p d form (marks_in d) (marks_in u) (marks-are s t (all_in d) same.values same.valid) s.cases s.indexes) h.controls;
      placed = h.placed;
    } in
    let one : IsShown p (made_of t t.form (in_instances s.forest.nodes) s.indexes s.cases s.controls) = subst (λ x. IsShown p (made_of t x (in_instances s.forest.nodes) s.indexes s.cases s.controls)) same.form is in
    let two : IsShown p (made_of t t.form (in_instances t.forest.nodes) s.indexes s.cases s.controls) = subst (λ x. IsShown p (made_of t t.form x s.indexes s.cases s.controls)) same.nodes one in
    let three : IsShown p (made_of t t.form (in_instances t.forest.nodes) t.indexes s.cases s.controls) = subst (λ x. IsShown p (made_of t t.form (in_instances t.forest.nodes) x s.cases s.controls)) same.indexes two in
    let four : IsShown p (made_of t t.form (in_instances t.forest.nodes) t.indexes t.cases s.controls) = subst (λ x. IsShown p (made_of t t.form (in_instances t.forest.nodes) t.indexes x s.controls)) same.cases three in
    subst (λ x. IsShown p (made_of t t.form (in_instances t.forest.nodes) t.indexes t.cases x)) same.controls four

pub leaves_shown : LeavesShown
leaves_shown p s t form leaves h e = same-shown p s t form (leaves.same e) (h (leaves.due e))

pub leaves_further : LeavesFurther
leaves_further s t u one two = record {
  due = λ e. one.due (two.due e);
  same = λ e.
      let a = one.same (two.due e) in
      let b = two.same e in
      record {
        form = a.form ∙ b.form;
        nodes = a.nodes ∙ b.nodes;
        indexes = a.indexes ∙ b.indexes;
        cases = a.cases ∙ b.cases;
        controls = a.controls ∙ b.controls;
        values = a.values ∙ b.values;
        valid = λ n. a.valid n ∙ b.valid n;
      };
}

-- ---- models of which no more than flags and marks are others

pub values-changed : (change : Model → Model) → ((m : Model) → values_of (change m) ≡ values_of m) → (k : ℕ) (ms : List Model) → flat_map values_of ms ≡ flat_map values_of (changed_at k change ms)
values-changed change e k [] = refl
values-changed change e zero (m ∷ ms) = ap (λ l. l ++ flat_map values_of ms) (sym (e m))
values-changed change e (suc k) (m ∷ ms) = ap (λ l. values_of m ++ l) (values-changed change e k ms)

pub valid-changed : (change : Model → Model) → ((m : Model) → (change m).invalid ≡ m.invalid) → (n k : ℕ) (ms : List Model)
    → list_any (λ m. has n m.invalid) ms ≡ list_any (λ m. has n m.invalid) (changed_at k change ms)
valid-changed change e n k [] = refl
valid-changed change e n zero (m ∷ ms) = ap (λ l. has n l || list_any (λ (o : Model). has n o.invalid) ms) (sym (e m))
valid-changed change e n (suc k) (m ∷ ms) = ap (λ b. has n m.invalid || b) (valid-changed change e n k ms)

cleared-values : (ms : List Model) → flat_map values_of ms ≡ flat_map values_of (map no_refresh ms)
cleared-values [] = refl
cleared-values (m ∷ ms) = ap (λ l. values_of m ++ l) (cleared-values ms)

cleared-valid : (n : ℕ) (ms : List Model) → list_any (λ m. has n m.invalid) ms ≡ list_any (λ m. has n m.invalid) (map no_refresh ms)
cleared-valid n [] = refl
cleared-valid n (m ∷ ms) = ap (λ b. has n m.invalid || b) (cleared-valid n ms)

-- ---- the refresh

brought-is : (p : Profile) (before s : State) (added : List ℕ) → reindex p added before ≡ Ok s → (s.form ≡ before.form) × (s.forest ≡ before.forest)
brought-is p before s added e = by (brought_up p.passes (interface before) (quiet p before) added before.indexes) e
  where
    by : (r : Result (List Index) Stop) → with_brought before r ≡ Ok s → (s.form ≡ before.form) × (s.forest ≡ before.forest)
    by (Err stop) q = cc q
    by (Ok indexes) q =
        let same : record before { indexes = indexes } ≡ s = cc q in
        (ap (λ (x : State). x.form) (sym same), ap (λ (x : State). x.forest) (sym same))

pub refresh_shows : RefreshShows
refresh_shows p before s list numbered has_indexes trees ahead e q =
    let is = brought-is p before s [] e in
    let number : IsNumbered s.form = subst IsNumbered (sym is.0) numbered in
    let tree : HasTrees s.forest = subst HasTrees (sym is.1) trees in
    let first : AreAhead s.forest.nodes = subst (λ f. AreAhead f.nodes) (sym is.1) ahead in
    let form = has-form s number.of_form in
    let u : State = record s { controls = list } in
    let d : IsShown p (dropped u) = record {
      controls = shown-again p s.form (dropped s) (dropped u) list refl (shown_law p s list form tree first q);
      placed = placed_law p s number tree first (brought_placed p before s numbered has_indexes e);
    } in (
      same-shown p u (all_cleared u) form
          (record { form = refl; nodes = refl; indexes = refl; cases = refl; controls = refl; values = cleared-values s.models; valid = λ n. ap not (cleared-valid n s.models) }) d,
      λ model. same-shown p u (refresh_cleared model u) form
          (record {
            form = refl;
            nodes = refl;
            indexes = refl;
            cases = refl;
            controls = refl;
            values = values-changed no_refresh (λ m. refl) model s.models;
            valid = λ n. ap not (valid-changed no_refresh (λ m. refl) n model s.models);
          }) d,
    )

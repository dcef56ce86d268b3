-- What the behaviours and changes leave as it was: the form, the indexes and the cases; and, of flags, that none is set.
use Rattle.std.specs.List.{list_any}
use Rattle.std.proofs.Common.{ℕ, zero, suc, ◌≡◌, ◌+◌, Bool, true, false, ◌||◌, List, [], ◌∷◌, map, length, Option, Some, None, Result, Ok, Err, nat_lt, refl, ap, ◌∙◌, subst}
use Rattle.xf_def_forest.specs.declared.content.Content.{Content}
use Rattle.xf_def_forest.specs.declared.fault.TreeFault.{TreeFault}
use Rattle.xf_def_forest.specs.Forest.{Forest}
use Rattle.xf_def_forest.specs.Shape.{shape_of}
use Rattle.xf_def_model.specs.Applied.{Entry, Exception, applied}
use Rattle.xf_def_model.specs.Circular.{Reader}
use Rattle.xf_def_model.specs.Pertinent.{AllOf}
use Rattle.xf_def_machine.specs.declared.limit.LimitWord.{LimitWord}
use Rattle.xf_def_machine.specs.declared.limit.LimitWord.TheVariants.{Edges}
use Rattle.xf_def_model.specs.Entries.{edge_count}
use Rattle.xf_def_machine.specs.Profile.{Profile}
use Rattle.xf_def_machine.specs.State.{Flags, Model, State}
use Rattle.xf_def_machine.specs.Refusal.{Refused, unless_passed, if_over}
use Rattle.xf_def_machine.specs.Flow.{Run, ◌>>=◌, when, in_turn}
use Rattle.xf_def_machine.specs.Surround.{bind_scope}
use Rattle.xf_def_machine.specs.Primitives.{changed_at, in_model, in_some_model, spend, spent_from, with_forest, grown, grown_to, over_made, set_text}
use Rattle.xf_def_machine.specs.Behave.{asked_by_all, no_flags, no_model, rebuilt_with, recalculated_with, revalidated_with, unless_cycle, no_cycle, by_applied, rebuild, recalculate, revalidate}
use Rattle.xf_def_machine.specs.Update.{due_rebuild, due_recalculation, due_revalidation, has_flag, is_due}
use Rattle.xf_def_machine.specs.SetValue.{unless_parent}
use Rattle.xf_def_machine.specs.Step.{set_bound}
use Rattle.xf_def_machine.specs.Construct.{rooted, plant_document, build_model}
use Rattle.xf_def_forest.specs.Changes.{with_root}

pub record Like (s t : State) : Type 0 where
  pub form : t.form ≡ s.form
  pub indexes : t.indexes ≡ s.indexes
  pub cases : t.cases ≡ s.cases
  pub count : length t.models ≡ length s.models
  pub accepted : t.accepted ≡ s.accepted

abbrev pub KeepsLike : Run → Type 0
KeepsLike run = (s t : State) → run s ≡ Ok t → Like s t

pub like-same : (s : State) → Like s s
like-same s = record { form = refl; indexes = refl; cases = refl; count = refl; accepted = refl }

pub like-then : (s t u : State) → Like s t → Like t u → Like s u
like-then s t u h k = record { form = k.form ∙ h.form; indexes = k.indexes ∙ h.indexes; cases = k.cases ∙ h.cases; count = k.count ∙ h.count; accepted = k.accepted ∙ h.accepted }

abbrev fine : State → Result State Refused
fine s = Ok s

ends : (s t u : State) → Like s u → fine u ≡ Ok t → Like s t
ends s t u h e = let q : u ≡ t = cc in subst (λ (x : State). Like s x) q h

changed-length : (change : Model → Model) (k : ℕ) (ms : List Model) → length (changed_at k change ms) ≡ length ms
changed-length change k [] = refl
changed-length change zero (m ∷ ms) = refl
changed-length change (suc k) (m ∷ ms) = ap suc (changed-length change k ms)

pub model-like : (change : Model → Model) (model : ℕ) (s : State) → Like s (in_model change model s)
model-like change model s = record { form = refl; indexes = refl; cases = refl; count = changed-length change model s.models; accepted = refl }

-- ---- one after the other

pub keeps-then : (r : Result State Refused) (next : Run) (s t : State) → ((u : State) → r ≡ Ok u → Like s u) → KeepsLike next → r >>= next ≡ Ok t → Like s t
keeps-then (Err x) next s t h k e = cc
keeps-then (Ok u) next s t h k e = like-then s u t (h u refl) (k u t e)

pub keeps-when : (b : Bool) (run : Run) → KeepsLike run → KeepsLike (when b run)
keeps-when false run k s t e = ends s t s (like-same s) e
keeps-when true run k s t e = k s t e

pub keeps-turn : {X : Type 0} (run : X → Run) (xs : List X) → ((x : X) → KeepsLike (run x)) → KeepsLike (in_turn run xs)
keeps-turn run [] k s t e = ends s t s (like-same s) e
keeps-turn run (x ∷ xs) k s t e = keeps-then (run x s) (in_turn run xs) s t (λ u q. k x s u q) (keeps-turn run xs k) e

spent-like : (k : ℕ) (s t : State) → spent_from k s ≡ Ok t → Like s t
spent-like zero s t e = cc
spent-like (suc k) s t e = ends s t (record s { turns = k }) (record { form = refl; indexes = refl; cases = refl; count = refl; accepted = refl }) e

pub spend-keeps : KeepsLike spend
spend-keeps s t e = spent-like s.turns s t e

-- ---- the behaviours

cycle-like : (before : State) (readers : List Reader) (o : Option (List ℕ)) (s t : State) → unless_cycle before readers o s ≡ Ok t → Like s t
cycle-like before readers None s t e = ends s t s (like-same s) e
cycle-like before readers (Some places) s t e = cc

edges-like : (p : Profile) (model : ℕ) (entries : List Entry) (words : List LimitWord) (u t : State)
    → unless_passed u words u >>= no_cycle p model entries ≡ Ok t → Like u t
edges-like p model entries [] u t e = cycle-like u _ _ u t e
edges-like p model entries (word ∷ words) u t e = cc

applied-like : (p : Profile) (model : ℕ) (r : Result (List Entry) Exception) (s t : State) → by_applied p model r s ≡ Ok t → Like s t
applied-like p model (Err x) s t e = cc
applied-like p model (Ok entries) s t e = like-then s _ t (model-like _ model s) (edges-like p model entries _ _ t e)

pub rebuild-keeps : (p : Profile) (model : ℕ) → KeepsLike (rebuild p model)
rebuild-keeps p model s t e = applied-like p model (applied (bind_scope p s model) s.forest.nodes) s t e

passed-like : (words : List LimitWord) (s t : State) (after : State → State) → Like s (after s) → unless_passed s words s >>= (λ u. Ok (after u)) ≡ Ok t → Like s t
passed-like [] s t after h e = ends s t (after s) h e
passed-like (word ∷ words) s t after h e = cc

pub recalculate-keeps : (p : Profile) (model : ℕ) → KeepsLike (recalculate p model)
recalculate-keeps p model s t e =
    passed-like _ s t _ (record { form = refl; indexes = refl; cases = refl; count = changed-length _ model s.models; accepted = refl }) e

pub revalidate-keeps : (p : Profile) (model : ℕ) → KeepsLike (λ s. Ok (revalidate p model s))
revalidate-keeps p model s t e = ends s t (revalidate p model s) (model-like _ model s) e

pub due-keeps : (p : Profile) (model : ℕ) → KeepsLike (due_revalidation p model)
due-keeps p model s t e =
    keeps-then (due_recalculation p model s) _ s t
    (λ u q. keeps-then (due_rebuild p model s) _ s u (λ v r. keeps-when _ _ (rebuild-keeps p model) s v r) (λ v w r. keeps-when _ _ (recalculate-keeps p model) v w r) q)
    (λ u v q. keeps-when _ _ (revalidate-keeps p model) u v q) e

-- ---- a text that is set

grown_past-like : (words : List LimitWord) (forest : Forest) (s m t u : State) → Like s u → grown_to (unless_passed m words (forest, u)) ≡ Ok t → Like s t
grown_past-like [] forest s m t u h e = ends s t (with_forest forest u) (record { form = h.form; indexes = h.indexes; cases = h.cases; count = h.count; accepted = h.accepted }) e
grown_past-like (word ∷ words) forest s m t u h e = cc

grown-like : (p : Profile) (count : ℕ) (r : Result Forest TreeFault) (m s t : State) → Like s m → grown_to (grown p count r m) ≡ Ok t → Like s t
grown-like p count (Err fault) m s t h e = cc
grown-like p count (Ok forest) m s t h e =
    grown_past-like (over_made p (m.made + count)) forest s m t (record m { made = m.made + count }) (record { form = h.form; indexes = h.indexes; cases = h.cases; count = h.count; accepted = h.accepted }) e

some-like : (change : Model → Model) (o : Option ℕ) (s : State) → Like s (in_some_model change o s)
some-like change None s = like-same s
some-like change (Some model) s = model-like change model s

text-keeps : (p : Profile) (n : ℕ) (text : List ℕ) → KeepsLike (set_text p n text)
text-keeps p n text s t e = grown-like p _ _ (in_some_model _ _ s) s t (some-like _ _ s) e

parent-keeps : (b : Bool) (n : ℕ) (set : Run) → KeepsLike set → KeepsLike (unless_parent b n set)
parent-keeps false n set k s t e = k s t e
parent-keeps true n set k s t e = cc

pub bound-keeps : (p : Profile) (text : List ℕ) (o : Option ℕ) → KeepsLike (set_bound p text o)
bound-keeps p text None s t e = ends s t s (like-same s) e
bound-keeps p text (Some n) s t e = parent-keeps _ n (set_text p n text) (text-keeps p n text) s t e

-- ---- of the construction

rooted-past-like : (words : List LimitWord) (top : ℕ) (forest : Forest) (m s t u : State) → Like s u → rooted (unless_passed m words ((top, forest), u)) ≡ Ok t → Like s t
rooted-past-like [] top forest m s t u h e = ends s t (with_forest (with_root top forest).1 u) (record { form = h.form; indexes = h.indexes; cases = h.cases; count = h.count; accepted = h.accepted }) e
rooted-past-like (word ∷ words) top forest m s t u h e = cc

rooted-like : (p : Profile) (count : ℕ) (r : Result (ℕ × Forest) TreeFault) (s t : State) → rooted (grown p count r s) ≡ Ok t → Like s t
rooted-like p count (Err fault) s t e = cc
rooted-like p count (Ok (top, forest)) s t e =
    rooted-past-like (over_made p (s.made + count)) top forest s s t (record s { made = s.made + count }) (record { form = refl; indexes = refl; cases = refl; count = refl; accepted = refl }) e

pub document-keeps : (p : Profile) (contents : List (ℕ × Content)) → KeepsLike (plant_document p contents)
document-keeps p contents s t e = rooted-like p _ _ s t e

pub build-keeps : (p : Profile) (model : ℕ) → KeepsLike (build_model p model)
build-keeps p model s t e =
    keeps-then (rebuild p model s >>= recalculate p model) _ s t
    (λ u q. keeps-then (rebuild p model s) _ s u (λ v r. rebuild-keeps p model s v r) (recalculate-keeps p model) q) (revalidate-keeps p model) e

-- ---- where nothing is due, nothing falls due

abbrev pub NoneDue : State → Type 0
NoneDue s = AllOf (λ (m : Model). m.flags ≡ no_flags) s.models

abbrev pub KeepsNone : Run → Type 0
KeepsNone run = (s t : State) → NoneDue s → run s ≡ Ok t → NoneDue t

due-none : (ms : List Model) → AllOf (λ (m : Model). m.flags ≡ no_flags) ms → list_any (λ m. has_flag m.flags) ms ≡ false
due-none [] h = refl
due-none (m ∷ ms) h = ap (λ f. has_flag f || list_any (λ m. has_flag m.flags) ms) h.0 ∙ due-none ms h.1

pub is-due-none : (s : State) → NoneDue s → is_due s ≡ false
is-due-none s h = due-none s.models h

none-ends : (t u : State) → NoneDue u → fine u ≡ Ok t → NoneDue t
none-ends t u h e = let q : u ≡ t = cc in subst (λ (x : State). NoneDue x) q h

none-changed : (change : Model → Model) (k : ℕ) (ms : List Model) → ((m : Model) → m.flags ≡ no_flags → (change m).flags ≡ no_flags)
    → AllOf (λ (m : Model). m.flags ≡ no_flags) ms → AllOf (λ (m : Model). m.flags ≡ no_flags) (changed_at k change ms)
none-changed change k [] f h = h
none-changed change zero (m ∷ ms) f h = (f m h.0, h.1)
none-changed change (suc k) (m ∷ ms) f h = (h.0, none-changed change k ms f h.1)

pub none-then : (r : Result State Refused) (next : Run) (t : State) → ((u : State) → r ≡ Ok u → NoneDue u) → KeepsNone next → r >>= next ≡ Ok t → NoneDue t
none-then (Err x) next t h k e = cc
none-then (Ok u) next t h k e = k u t (h u refl) e

pub none-turn : {X : Type 0} (run : X → Run) (xs : List X) → ((x : X) → KeepsNone (run x)) → KeepsNone (in_turn run xs)
none-turn run [] k s t h e = none-ends t s h e
none-turn run (x ∷ xs) k s t h e = none-then (run x s) (in_turn run xs) t (λ u q. k x s u h q) (none-turn run xs k) e

spent-none : (k : ℕ) (s t : State) → NoneDue s → spent_from k s ≡ Ok t → NoneDue t
spent-none zero s t h e = cc
spent-none (suc k) s t h e = none-ends t (record s { turns = k }) h e

pub spend-none : KeepsNone spend
spend-none s t h e = spent-none s.turns s t h e

cycle-none : (before : State) (readers : List Reader) (o : Option (List ℕ)) (s t : State) → NoneDue s → unless_cycle before readers o s ≡ Ok t → NoneDue t
cycle-none before readers None s t h e = none-ends t s h e
cycle-none before readers (Some places) s t h e = cc

edges-none : (p : Profile) (model : ℕ) (entries : List Entry) (words : List LimitWord) (u t : State)
    → NoneDue u → unless_passed u words u >>= no_cycle p model entries ≡ Ok t → NoneDue t
edges-none p model entries [] u t h e = cycle-none u _ _ u t h e
edges-none p model entries (word ∷ words) u t h e = cc

applied-none : (p : Profile) (model : ℕ) (r : Result (List Entry) Exception) (s t : State) → NoneDue s → by_applied p model r s ≡ Ok t → NoneDue t
applied-none p model (Err x) s t h e = cc
applied-none p model (Ok entries) s t h e =
    let change = rebuilt_with entries (edge_count (bind_scope p s model) (shape_of s.forest.nodes) entries) in
    let after = in_model change model s in
    edges-none p model entries (if_over (nat_lt p.edges (asked_by_all after)) Edges) after t
    (none-changed change model s.models (λ m q. ap {A = Flags} (λ f. record f { rebuild = false }) q) h) e

passed-none : (words : List LimitWord) (s t : State) (after : State → State) → NoneDue (after s) → unless_passed s words s >>= (λ u. Ok (after u)) ≡ Ok t → NoneDue t
passed-none [] s t after h e = none-ends t (after s) h e
passed-none (word ∷ words) s t after h e = cc

pub build-none : (p : Profile) (model : ℕ) → KeepsNone (build_model p model)
build-none p model s t h e =
    none-then (rebuild p model s >>= recalculate p model) _ t
    (λ u q. none-then (rebuild p model s) (recalculate p model) u (λ v r. applied-none p model (applied (bind_scope p s model) s.forest.nodes) s v h r)
    (λ v w k r. passed-none _ v w _ (none-changed (recalculated_with _) model v.models (λ m i. ap {A = Flags} (λ f. record f { recalculate = false }) i) k) r) q)
    (λ u v k q. none-ends v (revalidate p model u) (none-changed (revalidated_with _) model u.models (λ m i. ap {A = Flags} (λ f. record f { revalidate = false }) i) k) q) e

document-past-none : (words : List LimitWord) (top : ℕ) (forest : Forest) (m t u : State) → NoneDue u → rooted (unless_passed m words ((top, forest), u)) ≡ Ok t → NoneDue t
document-past-none [] top forest m t u h e = none-ends t (with_forest (with_root top forest).1 u) h e
document-past-none (word ∷ words) top forest m t u h e = cc

document-grown-none : (p : Profile) (count : ℕ) (r : Result (ℕ × Forest) TreeFault) (s t : State) → NoneDue s → rooted (grown p count r s) ≡ Ok t → NoneDue t
document-grown-none p count (Err fault) s t h e = cc
document-grown-none p count (Ok (top, forest)) s t h e = document-past-none (over_made p (s.made + count)) top forest s t (record s { made = s.made + count }) h e

pub document-none : (p : Profile) (contents : List (ℕ × Content)) → KeepsNone (plant_document p contents)
document-none p contents s t h e = document-grown-none p _ _ s t h e

pub first-none : (ns : List ℕ) → AllOf (λ (m : Model). m.flags ≡ no_flags) (map (λ n. no_model) ns)
first-none [] = tt
first-none (n ∷ ns) = (refl, first-none ns)

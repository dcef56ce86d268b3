-- The recalculation of a table over a draft is that of the state.
use Rattle.std.proofs.Common.{◌≡◌, ℕ, zero, suc, ◌+◌, ◌-◌, ◌^◌, ◌<◌, Bool, true, false, ◌||◌, List, [], ◌∷◌, ◌++◌, map, length, get_or, nat_lt, Option, Result, Ok, Err, refl, sym, ap, ◌∙◌, subst, arith}
use Rattle.std.specs.Prelude.{Contains, slice_set}
use Rattle.std.specs.List.{list_any}
use Rattle.std.proofs.lemmas.List.{length-map}
use Rattle.xf_def_forest.specs.Forest.{Forest}
use Rattle.xf_def_forest.specs.Shape.{shape}
use Rattle.xf_def_forest.specs.Visit.{Visit, visits}
use Rattle.xf_def_model.specs.Rules.{Scope}
use Rattle.xf_def_model.specs.Applied.{Entry}
use Rattle.xf_def_model.specs.Settled.{Contents, Passed, bounds, Valued, calculates, content_by, holding, round, rounds, settled_contents, values_over}
use Rattle.xf_def_model.specs.Settled as passed
use Rattle.xf_def_model.specs.Pertinent.{pertinent_count}
use Rattle.xf_law_recalculation.specs.Agree.InTurn.{tells_long, tells_text}
use Rattle.xf_def_machine.specs.declared.limit.LimitWord.{LimitWord}
use Rattle.xf_def_machine.specs.declared.limit.LimitWord.TheVariants as word
use Rattle.xf_def_machine.specs.State.{Model, State}
use Rattle.xf_def_machine.specs.Refusal.{Refused, if_over, unless_passed, word_of}
use Rattle.xf_def_machine.specs.Flow.{◌>>=◌}
use Rattle.xf_def_machine.specs.Surround.{bind_scope}
use Rattle.xf_def_machine.specs.Primitives.{changed_at, in_model, over_made}
use Rattle.xf_def_machine.specs.Behave as machine
use Rattle.xf_def_machine.specs.Behave.{changes_of, evaluated_more, model_at, recalculated_with, settled_in}
use Rattle.xf_binds.specs.Kept.{Kept, recalculated}
use Rattle.xf_binds.specs.Table.{kept_at, with_kept}
use Rattle.xf_controls.specs.declared.copy.ControlCopy.{ControlCopy}
use Rattle.xf_form.specs.declared.loaded.Loaded.{Loaded}
use Rattle.xf_def_machine.specs.declared.refusal.Refusal.TheVariants.{Limit}
use Rattle.xf_recalc.specs.declared.fault.SettleFault.{SettleFault}
use Rattle.xf_recalc.specs.declared.fault.SettleFault.TheVariants as settle
use Rattle.xf_recalc.specs.Settles.{IsSettled, IsTold, tells_all, tells_nodes, words_of}
use Rattle.xf_engine_state.specs.declared.fault.WorkFault.{WorkFault}
use Rattle.xf_engine_state.specs.declared.fault.WorkFault.TheVariants as fault
use Rattle.xf_engine_state.specs.declared.flags.Flag.TheVariants.{Recalculate}
use Rattle.xf_engine_state.specs.declared.flags.Flags.{Flags}
use Rattle.xf_engine_state.specs.declared.tally.Tally.{Tally}
use Rattle.xf_engine_state.specs.Built.{scope_at}
use Rattle.xf_def_form.specs.Formed.{profile}
use Rattle.xf_engine_state.specs.Does.{Does, IsRefused}
use Rattle.xf_engine_state.specs.Flags.{none_due, without}
use Rattle.xf_engine_state.specs.Grown.{IsGrown, with_more}
use Rattle.xf_engine_state.specs.Parts.{Chosen, IsLoaded, model_of, models_of, standing_of}
use Rattle.xf_engine_state.specs.Settling.{IsPassed, fault_of}
use Rattle.xf_engine_state.specs.Standing.{Standing, state_of}
use Rattle.xf_engine_state.proofs.Models.{model-at, model-changed}
use Rattle.xf_engine_state.proofs.AroundLaws.{scope-same}

-- ---- the word that is told

contained : (tells : Passed → Bool) (w : LimitWord) → ((p : Passed) → tells p ≡ true → word_of p ≡ w) → (words : List Passed) → list_any tells words ≡ true → Contains (map word_of words) w
contained tells w is [] h = absurd (no h)
  where
    no : false ≡ true → ⊥
    no e = cc e
contained tells w is (p ∷ ps) h = by (tells p) refl (contained tells w is ps) h
  where
    by : (b : Bool) → tells p ≡ b → (list_any tells ps ≡ true → Contains (map word_of ps) w) → (b || list_any tells ps) ≡ true → Contains (word_of p ∷ map word_of ps) w
    by true e later i = (0, omega arith, is p e)
    by false e later i = let (at, within, there) = later i in (suc at, omega (arith, within), there)

long-is : (p : Passed) → tells_long p ≡ true → word_of p ≡ word.Long
long-is (passed.long n) h = refl
long-is passed.text h = cc h
long-is passed.nodes h = cc h
long-is passed.all_texts h = cc h

text-is : (p : Passed) → tells_text p ≡ true → word_of p ≡ word.Text
text-is (passed.long n) h = cc h
text-is passed.text h = refl
text-is passed.nodes h = cc h
text-is passed.all_texts h = cc h

nodes-is : (p : Passed) → tells_nodes p ≡ true → word_of p ≡ word.Nodes
nodes-is (passed.long n) h = cc h
nodes-is passed.text h = cc h
nodes-is passed.nodes h = refl
nodes-is passed.all_texts h = cc h

all-is : (p : Passed) → tells_all p ≡ true → word_of p ≡ word.All
all-is (passed.long n) h = cc h
all-is passed.text h = cc h
all-is passed.nodes h = cc h
all-is passed.all_texts h = refl

pub told-passed : (fault : SettleFault) (words : List Passed) → IsTold fault words → IsPassed (fault_of fault) words
told-passed settle.Long words h = (word.Long, refl, contained tells_long word.Long long-is words h)
told-passed settle.Text words h = (word.Text, refl, contained tells_text word.Text text-is words h)
told-passed settle.Nodes words h = (word.Nodes, refl, contained tells_nodes word.Nodes nodes-is words h)
told-passed settle.AllTexts words h = (word.All, refl, contained tells_all word.All all-is words h)
told-passed settle.Memory words h = tt

pub contains-more : {X : Type 0} (xs ys : List X) (x : X) → Contains xs x → Contains (xs ++ ys) x
contains-more [] ys x (at, within, there) = absurd (omega (arith, within))
contains-more (y ∷ xs) ys x (zero, within, there) = (0, omega arith, there)
contains-more (y ∷ xs) ys x (suc at, within, there) = let (k, less, is) = contains-more xs ys x (at, omega (arith, within), there) in (suc k, omega (arith, less), is)

-- where a limit is passed the state is refused
passed-refused : {A : Type 0} (s : State) (next : State → Result A Refused) (words : List LimitWord) (w : LimitWord) → s.calls ≡ [] → Contains words w → IsRefused (Limit w) (unless_passed s words s >>= next)
passed-refused s next [] w none (at, within, there) = absurd (omega (arith, within))
passed-refused s next (v ∷ vs) w none c = ((v ∷ vs, refl, c), none)

-- ---- how many contents are settled

rounds-many : (x : Scope) (entries : List Entry) (all : List Visit) (n : ℕ) (contents : Contents) → length contents ≡ length (calculates entries) → length (rounds bounds x entries all n contents) ≡ length (calculates entries)
rounds-many x entries all zero contents h = h
rounds-many x entries all (suc n) contents h =
    rounds-many x entries all n (round bounds x entries all contents) (length-map (calculates entries) (content_by bounds x (holding all contents)))

contents-many : (x : Scope) (entries : List Entry) (all : List Visit) → length (settled_contents bounds x entries all) ≡ length (calculates entries)
contents-many x entries all = by (length (calculates entries)) refl
  where
    by : (n : ℕ) → length (calculates entries) ≡ n → length (rounds bounds x entries all n []) ≡ length (calculates entries)
    by zero e = sym e
    by (suc n) e = rounds-many x entries all n (round bounds x entries all []) (length-map (calculates entries) (content_by bounds x (holding all [])))

pub made-is : (x : Scope) (entries : List Entry) (forest after : Forest) (truths : List (Option Bool)) → IsSettled x entries forest after truths → after.next - forest.next ≡ length (calculates entries)
made-is x entries forest after truths s =
    let next = ap (λ (f : Forest). f.next) s.written in
    let many = contents-many x entries (visits forest.nodes) in
    omega (arith, next, many)

-- ---- over a state

module _ (chosen : Chosen) (loaded : Loaded) (is : IsLoaded loaded) (forest : Forest) (model : ℕ) (table : List Kept) (flags : List Flags) (controls : List ControlCopy) (tally : Tally)
    (many : length table ≡ length flags) (within : model < length table) where
  abbrev before : Standing
  before = standing_of chosen loaded forest table flags controls tally

  abbrev s : State
  s = state_of before

  abbrev x : Scope
  x = scope_at loaded forest model

  abbrev k : Kept
  k = kept_at table model

  abbrev m : Model
  m = model_of k (get_or flags model none_due)

  scope-is : bind_scope profile s model ≡ x
  scope-is = scope-same chosen loaded forest model table flags controls tally

  there : model < length flags
  there = subst (λ n. model < n) many within

  model-is : model_at s model ≡ m
  model-is = model-at table flags model many there

  -- by what surrounds the binds, and by what the model keeps
  abbrev words : Scope → Model → List LimitWord
  words y o = map word_of (passed.passed bounds y o.entries (visits forest.nodes)) ++ over_made profile (tally.made + length (calculates o.entries))

  abbrev done : Scope → Model → State → Result State Refused
  done y o t = Ok (evaluated_more (length (calculates o.entries)) (pertinent_count y (shape (visits forest.nodes)) o.entries (changes_of o)) (settled_in profile model o.entries (settled_contents bounds y o.entries (visits forest.nodes)) t))

  abbrev by : Scope → Model → Result State Refused
  by y o = unless_passed s (words y o) s >>= done y o

  recalculate-is : machine.recalculate profile model s ≡ by x m
  recalculate-is = ap (λ y. by y (model_at s model)) scope-is ∙ ap (by x) model-is

  pub recalculate-passed : (told : WorkFault) → IsPassed told (words_of x k.entries forest) → (after : Standing) → Does {X = Unit {0}} (Err told) after (machine.recalculate profile model s)
  recalculate-passed (fault.Refused refusal) (w, same, among) after =
      subst (λ r. IsRefused r (machine.recalculate profile model s)) (sym same)
      (subst (IsRefused (Limit w)) (sym recalculate-is)
      (passed-refused s (done x m) (words x m) w refl (contains-more (map word_of (words_of x k.entries forest)) (over_made profile (tally.made + length (calculates k.entries))) w among)))
  recalculate-passed fault.Memory h after = tt

  pub recalculate-over : words_of x k.entries forest ≡ [] → nat_lt (2 ^ 32) (tally.made + length (calculates k.entries)) ≡ true → IsRefused (Limit word.Made) (machine.recalculate profile model s)
  recalculate-over none over =
      subst (IsRefused (Limit word.Made)) (sym recalculate-is)
      (passed-refused s (done x m) (words x m) word.Made refl
      (subst (λ ws. Contains ws word.Made) (sym (ap (λ ps. map word_of ps ++ over_made profile (tally.made + length (calculates k.entries))) none ∙ ap (λ b. if_over b word.Made) over)) (0, omega arith, refl)))

  pub grown-refused : (told : WorkFault) (made count : ℕ) → made ≡ length (calculates k.entries) → words_of x k.entries forest ≡ [] → IsGrown tally made count (Err told) → (after : Standing)
      → Does {X = Unit {0}} (Err told) after (machine.recalculate profile model s)
  grown-refused (fault.Refused refusal) made count same none h after =
      subst (λ r. IsRefused r (machine.recalculate profile model s)) (sym h.0) (recalculate-over none (ap (λ n. nat_lt (2 ^ 32) (tally.made + n)) (sym same) ∙ h.1))
  grown-refused fault.Memory made count same none h after = tt

  -- ---- without a limit

  module _ (after : Forest) (truths : List (Option Bool)) (settled : IsSettled x k.entries forest after truths) where
    abbrev kept : Kept
    kept = recalculated truths k

    abbrev values : Scope → List Valued
    values y = values_over bounds y k.entries (visits after.nodes)

    models-are : changed_at model (recalculated_with (values x)) (models_of table flags) ≡ models_of (slice_set table model kept) (slice_set flags model (without Recalculate (get_or flags model none_due)))
    models-are =
        model-changed (recalculated_with (values x)) table flags model kept (without Recalculate (get_or flags model none_due)) many there
        (ap (λ vs. model_of (record k { stood = vs; texts = []; lists = [] }) (without Recalculate (get_or flags model none_due))) (sym settled.values))

    settled-is : settled_in profile model k.entries (settled_contents bounds x k.entries (visits forest.nodes)) s
        ≡ state_of (standing_of chosen loaded after (with_kept table model kept) (slice_set flags model (without Recalculate (get_or flags model none_due))) controls tally)
    settled-is =
        ap (λ f. in_model (recalculated_with (values_over bounds (bind_scope profile s model) k.entries (visits f.nodes))) model (record s { forest = f })) (sym settled.written)
        ∙ ap (λ y. in_model (recalculated_with (values y)) model (record s { forest = after })) scope-is
        ∙ ap (λ ms. record s { forest = after; models = ms }) models-are

    pub recalculate-done : (count : ℕ) → count ≡ pertinent_count x (shape (visits forest.nodes)) k.entries (changes_of m) → nat_lt (2 ^ 32) (tally.made + length (calculates k.entries)) ≡ false
        → machine.recalculate profile model s
        ≡ Ok (state_of (standing_of chosen loaded after (with_kept table model kept) (slice_set flags model (without Recalculate (get_or flags model none_due))) controls (with_more (length (calculates k.entries)) count tally)))
    recalculate-done count counted fits =
        recalculate-is
        ∙ ap (λ ws. unless_passed s ws s >>= done x m) (ap (λ ps. map word_of ps ++ over_made profile (tally.made + length (calculates k.entries))) settled.within ∙ ap (λ b. if_over b word.Made) fits)
        ∙ ap (λ n. Ok (evaluated_more (length (calculates k.entries)) n (settled_in profile model k.entries (settled_contents bounds x k.entries (visits forest.nodes)) s))) (sym counted)
        ∙ ap (λ t. Ok (evaluated_more (length (calculates k.entries)) count t)) settled-is

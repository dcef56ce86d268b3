-- A text that is set over a draft is set in the state.
use Rattle.std.proofs.Common.{◌≡◌, ℕ, zero, suc, ◌+◌, ◌^◌, ◌≤◌, Bool, true, false, List, [], ◌∷◌, ◌++◌, length, get_or, nat_lt, Option, Some, None, Result, Ok, Err, refl, sym, ap, ◌∙◌, subst, inl, inr, arith}
use Rattle.std.specs.Prelude.{Contains, slice_set}
use Rattle.std.proofs.lemmas.Bool.{cases_lt}
use Rattle.xf_def_forest.specs.declared.fault.TreeFault.{TreeFault}
use Rattle.xf_def_forest.specs.Forest.{Forest}
use Rattle.xf_def_forest.specs.Limits.{limits, passed_by_text, unless}
use Rattle.xf_def_forest.specs.Shape.{has_elements}
use Rattle.xf_def_forest.specs.Texts.{new_texts, with_text}
use Rattle.xf_def_forest.specs.Visit.{visits}
use Rattle.xf_def_machine.specs.declared.limit.LimitWord.TheVariants as word
use Rattle.xf_def_machine.specs.State.{Model, State}
use Rattle.xf_def_machine.specs.Refusal.{Refused, binding, if_over, unless_passed, words_of}
use Rattle.xf_def_machine.specs.Flow.{Run}
use Rattle.xf_def_machine.specs.Primitives.{changed_at, grown, grown_to, if_other, in_some_model, over_made, set_text, texts_due, with_text_mark}
use Rattle.xf_def_machine.specs.SetValue.{unless_parent}
use Rattle.xf_binds.specs.Kept.{Kept}
use Rattle.xf_binds.specs.Table.{kept_at, with_kept}
use Rattle.xf_controls.specs.declared.copy.ControlCopy.{ControlCopy}
use Rattle.xf_form.specs.declared.loaded.Loaded.{Loaded}
use Rattle.xf_def_machine.specs.declared.refusal.Refusal.TheVariants as refusal
use Rattle.xf_engine_state.specs.declared.fault.WorkFault.{WorkFault}
use Rattle.xf_engine_state.specs.declared.fault.WorkFault.TheVariants as fault
use Rattle.xf_engine_state.specs.declared.flags.Flags.{Flags}
use Rattle.xf_engine_state.specs.declared.tally.Tally.{Tally}
use Rattle.xf_def_form.specs.Formed.{profile}
use Rattle.xf_engine_state.specs.Does.{Does, IsRefused}
use Rattle.xf_engine_state.specs.Flags.{none_due, with_texts}
use Rattle.xf_engine_state.specs.Grown.{IsGrown, with_more}
use Rattle.xf_engine_state.specs.Parts.{Chosen, model_of, models_of, standing_of}
use Rattle.xf_engine_state.specs.Setting.{IsBound, MayBeSet, SaysLimit, due, holder_of, is_other, mark_if, marked}
use Rattle.xf_engine_state.specs.Standing.{Standing, state_of}
use Rattle.xf_engine_state.proofs.Models.{model-changed}
use Rattle.xf_engine_state.proofs.RecalculateLaws.{contains-more}

-- ---- marks and flags

pub set-past : {X : Type 0} (xs : List X) (n : ℕ) (x : X) → length xs ≤ n → slice_set xs n x ≡ xs
set-past [] n x h = refl
set-past (y ∷ ys) zero x h = absurd (omega (arith, h))
set-past (y ∷ ys) (suc n) x h = ap (λ l. y ∷ l) (set-past ys n x (omega (arith, h)))

changed-past : (change : Model → Model) (n : ℕ) (ks : List Kept) (fs : List Flags) → length fs ≤ n → changed_at n change (models_of ks fs) ≡ models_of ks fs
changed-past change n [] fs h = refl
changed-past change n (k ∷ ks) [] h = refl
changed-past change zero (k ∷ ks) (f ∷ fs) h = absurd (omega (arith, h))
changed-past change (suc n) (k ∷ ks) (f ∷ fs) h = ap (λ ms. model_of k f ∷ ms) (changed-past change n ks fs (omega (arith, h)))

abbrev change_of : Bool → ℕ → Model → Model
change_of other n m = texts_due (if_other other (with_text_mark n) m)

marks-model : (other : Bool) (n : ℕ) (k : Kept) (f : Flags) → change_of other n (model_of k f) ≡ model_of (mark_if other n k) (with_texts f)
marks-model true n k f = refl
marks-model false n k f = refl

abbrev models_with : Option ℕ → Bool → ℕ → List Model → List Model
models_with None other n ms = ms
models_with (Some model) other n ms = changed_at model (change_of other n) ms

models-marked : (holder : Option ℕ) (other : Bool) (n : ℕ) (table : List Kept) (flags : List Flags) → length table ≡ length flags
    → models_with holder other n (models_of table flags) ≡ models_of (marked holder other n table) (due holder flags)
models-marked None other n table flags many = refl
models-marked (Some model) other n table flags many = elim (cases_lt model (length flags)) [
  | inl less ↦
      model-changed (change_of other n) table flags model (mark_if other n (kept_at table model)) (with_texts (get_or flags model none_due)) many less
      (marks-model other n (kept_at table model) (get_or flags model none_due))
  | inr past ↦
      let far : length flags ≤ model = past in
      let deep : length table ≤ model = omega (arith, many, far) in
      changed-past (change_of other n) model table flags far
      ∙ ap (λ t. models_of t flags) (sym (set-past table model (mark_if other n (kept_at table model)) deep))
      ∙ ap (models_of (with_kept table model (mark_if other n (kept_at table model)))) (sym (set-past flags model (with_texts (get_or flags model none_due)) far))
]

-- ---- over a state

module _ (chosen : Chosen) (loaded : Loaded) (forest : Forest) (table : List Kept) (flags : List Flags) (controls : List ControlCopy) (tally : Tally) (many : length table ≡ length flags)
    (text : List ℕ) (n : ℕ) where
  abbrev s : State
  s = state_of (standing_of chosen loaded forest table flags controls tally)

  abbrev holder : Option ℕ
  holder = holder_of loaded.form.tables.instances forest n

  abbrev other : Bool
  other = is_other (visits forest.nodes) n text

  abbrev after : Forest
  after = with_text n text forest

  abbrev made : ℕ
  made = length (new_texts n text forest)

  marked-state : (o : Option ℕ) → in_some_model (change_of other n) o s ≡ state_of (standing_of chosen loaded forest (marked o other n table) (due o flags) controls tally)
  marked-state None = refl
  marked-state (Some model) = ap (λ ms. record s { models = ms }) (models-marked (Some model) other n table flags many)

  abbrev with_passed : Option TreeFault → State → Result State Refused
  with_passed o t = grown_to (grown profile made (unless o after) t)

  abbrev next : State
  next = state_of (standing_of chosen loaded forest (marked holder other n table) (due holder flags) controls tally)

  text-is : set_text profile n text s ≡ with_passed (passed_by_text limits (length text) after.nodes) next
  text-is = ap (with_passed (passed_by_text limits (length text) after.nodes)) (marked-state holder)

  -- ---- refused

  pub limit-refused : (told : WorkFault) → SaysLimit told (passed_by_text limits (length text) after.nodes) → (end : Standing) → Does {X = Unit {0}} (Err told) end (set_text profile n text s)
  limit-refused (fault.Refused why) h end = subst (IsRefused why) (sym text-is) (by (passed_by_text limits (length text) after.nodes) h)
    where
      by : (o : Option TreeFault) → SaysLimit (fault.Refused why) o → IsRefused why (with_passed o next)
      by None i = absurd i
      by (Some f) (w, same, words) =
          subst (λ r. IsRefused r (with_passed (Some f) next)) (sym same) (
            (
              words_of f ++ over_made profile (tally.made + made),
              refl,
              subst (λ ws. Contains (ws ++ over_made profile (tally.made + made)) w) (sym words)
                  (contains-more (w ∷ []) (over_made profile (tally.made + made)) w (0, omega arith, refl)),
            ),
            refl,
          )
  limit-refused fault.Memory h end = tt

  pub made-refused : passed_by_text limits (length text) after.nodes ≡ None → nat_lt (2 ^ 32) (tally.made + made) ≡ true → IsRefused (refusal.Limit word.Made) (set_text profile n text s)
  made-refused passed over = subst (IsRefused (refusal.Limit word.Made)) (sym (text-is ∙ ap (λ o. with_passed o next) passed))
      (subst (λ b. IsRefused (refusal.Limit word.Made) (grown_to (unless_passed next (if_over b word.Made) (after, record next { made = tally.made + made })))) (sym over)
      ((word.Made ∷ [], refl, (0, omega arith, refl)), refl))

  pub grown-refused : passed_by_text limits (length text) after.nodes ≡ None → (told : WorkFault) (count : ℕ) → count ≡ made → IsGrown tally count 0 (Err told) → (end : Standing)
      → Does {X = Unit {0}} (Err told) end (set_text profile n text s)
  grown-refused passed (fault.Refused why) count same h end =
      subst (λ r. IsRefused r (set_text profile n text s)) (sym h.0) (made-refused passed (ap (λ m. nat_lt (2 ^ 32) (tally.made + m)) (sym same) ∙ h.1))
  grown-refused passed fault.Memory count same h end = tt

  -- ---- done

  pub set-done : passed_by_text limits (length text) after.nodes ≡ None → nat_lt (2 ^ 32) (tally.made + made) ≡ false
      → set_text profile n text s ≡ Ok (state_of (standing_of chosen loaded after (marked holder other n table) (due holder flags) controls (with_more made 0 tally)))
  set-done passed fits =
      text-is ∙ ap (λ o. with_passed o next) passed
      ∙ ap (λ b. grown_to (unless_passed next (if_over b word.Made) (after, record next { made = tally.made + made }))) fits
      ∙ ap (λ e. Ok (record next { forest = after; made = tally.made + made; evaluated = e })) (plus tally.evaluated)
    where
      plus : (e : ℕ) → e ≡ e + 0
      plus e = omega arith

-- ---- whether it may be set

module _ (chosen : Chosen) (loaded : Loaded) (forest : Forest) (table : List Kept) (flags : List Flags) (controls : List ControlCopy) (tally : Tally) (n : ℕ) where
  abbrev now : State
  now = state_of (standing_of chosen loaded forest table flags controls tally)

  abbrev asked : Run → Result State Refused
  asked run = unless_parent (has_elements (visits forest.nodes) n) n run now

  bound-refused : (run : Run) → has_elements (visits forest.nodes) n ≡ true → (told : WorkFault) → IsBound loaded.form.tables.instances forest n told → (end : Standing)
      → Does {X = Unit {0}} (Err told) end (asked run)
  bound-refused run full (fault.Refused (refusal.Binding path)) h end =
      subst (IsRefused (refusal.Binding path)) (sym (ap (λ b. unless_parent b n run now) full))
      (ap binding (sym (h now refl refl)), refl)
  bound-refused run full (fault.Refused refusal.NoSuchTarget) h end = absurd h
  bound-refused run full (fault.Refused refusal.Disabled) h end = absurd h
  bound-refused run full (fault.Refused refusal.ReadOnly) h end = absurd h
  bound-refused run full (fault.Refused refusal.NotAnItem) h end = absurd h
  bound-refused run full (fault.Refused refusal.BadIndex) h end = absurd h
  bound-refused run full (fault.Refused (refusal.PropertyTwice path)) h end = absurd h
  bound-refused run full (fault.Refused (refusal.CalculateOnParent path)) h end = absurd h
  bound-refused run full (fault.Refused (refusal.Circular paths)) h end = absurd h
  bound-refused run full (fault.Refused (refusal.Limit w)) h end = absurd h
  bound-refused run full (fault.Refused refusal.Budget) h end = absurd h
  bound-refused run full (fault.Refused refusal.Depth) h end = absurd h
  bound-refused run full (fault.Refused refusal.Sends) h end = absurd h
  bound-refused run full fault.Memory h end = tt

  pub may-does : (told : Result (Unit {0}) WorkFault) → MayBeSet loaded.form.tables.instances forest n told → Does told (standing_of chosen loaded forest table flags controls tally) (asked (λ t. Ok t))
  may-does (Ok x) h = ap (λ b. unless_parent b n (λ t. Ok t) now) h.childless
  may-does (Err (fault.Refused why)) h = bound-refused (λ t. Ok t) h.0 (fault.Refused why) h.1 (standing_of chosen loaded forest table flags controls tally)
  may-does (Err fault.Memory) h = tt

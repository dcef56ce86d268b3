-- A fact of what a model keeps that the model's part of the data tells, unless a behaviour is due: each change leaves it so, or flags the behaviour.
use Rattle.std.proofs.Common.{◌≡◌, ℕ, zero, suc, ◌+◌, ◌<◌, ◌==◌, Bool, true, false, List, [], ◌∷◌, ◌++◌, length, get_or, Option, Some, None, Ok, refl, sym, ap, ◌∙◌, subst, arith}
use Rattle.std.proofs.lemmas.Bool.{eqb-true}
use Rattle.std.proofs.lemmas.Bool.Decides.{nat_tests}
use Rattle.xf_def_syntax.specs.declared.form.Tables.{Tables}
use Rattle.xf_def_forest.specs.declared.content.Content.{Content}
use Rattle.xf_def_forest.specs.declared.fault.TreeFault.{TreeFault}
use Rattle.xf_def_forest.specs.Changes.{attached, copied, detached}
use Rattle.xf_def_forest.specs.Forest.{Forest, tree_of}
use Rattle.xf_def_forest.specs.Limits.{passed_by_text, passed_by_tree, unless}
use Rattle.xf_def_forest.specs.Needs.{MayPlace}
use Rattle.xf_def_forest.specs.Plant.{numbered_from}
use Rattle.xf_def_forest.specs.Planted.{with_tree}
use Rattle.xf_def_forest.specs.Texts.{new_texts, with_text}
use Rattle.xf_def_forest.specs.Visit.{parent_of}
use Rattle.xf_law_forests.specs.Rollback.Made.{IsGrowth}
use Rattle.xf_law_forests.proofs.RollbackLemmas.Outcomes.{unless-ok}
use Rattle.xf_law_forests.specs.Root.Roots.{IsNoRoot}
use Rattle.xf_law_recalculation.specs.Held.Held.{is_held}
use Rattle.xf_def_machine.specs.Behave.{model_at, no_model}
use Rattle.xf_def_machine.specs.Primitives.{all_due, attach, changed_at, copy, detach, if_other, in_model, in_some_model, list_changed, plant, set_text, texts_due, with_forest, with_list_mark, with_text_mark, is_other_text}
use Rattle.xf_def_machine.specs.Profile.{Profile}
use Rattle.xf_def_machine.specs.State.{Flags, Model, State}
use Rattle.xf_def_machine.specs.Surround.{all_in, model_holding}
use Rattle.xf_law_machine.proofs.RestLemmas.Holds.{Held}
use Rattle.xf_law_machine.proofs.RestLemmas.FlagLaws.{changed-length}
use Rattle.xf_law_machine.proofs.RestLemmas.WithinLaws.{grown-by-held, grown-held}
use Rattle.xf_law_sessions.specs.Kept.Kept.{HasBinds, HasNodes}
use Rattle.xf_law_sessions.specs.Kept.Stays.{PartStays, SameForm}
use Rattle.xf_law_sessions.proofs.KeptLemmas.Places.{holder_above, stays-attached, stays-copied, stays-detached, stays-grown, stays-text}

-- ---- one model of a list

pub this-at : (change : Model → Model) (k : ℕ) (ms : List Model) → k < length ms → get_or (changed_at k change ms) k no_model ≡ change (get_or ms k no_model)
this-at change k [] h = absurd (omega (arith, h))
this-at change zero (m ∷ ms) h = refl
this-at change (suc k) (m ∷ ms) h = this-at change k ms (omega (arith, h))

pub other-at : (change : Model → Model) (k j : ℕ) (ms : List Model) → (j == k) ≡ false → get_or (changed_at k change ms) j no_model ≡ get_or ms j no_model
other-at change k j [] h = refl
other-at change zero zero (m ∷ ms) h = cc h
other-at change zero (suc j) (m ∷ ms) h = refl
other-at change (suc k) zero (m ∷ ms) h = refl
other-at change (suc k) (suc j) (m ∷ ms) h = other-at change k j ms (let less : (suc j == suc k) ≡ false = h in grind (arith, nat_tests, less))

limit-ok : {X : Type 0} (o : Option TreeFault) (x y : X) → unless o x ≡ Ok y → o ≡ None
limit-ok None x y e = refl
limit-ok (Some fault) x y e = cc

-- ---- facts

-- what is so of a model, told by its part of the data, whatever is due and marked
pub record IsTold (tables : Tables) (R : State → ℕ → Model → Type 0) : Type 0 where
  pub elsewhere : (s t : State) (model : ℕ) (m : Model) → SameForm tables s t → PartStays s.form.instances model s.forest t.forest → R s model m → R t model m
  pub marks : (s : State) (model : ℕ) (m : Model) (flags : Flags) (texts lists : List ℕ) → R s model m → R s model (record m { flags = flags; texts = texts; lists = lists })

-- a behaviour that each change of the data flags
pub record IsFlagged (due : Flags → Bool) : Type 0 where
  pub all : due (record { rebuild = true; recalculate = true; revalidate = true; refresh = true }) ≡ true
  pub refreshed : (f : Flags) (b : Bool) → due (record f { refresh = b }) ≡ due f

module _ (tables : Tables) (R : State → ℕ → Model → Type 0) (told : IsTold tables R) (due : Flags → Bool) (flagged : IsFlagged due) where
  -- so of each model of which the behaviour is not due
  abbrev pub Holds : State → Type 0
  Holds s = (model : ℕ) → model < length s.models → due (model_at s model).flags ≡ false → R s model (model_at s model)

  -- what a change of the data leaves in which the models are these
  abbrev pub After : State → State → Type 0
  After s t = HasNodes t.forest → Holds t

  untrue : {X : Type 0} → true ≡ false → X
  untrue e = cc e

  -- all models stay, and their parts
  pub same-models : (s t : State) → SameForm tables s t → t.models ≡ s.models → ((model : ℕ) → PartStays s.form.instances model s.forest t.forest) → Holds s → Holds t
  same-models s t h e stays k model l d =
      let is : model_at t model ≡ model_at s model = ap (λ (ms : List Model). get_or ms model no_model) e in
      subst (R t model) (sym is)
      (told.elsewhere s t model (model_at s model) h (stays model)
      (k model (subst (λ n. model < n) (ap length e) l) (ap (λ (m : Model). due m.flags) (sym is) ∙ d)))

  -- one model is another one, if some is, and the parts of the others stay
  pub one-model : (change : Model → Model) (o : Option ℕ) (s : State) (forest : Forest) (made : ℕ) → HasBinds tables s.form → HasNodes s.forest → HasNodes forest →
      let t = with_forest forest (record (in_some_model change o s) { made = made }) in
      ((model : ℕ) → is_held model o ≡ false → PartStays s.form.instances model s.forest forest) →
      ((model : ℕ) → o ≡ Some model → model < length s.models → due (change (model_at s model)).flags ≡ false → Holds s → R t model (change (model_at s model))) →
      Holds s → Holds t
  one-model change None s forest made b h n stays here k model l d =
      let t : State = with_forest forest (record s { made = made }) in
      same-models s t (record { binds = b; same = refl; before = h; after = n }) refl (λ j. stays j refl) k model l d
  one-model change (Some j) s forest made b h n stays here k model l d = by (model == j) refl
    where
      t : State
      t = with_forest forest (record (in_model change j s) { made = made })

      many : model < length s.models
      many = subst (λ x. model < x) (changed-length change j s.models) l

      same : SameForm tables s t
      same = record { binds = b; same = refl; before = h; after = n }

      by : (e : Bool) → (model == j) ≡ e → R t model (model_at t model)
      by false e =
          let is : model_at t model ≡ model_at s model = other-at change j model s.models e in
          subst (R t model) (sym is)
          (told.elsewhere s t model (model_at s model) same (stays model e) (k model many (ap (λ (m : Model). due m.flags) (sym is) ∙ d)))
      by true e =
          let equal : model ≡ j = eqb-true model j e in
          let is : model_at t model ≡ change (model_at s model) = ap (λ i. get_or (changed_at i change s.models) model no_model) (sym equal) ∙ this-at change model s.models many in
          subst (R t model) (sym is) (here model (ap Some (sym equal)) many (ap (λ (m : Model). due m.flags) (sym is) ∙ d) k)

  -- one model alone, by what it is then
  pub alone-holds : (change : Model → Model) (j : ℕ) (s : State) → HasBinds tables s.form → HasNodes s.forest
      → (j < length s.models → due (change (model_at s j)).flags ≡ false → R s j (change (model_at s j))) → Holds s → Holds (in_model change j s)
  alone-holds change j s b h made k =
      one-model change (Some j) s s.forest s.made b h h (λ model held part is. is)
      (λ model i l d g.
      let equal : j ≡ model = some i in
      told.elsewhere s (in_model change j s) model (change (model_at s model)) (record { binds = b; same = refl; before = h; after = h }) (λ part is. is)
      (subst (λ x. R s x (change (model_at s x))) equal
      (made (subst (λ x. x < length s.models) (sym equal) l) (subst (λ x. due (change (model_at s x)).flags ≡ false) (sym equal) d)))) k
    where
      some : {a c : ℕ} → Some a ≡ Some c → a ≡ c
      some i = cc i

  -- each model, by what it is then
  pub all-hold : (t s : State) → SameForm tables s t → ((model : ℕ) → PartStays s.form.instances model s.forest t.forest) → length t.models ≡ length s.models
      → ((model : ℕ) → model < length s.models → due (model_at t model).flags ≡ false → Holds s → R s model (model_at t model)) → Holds s → Holds t
  all-hold t s h stays e made k model l d = told.elsewhere s t model (model_at t model) h (stays model) (made model (subst (λ n. model < n) e l) d k)

  -- ---- trees that come, as detached ones

  grown : (s : State) (forest : Forest) (made : ℕ) → HasBinds tables s.form → HasNodes s.forest → ((model : ℕ) → PartStays s.form.instances model s.forest forest) → Holds s → After s (with_forest forest (record s { made = made }))
  grown s forest made b h stays k n = same-models s (with_forest forest (record s { made = made })) (record { binds = b; same = refl; before = h; after = n }) refl stays k

  pub copy-holds : (p : Profile) (n : ℕ) (s : State) → HasBinds tables s.form → IsNoRoot n s.forest → HasNodes s.forest → Holds s → Held (λ q. After s q.1) (copy p n s)
  copy-holds p n s b may h k =
      grown-by-held (After s) p (length (tree_of n s.forest.nodes)) (copied p.bounds.limits n s.forest) s
      (λ one e. grown s one.1 (s.made + length (tree_of n s.forest.nodes)) b h (λ model. stays-copied s.form.instances model s.forest h.trees p.bounds.limits n one.0 one.1 may e) k)

  pub plant-holds : (p : Profile) (contents : List (ℕ × Content)) (s : State) → HasBinds tables s.form → IsGrowth contents → HasNodes s.forest → Holds s → Held (λ q. After s q.1) (plant p contents s)
  plant-holds p contents s b growth h k =
      grown-by-held (After s) p (length contents) (with_tree p.bounds.limits contents s.forest) s
      (λ one e.
      let tree = numbered_from s.forest.next contents in
      let after : Forest = record { nodes = s.forest.nodes ++ tree; next = s.forest.next + length contents } in
      let is : after ≡ one.1 = ap (λ (w : ℕ × Forest). w.1) (unless-ok (passed_by_tree p.bounds.limits tree after.nodes) (s.forest.next, after) one e) in
      grown s one.1 (s.made + length contents) b h (λ model. subst (PartStays s.form.instances model s.forest) is (stays-grown s.form.instances model s.forest h.trees contents growth after.next)) k)

  -- ---- trees that move

  listed : (parent : ℕ) (s : State) (forest : Forest) (made : ℕ) → HasBinds tables s.form → HasNodes s.forest →
      ((model : ℕ) → is_held model (model_holding s parent) ≡ false → PartStays s.form.instances model s.forest forest) → Holds s →
      After s (with_forest forest (record (list_changed (Some parent) s) { made = made }))
  listed parent s forest made b h stays k n =
      one-model (λ m. all_due (with_list_mark parent m)) (model_holding s parent) s forest made b h n stays
      (λ model e l d. untrue (sym flagged.all ∙ d)) k

  pub attach-holds : (p : Profile) (n parent place : ℕ) (s : State) → HasBinds tables s.form → MayPlace n parent s.forest → HasNodes s.forest → Holds s → Held (After s) (attach p n parent place s)
  attach-holds p n parent place s b may h k =
      grown-held (After s) p 0 (attached p.bounds.limits n parent place s.forest) (list_changed (Some parent) s)
      (λ forest e. listed parent s forest ((list_changed (Some parent) s).made + 0) b h
      (λ model held. stays-attached s.form.instances model s.forest h.trees p.bounds.limits n parent place forest may e held) k)

  pub detach-holds : (n : ℕ) (s : State) → HasBinds tables s.form → IsNoRoot n s.forest → HasNodes s.forest → Holds s → After s (detach n s)
  detach-holds n s b may h k = by (parent_of n (all_in s)) (λ model. stays-detached s.form.instances model s.forest h.trees n may)
    where
      by : (o : Option ℕ) → ((model : ℕ) → is_held model (holder_above s.form.instances o s.forest.nodes) ≡ false → PartStays s.form.instances model s.forest (detached n s.forest))
          → After s (with_forest (detached n s.forest) (list_changed o s))
      by None stays = grown s (detached n s.forest) s.made b h (λ model. stays model refl) k
      by (Some parent) stays = listed parent s (detached n s.forest) (list_changed (Some parent) s).made b h stays k

  -- ---- texts

  pub text-holds : (p : Profile) (n : ℕ) (text : List ℕ) (s : State) → HasBinds tables s.form → HasNodes s.forest
      → ((model : ℕ) (t : State) → SameForm tables s t → t.forest ≡ with_text n text s.forest → model < length s.models → due (texts_due (model_at s model)).flags ≡ false → Holds s → R t model (model_at s model))
      → Holds s → Held (After s) (set_text p n text s)
  text-holds p n text s b h here k =
      let after = with_text n text s.forest in
      let change : Model → Model = λ m. texts_due (if_other (is_other_text s n text) (with_text_mark n) m) in
      let marked = in_some_model change (model_holding s n) s in
      let o = passed_by_text p.bounds.limits (length text) after.nodes in
      grown-held (After s) p (length (new_texts n text s.forest)) (unless o after) marked
      (λ forest e w. let is : after ≡ forest = unless-ok o after forest e in
      let t : State = with_forest forest (record marked { made = marked.made + length (new_texts n text s.forest) }) in
      one-model change (model_holding s n) s forest (marked.made + length (new_texts n text s.forest)) b h w
      (λ model held. subst (PartStays s.form.instances model s.forest) is (stays-text s.form.instances model s.forest h.trees p.bounds.limits n text (limit-ok o after forest e) held))
      (λ model i l d g.
      marked-too (is_other_text s n text) t model (model_at s model)
      (here model t (record { binds = b; same = form-same change (model_holding s n); before = h; after = w }) (sym is) l (flags-too (is_other_text s n text) (model_at s model) d) g)) k)
    where
      changed : Bool → Model → Model
      changed is_other m = texts_due (if_other is_other (with_text_mark n) m)

      marked-too : (is_other : Bool) (t : State) (model : ℕ) (m : Model) → R t model m → R t model (changed is_other m)
      marked-too true t model m r = told.marks t model m (texts_due m).flags (m.texts ++ n ∷ []) m.lists r
      marked-too false t model m r = told.marks t model m (texts_due m).flags m.texts m.lists r

      flags-too : (is_other : Bool) (m : Model) → due (changed is_other m).flags ≡ false → due (texts_due m).flags ≡ false
      flags-too true m d = d
      flags-too false m d = d

      form-same : (change : Model → Model) (o : Option ℕ) → (in_some_model change o s).form ≡ s.form
      form-same change None = refl
      form-same change (Some j) = refl

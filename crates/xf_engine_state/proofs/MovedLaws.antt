-- Trees that come and go in the data are those of the state.
use Rattle.std.proofs.Common.{◌≡◌, ℕ, ◌+◌, ◌^◌, Bool, true, false, not, cond, ◌||◌, List, [], ◌∷◌, ◌++◌, length, nat_lt, Option, Some, None, Result, Ok, Err, refl, sym, ap, ◌∙◌, subst, ◌⊎◌, inl, inr, arith}
use Rattle.std.specs.Prelude.{Contains}
use Rattle.std.specs.List.{list_any}
use Rattle.xf_name.specs.Bindings.{Bindings}
use Rattle.xf_name.specs.declared.lit.Lit.{Lit}
use Rattle.xf_name.specs.declared.qname.QName.{QName}
use Rattle.xf_def_forest.specs.declared.bare.Bare.{Bare}
use Rattle.xf_def_forest.specs.declared.bare.BareAttribute.{BareAttribute}
use Rattle.xf_def_forest.specs.declared.fault.TreeFault.{TreeFault}
use Rattle.xf_def_forest.specs.declared.node.NodeId.{NodeId}
use Rattle.xf_def_forest.specs.declared.fault.TreeFault.TheVariants as tree
use Rattle.xf_def_forest.specs.Changes.{attached, detached}
use Rattle.xf_def_forest.specs.Forest.{Forest}
use Rattle.xf_def_forest.specs.Limits.{limits}
use Rattle.xf_def_forest.specs.Plant.{contents_of}
use Rattle.xf_def_forest.specs.Planted.{Elements, bare_fault, contents_of_bare, elements_of_bare, first_fault, has_bad_bare, is_bound_attribute, is_bound_element, lit_fault, or_later, planted, planted_bare, unless_fault, with_tree}
use Rattle.xf_def_forest.specs.Visit.{parent_of, visits}
use Rattle.xf_def_machine.specs.declared.limit.LimitWord.{LimitWord}
use Rattle.xf_def_machine.specs.declared.limit.LimitWord.TheVariants as word
use Rattle.xf_def_machine.specs.Primitives as machine
use Rattle.xf_def_machine.specs.Primitives.{grown, grown_by, grown_to, in_some_model, list_changed, over_made}
use Rattle.xf_def_machine.specs.Refusal.{Refused, if_over, unless_passed, words_of}
use Rattle.xf_def_machine.specs.State.{Model, State}
use Rattle.xf_def_machine.specs.Surround.{model_holding}
use Rattle.xf_binds.specs.Kept.{Kept}
use Rattle.xf_controls.specs.declared.copy.ControlCopy.{ControlCopy}
use Rattle.xf_form.specs.declared.loaded.Loaded.{Loaded}
use Rattle.xf_def_machine.specs.declared.refusal.Refusal.TheVariants as refusal
use Rattle.xf_def_form.specs.Formed.{profile}
use Rattle.xf_undo.specs.Draft as undo
use Rattle.xf_undo.specs.Draft.{Draft}
use Rattle.xf_engine_state.specs.declared.fault.WorkFault.{WorkFault}
use Rattle.xf_engine_state.specs.declared.fault.WorkFault.TheVariants as fault
use Rattle.xf_engine_state.specs.declared.flags.Flags.{Flags}
use Rattle.xf_engine_state.specs.declared.tally.Tally.{Tally}
use Rattle.xf_engine_state.specs.Does.{Does, IsRefused, Makes}
use Rattle.xf_engine_state.specs.Grown.{IsGrown, with_more}
use Rattle.xf_engine_state.specs.Moving.{IsGrownBy, IsRefusedBy, IsWithin, all_due_of, fault_in, listed}
use Rattle.xf_engine_state.specs.Parts.{Chosen, standing_of}
use Rattle.xf_engine_state.specs.Planting.{fault_of}
use Rattle.xf_engine_state.specs.Setting.{SaysLimit, holder_of}
use Rattle.xf_engine_state.specs.Standing.{Standing, state_of}
use Rattle.xf_engine_state.proofs.ListedLaws.{listed-state}
use Rattle.xf_def_xpath.proofs.VisitFacts.{no}

-- ---- a change that makes nodes

-- it is refused by the first word of its fault
limited : (X : Type 0) (count : ℕ) (s : State) (f : TreeFault) (w : LimitWord) → words_of f ≡ w ∷ [] → s.calls ≡ [] → IsRefused (refusal.Limit w) (grown {X = X} profile count (Err f) s)
limited X count s f w is none = (
  (
    words_of f ++ over_made profile (s.made + count),
    refl,
    subst (λ ws. Contains (ws ++ over_made profile (s.made + count)) w) (sym is) (0, omega arith, refl),
  ),
  none,
)

-- and where too many are made by that word, whatever else is passed
over-limited : {X : Type 0} (count : ℕ) (s : State) (r : Result X TreeFault) → s.calls ≡ [] → nat_lt (2 ^ 32) (s.made + count) ≡ true → IsRefused (refusal.Limit word.Made) (grown profile count r s)
over-limited {X} count s (Ok x) none over =
    subst (λ b. IsRefused {X = X × State} (refusal.Limit word.Made) (unless_passed {X = X × State} s (if_over b word.Made) (x, record s { made = s.made + count }))) (sym over) ((word.Made ∷ [], refl, (0, omega arith, refl)), none)
over-limited {X} count s (Err f) none over = ((words_of f ++ over_made profile (s.made + count), refl, subst (λ b. Contains (words_of f ++ if_over b word.Made) word.Made) (sym over) (last f)), none)
  where
    last : (f : TreeFault) → Contains (words_of f ++ word.Made ∷ []) word.Made
    last tree.Nodes = (1, omega arith, refl)
    last tree.NodeText = (1, omega arith, refl)
    last tree.AllText = (1, omega arith, refl)
    last tree.Depth = (1, omega arith, refl)
    last tree.BadName = (0, omega arith, refl)
    last tree.Prefix = (0, omega arith, refl)
    last tree.Memory = (0, omega arith, refl)

tree-refused : (count : ℕ) (t : Tally) (r : Result (ℕ × Forest) TreeFault) (f : TreeFault) → r ≡ Err f → IsRefusedBy count t r (fault_of f)
tree-refused count t r tree.Nodes e = λ s made none. subst (λ g. IsRefused (refusal.Limit word.Nodes) (grown profile count g s)) (sym e) (limited (ℕ × Forest) count s tree.Nodes word.Nodes refl none)
tree-refused count t r tree.NodeText e = λ s made none. subst (λ g. IsRefused (refusal.Limit word.Text) (grown profile count g s)) (sym e) (limited (ℕ × Forest) count s tree.NodeText word.Text refl none)
tree-refused count t r tree.AllText e = λ s made none. subst (λ g. IsRefused (refusal.Limit word.All) (grown profile count g s)) (sym e) (limited (ℕ × Forest) count s tree.AllText word.All refl none)
tree-refused count t r tree.Depth e = λ s made none. subst (λ g. IsRefused (refusal.Limit word.Depth) (grown profile count g s)) (sym e) (limited (ℕ × Forest) count s tree.Depth word.Depth refl none)
tree-refused count t r tree.BadName e = tt
tree-refused count t r tree.Prefix e = tt
tree-refused count t r tree.Memory e = tt

-- ---- the names of a bare tree

abbrev is_name : TreeFault → Bool
is_name tree.BadName = true
is_name tree.Prefix = true
is_name f = false

abbrev names : Option TreeFault → Type 0
names None = Unit {0}
names (Some f) = is_name f ≡ true

later-names : (o later : Option TreeFault) → names o → names later → names (or_later o later)
later-names None later h i = i
later-names (Some f) later h i = h

bare-name : (b : Bindings) (name : QName) (attributes : List BareAttribute) → names (bare_fault b (name, attributes))
bare-name b name attributes = by (has_bad_bare b name attributes) (not (is_bound_element b name) || list_any (λ a. not (is_bound_attribute b a.name)) attributes)
  where
    by : (c d : Bool) → names (cond c (Some tree.BadName) (cond d (Some tree.Prefix) None))
    by true d = refl
    by false true = refl
    by false false = tt

first-names : (b : Bindings) (es : Elements) → names (first_fault (bare_fault b) es)
first-names b [] = tt
first-names b (e ∷ es) = later-names (bare_fault b e) (first_fault (bare_fault b) es) (bare-name b e.0 e.1) (first-names b es)

err-same : {X : Type 0} (a b : TreeFault) → ◌≡◌ {A = Result X TreeFault} (Err a) (Err b) → a ≡ b
err-same {X} a b e = cc e

drafted-fault : (d : Draft) (r : Result (ℕ × Forest) TreeFault) (f : TreeFault) → undo.with_tree d r ≡ Err f → r ≡ Err f
drafted-fault d (Ok p) f i = cc i
drafted-fault d (Err g) f i = ap Err (err-same g f i)

named-refused : (count : ℕ) (t : Tally) (r : Result (ℕ × Forest) TreeFault) (f : TreeFault) → is_name f ≡ true → IsRefusedBy count t r (fault_of f)
named-refused count t r tree.BadName h = tt
named-refused count t r tree.Prefix h = tt
named-refused count t r tree.Memory h = tt
named-refused count t r tree.Nodes h = no h
named-refused count t r tree.NodeText h = no h
named-refused count t r tree.AllText h = no h
named-refused count t r tree.Depth h = no h

pub bare-refused : (b : Bindings) (bare : Bare) (d : Draft) (count : ℕ) (t : Tally) (f : TreeFault) → (f ≡ tree.Memory) ⊎ (undo.with_tree d (planted_bare limits b bare d.now) ≡ Err f)
    → IsRefusedBy count t (with_tree limits (contents_of_bare b bare 0 0) d.now) (fault_of f)
bare-refused b bare d count t f (inl e) = subst (λ g. IsRefusedBy count t (with_tree limits (contents_of_bare b bare 0 0) d.now) (fault_of g)) (sym e) tt
bare-refused b bare d count t f (inr e) = by (first_fault (bare_fault b) (elements_of_bare bare)) (first-names b (elements_of_bare bare)) e
  where
    by : (o : Option TreeFault) → names o → undo.with_tree d (unless_fault o (with_tree limits (contents_of_bare b bare 0 0) d.now)) ≡ Err f → IsRefusedBy count t (with_tree limits (contents_of_bare b bare 0 0) d.now) (fault_of f)
    by None h i = tree-refused count t (with_tree limits (contents_of_bare b bare 0 0) d.now) f (drafted-fault d (with_tree limits (contents_of_bare b bare 0 0) d.now) f i)
    by (Some g) h i = named-refused count t (with_tree limits (contents_of_bare b bare 0 0) d.now) f (subst (λ k. is_name k ≡ true) (err-same g f i) h)

-- ---- a literal tree, whose names have no fault

pub literal-planted : (b : Bindings) (lit : Lit) (space : ℕ) (forest : Forest) → lit_fault b lit ≡ None → planted limits b space lit forest ≡ with_tree limits (contents_of b lit space 0) forest
literal-planted b lit space forest none = ap (λ o. unless_fault o (with_tree limits (contents_of b lit space 0) forest)) none

pub literal-refused : (b : Bindings) (lit : Lit) (d : Draft) (count : ℕ) (t : Tally) (f : TreeFault) → lit_fault b lit ≡ None → (f ≡ tree.Memory) ⊎ (undo.with_tree d (planted limits b 0 lit d.now) ≡ Err f)
    → IsRefusedBy count t (with_tree limits (contents_of b lit 0 0) d.now) (fault_of f)
literal-refused b lit d count t f none (inl e) = subst (λ g. IsRefusedBy count t (with_tree limits (contents_of b lit 0 0) d.now) (fault_of g)) (sym e) tt
literal-refused b lit d count t f none (inr e) =
    let given = with_tree limits (contents_of b lit 0 0) d.now in
    tree-refused count t given f (drafted-fault d given f (sym (ap (undo.with_tree d) (literal-planted b lit 0 d.now none)) ∙ e))

-- ---- over a state

by-refused : (why : _) (r : Result ((ℕ × Forest) × State) Refused) → IsRefused why r → IsRefused why (grown_by r)
by-refused why (Err x) h = h
by-refused why (Ok x) h = absurd h

to-refused : (why : _) (r : Result (Forest × State) Refused) → IsRefused why r → IsRefused why (grown_to r)
to-refused why (Err x) h = h
to-refused why (Ok x) h = absurd h

changed-made : (o : Option ℕ) (change : Model → Model) (s : State) → ((in_some_model change o s).made ≡ s.made) × ((in_some_model change o s).calls ≡ s.calls)
changed-made None change s = (refl, refl)
changed-made (Some model) change s = (refl, refl)

module _ (chosen : Chosen) (loaded : Loaded) (forest : Forest) (table : List Kept) (flags : List Flags) (controls : List ControlCopy) (tally : Tally) (many : length table ≡ length flags) where
  abbrev s : State
  s = state_of (standing_of chosen loaded forest table flags controls tally)

  plus : (e : ℕ) → e ≡ e + 0
  plus e = omega arith

  -- ---- a tree that comes as a detached one

  pub tree-comes : (count n : ℕ) (f : Forest) (given : Result (ℕ × Forest) TreeFault) → given ≡ Ok (n, f) → nat_lt (2 ^ 32) (tally.made + count) ≡ false
      → grown_by (grown profile count given s) ≡ Ok (n, state_of (standing_of chosen loaded f table flags controls (with_more count 0 tally)))
  tree-comes count n f given e fits =
      ap (λ g. grown_by (grown profile count g s)) e
      ∙ ap (λ b. grown_by (unless_passed s (if_over b word.Made) ((n, f), record s { made = tally.made + count }))) fits
      ∙ ap (λ (k : ℕ). Ok (n, record s { forest = f; made = tally.made + count; evaluated = k })) (plus tally.evaluated)

  pub tree-makes : (count : ℕ) (given : Result (ℕ × Forest) TreeFault) (e : Draft) (u : Tally) (r : Result NodeId WorkFault) → IsGrownBy r count given e tally u
      → Makes (λ (n : NodeId). n.number) r (standing_of chosen loaded e.now table flags controls u) (grown_by (grown profile count given s))
  tree-makes count given e u (Ok top) h =
      tree-comes count top.number e.now given h.0 h.2 ∙ ap (λ v. Ok (top.number, state_of (standing_of chosen loaded e.now table flags controls v))) (sym h.1)
  tree-makes count given e u (Err (fault.Refused why)) h = by-refused why (grown profile count given s) (h s refl refl)
  tree-makes count given e u (Err fault.Memory) h = tt

  -- ---- a tree that is cut off

  pub tree-goes : (n parent : ℕ) (holder : Option ℕ) → parent_of n (visits forest.nodes) ≡ Some parent → holder ≡ holder_of loaded.form.tables.instances forest parent → IsWithin holder flags
      → machine.detach n s ≡ state_of (standing_of chosen loaded (detached n forest) (listed holder parent table) (all_due_of holder flags) controls tally)
  tree-goes n parent holder below held within =
      ap (λ o. record (list_changed o s) { forest = detached n forest }) below
      ∙ ap (λ (t : State). record t { forest = detached n forest }) (listed-state chosen loaded forest table flags controls tally many holder parent held within)

  -- ---- a tree that comes below a parent

  module _ (n parent place : ℕ) where
    abbrev given : Result Forest TreeFault
    given = attached limits n parent place forest

    abbrev marked : State
    marked = list_changed (Some parent) s

    marked-made : marked.made ≡ tally.made
    marked-made = (changed-made (model_holding s parent) (λ m. machine.all_due (machine.with_list_mark parent m)) s).0

    marked-calls : marked.calls ≡ []
    marked-calls = (changed-made (model_holding s parent) (λ m. machine.all_due (machine.with_list_mark parent m)) s).1

    pub place-refused : (told : WorkFault) → SaysLimit told (fault_in (attached limits n parent place forest)) → (end : Standing) → Does {X = Unit {0}} (Err told) end (machine.attach profile n parent place s)
    place-refused (fault.Refused why) h end = to-refused why (grown profile 0 given marked) (by given h)
      where
        by : (r : Result Forest TreeFault) → SaysLimit (fault.Refused why) (fault_in r) → IsRefused why (grown profile 0 r marked)
        by (Ok f) i = absurd i
        by (Err f) (w, same, words) = subst (λ x. IsRefused x (grown {X = Forest} profile 0 (Err f) marked)) (sym same) (limited Forest 0 marked f w words marked-calls)
    place-refused fault.Memory h end = tt

    pub count-refused : (told : WorkFault) → IsGrown tally 0 0 (Err told) → (end : Standing) → Does {X = Unit {0}} (Err told) end (machine.attach profile n parent place s)
    count-refused (fault.Refused why) h end =
        subst (λ x. IsRefused x (machine.attach profile n parent place s)) (sym h.0)
        (to-refused (refusal.Limit word.Made) (grown profile 0 given marked) (over-limited 0 marked given marked-calls (ap (λ m. nat_lt (2 ^ 32) (m + 0)) marked-made ∙ h.1)))
    count-refused fault.Memory h end = tt

    abbrev after_mark : Option ℕ → State
    after_mark holder = state_of (standing_of chosen loaded forest (listed holder parent table) (all_due_of holder flags) controls tally)

    pub placed-done : (holder : Option ℕ) (f : Forest) → holder ≡ holder_of loaded.form.tables.instances forest parent → IsWithin holder flags → attached limits n parent place forest ≡ Ok f
        → nat_lt (2 ^ 32) (tally.made + 0) ≡ false
        → machine.attach profile n parent place s ≡ Ok (state_of (standing_of chosen loaded f (listed holder parent table) (all_due_of holder flags) controls (with_more 0 0 tally)))
    placed-done holder f held within e fits =
        ap (λ t. grown_to (grown profile 0 given t)) (listed-state chosen loaded forest table flags controls tally many holder parent held within)
        ∙ ap (λ g. grown_to (grown profile 0 g (after_mark holder))) e
        ∙ ap (λ b. grown_to (unless_passed (after_mark holder) (if_over b word.Made) (f, record (after_mark holder) { made = tally.made + 0 }))) fits
        ∙ ap (λ (k : ℕ). Ok (record (after_mark holder) { forest = f; made = tally.made + 0; evaluated = k })) (plus tally.evaluated)

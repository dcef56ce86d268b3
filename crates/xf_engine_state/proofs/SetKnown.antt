-- What is known of a last recalculation once a text is set: it is another one, and its node is marked; or it stood there, and nothing is.
use Rattle.std.proofs.Common.{◌≡◌, ℕ, ◌+◌, ◌<◌, ◌^◌, ◌==◌, Bool, true, false, cond, ◌||◌, List, [], ◌∷◌, map, length, nat_lt, Option, Some, None, option_map, refl, sym, ap, ◌∙◌, subst, inl, inr, arith}
use Rattle.std.specs.Prelude.{◌⊎◌, not}
use Rattle.std.proofs.lemmas.Bool.{cases_lt, eqb-true}
use Rattle.std.proofs.lemmas.Bool.Decides.{nat_tests}
use Rattle.xf_def_forest.specs.declared.content.Node.{Node}
use Rattle.xf_def_forest.specs.Changes.{in_detached}
use Rattle.xf_def_forest.specs.Forest.{Forest, is_text, node_at}
use Rattle.xf_def_forest.specs.Needs.{IsSettable}
use Rattle.xf_def_forest.specs.Settle.{has_text}
use Rattle.xf_def_forest.specs.Shape.{erased}
use Rattle.xf_def_forest.specs.Texts.{is_attribute_at, new_texts, one_text, with_text}
use Rattle.xf_def_forest.specs.Visit.{Visit, has, still_above, visit, visits, visits_from}
use Rattle.xf_def_forest.specs.WellFormed.{HasTrees}
use Rattle.xf_def_xpath.specs.Asked.{found}
use Rattle.xf_def_xpath.proofs.ForestVisits.{forest-visits, found-erased}
use Rattle.xf_def_xpath.proofs.UntextedLaws.{is_solid}
use Rattle.xf_def_xpath.proofs.VisitFacts.{found-out, no, none-some, some-same}
use Rattle.xf_def_model.specs.Settled.{bounds}
use Rattle.xf_def_model.specs.Pertinent.{AllOf}
use Rattle.xf_def_model.proofs.EachLemmas.{each_then}
use Rattle.xf_law_recalculation.specs.Agree.Hung.{are_hung}
use Rattle.xf_law_recalculation.specs.Agree.Settles.{IsSolid}
use Rattle.xf_law_recalculation.specs.Marks.Instances.{standing}
use Rattle.xf_law_recalculation.specs.Edit.InstanceEdits.{AreSolid}
use Rattle.xf_law_recalculation.specs.Change.Carried.{Carried, under}
use Rattle.xf_law_recalculation.proofs.ChangeLemmas.Fixed.{node-there}
use Rattle.xf_law_recalculation.proofs.ChangeLemmas.TextsCarry.{again_carried}
use Rattle.xf_law_recalculation.proofs.ChangeLemmas.Unchanged.{stands_unchanged}
use Rattle.xf_law_recalculation.specs.Since.Since.{Stood}
use Rattle.xf_law_recalculation.proofs.SinceLemmas.WrittenCarried.{solid-by}
use Rattle.xf_binds.specs.Kept.{Kept}
use Rattle.xf_binds.specs.Table.{kept_at}
use Rattle.xf_form.specs.declared.loaded.Loaded.{Loaded}
use Rattle.xf_engine_state.specs.Built.{scope_at}
use Rattle.xf_engine_state.specs.Known.{IsKnown, IsMarkedOrStood, IsKnownStill, IsRemembered, KeepsMarks, Knows}
use Rattle.xf_engine_state.specs.Setting.{mark_if, marked}
use Rattle.xf_engine_state.proofs.DeepLaws.{all-instances}
use Rattle.xf_engine_state.proofs.KnownLaws.{alone-after, follows, free, is-numbered, keeps-set, known-text, knows-marks, numbered, scope-stays, solid-after, solids, takes}
use Rattle.xf_engine_state.proofs.MarkedLaws.{marked-length}
use Rattle.xf_engine_state.proofs.Models.{set-length}
use Rattle.xf_engine_state.proofs.SetLaws.{set-past}
use Rattle.xf_engine_state.proofs.SolidLaws.{text-kept}
use Rattle.xf_engine_state.proofs.WholeLaws.{kept-set}

-- ---- marks where nothing is marked more

keeps-unmarked : (holder : Option ℕ) (n : ℕ) (table : List Kept) → KeepsMarks table (marked holder false n table)
keeps-unmarked None n table = λ m. record { stood = refl; texts = refl; lists = refl }
keeps-unmarked (Some model) n table = elim (cases_lt model (length table)) [
  | inl less ↦ keeps-set table model (kept_at table model) less (record { stood = refl; texts = refl; lists = refl })
  | inr past ↦ subst (KeepsMarks table) (sym (set-past table model (kept_at table model) past)) (λ m. record { stood = refl; texts = refl; lists = refl })
]

-- ---- a node that is no text

node-found : (n : ℕ) (above nodes : List Node) (y : Visit) → found n (visits_from above nodes) ≡ Some y → (x : Node) × (node_at n nodes ≡ Some x) × (x.content ≡ y.content)
node-found n above [] y h = none-some h
node-found n above (x ∷ xs) y h = by (x.number == n) refl h (node-found n (x ∷ still_above x.depth above) xs y)
  where
    by : (b : Bool) → (x.number == n) ≡ b → cond b (Some (visit above x)) (found n (visits_from (x ∷ still_above x.depth above) xs)) ≡ Some y →
        (found n (visits_from (x ∷ still_above x.depth above) xs) ≡ Some y → (z : Node) × (node_at n xs ≡ Some z) × (z.content ≡ y.content)) →
        (z : Node) × (cond (x.number == n) (Some x) (node_at n xs) ≡ Some z) × (z.content ≡ y.content)
    by true i j later = (x, ap (λ b. cond b (Some x) (node_at n xs)) i, ap (λ (v : Visit). v.content) (some-same j))
    by false i j later = let r = later j in (r.0, ap (λ b. cond b (Some x) (node_at n xs)) i ∙ r.1, r.2)

solid-node : (forest : Forest) → HasTrees forest → (n : ℕ) → IsSolid (visits forest.nodes) n → (x : Node) × (node_at n forest.nodes ≡ Some x) × (is_text x.content ≡ false)
solid-node forest trees n s = by (found n (visits forest.nodes)) refl (sym (found-erased n (visits forest.nodes)) ∙ out.0)
  where
    out : (found n (map erased (visits forest.nodes)) ≡ Some s.0) × (is_solid s.0 ≡ true)
    out = found-out is_solid n (map erased (visits forest.nodes)) s.0 (forest-visits forest trees).apart s.1

    not-true : (b : Bool) → not b ≡ true → b ≡ false
    not-true true h = no h
    not-true false h = refl

    by : (o : Option Visit) → found n (visits forest.nodes) ≡ o → option_map erased o ≡ Some s.0 → (x : Node) × (node_at n forest.nodes ≡ Some x) × (is_text x.content ≡ false)
    by None i j = none-some j
    by (Some y) i j =
        let f = node-found n [] forest.nodes y i in
        (f.0, f.1, ap is_text f.2 ∙ sym (text-kept y.content) ∙ ap (λ (v : Visit). is_text v.content) (some-same j) ∙ not-true (is_text s.0.content) out.1)

each-has : (P : ℕ → Type 0) (ns : List ℕ) → AllOf P ns → (k : ℕ) → has k ns ≡ true → P k
each-has P [] h k i = no i
each-has P (n ∷ ns) h k i = by (k == n) refl i (each-has P ns h.1 k)
  where
    by : (b : Bool) → (k == n) ≡ b → (b || has k ns) ≡ true → (has k ns ≡ true → P k) → P k
    by true e j later = subst P (sym (eqb-true k n e)) h.0
    by false e j later = later j

module _ (l : Loaded) (forest : Forest) (n : ℕ) (text : List ℕ) (trees : HasTrees forest) (trees_after : HasTrees (with_text n text forest)) (hung : are_hung forest.nodes ≡ true) (alone : in_detached forest.nodes ≡ [])
    (able : IsSettable n forest) (small : forest.next < 2 ^ 126) where
  abbrev then_set : Forest
  then_set = with_text n text forest

  -- ---- it stood there

  module _ (stood : has_text n text forest.nodes ≡ true) (model : ℕ) (k : Kept) (r : IsRemembered (scope_at l forest model) forest k) where
    unchanged : (is_attribute_at n forest.nodes ≡ true) ⊎ (text ≡ []) → new_texts n text forest ≡ [] → IsRemembered (scope_at l then_set model) then_set k
    unchanged kind none =
        let next : then_set.next ≡ forest.next = ap (λ ts. forest.next + length ts) none ∙ (let plus : forest.next + 0 ≡ forest.next = omega arith in plus) in
        let same : then_set ≡ forest =
        is-numbered l forest n text trees trees_after hung alone able small
        ∙ ap (λ ns. record { nodes = ns; next = then_set.next }) (stands_unchanged forest.next n text forest trees able stood kind)
        ∙ ap (λ m. record { nodes = forest.nodes; next = m }) next in
        subst (λ x. IsRemembered (scope_at l x model) x k) (sym same) r

    in-standing : (m : ℕ) → IsSolid (standing forest) m → IsSolid (visits forest.nodes) m
    in-standing m s = subst (λ ns. IsSolid (visits ns) m) (all-instances forest.nodes alone) s

    are-solid : AreSolid forest.next forest.nodes k.texts
    are-solid m h =
        let x = solid-node forest trees m (in-standing m (each-has (λ i. IsSolid (standing forest) i) k.texts r.solid m h)) in (
          by (m == forest.next) refl (r.carried.less m (r.carried.nodes m (node-there m forest.nodes x.0 x.1))),
          λ z e. ap (λ (y : Node). is_text y.content) (some-same (sym e ∙ x.1)) ∙ x.2,
        )
      where
        by : (b : Bool) → (m == forest.next) ≡ b → nat_lt m forest.next ≡ true → b ≡ false
        by false e less = refl
        by true e less = absurd (grind (arith, nat_tests, e, less))

    again : nat_lt forest.next then_set.next ≡ true → IsRemembered (scope_at l forest model) then_set k
    again new = record {
      f = λ m. c.0 (r.f m);
      taken = under then_set.next;
      was = r.was;
      carried = subst (λ x. Carried (λ m. c.0 (r.f m)) (under then_set.next) k.texts k.lists (scope_at l forest model) r.was.documents x r.was.forest) (sym (is-numbered l forest n text trees trees_after hung alone able small)) c.1;
      stood = each_then (Stood r.f bounds (scope_at l forest model) r.was forest) (Stood (λ m. c.0 (r.f m)) bounds (scope_at l forest model) r.was then_set) (λ v s. record {
        node = s.node;
        number = λ h.
            let here = solid-by (standing forest) (standing then_set) v.entry.node (sym (solids l forest n text trees trees_after hung alone able small)) h in
            let same = s.number here in
            let x = solid-node forest trees v.entry.node (in-standing v.entry.node here) in
            c.2 v.entry.node x.0 (ap (λ m. node_at m forest.nodes) same ∙ x.1) x.2 ∙ same;
        truth = s.truth;
        able = s.able;
        text = s.text;
      }) r.was.stood r.stood;
      same = r.same;
      unlisted = r.unlisted;
      solid = solid-after l forest n text trees trees_after hung alone able small k.texts r.solid;
    }
      where
        c : (s : ℕ → ℕ) × Carried (λ m. s (r.f m)) (under then_set.next) k.texts k.lists (scope_at l forest model) r.was.documents (numbered l forest n text trees trees_after hung alone able small) r.was.forest
            × ((m : ℕ) (x : Node) → node_at (r.f m) forest.nodes ≡ Some x → is_text x.content ≡ false → s (r.f m) ≡ r.f m)
        c = again_carried r.f r.taken (under then_set.next) k.texts k.lists (scope_at l forest model) r.was.documents forest.next n then_set.next text forest r.was.forest trees
            (subst HasTrees (is-numbered l forest n text trees trees_after hung alone able small) trees_after) able stood (free l forest n text trees trees_after hung alone able small model k r) new
            are-solid (λ m h. no (sym (ap (has m) r.unlisted) ∙ h)) (takes l forest n text trees trees_after hung alone able small model k r) (follows l forest n text trees trees_after hung alone able small model k r) r.carried

    pub known-again : IsRemembered (scope_at l then_set model) then_set k
    known-again = by (is_attribute_at n forest.nodes) refl text refl
      where
        by : (b : Bool) → is_attribute_at n forest.nodes ≡ b → (u : List ℕ) → text ≡ u → IsRemembered (scope_at l then_set model) then_set k
        by true i u e = unchanged (inl i) (ap (λ b. cond b [] (one_text forest.next text)) i)
        by false i [] e = unchanged (inr e) (ap (λ b. cond b [] (one_text forest.next text)) i ∙ ap (one_text forest.next) e)
        by false i (c ∷ cs) e =
            let one : length (new_texts n text forest) ≡ 1 = ap (λ b. length (cond b [] (one_text forest.next text))) i ∙ ap (λ u. length (one_text forest.next u)) e in
            subst (λ y. IsRemembered y then_set k) (sym (scope-stays l forest n text trees trees_after hung alone able small model)) (again (grind (arith, nat_tests, one)))

  -- ---- of the model of which it is known

  held : (table : List Kept) (model : ℕ) (holder : Option ℕ) (other stood : Bool) → stood ≡ has_text n text forest.nodes → IsMarkedOrStood other holder stood model → IsKnown l forest table model →
      IsKnown l then_set (marked holder other n table) model
  held table model holder true stood is h k = subst (λ o. IsKnown l then_set (marked o true n table) model) (sym h) (record {
    there = subst (λ c. model < c) (sym (set-length table model (mark_if true n (kept_at table model)))) k.there;
    alone = alone-after l forest n text trees trees_after hung alone able small;
    remembered =
        subst (IsRemembered (scope_at l then_set model) then_set) (sym (kept-set table model (mark_if true n (kept_at table model)) k.there))
        (known-text l forest n text trees trees_after hung alone able small model (kept_at table model) k.remembered);
  })
  held table model holder false stood is h k =
      knows-marks l then_set table (marked holder false n table) (Some model) (marked-length holder false n table) (keeps-unmarked holder n table) (record {
        there = k.there;
        alone = alone-after l forest n text trees trees_after hung alone able small;
        remembered = known-again (sym is ∙ h) model (kept_at table model) k.remembered;
      })

-- of data with detached trees no recalculation is known
pub knows-text : (l : Loaded) (forest : Forest) (n : ℕ) (text : List ℕ) → HasTrees forest → HasTrees (with_text n text forest) → are_hung forest.nodes ≡ true → IsSettable n forest → forest.next < 2 ^ 126
    → (table : List Kept) (known holder : Option ℕ) (other stood : Bool) (still : Option ℕ) → stood ≡ has_text n text forest.nodes → IsKnownStill known holder other stood still → Knows l forest table known
    → Knows l (with_text n text forest) (marked holder other n table) still
knows-text l forest n text trees trees_after hung able small table known holder other stood None is h k = tt
knows-text l forest n text trees trees_after hung able small table known holder other stood (Some model) is h k =
    let one : IsKnown l forest table model = subst (Knows l forest table) h.0 k in
    held l forest n text trees trees_after hung one.alone able small table model holder other stood is h.1 one

-- What is known of the last recalculation of a model: from one recalculation to the next, and where a text is set.
use Rattle.std.proofs.Common.{◌≡◌, ℕ, zero, suc, ◌+◌, ◌<◌, ◌≤◌, ◌^◌, ◌==◌, Bool, true, false, not, cond, ◌&&◌, ◌||◌, List, [], ◌∷◌, ◌++◌, map, length, get_or, Option, Some, None, slice_get, refl, sym, ap, ◌∙◌, subst, inl, inr, arith}
use Rattle.std.specs.Prelude.{◌⊎◌, IfSome, option_map}
use Rattle.std.proofs.lemmas.Bool.{eqb-true}
use Rattle.std.proofs.lemmas.Bool.Decides.{nat_tests}
use Rattle.xf_def_syntax.specs.declared.expr.Expr.{Expr}
use Rattle.xf_def_syntax.specs.declared.form.Bind.{Bind}
use Rattle.xf_name.specs.Bindings.{Bindings}
use Rattle.xf_def_forest.specs.declared.content.Content.{Content}
use Rattle.xf_def_forest.specs.declared.content.Content.TheVariants as content
use Rattle.xf_def_forest.specs.declared.content.Kind.{Kind}
use Rattle.xf_def_forest.specs.declared.content.Kind.TheVariants as kind
use Rattle.xf_def_forest.specs.declared.content.Kind.TheVariants.{Attribute, Element}
use Rattle.xf_def_forest.specs.declared.content.Node.{Node}
use Rattle.xf_def_forest.specs.Changes.{in_detached, in_instances}
use Rattle.xf_def_forest.specs.Forest.{Forest, has_number, is_text, kind_at, kind_of, node_at}
use Rattle.xf_def_forest.specs.Needs.{IsSettable}
use Rattle.xf_def_forest.specs.Settle.{with_numbered_text}
use Rattle.xf_def_forest.specs.Shape.{erased, shape_of}
use Rattle.xf_def_forest.specs.Texts.{is_attribute_at, new_texts, one_text, with_text}
use Rattle.xf_def_forest.specs.Visit.{Visit, has, still_above, visit, visits, visits_from}
use Rattle.xf_def_forest.specs.WellFormed.{HasTrees}
use Rattle.xf_def_forest.proofs.SettleLaws.{numbered-is}
use Rattle.xf_def_forest.proofs.TextLaws.{setting-keeps_shape}
use Rattle.xf_tree.proofs.ValueLemmas.{kind-live}
use Rattle.xf_funcs.specs.Called.{called}
use Rattle.xf_def_xpath.specs.Agree.{untexted}
use Rattle.xf_def_xpath.specs.Asked.{found}
use Rattle.xf_def_xpath.proofs.ShapeVisits.{shape-untexted}
use Rattle.xf_def_xpath.proofs.VisitFacts.{no, none-some, some-same}
use Rattle.xf_def_model.specs.Rules.{Scope}
use Rattle.xf_def_model.specs.Applied.{is_calculate}
use Rattle.xf_def_model.specs.Entries.{is_computed}
use Rattle.xf_def_model.specs.Pertinent.{AllOf, asking, askings, is_pertinent}
use Rattle.xf_def_model.specs.Settled.{Valued, bounds, calculates, values_over}
use Rattle.xf_def_model.proofs.EachLemmas.{each_then}
use Rattle.xf_def_model.proofs.PertinentLaws.{filter-shorter}
use Rattle.xf_law_recalculation.specs.Agree.FormSettles.{calculate_covered}
use Rattle.xf_law_recalculation.specs.Agree.Hung.{are_hung}
use Rattle.xf_law_recalculation.specs.Agree.Settles.{IsSolid}
use Rattle.xf_law_recalculation.proofs.AgreeLemmas.HungChanges.{hung_text}
use Rattle.xf_law_recalculation.proofs.AgreeLemmas.HungLaws.{hung_forest}
use Rattle.xf_law_recalculation.proofs.AgreeLemmas.TurnLists.{all-append}
use Rattle.xf_law_static.proofs.CoveredLemmas.ReaderLaw.{read_as_made}
use Rattle.xf_law_static.proofs.CoveredLemmas.StaticLaw.{static_covered}
use Rattle.xf_law_recalculation.specs.Marks.Instances.{standing}
use Rattle.xf_law_recalculation.specs.Marks.Outside.{IsOutside}
use Rattle.xf_law_recalculation.specs.Edit.Edits.{MarksMore}
use Rattle.xf_law_recalculation.proofs.MarksLemmas.Behind.{has-append}
use Rattle.xf_law_recalculation.specs.Change.Carried.{Carried, Follows, Takes, under}
use Rattle.xf_law_recalculation.proofs.ChangeLemmas.TakenNumbers.{under_takes}
use Rattle.xf_law_recalculation.proofs.ChangeLemmas.TextsCarry.{text_carried}
use Rattle.xf_law_recalculation.specs.Since.Since.{IsDue, Since, Stood, truly}
use Rattle.xf_law_recalculation.specs.Since.Pertinent.{settled_now, then_of}
use Rattle.xf_law_recalculation.proofs.SinceLemmas.Anew.{entries_stand, since_anew_law}
use Rattle.xf_law_recalculation.proofs.SinceLemmas.SolidStays.{solid_of}
use Rattle.xf_law_recalculation.proofs.SinceLemmas.WrittenCarried.{solid-by}
use Rattle.xf_law_forests.proofs.SettleLemmas.MeasureLaws.{all_done}
use Rattle.xf_law_machine.proofs.BehavioursLemmas.WrittenContents.{all-written}
use Rattle.xf_binds.specs.Kept.{Kept, recalculated}
use Rattle.xf_binds.specs.Table.{kept_at, with_kept}
use Rattle.xf_recalc_pertinent.specs.Marked.{is_evaluated, pertinent_marks}
use Rattle.xf_recalc_pertinent.specs.OfTable.{changes_in}
use Rattle.xf_binds_rebuild.specs.Built.{IsBuilt}
use Rattle.xf_recalc.specs.Passes.{AreCoveredIn, ArePassed, is_passed}
use Rattle.xf_recalc.specs.Settles.{IsSettled, MaySettle, contents_in}
use Rattle.xf_form.specs.Computed.{AllReadStatic, IsReadStatic}
use Rattle.xf_form.specs.declared.loaded.Loaded.{Loaded}
use Rattle.xf_form.proofs.StaticLaw.{loaded_static}
use Rattle.xf_engine_state.specs.Around.{given_in}
use Rattle.xf_engine_state.specs.Built.{scope_at}
use Rattle.xf_engine_state.specs.Known.{HasMarks, IsKnown, IsRemembered, KeepsMarks, Knows, MayBePassed, MayPass, is_of, marks_if}
use Rattle.xf_engine_state.specs.Parts.{IsLoaded}
use Rattle.xf_engine_state.proofs.Alone.{numbered-alone}
use Rattle.xf_engine_state.proofs.DeepLaws.{all-instances}
use Rattle.xf_engine_state.proofs.MaySettleLaws.{are-covered}
use Rattle.xf_engine_state.proofs.RebuildLaws.{IsAfter}
use Rattle.xf_engine_state.proofs.SettleLaws.{may-write}
use Rattle.xf_engine_state.proofs.SolidLaws.{document-solid, documents-solid, solid}
use Rattle.xf_engine_state.proofs.SurroundLaws.{surrounds}
use Rattle.xf_engine_state.proofs.WholeLaws.{kept-other, kept-set, scope-still}
use Rattle.xf_engine_state.proofs.Written.{written-still}

-- ---- the same marks

pub remembered-same : (scope : Scope) (forest : Forest) (j k : Kept) → HasMarks j k → IsRemembered scope forest j → IsRemembered scope forest k
remembered-same scope forest j k h r = record {
  f = r.f;
  taken = r.taken;
  was = r.was;
  carried = subst (λ ls. Carried r.f r.taken k.texts ls scope r.was.documents forest r.was.forest) (sym h.lists)
      (subst (λ ts. Carried r.f r.taken ts j.lists scope r.was.documents forest r.was.forest) (sym h.texts) r.carried);
  stood = r.stood;
  same = r.same ∙ sym h.stood;
  unlisted = h.lists ∙ r.unlisted;
  solid = subst (AllOf (λ n. IsSolid (standing forest) n)) (sym h.texts) r.solid;
}

pub knows-marks : (l : Loaded) (forest : Forest) (table other : List Kept) (known : Option ℕ) → length other ≡ length table → KeepsMarks table other → Knows l forest table known → Knows l forest other known
knows-marks l forest table other None many keeps h = tt
knows-marks l forest table other (Some model) many keeps h = record {
  there = subst (λ n. model < n) (sym many) h.there;
  alone = h.alone;
  remembered = remembered-same (scope_at l forest model) forest (kept_at table model) (kept_at other model) (keeps model) h.remembered;
}

-- of the model that was recalculated last, where no tree is detached
pub knows-of : (l : Loaded) (forest : Forest) (table : List Kept) (o : Option ℕ) (model : ℕ) (b : Bool) → IfSome o (λ known. (known ≡ model) × (b ≡ true)) → (b ≡ true → IsKnown l forest table model) → Knows l forest table o
knows-of l forest table None model b h is = tt
knows-of l forest table (Some known) model b h is = subst (IsKnown l forest table) (sym h.0) (is h.1)

pub keeps-set : (table : List Kept) (model : ℕ) (k : Kept) → model < length table → HasMarks (kept_at table model) k → KeepsMarks table (with_kept table model k)
keeps-set table model k within h other = by (other == model) refl
  where
    different : (other == model) ≡ false → other ≡ model → ⊥
    different e is = let same : (other == model) ≡ true = grind (arith, nat_tests, is) in no (sym e ∙ same)

    by : (b : Bool) → (other == model) ≡ b → HasMarks (kept_at table other) (kept_at (with_kept table model k) other)
    by true e =
        let is : other ≡ model = eqb-true other model e in
        subst (λ m. HasMarks (kept_at table m) (kept_at (with_kept table model k) m)) (sym is) (subst (HasMarks (kept_at table model)) (sym (kept-set table model k within)) h)
    by false e = subst (HasMarks (kept_at table other)) (sym (kept-other table model other k (different e))) (record { stood = refl; texts = refl; lists = refl })

-- a rebuild leaves them
pub rebuilt-marks : (table : List Kept) (model : ℕ) (after : List Kept) → model < length table → IsAfter table model after → KeepsMarks table after
rebuilt-marks table model after within i =
    subst (KeepsMarks table) (sym i.is) (keeps-set table model (record (kept_at table model) { entries = i.entries; asks = i.asks }) within (record { stood = refl; texts = refl; lists = refl }))

-- ---- what may be passed over

got-mapped : {X Y : Type 0} (F : X → Y) (xs : List X) (k : ℕ) (x : X) (d : Y) → slice_get xs k ≡ Some x → get_or (map F xs) k d ≡ F x
got-mapped F [] k x d h = none-some h
got-mapped F (y ∷ ys) zero x d h = ap F (some-same h)
got-mapped F (y ∷ ys) (suc k) x d h = got-mapped F ys k x d h

not-evaluated : (a b : Bool) → a ≡ true → not (a && b) ≡ true → b ≡ false
not-evaluated true true h i = no i
not-evaluated true false h i = refl
not-evaluated false b h i = no h

pub may-be_passed : (l : Loaded) (forest : Forest) (table : List Kept) (known : Option ℕ) (model : ℕ) (marks : List Bool) → Knows l forest table known →
    marks ≡ pertinent_marks (scope_at l forest model) (shape_of forest.nodes) (kept_at table model).entries (changes_in (kept_at table model)) →
    MayBePassed l forest model (kept_at table model) (marks_if (is_of known model) marks)
may-be_passed l forest table None model marks h is place e got passed computed = no passed
may-be_passed l forest table (Some known) model marks h is place e got passed computed = by (known == model) refl passed
  where
    by : (b : Bool) → (known == model) ≡ b → is_passed (marks_if b marks) place ≡ true → MayPass l forest model (kept_at table model) e
    by false i p = no p
    by true i p =
        let same : known ≡ model = eqb-true known model i in
        let mark : not (is_evaluated (scope_at l forest model) (shape_of forest.nodes) (kept_at table model).entries (changes_in (kept_at table model)) e) ≡ true =
        sym (ap not (ap (λ ms. get_or ms place true) is
        ∙ got-mapped (is_evaluated (scope_at l forest model) (shape_of forest.nodes) (kept_at table model).entries (changes_in (kept_at table model))) (kept_at table model).entries place e true got)) ∙ p in
        record {
          alone = h.alone;
          remembered = subst (λ m. IsRemembered (scope_at l forest m) forest (kept_at table m)) same h.remembered;
          outside =
              not-evaluated (is_computed e)
              (is_pertinent (shape_of forest.nodes) (changes_in (kept_at table model)) (askings (scope_at l forest model) (shape_of forest.nodes) (kept_at table model).entries) (asking (scope_at l forest model) (shape_of forest.nodes) e)) computed mark;
        }

-- ---- the expressions of a form that is loaded

covered : (d : ℕ) (b : Bindings) (o : Option Expr) → IsReadStatic d b o → calculate_covered o ≡ true
covered d b None h = refl
covered d b (Some expr) h = static_covered expr (read_as_made d b h.0 expr h.1) h.2

all-covered : (d : ℕ) (b : Bindings) (binds : List Bind) → AllReadStatic d b binds → AllOf (λ (bind : Bind). AreCoveredIn bind.properties) binds
all-covered d b [] h = tt
all-covered d b (bind ∷ binds) h = (
  record {
    calculate = covered d b bind.properties.calculate h.0.calculate;
    relevant = covered d b bind.properties.relevant h.0.relevant;
    readonly = covered d b bind.properties.readonly h.0.readonly;
    required = covered d b bind.properties.required h.0.required;
    constraint = covered d b bind.properties.constraint h.0.constraint;
  },
  all-covered d b binds h.1,
)

-- ---- a recalculation

module _ (l : Loaded) (forest : Forest) (model : ℕ) (k : Kept) (is : IsLoaded l) (trees : HasTrees forest) (hung : are_hung forest.nodes ≡ true) (small : forest.next < 2 ^ 126)
    (many : length k.entries < 2 ^ 64) (built : IsBuilt (scope_at l forest model) forest.nodes k) where
  few : length (calculates k.entries) < 2 ^ 64
  few = let less = filter-shorter is_calculate k.entries in omega (arith, less, many)

  standing-all : in_detached forest.nodes ≡ [] → standing forest ≡ visits forest.nodes
  standing-all alone = ap visits (all-instances forest.nodes alone)

  is-due : in_detached forest.nodes ≡ [] → IsDue bounds called (given_in l.form.tables.instances l.prefixes l.form.decimals forest) l.form.tables model forest k.entries
  is-due alone = record {
    covered = are-covered l is;
    around = surrounds l forest model trees hung small;
    applies = built.applies;
    acyclic = built.acyclic;
    documents = documents-solid forest trees (hung_forest forest trees hung) l.form.tables.instances;
    no_event = refl;
    hung = hung;
    instances = λ id n e. subst (λ vs. IsSolid vs n) (sym (standing-all alone)) (document-solid forest trees (hung_forest forest trees hung) l.form.tables.instances model id n e);
    stand = entries_stand bounds called (given_in l.form.tables.instances l.prefixes l.form.decimals forest) l.form.tables model forest k.entries (are-covered l is) (surrounds l forest model trees hung small) built.applies alone;
    room = let c = few in grind (arith, nat_tests, small, c);
  }

  pub are-passed : (marks : List Bool) → MayBePassed l forest model k marks → ArePassed (given_in l.form.tables.instances l.prefixes l.form.decimals forest) l.form.tables model forest k marks
  are-passed marks may place e got passed computed =
      let p = may place e got passed computed in
      let r = p.remembered in
      record {
        f = r.f;
        taken = r.taken;
        was = r.was;
        since = record { due = is-due p.alone; carried = r.carried; stood = r.stood };
        stood = r.same;
        covered = all-covered l.form.decimals l.prefixes l.form.tables.binds (loaded_static is.bytes l is.read);
        outside = subst (λ (vs : List Valued). IsOutside (scope_at l forest model) forest (record { texts = k.texts; lists = k.lists; stood = map (λ v. v.entry) vs }) k.entries e) (sym r.same) p.outside;
      }

  -- what it leaves is known
  module _ (alone : in_detached forest.nodes ≡ []) (after : Forest) (truths : List (Option Bool)) (s : IsSettled (scope_at l forest model) k.entries forest after truths) (may : MaySettle (given_in l.form.tables.instances l.prefixes l.form.decimals forest) l.form.tables model forest k.entries)
      (trees_after : HasTrees after) where
    abbrev scope : Scope
    scope = scope_at l forest model

    abbrev then_now : Forest
    then_now = settled_now bounds called (given_in l.form.tables.instances l.prefixes l.form.decimals forest) l.form.tables model forest k.entries

    nodes-are : after.nodes ≡ then_now.nodes
    nodes-are = ap (λ (x : Forest). x.nodes) s.written ∙ sym (all-written forest.next (contents_in scope k.entries forest) forest.nodes)

    after-is : after ≡ then_now
    after-is = s.written ∙ ap (λ ns. record { nodes = ns; next = forest.next + length (contents_in scope k.entries forest) }) (sym (all-written forest.next (contents_in scope k.entries forest) forest.nodes))

    since : Since (λ n. n) (under then_now.next) [] [] bounds called (given_in l.form.tables.instances l.prefixes l.form.decimals forest) l.form.tables model
        (then_of bounds called (given_in l.form.tables.instances l.prefixes l.form.decimals forest) l.form.tables model then_now k.entries) then_now k.entries
    since = since_anew_law bounds called (given_in l.form.tables.instances l.prefixes l.form.decimals forest) l.form.tables model forest k.entries (is-due alone) s.within (let c = few in grind (arith, nat_tests, small, c))

    core : IsRemembered scope then_now (recalculated truths k)
    core = record {
      f = λ n. n;
      taken = under then_now.next;
      was = then_of bounds called (given_in l.form.tables.instances l.prefixes l.form.decimals forest) l.form.tables model then_now k.entries;
      carried = since.carried;
      stood = since.stood;
      same = ap (λ nodes. map truly (values_over bounds scope k.entries (visits nodes))) (sym nodes-are) ∙ sym s.values;
      unlisted = refl;
      solid = tt;
    }

    scope-same : scope_at l after model ≡ scope
    scope-same =
        let still = written-still all_done forest.next (contents_in scope k.entries forest) forest (may-write (given_in l.form.tables.instances l.prefixes l.form.decimals forest) l.form.tables model forest k.entries may) hung in
        scope-still l forest after trees trees_after hung (record { shaped = ap shape_of nodes-are ∙ still.shaped; hung = ap are_hung nodes-are ∙ still.hung }) model

    pub known-anew : IsRemembered (scope_at l after model) after (recalculated truths k)
    known-anew =
        subst (λ y. IsRemembered y after (recalculated truths k)) (sym scope-same)
        (subst (λ x. IsRemembered scope x (recalculated truths k)) (sym after-is) core)

-- ---- a text that is set

-- the content of a node that is found by its number
kind-found : (n : ℕ) (above nodes : List Node) (k : Kind) → kind_at n nodes ≡ Some k → (y : Visit) × (found n (visits_from above nodes) ≡ Some y) × (kind_of y.content ≡ k)
kind-found n above [] k h = none-some h
kind-found n above (x ∷ xs) k h = by (x.number == n) refl h (kind-found n (x ∷ still_above x.depth above) xs k)
  where
    by : (b : Bool) → (x.number == n) ≡ b → option_map kind_of (option_map (λ (z : Node). z.content) (cond b (Some x) (node_at n xs))) ≡ Some k →
        (kind_at n xs ≡ Some k → (y : Visit) × (found n (visits_from (x ∷ still_above x.depth above) xs) ≡ Some y) × (kind_of y.content ≡ k)) →
        (y : Visit) × (cond (x.number == n) (Some (visit above x)) (found n (visits_from (x ∷ still_above x.depth above) xs)) ≡ Some y) × (kind_of y.content ≡ k)
    by true i j later = (visit above x, ap (λ b. cond b (Some (visit above x)) (found n (visits_from (x ∷ still_above x.depth above) xs))) i, some-same j)
    by false i j later = let r = later j in (r.0, ap (λ b. cond b (Some (visit above x)) (found n (visits_from (x ∷ still_above x.depth above) xs))) i ∙ r.1, r.2)

no-text : (c : Content) (k : Kind) → kind_of c ≡ k → (k ≡ Attribute) ⊎ (k ≡ Element) → is_text c ≡ false
no-text content.Root k e h = refl
no-text (content.Element name) k e h = refl
no-text (content.Attribute name text) k e h = refl
no-text (content.Text text) k e (inl h) = let wrong : kind.Text ≡ Attribute = e ∙ h in cc wrong
no-text (content.Text text) k e (inr h) = let wrong : kind.Text ≡ Element = e ∙ h in cc wrong

pub settable-solid : (forest : Forest) → HasTrees forest → are_hung forest.nodes ≡ true → in_detached forest.nodes ≡ [] → (n : ℕ) → IsSettable n forest → IsSolid (standing forest) n
settable-solid forest trees hung alone n able = subst (λ ns. IsSolid (visits ns) n) (sym (all-instances forest.nodes alone)) (elim able.kind [
  | inl h ↦ let f = kind-found n [] forest.nodes Attribute h in solid forest trees (hung_forest forest trees hung) n f.0 f.1 (no-text f.0.content Attribute f.2 (inl refl))
  | inr h ↦ let f = kind-found n [] forest.nodes Element h in solid forest trees (hung_forest forest trees hung) n f.0 f.1 (no-text f.0.content Element f.2 (inr refl))
])

marks-one : (texts : List ℕ) (n : ℕ) → MarksMore texts n (texts ++ n ∷ [])
marks-one texts n m = has-append m texts (n ∷ []) ∙ swap (has m texts) (m == n)
  where
    swap : (a b : Bool) → (a || (b || false)) ≡ (b || a)
    swap true true = refl
    swap true false = refl
    swap false true = refl
    swap false false = refl

one-new : (n : ℕ) (text : List ℕ) (forest : Forest) → length (new_texts n text forest) ≤ 1
one-new n text forest = by (is_attribute_at n forest.nodes) text
  where
    by : (b : Bool) (u : List ℕ) → length (cond b [] (one_text forest.next u)) ≤ 1
    by true u = omega arith
    by false [] = omega arith
    by false (c ∷ cs) = omega arith

module _ (l : Loaded) (forest : Forest) (n : ℕ) (text : List ℕ) (trees : HasTrees forest) (trees_after : HasTrees (with_text n text forest)) (hung : are_hung forest.nodes ≡ true) (alone : in_detached forest.nodes ≡ [])
    (able : IsSettable n forest) (small : forest.next < 2 ^ 126) where
  abbrev pub after : Forest
  after = with_text n text forest

  -- as the laws tell it
  abbrev pub numbered : Forest
  numbered = record { nodes = with_numbered_text forest.next n text forest.nodes; next = after.next }

  nodes-numbered : after.nodes ≡ with_numbered_text forest.next n text forest.nodes
  nodes-numbered = numbered-is forest.next n text forest.nodes

  pub is-numbered : after ≡ numbered
  is-numbered = ap (λ ns. record { nodes = ns; next = after.next }) nodes-numbered

  shaped : shape_of after.nodes ≡ shape_of forest.nodes
  shaped = setting-keeps_shape n text forest trees able

  pub scope-stays : (model : ℕ) → scope_at l after model ≡ scope_at l forest model
  scope-stays model = scope-still l forest after trees trees_after hung (record { shaped = shaped; hung = ap are_hung nodes-numbered ∙ hung_text forest forest.next n text trees able hung }) model

  pub alone-after : in_detached after.nodes ≡ []
  alone-after = ap in_detached nodes-numbered ∙ numbered-alone forest.next n text forest.nodes alone

  pub solids : solid_of (standing after) ≡ solid_of (standing forest)
  solids =
      ap (λ ns. solid_of (visits ns)) (all-instances after.nodes alone-after)
      ∙ sym (shape-untexted (visits after.nodes)) ∙ ap (λ vs. untexted (map erased vs)) shaped ∙ shape-untexted (visits forest.nodes)
      ∙ sym (ap (λ ns. solid_of (visits ns)) (all-instances forest.nodes alone))

  -- what was no text is none
  pub solid-after : (marks : List ℕ) → AllOf (λ m. IsSolid (standing forest) m) marks → AllOf (λ m. IsSolid (standing after) m) marks
  solid-after marks h = each_then (λ m. IsSolid (standing forest) m) (λ m. IsSolid (standing after) m) (λ m s. solid-by (standing after) (standing forest) m solids s) marks h

  pub there : has_number n (in_instances forest.nodes) ≡ true
  there = ap (has_number n) (all-instances forest.nodes alone) ∙ elim able.kind [ inl h ↦ kind-live n Attribute forest.nodes h | inr h ↦ kind-live n Element forest.nodes h ]

  module _ (model : ℕ) (k : Kept) (r : IsRemembered (scope_at l forest model) forest k) where
    abbrev more : Kept
    more = record k { texts = k.texts ++ n ∷ [] }

    pub free : r.taken forest.next ≡ false
    free = by (r.taken forest.next) refl
      where
        by : (b : Bool) → r.taken forest.next ≡ b → b ≡ false
        by false e = refl
        by true e = let less = r.carried.less forest.next e in absurd (grind (arith, nat_tests, less))

    pub takes : Takes r.taken (under after.next) numbered
    takes =
        let one = one-new n text forest in
        under_takes r.taken forest numbered (subst HasTrees is-numbered trees_after) r.carried.less (omega (arith, one)) (grind (arith, nat_tests, one, small))

    pub follows : Follows k.lists (scope_at l forest model) (scope_at l forest model) numbered
    follows = record {
      model = refl;
      stand = λ id m e. solid-by (standing numbered) (standing forest) m (ap (λ (x : Forest). solid_of (standing x)) (sym is-numbered) ∙ solids) (r.carried.same.documents_stand id m e);
      each = λ id m e. inl e;
      none = λ id e. e;
    }

    carried-numbered : Carried r.f (under after.next) (k.texts ++ n ∷ []) k.lists (scope_at l forest model) r.was.documents numbered r.was.forest
    carried-numbered = text_carried r.f r.taken (under after.next) k.texts k.lists (k.texts ++ n ∷ []) (scope_at l forest model) (scope_at l forest model) r.was.documents forest.next n after.next text forest r.was.forest
        (marks-one k.texts n) trees (subst HasTrees is-numbered trees_after) able there free (grind (arith, nat_tests, small)) takes follows r.carried

    core-text : IsRemembered (scope_at l forest model) after more
    core-text = record {
      f = r.f;
      taken = under after.next;
      was = r.was;
      carried = subst (λ x. Carried r.f (under after.next) (k.texts ++ n ∷ []) k.lists (scope_at l forest model) r.was.documents x r.was.forest) (sym is-numbered) carried-numbered;
      stood = each_then (Stood r.f bounds (scope_at l forest model) r.was forest) (Stood r.f bounds (scope_at l forest model) r.was after) (λ v s. record {
        node = s.node;
        number = λ h. s.number (solid-by (standing forest) (standing after) v.entry.node (sym solids) h);
        truth = s.truth;
        able = s.able;
        text = s.text;
      }) r.was.stood r.stood;
      same = r.same;
      unlisted = r.unlisted;
      solid = all-append (λ m. IsSolid (standing after) m) k.texts (n ∷ []) (solid-after k.texts r.solid) (solid-by (standing after) (standing forest) n solids (settable-solid forest trees hung alone n able), tt);
    }

    pub known-text : IsRemembered (scope_at l after model) after more
    known-text = subst (λ y. IsRemembered y after more) (sym (scope-stays model)) core-text

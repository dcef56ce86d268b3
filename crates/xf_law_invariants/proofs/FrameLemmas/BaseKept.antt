-- What is so of the data stays so through each change.
use Rattle.std.proofs.Common.{◌≡◌, ℕ, ◌+◌, Bool, true, false, List, [], ◌∷◌, ◌++◌, length, nat_lt, Option, Some, None, Result, Ok, Err, refl, sym, ap, ◌∙◌, subst, inl, arith}
use Rattle.std.specs.Prelude.{◌≤◌, if◌then◌else◌}
use Rattle.std.proofs.lemmas.Bool.Decides.{nat_tests}
use Rattle.xf_def_forest.specs.declared.content.Content.{Content}
use Rattle.xf_def_forest.specs.declared.fault.TreeFault.{TreeFault}
use Rattle.xf_def_forest.specs.Changes.{attached, contents_in, copied, place_of, placed}
use Rattle.xf_def_forest.specs.Forest.{Forest, content_at, tree_of}
use Rattle.xf_def_forest.specs.Limits.{passed_by_text, passed_by_tree, unless}
use Rattle.xf_def_forest.specs.Needs.{IsSettable, MayPlace}
use Rattle.xf_def_forest.specs.Plant.{numbered_from}
use Rattle.xf_def_forest.specs.Planted.{with_tree}
use Rattle.xf_def_forest.specs.Settle.{with_numbered_text}
use Rattle.xf_def_forest.specs.Texts.{is_attribute_at, new_texts, one_text, with_attribute_text, with_text, with_texts}
use Rattle.xf_def_forest.specs.Visit.{parent_of}
use Rattle.xf_def_forest.specs.WellFormed.{HasTrees}
use Rattle.xf_law_recalculation.specs.Agree.Hung.{are_hung, begins_at_top}
use Rattle.xf_law_recalculation.proofs.AgreeLemmas.HungChanges.{hung_copied, hung_grown, hung_placed, hung_text}
use Rattle.xf_law_forests.specs.Rollback.Made.{IsGrowth}
use Rattle.xf_law_forests.specs.Rollback.Made as growths
use Rattle.xf_law_forests.specs.Root.Roots.{AreAhead, IsNoRoot}
use Rattle.xf_law_forests.proofs.RootLemmas.Stays.{roots_stay_detached, roots_stay_grown, roots_stay_placed, roots_stay_text}
use Rattle.xf_law_invariants.proofs.TreeLemmas.Attached.{place_laws}
use Rattle.xf_law_invariants.proofs.TreeLemmas.Come.{tree_laws}
use Rattle.xf_law_invariants.proofs.TreeLemmas.TextTrees.{text_laws}
use Rattle.xf_law_invariants.proofs.PlannedLemmas.NewTrees.{hung-cut}
use Rattle.xf_law_invariants.proofs.PlannedLemmas.Ready.{attached-is, copied-growth, copied-next, copied-nodes, whole-trees}
use Rattle.xf_law_invariants.proofs.PlannedLemmas.Instead.{replace-kind, replace-place, replace-single}
use Rattle.xf_law_invariants.proofs.PlannedLemmas.RootForests.{single_detached, single_grown, single_placed, single_text}
use Rattle.xf_def_machine.specs.declared.limit.LimitWord.{LimitWord}
use Rattle.xf_def_machine.specs.declared.limit.LimitWord.TheVariants.{Made}
use Rattle.xf_def_machine.specs.Primitives.{attach, copy, detach, grown, grown_by, grown_to, in_some_model, is_other_text, if_other, list_changed, over_made, plant, set_text, texts_due, with_forest, with_text_mark}
use Rattle.xf_def_machine.specs.Profile.{Profile}
use Rattle.xf_def_machine.specs.Refusal.{if_over, unless_passed}
use Rattle.xf_def_machine.specs.State.{Model, State}
use Rattle.xf_def_machine.specs.Surround.{all_in, model_holding}
use Rattle.xf_law_machine.proofs.RestLemmas.Holds.{Held}
use Rattle.xf_law_invariants.specs.Frame.Base.{IsBase, IsNewElement}
use Rattle.xf_law_invariants.specs.Planned.Roots.{AreSingle}
use Rattle.xf_law_invariants.specs.Planned.Ready.{MayCut, MayJoin, MayReplace}

-- ---- what a change leaves

pub made-most : (most made : ℕ) → if_over (nat_lt most made) Made ≡ [] → made ≤ most
made-most most made e = by (nat_lt most made) refl e
  where
    by : (b : Bool) → nat_lt most made ≡ b → if_over b Made ≡ [] → made ≤ most
    by true q r = cc r
    by false q r = grind (arith, nat_tests, q)

pub grown-most : (P : State → Type 0) (p : Profile) (count : ℕ) (r : Result Forest TreeFault) (s : State)
    → ((forest : Forest) → r ≡ Ok forest → s.made + count ≤ p.made → P (with_forest forest (record s { made = s.made + count }))) → Held P (grown_to (grown p count r s))
grown-most P p count (Err fault) s k = tt
grown-most P p count (Ok forest) s k = by (over_made p (s.made + count)) refl
  where
    by : (words : List LimitWord) → over_made p (s.made + count) ≡ words → Held P (grown_to (unless_passed s words (forest, record s { made = s.made + count })))
    by [] e = k forest refl (made-most p.made (s.made + count) e)
    by (word ∷ words) e = tt

pub grown-by-most : (P : State → Type 0) (p : Profile) (count : ℕ) (r : Result (ℕ × Forest) TreeFault) (s : State)
    → ((one : ℕ × Forest) → r ≡ Ok one → s.made + count ≤ p.made → P (with_forest one.1 (record s { made = s.made + count }))) → Held (λ q. P q.1) (grown_by (grown p count r s))
grown-by-most P p count (Err fault) s k = tt
grown-by-most P p count (Ok one) s k = by (over_made p (s.made + count)) refl
  where
    by : (words : List LimitWord) → over_made p (s.made + count) ≡ words → Held (λ q. P q.1) (grown_by (unless_passed s words (one, record s { made = s.made + count })))
    by [] e = k one refl (made-most p.made (s.made + count) e)
    by (word ∷ words) e = tt

unless-same : {X : Type 0} (o : Option TreeFault) (x y : X) → unless o x ≡ Ok y → x ≡ y
unless-same None x y e = cc e
unless-same (Some fault) x y e = cc e

-- a mark changes neither the data nor what is counted
some-data : (change : Model → Model) (o : Option ℕ) (s : State) → ((in_some_model change o s).forest ≡ s.forest) × ((in_some_model change o s).made ≡ s.made)
some-data change None s = (refl, refl)
some-data change (Some model) s = (refl, refl)

list-data : (o : Option ℕ) (s : State) → ((list_changed o s).forest ≡ s.forest) × ((list_changed o s).made ≡ s.made)
list-data None s = (refl, refl)
list-data (Some parent) s = some-data _ (model_holding s parent) s

-- ---- a text

text-is : (n : ℕ) (text : List ℕ) (forest : Forest) → (with_text n text forest).nodes ≡ with_numbered_text forest.next n text forest.nodes
text-is n text forest = by (is_attribute_at n forest.nodes)
  where
    by : (b : Bool) → (if b then with_attribute_text n text forest.nodes else with_texts n (if b then [] else one_text forest.next text) forest.nodes)
        ≡ (if b then with_attribute_text n text forest.nodes else with_texts n (one_text forest.next text) forest.nodes)
    by true = refl
    by false = refl

module _ (p : Profile) (first : ℕ) where
  abbrev B : State → Type 0
  B s = IsBase p first s

  pub base-text : (n : ℕ) (text : List ℕ) (s : State) → IsSettable n s.forest → B s → Held B (set_text p n text s)
  base-text n text s able b =
      let after = with_text n text s.forest in
      let change = λ (m : Model). texts_due (if_other (is_other_text s n text) (with_text_mark n) m) in
      let marked = in_some_model change (model_holding s n) s in
      let same = some-data change (model_holding s n) s in
      grown-most B p (length (new_texts n text s.forest)) (unless (passed_by_text p.bounds.limits (length text) after.nodes) after) marked
      (λ forest e most. let ok = unless-same (passed_by_text p.bounds.limits (length text) after.nodes) after forest e in
      let made : marked.made ≡ s.made = same.1 in
      let few = b.few in
      subst (λ (f : Forest). B (with_forest f (record marked { made = marked.made + length (new_texts n text s.forest) }))) ok (record {
        trees = text_laws.text n text s.forest b.trees able;
        hung = ap are_hung (text-is n text s.forest) ∙ hung_text s.forest s.forest.next n text b.trees able b.hung;
        ahead = (subst (λ l. AreAhead l) (sym (text-is n text s.forest)) ((roots_stay_text s.forest.next n text s.forest b.trees).ahead b.ahead));
        single = subst AreSingle (sym (text-is n text s.forest)) (single_text s.forest b.trees s.forest.next 0 n text able b.single);
        few = omega (arith, few, made);
        made = most;
      }))

  -- ---- trees that come

  base-grown : (contents : List (ℕ × Content)) (s : State) → IsGrowth contents → are_hung (numbered_from s.forest.next contents) ≡ true → B s
      → HasTrees (record { nodes = s.forest.nodes ++ numbered_from s.forest.next contents; next = s.forest.next + length contents }) → s.made + length contents ≤ p.made
      → B (with_forest (record { nodes = s.forest.nodes ++ numbered_from s.forest.next contents; next = s.forest.next + length contents }) (record s { made = s.made + length contents }))
  base-grown contents s growth hung b trees most =
      let few = b.few in
      record {
        trees = trees;
        hung = hung_grown s.forest.nodes (numbered_from s.forest.next contents) (begins contents growth.top) b.hung hung;
        ahead = (roots_stay_grown s.forest.next contents s.forest.nodes growth).ahead b.ahead;
        single = single_grown s.forest b.trees contents growth trees b.single;
        few = omega (arith, few);
        made = most;
      }
    where
      begins : (cs : List (ℕ × Content)) → growths.begins_at_top cs ≡ true → begins_at_top (numbered_from s.forest.next cs) ≡ true
      begins [] h = refl
      begins (c ∷ cs) h = h

  pub base-plant : (contents : List (ℕ × Content)) (s : State) → IsNewElement s.form contents → B s → Held (λ q. B q.1) (plant p contents s)
  base-plant contents s new b =
      let tree = numbered_from s.forest.next contents in
      let whole : ℕ × Forest = (s.forest.next, record { nodes = s.forest.nodes ++ tree; next = s.forest.next + length contents }) in
      grown-by-most B p (length contents) (with_tree p.bounds.limits contents s.forest) s
      (λ one e most. let ok = unless-same (passed_by_tree p.bounds.limits tree (s.forest.nodes ++ tree)) whole one e in
      subst (λ (x : ℕ × Forest). B (with_forest x.1 (record s { made = s.made + length contents }))) ok
      (base-grown contents s new.growth (new.hung s.forest.next) b (subst (λ (x : ℕ × Forest). HasTrees x.1) (sym ok) (tree_laws.planted p.bounds.limits contents one.0 s.forest one.1 b.trees new.alone e)) most))

  pub base-copy : (n : ℕ) (s : State) → IsNoRoot n s.forest → B s → Held (λ q. B q.1) (copy p n s)
  base-copy n s is b =
      grown-by-most B p (length (tree_of n s.forest.nodes)) (copied p.bounds.limits n s.forest) s
      (λ one e most. let nodes = copied-nodes p.bounds.limits n one.0 s.forest one.1 b.trees is e in
      let next = copied-next p.bounds.limits n one.0 s.forest one.1 b.trees is e in
      let growth = copied-growth p.bounds.limits n one.0 s.forest one.1 b.trees is e in
      let whole = whole-trees p.bounds.limits n one.0 s.forest one.1 b.trees is e in
      let few = b.few in
      record {
        trees = tree_laws.copied p.bounds.limits n one.0 s.forest one.1 b.trees e;
        hung = hung_copied p.bounds.limits s.forest one.1 n one.0 is e b.hung;
        ahead = subst (λ l. AreAhead l) (sym nodes) ((roots_stay_grown s.forest.next (contents_in (tree_of n s.forest.nodes)) s.forest.nodes growth).ahead b.ahead);
        single = subst AreSingle (sym nodes) (single_grown s.forest b.trees (contents_in (tree_of n s.forest.nodes)) growth whole b.single);
        few = omega (arith, few, next);
        made = most;
      })

  -- ---- a tree is cut off, or comes

  base-cut : (n : ℕ) (s : State) → IsNoRoot n s.forest → B s → B (detach n s)
  base-cut n s is b =
      let same = list-data (parent_of n (all_in s)) s in
      let made : (list_changed (parent_of n (all_in s)) s).made ≡ s.made = same.1 in
      let few = b.few in
      let most = b.made in
      record {
        trees = tree_laws.detached n s.forest b.trees;
        hung = hung-cut n s.forest b.trees is b.hung;
        ahead = (roots_stay_detached n s.forest b.trees is).ahead b.ahead;
        single = single_detached s.forest b.trees n is b.single;
        few = omega (arith, few, made);
        made = omega (arith, most, made);
      }

  pub base-detach : (n : ℕ) (s : State) → MayCut n s.forest → B s → B (detach n s)
  base-detach n s may b = base-cut n s may.kind b

  base-join : (n parent place : ℕ) (s : State) → MayPlace n parent s.forest → IsNoRoot n s.forest → ((at : ℕ) → AreSingle (placed n parent at s.forest).nodes) → B s → Held B (attach p n parent place s)
  base-join n parent place s may is single b =
      let same = list-data (Some parent) s in
      let made : (list_changed (Some parent) s).made ≡ s.made = same.1 in
      let few = b.few in
      grown-most B p 0 (attached p.bounds.limits n parent place s.forest) (list_changed (Some parent) s)
      (λ forest e most. let at = place_of parent place (all_in s) (content_at n s.forest.nodes) in
      let is_it = attached-is p.bounds.limits n parent place s.forest forest e in
      let next : forest.next ≡ s.forest.next = ap (λ (f : Forest). f.next) (sym is_it) in
      record {
        trees = place_laws.attached p.bounds.limits n parent place s.forest forest b.trees may e;
        hung = subst (λ (f : Forest). are_hung f.nodes ≡ true) is_it (hung_placed s.forest n parent at is b.hung);
        ahead = subst (λ (f : Forest). AreAhead f.nodes) is_it ((roots_stay_placed n parent at s.forest b.trees is).ahead b.ahead);
        single = subst (λ (f : Forest). AreSingle f.nodes) is_it (single at);
        few = omega (arith, few, made, next);
        made = most;
      })

  pub base-attach : (n parent place : ℕ) (s : State) → MayJoin n parent s.forest → B s → Held B (attach p n parent place s)
  base-attach n parent place s may b = base-join n parent place s may.may may.kind (λ at. single_placed s.forest b.trees n parent at may.may (inl may.above) b.single) b

  pub base-instead : (old top root place : ℕ) (s : State) → MayReplace old top root s.forest → B s → Held B (attach p top root place (detach old s))
  base-instead old top root place s may b =
      base-join top root place (detach old s) (replace-place old top root s.forest b.trees may) (inl (replace-kind old top root s.forest b.trees may)) (λ at. replace-single old top root s.forest b.trees may at b.single)
      (base-cut old s (inl may.old_kind) b)

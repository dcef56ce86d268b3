-- The bare tree of a document element gives the contents that construction left.
use Rattle.std.proofs.Common.{◌≡◌, ℕ, suc, ◌-◌, ◌==◌, Bool, true, false, not, cond, ◌&&◌, ◌||◌, List, [], ◌∷◌, ◌++◌, map, filter, nat_lt, nat_le, Option, Some, None, Ok, refl, sym, ap, ◌∙◌, subst, arith}
use Rattle.std.specs.List.{list_any}
use Rattle.std.proofs.lemmas.Bool.Decides.{nat_tests}
use Rattle.xf_name.specs.Bindings.{Bindings}
use Rattle.xf_name.specs.declared.lit.Lit.TheVariants as lit
use Rattle.xf_name.specs.declared.lit.LitElement.{LitElement}
use Rattle.xf_def_forest.specs.declared.content.Content.{Content}
use Rattle.xf_def_forest.specs.declared.content.Content.TheVariants.{Root, Element, Attribute, Text}
use Rattle.xf_def_forest.specs.declared.content.Node.{Node}
use Rattle.xf_def_forest.specs.Changes.{contents_in, moved_to, root_of, shifted}
use Rattle.xf_def_forest.specs.Forest.{below, first_tree, from_node, is_attribute, tree_of}
use Rattle.xf_def_forest.specs.Plant.{contents_of, numbered_from}
use Rattle.xf_def_forest.specs.Visit.{Visit, first_of, has_parent, is_first, numbers, still_above, visit, visits, visits_from}
use Rattle.xf_def_forest.specs.WellFormed.{HasTrees}
use Rattle.xf_def_forest.proofs.BackLaws.{and-true}
use Rattle.xf_def_forest.proofs.OrderLaws.{visits-different}
use Rattle.xf_def_xpath.specs.Asked.{found}
use Rattle.xf_def_xpath.proofs.ForestVisits.{Each, self-found}
use Rattle.xf_def_xpath.proofs.VisitFacts.{no, none-some, some-same}
use Rattle.xf_def_machine.specs.Construct.{construct, contents_under, first_contents, plant_document, unbuilt}
use Rattle.xf_def_machine.specs.Flow.{in_turn}
use Rattle.xf_def_machine.specs.Profile.{Profile}
use Rattle.xf_def_machine.specs.Program.{Program}
use Rattle.xf_def_machine.specs.State.{State}
use Rattle.xf_def_machine.specs.Surround.{document_at, document_under}
use Rattle.xf_law_machine.specs.Rest.Rests.{are_filled, is_empty}
use Rattle.xf_law_machine.proofs.RestLemmas.Holds.{held-is}
use Rattle.xf_law_machine.proofs.RestLemmas.StartLaws.{first-filled}
use Rattle.xf_law_machine.specs.First.First.{AreElements, FirstGives}
use Rattle.xf_law_machine.specs.First.Well.{AreWell, depth_of}
use Rattle.xf_law_machine.proofs.FirstLemmas.BareTrees.{bare_gives}
use Rattle.xf_law_machine.proofs.FirstLemmas.Deeps.{lit-tree}
use Rattle.xf_law_machine.proofs.FirstLemmas.Filled.{elements-filled}
use Rattle.xf_law_machine.proofs.FirstLemmas.Fine.{Begins, Fine, behind-any, boned, fine-append, lit-fine}
use Rattle.xf_law_machine.proofs.FirstLemmas.Rooted.{IsTree, Stands, AllOne, all-stand, under_root}
use Rattle.xf_law_machine.proofs.FirstLemmas.Steps.{AllDeep, AreFilled, IsFilled, AreSteps, bones, bones-append, fine-tree, forest-steps, moved-bones, numbered-bones, same-bones, tree-steps, well}

-- ---- the data that were planted

module _ (b : Bindings) where
  abbrev IsOne : List (ℕ × Content) → Type 0
  IsOne d = (e : LitElement) × (space : ℕ) × (d ≡ contents_of b (lit.Element e) space 0)

  abbrev AreFine : List Node → Type 0
  AreFine nodes = Fine b (bones nodes)

  one-tree : (d : List (ℕ × Content)) → IsOne d → IsTree d
  one-tree d h = subst IsTree (sym h.2) (lit-tree b (lit.Element h.0) h.1)

  one-fine : (d : List (ℕ × Content)) → IsOne d → Fine b (boned d) × Begins b (boned d)
  one-fine d h = subst (λ c. Fine b (boned c) × Begins b (boned c)) (sym h.2) (lit-fine b (lit.Element h.0) h.1 0)

  come : (d : List (ℕ × Content)) (nodes : List Node) (from : ℕ) → IsOne d → AreFine nodes → AreFine (nodes ++ under_root from d)
  come d nodes from one h =
      let is : bones (moved_to 1 (numbered_from from d)) ≡ boned d = moved-bones 1 (numbered_from from d) ∙ numbered-bones from d in
      let f = one-fine d one in
      subst (Fine b) (sym (bones-append nodes (under_root from d)))
      (fine-append b (bones nodes) (bones (under_root from d)) h (subst (λ l. Fine b (Root ∷ l)) (sym is) (tt, behind-any b Root (boned d) f.1, f.0)) refl)

  all-one : (p : Profile) (ds : List (List (ℕ × Content))) → AreElements b ds → AllOne AreFine IsOne one-tree come p ds
  all-one p [] h = tt
  all-one p (d ∷ ds) h = (h.0, all-one p ds h.1)

  planted-fine : (p : Profile) (form : Program) (planted : State) → AreElements b form.documents → in_turn (plant_document p) form.documents (unbuilt p form) ≡ Ok planted → AreFine planted.forest.nodes
  planted-fine p form planted are e =
      (held-is (Stands AreFine IsOne one-tree come p) (in_turn (plant_document p) form.documents (unbuilt p form)) planted
      (all-stand AreFine IsOne one-tree come p form.documents (unbuilt p form) (all-one p form.documents are) (record { alone = refl; below = refl; nodes = tt })) e).nodes

-- ---- a document element stands below its root

record IsChild (r n : ℕ) (all : List Visit) : Type 0 where
  pub of : Visit
  pub child : is_first r of.above ≡ true
  pub there : found n all ≡ Some of

first-child : (r n : ℕ) (all ys : List Visit) → Each (λ v. found v.number all ≡ Some v) ys → first_of (map (λ (x : Visit). x.number) (filter (λ (x : Visit). is_first r x.above && not (is_attribute x.content)) ys)) ≡ Some n
    → IsChild r n all
first-child r n all [] h e = none-some e
first-child r n all (y ∷ ys) h e = by (is_first r y.above && not (is_attribute y.content)) refl e (first-child r n all ys h.1)
  where
    by : (c : Bool) → (is_first r y.above && not (is_attribute y.content)) ≡ c
        → first_of (map (λ (x : Visit). x.number) (cond c (y ∷ filter (λ (x : Visit). is_first r x.above && not (is_attribute x.content)) ys) (filter (λ (x : Visit). is_first r x.above && not (is_attribute x.content)) ys))) ≡ Some n
        → (first_of (map (λ (x : Visit). x.number) (filter (λ (x : Visit). is_first r x.above && not (is_attribute x.content)) ys)) ≡ Some n → IsChild r n all) → IsChild r n all
    by true i f later =
        let same : y.number ≡ n = some-same f in
        record { of = y; child = (and-true (is_first r y.above) (not (is_attribute y.content)) i).0; there = ap (λ k. found k all) (sym same) ∙ h.0 }
    by false i f later = later f

still-deep : (d : ℕ) (ys : List Node) → has_parent (numbers (still_above d ys)) ≡ true → nat_le 1 d ≡ true
still-deep d [] h = no h
still-deep d (y ∷ ys) h = by (nat_lt y.depth d) refl h (still-deep d ys)
  where
    by : (c : Bool) → nat_lt y.depth d ≡ c → has_parent (numbers (cond c (y ∷ ys) (still_above d ys))) ≡ true → (has_parent (numbers (still_above d ys)) ≡ true → nat_le 1 d ≡ true) → nat_le 1 d ≡ true
    by true e i later = grind (arith, nat_tests, e)
    by false e i later = later i

found-deep : (n : ℕ) (above xs : List Node) (v : Visit) → found n (visits_from above xs) ≡ Some v → has_parent v.above ≡ true → nat_le 1 (depth_of (from_node n xs)) ≡ true
found-deep n above [] v e h = none-some e
found-deep n above (x ∷ xs) v e h = by (x.number == n) e (found-deep n (x ∷ still_above x.depth above) xs v)
  where
    by : (c : Bool) → cond c (Some (visit above x)) (found n (visits_from (x ∷ still_above x.depth above) xs)) ≡ Some v
        → (found n (visits_from (x ∷ still_above x.depth above) xs) ≡ Some v → has_parent v.above ≡ true → nat_le 1 (depth_of (from_node n xs)) ≡ true) → nat_le 1 (depth_of (cond c (x ∷ xs) (from_node n xs))) ≡ true
    by true i later = still-deep x.depth above (ap (λ (w : Visit). has_parent w.above) (some-same i) ∙ h)
    by false i later = later i h

parent-has : (r : ℕ) (above : List ℕ) → is_first r above ≡ true → has_parent above ≡ true
parent-has r [] h = no h
parent-has r (m ∷ ms) h = refl

document-deep : (s : State) (place n : ℕ) → HasTrees s.forest → document_at s place ≡ Some n → nat_le 1 (depth_of (from_node n s.forest.nodes)) ≡ true
document-deep s place n trees e = by (root_of place s.forest.nodes) e
  where
    by : (o : Option ℕ) → document_under s o ≡ Some n → nat_le 1 (depth_of (from_node n s.forest.nodes)) ≡ true
    by None i = none-some i
    by (Some r) i =
        let all = visits s.forest.nodes in
        let x = first-child r n (visits s.forest.nodes) (visits s.forest.nodes) (self-found (visits s.forest.nodes) (visits-different s.forest trees)) i in
        found-deep n [] s.forest.nodes x.of x.there (parent-has r x.of.above x.child)

-- ---- its tree

filled-content : (c : Content) (d : ℕ) → is_empty (d, c) ≡ false → IsFilled c
filled-content Root d h = tt
filled-content (Element name) d h = tt
filled-content (Attribute name text) d h = tt
filled-content (Text []) d h = no (sym h)
filled-content (Text (c ∷ cs)) d h = tt

or-parts : (a c : Bool) → (a || c) ≡ false → (a ≡ false) × (c ≡ false)
or-parts true c h = no (sym h)
or-parts false c h = (refl, h)

shifted-filled : (from : ℕ) (xs : List Node) → list_any is_empty (map (λ (x : Node). (x.depth, x.content)) (map (shifted from 0) xs)) ≡ false → AreFilled xs
shifted-filled from [] h = tt
shifted-filled from (x ∷ xs) h =
    let ps = or-parts (is_empty ((shifted from 0 x).depth, x.content)) (list_any is_empty (map (λ (y : Node). (y.depth, y.content)) (map (shifted from 0) xs))) h in
    (filled-content x.content (shifted from 0 x).depth ps.0, shifted-filled from xs ps.1)

not-true : (c : Bool) → not c ≡ true → c ≡ false
not-true true h = no h
not-true false h = refl

tree-filled : (xs : List Node) → are_filled (contents_in xs) ≡ true → AreFilled xs
tree-filled [] h = tt
tree-filled (x ∷ xs) h = shifted-filled x.depth (x ∷ xs) (not-true (list_any is_empty (contents_in (x ∷ xs))) h)

deep-below : (k d : ℕ) (xs : List Node) → nat_le k d ≡ true → AllDeep k (below d xs)
deep-below k d [] h = tt
deep-below k d (x ∷ xs) h = by (nat_lt d x.depth) refl (deep-below k d xs h)
  where
    by : (c : Bool) → nat_lt d x.depth ≡ c → AllDeep k (below d xs) → AllDeep k (cond c (x ∷ below d xs) [])
    by true e i = (grind (arith, nat_tests, e, h), i)
    by false e i = tt

tree-well : (b : Bindings) (ys : List Node) → nat_le 1 (depth_of ys) ≡ true → AreSteps (first_tree ys) → AreFilled (first_tree ys) → Fine b (bones (first_tree ys)) → AreWell b (depth_of (first_tree ys)) (first_tree ys)
tree-well b [] deep steps filled fine = tt
tree-well b (x ∷ xs) deep steps filled fine =
    let is : suc (x.depth - 1) ≡ x.depth = grind (arith, nat_tests, deep) in
    let own : nat_le (suc (x.depth - 1)) x.depth ≡ true = grind (arith, nat_tests, deep) in
    subst (λ m. AreWell b m (x ∷ below x.depth xs)) is
    (well b (x.depth - 1) (x ∷ below x.depth xs) (own, deep-below (suc (x.depth - 1)) x.depth xs own) steps filled fine)

pub first_gives : FirstGives
first_gives p form b planted first are begun built trees same place n t document tree =
    let nodes = first.forest.nodes in
    let fine : Fine b (bones first.forest.nodes) = subst (Fine b) (sym (same-bones first.forest.nodes planted.forest.nodes same)) (planted-fine b p form planted are begun) in
    let is : first_contents (construct p form) place ≡ contents_in (tree_of n first.forest.nodes) = ap (λ r. first_contents r place) built ∙ ap (contents_under first) document in
    let filled : AreFilled (tree_of n first.forest.nodes) =
    tree-filled (tree_of n first.forest.nodes) (ap are_filled (sym is) ∙ first-filled p form (elements-filled b form.documents are) place) in
    bare_gives b n nodes t
    (tree-well b (from_node n first.forest.nodes) (document-deep first place n trees document) (tree-steps n first.forest.nodes (forest-steps first.forest trees)) filled (fine-tree b n first.forest.nodes fine))
    tree
    ∙ sym is

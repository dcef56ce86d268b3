-- Below an element without element children stand attributes and texts, all one deeper.
use Rattle.std.proofs.Common.{◌≡◌, ℕ, suc, ◌+◌, ◌==◌, ◌&&◌, ◌||◌, not, Bool, true, false, List, [], ◌∷◌, ◌++◌, map, take, drop, get_or, Option, Some, refl, sym, ap, ◌∙◌, subst, inl, inr, arith}
use Rattle.std.specs.Prelude.{filter, option_map}
use Rattle.std.specs.List.{list_any}
use Rattle.std.proofs.lemmas.Bool.{cases_Bool, cases_lt, true≢false, false≢true}
use Rattle.std.proofs.lemmas.List.{map-append}
use Rattle.std.proofs.lemmas.List.Folds.{list_any-append}
use Rattle.slab.specs.Slab.{Slab, get}
use Rattle.xf_def_forest.specs.declared.content.Node.{Node}
use Rattle.xf_def_forest.specs.declared.content.Content.{Content}
use Rattle.xf_def_forest.specs.declared.content.Content.TheVariants.{Root, Element, Attribute, Text}
use Rattle.xf_def_forest.specs.declared.content.Kind.{Kind}
use Rattle.xf_def_forest.specs.declared.content.Kind.TheVariants as kind
use Rattle.xf_def_forest.specs.Forest.{is_root, is_element, is_attribute, is_text, kind_of, kind_at, below, first_tree, tree_of}
use Rattle.xf_def_forest.specs.Visit.{Visit, is_first, still_above, numbers, visit, visits_from, visits}
use Rattle.xf_def_forest.specs.Shape.{has_elements}
use Rattle.xf_def_forest.proofs.VisitLemmas.{BeginsWithin, closed, deeper-by_one}
use Rattle.xf_tree_rows.specs.declared.rows.Row.{Row}
use Rattle.xf_tree_rows.specs.Rows.{AreSteps, depths, no_row}
use Rattle.xf_tree_rows.proofs.SizedLemmas.{lt-true, lt-false}
use Rattle.xf_tree_contents.specs.Slot.{Slot}
use Rattle.xf_tree_contents.specs.Keys.{content_in}
use Rattle.xf_tree_contents.proofs.AlikeLemmas.{eq-true}
use Rattle.xf_tree_walks.specs.Leaves.{is_leaf, parts_in, NotDeeper, AreLeaves}
use Rattle.xf_tree_walks.specs.Nodes.{node_of, AllTops, StandsAt}
use Rattle.xf_tree_walks.proofs.NodeLemmas.{Parted, parted-from}
use Rattle.xf_tree_walks.proofs.StepLemmas.{steps-parts}
use Rattle.xf_tree_walks.proofs.StackLemmas.{stack, visits-append}
use Rattle.xf_tree_walks.proofs.LeafLemmas.{leaves-parts, parts-append}
use Rattle.xf_tree_walks.proofs.RootLemmas.{tops-parts}
use Rattle.xf_tree_walks.proofs.PlaceLemmas.{stands, below-is}
use Rattle.xf_tree_changes.specs.Texts.{AreAt, depth_at, run_of, children, is_child_row}
use Rattle.xf_tree.specs.State.{IsSound}
use Rattle.xf_tree.proofs.MeansLemmas.{one_of, content-means}

-- leaves one deeper than this
abbrev pub AreRun : ℕ → List Node → Type 0
AreRun d [] = Unit {0}
AreRun d (y ∷ ys) = (is_leaf y.content ≡ true) × (y.depth ≡ suc d) × AreRun d ys

abbrev pub node_depths : List Node → List ℕ
node_depths nodes = map (λ x. x.depth) nodes

or-false : (a b : Bool) → (a || b) ≡ false → (a ≡ false) × (b ≡ false)
or-false true b e = absurd (true≢false e)
or-false false b e = (refl, e)

module _ (n : ℕ) (x : Node) (stay : List Node) (here : x.number ≡ n) where
  abbrev is_child : Visit → Bool
  is_child v = is_element v.content && is_first n v.above

  above-is : (y : Node) → y.depth ≡ suc x.depth → still_above y.depth (x ∷ stay) ≡ x ∷ stay
  above-is y deep = ap (λ d. still_above d (x ∷ stay)) deep ∙ rw (deeper-by_one x.depth) refl

  no_element : (y : Node) → is_element y.content ≡ true → y.depth ≡ suc x.depth → is_child (visit (x ∷ stay) y) ≡ false → ⊥
  no_element y is deep h =
      let turned : (n == x.number) ≡ true = eq-true n x.number (sym here) in
      let one : is_child (visit (x ∷ stay) y) ≡ true = ap (λ b. b && is_first n (numbers (still_above y.depth (x ∷ stay)))) is ∙ ap (λ l. is_first n (numbers l)) (above-is y deep) ∙ turned in
      true≢false (sym one ∙ h)

  begins : (d : ℕ) (ys : List Node) → NotDeeper d (parts_in ys) → BeginsWithin d ys
  begins d [] h = tt
  begins d (y ∷ ys) h = lt-false d y.depth h

  lower : (d : ℕ) (most : ℕ) (ys : List Node) → NotDeeper d (parts_in ys) → AreSteps most (node_depths ys) → AreSteps d (node_depths ys)
  lower d most [] h a = tt
  lower d most (y ∷ ys) h a = (h, a.1)

  pub leaves-below : (ys : List Node) → AreSteps (suc x.depth) (node_depths ys) → AreLeaves (parts_in ys) → AllTops ys → list_any is_child (visits_from (x ∷ stay) ys) ≡ false
      → AreRun x.depth (below x.depth ys)
  leaves-below [] steps leaves tops none = tt
  leaves-below (y ∷ ys) steps leaves tops none =
      elim (cases_lt x.depth y.depth) [
        | inl l ↦ rw (lt-true x.depth y.depth l) (by (λ a b. leaves-below ys a leaves.1 tops.1 b) y.content refl (omega (arith, steps.0)) none)
        | inr l ↦ rw (lt-false x.depth y.depth l) tt
      ]
    where
      later : is_leaf y.content ≡ true → y.depth ≡ suc x.depth → list_any is_child (visits_from (x ∷ stay) (y ∷ ys)) ≡ false → list_any is_child (visits_from (x ∷ stay) ys) ≡ false
      later leaf deep none =
          let rest = (or-false (is_child (visit (x ∷ stay) y)) (list_any is_child (visits_from (y ∷ still_above y.depth (x ∷ stay)) ys)) none).1 in
          let flat = begins y.depth ys (leaves.0 leaf) in
          subst (λ l. list_any is_child l ≡ false) (closed y (x ∷ stay) ys flat) (subst (λ l. list_any is_child (visits_from (y ∷ l) ys) ≡ false) (above-is y deep) rest)

      next : (AreSteps (suc x.depth) (node_depths ys) → list_any is_child (visits_from (x ∷ stay) ys) ≡ false → AreRun x.depth (below x.depth ys)) → is_leaf y.content ≡ true → y.depth ≡ suc x.depth
          → list_any is_child (visits_from (x ∷ stay) (y ∷ ys)) ≡ false → AreRun x.depth (below x.depth ys)
      next rest leaf deep none = rest (subst (λ d. AreSteps d (node_depths ys)) deep (lower y.depth (suc y.depth) ys (leaves.0 leaf) steps.1)) (later leaf deep none)

      by : (AreSteps (suc x.depth) (node_depths ys) → list_any is_child (visits_from (x ∷ stay) ys) ≡ false → AreRun x.depth (below x.depth ys)) → (c : Content) → y.content ≡ c → y.depth ≡ suc x.depth
          → list_any is_child (visits_from (x ∷ stay) (y ∷ ys)) ≡ false → (is_leaf y.content ≡ true) × (y.depth ≡ suc x.depth) × AreRun x.depth (below x.depth ys)
      by rest Root is deep none = absurd (let z = tops.0 (ap is_root is) in omega arith)
      by rest (Element name) is deep none =
          absurd (no_element y (ap is_element is) deep (or-false (is_child (visit (x ∷ stay) y)) (list_any is_child (visits_from (y ∷ still_above y.depth (x ∷ stay)) ys)) none).0)
      by rest (Attribute name text) is deep none = (ap is_leaf is, deep, next rest (ap is_leaf is) deep none)
      by rest (Text text) is deep none = (ap is_leaf is, deep, next rest (ap is_leaf is) deep none)

-- ---- rows

element-kind : (c : Content) → Some (kind_of c) ≡ Some kind.Element → is_element c ≡ true
element-kind Root e = absurd (wrong e)
  where
    wrong : ◌≡◌ {A = Option Kind} (Some kind.Root) (Some kind.Element) → ⊥
    wrong e = cc
element-kind (Element name) e = refl
element-kind (Attribute name text) e = absurd (wrong e)
  where
    wrong : ◌≡◌ {A = Option Kind} (Some kind.Attribute) (Some kind.Element) → ⊥
    wrong e = cc
element-kind (Text text) e = absurd (wrong e)
  where
    wrong : ◌≡◌ {A = Option Kind} (Some kind.Text) (Some kind.Element) → ⊥
    wrong e = cc

run-at : (s : Slab Slot) (d : ℕ) (rows : List Row) → AreRun d (map (node_of s) rows) → AreAt (d + 1) rows
run-at s d [] h = tt
run-at s d (r ∷ rs) h = (omega (arith, h.1), run-at s d rs h.2)

abbrev pub AllTexts : Slab Slot → List Row → Type 0
AllTexts s [] = Unit {0}
AllTexts s (r ∷ rs) = (is_text (content_in (get s r.key)) ≡ true) × AllTexts s rs

leaf-text : (c : Content) → is_leaf c ≡ true → is_text c ≡ not (is_attribute c)
leaf-text Root e = absurd (false≢true e)
leaf-text (Element name) e = absurd (false≢true e)
leaf-text (Attribute name text) e = refl
leaf-text (Text text) e = refl

run-texts : (s : Slab Slot) (d : ℕ) (rows : List Row) → AreRun d (map (node_of s) rows) → AllTexts s (children s rows)
run-texts s d [] h = tt
run-texts s d (r ∷ rs) h =
    let i = run-texts s d rs h.2 in
    elim (cases_Bool (is_child_row s r)) [
      | inl e ↦ rw e (leaf-text (content_in (get s r.key)) h.0 ∙ e, i)
      | inr e ↦ rw e i
    ]

-- the texts among them
run-filter : (s : Slab Slot) (d : ℕ) (rows : List Row) → AreRun d (map (node_of s) rows) → filter (λ (y : Node). is_text y.content) (map (node_of s) rows) ≡ map (node_of s) (children s rows)
run-filter s d [] h = refl
run-filter s d (r ∷ rs) h =
    let i = run-filter s d rs h.2 in
    let same = leaf-text (content_in (get s r.key)) h.0 in
    elim (cases_Bool (is_child_row s r)) [
      | inl e ↦ rw (same ∙ e, e) (ap (λ l. node_of s r ∷ l) i)
      | inr e ↦ rw (same ∙ e, e) i
    ]

node-depths : (s : Slab Slot) (rows : List Row) → node_depths (map (node_of s) rows) ≡ depths rows
node-depths s [] = refl
node-depths s (r ∷ rs) = ap (λ l. r.depth ∷ l) (node-depths s rs)

module _ (s : Slab Slot) (n at : ℕ) (rows : List Row) (kept : List ℕ) (next : ℕ) (sound : IsSound s rows kept next) (here : StandsAt s rows n at)
    (kind : kind_at n (map (node_of s) rows) ≡ Some kind.Element) (childless : has_elements (visits (map (node_of s) rows)) n ≡ false) where
  abbrev pub us : List Node
  us = map (node_of s) (take at rows)

  abbrev pub x : Node
  x = node_of s (get_or rows at no_row)

  abbrev pub xs : List Node
  xs = map (node_of s) (drop (at + 1) rows)

  pub element-parted : Parted n (map (node_of s) rows) us x xs
  element-parted = stands s n at rows here (one_of s rows kept next n sound)

  pub is-element : is_element (content_in (get s (get_or rows at no_row).key)) ≡ true
  is-element = element-kind x.content (sym (ap (option_map kind_of) (content-means s n at rows kept next sound here)) ∙ kind)

  abbrev child : Visit → Bool
  child v = is_element v.content && is_first n v.above

  none-after : list_any child (visits_from (x ∷ still_above x.depth (stack [] us)) xs) ≡ false
  none-after =
      let whole = ap (λ l. list_any child (visits l)) element-parted.whole in
      let split = ap (list_any child) (visits-append [] us (x ∷ xs)) ∙ list_any-append child (visits_from [] us) (visits_from (stack [] us) (x ∷ xs)) in
      let two = (or-false (list_any child (visits_from [] us)) (list_any child (visits_from (stack [] us) (x ∷ xs))) (sym split ∙ sym whole ∙ childless)).1 in
      (or-false (child (visit (stack [] us) x)) (list_any child (visits_from (x ∷ still_above x.depth (stack [] us)) xs)) two).1

  steps-after : AreSteps (suc x.depth) (node_depths xs)
  steps-after =
      let d : Node → ℕ = λ y. y.depth in
      let split : depths rows ≡ node_depths us ++ (x.depth ∷ node_depths xs) = sym (node-depths s rows) ∙ ap (map d) element-parted.whole ∙ map-append d us (x ∷ xs) in
      (steps-parts 0 (node_depths us) (x.depth ∷ node_depths xs) (subst (AreSteps 0) split sound.steps)).1.1

  pub run : AreRun x.depth (map (node_of s) (run_of at rows))
  run =
      let leaves = (leaves-parts (parts_in us) (parts_in (x ∷ xs)) (subst AreLeaves (ap parts_in element-parted.whole ∙ parts-append us (x ∷ xs)) sound.leaves)).1.1 in
      let tops = (tops-parts us (x ∷ xs) (subst AllTops element-parted.whole sound.tops)).1.1 in
      subst (AreRun x.depth) (below-is s x.depth (drop (at + 1) rows)) (leaves-below n x (still_above x.depth (stack [] us)) here.number xs steps-after leaves tops none-after)

  pub run-flat : AreAt (depth_at at rows + 1) (run_of at rows)
  run-flat = run-at s x.depth (run_of at rows) run

  pub run-all_texts : AllTexts s (children s (run_of at rows))
  run-all_texts = run-texts s x.depth (run_of at rows) run

  pub tree-is : tree_of n (map (node_of s) rows) ≡ x ∷ map (node_of s) (run_of at rows)
  tree-is = ap first_tree (parted-from n _ us x xs element-parted) ∙ ap (λ l. x ∷ l) (below-is s x.depth (drop (at + 1) rows))

  element-no_text : (c : Content) → is_element c ≡ true → is_text c ≡ false
  element-no_text Root e = refl
  element-no_text (Element name) e = refl
  element-no_text (Attribute name text) e = refl
  element-no_text (Text text) e = absurd (false≢true e)

  pub texts-are : filter (λ (y : Node). is_text y.content) (tree_of n (map (node_of s) rows)) ≡ map (node_of s) (children s (run_of at rows))
  texts-are = ap (filter (λ (y : Node). is_text y.content)) tree-is ∙ rw (element-no_text x.content is-element) (run-filter s x.depth (run_of at rows) run)

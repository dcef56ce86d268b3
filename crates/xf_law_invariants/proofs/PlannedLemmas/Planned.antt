-- Where the copies of an insert go: elements below elements, attributes below elements, and one element in place of a document element.
use Rattle.std.proofs.Common.{◌≡◌, ℕ, suc, ◌+◌, ◌==◌, Bool, true, false, not, cond, ◌&&◌, ◌||◌, List, [], ◌∷◌, ◌++◌, filter, find, length, Option, Some, None, option_map, refl, sym, ap, ◌∙◌, subst, inl, inr, arith}
use Rattle.std.specs.Prelude.{◌<◌, ◌≤◌, ◌⊎◌, if◌then◌else◌}
use Rattle.std.specs.List.{list_any}
use Rattle.std.proofs.lemmas.Bool.Decides.{nat_tests}
use Rattle.xf_def_forest.specs.declared.content.Content.{Content}
use Rattle.xf_def_forest.specs.declared.content.Content.TheVariants as content
use Rattle.xf_def_forest.specs.declared.content.Kind.{Kind}
use Rattle.xf_def_forest.specs.declared.content.Kind.TheVariants as kind
use Rattle.xf_def_forest.specs.declared.content.Node.{Node}
use Rattle.xf_def_forest.specs.Forest.{Forest, is_attribute, is_element, is_root, kind_at, kind_of, name_in}
use Rattle.xf_def_forest.specs.Visit.{Visit, has, is_first, parent_of, still_above, visit, visits, visits_from}
use Rattle.xf_def_forest.specs.WellFormed.{HasTrees, are_first, have_same_name}
use Rattle.xf_law_forests.specs.Root.Roots.{IsNoRoot}
use Rattle.xf_law_forests.proofs.RollbackLemmas.Trees.{Trees, none, tree, onto, times}
use Rattle.xf_law_forests.proofs.RollbackLemmas.TreeShape.{node_times, times-onto}
use Rattle.xf_law_forests.proofs.RollbackLemmas.NodeKinds.{each-of}
use Rattle.xf_law_forests.proofs.RollbackLemmas.TreeFacts.{is_at}
use Rattle.xf_law_forests.proofs.RollbackLemmas.TreeOrder.{ordered-onto}
use Rattle.xf_law_forests.proofs.RollbackLemmas.AttributePlaces.{above-attribute, below-elements}
use Rattle.xf_law_forests.proofs.RollbackLemmas.TreeTops.{tops}
use Rattle.xf_law_forests.proofs.RollbackLemmas.KeepingTrees.{KindTest, any-is, any-kind, attribute-test, element-test, kind-any, Stands}
use Rattle.xf_law_forests.proofs.RollbackLemmas.CutStands.{element-or-root, under-bears}
use Rattle.xf_law_forests.proofs.RollbackLemmas.TreeRanks.{Under, under-parent}
use Rattle.xf_law_forests.proofs.RollbackLemmas.JoinSteps.{no-other}
use Rattle.xf_def_model.specs.declared.asked.InsertAsked.{InsertAsked}
use Rattle.xf_def_model.specs.Pertinent.{AllOf}
use Rattle.xf_def_model.specs.Places.{Place, at_node, at_place, beside, content_in, elements_among, instead, is_in, last_alike, later_one, name_of, named_by, named_place, namesake, places_at, planned_insert, row_place, unless_again, within}
use Rattle.xf_law_invariants.proofs.PlannedLemmas.OutsideForests.{alone, kind-there, stands-times}
use Rattle.xf_law_invariants.proofs.PlannedLemmas.RootTrees.{document-by}
use Rattle.xf_law_invariants.proofs.PlannedLemmas.RootForests.{standing-trees}
use Rattle.xf_law_invariants.specs.Planned.Roots.{is_under_root}
use Rattle.xf_law_invariants.specs.Planned.Ready.{MayCut}

-- ---- visits tell what the nodes are

pub visits-any : (q : ℕ → Content → Bool) (above xs : List Node) → list_any (λ (x : Visit). q x.number x.content) (visits_from above xs) ≡ list_any (λ (x : Node). q x.number x.content) xs
visits-any q above [] = refl
visits-any q above (x ∷ xs) = ap (λ b. q x.number x.content || b) (visits-any q (x ∷ still_above x.depth above) xs)

pub content-is : (n : ℕ) (above xs : List Node) → content_in (visits_from above xs) n ≡ option_map (λ (x : Node). x.content) (find (λ (x : Node). x.number == n) xs)
content-is n above [] = refl
content-is n above (x ∷ xs) = by (x.number == n) (content-is n (x ∷ still_above x.depth above) xs)
  where
    by : (b : Bool) → content_in (visits_from (x ∷ still_above x.depth above) xs) n ≡ option_map (λ (y : Node). y.content) (find (λ (y : Node). y.number == n) xs)
        → option_map (λ (y : Visit). y.content) (cond b (Some (visit above x)) (find (λ (y : Visit). y.number == n) (visits_from (x ∷ still_above x.depth above) xs)))
        ≡ option_map (λ (y : Node). y.content) (cond b (Some x) (find (λ (y : Node). y.number == n) xs))
    by true e = refl
    by false e = e

pub root-test : KindTest kind.Root is_root
root-test = record { found = found; only = only }
  where
    found : (c : Content) → kind_of c ≡ kind.Root → is_root c ≡ true
    found content.Root e = refl
    found (content.Element name) e = cc e
    found (content.Attribute name text) e = cc e
    found (content.Text text) e = cc e

    only : (c : Content) → is_root c ≡ true → kind_of c ≡ kind.Root
    only content.Root e = refl
    only (content.Element name) e = cc e
    only (content.Attribute name text) e = cc e
    only (content.Text text) e = cc e

-- what stands directly below a root
self : (n : ℕ) → (n == n) ≡ true
self n = grind (arith, nat_tests)

or-left : (a b : Bool) → a ≡ true → (a || b) ≡ true
or-left true b e = refl
or-left false b e = cc e

or-right : (a b : Bool) → b ≡ true → (a || b) ≡ true
or-right true b e = refl
or-right false b e = e

under-root : (n : ℕ) (t : Trees) → is_under_root n t ≡ true → (r : ℕ) × Under n r t × (is_at is_root r t ≡ true)
under-root n none e = cc e
under-root n (tree m c k r) e = by (is_root c) refl (tops n k) refl e (under-root n r)
  where
    by : (b : Bool) → is_root c ≡ b → (d : Bool) → tops n k ≡ d → ((b && d) || is_under_root n r) ≡ true → (is_under_root n r ≡ true → (q : ℕ) × Under n q r × (is_at is_root q r ≡ true))
        → (q : ℕ) × Under n q (tree m c k r) × (is_at is_root q (tree m c k r) ≡ true)
    by true f true g i later = (m, inl (self m, g), or-left ((m == m) && is_root c) (is_at is_root m k || is_at is_root m r) (rw (self m, f) refl))
    by true f false g i later = let x = later i in (x.0, inr (inr x.1), or-right ((m == x.0) && is_root c) (is_at is_root x.0 k || is_at is_root x.0 r) (or-right (is_at is_root x.0 k) (is_at is_root x.0 r) x.2))
    by false f d g i later = let x = later i in (x.0, inr (inr x.1), or-right ((m == x.0) && is_root c) (is_at is_root x.0 k || is_at is_root x.0 r) (or-right (is_at is_root x.0 k) (is_at is_root x.0 r) x.2))

-- ---- lists

-- what is found passes the test, and stands there
find-any : {X : Type 0} (test other : X → Bool) (xs : List X) (x : X) → ((y : X) → test y ≡ true → y ≡ x → other y ≡ true) → find test xs ≡ Some x → list_any other xs ≡ true
find-any test other [] x f e = cc e
find-any test other (y ∷ ys) x f e = by (test y) refl e (find-any test other ys x f)
  where
    by : (b : Bool) → test y ≡ b → cond b (Some y) (find test ys) ≡ Some x → (find test ys ≡ Some x → list_any other ys ≡ true) → (other y || list_any other ys) ≡ true
    by true g i later = let same : y ≡ x = cc i in or-left (other y) (list_any other ys) (f y g same)
    by false g i later = or-right (other y) (list_any other ys) (later i)

and-second : (a b : Bool) → (a && b) ≡ true → b ≡ true
and-second true b e = e
and-second false b e = cc e

module _ (forest : Forest) (h : HasTrees forest) where
  abbrev pub all : List Visit
  all = visits forest.nodes

  abbrev pub s : Stands (alone forest)
  s = standing-trees forest h

  once : (n : ℕ) → node_times n forest.nodes ≤ 1
  once n = let a = s.once n in let b : node_times n forest.nodes ≡ times n s.trees + 0 = ap (node_times n) s.nodes ∙ times-onto n 0 s.trees [] in omega (arith, a, b)

  tree-once : (n : ℕ) (k : Kind) → kind_at n forest.nodes ≡ Some k → times n s.trees ≡ 1
  tree-once n k e = let a = s.once n in let b = stands-times n s.trees forest.nodes s.nodes (kind-there n k forest.nodes e) in omega (arith, a, b)

  pub in-kind : (k : Kind) (q : Content → Bool) → KindTest k q → (n : ℕ) → is_in q all n ≡ true → kind_at n forest.nodes ≡ Some k
  in-kind k q test n e = any-kind k q test n forest.nodes (once n) (sym (visits-any (λ m c. (m == n) && q c) [] forest.nodes) ∙ e)

  pub kind-in : (k : Kind) (q : Content → Bool) → KindTest k q → (n : ℕ) → kind_at n forest.nodes ≡ Some k → is_at q n s.trees ≡ true
  kind-in k q test n e = sym (any-is q n s.trees) ∙ ap (list_any (λ (x : Node). (x.number == n) && q x.content)) (sym s.nodes) ∙ kind-any k q test n forest.nodes e

  pub at-kind : (k : Kind) (q : Content → Bool) → KindTest k q → (n : ℕ) → is_at q n s.trees ≡ true → kind_at n forest.nodes ≡ Some k
  at-kind k q test n e = any-kind k q test n forest.nodes (once n) (ap (list_any (λ (x : Node). (x.number == n) && q x.content)) s.nodes ∙ any-is q n s.trees ∙ e)

  pub root-in : (n : ℕ) → is_in is_root all n ≡ is_at is_root n s.trees
  root-in n = visits-any (λ m c. (m == n) && is_root c) [] forest.nodes ∙ ap (list_any (λ (x : Node). (x.number == n) && is_root x.content)) s.nodes ∙ any-is is_root n s.trees

  pub content-kind : (n : ℕ) (c : Content) → content_in all n ≡ Some c → kind_at n forest.nodes ≡ Some (kind_of c)
  content-kind n c e = ap (option_map kind_of) (sym (content-is n [] forest.nodes) ∙ e)

  -- ---- parents

  pub parent-kind : (n parent : ℕ) (k : Kind) → kind_at n forest.nodes ≡ Some k → parent_of n all ≡ Some parent → (kind_at parent forest.nodes ≡ Some kind.Element) ⊎ (is_at is_root parent s.trees ≡ true)
  parent-kind n parent k e p =
      let under = under-parent n parent s.trees (tree-once n k e) (subst (λ l. parent_of n (visits l) ≡ Some parent) s.nodes p) in
      elim (element-or-root parent s.trees (under-bears n parent false s.trees s.sound under)) [
        | inl g ↦ inl (at-kind kind.Element is_element element-test parent g)
        | inr g ↦ inr g
      ]

  attribute-at : (n : ℕ) → kind_at n forest.nodes ≡ Some kind.Attribute → is_at is_attribute n s.trees ≡ true
  attribute-at n e = kind-in kind.Attribute is_attribute attribute-test n e

  attribute-above : (n parent : ℕ) → kind_at n forest.nodes ≡ Some kind.Attribute → Under n parent s.trees → is_at is_element parent s.trees ≡ true
  attribute-above n parent e under =
      let first : are_first (onto 0 s.trees []) ≡ true = subst (λ l. are_first l ≡ true) s.nodes h.first in
      above-attribute n parent s.trees under
      (each-of (λ c. is_attribute c ≡ true) is_attribute (λ c q. q) n s.trees (let z = tree-once n kind.Attribute e in omega (arith, z)) (attribute-at n e))
      (ordered-onto 0 s.trees [] first) (below-elements 0 s.trees [] first)

  pub attribute-parent : (n parent : ℕ) → kind_at n forest.nodes ≡ Some kind.Attribute → parent_of n all ≡ Some parent → kind_at parent forest.nodes ≡ Some kind.Element
  attribute-parent n parent e p =
      at-kind kind.Element is_element element-test parent
      (attribute-above n parent e (under-parent n parent s.trees (tree-once n kind.Attribute e) (subst (λ l. parent_of n (visits l) ≡ Some parent) s.nodes p)))

  -- an attribute is no document element
  pub attribute-inner : (n : ℕ) → kind_at n forest.nodes ≡ Some kind.Attribute → MayCut n forest
  attribute-inner n e = record { kind = inr e; inner = document-by n forest.nodes s.trees s.nodes (not-under (is_under_root n s.trees) refl) }
    where
      element-plain : (c : Content) → is_element c ≡ true → is_root c ≡ false
      element-plain content.Root i = cc i
      element-plain (content.Element name) i = refl
      element-plain (content.Attribute name text) i = cc i
      element-plain (content.Text text) i = cc i

      not-under : (b : Bool) → is_under_root n s.trees ≡ b → b ≡ false
      not-under false q = refl
      not-under true q =
          let r = under-root n s.trees q in
          let element = attribute-above n r.0 e r.1 in
          let twice = no-other is_root is_element (λ c i. element-plain c i) r.0 s.trees (let z = s.once r.0 in omega (arith, z)) element in
          cc (r.2, twice)

  -- ---- the places

  -- below an element
  pub record IsRow (parent count : ℕ) (pl : Place) : Type 0 where
    pub parent_is : pl.parent ≡ parent
    pub origin : IsNoRoot pl.origin forest
    pub gone : (m : ℕ) → pl.replaces ≡ Some m → MayCut m forest
    pub again : (k : ℕ) → pl.again ≡ Some k → k < count

  -- an element in place of a document element
  pub record IsInstead (pl : Place) : Type 0 where
    pub old : ℕ
    pub replaces : pl.replaces ≡ Some old
    pub again : pl.again ≡ None
    pub place : pl.place ≡ 0
    pub origin : kind_at pl.origin forest.nodes ≡ Some kind.Element
    pub is_element : kind_at old forest.nodes ≡ Some kind.Element
    pub root : is_at is_root pl.parent s.trees ≡ true
    pub below : parent_of old all ≡ Some pl.parent

  pub data ArePlanned : List Place → Type 0 where
    rows : (parent : ℕ) (ps : List Place) → kind_at parent forest.nodes ≡ Some kind.Element → AllOf (IsRow parent (length ps)) ps → ArePlanned ps
    instead_of : (pl : Place) → IsInstead pl → ArePlanned (pl ∷ [])
    nowhere : ArePlanned []

  pub instead-root : (pl : Place) → IsInstead pl → kind_at pl.parent forest.nodes ≡ Some kind.Root
  instead-root pl i = at-kind kind.Root is_root root-test pl.parent i.root

  last-in : (n at : ℕ) (ps : List Place) (k : ℕ) → last_alike all n at ps ≡ Some k → k < at + length ps
  last-in n at [] k e = cc e
  last-in n at (p ∷ ps) k e = by (last_alike all n (suc at) ps) (is_in is_attribute all p.origin && have_same_name (name_of all n) (name_of all p.origin)) e (last-in n (suc at) ps k)
    where
      by : (o : Option ℕ) (b : Bool) → later_one o at b ≡ Some k → (o ≡ Some k → k < suc at + length ps) → k < at + suc (length ps)
      by (Some j) b i later = let z = later i in omega (arith, z)
      by None true i later = let same : at ≡ k = cc i in omega (arith, same)
      by None false i later = cc i

  namesake-cut : (parent n m : ℕ) → namesake all parent n ≡ Some m → MayCut m forest
  namesake-cut parent n m e = by (find test all) refl e
    where
      test : Visit → Bool
      test x = is_first parent x.above && is_attribute x.content && have_same_name (name_of all n) (name_in x.content)

      by : (o : Option Visit) → find test all ≡ o → option_map (λ (x : Visit). x.number) o ≡ Some m → MayCut m forest
      by None f i = cc i
      by (Some x) f i =
          let same : x.number ≡ m = cc i in
          let any : is_in is_attribute all m ≡ true = find-any test (λ (y : Visit). (y.number == m) && is_attribute y.content) all x (λ y g q. passes y g (ap (λ (v : Visit). v.number) q ∙ same)) f in
          attribute-inner m (in-kind kind.Attribute is_attribute attribute-test m any)
        where
          and-first : (a b : Bool) → (a && b) ≡ true → a ≡ true
          and-first true b e = refl
          and-first false b e = cc e

          passes : (y : Visit) → test y ≡ true → y.number ≡ m → ((y.number == m) && is_attribute y.content) ≡ true
          passes y g q =
              let attribute : is_attribute y.content ≡ true = and-second (is_first parent y.above) (is_attribute y.content) (and-first (is_first parent y.above && is_attribute y.content) (have_same_name (name_of all n) (name_in y.content)) g) in
              let number : (y.number == m) ≡ true = ap (λ k. k == m) q ∙ self m in
              rw (number, attribute) refl

  length-one : (ps : List Place) (one : Place) → length (ps ++ one ∷ []) ≡ suc (length ps)
  length-one [] one = refl
  length-one (p ∷ ps) one = ap suc (length-one ps one)

  rows-within : (parent before : ℕ) (earlier : List Place) (ns : List ℕ) → AllOf (IsRow parent (length earlier + length (within all parent before earlier ns))) (within all parent before earlier ns)
  rows-within parent before earlier [] = tt
  rows-within parent before earlier (n ∷ ns) =
      by (is_in is_element all n) refl (is_in is_attribute all n) refl (rows-within parent (suc before) (earlier ++ element ∷ []) ns) (rows-within parent before (earlier ++ attribute ∷ []) ns) (rows-within parent before earlier ns)
    where
      element : Place
      element = row_place parent before n

      attribute : Place
      attribute = named_place all parent earlier n

      more : (one : Place) (b : ℕ) → AllOf (IsRow parent (length (earlier ++ one ∷ []) + length (within all parent b (earlier ++ one ∷ []) ns))) (within all parent b (earlier ++ one ∷ []) ns)
          → IsRow parent (length earlier + suc (length (within all parent b (earlier ++ one ∷ []) ns))) one
          → AllOf (IsRow parent (length earlier + length (one ∷ within all parent b (earlier ++ one ∷ []) ns))) (one ∷ within all parent b (earlier ++ one ∷ []) ns)
      more one b rest head =
          let same : length (earlier ++ one ∷ []) + length (within all parent b (earlier ++ one ∷ []) ns) ≡ length earlier + suc (length (within all parent b (earlier ++ one ∷ []) ns))
          = let z = length-one earlier one in omega (arith, z) in
          (head, subst (λ k. AllOf (IsRow parent k) (within all parent b (earlier ++ one ∷ []) ns)) same rest)

      by : (b : Bool) → is_in is_element all n ≡ b → (d : Bool) → is_in is_attribute all n ≡ d
          → AllOf (IsRow parent (length (earlier ++ element ∷ []) + length (within all parent (suc before) (earlier ++ element ∷ []) ns))) (within all parent (suc before) (earlier ++ element ∷ []) ns)
          → AllOf (IsRow parent (length (earlier ++ attribute ∷ []) + length (within all parent before (earlier ++ attribute ∷ []) ns))) (within all parent before (earlier ++ attribute ∷ []) ns)
          → AllOf (IsRow parent (length earlier + length (within all parent before earlier ns))) (within all parent before earlier ns)
          → AllOf (IsRow parent (length earlier + length (if b then element ∷ within all parent (suc before) (earlier ++ element ∷ []) ns else if d then attribute ∷ within all parent before (earlier ++ attribute ∷ []) ns else within all parent before earlier ns)))
          (if b then element ∷ within all parent (suc before) (earlier ++ element ∷ []) ns else if d then attribute ∷ within all parent before (earlier ++ attribute ∷ []) ns else within all parent before earlier ns)
      by true e d f one two three = more element (suc before) one (record {
        parent_is = refl;
        origin = inl (in-kind kind.Element is_element element-test n e);
        gone = λ m g. cc g;
        again = λ k g. cc g;
      })
      by false e true f one two three = more attribute before two (record {
        parent_is = refl;
        origin = inr (in-kind kind.Attribute is_attribute attribute-test n f);
        gone = λ m g. gone (last_alike all n 0 earlier) m g;
        again = λ k g. let z = last-in n 0 earlier k g in omega (arith, z);
      })
        where
          gone : (o : Option ℕ) (m : ℕ) → unless_again o (namesake all parent n) ≡ Some m → MayCut m forest
          gone None m g = namesake-cut parent n m g
          gone (Some k) m g = cc g
      by false e false f one two three = three

  pub planned-within : (parent before : ℕ) (ns : List ℕ) → kind_at parent forest.nodes ≡ Some kind.Element → ArePlanned (within all parent before [] ns)
  planned-within parent before ns e =
      let ps = within all parent before [] ns in
      let same : 0 + length ps ≡ length ps = omega arith in
      rows parent ps e (subst (λ k. AllOf (IsRow parent k) ps) same (rows-within parent before [] ns))

  planned-instead : (root n : ℕ) (origin : List ℕ) → kind_at n forest.nodes ≡ Some kind.Element → is_at is_root root s.trees ≡ true → parent_of n all ≡ Some root → ArePlanned (instead root n (elements_among all origin))
  planned-instead root n [] e r p = nowhere
  planned-instead root n (m ∷ ms) e r p = by (is_in is_element all m) refl (planned-instead root n ms e r p)
    where
      by : (b : Bool) → is_in is_element all m ≡ b → ArePlanned (instead root n (elements_among all ms)) → ArePlanned (instead root n (if b then m ∷ elements_among all ms else elements_among all ms))
      by true f later = instead_of (record (row_place root 0 m) { replaces = Some n })
          (record { old = n; replaces = refl; again = refl; place = refl; origin = in-kind kind.Element is_element element-test m f; is_element = e; root = r; below = p })
      by false f later = later

  -- ---- the insert

  planned-node : (after : Bool) (origin : List ℕ) (n : ℕ) (o : Option Content) (q : Option ℕ) → content_in all n ≡ o → parent_of n all ≡ q → ArePlanned (at_node all after origin n o q)
  planned-node after origin n (Some (content.Element name)) (Some parent) e p = by (is_in is_root all parent) refl (parent-kind n parent kind.Element (content-kind n (content.Element name) e) p)
    where
      by : (b : Bool) → is_in is_root all parent ≡ b → (kind_at parent forest.nodes ≡ Some kind.Element) ⊎ (is_at is_root parent s.trees ≡ true)
          → ArePlanned (if b then instead parent n (elements_among all origin) else beside all after parent n origin)
      by true f k = planned-instead parent n origin (content-kind n (content.Element name) e) (sym (root-in parent) ∙ f) p
      by false f (inl k) = planned-within parent _ (elements_among all origin) k
      by false f (inr k) = cc (sym f ∙ root-in parent ∙ k)
  planned-node after origin n (Some (content.Attribute name text)) (Some parent) e p =
      planned-within parent 0 (filter (is_in is_attribute all) origin) (attribute-parent n parent (content-kind n (content.Attribute name text) e) p)
  planned-node after origin n (Some (content.Element name)) None e p = nowhere
  planned-node after origin n (Some (content.Attribute name text)) None e p = nowhere
  planned-node after origin n (Some content.Root) (Some parent) e p = nowhere
  planned-node after origin n (Some content.Root) None e p = nowhere
  planned-node after origin n (Some (content.Text text)) (Some parent) e p = nowhere
  planned-node after origin n (Some (content.Text text)) None e p = nowhere
  planned-node after origin n None (Some parent) e p = nowhere
  planned-node after origin n None None e p = nowhere

  planned-at : (asked : InsertAsked) (o : Option ℕ) → ArePlanned (at_place all asked o)
  planned-at asked None = nowhere
  planned-at asked (Some n) = planned-node asked.after asked.origin n (content_in all n) (parent_of n all) refl refl

  planned-places : (asked : InsertAsked) (ns : List ℕ) → ArePlanned (places_at all asked ns)
  planned-places asked [] = by asked.given (is_in is_element all asked.context.number) refl
    where
      by : (a b : Bool) → is_in is_element all asked.context.number ≡ b → ArePlanned (if a && b then within all asked.context.number 0 [] asked.origin else [])
      by true true e = planned-within asked.context.number 0 asked.origin (in-kind kind.Element is_element element-test asked.context.number e)
      by true false e = nowhere
      by false b e = nowhere
  planned-places asked (n ∷ ns) = planned-at asked (named_by asked.at (n ∷ ns))

  -- none or all of the places are under a readonly parent
  kept-rows : (closed : List ℕ) (parent count : ℕ) (ps : List Place) → AllOf (IsRow parent count) ps
      → filter (λ (p : Place). not (has p.parent closed)) ps ≡ cond (not (has parent closed)) ps []
  kept-rows closed parent count [] r = by (not (has parent closed))
    where
      by : (b : Bool) → ◌≡◌ {A = List Place} [] (cond b [] [])
      by true = refl
      by false = refl
  kept-rows closed parent count (p ∷ ps) r =
      ap (λ k. cond (not (has k closed)) (p ∷ filter (λ (q : Place). not (has q.parent closed)) ps) (filter (λ (q : Place). not (has q.parent closed)) ps)) r.0.parent_is
      ∙ by (not (has parent closed)) (kept-rows closed parent count ps r.1)
    where
      by : (b : Bool) → filter (λ (q : Place). not (has q.parent closed)) ps ≡ cond b ps [] → cond b (p ∷ filter (λ (q : Place). not (has q.parent closed)) ps) (filter (λ (q : Place). not (has q.parent closed)) ps) ≡ cond b (p ∷ ps) []
      by true e = ap (λ l. p ∷ l) e
      by false e = e

  kept-planned : (closed : List ℕ) (ps : List Place) → ArePlanned ps → ArePlanned (filter (λ (p : Place). not (has p.parent closed)) ps)
  kept-planned closed ps nowhere = nowhere
  kept-planned closed ps (rows parent list e r) = subst ArePlanned (sym (kept-rows closed parent (length list) list r)) (by (not (has parent closed)))
    where
      by : (b : Bool) → ArePlanned (cond b list [])
      by true = rows parent list e r
      by false = nowhere
  kept-planned closed ps (instead_of pl i) = by (not (has pl.parent closed))
    where
      by : (b : Bool) → ArePlanned (cond b (pl ∷ []) [])
      by true = instead_of pl i
      by false = nowhere

  pub planned : (asked : InsertAsked) → ArePlanned (planned_insert forest.nodes asked)
  planned asked = kept-planned asked.closed (places_at all asked asked.set) (planned-places asked asked.set)

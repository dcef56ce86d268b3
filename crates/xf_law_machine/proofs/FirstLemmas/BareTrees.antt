-- The bare tree of a tree of elements, attributes and texts gives its contents: the nodes come to parts from the last one back, and each part gives
-- the nodes that it was made of.
use Rattle.std.proofs.Common.{◌≡◌, ℕ, suc, ◌+◌, ◌-◌, Bool, true, false, cond, ◌||◌, List, [], ◌∷◌, ◌++◌, map, flat_map, nat_lt, nat_le, Some, refl, sym, ap, ◌∙◌, subst, inl, inr, ◌⊎◌, arith, append_assoc}
use Rattle.std.proofs.lemmas.Bool.Decides.{nat_tests}
use Rattle.xf_name.specs.Bindings.{Bindings}
use Rattle.xf_name.specs.declared.qname.QName.{QName}
use Rattle.xf_def_forest.specs.declared.bare.Bare.{Bare}
use Rattle.xf_def_forest.specs.declared.bare.Bare.TheOpen.{Bare-F}
use Rattle.xf_def_forest.specs.declared.bare.Bare.TheFolds.{fold-roll-Bare, fold-roll-BareElement}
use Rattle.xf_def_forest.specs.declared.bare.Bare.TheViews.{roll-BareElement}
use Rattle.xf_def_forest.specs.declared.bare.Bare.TheVariants as bare
use Rattle.xf_def_forest.specs.declared.bare.BareElement.{BareElement, fold-BareElement}
use Rattle.xf_def_forest.specs.declared.bare.BareAttribute.{BareAttribute}
use Rattle.xf_def_forest.specs.declared.content.Content.{Content}
use Rattle.xf_def_forest.specs.declared.content.Content.TheVariants.{Root, Element, Attribute, Text}
use Rattle.xf_def_forest.specs.declared.content.Node.{Node}
use Rattle.xf_def_forest.specs.Changes.{contents_in, shifted}
use Rattle.xf_def_forest.specs.Forest.{below, first_tree, from_node, is_attribute, is_element, is_text}
use Rattle.xf_def_forest.specs.Literal.{Part, attribute_part, tree_part, attributes_in, trees_in, inner, outer, gathered, first_tree_in, bare_part}
use Rattle.xf_def_forest.specs.Plant.{Contents, at_depth, name_for, text_contents, in_order, is_less, written_of}
use Rattle.xf_def_forest.specs.Planted.{contents_of_bare, bare_contents, bare_element_contents, bare_attribute}
use Rattle.xf_def_forest.specs.WellFormed.{reach}
use Rattle.xf_def_xpath.proofs.VisitFacts.{no, some-same}
use Rattle.xf_law_machine.specs.First.Well.{AreWell, BareGives, Follows, IsWell, depth_of}
use Rattle.xf_law_machine.proofs.FirstLemmas.Sorted.{IsSorted, sorted-stays}

abbrev APart : Type 0
APart = Part BareAttribute Bare

abbrev Parts : Type 0
Parts = List (ℕ × APart)

abbrev parts : List Node → Parts
parts nodes = gathered bare_part nodes

none : {A : Type 0} (l : List A) → l ++ [] ≡ l
none [] = refl
none (x ∷ xs) = ap (λ m. x ∷ m) (none xs)

-- ---- parts that fall in depth

abbrev NotDeeper : ℕ → Parts → Type 0
NotDeeper d [] = Unit {0}
NotDeeper d (p ∷ ps) = nat_lt d p.0 ≡ false

abbrev Falling : Parts → Type 0
Falling [] = Unit {0}
Falling (p ∷ ps) = NotDeeper p.0 ps × Falling ps

falling-outer : (d : ℕ) (ps : Parts) → Falling ps → Falling (outer d ps) × NotDeeper d (outer d ps)
falling-outer d [] h = (tt, tt)
falling-outer d (p ∷ ps) h = by (nat_lt d p.0) refl (falling-outer d ps h.1)
  where
    by : (c : Bool) → nat_lt d p.0 ≡ c → Falling (outer d ps) × NotDeeper d (outer d ps) → Falling (cond c (outer d ps) (p ∷ ps)) × NotDeeper d (cond c (outer d ps) (p ∷ ps))
    by true e i = i
    by false e i = (h, e)

parts-falling : (xs : List Node) → Falling (parts xs)
parts-falling [] = tt
parts-falling (x ∷ xs) = let o = falling-outer x.depth (parts xs) (parts-falling xs) in (o.1, o.0)

outer-outer : (d e : ℕ) (ps : Parts) → nat_lt d e ≡ true → outer d (outer e ps) ≡ outer d ps
outer-outer d e [] h = refl
outer-outer d e (p ∷ ps) h = by (nat_lt e p.0) refl (outer-outer d e ps h)
  where
    deep : nat_lt e p.0 ≡ true → nat_lt d p.0 ≡ true
    deep i = grind (arith, nat_tests, h, i)

    by : (c : Bool) → nat_lt e p.0 ≡ c → outer d (outer e ps) ≡ outer d ps → outer d (cond c (outer e ps) (p ∷ ps)) ≡ outer d (p ∷ ps)
    by true i j = j ∙ sym (ap (λ b. cond b (outer d ps) (p ∷ ps)) (deep i))
    by false i j = refl

abbrev Deep : ℕ → List Node → Type 0
Deep d [] = Unit {0}
Deep d (x ∷ xs) = (nat_lt d x.depth ≡ true) × Deep d xs

-- all that is deeper is taken in
gone : (d : ℕ) (xs : List Node) → Deep d xs → outer d (parts xs) ≡ []
gone d [] h = refl
gone d (x ∷ xs) h =
    ap (λ b. cond b (outer d (outer x.depth (parts xs))) ((x.depth, bare_part x.content (inner x.depth (parts xs))) ∷ outer x.depth (parts xs))) h.0
    ∙ outer-outer d x.depth (parts xs) h.0 ∙ gone d xs h.1

deep-below : (d : ℕ) (xs : List Node) → Deep d (below d xs)
deep-below d [] = tt
deep-below d (x ∷ xs) = by (nat_lt d x.depth) refl (deep-below d xs)
  where
    by : (c : Bool) → nat_lt d x.depth ≡ c → Deep d (below d xs) → Deep d (cond c (x ∷ below d xs) [])
    by true e i = (e, i)
    by false e i = tt

low-outer : (d : ℕ) (ps : Parts) → NotDeeper d ps → outer d ps ≡ ps
low-outer d [] h = refl
low-outer d (p ∷ ps) h = ap (λ b. cond b (outer d ps) (p ∷ ps)) h

module _ (b : Bindings) where
  -- ---- attributes behind attributes

  abbrev IsTree : APart → Type 0
  IsTree (attribute_part a) = ⊥
  IsTree (tree_part t) = Unit {0}

  abbrev Beside : ℕ → APart → ℕ → APart → Type 0
  Beside e p d (tree_part t) = Unit {0}
  Beside e (tree_part u) d (attribute_part a) = ⊥
  Beside e (attribute_part c) d (attribute_part a) = (d ≡ e) × (is_less (written_of (bare_attribute b a)) (written_of (bare_attribute b c)) ≡ false)

  abbrev Chain : ℕ → APart → Parts → Type 0
  Chain e p [] = Unit {0}
  Chain e p (q ∷ qs) = Beside e p q.0 q.1 × Chain q.0 q.1 qs

  abbrev Chained : Parts → Type 0
  Chained [] = Unit {0}
  Chained (p ∷ ps) = Chain p.0 p.1 ps

  abbrev Plain : Parts → Type 0
  Plain [] = Unit {0}
  Plain (q ∷ qs) = IsTree q.1

  plain : (d e k : ℕ) (p q : APart) → nat_lt d e ≡ true → Beside e p k q → nat_lt d k ≡ false → IsTree q
  plain d e k p (tree_part t) less h i = tt
  plain d e k (tree_part u) (attribute_part a) less h i = h
  plain d e k (attribute_part c) (attribute_part a) less h i = no (sym i ∙ ap (nat_lt d) h.0 ∙ less)

  chain-outer : (d e : ℕ) (p : APart) (ps : Parts) → nat_lt d e ≡ true → Chain e p ps → Plain (outer d ps) × Chained (outer d ps)
  chain-outer d e p [] less h = (tt, tt)
  chain-outer d e p (q ∷ qs) less h = by (nat_lt d q.0) refl (λ i. chain-outer d q.0 q.1 qs i h.1)
    where
      by : (c : Bool) → nat_lt d q.0 ≡ c → (nat_lt d q.0 ≡ true → Plain (outer d qs) × Chained (outer d qs)) → Plain (cond c (outer d qs) (q ∷ qs)) × Chained (cond c (outer d qs) (q ∷ qs))
      by true i later = later i
      by false i later = (plain d e q.0 p q.1 less h.0 i, h.1)

  beside-tree : (e d : ℕ) (p q : APart) → IsTree q → Beside e p d q
  beside-tree e d p (tree_part t) h = tt
  beside-tree e d p (attribute_part a) h = absurd h

  chain-behind : (e : ℕ) (p : APart) (qs : Parts) → Plain qs × Chained qs → Chain e p qs
  chain-behind e p [] h = tt
  chain-behind e p (q ∷ qs) h = (beside-tree e q.0 p q.1 h.0, h.1)

  -- a node right behind another that is no deeper
  beside-contents : (d e : ℕ) (c f : Content) (ps qs : List APart) → IsWell b c → IsWell b f → nat_lt d e ≡ false
      → (is_attribute f ≡ true → ((is_element c ≡ true) × (e ≡ suc d)) ⊎ ((is_attribute c ≡ true) × (e ≡ d) × (is_less (written_of f) (written_of c) ≡ false)))
      → Beside d (bare_part c ps) e (bare_part f qs)
  beside-contents d e c Root ps qs w v low h = tt
  beside-contents d e c (Element name) ps qs w v low h = tt
  beside-contents d e c (Text text) ps qs w v low h = tt
  beside-contents d e c (Attribute name text) ps qs w v low h = by c w (h refl)
    where
      by : (c : Content) → IsWell b c → ((is_element c ≡ true) × (e ≡ suc d)) ⊎ ((is_attribute c ≡ true) × (e ≡ d) × (is_less (written_of (Attribute name text)) (written_of c) ≡ false)) →
          Beside d (bare_part c ps) e (attribute_part (record { name = name.meaning; text = text }))
      by c w (inl i) = let deep : e ≡ suc d = i.1 in absurd (grind (arith, nat_tests, deep, low))
      by Root w (inr i) = no i.0
      by (Element other) w (inr i) = no i.0
      by (Text other) w (inr i) = no i.0
      by (Attribute other value) w (inr i) = (
        i.1,
        ap (λ n. is_less (written_of (Attribute n text)) (written_of (Attribute (name_for b other.meaning) value))) (sym v)
            ∙ ap (λ n. is_less (written_of (Attribute name text)) (written_of (Attribute n value))) (sym w) ∙ i.2,
      )

  parts-chained : (k : ℕ) (xs : List Node) → AreWell b k xs → Chained (parts xs)
  parts-chained k [] h = tt
  parts-chained k (x ∷ []) h = tt
  parts-chained k (x ∷ y ∷ ys) h = by (nat_lt x.depth y.depth) refl (parts-chained k (y ∷ ys) h.3)
    where
      first : APart
      first = bare_part x.content (inner x.depth (parts (y ∷ ys)))

      second : APart
      second = bare_part y.content (inner y.depth (parts ys))

      by : (c : Bool) → nat_lt x.depth y.depth ≡ c → Chain y.depth second (outer y.depth (parts ys)) →
          Chain x.depth first (cond c (outer x.depth (outer y.depth (parts ys))) ((y.depth, second) ∷ outer y.depth (parts ys)))
      by true e i = chain-behind x.depth first (outer x.depth (outer y.depth (parts ys))) (chain-outer x.depth y.depth second (outer y.depth (parts ys)) e i)
      by false e i = (beside-contents x.depth y.depth x.content y.content (inner x.depth (parts (y ∷ ys))) (inner y.depth (parts ys)) h.0 h.3.0 e h.2.1, i)

  -- ---- what is taken in

  abbrev Near : APart → APart → Type 0
  Near p (tree_part t) = Unit {0}
  Near (tree_part u) (attribute_part a) = ⊥
  Near (attribute_part c) (attribute_part a) = is_less (written_of (bare_attribute b a)) (written_of (bare_attribute b c)) ≡ false

  abbrev Kin : APart → List APart → Type 0
  Kin p [] = Unit {0}
  Kin p (q ∷ qs) = Near p q × Kin q qs

  abbrev AreKin : List APart → Type 0
  AreKin [] = Unit {0}
  AreKin (q ∷ qs) = Kin q qs

  near : (e d : ℕ) (p q : APart) → Beside e p d q → Near p q
  near e d p (tree_part t) h = tt
  near e d (tree_part u) (attribute_part a) h = h
  near e d (attribute_part c) (attribute_part a) h = h.1

  kin-inner : (d e : ℕ) (p : APart) (ps : Parts) → Chain e p ps → Kin p (inner d ps)
  kin-inner d e p [] h = tt
  kin-inner d e p (q ∷ qs) h = by (nat_lt d q.0) (kin-inner d q.0 q.1 qs h.1)
    where
      by : (c : Bool) → Kin q.1 (inner d qs) → Kin p (cond c (q.1 ∷ inner d qs) [])
      by true i = (near e q.0 p q.1 h.0, i)
      by false i = tt

  are-kin : (d : ℕ) (ps : Parts) → Chained ps → AreKin (inner d ps)
  are-kin d [] h = tt
  are-kin d (p ∷ ps) h = by (nat_lt d p.0)
    where
      by : (c : Bool) → AreKin (cond c (p.1 ∷ inner d ps) [])
      by true = kin-inner d p.0 p.1 ps h
      by false = tt

  no-attributes : (t : Bare) (qs : List APart) → Kin (tree_part t) qs → attributes_in qs ≡ []
  no-attributes t [] h = refl
  no-attributes t (attribute_part a ∷ qs) h = absurd h.0
  no-attributes t (tree_part u ∷ qs) h = no-attributes u qs h.1

  behind-sorted : (a : BareAttribute) (qs : List APart) → Kin (attribute_part a) qs → IsSorted (bare_attribute b a ∷ map (bare_attribute b) (attributes_in qs))
  behind-sorted a [] h = tt
  behind-sorted a (attribute_part c ∷ qs) h = (h.0, behind-sorted c qs h.1)
  behind-sorted a (tree_part t ∷ qs) h = subst (λ l. IsSorted (bare_attribute b a ∷ map (bare_attribute b) l)) (sym (no-attributes t qs h.1)) tt

  kin-sorted : (qs : List APart) → AreKin qs → IsSorted (map (bare_attribute b) (attributes_in qs))
  kin-sorted [] h = tt
  kin-sorted (attribute_part a ∷ qs) h = behind-sorted a qs h
  kin-sorted (tree_part t ∷ qs) h = subst (λ l. IsSorted (map (bare_attribute b) l)) (sym (no-attributes t qs h)) tt

  abbrev back_at : ℕ → APart → List (ℕ × Content)
  back_at d (attribute_part a) = (d, bare_attribute b a) ∷ []
  back_at d (tree_part t) = contents_of_bare b t 0 d

  abbrev children_at : ℕ → List Bare → List (ℕ × Content)
  children_at d children = flat_map (λ t. contents_of_bare b t 0 d) children

  kin-tail : (p : APart) (qs : List APart) → Kin p qs → AreKin qs
  kin-tail p [] h = tt
  kin-tail p (q ∷ qs) h = h.1

  unsorted-gives : (m : ℕ) (qs : List APart) → AreKin qs → at_depth m (map (bare_attribute b) (attributes_in qs)) ++ children_at m (trees_in qs) ≡ flat_map (back_at m) qs
  unsorted-gives m [] h = refl
  unsorted-gives m (attribute_part a ∷ qs) h = ap (λ l. (m, bare_attribute b a) ∷ l) (unsorted-gives m qs (kin-tail (attribute_part a) qs h))
  unsorted-gives m (tree_part t ∷ qs) h =
      let e : attributes_in qs ≡ [] = no-attributes t qs h in
      ap (λ l. at_depth m (map (bare_attribute b) l) ++ (contents_of_bare b t 0 m ++ children_at m (trees_in qs))) e
      ∙ ap (λ l. contents_of_bare b t 0 m ++ l)
      (sym (ap (λ l. at_depth m (map (bare_attribute b) l) ++ children_at m (trees_in qs)) e) ∙ unsorted-gives m qs (kin-tail (tree_part t) qs h))

  inner-gives : (m : ℕ) (qs : List APart) → AreKin qs → at_depth m (in_order (map (bare_attribute b) (attributes_in qs))) ++ children_at m (trees_in qs) ≡ flat_map (back_at m) qs
  inner-gives m qs h =
      ap (λ l. at_depth m l ++ children_at m (trees_in qs)) (sorted-stays (map (bare_attribute b) (attributes_in qs)) (kin-sorted qs h)) ∙ unsorted-gives m qs h

  -- ---- the contents of trees

  abbrev of_element : BareElement → Contents
  of_element = fold-BareElement Contents Contents bare_contents (bare_element_contents b)

  element-contents : (e : BareElement) → contents_of_bare b (bare.Element e) ≡ of_element e
  element-contents e = ap (contents_of_bare b) (sym (bare.rolls-Element e)) ∙ fold-roll-Bare Contents Contents bare_contents (bare_element_contents b) (Bare-F.Element e)

  text-contents : (text : List ℕ) → contents_of_bare b (bare.Text text) ≡ text_contents text
  text-contents text = ap (contents_of_bare b) (sym (bare.rolls-Text text)) ∙ fold-roll-Bare Contents Contents bare_contents (bare_element_contents b) (Bare-F.Text text)

  abbrev rolled : QName → List BareAttribute → List Bare → BareElement
  rolled name ys children = roll-BareElement (record { name = name; attributes = ys; children = children })

  flat-mapped : (d : ℕ) (children : List Bare) → flat_map (λ child. child 0 d) (map (contents_of_bare b) children) ≡ children_at d children
  flat-mapped d [] = refl
  flat-mapped d (t ∷ ts) = ap (λ l. contents_of_bare b t 0 d ++ l) (flat-mapped d ts)

  rolled-contents : (name : QName) (ys : List BareAttribute) (children : List Bare) (d : ℕ) →
      of_element (rolled name ys children) 0 d ≡ (d, Element (name_for b name)) ∷ at_depth (suc d) (in_order (map (bare_attribute b) ys)) ++ children_at (suc d) children
  rolled-contents name ys children d =
      ap (λ w. w 0 d) (fold-roll-BareElement Contents Contents bare_contents (bare_element_contents b) (record { name = name; attributes = ys; children = children }))
      ∙ ap (λ l. (d, Element (name_for b name)) ∷ at_depth (suc d) (in_order (map (bare_attribute b) ys)) ++ l) (flat-mapped (suc d) children)

  -- ---- nodes below a depth, and the parts that they come to

  module _ (k : ℕ) where
    abbrev back : ℕ × APart → List (ℕ × Content)
    back p = back_at (p.0 - k) p.1

    abbrev lowered : List Node → List (ℕ × Content)
    lowered xs = map (λ (y : Node). (y.depth - k, y.content)) xs

    split : (d : ℕ) (ps : Parts) → Falling ps → NotDeeper (suc d) ps → flat_map back ps ≡ flat_map (back_at (suc d - k)) (inner d ps) ++ flat_map back (outer d ps)
    split d [] h low = refl
    split d (p ∷ ps) h low = by (nat_lt d p.0) refl (split d ps h.1)
      where
        one : nat_lt d p.0 ≡ true → p.0 ≡ suc d
        one e = grind (arith, nat_tests, e, low)

        by : (c : Bool) → nat_lt d p.0 ≡ c → (NotDeeper (suc d) ps → flat_map back ps ≡ flat_map (back_at (suc d - k)) (inner d ps) ++ flat_map back (outer d ps)) →
            back p ++ flat_map back ps ≡ flat_map (back_at (suc d - k)) (cond c (p.1 ∷ inner d ps) []) ++ flat_map back (cond c (outer d ps) (p ∷ ps))
        by true e later =
            let same : p.0 ≡ suc d = one e in
            ap (λ l. back p ++ l) (later (subst (λ j. NotDeeper j ps) same h.0))
            ∙ ap (λ j. back_at (j - k) p.1 ++ (flat_map (back_at (suc d - k)) (inner d ps) ++ flat_map back (outer d ps))) same
            ∙ sym (append_assoc (back_at (suc d - k) p.1) (flat_map (back_at (suc d - k)) (inner d ps)) (flat_map back (outer d ps)))
        by false e later = refl

    minus : (d : ℕ) → nat_le k d ≡ true → suc d - k ≡ suc (d - k)
    minus d h = grind (arith, nat_tests, h)

    -- a leaf has nothing below it
    abbrev IsAbove : Content → ℕ → Parts → Type 0
    IsAbove c d after = NotDeeper (cond (is_attribute c || is_text c) d (suc d)) after

    node-gives : (c : Content) (d : ℕ) (after : Parts) (later : List (ℕ × Content)) → IsWell b c → IsAbove c d after → Falling after → Chained after → nat_le k d ≡ true → flat_map back after ≡ later
        → back_at (d - k) (bare_part c (inner d after)) ++ flat_map back (outer d after) ≡ (d - k, c) ∷ later
    node-gives Root d after later w low fall chain deep e = absurd w
    node-gives (Text []) d after later w low fall chain deep e = absurd w
    node-gives (Text (c ∷ cs)) d after later w low fall chain deep e =
        ap (λ f. f 0 (d - k) ++ flat_map back (outer d after)) (text-contents (c ∷ cs))
        ∙ ap (λ l. (d - k, Text (c ∷ cs)) ∷ flat_map back l) (low-outer d after low) ∙ ap (λ l. (d - k, Text (c ∷ cs)) ∷ l) e
    node-gives (Attribute name text) d after later w low fall chain deep e =
        ap (λ n. (d - k, Attribute n text) ∷ flat_map back (outer d after)) (sym w)
        ∙ ap (λ l. (d - k, Attribute name text) ∷ flat_map back l) (low-outer d after low) ∙ ap (λ l. (d - k, Attribute name text) ∷ l) e
    node-gives (Element name) d after later w low fall chain deep e =
        let inside : List APart = inner d after in
        let own = attributes_in (inner d after) in
        let kids = trees_in (inner d after) in
        ap (λ f. f 0 (d - k) ++ flat_map back (outer d after)) (element-contents (rolled name.meaning own kids))
        ∙ ap (λ l. l ++ flat_map back (outer d after)) (rolled-contents name.meaning own kids (d - k))
        ∙ ap (λ n. (d - k, Element n) ∷ (at_depth (suc (d - k)) (in_order (map (bare_attribute b) own)) ++ children_at (suc (d - k)) kids) ++ flat_map back (outer d after)) (sym w)
        ∙ ap (λ l. (d - k, Element name) ∷ l ++ flat_map back (outer d after)) (inner-gives (suc (d - k)) (inner d after) (are-kin d after chain))
        ∙ ap (λ j. (d - k, Element name) ∷ flat_map (back_at j) (inner d after) ++ flat_map back (outer d after)) (sym (minus d deep))
        ∙ ap (λ l. (d - k, Element name) ∷ l) (sym (split d after fall low) ∙ e)

    not-over : (e r : ℕ) → nat_le e r ≡ true → nat_lt r e ≡ false
    not-over e r h = grind (arith, nat_tests, h)

    follow : (x : Node) (xs : List Node) → Follows x xs → NotDeeper (reach x) (parts xs)
    follow x [] h = tt
    follow x (y ∷ ys) h = not-over y.depth (reach x) h.0

    pub gives : (xs : List Node) → AreWell b k xs → flat_map back (parts xs) ≡ lowered xs
    gives [] h = refl
    gives (x ∷ xs) h = node-gives x.content x.depth (parts xs) (lowered xs) h.0 (follow x xs h.2) (parts-falling xs) (parts-chained k xs h.3) h.1 (gives xs h.3)

  -- ---- a tree

  first-is : (d : ℕ) (p : APart) (ps : Parts) (t : Bare) → first_tree_in ((d, p) ∷ ps) ≡ Some t → p ≡ tree_part t
  first-is d (attribute_part a) ps t e = cc e
  first-is d (tree_part u) ps t e = ap (λ v. tree_part v) (some-same e)

  plus-zero : (m : ℕ) → m ≡ 0 + m
  plus-zero m = omega arith

  itself : (m : ℕ) → 0 ≡ m - m
  itself m = omega arith

  abbrev seen : Node → ℕ × Content
  seen y = (y.depth, y.content)

  abbrev lower : ℕ → Node → ℕ × Content
  lower k y = (y.depth - k, y.content)

  abbrev with_depth : Content → ℕ → ℕ × Content
  with_depth c m = (m, c)

  shifted-down : (k : ℕ) (ys : List Node) → map (lower k) ys ≡ map seen (map (shifted k 0) ys)
  shifted-down k [] = refl
  shifted-down k (y ∷ ys) =
      ap (λ m. with_depth y.content m ∷ map (lower k) ys) (plus-zero (y.depth - k)) ∙ ap (λ l. with_depth y.content (0 + (y.depth - k)) ∷ l) (shifted-down k ys)

  of-tree : (ys : List Node) (t : Bare) → AreWell b (depth_of (first_tree ys)) (first_tree ys) → first_tree_in (gathered bare_part (first_tree ys)) ≡ Some t → contents_of_bare b t 0 0 ≡ contents_in (first_tree ys)
  of-tree [] t h e = cc e
  of-tree (x ∷ xs) t h e =
      let rest = below x.depth xs in
      let p : APart = bare_part x.content (inner x.depth (parts rest)) in
      let is : p ≡ tree_part t = first-is x.depth p (outer x.depth (parts rest)) t e in
      sym (none (contents_of_bare b t 0 0))
      ∙ ap (λ m. contents_of_bare b t 0 m ++ []) (itself x.depth)
      ∙ ap (λ q. back_at (x.depth - x.depth) q ++ []) (sym is)
      ∙ ap (λ ps. back_at (x.depth - x.depth) p ++ flat_map (back x.depth) ps) (sym (gone x.depth rest (deep-below x.depth xs)))
      ∙ gives x.depth (x ∷ rest) h ∙ shifted-down x.depth (x ∷ rest)

pub bare_gives : BareGives
bare_gives b n nodes t h e = of-tree b (from_node n nodes) t h e

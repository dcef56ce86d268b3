-- A tree that comes below a node that may have it leaves a list of trees.
use Rattle.std.proofs.Common.{◌≡◌, ℕ, zero, suc, ◌+◌, ◌-◌, ◌<◌, ◌==◌, Bool, true, false, cond, ◌&&◌, ◌||◌, List, [], ◌∷◌, ◌++◌, map, nat_lt, refl, sym, ap, ◌∙◌, subst, inl, inr, arith}
use Rattle.std.specs.Prelude.{◌≤◌, ◌⊎◌}
use Rattle.std.specs.List.{list_all}
use Rattle.std.proofs.lemmas.Bool.Decides.{nat_tests}
use Rattle.xf_def_forest.specs.declared.content.Content.{Content}
use Rattle.xf_def_forest.specs.declared.content.Content.TheVariants.{Root, Element, Attribute, Text}
use Rattle.xf_def_forest.specs.declared.content.Node.{Node}
use Rattle.xf_def_forest.specs.Changes.{at_place, moved_to, shifted, with_attribute, with_below, with_child, with_part}
use Rattle.xf_def_forest.specs.Forest.{is_attribute, is_element, is_root, is_text}
use Rattle.xf_def_forest.specs.WellFormed.{reach}
use Rattle.xf_law_invariants.proofs.TreeLemmas.Links.{and-true, both-true, Stands, plain, top, under, beside, Next, Linked, Well, AllDeeper, shifted-linked}
use Rattle.xf_law_invariants.proofs.TreeLemmas.Counted.{times, times-append, times-moved, all-append}

-- ---- how deep the next node may be

reach-of : (x : Node) → is_attribute x.content ≡ false → is_text x.content ≡ false → reach x ≡ suc x.depth
reach-of x a t = ap (λ b. cond (b || is_text x.content) x.depth (suc x.depth)) a ∙ ap (λ b. cond b x.depth (suc x.depth)) t

reach-least : (x : Node) → x.depth ≤ reach x
reach-least x = by (is_attribute x.content || is_text x.content)
  where
    by : (b : Bool) → x.depth ≤ cond b x.depth (suc x.depth)
    by true = omega arith
    by false = omega arith

reach-attribute : (x : Node) → is_attribute x.content ≡ true → reach x ≡ x.depth
reach-attribute x a = ap (λ b. cond (b || is_text x.content) x.depth (suc x.depth)) a

-- ---- behind a tree at this depth

-- what comes next may follow each node that is no less deep
behind : (d : ℕ) (x : Node) (xs ys : List Node) → Linked x xs → d ≤ x.depth → AllDeeper d xs → ((z : Node) → d ≤ z.depth → (d < z.depth) ⊎ (z ≡ x) → Linked z ys) → Linked x (xs ++ ys)
behind d x [] ys h l k f = f x l (inr refl)
behind d x (z ∷ zs) ys h l k f =
    let less : d < z.depth = k.0 in
    (h.0, behind d z zs ys h.1 (omega (arith, less)) k.1 (λ w m i. by w m i less))
  where
    by : (w : Node) → d ≤ w.depth → (d < w.depth) ⊎ (w ≡ z) → d < z.depth → Linked w ys
    by w m (inl deep) less = f w m (inl deep)
    by w m (inr same) less = f w m (inl (subst (λ (v : Node). d < v.depth) (sym same) less))

-- ---- among children

module _ (d : ℕ) (t : Node) (ts : List Node) (at : t.depth ≡ d) (inside : AllDeeper d ts) (own : Linked t ts) where
  abbrev tree : List Node
  tree = t ∷ ts

  -- the parent, or a node below it
  abbrev Around : Node → Type 0
  Around p = ((suc p.depth ≡ d) × (is_attribute p.content ≡ false) × (is_text p.content ≡ false)) ⊎ (d ≤ p.depth)

  around-reach : (p : Node) → Around p → d ≤ reach p
  around-reach p (inl q) = let r = reach-of p q.1 q.2 in let s : suc p.depth ≡ d = q.0 in omega (arith, r, s)
  around-reach p (inr q) = let r = reach-least p in omega (arith, q, r)

  module _ (no_attribute : is_attribute t.content ≡ false) where
    tree-next : (p : Node) → Around p → Next p t
    tree-next p q = record { deep = let r = around-reach p q in omega (arith, at, r); stands = plain no_attribute }

    -- before a child, or before what is no deeper than the parent
    may-come : (p y : Node) (ys : List Node) → Around p → Linked p (y ∷ ys) → (y.depth < d) ⊎ ((y.depth ≡ d) × (is_attribute y.content ≡ false)) → Linked p (tree ++ y ∷ ys)
    may-come p y ys q l c =
        let at-least : d ≤ t.depth = omega (arith, at) in
        (tree-next p q, behind d t ts (y ∷ ys) own at-least inside (λ z m i. (record { deep = low z m; stands = by z m l.0.stands c q }, l.1)))
      where
        low-by : (m : ℕ) → (y.depth < d) ⊎ ((y.depth ≡ d) × (is_attribute y.content ≡ false)) → d ≤ m → y.depth ≤ m
        low-by m (inl less) k = omega (arith, less, k)
        low-by m (inr same) k = let e : y.depth ≡ d = same.0 in omega (arith, e, k)

        low : (z : Node) → d ≤ z.depth → y.depth ≤ reach z
        low z m = let r = reach-least z in let k = low-by z.depth c m in omega (arith, r, k)

        by : (z : Node) → d ≤ z.depth → Stands p y → (y.depth < d) ⊎ ((y.depth ≡ d) × (is_attribute y.content ≡ false)) → Around p → Stands z y
        by z m s (inr same) w = plain same.1
        by z m (plain a) (inl less) w = plain a
        by z m (top a) (inl less) w = top a
        by z m (under a e) (inl less) (inl w) = let k : suc p.depth ≡ d = w.0 in let no : ⊥ = omega (arith, less, e, k) in absurd no
        by z m (under a e) (inl less) (inr w) = let no : ⊥ = omega (arith, less, e, w) in absurd no
        by z m (beside a e) (inl less) (inl w) = let no : true ≡ false = sym a ∙ w.1 in cc no
        by z m (beside a e) (inl less) (inr w) = let no : ⊥ = omega (arith, less, e, w) in absurd no

    tree-alone : (p : Node) → Around p → Linked p tree
    tree-alone p q = (tree-next p q, own)

    child-linked : (place : ℕ) (p : Node) (ys : List Node) → Around p → Linked p ys → Linked p (with_child d place tree ys)
    child-linked place p [] q l = tree-alone p q
    child-linked place p (y ∷ ys) q l =
        by (nat_lt y.depth d) (nat_lt d y.depth) (is_attribute y.content) refl refl refl (λ left i. child-linked left y ys i l.1)
      where
        less-of : (a c : ℕ) → nat_lt a c ≡ true → a < c
        less-of a c e = grind (arith, nat_tests, e)

        same-of : (a c : ℕ) → nat_lt a c ≡ false → nat_lt c a ≡ false → a ≡ c
        same-of a c e f = grind (arith, nat_tests, e, f)

        no-less : (a c : ℕ) → nat_lt a c ≡ false → c ≤ a
        no-less a c e = grind (arith, nat_tests, e)

        at_child : (place : ℕ) → ((left : ℕ) → Around y → Linked y (with_child d left tree ys)) → y.depth ≡ d → is_attribute y.content ≡ false
            → Linked p (at_place place (tree ++ y ∷ ys) (λ left. y ∷ with_child d left tree ys))
        at_child zero rest e f = may-come p y ys q l (inr (e, f))
        at_child (suc left) rest e f = (l.0, rest left (inr (omega (arith, e))))

        by : (b c a : Bool) → nat_lt y.depth d ≡ b → nat_lt d y.depth ≡ c → is_attribute y.content ≡ a → ((left : ℕ) → Around y → Linked y (with_child d left tree ys))
            → Linked p (cond b (tree ++ y ∷ ys) (cond (c || a) (y ∷ with_child d place tree ys) (at_place place (tree ++ y ∷ ys) (λ left. y ∷ with_child d left tree ys))))
        by true c a e f g rest = may-come p y ys q l (inl (less-of y.depth d e))
        by false true a e f g rest = (l.0, rest place (inr (no-less y.depth d e)))
        by false false true e f g rest = (l.0, rest place (inr (no-less y.depth d e)))
        by false false false e f g rest = at_child place rest (same-of y.depth d e f) g

  -- ---- among attributes

  module _ (attribute : is_attribute t.content ≡ true) where
    nothing-inside : (us : List Node) → AllDeeper d us → Linked t us → us ≡ []
    nothing-inside [] a l = refl
    nothing-inside (u ∷ us) a l =
        let less : d < u.depth = a.0 in
        let deep : u.depth ≤ reach t = l.0.deep in
        let r = reach-attribute t attribute in
        let no : ⊥ = omega (arith, less, deep, r, at) in absurd no

    -- the element, or one of its attributes
    abbrev Beside : Node → Type 0
    Beside p = ((suc p.depth ≡ d) × (is_element p.content ≡ true)) ⊎ ((p.depth ≡ d) × (is_attribute p.content ≡ true))

    element-plain : (c : Content) → is_element c ≡ true → (is_attribute c ≡ false) × (is_text c ≡ false)
    element-plain Root e = cc e
    element-plain (Element name) e = (refl, refl)
    element-plain (Attribute name text) e = cc e
    element-plain (Text text) e = cc e

    beside-reach : (p : Node) → Beside p → reach p ≡ d
    beside-reach p (inl q) = let k = element-plain p.content q.1 in reach-of p k.0 k.1 ∙ q.0
    beside-reach p (inr q) = reach-attribute p q.1 ∙ q.0

    attribute-next : (p : Node) → Beside p → Next p t
    attribute-next p q = record { deep = let r = beside-reach p q in omega (arith, at, r); stands = by q }
      where
        by : Beside p → Stands p t
        by (inl w) = let k : suc p.depth ≡ d = w.0 in under w.1 (at ∙ sym k)
        by (inr w) = let k : p.depth ≡ d = w.0 in beside w.1 (at ∙ sym k)

    alone : tree ≡ t ∷ []
    alone = ap (λ l. t ∷ l) (nothing-inside ts inside own)

    attribute-come : (p y : Node) (ys : List Node) → Beside p → Linked p (y ∷ ys) → Linked p (t ∷ y ∷ ys)
    attribute-come p y ys q l =
        let r = beside-reach p q in
        let s = reach-attribute t attribute in
        let deep : y.depth ≤ reach p = l.0.deep in
        (attribute-next p q, (record { deep = omega (arith, r, s, deep, at); stands = by l.0.stands q }, l.1))
      where
        by : Stands p y → Beside p → Stands t y
        by (plain a) w = plain a
        by (top a) w = top a
        by (under a e) (inl w) = beside attribute (e ∙ w.0 ∙ sym at)
        by (under a e) (inr w) = let k = element-plain p.content a in let no : true ≡ false = sym w.1 ∙ k.0 in cc no
        by (beside a e) (inl w) = let k = element-plain p.content w.1 in let no : true ≡ false = sym a ∙ k.0 in cc no
        by (beside a e) (inr w) = beside attribute (e ∙ w.0 ∙ sym at)

    before : (p : Node) (ys : List Node) → Beside p → Linked p ys → Linked p (tree ++ ys)
    before p [] q l = subst (λ x. Linked p (x ++ [])) (sym alone) (attribute-next p q, tt)
    before p (y ∷ ys) q l = subst (λ x. Linked p (x ++ y ∷ ys)) (sym alone) (attribute-come p y ys q l)

    attribute-linked : (place : ℕ) (p : Node) (ys : List Node) → Beside p → Linked p ys → Linked p (with_attribute d place tree ys)
    attribute-linked place p [] q l = subst (λ x. Linked p x) (sym alone) (attribute-next p q, tt)
    attribute-linked place p (y ∷ ys) q l = by (y.depth == d) (is_attribute y.content) refl refl place (λ left i. attribute-linked left y ys i l.1)
      where
        same : (a c : ℕ) → (a == c) ≡ true → a ≡ c
        same a c e = grind (arith, nat_tests, e)

        by : (b a : Bool) → (y.depth == d) ≡ b → is_attribute y.content ≡ a → (place : ℕ) → ((left : ℕ) → Beside y → Linked y (with_attribute d left tree ys))
            → Linked p (cond (b && a) (at_place place (tree ++ y ∷ ys) (λ left. y ∷ with_attribute d left tree ys)) (tree ++ y ∷ ys))
        by true true e f zero rest = before p (y ∷ ys) q l
        by true true e f (suc left) rest = (l.0, rest left (inr (same y.depth d e, f)))
        by true false e f place rest = before p (y ∷ ys) q l
        by false a e f place rest = before p (y ∷ ys) q l

-- ---- below the parent

-- a node that may have the tree below it
abbrev pub MayHave : Node → Node → Type 0
MayHave x p = (is_element p.content ≡ true) ⊎ ((is_root p.content ≡ true) × (is_attribute x.content ≡ false))

plain-parent : (p : Node) → (is_element p.content ≡ true) ⊎ (is_root p.content ≡ true) → (is_attribute p.content ≡ false) × (is_text p.content ≡ false)
plain-parent p (inl e) = by p.content e
  where
    by : (c : Content) → is_element c ≡ true → (is_attribute c ≡ false) × (is_text c ≡ false)
    by Root q = cc q
    by (Element name) q = (refl, refl)
    by (Attribute name text) q = cc q
    by (Text text) q = cc q
plain-parent p (inr e) = by p.content e
  where
    by : (c : Content) → is_root c ≡ true → (is_attribute c ≡ false) × (is_text c ≡ false)
    by Root q = (refl, refl)
    by (Element name) q = cc q
    by (Attribute name text) q = cc q
    by (Text text) q = cc q

either : (x p : Node) → MayHave x p → (is_element p.content ≡ true) ⊎ (is_root p.content ≡ true)
either x p (inl e) = inl e
either x p (inr e) = inr e.0

part-linked : (place : ℕ) (p x : Node) (inside ys : List Node) → MayHave x p → Linked x inside → AllDeeper x.depth inside → Linked p ys → Linked p (with_part (suc p.depth) place (x ∷ inside) ys)
part-linked place p x inside ys m own deep l = by (is_attribute x.content) refl
  where
    d : ℕ
    d = suc p.depth

    t : Node
    t = shifted x.depth d x

    ts : List Node
    ts = map (shifted x.depth d) inside

    t-depth : t.depth ≡ d
    t-depth = let e : d + (x.depth - x.depth) ≡ d = omega arith in e

    moved-deeper : (us : List Node) → AllDeeper x.depth us → AllDeeper d (map (shifted x.depth d) us)
    moved-deeper [] a = tt
    moved-deeper (u ∷ us) a = let less : x.depth < u.depth = a.0 in (let e : d < d + (u.depth - x.depth) = omega (arith, less) in e, moved-deeper us a.1)

    linked : Linked t ts
    linked = shifted-linked x.depth d x inside (omega arith) deep own

    plain_parent : (is_attribute p.content ≡ false) × (is_text p.content ≡ false)
    plain_parent = plain-parent p (either x p m)

    element : MayHave x p → is_attribute x.content ≡ true → is_element p.content ≡ true
    element (inl e) a = e
    element (inr e) a = let no : true ≡ false = sym a ∙ e.1 in cc no

    by : (b : Bool) → is_attribute x.content ≡ b → Linked p (cond b (with_attribute d place (t ∷ ts) ys) (with_child d place (t ∷ ts) ys))
    by true e = attribute-linked d t ts t-depth (moved-deeper inside deep) linked e place p ys (inl (refl, element m e)) l
    by false e = child-linked d t ts t-depth (moved-deeper inside deep) linked e place p ys (inl (refl, plain_parent.0, plain_parent.1)) l

-- each node with this number may have the tree
abbrev pub AllMayHave : Node → ℕ → List Node → Type 0
AllMayHave x parent [] = Unit {0}
AllMayHave x parent (y ∷ ys) = (y.number ≡ parent → MayHave x y) × AllMayHave x parent ys

below-linked : (parent place : ℕ) (x : Node) (inside : List Node) → Linked x inside → AllDeeper x.depth inside → (p : Node) (ys : List Node) → AllMayHave x parent ys → Linked p ys
    → Linked p (with_below parent place (x ∷ inside) ys)
below-linked parent place x inside own deep p [] m l = tt
below-linked parent place x inside own deep p (y ∷ ys) m l = by (y.number == parent) refl (below-linked parent place x inside own deep y ys m.1 l.1)
  where
    same : (a c : ℕ) → (a == c) ≡ true → a ≡ c
    same a c e = grind (arith, nat_tests, e)

    by : (b : Bool) → (y.number == parent) ≡ b → Linked y (with_below parent place (x ∷ inside) ys)
        → Linked p (cond b (y ∷ with_part (suc y.depth) place (x ∷ inside) ys) (y ∷ with_below parent place (x ∷ inside) ys))
    by true e rest = (l.0, part-linked place y x inside ys (m.0 (same y.number parent e)) own deep l.1)
    by false e rest = (l.0, rest)

pub below-well : (parent place : ℕ) (x : Node) (inside : List Node) → Linked x inside → AllDeeper x.depth inside → (ys : List Node) → AllMayHave x parent ys → Well ys
    → Well (with_below parent place (x ∷ inside) ys)
below-well parent place x inside own deep [] m w = tt
below-well parent place x inside own deep (y ∷ ys) m w = by (y.number == parent) refl (below-linked parent place x inside own deep y ys m.1 w.1)
  where
    same : (a c : ℕ) → (a == c) ≡ true → a ≡ c
    same a c e = grind (arith, nat_tests, e)

    by : (b : Bool) → (y.number == parent) ≡ b → Linked y (with_below parent place (x ∷ inside) ys)
        → Well (cond b (y ∷ with_part (suc y.depth) place (x ∷ inside) ys) (y ∷ with_below parent place (x ∷ inside) ys))
    by true e rest = (w.0, part-linked place y x inside ys (m.0 (same y.number parent e)) own deep w.1)
    by false e rest = (w.0, rest)

-- ---- numbers and tests

times-at : (k place : ℕ) (n : ℕ) (here_ : List Node) (later : ℕ → List Node) → times k here_ ≡ n → ((left : ℕ) → times k (later left) ≡ n) → times k (at_place place here_ later) ≡ n
times-at k zero n here_ later h f = h
times-at k (suc left) n here_ later h f = f left

times-child : (k d place : ℕ) (moved ys : List Node) → times k (with_child d place moved ys) ≡ times k moved + times k ys
times-child k d place moved [] = omega arith
times-child k d place moved (y ∷ ys) = by (nat_lt y.depth d) (nat_lt d y.depth || is_attribute y.content) (λ left. times-child k d left moved ys)
  where
    front : times k (moved ++ y ∷ ys) ≡ times k moved + times k (y ∷ ys)
    front = times-append k moved (y ∷ ys)

    more : (l : List Node) → times k l ≡ times k moved + times k ys → times k (y ∷ l) ≡ times k moved + times k (y ∷ ys)
    more l e = omega (arith, e)

    by : (b c : Bool) → ((left : ℕ) → times k (with_child d left moved ys) ≡ times k moved + times k ys)
        → times k (cond b (moved ++ y ∷ ys) (cond c (y ∷ with_child d place moved ys) (at_place place (moved ++ y ∷ ys) (λ left. y ∷ with_child d left moved ys)))) ≡ times k moved + times k (y ∷ ys)
    by true c rest = front
    by false true rest = more (with_child d place moved ys) (rest place)
    by false false rest = times-at k place (times k moved + times k (y ∷ ys)) (moved ++ y ∷ ys) (λ left. y ∷ with_child d left moved ys) front (λ left. more (with_child d left moved ys) (rest left))

times-attribute : (k d place : ℕ) (moved ys : List Node) → times k (with_attribute d place moved ys) ≡ times k moved + times k ys
times-attribute k d place moved [] = omega arith
times-attribute k d place moved (y ∷ ys) = by ((y.depth == d) && is_attribute y.content) (λ left. times-attribute k d left moved ys)
  where
    front : times k (moved ++ y ∷ ys) ≡ times k moved + times k (y ∷ ys)
    front = times-append k moved (y ∷ ys)

    more : (l : List Node) → times k l ≡ times k moved + times k ys → times k (y ∷ l) ≡ times k moved + times k (y ∷ ys)
    more l e = omega (arith, e)

    by : (b : Bool) → ((left : ℕ) → times k (with_attribute d left moved ys) ≡ times k moved + times k ys)
        → times k (cond b (at_place place (moved ++ y ∷ ys) (λ left. y ∷ with_attribute d left moved ys)) (moved ++ y ∷ ys)) ≡ times k moved + times k (y ∷ ys)
    by true rest = times-at k place (times k moved + times k (y ∷ ys)) (moved ++ y ∷ ys) (λ left. y ∷ with_attribute d left moved ys) front (λ left. more (with_attribute d left moved ys) (rest left))
    by false rest = front

pub times-part : (k d place : ℕ) (x : Node) (inside ys : List Node) → times k (with_part d place (x ∷ inside) ys) ≡ times k (x ∷ inside) + times k ys
times-part k d place x inside ys = by (is_attribute x.content)
  where
    same : times k (moved_to d (x ∷ inside)) ≡ times k (x ∷ inside)
    same = times-moved k d (x ∷ inside)

    by : (b : Bool) → times k (cond b (with_attribute d place (moved_to d (x ∷ inside)) ys) (with_child d place (moved_to d (x ∷ inside)) ys)) ≡ times k (x ∷ inside) + times k ys
    by true = times-attribute k d place (moved_to d (x ∷ inside)) ys ∙ ap (λ m. m + times k ys) same
    by false = times-child k d place (moved_to d (x ∷ inside)) ys ∙ ap (λ m. m + times k ys) same

pub times-below : (k parent place : ℕ) (x : Node) (inside ys : List Node) → times k (with_below parent place (x ∷ inside) ys) ≤ times k ys + times k (x ∷ inside)
times-below k parent place x inside [] = omega arith
times-below k parent place x inside (y ∷ ys) = by (y.number == parent) (times-below k parent place x inside ys)
  where
    by : (b : Bool) → times k (with_below parent place (x ∷ inside) ys) ≤ times k ys + times k (x ∷ inside)
        → times k (cond b (y ∷ with_part (suc y.depth) place (x ∷ inside) ys) (y ∷ with_below parent place (x ∷ inside) ys)) ≤ times k (y ∷ ys) + times k (x ∷ inside)
    by true rest = let e = times-part k (suc y.depth) place x inside ys in omega (arith, e)
    by false rest = omega (arith, rest)

module _ (test : Node → Bool) where
  all-at : (place : ℕ) (here_ : List Node) (later : ℕ → List Node) → list_all test here_ ≡ true → ((left : ℕ) → list_all test (later left) ≡ true) → list_all test (at_place place here_ later) ≡ true
  all-at zero here_ later h f = h
  all-at (suc left) here_ later h f = f left

  all-child : (d place : ℕ) (moved ys : List Node) → list_all test moved ≡ true → list_all test ys ≡ true → list_all test (with_child d place moved ys) ≡ true
  all-child d place moved [] h q = h
  all-child d place moved (y ∷ ys) h q = by (nat_lt y.depth d) (nat_lt d y.depth || is_attribute y.content) (λ left. all-child d left moved ys h parts.1)
    where
      parts : (test y ≡ true) × (list_all test ys ≡ true)
      parts = and-true (test y) (list_all test ys) q

      front : list_all test (moved ++ y ∷ ys) ≡ true
      front = all-append test moved (y ∷ ys) h q

      by : (b c : Bool) → ((left : ℕ) → list_all test (with_child d left moved ys) ≡ true)
          → list_all test (cond b (moved ++ y ∷ ys) (cond c (y ∷ with_child d place moved ys) (at_place place (moved ++ y ∷ ys) (λ left. y ∷ with_child d left moved ys)))) ≡ true
      by true c rest = front
      by false true rest = both-true (test y) (list_all test (with_child d place moved ys)) parts.0 (rest place)
      by false false rest = all-at place (moved ++ y ∷ ys) (λ left. y ∷ with_child d left moved ys) front (λ left. both-true (test y) (list_all test (with_child d left moved ys)) parts.0 (rest left))

  all-attribute : (d place : ℕ) (moved ys : List Node) → list_all test moved ≡ true → list_all test ys ≡ true → list_all test (with_attribute d place moved ys) ≡ true
  all-attribute d place moved [] h q = h
  all-attribute d place moved (y ∷ ys) h q = by ((y.depth == d) && is_attribute y.content) (λ left. all-attribute d left moved ys h parts.1)
    where
      parts : (test y ≡ true) × (list_all test ys ≡ true)
      parts = and-true (test y) (list_all test ys) q

      front : list_all test (moved ++ y ∷ ys) ≡ true
      front = all-append test moved (y ∷ ys) h q

      by : (b : Bool) → ((left : ℕ) → list_all test (with_attribute d left moved ys) ≡ true)
          → list_all test (cond b (at_place place (moved ++ y ∷ ys) (λ left. y ∷ with_attribute d left moved ys)) (moved ++ y ∷ ys)) ≡ true
      by true rest = all-at place (moved ++ y ∷ ys) (λ left. y ∷ with_attribute d left moved ys) front (λ left. both-true (test y) (list_all test (with_attribute d left moved ys)) parts.0 (rest left))
      by false rest = front

  all-part : (d place : ℕ) (x : Node) (inside ys : List Node) → list_all test (moved_to d (x ∷ inside)) ≡ true → list_all test ys ≡ true → list_all test (with_part d place (x ∷ inside) ys) ≡ true
  all-part d place x inside ys h q = by (is_attribute x.content)
    where
      by : (b : Bool) → list_all test (cond b (with_attribute d place (moved_to d (x ∷ inside)) ys) (with_child d place (moved_to d (x ∷ inside)) ys)) ≡ true
      by true = all-attribute d place (moved_to d (x ∷ inside)) ys h q
      by false = all-child d place (moved_to d (x ∷ inside)) ys h q

  pub all-with : (parent place : ℕ) (x : Node) (inside ys : List Node) → ((d : ℕ) → list_all test (moved_to d (x ∷ inside)) ≡ true) → list_all test ys ≡ true
      → list_all test (with_below parent place (x ∷ inside) ys) ≡ true
  all-with parent place x inside [] h q = refl
  all-with parent place x inside (y ∷ ys) h q = by (y.number == parent) (all-with parent place x inside ys h parts.1)
    where
      parts : (test y ≡ true) × (list_all test ys ≡ true)
      parts = and-true (test y) (list_all test ys) q

      by : (b : Bool) → list_all test (with_below parent place (x ∷ inside) ys) ≡ true
          → list_all test (cond b (y ∷ with_part (suc y.depth) place (x ∷ inside) ys) (y ∷ with_below parent place (x ∷ inside) ys)) ≡ true
      by true rest = both-true (test y) (list_all test (with_part (suc y.depth) place (x ∷ inside) ys)) parts.0 (all-part (suc y.depth) place x inside ys (h (suc y.depth)) parts.1)
      by false rest = both-true (test y) (list_all test (with_below parent place (x ∷ inside) ys)) parts.0 rest

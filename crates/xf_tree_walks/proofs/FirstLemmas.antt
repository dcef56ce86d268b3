-- Attributes stand first: lists in parts, with other depths, and with a tree less.
use Rattle.std.proofs.Common.{◌≡◌, ℕ, suc, ◌+◌, ◌-◌, ◌<◌, ◌≤◌, ◌⊎◌, true, false, List, [], ◌∷◌, ◌++◌, map, refl, sym, ◌∙◌, inl, inr, arith}
use Rattle.std.proofs.lemmas.Bool.{false≢true}
use Rattle.xf_def_forest.specs.declared.content.Node.{Node}
use Rattle.xf_def_forest.specs.declared.content.Content.{Content}
use Rattle.xf_def_forest.specs.declared.content.Content.TheVariants.{Root, Element, Attribute, Text}
use Rattle.xf_def_forest.specs.Forest.{is_attribute}
use Rattle.xf_def_forest.specs.Changes.{shifted}
use Rattle.xf_tree_walks.specs.Leaves.{parts_in, NotDeeper}
use Rattle.xf_tree_walks.specs.First.{attribute_depth, AreFirst, AllFrom}

abbrev fsts : List (ℕ × Content) → List ℕ
fsts ps = map (λ (p : ℕ × Content). p.0) ps

-- how deep an attribute stands right behind all of these
abbrev pub depth_behind : ℕ → List (ℕ × Content) → ℕ
depth_behind depth [] = depth
depth_behind depth (p ∷ ps) = depth_behind (attribute_depth p.0 p.1) ps

pub first-append : (d : ℕ) (xs ys : List (ℕ × Content)) → AreFirst d xs → AreFirst (depth_behind d xs) ys → AreFirst d (xs ++ ys)
first-append d [] ys a b = b
first-append d (x ∷ xs) ys a b = (a.0, first-append (attribute_depth x.0 x.1) xs ys a.1 b)

pub first-parts : (d : ℕ) (xs ys : List (ℕ × Content)) → AreFirst d (xs ++ ys) → AreFirst d xs × AreFirst (depth_behind d xs) ys
first-parts d [] ys a = (tt, a)
first-parts d (x ∷ xs) ys a = let i = first-parts (attribute_depth x.0 x.1) xs ys a.1 in ((a.0, i.0), i.1)

-- what begins with no attribute but a top stands behind anything
pub first-anywhere : (d : ℕ) (xs : List (ℕ × Content)) → AreFirst 0 xs → AreFirst d xs
first-anywhere d [] a = tt
first-anywhere d (x ∷ xs) a = ((λ is deep. absurd (let e = a.0 is deep in let w : ⊥ = omega arith in w)), a.1)

-- so does what begins with a top
pub first-top : (d e : ℕ) (xs : List (ℕ × Content)) → NotDeeper 0 xs → AreFirst e xs → AreFirst d xs
first-top d e [] top a = tt
first-top d e (x ∷ xs) top a = ((λ is deep. absurd (let w : ⊥ = omega arith in w)), a.1)

-- the first of these, where there is one, is no attribute
abbrev pub BeginsPlain : List (ℕ × Content) → Type 0
BeginsPlain [] = Unit {0}
BeginsPlain (p ∷ ps) = is_attribute p.1 ≡ false

pub first-plain : (d e : ℕ) (xs : List (ℕ × Content)) → BeginsPlain xs → AreFirst d xs → AreFirst e xs
first-plain d e [] plain a = tt
first-plain d e (x ∷ xs) plain a = ((λ is pos. absurd (false≢true (sym plain ∙ is))), a.1)

-- behind what is this deep no attribute is less deep
pub behind-deep : (low e : ℕ) (c : Content) → low ≤ e → (attribute_depth e c ≡ 0) ⊎ (low ≤ attribute_depth e c)
behind-deep low e Root h = inl refl
behind-deep low e (Element name) h = inr (omega arith)
behind-deep low e (Attribute name text) h = inr h
behind-deep low e (Text text) h = inl refl

all-behind_deep : (low d : ℕ) (xs : List (ℕ × Content)) → (d ≡ 0) ⊎ (low ≤ d) → AllFrom low (fsts xs) → (depth_behind d xs ≡ 0) ⊎ (low ≤ depth_behind d xs)
all-behind_deep low d [] h deep = h
all-behind_deep low d (x ∷ xs) h deep = all-behind_deep low (attribute_depth x.0 x.1) xs (behind-deep low x.0 x.1 deep.0) deep.1

-- what is less deep than all these begins with no attribute but a top
pub first-low : (low d : ℕ) (xs ys : List (ℕ × Content)) → (d ≡ 0) ⊎ (low ≤ d) → AllFrom low (fsts xs) → AreFirst (depth_behind d xs) ys → (q : ℕ) → q < low → NotDeeper q ys → AreFirst 0 ys
first-low low d xs [] h deep a q l less = tt
first-low low d xs (y ∷ ys) h deep a q l less = (
  (λ is pos. absurd (let e = a.0 is pos in let w : ⊥ = elim (all-behind_deep low d xs h deep) [ inl z ↦ omega arith | inr m ↦ omega arith ] in w)),
  a.1,
)

-- behind a tree an attribute stands as before it
first-past : (d : ℕ) (t : ℕ × Content) (ts ys : List (ℕ × Content)) → AreFirst d ((t ∷ ts) ++ ys) → AllFrom (suc t.0) (fsts ts) → NotDeeper t.0 ys → AreFirst d ys
first-past d t [] [] a deep n = tt
first-past d t [] (y ∷ ys) a deep n = ((λ is pos. behind t.0 t.1 y.0 a.0 (a.1.0 is pos) pos n), a.1.1)
  where
    behind : (e : ℕ) (c : Content) (f : ℕ) → (is_attribute c ≡ true → 0 < e → e ≡ d) → f ≡ attribute_depth e c → 0 < f → f ≤ e → f ≡ d
    behind e Root f top is pos less = absurd (omega arith)
    behind e (Element name) f top is pos less = absurd (omega arith)
    behind e (Attribute name text) f top is pos less = (let g : e ≡ d = top refl (omega arith) in omega arith)
    behind e (Text text) f top is pos less = absurd (omega arith)
first-past d t (z ∷ zs) ys a deep n =
    let p = first-parts (attribute_depth t.0 t.1) (z ∷ zs) ys a.1 in
    let low : t.0 < suc t.0 = omega arith in
    first-anywhere d ys (first-low (suc t.0) (attribute_depth z.0 z.1) zs ys (behind-deep (suc t.0) z.0 z.1 deep.0) deep.1 p.1 t.0 low n)

-- without a tree
pub first-without : (d : ℕ) (us : List (ℕ × Content)) (t : ℕ × Content) (ts ys : List (ℕ × Content)) → AreFirst d (us ++ ((t ∷ ts) ++ ys)) → AllFrom (suc t.0) (fsts ts) → NotDeeper t.0 ys
    → AreFirst d (us ++ ys) × AreFirst (depth_behind d us) (t ∷ ts)
first-without d us t ts ys a deep n =
    let one = first-parts d us ((t ∷ ts) ++ ys) a in
    (first-append d us ys one.0 (first-past (depth_behind d us) t ts ys one.1 deep n), (first-parts (depth_behind d us) (t ∷ ts) ys one.1).0)

-- ---- a tree with other depths

abbrev pub AllBelow : ℕ → List Node → Type 0
AllBelow d [] = Unit {0}
AllBelow d (x ∷ xs) = (d < x.depth) × AllBelow d xs

below-shifted : (from to e : ℕ) (c : Content) (xs : List Node) → from ≤ e → AllBelow from xs → AreFirst (attribute_depth e c) (parts_in xs)
    → AreFirst (attribute_depth (to + (e - from)) c) (parts_in (map (shifted from to) xs))
below-shifted from to e c [] h deep a = tt
below-shifted from to e c (x ∷ xs) h deep a = (
  (λ is pos. same c (a.0 is (omega (arith, deep.0)))),
  below-shifted from to x.depth x.content xs (omega (arith, deep.0)) deep.1 a.1,
)
  where
    same : (c : Content) → x.depth ≡ attribute_depth e c → to + (x.depth - from) ≡ attribute_depth (to + (e - from)) c
    same Root is = absurd (let l = deep.0 in omega arith)
    same (Element name) is = omega (arith, deep.0)
    same (Attribute name text) is = omega arith
    same (Text text) is = absurd (let l = deep.0 in omega arith)

-- a tree whose top stands where it may
pub first-shifted : (from to d e : ℕ) (x : Node) (xs : List Node) → (is_attribute x.content ≡ true → 0 < to + (x.depth - from) → to + (x.depth - from) ≡ e) → from ≤ x.depth → AllBelow from xs
    → AreFirst d (parts_in (x ∷ xs)) → AreFirst e (parts_in (map (shifted from to) (x ∷ xs)))
first-shifted from to d e x xs top h deep a = (top, below-shifted from to x.depth x.content xs h deep a.1)

-- ---- attributes of one depth

abbrev pub AllAttributes : List Content → Type 0
AllAttributes [] = Unit {0}
AllAttributes (c ∷ cs) = (is_attribute c ≡ true) × AllAttributes cs

pub attribute-behind : (d : ℕ) (c : Content) → is_attribute c ≡ true → attribute_depth d c ≡ d
attribute-behind d Root is = absurd (false≢true is)
attribute-behind d (Element name) is = absurd (false≢true is)
attribute-behind d (Attribute name text) is = refl
attribute-behind d (Text text) is = absurd (false≢true is)

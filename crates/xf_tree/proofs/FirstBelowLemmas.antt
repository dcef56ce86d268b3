-- Attributes stand first: a content for another, and what stands below a node for what stood there.
use Rattle.std.proofs.Common.{◌≡◌, ℕ, suc, ◌+◌, ◌<◌, ◌≤◌, ◌⊎◌, true, false, List, [], ◌∷◌, ◌++◌, map, refl, sym, ◌∙◌, subst, inl, inr, arith}
use Rattle.std.specs.Prelude.{filter}
use Rattle.std.proofs.lemmas.Bool.{cases_Bool, true≢false, false≢true}
use Rattle.slab.specs.Slab.{Slab, get}
use Rattle.xf_def_forest.specs.declared.content.Node.{Node}
use Rattle.xf_def_forest.specs.declared.content.Content.{Content}
use Rattle.xf_def_forest.specs.declared.content.Content.TheVariants.{Root, Element, Attribute, Text}
use Rattle.xf_def_forest.specs.Forest.{is_element, is_attribute, is_text}
use Rattle.xf_def_forest.specs.Texts.{at_depth}
use Rattle.xf_tree_rows.specs.declared.rows.Row.{Row}
use Rattle.xf_tree_contents.specs.Slot.{Slot}
use Rattle.xf_tree_contents.specs.Keys.{content_in}
use Rattle.xf_tree_walks.specs.Leaves.{parts_in, NotDeeper}
use Rattle.xf_tree_walks.specs.First.{attribute_depth, AreFirst, AllFrom}
use Rattle.xf_tree_walks.specs.Nodes.{node_of}
use Rattle.xf_tree_walks.proofs.FirstLemmas.{depth_behind, first-append, first-parts, first-anywhere, first-low, attribute-behind}
use Rattle.xf_tree_changes.specs.Texts.{AreAt}
use Rattle.xf_tree.proofs.UnsizedLemmas.{AreTextNodes}

-- a content for another, where both are attributes or neither is, and an attribute stands as deep behind both
pub first-changed : (e : ℕ) (us : List (ℕ × Content)) (d : ℕ) (c c2 : Content) (xs : List (ℕ × Content)) → is_attribute c2 ≡ is_attribute c → attribute_depth d c2 ≡ attribute_depth d c
    → AreFirst e (us ++ ((d, c) ∷ xs)) → AreFirst e (us ++ ((d, c2) ∷ xs))
first-changed e [] d c c2 xs same behind a = ((λ is. a.0 (sym same ∙ is)), subst (λ k. AreFirst k xs) (sym behind) a.1)
first-changed e (u ∷ us) d c c2 xs same behind a = (a.0, first-changed (attribute_depth u.0 u.1) us d c c2 xs same behind a.1)

-- behind the tree of what is no attribute stands none but a top
pub first-after : (p : ℕ × Content) (zs ys : List (ℕ × Content)) → is_attribute p.1 ≡ false → AllFrom (suc p.0) (map (λ (q : ℕ × Content). q.0) zs) → NotDeeper p.0 ys → AreFirst (attribute_depth p.0 p.1) (zs ++ ys) → AreFirst 0 ys
first-after p zs ys plain deep n a =
    let low : p.0 < suc p.0 = omega arith in
    first-low (suc p.0) (attribute_depth p.0 p.1) zs ys (no_attribute p.0 p.1 plain) deep (first-parts (attribute_depth p.0 p.1) zs ys a).1 p.0 low n
  where
    no_attribute : (e : ℕ) (c : Content) → is_attribute c ≡ false → (attribute_depth e c ≡ 0) ⊎ (suc e ≤ attribute_depth e c)
    no_attribute e Root plain = inl refl
    no_attribute e (Element name) plain = inr (omega arith)
    no_attribute e (Attribute name text) plain = absurd (true≢false plain)
    no_attribute e (Text text) plain = inl refl

-- other nodes in place of those below a node
pub first-below : (e : ℕ) (us : List (ℕ × Content)) (p : ℕ × Content) (zs ws ys : List (ℕ × Content)) → is_attribute p.1 ≡ false → AllFrom (suc p.0) (map (λ (q : ℕ × Content). q.0) zs) → NotDeeper p.0 ys
    → AreFirst e (us ++ (p ∷ (zs ++ ys))) → AreFirst (attribute_depth p.0 p.1) ws → AreFirst e (us ++ (p ∷ (ws ++ ys)))
first-below e us p zs ws ys plain deep n a new =
    let w = first-parts e us (p ∷ (zs ++ ys)) a in
    let own = attribute_depth p.0 p.1 in
    first-append e us (p ∷ (ws ++ ys)) w.0 (w.1.0, first-append own ws ys new (first-anywhere (depth_behind own ws) ys (first-after p zs ys plain deep n w.1.1)))

-- ---- attributes of one depth, and then what is none

abbrev pub AllAt : ℕ → List ℕ → Type 0
AllAt d [] = Unit {0}
AllAt d (e ∷ es) = (e ≡ d) × AllAt d es

abbrev pub NoneAttributes : List (ℕ × Content) → Type 0
NoneAttributes [] = Unit {0}
NoneAttributes (p ∷ ps) = (is_attribute p.1 ≡ false) × NoneAttributes ps

pub first-none : (d : ℕ) (ps : List (ℕ × Content)) → NoneAttributes ps → AreFirst d ps
first-none d [] none = tt
first-none d (p ∷ ps) none = ((λ is. absurd (true≢false (sym is ∙ none.0))), first-none (attribute_depth p.0 p.1) ps none.1)

pub first-filtered : (s : Slab Slot) (d : ℕ) (rows : List Row) → AllAt d (map (λ (r : Row). r.depth) rows)
    → AreFirst d (parts_in (map (node_of s) (filter (λ (r : Row). is_attribute (content_in (get s r.key))) rows)))
first-filtered s d [] all = tt
first-filtered s d (r ∷ rs) all =
    let c = content_in (get s r.key) in
    elim (cases_Bool (is_attribute c)) [
      | inl is ↦ rw is ((λ e pos. all.0), subst (λ k. AreFirst k (parts_in (map (node_of s) (filter (λ (r : Row). is_attribute (content_in (get s r.key))) rs)))) (sym (attribute-behind r.depth c is ∙ all.0)) (first-filtered s d rs all.1))
      | inr other ↦ rw other (first-filtered s d rs all.1)
    ]

-- attributes of this depth, and then nodes that are none
pub first-attributes_and : (s : Slab Slot) (d : ℕ) (rows : List Row) (ps : List (ℕ × Content)) → AllAt d (map (λ (r : Row). r.depth) rows) → NoneAttributes ps
    → AreFirst d (parts_in (map (node_of s) (filter (λ (r : Row). is_attribute (content_in (get s r.key))) rows)) ++ ps)
first-attributes_and s d rows ps all none =
    let own = parts_in (map (node_of s) (filter (λ (r : Row). is_attribute (content_in (get s r.key))) rows)) in
    first-append d own ps (first-filtered s d rows all) (first-none (depth_behind d own) ps none)

-- ---- what stands below an element

pub element-behind : (d : ℕ) (c : Content) → is_element c ≡ true → attribute_depth d c ≡ suc d
element-behind d Root is = absurd (false≢true is)
element-behind d (Element name) is = refl
element-behind d (Attribute name text) is = absurd (false≢true is)
element-behind d (Text text) is = absurd (false≢true is)

pub element-plain : (c : Content) → is_element c ≡ true → is_attribute c ≡ false
element-plain Root is = absurd (false≢true is)
element-plain (Element name) is = refl
element-plain (Attribute name text) is = absurd (false≢true is)
element-plain (Text text) is = absurd (false≢true is)

pub text-plain : (c : Content) → is_text c ≡ true → is_attribute c ≡ false
text-plain Root is = absurd (false≢true is)
text-plain (Element name) is = absurd (false≢true is)
text-plain (Attribute name text) is = absurd (false≢true is)
text-plain (Text text) is = refl

pub texts-plain : (d : ℕ) (ys : List Node) → AreTextNodes ys → NoneAttributes (parts_in (map (at_depth d) ys))
texts-plain d [] texts = tt
texts-plain d (y ∷ ys) texts = (text-plain y.content texts.0, texts-plain d ys texts.1)

pub all-at : (d : ℕ) (rows : List Row) → AreAt (d + 1) rows → AllAt (suc d) (map (λ (r : Row). r.depth) rows)
all-at d [] at = tt
all-at d (r ∷ rs) at = (omega (arith, at.0), all-at d rs at.1)

pub from-at : (s : Slab Slot) (d : ℕ) (rows : List Row) → AreAt (d + 1) rows → AllFrom (suc d) (map (λ (p : ℕ × Content). p.0) (parts_in (map (node_of s) rows)))
from-at s d [] at = tt
from-at s d (r ∷ rs) at = (omega (arith, at.0), from-at s d rs at.1)

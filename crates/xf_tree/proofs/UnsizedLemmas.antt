-- Rows by their keys and depths, attributes and others among them, and what holds of each part.
use Rattle.std.proofs.Common.{◌≡◌, ℕ, suc, ◌+◌, ◌≤◌, Bool, true, false, List, [], ◌∷◌, ◌++◌, map, length, IsSome, refl, sym, ap, ◌∙◌, subst, inl, inr, arith}
use Rattle.std.specs.Prelude.{filter}
use Rattle.std.proofs.lemmas.Bool.{cases_Bool, false≢true}
use Rattle.std.proofs.lemmas.List.{length-map}
use Rattle.slab.specs.Slab.{Slab, get}
use Rattle.xf_def_forest.specs.declared.node.NodeId.{NodeId}
use Rattle.xf_def_forest.specs.declared.content.Node.{Node}
use Rattle.xf_def_forest.specs.declared.content.Content.{Content}
use Rattle.xf_def_forest.specs.declared.content.Content.TheVariants.{Root, Element, Attribute, Text}
use Rattle.xf_def_forest.specs.Forest.{is_root, is_element, is_attribute, is_text, has_number}
use Rattle.xf_def_forest.specs.Texts.{at_depth, with_content, with_texts}
use Rattle.xf_tree_rows.specs.declared.rows.Row.{Row}
use Rattle.xf_tree_rows.specs.Rows.{AreSteps, depths}
use Rattle.xf_tree_contents.specs.Slot.{Slot}
use Rattle.xf_tree_contents.specs.Keys.{number_in, content_in}
use Rattle.xf_tree_contents.proofs.AlikeLemmas.{eq-true}
use Rattle.xf_tree_walks.specs.Leaves.{is_leaf, parts_in, NotDeeper, AreLeaves}
use Rattle.xf_tree_walks.specs.Nodes.{node_of, AllLive, AllTops}
use Rattle.xf_tree_walks.proofs.StackLemmas.{absent-parts}
use Rattle.xf_tree_changes.specs.Trees.{unsized}
use Rattle.xf_tree_changes.specs.Texts.{attributes, children, is_attribute_row, text_row, AreAt}
use Rattle.xf_tree_changes.proofs.SameLemmas.{SameAt}

-- ---- rows by their keys and depths

pub nodes-unsized : (s : Slab Slot) (xs ys : List Row) → map unsized xs ≡ map unsized ys → map (node_of s) xs ≡ map (node_of s) ys
nodes-unsized s xs ys e = sym (through s xs) ∙ ap (map (λ (p : ℕ × ℕ). record { number = number_in (get s p.0); depth = p.1; content = content_in (get s p.0) })) e ∙ through s ys
  where
    through : (s : Slab Slot) (xs : List Row) → map (λ (p : ℕ × ℕ). record { number = number_in (get s p.0); depth = p.1; content = content_in (get s p.0) }) (map unsized xs) ≡ map (node_of s) xs
    through s [] = refl
    through s (x ∷ xs) = ap (λ l. node_of s x ∷ l) (through s xs)

pub depths-unsized : (xs ys : List Row) → map unsized xs ≡ map unsized ys → depths xs ≡ depths ys
depths-unsized xs ys e = sym (through xs) ∙ ap (map (λ (p : ℕ × ℕ). p.1)) e ∙ through ys
  where
    through : (xs : List Row) → map (λ (p : ℕ × ℕ). p.1) (map unsized xs) ≡ depths xs
    through [] = refl
    through (x ∷ xs) = ap (λ l. x.depth ∷ l) (through xs)

abbrev AllKeys : Slab Slot → List (ℕ × ℕ) → Type 0
AllKeys s [] = Unit {0}
AllKeys s (p ∷ ps) = IsSome (get s p.0) × AllKeys s ps

pub live-unsized : (s : Slab Slot) (xs ys : List Row) → map unsized xs ≡ map unsized ys → AllLive s ys → AllLive s xs
live-unsized s xs ys e live = back s xs (subst (AllKeys s) (sym e) (there s ys live))
  where
    there : (s : Slab Slot) (xs : List Row) → AllLive s xs → AllKeys s (map unsized xs)
    there s [] l = tt
    there s (x ∷ xs) l = (l.0, there s xs l.1)

    back : (s : Slab Slot) (xs : List Row) → AllKeys s (map unsized xs) → AllLive s xs
    back s [] l = tt
    back s (x ∷ xs) l = (l.0, back s xs l.1)

pub length-unsized : (xs ys : List Row) → map unsized xs ≡ map unsized ys → length xs ≡ length ys
length-unsized xs ys e = omega (arith, ap length e, length-map xs unsized, length-map ys unsized)

-- ---- attributes and others

pub filter-attributes : (s : Slab Slot) (rows : List Row) → filter (λ (y : Node). is_attribute y.content) (map (node_of s) rows) ≡ map (node_of s) (attributes s rows)
filter-attributes s [] = refl
filter-attributes s (r ∷ rs) =
    let i = filter-attributes s rs in
    elim (cases_Bool (is_attribute_row s r)) [ inl e ↦ rw e (ap (λ l. node_of s r ∷ l) i) | inr e ↦ rw e i ]

pub live-filter : (s : Slab Slot) (p : Row → Bool) (rows : List Row) → AllLive s rows → AllLive s (filter p rows)
live-filter s p [] l = tt
live-filter s p (r ∷ rs) l = let i = live-filter s p rs l.1 in elim (cases_Bool (p r)) [ inl e ↦ rw e (l.0, i) | inr e ↦ rw e i ]

pub tops-filter : (s : Slab Slot) (p : Row → Bool) (rows : List Row) → AllTops (map (node_of s) rows) → AllTops (map (node_of s) (filter p rows))
tops-filter s p [] l = tt
tops-filter s p (r ∷ rs) l = let i = tops-filter s p rs l.1 in elim (cases_Bool (p r)) [ inl e ↦ rw e (l.0, i) | inr e ↦ rw e i ]

pub at-filter : (d : ℕ) (p : Row → Bool) (rows : List Row) → AreAt d rows → AreAt d (filter p rows)
at-filter d p [] a = tt
at-filter d p (r ∷ rs) a = let i = at-filter d p rs a.1 in elim (cases_Bool (p r)) [ inl e ↦ rw e (a.0, i) | inr e ↦ rw e i ]

pub at-append : (d : ℕ) (xs ys : List Row) → AreAt d xs → AreAt d ys → AreAt d (xs ++ ys)
at-append d [] ys a b = b
at-append d (x ∷ xs) ys a b = (a.0, at-append d xs ys a.1 b)

pub at-texts : (d : ℕ) (texts : List NodeId) → AreAt d (map (text_row d) texts)
at-texts d [] = tt
at-texts d (t ∷ ts) = (refl, at-texts d ts)

pub both-length : (s : Slab Slot) (rows : List Row) → length (attributes s rows) + length (children s rows) ≡ length rows
both-length s [] = refl
both-length s (r ∷ rs) =
    let i = both-length s rs in
    elim (cases_Bool (is_attribute_row s r)) [ inl e ↦ rw e (omega (arith, i)) | inr e ↦ rw e (omega (arith, i)) ]

-- what adds up over lists, as numbers of nodes and of bytes do
module _ (f : List Node → ℕ) (adds : (xs ys : List Node) → f (xs ++ ys) ≡ f xs + f ys) where
  pub both-parts : (s : Slab Slot) (rows : List Row) → f (map (node_of s) (attributes s rows)) + f (map (node_of s) (children s rows)) ≡ f (map (node_of s) rows)
  both-parts s [] = let none : f [] ≡ f [] + f [] = adds [] [] in omega arith
  both-parts s (r ∷ rs) =
      let i = both-parts s rs in
      let one = adds (node_of s r ∷ []) (map (node_of s) rs) in
      let a = adds (node_of s r ∷ []) (map (node_of s) (attributes s rs)) in
      let b = adds (node_of s r ∷ []) (map (node_of s) (children s rs)) in
      elim (cases_Bool (is_attribute_row s r)) [ inl e ↦ rw e (omega (arith, i, one, a)) | inr e ↦ rw e (omega (arith, i, one, b)) ]

-- ---- steps and leaves

pub at-steps : (d most : ℕ) (xs : List Row) (rest : List ℕ) → d + 1 ≤ most → AreAt (d + 1) xs → ((more : ℕ) → d ≤ more → AreSteps more rest) → AreSteps most (depths xs ++ rest)
at-steps d most [] rest h a low = low most (omega arith)
at-steps d most (x ∷ xs) rest h a low = (omega (arith, a.0), at-steps d (suc x.depth) xs rest (omega (arith, a.0)) a.1 low)

pub at-leaves : (s : Slab Slot) (d : ℕ) (xs : List Row) (ys : List (ℕ × Content)) → AreAt (d + 1) xs → NotDeeper d ys → AreLeaves ys → AreLeaves (parts_in (map (node_of s) xs) ++ ys)
at-leaves s d [] ys a n l = l
at-leaves s d (x ∷ []) ys a n l = (λ e. deeper_too ys (omega (arith, a.0)) n, l)
  where
    deeper_too : (ys : List (ℕ × Content)) → d ≤ x.depth → NotDeeper d ys → NotDeeper x.depth ys
    deeper_too [] h n = tt
    deeper_too (p ∷ ps) h n = omega arith
at-leaves s d (x ∷ (y ∷ xs)) ys a n l = (λ e. omega (arith, a.0, a.1.0), at-leaves s d (y ∷ xs) ys a.1 n l)

pub element-no_leaf : (c : Content) → is_element c ≡ true → is_leaf c ≡ false
element-no_leaf Root e = refl
element-no_leaf (Element name) e = refl
element-no_leaf (Attribute name text) e = absurd (false≢true e)
element-no_leaf (Text text) e = absurd (false≢true e)

pub text-no_root : (c : Content) → is_text c ≡ true → is_root c ≡ false
text-no_root Root e = absurd (false≢true e)
text-no_root (Element name) e = refl
text-no_root (Attribute name text) e = refl
text-no_root (Text text) e = refl

abbrev pub AreTextNodes : List Node → Type 0
AreTextNodes [] = Unit {0}
AreTextNodes (y ∷ ys) = (is_text y.content ≡ true) × AreTextNodes ys

pub tops-texts : (d : ℕ) (ys : List Node) → AreTextNodes ys → AllTops (map (at_depth d) ys)
tops-texts d [] h = tt
tops-texts d (y ∷ ys) h = (λ e. absurd (false≢true (sym (text-no_root y.content h.0) ∙ e)), tops-texts d ys h.1)

pub texts-go : (n : ℕ) (texts us : List Node) (x : Node) (xs : List Node) → x.number ≡ n → has_number n us ≡ false → with_texts n texts (us ++ (x ∷ xs)) ≡ us ++ (x ∷ with_content x.depth texts xs)
texts-go n texts [] x xs e h = rw (eq-true x.number n e) refl
texts-go n texts (u ∷ us) x xs e h = let q = absent-parts n u us h in rw q.0 (ap (λ l. u ∷ l) (texts-go n texts us x xs e q.1))

pub same-parts : (s s2 : Slab Slot) (xs ys : List Row) → SameAt s s2 (xs ++ ys) → SameAt s s2 xs × SameAt s s2 ys
same-parts s s2 [] ys a = (tt, a)
same-parts s s2 (x ∷ xs) ys a = let i = same-parts s s2 xs ys a.1 in ((a.0, i.0), i.1)

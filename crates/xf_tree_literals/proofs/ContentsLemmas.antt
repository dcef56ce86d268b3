-- The contents of a literal tree, level by level, and that they are those of a tree.
use Rattle.std.proofs.Common.{◌≡◌, ℕ, suc, ◌+◌, ◌≤◌, ◌^◌, ◌==◌, true, false, List, [], ◌∷◌, ◌++◌, map, flat_map, refl, sym, ap, ◌∙◌, subst, inl, inr, arith, append_assoc}
use Rattle.std.specs.Prelude.{◌⊎◌}
use Rattle.std.specs.List.{filter_map}
use Rattle.std.proofs.lemmas.Bool.{cases_Bool, false≢true}
use Rattle.std.proofs.lemmas.List.{map-append}
use Rattle.xf_name.specs.declared.lit.Lit.{Lit}
use Rattle.xf_name.specs.declared.lit.Lit.TheOpen.{Lit-F}
use Rattle.xf_name.specs.declared.lit.Lit.TheFolds.{fold-roll-Lit, fold_out-LitElement, map-Lit, ind-Lit}
use Rattle.xf_name.specs.declared.lit.Lit.TheViews.{roll-Lit}
use Rattle.xf_name.specs.declared.lit.LitElement.{LitElement}
use Rattle.xf_name.specs.declared.lit.Lit.TheVariants as lit
use Rattle.xf_name.specs.Bindings.{Bindings, resolved}
use Rattle.xf_def_forest.specs.declared.content.Content.{Content}
use Rattle.xf_def_forest.specs.declared.content.Content.TheVariants.{Root, Element, Attribute, Text}
use Rattle.xf_def_forest.specs.Forest.{is_root, is_attribute}
use Rattle.xf_def_forest.specs.Limits.{size_of}
use Rattle.xf_def_forest.specs.Plant.{Contents, lit_contents, element_contents, contents_of, text_contents, at_depth, in_order, attribute_in, default_below, element_name}
use Rattle.xf_tree_rows.specs.Rows.{AreSteps}
use Rattle.xf_tree_walks.specs.First.{AllFrom, attribute_depth, AreFirst}
use Rattle.xf_tree_walks.specs.Leaves.{is_leaf, NotDeeper}
use Rattle.xf_tree_walks.specs.Nodes.{AllPlain}
use Rattle.xf_tree_walks.proofs.StepLemmas.{most_after, steps-append}
use Rattle.xf_tree_walks.proofs.LeafLemmas.{leaves-append, steps-not_deeper}
use Rattle.xf_tree_walks.proofs.FirstLemmas.{AllAttributes, BeginsPlain, attribute-behind, depth_behind, first-append, first-plain}
use Rattle.xf_tree_literals.specs.Contents.{contents_of_element, contents_of_all, IsPart, AllSmall}

contents-Text : (b : Bindings) (text : List ℕ) → contents_of b (lit.Text text) ≡ text_contents text
contents-Text b text = ap (contents_of b) (sym (lit.rolls-Text text)) ∙ fold-roll-Lit Contents Contents lit_contents (element_contents b) (Lit-F.Text text)

contents-Element : (b : Bindings) (e : LitElement) → contents_of b (lit.Element e) ≡ contents_of_element b e
contents-Element b e = ap (contents_of b) (sym (lit.rolls-Element e)) ∙ fold-roll-Lit Contents Contents lit_contents (element_contents b) (Lit-F.Element e)

all-map : (b : Bindings) (xs : List Lit) (space depth : ℕ) → flat_map (λ child. child space depth) (map (contents_of b) xs) ≡ contents_of_all b xs space depth
all-map b [] space depth = refl
all-map b (x ∷ xs) space depth = ap (λ cs. contents_of b x space depth ++ cs) (all-map b xs space depth)

contents_of_element-is : (b : Bindings) (e : LitElement) (space depth : ℕ)
    → contents_of_element b e space depth
    ≡ ((depth, Element (element_name b (resolved b e.name (default_below b space e.attributes)))) ∷ at_depth (suc depth) (in_order (filter_map (attribute_in b) e.attributes)))
    ++ contents_of_all b e.children (default_below b space e.attributes) (suc depth)
contents_of_element-is b e space depth =
    let own = default_below b space e.attributes in
    let first = (depth, Element (element_name b (resolved b e.name own))) ∷ at_depth (suc depth) (in_order (filter_map (attribute_in b) e.attributes)) in
    ap (λ w. w space depth) (fold_out-LitElement Contents Contents lit_contents (element_contents b) e) ∙ ap (λ cs. first ++ cs) (all-map b e.children own (suc depth))

-- the contents of a text are the same below any namespace
text-anywhere : (text : List ℕ) (space depth : ℕ) → text_contents text 0 depth ≡ text_contents text space depth
text-anywhere [] space depth = refl
text-anywhere (c ∷ cs) space depth = refl

pub text-contents : (b : Bindings) (x : Lit) (text word : List ℕ) (space depth : ℕ) → x ≡ lit.Text text → word ≡ text → text_contents word 0 depth ≡ contents_of b x space depth
text-contents b x text word space depth is same =
    ap (λ w. text_contents w 0 depth) same ∙ text-anywhere text space depth ∙ sym (ap (λ w. w space depth) (ap (contents_of b) is ∙ contents-Text b text))

pub element-contents : (b : Bindings) (x : Lit) (e : LitElement) (space depth : ℕ) → x ≡ lit.Element e → contents_of_element b e space depth ≡ contents_of b x space depth
element-contents b x e space depth is = sym (ap (λ w. w space depth) (ap (contents_of b) is ∙ contents-Element b e))

-- ---- parts of a tree

abbrev fsts : List (ℕ × Content) → List ℕ
fsts cs = map (λ p. p.0) cs

pub part-none : (d : ℕ) → IsPart d []
part-none d = record { steps = λ most h. tt; deep = tt; plain = tt; leaves = tt; first = tt }

from-append : (d : ℕ) (xs ys : List ℕ) → AllFrom d xs → AllFrom d ys → AllFrom d (xs ++ ys)
from-append d [] ys p q = q
from-append d (x ∷ xs) ys p q = (p.0, from-append d xs ys p.1 q)

plain-append : (xs ys : List (ℕ × Content)) → AllPlain xs → AllPlain ys → AllPlain (xs ++ ys)
plain-append [] ys p q = q
plain-append (x ∷ xs) ys p q = (p.0, p.1, plain-append xs ys p.2 q)

after-deep : (d most : ℕ) (xs : List ℕ) → AllFrom d xs → d ≤ most → d ≤ most_after most xs
after-deep d most [] p h = h
after-deep d most (x ∷ xs) p h = after-deep d (suc x) xs p.1 (omega (arith, p.0))

-- the second begins with no attribute
pub part-append : (d : ℕ) (xs ys : List (ℕ × Content)) → IsPart d xs → IsPart d ys → BeginsPlain ys → IsPart d (xs ++ ys)
part-append d xs ys p q plain =
    let e : fsts (xs ++ ys) ≡ fsts xs ++ fsts ys = map-append (λ (p : ℕ × Content). p.0) xs ys in
    let same : d ≤ d = omega arith in
    record {
      steps = λ most h. subst (AreSteps most) (sym e) (steps-append most (fsts xs) (fsts ys) (p.steps most h) (q.steps (most_after most (fsts xs)) (after-deep d most (fsts xs) p.deep h)));
      deep = subst (AllFrom d) (sym e) (from-append d (fsts xs) (fsts ys) p.deep q.deep);
      plain = plain-append xs ys p.plain q.plain;
      leaves = leaves-append d xs ys p.deep (steps-not_deeper d ys (q.steps d same)) p.leaves q.leaves;
      first = first-append d xs ys p.first (first-plain d (depth_behind d xs) ys plain q.first);
    }

from-less : (d e : ℕ) (xs : List ℕ) → d ≤ e → AllFrom e xs → AllFrom d xs
from-less d e [] h p = tt
from-less d e (x ∷ xs) h p = (omega (arith, p.0), from-less d e xs h p.1)

-- a node with what is below it, where it is no leaf
pub part-below : (d e : ℕ) (content : Content) (xs : List (ℕ × Content)) → e ≡ d + 1 → is_root content ≡ false → (is_leaf content ≡ true → NotDeeper d xs) → size_of content ≤ 2 ^ 66 → IsPart e xs
    → AreFirst (attribute_depth d content) xs → IsPart d ((d, content) ∷ xs)
part-below d e content xs same plain alone small p below =
    let deep : d ≤ e = omega arith in
    let top : e ≤ suc d = omega arith in
    record {
      steps = λ most h. (h, p.steps (suc d) top);
      deep = (omega arith, from-less d e (fsts xs) deep p.deep);
      plain = (plain, small, p.plain);
      leaves = (alone, p.leaves);
      first = ((λ is pos. refl), below);
    }

attribute-rootless : (c : Content) → is_attribute c ≡ true → is_root c ≡ false
attribute-rootless Root is = absurd (false≢true is)
attribute-rootless (Element name) is = refl
attribute-rootless (Attribute name text) is = refl
attribute-rootless (Text text) is = refl

pub part-attributes : (d : ℕ) (cs : List Content) → AllAttributes cs → AllSmall cs → IsPart d (at_depth d cs)
part-attributes d [] all small = part-none d
part-attributes d (c ∷ cs) all small =
    let p = part-attributes d cs all.1 small.1 in
    let next : d ≤ suc d = omega arith in
    let same : d ≤ d = omega arith in
    record {
      steps = λ most h. (h, p.steps (suc d) next);
      deep = (same, p.deep);
      plain = (attribute-rootless c all.0, small.0, p.plain);
      leaves = (λ e. steps-not_deeper d (at_depth d cs) (p.steps d same), p.leaves);
      first = ((λ is pos. refl), subst (λ e. AreFirst e (at_depth d cs)) (sym (attribute-behind d c all.0)) p.first);
    }

-- children are no attributes

abbrev LitCase : Lit → Type 0
LitCase x = ((t : List ℕ) × (x ≡ lit.Text t)) ⊎ ((e : LitElement) × (x ≡ lit.Element e))

abbrev Any : LitElement → Type 0
Any e = Unit {0}

lit_case : (y : Lit-F ((x : Lit) × LitCase x) ((e : LitElement) × Any e)) → LitCase (roll-Lit (map-Lit ((x : Lit) × LitCase x) ((e : LitElement) × Any e) Lit LitElement (λ c. c.0) (λ c. c.0) y))
lit_case (Lit-F.Text t) = inl (t, lit.rolls-Text t)
lit_case (Lit-F.Element e) = inr (e.0, lit.rolls-Element e.0)

lit_cases : (x : Lit) → LitCase x
lit_cases = ind-Lit LitCase Any (λ x y is. subst (λ z. LitCase (roll-Lit z)) is (lit_case y)) (λ x y is. tt)

pub text-plain : (text : List ℕ) (space depth : ℕ) (ys : List (ℕ × Content)) → BeginsPlain ys → BeginsPlain (text_contents text space depth ++ ys)
text-plain [] space depth ys h = elim (cases_Bool (depth == 0)) [ inl e ↦ rw e refl | inr e ↦ rw e h ]
text-plain (c ∷ cs) space depth ys h = refl

pub children-plain : (b : Bindings) (xs : List Lit) (space depth : ℕ) → BeginsPlain (contents_of_all b xs space depth)
children-plain b [] space depth = tt
children-plain b (x ∷ xs) space depth =
    let rest = contents_of_all b xs space depth in
    elim (lit_cases x) [
      | inl h ↦ subst (λ w. BeginsPlain (w space depth ++ rest)) (sym (ap (contents_of b) h.1 ∙ contents-Text b h.0)) (text-plain h.0 space depth rest (children-plain b xs space depth))
      | inr h ↦ subst (λ l. BeginsPlain (l ++ rest)) (sym (ap (λ w. w space depth) (ap (contents_of b) h.1 ∙ contents-Element b h.0) ∙ contents_of_element-is b h.0 space depth)) refl
    ]

-- an element with its attributes and what is below it
pub part-element : (b : Bindings) (e : LitElement) (space depth below : ℕ) (content : Content) → below ≡ depth + 1
    → content ≡ Element (element_name b (resolved b e.name (default_below b space e.attributes))) → size_of content ≤ 2 ^ 66
    → IsPart below (at_depth below (in_order (filter_map (attribute_in b) e.attributes))) → IsPart below (contents_of_all b e.children (default_below b space e.attributes) below)
    → IsPart depth (contents_of_element b e space depth)
part-element b e space depth below content same is small attributes children =
    let own = default_below b space e.attributes in
    let next : below ≡ suc depth = omega arith in
    let attrs = at_depth below (in_order (filter_map (attribute_in b) e.attributes)) in
    let parts = part-append below attrs (contents_of_all b e.children own below) attributes children (children-plain b e.children own below) in
    let root : is_root content ≡ false = ap is_root is in
    let behind : attribute_depth depth content ≡ below = ap (attribute_depth depth) is ∙ sym next in
    let whole = part-below depth below content _ same root (λ leaf. absurd (false≢true (sym (ap is_leaf is) ∙ leaf))) small parts (subst (λ d. AreFirst d (attrs ++ contents_of_all b e.children own below)) (sym behind) parts.first) in
    let e1 : ((depth, content) ∷ at_depth below (in_order (filter_map (attribute_in b) e.attributes))) ++ contents_of_all b e.children own below ≡ contents_of_element b e space depth =
    ap (λ c. ((depth, c) ∷ at_depth below (in_order (filter_map (attribute_in b) e.attributes))) ++ contents_of_all b e.children own below) is
    ∙ ap (λ d. ((depth, Element (element_name b (resolved b e.name own))) ∷ at_depth d (in_order (filter_map (attribute_in b) e.attributes))) ++ contents_of_all b e.children own d) next
    ∙ sym (contents_of_element-is b e space depth) in
    subst (IsPart depth) e1 whole

-- what was pushed is the element
pub added-element : (b : Bindings) (e : LitElement) (space depth below : ℕ) (content : Content) (old one two three : List (ℕ × Content)) → below ≡ depth + 1
    → content ≡ Element (element_name b (resolved b e.name (default_below b space e.attributes)))
    → one ≡ old ++ ((depth, content) ∷ []) → two ≡ one ++ at_depth below (in_order (filter_map (attribute_in b) e.attributes))
    → three ≡ two ++ contents_of_all b e.children (default_below b space e.attributes) below
    → three ≡ old ++ contents_of_element b e space depth
added-element b e space depth below content old one two three same is is_one is_two is_three =
    let own = default_below b space e.attributes in
    let attributes = at_depth below (in_order (filter_map (attribute_in b) e.attributes)) in
    let children = contents_of_all b e.children own below in
    let next : below ≡ suc depth = omega arith in
    is_three ∙ ap (λ l. l ++ children) (is_two ∙ ap (λ l. l ++ attributes) is_one ∙ append_assoc old ((depth, content) ∷ []) attributes) ∙ append_assoc old ((depth, content) ∷ attributes) children
    ∙ ap (λ c. old ++ (((depth, c) ∷ attributes) ++ children)) is
    ∙ ap (λ d. old ++ (((depth, Element (element_name b (resolved b e.name own))) ∷ at_depth d (in_order (filter_map (attribute_in b) e.attributes))) ++ contents_of_all b e.children own d)) next
    ∙ ap (λ l. old ++ l) (sym (contents_of_element-is b e space depth))

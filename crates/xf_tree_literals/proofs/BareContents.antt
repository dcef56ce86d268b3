-- The contents of literal trees with resolved names, level by level, and that they are those of a tree.
use Rattle.std.proofs.Common.{◌≡◌, ℕ, suc, ◌+◌, ◌≤◌, ◌^◌, inl, inr, false, List, [], ◌∷◌, ◌++◌, map, flat_map, refl, sym, ap, ◌∙◌, subst, arith, append_assoc}
use Rattle.std.specs.Prelude.{◌⊎◌}
use Rattle.std.proofs.lemmas.Bool.{false≢true}
use Rattle.xf_name.specs.Bindings.{Bindings}
use Rattle.xf_def_forest.specs.declared.bare.Bare.{Bare}
use Rattle.xf_def_forest.specs.declared.bare.Bare.TheOpen.{Bare-F}
use Rattle.xf_def_forest.specs.declared.bare.Bare.TheFolds.{fold-roll-Bare, fold_out-BareElement, map-Bare, ind-Bare}
use Rattle.xf_def_forest.specs.declared.bare.Bare.TheViews.{roll-Bare}
use Rattle.xf_def_forest.specs.declared.bare.BareElement.{BareElement}
use Rattle.xf_def_forest.specs.declared.bare.BareAttribute.{BareAttribute}
use Rattle.xf_def_forest.specs.declared.content.Content.{Content}
use Rattle.xf_def_forest.specs.declared.content.Content.TheVariants.{Element}
use Rattle.xf_def_forest.specs.declared.bare.Bare.TheVariants as bare
use Rattle.xf_def_forest.specs.Forest.{is_root}
use Rattle.xf_def_forest.specs.Limits.{size_of}
use Rattle.xf_def_forest.specs.Plant.{Contents, text_contents, at_depth, in_order, name_for}
use Rattle.xf_def_forest.specs.Planted.{contents_of_bare, bare_contents, bare_element_contents, bare_attribute}
use Rattle.xf_tree_walks.specs.Leaves.{is_leaf}
use Rattle.xf_tree_walks.specs.First.{attribute_depth, AreFirst}
use Rattle.xf_tree_walks.proofs.FirstLemmas.{AllAttributes, BeginsPlain}
use Rattle.xf_tree_literals.specs.Contents.{bare_element_at, bare_all_at, IsPart}
use Rattle.xf_tree_literals.proofs.ContentsLemmas.{part-append, part-below, text-plain}
use Rattle.xf_tree_literals.proofs.WrittenLemmas.{order-attributes}

all-map : (b : Bindings) (xs : List Bare) (depth : ℕ) → flat_map (λ child. child 0 depth) (map (contents_of_bare b) xs) ≡ bare_all_at b xs depth
all-map b [] depth = refl
all-map b (x ∷ xs) depth = ap (λ cs. contents_of_bare b x 0 depth ++ cs) (all-map b xs depth)

-- the attributes of an element
abbrev attributes_at : Bindings → BareElement → ℕ → List (ℕ × Content)
attributes_at b e depth = at_depth depth (in_order (map (bare_attribute b) e.attributes))

bare_element_at-is : (b : Bindings) (e : BareElement) (depth : ℕ)
    → bare_element_at b e depth ≡ ((depth, Element (name_for b e.name)) ∷ attributes_at b e (suc depth)) ++ bare_all_at b e.children (suc depth)
bare_element_at-is b e depth =
    let first = (depth, Element (name_for b e.name)) ∷ attributes_at b e (suc depth) in
    ap (λ w. w 0 depth) (fold_out-BareElement Contents Contents bare_contents (bare_element_contents b) e) ∙ ap (λ cs. first ++ cs) (all-map b e.children (suc depth))

-- an element's node with what is below it
whole-is : (b : Bindings) (e : BareElement) (depth below : ℕ) (content : Content) → below ≡ depth + 1 → content ≡ Element (name_for b e.name)
    → ((depth, content) ∷ attributes_at b e below) ++ bare_all_at b e.children below ≡ bare_element_at b e depth
whole-is b e depth below content same is =
    let next : below ≡ suc depth = omega arith in
    ap (λ c. ((depth, c) ∷ attributes_at b e below) ++ bare_all_at b e.children below) is
    ∙ ap (λ d. ((depth, Element (name_for b e.name)) ∷ attributes_at b e d) ++ bare_all_at b e.children d) next
    ∙ sym (bare_element_at-is b e depth)

-- what was pushed is the element
pub bare-added : (b : Bindings) (e : BareElement) (depth below : ℕ) (content : Content) (old one two three : List (ℕ × Content)) → below ≡ depth + 1 → content ≡ Element (name_for b e.name)
    → one ≡ old ++ ((depth, content) ∷ []) → two ≡ one ++ at_depth below (in_order (map (bare_attribute b) e.attributes)) → three ≡ two ++ bare_all_at b e.children below
    → three ≡ old ++ bare_element_at b e depth
bare-added b e depth below content old one two three same is is_one is_two is_three =
    let attributes = attributes_at b e below in
    let children = bare_all_at b e.children below in
    is_three ∙ ap (λ l. l ++ children) (is_two ∙ ap (λ l. l ++ attributes) is_one ∙ append_assoc old ((depth, content) ∷ []) attributes) ∙ append_assoc old ((depth, content) ∷ attributes) children
    ∙ ap (λ l. old ++ l) (whole-is b e depth below content same is)

-- ---- children are no attributes

bare-Text : (b : Bindings) (text : List ℕ) → contents_of_bare b (bare.Text text) ≡ text_contents text
bare-Text b text = ap (contents_of_bare b) (sym (bare.rolls-Text text)) ∙ fold-roll-Bare Contents Contents bare_contents (bare_element_contents b) (Bare-F.Text text)

bare-Element : (b : Bindings) (e : BareElement) (depth : ℕ) → contents_of_bare b (bare.Element e) 0 depth ≡ bare_element_at b e depth
bare-Element b e depth =
    ap (λ w. w 0 depth) (ap (contents_of_bare b) (sym (bare.rolls-Element e)) ∙ fold-roll-Bare Contents Contents bare_contents (bare_element_contents b) (Bare-F.Element e))

pub bare-text : (b : Bindings) (x : Bare) (text word : List ℕ) (depth : ℕ) → x ≡ bare.Text text → word ≡ text → text_contents word 0 depth ≡ contents_of_bare b x 0 depth
bare-text b x text word depth is same = ap (λ w. text_contents w 0 depth) same ∙ sym (ap (λ w. w 0 depth) (ap (contents_of_bare b) is ∙ bare-Text b text))

pub bare-element : (b : Bindings) (x : Bare) (e : BareElement) (depth : ℕ) → x ≡ bare.Element e → bare_element_at b e depth ≡ contents_of_bare b x 0 depth
bare-element b x e depth is = sym (ap (λ w. contents_of_bare b w 0 depth) is ∙ bare-Element b e depth)

abbrev BareCase : Bare → Type 0
BareCase x = ((t : List ℕ) × (x ≡ bare.Text t)) ⊎ ((e : BareElement) × (x ≡ bare.Element e))

abbrev Any : BareElement → Type 0
Any e = Unit {0}

bare_case : (y : Bare-F ((x : Bare) × BareCase x) ((e : BareElement) × Any e)) → BareCase (roll-Bare (map-Bare ((x : Bare) × BareCase x) ((e : BareElement) × Any e) Bare BareElement (λ c. c.0) (λ c. c.0) y))
bare_case (Bare-F.Text t) = inl (t, bare.rolls-Text t)
bare_case (Bare-F.Element e) = inr (e.0, bare.rolls-Element e.0)

bare_cases : (x : Bare) → BareCase x
bare_cases = ind-Bare BareCase Any (λ x y is. subst (λ z. BareCase (roll-Bare z)) is (bare_case y)) (λ x y is. tt)

pub trees-plain : (b : Bindings) (xs : List Bare) (depth : ℕ) → BeginsPlain (bare_all_at b xs depth)
trees-plain b [] depth = tt
trees-plain b (x ∷ xs) depth =
    let rest = bare_all_at b xs depth in
    elim (bare_cases x) [
      | inl h ↦ subst (λ w. BeginsPlain (w 0 depth ++ rest)) (sym (ap (contents_of_bare b) h.1 ∙ bare-Text b h.0)) (text-plain h.0 0 depth rest (trees-plain b xs depth))
      | inr h ↦ subst (λ l. BeginsPlain (l ++ rest)) (sym (ap (λ w. contents_of_bare b w 0 depth) h.1 ∙ bare-Element b h.0 depth ∙ bare_element_at-is b h.0 depth)) refl
    ]

-- and it is a part of a tree
pub bare-part : (b : Bindings) (e : BareElement) (depth below : ℕ) (content : Content) → below ≡ depth + 1 → content ≡ Element (name_for b e.name) → size_of content ≤ 2 ^ 66
    → IsPart below (at_depth below (in_order (map (bare_attribute b) e.attributes))) → IsPart below (bare_all_at b e.children below) → IsPart depth (bare_element_at b e depth)
bare-part b e depth below content same is small attributes children =
    let parts = part-append below (attributes_at b e below) (bare_all_at b e.children below) attributes children (trees-plain b e.children below) in
    let root : is_root content ≡ false = ap is_root is in
    let next : below ≡ suc depth = omega arith in
    let behind : attribute_depth depth content ≡ below = ap (attribute_depth depth) is ∙ sym next in
    let whole = part-below depth below content _ same root (λ leaf. absurd (false≢true (sym (ap is_leaf is) ∙ leaf))) small parts
    (subst (λ d. AreFirst d (attributes_at b e below ++ bare_all_at b e.children below)) (sym behind) parts.first) in
    subst (IsPart depth) (whole-is b e depth below content same is) whole

pub bare-attributes : (b : Bindings) (attributes : List BareAttribute) → AllAttributes (in_order (map (bare_attribute b) attributes))
bare-attributes b attributes = order-attributes (map (bare_attribute b) attributes) (each attributes)
  where
    each : (attributes : List BareAttribute) → AllAttributes (map (bare_attribute b) attributes)
    each [] = tt
    each (a ∷ more) = (refl, each more)

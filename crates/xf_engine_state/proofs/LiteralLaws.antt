-- A literal tree of an element as a new one without a root: its texts stand in elements.
use Rattle.std.proofs.Common.{◌≡◌, ℕ, suc, ◌==◌, Bool, true, false, not, cond, ◌&&◌, ◌||◌, List, [], ◌∷◌, ◌++◌, map, flat_map, nat_lt, Result, Ok, Err, refl, sym, ap, ◌∙◌, subst, arith}
use Rattle.std.specs.List.{cons_option, filter_map, list_all, list_any}
use Rattle.std.proofs.lemmas.Bool.Decides.{nat_tests}
use Rattle.xf_name.specs.Bindings.{Bindings, resolved}
use Rattle.xf_name.specs.Part.{Kind, no_declaration, kind_of}
use Rattle.xf_name.specs.declared.fault.NameFault.{NameFault}
use Rattle.xf_name.specs.declared.lit.Lit.{Lit}
use Rattle.xf_name.specs.declared.lit.Lit.TheOpen.{Lit-F, LitElement-F}
use Rattle.xf_name.specs.declared.lit.Lit.TheFolds.{fold-roll-Lit, fold-roll-LitElement, map-Lit, ind-LitElement}
use Rattle.xf_name.specs.declared.lit.Lit.TheVariants as lit
use Rattle.xf_name.specs.declared.lit.Lit.TheViews.{roll-Lit, roll-LitElement}
use Rattle.xf_name.specs.declared.lit.LitElement.{LitElement, fold-LitElement}
use Rattle.xf_name.specs.declared.lit.Pair.{Pair}
use Rattle.xf_name.specs.declared.qname.QName.{QName}
use Rattle.xf_def_forest.specs.declared.content.Content.{Content}
use Rattle.xf_def_forest.specs.declared.content.Content.TheVariants.{Element, Text}
use Rattle.xf_def_forest.specs.declared.content.Node.{Node}
use Rattle.xf_def_forest.specs.Forest.{is_root, is_text}
use Rattle.xf_def_forest.specs.Plant.{Contents, at_depth, attribute_by, attribute_in, contents_of, default_below, element_contents, element_name, in_order, in_place, is_less, lit_contents, numbered_from, text_contents, written_of}
use Rattle.xf_def_forest.proofs.BackLaws.{and-true, or-false}
use Rattle.xf_law_recalculation.specs.Agree.Hung.{are_hung_from, hangs, rooted_by}
use Rattle.xf_law_rebuild.specs.Trees.{IsGrown}

both-true : (a b : Bool) → a ≡ true → b ≡ true → (a && b) ≡ true
both-true true b h k = k
both-true false b h k = h

-- ---- contents below a top: they are deep and without a root

abbrev is_below : ℕ × Content → Bool
is_below p = not (is_root p.1) && nat_lt 0 p.0

abbrev AreBelow : List (ℕ × Content) → Type 0
AreBelow contents = list_all is_below contents ≡ true

below-append : (xs ys : List (ℕ × Content)) → AreBelow xs → AreBelow ys → AreBelow (xs ++ ys)
below-append [] ys h k = k
below-append (x ∷ xs) ys h k = let parts = and-true (is_below x) (list_all is_below xs) h in both-true (is_below x) (list_all is_below (xs ++ ys)) parts.0 (below-append xs ys parts.1 k)

deep-suc : (d : ℕ) → nat_lt 0 (suc d) ≡ true
deep-suc d = grind (arith, nat_tests)

below-depth : (depth : ℕ) (cs : List Content) → list_any is_root cs ≡ false → AreBelow (at_depth (suc depth) cs)
below-depth depth [] h = refl
below-depth depth (c ∷ cs) h =
    let parts = or-false (is_root c) (list_any is_root cs) h in
    both-true (is_below (suc depth, c)) (list_all is_below (at_depth (suc depth) cs)) (ap (λ b. not b && nat_lt 0 (suc depth)) parts.0 ∙ deep-suc depth) (below-depth depth cs parts.1)

-- ---- attributes

rootless-place : (c : Content) (cs : List Content) → is_root c ≡ false → list_any is_root cs ≡ false → list_any is_root (in_place c cs) ≡ false
rootless-place c [] h k = rw h refl
rootless-place c (x ∷ xs) h k =
    let parts = or-false (is_root x) (list_any is_root xs) k in
    by (is_less (written_of x) (written_of c)) parts.0 (rootless-place c xs h parts.1)
  where
    by : (b : Bool) → is_root x ≡ false → list_any is_root (in_place c xs) ≡ false → list_any is_root (cond b (x ∷ in_place c xs) (c ∷ x ∷ xs)) ≡ false
    by true e f = rw e f
    by false e f = rw h k

rootless-order : (cs : List Content) → list_any is_root cs ≡ false → list_any is_root (in_order cs) ≡ false
rootless-order [] h = refl
rootless-order (c ∷ cs) h = let parts = or-false (is_root c) (list_any is_root cs) h in rootless-place c (in_order cs) parts.0 (rootless-order cs parts.1)

attributes-rootless : (b : Bindings) (ps : List Pair) → list_any is_root (filter_map (attribute_in b) ps) ≡ false
attributes-rootless b [] = refl
attributes-rootless b (p ∷ ps) = by (kind_of p.name) (resolved b p.name 0) (attributes-rootless b ps)
  where
    by : (kind : Kind) (name : Result QName NameFault) → list_any is_root (filter_map (attribute_in b) ps) ≡ false → list_any is_root (cons_option (attribute_by b kind p.text name) (filter_map (attribute_in b) ps)) ≡ false
    by no_declaration (Ok name) h = h
    by no_declaration (Err fault) h = h
    by kind name h = h

-- ---- below an element

abbrev GoBelow : Contents → Type 0
GoBelow w = (space depth : ℕ) → AreBelow (w space (suc depth))

text-below : (text : List ℕ) → GoBelow (text_contents text)
text-below [] space depth = let deep : (suc depth == 0) ≡ false = grind (arith, nat_tests) in ap (λ b. list_all is_below (cond b (at_depth 0 (Text [] ∷ [])) [])) deep
text-below (c ∷ cs) space depth = both-true (nat_lt 0 (suc depth)) true (deep-suc depth) refl

abbrev Holds : (e : LitElement-F Contents Contents) → Type 0
Holds e = (space depth : ℕ) → AreBelow (flat_map (λ child. child space (suc depth)) e.children)

-- an element: its top, and what goes below it
record IsElement (w : Contents) : Type 0 where
  pub top : ℕ → Content
  pub rest : ℕ → ℕ → List (ℕ × Content)
  pub is : (space depth : ℕ) → w space depth ≡ (depth, top space) ∷ rest space depth
  pub plain : (space : ℕ) → (is_root (top space) ≡ false) × (is_text (top space) ≡ false)
  pub below : (space depth : ℕ) → AreBelow (rest space depth)

element-is : (b : Bindings) (e : LitElement-F Contents Contents) → Holds e → IsElement (element_contents b e)
element-is b e h = record {
  top = λ space. Element (element_name b (resolved b e.name (default_below b space e.attributes)));
  rest = λ space depth. at_depth (suc depth) (in_order (filter_map (attribute_in b) e.attributes)) ++ flat_map (λ child. child (default_below b space e.attributes) (suc depth)) e.children;
  is = λ space depth. refl;
  plain = λ space. (refl, refl);
  below = λ space depth.
      below-append (at_depth (suc depth) (in_order (filter_map (attribute_in b) e.attributes))) (flat_map (λ child. child (default_below b space e.attributes) (suc depth)) e.children)
      (below-depth depth (in_order (filter_map (attribute_in b) e.attributes)) (rootless-order (filter_map (attribute_in b) e.attributes) (attributes-rootless b e.attributes)))
      (h (default_below b space e.attributes) depth);
}

element-below : (w : Contents) → IsElement w → GoBelow w
element-below w i space depth =
    ap (list_all is_below) (i.is space (suc depth))
    ∙ both-true (is_below (suc depth, i.top space)) (list_all is_below (i.rest space (suc depth))) (ap (λ b. not b && nat_lt 0 (suc depth)) (i.plain space).0 ∙ deep-suc depth) (i.below space (suc depth))

abbrev element_of : Bindings → LitElement → Contents
element_of b = fold-LitElement Contents Contents lit_contents (element_contents b)

abbrev LitBelow : Bindings → Type 0
LitBelow b = (x : Lit) × GoBelow (contents_of b x)

abbrev LitPart : Bindings → Type 0
LitPart b = (e : LitElement) × IsElement (element_of b e)

children-below : (b : Bindings) (ys : List (LitBelow b)) (space depth : ℕ) → AreBelow (flat_map (λ child. child space (suc depth)) (map (contents_of b) (map (λ y. y.0) ys)))
children-below b [] space depth = refl
children-below b (y ∷ ys) space depth = below-append (contents_of b y.0 space (suc depth)) _ (y.1 space depth) (children-below b ys space depth)

level-below : (b : Bindings) (y : Lit-F (LitBelow b) (LitPart b)) → GoBelow (contents_of b (roll-Lit (map-Lit (LitBelow b) (LitPart b) Lit LitElement (λ c. c.0) (λ c. c.0) y)))
level-below b (Lit-F.Text t) = subst GoBelow (sym (fold-roll-Lit Contents Contents lit_contents (element_contents b) (Lit-F.Text t))) (text-below t)
level-below b (Lit-F.Element e) = subst GoBelow (sym (fold-roll-Lit Contents Contents lit_contents (element_contents b) (Lit-F.Element e.0))) (element-below (element_of b e.0) e.1)

part-is : (b : Bindings) (y : LitElement-F (LitBelow b) (LitPart b)) → IsElement (element_of b (roll-LitElement (record { name = y.name; attributes = y.attributes; children = map (λ c. c.0) y.children })))
part-is b y =
    subst IsElement (sym (fold-roll-LitElement Contents Contents lit_contents (element_contents b) (record { name = y.name; attributes = y.attributes; children = map (λ c. c.0) y.children })))
    (element-is b (record { name = y.name; attributes = y.attributes; children = map (contents_of b) (map (λ c. c.0) y.children) }) (children-below b y.children))

literal-element : (b : Bindings) (e : LitElement) → IsElement (element_of b e)
literal-element b = ind-LitElement (λ x. GoBelow (contents_of b x)) (λ e. IsElement (element_of b e))
    (λ x y is. subst (λ z. GoBelow (contents_of b (roll-Lit z))) is (level-below b y)) (λ x y is. subst (λ z. IsElement (element_of b (roll-LitElement z))) is (part-is b y))

-- ---- a tree without a root

below-rootless : (cs : List (ℕ × Content)) → AreBelow cs → list_any (λ p. is_root p.1) cs ≡ false
below-rootless [] h = refl
below-rootless (c ∷ cs) h =
    let parts = and-true (is_below c) (list_all is_below cs) h in
    let first = and-true (not (is_root c.1)) (nat_lt 0 c.0) parts.0 in
    by (is_root c.1) first.0 (below-rootless cs parts.1)
  where
    by : (r : Bool) → not r ≡ true → list_any (λ p. is_root p.1) cs ≡ false → (r || list_any (λ p. is_root p.1) cs) ≡ false
    by true i j = cc i
    by false i j = j

-- below a top that is no root all may stand
deep-hangs : (x : Node) → nat_lt 0 x.depth ≡ true → hangs false x ≡ true
deep-hangs x h = by (is_text x.content) (nat_lt 1 x.depth) refl
  where
    by : (a b : Bool) → nat_lt 1 x.depth ≡ b → (not a || b || ((x.depth == 1) && true)) ≡ true
    by false b e = refl
    by true true e = refl
    by true false e = let one : (x.depth == 1) ≡ true = grind (arith, nat_tests, h, e) in ap (λ c. c && true) one

deep-rooted : (r : Bool) (x : Node) → nat_lt 0 x.depth ≡ true → rooted_by r x ≡ r
deep-rooted r x h = let deep : (x.depth == 0) ≡ false = grind (arith, nat_tests, h) in ap (λ b. cond b (is_root x.content) r) deep

below-hung : (next : ℕ) (cs : List (ℕ × Content)) → AreBelow cs → are_hung_from false (numbered_from next cs) ≡ true
below-hung next [] h = refl
below-hung next (c ∷ cs) h =
    let parts = and-true (is_below c) (list_all is_below cs) h in
    let first = and-true (not (is_root c.1)) (nat_lt 0 c.0) parts.0 in
    let x : Node = record { number = next; depth = c.0; content = c.1 } in
    both-true (hangs false x) (are_hung_from (rooted_by false x) (numbered_from (suc next) cs)) (deep-hangs x first.1)
    (ap (λ r. are_hung_from r (numbered_from (suc next) cs)) (deep-rooted false x first.1) ∙ below-hung (suc next) cs parts.1)

element-grown : (w : Contents) → IsElement w → (space : ℕ) → IsGrown (w space 0)
element-grown w i space =
    let plain = i.plain space in
    subst IsGrown (sym (i.is space 0)) (record {
      growth = record { top = refl; rootless = ap (λ r. r || list_any (λ p. is_root p.1) (i.rest space 0)) plain.0 ∙ below-rootless (i.rest space 0) (i.below space 0) };
      hung = λ next.
          both-true (hangs true (record { number = next; depth = 0; content = i.top space })) (are_hung_from (is_root (i.top space)) (numbered_from (suc next) (i.rest space 0)))
          (ap (λ t. not t || false || (false && false)) plain.1)
          (ap (λ r. are_hung_from r (numbered_from (suc next) (i.rest space 0))) plain.0 ∙ below-hung (suc next) (i.rest space 0) (i.below space 0));
    })

element-contents : (b : Bindings) (e : LitElement) → contents_of b (lit.Element e) ≡ element_of b e
element-contents b e = ap (contents_of b) (sym (lit.rolls-Element e)) ∙ fold-roll-Lit Contents Contents lit_contents (element_contents b) (Lit-F.Element e)

pub grown-literal : (b : Bindings) (e : LitElement) (space : ℕ) → IsGrown (contents_of b (lit.Element e) space 0)
grown-literal b e space = subst (λ (w : Contents). IsGrown (w space 0)) (sym (element-contents b e)) (element-grown (element_of b e) (literal-element b e) space)

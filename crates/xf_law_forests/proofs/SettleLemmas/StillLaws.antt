-- While texts are settled, nodes stay what they are: a text that could be set can be set still.
use Rattle.std.proofs.Common.{◌≡◌, ℕ, suc, ◌==◌, Bool, true, false, cond, not, ◌&&◌, ◌||◌, List, [], ◌∷◌, Some, refl, sym, ap, ◌∙◌, subst, inl, inr, arith}
use Rattle.std.proofs.lemmas.Bool.{cases_Bool}
use Rattle.std.specs.List.{list_any}
use Rattle.xf_def_forest.specs.declared.content.Node.{Node}
use Rattle.xf_def_forest.specs.declared.content.Content.{Content}
use Rattle.xf_def_forest.specs.declared.content.Content.TheVariants.{Root, Element, Attribute, Text}
use Rattle.xf_def_forest.specs.declared.content.Kind.TheVariants as kind
use Rattle.xf_def_forest.specs.Forest.{Forest, is_element, is_attribute, is_text, kind_at}
use Rattle.xf_def_forest.specs.Visit.{visits}
use Rattle.xf_def_forest.specs.Shape.{has_elements, as_texts}
use Rattle.xf_def_forest.specs.Needs.{IsSettable}
use Rattle.xf_def_forest.specs.Texts.{with_value, one_text}
use Rattle.xf_law_forests.proofs.RollbackLemmas.Trees.{Trees, none, tree, onto, followed}
use Rattle.xf_law_forests.proofs.RollbackLemmas.TreeTexts.{lone, attributes}
use Rattle.xf_law_forests.proofs.RollbackLemmas.TreeVisits.{elements, elements-are}
use Rattle.xf_law_forests.proofs.RollbackLemmas.TreeShape.{times-onto}
use Rattle.xf_law_forests.proofs.RollbackLemmas.TreeMoved.{value-attribute, value-element}
use Rattle.xf_law_forests.proofs.RollbackLemmas.TreeBlank.{AreLeaves}
use Rattle.xf_law_forests.proofs.RollbackLemmas.TreeFacts.{is_at, some-followed}
use Rattle.xf_law_forests.proofs.RollbackLemmas.KeepingTrees.{stands, any-is, any-kind, kind-any, element-test, attribute-test}
use Rattle.xf_law_forests.specs.Settle.Written.{Contents, written, MayWrite}
use Rattle.xf_law_forests.proofs.SettleLemmas.KindLemmas.{attribute-no_element, text-no_attribute, text-no_element, leaf-no_element, leaf-text, and-none}
use Rattle.xf_law_forests.proofs.SettleLemmas.Put.{texts_top, same_texts, content, valued, put, valued-element, put_all}
use Rattle.xf_law_forests.proofs.SettleLemmas.Spots.{FitsHere, Fits}
use Rattle.xf_law_forests.proofs.SettleLemmas.Bridge.{AreReady, ready-later, ready-put, written-onto, fits-all, leaves-content}
use Rattle.xf_law_forests.proofs.SettleLemmas.WrittenLaws.{alone, alone-trees, ready, once, settable-fits, settable-old, at-node}

-- ---- elements below a node

leaves-bare : (u : Bool) (n : ℕ) (k : Trees) → AreLeaves k → elements u n k ≡ false
leaves-bare u n none h = refl
leaves-bare u n (tree m c j r) h =
    let plain = leaf-no_element c h.0 in
    let nothing : elements (n == m) n j ≡ false = ap (elements (n == m) n) h.1 in
    let next = leaves-bare u n r h.2 in
    rw (plain, nothing, next) refl

elements-put : (a m : ℕ) (text : List ℕ) (u : Bool) (n : ℕ) (t : Trees) → Fits m t → elements u n (put a m text t) ≡ elements u n t
elements-put a m text u n none h = refl
elements-put a m text u n (tree p c k r) h =
    let same = valued-element m text p c in
    let next = elements-put a m text u n r h.2 in
    ap (λ b. (b && u) || (elements (n == p) n (cond ((p == m) && is_element c) (content a text k) (put a m text k)) || elements u n (put a m text r))) same
    ∙ ap (λ b. (is_element c && u) || (b || elements u n (put a m text r))) (below (p == m) refl (elements-put a m text (n == p) n k h.1))
    ∙ ap (λ b. (is_element c && u) || (elements (n == p) n k || b)) next
  where
    flat : (x : Bool) → is_element c ≡ x → FitsHere c k → elements (n == p) n (put a m text k) ≡ elements (n == p) n k → elements (n == p) n (cond x (content a text k) (put a m text k)) ≡ elements (n == p) n k
    flat true e (inl is) i = let no : false ≡ true = sym (attribute-no_element c is) ∙ e in cc
    flat true e (inr is) i = leaves-bare (n == p) n (content a text k) (leaves-content a text k is.1) ∙ sym (leaves-bare (n == p) n k is.1)
    flat false e fits i = i

    below : (b : Bool) → (p == m) ≡ b → elements (n == p) n (put a m text k) ≡ elements (n == p) n k
        → elements (n == p) n (cond (b && is_element c) (content a text k) (put a m text k)) ≡ elements (n == p) n k
    below true e i = flat (is_element c) refl (h.0 e) i
    below false e i = i

-- ---- nodes of a kind that no text has

module _ (q : Content → Bool) (keeps : (text : List ℕ) (c : Content) → q (with_value text c) ≡ q c) (no_text : (c : Content) → is_text c ≡ true → q c ≡ false) where
  valued-q : (m : ℕ) (text : List ℕ) (p : ℕ) (c : Content) → q (valued m text p c) ≡ q c
  valued-q m text p c = by (p == m)
    where
      by : (b : Bool) → q (cond b (with_value text c) c) ≡ q c
      by true = keeps text c
      by false = refl

  at-attributes : (n : ℕ) (k : Trees) → AreLeaves k → is_at q n (attributes k) ≡ is_at q n k
  at-attributes n none h = refl
  at-attributes n (tree m c j r) h =
      let i = at-attributes n r h.2 in
      let nothing : is_at q n j ≡ false = ap (is_at q n) h.1 in
      elim (cases_Bool (is_attribute c)) [
        | inl is ↦ rw is (ap (λ b. ((m == n) && q c) || (is_at q n j || b)) i)
        | inr is ↦ let plain = no_text c (leaf-text c h.0 is) in rw (is, plain, nothing) (i ∙ sym (ap (λ b. b || (false || is_at q n r)) (and-none (m == n))))
      ]

  at-lone : (n a : ℕ) (text : List ℕ) → is_at q n (lone (one_text a text)) ≡ false
  at-lone n a [] = refl
  at-lone n a (c ∷ cs) = let plain = no_text (Text (c ∷ cs)) refl in rw plain (ap (λ b. b || (false || false)) (and-none (a == n)))

  or-none : (b : Bool) → (b || false) ≡ b
  or-none true = refl
  or-none false = refl

  at-content : (n a : ℕ) (text : List ℕ) (k : Trees) → AreLeaves k → is_at q n (content a text k) ≡ is_at q n k
  at-content n a text k h = by (same_texts (as_texts text) (texts_top k))
    where
      by : (b : Bool) → is_at q n (cond b k (followed (attributes k) (lone (one_text a text)))) ≡ is_at q n k
      by true = refl
      by false =
          some-followed (λ p c. (p == n) && q c) (attributes k) (lone (one_text a text)) ∙ ap (λ b. is_at q n (attributes k) || b) (at-lone n a text) ∙ or-none (is_at q n (attributes k))
          ∙ at-attributes n k h

  at-put : (a m : ℕ) (text : List ℕ) (n : ℕ) (t : Trees) → Fits m t → is_at q n (put a m text t) ≡ is_at q n t
  at-put a m text n none h = refl
  at-put a m text n (tree p c k r) h =
      ap (λ b. ((p == n) && b) || (is_at q n (cond ((p == m) && is_element c) (content a text k) (put a m text k)) || is_at q n (put a m text r))) (valued-q m text p c)
      ∙ ap (λ b. ((p == n) && q c) || (b || is_at q n (put a m text r))) (below (p == m) refl (at-put a m text n k h.1))
      ∙ ap (λ b. ((p == n) && q c) || (is_at q n k || b)) (at-put a m text n r h.2)
    where
      flat : (x : Bool) → is_element c ≡ x → FitsHere c k → is_at q n (put a m text k) ≡ is_at q n k → is_at q n (cond x (content a text k) (put a m text k)) ≡ is_at q n k
      flat true e (inl is) i = let no : false ≡ true = sym (attribute-no_element c is) ∙ e in cc
      flat true e (inr is) i = at-content n a text k is.1
      flat false e fits i = i

      below : (b : Bool) → (p == m) ≡ b → is_at q n (put a m text k) ≡ is_at q n k → is_at q n (cond (b && is_element c) (content a text k) (put a m text k)) ≡ is_at q n k
      below true e i = flat (is_element c) refl (h.0 e) i
      below false e i = i

  at-all : (done : ℕ → Bool) (number : ℕ) (contents : Contents) (t : Trees) (n : ℕ) → AreReady number contents t → is_at q n (put_all done number contents t) ≡ is_at q n t
  at-all done number [] t n h = refl
  at-all done number ((m, text) ∷ rest) t n h =
      elim (cases_Bool (done m)) [
        | inl e ↦ rw e (at-all done (suc number) rest (put number m text t) n (ready-later number rest (put number m text t) (ready-put number m text rest t h.0 h.1 h.3)) ∙ at-put number m text n t h.0)
        | inr e ↦ rw e (at-all done (suc number) rest t n (ready-later number rest t h.3))
      ]

elements-all : (done : ℕ → Bool) (number : ℕ) (contents : Contents) (t : Trees) (u : Bool) (n : ℕ) → AreReady number contents t → elements u n (put_all done number contents t) ≡ elements u n t
elements-all done number [] t u n h = refl
elements-all done number ((m, text) ∷ rest) t u n h =
    elim (cases_Bool (done m)) [
      | inl e ↦ rw e (elements-all done (suc number) rest (put number m text t) u n (ready-later number rest (put number m text t) (ready-put number m text rest t h.0 h.1 h.3)) ∙ elements-put number m text u n t h.0)
      | inr e ↦ rw e (elements-all done (suc number) rest t u n (ready-later number rest t h.3))
    ]

-- ---- the law

-- whichever were written, a node whose text could be set is one still
pub settable-still : (done : ℕ → Bool) (number : ℕ) (contents : Contents) (forest : Forest) (n next : ℕ) → MayWrite number contents forest → IsSettable n forest
    → IsSettable n (record { nodes = written done number contents forest.nodes; next = next })
settable-still done number contents forest n next may able =
    let s = stands (alone forest) (alone-trees forest may.trees) in
    let are_ready = ready forest s number may.later contents may.settable in
    let whole = ap (written done number contents) s.nodes ∙ written-onto done number contents s.trees are_ready in
    let less = settable-old forest s n able in
    let late = may.later in
    let fits = fits-all done number contents s.trees n are_ready (settable-fits forest s n able) (once forest s n) (omega (arith, less, late)) in
    let few = fits.1 in
    let sum = times-onto n 0 (put_all done number contents s.trees) [] in
    record {
      kind = elim able.kind [
        | inl h ↦ inl (subst (λ l. kind_at n l ≡ Some kind.Attribute) (sym whole) (any-kind kind.Attribute is_attribute attribute-test n (onto 0 (put_all done number contents s.trees) []) (omega (arith, few, sum))
            (any-is is_attribute n (put_all done number contents s.trees) ∙ at-all is_attribute value-attribute text-no_attribute done number contents s.trees n are_ready
            ∙ at-node forest s is_attribute n (kind-any kind.Attribute is_attribute attribute-test n forest.nodes h))))
        | inr h ↦ inr (subst (λ l. kind_at n l ≡ Some kind.Element) (sym whole) (any-kind kind.Element is_element element-test n (onto 0 (put_all done number contents s.trees) []) (omega (arith, few, sum))
            (any-is is_element n (put_all done number contents s.trees) ∙ at-all is_element value-element text-no_element done number contents s.trees n are_ready
            ∙ at-node forest s is_element n (kind-any kind.Element is_element element-test n forest.nodes h))))
      ];
      childless =
          ap (λ l. has_elements (visits l) n) whole ∙ elements-are n (put_all done number contents s.trees) ∙ elements-all done number contents s.trees false n are_ready
          ∙ sym (elements-are n s.trees) ∙ ap (λ l. has_elements (visits l) n) (sym s.nodes) ∙ able.childless;
    }

value-solid : (text : List ℕ) (c : Content) → not (is_text (with_value text c)) ≡ not (is_text c)
value-solid text Root = refl
value-solid text (Element name) = refl
value-solid text (Attribute name old) = refl
value-solid text (Text old) = refl

text-solid : (c : Content) → is_text c ≡ true → not (is_text c) ≡ false
text-solid c e = ap not e

-- and what is no text stands still
pub solid-still : (done : ℕ → Bool) (number : ℕ) (contents : Contents) (forest : Forest) (n : ℕ) → MayWrite number contents forest
    → list_any (λ (x : Node). (x.number == n) && not (is_text x.content)) (written done number contents forest.nodes) ≡ list_any (λ (x : Node). (x.number == n) && not (is_text x.content)) forest.nodes
solid-still done number contents forest n may =
    let s = stands (alone forest) (alone-trees forest may.trees) in
    let are_ready = ready forest s number may.later contents may.settable in
    let solid : Content → Bool = λ c. not (is_text c) in
    let whole = ap (written done number contents) s.nodes ∙ written-onto done number contents s.trees are_ready in
    ap (list_any (λ (x : Node). (x.number == n) && solid x.content)) whole
    ∙ any-is solid n (put_all done number contents s.trees)
    ∙ at-all solid value-solid text-solid done number contents s.trees n are_ready
    ∙ sym (any-is solid n s.trees) ∙ ap (list_any (λ (x : Node). (x.number == n) && solid x.content)) (sym s.nodes)

-- A settling in the list of nodes is one in the trees, and leaves them such that the next one is, too.
use Rattle.std.proofs.Common.{◌≡◌, ℕ, suc, ◌==◌, Bool, true, false, cond, ◌&&◌, List, [], ◌∷◌, map, refl, sym, ap, ◌∙◌, inl, inr, arith}
use Rattle.std.specs.Prelude.{◌⊎◌, ◌≤◌, ◌<◌, ⊤}
use Rattle.std.specs.Str.{bytes_eq}
use Rattle.std.proofs.lemmas.Bool.{cases_Bool}
use Rattle.std.proofs.lemmas.Bool.Decides.{nat_tests}
use Rattle.xf_def_forest.specs.declared.content.Node.{Node}
use Rattle.xf_def_forest.specs.declared.content.Content.{Content}
use Rattle.xf_def_forest.specs.declared.content.Content.TheVariants.{Root, Element, Attribute, Text}
use Rattle.xf_def_forest.specs.Forest.{is_element, is_attribute, own_text, tree_of, first_tree}
use Rattle.xf_def_forest.specs.Shape.{as_texts}
use Rattle.xf_def_forest.specs.Texts.{with_value, one_text, with_texts, with_attribute_text, is_attribute_at, texts_in, value_in}
use Rattle.xf_def_forest.specs.Settle.{are_texts, with_settled_text}
use Rattle.xf_law_forests.proofs.RollbackLemmas.Trees.{Trees, none, tree, onto, followed, times}
use Rattle.xf_law_forests.proofs.RollbackLemmas.TreeTexts.{lone, attributes, valued-onto, texts-onto, texts-skip}
use Rattle.xf_law_forests.proofs.RollbackLemmas.TreeShape.{is_leaf}
use Rattle.xf_law_forests.proofs.RollbackLemmas.TreeBlank.{AreLeaves}
use Rattle.xf_law_forests.proofs.RollbackLemmas.TreeFacts.{is_at, at-absent}
use Rattle.xf_law_forests.proofs.RollbackLemmas.TreeLeaves.{bare-leaf, retexted-times, revalued-times}
use Rattle.xf_law_forests.proofs.RollbackLemmas.KeepingTrees.{any-is}
use Rattle.xf_law_forests.specs.Settle.Written.{Contents, written}
use Rattle.xf_law_forests.proofs.SettleLemmas.KindLemmas.{element-no_attribute, element-no_text, leaf-no_element, same-bytes, few}
use Rattle.xf_law_forests.proofs.SettleLemmas.Put.{texts_top, same_texts, content, valued, put, valued-attribute, valued-element, put_all, with_one}
use Rattle.xf_law_forests.proofs.SettleLemmas.Spots.{FitsHere, Fits, Spot, spot, put-absent, from-skip, texts-same, leaf-texts}

-- ---- what fits stays so

valued-leaf : (n : ℕ) (text : List ℕ) (m : ℕ) (c : Content) → is_leaf (valued n text m c) ≡ is_leaf c
valued-leaf n text m c = by (m == n) c
  where
    by : (b : Bool) (c : Content) → is_leaf (cond b (with_value text c) c) ≡ is_leaf c
    by true Root = refl
    by true (Element name) = refl
    by true (Attribute name old) = refl
    by true (Text old) = refl
    by false c = refl

leaves-followed : (t s : Trees) → AreLeaves t → AreLeaves s → AreLeaves (followed t s)
leaves-followed none s h g = g
leaves-followed (tree m c k r) s h g = (h.0, h.1, leaves-followed r s h.2 g)

leaves-attributes : (t : Trees) → AreLeaves t → AreLeaves (attributes t)
leaves-attributes none h = tt
leaves-attributes (tree m c k r) h = elim (cases_Bool (is_attribute c)) [ inl e ↦ rw e (h.0, h.1, leaves-attributes r h.2) | inr e ↦ rw e (leaves-attributes r h.2) ]

leaves-lone : (a : ℕ) (text : List ℕ) → AreLeaves (lone (one_text a text))
leaves-lone a [] = tt
leaves-lone a (c ∷ cs) = (refl, refl, tt)

pub leaves-content : (a : ℕ) (text : List ℕ) (k : Trees) → AreLeaves k → AreLeaves (content a text k)
leaves-content a text k h = by (same_texts (as_texts text) (texts_top k))
  where
    by : (b : Bool) → AreLeaves (cond b k (followed (attributes k) (lone (one_text a text))))
    by true = h
    by false = leaves-followed (attributes k) (lone (one_text a text)) (leaves-attributes k h) (leaves-lone a text)

leaves-put : (b m : ℕ) (u : List ℕ) (t : Trees) → AreLeaves t → AreLeaves (put b m u t)
leaves-put b m u none h = tt
leaves-put b m u (tree p c k r) h =
    let no = leaf-no_element c h.0 in
    let nothing : put b m u k ≡ none = ap (put b m u) h.1 in
    (valued-leaf m u p c ∙ h.0, below_it (p == m) no ∙ nothing, leaves-put b m u r h.2)
  where
    below_it : (x : Bool) → is_element c ≡ false → cond (x && is_element c) (content b u k) (put b m u k) ≡ put b m u k
    below_it true plain = rw plain refl
    below_it false plain = refl

fits-followed : (n : ℕ) (t s : Trees) → Fits n t → Fits n s → Fits n (followed t s)
fits-followed n none s h g = g
fits-followed n (tree m c k r) s h g = (h.0, h.1, fits-followed n r s h.2 g)

fits-attributes : (n : ℕ) (t : Trees) → Fits n t → Fits n (attributes t)
fits-attributes n none h = tt
fits-attributes n (tree m c k r) h = elim (cases_Bool (is_attribute c)) [ inl e ↦ rw e (h.0, h.1, fits-attributes n r h.2) | inr e ↦ rw e (fits-attributes n r h.2) ]

fits-lone : (n a : ℕ) (text : List ℕ) → (a == n) ≡ false → Fits n (lone (one_text a text))
fits-lone n a [] other = tt
fits-lone n a (c ∷ cs) other = (λ e. let no : false ≡ true = sym other ∙ e in cc, tt, tt)

fits-content : (n a : ℕ) (text : List ℕ) (k : Trees) → (a == n) ≡ false → Fits n k → Fits n (content a text k)
fits-content n a text k other h = by (same_texts (as_texts text) (texts_top k))
  where
    by : (b : Bool) → Fits n (cond b k (followed (attributes k) (lone (one_text a text))))
    by true = h
    by false = fits-followed n (attributes k) (lone (one_text a text)) (fits-attributes n k h) (fits-lone n a text other)

pub fits-put : (n b m : ℕ) (u : List ℕ) (t : Trees) → (b == n) ≡ false → Fits n t → Fits n (put b m u t)
fits-put n b m u none other h = tt
fits-put n b m u (tree p c k r) other h = (
  λ e. first (h.0 e),
  inner ((p == m) && is_element c) (fits-put n b m u k other h.1),
  fits-put n b m u r other h.2,
)
  where
    below_it : (x : Bool) → AreLeaves k → AreLeaves (cond x (content b u k) (put b m u k))
    below_it true l = leaves-content b u k l
    below_it false l = leaves-put b m u k l

    first : FitsHere c k → FitsHere (valued m u p c) (cond ((p == m) && is_element c) (content b u k) (put b m u k))
    first (inl e) = inl (valued-attribute m u p c ∙ e)
    first (inr e) = inr (valued-element m u p c ∙ e.0, below_it ((p == m) && is_element c) e.1)

    inner : (x : Bool) → Fits n (put b m u k) → Fits n (cond x (content b u k) (put b m u k))
    inner true i = fits-content n b u k other h.1
    inner false i = i

pub lone-other : (p a : ℕ) (text : List ℕ) → (a == p) ≡ false → times p (lone (one_text a text)) ≡ 0
lone-other p a [] other = refl
lone-other p a (c ∷ cs) other = rw other (omega arith)

-- no number comes in but that of the new text
pub times-put : (p b m : ℕ) (u : List ℕ) (t : Trees) → (b == p) ≡ false → Fits m t → times m t ≤ 1 → times p (put b m u t) ≤ times p t
times-put p b m u t other fits once = by (few (times m t) once)
  where
    same : put b m u t ≡ t → times p (put b m u t) ≤ times p t
    same e = let q = ap (times p) e in omega (arith, q)

    at_one : times m t ≡ 1 → times p (put b m u t) ≤ times p t
    at_one e =
        let s = spot m 0 t [] e fits tt in
        elim s.fits [
          | inl is ↦ let q = ap (times p) (s.value b u is) in let r = revalued-times p m u t in omega (arith, q, r)
          | inr is ↦
              elim (cases_Bool (same_texts (as_texts u) (texts_top s.below_it))) [
                | inl f ↦ same (s.same b u is.0 f)
                | inr f ↦
                    let q = ap (times p) (s.texts b u is.0 f) in
                    let r = retexted-times p m (lone (one_text b u)) t once in
                    let z = lone-other p b u other in
                    omega (arith, q, r, z)
              ]
        ]

    by : (times m t ≡ 0) ⊎ (times m t ≡ 1) → times p (put b m u t) ≤ times p t
    by (inl e) = same (put-absent b m u t e)
    by (inr e) = at_one e

-- ---- nodes and trees

value-again : (c : Content) (text : List ℕ) → is_attribute c ≡ true → own_text c ≡ text → with_value text c ≡ c
value-again Root text e f = refl
value-again (Element name) text e f = refl
value-again (Attribute name old) text e f = ap (Attribute name) (sym f)
value-again (Text old) text e f = refl

module _ (a n : ℕ) (text : List ℕ) (t : Trees) where
  abbrev nodes : List Node
  nodes = onto 0 t []

  attribute-is : is_attribute_at n nodes ≡ is_at is_attribute n t
  attribute-is = any-is is_attribute n t

  absent-case : times n t ≡ 0 → with_settled_text a n text nodes ≡ onto 0 (put a n text t) []
  absent-case z =
      let no = attribute-is ∙ at-absent is_attribute n t z in
      let gone : tree_of n nodes ≡ [] = ap first_tree (from-skip n 0 t [] z) in
      let back : nodes ≡ onto 0 (put a n text t) [] = ap (λ x. onto 0 x []) (sym (put-absent a n text t z)) in
      let skipped = texts-skip n (one_text a text) 0 t [] z in
      rw (no, gone) (by text skipped ∙ back)
    where
      by : (text : List ℕ) → with_texts n (one_text a text) nodes ≡ nodes → cond (are_texts (as_texts text) []) nodes (with_texts n (one_text a text) nodes) ≡ nodes
      by [] e = refl
      by (c ∷ cs) e = e

  module _ (fits : Fits n t) (one : times n t ≡ 1) where
    here : Spot n 0 t []
    here = spot n 0 t [] one fits tt

    value-case : is_attribute here.held ≡ true → with_settled_text a n text nodes ≡ onto 0 (put a n text t) []
    value-case is =
        let yes = attribute-is ∙ here.attribute ∙ is in
        let had : value_in (tree_of n nodes) ≡ own_text here.held = ap value_in here.stands in
        rw (yes, had) (by (bytes_eq (own_text here.held) text) refl)
      where
        by : (b : Bool) → bytes_eq (own_text here.held) text ≡ b → cond b nodes (with_attribute_text n text nodes) ≡ onto 0 (put a n text t) []
        by true e =
            let again = value-again here.held text is (same-bytes (own_text here.held) text e) in
            ap (λ x. onto 0 x []) (sym (here.value a text is ∙ here.same_value text again))
        by false e = valued-onto n text 0 t [] ∙ ap (λ x. onto 0 x []) (sym (here.value a text is))

    text-case : is_element here.held ≡ true → AreLeaves here.below_it → with_settled_text a n text nodes ≡ onto 0 (put a n text t) []
    text-case is leaves =
        let no = attribute-is ∙ here.attribute ∙ element-no_attribute here.held is in
        let plain = element-no_text here.held is in
        let among : texts_in (tree_of n nodes) ≡ texts_in (onto (suc here.depth) here.below_it []) = ap texts_in here.stands ∙ rw plain refl in
        let standing : are_texts (as_texts text) (texts_in (tree_of n nodes)) ≡ same_texts (as_texts text) (texts_top here.below_it) =
        texts-same (as_texts text) (texts_in (tree_of n nodes)) ∙ ap (λ l. same_texts (as_texts text) (map (λ (x : Node). own_text x.content) l)) among
        ∙ ap (same_texts (as_texts text)) (leaf-texts (suc here.depth) here.below_it leaves) in
        rw (no, standing) (by (same_texts (as_texts text) (texts_top here.below_it)) refl)
      where
        by : (b : Bool) → same_texts (as_texts text) (texts_top here.below_it) ≡ b → cond b nodes (with_texts n (one_text a text) nodes) ≡ onto 0 (put a n text t) []
        by true e = ap (λ x. onto 0 x []) (sym (here.same a text is e))
        by false e = texts-onto n (one_text a text) 0 t [] one (bare-leaf n t (here.leaf is)) tt ∙ ap (λ x. onto 0 x []) (sym (here.texts a text is e))

    there-case : with_settled_text a n text nodes ≡ onto 0 (put a n text t) []
    there-case = elim here.fits [ inl is ↦ value-case is | inr is ↦ text-case is.0 is.1 ]

  pub settled-onto : Fits n t → times n t ≤ 1 → with_settled_text a n text nodes ≡ onto 0 (put a n text t) []
  settled-onto fits once = elim (few (times n t) once) [ inl z ↦ absent-case z | inr one ↦ there-case fits one ]

-- ---- many

-- each of these nodes fits, stands once at most, and has an earlier number
abbrev pub AreReady : ℕ → Contents → Trees → Type 0
AreReady number [] t = ⊤
AreReady number (p ∷ ps) t = Fits p.0 t × (times p.0 t ≤ 1) × (p.0 < number) × AreReady number ps t

pub ready-later : (number : ℕ) (contents : Contents) (t : Trees) → AreReady number contents t → AreReady (suc number) contents t
ready-later number [] t h = tt
ready-later number (p ∷ ps) t h = let less = h.2 in (h.0, h.1, omega (arith, less), ready-later number ps t h.3)

pub ready-put : (number m : ℕ) (u : List ℕ) (contents : Contents) (t : Trees) → Fits m t → times m t ≤ 1 → AreReady number contents t → AreReady number contents (put number m u t)
ready-put number m u [] t fits once h = tt
ready-put number m u (p ∷ ps) t fits once h =
    let less = h.2 in
    let other : (number == p.0) ≡ false = grind (arith, nat_tests, less) in
    let one = h.1 in
    let fewer = times-put p.0 number m u t other fits once in
    (fits-put p.0 number m u t other h.0, omega (arith, one, fewer), less, ready-put number m u ps t fits once h.3)

pub written-onto : (done : ℕ → Bool) (number : ℕ) (contents : Contents) (t : Trees) → AreReady number contents t → written done number contents (onto 0 t []) ≡ onto 0 (put_all done number contents t) []
written-onto done number [] t h = refl
written-onto done number ((n, text) ∷ rest) t h =
    elim (cases_Bool (done n)) [
      | inl e ↦ rw e (ap (written done (suc number) rest) (settled-onto number n text t h.0 h.1)
          ∙ written-onto done (suc number) rest (put number n text t) (ready-later number rest (put number n text t) (ready-put number n text rest t h.0 h.1 h.3)))
      | inr e ↦ rw e (written-onto done (suc number) rest t (ready-later number rest t h.3))
    ]

-- a node that is ready stays so
pub fits-all : (done : ℕ → Bool) (number : ℕ) (contents : Contents) (t : Trees) (n : ℕ) → AreReady number contents t → Fits n t → times n t ≤ 1 → n < number
    → Fits n (put_all done number contents t) × (times n (put_all done number contents t) ≤ 1)
fits-all done number [] t n h fits once less = (fits, once)
fits-all done number ((m, u) ∷ rest) t n h fits once less =
    elim (cases_Bool (done m)) [
      | inl e ↦
          let other : (number == n) ≡ false = grind (arith, nat_tests, less) in
          let fewer = times-put n number m u t other h.0 h.1 in
          rw e (fits-all done (suc number) rest (put number m u t) n (ready-later number rest (put number m u t) (ready-put number m u rest t h.0 h.1 h.3)) (fits-put n number m u t other fits)
          (omega (arith, once, fewer)) (omega (arith, less)))
      | inr e ↦ rw e (fits-all done (suc number) rest t n (ready-later number rest t h.3) fits once (omega (arith, less)))
    ]

pub ready-of : (number n : ℕ) (text : List ℕ) (front back : Contents) (t : Trees) → AreReady number (with_one front n text back) t → Fits n t × (times n t ≤ 1) × (n < number)
ready-of number n text [] back t h = (h.0, h.1, h.2)
ready-of number n text (p ∷ ps) back t h = ready-of number n text ps back t h.3

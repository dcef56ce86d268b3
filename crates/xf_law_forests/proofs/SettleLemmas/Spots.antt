-- Where a number stands once: what a settling there makes of the trees, and what the list of nodes says of it.
use Rattle.std.proofs.Common.{◌≡◌, ℕ, suc, ◌==◌, Bool, true, false, ◌&&◌, ◌||◌, List, [], ◌∷◌, map, refl, sym, ap, ◌∙◌, subst, inl, inr, arith}
use Rattle.std.specs.Prelude.{◌⊎◌, ⊤}
use Rattle.std.specs.Str.{bytes_eq}
use Rattle.std.proofs.lemmas.Bool.{cases_Bool}
use Rattle.std.proofs.lemmas.Bool.Decides.{nat_tests}
use Rattle.xf_def_forest.specs.declared.content.Node.{Node}
use Rattle.xf_def_forest.specs.declared.content.Content.{Content}
use Rattle.xf_def_forest.specs.declared.content.Content.TheVariants.{Root, Element, Attribute, Text}
use Rattle.xf_def_forest.specs.Forest.{is_element, is_attribute, is_text, own_text, from_node, first_tree}
use Rattle.xf_def_forest.specs.Shape.{as_texts}
use Rattle.xf_def_forest.specs.Texts.{with_value, one_text, texts_in}
use Rattle.xf_def_forest.specs.Settle.{are_texts}
use Rattle.xf_law_forests.proofs.RollbackLemmas.Trees.{Trees, none, tree, onto, followed, times, StopsAt, stops-onto}
use Rattle.xf_law_forests.proofs.RollbackLemmas.TreeTexts.{lone, attributes, retexted, revalued, below-onto, times-split, retexted-absent, Where, here, inside, later, where_is}
use Rattle.xf_law_forests.proofs.RollbackLemmas.TreeBlank.{AreLeaves, LeafAt, leaf-absent}
use Rattle.xf_law_forests.proofs.RollbackLemmas.TreeFacts.{is_at, at-absent}
use Rattle.xf_law_forests.proofs.SettleLemmas.KindLemmas.{attribute-no_element}
use Rattle.xf_law_forests.proofs.SettleLemmas.Put.{texts_top, same_texts, put}

-- a node with this number is an attribute, or an element with attributes and texts alone below it
abbrev pub FitsHere : Content → Trees → Type 0
FitsHere c k = (is_attribute c ≡ true) ⊎ ((is_element c ≡ true) × AreLeaves k)

abbrev pub Fits : ℕ → Trees → Type 0
Fits n none = ⊤
Fits n (tree m c k r) = ((m == n) ≡ true → FitsHere c k) × Fits n k × Fits n r

-- ---- where the number is not

pub put-absent : (a n : ℕ) (text : List ℕ) (t : Trees) → times n t ≡ 0 → put a n text t ≡ t
put-absent a n text none h = refl
put-absent a n text (tree m c k r) h =
    let parts = times-split n m c k r h in
    rw parts.0 (ap (λ x. tree m c x (put a n text r)) (put-absent a n text k parts.1) ∙ ap (tree m c k) (put-absent a n text r parts.2))

revalued-absent : (n : ℕ) (text : List ℕ) (t : Trees) → times n t ≡ 0 → revalued n text t ≡ t
revalued-absent n text none h = refl
revalued-absent n text (tree m c k r) h =
    let parts = times-split n m c k r h in
    rw parts.0 (ap (λ x. tree m c x (revalued n text r)) (revalued-absent n text k parts.1) ∙ ap (tree m c k) (revalued-absent n text r parts.2))

pub from-skip : (n d : ℕ) (t : Trees) (ys : List Node) → times n t ≡ 0 → from_node n (onto d t ys) ≡ from_node n ys
from-skip n d none ys h = refl
from-skip n d (tree m c k r) ys h =
    let parts = times-split n m c k r h in
    rw parts.0 (from-skip n (suc d) k (onto d r ys) parts.1 ∙ from-skip n d r ys parts.2)

-- ---- where it is

-- what stands there, and what becomes of the trees
pub record Spot (n d : ℕ) (t : Trees) (ys : List Node) : Type 0 where
  pub held : Content
  pub below_it : Trees
  pub depth : ℕ
  pub stands : first_tree (from_node n (onto d t ys)) ≡ record { number = n; depth = depth; content = held } ∷ onto (suc depth) below_it []
  pub attribute : is_at is_attribute n t ≡ is_attribute held
  pub fits : FitsHere held below_it
  pub leaf : is_element held ≡ true → LeafAt n t
  pub value : (a : ℕ) (text : List ℕ) → is_attribute held ≡ true → put a n text t ≡ revalued n text t
  pub same_value : (text : List ℕ) → with_value text held ≡ held → revalued n text t ≡ t
  pub texts : (a : ℕ) (text : List ℕ) → is_element held ≡ true → same_texts (as_texts text) (texts_top below_it) ≡ false → put a n text t ≡ retexted n (lone (one_text a text)) t
  pub same : (a : ℕ) (text : List ℕ) → is_element held ≡ true → same_texts (as_texts text) (texts_top below_it) ≡ true → put a n text t ≡ t

element-value : (text : List ℕ) (c : Content) → is_element c ≡ true → with_value text c ≡ c
element-value text Root e = refl
element-value text (Element name) e = refl
element-value text (Attribute name old) e = let no : false ≡ true = e in cc
element-value text (Text old) e = refl

leaves : (c : Content) (k : Trees) → is_element c ≡ true → FitsHere c k → AreLeaves k
leaves c k is (inl e) = let no : false ≡ true = sym (attribute-no_element c e) ∙ is in cc
leaves c k is (inr h) = h.1

or-nothing : (b : Bool) → (b || (false || false)) ≡ b
or-nothing true = refl
or-nothing false = refl

or-last : (b : Bool) → (b || false) ≡ b
or-last true = refl
or-last false = refl

one : (n m : ℕ) → (m == n) ≡ true → m ≡ n
one n m e = grind (arith, nat_tests, e)

pub spot : (n d : ℕ) (t : Trees) (ys : List Node) → times n t ≡ 1 → Fits n t → StopsAt d ys → Spot n d t ys
spot n d none ys once fits stops = absurd (let no : ⊥ = omega (arith, once) in no)
spot n d (tree m c k r) ys once fits stops =
    by (where_is n m c k r once) (λ p. spot n (suc d) k (onto d r ys) p fits.1 (stops-onto d r ys stops)) (λ q. spot n d r ys q fits.2 stops)
  where
    other-than : (m == n) ≡ false → (m == n) ≡ true → (is_element c ≡ true) × AreLeaves k
    other-than e f = let no : false ≡ true = sym e ∙ f in cc

    by : Where n m k r → (times n k ≡ 1 → Spot n (suc d) k (onto d r ys)) → (times n r ≡ 1 → Spot n d r ys) → Spot n d (tree m c k r) ys
    by (here e p q) _ _ =
        let number : m ≡ n = one n m e in
        let tree_here : first_tree (record { number = m; depth = d; content = c } ∷ onto (suc d) k (onto d r ys)) ≡ record { number = n; depth = d; content = c } ∷ onto (suc d) k [] =
        ap (λ l. record { number = m; depth = d; content = c } ∷ l) (below-onto d k (onto d r ys) (stops-onto d r ys stops))
        ∙ ap (λ j. record { number = j; depth = d; content = c } ∷ onto (suc d) k []) number in
        let in_k = at-absent is_attribute n k p in
        let in_r = at-absent is_attribute n r q in
        record {
          held = c;
          below_it = k;
          depth = d;
          stands = rw e tree_here;
          attribute = rw (e, in_k, in_r) (or-nothing (is_attribute c));
          fits = fits.0 e;
          leaf = λ is. (λ f. (is, leaves c k is (fits.0 e)), leaf-absent n k p, leaf-absent n r q);
          value = λ a text is.
              let no = attribute-no_element c is in
              rw (e, no) (ap (λ x. tree m (with_value text c) x (put a n text r)) (put-absent a n text k p ∙ sym (revalued-absent n text k p))
              ∙ ap (tree m (with_value text c) (revalued n text k)) (put-absent a n text r q ∙ sym (revalued-absent n text r q)));
          same_value = λ text f. rw e (ap (λ x. tree m x (revalued n text k) (revalued n text r)) f ∙ ap (λ x. tree m c x (revalued n text r)) (revalued-absent n text k p) ∙ ap (tree m c k) (revalued-absent n text r q));
          texts = λ a text is other.
              rw (e, is, other) (ap (λ x. tree m x (followed (attributes k) (lone (one_text a text))) (put a n text r)) (element-value text c is)
              ∙ ap (tree m c (followed (attributes k) (lone (one_text a text)))) (put-absent a n text r q ∙ sym (retexted-absent n (lone (one_text a text)) r q)));
          same = λ a text is other. rw (e, is, other) (ap (λ x. tree m x k (put a n text r)) (element-value text c is) ∙ ap (tree m c k) (put-absent a n text r q));
        }
    by (inside e p q) first _ =
        let s = first p in
        let in_r = at-absent is_attribute n r q in
        record {
          held = s.held;
          below_it = s.below_it;
          depth = s.depth;
          stands = rw e s.stands;
          attribute = rw (e, in_r) (or-last (is_at is_attribute n k) ∙ s.attribute);
          fits = s.fits;
          leaf = λ is. (λ f. other-than e f, s.leaf is, leaf-absent n r q);
          value = λ a text is. rw e (ap (λ x. tree m c x (put a n text r)) (s.value a text is) ∙ ap (tree m c (revalued n text k)) (put-absent a n text r q ∙ sym (revalued-absent n text r q)));
          same_value = λ text f. rw e (ap (λ x. tree m c x (revalued n text r)) (s.same_value text f) ∙ ap (tree m c k) (revalued-absent n text r q));
          texts = λ a text is other.
              rw e (ap (λ x. tree m c x (put a n text r)) (s.texts a text is other)
              ∙ ap (tree m c (retexted n (lone (one_text a text)) k)) (put-absent a n text r q ∙ sym (retexted-absent n (lone (one_text a text)) r q)));
          same = λ a text is other. rw e (ap (λ x. tree m c x (put a n text r)) (s.same a text is other) ∙ ap (tree m c k) (put-absent a n text r q));
        }
    by (later e p q) _ second =
        let s = second q in
        let in_k = at-absent is_attribute n k p in
        record {
          held = s.held;
          below_it = s.below_it;
          depth = s.depth;
          stands = rw e (ap first_tree (from-skip n (suc d) k (onto d r ys) p) ∙ s.stands);
          attribute = rw (e, in_k) s.attribute;
          fits = s.fits;
          leaf = λ is. (λ f. other-than e f, leaf-absent n k p, s.leaf is);
          value = λ a text is. rw e (ap (λ x. tree m c x (put a n text r)) (put-absent a n text k p ∙ sym (revalued-absent n text k p)) ∙ ap (tree m c (revalued n text k)) (s.value a text is));
          same_value = λ text f. rw e (ap (λ x. tree m c x (revalued n text r)) (revalued-absent n text k p) ∙ ap (tree m c k) (s.same_value text f));
          texts = λ a text is other.
              rw e (ap (λ x. tree m c x (put a n text r)) (put-absent a n text k p ∙ sym (retexted-absent n (lone (one_text a text)) k p))
              ∙ ap (tree m c (retexted n (lone (one_text a text)) k)) (s.texts a text is other));
          same = λ a text is other. rw e (ap (λ x. tree m c x (put a n text r)) (put-absent a n text k p) ∙ ap (tree m c k) (s.same a text is other));
        }

-- ---- the texts there, as nodes

pub texts-same : (ts : List (List ℕ)) (xs : List Node) → are_texts ts xs ≡ same_texts ts (map (λ (x : Node). own_text x.content) xs)
texts-same [] [] = refl
texts-same [] (x ∷ xs) = refl
texts-same (t ∷ ts) [] = refl
texts-same (t ∷ ts) (x ∷ xs) = ap (λ b. bytes_eq (own_text x.content) t && b) (texts-same ts xs)

pub leaf-texts : (d : ℕ) (k : Trees) → AreLeaves k → map (λ (x : Node). own_text x.content) (texts_in (onto d k [])) ≡ texts_top k
leaf-texts d none h = refl
leaf-texts d (tree m c k r) h =
    subst (λ j. map (λ (x : Node). own_text x.content) (texts_in (onto d (tree m c j r) [])) ≡ texts_top (tree m c j r)) (sym h.1) (by (cases_Bool (is_text c)) (leaf-texts d r h.2))
  where
    by : (is_text c ≡ true) ⊎ (is_text c ≡ false) → map (λ (x : Node). own_text x.content) (texts_in (onto d r [])) ≡ texts_top r
        → map (λ (x : Node). own_text x.content) (texts_in (onto d (tree m c none r) [])) ≡ texts_top (tree m c none r)
    by (inl e) rest = rw e (ap (λ l. own_text c ∷ l) rest)
    by (inr e) rest = rw e rest

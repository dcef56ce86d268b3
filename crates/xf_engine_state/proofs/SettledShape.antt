-- A text that is settled leaves the shape of the data as it is, told of the trees.
use Rattle.std.proofs.Common.{◌≡◌, ℕ, ◌==◌, Bool, true, false, cond, ◌&&◌, ◌||◌, List, [], ◌∷◌, map, Some, None, refl, sym, ap, ◌∙◌, subst, inl, inr, arith}
use Rattle.std.proofs.Math.Path.{fun_ext}
use Rattle.std.proofs.lemmas.Bool.Decides.{nat_tests}
use Rattle.xf_def_forest.specs.declared.content.Content.{Content}
use Rattle.xf_def_forest.specs.declared.content.Content.TheVariants.{Root, Element, Attribute, Text}
use Rattle.xf_def_forest.specs.Forest.{is_element, is_attribute, is_text}
use Rattle.xf_def_forest.specs.Shape.{as_texts, erased, has_elements, only_text, retexted, shape, shape_of, without_text}
use Rattle.xf_def_forest.specs.Texts.{one_text, with_value}
use Rattle.xf_def_forest.specs.Visit.{Visit, is_first, visits}
use Rattle.xf_def_forest.proofs.ShapeLaws.{Differ, differ-shape}
use Rattle.xf_def_forest.proofs.ShapeLaws as differ
use Rattle.xf_law_forests.proofs.RollbackLemmas.Trees.{Trees, none, tree, followed, onto}
use Rattle.xf_law_forests.proofs.RollbackLemmas.TreeBlank.{AreLeaves}
use Rattle.xf_law_forests.proofs.RollbackLemmas.TreeTexts.{attributes, lone}
use Rattle.xf_law_forests.proofs.RollbackLemmas.TreeVisits.{seen, visits-seen}
use Rattle.xf_law_forests.proofs.SettleLemmas.KindLemmas.{attribute-no_element, leaf-text}
use Rattle.xf_law_forests.proofs.SettleLemmas.Put.{content, put, same_texts, texts_top, valued}
use Rattle.xf_law_forests.proofs.SettleLemmas.Spots.{Fits, FitsHere}

-- ---- contents

valued-bare : (n : ℕ) (text : List ℕ) (m : ℕ) (c : Content) → without_text (valued n text m c) ≡ without_text c
valued-bare n text m c = by (m == n) c
  where
    by : (b : Bool) (c : Content) → without_text (cond b (with_value text c) c) ≡ without_text c
    by true Root = refl
    by true (Element name) = refl
    by true (Attribute name old) = refl
    by true (Text old) = refl
    by false c = refl

bare-text : (c : Content) → is_text (without_text c) ≡ is_text c
bare-text Root = refl
bare-text (Element name) = refl
bare-text (Attribute name old) = refl
bare-text (Text old) = refl

bare-element : (c : Content) → is_element (without_text c) ≡ is_element c
bare-element Root = refl
bare-element (Element name) = refl
bare-element (Attribute name old) = refl
bare-element (Text old) = refl

bare-again : (c : Content) → without_text (without_text c) ≡ without_text c
bare-again Root = refl
bare-again (Element name) = refl
bare-again (Attribute name old) = refl
bare-again (Text old) = refl

-- ---- visits, texts empty

abbrev seen_at : ℕ → List ℕ → Content → Visit
seen_at m up c = record { number = m; above = up; content = c }

abbrev bare : List Visit → List Visit
bare xs = map erased xs

module _ (n : ℕ) where
  both-seen : (up : List ℕ) (t : Trees) (ws vs : List Visit) → Differ n (bare ws) (bare vs) → Differ n (bare (seen up t ws)) (bare (seen up t vs))
  both-seen up none ws vs h = h
  both-seen up (tree m c k r) ws vs h = differ.both (both-seen (m ∷ up) k (seen up r ws) (seen up r vs) (both-seen up r ws vs h))

  module _ (a : ℕ) (text : List ℕ) (m : ℕ) (here : (m == n) ≡ true) (up : List ℕ) where
    turned : (n == m) ≡ true
    turned = grind (arith, nat_tests, here)

    text-of : (p : ℕ) (c : Content) → is_text c ≡ true → differ.IsTextOf n (erased (seen_at p (m ∷ up) c))
    text-of p c h = (bare-text c ∙ h, turned)

    lone-seen : (text : List ℕ) (ws vs : List Visit) → Differ n (bare ws) (bare vs) → Differ n (bare (seen (m ∷ up) (lone (one_text a text)) ws)) (bare vs)
    lone-seen [] ws vs h = h
    lone-seen (c ∷ cs) ws vs h = differ.left (text-of a (Text (c ∷ cs)) refl) h

    leaves-seen : (k : Trees) (ws vs : List Visit) → AreLeaves k → Differ n (bare ws) (bare vs) → Differ n (bare (seen (m ∷ up) (followed (attributes k) (lone (one_text a text))) ws)) (bare (seen (m ∷ up) k vs))
    leaves-seen none ws vs l h = lone-seen text ws vs h
    leaves-seen (tree p c j r) ws vs l h =
        subst (λ i. Differ n (bare (seen (m ∷ up) (followed (attributes (tree p c i r)) (lone (one_text a text))) ws)) (bare (seen (m ∷ up) (tree p c i r) vs))) (sym l.1) (by (is_attribute c) refl (leaves-seen r ws vs l.2 h))
      where
        by : (b : Bool) → is_attribute c ≡ b → Differ n (bare (seen (m ∷ up) (followed (attributes r) (lone (one_text a text))) ws)) (bare (seen (m ∷ up) r vs))
            → Differ n (bare (seen (m ∷ up) (followed (cond b (tree p c none (attributes r)) (attributes r)) (lone (one_text a text))) ws)) (bare (seen (m ∷ up) (tree p c none r) vs))
        by true e i = differ.both i
        by false e i = differ.right (text-of p c (leaf-text c l.0 e)) i

    content-seen : (k : Trees) (ws vs : List Visit) → AreLeaves k → Differ n (bare ws) (bare vs) → Differ n (bare (seen (m ∷ up) (content a text k) ws)) (bare (seen (m ∷ up) k vs))
    content-seen k ws vs l h = by (same_texts (as_texts text) (texts_top k))
      where
        by : (b : Bool) → Differ n (bare (seen (m ∷ up) (cond b k (followed (attributes k) (lone (one_text a text)))) ws)) (bare (seen (m ∷ up) k vs))
        by true = both-seen (m ∷ up) k ws vs h
        by false = leaves-seen k ws vs l h

  put-seen : (a : ℕ) (text : List ℕ) (up : List ℕ) (t : Trees) (ws vs : List Visit) → Fits n t → Differ n (bare ws) (bare vs) → Differ n (bare (seen up (put a n text t) ws)) (bare (seen up t vs))
  put-seen a text up none ws vs f h = h
  put-seen a text up (tree m c k r) ws vs f h =
      let later = put-seen a text up r ws vs f.2 h in
      let deeper = put-seen a text (m ∷ up) k (seen up (put a n text r) ws) (seen up r vs) f.1 later in
      subst (λ d. Differ n (record { number = m; above = up; content = d } ∷ bare (seen (m ∷ up) (below_it (is_element c) (m == n)) (seen up (put a n text r) ws))) (bare (seen up (tree m c k r) vs))) (sym (valued-bare n text m c))
      (differ.both (by later deeper (m == n) refl (is_element c) refl))
    where
      below_it : Bool → Bool → Trees
      below_it e b = cond (b && e) (content a text k) (put a n text k)

      leaves : is_element c ≡ true → FitsHere c k → AreLeaves k
      leaves e (inl i) = let wrong : false ≡ true = sym (attribute-no_element c i) ∙ e in cc
      leaves e (inr i) = i.1

      by : Differ n (bare (seen up (put a n text r) ws)) (bare (seen up r vs)) → Differ n (bare (seen (m ∷ up) (put a n text k) (seen up (put a n text r) ws))) (bare (seen (m ∷ up) k (seen up r vs)))
          → (b : Bool) → (m == n) ≡ b → (e : Bool) → is_element c ≡ e → Differ n (bare (seen (m ∷ up) (below_it e b) (seen up (put a n text r) ws))) (bare (seen (m ∷ up) k (seen up r vs)))
      by later deeper true i true j = content-seen a text m i up k (seen up (put a n text r) ws) (seen up r vs) (leaves j (f.0 i)) later
      by later deeper true i false j = deeper
      by later deeper false i e j = deeper

-- ---- the shape of such visits

bare-twice : (xs : List Visit) → bare (bare xs) ≡ bare xs
bare-twice [] = refl
bare-twice (x ∷ xs) = ap (λ c. record x { content = c } ∷ bare (bare xs)) (bare-again x.content) ∙ ap (λ l. erased x ∷ l) (bare-twice xs)

elements-bare : (m : ℕ) (xs : List Visit) → has_elements (bare xs) m ≡ has_elements xs m
elements-bare m [] = refl
elements-bare m (x ∷ xs) = ap (λ b. (b && is_first m x.above) || has_elements (bare xs) m) (bare-element x.content) ∙ ap (λ b. (is_element x.content && is_first m x.above) || b) (elements-bare m xs)

pub shape-bare : (xs : List Visit) → shape (bare xs) ≡ shape xs
shape-bare xs =
    ap (λ u. retexted u (bare (bare xs))) (fun_ext (λ m. ap (λ b. cond b None (Some ([] ∷ []))) (elements-bare m xs)))
    ∙ ap (retexted (only_text xs)) (bare-twice xs)

-- ---- the law

pub put-shape : (a n : ℕ) (text : List ℕ) (t : Trees) → Fits n t → has_elements (visits (onto 0 t [])) n ≡ false → shape_of (onto 0 (put a n text t) []) ≡ shape_of (onto 0 t [])
put-shape a n text t fits childless =
    let before : List Visit = seen [] t [] in
    let after : List Visit = seen [] (put a n text t) [] in
    let plain : has_elements (bare before) n ≡ false = elements-bare n before ∙ ap (λ l. has_elements l n) (sym (visits-seen t)) ∙ childless in
    ap shape (visits-seen (put a n text t))
    ∙ sym (shape-bare after) ∙ differ-shape n (bare after) (bare before) plain (put-seen n a text [] t [] [] fits differ.ended) ∙ shape-bare before
    ∙ ap shape (sym (visits-seen t))

-- A text that is settled stands in an element, told of the trees.
use Rattle.std.proofs.Common.{◌≡◌, ℕ, zero, suc, ◌==◌, Bool, true, false, not, cond, ◌&&◌, ◌||◌, List, [], ◌∷◌, nat_lt, refl, sym, ap, ◌∙◌, inl, inr, arith}
use Rattle.std.proofs.lemmas.Bool.Decides.{nat_tests}
use Rattle.xf_def_forest.specs.declared.content.Content.{Content}
use Rattle.xf_def_forest.specs.declared.content.Content.TheVariants.{Root, Element, Attribute, Text}
use Rattle.xf_def_forest.specs.declared.content.Node.{Node}
use Rattle.xf_def_forest.specs.Forest.{is_element, is_attribute, is_root, is_text}
use Rattle.xf_def_forest.specs.Shape.{as_texts}
use Rattle.xf_def_forest.specs.Texts.{one_text, with_value}
use Rattle.xf_law_forests.proofs.RollbackLemmas.Trees.{Trees, none, tree, followed, onto}
use Rattle.xf_law_forests.proofs.RollbackLemmas.TreeBlank.{AreLeaves}
use Rattle.xf_law_forests.proofs.RollbackLemmas.TreeTexts.{attributes, lone}
use Rattle.xf_law_forests.proofs.SettleLemmas.KindLemmas.{attribute-no_element, and-parts}
use Rattle.xf_law_forests.proofs.SettleLemmas.Put.{content, put, same_texts, texts_top, valued}
use Rattle.xf_law_forests.proofs.SettleLemmas.Spots.{Fits, FitsHere}
use Rattle.xf_law_recalculation.specs.Agree.Hung.{are_hung, are_hung_from, hangs, rooted_by}

both : (a b : Bool) → a ≡ true → b ≡ true → (a && b) ≡ true
both true b e f = f
both false b e f = cc e

valued-kinds : (n : ℕ) (text : List ℕ) (m : ℕ) (c : Content) → (is_text (valued n text m c) ≡ is_text c) × (is_root (valued n text m c) ≡ is_root c)
valued-kinds n text m c = by (m == n) c
  where
    by : (b : Bool) (c : Content) → (is_text (cond b (with_value text c) c) ≡ is_text c) × (is_root (cond b (with_value text c) c) ≡ is_root c)
    by true Root = (refl, refl)
    by true (Element name) = (refl, refl)
    by true (Attribute name old) = (refl, refl)
    by true (Text old) = (refl, refl)
    by false c = (refl, refl)

element-root : (c : Content) → is_element c ≡ true → is_root c ≡ false
element-root Root e = let wrong : false ≡ true = e in cc
element-root (Element name) e = refl
element-root (Attribute name old) e = refl
element-root (Text old) e = refl

abbrev at : ℕ → ℕ → Content → Node
at m d c = record { number = m; depth = d; content = c }

-- behind any root or none, what is hung before is so after
abbrev Later : List Node → List Node → Type 0
Later vs ws = (r : Bool) → are_hung_from r vs ≡ true → are_hung_from r ws ≡ true

rooted-deep : (r : Bool) (m d : ℕ) (c : Content) → rooted_by r (at m (suc d) c) ≡ r
rooted-deep r m d c = ap (λ b. cond b (is_root c) r) (below_top d)
  where
    below_top : (e : ℕ) → (suc e == 0) ≡ false
    below_top e = grind (arith, nat_tests)

-- a text one below an element
text-hangs : (r : Bool) (m d : ℕ) (c : Content) → (d ≡ 0 → r ≡ false) → hangs r (at m (suc d) c) ≡ true
text-hangs r m zero c h = by (is_text c) r (h refl)
  where
    by : (t s : Bool) → s ≡ false → (not t || false || (true && not s)) ≡ true
    by true s e = ap not e
    by false s e = refl
text-hangs r m (suc d) c h = by (is_text c)
  where
    deep : nat_lt 1 (suc (suc d)) ≡ true
    deep = grind (arith, nat_tests)

    by : (t : Bool) → (not t || nat_lt 1 (suc (suc d)) || ((suc (suc d) == 1) && not r)) ≡ true
    by true = ap (λ b. b || ((suc (suc d) == 1) && not r)) deep
    by false = refl

both-hung : (d : ℕ) (t : Trees) (vs ws : List Node) → Later vs ws → Later (onto d t vs) (onto d t ws)
both-hung d none vs ws h r e = h r e
both-hung d (tree m c k s) vs ws h r e =
    let parts = and-parts (hangs r (at m d c)) (are_hung_from (rooted_by r (at m d c)) (onto (suc d) k (onto d s vs))) e in
    both _ _ parts.0 (both-hung (suc d) k (onto d s vs) (onto d s ws) (both-hung d s vs ws h) (rooted_by r (at m d c)) parts.1)

module _ (a : ℕ) (text : List ℕ) (d : ℕ) (r : Bool) (in_element : d ≡ 0 → r ≡ false) where
  lone-hung : (text : List ℕ) (vs ws : List Node) → Later vs ws → are_hung_from r vs ≡ true → are_hung_from r (onto (suc d) (lone (one_text a text)) ws) ≡ true
  lone-hung [] vs ws h e = h r e
  lone-hung (c ∷ cs) vs ws h e = both _ _ (text-hangs r a d (Text (c ∷ cs)) in_element) (ap (λ q. are_hung_from q ws) (rooted-deep r a d (Text (c ∷ cs))) ∙ h r e)

  leaves-hung : (k : Trees) (vs ws : List Node) → AreLeaves k → Later vs ws → are_hung_from r (onto (suc d) k vs) ≡ true → are_hung_from r (onto (suc d) (followed (attributes k) (lone (one_text a text))) ws) ≡ true
  leaves-hung none vs ws l h e = lone-hung text vs ws h e
  leaves-hung (tree p c j s) vs ws l h e =
      let whole : are_hung_from r (onto (suc d) (tree p c none s) vs) ≡ true = ap (λ i. are_hung_from r (onto (suc d) (tree p c i s) vs)) (sym l.1) ∙ e in
      let parts = and-parts (hangs r (at p (suc d) c)) (are_hung_from (rooted_by r (at p (suc d) c)) (onto (suc d) s vs)) whole in
      let rest : are_hung_from r (onto (suc d) s vs) ≡ true = ap (λ q. are_hung_from q (onto (suc d) s vs)) (sym (rooted-deep r p d c)) ∙ parts.1 in
      ap (λ i. are_hung_from r (onto (suc d) (followed (attributes (tree p c i s)) (lone (one_text a text))) ws)) l.1
      ∙ by (is_attribute c) (leaves-hung s vs ws l.2 h rest)
    where
      by : (b : Bool) → are_hung_from r (onto (suc d) (followed (attributes s) (lone (one_text a text))) ws) ≡ true
          → are_hung_from r (onto (suc d) (followed (cond b (tree p c none (attributes s)) (attributes s)) (lone (one_text a text))) ws) ≡ true
      by true i = both _ _ (text-hangs r p d c in_element) (ap (λ q. are_hung_from q (onto (suc d) (followed (attributes s) (lone (one_text a text))) ws)) (rooted-deep r p d c) ∙ i)
      by false i = i

  content-hung : (k : Trees) (vs ws : List Node) → AreLeaves k → Later vs ws → are_hung_from r (onto (suc d) k vs) ≡ true → are_hung_from r (onto (suc d) (content a text k) ws) ≡ true
  content-hung k vs ws l h e = by (same_texts (as_texts text) (texts_top k))
    where
      by : (b : Bool) → are_hung_from r (onto (suc d) (cond b k (followed (attributes k) (lone (one_text a text)))) ws) ≡ true
      by true = both-hung (suc d) k vs ws h r e
      by false = leaves-hung k vs ws l h e

module _ (a n : ℕ) (text : List ℕ) where
  put-hung_from : (d : ℕ) (t : Trees) (vs ws : List Node) → Fits n t → Later vs ws → Later (onto d t vs) (onto d (put a n text t) ws)
  put-hung_from d none vs ws f h r e = h r e
  put-hung_from d (tree m c k s) vs ws f h r e =
      let parts = and-parts (hangs r (at m d c)) (are_hung_from (rooted_by r (at m d c)) (onto (suc d) k (onto d s vs))) e in
      let kinds = valued-kinds n text m c in
      let later = put-hung_from d s vs ws f.2 h in
      let first : hangs r (at m d (valued n text m c)) ≡ true = ap (λ b. not b || nat_lt 1 d || ((d == 1) && not r)) kinds.0 ∙ parts.0 in
      let rooted : rooted_by r (at m d (valued n text m c)) ≡ rooted_by r (at m d c) = ap (λ b. cond (d == 0) b r) kinds.1 in
      both _ _ first
      (ap (λ q. are_hung_from q (onto (suc d) (cond ((m == n) && is_element c) (content a text k) (put a n text k)) (onto d (put a n text s) ws))) rooted
      ∙ by later (put-hung_from (suc d) k (onto d s vs) (onto d (put a n text s) ws) f.1 later (rooted_by r (at m d c)) parts.1) parts.1 (m == n) refl (is_element c) refl)
    where
      leaves : is_element c ≡ true → FitsHere c k → AreLeaves k
      leaves e (inl i) = let wrong : false ≡ true = sym (attribute-no_element c i) ∙ e in cc
      leaves e (inr i) = i.1

      unrooted : is_element c ≡ true → d ≡ 0 → rooted_by r (at m d c) ≡ false
      unrooted e z = ap (λ q. cond (q == 0) (is_root c) r) z ∙ element-root c e

      by : Later (onto d s vs) (onto d (put a n text s) ws) → are_hung_from (rooted_by r (at m d c)) (onto (suc d) (put a n text k) (onto d (put a n text s) ws)) ≡ true
          → are_hung_from (rooted_by r (at m d c)) (onto (suc d) k (onto d s vs)) ≡ true
          → (b : Bool) → (m == n) ≡ b → (e : Bool) → is_element c ≡ e → are_hung_from (rooted_by r (at m d c)) (onto (suc d) (cond (b && e) (content a text k) (put a n text k)) (onto d (put a n text s) ws)) ≡ true
      by later deeper old true i true j = content-hung a text d (rooted_by r (at m d c)) (unrooted j) k (onto d s vs) (onto d (put a n text s) ws) (leaves j (f.0 i)) later old
      by later deeper old true i false j = deeper
      by later deeper old false i e j = deeper

  pub put-hung : (t : Trees) → Fits n t → are_hung (onto 0 t []) ≡ true → are_hung (onto 0 (put a n text t) []) ≡ true
  put-hung t f h = put-hung_from 0 t [] [] f (λ r e. e) true h

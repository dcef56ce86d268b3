-- Where a text is settled, all that is no text stays what it is, in the whole and in the instances; and texts stand in elements.
use Rattle.std.proofs.Common.{◌≡◌, ℕ, zero, suc, ◌==◌, Bool, true, false, not, cond, ◌&&◌, ◌||◌, List, [], ◌∷◌, map, nat_lt, refl, sym, ap, ◌∙◌, subst, inl, inr, arith}
use Rattle.std.proofs.lemmas.Bool.Decides.{nat_tests}
use Rattle.xf_def_forest.specs.declared.content.Node.{Node}
use Rattle.xf_def_forest.specs.declared.content.Content.{Content}
use Rattle.xf_def_forest.specs.declared.content.Content.TheVariants.{Root, Element, Attribute, Text}
use Rattle.xf_def_forest.specs.Changes.{in_instances}
use Rattle.xf_def_forest.specs.Forest.{is_root, is_element, is_attribute, is_text, has_number}
use Rattle.xf_def_forest.specs.Shape.{as_texts, erased, without_text}
use Rattle.xf_def_forest.specs.Texts.{one_text, with_value}
use Rattle.xf_def_forest.specs.Visit.{Visit, visits}
use Rattle.xf_law_forests.proofs.RollbackLemmas.Trees.{Trees, none, tree, followed, onto, times}
use Rattle.xf_law_forests.proofs.RollbackLemmas.TreeBlank.{AreLeaves}
use Rattle.xf_law_forests.proofs.RollbackLemmas.TreeTexts.{attributes, lone}
use Rattle.xf_law_forests.proofs.RollbackLemmas.TreeShape.{times-onto}
use Rattle.xf_law_forests.proofs.RollbackLemmas.TreeVisits.{seen, visits-seen}
use Rattle.xf_law_forests.proofs.RollbackLemmas.KeepingTrees.{absent-times}
use Rattle.xf_def_xpath.specs.Agree.{untexted}
use Rattle.xf_law_recalculation.specs.Agree.Hung.{are_hung, are_hung_from, hangs, rooted_by}
use Rattle.xf_law_forests.proofs.SettleLemmas.KindLemmas.{attribute-no_element, leaf-text}
use Rattle.xf_law_forests.proofs.SettleLemmas.Put.{content, put, same_texts, texts_top, valued}
use Rattle.xf_law_forests.proofs.SettleLemmas.Spots.{Fits, FitsHere}
use Rattle.xf_law_recalculation.proofs.SinceLemmas.Passes.{both, at, passes, Looks, put-passes}
use Rattle.xf_law_recalculation.proofs.SinceLemmas.TreesStay.{valued-kinds}

-- ---- without texts

valued-bare : (n : ℕ) (text : List ℕ) (m : ℕ) (c : Content) → without_text (valued n text m c) ≡ without_text c
valued-bare n text m c = by (m == n) c
  where
    by : (b : Bool) (c : Content) → without_text (cond b (with_value text c) c) ≡ without_text c
    by true Root = refl
    by true (Element name) = refl
    by true (Attribute name old) = refl
    by true (Text old) = refl
    by false c = refl

bare-text : (c : Content) → is_text (without_text c) ≡ is_text c
bare-text Root = refl
bare-text (Element name) = refl
bare-text (Attribute name old) = refl
bare-text (Text old) = refl

-- what is no text, its own text empty
abbrev pub solid_of : List Visit → List Visit
solid_of xs = untexted (map erased xs)

both-solid : (x : Visit) (xs ys : List Visit) → solid_of xs ≡ solid_of ys → solid_of (x ∷ xs) ≡ solid_of (x ∷ ys)
both-solid x xs ys h = ap (λ l. cond (not (is_text (without_text x.content))) (erased x ∷ l) l) h

text-gone : (x : Visit) (xs : List Visit) → is_text x.content ≡ true → solid_of (x ∷ xs) ≡ solid_of xs
text-gone x xs h = ap (λ b. cond (not b) (erased x ∷ solid_of xs) (solid_of xs)) (bare-text x.content ∙ h)

abbrev seen_at : ℕ → List ℕ → Content → Visit
seen_at m up c = record { number = m; above = up; content = c }

module _ (a n : ℕ) (text : List ℕ) where
  both-seen : (up : List ℕ) (t : Trees) (ws vs : List Visit) → solid_of ws ≡ solid_of vs → solid_of (seen up t ws) ≡ solid_of (seen up t vs)
  both-seen up none ws vs h = h
  both-seen up (tree m c k r) ws vs h = both-solid (seen_at m up c) (seen (m ∷ up) k (seen up r ws)) (seen (m ∷ up) k (seen up r vs)) (both-seen (m ∷ up) k (seen up r ws) (seen up r vs) (both-seen up r ws vs h))

  lone-seen : (u : List ℕ) (up : List ℕ) (ws vs : List Visit) → solid_of ws ≡ solid_of vs → solid_of (seen up (lone (one_text a u)) ws) ≡ solid_of vs
  lone-seen [] up ws vs h = h
  lone-seen (c ∷ cs) up ws vs h = h

  leaves-seen : (up : List ℕ) (k : Trees) (ws vs : List Visit) → AreLeaves k → solid_of ws ≡ solid_of vs → solid_of (seen up (followed (attributes k) (lone (one_text a text))) ws) ≡ solid_of (seen up k vs)
  leaves-seen up none ws vs l h = lone-seen text up ws vs h
  leaves-seen up (tree p c j r) ws vs l h =
      subst (λ i. solid_of (seen up (followed (attributes (tree p c i r)) (lone (one_text a text))) ws) ≡ solid_of (seen up (tree p c i r) vs)) (sym l.1) (by (is_attribute c) refl (leaves-seen up r ws vs l.2 h))
    where
      by : (b : Bool) → is_attribute c ≡ b → solid_of (seen up (followed (attributes r) (lone (one_text a text))) ws) ≡ solid_of (seen up r vs) →
          solid_of (seen up (followed (cond b (tree p c none (attributes r)) (attributes r)) (lone (one_text a text))) ws) ≡ solid_of (seen up (tree p c none r) vs)
      by true e i = both-solid (seen_at p up c) (seen up (followed (attributes r) (lone (one_text a text))) ws) (seen up r vs) i
      by false e i = i ∙ sym (text-gone (seen_at p up c) (seen up r vs) (leaf-text c l.0 e))

  content-seen : (up : List ℕ) (k : Trees) (ws vs : List Visit) → AreLeaves k → solid_of ws ≡ solid_of vs → solid_of (seen up (content a text k) ws) ≡ solid_of (seen up k vs)
  content-seen up k ws vs l h = by (same_texts (as_texts text) (texts_top k))
    where
      by : (b : Bool) → solid_of (seen up (cond b k (followed (attributes k) (lone (one_text a text)))) ws) ≡ solid_of (seen up k vs)
      by true = both-seen up k ws vs h
      by false = leaves-seen up k ws vs l h

  leaves-of : (c : Content) (k : Trees) → is_element c ≡ true → FitsHere c k → AreLeaves k
  leaves-of c k e (inl i) = let wrong : false ≡ true = sym (attribute-no_element c i) ∙ e in cc
  leaves-of c k e (inr i) = i.1

  put-seen : (up : List ℕ) (t : Trees) (ws vs : List Visit) → Fits n t → solid_of ws ≡ solid_of vs → solid_of (seen up (put a n text t) ws) ≡ solid_of (seen up t vs)
  put-seen up none ws vs f h = h
  put-seen up (tree m c k r) ws vs f h =
      let later = put-seen up r ws vs f.2 h in
      ap (λ d. cond (not (is_text d)) (record { number = m; above = up; content = d } ∷ solid_of (seen (m ∷ up) inner (seen up (put a n text r) ws))) (solid_of (seen (m ∷ up) inner (seen up (put a n text r) ws)))) (valued-bare n text m c)
      ∙ both-solid (seen_at m up c) (seen (m ∷ up) inner (seen up (put a n text r) ws)) (seen (m ∷ up) k (seen up r vs))
      (by later (put-seen (m ∷ up) k (seen up (put a n text r) ws) (seen up r vs) f.1 later) (m == n) refl (is_element c) refl)
    where
      inner : Trees
      inner = cond ((m == n) && is_element c) (content a text k) (put a n text k)

      by : solid_of (seen up (put a n text r) ws) ≡ solid_of (seen up r vs) → solid_of (seen (m ∷ up) (put a n text k) (seen up (put a n text r) ws)) ≡ solid_of (seen (m ∷ up) k (seen up r vs)) →
          (b : Bool) → (m == n) ≡ b → (e : Bool) → is_element c ≡ e → solid_of (seen (m ∷ up) (cond (b && e) (content a text k) (put a n text k)) (seen up (put a n text r) ws)) ≡ solid_of (seen (m ∷ up) k (seen up r vs))
      by later deeper true i true j = content-seen (m ∷ up) k (seen up (put a n text r) ws) (seen up r vs) (leaves-of c k j (f.0 i)) later
      by later deeper true i false j = deeper
      by later deeper false i e j = deeper

  pub put-solid : (t : Trees) → Fits n t → solid_of (visits (onto 0 (put a n text t) [])) ≡ solid_of (visits (onto 0 t []))
  put-solid t f = ap solid_of (visits-seen (put a n text t)) ∙ put-seen [] t [] [] f refl ∙ ap solid_of (sym (visits-seen t))

-- ---- the instances

-- the first of the trees, as long as these are roots'
abbrev pub front : Trees → Trees
front none = none
front (tree m c k r) = cond (is_root c) (tree m c k (front r)) none

deep-front : (d : ℕ) (k : Trees) (ys : List Node) → in_instances (onto (suc d) k ys) ≡ onto (suc d) k (in_instances ys)
deep-front d none ys = refl
deep-front d (tree m c k r) ys =
    ap (λ b. cond (b && not (is_root c)) [] (at m (suc d) c ∷ in_instances (onto (suc (suc d)) k (onto (suc d) r ys)))) no_top
    ∙ ap (λ l. at m (suc d) c ∷ l) (deep-front (suc d) k (onto (suc d) r ys) ∙ ap (onto (suc (suc d)) k) (deep-front d r ys))
  where
    no_top : (suc d == 0) ≡ false
    no_top = grind (arith, nat_tests)

pub in-front : (t : Trees) → in_instances (onto 0 t []) ≡ onto 0 (front t) []
in-front none = refl
in-front (tree m c k r) = by (is_root c) (deep-front 0 k (onto 0 r []) ∙ ap (onto 1 k) (in-front r))
  where
    by : (b : Bool) → in_instances (onto 1 k (onto 0 r [])) ≡ onto 1 k (onto 0 (front r) []) → cond (not b) [] (at m 0 c ∷ in_instances (onto 1 k (onto 0 r []))) ≡ onto 0 (cond b (tree m c k (front r)) none) []
    by true e = ap (λ l. at m 0 c ∷ l) e
    by false e = refl

root-valued : (n : ℕ) (text : List ℕ) (m : ℕ) (c : Content) → is_root (valued n text m c) ≡ is_root c
root-valued n text m c = (valued-kinds n text m c).1

pub front-put : (a n : ℕ) (text : List ℕ) (t : Trees) → front (put a n text t) ≡ put a n text (front t)
front-put a n text none = refl
front-put a n text (tree m c k r) =
    ap (λ b. cond b (tree m (valued n text m c) inner (front (put a n text r))) none) (root-valued n text m c) ∙ by (is_root c) (front-put a n text r)
  where
    inner : Trees
    inner = cond ((m == n) && is_element c) (content a text k) (put a n text k)

    by : (b : Bool) → front (put a n text r) ≡ put a n text (front r) → cond b (tree m (valued n text m c) inner (front (put a n text r))) none ≡ put a n text (cond b (tree m c k (front r)) none)
    by true e = ap (tree m (valued n text m c) inner) e
    by false e = refl

pub front-fits : (n : ℕ) (t : Trees) → Fits n t → Fits n (front t)
front-fits n none h = tt
front-fits n (tree m c k r) h = by (is_root c) (front-fits n r h.2)
  where
    by : (b : Bool) → Fits n (front r) → Fits n (cond b (tree m c k (front r)) none)
    by true f = (h.0, h.1, f)
    by false f = tt

pub front-absent : (n : ℕ) (t : Trees) → has_number n (in_instances (onto 0 t [])) ≡ false → times n (front t) ≡ 0
front-absent n t h =
    let none_there = absent-times n (onto 0 (front t) []) (ap (has_number n) (sym (in-front t)) ∙ h) in
    let sum = times-onto n 0 (front t) [] in
    omega (arith, none_there, sum)

-- ---- texts in elements

hung-pass : (r : Bool) (xs : List Node) → passes hangs rooted_by r xs ≡ are_hung_from r xs
hung-pass r [] = refl
hung-pass r (x ∷ xs) = ap (λ b. hangs r x && b) (hung-pass (rooted_by r x) xs)

abbrev NotRooted : ℕ → Bool → Type 0
NotRooted d r = d ≡ 0 → r ≡ false

rooted-deep : (r : Bool) (m d : ℕ) (c : Content) → rooted_by r (at m (suc d) c) ≡ r
rooted-deep r m d c = ap (λ b. cond b (is_root c) r) (below_top d)
  where
    below_top : (e : ℕ) → (suc e == 0) ≡ false
    below_top e = grind (arith, nat_tests)

text-hangs : (r : Bool) (m d : ℕ) (c : Content) → NotRooted d r → hangs r (at m (suc d) c) ≡ true
text-hangs r m zero c h = by (is_text c) r (h refl)
  where
    by : (t s : Bool) → s ≡ false → (not t || false || (true && not s)) ≡ true
    by true s e = ap not e
    by false s e = refl
text-hangs r m (suc d) c h = by (is_text c)
  where
    deep : nat_lt 1 (suc (suc d)) ≡ true
    deep = grind (arith, nat_tests)

    by : (t : Bool) → (not t || nat_lt 1 (suc (suc d)) || ((suc (suc d) == 1) && not r)) ≡ true
    by true = ap (λ b. b || ((suc (suc d) == 1) && not r)) deep
    by false = refl

element-root : (c : Content) → is_element c ≡ true → is_root c ≡ false
element-root Root e = let wrong : false ≡ true = e in cc
element-root (Element name) e = refl
element-root (Attribute name old) e = refl
element-root (Text old) e = refl

text-valued : (n : ℕ) (text : List ℕ) (m : ℕ) (c : Content) → is_text (valued n text m c) ≡ is_text c
text-valued n text m c = (valued-kinds n text m c).0

hung-look : (a n : ℕ) (text : List ℕ) → Looks hangs rooted_by NotRooted a n text
hung-look a n text = record {
  checks = λ s m d c h. ap (λ b. not b || nat_lt 1 d || ((d == 1) && not s)) (text-valued n text m c) ∙ h;
  goes = λ s m d c. ap (λ b. cond (d == 0) b s) (root-valued n text m c);
  enters = λ s m d c h z. ap (λ q. cond (q == 0) (is_root c) s) z ∙ element-root c h;
  stays = λ s m d c h i z. rooted-deep s m d c ∙ i z;
  skips = λ s m d c ys h i e. ap (λ q. passes hangs rooted_by q ys) (sym (rooted-deep s m d c)) ∙ e;
  adds = λ s d c cs ys i b e. both _ _ (text-hangs s a d (Text (c ∷ cs)) i) (ap (λ q. passes hangs rooted_by q ys) (rooted-deep s a d (Text (c ∷ cs))) ∙ e);
}

pub put-hung : (a n : ℕ) (text : List ℕ) (t : Trees) → Fits n t → are_hung (onto 0 t []) ≡ true → are_hung (onto 0 (put a n text t) []) ≡ true
put-hung a n text t f h =
    sym (hung-pass true (onto 0 (put a n text t) []))
    ∙ put-passes hangs rooted_by NotRooted a n text (hung-look a n text) 0 t [] [] f tt (λ s e. e) true (hung-pass true (onto 0 t []) ∙ h)

-- What is told of a list of nodes by one look at each, from the first on, is told still where a text is settled in it.
use Rattle.std.proofs.Common.{◌≡◌, ℕ, suc, ◌==◌, Bool, true, false, cond, ◌&&◌, List, [], ◌∷◌, refl, sym, ap, ◌∙◌, inl, inr, arith}
use Rattle.std.proofs.lemmas.Bool.Decides.{nat_tests}
use Rattle.xf_def_forest.specs.declared.content.Node.{Node}
use Rattle.xf_def_forest.specs.declared.content.Content.{Content}
use Rattle.xf_def_forest.specs.declared.content.Content.TheVariants.{Text}
use Rattle.xf_def_forest.specs.Forest.{is_element, is_attribute, is_text}
use Rattle.xf_def_forest.specs.Shape.{as_texts}
use Rattle.xf_def_forest.specs.Texts.{one_text}
use Rattle.xf_def_forest.proofs.VisitLemmas.{BeginsWithin}
use Rattle.xf_law_forests.proofs.RollbackLemmas.Trees.{Trees, none, tree, followed, onto}
use Rattle.xf_law_forests.proofs.RollbackLemmas.TreeBlank.{AreLeaves}
use Rattle.xf_law_forests.proofs.RollbackLemmas.TreeTexts.{attributes, lone}
use Rattle.xf_law_forests.proofs.RollbackLemmas.TreeVisits.{begins-onto}
use Rattle.xf_law_forests.proofs.SettleLemmas.KindLemmas.{attribute-no_element, leaf-text, and-parts}
use Rattle.xf_law_forests.proofs.SettleLemmas.Put.{content, put, same_texts, texts_top, valued}
use Rattle.xf_law_forests.proofs.SettleLemmas.Spots.{Fits, FitsHere}

pub both : (a b : Bool) → a ≡ true → b ≡ true → (a && b) ≡ true
both true b e f = f
both false b e f = cc e

abbrev pub at : ℕ → ℕ → Content → Node
at m d c = record { number = m; depth = d; content = c }

begins-more : (d : ℕ) (ys : List Node) → BeginsWithin d ys → BeginsWithin (suc d) ys
begins-more d [] h = tt
begins-more d (y ∷ ys) h = grind (arith, nat_tests, h)

-- each node passes the check in the state in which those before it leave it
abbrev pub passes : {S : Type 0} → (S → Node → Bool) → (S → Node → S) → S → List Node → Bool
passes check next s [] = true
passes check next s (x ∷ xs) = check s x && passes check next (next s x) xs

-- what a look at each needs: At tells the states below an element of a depth, and after its attributes
pub record Looks {S : Type 0} (check : S → Node → Bool) (next : S → Node → S) (At : ℕ → S → Type 0) (a n : ℕ) (text : List ℕ) : Type 0 where
  pub checks : (s : S) (m d : ℕ) (c : Content) → check s (at m d c) ≡ true → check s (at m d (valued n text m c)) ≡ true
  pub goes : (s : S) (m d : ℕ) (c : Content) → next s (at m d (valued n text m c)) ≡ next s (at m d c)
  pub enters : (s : S) (m d : ℕ) (c : Content) → is_element c ≡ true → At d (next s (at m d c))
  pub stays : (s : S) (m d : ℕ) (c : Content) → is_attribute c ≡ true → At d s → At d (next s (at m (suc d) c))
  -- a text may go, and one may come in before what is no deeper
  pub skips : (s : S) (m d : ℕ) (c : Content) (ys : List Node) → is_text c ≡ true → At d s → passes check next (next s (at m (suc d) c)) ys ≡ true → passes check next s ys ≡ true
  pub adds : (s : S) (d c : ℕ) (cs : List ℕ) (ys : List Node) → At d s → BeginsWithin d ys → passes check next s ys ≡ true →
      passes check next s (at a (suc d) (Text (c ∷ cs)) ∷ ys) ≡ true

module _ {S : Type 0} (check : S → Node → Bool) (next : S → Node → S) (At : ℕ → S → Type 0) (a n : ℕ) (text : List ℕ) (look : Looks check next At a n text) where
  -- what passes before passes after
  abbrev pub Later : List Node → List Node → Type 0
  Later vs ws = (s : S) → passes check next s vs ≡ true → passes check next s ws ≡ true

  both-pass : (d : ℕ) (t : Trees) (vs ws : List Node) → Later vs ws → Later (onto d t vs) (onto d t ws)
  both-pass d none vs ws h s e = h s e
  both-pass d (tree m c k r) vs ws h s e =
      let parts = and-parts (check s (at m d c)) (passes check next (next s (at m d c)) (onto (suc d) k (onto d r vs))) e in
      both _ _ parts.0 (both-pass (suc d) k (onto d r vs) (onto d r ws) (both-pass d r vs ws h) (next s (at m d c)) parts.1)

  lone-passes : (u : List ℕ) (d : ℕ) (s : S) (ws : List Node) → At d s → BeginsWithin d ws → passes check next s ws ≡ true → passes check next s (onto (suc d) (lone (one_text a u)) ws) ≡ true
  lone-passes [] d s ws i b h = h
  lone-passes (c ∷ cs) d s ws i b h = look.adds s d c cs ws i b h

  leaves-pass : (d : ℕ) (s : S) (k : Trees) (vs ws : List Node) → AreLeaves k → At d s → BeginsWithin d ws → Later vs ws → passes check next s (onto (suc d) k vs) ≡ true →
      passes check next s (onto (suc d) (followed (attributes k) (lone (one_text a text))) ws) ≡ true
  leaves-pass d s none vs ws l i b h e = lone-passes text d s ws i b (h s e)
  leaves-pass d s (tree p c j r) vs ws l i b h e =
      let whole : passes check next s (onto (suc d) (tree p c none r) vs) ≡ true = ap (λ x. passes check next s (onto (suc d) (tree p c x r) vs)) (sym l.1) ∙ e in
      let parts = and-parts (check s (at p (suc d) c)) (passes check next (next s (at p (suc d) c)) (onto (suc d) r vs)) whole in
      ap (λ x. passes check next s (onto (suc d) (followed (attributes (tree p c x r)) (lone (one_text a text))) ws)) l.1
      ∙ by (is_attribute c) refl parts.0 parts.1 (λ z y g. leaves-pass d z r vs ws l.2 y b h g)
    where
      by : (q : Bool) → is_attribute c ≡ q → check s (at p (suc d) c) ≡ true → passes check next (next s (at p (suc d) c)) (onto (suc d) r vs) ≡ true →
          ((z : S) → At d z → passes check next z (onto (suc d) r vs) ≡ true → passes check next z (onto (suc d) (followed (attributes r) (lone (one_text a text))) ws) ≡ true) →
          passes check next s (onto (suc d) (followed (cond q (tree p c none (attributes r)) (attributes r)) (lone (one_text a text))) ws) ≡ true
      by true q f g later = both _ _ f (later (next s (at p (suc d) c)) (look.stays s p d c q i) g)
      by false q f g later = later s i (look.skips s p d c (onto (suc d) r vs) (leaf-text c l.0 q) i g)

  content-passes : (d : ℕ) (s : S) (k : Trees) (vs ws : List Node) → AreLeaves k → At d s → BeginsWithin d ws → Later vs ws → passes check next s (onto (suc d) k vs) ≡ true →
      passes check next s (onto (suc d) (content a text k) ws) ≡ true
  content-passes d s k vs ws l i b h e = by (same_texts (as_texts text) (texts_top k))
    where
      by : (q : Bool) → passes check next s (onto (suc d) (cond q k (followed (attributes k) (lone (one_text a text)))) ws) ≡ true
      by true = both-pass (suc d) k vs ws h s e
      by false = leaves-pass d s k vs ws l i b h e

  pub put-passes : (d : ℕ) (t : Trees) (vs ws : List Node) → Fits n t → BeginsWithin d ws → Later vs ws → Later (onto d t vs) (onto d (put a n text t) ws)
  put-passes d none vs ws f b h s e = h s e
  put-passes d (tree m c k r) vs ws f b h s e =
      let parts = and-parts (check s (at m d c)) (passes check next (next s (at m d c)) (onto (suc d) k (onto d r vs))) e in
      let later = put-passes d r vs ws f.2 b h in
      let begins = begins-onto d (put a n text r) ws b in
      both _ _ (look.checks s m d c parts.0)
      (ap (λ q. passes check next q (onto (suc d) (cond ((m == n) && is_element c) (content a text k) (put a n text k)) (onto d (put a n text r) ws))) (look.goes s m d c)
      ∙ by later begins (put-passes (suc d) k (onto d r vs) (onto d (put a n text r) ws) f.1 (begins-more d (onto d (put a n text r) ws) begins) later (next s (at m d c)) parts.1) parts.1
      (m == n) refl (is_element c) refl)
    where
      leaves : is_element c ≡ true → FitsHere c k → AreLeaves k
      leaves e (inl i) = let wrong : false ≡ true = sym (attribute-no_element c i) ∙ e in cc
      leaves e (inr i) = i.1

      by : Later (onto d r vs) (onto d (put a n text r) ws) → BeginsWithin d (onto d (put a n text r) ws) → passes check next (next s (at m d c)) (onto (suc d) (put a n text k) (onto d (put a n text r) ws)) ≡ true →
          passes check next (next s (at m d c)) (onto (suc d) k (onto d r vs)) ≡ true →
          (x : Bool) → (m == n) ≡ x → (y : Bool) → is_element c ≡ y → passes check next (next s (at m d c)) (onto (suc d) (cond (x && y) (content a text k) (put a n text k)) (onto d (put a n text r) ws)) ≡ true
      by later begins deeper old true i true j = content-passes d (next s (at m d c)) k (onto d r vs) (onto d (put a n text r) ws) (leaves j (f.0 i)) (look.enters s m d c j) begins later old
      by later begins deeper old true i false j = deeper
      by later begins deeper old false i y j = deeper

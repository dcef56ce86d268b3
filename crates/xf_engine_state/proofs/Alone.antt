-- A text that is set or settled detaches no tree.
use Rattle.std.proofs.Common.{◌≡◌, ℕ, suc, ◌==◌, Bool, true, false, not, cond, ◌&&◌, List, [], ◌∷◌, ◌++◌, map, nat_lt, refl, sym, ap, ◌∙◌, append_assoc, arith}
use Rattle.std.specs.Prelude.{filter}
use Rattle.std.proofs.lemmas.Bool.Decides.{nat_tests}
use Rattle.xf_def_forest.specs.declared.content.Content.{Content}
use Rattle.xf_def_forest.specs.declared.content.Content.TheVariants.{Root, Element, Attribute, Text}
use Rattle.xf_def_forest.specs.declared.content.Node.{Node}
use Rattle.xf_def_forest.specs.Changes.{in_detached, is_detached_top}
use Rattle.xf_def_forest.specs.Forest.{below, is_attribute, is_root, past}
use Rattle.xf_def_forest.specs.Settle.{has_text, with_numbered_text, with_settled_text}
use Rattle.xf_def_forest.specs.Texts.{at_depth, is_attribute_at, one_text, valued, with_content, with_texts, with_value}
use Rattle.xf_law_forests.specs.Settle.Written.{Contents, written}

-- ---- deeper nodes are no tops

not-top : (d : ℕ) (b : Bool) → nat_lt 0 d ≡ true → ((d == 0) && b) ≡ false
not-top d b h = let e : (d == 0) ≡ false = grind (arith, nat_tests, h) in ap (λ a. a && b) e

attributes-none : (d : ℕ) (xs ys : List Node) → in_detached (filter (λ y. is_attribute y.content) (below d xs) ++ ys) ≡ in_detached ys
attributes-none d [] ys = refl
attributes-none d (x ∷ xs) ys = by (nat_lt d x.depth) refl (is_attribute x.content) (attributes-none d xs ys)
  where
    more : List Node
    more = filter (λ (y : Node). is_attribute y.content) (below d xs)

    by : (b : Bool) → nat_lt d x.depth ≡ b → (c : Bool) → in_detached (more ++ ys) ≡ in_detached ys
        → in_detached (filter (λ y. is_attribute y.content) (cond b (x ∷ below d xs) []) ++ ys) ≡ in_detached ys
    by false e c i = refl
    by true e c i = of (is_attribute x.content)
      where
        deep : nat_lt 0 x.depth ≡ true
        deep = grind (arith, nat_tests, e)

        of : (a : Bool) → in_detached (cond a (x ∷ more) more ++ ys) ≡ in_detached ys
        of true = ap (λ t. cond t (x ∷ more ++ ys) (in_detached (more ++ ys))) (not-top x.depth (not (is_root x.content)) deep) ∙ i
        of false = i

texts-none : (d : ℕ) (xs ys : List Node) → in_detached (map (at_depth (suc d)) xs ++ ys) ≡ in_detached ys
texts-none d [] ys = refl
texts-none d (x ∷ xs) ys =
    ap (λ t. cond t (at_depth (suc d) x ∷ map (at_depth (suc d)) xs ++ ys) (in_detached (map (at_depth (suc d)) xs ++ ys))) (not-top (suc d) (not (is_root x.content)) (deep d))
    ∙ texts-none d xs ys
  where
    deep : (e : ℕ) → nat_lt 0 (suc e) ≡ true
    deep e = grind (arith, nat_tests)

past-none : (d : ℕ) (xs : List Node) → in_detached xs ≡ [] → in_detached (past d xs) ≡ []
past-none d [] h = h
past-none d (x ∷ xs) h = by (nat_lt d x.depth) refl (past-none d xs)
  where
    by : (b : Bool) → nat_lt d x.depth ≡ b → (in_detached xs ≡ [] → in_detached (past d xs) ≡ []) → in_detached (cond b (past d xs) (x ∷ xs)) ≡ []
    by false e later = h
    by true e later =
        let deep : nat_lt 0 x.depth ≡ true = grind (arith, nat_tests, e) in
        later (sym (ap (λ t. cond t (x ∷ xs) (in_detached xs)) (not-top x.depth (not (is_root x.content)) deep)) ∙ h)

-- ---- a text

value-root : (text : List ℕ) (c : Content) → is_root (with_value text c) ≡ is_root c
value-root text Root = refl
value-root text (Element name) = refl
value-root text (Attribute name old) = refl
value-root text (Text old) = refl

some-none : {A : Type 0} (x : Node) (xs : List Node) → x ∷ xs ≡ [] → A
some-none x xs e = cc e

valued-none : (n : ℕ) (text : List ℕ) (xs : List Node) → in_detached xs ≡ [] → in_detached (map (valued n text) xs) ≡ []
valued-none n text [] h = h
valued-none n text (x ∷ xs) h = by (is_detached_top x) refl (x.number == n) (valued-none n text xs) h
  where
    by : (t : Bool) → is_detached_top x ≡ t → (b : Bool) → (in_detached xs ≡ [] → in_detached (map (valued n text) xs) ≡ []) → cond t (x ∷ xs) (in_detached xs) ≡ []
        → in_detached (cond b (record x { content = with_value text x.content }) x ∷ map (valued n text) xs) ≡ []
    by true e b later i = some-none x xs i
    by false e true later i =
        ap (λ r. cond ((x.depth == 0) && not r) (record x { content = with_value text x.content } ∷ map (valued n text) xs) (in_detached (map (valued n text) xs))) (value-root text x.content)
        ∙ ap (λ t. cond t (record x { content = with_value text x.content } ∷ map (valued n text) xs) (in_detached (map (valued n text) xs))) e ∙ later i
    by false e false later i = ap (λ t. cond t (x ∷ map (valued n text) xs) (in_detached (map (valued n text) xs))) e ∙ later i

with_texts-none : (n : ℕ) (texts xs : List Node) → in_detached xs ≡ [] → in_detached (with_texts n texts xs) ≡ []
with_texts-none n texts [] h = h
with_texts-none n texts (x ∷ xs) h = by (is_detached_top x) refl (x.number == n) (with_texts-none n texts xs) h
  where
    content : in_detached xs ≡ [] → in_detached (with_content x.depth texts xs) ≡ []
    content i =
        ap in_detached (append_assoc (filter (λ (y : Node). is_attribute y.content) (below x.depth xs)) (map (at_depth (suc x.depth)) texts) (past x.depth xs))
        ∙ attributes-none x.depth xs (map (at_depth (suc x.depth)) texts ++ past x.depth xs) ∙ texts-none x.depth texts (past x.depth xs) ∙ past-none x.depth xs i

    by : (t : Bool) → is_detached_top x ≡ t → (b : Bool) → (in_detached xs ≡ [] → in_detached (with_texts n texts xs) ≡ []) → cond t (x ∷ xs) (in_detached xs) ≡ []
        → in_detached (cond b (x ∷ with_content x.depth texts xs) (x ∷ with_texts n texts xs)) ≡ []
    by true e b later i = some-none x xs i
    by false e true later i = ap (λ t. cond t (x ∷ with_content x.depth texts xs) (in_detached (with_content x.depth texts xs))) e ∙ content i
    by false e false later i = ap (λ t. cond t (x ∷ with_texts n texts xs) (in_detached (with_texts n texts xs))) e ∙ later i

pub numbered-alone : (number n : ℕ) (text : List ℕ) (nodes : List Node) → in_detached nodes ≡ [] → in_detached (with_numbered_text number n text nodes) ≡ []
numbered-alone number n text nodes h = by (is_attribute_at n nodes)
  where
    by : (b : Bool) → in_detached (cond b (map (valued n text) nodes) (with_texts n (one_text number text) nodes)) ≡ []
    by true = valued-none n text nodes h
    by false = with_texts-none n (one_text number text) nodes h

settled-alone : (number n : ℕ) (text : List ℕ) (nodes : List Node) → in_detached nodes ≡ [] → in_detached (with_settled_text number n text nodes) ≡ []
settled-alone number n text nodes h = by (has_text n text nodes)
  where
    by : (b : Bool) → in_detached (cond b nodes (with_numbered_text number n text nodes)) ≡ []
    by true = h
    by false = numbered-alone number n text nodes h

-- some of these
pub written-alone : (done : ℕ → Bool) (number : ℕ) (contents : Contents) (nodes : List Node) → in_detached nodes ≡ [] → in_detached (written done number contents nodes) ≡ []
written-alone done number [] nodes h = h
written-alone done number ((n, text) ∷ contents) nodes h = written-alone done (suc number) contents (cond (done n) (with_settled_text number n text nodes) nodes) (by (done n))
  where
    by : (b : Bool) → in_detached (cond b (with_settled_text number n text nodes) nodes) ≡ []
    by true = settled-alone number n text nodes h
    by false = h

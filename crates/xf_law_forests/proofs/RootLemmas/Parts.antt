-- What each part of a change leaves: texts, trees cut out of the list and put into it.
use Rattle.std.proofs.Common.{◌≡◌, ℕ, zero, suc, ◌+◌, ◌-◌, ◌==◌, Bool, true, false, not, cond, ◌&&◌, ◌||◌, List, [], ◌∷◌, ◌++◌, map, nat_lt, Some, refl, sym, ap, ◌∙◌, arith}
use Rattle.std.specs.Prelude.{filter}
use Rattle.std.proofs.lemmas.Bool.Decides.{nat_tests}
use Rattle.xf_def_forest.specs.declared.content.Node.{Node}
use Rattle.xf_def_forest.specs.declared.content.Content.{Content}
use Rattle.xf_def_forest.specs.declared.content.Content.TheVariants as content
use Rattle.xf_def_forest.specs.Forest.{is_root, is_attribute, node_at, below, past, tree_of}
use Rattle.xf_def_forest.specs.Changes.{shifted, moved_to, is_detached_top, in_detached, without_tree, at_place, with_child, with_attribute, with_part, with_below}
use Rattle.xf_def_forest.specs.Texts.{one_text, at_depth, with_content, with_texts, with_value, valued, with_attribute_text}
use Rattle.xf_def_forest.specs.WellFormed.{are_tops}
use Rattle.xf_def_forest.proofs.BackLaws.{and-true}
use Rattle.xf_def_forest.proofs.RunLemmas.{tree-here, tree-other}
use Rattle.xf_law_forests.specs.Root.Roots.{AreAhead, roots_in, RootsStay}
use Rattle.xf_law_forests.proofs.RootLemmas.Shown.{rootless, deep, all_deep, shown, both, deep-append, deep-filter, shown-same, shown-skip, ahead-by, roots-by, rootless-ahead}

abbrev pub top_or_none : Node → Bool
top_or_none x = not (is_root x.content) || (x.depth == 0)

pub not-of : (b : Bool) → not b ≡ true → b ≡ false
not-of true h = sym h
not-of false h = refl

-- what is below a node is deep
pub below-is_deep : (d : ℕ) (x : Node) → top_or_none x ≡ true → nat_lt d x.depth ≡ true → deep x ≡ true
below-is_deep d x h less = by (is_root x.content) (x.depth == 0) refl h
  where
    by : (a b : Bool) → (x.depth == 0) ≡ b → (not a || b) ≡ true → (not a && not b) ≡ true
    by a true i j = let f : true ≡ false = grind (arith, nat_tests, less, i) in cc f
    by true false i j = j
    by false false i j = refl

pub below-deep : (d : ℕ) (xs : List Node) → are_tops xs ≡ true → all_deep (below d xs) ≡ true
below-deep d [] t = refl
below-deep d (x ∷ xs) t = by (nat_lt d x.depth) refl (below-deep d xs parts.1)
  where
    parts : (top_or_none x ≡ true) × (are_tops xs ≡ true)
    parts = and-true (top_or_none x) (are_tops xs) t

    by : (b : Bool) → nat_lt d x.depth ≡ b → all_deep (below d xs) ≡ true → all_deep (cond b (x ∷ below d xs) []) ≡ true
    by true e f = both (deep x) (all_deep (below d xs)) (below-is_deep d x parts.0 e) f
    by false e f = refl

pub past-shown : (d : ℕ) (xs : List Node) → are_tops xs ≡ true → shown (past d xs) ≡ shown xs
past-shown d [] t = refl
past-shown d (x ∷ xs) t = by (nat_lt d x.depth) refl (past-shown d xs parts.1)
  where
    parts : (top_or_none x ≡ true) × (are_tops xs ≡ true)
    parts = and-true (top_or_none x) (are_tops xs) t

    by : (b : Bool) → nat_lt d x.depth ≡ b → shown (past d xs) ≡ shown xs → shown (cond b (past d xs) (x ∷ xs)) ≡ shown (x ∷ xs)
    by true e f = f ∙ sym (ap (λ c. cond (not c) (x ∷ shown xs) (shown xs)) (below-is_deep d x parts.0 e))
    by false e f = refl

-- ---- a text

text-deep : (d number : ℕ) (text : List ℕ) → all_deep (map (at_depth (suc d)) (one_text number text)) ≡ true
text-deep d number [] = refl
text-deep d number (c ∷ cs) = ap (λ b. not b && true) far
  where
    far : (suc d == 0) ≡ false
    far = grind (arith, nat_tests)

pub texts-shown : (n number : ℕ) (text : List ℕ) (xs : List Node) → are_tops xs ≡ true → shown (with_texts n (one_text number text) xs) ≡ shown xs
texts-shown n number text [] t = refl
texts-shown n number text (x ∷ xs) t = by (x.number == n) (texts-shown n number text xs parts.1)
  where
    parts : (top_or_none x ≡ true) × (are_tops xs ≡ true)
    parts = and-true (top_or_none x) (are_tops xs) t

    attributes : List Node
    attributes = filter (λ y. is_attribute y.content) (below x.depth xs)

    texts : List Node
    texts = map (at_depth (suc x.depth)) (one_text number text)

    inside : shown (with_content x.depth (one_text number text) xs) ≡ shown xs
    inside =
        shown-skip (attributes ++ texts) (past x.depth xs)
        (deep-append attributes texts (deep-filter (λ y. is_attribute y.content) (below x.depth xs) (below-deep x.depth xs parts.1)) (text-deep x.depth number text))
        ∙ past-shown x.depth xs parts.1

    by : (b : Bool) → shown (with_texts n (one_text number text) xs) ≡ shown xs → shown (cond b (x ∷ with_content x.depth (one_text number text) xs) (x ∷ with_texts n (one_text number text) xs)) ≡ shown (x ∷ xs)
    by true f = shown-same x (with_content x.depth (one_text number text) xs) xs inside
    by false f = shown-same x (with_texts n (one_text number text) xs) xs f

-- ---- an attribute's text: each node is a root or none, and a top or none, as it was

value-root : (text : List ℕ) (c : Content) → is_root (with_value text c) ≡ is_root c
value-root text content.Root = refl
value-root text (content.Element name) = refl
value-root text (content.Attribute name old) = refl
value-root text (content.Text old) = refl

valued-root : (n : ℕ) (text : List ℕ) (x : Node) → is_root (valued n text x).content ≡ is_root x.content
valued-root n text x = by (x.number == n)
  where
    by : (b : Bool) → is_root (cond b (record x { content = with_value text x.content }) x).content ≡ is_root x.content
    by true = value-root text x.content
    by false = refl

valued-depth : (n : ℕ) (text : List ℕ) (x : Node) → (valued n text x).depth ≡ x.depth
valued-depth n text x = by (x.number == n)
  where
    by : (b : Bool) → (cond b (record x { content = with_value text x.content }) x).depth ≡ x.depth
    by true = refl
    by false = refl

valued-number : (n : ℕ) (text : List ℕ) (x : Node) → (valued n text x).number ≡ x.number
valued-number n text x = by (x.number == n)
  where
    by : (b : Bool) → (cond b (record x { content = with_value text x.content }) x).number ≡ x.number
    by true = refl
    by false = refl

rootless-valued : (n : ℕ) (text : List ℕ) (xs : List Node) → rootless (with_attribute_text n text xs) ≡ rootless xs
rootless-valued n text [] = refl
rootless-valued n text (x ∷ xs) = ap (λ b. not b && rootless (with_attribute_text n text xs)) (valued-root n text x) ∙ ap (λ b. not (is_root x.content) && b) (rootless-valued n text xs)

ahead-valued : (n : ℕ) (text : List ℕ) (xs : List Node) → rootless (in_detached (with_attribute_text n text xs)) ≡ rootless (in_detached xs)
ahead-valued n text [] = refl
ahead-valued n text (x ∷ xs) =
    ap (λ b. rootless (cond b (with_attribute_text n text (x ∷ xs)) (in_detached (with_attribute_text n text xs)))) same ∙ by (is_detached_top x) (ahead-valued n text xs)
  where
    same : is_detached_top (valued n text x) ≡ is_detached_top x
    same = ap (λ d. (d == 0) && not (is_root (valued n text x).content)) (valued-depth n text x) ∙ ap (λ b. (x.depth == 0) && not b) (valued-root n text x)

    by : (b : Bool) → rootless (in_detached (with_attribute_text n text xs)) ≡ rootless (in_detached xs) →
        rootless (cond b (with_attribute_text n text (x ∷ xs)) (in_detached (with_attribute_text n text xs))) ≡ rootless (cond b (x ∷ xs) (in_detached xs))
    by true f = rootless-valued n text (x ∷ xs)
    by false f = f

roots-valued : (n : ℕ) (text : List ℕ) (xs : List Node) → roots_in (with_attribute_text n text xs) ≡ roots_in xs
roots-valued n text [] = refl
roots-valued n text (x ∷ xs) =
    ap (λ b. map (λ (y : Node). y.number) (cond b (valued n text x ∷ filter (λ y. is_root y.content) (with_attribute_text n text xs)) (filter (λ y. is_root y.content) (with_attribute_text n text xs)))) (valued-root n text x)
    ∙ by (is_root x.content) (roots-valued n text xs)
  where
    by : (b : Bool) → roots_in (with_attribute_text n text xs) ≡ roots_in xs →
        map (λ (y : Node). y.number) (cond b (valued n text x ∷ filter (λ y. is_root y.content) (with_attribute_text n text xs)) (filter (λ y. is_root y.content) (with_attribute_text n text xs)))
        ≡ map (λ (y : Node). y.number) (cond b (x ∷ filter (λ y. is_root y.content) xs) (filter (λ y. is_root y.content) xs))
    by true f = ap (λ k. k ∷ roots_in (with_attribute_text n text xs)) (valued-number n text x) ∙ ap (λ l. x.number ∷ l) f
    by false f = f

pub stay-valued : (n : ℕ) (text : List ℕ) (xs : List Node) → RootsStay xs (with_attribute_text n text xs)
stay-valued n text xs = record { ahead = λ h. ahead-valued n text xs ∙ h; same = roots-valued n text xs }

-- ---- a tree that is cut out

rootless-past : (d : ℕ) (xs : List Node) → rootless xs ≡ true → rootless (past d xs) ≡ true
rootless-past d [] h = h
rootless-past d (x ∷ xs) h = by (nat_lt d x.depth) (rootless-past d xs (and-true (not (is_root x.content)) (rootless xs) h).1)
  where
    by : (b : Bool) → rootless (past d xs) ≡ true → rootless (cond b (past d xs) (x ∷ xs)) ≡ true
    by true f = f
    by false f = h

rootless-without : (n : ℕ) (xs : List Node) → rootless xs ≡ true → rootless (without_tree n xs) ≡ true
rootless-without n [] h = h
rootless-without n (x ∷ xs) h = by (x.number == n) (rootless-without n xs parts.1)
  where
    parts : (not (is_root x.content) ≡ true) × (rootless xs ≡ true)
    parts = and-true (not (is_root x.content)) (rootless xs) h

    by : (b : Bool) → rootless (without_tree n xs) ≡ true → rootless (cond b (past x.depth xs) (x ∷ without_tree n xs)) ≡ true
    by true f = rootless-past x.depth xs parts.1
    by false f = both (not (is_root x.content)) (rootless (without_tree n xs)) parts.0 f

pub ahead-without : (n : ℕ) (xs : List Node) → are_tops xs ≡ true → AreAhead xs → AreAhead (without_tree n xs)
ahead-without n [] t h = h
ahead-without n (x ∷ xs) t h = by (x.number == n) (is_detached_top x) refl h (ahead-without n xs parts.1)
  where
    parts : (top_or_none x ≡ true) × (are_tops xs ≡ true)
    parts = and-true (top_or_none x) (are_tops xs) t

    by : (b a : Bool) → is_detached_top x ≡ a → rootless (cond a (x ∷ xs) (in_detached xs)) ≡ true → (AreAhead xs → AreAhead (without_tree n xs)) → AreAhead (cond b (past x.depth xs) (x ∷ without_tree n xs))
    by true true e i f = ahead-by xs (past x.depth xs) (past-shown x.depth xs parts.1) (rootless-ahead xs (and-true (not (is_root x.content)) (rootless xs) i).1)
    by true false e i f = ahead-by xs (past x.depth xs) (past-shown x.depth xs parts.1) i
    by false true e i f =
        let ps = and-true (not (is_root x.content)) (rootless xs) i in
        ap (λ c. rootless (cond c (x ∷ without_tree n xs) (in_detached (without_tree n xs)))) e ∙ both (not (is_root x.content)) (rootless (without_tree n xs)) ps.0 (rootless-without n xs ps.1)
    by false false e i f = ap (λ c. rootless (cond c (x ∷ without_tree n xs) (in_detached (without_tree n xs)))) e ∙ f i

pub roots-without : (n : ℕ) (xs : List Node) → are_tops xs ≡ true → ((z : Node) → node_at n xs ≡ Some z → is_root z.content ≡ false) → roots_in (without_tree n xs) ≡ roots_in xs
roots-without n [] t o = refl
roots-without n (x ∷ xs) t o = by (x.number == n) o (roots-without n xs parts.1)
  where
    parts : (top_or_none x ≡ true) × (are_tops xs ≡ true)
    parts = and-true (top_or_none x) (are_tops xs) t

    by : (b : Bool) → ((z : Node) → cond b (Some x) (node_at n xs) ≡ Some z → is_root z.content ≡ false) →
        (((z : Node) → node_at n xs ≡ Some z → is_root z.content ≡ false) → roots_in (without_tree n xs) ≡ roots_in xs) → roots_in (cond b (past x.depth xs) (x ∷ without_tree n xs)) ≡ roots_in (x ∷ xs)
    by true p f = roots-by xs (past x.depth xs) (past-shown x.depth xs parts.1) ∙ sym (ap (λ b. map (λ (y : Node). y.number) (cond b (x ∷ filter (λ y. is_root y.content) xs) (filter (λ y. is_root y.content) xs))) (p x refl))
    by false p f = same (is_root x.content) (f p)
      where
        same : (b : Bool) → roots_in (without_tree n xs) ≡ roots_in xs →
            map (λ (y : Node). y.number) (cond b (x ∷ filter (λ y. is_root y.content) (without_tree n xs)) (filter (λ y. is_root y.content) (without_tree n xs)))
            ≡ map (λ (y : Node). y.number) (cond b (x ∷ filter (λ y. is_root y.content) xs) (filter (λ y. is_root y.content) xs))
        same true g = ap (λ l. x.number ∷ l) g
        same false g = g

-- the tree of a node that is no root has none
deep-rootless : (xs : List Node) → all_deep xs ≡ true → rootless xs ≡ true
deep-rootless [] h = refl
deep-rootless (x ∷ xs) h =
    let ps = and-true (deep x) (all_deep xs) h in both (not (is_root x.content)) (rootless xs) (and-true (not (is_root x.content)) (not (x.depth == 0)) ps.0).0 (deep-rootless xs ps.1)

pub tree-rootless : (n : ℕ) (xs : List Node) → are_tops xs ≡ true → ((z : Node) → node_at n xs ≡ Some z → is_root z.content ≡ false) → rootless (tree_of n xs) ≡ true
tree-rootless n [] t o = refl
tree-rootless n (x ∷ xs) t o = by (x.number == n) refl o (tree-rootless n xs parts.1)
  where
    parts : (top_or_none x ≡ true) × (are_tops xs ≡ true)
    parts = and-true (top_or_none x) (are_tops xs) t

    by : (b : Bool) → (x.number == n) ≡ b → ((z : Node) → cond b (Some x) (node_at n xs) ≡ Some z → is_root z.content ≡ false) →
        (((z : Node) → node_at n xs ≡ Some z → is_root z.content ≡ false) → rootless (tree_of n xs) ≡ true) → rootless (tree_of n (x ∷ xs)) ≡ true
    by true e p f = ap rootless (tree-here n x xs e) ∙ both (not (is_root x.content)) (rootless (below x.depth xs)) (ap not (p x refl)) (deep-rootless (below x.depth xs) (below-deep x.depth xs parts.1))
    by false e p f = ap rootless (tree-other n x xs e) ∙ f p

pub moved-rootless : (d : ℕ) (xs : List Node) → rootless xs ≡ true → rootless (moved_to d xs) ≡ true
moved-rootless d [] h = refl
moved-rootless d (x ∷ xs) h = shifted-rootless x.depth (x ∷ xs) h
  where
    shifted-rootless : (e : ℕ) (ys : List Node) → rootless ys ≡ true → rootless (map (shifted e d) ys) ≡ true
    shifted-rootless e [] i = refl
    shifted-rootless e (y ∷ ys) i =
        let ps = and-true (not (is_root y.content)) (rootless ys) i in both (not (is_root y.content)) (rootless (map (shifted e d) ys)) ps.0 (shifted-rootless e ys ps.1)

-- below another node it is deep
pub moved-deep : (d : ℕ) (xs : List Node) → rootless xs ≡ true → all_deep (moved_to (suc d) xs) ≡ true
moved-deep d [] h = refl
moved-deep d (x ∷ xs) h = shifted-deep x.depth (x ∷ xs) h
  where
    far : (k : ℕ) → (suc d + k == 0) ≡ false
    far k = grind (arith, nat_tests)

    shifted-deep : (e : ℕ) (ys : List Node) → rootless ys ≡ true → all_deep (map (shifted e (suc d)) ys) ≡ true
    shifted-deep e [] i = refl
    shifted-deep e (y ∷ ys) i =
        let ps = and-true (not (is_root y.content)) (rootless ys) i in
        both (not (is_root y.content) && not (suc d + (y.depth - e) == 0)) (all_deep (map (shifted e (suc d)) ys))
        (both (not (is_root y.content)) (not (suc d + (y.depth - e) == 0)) ps.0 (ap not (far (y.depth - e)))) (shifted-deep e ys ps.1)

-- ---- a tree that is put in

child-shown : (depth place : ℕ) (tree ys : List Node) → all_deep tree ≡ true → shown (with_child depth place tree ys) ≡ shown ys
child-shown depth place tree [] h = ap shown (sym (append-none tree)) ∙ shown-skip tree [] h
  where
    append-none : (xs : List Node) → xs ++ [] ≡ xs
    append-none [] = refl
    append-none (x ∷ xs) = ap (λ l. x ∷ l) (append-none xs)
child-shown depth place tree (y ∷ ys) h = by place (nat_lt y.depth depth) (nat_lt depth y.depth || is_attribute y.content) (λ q. child-shown depth q tree ys h)
  where
    by : (at : ℕ) (a b : Bool) → ((q : ℕ) → shown (with_child depth q tree ys) ≡ shown ys) →
        shown (cond a (tree ++ y ∷ ys) (cond b (y ∷ with_child depth at tree ys) (at_place at (tree ++ y ∷ ys) (λ left. y ∷ with_child depth left tree ys)))) ≡ shown (y ∷ ys)
    by at true b f = shown-skip tree (y ∷ ys) h
    by at false true f = shown-same y (with_child depth at tree ys) ys (f at)
    by zero false false f = shown-skip tree (y ∷ ys) h
    by (suc at) false false f = shown-same y (with_child depth at tree ys) ys (f at)

attribute-shown : (depth place : ℕ) (tree ys : List Node) → all_deep tree ≡ true → shown (with_attribute depth place tree ys) ≡ shown ys
attribute-shown depth place tree [] h = ap shown (sym (append-none tree)) ∙ shown-skip tree [] h
  where
    append-none : (xs : List Node) → xs ++ [] ≡ xs
    append-none [] = refl
    append-none (x ∷ xs) = ap (λ l. x ∷ l) (append-none xs)
attribute-shown depth place tree (y ∷ ys) h = by place ((y.depth == depth) && is_attribute y.content) (λ q. attribute-shown depth q tree ys h)
  where
    by : (at : ℕ) (a : Bool) → ((q : ℕ) → shown (with_attribute depth q tree ys) ≡ shown ys) →
        shown (cond a (at_place at (tree ++ y ∷ ys) (λ left. y ∷ with_attribute depth left tree ys)) (tree ++ y ∷ ys)) ≡ shown (y ∷ ys)
    by at false f = shown-skip tree (y ∷ ys) h
    by zero true f = shown-skip tree (y ∷ ys) h
    by (suc at) true f = shown-same y (with_attribute depth at tree ys) ys (f at)

part-shown : (d place : ℕ) (tree ys : List Node) → rootless tree ≡ true → shown (with_part (suc d) place tree ys) ≡ shown ys
part-shown d place [] ys h = refl
part-shown d place (t ∷ ts) ys h = by (is_attribute t.content)
  where
    by : (b : Bool) → shown (cond b (with_attribute (suc d) place (moved_to (suc d) (t ∷ ts)) ys) (with_child (suc d) place (moved_to (suc d) (t ∷ ts)) ys)) ≡ shown ys
    by true = attribute-shown (suc d) place (moved_to (suc d) (t ∷ ts)) ys (moved-deep d (t ∷ ts) h)
    by false = child-shown (suc d) place (moved_to (suc d) (t ∷ ts)) ys (moved-deep d (t ∷ ts) h)

pub put-shown : (p place : ℕ) (tree xs : List Node) → rootless tree ≡ true → shown (with_below p place tree xs) ≡ shown xs
put-shown p place tree [] h = refl
put-shown p place tree (x ∷ xs) h = by (x.number == p) (put-shown p place tree xs h)
  where
    by : (b : Bool) → shown (with_below p place tree xs) ≡ shown xs → shown (cond b (x ∷ with_part (suc x.depth) place tree xs) (x ∷ with_below p place tree xs)) ≡ shown (x ∷ xs)
    by true f = shown-same x (with_part (suc x.depth) place tree xs) xs (part-shown x.depth place tree xs h)
    by false f = shown-same x (with_below p place tree xs) xs f

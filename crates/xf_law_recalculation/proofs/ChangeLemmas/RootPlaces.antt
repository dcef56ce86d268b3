-- Roots keep their places among the roots.
use Rattle.std.proofs.Common.{◌≡◌, ℕ, zero, suc, ◌==◌, Bool, true, false, not, cond, ◌&&◌, ◌||◌, List, [], ◌∷◌, ◌++◌, map, nat_lt, Some, refl, sym, ap, ◌∙◌, arith}
use Rattle.std.specs.Prelude.{filter}
use Rattle.std.specs.List.{list_all}
use Rattle.std.proofs.lemmas.Bool.Decides.{nat_tests}
use Rattle.xf_def_forest.specs.declared.content.Node.{Node}
use Rattle.xf_def_forest.specs.Forest.{is_root, is_attribute, node_at, below, past, tree_of}
use Rattle.xf_def_forest.specs.Changes.{shifted, moved_to, without_tree, root_of, at_place, with_child, with_attribute, with_part, with_below}
use Rattle.xf_def_forest.specs.Texts.{one_text, at_depth, with_content, with_texts, with_attribute_text, with_value, valued, is_attribute_at}
use Rattle.xf_def_forest.specs.WellFormed.{are_tops}
use Rattle.xf_def_forest.proofs.BackLaws.{and-true}
use Rattle.xf_def_forest.proofs.RunLemmas.{tree-here, tree-other}
use Rattle.xf_law_recalculation.specs.Change.Documents.{RootKeepsPlaceText, RootKeepsPlaceDetached, RootKeepsPlacePlaced}
use Rattle.xf_law_recalculation.proofs.ChangeLemmas.RootsStay.{value-root, no-root}

abbrev Same : List Node → List Node → Type 0
Same xs ys = (place : ℕ) → root_of place xs ≡ root_of place ys

abbrev rootless : List Node → Bool
rootless xs = list_all (λ x. not (is_root x.content)) xs

same-behind : (x : Node) (xs ys : List Node) → Same xs ys → Same (x ∷ xs) (x ∷ ys)
same-behind x xs ys h zero = ap (λ o. cond (is_root x.content) (Some x.number) o) (h zero)
same-behind x xs ys h (suc p) = ap (λ o. cond (is_root x.content) o (root_of (suc p) xs)) (h p) ∙ ap (λ o. cond (is_root x.content) (root_of p ys) o) (h (suc p))

skip : (x : Node) (xs : List Node) → is_root x.content ≡ false → Same (x ∷ xs) xs
skip x xs e zero = ap (λ b. cond b (Some x.number) (root_of zero xs)) e
skip x xs e (suc p) = ap (λ b. cond b (root_of p xs) (root_of (suc p) xs)) e

not-of : (b : Bool) → not b ≡ true → b ≡ false
not-of true h = sym h
not-of false h = refl

skip-front : (zs ys : List Node) → rootless zs ≡ true → Same (zs ++ ys) ys
skip-front [] ys h p = refl
skip-front (z ∷ zs) ys h p =
    let parts = and-true (not (is_root z.content)) (rootless zs) h in
    skip z (zs ++ ys) (not-of (is_root z.content) parts.0) p ∙ skip-front zs ys parts.1 p

none-here : (zs : List Node) → rootless zs ≡ true → Same zs []
none-here [] h p = refl
none-here (z ∷ zs) h p =
    let parts = and-true (not (is_root z.content)) (rootless zs) h in
    skip z zs (not-of (is_root z.content) parts.0) p ∙ none-here zs parts.1 p

skip-back : (xs zs : List Node) → rootless zs ≡ true → Same (xs ++ zs) xs
skip-back [] zs h p = none-here zs h p
skip-back (x ∷ xs) zs h p = same-behind x (xs ++ zs) xs (skip-back xs zs h) p

-- what is deeper is no root
deep : (d : ℕ) (x : Node) → (not (is_root x.content) || (x.depth == 0)) ≡ true → nat_lt d x.depth ≡ true → is_root x.content ≡ false
deep d x t e = by (is_root x.content) (x.depth == 0) refl t
  where
    by : (b c : Bool) → (x.depth == 0) ≡ c → (not b || c) ≡ true → b ≡ false
    by true true i j = let f : true ≡ false = grind (arith, nat_tests, e, i) in f
    by true false i j = sym j
    by false c i j = refl

past-same : (d : ℕ) (xs : List Node) → are_tops xs ≡ true → Same (past d xs) xs
past-same d [] t p = refl
past-same d (x ∷ xs) t p = by (nat_lt d x.depth) refl (past-same d xs parts.1 p)
  where
    parts : ((not (is_root x.content) || (x.depth == 0)) ≡ true) × (are_tops xs ≡ true)
    parts = and-true (not (is_root x.content) || (x.depth == 0)) (are_tops xs) t

    by : (b : Bool) → nat_lt d x.depth ≡ b → root_of p (past d xs) ≡ root_of p xs → root_of p (cond b (past d xs) (x ∷ xs)) ≡ root_of p (x ∷ xs)
    by true e f = f ∙ sym (skip x xs (deep d x parts.0 e) p)
    by false e f = refl

below-rootless : (d : ℕ) (xs : List Node) → are_tops xs ≡ true → rootless (below d xs) ≡ true
below-rootless d [] t = refl
below-rootless d (x ∷ xs) t = by (nat_lt d x.depth) refl (below-rootless d xs parts.1)
  where
    parts : ((not (is_root x.content) || (x.depth == 0)) ≡ true) × (are_tops xs ≡ true)
    parts = and-true (not (is_root x.content) || (x.depth == 0)) (are_tops xs) t

    by : (b : Bool) → nat_lt d x.depth ≡ b → rootless (below d xs) ≡ true → rootless (cond b (x ∷ below d xs) []) ≡ true
    by true e f = ap (λ c. not c && rootless (below d xs)) (deep d x parts.0 e) ∙ f
    by false e f = refl

rootless-append : (xs ys : List Node) → rootless xs ≡ true → rootless ys ≡ true → rootless (xs ++ ys) ≡ true
rootless-append [] ys h i = i
rootless-append (x ∷ xs) ys h i =
    let parts = and-true (not (is_root x.content)) (rootless xs) h in
    ap (λ b. b && rootless (xs ++ ys)) parts.0 ∙ rootless-append xs ys parts.1 i

rootless-filter : (q : Node → Bool) (xs : List Node) → rootless xs ≡ true → rootless (filter q xs) ≡ true
rootless-filter q [] h = refl
rootless-filter q (x ∷ xs) h = by (q x) (rootless-filter q xs parts.1)
  where
    parts : (not (is_root x.content) ≡ true) × (rootless xs ≡ true)
    parts = and-true (not (is_root x.content)) (rootless xs) h

    by : (b : Bool) → rootless (filter q xs) ≡ true → rootless (cond b (x ∷ filter q xs) (filter q xs)) ≡ true
    by true f = ap (λ b. b && rootless (filter q xs)) parts.0 ∙ f
    by false f = f

-- ---- a text

text-rootless : (d number : ℕ) (text : List ℕ) → rootless (map (at_depth d) (one_text number text)) ≡ true
text-rootless d number [] = refl
text-rootless d number (c ∷ cs) = refl

keeps-same : (f : Node → Node) → ((x : Node) → (f x).number ≡ x.number) → ((x : Node) → is_root (f x).content ≡ is_root x.content) → (xs : List Node) → Same (map f xs) xs
keeps-same f n r [] p = refl
keeps-same f n r (x ∷ xs) zero =
    ap (λ b. cond b (Some (f x).number) (root_of zero (map f xs))) (r x)
    ∙ ap (λ k. cond (is_root x.content) (Some k) (root_of zero (map f xs))) (n x)
    ∙ ap (λ o. cond (is_root x.content) (Some x.number) o) (keeps-same f n r xs zero)
keeps-same f n r (x ∷ xs) (suc p) =
    ap (λ b. cond b (root_of p (map f xs)) (root_of (suc p) (map f xs))) (r x)
    ∙ ap (λ o. cond (is_root x.content) o (root_of (suc p) (map f xs))) (keeps-same f n r xs p)
    ∙ ap (λ o. cond (is_root x.content) (root_of p xs) o) (keeps-same f n r xs (suc p))

valued-number : (n : ℕ) (text : List ℕ) (x : Node) → (valued n text x).number ≡ x.number
valued-number n text x = by (x.number == n)
  where
    by : (b : Bool) → (cond b (record x { content = with_value text x.content }) x).number ≡ x.number
    by true = refl
    by false = refl

valued-root : (n : ℕ) (text : List ℕ) (x : Node) → is_root (valued n text x).content ≡ is_root x.content
valued-root n text x = by (x.number == n)
  where
    by : (b : Bool) → is_root (cond b (record x { content = with_value text x.content }) x).content ≡ is_root x.content
    by true = value-root text x.content
    by false = refl

texts-same : (n number : ℕ) (text : List ℕ) (xs : List Node) → are_tops xs ≡ true → Same (with_texts n (one_text number text) xs) xs
texts-same n number text [] t p = refl
texts-same n number text (x ∷ xs) t p = by (x.number == n) (texts-same n number text xs parts.1)
  where
    parts : ((not (is_root x.content) || (x.depth == 0)) ≡ true) × (are_tops xs ≡ true)
    parts = and-true (not (is_root x.content) || (x.depth == 0)) (are_tops xs) t

    front : List Node
    front = filter (λ y. is_attribute y.content) (below x.depth xs) ++ map (at_depth (suc x.depth)) (one_text number text)

    front-rootless : rootless front ≡ true
    front-rootless = rootless-append (filter (λ y. is_attribute y.content) (below x.depth xs)) (map (at_depth (suc x.depth)) (one_text number text))
        (rootless-filter (λ y. is_attribute y.content) (below x.depth xs) (below-rootless x.depth xs parts.1)) (text-rootless (suc x.depth) number text)

    inside : Same (with_content x.depth (one_text number text) xs) xs
    inside q = skip-front front (past x.depth xs) front-rootless q ∙ past-same x.depth xs parts.1 q

    by : (b : Bool) → Same (with_texts n (one_text number text) xs) xs → root_of p (cond b (x ∷ with_content x.depth (one_text number text) xs) (x ∷ with_texts n (one_text number text) xs)) ≡ root_of p (x ∷ xs)
    by true f = same-behind x (with_content x.depth (one_text number text) xs) xs inside p
    by false f = same-behind x (with_texts n (one_text number text) xs) xs f p

-- ---- a tree

without-same : (n : ℕ) (xs : List Node) → are_tops xs ≡ true → ((z : Node) → node_at n xs ≡ Some z → is_root z.content ≡ false) → Same (without_tree n xs) xs
without-same n [] t o p = refl
without-same n (x ∷ xs) t o p = by (x.number == n) o (without-same n xs parts.1)
  where
    parts : ((not (is_root x.content) || (x.depth == 0)) ≡ true) × (are_tops xs ≡ true)
    parts = and-true (not (is_root x.content) || (x.depth == 0)) (are_tops xs) t

    by : (b : Bool) → ((z : Node) → cond b (Some x) (node_at n xs) ≡ Some z → is_root z.content ≡ false) →
        (((z : Node) → node_at n xs ≡ Some z → is_root z.content ≡ false) → Same (without_tree n xs) xs) → root_of p (cond b (past x.depth xs) (x ∷ without_tree n xs)) ≡ root_of p (x ∷ xs)
    by true g f = past-same x.depth xs parts.1 p ∙ sym (skip x xs (g x refl) p)
    by false g f = same-behind x (without_tree n xs) xs (f g) p

tree-rootless : (n : ℕ) (xs : List Node) → are_tops xs ≡ true → ((z : Node) → node_at n xs ≡ Some z → is_root z.content ≡ false) → rootless (tree_of n xs) ≡ true
tree-rootless n [] t o = refl
tree-rootless n (x ∷ xs) t o = by (x.number == n) refl o (tree-rootless n xs parts.1)
  where
    parts : ((not (is_root x.content) || (x.depth == 0)) ≡ true) × (are_tops xs ≡ true)
    parts = and-true (not (is_root x.content) || (x.depth == 0)) (are_tops xs) t

    by : (b : Bool) → (x.number == n) ≡ b → ((z : Node) → cond b (Some x) (node_at n xs) ≡ Some z → is_root z.content ≡ false) →
        (((z : Node) → node_at n xs ≡ Some z → is_root z.content ≡ false) → rootless (tree_of n xs) ≡ true) → rootless (tree_of n (x ∷ xs)) ≡ true
    by true e g f = ap rootless (tree-here n x xs e) ∙ ap (λ c. not c && rootless (below x.depth xs)) (g x refl) ∙ below-rootless x.depth xs parts.1
    by false e g f = ap rootless (tree-other n x xs e) ∙ f g

moved-rootless : (d : ℕ) (xs : List Node) → rootless xs ≡ true → rootless (moved_to d xs) ≡ true
moved-rootless d [] h = refl
moved-rootless d (x ∷ xs) h = shifted-rootless x.depth (x ∷ xs) h
  where
    shifted-rootless : (e : ℕ) (ys : List Node) → rootless ys ≡ true → rootless (map (shifted e d) ys) ≡ true
    shifted-rootless e [] i = refl
    shifted-rootless e (y ∷ ys) i =
        let parts = and-true (not (is_root y.content)) (rootless ys) i in
        ap (λ b. b && rootless (map (shifted e d) ys)) parts.0 ∙ shifted-rootless e ys parts.1

child-same : (depth place : ℕ) (tree ys : List Node) → rootless tree ≡ true → Same (with_child depth place tree ys) ys
child-same depth place tree [] h p = none-here tree h p
child-same depth place tree (y ∷ ys) h p = by place (nat_lt y.depth depth) (nat_lt depth y.depth || is_attribute y.content) (λ q. child-same depth q tree ys h)
  where
    by : (at : ℕ) (a b : Bool) → ((q : ℕ) → Same (with_child depth q tree ys) ys) →
        root_of p (cond a (tree ++ y ∷ ys) (cond b (y ∷ with_child depth at tree ys) (at_place at (tree ++ y ∷ ys) (λ left. y ∷ with_child depth left tree ys)))) ≡ root_of p (y ∷ ys)
    by at true b f = skip-front tree (y ∷ ys) h p
    by at false true f = same-behind y (with_child depth at tree ys) ys (f at) p
    by zero false false f = skip-front tree (y ∷ ys) h p
    by (suc at) false false f = same-behind y (with_child depth at tree ys) ys (f at) p

attribute-same : (depth place : ℕ) (tree ys : List Node) → rootless tree ≡ true → Same (with_attribute depth place tree ys) ys
attribute-same depth place tree [] h p = none-here tree h p
attribute-same depth place tree (y ∷ ys) h p = by place ((y.depth == depth) && is_attribute y.content) (λ q. attribute-same depth q tree ys h)
  where
    by : (at : ℕ) (a : Bool) → ((q : ℕ) → Same (with_attribute depth q tree ys) ys) →
        root_of p (cond a (at_place at (tree ++ y ∷ ys) (λ left. y ∷ with_attribute depth left tree ys)) (tree ++ y ∷ ys)) ≡ root_of p (y ∷ ys)
    by at false f = skip-front tree (y ∷ ys) h p
    by zero true f = skip-front tree (y ∷ ys) h p
    by (suc at) true f = same-behind y (with_attribute depth at tree ys) ys (f at) p

part-same : (depth place : ℕ) (tree ys : List Node) → rootless tree ≡ true → Same (with_part depth place tree ys) ys
part-same depth place [] ys h p = refl
part-same depth place (t ∷ ts) ys h p = by (is_attribute t.content)
  where
    by : (b : Bool) → root_of p (cond b (with_attribute depth place (moved_to depth (t ∷ ts)) ys) (with_child depth place (moved_to depth (t ∷ ts)) ys)) ≡ root_of p ys
    by true = attribute-same depth place (moved_to depth (t ∷ ts)) ys (moved-rootless depth (t ∷ ts) h) p
    by false = child-same depth place (moved_to depth (t ∷ ts)) ys (moved-rootless depth (t ∷ ts) h) p

below-same : (m place : ℕ) (tree xs : List Node) → rootless tree ≡ true → Same (with_below m place tree xs) xs
below-same m place tree [] h p = refl
below-same m place tree (x ∷ xs) h p = by (x.number == m) (below-same m place tree xs h)
  where
    by : (b : Bool) → Same (with_below m place tree xs) xs → root_of p (cond b (x ∷ with_part (suc x.depth) place tree xs) (x ∷ with_below m place tree xs)) ≡ root_of p (x ∷ xs)
    by true f = same-behind x (with_part (suc x.depth) place tree xs) xs (part-same (suc x.depth) place tree xs h) p
    by false f = same-behind x (with_below m place tree xs) xs f p

-- ---- the laws

pub root_keeps_place_text : RootKeepsPlaceText
root_keeps_place_text number n place text forest trees = by (is_attribute_at n forest.nodes)
  where
    by : (b : Bool) → root_of place (cond b (with_attribute_text n text forest.nodes) (with_texts n (one_text number text) forest.nodes)) ≡ root_of place forest.nodes
    by true = keeps-same (valued n text) (valued-number n text) (valued-root n text) forest.nodes place
    by false = texts-same n number text forest.nodes trees.tops place

pub root_keeps_place_detached : RootKeepsPlaceDetached
root_keeps_place_detached n place forest trees kinds =
    skip-back (without_tree n forest.nodes) (moved_to 0 (tree_of n forest.nodes)) (moved-rootless 0 (tree_of n forest.nodes) (tree-rootless n forest.nodes trees.tops (no-root n forest.nodes kinds))) place
    ∙ without-same n forest.nodes trees.tops (no-root n forest.nodes kinds) place

pub root_keeps_place_placed : RootKeepsPlacePlaced
root_keeps_place_placed n p at place forest trees kinds =
    below-same p at (tree_of n forest.nodes) (without_tree n forest.nodes) (tree-rootless n forest.nodes trees.tops (no-root n forest.nodes kinds)) place
    ∙ without-same n forest.nodes trees.tops (no-root n forest.nodes kinds) place

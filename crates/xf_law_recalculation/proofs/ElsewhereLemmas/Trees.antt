-- The trees with some tops, where texts are set and trees are cut out and put in outside of them: they stay.
use Rattle.std.proofs.Common.{◌≡◌, ℕ, zero, suc, ◌+◌, ◌-◌, ◌==◌, Bool, true, false, not, cond, ◌&&◌, ◌||◌, List, [], ◌∷◌, ◌++◌, map, nat_lt, refl, sym, ap, ◌∙◌, arith}
use Rattle.std.specs.Prelude.{filter}
use Rattle.std.specs.List.{list_any, list_all}
use Rattle.std.proofs.lemmas.Bool.{eqb-true}
use Rattle.std.proofs.lemmas.Bool.Decides.{nat_tests}
use Rattle.xf_def_forest.specs.declared.content.Node.{Node}
use Rattle.xf_def_forest.specs.Forest.{is_root, is_attribute, has_number, below, past, tree_of}
use Rattle.xf_def_forest.specs.Visit.{has}
use Rattle.xf_def_forest.specs.Changes.{shifted, moved_to, without_tree, at_place, with_child, with_attribute, with_part, with_below}
use Rattle.xf_def_forest.specs.Needs.{is_top}
use Rattle.xf_def_forest.specs.Texts.{one_text, at_depth, with_content, with_texts, with_value, with_attribute_text, is_attribute_at}
use Rattle.xf_def_forest.specs.Settle.{with_numbered_text}
use Rattle.xf_def_forest.specs.WellFormed.{are_apart, are_tops}
use Rattle.xf_def_forest.proofs.BackLaws.{and-true, or-false, not-true}
use Rattle.xf_def_forest.proofs.RunLemmas.{tree-here, tree-other}
use Rattle.xf_law_recalculation.specs.Elsewhere.Parts.{is_under, trees_from}

pub both : (a b : Bool) → a ≡ true → b ≡ true → (a && b) ≡ true
both true b h i = i
both false b h i = h

pub or_true : (b : Bool) → (b || true) ≡ true
or_true true = refl
or_true false = refl

-- ---- nodes that are no tops

abbrev pub low : Node → Bool
low x = not (x.depth == 0)

abbrev pub all_low : List Node → Bool
all_low xs = list_all low xs

pub low-append : (xs ys : List Node) → all_low xs ≡ true → all_low ys ≡ true → all_low (xs ++ ys) ≡ true
low-append [] ys h i = i
low-append (x ∷ xs) ys h i = let parts = and-true (low x) (all_low xs) h in both (low x) (all_low (xs ++ ys)) parts.0 (low-append xs ys parts.1 i)

low-filter : (p : Node → Bool) (xs : List Node) → all_low xs ≡ true → all_low (filter p xs) ≡ true
low-filter p [] h = refl
low-filter p (x ∷ xs) h = by (p x) (low-filter p xs parts.1)
  where
    parts : (low x ≡ true) × (all_low xs ≡ true)
    parts = and-true (low x) (all_low xs) h

    by : (b : Bool) → all_low (filter p xs) ≡ true → all_low (cond b (x ∷ filter p xs) (filter p xs)) ≡ true
    by true i = both (low x) (all_low (filter p xs)) parts.0 i
    by false i = i

deeper-low : (d : ℕ) (x : Node) → nat_lt d x.depth ≡ true → low x ≡ true
deeper-low d x h = ap not far
  where
    far : (x.depth == 0) ≡ false
    far = grind (arith, nat_tests, h)

pub below-low : (d : ℕ) (xs : List Node) → all_low (below d xs) ≡ true
below-low d [] = refl
below-low d (x ∷ xs) = by (nat_lt d x.depth) refl (below-low d xs)
  where
    by : (b : Bool) → nat_lt d x.depth ≡ b → all_low (below d xs) ≡ true → all_low (cond b (x ∷ below d xs) []) ≡ true
    by true e f = both (low x) (all_low (below d xs)) (deeper-low d x e) f
    by false e f = refl

past-zero : (d k : ℕ) → (suc d + k == 0) ≡ false
past-zero d k = grind (arith, nat_tests)

not-zero : (d : ℕ) → (suc d == 0) ≡ false
not-zero d = grind (arith, nat_tests)

pub moved-low : (d : ℕ) (xs : List Node) → all_low (moved_to (suc d) xs) ≡ true
moved-low d [] = refl
moved-low d (x ∷ xs) = shifted-low x.depth (x ∷ xs)
  where
    shifted-low : (e : ℕ) (ys : List Node) → all_low (map (shifted e (suc d)) ys) ≡ true
    shifted-low e [] = refl
    shifted-low e (y ∷ ys) = both (low (shifted e (suc d) y)) (all_low (map (shifted e (suc d)) ys)) (ap not (past-zero d (y.depth - e))) (shifted-low e ys)

-- ---- the trees with some tops

module _ (tops : List ℕ) where
  -- with a node before these
  abbrev led : Node → List Node → Bool → List Node
  led x xs b = cond b (x ∷ trees_from tops b xs) (trees_from tops b xs)

  low-under : (before : Bool) (x : Node) → low x ≡ true → is_under tops before x ≡ before
  low-under before x h = ap (λ b. cond b (has x.number tops) before) (not-true (x.depth == 0) h)

  -- what is in none of the trees and no top is passed over
  pub skip : (zs ys : List Node) → all_low zs ≡ true → trees_from tops false (zs ++ ys) ≡ trees_from tops false ys
  skip [] ys h = refl
  skip (z ∷ zs) ys h = let parts = and-true (low z) (all_low zs) h in ap (led z (zs ++ ys)) (low-under false z parts.0) ∙ skip zs ys parts.1

  past-out : (d : ℕ) (xs : List Node) → trees_from tops false (past d xs) ≡ trees_from tops false xs
  past-out d [] = refl
  past-out d (x ∷ xs) = by (nat_lt d x.depth) refl (past-out d xs)
    where
      by : (b : Bool) → nat_lt d x.depth ≡ b → trees_from tops false (past d xs) ≡ trees_from tops false xs → trees_from tops false (cond b (past d xs) (x ∷ xs)) ≡ trees_from tops false (x ∷ xs)
      by true e f = f ∙ sym (ap (led x xs) (low-under false x (deeper-low d x e)))
      by false e f = refl

  -- at a top it does not count what was before
  top-any : (before : Bool) (x : Node) (xs : List Node) → (x.depth == 0) ≡ true → trees_from tops before (x ∷ xs) ≡ trees_from tops false (x ∷ xs)
  top-any before x xs h = ap (λ c. led x xs (cond c (has x.number tops) before)) h ∙ sym (ap (λ c. led x xs (cond c (has x.number tops) false)) h)

  past-any : (before : Bool) (xs : List Node) → trees_from tops before (past 0 xs) ≡ trees_from tops false (past 0 xs)
  past-any before [] = refl
  past-any before (x ∷ xs) = by (nat_lt 0 x.depth) refl (past-any before xs)
    where
      by : (b : Bool) → nat_lt 0 x.depth ≡ b → trees_from tops before (past 0 xs) ≡ trees_from tops false (past 0 xs) →
          trees_from tops before (cond b (past 0 xs) (x ∷ xs)) ≡ trees_from tops false (cond b (past 0 xs) (x ∷ xs))
      by true e f = f
      by false e f = top-any before x xs (grind (arith, nat_tests, e))

  -- ---- a node outside

  pub tail-out : (n : ℕ) (b : Bool) (x : Node) (xs : List Node) → has_number n (cond b (x ∷ xs) xs) ≡ false → has_number n xs ≡ false
  tail-out n true x xs h = (or-false (x.number == n) (has_number n xs) h).1
  tail-out n false x xs h = h

  pub head-out : (n : ℕ) (b : Bool) (x : Node) (xs : List Node) → has_number n (cond b (x ∷ xs) xs) ≡ false → (x.number == n) ≡ true → b ≡ false
  head-out n true x xs h e = sym e ∙ (or-false (x.number == n) (has_number n xs) h).0
  head-out n false x xs h e = refl

  -- ---- a text

  text-low : (d number : ℕ) (text : List ℕ) → all_low (map (at_depth (suc d)) (one_text number text)) ≡ true
  text-low d number [] = refl
  text-low d number (c ∷ cs) = ap (λ b. not b && true) (not-zero d)

  content-out : (d number : ℕ) (text : List ℕ) (xs : List Node) → trees_from tops false (with_content d (one_text number text) xs) ≡ trees_from tops false xs
  content-out d number text xs =
      skip (filter (λ y. is_attribute y.content) (below d xs) ++ map (at_depth (suc d)) (one_text number text)) (past d xs)
      (low-append (filter (λ y. is_attribute y.content) (below d xs)) (map (at_depth (suc d)) (one_text number text)) (low-filter (λ y. is_attribute y.content) (below d xs) (below-low d xs)) (text-low d number text))
      ∙ past-out d xs

  texts-stay : (n number : ℕ) (text : List ℕ) (before : Bool) (xs : List Node) → has_number n (trees_from tops before xs) ≡ false →
      trees_from tops before (with_texts n (one_text number text) xs) ≡ trees_from tops before xs
  texts-stay n number text before [] h = refl
  texts-stay n number text before (x ∷ xs) h = by (x.number == n) refl (λ i. texts-stay n number text (is_under tops before x) xs i)
    where
      b : Bool
      b = is_under tops before x

      by : (c : Bool) → (x.number == n) ≡ c → (has_number n (trees_from tops b xs) ≡ false → trees_from tops b (with_texts n (one_text number text) xs) ≡ trees_from tops b xs) →
          trees_from tops before (cond c (x ∷ with_content x.depth (one_text number text) xs) (x ∷ with_texts n (one_text number text) xs)) ≡ trees_from tops before (x ∷ xs)
      by true e f =
          let out : b ≡ false = head-out n b x (trees_from tops b xs) h e in
          ap (led x (with_content x.depth (one_text number text) xs)) out ∙ content-out x.depth number text xs ∙ sym (ap (led x xs) out)
      by false e f = ap (λ l. cond b (x ∷ l) l) (f (tail-out n b x (trees_from tops b xs) h))

  valued-stay : (n : ℕ) (text : List ℕ) (before : Bool) (xs : List Node) → has_number n (trees_from tops before xs) ≡ false →
      trees_from tops before (with_attribute_text n text xs) ≡ trees_from tops before xs
  valued-stay n text before [] h = refl
  valued-stay n text before (x ∷ xs) h = by (valued-stay n text (is_under tops before x) xs (tail-out n (is_under tops before x) x (trees_from tops (is_under tops before x) xs) h)) (x.number == n) refl
    where
      b : Bool
      b = is_under tops before x

      by : trees_from tops b (with_attribute_text n text xs) ≡ trees_from tops b xs →
          (c : Bool) → (x.number == n) ≡ c → trees_from tops before (cond c (record x { content = with_value text x.content }) x ∷ with_attribute_text n text xs) ≡ trees_from tops before (x ∷ xs)
      by rest true e =
          let out : b ≡ false = head-out n b x (trees_from tops b xs) h e in
          ap (λ l. cond b ((record x { content = with_value text x.content }) ∷ l) l) rest
          ∙ ap (λ c. cond c ((record x { content = with_value text x.content }) ∷ trees_from tops b xs) (trees_from tops b xs)) out
          ∙ sym (ap (λ c. cond c (x ∷ trees_from tops b xs) (trees_from tops b xs)) out)
      by rest false e = ap (λ l. cond b (x ∷ l) l) rest

  pub text-stays : (n number : ℕ) (text : List ℕ) (nodes : List Node) → has_number n (trees_from tops false nodes) ≡ false →
      trees_from tops false (with_numbered_text number n text nodes) ≡ trees_from tops false nodes
  text-stays n number text nodes h = by (is_attribute_at n nodes)
    where
      by : (b : Bool) → trees_from tops false (cond b (with_attribute_text n text nodes) (with_texts n (one_text number text) nodes)) ≡ trees_from tops false nodes
      by true = valued-stay n text false nodes h
      by false = texts-stay n number text false nodes h

  -- ---- a tree that is cut out

  pub without-stays : (n : ℕ) (before : Bool) (xs : List Node) → has_number n (trees_from tops before xs) ≡ false → trees_from tops before (without_tree n xs) ≡ trees_from tops before xs
  without-stays n before [] h = refl
  without-stays n before (x ∷ xs) h = by (x.number == n) refl (λ i. without-stays n (is_under tops before x) xs i)
    where
      b : Bool
      b = is_under tops before x

      by : (c : Bool) → (x.number == n) ≡ c → (has_number n (trees_from tops b xs) ≡ false → trees_from tops b (without_tree n xs) ≡ trees_from tops b xs) →
          trees_from tops before (cond c (past x.depth xs) (x ∷ without_tree n xs)) ≡ trees_from tops before (x ∷ xs)
      by true e f = at (x.depth == 0) refl
        where
          out : b ≡ false
          out = head-out n b x (trees_from tops b xs) h e

          at : (c : Bool) → (x.depth == 0) ≡ c → trees_from tops before (past x.depth xs) ≡ trees_from tops before (x ∷ xs)
          at true i =
              ap (λ d. trees_from tops before (past d xs)) (eqb-true x.depth 0 i) ∙ past-any before xs ∙ past-out 0 xs ∙ sym (ap (led x xs) out)
          at false i =
              ap (λ c. trees_from tops c (past x.depth xs)) (sym (low-under before x (ap not i)) ∙ out) ∙ past-out x.depth xs ∙ sym (ap (led x xs) out)
      by false e f = ap (λ l. cond b (x ∷ l) l) (f (tail-out n b x (trees_from tops b xs) h))

  -- ---- trees behind

  -- no top, or none of these
  abbrev pub other : Node → Bool
  other x = low x || not (has x.number tops)

  other-under : (x : Node) → other x ≡ true → is_under tops false x ≡ false
  other-under x h = by (x.depth == 0) (has x.number tops) h
    where
      by : (a b : Bool) → (not a || not b) ≡ true → cond a b false ≡ false
      by true b i = not-true b i
      by false b i = refl

  pub others-out : (zs : List Node) → list_all other zs ≡ true → trees_from tops false zs ≡ []
  others-out [] h = refl
  others-out (z ∷ zs) h = let parts = and-true (other z) (list_all other zs) h in ap (led z zs) (other-under z parts.0) ∙ others-out zs parts.1

  -- the first of these is a top
  abbrev pub begins : List Node → Bool
  begins [] = true
  begins (x ∷ xs) = x.depth == 0

  begins-any : (before : Bool) (zs : List Node) → begins zs ≡ true → trees_from tops before zs ≡ trees_from tops false zs
  begins-any before [] h = refl
  begins-any before (z ∷ zs) h = top-any before z zs h

  pub split : (before : Bool) (xs zs : List Node) → begins zs ≡ true → trees_from tops before (xs ++ zs) ≡ trees_from tops before xs ++ trees_from tops false zs
  split before [] zs h = begins-any before zs h
  split before (x ∷ xs) zs h = by (is_under tops before x) (λ c. split c xs zs h)
    where
      by : (b : Bool) → ((c : Bool) → trees_from tops c (xs ++ zs) ≡ trees_from tops c xs ++ trees_from tops false zs) → led x (xs ++ zs) b ≡ led x xs b ++ trees_from tops false zs
      by true f = ap (λ l. x ∷ l) (f true)
      by false f = f false

  -- a tree as a detached one, unless its top is one of these
  pub moved-begins : (xs : List Node) → begins (moved_to 0 xs) ≡ true
  moved-begins [] = refl
  moved-begins (x ∷ xs) = same x.depth
    where
      same : (d : ℕ) → (0 + (d - d) == 0) ≡ true
      same d = grind (arith, nat_tests)

  moved-others : (n : ℕ) (xs : List Node) → has n tops ≡ false → list_all other (moved_to 0 (tree_of n xs)) ≡ true
  moved-others n [] h = refl
  moved-others n (x ∷ xs) h = by (x.number == n) refl (moved-others n xs h)
    where
      rest : (d : ℕ) (ys : List Node) → list_all other (map (shifted d 0) (below d ys)) ≡ true
      rest d [] = refl
      rest d (y ∷ ys) = at (nat_lt d y.depth) refl (rest d ys)
        where
          at : (b : Bool) → nat_lt d y.depth ≡ b → list_all other (map (shifted d 0) (below d ys)) ≡ true → list_all other (map (shifted d 0) (cond b (y ∷ below d ys) [])) ≡ true
          at true e f = both (other (shifted d 0 y)) (list_all other (map (shifted d 0) (below d ys))) (ap (λ b. not b || not (has y.number tops)) far) f
            where
              far : (0 + (y.depth - d) == 0) ≡ false
              far = grind (arith, nat_tests, e)
          at false e f = refl

      by : (c : Bool) → (x.number == n) ≡ c → list_all other (moved_to 0 (tree_of n xs)) ≡ true → list_all other (moved_to 0 (tree_of n (x ∷ xs))) ≡ true
      by true e f =
          ap (λ t. list_all other (moved_to 0 t)) (tree-here n x xs e)
          ∙ both (other (shifted x.depth 0 x)) (list_all other (map (shifted x.depth 0) (below x.depth xs)))
          (ap (λ b. low (shifted x.depth 0 x) || not b) (ap (λ k. has k tops) (eqb-true x.number n e) ∙ h) ∙ or_true (low (shifted x.depth 0 x))) (rest x.depth xs)
      by false e f = ap (λ t. list_all other (moved_to 0 t)) (tree-other n x xs e) ∙ f

  pub moved-out : (n : ℕ) (xs : List Node) → has n tops ≡ false → trees_from tops false (moved_to 0 (tree_of n xs)) ≡ []
  moved-out n xs h = others-out (moved_to 0 (tree_of n xs)) (moved-others n xs h)

  -- ---- a tree that is put in

  abbrev Skipped : (ℕ → List Node → List Node) → List Node → Type 0
  Skipped put ys = (place : ℕ) → trees_from tops false (put place ys) ≡ trees_from tops false ys

  child-out : (d : ℕ) (tree : List Node) → all_low tree ≡ true → (ys : List Node) (place : ℕ) → trees_from tops false (with_child (suc d) place tree ys) ≡ trees_from tops false ys
  child-out d tree h [] place = ap (trees_from tops false) (sym (append-none tree)) ∙ skip tree [] h
    where
      append-none : (xs : List Node) → xs ++ [] ≡ xs
      append-none [] = refl
      append-none (x ∷ xs) = ap (λ l. x ∷ l) (append-none xs)
  child-out d tree h (y ∷ ys) place = by place (nat_lt y.depth (suc d)) (nat_lt (suc d) y.depth || is_attribute y.content) refl (child-out d tree h ys)
    where
      deep : nat_lt y.depth (suc d) ≡ false → low y ≡ true
      deep e = ap not far
        where
          far : (y.depth == 0) ≡ false
          far = grind (arith, nat_tests, e)

      passed : (zs : List Node) → nat_lt y.depth (suc d) ≡ false → trees_from tops false zs ≡ trees_from tops false ys → trees_from tops false (y ∷ zs) ≡ trees_from tops false (y ∷ ys)
      passed zs e f = ap (led y zs) (low-under false y (deep e)) ∙ f ∙ sym (ap (led y ys) (low-under false y (deep e)))

      by : (at : ℕ) (a b : Bool) → nat_lt y.depth (suc d) ≡ a → ((q : ℕ) → trees_from tops false (with_child (suc d) q tree ys) ≡ trees_from tops false ys) →
          trees_from tops false (cond a (tree ++ y ∷ ys) (cond b (y ∷ with_child (suc d) at tree ys) (at_place at (tree ++ y ∷ ys) (λ left. y ∷ with_child (suc d) left tree ys)))) ≡ trees_from tops false (y ∷ ys)
      by at true b e f = skip tree (y ∷ ys) h
      by at false true e f = passed (with_child (suc d) at tree ys) e (f at)
      by zero false false e f = skip tree (y ∷ ys) h
      by (suc at) false false e f = passed (with_child (suc d) at tree ys) e (f at)

  attribute-out : (d : ℕ) (tree : List Node) → all_low tree ≡ true → (ys : List Node) (place : ℕ) → trees_from tops false (with_attribute (suc d) place tree ys) ≡ trees_from tops false ys
  attribute-out d tree h [] place = child-out d tree h [] place
  attribute-out d tree h (y ∷ ys) place = by place ((y.depth == suc d) && is_attribute y.content) refl (attribute-out d tree h ys)
    where
      passed : (zs : List Node) → ((y.depth == suc d) && is_attribute y.content) ≡ true → trees_from tops false zs ≡ trees_from tops false ys → trees_from tops false (y ∷ zs) ≡ trees_from tops false (y ∷ ys)
      passed zs e f = ap (led y zs) (low-under false y deep) ∙ f ∙ sym (ap (led y ys) (low-under false y deep))
        where
          deep : low y ≡ true
          deep = ap (λ k. not (k == 0)) (eqb-true y.depth (suc d) (and-true (y.depth == suc d) (is_attribute y.content) e).0) ∙ ap not (not-zero d)

      by : (at : ℕ) (a : Bool) → ((y.depth == suc d) && is_attribute y.content) ≡ a → ((q : ℕ) → trees_from tops false (with_attribute (suc d) q tree ys) ≡ trees_from tops false ys) →
          trees_from tops false (cond a (at_place at (tree ++ y ∷ ys) (λ left. y ∷ with_attribute (suc d) left tree ys)) (tree ++ y ∷ ys)) ≡ trees_from tops false (y ∷ ys)
      by at false e f = skip tree (y ∷ ys) h
      by zero true e f = skip tree (y ∷ ys) h
      by (suc at) true e f = passed (with_attribute (suc d) at tree ys) e (f at)

  part-out : (d place : ℕ) (tree ys : List Node) → trees_from tops false (with_part (suc d) place tree ys) ≡ trees_from tops false ys
  part-out d place [] ys = refl
  part-out d place (t ∷ ts) ys = by (is_attribute t.content)
    where
      by : (b : Bool) → trees_from tops false (cond b (with_attribute (suc d) place (moved_to (suc d) (t ∷ ts)) ys) (with_child (suc d) place (moved_to (suc d) (t ∷ ts)) ys)) ≡ trees_from tops false ys
      by true = attribute-out d (moved_to (suc d) (t ∷ ts)) (moved-low d (t ∷ ts)) ys place
      by false = child-out d (moved_to (suc d) (t ∷ ts)) (moved-low d (t ∷ ts)) ys place

  pub put-stays : (p place : ℕ) (tree : List Node) (before : Bool) (xs : List Node) → has_number p (trees_from tops before xs) ≡ false → trees_from tops before (with_below p place tree xs) ≡ trees_from tops before xs
  put-stays p place tree before [] h = refl
  put-stays p place tree before (x ∷ xs) h = by (x.number == p) refl (λ i. put-stays p place tree (is_under tops before x) xs i)
    where
      b : Bool
      b = is_under tops before x

      by : (c : Bool) → (x.number == p) ≡ c → (has_number p (trees_from tops b xs) ≡ false → trees_from tops b (with_below p place tree xs) ≡ trees_from tops b xs) →
          trees_from tops before (cond c (x ∷ with_part (suc x.depth) place tree xs) (x ∷ with_below p place tree xs)) ≡ trees_from tops before (x ∷ xs)
      by true e f =
          let out : b ≡ false = head-out p b x (trees_from tops b xs) h e in
          ap (led x (with_part (suc x.depth) place tree xs)) out ∙ part-out x.depth place tree xs ∙ sym (ap (led x xs) out)
      by false e f = ap (λ l. cond b (x ∷ l) l) (f (tail-out p b x (trees_from tops b xs) h))

  -- ---- where a node stands

  pub in-all : (n : ℕ) (before : Bool) (xs : List Node) → has_number n xs ≡ false → has_number n (trees_from tops before xs) ≡ false
  in-all n before [] h = refl
  in-all n before (x ∷ xs) h = by (is_under tops before x) (λ b i. in-all n b xs i)
    where
      parts : ((x.number == n) ≡ false) × (has_number n xs ≡ false)
      parts = or-false (x.number == n) (has_number n xs) h

      by : (b : Bool) → ((c : Bool) → has_number n xs ≡ false → has_number n (trees_from tops c xs) ≡ false) → has_number n (led x xs b) ≡ false
      by true f = ap (λ c. c || has_number n (trees_from tops true xs)) parts.0 ∙ f true parts.1
      by false f = f false parts.1

  -- a top that is none of these is in none of the trees
  pub top-out : (n : ℕ) (before : Bool) (xs : List Node) → are_apart xs ≡ true → is_top n xs ≡ true → has n tops ≡ false → has_number n (trees_from tops before xs) ≡ false
  top-out n before [] a t h = refl
  top-out n before (x ∷ xs) a t h = by (x.number == n) (x.depth == 0) refl refl t (λ b i j. top-out n b xs i j h)
    where
      parts : (not (has_number x.number xs) ≡ true) × (are_apart xs ≡ true)
      parts = and-true (not (has_number x.number xs)) (are_apart xs) a

      none-top : (ys : List Node) → has_number n ys ≡ false → is_top n ys ≡ false
      none-top [] i = refl
      none-top (y ∷ ys) i = let ps = or-false (y.number == n) (has_number n ys) i in ap (λ b. (b && (y.depth == 0)) || is_top n ys) ps.0 ∙ none-top ys ps.1

      Later : Type 0
      Later = (b : Bool) → are_apart xs ≡ true → is_top n xs ≡ true → has_number n (trees_from tops b xs) ≡ false

      later : Later → (b : Bool) → is_top n xs ≡ true → (x.number == n) ≡ false → has_number n (led x xs b) ≡ false
      later f true i e = ap (λ c. c || has_number n (trees_from tops true xs)) e ∙ f true parts.1 i
      later f false i e = f false parts.1 i

      by : (c d : Bool) → (x.number == n) ≡ c → (x.depth == 0) ≡ d → ((c && d) || is_top n xs) ≡ true → Later → has_number n (led x xs (is_under tops before x)) ≡ false
      by true true e i j f =
          let rest : has_number n xs ≡ false = ap (λ k. has_number k xs) (sym (eqb-true x.number n e)) ∙ not-true (has_number x.number xs) parts.0 in
          ap (λ c. has_number n (led x xs c)) (ap (λ d. cond d (has x.number tops) before) i ∙ ap (λ k. has k tops) (eqb-true x.number n e) ∙ h) ∙ in-all n false xs rest
      by true false e i j f =
          let rest : has_number n xs ≡ false = ap (λ k. has_number k xs) (sym (eqb-true x.number n e)) ∙ not-true (has_number x.number xs) parts.0 in
          cc (sym j ∙ none-top xs rest)
      by false d e i j f = later f (is_under tops before x) j e

  -- one that is is in one of them
  pub top-in : (n : ℕ) (before : Bool) (xs : List Node) → are_tops xs ≡ true → list_any (λ x. (x.number == n) && is_root x.content) xs ≡ true → has n tops ≡ true → has_number n (trees_from tops before xs) ≡ true
  top-in n before [] t r h = cc r
  top-in n before (x ∷ xs) t r h = by (x.number == n) (is_root x.content) refl refl r (λ b i j. top-in n b xs i j h)
    where
      parts : ((not (is_root x.content) || (x.depth == 0)) ≡ true) × (are_tops xs ≡ true)
      parts = and-true (not (is_root x.content) || (x.depth == 0)) (are_tops xs) t

      Later : Type 0
      Later = (b : Bool) → are_tops xs ≡ true → list_any (λ y. (y.number == n) && is_root y.content) xs ≡ true → has_number n (trees_from tops b xs) ≡ true

      later : Later → (b : Bool) → list_any (λ y. (y.number == n) && is_root y.content) xs ≡ true → has_number n (led x xs b) ≡ true
      later f true i = ap (λ c. (x.number == n) || c) (f true parts.1 i) ∙ or_true (x.number == n)
      later f false i = f false parts.1 i

      by : (c d : Bool) → (x.number == n) ≡ c → is_root x.content ≡ d → ((c && d) || list_any (λ y. (y.number == n) && is_root y.content) xs) ≡ true → Later → has_number n (led x xs (is_under tops before x)) ≡ true
      by true true e i j f =
          ap (λ c. has_number n (led x xs c)) (ap (λ d. cond d (has x.number tops) before) (sym (ap (λ d. not d || (x.depth == 0)) i) ∙ parts.0) ∙ ap (λ k. has k tops) (eqb-true x.number n e) ∙ h)
          ∙ ap (λ c. c || has_number n (trees_from tops true xs)) e
      by true false e i j f = later f (is_under tops before x) j
      by false d e i j f = later f (is_under tops before x) j

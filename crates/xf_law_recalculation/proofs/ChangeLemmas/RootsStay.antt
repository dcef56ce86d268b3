-- Roots stay roots: no change but the drop of what is new takes one out of the list.
use Rattle.std.proofs.Common.{◌≡◌, ℕ, zero, suc, ◌==◌, Bool, true, false, not, cond, ◌&&◌, ◌||◌, List, [], ◌∷◌, ◌++◌, map, nat_lt, Some, option_map, refl, sym, ap, ◌∙◌, inl, inr, arith}
use Rattle.std.specs.Prelude.{◌⊎◌, filter}
use Rattle.std.specs.List.{list_any, list_all}
use Rattle.std.proofs.lemmas.Bool.Decides.{nat_tests}
use Rattle.xf_def_forest.specs.declared.content.Node.{Node}
use Rattle.xf_def_forest.specs.declared.content.Content.{Content}
use Rattle.xf_def_forest.specs.declared.content.Content.TheVariants as content
use Rattle.xf_def_forest.specs.declared.content.Kind.TheVariants as kind
use Rattle.xf_def_forest.specs.Forest.{is_root, is_attribute, has_number, node_at, content_at, kind_of, kind_at, below, past, tree_of}
use Rattle.xf_def_forest.specs.Changes.{moved_to, without_tree, is_detached_top, in_instances, in_detached, at_place, with_child, with_attribute, with_part, with_below}
use Rattle.xf_def_forest.specs.Texts.{one_text, at_depth, with_content, with_texts, with_attribute_text, with_value, valued, is_attribute_at}
use Rattle.xf_def_forest.specs.WellFormed.{are_tops, are_apart}
use Rattle.xf_def_forest.proofs.BackLaws.{and-true}
use Rattle.xf_def_forest.proofs.MoveLemmas.{gone-after}
use Rattle.xf_def_xpath.proofs.VisitFacts.{no, some-same, or-right}
use Rattle.xf_law_recalculation.specs.Change.Documents.{is_root_in, RootStaysText, RootStaysDetached, RootStaysPlaced, RootStands}

pub value-root : (text : List ℕ) (c : Content) → is_root (with_value text c) ≡ is_root c
value-root text content.Root = refl
value-root text (content.Element name) = refl
value-root text (content.Attribute name old) = refl
value-root text (content.Text old) = refl

module _ (root : ℕ) where
  abbrev R : Node → Bool
  R x = (x.number == root) && is_root x.content

  any-left : (xs ys : List Node) → list_any R xs ≡ true → list_any R (xs ++ ys) ≡ true
  any-left [] ys h = no h
  any-left (x ∷ xs) ys h = by (R x) h (any-left xs ys)
    where
      by : (b : Bool) → (b || list_any R xs) ≡ true → (list_any R xs ≡ true → list_any R (xs ++ ys) ≡ true) → (b || list_any R (xs ++ ys)) ≡ true
      by true i f = refl
      by false i f = f i

  any-right : (xs ys : List Node) → list_any R ys ≡ true → list_any R (xs ++ ys) ≡ true
  any-right [] ys h = h
  any-right (x ∷ xs) ys h = or-right (R x) (list_any R (xs ++ ys)) (any-right xs ys h)

  -- ---- a text

  -- what is deeper is no root
  in-past : (d : ℕ) (xs : List Node) → are_tops xs ≡ true → list_any R xs ≡ true → list_any R (past d xs) ≡ true
  in-past d [] t h = h
  in-past d (x ∷ xs) t h = by (nat_lt d x.depth) refl (in-past d xs parts.1)
    where
      parts : ((not (is_root x.content) || (x.depth == 0)) ≡ true) × (are_tops xs ≡ true)
      parts = and-true (not (is_root x.content) || (x.depth == 0)) (are_tops xs) t

      deep : nat_lt d x.depth ≡ true → R x ≡ false
      deep e = of (x.number == root) (is_root x.content) (x.depth == 0) refl parts.0
        where
          of : (a b c : Bool) → (x.depth == 0) ≡ c → (not b || c) ≡ true → (a && b) ≡ false
          of true true true i j = let f : true ≡ false = grind (arith, nat_tests, e, i) in f
          of true true false i j = sym j
          of true false c i j = refl
          of false b c i j = refl

      by : (b : Bool) → nat_lt d x.depth ≡ b → (list_any R xs ≡ true → list_any R (past d xs) ≡ true) → list_any R (cond b (past d xs) (x ∷ xs)) ≡ true
      by true e f = f (sym (ap (λ c. c || list_any R xs) (deep e)) ∙ h)
      by false e f = h

  same-valued : (n : ℕ) (text : List ℕ) (x : Node) → R (valued n text x) ≡ R x
  same-valued n text x = by (x.number == n)
    where
      by : (b : Bool) → R (cond b (record x { content = with_value text x.content }) x) ≡ R x
      by true = ap (λ c. (x.number == root) && c) (value-root text x.content)
      by false = refl

  in-valued : (n : ℕ) (text : List ℕ) (xs : List Node) → list_any R (with_attribute_text n text xs) ≡ list_any R xs
  in-valued n text [] = refl
  in-valued n text (x ∷ xs) = ap (λ b. b || list_any R (with_attribute_text n text xs)) (same-valued n text x) ∙ ap (λ b. R x || b) (in-valued n text xs)

  in-texts : (n : ℕ) (texts xs : List Node) → are_tops xs ≡ true → list_any R xs ≡ true → list_any R (with_texts n texts xs) ≡ true
  in-texts n texts [] t h = h
  in-texts n texts (x ∷ xs) t h = by (x.number == n) (R x) h (in-texts n texts xs parts.1)
    where
      parts : ((not (is_root x.content) || (x.depth == 0)) ≡ true) × (are_tops xs ≡ true)
      parts = and-true (not (is_root x.content) || (x.depth == 0)) (are_tops xs) t

      of : (b : Bool) (ys : List Node) → (b || list_any R xs) ≡ true → (list_any R xs ≡ true → list_any R ys ≡ true) → (b || list_any R ys) ≡ true
      of true ys i f = refl
      of false ys i f = f i

      by : (b r : Bool) → (r || list_any R xs) ≡ true → (list_any R xs ≡ true → list_any R (with_texts n texts xs) ≡ true) → list_any R (cond b (x ∷ with_content x.depth texts xs) (x ∷ with_texts n texts xs)) ≡ true
      by true r i f = of (R x) (with_content x.depth texts xs) h
          (λ j. any-right (filter (λ y. is_attribute y.content) (below x.depth xs) ++ map (at_depth (suc x.depth)) texts) (past x.depth xs) (in-past x.depth xs parts.1 j))
      by false r i f = of (R x) (with_texts n texts xs) h f

  -- ---- a tree

  in-without : (n : ℕ) (xs : List Node) → are_tops xs ≡ true → ((z : Node) → node_at n xs ≡ Some z → is_root z.content ≡ false) → list_any R xs ≡ true → list_any R (without_tree n xs) ≡ true
  in-without n [] t o h = h
  in-without n (x ∷ xs) t o h = by (x.number == n) o (in-without n xs parts.1)
    where
      parts : ((not (is_root x.content) || (x.depth == 0)) ≡ true) × (are_tops xs ≡ true)
      parts = and-true (not (is_root x.content) || (x.depth == 0)) (are_tops xs) t

      none : (b : Bool) → (b && false) ≡ false
      none true = refl
      none false = refl

      of : (b : Bool) (ys : List Node) → (b || list_any R xs) ≡ true → (list_any R xs ≡ true → list_any R ys ≡ true) → (b || list_any R ys) ≡ true
      of true ys i f = refl
      of false ys i f = f i

      by : (b : Bool) → ((z : Node) → cond b (Some x) (node_at n xs) ≡ Some z → is_root z.content ≡ false) →
          (((z : Node) → node_at n xs ≡ Some z → is_root z.content ≡ false) → list_any R xs ≡ true → list_any R (without_tree n xs) ≡ true) →
          list_any R (cond b (past x.depth xs) (x ∷ without_tree n xs)) ≡ true
      by true p f = in-past x.depth xs parts.1 (sym (ap (λ c. c || list_any R xs) (ap (λ c. (x.number == root) && c) (p x refl) ∙ none (x.number == root))) ∙ h)
      by false p f = of (R x) (without_tree n xs) h (f p)

  in-child : (depth place : ℕ) (tree ys : List Node) → list_any R ys ≡ true → list_any R (with_child depth place tree ys) ≡ true
  in-child depth place tree [] h = no h
  in-child depth place tree (y ∷ ys) h = by place (nat_lt y.depth depth) (nat_lt depth y.depth || is_attribute y.content) (λ q. in-child depth q tree ys)
    where
      behind : (zs : List Node) → (list_any R ys ≡ true → list_any R zs ≡ true) → list_any R (y ∷ zs) ≡ true
      behind zs f = of (R y) h
        where
          of : (b : Bool) → (b || list_any R ys) ≡ true → (b || list_any R zs) ≡ true
          of true i = refl
          of false i = f i

      by : (at : ℕ) (a b : Bool) → ((q : ℕ) → list_any R ys ≡ true → list_any R (with_child depth q tree ys) ≡ true) →
          list_any R (cond a (tree ++ y ∷ ys) (cond b (y ∷ with_child depth at tree ys) (at_place at (tree ++ y ∷ ys) (λ left. y ∷ with_child depth left tree ys)))) ≡ true
      by at true b f = any-right tree (y ∷ ys) h
      by at false true f = behind (with_child depth at tree ys) (f at)
      by zero false false f = any-right tree (y ∷ ys) h
      by (suc at) false false f = behind (with_child depth at tree ys) (f at)

  in-attribute : (depth place : ℕ) (tree ys : List Node) → list_any R ys ≡ true → list_any R (with_attribute depth place tree ys) ≡ true
  in-attribute depth place tree [] h = no h
  in-attribute depth place tree (y ∷ ys) h = by place ((y.depth == depth) && is_attribute y.content) (λ q. in-attribute depth q tree ys)
    where
      behind : (zs : List Node) → (list_any R ys ≡ true → list_any R zs ≡ true) → list_any R (y ∷ zs) ≡ true
      behind zs f = of (R y) h
        where
          of : (b : Bool) → (b || list_any R ys) ≡ true → (b || list_any R zs) ≡ true
          of true i = refl
          of false i = f i

      by : (at : ℕ) (a : Bool) → ((q : ℕ) → list_any R ys ≡ true → list_any R (with_attribute depth q tree ys) ≡ true) →
          list_any R (cond a (at_place at (tree ++ y ∷ ys) (λ left. y ∷ with_attribute depth left tree ys)) (tree ++ y ∷ ys)) ≡ true
      by at false f = any-right tree (y ∷ ys) h
      by zero true f = any-right tree (y ∷ ys) h
      by (suc at) true f = behind (with_attribute depth at tree ys) (f at)

  in-part : (depth place : ℕ) (tree ys : List Node) → list_any R ys ≡ true → list_any R (with_part depth place tree ys) ≡ true
  in-part depth place [] ys h = h
  in-part depth place (t ∷ ts) ys h = by (is_attribute t.content)
    where
      by : (b : Bool) → list_any R (cond b (with_attribute depth place (moved_to depth (t ∷ ts)) ys) (with_child depth place (moved_to depth (t ∷ ts)) ys)) ≡ true
      by true = in-attribute depth place (moved_to depth (t ∷ ts)) ys h
      by false = in-child depth place (moved_to depth (t ∷ ts)) ys h

  in-below : (p place : ℕ) (tree xs : List Node) → list_any R xs ≡ true → list_any R (with_below p place tree xs) ≡ true
  in-below p place tree [] h = h
  in-below p place tree (x ∷ xs) h = by (x.number == p) (in-below p place tree xs)
    where
      of : (b : Bool) (ys : List Node) → (b || list_any R xs) ≡ true → (list_any R xs ≡ true → list_any R ys ≡ true) → (b || list_any R ys) ≡ true
      of true ys i f = refl
      of false ys i f = f i

      by : (b : Bool) → (list_any R xs ≡ true → list_any R (with_below p place tree xs) ≡ true) → list_any R (cond b (x ∷ with_part (suc x.depth) place tree xs) (x ∷ with_below p place tree xs)) ≡ true
      by true f = of (R x) (with_part (suc x.depth) place tree xs) h (in-part (suc x.depth) place tree xs)
      by false f = of (R x) (with_below p place tree xs) h f

  -- ---- where it stands

  number-of : (xs : List Node) → list_any R xs ≡ true → has_number root xs ≡ true
  number-of [] h = h
  number-of (x ∷ xs) h = by (x.number == root) (is_root x.content) h (number-of xs)
    where
      by : (a b : Bool) → ((a && b) || list_any R xs) ≡ true → (list_any R xs ≡ true → has_number root xs ≡ true) → (a || has_number root xs) ≡ true
      by true b i f = refl
      by false b i f = f i

  content-of : (xs : List Node) → are_apart xs ≡ true → list_any R xs ≡ true → content_at root xs ≡ Some content.Root
  content-of [] a h = no h
  content-of (x ∷ xs) a h = by (x.number == root) refl (is_root x.content) refl h (content-of xs (and-true (not (has_number x.number xs)) (are_apart xs) a).1)
    where
      is : (c : Content) → is_root c ≡ true → c ≡ content.Root
      is content.Root i = refl
      is (content.Element name) i = no i
      is (content.Attribute name text) i = no i
      is (content.Text text) i = no i

      by : (b : Bool) → (x.number == root) ≡ b → (c : Bool) → is_root x.content ≡ c → ((b && c) || list_any R xs) ≡ true → (list_any R xs ≡ true → content_at root xs ≡ Some content.Root) →
          option_map (λ (z : Node). z.content) (cond b (Some x) (node_at root xs)) ≡ Some content.Root
      by true e true i j f = ap Some (is x.content i)
      by true e false i j f = no (sym (gone-after root x xs a e) ∙ number-of xs j)
      by false e c i j f = f j

  rootless : (xs : List Node) → list_all (λ y. not (is_root y.content)) xs ≡ true → list_any R xs ≡ true → false ≡ true
  rootless [] l h = h
  rootless (x ∷ xs) l h = by (x.number == root) (is_root x.content) parts.0 h (rootless xs parts.1)
    where
      parts : (not (is_root x.content) ≡ true) × (list_all (λ y. not (is_root y.content)) xs ≡ true)
      parts = and-true (not (is_root x.content)) (list_all (λ y. not (is_root y.content)) xs) l

      by : (a b : Bool) → not b ≡ true → ((a && b) || list_any R xs) ≡ true → (list_any R xs ≡ true → false ≡ true) → false ≡ true
      by a true i j f = i
      by true false i j f = f j
      by false false i j f = f j

  in-front : (xs : List Node) → list_all (λ y. not (is_root y.content)) (in_detached xs) ≡ true → list_any R xs ≡ true → has_number root (in_instances xs) ≡ true
  in-front [] l h = h
  in-front (x ∷ xs) l h = by (is_detached_top x) l (in-front xs)
    where
      by : (b : Bool) → list_all (λ y. not (is_root y.content)) (cond b (x ∷ xs) (in_detached xs)) ≡ true →
          (list_all (λ y. not (is_root y.content)) (in_detached xs) ≡ true → list_any R xs ≡ true → has_number root (in_instances xs) ≡ true) → has_number root (cond b [] (x ∷ in_instances xs)) ≡ true
      by true i f = no (rootless (x ∷ xs) i h)
      by false i f = of (x.number == root) (is_root x.content) h
        where
          of : (a b : Bool) → ((a && b) || list_any R xs) ≡ true → (a || has_number root (in_instances xs)) ≡ true
          of true b j = refl
          of false b j = f i j

-- ---- the laws

pub no-root : (n : ℕ) (nodes : List Node) → (kind_at n nodes ≡ Some kind.Element) ⊎ (kind_at n nodes ≡ Some kind.Attribute) → (z : Node) → node_at n nodes ≡ Some z → is_root z.content ≡ false
no-root n nodes h z e = elim h [
  | inl i ↦ by z.content (inl (some-same (sym (ap (λ o. option_map kind_of (option_map (λ (y : Node). y.content) o)) e) ∙ i)))
  | inr i ↦ by z.content (inr (some-same (sym (ap (λ o. option_map kind_of (option_map (λ (y : Node). y.content) o)) e) ∙ i)))
]
  where
    by : (c : Content) → (kind_of c ≡ kind.Element) ⊎ (kind_of c ≡ kind.Attribute) → is_root c ≡ false
    by content.Root (inl i) = cc i
    by content.Root (inr i) = cc i
    by (content.Element name) i = refl
    by (content.Attribute name text) i = refl
    by (content.Text text) i = refl

pub root_stays_text : RootStaysText
root_stays_text number n root text forest trees h = by (is_attribute_at n forest.nodes)
  where
    by : (b : Bool) → is_root_in root (cond b (with_attribute_text n text forest.nodes) (with_texts n (one_text number text) forest.nodes)) ≡ true
    by true = in-valued root n text forest.nodes ∙ h
    by false = in-texts root n (one_text number text) forest.nodes trees.tops h

pub root_stays_detached : RootStaysDetached
root_stays_detached n root forest trees kinds h =
    any-left root (without_tree n forest.nodes) (moved_to 0 (tree_of n forest.nodes)) (in-without root n forest.nodes trees.tops (no-root n forest.nodes kinds) h)

pub root_stays_placed : RootStaysPlaced
root_stays_placed n p place root forest trees kinds h =
    in-below root p place (tree_of n forest.nodes) (without_tree n forest.nodes) (in-without root n forest.nodes trees.tops (no-root n forest.nodes kinds) h)

pub root_stands : RootStands
root_stands root forest trees hung ahead h = record {
  trees = trees;
  hung = hung;
  content = content-of root forest.nodes trees.apart h;
  stands = in-front root forest.nodes ahead h;
}

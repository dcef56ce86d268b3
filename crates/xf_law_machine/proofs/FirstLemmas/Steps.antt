-- The nodes of a forest, one after the other: what of them is so is so of a tree of it.
use Rattle.std.proofs.Common.{◌≡◌, ◌⊎◌, ℕ, suc, ◌==◌, Bool, true, false, not, cond, ◌&&◌, ◌||◌, List, [], ◌∷◌, ◌++◌, map, nat_lt, nat_le, refl, sym, ap, ◌∙◌, subst, inl, inr, arith}
use Rattle.std.proofs.lemmas.Bool.Decides.{nat_tests}
use Rattle.xf_name.specs.Bindings.{Bindings}
use Rattle.xf_def_forest.specs.declared.content.Content.{Content}
use Rattle.xf_def_forest.specs.declared.content.Content.TheVariants.{Root, Element, Attribute, Text}
use Rattle.xf_def_forest.specs.declared.content.Node.{Node}
use Rattle.xf_def_forest.specs.Changes.{shifted, moved_to}
use Rattle.xf_def_forest.specs.Forest.{Forest, below, first_tree, from_node, is_attribute, is_element, is_root, is_text, past}
use Rattle.xf_def_forest.specs.Plant.{is_less, numbered_from, written_of}
use Rattle.xf_def_forest.specs.Shape.{erased, shape_of, without_text}
use Rattle.xf_def_forest.specs.Visit.{Visit, still_above, visit, visits, visits_from}
use Rattle.xf_def_forest.specs.WellFormed.{HasTrees, are_depths_from, are_first, are_tops, reach, stands_first}
use Rattle.xf_def_forest.proofs.BackLaws.{and-true}
use Rattle.xf_def_xpath.specs.Agree.{untexted}
use Rattle.xf_def_xpath.proofs.ShapeVisits.{shape-untexted}
use Rattle.xf_def_xpath.proofs.VisitFacts.{no}
use Rattle.xf_law_machine.specs.First.Well.{AreWell, Bears, IsWell}
use Rattle.xf_law_machine.proofs.FirstLemmas.Fine.{Fine, MayBear, boned, prefix-fine}

-- ---- nodes without texts

abbrev pub bone : Content → List Content → List Content
bone Root cs = Root ∷ cs
bone (Element name) cs = Element name ∷ cs
bone (Attribute name text) cs = Attribute name [] ∷ cs
bone (Text text) cs = cs

abbrev pub bones : List Node → List Content
bones [] = []
bones (x ∷ xs) = bone x.content (bones xs)

pub bones-append : (xs ys : List Node) → bones (xs ++ ys) ≡ bones xs ++ bones ys
bones-append [] ys = refl
bones-append (x ∷ xs) ys = by x.content (bones-append xs ys)
  where
    by : (c : Content) → bones (xs ++ ys) ≡ bones xs ++ bones ys → bone c (bones (xs ++ ys)) ≡ bone c (bones xs) ++ bones ys
    by Root h = ap (λ l. Root ∷ l) h
    by (Element name) h = ap (λ l. Element name ∷ l) h
    by (Attribute name text) h = ap (λ l. Attribute name [] ∷ l) h
    by (Text text) h = h

shifted-bones : (from to : ℕ) (xs : List Node) → bones (map (shifted from to) xs) ≡ bones xs
shifted-bones from to [] = refl
shifted-bones from to (x ∷ xs) = ap (bone x.content) (shifted-bones from to xs)

pub moved-bones : (to : ℕ) (xs : List Node) → bones (moved_to to xs) ≡ bones xs
moved-bones to [] = refl
moved-bones to (x ∷ xs) = shifted-bones x.depth to (x ∷ xs)

pub numbered-bones : (n : ℕ) (d : List (ℕ × Content)) → bones (numbered_from n d) ≡ boned d
numbered-bones n [] = refl
numbered-bones n ((depth, Root) ∷ d) = ap (λ l. Root ∷ l) (numbered-bones (suc n) d)
numbered-bones n ((depth, Element name) ∷ d) = ap (λ l. Element name ∷ l) (numbered-bones (suc n) d)
numbered-bones n ((depth, Attribute name text) ∷ d) = ap (λ l. Attribute name [] ∷ l) (numbered-bones (suc n) d)
numbered-bones n ((depth, Text text) ∷ d) = numbered-bones (suc n) d

-- ---- the same in two forests of one shape

contents_of : List Visit → List Content
contents_of [] = []
contents_of (v ∷ vs) = v.content ∷ contents_of vs

visited-bones : (above xs : List Node) → contents_of (untexted (map erased (visits_from above xs))) ≡ bones xs
unfolding contents_of
visited-bones above [] = refl
visited-bones above (x ∷ xs) = by x.content (visited-bones (x ∷ still_above x.depth above) xs)
  where
    by : (c : Content) → contents_of (untexted (map erased (visits_from (x ∷ still_above x.depth above) xs))) ≡ bones xs →
        contents_of (cond (not (is_text (without_text c))) (record (erased (visit above x)) { content = without_text c } ∷ untexted (map erased (visits_from (x ∷ still_above x.depth above) xs)))
        (untexted (map erased (visits_from (x ∷ still_above x.depth above) xs)))) ≡ bone c (bones xs)
    by Root h = ap (λ l. Root ∷ l) h
    by (Element name) h = ap (λ l. Element name ∷ l) h
    by (Attribute name text) h = ap (λ l. Attribute name [] ∷ l) h
    by (Text text) h = h

pub same-bones : (xs ys : List Node) → shape_of xs ≡ shape_of ys → bones xs ≡ bones ys
same-bones xs ys e =
    sym (visited-bones [] xs) ∙ ap contents_of (sym (shape-untexted (visits xs)) ∙ ap (λ s. untexted (map erased s)) e ∙ shape-untexted (visits ys)) ∙ visited-bones [] ys

-- ---- a tree of a forest

bones-below : (d : ℕ) (xs : List Node) → bones xs ≡ bones (below d xs) ++ bones (past d xs)
bones-below d [] = refl
bones-below d (x ∷ xs) = by (nat_lt d x.depth) (bones-below d xs)
  where
    grow : (c : Content) → bones xs ≡ bones (below d xs) ++ bones (past d xs) → bone c (bones xs) ≡ bone c (bones (below d xs)) ++ bones (past d xs)
    grow Root h = ap (λ l. Root ∷ l) h
    grow (Element name) h = ap (λ l. Element name ∷ l) h
    grow (Attribute name text) h = ap (λ l. Attribute name [] ∷ l) h
    grow (Text text) h = h

    by : (b : Bool) → bones xs ≡ bones (below d xs) ++ bones (past d xs) → bone x.content (bones xs) ≡ bones (cond b (x ∷ below d xs) []) ++ bones (cond b (past d xs) (x ∷ xs))
    by true h = grow x.content h
    by false h = refl

module _ (b : Bindings) where
  fine-rest : (c : Content) (cs : List Content) → Fine b (bone c cs) → Fine b cs
  fine-rest Root cs h = h.2
  fine-rest (Element name) cs h = h.2
  fine-rest (Attribute name text) cs h = h.2
  fine-rest (Text text) cs h = h

  fine-from : (n : ℕ) (xs : List Node) → Fine b (bones xs) → Fine b (bones (from_node n xs))
  fine-from n [] h = tt
  fine-from n (x ∷ xs) h = by (x.number == n) (fine-from n xs (fine-rest x.content (bones xs) h))
    where
      by : (c : Bool) → Fine b (bones (from_node n xs)) → Fine b (bones (cond c (x ∷ xs) (from_node n xs)))
      by true i = h
      by false i = i

  fine-first : (xs : List Node) → Fine b (bones xs) → Fine b (bones (first_tree xs))
  fine-first [] h = tt
  fine-first (x ∷ xs) h = by x.content h
    where
      by : (c : Content) → Fine b (bone c (bones xs)) → Fine b (bone c (bones (below x.depth xs)))
      by Root h = prefix-fine b (Root ∷ bones (below x.depth xs)) (bones (past x.depth xs)) (subst (λ l. Fine b (Root ∷ l)) (bones-below x.depth xs) h)
      by (Element name) h = prefix-fine b (Element name ∷ bones (below x.depth xs)) (bones (past x.depth xs)) (subst (λ l. Fine b (Element name ∷ l)) (bones-below x.depth xs) h)
      by (Attribute name text) h = prefix-fine b (Attribute name [] ∷ bones (below x.depth xs)) (bones (past x.depth xs)) (subst (λ l. Fine b (Attribute name [] ∷ l)) (bones-below x.depth xs) h)
      by (Text text) h = prefix-fine b (bones (below x.depth xs)) (bones (past x.depth xs)) (subst (Fine b) (bones-below x.depth xs) h)

  pub fine-tree : (n : ℕ) (xs : List Node) → Fine b (bones xs) → Fine b (bones (first_tree (from_node n xs)))
  fine-tree n xs h = fine-first (from_node n xs) (fine-from n xs h)

-- ---- steps from node to node

abbrev pub StepTo : Node → List Node → Type 0
StepTo x [] = Unit {0}
StepTo x (y ∷ ys) = (nat_le y.depth (reach x) ≡ true) × (stands_first x y ≡ true)

abbrev pub AreSteps : List Node → Type 0
AreSteps [] = Unit {0}
AreSteps (x ∷ xs) = ((not (is_root x.content) || (x.depth == 0)) ≡ true) × StepTo x xs × AreSteps xs

steps-of : (most : ℕ) (xs : List Node) → are_depths_from most xs ≡ true → are_first xs ≡ true → are_tops xs ≡ true → AreSteps xs
steps-of most [] d f t = tt
steps-of most (x ∷ []) d f t = ((and-true (not (is_root x.content) || (x.depth == 0)) true t).0, tt, tt)
steps-of most (x ∷ y ∷ ys) d f t =
    let ts = and-true (not (is_root x.content) || (x.depth == 0)) (are_tops (y ∷ ys)) t in
    let fs = and-true (stands_first x y) (are_first (y ∷ ys)) f in
    let later = (and-true (nat_le x.depth most) (are_depths_from (reach x) (y ∷ ys)) d).1 in
    (ts.0, ((and-true (nat_le y.depth (reach x)) (are_depths_from (reach y) ys) later).0, fs.0), steps-of (reach x) (y ∷ ys) later fs.1 ts.1)

pub forest-steps : (forest : Forest) → HasTrees forest → AreSteps forest.nodes
forest-steps forest t = steps-of 0 forest.nodes t.depths t.first t.tops

steps-from : (n : ℕ) (xs : List Node) → AreSteps xs → AreSteps (from_node n xs)
steps-from n [] h = tt
steps-from n (x ∷ xs) h = by (x.number == n) (steps-from n xs h.2)
  where
    by : (c : Bool) → AreSteps (from_node n xs) → AreSteps (cond c (x ∷ xs) (from_node n xs))
    by true i = h
    by false i = i

step-below : (d : ℕ) (x : Node) (xs : List Node) → StepTo x xs → StepTo x (below d xs)
step-below d x [] h = tt
step-below d x (y ∷ ys) h = by (nat_lt d y.depth)
  where
    by : (c : Bool) → StepTo x (cond c (y ∷ below d ys) [])
    by true = h
    by false = tt

steps-below : (d : ℕ) (xs : List Node) → AreSteps xs → AreSteps (below d xs)
steps-below d [] h = tt
steps-below d (x ∷ xs) h = by (nat_lt d x.depth) (steps-below d xs h.2)
  where
    by : (c : Bool) → AreSteps (below d xs) → AreSteps (cond c (x ∷ below d xs) [])
    by true i = (h.0, step-below d x xs h.1, i)
    by false i = tt

steps-first : (xs : List Node) → AreSteps xs → AreSteps (first_tree xs)
steps-first [] h = tt
steps-first (x ∷ xs) h = (h.0, step-below x.depth x xs h.1, steps-below x.depth xs h.2)

pub tree-steps : (n : ℕ) (xs : List Node) → AreSteps xs → AreSteps (first_tree (from_node n xs))
tree-steps n xs h = steps-first (from_node n xs) (steps-from n xs h)

-- ---- a tree that is well

abbrev pub AllDeep : ℕ → List Node → Type 0
AllDeep k [] = Unit {0}
AllDeep k (x ∷ xs) = (nat_le k x.depth ≡ true) × AllDeep k xs

-- no text is empty
abbrev pub IsFilled : Content → Type 0
IsFilled (Text []) = ⊥
IsFilled c = Unit {0}

abbrev pub AreFilled : List Node → Type 0
AreFilled [] = Unit {0}
AreFilled (x ∷ xs) = IsFilled x.content × AreFilled xs

module _ (b : Bindings) (k : ℕ) where
  content-well : (c : Content) (cs : List Content) (depth : ℕ) → nat_le (suc k) depth ≡ true → (not (is_root c) || (depth == 0)) ≡ true → IsFilled c → Fine b (bone c cs) → IsWell b c
  content-well Root cs depth deep top filled h =
      let none : (depth == 0) ≡ false = grind (arith, nat_tests, deep) in
      no (sym none ∙ top)
  content-well (Element name) cs depth deep top filled h = h.0
  content-well (Attribute name text) cs depth deep top filled h = h.0
  content-well (Text []) cs depth deep top filled h = filled
  content-well (Text (c ∷ cs)) more depth deep top filled h = tt

  -- an attribute stands behind its element or a lesser one
  bears : (x y : Node) (ys : List Node) → nat_le (suc k) y.depth ≡ true → stands_first x y ≡ true → Fine b (bone x.content (bone y.content (bones ys))) → is_attribute y.content ≡ true → Bears x y
  bears x y ys deep first h own = by x.content y.content (x.depth) (y.depth) deep first h own
    where
      equal : (m n : ℕ) → (m == n) ≡ true → n ≡ m
      equal m n e = grind (arith, nat_tests, e)

      not-zero : (m : ℕ) → nat_le (suc k) m ≡ true → (m == 0) ≡ false
      not-zero m i = grind (arith, nat_tests, i)

      or-false : (p q r s : Bool) → p ≡ false → q ≡ false → (p || q || r || s) ≡ true → (r || s) ≡ true
      or-false true q r s e f i = no (sym e)
      or-false false true r s e f i = no (sym f)
      or-false false false r s e f i = i

      by : (c f : Content) (d e : ℕ) → nat_le (suc k) e ≡ true
          → (not (is_attribute f) || (e == 0) || (is_element c && (suc d == e)) || (is_attribute c && (d == e))) ≡ true → Fine b (bone c (bone f (bones ys))) → is_attribute f ≡ true →
          ((is_element c ≡ true) × (e ≡ suc d)) ⊎ ((is_attribute c ≡ true) × (e ≡ d) × (is_less (written_of f) (written_of c) ≡ false))
      by c Root d e deep first h own = no own
      by c (Element name) d e deep first h own = no own
      by c (Text text) d e deep first h own = no own
      by Root (Attribute name text) d e deep first h own = no (or-false false (e == 0) false false refl (not-zero e deep) first)
      by (Text other) (Attribute name text) d e deep first h own = no (or-false false (e == 0) false false refl (not-zero e deep) first)
      by (Element other) (Attribute name text) d e deep first h own = inl (refl, equal (suc d) e (or-last (suc d == e) (or-false false (e == 0) (suc d == e) false refl (not-zero e deep) first)))
        where
          or-last : (p : Bool) → (p || false) ≡ true → p ≡ true
          or-last true i = refl
          or-last false i = i
      by (Attribute other value) (Attribute name text) d e deep first h own =
          inr (refl, equal d e (or-false false (e == 0) false (d == e) refl (not-zero e deep) first), order (h.1 refl))
        where
          order : MayBear b (Attribute other []) (Attribute name []) → is_less (written_of (Attribute name text)) (written_of (Attribute other value)) ≡ false
          order (inl i) = no i
          order (inr i) = i.1

  pub well : (xs : List Node) → AllDeep (suc k) xs → AreSteps xs → AreFilled xs → Fine b (bones xs) → AreWell b (suc k) xs
  well [] deep steps filled h = tt
  well (x ∷ []) deep steps filled h = (content-well x.content [] x.depth deep.0 steps.0 filled.0 h, deep.0, tt, tt)
  well (x ∷ y ∷ ys) deep steps filled h = (
    content-well x.content (bones (y ∷ ys)) x.depth deep.0 steps.0 filled.0 h,
    deep.0,
    (steps.1.0, bears x y ys deep.1.0 steps.1.1 h),
    well (y ∷ ys) deep.1 steps.2 filled.1 (fine-rest b x.content (bones (y ∷ ys)) h),
  )

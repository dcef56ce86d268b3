-- A tree that is attached in an instance is planted in the list of the instances.
use Rattle.std.proofs.Common.{◌≡◌, ℕ, suc, ◌-◌, ◌+◌, ◌==◌, Bool, true, false, not, cond, ◌&&◌, ◌||◌, List, [], ◌∷◌, ◌++◌, map, nat_lt, Some, refl, sym, ap, ◌∙◌, subst, append-nil, arith}
use Rattle.std.specs.Prelude.{zero, nat_le}
use Rattle.std.specs.List.{list_all}
use Rattle.std.proofs.lemmas.Bool.{eqb-true}
use Rattle.std.proofs.lemmas.Bool.Decides.{nat_tests}
use Rattle.xf_def_forest.specs.declared.content.Node.{Node}
use Rattle.xf_def_forest.specs.Forest.{is_root, is_attribute, is_text, has_number, node_at, below, past, tree_of}
use Rattle.xf_def_forest.specs.Visit.{Visit, is_first, still_above, numbers, visit, visits_from, visits}
use Rattle.xf_def_forest.specs.Changes.{shifted, without_tree, is_detached_top, in_instances, in_detached, at_place, with_child, with_attribute, with_part, with_below, placed}
use Rattle.xf_def_forest.specs.WellFormed.{reach, are_depths_from}
use Rattle.xf_def_forest.proofs.BackLaws.{and-true, or-false}
use Rattle.xf_def_forest.proofs.RunLemmas.{AreDeeper, tree-here, tree-other}
use Rattle.xf_def_forest.proofs.VisitLemmas.{BeginsWithin}
use Rattle.xf_def_xpath.specs.Asked.{found}
use Rattle.xf_def_xpath.proofs.VisitFacts.{no, some-same, none-some}
use Rattle.xf_law_recalculation.specs.Marks.Marks.{SameNodes}
use Rattle.xf_law_recalculation.specs.Marks.Binds.{instances_of}
use Rattle.xf_law_recalculation.specs.Edit.Edits.{StandsIn}
use Rattle.xf_law_recalculation.specs.Edit.InstanceEdits.{TreeAttached}
use Rattle.xf_law_recalculation.proofs.MarksLemmas.BindInstances.{front-number, front-trees}
use Rattle.xf_law_recalculation.proofs.EditLemmas.FrontEdits.{deep-no_top, front-deep}
use Rattle.xf_law_recalculation.proofs.EditLemmas.CutLaws.{still-within, deeper, tree_planted}

-- ---- trees put among nodes

past-through : (d : ℕ) (ms ys : List Node) → AreDeeper d ms → BeginsWithin d ys → past d (ms ++ ys) ≡ ys
past-through d [] [] h k = refl
past-through d [] (y ∷ ys) h k = ap (λ b. cond b (past d ys) (y ∷ ys)) k
past-through d (m ∷ ms) ys h k = ap (λ b. cond b (past d (ms ++ ys)) (m ∷ ms ++ ys)) h.0 ∙ past-through d ms ys h.1 k

below-through : (d : ℕ) (ms ys : List Node) → AreDeeper d ms → BeginsWithin d ys → below d (ms ++ ys) ≡ ms
below-through d [] [] h k = refl
below-through d [] (y ∷ ys) h k = ap (λ b. cond b (y ∷ below d ys) []) k
below-through d (m ∷ ms) ys h k = ap (λ b. cond b (m ∷ below d (ms ++ ys)) []) h.0 ∙ ap (λ l. m ∷ l) (below-through d ms ys h.1 k)

front-begins : (d : ℕ) (ys : List Node) → BeginsWithin d ys → BeginsWithin d (in_instances ys)
front-begins d [] h = tt
front-begins d (y ∷ ys) h = by (is_detached_top y)
  where
    by : (b : Bool) → BeginsWithin d (cond b [] (y ∷ in_instances ys))
    by true = tt
    by false = h

-- the second list is the first with this tree among nodes that are no less deep than it
data Insert (m : Node) (ms : List Node) : List Node → List Node → Type 0 where
  here : {ys : List Node} → BeginsWithin m.depth ys → Insert m ms ys (m ∷ ms ++ ys)
  later : {y : Node} {ys zs : List Node} → nat_lt y.depth m.depth ≡ false → Insert m ms ys zs → Insert m ms (y ∷ ys) (y ∷ zs)

module _ (n : ℕ) (m : Node) (ms : List Node) (is : (m.number == n) ≡ true) (deep : AreDeeper m.depth ms) where
  child-inserted : (place : ℕ) (ys : List Node) → Insert m ms ys (with_child m.depth place (m ∷ ms) ys)
  child-inserted place [] = subst (Insert m ms []) (append-nil (m ∷ ms)) (here tt)
  child-inserted place (y ∷ ys) = by place (nat_lt y.depth m.depth) refl (nat_lt m.depth y.depth) refl (is_attribute y.content) (λ q. child-inserted q ys)
    where
      by : (at : ℕ) (a : Bool) → nat_lt y.depth m.depth ≡ a → (b : Bool) → nat_lt m.depth y.depth ≡ b → (c : Bool) → ((q : ℕ) → Insert m ms ys (with_child m.depth q (m ∷ ms) ys)) →
          Insert m ms (y ∷ ys) (cond a (m ∷ ms ++ y ∷ ys) (cond (b || c) (y ∷ with_child m.depth at (m ∷ ms) ys) (at_place at (m ∷ ms ++ y ∷ ys) (λ left. y ∷ with_child m.depth left (m ∷ ms) ys))))
      by at true e b i c f = here (let r : nat_lt m.depth y.depth ≡ false = grind (arith, nat_tests, e) in r)
      by at false e true i c f = later e (f at)
      by at false e false i true f = later e (f at)
      by zero false e false i false f = here i
      by (suc at) false e false i false f = later e (f at)

  -- an attribute has nothing below it
  nothing-below : (k : ℕ) (ys : List Node) → is_attribute m.content ≡ true → are_depths_from k (m ∷ ms ++ ys) ≡ true → BeginsWithin m.depth ys
  nothing-below k ys at h = by ms ys deep (ap (λ b. are_depths_from (cond (b || is_text m.content) m.depth (suc m.depth)) (ms ++ ys)) (sym at) ∙ (and-true (nat_le m.depth k) (are_depths_from (reach m) (ms ++ ys)) h).1)
    where
      by : (rs vs : List Node) → AreDeeper m.depth rs → are_depths_from m.depth (rs ++ vs) ≡ true → BeginsWithin m.depth vs
      by [] [] i j = tt
      by [] (v ∷ vs) i j = let e : nat_le v.depth m.depth ≡ true = (and-true (nat_le v.depth m.depth) (are_depths_from (reach v) vs) j).0 in grind (arith, nat_tests, e)
      by (r ∷ rs) vs i j =
          let e : nat_le r.depth m.depth ≡ true = (and-true (nat_le r.depth m.depth) (are_depths_from (reach r) (rs ++ vs)) j).0 in
          let l : nat_lt m.depth r.depth ≡ true = i.0 in
          no (let x : false ≡ true = grind (arith, nat_tests, e, l) in x)

  attribute-inserted : (place k : ℕ) (ys : List Node) → is_attribute m.content ≡ true → are_depths_from k (with_attribute m.depth place (m ∷ ms) ys) ≡ true → Insert m ms ys (with_attribute m.depth place (m ∷ ms) ys)
  attribute-inserted place k [] at h = subst (Insert m ms []) (append-nil (m ∷ ms)) (here tt)
  attribute-inserted place k (y ∷ ys) at h = by place (y.depth == m.depth) refl (is_attribute y.content) h (λ q. attribute-inserted q (reach y) ys at)
    where
      by : (here_at : ℕ) (a : Bool) → (y.depth == m.depth) ≡ a → (b : Bool) →
          are_depths_from k (cond (a && b) (at_place here_at (m ∷ ms ++ y ∷ ys) (λ left. y ∷ with_attribute m.depth left (m ∷ ms) ys)) (m ∷ ms ++ y ∷ ys)) ≡ true →
          ((q : ℕ) → are_depths_from (reach y) (with_attribute m.depth q (m ∷ ms) ys) ≡ true → Insert m ms ys (with_attribute m.depth q (m ∷ ms) ys)) →
          Insert m ms (y ∷ ys) (cond (a && b) (at_place here_at (m ∷ ms ++ y ∷ ys) (λ left. y ∷ with_attribute m.depth left (m ∷ ms) ys)) (m ∷ ms ++ y ∷ ys))
      by zero true e true i f = here (let r : nat_lt m.depth y.depth ≡ false = grind (arith, nat_tests, e) in r)
      by (suc q) true e true i f = later (let r : nat_lt y.depth m.depth ≡ false = grind (arith, nat_tests, e) in r) (f q (and-true (nat_le y.depth k) (are_depths_from (reach y) (with_attribute m.depth q (m ∷ ms) ys)) i).1)
      by q true e false i f = here (nothing-below k (y ∷ ys) at i)
      by q false e b i f = here (nothing-below k (y ∷ ys) at i)

  ins-front : {ys zs : List Node} → nat_lt 0 m.depth ≡ true → Insert m ms ys zs → Insert m ms (in_instances ys) (in_instances zs)
  ins-front pos (here {ys = ys} h) =
      subst (Insert m ms (in_instances ys)) (sym (ap (λ b. cond b [] (m ∷ in_instances (ms ++ ys))) (deep-no_top 0 m pos) ∙ ap (λ l. m ∷ l) (front-deep m.depth ms ys deep))) (here (front-begins m.depth ys h))
  ins-front pos (later {y = y} {ys = ys} {zs = zs} e i) =
      let up : nat_lt 0 y.depth ≡ true = grind (arith, nat_tests, e, pos) in
      subst (λ b. Insert m ms (cond b [] (y ∷ in_instances ys)) (cond b [] (y ∷ in_instances zs))) (sym (deep-no_top 0 y up)) (later e (ins-front pos i))

  ins-without : {ys zs : List Node} → Insert m ms ys zs → has_number n ys ≡ false → without_tree n zs ≡ ys
  ins-without (here {ys = ys} h) none = ap (λ b. cond b (past m.depth (ms ++ ys)) (m ∷ without_tree n (ms ++ ys))) is ∙ past-through m.depth ms ys deep h
  ins-without (later {y = y} {ys = ys} {zs = zs} e i) none =
      let parts = or-false (y.number == n) (has_number n ys) none in
      ap (λ b. cond b (past y.depth zs) (y ∷ without_tree n zs)) parts.0 ∙ ap (λ l. y ∷ l) (ins-without i parts.1)

  ins-tree : {ys zs : List Node} → Insert m ms ys zs → has_number n ys ≡ false → tree_of n zs ≡ m ∷ ms
  ins-tree (here {ys = ys} h) none = tree-here n m (ms ++ ys) is ∙ ap (λ l. m ∷ l) (below-through m.depth ms ys deep h)
  ins-tree (later {y = y} {ys = ys} {zs = zs} e i) none =
      let parts = or-false (y.number == n) (has_number n ys) none in
      tree-other n y zs parts.0 ∙ ins-tree i parts.1

  ins-found : {ys zs : List Node} → Insert m ms ys zs → (stack open_ : List Node) → still_above m.depth stack ≡ open_ → has_number n ys ≡ false →
      found n (visits_from stack zs) ≡ Some (record { number = m.number; above = numbers open_; content = m.content })
  ins-found (here {ys = ys} h) stack open_ s none =
      ap (λ b. cond b (Some (visit stack m)) (found n (visits_from (m ∷ still_above m.depth stack) (ms ++ ys)))) is ∙ ap (λ l. Some (record { number = m.number; above = numbers l; content = m.content })) s
  ins-found (later {y = y} {ys = ys} {zs = zs} e i) stack open_ s none =
      let parts = or-false (y.number == n) (has_number n ys) none in
      ap (λ b. cond b (Some (visit stack y)) (found n (visits_from (y ∷ still_above y.depth stack) zs))) parts.0
      ∙ ins-found i (y ∷ still_above y.depth stack) open_ (ap (λ b. cond b (y ∷ still_above y.depth stack) (still_above m.depth (still_above y.depth stack))) e ∙ still-within y.depth m.depth stack e ∙ s) parts.1

-- ---- below a node

deeper-shifted : (d e : ℕ) (xs : List Node) → AreDeeper d xs → AreDeeper e (map (shifted d e) xs)
deeper-shifted d e [] h = tt
deeper-shifted d e (x ∷ xs) h = let k = h.0 in (grind (arith, nat_tests, k), deeper-shifted d e xs h.1)

top-depth : (d e : ℕ) → e + (d - d) ≡ e
top-depth d e = omega arith

shifted-numbers : (k a d : ℕ) (xs : List Node) → has_number k (map (shifted a d) xs) ≡ has_number k xs
shifted-numbers k a d [] = refl
shifted-numbers k a d (x ∷ xs) = ap (λ b. (x.number == k) || b) (shifted-numbers k a d xs)

data Below (p : ℕ) (t : Node) (ts : List Node) : List Node → List Node → Type 0 where
  at : {x : Node} {xs zs : List Node} → (x.number == p) ≡ true → Insert (shifted t.depth (suc x.depth) t) (map (shifted t.depth (suc x.depth)) ts) xs zs → Below p t ts (x ∷ xs) (x ∷ zs)
  on : {x : Node} {xs zs : List Node} → (x.number == p) ≡ false → Below p t ts xs zs → Below p t ts (x ∷ xs) (x ∷ zs)

module _ (n p : ℕ) (t : Node) (ts : List Node) (is : (t.number == n) ≡ true) (deep : AreDeeper t.depth ts) where
  moved-deep : (d : ℕ) → AreDeeper (shifted t.depth d t).depth (map (shifted t.depth d) ts)
  moved-deep d = subst (λ k. AreDeeper k (map (shifted t.depth d) ts)) (sym (top-depth t.depth d)) (deeper-shifted t.depth d ts deep)

  part-inserted : (d place k : ℕ) (xs : List Node) → are_depths_from k (with_part d place (t ∷ ts) xs) ≡ true → Insert (shifted t.depth d t) (map (shifted t.depth d) ts) xs (with_part d place (t ∷ ts) xs)
  part-inserted d place k xs h = by (is_attribute t.content) refl h
    where
      m : Node
      m = shifted t.depth d t

      ms : List Node
      ms = map (shifted t.depth d) ts

      depth-is : m.depth ≡ d
      depth-is = top-depth t.depth d

      by : (b : Bool) → is_attribute t.content ≡ b → are_depths_from k (cond b (with_attribute d place (m ∷ ms) xs) (with_child d place (m ∷ ms) xs)) ≡ true → Insert m ms xs (cond b (with_attribute d place (m ∷ ms) xs) (with_child d place (m ∷ ms) xs))
      by true e i = subst (λ j. Insert m ms xs (with_attribute j place (m ∷ ms) xs)) depth-is (attribute-inserted n m ms is (moved-deep d) place k xs e (ap (λ j. are_depths_from k (with_attribute j place (m ∷ ms) xs)) depth-is ∙ i))
      by false e i = subst (λ j. Insert m ms xs (with_child j place (m ∷ ms) xs)) depth-is (child-inserted n m ms is (moved-deep d) place xs)

  below-made : (place k : ℕ) (xs : List Node) → has_number p xs ≡ true → are_depths_from k (with_below p place (t ∷ ts) xs) ≡ true → Below p t ts xs (with_below p place (t ∷ ts) xs)
  below-made place k [] h i = no h
  below-made place k (x ∷ xs) h i = by (x.number == p) refl h i (below-made place (reach x) xs)
    where
      by : (b : Bool) → (x.number == p) ≡ b → (b || has_number p xs) ≡ true → are_depths_from k (cond b (x ∷ with_part (suc x.depth) place (t ∷ ts) xs) (x ∷ with_below p place (t ∷ ts) xs)) ≡ true →
          (has_number p xs ≡ true → are_depths_from (reach x) (with_below p place (t ∷ ts) xs) ≡ true → Below p t ts xs (with_below p place (t ∷ ts) xs)) →
          Below p t ts (x ∷ xs) (cond b (x ∷ with_part (suc x.depth) place (t ∷ ts) xs) (x ∷ with_below p place (t ∷ ts) xs))
      by true e j l f = at e (part-inserted (suc x.depth) place (reach x) xs (and-true (nat_le x.depth k) (are_depths_from (reach x) (with_part (suc x.depth) place (t ∷ ts) xs)) l).1)
      by false e j l f = on e (f j (and-true (nat_le x.depth k) (are_depths_from (reach x) (with_below p place (t ∷ ts) xs)) l).1)

  below-in_front : {xs zs : List Node} → Below p t ts xs zs → has_number p (in_instances xs) ≡ true → Below p t ts (in_instances xs) (in_instances zs)
  below-in_front (at {x = x} {xs = xs} {zs = zs} q i) h = by (is_detached_top x) h
    where
      front : Insert (shifted t.depth (suc x.depth) t) (map (shifted t.depth (suc x.depth)) ts) (in_instances xs) (in_instances zs)
      front = ins-front n (shifted t.depth (suc x.depth) t) (map (shifted t.depth (suc x.depth)) ts) is (moved-deep (suc x.depth)) (let e : nat_lt 0 (suc x.depth + (t.depth - t.depth)) ≡ true = grind (arith, nat_tests) in e) i

      by : (b : Bool) → has_number p (cond b [] (x ∷ in_instances xs)) ≡ true → Below p t ts (cond b [] (x ∷ in_instances xs)) (cond b [] (x ∷ in_instances zs))
      by true j = no j
      by false j = at q front
  below-in_front (on {x = x} {xs = xs} {zs = zs} q b) h = by (is_detached_top x) (below-in_front b) h
    where
      by : (c : Bool) → (has_number p (in_instances xs) ≡ true → Below p t ts (in_instances xs) (in_instances zs)) → has_number p (cond c [] (x ∷ in_instances xs)) ≡ true → Below p t ts (cond c [] (x ∷ in_instances xs)) (cond c [] (x ∷ in_instances zs))
      by true f j = no j
      by false f j = on q (f (ap (λ c. c || has_number p (in_instances xs)) (sym q) ∙ j))

  below-without : {xs zs : List Node} → Below p t ts xs zs → has_number n xs ≡ false → without_tree n zs ≡ xs
  below-without (at {x = x} {xs = xs} {zs = zs} q i) h =
      let parts = or-false (x.number == n) (has_number n xs) h in
      ap (λ b. cond b (past x.depth zs) (x ∷ without_tree n zs)) parts.0
      ∙ ap (λ l. x ∷ l) (ins-without n (shifted t.depth (suc x.depth) t) (map (shifted t.depth (suc x.depth)) ts) is (moved-deep (suc x.depth)) i parts.1)
  below-without (on {x = x} {xs = xs} {zs = zs} q b) h =
      let parts = or-false (x.number == n) (has_number n xs) h in
      ap (λ c. cond c (past x.depth zs) (x ∷ without_tree n zs)) parts.0 ∙ ap (λ l. x ∷ l) (below-without b parts.1)

  below-tree : {xs zs : List Node} → Below p t ts xs zs → has_number n xs ≡ false → (k : ℕ) → has_number k (tree_of n zs) ≡ has_number k (t ∷ ts)
  below-tree (at {x = x} {xs = xs} {zs = zs} q i) h k =
      let parts = or-false (x.number == n) (has_number n xs) h in
      ap (has_number k) (tree-other n x zs parts.0 ∙ ins-tree n (shifted t.depth (suc x.depth) t) (map (shifted t.depth (suc x.depth)) ts) is (moved-deep (suc x.depth)) i parts.1)
      ∙ shifted-numbers k t.depth (suc x.depth) (t ∷ ts)
  below-tree (on {x = x} {xs = xs} {zs = zs} q b) h k =
      let parts = or-false (x.number == n) (has_number n xs) h in
      ap (has_number k) (tree-other n x zs parts.0) ∙ below-tree b parts.1 k

  below-found : {xs zs : List Node} → Below p t ts xs zs → (above : List Node) → has_number n xs ≡ false → (v : Visit) × (found n (visits_from above zs) ≡ Some v) × (is_first p v.above ≡ true) × (is_text v.content ≡ is_text t.content)
  below-found (at {x = x} {xs = xs} {zs = zs} q i) above h =
      let parts = or-false (x.number == n) (has_number n xs) h in
      let stack = x ∷ still_above x.depth above in
      let m = shifted t.depth (suc x.depth) t in
      let less : nat_lt x.depth (suc x.depth + (t.depth - t.depth)) ≡ true = grind (arith, nat_tests) in (
        record { number = t.number; above = numbers stack; content = t.content },
        ap (λ b. cond b (Some (visit above x)) (found n (visits_from stack zs))) parts.0
            ∙ ins-found n m (map (shifted t.depth (suc x.depth)) ts) is (moved-deep (suc x.depth)) i stack stack (ap (λ b. cond b stack (still_above m.depth (still_above x.depth above))) less) parts.1,
        (let e : (p == x.number) ≡ true = grind (arith, nat_tests, q) in e),
        refl,
      )
  below-found (on {x = x} {xs = xs} {zs = zs} q b) above h =
      let parts = or-false (x.number == n) (has_number n xs) h in
      let r = below-found b (x ∷ still_above x.depth above) parts.1 in
      (r.0, ap (λ c. cond c (Some (visit above x)) (found n (visits_from (x ∷ still_above x.depth above) zs))) parts.0 ∙ r.1, r.2, r.3)

-- ---- a forest

tree-at : (n : ℕ) (nodes : List Node) (t : Node) → node_at n nodes ≡ Some t → (ts : List Node) × (tree_of n nodes ≡ t ∷ ts) × AreDeeper t.depth ts × ((t.number == n) ≡ true)
tree-at n [] t e = none-some e
tree-at n (x ∷ xs) t e = by (x.number == n) refl e (tree-at n xs t)
  where
    by : (b : Bool) → (x.number == n) ≡ b → cond b (Some x) (node_at n xs) ≡ Some t → (node_at n xs ≡ Some t → (ts : List Node) × (tree_of n xs ≡ t ∷ ts) × AreDeeper t.depth ts × ((t.number == n) ≡ true)) →
        (ts : List Node) × (tree_of n (x ∷ xs) ≡ t ∷ ts) × AreDeeper t.depth ts × ((t.number == n) ≡ true)
    by true q i f = (below x.depth xs, tree-here n x xs q ∙ ap (λ y. y ∷ below x.depth xs) (some-same i), subst (λ d. AreDeeper d (below x.depth xs)) (ap (λ (y : Node). y.depth) (some-same i)) (deeper x.depth xs), ap (λ (y : Node). y.number == n) (sym (some-same i)) ∙ q)
    by false q i f = let r = f i in (r.0, tree-other n x xs q ∙ r.1, r.2, r.3)

-- no root is behind: what is past a detached tree begins another
none-front : (xs : List Node) → list_all (λ y. not (is_root y.content)) xs ≡ true → in_instances (past 0 xs) ≡ []
none-front [] h = refl
none-front (x ∷ xs) h = by (nat_lt 0 x.depth) refl (none-front xs parts.1)
  where
    parts : (not (is_root x.content) ≡ true) × (list_all (λ y. not (is_root y.content)) xs ≡ true)
    parts = and-true (not (is_root x.content)) (list_all (λ y. not (is_root y.content)) xs) h

    by : (b : Bool) → nat_lt 0 x.depth ≡ b → in_instances (past 0 xs) ≡ [] → in_instances (cond b (past 0 xs) (x ∷ xs)) ≡ []
    by true e f = f
    by false e f = let z : (x.depth == 0) ≡ true = grind (arith, nat_tests, e) in ap (λ b. cond b [] (x ∷ in_instances xs)) (ap (λ b. b && not (is_root x.content)) z ∙ parts.0)

pub front-gone : (n : ℕ) (nodes : List Node) → has_number n (in_instances nodes) ≡ false → list_all (λ y. not (is_root y.content)) (in_detached nodes) ≡ true → in_instances (without_tree n nodes) ≡ in_instances nodes
front-gone n [] h i = refl
front-gone n (x ∷ xs) h i = by (is_detached_top x) refl (x.number == n) refl h i (front-gone n xs)
  where
    by : (b : Bool) → is_detached_top x ≡ b → (c : Bool) → (x.number == n) ≡ c → has_number n (cond b [] (x ∷ in_instances xs)) ≡ false → list_all (λ y. not (is_root y.content)) (cond b (x ∷ xs) (in_detached xs)) ≡ true →
        (has_number n (in_instances xs) ≡ false → list_all (λ y. not (is_root y.content)) (in_detached xs) ≡ true → in_instances (without_tree n xs) ≡ in_instances xs) →
        in_instances (cond c (past x.depth xs) (x ∷ without_tree n xs)) ≡ cond b [] (x ∷ in_instances xs)
    by true t true e j l f =
        let z : x.depth ≡ 0 = eqb-true x.depth 0 (and-true (x.depth == 0) (not (is_root x.content)) t).0 in
        ap (λ d. in_instances (past d xs)) z ∙ none-front xs (and-true (not (is_root x.content)) (list_all (λ y. not (is_root y.content)) xs) l).1
    by true t false e j l f = ap (λ b. cond b [] (x ∷ in_instances (without_tree n xs))) t
    by false t true e j l f = no (sym j ∙ ap (λ b. b || has_number n (in_instances xs)) e)
    by false t false e j l f = ap (λ b. cond b [] (x ∷ in_instances (without_tree n xs))) t ∙ ap (λ l. x ∷ l) (f (or-false (x.number == n) (has_number n (in_instances xs)) j).1 l)

pub tree_attached : TreeAttached
tree_attached texts lists more n p place x forest before marks trees trees_after at_n solid outside parent ahead apart new same =
    tree_planted texts lists more n p (instances_of (placed n p place forest)) before marks (front-trees (placed n p place forest) trees_after) in_it apart
    (λ k h. new k (ap (has_number k) tree.1 ∙ sym (below-tree n p x tree.0 tree.3 tree.2 made outside k) ∙ h))
    (subst (λ l. SameNodes texts lists (visits l) before) (sym (below-without n p x tree.0 tree.3 tree.2 made outside)) same)
  where
    tree : (ts : List Node) × (tree_of n forest.nodes ≡ x ∷ ts) × AreDeeper x.depth ts × ((x.number == n) ≡ true)
    tree = tree-at n forest.nodes x at_n

    rest : List Node
    rest = without_tree n forest.nodes

    after : List Node
    after = with_below p place (tree_of n forest.nodes) rest

    gone : in_instances rest ≡ in_instances forest.nodes
    gone = front-gone n forest.nodes outside ahead

    in_front : has_number p (in_instances rest) ≡ true
    in_front = ap (has_number p) gone ∙ parent

    in_rest : has_number p rest ≡ true
    in_rest = by (has_number p rest) refl
      where
        by : (b : Bool) → has_number p rest ≡ b → b ≡ true
        by true e = refl
        by false e = sym (front-number p rest e) ∙ in_front

    whole : Below p x tree.0 rest after
    whole =
        subst (λ l. Below p x tree.0 rest (with_below p place l rest)) (sym tree.1)
        (below-made n p x tree.0 tree.3 tree.2 place 0 rest in_rest (ap (λ l. are_depths_from 0 (with_below p place l rest)) (sym tree.1) ∙ trees_after.depths))

    made : Below p x tree.0 (in_instances forest.nodes) (in_instances after)
    made = subst (λ l. Below p x tree.0 l (in_instances after)) gone (below-in_front n p x tree.0 tree.3 tree.2 whole in_front)

    in_it : StandsIn n p (in_instances after)
    in_it = let v = below-found n p x tree.0 tree.3 tree.2 made [] outside in (v.0, v.1, v.2, v.3 ∙ solid)

-- A text that is set at an attribute, or at an element without element children, leaves a list of trees.
use Rattle.std.proofs.Common.{◌≡◌, ℕ, suc, ◌+◌, ◌<◌, ◌==◌, Bool, true, false, not, cond, ◌&&◌, ◌||◌, List, [], ◌∷◌, ◌++◌, map, filter, nat_lt, refl, sym, ap, ◌∙◌, subst, inl, inr, arith}
use Rattle.std.specs.Prelude.{◌≤◌, ◌⊎◌}
use Rattle.std.specs.List.{list_all}
use Rattle.std.proofs.lemmas.Bool.Decides.{nat_tests}
use Rattle.xf_def_forest.specs.declared.content.Content.{Content}
use Rattle.xf_def_forest.specs.declared.content.Content.TheVariants.{Root, Element, Attribute, Text}
use Rattle.xf_def_forest.specs.declared.content.Node.{Node}
use Rattle.xf_def_forest.specs.Forest.{below, is_attribute, is_element, is_root, is_text, past}
use Rattle.xf_def_forest.specs.Texts.{at_depth, one_text, text_node, valued, with_content, with_texts, with_value}
use Rattle.xf_def_forest.specs.WellFormed.{are_below, are_tops, reach}
use Rattle.xf_def_forest.proofs.RunLemmas.{AreTexts, IsLeafAt, IsRun, text-no_attribute}
use Rattle.xf_law_invariants.proofs.TreeLemmas.Links.{and-true, both-true, Stands, plain, top, under, beside, Next, Linked, Well}
use Rattle.xf_law_invariants.proofs.TreeLemmas.Counted.{times, times-append, all-append}

-- ---- the text of an attribute

module _ (n : ℕ) (text : List ℕ) where
  -- what does not change
  record Kept (x : Node) : Type 0 where
    depth : (valued n text x).depth ≡ x.depth
    number : (valued n text x).number ≡ x.number
    attribute : is_attribute (valued n text x).content ≡ is_attribute x.content
    element : is_element (valued n text x).content ≡ is_element x.content
    texts : is_text (valued n text x).content ≡ is_text x.content
    root : is_root (valued n text x).content ≡ is_root x.content

  value-attribute : (c : Content) → is_attribute (with_value text c) ≡ is_attribute c
  value-attribute Root = refl
  value-attribute (Element name) = refl
  value-attribute (Attribute name old) = refl
  value-attribute (Text old) = refl

  value-element : (c : Content) → is_element (with_value text c) ≡ is_element c
  value-element Root = refl
  value-element (Element name) = refl
  value-element (Attribute name old) = refl
  value-element (Text old) = refl

  value-text : (c : Content) → is_text (with_value text c) ≡ is_text c
  value-text Root = refl
  value-text (Element name) = refl
  value-text (Attribute name old) = refl
  value-text (Text old) = refl

  value-root : (c : Content) → is_root (with_value text c) ≡ is_root c
  value-root Root = refl
  value-root (Element name) = refl
  value-root (Attribute name old) = refl
  value-root (Text old) = refl

  kept : (x : Node) → Kept x
  kept x = by (x.number == n) refl
    where
      changed : valued n text x ≡ record x { content = with_value text x.content } → Kept x
      changed e = record {
        depth = ap (λ (y : Node). y.depth) e;
        number = ap (λ (y : Node). y.number) e;
        attribute = ap (λ (y : Node). is_attribute y.content) e ∙ value-attribute x.content;
        element = ap (λ (y : Node). is_element y.content) e ∙ value-element x.content;
        texts = ap (λ (y : Node). is_text y.content) e ∙ value-text x.content;
        root = ap (λ (y : Node). is_root y.content) e ∙ value-root x.content;
      }

      stays : valued n text x ≡ x → Kept x
      stays e = record {
        depth = ap (λ (y : Node). y.depth) e;
        number = ap (λ (y : Node). y.number) e;
        attribute = ap (λ (y : Node). is_attribute y.content) e;
        element = ap (λ (y : Node). is_element y.content) e;
        texts = ap (λ (y : Node). is_text y.content) e;
        root = ap (λ (y : Node). is_root y.content) e;
      }

      by : (b : Bool) → (x.number == n) ≡ b → Kept x
      by true e = changed (ap (λ c. cond c (record x { content = with_value text x.content }) x) e)
      by false e = stays (ap (λ c. cond c (record x { content = with_value text x.content }) x) e)

  valued-reach : (x : Node) → reach (valued n text x) ≡ reach x
  valued-reach x =
      let k = kept x in
      ap (λ b. cond (b || is_text (valued n text x).content) (valued n text x).depth (suc (valued n text x).depth)) k.attribute
      ∙ ap (λ b. cond (is_attribute x.content || b) (valued n text x).depth (suc (valued n text x).depth)) k.texts
      ∙ ap (λ d. cond (is_attribute x.content || is_text x.content) d (suc d)) k.depth

  valued-stands : (x y : Node) → Stands x y → Stands (valued n text x) (valued n text y)
  valued-stands x y (plain a) = plain ((kept y).attribute ∙ a)
  valued-stands x y (top a) = top ((kept y).depth ∙ a)
  valued-stands x y (under a d) = under ((kept x).element ∙ a) ((kept y).depth ∙ d ∙ ap suc (sym (kept x).depth))
  valued-stands x y (beside a d) = beside ((kept x).attribute ∙ a) ((kept y).depth ∙ d ∙ sym (kept x).depth)

  valued-linked : (x : Node) (xs : List Node) → Linked x xs → Linked (valued n text x) (map (valued n text) xs)
  valued-linked x [] l = tt
  valued-linked x (y ∷ ys) l =
      let deep : y.depth ≤ reach x = l.0.deep in
      let one = (kept y).depth in
      let two = valued-reach x in
      (record { deep = omega (arith, deep, one, two); stands = valued-stands x y l.0.stands }, valued-linked y ys l.1)

  pub valued-well : (xs : List Node) → Well xs → Well (map (valued n text) xs)
  valued-well [] w = tt
  valued-well (x ∷ xs) w = ((kept x).depth ∙ w.0, valued-linked x xs w.1)

  pub times-valued : (k : ℕ) (xs : List Node) → times k (map (valued n text) xs) ≡ times k xs
  times-valued k [] = refl
  times-valued k (x ∷ xs) = ap (λ m. cond (m == k) 1 0 + times k (map (valued n text) xs)) (kept x).number ∙ ap (λ m. cond (x.number == k) 1 0 + m) (times-valued k xs)

  pub below-valued : (next : ℕ) (xs : List Node) → are_below next (map (valued n text) xs) ≡ are_below next xs
  below-valued next [] = refl
  below-valued next (x ∷ xs) = ap (λ m. nat_lt m next && are_below next (map (valued n text) xs)) (kept x).number ∙ ap (λ b. nat_lt x.number next && b) (below-valued next xs)

  pub tops-valued : (xs : List Node) → are_tops (map (valued n text) xs) ≡ are_tops xs
  tops-valued [] = refl
  tops-valued (x ∷ xs) =
      ap (λ b. (not b || ((valued n text x).depth == 0)) && are_tops (map (valued n text) xs)) (kept x).root
      ∙ ap (λ d. (not (is_root x.content) || (d == 0)) && are_tops (map (valued n text) xs)) (kept x).depth
      ∙ ap (λ b. (not (is_root x.content) || (x.depth == 0)) && b) (tops-valued xs)

-- ---- the texts of an element

abbrev InTree : Node → Node → Type 0
InTree x z = (x.depth < z.depth) ⊎ (z ≡ x)

-- what may stand behind every node of a tree whose top has this depth
abbrev Free : ℕ → List Node → Type 0
Free d [] = Unit {0}
Free d (y ∷ ys) = (y.depth ≤ d) × ((is_attribute y.content ≡ false) ⊎ (y.depth ≡ 0)) × Linked y ys

free-linked : (d : ℕ) (w : Node) (ys : List Node) → d ≤ reach w → Free d ys → Linked w ys
free-linked d w [] h f = tt
free-linked d w (y ∷ ys) h f = let low : y.depth ≤ d = f.0 in (record { deep = omega (arith, low, h); stands = by f.1 }, f.2)
  where
    by : (is_attribute y.content ≡ false) ⊎ (y.depth ≡ 0) → Stands w y
    by (inl a) = plain a
    by (inr a) = top a

past-free : (x z : Node) (xs : List Node) → is_attribute x.content ≡ false → InTree x z → Linked z xs → Free x.depth (past x.depth xs)
past-free x z [] a i l = tt
past-free x z (y ∷ ys) a i l = by (nat_lt x.depth y.depth) refl (λ less. past-free x y ys a (inl less) l.1)
  where
    more : nat_lt x.depth y.depth ≡ true → x.depth < y.depth
    more e = grind (arith, nat_tests, e)

    no-more : nat_lt x.depth y.depth ≡ false → y.depth ≤ x.depth
    no-more e = grind (arith, nat_tests, e)

    free : InTree x z → y.depth ≤ x.depth → Stands z y → (is_attribute y.content ≡ false) ⊎ (y.depth ≡ 0)
    free j low (plain b) = inl b
    free j low (top b) = inr b
    free (inl less) low (under b d) = let no : ⊥ = omega (arith, less, low, d) in absurd no
    free (inr same) low (under b d) = let k : z.depth ≡ x.depth = ap (λ (w : Node). w.depth) same in let no : ⊥ = omega (arith, k, low, d) in absurd no
    free (inl less) low (beside b d) = let no : ⊥ = omega (arith, less, low, d) in absurd no
    free (inr same) low (beside b d) = let k : is_attribute x.content ≡ true = subst (λ (w : Node). is_attribute w.content ≡ true) same b in let no : true ≡ false = sym k ∙ a in cc no

    by : (b : Bool) → nat_lt x.depth y.depth ≡ b → (x.depth < y.depth → Free x.depth (past x.depth ys)) → Free x.depth (cond b (past x.depth ys) (y ∷ ys))
    by true e rest = rest (more e)
    by false e rest = (no-more e, free i (no-more e) l.0.stands, l.1)

element-plain : (c : Content) → is_element c ≡ true → (is_attribute c ≡ false) × (is_text c ≡ false)
element-plain Root e = cc e
element-plain (Element name) e = (refl, refl)
element-plain (Attribute name text) e = cc e
element-plain (Text text) e = cc e

-- the element, or one of its attributes
abbrev Over : ℕ → Node → Type 0
Over d p = ((p.depth ≡ d) × (is_element p.content ≡ true)) ⊎ ((p.depth ≡ suc d) × (is_attribute p.content ≡ true))

over-reach : (d : ℕ) (p : Node) → Over d p → reach p ≡ suc d
over-reach d p (inl q) =
    let k = element-plain p.content q.1 in
    ap (λ b. cond (b || is_text p.content) p.depth (suc p.depth)) k.0 ∙ ap (λ b. cond b p.depth (suc p.depth)) k.1 ∙ ap suc q.0
over-reach d p (inr q) = ap (λ b. cond (b || is_text p.content) p.depth (suc p.depth)) q.1 ∙ q.0

abbrev attributes_in : List Node → List Node
attributes_in xs = filter (λ (y : Node). is_attribute y.content) xs

no-attributes : (d : ℕ) (ys : List Node) → AreTexts d ys → attributes_in ys ≡ []
no-attributes d [] h = refl
no-attributes d (y ∷ ys) h = ap (λ b. cond b (y ∷ attributes_in ys) (attributes_in ys)) (text-no_attribute y.content h.0) ∙ no-attributes d ys h.2

text-linked : (d number : ℕ) (text : List ℕ) (p : Node) (rest : List Node) → Over d p → Free d rest → Linked p (map (at_depth (suc d)) (one_text number text) ++ rest)
text-linked d number [] p rest q f = free-linked d p rest (let r = over-reach d p q in omega (arith, r)) f
text-linked d number (c ∷ cs) p rest q f =
    let r = over-reach d p q in
    let t = at_depth (suc d) (text_node number (c ∷ cs)) in
    (record { deep = let e : suc d ≤ reach p = omega (arith, r) in e; stands = plain refl }, free-linked d t rest (omega arith) f)

run-linked : (d number : ℕ) (text : List ℕ) (p : Node) (us rest : List Node) → Over d p → IsRun d us → Free d rest → Linked p (attributes_in us ++ map (at_depth (suc d)) (one_text number text) ++ rest)
run-linked d number text p [] rest q h f = text-linked d number text p rest q f
run-linked d number text p (u ∷ us) rest q h f = by h (λ k. run-linked d number text u us rest (inr (k.1, k.0)) k.2 f)
  where
    next : is_attribute u.content ≡ true → u.depth ≡ suc d → Next p u
    next a e = record { deep = let r = over-reach d p q in omega (arith, r, e); stands = place q }
      where
        place : Over d p → Stands p u
        place (inl w) = under w.1 (e ∙ ap suc (sym w.0))
        place (inr w) = beside w.1 (e ∙ sym w.0)

    kept : (b : Bool) → is_attribute u.content ≡ b → (l : List Node) → Linked p (cond b (u ∷ l) l) → Linked p (cond (is_attribute u.content) (u ∷ l) l)
    kept b e l k = subst (λ c. Linked p (cond c (u ∷ l) l)) (sym e) k

    by : ((is_attribute u.content ≡ true) × (u.depth ≡ suc d) × IsRun d us) ⊎ ((is_text u.content ≡ true) × (u.depth ≡ suc d) × AreTexts d us)
        → ((is_attribute u.content ≡ true) × (u.depth ≡ suc d) × IsRun d us → Linked u (attributes_in us ++ map (at_depth (suc d)) (one_text number text) ++ rest))
        → Linked p (cond (is_attribute u.content) (u ∷ attributes_in us) (attributes_in us) ++ map (at_depth (suc d)) (one_text number text) ++ rest)
    by (inl k) more = subst (λ c. Linked p (cond c (u ∷ attributes_in us) (attributes_in us) ++ map (at_depth (suc d)) (one_text number text) ++ rest)) (sym k.0) (next k.0 k.1, more k)
    by (inr k) more =
        subst (λ c. Linked p (cond c (u ∷ attributes_in us) (attributes_in us) ++ map (at_depth (suc d)) (one_text number text) ++ rest)) (sym (text-no_attribute u.content k.0))
        (subst (λ l. Linked p (l ++ map (at_depth (suc d)) (one_text number text) ++ rest)) (sym (no-attributes d us k.2)) (text-linked d number text p rest q f))

content-linked : (number : ℕ) (text : List ℕ) (x : Node) (xs : List Node) → is_element x.content ≡ true → IsRun x.depth (below x.depth xs) → Linked x xs
    → Linked x (with_content x.depth (one_text number text) xs)
content-linked number text x xs e r l =
    run-linked x.depth number text x (below x.depth xs) (past x.depth xs) (inl (refl, e)) r (past-free x x xs (element-plain x.content e).0 (inr refl) l)

module _ (number n : ℕ) (text : List ℕ) where
  abbrev changed : List Node → List Node
  changed xs = with_texts n (one_text number text) xs

  texts-linked : (p : Node) (xs : List Node) → IsLeafAt n xs → Linked p xs → Linked p (changed xs)
  texts-linked p [] h l = tt
  texts-linked p (x ∷ xs) h l = by (x.number == n) h (λ k. texts-linked x xs k l.1)
    where
      by : (b : Bool) → cond b ((is_element x.content ≡ true) × IsRun x.depth (below x.depth xs)) (IsLeafAt n xs) → (IsLeafAt n xs → Linked x (changed xs))
          → Linked p (cond b (x ∷ with_content x.depth (one_text number text) xs) (x ∷ changed xs))
      by true k rest = (l.0, content-linked number text x xs k.0 k.1 l.1)
      by false k rest = (l.0, rest k)

  pub texts-well : (xs : List Node) → IsLeafAt n xs → Well xs → Well (changed xs)
  texts-well [] h w = tt
  texts-well (x ∷ xs) h w = by (x.number == n) h (λ k. texts-linked x xs k w.1)
    where
      by : (b : Bool) → cond b ((is_element x.content ≡ true) × IsRun x.depth (below x.depth xs)) (IsLeafAt n xs) → (IsLeafAt n xs → Linked x (changed xs))
          → Well (cond b (x ∷ with_content x.depth (one_text number text) xs) (x ∷ changed xs))
      by true k rest = (w.0, content-linked number text x xs k.0 k.1 w.1)
      by false k rest = (w.0, rest k)

-- ---- numbers and tests

times-filter : (k : ℕ) (xs : List Node) → times k (attributes_in xs) ≤ times k xs
times-filter k [] = omega arith
times-filter k (x ∷ xs) = by (is_attribute x.content) (times-filter k xs)
  where
    by : (b : Bool) → times k (attributes_in xs) ≤ times k xs → times k (cond b (x ∷ attributes_in xs) (attributes_in xs)) ≤ cond (x.number == k) 1 0 + times k xs
    by true h = omega (arith, h)
    by false h = omega (arith, h)

times-depth : (k d : ℕ) (xs : List Node) → times k (map (at_depth d) xs) ≡ times k xs
times-depth k d [] = refl
times-depth k d (x ∷ xs) = ap (λ m. cond (x.number == k) 1 0 + m) (times-depth k d xs)

times-past : (k d : ℕ) (xs : List Node) → times k (below d xs) + times k (past d xs) ≡ times k xs
times-past k d [] = omega arith
times-past k d (y ∷ ys) = by (nat_lt d y.depth) (times-past k d ys)
  where
    by : (b : Bool) → times k (below d ys) + times k (past d ys) ≡ times k ys → times k (cond b (y ∷ below d ys) []) + times k (cond b (past d ys) (y ∷ ys)) ≡ cond (y.number == k) 1 0 + times k ys
    by true h = omega (arith, h)
    by false h = omega arith

times-content : (k d : ℕ) (texts xs : List Node) → times k (with_content d texts xs) ≤ times k xs + times k texts
times-content k d texts xs =
    let one = times-append k (attributes_in (below d xs) ++ map (at_depth (suc d)) texts) (past d xs) in
    let two = times-append k (attributes_in (below d xs)) (map (at_depth (suc d)) texts) in
    let three = times-depth k (suc d) texts in
    let four = times-filter k (below d xs) in
    let five = times-past k d xs in omega (arith, one, two, three, four, five)

pub times-texts : (k n : ℕ) (texts xs : List Node) → times k (with_texts n texts xs) ≤ times k xs + times k texts
times-texts k n texts [] = omega arith
times-texts k n texts (x ∷ xs) = by (x.number == n) (times-texts k n texts xs)
  where
    by : (b : Bool) → times k (with_texts n texts xs) ≤ times k xs + times k texts
        → times k (cond b (x ∷ with_content x.depth texts xs) (x ∷ with_texts n texts xs)) ≤ cond (x.number == k) 1 0 + times k xs + times k texts
    by true h = let c = times-content k x.depth texts xs in omega (arith, c)
    by false h = omega (arith, h)

pub times-one : (k number : ℕ) (text : List ℕ) → times k (one_text number text) ≤ 1
times-one k number [] = omega arith
times-one k number (c ∷ cs) = by (number == k)
  where
    by : (b : Bool) → cond b 1 0 + 0 ≤ 1
    by true = omega arith
    by false = omega arith

pub times-other : (k number : ℕ) (text : List ℕ) → (number == k) ≡ false → times k (one_text number text) ≡ 0
times-other k number [] e = refl
times-other k number (c ∷ cs) e = ap (λ b. cond b 1 0 + 0) e

module _ (test : Node → Bool) where
  all-filter : (xs : List Node) → list_all test xs ≡ true → list_all test (attributes_in xs) ≡ true
  all-filter [] h = refl
  all-filter (x ∷ xs) h = by (is_attribute x.content) (all-filter xs parts.1)
    where
      parts : (test x ≡ true) × (list_all test xs ≡ true)
      parts = and-true (test x) (list_all test xs) h

      by : (b : Bool) → list_all test (attributes_in xs) ≡ true → list_all test (cond b (x ∷ attributes_in xs) (attributes_in xs)) ≡ true
      by true q = both-true (test x) (list_all test (attributes_in xs)) parts.0 q
      by false q = q

  all-run : (d : ℕ) (xs : List Node) → list_all test xs ≡ true → (list_all test (below d xs) ≡ true) × (list_all test (past d xs) ≡ true)
  all-run d [] h = (refl, refl)
  all-run d (y ∷ ys) h = by (nat_lt d y.depth) (all-run d ys parts.1)
    where
      parts : (test y ≡ true) × (list_all test ys ≡ true)
      parts = and-true (test y) (list_all test ys) h

      by : (b : Bool) → (list_all test (below d ys) ≡ true) × (list_all test (past d ys) ≡ true)
          → (list_all test (cond b (y ∷ below d ys) []) ≡ true) × (list_all test (cond b (past d ys) (y ∷ ys)) ≡ true)
      by true q = (both-true (test y) (list_all test (below d ys)) parts.0 q.0, q.1)
      by false q = (refl, h)

  all-content : (d : ℕ) (texts xs : List Node) → list_all test (map (at_depth (suc d)) texts) ≡ true → list_all test xs ≡ true → list_all test (with_content d texts xs) ≡ true
  all-content d texts xs t h =
      let parts = all-run d xs h in
      all-append test (attributes_in (below d xs) ++ map (at_depth (suc d)) texts) (past d xs)
      (all-append test (attributes_in (below d xs)) (map (at_depth (suc d)) texts) (all-filter (below d xs) parts.0) t) parts.1

  pub all-texts : (n : ℕ) (texts xs : List Node) → ((d : ℕ) → list_all test (map (at_depth (suc d)) texts) ≡ true) → list_all test xs ≡ true → list_all test (with_texts n texts xs) ≡ true
  all-texts n texts [] t h = refl
  all-texts n texts (x ∷ xs) t h = by (x.number == n) (all-texts n texts xs t parts.1)
    where
      parts : (test x ≡ true) × (list_all test xs ≡ true)
      parts = and-true (test x) (list_all test xs) h

      by : (b : Bool) → list_all test (with_texts n texts xs) ≡ true → list_all test (cond b (x ∷ with_content x.depth texts xs) (x ∷ with_texts n texts xs)) ≡ true
      by true q = both-true (test x) (list_all test (with_content x.depth texts xs)) parts.0 (all-content x.depth texts xs (t x.depth) parts.1)
      by false q = both-true (test x) (list_all test (with_texts n texts xs)) parts.0 q

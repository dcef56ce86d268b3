-- A text that is set to what stood there gives texts other numbers, and no more.
use Rattle.std.proofs.Common.{◌≡◌, ℕ, suc, ◌==◌, Bool, true, false, not, cond, ◌&&◌, ◌||◌, List, [], ◌∷◌, ◌++◌, map, nat_lt, Some, None, refl, sym, ap, ◌∙◌, subst, append-nil, inl, inr}
use Rattle.std.specs.Prelude.{◌⊎◌, filter}
use Rattle.std.specs.Str.{bytes_eq}
use Rattle.std.proofs.lemmas.Bool.{cases_Bool, eqb-true}
use Rattle.std.proofs.lemmas.List.{map-append}
use Rattle.xf_def_forest.specs.declared.content.Node.{Node}
use Rattle.xf_def_forest.specs.declared.content.Content.{Content}
use Rattle.xf_def_forest.specs.declared.content.Content.TheVariants.{Root, Element, Attribute, Text}
use Rattle.xf_def_forest.specs.Forest.{is_element, is_attribute, is_text, own_text, has_number, node_at, below, past, tree_of}
use Rattle.xf_def_forest.specs.Changes.{in_instances}
use Rattle.xf_def_forest.specs.Same.{IsRenumbering, renumbered, renumbered_visit}
use Rattle.xf_def_forest.specs.Settle.{with_numbered_text, are_texts}
use Rattle.xf_def_forest.specs.Shape.{as_texts}
use Rattle.xf_def_forest.specs.Texts.{one_text, at_depth, with_texts, with_attribute_text, with_value, is_attribute_at, value_in}
use Rattle.xf_def_forest.specs.Visit.{has, visits}
use Rattle.xf_def_forest.specs.WellFormed.{are_apart}
use Rattle.xf_def_forest.proofs.BackLaws.{and-true, or-false, HasText}
use Rattle.xf_def_forest.proofs.MoveLemmas.{gone-after}
use Rattle.xf_def_forest.proofs.RenumberChanges.{in_instances-renumbered}
use Rattle.xf_def_forest.proofs.RenumberLaws.{visits-renumbered}
use Rattle.xf_def_forest.proofs.RunLemmas.{AreTexts, IsRun, IsLeafAt, text-no_attribute, below-then-past, tree-here, tree-other}
use Rattle.xf_def_forest.proofs.TextLaws.{has_text as text-there}
use Rattle.xf_def_xpath.proofs.VisitFacts.{no, or-left, self-same}
use Rattle.xf_law_recalculation.specs.Marks.Marks.{SameNodes}
use Rattle.xf_law_recalculation.specs.Edit.InstanceEdits.{AreTextNumbers, KeepsBeside, TextAgain}
use Rattle.xf_law_recalculation.proofs.EditLemmas.CutLaws.{or-right, absent-past, below-part, tree-part, parts-apart}
use Rattle.xf_law_recalculation.proofs.EditLemmas.RenumberedNodes.{same_renumbered}

pub bytes-same : (us vs : List ℕ) → bytes_eq us vs ≡ true → us ≡ vs
bytes-same [] [] h = refl
bytes-same [] (v ∷ vs) h = no h
bytes-same (u ∷ us) [] h = no h
bytes-same (u ∷ us) (v ∷ vs) h =
    let parts = and-true (u == v) (bytes_eq us vs) h in
    ap (λ k. k ∷ us) (eqb-true u v parts.0) ∙ ap (λ l. v ∷ l) (bytes-same us vs parts.1)

-- ---- two numbers exchanged

abbrev exchange : ℕ → ℕ → ℕ → ℕ
exchange a b k = cond (k == a) b (cond (k == b) a k)

module _ (a b : ℕ) where
  abbrev s : ℕ → ℕ
  s = exchange a b

  first-goes : s a ≡ b
  first-goes = ap (λ c. cond c b (cond (a == b) a a)) (self-same a)

  second-goes : s b ≡ a
  second-goes = by (b == a) refl
    where
      by : (c : Bool) → (b == a) ≡ c → cond c b (cond (b == b) a b) ≡ a
      by true e = eqb-true b a e
      by false e = ap (λ c. cond c a b) (self-same b)

  other-stays : (k : ℕ) → (k == a) ≡ false → (k == b) ≡ false → s k ≡ k
  other-stays k e i = ap (λ c. cond c b (cond (k == b) a k)) e ∙ ap (λ c. cond c a k) i

  twice : (k : ℕ) → s (s k) ≡ k
  twice k = by (k == a) refl (k == b) refl
    where
      by : (c : Bool) → (k == a) ≡ c → (d : Bool) → (k == b) ≡ d → s (s k) ≡ k
      by true e d i = ap (λ m. s (s m)) (eqb-true k a e) ∙ ap s first-goes ∙ second-goes ∙ sym (eqb-true k a e)
      by false e true i = ap (λ m. s (s m)) (eqb-true k b i) ∙ ap s second-goes ∙ first-goes ∙ sym (eqb-true k b i)
      by false e false i = ap s (other-stays k e i) ∙ other-stays k e i

  exchanged : IsRenumbering s
  exchanged k m = by (s k == s m) refl (k == m) refl
    where
      by : (c : Bool) → (s k == s m) ≡ c → (d : Bool) → (k == m) ≡ d → c ≡ d
      by true e true i = refl
      by false e false i = refl
      by true e false i = sym (self-same m) ∙ ap (λ j. j == m) (sym (twice m) ∙ ap s (sym (eqb-true (s k) (s m) e)) ∙ twice k) ∙ i
      by false e true i = sym e ∙ ap (λ j. s k == s j) (sym (eqb-true k m i)) ∙ self-same (s k)

-- ---- an attribute

value-again : (text : List ℕ) (c : Content) → own_text c ≡ text → with_value text c ≡ c
value-again text Root e = refl
value-again text (Element name) e = refl
value-again text (Attribute name old) e = ap (λ t. Attribute name t) (sym e)
value-again text (Text old) e = refl

pub untouched : (n : ℕ) (text : List ℕ) (xs : List Node) → has_number n xs ≡ false → with_attribute_text n text xs ≡ xs
untouched n text [] h = refl
untouched n text (x ∷ xs) h =
    let parts = or-false (x.number == n) (has_number n xs) h in
    ap (λ b. cond b (record x { content = with_value text x.content }) x ∷ with_attribute_text n text xs) parts.0 ∙ ap (λ l. x ∷ l) (untouched n text xs parts.1)

attribute-again : (n : ℕ) (text : List ℕ) (nodes : List Node) → are_apart nodes ≡ true → value_in (tree_of n nodes) ≡ text → with_attribute_text n text nodes ≡ nodes
attribute-again n text [] a h = refl
attribute-again n text (x ∷ xs) a h =
    elim (cases_Bool (x.number == n)) [
      | inl e ↦
          ap (λ b. cond b (record x { content = with_value text x.content }) x ∷ with_attribute_text n text xs) e
          ∙ ap (λ c. record x { content = c } ∷ with_attribute_text n text xs) (value-again text x.content (ap value_in (sym (tree-here n x xs e)) ∙ h))
          ∙ ap (λ l. x ∷ l) (untouched n text xs (gone-after n x xs a e))
      | inr e ↦
          ap (λ b. cond b (record x { content = with_value text x.content }) x ∷ with_attribute_text n text xs) e
          ∙ ap (λ l. x ∷ l) (attribute-again n text xs (and-true (not (has_number x.number xs)) (are_apart xs) a).1 (ap value_in (sym (tree-other n x xs e)) ∙ h))
    ]

-- ---- an element

pub element-no_text : (c : Content) → is_element c ≡ true → is_text c ≡ false
element-no_text Root h = refl
element-no_text (Element name) h = refl
element-no_text (Attribute name text) h = no h
element-no_text (Text text) h = no h

pub attribute-no_text : (c : Content) → is_attribute c ≡ true → is_text c ≡ false
attribute-no_text Root h = refl
attribute-no_text (Element name) h = refl
attribute-no_text (Attribute name text) h = refl
attribute-no_text (Text text) h = no h

abbrev pub texts_of : List Node → List Node
texts_of xs = filter (λ x. is_text x.content) xs

nothing : (y : Node) (ys : List Node) → [] ≡ y ∷ ys → true ≡ false
nothing y ys h = cc h

run-empty : (d : ℕ) (run : List Node) → IsRun d run → texts_of run ≡ [] → filter (λ x. is_attribute x.content) run ≡ run
run-empty d [] h e = refl
run-empty d (z ∷ zs) (inl h) e =
    ap (λ b. cond b (z ∷ filter (λ x. is_attribute x.content) zs) (filter (λ x. is_attribute x.content) zs)) h.0
    ∙ ap (λ l. z ∷ l) (run-empty d zs h.2 (sym (ap (λ b. cond b (z ∷ texts_of zs) (texts_of zs)) (attribute-no_text z.content h.0)) ∙ e))
run-empty d (z ∷ zs) (inr h) e = no (sym (nothing z (texts_of zs) (sym e ∙ ap (λ b. cond b (z ∷ texts_of zs) (texts_of zs)) h.0)))

empty-again : (n : ℕ) (nodes : List Node) → IsLeafAt n nodes → texts_of (tree_of n nodes) ≡ [] → with_texts n [] nodes ≡ nodes
empty-again n [] h e = refl
empty-again n (x ∷ xs) h e = by (x.number == n) refl h (empty-again n xs)
  where
    by : (b : Bool) → (x.number == n) ≡ b → cond b ((is_element x.content ≡ true) × IsRun x.depth (below x.depth xs)) (IsLeafAt n xs) → (IsLeafAt n xs → texts_of (tree_of n xs) ≡ [] → with_texts n [] xs ≡ xs) →
        cond b (x ∷ ((filter (λ y. is_attribute y.content) (below x.depth xs) ++ []) ++ past x.depth xs)) (x ∷ with_texts n [] xs) ≡ x ∷ xs
    by true q i f =
        let none : texts_of (below x.depth xs) ≡ [] = sym (ap (λ b. cond b (x ∷ texts_of (below x.depth xs)) (texts_of (below x.depth xs))) (element-no_text x.content i.0)) ∙ ap texts_of (sym (tree-here n x xs q)) ∙ e in
        ap (λ l. x ∷ (l ++ past x.depth xs)) (append-nil (filter (λ y. is_attribute y.content) (below x.depth xs)) ∙ run-empty x.depth (below x.depth xs) i.1 none) ∙ ap (λ l. x ∷ l) (below-then-past x.depth xs)
    by false q i f = ap (λ l. x ∷ l) (f i (ap texts_of (sym (tree-other n x xs q)) ∙ e))

-- it stands there
in-filter : (y : Node) (xs ys : List Node) → texts_of xs ≡ y ∷ ys → (has_number y.number xs ≡ true) × (is_text y.content ≡ true)
in-filter y [] ys e = no (sym (nothing y ys e))
in-filter y (x ∷ xs) ys e = by (is_text x.content) refl e (in-filter y xs ys)
  where
    by : (b : Bool) → is_text x.content ≡ b → cond b (x ∷ texts_of xs) (texts_of xs) ≡ y ∷ ys → (texts_of xs ≡ y ∷ ys → (has_number y.number xs ≡ true) × (is_text y.content ≡ true)) → (((x.number == y.number) || has_number y.number xs) ≡ true) × (is_text y.content ≡ true)
    by true q i f = (or-left (x.number == y.number) (has_number y.number xs) (ap (λ (z : Node). z.number == y.number) (head i) ∙ self-same y.number), ap (λ (z : Node). is_text z.content) (sym (head i)) ∙ q)
      where
        head : x ∷ texts_of xs ≡ y ∷ ys → x ≡ y
        head j = cc j
    by false q i f = let r = f i in (or-right (x.number == y.number) (has_number y.number xs) r.0, r.1)

-- the one with its number
found-text : (y : Node) (xs ys : List Node) → are_apart xs ≡ true → texts_of xs ≡ y ∷ ys → node_at y.number xs ≡ Some y
found-text y [] ys a e = no (sym (nothing y ys e))
found-text y (x ∷ xs) ys a e = by (is_text x.content) e (found-text y xs ys (and-true (not (has_number x.number xs)) (are_apart xs) a).1)
  where
    by : (b : Bool) → cond b (x ∷ texts_of xs) (texts_of xs) ≡ y ∷ ys → (texts_of xs ≡ y ∷ ys → node_at y.number xs ≡ Some y) → cond (x.number == y.number) (Some x) (node_at y.number xs) ≡ Some y
    by true i f = ap (λ b. cond b (Some x) (node_at y.number xs)) (ap (λ (z : Node). z.number == y.number) (head i) ∙ self-same y.number) ∙ ap Some (head i)
      where
        head : x ∷ texts_of xs ≡ y ∷ ys → x ≡ y
        head j = cc j
    by false i f = of (x.number == y.number) refl
      where
        of : (c : Bool) → (x.number == y.number) ≡ c → cond c (Some x) (node_at y.number xs) ≡ Some y
        of true q = no (sym (gone-after y.number x xs a q) ∙ (in-filter y xs ys i).0)
        of false q = f i

node-part : (k n : ℕ) (xs : List Node) (y : Node) → are_apart xs ≡ true → node_at k (tree_of n xs) ≡ Some y → node_at k xs ≡ Some y
node-part k n [] y a e = e
node-part k n (x ∷ xs) y a e =
    elim (cases_Bool (x.number == n)) [
      | inl q ↦ here (x.number == k) (ap (node_at k) (sym (tree-here n x xs q)) ∙ e)
      | inr q ↦ other (x.number == k) refl (ap (node_at k) (sym (tree-other n x xs q)) ∙ e) (node-part k n xs y (and-true (not (has_number x.number xs)) (are_apart xs) a).1)
    ]
  where
    in-below : (d : ℕ) (zs : List Node) → node_at k (below d zs) ≡ Some y → node_at k zs ≡ Some y
    in-below d [] i = i
    in-below d (z ∷ zs) i = of (nat_lt d z.depth) i (in-below d zs)
      where
        of : (b : Bool) → node_at k (cond b (z ∷ below d zs) []) ≡ Some y → (node_at k (below d zs) ≡ Some y → node_at k zs ≡ Some y) → cond (z.number == k) (Some z) (node_at k zs) ≡ Some y
        of false j f = none-of j
          where
            none-of : None ≡ Some y → cond (z.number == k) (Some z) (node_at k zs) ≡ Some y
            none-of l = cc l
        of true j f = at (z.number == k) j f
          where
            at : (c : Bool) → cond c (Some z) (node_at k (below d zs)) ≡ Some y → (node_at k (below d zs) ≡ Some y → node_at k zs ≡ Some y) → cond c (Some z) (node_at k zs) ≡ Some y
            at true l g = l
            at false l g = g l

    here : (c : Bool) → cond c (Some x) (node_at k (below x.depth xs)) ≡ Some y → cond c (Some x) (node_at k xs) ≡ Some y
    here true i = i
    here false i = in-below x.depth xs i

    there : (k : ℕ) (zs : List Node) → node_at k zs ≡ Some y → has_number k zs ≡ true
    there k [] i = none-of i
      where
        none-of : None ≡ Some y → false ≡ true
        none-of l = cc l
    there k (z ∷ zs) i = of (z.number == k) i (there k zs)
      where
        of : (c : Bool) → cond c (Some z) (node_at k zs) ≡ Some y → (node_at k zs ≡ Some y → has_number k zs ≡ true) → (c || has_number k zs) ≡ true
        of true j f = refl
        of false j f = f j

    other : (c : Bool) → (x.number == k) ≡ c → node_at k (tree_of n xs) ≡ Some y → (node_at k (tree_of n xs) ≡ Some y → node_at k xs ≡ Some y) → cond c (Some x) (node_at k xs) ≡ Some y
    other true q i f = no (sym (gone-after k x xs a q) ∙ there k xs (f i))
    other false q i f = f i

absent-below : (k d : ℕ) (zs : List Node) → has_number k zs ≡ false → has_number k (below d zs) ≡ false
absent-below k d zs i = of (has_number k (below d zs)) refl
  where
    of : (b : Bool) → has_number k (below d zs) ≡ b → b ≡ false
    of true j = sym (below-part k d zs j) ∙ i
    of false j = refl

apart-below : (d : ℕ) (zs : List Node) → are_apart zs ≡ true → are_apart (below d zs) ≡ true
apart-below d [] i = refl
apart-below d (z ∷ zs) i = of (nat_lt d z.depth) (and-true (not (has_number z.number zs)) (are_apart zs) i) (apart-below d zs (and-true (not (has_number z.number zs)) (are_apart zs) i).1)
  where
    of : (b : Bool) → (not (has_number z.number zs) ≡ true) × (are_apart zs ≡ true) → are_apart (below d zs) ≡ true → are_apart (cond b (z ∷ below d zs) []) ≡ true
    of false j l = refl
    of true j l = ap (λ g. not g && are_apart (below d zs)) (absent-below z.number d zs (not-of (has_number z.number zs) j.0)) ∙ l
      where
        not-of : (g : Bool) → not g ≡ true → g ≡ false
        not-of true m = sym m
        not-of false m = refl

apart-tree : (n : ℕ) (xs : List Node) → are_apart xs ≡ true → are_apart (tree_of n xs) ≡ true
apart-tree n [] a = a
apart-tree n (x ∷ xs) a =
    elim (cases_Bool (x.number == n)) [
      | inl q ↦
          ap are_apart (tree-here n x xs q)
          ∙ ap (λ g. not g && are_apart (below x.depth xs)) (absent-below x.number x.depth xs (gone-after x.number x xs a (self-same x.number)))
          ∙ apart-below x.depth xs (and-true (not (has_number x.number xs)) (are_apart xs) a).1
      | inr q ↦ ap are_apart (tree-other n x xs q) ∙ apart-tree n xs (and-true (not (has_number x.number xs)) (are_apart xs) a).1
    ]

module _ (number : ℕ) (c : ℕ) (cs : List ℕ) (y : Node) (own : own_text y.content ≡ c ∷ cs) where
  abbrev r : Node → Node
  r = renumbered (exchange y.number number)

  abbrev new : Node
  new = record { number = number; depth = 0; content = Text (c ∷ cs) }

  fixed : (x : Node) → (x.number == y.number) ≡ false → (x.number == number) ≡ false → r x ≡ x
  fixed x e i = ap (λ k. record { number = k; depth = x.depth; content = x.content }) (other-stays y.number number x.number e i)

  all-fixed : (xs : List Node) → has_number y.number xs ≡ false → has_number number xs ≡ false → map r xs ≡ xs
  all-fixed [] h k = refl
  all-fixed (x ∷ xs) h k =
      let p = or-false (x.number == y.number) (has_number y.number xs) h in
      let q = or-false (x.number == number) (has_number number xs) k in
      ap (λ z. z ∷ map r xs) (fixed x p.0 q.0) ∙ ap (λ l. x ∷ l) (all-fixed xs p.1 q.1)

  text-is : (z : Content) → is_text z ≡ true → own_text z ≡ c ∷ cs → z ≡ Text (c ∷ cs)
  text-is Root h e = no h
  text-is (Element name) h e = no h
  text-is (Attribute name text) h e = no h
  text-is (Text text) h e = ap (λ t. Text t) e

  texts-none : (d : ℕ) (zs : List Node) → AreTexts d zs → texts_of zs ≡ [] → zs ≡ []
  texts-none d [] h e = refl
  texts-none d (z ∷ zs) h e = no (sym (nothing z (texts_of zs) (sym e ∙ ap (λ b. cond b (z ∷ texts_of zs) (texts_of zs)) h.0)))

  run-again : (d : ℕ) (run : List Node) → IsRun d run → are_apart run ≡ true → has_number number run ≡ false → texts_of run ≡ y ∷ [] →
      filter (λ x. is_attribute x.content) run ++ at_depth (suc d) new ∷ [] ≡ map r run
  run-again d [] h a f e = no (sym (nothing y [] e))
  run-again d (z ∷ zs) (inl h) a f e =
      let rest : texts_of zs ≡ y ∷ [] = sym (ap (λ b. cond b (z ∷ texts_of zs) (texts_of zs)) (attribute-no_text z.content h.0)) ∙ e in
      let q = or-false (z.number == number) (has_number number zs) f in
      ap (λ b. cond b (z ∷ filter (λ x. is_attribute x.content) zs) (filter (λ x. is_attribute x.content) zs) ++ at_depth (suc d) new ∷ []) h.0
      ∙ ap (λ l. z ∷ l) (run-again d zs h.2 (and-true (not (has_number z.number zs)) (are_apart zs) a).1 q.1 rest)
      ∙ ap (λ x. x ∷ map r zs) (sym (fixed z (apart-of (in-filter y zs [] rest).0) q.0))
    where
      apart-of : has_number y.number zs ≡ true → (z.number == y.number) ≡ false
      apart-of i = by (z.number == y.number) refl
        where
          by : (b : Bool) → (z.number == y.number) ≡ b → b ≡ false
          by true j = sym i ∙ gone-after y.number z zs a j
          by false j = refl
  run-again d (z ∷ zs) (inr h) a f e =
      ap (λ b. cond b (z ∷ filter (λ x. is_attribute x.content) zs) (filter (λ x. is_attribute x.content) zs) ++ at_depth (suc d) new ∷ []) (text-no_attribute z.content h.0)
      ∙ ap (λ l. filter (λ (x : Node). is_attribute x.content) l ++ at_depth (suc d) new ∷ []) empty
      ∙ ap (λ x. x ∷ []) (sym one)
      ∙ ap (λ l. r z ∷ map r l) (sym empty)
    where
      is : z ∷ texts_of zs ≡ y ∷ []
      is = sym (ap (λ b. cond b (z ∷ texts_of zs) (texts_of zs)) h.0) ∙ e

      head : z ∷ texts_of zs ≡ y ∷ [] → z ≡ y
      head j = cc j

      tail : z ∷ texts_of zs ≡ y ∷ [] → texts_of zs ≡ []
      tail j = cc j

      empty : zs ≡ []
      empty = texts-none d zs h.2 (tail is)

      one : r z ≡ at_depth (suc d) new
      one =
          ap (λ k. record { number = k; depth = z.depth; content = z.content }) (ap (λ (w : Node). exchange y.number number w.number) (head is) ∙ first-goes y.number number)
          ∙ ap (λ k. record { number = number; depth = k; content = z.content }) h.1
          ∙ ap (λ k. record { number = number; depth = suc d; content = k }) (text-is z.content h.0 (ap (λ (w : Node). own_text w.content) (head is) ∙ own))

  nodes-again : (n : ℕ) (nodes : List Node) → IsLeafAt n nodes → are_apart nodes ≡ true → has_number number nodes ≡ false → texts_of (tree_of n nodes) ≡ y ∷ [] → with_texts n (one_text number (c ∷ cs)) nodes ≡ map r nodes
  nodes-again n [] h a f e = no (sym (nothing y [] e))
  nodes-again n (x ∷ xs) h a f e = by (x.number == n) refl h (nodes-again n xs)
    where
      parts : ((x.number == number) ≡ false) × (has_number number xs ≡ false)
      parts = or-false (x.number == number) (has_number number xs) f

      apart : are_apart xs ≡ true
      apart = (and-true (not (has_number x.number xs)) (are_apart xs) a).1

      differs : has_number y.number xs ≡ true → (x.number == y.number) ≡ false
      differs i = of (x.number == y.number) refl
        where
          of : (b : Bool) → (x.number == y.number) ≡ b → b ≡ false
          of true j = sym i ∙ gone-after y.number x xs a j
          of false j = refl

      by : (b : Bool) → (x.number == n) ≡ b → cond b ((is_element x.content ≡ true) × IsRun x.depth (below x.depth xs)) (IsLeafAt n xs) →
          (IsLeafAt n xs → are_apart xs ≡ true → has_number number xs ≡ false → texts_of (tree_of n xs) ≡ y ∷ [] → with_texts n (one_text number (c ∷ cs)) xs ≡ map r xs) →
          cond b (x ∷ ((filter (λ z. is_attribute z.content) (below x.depth xs) ++ at_depth (suc x.depth) new ∷ []) ++ past x.depth xs)) (x ∷ with_texts n (one_text number (c ∷ cs)) xs) ≡ r x ∷ map r xs
      by true q i g =
          let here : texts_of (below x.depth xs) ≡ y ∷ [] =
          sym (ap (λ b. cond b (x ∷ texts_of (below x.depth xs)) (texts_of (below x.depth xs))) (element-no_text x.content i.0)) ∙ ap texts_of (sym (tree-here n x xs q)) ∙ e in
          let stands = (in-filter y (below x.depth xs) [] here).0 in
          ap (λ l. x ∷ (l ++ past x.depth xs)) (run-again x.depth (below x.depth xs) i.1 (apart-below x.depth xs apart) (absent-below number x.depth xs parts.1) here)
          ∙ ap (λ l. x ∷ (map r (below x.depth xs) ++ l)) (sym (all-fixed (past x.depth xs) (parts-apart y.number x.depth xs apart stands) (absent-past number x.depth xs parts.1)))
          ∙ ap (λ l. x ∷ l) (sym (map-append r (below x.depth xs) (past x.depth xs)) ∙ ap (map r) (below-then-past x.depth xs))
          ∙ ap (λ z. z ∷ map r xs) (sym (fixed x (differs (below-part y.number x.depth xs stands)) parts.0))
      by false q i g =
          let later = ap texts_of (sym (tree-other n x xs q)) ∙ e in
          ap (λ l. x ∷ l) (g i apart parts.1 later) ∙ ap (λ z. z ∷ map r xs) (sym (fixed x (differs (tree-part y.number n xs (in-filter y (tree_of n xs) [] later).0)) parts.0))

-- ---- the law

abbrev Again : ℕ → ℕ → List ℕ → List Node → Type 0
Again number n text nodes = (s : ℕ → ℕ) × AreTextNumbers number nodes s × KeepsBeside number n nodes s × (with_numbered_text number n text nodes ≡ map (renumbered s) nodes)

unchanged : (number n : ℕ) (text : List ℕ) (nodes : List Node) → with_numbered_text number n text nodes ≡ nodes → Again number n text nodes
unchanged number n text nodes e = (
  λ k. k,
  record { renumbers = λ k m. refl; solid = λ k h i. refl; numbers = λ k. inl refl },
  λ k h i. refl,
  e ∙ sym (same nodes),
)
  where
    same : (xs : List Node) → map (renumbered (λ k. k)) xs ≡ xs
    same [] = refl
    same (x ∷ xs) = ap (λ l. x ∷ l) (same xs)

one-of : (text : List ℕ) (xs : List Node) → are_texts (text ∷ []) xs ≡ true → (y : Node) × (xs ≡ y ∷ []) × (own_text y.content ≡ text)
one-of text [] h = no h
one-of text (x ∷ []) h = (x, refl, bytes-same (own_text x.content) text (and-true (bytes_eq (own_text x.content) text) true h).0)
one-of text (x ∷ y ∷ ys) h = no ((and-true (bytes_eq (own_text x.content) text) false h).1)

none-of : (xs : List Node) → are_texts [] xs ≡ true → xs ≡ []
none-of [] h = refl
none-of (x ∷ xs) h = no h

again : (number n : ℕ) (text : List ℕ) (nodes : List Node) → are_apart nodes ≡ true → has_number number nodes ≡ false → HasText n nodes →
    cond (is_attribute_at n nodes) (bytes_eq (value_in (tree_of n nodes)) text) (are_texts (as_texts text) (texts_of (tree_of n nodes))) ≡ true → Again number n text nodes
again number n text nodes a f (inl h) e =
    unchanged number n text nodes
    (ap (λ b. cond b (with_attribute_text n text nodes) (with_texts n (one_text number text) nodes)) h
    ∙ attribute-again n text nodes a (bytes-same (value_in (tree_of n nodes)) text (sym (ap (λ b. cond b (bytes_eq (value_in (tree_of n nodes)) text) (are_texts (as_texts text) (texts_of (tree_of n nodes)))) h) ∙ e)))
again number n [] nodes a f (inr h) e =
    unchanged number n [] nodes
    (ap (λ b. cond b (with_attribute_text n [] nodes) (with_texts n [] nodes)) h.0
    ∙ empty-again n nodes h.1 (none-of (texts_of (tree_of n nodes)) (sym (ap (λ b. cond b (bytes_eq (value_in (tree_of n nodes)) []) (are_texts [] (texts_of (tree_of n nodes)))) h.0) ∙ e)))
again number n (c ∷ cs) nodes a f (inr h) e = (
  exchange t.number number,
  record { renumbers = exchanged t.number number; solid = solid; numbers = numbers },
  beside,
  ap (λ b. cond b (with_attribute_text n (c ∷ cs) nodes) (with_texts n (one_text number (c ∷ cs)) nodes)) h.0 ∙ nodes-again number c cs t one.2 n nodes h.1 a f one.1,
)
  where
    one : (y : Node) × (texts_of (tree_of n nodes) ≡ y ∷ []) × (own_text y.content ≡ c ∷ cs)
    one = one-of (c ∷ cs) (texts_of (tree_of n nodes)) (sym (ap (λ b. cond b (bytes_eq (value_in (tree_of n nodes)) (c ∷ cs)) (are_texts ((c ∷ cs) ∷ []) (texts_of (tree_of n nodes)))) h.0) ∙ e)

    t : Node
    t = one.0

    stands : node_at t.number nodes ≡ Some t
    stands = node-part t.number n nodes t a (found-text t (tree_of n nodes) [] (apart-tree n nodes a) one.1)

    solid : (k : ℕ) → (k == number) ≡ false → ((x : Node) → node_at k nodes ≡ Some x → is_text x.content ≡ false) → exchange t.number number k ≡ k
    solid k i j = by (k == t.number) refl
      where
        by : (b : Bool) → (k == t.number) ≡ b → exchange t.number number k ≡ k
        by false q = other-stays t.number number k q i
        by true q = no (sym (j t (ap (λ m. node_at m nodes) (eqb-true k t.number q) ∙ stands)) ∙ (in-filter t (tree_of n nodes) [] one.1).1)

    beside : (k : ℕ) → (k == number) ≡ false → has_number k (tree_of n nodes) ≡ false → exchange t.number number k ≡ k
    beside k i j = by (k == t.number) refl
      where
        by : (b : Bool) → (k == t.number) ≡ b → exchange t.number number k ≡ k
        by false q = other-stays t.number number k q i
        by true q = no (sym j ∙ ap (λ m. has_number m (tree_of n nodes)) (eqb-true k t.number q) ∙ (in-filter t (tree_of n nodes) [] one.1).0)

    numbers : (k : ℕ) → (exchange t.number number k ≡ k) ⊎ ((exchange t.number number k ≡ number) ⊎ (has_number (exchange t.number number k) nodes ≡ true))
    numbers k = by (k == t.number) refl (k == number) refl
      where
        by : (b : Bool) → (k == t.number) ≡ b → (d : Bool) → (k == number) ≡ d → (exchange t.number number k ≡ k) ⊎ ((exchange t.number number k ≡ number) ⊎ (has_number (exchange t.number number k) nodes ≡ true))
        by true q d i = inr (inl (ap (exchange t.number number) (eqb-true k t.number q) ∙ first-goes t.number number))
        by false q true i =
            inr (inr (ap (λ m. has_number m nodes) (ap (exchange t.number number) (eqb-true k number i) ∙ second-goes t.number number) ∙ tree-part t.number n nodes (in-filter t (tree_of n nodes) [] one.1).0))
        by false q false i = inl (other-stays t.number number k q i)

marks-stay : (s : ℕ → ℕ) → IsRenumbering s → (marks : List ℕ) → ((k : ℕ) → has k marks ≡ true → s k ≡ k) → (k : ℕ) → has (s k) marks ≡ has k marks
marks-stay s same marks h k = by (has (s k) marks) refl (has k marks) refl
  where
    by : (b : Bool) → has (s k) marks ≡ b → (d : Bool) → has k marks ≡ d → b ≡ d
    by true e true i = refl
    by false e false i = refl
    by false e true i = sym e ∙ ap (λ m. has m marks) (h k i) ∙ i
    by true e false i =
        let one : s k ≡ k = eqb-true (s k) k (sym (same (s k) k) ∙ ap (λ m. m == s k) (h (s k) e) ∙ self-same (s k)) in
        sym e ∙ ap (λ m. has m marks) one ∙ i

pub text_again : TextAgain
text_again texts lists number n next text forest before trees able stands fresh marks list_marks same =
    let r = again number n text forest.nodes trees.apart fresh (text-there n forest trees able) stands in (
      r.0,
      r.1,
      r.2,
      subst (λ l. SameNodes texts lists l (map (renumbered_visit r.0) before))
          (sym (ap (λ l. visits (in_instances l)) r.3 ∙ ap visits (in_instances-renumbered r.0 r.1.renumbers forest.nodes) ∙ visits-renumbered r.0 r.1.renumbers (in_instances forest.nodes)))
          (same_renumbered r.0 texts lists (visits (in_instances forest.nodes)) before r.1.renumbers
          (marks-stay r.0 r.1.renumbers texts (λ k h. r.1.solid k (marks k h).0 (marks k h).1))
          (marks-stay r.0 r.1.renumbers lists (λ k h. r.1.solid k (list_marks k h).0 (list_marks k h).1)) same),
    )

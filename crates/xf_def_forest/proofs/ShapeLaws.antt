-- Setting a text never changes the shape.
use Rattle.std.proofs.Common.{◌≡◌, ℕ, suc, ◌==◌, Bool, true, false, not, cond, ◌&&◌, ◌||◌, List, [], ◌∷◌, ◌++◌, map, Some, None, if◌then◌else◌, refl, sym, ap, ◌∙◌, subst, inl, inr, arith}
use Rattle.std.specs.Prelude.{⊤, filter, is_some}
use Rattle.std.proofs.Math.Path.{fun_ext}
use Rattle.std.proofs.lemmas.Bool.{cases_Bool}
use Rattle.std.proofs.lemmas.Bool.Decides.{nat_tests}
use Rattle.xf_def_forest.specs.declared.content.Node.{Node}
use Rattle.xf_def_forest.specs.declared.content.Content.{Content}
use Rattle.xf_def_forest.specs.declared.content.Content.TheVariants.{Root, Element, Attribute, Text}
use Rattle.xf_def_forest.specs.Forest.{Forest, is_element, is_attribute, is_text, below, past}
use Rattle.xf_def_forest.specs.Visit.{Visit, is_first, still_above, numbers, visit, visits_from, visits}
use Rattle.xf_def_forest.specs.Shape.{Texts, is_replaced, is_gone, visits_in, filled, retexted, has_elements, only_text, without_text, erased, shape, shape_of}
use Rattle.xf_def_forest.specs.Texts.{one_text, at_depth, with_content, with_texts, with_value, valued, with_text}
use Rattle.xf_def_forest.proofs.RunLemmas.{IsRun, AreTexts, IsLeafAt, below-then-past, text-no_attribute}
use Rattle.xf_def_forest.proofs.VisitLemmas.{KeepsDepth, Follows, visits-map, still_above-map, AreAt, past-within, deeper-by_one, run-visits}
use Rattle.xf_def_forest.proofs.BackLaws.{HasText}

-- ---- two lists of visits that differ in texts of one node alone

abbrev pub IsTextOf : ℕ → Visit → Type 0
IsTextOf n x = (is_text x.content ≡ true) × (is_first n x.above ≡ true)

pub data Differ (n : ℕ) : List Visit → List Visit → Type 0 where
  ended : Differ n [] []
  both : {x : Visit} {xs ys : List Visit} → Differ n xs ys → Differ n (x ∷ xs) (x ∷ ys)
  left : {x : Visit} {xs ys : List Visit} → IsTextOf n x → Differ n xs ys → Differ n (x ∷ xs) ys
  right : {y : Visit} {xs ys : List Visit} → IsTextOf n y → Differ n xs ys → Differ n xs (y ∷ ys)

equal : (n : ℕ) (xs : List Visit) → Differ n xs xs
equal n [] = ended
equal n (x ∷ xs) = both (equal n xs)

text-no_element : (c : Content) (b : Bool) → is_text c ≡ true → (is_element c && b) ≡ false
text-no_element Root b e = refl
text-no_element (Element name) b e = absurd (no e)
  where
    no : false ≡ true → ⊥
    no e = cc e
text-no_element (Attribute name text) b e = refl
text-no_element (Text text) b e = refl

same-elements : (n m : ℕ) {xs ys : List Visit} → Differ n xs ys → has_elements xs m ≡ has_elements ys m
same-elements n m ended = refl
same-elements n m (both {x = x} d) = ap (λ b. (is_element x.content && is_first m x.above) || b) (same-elements n m d)
same-elements n m (left {x = x} {xs = xs} h d) = ap (λ b. b || has_elements xs m) (text-no_element x.content (is_first m x.above) h.0) ∙ same-elements n m d
same-elements n m (right {y = y} {ys = ys} h d) = same-elements n m d ∙ sym (ap (λ b. b || has_elements ys m) (text-no_element y.content (is_first m y.above) h.0))

replaced-first : (t : Texts) (n : ℕ) (above : List ℕ) → is_some (t n) ≡ true → is_first n above ≡ true → is_replaced t above ≡ true
replaced-first t n [] h e = e
replaced-first t n (m ∷ ms) h e = let same : n ≡ m = grind (arith, nat_tests, e) in subst (λ k. is_some (t k) ≡ true) same h

gone-text : (t : Texts) (n : ℕ) (x : Visit) (c : Content) → is_some (t n) ≡ true → is_text c ≡ true → is_first n x.above ≡ true → (is_text (without_text c) && is_replaced t x.above) ≡ true
gone-text t n x Root h e k = e
gone-text t n x (Element name) h e k = e
gone-text t n x (Attribute name text) h e k = e
gone-text t n x (Text text) h e k = replaced-first t n x.above h k

abbrev left_over : Texts → List Visit → List Visit
left_over t xs = filter (λ x. not (is_gone t x)) (map erased xs)

same-left : (t : Texts) (n : ℕ) {xs ys : List Visit} → is_some (t n) ≡ true → Differ n xs ys → left_over t xs ≡ left_over t ys
same-left t n h ended = refl
same-left t n h (both {x = x} {xs = xs} {ys = ys} d) = ap (λ l. cond (not (is_gone t (erased x))) (erased x ∷ l) l) (same-left t n h d)
same-left t n h (left {x = x} k d) = rw (gone-text t n x x.content h k.0 k.1) (same-left t n h d)
same-left t n h (right {y = y} k d) = rw (gone-text t n y y.content h k.0 k.1) (same-left t n h d)

pub differ-shape : (n : ℕ) (xs ys : List Visit) → has_elements ys n ≡ false → Differ n xs ys → shape xs ≡ shape ys
differ-shape n xs ys none d =
    let t = only_text ys in
    let same : only_text xs ≡ t = fun_ext (λ m. ap (λ b. cond b None (Some ([] ∷ []))) (same-elements n m d)) in
    let some : is_some (t n) ≡ true = ap (λ b. is_some {T = List (List ℕ)} (cond b None (Some ([] ∷ [])))) none in
    ap (λ u. retexted u (map erased xs)) same ∙ ap (λ l. filled (visits_in t) [] l) (same-left t n some d)

-- ---- a text set in an element

abbrev AllText : List Node → Type 0
AllText [] = ⊤
AllText (y ∷ ys) = (is_text y.content ≡ true) × AllText ys

one_text-all : (n : ℕ) (text : List ℕ) → AllText (one_text n text)
one_text-all n [] = tt
one_text-all n (c ∷ cs) = (refl, tt)

placed-text : (d : ℕ) (xs : List Node) → AllText xs → AllText (map (at_depth d) xs)
placed-text d [] h = tt
placed-text d (x ∷ xs) h = (h.0, placed-text d xs h.1)

placed-at : (d : ℕ) (xs : List Node) → AreAt d (map (at_depth d) xs)
placed-at d [] = tt
placed-at d (x ∷ xs) = (refl, placed-at d xs)

texts-at : (d : ℕ) (xs : List Node) → AreTexts d xs → AreAt (suc d) xs
texts-at d [] h = tt
texts-at d (x ∷ xs) h = (h.1, texts-at d xs h.2)

texts-all : (d : ℕ) (xs : List Node) → AreTexts d xs → AllText xs
texts-all d [] h = tt
texts-all d (x ∷ xs) h = (h.0, texts-all d xs h.2)

run-at : (d : ℕ) (xs : List Node) → IsRun d xs → AreAt (suc d) xs
run-at d [] h = tt
run-at d (x ∷ xs) (inl h) = (h.1, run-at d xs h.2)
run-at d (x ∷ xs) (inr h) = (h.1, texts-at d xs h.2)

text-attributes : (d : ℕ) (x : Node) (xs : List Node) → is_text x.content ≡ true → AreTexts d xs → filter (λ y. is_attribute y.content) (x ∷ xs) ≡ []
text-attributes d x xs h k = rw (text-no_attribute x.content h) (none xs k)
  where
    none : (ys : List Node) → AreTexts d ys → filter (λ y. is_attribute y.content) ys ≡ []
    none [] k = refl
    none (y ∷ ys) k = rw (text-no_attribute y.content k.0) (none ys k.2)

run-attributes-at : (d : ℕ) (xs : List Node) → IsRun d xs → AreAt (suc d) (filter (λ x. is_attribute x.content) xs)
run-attributes-at d [] h = tt
run-attributes-at d (x ∷ xs) (inl h) = rw h.0 (h.1, run-attributes-at d xs h.2)
run-attributes-at d (x ∷ xs) (inr h) = subst (AreAt (suc d)) (sym (text-attributes d x xs h.0 h.2)) tt

at-append : (d : ℕ) (xs ys : List Node) → AreAt d xs → AreAt d ys → AreAt d (xs ++ ys)
at-append d [] ys h k = k
at-append d (x ∷ xs) ys h k = (h.0, at-append d xs ys h.1 k)

module _ (n : ℕ) (x : Node) (stay : List Node) (here : (x.number == n) ≡ true) where
  abbrev seen : List Node → List Visit
  seen ys = map (visit (x ∷ stay)) ys

  text-of : (y : Node) → y.depth ≡ suc x.depth → is_text y.content ≡ true → IsTextOf n (visit (x ∷ stay) y)
  text-of y deep h =
      let open_ : still_above y.depth (x ∷ stay) ≡ x ∷ stay = ap (λ d. still_above d (x ∷ stay)) deep ∙ rw (deeper-by_one x.depth) refl in
      let turned : (n == x.number) ≡ true = grind (arith, nat_tests, here) in
      (h, subst (λ l. is_first n (numbers l) ≡ true) (sym open_) turned)

  lefts : (ys : List Node) {xs zs : List Visit} → AllText ys → AreAt (suc x.depth) ys → Differ n xs zs → Differ n (seen ys ++ xs) zs
  lefts [] h k d = d
  lefts (y ∷ ys) h k d = left (text-of y k.0 h.0) (lefts ys h.1 k.1 d)

  rights : (ys : List Node) {xs zs : List Visit} → AllText ys → AreAt (suc x.depth) ys → Differ n xs zs → Differ n xs (seen ys ++ zs)
  rights [] h k d = d
  rights (y ∷ ys) h k d = right (text-of y k.0 h.0) (rights ys h.1 k.1 d)

  runs-differ : (run new : List Node) (rest : List Visit) → IsRun x.depth run → AllText new → AreAt (suc x.depth) new
      → Differ n (seen (filter (λ y. is_attribute y.content) run ++ new) ++ rest) (seen run ++ rest)
  runs-differ [] new rest h k l = lefts new k l (equal n rest)
  runs-differ (y ∷ ys) new rest (inl h) k l = rw h.0 (both (runs-differ ys new rest h.2 k l))
  runs-differ (y ∷ ys) new rest (inr h) k l =
      rw (text-attributes x.depth y ys h.0 h.2)
      (lefts new k l (rights (y ∷ ys) (h.0, texts-all x.depth ys h.2) (h.1, texts-at x.depth ys h.2) (equal n rest)))

  contents-differ : (texts xs : List Node) → AllText texts → IsRun x.depth (below x.depth xs)
      → Differ n (visits_from (x ∷ stay) (with_content x.depth texts xs)) (visits_from (x ∷ stay) xs)
  contents-differ texts xs h run =
      let new = map (at_depth (suc x.depth)) texts in
      let zs = filter (λ (y : Node). is_attribute y.content) (below x.depth xs) in
      let deep = at-append (suc x.depth) zs new (run-attributes-at x.depth (below x.depth xs) run) (placed-at (suc x.depth) texts) in
      let one : visits_from (x ∷ stay) (with_content x.depth texts xs) ≡ seen (zs ++ new) ++ visits_from (x ∷ stay) (past x.depth xs)
      = run-visits x stay (zs ++ new) (past x.depth xs) deep (past-within x.depth xs) in
      let two : visits_from (x ∷ stay) xs ≡ seen (below x.depth xs) ++ visits_from (x ∷ stay) (past x.depth xs)
      = ap (visits_from (x ∷ stay)) (sym (below-then-past x.depth xs)) ∙ run-visits x stay (below x.depth xs) (past x.depth xs) (run-at x.depth (below x.depth xs) run) (past-within x.depth xs) in
      subst (λ l. Differ n l (visits_from (x ∷ stay) xs)) (sym one)
      (subst (λ l. Differ n (seen (zs ++ new) ++ visits_from (x ∷ stay) (past x.depth xs)) l) (sym two)
      (runs-differ (below x.depth xs) new (visits_from (x ∷ stay) (past x.depth xs)) run (placed-text (suc x.depth) texts h) (placed-at (suc x.depth) texts)))

texts-differ : (n : ℕ) (texts above nodes : List Node) → AllText texts → IsLeafAt n nodes → Differ n (visits_from above (with_texts n texts nodes)) (visits_from above nodes)
texts-differ n texts above [] h k = ended
texts-differ n texts above (x ∷ xs) h k =
    elim (cases_Bool (x.number == n)) [
      | inl e ↦ rw e (both (contents-differ n x (still_above x.depth above) e texts xs h (rw e at k).1))
      | inr e ↦ rw e (both (texts-differ n texts (x ∷ still_above x.depth above) xs h (rw e at k)))
    ]

-- ---- a text set at an attribute

abbrev revalued : ℕ → List ℕ → Visit → Visit
revalued n text v = if v.number == n then record v { content = with_value text v.content } else v

valued-number : (n : ℕ) (text : List ℕ) (x : Node) → (valued n text x).number ≡ x.number
valued-number n text x = elim (cases_Bool (x.number == n)) [ inl e ↦ rw e refl | inr e ↦ rw e refl ]

valued-depth : (n : ℕ) (text : List ℕ) → KeepsDepth (valued n text)
valued-depth n text x = elim (cases_Bool (x.number == n)) [ inl e ↦ rw e refl | inr e ↦ rw e refl ]

valued-numbers : (n : ℕ) (text : List ℕ) (d : ℕ) (above : List Node) → numbers (still_above d (map (valued n text) above)) ≡ numbers (still_above d above)
valued-numbers n text d above = ap numbers (still_above-map (valued n text) (valued-depth n text) d above) ∙ same (still_above d above)
  where
    same : (ys : List Node) → numbers (map (valued n text) ys) ≡ numbers ys
    same [] = refl
    same (y ∷ ys) = ap (λ m. m ∷ numbers (map (valued n text) ys)) (valued-number n text y) ∙ ap (λ l. y.number ∷ l) (same ys)

valued-follows : (n : ℕ) (text : List ℕ) → Follows (valued n text) (revalued n text)
valued-follows n text above x =
    ap (λ d. record { number = (valued n text x).number; above = numbers (still_above d (map (valued n text) above)); content = (valued n text x).content }) (valued-depth n text x)
    ∙ ap (λ l. record { number = (valued n text x).number; above = l; content = (valued n text x).content }) (valued-numbers n text x.depth above)
    ∙ by (x.number == n) refl
  where
    by : (b : Bool) → (x.number == n) ≡ b → record { number = (valued n text x).number; above = numbers (still_above x.depth above); content = (valued n text x).content } ≡ revalued n text (visit above x)
    by true e = rw e refl
    by false e = rw e refl

value-erased : (text : List ℕ) (c : Content) → without_text (with_value text c) ≡ without_text c
value-erased text Root = refl
value-erased text (Element name) = refl
value-erased text (Attribute name old) = refl
value-erased text (Text old) = refl

value-element : (text : List ℕ) (c : Content) → is_element (with_value text c) ≡ is_element c
value-element text Root = refl
value-element text (Element name) = refl
value-element text (Attribute name old) = refl
value-element text (Text old) = refl

revalued-erased : (n : ℕ) (text : List ℕ) (xs : List Visit) → map erased (map (revalued n text) xs) ≡ map erased xs
revalued-erased n text [] = refl
revalued-erased n text (x ∷ xs) =
    elim (cases_Bool (x.number == n)) [
      | inl e ↦ rw e (ap (λ c. record x { content = c } ∷ map erased (map (revalued n text) xs)) (value-erased text x.content) ∙ ap (λ l. erased x ∷ l) (revalued-erased n text xs))
      | inr e ↦ rw e (ap (λ l. erased x ∷ l) (revalued-erased n text xs))
    ]

revalued-elements : (n : ℕ) (text : List ℕ) (m : ℕ) (xs : List Visit) → has_elements (map (revalued n text) xs) m ≡ has_elements xs m
revalued-elements n text m [] = refl
revalued-elements n text m (x ∷ xs) =
    elim (cases_Bool (x.number == n)) [
      | inl e ↦ rw e (ap (λ b. (b && is_first m x.above) || has_elements (map (revalued n text) xs) m) (value-element text x.content) ∙ ap (λ b. (is_element x.content && is_first m x.above) || b) (revalued-elements n text m xs))
      | inr e ↦ rw e (ap (λ b. (is_element x.content && is_first m x.above) || b) (revalued-elements n text m xs))
    ]

revalued-shape : (n : ℕ) (text : List ℕ) (xs : List Visit) → shape (map (revalued n text) xs) ≡ shape xs
revalued-shape n text xs =
    ap (λ u. retexted u (map erased (map (revalued n text) xs))) (fun_ext (λ m. ap (λ b. cond b None (Some ([] ∷ []))) (revalued-elements n text m xs)))
    ∙ ap (retexted (only_text xs)) (revalued-erased n text xs)

-- ---- the law

-- setting the text of an attribute, or of an element without element children, leaves the shape as it is
pub shape-with_text : (n : ℕ) (text : List ℕ) (forest : Forest) → has_elements (visits forest.nodes) n ≡ false → HasText n forest.nodes
    → shape_of (with_text n text forest).nodes ≡ shape_of forest.nodes
shape-with_text n text forest none (inl h) =
    rw h (ap shape (visits-map (valued n text) (revalued n text) (valued-depth n text) (valued-follows n text) [] forest.nodes) ∙ revalued-shape n text (visits forest.nodes))
shape-with_text n text forest none (inr h) =
    rw h.0 (differ-shape n (visits (with_texts n (one_text forest.next text) forest.nodes)) (visits forest.nodes) none (texts-differ n (one_text forest.next text) [] forest.nodes (one_text-all forest.next text) h.1))

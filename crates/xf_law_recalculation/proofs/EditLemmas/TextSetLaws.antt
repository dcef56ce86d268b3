-- A text that is set in a forest is one that is set in its visits.
use Rattle.std.proofs.Common.{◌≡◌, ℕ, suc, ◌==◌, Bool, true, false, not, cond, ◌&&◌, List, [], ◌∷◌, ◌++◌, map, Option, Some, None, option_map, refl, sym, ap, ◌∙◌, subst, inl, inr, arith}
use Rattle.std.specs.Prelude.{⊤, ◌⊎◌, filter}
use Rattle.std.proofs.lemmas.Bool.{cases_Bool, eqb-true}
use Rattle.std.proofs.lemmas.Bool.Decides.{nat_tests}
use Rattle.xf_def_forest.specs.declared.content.Node.{Node}
use Rattle.xf_def_forest.specs.declared.content.Content.{Content}
use Rattle.xf_def_forest.specs.declared.content.Content.TheVariants.{Root, Element, Attribute, Text}
use Rattle.xf_def_forest.specs.declared.content.Kind.TheVariants as kind
use Rattle.xf_def_forest.specs.Forest.{Forest, is_attribute, is_text, kind_of, node_at, content_at, below, past}
use Rattle.xf_def_forest.specs.Needs.{IsSettable}
use Rattle.xf_def_forest.specs.Settle.{with_numbered_text}
use Rattle.xf_def_forest.specs.Shape.{erased, without_text}
use Rattle.xf_def_forest.specs.Texts.{one_text, at_depth, with_content, with_texts, with_attribute_text, with_value, valued}
use Rattle.xf_def_forest.specs.Visit.{Visit, has, is_first, still_above, numbers, visit, visits_from, visits}
use Rattle.xf_def_forest.specs.WellFormed.{HasTrees}
use Rattle.xf_def_forest.proofs.BackLaws.{HasText}
use Rattle.xf_def_forest.proofs.OrderLaws.{visits-different}
use Rattle.xf_def_forest.proofs.RunLemmas.{IsRun, AreTexts, IsLeafAt, below-then-past, text-no_attribute}
use Rattle.xf_def_forest.proofs.TextLaws.{has_text}
use Rattle.xf_def_forest.proofs.VisitLemmas.{KeepsDepth, Follows, visits-map, still_above-map, AreAt, past-within, deeper-by_one, run-visits}
use Rattle.xf_def_xpath.specs.Asked.{found}
use Rattle.xf_def_xpath.specs.Agree.{numbers_of, are_apart}
use Rattle.xf_def_xpath.proofs.VisitFacts.{no, some-same, none-some}
use Rattle.xf_def_xpath.proofs.ForestVisits.{Each, each-found, self-found}
use Rattle.xf_law_recalculation.specs.Edit.Edits.{blanked, without_text_of, IsRetexted, TextSet}
use Rattle.xf_law_recalculation.proofs.EditLemmas.TextEdits.{text_marked_law}

-- ---- two lists of visits that differ in texts of one node alone

abbrev IsTextOf : ℕ → Visit → Type 0
IsTextOf n x = (is_text x.content ≡ true) × (is_first n x.above ≡ true)

-- those that the first has alone have this number
data Differ (n number : ℕ) : List Visit → List Visit → Type 0 where
  ended : Differ n number [] []
  both : {x : Visit} {xs ys : List Visit} → Differ n number xs ys → Differ n number (x ∷ xs) (x ∷ ys)
  left : {x : Visit} {xs ys : List Visit} → IsTextOf n x → x.number ≡ number → Differ n number xs ys → Differ n number (x ∷ xs) ys
  right : {y : Visit} {xs ys : List Visit} → IsTextOf n y → Differ n number xs ys → Differ n number xs (y ∷ ys)

module _ (n number : ℕ) where
  equal : (xs : List Visit) → Differ n number xs xs
  equal [] = ended
  equal (x ∷ xs) = both (equal xs)

  text-off : (x : Visit) → IsTextOf n x → (is_text (blanked n x).content && is_first n (blanked n x).above) ≡ true
  text-off x h = by (x.number == n)
    where
      kept : (c : Content) → is_text (without_text c) ≡ is_text c
      kept Root = refl
      kept (Element name) = refl
      kept (Attribute name text) = refl
      kept (Text text) = refl

      all : (a b : Bool) → a ≡ true → b ≡ true → (a && b) ≡ true
      all true b i j = j
      all false b i j = i

      by : (b : Bool) → (is_text (cond b (erased x) x).content && is_first n (cond b (erased x) x).above) ≡ true
      by true = all (is_text (without_text x.content)) (is_first n x.above) (kept x.content ∙ h.0) h.1
      by false = all (is_text x.content) (is_first n x.above) h.0 h.1

  differ-rest : {xs ys : List Visit} → Differ n number xs ys → without_text_of n xs ≡ without_text_of n ys
  differ-rest ended = refl
  differ-rest (both {x = x} d) = ap (λ l. cond (not (is_text (blanked n x).content && is_first n (blanked n x).above)) (blanked n x ∷ l) l) (differ-rest d)
  differ-rest (left {x = x} {xs = xs} h k d) = ap (λ b. cond (not b) (blanked n x ∷ without_text_of n xs) (without_text_of n xs)) (text-off x h) ∙ differ-rest d
  differ-rest (right {y = y} {ys = ys} h d) = differ-rest d ∙ sym (ap (λ b. cond (not b) (blanked n y ∷ without_text_of n ys) (without_text_of n ys)) (text-off y h))

  -- what the first has stood in the other, or has the number
  abbrev Comes : List Visit → Visit → Type 0
  Comes now x = (x.number ≡ number) ⊎ (found x.number now ≡ Some x)

  differ-comes : (now : List Visit) {xs ys : List Visit} → Differ n number xs ys → Each (λ y. found y.number now ≡ Some y) ys → Each (Comes now) xs
  differ-comes now ended e = tt
  differ-comes now (both d) e = (inr e.0, differ-comes now d e.1)
  differ-comes now (left h k d) e = (inl k, differ-comes now d e)
  differ-comes now (right h d) e = differ-comes now d e.1

-- ---- a text set in an element

module _ (number : ℕ) where
  abbrev AllNew : List Node → Type 0
  AllNew [] = ⊤
  AllNew (y ∷ ys) = ((is_text y.content ≡ true) × (y.number ≡ number)) × AllNew ys

  one_text-all : (text : List ℕ) → AllNew (one_text number text)
  one_text-all [] = tt
  one_text-all (c ∷ cs) = ((refl, refl), tt)

  placed-new : (d : ℕ) (xs : List Node) → AllNew xs → AllNew (map (at_depth d) xs)
  placed-new d [] h = tt
  placed-new d (x ∷ xs) h = (h.0, placed-new d xs h.1)

abbrev AllText : List Node → Type 0
AllText [] = ⊤
AllText (y ∷ ys) = (is_text y.content ≡ true) × AllText ys

placed-at : (d : ℕ) (xs : List Node) → AreAt d (map (at_depth d) xs)
placed-at d [] = tt
placed-at d (x ∷ xs) = (refl, placed-at d xs)

texts-at : (d : ℕ) (xs : List Node) → AreTexts d xs → AreAt (suc d) xs
texts-at d [] h = tt
texts-at d (x ∷ xs) h = (h.1, texts-at d xs h.2)

texts-all : (d : ℕ) (xs : List Node) → AreTexts d xs → AllText xs
texts-all d [] h = tt
texts-all d (x ∷ xs) h = (h.0, texts-all d xs h.2)

pub run-at : (d : ℕ) (xs : List Node) → IsRun d xs → AreAt (suc d) xs
run-at d [] h = tt
run-at d (x ∷ xs) (inl h) = (h.1, run-at d xs h.2)
run-at d (x ∷ xs) (inr h) = (h.1, texts-at d xs h.2)

text-attributes : (d : ℕ) (x : Node) (xs : List Node) → is_text x.content ≡ true → AreTexts d xs → filter (λ y. is_attribute y.content) (x ∷ xs) ≡ []
text-attributes d x xs h k = rw (text-no_attribute x.content h) (none xs k)
  where
    none : (ys : List Node) → AreTexts d ys → filter (λ y. is_attribute y.content) ys ≡ []
    none [] k = refl
    none (y ∷ ys) k = rw (text-no_attribute y.content k.0) (none ys k.2)

run-attributes-at : (d : ℕ) (xs : List Node) → IsRun d xs → AreAt (suc d) (filter (λ x. is_attribute x.content) xs)
run-attributes-at d [] h = tt
run-attributes-at d (x ∷ xs) (inl h) = rw h.0 (h.1, run-attributes-at d xs h.2)
run-attributes-at d (x ∷ xs) (inr h) = subst (AreAt (suc d)) (sym (text-attributes d x xs h.0 h.2)) tt

at-append : (d : ℕ) (xs ys : List Node) → AreAt d xs → AreAt d ys → AreAt d (xs ++ ys)
at-append d [] ys h k = k
at-append d (x ∷ xs) ys h k = (h.0, at-append d xs ys h.1 k)

module _ (n number : ℕ) (x : Node) (stay : List Node) (here : (x.number == n) ≡ true) where
  abbrev seen : List Node → List Visit
  seen ys = map (visit (x ∷ stay)) ys

  text-of : (y : Node) → y.depth ≡ suc x.depth → is_text y.content ≡ true → IsTextOf n (visit (x ∷ stay) y)
  text-of y deep h =
      let open_ : still_above y.depth (x ∷ stay) ≡ x ∷ stay = ap (λ d. still_above d (x ∷ stay)) deep ∙ rw (deeper-by_one x.depth) refl in
      let turned : (n == x.number) ≡ true = grind (arith, nat_tests, here) in
      (h, subst (λ l. is_first n (numbers l) ≡ true) (sym open_) turned)

  lefts : (ys : List Node) {xs zs : List Visit} → AllNew number ys → AreAt (suc x.depth) ys → Differ n number xs zs → Differ n number (seen ys ++ xs) zs
  lefts [] h k d = d
  lefts (y ∷ ys) h k d = left (text-of y k.0 h.0.0) h.0.1 (lefts ys h.1 k.1 d)

  rights : (ys : List Node) {xs zs : List Visit} → AllText ys → AreAt (suc x.depth) ys → Differ n number xs zs → Differ n number xs (seen ys ++ zs)
  rights [] h k d = d
  rights (y ∷ ys) h k d = right (text-of y k.0 h.0) (rights ys h.1 k.1 d)

  runs-differ : (run new : List Node) (rest : List Visit) → IsRun x.depth run → AllNew number new → AreAt (suc x.depth) new
      → Differ n number (seen (filter (λ y. is_attribute y.content) run ++ new) ++ rest) (seen run ++ rest)
  runs-differ [] new rest h k l = lefts new k l (equal n number rest)
  runs-differ (y ∷ ys) new rest (inl h) k l = rw h.0 (both (runs-differ ys new rest h.2 k l))
  runs-differ (y ∷ ys) new rest (inr h) k l =
      rw (text-attributes x.depth y ys h.0 h.2)
      (lefts new k l (rights (y ∷ ys) (h.0, texts-all x.depth ys h.2) (h.1, texts-at x.depth ys h.2) (equal n number rest)))

  contents-differ : (texts xs : List Node) → AllNew number texts → IsRun x.depth (below x.depth xs)
      → Differ n number (visits_from (x ∷ stay) (with_content x.depth texts xs)) (visits_from (x ∷ stay) xs)
  contents-differ texts xs h run =
      let new = map (at_depth (suc x.depth)) texts in
      let zs = filter (λ (y : Node). is_attribute y.content) (below x.depth xs) in
      let deep = at-append (suc x.depth) zs new (run-attributes-at x.depth (below x.depth xs) run) (placed-at (suc x.depth) texts) in
      let one : visits_from (x ∷ stay) (with_content x.depth texts xs) ≡ seen (zs ++ new) ++ visits_from (x ∷ stay) (past x.depth xs)
      = run-visits x stay (zs ++ new) (past x.depth xs) deep (past-within x.depth xs) in
      let two : visits_from (x ∷ stay) xs ≡ seen (below x.depth xs) ++ visits_from (x ∷ stay) (past x.depth xs)
      = ap (visits_from (x ∷ stay)) (sym (below-then-past x.depth xs)) ∙ run-visits x stay (below x.depth xs) (past x.depth xs) (run-at x.depth (below x.depth xs) run) (past-within x.depth xs) in
      subst (λ l. Differ n number l (visits_from (x ∷ stay) xs)) (sym one)
      (subst (λ l. Differ n number (seen (zs ++ new) ++ visits_from (x ∷ stay) (past x.depth xs)) l) (sym two)
      (runs-differ (below x.depth xs) new (visits_from (x ∷ stay) (past x.depth xs)) run (placed-new number (suc x.depth) texts h) (placed-at (suc x.depth) texts)))

texts-differ : (n number : ℕ) (texts above nodes : List Node) → AllNew number texts → IsLeafAt n nodes → Differ n number (visits_from above (with_texts n texts nodes)) (visits_from above nodes)
texts-differ n number texts above [] h k = ended
texts-differ n number texts above (x ∷ xs) h k =
    elim (cases_Bool (x.number == n)) [
      | inl e ↦ rw e (both (contents-differ n number x (still_above x.depth above) e texts xs h (rw e at k).1))
      | inr e ↦ rw e (both (texts-differ n number texts (x ∷ still_above x.depth above) xs h (rw e at k)))
    ]

-- ---- a text set at an attribute

abbrev revalued : ℕ → List ℕ → Visit → Visit
revalued n text v = cond (v.number == n) (record v { content = with_value text v.content }) v

valued-number : (n : ℕ) (text : List ℕ) (x : Node) → (valued n text x).number ≡ x.number
valued-number n text x = elim (cases_Bool (x.number == n)) [ inl e ↦ rw e refl | inr e ↦ rw e refl ]

valued-depth : (n : ℕ) (text : List ℕ) → KeepsDepth (valued n text)
valued-depth n text x = elim (cases_Bool (x.number == n)) [ inl e ↦ rw e refl | inr e ↦ rw e refl ]

valued-numbers : (n : ℕ) (text : List ℕ) (d : ℕ) (above : List Node) → numbers (still_above d (map (valued n text) above)) ≡ numbers (still_above d above)
valued-numbers n text d above = ap numbers (still_above-map (valued n text) (valued-depth n text) d above) ∙ same (still_above d above)
  where
    same : (ys : List Node) → numbers (map (valued n text) ys) ≡ numbers ys
    same [] = refl
    same (y ∷ ys) = ap (λ m. m ∷ numbers (map (valued n text) ys)) (valued-number n text y) ∙ ap (λ l. y.number ∷ l) (same ys)

valued-follows : (n : ℕ) (text : List ℕ) → Follows (valued n text) (revalued n text)
valued-follows n text above x =
    ap (λ d. record { number = (valued n text x).number; above = numbers (still_above d (map (valued n text) above)); content = (valued n text x).content }) (valued-depth n text x)
    ∙ ap (λ l. record { number = (valued n text x).number; above = l; content = (valued n text x).content }) (valued-numbers n text x.depth above)
    ∙ by (x.number == n) refl
  where
    by : (b : Bool) → (x.number == n) ≡ b → record { number = (valued n text x).number; above = numbers (still_above x.depth above); content = (valued n text x).content } ≡ revalued n text (visit above x)
    by true e = rw e refl
    by false e = rw e refl

module _ (n : ℕ) (text : List ℕ) where
  value-erased : (c : Content) → without_text (with_value text c) ≡ without_text c
  value-erased Root = refl
  value-erased (Element name) = refl
  value-erased (Attribute name old) = refl
  value-erased (Text old) = refl

  text-same : (c : Content) → is_text (with_value text c) ≡ true → with_value text c ≡ c
  text-same Root h = refl
  text-same (Element name) h = refl
  text-same (Attribute name old) h = no h
  text-same (Text old) h = refl

  revalued-blanked : (v : Visit) → blanked n (revalued n text v) ≡ blanked n v
  revalued-blanked v = by (v.number == n) refl
    where
      by : (b : Bool) → (v.number == n) ≡ b → blanked n (cond b (record v { content = with_value text v.content }) v) ≡ cond b (erased v) v
      by true e = ap (λ b. cond b (erased (record v { content = with_value text v.content })) (record v { content = with_value text v.content })) e ∙ ap (λ c. record v { content = c }) (value-erased v.content)
      by false e = ap (λ b. cond b (erased v) v) e

  revalued-rest : (xs : List Visit) → map (blanked n) (map (revalued n text) xs) ≡ map (blanked n) xs
  revalued-rest [] = refl
  revalued-rest (x ∷ xs) = ap (λ v. v ∷ map (blanked n) (map (revalued n text) xs)) (revalued-blanked x) ∙ ap (λ l. blanked n x ∷ l) (revalued-rest xs)

  -- a text is as it was
  revalued-text : (v : Visit) → is_text (revalued n text v).content ≡ true → revalued n text v ≡ v
  revalued-text v = by (v.number == n)
    where
      by : (b : Bool) → is_text (cond b (record v { content = with_value text v.content }) v).content ≡ true → cond b (record v { content = with_value text v.content }) v ≡ v
      by true h = ap (λ c. record v { content = c }) (text-same v.content h)
      by false h = refl

  abbrev Stood : List Visit → Visit → Type 0
  Stood now y = is_text y.content ≡ true → found y.number now ≡ Some y

  revalued-stood : (now xs : List Visit) → Each (λ y. found y.number now ≡ Some y) xs → Each (Stood now) (map (revalued n text) xs)
  revalued-stood now [] e = tt
  revalued-stood now (x ∷ xs) e = (
    λ t. let one = revalued-text x t in ap (λ (v : Visit). found v.number now) one ∙ e.0 ∙ ap Some (sym one),
    revalued-stood now xs e.1,
  )

-- ---- the law

content-found : (n : ℕ) (above nodes : List Node) → option_map (λ (w : Visit). w.content) (found n (visits_from above nodes)) ≡ content_at n nodes
content-found n above [] = refl
content-found n above (x ∷ xs) = by (x.number == n) (content-found n (x ∷ still_above x.depth above) xs)
  where
    by : (b : Bool) → option_map (λ (w : Visit). w.content) (found n (visits_from (x ∷ still_above x.depth above) xs)) ≡ content_at n xs →
        option_map (λ (w : Visit). w.content) (cond b (Some (visit above x)) (found n (visits_from (x ∷ still_above x.depth above) xs))) ≡ option_map (λ (y : Node). y.content) (cond b (Some x) (node_at n xs))
    by true h = refl
    by false h = h

module _ (number n next : ℕ) (text : List ℕ) (forest : Forest) (before : List Visit) (trees : HasTrees forest) (trees_after : HasTrees (record { nodes = with_numbered_text number n text forest.nodes; next = next }))
    (able : IsSettable n forest) (unused : has number (numbers_of before) ≡ false) where
  abbrev now : List Visit
  now = visits forest.nodes

  abbrev after : List Visit
  after = visits (with_numbered_text number n text forest.nodes)

  solid : (x : Visit) × (found n now ≡ Some x) × (is_text x.content ≡ false)
  solid = by (found n now) refl (content-found n [] forest.nodes)
    where
      no-text : (c : Content) → (kind_of c ≡ kind.Attribute) ⊎ (kind_of c ≡ kind.Element) → is_text c ≡ false
      no-text Root h = refl
      no-text (Element name) h = refl
      no-text (Attribute name old) h = refl
      no-text (Text old) (inl h) = cc h
      no-text (Text old) (inr h) = cc h

      some-kind : (c : Content) (o : Option Content) → Some c ≡ o → (option_map kind_of o ≡ Some kind.Attribute) ⊎ (option_map kind_of o ≡ Some kind.Element) → (kind_of c ≡ kind.Attribute) ⊎ (kind_of c ≡ kind.Element)
      some-kind c o e (inl h) = inl (some-same (ap (option_map kind_of) e ∙ h))
      some-kind c o e (inr h) = inr (some-same (ap (option_map kind_of) e ∙ h))

      nothing : (o : Option Content) → None ≡ o → (option_map kind_of o ≡ Some kind.Attribute) ⊎ (option_map kind_of o ≡ Some kind.Element) → (x : Visit) × (found n now ≡ Some x) × (is_text x.content ≡ false)
      nothing o e (inl h) = none-some (ap (option_map kind_of) e ∙ h)
      nothing o e (inr h) = none-some (ap (option_map kind_of) e ∙ h)

      by : (m : Option Visit) → found n now ≡ m → option_map (λ (w : Visit). w.content) m ≡ content_at n forest.nodes → (x : Visit) × (found n now ≡ Some x) × (is_text x.content ≡ false)
      by None e i = nothing (content_at n forest.nodes) i able.kind
      by (Some x) e i = (x, e, no-text x.content (some-kind x.content (content_at n forest.nodes) i able.kind))

  apart : are_apart (numbers_of now) ≡ true
  apart = visits-different forest trees

  parts : (without_text_of n after ≡ without_text_of n now) × ((k : ℕ) (y : Visit) → found k after ≡ Some y → is_text y.content ≡ true → is_first n y.above ≡ true → (has k (numbers_of before) ≡ false) ⊎ (found k now ≡ Some y))
  parts = by (has_text n forest trees able)
    where
      from-attribute : after ≡ map (revalued n text) now → (without_text_of n after ≡ without_text_of n now) × ((k : ℕ) (y : Visit) → found k after ≡ Some y → is_text y.content ≡ true → is_first n y.above ≡ true → (has k (numbers_of before) ≡ false) ⊎ (found k now ≡ Some y))
      from-attribute is = (
        ap (without_text_of n) is ∙ ap (filter (λ y. not (is_text y.content && is_first n y.above))) (revalued-rest n text now),
        λ k y e t f. inr (ap (λ m. found m now) (sym (named k after y e)) ∙ each-found (Stood n text now) k after y (subst (Each (Stood n text now)) (sym is) (revalued-stood n text now now (self-found now apart))) e t),
      )
        where
          named : (k : ℕ) (all : List Visit) (y : Visit) → found k all ≡ Some y → y.number ≡ k
          named k [] y e = none-some e
          named k (z ∷ zs) y e = of (z.number == k) refl e (named k zs y)
            where
              of : (b : Bool) → (z.number == k) ≡ b → cond b (Some z) (found k zs) ≡ Some y → (found k zs ≡ Some y → y.number ≡ k) → y.number ≡ k
              of true i j later = ap (λ (v : Visit). v.number) (sym (some-same j)) ∙ eqb-true z.number k i
              of false i j later = later j

      from-texts : Differ n number after now → (without_text_of n after ≡ without_text_of n now) × ((k : ℕ) (y : Visit) → found k after ≡ Some y → is_text y.content ≡ true → is_first n y.above ≡ true → (has k (numbers_of before) ≡ false) ⊎ (found k now ≡ Some y))
      from-texts d = (
        differ-rest n number d,
        λ k y e t f. elim (each-found (Comes n number now) k after y (differ-comes n number now d (self-found now apart)) e) [
          | inl is ↦ inl (ap (λ m. has m (numbers_of before)) (sym (named k after y e) ∙ is) ∙ unused)
          | inr stood ↦ inr (ap (λ m. found m now) (sym (named k after y e)) ∙ stood)
        ],
      )
        where
          named : (k : ℕ) (all : List Visit) (y : Visit) → found k all ≡ Some y → y.number ≡ k
          named k [] y e = none-some e
          named k (z ∷ zs) y e = of (z.number == k) refl e (named k zs y)
            where
              of : (b : Bool) → (z.number == k) ≡ b → cond b (Some z) (found k zs) ≡ Some y → (found k zs ≡ Some y → y.number ≡ k) → y.number ≡ k
              of true i j later = ap (λ (v : Visit). v.number) (sym (some-same j)) ∙ eqb-true z.number k i
              of false i j later = later j

      by : HasText n forest.nodes → (without_text_of n after ≡ without_text_of n now) × ((k : ℕ) (y : Visit) → found k after ≡ Some y → is_text y.content ≡ true → is_first n y.above ≡ true → (has k (numbers_of before) ≡ false) ⊎ (found k now ≡ Some y))
      by (inl h) = from-attribute (ap (λ c. visits (cond c (with_attribute_text n text forest.nodes) (with_texts n (one_text number text) forest.nodes))) h
          ∙ visits-map (valued n text) (revalued n text) (valued-depth n text) (valued-follows n text) [] forest.nodes)
      by (inr h) = from-texts (subst (λ xs. Differ n number xs now) (sym (ap (λ c. visits (cond c (with_attribute_text n text forest.nodes) (with_texts n (one_text number text) forest.nodes))) h.0))
          (texts-differ n number (one_text number text) [] forest.nodes (one_text-all number text) h.1))

  retexted : IsRetexted n now after before
  retexted = record {
    apart = apart;
    apart_after = visits-different (record { nodes = with_numbered_text number n text forest.nodes; next = next }) trees_after;
    rest = parts.0;
    solid = solid;
    childless = able.childless;
    fresh = parts.1;
  }

pub text_set : TextSet
text_set texts lists more number n next text forest before marks trees trees_after able apart unused same =
    text_marked_law texts lists more n (visits forest.nodes) (visits (with_numbered_text number n text forest.nodes)) before marks (retexted number n next text forest before trees trees_after able unused) apart same

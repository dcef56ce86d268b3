-- The printed path of a node names one node of an instance.
use Rattle.std.proofs.Common.{◌≡◌, ℕ, suc, ◌+◌, ◌<◌, ◌≤◌, ◌^◌, ◌==◌, Bool, true, false, not, cond, ◌&&◌, ◌||◌, List, [], ◌∷◌, ◌++◌, map, reverse, length, nat_lt, codes, decimal, Option, Some, None, option_map, refl, sym, ap, ◌∙◌, arith}
use Rattle.std.specs.Prelude.{filter}
use Rattle.std.specs.List.{list_any, list_all, flat_map}
use Rattle.std.specs.Str.{bytes_eq}
use Rattle.std.proofs.lemmas.Bool.Decides.{nat_tests}
use Rattle.std.proofs.lemmas.Fmt.{decimal_injective}
use Rattle.std.proofs.lemmas.List.{reverse-append}
use Rattle.std.proofs.lemmas.Grind.{flat_map-append}
use Rattle.xf_def_forest.specs.declared.content.Node.{Node}
use Rattle.xf_def_forest.specs.declared.content.Name.{Name}
use Rattle.xf_def_forest.specs.declared.content.Content.{Content}
use Rattle.xf_def_forest.specs.declared.content.Content.TheVariants as content
use Rattle.xf_def_forest.specs.Forest.{Forest, is_root, is_element, is_attribute, is_text, name_in, written, written_in, node_at, content_at}
use Rattle.xf_def_forest.specs.Visit.{Visit, still_above, visit, visits_from, visits, has, is_first, same_parent, above_in, ancestors_of, last_of}
use Rattle.xf_def_forest.specs.Axis.{before}
use Rattle.xf_def_forest.specs.Path.{is_namesake, is_text_beside, bracketed, index_if, step_by, step_in, step_of, or_slash}
use Rattle.xf_def_forest.specs.Shape.{erased}
use Rattle.xf_def_forest.proofs.BackLaws.{and-true, not-true}
use Rattle.xf_def_forest.proofs.OrderLaws.{seen-has}
use Rattle.xf_def_xpath.specs.Asked.{found}
use Rattle.xf_def_xpath.specs.Agree.{untexted, AreVisits}
use Rattle.xf_def_xpath.proofs.VisitFacts.{self-same, or-left, no, some-same, none-some, found-number}
use Rattle.xf_def_xpath.proofs.UntextedLaws.{solid-found}
use Rattle.xf_def_xpath.proofs.ForestVisits.{Each, each-found, found-erased, forest-visits}
use Rattle.xf_law_recalculation.proofs.AgreeLemmas.HeldShape.{IsTop, tops-from, original}
use Rattle.xf_law_sessions.specs.Path.Paths.{is_path_byte, is_free, is_named, ArePathed, PathNamesOne}
use Rattle.xf_law_sessions.proofs.PathLemmas.Found.{has-append, none-does, standing-at, opened}
use Rattle.xf_law_sessions.proofs.PathLemmas.PathBytes.{last-same, Begins, front-same, not-empty, one-more, decimal-no, alone, same-place, before-fewer}

-- ---- bytes of names

free-no : (c : ℕ) (name : List ℕ) → is_path_byte c ≡ true → is_free name ≡ true → has c name ≡ false
free-no c name h i = by (has c name) refl
  where
    by : (b : Bool) → has c name ≡ b → b ≡ false
    by true e = sym h ∙ none-does is_path_byte c name (not-true (list_any is_path_byte name) i) e
    by false e = refl

append-no : (c : ℕ) (us vs : List ℕ) → has c us ≡ false → has c vs ≡ false → has c (us ++ vs) ≡ false
append-no c us vs h i = has-append c us vs ∙ ap (λ b. b || has c vs) h ∙ i

bytes-same : (us : List ℕ) → bytes_eq us us ≡ true
bytes-same [] = refl
bytes-same (u ∷ us) = ap (λ b. b && bytes_eq us us) (self-same u) ∙ bytes-same us

bracketed-no : (c k : ℕ) → c < 48 → 0 < k → k < 2 ^ 64 → has c (bracketed k) ≡ false
bracketed-no c k h i j = ap (λ b. b || has c (decimal k ++ 93 ∷ [])) (differ 43) ∙ append-no c (decimal k) (93 ∷ []) (decimal-no c k h i j) (ap (λ b. b || false) (differ 45))
  where
    differ : (n : ℕ) → (c == (48 + n)) ≡ false
    differ n = grind (arith, nat_tests, h)

bracketed-same : (j k : ℕ) → j < 2 ^ 64 → k < 2 ^ 64 → bracketed j ≡ bracketed k → j ≡ k
bracketed-same j k h i e = decimal_injective j k h i (one-more (decimal j) (decimal k) 93 (tail e))
  where
    tail : bracketed j ≡ bracketed k → decimal j ++ 93 ∷ [] ≡ decimal k ++ 93 ∷ []
    tail f = cc f

visits-length : (above nodes : List Node) → length (visits_from above nodes) ≡ length nodes
visits-length above [] = refl
visits-length above (x ∷ xs) = (let rest = visits-length (x ∷ still_above x.depth above) xs in omega (arith, rest))

each-named : (above nodes : List Node) → list_all (λ x. is_named x.content) nodes ≡ true → Each (λ v. is_named v.content ≡ true) (visits_from above nodes)
each-named above [] h = tt
each-named above (x ∷ xs) h = let parts = and-true (is_named x.content) (list_all (λ y. is_named y.content) xs) h in (parts.0, each-named (x ∷ still_above x.depth above) xs parts.1)

module _ (forest : Forest) (pathed : ArePathed forest) where
  abbrev V : List Visit
  V = visits forest.nodes

  v : AreVisits (map erased V)
  v = forest-visits forest pathed.trees

  few : length V < 2 ^ 64
  few = (let one = visits-length [] forest.nodes in let two = pathed.few in omega (arith, one, two))

  -- a parent stands above its node
  parent : (n p : ℕ) (ps : List ℕ) (x : Visit) → found n V ≡ Some x → x.above ≡ p ∷ ps → (z : Visit) × (found p V ≡ Some z) × (z.above ≡ ps)
  parent n p ps x e a =
      let z = opened (found p (untexted (map erased V))) ps (v.closed n p ps (erased x) (found-erased n V ∙ ap (option_map erased) e) a) in
      let w = original p V z.0 (solid-found (map erased V) v p z.0 z.1).0 in
      (w.0, w.1, ap (λ (q : Visit). q.above) w.2 ∙ z.2)

  named : (n : ℕ) (x : Visit) → found n V ≡ Some x → is_named x.content ≡ true
  named n x e = each-found (λ (y : Visit). is_named y.content ≡ true) n V x (each-named [] forest.nodes pathed.named) e

  top : (n : ℕ) (x : Visit) → found n V ≡ Some x → IsTop x
  top n x e = each-found IsTop n V x (tops-from [] forest.nodes pathed.trees.tops) e

  -- ---- one step

  abbrev rest_of : Content → Visit → List ℕ
  rest_of content.Root x = []
  rest_of (content.Element name) x = written name ++ index_if (filter (is_namesake (written name) x) V) (filter (is_namesake (written name) x) (before x.number V))
  rest_of (content.Attribute name text) x = 64 ∷ written name
  rest_of (content.Text text) x = codes "text()" ++ bracketed (suc (length (filter (is_text_beside x) (before x.number V))))

  place-few : (p : Visit → Bool) (n : ℕ) (x : Visit) → found n V ≡ Some x → suc (length (filter p (before x.number V))) < 2 ^ 64
  place-few p n x e = (let one = before-fewer p x.number V x (ap (λ k. found k V) (found-number n V x e) ∙ e) in let two = few in omega (arith, one, two))

  index-no : (c : ℕ) (xs ys : List Visit) → c < 48 → suc (length ys) < 2 ^ 64 → has c (index_if xs ys) ≡ false
  index-no c xs ys h i = by (nat_lt 1 (length xs))
    where
      by : (b : Bool) → has c (cond b (bracketed (suc (length ys))) []) ≡ false
      by true = bracketed-no c (suc (length ys)) h (omega arith) i
      by false = refl

  rest-no : (n : ℕ) (x : Visit) → found n V ≡ Some x → has 47 (rest_of x.content x) ≡ false
  rest-no n x e = by x.content refl
    where
      by : (c : Content) → x.content ≡ c → has 47 (rest_of c x) ≡ false
      by content.Root i = refl
      by (content.Element name) i =
          let ok = and-true (not (length (written name) == 0)) (is_free (written name)) (ap is_named (sym i) ∙ named n x e) in
          append-no 47 (written name) (index_if (filter (is_namesake (written name) x) V) (filter (is_namesake (written name) x) (before x.number V))) (free-no 47 (written name) refl ok.1)
          (index-no 47 (filter (is_namesake (written name) x) V) (filter (is_namesake (written name) x) (before x.number V)) (omega arith) (place-few (is_namesake (written name) x) n x e))
      by (content.Attribute name text) i = free-no 47 (written name) refl (ap is_named (sym i) ∙ named n x e)
      by (content.Text text) i = append-no 47 (codes "text()") (bracketed (suc (length (filter (is_text_beside x) (before x.number V))))) refl
          (bracketed-no 47 (suc (length (filter (is_text_beside x) (before x.number V)))) (omega arith) (omega arith) (place-few (is_text_beside x) n x e))

  -- that of a node below another
  step-is : (n p : ℕ) (ps : List ℕ) (x : Visit) → found n V ≡ Some x → x.above ≡ p ∷ ps → step_of V n ≡ 47 ∷ rest_of x.content x
  step-is n p ps x e a = ap (step_in V) e ∙ by x.content refl
    where
      by : (c : Content) → x.content ≡ c → step_by c V x ≡ 47 ∷ rest_of c x
      by content.Root i = cc (sym a ∙ top n x e (ap is_root i))
      by (content.Element name) i = refl
      by (content.Attribute name text) i = refl
      by (content.Text text) i = refl

  -- ---- siblings with one step

  module _ (m n p : ℕ) (ps qs : List ℕ) (x y : Visit) (at_m : found m V ≡ Some x) (at_n : found n V ≡ Some y) (above_x : x.above ≡ p ∷ ps) (above_y : y.above ≡ p ∷ qs) where
    x-number : x.number ≡ m
    x-number = found-number m V x at_m

    y-number : y.number ≡ n
    y-number = found-number n V y at_n

    abbrev alike : List ℕ → Visit → Bool
    alike name z = is_first p z.above && is_element z.content && bytes_eq name (written_in (name_in z.content))

    abbrev text_in : Visit → Bool
    text_in z = is_first p z.above && is_text z.content

    of-x : (name : List ℕ) (zs : List Visit) → filter (is_namesake name x) zs ≡ filter (alike name) zs
    of-x name zs = ap (λ above. filter (λ z. same_parent above z.above && is_element z.content && bytes_eq name (written_in (name_in z.content))) zs) above_x

    of-y : (name : List ℕ) (zs : List Visit) → filter (is_namesake name y) zs ≡ filter (alike name) zs
    of-y name zs = ap (λ above. filter (λ z. same_parent above z.above && is_element z.content && bytes_eq name (written_in (name_in z.content))) zs) above_y

    texts-x : (zs : List Visit) → filter (is_text_beside x) zs ≡ filter text_in zs
    texts-x zs = ap (λ above. filter (λ z. same_parent above z.above && is_text z.content) zs) above_x

    texts-y : (zs : List Visit) → filter (is_text_beside y) zs ≡ filter text_in zs
    texts-y zs = ap (λ above. filter (λ z. same_parent above z.above && is_text z.content) zs) above_y

    first-x : is_first p x.above ≡ true
    first-x = ap (is_first p) above_x ∙ self-same p

    first-y : is_first p y.above ≡ true
    first-y = ap (is_first p) above_y ∙ self-same p

    abbrev index : List ℕ → ℕ → List ℕ
    index name k = index_if (filter (alike name) V) (filter (alike name) (before k V))

    index-begins : (name : List ℕ) (k : ℕ) → Begins 91 (index name k)
    index-begins name k = by (nat_lt 1 (length (filter (alike name) V)))
      where
        by : (b : Bool) → Begins 91 (cond b (bracketed (suc (length (filter (alike name) (before k V))))) [])
        by true = refl
        by false = tt

    elements-same : (name : List ℕ) → alike name x ≡ true → alike name y ≡ true → index name m ≡ index name n → m ≡ n
    elements-same name i j e = by (nat_lt 1 (length (filter (alike name) V))) refl e
      where
        few_m : suc (length (filter (alike name) (before m V))) < 2 ^ 64
        few_m = (let one = before-fewer (alike name) m V x at_m in let two = few in omega (arith, one, two))

        few_n : suc (length (filter (alike name) (before n V))) < 2 ^ 64
        few_n = (let one = before-fewer (alike name) n V y at_n in let two = few in omega (arith, one, two))

        less : (j k : ℕ) → suc j ≡ suc k → j ≡ k
        less j k h = omega (arith, h)

        single : (k : ℕ) → nat_lt 1 k ≡ false → k ≤ 1
        single k h = grind (arith, nat_tests, h)

        by : (b : Bool) → nat_lt 1 (length (filter (alike name) V)) ≡ b →
            cond b (bracketed (suc (length (filter (alike name) (before m V))))) [] ≡ cond b (bracketed (suc (length (filter (alike name) (before n V))))) [] → m ≡ n
        by true f g = same-place (alike name) m n V x y at_m at_n i j (less _ _ (bracketed-same (suc (length (filter (alike name) (before m V)))) (suc (length (filter (alike name) (before n V)))) few_m few_n g))
        by false f g = alone (alike name) m n V x y at_m at_n i j (single (length (filter (alike name) V)) f)

    texts-same : text_in x ≡ true → text_in y ≡ true → bracketed (suc (length (filter text_in (before m V)))) ≡ bracketed (suc (length (filter text_in (before n V)))) → m ≡ n
    texts-same i j e = same-place text_in m n V x y at_m at_n i j (less _ _ (bracketed-same (suc (length (filter text_in (before m V)))) (suc (length (filter text_in (before n V)))) few_m few_n e))
      where
        few_m : suc (length (filter text_in (before m V))) < 2 ^ 64
        few_m = (let one = before-fewer text_in m V x at_m in let two = few in omega (arith, one, two))

        few_n : suc (length (filter text_in (before n V))) < 2 ^ 64
        few_n = (let one = before-fewer text_in n V y at_n in let two = few in omega (arith, one, two))

        less : (j k : ℕ) → suc j ≡ suc k → j ≡ k
        less j k h = omega (arith, h)

    -- what stands for the steps
    element-x : (name : Name) → rest_of (content.Element name) x ≡ written name ++ index (written name) m
    element-x name =
        ap (λ zs. written name ++ index_if zs (filter (is_namesake (written name) x) (before x.number V))) (of-x (written name) V)
        ∙ ap (λ zs. written name ++ index_if (filter (alike (written name)) V) zs) (of-x (written name) (before x.number V) ∙ ap (λ k. filter (alike (written name)) (before k V)) x-number)

    element-y : (name : Name) → rest_of (content.Element name) y ≡ written name ++ index (written name) n
    element-y name =
        ap (λ zs. written name ++ index_if zs (filter (is_namesake (written name) y) (before y.number V))) (of-y (written name) V)
        ∙ ap (λ zs. written name ++ index_if (filter (alike (written name)) V) zs) (of-y (written name) (before y.number V) ∙ ap (λ k. filter (alike (written name)) (before k V)) y-number)

    text-x : (text : List ℕ) → rest_of (content.Text text) x ≡ codes "text()" ++ bracketed (suc (length (filter text_in (before m V))))
    text-x text = ap (λ zs. codes "text()" ++ bracketed (suc (length zs))) (texts-x (before x.number V) ∙ ap (λ k. filter text_in (before k V)) x-number)

    text-y : (text : List ℕ) → rest_of (content.Text text) y ≡ codes "text()" ++ bracketed (suc (length (filter text_in (before n V))))
    text-y text = ap (λ zs. codes "text()" ++ bracketed (suc (length zs))) (texts-y (before y.number V) ∙ ap (λ k. filter text_in (before k V)) y-number)

    ok-x : (name : Name) → x.content ≡ content.Element name → (not (length (written name) == 0) ≡ true) × (is_free (written name) ≡ true)
    ok-x name i = and-true (not (length (written name) == 0)) (is_free (written name)) (ap is_named (sym i) ∙ named m x at_m)

    ok-y : (name : Name) → y.content ≡ content.Element name → (not (length (written name) == 0) ≡ true) × (is_free (written name) ≡ true)
    ok-y name i = and-true (not (length (written name) == 0)) (is_free (written name)) (ap is_named (sym i) ∙ named n y at_n)

    index-small : (name : List ℕ) (k : ℕ) (z : Visit) → found k V ≡ Some z → has 40 (index name k) ≡ false
    index-small name k z e = index-no 40 (filter (alike name) V) (filter (alike name) (before k V)) (omega arith) (let one = before-fewer (alike name) k V z e in let two = few in omega (arith, one, two))

    -- a name with its index is no other step
    no-attribute : (name us vs : List ℕ) → not (length name == 0) ≡ true → is_free name ≡ true → name ++ us ≡ 64 ∷ vs → false ≡ true
    no-attribute [] us vs h k e = h
    no-attribute (c ∷ cs) us vs h k e = sym (free-no 64 (c ∷ cs) refl k) ∙ or-left (64 == c) (has 64 cs) (ap (λ d. 64 == d) (first e))
      where
        first : c ∷ cs ++ us ≡ 64 ∷ vs → c ≡ 64
        first f = cc f

    no-text : (name us vs : List ℕ) → is_free name ≡ true → has 40 us ≡ false → name ++ us ≡ codes "text()" ++ vs → false ≡ true
    no-text name us vs h k e = sym (append-no 40 name us (free-no 40 name refl h) k) ∙ ap (has 40) e ∙ has-append 40 (codes "text()") vs

    same-content : (c d : Content) → x.content ≡ c → y.content ≡ d → rest_of c x ≡ rest_of d y → m ≡ n
    same-content content.Root d i j e = cc (sym above_x ∙ top m x at_m (ap is_root i))
    same-content (content.Element a) content.Root i j e = cc (sym above_y ∙ top n y at_n (ap is_root j))
    same-content (content.Attribute a u) content.Root i j e = cc (sym above_y ∙ top n y at_n (ap is_root j))
    same-content (content.Text t) content.Root i j e = cc (sym above_y ∙ top n y at_n (ap is_root j))
    same-content (content.Element a) (content.Element b) i j e =
        let one = front-same 91 (written a) (written b) (index (written a) m) (index (written b) n) (free-no 91 (written a) refl (ok-x a i).1) (free-no 91 (written b) refl (ok-y b j).1) (index-begins (written a) m) (index-begins (written b) n)
        (sym (element-x a) ∙ e ∙ element-y b) in
        elements-same (written a)
        (ap (λ f. f && is_element x.content && bytes_eq (written a) (written_in (name_in x.content))) first-x ∙ ap (λ c. is_element c && bytes_eq (written a) (written_in (name_in c))) i ∙ bytes-same (written a))
        (ap (λ f. f && is_element y.content && bytes_eq (written a) (written_in (name_in y.content))) first-y ∙ ap (λ c. is_element c && bytes_eq (written a) (written_in (name_in c))) j ∙ ap (bytes_eq (written a)) (sym one.0) ∙ bytes-same (written a))
        (one.1 ∙ ap (λ name. index name n) (sym one.0))
    same-content (content.Element a) (content.Attribute b u) i j e = no (no-attribute (written a) (index (written a) m) (written b) (ok-x a i).0 (ok-x a i).1 (sym (element-x a) ∙ e))
    same-content (content.Element a) (content.Text t) i j e = no (no-text (written a) (index (written a) m) _ (ok-x a i).1 (index-small (written a) m x at_m) (sym (element-x a) ∙ e ∙ text-y t))
    same-content (content.Attribute a u) (content.Element b) i j e = no (no-attribute (written b) (index (written b) n) (written a) (ok-y b j).0 (ok-y b j).1 (sym (element-y b) ∙ sym e))
    same-content (content.Attribute a u) (content.Attribute b w) i j e =
        pathed.attributes m n x y at_m at_n (ap is_attribute i) (ap is_attribute j) (ap (λ l. same_parent l y.above) above_x ∙ first-y) (ap (λ c. written_in (name_in c)) i ∙ tail e ∙ sym (ap (λ c. written_in (name_in c)) j))
      where
        tail : 64 ∷ written a ≡ 64 ∷ written b → written a ≡ written b
        tail f = cc f
    same-content (content.Attribute a u) (content.Text t) i j e = no (sym (ap (is_first 64) (e ∙ text-y t)))
    same-content (content.Text t) (content.Element b) i j e = no (no-text (written b) (index (written b) n) _ (ok-y b j).1 (index-small (written b) n y at_n) (sym (element-y b) ∙ sym e ∙ text-x t))
    same-content (content.Text t) (content.Attribute b w) i j e = no (ap (is_first 64) (sym (text-x t) ∙ e))
    same-content (content.Text t) (content.Text u) i j e =
        texts-same (ap (λ f. f && is_text x.content) first-x ∙ ap is_text i) (ap (λ f. f && is_text y.content) first-y ∙ ap is_text j)
        (behind (codes "text()") _ _ (sym (text-x t) ∙ e ∙ text-y u))
      where
        behind : (us vs ws : List ℕ) → us ++ vs ≡ us ++ ws → vs ≡ ws
        behind [] vs ws f = f
        behind (z ∷ us) vs ws f = behind us vs ws (cc f)

    siblings-same : rest_of x.content x ≡ rest_of y.content y → m ≡ n
    siblings-same e = same-content x.content y.content refl refl e

  -- ---- from the top down

  abbrev along : List ℕ → List ℕ
  along ns = flat_map (step_of V) (reverse ns)

  along-more : (n : ℕ) (ns : List ℕ) → along (n ∷ ns) ≡ along ns ++ step_of V n
  along-more n ns = ap (flat_map (step_of V)) (reverse-append (n ∷ []) ns) ∙ flat_map-append (step_of V) (reverse ns) (n ∷ []) ∙ ap (λ l. along ns ++ l) (none (step_of V n))
    where
      none : (l : List ℕ) → l ++ [] ≡ l
      none [] = refl
      none (c ∷ cs) = ap (λ k. c ∷ k) (none cs)

  below : (n p : ℕ) (ps : List ℕ) (x : Visit) → found n V ≡ Some x → x.above ≡ p ∷ ps → along (n ∷ x.above) ≡ along (p ∷ ps) ++ 47 ∷ rest_of x.content x
  below n p ps x e a = along-more n x.above ∙ ap (λ l. along l ++ step_of V n) a ∙ ap (λ l. along (p ∷ ps) ++ l) (step-is n p ps x e a)

  module _ (root : ℕ) (r : Visit) (at_root : found root V ≡ Some r) (is : r.content ≡ content.Root) where
    root-along : along (root ∷ []) ≡ []
    root-along = along-more root [] ∙ ap (step_in V) at_root ∙ ap (λ c. step_by c V r) is

    same-along : (above : List ℕ) (m n : ℕ) (x y : Visit) → found m V ≡ Some x → found n V ≡ Some y → x.above ≡ above → last_of m x.above ≡ root → last_of n y.above ≡ root → along (m ∷ x.above) ≡ along (n ∷ y.above) → m ≡ n
    same-along [] m n x y e i a t u h = by y.above refl
      where
        m-root : m ≡ root
        m-root = sym (ap (last_of m) a) ∙ t

        m-along : along (m ∷ x.above) ≡ []
        m-along = ap (λ l. along (m ∷ l)) a ∙ ap (λ k. along (k ∷ [])) m-root ∙ root-along

        by : (ns : List ℕ) → y.above ≡ ns → m ≡ n
        by [] j = m-root ∙ sym (sym (ap (last_of n) j) ∙ u)
        by (q ∷ qs) j = no (not-empty 47 (along (q ∷ qs)) (rest_of y.content y) (sym (below n q qs y i j) ∙ sym h ∙ m-along))
    same-along (p ∷ ps) m n x y e i a t u h = by y.above refl (same-along ps p)
      where
        by : (ns : List ℕ) → y.above ≡ ns → ((k : ℕ) (z w : Visit) → found p V ≡ Some z → found k V ≡ Some w → z.above ≡ ps → last_of p z.above ≡ root → last_of k w.above ≡ root → along (p ∷ z.above) ≡ along (k ∷ w.above) → p ≡ k) → m ≡ n
        by [] j up =
            let n-root : n ≡ root = sym (ap (last_of n) j) ∙ u in
            no (not-empty 47 (along (p ∷ ps)) (rest_of x.content x) (sym (below m p ps x e a) ∙ h ∙ ap (λ l. along (n ∷ l)) j ∙ ap (λ k. along (k ∷ [])) n-root ∙ root-along))
        by (q ∷ qs) j up =
            let one = last-same 47 (along (p ∷ ps)) (along (q ∷ qs)) (rest_of x.content x) (rest_of y.content y) (rest-no m x e) (rest-no n y i) (sym (below m p ps x e a) ∙ h ∙ below n q qs y i j) in
            let z = parent m p ps x e a in
            let w = parent n q qs y i j in
            let same : p ≡ q = up q z.0 w.0 z.1 w.1 z.2 (ap (last_of p) z.2 ∙ sym (ap (last_of m) a) ∙ t) (ap (last_of q) w.2 ∙ sym (ap (last_of n) j) ∙ u)
            (ap (λ l. along (p ∷ l)) z.2 ∙ one.0 ∙ sym (ap (λ l. along (q ∷ l)) w.2)) in
            siblings-same m n p ps qs x y e i a (j ∙ ap (λ k. k ∷ qs) (sym same)) one.1

    -- `/` is the path of the root alone
    rest-filled : (n : ℕ) (x : Visit) → found n V ≡ Some x → (p : ℕ) (ps : List ℕ) → x.above ≡ p ∷ ps → rest_of x.content x ≡ [] → false ≡ true
    rest-filled n x e p ps a h = by x.content refl h
      where
        filled : (name us : List ℕ) → not (length name == 0) ≡ true → name ++ us ≡ [] → false ≡ true
        filled [] us k f = k
        filled (c ∷ cs) us k f = cc f

        by : (c : Content) → x.content ≡ c → rest_of c x ≡ [] → false ≡ true
        by content.Root i f = cc (sym a ∙ top n x e (ap is_root i))
        by (content.Element name) i f = filled (written name) (index_if (filter (is_namesake (written name) x) V) (filter (is_namesake (written name) x) (before x.number V))) (and-true (not (length (written name) == 0)) (is_free (written name)) (ap is_named (sym i) ∙ named n x e)).0 f
        by (content.Attribute name text) i f = cc f
        by (content.Text text) i f = cc f

    not-slash : (n : ℕ) (x : Visit) → found n V ≡ Some x → last_of n x.above ≡ root → along (n ∷ x.above) ≡ 47 ∷ [] → false ≡ true
    not-slash n x e t h = by x.above refl
      where
        by : (ns : List ℕ) → x.above ≡ ns → false ≡ true
        by [] a = cc (sym root-along ∙ ap (λ k. along (k ∷ [])) (sym t ∙ ap (last_of n) a) ∙ sym (ap (λ l. along (n ∷ l)) a) ∙ h)
        by (p ∷ ps) a = rest-filled n x e p ps a (last-same 47 (along (p ∷ ps)) [] (rest_of x.content x) [] (rest-no n x e) refl (sym (below n p ps x e a) ∙ h)).1

    unslashed : (us vs : List ℕ) → (us ≡ 47 ∷ [] → false ≡ true) → (vs ≡ 47 ∷ [] → false ≡ true) → or_slash us ≡ or_slash vs → us ≡ vs
    unslashed [] [] h k e = refl
    unslashed [] (c ∷ cs) h k e = no (k (sym e))
    unslashed (c ∷ cs) [] h k e = no (h e)
    unslashed (c ∷ cs) (d ∷ ds) h k e = e

-- ---- by the nodes of the forest

content-found : (n : ℕ) (above nodes : List Node) → option_map (λ (w : Visit). w.content) (found n (visits_from above nodes)) ≡ content_at n nodes
content-found n above [] = refl
content-found n above (x ∷ xs) = by (x.number == n) (content-found n (x ∷ still_above x.depth above) xs)
  where
    by : (b : Bool) → option_map (λ (w : Visit). w.content) (found n (visits_from (x ∷ still_above x.depth above) xs)) ≡ content_at n xs →
        option_map (λ (w : Visit). w.content) (cond b (Some (visit above x)) (found n (visits_from (x ∷ still_above x.depth above) xs))) ≡ option_map (λ (y : Node). y.content) (cond b (Some x) (node_at n xs))
    by true h = refl
    by false h = h

with-content : (m : Option Visit) (c : Content) → option_map (λ (w : Visit). w.content) m ≡ Some c → (x : Visit) × (m ≡ Some x) × (x.content ≡ c)
with-content None c h = none-some h
with-content (Some x) c h = (x, refl, some-same h)

pub path_names_one : PathNamesOne
path_names_one forest root m n pathed is live_m live_n top_m top_n e =
    let r = with-content (found root (visits forest.nodes)) content.Root (content-found root [] forest.nodes ∙ is) in
    let x = standing-at m (visits forest.nodes) (seen-has m [] forest.nodes ∙ live_m) in
    let y = standing-at n (visits forest.nodes) (seen-has n [] forest.nodes ∙ live_n) in
    let up_x : ancestors_of m (visits forest.nodes) ≡ x.0.above = ap above_in x.1 in
    let up_y : ancestors_of n (visits forest.nodes) ≡ y.0.above = ap above_in y.1 in
    let last_x : last_of m x.0.above ≡ root = sym (ap (last_of m) up_x) ∙ top_m in
    let last_y : last_of n y.0.above ≡ root = sym (ap (last_of n) up_y) ∙ top_n in
    same-along forest pathed root r.0 r.1 r.2 x.0.above m n x.0 y.0 x.1 y.1 refl last_x last_y
    (unslashed forest pathed root r.0 r.1 r.2 (along forest pathed (m ∷ x.0.above)) (along forest pathed (n ∷ y.0.above))
    (not-slash forest pathed root r.0 r.1 r.2 m x.0 x.1 last_x) (not-slash forest pathed root r.0 r.1 r.2 n y.0 y.1 last_y)
    (sym (ap (λ l. or_slash (along forest pathed (m ∷ l))) up_x) ∙ e ∙ ap (λ l. or_slash (along forest pathed (n ∷ l))) up_y))

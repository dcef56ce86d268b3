-- The path of a node by that of its parent.
use Rattle.std.proofs.Common.{◌≡◌, ℕ, ◌==◌, Bool, true, false, cond, not, ◌&&◌, ◌||◌, List, [], ◌∷◌, ◌++◌, map, nat_lt, reverse, codes, Option, Some, None, option_map, refl, sym, ap, ◌∙◌, append-nil, arith}
use Rattle.std.specs.List.{flat_map, list_all, list_any}
use Rattle.std.proofs.lemmas.List.{reverse-append}
use Rattle.std.proofs.lemmas.List.Concat.{flat_map-append}
use Rattle.std.proofs.lemmas.Bool.Decides.{nat_tests}
use Rattle.xf_def_forest.specs.declared.content.Node.{Node}
use Rattle.xf_def_forest.specs.declared.content.Name.{Name}
use Rattle.xf_def_forest.specs.declared.content.Content.{Content}
use Rattle.xf_def_forest.specs.declared.content.Content.TheVariants.{Root, Element, Attribute, Text}
use Rattle.std.proofs.lemmas.Bool.{eqb-true}
use Rattle.xf_def_forest.specs.Forest.{Forest, is_root, is_element, is_attribute, is_text, has_number, node_at, content_at, written}
use Rattle.xf_def_forest.specs.Visit.{Visit, is_first, visit, visits, visits_from, still_above, numbers, first_of, above_in, ancestors_of, parent_of}
use Rattle.xf_def_forest.specs.Path.{step_of, step_in, step_by, or_slash, path_of}
use Rattle.xf_def_forest.specs.Shape.{erased, has_elements, without_text}
use Rattle.xf_def_forest.specs.WellFormed.{HasTrees}
use Rattle.xf_def_forest.proofs.BackLaws.{and-true}
use Rattle.xf_def_xpath.specs.Asked.{found, has_list}
use Rattle.xf_def_xpath.specs.Agree.{untexted, AreVisits}
use Rattle.xf_def_xpath.proofs.VisitFacts.{no, some-same, none-some, found-out}
use Rattle.xf_def_xpath.proofs.ForestVisits.{Each, self-found, found-erased, forest-visits}
use Rattle.xf_tree_paths.specs.Family.{index_of, index_by, index_in, index_text, meets, step_with}
use Rattle.xf_tree_paths.specs.Opened.{stem_of}
use Rattle.xf_tree_paths.proofs.VisitLemmas.{Seen, seen, apart, live-content}

-- ---- ancestors

erased-above : (o : Option Visit) (z : Visit) → option_map erased o ≡ Some z → above_in o ≡ z.above
erased-above None z e = none-some e
erased-above (Some x) z e = ap (λ (v : Visit). v.above) (some-same e)

above-seen : (n : ℕ) (all : List Visit) (p : ℕ) (ns : List ℕ) → ancestors_of n all ≡ p ∷ ns → option_map (λ (v : Visit). v.above) (found n all) ≡ Some (p ∷ ns)
above-seen n all p ns h = by (found n all) h
  where
    by : (o : Option Visit) → above_in o ≡ p ∷ ns → option_map (λ (v : Visit). v.above) o ≡ Some (p ∷ ns)
    by None e = cc e
    by (Some x) e = ap Some e

-- above a parent stands what is above its child but itself
pub above-parent : (forest : Forest) (n p : ℕ) (ns : List ℕ) → HasTrees forest → ancestors_of n (visits forest.nodes) ≡ p ∷ ns → ancestors_of p (visits forest.nodes) ≡ ns
above-parent forest n p ns sound h = by (found n all) refl h
  where
    all : List Visit
    all = visits forest.nodes

    bare : List Visit
    bare = map erased all

    facts : AreVisits bare
    facts = forest-visits forest sound

    last : (o : Option Visit) → found p (untexted bare) ≡ o → option_map (λ (v : Visit). v.above) o ≡ Some ns → ancestors_of p all ≡ ns
    last None e i = none-some i
    last (Some z) e i =
        let out = found-out (λ y. not (is_text y.content)) p bare z facts.apart e in
        erased-above (found p all) z (sym (found-erased p all) ∙ out.0) ∙ some-same i

    by : (o : Option Visit) → found n all ≡ o → above_in o ≡ p ∷ ns → ancestors_of p all ≡ ns
    by None e i = cc i
    by (Some x) e i =
        last (found p (untexted bare)) refl (facts.closed n p ns (erased x) (found-erased n all ∙ ap (option_map erased) e) i)

-- a root has nothing above it
stays-none : (above : List Node) → still_above 0 above ≡ []
stays-none [] = refl
stays-none (y ∷ ys) = by (nat_lt y.depth 0) (grind (arith, nat_tests)) (stays-none ys)
  where
    by : (b : Bool) → b ≡ false → still_above 0 ys ≡ [] → cond b (y ∷ ys) (still_above 0 ys) ≡ []
    by true e h = no (sym e)
    by false e h = h

root-above : (n : ℕ) (above xs : List Node) → list_all (λ x. not (is_root x.content) || (x.depth == 0)) xs ≡ true → content_at n xs ≡ Some Root → above_in (found n (visits_from above xs)) ≡ []
root-above n above [] h e = refl
root-above n above (x ∷ xs) h e = by (root-above n (x ∷ still_above x.depth above) xs parts.1) (x.number == n) e
  where
    parts : ((not (is_root x.content) || (x.depth == 0)) ≡ true) × (list_all (λ (y : Node). not (is_root y.content) || (y.depth == 0)) xs ≡ true)
    parts = and-true (not (is_root x.content) || (x.depth == 0)) (list_all (λ (y : Node). not (is_root y.content) || (y.depth == 0)) xs) h

    at_top : x.content ≡ Root → x.depth ≡ 0
    at_top i = eqb-true x.depth 0 (sym (ap (λ c. not (is_root c) || (x.depth == 0)) i) ∙ parts.0)

    by : (content_at n xs ≡ Some Root → above_in (found n (visits_from (x ∷ still_above x.depth above) xs)) ≡ []) → (b : Bool) → option_map (λ (y : Node). y.content) (cond b (Some x) (node_at n xs)) ≡ Some Root → above_in (cond b (Some (visit above x)) (found n (visits_from (x ∷ still_above x.depth above) xs))) ≡ []
    by later true i = ap (λ d. numbers (still_above d above)) (at_top (some-same i)) ∙ ap numbers (stays-none above)
    by later false i = later i

pub root-none_above : (forest : Forest) (n : ℕ) → HasTrees forest → content_at n forest.nodes ≡ Some Root → ancestors_of n (visits forest.nodes) ≡ []
root-none_above forest n sound h = root-above n [] forest.nodes sound.tops h

-- ---- stems

-- the stem of a node by that of what is right above it
stem-split : (all : List Visit) (n : ℕ) → stem_of all n ≡ flat_map (step_of all) (reverse (ancestors_of n all)) ++ step_of all n
stem-split all n =
    ap (flat_map (step_of all)) (reverse-append (n ∷ []) (ancestors_of n all))
    ∙ flat_map-append (step_of all) (reverse (ancestors_of n all)) (n ∷ [])
    ∙ ap (λ l. flat_map (step_of all) (reverse (ancestors_of n all)) ++ l) (append-nil (step_of all n))

pub stem-below : (forest : Forest) (n p : ℕ) → HasTrees forest → parent_of n (visits forest.nodes) ≡ Some p → stem_of (visits forest.nodes) n ≡ stem_of (visits forest.nodes) p ++ step_of (visits forest.nodes) n
stem-below forest n p sound h = stem-split all n ∙ by (ancestors_of n all) refl h
  where
    all : List Visit
    all = visits forest.nodes

    by : (ns : List ℕ) → ancestors_of n all ≡ ns → first_of ns ≡ Some p → flat_map (step_of all) (reverse ns) ++ step_of all n ≡ stem_of all p ++ step_of all n
    by [] e i = none-some i
    by (m ∷ ms) e i =
        let is : m ≡ p = some-same i in
        ap (λ k. flat_map (step_of all) (reverse (k ∷ ms)) ++ step_of all n) is
        ∙ ap (λ l. flat_map (step_of all) (reverse (p ∷ l)) ++ step_of all n) (sym (above-parent forest n p ms sound (e ∙ ap (λ k. k ∷ ms) is)))

step-parts : (content : Content) (all : List Visit) (x : Visit) → step_by content all x ≡ step_with content (index_by content all x)
step-parts Root all x = refl
step-parts (Element name) all x = refl
step-parts (Attribute name text) all x = refl
step-parts (Text text) all x = refl

-- what a path has for a node, by its content and its index
pub step-is : (n : ℕ) (content : Content) (nodes : List Node) → content_at n nodes ≡ Some content → step_of (visits nodes) n ≡ step_with content (index_of (visits nodes) n)
step-is n content nodes h =
    let s = seen n content nodes h in
    let all = visits nodes in
    ap (step_in all) s.at ∙ ap (λ c. step_by c all s.visit) s.same ∙ step-parts content all s.visit
    ∙ sym (ap (step_with content) (ap (index_in all) s.at ∙ ap (λ c. index_by c all s.visit) s.same))

-- ---- a root, and what is none

pub stem-root : (forest : Forest) (n : ℕ) → HasTrees forest → content_at n forest.nodes ≡ Some Root → stem_of (visits forest.nodes) n ≡ []
stem-root forest n sound h =
    let all = visits forest.nodes in
    ap (λ ns. flat_map (step_of all) (reverse (n ∷ ns))) (root-above n [] forest.nodes sound.tops h)
    ∙ append-nil (step_of all n) ∙ step-is n Root forest.nodes h

-- a list that is no empty one
abbrev pub Begun : List ℕ → Type 0
Begun xs = (c : ℕ) × (cs : List ℕ) × (xs ≡ c ∷ cs)

step-begun : (content : Content) (index : List ℕ) → is_root content ≡ false → Begun (step_with content index)
step-begun Root index h = no (sym h)
step-begun (Element name) index h = (47, written name ++ index, refl)
step-begun (Attribute name text) index h = (47, 64 ∷ written name, refl)
step-begun (Text text) index h = (47, codes "text()" ++ index, refl)

slash-none : (xs ys : List ℕ) → Begun ys → or_slash (xs ++ ys) ≡ xs ++ ys
slash-none [] ys b = ap or_slash b.2 ∙ sym b.2
slash-none (x ∷ xs) ys b = refl

pub stem-path : (n : ℕ) (content : Content) (nodes : List Node) → content_at n nodes ≡ Some content → is_root content ≡ false → path_of n (visits nodes) ≡ stem_of (visits nodes) n
stem-path n content nodes h r =
    let all = visits nodes in
    let b = step-begun content (index_of all n) r in
    ap or_slash (stem-split all n)
    ∙ slash-none (flat_map (step_of all) (reverse (ancestors_of n all))) (step_of all n) (b.0, b.1, step-is n content nodes h ∙ b.2)
    ∙ sym (stem-split all n)

-- ---- what has no children

-- no node stands below an attribute or a text
pub childless : (forest : Forest) (n : ℕ) (content : Content) → HasTrees forest → content_at n forest.nodes ≡ Some content → has_list content ≡ false → has_elements (visits forest.nodes) n ≡ false
childless forest n content sound h leaf = none-below all (self-found all (apart forest sound))
  where
    all : List Visit
    all = visits forest.nodes

    s : Seen n content all
    s = seen n content forest.nodes h

    facts : AreVisits (map erased all)
    facts = forest-visits forest sound

    bare : (c : Content) → has_list (without_text c) ≡ has_list c
    bare Root = refl
    bare (Element name) = refl
    bare (Attribute name text) = refl
    bare (Text text) = refl

    below : (y : Visit) (ns : List ℕ) → found y.number all ≡ Some y → y.above ≡ ns → is_first n ns ≡ true → false ≡ true
    below y [] e i j = j
    below y (m ∷ ms) e i j =
        let is : n ≡ m = eqb-true n m j in
        sym leaf ∙ ap has_list (sym s.same) ∙ sym (bare s.visit.content)
        ∙ facts.parents y.number n ms (erased y) (erased s.visit) (found-erased y.number all ∙ ap (option_map erased) e) (i ∙ ap (λ k. k ∷ ms) (sym is)) (found-erased n all ∙ ap (option_map erased) s.at)

    not-below : (y : Visit) → found y.number all ≡ Some y → (b : Bool) → is_first n y.above ≡ b → (is_element y.content && b) ≡ false
    not-below y e true j = no (below y y.above e refl j)
    not-below y e false j = and-false (is_element y.content)
      where
        and-false : (a : Bool) → (a && false) ≡ false
        and-false true = refl
        and-false false = refl

    none-below : (vs : List Visit) → Each (λ v. found v.number all ≡ Some v) vs → list_any (λ y. is_element y.content && is_first n y.above) vs ≡ false
    none-below [] e = refl
    none-below (v ∷ vs) e = ap (λ b. b || list_any (λ (y : Visit). is_element y.content && is_first n y.above) vs) (not-below v e.0 (is_first n v.above) refl) ∙ none-below vs e.1

-- ---- what the code asks for

pub stem-root-is : (forest : Forest) (n : ℕ) → HasTrees forest → meets is_root (content_at n forest.nodes) ≡ true → [] ≡ stem_of (visits forest.nodes) n
stem-root-is forest n sound h = sym (stem-root forest n sound (by (content_at n forest.nodes) h))
  where
    by : (o : Option Content) → meets is_root o ≡ true → o ≡ Some Root
    by None i = no i
    by (Some Root) i = refl
    by (Some (Element name)) i = no i
    by (Some (Attribute name text)) i = no i
    by (Some (Text text)) i = no i

pub stem-path-is : (n : ℕ) (nodes : List Node) → has_number n nodes ≡ true → meets is_root (content_at n nodes) ≡ false → path_of n (visits nodes) ≡ stem_of (visits nodes) n
stem-path-is n nodes live h = by (content_at n nodes) refl h
  where
    by : (o : Option Content) → content_at n nodes ≡ o → meets is_root o ≡ false → path_of n (visits nodes) ≡ stem_of (visits nodes) n
    by None e i = no (live-content n nodes live e)
    by (Some content) e i = stem-path n content nodes e i

pub stem-pushed : (forest : Forest) (n p : ℕ) (content : Content) (stem text : List ℕ) (index : Option ℕ) → HasTrees forest → parent_of n (visits forest.nodes) ≡ Some p → Some content ≡ content_at n forest.nodes → stem ≡ stem_of (visits forest.nodes) p
    → text ≡ stem ++ step_with content (index_text index) → (is_attribute content ≡ false → index_text index ≡ index_of (visits forest.nodes) n) → text ≡ stem_of (visits forest.nodes) n
stem-pushed forest n p content stem text index sound h c s t plain =
    let all = visits forest.nodes in
    t ∙ ap (λ l. l ++ step_with content (index_text index)) s
    ∙ ap (λ l. stem_of all p ++ l) (by content plain)
    ∙ ap (λ l. stem_of all p ++ l) (sym (step-is n content forest.nodes (sym c)))
    ∙ sym (stem-below forest n p sound h)
  where
    -- an attribute has none
    by : (k : Content) → (is_attribute k ≡ false → index_text index ≡ index_of (visits forest.nodes) n) → step_with k (index_text index) ≡ step_with k (index_of (visits forest.nodes) n)
    by Root i = refl
    by (Element name) i = ap (step_with (Element name)) (i refl)
    by (Attribute name text) i = refl
    by (Text text) i = ap (step_with (Text text)) (i refl)

-- what is below another node is no slash alone
pub path-pushed : (forest : Forest) (n p : ℕ) (content : Content) (stem text : List ℕ) (index : Option ℕ) → HasTrees forest → parent_of n (visits forest.nodes) ≡ Some p → Some content ≡ content_at n forest.nodes → text ≡ stem ++ step_with content (index_text index)
    → text ≡ stem_of (visits forest.nodes) n → text ≡ path_of n (visits forest.nodes)
path-pushed forest n p content stem text index sound h c t is = t ∙ sym (by content (sym c)) ∙ ap or_slash (sym t) ∙ ap or_slash is
  where
    more : (xs : List ℕ) (y : ℕ) (ys : List ℕ) → or_slash (xs ++ (y ∷ ys)) ≡ xs ++ (y ∷ ys)
    more [] y ys = refl
    more (x ∷ xs) y ys = refl

    by : (k : Content) → content_at n forest.nodes ≡ Some k → or_slash (stem ++ step_with k (index_text index)) ≡ stem ++ step_with k (index_text index)
    by Root e = none-some (ap first_of (sym (root-none_above forest n sound e)) ∙ h)
    by (Element name) e = more stem 47 _
    by (Attribute name text) e = more stem 47 _
    by (Text text) e = more stem 47 _

pub childless-attribute : (forest : Forest) (n : ℕ) (content : Content) (name : Name) (text : List ℕ) → HasTrees forest → Some content ≡ content_at n forest.nodes → content ≡ Attribute name text → false ≡ has_elements (visits forest.nodes) n
childless-attribute forest n content name text sound h is = sym (childless forest n (Attribute name text) sound (sym h ∙ ap Some is) refl)

pub childless-text : (forest : Forest) (n : ℕ) (content : Content) (text : List ℕ) → HasTrees forest → Some content ≡ content_at n forest.nodes → content ≡ Text text → false ≡ has_elements (visits forest.nodes) n
childless-text forest n content text sound h is = sym (childless forest n (Text text) sound (sym h ∙ ap Some is) refl)

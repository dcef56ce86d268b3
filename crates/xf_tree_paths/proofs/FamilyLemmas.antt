-- What a path counts beside a child, by the list of the children.
use Rattle.std.proofs.Common.{◌≡◌, ℕ, zero, suc, ◌+◌, ◌<◌, ◌≤◌, ◌==◌, Bool, true, false, not, cond, ◌&&◌, ◌||◌, if◌then◌else◌, List, [], ◌∷◌, ◌++◌, map, length, take, nat_lt, is_some, Option, Some, None, option_map, refl, sym, ap, ◌∙◌, inl, inr, arith}
use Rattle.std.specs.Prelude.{filter, slice_get}
use Rattle.std.specs.List.{list_any}
use Rattle.std.specs.Str.{bytes_eq}
use Rattle.std.proofs.lemmas.Bool.{cases_Bool, eqb-true}
use Rattle.std.proofs.lemmas.List.Sums.{sum_by-cons, sum_by_more, count_by-le-length}
use Rattle.std.proofs.lemmas.List.{length-take-le, take_more}
use Rattle.std.proofs.lemmas.Option.{get_or_from_slice_get}
use Rattle.xf_name.specs.declared.axis.Axis.TheVariants.{Child}
use Rattle.xf_def_forest.specs.declared.content.Node.{Node}
use Rattle.xf_def_forest.specs.declared.content.Name.{Name}
use Rattle.xf_def_forest.specs.declared.content.Content.{Content}
use Rattle.xf_def_forest.specs.declared.content.Content.TheVariants.{Root, Element, Attribute, Text}
use Rattle.xf_def_forest.specs.Forest.{Forest, is_element, is_attribute, is_text, name_in, written, written_in, content_at, has_number}
use Rattle.xf_def_forest.specs.Visit.{Visit, visits, has, is_first, first_of, above_in, parent_of, same_parent}
use Rattle.xf_def_forest.specs.Axis.{before, is_on, axis_from, axis_of}
use Rattle.xf_def_forest.specs.Path.{is_namesake, bracketed}
use Rattle.xf_def_forest.specs.Shape.{has_elements}
use Rattle.xf_def_forest.specs.WellFormed.{HasTrees}
use Rattle.xf_def_forest.proofs.BackLaws.{and-true, or-false, not-true}
use Rattle.xf_def_forest.proofs.OrderLaws.{map-sub, filter-sub, sub-has, sub-different}
use Rattle.xf_def_xpath.specs.Asked.{found}
use Rattle.xf_def_xpath.specs.Agree.{numbers_of, are_apart}
use Rattle.xf_def_xpath.proofs.VisitFacts.{self-same, turned, or-left, or-right, no, some-same, none-some, filter-and, filter-same, found-number, found-out, has-found}
use Rattle.xf_def_xpath.proofs.ForestVisits.{Each, each-filter, each-found}
use Rattle.xf_tree_paths.specs.Family.{index_of, index_by, index_in, index_text, meets, count_in, is_named}
use Rattle.xf_tree_paths.proofs.VisitLemmas.{Linked, all-linked, apart, Seen, seen, live-content, content-seen}

-- ---- a list of numbers up to one

abbrev ahead : ℕ → List ℕ → List ℕ
ahead n [] = []
ahead n (m ∷ ms) = cond (m == n) [] (m ∷ ahead n ms)

has-at : (n at : ℕ) (ns : List ℕ) → slice_get ns at ≡ Some n → has n ns ≡ true
has-at n at [] e = none-some e
has-at n zero (m ∷ ms) e = or-left (n == m) (has n ms) (ap (λ k. n == k) (some-same e) ∙ self-same n)
has-at n (suc at) (m ∷ ms) e = or-right (n == m) (has n ms) (has-at n at ms e)

differs : (m n : ℕ) (ns : List ℕ) → has m ns ≡ false → has n ns ≡ true → (m == n) ≡ false
differs m n ns h k = elim (cases_Bool (m == n)) [ inl t ↦ no (sym h ∙ ap (λ x. has x ns) (eqb-true m n t) ∙ k) | inr f ↦ f ]

ahead-taken : (n at : ℕ) (ns : List ℕ) → are_apart ns ≡ true → slice_get ns at ≡ Some n → take at ns ≡ ahead n ns
ahead-taken n at [] h e = none-some e
ahead-taken n zero (m ∷ ms) h e = sym (ap (λ b. cond b [] (m ∷ ahead n ms)) (ap (λ k. k == n) (some-same e) ∙ self-same n))
ahead-taken n (suc at) (m ∷ ms) h e =
    let parts = and-true (not (has m ms)) (are_apart ms) h in
    ap (λ l. m ∷ l) (ahead-taken n at ms parts.1 e)
    ∙ sym (ap (λ b. cond b [] (m ∷ ahead n ms)) (differs m n ms (not-true (has m ms) parts.0) (has-at n at ms e)))

-- ---- counting

count-step : (b : Bool) (v : Visit) (k : ℕ) (rest : List Visit) → k ≡ length rest → cond b 1 0 + k ≡ length (cond b (v ∷ rest) rest)
count-step true v k rest h = omega (arith, h)
count-step false v k rest h = omega (arith, h)

one-in : (q : Content → Bool) (nodes : List Node) (n : ℕ) (ns : List ℕ) → count_in q nodes (n ∷ ns) ≡ cond (meets q (content_at n nodes)) 1 0 + count_in q nodes ns
one-in q nodes n ns = sum_by-cons (λ (k : ℕ). cond (meets q (content_at k nodes)) 1 0) n ns

count-visits : (q : Content → Bool) (nodes : List Node) (vs : List Visit) → Each (Linked nodes) vs → count_in q nodes (numbers_of vs) ≡ length (filter (λ v. q v.content) vs)
count-visits q nodes [] e = refl
count-visits q nodes (v ∷ vs) e =
    one-in q nodes v.number (numbers_of vs)
    ∙ ap (λ c. cond (meets q c) 1 0 + count_in q nodes (numbers_of vs)) e.0
    ∙ count-step (q v.content) v (count_in q nodes (numbers_of vs)) (filter (λ v. q v.content) vs) (count-visits q nodes vs e.1)

-- a test that holds of whichever visit has a number
abbrev Holds : (Visit → Bool) → ℕ → Visit → Type 0
Holds r n v = (v.number == n) ≡ true → r v ≡ true

vacuous : (r : Visit → Bool) (n : ℕ) (vs : List Visit) → has n (numbers_of vs) ≡ false → Each (Holds r n) vs
vacuous r n [] h = tt
vacuous r n (v ∷ vs) h =
    let parts = or-false (n == v.number) (has n (numbers_of vs)) h in
    (λ e. no (sym (turned v.number n ∙ parts.0) ∙ e), vacuous r n vs parts.1)

kept-each : (r : Visit → Bool) (n : ℕ) (vs : List Visit) → are_apart (numbers_of vs) ≡ true → has n (numbers_of (filter r vs)) ≡ true → Each (Holds r n) vs
kept-each r n [] h k = tt
kept-each r n (v ∷ vs) h k = by (kept-each r n vs parts.1) (r v) refl k
  where
    parts : (not (has v.number (numbers_of vs)) ≡ true) × (are_apart (numbers_of vs) ≡ true)
    parts = and-true (not (has v.number (numbers_of vs))) (are_apart (numbers_of vs)) h

    lone : has v.number (numbers_of vs) ≡ false
    lone = not-true (has v.number (numbers_of vs)) parts.0

    here : (has n (numbers_of (filter r vs)) ≡ true → Each (Holds r n) vs) → (b : Bool) → (n == v.number) ≡ b → (b || has n (numbers_of (filter r vs))) ≡ true → Each (Holds r n) vs
    here later true e i = vacuous r n vs (ap (λ m. has m (numbers_of vs)) (eqb-true n v.number e) ∙ lone)
    here later false e i = later i

    other : has n (numbers_of (filter r vs)) ≡ true → (v.number == n) ≡ true → r v ≡ true
    other i e =
        no (sym (sub-has n (map-sub (λ (w : Visit). w.number) (filter-sub r vs)) (sym (ap (λ m. has m (numbers_of vs)) (eqb-true v.number n e)) ∙ lone)) ∙ i)

    by : (has n (numbers_of (filter r vs)) ≡ true → Each (Holds r n) vs) → (b : Bool) → r v ≡ b → has n (numbers_of (cond b (v ∷ filter r vs) (filter r vs))) ≡ true → Each (Holds r n) (v ∷ vs)
    by later true t i = (λ _. t, here later (n == v.number) refl i)
    by later false t i = (other i, later i)

ahead-count : (r : Visit → Bool) (q : Content → Bool) (nodes : List Node) (n : ℕ) (vs : List Visit) → Each (Linked nodes) vs → Each (Holds r n) vs
    → count_in q nodes (ahead n (numbers_of (filter r vs))) ≡ length (filter (λ v. r v && q v.content) (before n vs))
ahead-count r q nodes n [] e h = refl
ahead-count r q nodes n (v ∷ vs) e h = by (v.number == n) (r v) refl refl (ahead-count r q nodes n vs e.1 h.1)
  where
    rest : List Visit
    rest = filter (λ v. r v && q v.content) (before n vs)

    by : (c b : Bool) → (v.number == n) ≡ c → r v ≡ b → count_in q nodes (ahead n (numbers_of (filter r vs))) ≡ length rest
        → count_in q nodes (ahead n (numbers_of (cond b (v ∷ filter r vs) (filter r vs)))) ≡ length (filter (λ v. r v && q v.content) (cond c [] (v ∷ before n vs)))
    by true true t k i = ap (λ x. count_in q nodes (cond x [] (v.number ∷ ahead n (numbers_of (filter r vs))))) t
    by true false t k i = no (sym k ∙ h.0 t)
    by false true t k i =
        ap (λ x. count_in q nodes (cond x [] (v.number ∷ ahead n (numbers_of (filter r vs))))) t
        ∙ one-in q nodes v.number (ahead n (numbers_of (filter r vs)))
        ∙ ap (λ c. cond (meets q c) 1 0 + count_in q nodes (ahead n (numbers_of (filter r vs)))) e.0
        ∙ count-step (q v.content) v (count_in q nodes (ahead n (numbers_of (filter r vs)))) rest i
        ∙ ap (λ x. length (cond (x && q v.content) (v ∷ rest) rest)) (sym k)
    by false false t k i = i ∙ ap (λ x. length (cond (x && q v.content) (v ∷ rest) rest)) (sym k)

-- ---- beside a child

one-test : (a b c : Bool) → (c ≡ true → b ≡ true) → ((a && b) && c) ≡ (a && c)
one-test true true c h = refl
one-test true false true h = h refl
one-test true false false h = refl
one-test false b c h = refl

same-first : (k : ℕ) (xs ys : List ℕ) → is_first k xs ≡ true → same_parent xs ys ≡ is_first k ys
same-first k [] ys h = no h
same-first k (m ∷ ms) ys h = ap (λ j. is_first j ys) (sym (eqb-true k m h))

abbrev Plain : (Content → Bool) → Type 0
Plain q = (c : Content) → q c ≡ true → is_attribute c ≡ false

abbrev beside : (Content → Bool) → Visit → Visit → Bool
beside q x y = same_parent x.above y.above && q y.content

record Counts (q : Content → Bool) (nodes : List Node) (cs : List ℕ) (at : ℕ) (x : Visit) : Type 0 where
  whole : length (filter (beside q x) (visits nodes)) ≡ count_in q nodes cs
  earlier : length (filter (beside q x) (before x.number (visits nodes))) ≡ count_in q nodes (take at cs)

counts : (q : Content → Bool) (forest : Forest) (p n at : ℕ) (x : Visit) → Plain q → HasTrees forest → slice_get (axis_of Child p (visits forest.nodes)) at ≡ Some n → found n (visits forest.nodes) ≡ Some x
    → Counts q forest.nodes (axis_of Child p (visits forest.nodes)) at x
counts q forest p n at x plain sound e f = by (found p (visits forest.nodes)) e
  where
    all : List Visit
    all = visits forest.nodes

    nodes : List Node
    nodes = forest.nodes

    by : (o : Option Visit) → slice_get (map (λ (v : Visit). v.number) (axis_from Child all o)) at ≡ Some n → Counts q nodes (map (λ (v : Visit). v.number) (axis_from Child all o)) at x
    by None i = none-some i
    by (Some px) i =
        let r : Visit → Bool = is_on Child px in
        let cs : List ℕ = numbers_of (filter r all) in
        let different : are_apart cs ≡ true = sub-different (map-sub (λ (v : Visit). v.number) (filter-sub r all)) (apart forest sound) in
        let at_n : Each (Holds r n) all = kept-each r n all (apart forest sound) (has-at n at cs i) in
        let is : x.number ≡ n = found-number n all x f in
        let rx : r x ≡ true = each-found (Holds r n) n all x at_n f (ap (λ k. k == n) is ∙ self-same n) in
        let first : is_first px.number x.above ≡ true = (and-true (is_first px.number x.above) (not (is_attribute x.content)) rx).0 in
        let tests : (y : Visit) → beside q x y ≡ (r y && q y.content) = λ y. ap (λ b. b && q y.content) (same-first px.number x.above y.above first)
        ∙ sym (one-test (is_first px.number y.above) (not (is_attribute y.content)) (q y.content) (λ k. ap not (plain y.content k))) in
        record {
          whole = ap length (filter-same (beside q x) (λ y. r y && q y.content) tests all ∙ filter-and (λ y. q y.content) r all)
              ∙ sym (count-visits q nodes (filter r all) (each-filter (Linked nodes) r all (all-linked forest sound)));
          earlier = ap length (ap (λ k. filter (beside q x) (before k all)) is ∙ filter-same (beside q x) (λ y. r y && q y.content) tests (before n all))
              ∙ sym (ahead-count r q nodes n all (all-linked forest sound) at_n) ∙ sym (ap (count_in q nodes) (ahead-taken n at cs different i));
        }

named-plain : (w : List ℕ) → Plain (is_named w)
named-plain w Root h = no h
named-plain w (Element name) h = refl
named-plain w (Attribute name text) h = no h
named-plain w (Text text) h = no h

text-plain : Plain is_text
text-plain Root h = no h
text-plain (Element name) h = no h
text-plain (Attribute name text) h = no h
text-plain (Text text) h = refl

and-moved : (a b c : Bool) → ((a && b) && c) ≡ (a && (b && c))
and-moved true b c = refl
and-moved false b c = refl

index-seen : (nodes : List Node) (n : ℕ) (content : Content) (s : Seen n content (visits nodes)) → index_of (visits nodes) n ≡ index_by content (visits nodes) s.visit
index-seen nodes n content s = ap (index_in (visits nodes)) s.at ∙ ap (λ c. index_by c (visits nodes) s.visit) s.same

pub element-index : (forest : Forest) (p n at : ℕ) (name : Name) → HasTrees forest → slice_get (axis_of Child p (visits forest.nodes)) at ≡ Some n → content_at n forest.nodes ≡ Some (Element name)
    → index_of (visits forest.nodes) n
    ≡ (if nat_lt 1 (count_in (is_named (written name)) forest.nodes (axis_of Child p (visits forest.nodes))) then bracketed (suc (count_in (is_named (written name)) forest.nodes (take at (axis_of Child p (visits forest.nodes))))) else [])
element-index forest p n at name sound e h =
    let all = visits forest.nodes in
    let s = seen n (Element name) forest.nodes h in
    let x = s.visit in
    let q : Content → Bool = is_named (written name) in
    let c = counts q forest p n at x (named-plain (written name)) sound e s.at in
    let same : (y : Visit) → is_namesake (written name) x y ≡ beside q x y = λ y. and-moved (same_parent x.above y.above) (is_element y.content) (bytes_eq (written name) (written_in (name_in y.content))) in
    index-seen forest.nodes n (Element name) s
    ∙ ap (λ l. if nat_lt 1 (length l) then bracketed (suc (length (filter (is_namesake (written name) x) (before x.number all)))) else []) (filter-same (is_namesake (written name) x) (beside q x) same all)
    ∙ ap (λ l. if nat_lt 1 (length (filter (beside q x) all)) then bracketed (suc (length l)) else []) (filter-same (is_namesake (written name) x) (beside q x) same (before x.number all))
    ∙ ap (λ k. if nat_lt 1 k then bracketed (suc (length (filter (beside q x) (before x.number all)))) else []) c.whole
    ∙ ap (λ k. if nat_lt 1 (count_in q forest.nodes (axis_of Child p all)) then bracketed (suc k) else []) c.earlier

pub text-index : (forest : Forest) (p n at : ℕ) (text : List ℕ) → HasTrees forest → slice_get (axis_of Child p (visits forest.nodes)) at ≡ Some n → content_at n forest.nodes ≡ Some (Text text)
    → index_of (visits forest.nodes) n ≡ bracketed (suc (count_in is_text forest.nodes (take at (axis_of Child p (visits forest.nodes)))))
text-index forest p n at text sound e h =
    let s = seen n (Text text) forest.nodes h in
    let c = counts is_text forest p n at s.visit text-plain sound e s.at in
    index-seen forest.nodes n (Text text) s ∙ ap (λ k. bracketed (suc k)) c.earlier

pub root-index : (n : ℕ) (nodes : List Node) → content_at n nodes ≡ Some Root → index_of (visits nodes) n ≡ []
root-index n nodes h = index-seen nodes n Root (seen n Root nodes h)

pub attribute-index : (n : ℕ) (name : Name) (text : List ℕ) (nodes : List Node) → content_at n nodes ≡ Some (Attribute name text) → index_of (visits nodes) n ≡ []
attribute-index n name text nodes h = index-seen nodes n (Attribute name text) (seen n (Attribute name text) nodes h)

-- ---- element children

both-ways : (a b c : Bool) → (c ≡ true → b ≡ true) → (a && b) ≡ true → (c && a) ≡ c
both-ways true b true h k = refl
both-ways true b false h k = refl
both-ways false b c h k = no k

neither : (a b c : Bool) → (c ≡ true → b ≡ true) → (a && b) ≡ false → (c && a) ≡ false
neither true b true h k = sym (h refl) ∙ k
neither true b false h k = refl
neither false b true h k = refl
neither false b false h k = refl

element-plain : Plain is_element
element-plain Root h = no h
element-plain (Element name) h = refl
element-plain (Attribute name text) h = no h
element-plain (Text text) h = no h

any-child : (p : ℕ) (nodes : List Node) (vs : List Visit) → Each (Linked nodes) vs
    → list_any (λ y. is_element y.content && is_first p y.above) vs ≡ list_any (λ n. meets is_element (content_at n nodes)) (numbers_of (filter (λ y. is_first p y.above && not (is_attribute y.content)) vs))
any-child p nodes [] e = refl
any-child p nodes (v ∷ vs) e = by (is_first p v.above && not (is_attribute v.content)) refl (any-child p nodes vs e.1)
  where
    rest : Bool
    rest = list_any (λ (y : Visit). is_element y.content && is_first p y.above) vs

    plain : is_element v.content ≡ true → not (is_attribute v.content) ≡ true
    plain k = ap not (element-plain v.content k)

    by : (b : Bool) → (is_first p v.above && not (is_attribute v.content)) ≡ b → rest ≡ list_any (λ n. meets is_element (content_at n nodes)) (numbers_of (filter (λ y. is_first p y.above && not (is_attribute y.content)) vs))
        → ((is_element v.content && is_first p v.above) || rest) ≡ list_any (λ n. meets is_element (content_at n nodes)) (numbers_of (cond b (v ∷ filter (λ y. is_first p y.above && not (is_attribute y.content)) vs) (filter (λ y. is_first p y.above && not (is_attribute y.content)) vs)))
    by true t i =
        ap (λ b. b || rest) (both-ways (is_first p v.above) (not (is_attribute v.content)) (is_element v.content) plain t)
        ∙ ap (λ b. is_element v.content || b) i
        ∙ ap (λ c. meets is_element c || list_any (λ n. meets is_element (content_at n nodes)) (numbers_of (filter (λ y. is_first p y.above && not (is_attribute y.content)) vs))) (sym e.0)
    by false t i = ap (λ b. b || rest) (neither (is_first p v.above) (not (is_attribute v.content)) (is_element v.content) plain t) ∙ i

pub elements-are : (forest : Forest) (p : ℕ) → HasTrees forest → has_number p forest.nodes ≡ true
    → has_elements (visits forest.nodes) p ≡ list_any (λ n. meets is_element (content_at n forest.nodes)) (axis_of Child p (visits forest.nodes))
elements-are forest p sound live = by (found p all) refl
  where
    all : List Visit
    all = visits forest.nodes

    by : (o : Option Visit) → found p all ≡ o → has_elements all p ≡ list_any (λ n. meets is_element (content_at n forest.nodes)) (map (λ (v : Visit). v.number) (axis_from Child all o))
    by None e = no (live-content p forest.nodes live (sym (content-seen p [] forest.nodes) ∙ ap (option_map (λ (z : Visit). z.content)) e))
    by (Some px) e =
        any-child p forest.nodes all (all-linked forest sound)
        ∙ ap (λ k. list_any (λ n. meets is_element (content_at n forest.nodes)) (numbers_of (filter (λ y. is_first k y.above && not (is_attribute y.content)) all))) (sym (found-number p all px e))

-- ---- one child more

pub count-more : (q : Content → Bool) (nodes : List Node) (ns : List ℕ) (at n : ℕ) (o : Option Content) → at < length ns → slice_get ns at ≡ Some n → content_at n nodes ≡ o
    → count_in q nodes (take (at + 1) ns) ≡ count_in q nodes (take at ns) + cond (meets q o) 1 0
count-more q nodes ns at n o h s e =
    sum_by_more (λ (k : ℕ). cond (meets q (content_at k nodes)) 1 0) ns at 0 h
    ∙ ap (λ k. count_in q nodes (take at ns) + cond (meets q (content_at k nodes)) 1 0) (get_or_from_slice_get ns at n 0 s)
    ∙ ap (λ c. count_in q nodes (take at ns) + cond (meets q c) 1 0) e

pub count-few : (q : Content → Bool) (nodes : List Node) (ns : List ℕ) (at : ℕ) → at < length ns → count_in q nodes (take at ns) ≤ at
count-few q nodes ns at h = let short : length (take at ns) ≡ at = length-take-le at ns (omega arith) in omega (arith, count_by-le-length (λ (n : ℕ). meets q (content_at n nodes)) (take at ns), short)

count-part : (q : Content → Bool) (nodes : List Node) (k : ℕ) (ns : List ℕ) → count_in q nodes (take k ns) ≤ count_in q nodes ns
count-part q nodes zero ns = omega arith
count-part q nodes (suc k) [] = omega arith
count-part q nodes (suc k) (n ∷ ns) = omega (arith, one-in q nodes n (take k ns), one-in q nodes n ns, count-part q nodes k ns)

pub bytes-same : (bs : List ℕ) → bytes_eq bs bs ≡ true
bytes-same [] = refl
bytes-same (b ∷ bs) = ap (λ t. t && bytes_eq bs bs) (self-same b) ∙ bytes-same bs

-- before one that is counted stand fewer than there are
pub count-less : (q : Content → Bool) (nodes : List Node) (ns : List ℕ) (at n : ℕ) (content : Content) → at < length ns → slice_get ns at ≡ Some n → content_at n nodes ≡ Some content → q content ≡ true
    → count_in q nodes (take at ns) < count_in q nodes ns
count-less q nodes ns at n content h s e t =
    let more = count-more q nodes ns at n (Some content) h s e in
    let one : cond {A = ℕ} (q content) 1 0 ≡ 1 = ap (λ b. cond {A = ℕ} b 1 0) t in
    omega (arith, more, one, count-part q nodes (at + 1) ns)

pub any-at : (f : ℕ → Bool) (ns : List ℕ) (at n : ℕ) → slice_get ns at ≡ Some n → f n ≡ true → list_any f ns ≡ true
any-at f [] at n e h = none-some e
any-at f (m ∷ ms) zero n e h = ap (λ b. b || list_any f ms) (ap f (some-same e) ∙ h)
any-at f (m ∷ ms) (suc at) n e h = right (f m) (any-at f ms at n e h)
  where
    right : (b : Bool) → list_any f ms ≡ true → (b || list_any f ms) ≡ true
    right true i = refl
    right false i = i

any-append : (f : ℕ → Bool) (xs : List ℕ) (y : ℕ) → list_any f xs ≡ false → f y ≡ false → list_any f (xs ++ y ∷ []) ≡ false
any-append f [] y h k = ap (λ b. b || false) k
any-append f (x ∷ xs) y h k = let parts = or-false (f x) (list_any f xs) h in ap (λ b. b || list_any f (xs ++ y ∷ [])) parts.0 ∙ any-append f xs y parts.1 k

pub any-more : (f : ℕ → Bool) (ns : List ℕ) (at n : ℕ) → at < length ns → slice_get ns at ≡ Some n → list_any f (take at ns) ≡ false → f n ≡ false → list_any f (take (at + 1) ns) ≡ false
any-more f ns at n h s e k =
    ap (list_any f) (take_more ns at 0 h ∙ ap (λ m. take at ns ++ m ∷ []) (get_or_from_slice_get ns at n 0 s)) ∙ any-append f (take at ns) n e k

-- the index of a child by what was counted
pub kid-element : (forest : Forest) (p n at : ℕ) (name : Name) (cs : List ℕ) (totals seen_so_far : List ℕ → ℕ) (index : Option ℕ) → HasTrees forest → cs ≡ axis_of Child p (visits forest.nodes) → slice_get cs at ≡ Some n → content_at n forest.nodes ≡ Some (Element name)
    → ((w : List ℕ) → totals w ≡ count_in (is_named w) forest.nodes cs) → ((w : List ℕ) → seen_so_far w ≡ count_in (is_named w) forest.nodes (take at cs))
    → index_text index ≡ (if nat_lt 1 (totals (written name)) then bracketed (suc (seen_so_far (written name))) else []) → index_text index ≡ index_of (visits forest.nodes) n
kid-element forest p n at name cs totals seen_so_far index sound is s c t k e =
    let w = written name in
    e ∙ ap (λ m. if nat_lt 1 m then bracketed (suc (seen_so_far w)) else []) (t w ∙ ap (count_in (is_named w) forest.nodes) is)
    ∙ ap (λ m. if nat_lt 1 (count_in (is_named w) forest.nodes (axis_of Child p (visits forest.nodes))) then bracketed (suc m) else []) (k w ∙ ap (λ l. count_in (is_named w) forest.nodes (take at l)) is)
    ∙ sym (element-index forest p n at name sound (ap (λ l. slice_get l at) (sym is) ∙ s) c)

-- one child alone needs no brackets
pub alone-index : (name : List ℕ) (nodes : List Node) (cs : List ℕ) → length cs ≡ 1 → [] ≡ (if nat_lt 1 (count_in (is_named name) nodes cs) then bracketed 1 else [])
alone-index name nodes cs h = by (count_in (is_named name) nodes cs) (omega (arith, count_by-le-length (λ (n : ℕ). meets (is_named name) (content_at n nodes)) cs, h))
  where
    by : (k : ℕ) → k ≤ 1 → [] ≡ (if nat_lt 1 k then bracketed 1 else [])
    by zero l = refl
    by (suc zero) l = refl
    by (suc (suc k)) l = absurd (omega (arith, l))

pub kid-text : (forest : Forest) (p n at : ℕ) (text : List ℕ) (cs : List ℕ) (texts : ℕ) → HasTrees forest → cs ≡ axis_of Child p (visits forest.nodes) → slice_get cs at ≡ Some n → content_at n forest.nodes ≡ Some (Text text)
    → texts ≡ count_in is_text forest.nodes (take at cs) → index_text (Some (texts + 1)) ≡ index_of (visits forest.nodes) n
kid-text forest p n at text cs texts sound is s c e =
    let more : texts + 1 ≡ suc (count_in is_text forest.nodes (take at cs)) = omega (arith, e) in
    ap bracketed more ∙ ap (λ l. bracketed (suc (count_in is_text forest.nodes (take at l)))) is
    ∙ sym (text-index forest p n at text sound (ap (λ l. slice_get l at) (sym is) ∙ s) c)

-- what stands on the child axis of a node is its child
pub kid-parent : (forest : Forest) (p n at : ℕ) (cs : List ℕ) → HasTrees forest → cs ≡ axis_of Child p (visits forest.nodes) → slice_get cs at ≡ Some n → parent_of n (visits forest.nodes) ≡ Some p
kid-parent forest p n at cs sound is e = by (found p all) refl (ap (λ l. slice_get l at) (sym is) ∙ e)
  where
    all : List Visit
    all = visits forest.nodes

    first : (ns : List ℕ) → is_first p ns ≡ true → first_of ns ≡ Some p
    first [] i = no i
    first (m ∷ ms) i = ap Some (sym (eqb-true p m i))

    child : (px : Visit) → px.number ≡ p → (o : Option Visit) → found n (filter (is_on Child px) all) ≡ o → is_some o ≡ true → parent_of n all ≡ Some p
    child px f None h i = no i
    child px f (Some x) h i =
        let out = found-out (is_on Child px) n all x (apart forest sound) h in
        let up = (and-true (is_first px.number x.above) (not (is_attribute x.content)) out.1).0 in
        ap (λ o. first_of (above_in o)) out.0 ∙ first x.above (ap (λ k. is_first k x.above) (sym f) ∙ up)

    by : (o : Option Visit) → found p all ≡ o → slice_get (map (λ (v : Visit). v.number) (axis_from Child all o)) at ≡ Some n → parent_of n all ≡ Some p
    by None f i = none-some i
    by (Some px) f i =
        child px (found-number p all px f) (found n (filter (is_on Child px) all)) refl
        (sym (has-found n (filter (is_on Child px) all)) ∙ has-at n at (numbers_of (filter (is_on Child px) all)) i)

-- what is neither an element nor a text has none
pub kid-other : (n : ℕ) (nodes : List Node) → meets is_element (content_at n nodes) ≡ false → meets is_text (content_at n nodes) ≡ false → [] ≡ index_of (visits nodes) n
kid-other n nodes h k = by (content_at n nodes) refl h k
  where
    none : (o : Option Visit) → option_map (λ (v : Visit). v.content) o ≡ None → [] ≡ index_in (visits nodes) o
    none None e = refl
    none (Some v) e = none-some (sym e)

    by : (o : Option Content) → content_at n nodes ≡ o → meets is_element o ≡ false → meets is_text o ≡ false → [] ≡ index_of (visits nodes) n
    by None e i j = none (found n (visits nodes)) (content-seen n [] nodes ∙ e)
    by (Some Root) e i j = sym (root-index n nodes e)
    by (Some (Element name)) e i j = no (sym i)
    by (Some (Attribute name text)) e i j = sym (attribute-index n name text nodes e)
    by (Some (Text text)) e i j = no (sym j)

-- ---- what is not counted

pub count-same : (q : Content → Bool) (nodes : List Node) (ns : List ℕ) (at n : ℕ) → at < length ns → slice_get ns at ≡ Some n → meets q (content_at n nodes) ≡ false → count_in q nodes (take (at + 1) ns) ≡ count_in q nodes (take at ns)
count-same q nodes ns at n h s e =
    let more = count-more q nodes ns at n (content_at n nodes) h s refl in
    let none : cond {A = ℕ} (meets q (content_at n nodes)) 1 0 ≡ 0 = ap (λ b. cond {A = ℕ} b 1 0) e in
    omega (arith, more, none)

pub named-not : (w : List ℕ) (o : Option Content) → meets is_element o ≡ false → meets (is_named w) o ≡ false
named-not w None h = refl
named-not w (Some Root) h = refl
named-not w (Some (Element name)) h = no (sym h)
named-not w (Some (Attribute name text)) h = refl
named-not w (Some (Text text)) h = refl

-- The index of readers and the edges that it gives, step by step.
use Rattle.std.proofs.Common.{◌≡◌, ℕ, zero, suc, ◌+◌, ◌<◌, ◌≤◌, ◌==◌, nat_lt, Bool, true, false, cond, not, ◌&&◌, ◌||◌, List, [], ◌∷◌, ◌++◌, map, take, length, get_or, Option, Some, None, option_map, slice_get, refl, sym, ap, ◌∙◌, subst, arith, take-suc}
use Rattle.std.proofs.lemmas.List.{map-append}
use Rattle.std.proofs.lemmas.List.Folds.{list_any-append}
use Rattle.std.proofs.lemmas.Bool.{eqb-true, false≢true}
use Rattle.std.proofs.lemmas.Bool.Decides.{nat_tests}
use Rattle.std.specs.List.{list_any, flat_map}
use Rattle.std.specs.Map.{lookup}
use Rattle.std.specs.Prelude.{nat_eq}
use Rattle.indexmap.specs.IndexMap.{IndexMap}
use Rattle.xf_def_xpath.proofs.VisitFacts.{none-some, some-same}
use Rattle.xf_def_forest.specs.Visit as doc
use Rattle.xf_graph.specs.declared.order.Order.{Order}
use Rattle.xf_graph.specs.Edges.{Adjacency, has, has_edge, HasEdges, IsWithin}
use Rattle.xf_graph.specs.Order.{IsOrder}
use Rattle.xf_graph.proofs.HasLists.{has-append}
use Rattle.xf_def_model.specs.Circular.{places_from, places_of}
use Rattle.xf_def_forest.specs.declared.node.NodeId.{NodeId}
use Rattle.xf_def_machine.specs.Cycles.{reported_cycle}
use Rattle.xf_def_model.specs.Applied.{Entry}
use Rattle.xf_binds.specs.declared.web.Asks.{Asks}
use Rattle.xf_binds_rebuild.specs.Links.{Source, depends, links, nodes_in, ring_of, source_on}
use Rattle.xf_binds_rebuild.specs.Order.{IsInOrder, IsToldOf}
use Rattle.xf_binds_rebuild.specs.Readers.{list_or, readers_at, reads_by, reads_at, TellsReaders, AreVertices, reads_one, edge_with, edges_before}

-- ---- truths

or-turned : (a b : Bool) → (a || (b || false)) ≡ (b || a)
or-turned true true = refl
or-turned true false = refl
or-turned false true = refl
or-turned false false = refl

pub or-swapped : (a b : Bool) → (a || b) ≡ (b || a)
or-swapped true true = refl
or-swapped true false = refl
or-swapped false true = refl
or-swapped false false = refl

pub both-more : (a h e r : Bool) → ((a && e) || ((h && e) || r)) ≡ (((a || h) && e) || r)
both-more true true true r = refl
both-more true true false r = refl
both-more true false true r = refl
both-more true false false r = refl
both-more false true e r = refl
both-more false false e r = refl

from-more : (e a h r : Bool) → ((e && a) || ((e && h) || r)) ≡ ((e && (a || h)) || r)
from-more true true h r = refl
from-more true false h r = refl
from-more false a h r = refl

pub turned : (a b : ℕ) → (a == b) ≡ (b == a)
turned a b = grind (arith, nat_tests)

-- ---- lists

next-is : (i : ℕ) → i + 1 ≡ suc i
next-is i = omega arith

pub any-next : {X Y : Type 0} (p : Y → Bool) (f : X → Y) (xs : List X) (i : ℕ) (d : X) → i < length xs → list_any p (map f (take (i + 1) xs)) ≡ (p (f (get_or xs i d)) || list_any p (map f (take i xs)))
any-next p f xs i d within =
    ap (λ j. list_any p (map f (take j xs))) (next-is i)
    ∙ ap (λ l. list_any p (map f l)) (take-suc xs i d within)
    ∙ ap (list_any p) (map-append f (take i xs) (get_or xs i d ∷ []))
    ∙ list_any-append p (map f (take i xs)) (f (get_or xs i d) ∷ [])
    ∙ or-turned (list_any p (map f (take i xs))) (p (f (get_or xs i d)))

pub has-next : (xs : List ℕ) (i : ℕ) (d v : ℕ) → i < length xs → has (take (i + 1) xs) v ≡ ((get_or xs i d == v) || has (take i xs) v)
has-next xs i d v within =
    ap (λ j. has (take j xs) v) (next-is i)
    ∙ ap (λ l. has l v) (take-suc xs i d within)
    ∙ has-append (take i xs) (get_or xs i d ∷ []) v
    ∙ or-turned (has (take i xs) v) (get_or xs i d == v)

pub has-there : (xs : List ℕ) (i : ℕ) (d : ℕ) → i < length xs → has xs (get_or xs i d) ≡ true
has-there [] i d within = absurd (omega arith)
has-there (x ∷ xs) zero d within = ap (λ b. b || has xs x) (self x)
  where
    self : (n : ℕ) → (n == n) ≡ true
    self n = grind (arith, nat_tests)
has-there (x ∷ xs) (suc i) d within = or-right (x == get_or xs i d) (has-there xs i d (omega arith))
  where
    or-right : (a : Bool) {b : Bool} → b ≡ true → (a || b) ≡ true
    or-right true h = refl
    or-right false h = h

flat-end : {X Y : Type 0} (f : X → List Y) (xs : List X) (x : X) → flat_map f (xs ++ x ∷ []) ≡ flat_map f xs ++ f x
flat-end f [] x = append-none (f x)
  where
    append-none : {Y : Type 0} (ys : List Y) → ys ++ [] ≡ ys
    append-none [] = refl
    append-none (y ∷ ys) = ap (λ l. y ∷ l) (append-none ys)
flat-end f (y ∷ ys) x = ap (λ l. f y ++ l) (flat-end f ys x) ∙ together (f y) (flat_map f ys) (f x)
  where
    together : {Y : Type 0} (xs ys zs : List Y) → xs ++ (ys ++ zs) ≡ (xs ++ ys) ++ zs
    together [] ys zs = refl
    together (x ∷ xs) ys zs = ap (λ l. x ∷ l) (together xs ys zs)

pub flat-next : {X Y : Type 0} (f : X → List Y) (xs : List X) (i : ℕ) (d : X) → i < length xs → flat_map f (take (i + 1) xs) ≡ flat_map f (take i xs) ++ f (get_or xs i d)
flat-next f xs i d within = ap (λ j. flat_map f (take j xs)) (next-is i) ∙ ap (flat_map f) (take-suc xs i d within) ∙ flat-end f (take i xs) (get_or xs i d)

-- an item of a mapped list
pub item-at : {X Y : Type 0} (f : X → Y) (xs : List X) (i : ℕ) (x : X) (d : Y) → slice_get xs i ≡ Some x → get_or (map f xs) i d ≡ f x
item-at f [] i x d h = none-some h
item-at f (y ∷ ys) zero x d h = ap f (some-same h)
item-at f (y ∷ ys) (suc i) x d h = item-at f ys i x d h

pub item-got : {X Y : Type 0} (f : X → Y) (xs : List X) (i : ℕ) (x : X) → slice_get xs i ≡ Some x → slice_get (map f xs) i ≡ Some (f x)
item-got f [] i x h = none-some h
item-got f (y ∷ ys) zero x h = ap (λ z. Some (f z)) (some-same h)
item-got f (y ∷ ys) (suc i) x h = item-got f ys i x h

pub mapped-length : {X Y : Type 0} (f : X → Y) (xs : List X) → length (map f xs) ≡ length xs
mapped-length f [] = refl
mapped-length f (x ∷ xs) = ap suc (mapped-length f xs)

-- ---- the index

one-less : (i o : ℕ) → (suc i == suc o) ≡ (i == o)
one-less i o = grind (arith, nat_tests)

and-right : (b c r : Bool) → c ≡ false → ((b && c) || r) ≡ r
and-right true true r h = absurd (false≢true (sym h))
and-right true false r h = refl
and-right false c r h = refl

and-left : (b c : Bool) → c ≡ true → b ≡ ((b && c) || false)
and-left true c h = sym (ap (λ x. x || false) h)
and-left false c h = refl

reads-more : (xs : List Source) (i o n : ℕ) (d : Source) → i < length xs → reads_at (take (suc i) xs) o n ≡ ((doc.has n (get_or xs i d).asks.reads && (i == o)) || reads_at (take i xs) o n)
reads-more [] i o n d within = absurd (omega arith)
reads-more (x ∷ xs) zero zero n d within = and-left (doc.has n x.asks.reads) (0 == 0) refl
reads-more (x ∷ xs) zero (suc o) n d within = sym (and-right (doc.has n x.asks.reads) (0 == suc o) false (let f : (0 == suc o) ≡ false = grind (arith, nat_tests) in f))
reads-more (x ∷ xs) (suc i) zero n d within = sym (and-right (doc.has n (get_or xs i d).asks.reads) (suc i == 0) (doc.has n x.asks.reads) (let f : (suc i == 0) ≡ false = grind (arith, nat_tests) in f))
reads-more (x ∷ xs) (suc i) (suc o) n d within =
    reads-more xs i o n d (omega arith) ∙ ap (λ b. (doc.has n (get_or xs i d).asks.reads && b) || reads_at (take i xs) o n) (sym (one-less i o))

pub reads-next : (xs : List Source) (i o n : ℕ) (source : Source) → slice_get xs i ≡ Some source
    → reads_at (take (i + 1) xs) o n ≡ ((doc.has n source.asks.reads && (i == o)) || reads_at (take i xs) o n)
reads-next xs i o n source h =
    ap (λ j. reads_at (take j xs) o n) (next-is i)
    ∙ reads-more xs i o n source (there xs i source h)
    ∙ ap (λ (s : Source). (doc.has n s.asks.reads && (i == o)) || reads_at (take i xs) o n) (got xs i source h)
  where
    there : {X : Type 0} (xs : List X) (i : ℕ) (x : X) → slice_get xs i ≡ Some x → i < length xs
    there [] i x h = none-some h
    there (y ∷ ys) zero x h = omega arith
    there (y ∷ ys) (suc i) x h = (let l = there ys i x h in omega arith)

    got : {X : Type 0} (xs : List X) (i : ℕ) (x : X) → slice_get xs i ≡ Some x → get_or xs i x ≡ x
    got [] i x h = none-some h
    got (y ∷ ys) zero x h = some-same h
    got (y ∷ ys) (suc i) x h = got ys i x h

pub read-within : (xs : List Source) (place n : ℕ) → reads_at xs place n ≡ true → place < length xs
read-within [] place n h = absurd (false≢true h)
read-within (x ∷ xs) zero n h = omega arith
read-within (x ∷ xs) (suc place) n h = (let l = read-within xs place n h in omega arith)

-- ---- edges

pub edges-none : (graph : Adjacency) (vertex : ℕ) (none : ℕ → Bool) → ((r : ℕ) → none r ≡ false) → HasEdges graph (length graph) (edge_with graph vertex none)
edges-none graph vertex none h = record { size = refl; edges = λ from to. sym (and-right (vertex == from) (none to) (has_edge graph from to) (h to)) }

pub edges-same : (graph old : Adjacency) (vertex count : ℕ) (one other : ℕ → Bool) → HasEdges graph count (edge_with old vertex one) → ((r : ℕ) → one r ≡ other r) → HasEdges graph count (edge_with old vertex other)
edges-same graph old vertex count one other h e = record { size = h.size; edges = λ from to. h.edges from to ∙ ap (λ b. ((vertex == from) && b) || has_edge old from to) (e to) }

pub edges-more : (old mid new : Adjacency) (vertex count : ℕ) (one so_far more : ℕ → Bool) → HasEdges mid count (edge_with old vertex so_far) → HasEdges new (length mid) (edge_with mid vertex one)
    → ((r : ℕ) → more r ≡ (one r || so_far r)) → HasEdges new count (edge_with old vertex more)
edges-more old mid new vertex count one so_far more h k e = record {
  size = k.size ∙ h.size;
  edges = λ from to.
      k.edges from to
      ∙ ap (λ b. ((vertex == from) && one to) || b) (h.edges from to)
      ∙ from-more (vertex == from) (one to) (so_far to) (has_edge old from to)
      ∙ ap (λ b. ((vertex == from) && b) || has_edge old from to) (sym (e to));
}

-- ---- the edges of the calculates

abbrev pub tested : {X : Type 0} → (X → Bool) → Option X → Bool
tested test None = false
tested test (Some x) = test x

past-none : {X : Type 0} (at : ℕ) (test : X → Bool) (xs : List X) (k : ℕ) → k < at → has (places_from at test xs) k ≡ false
past-none at test [] k less = refl
past-none at test (x ∷ xs) k less = by (test x) (past-none (suc at) test xs k (omega arith))
  where
    other : (at == k) ≡ false
    other = grind (arith, nat_tests, less)

    by : (b : Bool) → has (places_from (suc at) test xs) k ≡ false → has (cond b (at ∷ places_from (suc at) test xs) (places_from (suc at) test xs)) k ≡ false
    by true h = ap (λ c. c || has (places_from (suc at) test xs) k) other ∙ h
    by false h = h

pub has-places : {X : Type 0} (at : ℕ) (test : X → Bool) (xs : List X) (k : ℕ) → has (places_from at test xs) (at + k) ≡ tested test (slice_get xs k)
has-places at test [] k = refl
has-places at test (x ∷ xs) zero = by (test x) (past-none (suc at) test xs (at + 0) (omega arith))
  where
    same : (at == at + 0) ≡ true
    same = grind (arith, nat_tests)

    by : (b : Bool) → has (places_from (suc at) test xs) (at + 0) ≡ false → has (cond b (at ∷ places_from (suc at) test xs) (places_from (suc at) test xs)) (at + 0) ≡ b
    by true h = ap (λ c. c || has (places_from (suc at) test xs) (at + 0)) same
    by false h = h
has-places at test (x ∷ xs) (suc k) = by (test x) (ap (has (places_from (suc at) test xs)) moved ∙ has-places (suc at) test xs k)
  where
    moved : at + suc k ≡ suc at + k
    moved = omega arith

    other : (at == at + suc k) ≡ false
    other = grind (arith, nat_tests)

    by : (b : Bool) → has (places_from (suc at) test xs) (at + suc k) ≡ tested test (slice_get xs k)
        → has (cond b (at ∷ places_from (suc at) test xs) (places_from (suc at) test xs)) (at + suc k) ≡ tested test (slice_get xs k)
    by true h = ap (λ c. c || has (places_from (suc at) test xs) (at + suc k)) other ∙ h
    by false h = h

any-false : {X : Type 0} (xs : List X) → list_any (λ x. false) xs ≡ false
any-false [] = refl
any-false (x ∷ xs) = any-false xs

any-same : {X : Type 0} (p q : X → Bool) → ((x : X) → p x ≡ q x) → (xs : List X) → list_any p xs ≡ list_any q xs
any-same p q h [] = refl
any-same p q h (x ∷ xs) = ap (λ b. b || list_any p xs) (h x) ∙ ap (λ b. q x || b) (any-same p q h xs)

tested-reads : (source : Source) (o : Option Source) → tested (λ reader. depends source reader.asks.reads) o ≡ list_any (reads_by o) (source.node ∷ source.asks.above)
tested-reads source None = sym (any-false (source.node ∷ source.asks.above))
tested-reads source (Some reader) = refl

pub zero-plus : (k : ℕ) → 0 + k ≡ k
zero-plus k = omega arith

-- those who read the node at a place or an ancestor of it
pub links-at : {S : Type 0} (sources : List Source) (readers : IndexMap ℕ (List ℕ) S) (place to : ℕ) (source : Source) → TellsReaders sources readers → slice_get sources place ≡ Some source
    → reads_one readers (source.node ∷ source.asks.above) to ≡ has_edge (links sources) place to
links-at sources readers place to source tells h =
    any-same (λ n. has (readers_at readers n) to) (reads_by (slice_get sources to)) (λ n. tells n to) (source.node ∷ source.asks.above)
    ∙ sym (tested-reads source (slice_get sources to))
    ∙ sym (has-places 0 (λ reader. depends source reader.asks.reads) sources to)
    ∙ ap (has (places_of (λ reader. depends source reader.asks.reads) sources)) (zero-plus to)
    ∙ ap (λ l. has l to) (sym (item-at (λ s. places_of (λ reader. depends s reader.asks.reads) sources) sources place source [] h))

none-past : {X Y : Type 0} (f : X → List Y) (xs : List X) (i : ℕ) → length xs ≤ i → get_or (map f xs) i [] ≡ []
none-past f [] i h = refl
none-past f (x ∷ xs) zero h = absurd (omega arith)
none-past f (x ∷ xs) (suc i) h = none-past f xs i (omega arith)

pub before-all : (sources : List Source) (place from to : ℕ) → length sources ≤ place → edges_before sources place from to ≡ has_edge (links sources) from to
before-all sources place from to high = by (nat_lt from place) refl
  where
    by : (b : Bool) → nat_lt from place ≡ b → (b && has_edge (links sources) from to) ≡ has_edge (links sources) from to
    by true e = refl
    by false e = sym (ap (λ l. has l to) (none-past (λ s. places_of (λ reader. depends s reader.asks.reads) sources) sources from (let n : length sources ≤ from = grind (arith, nat_tests, e, high) in n)))

pub before-none : (sources : List Source) (from to : ℕ) → false ≡ edges_before sources 0 from to
before-none sources from to = ap (λ b. b && has_edge (links sources) from to) (let e : false ≡ nat_lt from 0 = grind (arith, nat_tests) in e)

pub before-next : (sources : List Source) (place from to : ℕ) (one : Bool) → one ≡ has_edge (links sources) place to
    → (((place == from) && one) || edges_before sources place from to) ≡ edges_before sources (place + 1) from to
before-next sources place from to one e = by (place == from) refl
  where
    left : (a : Bool) → (a || (false && a)) ≡ a
    left true = refl
    left false = refl

    by : (b : Bool) → (place == from) ≡ b → ((b && one) || edges_before sources place from to) ≡ edges_before sources (place + 1) from to
    by true h =
        let same : place ≡ from = eqb-true place from h in
        let low : nat_lt from place ≡ false = grind (arith, nat_tests, same) in
        let high : nat_lt from (place + 1) ≡ true = grind (arith, nat_tests, same) in
        ap (λ b. one || (b && has_edge (links sources) from to)) low
        ∙ or-none one
        ∙ e
        ∙ ap (λ v. has_edge (links sources) v to) same
        ∙ ap (λ b. b && has_edge (links sources) from to) (sym high)
      where
        or-none : (a : Bool) → (a || false) ≡ a
        or-none true = refl
        or-none false = refl
    by false h = ap (λ b. b && has_edge (links sources) from to) (let t : nat_lt from place ≡ nat_lt from (place + 1) = grind (arith, nat_tests, h) in t)

-- ---- one reader more

pub pushed : (number place n other : ℕ) (list new : List ℕ) (before after : Option (List ℕ)) → after ≡ cond (number == n) (Some new) before → new ≡ list ++ place ∷ []
    → ((number == n) ≡ true → before ≡ Some list) → has (list_or after) other ≡ (((number == n) && (place == other)) || has (list_or before) other)
pushed number place n other list new before after h more had = by (number == n) h had
  where
    by : (b : Bool) → after ≡ cond b (Some new) before → (b ≡ true → before ≡ Some list) → has (list_or after) other ≡ ((b && (place == other)) || has (list_or before) other)
    by true i k =
        ap (λ o. has (list_or o) other) i
        ∙ ap (λ l. has l other) more
        ∙ has-append list (place ∷ []) other
        ∙ or-turned (has list other) (place == other)
        ∙ ap (λ o. (place == other) || has (list_or o) other) (sym (k refl))
    by false i k = ap (λ o. has (list_or o) other) i

-- of nodes that are read
pub added-next : (ids : List NodeId) (i : ℕ) (d : NodeId) (place n other : ℕ) (new mid old : Bool) → i < length ids
    → new ≡ ((((get_or ids i d).number == n) && (place == other)) || mid) → mid ≡ ((doc.has n (map (λ (x : NodeId). x.number) (take i ids)) && (place == other)) || old)
    → new ≡ ((doc.has n (map (λ (x : NodeId). x.number) (take (i + 1) ids)) && (place == other)) || old)
added-next ids i d place n other new mid old within h k =
    h
    ∙ ap (λ b. (((get_or ids i d).number == n) && (place == other)) || b) k
    ∙ ap (λ b. (b && (place == other)) || ((doc.has n (map (λ (x : NodeId). x.number) (take i ids)) && (place == other)) || old)) (turned (get_or ids i d).number n)
    ∙ both-more (n == (get_or ids i d).number) (doc.has n (map (λ (x : NodeId). x.number) (take i ids))) (place == other) old
    ∙ ap (λ b. (b && (place == other)) || old) (sym (any-next (λ m. n == m) (λ (x : NodeId). x.number) ids i d within))

-- ---- what is found

pub nodes-of : (entries : List Entry) (web : List Asks) (nodes : List ℕ) → map (λ (s : Source). s.node) (map (source_on entries web) nodes) ≡ nodes
nodes-of entries web [] = refl
nodes-of entries web (n ∷ ns) = ap (λ l. n ∷ l) (nodes-of entries web ns)

pub told-is : (entries : List Entry) (web : List Asks) (nodes : List ℕ) (graph : Adjacency) (told : Order)
    → HasEdges graph (length nodes) (has_edge (links (map (source_on entries web) nodes)))
    → ((other : Adjacency) → HasEdges graph (length other) (has_edge other) → IsToldOf other told)
    → IsToldOf (links (map (source_on entries web) nodes)) told
told-is entries web nodes graph told h is =
    let sources = map (source_on entries web) nodes in
    let size : length nodes ≡ length (links sources) =
    sym (mapped-length (λ s. places_of (λ reader. depends s reader.asks.reads) sources) sources ∙ mapped-length (source_on entries web) nodes) in
    is (links sources) (subst (λ n. HasEdges graph n (has_edge (links sources))) size h)

pub ring-is : (entries : List Entry) (web : List Asks) (nodes : List ℕ) (cycle : Option (List ℕ)) → reported_cycle (links (map (source_on entries web) nodes)) ≡ cycle
    → option_map (nodes_in nodes) cycle ≡ ring_of (map (source_on entries web) nodes)
ring-is entries web nodes cycle h =
    ap (option_map (nodes_in nodes)) (sym h) ∙ ap (λ ns. option_map (nodes_in ns) (reported_cycle (links (map (source_on entries web) nodes)))) (sym (nodes-of entries web nodes))

pub in-order-some : (entries : List Entry) (web : List Asks) (nodes places found : List ℕ) → IsOrder (links (map (source_on entries web) nodes)) places → found ≡ nodes_in nodes places
    → IsInOrder (map (source_on entries web) nodes) (Some found)
in-order-some entries web nodes places found order e = (places, order, e ∙ ap (λ ns. nodes_in ns places) (sym (nodes-of entries web nodes)))

pub none-new : {S : Type 0} (readers : IndexMap ℕ (List ℕ) S) (n place : ℕ) → readers.entries ≡ [] → has (readers_at readers n) place ≡ false
none-new readers n place empty = ap (λ es. has (list_or (lookup (nat_eq n) es)) place) empty

-- ---- places of a list join no more than the list has

some-item : {X : Type 0} (f : X → List ℕ) (xs : List X) (i k : ℕ) → has (get_or (map f xs) i []) k ≡ true → (i < length xs) × ((x : X) × (has (f x) k ≡ true))
some-item f [] i k h = absurd (false≢true h)
some-item f (x ∷ xs) zero k h = (omega arith, (x, h))
some-item f (x ∷ xs) (suc i) k h = let s = some-item f xs i k h in ((let l = s.0 in omega arith), s.1)

got-within : {X : Type 0} (test : X → Bool) (xs : List X) (k : ℕ) → tested test (slice_get xs k) ≡ true → k < length xs
got-within test [] k h = absurd (false≢true h)
got-within test (x ∷ xs) zero h = omega arith
got-within test (x ∷ xs) (suc k) h = (let l = got-within test xs k h in omega arith)

pub places-within : {X : Type 0} (test : X → X → Bool) (xs : List X) → IsWithin (map (λ x. places_of (test x) xs) xs)
places-within test xs from to edge =
    let s = some-item (λ x. places_of (test x) xs) xs from to edge in
    let t = got-within (test s.1.0) xs to (sym (has-places 0 (test s.1.0) xs to) ∙ ap (has (places_of (test s.1.0) xs)) (zero-plus to) ∙ s.1.1) in
    let size = mapped-length (λ x. places_of (test x) xs) xs in
    let l = s.0 in
    (omega arith, omega arith)

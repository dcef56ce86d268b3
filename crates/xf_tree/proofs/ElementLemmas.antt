-- The elements that are open at a node are those of it and its ancestors.
use Rattle.std.proofs.Common.{◌≡◌, ℕ, ◌+◌, ◌<◌, ◌≤◌, ◌&&◌, ◌||◌, Bool, true, false, cond, if◌then◌else◌, List, [], ◌∷◌, ◌++◌, map, take, drop, get_or, reverse, append-nil, refl, sym, ap, ◌∙◌, inl, inr, arith}
use Rattle.std.specs.Prelude.{count_by}
use Rattle.std.proofs.lemmas.Bool.{cases_lt}
use Rattle.std.proofs.lemmas.List.{take-append-drop, map-append, reverse-append}
use Rattle.slab.specs.Slab.{Slab}
use Rattle.xf_def_forest.specs.declared.content.Node.{Node}
use Rattle.xf_def_forest.specs.Changes.{elements_above}
use Rattle.xf_def_forest.specs.Forest.{has_number, is_element}
use Rattle.xf_def_forest.specs.Visit.{Visit, visit, visits, visits_from, still_above, numbers, has, ancestors_of}
use Rattle.xf_def_forest.proofs.RenumberLaws.{map-reverse}
use Rattle.xf_tree_rows.specs.declared.rows.Row.{Row}
use Rattle.xf_tree_rows.specs.Rows.{no_row}
use Rattle.xf_tree_rows.proofs.SizedLemmas.{lt-true, lt-false}
use Rattle.xf_tree_rows.proofs.RowLemmas.{reverse-take}
use Rattle.xf_tree_contents.specs.Slot.{Slot}
use Rattle.xf_tree_contents.proofs.AlikeLemmas.{eq-true}
use Rattle.xf_tree_walks.specs.Nodes.{node_of, times, StandsAt}
use Rattle.xf_tree_walks.proofs.NodeLemmas.{eq-turned, times-append, absent-times}
use Rattle.xf_tree_walks.proofs.CountLemmas.{count-append, count-cons}
use Rattle.xf_tree_walks.proofs.StackLemmas.{stack, absent-above, absent-cons, absent-parts, has-numbers, still-shut, parted-ancestors}
use Rattle.xf_tree_walks.proofs.PlaceLemmas.{stands}
use Rattle.xf_tree_walks.proofs.ParentLemmas.{opened, stack-opened}
use Rattle.xf_tree_changes.specs.Below.{elements_open, elements_over}

-- an element among these nodes
abbrev is_among : List Node → Node → Bool
is_among open_nodes z = is_element z.content && has_number z.number open_nodes

count-reverse : (p : Node → Bool) (xs : List Node) → count_by p (reverse xs) ≡ count_by p xs
count-reverse p [] = refl
count-reverse p (x ∷ xs) =
    ap (count_by p) (reverse-append (x ∷ []) xs) ∙ count-append p (reverse xs) (x ∷ [])
    ∙ (let a = count-cons p x [] in let b = count-cons p x xs in let e = count-reverse p xs in omega arith)

-- visits are counted as their nodes
visits-count : (ns : List ℕ) (above xs : List Node)
    → count_by (λ (v : Visit). is_element v.content && has v.number ns) (visits_from above xs) ≡ count_by (λ (x : Node). is_element x.content && has x.number ns) xs
visits-count ns above [] = refl
visits-count ns above (x ∷ xs) =
    count-cons (λ (v : Visit). is_element v.content && has v.number ns) (visit above x) (visits_from (x ∷ still_above x.depth above) xs)
    ∙ ap (λ k. cond (is_element x.content && has x.number ns) 1 0 + k) (visits-count ns (x ∷ still_above x.depth above) xs)
    ∙ sym (count-cons (λ (y : Node). is_element y.content && has y.number ns) x xs)

-- by nodes in place of their numbers
among-count : (open_nodes xs : List Node) → count_by (λ (x : Node). is_element x.content && has x.number (numbers open_nodes)) xs ≡ count_by (is_among open_nodes) xs
among-count open_nodes [] = refl
among-count open_nodes (x ∷ xs) =
    count-cons (λ (y : Node). is_element y.content && has y.number (numbers open_nodes)) x xs
    ∙ ap (λ b. cond (is_element x.content && b) 1 0 + count_by (λ (y : Node). is_element y.content && has y.number (numbers open_nodes)) xs) (has-numbers x.number open_nodes)
    ∙ ap (λ k. cond (is_among open_nodes x) 1 0 + k) (among-count open_nodes xs) ∙ sym (count-cons (is_among open_nodes) x xs)

-- another node among them makes no difference to those of other numbers
other-count : (a : Node) (open_nodes zs : List Node) → has_number a.number zs ≡ false → count_by (is_among (a ∷ open_nodes)) zs ≡ count_by (is_among open_nodes) zs
other-count a open_nodes [] h = refl
other-count a open_nodes (z ∷ zs) h =
    let q = absent-parts a.number z zs h in
    count-cons (is_among (a ∷ open_nodes)) z zs
    ∙ ap (λ b. cond (is_element z.content && (b || has_number z.number open_nodes)) 1 0 + count_by (is_among (a ∷ open_nodes)) zs) (eq-turned a.number z.number ∙ q.0)
    ∙ ap (λ k. cond (is_among open_nodes z) 1 0 + k) (other-count a open_nodes zs q.1) ∙ sym (count-cons (is_among open_nodes) z zs)

absent-opened : (n : ℕ) (ys : List Node) → has_number n ys ≡ false → has_number n (opened ys) ≡ false
absent-opened n [] h = refl
absent-opened n (y ∷ ys) h = let q = absent-parts n y ys h in absent-cons n y (still_above y.depth (opened ys)) q.0 (absent-above n y.depth (opened ys) (absent-opened n ys q.1))

-- no number comes twice
abbrev AreApart : List Node → Type 0
AreApart nodes = (k : ℕ) → times k nodes ≤ 1

apart-head : (y : Node) (ys : List Node) → AreApart (y ∷ ys) → has_number y.number ys ≡ false
apart-head y ys apart = absent-times y.number ys (let a = apart y.number in let e = ap {B = ℕ} (λ b. if b then 1 else 0) (eq-true y.number y.number refl) in omega arith)

apart-rest : (y : Node) (ys : List Node) → AreApart (y ∷ ys) → AreApart ys
apart-rest y ys apart = λ k. let a = apart k in omega arith

and-true : (b : Bool) → (b && true) ≡ b
and-true true = refl
and-true false = refl

and-false : (b : Bool) → (b && false) ≡ false
and-false true = refl
and-false false = refl

-- going back over the rows, the nearest first
open-count : (s : Slab Slot) (d : ℕ) (ys : List Row) → AreApart (map (node_of s) ys)
    → count_by (is_among (still_above d (opened (map (node_of s) ys)))) (map (node_of s) ys) ≡ elements_open s d ys
open-count s d [] apart = refl
open-count s d (y ∷ ys) apart =
    let f = node_of s in
    let S = still_above y.depth (opened (map f ys)) in
    let absent = apart-head (f y) (map f ys) apart in
    elim (cases_lt y.depth d) [
      | inl l ↦
          rw (lt-true y.depth d l) (
          count-cons (is_among (f y ∷ S)) (f y) (map f ys)
          ∙ ap (λ b. cond (is_element (f y).content && (b || has_number (f y).number S)) 1 0 + count_by (is_among (f y ∷ S)) (map f ys)) (eq-true (f y).number (f y).number refl)
          ∙ ap (λ b. cond b 1 0 + count_by (is_among (f y ∷ S)) (map f ys)) (and-true (is_element (f y).content))
          ∙ ap (λ k. cond (is_element (f y).content) 1 0 + k) (other-count (f y) S (map f ys) absent ∙ open-count s y.depth ys (apart-rest (f y) (map f ys) apart))
          )
      | inr l ↦
          let rest = still_above d (opened (map f ys)) in
          let same : still_above d S ≡ rest = still-shut d y.depth (opened (map f ys)) l in
          let none : has_number (f y).number rest ≡ false = absent-above (f y).number d (opened (map f ys)) (absent-opened (f y).number (map f ys) absent) in
          rw (lt-false y.depth d l) (
          ap (λ o. count_by (is_among o) (f y ∷ map f ys)) same ∙ count-cons (is_among rest) (f y) (map f ys)
          ∙ ap (λ b. cond (is_element (f y).content && b) 1 0 + count_by (is_among rest) (map f ys)) none
          ∙ ap (λ b. cond b 1 0 + count_by (is_among rest) (map f ys)) (and-false (is_element (f y).content))
          ∙ (let i = open-count s d ys (apart-rest (f y) (map f ys) apart) in omega arith)
          )
    ]

-- nodes that are not among these count nothing
none-count : (ps open_nodes zs : List Node) → ((n : ℕ) → has_number n ps ≡ false → has_number n open_nodes ≡ false) → ((k : ℕ) → times k ps + times k zs ≤ 1) → count_by (is_among open_nodes) zs ≡ 0
none-count ps open_nodes [] gone apart = refl
none-count ps open_nodes (z ∷ zs) gone apart =
    let e = ap {B = ℕ} (λ b. if b then 1 else 0) (eq-true z.number z.number refl) in
    let none = gone z.number (absent-times z.number ps (let a = apart z.number in omega arith)) in
    count-cons (is_among open_nodes) z zs
    ∙ ap (λ b. cond (is_element z.content && b) 1 0 + count_by (is_among open_nodes) zs) none
    ∙ ap (λ b. cond b 1 0 + count_by (is_among open_nodes) zs) (and-false (is_element z.content))
    ∙ (let i = none-count ps open_nodes zs gone (λ k. let a = apart k in omega arith) in omega arith)

pub elements-mean : (s : Slab Slot) (m above : ℕ) (rows : List Row) → StandsAt s rows m above → ((k : ℕ) → times k (map (node_of s) rows) ≤ 1)
    → elements_above m (visits (map (node_of s) rows)) ≡ elements_over s rows above
elements-mean s m above rows there apart =
    let f = node_of s in
    let us = take above rows in
    let x = get_or rows above no_row in
    let back = reverse (take (above + 1) rows) in
    let ps = map f (take (above + 1) rows) in
    let zs = map f (drop (above + 1) rows) in
    let O = opened (map f back) in
    let split : map f rows ≡ ps ++ zs = ap (map f) (sym (take-append-drop (above + 1) rows)) ∙ map-append f (take (above + 1) rows) (drop (above + 1) rows) in
    let both : (k : ℕ) → times k ps + times k zs ≤ 1 = λ k. omega (arith, apart k, ap (times k) split, times-append k ps zs) in
    let turn : map f back ≡ reverse ps = map-reverse f (take (above + 1) rows) in
    let p = stands s m above rows there (apart m) in
    let r : stack [] (map f us) ≡ opened (map f (reverse us)) = stack-opened [] (map f us) ∙ ap opened (append-nil (reverse (map f us)) ∙ sym (map-reverse f us)) in
    let ancestors : ancestors_of m (visits (map f rows)) ≡ numbers (still_above x.depth (opened (map f (reverse us)))) = parted-ancestors m _ _ _ _ p ∙ ap (λ l. numbers (still_above x.depth l)) r in
    let first : back ≡ x ∷ reverse us = reverse-take rows above no_row there.within in
    let list : (m ∷ ancestors_of m (visits (map f rows))) ≡ numbers O =
    ap (λ l. m ∷ l) ancestors ∙ ap (λ k. k ∷ numbers (still_above x.depth (opened (map f (reverse us))))) (sym there.number) ∙ ap (λ l. numbers (opened (map f l))) (sym first) in
    let one = ap (λ l. count_by (λ (v : Visit). is_element v.content && has v.number l) (visits (map f rows))) list ∙ visits-count (numbers O) [] (map f rows) ∙ among-count O (map f rows) in
    let two = ap (count_by (is_among O)) split ∙ count-append (is_among O) ps zs in
    let gone : (n : ℕ) → has_number n (map f back) ≡ false → has_number n O ≡ false = λ n h. absent-opened n (map f back) h in
    let times_back : (k : ℕ) → times k (map f back) ≡ times k ps = λ k. ap (times k) turn ∙ times-reverse k ps in
    let none = none-count (map f back) O zs gone (λ k. omega (arith, both k, times_back k)) in
    let l : x.depth < x.depth + 1 = omega arith in
    let all_open : still_above (x.depth + 1) O ≡ O = ap (λ b. still_above (x.depth + 1) (opened (map f b))) first ∙ rw (lt-true x.depth (x.depth + 1) l) refl ∙ ap (λ b. opened (map f b)) (sym first) in
    let apart_back : AreApart (map f back) = λ k. omega (arith, both k, times_back k) in
    let front : count_by (is_among O) ps ≡ elements_over s rows above =
    sym (count-reverse (is_among O) ps) ∙ ap (count_by (is_among O)) (sym turn) ∙ ap (λ o. count_by (is_among o) (map f back)) (sym all_open) ∙ open-count s (x.depth + 1) back apart_back in
    omega (arith, one, two, none, front)
  where
    times-reverse : (k : ℕ) (xs : List Node) → times k (reverse xs) ≡ times k xs
    times-reverse k [] = refl
    times-reverse k (x ∷ xs) = ap (times k) (reverse-append (x ∷ []) xs) ∙ times-append k (reverse xs) (x ∷ []) ∙ (let i = times-reverse k xs in omega arith)

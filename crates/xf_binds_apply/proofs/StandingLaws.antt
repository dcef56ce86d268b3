-- Where nodes stand in sets, as one more comes.
use Rattle.std.proofs.Common.{◌≡◌, ℕ, zero, suc, ◌+◌, ◌<◌, ◌==◌, nat_eq, Bool, true, false, cond, not, ◌&&◌, ◌||◌, List, [], ◌∷◌, ◌++◌, map, take, length, get_or, Option, Some, refl, sym, ap, ◌∙◌, arith, append_assoc, take-suc}
use Rattle.std.specs.List.{flat_map, position_or_len, prefix_len}
use Rattle.std.proofs.lemmas.Grind.{flat_map-append}
use Rattle.std.proofs.lemmas.Bool.{eqb-true}
use Rattle.std.proofs.lemmas.Bool.Decides.{nat_tests}
use Rattle.std.proofs.lemmas.List.{map-append}
use Rattle.std.proofs.lemmas.List.Concat.{flat_map-cons}
use Rattle.std.proofs.lemmas.List.Folds.{list_any-append}
use Rattle.indexmap.specs.IndexMap.{IndexMap, get}
use Rattle.xf_def_forest.specs.declared.node.NodeId.{NodeId}
use Rattle.xf_def_forest.specs.Visit.{has}
use Rattle.xf_def_xpath.specs.Agree.{are_apart}
use Rattle.xf_def_xpath.specs.Setting.{joined}
use Rattle.xf_def_xpath.proofs.VisitFacts.{some-same}
use Rattle.xf_def_model.specs.Applied.{standing_in}
use Rattle.xf_eval.proofs.Lists.{append-none}
use Rattle.xf_binds_apply.specs.declared.standings.Standing.{Standing}
use Rattle.xf_binds_apply.specs.Standing.{AreStandings, first_standing, is_more, once_more}

abbrev pub numbers : List NodeId → List ℕ
numbers ids = map (λ (n : NodeId). n.number) ids

no : {A : Type 0} → false ≡ true → A
no h = cc h

and-true : (a b : Bool) → (a && b) ≡ true → (a ≡ true) × (b ≡ true)
and-true true b h = (refl, h)
and-true false b h = no h

not-true : (a : Bool) → not a ≡ true → a ≡ false
not-true true h = no h
not-true false h = refl

equal : (n : ℕ) → (n == n) ≡ true
equal n = grind (arith, nat_tests)

swap : (a b : ℕ) → (a == b) ≡ (b == a)
swap a b = grind (arith, nat_tests)

or-left : (a b : Bool) → a ≡ true → (a || b) ≡ true
or-left true b h = refl
or-left false b h = no h

or-right : (a b : Bool) → b ≡ true → (a || b) ≡ true
or-right true b h = refl
or-right false b h = h

-- ---- a node among others, none of which comes twice

has-at : (ids : List NodeId) (i : ℕ) (d : NodeId) → i < length ids → has (get_or ids i d).number (numbers ids) ≡ true
has-at [] i d l = absurd (omega arith)
has-at (x ∷ ids) zero d l = or-left (x.number == x.number) (has x.number (numbers ids)) (equal x.number)
has-at (x ∷ ids) (suc i) d l = or-right ((get_or ids i d).number == x.number) (has (get_or ids i d).number (numbers ids)) (has-at ids i d (omega arith))

-- a later one is another
another : (x : NodeId) (ids : List NodeId) (i : ℕ) (d : NodeId) → not (has x.number (numbers ids)) ≡ true → i < length ids → ((get_or ids i d).number == x.number) ≡ false
another x ids i d h l = by ((get_or ids i d).number == x.number) refl
  where
    by : (b : Bool) → ((get_or ids i d).number == x.number) ≡ b → b ≡ false
    by true e = no (sym (not-true (has x.number (numbers ids)) h) ∙ ap (λ k. has k (numbers ids)) (sym (eqb-true (get_or ids i d).number x.number e)) ∙ has-at ids i d l)
    by false e = refl

pub before-none : (ids : List NodeId) (i : ℕ) (d : NodeId) → are_apart (numbers ids) ≡ true → i < length ids → has (get_or ids i d).number (numbers (take i ids)) ≡ false
before-none [] i d a l = absurd (omega arith)
before-none (x ∷ ids) zero d a l = refl
before-none (x ∷ ids) (suc i) d a l =
    let p = and-true (not (has x.number (numbers ids))) (are_apart (numbers ids)) a in
    ap (λ b. b || has (get_or ids i d).number (numbers (take i ids))) (another x ids i d p.0 (omega arith)) ∙ before-none ids i d p.1 (omega arith)

pub place-at : (ids : List NodeId) (i : ℕ) (d : NodeId) → are_apart (numbers ids) ≡ true → i < length ids → position_or_len (λ m. m == (get_or ids i d).number) (numbers ids) ≡ i
place-at [] i d a l = absurd (omega arith)
place-at (x ∷ ids) zero d a l = ap (λ b. cond (not b) (1 + prefix_len (λ m. not (m == x.number)) (numbers ids)) 0) (equal x.number)
place-at (x ∷ ids) (suc i) d a l =
    let p = and-true (not (has x.number (numbers ids))) (are_apart (numbers ids)) a in
    let n : ℕ = (get_or ids i d).number in
    let rest : prefix_len (λ m. not (m == n)) (numbers ids) ≡ i = place-at ids i d p.1 (omega arith) in
    ap (λ b. cond (not b) (1 + prefix_len (λ m. not (m == n)) (numbers ids)) 0) (swap x.number n ∙ another x ids i d p.0 (omega arith)) ∙ (let one : 1 + prefix_len (λ m. not (m == n)) (numbers ids) ≡ suc i = omega (arith, rest) in one)

pub numbers-next : (ids : List NodeId) (i : ℕ) (d : NodeId) (ns : List ℕ) → i < length ids → (ns ++ numbers (take i ids)) ++ (get_or ids i d).number ∷ [] ≡ ns ++ numbers (take (i + 1) ids)
numbers-next ids i d ns l =
    append_assoc ns (numbers (take i ids)) ((get_or ids i d).number ∷ [])
    ∙ sym (ap (λ m. ns ++ m) (
    ap (λ j. numbers (take j ids)) (let e : i + 1 ≡ suc i = omega arith in e)
    ∙ ap numbers (take-suc ids i d l)
    ∙ map-append (λ (x : NodeId). x.number) (take i ids) (get_or ids i d ∷ [])))

or-one : (a b : Bool) → (a || (b || false)) ≡ cond b true a
or-one true true = refl
or-one true false = refl
or-one false true = refl
or-one false false = refl

has-next : (ids : List NodeId) (i : ℕ) (d : NodeId) → i < length ids → (n : ℕ) → has n (numbers (take (i + 1) ids)) ≡ cond (nat_eq (get_or ids i d).number n) true (has n (numbers (take i ids)))
has-next ids i d within n =
    ap (λ j. has n (numbers (take j ids))) (let e : i + 1 ≡ suc i = omega arith in e)
    ∙ ap (λ l. has n (numbers l)) (take-suc ids i d within)
    ∙ ap (has n) (map-append (λ (x : NodeId). x.number) (take i ids) (get_or ids i d ∷ []))
    ∙ list_any-append (λ m. n == m) (numbers (take i ids)) ((get_or ids i d).number ∷ [])
    ∙ ap (λ b. has n (numbers (take i ids)) || (b || false)) (swap n (get_or ids i d).number)
    ∙ or-one (has n (numbers (take i ids))) ((get_or ids i d).number == n)

-- ---- one set

-- what stands in a part of a set, once more than before
abbrev pub with_part : List ℕ → List ℕ → ℕ → Option Standing → Option Standing
with_part set part n old = cond (has n part) (Some (once_more (suc (position_or_len (λ m. m == n) set)) (length set) old)) old

abbrev pub PartPlaced : {S T : Type 0} → IndexMap ℕ Standing S → IndexMap ℕ Standing T → List ℕ → List ℕ → Type 0
PartPlaced old now set part = (n : ℕ) → get nat_eq now n ≡ with_part set part n (get nat_eq old n)

pub placed-next : {S T U : Type 0} (ids : List NodeId) (i : ℕ) (d : NodeId) (old : IndexMap ℕ Standing S) (now : IndexMap ℕ Standing T) (next : IndexMap ℕ Standing U) (position size : ℕ) →
    are_apart (numbers ids) ≡ true → i < length ids → position ≡ i + 1 → size ≡ length (numbers ids) → PartPlaced old now (numbers ids) (numbers (take i ids))
    → ((n : ℕ) → get nat_eq next n ≡ cond (nat_eq (get_or ids i d).number n) (Some (once_more position size (get nat_eq now (get_or ids i d).number))) (get nat_eq now n))
    → PartPlaced old next (numbers ids) (numbers (take (i + 1) ids))
placed-next ids i d old now next position size a l p s inv step n =
    let m : ℕ = (get_or ids i d).number in
    let place : ℕ = suc (position_or_len (λ k. k == n) (numbers ids)) in
    step n ∙ by (nat_eq m n) refl ∙ sym (ap (λ b. cond b (Some (once_more place (length (numbers ids)) (get nat_eq old n))) (get nat_eq old n)) (has-next ids i d l n))
  where
    by : (b : Bool) → nat_eq (get_or ids i d).number n ≡ b →
        cond b (Some (once_more position size (get nat_eq now (get_or ids i d).number))) (get nat_eq now n)
        ≡ cond (cond b true (has n (numbers (take i ids)))) (Some (once_more (suc (position_or_len (λ k. k == n) (numbers ids))) (length (numbers ids)) (get nat_eq old n))) (get nat_eq old n)
    by true e =
        let m : ℕ = (get_or ids i d).number in
        let same : m ≡ n = eqb-true m n e in
        let first : get nat_eq now m ≡ get nat_eq old m = inv m ∙ ap (λ b. cond b (Some (once_more (suc (position_or_len (λ k. k == m) (numbers ids))) (length (numbers ids)) (get nat_eq old m))) (get nat_eq old m)) (before-none ids i d a l) in
        let here : position ≡ suc (position_or_len (λ k. k == m) (numbers ids)) = omega (arith, p, place-at ids i d a l) in
        ap (λ o. Some (once_more position size o)) first
        ∙ ap (λ k. Some (once_more k size (get nat_eq old m))) here
        ∙ ap (λ k. Some (once_more (suc (position_or_len (λ k. k == m) (numbers ids))) k (get nat_eq old m))) s
        ∙ ap (λ k. Some (once_more (suc (position_or_len (λ j. j == k) (numbers ids))) (length (numbers ids)) (get nat_eq old k))) same
    by false e = inv n

-- ---- one set behind others

filled-more : (ss : List (ℕ × ℕ)) (s : ℕ × ℕ) → is_more (ss ++ s ∷ []) ≡ true
filled-more [] s = refl
filled-more (x ∷ ss) s = refl

first-more : (ss : List (ℕ × ℕ)) (s : ℕ × ℕ) → first_standing (ss ++ s ∷ []) ≡ Some (once_more s.0 s.1 (first_standing ss))
first-more [] s = refl
first-more (x ∷ ss) s = ap (λ b. Some (record { position = x.0; size = x.1; is_double = b })) (filled-more ss s)

first-with : (set : List ℕ) (n : ℕ) (ss : List (ℕ × ℕ)) → with_part set set n (first_standing ss) ≡ first_standing (ss ++ standing_in n set)
first-with set n ss = by (has n set)
  where
    by : (b : Bool) → cond b (Some (once_more (suc (position_or_len (λ m. m == n) set)) (length set) (first_standing ss))) (first_standing ss)
        ≡ first_standing (ss ++ cond b ((suc (position_or_len (λ m. m == n) set), length set) ∷ []) [])
    by true = sym (first-more ss (suc (position_or_len (λ m. m == n) set), length set))
    by false = ap first_standing (sym (append-none ss))

joined-more : (sets : List (List ℕ)) (set : List ℕ) → joined (sets ++ set ∷ []) ≡ joined sets ++ set
joined-more sets set = flat_map-append (λ (ns : List ℕ). ns) sets (set ∷ []) ∙ ap (λ l. joined sets ++ l) (flat_map-cons (λ (ns : List ℕ). ns) set [] ∙ append-none set)

standing-more : (n : ℕ) (sets : List (List ℕ)) (set : List ℕ) → flat_map (standing_in n) (sets ++ set ∷ []) ≡ flat_map (standing_in n) sets ++ standing_in n set
standing-more n sets set = flat_map-append (standing_in n) sets (set ∷ []) ∙ ap (λ l. flat_map (standing_in n) sets ++ l) (flat_map-cons (standing_in n) set [] ∙ append-none (standing_in n set))

pub standings-more : {S T : Type 0} (old : IndexMap ℕ Standing S) (now : IndexMap ℕ Standing T) (old_nodes now_nodes set : List ℕ) → now_nodes ≡ old_nodes ++ set → PartPlaced old now set set
    → (sets : List (List ℕ)) → AreStandings old_nodes old sets → AreStandings now_nodes now (sets ++ set ∷ [])
standings-more old now old_nodes now_nodes set n p sets a = record {
  all = n ∙ ap (λ l. l ++ set) a.all ∙ sym (joined-more sets set);
  each = λ k. p k ∙ ap (with_part set set k) (a.each k) ∙ first-with set k (flat_map (standing_in k) sets) ∙ ap first_standing (sym (standing-more k sets set));
}

-- where a node stands first, and the others
pub standing-parts : (ss : List (ℕ × ℕ)) (s : Standing) → first_standing ss ≡ Some s → (others : List (ℕ × ℕ)) × (ss ≡ (s.position, s.size) ∷ others) × (s.is_double ≡ is_more others)
standing-parts [] s h = cc h
standing-parts (x ∷ xs) s h =
    let e : record { position = x.0; size = x.1; is_double = is_more xs } ≡ s = some-same h in
    (xs, ap (λ (t : Standing). (t.position, t.size) ∷ xs) e, sym (ap (λ (t : Standing). t.is_double) e))

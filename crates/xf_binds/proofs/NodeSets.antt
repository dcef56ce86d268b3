-- The numbers of a list of nodes, gathered one by one.
use Rattle.std.proofs.Common.{◌≡◌, ℕ, suc, ◌+◌, ◌<◌, ◌==◌, nat_eq, Bool, true, false, cond, ◌||◌, List, [], ◌∷◌, map, take, length, get_or, refl, sym, ap, ◌∙◌, arith, take-suc}
use Rattle.std.proofs.lemmas.List.{get_or-map, map-append}
use Rattle.std.proofs.lemmas.List.Folds.{list_any-append}
use Rattle.std.proofs.lemmas.Bool.Decides.{nat_tests}
use Rattle.std.specs.HashSet.{contains}
use Rattle.std.specs.List.{list_any}
use Rattle.indexmap.specs.IndexSet.{IndexSet}
use Rattle.xf_def_forest.specs.declared.node.NodeId.{NodeId}
use Rattle.xf_def_forest.specs.Visit.{has}

abbrev pub numbers_of : List NodeId → List ℕ
numbers_of ids = map (λ n. n.number) ids

or-one : (a b : Bool) → (a || (b || false)) ≡ cond b true a
or-one true true = refl
or-one true false = refl
or-one false true = refl
or-one false false = refl

turned : (a b : ℕ) → (a == b) ≡ (b == a)
turned a b = grind (arith, nat_tests)

has-next : (ids : List NodeId) (i : ℕ) (d : NodeId) → i < length ids → (n : ℕ) → has n (numbers_of (take (i + 1) ids)) ≡ cond (nat_eq (get_or ids i d).number n) true (has n (numbers_of (take i ids)))
has-next ids i d within n =
    ap (λ j. has n (numbers_of (take j ids))) (let e : i + 1 ≡ suc i = omega arith in e)
    ∙ ap (λ l. has n (numbers_of l)) (take-suc ids i d within)
    ∙ ap (has n) (map-append (λ (x : NodeId). x.number) (take i ids) (get_or ids i d ∷ []))
    ∙ list_any-append (λ m. n == m) (numbers_of (take i ids)) ((get_or ids i d).number ∷ [])
    ∙ ap (λ b. has n (numbers_of (take i ids)) || (b || false)) (turned n (get_or ids i d).number)
    ∙ or-one (has n (numbers_of (take i ids))) ((get_or ids i d).number == n)

pub gathered : {S : Type 0} (ids : List NodeId) (i : ℕ) (d : NodeId) (old new : IndexSet ℕ S) → i < length ids → ((n : ℕ) → contains nat_eq old n ≡ has n (numbers_of (take i ids)))
    → ((n : ℕ) → contains nat_eq new n ≡ cond (nat_eq (get_or ids i d).number n) true (contains nat_eq old n)) → (n : ℕ) → contains nat_eq new n ≡ has n (numbers_of (take (i + 1) ids))
gathered ids i d old new within so_far updates n = updates n ∙ ap (λ b. cond (nat_eq (get_or ids i d).number n) true b) (so_far n) ∙ sym (has-next ids i d within n)

pub has-turned : (n : ℕ) (ns : List ℕ) → list_any (λ m. m == n) ns ≡ has n ns
has-turned n [] = refl
has-turned n (m ∷ ms) = ap (λ b. b || list_any (λ k. k == n) ms) (turned m n) ∙ ap (λ b. (n == m) || b) (has-turned n ms)

-- where the lists are the same, so are the numbers at a place
pub same-at : (some others : List NodeId) (i : ℕ) (d e : NodeId) → i < length some → i < length others → numbers_of others ≡ numbers_of some → (get_or others i e).number ≡ (get_or some i d).number
same-at some others i d e here there same =
    sym (get_or-map (λ (n : NodeId). n.number) others i e 0 there) ∙ ap (λ l. get_or l i 0) same ∙ get_or-map (λ (n : NodeId). n.number) some i d 0 here

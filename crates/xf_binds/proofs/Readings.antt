-- The index of readers, entry by entry.
use Rattle.std.proofs.Common.{◌≡◌, ℕ, zero, suc, ◌+◌, ◌<◌, ◌==◌, Bool, true, false, cond, ◌&&◌, ◌||◌, List, [], ◌∷◌, map, take, length, get_or, Some, None, slice_get, refl, sym, ap, ◌∙◌, arith, take-suc}
use Rattle.std.specs.List.{list_any}
use Rattle.std.proofs.lemmas.List.{map-append}
use Rattle.std.proofs.lemmas.List.Folds.{list_any-append}
use Rattle.std.proofs.lemmas.Bool.{eqb-true}
use Rattle.std.proofs.lemmas.Bool.Decides.{nat_tests}
use Rattle.xf_def_forest.specs.Visit.{has}
use Rattle.xf_def_forest.specs.declared.node.NodeId.{NodeId}
use Rattle.xf_def_model.specs.Applied.{Entry}
use Rattle.xf_binds.specs.declared.web.Asks.{Asks}
use Rattle.xf_binds.specs.Readers.{asks_at, reads_at, reads_in}

or-turned : (a b : Bool) → (a || (b || false)) ≡ (b || a)
or-turned true true = refl
or-turned true false = refl
or-turned false true = refl
or-turned false false = refl

turned : (a b : ℕ) → (a == b) ≡ (b == a)
turned a b = grind (arith, nat_tests)

next-is : (i : ℕ) → i + 1 ≡ suc i
next-is i = omega arith

-- ---- one node more

any-next : {X Y : Type 0} (p : Y → Bool) (f : X → Y) (xs : List X) (i : ℕ) (d : X) → i < length xs → list_any p (map f (take (i + 1) xs)) ≡ (p (f (get_or xs i d)) || list_any p (map f (take i xs)))
any-next p f xs i d within =
    ap (λ j. list_any p (map f (take j xs))) (next-is i)
    ∙ ap (λ l. list_any p (map f l)) (take-suc xs i d within)
    ∙ ap (list_any p) (map-append f (take i xs) (get_or xs i d ∷ []))
    ∙ list_any-append p (map f (take i xs)) (f (get_or xs i d) ∷ [])
    ∙ or-turned (list_any p (map f (take i xs))) (p (f (get_or xs i d)))

pub numbers-next : (n : ℕ) (nodes : List NodeId) (i : ℕ) (d : NodeId) → i < length nodes
    → has n (map (λ (x : NodeId). x.number) (take (i + 1) nodes)) ≡ (((get_or nodes i d).number == n) || has n (map (λ (x : NodeId). x.number) (take i nodes)))
numbers-next n nodes i d within =
    any-next (λ m. n == m) (λ (x : NodeId). x.number) nodes i d within
    ∙ ap (λ b. b || has n (map (λ (x : NodeId). x.number) (take i nodes))) (turned n (get_or nodes i d).number)

-- ---- one entry more

one-less : (i o : ℕ) → (suc i == suc o) ≡ (i == o)
one-less i o = grind (arith, nat_tests)

took : (xs : List Entry) (i o : ℕ) → i < length xs → slice_get (take (suc i) xs) o ≡ cond (i == o) (slice_get xs o) (slice_get (take i xs) o)
took [] i o l = absurd (omega arith)
took (x ∷ xs) zero zero l = refl
took (x ∷ xs) zero (suc o) l = ap (λ b. cond b (slice_get xs o) None) (let e : false ≡ (0 == suc o) = grind (arith, nat_tests) in e)
took (x ∷ xs) (suc i) zero l = ap (λ b. cond b (Some x) (Some x)) (let e : false ≡ (suc i == 0) = grind (arith, nat_tests) in e)
took (x ∷ xs) (suc i) (suc o) l = took xs i o (omega arith) ∙ ap (λ b. cond b (slice_get xs o) (slice_get (take i xs) o)) (sym (one-less i o))

past-taken : (xs : List Entry) (i : ℕ) → slice_get (take i xs) i ≡ None
past-taken [] zero = refl
past-taken [] (suc i) = refl
past-taken (x ∷ xs) zero = refl
past-taken (x ∷ xs) (suc i) = past-taken xs i

read-some : (xs : List Entry) (i n : ℕ) (asks : Asks) → i < length xs → reads_in (slice_get xs i) asks n ≡ has n asks.reads
read-some [] i n asks l = absurd (omega arith)
read-some (x ∷ xs) zero n asks l = refl
read-some (x ∷ xs) (suc i) n asks l = read-some xs i n asks (omega arith)

pub reads-next : (entries : List Entry) (web : List Asks) (i o n : ℕ) → i < length entries
    → reads_at (take (i + 1) entries) web o n ≡ ((has n (asks_at web i).reads && (i == o)) || reads_at (take i entries) web o n)
reads-next entries web i o n l =
    ap (λ k. reads_at (take k entries) web o n) (next-is i)
    ∙ ap (λ e. reads_in e (asks_at web o) n) (took entries i o l)
    ∙ by (i == o) refl
  where
    and-true : (a : Bool) → a ≡ ((a && true) || false)
    and-true true = refl
    and-true false = refl

    and-false : (a b : Bool) → b ≡ ((a && false) || b)
    and-false true b = refl
    and-false false b = refl

    by : (b : Bool) → (i == o) ≡ b → reads_in (cond b (slice_get entries o) (slice_get (take i entries) o)) (asks_at web o) n ≡ ((has n (asks_at web i).reads && b) || reads_at (take i entries) web o n)
    by true e =
        let same : i ≡ o = eqb-true i o e in
        ap (λ k. reads_in (slice_get entries k) (asks_at web k) n) (sym same)
        ∙ read-some entries i n (asks_at web i) l
        ∙ and-true (has n (asks_at web i).reads)
        ∙ ap (λ e. (has n (asks_at web i).reads && true) || reads_in e (asks_at web i) n) (sym (past-taken entries i))
        ∙ ap (λ k. (has n (asks_at web i).reads && true) || reads_at (take i entries) web k n) same
    by false e = and-false (has n (asks_at web i).reads) (reads_at (take i entries) web o n)

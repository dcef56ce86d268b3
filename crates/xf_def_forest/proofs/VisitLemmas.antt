-- Visits of lists that are changed node by node, and of runs.
use Rattle.std.proofs.Common.{◌≡◌, ℕ, suc, Bool, true, false, cond, List, [], ◌∷◌, ◌++◌, map, nat_lt, refl, sym, ap, ◌∙◌, subst, inl, inr, arith}
use Rattle.std.specs.Prelude.{⊤}
use Rattle.std.proofs.lemmas.Bool.{cases_Bool}
use Rattle.std.proofs.lemmas.Bool.Decides.{nat_tests}
use Rattle.xf_def_forest.specs.declared.content.Node.{Node}
use Rattle.xf_def_forest.specs.Forest.{past}
use Rattle.xf_def_forest.specs.Visit.{Visit, still_above, visit, visits_from}

-- ---- a change of each node that leaves its depth

abbrev pub KeepsDepth : (Node → Node) → Type 0
KeepsDepth f = (x : Node) → (f x).depth ≡ x.depth

map-cond : {A B : Type 0} (f : A → B) (b : Bool) (x y : A) → cond b (f x) (f y) ≡ f (cond b x y)
map-cond f true x y = refl
map-cond f false x y = refl

pub still_above-map : (f : Node → Node) → KeepsDepth f → (d : ℕ) (ys : List Node) → still_above d (map f ys) ≡ map f (still_above d ys)
still_above-map f keeps d [] = refl
still_above-map f keeps d (y ∷ ys) =
    ap (λ k. cond (nat_lt k d) (map f (y ∷ ys)) (still_above d (map f ys))) (keeps y)
    ∙ ap (cond (nat_lt y.depth d) (map f (y ∷ ys))) (still_above-map f keeps d ys)
    ∙ map-cond (map f) (nat_lt y.depth d) (y ∷ ys) (still_above d ys)

-- what becomes of a visit when the nodes are changed
abbrev pub Follows : (Node → Node) → (Visit → Visit) → Type 0
Follows f g = (above : List Node) (x : Node) → visit (map f above) (f x) ≡ g (visit above x)

pub visits-map : (f : Node → Node) (g : Visit → Visit) → KeepsDepth f → Follows f g → (above xs : List Node) → visits_from (map f above) (map f xs) ≡ map g (visits_from above xs)
visits-map f g keeps follows above [] = refl
visits-map f g keeps follows above (x ∷ xs) =
    ap (λ v. v ∷ visits_from (f x ∷ still_above (f x).depth (map f above)) (map f xs)) (follows above x)
    ∙ ap (λ l. g (visit above x) ∷ visits_from (f x ∷ l) (map f xs)) (ap (λ k. still_above k (map f above)) (keeps x) ∙ still_above-map f keeps x.depth above)
    ∙ ap (λ l. g (visit above x) ∷ l) (visits-map f g keeps follows (x ∷ still_above x.depth above) xs)

-- ---- nodes of one depth below a node

abbrev pub AreAt : ℕ → List Node → Type 0
AreAt d [] = ⊤
AreAt d (y ∷ ys) = (y.depth ≡ d) × AreAt d ys

-- the first node is no deeper than this
abbrev pub BeginsWithin : ℕ → List Node → Type 0
BeginsWithin d [] = ⊤
BeginsWithin d (y ∷ ys) = nat_lt d y.depth ≡ false

pub past-within : (d : ℕ) (xs : List Node) → BeginsWithin d (past d xs)
past-within d [] = tt
past-within d (y ∷ ys) = elim (cases_Bool (nat_lt d y.depth)) [ inl e ↦ rw e (past-within d ys) | inr e ↦ rw e e ]

-- a node that is as deep is above nothing that follows
pub closed : (z : Node) (stack xs : List Node) → BeginsWithin z.depth xs → visits_from (z ∷ stack) xs ≡ visits_from stack xs
closed z stack [] h = refl
closed z stack (y ∷ ys) h = rw h refl

parted : (d : ℕ) (zs xs : List Node) → AreAt (suc d) zs → BeginsWithin d xs → BeginsWithin (suc d) (zs ++ xs)
parted d [] [] h k = tt
parted d [] (x ∷ xs) h k = grind (arith, nat_tests, k)
parted d (z ∷ zs) xs h k = let e : z.depth ≡ suc d = h.0 in grind (arith, nat_tests, e)

pub deeper-by_one : (d : ℕ) → nat_lt d (suc d) ≡ true
deeper-by_one d = grind (arith, nat_tests)

pub run-visits : (x : Node) (stay zs xs : List Node) → AreAt (suc x.depth) zs → BeginsWithin x.depth xs
    → visits_from (x ∷ stay) (zs ++ xs) ≡ map (visit (x ∷ stay)) zs ++ visits_from (x ∷ stay) xs
run-visits x stay [] xs h k = refl
run-visits x stay (z ∷ zs) xs h k =
    let open_ : still_above z.depth (x ∷ stay) ≡ x ∷ stay = ap (λ d. still_above d (x ∷ stay)) h.0 ∙ rw (deeper-by_one x.depth) refl in
    let next : BeginsWithin z.depth (zs ++ xs) = subst (λ d. BeginsWithin d (zs ++ xs)) (sym h.0) (parted x.depth zs xs h.1 k) in
    ap (λ l. visit (x ∷ stay) z ∷ visits_from (z ∷ l) (zs ++ xs)) open_
    ∙ ap (λ l. visit (x ∷ stay) z ∷ l) (closed z (x ∷ stay) (zs ++ xs) next ∙ run-visits x stay zs xs h.1 k)

-- The visits of trees, and the elements directly below a node.
use Rattle.std.proofs.Common.{◌≡◌, ℕ, suc, ◌==◌, Bool, true, false, ◌&&◌, ◌||◌, List, [], ◌∷◌, nat_lt, refl, ap, ◌∙◌, inl, inr, arith}
use Rattle.std.proofs.lemmas.Bool.{cases_Bool}
use Rattle.std.proofs.lemmas.Bool.Decides.{nat_tests}
use Rattle.xf_def_forest.specs.declared.content.Node.{Node}
use Rattle.xf_def_forest.specs.Forest.{is_element}
use Rattle.xf_def_forest.specs.Visit.{Visit, still_above, numbers, visit, visits_from, visits, is_first}
use Rattle.xf_def_forest.specs.Shape.{has_elements}
use Rattle.xf_def_forest.proofs.VisitLemmas.{BeginsWithin, closed, deeper-by_one}
use Rattle.xf_law_forests.proofs.RollbackLemmas.Trees.{Trees, none, tree, onto}

-- the visits of trees below these ancestors, before others
abbrev pub seen : List ℕ → Trees → List Visit → List Visit
seen up none vs = vs
seen up (tree n c k r) vs = record { number = n; above = up; content = c } ∷ seen (n ∷ up) k (seen up r vs)

above-again : (d : ℕ) (stack : List Node) → still_above d (still_above d stack) ≡ still_above d stack
above-again d [] = refl
above-again d (y ∷ ys) = elim (cases_Bool (nat_lt y.depth d)) [ inl e ↦ rw e (rw e refl) | inr e ↦ rw e (above-again d ys) ]

-- a node that is no deeper leaves less open
shut : (e d : ℕ) (stack : List Node) → nat_lt d e ≡ false → still_above e (still_above d stack) ≡ still_above e stack
shut e d [] h = refl
shut e d (y ∷ ys) h =
    elim (cases_Bool (nat_lt y.depth d)) [
      | inl p ↦ rw p refl
      | inr p ↦ let q : nat_lt y.depth e ≡ false = grind (arith, nat_tests, h, p) in rw p (rw q (shut e d ys h))
    ]

shut-visits : (d : ℕ) (stack ys : List Node) → BeginsWithin d ys → visits_from (still_above d stack) ys ≡ visits_from stack ys
shut-visits d stack [] h = refl
shut-visits d stack (y ∷ ys) h =
    ap (λ s. record { number = y.number; above = numbers s; content = y.content } ∷ visits_from (y ∷ s) ys) (shut y.depth d stack h)

pub begins-onto : (d : ℕ) (t : Trees) (ys : List Node) → BeginsWithin d ys → BeginsWithin d (onto d t ys)
begins-onto d none ys h = h
begins-onto d (tree n c k r) ys h = grind (arith, nat_tests)

begins-more : (d : ℕ) (ys : List Node) → BeginsWithin d ys → BeginsWithin (suc d) ys
begins-more d [] h = tt
begins-more d (y ∷ ys) h = grind (arith, nat_tests, h)

pub visits-onto : (d : ℕ) (t : Trees) (stack ys : List Node) → BeginsWithin d ys → visits_from stack (onto d t ys) ≡ seen (numbers (still_above d stack)) t (visits_from stack ys)
visits-onto d none stack ys h = refl
visits-onto d (tree n c k r) stack ys h =
    let x : Node = record { number = n; depth = d; content = c } in
    let st = still_above d stack in
    let rest = onto d r ys in
    let begins : BeginsWithin d rest = begins-onto d r ys h in
    let open_ : still_above (suc d) (x ∷ st) ≡ x ∷ st = rw (deeper-by_one d) refl in
    let inner : visits_from (x ∷ st) (onto (suc d) k rest) ≡ seen (n ∷ numbers st) k (visits_from (x ∷ st) rest)
    = visits-onto (suc d) k (x ∷ st) rest (begins-more d rest begins) ∙ ap (λ s. seen (numbers s) k (visits_from (x ∷ st) rest)) open_ in
    let outer : visits_from (x ∷ st) rest ≡ seen (numbers st) r (visits_from stack ys)
    = closed x st rest begins ∙ visits-onto d r st ys h ∙ ap (λ s. seen (numbers s) r (visits_from st ys)) (above-again d stack)
    ∙ ap (seen (numbers st) r) (shut-visits d stack ys h) in
    ap (λ l. visit stack x ∷ l) (inner ∙ ap (seen (n ∷ numbers st) k) outer)

pub visits-seen : (t : Trees) → visits (onto 0 t []) ≡ seen [] t []
visits-seen t = visits-onto 0 t [] [] tt

-- ---- elements directly below a node

-- an element is among these trees, where the node is above them, or below the node inside them
abbrev pub elements : Bool → ℕ → Trees → Bool
elements under n none = false
elements under n (tree m c k r) = (is_element c && under) || (elements (n == m) n k || elements under n r)

or-assoc : (a b c : Bool) → (a || (b || c)) ≡ ((a || b) || c)
or-assoc true b c = refl
or-assoc false b c = refl

elements-seen : (n : ℕ) (up : List ℕ) (t : Trees) (vs : List Visit) → has_elements (seen up t vs) n ≡ (elements (is_first n up) n t || has_elements vs n)
elements-seen n up none vs = refl
elements-seen n up (tree m c k r) vs =
    ap (λ b. (is_element c && is_first n up) || b)
    (elements-seen n (m ∷ up) k (seen up r vs) ∙ ap (λ b. elements (n == m) n k || b) (elements-seen n up r vs) ∙ or-assoc (elements (n == m) n k) (elements (is_first n up) n r) (has_elements vs n))
    ∙ or-assoc (is_element c && is_first n up) (elements (n == m) n k || elements (is_first n up) n r) (has_elements vs n)

or-none : (a : Bool) → (a || false) ≡ a
or-none true = refl
or-none false = refl

pub elements-are : (n : ℕ) (t : Trees) → has_elements (visits (onto 0 t [])) n ≡ elements false n t
elements-are n t = ap (λ l. has_elements l n) (visits-seen t) ∙ elements-seen n [] t [] ∙ or-none (elements false n t)

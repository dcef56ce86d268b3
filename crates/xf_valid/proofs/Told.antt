-- What is known of nodes that were passed, as these come and go.
use Rattle.std.proofs.Common.{◌≡◌, ℕ, zero, suc, ◌+◌, ◌<◌, ◌&&◌, Bool, true, false, List, [], ◌∷◌, ◌++◌, map, take, length, get_or, refl, sym, ap, ◌∙◌, subst, arith, take-suc}
use Rattle.std.specs.List.{list_all}
use Rattle.std.proofs.lemmas.List.{map-append}
use Rattle.xf_def_forest.specs.declared.content.Node.{Node}
use Rattle.xf_def_forest.specs.declared.node.NodeId.{NodeId}
use Rattle.xf_def_forest.specs.Forest.{has_number}
use Rattle.xf_binds.specs.Kept.{Kept}
use Rattle.xf_def_ui.specs.declared.marks.Marks.{Marks}
use Rattle.xf_valid.specs.declared.marks.Passed.{Passed}
use Rattle.xf_valid.specs.Chain.{AreTold}
use Rattle.xf_valid.specs.Nodes.{relevant_in, readonly_in}

pub told-more : (table : List Kept) (nodes : List Node) (ps : List Passed) (p : Passed) → AreTold table nodes ps
    → p.relevant ≡ relevant_in table nodes p.node.number → p.readonly ≡ readonly_in table nodes p.node.number → AreTold table nodes (ps ++ p ∷ [])
told-more table nodes [] p h a b = (a, b, tt)
told-more table nodes (q ∷ qs) p h a b = (h.0, h.1, told-more table nodes qs p h.2 a b)

pub told-first : (table : List Kept) (nodes : List Node) (ps : List Passed) (k : ℕ) → AreTold table nodes ps → AreTold table nodes (take k ps)
told-first table nodes [] zero h = tt
told-first table nodes [] (suc k) h = tt
told-first table nodes (q ∷ qs) zero h = tt
told-first table nodes (q ∷ qs) (suc k) h = (h.0, h.1, told-first table nodes qs k h.2)

pub told-relevant : (table : List Kept) (nodes : List Node) (ps : List Passed) (k : ℕ) (d : Passed) → k < length ps → AreTold table nodes ps → (get_or ps k d).relevant ≡ relevant_in table nodes (get_or ps k d).node.number
told-relevant table nodes [] k d within h = absurd (omega (arith, within))
told-relevant table nodes (q ∷ qs) zero d within h = h.0
told-relevant table nodes (q ∷ qs) (suc k) d within h = told-relevant table nodes qs k d (let w : suc k < suc (length qs) = within in omega (arith, w)) h.2

pub told-readonly : (table : List Kept) (nodes : List Node) (ps : List Passed) (k : ℕ) (d : Passed) → k < length ps → AreTold table nodes ps → (get_or ps k d).readonly ≡ readonly_in table nodes (get_or ps k d).node.number
told-readonly table nodes [] k d within h = absurd (omega (arith, within))
told-readonly table nodes (q ∷ qs) zero d within h = h.1
told-readonly table nodes (q ∷ qs) (suc k) d within h = told-readonly table nodes qs k d (let w : suc k < suc (length qs) = within in omega (arith, w)) h.2

pub told-item : (table : List Kept) (nodes : List Node) (ps : List Passed) (k : ℕ) (p : Passed) (n : ℕ) → k < length ps → p ≡ get_or ps k p → p.node.number ≡ n → AreTold table nodes ps
    → (p.relevant ≡ relevant_in table nodes n) × (p.readonly ≡ readonly_in table nodes n)
told-item table nodes ps k p n within is same h =
    let there : ((get_or ps k p).relevant ≡ relevant_in table nodes (get_or ps k p).node.number) × ((get_or ps k p).readonly ≡ readonly_in table nodes (get_or ps k p).node.number) =
    (told-relevant table nodes ps k p within h, told-readonly table nodes ps k p within h) in
    let here : (p.relevant ≡ relevant_in table nodes p.node.number) × (p.readonly ≡ readonly_in table nodes p.node.number) =
    subst (λ (q : Passed). (q.relevant ≡ relevant_in table nodes q.node.number) × (q.readonly ≡ readonly_in table nodes q.node.number)) (sym is) there in
    subst (λ m. (p.relevant ≡ relevant_in table nodes m) × (p.readonly ≡ readonly_in table nodes m)) same here

-- ---- a list of nodes, one by one

abbrev pub numbers_of : List NodeId → List ℕ
numbers_of ids = map (λ n. n.number) ids

pub live-at : (ids : List NodeId) (k : ℕ) (d : NodeId) (nodes : List Node) → list_all (λ n. has_number n nodes) (numbers_of ids) ≡ true → k < length ids → has_number (get_or ids k d).number nodes ≡ true
live-at [] k d nodes h within = absurd (omega (arith, within))
live-at (x ∷ xs) zero d nodes h within = first (has_number x.number nodes) (list_all (λ n. has_number n nodes) (numbers_of xs)) h
  where
    first : (a b : Bool) → (a && b) ≡ true → a ≡ true
    first true b h = refl
    first false b h = cc h
live-at (x ∷ xs) (suc k) d nodes h within =
    live-at xs k d nodes (second (has_number x.number nodes) (list_all (λ n. has_number n nodes) (numbers_of xs)) h) (let w : suc k < suc (length xs) = within in omega (arith, w))
  where
    second : (a b : Bool) → (a && b) ≡ true → b ≡ true
    second true b h = h
    second false b h = cc h

pub marked-more : {M : Type 0} (made : ℕ → M) (ids : List NodeId) (k : ℕ) (d : NodeId) (old new : List M) (m : M) → k < length ids → old ≡ map made (numbers_of (take k ids)) → new ≡ old ++ m ∷ [] → m ≡ made (get_or ids k d).number
    → new ≡ map made (numbers_of (take (k + 1) ids))
marked-more made ids k d old new m within so_far more is =
    more ∙ ap (λ l. l ++ m ∷ []) so_far ∙ ap (λ x. map made (numbers_of (take k ids)) ++ x ∷ []) is
    ∙ sym (map-append made (numbers_of (take k ids)) ((get_or ids k d).number ∷ []))
    ∙ ap (map made) (sym (map-append (λ (n : NodeId). n.number) (take k ids) (get_or ids k d ∷ [])))
    ∙ ap (λ l. map made (numbers_of l)) (sym (take-suc ids k d within))
    ∙ ap (λ j. map made (numbers_of (take j ids))) (let e : suc k ≡ k + 1 = omega arith in e)

pub marks-same : (a b : Bool) (e : Bool) (f : Bool) (a' b' e' f' : Bool) → a ≡ a' → b ≡ b' → e ≡ e' → f ≡ f'
    → (let m : Marks = record { relevant = a; readonly = b; required = e; valid = f } in m) ≡ (let m : Marks = record { relevant = a'; readonly = b'; required = e'; valid = f' } in m)
marks-same a b e f a' b' e' f' p q r s = rw (p, q, r, s) refl

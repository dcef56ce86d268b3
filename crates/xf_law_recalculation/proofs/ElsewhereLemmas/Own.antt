-- The roots of a model's instances are roots of the data; what is new, and what is no root, is none of them.
use Rattle.std.proofs.Common.{◌≡◌, ℕ, ◌≤◌, ◌==◌, Bool, true, false, not, cond, ◌&&◌, ◌||◌, List, [], ◌∷◌, ◌++◌, map, length, Some, refl, sym, ap, ◌∙◌}
use Rattle.std.specs.Prelude.{filter, slice_get}
use Rattle.std.specs.List.{list_any}
use Rattle.std.proofs.lemmas.Bool.{eqb-true}
use Rattle.xf_def_syntax.specs.declared.form.Instance.{Instance}
use Rattle.xf_def_forest.specs.declared.content.Node.{Node}
use Rattle.xf_def_forest.specs.Forest.{is_root, has_number, node_at}
use Rattle.xf_def_forest.specs.Visit.{has}
use Rattle.xf_def_forest.specs.WellFormed.{are_apart, are_below}
use Rattle.xf_def_forest.proofs.BackLaws.{and-true, or-false, not-true}
use Rattle.xf_def_forest.proofs.FreeLaws.{fresh-nodes}
use Rattle.xf_def_xpath.proofs.VisitFacts.{turned}
use Rattle.xf_law_forests.specs.Root.Roots.{roots_in}
use Rattle.xf_law_recalculation.specs.Elsewhere.Parts.{own_roots}

-- a root with this number
abbrev pub has_root : ℕ → List Node → Bool
has_root n nodes = list_any (λ x. (x.number == n) && is_root x.content) nodes

pub own-root : (model n : ℕ) (is : List Instance) (roots : List ℕ) → has n roots ≡ false → has n (own_roots model is roots) ≡ false
own-root model n [] roots h = refl
own-root model n (i ∷ is) [] h = refl
own-root model n (i ∷ is) (root ∷ roots) h = by (i.model == model) (own-root model n is roots (or-false (n == root) (has n roots) h).1)
  where
    by : (b : Bool) → has n (own_roots model is roots) ≡ false → has n (cond b (root ∷ own_roots model is roots) (own_roots model is roots)) ≡ false
    by true f = ap (λ c. c || has n (own_roots model is roots)) (or-false (n == root) (has n roots) h).0 ∙ f
    by false f = f

-- the numbers of the roots are those of roots
pub root-there : (n : ℕ) (nodes : List Node) → has n (roots_in nodes) ≡ has_root n nodes
root-there n [] = refl
root-there n (x ∷ xs) = by (is_root x.content) (root-there n xs)
  where
    out : (b : Bool) → (b && false) ≡ false
    out true = refl
    out false = refl

    in_it : (b : Bool) → (b && true) ≡ b
    in_it true = refl
    in_it false = refl

    by : (b : Bool) → has n (roots_in xs) ≡ has_root n xs →
        has n (map (λ (y : Node). y.number) (cond b (x ∷ filter (λ y. is_root y.content) xs) (filter (λ y. is_root y.content) xs))) ≡ (((x.number == n) && b) || has_root n xs)
    by true f = ap (λ c. c || has n (roots_in xs)) (turned n x.number ∙ sym (in_it (x.number == n))) ∙ ap (λ c. ((x.number == n) && true) || c) f
    by false f = f ∙ sym (ap (λ c. c || has_root n xs) (out (x.number == n)))

no-number : (n : ℕ) (nodes : List Node) → has_number n nodes ≡ false → has_root n nodes ≡ false
no-number n [] h = refl
no-number n (x ∷ xs) h =
    let parts = or-false (x.number == n) (has_number n xs) h in
    ap (λ b. (b && is_root x.content) || has_root n xs) parts.0 ∙ no-number n xs parts.1

pub no-root_there : (n : ℕ) (nodes : List Node) → has_number n nodes ≡ false → has n (roots_in nodes) ≡ false
no-root_there n nodes h = root-there n nodes ∙ no-number n nodes h

-- a new number
pub fresh-root : (n next : ℕ) (nodes : List Node) → next ≤ n → are_below next nodes ≡ true → has n (roots_in nodes) ≡ false
fresh-root n next nodes h b = no-root_there n nodes (fresh-nodes n next nodes h b)

-- the number of a node that is no root
pub other-root : (n : ℕ) (nodes : List Node) → are_apart nodes ≡ true → ((z : Node) → node_at n nodes ≡ Some z → is_root z.content ≡ false) → has n (roots_in nodes) ≡ false
other-root n nodes a h = root-there n nodes ∙ none n nodes a h
  where
    none : (n : ℕ) (nodes : List Node) → are_apart nodes ≡ true → ((z : Node) → node_at n nodes ≡ Some z → is_root z.content ≡ false) → has_root n nodes ≡ false
    none n [] a h = refl
    none n (x ∷ xs) a h = by (x.number == n) refl h (λ i. none n xs parts.1 i)
      where
        parts : (not (has_number x.number xs) ≡ true) × (are_apart xs ≡ true)
        parts = and-true (not (has_number x.number xs)) (are_apart xs) a

        by : (b : Bool) → (x.number == n) ≡ b → ((z : Node) → cond b (Some x) (node_at n xs) ≡ Some z → is_root z.content ≡ false) →
            (((z : Node) → node_at n xs ≡ Some z → is_root z.content ≡ false) → has_root n xs ≡ false) → ((b && is_root x.content) || has_root n xs) ≡ false
        by true e i f =
            ap (λ c. c || has_root n xs) (i x refl)
            ∙ no-number n xs (ap (λ k. has_number k xs) (sym (eqb-true x.number n e)) ∙ not-true (has_number x.number xs) parts.0)
        by false e i f = f i

-- a root more, which is that of no instance of the model
pub own-more : (model next : ℕ) (is : List Instance) (roots : List ℕ) → ((i : Instance) → slice_get is (length roots) ≡ Some i → (i.model == model) ≡ false) → own_roots model is (roots ++ next ∷ []) ≡ own_roots model is roots
own-more model next [] roots h = refl
own-more model next (i ∷ is) [] h = ap (λ b. cond b (next ∷ own_roots model is []) (own_roots model is [])) (h i refl) ∙ none is
  where
    none : (js : List Instance) → own_roots model js [] ≡ []
    none [] = refl
    none (j ∷ js) = refl
own-more model next (i ∷ is) (root ∷ roots) h = ap (λ l. cond (i.model == model) (root ∷ l) l) (own-more model next is roots h)

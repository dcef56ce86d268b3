-- Counts of nodes and of their bytes.
use Rattle.std.proofs.Common.{◌≡◌, ◌+◌, ◌≤◌, not, Bool, cond, List, [], ◌∷◌, ◌++◌, map, length, refl, sym, ap, ◌∙◌, inl, inr, length-append}
use Rattle.std.specs.Prelude.{count_by, filter}
use Rattle.std.proofs.lemmas.List.Sums.{sum_by-append, sum_by-cons, length-filter, count_by-le-length}
use Rattle.std.proofs.lemmas.List.Elements.{filter-append}
use Rattle.std.proofs.lemmas.Bool.{cases_Bool}
use Rattle.xf_def_forest.specs.declared.content.Node.{Node}
use Rattle.xf_def_forest.specs.Forest.{is_root}
use Rattle.xf_def_forest.specs.Limits.{node_count, all_size, size_of}

pub count-append : {X : Type 0} (p : X → Bool) (xs ys : List X) → count_by p (xs ++ ys) ≡ count_by p xs + count_by p ys
count-append p xs ys =
    sym (length-filter p (xs ++ ys)) ∙ ap length (filter-append p xs ys) ∙ length-append (filter p xs) (filter p ys)
    ∙ ap (λ n. n + length (filter p ys)) (length-filter p xs) ∙ ap (λ n. count_by p xs + n) (length-filter p ys)

pub count-cons : {X : Type 0} (p : X → Bool) (x : X) (xs : List X) → count_by p (x ∷ xs) ≡ cond (p x) 1 0 + count_by p xs
count-cons p x xs = count-append p (x ∷ []) xs ∙ ap (λ n. n + count_by p xs) (one p x)
  where
    one : {X : Type 0} (p : X → Bool) (x : X) → count_by p (x ∷ []) ≡ cond (p x) 1 0
    one p x = elim (cases_Bool (p x)) [ inl e ↦ rw e refl | inr e ↦ rw e refl ]

-- nodes with another depth count alike
pub count-alike : (f : Node → Node) → ((x : Node) → (f x).content ≡ x.content) → (xs : List Node) → node_count (map f xs) ≡ node_count xs
count-alike f same [] = refl
count-alike f same (x ∷ xs) =
    count-cons (λ (y : Node). not (is_root y.content)) (f x) (map f xs)
    ∙ ap (λ c. cond (not (is_root c)) 1 0 + node_count (map f xs)) (same x) ∙ ap (λ n. cond (not (is_root x.content)) 1 0 + n) (count-alike f same xs)
    ∙ sym (count-cons (λ (y : Node). not (is_root y.content)) x xs)

pub size-alike : (f : Node → Node) → ((x : Node) → (f x).content ≡ x.content) → (xs : List Node) → all_size (map f xs) ≡ all_size xs
size-alike f same [] = refl
size-alike f same (x ∷ xs) =
    sum_by-cons (λ (y : Node). size_of y.content) (f x) (map f xs)
    ∙ ap (λ c. size_of c + all_size (map f xs)) (same x) ∙ ap (λ n. size_of x.content + n) (size-alike f same xs)
    ∙ sym (sum_by-cons (λ (y : Node). size_of y.content) x xs)

pub nodes-append : (xs ys : List Node) → node_count (xs ++ ys) ≡ node_count xs + node_count ys
nodes-append xs ys = count-append (λ (y : Node). not (is_root y.content)) xs ys

pub sizes-append : (xs ys : List Node) → all_size (xs ++ ys) ≡ all_size xs + all_size ys
sizes-append xs ys = sum_by-append (λ (y : Node). size_of y.content) xs ys

pub nodes-cons : (x : Node) (xs : List Node) → node_count (x ∷ xs) ≡ cond (not (is_root x.content)) 1 0 + node_count xs
nodes-cons x xs = count-cons (λ (y : Node). not (is_root y.content)) x xs

pub sizes-cons : (x : Node) (xs : List Node) → all_size (x ∷ xs) ≡ size_of x.content + all_size xs
sizes-cons x xs = sum_by-cons (λ (y : Node). size_of y.content) x xs

pub nodes-most : (xs : List Node) → node_count xs ≤ length xs
nodes-most xs = count_by-le-length (λ (y : Node). not (is_root y.content)) xs

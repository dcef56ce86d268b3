-- Loops that go on from what one item made: where an item is too long, where there are more, and at the end.
use Rattle.std.proofs.Common.{◌≡◌, ℕ, suc, ◌+◌, ◌<◌, ◌≤◌, Bool, true, false, List, [], ◌∷◌, ◌++◌, map, drop, length, get_or, Option, Some, None, option_map, refl, sym, ap, ◌∙◌, append_assoc}
use Rattle.std.specs.Prelude.{fold}
use Rattle.std.proofs.lemmas.List.{at_drop_more, at_drop_all}
use Rattle.xf_def_forest.specs.declared.content.Node.{Node}
use Rattle.xf_def_forest.specs.declared.node.NodeId.{NodeId}
use Rattle.xf_def_values.specs.Conversions.{Decimal}
use Rattle.xf_def_syntax.specs.declared.expr.Expr.{Expr}
use Rattle.xf_def_syntax.specs.declared.expr.Link.{Link}
use Rattle.xf_def_syntax.specs.declared.expr.Step.{Step}
use Rattle.xf_def_xpath.specs.declared.value.Value.{Value}
use Rattle.xf_def_xpath.specs.Setting.{Focus, Meaning, Setting, ◌>>=◌, each, joined}
use Rattle.xf_def_xpath.specs.Meaning.{meaning, meaning_of_link, walk_of}
use Rattle.xf_def_xpath.specs.Operators.{chained, linked}
use Rattle.xf_def_xpath.specs.Steps.{is_true_at, kept_by_all, kept_from, walked, with_first}
use Rattle.xf_def_xpath.proofs.Equations.{meaning-link}
use Rattle.xf_eval.specs.declared.kinds.Kind.{Kind}
use Rattle.xf_eval.specs.Texts.{combined, folded, number_at}
use Rattle.xf_eval.proofs.Lists.{onto}

-- ---- any such loop

abbrev Goes : {X S R : Type 0} → (List X → S → Option R) → (X → S → Option S) → Type 0
Goes {X = X} {S = S} run step = (x : X) (xs : List X) (at : S) → run (x ∷ xs) at ≡ (step x at >>= run xs)

run-stuck : {X S R : Type 0} (run : List X → S → Option R) (step : X → S → Option S) → Goes run step → (xs : List X) (i : ℕ) (d : X) (at : S) (worth : Option R) →
    run (drop i xs) at ≡ worth → i < length xs → step (get_or xs i d) at ≡ None → worth ≡ None
run-stuck run step goes xs i d at worth inv l h =
    sym inv ∙ at_drop_more (λ ys. run ys at) xs i d l ∙ goes (get_or xs i d) (drop (i + 1) xs) at ∙ ap (λ m. m >>= run (drop (i + 1) xs)) h

run-more : {X S R : Type 0} (run : List X → S → Option R) (step : X → S → Option S) → Goes run step → (xs : List X) (i : ℕ) (d : X) (at next : S) (worth : Option R) →
    run (drop i xs) at ≡ worth → i < length xs → step (get_or xs i d) at ≡ Some next → run (drop (i + 1) xs) next ≡ worth
run-more run step goes xs i d at next worth inv l h =
    sym (at_drop_more (λ ys. run ys at) xs i d l ∙ goes (get_or xs i d) (drop (i + 1) xs) at ∙ ap (λ m. m >>= run (drop (i + 1) xs)) h) ∙ inv

run-done : {X S R : Type 0} (run : List X → S → Option R) (xs : List X) (i : ℕ) (at : S) (worth : Option R) →
    run (drop i xs) at ≡ worth → length xs ≤ i → worth ≡ run [] at
run-done run xs i at worth inv l = sym inv ∙ at_drop_all (λ ys. run ys at) xs i l

-- ---- steps of a path

pub walked-stuck : (s : Setting) (steps : List Step) (i : ℕ) (d : Step) (ns : List ℕ) (worth : Option (List ℕ)) →
    walked s (map walk_of (drop i steps)) ns ≡ worth → i < length steps → walk_of (get_or steps i d) s ns ≡ None → worth ≡ None
walked-stuck s = run-stuck (λ steps ns. walked s (map walk_of steps) ns) (λ step ns. walk_of step s ns) (λ x xs at. refl)

pub walked-more : (s : Setting) (steps : List Step) (i : ℕ) (d : Step) (ns ms : List ℕ) (worth : Option (List ℕ)) →
    walked s (map walk_of (drop i steps)) ns ≡ worth → i < length steps → walk_of (get_or steps i d) s ns ≡ Some ms → walked s (map walk_of (drop (i + 1) steps)) ms ≡ worth
walked-more s = run-more (λ steps ns. walked s (map walk_of steps) ns) (λ step ns. walk_of step s ns) (λ x xs at. refl)

pub walked-done : (s : Setting) (steps : List Step) (i : ℕ) (ns : List ℕ) (worth : Option (List ℕ)) →
    walked s (map walk_of (drop i steps)) ns ≡ worth → length steps ≤ i → worth ≡ Some ns
walked-done s = run-done (λ steps ns. walked s (map walk_of steps) ns)

-- ---- predicates

pub kept_all-stuck : (s : Setting) (ms : List Expr) (i : ℕ) (d : Expr) (ns : List ℕ) (worth : Option (List ℕ)) →
    kept_by_all s (map meaning (drop i ms)) ns ≡ worth → i < length ms → kept_from s (meaning (get_or ms i d)) (length ns) 1 ns ≡ None → worth ≡ None
kept_all-stuck s = run-stuck (λ ms ns. kept_by_all s (map meaning ms) ns) (λ m ns. kept_from s (meaning m) (length ns) 1 ns) (λ x xs at. refl)

pub kept_all-more : (s : Setting) (ms : List Expr) (i : ℕ) (d : Expr) (ns next : List ℕ) (worth : Option (List ℕ)) →
    kept_by_all s (map meaning (drop i ms)) ns ≡ worth → i < length ms → kept_from s (meaning (get_or ms i d)) (length ns) 1 ns ≡ Some next → kept_by_all s (map meaning (drop (i + 1) ms)) next ≡ worth
kept_all-more s = run-more (λ ms ns. kept_by_all s (map meaning ms) ns) (λ m ns. kept_from s (meaning m) (length ns) 1 ns) (λ x xs at. refl)

pub kept_all-done : (s : Setting) (ms : List Expr) (i : ℕ) (ns : List ℕ) (worth : Option (List ℕ)) →
    kept_by_all s (map meaning (drop i ms)) ns ≡ worth → length ms ≤ i → worth ≡ Some ns
kept_all-done s = run-done (λ ms ns. kept_by_all s (map meaning ms) ns)

-- where the predicate is true the node is kept
abbrev pub added : List ℕ → ℕ → Bool → List ℕ
added kept n true = kept ++ n ∷ []
added kept n false = kept

added-first : (kept : List ℕ) (n : ℕ) (b : Bool) (rest : List ℕ) → kept ++ with_first n b rest ≡ added kept n b ++ rest
added-first kept n true rest = sym (append_assoc kept (n ∷ []) rest)
added-first kept n false rest = refl

pub kept-step : (s : Setting) (m : Meaning) (size position n : ℕ) (ns kept : List ℕ) (v : Value) → m s (record { node = n; position = position; size = size }) ≡ Some v →
    onto kept (kept_from s m size position (n ∷ ns)) ≡ onto (added kept n (is_true_at s.given.decimals position v)) (kept_from s m size (suc position) ns)
kept-step s m size position n ns kept v h = by (m s (record { node = n; position = position; size = size })) (kept_from s m size (suc position) ns) h
  where
    by : (given : Option Value) (rest : Option (List ℕ)) → given ≡ Some v →
        onto kept (given >>= λ value. rest >>= λ rs. Some (with_first n (is_true_at s.given.decimals position value) rs)) ≡ onto (added kept n (is_true_at s.given.decimals position v)) rest
    by None rest e = cc e
    by (Some w) None e = refl
    by (Some w) (Some rs) e =
        let i : w ≡ v = cc e in
        ap (λ u. Some (kept ++ with_first n (is_true_at s.given.decimals position u) rs)) i ∙ ap Some (added-first kept n (is_true_at s.given.decimals position v) rs)

pub kept-stuck : (s : Setting) (m : Meaning) (size position n : ℕ) (ns kept : List ℕ) → m s (record { node = n; position = position; size = size }) ≡ None →
    onto kept (kept_from s m size position (n ∷ ns)) ≡ None
kept-stuck s m size position n ns kept h = ap (λ given. onto kept (given >>= λ value. kept_from s m size (suc position) ns >>= λ rs. Some (with_first n (is_true_at s.given.decimals position value) rs))) h

-- ---- numbers of nodes

fold-goes : (decimals : ℕ) (kind : Kind) (nodes : List Node) → Goes (λ (ids : List NodeId) (at : Decimal). folded decimals kind nodes at (map (λ (i : NodeId). i.number) ids)) (λ id at. option_map (combined kind at) (number_at decimals nodes id.number))
fold-goes decimals kind nodes id ids at = by (number_at decimals nodes id.number) (each (number_at decimals nodes) (map (λ (i : NodeId). i.number) ids))
  where
    by : (m : Option Decimal) (rest : Option (List Decimal)) →
        option_map (fold (combined kind) at) (m >>= λ y. rest >>= λ ys. Some (y ∷ ys)) ≡ (option_map (combined kind at) m >>= λ next. option_map (fold (combined kind) next) rest)
    by None rest = refl
    by (Some y) None = refl
    by (Some y) (Some ys) = refl

pub fold-stuck : (decimals : ℕ) (kind : Kind) (nodes : List Node) (ids : List NodeId) (i : ℕ) (d : NodeId) (at : Decimal) (worth : Option Decimal) →
    folded decimals kind nodes at (map (λ (i : NodeId). i.number) (drop i ids)) ≡ worth → i < length ids → number_at decimals nodes (get_or ids i d).number ≡ None → worth ≡ None
fold-stuck decimals kind nodes ids i d at worth inv l h =
    run-stuck (λ (ids : List NodeId) (at : Decimal). folded decimals kind nodes at (map (λ (i : NodeId). i.number) ids)) (λ id at. option_map (combined kind at) (number_at decimals nodes id.number)) (fold-goes decimals kind nodes) ids i d at worth inv l (ap (option_map (combined kind at)) h)

pub fold-more : (decimals : ℕ) (kind : Kind) (nodes : List Node) (ids : List NodeId) (i : ℕ) (d : NodeId) (at next : Decimal) (worth : Option Decimal) →
    folded decimals kind nodes at (map (λ (i : NodeId). i.number) (drop i ids)) ≡ worth → i < length ids → number_at decimals nodes (get_or ids i d).number ≡ Some next →
    folded decimals kind nodes (combined kind at next) (map (λ (i : NodeId). i.number) (drop (i + 1) ids)) ≡ worth
fold-more decimals kind nodes ids i d at next worth inv l h =
    run-more (λ (ids : List NodeId) (at : Decimal). folded decimals kind nodes at (map (λ (i : NodeId). i.number) ids)) (λ id at. option_map (combined kind at) (number_at decimals nodes id.number)) (fold-goes decimals kind nodes) ids i d at (combined kind at next) worth inv l (ap (option_map (combined kind at)) h)

pub fold-done : (decimals : ℕ) (kind : Kind) (nodes : List Node) (ids : List NodeId) (i : ℕ) (at : Decimal) (worth : Option Decimal) →
    folded decimals kind nodes at (map (λ (i : NodeId). i.number) (drop i ids)) ≡ worth → length ids ≤ i → worth ≡ Some at
fold-done decimals kind nodes ids i at worth inv l = run-done (λ (ids : List NodeId) (at : Decimal). folded decimals kind nodes at (map (λ (i : NodeId). i.number) ids)) ids i at worth inv l

-- ---- chains of operators

pub chain-goes : (s : Setting) (c : Focus) → Goes (λ (links : List Link) (left : Value). chained (map meaning_of_link links) left s c) (λ link left. linked link.operator left (meaning link.right) s c)
chain-goes s c link links left = ap (λ l. linked l.operator left l.right s c >>= λ value. chained (map meaning_of_link links) value s c) (meaning-link link)

pub chained-stuck : (s : Setting) (c : Focus) (links : List Link) (i : ℕ) (d : Link) (left : Value) (worth : Option Value) →
    chained (map meaning_of_link (drop i links)) left s c ≡ worth → i < length links → linked (get_or links i d).operator left (meaning (get_or links i d).right) s c ≡ None → worth ≡ None
chained-stuck s c = run-stuck (λ links left. chained (map meaning_of_link links) left s c) (λ link left. linked link.operator left (meaning link.right) s c) (chain-goes s c)

pub chained-more : (s : Setting) (c : Focus) (links : List Link) (i : ℕ) (d : Link) (left next : Value) (worth : Option Value) →
    chained (map meaning_of_link (drop i links)) left s c ≡ worth → i < length links → linked (get_or links i d).operator left (meaning (get_or links i d).right) s c ≡ Some next →
    chained (map meaning_of_link (drop (i + 1) links)) next s c ≡ worth
chained-more s c = run-more (λ links left. chained (map meaning_of_link links) left s c) (λ link left. linked link.operator left (meaning link.right) s c) (chain-goes s c)

pub chained-done : (s : Setting) (c : Focus) (links : List Link) (i : ℕ) (left : Value) (worth : Option Value) →
    chained (map meaning_of_link (drop i links)) left s c ≡ worth → length links ≤ i → worth ≡ Some left
chained-done s c = run-done (λ links left. chained (map meaning_of_link links) left s c)

-- ---- what a step takes from each node

pub joined-more : {A : Type 0} (made : A → Option (List ℕ)) (done : List ℕ) (n : A) (ns : List A) (found : List ℕ) → made n ≡ Some found →
    option_map (λ sets. done ++ joined sets) (each made (n ∷ ns)) ≡ option_map (λ sets. (done ++ found) ++ joined sets) (each made ns)
joined-more made done n ns found h = by (made n) (each made ns) h
  where
    by : (m : Option (List ℕ)) (rest : Option (List (List ℕ))) → m ≡ Some found → option_map (λ sets. done ++ joined sets) (m >>= λ y. rest >>= λ ys. Some (y ∷ ys)) ≡ option_map (λ sets. (done ++ found) ++ joined sets) rest
    by None rest e = cc e
    by (Some y) None e = refl
    by (Some y) (Some ys) e = let i : y ≡ found = cc e in ap (λ z. Some (done ++ (z ++ joined ys))) i ∙ ap Some (sym (append_assoc done found (joined ys)))

-- one node's are put behind those that are found
pub joined-onto : {A : Type 0} (made : A → Option (List ℕ)) (done next : List ℕ) (n : A) (ns : List A) → option_map (λ kept. done ++ kept) (made n) ≡ Some next →
    option_map (λ sets. done ++ joined sets) (each made (n ∷ ns)) ≡ option_map (λ sets. next ++ joined sets) (each made ns)
joined-onto {A = A} made done next n ns h = by (made n) refl h
  where
    by : (m : Option (List ℕ)) → made n ≡ m → option_map (λ kept. done ++ kept) m ≡ Some next →
        option_map (λ sets. done ++ joined sets) (each made (n ∷ ns)) ≡ option_map (λ sets. next ++ joined sets) (each made ns)
    by None i e = cc e
    by (Some found) i e =
        let is : done ++ found ≡ next = cc e in
        joined-more made done n ns found i ∙ ap (λ l. option_map (λ sets. l ++ joined sets) (each made ns)) is

pub joined-none : {A : Type 0} (made : A → Option (List ℕ)) (done : List ℕ) (n : A) (ns : List A) → option_map (λ kept. done ++ kept) (made n) ≡ None →
    option_map (λ sets. done ++ joined sets) (each made (n ∷ ns)) ≡ None
joined-none made done n ns h = by (made n) (each made ns) h
  where
    by : (m : Option (List ℕ)) (rest : Option (List (List ℕ))) → option_map (λ kept. done ++ kept) m ≡ None → option_map (λ sets. done ++ joined sets) (m >>= λ y. rest >>= λ ys. Some (y ∷ ys)) ≡ None
    by None rest e = refl
    by (Some found) rest e = cc e

-- One round of each loop over the shape, and its end.
use Rattle.std.proofs.Common.{◌≡◌, ℕ, zero, suc, ◌+◌, ◌<◌, ◌≤◌, Bool, true, false, ◌&&◌, List, [], ◌∷◌, ◌++◌, map, take, drop, length, get_or, Option, Some, option_map, refl, sym, ap, ◌∙◌, arith, append_assoc, subst}
use Rattle.std.specs.List.{flat_map, list_all}
use Rattle.std.proofs.lemmas.List.{at_drop_more, at_drop_all, take_more}
use Rattle.xf_def_syntax.specs.declared.expr.Expr.{Expr}
use Rattle.xf_def_syntax.specs.declared.expr.Link.{Link}
use Rattle.xf_def_syntax.specs.declared.expr.Step.{Step}
use Rattle.xf_def_forest.proofs.BackLaws.{and-true}
use Rattle.xf_def_forest.specs.declared.content.Node.{Node}
use Rattle.xf_def_xpath.specs.declared.value.Value.{Value}
use Rattle.xf_def_xpath.specs.Conversions.{nodes_of}
use Rattle.xf_def_xpath.specs.Meaning.{meaning, meaning_of_link, walk_of}
use Rattle.xf_def_xpath.specs.Operators.{chained, linked}
use Rattle.xf_def_xpath.specs.Setting.{Setting, Focus, Meaning, each, joined}
use Rattle.xf_def_xpath.specs.Steps.{kept_by_all, kept_from, walked}
use Rattle.xf_def_xpath.proofs.VisitFacts.{some-same}
use Rattle.xf_eval_shape.specs.Bound.{Gives}
use Rattle.xf_eval_shape.specs.Spots.{AreSpots, is_spot, number_at, numbers_at}
use Rattle.xf_eval_shape.specs.declared.spot.Spot.{Spot}
use Rattle.xf_eval_shape.specs.Steps.{if_so, spot_if}
use Rattle.xf_eval_shape.specs.Told.{IsTold}
use Rattle.xf_eval_shape.proofs.Loops.{onto, onto-end, kept-more, gathered, gathered-end, gathered-more, gathered-whole, walked-more, kept-all_more, chained-more}

-- ---- lists of nodes of the shape

both-hold : (a b : Bool) → a ≡ true → b ≡ true → (a && b) ≡ true
both-hold true b h i = i
both-hold false b h i = h

pub spots-append : (nodes : List Node) (xs ys : List Spot) → AreSpots nodes xs → AreSpots nodes ys → AreSpots nodes (xs ++ ys)
spots-append nodes [] ys h i = i
spots-append nodes (x ∷ xs) ys h i = both-hold (is_spot nodes x) (list_all (is_spot nodes) (xs ++ ys)) (and-true _ _ h).0 (spots-append nodes xs ys (and-true _ _ h).1 i)

pub spots-one : (nodes : List Node) (x : Spot) → is_spot nodes x ≡ true → AreSpots nodes (x ∷ [])
spots-one nodes x h = both-hold (is_spot nodes x) true h refl

pub all-at : {X : Type 0} (p : X → Bool) (xs : List X) (i : ℕ) (d : X) → list_all p xs ≡ true → i < length xs → p (get_or xs i d) ≡ true
all-at p [] i d h l = absurd (omega (arith, l))
all-at p (x ∷ xs) zero d h l = (and-true _ _ h).0
all-at p (x ∷ xs) (suc i) d h l = all-at p xs i d (and-true _ _ h).1 (omega (arith, l))

pub numbers-append : (xs ys : List Spot) → numbers_at (xs ++ ys) ≡ numbers_at xs ++ numbers_at ys
numbers-append [] ys = refl
numbers-append (x ∷ xs) ys = ap (λ l. number_at x ∷ l) (numbers-append xs ys)

pub flat-append : {X Y : Type 0} (f : X → List Y) (xs ys : List X) → flat_map f (xs ++ ys) ≡ flat_map f xs ++ flat_map f ys
flat-append f [] ys = refl
flat-append f (x ∷ xs) ys = ap (λ l. f x ++ l) (flat-append f xs ys) ∙ sym (append_assoc (f x) (flat_map f xs) (flat_map f ys))

append-none : {X : Type 0} (xs : List X) → xs ++ [] ≡ xs
append-none [] = refl
append-none (x ∷ xs) = ap (λ l. x ∷ l) (append-none xs)

-- what is made of the numbers of the first nodes, and of one more
pub flat-round : (f : ℕ → List ℕ) (xs : List Spot) (i : ℕ) (d : Spot) (done more : List ℕ) → done ≡ flat_map f (numbers_at (take i xs)) → i < length xs → more ≡ f (number_at (get_or xs i d)) →
    done ++ more ≡ flat_map f (numbers_at (take (i + 1) xs))
flat-round f xs i d done more e l h =
    ap (λ x. x ++ more) e
    ∙ ap (λ x. flat_map f (numbers_at (take i xs)) ++ x) (h ∙ sym (append-none (f (number_at (get_or xs i d)))))
    ∙ sym (ap (λ x. flat_map f (numbers_at x)) (take_more xs i d l) ∙ ap (flat_map f) (numbers-append (take i xs) (get_or xs i d ∷ [])) ∙ flat-append f (numbers_at (take i xs)) (number_at (get_or xs i d) ∷ []))

-- what is made of the first items of any list
pub each-round : {X Y : Type 0} (f : X → List Y) (xs : List X) (i : ℕ) (d : X) (done more : List Y) → done ≡ flat_map f (take i xs) → i < length xs → more ≡ f (get_or xs i d) → done ++ more ≡ flat_map f (take (i + 1) xs)
each-round f xs i d done more e l h =
    ap (λ x. x ++ more) e
    ∙ ap (λ x. flat_map f (take i xs) ++ x) (h ∙ sym (append-none (f (get_or xs i d))))
    ∙ sym (ap (flat_map f) (take_more xs i d l) ∙ flat-append f (take i xs) (get_or xs i d ∷ []))

-- ---- steps of a path

pub walked-round : (s : Setting) (steps : List Step) (i : ℕ) (d : Step) (ns ms : List ℕ) (worth : Option (List ℕ)) → walked s (map walk_of (drop i steps)) ns ≡ worth → i < length steps → walk_of (get_or steps i d) s ns ≡ Some ms →
    walked s (map walk_of (drop (i + 1) steps)) ms ≡ worth
walked-round s steps i d ns ms worth inv l h =
    sym (at_drop_more (λ xs. walked s (map walk_of xs) ns) steps i d l ∙ walked-more s (walk_of (get_or steps i d)) (map walk_of (drop (i + 1) steps)) ns ms h) ∙ inv

pub walked-end : (s : Setting) (steps : List Step) (i : ℕ) (ns : List ℕ) (worth : Option (List ℕ)) → walked s (map walk_of (drop i steps)) ns ≡ worth → length steps ≤ i → worth ≡ Some ns
walked-end s steps i ns worth inv l = sym inv ∙ at_drop_all (λ xs. walked s (map walk_of xs) ns) steps i l

-- ---- predicates

pub kept-all_round : (s : Setting) (exprs : List Expr) (i : ℕ) (d : Expr) (ns ks : List ℕ) (worth : Option (List ℕ)) → kept_by_all s (map meaning (drop i exprs)) ns ≡ worth → i < length exprs → kept_from s (meaning (get_or exprs i d)) (length ns) 1 ns ≡ Some ks →
    kept_by_all s (map meaning (drop (i + 1) exprs)) ks ≡ worth
kept-all_round s exprs i d ns ks worth inv l h =
    sym (at_drop_more (λ xs. kept_by_all s (map meaning xs) ns) exprs i d l ∙ kept-all_more s (meaning (get_or exprs i d)) (map meaning (drop (i + 1) exprs)) ns ks h) ∙ inv

pub kept-all_end : (s : Setting) (exprs : List Expr) (i : ℕ) (ns : List ℕ) (worth : Option (List ℕ)) → kept_by_all s (map meaning (drop i exprs)) ns ≡ worth → length exprs ≤ i → worth ≡ Some ns
kept-all_end s exprs i ns worth inv l = sym inv ∙ at_drop_all (λ xs. kept_by_all s (map meaning xs) ns) exprs i l

pub kept-round : (s : Setting) (m : Meaning) (spots : List Spot) (i : ℕ) (d : Spot) (b : Bool) (done : List ℕ) (worth : Option (List ℕ)) →
    onto done (kept_from s m (length spots) (suc i) (numbers_at (drop i spots))) ≡ worth → i < length spots → IsTold s m (suc i) (length spots) b →
    onto (done ++ if_so b (number_at (get_or spots i d))) (kept_from s m (length spots) (suc (suc i)) (numbers_at (drop (suc i) spots))) ≡ worth
kept-round s m spots i d b done worth inv l told =
    let next : suc i ≡ i + 1 = omega arith in
    ap (λ k. onto (done ++ if_so b (number_at (get_or spots i d))) (kept_from s m (length spots) (suc (suc i)) (numbers_at (drop k spots)))) next
    ∙ sym (at_drop_more (λ xs. onto done (kept_from s m (length spots) (suc i) (numbers_at xs))) spots i d l ∙ kept-more s m (length spots) (suc i) b done (number_at (get_or spots i d)) (numbers_at (drop (i + 1) spots)) told)
    ∙ inv

pub kept-end : (s : Setting) (m : Meaning) (spots : List Spot) (i : ℕ) (done : List ℕ) (worth : Option (List ℕ)) →
    onto done (kept_from s m (length spots) (suc i) (numbers_at (drop i spots))) ≡ worth → length spots ≤ i → worth ≡ Some done
kept-end s m spots i done worth inv l = sym inv ∙ at_drop_all (λ xs. onto done (kept_from s m (length spots) (suc i) (numbers_at xs))) spots i l ∙ onto-end done

-- ---- a step from each node

pub taken-round : (one : ℕ → Option (List ℕ)) (spots : List Spot) (i : ℕ) (d : Spot) (done ks : List ℕ) (worth : Option (List ℕ)) → gathered done (each one (numbers_at (drop i spots))) ≡ worth → i < length spots → one (number_at (get_or spots i d)) ≡ Some ks →
    gathered (done ++ ks) (each one (numbers_at (drop (i + 1) spots))) ≡ worth
taken-round one spots i d done ks worth inv l h =
    sym (at_drop_more (λ xs. gathered done (each one (numbers_at xs))) spots i d l ∙ gathered-more one done (number_at (get_or spots i d)) (numbers_at (drop (i + 1) spots)) ks h) ∙ inv

pub taken-end : (one : ℕ → Option (List ℕ)) (made : List ℕ → List ℕ) (spots : List Spot) (i : ℕ) (done : List ℕ) → gathered done (each one (numbers_at (drop i spots))) ≡ option_map joined (each one (numbers_at spots)) → length spots ≤ i →
    option_map (λ sets. made (joined sets)) (each one (numbers_at spots)) ≡ Some (made done)
taken-end one made spots i done inv l =
    gathered-whole made (each one (numbers_at spots)) done (sym inv ∙ at_drop_all (λ xs. gathered done (each one (numbers_at xs))) spots i l ∙ gathered-end done)

-- ---- operators

pub chained-round : (s : Setting) (c : Focus) (links : List Link) (i : ℕ) (d : Link) (ns ks ms : List ℕ) → i < length links →
    ((v : Value) → nodes_of v ≡ ks → Gives ms (linked (get_or links i d).operator v (meaning_of_link (get_or links i d)).right s c)) →
    (meaning_of_link (get_or links i d)).operator ≡ (get_or links i d).operator →
    ((w : Value) → nodes_of w ≡ ms → Gives ns (chained (map meaning_of_link (drop (i + 1) links)) w s c)) → (v : Value) → nodes_of v ≡ ks → Gives ns (chained (map meaning_of_link (drop i links)) v s c)
chained-round s c links i d ns ks ms l step same rest v e =
    let whole : chained (map meaning_of_link (drop i links)) v s c ≡ chained (meaning_of_link (get_or links i d) ∷ map meaning_of_link (drop (i + 1) links)) v s c = at_drop_more (λ xs. chained (map meaning_of_link xs) v s c) links i d l in
    λ w h. chained-more s c (meaning_of_link (get_or links i d)) (map meaning_of_link (drop (i + 1) links)) v ns ms
    (λ u k. step v e u (ap (λ o. linked o v (meaning_of_link (get_or links i d)).right s c) (sym same) ∙ k)) rest w (sym whole ∙ h)

pub chained-end : (s : Setting) (c : Focus) (links : List Link) (i : ℕ) (ks : List ℕ) → length links ≤ i → (w : Value) → nodes_of w ≡ ks → Gives ks (chained (map meaning_of_link (drop i links)) w s c)
chained-end s c links i ks l w e =
    λ u h. ap nodes_of (sym (some-same (sym (at_drop_all (λ xs. chained (map meaning_of_link xs) w s c) links i l) ∙ h))) ∙ e

-- ---- a predicate, by what its calls give

pub kept-numbers : (b : Bool) (x : Spot) → numbers_at (spot_if b x) ≡ if_so b (number_at x)
kept-numbers true x = refl
kept-numbers false x = refl

pub kept-are : (nodes : List Node) (b : Bool) (x : Spot) → is_spot nodes x ≡ true → AreSpots nodes (spot_if b x)
kept-are nodes true x h = spots-one nodes x h
kept-are nodes false x h = refl

pub kept-left : (s : Setting) (m : Meaning) (spots : List Spot) (i size : ℕ) (d : Spot) (b : Bool) (left left' : List Spot) (worth : Option (List ℕ)) → size ≡ length spots →
    onto (numbers_at left) (kept_from s m size (suc i) (numbers_at (drop i spots))) ≡ worth → i < size → IsTold s m (i + 1) size b → left' ≡ left ++ spot_if b (get_or spots i d) →
    onto (numbers_at left') (kept_from s m size (suc (i + 1)) (numbers_at (drop (i + 1) spots))) ≡ worth
kept-left s m spots i size d b left left' worth e inv l told h =
    let next : i + 1 ≡ suc i = omega arith in
    let inside : i < length spots = omega (arith, e, l) in
    let first : onto (numbers_at left) (kept_from s m (length spots) (suc i) (numbers_at (drop i spots))) ≡ worth = ap (λ k. onto (numbers_at left) (kept_from s m k (suc i) (numbers_at (drop i spots)))) (sym e) ∙ inv in
    let same : IsTold s m (suc i) (length spots) b = subst (λ k. IsTold s m k (length spots) b) next (subst (λ k. IsTold s m (i + 1) k b) e told) in
    ap (λ x. onto (numbers_at x) (kept_from s m size (suc (i + 1)) (numbers_at (drop (i + 1) spots)))) h
    ∙ ap (λ x. onto x (kept_from s m size (suc (i + 1)) (numbers_at (drop (i + 1) spots)))) (numbers-append left (spot_if b (get_or spots i d)) ∙ ap (λ x. numbers_at left ++ x) (kept-numbers b (get_or spots i d)))
    ∙ ap (λ k. onto (numbers_at left ++ if_so b (number_at (get_or spots i d))) (kept_from s m k (suc (i + 1)) (numbers_at (drop (i + 1) spots)))) e
    ∙ ap (λ k. onto (numbers_at left ++ if_so b (number_at (get_or spots i d))) (kept_from s m (length spots) (suc k) (numbers_at (drop k spots)))) next
    ∙ kept-round s m spots i d b (numbers_at left) worth first inside same

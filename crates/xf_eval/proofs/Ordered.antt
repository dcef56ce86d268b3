-- What a step keeps of a forward axis stands in document order, and so does a node alone.
use Rattle.std.proofs.Common.{◌≡◌, ℕ, ◌==◌, ◌<◌, Bool, true, false, not, cond, ◌&&◌, ◌||◌, List, [], ◌∷◌, map, length, Option, Some, None, option_map, refl, sym, ap, ◌∙◌, subst, arith, slice_get}
use Rattle.std.specs.Prelude.{filter, find, reverse}
use Rattle.std.proofs.lemmas.Bool.Decides.{nat_tests}
use Rattle.xf_name.specs.declared.axis.Axis.{Axis}
use Rattle.xf_name.specs.declared.axis.Axis.TheVariants.{DescendantOrSelf}
use Rattle.xf_def_syntax.specs.declared.expr.Test.{Test}
use Rattle.xf_def_syntax.specs.declared.expr.Test.TheVariants as test
use Rattle.xf_def_forest.specs.declared.content.Node.{Node}
use Rattle.xf_def_forest.specs.Forest.{has_number}
use Rattle.xf_def_forest.specs.Visit.{Visit, visits, has}
use Rattle.xf_def_forest.specs.Axis.{axis_from, is_reverse, on_axis}
use Rattle.xf_def_forest.specs.Shape.{erased}
use Rattle.xf_def_forest.specs.Texts.{Keeping}
use Rattle.xf_def_forest.specs.WellFormed.{AreTrees, HasTrees}
use Rattle.xf_def_forest.proofs.BackLaws.{and-true, or-false, not-true}
use Rattle.xf_def_forest.proofs.OrderLaws.{Sub, done, skip, keep, are_different, axis-in_order, filter-sub, map-sub, sub-has, sub-none, sub-through, visits-different, seen-has}
use Rattle.xf_def_forest.proofs.RenumberLaws.{filter-through, map-map}
use Rattle.xf_def_xpath.specs.Setting.{Meaning, Setting, ◌>>=◌, in_order, joined}
use Rattle.xf_def_xpath.specs.Steps.{begun_at, from_one, kept_by_all, reached}
use Rattle.xf_def_xpath.specs.Tests.{meets}
use Rattle.xf_def_xpath.proofs.Options.{IfGiven, nothing, given}
use Rattle.xf_def_xpath.proofs.OrderLaws.{kept_all-sub}
use Rattle.xf_eval.specs.Live.{AllLive}
use Rattle.xf_eval.specs.Taken.{taken}
use Rattle.xf_eval.specs.Worth.{seen}
use Rattle.xf_eval.proofs.Lists.{append-none}

-- ---- a part of a list without doubles

turned : (m n : ℕ) → (m == n) ≡ (n == m)
turned m n = grind (arith, nat_tests)

same : (n : ℕ) → (n == n) ≡ true
same n = grind (arith, nat_tests)

-- one that does not stand in the list is not found there
without : (n : ℕ) (ns ms : List ℕ) → has n ms ≡ false → filter (λ m. has m (n ∷ ns)) ms ≡ filter (λ m. has m ns) ms
without n ns [] h = refl
without n ns (m ∷ ms) h =
    let parts = or-false (n == m) (has n ms) h in
    ap (λ b. cond (b || has m ns) (m ∷ filter (λ k. has k (n ∷ ns)) ms) (filter (λ k. has k (n ∷ ns)) ms)) (turned m n ∙ parts.0)
    ∙ ap (λ l. cond (has m ns) (m ∷ l) l) (without n ns ms parts.1)

part-kept : {ns ms : List ℕ} → Sub ns ms → are_different ms ≡ true → filter (λ m. has m ns) ms ≡ ns
part-kept done d = refl
part-kept (skip {x = x} {xs = ns} {ys = ms} p) d =
    let parts = and-true (not (has x ms)) (are_different ms) d in
    ap (λ b. cond b (x ∷ filter (λ m. has m ns) ms) (filter (λ m. has m ns) ms)) (sub-has x p (not-true (has x ms) parts.0))
    ∙ part-kept p parts.1
part-kept (keep {x = x} {xs = ns} {ys = ms} p) d =
    let parts = and-true (not (has x ms)) (are_different ms) d in
    ap (λ b. cond (b || has x ns) (x ∷ filter (λ m. has m (x ∷ ns)) ms) (filter (λ m. has m (x ∷ ns)) ms)) (same x)
    ∙ ap (λ l. x ∷ l) (without x ns ms (not-true (has x ms) parts.0) ∙ part-kept p parts.1)

-- ---- over a forest

abbrev numbers_in : List Visit → List ℕ
numbers_in all = map (λ v. v.number) all

numbers-seen : (nodes : List Node) → numbers_in (seen nodes) ≡ numbers_in (visits nodes)
numbers-seen nodes = map-map (λ (v : Visit). v.number) erased (visits nodes)

-- a part of the list of all nodes stands in document order
part-in_order : (k : Keeping) → AreTrees k → (ns : List ℕ) → Sub ns (numbers_in (seen k.forest.nodes)) → in_order (seen k.forest.nodes) ns ≡ ns
part-in_order k sound ns p =
    let all = seen k.forest.nodes in
    let trees : HasTrees k.forest = record { apart = sound.apart; below = sound.below; depths = sound.depths; tops = sound.tops; first = sound.first } in
    sym (filter-through (λ (v : Visit). v.number) (λ m. has m ns) (λ v. has v.number ns) (λ v. refl) all)
    ∙ part-kept p (ap are_different (numbers-seen k.forest.nodes) ∙ visits-different k.forest trees)

-- ---- forward axes

forward : (b : Bool) (xs ys : List Visit) → b ≡ false → Sub xs ys → Sub (cond b (reverse xs) xs) ys
forward true xs ys h p = cc h
forward false xs ys h p = p

reached-sub : (axis : Axis) (t : Test) (all : List Visit) (n : ℕ) → is_reverse axis ≡ false → Sub (reached axis t all n) (numbers_in all)
reached-sub axis t all n h = by (find (λ x. x.number == n) all)
  where
    by : (m : Option Visit) → Sub (map (λ y. y.number) (filter (λ y. meets axis t y.content) (axis_from axis all m))) (numbers_in all)
    by None = sub-none (numbers_in all)
    by (Some x) =
        map-sub (λ (y : Visit). y.number) (sub-through (filter-sub (λ y. meets axis t y.content) (axis_from axis all (Some x))) (forward (is_reverse axis) (on_axis axis all x) all h (axis-in_order axis all x)))

part-of : (ns kept : List ℕ) (m : Option (List ℕ)) → IfGiven (λ ks. Sub ks ns) m → m ≡ Some kept → Sub kept ns
part-of ns kept None nothing e = cc e
part-of ns kept (Some ks) (given p) e = let i : ks ≡ kept = cc e in subst (λ l. Sub l ns) i p

-- what a step keeps of a forward axis
pub forward-in_order : (axis : Axis) (t : Test) (ms : List Meaning) (s : Setting) (n : ℕ) (kept : List ℕ) (k : Keeping) → AreTrees k → s.all ≡ seen k.forest.nodes →
    from_one axis t ms s n ≡ Some kept → is_reverse axis ≡ false → in_order (seen k.forest.nodes) kept ≡ kept
forward-in_order axis t ms s n kept k sound all e h =
    let part : Sub kept (numbers_in s.all) =
    sub-through (part-of (reached axis t s.all n) kept (kept_by_all s ms (reached axis t s.all n)) (kept_all-sub s ms (reached axis t s.all n)) e) (reached-sub axis t s.all n h) in
    part-in_order k sound kept (subst (λ (l : List Visit). Sub kept (numbers_in l)) all part)

-- ---- few nodes

one-sub : (n : ℕ) (ms : List ℕ) → has n ms ≡ true → Sub (n ∷ []) ms
one-sub n [] h = cc h
one-sub n (m ∷ ms) h = by (one-sub n ms) (n == m) refl h
  where
    by : (has n ms ≡ true → Sub (n ∷ []) ms) → (b : Bool) → (n == m) ≡ b → (b || has n ms) ≡ true → Sub (n ∷ []) (m ∷ ms)
    by later true e i = let is : n ≡ m = grind (arith, nat_tests, e) in subst (λ k. Sub (k ∷ []) (m ∷ ms)) (sym is) (keep (sub-none ms))
    by later false e i = skip (later i)

and-left : (a b : Bool) → (a && b) ≡ true → a ≡ true
and-left true b h = refl
and-left false b h = h

-- one node alone, or none
pub few-in_order : (ns : List ℕ) (k : Keeping) → AreTrees k → AllLive ns k.forest.nodes → length ns < 2 → in_order (seen k.forest.nodes) ns ≡ ns
few-in_order [] k sound live few = part-in_order k sound [] (sub-none (numbers_in (seen k.forest.nodes)))
few-in_order (n ∷ []) k sound live few =
    part-in_order k sound (n ∷ [])
    (one-sub n (numbers_in (seen k.forest.nodes)) (ap (has n) (numbers-seen k.forest.nodes) ∙ seen-has n [] k.forest.nodes ∙ and-left (has_number n k.forest.nodes) true live))
few-in_order (n ∷ m ∷ ns) k sound live few = absurd (omega arith)

-- ---- a step from one node

pub alone-is : (ns : List ℕ) (n : ℕ) → length ns ≡ 1 → slice_get ns 0 ≡ Some n → ns ≡ n ∷ []
alone-is [] n l e = cc l
alone-is (m ∷ []) n l e = let i : m ≡ n = cc e in ap (λ k. k ∷ []) i
alone-is (m ∷ k ∷ ns) n l e = absurd (omega (arith, l))

pub taken-one : (axis : Axis) (t : Test) (ms : List Meaning) (s : Setting) (n : ℕ) (kept : List ℕ) → from_one axis t ms s n ≡ Some kept → taken axis t ms s (n ∷ []) ≡ Some (in_order s.all kept)
taken-one axis t ms s n kept e = by (from_one axis t ms s n) e
  where
    by : (m : Option (List ℕ)) → m ≡ Some kept → option_map (λ sets. in_order s.all (joined sets)) (m >>= λ y. Some (y ∷ [])) ≡ Some (in_order s.all kept)
    by None i = cc i
    by (Some ks) i = let j : ks ≡ kept = cc i in ap (λ l. Some (in_order s.all l)) (append-none ks ∙ j)

pub taken-none : (axis : Axis) (t : Test) (ms : List Meaning) (s : Setting) (n : ℕ) → from_one axis t ms s n ≡ None → taken axis t ms s (n ∷ []) ≡ None
taken-none axis t ms s n e = ap (λ m. option_map (λ sets. in_order s.all (joined sets)) (m >>= λ y. Some (y ∷ []))) e

-- where a step behind `//` begins, from one node
pub down-begun : (n : ℕ) (k : Keeping) → AreTrees k → reached DescendantOrSelf test.Node (seen k.forest.nodes) n ≡ begun_at true (seen k.forest.nodes) (n ∷ [])
down-begun n k sound =
    let all = seen k.forest.nodes in
    let below = reached DescendantOrSelf test.Node all n in
    sym (ap (in_order all) (append-none below) ∙ part-in_order k sound below (reached-sub DescendantOrSelf test.Node all n refl))

-- Which nodes stand in the forest: those of lists, of parts of lists, of axes and of sets in order; and what meets a test among them.
use Rattle.std.proofs.Common.{◌≡◌, ℕ, zero, suc, ◌==◌, Bool, true, false, cond, ◌&&◌, ◌||◌, ◌<◌, List, [], ◌∷◌, ◌++◌, map, length, get_or, Option, Some, None, option_map, refl, sym, ap, ◌∙◌, arith, slice_get}
use Rattle.std.specs.Prelude.{filter, find, reverse}
use Rattle.std.specs.List.{list_all}
use mathlib.Core.List.{reverse_aux}
use Rattle.std.proofs.lemmas.Bool.Decides.{nat_tests}
use Rattle.xf_name.specs.declared.axis.Axis.{Axis}
use Rattle.xf_def_syntax.specs.declared.expr.Test.{Test}
use Rattle.xf_def_forest.specs.declared.content.Node.{Node}
use Rattle.xf_def_forest.specs.declared.node.NodeId.{NodeId}
use Rattle.xf_def_forest.specs.Forest.{Forest, content_at, has_number}
use Rattle.xf_def_forest.specs.Visit.{Visit, visits, has}
use Rattle.xf_def_forest.specs.Axis.{axis_from, axis_of, is_reverse, on_axis}
use Rattle.xf_def_forest.specs.Shape.{erased}
use Rattle.xf_def_forest.specs.Texts.{Keeping}
use Rattle.xf_def_forest.specs.WellFormed.{AreTrees, HasTrees}
use Rattle.xf_def_forest.proofs.OrderLaws.{Sub, done, skip, keep, axis-in_order, visits-different}
use Rattle.xf_def_forest.proofs.LiveLaws.{axis-all_live, in_order-live}
use Rattle.xf_def_xpath.specs.Setting.{in_order}
use Rattle.xf_def_xpath.specs.Steps.{reached}
use Rattle.xf_def_xpath.specs.Tests.{meets}
use Rattle.xf_def_xpath.proofs.ForestVisits.{Each, each-map, self-found}
use Rattle.xf_eval.specs.Live.{AllLive}
use Rattle.xf_eval.specs.Met.{is_met}
use Rattle.xf_eval.proofs.Erased.{content-seen, reached-erased}

and-left : (a b : Bool) → (a && b) ≡ true → a ≡ true
and-left true b h = refl
and-left false b h = h

and-right : (a b : Bool) → (a && b) ≡ true → b ≡ true
and-right true b h = h
and-right false b h = cc h

and-both : (a b : Bool) → a ≡ true → b ≡ true → (a && b) ≡ true
and-both true b h k = k
and-both false b h k = h

-- ---- lists

pub live-is : {ns ms : List ℕ} (nodes : List Node) → ns ≡ ms → AllLive ms nodes → AllLive ns nodes
live-is nodes e h = ap (list_all (λ n. has_number n nodes)) e ∙ h

pub live-none : (nodes : List Node) → AllLive [] nodes
live-none nodes = refl

pub live-one : (n : ℕ) (nodes : List Node) → has_number n nodes ≡ true → AllLive (n ∷ []) nodes
live-one n nodes h = and-both (has_number n nodes) true h refl

pub live-append : (ns ms : List ℕ) (nodes : List Node) → AllLive ns nodes → AllLive ms nodes → AllLive (ns ++ ms) nodes
live-append [] ms nodes h k = k
live-append (n ∷ ns) ms nodes h k =
    and-both (has_number n nodes) (list_all (λ m. has_number m nodes) (ns ++ ms))
    (and-left (has_number n nodes) (list_all (λ m. has_number m nodes) ns) h)
    (live-append ns ms nodes (and-right (has_number n nodes) (list_all (λ m. has_number m nodes) ns) h) k)

-- the node at a place
pub live-get : (ns : List ℕ) (at n : ℕ) (nodes : List Node) → AllLive ns nodes → slice_get ns at ≡ Some n → has_number n nodes ≡ true
live-get [] at n nodes h e = cc e
live-get (m ∷ ns) zero n nodes h e = let i : m ≡ n = cc e in ap (λ k. has_number k nodes) (sym i) ∙ and-left (has_number m nodes) (list_all (λ k. has_number k nodes) ns) h
live-get (m ∷ ns) (suc at) n nodes h e = live-get ns at n nodes (and-right (has_number m nodes) (list_all (λ k. has_number k nodes) ns) h) e

pub live-item : (ids : List NodeId) (at : ℕ) (other : NodeId) (nodes : List Node) → AllLive (map (λ i. i.number) ids) nodes → at < length ids → has_number (get_or ids at other).number nodes ≡ true
live-item [] at other nodes h l = absurd (omega arith)
live-item (i ∷ ids) zero other nodes h l = and-left (has_number i.number nodes) (list_all (λ k. has_number k nodes) (map (λ i. i.number) ids)) h
live-item (i ∷ ids) (suc at) other nodes h l =
    live-item ids at other nodes (and-right (has_number i.number nodes) (list_all (λ k. has_number k nodes) (map (λ i. i.number) ids)) h) (omega arith)

pub live-filter : (p : ℕ → Bool) (ns : List ℕ) (nodes : List Node) → AllLive ns nodes → AllLive (filter p ns) nodes
live-filter p [] nodes h = refl
live-filter p (n ∷ ns) nodes h =
    by (p n) (live-filter p ns nodes (and-right (has_number n nodes) (list_all (λ m. has_number m nodes) ns) h))
  where
    by : (b : Bool) → AllLive (filter p ns) nodes → AllLive (cond b (n ∷ filter p ns) (filter p ns)) nodes
    by true k = and-both (has_number n nodes) (list_all (λ m. has_number m nodes) (filter p ns)) (and-left (has_number n nodes) (list_all (λ m. has_number m nodes) ns) h) k
    by false k = k

or-left : (a b : Bool) → a ≡ true → (a || b) ≡ true
or-left a b h = ap (λ x. x || b) h

or-right : (a b : Bool) → b ≡ true → (a || b) ≡ true
or-right true b h = refl
or-right false b h = h

same : (n : ℕ) → (n == n) ≡ true
same n = grind (arith, nat_tests)

-- where all that the list has is live
all-live : (nodes : List Node) (ns : List ℕ) → ((m : ℕ) → has m ns ≡ true → has_number m nodes ≡ true) → AllLive ns nodes
all-live nodes [] h = refl
all-live nodes (n ∷ ns) h =
    and-both (has_number n nodes) (list_all (λ m. has_number m nodes) ns) (h n (or-left (n == n) (has n ns) (same n)))
    (all-live nodes ns (λ m i. h m (or-right (m == n) (has m ns) i)))

pub live-in_order : (ns : List ℕ) (nodes : List Node) → AllLive (in_order (visits nodes) ns) nodes
live-in_order ns nodes = all-live nodes (in_order (visits nodes) ns) (λ m. in_order-live m ns nodes)

-- ---- what meets a test on an axis

each-sub : {X : Type 0} (P : X → Type 0) {xs ys : List X} → Sub xs ys → Each P ys → Each P xs
each-sub P done e = e
each-sub P (skip p) e = each-sub P p e.1
each-sub P (keep p) e = (e.0, each-sub P p e.1)

each-turned : {X : Type 0} (P : X → Type 0) (xs ys : List X) → Each P xs → Each P ys → Each P (reverse_aux xs ys)
each-turned P [] ys e f = f
each-turned P (x ∷ xs) ys e f = each-turned P xs (x ∷ ys) e.1 (e.0, f)

each-near : {X : Type 0} (P : X → Type 0) (b : Bool) (xs : List X) → Each P xs → Each P (cond b (reverse xs) xs)
each-near P true xs e = each-turned P xs [] e tt
each-near P false xs e = e

abbrev Told : List Node → Visit → Type 0
Told nodes v = content_at v.number nodes ≡ Some v.content

axis-told : (axis : Axis) (nodes : List Node) → Each (Told nodes) (visits nodes) → (m : Option Visit) → Each (Told nodes) (axis_from axis (visits nodes) m)
axis-told axis nodes e None = tt
axis-told axis nodes e (Some x) = each-near (Told nodes) (is_reverse axis) (on_axis axis (visits nodes) x) (each-sub (Told nodes) (axis-in_order axis (visits nodes) x) e)

met-listed : (axis : Axis) (t : Test) (nodes : List Node) (xs : List Visit) → Each (Told nodes) xs →
    map (λ (y : Visit). y.number) (filter (λ y. meets axis t y.content) xs) ≡ filter (λ m. is_met axis t (content_at m nodes)) (map (λ (y : Visit). y.number) xs)
met-listed axis t nodes [] e = refl
met-listed axis t nodes (x ∷ xs) e =
    by (meets axis t x.content) (met-listed axis t nodes xs e.1)
    ∙ ap (λ m. cond (is_met axis t m) (x.number ∷ filter (λ k. is_met axis t (content_at k nodes)) (map (λ (y : Visit). y.number) xs)) (filter (λ k. is_met axis t (content_at k nodes)) (map (λ (y : Visit). y.number) xs))) (sym e.0)
  where
    kept : List ℕ
    kept = filter (λ k. is_met axis t (content_at k nodes)) (map (λ (y : Visit). y.number) xs)

    by : (b : Bool) → map (λ (y : Visit). y.number) (filter (λ y. meets axis t y.content) xs) ≡ kept
        → map (λ (y : Visit). y.number) (cond b (x ∷ filter (λ y. meets axis t y.content) xs) (filter (λ y. meets axis t y.content) xs)) ≡ cond b (x.number ∷ kept) kept
    by true h = ap (λ l. x.number ∷ l) h
    by false h = h

trees-told : (forest : Forest) → HasTrees forest → Each (Told forest.nodes) (visits forest.nodes)
trees-told forest sound =
    each-map (λ v. find (λ x. x.number == v.number) (visits forest.nodes) ≡ Some v) (Told forest.nodes) (visits forest.nodes)
    (λ v h. sym (content-seen v.number [] forest.nodes) ∙ ap (option_map (λ (x : Visit). x.content)) h)
    (self-found (visits forest.nodes) (visits-different forest sound))

pub reached-met : (axis : Axis) (t : Test) (n : ℕ) (k : Keeping) → AreTrees k →
    filter (λ m. is_met axis t (content_at m k.forest.nodes)) (axis_of axis n (visits k.forest.nodes)) ≡ reached axis t (map erased (visits k.forest.nodes)) n
reached-met axis t n k sound =
    let trees : HasTrees k.forest = record { apart = sound.apart; below = sound.below; depths = sound.depths; tops = sound.tops; first = sound.first } in
    sym (
    reached-erased axis t (visits k.forest.nodes) n
    ∙ met-listed axis t k.forest.nodes (axis_from axis (visits k.forest.nodes) (find (λ x. x.number == n) (visits k.forest.nodes))) (axis-told axis k.forest.nodes (trees-told k.forest trees) (find (λ x. x.number == n) (visits k.forest.nodes)))
    )

-- what a step reaches is live
pub reached-live : (axis : Axis) (t : Test) (n : ℕ) (k : Keeping) → AreTrees k → AllLive (reached axis t (map erased (visits k.forest.nodes)) n) k.forest.nodes
reached-live axis t n k sound =
    live-is k.forest.nodes (sym (reached-met axis t n k sound))
    (live-filter (λ m. is_met axis t (content_at m k.forest.nodes)) (axis_of axis n (visits k.forest.nodes)) k.forest.nodes (axis-all_live axis n k.forest.nodes))

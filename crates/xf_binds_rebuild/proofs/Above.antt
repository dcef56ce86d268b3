-- The ancestors of a node, from parent to parent.
use Rattle.std.proofs.Common.{◌≡◌, ℕ, ◌<◌, ◌==◌, Bool, true, not, ◌||◌, List, [], ◌∷◌, ◌++◌, map, length, Option, Some, None, option_map, refl, sym, ap, ◌∙◌, arith}
use Rattle.xf_def_forest.specs.declared.node.NodeId.{NodeId}
use Rattle.xf_def_forest.specs.Forest.{Forest, has_number, is_text}
use Rattle.xf_def_forest.specs.Visit.{Visit, visits, has, first_of, above_in, ancestors_of, parent_of}
use Rattle.xf_def_forest.specs.Shape.{erased}
use Rattle.xf_def_forest.specs.WellFormed.{HasTrees}
use Rattle.xf_def_forest.proofs.LiveLaws.{ancestors-live}
use Rattle.xf_def_xpath.specs.Asked.{found}
use Rattle.xf_def_xpath.specs.Agree.{untexted, AreVisits}
use Rattle.xf_def_xpath.proofs.VisitFacts.{some-same, none-some, found-out, self-same, or-left, or-right}
use Rattle.xf_def_xpath.proofs.ForestVisits.{found-erased, forest-visits}

erased-above : (o : Option Visit) (z : Visit) → option_map erased o ≡ Some z → above_in o ≡ z.above
erased-above None z e = none-some e
erased-above (Some x) z e = ap (λ (v : Visit). v.above) (some-same e)

-- above a parent stands what is above its child but itself
above-parent : (forest : Forest) (n p : ℕ) (ns : List ℕ) → HasTrees forest → ancestors_of n (visits forest.nodes) ≡ p ∷ ns → ancestors_of p (visits forest.nodes) ≡ ns
above-parent forest n p ns sound h = by (found n all) refl h
  where
    all : List Visit
    all = visits forest.nodes

    bare : List Visit
    bare = map erased all

    facts : AreVisits bare
    facts = forest-visits forest sound

    last : (o : Option Visit) → found p (untexted bare) ≡ o → option_map (λ (v : Visit). v.above) o ≡ Some ns → ancestors_of p all ≡ ns
    last None e i = none-some i
    last (Some z) e i =
        let out = found-out (λ y. not (is_text y.content)) p bare z facts.apart e in
        erased-above (found p all) z (sym (found-erased p all) ∙ out.0) ∙ some-same i

    by : (o : Option Visit) → found n all ≡ o → above_in o ≡ p ∷ ns → ancestors_of p all ≡ ns
    by None e i = cc i
    by (Some x) e i = last (found p (untexted bare)) refl (facts.closed n p ns (erased x) (found-erased n all ∙ ap (option_map erased) e) i)

abbrev pub number_in : Option NodeId → Option ℕ
number_in o = option_map (λ (n : NodeId). n.number) o

-- a node with its ancestors
abbrev pub up_from : List Visit → Option ℕ → List ℕ
up_from all None = []
up_from all (Some p) = p ∷ ancestors_of p all

pub up-parent : (forest : Forest) (n : ℕ) (o : Option ℕ) → HasTrees forest → o ≡ parent_of n (visits forest.nodes) → up_from (visits forest.nodes) o ≡ ancestors_of n (visits forest.nodes)
up-parent forest n o sound h = ap (up_from (visits forest.nodes)) h ∙ by (ancestors_of n (visits forest.nodes)) refl
  where
    by : (ns : List ℕ) → ancestors_of n (visits forest.nodes) ≡ ns → up_from (visits forest.nodes) (first_of ns) ≡ ns
    by [] e = refl
    by (p ∷ ns) e = ap (λ l. p ∷ l) (above-parent forest n p ns sound e)

together : (xs ys zs : List ℕ) → (xs ++ ys) ++ zs ≡ xs ++ (ys ++ zs)
together [] ys zs = refl
together (x ∷ xs) ys zs = ap (λ l. x ∷ l) (together xs ys zs)

pub up-next : (forest : Forest) (xs : List ℕ) (p : ℕ) (o next : Option ℕ) (all : List ℕ) → HasTrees forest → o ≡ Some p → next ≡ parent_of p (visits forest.nodes)
    → xs ++ up_from (visits forest.nodes) o ≡ all → (xs ++ p ∷ []) ++ up_from (visits forest.nodes) next ≡ all
up-next forest xs p o next all sound h k e =
    together xs (p ∷ []) (up_from (visits forest.nodes) next)
    ∙ ap (λ l. xs ++ p ∷ l) (up-parent forest p next sound k)
    ∙ ap (λ q. xs ++ up_from (visits forest.nodes) q) (sym h)
    ∙ e

pub up-shorter : (forest : Forest) (p : ℕ) (o next : Option ℕ) → HasTrees forest → o ≡ Some p → next ≡ parent_of p (visits forest.nodes)
    → length (up_from (visits forest.nodes) next) < length (up_from (visits forest.nodes) o)
up-shorter forest p o next sound h k =
    let e = ap length (up-parent forest p next sound k) in
    let f = ap (λ q. length (up_from (visits forest.nodes) q)) h in
    omega (arith, e, f)

has-middle : (p : ℕ) (xs ys : List ℕ) → has p (xs ++ p ∷ ys) ≡ true
has-middle p [] ys = or-left (p == p) (has p ys) (self-same p)
has-middle p (x ∷ xs) ys = or-right (p == x) (has p (xs ++ p ∷ ys)) (has-middle p xs ys)

pub up-live : (forest : Forest) (n : ℕ) (xs : List ℕ) (p : ℕ) (o : Option ℕ) → o ≡ Some p → xs ++ up_from (visits forest.nodes) o ≡ ancestors_of n (visits forest.nodes) → has_number p forest.nodes ≡ true
up-live forest n xs p o h e =
    ancestors-live n p forest.nodes
    (ap (has p) (sym e ∙ ap (λ q. xs ++ up_from (visits forest.nodes) q) h) ∙ has-middle p xs (ancestors_of p (visits forest.nodes)))

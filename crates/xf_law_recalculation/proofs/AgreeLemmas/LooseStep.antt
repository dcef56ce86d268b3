-- A step over two forests that meet: it gives the same known nodes in both, and for each of them stands one that is asked.
use Rattle.std.proofs.Common.{◌≡◌, ℕ, ◌==◌, Bool, true, false, not, ◌&&◌, List, [], ◌∷◌, ◌++◌, Option, Some, None, option_map, refl, sym, ap, ◌∙◌, inl, inr}
use Rattle.std.specs.Prelude.{filter, is_some}
use Rattle.std.specs.List.{flat_map}
use Rattle.std.proofs.lemmas.Bool.{eqb-true}
use Rattle.xf_name.specs.declared.axis.Axis.{Axis}
use Rattle.xf_name.specs.declared.axis.Axis.TheVariants.{DescendantOrSelf}
use Rattle.xf_def_syntax.specs.declared.expr.Test.{Test}
use Rattle.xf_def_syntax.specs.declared.expr.Test.TheVariants.{Node}
use Rattle.xf_def_forest.specs.declared.content.Content.{Content}
use Rattle.xf_def_forest.specs.declared.content.Content.TheVariants as content
use Rattle.xf_def_forest.specs.Forest.{is_text, is_attribute}
use Rattle.xf_def_forest.specs.Visit.{Visit, has}
use Rattle.xf_def_forest.specs.Axis.{is_on, in_range}
use Rattle.xf_def_forest.specs.Shape.{text_number, is_replaced}
use Rattle.xf_def_forest.proofs.BackLaws.{and-true}
use Rattle.xf_def_xpath.specs.Setting.{Setting, Meaning, ◌>>=◌, in_order}
use Rattle.xf_def_xpath.specs.Tests.{meets}
use Rattle.xf_def_xpath.specs.Asked.{found, lists_below, read_for}
use Rattle.xf_def_xpath.specs.AskedSteps.{lists_of, kind_read, is_kind, meets_texts, goes_up, read_if, text_beside}
use Rattle.xf_def_xpath.specs.Steps.{reached, kept_by_all, from_one, begun_at}
use Rattle.xf_def_xpath.specs.Agree.{numbers_of, are_apart}
use Rattle.xf_def_xpath.specs.Exact.{is_sibling}
use Rattle.xf_def_xpath.proofs.VisitFacts.{self-same, or-cases, or-left, or-right, no, some-same, found-number, present, found-out}
use Rattle.xf_def_xpath.proofs.SameKept.{region, has-append, has-left, has-right, kept-found}
use Rattle.xf_def_xpath.proofs.ReachAgree.{Reach}
use Rattle.xf_def_xpath.proofs.UntextedLaws.{part-order}
use Rattle.xf_def_xpath.proofs.Comparison.{Comparison, other, Within, in_order-framed}
use Rattle.xf_def_xpath.proofs.StepAgree.{gathered, gathered-without}
use Rattle.xf_def_xpath.proofs.BelowAgree.{flat-has, flat-within}
use Rattle.xf_def_xpath.proofs.ReadsAgree.{in-order_has}
use Rattle.xf_law_recalculation.proofs.AgreeLemmas.Alike.{Alike, both, alike-then, alike-weaker, alike-at, alike-map_too, Placing, meanings_of, kept-alike}
use Rattle.xf_law_recalculation.proofs.AgreeLemmas.Parts.{part-apart, in_part, reached-part, part-starts}
use Rattle.xf_law_recalculation.proofs.AgreeLemmas.Covers.{covered, cov-solid, cover-step, cover-beside, reached-in, reached-has, range-found, solid-reader}
use Rattle.xf_law_recalculation.proofs.AgreeLemmas.Meeting.{Meeting, keeps, kept, A, B, U, KA, KB, stand, kept-first, kept-second, reach-kept, below-same, child-same}
use Rattle.xf_law_recalculation.proofs.AgreeLemmas.Known.{Side, Reading, above-text, met-known, text, one, none-from}

-- ---- nodes of both forests

-- the node is known and the same in both, and what stands for it is asked
pub record Good {w : Comparison} (m : Meeting w) (set : List ℕ) (k : ℕ) : Type 0 where
  pub visit : Visit
  pub in_first : found k (KA m) ≡ Some visit
  pub in_second : found k (KB m) ≡ Some visit
  pub asked : has (stand m visit) set ≡ true

abbrev pub AllGood : {w : Comparison} → Meeting w → List ℕ → List ℕ → Type 0
AllGood m set ns = (k : ℕ) → has k ns ≡ true → Good m set k

pub good-more : {w : Comparison} {m : Meeting w} {set more : List ℕ} (k : ℕ) → Within set more → Good m set k → Good m more k
good-more {m = m} k h g = record { visit = g.visit; in_first = g.in_first; in_second = g.in_second; asked = h (stand m g.visit) g.asked }

-- members of a set in document order
pub in-order_of : (all : List Visit) → are_apart (numbers_of all) ≡ true → (ns : List ℕ) (k : ℕ) → has k (in_order all ns) ≡ true → has k ns ≡ true
in-order_of all apart ns k h =
    let y = kept-found (λ x. has x.number ns) k all apart h in ap (λ j. has j ns) (sym (found-number k all y.0 y.1)) ∙ y.2

-- in a part of the list where they stand
pub part-order_of : (q : Visit → Bool) (all : List Visit) → are_apart (numbers_of all) ≡ true → (ns : List ℕ) → ((k : ℕ) → has k ns ≡ true → (x : Visit) × (found k (filter q all) ≡ Some x)) → in_order all ns ≡ in_order (filter q all) ns
part-order_of q all apart ns h =
    region all (filter q all) apart (part-apart q all apart) (part-order q all apart) (λ x. has x.number ns)
    (λ k y g j. let z = h k (ap (λ i. has i ns) (sym (found-number k all y g)) ∙ j) in z.1 ∙ sym (found-out q k all z.0 apart z.1).0 ∙ g)
    (λ k y g j. (found-out q k all y apart g).0)

-- what is given from each holds of all together
pub gathered-all : (P : ℕ → Type 0) (f f' : ℕ → Option (List ℕ)) (ns : List ℕ) → ((n : ℕ) → has n ns ≡ true → Alike (λ ks. (k : ℕ) → has k ks ≡ true → P k) (f n) (f' n)) →
    Alike (λ ks. (k : ℕ) → has k ks ≡ true → P k) (gathered f ns) (gathered f' ns)
gathered-all P f f' [] h = both (λ k i. no i)
gathered-all P f f' (n ∷ ns) h =
    alike-then (λ ks. gathered f ns >>= λ rest. Some (ks ++ rest)) (λ ks. gathered f' ns >>= λ rest. Some (ks ++ rest)) (h n (or-left (n == n) (has n ns) (self-same n))) (λ ks p.
    alike-then (λ rest. Some (ks ++ rest)) (λ rest. Some (ks ++ rest)) (gathered-all P f f' ns (λ k i. h k (or-right (k == n) (has k ns) i))) (λ rest q.
    both (λ k i. elim (has-append k ks rest i) [ inl a ↦ p k a | inr b ↦ q k b ])))

-- what a step reaches over a shape, with the texts that stand for those beside them
abbrev pub reached_over : List Visit → Axis → Test → List ℕ → List ℕ
reached_over shape axis test from = flat_map (reached axis test shape) from ++ read_if (is_kind test && meets_texts axis) (flat_map (text_beside axis shape) from)

-- ---- in document order

module _ {w : Comparison} (m : Meeting w) where
  pub in-set : (set : List ℕ) (k : ℕ) → Good m set k → Good m (in_order (U m) set) k
  in-set set k g =
      let c = covered m.shaped k g.visit (kept-first m k g.visit g.in_first).0 in
      record {
        visit = g.visit;
        in_first = g.in_first;
        in_second = g.in_second;
        asked = in-order_has (U m) w.shape_visits.apart set (stand m g.visit) (present (stand m g.visit) (U m) c.visit c.is_in) g.asked;
      }

  pub ordered : (set ks : List ℕ) → AllGood m set ks → in_order (B m) ks ≡ in_order (A m) ks
  ordered set ks all =
      part-order_of (keeps m.known) (B m) w.other_visits.apart ks (λ k h. ((all k h).visit, (all k h).in_second))
      ∙ sym (in_order-framed m.frame ks (λ k h. record { visit = (all k h).visit; first = (all k h).in_first; second = (all k h).in_second }))
      ∙ sym (part-order_of (keeps m.known) (A m) w.visits.apart ks (λ k h. ((all k h).visit, (all k h).in_first)))

module _ {w : Comparison} (m : Meeting w) where
  abbrev s : Setting
  s = w.setting

  abbrev t : Setting
  t = other w

  abbrev pub first-side : Side w m
  first-side = record {
    all = A m;
    visits = w.visits;
    hung = m.shaped.hung;
    back = λ n x ka kx looks q z e h. e;
    child_back = λ q h k y e i. e;
  }

  not-text : (b : Bool) → (b ≡ true → false ≡ true) → b ≡ false
  not-text true h = sym (h refl)
  not-text false h = refl

  pub other-back : (n : ℕ) (x : Visit) → found n (KA m) ≡ Some x → found n (KB m) ≡ Some x → Within (lists_below (U m) n) m.looks → (q : ℕ) (z : Visit) → found q (KB m) ≡ Some z → has n z.above ≡ true → found q (KA m) ≡ Some z
  other-back n x ka kx looks q z e h =
      let solid : is_text x.content ≡ false = not-text (is_text x.content) (above-text (B m) w.other_visits q z (kept-second m q z e).0 n x (kept-second m n x kx).0 h) in
      let own : stand m x ≡ n = cov-solid m.shaped x solid ∙ found-number n (KA m) x ka in
      below-same m n x ka (λ k i. looks k (sym (ap (λ j. has k (lists_below (U m) j)) own) ∙ i)) q z e h

  abbrev pub second-side : Side w m
  second-side = record {
    all = B m;
    visits = w.other_visits;
    hung = m.other_hung;
    back = other-back;
    child_back = λ q h k y e i. child-same m q h k y e i;
  }

  -- ---- what a step asks

  pub record StepAsks (axis : Axis) (test : Test) (is_below : Bool) (set : List ℕ) : Type 0 where
    pub kinds : is_kind test ≡ true → meets_texts axis ≡ true → Within (flat_map (kind_read axis (U m)) (begun_at is_below (U m) set)) m.reads
    pub ups : goes_up axis ≡ true → is_below ≡ true → Within (flat_map (read_for (U m)) set) m.reads
    pub lists : Within (flat_map (lists_of axis (U m)) (begun_at is_below (U m) set)) m.looks
    pub belows : is_below ≡ true → Within (flat_map (lists_below (U m)) set) m.looks

  module _ (axis : Axis) (test : Test) (ps : List Placing) where
    abbrev plain : List Meaning
    plain = meanings_of ps

    -- what the step reaches in the shape, with the texts that stand for those beside them
    abbrev pub reached_all : List ℕ → List ℕ
    reached_all from = reached_over (U m) axis test from

    module _ (is_below : Bool) (set : List ℕ) (asks : StepAsks axis test is_below set) where
      abbrev from_shape : List ℕ
      from_shape = begun_at is_below (U m) set

      reading : (n : ℕ) (x : Visit) (ka : found n (KA m) ≡ Some x) (d : Side w m) (kx : found n (kept m.known d.all) ≡ Some x) → has (stand m x) from_shape ≡ true → Reading m d n x ka kx axis test
      reading n x ka d kx h = record {
        kinds = λ i j k l. asks.kinds i j k (flat-within (kind_read axis (U m)) (stand m x) from_shape h k l);
        lists = λ k l. asks.lists k (flat-within (lists_of axis (U m)) (stand m x) from_shape h k l);
      }

      -- what stands for a node that the step reaches
      stands : (n : ℕ) (x : Visit) → found n (A m) ≡ Some x → has (stand m x) from_shape ≡ true → (k : ℕ) (y : Visit) → found k (A m) ≡ Some y →
          meets axis test y.content ≡ true → found k (in_range axis x.number (A m)) ≡ Some y → is_on axis x y ≡ true → has (stand m y) (reached_all from_shape) ≡ true
      stands n x e h k y i met ranged on = by (is_sibling axis && is_replaced m.texts x.above) refl
        where
          sided : (b c : Bool) → (b && c) ≡ false → b ≡ true → c ≡ false
          sided true c j l = j
          sided false c j l = no l

          by : (b : Bool) → (is_sibling axis && is_replaced m.texts x.above) ≡ b → has (stand m y) (reached_all from_shape) ≡ true
          by true j =
              let both = and-true (is_sibling axis) (is_replaced m.texts x.above) j in
              let p = cover-beside m.shaped test n x e k y i axis both.0 met on both.1 in
              has-right (stand m y) (flat_map (reached axis test (U m)) from_shape) (read_if (is_kind test && meets_texts axis) (flat_map (text_beside axis (U m)) from_shape))
              (ap (λ b. has (stand m y) (read_if b (flat_map (text_beside axis (U m)) from_shape))) p.0 ∙ flat-within (text_beside axis (U m)) (stand m x) from_shape h (stand m y) p.1)
          by false j =
              has-left (stand m y) (flat_map (reached axis test (U m)) from_shape) (read_if (is_kind test && meets_texts axis) (flat_map (text_beside axis (U m)) from_shape))
              (flat-within (reached axis test (U m)) (stand m x) from_shape h (stand m y) (cover-step m.shaped test n x e k y i axis met ranged on (sided (is_sibling axis) (is_replaced m.texts x.above) j)))

      -- from one node
      from-one : (n : ℕ) → Good m from_shape n → Alike (AllGood m (reached_all from_shape)) (from_one axis test plain s n) (from_one axis test plain t n)
      from-one n g =
          let x = g.visit in
          let one : reached axis test (A m) n ≡ reached axis test (KA m) n =
          reached-part (keeps m.known) (A m) w.visits.apart n x g.in_first axis test (met-known m first-side n x g.in_first g.in_first axis test (reading n x g.in_first first-side g.in_first g.asked)) in
          let two : reached axis test (B m) n ≡ reached axis test (KB m) n =
          reached-part (keeps m.known) (B m) w.other_visits.apart n x g.in_second axis test (met-known m second-side n x g.in_first g.in_second axis test (reading n x g.in_first second-side g.in_second g.asked)) in
          let r : Reach (KA m) (KB m) (reached axis test (KA m) n) (reached axis test (KB m) n) =
          reach-kept m n x g.in_first g.in_second axis test (λ k l. asks.lists k (flat-within (lists_of axis (U m)) (stand m x) from_shape g.asked k l)) in
          alike-at refl (ap (kept_by_all t plain) (two ∙ sym r.same ∙ sym one))
          (alike-weaker (kept-alike w ps (reached axis test (A m) n)) (λ ks kept k h.
          let in_a = kept.1 k h in
          let b = r.stand k (ap (has k) (sym one) ∙ in_a) in
          let x_first = (kept-first m n x g.in_first).0 in
          let y = reached-in (A m) w.visits.apart axis test n x x_first k in_a in
          let y_first = (kept-first m k b.visit b.first).0 in
          let same : y.0 ≡ b.visit = some-same (sym (range-found (A m) w.visits.apart axis x.number k y.0 y.1) ∙ y_first) in
          let y_range : found k (in_range axis x.number (A m)) ≡ Some b.visit = y.1 ∙ ap Some same in
          record {
            visit = b.visit;
            in_first = b.first;
            in_second = b.second;
            asked = stands n x x_first g.asked k b.visit y_first (ap (λ (v : Visit). meets axis test v.content) (sym same) ∙ y.3) y_range (ap (is_on axis x) (sym same) ∙ y.2);
          }))

      -- ---- from all nodes at which it begins

      from-all : (from : List ℕ) → AllGood m from_shape from → Alike (AllGood m (in_order (U m) (reached_all from_shape)))
          (option_map (in_order (A m)) (gathered (from_one axis test plain s) from)) (option_map (in_order (B m)) (gathered (from_one axis test plain t) from))
      from-all from good =
          alike-map_too (in_order (A m)) (in_order (B m)) (gathered-all (Good m (reached_all from_shape)) (from_one axis test plain s) (from_one axis test plain t) from (λ n h. from-one n (good n h)))
          (λ ks all. (ordered m (reached_all from_shape) ks all, λ k h. in-set m (reached_all from_shape) k (all k (in-order_of (A m) w.visits.apart ks k h))))

      -- where `//` begins: the known nodes are the same in both, and from the others nothing is given
      module _ (ns : List ℕ) (good : AllGood m set ns) (deep : is_below ≡ true) where
        abbrev K : List ℕ
        K = flat_map (reached DescendantOrSelf Node (KA m)) ns

        node-looks : (n : ℕ) (g : Good m set n) → Within (lists_below (U m) (stand m g.visit)) m.looks
        node-looks n g k h = asks.belows deep k (flat-within (lists_below (U m)) (stand m g.visit) set g.asked k h)

        node-reach : (n : ℕ) → (h : has n ns ≡ true) → Reach (KA m) (KB m) (reached DescendantOrSelf Node (KA m) n) (reached DescendantOrSelf Node (KB m) n)
        node-reach n h = let g = good n h in reach-kept m n g.visit g.in_first g.in_second DescendantOrSelf Node (node-looks n g)

        begun-in : (k : ℕ) (v : Visit) → found k (A m) ≡ Some v → (n : ℕ) → (h : has n ns ≡ true) → is_on DescendantOrSelf (good n h).visit v ≡ true → has (stand m v) (begun_at true (U m) set) ≡ true
        begun-in k v e n h on =
            let g = good n h in
            let c = covered m.shaped k v e in
            in-order_has (U m) w.shape_visits.apart (flat_map (reached DescendantOrSelf Node (U m)) set) (stand m v) (present (stand m v) (U m) c.visit c.is_in)
            (flat-within (reached DescendantOrSelf Node (U m)) (stand m g.visit) set g.asked (stand m v)
            (cover-step m.shaped Node n g.visit (kept-first m n g.visit g.in_first).0 k v e DescendantOrSelf refl e on (λ sibling. no sibling)))

        K-good : AllGood m (begun_at true (U m) set) K
        K-good k h =
            let n = flat-has (reached DescendantOrSelf Node (KA m)) k ns h in
            let g = good n.0 n.1 in
            let b = (node-reach n.0 n.1).stand k n.2 in
            let y = reached-in (KA m) m.frame.apart DescendantOrSelf Node n.0 g.visit g.in_first k n.2 in
            let same : y.0 ≡ b.visit = some-same (sym y.1 ∙ b.first) in
            record {
              visit = b.visit;
              in_first = b.first;
              in_second = b.second;
              asked = begun-in k b.visit (kept-first m k b.visit b.first).0 n.0 n.1 (ap (is_on DescendantOrSelf g.visit) (sym same) ∙ y.2);
            }

        abbrev starts : List ℕ
        starts = in_order (KA m) K

        starts-good : AllGood m (begun_at true (U m) set) starts
        starts-good k h = K-good k (in-order_of (KA m) m.frame.apart K k h)

        flat-same : (f g : ℕ → List ℕ) (ms : List ℕ) → ((n : ℕ) → has n ms ≡ true → f n ≡ g n) → flat_map f ms ≡ flat_map g ms
        flat-same f g [] h = refl
        flat-same f g (n ∷ ms) h = ap (λ l. l ++ flat_map f ms) (h n (or-left (n == n) (has n ms) (self-same n))) ∙ ap (λ l. g n ++ l) (flat-same f g ms (λ k i. h k (or-right (k == n) (has k ms) i)))

        starts-first : filter (in_part (keeps m.known) (A m) w.visits.apart) (begun_at true (A m) ns) ≡ starts
        starts-first = part-starts (keeps m.known) (A m) w.visits.apart ns (λ n h. ((good n h).visit, (good n h).in_first))

        starts-second : filter (in_part (keeps m.known) (B m) w.other_visits.apart) (begun_at true (B m) ns) ≡ starts
        starts-second =
            part-starts (keeps m.known) (B m) w.other_visits.apart ns (λ n h. ((good n h).visit, (good n h).in_second))
            ∙ ap (in_order (KB m)) (sym (flat-same (reached DescendantOrSelf Node (KA m)) (reached DescendantOrSelf Node (KB m)) ns (λ n h. (node-reach n h).same)))
            ∙ sym (in_order-framed m.frame K (λ k h. record { visit = (K-good k h).visit; first = (K-good k h).in_first; second = (K-good k h).in_second }))

        none-there : (all : List Visit) (k : ℕ) → is_some (found k all) ≡ false → found k all ≡ None
        none-there all k h = by (found k all) h
          where
            by : (o : Option Visit) → is_some o ≡ false → o ≡ None
            by None i = refl
            by (Some x) i = no (sym i)

        kept_none : (x : Setting) (ms : List Meaning) → kept_by_all x ms [] ≡ Some []
        kept_none x [] = refl
        kept_none x (p ∷ qs) = kept_none x qs

        -- a text that is not known, in either forest
        nothing-from : (d : Side w m) → ((n : ℕ) (g : Good m set n) → found n (kept m.known d.all) ≡ Some g.visit) → (k : ℕ) → has k (begun_at true d.all ns) ≡ true → is_some (found k (kept m.known d.all)) ≡ false → reached axis test d.all k ≡ []
        nothing-from d stands k h off =
            let y = kept-found (λ v. has v.number (flat_map (reached DescendantOrSelf Node d.all) ns)) k d.all d.visits.apart h in
            let from = flat-has (reached DescendantOrSelf Node d.all) k ns (ap (λ j. has j (flat_map (reached DescendantOrSelf Node d.all) ns)) (sym (found-number k d.all y.0 y.1)) ∙ y.2) in
            let n = from.0 in
            let g = good n from.1 in
            let kx = stands n g in
            let x_all = (found-out (keeps m.known) n d.all g.visit d.visits.apart kx).0 in
            let v = reached-in d.all d.visits.apart DescendantOrSelf Node n g.visit x_all k from.2 in
            let same : v.0 ≡ y.0 = some-same (sym v.1 ∙ y.1) in
            elim (or-cases (has g.visit.number v.0.above && not (is_attribute v.0.content)) (g.visit.number == v.0.number) v.2) [
              | inl a ↦
                  let below : has n y.0.above ≡ true =
                  ap (λ j. has j y.0.above) (sym (found-number n d.all g.visit x_all)) ∙ ap (λ (z : Visit). has g.visit.number z.above) (sym same) ∙ (and-true (has g.visit.number v.0.above) (not (is_attribute v.0.content)) a).0 in
                  let solid : is_text g.visit.content ≡ false = not-text (is_text g.visit.content) (above-text d.all d.visits k y.0 y.1 n g.visit x_all below) in
                  let own : stand m g.visit ≡ n = cov-solid m.shaped g.visit solid ∙ found-number n d.all g.visit x_all in
                  let looks : Within (lists_below (U m) n) m.looks = λ j i. node-looks n g j (ap (λ q. has j (lists_below (U m) q)) own ∙ i) in
                  let gone = none-there (kept m.known d.all) k off in
                  let p = one m d n g.visit g.in_first kx looks k y.0 y.1 gone below in
                  let q = (d.hung k y.0 y.1 (text m d n g.visit g.in_first kx looks k y.0 y.1 gone below)).0 in
                  none-from m d n g.visit g.in_first kx looks k y.0 y.1 gone below axis test
                  (λ up. asks.ups up deep n (flat-within (read_for (U m)) (stand m g.visit) set g.asked n (solid-reader m.shaped n g.visit (kept-first m n g.visit g.in_first).0 solid)))
                  (λ i j l r. asks.kinds i j l (flat-within (kind_read axis (U m)) (text_number q) from_shape
                  (ap (λ b. has (text_number q) (begun_at b (U m) set)) deep
                  ∙ in-order_has (U m) w.shape_visits.apart (flat_map (reached DescendantOrSelf Node (U m)) set) (text_number q) (present (text_number q) (U m) p.0 p.1)
                  (flat-within (reached DescendantOrSelf Node (U m)) (stand m g.visit) set g.asked (text_number q)
                  (below-text n g solid own (text_number q) p.0 p.1 p.2 (ap (has n) p.3 ∙ ap (has n) (sym (d.hung k y.0 y.1 (text m d n g.visit g.in_first kx looks k y.0 y.1 gone below)).4) ∙ below)))) l r))
              | inr b ↦
                  let named : k ≡ n = sym (found-number k d.all y.0 y.1) ∙ ap (λ (z : Visit). z.number) (sym same) ∙ sym (eqb-true g.visit.number v.0.number b) ∙ found-number n d.all g.visit x_all in
                  no (sym off ∙ ap (λ j. is_some (found j (kept m.known d.all))) named ∙ ap is_some kx)
            ]
          where
            not-text : (b : Bool) → (b ≡ true → false ≡ true) → b ≡ false
            not-text true i = sym (i refl)
            not-text false i = refl

            text-attribute : (c : Content) → is_text c ≡ true → not (is_attribute c) ≡ true
            text-attribute content.Root i = refl
            text-attribute (content.Element name) i = refl
            text-attribute (content.Attribute name value) i = no i
            text-attribute (content.Text value) i = refl

            -- a text in the shape below what stands for a node
            below-text : (n : ℕ) (g : Good m set n) → is_text g.visit.content ≡ false → stand m g.visit ≡ n → (j : ℕ) (v : Visit) → found j (U m) ≡ Some v → is_text v.content ≡ true → has n v.above ≡ true → has j (reached DescendantOrSelf Node (U m) (stand m g.visit)) ≡ true
            below-text n g solid own j v e t h =
                let c = covered m.shaped n g.visit (kept-first m n g.visit g.in_first).0 in
                reached-has (U m) w.shape_visits.apart DescendantOrSelf Node (stand m g.visit) c.visit c.is_in j v e
                (or-left (has c.visit.number v.above && not (is_attribute v.content)) (c.visit.number == v.number)
                (ap (λ i. has i v.above && not (is_attribute v.content)) (found-number (stand m g.visit) (U m) c.visit c.is_in ∙ own)
                ∙ ap (λ b. b && not (is_attribute v.content)) h ∙ text-attribute v.content t)) refl

        deep-step : Alike (AllGood m (in_order (U m) (reached_all from_shape)))
            (option_map (in_order (A m)) (gathered (from_one axis test plain s) (begun_at true (A m) ns))) (option_map (in_order (B m)) (gathered (from_one axis test plain t) (begun_at true (B m) ns)))
        deep-step =
            alike-at
            (ap (option_map (in_order (A m))) (gathered-without (from_one axis test plain s) (in_part (keeps m.known) (A m) w.visits.apart) (begun_at true (A m) ns)
            (λ k h off. ap (kept_by_all s plain) (nothing-from first-side (λ n g. g.in_first) k h off) ∙ kept_none s plain) ∙ ap (gathered (from_one axis test plain s)) starts-first))
            (ap (option_map (in_order (B m))) (gathered-without (from_one axis test plain t) (in_part (keeps m.known) (B m) w.other_visits.apart) (begun_at true (B m) ns)
            (λ k h off. ap (kept_by_all t plain) (nothing-from second-side (λ n g. g.in_second) k h off) ∙ kept_none t plain) ∙ ap (gathered (from_one axis test plain t)) starts-second))
            (from-all starts (λ k h. good-more k (λ j i. ap (λ b. has j (begun_at b (U m) set)) deep ∙ i) (starts-good k h)))

    -- the nodes that a step gives
    pub loose-step : (is_below : Bool) (set : List ℕ) → StepAsks axis test is_below set → (ns : List ℕ) → AllGood m set ns →
        Alike (AllGood m (in_order (U m) (reached_all (begun_at is_below (U m) set))))
        (option_map (in_order (A m)) (gathered (from_one axis test plain s) (begun_at is_below (A m) ns))) (option_map (in_order (B m)) (gathered (from_one axis test plain t) (begun_at is_below (B m) ns)))
    loose-step false set asks ns good = from-all false set asks ns good
    loose-step true set asks ns good = deep-step true set asks ns good refl

-- `//` before a step to siblings that meets no texts: what it gives is what is asked, if it begins at what is asked.
use Rattle.std.proofs.Common.{◌≡◌, ℕ, ◌==◌, Bool, true, false, not, ◌&&◌, List, [], ◌∷◌, ◌++◌, map, Option, Some, None, unwrap_or, refl, sym, ap, ◌∙◌, inl, inr}
use Rattle.std.specs.Prelude.{filter, is_some}
use Rattle.std.specs.List.{flat_map}
use Rattle.xf_name.specs.declared.axis.Axis.{Axis}
use Rattle.xf_name.specs.declared.axis.Axis.TheVariants.{Child, Attribute, Self_, Parent, Ancestor, AncestorOrSelf, Descendant, DescendantOrSelf, FollowingSibling, PrecedingSibling}
use Rattle.xf_def_syntax.specs.declared.expr.Test.{Test}
use Rattle.xf_def_syntax.specs.declared.expr.Test.TheVariants.{Node}
use Rattle.xf_def_forest.specs.Forest.{is_text, is_attribute}
use Rattle.xf_def_forest.specs.Visit.{Visit, has, same_parent}
use Rattle.xf_def_forest.specs.Axis.{is_on, axis_from}
use Rattle.xf_def_forest.specs.Shape.{is_replaced, is_gone}
use Rattle.xf_def_forest.proofs.BackLaws.{and-true}
use Rattle.xf_def_xpath.specs.Setting.{Setting, Meaning, ◌>>=◌, in_order}
use Rattle.xf_def_xpath.specs.Tests.{meets}
use Rattle.xf_def_xpath.specs.Asked.{found}
use Rattle.xf_def_xpath.specs.AskedSteps.{is_kind}
use Rattle.xf_def_xpath.specs.Steps.{reached, kept_by_all, from_one, begun_at}
use Rattle.xf_def_xpath.specs.Agree.{numbers_of, are_apart, untexted}
use Rattle.xf_def_xpath.specs.Exact.{is_sibling}
use Rattle.xf_def_xpath.proofs.VisitFacts.{self-same, or-cases, or-left, or-right, no, some-same, none-some, filter-within, found-in}
use Rattle.xf_def_xpath.proofs.SameKept.{kept-found, has-append}
use Rattle.xf_def_xpath.proofs.UntextedLaws.{is_solid, meets-solid, solid-found}
use Rattle.xf_def_xpath.proofs.Comparison.{Comparison, over_shape, AllSolid}
use Rattle.xf_def_xpath.proofs.StepAgree.{gathered, gathered-without, flat-without}
use Rattle.xf_law_recalculation.proofs.AgreeLemmas.Alike.{given-one, Placing, meanings_of, kept-one}
use Rattle.xf_law_recalculation.proofs.AgreeLemmas.Parts.{part-apart, in_part, reached-part, part-starts}
use Rattle.xf_law_recalculation.proofs.AgreeLemmas.Covers.{stays, reached-in, range-found}
use Rattle.xf_law_recalculation.proofs.AgreeLemmas.Meeting.{Meeting, A, U}
use Rattle.xf_law_recalculation.proofs.AgreeLemmas.Known.{nil-of, parent-of}
use Rattle.xf_law_recalculation.proofs.AgreeLemmas.LooseStep.{part-order_of}

-- ---- what one forest gives

gathered-one : (f : ℕ → Option (List ℕ)) (g : ℕ → List ℕ) (P : ℕ → Type 0) (ns : List ℕ) → ((n : ℕ) → has n ns ≡ true → (ks : List ℕ) → f n ≡ Some ks → (ks ≡ g n) × ((k : ℕ) → has k ks ≡ true → P k)) →
    (ks : List ℕ) → gathered f ns ≡ Some ks → (ks ≡ flat_map g ns) × ((k : ℕ) → has k ks ≡ true → P k)
gathered-one f g P [] h ks e = (sym (some-same e), λ k i. no (ap (has k) (some-same e) ∙ i))
gathered-one f g P (n ∷ ns) h ks e = by (f n) refl (gathered f ns) refl e (λ rest j. gathered-one f g P ns (λ k o. h k (or-right (k == n) (has k ns) o)) rest j)
  where
    by : (a : Option (List ℕ)) → f n ≡ a → (b : Option (List ℕ)) → gathered f ns ≡ b → (a >>= λ xs. b >>= λ rest. Some (xs ++ rest)) ≡ Some ks →
        ((rest : List ℕ) → gathered f ns ≡ Some rest → (rest ≡ flat_map g ns) × ((k : ℕ) → has k rest ≡ true → P k)) → (ks ≡ flat_map g (n ∷ ns)) × ((k : ℕ) → has k ks ≡ true → P k)
    by None i b j l more = none-some l
    by (Some xs) i None j l more = none-some l
    by (Some xs) i (Some rest) j l more =
        let one = h n (or-left (n == n) (has n ns) (self-same n)) xs i in
        let two = more rest j in (
          sym (some-same l) ∙ ap (λ z. z ++ rest) one.0 ∙ ap (λ z. g n ++ z) two.0,
          λ k o. elim (has-append k xs rest (ap (has k) (some-same l) ∙ o)) [ inl a ↦ one.1 k a | inr b ↦ two.1 k b ],
        )

not-of : (b : Bool) → not b ≡ true → b ≡ false
not-of true h = sym h
not-of false h = refl

module _ {w : Comparison} (m : Meeting w) where
  abbrev s : Setting
  s = w.setting

  abbrev u : Setting
  u = over_shape w

  abbrev rest : Visit → Bool
  rest = stays m.texts

  solid-rest : (x : Visit) → is_solid x ≡ true → rest x ≡ true
  solid-rest x h = ap (λ b. not (b && is_replaced m.texts x.above)) (not-of (is_text x.content) h)

  pub same-solids : untexted (U m) ≡ untexted (A m)
  same-solids = sym (filter-within is_solid rest solid-rest (U m)) ∙ ap untexted m.shaped.rest ∙ filter-within is_solid rest solid-rest (A m)

  -- nodes that are no texts, in document order
  pub solid-order : (ks : List ℕ) → ((k : ℕ) → has k ks ≡ true → (x : Visit) × (found k (untexted (A m)) ≡ Some x)) → in_order (A m) ks ≡ in_order (U m) ks
  solid-order ks h =
      part-order_of is_solid (A m) w.visits.apart ks h
      ∙ ap (λ l. in_order l ks) (sym same-solids)
      ∙ sym (part-order_of is_solid (U m) w.shape_visits.apart ks (λ k i. let x = h k i in (x.0, ap (found k) same-solids ∙ x.1)))

  module _ (axis : Axis) (test : Test) (beside : is_sibling axis ≡ true) (plain-test : is_kind test ≡ false) where
    siblings-of : (x y : Visit) → is_on axis x y ≡ true → (same_parent x.above y.above ≡ true) × (is_attribute y.content ≡ false)
    siblings-of x y on = by axis refl beside on
      where
        parts : (a b c : Bool) → (a && b && not c) ≡ true → (a ≡ true) × (c ≡ false)
        parts true true c h = (refl, not-of c h)
        parts true false c h = no h
        parts false b c h = no h

        by : (c : Axis) → axis ≡ c → is_sibling c ≡ true → is_on c x y ≡ true → (same_parent x.above y.above ≡ true) × (is_attribute y.content ≡ false)
        by Child e i j = no i
        by Attribute e i j = no i
        by Self_ e i j = no i
        by Parent e i j = no i
        by Ancestor e i j = no i
        by AncestorOrSelf e i j = no i
        by Descendant e i j = no i
        by DescendantOrSelf e i j = no i
        by FollowingSibling e i j = parts (same_parent x.above y.above) (not (is_attribute x.content)) (is_attribute y.content) j
        by PrecedingSibling e i j = parts (same_parent x.above y.above) (not (is_attribute x.content)) (is_attribute y.content) j

    solid-met : (y : Visit) → meets axis test y.content ≡ true → is_solid y ≡ true
    solid-met y h = meets-solid axis test y.content plain-test h

    -- in the forest or its shape
    module _ (all : List Visit) (apart : are_apart (numbers_of all) ≡ true) (same : untexted all ≡ untexted (A m)) where
      -- from a text that is replaced nothing is reached
      none-beside : (n : ℕ) → is_some (found n (filter rest all)) ≡ false → reached axis test all n ≡ []
      none-beside n off = nil-of (reached axis test all n) (λ k h. by (found n all) refl k h)
        where
          by : (o : Option Visit) → found n all ≡ o → (k : ℕ) → has k (reached axis test all n) ≡ true → false ≡ true
          by None e k h = sym (ap (has k) (empty e)) ∙ h
            where
              empty : found n all ≡ None → reached axis test all n ≡ []
              empty e = ap (λ o. map (λ (y : Visit). y.number) (filter (λ y. meets axis test y.content) (axis_from axis all o))) e
          by (Some x) e k h =
              let y = reached-in all apart axis test n x e k h in
              let on = siblings-of x y.0 y.2 in
              let p = parent-of x.above y.0.above on.0 in
              let gone : is_gone m.texts x ≡ true = of (is_gone m.texts x) refl in
              let replaced : is_some (m.texts p.0) ≡ true = ap (is_replaced m.texts) (sym p.2) ∙ (and-true (is_text x.content) (is_replaced m.texts x.above) gone).1 in
              let in_all = range-found all apart axis x.number k y.0 y.1 in
              let in_a = (solid-found (A m) w.visits k y.0 (ap (found k) (sym same) ∙ found-in is_solid k all y.0 apart in_all (solid-met y.0 y.3))).0 in
              elim (or-cases (is_text y.0.content) (is_attribute y.0.content) (m.shaped.only k p.0 y.0 in_a p.3 replaced)) [
                | inl a ↦ sym (ap not a) ∙ solid-met y.0 y.3
                | inr b ↦ sym on.1 ∙ b
              ]
            where
              of : (b : Bool) → is_gone m.texts x ≡ b → b ≡ true
              of true i = refl
              of false i = no (sym off ∙ ap is_some (found-in rest n all x apart e (ap not i)))

      from-rest : (n : ℕ) (x : Visit) (e : found n (filter rest all) ≡ Some x) → reached axis test all n ≡ reached axis test (filter rest all) n
      from-rest n x e = reached-part rest all apart n x e axis test (λ k y i h. solid-rest y (solid-met y (and-true (is_on axis x y) (meets axis test y.content) h).1))

      solid-reached : (n k : ℕ) → has k (reached axis test all n) ≡ true → (y : Visit) × (found k (untexted (A m)) ≡ Some y)
      solid-reached n k h = by (found n all) refl
        where
          by : (o : Option Visit) → found n all ≡ o → (y : Visit) × (found k (untexted (A m)) ≡ Some y)
          by None e = no (sym (ap (λ o. has k (map (λ (y : Visit). y.number) (filter (λ y. meets axis test y.content) (axis_from axis all o)))) e) ∙ h)
          by (Some x) e =
              let y = reached-in all apart axis test n x e k h in
              (y.0, ap (found k) (sym same) ∙ found-in is_solid k all y.0 apart (range-found all apart axis x.number k y.0 y.1) (solid-met y.0 y.3))

    module _ (ps : List Placing) (set : List ℕ) (solid : AllSolid w set) where
      abbrev plain : List Meaning
      plain = meanings_of ps

      abbrev from_shape : ℕ → List ℕ
      from_shape n = unwrap_or (from_one axis test plain u n) []

      stands : (n : ℕ) → has n set ≡ true → (x : Visit) × (found n (filter rest (A m)) ≡ Some x)
      stands n h =
          let x = solid n h in
          let out = solid-found (A m) w.visits n x.visit x.in_first in
          (x.visit, found-in rest n (A m) x.visit w.visits.apart out.0 (solid-rest x.visit out.1))

      stands-shape : (n : ℕ) → has n set ≡ true → (x : Visit) × (found n (filter rest (U m)) ≡ Some x)
      stands-shape n h = let x = stands n h in (x.0, ap (found n) m.shaped.rest ∙ x.1)

      abbrev starts : List ℕ
      starts = in_order (filter rest (A m)) (flat_map (reached DescendantOrSelf Node (filter rest (A m))) set)

      kept_none : (x : Setting) (ms : List Meaning) → kept_by_all x ms [] ≡ Some []
      kept_none x [] = refl
      kept_none x (p ∷ qs) = kept_none x qs

      one-given : (n : ℕ) → has n starts ≡ true → (ks : List ℕ) → from_one axis test plain s n ≡ Some ks → (ks ≡ from_shape n) × ((k : ℕ) → has k ks ≡ true → (y : Visit) × (found k (untexted (A m)) ≡ Some y))
      one-given n h ks e =
          let x = kept-found (λ y. has y.number (flat_map (reached DescendantOrSelf Node (filter rest (A m))) set)) n (filter rest (A m)) (part-apart rest (A m) w.visits.apart) h in
          let same : reached axis test (A m) n ≡ reached axis test (U m) n =
          from-rest (A m) w.visits.apart refl n x.0 x.1 ∙ ap (λ l. reached axis test l n) (sym m.shaped.rest) ∙ sym (from-rest (U m) w.shape_visits.apart same-solids n x.0 (ap (found n) m.shaped.rest ∙ x.1)) in
          let kept = given-one (kept-one w ps (reached axis test (A m) n)) ks e in (
            sym (ap (λ o. unwrap_or o []) kept.0) ∙ ap (λ l. unwrap_or (kept_by_all u plain l) []) same,
            λ k i. solid-reached (A m) w.visits.apart refl n k (kept.1 k i),
          )

      starts-first : filter (in_part rest (A m) w.visits.apart) (begun_at true (A m) set) ≡ starts
      starts-first = part-starts rest (A m) w.visits.apart set stands

      starts-shape : filter (in_part rest (U m) w.shape_visits.apart) (begun_at true (U m) set) ≡ starts
      starts-shape = part-starts rest (U m) w.shape_visits.apart set stands-shape ∙ ap (λ l. in_order l (flat_map (reached DescendantOrSelf Node l) set)) m.shaped.rest

      pub sibling-set : (ks : List ℕ) → gathered (from_one axis test plain s) (begun_at true (A m) set) ≡ Some ks →
          (ks ≡ flat_map from_shape (begun_at true (U m) set)) × ((k : ℕ) → has k ks ≡ true → (y : Visit) × (found k (untexted (A m)) ≡ Some y))
      sibling-set ks e =
          let one = gathered-one (from_one axis test plain s) from_shape (λ k. (y : Visit) × (found k (untexted (A m)) ≡ Some y)) starts one-given ks
          (sym (gathered-without (from_one axis test plain s) (in_part rest (A m) w.visits.apart) (begun_at true (A m) set)
          (λ n h off. ap (kept_by_all s plain) (none-beside (A m) w.visits.apart refl n off) ∙ kept_none s plain) ∙ ap (gathered (from_one axis test plain s)) starts-first) ∙ e) in (
            one.0 ∙ ap (flat_map from_shape) (sym starts-shape) ∙ sym (flat-without from_shape (in_part rest (U m) w.shape_visits.apart) (begun_at true (U m) set)
                (λ n h off. ap (λ l. unwrap_or (kept_by_all u plain l) []) (none-beside (U m) w.shape_visits.apart same-solids n off) ∙ ap (λ o. unwrap_or o []) (kept_none u plain))),
            one.1,
          )

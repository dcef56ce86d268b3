-- Values over two forests that meet: conversions, comparisons, operators.
use Rattle.std.proofs.Common.{◌≡◌, ℕ, ◌==◌, Bool, true, false, not, ◌||◌, List, [], ◌∷◌, ◌++◌, Option, Some, option_map, refl, sym, ap, ◌∙◌, inl, inr}
use Rattle.std.specs.Prelude.{⊤, option_and_then}
use Rattle.std.specs.List.{flat_map}
use Rattle.xf_def_syntax.specs.declared.expr.Operator.{Operator}
use Rattle.xf_def_forest.specs.Forest.{name_in, is_text}
use Rattle.xf_def_forest.specs.Visit.{Visit, has}
use Rattle.xf_def_xpath.specs.declared.value.Value.{Value}
use Rattle.xf_def_xpath.specs.declared.value.Value.TheVariants.{Nodes, Number, Truth}
use Rattle.xf_def_values.specs.Conversions.{Decimal}
use Rattle.xf_def_xpath.specs.Setting.{Setting, ◌>>=◌, in_order}
use Rattle.xf_def_xpath.specs.Conversions.{nodes_of, number_of}
use Rattle.xf_def_xpath.specs.Comparisons.{compared}
use Rattle.xf_def_xpath.specs.Operators.{computed, united}
use Rattle.xf_def_xpath.specs.Functions.{first_name}
use Rattle.xf_def_xpath.specs.Asked.{Asked, found, lists_below, read_for, both, all_read, first_node, asked_first, converted}
use Rattle.xf_def_xpath.specs.AskedCalls.{beside, asked_by_both, computed as asked_computed, either}
use Rattle.xf_def_xpath.proofs.VisitFacts.{self-same, or-cases, or-left, no, found-number}
use Rattle.xf_def_xpath.proofs.SameKept.{has-left, has-right, has-append}
use Rattle.xf_def_xpath.proofs.UntextedLaws.{solid-found}
use Rattle.xf_def_xpath.proofs.Comparison.{Comparison, other, over_shape, Solid, AllSolid, Within, agree-less, first-order, order-solid}
use Rattle.xf_def_xpath.proofs.BelowAgree.{flat-within}
use Rattle.xf_def_xpath.proofs.ValueAgree.{IsTruth, Premise, StringsOn, number-same, compared-same}
use Rattle.xf_law_recalculation.proofs.AgreeLemmas.Alike.{Alike, both as gives, alike-map, alike-then, alike-equal, alike-at}
use Rattle.xf_law_recalculation.proofs.AgreeLemmas.Covers.{cov-solid, text-reader, solid-reader}
use Rattle.xf_law_recalculation.proofs.AgreeLemmas.Meeting.{Meeting, Asks, is_known, keeps, A, B, U, stand, kept-first, kept-second, in-first, in-second}
use Rattle.xf_law_recalculation.proofs.AgreeLemmas.Known.{nil-of}
use Rattle.xf_law_recalculation.proofs.AgreeLemmas.LooseStep.{Good, AllGood, good-more, in-order_of, in-set, ordered}

-- ---- what a part needs, and what it gives

-- its nodes are known and asked; where its set is not loose, they are the set; it is a truth where it is one by its syntax
pub record Fits {w : Comparison} (m : Meeting w) (a : Asked) (v : Value) : Type 0 where
  pub good : AllGood m a.set (nodes_of v)
  pub truth : a.is_truth ≡ true → IsTruth v
  pub tight : a.is_loose ≡ false → (nodes_of v ≡ a.set) × AllSolid w a.set

abbrev pub Agreed : {w : Comparison} → Meeting w → Asked → Option Value → Option Value → Type 0
Agreed m a v v' = Alike (Fits m a) v v'

not-of : (b : Bool) → not b ≡ true → b ≡ false
not-of true h = sym h
not-of false h = refl

module _ {w : Comparison} (m : Meeting w) where
  abbrev s : Setting
  s = w.setting

  abbrev t : Setting
  t = other w

  abbrev u : Setting
  u = over_shape w

  pub less : (a b : Asked) → Within a.reads b.reads → Within a.looks b.looks → Asks m b → Asks m a
  less a b r l p = record { reads = λ n h. p.reads n (r n h); looks = λ n h. p.looks n (l n h) }

  -- of what reads nothing
  pub premise : (a : Asked) → ((n : ℕ) → has n a.reads ≡ true → false ≡ true) → Within a.looks m.looks → Premise w a
  premise a none p = record { lists = agree-less w p m.agree; strings = λ n i h. no (none n h) }

  pub left-both : (a b : Asked) → Asks m (both a b) → Asks m a
  left-both a b p = less a (both a b) (λ n h. has-left n a.reads b.reads h) (λ n h. has-left n a.looks b.looks h) p

  pub right-both : (a b : Asked) → Asks m (both a b) → Asks m b
  right-both a b p = less b (both a b) (λ n h. has-right n a.reads b.reads h) (λ n h. has-right n a.looks b.looks h) p

  pub in-converted : (a : Asked) → Asks m (converted u a) → Asks m a
  in-converted a p = less a (converted u a) (λ n h. has-left n a.reads _ h) (λ n h. has-left n a.looks _ h) p

  pub in-all_read : (a : Asked) → Asks m (all_read u a) → Asks m a
  in-all_read a p = less a (all_read u a) (λ n h. has-left n a.reads _ h) (λ n h. has-left n a.looks _ h) p

  pub in-beside : (b : Bool) (a : Asked) → Asks m (beside u b a) → Asks m a
  in-beside true a p = p
  in-beside false a p = in-all_read a p

  -- ---- what is given

  pub solid-good : (set : List ℕ) (k : ℕ) → Solid w k → has k set ≡ true → Good m set k
  solid-good set k x h =
      let one = solid-found (A m) w.visits k x.visit x.in_first in
      let two = solid-found (B m) w.other_visits k x.visit x.in_second in
      let solid : is_text x.visit.content ≡ false = not-of (is_text x.visit.content) one.1 in
      let keep : keeps m.known x.visit ≡ true = ap (λ b. not b || is_known m.known x.visit.above) solid in
      record {
        visit = x.visit;
        in_first = in-first m k x.visit one.0 keep;
        in_second = in-second m k x.visit two.0 keep;
        asked = ap (λ j. has j set) (cov-solid m.shaped x.visit solid ∙ found-number k (A m) x.visit one.0) ∙ h;
      }

  -- of an empty set nothing is given
  pub fits-none : (a : Asked) (v : Value) → Fits m a v → a.set ≡ [] → nodes_of v ≡ []
  fits-none a v f e = nil-of (nodes_of v) (λ k h. sym (ap (has (stand m (f.good k h).visit)) e) ∙ (f.good k h).asked)

  pub none-good : (set : List ℕ) → AllGood m set []
  none-good set k h = no h

  pub none-solid : AllSolid w []
  none-solid k h = no h

  -- a value with the nodes that are asked
  pub tight-fits : (a : Asked) (v : Value) → nodes_of v ≡ a.set → AllSolid w a.set → (a.is_truth ≡ true → IsTruth v) → Fits m a v
  tight-fits a v e solid truth = record {
    good = λ k h. let i = ap (has k) (sym e) ∙ h in solid-good a.set k (solid k i) i;
    truth = truth;
    tight = λ l. (e, solid);
  }

  -- ---- strings

  strings-good : (set : List ℕ) (k : ℕ) → Good m set k → Within (flat_map (read_for (U m)) set) m.reads → Within (flat_map (lists_below (U m)) set) m.looks → w.setting.strings k ≡ w.strings k
  strings-good set k g reads looks = by (is_text g.visit.content) refl
    where
      e : found k (A m) ≡ Some g.visit
      e = (kept-first m k g.visit g.in_first).0

      by : (b : Bool) → is_text g.visit.content ≡ b → w.setting.strings k ≡ w.strings k
      by true i =
          let p = m.shaped.hung k g.visit e i in
          m.texts_same k p.0 g.visit p.1.above e (kept-second m k g.visit g.in_second).0 i p.4 (reads p.0 (flat-within (read_for (U m)) (stand m g.visit) set g.asked p.0 (text-reader m.shaped k g.visit e i p.0 p.1.above p.4)))
      by false i =
          let own : stand m g.visit ≡ k = cov-solid m.shaped g.visit i ∙ found-number k (A m) g.visit e in
          m.strings k g.visit e (kept-second m k g.visit g.in_second).0 i
          (reads k (flat-within (read_for (U m)) (stand m g.visit) set g.asked k (solid-reader m.shaped k g.visit e i)))
          (λ j l. looks j (flat-within (lists_below (U m)) (stand m g.visit) set g.asked j (ap (λ n. has j (lists_below (U m) n)) own ∙ l)))

  first-of : (k : ℕ) (ns : List ℕ) → has k (first_node ns) ≡ true → has k ns ≡ true
  first-of k [] h = h
  first-of k (n ∷ ns) h = elim (or-cases (k == n) false h) [ inl a ↦ or-left (k == n) (has k ns) a | inr b ↦ no b ]

  pub strings-first : (a : Asked) (v : Value) → Fits m a v → Asks m (converted u a) → StringsOn w (first_node (nodes_of v))
  strings-first a v f p k h = by a.is_loose refl
    where
      reads : (b : Bool) → a.is_loose ≡ b → Within (flat_map (read_for (U m)) (asked_first b a.set)) m.reads
      reads b e j i = p.reads j (has-right j a.reads _ (ap (λ c. has j (flat_map (read_for (U m)) (asked_first c a.set))) e ∙ i))

      looks : (b : Bool) → a.is_loose ≡ b → Within (flat_map (lists_below (U m)) (asked_first b a.set)) m.looks
      looks b e j i = p.looks j (has-right j a.looks _ (ap (λ c. has j (flat_map (lists_below (U m)) (asked_first c a.set))) e ∙ i))

      by : (b : Bool) → a.is_loose ≡ b → w.setting.strings k ≡ w.strings k
      by true e = strings-good a.set k (f.good k (first-of k (nodes_of v) h)) (reads true e) (looks true e)
      by false e =
          let tight = f.tight e in
          let i : has k (first_node a.set) ≡ true = ap (λ ns. has k (first_node ns)) (sym tight.0) ∙ h in
          strings-good (first_node a.set) k (solid-good (first_node a.set) k (tight.1 k (first-of k a.set i)) i) (λ j l. reads false e j (same (read_for (U m)) j a.set l)) (λ j l. looks false e j (same (lists_below (U m)) j a.set l))
        where
          same : (g : ℕ → List ℕ) (j : ℕ) (set : List ℕ) → has j (flat_map g (first_node set)) ≡ true → has j (flat_map g (asked_first false set)) ≡ true
          same g j set l = l

  pub strings-all : (a : Asked) (v : Value) → Fits m a v → Asks m (all_read u a) → StringsOn w (nodes_of v)
  strings-all a v f p k h = strings-good a.set k (f.good k h) (λ j i. p.reads j (has-right j a.reads _ i)) (λ j i. p.looks j (has-right j a.looks _ i))

  -- what is made of a value by its first node
  pub made : {X : Type 0} (k k' : Value → Option X) → ((v : Value) → StringsOn w (first_node (nodes_of v)) → k' v ≡ k v) →
      (a : Asked) (v v' : Option Value) → Agreed m a v v' → Asks m (converted u a) → Alike (λ (x : X). ⊤) (v >>= k) (v' >>= k')
  made k k' same a v v' h p = alike-then k k' h (λ x f. alike-equal (k x) (k' x) (same x (strings-first a x f p)))

  -- ---- operators on two values

  strings-beside : (b : Bool) (a : Asked) (v : Value) → Fits m a v → Asks m (beside u b a) → b ≡ false → StringsOn w (nodes_of v)
  strings-beside true a v f p e = no (sym e)
  strings-beside false a v f p e = strings-all a v f p

  module _ (a b : Asked) (v : Value) (fits : Fits m a v) where
    pub judged : (o : Operator) (x : Value) → Fits m b x → Asks m (asked_by_both u a b) → Alike (Fits m (asked_by_both u a b)) (option_map Truth (compared s o v x)) (option_map Truth (compared t o v x))
    judged o x fits_too p =
        let sides : Asks m (both (beside u b.is_truth a) (beside u a.is_truth b)) = record { reads = p.reads; looks = p.looks } in
        let same : compared t o v x ≡ compared s o v x = compared-same w o v x a.is_truth b.is_truth
        (strings-beside b.is_truth a v fits (left-both (beside u b.is_truth a) (beside u a.is_truth b) sides))
        (strings-beside a.is_truth b x fits_too (right-both (beside u b.is_truth a) (beside u a.is_truth b) sides))
        fits.truth fits_too.truth in
        alike-map Truth (alike-equal (compared s o v x) (compared t o v x) same) (λ c e. tight-fits (asked_by_both u a b) (Truth c) refl none-solid (λ i. (c, refl)))

    pub calculated : (operation : Decimal → Decimal → Decimal) (x : Value) → Fits m b x → Asks m (asked_computed u a b) → Alike (Fits m (asked_computed u a b)) (computed s operation v x) (computed t operation v x)
    calculated operation x fits_too p =
        alike-then (λ j. number_of s x >>= λ k. Some (Number (operation j k))) (λ j. number_of t x >>= λ k. Some (Number (operation j k)))
        (alike-equal (number_of s v) (number_of t v) (number-same w v (strings-first a v fits (left-both (converted u a) (converted u b) p)))) (λ j e.
        alike-then (λ k. Some (Number (operation j k))) (λ k. Some (Number (operation j k)))
        (alike-equal (number_of s x) (number_of t x) (number-same w x (strings-first b x fits_too (right-both (converted u a) (converted u b) p)))) (λ k i.
        gives (tight-fits (asked_computed u a b) (Number (operation j k)) refl none-solid (λ l. no l))))

    pub unites : (x : Value) → Fits m b x → Alike (Fits m (either u a b)) (Some (united s v x)) (Some (united t v x))
    unites x fits_too = alike-at refl (ap (λ ns. Some (Nodes ns)) (ordered m (a.set ++ b.set) (nodes_of v ++ nodes_of x) all)) (gives (record {
      good = λ k h. in-set m (a.set ++ b.set) k (all k (in-order_of (A m) w.visits.apart (nodes_of v ++ nodes_of x) k h));
      truth = λ i. no i;
      tight = λ l. let one = fits.tight (left-of a.is_loose b.is_loose l) in let two = fits_too.tight (right-of a.is_loose b.is_loose l) in
          let solid : AllSolid w (a.set ++ b.set) = (λ k h. elim (has-append k a.set b.set h) [ inl i ↦ one.1 k i | inr i ↦ two.1 k i ]) in (
            ap (λ ns. in_order (A m) (ns ++ nodes_of x)) one.0 ∙ ap (λ ns. in_order (A m) (a.set ++ ns)) two.0 ∙ first-order w (a.set ++ b.set) solid,
            order-solid w (a.set ++ b.set) solid,
          );
    }))
      where
        left-of : (p q : Bool) → (p || q) ≡ false → p ≡ false
        left-of true q h = h
        left-of false q h = refl

        right-of : (p q : Bool) → (p || q) ≡ false → q ≡ false
        right-of true q h = no (sym h)
        right-of false q h = h

        all : AllGood m (a.set ++ b.set) (nodes_of v ++ nodes_of x)
        all k h = elim (has-append k (nodes_of v) (nodes_of x) h) [
          | inl i ↦ good-more k (λ j l. has-left j a.set b.set l) (fits.good k i)
          | inr i ↦ good-more k (λ j l. has-right j a.set b.set l) (fits_too.good k i)
        ]

  -- ---- names

  pub name-same : (set ns : List ℕ) → AllGood m set ns → first_name t.all ns ≡ first_name s.all ns
  name-same set [] h = refl
  name-same set (n ∷ ns) h =
      let g = h n (or-left (n == n) (has n ns) (self-same n)) in
      ap (option_and_then (λ (y : Visit). name_in y.content)) ((kept-second m n g.visit g.in_second).0 ∙ sym (kept-first m n g.visit g.in_first).0)

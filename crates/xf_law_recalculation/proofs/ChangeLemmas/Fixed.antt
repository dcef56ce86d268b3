-- Where numbers of texts change alone, a node that is no text is the same visit.
use Rattle.std.proofs.Common.{◌≡◌, ℕ, ◌==◌, Bool, true, false, not, cond, ◌||◌, List, [], ◌∷◌, map, Option, Some, None, option_map, refl, sym, ap, ◌∙◌}
use Rattle.std.proofs.lemmas.Bool.{eqb-true}
use Rattle.xf_def_forest.specs.declared.content.Node.{Node}
use Rattle.xf_def_forest.specs.Forest.{Forest, is_text, has_number, node_at}
use Rattle.xf_def_forest.specs.Visit.{Visit, visit, visits_from, visits, still_above}
use Rattle.xf_def_forest.specs.Shape.{erased}
use Rattle.xf_def_forest.specs.Changes.{in_detached}
use Rattle.xf_def_forest.specs.Same.{IsRenumbering, renumbered_visit}
use Rattle.xf_def_forest.specs.WellFormed.{HasTrees}
use Rattle.xf_def_forest.proofs.BackLaws.{not-true}
use Rattle.xf_def_forest.proofs.OrderLaws.{seen-has}
use Rattle.xf_def_forest.proofs.RenumberLaws.{map-map, filter-through}
use Rattle.xf_def_xpath.specs.Asked.{found}
use Rattle.xf_def_xpath.specs.Agree.{untexted}
use Rattle.xf_def_xpath.proofs.ForestVisits.{forest-visits}
use Rattle.xf_def_xpath.proofs.RenumberLaws.{found-renumbered}
use Rattle.xf_def_xpath.proofs.VisitFacts.{some-same, none-some, present, found-number, found-out}
use Rattle.xf_law_recalculation.proofs.AgreeLemmas.HeldShape.{original}
use Rattle.xf_law_recalculation.specs.Marks.Binds.{instances_of}
use Rattle.xf_law_recalculation.specs.Marks.Instances.{standing}
use Rattle.xf_law_recalculation.specs.Edit.InstanceEdits.{AreTextNumbers}
use Rattle.xf_law_recalculation.proofs.MarksLemmas.Behind.{erased-apart, or_later, found-append}
use Rattle.xf_law_recalculation.proofs.MarksLemmas.BindInstances.{front-trees}
use Rattle.xf_law_recalculation.proofs.MarksLemmas.Standing.{visits-parts}
use Rattle.xf_law_recalculation.proofs.MarksLemmas.TextLists.{text-kept}
use Rattle.xf_law_recalculation.proofs.ChangeLemmas.Carry.{standing-apart, differ-of}

-- ---- visits with other numbers

pub erased-through : (s : ℕ → ℕ) (xs : List Visit) → map erased (map (renumbered_visit s) xs) ≡ map (renumbered_visit s) (map erased xs)
erased-through s xs = map-map erased (renumbered_visit s) xs ∙ sym (map-map (renumbered_visit s) erased xs)

pub untexted-through : (s : ℕ → ℕ) (xs : List Visit) → untexted (map erased (map (renumbered_visit s) xs)) ≡ map (renumbered_visit s) (untexted (map erased xs))
untexted-through s xs = ap untexted (erased-through s xs) ∙ filter-through (renumbered_visit s) (λ y. not (is_text y.content)) (λ y. not (is_text y.content)) (λ y. refl) (map erased xs)

pub one-after : (s f : ℕ → ℕ) (xs : List Visit) → map (renumbered_visit s) (map (renumbered_visit f) xs) ≡ map (renumbered_visit (λ k. s (f k))) xs
one-after s f [] = refl
one-after s f (x ∷ xs) =
    ap (λ l. record { number = s (f x.number); above = l; content = x.content } ∷ map (renumbered_visit s) (map (renumbered_visit f) xs)) (map-map s f x.above)
    ∙ ap (λ l. renumbered_visit (λ k. s (f k)) x ∷ l) (one-after s f xs)

-- ---- nodes and visits

pub node-seen : (n : ℕ) (above nodes : List Node) (y : Visit) (z : Node) → found n (visits_from above nodes) ≡ Some y → node_at n nodes ≡ Some z → z.content ≡ y.content
node-seen n above [] y z e i = none-some e
node-seen n above (x ∷ xs) y z e i = by (x.number == n) e i (node-seen n (x ∷ still_above x.depth above) xs y z)
  where
    by : (b : Bool) → cond b (Some (visit above x)) (found n (visits_from (x ∷ still_above x.depth above) xs)) ≡ Some y → cond b (Some x) (node_at n xs) ≡ Some z →
        (found n (visits_from (x ∷ still_above x.depth above) xs) ≡ Some y → node_at n xs ≡ Some z → z.content ≡ y.content) → z.content ≡ y.content
    by true j k f = ap (λ (w : Node). w.content) (sym (some-same k)) ∙ ap (λ (w : Visit). w.content) (some-same j)
    by false j k f = f j k

pub node-there : (n : ℕ) (nodes : List Node) (z : Node) → node_at n nodes ≡ Some z → has_number n nodes ≡ true
node-there n [] z e = none-some e
node-there n (x ∷ xs) z e = by (x.number == n) e (node-there n xs z)
  where
    by : (b : Bool) → cond b (Some x) (node_at n xs) ≡ Some z → (node_at n xs ≡ Some z → has_number n xs ≡ true) → (b || has_number n xs) ≡ true
    by true j f = refl
    by false j f = f j

-- ---- what stays

module _ (number : ℕ) (forest : Forest) (s : ℕ → ℕ) (trees : HasTrees forest) (fresh : has_number number forest.nodes ≡ false) (texts : AreTextNumbers number forest.nodes s) where
  abbrev P : List Visit
  P = standing forest

  seen : (k : ℕ) (v : Visit) → found k P ≡ Some v → found k (visits forest.nodes) ≡ Some v
  seen k v e = ap (found k) (visits-parts forest.nodes) ∙ found-append k P (visits (in_detached forest.nodes)) ∙ ap (λ m. or_later m (found k (visits (in_detached forest.nodes)))) e

  pub number-fixed : (k : ℕ) (x : Visit) → found k (untexted (map erased P)) ≡ Some x → s k ≡ k
  number-fixed k x e =
      let out = found-out (λ y. not (is_text y.content)) k (map erased P) x (erased-apart P (standing-apart forest trees)) e in
      let v = original k P x out.0 in
      let whole = seen k v.0 v.1 in
      let there : has_number k forest.nodes ≡ true = sym (seen-has k [] forest.nodes) ∙ present k (visits forest.nodes) v.0 whole in
      texts.solid k (differ-of (k == number) (λ i. sym there ∙ ap (λ m. has_number m forest.nodes) (eqb-true k number i) ∙ fresh))
      (λ z i. ap is_text (node-seen k [] forest.nodes v.0 z whole i) ∙ sym (text-kept v.0.content) ∙ ap (λ (w : Visit). is_text w.content) v.2 ∙ not-true (is_text x.content) out.1)

  above-fixed : (ns : List ℕ) (k : ℕ) (x : Visit) → found k (map erased P) ≡ Some x → x.above ≡ ns → map s ns ≡ ns
  above-fixed [] k x e i = refl
  above-fixed (n ∷ ns) k x e i = by (found n (untexted (map erased P))) refl ((forest-visits (instances_of forest) (front-trees forest trees)).closed k n ns x e i) (above-fixed ns n)
    where
      by : (o : Option Visit) → found n (untexted (map erased P)) ≡ o → option_map (λ (z : Visit). z.above) o ≡ Some ns →
          ((z : Visit) → found n (map erased P) ≡ Some z → z.above ≡ ns → map s ns ≡ ns) → map s (n ∷ ns) ≡ n ∷ ns
      by None j l again = none-some l
      by (Some z) j l again =
          ap (λ m. m ∷ map s ns) (number-fixed n z j)
          ∙ ap (λ l. n ∷ l) (again z (found-out (λ y. not (is_text y.content)) n (map erased P) z (erased-apart P (standing-apart forest trees)) j).0 (some-same l))

  pub visit-fixed : (k : ℕ) (x : Visit) → found k (untexted (map erased P)) ≡ Some x → renumbered_visit s x ≡ x
  visit-fixed k x e =
      let out = found-out (λ y. not (is_text y.content)) k (map erased P) x (erased-apart P (standing-apart forest trees)) e in
      ap (λ m. record { number = m; above = map s x.above; content = x.content }) (ap s (found-number k (map erased P) x out.0) ∙ number-fixed k x e ∙ sym (found-number k (map erased P) x out.0))
      ∙ ap (λ l. record { number = x.number; above = l; content = x.content }) (above-fixed x.above k x out.0 refl)

-- a node that keeps its number is found with the other numbers
pub found-kept : (s : ℕ → ℕ) → IsRenumbering s → (k : ℕ) (x : Visit) (xs : List Visit) → s k ≡ k → found k xs ≡ Some x → found k (map (renumbered_visit s) xs) ≡ Some (renumbered_visit s x)
found-kept s same k x xs e i = ap (λ m. found m (map (renumbered_visit s) xs)) (sym e) ∙ found-renumbered s same k xs ∙ ap (option_map (renumbered_visit s)) i

-- What the changes carry on tells of the instances of now beside those of before with these numbers what a bind asks of them.
use Rattle.std.proofs.Common.{◌≡◌, ℕ, ◌==◌, Bool, true, false, not, ◌&&◌, ◌||◌, List, [], ◌∷◌, map, nat_lt, Some, refl, sym, ap, ◌∙◌, subst, inl, inr, arith}
use Rattle.std.specs.Prelude.{◌⊎◌, ◌^◌, filter}
use Rattle.std.specs.List.{list_any}
use Rattle.std.proofs.lemmas.Bool.{eqb-true}
use Rattle.std.proofs.lemmas.Bool.Decides.{nat_tests}
use Rattle.xf_def_syntax.specs.declared.expr.Expr.{Expr}
use Rattle.xf_def_forest.specs.Forest.{Forest, is_text}
use Rattle.xf_def_forest.specs.Visit.{Visit, visits, has, is_first}
use Rattle.xf_def_forest.specs.Shape.{erased, shape}
use Rattle.xf_def_forest.specs.Changes.{in_instances, in_detached}
use Rattle.xf_def_forest.specs.Same.{renumbered_visit}
use Rattle.xf_def_forest.specs.WellFormed.{HasTrees}
use Rattle.xf_def_forest.proofs.RenumberLaws.{filter-through, visits-renumbered}
use Rattle.xf_def_xpath.specs.Given.{Document}
use Rattle.xf_def_xpath.specs.Asked.{found}
use Rattle.xf_def_xpath.specs.Agree.{numbers_of, are_apart, untexted, list_of, AreVisits, HaveOneFrame}
use Rattle.xf_def_xpath.specs.Reads.{trace}
use Rattle.xf_def_xpath.proofs.VisitFacts.{no, some-same, self-same, or-left, filter-and, filter-same, filter-within, present, found-in, found-out}
use Rattle.xf_def_xpath.proofs.ForestVisits.{each-found, forest-visits}
use Rattle.xf_def_model.specs.Rules.{Rule, Scope, chains, chain_around}
use Rattle.xf_def_model.specs.Applied.{entries_by}
use Rattle.xf_def_model.specs.Pertinent.{AllOf}
use Rattle.xf_law_recalculation.specs.Agree.Settles.{AreHung}
use Rattle.xf_law_recalculation.specs.Agree.Kept.{is_known, keeps, kept}
use Rattle.xf_law_recalculation.specs.Agree.Forests.{InBoth}
use Rattle.xf_law_recalculation.specs.Marks.Marks.{is_unmarked, texts_in, IsInBoth, without_marked, SameNodes}
use Rattle.xf_law_recalculation.specs.Marks.Binds.{bind_looks, SameStructure, GivesTruths, instances_of, HasInstances}
use Rattle.xf_law_recalculation.specs.Marks.Instances.{standing}
use Rattle.xf_law_recalculation.proofs.MarksLemmas.Behind.{numbers-erased, erased-apart, or_later, found-append}
use Rattle.xf_law_recalculation.proofs.MarksLemmas.BindInstances.{structure, front-trees}
use Rattle.xf_law_recalculation.proofs.MarksLemmas.OneFrame.{one_frame}
use Rattle.xf_law_recalculation.proofs.MarksLemmas.Standing.{visits-parts, within, visits-apart, number-from, trees-too, hung-too}
use Rattle.xf_law_recalculation.proofs.MarksLemmas.TextLists.{standing-at, not-of, text-kept, original, headed}
use Rattle.xf_law_recalculation.specs.Change.Carried.{Carried}
use Rattle.xf_law_recalculation.proofs.ChangeLemmas.Carry.{standing-apart, differ-of}
use Rattle.xf_law_recalculation.specs.Bind.WithTexts.{SameWithTexts, IsCovered}
use Rattle.xf_law_recalculation.specs.Bind.Since.{first_marked, numbered_before, KeepsDocuments, HoldsNumbers, WithTextsCarried, AnyBindSince}
use Rattle.xf_law_recalculation.proofs.BindLemmas.NodesWithTexts.{with_texts_of_nodes}
use Rattle.xf_law_recalculation.proofs.BindLemmas.LooseInstances.{any_bind_of_instances}
use Rattle.xf_law_recalculation.proofs.BindLemmas.LooseBinds.{any_bind_stays}
use Rattle.xf_law_recalculation.proofs.BindLemmas.SetAside as aside

module _ (f : ℕ → ℕ) (taken : ℕ → Bool) (texts lists : List ℕ) (scope : Scope) (documents : List Document) (now before : Forest)
    (instances : HasInstances scope now) (carried : Carried f taken texts lists scope documents now before) (keeps_documents : KeepsDocuments lists scope now) where
  abbrev P : List Visit
  P = standing now

  abbrev P0 : List Visit
  P0 = standing before

  abbrev F : List Visit
  F = map (renumbered_visit f) P0

  abbrev g : ℕ → ℕ
  g = aside.loosened f taken texts lists scope documents now before instances.trees carried

  abbrev G : List Visit
  G = map (renumbered_visit g) P0

  nodes : SameNodes texts lists P F
  nodes = carried.same.nodes

  kept-same : (p : Visit → Bool) → ((v : Visit) → is_text v.content ≡ true → first_marked texts v.above ≡ true → p v ≡ false) → filter p G ≡ filter p F
  kept-same = aside.kept-same f taken texts lists scope documents now before instances.trees carried

  apart-now : are_apart (numbers_of P) ≡ true
  apart-now = standing-apart now instances.trees

  apart-f : are_apart (numbers_of F) ≡ true
  apart-f = visits-apart f carried.same.renumbers P0 (standing-apart before carried.same.trees)

  apart-g : are_apart (numbers_of G) ≡ true
  apart-g = visits-apart g (aside.renumbers f taken texts lists scope documents now before instances.trees carried) P0 (standing-apart before carried.same.trees)

  -- ---- what both keep

  -- the same of visits without their own texts
  bare-same : (p : Visit → Bool) → ((v : Visit) → is_text v.content ≡ true → first_marked texts v.above ≡ true → p v ≡ false) → filter p (map erased G) ≡ filter p (map erased F)
  bare-same p h =
      filter-through erased p (λ v. p (erased v)) (λ v. refl) G
      ∙ ap (map erased) (kept-same (λ v. p (erased v)) (λ v t m. h (erased v) (text-kept v.content ∙ t) m))
      ∙ sym (filter-through erased p (λ v. p (erased v)) (λ v. refl) F)

  unknown-first : (ns : List ℕ) → first_marked texts ns ≡ true → is_known (is_unmarked texts) ns ≡ false
  unknown-first [] m = no m
  unknown-first (n ∷ ns) m = ap not m

  marked-out : (v : Visit) → is_text v.content ≡ true → first_marked texts v.above ≡ true → keeps (is_unmarked texts) v ≡ false
  marked-out v t m = ap (λ b. not b || is_known (is_unmarked texts) v.above) t ∙ unknown-first v.above m

  known-same : without_marked texts G ≡ without_marked texts F
  known-same = bare-same (keeps (is_unmarked texts)) marked-out

  solid-same : untexted (map erased G) ≡ untexted (map erased F)
  solid-same = bare-same (λ v. not (is_text v.content)) (λ v t m. ap not t)

  both-f : (n : ℕ) → IsInBoth P G n → IsInBoth P F n
  both-f n h = (h.0, h.1, ap (found n) (sym solid-same) ∙ h.2)

  both-g : (n : ℕ) → IsInBoth P F n → IsInBoth P G n
  both-g n h = (h.0, h.1, ap (found n) solid-same ∙ h.2)

  known-or-loose : (v : Visit) → (keeps (is_unmarked texts) v ≡ true) ⊎ ((is_text v.content ≡ true) × (first_marked texts v.above ≡ true))
  known-or-loose v = by (is_text v.content) v.above refl refl
    where
      by : (b : Bool) (ns : List ℕ) → is_text v.content ≡ b → v.above ≡ ns → ((not b || is_known (is_unmarked texts) ns) ≡ true) ⊎ ((is_text v.content ≡ true) × (first_marked texts v.above ≡ true))
      by false ns i j = inl refl
      by true [] i j = inl refl
      by true (n ∷ ns) i j = of (has n texts) refl
        where
          of : (c : Bool) → has n texts ≡ c → (not c ≡ true) ⊎ ((is_text v.content ≡ true) × (first_marked texts v.above ≡ true))
          of true e = inr (i, ap (first_marked texts) j ∙ e)
          of false e = inl refl

  stay : (n : ℕ) (x y : Visit) → found n (map erased P) ≡ Some x → found n (map erased G) ≡ Some y → x ≡ y
  stay n x y e i = elim (known-or-loose y) [
    | inl k ↦
        let in_known : found n (without_marked texts F) ≡ Some y = ap (found n) (sym known-same) ∙ found-in (keeps (is_unmarked texts)) n (map erased G) y (erased-apart G apart-g) i k in
        nodes.stay n x y e (found-out (keeps (is_unmarked texts)) n (map erased F) y (erased-apart F apart-f) in_known).0
    | inr l ↦ no (sym (away n y i l.0 l.1) ∙ ap (has n) (sym (numbers-erased P)) ∙ present n (map erased P) x e)
  ]
    where
      away : (n : ℕ) (y : Visit) → found n (map erased G) ≡ Some y → is_text y.content ≡ true → first_marked texts y.above ≡ true → has n (numbers_of P) ≡ false
      away n y i t m =
          let w = original n G y i in
          aside.loose-away f taken texts lists scope documents now before instances.trees carried n w.0 w.1
          (sym (text-kept w.0.content) ∙ ap (λ (v : Visit). is_text v.content) w.2 ∙ t) (ap (λ (v : Visit). first_marked texts v.above) w.2 ∙ m)

  -- ---- the nodes

  solid-found_both : (n : ℕ) → IsInBoth P F n → found n G ≡ found n F
  solid-found_both n h =
      let x = original n F h.0 (found-out (λ v. not (is_text v.content)) n (map erased F) h.0 (erased-apart F apart-f) h.2).0 in
      let is : not (is_text x.0.content) ≡ true = ap not (sym (text-kept x.0.content) ∙ ap (λ (v : Visit). is_text v.content) x.2) ∙ (found-out (λ v. not (is_text v.content)) n (map erased F) h.0 (erased-apart F apart-f) h.2).1 in
      let solid : found n (filter (λ v. not (is_text v.content)) G) ≡ Some x.0 = ap (found n) (kept-same (λ v. not (is_text v.content)) (λ v t m. ap not t)) ∙ found-in (λ v. not (is_text v.content)) n F x.0 apart-f x.1 is in
      (found-out (λ v. not (is_text v.content)) n G x.0 apart-g solid).0 ∙ sym x.1

  texts-same : (n : ℕ) → has n texts ≡ false → texts_in G n ≡ texts_in F n
  texts-same n h = kept-same (λ v. is_text v.content && is_first n v.above) (λ v t m. ap (λ b. b && is_first n v.above) t ∙ other v.above m)
    where
      other : (ns : List ℕ) → first_marked texts ns ≡ true → is_first n ns ≡ false
      other [] m = refl
      other (k ∷ ks) m = differ-of (n == k) (λ e. sym (sym h ∙ ap (λ j. has j texts) (eqb-true n k e) ∙ m))

  same_nodes : SameNodes texts lists P G
  same_nodes = record {
    stay = stay;
    order = ap (λ l. filter (λ n. has n (numbers_of l)) (numbers_of (without_marked texts P))) known-same ∙ nodes.order ∙ ap (λ l. filter (λ n. has n (numbers_of (without_marked texts P))) (numbers_of l)) (sym known-same);
    listed = λ n h free. nodes.listed n (both-f n h) free ∙ ap (filter (λ (y : Visit). is_first n y.above)) (sym known-same);
    mixed = λ n h e free. nodes.mixed n (both-f n h) e free;
    own = λ n h free. nodes.own n (both-f n h) free ∙ sym (solid-found_both n (both-f n h));
    held = λ n h free. nodes.held n (both-f n h) free ∙ sym (texts-same n free);
  }

  own_texts : (k q : ℕ) (x : Visit) → found k (map erased P) ≡ Some x → has k (numbers_of (map erased G)) ≡ true → is_text x.content ≡ true → is_first q x.above ≡ true → has q texts ≡ false
  own_texts k q x e h t i =
      let y = standing-at k (map erased G) h in
      let one : x ≡ y.0 = stay k x y.0 e y.1 in
      elim (known-or-loose x) [
        | inl known ↦ not-of (has q texts) (sym (ap (is_known (is_unmarked texts)) (headed q x.above i).1) ∙ sym (ap (λ b. not b || is_known (is_unmarked texts) x.above) t) ∙ known)
        | inr l ↦
            let w = original k G y.0 y.1 in
            no (sym (aside.loose-away f taken texts lists scope documents now before instances.trees carried k w.0 w.1
            (sym (text-kept w.0.content) ∙ ap (λ (v : Visit). is_text v.content) (w.2 ∙ sym one) ∙ l.0) (ap (λ (v : Visit). first_marked texts v.above) (w.2 ∙ sym one) ∙ l.1))
            ∙ ap (has k) (sym (numbers-erased P)) ∙ present k (map erased P) x e)
      ]

  -- ---- the forest of before with these numbers

  other_trees : (next : ℕ) × HasTrees (numbered_before g next before)
  other_trees = trees-too g (aside.renumbers f taken texts lists scope documents now before instances.trees carried) (instances_of before) (front-trees before carried.same.trees)

  abbrev next : ℕ
  next = other_trees.0

  abbrev other : Forest
  other = numbered_before g next before

  same_visits : visits other.nodes ≡ G
  same_visits = visits-renumbered g (aside.renumbers f taken texts lists scope documents now before instances.trees carried) (in_instances before.nodes)

  visits-of : AreVisits (map erased P)
  visits-of = forest-visits (instances_of now) (front-trees now instances.trees)

  visits-other : AreVisits (map erased G)
  visits-other = subst (λ xs. AreVisits (map erased xs)) same_visits (forest-visits other other_trees.1)

  found-whole : (k : ℕ) (x : Visit) → found k P0 ≡ Some x → found k (visits before.nodes) ≡ Some x
  found-whole k x i = ap (found k) (visits-parts before.nodes) ∙ found-append k P0 (visits (in_detached before.nodes)) ∙ ap (λ m. or_later m (found k (visits (in_detached before.nodes)))) i

  hung-front : AreHung P0
  hung-front k x i t =
      let p = carried.same.hung k x (found-whole k x i) t in
      let q_in : has p.0 (numbers_of P0) ≡ true = each-found (λ y. (q : ℕ) → has q y.above ≡ true → has q (numbers_of P0) ≡ true) k P0 x (within (in_instances before.nodes)) i p.0
      (ap (has p.0) p.4 ∙ or-left (p.0 == p.0) (has p.0 p.1.above) (self-same p.0)) in
      let z = standing-at p.0 P0 q_in in
      (p.0, p.1, z.1 ∙ ap Some (some-same (sym (found-whole p.0 z.0 z.1) ∙ p.2)), p.3, p.4)

  frame : HaveOneFrame (map erased P) (map erased G)
  frame = one_frame (is_unmarked texts) (map erased P) (map erased G) visits-of visits-other stay same_nodes.order

  turn : (a b : Bool) → (a && b) ≡ (b && a)
  turn true true = refl
  turn true false = refl
  turn false true = refl
  turn false false = refl

  swap : (p q : Visit → Bool) (xs : List Visit) → filter p (filter q xs) ≡ filter q (filter p xs)
  swap p q xs = sym (filter-and p q xs) ∙ filter-same (λ y. q y && p y) (λ y. p y && q y) (λ y. turn (q y) (p y)) xs ∙ filter-and q p xs

  -- a list without texts, from the list with those that are known
  list-known : (n : ℕ) (xs : List Visit) → list_of xs n ≡ filter (λ y. not (is_text y.content)) (filter (λ y. is_first n y.above) (kept (is_unmarked texts) xs))
  list-known n xs =
      ap (filter (λ (y : Visit). is_first n y.above)) (sym (filter-within (λ y. not (is_text y.content)) (keeps (is_unmarked texts)) (λ y i. or-left (not (is_text y.content)) (is_known (is_unmarked texts) y.above) i) xs))
      ∙ swap (λ y. is_first n y.above) (λ y. not (is_text y.content)) (kept (is_unmarked texts) xs)

  into : (n : ℕ) → IsInBoth P G n → InBoth (instances_of now) other n
  into n h = (h.0, h.1, ap (λ xs. found n (untexted (map erased xs))) same_visits ∙ h.2)

  out-of : (n : ℕ) → InBoth (instances_of now) other n → IsInBoth P G n
  out-of n h = (h.0, h.1, ap (λ xs. found n (untexted (map erased xs))) (sym same_visits) ∙ h.2)

  structure_since : SameStructure lists scope (instances_of now) other
  structure_since = record {
    trees = front-trees now instances.trees;
    trees_before = other_trees.1;
    below = λ k h. let l = aside.small-now f taken texts lists scope documents now before instances.trees carried k h in grind (arith, nat_tests, l);
    below_before = λ k h.
        let m = number-from g (aside.renumbers f taken texts lists scope documents now before instances.trees carried) k P0 (ap (λ xs. has k (numbers_of xs)) (sym same_visits) ∙ h) in
        ap (λ j. nat_lt j (2 ^ 128)) m.1 ∙ aside.small f taken texts lists scope documents now before instances.trees carried m.0 m.2;
    hung = (structure scope now instances).hung_before;
    hung_before = subst AreHung (sym same_visits)
        (hung-too g (aside.renumbers f taken texts lists scope documents now before instances.trees carried) P0 (standing-apart before carried.same.trees) hung-front);
    stay = λ n x y i j. stay n x y i (ap (λ xs. found n (map erased xs)) (sym same_visits) ∙ j);
    order = subst (λ xs. filter (λ n. has n (numbers_of (untexted (map erased xs)))) (numbers_of (untexted (map erased P))) ≡ filter (λ n. has n (numbers_of (untexted (map erased P)))) (numbers_of (untexted (map erased xs))))
        (sym same_visits) frame.order;
    listed = λ n h free.
        list-known n (map erased P) ∙ ap (filter (λ (y : Visit). not (is_text y.content))) (same_nodes.listed n (out-of n h) free) ∙ sym (list-known n (map erased G))
        ∙ ap (λ xs. list_of (map erased xs) n) (sym same_visits);
    documents = λ id n e. let r = carried.same.same id n e (λ m h. keeps_documents.around id n m e h) in into n (both-g n r.3);
    roots = λ n x i r. keeps_documents.roots n x i r;
  }

  with_texts : SameWithTexts lists scope (instances_of now) other
  with_texts = with_texts_of_nodes texts lists scope (instances_of now) other structure_since
      (subst (λ xs. SameNodes texts lists P xs) (sym same_visits) same_nodes)
      (λ k q x e h t i. own_texts k q x e (ap (λ xs. has k (numbers_of (map erased xs))) (sym same_visits) ∙ h) t i)

  holds : HoldsNumbers f texts before g
  holds = record {
    renumbers = aside.renumbers f taken texts lists scope documents now before instances.trees carried;
    held = λ k h i. aside.held f taken texts lists scope documents now before instances.trees carried k h i;
  }

  -- what a bind sets over the instances of before with these numbers
  pub entries-since : (bind : ℕ) (r : Rule) (around : List Expr) (own : Expr) → GivesTruths scope →
      chain_around (chains scope) r.around ≡ map trace around → r.node_set ≡ trace own → AllOf IsCovered around → IsCovered own →
      list_any (λ n. has n lists) (bind_looks scope (shape (visits (in_instances now.nodes))) r) ≡ false →
      entries_by scope (shape (visits now.nodes)) bind r
      ≡ entries_by scope (shape (map (renumbered_visit (aside.loosened f taken texts lists scope documents now before instances.trees carried)) (standing before))) bind r
  entries-since bind r around own truths chain set covered_around covered unmarked =
      any_bind_of_instances scope now bind r around own instances truths chain set covered_around covered
      ∙ any_bind_stays scope (instances_of now) other lists bind r around own with_texts truths chain set covered_around covered unmarked
      ∙ ap (λ xs. entries_by scope (shape xs) bind r) same_visits

pub with_texts_carried : WithTextsCarried
with_texts_carried f taken texts lists scope documents now before instances carried docs = (
  g f taken texts lists scope documents now before instances carried docs,
  next f taken texts lists scope documents now before instances carried docs,
  holds f taken texts lists scope documents now before instances carried docs,
  with_texts f taken texts lists scope documents now before instances carried docs,
)

pub any_bind_since : AnyBindSince
any_bind_since f taken texts lists scope documents now before bind r around own instances carried docs truths chain set covered_around covered unmarked = (
  g f taken texts lists scope documents now before instances carried docs,
  next f taken texts lists scope documents now before instances carried docs,
  holds f taken texts lists scope documents now before instances carried docs,
  any_bind_of_instances scope now bind r around own instances truths chain set covered_around covered
      ∙ any_bind_stays scope (instances_of now) (other f taken texts lists scope documents now before instances carried docs) lists bind r around own
      (with_texts f taken texts lists scope documents now before instances carried docs) truths chain set covered_around covered unmarked,
)

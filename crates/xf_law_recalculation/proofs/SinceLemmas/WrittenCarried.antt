-- Where contents are written at nodes that are marked, all that is told of the data beside those of then is carried on.
use Rattle.std.proofs.Common.{◌≡◌, ℕ, suc, ◌+◌, ◌^◌, ◌==◌, Bool, true, false, cond, ◌&&◌, ◌||◌, List, [], ◌∷◌, ◌++◌, length, map, nat_lt, refl, sym, ap, ◌∙◌, subst, inl, arith}
use Rattle.std.specs.Prelude.{◌≤◌, nat_le}
use Rattle.std.specs.List.{list_any}
use Rattle.std.proofs.lemmas.Bool.{eqb-true}
use Rattle.std.proofs.lemmas.Bool.Decides.{nat_tests}
use Rattle.xf_def_forest.specs.declared.content.Node.{Node}
use Rattle.xf_def_forest.specs.Changes.{in_instances, in_detached}
use Rattle.xf_def_forest.specs.Forest.{Forest, is_element, has_number}
use Rattle.xf_def_forest.specs.Needs.{IsSettable}
use Rattle.xf_def_forest.specs.Same.{renumbered_visit}
use Rattle.xf_def_forest.specs.Settle.{with_settled_text}
use Rattle.xf_def_forest.specs.Shape.{has_elements}
use Rattle.xf_def_forest.specs.Visit.{Visit, visits, has, is_first}
use Rattle.xf_def_forest.specs.WellFormed.{HasTrees}
use Rattle.xf_def_forest.proofs.BackLaws.{or-false}
use Rattle.xf_def_xpath.specs.Asked.{found}
use Rattle.xf_def_xpath.specs.Given.{Document}
use Rattle.xf_def_model.specs.Rules.{Scope}
use Rattle.xf_def_model.specs.Pertinent.{AllOf}
use Rattle.xf_law_recalculation.specs.Agree.Hung.{are_hung}
use Rattle.xf_law_recalculation.specs.Agree.Settles.{IsSolid}
use Rattle.xf_law_forests.specs.Settle.Written.{Contents, written, AreSettable}
use Rattle.xf_law_recalculation.specs.Marks.Instances.{standing}
use Rattle.xf_law_recalculation.specs.Edit.Edits.{MarksMore}
use Rattle.xf_law_recalculation.proofs.MarksLemmas.Behind.{append-none, has-append}
use Rattle.xf_law_recalculation.proofs.EditLemmas.EditLaws.{more-marked}
use Rattle.xf_law_recalculation.proofs.MarksLemmas.Standing.{visits-parts}
use Rattle.xf_law_recalculation.specs.Change.Carried.{under, Carried, Takes, Follows}
use Rattle.xf_law_recalculation.proofs.ChangeLemmas.Carry.{standing-apart, before-apart, less-number}
use Rattle.xf_law_recalculation.proofs.ChangeLemmas.OthersCarry.{elsewhere_carried}
use Rattle.xf_law_recalculation.proofs.ChangeLemmas.TextsCarry.{settled_carried}
use Rattle.xf_law_recalculation.proofs.SinceLemmas.SolidStays.{solid_of}
use Rattle.xf_law_recalculation.proofs.SinceLemmas.Steps.{with_next, later-trees, able-later, Stepped, stepped, able-all}

-- ---- which numbers are taken

less-more : (a c k : ℕ) → a ≤ c → nat_lt k a ≡ true → nat_lt k c ≡ true
less-more a c k le h = grind (arith, nat_tests, le, h)

take-under : (a c next : ℕ) (nodes : List Node) → a ≤ c → c ≤ next → HasTrees (with_next c nodes) → nat_le next (2 ^ 127) ≡ true → Takes (under a) (under c) (with_next next nodes)
take-under a c next nodes le fits trees few = record {
  keeps = λ k h. less-more a c k le h;
  nodes = λ k h. less-number c k nodes trees.below h;
  less = λ k h. less-more c next k fits h;
  few = few;
}

pub solid-by : (xs ys : List Visit) (n : ℕ) → solid_of xs ≡ solid_of ys → IsSolid ys n → IsSolid xs n
solid-by xs ys n h s = (s.0, ap (found n) h ∙ s.1)

-- ---- contents that are written

module _ (f : ℕ → ℕ) (texts lists : List ℕ) (scope : Scope) (documents : List Document) (before : Forest) where
  marked-already : (n : ℕ) → has n texts ≡ true → MarksMore texts n texts
  marked-already n h k = by (k == n) refl
    where
      by : (b : Bool) → (k == n) ≡ b → has k texts ≡ (b || has k texts)
      by true e = ap (λ m. has m texts) (eqb-true k n e) ∙ h
      by false e = refl

  step-carried : (forest : Forest) (n : ℕ) (text : List ℕ) → HasTrees forest → IsSettable n forest → Stepped n forest (with_settled_text forest.next n text forest.nodes) → nat_le (suc forest.next) (2 ^ 127) ≡ true →
      has n texts ≡ true → Carried f (under forest.next) texts lists scope documents forest before →
      Carried f (under (suc forest.next)) texts lists scope documents (with_next (suc forest.next) (with_settled_text forest.next n text forest.nodes)) before
  step-carried forest n text trees able step few mark carried = by (has_number n (in_instances forest.nodes)) refl
    where
      a : ℕ
      a = forest.next

      reserved : Forest
      reserved = with_next (suc a) forest.nodes

      after : Forest
      after = with_next (suc a) (with_settled_text a n text forest.nodes)

      waiting : Carried f (under a) texts lists scope documents reserved before
      waiting = elsewhere_carried f (under a) (under a) texts lists scope documents forest reserved before refl (take-under a a (suc a) forest.nodes (omega arith) (omega arith) trees few) carried

      follows : Follows lists scope scope after
      follows = record {
        model = refl;
        stand = λ id k e. solid-by (standing after) (standing forest) k step.inside (carried.same.documents_stand id k e);
        each = λ id k e. inl e;
        none = λ id e. e;
      }

      takes : Takes (under a) (under (suc a)) after
      takes = take-under a (suc a) (suc a) (with_settled_text a n text forest.nodes) (omega arith) (omega arith) step.trees few

      free : nat_lt a a ≡ false
      free = grind (arith, nat_tests)

      small : nat_lt a (2 ^ 127) ≡ true
      small = grind (arith, nat_tests, few)

      by : (b : Bool) → has_number n (in_instances forest.nodes) ≡ b → Carried f (under (suc a)) texts lists scope documents after before
      by true e = settled_carried f (under a) (under (suc a)) texts lists texts scope documents a n text reserved before (marked-already n mark) (later-trees a (suc a) forest.nodes (omega arith) trees) step.trees
          (able-later n (suc a) forest able) e free small takes follows waiting
      by false e = elsewhere_carried f (under a) (under (suc a)) texts lists scope documents reserved after before (step.away e) takes waiting

  pub written-carried : (done : ℕ → Bool) (contents : Contents) (forest : Forest) (next : ℕ) → HasTrees forest → are_hung forest.nodes ≡ true → AreSettable contents forest → forest.next + length contents ≤ next →
      nat_le next (2 ^ 127) ≡ true → ((n : ℕ) → done n ≡ true → has n texts ≡ true) → Carried f (under forest.next) texts lists scope documents forest before →
      Carried f (under next) texts lists scope documents (with_next next (written done forest.next contents forest.nodes)) before
  written-carried done [] forest next trees hung able le few marks carried =
      elsewhere_carried f (under forest.next) (under next) texts lists scope documents forest (with_next next forest.nodes) before refl
      (take-under forest.next next next forest.nodes (omega (arith, le)) (omega arith) (later-trees forest.next next forest.nodes (omega (arith, le)) trees) few) carried
  written-carried done ((n, text) ∷ rest) forest next trees hung able le few marks carried =
      let s = stepped forest n text trees hung able.0 in
      let fewer : suc forest.next + length rest ≤ next = omega (arith, le) in
      let room : nat_le (suc forest.next) (2 ^ 127) ≡ true = grind (arith, nat_tests, fewer, few) in
      by (done n) refl
      (written-carried done rest (with_next (suc forest.next) forest.nodes) next (later-trees forest.next (suc forest.next) forest.nodes (omega arith) trees) hung
      (able-all rest forest (with_next (suc forest.next) forest.nodes) (λ m h. able-later m (suc forest.next) forest h) able.1) fewer few marks
      (elsewhere_carried f (under forest.next) (under (suc forest.next)) texts lists scope documents forest (with_next (suc forest.next) forest.nodes) before refl
      (take-under forest.next (suc forest.next) (suc forest.next) forest.nodes (omega arith) (omega arith) (later-trees forest.next (suc forest.next) forest.nodes (omega arith) trees) room) carried))
      (λ mark. written-carried done rest (with_next (suc forest.next) (with_settled_text forest.next n text forest.nodes)) next s.trees s.hung
      (able-all rest forest (with_next (suc forest.next) (with_settled_text forest.next n text forest.nodes)) s.able able.1) fewer few marks
      (step-carried forest n text trees able.0 s room mark carried))
    where
      by : (b : Bool) → done n ≡ b → Carried f (under next) texts lists scope documents (with_next next (written done (suc forest.next) rest forest.nodes)) before →
          (has n texts ≡ true → Carried f (under next) texts lists scope documents (with_next next (written done (suc forest.next) rest (with_settled_text forest.next n text forest.nodes))) before) →
          Carried f (under next) texts lists scope documents (with_next next (written done (suc forest.next) rest (cond b (with_settled_text forest.next n text forest.nodes) forest.nodes))) before
      by true e i j = j (marks n e)
      by false e i j = i

-- ---- more marks

module _ (f : ℕ → ℕ) (taken : ℕ → Bool) (lists : List ℕ) (scope : Scope) (documents : List Document) (now before : Forest) (trees : HasTrees now) where
  any-front : (p : Visit → Bool) (xs ys : List Visit) → list_any p (xs ++ ys) ≡ false → list_any p xs ≡ false
  any-front p [] ys h = refl
  any-front p (x ∷ xs) ys h =
      let parts = or-false (p x) (list_any p (xs ++ ys)) h in
      ap (λ b. b || list_any p xs) parts.0 ∙ any-front p xs ys parts.1

  mark-one : (texts more : List ℕ) (n : ℕ) → MarksMore texts n more → IsSettable n now → Carried f taken texts lists scope documents now before → Carried f taken more lists scope documents now before
  mark-one texts more n marks able carried = record {
    same = record {
      renumbers = carried.same.renumbers;
      trees = carried.same.trees;
      hung = carried.same.hung;
      below = carried.same.below;
      nodes = more-marked texts lists more n (standing now) (map (renumbered_visit f) (standing before)) marks (standing-apart now trees) (before-apart f texts lists scope documents now before carried.same)
          (any-front (λ y. is_element y.content && is_first n y.above) (standing now) (visits (in_detached now.nodes)) (ap (λ l. has_elements l n) (sym (visits-parts now.nodes)) ∙ able.childless)) carried.same.nodes;
      same = carried.same.same;
      documents_stand = carried.same.documents_stand;
      absent = carried.same.absent;
    };
    nodes = carried.nodes;
    was = carried.was;
    less = carried.less;
    few = carried.few;
    few_before = carried.few_before;
    solid = carried.solid;
  }

  module _ (texts : List ℕ) (carried : Carried f taken texts lists scope documents now before) where
    abbrev and_all : List ℕ → List ℕ
    and_all [] = texts
    and_all (n ∷ ns) = n ∷ and_all ns

    all-marked : (ns : List ℕ) → AllOf (λ n. IsSettable n now) ns → Carried f taken (and_all ns) lists scope documents now before
    all-marked [] h = carried
    all-marked (n ∷ ns) h = mark-one (and_all ns) (n ∷ and_all ns) n (λ k. refl) h.0 (all-marked ns h.1)

    has-all : (k : ℕ) (ns : List ℕ) → has k (and_all ns) ≡ (has k ns || has k texts)
    has-all k [] = refl
    has-all k (n ∷ ns) = ap (λ b. (k == n) || b) (has-all k ns) ∙ by (k == n)
      where
        by : (b : Bool) → (b || (has k ns || has k texts)) ≡ ((b || has k ns) || has k texts)
        by true = refl
        by false = refl

    -- as a list behind the marks that there were
    pub marked-carried : (ns : List ℕ) → AllOf (λ n. IsSettable n now) ns → Carried f taken (texts ++ ns) lists scope documents now before
    marked-carried [] h = subst (λ l. Carried f taken l lists scope documents now before) (sym (append-none texts)) carried
    marked-carried (n ∷ ns) h = mark-one (and_all (n ∷ ns)) (texts ++ n ∷ ns) n marks h.0 (all-marked (n ∷ ns) h)
      where
        marks : MarksMore (and_all (n ∷ ns)) n (texts ++ n ∷ ns)
        marks k = has-append k texts (n ∷ ns) ∙ turn (has k texts) (k == n) (has k ns) ∙ ap (λ b. (k == n) || ((k == n) || b)) (sym (has-all k ns))
          where
            turn : (a b c : Bool) → (a || (b || c)) ≡ (b || (b || (c || a)))
            turn a true c = all a
              where
                all : (a : Bool) → (a || true) ≡ true
                all true = refl
                all false = refl
            turn true false true = refl
            turn true false false = refl
            turn false false true = refl
            turn false false false = refl

-- A text that is set carries the whole on.
use Rattle.std.proofs.Common.{◌≡◌, ℕ, ◌==◌, Bool, true, false, not, cond, ◌&&◌, ◌||◌, List, [], ◌∷◌, ◌++◌, map, nat_lt, Some, refl, sym, ap, ◌∙◌, subst, inl, inr, arith}
use Rattle.std.specs.Prelude.{◌⊎◌, ◌^◌}
use Rattle.std.specs.List.{list_any}
use Rattle.std.proofs.lemmas.Bool.{eqb-true}
use Rattle.std.proofs.lemmas.Bool.Decides.{nat_tests}
use Rattle.xf_def_forest.specs.declared.content.Node.{Node}
use Rattle.xf_def_forest.specs.Forest.{Forest, is_text, is_element, has_number, node_at, tree_of}
use Rattle.xf_def_forest.specs.Visit.{Visit, visits, has, is_first}
use Rattle.xf_def_forest.specs.Shape.{erased, has_elements}
use Rattle.xf_def_forest.specs.Changes.{in_instances, in_detached}
use Rattle.xf_def_forest.specs.Same.{renumbered_visit}
use Rattle.xf_def_forest.specs.Settle.{with_numbered_text, has_text}
use Rattle.xf_def_forest.specs.WellFormed.{HasTrees}
use Rattle.xf_def_forest.proofs.BackLaws.{or-false}
use Rattle.xf_def_forest.proofs.OrderLaws.{seen-has}
use Rattle.xf_def_xpath.specs.Given.{Document, document_of}
use Rattle.xf_def_xpath.specs.Asked.{found, parent_in, list_around}
use Rattle.xf_def_xpath.specs.Agree.{numbers_of, untexted}
use Rattle.xf_def_xpath.proofs.VisitFacts.{no, some-same, present, found-in, found-out}
use Rattle.xf_def_model.specs.Rules.{Scope}
use Rattle.xf_law_recalculation.specs.Agree.Settles.{IsSolid}
use Rattle.xf_law_recalculation.specs.Marks.Marks.{IsInBoth, SameNodes}
use Rattle.xf_law_recalculation.specs.Marks.Instances.{standing, SameInstances}
use Rattle.xf_law_recalculation.specs.Edit.InstanceEdits.{AreTextNumbers, KeepsBeside}
use Rattle.xf_law_recalculation.proofs.MarksLemmas.Behind.{erased-apart, numbers-erased}
use Rattle.xf_law_recalculation.proofs.EditLemmas.EditLaws.{same_at_first, more-marked}
use Rattle.xf_law_recalculation.proofs.EditLemmas.FrontEdits.{inside-tree, text_set_in_instances}
use Rattle.xf_law_recalculation.proofs.EditLemmas.ElsewhereLaws.{text_elsewhere}
use Rattle.xf_law_recalculation.proofs.MarksLemmas.Standing.{visits-parts, number-from}
use Rattle.xf_law_recalculation.proofs.MarksLemmas.TextLists.{standing-at}
use Rattle.xf_law_recalculation.proofs.EditLemmas.TextAgain.{text_again}
use Rattle.xf_law_recalculation.specs.Change.Carried.{set_aside, Carried, Takes, Follows}
use Rattle.xf_law_recalculation.specs.Change.Steps.{TextCarried, AgainCarried, SettledCarried}
use Rattle.xf_law_recalculation.proofs.ChangeLemmas.Carry.{standing-apart, before-apart, front-absent, differ-of, one-mark, whole_carried}
use Rattle.xf_law_recalculation.proofs.ChangeLemmas.OthersCarry.{elsewhere_carried}
use Rattle.xf_law_recalculation.proofs.ChangeLemmas.Fixed.{one-after, erased-through, untexted-through, node-there, number-fixed, visit-fixed, found-kept}

-- ---- a number that is not taken

pub not-taken : (f : ℕ → ℕ) (taken : ℕ → Bool) (texts lists : List ℕ) (scope : Scope) (documents : List Document) (forest before : Forest) (number : ℕ) →
    Carried f taken texts lists scope documents forest before → taken number ≡ false → nat_lt number (2 ^ 127) ≡ true → has number (numbers_of (map (renumbered_visit f) (standing before))) ≡ false
not-taken f taken texts lists scope documents forest before number carried free small = differ-of (has number (numbers_of (map (renumbered_visit f) (standing before)))) (λ h.
    let m = number-from f carried.same.renumbers number (standing before) h in
    elim (carried.was m.0 m.2) [
      | inl e ↦ sym e ∙ ap taken (sym m.1) ∙ free
      | inr e ↦ too-great m.0 (sym (ap (λ k. nat_lt k (2 ^ 127)) (m.1 ∙ e)) ∙ small)
    ])
  where
    too-great : (k : ℕ) → nat_lt (set_aside k) (2 ^ 127) ≡ true → true ≡ false
    too-great k h = grind (arith, nat_tests, h)

pub not-standing : (f : ℕ → ℕ) (taken : ℕ → Bool) (texts lists : List ℕ) (scope : Scope) (documents : List Document) (forest before : Forest) (number : ℕ) →
    Carried f taken texts lists scope documents forest before → taken number ≡ false → has_number number forest.nodes ≡ false
not-standing f taken texts lists scope documents forest before number carried free = differ-of (has_number number forest.nodes) (λ h. sym (carried.nodes number h) ∙ free)

-- ---- a text that is set

pub text_carried : TextCarried
text_carried f taken more_taken texts lists more scope later documents number n next text forest before marks trees trees_after able stands free small takes docs carried = record {
  same = whole_carried f texts lists more lists (n ∷ []) [] scope later documents forest after before trees trees_after (λ k h. h) carried.same docs since
      (text_set_in_instances texts lists more number n next text forest (map (renumbered_visit f) (standing before)) marks trees trees_after able stands
      (before-apart f texts lists scope documents forest before carried.same) (not-taken f taken texts lists scope documents forest before number carried free small) carried.same.nodes);
  nodes = takes.nodes;
  was = λ k h. elim (carried.was k h) [ inl e ↦ inl (takes.keeps (f k) e) | inr e ↦ inr e ];
  less = takes.less;
  few = takes.few;
  few_before = carried.few_before;
  solid = carried.solid;
}
  where
    after : Forest
    after = record { nodes = with_numbered_text number n text forest.nodes; next = next }

    since : SameNodes (n ∷ []) [] (standing after) (standing forest)
    since = text_set_in_instances [] [] (n ∷ []) number n next text forest (standing forest) (one-mark n) trees trees_after able stands (standing-apart forest trees)
        (front-absent number forest.nodes (not-standing f taken texts lists scope documents forest before number carried free)) (same_at_first (standing forest))

-- ---- a settled text

any-front : (p : Visit → Bool) (xs ys : List Visit) → list_any p (xs ++ ys) ≡ false → list_any p xs ≡ false
any-front p [] ys h = refl
any-front p (x ∷ xs) ys h =
    let parts = or-false (p x) (list_any p (xs ++ ys)) h in
    ap (λ b. b || list_any p xs) parts.0 ∙ any-front p xs ys parts.1

pub settled_carried : SettledCarried
settled_carried f taken more_taken texts lists more scope documents number n text forest before marks trees trees_after able stands free small takes docs carried =
    by (has_text n text forest.nodes) trees_after takes docs
  where
    after : Bool → Forest
    after b = record { nodes = cond b forest.nodes (with_numbered_text number n text forest.nodes); next = forest.next }

    childless : has_elements (standing forest) n ≡ false
    childless = any-front (λ y. is_element y.content && is_first n y.above) (standing forest) (visits (in_detached forest.nodes)) (ap (λ l. has_elements l n) (sym (visits-parts forest.nodes)) ∙ able.childless)

    by : (b : Bool) → HasTrees (after b) → Takes taken more_taken (after b) → Follows lists scope scope (after b) → Carried f more_taken more lists scope documents (after b) before
    by true t k d = record {
      same = record {
        renumbers = carried.same.renumbers;
        trees = carried.same.trees;
        hung = carried.same.hung;
        below = carried.same.below;
        nodes = more-marked texts lists more n (standing forest) (map (renumbered_visit f) (standing before)) marks (standing-apart forest trees)
            (before-apart f texts lists scope documents forest before carried.same) childless carried.same.nodes;
        same = carried.same.same;
        documents_stand = carried.same.documents_stand;
        absent = carried.same.absent;
      };
      nodes = k.nodes;
      was = λ m h. elim (carried.was m h) [ inl e ↦ inl (k.keeps (f m) e) | inr e ↦ inr e ];
      less = k.less;
      few = k.few;
      few_before = carried.few_before;
      solid = carried.solid;
    }
    by false t k d = text_carried f taken more_taken texts lists more scope scope documents number n forest.next text forest before marks trees t able stands free small k d carried

-- ---- a text that is set to what stood there

-- in a detached tree it changes nothing that is told
pub again_carried : AgainCarried
again_carried f taken more_taken texts lists scope documents number n next text forest before trees trees_after able there free number_taken solid solid_lists takes docs carried =
    by (has_number n (in_instances forest.nodes)) refl
  where
    after : Forest
    after = record { nodes = with_numbered_text number n text forest.nodes; next = next }

    P : List Visit
    P = standing forest

    F : List Visit
    F = map (renumbered_visit f) (standing before)

    unused : has_number number forest.nodes ≡ false
    unused = not-standing f taken texts lists scope documents forest before number carried free

    r : (t : ℕ → ℕ) × AreTextNumbers number forest.nodes t × KeepsBeside number n forest.nodes t × SameNodes texts lists (standing after) (map (renumbered_visit t) F)
    r = text_again texts lists number n next text forest F trees able there unused solid solid_lists carried.same.nodes

    s : ℕ → ℕ
    s = r.0

    since : (t : ℕ → ℕ) × AreTextNumbers number forest.nodes t × KeepsBeside number n forest.nodes t × SameNodes [] [] (standing after) (map (renumbered_visit t) P)
    since = text_again [] [] number n next text forest P trees able there unused (λ k h. no h) (λ k h. no h) (same_at_first P)

    other : (k : ℕ) → has_number k forest.nodes ≡ true → (k == number) ≡ false
    other k h = differ-of (k == number) (λ i. sym h ∙ ap (λ m. has_number m forest.nodes) (eqb-true k number i) ∙ unused)

    aside-stays : (k : ℕ) → s (set_aside k) ≡ set_aside k
    aside-stays k = r.1.solid (set_aside k) not_number (λ z i. no (too-great (taken-less (carried.nodes (set_aside k) (node-there (set_aside k) forest.nodes z i)))))
      where
        taken-less : taken (set_aside k) ≡ true → nat_lt (set_aside k) (2 ^ 127) ≡ true
        taken-less h = let l = carried.less (set_aside k) h in let m = carried.few in grind (arith, nat_tests, l, m)

        too-great : nat_lt (set_aside k) (2 ^ 127) ≡ true → false ≡ true
        too-great h = grind (arith, nat_tests, h)

        not_number : (set_aside k == number) ≡ false
        not_number = let l = takes.less number number_taken in let m = takes.few in grind (arith, nat_tests, l, m)

    was : (k : ℕ) → has k (numbers_of (standing before)) ≡ true → (more_taken (s (f k)) ≡ true) ⊎ (s (f k) ≡ set_aside k)
    was k h = elim (carried.was k h) [
      | inl e ↦ inl (elim (r.1.numbers (f k)) [
        | inl i ↦ ap more_taken i ∙ takes.keeps (f k) e
        | inr i ↦ elim i [ inl j ↦ ap more_taken j ∙ number_taken | inr j ↦ takes.keeps (s (f k)) (carried.nodes (s (f k)) j) ]
      ])
      | inr e ↦ inr (ap s e ∙ aside-stays k)
    ]

    -- a number that a node of before has still is none of a text in the node
    fixed : has_number n (in_instances forest.nodes) ≡ true → (k : ℕ) → IsSolid (standing before) k → f k ≡ k → s k ≡ k
    fixed in_it k h e = at (has_number k (tree_of n forest.nodes)) refl
      where
        is_old : (found k (map erased F) ≡ Some (renumbered_visit f h.0)) × (not (is_text h.0.content) ≡ true)
        is_old = found-out (λ y. not (is_text y.content)) k (map erased F) (renumbered_visit f h.0) (erased-apart F (before-apart f texts lists scope documents forest before carried.same))
            (ap (found k) (untexted-through f (standing before)) ∙ found-kept f carried.same.renumbers k h.0 (untexted (map erased (standing before))) e h.1)

        small : nat_lt number (2 ^ 127) ≡ true
        small = let l = takes.less number number_taken in let m = takes.few in grind (arith, nat_tests, l, m)

        other_number : (k == number) ≡ false
        other_number = differ-of (k == number) (λ i.
            sym (ap (has k) (sym (numbers-erased F)) ∙ present k (map erased F) (renumbered_visit f h.0) is_old.0)
            ∙ ap (λ m. has m (numbers_of F)) (eqb-true k number i) ∙ not-taken f taken texts lists scope documents forest before number carried free small)

        at : (b : Bool) → has_number k (tree_of n forest.nodes) ≡ b → s k ≡ k
        at false j = r.2 k other_number j
        at true j =
            let v = standing-at k (map erased P) (ap (has k) (numbers-erased P) ∙ seen-has k [] (in_instances forest.nodes) ∙ inside-tree n k forest.nodes in_it j) in
            let is : v.0 ≡ renumbered_visit f h.0 = carried.same.nodes.stay k v.0 (renumbered_visit f h.0) v.1 is_old.0 in
            number-fixed number forest s trees unused r.1 k v.0
            (found-in (λ y. not (is_text y.content)) k (map erased P) v.0 (erased-apart P (standing-apart forest trees)) v.1 (ap (λ (w : Visit). not (is_text w.content)) is ∙ is_old.1))

    still : has_number n (in_instances forest.nodes) ≡ true → (k : ℕ) → IsSolid (standing before) k → (s (f k) ≡ k) ⊎ (s (f k) ≡ set_aside k)
    still in_it k h = elim (carried.solid k h) [ inl e ↦ inl (ap s e ∙ fixed in_it k h e) | inr e ↦ inr (ap s e ∙ aside-stays k) ]

    below : (k : ℕ) → has k (numbers_of (standing before)) ≡ true → nat_lt (s (f k)) (2 ^ 128) ≡ true
    below k h = elim (was k h) [
      | inl e ↦ let l = takes.less (s (f k)) e in let m = takes.few in grind (arith, nat_tests, l, m)
      | inr e ↦ ap (λ m. nat_lt m (2 ^ 128)) e ∙ (let l = carried.few_before k h in grind (arith, nat_tests, l))
    ]

    document : (id : List ℕ) (d : ℕ) → document_of scope.model id scope.given.documents ≡ Some d → ((m : ℕ) → has m (list_around (map erased (standing after)) d) ≡ true → has m lists ≡ false) →
        (m : ℕ) × (document_of scope.model id documents ≡ Some m) × (s (f m) ≡ d) × IsInBoth (standing after) (map (renumbered_visit (λ k. s (f k))) (standing before)) d
    document id d e unmarked =
        let one = carried.same.documents_stand id d e in
        let two = docs.stand id d e in
        let out : found d (map erased P) ≡ Some one.0 = (found-out (λ y. not (is_text y.content)) d (map erased P) one.0 (erased-apart P (standing-apart forest trees)) one.1).0 in
        let out_after : found d (map erased (standing after)) ≡ Some two.0 = (found-out (λ y. not (is_text y.content)) d (map erased (standing after)) two.0 (erased-apart (standing after) (standing-apart after trees_after)) two.1).0 in
        let moved : found d (map erased (map (renumbered_visit since.0) P)) ≡ Some (renumbered_visit since.0 one.0) =
        ap (found d) (erased-through since.0 P) ∙ found-kept since.0 since.1.renumbers d one.0 (map erased P) (number-fixed number forest since.0 trees unused since.1 d one.0 one.1) out in
        let is : two.0 ≡ one.0 = since.3.stay d two.0 (renumbered_visit since.0 one.0) out_after moved ∙ visit-fixed number forest since.0 trees unused since.1 d one.0 one.1 in
        let around : list_around (map erased P) d ≡ list_around (map erased (standing after)) d = ap parent_in (out ∙ ap Some (sym is) ∙ sym out_after) in
        let q = carried.same.same id d e (λ m h. unmarked m (ap (has m) (sym around) ∙ h)) in
        let stays = number-fixed number forest s trees unused r.1 d one.0 one.1 in
        let same_visit : q.3.0 ≡ one.0 = some-same (sym q.3.1 ∙ one.1) in (
          q.0,
          q.1,
          ap s q.2 ∙ stays,
          (
            two.0,
            two.1,
            ap (λ l. found d (untexted (map erased l))) (sym (one-after s f (standing before)))
                ∙ ap (found d) (untexted-through s F)
                ∙ found-kept s r.1.renumbers d q.3.0 (untexted (map erased F)) stays q.3.2
                ∙ ap Some (ap (renumbered_visit s) same_visit ∙ visit-fixed number forest s trees unused r.1 d one.0 one.1 ∙ sym is),
          ),
        )

    whole : SameInstances (λ k. s (f k)) texts lists scope documents after before
    whole = record {
      renumbers = λ a b. r.1.renumbers (f a) (f b) ∙ carried.same.renumbers a b;
      trees = carried.same.trees;
      hung = carried.same.hung;
      below = below;
      nodes = subst (λ l. SameNodes texts lists (standing after) l) (one-after s f (standing before)) r.3;
      same = document;
      documents_stand = docs.stand;
      absent = carried.same.absent;
    }

    by : (b : Bool) → has_number n (in_instances forest.nodes) ≡ b → (t : ℕ → ℕ) × Carried (λ k. t (f k)) more_taken texts lists scope documents after before
        × ((k : ℕ) (x : Node) → node_at (f k) forest.nodes ≡ Some x → is_text x.content ≡ false → t (f k) ≡ f k)
    by true e = (
      s,
      record { same = whole; nodes = takes.nodes; was = was; less = takes.less; few = takes.few; few_before = carried.few_before; solid = still e },
      λ k x e t. r.1.solid (f k) (other (f k) (node-there (f k) forest.nodes x e)) (λ z i. ap (λ (w : Node). is_text w.content) (some-same (sym i ∙ e)) ∙ t),
    )
    by false e = (λ k. k, elsewhere_carried f taken more_taken texts lists scope documents forest after before (text_elsewhere number n text forest.nodes e) takes carried, λ k x i t. refl)

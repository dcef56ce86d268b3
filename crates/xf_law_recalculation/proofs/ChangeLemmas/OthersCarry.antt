-- What the instances do not see carries the whole on, and so does going back.
use Rattle.std.proofs.Common.{◌≡◌, ℕ, Bool, true, false, cond, List, [], ◌∷◌, ◌++◌, map, nat_lt, Some, refl, sym, ap, ◌∙◌, subst, inl, inr, arith}
use Rattle.std.proofs.lemmas.Bool.Decides.{nat_tests}
use Rattle.xf_def_forest.specs.declared.content.Node.{Node}
use Rattle.xf_def_forest.specs.Forest.{Forest, has_number}
use Rattle.xf_def_forest.specs.Visit.{Visit, visits, has}
use Rattle.xf_def_forest.specs.Shape.{erased}
use Rattle.xf_def_forest.specs.Changes.{is_detached_top, in_instances, detached, placed}
use Rattle.xf_def_forest.specs.Same.{renumbered_visit}
use Rattle.xf_def_forest.specs.Settle.{reserved, with_numbered_text}
use Rattle.xf_def_forest.specs.Texts.{Keeping}
use Rattle.xf_def_forest.proofs.OrderLaws.{seen-has}
use Rattle.xf_law_forests.proofs.RollbackLemmas.Laws.{rolls_back}
use Rattle.xf_def_xpath.specs.Given.{Document, document_of}
use Rattle.xf_def_xpath.specs.Asked.{list_around}
use Rattle.xf_def_xpath.specs.Agree.{numbers_of}
use Rattle.xf_def_model.specs.Rules.{Scope}
use Rattle.xf_law_recalculation.specs.Agree.Settles.{IsSolid}
use Rattle.xf_law_recalculation.specs.Marks.Marks.{IsInBoth, SameNodes}
use Rattle.xf_law_recalculation.specs.Marks.Instances.{standing, SameInstances}
use Rattle.xf_law_recalculation.proofs.MarksLemmas.BindInstances.{front-number}
use Rattle.xf_law_recalculation.proofs.EditLemmas.EditLaws.{same_at_first}
use Rattle.xf_law_recalculation.proofs.EditLemmas.ElsewhereLaws.{text_elsewhere, tree_behind, detached_elsewhere, attached_elsewhere}
use Rattle.xf_law_recalculation.specs.Change.Carried.{under, Carried}
use Rattle.xf_law_recalculation.specs.Change.Steps.{FirstCarried}
use Rattle.xf_law_recalculation.specs.Change.Elsewhere.{ElsewhereCarried, TextElsewhereCarried, BehindCarried, DetachedElsewhereCarried, AttachedElsewhereCarried, ReservedCarried, GivenUpCarried, DroppedCarried, RolledBackCarried}
use Rattle.xf_law_recalculation.proofs.ChangeLemmas.Carry.{less-number}

-- ---- at first

all-kept : (ns : List ℕ) → map (λ k. k) ns ≡ ns
all-kept [] = refl
all-kept (n ∷ ns) = ap (λ l. n ∷ l) (all-kept ns)

pub visits-kept : (xs : List Visit) → map (renumbered_visit (λ k. k)) xs ≡ xs
visits-kept [] = refl
visits-kept (x ∷ xs) = ap (λ l. record { number = x.number; above = l; content = x.content } ∷ map (renumbered_visit (λ k. k)) xs) (all-kept x.above) ∙ ap (λ l. x ∷ l) (visits-kept xs)

pub first_carried : FirstCarried
first_carried scope forest trees hung few docs = record {
  same = record {
    renumbers = λ k m. refl;
    trees = trees;
    hung = hung;
    below = λ k h. let l = small k h in let m = few in grind (arith, nat_tests, l, m);
    nodes = subst (λ xs. SameNodes [] [] (standing forest) xs) (sym (visits-kept (standing forest))) (same_at_first (standing forest));
    same = λ id n e free. (n, e, refl, subst (λ xs. IsInBoth (standing forest) xs n) (sym (visits-kept (standing forest))) (let s = docs.stand id n e in (s.0, s.1, s.1)));
    documents_stand = docs.stand;
    absent = λ id e. e;
  };
  nodes = λ k h. less-number forest.next k forest.nodes trees.below h;
  was = λ k h. inl (small k h);
  less = λ k h. h;
  few = few;
  few_before = λ k h. let l = small k h in let m = few in grind (arith, nat_tests, l, m);
  solid = λ k h. inl refl;
}
  where
    small : (k : ℕ) → has k (numbers_of (standing forest)) ≡ true → nat_lt k forest.next ≡ true
    small k h = less-number forest.next k forest.nodes trees.below (there (has_number k forest.nodes) refl)
      where
        there : (b : Bool) → has_number k forest.nodes ≡ b → b ≡ true
        there true e = refl
        there false e = sym (front-number k forest.nodes e) ∙ sym (seen-has k [] (in_instances forest.nodes)) ∙ h

-- ---- the same instances

same-elsewhere : (f : ℕ → ℕ) (texts lists : List ℕ) (scope : Scope) (documents : List Document) (forest after before : Forest) → in_instances after.nodes ≡ in_instances forest.nodes →
    SameInstances f texts lists scope documents forest before → SameInstances f texts lists scope documents after before
same-elsewhere f texts lists scope documents forest after before is same = record {
  renumbers = same.renumbers;
  trees = same.trees;
  hung = same.hung;
  below = same.below;
  nodes = subst (λ l. SameNodes texts lists (visits l) F) (sym is) same.nodes;
  same = λ id n e. subst (λ l. ((m : ℕ) → has m (list_around (map erased (visits l)) n) ≡ true → has m lists ≡ false) →
      (m : ℕ) × (document_of scope.model id documents ≡ Some m) × (f m ≡ n) × IsInBoth (visits l) F n) (sym is) (same.same id n e);
  documents_stand = λ id n e. subst (λ l. IsSolid (visits l) n) (sym is) (same.documents_stand id n e);
  absent = same.absent;
}
  where
    F : List Visit
    F = map (renumbered_visit f) (standing before)

pub elsewhere_carried : ElsewhereCarried
elsewhere_carried f taken more_taken texts lists scope documents forest after before is takes carried = record {
  same = same-elsewhere f texts lists scope documents forest after before is carried.same;
  nodes = takes.nodes;
  was = λ k h. elim (carried.was k h) [ inl e ↦ inl (takes.keeps (f k) e) | inr e ↦ inr e ];
  less = takes.less;
  few = takes.few;
  few_before = carried.few_before;
  solid = carried.solid;
}

pub text_elsewhere_carried : TextElsewhereCarried
text_elsewhere_carried f taken more_taken texts lists scope documents number n next text forest before outside takes carried =
    elsewhere_carried f taken more_taken texts lists scope documents forest (record { nodes = with_numbered_text number n text forest.nodes; next = next }) before (text_elsewhere number n text forest.nodes outside) takes carried

pub behind_carried : BehindCarried
behind_carried f taken more_taken texts lists scope documents top below next forest before is takes carried =
    elsewhere_carried f taken more_taken texts lists scope documents forest (record { nodes = forest.nodes ++ top ∷ below; next = next }) before (tree_behind top below forest.nodes is) takes carried

pub detached_elsewhere_carried : DetachedElsewhereCarried
detached_elsewhere_carried f taken more_taken texts lists scope documents n forest before trees live outside ahead takes carried =
    elsewhere_carried f taken more_taken texts lists scope documents forest (detached n forest) before (detached_elsewhere n forest trees live outside ahead) takes carried

pub attached_elsewhere_carried : AttachedElsewhereCarried
attached_elsewhere_carried f taken more_taken texts lists scope documents n p place forest before outside elsewhere ahead takes carried =
    elsewhere_carried f taken more_taken texts lists scope documents forest (placed n p place forest) before (attached_elsewhere n p place forest outside elsewhere ahead) takes carried

-- ---- numbers

pub reserved_carried : ReservedCarried
reserved_carried f taken texts lists scope documents count forest before few carried =
    elsewhere_carried f taken taken texts lists scope documents forest (reserved count forest) before refl (record {
      keeps = λ k h. h;
      nodes = carried.nodes;
      less = λ k h. let l = carried.less k h in grind (arith, nat_tests, l);
      few = few;
    }) carried

pub given_up_carried : GivenUpCarried
given_up_carried f taken texts lists scope documents forest before trees carried =
    elsewhere_carried f taken (under forest.next) texts lists scope documents forest forest before refl (record {
      keeps = carried.less;
      nodes = λ k h. less-number forest.next k forest.nodes trees.below h;
      less = λ k h. h;
      few = carried.few;
    }) carried

front-twice : (nodes : List Node) → in_instances (in_instances nodes) ≡ in_instances nodes
front-twice [] = refl
front-twice (x ∷ xs) = by (is_detached_top x) refl (front-twice xs)
  where
    by : (b : Bool) → is_detached_top x ≡ b → in_instances (in_instances xs) ≡ in_instances xs → in_instances (cond b [] (x ∷ in_instances xs)) ≡ cond b [] (x ∷ in_instances xs)
    by true e h = refl
    by false e h = ap (λ b. cond b [] (x ∷ in_instances (in_instances xs))) e ∙ ap (λ l. x ∷ l) h

pub dropped_carried : DroppedCarried
dropped_carried f taken texts lists scope documents k before carried =
    elsewhere_carried f taken taken texts lists scope documents k.forest (record k.forest { nodes = in_instances k.forest.nodes }) before (front-twice k.forest.nodes) (record {
      keeps = λ m h. h;
      nodes = λ m h. carried.nodes m (there m (has_number m k.forest.nodes) refl h);
      less = carried.less;
      few = carried.few;
    }) carried
  where
    there : (m : ℕ) (b : Bool) → has_number m k.forest.nodes ≡ b → has_number m (in_instances k.forest.nodes) ≡ true → b ≡ true
    there m true e h = refl
    there m false e h = sym (front-number m k.forest.nodes e) ∙ h

-- ---- back

pub rolled_back_carried : RolledBackCarried
rolled_back_carried f taken texts lists scope documents start k l before made trees carried =
    subst (λ (m : Keeping). Carried f taken texts lists scope documents m.forest before) (sym (rolls_back made trees)) carried

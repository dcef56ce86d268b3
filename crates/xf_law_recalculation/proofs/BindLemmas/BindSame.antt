-- A bind sets what it set, entry for entry: none of these lies on a text or on a node that moved, and all other nodes have their numbers.
use Rattle.std.proofs.Common.{◌≡◌, ℕ, Bool, true, false, List, [], ◌∷◌, map, nat_lt, Option, Some, None, option_map, refl, sym, ap, ◌∙◌, subst, inl, inr, arith}
use Rattle.std.specs.Prelude.{◌^◌}
use Rattle.std.proofs.lemmas.Bool.Decides.{nat_tests}
use Rattle.xf_def_forest.specs.Forest.{Forest, has_number}
use Rattle.xf_def_forest.specs.Visit.{Visit, visits, has}
use Rattle.xf_def_forest.specs.Shape.{erased, shape}
use Rattle.xf_def_forest.specs.Changes.{in_instances}
use Rattle.xf_def_forest.specs.Same.{IsRenumbering, renumbered_visit}
use Rattle.xf_def_forest.proofs.OrderLaws.{seen-has}
use Rattle.xf_def_xpath.specs.Asked.{found}
use Rattle.xf_def_xpath.specs.Agree.{numbers_of, untexted}
use Rattle.xf_def_xpath.specs.Given.{Document}
use Rattle.xf_def_xpath.proofs.VisitFacts.{no, none-some, present}
use Rattle.xf_def_xpath.proofs.UntextedLaws.{solid-found}
use Rattle.xf_def_xpath.proofs.ForestVisits.{forest-visits}
use Rattle.xf_def_xpath.proofs.RenumberLaws.{found-renumbered}
use Rattle.xf_def_model.specs.Rules.{Scope}
use Rattle.xf_def_model.specs.Applied.{Entry, entries_by}
use Rattle.xf_def_model.specs.Pertinent.{AllOf}
use Rattle.xf_def_model.specs.Same.{renumbered_entry}
use Rattle.xf_def_model.proofs.EachLemmas.{each_then, each_both}
use Rattle.xf_law_recalculation.specs.Agree.Settles.{IsSolid}
use Rattle.xf_law_recalculation.specs.Marks.Marks.{IsInBoth}
use Rattle.xf_law_recalculation.specs.Marks.Binds.{instances_of, HasInstances}
use Rattle.xf_law_recalculation.specs.Marks.Instances.{standing}
use Rattle.xf_law_recalculation.proofs.MarksLemmas.Behind.{numbers-erased}
use Rattle.xf_law_recalculation.proofs.MarksLemmas.BindInstances.{front-number, front-trees}
use Rattle.xf_law_recalculation.specs.Change.Carried.{set_aside, Carried}
use Rattle.xf_law_recalculation.proofs.ChangeLemmas.Fixed.{untexted-through}
use Rattle.xf_law_recalculation.specs.Bind.Since.{DocumentKept, AnyBindHeldSame}
use Rattle.xf_law_recalculation.proofs.BindLemmas.BindHeld.{h, as-carried, entries-held}
use Rattle.xf_law_recalculation.proofs.BindLemmas.LooseInstances.{any_bind_of_instances}
use Rattle.xf_law_recalculation.proofs.BindLemmas.SolidEntries.{entries-solid}

unchanged : (g : ℕ → ℕ) (es : List Entry) → AllOf (λ e. g e.node ≡ e.node) es → map (renumbered_entry g) es ≡ es
unchanged g [] same = refl
unchanged g (e ∷ es) same = ap (λ n. record e { node = n } ∷ map (renumbered_entry g) es) same.0 ∙ ap (λ l. e ∷ l) (unchanged g es same.1)

each-before : (Q : Entry → Type 0) (g : Entry → Entry) (es : List Entry) → AllOf Q (map g es) → AllOf (λ e. Q (g e)) es
each-before Q g [] q = tt
each-before Q g (e ∷ es) q = (q.0, each-before Q g es q.1)

-- no node of now has a number that was set aside
module _ (f : ℕ → ℕ) (taken : ℕ → Bool) (texts lists : List ℕ) (scope : Scope) (documents : List Document) (now before : Forest) (instances : HasInstances scope now)
    (carried : Carried f taken texts lists scope documents now before) where
  too-great : (k : ℕ) → nat_lt (set_aside k) (2 ^ 127) ≡ false
  too-great k = grind (arith, nat_tests)

  taken-small : (k : ℕ) → taken k ≡ true → nat_lt k (2 ^ 127) ≡ true
  taken-small k i = let l = carried.less k i in let m = carried.few in grind (arith, nat_tests, l, m)

  stands-small : (k : ℕ) → IsSolid (standing now) k → nat_lt k (2 ^ 127) ≡ true
  stands-small k s = taken-small k (carried.nodes k (there (has_number k now.nodes) refl))
    where
      in_front : has k (numbers_of (standing now)) ≡ true
      in_front =
          ap (has k) (sym (numbers-erased (standing now)))
          ∙ present k (map erased (standing now)) s.0 (solid-found (map erased (standing now)) (forest-visits (instances_of now) (front-trees now instances.trees)) k s.0 s.1).0

      there : (b : Bool) → has_number k now.nodes ≡ b → b ≡ true
      there true i = refl
      there false i = sym (front-number k now.nodes i) ∙ sym (seen-has k [] (in_instances now.nodes)) ∙ in_front

  pub still-numbered : (k : ℕ) → IsSolid (standing before) k → IsSolid (standing now) (f k) → f k ≡ k
  still-numbered k s t = elim (carried.solid k s) [ inl e ↦ e | inr e ↦ no (sym (too-great k) ∙ ap (λ m. nat_lt m (2 ^ 127)) (sym e) ∙ stands-small (f k) t) ]

-- ---- a document element

visit-of : (f : ℕ → ℕ) (o : Option Visit) (x : Visit) → option_map (renumbered_visit f) o ≡ Some x → (y : Visit) × (o ≡ Some y)
visit-of f None x e = none-some e
visit-of f (Some y) x e = (y, refl)

-- what stands in both with a number of before stood
stood : (f : ℕ → ℕ) → IsRenumbering f → (now P0 : List Visit) (m n : ℕ) → f m ≡ n → IsInBoth now (map (renumbered_visit f) P0) n → IsSolid P0 m
stood f same now P0 m n e both =
    visit-of f (found m (untexted (map erased P0))) both.0
    (sym (found-renumbered f same m (untexted (map erased P0)))
    ∙ ap (found (f m)) (sym (untexted-through f P0))
    ∙ ap (λ k. found k (untexted (map erased (map (renumbered_visit f) P0)))) e
    ∙ both.2)

pub document_kept : DocumentKept
document_kept f taken texts lists scope documents now before id n instances carried docs e =
    let r = carried.same.same id n e (λ m h. docs.around id n m e h) in
    let old : IsSolid (standing before) r.0 = stood f carried.same.renumbers (standing now) (standing before) r.0 n r.2 r.3 in
    let here : IsSolid (standing now) (f r.0) = (r.3.0, ap (λ k. found k (untexted (map erased (standing now)))) r.2 ∙ r.3.1) in
    let is : r.0 ≡ n = sym (still-numbered f taken texts lists scope documents now before instances carried r.0 old here) ∙ r.2 in
    (r.1 ∙ ap Some is, subst (IsSolid (standing before)) is old, ap f (sym is) ∙ r.2)

-- ---- the entries

pub any_bind_held_same : AnyBindHeldSame
any_bind_held_same f taken texts lists scope documents now before bind r around own instances instances_before carried docs kept truths chain set covered_around covered unmarked =
    let made = entries_by scope (shape (visits before.nodes)) bind r in
    let g : ℕ → ℕ = h f taken texts lists scope documents now before instances instances_before carried docs kept in
    let held = entries-held f taken texts lists scope documents now before instances instances_before carried docs kept bind r around own truths chain set covered_around covered unmarked in
    let as_before : AllOf (λ e. IsSolid (standing before) e.node) made =
    subst (AllOf (λ e. IsSolid (standing before) e.node)) (sym (any_bind_of_instances scope before bind r around own instances_before truths chain set covered_around covered)) (entries-solid scope before instances_before bind r) in
    let as_now : AllOf (λ e. IsSolid (standing now) e.node) (map (renumbered_entry g) made) =
    subst (AllOf (λ e. IsSolid (standing now) e.node)) (sym (any_bind_of_instances scope now bind r around own instances truths chain set covered_around covered) ∙ held) (entries-solid scope now instances bind r) in
    held
    ∙ unchanged g made (each_then (λ e. IsSolid (standing before) e.node × IsSolid (standing now) (g e.node)) (λ e. g e.node ≡ e.node)
    (λ e s. let as_carried = as-carried f taken texts lists scope documents now before instances instances_before carried docs kept e.node s.0 in
    as_carried ∙ still-numbered f taken texts lists scope documents now before instances carried e.node s.0 (subst (IsSolid (standing now)) as_carried s.1)) made
    (each_both _ _ made as_before (each-before (λ e. IsSolid (standing now) e.node) (renumbered_entry g) made as_now)))

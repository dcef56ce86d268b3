-- A node whose parent is no root is no document element; so none is that a delete takes.
use Rattle.std.proofs.Common.{◌≡◌, ℕ, zero, suc, ◌+◌, ◌==◌, Bool, true, false, not, cond, ◌&&◌, ◌||◌, List, [], ◌∷◌, find, Option, Some, None, refl, sym, ap, ◌∙◌, subst, arith}
use Rattle.std.specs.Prelude.{◌≤◌, ℤ, slice_get, if◌then◌else◌}
use Rattle.std.proofs.lemmas.Bool.Decides.{nat_tests}
use Rattle.xf_def_forest.specs.declared.content.Content.{Content}
use Rattle.xf_def_forest.specs.declared.content.Content.TheVariants as content
use Rattle.xf_def_forest.specs.declared.content.Kind.TheVariants as kind
use Rattle.xf_def_forest.specs.Forest.{Forest, is_element, is_root, kind_at}
use Rattle.xf_def_forest.specs.Visit.{Visit, above_in, first_of, has, parent_of, visits}
use Rattle.xf_def_forest.specs.WellFormed.{HasTrees}
use Rattle.xf_law_forests.specs.Root.Roots.{IsNoRoot}
use Rattle.xf_law_forests.proofs.RollbackLemmas.Trees.{Trees, none, tree, times}
use Rattle.xf_law_forests.proofs.RollbackLemmas.TreeTexts.{times-split}
use Rattle.xf_law_forests.proofs.RollbackLemmas.TreeFacts.{is_at}
use Rattle.xf_law_forests.proofs.RollbackLemmas.TreeTops.{tops}
use Rattle.xf_law_forests.proofs.RollbackLemmas.TreeRanks.{tops-times}
use Rattle.xf_law_forests.proofs.RollbackLemmas.TreeVisits.{seen, visits-seen}
use Rattle.xf_law_forests.proofs.RollbackLemmas.KeepingTrees.{Stands, element-test}
use Rattle.xf_law_forests.proofs.RollbackLemmas.JoinSteps.{no-other}
use Rattle.xf_def_model.specs.declared.asked.DeleteAsked.{DeleteAsked}
use Rattle.xf_def_model.specs.Pertinent.{AllOf}
use Rattle.xf_def_model.specs.Places.{is_in}
use Rattle.xf_def_model.specs.Taken.{asked_of, is_apart, is_open, planned_delete, taken_from}
use Rattle.xf_def_xpath.specs.Binding.{as_list}
use Rattle.xf_law_invariants.proofs.PlannedLemmas.OutsideForests.{alone}
use Rattle.xf_law_invariants.proofs.PlannedLemmas.RootTrees.{document-by}
use Rattle.xf_law_invariants.proofs.PlannedLemmas.RootForests.{no-root-stands, once, standing-trees}
use Rattle.xf_law_invariants.proofs.PlannedLemmas.Planned.{kind-in, root-in}
use Rattle.xf_law_invariants.specs.Planned.Roots.{is_under_root}
use Rattle.xf_law_invariants.specs.Planned.Ready.{MayCut}

find-absent : (n : ℕ) (up : List ℕ) (t : Trees) (vs : List Visit) → times n t ≡ 0 → find (λ (x : Visit). x.number == n) (seen up t vs) ≡ find (λ (x : Visit). x.number == n) vs
find-absent n up none vs h = refl
find-absent n up (tree m c k r) vs h =
    let parts = times-split n m c k r h in
    rw parts.0 (find-absent n (m ∷ up) k (seen up r vs) parts.1 ∙ find-absent n up r vs parts.2)

absent-parent : (n : ℕ) (up : List ℕ) (t : Trees) (vs : List Visit) → times n t ≡ 0 → parent_of n (seen up t vs) ≡ parent_of n vs
absent-parent n up t vs h = ap (λ o. first_of (above_in o)) (find-absent n up t vs h)

-- a top has what stands above all
top-parent : (n : ℕ) (up : List ℕ) (t : Trees) (vs : List Visit) → tops n t ≡ true → times n t ≤ 1 → parent_of n (seen up t vs) ≡ first_of up
top-parent n up none vs h once_ = cc h
top-parent n up (tree m c k r) vs h once_ = by (m == n) refl h (top-parent n up r vs)
  where
    by : (b : Bool) → (m == n) ≡ b → (b || tops n r) ≡ true → (tops n r ≡ true → times n r ≤ 1 → parent_of n (seen up r vs) ≡ first_of up) → parent_of n (seen up (tree m c k r) vs) ≡ first_of up
    by true e g rest = rw e refl
    by false e g rest =
        let there = tops-times n r g in
        let z : 0 + (times n k + times n r) ≤ 1 = subst (λ b. cond b 1 0 + (times n k + times n r) ≤ 1) e once_ in
        rw e (absent-parent n (m ∷ up) k (seen up r vs) (omega (arith, z, there)) ∙ rest g (omega (arith, z)))

under-count : (n : ℕ) (t : Trees) → is_under_root n t ≡ true → 1 ≤ times n t
under-count n none h = cc h
under-count n (tree m c k r) h = by (is_root c) (tops n k) refl h (under-count n r)
  where
    by : (b d : Bool) → tops n k ≡ d → ((b && d) || is_under_root n r) ≡ true → (is_under_root n r ≡ true → 1 ≤ times n r) → 1 ≤ (if m == n then 1 else 0) + (times n k + times n r)
    by true true g i rest = let z = tops-times n k g in omega (arith, z)
    by true false g i rest = let z = rest i in omega (arith, z)
    by false d g i rest = let z = rest i in omega (arith, z)

-- what stands below a root has that for its parent
root-parent : (n : ℕ) (t : Trees) → is_under_root n t ≡ true → times n t ≤ 1 → (q : ℕ) × (parent_of n (seen [] t []) ≡ Some q) × (is_at is_root q t ≡ true)
root-parent n none h once_ = cc h
root-parent n (tree m c k r) h once_ = by (is_root c) refl (tops n k) refl h (root-parent n r)
  where
    self : (a : ℕ) → (a == a) ≡ true
    self a = grind (arith, nat_tests)

    left : (a b : Bool) → a ≡ true → (a || b) ≡ true
    left true b e = refl
    left false b e = cc e

    right : (a b : Bool) → b ≡ true → (a || b) ≡ true
    right true b e = refl
    right false b e = e

    split : (b : Bool) → (m == n) ≡ b → cond b 1 0 + (times n k + times n r) ≤ 1
    split b e = subst (λ d. cond d 1 0 + (times n k + times n r) ≤ 1) e once_

    Found : Type 0
    Found = (q : ℕ) × (parent_of n (seen [] (tree m c k r) []) ≡ Some q) × (is_at is_root q (tree m c k r) ≡ true)

    here_ : is_root c ≡ true → tops n k ≡ true → (b : Bool) → (m == n) ≡ b → Found
    here_ f g true e = let there = tops-times n k g in let z = split true e in let no : ⊥ = omega (arith, z, there) in absurd no
    here_ f g false e =
        let z = split false e in
        (m, rw e (top-parent n (m ∷ []) k (seen [] r []) g (omega (arith, z))), left ((m == m) && is_root c) (is_at is_root m k || is_at is_root m r) (rw (self m, f) refl))

    later_ : (is_under_root n r ≡ true → times n r ≤ 1 → (q : ℕ) × (parent_of n (seen [] r []) ≡ Some q) × (is_at is_root q r ≡ true)) → is_under_root n r ≡ true → (b : Bool) → (m == n) ≡ b → Found
    later_ rest g true e = let z = split true e in let there = under-count n r g in let no : ⊥ = omega (arith, z, there) in absurd no
    later_ rest g false e =
        let z = split false e in
        let there = under-count n r g in
        let x = rest g (omega (arith, z)) in
        (x.0, ap (λ b. first_of (above_in (cond b (Some (record { number = m; above = []; content = c })) (find (λ (y : Visit). y.number == n) (seen (m ∷ []) k (seen [] r [])))))) e ∙ absent-parent n (m ∷ []) k (seen [] r []) (omega (arith, z, there)) ∙ x.1, right ((m == x.0) && is_root c) (is_at is_root x.0 k || is_at is_root x.0 r) (right (is_at is_root x.0 k) (is_at is_root x.0 r) x.2))

    by : (b : Bool) → is_root c ≡ b → (d : Bool) → tops n k ≡ d → ((b && d) || is_under_root n r) ≡ true
        → (is_under_root n r ≡ true → times n r ≤ 1 → (q : ℕ) × (parent_of n (seen [] r []) ≡ Some q) × (is_at is_root q r ≡ true)) → Found
    by true f true g i rest = here_ f g (m == n) refl
    by true f false g i rest = later_ rest i (m == n) refl
    by false f d g i rest = later_ rest i (m == n) refl

module _ (forest : Forest) (h : HasTrees forest) where
  -- a node whose parent is no root
  pub inner-by : (n parent : ℕ) → IsNoRoot n forest → parent_of n (visits forest.nodes) ≡ Some parent → is_at is_root parent (standing-trees forest h).trees ≡ false → MayCut n forest
  inner-by n parent is p plain = record { kind = is; inner = document-by n forest.nodes s.trees s.nodes (off (is_under_root n s.trees) refl) }
    where
      s : Stands (alone forest)
      s = standing-trees forest h

      off : (b : Bool) → is_under_root n s.trees ≡ b → b ≡ false
      off false e = refl
      off true e =
          let one = once forest h n (no-root-stands n forest is) in
          let r = root-parent n s.trees e (omega (arith, one)) in
          let same : r.0 ≡ parent = cc (sym r.1 ∙ ap (parent_of n) (sym (visits-seen s.trees)) ∙ ap (λ l. parent_of n (visits l)) (sym s.nodes) ∙ p) in
          cc (sym r.2 ∙ ap (λ q. is_at is_root q s.trees) same ∙ plain)

  pub inner-below : (n parent : ℕ) → IsNoRoot n forest → parent_of n (visits forest.nodes) ≡ Some parent → kind_at parent forest.nodes ≡ Some kind.Element → MayCut n forest
  inner-below n parent is p above =
      let s = standing-trees forest h in
      let once_ = s.once parent in
      inner-by n parent is p (no-other is_root is_element plain parent s.trees (omega (arith, once_)) (kind-in forest h kind.Element is_element element-test parent above))
    where
      plain : (c : Content) → is_element c ≡ true → is_root c ≡ false
      plain content.Root e = cc e
      plain (content.Element name) e = refl
      plain (content.Attribute name text) e = cc e
      plain (content.Text text) e = cc e

  -- ---- a delete

  open-cut : (closed : List ℕ) (n : ℕ) (o : Option ℕ) → parent_of n (visits forest.nodes) ≡ o → IsNoRoot n forest → is_open (visits forest.nodes) closed o ≡ true → MayCut n forest
  open-cut closed n None e is g = cc g
  open-cut closed n (Some parent) e is g = inner-by n parent is e (sym (root-in forest h parent) ∙ no-root (is_in is_root (visits forest.nodes) parent) (not (has parent closed)) g)
    where
      no-root : (a b : Bool) → (not a && b) ≡ true → a ≡ false
      no-root true b i = cc i
      no-root false b i = refl

  taken-cut : (closed taken ns : List ℕ) → AllOf (λ n. IsNoRoot n forest) ns → AllOf (λ n. MayCut n forest) (taken_from (visits forest.nodes) closed taken ns)
  taken-cut closed taken [] a = tt
  taken-cut closed taken (n ∷ ns) a =
      by (is_open (visits forest.nodes) closed (parent_of n (visits forest.nodes))) refl (is_apart (visits forest.nodes) taken n) (taken-cut closed (n ∷ taken) ns a.1) (taken-cut closed taken ns a.1)
    where
      by : (b : Bool) → is_open (visits forest.nodes) closed (parent_of n (visits forest.nodes)) ≡ b → (d : Bool) → AllOf (λ m. MayCut m forest) (taken_from (visits forest.nodes) closed (n ∷ taken) ns)
          → AllOf (λ m. MayCut m forest) (taken_from (visits forest.nodes) closed taken ns)
          → AllOf (λ m. MayCut m forest) (if b && d then n ∷ taken_from (visits forest.nodes) closed (n ∷ taken) ns else taken_from (visits forest.nodes) closed taken ns)
      by true e true one two = (open-cut closed n (parent_of n (visits forest.nodes)) refl a.0 e, one)
      by true e false one two = two
      by false e d one two = two

  some-asked : (R : ℕ → Type 0) (k : ℕ) (ns : List ℕ) → AllOf R ns → AllOf R (as_list (slice_get ns k))
  some-asked R k [] a = tt
  some-asked R zero (n ∷ ns) a = (a.0, tt)
  some-asked R (suc k) (n ∷ ns) a = some-asked R k ns a.1

  pub all-asked : (R : ℕ → Type 0) (at : Option ℤ) (ns : List ℕ) → AllOf R ns → AllOf R (asked_of at ns)
  all-asked R None ns a = a
  all-asked R (Some k) ns a = some-asked R _ ns a

  pub planned-cut : (asked : DeleteAsked) → AllOf (λ n. IsNoRoot n forest) asked.set → AllOf (λ n. MayCut n forest) (planned_delete forest.nodes asked)
  planned-cut asked a = taken-cut asked.closed [] (asked_of asked.at asked.set) (all-asked (λ n. IsNoRoot n forest) asked.at asked.set a)

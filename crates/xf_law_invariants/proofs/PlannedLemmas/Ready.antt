-- Copies that are made and go to their places one after the other: those that wait stay ready while the others come and go.
use Rattle.std.proofs.Common.{◌≡◌, ℕ, suc, ◌+◌, ◌==◌, Bool, true, false, cond, ◌||◌, List, [], ◌∷◌, ◌++◌, map, length, find, Option, Some, None, option_map, Ok, refl, sym, ap, ◌∙◌, subst, inl, inr, arith}
use Rattle.std.specs.Prelude.{◌≤◌, ◌<◌, nat_lt}
use Rattle.std.proofs.lemmas.Bool.Decides.{nat_tests}
use Rattle.xf_def_forest.specs.declared.content.Content.{Content}
use Rattle.xf_def_forest.specs.declared.content.Kind.TheVariants as sort
use Rattle.xf_def_forest.specs.declared.content.Node.{Node}
use Rattle.xf_def_forest.specs.declared.fault.TreeFault.{TreeFault}
use Rattle.xf_def_forest.specs.declared.fault.TreeFault.TheVariants.{Depth}
use Rattle.xf_def_forest.specs.Changes.{attached, contents_in, copied, detached, elements_above, place_of, placed, shifted}
use Rattle.xf_def_forest.specs.Forest.{Forest, below, content_at, first_tree, from_node, has_number, kind_at, kind_of, tree_of}
use Rattle.xf_def_forest.specs.Limits.{Limits, is_too_deep, passed_by_all, unless}
use Rattle.xf_def_forest.specs.Needs.{goes_below, is_top}
use Rattle.xf_def_forest.specs.Plant.{numbered_from}
use Rattle.xf_def_forest.specs.Visit.{Visit, above_in, ancestors_of, first_of, parent_of, still_above, visit, visits, visits_from}
use Rattle.xf_def_forest.specs.WellFormed.{HasTrees, are_below}
use Rattle.xf_def_forest.proofs.BackLaws.{and-true, or-false}
use Rattle.xf_law_recalculation.specs.Agree.Hung.{begins_at_top}
use Rattle.xf_law_forests.specs.Rollback.Made.{IsGrowth}
use Rattle.xf_law_forests.specs.Rollback.Made as made
use Rattle.xf_law_forests.specs.Root.Roots.{IsNoRoot}
use Rattle.xf_law_invariants.specs.Tree.Kinds.{KindsStay}
use Rattle.xf_law_invariants.proofs.TreeLemmas.Come.{tree_laws}
use Rattle.xf_law_invariants.proofs.TreeLemmas.Topmost.{top_laws}
use Rattle.xf_law_invariants.proofs.TreeLemmas.OfKind.{kind_laws}
use Rattle.xf_def_model.specs.Places.{Place}
use Rattle.xf_def_model.specs.Pertinent.{AllOf}
use Rattle.xf_law_invariants.specs.Planned.Outside.{IsOutside}
use Rattle.xf_law_invariants.proofs.PlannedLemmas.OutsideForests.{outside_detached, outside_grown, outside_placed, top-stands}
use Rattle.xf_law_invariants.proofs.PlannedLemmas.NewTrees.{again-growth, new-number}
use Rattle.xf_law_invariants.proofs.PlannedLemmas.RootForests.{document_detached, document_grown, document_none, document_placed, no-root-stands}
use Rattle.xf_law_invariants.specs.Planned.Roots.{IsNoDocument}
use Rattle.xf_law_invariants.specs.Planned.Ready.{MayCut, MayJoin}

-- ---- what waits

-- a copy with its place below the parent
pub record IsReady (parent : ℕ) (forest : Forest) (one : Place × ℕ) : Type 0 where
  pub parent_is : one.0.parent ≡ parent
  pub top : is_top one.1 forest.nodes ≡ true
  pub outside : IsOutside parent one.1 forest.nodes
  pub own : MayCut one.1 forest
  pub above : kind_at parent forest.nodes ≡ Some sort.Element
  -- the node that it replaces
  pub gone : (m : ℕ) → one.0.replaces ≡ Some m → MayCut m forest

pub kinds-no-root : (n : ℕ) (forest after : Forest) → KindsStay forest after → IsNoRoot n forest → IsNoRoot n after
kinds-no-root n forest after k (inl e) = inl (k n sort.Element e)
kinds-no-root n forest after k (inr e) = inr (k n sort.Attribute e)

pub ready-joins : (parent : ℕ) (forest : Forest) (one : Place × ℕ) → IsReady parent forest one → MayJoin one.1 parent forest
ready-joins parent forest one r = record { may = record { detached = r.top; outside = r.outside.outside; kinds = goes r.own.kind }; kind = r.own.kind; above = r.above }
  where
    goes : IsNoRoot one.1 forest → goes_below (kind_at one.1 forest.nodes) (kind_at parent forest.nodes) ≡ true
    goes (inl e) = rw (e, r.above) refl
    goes (inr e) = rw (e, r.above) refl

-- ---- a tree is cut off

module _ (n : ℕ) (forest : Forest) (h : HasTrees forest) (is : IsNoRoot n forest) where
  cut-kinds : KindsStay forest (detached n forest)
  cut-kinds = kind_laws.detached n forest h

  pub cut-may : (m : ℕ) → MayCut m forest → MayCut m (detached n forest)
  cut-may m c = record { kind = kinds-no-root m forest (detached n forest) cut-kinds c.kind; inner = document_detached forest h m n is c.inner }

  pub cut-ready : (parent : ℕ) (one : Place × ℕ) → IsReady parent forest one → IsReady parent (detached n forest) one
  cut-ready parent one r = record {
    parent_is = r.parent_is;
    top = top_laws.detached n one.1 forest r.top;
    outside = outside_detached parent one.1 n forest h r.outside;
    own = cut-may one.1 r.own;
    above = cut-kinds parent sort.Element r.above;
    gone = λ m e. cut-may m (r.gone m e);
  }

  pub cut-all-may : (ms : List ℕ) → AllOf (λ m. MayCut m forest) ms → AllOf (λ m. MayCut m (detached n forest)) ms
  cut-all-may [] c = tt
  cut-all-may (m ∷ ms) c = (cut-may m c.0, cut-all-may ms c.1)

  pub cut-all-ready : (parent : ℕ) (ones : List (Place × ℕ)) → AllOf (IsReady parent forest) ones → AllOf (IsReady parent (detached n forest)) ones
  cut-all-ready parent [] r = tt
  cut-all-ready parent (one ∷ ones) r = (cut-ready parent one r.0, cut-all-ready parent ones r.1)

-- ---- a tree comes

unless-same : {X : Type 0} (o : Option TreeFault) (x y : X) → unless o x ≡ Ok y → x ≡ y
unless-same None x y e = cc e
unless-same (Some fault) x y e = cc e

pub attached-is : (l : Limits) (n parent place : ℕ) (forest after : Forest) → attached l n parent place forest ≡ Ok after → placed n parent (place_of parent place (visits forest.nodes) (content_at n forest.nodes)) forest ≡ after
attached-is l n parent place forest after e =
    let all = visits forest.nodes in
    let deep = is_too_deep l.depth (elements_above parent all) (tree_of n forest.nodes) in
    unless-same (cond deep (Some Depth) None) (placed n parent (place_of parent place all (content_at n forest.nodes)) forest) after e

module _ (l : Limits) (n parent place : ℕ) (forest after : Forest) (h : HasTrees forest) (j : MayJoin n parent forest) (e : attached l n parent place forest ≡ Ok after) where
  abbrev at : ℕ
  at = place_of parent place (visits forest.nodes) (content_at n forest.nodes)

  is : placed n parent at forest ≡ after
  is = attached-is l n parent place forest after e

  come-kinds : KindsStay forest after
  come-kinds = kind_laws.attached l n parent place forest after h j.may e

  pub come-may : (m : ℕ) → MayCut m forest → MayCut m after
  come-may m c = record {
    kind = kinds-no-root m forest after come-kinds c.kind;
    inner = subst (λ (f : Forest). IsNoDocument m f.nodes) is (document_placed forest h m n parent at j.may (inl j.above) c.inner);
  }

  pub come-ready : (one : Place × ℕ) → (one.1 == n) ≡ false → IsReady parent forest one → IsReady parent after one
  come-ready one other r = record {
    parent_is = r.parent_is;
    top = top_laws.attached l n parent place one.1 forest after e other r.top;
    outside = subst (λ (f : Forest). IsOutside parent one.1 f.nodes) is (outside_placed parent one.1 n parent at forest h j.may r.top other r.outside r.outside);
    own = come-may one.1 r.own;
    above = come-kinds parent sort.Element r.above;
    gone = λ m q. come-may m (r.gone m q);
  }

  pub come-all-may : (ms : List ℕ) → AllOf (λ m. MayCut m forest) ms → AllOf (λ m. MayCut m after) ms
  come-all-may [] c = tt
  come-all-may (m ∷ ms) c = (come-may m c.0, come-all-may ms c.1)

  pub come-all-ready : (ones : List (Place × ℕ)) → AllOf (λ one. (one.1 == n) ≡ false) ones → AllOf (IsReady parent forest) ones → AllOf (IsReady parent after) ones
  come-all-ready [] o r = tt
  come-all-ready (one ∷ ones) o r = (come-ready one o.0 r.0, come-all-ready ones o.1 r.1)

-- ---- more nodes behind the others

pub parent-front : (n : ℕ) (above xs ys : List Node) → has_number n xs ≡ true → ancestors_of n (visits_from above (xs ++ ys)) ≡ ancestors_of n (visits_from above xs)
parent-front n above [] ys h = cc h
parent-front n above (x ∷ xs) ys h = by (x.number == n) h (parent-front n (x ∷ still_above x.depth above) xs ys)
  where
    by : (b : Bool) → (b || has_number n xs) ≡ true
        → (has_number n xs ≡ true → ancestors_of n (visits_from (x ∷ still_above x.depth above) (xs ++ ys)) ≡ ancestors_of n (visits_from (x ∷ still_above x.depth above) xs))
        → above_in (cond b (Some (visit above x)) (find (λ (y : Visit). y.number == n) (visits_from (x ∷ still_above x.depth above) (xs ++ ys))))
        ≡ above_in (cond b (Some (visit above x)) (find (λ (y : Visit). y.number == n) (visits_from (x ∷ still_above x.depth above) xs)))
    by true q rest = refl
    by false q rest = rest q

pub parent-behind : (n parent : ℕ) (xs ys : List Node) → has_number n xs ≡ true → parent_of n (visits xs) ≡ Some parent → parent_of n (visits (xs ++ ys)) ≡ Some parent
parent-behind n parent xs ys h e = ap first_of (parent-front n [] xs ys h) ∙ e

-- ---- new nodes behind the others

pub kind-behind : (k : ℕ) (xs ys : List Node) → has_number k xs ≡ false → kind_at k (xs ++ ys) ≡ kind_at k ys
kind-behind k [] ys q = refl
kind-behind k (x ∷ xs) ys q = let parts = or-false (x.number == k) (has_number k xs) q in rw parts.0 (kind-behind k xs ys parts.1)

-- what stood is not in the new tree
pub old-out : (q k : ℕ) (ks : List (ℕ × Content)) → q < k → has_number q (numbered_from k ks) ≡ false
old-out q k [] z = refl
old-out q k (x ∷ xs) z = let other : (k == q) ≡ false = grind (arith, nat_tests, z) in rw other (old-out q (suc k) xs (omega (arith, z)))

pub tree-behind : (k : ℕ) (xs ys : List Node) → has_number k xs ≡ false → tree_of k (xs ++ ys) ≡ tree_of k ys
tree-behind k [] ys q = refl
tree-behind k (x ∷ xs) ys q = let parts = or-false (x.number == k) (has_number k xs) q in rw parts.0 (tree-behind k xs ys parts.1)

pub less-number : (q m : ℕ) (xs : List Node) → are_below m xs ≡ true → has_number q xs ≡ true → q < m
less-number q m [] b i = cc i
less-number q m (x ∷ xs) b i = by (x.number == q) refl i (less-number q m xs parts.1)
  where
    parts : (nat_lt x.number m ≡ true) × (are_below m xs ≡ true)
    parts = and-true (nat_lt x.number m) (are_below m xs) b

    by : (d : Bool) → (x.number == q) ≡ d → (d || has_number q xs) ≡ true → (has_number q xs ≡ true → q < m) → q < m
    by true f g rest = let z = parts.0 in grind (arith, nat_tests, z, f)
    by false f g rest = rest g

pub tree-part : (q k : ℕ) (ys : List Node) → has_number q ys ≡ false → has_number q (tree_of k ys) ≡ false
tree-part q k [] i = refl
tree-part q k (y ∷ ys) i = by (y.number == k) (tree-part q k ys parts.1)
  where
    parts : ((y.number == q) ≡ false) × (has_number q ys ≡ false)
    parts = or-false (y.number == q) (has_number q ys) i

    inside : (d : ℕ) (zs : List Node) → has_number q zs ≡ false → has_number q (below d zs) ≡ false
    inside d [] j = refl
    inside d (z ∷ zs) j = of (nat_lt d z.depth) (inside d zs ps.1)
      where
        ps : ((z.number == q) ≡ false) × (has_number q zs ≡ false)
        ps = or-false (z.number == q) (has_number q zs) j

        of : (b : Bool) → has_number q (below d zs) ≡ false → has_number q (cond b (z ∷ below d zs) []) ≡ false
        of true r = rw ps.0 r
        of false r = refl

    by : (b : Bool) → has_number q (tree_of k ys) ≡ false → has_number q (first_tree (cond b (y ∷ ys) (from_node k ys))) ≡ false
    by true r = rw parts.0 (inside y.depth ys parts.1)
    by false r = r

-- ---- a copy is made

-- the copy of an element or attribute
pub record IsCopied (n c : ℕ) (forest after : Forest) : Type 0 where
  pub number : c ≡ forest.next
  pub later : forest.next < after.next
  pub kinds : KindsStay forest after
  pub kind : kind_at c after.nodes ≡ kind_at n forest.nodes
  pub top : is_top c after.nodes ≡ true
  pub inner : IsNoDocument c after.nodes
  pub out : (q : ℕ) → has_number q forest.nodes ≡ true → IsOutside q c after.nodes
  pub grown : (m : ℕ) → MayCut m forest → MayCut m after
  pub ready : (parent : ℕ) (one : Place × ℕ) → IsReady parent forest one → IsReady parent after one

module _ (l : Limits) (n c : ℕ) (forest after : Forest) (h : HasTrees forest) (is : IsNoRoot n forest) (e : copied l n forest ≡ Ok (c, after)) where
  abbrev pub cs : List (ℕ × Content)
  cs = contents_in (tree_of n forest.nodes)

  abbrev whole : ℕ × Forest
  whole = (forest.next, record { nodes = forest.nodes ++ numbered_from forest.next cs; next = forest.next + length (tree_of n forest.nodes) })

  same : ◌≡◌ {A = ℕ × Forest} whole (c, after)
  same = unless-same (passed_by_all l (forest.nodes ++ numbered_from forest.next cs)) whole (c, after) e

  number : c ≡ forest.next
  number = sym (ap (λ (w : ℕ × Forest). w.0) same)

  pub copied-nodes : after.nodes ≡ forest.nodes ++ numbered_from forest.next cs
  copied-nodes = sym (ap (λ (w : ℕ × Forest). w.1.nodes) same)

  pub copied-next : after.next ≡ forest.next + length (tree_of n forest.nodes)
  copied-next = sym (ap (λ (w : ℕ × Forest). w.1.next) same)

  live : has_number n forest.nodes ≡ true
  live = no-root-stands n forest is

  after-trees : HasTrees after
  after-trees = tree_laws.copied l n c forest after h e

  counted : length cs ≡ length (tree_of n forest.nodes)
  counted = moved-count (tree_of n forest.nodes)
    where
      moved-count : (xs : List Node) → length (contents_in xs) ≡ length xs
      moved-count [] = refl
      moved-count (x ∷ xs) = ap suc (mapped x.depth xs)
        where
          mapped : (d : ℕ) (ys : List Node) → length {A = ℕ × Content} (map (λ (y : Node). (y.depth, y.content)) (map (shifted d 0) ys)) ≡ length ys
          mapped d [] = refl
          mapped d (y ∷ ys) = ap suc (mapped d ys)

  pub whole-trees : HasTrees (record { nodes = forest.nodes ++ numbered_from forest.next cs; next = forest.next + length cs })
  whole-trees = subst (λ (k : ℕ). HasTrees (record { nodes = forest.nodes ++ numbered_from forest.next cs; next = forest.next + k })) (sym counted) (subst (λ (w : ℕ × Forest). HasTrees w.1) (sym same) after-trees)

  pub copied-growth : IsGrowth cs
  copied-growth = again-growth n forest h is

  new-out : has_number forest.next forest.nodes ≡ false
  new-out = new-number forest.next forest.nodes h.below

  begins : begins_at_top (numbered_from forest.next cs) ≡ true
  begins = of cs copied-growth.top
    where
      of : (ks : List (ℕ × Content)) → made.begins_at_top ks ≡ true → begins_at_top (numbered_from forest.next ks) ≡ true
      of [] q = refl
      of (k ∷ ks) q = q

  tree-there : (xs : List Node) → has_number n xs ≡ true → 1 ≤ length (tree_of n xs)
  tree-there [] q = cc q
  tree-there (x ∷ xs) q = by (x.number == n) q (tree-there xs)
    where
      by : (b : Bool) → (b || has_number n xs) ≡ true → (has_number n xs ≡ true → 1 ≤ length (tree_of n xs)) → 1 ≤ length (first_tree (cond b (x ∷ xs) (from_node n xs)))
      by true i rest = omega arith
      by false i rest = rest i

  -- the first of the new nodes has the content of the copied one
  kind-first : (xs : List Node) (k : ℕ) → has_number n xs ≡ true → kind_at k (numbered_from k (contents_in (tree_of n xs))) ≡ kind_at n xs
  kind-first [] k q = cc q
  kind-first (x ∷ xs) k q = by (x.number == n) q (kind-first xs k)
    where
      by : (b : Bool) → (b || has_number n xs) ≡ true → (has_number n xs ≡ true → kind_at k (numbered_from k (contents_in (tree_of n xs))) ≡ kind_at n xs)
          → kind_at k (numbered_from k (contents_in (first_tree (cond b (x ∷ xs) (from_node n xs))))) ≡ option_map kind_of (option_map (λ (y : Node). y.content) (cond b (Some x) (find (λ (y : Node). y.number == n) xs)))
      by true i rest = let one : (k == k) ≡ true = grind (arith, nat_tests) in rw one refl
      by false i rest = rest i

  pub copied-is : IsCopied n c forest after
  copied-is =
      let kinds = kind_laws.copied l n c forest after e in
      let may : (m : ℕ) → MayCut m forest → MayCut m after = λ m q. record {
        kind = kinds-no-root m forest after kinds q.kind;
        inner = subst (IsNoDocument m) (sym copied-nodes) (document_grown forest h cs copied-growth whole-trees m q.inner);
      } in
      record {
        number = number;
        later = let a = tree-there forest.nodes live in let b = copied-next in omega (arith, a, b);
        kinds = kinds;
        kind = ap (λ k. kind_at k after.nodes) number ∙ ap (kind_at forest.next) copied-nodes ∙ kind-behind forest.next forest.nodes (numbered_from forest.next cs) new-out ∙ kind-first forest.nodes forest.next live;
        top = top_laws.copy l n c forest after e live;
        inner = subst (λ k. IsNoDocument k after.nodes) (sym number) (subst (IsNoDocument forest.next) (sym copied-nodes) (document_grown forest h cs copied-growth whole-trees forest.next (document_none forest h forest.next new-out)));
        out = λ q there. record {
          stands = top-stands c after.nodes (top_laws.copy l n c forest after e live);
          outside = ap (λ k. has_number q (tree_of k after.nodes)) number ∙ ap (λ ys. has_number q (tree_of forest.next ys)) copied-nodes ∙ ap (has_number q) (tree-behind forest.next forest.nodes (numbered_from forest.next cs) new-out)
              ∙ tree-part q forest.next (numbered_from forest.next cs) (old-out q forest.next cs (less-number q forest.next forest.nodes h.below there));
        };
        grown = may;
        ready = λ parent one r. record {
          parent_is = r.parent_is;
          top = top_laws.copied l n c one.1 forest after e r.top;
          outside = subst (IsOutside parent one.1) (sym copied-nodes) (outside_grown parent one.1 forest.nodes (numbered_from forest.next cs) begins r.outside);
          own = may one.1 r.own;
          above = kinds parent sort.Element r.above;
          gone = λ m q. may m (r.gone m q);
        };
      }

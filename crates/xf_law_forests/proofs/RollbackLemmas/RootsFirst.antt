-- In what was made of a forest the roots stand before the other trees: it begins with roots alone, and no change brings one behind.
use Rattle.std.proofs.Common.{◌≡◌, ℕ, ◌==◌, Bool, true, false, cond, ◌&&◌, ◌||◌, List, [], refl, sym, ap, ◌∙◌, subst, inl, inr}
use Rattle.std.specs.Prelude.{if◌then◌else◌}
use Rattle.std.proofs.lemmas.Bool.{cases_Bool}
use Rattle.xf_def_forest.specs.declared.content.Node.{Node}
use Rattle.xf_def_forest.specs.declared.content.Content.{Content}
use Rattle.xf_def_forest.specs.Forest.{is_root, content_at}
use Rattle.xf_def_forest.specs.Visit.{visits}
use Rattle.xf_def_forest.specs.Changes.{placed, place_of, detached, in_detached}
use Rattle.xf_def_forest.specs.Texts.{Keeping, with_value, one_text, is_attribute_at, before_of}
use Rattle.xf_def_forest.specs.Settle.{with_numbered_text}
use Rattle.xf_def_forest.specs.Needs.{IsSettable, MayAttach, MayDetach}
use Rattle.xf_def_forest.specs.WellFormed.{AreTrees}
use Rattle.xf_def_forest.specs.Undo.{Ledger}
use Rattle.xf_def_forest.proofs.BackLaws.{or-false}
use Rattle.xf_law_forests.specs.Rollback.Made.{Made, begun, noted, texts, passed, joined, cut, grown, IsGrowth, with_growth, with_new_text}
use Rattle.xf_law_forests.proofs.RollbackLemmas.Trees.{Trees, none, tree, onto, followed, onto-inj}
use Rattle.xf_law_forests.proofs.RollbackLemmas.TreeTexts.{lone, retexted, revalued}
use Rattle.xf_law_forests.proofs.RollbackLemmas.TreeMoved.{value-root}
use Rattle.xf_law_forests.proofs.RollbackLemmas.TreeFacts.{is_at}
use Rattle.xf_law_forests.proofs.RollbackLemmas.KeepingTrees.{Stands, stands}
use Rattle.xf_law_forests.proofs.RollbackLemmas.TreeMoves.{removed, found, detached-onto}
use Rattle.xf_law_forests.proofs.RollbackLemmas.TreePlaces.{with_tree, changed}
use Rattle.xf_law_forests.proofs.RollbackLemmas.TreeTops.{NoRoots, RootsFirst, none-first, rest-first, at-first, fresh-no_roots, no-roots-followed}
use Rattle.xf_law_forests.proofs.RollbackLemmas.TextSteps.{after-nodes}
use Rattle.xf_law_forests.proofs.RollbackLemmas.ValueSteps.{valued-nodes}
use Rattle.xf_law_forests.proofs.RollbackLemmas.JoinSteps.{joins, joined-nodes, detach-once, detach-no_root}
use Rattle.xf_law_forests.proofs.RollbackLemmas.GrowthSteps.{AllRoots, roots-all, new-trees}
use Rattle.xf_law_forests.proofs.RollbackLemmas.Outcomes.{attached-placed, set-forest}

-- ---- in trees

all-first : (t : Trees) → AllRoots t → RootsFirst t
all-first none h = tt
all-first (tree n c k r) h = rw h.0 (all-first r h.1)

-- what follows changes, and the node does not
both : (b : Bool) (r s : Trees) → (RootsFirst r → RootsFirst s) → (NoRoots r → NoRoots s) → cond b (RootsFirst r) (NoRoots r) → cond b (RootsFirst s) (NoRoots s)
both true r s one two h = one h
both false r s one two h = two h

value-same : (b : Bool) (text : List ℕ) (c : Content) → is_root (cond b (with_value text c) c) ≡ is_root c
value-same true text c = value-root text c
value-same false text c = refl

none-revalued : (n : ℕ) (text : List ℕ) (t : Trees) → NoRoots t → NoRoots (revalued n text t)
none-revalued n text none h = tt
none-revalued n text (tree m c k r) h = (value-same (m == n) text c ∙ h.0, none-revalued n text r h.1)

first-revalued : (n : ℕ) (text : List ℕ) (t : Trees) → RootsFirst t → RootsFirst (revalued n text t)
first-revalued n text none h = tt
first-revalued n text (tree m c k r) h =
    subst (λ b. cond b (RootsFirst (revalued n text r)) (NoRoots (revalued n text r))) (sym (value-same (m == n) text c))
    (both (is_root c) r (revalued n text r) (first-revalued n text r) (none-revalued n text r) h)

none-retexted : (n : ℕ) (s t : Trees) → NoRoots t → NoRoots (retexted n s t)
none-retexted n s none h = tt
none-retexted n s (tree m c k r) h = (h.0, none-retexted n s r h.1)

first-retexted : (n : ℕ) (s t : Trees) → RootsFirst t → RootsFirst (retexted n s t)
first-retexted n s none h = tt
first-retexted n s (tree m c k r) h = both (is_root c) r (retexted n s r) (first-retexted n s r) (none-retexted n s r) h

none-changed : (n : ℕ) (f : Trees → Trees) (t : Trees) → NoRoots t → NoRoots (changed n f t)
none-changed n f none h = tt
none-changed n f (tree m c k r) h = (h.0, none-changed n f r h.1)

first-changed : (n : ℕ) (f : Trees → Trees) (t : Trees) → RootsFirst t → RootsFirst (changed n f t)
first-changed n f none h = tt
first-changed n f (tree m c k r) h = both (is_root c) r (changed n f r) (first-changed n f r) (none-changed n f r) h

none-removed : (n : ℕ) (t : Trees) → NoRoots t → NoRoots (removed n t)
none-removed n none h = tt
none-removed n (tree m c k r) h = by (m == n) (none-removed n r h.1)
  where
    by : (b : Bool) → NoRoots (removed n r) → NoRoots (cond b (removed n r) (tree m c (removed n k) (removed n r)))
    by true s = s
    by false s = (h.0, s)

first-removed : (n : ℕ) (t : Trees) → RootsFirst t → RootsFirst (removed n t)
first-removed n none h = tt
first-removed n (tree m c k r) h = by (m == n) (first-removed n r) (none-removed n r)
  where
    by : (b : Bool) → (RootsFirst r → RootsFirst (removed n r)) → (NoRoots r → NoRoots (removed n r)) → RootsFirst (cond b (removed n r) (tree m c (removed n k) (removed n r)))
    by true one two = one (rest-first (is_root c) r h)
    by false one two = both (is_root c) r (removed n r) one two h

first-followed : (t s : Trees) → RootsFirst t → NoRoots s → RootsFirst (followed t s)
first-followed none s h k = none-first s k
first-followed (tree n c j r) s h k = both (is_root c) r (followed r s) (λ g. first-followed r s g k) (λ g. no-roots-followed r s g k) h

none-found : (n : ℕ) (t : Trees) → is_at is_root n t ≡ false → NoRoots (found n t)
none-found n none h = tt
none-found n (tree m c k r) h =
    let inner = or-false (is_at is_root n k) (is_at is_root n r) (or-false ((m == n) && is_root c) (is_at is_root n k || is_at is_root n r) h).1 in
    no-roots-followed (if m == n then tree m c k none else found n k) (found n r) (by (m == n) refl (none-found n k inner.0)) (none-found n r inner.1)
  where
    by : (b : Bool) → (m == n) ≡ b → NoRoots (found n k) → NoRoots (cond b (tree m c k none) (found n k))
    by true e s = (at-first n m c k r e h, tt)
    by false e s = s

-- ---- each change

-- the trees of these nodes are known
from-trees : (nodes : List Node) (t s : Trees) → nodes ≡ onto 0 t [] → nodes ≡ onto 0 s [] → RootsFirst s → RootsFirst t
from-trees nodes t s one two h = subst RootsFirst (onto-inj 0 s t [] [] tt tt (sym two ∙ one)).0 h

text-first : (number more n : ℕ) (text : List ℕ) (k : Keeping) → AreTrees k → IsSettable n k.forest → (s : Stands k) → RootsFirst s.trees
    → (t : Trees) → with_numbered_text number n text k.forest.nodes ≡ onto 0 t [] → RootsFirst t
text-first number more n text k sound able s h t nodes =
    elim (cases_Bool (is_attribute_at n k.forest.nodes)) [
      | inl e ↦ from-trees (with_numbered_text number n text k.forest.nodes) t (revalued n text s.trees) nodes (valued-nodes number more n text k sound able s e) (first-revalued n text s.trees h)
      | inr e ↦ from-trees (with_numbered_text number n text k.forest.nodes) t (retexted n (lone (one_text number text)) s.trees) nodes (after-nodes number more n text k sound able s e)
          (first-retexted n (lone (one_text number text)) s.trees h)
    ]

join-first : (n parent given place : ℕ) (k : Keeping) → MayAttach n parent given k.forest → (s : Stands k) → RootsFirst s.trees → (t : Trees) → (placed n parent place k.forest).nodes ≡ onto 0 t [] → RootsFirst t
join-first n parent given place k may s h t nodes =
    from-trees (placed n parent place k.forest).nodes t (changed parent (with_tree place (found n s.trees)) (removed n s.trees)) nodes
    (joined-nodes n parent given place k may s (joins n parent given k.forest may.stands)) (first-changed parent (with_tree place (found n s.trees)) (removed n s.trees) (first-removed n s.trees h))

cut-first : (n : ℕ) (k : Keeping) → MayDetach n k.forest → (s : Stands k) → RootsFirst s.trees → (t : Trees) → (detached n k.forest).nodes ≡ onto 0 t [] → RootsFirst t
cut-first n k may s h t nodes =
    from-trees (detached n k.forest).nodes t (followed (removed n s.trees) (found n s.trees)) nodes (detached-onto n s.trees k.forest s.nodes (detach-once n k s may))
    (first-followed (removed n s.trees) (found n s.trees) (first-removed n s.trees h) (none-found n s.trees (detach-no_root n k s may)))

growth-first : (contents : List (ℕ × Content)) (k : Keeping) → IsGrowth contents → AreTrees (with_growth contents k) → (s : Stands k) → RootsFirst s.trees
    → (t : Trees) → (with_growth contents k).forest.nodes ≡ onto 0 t [] → RootsFirst t
growth-first contents k growth after s h t nodes =
    let e = new-trees contents k growth after s t nodes in
    subst RootsFirst (sym e.is) (first-followed s.trees e.new h (fresh-no_roots k.forest.next e.new e.fresh))

-- ---- so in all that was made

pub rooted : {start : Keeping} {l : Ledger} {k : Keeping} → Made start l k → (t : Trees) → k.forest.nodes ≡ onto 0 t [] → RootsFirst t
rooted (begun sound empty alone) t nodes = all-first t (roots-all t (subst (λ x. in_detached x ≡ []) nodes alone))
rooted (noted change m) t nodes = rooted m t nodes
rooted (texts {l = l} {k = k} number more n text m sound able) t nodes =
    let s = stands k sound in
    let after = with_new_text number more n text k in
    text-first number more n text k sound able s (rooted m s.trees s.nodes) t (ap (λ f. f.nodes) (sym (set-forest n (before_of n k.forest.nodes) l.entries l.next after)) ∙ nodes)
rooted (passed count m) t nodes = rooted m t nodes
rooted (joined {k = k} limits n parent place after m sound may e) t nodes =
    let s = stands k sound in
    join-first n parent place (place_of parent place (visits k.forest.nodes) (content_at n k.forest.nodes)) k may s (rooted m s.trees s.nodes) t
    (ap (λ f. f.nodes) (attached-placed limits n parent place k.forest after e) ∙ nodes)
rooted (cut {k = k} n parent place m sound may stood) t nodes = let s = stands k sound in cut-first n k may s (rooted m s.trees s.nodes) t nodes
rooted (grown {k = k} contents m sound growth after) t nodes = let s = stands k sound in growth-first contents k growth after s (rooted m s.trees s.nodes) t nodes

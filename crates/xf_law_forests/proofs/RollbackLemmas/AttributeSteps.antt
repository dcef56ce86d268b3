-- No change makes an attribute of a node that stands.
use Rattle.std.proofs.Common.{◌≡◌, ℕ, suc, ◌==◌, Bool, true, false, cond, ◌&&◌, ◌||◌, List, [], ◌∷◌, ◌++◌, refl, sym, ap, ◌∙◌, subst, inl, inr, arith}
use Rattle.std.specs.Prelude.{◌<◌, if◌then◌else◌}
use Rattle.std.specs.List.{list_any}
use Rattle.std.proofs.lemmas.Bool.{cases_Bool}
use Rattle.std.proofs.lemmas.Bool.Decides.{nat_tests}
use Rattle.xf_def_forest.specs.declared.content.Node.{Node}
use Rattle.xf_def_forest.specs.declared.content.Content.{Content}
use Rattle.xf_def_forest.specs.Forest.{is_attribute}
use Rattle.xf_def_forest.specs.Changes.{placed, detached}
use Rattle.xf_def_forest.specs.Texts.{Keeping, is_attribute_at, one_text, with_value}
use Rattle.xf_def_forest.specs.Settle.{with_numbered_text}
use Rattle.xf_def_forest.specs.Needs.{IsSettable, MayAttach, MayDetach}
use Rattle.xf_def_forest.specs.WellFormed.{AreTrees}
use Rattle.xf_def_forest.specs.Plant.{numbered_from}
use Rattle.xf_def_forest.proofs.RunLemmas.{text-no_attribute}
use Rattle.xf_law_forests.specs.Rollback.Made.{with_growth}
use Rattle.xf_law_forests.proofs.RollbackLemmas.Trees.{Trees, none, tree, onto, followed}
use Rattle.xf_law_forests.proofs.RollbackLemmas.TreeTexts.{lone, attributes, retexted, revalued}
use Rattle.xf_law_forests.proofs.RollbackLemmas.TreeMoved.{some, value-attribute}
use Rattle.xf_law_forests.proofs.RollbackLemmas.TreeBlank.{AreTexts}
use Rattle.xf_law_forests.proofs.RollbackLemmas.TreeFacts.{is_at, or-cases, some-followed}
use Rattle.xf_law_forests.proofs.RollbackLemmas.KeepingTrees.{Stands, any-is}
use Rattle.xf_law_forests.proofs.RollbackLemmas.TextSteps.{after-nodes, one_text-texts}
use Rattle.xf_law_forests.proofs.RollbackLemmas.ValueSteps.{valued-nodes}
use Rattle.xf_law_forests.proofs.RollbackLemmas.TreeMoves.{removed, found, detached-onto}
use Rattle.xf_law_forests.proofs.RollbackLemmas.TreePlaces.{with_tree, changed}
use Rattle.xf_law_forests.proofs.RollbackLemmas.MoveFacts.{removed-none, removed-some}
use Rattle.xf_law_forests.proofs.RollbackLemmas.MoveBlank.{removed-changed, removed-found, found-found, found-changed}
use Rattle.xf_law_forests.proofs.RollbackLemmas.JoinSteps.{joins, joined-nodes, parent-there, detach-once}

-- a node that is an attribute in the second list is one in the first
abbrev pub AttributesStay : List Node → List Node → Type 0
AttributesStay before after = (m : ℕ) → is_attribute_at m after ≡ true → is_attribute_at m before ≡ true

or-left : (a b : Bool) → a ≡ true → (a || b) ≡ true
or-left true b h = refl
or-left false b h = cc h

or-right : (a b : Bool) → b ≡ true → (a || b) ≡ true
or-right true b h = refl
or-right false b h = h

false-true : false ≡ true → ⊥
false-true e = cc e

from-trees : (k : Keeping) (s : Stands k) (after : List Node) (t : Trees) → after ≡ onto 0 t [] → ((m : ℕ) → is_at is_attribute m t ≡ true → is_at is_attribute m s.trees ≡ true) → AttributesStay k.forest.nodes after
from-trees k s after t whole stay m h =
    ap (is_attribute_at m) s.nodes ∙ any-is is_attribute m s.trees ∙ stay m (sym (any-is is_attribute m t) ∙ ap (is_attribute_at m) (sym whole) ∙ h)

-- ---- texts

texts-none : (m : ℕ) (t : Trees) → AreTexts t → is_at is_attribute m t ≡ false
texts-none m none h = refl
texts-none m (tree n c k r) h =
    subst (λ j. (((n == m) && is_attribute c) || (is_at is_attribute m j || is_at is_attribute m r)) ≡ false) (sym h.1)
    (ap (λ b. ((n == m) && b) || is_at is_attribute m r) (text-no_attribute c h.0) ∙ ap (λ b. b || is_at is_attribute m r) (and-false (n == m)) ∙ texts-none m r h.2)
  where
    and-false : (b : Bool) → (b && false) ≡ false
    and-false true = refl
    and-false false = refl

attributes-less : (m : ℕ) (t : Trees) → is_at is_attribute m (attributes t) ≡ true → is_at is_attribute m t ≡ true
attributes-less m none h = h
attributes-less m (tree n c k r) h = by (is_attribute c) refl h (λ y. attributes-less m r y)
  where
    by : (b : Bool) → is_attribute c ≡ b → is_at is_attribute m (cond b (tree n c k (attributes r)) (attributes r)) ≡ true → (is_at is_attribute m (attributes r) ≡ true → is_at is_attribute m r ≡ true) → (((n == m) && is_attribute c) || (is_at is_attribute m k || is_at is_attribute m r)) ≡ true
    by true e g next = or-cases ((n == m) && is_attribute c) (is_at is_attribute m k || is_at is_attribute m (attributes r)) g _
        (λ f. or-left ((n == m) && is_attribute c) (is_at is_attribute m k || is_at is_attribute m r) f)
        (λ f. or-right ((n == m) && is_attribute c) (is_at is_attribute m k || is_at is_attribute m r) (or-cases (is_at is_attribute m k) (is_at is_attribute m (attributes r)) f _
        (λ x. or-left (is_at is_attribute m k) (is_at is_attribute m r) x) (λ x. or-right (is_at is_attribute m k) (is_at is_attribute m r) (next x))))
    by false e g next = or-right ((n == m) && is_attribute c) (is_at is_attribute m k || is_at is_attribute m r) (or-right (is_at is_attribute m k) (is_at is_attribute m r) (next g))

retexted-less : (m n : ℕ) (s t : Trees) → AreTexts s → is_at is_attribute m (retexted n s t) ≡ true → is_at is_attribute m t ≡ true
retexted-less m n s none texts h = h
retexted-less m n s (tree x c k r) texts h =
    or-cases ((x == m) && is_attribute c) (is_at is_attribute m (if x == n then followed (attributes k) s else retexted n s k) || is_at is_attribute m (retexted n s r)) h _
    (λ f. or-left ((x == m) && is_attribute c) (is_at is_attribute m k || is_at is_attribute m r) f)
    (λ f. or-right ((x == m) && is_attribute c) (is_at is_attribute m k || is_at is_attribute m r) (or-cases (is_at is_attribute m (if x == n then followed (attributes k) s else retexted n s k)) (is_at is_attribute m (retexted n s r)) f _
    (λ g. or-left (is_at is_attribute m k) (is_at is_attribute m r) (by (x == n) g (λ y. retexted-less m n s k texts y)))
    (λ g. or-right (is_at is_attribute m k) (is_at is_attribute m r) (retexted-less m n s r texts g))))
  where
    by : (b : Bool) → is_at is_attribute m (cond b (followed (attributes k) s) (retexted n s k)) ≡ true → (is_at is_attribute m (retexted n s k) ≡ true → is_at is_attribute m k ≡ true) → is_at is_attribute m k ≡ true
    by true g next = attributes-less m k (or-cases (is_at is_attribute m (attributes k)) (is_at is_attribute m s) (sym (some-followed (λ n c. (n == m) && is_attribute c) (attributes k) s) ∙ g) _ (λ y. y) (λ y. absurd (false-true (sym (texts-none m s texts) ∙ y))))
    by false g next = next g

revalued-same : (m n : ℕ) (text : List ℕ) (t : Trees) → is_at is_attribute m (revalued n text t) ≡ is_at is_attribute m t
revalued-same m n text none = refl
revalued-same m n text (tree x c k r) =
    ap (λ b. ((x == m) && b) || (is_at is_attribute m (revalued n text k) || is_at is_attribute m (revalued n text r))) (by (x == n))
    ∙ ap (λ b. ((x == m) && is_attribute c) || (b || is_at is_attribute m (revalued n text r))) (revalued-same m n text k)
    ∙ ap (λ b. ((x == m) && is_attribute c) || (is_at is_attribute m k || b)) (revalued-same m n text r)
  where
    by : (b : Bool) → is_attribute (cond b (with_value text c) c) ≡ is_attribute c
    by true = value-attribute text c
    by false = refl

pub text-stay : (number more n : ℕ) (text : List ℕ) (k : Keeping) → AreTrees k → IsSettable n k.forest → (s : Stands k) → AttributesStay k.forest.nodes (with_numbered_text number n text k.forest.nodes)
text-stay number more n text k sound able s =
    elim (cases_Bool (is_attribute_at n k.forest.nodes)) [
      | inl e ↦ from-trees k s (with_numbered_text number n text k.forest.nodes) (revalued n text s.trees) (valued-nodes number more n text k sound able s e) (λ m h. sym (revalued-same m n text s.trees) ∙ h)
      | inr e ↦ from-trees k s (with_numbered_text number n text k.forest.nodes) (retexted n (lone (one_text number text)) s.trees) (after-nodes number more n text k sound able s e)
          (λ m h. retexted-less m n (lone (one_text number text)) s.trees (one_text-texts number text) h)
    ]

-- ---- trees that move

-- trees with the same tree of a node, and the same without it, have the same nodes
same-some : (q : ℕ → Content → Bool) (n : ℕ) (t s : Trees) → removed n t ≡ removed n s → found n t ≡ found n s → some q t ≡ some q s
same-some q n t s a b = sym (removed-some q n t) ∙ ap (λ x. some q x || some q (found n t)) a ∙ ap (λ x. some q (removed n s) || some q x) b ∙ removed-some q n s

pub join-stay : (n parent given place : ℕ) (k : Keeping) → MayAttach n parent given k.forest → (s : Stands k) → AttributesStay k.forest.nodes (placed n parent place k.forest).nodes
join-stay n parent given place k may s =
    let j = joins n parent given k.forest may.stands in
    let there = parent-there n parent given place k may s j in
    let t = changed parent (with_tree place (found n s.trees)) (removed n s.trees) in
    from-trees k s (placed n parent place k.forest).nodes t (joined-nodes n parent given place k may s j)
    (λ m h. sym (same-some (λ x c. (x == m) && is_attribute c) n t s.trees
    (removed-changed n parent place (found n s.trees) (removed n s.trees) (removed-found n s.trees) (removed-none n s.trees))
    (found-changed n parent place (found n s.trees) (removed n s.trees) (found-found n s.trees) (removed-none n s.trees) there)) ∙ h)

pub cut-stay : (n : ℕ) (k : Keeping) → MayDetach n k.forest → (s : Stands k) → AttributesStay k.forest.nodes (detached n k.forest).nodes
cut-stay n k may s =
    let t = followed (removed n s.trees) (found n s.trees) in
    from-trees k s (detached n k.forest).nodes t (detached-onto n s.trees k.forest s.nodes (detach-once n k s may))
    (λ m h. or-some m (sym (some-followed (λ x c. (x == m) && is_attribute c) (removed n s.trees) (found n s.trees)) ∙ h))
  where
    or-some : (m : ℕ) → (is_at is_attribute m (removed n s.trees) || is_at is_attribute m (found n s.trees)) ≡ true → is_at is_attribute m s.trees ≡ true
    or-some m h = sym (removed-some (λ x c. (x == m) && is_attribute c) n s.trees) ∙ h

-- ---- new trees

any-append : (p : Node → Bool) (xs ys : List Node) → list_any p (xs ++ ys) ≡ (list_any p xs || list_any p ys)
any-append p [] ys = refl
any-append p (x ∷ xs) ys = ap (λ b. p x || b) (any-append p xs ys) ∙ assoc (p x) (list_any p xs) (list_any p ys)
  where
    assoc : (a b c : Bool) → (a || (b || c)) ≡ ((a || b) || c)
    assoc true b c = refl
    assoc false b c = refl

old-number : (m next : ℕ) (contents : List (ℕ × Content)) → m < next → is_attribute_at m (numbered_from next contents) ≡ false
old-number m next [] less = refl
old-number m next (c ∷ cs) less =
    let other : (next == m) ≡ false = grind (arith, nat_tests, less) in
    rw other (old-number m (suc next) cs (omega (arith, less)))

pub growth-stay : (contents : List (ℕ × Content)) (k : Keeping) (m : ℕ) → m < k.forest.next → is_attribute_at m (with_growth contents k).forest.nodes ≡ true → is_attribute_at m k.forest.nodes ≡ true
growth-stay contents k m less h =
    or-cases (is_attribute_at m k.forest.nodes) (is_attribute_at m (numbered_from k.forest.next contents))
    (sym (any-append (λ (x : Node). (x.number == m) && is_attribute x.content) k.forest.nodes (numbered_from k.forest.next contents)) ∙ h) _
    (λ e. e) (λ e. absurd (false-true (sym (old-number m k.forest.next contents less) ∙ e)))

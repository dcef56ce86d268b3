-- Which changes leave the part of a model, told by the model whose instance holds a node: a text, a tree that is cut off or comes below a node.
use Rattle.std.proofs.Common.{◌≡◌, ℕ, suc, ◌+◌, ◌==◌, Bool, true, false, not, cond, ◌&&◌, ◌||◌, List, [], ◌∷◌, ◌++◌, map, length, Option, Some, None, option_map, Ok, refl, sym, ap, ◌∙◌, subst, append-nil, inl, inr}
use Rattle.std.specs.Prelude.{◌⊎◌, option_and_then, slice_get}
use Rattle.std.specs.List.{list_any}
use Rattle.xf_def_syntax.specs.declared.form.Instance.{Instance}
use Rattle.xf_def_forest.specs.declared.content.Content.{Content}
use Rattle.xf_def_forest.specs.declared.content.Content.TheVariants as content
use Rattle.xf_def_forest.specs.declared.content.Kind.{Kind}
use Rattle.xf_def_forest.specs.declared.content.Kind.TheVariants as kind
use Rattle.xf_def_forest.specs.declared.content.Node.{Node}
use Rattle.xf_def_forest.specs.Changes.{copied, detached, moved_to, place_of, attached, without_tree}
use Rattle.xf_def_forest.specs.Forest.{Forest, content_at, has_number, is_root, is_text, kind_at, kind_of, node_at, tree_of}
use Rattle.xf_def_forest.specs.Limits.{Limits, passed_by_text, unless}
use Rattle.xf_def_forest.specs.Needs.{MayPlace}
use Rattle.xf_def_forest.specs.Order.{instance_of}
use Rattle.xf_def_forest.specs.Plant.{numbered_from}
use Rattle.xf_def_forest.specs.Shape.{erased}
use Rattle.xf_def_forest.specs.Texts.{Keeping, before_of, taken_from, with_text}
use Rattle.xf_def_forest.specs.Visit.{Visit, above_in, ancestors_of, first_of, has, last_of, parent_of, top_of, visits}
use Rattle.xf_def_forest.specs.WellFormed.{HasTrees}
use Rattle.xf_def_forest.proofs.BackLaws.{or-false}
use Rattle.xf_def_xpath.specs.Agree.{AreVisits, untexted}
use Rattle.xf_def_xpath.specs.Asked.{found}
use Rattle.xf_def_xpath.proofs.ForestVisits.{forest-visits, found-erased}
use Rattle.xf_def_xpath.proofs.VisitFacts.{found-out, none-some, some-same}
use Rattle.xf_law_forests.specs.Rollback.Made.{IsGrowth}
use Rattle.xf_law_forests.proofs.RollbackLemmas.Outcomes.{attached-placed}
use Rattle.xf_law_forests.specs.Root.Roots.{IsNoRoot, roots_in}
use Rattle.xf_law_forests.proofs.RootLemmas.Stays.{roots_stay_detached}
use Rattle.xf_law_recalculation.specs.Elsewhere.Parts.{IsPart, own_roots, trees_from}
use Rattle.xf_law_recalculation.specs.Elsewhere.Stays.{IsElsewhere}
use Rattle.xf_law_recalculation.proofs.ElsewhereLemmas.Own.{has_root, other-root, own-root, root-there}
use Rattle.xf_law_recalculation.proofs.ElsewhereLemmas.Grown.{part_stays_copied}
use Rattle.xf_law_recalculation.proofs.ElsewhereLemmas.Stays.{part_stays_grown, part_stays_placed, part_stays_text}
use Rattle.xf_law_recalculation.proofs.ElsewhereLemmas.Trees.{moved-begins, moved-out, split, without-stays}
use Rattle.xf_law_recalculation.specs.Held.Held.{holder, is_held}
use Rattle.xf_law_recalculation.proofs.HeldLemmas.Held.{held_in_part}
use Rattle.xf_law_sessions.specs.Kept.Stays.{PartStays}

-- ---- a node that is no root

no-root : (n : ℕ) (forest : Forest) → IsNoRoot n forest → (z : Node) → node_at n forest.nodes ≡ Some z → is_root z.content ≡ false
no-root n forest h z e = elim h [ inl i ↦ of (inl (some (told i))) | inr i ↦ of (inr (some (told i))) ]
  where
    some : {X : Type 0} {a b : X} → Some a ≡ Some b → a ≡ b
    some i = cc i

    told : {k : Option Kind} → kind_at n forest.nodes ≡ k → Some (kind_of z.content) ≡ k
    told i = sym (ap (λ o. option_map kind_of (option_map (λ (y : Node). y.content) o)) e) ∙ i

    of : (kind_of z.content ≡ kind.Element) ⊎ (kind_of z.content ≡ kind.Attribute) → is_root z.content ≡ false
    of i = by z.content i
      where
        by : (c : Content) → (kind_of c ≡ kind.Element) ⊎ (kind_of c ≡ kind.Attribute) → is_root c ≡ false
        by content.Root (inl j) = cc j
        by content.Root (inr j) = cc j
        by (content.Element name) j = refl
        by (content.Attribute name text) j = refl
        by (content.Text text) j = refl

-- it is that of no instance
no-instance : (n : ℕ) (nodes : List Node) → has_root n nodes ≡ false → instance_of n nodes ≡ None
no-instance n [] h = refl
no-instance n (x ∷ xs) h = by (is_root x.content) (x.number == n) parts.0 (no-instance n xs parts.1)
  where
    parts : (((x.number == n) && is_root x.content) ≡ false) × (has_root n xs ≡ false)
    parts = or-false ((x.number == n) && is_root x.content) (has_root n xs) h

    by : (r e : Bool) → (e && r) ≡ false → instance_of n xs ≡ None → cond r (cond e (Some 0) (option_map suc (instance_of n xs))) (instance_of n xs) ≡ None
    by false e i f = f
    by true true i f = cc i
    by true false i f = ap (option_map suc) f

unrooted : (n : ℕ) (forest : Forest) → HasTrees forest → IsNoRoot n forest → has n (roots_in forest.nodes) ≡ false
unrooted n forest trees h = other-root n forest.nodes trees.apart (no-root n forest h)

-- it stands, and may be copied
may-copy : (n : ℕ) (nodes : List Node) → (kind_at n nodes ≡ Some kind.Element) ⊎ (kind_at n nodes ≡ Some kind.Attribute) → list_any (λ x. (x.number == n) && not (is_root x.content)) nodes ≡ true
may-copy n [] (inl i) = cc i
may-copy n [] (inr i) = cc i
may-copy n (x ∷ xs) h = by (x.number == n) h (may-copy n xs)
  where
    kind_in : Bool → Option Kind
    kind_in b = option_map kind_of (option_map (λ (y : Node). y.content) (cond b (Some x) (node_at n xs)))

    rest : Bool
    rest = list_any (λ (y : Node). (y.number == n) && not (is_root y.content)) xs

    element : (c : Content) → Some (kind_of c) ≡ Some kind.Element → is_root c ≡ false
    element content.Root i = cc i
    element (content.Element name) i = refl
    element (content.Attribute name text) i = refl
    element (content.Text text) i = refl

    attribute : (c : Content) → Some (kind_of c) ≡ Some kind.Attribute → is_root c ≡ false
    attribute content.Root i = cc i
    attribute (content.Element name) i = refl
    attribute (content.Attribute name text) i = refl
    attribute (content.Text text) i = refl

    by : (b : Bool) → (kind_in b ≡ Some kind.Element) ⊎ (kind_in b ≡ Some kind.Attribute)
        → ((kind_at n xs ≡ Some kind.Element) ⊎ (kind_at n xs ≡ Some kind.Attribute) → rest ≡ true) → ((b && not (is_root x.content)) || rest) ≡ true
    by true (inl i) later = ap (λ r. not r || rest) (element x.content i)
    by true (inr i) later = ap (λ r. not r || rest) (attribute x.content i)
    by false i later = later i

-- ---- above a node stand its parent and what stands above that

above-erased : (m : Option Visit) → above_in (option_map erased m) ≡ above_in m
above-erased None = refl
above-erased (Some x) = refl

ancestors-erased : (n : ℕ) (all : List Visit) → ancestors_of n (map erased all) ≡ ancestors_of n all
ancestors-erased n all = ap above_in (found-erased n all) ∙ above-erased (found n all)

module _ (all : List Visit) (are : AreVisits (map erased all)) where
  abbrev bare : List Visit
  bare = map erased all

  above-parent : (n parent : ℕ) (ns : List ℕ) → ancestors_of n bare ≡ parent ∷ ns → ancestors_of parent bare ≡ ns
  above-parent n parent ns e = by (found n bare) refl e
    where
      of : (m : Option Visit) → found parent (untexted bare) ≡ m → option_map (λ (z : Visit). z.above) m ≡ Some ns → ancestors_of parent bare ≡ ns
      of None i j = none-some j
      of (Some z) i j = ap above_in (found-out (λ (y : Visit). not (is_text y.content)) parent bare z are.apart i).0 ∙ some-same j

      by : (m : Option Visit) → found n bare ≡ m → above_in m ≡ parent ∷ ns → ancestors_of parent bare ≡ ns
      by None i j = cc j
      by (Some x) i j = of (found parent (untexted bare)) refl (are.closed n parent ns x i j)

  one-top : (n parent : ℕ) → parent_of n all ≡ Some parent → top_of n all ≡ top_of parent all
  one-top n parent e = by (ancestors_of n all) refl e
    where
      by : (ms : List ℕ) → ancestors_of n all ≡ ms → first_of ms ≡ Some parent → top_of n all ≡ top_of parent all
      by [] i j = none-some j
      by (m ∷ ms) i j =
          let is : ancestors_of n all ≡ parent ∷ ms = i ∙ ap (λ p. p ∷ ms) (some-same j) in
          ap (last_of n) is ∙ ap (last_of parent) (sym (sym (ancestors-erased parent all) ∙ above-parent n parent ms (ancestors-erased n all ∙ is)))

-- what holds a node holds its parent
held-parent : (instances : List Instance) (n parent : ℕ) (forest : Forest) → HasTrees forest → parent_of n (visits forest.nodes) ≡ Some parent → holder instances n forest.nodes ≡ holder instances parent forest.nodes
held-parent instances n parent forest trees e =
    ap (λ top. option_and_then (λ place. option_map (λ (i : Instance). i.model) (slice_get instances place)) (instance_of top forest.nodes)) (one-top (visits forest.nodes) (forest-visits forest trees) n parent e)

-- the model that holds the parent
abbrev pub holder_above : List Instance → Option ℕ → List Node → Option ℕ
holder_above instances None nodes = None
holder_above instances (Some parent) nodes = holder instances parent nodes

-- what has no parent, and is no root, no instance holds
held-above : (instances : List Instance) (n : ℕ) (forest : Forest) → HasTrees forest → IsNoRoot n forest → holder instances n forest.nodes ≡ holder_above instances (parent_of n (visits forest.nodes)) forest.nodes
held-above instances n forest trees h = by (parent_of n (visits forest.nodes)) refl
  where
    alone : (ms : List ℕ) → ancestors_of n (visits forest.nodes) ≡ ms → first_of ms ≡ None → top_of n (visits forest.nodes) ≡ n
    alone [] i j = ap (last_of n) i
    alone (m ∷ ms) i j = cc j

    none : parent_of n (visits forest.nodes) ≡ None → holder instances n forest.nodes ≡ None
    none e =
        ap (λ top. option_and_then (λ place. option_map (λ (i : Instance). i.model) (slice_get instances place)) (instance_of top forest.nodes)) (alone (ancestors_of n (visits forest.nodes)) refl e)
        ∙ ap (option_and_then (λ place. option_map (λ (i : Instance). i.model) (slice_get instances place))) (no-instance n forest.nodes (sym (root-there n forest.nodes) ∙ unrooted n forest trees h))

    by : (o : Option ℕ) → parent_of n (visits forest.nodes) ≡ o → holder instances n forest.nodes ≡ holder_above instances o forest.nodes
    by None e = none e
    by (Some parent) e = held-parent instances n parent forest trees e

-- ---- what no instance of the model holds is elsewhere

module _ (instances : List Instance) (model : ℕ) (forest : Forest) (trees : HasTrees forest) where
  away : (n : ℕ) (part : Forest) → IsPart instances model part forest → is_held model (holder instances n forest.nodes) ≡ false → IsElsewhere n part
  away n part is held = held_in_part instances model n part forest is trees ∙ held

  pub stays-text : (l : Limits) (n : ℕ) (text : List ℕ) → passed_by_text l (length text) (with_text n text forest).nodes ≡ None → is_held model (holder instances n forest.nodes) ≡ false
      → PartStays instances model forest (with_text n text forest)
  stays-text l n text fits held part is =
      let k : Keeping = record { forest = forest; kept = [] } in
      let after : Keeping = record { forest = with_text n text forest; kept = taken_from n forest.nodes } in
      part_stays_text instances model l n text part (before_of n forest.nodes) k after is trees (away n part is held) (ap (λ o. unless o (before_of n forest.nodes, after)) fits)

  pub stays-grown : (contents : List (ℕ × Content)) → IsGrowth contents → (next : ℕ) → PartStays instances model forest (record { nodes = forest.nodes ++ numbered_from forest.next contents; next = next })
  stays-grown contents growth next part is = part_stays_grown instances model next contents part forest is trees growth

  pub stays-copied : (l : Limits) (n m : ℕ) (after : Forest) → IsNoRoot n forest → copied l n forest ≡ Ok (m, after) → PartStays instances model forest after
  stays-copied l n m after h e part is = part_stays_copied instances model l n m part forest after is trees (may-copy n forest.nodes h) e

  pub stays-attached : (l : Limits) (n parent place : ℕ) (after : Forest) → MayPlace n parent forest → attached l n parent place forest ≡ Ok after → is_held model (holder instances parent forest.nodes) ≡ false
      → PartStays instances model forest after
  stays-attached l n parent place after may e held part is =
      subst (IsPart instances model part) (attached-placed l n parent place forest after e)
      (part_stays_placed instances model n parent (place_of parent place (visits forest.nodes) (content_at n forest.nodes)) part forest is trees may (away parent part is held))

  -- a tree that is cut off, be it detached already
  pub stays-detached : (n : ℕ) → IsNoRoot n forest → is_held model (holder_above instances (parent_of n (visits forest.nodes)) forest.nodes) ≡ false → PartStays instances model forest (detached n forest)
  stays-detached n h held part is = record {
    nodes = is.nodes ∙ sym cut ∙ ap (λ rs. trees_from (own_roots model instances rs) false (detached n forest).nodes) (sym (roots_stay_detached n forest trees h).same);
  }
    where
      tops : List ℕ
      tops = own_roots model instances (roots_in forest.nodes)

      none : has n tops ≡ false
      none = own-root model n instances (roots_in forest.nodes) (unrooted n forest trees h)

      out : has_number n (trees_from tops false forest.nodes) ≡ false
      out = ap (has_number n) (sym is.nodes) ∙ away n part is (ap (is_held model) (held-above instances n forest trees h) ∙ held)

      cut : trees_from tops false (detached n forest).nodes ≡ trees_from tops false forest.nodes
      cut =
          split tops false (without_tree n forest.nodes) (moved_to 0 (tree_of n forest.nodes)) (moved-begins tops (tree_of n forest.nodes))
          ∙ ap (λ l. trees_from tops false (without_tree n forest.nodes) ++ l) (moved-out tops n forest.nodes none)
          ∙ append-nil (trees_from tops false (without_tree n forest.nodes))
          ∙ without-stays tops n false forest.nodes out

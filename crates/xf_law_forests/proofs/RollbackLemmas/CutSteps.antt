-- A tree that was cut off is put where it stood in a forest that is alike: it is alike to the forest before.
use Rattle.std.proofs.Common.{◌≡◌, ℕ, ◌+◌, ◌==◌, Bool, true, false, ◌&&◌, ◌||◌, List, [], Some, refl, sym, ap, ◌∙◌, subst, arith}
use Rattle.std.specs.Prelude.{◌⊎◌, ◌≤◌, ◌<◌}
use Rattle.xf_def_forest.specs.declared.content.Content.{Content}
use Rattle.xf_def_forest.specs.declared.content.Kind.{Kind}
use Rattle.xf_def_forest.specs.Forest.{is_root, is_element, is_attribute, is_text, kind_at, has_number, tree_of}
use Rattle.xf_def_forest.specs.Visit.{has}
use Rattle.xf_def_forest.specs.Texts.{Keeping, is_attribute_at}
use Rattle.xf_def_forest.specs.Changes.{placed, detached, standing}
use Rattle.xf_def_forest.specs.Needs.{is_top, goes_below, MayPlace}
use Rattle.xf_def_forest.specs.WellFormed.{AreTrees, are_first}
use Rattle.xf_law_forests.proofs.RollbackLemmas.Trees.{Trees, onto, followed, times, times-followed, onto-inj}
use Rattle.xf_law_forests.proofs.RollbackLemmas.TreeShape.{Sound, is_leaf, sound-followed}
use Rattle.xf_law_forests.proofs.RollbackLemmas.TreeMoved.{Moved, moved-some}
use Rattle.xf_law_forests.proofs.RollbackLemmas.TreeBlank.{blank, moved-more}
use Rattle.xf_law_forests.proofs.RollbackLemmas.TreeFacts.{some-blank, is_at, at-times, at-absent, some-followed}
use Rattle.xf_law_forests.proofs.RollbackLemmas.KeepingTrees.{Stands, any-is}
use Rattle.xf_law_forests.proofs.RollbackLemmas.Alike.{Alike, extra-absent, later-at, later-once, later-kind}
use Rattle.xf_law_forests.proofs.RollbackLemmas.TextSteps.{is-old}
use Rattle.xf_law_forests.proofs.RollbackLemmas.TreeMoves.{removed, found, removed-absent, found-absent, followed-none, removed-followed, found-followed, tree-onto, detached-onto}
use Rattle.xf_law_forests.proofs.RollbackLemmas.TreePlaces.{with_tree, changed, changed-absent, placed-onto}
use Rattle.xf_law_forests.proofs.RollbackLemmas.MoveFacts.{moved-removed, moved-found, moved-changed, removed-times, removed-none, removed-some, changed-times}
use Rattle.xf_law_forests.proofs.RollbackLemmas.MoveBlank.{blank-removed, blank-found, blank-times, sound-removed, removed-found, found-found}
use Rattle.xf_law_forests.proofs.RollbackLemmas.TreeTops.{tops, moved-tops, blank-tops, tops-followed, tops-onto}
use Rattle.xf_law_forests.proofs.RollbackLemmas.JoinSteps.{Moves, moves-at, moves-once, moves-old, no-other, bare-sound, at-found}
use Rattle.xf_law_forests.proofs.RollbackLemmas.NodeKinds.{Each, each-of, found-tree}
use Rattle.xf_law_forests.proofs.RollbackLemmas.TreeOrder.{Ordered, ordered-onto}
use Rattle.xf_law_forests.proofs.RollbackLemmas.FirstLemmas.{ordered-removed, ordered-found, ordered-changed}
use Rattle.xf_law_forests.proofs.RollbackLemmas.TreeRanks.{is_child, child-plain, Under, under-times, changed-again, child-again, attribute-again}
use Rattle.xf_law_forests.proofs.RollbackLemmas.CutFacts.{sound-changed, sound-found-inside, changed-followed, FirstAt, first_at-ordered, first_at-absent, first_at-followed, Passes, as_child, as_attribute, blank-put}
use Rattle.xf_law_forests.proofs.RollbackLemmas.CutStands.{under-outside, under-bears, element-or-root, Place, place-child, place-attribute}
use Rattle.xf_law_forests.proofs.RollbackLemmas.AttributePlaces.{below-elements, above-attribute}
use Rattle.xf_law_forests.proofs.RollbackLemmas.BearLemmas.{Bears, number-none, found-top}

-- ---- the step

module _ (n parent place : ℕ) (k : Keeping) (sound : AreTrees k) (kn : Kind) (qn : Content → Bool) (moves : Moves kn qn) (is : kind_at n k.forest.nodes ≡ Some kn)
    (stands_ : standing n k.forest.nodes ≡ Some (parent, place)) (s : Stands k) where
  cut-at : is_at qn n s.trees ≡ true
  cut-at = moves-at n k s kn qn moves is

  cut-once : times n s.trees ≡ 1
  cut-once = moves-once n k s kn qn moves is

  cut-old : n < k.forest.next
  cut-old = moves-old n k s kn qn moves is

  cut-stands : standing n (onto 0 s.trees []) ≡ Some (parent, place)
  cut-stands = subst (λ l. standing n l ≡ Some (parent, place)) s.nodes stands_

  cut-first : are_first (onto 0 s.trees []) ≡ true
  cut-first = subst (λ l. are_first l ≡ true) s.nodes sound.first

  cut-ordered : Ordered s.trees
  cut-ordered = ordered-onto 0 s.trees [] cut-first

  cut-each : (fact : Content → Type 0) → ((c : Content) → qn c ≡ true → fact c) → Each fact n s.trees
  cut-each fact other = each-of fact qn other n s.trees (let o = cut-once in omega (arith, o)) cut-at

  child-place : ((c : Content) → qn c ≡ true → is_child c ≡ true) → Place is_child n parent place s.trees
  child-place plain = place-child n parent place s.trees cut-once (cut-each (λ c. is_child c ≡ true) plain) cut-stands

  pub is-plain : ((c : Content) → qn c ≡ true → is_child c ≡ true) → is_attribute_at n k.forest.nodes ≡ false
  is-plain plain =
      ap (is_attribute_at n) s.nodes ∙ any-is is_attribute n s.trees ∙ no-other is_attribute qn (λ c e. child-plain c (plain c e)) n s.trees (let o = cut-once in omega (arith, o)) cut-at

  attribute-place : ((c : Content) → qn c ≡ true → is_attribute c ≡ true) → Place is_attribute n parent place s.trees
  attribute-place one = place-attribute n parent place s.trees cut-once (cut-each (λ c. is_attribute c ≡ true) one) cut-stands

  -- the parent of an element is an element or a root, and that of an attribute is an element
  pub child-parent : ((c : Content) → qn c ≡ true → is_child c ≡ true) → (is_at is_element parent s.trees ≡ true) ⊎ (is_at is_root parent s.trees ≡ true)
  child-parent plain = element-or-root parent s.trees (under-bears n parent false s.trees s.sound (child-place plain).under)

  pub attribute-parent : ((c : Content) → qn c ≡ true → is_attribute c ≡ true) → is_at is_element parent s.trees ≡ true
  attribute-parent one = above-attribute n parent s.trees (attribute-place one).under (cut-each (λ c. is_attribute c ≡ true) one) cut-ordered (below-elements 0 s.trees [] cut-first)

  module _ (ns : List ℕ) (passes : Passes ns parent qn) where
    cut-under : Under n parent s.trees
    cut-under = by passes
      where
        by : Passes ns parent qn → Under n parent s.trees
        by (as_child out plain) = (child-place plain).under
        by (as_attribute one) = (attribute-place one).under

    cut-parent : times parent s.trees ≡ 1
    cut-parent = let a = (under-times n parent s.trees cut-under).1 in let b = s.once parent in omega (arith, a, b)

    cut-outside : times parent (found n s.trees) ≡ 0
    cut-outside = under-outside n parent s.trees cut-under cut-once cut-parent

    -- put again where it stood
    cut-again : changed parent (with_tree place (found n s.trees)) (removed n s.trees) ≡ s.trees
    cut-again = by passes
      where
        by : Passes ns parent qn → changed parent (with_tree place (found n s.trees)) (removed n s.trees) ≡ s.trees
        by (as_child out plain) = ap (λ i. changed parent (with_tree i (found n s.trees)) (removed n s.trees)) (child-place plain).at
            ∙ changed-again is_child n (child-again n) parent s.trees [] cut-under cut-once cut-parent (cut-each (λ c. is_child c ≡ true) plain) cut-ordered
        by (as_attribute one) = ap (λ i. changed parent (with_tree i (found n s.trees)) (removed n s.trees)) (attribute-place one).at
            ∙ changed-again is_attribute n (attribute-again n) parent s.trees [] cut-under cut-once cut-parent (cut-each (λ c. is_attribute c ≡ true) one) cut-ordered

    module _ (kp : Kind) (q : Content → Bool) (bears : Bears kp q) (above : is_at q parent s.trees ≡ true) (goes : goes_below (Some kn) (Some kp) ≡ true)
        (t : Trees) (nodes : (detached n k.forest).nodes ≡ onto 0 t []) (sound_after : Sound false t) (once_after : times n t ≤ 1)
        (k2 : Keeping) (a : Alike ns t (record k { forest = detached n k.forest }) k2) where
      abbrev cutting : Keeping
      cutting = record k { forest = detached n k.forest }

      cut-is : t ≡ followed (removed n s.trees) (found n s.trees)
      cut-is = (onto-inj 0 t (followed (removed n s.trees) (found n s.trees)) [] [] tt tt (sym nodes ∙ detached-onto n s.trees k.forest s.nodes cut-once)).0

      cut-rest : removed n t ≡ removed n s.trees
      cut-rest = ap (removed n) cut-is ∙ removed-followed n (removed n s.trees) (found n s.trees) ∙ ap (λ x. followed x (removed n (found n s.trees))) (removed-absent n (removed n s.trees) (removed-none n s.trees))
          ∙ ap (followed (removed n s.trees)) (removed-found n s.trees) ∙ followed-none (removed n s.trees)

      cut-tree : found n t ≡ found n s.trees
      cut-tree = ap (found n) cut-is ∙ found-followed n (removed n s.trees) (found n s.trees) ∙ ap (λ x. followed x (found n (found n s.trees))) (found-absent n (removed n s.trees) (removed-none n s.trees)) ∙ found-found n s.trees

      cut-has : is_at qn n t ≡ true
      cut-has = sym (at-found qn n t) ∙ ap (is_at qn n) cut-tree ∙ at-found qn n s.trees ∙ cut-at

      cut-later : is_at qn n a.later ≡ true
      cut-later = later-at n ns t cutting k2 sound_after a cut-old qn (moves.blind n) ∙ cut-has

      later-one : times n a.later ≡ 1
      later-one = let x = at-times qn n a.later cut-later in let y = later-once n ns t cutting k2 sound_after a cut-old in omega (arith, x, y)

      cut-absent : times n a.extra ≡ 0
      cut-absent = extra-absent n ns t cutting k2 sound_after a cut-old

      -- the parent
      parent-old : parent < k.forest.next
      parent-old = is-old parent k s (let b = cut-parent in omega (arith, b))

      parent-absent : times parent a.extra ≡ 0
      parent-absent = extra-absent parent ns t cutting k2 sound_after a parent-old

      parent-left : is_at q parent (removed n s.trees) ≡ true
      parent-left =
          let whole = removed-some (λ m c. (m == parent) && q c) n s.trees in
          sym (ap (λ b. is_at q parent (removed n s.trees) || b) (at-absent q parent (found n s.trees) cut-outside) ∙ or-none (is_at q parent (removed n s.trees))) ∙ whole ∙ above
        where
          or-none : (b : Bool) → (b || false) ≡ b
          or-none true = refl
          or-none false = refl

      abbrev whole : Trees
      whole = followed t a.extra

      whole-sound : Sound false whole
      whole-sound = sound-followed false t a.extra sound_after a.new_sound

      whole-once : times n whole ≤ 1
      whole-once = let x = times-followed n t a.extra in let y = cut-absent in omega (arith, x, y, once_after)

      whole-at : is_at qn n whole ≡ true
      whole-at = some-followed (λ m c. (m == n) && qn c) t a.extra ∙ ap (λ b. b || is_at qn n a.extra) cut-has

      whole-one : times n whole ≡ 1
      whole-one = let x = at-times qn n whole whole-at in let y = whole-once in omega (arith, x, y)

      rest-is : removed n whole ≡ followed (removed n s.trees) a.extra
      rest-is = removed-followed n t a.extra ∙ ap (λ x. followed x (removed n a.extra)) cut-rest ∙ ap (followed (removed n s.trees)) (removed-absent n a.extra cut-absent)

      tree-is : found n whole ≡ found n s.trees
      tree-is = found-followed n t a.extra ∙ ap (λ x. followed x (found n a.extra)) cut-tree ∙ ap (followed (found n s.trees)) (found-absent n a.extra cut-absent) ∙ followed-none (found n s.trees)

      rest-alike : Moved (blank ns (removed n whole)) (blank ns (removed n a.later))
      rest-alike = subst (λ x. Moved x (blank ns (removed n a.later))) (sym (blank-removed n ns whole)) (subst (Moved (removed n (blank ns whole))) (sym (blank-removed n ns a.later)) (moved-removed n a.like))

      later-parent : is_at q parent (removed n a.later) ≡ true
      later-parent =
          sym (some-blank (λ m c. (m == parent) && q c) (bears.blind parent) false ns (removed n a.later) (sound-removed n false a.later a.sound))
          ∙ sym (moved-some (λ m c. (m == parent) && q c) rest-alike)
          ∙ some-blank (λ m c. (m == parent) && q c) (bears.blind parent) false ns (removed n whole) (sound-removed n false whole whole-sound)
          ∙ ap (is_at q parent) rest-is ∙ some-followed (λ m c. (m == parent) && q c) (removed n s.trees) a.extra ∙ ap (λ b. b || is_at q parent a.extra) parent-left

      later-split : times parent (removed n a.later) + times parent (found n a.later) ≤ 1
      later-split = let x = removed-times parent n a.later in let y = a.once parent in omega (arith, x, y)

      later-there : times parent (removed n a.later) ≡ 1
      later-there = let x = at-times q parent (removed n a.later) later-parent in let y = later-split in omega (arith, x, y)

      later-outside : times parent (found n a.later) ≡ 0
      later-outside = let x = later-there in let y = later-split in omega (arith, x, y)

      later-top : tops n a.later ≡ true
      later-top =
          sym (blank-tops n ns a.later) ∙ sym (moved-tops n a.like) ∙ blank-tops n ns whole ∙ tops-followed n t a.extra
          ∙ ap (λ b. b || tops n a.extra) (ap (tops n) cut-is ∙ tops-followed n (removed n s.trees) (found n s.trees) ∙ ap (λ b. tops n (removed n s.trees) || b) (found-top n s.trees (let o = cut-once in omega (arith, o))) ∙ or-true (tops n (removed n s.trees)))
        where
          or-true : (b : Bool) → (b || true) ≡ true
          or-true true = refl
          or-true false = refl

      cut-parent-kind : kind_at parent k2.forest.nodes ≡ Some kp
      cut-parent-kind = later-kind parent ns t cutting k2 sound_after a parent-old kp q bears.test (bears.blind parent)
          (ap (is_at q parent) cut-is ∙ some-followed (λ m c. (m == parent) && q c) (removed n s.trees) (found n s.trees) ∙ ap (λ b. b || is_at q parent (found n s.trees)) parent-left)

      cut-kind : kind_at n k2.forest.nodes ≡ Some kn
      cut-kind = later-kind n ns t cutting k2 sound_after a cut-old kn qn moves.test (moves.blind n) cut-has

      pub cut-may : MayPlace n parent k2.forest
      cut-may = record {
        detached = ap (is_top n) a.nodes ∙ tops-onto n a.later ∙ later-top;
        outside =
            let at = tree-onto n 0 a.later [] later-one tt in
            ap (λ l. has_number parent (tree_of n l)) a.nodes ∙ ap (has_number parent) at.is ∙ number-none parent at.depth (found n a.later) later-outside;
        kinds = ap (λ x. goes_below x (kind_at parent k2.forest.nodes)) cut-kind ∙ ap (goes_below (Some kn)) cut-parent-kind ∙ goes;
      }

      abbrev again : Trees → Trees
      again x = changed parent (with_tree place (found n x)) (removed n x)

      again-blank : (x : Trees) → Sound false x → times n x ≡ 1 → is_at qn n x ≡ true → FirstAt parent (removed n x)
          → blank ns (again x) ≡ changed parent (with_tree place (found n (blank ns x))) (removed n (blank ns x))
      again-blank x sound_x one at_ first =
          let most : times n x ≤ 1 = omega (arith, one) in
          blank-put ns parent place qn passes n x (removed n x) (found-tree (λ c. qn c ≡ true) n x one (each-of (λ c. qn c ≡ true) qn (λ c e. e) n x most at_)) first
          ∙ ap (λ y. changed parent (with_tree place y) (blank ns (removed n x))) (blank-found n ns false x sound_x (each-of (λ c. is_text c ≡ false) qn moves.no_text n x most at_))
          ∙ ap (changed parent (with_tree place (found n (blank ns x)))) (blank-removed n ns x)

      again-whole : again whole ≡ followed s.trees a.extra
      again-whole =
          ap (λ x. changed parent (with_tree place x) (removed n whole)) tree-is ∙ ap (changed parent (with_tree place (found n s.trees))) rest-is
          ∙ changed-followed parent (with_tree place (found n s.trees)) (removed n s.trees) a.extra
          ∙ ap (λ x. followed x (changed parent (with_tree place (found n s.trees)) a.extra)) cut-again
          ∙ ap (followed s.trees) (changed-absent parent (with_tree place (found n s.trees)) a.extra parent-absent)

      whole-first : FirstAt parent (removed n whole)
      whole-first = subst (FirstAt parent) (sym rest-is) (first_at-followed parent (removed n s.trees) a.extra (first_at-ordered parent (removed n s.trees) (ordered-removed n s.trees cut-ordered)) (first_at-absent parent a.extra parent-absent))

      later-first : FirstAt parent (removed n a.later)
      later-first = first_at-ordered parent (removed n a.later) (ordered-removed n a.later a.first)

      again-alike : Moved (blank ns (followed s.trees a.extra)) (blank ns (again a.later))
      again-alike =
          subst (λ x. Moved (blank ns x) (blank ns (again a.later))) again-whole
          (subst (λ x. Moved x (blank ns (again a.later))) (sym (again-blank whole whole-sound whole-one whole-at whole-first))
          (subst (Moved (changed parent (with_tree place (found n (blank ns whole))) (removed n (blank ns whole)))) (sym (again-blank a.later a.sound later-one cut-later later-first))
          (subst (λ x. Moved (changed parent (with_tree place (found n (blank ns whole))) (removed n (blank ns whole))) (changed parent (with_tree place x) (removed n (blank ns a.later))))
          (moved-found n a.like (let x = blank-times n ns whole in let y = whole-once in omega (arith, x, y)))
          (moved-changed parent (with_tree place (found n (blank ns whole))) (moved-removed n a.like)))))

      again-ordered : Ordered (again a.later)
      again-ordered =
          let top = found-tree (λ c. qn c ≡ true) n a.later later-one (each-of (λ c. qn c ≡ true) qn (λ c e. e) n a.later (let o = later-one in omega (arith, o)) cut-later) in
          subst (λ x. Ordered (changed parent (with_tree place x) (removed n a.later))) (sym top.is)
          (ordered-changed parent place n top.content top.below (removed n a.later) (subst Ordered top.is (ordered-found n a.later a.first)) (ordered-removed n a.later a.first))

      pub cut-alike : (ms : List ℕ) → ((m : ℕ) → has m ns ≡ true → has m ms ≡ true) → Alike ms s.trees k (record k2 { forest = placed n parent place k2.forest })
      cut-alike ms more = record {
        later = again a.later;
        extra = a.extra;
        nodes = placed-onto n parent place a.later k2.forest a.nodes later-one later-there (bare-sound false (removed n a.later) (sound-removed n false a.later a.sound));
        kept = a.kept;
        next = a.next;
        fresh = a.fresh;
        new_sound = a.new_sound;
        sound = sound-changed parent place (found n a.later) false (removed n a.later)
            (sound-found-inside n false a.later (each-of (λ c. is_root c ≡ false) qn moves.no_root n a.later (let o = later-one in omega (arith, o)) cut-later) a.sound)
            (each-of (λ c. is_leaf c ≡ false) q bears.no_leaf parent (removed n a.later) (let o = later-there in omega (arith, o)) later-parent)
            (sound-removed n false a.later a.sound);
        first = again-ordered;
        once = λ p. let x = changed-times p parent place (found n a.later) (removed n a.later) later-there in let y = removed-times p n a.later in let z = a.once p in omega (arith, x, y, z);
        like = moved-more ns ms more (followed s.trees a.extra) (again a.later) again-alike;
      }

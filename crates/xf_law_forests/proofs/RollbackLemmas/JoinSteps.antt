-- A tree that was attached is cut off in a forest that is alike: it is alike to the forest before.
use Rattle.std.proofs.Common.{◌≡◌, ℕ, ◌+◌, ◌==◌, Bool, true, false, ◌&&◌, ◌||◌, List, [], ◌∷◌, Option, Some, None, refl, sym, ap, ◌∙◌, subst, inl, inr, arith}
use Rattle.std.specs.Prelude.{◌⊎◌, ◌≤◌, ◌<◌, is_some}
use Rattle.std.specs.List.{list_any}
use Rattle.std.proofs.lemmas.Bool.{cases_Bool}
use Rattle.xf_def_forest.specs.declared.content.Node.{Node}
use Rattle.xf_def_forest.specs.declared.content.Content.{Content}
use Rattle.xf_def_forest.specs.declared.content.Content.TheVariants.{Root, Element, Attribute, Text}
use Rattle.xf_def_forest.specs.declared.content.Kind.{Kind}
use Rattle.xf_def_forest.specs.declared.content.Kind.TheVariants as kind
use Rattle.xf_def_forest.specs.Forest.{Forest, is_root, is_element, is_attribute, is_text, kind_at, has_number, tree_of}
use Rattle.xf_def_forest.specs.Visit.{visits, parent_of}
use Rattle.xf_def_forest.specs.Changes.{placed, detached}
use Rattle.xf_def_forest.specs.Texts.{Keeping}
use Rattle.xf_def_forest.specs.Needs.{is_top, MayAttach, MayDetach, MayStand, in_element, in_root, as_attribute}
use Rattle.xf_law_forests.proofs.RollbackLemmas.Trees.{Trees, none, tree, onto, followed, times, times-followed, onto-inj}
use Rattle.xf_law_forests.proofs.RollbackLemmas.TreeShape.{Sound, sound-followed, node_times, times-onto}
use Rattle.xf_law_forests.proofs.RollbackLemmas.TreeMoved.{Moved, through, moved-followed}
use Rattle.xf_law_forests.proofs.RollbackLemmas.TreeBlank.{blank, blank-followed, moved-blank}
use Rattle.xf_law_forests.proofs.RollbackLemmas.TreeFacts.{Blind, is_at, at-times, at-absent, or-cases, some-followed, blind-element, blind-attribute}
use Rattle.xf_law_forests.proofs.RollbackLemmas.KeepingTrees.{Stands, KindTest, any-is, kind-any, element-test, attribute-test, absent-times}
use Rattle.xf_law_forests.proofs.RollbackLemmas.FirstLemmas.{ordered-removed, ordered-found, ordered-followed}
use Rattle.xf_law_forests.proofs.RollbackLemmas.Alike.{Alike, extra-absent, later-at, later-once, later-kind}
use Rattle.xf_law_forests.proofs.RollbackLemmas.TextSteps.{is-old}
use Rattle.xf_law_forests.proofs.RollbackLemmas.TreeMoves.{removed, found, removed-followed, found-followed, tree-onto, detached-onto}
use Rattle.xf_law_forests.proofs.RollbackLemmas.NodeKinds.{first-at, each-of}
use Rattle.xf_law_forests.proofs.RollbackLemmas.TreePlaces.{with_tree, changed, AllBare, placed-onto}
use Rattle.xf_law_forests.proofs.RollbackLemmas.MoveFacts.{moved-removed, moved-found, removed-times, removed-none, removed-some}
use Rattle.xf_law_forests.proofs.RollbackLemmas.MoveBlank.{blank-removed, blank-found, blank-times, sound-removed, sound-found, removed-changed, removed-found, found-found, found-changed}
use Rattle.xf_law_forests.proofs.RollbackLemmas.TreeTops.{RootsFirst, tops, moved-tops, blank-tops, changed-tops, absent-tops, tops-followed, tops-onto, TopAt, top-at, top-followed, top-last, fresh-no_roots, has-parent}

-- ---- kinds

-- the kind of a node that can be cut off and attached
pub record Moves (k : Kind) (q : Content → Bool) : Type 0 where
  pub test : KindTest k q
  pub blind : (n : ℕ) → Blind (λ m c. (m == n) && q c)
  pub no_text : (c : Content) → q c ≡ true → is_text c ≡ false
  pub no_root : (c : Content) → q c ≡ true → is_root c ≡ false

pub element-moves : Moves kind.Element is_element
element-moves = record { test = element-test; blind = blind-element; no_text = no_text; no_root = no_root }
  where
    no_text : (c : Content) → is_element c ≡ true → is_text c ≡ false
    no_text Root e = refl
    no_text (Element name) e = refl
    no_text (Attribute name text) e = refl
    no_text (Text text) e = cc e

    no_root : (c : Content) → is_element c ≡ true → is_root c ≡ false
    no_root Root e = cc e
    no_root (Element name) e = refl
    no_root (Attribute name text) e = refl
    no_root (Text text) e = refl

pub attribute-moves : Moves kind.Attribute is_attribute
attribute-moves = record { test = attribute-test; blind = blind-attribute; no_text = no_text; no_root = no_root }
  where
    no_text : (c : Content) → is_attribute c ≡ true → is_text c ≡ false
    no_text Root e = refl
    no_text (Element name) e = refl
    no_text (Attribute name text) e = refl
    no_text (Text text) e = cc e

    no_root : (c : Content) → is_attribute c ≡ true → is_root c ≡ false
    no_root Root e = cc e
    no_root (Element name) e = refl
    no_root (Attribute name text) e = refl
    no_root (Text text) e = refl

pub kind-times : (k : Kind) (n : ℕ) (nodes : List Node) → kind_at n nodes ≡ Some k → 1 ≤ node_times n nodes
kind-times k n [] h = absurd (none-some h)
  where
    none-some : {a : Kind} → ◌≡◌ {A = Option Kind} None (Some a) → ⊥
    none-some e = cc e
kind-times k n (x ∷ xs) h =
    elim (cases_Bool (x.number == n)) [
      | inl e ↦ rw e (omega arith)
      | inr e ↦ let z : 1 ≤ node_times n xs = kind-times k n xs (rw e at h) in rw e (omega (arith, z))
    ]

-- a node of one kind that is there once is of no other
pub no-other : (p q : Content → Bool) → ((c : Content) → q c ≡ true → p c ≡ false) → (n : ℕ) (t : Trees) → times n t ≤ 1 → is_at q n t ≡ true → is_at p n t ≡ false
no-other p q other n none once at_ = refl
no-other p q other n (tree m c k r) once at_ =
    elim (cases_Bool (m == n)) [
      | inl e ↦
          let in_k : times n k ≡ 0 = omega (arith, (rw e at once)) in
          let in_r : times n r ≡ 0 = omega (arith, (rw e at once)) in
          let here : q c ≡ true = first-at q n c k r (rw e at at_) in_k in_r in
          rw (e, other c here, at-absent p n k in_k, at-absent p n r in_r) refl
      | inr e ↦
          let whole : times n k + times n r ≤ 1 = omega (arith, (rw e at once)) in
          rw e (or-cases (is_at q n k) (is_at q n r) (rw e at at_) ((is_at p n k || is_at p n r) ≡ false)
          (λ g. let z = at-times q n k g in rw (no-other p q other n k (omega (arith, whole)) g, at-absent p n r (omega (arith, whole, z))) refl)
          (λ g. let z = at-times q n r g in rw (at-absent p n k (omega (arith, whole, z)), no-other p q other n r (omega (arith, whole)) g) refl))
    ]

pub bare-sound : (u : Bool) (t : Trees) → Sound u t → AllBare t
bare-sound u none h = tt
bare-sound u (tree n c k r) h = (λ e. h.0 (ap (λ b. b || is_text c) e), bare-sound true k h.2, bare-sound u r h.3)

-- the top of a tree is in it
pub at-found : (q : Content → Bool) (n : ℕ) (t : Trees) → is_at q n (found n t) ≡ is_at q n t
at-found q n t = ap (λ b. b || is_at q n (found n t)) (sym (at-absent q n (removed n t) (removed-none n t))) ∙ removed-some (λ m c. (m == n) && q c) n t

number-absent : (p d : ℕ) (t : Trees) → has_number p (onto d t []) ≡ false → times p t ≡ 0
number-absent p d t h = let a = absent-times p (onto d t []) h in let b = times-onto p d t [] in omega (arith, a, b)

-- a node that goes below another: the kinds of both
pub record Joins (n parent : ℕ) (nodes : List Node) : Type 0 where
  pub own : Kind
  pub test : Content → Bool
  pub moves : Moves own test
  pub is : kind_at n nodes ≡ Some own
  pub above : Kind
  pub has_parent : kind_at parent nodes ≡ Some above
  pub either : (later : List Node) → kind_at n later ≡ Some own → (kind_at n later ≡ Some kind.Element) ⊎ (kind_at n later ≡ Some kind.Attribute)

pub joins : (n parent place : ℕ) (forest : Forest) → MayStand n parent place forest → Joins n parent forest.nodes
joins n parent place forest (in_element is above le) =
    record { own = kind.Element; test = is_element; moves = element-moves; is = is; above = kind.Element; has_parent = above; either = λ later e. inl e }
joins n parent place forest (in_root is above none_ first) =
    record { own = kind.Element; test = is_element; moves = element-moves; is = is; above = kind.Root; has_parent = above; either = λ later e. inl e }
joins n parent place forest (as_attribute is above lacks) =
    record { own = kind.Attribute; test = is_attribute; moves = attribute-moves; is = is; above = kind.Element; has_parent = above; either = λ later e. inr e }

-- a node of a kind that moves stands once in the trees
module _ (n : ℕ) (k : Keeping) (s : Stands k) (kn : Kind) (q : Content → Bool) (moves : Moves kn q) (is : kind_at n k.forest.nodes ≡ Some kn) where
  pub moves-at : is_at q n s.trees ≡ true
  moves-at = sym (any-is q n s.trees) ∙ ap (list_any (λ (x : Node). (x.number == n) && q x.content)) (sym s.nodes) ∙ kind-any kn q moves.test n k.forest.nodes is

  pub moves-once : times n s.trees ≡ 1
  moves-once = let a = at-times q n s.trees moves-at in let b = s.once n in omega (arith, a, b)

  pub moves-old : n < k.forest.next
  moves-old = is-old n k s (at-times q n s.trees moves-at)

  pub moves-no_root : is_at is_root n s.trees ≡ false
  moves-no_root = no-other is_root q moves.no_root n s.trees (let b = s.once n in omega (arith, b)) moves-at

-- so does one that may be cut off
module _ (n : ℕ) (k : Keeping) (s : Stands k) (may : MayDetach n k.forest) where
  pub detach-once : times n s.trees ≡ 1
  detach-once = by may.kind
    where
      by : (kind_at n k.forest.nodes ≡ Some kind.Element) ⊎ (kind_at n k.forest.nodes ≡ Some kind.Attribute) → times n s.trees ≡ 1
      by (inl is) = moves-once n k s kind.Element is_element element-moves is
      by (inr is) = moves-once n k s kind.Attribute is_attribute attribute-moves is

  pub detach-old : n < k.forest.next
  detach-old = is-old n k s (let h = detach-once in omega (arith, h))

  pub detach-no_root : is_at is_root n s.trees ≡ false
  detach-no_root = by may.kind
    where
      by : (kind_at n k.forest.nodes ≡ Some kind.Element) ⊎ (kind_at n k.forest.nodes ≡ Some kind.Attribute) → is_at is_root n s.trees ≡ false
      by (inl is) = moves-no_root n k s kind.Element is_element element-moves is
      by (inr is) = moves-no_root n k s kind.Attribute is_attribute attribute-moves is

-- ---- the step, at the place where the tree came

module _ (n parent given place : ℕ) (k : Keeping) (may : MayAttach n parent given k.forest) (s : Stands k) (j : Joins n parent k.forest.nodes) where
  join-at : is_at j.test n s.trees ≡ true
  join-at = moves-at n k s j.own j.test j.moves j.is

  pub join-once : times n s.trees ≡ 1
  join-once = moves-once n k s j.own j.test j.moves j.is

  join-old : n < k.forest.next
  join-old = moves-old n k s j.own j.test j.moves j.is

  parent-live : 1 ≤ times parent s.trees
  parent-live =
      let a : 1 ≤ node_times parent (onto 0 s.trees []) = subst (λ l. 1 ≤ node_times parent l) s.nodes (kind-times j.above parent k.forest.nodes j.has_parent) in
      let b = times-onto parent 0 s.trees [] in omega (arith, a, b)

  parent-outside : times parent (found n s.trees) ≡ 0
  parent-outside =
      let at = tree-onto n 0 s.trees [] join-once tt in
      number-absent parent at.depth (found n s.trees) (subst (λ l. has_number parent l ≡ false) (ap (tree_of n) s.nodes ∙ at.is) may.outside)

  pub parent-there : times parent (removed n s.trees) ≡ 1
  parent-there = let a = removed-times parent n s.trees in let b = parent-outside in let c = parent-live in let d = s.once parent in omega (arith, a, b, c, d)

  pub joined-nodes : (placed n parent place k.forest).nodes ≡ onto 0 (changed parent (with_tree place (found n s.trees)) (removed n s.trees)) []
  joined-nodes = placed-onto n parent place s.trees k.forest s.nodes join-once parent-there (bare-sound false (removed n s.trees) (sound-removed n false s.trees s.sound))

  module _ (rooted : RootsFirst s.trees) (t : Trees) (nodes : (placed n parent place k.forest).nodes ≡ onto 0 t []) (sound_after : Sound false t) (once_after : times n t ≤ 1) (ns : List ℕ)
      (k2 : Keeping) (a : Alike ns t (record k { forest = placed n parent place k.forest }) k2) where
    was-top : TopAt n s.trees
    was-top = top-at n s.trees rooted (sym (tops-onto n s.trees) ∙ ap (is_top n) (sym s.nodes) ∙ may.detached) (moves-no_root n k s j.own j.test j.moves j.is)

    abbrev joint : Keeping
    joint = record k { forest = placed n parent place k.forest }

    joined-is : t ≡ changed parent (with_tree place (found n s.trees)) (removed n s.trees)
    joined-is = (onto-inj 0 t (changed parent (with_tree place (found n s.trees)) (removed n s.trees)) [] [] tt tt (sym nodes ∙ joined-nodes)).0

    joined-rest : removed n t ≡ removed n s.trees
    joined-rest = ap (removed n) joined-is ∙ removed-changed n parent place (found n s.trees) (removed n s.trees) (removed-found n s.trees) (removed-none n s.trees)

    joined-tree : found n t ≡ found n s.trees
    joined-tree = ap (found n) joined-is ∙ found-changed n parent place (found n s.trees) (removed n s.trees) (found-found n s.trees) (removed-none n s.trees) parent-there

    joined-at : is_at j.test n t ≡ true
    joined-at = sym (at-found j.test n t) ∙ ap (is_at j.test n) joined-tree ∙ at-found j.test n s.trees ∙ join-at

    joined-later : is_at j.test n a.later ≡ true
    joined-later = later-at n ns t joint k2 sound_after a join-old j.test (j.moves.blind n) ∙ joined-at

    joined-once : times n a.later ≡ 1
    joined-once = let x = at-times j.test n a.later joined-later in let y = later-once n ns t joint k2 sound_after a join-old in omega (arith, x, y)

    joined-absent : times n a.extra ≡ 0
    joined-absent = extra-absent n ns t joint k2 sound_after a join-old

    joined-top : tops n a.later ≡ false
    joined-top =
        sym (blank-tops n ns a.later) ∙ sym (moved-tops n a.like) ∙ blank-tops n ns (followed t a.extra) ∙ tops-followed n t a.extra
        ∙ ap (λ b. b || tops n a.extra) (ap (tops n) joined-is ∙ changed-tops n parent (with_tree place (found n s.trees)) (removed n s.trees) ∙ absent-tops n (removed n s.trees) (removed-none n s.trees))
        ∙ absent-tops n a.extra joined-absent

    pub joined-below : is_some (parent_of n (visits k2.forest.nodes)) ≡ true
    joined-below = subst (λ l. is_some (parent_of n (visits l)) ≡ true) (sym a.nodes) (has-parent n a.later joined-top (let x = joined-once in omega (arith, x)))

    pub joined-kind : kind_at n k2.forest.nodes ≡ Some j.own
    joined-kind = later-kind n ns t joint k2 sound_after a join-old j.own j.test j.moves.test (j.moves.blind n) joined-at

    abbrev whole : Trees
    whole = followed t a.extra

    whole-once : times n whole ≤ 1
    whole-once = let x = times-followed n t a.extra in let y = joined-absent in omega (arith, x, y, once_after)

    whole-sound : Sound false whole
    whole-sound = sound-followed false t a.extra sound_after a.new_sound

    whole-at : is_at j.test n whole ≡ true
    whole-at = some-followed (λ m c. (m == n) && j.test c) t a.extra ∙ ap (λ b. b || is_at j.test n a.extra) joined-at

    -- in the forest before, the tree put last
    before-last : followed (removed n whole) (found n whole) ≡ followed (removed n (followed s.trees a.extra)) (found n (followed s.trees a.extra))
    before-last =
        ap (λ x. followed x (found n whole)) (removed-followed n t a.extra ∙ ap (λ x. followed x (removed n a.extra)) joined-rest ∙ sym (removed-followed n s.trees a.extra))
        ∙ ap (followed (removed n (followed s.trees a.extra))) (found-followed n t a.extra ∙ ap (λ x. followed x (found n a.extra)) joined-tree ∙ sym (found-followed n s.trees a.extra))

    moved-back : Moved (followed s.trees a.extra) (followed (removed n whole) (found n whole))
    moved-back = subst (Moved (followed s.trees a.extra)) (sym before-last)
        (top-last n (followed s.trees a.extra) (top-followed n s.trees a.extra was-top (fresh-no_roots k.forest.next a.extra a.fresh))
        (let x = times-followed n s.trees a.extra in let y = joined-absent in let z = join-once in omega (arith, x, y, z)))

    -- what cutting off leaves of both
    cut-alike : Moved (blank ns (followed (removed n whole) (found n whole))) (blank ns (followed (removed n a.later) (found n a.later)))
    cut-alike =
        let one = each-of (λ c. is_text c ≡ false) j.test j.moves.no_text n whole whole-once whole-at in
        let two = each-of (λ c. is_text c ≡ false) j.test j.moves.no_text n a.later (let x = joined-once in omega (arith, x)) joined-later in
        let left : blank ns (followed (removed n whole) (found n whole)) ≡ followed (removed n (blank ns whole)) (found n (blank ns whole))
        = blank-followed ns (removed n whole) (found n whole) ∙ ap (λ x. followed x (blank ns (found n whole))) (blank-removed n ns whole) ∙ ap (followed (removed n (blank ns whole))) (blank-found n ns false whole whole-sound one) in
        let right : blank ns (followed (removed n a.later) (found n a.later)) ≡ followed (removed n (blank ns a.later)) (found n (blank ns a.later))
        = blank-followed ns (removed n a.later) (found n a.later) ∙ ap (λ x. followed x (blank ns (found n a.later))) (blank-removed n ns a.later) ∙ ap (followed (removed n (blank ns a.later))) (blank-found n ns false a.later a.sound two) in
        subst (λ x. Moved x (blank ns (followed (removed n a.later) (found n a.later)))) (sym left)
        (subst (Moved (followed (removed n (blank ns whole)) (found n (blank ns whole)))) (sym right)
        (subst (λ x. Moved (followed (removed n (blank ns whole)) (found n (blank ns whole))) (followed (removed n (blank ns a.later)) x)) (moved-found n a.like (let x = blank-times n ns whole in let y = whole-once in omega (arith, x, y)))
        (moved-followed (found n (blank ns whole)) (moved-removed n a.like))))

    pub joined-alike : Alike ns s.trees k (record k2 { forest = detached n k2.forest })
    joined-alike = record {
      later = followed (removed n a.later) (found n a.later);
      extra = a.extra;
      nodes = detached-onto n a.later k2.forest a.nodes joined-once;
      kept = a.kept;
      next = a.next;
      fresh = a.fresh;
      new_sound = a.new_sound;
      sound = sound-followed false (removed n a.later) (found n a.later) (sound-removed n false a.later a.sound) (sound-found n false a.later a.sound);
      first = ordered-followed (removed n a.later) (found n a.later) (ordered-removed n a.later a.first) (ordered-found n a.later a.first);
      once = λ p. let x = removed-times p n a.later in let y = times-followed p (removed n a.later) (found n a.later) in let z = a.once p in omega (arith, x, y, z);
      like = through (moved-blank ns moved-back) cut-alike;
    }

-- A text that was set is put back in a forest that is alike: it is alike to the forest before.
use Rattle.std.proofs.Common.{◌≡◌, ℕ, ◌+◌, ◌==◌, Bool, true, false, ◌&&◌, ◌||◌, List, [], ◌∷◌, ◌++◌, nat_lt, Some, refl, sym, ap, ◌∙◌, subst, inl, inr, arith}
use Rattle.std.specs.Prelude.{◌⊎◌, ◌≤◌, ◌<◌, filter, if◌then◌else◌}
use Rattle.std.specs.List.{list_any}
use Rattle.std.proofs.lemmas.Bool.{cases_Bool}
use Rattle.std.proofs.lemmas.Bool.Decides.{nat_tests}
use Rattle.xf_def_forest.specs.declared.content.Node.{Node}
use Rattle.xf_def_forest.specs.declared.content.Kind.TheVariants as kind
use Rattle.xf_def_forest.specs.Forest.{is_element, is_attribute, own_text, kind_at, tree_of}
use Rattle.xf_def_forest.specs.Visit.{has, numbers, visits}
use Rattle.xf_def_forest.specs.Shape.{has_elements}
use Rattle.xf_def_forest.specs.Texts.{Keeping, KeptText, element_texts, one_text, with_texts, is_attribute_at, texts_in, kept_from, before_of, taken_from, put_back, given_up, is_of, without, back}
use Rattle.xf_def_forest.specs.Needs.{IsSettable, MayPutBack, are_kept_of}
use Rattle.xf_def_forest.specs.WellFormed.{AreTrees, are_first}
use Rattle.xf_def_forest.proofs.RunLemmas.{IsLeafAt}
use Rattle.xf_def_forest.specs.Settle.{with_numbered_text}
use Rattle.xf_def_forest.proofs.SettleLaws.{put_back-after_numbered}
use Rattle.xf_def_forest.proofs.BackLaws.{HasText, outside-all, false-true, and-true, one_number}
use Rattle.xf_law_forests.specs.Rollback.Made.{with_new_text}
use Rattle.xf_law_forests.proofs.RollbackLemmas.Trees.{Trees, none, tree, onto, followed, times, times-followed, onto-inj}
use Rattle.xf_law_forests.proofs.RollbackLemmas.TreeTexts.{lone, attributes, retexted, texts-onto, retexted-absent}
use Rattle.xf_law_forests.proofs.RollbackLemmas.TreeVisits.{elements, elements-are}
use Rattle.xf_law_forests.proofs.RollbackLemmas.TreeShape.{Sound}
use Rattle.xf_law_forests.proofs.RollbackLemmas.TreeMoved.{Moved}
use Rattle.xf_law_forests.proofs.RollbackLemmas.TreeBlank.{blank, AreTexts, LeafAt, leaf-followed, leaf-absent, moved-more, blank-followed}
use Rattle.xf_law_forests.proofs.RollbackLemmas.TreeAgain.{retexted-alike, retexted-within}
use Rattle.xf_law_forests.proofs.RollbackLemmas.TreeFacts.{is_at, at-times, sound-retexted, blind-element}
use Rattle.xf_law_forests.proofs.RollbackLemmas.TreeLeaves.{leaf-of, bare-leaf, elements-retexted, at-retexted, retexted-times}
use Rattle.xf_law_forests.proofs.RollbackLemmas.TreeOrder.{ordered-onto}
use Rattle.xf_law_forests.proofs.RollbackLemmas.TreeRuns.{leaf-onto}
use Rattle.xf_law_forests.proofs.RollbackLemmas.KeepingTrees.{Stands, kept_times, any-is, kind-any, element-test, attribute-test, back-texts, back-times}
use Rattle.xf_law_forests.proofs.RollbackLemmas.FirstLemmas.{ordered-retexted}
use Rattle.xf_law_forests.proofs.RollbackLemmas.Alike.{fresh-less, Alike, extra-absent, later-at, later-elements, later-once, later-kind, later-childless}

retexted-followed : (n : ℕ) (s a b : Trees) → retexted n s (followed a b) ≡ followed (retexted n s a) (retexted n s b)
retexted-followed n s none b = refl
retexted-followed n s (tree m c k r) b = ap (tree m c (if m == n then followed (attributes k) s else retexted n s k)) (retexted-followed n s r b)

pub one_text-texts : (n : ℕ) (text : List ℕ) → AreTexts (lone (one_text n text))
one_text-texts n [] = tt
one_text-texts n (c ∷ cs) = (refl, refl, tt)

-- ---- the kept texts

owner-more : (owner n : ℕ) (ts ss : List KeptText) → list_any (λ (t : KeptText). (t.number == n) && (t.owner == owner)) ss ≡ true → list_any (λ (t : KeptText). (t.number == n) && (t.owner == owner)) (ts ++ ss) ≡ true
owner-more owner n [] ss h = h
owner-more owner n (t ∷ ts) ss h = ap (λ b. ((t.number == n) && (t.owner == owner)) || b) (owner-more owner n ts ss h) ∙ or-true ((t.number == n) && (t.owner == owner))
  where
    or-true : (b : Bool) → (b || true) ≡ true
    or-true true = refl
    or-true false = refl

same_number : (n : ℕ) → (n == n) ≡ true
same_number n = grind (arith, nat_tests)

are_kept-more : (owner : ℕ) (ns : List ℕ) (ts ss : List KeptText) → are_kept_of owner ns ss ≡ true → are_kept_of owner ns (ts ++ ss) ≡ true
are_kept-more owner [] ts ss h = refl
are_kept-more owner (n ∷ ns) ts ss h =
    let parts = and-true (list_any (λ (t : KeptText). (t.number == n) && (t.owner == owner)) ss) (are_kept_of owner ns ss) h in
    rw (owner-more owner n ts ss parts.0) (are_kept-more owner ns ts ss parts.1)

kept-first : (owner : ℕ) (ns : List ℕ) (t : KeptText) (ts : List KeptText) → are_kept_of owner ns ts ≡ true → are_kept_of owner ns (t ∷ ts) ≡ true
kept-first owner ns t ts h = are_kept-more owner ns (t ∷ []) ts h

own-kept : (owner : ℕ) (xs : List Node) → are_kept_of owner (numbers xs) (kept_from owner xs) ≡ true
own-kept owner [] = refl
own-kept owner (x ∷ xs) = rw (same_number x.number, same_number owner) (kept-first owner (numbers xs) (record { number = x.number; owner = owner; text = own_text x.content }) (kept_from owner xs) (own-kept owner xs))

-- ---- an element

true-false : true ≡ false → ⊥
true-false e = false-true (sym e)

-- a node that stands has an old number
pub is-old : (n : ℕ) (k : Keeping) (s : Stands k) → 1 ≤ times n s.trees → n < k.forest.next
is-old n k s h =
    elim (cases_Bool (nat_lt n k.forest.next)) [
      | inl e ↦ grind (arith, nat_tests, e)
      | inr e ↦ let ge : k.forest.next ≤ n = grind (arith, nat_tests, e) in let z = s.old n ge in let no : ⊥ = omega (arith, z, h) in absurd no
    ]

module _ (number more n : ℕ) (text : List ℕ) (k : Keeping) (sound : AreTrees k) (able : IsSettable n k.forest) (s : Stands k) (other : is_attribute_at n k.forest.nodes ≡ false) where
  abbrev texts : List Node
  texts = texts_in (tree_of n k.forest.nodes)

  abbrev new : List Node
  new = one_text number text

  is-element : kind_at n k.forest.nodes ≡ Some kind.Element
  is-element = by able.kind
    where
      by : (kind_at n k.forest.nodes ≡ Some kind.Attribute) ⊎ (kind_at n k.forest.nodes ≡ Some kind.Element) → kind_at n k.forest.nodes ≡ Some kind.Element
      by (inl h) = absurd (true-false (sym (kind-any kind.Attribute is_attribute attribute-test n k.forest.nodes h) ∙ other))
      by (inr h) = h

  element-at : is_at is_element n s.trees ≡ true
  element-at = sym (any-is is_element n s.trees) ∙ ap (list_any (λ (x : Node). (x.number == n) && is_element x.content)) (sym s.nodes) ∙ kind-any kind.Element is_element element-test n k.forest.nodes is-element

  element-once : times n s.trees ≡ 1
  element-once = let a = at-times is_element n s.trees element-at in let b = s.once n in omega (arith, a, b)

  pub element-old : n < k.forest.next
  element-old = is-old n k s (at-times is_element n s.trees element-at)

  element-none : elements false n s.trees ≡ false
  element-none = sym (elements-are n s.trees) ∙ ap (λ l. has_elements (visits l) n) (sym s.nodes) ∙ able.childless

  element-leaf : LeafAt n s.trees
  element-leaf = leaf-of n false false s.trees s.sound (let b = s.once n in omega (arith, b)) element-at element-none

  pub after-nodes : with_numbered_text number n text k.forest.nodes ≡ onto 0 (retexted n (lone new) s.trees) []
  after-nodes = rw other (ap (with_texts n new) s.nodes ∙ texts-onto n new 0 s.trees [] element-once (bare-leaf n s.trees element-leaf) tt)

  before-is : before_of n k.forest.nodes ≡ element_texts (numbers texts)
  before-is = rw other refl

  taken-is : taken_from n k.forest.nodes ≡ kept_from n texts
  taken-is = rw other refl

  has_texts : HasText n k.forest.nodes
  has_texts = inr (other, subst (IsLeafAt n) (sym s.nodes) (leaf-onto n 0 s.trees [] element-leaf (ordered-onto 0 s.trees [] (subst (λ l. are_first l ≡ true) s.nodes sound.first)) tt tt))

  undone-is : put_back n (element_texts (numbers texts)) (with_new_text number more n text k) ≡ record k { forest = record k.forest { next = (k.forest.next + more) } }
  undone-is = subst (λ b. put_back n b (with_new_text number more n text k) ≡ record k { forest = record k.forest { next = (k.forest.next + more) } }) before-is
      (put_back-after_numbered number more n text k sound.apart (outside-all k.forest.nodes k.kept sound.kept_outside) has_texts)

  module _ (t : Trees) (nodes : with_numbered_text number n text k.forest.nodes ≡ onto 0 t []) (sound_after : Sound false t) (once_after : times n t ≤ 1) (ns : List ℕ) where
    after-is : t ≡ retexted n (lone new) s.trees
    after-is = (onto-inj 0 t (retexted n (lone new) s.trees) [] [] tt tt (sym nodes ∙ after-nodes)).0

    after-at : is_at is_element n t ≡ true
    after-at = ap (is_at is_element n) after-is ∙ at-retexted n (lone new) s.trees element-leaf element-at

    after-none : elements false n t ≡ false
    after-none = ap (elements false n) after-is ∙ elements-retexted false n (lone new) s.trees (one_text-texts number text) element-leaf element-none

    after-leaf : LeafAt n t
    after-leaf = leaf-of n false false t sound_after once_after after-at after-none

    -- the forest before is alike where the texts do not count
    pub element-known : has n ns ≡ true → (k2 : Keeping) → Alike (n ∷ ns) t (given_up (element_texts (numbers texts)) (with_new_text number more n text k)) k2 → Alike ns s.trees k k2
    element-known within k2 a = record {
      later = a.later;
      extra = a.extra;
      nodes = a.nodes;
      kept = a.kept ∙ kept-is;
      next = let h = a.next in omega (arith, h);
      fresh = fresh-less k.forest.next (k.forest.next + more) a.extra (omega arith) a.fresh;
      new_sound = a.new_sound;
      sound = a.sound;
      first = a.first;
      once = λ p. subst (λ l. times p a.later + kept_times p l ≤ 1) kept-is (a.once p);
      like =
          subst (λ x. Moved x (blank ns a.later)) (blank-followed ns t a.extra ∙ ap (λ x. followed x (blank ns a.extra)) (ap (blank ns) after-is ∙ retexted-within n (lone new) ns s.trees within (one_text-texts number text) element-leaf) ∙ sym (blank-followed ns s.trees a.extra))
          (moved-more (n ∷ ns) ns wider (followed t a.extra) a.later a.like);
    }
      where
        kept-is : without (numbers texts) (with_new_text number more n text k).kept ≡ k.kept
        kept-is = ap (λ x. x.kept) undone-is

        wider : (m : ℕ) → has m (n ∷ ns) ≡ true → has m ns ≡ true
        wider m h = elim (cases_Bool (m == n)) [ inl p ↦ subst (λ x. has x ns ≡ true) (sym (one_number m n p)) within | inr p ↦ (rw p at h) ]

    -- what was before is put back
    module _ (k2 : Keeping) (a : Alike (n ∷ ns) t (with_new_text number more n text k) k2) where
      abbrev came : Trees
      came = lone (back (filter (is_of (numbers texts)) (with_new_text number more n text k).kept))

      after-old : n < (k.forest.next + more)
      after-old = let h = element-old in omega (arith, h)

      came-is : retexted n came t ≡ s.trees
      came-is =
          (onto-inj 0 (retexted n came t) s.trees [] [] tt tt
          (sym (texts-onto n (back (filter (is_of (numbers texts)) (with_new_text number more n text k).kept)) 0 t [] (let x = at-times is_element n t after-at in omega (arith, x, once_after)) (bare-leaf n t after-leaf) tt)
          ∙ ap (with_texts n (back (filter (is_of (numbers texts)) (with_new_text number more n text k).kept))) (sym nodes)
          ∙ ap (λ x. x.forest.nodes) undone-is ∙ s.nodes)).0

      again-at : is_at is_element n a.later ≡ true
      again-at = later-at n (n ∷ ns) t (with_new_text number more n text k) k2 sound_after a after-old is_element (blind-element n) ∙ after-at

      again-once : times n a.later ≤ 1
      again-once = later-once n (n ∷ ns) t (with_new_text number more n text k) k2 sound_after a after-old

      again-leaf : LeafAt n a.later
      again-leaf = leaf-of n false false a.later a.sound again-once again-at (later-elements n (n ∷ ns) t (with_new_text number more n text k) k2 sound_after a after-old ∙ after-none)

      came-absent : times n a.extra ≡ 0
      came-absent = extra-absent n (n ∷ ns) t (with_new_text number more n text k) k2 sound_after a after-old

      pub element-may : MayPutBack n (element_texts (numbers texts)) k2
      element-may = record {
        fits = (
          later-kind n (n ∷ ns) t (with_new_text number more n text k) k2 sound_after a after-old kind.Element is_element element-test (blind-element n) after-at,
          subst (λ l. are_kept_of n (numbers texts) l ≡ true) (sym (a.kept ∙ ap (λ l. k.kept ++ l) taken-is)) (are_kept-more n (numbers texts) k.kept (kept_from n texts) (own-kept n texts)),
        );
        childless = later-childless n (n ∷ ns) t (with_new_text number more n text k) k2 sound_after a after-old after-none;
      }

      back-once : (p : ℕ) → times p (retexted n came a.later) + kept_times p k.kept ≤ 1
      back-once p =
          let one = retexted-times p n came a.later again-once in
          let two = back-times p (numbers texts) (with_new_text number more n text k).kept in
          let left : kept_times p (without (numbers texts) (with_new_text number more n text k).kept) ≡ kept_times p k.kept = ap (λ x. kept_times p x.kept) undone-is in
          let all = a.once p in
          omega (arith, one, two, left, all)

      pub element-alike : Alike ns s.trees k (put_back n (element_texts (numbers texts)) k2)
      element-alike = record {
        later = retexted n came a.later;
        extra = a.extra;
        nodes =
            ap (λ l. with_texts n (back (filter (is_of (numbers texts)) l)) k2.forest.nodes) a.kept
            ∙ ap (with_texts n (back (filter (is_of (numbers texts)) (with_new_text number more n text k).kept))) a.nodes
            ∙ texts-onto n (back (filter (is_of (numbers texts)) (with_new_text number more n text k).kept)) 0 a.later []
            (let x = at-times is_element n a.later again-at in let y = again-once in omega (arith, x, y)) (bare-leaf n a.later again-leaf) tt;
        kept = ap (without (numbers texts)) a.kept ∙ ap (λ x. x.kept) undone-is;
        next = let h = a.next in omega (arith, h);
        fresh = fresh-less k.forest.next (k.forest.next + more) a.extra (omega arith) a.fresh;
        new_sound = a.new_sound;
        sound = sound-retexted false n came a.later (back-texts (filter (is_of (numbers texts)) (with_new_text number more n text k).kept)) again-leaf a.sound;
        first = ordered-retexted n came a.later (back-texts (filter (is_of (numbers texts)) (with_new_text number more n text k).kept)) a.first;
        once = back-once;
        like =
            subst (λ x. Moved (blank ns x) (blank ns (retexted n came a.later)))
            (retexted-followed n came t a.extra ∙ ap (λ x. followed x (retexted n came a.extra)) came-is ∙ ap (followed s.trees) (retexted-absent n came a.extra came-absent))
            (retexted-alike n came ns (followed t a.extra) a.later (back-texts (filter (is_of (numbers texts)) (with_new_text number more n text k).kept))
            (let x = times-followed n t a.extra in let y = came-absent in omega (arith, x, y, once_after)) again-once
            (leaf-followed n t a.extra after-leaf (leaf-absent n a.extra came-absent)) again-leaf a.like);
      }

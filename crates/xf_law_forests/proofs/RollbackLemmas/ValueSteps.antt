-- An attribute's text that was set is put back in a forest that is alike: it is alike to the forest before.
use Rattle.std.proofs.Common.{◌≡◌, ℕ, ◌+◌, ◌==◌, Bool, true, false, cond, ◌&&◌, ◌||◌, List, [], ◌∷◌, ◌++◌, refl, sym, ap, ◌∙◌, subst, inl, inr, append-nil, arith}
use Rattle.std.specs.Prelude.{◌≤◌, ◌<◌, if◌then◌else◌}
use Rattle.std.proofs.lemmas.Bool.{cases_Bool}
use Rattle.xf_def_forest.specs.declared.content.Kind.TheVariants as kind
use Rattle.xf_def_forest.specs.Forest.{is_element, is_attribute, tree_of}
use Rattle.xf_def_forest.specs.Visit.{has, visits}
use Rattle.xf_def_forest.specs.Shape.{has_elements}
use Rattle.xf_def_forest.specs.Texts.{Keeping, attribute_text, with_value, with_attribute_text, is_attribute_at, value_in, before_of, taken_from, put_back}
use Rattle.xf_def_forest.specs.Needs.{IsSettable, MayPutBack}
use Rattle.xf_def_forest.specs.WellFormed.{AreTrees}
use Rattle.xf_def_forest.specs.Settle.{with_numbered_text}
use Rattle.xf_def_forest.proofs.SettleLaws.{put_back-after_numbered}
use Rattle.xf_def_forest.proofs.BackLaws.{outside-all, one_number}
use Rattle.xf_law_forests.specs.Rollback.Made.{with_new_text}
use Rattle.xf_law_forests.proofs.RollbackLemmas.Trees.{Trees, none, tree, onto, followed, times, times-followed, onto-inj}
use Rattle.xf_law_forests.proofs.RollbackLemmas.TreeTexts.{revalued, valued-onto, times-split}
use Rattle.xf_law_forests.proofs.RollbackLemmas.TreeVisits.{elements, elements-are}
use Rattle.xf_law_forests.proofs.RollbackLemmas.TreeShape.{Sound, sound-followed}
use Rattle.xf_law_forests.proofs.RollbackLemmas.TreeMoved.{Moved, value-attribute, value-element}
use Rattle.xf_law_forests.proofs.RollbackLemmas.TreeBlank.{blank, moved-more, blank-followed}
use Rattle.xf_law_forests.proofs.RollbackLemmas.TreeAgain.{AttributeAt, revalued-within, revalued-alike}
use Rattle.xf_law_forests.proofs.RollbackLemmas.TreeFacts.{is_at, at-times, some-followed, sound-revalued, blind-attribute}
use Rattle.xf_law_forests.proofs.RollbackLemmas.TreeLeaves.{attribute-of, revalued-times}
use Rattle.xf_law_forests.proofs.RollbackLemmas.KeepingTrees.{Stands, kept_times, any-is, attribute-test}
use Rattle.xf_law_forests.proofs.RollbackLemmas.FirstLemmas.{ordered-revalued}
use Rattle.xf_law_forests.proofs.RollbackLemmas.Alike.{fresh-less, Alike, extra-absent, later-at, later-once, later-kind, later-childless}
use Rattle.xf_law_forests.proofs.RollbackLemmas.TextSteps.{is-old}

revalued-followed : (n : ℕ) (text : List ℕ) (a b : Trees) → revalued n text (followed a b) ≡ followed (revalued n text a) (revalued n text b)
revalued-followed n text none b = refl
revalued-followed n text (tree m c k r) b = ap (tree m (if m == n then with_value text c else c) (revalued n text k)) (revalued-followed n text r b)

revalued-absent : (n : ℕ) (text : List ℕ) (t : Trees) → times n t ≡ 0 → revalued n text t ≡ t
revalued-absent n text none h = refl
revalued-absent n text (tree m c k r) h =
    let parts = times-split n m c k r h in
    rw parts.0 (ap (λ x. tree m c x (revalued n text r)) (revalued-absent n text k parts.1) ∙ ap (tree m c k) (revalued-absent n text r parts.2))

at-revalued : (n : ℕ) (text : List ℕ) (t : Trees) → is_at is_attribute n (revalued n text t) ≡ is_at is_attribute n t
at-revalued n text none = refl
at-revalued n text (tree m c k r) =
    ap (λ b. b || (is_at is_attribute n (revalued n text k) || is_at is_attribute n (revalued n text r))) (by (m == n))
    ∙ ap (λ b. ((m == n) && is_attribute c) || (b || is_at is_attribute n (revalued n text r))) (at-revalued n text k)
    ∙ ap (λ b. ((m == n) && is_attribute c) || (is_at is_attribute n k || b)) (at-revalued n text r)
  where
    by : (b : Bool) → (b && is_attribute (cond b (with_value text c) c)) ≡ (b && is_attribute c)
    by true = value-attribute text c
    by false = refl

elements-revalued : (u : Bool) (n : ℕ) (text : List ℕ) (t : Trees) → elements u n (revalued n text t) ≡ elements u n t
elements-revalued u n text none = refl
elements-revalued u n text (tree m c k r) =
    ap (λ b. (b && u) || (elements (n == m) n (revalued n text k) || elements u n (revalued n text r))) (by (m == n))
    ∙ ap (λ b. (is_element c && u) || (b || elements u n (revalued n text r))) (elements-revalued (n == m) n text k)
    ∙ ap (λ b. (is_element c && u) || (elements (n == m) n k || b)) (elements-revalued u n text r)
  where
    by : (b : Bool) → is_element (cond b (with_value text c) c) ≡ is_element c
    by true = value-element text c
    by false = refl

module _ (number more n : ℕ) (text : List ℕ) (k : Keeping) (sound : AreTrees k) (able : IsSettable n k.forest) (s : Stands k) (is : is_attribute_at n k.forest.nodes ≡ true) where
  abbrev value : List ℕ
  value = value_in (tree_of n k.forest.nodes)

  attribute-at : is_at is_attribute n s.trees ≡ true
  attribute-at = sym (any-is is_attribute n s.trees) ∙ ap (is_attribute_at n) (sym s.nodes) ∙ is

  attribute-old : n < k.forest.next
  attribute-old = is-old n k s (at-times is_attribute n s.trees attribute-at)

  attribute-childless : elements false n s.trees ≡ false
  attribute-childless = sym (elements-are n s.trees) ∙ ap (λ l. has_elements (visits l) n) (sym s.nodes) ∙ able.childless

  pub valued-nodes : with_numbered_text number n text k.forest.nodes ≡ onto 0 (revalued n text s.trees) []
  valued-nodes = rw is (ap (with_attribute_text n text) s.nodes ∙ valued-onto n text 0 s.trees [])

  value-is : before_of n k.forest.nodes ≡ attribute_text value
  value-is = rw is refl

  none-taken : taken_from n k.forest.nodes ≡ []
  none-taken = rw is refl

  kept-same : k.kept ++ taken_from n k.forest.nodes ≡ k.kept
  kept-same = ap (λ l. k.kept ++ l) none-taken ∙ append-nil k.kept

  unvalued-is : put_back n (attribute_text value) (with_new_text number more n text k) ≡ record k { forest = record k.forest { next = (k.forest.next + more) } }
  unvalued-is = subst (λ b. put_back n b (with_new_text number more n text k) ≡ record k { forest = record k.forest { next = (k.forest.next + more) } }) value-is
      (put_back-after_numbered number more n text k sound.apart (outside-all k.forest.nodes k.kept sound.kept_outside) (inl is))

  module _ (t : Trees) (nodes : with_numbered_text number n text k.forest.nodes ≡ onto 0 t []) (sound_after : Sound false t) (once_after : times n t ≤ 1) (ns : List ℕ)
      (k2 : Keeping) (a : Alike (n ∷ ns) t (with_new_text number more n text k) k2) where
    valued-is : t ≡ revalued n text s.trees
    valued-is = (onto-inj 0 t (revalued n text s.trees) [] [] tt tt (sym nodes ∙ valued-nodes)).0

    valued-at : is_at is_attribute n t ≡ true
    valued-at = ap (is_at is_attribute n) valued-is ∙ at-revalued n text s.trees ∙ attribute-at

    valued-none : elements false n t ≡ false
    valued-none = ap (elements false n) valued-is ∙ elements-revalued false n text s.trees ∙ attribute-childless

    valued-old : n < (k.forest.next + more)
    valued-old = let h = attribute-old in omega (arith, h)

    value-back : revalued n value t ≡ s.trees
    value-back =
        (onto-inj 0 (revalued n value t) s.trees [] [] tt tt
        (sym (valued-onto n value 0 t []) ∙ ap (with_attribute_text n value) (sym nodes) ∙ ap (λ x. x.forest.nodes) unvalued-is ∙ s.nodes)).0

    later-attribute : is_at is_attribute n a.later ≡ true
    later-attribute = later-at n (n ∷ ns) t (with_new_text number more n text k) k2 sound_after a valued-old is_attribute (blind-attribute n) ∙ valued-at

    value-absent : times n a.extra ≡ 0
    value-absent = extra-absent n (n ∷ ns) t (with_new_text number more n text k) k2 sound_after a valued-old

    value-once : times n a.later ≤ 1
    value-once = later-once n (n ∷ ns) t (with_new_text number more n text k) k2 sound_after a valued-old

    attribute-there : AttributeAt n (followed t a.extra)
    attribute-there = attribute-of n false (followed t a.extra) (sound-followed false t a.extra sound_after a.new_sound)
        (let x = times-followed n t a.extra in let y = value-absent in omega (arith, x, y, once_after))
        (some-followed (λ m c. (m == n) && is_attribute c) t a.extra ∙ ap (λ b. b || is_at is_attribute n a.extra) valued-at)

    pub attribute-known : has n ns ≡ true → Alike ns s.trees k k2
    attribute-known within = record {
      later = a.later;
      extra = a.extra;
      nodes = a.nodes;
      kept = a.kept ∙ kept-same;
      next = let h = a.next in omega (arith, h);
      fresh = fresh-less k.forest.next (k.forest.next + more) a.extra (omega arith) a.fresh;
      new_sound = a.new_sound;
      sound = a.sound;
      first = a.first;
      once = λ p. subst (λ l. times p a.later + kept_times p l ≤ 1) kept-same (a.once p);
      like =
          subst (λ x. Moved x (blank ns a.later)) (blank-followed ns t a.extra ∙ ap (λ x. followed x (blank ns a.extra)) (ap (blank ns) valued-is ∙ revalued-within n text ns s.trees within) ∙ sym (blank-followed ns s.trees a.extra))
          (moved-more (n ∷ ns) ns wider (followed t a.extra) a.later a.like);
    }
      where
        wider : (m : ℕ) → has m (n ∷ ns) ≡ true → has m ns ≡ true
        wider m h = elim (cases_Bool (m == n)) [ inl p ↦ subst (λ x. has x ns ≡ true) (sym (one_number m n p)) within | inr p ↦ (rw p at h) ]

    pub attribute-may : MayPutBack n (attribute_text value) k2
    attribute-may = record {
      fits = later-kind n (n ∷ ns) t (with_new_text number more n text k) k2 sound_after a valued-old kind.Attribute is_attribute attribute-test (blind-attribute n) valued-at;
      childless = later-childless n (n ∷ ns) t (with_new_text number more n text k) k2 sound_after a valued-old valued-none;
    }

    pub attribute-alike : Alike ns s.trees k (put_back n (attribute_text value) k2)
    attribute-alike = record {
      later = revalued n value a.later;
      extra = a.extra;
      nodes = ap (with_attribute_text n value) a.nodes ∙ valued-onto n value 0 a.later [];
      kept = a.kept ∙ kept-same;
      next = let h = a.next in omega (arith, h);
      fresh = fresh-less k.forest.next (k.forest.next + more) a.extra (omega arith) a.fresh;
      new_sound = a.new_sound;
      sound = sound-revalued false n value a.later a.sound;
      first = ordered-revalued n value a.later a.first;
      once = λ p. let x = revalued-times p n value a.later in let y : times p a.later + kept_times p k.kept ≤ 1 = subst (λ l. times p a.later + kept_times p l ≤ 1) kept-same (a.once p) in omega (arith, x, y);
      like =
          subst (λ x. Moved (blank ns x) (blank ns (revalued n value a.later)))
          (revalued-followed n value t a.extra ∙ ap (λ x. followed x (revalued n value a.extra)) value-back ∙ ap (followed s.trees) (revalued-absent n value a.extra value-absent))
          (revalued-alike n value ns (followed t a.extra) a.later attribute-there (attribute-of n false a.later a.sound value-once later-attribute) a.like);
    }

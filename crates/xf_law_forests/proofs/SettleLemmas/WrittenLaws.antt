-- Where some contents were written, one more may be written at any time: what stands does not tell the order.
use Rattle.std.proofs.Common.{◌≡◌, ℕ, ◌+◌, ◌==◌, ◌&&◌, Bool, true, false, List, [], ◌∷◌, length, Some, refl, sym, ap, ◌∙◌, inl, inr, arith}
use Rattle.std.specs.Prelude.{◌⊎◌, ◌≤◌, ◌<◌}
use Rattle.std.specs.List.{list_any}
use Rattle.std.proofs.lemmas.Bool.{cases_lt}
use Rattle.xf_def_forest.specs.declared.content.Node.{Node}
use Rattle.xf_def_forest.specs.declared.content.Content.{Content}
use Rattle.xf_def_forest.specs.declared.content.Kind.TheVariants as kind
use Rattle.xf_def_forest.specs.Forest.{Forest, is_element, is_attribute, kind_at}
use Rattle.xf_def_forest.specs.Visit.{visits}
use Rattle.xf_def_forest.specs.Shape.{has_elements}
use Rattle.xf_def_forest.specs.Needs.{IsSettable}
use Rattle.xf_def_forest.specs.Texts.{Keeping}
use Rattle.xf_def_forest.specs.Settle.{with_settled_text}
use Rattle.xf_def_forest.specs.WellFormed.{HasTrees, AreTrees}
use Rattle.xf_law_forests.proofs.RollbackLemmas.Trees.{Trees, none, tree, onto, times}
use Rattle.xf_law_forests.proofs.RollbackLemmas.TreeVisits.{elements, elements-are}
use Rattle.xf_law_forests.proofs.RollbackLemmas.TreeBlank.{LeafAt}
use Rattle.xf_law_forests.proofs.RollbackLemmas.TreeAgain.{AttributeAt}
use Rattle.xf_law_forests.proofs.RollbackLemmas.TreeFacts.{is_at, at-times}
use Rattle.xf_law_forests.proofs.RollbackLemmas.TreeLeaves.{leaf-of, attribute-of}
use Rattle.xf_law_forests.proofs.RollbackLemmas.KeepingTrees.{Stands, stands, any-is, kind-any, element-test, attribute-test}
use Rattle.xf_law_forests.specs.Settle.Written.{Contents, written, and_one, AreSettable, MayWrite}
use Rattle.xf_law_forests.proofs.SettleLemmas.Put.{put_all, put-more, with_one}
use Rattle.xf_law_forests.proofs.SettleLemmas.Spots.{Fits}
use Rattle.xf_law_forests.proofs.SettleLemmas.Bridge.{AreReady, settled-onto, written-onto, fits-all, ready-of}

-- ---- a forest by itself

abbrev pub alone : Forest → Keeping
alone forest = record { forest = forest; kept = [] }

pub alone-trees : (forest : Forest) → HasTrees forest → AreTrees (alone forest)
alone-trees forest h = record {
  apart = h.apart;
  below = h.below;
  depths = h.depths;
  tops = h.tops;
  first = h.first;
  kept_apart = refl;
  kept_outside = refl;
  kept_below = refl;
}

fits-leaf : (n : ℕ) (t : Trees) → LeafAt n t → Fits n t
fits-leaf n none h = tt
fits-leaf n (tree m c k r) h = (λ e. inr (h.0 e), fits-leaf n k h.1, fits-leaf n r h.2)

fits-attribute : (n : ℕ) (t : Trees) → AttributeAt n t → Fits n t
fits-attribute n none h = tt
fits-attribute n (tree m c k r) h = (λ e. inl (h.0 e).0, fits-attribute n k h.1, fits-attribute n r h.2)

module _ (forest : Forest) (s : Stands (alone forest)) where
  pub once : (n : ℕ) → times n s.trees ≤ 1
  once n = let o = s.once n in omega (arith, o)

  pub at-node : (q : Content → Bool) (n : ℕ) → list_any (λ (x : Node). (x.number == n) && q x.content) forest.nodes ≡ true → is_at q n s.trees ≡ true
  at-node q n h = sym (any-is q n s.trees) ∙ ap (list_any (λ (x : Node). (x.number == n) && q x.content)) (sym s.nodes) ∙ h

  -- a node whose text can be set
  pub settable-fits : (n : ℕ) → IsSettable n forest → Fits n s.trees
  settable-fits n able = by able.kind
    where
      none_below : elements false n s.trees ≡ false
      none_below = sym (elements-are n s.trees) ∙ ap (λ l. has_elements (visits l) n) (sym s.nodes) ∙ able.childless

      by : (kind_at n forest.nodes ≡ Some kind.Attribute) ⊎ (kind_at n forest.nodes ≡ Some kind.Element) → Fits n s.trees
      by (inl h) = fits-attribute n s.trees (attribute-of n false s.trees s.sound (once n) (at-node is_attribute n (kind-any kind.Attribute is_attribute attribute-test n forest.nodes h)))
      by (inr h) = fits-leaf n s.trees (leaf-of n false false s.trees s.sound (once n) (at-node is_element n (kind-any kind.Element is_element element-test n forest.nodes h)) none_below)

  -- it stands, so that its number is an old one
  pub settable-old : (n : ℕ) → IsSettable n forest → n < forest.next
  settable-old n able = by able.kind
    where
      old : 1 ≤ times n s.trees → n < forest.next
      old h = elim (cases_lt n forest.next) [ inl e ↦ e | inr e ↦ let z = s.old n e in let no : ⊥ = omega (arith, z, h) in absurd no ]

      by : (kind_at n forest.nodes ≡ Some kind.Attribute) ⊎ (kind_at n forest.nodes ≡ Some kind.Element) → n < forest.next
      by (inl h) = old (at-times is_attribute n s.trees (at-node is_attribute n (kind-any kind.Attribute is_attribute attribute-test n forest.nodes h)))
      by (inr h) = old (at-times is_element n s.trees (at-node is_element n (kind-any kind.Element is_element element-test n forest.nodes h)))

  pub ready : (number : ℕ) → forest.next ≤ number → (contents : Contents) → AreSettable contents forest → AreReady number contents s.trees
  ready number later [] h = tt
  ready number later (p ∷ ps) h = let old = settable-old p.0 h.0 in (settable-fits p.0 h.0, once p.0, omega (arith, old, later), ready number later ps h.1)

-- ---- the law

-- a content that was not written comes in with its number, whichever were written before
pub one-more : (done : ℕ → Bool) (number n : ℕ) (text : List ℕ) (front back : Contents) (forest : Forest) → MayWrite number (with_one front n text back) forest → done n ≡ false
    → with_settled_text (number + length front) n text (written done number (with_one front n text back) forest.nodes) ≡ written (and_one n done) number (with_one front n text back) forest.nodes
one-more done number n text front back forest may undone =
    let all = with_one front n text back in
    let s = stands (alone forest) (alone-trees forest may.trees) in
    let are_ready = ready forest s number may.later all may.settable in
    let at = number + length front in
    let settled : List Node → List Node = with_settled_text at n text in
    let own = ready-of number n text front back s.trees are_ready in
    let fits = fits-all done number all s.trees n are_ready own.0 own.1 own.2 in
    ap (λ l. settled (written done number all l)) s.nodes ∙ ap settled (written-onto done number all s.trees are_ready)
    ∙ settled-onto at n text (put_all done number all s.trees) fits.0 fits.1
    ∙ ap (λ x. onto 0 x []) (put-more done number n text front back s.trees undone may.different)
    ∙ sym (written-onto (and_one n done) number all s.trees are_ready) ∙ ap (written (and_one n done) number all) (sym s.nodes)

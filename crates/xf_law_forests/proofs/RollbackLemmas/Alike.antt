-- A forest in which later changes were undone, beside the forest as it stood: the same but for new trees, the order of detached trees,
-- and texts that do not count.
use Rattle.std.proofs.Common.{◌≡◌, ℕ, ◌+◌, ◌==◌, Bool, true, false, ◌&&◌, ◌||◌, List, [], Some, refl, sym, ap, ◌∙◌, subst, arith}
use Rattle.std.specs.Prelude.{⊤, ◌≤◌, ◌<◌}
use Rattle.std.proofs.lemmas.Bool.Decides.{nat_tests}
use Rattle.xf_def_forest.specs.declared.content.Content.{Content}
use Rattle.xf_def_forest.specs.declared.content.Kind.{Kind}
use Rattle.xf_def_forest.specs.Forest.{is_root, kind_at}
use Rattle.xf_def_forest.specs.Visit.{visits}
use Rattle.xf_def_forest.specs.Shape.{has_elements}
use Rattle.xf_def_forest.specs.Texts.{Keeping, without_from}
use Rattle.xf_def_forest.specs.Needs.{MayDropFrom}
use Rattle.xf_def_forest.specs.Undo.{Ledger, undone_all}
use Rattle.xf_law_forests.specs.Rollback.Back.{CanUndoAll}
use Rattle.xf_law_forests.proofs.RollbackLemmas.Trees.{Trees, none, tree, onto, followed, times}
use Rattle.xf_law_forests.proofs.RollbackLemmas.TreeVisits.{elements, elements-are}
use Rattle.xf_law_forests.proofs.RollbackLemmas.TreeShape.{Sound, sound-followed, times-onto}
use Rattle.xf_law_forests.proofs.RollbackLemmas.TreeMoved.{Moved, some, moved-some, moved-elements}
use Rattle.xf_law_forests.proofs.RollbackLemmas.TreeBlank.{blank}
use Rattle.xf_law_forests.proofs.RollbackLemmas.TreeFacts.{Blind, some-blank, is_at, at-absent, some-followed}
use Rattle.xf_law_forests.proofs.RollbackLemmas.TreeLeaves.{elements-blank, elements-absent, elements-followed}
use Rattle.xf_law_forests.proofs.RollbackLemmas.TreeOrder.{Ordered}
use Rattle.xf_law_forests.proofs.RollbackLemmas.KeepingTrees.{kept_times, KindTest, any-is, any-kind}

-- all numbers are new, and no root is there
abbrev pub Fresh : ℕ → Trees → Type 0
Fresh number none = ⊤
Fresh number (tree n c k r) = (number ≤ n) × (is_root c ≡ false) × Fresh number k × Fresh number r

pub fresh-less : (a b : ℕ) (t : Trees) → a ≤ b → Fresh b t → Fresh a t
fresh-less a b none le h = tt
fresh-less a b (tree n c k r) le h = let f = h.0 in (omega (arith, f), h.1, fresh-less a b k le h.2, fresh-less a b r le h.3)

pub fresh-absent : (n number : ℕ) (t : Trees) → n < number → Fresh number t → times n t ≡ 0
fresh-absent n number none less h = refl
fresh-absent n number (tree m c k r) less h =
    let f = h.0 in
    let other : (m == n) ≡ false = grind (arith, nat_tests, less, f) in
    let a = fresh-absent n number k less h.2 in
    let b = fresh-absent n number r less h.3 in
    rw other (omega (arith, a, b))

pub fresh-followed : (number : ℕ) (t s : Trees) → Fresh number t → Fresh number s → Fresh number (followed t s)
fresh-followed number none s h k = k
fresh-followed number (tree n c j r) s h k = (h.0, h.1, h.2, fresh-followed number r s h.3 k)

-- the first forest as it stood, its trees, and the texts of these nodes do not count
pub record Alike (ns : List ℕ) (t : Trees) (k k2 : Keeping) : Type 0 where
  pub later : Trees
  pub extra : Trees
  pub nodes : k2.forest.nodes ≡ onto 0 later []
  pub kept : k2.kept ≡ k.kept
  pub next : k.forest.next ≤ k2.forest.next
  pub fresh : Fresh k.forest.next extra
  pub new_sound : Sound false extra
  pub sound : Sound false later
  pub first : Ordered later
  pub once : (n : ℕ) → times n later + kept_times n k.kept ≤ 1
  pub like : Moved (blank ns (followed t extra)) (blank ns later)

-- all that rolling back needs, and what it gives
pub record Back (start : Keeping) (l : Ledger) (k : Keeping) : Type 0 where
  pub changes : CanUndoAll l.entries k
  pub rest : MayDropFrom l.next (undone_all l.entries k).forest
  pub same : without_from l.next (undone_all l.entries k) ≡ start

-- ---- what is the same in both

or-first : (a b : Bool) → b ≡ false → (a || b) ≡ a
or-first true b h = refl
or-first false b h = h

pub later-some : (p : ℕ → Content → Bool) → Blind p → (ns : List ℕ) (t : Trees) (k k2 : Keeping) → Sound false t → (a : Alike ns t k k2) → some p a.later ≡ (some p t || some p a.extra)
later-some p blind ns t k k2 sound a =
    sym (some-blank p blind false ns a.later a.sound) ∙ sym (moved-some p a.like) ∙ some-blank p blind false ns (followed t a.extra) (sound-followed false t a.extra sound a.new_sound) ∙ some-followed p t a.extra

-- of a node that was there
module _ (n : ℕ) (ns : List ℕ) (t : Trees) (k k2 : Keeping) (sound : Sound false t) (a : Alike ns t k k2) (old : n < k.forest.next) where
  pub extra-absent : times n a.extra ≡ 0
  extra-absent = fresh-absent n k.forest.next a.extra old a.fresh

  pub later-at : (q : Content → Bool) → Blind (λ m c. (m == n) && q c) → is_at q n a.later ≡ is_at q n t
  later-at q blind = later-some (λ m c. (m == n) && q c) blind ns t k k2 sound a ∙ or-first (is_at q n t) (is_at q n a.extra) (at-absent q n a.extra extra-absent)

  pub later-elements : elements false n a.later ≡ elements false n t
  later-elements =
      sym (elements-blank false n false ns a.later a.sound) ∙ sym (moved-elements false n a.like)
      ∙ elements-blank false n false ns (followed t a.extra) (sound-followed false t a.extra sound a.new_sound)
      ∙ elements-followed false n t a.extra ∙ or-first (elements false n t) (elements false n a.extra) (elements-absent n a.extra extra-absent)

  pub later-once : times n a.later ≤ 1
  later-once = let h = a.once n in omega (arith, h)

  pub later-kind : (kind : Kind) (q : Content → Bool) → KindTest kind q → Blind (λ m c. (m == n) && q c) → is_at q n t ≡ true → kind_at n k2.forest.nodes ≡ Some kind
  later-kind kind q test blind h =
      subst (λ l. kind_at n l ≡ Some kind) (sym a.nodes)
      (any-kind kind q test n (onto 0 a.later [])
      (let e = times-onto n 0 a.later [] in let o = later-once in omega (arith, e, o))
      (any-is q n a.later ∙ later-at q blind ∙ h))

  pub later-childless : elements false n t ≡ false → has_elements (visits k2.forest.nodes) n ≡ false
  later-childless h = ap (λ l. has_elements (visits l) n) a.nodes ∙ elements-are n a.later ∙ later-elements ∙ h

-- The law of the ledger: rolling back gives the forest that was kept, and every step back may be made.
use Rattle.std.proofs.Common.{◌≡◌, ℕ, ◌+◌, true, false, List, [], refl, sym, ap, ◌∙◌, subst, arith}
use Rattle.std.specs.Prelude.{◌≤◌}
use Rattle.xf_def_forest.specs.Forest.{content_at}
use Rattle.xf_def_forest.specs.Visit.{visits}
use Rattle.xf_def_forest.specs.Changes.{placed, place_of}
use Rattle.xf_def_forest.specs.Texts.{Keeping}
use Rattle.xf_def_forest.specs.WellFormed.{AreTrees, are_first}
use Rattle.xf_def_forest.specs.Undo.{Ledger, rolled_back}
use Rattle.xf_law_forests.specs.Rollback.Made.{Made, begun, noted, texts, passed, joined, cut, grown, with_new_text}
use Rattle.xf_law_forests.specs.Rollback.Back.{CanRollBack}
use Rattle.xf_law_forests.proofs.RollbackLemmas.Trees.{Trees, none, onto, times}
use Rattle.xf_law_forests.proofs.RollbackLemmas.TreeShape.{Sound}
use Rattle.xf_law_forests.proofs.RollbackLemmas.TreeMoved.{Moved, same}
use Rattle.xf_law_forests.proofs.RollbackLemmas.TreeBlank.{blank}
use Rattle.xf_law_forests.proofs.RollbackLemmas.TreeMoves.{followed-none}
use Rattle.xf_law_forests.proofs.RollbackLemmas.TreeOrder.{ordered-onto}
use Rattle.xf_law_forests.proofs.RollbackLemmas.KeepingTrees.{Stands, stands}
use Rattle.xf_law_forests.proofs.RollbackLemmas.Alike.{fresh-less, Alike, Back}
use Rattle.xf_law_forests.proofs.RollbackLemmas.AttributeSteps.{text-stay}
use Rattle.xf_law_forests.proofs.RollbackLemmas.GrowthSteps.{growth-alike, begun-back}
use Rattle.xf_law_forests.proofs.RollbackLemmas.Outcomes.{attached-placed}
use Rattle.xf_law_forests.proofs.RollbackLemmas.RootsFirst.{rooted}
use Rattle.xf_law_forests.proofs.RollbackLemmas.KnownLemmas.{known, known-has}
use Rattle.xf_law_forests.proofs.RollbackLemmas.StepCases.{text-case, join-case, cut-case}

-- ---- the law

law : {start : Keeping} {l : Ledger} {k : Keeping} (made : Made start l k) → (t : Trees) → k.forest.nodes ≡ onto 0 t [] → Sound false t → ((n : ℕ) → times n t ≤ 1)
    → (k2 : Keeping) → Alike (known made) t k k2 → Back start l k2
law {start = start} (begun sound empty alone) t nodes whole once k2 a = begun-back start sound empty alone t nodes k2 a
law (noted change m) t nodes whole once k2 a =
    let r = law m t nodes whole once k2 (record {
      later = a.later;
      extra = a.extra;
      nodes = a.nodes;
      kept = a.kept;
      next = a.next;
      fresh = a.fresh;
      new_sound = a.new_sound;
      sound = a.sound;
      first = a.first;
      once = a.once;
      like = a.like;
    }) in
    record { changes = (tt, r.changes); rest = r.rest; same = r.same }
law {start = start} (texts {l = l} {k = k} number more n text m sound able) t nodes whole once k2 a =
    let s = stands k sound in
    text-case start l k number more n text sound able (known m) (λ f. known-has m n (with_new_text number more n text k) (λ x less g. text-stay number more n text k sound able s x g) f) s
    (λ k3 b. law m s.trees s.nodes s.sound (λ p. let o = s.once p in omega (arith, o)) k3 b) t nodes whole once k2 a
law (passed {k = k} count m) t nodes whole once k2 a =
    law m t nodes whole once k2 (record {
      later = a.later;
      extra = a.extra;
      nodes = a.nodes;
      kept = a.kept;
      next = let h = a.next in omega (arith, h);
      fresh = fresh-less k.forest.next (k.forest.next + count) a.extra (omega arith) a.fresh;
      new_sound = a.new_sound;
      sound = a.sound;
      first = a.first;
      once = a.once;
      like = a.like;
    })
law {start = start} (joined {l = l} {k = k} limits n parent place after m sound may e) t nodes whole once k2 a =
    let s = stands k sound in
    let at = place_of parent place (visits k.forest.nodes) (content_at n k.forest.nodes) in
    let is : placed n parent at k.forest ≡ after = attached-placed limits n parent place k.forest after e in
    join-case start l k n parent place at may (known m) s (rooted m s.trees s.nodes) (λ k3 b. law m s.trees s.nodes s.sound (λ p. let o = s.once p in omega (arith, o)) k3 b)
    t (ap (λ f. f.nodes) is ∙ nodes) whole (once n) k2 (subst (λ f. Alike (known m) t (record k { forest = f }) k2) (sym is) a)
law {start = start} (cut {l = l} {k = k} n parent place m sound may stood) t nodes whole once k2 a =
    let s = stands k sound in
    cut-case start l k n parent place sound may stood (known m) s (λ k3 b. law m s.trees s.nodes s.sound (λ p. let o = s.once p in omega (arith, o)) k3 b) t nodes whole (once n) k2 a
law (grown {k = k} contents m sound growth after) t nodes whole once k2 a =
    let s = stands k sound in
    law m s.trees s.nodes s.sound (λ p. let o = s.once p in omega (arith, o)) k2 (growth-alike contents k growth after s t nodes (known m) k2 a)

alike-itself : (k : Keeping) → AreTrees k → (s : Stands k) (ns : List ℕ) → Alike ns s.trees k k
alike-itself k sound s ns = record {
  later = s.trees;
  extra = none;
  nodes = s.nodes;
  kept = refl;
  next = omega arith;
  fresh = tt;
  new_sound = tt;
  sound = s.sound;
  first = ordered-onto 0 s.trees [] (subst (λ l. are_first l ≡ true) s.nodes sound.first);
  once = s.once;
  like = subst (λ x. Moved (blank ns x) (blank ns s.trees)) (sym (followed-none s.trees)) (same (blank ns s.trees));
}

back-from : {start : Keeping} {l : Ledger} {k : Keeping} → Made start l k → AreTrees k → Back start l k
back-from {k = k} made sound = let s = stands k sound in law made s.trees s.nodes s.sound (λ p. let o = s.once p in omega (arith, o)) k (alike-itself k sound s (known made))

-- all that was made can be undone
pub can_roll_back : {start : Keeping} {l : Ledger} {k : Keeping} → Made start l k → AreTrees k → CanRollBack l k
can_roll_back made sound = let r = back-from made sound in record { changes = r.changes; rest = r.rest }

-- and it gives the forest that was kept
pub rolls_back : {start : Keeping} {l : Ledger} {k : Keeping} → Made start l k → AreTrees k → rolled_back l k ≡ start
rolls_back made sound = (back-from made sound).same

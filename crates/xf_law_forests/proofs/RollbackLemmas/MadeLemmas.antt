-- What every list of changes begins with, for callers.
use Rattle.std.proofs.Common.{◌≡◌, ℕ, true, false, Bool, cond, List, [], ◌∷◌, refl, sym, ◌∙◌, subst, inl, inr}
use Rattle.std.proofs.lemmas.Bool.{cases_Bool}
use Rattle.xf_def_forest.specs.declared.content.Node.{Node}
use Rattle.xf_def_forest.specs.Changes.{in_instances, in_detached, is_detached_top}
use Rattle.xf_def_forest.specs.Texts.{Keeping, Before, before_of, given_up, without_detached}
use Rattle.xf_def_forest.specs.Undo.{Ledger, Entry, with_set, is_known, kept_at}
use Rattle.xf_def_forest.specs.Undo as undo
use Rattle.xf_def_forest.specs.WellFormed.{AreTrees}
use Rattle.xf_law_forests.specs.Rollback.Made.{Made, begun, texts, passed, joined, cut, grown, with_new_text}
use Rattle.xf_law_forests.specs.Rollback.Made as made

-- the forest that was kept: trees, without a detached one, and without kept texts
pub record Begun (start : Keeping) (l : Ledger) : Type 0 where
  pub trees : AreTrees start
  pub empty : start.kept ≡ []
  pub alone : in_detached start.forest.nodes ≡ []
  pub next : l.next ≡ start.forest.next

set-next : (n : ℕ) (before : Before) (es : List Entry) (next : ℕ) (k : Keeping) → (with_set n before es next k).0.next ≡ next
set-next n before es next k = by (is_known n k es)
  where
    by : (b : Bool) → (cond {A = Ledger × Keeping} b (record { entries = es; next = next }, given_up before k) (record { entries = undo.set n before ∷ es; next = next }, k)).0.next ≡ next
    by true = refl
    by false = refl

pub begun-with : {start : Keeping} {l : Ledger} {k : Keeping} → Made start l k → Begun start l
begun-with (begun trees empty alone) = record { trees = trees; empty = empty; alone = alone; next = refl }
begun-with (made.noted change m) = let b = begun-with m in record { trees = b.trees; empty = b.empty; alone = b.alone; next = b.next }
begun-with (texts {l = l} {k = k} number more n text m trees able) =
    let b = begun-with m in
    record { trees = b.trees; empty = b.empty; alone = b.alone; next = set-next n (before_of n k.forest.nodes) l.entries l.next (with_new_text number more n text k) ∙ b.next }
begun-with (passed count m) = begun-with m
begun-with (joined limits n parent place after m trees may e) = let b = begun-with m in record { trees = b.trees; empty = b.empty; alone = b.alone; next = b.next }
begun-with (cut n parent place m trees may stood) = let b = begun-with m in record { trees = b.trees; empty = b.empty; alone = b.alone; next = b.next }
begun-with (grown contents m trees growth after) = begun-with m

-- the instances alone have no detached tree
pub none-detached : (nodes : List Node) → in_detached (in_instances nodes) ≡ []
none-detached [] = refl
none-detached (x ∷ xs) = elim (cases_Bool (is_detached_top x)) [
  | inl e ↦ rw e refl
  | inr e ↦ rw e (rw e (none-detached xs))
]

-- so that a forest is kept as its instances stand
pub keeps : (k : Keeping) → AreTrees (without_detached k) → Made (without_detached k) (kept_at (without_detached k).forest) (without_detached k)
keeps k trees = begun trees refl (none-detached k.forest.nodes)

-- and again after it was given back
pub keeps-again : {start : Keeping} {l : Ledger} {k : Keeping} → Made start l k → Made start (record { entries = []; next = l.next }) start
keeps-again {start = start} m = let b = begun-with m in subst (λ n. Made start (record { entries = []; next = n }) start) (sym b.next) (begun b.trees b.empty b.alone)

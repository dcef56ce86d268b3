-- What a change leaves that was not refused.
use Rattle.std.proofs.Common.{◌≡◌, ℕ, Bool, true, false, cond, List, ◌∷◌, refl}
use Rattle.std.specs.Prelude.{Option, Some, None, Ok}
use Rattle.xf_def_forest.specs.declared.fault.TreeFault.{TreeFault}
use Rattle.xf_def_forest.specs.Forest.{Forest, content_at}
use Rattle.xf_def_forest.specs.Visit.{visits}
use Rattle.xf_def_forest.specs.Changes.{placed, place_of, attached}
use Rattle.xf_def_forest.specs.Limits.{Limits, unless}
use Rattle.xf_def_forest.specs.Texts.{Keeping, Before, attribute_text, element_texts, given_up}
use Rattle.xf_def_forest.specs.Undo.{Entry, Ledger, with_set, is_known}
use Rattle.xf_def_forest.specs.Undo as undo

pub unless-ok : {X : Type 0} (fault : Option TreeFault) (v w : X) → unless fault v ≡ Ok w → v ≡ w
unless-ok None v w e = cc e
unless-ok (Some fault) v w e = cc e

-- the ledger does not change what a setting leaves
pub set-forest : (n : ℕ) (before : Before) (es : List Entry) (next : ℕ) (k : Keeping) → (with_set n before es next k).1.forest ≡ k.forest
set-forest n before es next k = by (is_known n k es)
  where
    given : (before : Before) → (given_up before k).forest ≡ k.forest
    given (attribute_text text) = refl
    given (element_texts ns) = refl

    by : (b : Bool) → (cond {A = Ledger × Keeping} b (record { entries = es; next = next }, given_up before k) (record { entries = undo.set n before ∷ es; next = next }, k)).1.forest ≡ k.forest
    by true = given before
    by false = refl

-- what was attached is placed
pub attached-placed : (limits : Limits) (n parent place : ℕ) (forest after : Forest) → attached limits n parent place forest ≡ Ok after
    → placed n parent (place_of parent place (visits forest.nodes) (content_at n forest.nodes)) forest ≡ after
attached-placed limits n parent place forest after e = unless-ok _ (placed n parent (place_of parent place (visits forest.nodes) (content_at n forest.nodes)) forest) after e

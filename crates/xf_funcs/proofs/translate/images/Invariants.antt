use Rattle.std.proofs.Common.{◌≡◌, ℕ, length}
use denote.Text.{Utf8}
use denote.Shadow.{shadow}
use Rattle.std.specs.Prelude.{chars}
use Rattle.std.specs.BTreeMap.{get}
use Rattle.std.specs.Ordering.{nat_cmp}
use Rattle.xf_funcs.specs.Translate.{mapped}
use Rattle.xf_funcs.proofs.TranslateLemmas.{found_or}
use Rattle.xf_funcs.proofs.translate.images.Given as goal

abbrev pub invariant-loop-c : goal.invariant-loop-c
invariant-loop-c l =
    ((c : ℕ) → found_or (get nat_cmp l.images c) (mapped (chars l.left) (chars l.images_left) c) ≡ mapped (chars l.from) (chars l.to) c)
    × shadow (Utf8 l.left) × shadow (Utf8 l.images_left)

abbrev pub decreases-loop-c : goal.decreases-loop-c
decreases-loop-c l = length l.left

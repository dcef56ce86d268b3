-- What is read at one look: the content of a node, its rank, and what is said of a node that is not there.
use Rattle.std.proofs.Common.{◌≡◌, ℕ, false, IsSome, List, [], ◌∷◌, ◌==◌, find, length, Option, Some, None, option_map, refl, ap, arith}
use Rattle.std.proofs.lemmas.Bool.{false≢true}
use Rattle.xf_def_forest.specs.declared.content.Node.{Node}
use Rattle.xf_def_forest.specs.Forest.{has_number, node_at, content_at}
use Rattle.xf_def_forest.specs.Changes.{standing, with_place}
use Rattle.xf_def_forest.specs.StringValue.{pieces, pieces_in}
use Rattle.xf_def_forest.specs.Visit.{Visit, still_above, visits_from, visits}
use Rattle.xf_tree_contents.specs.Slot.{Slot}
use Rattle.xf_tree_contents.specs.Keys.{content_in}
use Rattle.xf_tree_walks.proofs.StackLemmas.{absent-parts, absent-parent}

absent-node : (n : ℕ) (xs : List Node) → has_number n xs ≡ false → node_at n xs ≡ None
absent-node n [] h = refl
absent-node n (x ∷ xs) h = let p = absent-parts n x xs h in rw p.0 (absent-node n xs p.1)

pub absent-content : (n : ℕ) (xs : List Node) → has_number n xs ≡ false → content_at n xs ≡ None
absent-content n xs h = ap (option_map (λ (x : Node). x.content)) (absent-node n xs h)

pub find-none : (n : ℕ) (above us : List Node) → has_number n us ≡ false → find (λ (v : Visit). v.number == n) (visits_from above us) ≡ None
find-none n above [] h = refl
find-none n above (u ∷ us) h = let p = absent-parts n u us h in rw p.0 (find-none n (u ∷ still_above u.depth above) us p.1)

pub absent-pieces : (n : ℕ) (xs : List Node) → has_number n xs ≡ false → pieces n (visits xs) ≡ []
absent-pieces n xs h = ap (pieces_in (visits xs)) (find-none n [] xs h)

pub absent-standing : (n : ℕ) (xs : List Node) → has_number n xs ≡ false → standing n xs ≡ None
absent-standing n xs h = ap (with_place (visits xs) n) (absent-parent n xs h)

pub lived : (o : Option Slot) → IsSome o → option_map (λ (s : Slot). s.content) o ≡ Some (content_in o)
lived None h = absurd (false≢true h)
lived (Some s) h = refl

pub length-visits : (above xs : List Node) → length (visits_from above xs) ≡ length xs
length-visits above [] = refl
length-visits above (x ∷ xs) = let i = length-visits (x ∷ still_above x.depth above) xs in omega (arith, i)

-- Rows whose keys stand for what they did.
use Rattle.std.proofs.Common.{◌≡◌, ℕ, ◌≤◌, if◌then◌else◌, List, [], ◌∷◌, map, refl, ap, ◌∙◌, arith}
use Rattle.slab.specs.Slab.{Slab, get}
use Rattle.xf_tree_rows.specs.declared.rows.Row.{Row}
use Rattle.xf_tree_contents.specs.Slot.{Slot}
use Rattle.xf_tree_contents.specs.Keys.{number_in, content_in}
use Rattle.xf_tree_contents.proofs.AlikeLemmas.{eq-true}
use Rattle.xf_tree_walks.specs.Nodes.{node_of, times}

-- these rows' keys have in both slabs the same
abbrev pub SameAt : Slab Slot → Slab Slot → List Row → Type 0
SameAt s s2 [] = Unit {0}
SameAt s s2 (r ∷ rs) = (get s2 r.key ≡ get s r.key) × SameAt s s2 rs

pub nodes-same : (s s2 : Slab Slot) (rows : List Row) → SameAt s s2 rows → map (node_of s2) rows ≡ map (node_of s) rows
nodes-same s s2 [] same = refl
nodes-same s s2 (r ∷ rs) same =
    ap (λ o. record { number = number_in o; depth = r.depth; content = content_in o } ∷ map (node_of s2) rs) same.0 ∙ ap (λ l. node_of s r ∷ l) (nodes-same s s2 rs same.1)

pub same-where : (s s2 : Slab Slot) (rows : List Row) → ((key : ℕ) → 1 ≤ times (number_in (get s key)) (map (node_of s) rows) → get s2 key ≡ get s key) → SameAt s s2 rows
same-where s s2 [] h = tt
same-where s s2 (r ∷ rs) h =
    let one = ap {B = ℕ} (λ b. if b then 1 else 0) (eq-true (number_in (get s r.key)) (number_in (get s r.key)) refl) in
    (h r.key (omega arith), same-where s s2 rs (λ key some. h key (omega arith)))

-- Rows that go deeper together.
use Rattle.std.proofs.Common.{◌≡◌, ℕ, ◌+◌, ◌-◌, ◌==◌, if◌then◌else◌, List, [], ◌∷◌, map, refl, ap, ◌∙◌, arith}
use Rattle.slab.specs.Slab.{Slab, get}
use Rattle.xf_def_forest.specs.declared.content.Node.{Node}
use Rattle.xf_def_forest.specs.Changes.{shifted}
use Rattle.xf_tree_rows.specs.declared.rows.Row.{Row}
use Rattle.xf_tree_rows.specs.Rows.{deepened, depths, AllDeep}
use Rattle.xf_tree_contents.specs.Slot.{Slot}
use Rattle.xf_tree_contents.specs.Keys.{number_in, content_in}
use Rattle.xf_tree_walks.specs.Nodes.{node_of, times, AllLive, AllTops}

pub lowered : (s : Slab Slot) (by : ℕ) (rows : List Row) → map (node_of s) (map (deepened by) rows) ≡ map (shifted 0 by) (map (node_of s) rows)
lowered s by [] = refl
lowered s by (r ∷ rs) =
    let d : r.depth + by ≡ by + (r.depth - 0) = omega arith in
    ap (λ n. record { number = number_in (get s r.key); depth = n; content = content_in (get s r.key) } ∷ map (node_of s) (map (deepened by) rs)) d
    ∙ ap (λ l. record { number = number_in (get s r.key); depth = by + (r.depth - 0); content = content_in (get s r.key) } ∷ l) (lowered s by rs)

pub live-deepened : (s : Slab Slot) (by : ℕ) (rows : List Row) → AllLive s rows → AllLive s (map (deepened by) rows)
live-deepened s by [] h = tt
live-deepened s by (r ∷ rs) h = (h.0, live-deepened s by rs h.1)

pub times-shifted : (n by : ℕ) (xs : List Node) → times n (map (shifted 0 by) xs) ≡ times n xs
times-shifted n by [] = refl
times-shifted n by (x ∷ xs) = ap (λ t. (if x.number == n then 1 else 0) + t) (times-shifted n by xs)

pub depths-deepened : (by : ℕ) (rows : List Row) → depths (map (deepened by) rows) ≡ map (λ d. d + by) (depths rows)
depths-deepened by [] = refl
depths-deepened by (r ∷ rs) = ap (λ l. (r.depth + by) ∷ l) (depths-deepened by rs)

-- what is below a top is no root
pub no-roots : (s : Slab Slot) (d by : ℕ) (rows : List Row) → AllDeep (d + 1) rows → AllTops (map (node_of s) rows) → AllTops (map (shifted 0 by) (map (node_of s) rows))
no-roots s d by [] deep tops = tt
no-roots s d by (r ∷ rs) deep tops = (λ e. absurd (let z = tops.0 e in omega (arith, z, deep.0)), no-roots s d by rs deep.1 tops.1)

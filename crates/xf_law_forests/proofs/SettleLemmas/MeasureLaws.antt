-- How many nodes and bytes there are where some contents were written; and what stands before the first one, and after the last.
use Rattle.std.proofs.Common.{◌≡◌, ℕ, suc, ◌+◌, ◌^◌, Bool, true, false, cond, not, List, [], ◌∷◌, length, map, refl, sym, ap, ◌∙◌}
use Rattle.std.specs.Prelude.{◌≤◌, fold, sum_by}
use Rattle.std.specs.List.{list_all}
use Rattle.xf_def_forest.specs.declared.content.Node.{Node}
use Rattle.xf_def_forest.specs.declared.content.Content.{Content}
use Rattle.xf_def_forest.specs.Forest.{Forest, is_root}
use Rattle.xf_def_forest.specs.Visit.{Visit, visits, visits_from, still_above}
use Rattle.xf_def_forest.specs.Limits.{node_count, all_size, size_of}
use Rattle.xf_def_forest.specs.Same.{renumbered_visit}
use Rattle.xf_def_forest.specs.Shape.{with_contents}
use Rattle.xf_law_forests.specs.Settle.Written.{Contents, written, MayWrite}
use Rattle.xf_law_forests.specs.Settle.Alike.{content_of, done_of}
use Rattle.xf_law_forests.proofs.SettleLemmas.KindLemmas.{and-parts}
use Rattle.xf_law_forests.proofs.SettleLemmas.AlikeLaws.{written-alike}

-- a measure of contents is the same of visits as of nodes, and under a renumbering
visited : (measure : Content → ℕ) (above : List Node) (sum : ℕ) (xs : List Node)
    → fold (λ (a : ℕ) (x : Visit). a + measure x.content) sum (visits_from above xs) ≡ fold (λ (a : ℕ) (x : Node). a + measure x.content) sum xs
visited measure above sum [] = refl
visited measure above sum (x ∷ xs) = visited measure (x ∷ still_above x.depth above) (sum + measure x.content) xs

renumbered : (measure : Content → ℕ) (f : ℕ → ℕ) (sum : ℕ) (vs : List Visit)
    → fold (λ (a : ℕ) (x : Visit). a + measure x.content) sum (map (renumbered_visit f) vs) ≡ fold (λ (a : ℕ) (x : Visit). a + measure x.content) sum vs
renumbered measure f sum [] = refl
renumbered measure f sum (v ∷ vs) = renumbered measure f (sum + measure v.content) vs

-- a measure of what was written is that of the data that hold it
measured : (measure : Content → ℕ) (done : ℕ → Bool) (number : ℕ) (contents : Contents) (forest : Forest) → MayWrite number contents forest → number + length contents ≤ 2 ^ 128
    → sum_by (λ (x : Node). measure x.content) (written done number contents forest.nodes)
    ≡ sum_by (λ (x : Visit). measure x.content) (with_contents (content_of (done_of done contents)) (visits forest.nodes))
measured measure done number contents forest may small =
    let a = written-alike done number contents forest may small in
    sym (visited measure [] 0 (written done number contents forest.nodes)) ∙ ap (sum_by (λ (x : Visit). measure x.content)) (sym a.visits)
    ∙ renumbered measure a.by 0 (with_contents (content_of (done_of done contents)) (visits forest.nodes))

pub written-count : (done : ℕ → Bool) (number : ℕ) (contents : Contents) (forest : Forest) → MayWrite number contents forest → number + length contents ≤ 2 ^ 128
    → node_count (written done number contents forest.nodes) ≡ sum_by (λ (x : Visit). cond (not (is_root x.content)) 1 0) (with_contents (content_of (done_of done contents)) (visits forest.nodes))
written-count done number contents forest may small = measured (λ c. cond (not (is_root c)) 1 0) done number contents forest may small

pub written-size : (done : ℕ → Bool) (number : ℕ) (contents : Contents) (forest : Forest) → MayWrite number contents forest → number + length contents ≤ 2 ^ 128
    → all_size (written done number contents forest.nodes) ≡ sum_by (λ (x : Visit). size_of x.content) (with_contents (content_of (done_of done contents)) (visits forest.nodes))
written-size done number contents forest may small = measured size_of done number contents forest may small

-- ---- none and all

abbrev pub nothing_done : ℕ → Bool
nothing_done n = false

abbrev pub all_done : ℕ → Bool
all_done n = true

-- before the first one the nodes stand as they stood
pub written-none : (number : ℕ) (contents : Contents) (nodes : List Node) → written nothing_done number contents nodes ≡ nodes
written-none number [] nodes = refl
written-none number (p ∷ ps) nodes = written-none (suc number) ps nodes

-- where each node is done, that is all
pub written-all : (done : ℕ → Bool) (number : ℕ) (contents : Contents) (nodes : List Node) → list_all (λ p. done p.0) contents ≡ true → written done number contents nodes ≡ written all_done number contents nodes
written-all done number [] nodes h = refl
written-all done number ((n, text) ∷ rest) nodes h =
    let parts = and-parts (done n) (list_all (λ p. done p.0) rest) h in
    let here_ = parts.0 in
    rw here_ (written-all done (suc number) rest _ parts.1)

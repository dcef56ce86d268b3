use Rattle.std.proofs.Common.{◌≡◌, ℕ, ◌-◌, ◌≤◌, List, length, map, take, drop, sym, ap, ◌∙◌, subst}
use Rattle.std.proofs.lemmas.List.{take_rest}
use Rattle.xf_def_forest.specs.Changes.{in_instances}
use Rattle.xf_tree_rows.specs.declared.rows.Row.{Row}
use Rattle.xf_tree_rows.specs.Rows.{Sized, deeper}
use Rattle.xf_tree_walks.specs.Nodes.{node_of}
use Rattle.xf_tree_walks.proofs.lookup.tops_end.Goals as goal

-- all rows are looked at
all-rows : (n : ℕ) (rows all : List Row) → n ≡ length rows → all ≡ take (n - 0) (drop 0 rows) → all ≡ rows
all-rows n rows all count is = is ∙ ap (λ k. take (k - 0) rows) count ∙ take_rest rows 0

pub tops_end_in-requires : goal.tops_end_in-requires
tops_end_in-requires c = record { sized = subst Sized (sym (all-rows c.len.result c.args.rows.now.items c.slice.result c.len.ensures c.slice.ensures)) c.requires.sized }

pub returns : goal.returns
returns c =
    let s = c.args.slots.now in
    let rows = c.args.rows.now.items in
    let same = all-rows c.len.result rows c.slice.result c.len.ensures c.slice.ensures in
    let end = c.tops_end_in.result in
    record {
      answer = subst (λ l. map (node_of s) (take end l) ≡ in_instances (map (node_of s) l)) same c.tops_end_in.ensures.answer;
      within = subst (λ l. end ≤ length l) same c.tops_end_in.ensures.within;
      stops = subst (λ l. deeper 0 (drop end l) ≡ 0) same c.tops_end_in.ensures.stops;
    }

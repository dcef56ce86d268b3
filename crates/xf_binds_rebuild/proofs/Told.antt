-- What a rebuild that is not refused says of the entries, and that the graph by what is kept is the one that is defined.
use Rattle.std.proofs.Common.{◌≡◌, ℕ, ◌^◌, nat_lt, Bool, true, false, List, [], ◌∷◌, map, Option, Some, None, Result, Ok, Err, refl, sym, ap, ◌∙◌, subst}
use Rattle.std.specs.Prelude.{filter}
use Rattle.std.specs.List.{list_all}
use Rattle.xf_def_forest.specs.declared.content.Node.{Node}
use Rattle.xf_def_forest.specs.Forest.{Forest}
use Rattle.xf_def_forest.specs.Order.{in_order}
use Rattle.xf_def_forest.specs.Visit.{Visit, visits, has}
use Rattle.xf_def_forest.specs.Shape.{shape_of}
use Rattle.xf_graph.specs.Cycle.{IsAcyclic}
use Rattle.xf_def_model.specs.Rules.{Scope}
use Rattle.xf_def_model.specs.Applied.{Entry, Exception, applied, is_calculate}
use Rattle.xf_def_model.specs.Circular.{Reader, by_nodes, calculated, dependents, graph_over}
use Rattle.xf_def_model.specs.Entries.{touches}
use Rattle.xf_def_machine.specs.Cycles.{reported_cycle}
use Rattle.xf_eval_shape.specs.Sound.{Sound}
use Rattle.xf_binds.specs.Kept.{Kept}
use Rattle.xf_binds_rebuild.specs.Web.{asks_of, is_over}
use Rattle.xf_binds_rebuild.specs.Links.{Source, links, calculated_nodes, source_on}
use Rattle.xf_binds_rebuild.specs.Found.{is_small}
use Rattle.xf_binds_rebuild.specs.Order.{IsLinked, LinksDefined, IsAfterRebuild, RebuildTells}
use Rattle.xf_binds_rebuild.specs.Rebuilt.{Stop, table_with, unless_cycle, unless_over, no_cycle, by_applied, rebuilt}
use Rattle.xf_binds_rebuild.proofs.Entered.{applied-apart}
use Rattle.xf_binds_rebuild.proofs.Linked.{places-within}
use Rattle.xf_binds_rebuild.proofs.Rebuilds.{entries-shown}
use Rattle.xf_binds_rebuild.proofs.Ringed.{linked-alike, nodes-alike}
use Rattle.xf_binds_rebuild.proofs.Rings.{none-acyclic}
use Rattle.xf_binds_rebuild.proofs.Shown.{shown-order}

pub links_defined : LinksDefined
links_defined scope forest entries sound applies small =
    let all = shape_of forest.nodes in
    let apart = applied-apart scope all entries applies in
    let order : in_order (visits forest.nodes) (calculated_nodes entries) ≡ in_order all (calculated_nodes entries) =
    sym (shown-order forest sound (calculated_nodes entries) (entries-shown forest sound scope entries applies small)) in
    record {
      graph = ap (λ ns. links (map (source_on entries (map (asks_of scope all) entries)) ns)) order ∙ linked-alike scope all entries apart;
      nodes_in_order = ap (λ ns. map (λ (s : Source). s.node) (map (source_on entries (map (asks_of scope all) entries)) ns)) order ∙ nodes-alike scope all entries apart;
    }

none-cycle : (readers : List Reader) (o : Option (List ℕ)) (table after : List Kept) → unless_cycle readers o table ≡ Ok after → (o ≡ None) × (table ≡ after)
none-cycle readers None table after h = (refl, cc h)
none-cycle readers (Some places) table after h = cc h

pub rebuild_tells : RebuildTells
rebuild_tells scope nodes table after h = by (applied scope nodes) refl h
  where
    all : List Visit
    all = shape_of nodes

    of : (entries : List Entry) → applied scope nodes ≡ Ok entries → (b : Bool)
        → unless_over b (no_cycle (shape_of nodes) (calculated scope (shape_of nodes) entries) (table_with table scope.model entries (map (asks_of scope (shape_of nodes)) entries))) ≡ Ok after
        → IsAfterRebuild scope nodes table after
    of entries e true i = cc i
    of entries e false i =
        let readers = calculated scope (shape_of nodes) entries in
        let parts = none-cycle readers (reported_cycle (dependents (shape_of nodes) readers)) (table_with table scope.model entries (map (asks_of scope (shape_of nodes)) entries)) after i in
        record {
          entries = entries;
          applies = e;
          kept = sym parts.1;
          acyclic = none-acyclic (dependents (shape_of nodes) readers) (places-within (λ (source : Reader) (reader : Reader). touches (shape_of nodes) reader.reads source.node) readers) parts.0;
        }

    by : (given : Result (List Entry) Exception) → applied scope nodes ≡ given → by_applied scope (shape_of nodes) table given ≡ Ok after → IsAfterRebuild scope nodes table after
    by (Err x) e i = cc i
    by (Ok entries) e i = of entries e (is_over (table_with table scope.model entries (map (asks_of scope (shape_of nodes)) entries))) i

-- The rebuild of a model (XForms 1.1, section 4.3.1): its binds are applied; an exception, a limit or a cycle of calculates stops it, in
-- this order.
use Rattle.std.specs.Prelude.{ℕ, ◌≡◌, Bool, true, false, List, map, Option, Some, None, Result, Ok, Err}
use Rattle.xf_def_forest.specs.declared.content.Node.{Node}
use Rattle.xf_def_forest.specs.Visit.{Visit}
use Rattle.xf_def_forest.specs.Shape.{shape_of}
use Rattle.xf_def_model.specs.Rules.{Scope}
use Rattle.xf_def_model.specs.Applied.{Entry, Exception, twice, on_parent, applied}
use Rattle.xf_def_model.specs.Circular.{Reader, calculated, dependents, nodes_at}
use Rattle.xf_def_machine.specs.Cycles.{reported_cycle}
use Rattle.xf_binds.specs.declared.web.Asks.{Asks}
use Rattle.xf_binds.specs.Kept.{Kept}
use Rattle.xf_binds.specs.Table.{kept_at, with_kept}
use Rattle.xf_binds_rebuild.specs.Web.{asks_of, is_over}
use Rattle.xf_binds_apply.specs.declared.fault.BindFault.{BindFault}
use Rattle.xf_binds_apply.specs.declared.fault.BindFault.TheVariants as bind
use Rattle.xf_binds_rebuild.specs.declared.fault.RebuildFault.{RebuildFault}
use Rattle.xf_binds_rebuild.specs.declared.fault.RebuildFault.TheVariants.{Twice, OnParent, Edges, Circular, Memory}

-- why a model is not rebuilt
pub data Stop : Type 0 where
  exception : Exception → Stop
  -- all entries read and look at too much
  edges : Stop
  -- these nodes depend on each other in a ring
  circular : List ℕ → Stop

-- the table with these entries of a model; what it keeps of the last recalculation stays
abbrev pub table_with : List Kept → ℕ → List Entry → List Asks → List Kept
table_with table model entries web = with_kept table model (record (kept_at table model) { entries = entries; asks = web })

abbrev pub unless_cycle : List Reader → Option (List ℕ) → List Kept → Result (List Kept) Stop
unless_cycle readers None after = Ok after
unless_cycle readers (Some places) after = Err (circular (nodes_at readers places))

-- the cycle that is reported is told by its nodes
abbrev pub no_cycle : List Visit → List Reader → List Kept → Result (List Kept) Stop
no_cycle all readers after = unless_cycle readers (reported_cycle (dependents all readers)) after

abbrev pub unless_over : Bool → Result (List Kept) Stop → Result (List Kept) Stop
unless_over true given = Err edges
unless_over false given = given

abbrev pub with_entries : Scope → List Visit → List Kept → List Entry → Result (List Kept) Stop
with_entries scope all table entries =
    let after = table_with table scope.model entries (map (asks_of scope all) entries) in
    unless_over (is_over after) (no_cycle all (calculated scope all entries) after)

abbrev pub by_applied : Scope → List Visit → List Kept → Result (List Entry) Exception → Result (List Kept) Stop
by_applied scope all table (Err x) = Err (exception x)
by_applied scope all table (Ok entries) = with_entries scope all table entries

-- the table after the rebuild of the scope's model
abbrev pub rebuilt : Scope → List Node → List Kept → Result (List Kept) Stop
rebuilt scope nodes table = by_applied scope (shape_of nodes) table (applied scope nodes)

-- ---- what the call tells: the places of nodes in memory do not count, and only want of memory is free

abbrev pub IsStopped : RebuildFault → Result (List Kept) Stop → Type 0
IsStopped (Twice node) given = given ≡ Err (exception (twice node.number))
IsStopped (OnParent node) given = given ≡ Err (exception (on_parent node.number))
IsStopped Edges given = given ≡ Err edges
IsStopped (Circular nodes) given = given ≡ Err (circular nodes)
IsStopped Memory given = Unit {0}

abbrev pub IsRebuilt : {X : Type 0} → List Kept → Result X RebuildFault → Result (List Kept) Stop → Type 0
IsRebuilt table (Ok x) given = given ≡ Ok table
IsRebuilt table (Err fault) given = IsStopped fault given

-- why binds are not applied
abbrev pub fault_of : BindFault → RebuildFault
fault_of (bind.Twice node) = Twice node
fault_of (bind.OnParent node) = OnParent node
fault_of bind.Memory = Memory

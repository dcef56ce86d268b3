-- What is answered to the question for an order.
use Rattle.xf_graph.specs.declared.order.Order.{Order}
use Rattle.xf_graph.specs.declared.order.Order.TheVariants.{Sorted, Cycle}
use Rattle.xf_graph.specs.Edges.{Adjacency}
use Rattle.xf_graph.specs.Order.{IsOrder}
use Rattle.xf_graph.specs.Cycle.{IsChosen}

-- an order, or the cycle that is reported
abbrev pub IsAnswer : Adjacency → Order → Type 0
IsAnswer graph (Sorted vertices) = IsOrder graph vertices
IsAnswer graph (Cycle cycle) = IsChosen graph cycle

-- the fact where the answer is an order
abbrev pub OnSorted : Order → Type 0 → Type 0
OnSorted (Sorted vertices) fact = fact
OnSorted (Cycle cycle) fact = Unit {0}

-- Cycles of calculates, on small data.
use Rattle.std.proofs.Common.{◌≡◌, ℕ, false, List, [], ◌∷◌, refl, codes}
use Rattle.xf_def_forest.specs.declared.content.Node.{Node}
use Rattle.xf_def_forest.specs.Shape.{shape_of}
use Rattle.xf_graph.specs.Edges.{Adjacency}
use Rattle.xf_graph.specs.Cycle.{IsCycle}
use Rattle.xf_def_xpath.specs.Asked.{Trace}
use Rattle.xf_def_xpath.specs.Examples.{child, up, path, literal, call}
use Rattle.xf_def_model.specs.Rules.{Rule}
use Rattle.xf_def_model.specs.Applied.{all_entries}
use Rattle.xf_def_model.specs.Entries.{edge_count}
use Rattle.xf_def_model.specs.Circular.{Reader, calculated, graph_over, nodes_at}
use Rattle.xf_def_model.specs.Examples

abbrev readers_on : List Node → List Rule → List Reader
readers_on nodes rules = calculated (Examples.scope rules) (shape_of nodes) (all_entries (Examples.scope rules) (shape_of nodes))

abbrev graph_on : List Node → List Rule → Adjacency
graph_on nodes rules = graph_over (Examples.scope rules) (shape_of nodes) (all_entries (Examples.scope rules) (shape_of nodes))

abbrev by : List ℕ → Trace → Rule
by name t = Examples.calculate t (Examples.bind (Examples.to name))

abbrev a : List ℕ
a = codes "a"

abbrev b : List ℕ
b = codes "b"

abbrev c : List ℕ
c = codes "c"

abbrev e : List ℕ
e = codes "e"

-- ---- a by ../b, b by ../a

abbrev pub pair : List Rule
pair = by a (Examples.beside b) ∷ by b (Examples.beside a) ∷ []

pair_reads : readers_on Examples.four pair ≡ record { node = 2; reads = 4 ∷ [] } ∷ record { node = 4; reads = 2 ∷ [] } ∷ []
pair_reads = refl

pair_depends : graph_on Examples.four pair ≡ (1 ∷ []) ∷ (0 ∷ []) ∷ []
pair_depends = refl

pair_is_circular : IsCycle (graph_on Examples.four pair) (0 ∷ 1 ∷ [])
pair_is_circular = (refl, refl)

pair_is_told_as : nodes_at (readers_on Examples.four pair) (0 ∷ 1 ∷ []) ≡ 2 ∷ 4 ∷ []
pair_is_told_as = refl

-- ---- a by ../c, b by ../c, c by ../b, e by ../e

abbrev pub knot : List Rule
knot = by a (Examples.beside c) ∷ by b (Examples.beside c) ∷ by c (Examples.beside b) ∷ by e (Examples.beside e) ∷ []

knot_depends : graph_on Examples.four knot ≡ [] ∷ (2 ∷ []) ∷ (0 ∷ 1 ∷ []) ∷ (3 ∷ []) ∷ []
knot_depends = refl

knot_is_circular : IsCycle (graph_on Examples.four knot) (1 ∷ 2 ∷ [])
knot_is_circular = (refl, refl)

knot_is_told_as : nodes_at (readers_on Examples.four knot) (1 ∷ 2 ∷ []) ≡ 4 ∷ 5 ∷ []
knot_is_told_as = refl

reads_itself : IsCycle (graph_on Examples.four knot) (3 ∷ [])
reads_itself = refl

-- nodes are numbered in document order, whatever the order of the binds
in_document_order : graph_on Examples.four (by e (Examples.beside e) ∷ by c (Examples.beside b) ∷ by a (Examples.beside c) ∷ by b (Examples.beside c) ∷ []) ≡ graph_on Examples.four knot
in_document_order = refl

-- ---- what is read

-- row/@no by count(../preceding-sibling::row) + 1
counting_reads_nothing :
    graph_on Examples.numbered (Examples.calculate Examples.rows_before (Examples.bind (path (child (codes "row") ∷ Examples.at (codes "no") ∷ []))) ∷ [])
    ≡ [] ∷ [] ∷ []
counting_reads_nothing = refl

-- row by sum(../row): each reads both
adding_reads_all :
    graph_on Examples.numbered (Examples.calculate (call 42 (Examples.beside (codes "row") ∷ [])) (Examples.bind (Examples.to (codes "row"))) ∷ [])
    ≡ (0 ∷ 1 ∷ []) ∷ (0 ∷ 1 ∷ []) ∷ []
adding_reads_all = refl

-- row/@no by string-length(..): an element that is read stands for its attributes too
an_element_stands_for_its_attributes :
    graph_on Examples.numbered (Examples.calculate (call 38 (path (up false ∷ []) ∷ [])) (Examples.bind (path (child (codes "row") ∷ Examples.at (codes "no") ∷ []))) ∷ [])
    ≡ (0 ∷ []) ∷ (1 ∷ []) ∷ []
an_element_stands_for_its_attributes = refl

-- a by concat(., 'x'): reads its own node
its_own_node : graph_on Examples.four (by a (call 6 (path [] ∷ literal (codes "x") ∷ [])) ∷ []) ≡ (0 ∷ []) ∷ []
its_own_node = refl

-- x by string(..): reads its parent, which holds x
its_parent : graph_on Examples.groups (Examples.calculate (call 37 (path (up false ∷ []) ∷ [])) (Examples.bind (path (child (codes "g") ∷ child (codes "x") ∷ []))) ∷ []) ≡ (0 ∷ []) ∷ []
its_parent = refl

-- a relevant ../b, b by ../a: a relevant entry is on no cycle
only_calculates : graph_on Examples.four (Examples.relevant (Examples.beside b) (Examples.bind (Examples.to a)) ∷ by b (Examples.beside a) ∷ []) ≡ [] ∷ []
only_calculates = refl

-- a by if(true(), '1', ../b), b by ../a: the branch that is not taken counts
both_branches : graph_on Examples.four (by a (call 16 (Examples.yes ∷ literal (codes "1") ∷ Examples.beside b ∷ [])) ∷ by b (Examples.beside a) ∷ []) ≡ (1 ∷ []) ∷ (0 ∷ []) ∷ []
both_branches = refl

-- e by ../c, c by ../b, b by ../a: none
a_chain_is_none : graph_on Examples.four (by e (Examples.beside c) ∷ by c (Examples.beside b) ∷ by b (Examples.beside a) ∷ []) ≡ (1 ∷ []) ∷ (2 ∷ []) ∷ [] ∷ []
a_chain_is_none = refl

-- ---- how much is read and looked at together

-- a by ../b: reads b, and looks at the lists of d and b; b by ../a likewise
of_a_pair : edge_count (Examples.scope pair) (shape_of Examples.four) (all_entries (Examples.scope pair) (shape_of Examples.four)) ≡ 6
of_a_pair = refl

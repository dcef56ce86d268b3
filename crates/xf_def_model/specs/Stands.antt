-- What it is for contents to be settled (XForms 1.1, section 4.3.2): every calculated node has the content that its expression gives where
-- all calculated nodes have theirs. Where no cycle stands, the settled contents are such, and no others are.
use Rattle.std.specs.Prelude.{ℕ, ◌≡◌, true, false, List, filter, length, None, ◌==◌}
use Rattle.std.specs.List.{list_any}
use Rattle.xf_def_forest.specs.Visit.{Visit}
use Rattle.xf_def_forest.specs.Shape.{shape}
use Rattle.xf_graph.specs.Cycle.{IsAcyclic}
use Rattle.xf_def_model.specs.Rules.{Scope}
use Rattle.xf_def_model.specs.Applied.{Entry}
use Rattle.xf_def_model.specs.Entries.{reads_of, touches}
use Rattle.xf_def_model.specs.Circular.{graph_over}
use Rattle.xf_def_model.specs.Settled.{Bounds, Contents, content_of, holding, calculates, content_by, round}
use Rattle.xf_def_model.specs.Pertinent.{AllOf}

abbrev pub IsSettled : Bounds → Scope → List Entry → List Visit → Contents → Type 0
IsSettled b scope entries all contents = contents ≡ round b scope entries all contents

-- no other nodes have contents there than calculated ones
abbrev pub AreCalculated : List Entry → Contents → Type 0
AreCalculated entries contents = (n : ℕ) → list_any (λ e. e.node == n) (calculates entries) ≡ false → content_of contents n ≡ None

-- both give the same content to each node that the entry reads, or that has an ancestor which it reads
abbrev pub AgreeFor : Scope → List Visit → Entry → Contents → Contents → Type 0
AgreeFor scope all e one other = (n : ℕ) → touches (shape all) (reads_of scope (shape all) e) n ≡ true → content_of one n ≡ content_of other n

-- the agreement law for the calculates: each gives the same text over data that agree for it
abbrev pub Agrees : Bounds → Scope → List Entry → List Visit → Type 0
Agrees b scope entries all =
    AllOf (λ e. (one other : Contents) → AreCalculated entries one → AreCalculated entries other
    → AgreeFor scope all e one other → content_by b scope (holding all one) e ≡ content_by b scope (holding all other) e)
    (calculates entries)

-- each calculated node stands in the data, once
abbrev pub AreStanding : List Entry → List Visit → Type 0
AreStanding entries all = AllOf (λ e. length (filter (λ x. e.node == x.number) (shape all)) ≡ 1) (calculates entries)

-- no calculate reads what depends on it
abbrev pub AreAcyclic : Scope → List Entry → List Visit → Type 0
AreAcyclic scope entries all = IsAcyclic (graph_over scope (shape all) entries)

-- Small forests to read beside the definitions.
use Rattle.std.specs.Prelude.{ℕ, List, [], ◌∷◌, codes}
use Rattle.xf_name.specs.Bindings.{Bindings}
use Rattle.xf_name.specs.declared.qname.QName.{QName}
use Rattle.xf_def_forest.specs.declared.content.Node.{Node}
use Rattle.xf_def_forest.specs.declared.content.Name.{Name}
use Rattle.xf_def_forest.specs.declared.content.Content.{Content}
use Rattle.xf_def_forest.specs.declared.content.Content.TheVariants.{Root, Element, Attribute, Text}
use Rattle.xf_def_forest.specs.Forest.{Forest}
use Rattle.xf_def_forest.specs.Limits.{Limits}
use Rattle.xf_def_forest.specs.Texts.{Keeping}

abbrev pub qname : ℕ → ℕ → List ℕ → QName
qname space prefix local = record { space = space; prefix = prefix; local = local }

-- a name without a prefix, and one in the namespace `urn:p` with the prefix `p`
abbrev pub plain : List ℕ → Name
plain local = record { meaning = qname 0 0 local; prefix = [] }

abbrev pub of_p : List ℕ → Name
of_p local = record { meaning = qname 1 1 local; prefix = codes "p" }

abbrev pub node : ℕ → ℕ → Content → Node
node number depth content = record { number = number; depth = depth; content = content }

abbrev pub element : ℕ → ℕ → List ℕ → Node
element number depth local = node number depth (Element (plain local))

abbrev pub attribute : ℕ → ℕ → List ℕ → List ℕ → Node
attribute number depth local text = node number depth (Attribute (plain local) text)

abbrev pub text : ℕ → ℕ → List ℕ → Node
text number depth cs = node number depth (Text cs)

-- ["d",["row",{"k":"x","no":"7"},"1"],["row",["a","2"],"t",["a","3"]]], and detached ["p:e","q"]
abbrev pub rows : Forest
rows = record {
  nodes =
      node 0 0 Root
      ∷ element 1 1 (codes "d")
      ∷ element 2 2 (codes "row")
      ∷ attribute 3 3 (codes "k") (codes "x")
      ∷ attribute 4 3 (codes "no") (codes "7")
      ∷ text 5 3 (codes "1")
      ∷ element 6 2 (codes "row")
      ∷ element 7 3 (codes "a")
      ∷ text 8 4 (codes "2")
      ∷ text 9 3 (codes "t")
      ∷ element 10 3 (codes "a")
      ∷ text 11 4 (codes "3")
      ∷ node 12 0 (Element (of_p (codes "e")))
      ∷ text 13 1 (codes "q")
      ∷ [];
  next = 14;
}

abbrev pub keeping : Keeping
keeping = record { forest = rows; kept = [] }

-- two instances, ["a"] and ["b","x"]
abbrev pub pair_of_instances : Forest
pair_of_instances = record {
  nodes = node 0 0 Root ∷ element 1 1 (codes "a") ∷ node 2 0 Root ∷ element 3 1 (codes "b") ∷ text 4 2 (codes "x") ∷ [];
  next = 5;
}

-- the prefix p, which is urn:p; the namespace urn:q has no prefix
abbrev pub bindings : Bindings
bindings = record { spaces = codes "urn:p" ∷ codes "urn:q" ∷ []; prefixes = (codes "p", 1) ∷ [] }

-- limits that the rows just meet, and limits that they are far from
abbrev pub just : Limits
just = record { nodes = 13; text = 1; all = 21; depth = 3 }

abbrev pub wide : Limits
wide = record { nodes = 100; text = 100; all = 1000; depth = 10 }

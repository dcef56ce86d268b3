-- The part of the data that a model's own instances are: the trees whose tops are the roots of these. The trees of other models and those that
-- are detached stand elsewhere.
use Rattle.std.specs.Prelude.{ℕ, ◌≡◌, Bool, false, List, [], ◌∷◌, ◌==◌, if◌then◌else◌}
use Rattle.xf_def_syntax.specs.declared.form.Instance.{Instance}
use Rattle.xf_def_forest.specs.declared.content.Node.{Node}
use Rattle.xf_def_forest.specs.Forest.{Forest}
use Rattle.xf_def_forest.specs.Visit.{has}
use Rattle.xf_law_forests.specs.Root.Roots.{roots_in}

-- of the roots, one for each instance, those of the model's instances
abbrev pub own_roots : ℕ → List Instance → List ℕ → List ℕ
own_roots model [] roots = []
own_roots model (i ∷ is) [] = []
own_roots model (i ∷ is) (root ∷ roots) = if i.model == model then root ∷ own_roots model is roots else own_roots model is roots

-- whether the node is in a tree with one of these tops, where the node before it is or not
abbrev pub is_under : List ℕ → Bool → Node → Bool
is_under tops before x = if x.depth == 0 then has x.number tops else before

-- the trees with these tops
abbrev pub trees_from : List ℕ → Bool → List Node → List Node
trees_from tops before [] = []
trees_from tops before (x ∷ xs) = if is_under tops before x then x ∷ trees_from tops (is_under tops before x) xs else trees_from tops (is_under tops before x) xs

-- those of the model's instances
abbrev pub part_of : List Instance → ℕ → List Node → List Node
part_of instances model nodes = trees_from (own_roots model instances (roots_in nodes)) false nodes

-- the forest is the part of a model, whatever number comes next in it
pub record IsPart (instances : List Instance) (model : ℕ) (part whole : Forest) : Type 0 where
  pub nodes : part.nodes ≡ part_of instances model whole.nodes

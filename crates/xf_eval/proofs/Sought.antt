-- What a test selects on an axis is what the forest chooses there.
use Rattle.std.proofs.Common.{◌≡◌, ℕ, Bool, ◌&&◌, cond, List, [], ◌∷◌, map, Option, Some, None, refl, ap, ◌∙◌}
use Rattle.std.specs.Prelude.{filter}
use Rattle.xf_name.specs.declared.axis.Axis.{Axis}
use Rattle.xf_name.specs.declared.axis.Axis.TheVariants as axis
use Rattle.xf_name.specs.declared.qname.QName.{QName}
use Rattle.xf_def_syntax.specs.declared.expr.Test.TheVariants.{Name, InSpace, AnyName}
use Rattle.xf_def_forest.specs.declared.content.Name as node_name
use Rattle.xf_def_syntax.specs.declared.expr.Test.{Test}
use Rattle.xf_def_forest.specs.declared.content.Content.{Content}
use Rattle.xf_def_forest.specs.Forest.{content_at, name_in}
use Rattle.xf_def_forest.specs.Visit.{visits}
use Rattle.xf_def_forest.specs.Axis.{axis_of}
use Rattle.xf_def_forest.specs.Shape.{erased}
use Rattle.xf_def_forest.specs.Texts.{Keeping}
use Rattle.xf_def_forest.specs.WellFormed.{AreTrees}
use Rattle.xf_def_xpath.specs.Steps.{reached}
use Rattle.xf_def_xpath.specs.Tests.{has_name, is_in_space, is_principal, meets}
use Rattle.xf_tree_contents.specs.declared.sought.Sought.{Sought}
use Rattle.xf_tree_contents.specs.declared.sought.Principal.{Principal}
use Rattle.xf_tree_contents.specs.Sought as tree
use Rattle.xf_eval.specs.Met.{is_met, principal_in}
use Rattle.xf_eval.proofs.Lives.{reached-met}

filter-same : (p q : ℕ → Bool) → ((n : ℕ) → p n ≡ q n) → (ns : List ℕ) → filter p ns ≡ filter q ns
filter-same p q h [] = refl
filter-same p q h (n ∷ ns) = ap (λ b. cond b (n ∷ filter p ns) (filter p ns)) (h n) ∙ ap (λ l. cond (q n) (n ∷ l) l) (filter-same p q h ns)

-- the test is what is sought
abbrev pub Asks : Sought → Axis → Test → Type 0
Asks sought axis t = (content : Content) → tree.is_sought sought content ≡ meets axis t content

-- ---- tests as they are sought

principal-is : (axis : Axis) (content : Content) → tree.is_of (principal_in axis) content ≡ is_principal axis content
principal-is axis.Child content = refl
principal-is axis.Attribute content = refl
principal-is axis.Self_ content = refl
principal-is axis.Parent content = refl
principal-is axis.Ancestor content = refl
principal-is axis.AncestorOrSelf content = refl
principal-is axis.Descendant content = refl
principal-is axis.DescendantOrSelf content = refl
principal-is axis.FollowingSibling content = refl
principal-is axis.PrecedingSibling content = refl

name-is : (name : QName) (own : Option node_name.Name) → tree.has_name name own ≡ has_name name own
name-is name None = refl
name-is name (Some own) = refl

space-is : (space : ℕ) (own : Option node_name.Name) → tree.is_in_space space own ≡ is_in_space space own
space-is space None = refl
space-is space (Some own) = refl

principal-of : (axis : Axis) (p : Principal) (content : Content) → p ≡ principal_in axis → tree.is_of p content ≡ is_principal axis content
principal-of axis p content e = ap (λ k. tree.is_of k content) e ∙ principal-is axis content

pub names-asked : (axis : Axis) (p : Principal) (name : QName) (content : Content) → p ≡ principal_in axis → (tree.is_of p content && tree.has_name name (name_in content)) ≡ meets axis (Name name) content
names-asked axis p name content e = ap (λ b. b && tree.has_name name (name_in content)) (principal-of axis p content e) ∙ ap (λ b. is_principal axis content && b) (name-is name (name_in content))

pub space-asked : (axis : Axis) (p : Principal) (space : ℕ) (content : Content) → p ≡ principal_in axis → (tree.is_of p content && tree.is_in_space space (name_in content)) ≡ meets axis (InSpace space) content
space-asked axis p space content e = ap (λ b. b && tree.is_in_space space (name_in content)) (principal-of axis p content e) ∙ ap (λ b. is_principal axis content && b) (space-is space (name_in content))

pub all-asked : (axis : Axis) (p : Principal) (content : Content) → p ≡ principal_in axis → tree.is_of p content ≡ meets axis AnyName content
all-asked axis p content e = principal-of axis p content e

-- ---- what is reached

met-same : (sought : Sought) (axis : Axis) (t : Test) → Asks sought axis t → (o : Option Content) → tree.is_met sought o ≡ is_met axis t o
met-same sought axis t h None = refl
met-same sought axis t h (Some content) = h content

module _ (sought : Sought) (axis : Axis) (t : Test) (h : Asks sought axis t) (k : Keeping) (sound : AreTrees k) where
  pub chosen-reached : (n : ℕ) → tree.met_on axis sought k.forest.nodes n ≡ reached axis t (map erased (visits k.forest.nodes)) n
  chosen-reached n =
      filter-same (λ m. tree.is_met sought (content_at m k.forest.nodes)) (λ m. is_met axis t (content_at m k.forest.nodes)) (λ m. met-same sought axis t h (content_at m k.forest.nodes)) (axis_of axis n (visits k.forest.nodes))
      ∙ reached-met axis t n k sound

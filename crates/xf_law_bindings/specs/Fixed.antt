-- Which elements bind what names nodes by where they stand alone (XForms 1.1, section 3.2.3): paths that tell no texts apart and whose predicates
-- go by position, from the context node, a root or an instance; not binds, and not where rows are around.
use Rattle.std.specs.Prelude.{ℕ, ◌≡◌, true, false, List}
use Rattle.xf_def_syntax.specs.declared.expr.Expr.{Expr}
use Rattle.xf_def_xpath.specs.Exact.{facts_of}
use Rattle.xf_def_xpath.specs.Meaning.{meaning}
use Rattle.xf_def_xpath.specs.Quiet.{quiet_of}
use Rattle.xf_def_model.specs.Pertinent.{AllOf}
use Rattle.xf_def_ui.specs.Interface.{Bound, unbound, nodes, by_bind, Element, Interface}
use Rattle.xf_def_ui.specs.Elements.{element_at, is_repeat_sort}

-- no texts of the data are asked, and no predicate goes by more than positions
pub record IsPlace (e : Expr) : Type 0 where
  pub exact : (facts_of e).is_exact ≡ true
  pub quiet : (quiet_of e).is_quiet ≡ true

abbrev pub IsFixed : Bound → Type 0
IsFixed unbound = Unit {0}
IsFixed (nodes m) = (e : Expr) × (m ≡ meaning e) × IsPlace e
IsFixed (by_bind k) = ⊥

pub record IsFixedElement (e : Element) : Type 0 where
  pub bound : IsFixed e.binding
  pub once : is_repeat_sort e.sort ≡ false

abbrev pub AllFixed : Interface → List ℕ → Type 0
AllFixed f ns = AllOf (λ n. IsFixedElement (element_at f n)) ns

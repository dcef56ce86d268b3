-- What steps and predicates ask.
use Rattle.std.specs.Prelude.{ℕ, Bool, true, false, ◌&&◌, ◌||◌, List, [], ◌∷◌, ◌++◌, map, Option, Some, None, unwrap_or, if◌then◌else◌}
use Rattle.std.specs.List.{flat_map}
use Rattle.xf_name.specs.declared.axis.Axis.{Axis}
use Rattle.xf_name.specs.declared.axis.Axis.TheVariants.{Child, Attribute, Self_, Parent, Ancestor, AncestorOrSelf, Descendant, DescendantOrSelf, FollowingSibling, PrecedingSibling}
use Rattle.xf_def_syntax.specs.declared.expr.Test.{Test}
use Rattle.xf_def_syntax.specs.declared.expr.Test.TheVariants.{Text, Node}
use Rattle.xf_def_syntax.specs.declared.expr.Expr.TheOpen.{Step-F}
use Rattle.xf_def_forest.specs.Forest.{is_text}
use Rattle.xf_def_forest.specs.Visit.{Visit}
use Rattle.xf_def_xpath.specs.Setting.{Setting, Meaning, in_order}
use Rattle.xf_def_xpath.specs.Steps.{from_one, begun_at, kept_by_all}
use Rattle.xf_def_xpath.specs.Asked.{Asked, Trace, LinkTrace, WalkTrace, found, list_around, lists_below, read_for, as_set}

-- the lists that an axis looks at from a node
abbrev pub lists_of : Axis → List Visit → ℕ → List ℕ
lists_of Child all n = n ∷ []
lists_of Attribute all n = n ∷ []
lists_of Descendant all n = lists_below all n
lists_of DescendantOrSelf all n = lists_below all n
lists_of FollowingSibling all n = list_around all n
lists_of PrecedingSibling all n = list_around all n
lists_of axis all n = []

-- ---- tests that tell texts apart

-- which texts stand in a node depends on its content: what a written `text()` or `node()` reads from a node on an axis
abbrev pub kind_read : Axis → List Visit → ℕ → List ℕ
kind_read Child all n = read_for all n
kind_read Descendant all n = read_for all n
kind_read DescendantOrSelf all n = read_for all n
kind_read FollowingSibling all n = list_around all n
kind_read PrecedingSibling all n = list_around all n
kind_read axis all n = []

abbrev pub is_kind : Test → Bool
is_kind Text = true
is_kind Node = true
is_kind other = false

abbrev pub meets_texts : Axis → Bool
meets_texts Child = true
meets_texts Descendant = true
meets_texts DescendantOrSelf = true
meets_texts FollowingSibling = true
meets_texts PrecedingSibling = true
meets_texts axis = false

abbrev pub goes_up : Axis → Bool
goes_up Self_ = true
goes_up Parent = true
goes_up Ancestor = true
goes_up AncestorOrSelf = true
goes_up axis = false

-- the test is written out and may meet texts: from here on a set is loose
abbrev pub tells_kinds : Bool → Axis → Test → Bool
tells_kinds is_written axis test = is_written && is_kind test && meets_texts axis

-- `//` and then a step that stays at or above the texts that it met: loose likewise
abbrev pub is_pair : Bool → Axis → Bool
is_pair is_below axis = is_below && goes_up axis

abbrev pub read_if : Bool → List ℕ → List ℕ
read_if true ns = ns
read_if false ns = []

abbrev pub if_text : Option Visit → List ℕ
if_text None = []
if_text (Some x) = if is_text x.content then x.number ∷ [] else []

-- where an element without elements has several texts, the shape has one: it stands for those beside it
abbrev pub text_beside : Axis → List Visit → ℕ → List ℕ
text_beside FollowingSibling all n = if_text (found n all)
text_beside PrecedingSibling all n = if_text (found n all)
text_beside axis all n = []

-- ---- predicates: on a loose set each keeps every node

abbrev pub if_tight : Bool → List Trace → List Meaning
if_tight true predicates = []
if_tight false predicates = map (λ p. p.meaning) predicates

abbrev pub filtered : Setting → List Trace → Asked → Asked
filtered s predicates a = record (as_set a) { set = unwrap_or (kept_by_all s (if_tight a.is_loose predicates) a.set) [] }

-- ---- a step

-- from these nodes, among them those that `//` begins at
abbrev pub stepped : Bool → Axis → Test → List Meaning → Setting → List ℕ → List ℕ
stepped is_written axis test predicates s from = in_order s.all
    (flat_map (λ n. unwrap_or (from_one axis test predicates s n) []) from ++ read_if (tells_kinds is_written axis test) (flat_map (text_beside axis s.all) from))

abbrev pub asked_from : Step-F Trace LinkTrace WalkTrace → Setting → Asked → List ℕ → Bool → Asked
asked_from step s a from is_loose = record {
  set = stepped step.is_written step.axis step.test (if_tight is_loose step.predicates) s from;
  is_loose = is_loose;
  is_truth = false;
  reads = a.reads
      ++ read_if (tells_kinds step.is_written step.axis step.test) (flat_map (kind_read step.axis s.all) from)
      ++ read_if (is_pair step.is_below step.axis) (flat_map (read_for s.all) a.set);
  looks = a.looks
      ++ flat_map (lists_of step.axis s.all) from
      ++ read_if step.is_below (flat_map (lists_below s.all) a.set);
}

abbrev pub step_asked : Step-F Trace LinkTrace WalkTrace → Setting → Asked → Asked
step_asked step = λ s a. asked_from step s a (begun_at step.is_below s.all a.set)
    (a.is_loose || tells_kinds step.is_written step.axis step.test || is_pair step.is_below step.axis)

abbrev pub walks_asked : Setting → List WalkTrace → Asked → Asked
walks_asked s [] a = as_set a
walks_asked s (walk ∷ walks) a = walks_asked s walks (walk.asked s a)

-- What binds select and set, on small data.
use Rattle.std.proofs.Common.{◌≡◌, ℕ, true, List, [], ◌∷◌, Option, Some, None, Result, Ok, Err, refl, codes}
use Rattle.xf_num.specs.Number.{scale}
use Rattle.xf_name.specs.declared.axis.Axis.TheVariants as axis
use Rattle.xf_def_syntax.specs.declared.expr.Test.TheVariants as test
use Rattle.xf_def_syntax.specs.declared.expr.Operator.TheVariants as operator
use Rattle.xf_def_forest.specs.declared.content.Node.{Node}
use Rattle.xf_def_forest.specs.Visit.{visits}
use Rattle.xf_def_forest.specs.Shape.{shape_of}
use Rattle.xf_def_xpath.specs.Asked.{Trace}
use Rattle.xf_def_xpath.specs.Examples.{simple, step, child, path, from_root, number, call, two}
use Rattle.xf_def_model.specs.declared.property.Property.TheVariants as property
use Rattle.xf_def_model.specs.Rules.{Rule}
use Rattle.xf_def_model.specs.Nested.{sets_of, nested}
use Rattle.xf_def_model.specs.Applied.{Entry, Exception, twice, on_parent, all_entries, applied}
use Rattle.xf_def_model.specs.Examples

abbrev s : List ℕ
s = codes "s"

-- bind i, in it bind s by position()
abbrev lines : List Rule
lines =
    Examples.bind (Examples.to (codes "i"))
    ∷ record (Examples.inside 0 (Examples.bind (Examples.to s))) { calculate = Some (Examples.placed (call 29 [])) } ∷ []

-- ---- node sets

-- once for each i
once_for_each : sets_of None (Examples.scope lines) (shape_of Examples.invoices) (Examples.inside 0 (Examples.bind (Examples.to s))) ≡ Some ((3 ∷ 4 ∷ []) ∷ (6 ∷ []) ∷ [])
once_for_each = refl

-- so positions are 1, 2, 1
within_each : Examples.standings (all_entries (Examples.scope lines) (shape_of Examples.invoices)) ≡ (3, 1, 2) ∷ (4, 2, 2) ∷ (6, 1, 1) ∷ []
within_each = refl

-- for a control they are one set
all_together : nested None (Examples.scope lines) (visits Examples.invoices) 1 ≡ Some (3 ∷ 4 ∷ 6 ∷ [])
all_together = refl

-- `.` of a nested bind is the node of the bind around
a_bind_on_itself : sets_of None (Examples.scope lines) (shape_of Examples.invoices) (Examples.inside 0 (Examples.bind (path []))) ≡ Some ((2 ∷ []) ∷ (5 ∷ []) ∷ [])
a_bind_on_itself = refl

-- i/s[2]: a place in each i
places_count_in_each : sets_of None (Examples.scope []) (shape_of Examples.invoices) (Examples.bind (path (child (codes "i") ∷ step axis.Child (simple s) (number 2 ∷ []) ∷ []))) ≡ Some ((4 ∷ []) ∷ [])
unfolding scale
places_count_in_each = refl

-- a/text(): in the shape an element without elements has one text, whatever it holds
abbrev texts_of : List ℕ → Trace
texts_of name = path (child name ∷ step axis.Child test.Text [] ∷ [])

a_text_stands_for_its_parent : sets_of None (Examples.scope []) (shape_of Examples.four) (Examples.bind (texts_of (codes "a"))) ≡ Some ((2 ∷ []) ∷ [])
a_text_stands_for_its_parent = refl

an_empty_element_has_one : sets_of None (Examples.scope []) (shape_of Examples.four) (Examples.bind (texts_of (codes "b"))) ≡ Some ((4 ∷ []) ∷ [])
an_empty_element_has_one = refl

-- over the data themselves it has none
a_control_has_no_node : nested None (Examples.scope (Examples.bind (texts_of (codes "b")) ∷ [])) (visits Examples.four) 0 ≡ Some []
a_control_has_no_node = refl

-- h | h/text(): both stand for h
each_node_once : sets_of None (Examples.scope []) (shape_of Examples.groups) (Examples.bind (two (Examples.to (codes "h")) operator.Union (texts_of (codes "h")))) ≡ Some ((5 ∷ []) ∷ [])
each_node_once = refl

-- /
a_root_stands_for_its_document_element : sets_of None (Examples.scope []) (shape_of Examples.four) (Examples.bind (from_root [])) ≡ Some ((1 ∷ []) ∷ [])
a_root_stands_for_its_document_element = refl

-- 1 + 1
a_plain_value_selects_nothing : sets_of None (Examples.scope []) (shape_of Examples.four) (Examples.bind (two (number 1) operator.Add (number 1))) ≡ Some ([] ∷ [])
a_plain_value_selects_nothing = refl

-- concat(a, a) is too long with strings of 1 byte
too_long_for_a_control : nested (Some 1) (Examples.scope (Examples.bind (call 6 (Examples.to (codes "a") ∷ Examples.to (codes "a") ∷ [])) ∷ [])) (visits Examples.four) 0 ≡ None
too_long_for_a_control = refl

-- ---- what is set

abbrev applied_on : List Node → List Rule → List Entry
applied_on nodes rules = all_entries (Examples.scope rules) (shape_of nodes)

abbrev a : Trace
a = Examples.to (codes "a")

-- bind a required, bind * calculate and relevant
abbrev two_binds : List Rule
two_binds = Examples.required Examples.yes (Examples.bind (Examples.to (codes "b"))) ∷ Examples.relevant Examples.no (Examples.calculate (number 1) (Examples.bind (path (step axis.Child test.AnyName [] ∷ [])))) ∷ []

-- bind by bind, node by node, property by property
in_their_order :
    applied_on Examples.nest two_binds
    ≡ record { node = 3; property = property.Required; bind = 0; position = 1; size = 1 }
    ∷ record { node = 2; property = property.Calculate; bind = 1; position = 1; size = 2 }
    ∷ record { node = 2; property = property.Relevant; bind = 1; position = 1; size = 2 }
    ∷ record { node = 3; property = property.Calculate; bind = 1; position = 2; size = 2 }
    ∷ record { node = 3; property = property.Relevant; bind = 1; position = 2; size = 2 } ∷ []
in_their_order = refl

-- a bind of another model sets nothing
of_one_model : applied_on Examples.nest (record (Examples.required Examples.yes (Examples.bind a)) { model = 1 } ∷ []) ≡ []
of_one_model = refl

-- ---- exceptions

abbrev outcome : List Node → List Rule → Option Exception
outcome nodes rules = exception_in (applied (Examples.scope rules) nodes)
  where
    exception_in : Result (List Entry) Exception → Option Exception
    exception_in (Ok entries) = None
    exception_in (Err x) = Some x

none_stands : outcome Examples.invoices lines ≡ None
none_stands = refl

-- bind i, in it bind ../t required: t is in both sets
a_node_of_two_sets :
    outcome Examples.invoices (Examples.bind (Examples.to (codes "i")) ∷ Examples.required Examples.yes (Examples.inside 0 (Examples.bind (Examples.beside (codes "t")))) ∷ [])
    ≡ Some (twice 7)
a_node_of_two_sets = refl

-- without a property it is none
two_sets_alone : outcome Examples.invoices (Examples.bind (Examples.to (codes "i")) ∷ Examples.inside 0 (Examples.bind (Examples.beside (codes "t"))) ∷ []) ≡ None
two_sets_alone = refl

-- bind a required, bind * calculate and required: at a the property is set twice, before the calculate on b
node_by_node :
    outcome Examples.nest (Examples.required Examples.yes (Examples.bind a) ∷ Examples.required Examples.yes (Examples.calculate (number 1) (Examples.bind (path (step axis.Child test.AnyName [] ∷ [])))) ∷ [])
    ≡ Some (twice 2)
node_by_node = refl

-- bind b required, bind b calculate and required: at b the calculate comes first
property_by_property :
    outcome Examples.nest (Examples.required Examples.yes (Examples.bind (Examples.to (codes "b"))) ∷ Examples.required Examples.yes (Examples.calculate (number 1) (Examples.bind (Examples.to (codes "b")))) ∷ [])
    ≡ Some (on_parent 3)
property_by_property = refl

a_calculate_on_a_parent : outcome Examples.nest (Examples.calculate (number 1) (Examples.bind (Examples.to (codes "b"))) ∷ []) ≡ Some (on_parent 3)
a_calculate_on_a_parent = refl

another_property_on_a_parent : outcome Examples.nest (Examples.readonly Examples.yes (Examples.bind (Examples.to (codes "b"))) ∷ []) ≡ None
another_property_on_a_parent = refl

a_type_twice :
    outcome Examples.nest (Examples.typed (Examples.integer true) (Examples.bind a) ∷ Examples.typed (Examples.integer true) (Examples.bind a) ∷ [])
    ≡ Some (twice 2)
a_type_twice = refl

different_properties : outcome Examples.nest (Examples.required Examples.yes (Examples.bind a) ∷ Examples.constraint Examples.yes (Examples.bind a) ∷ []) ≡ None
different_properties = refl

-- bind i, in it bind ../i with a type and a calculate: both sets hold the first i, whose type is set twice before its calculate is tried
a_property_before_the_next :
    outcome Examples.invoices (Examples.bind (Examples.to (codes "i")) ∷ Examples.typed (Examples.integer true) (Examples.calculate (number 1) (Examples.inside 0 (Examples.bind (Examples.beside (codes "i"))))) ∷ [])
    ≡ Some (twice 2)
a_property_before_the_next = refl

-- bind i, in it the other i's with a calculate: the first one is tried first, though it stands in the second set
abbrev others : Trace
others = two (path (step axis.PrecedingSibling (simple (codes "i")) [] ∷ [])) operator.Union (path (step axis.FollowingSibling (simple (codes "i")) [] ∷ []))

in_document_order_over_sets : outcome Examples.invoices (Examples.bind (Examples.to (codes "i")) ∷ Examples.calculate (number 1) (Examples.inside 0 (Examples.bind others)) ∷ []) ≡ Some (on_parent 2)
in_document_order_over_sets = refl

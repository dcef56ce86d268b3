-- Location paths (XPath 1.0, sections 2.1 to 2.5): a rule `nested` reads an expression in brackets from its opening bracket on; b are
-- the bindings of the form.
use Rattle.std.specs.Prelude.{ℕ, zero, suc, ◌||◌, Bool, true, false, if◌then◌else◌, List, [], ◌∷◌, ◌++◌, codes, Option, Some, None, Result, Ok, Err}
use Rattle.std.specs.Str.{bytes_eq}
use Rattle.xf_base.specs.Limits.{expression_limit}
use Rattle.xf_name.specs.Bindings.{Bindings, resolved}
use Rattle.xf_name.specs.Part.{at_colon}
use Rattle.xf_name.specs.declared.axis.Axis.{Axis}
use Rattle.xf_name.specs.declared.axis.Axis.TheVariants as axis
use Rattle.xf_name.specs.declared.qname.QName.{QName}
use Rattle.xf_name.specs.declared.fault.NameFault.{NameFault}
use Rattle.xf_name.specs.declared.fault.NameFault.TheVariants as name
use Rattle.xf_def_syntax.specs.declared.expr.Test.{Test}
use Rattle.xf_def_syntax.specs.declared.expr.Test.TheVariants as test
use Rattle.xf_def_syntax.specs.declared.expr.Expr.{Expr}
use Rattle.xf_def_syntax.specs.declared.expr.Step.{Step, roll-Step}
use Rattle.xf_path.specs.declared.fault.ExprKind.TheVariants.{Syntax, Prefix}
use Rattle.xf_path.specs.declared.token.Kind.{Kind}
use Rattle.xf_path.specs.declared.token.Kind.TheVariants as k
use Rattle.xf_path.specs.Reading.{Rule, kind_of, text_of, ◌>>=◌, ◌>>◌, pure, next_kind, next_place, pass_next, close, close_square, refuse}

-- ---- axes

-- [6] AxisName: the ten axes that expressions have here
unfoldable pub axis_called : List ℕ → Option Axis
axis_called text =
    if bytes_eq text (codes "child") then Some axis.Child
    else (if bytes_eq text (codes "attribute") then Some axis.Attribute
    else (if bytes_eq text (codes "self") then Some axis.Self_
    else (if bytes_eq text (codes "parent") then Some axis.Parent
    else (if bytes_eq text (codes "ancestor") then Some axis.Ancestor
    else (if bytes_eq text (codes "ancestor-or-self") then Some axis.AncestorOrSelf
    else (if bytes_eq text (codes "descendant") then Some axis.Descendant
    else (if bytes_eq text (codes "descendant-or-self") then Some axis.DescendantOrSelf
    else (if bytes_eq text (codes "following-sibling") then Some axis.FollowingSibling
    else (if bytes_eq text (codes "preceding-sibling") then Some axis.PrecedingSibling else None)))))))))

-- the name of an axis and its `::`
abbrev pub named_axis : Option Axis → Rule Axis
named_axis None = refuse Syntax
named_axis (Some along) = pass_next >> pass_next >> pure along

abbrev pub axis_by : Kind → List ℕ → Rule Axis
axis_by k.At text = pass_next >> pure axis.Attribute
axis_by k.AxisName text = named_axis (axis_called text)
axis_by _ text = pure axis.Child

-- [5] AxisSpecifier: `@` is `attribute::`, and none is `child::`
unfoldable pub axis_rule : Rule Axis
axis_rule = λ ts. axis_by (kind_of ts) (text_of ts) ts

-- ---- node tests

-- [37] NameTest: a name without a prefix has no namespace
abbrev pub name_test : Result QName NameFault → Rule Test
name_test (Ok name) = pass_next >> pure (test.Name name)
name_test (Err name.PrefixUnknown) = refuse Prefix
name_test (Err _) = refuse Syntax

-- [37] NameTest: `p:*` asks for the namespace that each name with this prefix has
abbrev pub space_test : Result QName NameFault → Rule Test
space_test (Ok name) = pass_next >> pure (test.InSpace name.space)
space_test (Err name.PrefixUnknown) = refuse Prefix
space_test (Err _) = refuse Syntax

abbrev pub space_named : Bindings → Option (List ℕ × List ℕ) → Rule Test
space_named b None = refuse Syntax
space_named b (Some parts) = space_test (resolved b (parts.0 ++ codes ":_") 0)

-- [38] NodeType: data have neither comments nor processing instructions
unfoldable pub type_called : List ℕ → Option Test
type_called text =
    if bytes_eq text (codes "text") then Some test.Text
    else (if bytes_eq text (codes "node") then Some test.Node
    else (if bytes_eq text (codes "comment") || bytes_eq text (codes "processing-instruction") then Some test.Nothing else None))

-- a processing instruction may be asked for by its name
abbrev pub target_by : Bool → Kind → Rule (Unit {0})
target_by true k.Literal = pass_next
target_by _ _ = pure tt

unfoldable pub target : Bool → Rule (Unit {0})
target may_stand = λ ts. target_by may_stand (kind_of ts) ts

abbrev pub type_test : List ℕ → Option Test → Rule Test
type_test text None = refuse Syntax
type_test text (Some asked) = pass_next >> pass_next >> target (bytes_eq text (codes "processing-instruction")) >> close >> pure asked

abbrev pub test_by : Bindings → Kind → List ℕ → Rule Test
test_by b k.Name text = name_test (resolved b text 0)
test_by b k.SpaceStar text = space_named b (at_colon text)
test_by b k.Star text = pass_next >> pure test.AnyName
test_by b k.Called text = type_test text (type_called text)
test_by b _ text = refuse Syntax

-- [7] NodeTest
unfoldable pub node_test : Bindings → Rule Test
node_test b = λ ts. test_by b (kind_of ts) (text_of ts) ts

-- ---- steps

-- [8] Predicate
unfoldable pub predicate : Rule Expr → Rule Expr
predicate nested = nested >>= (λ inner. close_square >> pure inner)

abbrev pub opens_predicate : Kind → Bool
opens_predicate k.OpenSquare = true
opens_predicate _ = false

abbrev pub predicates_by : Rule (List Expr) → List Expr → Bool → Rule (List Expr)
predicates_by more found true = more
predicates_by more found false = pure found

-- the predicates that follow those found
unfoldable pub more_predicates : Rule Expr → ℕ → List Expr → Rule (List Expr)
more_predicates nested zero found = pure found
more_predicates nested (suc most) found = next_kind >>= (λ kind. predicates_by (predicate nested >>= (λ next. more_predicates nested most (found ++ next ∷ []))) found (opens_predicate kind))

abbrev pub predicates : Rule Expr → Rule (List Expr)
predicates nested = more_predicates nested expression_limit []

-- [12] AbbreviatedStep: `.` is `self::node()`, and `..` is `parent::node()`
unfoldable pub abbreviated : Bool → Axis → Rule Step
abbreviated is_below along = do
  place ← next_place
  pass_next
  pure (roll-Step (record { place = place; is_below = is_below; is_written = false; axis = along; test = test.Node; predicates = [] }))

unfoldable pub written : Bindings → Rule Expr → Bool → Rule Step
written b nested is_below = do
  place ← next_place
  along ← axis_rule
  asked ← node_test b
  found ← predicates nested
  pure (roll-Step (record { place = place; is_below = is_below; is_written = true; axis = along; test = asked; predicates = found }))

abbrev pub step_by : Bindings → Rule Expr → Bool → Kind → Rule Step
step_by b nested is_below k.Dot = abbreviated is_below axis.Self_
step_by b nested is_below k.DotDot = abbreviated is_below axis.Parent
step_by b nested is_below _ = written b nested is_below

-- [4] Step, behind `//` where it is below
unfoldable pub step : Bindings → Rule Expr → Bool → Rule Step
step b nested is_below = next_kind >>= step_by b nested is_below

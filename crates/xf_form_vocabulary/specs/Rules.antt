-- What the attributes of an element say, and with which texts (XForms 1.1, sections 3, 6, 8 to 11; XML Events, section 3). An attribute
-- that is not named here has no meaning at the element.
use Rattle.std.specs.Prelude.{ℕ, Bool, true, false, ◌&&◌, ◌||◌, ◌==◌, nat_le, if◌then◌else◌, Option, Some, None}
use Rattle.xf_form_vocabulary.specs.declared.attribute.TheConstants as at
use Rattle.xf_form_vocabulary.specs.declared.tag.Tag.{Tag}
use Rattle.xf_form_vocabulary.specs.declared.tag.Tag.TheVariants as tag
use Rattle.xf_form_vocabulary.specs.declared.texts.Choice.{Choice}
use Rattle.xf_form_vocabulary.specs.declared.texts.Choice.TheVariants as choice
use Rattle.xf_form_vocabulary.specs.declared.rules.Wanted.{Wanted}
use Rattle.xf_form_vocabulary.specs.declared.rules.Wanted.TheVariants as wanted
use Rattle.xf_form_vocabulary.specs.Classes.{is_control, is_action}

-- ---- expressions

abbrev pub is_property : ℕ → Bool
is_property code =
    code == at.NODESET || code == at.CALCULATE || code == at.RELEVANT || code == at.READONLY || code == at.REQUIRED || code == at.CONSTRAINT

-- the computed expressions
abbrev pub is_computed : Tag → ℕ → Bool
is_computed tag.Bind code = is_property code
is_computed t code = false

abbrev pub is_place : ℕ → Bool
is_place code = code == at.NODESET || code == at.CONTEXT || code == at.AT

abbrev pub is_expression_of : Tag → ℕ → Bool
is_expression_of tag.SetValue code = code == at.REF || code == at.VALUE
is_expression_of tag.Insert code = code == at.ORIGIN || is_place code
is_expression_of tag.Delete code = is_place code
is_expression_of tag.SetIndex code = code == at.INDEX
is_expression_of tag.Load code = code == at.REF
is_expression_of tag.Message code = code == at.REF
is_expression_of t code = false

-- every action has `if` and `while`
abbrev pub is_expression_by_class : Tag → ℕ → Bool
is_expression_by_class t code =
    if is_control t then code == at.REF else is_action t && (code == at.IF || code == at.WHILE || is_expression_of t code)

abbrev pub is_expression : Tag → ℕ → Bool
is_expression tag.Bind code = is_property code
is_expression tag.Submission code = code == at.REF || code == at.TARGET_REF
is_expression tag.Repeat code = code == at.NODESET
is_expression tag.Itemset code = code == at.NODESET
is_expression tag.Group code = code == at.REF
is_expression tag.Switch code = code == at.REF
is_expression tag.Label code = code == at.REF
is_expression tag.Value code = code == at.REF || code == at.VALUE
is_expression tag.Output code = code == at.REF || code == at.VALUE
is_expression t code = is_expression_by_class t code

-- ---- texts

abbrev pub when : Bool → Choice → Option Choice
when holds c = if holds then Some c else None

abbrev pub choice_of_handler : ℕ → Option Choice
choice_of_handler code =
    if code == at.PHASE then Some choice.Phase else (if code == at.PROPAGATE then Some choice.Propagation else when (code == at.DEFAULT_ACTION) choice.DefaultAction)

abbrev pub choice_of_dispatch : ℕ → Option Choice
choice_of_dispatch code = if code == at.DELAY then Some choice.Delay else when (code == at.BUBBLES || code == at.CANCELABLE) choice.Truth

abbrev pub choice_of_submission : ℕ → Option Choice
choice_of_submission code =
    if code == at.METHOD then Some choice.Method else (if code == at.REPLACE then Some choice.Replace else when (code == at.VALIDATE || code == at.RELEVANT) choice.Truth)

abbrev pub choice_by_tag : Tag → ℕ → Option Choice
choice_by_tag tag.Case code = when (code == at.SELECTED) choice.Truth
choice_by_tag tag.Select code = when (code == at.SELECTION) choice.Selection
choice_by_tag tag.SelectOne code = when (code == at.SELECTION) choice.Selection
choice_by_tag tag.Repeat code = when (code == at.START_INDEX) choice.Count
choice_by_tag tag.Model code = when (code == at.DECIMALS) choice.Decimals
choice_by_tag tag.Insert code = when (code == at.POSITION) choice.Position
choice_by_tag tag.Dispatch code = choice_of_dispatch code
choice_by_tag tag.Submission code = choice_of_submission code
choice_by_tag t code = None

-- the texts that an attribute may have, where it may not have any; those of XML Events count at handlers
abbrev pub choice_of : Tag → Bool → ℕ → Option Choice
choice_of t is_handler code = if is_handler && nat_le at.EVENTS code then choice_of_handler code else choice_by_tag t code

-- ---- ids

abbrev pub if_named : Bool → Wanted → Option Wanted
if_named holds w = if holds then Some w else None

abbrev pub may_bind : Tag → Bool
may_bind tag.Submission = true
may_bind tag.Group = true
may_bind tag.Switch = true
may_bind tag.Repeat = true
may_bind tag.Itemset = true
may_bind tag.Label = true
may_bind tag.Value = true
may_bind tag.SetValue = true
may_bind tag.Insert = true
may_bind tag.Delete = true
may_bind tag.Load = true
may_bind tag.Message = true
may_bind t = is_control t

abbrev pub has_model : Tag → Bool
has_model tag.Output = false
has_model tag.Group = true
has_model tag.Switch = true
has_model tag.Repeat = true
has_model t = is_control t || is_action t

abbrev pub wanted_by_tag : Tag → ℕ → Option Wanted
wanted_by_tag tag.Submission code = if_named (code == at.INSTANCE) wanted.Instance
wanted_by_tag tag.Submit code = if_named (code == at.SUBMISSION) wanted.Submission
wanted_by_tag tag.Send code = if_named (code == at.SUBMISSION) wanted.Submission
wanted_by_tag tag.SetIndex code = if_named (code == at.REPEAT) wanted.Repeat
wanted_by_tag tag.Toggle code = if_named (code == at.CASE) wanted.Case
wanted_by_tag tag.SetFocus code = if_named (code == at.CONTROL) wanted.Control
wanted_by_tag tag.Dispatch code = if_named (code == at.TARGET_ID || code == at.TARGET) wanted.Any
wanted_by_tag t code = None

-- which kind of element an attribute names by its id
abbrev pub wanted_of : Tag → Bool → ℕ → Option Wanted
wanted_of t is_handler code =
    if code == at.BIND then if_named (may_bind t) wanted.Bind
    else (if code == at.MODEL then if_named (has_model t) wanted.Model
    else (if code == at.OBSERVER || code == at.EVENT_TARGET then if_named is_handler wanted.Any else wanted_by_tag t code))

-- The faults of an attribute that it has by itself: an expression that cannot be read or is not static where it has to be, a text
-- outside its list, a type that there is not. d is the number of decimals.
use Rattle.std.specs.Prelude.{ℕ, Bool, false, not, ◌&&◌, ◌==◌, List, [], Option, Some, None, is_some, is_none, is_ok, unwrap_or, Result, Ok, Err}
use Rattle.xf_def_syntax.specs.declared.expr.Expr.{Expr}
use Rattle.xf_name.specs.Bindings.{Bindings, resolved, text_of_space}
use Rattle.xf_name.specs.declared.qname.QName.{QName}
use Rattle.xf_name.specs.declared.fault.NameFault.{NameFault}
use Rattle.xf_path.specs.Grammar.{parsed}
use Rattle.xf_path.specs.Static.{static_fault}
use Rattle.xf_path.specs.declared.fault.ParseFault.{ParseFault}
use Rattle.xf_schema.specs.declared.written.NamedType.{NamedType}
use Rattle.xf_schema.specs.declared.written.TypeName.{TypeName}
use Rattle.xf_schema.specs.Types.{type_called}
use Rattle.xf_form_vocabulary.specs.declared.attribute.TheConstants as at
use Rattle.xf_form_vocabulary.specs.declared.tag.Tag.{Tag}
use Rattle.xf_form_vocabulary.specs.declared.texts.Choice.{Choice}
use Rattle.xf_form_vocabulary.specs.Attributes.{Shown}
use Rattle.xf_form_vocabulary.specs.Classes.{has_properties}
use Rattle.xf_form_vocabulary.specs.Rules.{is_expression, is_computed, choice_of}
use Rattle.xf_form_vocabulary.specs.Texts.{allows}

-- ---- expressions

abbrev pub is_readable : ℕ → Bindings → List ℕ → Bool
is_readable d b text = is_ok (parsed d b text)

abbrev pub is_bad_expression : ℕ → Bindings → Tag → Shown → Bool
is_bad_expression d b t k = is_expression t k.0 && not (is_readable d b k.1)

abbrev pub is_moving_by : Result Expr ParseFault → Bool
is_moving_by (Ok expr) = is_some (static_fault expr)
is_moving_by (Err fault) = false

-- an expression that is not static
abbrev pub is_moving : ℕ → Bindings → List ℕ → Bool
is_moving d b text = is_moving_by (parsed d b text)

abbrev pub is_moving_expression : ℕ → Bindings → Tag → Shown → Bool
is_moving_expression d b t k = is_computed t k.0 && is_moving d b k.1

-- ---- texts

abbrev pub is_outside : Option Choice → List ℕ → Bool
is_outside None text = false
is_outside (Some c) text = not (allows c text)

abbrev pub is_bad_text : Tag → Bool → Shown → Bool
is_bad_text t is_handler k = is_outside (choice_of t is_handler k.0) k.1

-- ---- types

abbrev pub type_by : Bindings → List TypeName → Result QName NameFault → Option NamedType
type_by b names (Err fault) = None
type_by b names (Ok name) = type_called names (unwrap_or (text_of_space b name.space) []) name.local

-- the simple type that a written name means, where the schemas of the form have these
abbrev pub type_of : Bindings → List TypeName → List ℕ → Option NamedType
type_of b names written = type_by b names (resolved b written 0)

abbrev pub is_bad_type : Bindings → List TypeName → Tag → Shown → Bool
is_bad_type b names t k = has_properties t && (k.0 == at.TYPE) && is_none (type_of b names k.1)

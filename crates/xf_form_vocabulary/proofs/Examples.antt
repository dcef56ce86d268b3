-- The vocabulary at single elements and attributes.
use Rattle.std.proofs.Common.{◌≡◌, ℕ, List, [], ◌∷◌, Some, None, Ok, Err, true, false, refl}
use Rattle.std.specs.Prelude.{codes}
use Rattle.xf_name.specs.Bindings.{Bindings}
use Rattle.xf_name.specs.declared.fault.NameFault.TheVariants.{PrefixUnknown}
use Rattle.xf_table.specs.Contents.{element_entries, attribute_entries}
use Rattle.xf_schema.specs.declared.written.FacetKind.TheVariants as facet
use Rattle.xf_form_vocabulary.specs.declared.attribute.TheConstants as at
use Rattle.xf_form_vocabulary.specs.declared.rules.Wanted.TheVariants as wanted
use Rattle.xf_form_vocabulary.specs.declared.tag.Tag.TheVariants as tag
use Rattle.xf_form_vocabulary.specs.declared.texts.Choice.TheVariants as choice
use Rattle.xf_form_vocabulary.specs.Attributes.{code_in}
use Rattle.xf_form_vocabulary.specs.Faults.{is_bad_text, type_by}
use Rattle.xf_form_vocabulary.specs.Needs.{lacks}
use Rattle.xf_form_vocabulary.specs.Placement.{may_stand}
use Rattle.xf_form_vocabulary.specs.Rules.{is_expression, is_computed, choice_of, wanted_of}
use Rattle.xf_form_vocabulary.specs.Tags.{tag_by, schema_tag_by, schema_tag_named, forms_uri, schema_uri}
use Rattle.xf_form_vocabulary.specs.Texts.{allows, decimals_in}

abbrev b : Bindings
b = record { spaces = forms_uri ∷ codes "urn:u" ∷ schema_uri ∷ []; prefixes = (codes "xf", 1) ∷ (codes "u", 2) ∷ (codes "xs", 3) ∷ [] }

-- ---- names

select_one : tag_by b (Ok (record { space = 1; prefix = 1; local = codes "select1" })) ≡ tag.SelectOne
unfolding element_entries
select_one = refl

no_element : tag_by b (Ok (record { space = 1; prefix = 1; local = codes "inpt" })) ≡ tag.Unknown
unfolding element_entries
no_element = refl

other_space : tag_by b (Ok (record { space = 2; prefix = 2; local = codes "input" })) ≡ tag.Host
other_space = refl

a_schema : tag_by b (Ok (record { space = 3; prefix = 3; local = codes "schema" })) ≡ tag.Schema
a_schema = refl

-- outside a schema the other names of XML Schema have no meaning
no_schema : tag_by b (Ok (record { space = 3; prefix = 3; local = codes "simpleType" })) ≡ tag.Host
no_schema = refl

in_a_schema : schema_tag_by b (Ok (record { space = 3; prefix = 3; local = codes "simpleType" })) ≡ tag.SimpleType
in_a_schema = refl

of_other_spaces : schema_tag_by b (Ok (record { space = 2; prefix = 2; local = codes "simpleType" })) ≡ tag.Unknown
of_other_spaces = refl

a_facet : schema_tag_named (codes "maxInclusive") ≡ tag.Facet facet.MaxInclusive
a_facet = refl

no_facet : schema_tag_named (codes "pattern") ≡ tag.Unknown
no_facet = refl

target_of_events : code_in true (codes "target") ≡ Some at.EVENT_TARGET
unfolding attribute_entries
target_of_events = refl

no_phase_of_xforms : code_in false (codes "phase") ≡ None
unfolding attribute_entries
no_phase_of_xforms = refl

-- ---- places

item_in_host : may_stand tag.Item tag.Host ≡ false
item_in_host = refl

message_in_switch : may_stand tag.Message tag.Switch ≡ false
message_in_switch = refl

schema_in_model : may_stand tag.Schema tag.Model ≡ true
schema_in_model = refl

schema_in_host : may_stand tag.Schema tag.Host ≡ false
schema_in_host = refl

help_in_item : may_stand tag.Help tag.Item ≡ true
help_in_item = refl

-- ---- attributes

node_set_of_bind : is_computed tag.Bind at.NODESET ≡ true
node_set_of_bind = refl

node_set_of_repeat : is_computed tag.Repeat at.NODESET ≡ false
node_set_of_repeat = refl

resource_of_load : is_expression tag.Load at.RESOURCE ≡ false
resource_of_load = refl

no_model_of_output : wanted_of tag.Output false at.MODEL ≡ None
no_model_of_output = refl

phase_of_handler : choice_of tag.Message true at.PHASE ≡ Some choice.Phase
phase_of_handler = refl

phase_of_other : choice_of tag.Message false at.PHASE ≡ None
phase_of_other = refl

observer_of_handler : wanted_of tag.Message true at.OBSERVER ≡ Some wanted.Any
observer_of_handler = refl

-- ---- faults

ten_digits : allows choice.Count (codes "0123456789") ≡ false
ten_digits = refl

two_decimals : is_bad_text tag.Model false (at.DECIMALS, codes "2") ≡ false
two_decimals = refl

ten_decimals : is_bad_text tag.Model false (at.DECIMALS, codes "10") ≡ true
ten_decimals = refl

no_decimals : is_bad_text tag.Model false (at.DECIMALS, []) ≡ true
no_decimals = refl

nine_decimals : decimals_in (codes "9") ≡ Some 9
nine_decimals = refl

selected_maybe : is_bad_text tag.Case false (at.SELECTED, codes "maybe") ≡ true
selected_maybe = refl

bound_input : lacks tag.Input false ((at.BIND, codes "k") ∷ []) ≡ false
bound_input = refl

unbound_input : lacks tag.Input false ((at.VALUE, codes "1") ∷ []) ≡ true
unbound_input = refl

message_without_event : lacks tag.Message true [] ≡ true
message_without_event = refl

unknown_prefix : type_by b [] (Err PrefixUnknown) ≡ None
unknown_prefix = refl

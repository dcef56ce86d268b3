-- What an element of a form is by its name (XForms 1.1, section 2.1; XML Schema part 2, section 4; Namespaces in XML 1.0, section 6).
use Rattle.std.specs.Prelude.{ℕ, Bool, false, ◌&&◌, ◌==◌, if◌then◌else◌, List, [], ◌∷◌, get_or, bytes_eq, codes, Option, Some, None, Result, Ok, Err}
use Rattle.xf_name.specs.Bindings.{Bindings, space_number, resolved}
use Rattle.xf_name.specs.declared.qname.QName.{QName}
use Rattle.xf_name.specs.declared.fault.NameFault.{NameFault}
use Rattle.xf_table.specs.Rows.{code_of}
use Rattle.xf_table.specs.Contents.{element_entries}
use Rattle.xf_schema.specs.declared.written.FacetKind.{FacetKind}
use Rattle.xf_schema.specs.declared.written.FacetKind.TheVariants as facet
use Rattle.xf_form_vocabulary.specs.declared.tag.Tag.{Tag}
use Rattle.xf_form_vocabulary.specs.declared.tag.Tag.TheVariants as tag

abbrev pub forms_uri : List ℕ
forms_uri = codes "http://www.w3.org/2002/xforms"

abbrev pub schema_uri : List ℕ
schema_uri = codes "http://www.w3.org/2001/XMLSchema"

abbrev pub is_number : Option ℕ → ℕ → Bool
is_number None number = false
is_number (Some own) number = own == number

-- the number is that of the namespace
abbrev pub is_space : Bindings → ℕ → List ℕ → Bool
is_space b number uri = is_number (space_number b uri) number

-- the elements in the order of their table
abbrev pub tags : List Tag
tags =
    tag.Action ∷ tag.Alert ∷ tag.Bind ∷ tag.Case ∷ tag.Choices ∷ tag.Delete ∷ tag.Dispatch ∷ tag.Extension ∷ tag.Group ∷ tag.Help
    ∷ tag.Hint ∷ tag.Input ∷ tag.Insert ∷ tag.Instance ∷ tag.Item ∷ tag.Itemset ∷ tag.Label ∷ tag.Load ∷ tag.Message ∷ tag.Model
    ∷ tag.Output ∷ tag.Rebuild ∷ tag.Recalculate ∷ tag.Refresh ∷ tag.Repeat ∷ tag.Reset ∷ tag.Revalidate ∷ tag.Secret ∷ tag.Select
    ∷ tag.SelectOne ∷ tag.Send ∷ tag.SetFocus ∷ tag.SetIndex ∷ tag.SetValue ∷ tag.Submission ∷ tag.Submit ∷ tag.Switch ∷ tag.Textarea
    ∷ tag.Toggle ∷ tag.Trigger ∷ tag.Value ∷ []

abbrev pub tag_by_code : Option ℕ → Tag
tag_by_code None = tag.Unknown
tag_by_code (Some code) = get_or tags code tag.Host

-- what an element of XForms is by its local name
abbrev pub tag_named : List ℕ → Tag
tag_named local = tag_by_code (code_of local element_entries)

-- a schema, or a host element: what has no name with a meaning
abbrev pub other_tag : Bool → Tag
other_tag is_schema = if is_schema then tag.Schema else tag.Host

abbrev pub tag_by : Bindings → Result QName NameFault → Tag
tag_by b (Err fault) = tag.Host
tag_by b (Ok name) =
    if is_space b name.space forms_uri then tag_named name.local else other_tag (is_space b name.space schema_uri && bytes_eq name.local (codes "schema"))

-- what an element is by its written name, where one without a prefix has the given namespace
abbrev pub tag_of : Bindings → List ℕ → ℕ → Tag
tag_of b written space = tag_by b (resolved b written space)

-- ---- in a schema

abbrev pub length_named : List ℕ → Option FacetKind
length_named local =
    if bytes_eq local (codes "length") then Some facet.Length
    else (if bytes_eq local (codes "minLength") then Some facet.MinLength else (if bytes_eq local (codes "maxLength") then Some facet.MaxLength else None))

abbrev pub bound_named : List ℕ → Option FacetKind
bound_named local =
    if bytes_eq local (codes "minInclusive") then Some facet.MinInclusive
    else (if bytes_eq local (codes "maxInclusive") then Some facet.MaxInclusive
    else (if bytes_eq local (codes "minExclusive") then Some facet.MinExclusive
    else (if bytes_eq local (codes "maxExclusive") then Some facet.MaxExclusive else None)))

abbrev pub other_named : List ℕ → Option FacetKind
other_named local =
    if bytes_eq local (codes "enumeration") then Some facet.Enumeration
    else (if bytes_eq local (codes "totalDigits") then Some facet.TotalDigits
    else (if bytes_eq local (codes "fractionDigits") then Some facet.FractionDigits
    else (if bytes_eq local (codes "whiteSpace") then Some facet.WhiteSpace else None)))

abbrev pub or_facet : Option FacetKind → Option FacetKind → Option FacetKind
or_facet None other = other
or_facet (Some kind) other = Some kind

-- which facet has the name
abbrev pub facet_named : List ℕ → Option FacetKind
facet_named local = or_facet (length_named local) (or_facet (bound_named local) (other_named local))

abbrev pub facet_tag : Option FacetKind → Tag
facet_tag None = tag.Unknown
facet_tag (Some kind) = tag.Facet kind

-- what an element of XML Schema is in a schema, by its local name
abbrev pub schema_tag_named : List ℕ → Tag
schema_tag_named local =
    if bytes_eq local (codes "simpleType") then tag.SimpleType
    else (if bytes_eq local (codes "restriction") then tag.Restriction
    else (if bytes_eq local (codes "annotation") then tag.Annotation else facet_tag (facet_named local)))

abbrev pub schema_tag_by : Bindings → Result QName NameFault → Tag
schema_tag_by b (Err fault) = tag.Unknown
schema_tag_by b (Ok name) = if is_space b name.space schema_uri then schema_tag_named name.local else tag.Unknown

-- what an element in a schema is by its written name, where one without a prefix has the given namespace
abbrev pub schema_tag_of : Bindings → List ℕ → ℕ → Tag
schema_tag_of b written space = schema_tag_by b (resolved b written space)

-- What surrounds an expression (XForms 1.1, section 7): the instances of the form, the indexes of its repeats, the event that is handled,
-- and the form's namespaces. All are lists, so that two surroundings can be equal.
use Rattle.std.specs.Prelude.{ℕ, ◌&&◌, List, [], ◌∷◌, find, Option, Some, None, option_map, bytes_eq, ◌==◌}
use Rattle.xf_name.specs.Bindings.{Bindings}
use Rattle.xf_def_xpath.specs.declared.value.Value.{Value}

-- the document element of an instance
pub record Document : Type 0 where
  pub model : ℕ
  -- that of the instance, empty where it has none
  pub id : List ℕ
  pub element : ℕ

pub record Given : Type 0 where
  -- of all models, in document order
  pub documents : List Document
  -- by the ids of the repeats
  pub indexes : List (List ℕ × ℕ)
  -- the properties of the event that is handled by their names, or None where none is
  pub event : Option (List (List ℕ × Value))
  pub bindings : Bindings
  -- how many decimals numbers have
  pub decimals : ℕ

-- the document element of the model's first instance
abbrev pub first_document : ℕ → List Document → Option ℕ
first_document model documents = option_map (λ d. d.element) (find (λ d. d.model == model) documents)

-- that of the model's instance with this id
abbrev pub document_named : ℕ → List ℕ → List Document → Option ℕ
document_named model id documents = option_map (λ d. d.element) (find (λ d. (d.model == model) && bytes_eq d.id id) documents)

-- the empty text names the first (section 7.10.1)
abbrev pub document_of : ℕ → List ℕ → List Document → Option ℕ
document_of model [] documents = first_document model documents
document_of model (c ∷ cs) documents = document_named model (c ∷ cs) documents

-- what stands beside a name
abbrev pub beside : {X : Type 0} → List ℕ → List (List ℕ × X) → Option X
beside name pairs = option_map (λ p. p.1) (find (λ p. bytes_eq p.0 name) pairs)

-- a property of the event that is handled
abbrev pub property_of : List ℕ → Option (List (List ℕ × Value)) → Option Value
property_of name None = None
property_of name (Some properties) = beside name properties

-- The data of a state under another form: each instance keeps its data where the other form has one at its place with a document element of the
-- same name, and these fit where the other form binds their prefixes and namespaces alike (Namespaces in XML 1.0, sections 2 to 5).
use Rattle.std.specs.Prelude.{ℕ, zero, suc, ◌&&◌, Bool, false, List, [], ◌∷◌, count_by, take, Option, Some, None, option_map, option_and_then, slice_get, get_or, ◌==◌, bytes_eq, if◌then◌else◌, Result, Ok, Err}
use Rattle.xf_name.specs.Bindings.{Bindings, space_number, text_of_space, prefix_numbers}
use Rattle.xf_def_syntax.specs.declared.form.Instance.{Instance}
use Rattle.xf_def_forest.specs.declared.content.Content.{Content}
use Rattle.xf_def_forest.specs.declared.content.Content.TheVariants.{Root, Element, Attribute, Text}
use Rattle.xf_def_forest.specs.declared.content.Name.{Name}
use Rattle.xf_def_machine.specs.Program.{Program}
use Rattle.xf_def_machine.specs.State.{State}
use Rattle.xf_def_machine.specs.Refusal.{Refused}
use Rattle.xf_def_machine.specs.Surround.{document_at}
use Rattle.xf_def_machine.specs.Profile.{Profile}
use Rattle.xf_def_machine.specs.Construct.{construct, contents_under, instances_of}
use Rattle.xf_def_machine.specs.Step.{at_end}

-- the nodes of a document, each with its depth
abbrev pub Document : Type 0
Document = List (ℕ × Content)

-- ---- names under another form

-- the number of a namespace under other bindings, by its text; none stays none
abbrev pub space_under : Bindings → Bindings → ℕ → Option ℕ
space_under old new zero = Some 0
space_under old new (suc n) = option_and_then (space_number new) (text_of_space old (suc n))

-- under this prefix of the other bindings, where they bind it to the same namespace
abbrev pub with_prefix : Name → ℕ → Option (ℕ × ℕ) → Option Name
with_prefix name space None = None
with_prefix name space (Some numbers) =
    if numbers.1 == space then Some (record name { meaning = record name.meaning { space = space; prefix = numbers.0 } }) else None

-- in the namespace with this number
abbrev pub in_space : Bindings → Name → ℕ → Option ℕ → Option Name
in_space new name prefix None = None
in_space new name zero (Some space) = Some (record name { meaning = record name.meaning { space = space } })
in_space new name (suc prefix) (Some space) = with_prefix name space (prefix_numbers new name.prefix)

-- the name as it is written, where it means the same under the other bindings
abbrev pub name_under : Bindings → Bindings → Name → Option Name
name_under old new name = in_space new name name.meaning.prefix (space_under old new name.meaning.space)

abbrev pub content_under : Bindings → Bindings → Content → Option Content
content_under old new Root = Some Root
content_under old new (Element name) = option_map Element (name_under old new name)
content_under old new (Attribute name text) = option_map (λ n. Attribute n text) (name_under old new name)
content_under old new (Text text) = Some (Text text)

-- each of them, where each fits
abbrev pub document_under : Bindings → Bindings → Document → Option Document
document_under old new [] = Some []
document_under old new (x ∷ xs) =
    option_and_then (λ content. option_map (λ rest. (x.0, content) ∷ rest) (document_under old new xs)) (content_under old new x.1)

-- ---- which instances are carried

-- the text of a namespace, the empty one for none
abbrev pub space_text : Bindings → ℕ → Option (List ℕ)
space_text b zero = Some []
space_text b (suc n) = text_of_space b (suc n)

-- both are there, and equal
abbrev pub are_equal : Option (List ℕ) → Option (List ℕ) → Bool
are_equal (Some text) (Some other) = bytes_eq text other
are_equal text other = false

-- the names of the document elements have one namespace and one local part
abbrev pub is_same_top : Bindings → Bindings → Document → Document → Bool
is_same_top old new ((d, Element name) ∷ xs) ((e, Element other) ∷ ys) =
    are_equal (space_text old name.meaning.space) (space_text new other.meaning.space) && bytes_eq name.meaning.local other.meaning.local
is_same_top old new xs ys = false

-- how many instances of its model stand before the one at this place
abbrev pub rank_of : List Instance → ℕ → ℕ → ℕ
rank_of instances model place = count_by (λ i. i.model == model) (take place instances)

-- the data of the instance of that model with that rank, if there is one
abbrev pub document_of : State → ℕ → ℕ → Document
document_of s model rank = under (slice_get (instances_of s model) rank)
  where
    under : Option ℕ → Document
    under None = []
    under (Some place) = contents_under s (document_at s place)

-- ---- the documents

-- the model and the rank of the first that does not fit, both from 0
pub record NoFit : Type 0 where
  pub model : ℕ
  pub rank : ℕ

abbrev pub or_no_fit : ℕ → ℕ → Option Document → Result Document NoFit
or_no_fit model rank None = Err (record { model = model; rank = rank })
or_no_fit model rank (Some document) = Ok document

-- of an instance: the old data where they are carried, else its own
abbrev pub carried_one : Bindings → Bindings → ℕ → ℕ → Document → Document → Result Document NoFit
carried_one old new model rank was own = if is_same_top old new was own then or_no_fit model rank (document_under old new was) else Ok own

abbrev pub before_all : Document → Result (List Document) NoFit → Result (List Document) NoFit
before_all document (Err fault) = Err fault
before_all document (Ok rest) = Ok (document ∷ rest)

abbrev pub with_rest : Result Document NoFit → Result (List Document) NoFit → Result (List Document) NoFit
with_rest (Err fault) rest = Err fault
with_rest (Ok document) rest = before_all document rest

-- of the instances from this place on
abbrev pub carried_from : State → Program → ℕ → List Instance → Result (List Document) NoFit
carried_from s form place [] = Ok []
carried_from s form place (i ∷ is) =
    let rank = rank_of form.instances i.model place in
    with_rest (carried_one s.form.bindings form.bindings i.model rank (document_of s i.model rank) (get_or form.documents place []))
    (carried_from s form (suc place) is)

-- the documents that a form begins with in place of its own
abbrev pub carried : State → Program → Result (List Document) NoFit
carried s form = carried_from s form 0 form.instances

-- ---- the adopted form

-- construction over these documents in place of the form's own
abbrev pub construct_over : Profile → Program → List Document → Result State Refused
construct_over p form documents = construct p (record form { documents = documents })

-- why a form is not adopted
pub data AdoptFault : Type 0 where
  no_fit : NoFit → AdoptFault
  -- construction over the carried data is refused
  refused : Refused → AdoptFault

-- one event more was accepted; a reset puts back the form's own documents
abbrev pub adopted_by : Profile → State → Program → Result State Refused → Result State AdoptFault
adopted_by p s form (Err refusal) = Err (refused refusal)
adopted_by p s form (Ok t) = Ok (record (at_end p t) { form = form; accepted = suc s.accepted })

abbrev pub adopted_over : Profile → State → Program → Result (List Document) NoFit → Result State AdoptFault
adopted_over p s form (Err fault) = Err (no_fit fault)
adopted_over p s form (Ok documents) = adopted_by p s form (construct_over p form documents)

-- construction over these data, without the events of a start; indexes and cases begin anew
abbrev pub adopted : Profile → State → Program → Result State AdoptFault
adopted p s form = adopted_over p s form (carried s form)

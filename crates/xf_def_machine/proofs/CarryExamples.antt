-- Names, documents and states under another form.
use Rattle.std.proofs.Common.{◌≡◌, ℕ, true, false, List, [], ◌∷◌, Option, Some, None, option_map, refl, codes}
use Rattle.std.specs.Prelude.{Result, Ok, Err}
use Rattle.std.specs.Option.{unwrap_or}
use Rattle.xf_num.specs.Number.{scale}
use Rattle.xf_name.specs.Bindings.{Bindings, no_bindings}
use Rattle.xf_def_forest.specs.declared.content.Content.{Content}
use Rattle.xf_def_forest.specs.declared.content.Content.TheVariants as content
use Rattle.xf_def_ui.specs.Interface as sort
use Rattle.xf_def_machine.specs.Profile.{Profile}
use Rattle.xf_def_machine.specs.Program.{Program}
use Rattle.xf_def_machine.specs.Program as role
use Rattle.xf_def_machine.specs.State.{State}
use Rattle.xf_def_machine.specs.Construct.{construct, unbuilt}
use Rattle.xf_def_machine.specs.Start.{start}
use Rattle.xf_def_machine.specs.Run.{if_exact}
use Rattle.xf_def_machine.specs.Data.{Data, data_of}
use Rattle.xf_def_machine.specs.Carried.{Document, document_under, is_same_top, carried, construct_over, adopted, AdoptFault, no_fit}
use Rattle.xf_def_machine.specs.Examples.{profile, form, element, model, instance, element_at, text_at}

-- ---- bindings

-- a namespace and a prefix for it
abbrev bindings_of : List ℕ → List ℕ → Bindings
bindings_of prefix uri = record { spaces = uri ∷ []; prefixes = (prefix, 1) ∷ [] }

-- `p` for two namespaces, and for the first behind another one
abbrev here_ : Bindings
here_ = bindings_of (codes "p") (codes "urn:p")

abbrev there : Bindings
there = bindings_of (codes "p") (codes "urn:q")

abbrev behind : Bindings
behind = record { spaces = codes "urn:a" ∷ codes "urn:p" ∷ []; prefixes = (codes "a", 1) ∷ (codes "p", 2) ∷ [] }

-- an element with the prefix `p`, by the numbers of the prefix and its namespace
abbrev p_numbered : ℕ → ℕ → List ℕ → ℕ × Content
p_numbered n depth name = (depth, content.Element (record { meaning = record { space = n; prefix = n; local = name }; prefix = codes "p" }))

abbrev p_element : ℕ → List ℕ → ℕ × Content
p_element = p_numbered 1

-- ---- names

-- ["p:d",["p:a"]]
abbrev two_names : Document
two_names = p_element 0 (codes "d") ∷ p_element 1 (codes "a") ∷ []

same_names : document_under here_ here_ two_names ≡ Some two_names
same_names = refl

-- numbered anew
other_numbers : document_under here_ behind two_names ≡ Some (p_numbered 2 0 (codes "d") ∷ p_numbered 2 1 (codes "a") ∷ [])
other_numbers = refl

other_space : document_under here_ there two_names ≡ None
other_space = refl

no_space : document_under here_ no_bindings two_names ≡ None
no_space = refl

-- the prefix `xml` is bound in every form
xml_stays : document_under here_ no_bindings ((0, content.Attribute (record { meaning = record { space = 65535; prefix = 65535; local = codes "lang" }; prefix = codes "xml" }) (codes "en")) ∷ [])
    ≡ Some ((0, content.Attribute (record { meaning = record { space = 65535; prefix = 65535; local = codes "lang" }; prefix = codes "xml" }) (codes "en")) ∷ [])
xml_stays = refl

-- the document elements have another namespace, so that nothing is carried
other_top : is_same_top here_ there two_names two_names ≡ false
other_top = refl

same_top : is_same_top here_ here_ two_names two_names ≡ true
same_top = refl

-- ---- states: forms that say nothing, of such data

abbrev silent : Bindings → Document → Program
silent bindings document = record (form (element None (1 ∷ []) sort.host role.other ∷ model (2 ∷ []) ∷ instance ∷ []) [] [] [] document) { bindings = bindings }

abbrev begun : Program → State
begun program = unwrap_or (if_exact [] (start profile program [])) (unbuilt profile program)

-- ["d",["p:a",TEXT]]
abbrev in_d : List ℕ → Document
in_d text = element_at 0 (codes "d") ∷ p_element 1 (codes "a") ∷ text_at 2 text ∷ []

-- the data of now, under the same names
kept_data : carried (begun (silent here_ (in_d (codes "2")))) (silent here_ (in_d (codes "1"))) ≡ Ok (in_d (codes "2") ∷ [])
unfolding scale
kept_data = refl

-- a namespace that is another one below the document element: these do not fit, at the first instance of the first model
no_fit_data : carried (begun (silent here_ (in_d (codes "2")))) (silent there (in_d (codes "1"))) ≡ Err (record { model = 0; rank = 0 })
unfolding scale
no_fit_data = refl

-- at the document element itself: its own data
own_data : carried (begun (silent here_ two_names)) (silent there (p_element 0 (codes "d") ∷ text_at 1 (codes "1") ∷ [])) ≡ Ok ((p_element 0 (codes "d") ∷ text_at 1 (codes "1") ∷ []) ∷ [])
unfolding scale
own_data = refl

-- an instance that the state does not have: its own data
abbrev twice : Document → Program
twice document = let once = silent here_ document in record once { instances = record { model = 0; id = []; place = []; space = 0 } ∷ once.instances; documents = document ∷ document ∷ [] }

more_instances : carried (begun (silent here_ (in_d (codes "2")))) (twice (in_d (codes "1"))) ≡ Ok (in_d (codes "2") ∷ in_d (codes "1") ∷ [])
unfolding scale
more_instances = refl

-- ---- adoptions

-- construction is that over the form's own documents
over_its_own : (p : Profile) (program : Program) → construct_over p program program.documents ≡ construct p program
over_its_own p program = refl

-- one accepted event more
abbrev adopted_data : Result State AdoptFault → Option (Data × Program)
adopted_data (Ok s) = Some (data_of s, s.form)
adopted_data (Err fault) = None

-- it has the data of before, and a form whose own data are others
an_adoption :
    adopted_data (adopted profile (begun (silent here_ (in_d (codes "2")))) (silent behind (in_d (codes "1"))))
    ≡ Some (
      record { accepted = 1; documents = (element_at 0 (codes "d") ∷ p_numbered 2 1 (codes "a") ∷ text_at 2 (codes "2") ∷ []) ∷ []; indexes = []; cases = [] },
      silent behind (in_d (codes "1")),
    )
unfolding scale
an_adoption = refl

none_adopted : adopted profile (begun (silent here_ (in_d (codes "2")))) (silent there (in_d (codes "1"))) ≡ Err (no_fit (record { model = 0; rank = 0 }))
unfolding scale
none_adopted = refl

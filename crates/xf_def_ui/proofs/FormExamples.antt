-- How a form is numbered, and what of it the definitions see.
use Rattle.std.proofs.Common.{◌≡◌, ℕ, true, false, List, [], ◌∷◌, map, Option, Some, None, refl}
use Rattle.std.specs.List.{list_all}
use Rattle.xf_def_syntax.specs.declared.element.Binding.TheVariants.{Absent, Bind}
use Rattle.xf_def_syntax.specs.declared.element.Control.TheVariants as control
use Rattle.xf_def_syntax.specs.declared.element.Element as written
use Rattle.xf_def_syntax.specs.declared.element.Kind.{Kind}
use Rattle.xf_def_syntax.specs.declared.element.Kind.TheVariants as kind
use Rattle.xf_def_syntax.specs.declared.element.Part.TheVariants as part
use Rattle.xf_def_syntax.specs.declared.form.Form.{Form}
use Rattle.xf_def_syntax.specs.Ordered.{IsOrdered, numbered, are_later, are_in_order, has_its_children, are_listed, are_counted, repeat_in, place_in}
use Rattle.xf_def_ui.specs.Interface.{Sort, interface_of, unbound, by_bind, bound_of, sort_of_control, element_of}
use Rattle.xf_def_ui.specs.Interface as sort

abbrev element : Option ℕ → List ℕ → Kind → written.Element
element parent ns is = record { id = []; parent = parent; parts = map part.Element ns; model = None; binding = Absent; kind = is }

-- a host element with a model and a repeat, in which stands an input
abbrev elements : List written.Element
elements =
    element None (1 ∷ 2 ∷ []) kind.Host
    ∷ element (Some 0) [] (kind.Model 0)
    ∷ element (Some 0) (3 ∷ []) (kind.Control 1 (control.Repeat 0 1))
    ∷ element (Some 2) [] (kind.Control 2 control.Input)
    ∷ []

abbrev form : List written.Element → List ℕ → Form
form all repeats = record {
  decimals = 6;
  tables = record { models = 1; instances = []; binds = []; submissions = []; types = [] };
  elements = all;
  models = 1 ∷ [];
  instances = [];
  binds = [];
  submissions = [];
  repeats = repeats;
  switches = [];
}

in_order : IsOrdered (form elements (2 ∷ []))
in_order = record {
  later = refl;
  children = refl;
  order = refl;
  models = refl;
  instances = refl;
  binds = refl;
  submissions = refl;
  repeats = refl;
  switches = refl;
  controls = refl;
}

-- ---- what is not in order

-- a child with a lesser number
abbrev backward : List written.Element
backward = element None (1 ∷ 2 ∷ []) kind.Host ∷ element (Some 2) [] kind.Host ∷ element (Some 0) (1 ∷ []) kind.Host ∷ []

-- the third stands in the second, whose turn is over
abbrev out_of_turn : List written.Element
out_of_turn = element None (1 ∷ 2 ∷ []) kind.Host ∷ element (Some 0) (3 ∷ []) kind.Host ∷ element (Some 0) [] kind.Host ∷ element (Some 1) [] kind.Host ∷ []

not_later : list_all (are_later 3) (numbered (form backward [])) ≡ false
not_later = refl

not_in_document_order : are_in_order [] (numbered (form out_of_turn [])) ≡ false
not_in_document_order = refl

-- a child that says it stands elsewhere
not_its_child : has_its_children (numbered (form backward [])) (0, element None (1 ∷ 2 ∷ []) kind.Host) ≡ false
not_its_child = refl

not_listed : are_listed [] repeat_in (numbered (form elements [])) ≡ false
not_listed = refl

-- controls and containers are counted together, from 1
counted_together : are_counted 1 place_in (numbered (form elements (2 ∷ []))) ≡ true
counted_together = refl

not_from_0 : are_counted 0 place_in (numbered (form elements (2 ∷ []))) ≡ false
not_from_0 = refl

-- ---- what is seen

the_sorts : map (λ e. e.sort) (interface_of (form elements (2 ∷ []))).elements ≡ sort.host ∷ sort.other ∷ sort.repeated 0 1 ∷ sort.field ∷ []
the_sorts = refl

a_bind : bound_of (Bind 3) ≡ by_bind 3
a_bind = refl

no_binding : bound_of Absent ≡ unbound
no_binding = refl

-- what is chosen by a select, and what other texts are allowed
several_of_a_select : sort_of_control (control.Select true) ≡ sort.select true true
several_of_a_select = refl

one_of_a_select : sort_of_control (control.SelectOne false) ≡ sort.select false false
one_of_a_select = refl

a_submit_as_a_field : sort_of_control (control.Submit (Some 3)) ≡ sort.field
a_submit_as_a_field = refl

-- a bind binds nothing for what stands in it
a_bind_is_no_binding : (element_of (form elements []).tables (element (Some 1) [] (kind.Bind 0))).binding ≡ unbound
a_bind_is_no_binding = refl

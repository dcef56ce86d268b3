-- Forms of which it is known what each control binds, and forms of which it is not.
use Rattle.std.proofs.Common.{◌≡◌, zero, suc, [], ◌∷◌, Option, Some, None, refl, sym, codes}
use Rattle.xf_def_forest.specs.declared.node.NodeId.{NodeId}
use Rattle.xf_def_ui.specs.Interface.{Interface, Sort, field, output}
use Rattle.xf_def_ui.specs.Examples.{by, inside, interface, itself, to, top}
use Rattle.xf_controls.specs.declared.known.Known.TheVariants.{Unknown, Is}
use Rattle.xf_controls.specs.Bound.{AllBound, IsBoundAt, IsShownBy}

-- an input on e and this below a host element, of which nothing is asked
abbrev form : Sort → Interface
form sort = interface (top (1 ∷ 2 ∷ []) ∷ by (to (codes "e")) (inside 0 [] field) ∷ inside 0 [] sort ∷ []) [] []

-- an output with an expression
abbrev printing : Sort
printing = output (Some itself.meaning)

abbrev some_node : Option NodeId
some_node = Some (record { number = 5; place = 5 })

-- ---- one element

on_a_node : IsBoundAt (form field) (Unknown ∷ Is some_node ∷ []) 1
on_a_node = record { node = some_node; known_so = refl; unprinted = λ none. refl }

-- an input that binds no node shows nothing
on_no_node : IsBoundAt (form field) (Unknown ∷ Is None ∷ []) 1
on_no_node = record { node = None; known_so = refl; unprinted = λ none. refl }

-- nothing is known of it, or of any element past the end
unknown : IsBoundAt (form field) (Unknown ∷ Unknown ∷ []) 1 → ⊥
unknown is = cc is.known_so

past_the_end : IsBoundAt (form field) (Unknown ∷ Is some_node ∷ []) 2 → ⊥
past_the_end is = cc is.known_so

-- an output with an expression shows what that gives, unless it binds a node
prints : IsShownBy printing (Some (Is None)) → ⊥
prints is = let none : None ≡ is.node = cc is.known_so in cc (is.unprinted (sym none))

prints_nothing : IsShownBy printing (Some (Is some_node))
prints_nothing = record { node = some_node; known_so = refl; unprinted = λ none. cc none }

-- ---- a form: each control, and no other element

all_of_them : AllBound (form field) (Unknown ∷ Is some_node ∷ Is None ∷ [])
all_of_them zero control = cc control
all_of_them (suc zero) control = record { node = some_node; known_so = refl; unprinted = λ none. refl }
all_of_them (suc (suc zero)) control = record { node = None; known_so = refl; unprinted = λ none. refl }
all_of_them (suc (suc (suc n))) control = cc control

not_all_of_them : AllBound (form printing) (Unknown ∷ Is some_node ∷ Is None ∷ []) → ⊥
not_all_of_them all = let is = all 2 refl in let none : None ≡ is.node = cc is.known_so in cc (is.unprinted (sym none))

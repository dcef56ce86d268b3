-- The names of elements, by the interface of a form.
use Rattle.std.specs.Prelude.{ℕ, suc, List, [], ◌∷◌, ◌++◌, take, count_by, codes, decimal, if◌then◌else◌}
use Rattle.xf_def_syntax.specs.declared.element.Element as written
use Rattle.xf_def_ui.specs.Interface.{Interface, sort_of}
use Rattle.xf_def_ui.specs.Elements.{element_at, is_control}
use Rattle.xf_def_machine.specs.StateText.{id_text}

-- ---- numbers

-- each the number that it has as a control or container, where the first has this one
abbrev pub numbers_from : ℕ → List written.Element → List ℕ
numbers_from number [] = number ∷ []
numbers_from number (e ∷ es) = number ∷ numbers_from (if is_control (sort_of e.kind) then suc number else number) es

abbrev pub numbers_of : List written.Element → List ℕ
numbers_of elements = numbers_from 1 elements

-- ---- names

abbrev pub number_in : Interface → ℕ → ℕ
number_in f n = suc (count_by (λ e. is_control e.sort) (take n f.elements))

abbrev pub name_with : Interface → ℕ → List ℕ → List ℕ
name_with f n [] = codes "#" ++ decimal (number_in f n)
name_with f n (b ∷ bs) = id_text (b ∷ bs)

abbrev pub name_in : Interface → ℕ → List ℕ
name_in f n = name_with f n (element_at f n).id

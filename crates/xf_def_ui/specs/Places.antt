-- Which copies of controls and containers there are (XForms 1.1, section 9.3.1): one for each chain of rows of the repeats around.
use Rattle.std.specs.Prelude.{ℕ, zero, suc, Bool, true, false, List, [], ◌∷◌, ◌++◌, length, Option, Some, option_map}
use Rattle.std.specs.List.{flat_map}
use Rattle.xf_def_xpath.specs.Setting.{◌>>=◌, each}
use Rattle.xf_def_ui.specs.Interface.{Sort, Interface, repeated}
use Rattle.xf_def_ui.specs.Elements.{element_at, children, is_control}
use Rattle.xf_def_ui.specs.Around.{Around}
use Rattle.xf_def_ui.specs.Rows.{rows_of}

-- an element with a chain of rows, the outermost first
abbrev pub Places : Type 0
Places = List (ℕ × List ℕ)

-- the places of all these lists
abbrev pub all_places : List Places → Places
all_places lists = flat_map (λ places. places) lists

-- those of these elements and of what stands in them
abbrev pub places_in : (List ℕ → ℕ → Option Places) → List ℕ → List ℕ → Option Places
places_in further ns rows = option_map all_places (each (further rows) ns)

-- what stands in a repeat comes row by row
abbrev pub places_by : Interface → Around → (List ℕ → ℕ → Option Places) → List ℕ → ℕ → Sort → Option Places
places_by f a further rows n (repeated k start) = do
  set ← rows_of f a rows n
  option_map all_places (each (λ m. places_in further (children f n) (rows ++ m ∷ [])) set)
places_by f a further rows n sort = places_in further (children f n) rows

-- a control or container before what stands in it
abbrev pub if_control : Bool → ℕ → List ℕ → Places → Places
if_control true n rows places = (n, rows) ∷ places
if_control false n rows places = places

-- the element itself and those in it, of which at most so many are nested, in document order
abbrev pub places_at : ℕ → Interface → Around → List ℕ → ℕ → Option Places
places_at zero f a rows n = Some []
places_at (suc most) f a rows n =
    option_map (if_control (is_control (element_at f n).sort) n rows) (places_by f a (places_at most f a) rows n (element_at f n).sort)

-- those of the whole form
abbrev pub places : Interface → Around → Option Places
places f a = places_at (length f.elements) f a [] 0

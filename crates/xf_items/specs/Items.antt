-- The items of a select in what surrounds it, part after part of what stands in it, and as they are put behind others.
use Rattle.std.specs.Prelude.{ℕ, ◌≡◌, Bool, true, false, List, [], ◌∷◌, ◌++◌, length, find, Option, Some, None, option_map, Result, Ok, Err, if◌then◌else◌}
use Rattle.std.specs.List.{flat_map}
use Rattle.xf_def_syntax.specs.declared.element.Part.{Part}
use Rattle.xf_def_syntax.specs.declared.element.Part.TheVariants as part
use Rattle.xf_def_syntax.specs.Ordered.{child_in}
use Rattle.xf_def_xpath.specs.declared.fault.EvalFault.{EvalFault}
use Rattle.xf_def_xpath.specs.declared.fault.EvalFault.TheVariants.{Long, Memory}
use Rattle.xf_def_xpath.specs.Setting.{◌>>=◌, each}
use Rattle.xf_def_ui.specs.declared.answers.Item.{Item}
use Rattle.xf_def_ui.specs.Around.{Around}
use Rattle.xf_def_ui.specs.Context.{Inside, Context, on, standing_in, enter}
use Rattle.xf_def_ui.specs.Elements.{children, element_at}
use Rattle.xf_def_ui.specs.Interface.{Interface, Sort, item, itemset, choices}
use Rattle.xf_def_ui.specs.Items.{all_items, is_label, is_value, item_in, items_at, set_items}
use Rattle.xf_items.specs.declared.labels.Sought.{Sought}
use Rattle.xf_items.specs.declared.labels.Sought.TheVariants.{Label, Value}

-- of a select in what surrounds it
abbrev pub items_within : Interface → Around → Inside → ℕ → Option (List Item)
items_within f a s n = do
  t ← enter f a s (element_at f n)
  all_items (each (items_at (length f.elements) f a t) (children f n))

-- of these parts, through choices of which at most so many are nested
abbrev pub items_among : ℕ → Interface → Around → Inside → List Part → Option (List Item)
items_among most f a s parts = all_items (each (items_at most f a s) (flat_map child_in parts))

-- ---- the label and the value

abbrev pub is_sought : Sought → Sort → Bool
is_sought Label sort = is_label sort
is_sought Value sort = is_value sort

-- ---- of one part

-- one item, or none where a text of it is too long
abbrev pub alone : Option Item → Option (List Item)
alone i = option_map (λ x. x ∷ []) i

-- of an item that is written
abbrev pub written_item : Interface → Around → Inside → ℕ → Option (List Item)
written_item f a s n = alone (enter f a s (element_at f n) >>= item_in f a n)

-- of an item, or of an item set
abbrev pub own_by : Interface → Around → Inside → ℕ → Sort → Option (List Item)
own_by f a s n item = written_item f a s n
own_by f a s n itemset = set_items f a s n (element_at f n)
own_by f a s n sort = Some []

abbrev pub own_items : Interface → Around → Inside → Part → Option (List Item)
own_items f a s (part.Text text) = Some []
own_items f a s (part.Element n) = own_by f a s n (element_at f n).sort

abbrev pub is_choices : Sort → Bool
is_choices choices = true
is_choices sort = false

-- what stands in a part that is choices
abbrev pub choices_parts : Interface → Part → List Part
choices_parts f (part.Text text) = []
choices_parts f (part.Element n) = if is_choices (element_at f n).sort then (element_at f n).parts else []

-- and what surrounds it there
abbrev pub choices_inside : Interface → Around → Inside → Part → Option Inside
choices_inside f a s (part.Text text) = Some s
choices_inside f a s (part.Element n) = if is_choices (element_at f n).sort then enter f a s (element_at f n) else Some s

-- ---- of an item set

-- what a node of the set has around it: its place in the set, in the model of the set
abbrev pub placed : List ℕ → Inside → ℕ → Inside
placed set s m = record s { place = on (standing_in m set) }

-- one for each of these nodes of the set
abbrev pub placed_items : Interface → Around → Inside → ℕ → List ℕ → List ℕ → Option (List Item)
placed_items f a s n set ms = each (λ m. item_in f a n (placed set s m)) ms

-- ---- behind others

abbrev pub behind : List Item → Option (List Item) → Option (List Item)
behind before items = option_map (λ more. before ++ more) items

-- they were put there, or a text was too long
abbrev pub Adds : {X : Type 0} → Result X EvalFault → List Item → List Item → Option (List Item) → Type 0
Adds (Ok x) before after given = behind before given ≡ Some after
Adds (Err Long) before after given = given ≡ None
Adds (Err Memory) before after given = Unit {0}

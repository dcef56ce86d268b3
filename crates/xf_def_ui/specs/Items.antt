-- The items of a select (XForms 1.1, sections 8.1.10, 8.1.11, 8.3 and 9.3.3): those written and those of item sets, in document order; and
-- the texts that they allow.
use Rattle.std.specs.Prelude.{ℕ, zero, suc, Bool, true, false, not, ◌||◌, List, [], ◌∷◌, filter, length, find, Option, Some, None, option_map, bytes_eq}
use Rattle.std.specs.List.{list_any, list_all, flat_map, slice_split}
use Rattle.xf_num.specs.Written.{is_space, is_empty}
use Rattle.xf_def_xpath.specs.Setting.{◌>>=◌, each}
use Rattle.xf_def_ui.specs.declared.answers.Item.{Item}
use Rattle.xf_def_ui.specs.Interface.{Sort, Element, Interface, item, itemset, choices, label, item_value}
use Rattle.xf_def_ui.specs.Elements.{element_at, children}
use Rattle.xf_def_ui.specs.Around.{Around, all_bound}
use Rattle.xf_def_ui.specs.Context.{Inside, Context, on, standing_in, enter, inside, context_in}
use Rattle.xf_def_ui.specs.Labels.{text_in}

-- the sort of a label
abbrev pub is_label : Sort → Bool
is_label label = true
is_label sort = false

-- the sort of an item's value
abbrev pub is_value : Sort → Bool
is_value (item_value expr) = true
is_value sort = false

-- of several labels or values the first one counts; without one the text is empty
abbrev pub text_if : Interface → Around → Inside → Option ℕ → Option (List ℕ)
text_if f a s None = Some []
text_if f a s (Some n) = text_in f a s (element_at f n)

-- the text of the first child whose sort passes the test
abbrev pub text_among : Interface → Around → Inside → (Sort → Bool) → ℕ → Option (List ℕ)
text_among f a s test n = text_if f a s (find (λ m. test (element_at f m).sort) (children f n))

-- the item of an element, in what surrounds its label and value
abbrev pub item_in : Interface → Around → ℕ → Inside → Option Item
item_in f a n s = do
  label_text ← text_among f a s is_label n
  value_text ← text_among f a s is_value n
  Some (record { label = label_text; value = value_text })

-- what a node of the set gives to what stands in its item set
abbrev pub at_node : List ℕ → Inside → Context → ℕ → Inside
at_node set s c m = record { model = c.model; place = on (standing_in m set); rows = s.rows }

-- one for each node of the set, with its place in it
abbrev pub set_items : Interface → Around → Inside → ℕ → Element → Option (List Item)
set_items f a s n e = let c = context_in f a s e in
    all_bound a c.model e.binding c.focus >>= λ set. each (λ m. item_in f a n (at_node set s c m)) set

-- the items of all these lists
abbrev pub all_items : Option (List (List Item)) → Option (List Item)
all_items lists = option_map (flat_map (λ items. items)) lists

-- by the sort of the element
abbrev pub items_by : Interface → Around → (Inside → ℕ → Option (List Item)) → Inside → ℕ → Sort → Option (List Item)
items_by f a further s n item = option_map (λ i. i ∷ []) (enter f a s (element_at f n) >>= item_in f a n)
items_by f a further s n itemset = set_items f a s n (element_at f n)
items_by f a further s n choices = enter f a s (element_at f n) >>= λ t. all_items (each (further t) (children f n))
items_by f a further s n sort = Some []

-- those of an item, an item set or choices, of which at most so many are nested
abbrev pub items_at : ℕ → Interface → Around → Inside → ℕ → Option (List Item)
items_at zero f a s n = Some []
items_at (suc most) f a s n = items_by f a (items_at most f a) s n (element_at f n).sort

-- of a select under a chain of rows
abbrev pub items_of : Interface → Around → List ℕ → ℕ → Option (List Item)
items_of f a rows n = do
  s ← inside f a rows n
  t ← enter f a s (element_at f n)
  all_items (each (items_at (length f.elements) f a t) (children f n))

-- ---- texts

-- what stands between white space
abbrev pub words : List ℕ → List (List ℕ)
words text = filter (λ word. not (is_empty word)) (slice_split is_space text)

-- one of the items has this value
abbrev pub has_value : List Item → List ℕ → Bool
has_value items text = list_any (λ i. bytes_eq i.value text) items

-- the items allow the text: where many may be chosen each of its words, else the whole text, which may be empty
abbrev pub allows : Bool → List Item → List ℕ → Bool
allows true items text = list_all (has_value items) (words text)
allows false items text = is_empty text || has_value items text

-- it may be set: other texts are allowed, or the items allow it
abbrev pub may_be_set : Bool → Bool → List Item → List ℕ → Bool
may_be_set many is_free items text = is_free || allows many items text

-- the item is chosen by the text
abbrev pub is_chosen : Bool → List ℕ → Item → Bool
is_chosen true text i = list_any (bytes_eq i.value) (words text)
is_chosen false text i = bytes_eq i.value text

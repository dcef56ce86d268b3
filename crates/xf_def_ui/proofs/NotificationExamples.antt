-- Notifications as the differences of two lists of copies.
use Rattle.std.proofs.Common.{◌≡◌, ℕ, true, false, List, [], ◌∷◌, map, Option, Some, None, refl, codes}
use Rattle.xf_def_ui.specs.Copies.{Copy}
use Rattle.xf_def_ui.specs.Notifications.{notifications}

-- of this element in these rows, with this value: readwrite, optional, valid and enabled
abbrev copy : ℕ → List ℕ → Option (List ℕ) → Copy
copy n rows value = record {
  element = n;
  rows = rows;
  node = None;
  value = value;
  enabled = true;
  readwrite = true;
  required = false;
  valid = true;
  items = [];
}

abbrev told : List Copy → List Copy → List (List ℕ)
told before now = map (λ n. n.name) (notifications before now)

abbrev plain : Copy
plain = copy 1 [] (Some (codes "a"))

-- in all five ways another one
abbrev other : Copy
other = record (copy 1 [] (Some (codes "b"))) { enabled = false; readwrite = false; required = true; valid = false }

nothing : told (plain ∷ []) (plain ∷ []) ≡ []
nothing = refl

the_order_at_one_copy :
    told (plain ∷ []) (other ∷ [])
    ≡ codes "xforms-value-changed" ∷ codes "xforms-invalid" ∷ codes "xforms-readonly" ∷ codes "xforms-required" ∷ codes "xforms-disabled" ∷ []
the_order_at_one_copy = refl

and_back :
    told (other ∷ []) (plain ∷ [])
    ≡ codes "xforms-value-changed" ∷ codes "xforms-valid" ∷ codes "xforms-readwrite" ∷ codes "xforms-optional" ∷ codes "xforms-enabled" ∷ []
and_back = refl

-- a value that is empty and none at all are two
a_value_that_comes : told (copy 1 [] None ∷ []) (copy 1 [] (Some []) ∷ []) ≡ codes "xforms-value-changed" ∷ []
a_value_that_comes = refl

a_value_that_goes : told (copy 1 [] (Some []) ∷ []) (copy 1 [] None ∷ []) ≡ codes "xforms-value-changed" ∷ []
a_value_that_goes = refl

no_value_at_all : told (copy 1 [] None ∷ []) (copy 1 [] None ∷ []) ≡ []
no_value_at_all = refl

a_new_copy : told [] (plain ∷ []) ≡ []
a_new_copy = refl

a_copy_that_is_gone : told (plain ∷ []) [] ≡ []
a_copy_that_is_gone = refl

-- another row is another copy, even at the place of the old one
another_row : told (copy 1 (2 ∷ []) (Some (codes "a")) ∷ []) (copy 1 (3 ∷ []) (Some (codes "b")) ∷ []) ≡ []
another_row = refl

another_element : told (copy 1 [] (Some (codes "a")) ∷ []) (copy 2 [] (Some (codes "b")) ∷ []) ≡ []
another_element = refl

-- another node alone is no difference
another_node : told (plain ∷ []) (record plain { node = Some 5 } ∷ []) ≡ []
another_node = refl

-- copy by copy in the order of the new list, each with its rows
the_order_of_the_new_list :
    notifications
    (copy 1 (3 ∷ []) (Some (codes "a")) ∷ copy 1 (2 ∷ []) (Some (codes "a")) ∷ [])
    (copy 1 (2 ∷ []) (Some (codes "b")) ∷ record (copy 1 (3 ∷ []) (Some (codes "b"))) { enabled = false } ∷ [])
    ≡ record { name = codes "xforms-value-changed"; target = 1; rows = 2 ∷ [] }
    ∷ record { name = codes "xforms-value-changed"; target = 1; rows = 3 ∷ [] }
    ∷ record { name = codes "xforms-disabled"; target = 1; rows = 3 ∷ [] }
    ∷ []
the_order_of_the_new_list = refl

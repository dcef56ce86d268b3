-- Values that copies had before, put back, and lists that stand aside.
use Rattle.std.proofs.Common.{◌≡◌, ℕ, true, false, List, [], ◌∷◌, Some, None, refl, codes}
use Rattle.xf_def_forest.specs.declared.node.NodeId.{NodeId}
use Rattle.xf_controls.specs.declared.copy.ControlCopy.{ControlCopy}
use Rattle.xf_controls.specs.declared.shown.Former.{Former}
use Rattle.xf_controls.specs.Former.{kept_in, node_at, others, put_back, value_at, with_value_at}

abbrev on : ℕ → NodeId
on n = record { number = n; place = n }

-- of an element that binds the node of its number and has this value
abbrev copy : ℕ → List ℕ → ControlCopy
copy n value = record {
  element = n;
  rows = [];
  node = Some (on n);
  value = Some value;
  enabled = true;
  readwrite = true;
  required = false;
  valid = true;
  items = [];
}

-- two copies with these values
abbrev both : List ℕ → List ℕ → List ControlCopy
both one other = copy 1 one ∷ copy 2 other ∷ []

-- the copy at this place had this value
abbrev had : ℕ → List ℕ → Former
had place value = record { place = place; value = Some value }

-- ---- one copy

by_its_place : node_at (both (codes "a") (codes "b")) 1 ≡ Some (on 2)
by_its_place = refl

past_the_end : value_at (both (codes "a") (codes "b")) 2 ≡ None
past_the_end = refl

the_other_one_stays : with_value_at 1 (Some (codes "c")) (both (codes "a") (codes "b")) ≡ both (codes "a") (codes "c")
the_other_one_stays = refl

none_past_the_end : with_value_at 2 (Some (codes "c")) (both (codes "a") (codes "b")) ≡ both (codes "a") (codes "b")
none_past_the_end = refl

-- ---- what is told of those that differ

one_of_two : others (both (codes "a") (codes "b")) (both (codes "a") (codes "c")) ≡ record { name = codes "xforms-value-changed"; target = 2; rows = [] } ∷ []
one_of_two = refl

none_of_two : others (both (codes "a") (codes "b")) (both (codes "a") (codes "b")) ≡ []
none_of_two = refl

-- ---- put back: a went to b and then to c, and d stood all the time

the_first_value : put_back (both (codes "c") (codes "d")) (had 0 (codes "a") ∷ had 0 (codes "b") ∷ []) ≡ both (codes "a") (codes "d")
the_first_value = refl

each_at_its_place : put_back (both (codes "c") (codes "d")) (had 1 (codes "b") ∷ had 0 (codes "a") ∷ []) ≡ both (codes "a") (codes "b")
each_at_its_place = refl

-- ---- what was kept

by_former_values : kept_in (both (codes "c") (codes "d")) None (had 0 (codes "a") ∷ []) ≡ both (codes "a") (codes "d")
by_former_values = refl

-- where a list stands aside, it is that one, whatever else is noted
the_one_aside : kept_in (both (codes "c") (codes "d")) (Some (both (codes "x") (codes "y"))) (had 0 (codes "a") ∷ []) ≡ both (codes "x") (codes "y")
the_one_aside = refl

-- Changes undone: what is noted of each change, and the forest that it gives back.
use Rattle.std.specs.Prelude.{ℕ, Bool, false, not, ◌&&◌, ◌||◌, List, [], ◌∷◌, ◌==◌, if◌then◌else◌}
use Rattle.xf_def_forest.specs.Forest.{Forest}
use Rattle.xf_def_forest.specs.Visit.{visits, has, children_of}
use Rattle.xf_def_forest.specs.Changes.{detached, placed}
use Rattle.xf_def_forest.specs.Texts.{Keeping, Before, is_attribute_at, put_back, given_up, without_from}

-- a change that is about to be made: a text set, a tree attached, a tree detached, each by its node
pub data Change : Type 0 where
  of_text : ℕ → Change
  of_attach : ℕ → Change
  of_detach : ℕ → Change

-- what is known of a change
pub data Entry : Type 0 where
  -- it was noted, and has not been made
  noted : Change → Entry
  -- the text of a node was set, which had this before
  set : ℕ → Before → Entry
  -- a tree was attached
  joined : ℕ → Entry
  -- a tree was detached, which had this parent and place
  cut : ℕ → ℕ → ℕ → Entry

-- the changes since a forest was kept, the last one first, and the number that was next there
pub record Ledger : Type 0 where
  pub entries : List Entry
  pub next : ℕ

abbrev pub kept_at : Forest → Ledger
kept_at forest = record { entries = []; next = forest.next }

abbrev pub with_note : Change → Ledger → Ledger
with_note change l = record l { entries = noted change ∷ l.entries }

-- ---- the last entry is filled

-- a child of this node came or went; an attribute is none, and texts are set and put back beside attributes
abbrev pub is_of_child : ℕ → Keeping → Entry → Bool
is_of_child n k (noted change) = false
is_of_child n k (set m before) = false
is_of_child n k (joined m) = has m (children_of n (visits k.forest.nodes))
is_of_child n k (cut m parent place) = (parent == n) && not (is_attribute_at m k.forest.nodes)

abbrev pub is_set_of : ℕ → Entry → Bool
is_set_of n (set m before) = m == n
is_set_of n entry = false

-- what this node had before is known already, and none of its children came or went since
abbrev pub is_known : ℕ → Keeping → List Entry → Bool
is_known n k [] = false
is_known n k (e ∷ es) = if is_of_child n k e then false else is_set_of n e || is_known n k es

-- the first content of a node is the one to give back: a later one is given up
abbrev pub with_set : ℕ → Before → List Entry → ℕ → Keeping → Ledger × Keeping
with_set n before entries next k =
    if is_known n k entries then (record { entries = entries; next = next }, given_up before k)
    else (record { entries = set n before ∷ entries; next = next }, k)

abbrev pub text_filled_in : Before → List Entry → ℕ → Keeping → Ledger × Keeping
text_filled_in before (noted (of_text n) ∷ entries) next k = with_set n before entries next k
text_filled_in before entries next k = (record { entries = entries; next = next }, k)

abbrev pub text_filled : Before → Ledger → Keeping → Ledger × Keeping
text_filled before l k = text_filled_in before l.entries l.next k

abbrev pub place_filled_in : ℕ → ℕ → List Entry → List Entry
place_filled_in parent place (noted (of_detach n) ∷ entries) = cut n parent place ∷ entries
place_filled_in parent place entries = entries

abbrev pub place_filled : ℕ → ℕ → Ledger → Ledger
place_filled parent place l = record l { entries = place_filled_in parent place l.entries }

abbrev pub attach_filled_in : List Entry → List Entry
attach_filled_in (noted (of_attach n) ∷ entries) = joined n ∷ entries
attach_filled_in entries = entries

abbrev pub attach_filled : Ledger → Ledger
attach_filled l = record l { entries = attach_filled_in l.entries }

-- ---- undo

-- what was not made is undone as nothing
abbrev pub undone : Entry → Keeping → Keeping
undone (noted change) k = k
undone (set n before) k = put_back n before k
undone (joined n) k = record k { forest = detached n k.forest }
undone (cut n parent place) k = record k { forest = placed n parent place k.forest }

abbrev pub undone_all : List Entry → Keeping → Keeping
undone_all [] k = k
undone_all (e ∷ es) k = undone_all es (undone e k)

-- every change is undone from the last one on, then what is new is dropped
abbrev pub rolled_back : Ledger → Keeping → Keeping
rolled_back l k = without_from l.next (undone_all l.entries k)

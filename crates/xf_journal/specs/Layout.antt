-- The layout of a slot, by its tag.
use Rattle.std.specs.Prelude.{ℕ, ◌+◌, ◌^◌, List, [], ◌∷◌, ◌++◌, length, drop, slice_index, Bool, true, false, ◌&&◌, ◌==◌, not, nat_le, nat_lt, if◌then◌else◌, Option, Some, None}
use Rattle.xf_base.specs.Limits.{form_limit, adoption_limit}
use Rattle.xf_journal.specs.declared.layout.Format.{Format}
use Rattle.xf_journal.specs.declared.layout.Format.TheVariants.{First, Second}
use Rattle.xf_journal.specs.declared.image.Image.{Image}
use Rattle.xf_journal.specs.Numbers.{four, eight, from_four, from_eight}

-- the four bytes behind the gate that name a format: XFS1, XFS2
abbrev pub tag_of : Format → List ℕ
tag_of First = 88 ∷ 70 ∷ 83 ∷ 49 ∷ []
tag_of Second = 88 ∷ 70 ∷ 83 ∷ 50 ∷ []

-- where the form begins
abbrev pub header_length : Format → ℕ
header_length First = 21
header_length Second = 25

-- the first bytes are these
abbrev pub begins_with : List ℕ → List ℕ → Bool
begins_with [] bytes = true
begins_with (t ∷ tag) [] = false
begins_with (t ∷ tag) (b ∷ bytes) = (b == t) && begins_with tag bytes

-- the tag of this format stands behind the gate
abbrev pub has_tag : Format → List ℕ → Bool
has_tag format bytes = begins_with (tag_of format) (drop 1 bytes)

-- the format that a slot's tag names
abbrev pub format_in : List ℕ → Option Format
format_in bytes = if has_tag First bytes then Some First else if has_tag Second bytes then Some Second else None

-- the number of changes of the form that a slot tells of: none in the first format
abbrev pub adoptions_in : Format → List ℕ → ℕ
adoptions_in First bytes = 0
adoptions_in Second bytes = from_four (drop 21 bytes)

abbrev pub epoch_in : List ℕ → ℕ
epoch_in bytes = from_eight (drop 5 bytes)

abbrev pub form_length : List ℕ → ℕ
form_length bytes = from_four (drop 13 bytes)

abbrev pub base_length : List ℕ → ℕ
base_length bytes = from_four (drop 17 bytes)

-- where the base begins, and where the entries do
abbrev pub base_at : Format → List ℕ → ℕ
base_at format bytes = header_length format + form_length bytes

abbrev pub entries_at : Format → List ℕ → ℕ
entries_at format bytes = base_at format bytes + base_length bytes

-- a slot is open where 22 bytes stand and its gate is 1
abbrev pub is_open : List ℕ → Bool
is_open bytes = nat_le 22 (length bytes) && (slice_index bytes 0 == 1)

-- the epoch of an open slot
abbrev pub open_epoch : List ℕ → Option ℕ
open_epoch bytes = if is_open bytes then Some (epoch_in bytes) else None

-- an epoch is 1 or more and below 2^62
abbrev pub is_epoch : ℕ → Bool
is_epoch epoch = nat_le 1 epoch && nat_lt epoch (2 ^ 62)

-- the number of changes of the form stands, and the gate behind it, and it is below the limit
abbrev pub do_adoptions_stand : Format → List ℕ → Bool
do_adoptions_stand First bytes = true
do_adoptions_stand Second bytes = nat_le 26 (length bytes) && nat_lt (adoptions_in Second bytes) adoption_limit

-- the offset of the first field behind the tag that fails
abbrev pub first_fault : Format → List ℕ → Option ℕ
first_fault format bytes =
    if not (is_epoch (epoch_in bytes)) then Some 5
    else if not (nat_le (form_length bytes) form_limit && nat_le (base_at format bytes) (length bytes)) then Some 13
    else if not (nat_le (entries_at format bytes) (length bytes)) then Some 17
    else if not (do_adoptions_stand format bytes) then Some 21
    else None

-- the bytes behind the gate up to the form, by the lengths of the form and of the base and the number of changes of the form: each
-- new slot has the second format
abbrev pub header_bytes : ℕ → ℕ → ℕ → ℕ → List ℕ
header_bytes epoch form base adoptions = tag_of Second ++ eight epoch ++ four form ++ four base ++ four adoptions

-- the bytes behind the gate of a new slot: the header, the form, the base, and a closed gate
abbrev pub new_bytes : ℕ → Image → List ℕ
new_bytes epoch image = header_bytes epoch (length image.form) (length image.base) image.adoptions ++ image.form ++ image.base ++ 0 ∷ []

-- What a key stands for: a number, an owner and a content, and the kept text under it.
use Rattle.std.specs.Prelude.{ℕ, ◌≡◌, ◌+◌, ◌==◌, Bool, true, false, List, [], ◌∷◌, Option, Some, None, not, if◌then◌else◌}
use Rattle.slab.specs.Slab.{Slab, get}
use Rattle.xf_def_forest.specs.declared.content.Content.{Content}
use Rattle.xf_def_forest.specs.declared.content.Content.TheVariants.{Root}
use Rattle.xf_def_forest.specs.Forest.{is_attribute, own_text}
use Rattle.xf_def_forest.specs.Texts.{KeptText}
use Rattle.xf_tree_contents.specs.Slot.{Slot}

-- ---- what a key stands for

abbrev pub number_in : Option Slot → ℕ
number_in None = 0
number_in (Some s) = s.number

abbrev pub owner_in : Option Slot → ℕ
owner_in None = 0
owner_in (Some s) = s.owner

abbrev pub content_in : Option Slot → Content
content_in None = Root
content_in (Some s) = s.content

abbrev pub kept_of : Slab Slot → ℕ → KeptText
kept_of slots key = record { number = number_in (get slots key); owner = owner_in (get slots key); text = own_text (content_in (get slots key)) }

abbrev pub kept_times : ℕ → List KeptText → ℕ
kept_times n [] = 0
kept_times n (t ∷ ts) = (if t.number == n then 1 else 0) + kept_times n ts

abbrev pub KeepsButKept : Slab Slot → Slab Slot → List KeptText → Type 0
KeepsButKept s s2 gone = (key : ℕ) → kept_times (number_in (get s key)) gone ≡ 0 → get s2 key ≡ get s key

-- ---- places among siblings

-- an attribute, or none
abbrev pub same_kind : Bool → Content → Bool
same_kind true content = is_attribute content
same_kind false content = not (is_attribute content)

-- Changes of a small forest undone.
use Rattle.std.proofs.Common.{◌≡◌, [], ◌∷◌, Some, Ok, Err, inl, inr, refl}
use Rattle.std.specs.Prelude.{ℕ, List, Option, None, Result, codes}
use Rattle.xf_def_forest.specs.declared.content.Content.{Content}
use Rattle.xf_def_forest.specs.declared.content.Content.TheVariants.{Root, Element, Text}
use Rattle.xf_def_forest.specs.declared.fault.TreeFault.{TreeFault}
use Rattle.xf_def_forest.specs.Forest.{Forest}
use Rattle.xf_def_forest.specs.Changes.{standing, detached, attached, in_instances}
use Rattle.xf_def_forest.specs.Texts.{Keeping, Before, element_texts, text_set}
use Rattle.xf_def_forest.specs.Undo.{Ledger, of_text, of_attach, of_detach, kept_at, with_note, text_filled, attach_filled, place_filled, rolled_back}
use Rattle.xf_def_forest.specs.Undo as undo
use Rattle.xf_def_forest.specs.WellFormed.{AreTrees}
use Rattle.xf_def_forest.specs.Examples.{rows, wide, node, element, attribute, text, plain}
use Rattle.xf_law_forests.specs.Rollback.Made.{Made, begun, texts, cut, with_growth}
use Rattle.xf_law_forests.proofs.RollbackLemmas.Laws.{rolls_back}

-- ---- the changes

abbrev Held : Type 0
Held = Ledger × Keeping

-- each change with its entry in the ledger; what is refused changes nothing
abbrev after_text : Held → Result (Before × Keeping) TreeFault → ℕ → Held
after_text h (Ok (before, later)) n = text_filled before (with_note (of_text n) h.0) later
after_text h (Err fault) n = h

abbrev with_text_of : ℕ → List ℕ → Held → Held
with_text_of n cs h = after_text h (text_set wide n cs h.1) n

abbrev after_attach : Held → Result Forest TreeFault → ℕ → Held
after_attach h (Ok later) n = (attach_filled (with_note (of_attach n) h.0), record h.1 { forest = later })
after_attach h (Err fault) n = h

abbrev with_tree_below : ℕ → ℕ → ℕ → Held → Held
with_tree_below n parent place h = after_attach h (attached wide n parent place h.1.forest) n

abbrev after_cut : Held → Option (ℕ × ℕ) → ℕ → Held
after_cut h None n = h
after_cut h (Some at) n = (place_filled at.0 at.1 (with_note (of_detach n) h.0), record h.1 { forest = detached n h.1.forest })

abbrev without_tree_of : ℕ → Held → Held
without_tree_of n h = after_cut h (standing n h.1.forest.nodes) n

abbrev with_new : List (ℕ × Content) → Held → Held
with_new contents h = (h.0, with_growth contents h.1)

-- ---- undone

-- ["d",["row",{"k":"x","no":"7"},"1"],["row",["a","2"],"t",["a","3"]]]
abbrev start : Keeping
start = record { forest = record rows { nodes = in_instances rows.nodes }; kept = [] }

abbrev begin : Held
begin = (kept_at start.forest, start)

abbrev back : Held → Keeping
back h = rolled_back h.0 h.1

a_text_set_twice : back (with_text_of 2 (codes "9") (with_text_of 2 (codes "8") begin)) ≡ start
a_text_set_twice = refl

a_new_tree : back (with_tree_below 14 6 1 (with_new ((0, Element (plain (codes "b"))) ∷ (1, Text (codes "n")) ∷ []) begin)) ≡ start
a_new_tree = refl

an_attribute_cut_off : back (without_tree_of 3 begin) ≡ start
an_attribute_cut_off = refl

a_row_cut_off_after_its_text_was_set : back (without_tree_of 2 (with_text_of 2 (codes "9") begin)) ≡ start
a_row_cut_off_after_its_text_was_set = refl

-- the first of two settings is noted alone, also where an attribute was cut off in between
abbrev around_an_attribute : Held
around_an_attribute = with_text_of 2 (codes "9") (without_tree_of 4 (with_text_of 2 (codes "8") begin))

two_entries_are_left : around_an_attribute.0.entries ≡ undo.cut 4 2 1 ∷ undo.set 2 (element_texts (5 ∷ [])) ∷ []
two_entries_are_left = refl

texts_around_an_attribute : back around_an_attribute ≡ start
texts_around_an_attribute = refl

-- ---- attributes that are not in the order of their names

abbrev turned : Keeping
turned = record { forest = record { nodes = node 0 0 Root ∷ element 1 1 (codes "d") ∷ attribute 2 2 (codes "z") [] ∷ attribute 3 2 (codes "a") [] ∷ text 4 2 (codes "x") ∷ []; next = 5 }; kept = [] }

each_goes_back_to_its_place : back (without_tree_of 3 (without_tree_of 2 (kept_at turned.forest, turned))) ≡ turned
each_goes_back_to_its_place = refl

-- ---- the law at a row cut off after its text was set

abbrev set_once : Held
set_once = with_text_of 2 (codes "9") begin

trees_at_start : AreTrees start
trees_at_start = record { apart = refl; below = refl; depths = refl; tops = refl; first = refl; kept_apart = refl; kept_outside = refl; kept_below = refl }

trees_once : AreTrees set_once.1
trees_once = record { apart = refl; below = refl; depths = refl; tops = refl; first = refl; kept_apart = refl; kept_outside = refl; kept_below = refl }

abbrev set_and_cut : Held
set_and_cut = without_tree_of 2 set_once

trees_cut : AreTrees set_and_cut.1
trees_cut = record { apart = refl; below = refl; depths = refl; tops = refl; first = refl; kept_apart = refl; kept_outside = refl; kept_below = refl }

made : Made start set_and_cut.0 set_and_cut.1
made =
    cut 2 1 0
    (texts 14 1 2 (codes "9") (begun trees_at_start refl refl) trees_at_start (record { kind = inr refl; childless = refl }))
    trees_once (record { below = refl; kind = inl refl }) refl

by_the_law : back set_and_cut ≡ start
by_the_law = rolls_back made trees_cut

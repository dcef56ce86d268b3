-- Values and surroundings that are the same but for the numbers of nodes. Definitions compare numbers and do nothing else with them, so that
-- each goes with a renumbering.
use Rattle.std.specs.Prelude.{ℕ, ◌≡◌, List, map, option_map}
use Rattle.xf_def_forest.specs.Same.{renumbered_visit}
use Rattle.xf_def_xpath.specs.declared.value.Value.{Value}
use Rattle.xf_def_xpath.specs.declared.value.Value.TheVariants.{Nodes}
use Rattle.xf_def_xpath.specs.Given.{Document, Given}
use Rattle.xf_def_xpath.specs.Setting.{Setting, Focus}
use Rattle.xf_def_xpath.specs.Asked.{Asked}

abbrev pub renumbered_value : (ℕ → ℕ) → Value → Value
renumbered_value f (Nodes ns) = Nodes (map f ns)
renumbered_value f value = value

abbrev pub renumbered_document : (ℕ → ℕ) → Document → Document
renumbered_document f d = record d { element = f d.element }

abbrev pub renumbered_property : (ℕ → ℕ) → List ℕ × Value → List ℕ × Value
renumbered_property f p = (p.0, renumbered_value f p.1)

abbrev pub renumbered_given : (ℕ → ℕ) → Given → Given
renumbered_given f given = record given {
  documents = map (renumbered_document f) given.documents;
  event = option_map (map (renumbered_property f)) given.event;
}

abbrev pub renumbered_focus : (ℕ → ℕ) → Focus → Focus
renumbered_focus f c = record c { node = f c.node }

-- with the string values of the new numbers
abbrev pub renumbered_setting : (ℕ → ℕ) → (ℕ → List ℕ) → Setting → Setting
renumbered_setting f strings s = record s {
  all = map (renumbered_visit f) s.all;
  strings = strings;
  given = renumbered_given f s.given;
  current = f s.current;
}

-- a node has the string value that it had under its old number
abbrev pub HasStrings : (ℕ → ℕ) → (ℕ → List ℕ) → Setting → Type 0
HasStrings f strings s = (n : ℕ) → strings (f n) ≡ s.strings n

abbrev pub renumbered_asked : (ℕ → ℕ) → Asked → Asked
renumbered_asked f a = record a { set = map f a.set; reads = map f a.reads; looks = map f a.looks }

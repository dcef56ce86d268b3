-- The copies of an element and of those in it, where what is around is handed down (XForms 1.1, section 9).
use Rattle.std.specs.Prelude.{ℕ, zero, suc, Bool, true, false, not, ◌&&◌, ◌||◌, List, [], ◌∷◌, ◌++◌, Option, Some, option_map}
use Rattle.xf_def_syntax.specs.declared.element.Part.{Part}
use Rattle.xf_def_syntax.specs.declared.element.Part.TheVariants as part
use Rattle.xf_def_xpath.specs.Setting.{◌>>=◌}
use Rattle.xf_def_ui.specs.Interface.{Bound, unbound, Element, Interface}
use Rattle.xf_def_ui.specs.Elements.{element_at, is_control}
use Rattle.xf_def_ui.specs.Around.{Around}
use Rattle.xf_def_ui.specs.declared.marks.Marks.{Marks}
use Rattle.xf_def_ui.specs.Copies.{Copy}
use Rattle.xf_controls.specs.Handed.{Handed, node_in, handed_by, copy_by}

-- ---- whether there is one

abbrev pub is_shown : (ℕ → Bool) → Part → Bool
is_shown further (part.Text text) = false
is_shown further (part.Element n) = further n

abbrev pub some_shown : (ℕ → Bool) → List Part → Bool
some_shown further [] = false
some_shown further (p ∷ ps) = is_shown further p || some_shown further ps

-- the element is a control or container, or one in it is, of which at most so many are nested
abbrev pub shows : ℕ → Interface → ℕ → Bool
shows zero f n = false
shows (suc most) f n = is_control (element_at f n).sort || some_shown (shows most f) (element_at f n).parts

abbrev pub is_bound : Bound → Bool
is_bound unbound = false
is_bound binding = true

-- what an element selects is not asked where nobody needs it
abbrev pub is_passed : ℕ → Interface → Element → Bool
is_passed most f e = is_bound e.binding && not (is_control e.sort || some_shown (shows most f) e.parts)

-- ---- the copies

abbrev pub of_part : (ℕ → Option (List Copy)) → Part → Option (List Copy)
of_part further (part.Text text) = Some []
of_part further (part.Element n) = further n

abbrev pub of_parts : (ℕ → Option (List Copy)) → List Part → Option (List Copy)
of_parts further [] = Some []
of_parts further (p ∷ ps) = do
  own ← of_part further p
  more ← of_parts further ps
  Some (own ++ more)

abbrev pub if_control : Bool → Option Copy → Option (List Copy)
if_control true copy = option_map (λ c. c ∷ []) copy
if_control false copy = Some []

abbrev pub copies_by : (Handed → ℕ → Option (List Copy)) → Interface → Around → (ℕ → Marks) → Handed → ℕ → Element → Option (List Copy)
copies_by further f a marks h n e = do
  node ← node_in f a h e
  own ← if_control (is_control e.sort) (copy_by f a marks h n e node)
  more ← of_parts (further (handed_by f marks h e node)) e.parts
  Some (own ++ more)

abbrev pub unless : Bool → Option (List Copy) → Option (List Copy)
unless true copies = Some []
unless false copies = copies

-- of an element and of those in it, of which at most so many are nested
abbrev pub copies_from : ℕ → Interface → Around → (ℕ → Marks) → Handed → ℕ → Option (List Copy)
copies_from zero f a marks h n = Some []
copies_from (suc most) f a marks h n =
    let e = element_at f n in unless (is_passed most f e) (copies_by (copies_from most f a marks) f a marks h n e)

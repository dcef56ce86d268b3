-- How a form is numbered: elements in document order, so that what stands in an element has a greater number than it; models, instances,
-- binds, submissions, repeats and switches likewise among their kind; controls and containers together, from 1.
use Rattle.std.specs.Prelude.{ℕ, suc, ◌≡◌, nat_lt, Bool, true, false, ◌&&◌, List, [], ◌∷◌, length, map, filter, Option, Some, None, bytes_eq, ◌==◌, if◌then◌else◌}
use Rattle.std.specs.List.{list_all, list_any, flat_map}
use Rattle.xf_def_syntax.specs.declared.element.Element.{Element}
use Rattle.xf_def_syntax.specs.declared.element.Kind.{Kind}
use Rattle.xf_def_syntax.specs.declared.element.Kind.TheVariants as kind
use Rattle.xf_def_syntax.specs.declared.element.Control.TheVariants as control
use Rattle.xf_def_syntax.specs.declared.element.Part.{Part}
use Rattle.xf_def_syntax.specs.declared.element.Part.TheVariants as part
use Rattle.xf_def_syntax.specs.declared.form.Form.{Form}

abbrev pub child_in : Part → List ℕ
child_in (part.Text text) = []
child_in (part.Element n) = n ∷ []

-- the elements that stand in an element
abbrev pub children : Element → List ℕ
children e = flat_map child_in e.parts

-- each with its number, the first with this one
abbrev pub numbered_from : {X : Type 0} → ℕ → List X → List (ℕ × X)
numbered_from n [] = []
numbered_from n (x ∷ xs) = (n, x) ∷ numbered_from (suc n) xs

-- the elements of a form with their numbers
abbrev pub numbered : Form → List (ℕ × Element)
numbered form = numbered_from 0 form.elements

-- ---- where elements stand

-- each child has a greater number than its element, and is one of the elements
abbrev pub are_later : ℕ → ℕ × Element → Bool
are_later size e = list_all (λ n. nat_lt e.0 n && nat_lt n size) (children e.1)

abbrev pub is_parent : ℕ → Option ℕ → Bool
is_parent n None = false
is_parent n (Some parent) = n == parent

-- its children are the elements that have it as parent, in document order
abbrev pub has_its_children : List (ℕ × Element) → ℕ × Element → Bool
has_its_children all e = bytes_eq (children e.1) (map (λ x. x.0) (filter (λ x. is_parent e.0 x.1.parent) all))

abbrev pub is_none : List ℕ → Bool
is_none [] = true
is_none (n ∷ ns) = false

-- of the element before and its ancestors, the nearest first, those in which the next one stands
abbrev pub still_around : List ℕ → Option ℕ → List ℕ
still_around around None = []
still_around [] (Some parent) = []
still_around (n ∷ ns) (Some parent) = if n == parent then n ∷ ns else still_around ns (Some parent)

-- it stands in one of them, but for the first element of all, which stands in none
abbrev pub may_follow : List ℕ → Option ℕ → Bool
may_follow around None = is_none around
may_follow around (Some parent) = list_any (λ n. n == parent) around

-- each stands in the one before or in an ancestor of that one: document order
abbrev pub are_in_order : List ℕ → List (ℕ × Element) → Bool
are_in_order around [] = true
are_in_order around (e ∷ es) = may_follow around e.1.parent && are_in_order (e.0 ∷ still_around around e.1.parent) es

-- ---- numbers among a kind

abbrev pub model_in : Kind → List ℕ
model_in (kind.Model k) = k ∷ []
model_in other = []

abbrev pub instance_in : Kind → List ℕ
instance_in (kind.Instance k) = k ∷ []
instance_in other = []

abbrev pub bind_in : Kind → List ℕ
bind_in (kind.Bind k) = k ∷ []
bind_in other = []

abbrev pub submission_in : Kind → List ℕ
submission_in (kind.Submission k) = k ∷ []
submission_in other = []

abbrev pub repeat_in : Kind → List ℕ
repeat_in (kind.Control place (control.Repeat k start)) = k ∷ []
repeat_in other = []

abbrev pub switch_in : Kind → List ℕ
switch_in (kind.Control place (control.Switch k)) = k ∷ []
switch_in other = []

-- the place of a control or container among these
abbrev pub place_in : Kind → List ℕ
place_in (kind.Control place c) = place ∷ []
place_in other = []

abbrev pub count_up : ℕ → List ℕ → Bool
count_up from [] = true
count_up from (n ∷ ns) = (n == from) && count_up (suc from) ns

-- those of the kind have the numbers from this one on
abbrev pub are_counted : ℕ → (Kind → List ℕ) → List (ℕ × Element) → Bool
are_counted from number_in all = count_up from (flat_map (λ e. number_in e.1.kind) all)

-- these are the elements of the kind, numbered from 0
abbrev pub are_listed : List ℕ → (Kind → List ℕ) → List (ℕ × Element) → Bool
are_listed listed number_in all =
    bytes_eq listed (flat_map (λ e. map (λ k. e.0) (number_in e.1.kind)) all) && are_counted 0 number_in all

-- ---- of a form

pub record IsOrdered (form : Form) : Type 0 where
  pub later : list_all (are_later (length form.elements)) (numbered form) ≡ true
  pub children : list_all (has_its_children (numbered form)) (numbered form) ≡ true
  pub order : are_in_order [] (numbered form) ≡ true
  pub models : are_listed form.models model_in (numbered form) ≡ true
  pub instances : are_listed form.instances instance_in (numbered form) ≡ true
  pub binds : are_listed form.binds bind_in (numbered form) ≡ true
  pub submissions : are_listed form.submissions submission_in (numbered form) ≡ true
  pub repeats : are_listed form.repeats repeat_in (numbered form) ≡ true
  pub switches : are_listed form.switches switch_in (numbered form) ≡ true
  pub controls : are_counted 1 place_in (numbered form) ≡ true

-- The shape of a forest, a notion of this processor: its visits, where each element without element children has exactly one text,
-- whatever texts it has, and every text and attribute is empty. What binds select depends on it alone.
use Rattle.std.specs.Prelude.{ℕ, ◌+◌, ◌^◌, Bool, false, not, ◌&&◌, List, [], ◌∷◌, ◌++◌, map, filter, Option, Some, None, is_some, if◌then◌else◌}
use Rattle.std.specs.List.{list_any}
use Rattle.xf_def_forest.specs.declared.content.Node.{Node}
use Rattle.xf_def_forest.specs.declared.content.Content.{Content}
use Rattle.xf_def_forest.specs.declared.content.Content.TheVariants.{Attribute, Text}
use Rattle.xf_def_forest.specs.Forest.{is_element, is_attribute, is_text}
use Rattle.xf_def_forest.specs.Visit.{Visit, has_parent, is_first, visits}

-- the number that stands for the one text of an element: past every number that a node can have, so that no new number is needed
abbrev pub text_number : ℕ → ℕ
text_number n = 2 ^ 128 + n

-- ---- other texts

-- the texts that are to stand in an element instead of its own, or None
abbrev pub Texts : Type 0
Texts = ℕ → Option (List (List ℕ))

abbrev pub is_replaced : Texts → List ℕ → Bool
is_replaced texts [] = false
is_replaced texts (n ∷ ns) = is_some (texts n)

-- a text whose element has others instead
abbrev pub is_gone : Texts → Visit → Bool
is_gone texts x = is_text x.content && is_replaced texts x.above

abbrev pub text_visit : Visit → List ℕ → Visit
text_visit x text = record { number = text_number x.number; above = x.number ∷ x.above; content = Text text }

abbrev pub given_visits : Visit → Option (List (List ℕ)) → List Visit
given_visits x None = []
given_visits x (Some texts) = map (text_visit x) texts

abbrev pub visits_in : Texts → Visit → List Visit
visits_in texts x = if is_element x.content then given_visits x (texts x.number) else []

-- an attribute of the element that stands before it: a detached one has none
abbrev pub is_borne : Visit → Bool
is_borne x = is_attribute x.content && has_parent x.above

-- with the visits that are given for an element after its attributes; those in hand wait until the attributes are past
abbrev pub filled : (Visit → List Visit) → List Visit → List Visit → List Visit
filled given waiting [] = waiting
filled given waiting (x ∷ xs) = if is_borne x then x ∷ filled given waiting xs else waiting ++ x ∷ filled given (given x) xs

-- with other texts
abbrev pub retexted : Texts → List Visit → List Visit
retexted texts all = filled (visits_in texts) [] (filter (λ x. not (is_gone texts x)) all)

-- ---- the shape

abbrev pub has_elements : List Visit → ℕ → Bool
has_elements all n = list_any (λ y. is_element y.content && is_first n y.above) all

-- one empty text for an element without element children
abbrev pub only_text : List Visit → Texts
only_text all n = if has_elements all n then None else Some ([] ∷ [])

abbrev pub without_text : Content → Content
without_text (Attribute name text) = Attribute name []
without_text (Text text) = Text []
without_text content = content

abbrev pub erased : Visit → Visit
erased x = record x { content = without_text x.content }

abbrev pub shape : List Visit → List Visit
shape all = retexted (only_text all) (map erased all)

abbrev pub shape_of : List Node → List Visit
shape_of nodes = shape (visits nodes)

-- ---- contents without numbers

-- a content as texts: one, or none where it is empty
abbrev pub as_texts : List ℕ → List (List ℕ)
as_texts [] = []
as_texts (c ∷ cs) = (c ∷ cs) ∷ []

abbrev pub texts_given : Option (List ℕ) → Option (List (List ℕ))
texts_given None = None
texts_given (Some content) = Some (as_texts content)

abbrev pub value_given : Option (List ℕ) → Content → Content
value_given (Some text) (Attribute name old) = Attribute name text
value_given given content = content

abbrev pub with_value : (ℕ → Option (List ℕ)) → Visit → Visit
with_value given x = record x { content = value_given (given x.number) x.content }

-- each element or attribute that is given a content has it
abbrev pub with_contents : (ℕ → Option (List ℕ)) → List Visit → List Visit
with_contents given all = retexted (λ n. texts_given (given n)) (map (with_value given) all)

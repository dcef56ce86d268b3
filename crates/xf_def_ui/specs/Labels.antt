-- The texts of labels, messages and values (XForms 1.1, sections 8.2.1, 8.3.3 and 10.16): that of the bound node, else of the expression, else
-- the texts and outputs in them joined. Host elements are looked through.
use Rattle.std.specs.Prelude.{ℕ, zero, suc, List, [], ◌∷◌, Option, Some, None, option_map}
use Rattle.std.specs.List.{flat_map}
use Rattle.xf_def_syntax.specs.declared.element.Part.{Part}
use Rattle.xf_def_syntax.specs.declared.element.Part.TheVariants as part
use Rattle.xf_def_xpath.specs.Setting.{Focus, Meaning, ◌>>=◌, each}
use Rattle.xf_def_xpath.specs.Meaning.{text_worth}
use Rattle.xf_def_xpath.specs.Conversions.{string_of_node}
use Rattle.xf_def_ui.specs.Interface.{Bound, unbound, Sort, host, inline, item_value, Element, Interface}
use Rattle.xf_def_ui.specs.Elements.{element_at}
use Rattle.xf_def_ui.specs.Around.{Around, setting, first_bound}
use Rattle.xf_def_ui.specs.Context.{Inside, Context, enter, inside, context_in}
use Rattle.std.specs.Prelude as std

-- ---- what is joined

-- a part of a text
pub data Piece : Type 0 where
  words : List ℕ → Piece
  -- an output that is part of the text
  printed : ℕ → Piece

-- what an element in a text adds to it
abbrev pub piece_of : Interface → (List Part → List Piece) → ℕ → Sort → List Piece
piece_of f within n host = within (element_at f n).parts
piece_of f within n (inline expr) = printed n ∷ []
piece_of f within n sort = []

-- of one part of the content
abbrev pub pieces_in : Interface → (List Part → List Piece) → Part → List Piece
pieces_in f within (part.Text text) = words text ∷ []
pieces_in f within (part.Element n) = piece_of f within n (element_at f n).sort

-- in document order, through so many host elements one inside the other
abbrev pub pieces : ℕ → Interface → List Part → List Piece
pieces zero f parts = []
pieces (suc most) f parts = flat_map (pieces_in f (pieces most f)) parts

-- of the whole content of an element
abbrev pub pieces_of : Interface → Element → List Piece
pieces_of f e = pieces (std.length f.elements) f e.parts

-- the text of a piece that is written
abbrev pub words_in : Piece → List ℕ
words_in (words text) = text
words_in (printed n) = []

-- the texts alone, as those of a setvalue are (section 10.2)
abbrev pub words_of : Interface → Element → List ℕ
words_of f e = flat_map words_in (pieces_of f e)

-- ---- what is evaluated, by what surrounds the element; without a context node it is empty

-- the string value of the node that was selected
abbrev pub text_of_first : Around → ℕ → Option ℕ → Option (List ℕ)
text_of_first a model None = Some []
text_of_first a model (Some n) = string_of_node (setting a model n) n

-- the text of what is bound
abbrev pub bound_text : Around → Context → Bound → Option (List ℕ)
bound_text a c binding = first_bound a c.model binding c.focus >>= text_of_first a c.model

-- the text of an expression, at a context node
abbrev pub text_at : Around → ℕ → Meaning → Option Focus → Option (List ℕ)
text_at a model m None = Some []
text_at a model m (Some c) = text_worth m (setting a model c.node) c

-- of a `value`, where one is written
abbrev pub value_text : Around → Context → Option Meaning → Option (List ℕ)
value_text a c None = Some []
value_text a c (Some m) = text_at a c.model m c.focus

-- an output that is part of a text
abbrev pub printed_by : Around → Context → Bound → Sort → Option (List ℕ)
printed_by a c unbound (inline expr) = value_text a c expr
printed_by a c binding sort = bound_text a c binding

-- the text of one piece
abbrev pub piece_text : Interface → Around → Inside → Piece → Option (List ℕ)
piece_text f a s (words text) = Some text
piece_text f a s (printed n) = let e = element_at f n in printed_by a (context_in f a s e) e.binding e.sort

-- the texts of all pieces, one behind the other
abbrev pub joined_text : Interface → Around → Inside → Element → Option (List ℕ)
joined_text f a s e = do
  within ← enter f a s e
  texts ← each (piece_text f a within) (pieces_of f e)
  Some (flat_map (λ text. text) texts)

-- by the binding, else by `value`, else the content
abbrev pub text_by : Interface → Around → Inside → Element → Bound → Sort → Option (List ℕ)
text_by f a s e unbound (item_value (Some m)) = value_text a (context_in f a s e) (Some m)
text_by f a s e unbound sort = joined_text f a s e
text_by f a s e binding sort = bound_text a (context_in f a s e) binding

-- of a label, a message or a value, in what surrounds it
abbrev pub text_in : Interface → Around → Inside → Element → Option (List ℕ)
text_in f a s e = text_by f a s e e.binding e.sort

-- under a chain of rows
abbrev pub text_of : Interface → Around → List ℕ → ℕ → Option (List ℕ)
text_of f a rows n = do
  s ← inside f a rows n
  text_in f a s (element_at f n)

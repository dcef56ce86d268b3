-- The functions of the table by their names: what is static of a call, by what its meaning needs.
use Rattle.std.proofs.Common.{◌≡◌, ℕ, zero, suc, Bool, true, false, not, ◌&&◌, List, [], ◌∷◌, refl}
use Rattle.std.specs.Prelude.{get_or, bytes_eq, codes}
use Rattle.std.specs.List.{list_any}
use Rattle.xf_table.specs.Rows.{Entry}
use Rattle.xf_table.specs.Contents.{function_entries}
use Rattle.xf_table.specs.Places.{name_at}
use Rattle.xf_def_xpath.specs.Table.{Function, functions, function_at}
use Rattle.xf_def_xpath.specs.Table as of

abbrev is_name : List ℕ → List ℕ → Bool
is_name name other = bytes_eq name other

abbrev one_of : List ℕ → List (List ℕ) → Bool
one_of name others = list_any (is_name name) others

-- the words that are asked of a name
pub record Word : Type 0 where
  -- `index`, `event`
  pub moving : Bool
  pub instance : Bool
  pub choose : Bool
  -- `current`, `event`, `instance`
  pub giving : Bool
  -- those that ask more, those that ask the context
  pub more : Bool
  pub context : Bool

abbrev pub word_of : List ℕ → Word
word_of name = record {
  moving = one_of name (codes "index" ∷ codes "event" ∷ []);
  instance = bytes_eq name (codes "instance");
  choose = bytes_eq name (codes "choose");
  giving = one_of name (codes "current" ∷ codes "event" ∷ codes "instance" ∷ []);
  more = one_of name (
      codes "avg" ∷ codes "count" ∷ codes "count-non-empty" ∷ codes "current" ∷ codes "event" ∷ codes "index" ∷ codes "instance"
      ∷ codes "local-name" ∷ codes "max" ∷ codes "min" ∷ codes "name" ∷ codes "namespace-uri" ∷ codes "sum" ∷ []);
  context = one_of name (codes "normalize-space" ∷ codes "number" ∷ codes "string" ∷ codes "string-length" ∷ []);
}

-- the word of a function fits what its meaning needs
abbrev pub fits : Function → Word → Bool
fits of.event w = w.moving && w.giving && w.more
fits of.index w = w.moving && w.more
fits of.instance w = not w.moving && w.instance && w.giving && w.more
fits of.choosing w = not w.moving && not w.instance && w.choose && not w.giving
fits of.current w = w.giving && w.more
fits of.counting w = w.more
fits of.counting_filled w = w.more
fits of.adding w = w.more
fits of.averaging w = w.more
fits of.greatest w = w.more
fits of.least w = w.more
fits of.local_name w = w.more
fits of.name w = w.more
fits of.namespace w = w.more
fits of.owning w = w.context
fits of.number w = w.context
fits of.string w = w.context
fits function w = true

all_fit : List Function → List Entry → Bool
all_fit [] [] = true
all_fit [] (e ∷ es) = false
all_fit (f ∷ fs) [] = false
all_fit (f ∷ fs) (e ∷ es) = fits f (word_of e.name) && all_fit fs es

and-true : (a b : Bool) → (a && b) ≡ true → (a ≡ true) × (b ≡ true)
and-true true b h = (refl, h)
and-true false b h = cc h

fits-at : (fs : List Function) (es : List Entry) → all_fit fs es ≡ true → (code : ℕ) → fits (get_or fs code of.plainly) (word_of (name_at es code)) ≡ true
unfolding all_fit
fits-at [] [] h code = refl
fits-at [] (e ∷ es) h code = cc h
fits-at (f ∷ fs) [] h code = cc h
fits-at (f ∷ fs) (e ∷ es) h zero = (and-true (fits f (word_of e.name)) (all_fit fs es) h).0
fits-at (f ∷ fs) (e ∷ es) h (suc code) = fits-at fs es (and-true (fits f (word_of e.name)) (all_fit fs es) h).1 code

table-fits : all_fit functions function_entries ≡ true
unfolding all_fit function_entries
table-fits = refl

-- of every code
pub word-fits : (code : ℕ) → fits (function_at code) (word_of (name_at function_entries code)) ≡ true
word-fits code = fits-at functions function_entries table-fits code

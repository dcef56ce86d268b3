-- What an expression sees from a node of some whole trees is in these trees: over them it gives what it gives over all data (XPath 1.0, section 2.2:
-- each axis leads to nodes of the same tree). Only the document elements that `instance()` names come from elsewhere, and what an event tells.
use Rattle.std.specs.Prelude.{ℕ, ◌≡◌, Bool, true, List, [], ◌∷◌, filter, Option, Some, None, ⊤}
use Rattle.std.specs.List.{list_all}
use Rattle.xf_def_syntax.specs.declared.expr.Expr.{Expr}
use Rattle.xf_def_forest.specs.Visit.{Visit, has}
use Rattle.xf_def_xpath.specs.declared.value.Value.{Value}
use Rattle.xf_def_xpath.specs.Given.{Document, document_of}
use Rattle.xf_def_xpath.specs.Setting.{Setting, Focus}
use Rattle.xf_def_xpath.specs.Conversions.{nodes_of}
use Rattle.xf_def_xpath.specs.Meaning.{meaning}
use Rattle.xf_def_xpath.specs.Reads.{trace, reads_in, looks_in}

-- the part of a list of visits, by a test of their numbers
abbrev pub kept : (ℕ → Bool) → List Visit → List Visit
kept p all = filter (λ x. p x.number) all

-- it is made of whole trees: what stands above a node is in it exactly where the node is
abbrev pub Whole : (ℕ → Bool) → Visit → Type 0
Whole p x = (n : ℕ) → has n x.above ≡ true → p n ≡ p x.number

abbrev pub AreWhole : (ℕ → Bool) → List Visit → Type 0
AreWhole p [] = ⊤
AreWhole p (x ∷ xs) = Whole p x × AreWhole p xs

-- the part as an expression sees it, with string values and document elements of its own
abbrev pub over_part : (ℕ → Bool) → Setting → (ℕ → List ℕ) → List Document → Setting
over_part p s strings documents = record s { all = kept p s.all; strings = strings; given = record s.given { documents = documents } }

-- in these it agrees with the whole: nodes of the part have the string values that they have there, the model names the same document elements, all
-- in the part, as the context node is, and no event is handled
pub record Within (p : ℕ → Bool) (s : Setting) (strings : ℕ → List ℕ) (documents : List Document) : Type 0 where
  pub trees : AreWhole p s.all
  pub strings_too : (n : ℕ) → p n ≡ true → strings n ≡ s.strings n
  pub documents_too : (id : List ℕ) → document_of s.model id documents ≡ document_of s.model id s.given.documents
  pub inside : (id : List ℕ) (n : ℕ) → document_of s.model id s.given.documents ≡ Some n → p n ≡ true
  pub current : p s.current ≡ true
  pub quiet : s.given.event ≡ None

abbrev pub are_in : (ℕ → Bool) → List ℕ → Bool
are_in p ns = list_all p ns

-- the nodes of a value
abbrev pub all_in : (ℕ → Bool) → Option Value → Bool
all_in p None = true
all_in p (Some v) = are_in p (nodes_of v)

-- the value is the same, and its nodes are in the part
pub record GivesWithin (p : ℕ → Bool) (of_part of_whole : Option Value) : Type 0 where
  pub same : of_part ≡ of_whole
  pub nodes : all_in p of_whole ≡ true

abbrev pub GivenWithin : Type 0
GivenWithin = (p : ℕ → Bool) (e : Expr) (s : Setting) (strings : ℕ → List ℕ) (documents : List Document) (c : Focus) → Within p s strings documents → p c.node ≡ true →
    GivesWithin p (meaning e (over_part p s strings documents) c) (meaning e s c)

-- what is asked is the same, and in the part
pub record AsksWithin (p : ℕ → Bool) (of_part of_whole : List ℕ) : Type 0 where
  pub same : of_part ≡ of_whole
  pub nodes : are_in p of_whole ≡ true

pub record AsksBoth (p : ℕ → Bool) (e : Expr) (part whole : Setting) (c : Focus) : Type 0 where
  pub reads : AsksWithin p (reads_in (trace e) part c) (reads_in (trace e) whole c)
  pub looks : AsksWithin p (looks_in (trace e) part c) (looks_in (trace e) whole c)

abbrev pub AskedWithin : Type 0
AskedWithin = (p : ℕ → Bool) (e : Expr) (s : Setting) (strings : ℕ → List ℕ) (documents : List Document) (c : Focus) → Within p s strings documents → p c.node ≡ true → AsksBoth p e (over_part p s strings documents) s c

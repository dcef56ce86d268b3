-- The copies at all places are those that are made element after element and row by row.
use Rattle.std.proofs.Common.{◌≡◌, ℕ, zero, suc, Bool, true, false, List, [], ◌∷◌, ◌++◌, map, length, Option, Some, None, option_map, refl, sym, ap, ◌∙◌}
use Rattle.std.specs.Prelude.{if◌then◌else◌}
use Rattle.std.specs.List.{flat_map}
use Rattle.xf_def_syntax.specs.declared.element.Part.{Part}
use Rattle.xf_def_syntax.specs.declared.element.Part.TheVariants as part
use Rattle.xf_def_syntax.specs.Ordered.{child_in}
use Rattle.xf_def_forest.specs.declared.node.NodeId.{NodeId}
use Rattle.xf_def_xpath.specs.Setting.{◌>>=◌, each}
use Rattle.xf_def_ui.specs.declared.marks.Marks.{Marks}
use Rattle.xf_def_ui.specs.Around.{Around}
use Rattle.xf_def_ui.specs.Copies.{Copy, copy_of}
use Rattle.xf_def_ui.specs.Elements.{children, element_at, is_control, is_repeat, is_repeat_sort}
use Rattle.xf_def_ui.specs.Interface.{Interface, Sort, host, other, group, switch, one_case, repeated, field, output, select, item, itemset, choices, label, item_value, inline, action}
use Rattle.xf_def_ui.specs.Places as places
use Rattle.xf_def_ui.specs.Places.{Places, all_places, places_at, places_by}
use Rattle.xf_def_ui.specs.Rows.{rows_of}
use Rattle.xf_controls.specs.Seen.{number}
use Rattle.xf_controls.proofs.OptionLaws.{after, after-nothing, each-append, each-first}
use Rattle.xf_controls_copies.proofs.PutLaws.{after-none, all-numbers}
use Rattle.xf_controls_copies.specs.Made.{all_of, copies_at, if_control, in_row, inner_copies, of_parts, row_copies}

-- ---- lists

-- what is made at the places of all these is what is made at those of each
at-places : {X : Type 0} (made : ℕ × List ℕ → Option Copy) (further : X → Option Places) (xs : List X)
    → (option_map all_places (each further xs) >>= each made) ≡ all_of (λ x. further x >>= each made) xs
at-places made further [] = refl
at-places made further (x ∷ xs) = by (further x) (each further xs) (all_of (λ y. further y >>= each made) xs) (at-places made further xs)
  where
    by : (o : Option Places) (p : Option (List Places)) (q : Option (List Copy)) → (option_map all_places p >>= each made) ≡ q
        → (option_map all_places (o >>= λ y. p >>= λ ys. Some (y ∷ ys)) >>= each made) ≡ after (o >>= each made) q
    by None p q e = refl
    by (Some y) None q e = sym (after-none (each made y)) ∙ ap (after (each made y)) e
    by (Some y) (Some ys) q e = each-append made y (all_places ys) ∙ ap (after (each made y)) e

all-same : {X : Type 0} (one two : X → Option (List Copy)) → ((x : X) → one x ≡ two x) → (xs : List X) → all_of one xs ≡ all_of two xs
all-same one two h [] = refl
all-same one two h (x ∷ xs) = ap (λ m. after m (all_of one xs)) (h x) ∙ ap (after (two x)) (all-same one two h xs)

of-children : (further : ℕ → Option (List Copy)) (ps : List Part) → all_of further (flat_map child_in ps) ≡ of_parts further ps
of-children further [] = refl
of-children further (part.Text text ∷ ps) = of-children further ps ∙ sym (after-nothing (of_parts further ps))
of-children further (part.Element n ∷ ps) = ap (after (further n)) (of-children further ps)

-- ---- copies

module _ (f : Interface) (a : Around) (marks : ℕ → Marks) (cases : List ℕ) where
  abbrev pub made_at : ℕ × List ℕ → Option Copy
  made_at p = copy_of f a marks cases p.1 p.0

  own-first : (b : Bool) (n : ℕ) (rows : List ℕ) (o : Option Places)
      → (option_map (places.if_control b n rows) o >>= each made_at) ≡ after (if_control b (copy_of f a marks cases rows n)) (o >>= each made_at)
  own-first true n rows None = sym (after-none (if_control true (copy_of f a marks cases rows n)))
  own-first true n rows (Some ps) = each-first made_at (n, rows) ps
  own-first false n rows None = refl
  own-first false n rows (Some ps) = sym (after-nothing (each made_at ps))

  module _ (most : ℕ) (at-most : (rows : List ℕ) (n : ℕ) → (places_at most f a rows n >>= each made_at) ≡ copies_at most f a marks cases rows n) where
    abbrev further : List ℕ → ℕ → Option (List Copy)
    further = copies_at most f a marks cases

    parts-here : (rows : List ℕ) (n : ℕ) → (places.places_in (places_at most f a) (children f n) rows >>= each made_at) ≡ of_parts (further rows) (element_at f n).parts
    parts-here rows n =
        at-places made_at (places_at most f a rows) (children f n)
        ∙ all-same (λ m. places_at most f a rows m >>= each made_at) (further rows) (at-most rows) (children f n)
        ∙ of-children (further rows) (element_at f n).parts

    rows-here : (rows : List ℕ) (n : ℕ) (o : Option (List ℕ))
        → ((o >>= λ set. option_map all_places (each (λ m. places.places_in (places_at most f a) (children f n) (rows ++ m ∷ [])) set)) >>= each made_at)
        ≡ (o >>= all_of (in_row f further rows n))
    rows-here rows n None = refl
    rows-here rows n (Some set) =
        at-places made_at (λ m. places.places_in (places_at most f a) (children f n) (rows ++ m ∷ [])) set
        ∙ all-same (λ m. places.places_in (places_at most f a) (children f n) (rows ++ m ∷ []) >>= each made_at) (in_row f further rows n) (λ m. parts-here (rows ++ m ∷ []) n) set

    inner-here : (rows : List ℕ) (n : ℕ) (sort : Sort)
        → (places_by f a (places_at most f a) rows n sort >>= each made_at)
        ≡ (if is_repeat_sort sort then row_copies f a further rows n else of_parts (further rows) (element_at f n).parts)
    inner-here rows n (repeated k start) = rows-here rows n (rows_of f a rows n)
    inner-here rows n host = parts-here rows n
    inner-here rows n other = parts-here rows n
    inner-here rows n group = parts-here rows n
    inner-here rows n (switch k) = parts-here rows n
    inner-here rows n (one_case b) = parts-here rows n
    inner-here rows n field = parts-here rows n
    inner-here rows n (output x) = parts-here rows n
    inner-here rows n (select x y) = parts-here rows n
    inner-here rows n item = parts-here rows n
    inner-here rows n itemset = parts-here rows n
    inner-here rows n choices = parts-here rows n
    inner-here rows n label = parts-here rows n
    inner-here rows n (item_value x) = parts-here rows n
    inner-here rows n (inline x) = parts-here rows n
    inner-here rows n (action h) = parts-here rows n

  pub made-at : (most : ℕ) (rows : List ℕ) (n : ℕ) → (places_at most f a rows n >>= each made_at) ≡ copies_at most f a marks cases rows n
  made-at zero rows n = refl
  made-at (suc most) rows n =
      own-first (is_control (element_at f n).sort) n rows (places_by f a (places_at most f a) rows n (element_at f n).sort)
      ∙ ap (after (if_control (is_control (element_at f n).sort) (copy_of f a marks cases rows n))) (inner-here most (made-at most) rows n (element_at f n).sort)

  pub whole : (places.places f a >>= each made_at) ≡ copies_at (length f.elements) f a marks cases [] 0
  whole = made-at (length f.elements) [] 0

  -- as a call begins, where it sees these indexes
  pub begun : (f2 : Interface) (a2 : Around) (size most : ℕ) (rows : List ℕ) → f2 ≡ f → a2 ≡ a → most ≡ size → size ≡ length f.elements → rows ≡ []
      → copies_at most f2 a2 marks cases rows 0 ≡ (places.places f a >>= each made_at)
  begun f2 a2 size most rows same around all counted none =
      ap (λ k. copies_at k f2 a2 marks cases rows 0) (all ∙ counted) ∙ ap (λ g. copies_at (length f.elements) g a2 marks cases rows 0) same
      ∙ ap (λ b. copies_at (length f.elements) f b marks cases rows 0) around ∙ ap (λ ms. copies_at (length f.elements) f a marks cases ms 0) none ∙ sym whole

  -- ---- as the code makes them

  pub none-nested : (most : ℕ) (rows : List ℕ) (n : ℕ) → most ≡ 0 → copies_at most f a marks cases rows n ≡ Some []
  none-nested most rows n e = ap (λ k. copies_at k f a marks cases rows n) e

  pub own-then : (most k : ℕ) (rows : List ℕ) (n : ℕ) → most ≡ suc k
      → copies_at most f a marks cases rows n ≡ after (if_control (is_control (element_at f n).sort) (copy_of f a marks cases rows n)) (inner_copies f a (copies_at k f a marks cases) rows n)
  own-then most k rows n e = ap (λ j. copies_at j f a marks cases rows n) e

  pub own-too-long : (most k : ℕ) (rows : List ℕ) (n : ℕ) → most ≡ suc k → if_control (is_control (element_at f n).sort) (copy_of f a marks cases rows n) ≡ None → copies_at most f a marks cases rows n ≡ None
  own-too-long most k rows n e h = own-then most k rows n e ∙ ap (λ m. after m (inner_copies f a (copies_at k f a marks cases) rows n)) h

-- ---- row by row

module _ (f : Interface) (a : Around) (further : List ℕ → ℕ → Option (List Copy)) (rows : List ℕ) (n : ℕ) where
  abbrev pub at_row : NodeId → Option (List Copy)
  at_row m = in_row f further rows n m.number

  pub rows-lost : rows_of f a rows n ≡ None → row_copies f a further rows n ≡ None
  rows-lost e = ap (λ m. m >>= all_of (in_row f further rows n)) e

  pub rows-are : (set : List ℕ) (nodes : List NodeId) → rows_of f a rows n ≡ Some set → map number nodes ≡ set → row_copies f a further rows n ≡ all_of at_row nodes
  rows-are set nodes e h =
      ap (λ m. m >>= all_of (in_row f further rows n)) e ∙ ap (all_of (in_row f further rows n)) (sym h) ∙ all-numbers (in_row f further rows n) nodes

  pub row-is : (chain : List ℕ) (m : NodeId) → chain ≡ rows ++ m.number ∷ [] → of_parts (further chain) (element_at f n).parts ≡ at_row m
  row-is chain m e = ap (λ c. of_parts (further c) (element_at f n).parts) e

  pub is-repeat : is_repeat f n ≡ true → row_copies f a further rows n ≡ inner_copies f a further rows n
  is-repeat e = sym (ap (λ b. if b then row_copies f a further rows n else of_parts (further rows) (element_at f n).parts) e)

  pub no-repeat : is_repeat f n ≡ false → of_parts (further rows) (element_at f n).parts ≡ inner_copies f a further rows n
  no-repeat e = sym (ap (λ b. if b then row_copies f a further rows n else of_parts (further rows) (element_at f n).parts) e)

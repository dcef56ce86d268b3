-- Nothing goes under a readonly node: told of the numbers of such nodes, or by one look at the parent of the first place.
use Rattle.std.proofs.Common.{◌≡◌, ℕ, suc, ℤ, ◌==◌, Bool, true, false, not, cond, ◌&&◌, ◌||◌, List, [], ◌∷◌, ◌++◌, map, Option, Some, None, refl, sym, ap, ◌∙◌, arith}
use Rattle.std.specs.Prelude.{filter}
use Rattle.std.proofs.lemmas.Bool.Decides.{nat_tests}
use Rattle.xf_def_forest.specs.declared.content.Content.{Content}
use Rattle.xf_def_forest.specs.declared.content.Content.TheVariants as content
use Rattle.xf_def_forest.specs.declared.content.Node.{Node}
use Rattle.xf_def_forest.specs.Changes.{place_among}
use Rattle.xf_def_forest.specs.Forest.{has_number, is_attribute, is_element, is_root}
use Rattle.xf_def_forest.specs.Visit.{Visit, children_of, has, parent_of, visits}
use Rattle.xf_def_forest.proofs.OrderLaws.{seen-has}
use Rattle.xf_def_model.specs.Places as model
use Rattle.xf_def_model.specs.Places.{Place, content_in, elements_among, instead, is_in, named_by, named_place, row_place, within}
use Rattle.xf_def_ui.specs.declared.marks.Marks.{Marks}
use Rattle.xf_def_machine.specs.Insert.{is_written}
use Rattle.xf_def_machine.specs.Program.{InsertBy}
use Rattle.xf_insert.specs.Closed.{closed_by, insert_asked, is_first_closed}
use Rattle.xf_insert.specs.Placing.{at_some, places_in}

-- ---- one node

in-filter : (p : ℕ → Bool) (n : ℕ) (ns : List ℕ) → has n (filter p ns) ≡ (has n ns && p n)
in-filter p n [] = refl
in-filter p n (m ∷ ns) = by (n == m) refl (in-filter p n ns)
  where
    kept : (c : Bool) → ((n == m) ≡ false) → has n (filter p ns) ≡ (has n ns && p n) → has n (cond c (m ∷ filter p ns) (filter p ns)) ≡ (has n ns && p n)
    kept true e later = ap (λ b. b || has n (filter p ns)) e ∙ later
    kept false e later = later

    chosen : (c : Bool) → p m ≡ c → n ≡ m → (n == m) ≡ true → has n (filter p ns) ≡ (has n ns && p n) → has n (cond c (m ∷ filter p ns) (filter p ns)) ≡ p n
    chosen true q same e later = ap (λ b. b || has n (filter p ns)) e ∙ sym (ap p same ∙ q)
    chosen false q same e later = later ∙ ap (λ b. has n ns && b) (ap p same ∙ q) ∙ and-false (has n ns) ∙ sym (ap p same ∙ q)
      where
        and-false : (b : Bool) → (b && false) ≡ false
        and-false true = refl
        and-false false = refl

    by : (b : Bool) → (n == m) ≡ b → has n (filter p ns) ≡ (has n ns && p n) → has n (cond (p m) (m ∷ filter p ns) (filter p ns)) ≡ (((n == m) || has n ns) && p n)
    by true e later = let same : n ≡ m = grind (arith, nat_tests, e) in chosen (p m) refl same e later ∙ sym (ap (λ b. (b || has n ns) && p n) e)
    by false e later = kept (p m) e later ∙ sym (ap (λ b. (b || has n ns) && p n) e)

-- a node is closed that stands and is readonly
pub closed-has : (marks : ℕ → Marks) (n : ℕ) (nodes : List Node) → has n (closed_by marks nodes) ≡ (has_number n nodes && (marks n).readonly)
closed-has marks n nodes =
    in-filter (λ m. (marks m).readonly) n (map (λ (x : Visit). x.number) (visits nodes)) ∙ ap (λ b. b && (marks n).readonly) (seen-has n [] nodes)

-- ---- places under one parent

abbrev AllUnder : ℕ → List Place → Type 0
AllUnder q [] = Unit {0}
AllUnder q (p ∷ ps) = (p.parent ≡ q) × AllUnder q ps

within-under : (all : List Visit) (q before : ℕ) (earlier : List Place) (ns : List ℕ) → AllUnder q (within all q before earlier ns)
within-under all q before earlier [] = tt
within-under all q before earlier (n ∷ ns) =
    by (is_in is_element all n) (is_in is_attribute all n)
    (within-under all q (suc before) (earlier ++ row_place q before n ∷ []) ns) (within-under all q before (earlier ++ named_place all q earlier n ∷ []) ns) (within-under all q before earlier ns)
  where
    by : (a b : Bool)
        → AllUnder q (within all q (suc before) (earlier ++ row_place q before n ∷ []) ns) → AllUnder q (within all q before (earlier ++ named_place all q earlier n ∷ []) ns)
        → AllUnder q (within all q before earlier ns)
        → AllUnder q (cond a (row_place q before n ∷ within all q (suc before) (earlier ++ row_place q before n ∷ []) ns)
        (cond b (named_place all q earlier n ∷ within all q before (earlier ++ named_place all q earlier n ∷ []) ns) (within all q before earlier ns)))
    by true b h k l = (refl, h)
    by false true h k l = (refl, k)
    by false false h k l = l

instead-under : (q n : ℕ) (ms : List ℕ) → AllUnder q (instead q n ms)
instead-under q n [] = tt
instead-under q n (m ∷ ms) = (refl, tt)

element-under : (all : List Visit) (after : Bool) (origin : List ℕ) (n q : ℕ) (is_below_root : Bool)
    → AllUnder q (cond is_below_root (instead q n (elements_among all origin)) (model.beside all after q n origin))
element-under all after origin n q true = instead-under q n (elements_among all origin)
element-under all after origin n q false =
    within-under all q (cond after (suc (place_among n (children_of q all))) (place_among n (children_of q all))) [] (elements_among all origin)

-- ---- all of them, or none

abbrev opened : List ℕ → List Place → List Place
opened closed ps = filter (λ (p : Place). not (has p.parent closed)) ps

abbrev IsAllOrNone : List ℕ → List Place → Type 0
IsAllOrNone closed ps = opened closed ps ≡ cond (is_first_closed closed ps) [] ps

under-opened : (closed : List ℕ) (q : ℕ) (ps : List Place) → AllUnder q ps → opened closed ps ≡ cond (has q closed) [] ps
under-opened closed q [] h = by (has q closed)
  where
    by : (b : Bool) → opened closed [] ≡ cond b [] (opened closed [])
    by true = refl
    by false = refl
under-opened closed q (p ∷ ps) h = by (has q closed) refl (under-opened closed q ps h.1)
  where
    by : (b : Bool) → has q closed ≡ b → opened closed ps ≡ cond (has q closed) [] ps → cond (not (has p.parent closed)) (p ∷ opened closed ps) (opened closed ps) ≡ cond b [] (p ∷ ps)
    by true e later =
        ap (λ b. cond (not b) (p ∷ opened closed ps) (opened closed ps)) (ap (λ k. has k closed) h.0 ∙ e) ∙ later ∙ ap (λ b. cond b [] ps) e
    by false e later =
        ap (λ b. cond (not b) (p ∷ opened closed ps) (opened closed ps)) (ap (λ k. has k closed) h.0 ∙ e) ∙ ap (λ l. p ∷ l) (later ∙ ap (λ b. cond b [] ps) e)

under-all : (closed : List ℕ) (q : ℕ) (ps : List Place) → AllUnder q ps → IsAllOrNone closed ps
under-all closed q [] h = refl
under-all closed q (p ∷ ps) h = under-opened closed q (p ∷ ps) h ∙ ap (λ k. cond (has k closed) [] (p ∷ ps)) (sym h.0)

module _ (closed : List ℕ) (all : List Visit) (after : Bool) (origin : List ℕ) (n : ℕ) where
  at-all : (o : Option Content) (r : Option ℕ) → IsAllOrNone closed (model.at_node all after origin n o r)
  at-all None None = refl
  at-all None (Some q) = refl
  at-all (Some content.Root) None = refl
  at-all (Some content.Root) (Some q) = refl
  at-all (Some (content.Element name)) None = refl
  at-all (Some (content.Element name)) (Some q) =
      under-all closed q (model.at_node all after origin n (Some (content.Element name)) (Some q)) (element-under all after origin n q (is_in is_root all q))
  at-all (Some (content.Attribute name text)) None = refl
  at-all (Some (content.Attribute name text)) (Some q) =
      under-all closed q (within all q 0 [] (filter (is_in is_attribute all) origin)) (within-under all q 0 [] (filter (is_in is_attribute all) origin))
  at-all (Some (content.Text text)) None = refl
  at-all (Some (content.Text text)) (Some q) = refl

some-all : (closed : List ℕ) (all : List Visit) (after : Bool) (origin : List ℕ) (o : Option ℕ) → IsAllOrNone closed (at_some all after origin o)
some-all closed all after origin None = refl
some-all closed all after origin (Some n) = at-all closed all after origin n (content_in all n) (parent_of n all)

inside-all : (closed : List ℕ) (all : List Visit) (context : ℕ) (origin : List ℕ) (given : Bool) → IsAllOrNone closed (cond given (within all context 0 [] origin) [])
inside-all closed all context origin true = under-all closed context (within all context 0 [] origin) (within-under all context 0 [] origin)
inside-all closed all context origin false = refl

module _ (closed : List ℕ) (all : List Visit) (w : InsertBy) (context : ℕ) (origin : List ℕ) (at : Option ℤ) where
  places-all : (set : List ℕ) → IsAllOrNone closed (places_in all w context set origin at)
  places-all [] = inside-all closed all context origin (is_written w.context && is_in is_element all context)
  places-all (n ∷ ns) = some-all closed all (not w.is_before) origin (named_by at (n ∷ ns))

  at-place : (set : List ℕ) (o : Option ℕ) → model.at_place all (insert_asked closed w context set origin at) o ≡ at_some all (not w.is_before) origin o
  at-place set None = refl
  at-place set (Some n) = refl

  places-by : (set : List ℕ) → model.places_at all (insert_asked closed w context set origin at) set ≡ places_in all w context set origin at
  places-by [] = refl
  places-by (n ∷ ns) = at-place (n ∷ ns) (named_by at (n ∷ ns))

  planned-is : (set : List ℕ)
      → opened closed (model.places_at all (insert_asked closed w context set origin at) set)
      ≡ cond (is_first_closed closed (places_in all w context set origin at)) [] (places_in all w context set origin at)
  planned-is set = ap (opened closed) (places-by set) ∙ places-all set

module _ (closed : List ℕ) (nodes : List Node) (w : InsertBy) (context : ℕ) (set origin : List ℕ) (at : Option ℤ) where
  planned-cond : model.planned_insert nodes (insert_asked closed w context set origin at)
      ≡ cond (is_first_closed closed (places_in (visits nodes) w context set origin at)) [] (places_in (visits nodes) w context set origin at)
  planned-cond = planned-is closed (visits nodes) w context origin at set

  pub planned-none : (ps : List Place) → ps ≡ places_in (visits nodes) w context set origin at → is_first_closed closed ps ≡ true
      → [] ≡ model.planned_insert nodes (insert_asked closed w context set origin at)
  planned-none ps is h = sym (planned-cond ∙ ap (λ l. cond (is_first_closed closed l) [] l) (sym is) ∙ ap (λ b. cond b [] ps) h)

  pub planned-all : (ps : List Place) → ps ≡ places_in (visits nodes) w context set origin at → is_first_closed closed ps ≡ false
      → ps ≡ model.planned_insert nodes (insert_asked closed w context set origin at)
  planned-all ps is h = sym (planned-cond ∙ ap (λ l. cond (is_first_closed closed l) [] l) (sym is) ∙ ap (λ b. cond b [] ps) h)

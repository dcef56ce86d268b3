-- The list of the copies of controls, and what a refresh tells of two lists, go with a renumbering.
use Rattle.std.proofs.Common.{◌≡◌, ℕ, zero, suc, Bool, true, false, ◌&&◌, List, [], ◌∷◌, ◌++◌, map, length, Option, Some, None, option_map, refl, sym, ap, ◌∙◌}
use Rattle.std.specs.List.{list_all}
use Rattle.std.proofs.lemmas.List.{map-append}
use Rattle.xf_def_forest.specs.Same.{IsRenumbering}
use Rattle.xf_def_xpath.specs.Setting.{Focus, Meaning, ◌>>=◌, each}
use Rattle.xf_def_xpath.specs.Same.{renumbered_focus}
use Rattle.xf_def_xpath.proofs.Options.{then-through, map-through, map-kept, each-through}
use Rattle.xf_def_xpath.proofs.RenumberValues.{Renumbers}
use Rattle.xf_def_ui.specs.declared.answers.Item.{Item}
use Rattle.xf_def_ui.specs.declared.marks.Marks.{Marks}
use Rattle.xf_def_ui.specs.Interface.{Bound, unbound, nodes, by_bind, Sort, repeated, output, select, Interface}
use Rattle.xf_def_ui.specs.Elements.{element_at, children, is_control}
use Rattle.xf_def_ui.specs.Around.{Around, first_bound}
use Rattle.xf_def_ui.specs.Cases.{is_in_selected}
use Rattle.xf_def_ui.specs.Context.{Context, context_of}
use Rattle.xf_def_ui.specs.Copies.{Copy, own_binding, node_of, printed_value, value_by, relevant_if, is_open_by, is_open, with_containers, is_enabled, marks_if, items_if, copy_with, copy_of, copies}
use Rattle.xf_def_ui.specs.Index.{Index, seeing}
use Rattle.xf_def_ui.specs.Places.{Places, all_places, places_in, places_by, if_control, places_at, places}
use Rattle.xf_def_ui.specs.Rows.{rows_of}
use Rattle.xf_def_machine.specs.Same.{renumbered_index, renumbered_copy}
use Rattle.xf_law_sessions.specs.Same.Controls.{GoesAround}
use Rattle.xf_law_sessions.proofs.SameLemmas.AroundGoes.{BoundGoes, renumbered_context, first-bound, context-goes, rows-go}
use Rattle.xf_law_sessions.proofs.SameLemmas.IndexGoes.{each-same, seeing-goes}
use Rattle.xf_law_sessions.proofs.SameLemmas.LabelsGo.{SortGoes, ElementGoes, each-kept, node-text, worth-goes, items-go}

-- ---- where copies are: elements keep their numbers, rows are nodes

abbrev renumbered_rows : (ℕ → ℕ) → ℕ × List ℕ → ℕ × List ℕ
renumbered_rows f q = (q.0, map f q.1)

all-goes : (f : ℕ → ℕ) (lists : List Places) → all_places (map (map (renumbered_rows f)) lists) ≡ map (renumbered_rows f) (all_places lists)
all-goes f [] = refl
all-goes f (l ∷ ls) = ap (λ x. map (renumbered_rows f) l ++ x) (all-goes f ls) ∙ sym (map-append (renumbered_rows f) l (all_places ls))

abbrev Goes : (ℕ → ℕ) → (List ℕ → ℕ → Option Places) → (List ℕ → ℕ → Option Places) → Type 0
Goes f one two = (rows : List ℕ) (n : ℕ) → two (map f rows) n ≡ option_map (map (renumbered_rows f)) (one rows n)

in-goes : (f : ℕ → ℕ) (one two : List ℕ → ℕ → Option Places) → Goes f one two → (ns rows : List ℕ)
    → places_in two ns (map f rows) ≡ option_map (map (renumbered_rows f)) (places_in one ns rows)
in-goes f one two e ns rows =
    ap (option_map all_places) (each-same (map (renumbered_rows f)) (one rows) (two (map f rows)) (e rows) ns)
    ∙ map-through (map (map (renumbered_rows f))) (map (renumbered_rows f)) (each (one rows) ns) all_places all_places (all-goes f)

control-goes : (f : ℕ → ℕ) (c : Bool) (n : ℕ) (rows : List ℕ) (l : Places) → if_control c n (map f rows) (map (renumbered_rows f) l) ≡ map (renumbered_rows f) (if_control c n rows l)
control-goes f true n rows l = refl
control-goes f false n rows l = refl

module _ (f : ℕ → ℕ) (same : IsRenumbering f) (form : Interface) (h : (n : ℕ) → ElementGoes f (element_at form n)) (a b : Around) (g : GoesAround f a b) where
  bindings : (n : ℕ) → BoundGoes f (element_at form n).binding
  bindings n = (h n).binding

  by-goes : (one two : List ℕ → ℕ → Option Places) → Goes f one two → (rows : List ℕ) (n : ℕ) (sort : Sort)
      → places_by form b two (map f rows) n sort ≡ option_map (map (renumbered_rows f)) (places_by form a one rows n sort)
  by-goes one two e rows n (repeated k start) =
      let made : (List ℕ → ℕ → Option Places) → List ℕ → List ℕ → Option Places = λ further outer set.
      option_map all_places (each (λ m. places_in further (children form n) (outer ++ m ∷ [])) set) in
      ap (λ o. o >>= made two (map f rows)) (rows-go f same a b g form bindings rows n)
      ∙ then-through (map f) (map (renumbered_rows f)) (rows_of form a rows n) (made one rows) (made two (map f rows))
      (λ set. ap (option_map all_places)
      (each-through f (map (renumbered_rows f)) (λ m. places_in one (children form n) (rows ++ m ∷ [])) (λ m. places_in two (children form n) (map f rows ++ m ∷ []))
      (λ m. ap (places_in two (children form n)) (sym (map-append f rows (m ∷ []))) ∙ in-goes f one two e (children form n) (rows ++ m ∷ [])) set)
      ∙ map-through (map (map (renumbered_rows f))) (map (renumbered_rows f)) (each (λ m. places_in one (children form n) (rows ++ m ∷ [])) set) all_places all_places (all-goes f))
  by-goes one two e rows n sort = in-goes f one two e (children form n) rows

  places-at : (most : ℕ) → Goes f (places_at most form a) (places_at most form b)
  places-at zero rows n = refl
  places-at (suc most) rows n =
      let c = is_control (element_at form n).sort in
      ap (option_map (if_control c n (map f rows))) (by-goes (places_at most form a) (places_at most form b) (places-at most) rows n (element_at form n).sort)
      ∙ map-through (map (renumbered_rows f)) (map (renumbered_rows f)) (places_by form a (places_at most form a) rows n (element_at form n).sort) (if_control c n rows) (if_control c n (map f rows)) (control-goes f c n rows)

  places-go : places form b ≡ option_map (map (renumbered_rows f)) (places form a)
  places-go = places-at (length form.elements) [] 0

  -- ---- one copy

  own-goes : (n : ℕ) (sort : Sort) → BoundGoes f (own_binding (element_at form n) sort)
  own-goes n (repeated k start) = tt
  own-goes n sort = bindings n

  node-goes : (rows : List ℕ) (n : ℕ) → node_of form b (map f rows) n ≡ option_map (option_map f) (node_of form a rows n)
  node-goes rows n =
      let e = element_at form n in
      ap (λ o. o >>= λ c. first_bound b c.model (own_binding e e.sort) c.focus) (context-goes f same a b g form bindings rows n)
      ∙ then-through (renumbered_context f) (option_map f) (context_of form a rows n) (λ c. first_bound a c.model (own_binding e e.sort) c.focus) (λ c. first_bound b c.model (own_binding e e.sort) c.focus)
      (λ c. first-bound f same a b g c.model (own_binding e e.sort) (own-goes n e.sort) c.focus)

  printed-goes : (c : Context) (m : Meaning) → Renumbers f m → (o : Option Focus) → printed_value b (renumbered_context f c) m (option_map (renumbered_focus f) o) ≡ printed_value a c m o
  printed-goes c m r None = refl
  printed-goes c m r (Some x) = ap (option_map Some) (worth-goes f same form h a b g m r c.model x)

  value-goes : (c : Context) (binding : Bound) (sort : Sort) → SortGoes f sort → (o : Option ℕ) → value_by b (renumbered_context f c) binding sort (option_map f o) ≡ value_by a c binding sort o
  value-goes c binding sort r (Some n) = ap (option_map Some) (node-text f same form h a b g c.model n)
  value-goes c unbound (output (Some m)) r None = printed-goes c m r c.focus
  value-goes c binding sort r None = refl

  module _ (marks other_marks : ℕ → Marks) (e : (n : ℕ) → other_marks (f n) ≡ marks n) (cases : List ℕ) where
    relevant-goes : (o : Option ℕ) → relevant_if other_marks (option_map f o) ≡ relevant_if marks o
    relevant-goes None = refl
    relevant-goes (Some n) = ap (λ (m : Marks). m.relevant) (e n)

    open-by : (binding : Bound) (o : Option ℕ) → is_open_by other_marks binding (option_map f o) ≡ is_open_by marks binding o
    open-by unbound o = refl
    open-by (nodes m) o = relevant-goes o
    open-by (by_bind k) o = relevant-goes o

    open-goes : (rows : List ℕ) (n : ℕ) → is_open form b other_marks (map f rows) n ≡ is_open form a marks rows n
    open-goes rows n =
        let binding = own_binding (element_at form n) (element_at form n).sort in
        ap (option_map (is_open_by other_marks binding)) (node-goes rows n)
        ∙ map-kept (option_map f) (node_of form a rows n) (is_open_by marks binding) (is_open_by other_marks binding) (open-by binding)

    enabled-goes : (rows : List ℕ) (n : ℕ) → is_enabled form b other_marks cases (map f rows) n ≡ is_enabled form a marks cases rows n
    enabled-goes rows n =
        ap (option_map (λ all. list_all (λ c. c) all && is_in_selected form cases n))
        (each-kept (is_open form a marks rows) (is_open form b other_marks (map f rows)) (open-goes rows) (with_containers form n))

    marks-go : (o : Option ℕ) → marks_if other_marks (option_map f o) ≡ marks_if marks o
    marks-go None = refl
    marks-go (Some n) = e n

    if-goes : (rows : List ℕ) (n : ℕ) (sort : Sort) → items_if form b (map f rows) n sort ≡ items_if form a rows n sort
    if-goes rows n (select many is_free) = items-go f same form h a b g rows n
    if-goes rows n sort = refl

    copy-goes : (rows : List ℕ) (n : ℕ) → copy_of form b other_marks cases (map f rows) n ≡ option_map (renumbered_copy f) (copy_of form a marks cases rows n)
    copy-goes rows n =
        let x = element_at form n in
        let binding = own_binding x x.sort in
        let last : (ℕ → Marks) → List ℕ → Option ℕ → Option (List ℕ) → Bool → List Item → Option Copy = λ m r node text enabled items.
        Some (copy_with n r node text enabled (marks_if m node) items) in
        let third : Around → (ℕ → Marks) → List ℕ → Option ℕ → Option (List ℕ) → Option Copy = λ y m r node text.
        is_enabled form y m cases r n >>= λ enabled. items_if form y r n x.sort >>= λ items. last m r node text enabled items in
        let second : Around → (ℕ → Marks) → List ℕ → Context → Option ℕ → Option Copy = λ y m r c node. value_by y c binding x.sort node >>= third y m r node in
        let first : Around → (ℕ → Marks) → List ℕ → Context → Option Copy = λ y m r c. node_of form y r n >>= second y m r c in
        ap (λ o. o >>= first b other_marks (map f rows)) (context-goes f same a b g form bindings rows n)
        ∙ then-through (renumbered_context f) (renumbered_copy f) (context_of form a rows n) (first a marks rows) (first b other_marks (map f rows))
        (λ c. ap (λ o. o >>= second b other_marks (map f rows) (renumbered_context f c)) (node-goes rows n)
        ∙ then-through (option_map f) (renumbered_copy f) (node_of form a rows n) (second a marks rows c) (second b other_marks (map f rows) (renumbered_context f c))
        (λ node. ap (λ o. o >>= third b other_marks (map f rows) (option_map f node)) (value-goes c binding x.sort (h n).sort node)
        ∙ thens (value_by a c binding x.sort node) (third a marks rows node) (third b other_marks (map f rows) (option_map f node))
        (λ text. ap (λ o. o >>= λ enabled. items_if form b (map f rows) n x.sort >>= λ items. last other_marks (map f rows) (option_map f node) text enabled items) (enabled-goes rows n)
        ∙ thens (is_enabled form a marks cases rows n) (λ enabled. items_if form a rows n x.sort >>= λ items. last marks rows node text enabled items)
        (λ enabled. items_if form b (map f rows) n x.sort >>= λ items. last other_marks (map f rows) (option_map f node) text enabled items)
        (λ enabled. ap (λ o. o >>= λ items. last other_marks (map f rows) (option_map f node) text enabled items) (if-goes rows n x.sort)
        ∙ thens (items_if form a rows n x.sort) (λ items. last marks rows node text enabled items) (λ items. last other_marks (map f rows) (option_map f node) text enabled items)
        (λ items. ap {A = Marks} {B = Option Copy} (λ m. Some (copy_with n (map f rows) (option_map f node) text enabled m items)) (marks-go node))))))
      where
        thens : {A : Type 0} (m : Option A) (k q : A → Option Copy) → ((y : A) → q y ≡ option_map (renumbered_copy f) (k y)) → (m >>= q) ≡ option_map (renumbered_copy f) (m >>= k)
        thens None k q p = refl
        thens (Some y) k q p = p y

-- ---- all of them, and two lists

module _ (f : ℕ → ℕ) (same : IsRenumbering f) (form : Interface) (h : (n : ℕ) → ElementGoes f (element_at form n)) (a b : Around) (g : GoesAround f a b) where
  pub copies-go : (marks other_marks : ℕ → Marks) → ((n : ℕ) → other_marks (f n) ≡ marks n) → (cases : List ℕ) (is : List Index)
      → copies form b other_marks cases (map (renumbered_index f) is) ≡ option_map (map (renumbered_copy f)) (copies form a marks cases is)
  copies-go marks other_marks e cases is =
      let one = seeing form is a in
      let two = seeing form (map (renumbered_index f) is) b in
      let seen : GoesAround f one two = seeing-goes f same form a b g is in
      ap (λ o. o >>= each (λ q. copy_of form two other_marks cases q.1 q.0)) (places-go f same form h one two seen)
      ∙ then-through (map (renumbered_rows f)) (map (renumbered_copy f)) (places form one) (each (λ q. copy_of form one marks cases q.1 q.0)) (each (λ q. copy_of form two other_marks cases q.1 q.0))
      (each-through (renumbered_rows f) (renumbered_copy f) (λ q. copy_of form one marks cases q.1 q.0) (λ q. copy_of form two other_marks cases q.1 q.0)
      (λ q. copy-goes f same form h one two seen marks other_marks e cases q.1 q.0))

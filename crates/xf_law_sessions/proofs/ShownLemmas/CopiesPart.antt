-- The list of the copies of controls is over a part what it is over all data.
use Rattle.std.proofs.Common.{◌≡◌, ℕ, zero, suc, Bool, true, false, ◌&&◌, List, [], ◌∷◌, ◌++◌, length, Option, Some, None, option_map, refl, ap, ◌∙◌}
use Rattle.std.specs.List.{list_all}
use Rattle.xf_def_xpath.specs.Setting.{Focus, Meaning, ◌>>=◌, each}
use Rattle.xf_def_xpath.proofs.ForestVisits.{Each}
use Rattle.xf_def_ui.specs.declared.answers.Item.{Item}
use Rattle.xf_def_ui.specs.declared.marks.Marks.{Marks}
use Rattle.xf_def_ui.specs.Interface.{Bound, unbound, nodes, by_bind, Sort, repeated, output, select, Interface}
use Rattle.xf_def_ui.specs.Elements.{element_at, children, is_control}
use Rattle.xf_def_ui.specs.Around.{Around, first_bound}
use Rattle.xf_def_ui.specs.Cases.{is_in_selected}
use Rattle.xf_def_ui.specs.Context.{Context, context_of}
use Rattle.xf_def_ui.specs.Copies.{Copy, own_binding, node_of, printed_value, value_by, relevant_if, is_open_by, is_open, with_containers, is_enabled, marks_if, items_if, copy_with, copy_of, copies}
use Rattle.xf_def_ui.specs.Index.{Index, seeing}
use Rattle.xf_def_ui.specs.Places.{Places, all_places, places_in, places_by, if_control, places_at, places}
use Rattle.xf_def_ui.specs.Rows.{rows_of}
use Rattle.xf_law_recalculation.proofs.WithinLemmas.Told.{Agree, agree-then, agree-map, agree-each}
use Rattle.xf_law_recalculation.proofs.WithinLemmas.Within.{In, in-append}
use Rattle.xf_law_sessions.proofs.ShownLemmas.AroundPart.{then-same, map-same, IsSeen, over, BoundKeeps, OneIn, FocusIn, ContextIn, node-text, worth-same, first-bound, context-agrees, rows-agree}
use Rattle.xf_law_sessions.proofs.ShownLemmas.LabelsPart.{SortKeeps, ElementKeeps, each-kept, each-where, items-same}

-- ---- where copies are

abbrev RowsIn : (ℕ → Bool) → ℕ × List ℕ → Type 0
RowsIn p q = In p q.1

abbrev PlacesIn : (ℕ → Bool) → Places → Type 0
PlacesIn p l = Each (RowsIn p) l

places-append : (p : ℕ → Bool) (one two : Places) → PlacesIn p one → PlacesIn p two → PlacesIn p (one ++ two)
places-append p [] two i j = j
places-append p (q ∷ one) two i j = (i.0, places-append p one two i.1 j)

all-in : (p : ℕ → Bool) (lists : List Places) → Each (PlacesIn p) lists → PlacesIn p (all_places lists)
all-in p [] i = tt
all-in p (l ∷ ls) i = places-append p l (all_places ls) i.0 (all-in p ls i.1)

control-in : (p : ℕ → Bool) (c : Bool) (n : ℕ) (rows : List ℕ) → In p rows → (l : Places) → PlacesIn p l → PlacesIn p (if_control c n rows l)
control-in p true n rows i l j = (i, j)
control-in p false n rows i l j = j

any-each : (ns : List ℕ) → Each (λ n. Unit {0}) ns
any-each [] = tt
any-each (n ∷ ns) = (tt, any-each ns)

-- the same places, in the part
abbrev SamePlaces : (ℕ → Bool) → (List ℕ → ℕ → Option Places) → (List ℕ → ℕ → Option Places) → Type 0
SamePlaces p two one = (rows : List ℕ) → In p rows → (n : ℕ) → Agree (PlacesIn p) (two rows n) (one rows n)

in-agrees : (p : ℕ → Bool) (two one : List ℕ → ℕ → Option Places) → SamePlaces p two one → (ns rows : List ℕ) → In p rows → Agree (PlacesIn p) (places_in two ns rows) (places_in one ns rows)
in-agrees p two one e ns rows i =
    agree-map {P = Each (PlacesIn p)} {Q = PlacesIn p} (each (two rows) ns) (each (one rows) ns) all_places all_places
    (agree-each {P = λ n. Unit {0}} {Q = PlacesIn p} (two rows) (one rows) ns (any-each ns) (λ n j. e rows i n)) (λ l j. refl) (all-in p)

module _ (p : ℕ → Bool) (form : Interface) (keeps : (n : ℕ) → ElementKeeps p (element_at form n)) (a : Around) (small : ℕ → Option (List ℕ)) (h : IsSeen p a small) where
  abbrev b : Around
  b = over p a small

  bindings : (n : ℕ) → BoundKeeps p (element_at form n).binding
  bindings n = (keeps n).binding

  by-agrees : (two one : List ℕ → ℕ → Option Places) → SamePlaces p two one → (rows : List ℕ) → In p rows → (n : ℕ) (sort : Sort)
      → Agree (PlacesIn p) (places_by form b two rows n sort) (places_by form a one rows n sort)
  by-agrees two one e rows i n (repeated k start) =
      let made : (List ℕ → ℕ → Option Places) → List ℕ → Option Places = λ further set.
      option_map all_places (each (λ m. places_in further (children form n) (rows ++ m ∷ [])) set) in
      agree-then {P = In p} {Q = PlacesIn p} (rows_of form b rows n) (rows_of form a rows n) (made two) (made one) (rows-agree p a small h form bindings rows i n)
      (λ set j. agree-map {P = Each (PlacesIn p)} {Q = PlacesIn p} (each (λ m. places_in two (children form n) (rows ++ m ∷ [])) set) (each (λ m. places_in one (children form n) (rows ++ m ∷ [])) set) all_places all_places
      (agree-each {P = λ m. p m ≡ true} {Q = PlacesIn p} (λ m. places_in two (children form n) (rows ++ m ∷ [])) (λ m. places_in one (children form n) (rows ++ m ∷ [])) set j
      (λ m l. in-agrees p two one e (children form n) (rows ++ m ∷ []) (in-append p rows (m ∷ []) i (l, tt)))) (λ l q. refl) (all-in p))
  by-agrees two one e rows i n sort = in-agrees p two one e (children form n) rows i

  places-at : (most : ℕ) → SamePlaces p (places_at most form b) (places_at most form a)
  places-at zero rows i n = record { same = refl; told = tt }
  places-at (suc most) rows i n =
      let c = is_control (element_at form n).sort in
      agree-map {P = PlacesIn p} {Q = PlacesIn p} (places_by form b (places_at most form b) rows n (element_at form n).sort) (places_by form a (places_at most form a) rows n (element_at form n).sort)
      (if_control c n rows) (if_control c n rows) (by-agrees (places_at most form b) (places_at most form a) (places-at most) rows i n (element_at form n).sort) (λ l j. refl) (control-in p c n rows i)

  places-agree : Agree (PlacesIn p) (places form b) (places form a)
  places-agree = places-at (length form.elements) [] tt 0

  -- ---- one copy

  own-keeps : (n : ℕ) (sort : Sort) → BoundKeeps p (own_binding (element_at form n) sort)
  own-keeps n (repeated k start) = tt
  own-keeps n sort = bindings n

  node-agrees : (rows : List ℕ) → In p rows → (n : ℕ) → Agree (OneIn p) (node_of form b rows n) (node_of form a rows n)
  node-agrees rows i n =
      let binding = own_binding (element_at form n) (element_at form n).sort in
      agree-then {P = ContextIn p} {Q = OneIn p} (context_of form b rows n) (context_of form a rows n) (λ c. first_bound b c.model binding c.focus) (λ c. first_bound a c.model binding c.focus)
      (context-agrees p a small h form bindings rows i n) (λ c j. first-bound p a small h c.model binding (own-keeps n (element_at form n).sort) c.focus j)

  printed-same : (c : Context) (m : Meaning) → (o : Option Focus) → FocusIn p o → ((x : Focus) → p x.node ≡ true → printed_value b c m (Some x) ≡ printed_value a c m (Some x))
      → printed_value b c m o ≡ printed_value a c m o
  printed-same c m None i k = refl
  printed-same c m (Some x) i k = k x i

  value-same : (c : Context) → ContextIn p c → (binding : Bound) (sort : Sort) → SortKeeps p sort → (o : Option ℕ) → OneIn p o → value_by b c binding sort o ≡ value_by a c binding sort o
  value-same c i binding sort k (Some n) j = ap (option_map Some) (node-text p a small h c.model n j)
  value-same c i unbound (output (Some m)) k None j = printed-same c m c.focus i (λ x l. ap (option_map Some) (worth-same p a small h m k c.model x l))
  value-same c i binding sort k None j = refl

  module _ (marks other_marks : ℕ → Marks) (e : (n : ℕ) → p n ≡ true → other_marks n ≡ marks n) (cases : List ℕ) where
    relevant-same : (o : Option ℕ) → OneIn p o → relevant_if other_marks o ≡ relevant_if marks o
    relevant-same None i = refl
    relevant-same (Some n) i = ap (λ (m : Marks). m.relevant) (e n i)

    open-by : (binding : Bound) (o : Option ℕ) → OneIn p o → is_open_by other_marks binding o ≡ is_open_by marks binding o
    open-by unbound o i = refl
    open-by (nodes m) o i = relevant-same o i
    open-by (by_bind k) o i = relevant-same o i

    open-same : (rows : List ℕ) → In p rows → (n : ℕ) → is_open form b other_marks rows n ≡ is_open form a marks rows n
    open-same rows i n =
        let binding = own_binding (element_at form n) (element_at form n).sort in
        map-same {P = OneIn p} (node_of form b rows n) (node_of form a rows n) (is_open_by other_marks binding) (is_open_by marks binding) (node-agrees rows i n) (open-by binding)

    enabled-same : (rows : List ℕ) → In p rows → (n : ℕ) → is_enabled form b other_marks cases rows n ≡ is_enabled form a marks cases rows n
    enabled-same rows i n =
        ap (option_map (λ all. list_all (λ c. c) all && is_in_selected form cases n))
        (each-kept (is_open form a marks rows) (is_open form b other_marks rows) (open-same rows i) (with_containers form n))

    marks-same : (o : Option ℕ) → OneIn p o → marks_if other_marks o ≡ marks_if marks o
    marks-same None i = refl
    marks-same (Some n) i = e n i

    if-same : (rows : List ℕ) → In p rows → (n : ℕ) (sort : Sort) → items_if form b rows n sort ≡ items_if form a rows n sort
    if-same rows i n (select many is_free) = items-same p form keeps a small h rows i n
    if-same rows i n sort = refl

    copy-same : (rows : List ℕ) → In p rows → (n : ℕ) → copy_of form b other_marks cases rows n ≡ copy_of form a marks cases rows n
    copy-same rows i n =
        let x = element_at form n in
        let binding = own_binding x x.sort in
        let last : (ℕ → Marks) → Option ℕ → Option (List ℕ) → Bool → List Item → Option Copy = λ m node text enabled items.
        Some (copy_with n rows node text enabled (marks_if m node) items) in
        let third : Around → (ℕ → Marks) → Option ℕ → Option (List ℕ) → Option Copy = λ y m node text.
        is_enabled form y m cases rows n >>= λ enabled. items_if form y rows n x.sort >>= λ items. last m node text enabled items in
        let second : Around → (ℕ → Marks) → Context → Option ℕ → Option Copy = λ y m c node. value_by y c binding x.sort node >>= third y m node in
        let first : Around → (ℕ → Marks) → Context → Option Copy = λ y m c. node_of form y rows n >>= second y m c in
        then-same {P = ContextIn p} (context_of form b rows n) (context_of form a rows n) (first b other_marks) (first a marks) (context-agrees p a small h form bindings rows i n)
        (λ c j. then-same {P = OneIn p} (node_of form b rows n) (node_of form a rows n) (second b other_marks c) (second a marks c) (node-agrees rows i n)
        (λ node l. ap (λ o. o >>= third b other_marks node) (value-same c j binding x.sort (keeps n).sort node l)
        ∙ thens (value_by a c binding x.sort node) (third b other_marks node) (third a marks node)
        (λ text. ap (λ o. o >>= λ enabled. items_if form b rows n x.sort >>= λ items. last other_marks node text enabled items) (enabled-same rows i n)
        ∙ thens (is_enabled form a marks cases rows n) (λ enabled. items_if form b rows n x.sort >>= λ items. last other_marks node text enabled items) (λ enabled. items_if form a rows n x.sort >>= λ items. last marks node text enabled items)
        (λ enabled. ap (λ o. o >>= λ items. last other_marks node text enabled items) (if-same rows i n x.sort)
        ∙ thens (items_if form a rows n x.sort) (λ items. last other_marks node text enabled items) (λ items. last marks node text enabled items)
        (λ items. ap {A = Marks} {B = Option Copy} (λ m. Some (copy_with n rows node text enabled m items)) (marks-same node l))))))
      where
        thens : {A : Type 0} (m : Option A) (f g : A → Option Copy) → ((y : A) → f y ≡ g y) → (m >>= f) ≡ (m >>= g)
        thens None f g q = refl
        thens (Some y) f g q = q y

-- ---- all of them

module _ (p : ℕ → Bool) (form : Interface) (keeps : (n : ℕ) → ElementKeeps p (element_at form n)) (a : Around) (small : ℕ → Option (List ℕ)) (h : IsSeen p a small) where
  -- so is what is seen with indexes
  pub seen-with : (is : List Index) → IsSeen p (seeing form is a) small
  seen-with is = record { whole = h.whole; inside = h.inside; quiet = refl; bound = h.bound }

  pub copies-same : (marks other_marks : ℕ → Marks) → ((n : ℕ) → p n ≡ true → other_marks n ≡ marks n) → (cases : List ℕ) (is : List Index)
      → copies form (over p a small) other_marks cases is ≡ copies form a marks cases is
  copies-same marks other_marks e cases is =
      let one = seeing form is a in
      let two = seeing form is (over p a small) in
      then-same {P = PlacesIn p} (places form two) (places form one) (each (λ q. copy_of form two other_marks cases q.1 q.0)) (each (λ q. copy_of form one marks cases q.1 q.0))
      (places-agree p form keeps one small (seen-with is))
      (λ l i. each-where (RowsIn p) (λ q. copy_of form one marks cases q.1 q.0) (λ q. copy_of form two other_marks cases q.1 q.0)
      (λ q j. copy-same p form keeps one small (seen-with is) marks other_marks e cases q.1 j q.0) l i)

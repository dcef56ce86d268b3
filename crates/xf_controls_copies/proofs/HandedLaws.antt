-- What is handed down to an element is what the elements around it give it, also under a longer chain of rows.
use Rattle.std.proofs.Common.{◌≡◌, ℕ, Bool, true, false, cond, ◌&&◌, List, [], ◌∷◌, ◌++◌, Option, Some, None, option_map, refl, sym, ap, ◌∙◌, append_assoc}
use Rattle.std.specs.Prelude.{filter}
use Rattle.std.specs.List.{list_all}
use Rattle.std.proofs.lemmas.List.{append-nil}
use Rattle.xf_def_xpath.specs.Setting.{Focus, ◌>>=◌, each}
use Rattle.xf_def_ui.specs.declared.answers.Item.{Item}
use Rattle.xf_def_ui.specs.declared.marks.Marks.{Marks}
use Rattle.xf_def_ui.specs.Interface.{Bound, unbound, nodes, by_bind, Sort, Element, Interface, other, one_case, repeated, field, output, select}
use Rattle.xf_def_ui.specs.Elements.{element_at, ancestors, is_container, is_control, is_repeat_sort}
use Rattle.xf_def_ui.specs.Around.{Around, all_bound, first_bound}
use Rattle.xf_def_ui.specs.Context.{Inside, Place, free, Context, enter, enter_bound, enter_by, enter_sent, focus_in, inside, context_in, context_of, place_of, scope_of, row_place, rest}
use Rattle.xf_def_ui.specs.Rows.{rows_of}
use Rattle.xf_def_ui.specs.Cases.{if_case, is_in_selected}
use Rattle.xf_def_ui.specs.Copies.{Copy, copy_of, copy_with, is_enabled, is_open, is_open_by, items_if, marks_if, node_of, own_binding, value_by}
use Rattle.xf_items.specs.Items.{items_within}
use Rattle.xf_controls.specs.Handed.{place_below}
use Rattle.xf_controls.proofs.PathLaws.{inside-child}
use Rattle.xf_controls_copies.specs.Handed.{Handed, inside_of, node_in, items_for, copy_by, handed_by, handed_in, rows_in, handed_row}

-- ---- into an element that is no repeat

-- as many rows are left over
abbrev pub leaving : List ℕ → Inside → Inside
leaving more s = record { model = s.model; place = s.place; rows = more }

enter_bound-leaves : (a : Around) (s : Inside) (more : List ℕ) (model : ℕ) (binding : Bound) → enter_bound a (leaving more s) model binding ≡ option_map (leaving more) (enter_bound a s model binding)
enter_bound-leaves a s more model unbound = refl
enter_bound-leaves a s more model (nodes m) = by (first_bound a model (nodes m) (focus_in a model s.place))
  where
    by : (o : Option (Option ℕ))
        → option_map (λ n. record { model = model; place = place_of n; rows = more }) o
        ≡ option_map (leaving more) (option_map (λ n. record { model = model; place = place_of n; rows = s.rows }) o)
    by None = refl
    by (Some n) = refl
enter_bound-leaves a s more model (by_bind k) = by (first_bound a model (by_bind k) (focus_in a model s.place))
  where
    by : (o : Option (Option ℕ))
        → option_map (λ n. record { model = model; place = place_of n; rows = more }) o
        ≡ option_map (leaving more) (option_map (λ n. record { model = model; place = place_of n; rows = s.rows }) o)
    by None = refl
    by (Some n) = refl

enter_sent-leaves : (a : Around) (s : Inside) (more : List ℕ) (model : ℕ) (binding : Bound) → enter_sent a (leaving more s) model binding ≡ option_map (leaving more) (enter_sent a s model binding)
enter_sent-leaves a s more model unbound = refl
enter_sent-leaves a s more model (nodes m) = enter_bound-leaves a (record s { place = free }) more model (nodes m)
enter_sent-leaves a s more model (by_bind k) = enter_bound-leaves a (record s { place = free }) more model (by_bind k)

enter_by-leaves : (a : Around) (s : Inside) (more : List ℕ) (model : ℕ) (binding : Bound) (sort : Sort) → is_repeat_sort sort ≡ false
    → enter_by a (leaving more s) model binding sort ≡ option_map (leaving more) (enter_by a s model binding sort)
enter_by-leaves a s more model binding (repeated k start) h = cc h
enter_by-leaves a s more model binding other h = enter_sent-leaves a s more model binding
enter_by-leaves a s more model binding sort h = enter_bound-leaves a s more model binding

pub enter-leaves : (f : Interface) (a : Around) (s : Inside) (more : List ℕ) (e : Element) → is_repeat_sort e.sort ≡ false → enter f a (leaving more s) e ≡ option_map (leaving more) (enter f a s e)
enter-leaves f a s more e h = enter_by-leaves a s more (scope_of f s.model e) e.binding e.sort h

-- ---- into a control or container that binds a node

abbrev bound_inside : ℕ → Place → Bound → Option ℕ → Inside
bound_inside model place binding selected = record { model = model; place = place_below place binding selected; rows = [] }

bound-is : (a : Around) (outer model : ℕ) (place : Place) (binding : Bound) →
    enter_bound a (record { model = outer; place = place; rows = [] }) model binding ≡ option_map (bound_inside model place binding) (first_bound a model binding (focus_in a model place))
bound-is a outer model place unbound = by (focus_in a model place)
  where
    by : (c : Option Focus) → Some (bound_inside model place unbound None) ≡ option_map (bound_inside model place unbound) (first_bound a model unbound c)
    by None = refl
    by (Some c) = refl
bound-is a outer model place (nodes m) = refl
bound-is a outer model place (by_bind k) = refl

control-enter : (f : Interface) (a : Around) (h : Handed) (e : Element) (sort : Sort) → is_control sort ≡ true → is_repeat_sort sort ≡ false
    → enter_by a (inside_of h) (scope_of f h.model e) e.binding sort
    ≡ option_map (bound_inside (scope_of f h.model e) h.place e.binding) (first_bound a (scope_of f h.model e) (own_binding e sort) (focus_in a (scope_of f h.model e) h.place))
control-enter f a h e (repeated k start) c r = cc r
control-enter f a h e other c r = cc c
control-enter f a h e sort c r = bound-is a h.model (scope_of f h.model e) h.place e.binding

pub enter-control : (f : Interface) (a : Around) (marks : ℕ → Marks) (cases : List ℕ) (h : Handed) (n : ℕ) (e : Element) → is_control e.sort ≡ true → is_repeat_sort e.sort ≡ false
    → enter f a (inside_of h) e ≡ option_map (λ selected. inside_of (handed_by f marks cases h n e selected)) (node_in f a h e)
enter-control f a marks cases h n e control row = control-enter f a h e e.sort control row

-- ---- what stands around

-- the containers around are open, and the cases around are selected
abbrev pub around_enabled : Interface → Around → (ℕ → Marks) → List ℕ → List ℕ → ℕ → Option Bool
around_enabled f a marks cases rows n =
    option_map (λ all. list_all (λ b. b) all && is_in_selected f cases n) (each (is_open f a marks rows) (filter (λ m. is_container (element_at f m).sort) (ancestors f n)))

pub record Stands (f : Interface) (a : Around) (marks : ℕ → Marks) (cases : List ℕ) (h : Handed) (n : ℕ) : Type 0 where
  pub given : (more : List ℕ) → inside f a (h.rows ++ more) n ≡ Some (leaving more (inside_of h))
  pub enabled : (more : List ℕ) → around_enabled f a marks cases (h.rows ++ more) n ≡ Some h.is_enabled

module _ (f : Interface) (a : Around) (marks : ℕ → Marks) (cases : List ℕ) (h : Handed) (n : ℕ) (stands : Stands f a marks cases h n) where
  pub inside-is : inside f a h.rows n ≡ Some (inside_of h)
  inside-is = ap (λ rows. inside f a rows n) (sym (append-nil h.rows)) ∙ stands.given []

  context-is : context_of f a h.rows n ≡ Some (context_in f a (inside_of h) (element_at f n))
  context-is = ap (option_map (λ s. context_in f a s (element_at f n))) inside-is

  pub node-is : (more : List ℕ) → node_of f a (h.rows ++ more) n ≡ node_in f a h (element_at f n)
  node-is more =
      let e = element_at f n in
      ap (λ m. option_map (λ s. context_in f a s e) m >>= λ (c : Context). first_bound a c.model (own_binding e e.sort) c.focus) (stands.given more)

  node-here : node_of f a h.rows n ≡ node_in f a h (element_at f n)
  node-here = ap (λ rows. node_of f a rows n) (sym (append-nil h.rows)) ∙ node-is []

  pub open-is : (more : List ℕ) (selected : Option ℕ) → node_in f a h (element_at f n) ≡ Some selected
      → is_open f a marks (h.rows ++ more) n ≡ Some (is_open_by marks (own_binding (element_at f n) (element_at f n).sort) selected)
  open-is more selected bound = let e = element_at f n in ap (option_map (is_open_by marks (own_binding e e.sort))) (node-is more ∙ bound)

  pub rows-are : rows_of f a h.rows n ≡ rows_in f a h (element_at f n)
  rows-are = ap (λ m. m >>= λ (c : Context). all_bound a c.model (element_at f n).binding c.focus) context-is

  -- ---- whether it is enabled

  and-more : (one all selected : Bool) → ((one && all) && selected) ≡ (one && (all && selected))
  and-more true all selected = refl
  and-more false all selected = refl

  enabled-by : (one b selected : Bool) (bs : Option (List Bool)) → option_map (λ all. list_all (λ x. x) all && selected) bs ≡ Some b →
      option_map (λ all. list_all (λ x. x) all && selected) (bs >>= λ ys. Some (one ∷ ys)) ≡ Some (one && b)
  enabled-by one b selected None e = cc e
  enabled-by one b selected (Some bs) e =
      let is : (list_all (λ x. x) bs && selected) ≡ b = cc e in
      ap Some (and-more one (list_all (λ x. x) bs) selected) ∙ ap (λ x. Some (one && x)) is

  enabled-is : (selected : Option ℕ) → node_in f a h (element_at f n) ≡ Some selected
      → is_enabled f a marks cases h.rows n ≡ Some (is_open_by marks (own_binding (element_at f n) (element_at f n).sort) selected && h.is_enabled)
  enabled-is selected bound =
      let e = element_at f n in
      let one = is_open_by marks (own_binding e e.sort) selected in
      let rest_open = each (is_open f a marks (h.rows ++ [])) (filter (λ m. is_container (element_at f m).sort) (ancestors f n)) in
      ap (λ rows. is_enabled f a marks cases rows n) (sym (append-nil h.rows))
      ∙ ap (λ m. option_map (λ all. list_all (λ x. x) all && is_in_selected f cases n) (m >>= λ y. rest_open >>= λ ys. Some (y ∷ ys))) (open-is [] selected bound)
      ∙ enabled-by one h.is_enabled (is_in_selected f cases n) rest_open (stands.enabled [])

  -- ---- its copy

  items-are : (sort : Sort) → items_if f a h.rows n sort ≡ items_for f a (inside_of h) n sort
  items-are (select many is_free) =
      ap (λ m. m >>= λ s. items_within f a s n) inside-is
  items-are sort = refl

  pub copy-is : copy_of f a marks cases h.rows n ≡ (node_in f a h (element_at f n) >>= copy_by f a marks h n (element_at f n))
  copy-is =
      let e = element_at f n in
      ap (λ m. m >>= λ (d : Context). node_of f a h.rows n >>= λ k. value_by a d (own_binding e e.sort) e.sort k >>= λ text. is_enabled f a marks cases h.rows n >>= λ b. items_if f a h.rows n e.sort >>= λ items. Some (copy k text b items)) context-is
      ∙ ap (λ m. m >>= λ k. value_by a c (own_binding e e.sort) e.sort k >>= λ text. is_enabled f a marks cases h.rows n >>= λ b. items_if f a h.rows n e.sort >>= λ items. Some (copy k text b items)) node-here
      ∙ by (node_in f a h e) refl
    where
      c : Context
      c = context_in f a (inside_of h) (element_at f n)

      copy : Option ℕ → Option (List ℕ) → Bool → List Item → Copy
      copy k text enabled items = copy_with n h.rows k text enabled (marks_if marks k) items

      by : (m : Option (Option ℕ)) → node_in f a h (element_at f n) ≡ m
          → (m >>= λ k. value_by a c (own_binding (element_at f n) (element_at f n).sort) (element_at f n).sort k >>= λ text. is_enabled f a marks cases h.rows n >>= λ b. items_if f a h.rows n (element_at f n).sort >>= λ items. Some (copy k text b items))
          ≡ (m >>= copy_by f a marks h n (element_at f n))
      by None bound = refl
      by (Some k) bound =
          let e = element_at f n in
          let one = is_open_by marks (own_binding e e.sort) k in
          ap (λ m. value_by a c (own_binding e e.sort) e.sort k >>= λ text. m >>= λ b. items_if f a h.rows n e.sort >>= λ items. Some (copy k text b items)) (enabled-is k bound)
          ∙ ap (λ m. value_by a c (own_binding e e.sort) e.sort k >>= λ text. m >>= λ items. Some (copy k text (one && h.is_enabled) items)) (items-are e.sort)

  -- ---- what is handed to a child

  module _ (m : ℕ) (way : ancestors f m ≡ n ∷ ancestors f n) where
    abbrev rest_of : List ℕ → Option (List Bool)
    rest_of rows = each (is_open f a marks rows) (filter (λ k. is_container (element_at f k).sort) (ancestors f n))

    -- one more around
    more-around : (rows : List ℕ) (b one : Bool) → (is_container (element_at f n).sort ≡ true → is_open f a marks rows n ≡ Some one) → around_enabled f a marks cases rows n ≡ Some b
        → around_enabled f a marks cases rows m ≡ Some (cond (is_container (element_at f n).sort) one true && (if_case f cases n (element_at f n).sort && b))
    more-around rows b one opens around =
        ap (λ ns. option_map (λ all. list_all (λ x. x) all && list_all (λ k. if_case f cases k (element_at f k).sort) ns) (each (is_open f a marks rows) (filter (λ k. is_container (element_at f k).sort) ns))) way
        ∙ by (is_container (element_at f n).sort) refl
      where
        swap : (x y z : Bool) → (x && (y && z)) ≡ (y && (x && z))
        swap true y z = refl
        swap false true z = refl
        swap false false z = refl

        without : (bs : Option (List Bool)) → option_map (λ all. list_all (λ x. x) all && is_in_selected f cases n) bs ≡ Some b
            → option_map (λ all. list_all (λ x. x) all && (if_case f cases n (element_at f n).sort && is_in_selected f cases n)) bs ≡ Some (if_case f cases n (element_at f n).sort && b)
        without None e = cc e
        without (Some bs) e =
            let is : (list_all (λ x. x) bs && is_in_selected f cases n) ≡ b = cc e in
            ap Some (swap (list_all (λ x. x) bs) (if_case f cases n (element_at f n).sort) (is_in_selected f cases n)) ∙ ap (λ x. Some (if_case f cases n (element_at f n).sort && x)) is

        by : (container : Bool) → is_container (element_at f n).sort ≡ container →
            option_map (λ all. list_all (λ x. x) all && (if_case f cases n (element_at f n).sort && is_in_selected f cases n))
            (each (is_open f a marks rows) (cond container (n ∷ filter (λ k. is_container (element_at f k).sort) (ancestors f n)) (filter (λ k. is_container (element_at f k).sort) (ancestors f n))))
            ≡ Some (cond container one true && (if_case f cases n (element_at f n).sort && b))
        by true is =
            ap (λ x. option_map (λ all. list_all (λ y. y) all && (if_case f cases n (element_at f n).sort && is_in_selected f cases n)) (x >>= λ y. rest_of rows >>= λ ys. Some (y ∷ ys))) (opens is)
            ∙ enabled-by one (if_case f cases n (element_at f n).sort && b) (if_case f cases n (element_at f n).sort && is_in_selected f cases n) (rest_of rows) (without (rest_of rows) around)
        by false is = without (rest_of rows) around

    pub stands-control : (selected : Option ℕ) → is_control (element_at f n).sort ≡ true → is_repeat_sort (element_at f n).sort ≡ false → node_in f a h (element_at f n) ≡ Some selected
        → Stands f a marks cases (handed_by f marks cases h n (element_at f n) selected) m
    stands-control selected control row bound =
        let e = element_at f n in record {
          given = λ more.
              inside-child f a (h.rows ++ more) n m way ∙ ap (λ t. t >>= λ s. enter f a s e) (stands.given more)
              ∙ enter-leaves f a (inside_of h) more e row
              ∙ ap (option_map (leaving more)) (enter-control f a marks cases h n e control row ∙ ap (option_map (λ k. inside_of (handed_by f marks cases h n e k))) bound);
          enabled = λ more. more-around (h.rows ++ more) h.is_enabled (is_open_by marks (own_binding e e.sort) selected) (λ is. open-is more selected bound) (stands.enabled more);
        }

    no-container : (sort : Sort) → is_control sort ≡ false → is_container sort ≡ false
    no-container field e = refl
    no-container (output x) e = refl
    no-container (select x y) e = refl
    no-container sort e = e

    no-case : (sort : Sort) → is_control sort ≡ false → if_case f cases n sort ≡ true
    no-case (one_case b) e = cc e
    no-case sort e = refl

    no-repeat : (sort : Sort) → is_control sort ≡ false → is_repeat_sort sort ≡ false
    no-repeat (repeated k start) e = cc e
    no-repeat sort e = refl

    pub stands-other : (s : Inside) → is_control (element_at f n).sort ≡ false → enter f a (inside_of h) (element_at f n) ≡ Some s → Stands f a marks cases (handed_in h s) m
    stands-other s control entered =
        let e = element_at f n in record {
          given = λ more.
              inside-child f a (h.rows ++ more) n m way ∙ ap (λ t. t >>= λ x. enter f a x e) (stands.given more)
              ∙ enter-leaves f a (inside_of h) more e (no-repeat e.sort control) ∙ ap (option_map (leaving more)) entered;
          enabled = λ more.
              more-around (h.rows ++ more) h.is_enabled true (λ is. cc (is, no-container e.sort control)) (stands.enabled more)
              ∙ ap (λ b. Some (cond b true true && (if_case f cases n e.sort && h.is_enabled))) (no-container e.sort control)
              ∙ ap (λ b. Some (b && h.is_enabled)) (no-case e.sort control);
        }

    -- ---- in a row

    row-enter : (sort : Sort) (set more : List ℕ) (r : ℕ) → is_repeat_sort sort ≡ true → rows_in f a h (element_at f n) ≡ Some set
        → enter_by a (leaving (r ∷ more) (inside_of h)) (scope_of f h.model (element_at f n)) (element_at f n).binding sort ≡ Some (leaving more (inside_of (handed_row f h (element_at f n) set r)))
    row-enter (repeated k start) set more r is rows =
        ap (option_map (λ rs. record { model = scope_of f h.model (element_at f n); place = row_place rs (r ∷ more); rows = rest (r ∷ more) })) rows
    row-enter sort set more r is rows = cc is

    row-open : (sort : Sort) → is_repeat_sort sort ≡ true → (c : Context) → first_bound a c.model (own_binding (element_at f n) sort) c.focus ≡ Some None
    row-open (repeated k start) is c = by c.focus
      where
        by : (x : Option Focus) → first_bound a c.model unbound x ≡ Some None
        by None = refl
        by (Some x) = refl
    row-open sort is c = cc is

    row-binding : (sort : Sort) → is_repeat_sort sort ≡ true → is_open_by marks (own_binding (element_at f n) sort) None ≡ true
    row-binding (repeated k start) is = refl
    row-binding sort is = cc is

    row-case : (sort : Sort) → is_repeat_sort sort ≡ true → (cond (is_container sort) true true && (if_case f cases n sort && h.is_enabled)) ≡ h.is_enabled
    row-case (repeated k start) is = refl
    row-case sort is = cc is

    pub stands-row : (set : List ℕ) (r : ℕ) → is_repeat_sort (element_at f n).sort ≡ true → rows_in f a h (element_at f n) ≡ Some set → Stands f a marks cases (handed_row f h (element_at f n) set r) m
    stands-row set r row rows =
        let e = element_at f n in
        let longer : (more : List ℕ) → (h.rows ++ r ∷ []) ++ more ≡ h.rows ++ r ∷ more = λ more. append_assoc h.rows (r ∷ []) more in record {
          given = λ more.
              ap (λ rs. inside f a rs m) (longer more)
              ∙ inside-child f a (h.rows ++ r ∷ more) n m way ∙ ap (λ t. t >>= λ x. enter f a x e) (stands.given (r ∷ more))
              ∙ row-enter e.sort set more r row rows;
          enabled = λ more.
              ap (λ rs. around_enabled f a marks cases rs m) (longer more)
              ∙ more-around (h.rows ++ r ∷ more) h.is_enabled true
              (λ is. open-is (r ∷ more) None (row-open e.sort row (context_in f a (inside_of h) e)) ∙ ap Some (row-binding e.sort row)) (stands.enabled (r ∷ more))
              ∙ ap Some (row-case e.sort row);
        }

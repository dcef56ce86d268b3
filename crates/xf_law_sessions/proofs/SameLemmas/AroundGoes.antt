-- What surrounds expressions, what bindings select, and where elements are evaluated go with a renumbering.
use Rattle.std.proofs.Common.{◌≡◌, ℕ, suc, ◌+◌, ◌==◌, Bool, true, false, not, cond, List, [], ◌∷◌, map, length, find, Option, Some, None, option_map, refl, ap, ◌∙◌, if◌then◌else◌}
use Rattle.std.specs.Prelude.{⊤}
use Rattle.std.specs.List.{position_or_len, prefix_len}
use Rattle.xf_def_forest.specs.Same.{IsRenumbering, renumbered_visit}
use Rattle.xf_def_forest.specs.StringValue.{string_value}
use Rattle.xf_def_forest.specs.Visit.{has, first_of}
use Rattle.xf_def_forest.proofs.RenumberLaws.{has-renumbered}
use Rattle.xf_def_xpath.specs.Binding.{stand_ins, bound_nodes}
use Rattle.xf_def_xpath.specs.Conversions.{nodes_of}
use Rattle.xf_def_xpath.specs.Given.{first_document}
use Rattle.xf_def_xpath.specs.Setting.{Focus, Meaning, ◌>>=◌, setting_over}
use Rattle.xf_def_xpath.specs.Same.{renumbered_value, renumbered_given, renumbered_focus, renumbered_setting, HasStrings}
use Rattle.xf_def_xpath.proofs.Options.{then-through, map-through}
use Rattle.xf_def_xpath.proofs.RenumberLaws.{nodes-renumbered}
use Rattle.xf_def_xpath.proofs.RenumberValues.{Renumbers, document_of-renumbered}
use Rattle.xf_def_model.specs.Pertinent.{AllOf}
use Rattle.xf_def_model.specs.Rules.{Scope}
use Rattle.xf_def_model.proofs.RenumberBinds.{first_bound-renumbered, bound-renumbered, setting-renumbered, strings-kept}
use Rattle.xf_def_ui.specs.Interface.{Bound, unbound, nodes, by_bind, Sort, other, repeated, Element, Interface}
use Rattle.xf_def_ui.specs.Elements.{element_at, path_to, elements_on}
use Rattle.xf_def_ui.specs.Around.{Around, setting, alone, selected_by, all_bound, stands_for, first_stand, first_bound}
use Rattle.xf_def_ui.specs.Context.{Place, free, lost, on, Inside, focus_in, scope_of, standing_in, row_place, rest, place_of, enter_bound, enter_sent, enter_row, enter_by, enter, entered, Context, inside, context_in, context_of}
use Rattle.xf_def_ui.specs.Rows.{rows_of}
use Rattle.xf_law_sessions.specs.Same.Controls.{GoesAround}
use Rattle.xf_law_sessions.proofs.SameLemmas.ForestGoes.{map-length}

abbrev pub BoundGoes : (ℕ → ℕ) → Bound → Type 0
BoundGoes f unbound = ⊤
BoundGoes f (nodes m) = Renumbers f m
BoundGoes f (by_bind k) = ⊤

abbrev pub renumbered_place : (ℕ → ℕ) → Place → Place
renumbered_place f free = free
renumbered_place f lost = lost
renumbered_place f (on c) = on (renumbered_focus f c)

abbrev pub renumbered_inside : (ℕ → ℕ) → Inside → Inside
renumbered_inside f s = record { model = s.model; place = renumbered_place f s.place; rows = map f s.rows }

abbrev pub renumbered_context : (ℕ → ℕ) → Context → Context
renumbered_context f c = record { model = c.model; focus = option_map (renumbered_focus f) c.focus }

pub first-goes : (f : ℕ → ℕ) (ns : List ℕ) → first_of (map f ns) ≡ option_map f (first_of ns)
first-goes f [] = refl
first-goes f (n ∷ ns) = refl

module _ (f : ℕ → ℕ) (same : IsRenumbering f) where
  pub position-goes : (n : ℕ) (ns : List ℕ) → position_or_len (λ m. m == f n) (map f ns) ≡ position_or_len (λ m. m == n) ns
  position-goes n [] = refl
  position-goes n (m ∷ ms) =
      ap (λ b. cond (not b) (1 + prefix_len (λ k. not (k == f n)) (map f ms)) 0) (same m n) ∙ ap (λ k. cond (not (m == n)) (1 + k) 0) (position-goes n ms)

  pub standing-goes : (n : ℕ) (rows : List ℕ) → standing_in (f n) (map f rows) ≡ renumbered_focus f (standing_in n rows)
  standing-goes n rows =
      ap {A = Bool} {B = Focus} (λ b. if b then record { node = f n; position = suc (position_or_len (λ m. m == f n) (map f rows)); size = length (map f rows) } else alone (f n)) (has-renumbered f same n rows)
      ∙ ap {A = ℕ} {B = Focus} (λ k. if has n rows then record { node = f n; position = suc k; size = length (map f rows) } else alone (f n)) (position-goes n rows)
      ∙ ap {A = ℕ} {B = Focus} (λ k. if has n rows then record { node = f n; position = suc (position_or_len (λ m. m == n) rows); size = k } else alone (f n)) (map-length f rows)
      ∙ by (has n rows)
    where
      by : (b : Bool) → ◌≡◌ {A = Focus} (if b then record { node = f n; position = suc (position_or_len (λ m. m == n) rows); size = length rows } else alone (f n))
          (renumbered_focus f (if b then record { node = n; position = suc (position_or_len (λ m. m == n) rows); size = length rows } else alone n))
      by true = refl
      by false = refl

  row-goes : (rows ns : List ℕ) → row_place (map f rows) (map f ns) ≡ renumbered_place f (row_place rows ns)
  row-goes rows [] = refl
  row-goes rows (n ∷ ns) = ap on (standing-goes n rows)

  rest-goes : (ns : List ℕ) → rest (map f ns) ≡ map f (rest ns)
  rest-goes [] = refl
  rest-goes (n ∷ ns) = refl

  place-goes : (o : Option ℕ) → place_of (option_map f o) ≡ renumbered_place f (place_of o)
  place-goes None = refl
  place-goes (Some n) = refl

  module _ (a b : Around) (g : GoesAround f a b) where
    -- ---- settings

    abbrev pub strings : ℕ → List ℕ
    strings n = string_value n (map (renumbered_visit f) a.all)

    abbrev scope_with : ℕ → Scope
    scope_with model = record { functions = a.functions; given = a.given; model = model; rules = [] }

    pub setting-goes : (model n : ℕ) → setting b model (f n) ≡ renumbered_setting f strings (setting a model n)
    setting-goes model n =
        ap (λ x. setting_over x b.most b.given b.all model (f n)) g.functions
        ∙ ap (λ x. setting_over a.functions x b.given b.all model (f n)) g.most
        ∙ ap (λ x. setting_over a.functions a.most x b.all model (f n)) g.given
        ∙ ap (λ x. setting_over a.functions a.most (renumbered_given f a.given) x model (f n)) g.all
        ∙ setting-renumbered f same a.most (scope_with model) a.all n

    pub strings-go : (model n : ℕ) → HasStrings f strings (setting a model n)
    strings-go model n = strings-kept f same a.most (scope_with model) a.all n

    pub meaning-goes : (m : Meaning) → Renumbers f m → (model : ℕ) (c : Focus)
        → m (setting b model (f c.node)) (renumbered_focus f c) ≡ option_map (renumbered_value f) (m (setting a model c.node) c)
    meaning-goes m h model c =
        ap (λ s. m s (renumbered_focus f c)) (setting-goes model c.node) ∙ h (setting a model c.node) strings (strings-go model c.node) c

    -- ---- what a binding selects

    selected-goes : (m : Meaning) → Renumbers f m → (model : ℕ) (c : Focus) → selected_by b model (renumbered_focus f c) m ≡ option_map (map f) (selected_by a model c m)
    selected-goes m h model c =
        ap (option_map nodes_of) (meaning-goes m h model c)
        ∙ map-through (renumbered_value f) (map f) (m (setting a model c.node) c) nodes_of nodes_of (nodes-renumbered f)

    pub all-bound : (model : ℕ) (binding : Bound) → BoundGoes f binding → (c : Option Focus)
        → all_bound b model binding (option_map (renumbered_focus f) c) ≡ option_map (map f) (all_bound a model binding c)
    all-bound model unbound h None = refl
    all-bound model (nodes m) h None = refl
    all-bound model (by_bind k) h None = refl
    all-bound model unbound h (Some c) = refl
    all-bound model (nodes m) h (Some c) =
        ap (λ all. option_map (bound_nodes all) (selected_by b model (renumbered_focus f c) m)) g.all
        ∙ ap (option_map (bound_nodes (map (renumbered_visit f) a.all))) (selected-goes m h model c)
        ∙ map-through (map f) (map f) (selected_by a model c m) (bound_nodes a.all) (bound_nodes (map (renumbered_visit f) a.all)) (bound-renumbered f same a.all)
    all-bound model (by_bind k) h (Some c) = g.bound k

    stands-goes : (n : ℕ) → stands_for b (f n) ≡ option_map f (stands_for a n)
    stands-goes n =
        ap (λ all. first_of (stand_ins all (find (λ x. x.number == f n) all))) g.all ∙ ap first_of (first_bound-renumbered f same a.all (n ∷ []))
        ∙ first-goes f (stand_ins a.all (find (λ x. x.number == n) a.all))

    first-stand : (ns : List ℕ) → first_stand b (map f ns) ≡ option_map f (first_stand a ns)
    first-stand [] = refl
    first-stand (n ∷ ns) = stands-goes n

    pub first-bound : (model : ℕ) (binding : Bound) → BoundGoes f binding → (c : Option Focus)
        → first_bound b model binding (option_map (renumbered_focus f) c) ≡ option_map (option_map f) (first_bound a model binding c)
    first-bound model unbound h None = refl
    first-bound model (nodes m) h None = refl
    first-bound model (by_bind k) h None = refl
    first-bound model unbound h (Some c) = refl
    first-bound model (nodes m) h (Some c) =
        ap (option_map (first_stand b)) (selected-goes m h model c) ∙ map-through (map f) (option_map f) (selected_by a model c m) (first_stand a) (first_stand b) first-stand
    first-bound model (by_bind k) h (Some c) =
        ap (option_map first_of) (g.bound k) ∙ map-through (map f) (option_map f) (a.bound k) first_of first_of (first-goes f)

    -- ---- from the root of the form down

    free-goes : (o : Option ℕ) → option_map alone (option_map f o) ≡ option_map (renumbered_focus f) (option_map alone o)
    free-goes None = refl
    free-goes (Some n) = refl

    focus-goes : (model : ℕ) (q : Place) → focus_in b model (renumbered_place f q) ≡ option_map (renumbered_focus f) (focus_in a model q)
    focus-goes model free =
        ap (λ x. option_map alone (first_document model x.documents)) g.given
        ∙ ap (option_map alone) (document_of-renumbered f model [] a.given.documents) ∙ free-goes (first_document model a.given.documents)
    focus-goes model lost = refl
    focus-goes model (on c) = refl

    bound-inside : (s : Inside) (model : ℕ) (binding : Bound) → BoundGoes f binding
        → option_map (λ n. record { model = model; place = place_of n; rows = map f s.rows }) (first_bound b model binding (focus_in b model (renumbered_place f s.place)))
        ≡ option_map (renumbered_inside f) (option_map (λ n. record { model = model; place = place_of n; rows = s.rows }) (first_bound a model binding (focus_in a model s.place)))
    bound-inside s model binding h =
        let k : Option ℕ → Inside = λ n. record { model = model; place = place_of n; rows = s.rows } in
        let q : Option ℕ → Inside = λ n. record { model = model; place = place_of n; rows = map f s.rows } in
        ap (λ c. option_map q (first_bound b model binding c)) (focus-goes model s.place)
        ∙ ap (option_map q) (first-bound model binding h (focus_in a model s.place))
        ∙ map-through (option_map f) (renumbered_inside f) (first_bound a model binding (focus_in a model s.place)) k q
        (λ n. ap {A = Place} {B = Inside} (λ x. record { model = model; place = x; rows = map f s.rows }) (place-goes n))

    enter-bound : (s : Inside) (model : ℕ) (binding : Bound) → BoundGoes f binding → enter_bound b (renumbered_inside f s) model binding ≡ option_map (renumbered_inside f) (enter_bound a s model binding)
    enter-bound s model unbound h = refl
    enter-bound s model (nodes m) h = bound-inside s model (nodes m) h
    enter-bound s model (by_bind k) h = bound-inside s model (by_bind k) h

    enter-sent : (s : Inside) (model : ℕ) (binding : Bound) → BoundGoes f binding → enter_sent b (renumbered_inside f s) model binding ≡ option_map (renumbered_inside f) (enter_sent a s model binding)
    enter-sent s model unbound h = refl
    enter-sent s model (nodes m) h = enter-bound (record s { place = free }) model (nodes m) h
    enter-sent s model (by_bind k) h = enter-bound (record s { place = free }) model (by_bind k) h

    enter-row : (s : Inside) (model : ℕ) (binding : Bound) → BoundGoes f binding → enter_row b (renumbered_inside f s) model binding ≡ option_map (renumbered_inside f) (enter_row a s model binding)
    enter-row s model binding h =
        let k : List ℕ → Inside = λ rows. record { model = model; place = row_place rows s.rows; rows = rest s.rows } in
        let q : List ℕ → Inside = λ rows. record { model = model; place = row_place rows (map f s.rows); rows = rest (map f s.rows) } in
        ap (λ c. option_map q (all_bound b model binding c)) (focus-goes model s.place)
        ∙ ap (option_map q) (all-bound model binding h (focus_in a model s.place))
        ∙ map-through (map f) (renumbered_inside f) (all_bound a model binding (focus_in a model s.place)) k q
        (λ rows. ap {A = Place} {B = Inside} (λ x. record { model = model; place = x; rows = rest (map f s.rows) }) (row-goes rows s.rows)
        ∙ ap {A = List ℕ} {B = Inside} (λ x. record { model = model; place = renumbered_place f (row_place rows s.rows); rows = x }) (rest-goes s.rows))

    enter-by : (s : Inside) (model : ℕ) (binding : Bound) (sort : Sort) → BoundGoes f binding
        → enter_by b (renumbered_inside f s) model binding sort ≡ option_map (renumbered_inside f) (enter_by a s model binding sort)
    enter-by s model binding (repeated k start) h = enter-row s model binding h
    enter-by s model binding other h = enter-sent s model binding h
    enter-by s model binding sort h = enter-bound s model binding h

    pub enter-goes : (form : Interface) (s : Inside) (e : Element) → BoundGoes f e.binding → enter form b (renumbered_inside f s) e ≡ option_map (renumbered_inside f) (enter form a s e)
    enter-goes form s e h = enter-by s (scope_of form s.model e) e.binding e.sort h

    entered-goes : (form : Interface) (s : Inside) (es : List Element) → AllOf (λ e. BoundGoes f e.binding) es
        → entered form b (renumbered_inside f s) es ≡ option_map (renumbered_inside f) (entered form a s es)
    entered-goes form s [] h = refl
    entered-goes form s (e ∷ es) h =
        ap (λ o. o >>= λ t. entered form b t es) (enter-goes form s e h.0)
        ∙ then-through (renumbered_inside f) (renumbered_inside f) (enter form a s e) (λ t. entered form a t es) (λ t. entered form b t es) (λ t. entered-goes form t es h.1)

    -- ---- of an element, where all elements have bindings that go

    module _ (form : Interface) (h : (n : ℕ) → BoundGoes f (element_at form n).binding) where
      all-go : (ns : List ℕ) → AllOf (λ (e : Element). BoundGoes f e.binding) (elements_on form ns)
      all-go [] = tt
      all-go (n ∷ ns) = (h n, all-go ns)

      pub inside-goes : (rows : List ℕ) (n : ℕ) → inside form b (map f rows) n ≡ option_map (renumbered_inside f) (inside form a rows n)
      inside-goes rows n = entered-goes form (record { model = 0; place = free; rows = rows }) (elements_on form (path_to form n)) (all-go (path_to form n))

      pub in-goes : (s : Inside) (e : Element) → context_in form b (renumbered_inside f s) e ≡ renumbered_context f (context_in form a s e)
      in-goes s e =
          let model = scope_of form s.model e in
          ap {A = Option Focus} {B = Context} (λ c. record { model = model; focus = c }) (focus-goes model s.place)

      pub context-goes : (rows : List ℕ) (n : ℕ) → context_of form b (map f rows) n ≡ option_map (renumbered_context f) (context_of form a rows n)
      context-goes rows n =
          ap (option_map (λ s. context_in form b s (element_at form n))) (inside-goes rows n)
          ∙ map-through (renumbered_inside f) (renumbered_context f) (inside form a rows n) (λ s. context_in form a s (element_at form n)) (λ s. context_in form b s (element_at form n))
          (λ s. in-goes s (element_at form n))

      pub rows-go : (outer : List ℕ) (r : ℕ) → rows_of form b (map f outer) r ≡ option_map (map f) (rows_of form a outer r)
      rows-go outer r =
          let binding = (element_at form r).binding in
          ap (λ o. o >>= λ c. all_bound b c.model binding c.focus) (context-goes outer r)
          ∙ then-through (renumbered_context f) (map f) (context_of form a outer r) (λ c. all_bound a c.model binding c.focus) (λ c. all_bound b c.model binding c.focus)
          (λ c. all-bound c.model binding (h r) c.focus)

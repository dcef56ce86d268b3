-- What bindings select, and where elements are evaluated, over a part of the data that is made of whole trees: what they do over all data, and in the part.
use Rattle.std.proofs.Common.{◌≡◌, ℕ, suc, ◌==◌, Bool, true, false, not, ◌&&◌, List, [], ◌∷◌, map, length, Option, Some, None, option_map, refl, sym, ap, ◌∙◌}
use Rattle.std.specs.Prelude.{⊤, if◌then◌else◌}
use Rattle.std.specs.List.{position_or_len}
use Rattle.xf_def_forest.specs.StringValue.{string_value}
use Rattle.xf_def_forest.specs.declared.content.Content.{Content}
use Rattle.xf_def_forest.specs.declared.content.Content.TheVariants as content
use Rattle.xf_def_forest.specs.Forest.{is_attribute}
use Rattle.xf_def_forest.specs.Visit.{Visit, has, is_first, first_of}
use Rattle.xf_def_forest.proofs.BackLaws.{and-true}
use Rattle.xf_def_xpath.specs.Asked.{found}
use Rattle.xf_def_xpath.specs.Binding.{as_list, stand_in, stand_ins, bound_nodes}
use Rattle.xf_def_xpath.specs.Conversions.{nodes_of, string_of_node, string_of}
use Rattle.xf_def_values.specs.Bounded.{capped}
use Rattle.xf_def_xpath.specs.Given.{document_of, first_document}
use Rattle.xf_def_xpath.specs.Meaning.{text_worth}
use Rattle.xf_def_xpath.specs.Setting.{Focus, Meaning, ◌>>=◌, in_order}
use Rattle.xf_def_xpath.proofs.VisitFacts.{no, self-same, or-left, found-number}
use Rattle.xf_def_xpath.proofs.ForestVisits.{Each, each-map, each-found}
use Rattle.xf_def_model.specs.Pertinent.{AllOf}
use Rattle.xf_def_model.specs.Rules.{Scope}
use Rattle.xf_def_ui.specs.Interface.{Bound, unbound, nodes, by_bind, Sort, other, repeated, Element, Interface}
use Rattle.xf_def_ui.specs.Elements.{element_at, path_to, elements_on}
use Rattle.xf_def_ui.specs.Around.{Around, setting, alone, selected_by, all_bound, first_stand, first_bound}
use Rattle.xf_def_ui.specs.Context.{Place, free, lost, on, focus_in, scope_of, standing_in, row_place, rest, place_of, enter_bound, enter_sent, enter_row, enter_by, enter, entered, Context, inside, context_in, context_of}
use Rattle.xf_def_ui.specs.Context as context
use Rattle.xf_def_ui.specs.Rows.{rows_of}
use Rattle.xf_law_recalculation.specs.Within.Within.{Whole, kept, over_part}
use Rattle.xf_law_recalculation.proofs.WithinLemmas.Told.{Agree, agree-then, agree-map}
use Rattle.xf_law_recalculation.proofs.WithinLemmas.Within.{In, in-flat, flat-same, ordered-same, ordered-in, found-kept, filter-kept, in-filter}
use Rattle.xf_law_recalculation.proofs.WithinLemmas.Seen.{Sees, Inside, Keeps, string-same}
use Rattle.xf_law_recalculation.proofs.HeldLemmas.Shapes.{string-kept}
use Rattle.xf_law_recalculation.proofs.PartLemmas.Binds.{HasPlaces, setting-small, setting-sees}

-- the same is made of what is the same
pub then-same : {A B : Type 0} {P : A → Type 0} (m n : Option A) (f g : A → Option B) → Agree P m n → ((x : A) → P x → f x ≡ g x) → (m >>= f) ≡ (n >>= g)
then-same m None f g a k = ap (λ o. o >>= f) a.same
then-same m (Some x) f g a k = ap (λ o. o >>= f) a.same ∙ k x a.told

pub map-same : {A B : Type 0} {P : A → Type 0} (m n : Option A) (f g : A → B) → Agree P m n → ((x : A) → P x → f x ≡ g x) → option_map f m ≡ option_map g n
map-same m None f g a k = ap (option_map f) a.same
map-same m (Some x) f g a k = ap (option_map f) a.same ∙ ap Some (k x a.told)

-- ---- what nodes stand for

first-has : (n : ℕ) (ns : List ℕ) → is_first n ns ≡ true → has n ns ≡ true
first-has n [] i = no i
first-has n (m ∷ ms) i = or-left (n == m) (has n ms) i

-- the children of a node of the part are in it
pub children-each : (p : ℕ → Bool) (all : List Visit) → Each (Whole p) all → (n : ℕ) → p n ≡ true → Each (λ y. (is_first n y.above && not (is_attribute y.content)) ≡ true → p y.number ≡ true) all
children-each p all whole n i =
    each-map (Whole p) (λ y. (is_first n y.above && not (is_attribute y.content)) ≡ true → p y.number ≡ true) all
    (λ y w j. sym (w n (first-has n y.above (and-true (is_first n y.above) (not (is_attribute y.content)) j).0)) ∙ i) whole

stand-for : (p : ℕ → Bool) (all : List Visit) → Each (Whole p) all → (x : Visit) → Whole p x → p x.number ≡ true → (c : Content) → (stand_in (kept p all) x c ≡ stand_in all x c) × In p (stand_in all x c)
stand-for p all whole x w i content.Root = (
  ap (map (λ (y : Visit). y.number)) (filter-kept p (λ y. is_first x.number y.above && not (is_attribute y.content)) all (children-each p all whole x.number i)),
  in-filter p (λ y. is_first x.number y.above && not (is_attribute y.content)) all (children-each p all whole x.number i),
)
stand-for p all whole x w i (content.Element name) = (refl, (i, tt))
stand-for p all whole x w i (content.Attribute name text) = (refl, (i, tt))
stand-for p all whole x w i (content.Text text) = (refl, of x.above w)
  where
    of : (ns : List ℕ) → ((n : ℕ) → has n ns ≡ true → p n ≡ p x.number) → In p (as_list (first_of ns))
    of [] j = tt
    of (n ∷ ns) j = (j n (or-left (n == n) (has n ns) (self-same n)) ∙ i, tt)

-- what surrounds the expressions of a form sees a part of the data: what is named in all of them is in the part
pub record IsSeen (p : ℕ → Bool) (a : Around) (small : ℕ → Option (List ℕ)) : Type 0 where
  pub whole : Each (Whole p) a.all
  pub inside : (model : ℕ) (id : List ℕ) (n : ℕ) → document_of model id a.given.documents ≡ Some n → p n ≡ true
  pub quiet : a.given.event ≡ None
  pub bound : (k : ℕ) → Agree (In p) (small k) (a.bound k)

-- the same over the part, where binds select these nodes
abbrev pub over : (ℕ → Bool) → Around → (ℕ → Option (List ℕ)) → Around
over p a small = record { functions = a.functions; most = a.most; given = a.given; all = kept p a.all; bound = small }

module _ (p : ℕ → Bool) where
  abbrev pub BoundKeeps : Bound → Type 0
  BoundKeeps unbound = ⊤
  BoundKeeps (nodes m) = Keeps p m
  BoundKeeps (by_bind k) = ⊤

  abbrev pub OneIn : Option ℕ → Type 0
  OneIn None = ⊤
  OneIn (Some n) = p n ≡ true

  abbrev pub FocusIn : Option Focus → Type 0
  FocusIn None = ⊤
  FocusIn (Some c) = p c.node ≡ true

  abbrev pub PlaceIn : Place → Type 0
  PlaceIn free = ⊤
  PlaceIn lost = ⊤
  PlaceIn (on c) = p c.node ≡ true

  pub record InsideIn (s : context.Inside) : Type 0 where
    pub place : PlaceIn s.place
    pub rows : In p s.rows

  abbrev pub ContextIn : Context → Type 0
  ContextIn c = FocusIn c.focus

  pub first-in : (ns : List ℕ) → In p ns → OneIn (first_of ns)
  first-in [] i = tt
  first-in (n ∷ ns) i = i.0

  pub standing-in : (n : ℕ) (rows : List ℕ) → p n ≡ true → p (standing_in n rows).node ≡ true
  standing-in n rows i = by (has n rows)
    where
      by : (c : Bool) → (λ (x : Focus). p x.node ≡ true) (if c then record { node = n; position = suc (position_or_len (λ m. m == n) rows); size = length rows } else alone n)
      by true = i
      by false = i

  row-in : (rows ns : List ℕ) → In p ns → PlaceIn (row_place rows ns)
  row-in rows [] i = tt
  row-in rows (n ∷ ns) i = standing-in n rows i.0

  rest-in : (ns : List ℕ) → In p ns → In p (rest ns)
  rest-in [] i = tt
  rest-in (n ∷ ns) i = i.1

  place-in : (o : Option ℕ) → OneIn o → PlaceIn (place_of o)
  place-in None i = tt
  place-in (Some n) i = i

  module _ (a : Around) (small : ℕ → Option (List ℕ)) (h : IsSeen p a small) where
    abbrev pub b : Around
    b = over p a small

    -- ---- settings

    abbrev scope_with : ℕ → Scope
    scope_with model = record { functions = a.functions; given = a.given; model = model; rules = [] }

    places : (model : ℕ) → HasPlaces p (scope_with model) a.given.documents
    places model = record { same = λ id. refl; inside = h.inside model; quiet = h.quiet }

    abbrev strings : ℕ → List ℕ
    strings m = string_value m (kept p a.all)

    small-is : (model n : ℕ) → setting b model n ≡ over_part p (setting a model n) strings a.given.documents
    small-is model n = setting-small p (scope_with model) a.given.documents (places model) a.all h.whole a.most n

    sees : (model n : ℕ) → p n ≡ true → Sees p (setting a model n) strings a.given.documents
    sees model n i = setting-sees p (scope_with model) a.given.documents (places model) a.all h.whole a.most n i

    pub meaning-agrees : (m : Meaning) → Keeps p m → (model : ℕ) (c : Focus) → p c.node ≡ true → Agree (Inside p) (m (setting b model c.node) c) (m (setting a model c.node) c)
    meaning-agrees m keeps model c i =
        let k = keeps (setting a model c.node) strings a.given.documents (sees model c.node i) c i in
        record { same = ap (λ s. m s c) (small-is model c.node) ∙ k.same; told = k.told }

    pub node-text : (model n : ℕ) → p n ≡ true → string_of_node (setting b model n) n ≡ string_of_node (setting a model n) n
    node-text model n i = ap (capped a.most) (string-kept p a.all h.whole n i)

    pub worth-same : (m : Meaning) → Keeps p m → (model : ℕ) (c : Focus) → p c.node ≡ true → text_worth m (setting b model c.node) c ≡ text_worth m (setting a model c.node) c
    worth-same m keeps model c i =
        ap (λ s. m s c >>= string_of s) (small-is model c.node)
        ∙ then-same {P = Inside p} (m (over_part p (setting a model c.node) strings a.given.documents) c) (m (setting a model c.node) c)
        (string_of (over_part p (setting a model c.node) strings a.given.documents)) (string_of (setting a model c.node))
        (keeps (setting a model c.node) strings a.given.documents (sees model c.node i) c i)
        (λ v j. string-same p (setting a model c.node) strings a.given.documents (sees model c.node i) v j)

    -- ---- what a binding selects

    stand : (n : ℕ) → p n ≡ true → (stand_ins (kept p a.all) (found n (kept p a.all)) ≡ stand_ins a.all (found n a.all)) × In p (stand_ins a.all (found n a.all))
    stand n i = (ap (stand_ins (kept p a.all)) (found-kept p n a.all i) ∙ (by (found n a.all) refl).0, (by (found n a.all) refl).1)
      where
        by : (m : Option Visit) → found n a.all ≡ m → (stand_ins (kept p a.all) m ≡ stand_ins a.all m) × In p (stand_ins a.all m)
        by None e = (refl, tt)
        by (Some x) e = stand-for p a.all h.whole x (each-found (Whole p) n a.all x h.whole e) (ap p (found-number n a.all x e) ∙ i) x.content

    selected : (m : Meaning) → Keeps p m → (model : ℕ) (c : Focus) → p c.node ≡ true → Agree (In p) (selected_by b model c m) (selected_by a model c m)
    selected m keeps model c i =
        agree-map {P = Inside p} {Q = In p} (m (setting b model c.node) c) (m (setting a model c.node) c) nodes_of nodes_of (meaning-agrees m keeps model c i) (λ v j. refl) (λ v j. j)

    bound-same : (ns : List ℕ) → In p ns → (bound_nodes (kept p a.all) ns ≡ bound_nodes a.all ns) × In p (bound_nodes a.all ns)
    bound-same ns i =
        let inner = in-flat p (λ n. stand_ins a.all (found n a.all)) ns i (λ n j. (stand n j).1) in (
          ap (in_order (kept p a.all)) (flat-same p (λ n. stand_ins (kept p a.all) (found n (kept p a.all))) (λ n. stand_ins a.all (found n a.all)) ns i (λ n j. (stand n j).0))
              ∙ ordered-same p a.all _ inner,
          ordered-in p a.all _ inner,
        )

    pub all-bound : (model : ℕ) (binding : Bound) → BoundKeeps binding → (c : Option Focus) → FocusIn c → Agree (In p) (all_bound b model binding c) (all_bound a model binding c)
    all-bound model unbound keeps None i = record { same = refl; told = tt }
    all-bound model (nodes m) keeps None i = record { same = refl; told = tt }
    all-bound model (by_bind k) keeps None i = record { same = refl; told = tt }
    all-bound model unbound keeps (Some c) i = record { same = refl; told = tt }
    all-bound model (nodes m) keeps (Some c) i =
        agree-map {P = In p} {Q = In p} (selected_by b model c m) (selected_by a model c m) (bound_nodes (kept p a.all)) (bound_nodes a.all) (selected m keeps model c i)
        (λ ns j. (bound-same ns j).0) (λ ns j. (bound-same ns j).1)
    all-bound model (by_bind k) keeps (Some c) i = h.bound k

    first-same : (ns : List ℕ) → In p ns → first_stand b ns ≡ first_stand a ns
    first-same [] i = refl
    first-same (n ∷ ns) i = ap first_of (stand n i.0).0

    first-told : (ns : List ℕ) → In p ns → OneIn (first_stand a ns)
    first-told [] i = tt
    first-told (n ∷ ns) i = first-in (stand_ins a.all (found n a.all)) (stand n i.0).1

    pub first-bound : (model : ℕ) (binding : Bound) → BoundKeeps binding → (c : Option Focus) → FocusIn c → Agree OneIn (first_bound b model binding c) (first_bound a model binding c)
    first-bound model unbound keeps None i = record { same = refl; told = tt }
    first-bound model (nodes m) keeps None i = record { same = refl; told = tt }
    first-bound model (by_bind k) keeps None i = record { same = refl; told = tt }
    first-bound model unbound keeps (Some c) i = record { same = refl; told = tt }
    first-bound model (nodes m) keeps (Some c) i =
        agree-map {P = In p} {Q = OneIn} (selected_by b model c m) (selected_by a model c m) (first_stand b) (first_stand a) (selected m keeps model c i) first-same first-told
    first-bound model (by_bind k) keeps (Some c) i = agree-map {P = In p} {Q = OneIn} (small k) (a.bound k) first_of first_of (h.bound k) (λ ns j. refl) first-in

    -- ---- from the root of the form down

    pub focus-in : (model : ℕ) (q : Place) → PlaceIn q → FocusIn (focus_in a model q)
    focus-in model free i = by (first_document model a.given.documents) refl
      where
        by : (o : Option ℕ) → first_document model a.given.documents ≡ o → FocusIn (option_map alone o)
        by None e = tt
        by (Some n) e = h.inside model [] n e
    focus-in model lost i = tt
    focus-in model (on c) i = i

    bound-inside : (s : context.Inside) → InsideIn s → (model : ℕ) (binding : Bound) → BoundKeeps binding
        → Agree InsideIn (option_map (λ n. record { model = model; place = place_of n; rows = s.rows }) (first_bound b model binding (focus_in b model s.place)))
        (option_map (λ n. record { model = model; place = place_of n; rows = s.rows }) (first_bound a model binding (focus_in a model s.place)))
    bound-inside s i model binding keeps =
        let k : Option ℕ → context.Inside = λ n. record { model = model; place = place_of n; rows = s.rows } in
        agree-map {P = OneIn} {Q = InsideIn} (first_bound b model binding (focus_in a model s.place)) (first_bound a model binding (focus_in a model s.place)) k k
        (first-bound model binding keeps (focus_in a model s.place) (focus-in model s.place i.place)) (λ n j. refl) (λ n j. record { place = place-in n j; rows = i.rows })

    enter-bound : (s : context.Inside) → InsideIn s → (model : ℕ) (binding : Bound) → BoundKeeps binding → Agree InsideIn (enter_bound b s model binding) (enter_bound a s model binding)
    enter-bound s i model unbound keeps = record { same = refl; told = record { place = i.place; rows = i.rows } }
    enter-bound s i model (nodes m) keeps = bound-inside s i model (nodes m) keeps
    enter-bound s i model (by_bind k) keeps = bound-inside s i model (by_bind k) keeps

    enter-sent : (s : context.Inside) → InsideIn s → (model : ℕ) (binding : Bound) → BoundKeeps binding → Agree InsideIn (enter_sent b s model binding) (enter_sent a s model binding)
    enter-sent s i model unbound keeps = record { same = refl; told = record { place = i.place; rows = i.rows } }
    enter-sent s i model (nodes m) keeps = enter-bound (record s { place = free }) (record { place = tt; rows = i.rows }) model (nodes m) keeps
    enter-sent s i model (by_bind k) keeps = enter-bound (record s { place = free }) (record { place = tt; rows = i.rows }) model (by_bind k) keeps

    enter-row : (s : context.Inside) → InsideIn s → (model : ℕ) (binding : Bound) → BoundKeeps binding → Agree InsideIn (enter_row b s model binding) (enter_row a s model binding)
    enter-row s i model binding keeps =
        let k : List ℕ → context.Inside = λ rows. record { model = model; place = row_place rows s.rows; rows = rest s.rows } in
        agree-map {P = In p} {Q = InsideIn} (all_bound b model binding (focus_in a model s.place)) (all_bound a model binding (focus_in a model s.place)) k k
        (all-bound model binding keeps (focus_in a model s.place) (focus-in model s.place i.place)) (λ rows j. refl) (λ rows j. record { place = row-in rows s.rows i.rows; rows = rest-in s.rows i.rows })

    enter-by : (s : context.Inside) → InsideIn s → (model : ℕ) (binding : Bound) (sort : Sort) → BoundKeeps binding → Agree InsideIn (enter_by b s model binding sort) (enter_by a s model binding sort)
    enter-by s i model binding (repeated k start) keeps = enter-row s i model binding keeps
    enter-by s i model binding other keeps = enter-sent s i model binding keeps
    enter-by s i model binding sort keeps = enter-bound s i model binding keeps

    pub enter-agrees : (form : Interface) (s : context.Inside) → InsideIn s → (e : Element) → BoundKeeps e.binding → Agree InsideIn (enter form b s e) (enter form a s e)
    enter-agrees form s i e keeps = enter-by s i (scope_of form s.model e) e.binding e.sort keeps

    entered-agrees : (form : Interface) (s : context.Inside) → InsideIn s → (es : List Element) → AllOf (λ e. BoundKeeps e.binding) es → Agree InsideIn (entered form b s es) (entered form a s es)
    entered-agrees form s i [] keeps = record { same = refl; told = i }
    entered-agrees form s i (e ∷ es) keeps =
        agree-then {P = InsideIn} {Q = InsideIn} (enter form b s e) (enter form a s e) (λ t. entered form b t es) (λ t. entered form a t es)
        (enter-agrees form s i e keeps.0) (λ t j. entered-agrees form t j es keeps.1)

    -- ---- of an element, where the bindings of all elements are expressions

    module _ (form : Interface) (keeps : (n : ℕ) → BoundKeeps (element_at form n).binding) where
      all-keep : (ns : List ℕ) → AllOf (λ (e : Element). BoundKeeps e.binding) (elements_on form ns)
      all-keep [] = tt
      all-keep (n ∷ ns) = (keeps n, all-keep ns)

      pub inside-agrees : (rows : List ℕ) → In p rows → (n : ℕ) → Agree InsideIn (inside form b rows n) (inside form a rows n)
      inside-agrees rows i n =
          entered-agrees form (record { model = 0; place = free; rows = rows }) (record { place = tt; rows = i }) (elements_on form (path_to form n)) (all-keep (path_to form n))

      pub context-in : (s : context.Inside) → InsideIn s → (e : Element) → ContextIn (context_in form a s e)
      context-in s i e = focus-in (scope_of form s.model e) s.place i.place

      pub context-agrees : (rows : List ℕ) → In p rows → (n : ℕ) → Agree ContextIn (context_of form b rows n) (context_of form a rows n)
      context-agrees rows i n =
          agree-map {P = InsideIn} {Q = ContextIn} (inside form b rows n) (inside form a rows n) (λ s. context_in form b s (element_at form n)) (λ s. context_in form a s (element_at form n))
          (inside-agrees rows i n) (λ s j. refl) (λ s j. context-in s j (element_at form n))

      pub rows-agree : (outer : List ℕ) → In p outer → (r : ℕ) → Agree (In p) (rows_of form b outer r) (rows_of form a outer r)
      rows-agree outer i r =
          let binding = (element_at form r).binding in
          agree-then {P = ContextIn} {Q = In p} (context_of form b outer r) (context_of form a outer r) (λ c. all_bound b c.model binding c.focus) (λ c. all_bound a c.model binding c.focus)
          (context-agrees outer i r) (λ c j. all-bound c.model binding (keeps r) c.focus j)

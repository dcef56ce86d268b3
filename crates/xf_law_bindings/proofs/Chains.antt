-- What an element binds, with what the elements around give it, is the same over two forests of one shape.
use Rattle.std.proofs.Common.{◌≡◌, ℕ, List, [], ◌∷◌, ◌++◌, Option, Some, None, option_map, refl, sym, ap, ◌∙◌, subst}
use Rattle.std.specs.Prelude.{reverse}
use Rattle.std.proofs.lemmas.List.{reverse-append}
use Rattle.xf_def_forest.specs.Forest.{Forest}
use Rattle.xf_def_forest.specs.Visit.{Visit, visits}
use Rattle.xf_def_values.specs.Functions.{Functions}
use Rattle.xf_def_xpath.specs.Given.{Given, first_document}
use Rattle.xf_def_xpath.specs.Setting.{Focus, ◌>>=◌}
use Rattle.xf_def_xpath.proofs.VisitFacts.{no, none-some, some-same}
use Rattle.xf_def_ui.specs.Around.{Around, alone, first_bound}
use Rattle.xf_def_ui.specs.Context.{Context, Inside, Place, free, lost, on, context_in, enter, enter_bound, enter_by, entered, focus_in, inside, place_of, scope_of}
use Rattle.xf_def_ui.specs.Copies.{node_of, own_binding}
use Rattle.xf_def_ui.specs.Elements.{ancestors, element_at, elements_on, is_repeat_sort, path_to}
use Rattle.xf_def_ui.specs.Interface.{Bound, unbound, nodes, by_bind, Element, Interface, Sort, other, repeated}
use Rattle.xf_law_bindings.specs.Fixed.{AllFixed, IsFixed, IsFixedElement}
use Rattle.xf_law_bindings.specs.OneShape.{HaveOneShape, NodeStands, NodeStays, over}
use Rattle.xf_law_bindings.proofs.Standing.{IsIn}
use Rattle.xf_law_bindings.proofs.Bindings.{InFocus, bound-in, bound-same, in-second}

-- ---- elements from the root of the form down

fixed-behind : (f : Interface) (ns : List ℕ) (n : ℕ) → AllFixed f ns → IsFixedElement (element_at f n) → AllFixed f (ns ++ n ∷ [])
fixed-behind f [] n h e = (e, tt)
fixed-behind f (m ∷ ms) n h e = (h.0, fixed-behind f ms n h.1 e)

fixed-reversed : (f : Interface) (ns : List ℕ) → AllFixed f ns → AllFixed f (reverse ns)
fixed-reversed f [] h = tt
fixed-reversed f (n ∷ ns) h = subst (AllFixed f) (sym (reverse-append (n ∷ []) ns)) (fixed-behind f (reverse ns) n (fixed-reversed f ns h.1) h.0)

module _ (functions : Functions) (most : Option ℕ) (given : Given) (first second : Forest) (h : HaveOneShape functions most given first second) (bound others : ℕ → Option (List ℕ)) where
  abbrev V : List Visit
  V = visits first.nodes

  abbrev a : Around
  a = over functions most given bound first.nodes

  abbrev b : Around
  b = over functions most given others second.nodes

  abbrev InContext : Option Focus → Type 0
  InContext = InFocus functions most given first second h bound others

  -- the node that is given is no text
  abbrev InPlace : Place → Type 0
  InPlace free = Unit {0}
  InPlace lost = Unit {0}
  InPlace (on c) = IsIn V c.node

  focus-in : (model : ℕ) (p : Place) → InPlace p → InContext (focus_in a model p)
  focus-in model free i = by (first_document model given.documents) refl
    where
      by : (o : Option ℕ) → first_document model given.documents ≡ o → InContext (option_map alone o)
      by None e = tt
      by (Some n) e = h.documents model [] n e
  focus-in model lost i = tt
  focus-in model (on c) i = i

  -- ---- what an element gives to what stands in it

  abbrev made : ℕ → Option ℕ → Inside
  made model n = record { model = model; place = place_of n; rows = [] }

  record Gives (m n : Option Inside) : Type 0 where
    same : m ≡ n
    stands : (s : Inside) → m ≡ Some s → (s.rows ≡ []) × InPlace s.place

  taken : (outer model : ℕ) (p : Place) (binding : Bound) → IsFixed binding → InPlace p →
      (first_bound a model binding (focus_in a model p) ≡ first_bound b model binding (focus_in b model p))
      × ((k : ℕ) → first_bound a model binding (focus_in a model p) ≡ Some (Some k) → IsIn V k)
  taken outer model p binding f i = (
    bound-same functions most given first second h bound others model binding (focus_in a model p) f (focus-in model p i) ∙ ap (first_bound b model binding) (same-focus p),
    λ k e. bound-in functions most given first second h bound others model binding (focus_in a model p) k f (focus-in model p i) e,
  )
    where
      same-focus : (q : Place) → focus_in a model q ≡ focus_in b model q
      same-focus free = refl
      same-focus lost = refl
      same-focus (on c) = refl

  made-stands : (model : ℕ) (m : Option (Option ℕ)) → ((k : ℕ) → m ≡ Some (Some k) → IsIn V k) → (s : Inside) → option_map (made model) m ≡ Some s → (s.rows ≡ []) × InPlace s.place
  made-stands model None i s e = none-some e
  made-stands model (Some None) i s e = subst (λ (t : Inside). (t.rows ≡ []) × InPlace t.place) (some-same e) (refl, tt)
  made-stands model (Some (Some k)) i s e = subst (λ (t : Inside). (t.rows ≡ []) × InPlace t.place) (some-same e) (refl, i k refl)

  by-bound : (outer model : ℕ) (p : Place) (binding : Bound) → IsFixed binding → InPlace p →
      Gives (enter_bound a (record { model = outer; place = p; rows = [] }) model binding) (enter_bound b (record { model = outer; place = p; rows = [] }) model binding)
  by-bound outer model p unbound f i = record { same = refl; stands = λ s e. subst (λ (t : Inside). (t.rows ≡ []) × InPlace t.place) (some-same e) (refl, i) }
  by-bound outer model p (nodes m) f i =
      let t = taken outer model p (nodes m) f i in
      record { same = ap (option_map (made model)) t.0; stands = made-stands model (first_bound a model (nodes m) (focus_in a model p)) t.1 }
  by-bound outer model p (by_bind k) f i = absurd f

  by-sent : (outer model : ℕ) (p : Place) (binding : Bound) → IsFixed binding → InPlace p →
      Gives (enter_by a (record { model = outer; place = p; rows = [] }) model binding other) (enter_by b (record { model = outer; place = p; rows = [] }) model binding other)
  by-sent outer model p unbound f i = record { same = refl; stands = λ s e. subst (λ (t : Inside). (t.rows ≡ []) × InPlace t.place) (some-same e) (refl, i) }
  by-sent outer model p (nodes m) f i =
      let t = taken outer model free (nodes m) f tt in
      record { same = ap (option_map (made model)) t.0; stands = made-stands model (first_bound a model (nodes m) (focus_in a model free)) t.1 }
  by-sent outer model p (by_bind k) f i = absurd f

  by-sort : (outer model : ℕ) (p : Place) (e : Element) (sort : Sort) → e.sort ≡ sort → IsFixedElement e → InPlace p →
      Gives (enter_by a (record { model = outer; place = p; rows = [] }) model e.binding sort) (enter_by b (record { model = outer; place = p; rows = [] }) model e.binding sort)
  by-sort outer model p e (repeated k start) s f i = no (sym f.once ∙ ap is_repeat_sort s)
  by-sort outer model p e other s f i = by-sent outer model p e.binding f.bound i
  by-sort outer model p e sort s f i = by-bound outer model p e.binding f.bound i

  one-step : (f : Interface) (s : Inside) (e : Element) → s.rows ≡ [] → IsFixedElement e → InPlace s.place → Gives (enter f a s e) (enter f b s e)
  one-step f s e none fixed i =
      subst (λ rows. Gives (enter f a (record { model = s.model; place = s.place; rows = rows }) e) (enter f b (record { model = s.model; place = s.place; rows = rows }) e)) (sym none)
      (by-sort s.model (scope_of f s.model e) s.place e e.sort refl fixed i)

  all-steps : (f : Interface) (s : Inside) (ns : List ℕ) → s.rows ≡ [] → AllFixed f ns → InPlace s.place → Gives (entered f a s (elements_on f ns)) (entered f b s (elements_on f ns))
  all-steps f s [] none fixed i = record { same = refl; stands = λ t e. subst (λ (u : Inside). (u.rows ≡ []) × InPlace u.place) (some-same e) (none, i) }
  all-steps f s (n ∷ ns) none fixed i =
      let one = one-step f s (element_at f n) none fixed.0 i in
      by (λ t rows at. all-steps f t ns rows fixed.1 at) (enter f a s (element_at f n)) (enter f b s (element_at f n)) one.same one.stands
    where
      by : ((t : Inside) → t.rows ≡ [] → InPlace t.place → Gives (entered f a t (elements_on f ns)) (entered f b t (elements_on f ns))) →
          (m k : Option Inside) → m ≡ k → ((t : Inside) → m ≡ Some t → (t.rows ≡ []) × InPlace t.place) →
          Gives (m >>= λ t. entered f a t (elements_on f ns)) (k >>= λ t. entered f b t (elements_on f ns))
      by rest m None same stands = subst (λ x. Gives (x >>= λ t. entered f a t (elements_on f ns)) None) (sym same) (record { same = refl; stands = λ t e. none-some e })
      by rest m (Some t) same stands =
          let at = stands t same in
          subst (λ x. Gives (x >>= λ u. entered f a u (elements_on f ns)) (entered f b t (elements_on f ns))) (sym same) (rest t at.0 at.1)

  -- ---- what it binds

  abbrev Binds : Option (Option ℕ) → Option (Option ℕ) → Type 0
  Binds m n = (m ≡ n) × ((k : ℕ) → m ≡ Some (Some k) → IsIn V k)

  own-fixed : (e : Element) (sort : Sort) → IsFixed e.binding → IsFixed (own_binding e sort)
  own-fixed e (repeated k start) f = tt
  own-fixed e sort f = f

  pub binds : (f : Interface) (n : ℕ) → AllFixed f (n ∷ ancestors f n) → Binds (node_of f a [] n) (node_of f b [] n)
  binds f n fixed =
      let steps = all-steps f (record { model = 0; place = free; rows = [] }) (path_to f n) refl (fixed-reversed f (ancestors f n) fixed.1) tt in
      by (inside f a [] n) (inside f b [] n) steps.same steps.stands
    where
      e : Element
      e = element_at f n

      by : (m k : Option Inside) → m ≡ k → ((t : Inside) → m ≡ Some t → (t.rows ≡ []) × InPlace t.place) →
          Binds (option_map (λ s. context_in f a s (element_at f n)) m >>= λ (c : Context). first_bound a c.model (own_binding (element_at f n) (element_at f n).sort) c.focus)
          (option_map (λ s. context_in f b s (element_at f n)) k >>= λ (c : Context). first_bound b c.model (own_binding (element_at f n) (element_at f n).sort) c.focus)
      by m None same stands =
          subst (λ x. Binds (option_map (λ s. context_in f a s (element_at f n)) x >>= λ (c : Context). first_bound a c.model (own_binding (element_at f n) (element_at f n).sort) c.focus) None) (sym same) (refl, λ k i. none-some i)
      by m (Some t) same stands =
          let model = scope_of f t.model (element_at f n) in
          subst (λ x. Binds (option_map (λ s. context_in f a s (element_at f n)) x >>= λ (c : Context). first_bound a c.model (own_binding (element_at f n) (element_at f n).sort) c.focus)
          (first_bound b model (own_binding (element_at f n) (element_at f n).sort) (focus_in b model t.place))) (sym same)
          (taken t.model model t.place (own_binding (element_at f n) (element_at f n).sort) (own-fixed (element_at f n) (element_at f n).sort fixed.0.bound) (stands t same).1)

pub node_stays : NodeStays
node_stays functions most given first second bound others f n h fixed = (binds functions most given first second h bound others f n fixed).0

pub node_stands : NodeStands
node_stands functions most given first second bound f n k h fixed e = in-second functions most given first second h k ((binds functions most given first second h bound bound f n fixed).1 k e)

-- What an element gives to what stands in it.
use Rattle.std.proofs.Common.{◌≡◌, ℕ, suc, true, false, List, [], ◌∷◌, ◌++◌, Option, Some, None, option_map, reverse, refl, sym, ap, ◌∙◌}
use Rattle.std.specs.Prelude.{unwrap_or}
use Rattle.std.proofs.lemmas.List.{map-append, reverse-append}
use Rattle.xf_def_xpath.specs.Setting.{◌>>=◌}
use Rattle.xf_def_ui.specs.Around.{Around, first_bound}
use Rattle.xf_def_ui.specs.Context.{Inside, Place, free, enter, enter_bound, enter_by, enter_row, entered, focus_in, named_model, place_of}
use Rattle.xf_def_ui.specs.Elements.{above, element_at, elements_on, is_repeat_sort}
use Rattle.xf_def_ui.specs.Interface.{Bound, unbound, nodes, by_bind, Element, Interface, Sort, host, other, group, switch, one_case, repeated, field, output, select, item, itemset, choices, label, item_value, inline, action}
use Rattle.xf_eval_context.specs.Inside.{bound_place, place_for}

module _ (a : Around) (m model : ℕ) (place : Place) (rows : List ℕ) where
  abbrev pub outer : Inside
  outer = record { model = m; place = place; rows = rows }

  -- with this place
  abbrev pub at_place : Place → Inside
  at_place p = record { model = model; place = p; rows = rows }

  found-same : (o : Option (Option ℕ)) → option_map (λ n. at_place (place_of n)) o ≡ option_map at_place (option_map place_of o)
  found-same None = refl
  found-same (Some n) = refl

  bound-same : (b : Bound) → enter_bound a outer model b ≡ option_map at_place (bound_place a model place place b)
  bound-same unbound = refl
  bound-same (nodes n) = found-same (first_bound a model (nodes n) (focus_in a model place))
  bound-same (by_bind k) = found-same (first_bound a model (by_bind k) (focus_in a model place))

  sent-same : (b : Bound) → enter_by a outer model b other ≡ option_map at_place (bound_place a model place (place_for other place) b)
  sent-same unbound = refl
  sent-same (nodes n) = found-same (first_bound a model (nodes n) (focus_in a model free))
  sent-same (by_bind k) = found-same (first_bound a model (by_bind k) (focus_in a model free))

  enter-sort : (b : Bound) (s : Sort) → is_repeat_sort s ≡ false → enter_by a outer model b s ≡ option_map at_place (bound_place a model place (place_for s place) b)
  enter-sort b other h = sent-same b
  enter-sort b (repeated k start) h = cc h
  enter-sort b host h = bound-same b
  enter-sort b group h = bound-same b
  enter-sort b (switch k) h = bound-same b
  enter-sort b (one_case c) h = bound-same b
  enter-sort b field h = bound-same b
  enter-sort b (output e) h = bound-same b
  enter-sort b (select c d) h = bound-same b
  enter-sort b item h = bound-same b
  enter-sort b itemset h = bound-same b
  enter-sort b choices h = bound-same b
  enter-sort b label h = bound-same b
  enter-sort b (item_value e) h = bound-same b
  enter-sort b (inline e) h = bound-same b
  enter-sort b (action e) h = bound-same b

  enter-repeat : (b : Bound) (s : Sort) → is_repeat_sort s ≡ true → enter_by a outer model b s ≡ enter_row a outer model b
  enter-repeat b (repeated k start) h = refl
  enter-repeat b other h = cc h
  enter-repeat b host h = cc h
  enter-repeat b group h = cc h
  enter-repeat b (switch k) h = cc h
  enter-repeat b (one_case c) h = cc h
  enter-repeat b field h = cc h
  enter-repeat b (output e) h = cc h
  enter-repeat b (select c d) h = cc h
  enter-repeat b item h = cc h
  enter-repeat b itemset h = cc h
  enter-repeat b choices h = cc h
  enter-repeat b label h = cc h
  enter-repeat b (item_value e) h = cc h
  enter-repeat b (inline e) h = cc h
  enter-repeat b (action e) h = cc h

  -- ---- an element whose model and binding were found

  module _ (f : Interface) (e : Element) (b : Bound) (scoped : model ≡ unwrap_or (named_model f b e.model) m) (binds : b ≡ e.binding) where
    in-scope : enter f a outer e ≡ enter_by a outer model e.binding e.sort
    in-scope = sym (ap (λ k. enter_by a outer k e.binding e.sort) (scoped ∙ ap (λ x. unwrap_or (named_model f x e.model) m) binds))

    -- one that is no repeat
    pub enter-placed : (from : Place) → from ≡ place_for e.sort place → is_repeat_sort e.sort ≡ false → enter f a outer e ≡ option_map at_place (bound_place a model place from b)
    enter-placed from is h =
        in-scope ∙ enter-sort e.binding e.sort h
        ∙ ap (λ q. option_map at_place (bound_place a model place q e.binding)) (sym is)
        ∙ ap (λ x. option_map at_place (bound_place a model place from x)) (sym binds)

    -- a repeat
    pub enter-rows : is_repeat_sort e.sort ≡ true → enter f a outer e ≡ enter_row a outer model b
    enter-rows h = in-scope ∙ enter-repeat e.binding e.sort h ∙ ap (enter_row a outer model) (sym binds)

reverse-above : (f : Interface) (most k n : ℕ) → most ≡ suc k → reverse (above most f (Some n)) ≡ reverse (above k f (element_at f n).parent) ++ n ∷ []
reverse-above f most k n h = ap (λ d. reverse (above d f (Some n))) h ∙ reverse-append (n ∷ []) (above k f (element_at f n).parent)

bind-some : {A : Type 0} (o : Option A) → (o >>= λ x. Some x) ≡ o
bind-some None = refl
bind-some (Some x) = refl

entered-more : (f : Interface) (a : Around) (s : Inside) (es : List Element) (e : Element) → entered f a s (es ++ e ∷ []) ≡ (entered f a s es >>= λ t. enter f a t e)
entered-more f a s [] e = bind-some (enter f a s e)
entered-more f a s (x ∷ es) e = by (λ t. entered-more f a t es e) (enter f a s x)
  where
    by : ((t : Inside) → entered f a t (es ++ e ∷ []) ≡ (entered f a t es >>= λ u. enter f a u e)) → (m : Option Inside) → (m >>= λ t. entered f a t (es ++ e ∷ [])) ≡ ((m >>= λ t. entered f a t es) >>= λ t. enter f a t e)
    by h None = refl
    by h (Some t) = h t

pub inside-more : (f : Interface) (a : Around) (s : Inside) (most k n : ℕ) (parent : Option ℕ) → most ≡ suc k → parent ≡ Some n
    → entered f a s (elements_on f (reverse (above most f parent)))
    ≡ (entered f a s (elements_on f (reverse (above k f (element_at f n).parent))) >>= λ t. enter f a t (element_at f n))
inside-more f a s most k n parent e h =
    ap (λ p. entered f a s (elements_on f (reverse (above most f p)))) h
    ∙ ap (λ ns. entered f a s (elements_on f ns)) (reverse-above f most k n e)
    ∙ ap (entered f a s) (map-append (element_at f) (reverse (above k f (element_at f n).parent)) (n ∷ []))
    ∙ entered-more f a s (elements_on f (reverse (above k f (element_at f n).parent))) (element_at f n)

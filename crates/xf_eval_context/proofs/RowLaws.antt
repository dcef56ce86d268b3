-- Where no element is a repeat, rows that are given go through to what stands inside, and no text depends on them.
use Rattle.std.proofs.Common.{◌≡◌, ℕ, false, List, [], ◌∷◌, Option, Some, None, option_map, refl, ap, ◌∙◌}
use Rattle.std.specs.List.{flat_map}
use Rattle.xf_def_xpath.specs.Setting.{Meaning, each}
use Rattle.xf_def_xpath.specs.Setting as option
use Rattle.xf_def_ui.specs.Around.{Around}
use Rattle.xf_def_ui.specs.Context.{Inside, enter, enter_bound, enter_by, enter_sent, entered, free, inside, place_of, scope_of}
use Rattle.xf_def_ui.specs.Elements.{element_at, elements_on, is_repeat, is_repeat_sort, path_to}
use Rattle.xf_def_ui.specs.Interface.{Bound, unbound, nodes, by_bind, Element, Interface, Sort, host, other, group, switch, one_case, repeated, field, output, select, item, itemset, choices, label, item_value, inline, action}
use Rattle.xf_def_ui.specs.Labels.{Piece, joined_text, piece_text, pieces_of, printed, text_by, text_in, words}

abbrev pub with_rows : List ℕ → Inside → Inside
with_rows rows s = record s { rows = rows }

abbrev flat : List (List ℕ) → List ℕ
flat texts = flat_map (λ text. text) texts

module _ (a : Around) (rows : List ℕ) where
  bound-rows : (s : Inside) (model : ℕ) (binding : Bound) → enter_bound a (with_rows rows s) model binding ≡ option_map (with_rows rows) (enter_bound a s model binding)
  bound-rows s model unbound = refl
  bound-rows s model (nodes m) = by _
    where
      by : (o : Option (Option ℕ)) → option_map (λ n. record { model = model; place = place_of n; rows = rows }) o ≡ option_map (with_rows rows) (option_map (λ n. record { model = model; place = place_of n; rows = s.rows }) o)
      by None = refl
      by (Some n) = refl
  bound-rows s model (by_bind k) = by _
    where
      by : (o : Option (Option ℕ)) → option_map (λ n. record { model = model; place = place_of n; rows = rows }) o ≡ option_map (with_rows rows) (option_map (λ n. record { model = model; place = place_of n; rows = s.rows }) o)
      by None = refl
      by (Some n) = refl

  sent-rows : (s : Inside) (model : ℕ) (binding : Bound) → enter_sent a (with_rows rows s) model binding ≡ option_map (with_rows rows) (enter_sent a s model binding)
  sent-rows s model unbound = refl
  sent-rows s model (nodes m) = bound-rows (record s { place = free }) model (nodes m)
  sent-rows s model (by_bind k) = bound-rows (record s { place = free }) model (by_bind k)

  by-rows : (s : Inside) (model : ℕ) (binding : Bound) (sort : Sort) → is_repeat_sort sort ≡ false → enter_by a (with_rows rows s) model binding sort ≡ option_map (with_rows rows) (enter_by a s model binding sort)
  by-rows s model binding (repeated k i) h = cc h
  by-rows s model binding other h = sent-rows s model binding
  by-rows s model binding host h = bound-rows s model binding
  by-rows s model binding group h = bound-rows s model binding
  by-rows s model binding (switch k) h = bound-rows s model binding
  by-rows s model binding (one_case b) h = bound-rows s model binding
  by-rows s model binding field h = bound-rows s model binding
  by-rows s model binding (output x) h = bound-rows s model binding
  by-rows s model binding (select x y) h = bound-rows s model binding
  by-rows s model binding item h = bound-rows s model binding
  by-rows s model binding itemset h = bound-rows s model binding
  by-rows s model binding choices h = bound-rows s model binding
  by-rows s model binding label h = bound-rows s model binding
  by-rows s model binding (item_value x) h = bound-rows s model binding
  by-rows s model binding (inline x) h = bound-rows s model binding
  by-rows s model binding (action x) h = bound-rows s model binding

  module _ (f : Interface) where
    enter-rows : (s : Inside) (e : Element) → is_repeat_sort e.sort ≡ false → enter f a (with_rows rows s) e ≡ option_map (with_rows rows) (enter f a s e)
    enter-rows s e h = by-rows s (scope_of f s.model e) e.binding e.sort h

    entered-rows : ((n : ℕ) → is_repeat f n ≡ false) → (s : Inside) (ns : List ℕ) → entered f a (with_rows rows s) (elements_on f ns) ≡ option_map (with_rows rows) (entered f a s (elements_on f ns))
    entered-rows plain s [] = refl
    entered-rows plain s (n ∷ ns) =
        ap (λ o. option.◌>>=◌ o (λ t. entered f a t (elements_on f ns))) (enter-rows s (element_at f n) (plain n))
        ∙ by (enter f a s (element_at f n)) (λ t. entered-rows plain t ns)
      where
        by : (o : Option Inside) → ((t : Inside) → entered f a (with_rows rows t) (elements_on f ns) ≡ option_map (with_rows rows) (entered f a t (elements_on f ns)))
            → option.◌>>=◌ (option_map (with_rows rows) o) (λ t. entered f a t (elements_on f ns)) ≡ option_map (with_rows rows) (option.◌>>=◌ o (λ t. entered f a t (elements_on f ns)))
        by None later = refl
        by (Some t) later = later t

    pub inside-rows : ((n : ℕ) → is_repeat f n ≡ false) → (n : ℕ) → inside f a rows n ≡ option_map (with_rows rows) (inside f a [] n)
    inside-rows plain n = entered-rows plain (record { model = 0; place = free; rows = [] }) (path_to f n)

    -- ---- texts

    piece-rows : (s : Inside) (p : Piece) → piece_text f a (with_rows rows s) p ≡ piece_text f a s p
    piece-rows s (words text) = refl
    piece-rows s (printed n) = refl

    each-rows : (s : Inside) (ps : List Piece) → each (piece_text f a (with_rows rows s)) ps ≡ each (piece_text f a s) ps
    each-rows s [] = refl
    each-rows s (p ∷ ps) =
        ap (λ o. option.◌>>=◌ o (λ y. option.◌>>=◌ (each (piece_text f a (with_rows rows s)) ps) (λ ys. Some (y ∷ ys)))) (piece-rows s p)
        ∙ ap (λ o. option.◌>>=◌ (piece_text f a s p) (λ y. option.◌>>=◌ o (λ ys. Some (y ∷ ys)))) (each-rows s ps)

    joined-rows : (s : Inside) (e : Element) → is_repeat_sort e.sort ≡ false → joined_text f a (with_rows rows s) e ≡ joined_text f a s e
    joined-rows s e h =
        ap (λ o. option.◌>>=◌ o (λ t. option.◌>>=◌ (each (piece_text f a t) (pieces_of f e)) (λ ts. Some (flat ts)))) (enter-rows s e h) ∙ by (enter f a s e)
      where
        by : (o : Option Inside) → option.◌>>=◌ (option_map (with_rows rows) o) (λ t. option.◌>>=◌ (each (piece_text f a t) (pieces_of f e)) (λ ts. Some (flat ts)))
            ≡ option.◌>>=◌ o (λ t. option.◌>>=◌ (each (piece_text f a t) (pieces_of f e)) (λ ts. Some (flat ts)))
        by None = refl
        by (Some t) = ap (λ q. option.◌>>=◌ q (λ ts. Some (flat ts))) (each-rows t (pieces_of f e))

    text-by-rows : (s : Inside) (e : Element) (binding : Bound) (sort : Sort) → is_repeat_sort e.sort ≡ false → text_by f a (with_rows rows s) e binding sort ≡ text_by f a s e binding sort
    text-by-rows s e (nodes m) sort h = refl
    text-by-rows s e (by_bind k) sort h = refl
    text-by-rows s e unbound (item_value (Some m)) h = refl
    text-by-rows s e unbound (item_value None) h = joined-rows s e h
    text-by-rows s e unbound host h = joined-rows s e h
    text-by-rows s e unbound other h = joined-rows s e h
    text-by-rows s e unbound group h = joined-rows s e h
    text-by-rows s e unbound (switch k) h = joined-rows s e h
    text-by-rows s e unbound (one_case b) h = joined-rows s e h
    text-by-rows s e unbound (repeated k i) h = joined-rows s e h
    text-by-rows s e unbound field h = joined-rows s e h
    text-by-rows s e unbound (output x) h = joined-rows s e h
    text-by-rows s e unbound (select x y) h = joined-rows s e h
    text-by-rows s e unbound item h = joined-rows s e h
    text-by-rows s e unbound itemset h = joined-rows s e h
    text-by-rows s e unbound choices h = joined-rows s e h
    text-by-rows s e unbound label h = joined-rows s e h
    text-by-rows s e unbound (inline x) h = joined-rows s e h
    text-by-rows s e unbound (action x) h = joined-rows s e h

    pub text-rows : (s : Inside) (e : Element) → is_repeat_sort e.sort ≡ false → text_in f a (with_rows rows s) e ≡ text_in f a s e
    text-rows s e h = text-by-rows s e e.binding e.sort h

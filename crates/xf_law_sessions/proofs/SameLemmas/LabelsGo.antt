-- The texts of labels, messages and values, and the items of selects, go with a renumbering: they hold no numbers of nodes.
use Rattle.std.proofs.Common.{◌≡◌, ℕ, zero, suc, List, [], ◌∷◌, map, length, find, Option, Some, None, option_map, refl, ap, ◌∙◌}
use Rattle.std.specs.Prelude.{⊤}
use Rattle.std.specs.List.{flat_map}
use Rattle.xf_def_forest.specs.Same.{IsRenumbering}
use Rattle.xf_def_xpath.specs.Conversions.{string_of_node, string_of}
use Rattle.xf_def_values.specs.Bounded.{capped}
use Rattle.xf_def_xpath.specs.Meaning.{text_worth}
use Rattle.xf_def_xpath.specs.Setting.{Focus, Meaning, ◌>>=◌, each}
use Rattle.xf_def_xpath.specs.Same.{renumbered_value, renumbered_focus, renumbered_setting}
use Rattle.xf_def_xpath.proofs.Options.{then-kept}
use Rattle.xf_def_xpath.proofs.RenumberLaws.{string_of-renumbered}
use Rattle.xf_def_xpath.proofs.RenumberValues.{Renumbers}
use Rattle.xf_def_ui.specs.declared.answers.Item.{Item}
use Rattle.xf_def_ui.specs.Interface.{Bound, unbound, nodes, by_bind, Sort, output, item, itemset, choices, item_value, inline, Element, Interface}
use Rattle.xf_def_ui.specs.Elements.{element_at, children}
use Rattle.xf_def_ui.specs.Around.{Around, setting, all_bound, first_bound}
use Rattle.xf_def_ui.specs.Context.{Inside, Context, on, enter, inside, context_in}
use Rattle.xf_def_ui.specs.Labels.{Piece, words, printed, pieces_of, text_of_first, bound_text, text_at, value_text, printed_by, piece_text, joined_text, text_by, text_in}
use Rattle.xf_def_ui.specs.Items.{is_label, is_value, text_if, item_in, at_node, set_items, all_items, items_by, items_at, items_of}
use Rattle.xf_law_sessions.specs.Same.Controls.{GoesAround}
use Rattle.xf_law_sessions.proofs.SameLemmas.AroundGoes.{BoundGoes, renumbered_inside, renumbered_context, strings, setting-goes, strings-go, meaning-goes, all-bound, first-bound, enter-goes, inside-goes, in-goes, standing-goes}

abbrev pub MeaningGoes : (ℕ → ℕ) → Option Meaning → Type 0
MeaningGoes f None = ⊤
MeaningGoes f (Some m) = Renumbers f m

-- the expression `value`
abbrev pub SortGoes : (ℕ → ℕ) → Sort → Type 0
SortGoes f (output m) = MeaningGoes f m
SortGoes f (item_value m) = MeaningGoes f m
SortGoes f (inline m) = MeaningGoes f m
SortGoes f sort = ⊤

pub record ElementGoes (f : ℕ → ℕ) (e : Element) : Type 0 where
  pub binding : BoundGoes f e.binding
  pub sort : SortGoes f e.sort

-- the same is made of each, in the same order
pub each-kept : {A B : Type 0} (k q : A → Option B) → ((x : A) → q x ≡ k x) → (xs : List A) → each q xs ≡ each k xs
each-kept k q e [] = refl
each-kept k q e (x ∷ xs) =
    ap (λ m. m >>= λ y. each q xs >>= λ ys. Some (y ∷ ys)) (e x) ∙ ap (λ l. k x >>= λ y. l >>= λ ys. Some (y ∷ ys)) (each-kept k q e xs)

pub each-moved : {A A' B : Type 0} (g : A → A') (k : A → Option B) (q : A' → Option B) → ((x : A) → q (g x) ≡ k x) → (xs : List A) → each q (map g xs) ≡ each k xs
each-moved g k q e [] = refl
each-moved g k q e (x ∷ xs) =
    ap (λ m. m >>= λ y. each q (map g xs) >>= λ ys. Some (y ∷ ys)) (e x) ∙ ap (λ l. k x >>= λ y. l >>= λ ys. Some (y ∷ ys)) (each-moved g k q e xs)

module _ (f : ℕ → ℕ) (same : IsRenumbering f) (form : Interface) (h : (n : ℕ) → ElementGoes f (element_at form n)) (a b : Around) (g : GoesAround f a b) where
  -- ---- what is evaluated

  pub node-text : (model n : ℕ) → string_of_node (setting b model (f n)) (f n) ≡ string_of_node (setting a model n) n
  node-text model n =
      ap (λ s. string_of_node s (f n)) (setting-goes f same a b g model n)
      ∙ ap (capped (setting a model n).most) (strings-go f same a b g model n n)

  pub worth-goes : (m : Meaning) → Renumbers f m → (model : ℕ) (c : Focus)
      → text_worth m (setting b model (f c.node)) (renumbered_focus f c) ≡ text_worth m (setting a model c.node) c
  worth-goes m r model c =
      ap (λ v. v >>= string_of (setting b model (f c.node))) (meaning-goes f same a b g m r model c)
      ∙ ap (λ s. option_map (renumbered_value f) (m (setting a model c.node) c) >>= string_of s) (setting-goes f same a b g model c.node)
      ∙ then-kept (renumbered_value f) (m (setting a model c.node) c) (string_of (setting a model c.node)) (string_of (renumbered_setting f (strings f same a b g) (setting a model c.node)))
      (string_of-renumbered f same (setting a model c.node) (strings f same a b g) (strings-go f same a b g model c.node))

  first-text : (model : ℕ) (o : Option ℕ) → text_of_first b model (option_map f o) ≡ text_of_first a model o
  first-text model None = refl
  first-text model (Some n) = node-text model n

  pub bound-text : (c : Context) (binding : Bound) → BoundGoes f binding → bound_text b (renumbered_context f c) binding ≡ bound_text a c binding
  bound-text c binding r =
      ap (λ o. o >>= text_of_first b c.model) (first-bound f same a b g c.model binding r c.focus)
      ∙ then-kept (option_map f) (first_bound a c.model binding c.focus) (text_of_first a c.model) (text_of_first b c.model) (first-text c.model)

  at-goes : (model : ℕ) (m : Meaning) → Renumbers f m → (c : Option Focus) → text_at b model m (option_map (renumbered_focus f) c) ≡ text_at a model m c
  at-goes model m r None = refl
  at-goes model m r (Some c) = worth-goes m r model c

  value-goes : (c : Context) (m : Option Meaning) → MeaningGoes f m → value_text b (renumbered_context f c) m ≡ value_text a c m
  value-goes c None r = refl
  value-goes c (Some m) r = at-goes c.model m r c.focus

  printed-goes : (c : Context) (binding : Bound) (sort : Sort) → BoundGoes f binding → SortGoes f sort → printed_by b (renumbered_context f c) binding sort ≡ printed_by a c binding sort
  printed-goes c unbound (inline m) r q = value-goes c m q
  printed-goes c binding sort r q = bound-text c binding r

  piece-goes : (s : Inside) (piece : Piece) → piece_text form b (renumbered_inside f s) piece ≡ piece_text form a s piece
  piece-goes s (words text) = refl
  piece-goes s (printed n) =
      let e = element_at form n in
      ap (λ c. printed_by b c e.binding e.sort) (in-goes f same a b g form (λ k. (h k).binding) s e) ∙ printed-goes (context_in form a s e) e.binding e.sort (h n).binding (h n).sort

  joined-goes : (s : Inside) (e : Element) → BoundGoes f e.binding → joined_text form b (renumbered_inside f s) e ≡ joined_text form a s e
  joined-goes s e r =
      let next : Around → Inside → Option (List ℕ) = λ x within. each (piece_text form x within) (pieces_of form e) >>= λ texts. Some (flat_map (λ text. text) texts) in
      ap (λ o. o >>= next b) (enter-goes f same a b g form s e r)
      ∙ then-kept (renumbered_inside f) (enter form a s e) (next a) (next b)
      (λ within. ap (λ o. o >>= λ texts. Some (flat_map (λ text. text) texts)) (each-kept (piece_text form a within) (piece_text form b (renumbered_inside f within)) (piece-goes within) (pieces_of form e)))

  by-goes : (s : Inside) (e : Element) → BoundGoes f e.binding → (binding : Bound) (sort : Sort) → BoundGoes f binding → SortGoes f sort
      → text_by form b (renumbered_inside f s) e binding sort ≡ text_by form a s e binding sort
  by-goes s e r unbound (item_value (Some m)) q t = ap (λ c. value_text b c (Some m)) (in-goes f same a b g form (λ k. (h k).binding) s e) ∙ value-goes (context_in form a s e) (Some m) t
  by-goes s e r unbound (item_value None) q t = joined-goes s e r
  by-goes s e r unbound sort q t = joined-goes s e r
  by-goes s e r (nodes m) sort q t = ap (λ c. bound_text b c (nodes m)) (in-goes f same a b g form (λ k. (h k).binding) s e) ∙ bound-text (context_in form a s e) (nodes m) q
  by-goes s e r (by_bind k) sort q t = ap (λ c. bound_text b c (by_bind k)) (in-goes f same a b g form (λ j. (h j).binding) s e) ∙ bound-text (context_in form a s e) (by_bind k) q

  pub text-goes : (s : Inside) (n : ℕ) → text_in form b (renumbered_inside f s) (element_at form n) ≡ text_in form a s (element_at form n)
  text-goes s n = let e = element_at form n in by-goes s e (h n).binding e.binding e.sort (h n).binding (h n).sort

  -- ---- items

  if-goes : (s : Inside) (o : Option ℕ) → text_if form b (renumbered_inside f s) o ≡ text_if form a s o
  if-goes s None = refl
  if-goes s (Some n) = text-goes s n

  item-goes : (n : ℕ) (s : Inside) → item_in form b n (renumbered_inside f s) ≡ item_in form a n s
  item-goes n s =
      rw (
        if-goes s (find (λ m. is_label (element_at form m).sort) (children form n)),
        if-goes s (find (λ m. is_value (element_at form m).sort) (children form n)),
      ) refl

  at-node-goes : (set : List ℕ) (s : Inside) (c : Context) (m : ℕ) → at_node (map f set) (renumbered_inside f s) (renumbered_context f c) (f m) ≡ renumbered_inside f (at_node set s c m)
  at-node-goes set s c m = ap {A = Focus} {B = Inside} (λ x. record { model = c.model; place = on x; rows = map f s.rows }) (standing-goes f same m set)

  set-goes : (s : Inside) (n : ℕ) → set_items form b (renumbered_inside f s) n (element_at form n) ≡ set_items form a s n (element_at form n)
  set-goes s n =
      let e = element_at form n in
      let c = context_in form a s e in
      let next : Around → Inside → Context → List ℕ → Option (List Item) = λ x t d set. each (λ m. item_in form x n (at_node set t d m)) set in
      ap (λ d. all_bound b d.model e.binding d.focus >>= next b (renumbered_inside f s) d) (in-goes f same a b g form (λ k. (h k).binding) s e)
      ∙ ap (λ o. o >>= next b (renumbered_inside f s) (renumbered_context f c)) (all-bound f same a b g c.model e.binding (h n).binding c.focus)
      ∙ then-kept (map f) (all_bound a c.model e.binding c.focus) (next a s c) (next b (renumbered_inside f s) (renumbered_context f c))
      (λ set. each-moved f (λ m. item_in form a n (at_node set s c m)) (λ m. item_in form b n (at_node (map f set) (renumbered_inside f s) (renumbered_context f c) m))
      (λ m. ap (item_in form b n) (at-node-goes set s c m) ∙ item-goes n (at_node set s c m)) set)

  items-by : (one two : Inside → ℕ → Option (List Item)) → ((s : Inside) (n : ℕ) → two (renumbered_inside f s) n ≡ one s n) → (s : Inside) (n : ℕ) (sort : Sort)
      → items_by form b two (renumbered_inside f s) n sort ≡ items_by form a one s n sort
  items-by one two e s n item =
      ap (λ o. option_map (λ i. i ∷ []) (o >>= item_in form b n)) (enter-goes f same a b g form s (element_at form n) (h n).binding)
      ∙ ap (option_map (λ i. i ∷ [])) (then-kept (renumbered_inside f) (enter form a s (element_at form n)) (item_in form a n) (item_in form b n) (item-goes n))
  items-by one two e s n itemset = set-goes s n
  items-by one two e s n choices =
      ap (λ o. o >>= λ t. all_items (each (two t) (children form n))) (enter-goes f same a b g form s (element_at form n) (h n).binding)
      ∙ then-kept (renumbered_inside f) (enter form a s (element_at form n)) (λ t. all_items (each (one t) (children form n))) (λ t. all_items (each (two t) (children form n)))
      (λ t. ap all_items (each-kept (one t) (two (renumbered_inside f t)) (e t) (children form n)))
  items-by one two e s n sort = refl

  items-at : (most : ℕ) (s : Inside) (n : ℕ) → items_at most form b (renumbered_inside f s) n ≡ items_at most form a s n
  items-at zero s n = refl
  items-at (suc most) s n = items-by (items_at most form a) (items_at most form b) (items-at most) s n (element_at form n).sort

  pub items-go : (rows : List ℕ) (n : ℕ) → items_of form b (map f rows) n ≡ items_of form a rows n
  items-go rows n =
      let all : Around → Inside → Option (List Item) = λ x t. all_items (each (items_at (length form.elements) form x t) (children form n)) in
      let next : Around → Inside → Option (List Item) = λ x s. enter form x s (element_at form n) >>= all x in
      ap (λ o. o >>= next b) (inside-goes f same a b g form (λ k. (h k).binding) rows n)
      ∙ then-kept (renumbered_inside f) (inside form a rows n) (next a) (next b)
      (λ s. ap (λ o. o >>= all b) (enter-goes f same a b g form s (element_at form n) (h n).binding)
      ∙ then-kept (renumbered_inside f) (enter form a s (element_at form n)) (all a) (all b)
      (λ t. ap all_items (each-kept (items_at (length form.elements) form a t) (items_at (length form.elements) form b (renumbered_inside f t)) (items-at (length form.elements) t) (children form n))))

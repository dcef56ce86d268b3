-- The texts of labels, messages and values, and the items of selects, are over a part what they are over all data.
use Rattle.std.proofs.Common.{◌≡◌, ℕ, zero, suc, List, [], ◌∷◌, length, find, Option, Some, None, option_map, refl, ap, ◌∙◌}
use Rattle.std.specs.Prelude.{⊤, Bool, true}
use Rattle.std.specs.List.{flat_map}
use Rattle.xf_def_xpath.specs.Setting.{Focus, Meaning, ◌>>=◌, each}
use Rattle.xf_def_xpath.proofs.ForestVisits.{Each}
use Rattle.xf_def_ui.specs.declared.answers.Item.{Item}
use Rattle.xf_def_ui.specs.Interface.{Bound, unbound, nodes, by_bind, Sort, output, item, itemset, choices, item_value, inline, Element, Interface}
use Rattle.xf_def_ui.specs.Elements.{element_at, children}
use Rattle.xf_def_ui.specs.Around.{Around, all_bound, first_bound}
use Rattle.xf_def_ui.specs.Context.{Inside, Context, enter, inside, context_in}
use Rattle.xf_def_ui.specs.Labels.{Piece, words, printed, pieces_of, text_of_first, bound_text, text_at, value_text, printed_by, piece_text, joined_text, text_by, text_in}
use Rattle.xf_def_ui.specs.Items.{is_label, is_value, text_if, item_in, at_node, set_items, all_items, items_by, items_at, items_of}
use Rattle.xf_law_recalculation.proofs.WithinLemmas.Seen.{Keeps}
use Rattle.xf_law_recalculation.proofs.WithinLemmas.Within.{In}
use Rattle.xf_law_sessions.proofs.ShownLemmas.AroundPart.{then-same, IsSeen, over, BoundKeeps, OneIn, FocusIn, InsideIn, ContextIn, standing-in, node-text, worth-same, all-bound, first-bound, enter-agrees, inside-agrees, context-in}

abbrev pub MeaningKeeps : (ℕ → Bool) → Option Meaning → Type 0
MeaningKeeps p None = ⊤
MeaningKeeps p (Some m) = Keeps p m

-- the expression `value`
abbrev pub SortKeeps : (ℕ → Bool) → Sort → Type 0
SortKeeps p (output m) = MeaningKeeps p m
SortKeeps p (item_value m) = MeaningKeeps p m
SortKeeps p (inline m) = MeaningKeeps p m
SortKeeps p sort = ⊤

pub record ElementKeeps (p : ℕ → Bool) (e : Element) : Type 0 where
  pub binding : BoundKeeps p e.binding
  pub sort : SortKeeps p e.sort

-- the same is made of each, in the same order
pub each-kept : {A B : Type 0} (k q : A → Option B) → ((x : A) → q x ≡ k x) → (xs : List A) → each q xs ≡ each k xs
each-kept k q e [] = refl
each-kept k q e (x ∷ xs) =
    ap (λ m. m >>= λ y. each q xs >>= λ ys. Some (y ∷ ys)) (e x) ∙ ap (λ l. k x >>= λ y. l >>= λ ys. Some (y ∷ ys)) (each-kept k q e xs)

pub each-where : {A B : Type 0} (P : A → Type 0) (k q : A → Option B) → ((x : A) → P x → q x ≡ k x) → (xs : List A) → Each P xs → each q xs ≡ each k xs
each-where P k q e [] i = refl
each-where P k q e (x ∷ xs) i =
    ap (λ m. m >>= λ y. each q xs >>= λ ys. Some (y ∷ ys)) (e x i.0) ∙ ap (λ l. k x >>= λ y. l >>= λ ys. Some (y ∷ ys)) (each-where P k q e xs i.1)

module _ (p : ℕ → Bool) (form : Interface) (keeps : (n : ℕ) → ElementKeeps p (element_at form n)) (a : Around) (small : ℕ → Option (List ℕ)) (h : IsSeen p a small) where
  abbrev b : Around
  b = over p a small

  -- ---- what is evaluated

  first-text : (model : ℕ) (o : Option ℕ) → OneIn p o → text_of_first b model o ≡ text_of_first a model o
  first-text model None i = refl
  first-text model (Some n) i = node-text p a small h model n i

  bound-text : (c : Context) → ContextIn p c → (binding : Bound) → BoundKeeps p binding → bound_text b c binding ≡ bound_text a c binding
  bound-text c i binding k =
      then-same {P = OneIn p} (first_bound b c.model binding c.focus) (first_bound a c.model binding c.focus) (text_of_first b c.model) (text_of_first a c.model)
      (first-bound p a small h c.model binding k c.focus i) (first-text c.model)

  at-same : (model : ℕ) (m : Meaning) → Keeps p m → (c : Option Focus) → FocusIn p c → text_at b model m c ≡ text_at a model m c
  at-same model m k None i = refl
  at-same model m k (Some c) i = worth-same p a small h m k model c i

  value-same : (c : Context) → ContextIn p c → (m : Option Meaning) → MeaningKeeps p m → value_text b c m ≡ value_text a c m
  value-same c i None k = refl
  value-same c i (Some m) k = at-same c.model m k c.focus i

  printed-same : (c : Context) → ContextIn p c → (binding : Bound) (sort : Sort) → BoundKeeps p binding → SortKeeps p sort → printed_by b c binding sort ≡ printed_by a c binding sort
  printed-same c i unbound (inline m) k q = value-same c i m q
  printed-same c i binding sort k q = bound-text c i binding k

  seen-context : (s : Inside) → InsideIn p s → (e : Element) → ContextIn p (context_in form a s e)
  seen-context s i e = context-in p a small h form (λ n. (keeps n).binding) s i e

  piece-same : (s : Inside) → InsideIn p s → (piece : Piece) → piece_text form b s piece ≡ piece_text form a s piece
  piece-same s i (words text) = refl
  piece-same s i (printed n) = let e = element_at form n in printed-same (context_in form a s e) (seen-context s i e) e.binding e.sort (keeps n).binding (keeps n).sort

  joined-same : (s : Inside) → InsideIn p s → (e : Element) → BoundKeeps p e.binding → joined_text form b s e ≡ joined_text form a s e
  joined-same s i e k =
      let next : Around → Inside → Option (List ℕ) = λ x t. each (piece_text form x t) (pieces_of form e) >>= λ texts. Some (flat_map (λ text. text) texts) in
      then-same {P = InsideIn p} (enter form b s e) (enter form a s e) (next b) (next a) (enter-agrees p a small h form s i e k)
      (λ t j. ap (λ o. o >>= λ texts. Some (flat_map (λ text. text) texts)) (each-kept (piece_text form a t) (piece_text form b t) (piece-same t j) (pieces_of form e)))

  by-same : (s : Inside) → InsideIn p s → (e : Element) → BoundKeeps p e.binding → (binding : Bound) (sort : Sort) → BoundKeeps p binding → SortKeeps p sort
      → text_by form b s e binding sort ≡ text_by form a s e binding sort
  by-same s i e k unbound (item_value (Some m)) q t = value-same (context_in form a s e) (seen-context s i e) (Some m) t
  by-same s i e k unbound (item_value None) q t = joined-same s i e k
  by-same s i e k unbound sort q t = joined-same s i e k
  by-same s i e k (nodes m) sort q t = bound-text (context_in form a s e) (seen-context s i e) (nodes m) q
  by-same s i e k (by_bind j) sort q t = bound-text (context_in form a s e) (seen-context s i e) (by_bind j) q

  text-same : (s : Inside) → InsideIn p s → (n : ℕ) → text_in form b s (element_at form n) ≡ text_in form a s (element_at form n)
  text-same s i n = let e = element_at form n in by-same s i e (keeps n).binding e.binding e.sort (keeps n).binding (keeps n).sort

  -- ---- items

  if-same : (s : Inside) → InsideIn p s → (o : Option ℕ) → text_if form b s o ≡ text_if form a s o
  if-same s i None = refl
  if-same s i (Some n) = text-same s i n

  item-same : (n : ℕ) (s : Inside) → InsideIn p s → item_in form b n s ≡ item_in form a n s
  item-same n s i =
      rw (
        if-same s i (find (λ m. is_label (element_at form m).sort) (children form n)),
        if-same s i (find (λ m. is_value (element_at form m).sort) (children form n)),
      ) refl

  set-same : (s : Inside) → InsideIn p s → (n : ℕ) → set_items form b s n (element_at form n) ≡ set_items form a s n (element_at form n)
  set-same s i n =
      let e = element_at form n in
      let c = context_in form a s e in
      let next : Around → List ℕ → Option (List Item) = λ x set. each (λ m. item_in form x n (at_node set s c m)) set in
      then-same {P = In p} (all_bound b c.model e.binding c.focus) (all_bound a c.model e.binding c.focus) (next b) (next a)
      (all-bound p a small h c.model e.binding (keeps n).binding c.focus (seen-context s i e))
      (λ set j. each-where (λ m. p m ≡ true) (λ m. item_in form a n (at_node set s c m)) (λ m. item_in form b n (at_node set s c m))
      (λ m l. item-same n (at_node set s c m) (record { place = standing-in p m set l; rows = i.rows })) set j)

  items-by : (one two : Inside → ℕ → Option (List Item)) → ((s : Inside) → InsideIn p s → (n : ℕ) → two s n ≡ one s n) → (s : Inside) → InsideIn p s → (n : ℕ) (sort : Sort)
      → items_by form b two s n sort ≡ items_by form a one s n sort
  items-by one two e s i n item =
      ap (option_map (λ x. x ∷ []))
      (then-same {P = InsideIn p} (enter form b s (element_at form n)) (enter form a s (element_at form n)) (item_in form b n) (item_in form a n)
      (enter-agrees p a small h form s i (element_at form n) (keeps n).binding) (item-same n))
  items-by one two e s i n itemset = set-same s i n
  items-by one two e s i n choices =
      then-same {P = InsideIn p} (enter form b s (element_at form n)) (enter form a s (element_at form n))
      (λ t. all_items (each (two t) (children form n))) (λ t. all_items (each (one t) (children form n)))
      (enter-agrees p a small h form s i (element_at form n) (keeps n).binding) (λ t j. ap all_items (each-kept (one t) (two t) (e t j) (children form n)))
  items-by one two e s i n sort = refl

  items-at : (most : ℕ) (s : Inside) → InsideIn p s → (n : ℕ) → items_at most form b s n ≡ items_at most form a s n
  items-at zero s i n = refl
  items-at (suc most) s i n = items-by (items_at most form a) (items_at most form b) (items-at most) s i n (element_at form n).sort

  pub items-same : (rows : List ℕ) → In p rows → (n : ℕ) → items_of form b rows n ≡ items_of form a rows n
  items-same rows i n =
      let all : Around → Inside → Option (List Item) = λ x t. all_items (each (items_at (length form.elements) form x t) (children form n)) in
      let next : Around → Inside → Option (List Item) = λ x s. enter form x s (element_at form n) >>= all x in
      then-same {P = InsideIn p} (inside form b rows n) (inside form a rows n) (next b) (next a) (inside-agrees p a small h form (λ k. (keeps k).binding) rows i n)
      (λ s j. then-same {P = InsideIn p} (enter form b s (element_at form n)) (enter form a s (element_at form n)) (all b) (all a) (enter-agrees p a small h form s j (element_at form n) (keeps n).binding)
      (λ t l. ap all_items (each-kept (items_at (length form.elements) form a t) (items_at (length form.elements) form b t) (items-at (length form.elements) t l) (children form n))))

-- The items of parts are those of the first, and then those of the others.
use Rattle.std.proofs.Common.{◌≡◌, ℕ, suc, ◌+◌, ◌<◌, List, [], ◌∷◌, ◌++◌, length, drop, get_or, Option, Some, None, refl, sym, ap, ◌∙◌, append_assoc}
use Rattle.std.specs.Prelude.{if◌then◌else◌}
use Rattle.std.specs.List.{flat_map}
use Rattle.std.proofs.lemmas.List.{append-nil, drop_more}
use Rattle.xf_def_syntax.specs.declared.element.Part.{Part}
use Rattle.xf_def_syntax.specs.declared.element.Part.TheVariants as part
use Rattle.xf_def_syntax.specs.Ordered.{child_in}
use Rattle.xf_def_syntax.specs.declared.element.Control.TheVariants as control
use Rattle.xf_def_syntax.specs.declared.element.Kind.{Kind}
use Rattle.xf_def_syntax.specs.declared.element.Kind.TheVariants as kind
use Rattle.xf_def_xpath.specs.Setting.{each}
use Rattle.xf_def_xpath.specs.Setting as option
use Rattle.xf_def_ui.specs.declared.answers.Item.{Item}
use Rattle.xf_def_ui.specs.Around.{Around}
use Rattle.xf_def_ui.specs.Context.{Inside, enter}
use Rattle.xf_def_ui.specs.Elements.{element_at}
use Rattle.xf_def_ui.specs.Interface.{Interface, Sort, host, other, group, switch, one_case, repeated, field, output, select, item, itemset, choices, label, item_value, inline, action, sort_of}
use Rattle.xf_def_ui.specs.Items.{all_items, items_at, items_by}
use Rattle.xf_items.specs.Items.{behind, choices_inside, choices_parts, is_choices, items_among, own_by, own_items}

-- items and then others, where both are there
abbrev pub and_then : Option (List Item) → Option (List Item) → Option (List Item)
and_then None second = None
and_then (Some items) second = behind items second

abbrev flat : List (List Item) → List Item
flat lists = flat_map (λ items. items) lists

each-append : (further : ℕ → Option (List Item)) (xs ys : List ℕ) → all_items (each further (xs ++ ys)) ≡ and_then (all_items (each further xs)) (all_items (each further ys))
each-append further [] ys = by (each further ys)
  where
    by : (o : Option (List (List Item))) → all_items o ≡ behind [] (all_items o)
    by None = refl
    by (Some lists) = refl
each-append further (x ∷ xs) ys = by (further x) (each further xs) (each further ys) (each further (xs ++ ys)) (each-append further xs ys)
  where
    by : (o : Option (List Item)) (p q r : Option (List (List Item))) → all_items r ≡ and_then (all_items p) (all_items q)
        → all_items (option.◌>>=◌ o (λ y. option.◌>>=◌ r (λ zs. Some (y ∷ zs)))) ≡ and_then (all_items (option.◌>>=◌ o (λ y. option.◌>>=◌ p (λ zs. Some (y ∷ zs))))) (all_items q)
    by None p q r e = refl
    by (Some t) None q None e = refl
    by (Some t) None q (Some rs) e = cc e
    by (Some t) (Some ps) None None e = refl
    by (Some t) (Some ps) None (Some rs) e = cc e
    by (Some t) (Some ps) (Some qs) None e = cc e
    by (Some t) (Some ps) (Some qs) (Some rs) e =
        let same : flat rs ≡ flat ps ++ flat qs = some-same e in
        ap (λ l. Some (t ++ l)) same ∙ ap Some (sym (append_assoc t (flat ps) (flat qs)))
      where
        some-same : {X : Type 0} {a b : X} → Some a ≡ Some b → a ≡ b
        some-same i = cc i

then-none : (o : Option (List Item)) → and_then o (Some []) ≡ behind [] o
then-none None = refl
then-none (Some items) = ap Some (append-nil items)

one-list : (o : Option (List Item)) → all_items (option.◌>>=◌ o (λ y. option.◌>>=◌ (Some []) (λ ys. Some (y ∷ ys)))) ≡ and_then o (Some [])
one-list None = refl
one-list (Some items) = refl

pub behind-end : (before : List Item) → behind before (Some []) ≡ Some before
behind-end before = ap Some (append-nil before)

pub behind-none-is : (before : List Item) (o : Option (List Item)) → behind before o ≡ None → o ≡ None
behind-none-is before None e = refl
behind-none-is before (Some items) e = cc e

-- none before it
pub behind-first : (o : Option (List Item)) (after : List Item) → behind [] o ≡ Some after → o ≡ Some after
behind-first None after e = e
behind-first (Some items) after e = e

module _ (f : Interface) (a : Around) (s : Inside) where
  pub none-among : (most : ℕ) → items_among most f a s [] ≡ Some []
  none-among most = refl

  no-items : (parts : List ℕ) → all_items (each (items_at 0 f a s) parts) ≡ Some []
  no-items [] = refl
  no-items (n ∷ ns) = by (each (items_at 0 f a s) ns) (no-items ns)
    where
      by : (o : Option (List (List Item))) → all_items o ≡ Some [] → all_items (option.◌>>=◌ (Some []) (λ y. option.◌>>=◌ o (λ ys. Some (y ∷ ys)))) ≡ Some []
      by None e = e
      by (Some lists) e = e

  pub none-further : (most : ℕ) (ps : List Part) → most ≡ 0 → items_among most f a s ps ≡ Some []
  none-further most ps h = ap (λ k. items_among k f a s ps) h ∙ no-items (flat_map child_in ps)

  -- what stands in choices
  abbrev pub inner : ℕ → Part → Option (List Item)
  inner m p = option.◌>>=◌ (choices_inside f a s p) (λ t. items_among m f a t (choices_parts f p))

  by-sort : (m n : ℕ) (sort : Sort)
      → and_then (items_by f a (items_at m f a) s n sort) (Some [])
      ≡ and_then (own_by f a s n sort)
      (option.◌>>=◌ (if is_choices sort then enter f a s (element_at f n) else Some s) (λ t. items_among m f a t (if is_choices sort then (element_at f n).parts else [])))
  by-sort m n choices = then-none (option.◌>>=◌ (enter f a s (element_at f n)) (λ t. items_among m f a t (element_at f n).parts))
  by-sort m n item = refl
  by-sort m n itemset = refl
  by-sort m n host = refl
  by-sort m n other = refl
  by-sort m n group = refl
  by-sort m n (switch k) = refl
  by-sort m n (one_case b) = refl
  by-sort m n (repeated k i) = refl
  by-sort m n field = refl
  by-sort m n (output x) = refl
  by-sort m n (select x y) = refl
  by-sort m n label = refl
  by-sort m n (item_value x) = refl
  by-sort m n (inline x) = refl
  by-sort m n (action h) = refl

  one-part : (m : ℕ) (p : Part) → all_items (each (items_at (suc m) f a s) (child_in p)) ≡ and_then (own_items f a s p) (inner m p)
  one-part m (part.Text t) = refl
  one-part m (part.Element n) = one-list (items_at (suc m) f a s n) ∙ by-sort m n (element_at f n).sort

  among-cons : (m : ℕ) (p : Part) (rest : List Part) → items_among (suc m) f a s (p ∷ rest) ≡ and_then (and_then (own_items f a s p) (inner m p)) (items_among (suc m) f a s rest)
  among-cons m p rest =
      each-append (items_at (suc m) f a s) (child_in p) (flat_map child_in rest)
      ∙ ap (λ o. and_then o (items_among (suc m) f a s rest)) (one-part m p)

  among-more : (most m : ℕ) (ps : List Part) (i : ℕ) (p : Part) → i < length ps → p ≡ get_or ps i p → most ≡ suc m
      → items_among most f a s (drop i ps) ≡ and_then (and_then (own_items f a s p) (inner m p)) (items_among most f a s (drop (i + 1) ps))
  among-more most m ps i p l is more =
      ap (λ k. items_among k f a s (drop i ps)) more ∙ ap (λ qs. items_among (suc m) f a s qs) (drop_more ps i p l)
      ∙ ap (λ q. items_among (suc m) f a s (q ∷ drop (i + 1) ps)) (sym is) ∙ among-cons m p (drop (i + 1) ps)
      ∙ ap (λ k. and_then (and_then (own_items f a s p) (inner m p)) (items_among k f a s (drop (i + 1) ps))) (sym more)

  -- what is neither an item nor an item set has no items of its own
  pub own-none : (n : ℕ) (k : Kind) → (k ≡ kind.Item → ⊥) → (k ≡ kind.Itemset → ⊥) → own_by f a s n (sort_of k) ≡ Some []
  own-none n kind.Item h g = absurd (h refl)
  own-none n kind.Itemset h g = absurd (g refl)
  own-none n kind.Host h g = refl
  own-none n (kind.Model k) h g = refl
  own-none n (kind.Instance k) h g = refl
  own-none n (kind.Bind k) h g = refl
  own-none n (kind.Submission k) h g = refl
  own-none n (kind.Control k control.Group) h g = refl
  own-none n (kind.Control k (control.Switch i)) h g = refl
  own-none n (kind.Control k (control.Case i)) h g = refl
  own-none n (kind.Control k (control.Repeat i j)) h g = refl
  own-none n (kind.Control k control.Input) h g = refl
  own-none n (kind.Control k control.Secret) h g = refl
  own-none n (kind.Control k control.Textarea) h g = refl
  own-none n (kind.Control k (control.Output e)) h g = refl
  own-none n (kind.Control k (control.Select b)) h g = refl
  own-none n (kind.Control k (control.SelectOne b)) h g = refl
  own-none n (kind.Control k control.Trigger) h g = refl
  own-none n (kind.Control k (control.Submit i)) h g = refl
  own-none n kind.Choices h g = refl
  own-none n kind.Label h g = refl
  own-none n (kind.Value e) h g = refl
  own-none n (kind.Output e) h g = refl
  own-none n (kind.Action e) h g = refl

  -- ---- a step of the loop

  twice : (one two : List Item) (o : Option (List Item)) → behind one (behind two o) ≡ behind (one ++ two) o
  twice one two None = refl
  twice one two (Some t) = ap Some (sym (append_assoc one two t))

  some-only : {X : Type 0} {x y : X} → Some x ≡ Some y → x ≡ y
  some-only e = cc e

  none-behind : {X : Type 0} {x : X} {B : Type 0} → None ≡ Some x → B
  none-behind e = cc e

  -- all of a part came behind
  pub carried : (most m i : ℕ) (ps : List Part) (p : Part) (t : Inside) (now mid new : List Item) → i < length ps → p ≡ get_or ps i p → most ≡ suc m
      → behind now (own_items f a s p) ≡ Some mid → choices_inside f a s p ≡ Some t → behind mid (items_among m f a t (choices_parts f p)) ≡ Some new
      → behind now (items_among most f a s (drop i ps)) ≡ behind new (items_among most f a s (drop (i + 1) ps))
  carried most m i ps p t now mid new l is more own surrounds within =
      ap (behind now) (among-more most m ps i p l is more)
      ∙ by (own_items f a s p) (inner m p) (items_among most f a s (drop (i + 1) ps)) own
      (ap (λ o. behind mid (option.◌>>=◌ o (λ u. items_among m f a u (choices_parts f p)))) surrounds ∙ within)
    where
      by : (o q r : Option (List Item)) → behind now o ≡ Some mid → behind mid q ≡ Some new → behind now (and_then (and_then o q) r) ≡ behind new r
      by None q r g h = none-behind g
      by (Some u) None r g h = none-behind h
      by (Some u) (Some v) r g h =
          twice now (u ++ v) r
          ∙ ap (λ k. behind k r) (sym (append_assoc now u v) ∙ ap (λ k. k ++ v) (some-only g) ∙ some-only h)

  -- what a part gives, what surrounds what stands in it, or what stands in it is too long
  pub long-own : (most m i : ℕ) (ps : List Part) (p : Part) → i < length ps → p ≡ get_or ps i p → most ≡ suc m → own_items f a s p ≡ None → items_among most f a s (drop i ps) ≡ None
  long-own most m i ps p l is more h =
      among-more most m ps i p l is more ∙ ap (λ o. and_then (and_then o (inner m p)) (items_among most f a s (drop (i + 1) ps))) h

  long-inner : (most m i : ℕ) (ps : List Part) (p : Part) → i < length ps → p ≡ get_or ps i p → most ≡ suc m → inner m p ≡ None → items_among most f a s (drop i ps) ≡ None
  long-inner most m i ps p l is more h =
      among-more most m ps i p l is more
      ∙ ap (λ o. and_then (and_then (own_items f a s p) o) (items_among most f a s (drop (i + 1) ps))) h ∙ by (own_items f a s p)
    where
      by : (o : Option (List Item)) → and_then (and_then o None) (items_among most f a s (drop (i + 1) ps)) ≡ None
      by None = refl
      by (Some t) = refl

  pub long-choices : (most m i : ℕ) (ps : List Part) (p : Part) → i < length ps → p ≡ get_or ps i p → most ≡ suc m → choices_inside f a s p ≡ None → items_among most f a s (drop i ps) ≡ None
  long-choices most m i ps p l is more h =
      long-inner most m i ps p l is more (ap (λ o. option.◌>>=◌ o (λ u. items_among m f a u (choices_parts f p))) h)

  pub long-inside : (most m i : ℕ) (ps : List Part) (p : Part) (t : Inside) → i < length ps → p ≡ get_or ps i p → most ≡ suc m → choices_inside f a s p ≡ Some t
      → items_among m f a t (choices_parts f p) ≡ None → items_among most f a s (drop i ps) ≡ None
  long-inside most m i ps p t l is more surrounds h =
      long-inner most m i ps p l is more (ap (λ o. option.◌>>=◌ o (λ u. items_among m f a u (choices_parts f p))) surrounds ∙ h)

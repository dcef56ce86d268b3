-- The items of a list of entries, and what is looked up among them.
use Rattle.std.proofs.Common.{◌≡◌, ℕ, true, false, cond, not, ◌<◌, List, [], ◌∷◌, ◌++◌, find, length, get_or, Option, Some, None, option_map, option_and_then, is_some, slice_get, nat_eq, ◌==◌, refl, sym, ap, ◌∙◌, subst}
use Rattle.std.specs.List.{list_any}
use Rattle.std.proofs.lemmas.Option.{slice_get-map, slice_get_read}
use Rattle.std.proofs.lemmas.List.{length-map, map-append}
use Rattle.indexmap.specs.IndexMap.{IndexMap, get}
use Rattle.xf_def_model.specs.declared.property.Property.{Property}
use Rattle.xf_def_model.specs.declared.property.Property.TheVariants.{Kind}
use Rattle.xf_def_model.specs.Applied as applied
use Rattle.xf_def_model.specs.Applied.{is_property, sets_same}
use Rattle.xf_def_model.specs.Entries.{is_computed}
use Rattle.xf_def_model.specs.Settled.{Valued}
use Rattle.xf_def_model.specs.Properties.{sets_on}
use Rattle.xf_binds.specs.declared.entry.Entry.{Entry}
use Rattle.xf_binds.specs.declared.entry.Item.{Item}
use Rattle.xf_binds.specs.declared.entry.Seats.{Seats}
use Rattle.xf_binds.specs.Held.{AreSet, Held, IsSeated, entries_in, entry_of, held_at, held_of, held_on, held_same, holds, is_seat, passes, seat_in, seat_of, seats_or, seats_with}
use Rattle.xf_binds.specs.Kept.{truth_from, valued_in}
use Rattle.xf_binds.proofs.Finds.{false-true, find-map, find-passes}
use Rattle.xf_binds.proofs.Places.{held-some, same-some, seat-or, seat-within, seated-more, set-already, set-more, set-not}
use Rattle.xf_binds.proofs.Truths.{computed-on, truth-stood}

-- ---- an item at a place

pub entry-at : (items : List Item) (held : List Held) (at : ℕ) (o : Option Item) → holds items ≡ held → o ≡ slice_get items at → option_map (λ (i : Item). entry_of i.entry) o ≡ slice_get (entries_in held) at
entry-at items held at o view e =
    ap (option_map (λ (i : Item). entry_of i.entry)) e ∙ by (slice_get items at)
    ∙ ap (option_map (λ (h : Held). h.entry)) (sym (slice_get-map held_of items at))
    ∙ sym (slice_get-map (λ (h : Held). h.entry) (holds items) at) ∙ ap (λ l. slice_get (entries_in l) at) view
  where
    by : (o : Option Item) → option_map (λ (i : Item). entry_of i.entry) o ≡ option_map (λ (h : Held). h.entry) (option_map held_of o)
    by None = refl
    by (Some i) = refl

pub seat-there : (items : List Item) (held : List Held) (n : ℕ) (p : Property) (seat : Option ℕ) (j : ℕ) → holds items ≡ held
    → ((i : ℕ) → is_seat seat i ≡ passes (held_on n p) (slice_get held i)) → seat ≡ Some j → j < length items
seat-there items held n p seat j view h e =
    let k : j < length held = seat-within n p held seat j h e in
    let same : length held ≡ length items = ap length (sym view) ∙ length-map items held_of in
    subst (λ m. j < m) same k

pub item-there : (items : List Item) (held : List Held) (j : ℕ) (item : Item) → holds items ≡ held → j < length items → item ≡ get_or items j item → slice_get held j ≡ Some (held_of item)
item-there items held j item view within is =
    ap (λ l. slice_get l j) (sym view) ∙ slice_get-map held_of items j ∙ ap (option_map held_of) (slice_get_read items (length items) j item refl within is)

pub at-some : (items : List Item) (held : List Held) (n : ℕ) (p : Property) (seat : Option ℕ) (j : ℕ) (item : Item) → holds items ≡ held
    → ((i : ℕ) → is_seat seat i ≡ passes (held_on n p) (slice_get held i)) → seat ≡ Some j → item ≡ get_or items j item → Some (held_of item) ≡ held_at held n p
at-some items held n p seat j item view h e is =
    sym (held-some n p held seat j h e ∙ item-there items held j item view (seat-there items held n p seat j view h e) is)

pub same-then : (items : List Item) (held : List Held) (e : applied.Entry) (seat : Option ℕ) (j : ℕ) (item : Item) → holds items ≡ held
    → ((i : ℕ) → is_seat seat i ≡ passes (held_on e.node e.property) (slice_get held i)) → seat ≡ Some j → item ≡ get_or items j item → (e.bind == item.entry.bind) ≡ true
    → Some (held_of item) ≡ held_same held e
same-then items held e seat j item view h some is bind =
    sym (same-some e held seat j (held_of item) h some (item-there items held j item view (seat-there items held e.node e.property seat j view h some) is)
    ∙ ap (λ b. cond b (Some (held_of item)) None) bind)

pub same-else : (items : List Item) (held : List Held) (e : applied.Entry) (seat : Option ℕ) (j : ℕ) (item : Item) → holds items ≡ held
    → ((i : ℕ) → is_seat seat i ≡ passes (held_on e.node e.property) (slice_get held i)) → seat ≡ Some j → item ≡ get_or items j item → (e.bind == item.entry.bind) ≡ false
    → None ≡ held_same held e
same-else items held e seat j item view h some is bind =
    sym (same-some e held seat j (held_of item) h some (item-there items held j item view (seat-there items held e.node e.property seat j view h some) is)
    ∙ ap (λ b. cond b (Some (held_of item)) None) bind)

-- ---- an item more

pub added : {S : Type 0} (items new_items : List Item) (held : List Held) (e : Entry) (seats new : IndexMap ℕ Seats S) (s v : Seats) (at : Option ℕ)
    → holds items ≡ held → IsSeated (holds items) seats → new_items ≡ items ++ record { entry = e; truth = None } ∷ []
    → s ≡ seats_or (get nat_eq seats e.node.number) → at ≡ seat_of s e.property → is_some at ≡ false
    → v ≡ seats_with s e.property (length items)
    → ((q : ℕ) → get nat_eq new q ≡ cond (nat_eq e.node.number q) (Some v) (get nat_eq seats q))
    → IsSeated (holds new_items) new
added items new_items held e seats new s v at view seated more-is s-is at-is free v-is updates =
    subst (λ l. IsSeated l new) (sym (ap holds more-is ∙ map-append held_of items (record { entry = e; truth = None } ∷ [])))
    (seated-more (holds items) seats new (entry_of e) seated
    (sym (seat-or (get nat_eq seats e.node.number) e.property) ∙ ap (λ t. seat_of t e.property) (sym s-is) ∙ sym at-is ∙ unset at free)
    (λ m. updates m ∙ ap (λ t. cond (nat_eq e.node.number m) (Some t) (get nat_eq seats m)) (v-is ∙ ap (λ t. seats_with t e.property (length items)) s-is ∙ ap (seats_with (seats_or (get nat_eq seats e.node.number)) e.property) (sym (length-map items held_of)))))
  where
    unset : (o : Option ℕ) → is_some o ≡ false → o ≡ None
    unset None h = refl
    unset (Some j) h = cc h

pub set-added : (items new_items : List Item) (e : Entry) (last new : Seats) (k : ℕ) → new_items ≡ items ++ record { entry = e; truth = None } ∷ [] → new ≡ seats_with last e.property k
    → AreSet (holds items) last → AreSet (holds new_items) new
set-added items new_items e last new k more-is new-is h =
    subst (AreSet (holds new_items)) (sym new-is)
    (subst (λ l. AreSet l (seats_with last e.property k)) (sym (ap holds more-is ∙ map-append held_of items (record { entry = e; truth = None } ∷ []))) (set-more (holds items) last (entry_of e) k h))

pub added-not : {S : Type 0} (items : List Item) (held : List Held) (e : applied.Entry) (seats : IndexMap ℕ Seats S) (s : Seats) (at : Option ℕ) → holds items ≡ held → IsSeated (holds items) seats
    → s ≡ seats_or (get nat_eq seats e.node) → at ≡ seat_of s e.property → is_some at ≡ true → false ≡ not (list_any (sets_same e) (entries_in held))
added-not items held e seats s at view seated s-is at-is taken = by at taken refl
  where
    is-in : at ≡ seat_in (get nat_eq seats e.node) e.property
    is-in = at-is ∙ ap (λ t. seat_of t e.property) s-is ∙ seat-or (get nat_eq seats e.node) e.property

    by : (o : Option ℕ) → is_some o ≡ true → at ≡ o → false ≡ not (list_any (sets_same e) (entries_in held))
    by None h a = false-true h
    by (Some k) h a =
        ap not (sym (set-already e (holds items) (seat_in (get nat_eq seats e.node) e.property) k (seated e.node e.property) (sym is-in ∙ a)))
        ∙ ap (λ l. not (list_any (sets_same e) (entries_in l))) view

pub added-new : {S : Type 0} (items : List Item) (held : List Held) (e : applied.Entry) (seats : IndexMap ℕ Seats S) (s : Seats) (at : Option ℕ) → holds items ≡ held → IsSeated (holds items) seats
    → s ≡ seats_or (get nat_eq seats e.node) → at ≡ seat_of s e.property → is_some at ≡ false → true ≡ not (list_any (sets_same e) (entries_in held))
added-new items held e seats s at view seated s-is at-is free =
    ap not (sym (set-not e (holds items) (seat_in (get nat_eq seats e.node) e.property) (seated e.node e.property) (sym is-in ∙ unset at free)))
    ∙ ap (λ l. not (list_any (sets_same e) (entries_in l))) view
  where
    is-in : at ≡ seat_in (get nat_eq seats e.node) e.property
    is-in = at-is ∙ ap (λ t. seat_of t e.property) s-is ∙ seat-or (get nat_eq seats e.node) e.property

    unset : (o : Option ℕ) → is_some o ≡ false → o ≡ None
    unset None h = refl
    unset (Some j) h = cc h

-- ---- what is looked up

pub found-entry : (held : List Held) (n : ℕ) (p : Property) (o : Option Item) → option_map held_of o ≡ held_at held n p → option_map (λ (i : Item). entry_of i.entry) o ≡ find (sets_on n p) (entries_in held)
found-entry held n p o e =
    by o ∙ ap (option_map (λ (h : Held). h.entry)) e ∙ sym (find-map (λ (h : Held). h.entry) (sets_on n p) held)
  where
    by : (o : Option Item) → option_map (λ (i : Item). entry_of i.entry) o ≡ option_map (λ (h : Held). h.entry) (option_map held_of o)
    by None = refl
    by (Some i) = refl

pub found-computed : (es : List applied.Entry) (n : ℕ) (p : Property) (e : applied.Entry) → is_property p Kind ≡ false → Some e ≡ find (sets_on n p) es → is_computed e ≡ true
found-computed es n p e c h = computed-on n p e c (find-passes (sets_on n p) es e (sym h))

pub truth-item : (held : List Held) (stood : List Valued) (e : applied.Entry) (o : Option Item) → is_computed e ≡ true → valued_in held ≡ stood → option_map held_of o ≡ held_same held e
    → option_and_then (λ (i : Item). i.truth) o ≡ truth_from stood e
truth-item held stood e o c is h =
    by o ∙ ap (option_and_then (λ (t : Held). t.truth)) h ∙ sym (truth-stood held e c) ∙ ap (λ l. truth_from l e) is
  where
    by : (o : Option Item) → option_and_then (λ (i : Item). i.truth) o ≡ option_and_then (λ (t : Held). t.truth) (option_map held_of o)
    by None = refl
    by (Some i) = refl

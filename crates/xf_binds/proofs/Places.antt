-- Where the entries of nodes stand, as they come one by one.
use Rattle.std.proofs.Common.{◌≡◌, ℕ, zero, suc, Bool, true, false, cond, ◌&&◌, ◌||◌, ◌<◌, List, [], ◌∷◌, ◌++◌, length, Option, Some, None, is_some, slice_get, nat_eq, ◌==◌, refl, sym, ap, ◌∙◌, arith}
use Rattle.std.specs.List.{list_any}
use Rattle.std.proofs.lemmas.Bool.Decides.{nat_tests}
use Rattle.std.proofs.lemmas.Bool.{eqb-true}
use Rattle.indexmap.specs.IndexMap.{IndexMap, get}
use Rattle.xf_def_model.specs.declared.property.Property.{Property}
use Rattle.xf_def_model.specs.declared.property.Property.TheVariants.{Kind, Calculate, Relevant, Readonly, Required, Constraint}
use Rattle.xf_def_model.specs.Applied as applied
use Rattle.xf_def_model.specs.Applied.{is_property, sets_same}
use Rattle.xf_binds.specs.declared.entry.Seats.{Seats}
use Rattle.xf_binds.specs.Held.{AreSet, Held, IsSeated, entries_in, held_as, held_at, held_on, held_same, is_seat, is_set, newly_held, no_seats, passes, seat_in, seat_of, seats_or, seats_with}
use Rattle.xf_binds.proofs.Finds.{false-true, find-none, find-one, kept_if}

-- ---- the seats of one node

pub seat-same : (s : Seats) (q p : Property) → is_property q p ≡ true → seat_of s q ≡ seat_of s p
seat-same s Kind Kind h = refl
seat-same s Kind Calculate h = false-true h
seat-same s Kind Relevant h = false-true h
seat-same s Kind Readonly h = false-true h
seat-same s Kind Required h = false-true h
seat-same s Kind Constraint h = false-true h
seat-same s Calculate Kind h = false-true h
seat-same s Calculate Calculate h = refl
seat-same s Calculate Relevant h = false-true h
seat-same s Calculate Readonly h = false-true h
seat-same s Calculate Required h = false-true h
seat-same s Calculate Constraint h = false-true h
seat-same s Relevant Kind h = false-true h
seat-same s Relevant Calculate h = false-true h
seat-same s Relevant Relevant h = refl
seat-same s Relevant Readonly h = false-true h
seat-same s Relevant Required h = false-true h
seat-same s Relevant Constraint h = false-true h
seat-same s Readonly Kind h = false-true h
seat-same s Readonly Calculate h = false-true h
seat-same s Readonly Relevant h = false-true h
seat-same s Readonly Readonly h = refl
seat-same s Readonly Required h = false-true h
seat-same s Readonly Constraint h = false-true h
seat-same s Required Kind h = false-true h
seat-same s Required Calculate h = false-true h
seat-same s Required Relevant h = false-true h
seat-same s Required Readonly h = false-true h
seat-same s Required Required h = refl
seat-same s Required Constraint h = false-true h
seat-same s Constraint Kind h = false-true h
seat-same s Constraint Calculate h = false-true h
seat-same s Constraint Relevant h = false-true h
seat-same s Constraint Readonly h = false-true h
seat-same s Constraint Required h = false-true h
seat-same s Constraint Constraint h = refl

pub seat-with : (s : Seats) (q p : Property) (k : ℕ) → seat_of (seats_with s p k) q ≡ cond (is_property q p) (Some k) (seat_of s q)
seat-with s Kind Kind k = refl
seat-with s Kind Calculate k = refl
seat-with s Kind Relevant k = refl
seat-with s Kind Readonly k = refl
seat-with s Kind Required k = refl
seat-with s Kind Constraint k = refl
seat-with s Calculate Kind k = refl
seat-with s Calculate Calculate k = refl
seat-with s Calculate Relevant k = refl
seat-with s Calculate Readonly k = refl
seat-with s Calculate Required k = refl
seat-with s Calculate Constraint k = refl
seat-with s Relevant Kind k = refl
seat-with s Relevant Calculate k = refl
seat-with s Relevant Relevant k = refl
seat-with s Relevant Readonly k = refl
seat-with s Relevant Required k = refl
seat-with s Relevant Constraint k = refl
seat-with s Readonly Kind k = refl
seat-with s Readonly Calculate k = refl
seat-with s Readonly Relevant k = refl
seat-with s Readonly Readonly k = refl
seat-with s Readonly Required k = refl
seat-with s Readonly Constraint k = refl
seat-with s Required Kind k = refl
seat-with s Required Calculate k = refl
seat-with s Required Relevant k = refl
seat-with s Required Readonly k = refl
seat-with s Required Required k = refl
seat-with s Required Constraint k = refl
seat-with s Constraint Kind k = refl
seat-with s Constraint Calculate k = refl
seat-with s Constraint Relevant k = refl
seat-with s Constraint Readonly k = refl
seat-with s Constraint Required k = refl
seat-with s Constraint Constraint k = refl

pub property-turned : (p q : Property) → is_property p q ≡ is_property q p
property-turned Kind Kind = refl
property-turned Kind Calculate = refl
property-turned Kind Relevant = refl
property-turned Kind Readonly = refl
property-turned Kind Required = refl
property-turned Kind Constraint = refl
property-turned Calculate Kind = refl
property-turned Calculate Calculate = refl
property-turned Calculate Relevant = refl
property-turned Calculate Readonly = refl
property-turned Calculate Required = refl
property-turned Calculate Constraint = refl
property-turned Relevant Kind = refl
property-turned Relevant Calculate = refl
property-turned Relevant Relevant = refl
property-turned Relevant Readonly = refl
property-turned Relevant Required = refl
property-turned Relevant Constraint = refl
property-turned Readonly Kind = refl
property-turned Readonly Calculate = refl
property-turned Readonly Relevant = refl
property-turned Readonly Readonly = refl
property-turned Readonly Required = refl
property-turned Readonly Constraint = refl
property-turned Required Kind = refl
property-turned Required Calculate = refl
property-turned Required Relevant = refl
property-turned Required Readonly = refl
property-turned Required Required = refl
property-turned Required Constraint = refl
property-turned Constraint Kind = refl
property-turned Constraint Calculate = refl
property-turned Constraint Relevant = refl
property-turned Constraint Readonly = refl
property-turned Constraint Required = refl
property-turned Constraint Constraint = refl

no-seat : (q : Property) → seat_of no_seats q ≡ None
no-seat Kind = refl
no-seat Calculate = refl
no-seat Relevant = refl
no-seat Readonly = refl
no-seat Required = refl
no-seat Constraint = refl

pub seat-or : (o : Option Seats) (q : Property) → seat_of (seats_or o) q ≡ seat_in o q
seat-or None q = no-seat q
seat-or (Some s) q = refl

-- ---- an entry more

passes-last : (test : Held → Bool) (xs : List Held) (x : Held) (i : ℕ) → passes test (slice_get (xs ++ x ∷ []) i) ≡ (passes test (slice_get xs i) || ((length xs == i) && test x))
passes-last test [] x zero = refl
passes-last test [] x (suc i) = ap (λ b. b && test x) (sym (never i))
  where
    never : (i : ℕ) → (zero == suc i) ≡ false
    never i = grind (arith, nat_tests)
passes-last test (y ∷ ys) x zero = first (test y) ∙ ap (λ b. test y || (b && test x)) (sym (never (length ys)))
  where
    never : (i : ℕ) → (suc i == zero) ≡ false
    never i = grind (arith, nat_tests)

    first : (b : Bool) → b ≡ (b || false)
    first true = refl
    first false = refl
passes-last test (y ∷ ys) x (suc i) = passes-last test ys x i ∙ ap (λ b. passes test (slice_get ys i) || (b && test x)) (same (length ys) i)
  where
    same : (a b : ℕ) → (a == b) ≡ (suc a == suc b)
    same a b = grind (arith, nat_tests)

or-none : (b : Bool) → b ≡ (b || false)
or-none true = refl
or-none false = refl

and-none : (a b : Bool) → b ≡ false → (a && b) ≡ false
and-none true b h = h
and-none false b h = refl

and-some : (a b : Bool) → b ≡ true → a ≡ (a && b)
and-some true b h = sym h
and-some false b h = refl

-- the seats of all nodes, where one got its seat behind all others
more : (o : Option Seats) (n : ℕ) (p : Property) (k : ℕ) → seat_in o p ≡ None → (m : ℕ) (other : Option Seats) → (nat_eq n m ≡ true → other ≡ o) → (q : Property) (i : ℕ)
    → is_seat (seat_in (cond (nat_eq n m) (Some (seats_with (seats_or o) p k)) other) q) i ≡ (is_seat (seat_in other q) i || ((k == i) && (nat_eq n m && is_property p q)))
more o n p k none m other same q i = by (nat_eq n m) same
  where
    here : (b : Bool) → is_property q p ≡ b → is_seat (cond b (Some k) (seat_of (seats_or o) q)) i ≡ (is_seat (seat_in o q) i || ((k == i) && is_property p q))
    here true e =
        let free : seat_in o q ≡ None = sym (seat-or o q) ∙ seat-same (seats_or o) q p e ∙ seat-or o p ∙ none in
        and-some (k == i) (is_property p q) (property-turned p q ∙ e) ∙ ap (λ t. is_seat t i || ((k == i) && is_property p q)) (sym free)
    here false e =
        ap (λ t. is_seat t i) (seat-or o q) ∙ or-none (is_seat (seat_in o q) i)
        ∙ ap (λ b. is_seat (seat_in o q) i || b) (sym (and-none (k == i) (is_property p q) (property-turned p q ∙ e)))

    by : (b : Bool) → (b ≡ true → other ≡ o) → is_seat (seat_in (cond b (Some (seats_with (seats_or o) p k)) other) q) i ≡ (is_seat (seat_in other q) i || ((k == i) && (b && is_property p q)))
    by true g =
        ap (λ t. is_seat t i) (seat-with (seats_or o) q p k) ∙ here (is_property q p) refl
        ∙ ap (λ t. is_seat (seat_in t q) i || ((k == i) && is_property p q)) (sym (g refl))
    by false g = or-none (is_seat (seat_in other q) i) ∙ ap (λ b. is_seat (seat_in other q) i || b) (sym (and-none (k == i) false refl))

pub seated-more : {S : Type 0} (held : List Held) (seats new : IndexMap ℕ Seats S) (e : applied.Entry) → IsSeated held seats → seat_in (get nat_eq seats e.node) e.property ≡ None
    → ((m : ℕ) → get nat_eq new m ≡ cond (nat_eq e.node m) (Some (seats_with (seats_or (get nat_eq seats e.node)) e.property (length held))) (get nat_eq seats m))
    → IsSeated (held ++ newly_held e ∷ []) new
seated-more held seats new e seated none updates = λ m q i.
    ap (λ o. is_seat (seat_in o q) i) (updates m)
    ∙ more (get nat_eq seats e.node) e.node e.property (length held) none m (get nat_eq seats m) (λ h. ap (get nat_eq seats) (sym (eqb-true e.node m h))) q i
    ∙ ap (λ b. b || ((length held == i) && held_on m q (newly_held e))) (seated m q i)
    ∙ sym (passes-last (held_on m q) held (newly_held e) i)

pub set-more : (held : List Held) (last : Seats) (e : applied.Entry) (k : ℕ) → AreSet held last → AreSet (held ++ newly_held e ∷ []) (seats_with last e.property k)
set-more held last e k h = λ p.
    ap is_some (seat-with last p e.property k)
    ∙ by (is_property p e.property) (seat_of last p)
    ∙ ap (λ b. b || is_property p e.property) (h p)
    ∙ ap (λ b. is_set p (entries_in held) || b) (property-turned p e.property)
    ∙ sym (set-last p held)
  where
    by : (b : Bool) (o : Option ℕ) → is_some (cond b (Some k) o) ≡ (is_some o || b)
    by true None = refl
    by true (Some i) = refl
    by false None = refl
    by false (Some i) = refl

    set-last : (p : Property) (xs : List Held) → is_set p (entries_in (xs ++ newly_held e ∷ [])) ≡ (is_set p (entries_in xs) || is_property e.property p)
    set-last p [] = alone (is_property e.property p)
      where
        alone : (b : Bool) → (b || false) ≡ b
        alone true = refl
        alone false = refl
    set-last p (x ∷ xs) = ap (λ b. is_property x.entry.property p || b) (set-last p xs) ∙ joined (is_property x.entry.property p) (is_set p (entries_in xs)) (is_property e.property p)
      where
        joined : (a b c : Bool) → (a || (b || c)) ≡ ((a || b) || c)
        joined true b c = refl
        joined false b c = refl

pub set-none : AreSet [] no_seats
set-none = at-none
  where
    at-none : (p : Property) → is_some (seat_of no_seats p) ≡ false
    at-none Kind = refl
    at-none Calculate = refl
    at-none Relevant = refl
    at-none Readonly = refl
    at-none Required = refl
    at-none Constraint = refl

-- ---- whether a property is set already

passes-none : (test : Held → Bool) (xs : List Held) → ((i : ℕ) → passes test (slice_get xs i) ≡ false) → list_any test xs ≡ false
passes-none test [] h = refl
passes-none test (x ∷ xs) h = let e : test x ≡ false = h zero in rw e (passes-none test xs (λ i. h (suc i)))

passes-some : (test : Held → Bool) (xs : List Held) (i : ℕ) → passes test (slice_get xs i) ≡ true → list_any test xs ≡ true
passes-some test [] i h = false-true h
passes-some test (x ∷ xs) zero h = ap (λ b. b || list_any test xs) h
passes-some test (x ∷ xs) (suc i) h = by (test x) (passes-some test xs i h)
  where
    by : (b : Bool) → list_any test xs ≡ true → (b || list_any test xs) ≡ true
    by true e = refl
    by false e = e

-- the test of an entry, asked the other way round
same-any : (e : applied.Entry) (held : List Held) → list_any (sets_same e) (entries_in held) ≡ list_any (held_on e.node e.property) held
same-any e [] = refl
same-any e (h ∷ hs) =
    ap (λ b. (b && is_property e.property h.entry.property) || list_any (sets_same e) (entries_in hs)) (turned e.node h.entry.node)
    ∙ ap (λ b. ((h.entry.node == e.node) && b) || list_any (sets_same e) (entries_in hs)) (property-turned e.property h.entry.property)
    ∙ ap (λ b. held_on e.node e.property h || b) (same-any e hs)
  where
    turned : (a b : ℕ) → (a == b) ≡ (b == a)
    turned a b = grind (arith, nat_tests)

pub set-not : (e : applied.Entry) (held : List Held) (seat : Option ℕ) → ((i : ℕ) → is_seat seat i ≡ passes (held_on e.node e.property) (slice_get held i)) → seat ≡ None → list_any (sets_same e) (entries_in held) ≡ false
set-not e held seat h none = same-any e held ∙ passes-none (held_on e.node e.property) held (λ i. sym (h i) ∙ ap (λ s. is_seat s i) none)

pub set-already : (e : applied.Entry) (held : List Held) (seat : Option ℕ) (k : ℕ) → ((i : ℕ) → is_seat seat i ≡ passes (held_on e.node e.property) (slice_get held i)) → seat ≡ Some k → list_any (sets_same e) (entries_in held) ≡ true
set-already e held seat k h some = same-any e held ∙ passes-some (held_on e.node e.property) held k (sym (h k) ∙ ap (λ s. is_seat s k) some ∙ same k)
  where
    same : (n : ℕ) → (n == n) ≡ true
    same n = grind (arith, nat_tests)

-- ---- what stands in a seat

seat-passes : (test : Held → Bool) (xs : List Held) (j : ℕ) → ((i : ℕ) → is_seat (Some j) i ≡ passes test (slice_get xs i)) → passes test (slice_get xs j) ≡ true
seat-passes test xs j h = sym (h j) ∙ same j
  where
    same : (n : ℕ) → (n == n) ≡ true
    same n = grind (arith, nat_tests)

passes-within : (test : Held → Bool) (xs : List Held) (j : ℕ) → passes test (slice_get xs j) ≡ true → j < length xs
passes-within test [] j h = false-true h
passes-within test (x ∷ xs) zero h = omega arith
passes-within test (x ∷ xs) (suc j) h = let k : j < length xs = passes-within test xs j h in omega (arith, k)

pub seat-within : (n : ℕ) (p : Property) (held : List Held) (seat : Option ℕ) (j : ℕ) → ((i : ℕ) → is_seat seat i ≡ passes (held_on n p) (slice_get held i)) → seat ≡ Some j → j < length held
seat-within n p held seat j h e = passes-within (held_on n p) held j (seat-passes (held_on n p) held j (λ i. ap (λ s. is_seat s i) (sym e) ∙ h i))

pub held-none : (n : ℕ) (p : Property) (held : List Held) (seat : Option ℕ) → ((i : ℕ) → is_seat seat i ≡ passes (held_on n p) (slice_get held i)) → seat ≡ None → held_at held n p ≡ None
held-none n p held seat h e = find-none (held_on n p) held (λ i. sym (h i) ∙ ap (λ s. is_seat s i) e)

pub held-some : (n : ℕ) (p : Property) (held : List Held) (seat : Option ℕ) (j : ℕ) → ((i : ℕ) → is_seat seat i ≡ passes (held_on n p) (slice_get held i)) → seat ≡ Some j → held_at held n p ≡ slice_get held j
held-some n p held seat j h e =
    find-one (held_on n p) held j (λ i s. eqb-true j i (ap (λ o. is_seat o i) (sym e) ∙ h i ∙ s))
    ∙ by (slice_get held j) (seat-passes (held_on n p) held j (λ i. ap (λ s. is_seat s i) (sym e) ∙ h i))
  where
    by : (o : Option Held) → passes (held_on n p) o ≡ true → kept_if (held_on n p) o ≡ o
    by None s = refl
    by (Some x) s = ap (λ b. cond b (Some x) None) s

-- the same attribute of the same bind

pub same-on : (e : applied.Entry) (h : Held) → held_as e h ≡ (held_on e.node e.property h && (e.bind == h.entry.bind))
same-on e h =
    ap (λ b. (b && is_property e.property h.entry.property) && (e.bind == h.entry.bind)) (turned e.node h.entry.node)
    ∙ ap (λ b. ((h.entry.node == e.node) && b) && (e.bind == h.entry.bind)) (property-turned e.property h.entry.property)
  where
    turned : (a b : ℕ) → (a == b) ≡ (b == a)
    turned a b = grind (arith, nat_tests)

pub and-first : (a b : Bool) → (a && b) ≡ true → a ≡ true
and-first true b h = refl
and-first false b h = h

passes-on : (e : applied.Entry) (o : Option Held) → passes (held_as e) o ≡ true → passes (held_on e.node e.property) o ≡ true
passes-on e None h = h
passes-on e (Some x) h = and-first (held_on e.node e.property x) (e.bind == x.entry.bind) (sym (same-on e x) ∙ h)

pub same-none : (e : applied.Entry) (held : List Held) (seat : Option ℕ) → ((i : ℕ) → is_seat seat i ≡ passes (held_on e.node e.property) (slice_get held i)) → seat ≡ None → held_same held e ≡ None
same-none e held seat h none =
    find-none (held_as e) held (λ i. not-on (slice_get held i) (sym (h i) ∙ ap (λ s. is_seat s i) none))
  where
    not-on : (o : Option Held) → passes (held_on e.node e.property) o ≡ false → passes (held_as e) o ≡ false
    not-on None k = refl
    not-on (Some x) k = same-on e x ∙ ap (λ b. b && (e.bind == x.entry.bind)) k

pub same-some : (e : applied.Entry) (held : List Held) (seat : Option ℕ) (j : ℕ) (x : Held) → ((i : ℕ) → is_seat seat i ≡ passes (held_on e.node e.property) (slice_get held i)) → seat ≡ Some j → slice_get held j ≡ Some x
    → held_same held e ≡ cond (e.bind == x.entry.bind) (Some x) None
same-some e held seat j x h some is =
    find-one (held_as e) held j (λ i s. eqb-true j i (ap (λ o. is_seat o i) (sym some) ∙ h i ∙ passes-on e (slice_get held i) s))
    ∙ ap (kept_if (held_as e)) is
    ∙ ap (λ b. cond b (Some x) None) (same-on e x ∙ ap (λ b. b && (e.bind == x.entry.bind)) on)
  where
    on : held_on e.node e.property x ≡ true
    on = ap (passes (held_on e.node e.property)) (sym is) ∙ seat-passes (held_on e.node e.property) held j (λ i. ap (λ s. is_seat s i) (sym some) ∙ h i)

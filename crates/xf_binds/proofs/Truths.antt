-- What is told of one property of one node is what the values of the entries say.
use Rattle.std.proofs.Common.{◌≡◌, ℕ, Bool, true, false, not, ◌&&◌, List, [], ◌∷◌, filter, find, Option, Some, None, option_map, option_and_then, is_some, ◌==◌, refl, sym, ap, ◌∙◌}
use Rattle.std.proofs.lemmas.Bool.{eqb-true}
use Rattle.xf_def_xpath.specs.declared.value.Value.{Value}
use Rattle.xf_def_xpath.specs.declared.value.Value.TheVariants.{Truth}
use Rattle.xf_def_xpath.specs.Conversions.{truth_of}
use Rattle.xf_def_model.specs.declared.property.Property.{Property}
use Rattle.xf_def_model.specs.declared.property.Property.TheVariants.{Kind}
use Rattle.xf_def_model.specs.Applied.{Entry, place_of, is_property}
use Rattle.xf_def_model.specs.Entries.{is_computed}
use Rattle.xf_def_model.specs.Settled.{Valued}
use Rattle.xf_def_model.specs.Pertinent.{is_same}
use Rattle.xf_def_model.specs.Properties.{sets_on, has_own, own, truth_or}
use Rattle.xf_binds.specs.Held.{Held, held_as, held_same}
use Rattle.xf_binds.specs.Kept.{Kept, truth_from, truth_in, value_from, valued_in, valued_of, values_in, values_of}
use Rattle.xf_binds.specs.Table.{truth_among, truth_told, unless_told}
use Rattle.xf_binds.proofs.Finds.{find-map, find-filter, find-append, any-find, or_found}

and-left : (a b : Bool) → (a && b) ≡ true → a ≡ true
and-left true b h = refl
and-left false b h = h

and-right : (a b : Bool) → (a && b) ≡ true → b ≡ true
and-right true b h = h
and-right false b h = cc h

eq-same : (a b : ℕ) → (a == b) ≡ true → a ≡ b
eq-same a b h = eqb-true a b h

-- an entry that sets a computed property is computed
computed-same : (e other : Entry) → is_computed e ≡ true → is_property e.property other.property ≡ true → is_computed other ≡ true
computed-same e other c h = ap (λ k. not (k == 0)) (sym (eq-same (place_of e.property) (place_of other.property) h)) ∙ c

pub computed-held : (e : Entry) (h : Held) → is_computed e ≡ true → held_as e h ≡ true → is_computed h.entry ≡ true
computed-held e h c s =
    computed-same e h.entry c (and-right (e.node == h.entry.node) (is_property e.property h.entry.property) (and-left ((e.node == h.entry.node) && is_property e.property h.entry.property) (e.bind == h.entry.bind) s))

pub computed-on : (n : ℕ) (p : Property) (e : Entry) → is_property p Kind ≡ false → sets_on n p e ≡ true → is_computed e ≡ true
computed-on n p e c h = ap (λ k. not (k == 0)) (eq-same (place_of e.property) (place_of p) (and-right (e.node == n) (is_property e.property p) h)) ∙ ap not c

-- ---- in what stood

truth-back : (h : Held) → option_map truth_of (valued_of h).value ≡ h.truth
truth-back h = by h.truth
  where
    by : (t : Option Bool) → option_map truth_of (option_map Truth t) ≡ t
    by None = refl
    by (Some b) = refl

pub truth-stood : (held : List Held) (e : Entry) → is_computed e ≡ true → truth_from (valued_in held) e ≡ option_and_then (λ h. h.truth) (held_same held e)
truth-stood held e c =
    ap (λ v. option_map truth_of (option_and_then (λ w. w.value) v))
    (find-map valued_of (λ v. is_same e v.entry) (filter (λ h. is_computed h.entry) held)
    ∙ ap (option_map valued_of) (find-filter (held_as e) (λ h. is_computed h.entry) (λ h s. computed-held e h c s) held))
    ∙ by (held_same held e)
  where
    by : (o : Option Held) → option_map truth_of (option_and_then (λ w. w.value) (option_map valued_of o)) ≡ option_and_then (λ h. h.truth) o
    by None = refl
    by (Some h) = truth-back h

-- ---- in the values of a model

pub found-in : (k : Kept) (n : ℕ) (p : Property) → is_property p Kind ≡ false → find (λ v. sets_on n p v.entry) (values_of k) ≡ option_map (value_from k.stood) (find (sets_on n p) k.entries)
found-in k n p c =
    find-map (value_from k.stood) (λ v. sets_on n p v.entry) (filter is_computed k.entries)
    ∙ ap (option_map (value_from k.stood)) (find-filter (sets_on n p) is_computed (λ e s. computed-on n p e c s) k.entries)

-- the value, where it is told
abbrev pub told_truth : Option Valued → Option (Option Bool)
told_truth None = None
told_truth (Some v) = Some (option_map truth_of v.value)

told-in : (k : Kept) (n : ℕ) (p : Property) → is_property p Kind ≡ false → told_truth (find (λ v. sets_on n p v.entry) (values_of k)) ≡ truth_in k p n
told-in k n p c = ap told_truth (found-in k n p c) ∙ by (find (sets_on n p) k.entries)
  where
    by : (o : Option Entry) → told_truth (option_map (value_from k.stood) o) ≡ option_map (truth_from k.stood) o
    by None = refl
    by (Some e) = refl

pub told-among : (table : List Kept) (n : ℕ) (p : Property) → is_property p Kind ≡ false → told_truth (find (λ v. sets_on n p v.entry) (values_in table)) ≡ truth_among table p n
told-among [] n p c = refl
told-among (k ∷ ks) n p c =
    ap told_truth (find-append (λ v. sets_on n p v.entry) (values_of k) (values_in ks))
    ∙ by (find (λ v. sets_on n p v.entry) (values_of k)) (find (λ v. sets_on n p v.entry) (values_in ks))
    ∙ ap (λ t. unless_told t (told_truth (find (λ v. sets_on n p v.entry) (values_in ks)))) (told-in k n p c)
    ∙ ap (unless_told (truth_in k p n)) (told-among ks n p c)
  where
    by : (o other : Option Valued) → told_truth (or_found o other) ≡ unless_told (told_truth o) (told_truth other)
    by None other = refl
    by (Some v) other = refl

-- ---- the truth of a property

pub own-told : (values : List Valued) (n : ℕ) (p : Property) (d : Bool) → own values p d n ≡ truth_told d (told_truth (find (λ v. sets_on n p v.entry) values))
own-told values n p d = by (find (λ v. sets_on n p v.entry) values)
  where
    given : (o : Option Value) → truth_or d o ≡ truth_told d (Some (option_map truth_of o))
    given None = refl
    given (Some value) = refl

    by : (o : Option Valued) → truth_or d (option_and_then (λ v. v.value) o) ≡ truth_told d (told_truth o)
    by None = refl
    by (Some v) = given v.value

pub own-among : (table : List Kept) (n : ℕ) (p : Property) (d : Bool) → is_property p Kind ≡ false → own (values_in table) p d n ≡ truth_told d (truth_among table p n)
own-among table n p d c = own-told (values_in table) n p d ∙ ap (truth_told d) (told-among table n p c)

pub has-among : (table : List Kept) (n : ℕ) (p : Property) → is_property p Kind ≡ false → has_own (values_in table) p n ≡ is_some (truth_among table p n)
has-among table n p c = any-find (λ v. sets_on n p v.entry) (values_in table) ∙ by (find (λ v. sets_on n p v.entry) (values_in table)) ∙ ap is_some (told-among table n p c)
  where
    by : (o : Option Valued) → is_some o ≡ is_some (told_truth o)
    by None = refl
    by (Some v) = refl

-- of one model alone
pub own-in : (k : Kept) (n : ℕ) (p : Property) (d : Bool) → is_property p Kind ≡ false → own (values_of k) p d n ≡ truth_told d (truth_in k p n)
own-in k n p d c = own-told (values_of k) n p d ∙ ap (truth_told d) (told-in k n p c)

-- Entries that keep their truths by their places have alike values.
use Rattle.std.proofs.Common.{◌≡◌, ◌<◌, ◌≤◌, ◌+◌, ℕ, zero, suc, Bool, true, false, cond, ◌&&◌, List, [], ◌∷◌, map, filter, find, get_or, Option, Some, None, option_map, slice_get, length, ◌==◌, refl, sym, ap, ◌∙◌, subst, arith}
use Rattle.std.specs.Prelude.{option_and_then}
use Rattle.std.specs.Option.{option_eq}
use Rattle.std.proofs.Math.Bool.{beq}
use Rattle.std.proofs.lemmas.Bool.{eqb-true}
use Rattle.std.proofs.lemmas.Bool.Decides.{nat_tests}
use Rattle.std.proofs.lemmas.Option.{slice_get_within}
use Rattle.xf_def_model.specs.declared.property.Property.{Property}
use Rattle.xf_def_model.specs.declared.property.Property.TheVariants.{Kind, Calculate, Relevant, Readonly, Required, Constraint}
use Rattle.xf_def_model.specs.Applied.{Entry}
use Rattle.xf_def_model.specs.Entries.{is_computed}
use Rattle.xf_def_model.specs.Settled.{Valued}
use Rattle.xf_def_model.specs.Properties.{sets_on}
use Rattle.xf_binds.specs.Alike.{AreAlike, IsAlike, is_shown}
use Rattle.xf_binds.specs.Held.{AreSingle, Held, held_as, held_by, held_same, place_on}
use Rattle.xf_binds.specs.Kept.{Kept, recalculated, truth_at, truth_from, valued_in, value_from, values_of}
use Rattle.xf_binds.proofs.Places.{same-on}
use Rattle.xf_binds.proofs.Singles.{sets-self, truth-there}
use Rattle.xf_binds.proofs.Truths.{truth-stood}

-- ---- one of those that are told, by its place

abbrev told_with : Entry → Option Bool → Held
told_with e t = record { entry = e; truth = t }

bind-self : (e : Entry) → (e.bind == e.bind) ≡ true
bind-self e = grind (arith, nat_tests)

first-same : (e x : Entry) (t : Option Bool) (rest : List Held) → x ≡ e → find (held_as e) (told_with x t ∷ rest) ≡ Some (told_with e t)
first-same e x t rest same =
    ap (λ y. find (held_as e) (told_with y t ∷ rest)) same
    ∙ ap (λ b. cond b (Some (told_with e t)) (find (held_as e) rest)) (same-on e (told_with e t) ∙ ap (λ b. b && (e.bind == e.bind)) (sets-self e) ∙ bind-self e)

later-same : (e x : Entry) (t : Option Bool) (rest : List Held) → sets_on e.node e.property x ≡ false → find (held_as e) (told_with x t ∷ rest) ≡ find (held_as e) rest
later-same e x t rest other =
    ap (λ b. cond b (Some (told_with x t)) (find (held_as e) rest)) (same-on e (told_with x t) ∙ ap (λ b. b && (e.bind == x.bind)) other)

next-place : (o : Option ℕ) (i : ℕ) → option_map suc o ≡ Some (suc i) → o ≡ Some i
next-place None i h = cc h
next-place (Some j) i h = let same : j ≡ i = cc h in ap Some same

no-place : {P : Type 0} (o : Option ℕ) → option_map suc o ≡ Some 0 → P
no-place None h = cc h
no-place (Some j) h = cc h

-- one entry before others of which the same is known
more-told : (e x : Entry) (es : List Entry) (t : Option Bool) (rest : List Held) (truth : ℕ → Option Bool)
    → ((i : ℕ) → place_on es e.node e.property ≡ Some i → slice_get es i ≡ Some e → find (held_as e) rest ≡ Some (told_with e (truth i)))
    → (b : Bool) → sets_on e.node e.property x ≡ b → (i : ℕ) → cond b (Some 0) (option_map suc (place_on es e.node e.property)) ≡ Some i → slice_get (x ∷ es) i ≡ Some e
    → (u : Option Bool) → ((j : ℕ) → i ≡ suc j → u ≡ truth j) → (i ≡ 0 → u ≡ t) → find (held_as e) (told_with x t ∷ rest) ≡ Some (told_with e u)
more-told e x es t rest truth known true s zero p h u later now = let same : x ≡ e = cc h in first-same e x t rest same ∙ ap (λ v. Some (told_with e v)) (sym (now refl))
more-told e x es t rest truth known true s (suc j) p h u later now = cc p
more-told e x es t rest truth known false s zero p h u later now = no-place (place_on es e.node e.property) p
more-told e x es t rest truth known false s (suc j) p h u later now =
    later-same e x t rest s ∙ known j (next-place (place_on es e.node e.property) j p) h ∙ ap (λ v. Some (told_with e v)) (sym (later j refl))

pub told-there : (es : List Entry) (ts : List (Option Bool)) (e : Entry) (i : ℕ) → place_on es e.node e.property ≡ Some i → slice_get es i ≡ Some e → held_same (held_by es ts) e ≡ Some (told_with e (get_or ts i None))
told-there [] ts e i p h = cc p
told-there (x ∷ es) [] e i p h =
    more-told e x es None (held_by es []) (λ j. get_or [] j None) (λ j q g. told-there es [] e j q g) (sets_on e.node e.property x) refl i p h (get_or [] i None) (λ j k. refl) (λ k. refl)
told-there (x ∷ es) (t ∷ ts) e i p h =
    more-told e x es t (held_by es ts) (λ j. get_or ts j None) (λ j q g. told-there es ts e j q g) (sets_on e.node e.property x) refl i p h (get_or (t ∷ ts) i None)
    (λ j k. ap (λ m. get_or (t ∷ ts) m None) k) (λ k. ap (λ m. get_or (t ∷ ts) m None) k)

-- ---- values

-- one that is shown has a value
pub shown-computed : (e : Entry) → is_shown e.property ≡ true → is_computed e ≡ true
shown-computed e h = by e.property h
  where
    by : (p : Property) → is_shown p ≡ true → is_computed (record e { property = p }) ≡ true
    by Relevant k = refl
    by Readonly k = refl
    by Required k = refl
    by Kind k = cc k
    by Calculate k = refl
    by Constraint k = refl

alike-mapped : (f g : Entry → Valued) (es : List Entry) → ((i : ℕ) (e : Entry) → slice_get es i ≡ Some e → is_computed e ≡ true → IsAlike (f e) (g e))
    → AreAlike (map f (filter is_computed es)) (map g (filter is_computed es))
alike-mapped f g [] h = tt
alike-mapped f g (e ∷ es) h = by (is_computed e) refl (alike-mapped f g es (λ i x k. h (suc i) x k))
  where
    by : (b : Bool) → is_computed e ≡ b → AreAlike (map f (filter is_computed es)) (map g (filter is_computed es))
        → AreAlike (map f (cond b (e ∷ filter is_computed es) (filter is_computed es))) (map g (cond b (e ∷ filter is_computed es) (filter is_computed es)))
    by true c rest = (h 0 e refl c, rest)
    by false c rest = rest

-- this entry has this truth too, where its property is shown
abbrev pub KeepsAt : Kept → List (Option Bool) → ℕ → Type 0
KeepsAt k truths place = (e : Entry) → slice_get k.entries place ≡ Some e → is_shown e.property ≡ true → get_or truths place None ≡ truth_at k place

-- one place more
pub keeps-next : (k : Kept) (truths : List (Option Bool)) (at : ℕ) → ((i : ℕ) → i < at → KeepsAt k truths i) → KeepsAt k truths at → (i : ℕ) → i < at + 1 → KeepsAt k truths i
keeps-next k truths at so_far now i l = by (i == at) refl
  where
    by : (b : Bool) → (i == at) ≡ b → KeepsAt k truths i
    by true h = subst (KeepsAt k truths) (sym (eqb-true i at h)) now
    by false h = so_far i (let less : i < at = grind (arith, nat_tests, h, l) in less)

-- past the last place nothing stands
pub keeps-all : (k : Kept) (truths : List (Option Bool)) (at : ℕ) → length k.entries ≤ at → ((i : ℕ) → i < at → KeepsAt k truths i) → (i : ℕ) → KeepsAt k truths i
keeps-all k truths at past so_far i = λ e h. let within : i < length k.entries = slice_get_within k.entries i e h in so_far i (omega (arith, within, past)) e h

pub keeps-alike : (k : Kept) (truths : List (Option Bool)) → AreSingle k.entries → ((place : ℕ) → KeepsAt k truths place) → AreAlike (values_of k) (values_of (recalculated truths k))
keeps-alike k truths single keeps =
    alike-mapped (value_from k.stood) (value_from (valued_in (held_by k.entries truths))) k.entries (λ i e h c. record {
      entry = refl;
      truth = λ shown.
          truth-stood (held_by k.entries truths) e c
          ∙ ap (option_and_then (λ (x : Held). x.truth)) (told-there k.entries truths e i (single i e h) h)
          ∙ keeps i e h shown
          ∙ sym (truth-there k i e (truth_from k.stood e) (sym h) c refl);
    })

-- ---- and alike values are of entries that keep them

alike-at : (f g : Entry → Valued) (es : List Entry) → AreAlike (map f (filter is_computed es)) (map g (filter is_computed es)) → (i : ℕ) (e : Entry) → slice_get es i ≡ Some e → is_computed e ≡ true → IsAlike (f e) (g e)
alike-at f g [] a i e h c = cc h
alike-at f g (x ∷ es) a i e h c = by (λ b j k. alike-at f g es b j e k c) (is_computed x) refl i a h
  where
    by : (AreAlike (map f (filter is_computed es)) (map g (filter is_computed es)) → (j : ℕ) → slice_get es j ≡ Some e → IsAlike (f e) (g e)) → (b : Bool) → is_computed x ≡ b → (i : ℕ)
        → AreAlike (map f (cond b (x ∷ filter is_computed es) (filter is_computed es))) (map g (cond b (x ∷ filter is_computed es) (filter is_computed es))) → slice_get (x ∷ es) i ≡ Some e → IsAlike (f e) (g e)
    by later true k zero a h = let same : x ≡ e = cc h in subst (λ y. IsAlike (f y) (g y)) same a.0
    by later true k (suc j) a h = later a.1 j h
    by later false k zero a h = let same : x ≡ e = cc h in let not : is_computed e ≡ false = subst (λ y. is_computed y ≡ false) same k in cc (c, not)
    by later false k (suc j) a h = later a j h

pub alike-keeps : (k : Kept) (truths : List (Option Bool)) → AreSingle k.entries → AreAlike (values_of k) (values_of (recalculated truths k)) → (place : ℕ) → KeepsAt k truths place
alike-keeps k truths single alike i = λ e h shown.
    let c = shown-computed e shown in
    let same = alike-at (value_from k.stood) (value_from (valued_in (held_by k.entries truths))) k.entries alike i e h c in
    sym (ap (option_and_then (λ (x : Held). x.truth)) (told-there k.entries truths e i (single i e h) h))
    ∙ sym (truth-stood (held_by k.entries truths) e c)
    ∙ same.truth shown
    ∙ truth-there k i e (truth_from k.stood e) (sym h) c refl

pub truths-apart : (a b : Option Bool) → option_eq beq a b ≡ false → a ≡ b → ⊥
truths-apart a b other same = cc (other, itself b, ap (λ t. option_eq beq t b) same)
  where
    itself : (t : Option Bool) → option_eq beq t t ≡ true
    itself None = refl
    itself (Some true) = refl
    itself (Some false) = refl

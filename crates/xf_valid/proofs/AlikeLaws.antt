-- Tables of binds by which nodes have the same properties: the values of their entries are alike, and the same nodes are not valid.
use Rattle.std.proofs.Common.{◌≡◌, ◌<◌, ℕ, zero, suc, Bool, true, false, cond, ◌||◌, ◌&&◌, List, [], ◌∷◌, ◌++◌, map, filter, find, length, Some, not, ◌==◌, refl, sym, ap, ◌∙◌, subst}
use Rattle.std.specs.List.{list_all, list_any}
use Rattle.std.specs.Bool.{OnFalse, OnTrue}
use Rattle.std.proofs.lemmas.Bool.{OnTrue_at, OnTrue_from, eqb-true}
use Rattle.std.proofs.lemmas.List.{get_or-set_same}
use Rattle.xf_def_forest.specs.declared.content.Node.{Node}
use Rattle.xf_def_forest.specs.Visit.{Visit, ancestors_of, has, visits}
use Rattle.xf_def_model.specs.declared.property.Property.{Property}
use Rattle.xf_def_model.specs.declared.property.Property.TheVariants.{Kind, Calculate, Relevant, Readonly, Required, Constraint}
use Rattle.xf_def_model.specs.Applied.{Entry, is_property, place_of}
use Rattle.xf_def_model.specs.Entries.{is_computed}
use Rattle.xf_def_model.specs.Properties.{has_own, is_readonly, is_relevant, own, own_readonly, sets_on}
use Rattle.xf_def_model.specs.Settled.{Valued}
use Rattle.xf_def_ui.specs.declared.marks.Marks.{Marks}
use Rattle.xf_binds.specs.Alike.{AreAlike, is_shown}
use Rattle.xf_binds.specs.Kept.{Kept, committed, no_kept, value_from, values_in, values_of}
use Rattle.xf_binds.specs.Table.{all_committed, kept_at, truth_told, with_kept}
use Rattle.xf_binds.proofs.Truths.{own-told, told_truth}
use Rattle.xf_valid.specs.Nodes.{marks_in, readonly_in, relevant_in, required_in, valid_in}

-- ---- alike values

pub alike-refl : (values : List Valued) → AreAlike values values
alike-refl [] = tt
alike-refl (v ∷ vs) = (record { entry = refl; truth = λ shown. refl }, alike-refl vs)

pub alike-same : (before after : List Valued) → after ≡ before → AreAlike before after
alike-same before after same = subst (AreAlike before) (sym same) (alike-refl before)

pub alike-append : (before after more others : List Valued) → AreAlike before after → AreAlike more others → AreAlike (before ++ more) (after ++ others)
alike-append [] [] more others a b = b
alike-append [] (w ∷ ws) more others a b = absurd a
alike-append (v ∷ vs) [] more others a b = absurd a
alike-append (v ∷ vs) (w ∷ ws) more others a b = (a.0, alike-append vs ws more others a.1 b)

-- ---- the truth of a property of a node

abbrev shown_by : ℕ → Bool
shown_by place = (place == 2) || ((place == 3) || (place == 4))

shown-by : (p : Property) → is_shown p ≡ shown_by (place_of p)
shown-by Kind = refl
shown-by Calculate = refl
shown-by Relevant = refl
shown-by Readonly = refl
shown-by Required = refl
shown-by Constraint = refl

shown-same : (q p : Property) → is_property q p ≡ true → is_shown p ≡ true → is_shown q ≡ true
shown-same q p h s = shown-by q ∙ ap shown_by (eqb-true (place_of q) (place_of p) h) ∙ sym (shown-by p) ∙ s

and-right : (a b : Bool) → (a && b) ≡ true → b ≡ true
and-right true b h = h
and-right false b h = cc h

found-alike : (n : ℕ) (p : Property) → is_shown p ≡ true → (before after : List Valued) → AreAlike before after
    → told_truth (find (λ v. sets_on n p v.entry) after) ≡ told_truth (find (λ v. sets_on n p v.entry) before)
found-alike n p s [] [] a = refl
found-alike n p s [] (w ∷ ws) a = absurd a
found-alike n p s (v ∷ vs) [] a = absurd a
found-alike n p s (v ∷ vs) (w ∷ ws) a =
    ap (λ (e : Entry). told_truth (cond (sets_on n p e) (Some w) (find (λ x. sets_on n p x.entry) ws))) a.0.entry
    ∙ by (sets_on n p v.entry) refl (found-alike n p s vs ws a.1)
  where
    by : (b : Bool) → sets_on n p v.entry ≡ b → told_truth (find (λ x. sets_on n p x.entry) ws) ≡ told_truth (find (λ x. sets_on n p x.entry) vs)
        → told_truth (cond b (Some w) (find (λ x. sets_on n p x.entry) ws)) ≡ told_truth (cond b (Some v) (find (λ x. sets_on n p x.entry) vs))
    by true on rest = ap Some (a.0.truth (shown-same v.entry.property p (and-right (v.entry.node == n) (is_property v.entry.property p) on) s))
    by false on rest = rest

own-alike : (p : Property) (d : Bool) (n : ℕ) → is_shown p ≡ true → (before after : List Valued) → AreAlike before after → own after p d n ≡ own before p d n
own-alike p d n s before after a = own-told after n p d ∙ ap (truth_told d) (found-alike n p s before after a) ∙ sym (own-told before n p d)

has-alike : (p : Property) (n : ℕ) (before after : List Valued) → AreAlike before after → has_own after p n ≡ has_own before p n
has-alike p n [] [] a = refl
has-alike p n [] (w ∷ ws) a = absurd a
has-alike p n (v ∷ vs) [] a = absurd a
has-alike p n (v ∷ vs) (w ∷ ws) a = ap (λ (e : Entry). sets_on n p e || has_own ws p n) a.0.entry ∙ ap (λ b. sets_on n p v.entry || b) (has-alike p n vs ws a.1)

own-readonly-alike : (n : ℕ) (before after : List Valued) → AreAlike before after → own_readonly after n ≡ own_readonly before n
own-readonly-alike n before after a = ap (λ d. own after Readonly d n) (has-alike Calculate n before after a) ∙ own-alike Readonly (has_own before Calculate n) n refl before after a

-- ---- of the nodes above

all-same : {X : Type 0} (f g : X → Bool) → ((x : X) → f x ≡ g x) → (xs : List X) → list_all f xs ≡ list_all g xs
all-same f g h [] = refl
all-same f g h (x ∷ xs) = ap (λ b. b && list_all f xs) (h x) ∙ ap (λ b. g x && b) (all-same f g h xs)

any-same : {X : Type 0} (f g : X → Bool) → ((x : X) → f x ≡ g x) → (xs : List X) → list_any f xs ≡ list_any g xs
any-same f g h [] = refl
any-same f g h (x ∷ xs) = ap (λ b. b || list_any f xs) (h x) ∙ ap (λ b. g x || b) (any-same f g h xs)

relevant-alike : (all : List Visit) (n : ℕ) (before after : List Valued) → AreAlike before after → is_relevant all after n ≡ is_relevant all before n
relevant-alike all n before after a = all-same (own after Relevant true) (own before Relevant true) (λ m. own-alike Relevant true m refl before after a) (n ∷ ancestors_of n all)

readonly-alike : (all : List Visit) (n : ℕ) (before after : List Valued) → AreAlike before after → is_readonly all after n ≡ is_readonly all before n
readonly-alike all n before after a = any-same (own_readonly after) (own_readonly before) (λ m. own-readonly-alike m before after a) (n ∷ ancestors_of n all)

-- ---- nodes that are not valid

abbrev pub invalid_lists : List Kept → List (List ℕ)
invalid_lists table = map (λ k. k.invalid) table

any-mapped : (n : ℕ) (table : List Kept) → list_any (λ k. has n k.invalid) table ≡ list_any (has n) (invalid_lists table)
any-mapped n [] = refl
any-mapped n (k ∷ ks) = ap (λ b. has n k.invalid || b) (any-mapped n ks)

valid-same : (n : ℕ) (before after : List Kept) → invalid_lists after ≡ invalid_lists before → valid_in after n ≡ valid_in before n
valid-same n before after same = ap not (any-mapped n after ∙ ap (list_any (has n)) same ∙ sym (any-mapped n before))

-- ---- the law

abbrev marks_of : Bool → Bool → Bool → Bool → Marks
marks_of relevant readonly required valid = record { relevant = relevant; readonly = readonly; required = required; valid = valid }

pub marks-alike : (before after : List Kept) → AreAlike (values_in before) (values_in after) → invalid_lists after ≡ invalid_lists before → (nodes : List Node) (n : ℕ) → marks_in after nodes n ≡ marks_in before nodes n
marks-alike before after a same nodes n =
    ap (λ b. marks_of b (readonly_in after nodes n) (required_in after n) (valid_in after n)) (relevant-alike (visits nodes) n (values_in before) (values_in after) a)
    ∙ ap (λ b. marks_of (relevant_in before nodes n) b (required_in after n) (valid_in after n)) (readonly-alike (visits nodes) n (values_in before) (values_in after) a)
    ∙ ap (λ b. marks_of (relevant_in before nodes n) (readonly_in before nodes n) b (valid_in after n)) (own-alike Required false n refl (values_in before) (values_in after) a)
    ∙ ap (λ b. marks_of (relevant_in before nodes n) (readonly_in before nodes n) (required_in before n) b) (valid-same n before after same)

-- ---- another is kept of one model

pub values-with : (table : List Kept) (model : ℕ) (k : Kept) → AreAlike (values_of (kept_at table model)) (values_of k) → AreAlike (values_in table) (values_in (with_kept table model k))
values-with [] model k a = tt
values-with (t ∷ ts) zero k a = alike-append (values_of t) (values_of k) (values_in ts) (values_in ts) a (alike-refl (values_in ts))
values-with (t ∷ ts) (suc m) k a = alike-append (values_of t) (values_of t) (values_in ts) (values_in (with_kept ts m k)) (alike-refl (values_of t)) (values-with ts m k a)

pub invalid-with : (table : List Kept) (model : ℕ) (k : Kept) → k.invalid ≡ (kept_at table model).invalid → invalid_lists (with_kept table model k) ≡ invalid_lists table
invalid-with [] model k same = refl
invalid-with (t ∷ ts) zero k same = ap (λ ns. ns ∷ invalid_lists ts) same
invalid-with (t ∷ ts) (suc m) k same = ap (λ l. t.invalid ∷ l) (invalid-with ts m k same)

pub marks-with : (table : List Kept) (model : ℕ) (k : Kept) → AreAlike (values_of (kept_at table model)) (values_of k) → k.invalid ≡ (kept_at table model).invalid
    → (nodes : List Node) (n : ℕ) → marks_in (with_kept table model k) nodes n ≡ marks_in table nodes n
marks-with table model k a same nodes n = marks-alike table (with_kept table model k) (values-with table model k a) (invalid-with table model k same) nodes n

-- where these nodes are kept of one model, as those that are not valid
kept-invalid : (table after : List Kept) (model : ℕ) (ns : List ℕ) → model < length table → after ≡ with_kept table model (record (kept_at table model) { invalid = ns }) → (kept_at after model).invalid ≡ ns
kept-invalid table after model ns there is =
    ap (λ l. (kept_at l model).invalid) is ∙ ap (λ (k : Kept). k.invalid) (get_or-set_same table model (record (kept_at table model) { invalid = ns }) no_kept there)

-- they may be those of before
pub same-invalid : (table after : List Kept) (model : ℕ) (ns : List ℕ) (same : Bool) → model < length table → after ≡ with_kept table model (record (kept_at table model) { invalid = ns })
    → OnTrue same (ns ≡ (kept_at table model).invalid) → OnTrue same ((kept_at after model).invalid ≡ (kept_at table model).invalid)
same-invalid table after model ns same there is h = OnTrue_from same _ (λ t. kept-invalid table after model ns there is ∙ OnTrue_at t h)

-- or others
pub other-invalid : (table after : List Kept) (model : ℕ) (ns : List ℕ) (same : Bool) → model < length table → after ≡ with_kept table model (record (kept_at table model) { invalid = ns })
    → OnFalse same (ns ≡ (kept_at table model).invalid → ⊥) → OnFalse same ((kept_at after model).invalid ≡ (kept_at table model).invalid → ⊥)
other-invalid table after model ns same there is h = subst (λ l. OnFalse same (l ≡ (kept_at table model).invalid → ⊥)) (sym (kept-invalid table after model ns there is)) h

-- ---- neither entries, what stood, nor the nodes that are not valid are others

pub values-same : (before after : Kept) → after.entries ≡ before.entries → after.stood ≡ before.stood → values_of after ≡ values_of before
values-same before after entries stood =
    ap (λ es. map (value_from after.stood) (filter is_computed es)) entries ∙ ap (λ vs. map (value_from vs) (filter is_computed before.entries)) stood

pub record IsUnchanged (before after : Kept) : Type 0 where
  pub entries : after.entries ≡ before.entries
  pub stood : after.stood ≡ before.stood
  pub invalid : after.invalid ≡ before.invalid

abbrev pub AreUnchanged : List Kept → List Kept → Type 0
AreUnchanged [] [] = Unit {0}
AreUnchanged [] (k ∷ ks) = ⊥
AreUnchanged (k ∷ ks) [] = ⊥
AreUnchanged (k ∷ ks) (l ∷ ls) = IsUnchanged k l × AreUnchanged ks ls

unchanged-values : (before after : List Kept) → AreUnchanged before after → values_in after ≡ values_in before
unchanged-values [] [] u = refl
unchanged-values [] (k ∷ ks) u = absurd u
unchanged-values (k ∷ ks) [] u = absurd u
unchanged-values (k ∷ ks) (l ∷ ls) u = ap (λ vs. vs ++ values_in ls) (values-same k l u.0.entries u.0.stood) ∙ ap (λ vs. values_of k ++ vs) (unchanged-values ks ls u.1)

unchanged-invalid : (before after : List Kept) → AreUnchanged before after → invalid_lists after ≡ invalid_lists before
unchanged-invalid [] [] u = refl
unchanged-invalid [] (k ∷ ks) u = absurd u
unchanged-invalid (k ∷ ks) [] u = absurd u
unchanged-invalid (k ∷ ks) (l ∷ ls) u = ap (λ ns. ns ∷ invalid_lists ls) u.0.invalid ∙ ap (λ l. k.invalid ∷ l) (unchanged-invalid ks ls u.1)

pub marks-unchanged : (before after : List Kept) → AreUnchanged before after → (nodes : List Node) (n : ℕ) → marks_in after nodes n ≡ marks_in before nodes n
marks-unchanged before after u = marks-alike before after (alike-same (values_in before) (values_in after) (unchanged-values before after u)) (unchanged-invalid before after u)

unchanged-mapped : (f : Kept → Kept) → ((k : Kept) → IsUnchanged k (f k)) → (table : List Kept) → AreUnchanged table (map f table)
unchanged-mapped f h [] = tt
unchanged-mapped f h (k ∷ ks) = (h k, unchanged-mapped f h ks)

pub marks-committed : (table : List Kept) (nodes : List Node) (n : ℕ) → marks_in (all_committed table) nodes n ≡ marks_in table nodes n
marks-committed table = marks-unchanged table (all_committed table) (unchanged-mapped committed (λ k. record { entries = refl; stood = refl; invalid = refl }) table)

-- where only this one is another, and that is so of it
pub marks-kept : (table : List Kept) (model : ℕ) (k : Kept) → IsUnchanged (kept_at table model) k → (nodes : List Node) (n : ℕ) → marks_in (with_kept table model k) nodes n ≡ marks_in table nodes n
marks-kept table model k u = marks-with table model k (alike-same (values_of (kept_at table model)) (values_of k) (values-same (kept_at table model) k u.entries u.stood)) u.invalid

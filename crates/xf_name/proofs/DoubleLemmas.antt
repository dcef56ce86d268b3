-- Names that stand twice, one after another.
use Rattle.std.proofs.Common.{◌≡◌, ℕ, ◌+◌, ◌<◌, List, [], ◌∷◌, ◌++◌, map, length, drop, get_or, filter_map, Bool, true, false, cond, ◌||◌, ◌&&◌, ◌==◌, not, Some, None, Bor, refl, sym, ap, ◌∙◌}
use Rattle.std.specs.List.{list_any, cons_option}
use Rattle.std.specs.Str.{bytes_eq}
use Rattle.std.proofs.lemmas.Cmp.{nat_eq_equiv, nat_list_eq_equiv}
use Rattle.std.proofs.lemmas.List.{drop_more}
use Rattle.indexmap.specs.IndexSet.{insert_key}
use Rattle.xf_name.specs.Faults.{is_same_name, has_double, expanded}
use Rattle.xf_name.specs.Bindings.{Bindings}
use Rattle.xf_name.specs.declared.lit.Pair.{Pair}

abbrev pub Name : Type 0
Name = ℕ × List ℕ

-- one of the names stands among those before it, of which some are seen
abbrev pub doubles : List Name → List Name → Bool
doubles seen [] = false
doubles seen (x ∷ xs) = list_any (is_same_name x) seen || doubles (seen ++ x ∷ []) xs

abbrev cross : List Name → List Name → Bool
cross seen xs = list_any (λ s. list_any (is_same_name s) xs) seen

cross-none : (seen : List Name) → cross seen [] ≡ false
cross-none [] = refl
cross-none (s ∷ ss) = cross-none ss

or_assoc : (a b c : Bool) → (a || b || c) ≡ (a || (b || c))
or_assoc true b c = refl
or_assoc false b c = refl

or_false : (a : Bool) → (a || false) ≡ a
or_false true = refl
or_false false = refl

any-push : {A : Type 0} (p : A → Bool) (xs : List A) (x : A) → list_any p (xs ++ x ∷ []) ≡ (list_any p xs || p x)
any-push p [] x = or_false (p x)
any-push p (y ∷ ys) x = ap (λ t. p y || t) (any-push p ys x) ∙ sym (or_assoc (p y) (list_any p ys) (p x))

same-sym : (x y : Name) → is_same_name x y ≡ is_same_name y x
same-sym x y = ap (λ t. t && bytes_eq x.1 y.1) (nat_eq_equiv.symm x.0 y.0) ∙ ap (λ t. (y.0 == x.0) && t) (nat_list_eq_equiv.symm x.1 y.1)

split_or : (a b c d : Bool) → ((a || b) || (c || d)) ≡ ((a || c) || (b || d))
split_or true b c d = refl
split_or false true true d = refl
split_or false true false d = refl
split_or false false true d = refl
split_or false false false d = refl

cross-more : (seen : List Name) (x : Name) (xs : List Name) → cross seen (x ∷ xs) ≡ (list_any (is_same_name x) seen || cross seen xs)
cross-more [] x xs = refl
cross-more (s ∷ ss) x xs =
    ap (λ t. (t || list_any (is_same_name s) xs) || cross ss (x ∷ xs)) (same-sym s x) ∙ ap (λ t. (is_same_name x s || list_any (is_same_name s) xs) || t) (cross-more ss x xs)
    ∙ split_or (is_same_name x s) (list_any (is_same_name s) xs) (list_any (is_same_name x) ss) (cross ss xs)

shuffle : (a c d h : Bool) → (a || ((c || d) || h)) ≡ ((a || c) || (d || h))
shuffle true c d h = refl
shuffle false true d h = refl
shuffle false false d h = refl

doubles-is : (seen xs : List Name) → doubles seen xs ≡ (cross seen xs || has_double xs)
doubles-is seen [] = ap (λ t. t || false) (sym (cross-none seen))
doubles-is seen (x ∷ xs) =
    ap (λ t. list_any (is_same_name x) seen || t) (doubles-is (seen ++ x ∷ []) xs ∙ ap (λ t. t || has_double xs) (any-push (λ s. list_any (is_same_name s) xs) seen x))
    ∙ shuffle (list_any (is_same_name x) seen) (cross seen xs) (list_any (is_same_name x) xs) (has_double xs) ∙ ap (λ t. t || has_double (x ∷ xs)) (sym (cross-more seen x xs))

pub doubles-none : (xs : List Name) → has_double xs ≡ doubles [] xs
doubles-none xs = sym (doubles-is [] xs)

-- ---- a set of the names that are seen

abbrev pub Key : Type 0
Key = ℕ × Bor (List ℕ)

abbrev pub name_shown : Key → Name
name_shown k = (k.0, k.1.now)

abbrev pub same_key : Key → Key → Bool
same_key x y = is_same_name (name_shown x) (name_shown y)

any_shown : (x : Key) (keys : List Key) → list_any (same_key x) keys ≡ list_any (is_same_name (name_shown x)) (map name_shown keys)
any_shown x [] = refl
any_shown x (k ∷ ks) = ap (λ t. same_key x k || t) (any_shown x ks)

map-push : (xs : List Key) (x : Key) → map name_shown (xs ++ x ∷ []) ≡ map name_shown xs ++ name_shown x ∷ []
map-push [] x = refl
map-push (y ∷ ys) x = ap (λ l. name_shown y ∷ l) (map-push ys x)

-- the names of the attributes from a place on
abbrev pub names_from : Bindings → ℕ → List Pair → List Name
names_from b i ps = filter_map (expanded b) (drop i ps)

here : (b : Bindings) (ps : List Pair) (i : ℕ) (p : Pair) → i < length ps → p ≡ get_or ps i p → names_from b i ps ≡ cons_option (expanded b p) (names_from b (i + 1) ps)
here b ps i p within is = ap (filter_map (expanded b)) (drop_more ps i p within ∙ ap (λ x. x ∷ drop (i + 1) ps) (sym is))

pub passed : (whole : Bool) (b : Bindings) (ps : List Pair) (i : ℕ) (p : Pair) (keys : List Key) → i < length ps → p ≡ get_or ps i p → whole ≡ doubles (map name_shown keys) (names_from b i ps) → None ≡ expanded b p
    → whole ≡ doubles (map name_shown keys) (names_from b (i + 1) ps)
passed whole b ps i p keys within is so_far none =
    so_far ∙ ap (doubles (map name_shown keys)) (here b ps i p within is ∙ ap (λ o. cons_option o (names_from b (i + 1) ps)) (sym none))

looked : (whole : Bool) (b : Bindings) (ps : List Pair) (i : ℕ) (p : Pair) (keys : List Key) (x : Key) → i < length ps → p ≡ get_or ps i p → whole ≡ doubles (map name_shown keys) (names_from b i ps) → Some (name_shown x) ≡ expanded b p
    → whole ≡ (list_any (same_key x) keys || doubles (map name_shown keys ++ name_shown x ∷ []) (names_from b (i + 1) ps))
looked whole b ps i p keys x within is so_far found =
    so_far ∙ ap (doubles (map name_shown keys)) (here b ps i p within is ∙ ap (λ o. cons_option o (names_from b (i + 1) ps)) (sym found))
    ∙ ap (λ t. t || doubles (map name_shown keys ++ name_shown x ∷ []) (names_from b (i + 1) ps)) (sym (any_shown x keys))

not_false : (t : Bool) → not t ≡ false → t ≡ true
not_false true h = refl
not_false false h = cc

not_true : (t : Bool) → not t ≡ true → t ≡ false
not_true true h = cc
not_true false h = refl

pub doubled : (whole : Bool) (b : Bindings) (ps : List Pair) (i : ℕ) (p : Pair) (keys : List Key) (x : Key) → i < length ps → p ≡ get_or ps i p → whole ≡ doubles (map name_shown keys) (names_from b i ps) → Some (name_shown x) ≡ expanded b p
    → (added : Bool) → added ≡ not (list_any (same_key x) keys) → added ≡ false → true ≡ whole
doubled whole b ps i p keys x within is so_far found added told old =
    sym (looked whole b ps i p keys x within is so_far found ∙ ap (λ t. t || doubles (map name_shown keys ++ name_shown x ∷ []) (names_from b (i + 1) ps)) (not_false (list_any (same_key x) keys) (sym told ∙ old)))

pub one_more : (whole : Bool) (b : Bindings) (ps : List Pair) (i : ℕ) (p : Pair) (keys new : List Key) (x : Key) → i < length ps → p ≡ get_or ps i p → whole ≡ doubles (map name_shown keys) (names_from b i ps) → Some (name_shown x) ≡ expanded b p
    → (added : Bool) → added ≡ not (list_any (same_key x) keys) → added ≡ true → new ≡ insert_key same_key keys x → whole ≡ doubles (map name_shown new) (names_from b (i + 1) ps)
one_more whole b ps i p keys new x within is so_far found added told fresh made =
    let absent : list_any (same_key x) keys ≡ false = not_true (list_any (same_key x) keys) (sym told ∙ fresh) in
    let last : new ≡ keys ++ x ∷ [] = made ∙ ap (λ t. cond t keys (keys ++ x ∷ [])) absent in
    looked whole b ps i p keys x within is so_far found ∙ ap (λ t. t || doubles (map name_shown keys ++ name_shown x ∷ []) (names_from b (i + 1) ps)) absent
    ∙ ap (λ l. doubles l (names_from b (i + 1) ps)) (sym (ap (map name_shown) last ∙ map-push keys x))

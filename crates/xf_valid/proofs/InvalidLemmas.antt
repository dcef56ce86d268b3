-- The nodes that are not valid are those of entries that are not, in the trees of the model's instances.
use Rattle.std.proofs.Common.{◌≡◌, ℕ, zero, suc, ◌+◌, ◌<◌, ◌==◌, Bool, true, false, cond, not, ◌&&◌, ◌||◌, List, [], ◌∷◌, ◌++◌, map, filter, find, is_some, drop, length, get_or, append_assoc, append-nil, ◌≤◌, Result, Ok, Err, OnOk, Option, Some, None, option_map, option_and_then, slice_get, refl, sym, ap, ◌∙◌, arith}
use Rattle.std.specs.List.{flat_map, list_any}
use Rattle.std.proofs.lemmas.Bool.{eqb-true}
use Rattle.std.proofs.lemmas.Bool.Decides.{nat_tests}
use Rattle.std.proofs.lemmas.Option.{slice_get_read}
use Rattle.xf_num.specs.Written.{is_empty}
use Rattle.xf_schema.specs.declared.written.Restriction.{Restriction}
use Rattle.xf_schema.specs.Facets.{is_of_type}
use Rattle.xf_def_syntax.specs.declared.form.Instance.{Instance}
use Rattle.xf_def_forest.specs.declared.content.Node.{Node}
use Rattle.xf_def_forest.specs.Changes.{root_of}
use Rattle.xf_def_forest.specs.Forest.{has_number, is_root}
use Rattle.xf_def_forest.specs.Order.{in_order, instance_of}
use Rattle.xf_def_forest.specs.StringValue.{string_value}
use Rattle.xf_def_forest.specs.Visit.{Visit, visit, visits, visits_from, still_above, has, top_of}
use Rattle.xf_def_forest.specs.WellFormed.{are_apart}
use Rattle.xf_def_xpath.specs.Binding.{as_list}
use Rattle.xf_def_model.specs.declared.property.Property.{Property}
use Rattle.xf_def_model.specs.declared.property.Property.TheVariants.{Kind, Calculate, Relevant, Readonly, Required, Constraint}
use Rattle.xf_def_model.specs.Applied.{Entry, is_property}
use Rattle.xf_def_model.specs.Rules.{Scope}
use Rattle.xf_def_model.specs.Properties.{is_valid, kind_of, meets_kind, sets_on, own}
use Rattle.xf_binds.specs.Held.{is_seat}
use Rattle.xf_binds.specs.Kept.{Kept, truth_from, values_of}
use Rattle.xf_binds.specs.Table.{truth_told}
use Rattle.xf_binds.proofs.Finds.{any-find}
use Rattle.xf_binds.proofs.Truths.{own-in}
use Rattle.xf_valid.specs.Failed.{by_property, failed_among, failed_at, fails, is_under, roots_from}
use Rattle.xf_valid.specs.Invalid.{invalid_in, is_invalid, is_model, model_of}

none : {P : Type 0} → false ≡ true → P
none e = cc e

turned : (a b : ℕ) → (a == b) ≡ (b == a)
turned a b = grind (arith, nat_tests)

same : (n : ℕ) → (n == n) ≡ true
same n = grind (arith, nat_tests)

not-same : (n : ℕ) → (suc n == zero) ≡ false
not-same n = grind (arith, nat_tests)

apart-suc : (a b : ℕ) → (suc a == suc b) ≡ (a == b)
apart-suc a b = grind (arith, nat_tests)

or-none : (b : Bool) → (b || false) ≡ b
or-none true = refl
or-none false = refl

pub and-none : (b : Bool) → (b && false) ≡ false
and-none true = refl
and-none false = refl

and-some : (b : Bool) → (b && true) ≡ b
and-some true = refl
and-some false = refl

or-parts : (a b : Bool) → (a || b) ≡ false → (a ≡ false) × (b ≡ false)
or-parts true b h = none (sym h)
or-parts false b h = (refl, h)

-- ---- roots

absent : (n : ℕ) (xs : List Node) → has_number n xs ≡ false → instance_of n xs ≡ None
absent n [] h = refl
absent n (x ∷ xs) h = by (is_root x.content) (absent n xs (or-parts (x.number == n) (has_number n xs) h).1)
  where
    is : (x.number == n) ≡ false
    is = (or-parts (x.number == n) (has_number n xs) h).0

    by : (r : Bool) → instance_of n xs ≡ None → cond r (cond (x.number == n) (Some 0) (option_map suc (instance_of n xs))) (instance_of n xs) ≡ None
    by true rest = rw (is, rest) refl
    by false rest = rest

and-parts : (a b : Bool) → (a && b) ≡ true → (a ≡ true) × (b ≡ true)
and-parts true b h = (refl, h)
and-parts false b h = none h

not-true : (b : Bool) → not b ≡ true → b ≡ false
not-true true h = none h
not-true false h = refl

first-seat : (o : Option ℕ) → is_seat (option_map suc o) zero ≡ false
first-seat None = refl
first-seat (Some i) = not-same i

next-seat : (o : Option ℕ) (j : ℕ) → is_seat (option_map suc o) (suc j) ≡ is_seat o j
next-seat None j = refl
next-seat (Some i) j = apart-suc i j

root-there : (n k : ℕ) (xs : List Node) → are_apart xs ≡ true → has n (as_list (root_of k xs)) ≡ is_seat (instance_of n xs) k
root-there n zero [] a = refl
root-there n (suc k) [] a = refl
root-there n zero (x ∷ xs) a = by (is_root x.content) (x.number == n) refl (root-there n zero xs (and-parts (not (has_number x.number xs)) (are_apart xs) a).1)
  where
    by : (r b : Bool) → (x.number == n) ≡ b → has n (as_list (root_of zero xs)) ≡ is_seat (instance_of n xs) zero
        → has n (as_list (cond r (Some x.number) (root_of zero xs))) ≡ is_seat (cond r (cond b (Some 0) (option_map suc (instance_of n xs))) (instance_of n xs)) zero
    by false b e rest = rest
    by true true e rest = ap (λ b. b || false) (turned n x.number ∙ e)
    by true false e rest = ap (λ b. b || false) (turned n x.number ∙ e) ∙ sym (first-seat (instance_of n xs))
root-there n (suc k) (x ∷ xs) a =
    by (is_root x.content) (x.number == n) refl (root-there n (suc k) xs (and-parts (not (has_number x.number xs)) (are_apart xs) a).1)
    (root-there n k xs (and-parts (not (has_number x.number xs)) (are_apart xs) a).1)
  where
    is-absent : (x.number == n) ≡ true → instance_of n xs ≡ None
    is-absent e =
        absent n xs (ap (λ m. has_number m xs) (sym (eqb-true x.number n e)) ∙ not-true (has_number x.number xs) (and-parts (not (has_number x.number xs)) (are_apart xs) a).0)

    by : (r b : Bool) → (x.number == n) ≡ b → has n (as_list (root_of (suc k) xs)) ≡ is_seat (instance_of n xs) (suc k) → has n (as_list (root_of k xs)) ≡ is_seat (instance_of n xs) k
        → has n (as_list (cond r (root_of k xs) (root_of (suc k) xs))) ≡ is_seat (cond r (cond b (Some 0) (option_map suc (instance_of n xs))) (instance_of n xs)) (suc k)
    by false b e same before = same
    by true true e same before = before ∙ ap (λ o. is_seat o k) (is-absent e) ∙ sym (turned zero (suc k) ∙ not-same k)
    by true false e same before = before ∙ sym (next-seat (instance_of n xs) k)

-- ---- those of the model

pub has-append : (n : ℕ) (xs ys : List ℕ) → has n (xs ++ ys) ≡ (has n xs || has n ys)
has-append n [] ys = refl
has-append n (x ∷ xs) ys = ap (λ b. (n == x) || b) (has-append n xs ys) ∙ grouped (n == x) (has n xs) (has n ys)
  where
    grouped : (a b c : Bool) → (a || (b || c)) ≡ ((a || b) || c)
    grouped true b c = refl
    grouped false b c = refl

here : (n model : ℕ) (nodes : List Node) (k : ℕ) (x : Instance) → are_apart nodes ≡ true
    → has n (cond (x.model == model) (as_list (root_of k nodes)) []) ≡ ((x.model == model) && is_seat (instance_of n nodes) k)
here n model nodes k x a = by (x.model == model)
  where
    by : (b : Bool) → has n (cond b (as_list (root_of k nodes)) []) ≡ (b && is_seat (instance_of n nodes) k)
    by true = root-there n k nodes a
    by false = refl

roots-none : (n model : ℕ) (nodes : List Node) (k : ℕ) (is : List Instance) → are_apart nodes ≡ true → ((i : ℕ) → is_seat (instance_of n nodes) (i + k) ≡ false) → has n (roots_from model nodes k is) ≡ false
roots-none n model nodes k [] a h = refl
roots-none n model nodes k (x ∷ xs) a h =
    let none-here : is_seat (instance_of n nodes) k ≡ false = ap (is_seat (instance_of n nodes)) (let e : k ≡ 0 + k = omega arith in e) ∙ h 0 in
    has-append n (cond (x.model == model) (as_list (root_of k nodes)) []) (roots_from model nodes (suc k) xs)
    ∙ ap (λ b. b || has n (roots_from model nodes (suc k) xs)) (here n model nodes k x a ∙ ap (λ b. (x.model == model) && b) none-here ∙ and-none (x.model == model))
    ∙ roots-none n model nodes (suc k) xs a (λ i. ap (is_seat (instance_of n nodes)) (let e : i + suc k ≡ suc i + k = omega arith in e) ∙ h (suc i))

roots-some : (n model : ℕ) (nodes : List Node) (k : ℕ) (is : List Instance) (d : ℕ) → are_apart nodes ≡ true → instance_of n nodes ≡ Some (d + k)
    → has n (roots_from model nodes k is) ≡ is_model model (option_map (λ i. i.model) (slice_get is d))
roots-some n model nodes k [] d a h = refl
roots-some n model nodes k (x ∷ xs) zero a h =
    let stands : is_seat (instance_of n nodes) k ≡ true = ap (λ o. is_seat o k) h ∙ at-k k in
    let rest : has n (roots_from model nodes (suc k) xs) ≡ false = roots-none n model nodes (suc k) xs a (λ i. ap (λ o. is_seat o (i + suc k)) h ∙ past i k) in
    has-append n (cond (x.model == model) (as_list (root_of k nodes)) []) (roots_from model nodes (suc k) xs)
    ∙ ap (λ b. has n (cond (x.model == model) (as_list (root_of k nodes)) []) || b) rest
    ∙ or-none (has n (cond (x.model == model) (as_list (root_of k nodes)) []))
    ∙ here n model nodes k x a ∙ ap (λ b. (x.model == model) && b) stands ∙ and-some (x.model == model) ∙ turned x.model model
  where
    at-k : (k : ℕ) → (zero + k == k) ≡ true
    at-k k = grind (arith, nat_tests)

    past : (i k : ℕ) → (zero + k == i + suc k) ≡ false
    past i k = grind (arith, nat_tests)
roots-some n model nodes k (x ∷ xs) (suc d) a h =
    let later : is_seat (instance_of n nodes) k ≡ false = ap (λ o. is_seat o k) h ∙ past d k in
    has-append n (cond (x.model == model) (as_list (root_of k nodes)) []) (roots_from model nodes (suc k) xs)
    ∙ ap (λ b. b || has n (roots_from model nodes (suc k) xs)) (here n model nodes k x a ∙ ap (λ b. (x.model == model) && b) later ∙ and-none (x.model == model))
    ∙ roots-some n model nodes (suc k) xs d a (h ∙ ap Some (let e : suc d + k ≡ d + suc k = omega arith in e))
  where
    past : (d k : ℕ) → (suc d + k == k) ≡ false
    past d k = grind (arith, nat_tests)

pub roots-held : (n model : ℕ) (nodes : List Node) (is : List Instance) → are_apart nodes ≡ true → has n (roots_from model nodes 0 is) ≡ is_model model (model_of is nodes n)
roots-held n model nodes is a = by (instance_of n nodes) refl
  where
    by : (o : Option ℕ) → instance_of n nodes ≡ o → has n (roots_from model nodes 0 is) ≡ is_model model (option_and_then (λ k. option_map (λ i. i.model) (slice_get is k)) (instance_of n nodes))
    by None e =
        roots-none n model nodes 0 is a (λ i. ap (λ o. is_seat o (i + 0)) e)
        ∙ ap (λ o. is_model model (option_and_then (λ k. option_map (λ i. i.model) (slice_get is k)) o)) (sym e)
    by (Some j) e =
        roots-some n model nodes 0 is j a (e ∙ ap Some (let e : j ≡ j + 0 = omega arith in e))
        ∙ ap (λ o. is_model model (option_and_then (λ k. option_map (λ i. i.model) (slice_get is k)) o)) (sym e)

-- ---- among the nodes of entries

has-one : (u : ℕ → Bool) (f : ℕ → Property → Bool) (n : ℕ) (es : List Entry)
    → has n (flat_map (λ (e : Entry). cond (u e.node && f e.node e.property) (e.node ∷ []) []) es) ≡ (u n && list_any (λ (e : Entry). (n == e.node) && f n e.property) es)
has-one u f n [] = sym (and-none (u n))
has-one u f n (x ∷ xs) =
    has-append n (cond (u x.node && f x.node x.property) (x.node ∷ []) []) (flat_map (λ (e : Entry). cond (u e.node && f e.node e.property) (e.node ∷ []) []) xs)
    ∙ ap (λ b. has n (cond (u x.node && f x.node x.property) (x.node ∷ []) []) || b) (has-one u f n xs) ∙ by (n == x.node) refl
  where
    rest : Bool
    rest = list_any (λ (e : Entry). (n == e.node) && f n e.property) xs

    one : (b : Bool) → has n (cond b (x.node ∷ []) []) ≡ (b && (n == x.node))
    one true = or-none (n == x.node)
    one false = refl

    joined : (a b r : Bool) → (((a && b) && true) || (a && r)) ≡ (a && (b || r))
    joined true true r = refl
    joined true false r = refl
    joined false b r = refl

    by : (c : Bool) → (n == x.node) ≡ c → (has n (cond (u x.node && f x.node x.property) (x.node ∷ []) []) || (u n && rest)) ≡ (u n && (((n == x.node) && f n x.property) || rest))
    by true c =
        ap (λ b. b || (u n && rest))
        (one (u x.node && f x.node x.property) ∙ ap (λ b. (u x.node && f x.node x.property) && b) c ∙ ap (λ m. (u m && f m x.property) && true) (sym (eqb-true n x.node c)))
        ∙ joined (u n) (f n x.property) rest
        ∙ ap (λ b. u n && ((b && f n x.property) || rest)) (sym c)
    by false c =
        ap (λ b. b || (u n && rest)) (one (u x.node && f x.node x.property) ∙ ap (λ b. (u x.node && f x.node x.property) && b) c ∙ and-none (u x.node && f x.node x.property))
        ∙ ap (λ b. u n && ((b && f n x.property) || rest)) (sym c)

-- what the entries of a node say together
any-by : (c r t : Bool) (n : ℕ) (es : List Entry)
    → list_any (λ (e : Entry). (n == e.node) && by_property c r t e.property) es
    ≡ ((list_any (sets_on n Constraint) es && c) || ((list_any (sets_on n Required) es && r) || (list_any (sets_on n Kind) es && t)))
any-by c r t n [] = refl
any-by c r t n (x ∷ xs) =
    ap (λ b. ((n == x.node) && by_property c r t x.property) || b) (any-by c r t n xs)
    ∙ by x.property (n == x.node) (list_any (sets_on n Constraint) xs) (list_any (sets_on n Required) xs) (list_any (sets_on n Kind) xs)
    ∙ ap (λ b. (((b && is_property x.property Constraint) || list_any (sets_on n Constraint) xs) && c)
    || ((((b && is_property x.property Required) || list_any (sets_on n Required) xs) && r) || (((b && is_property x.property Kind) || list_any (sets_on n Kind) xs) && t)))
    (turned n x.node)
  where
    first : (c b d : Bool) → (c || ((b && c) || d)) ≡ (c || d)
    first true b d = refl
    first false true d = refl
    first false false d = refl

    second : (a r b d : Bool) → (r || (a || ((b && r) || d))) ≡ (a || (r || d))
    second true true b d = refl
    second true false b d = refl
    second false r b d = first r b d

    third : (a b t d : Bool) → (t || (a || (b || (d && t)))) ≡ (a || (b || t))
    third true b true d = refl
    third true b false d = refl
    third false true true d = refl
    third false true false d = refl
    third false false true d = refl
    third false false false true = refl
    third false false false false = refl

    by : (p : Property) (e a b d : Bool)
        → ((e && by_property c r t p) || ((a && c) || ((b && r) || (d && t))))
        ≡ ((((e && is_property p Constraint) || a) && c) || ((((e && is_property p Required) || b) && r) || (((e && is_property p Kind) || d) && t)))
    by p false a b d = refl
    by Constraint true a b d = first c a ((b && r) || (d && t))
    by Required true a b d = second (a && c) r b (d && t)
    by Kind true a b d = third (a && c) (b && r) t d
    by Calculate true a b d = refl
    by Relevant true a b d = refl
    by Readonly true a b d = refl

-- a node without an entry of a property does not fail by it

own-not : (k : Kept) (n : ℕ) (p : Property) (d : Bool) → is_property p Kind ≡ false → find (sets_on n p) k.entries ≡ None → own (values_of k) p d n ≡ d
own-not k n p d c h = own-in k n p d c ∙ ap (λ o. truth_told d (option_map (truth_from k.stood) o)) h

set-or : (n : ℕ) (p : Property) (es : List Entry) (b : Bool) → (find (sets_on n p) es ≡ None → b ≡ false) → (list_any (sets_on n p) es && b) ≡ b
set-or n p es b unset = ap (λ s. s && b) (any-find (sets_on n p) es) ∙ by (find (sets_on n p) es) refl
  where
    by : (o : Option Entry) → find (sets_on n p) es ≡ o → (is_some o && b) ≡ b
    by None e = sym (unset e)
    by (Some x) e = refl

-- it is not valid
abbrev pub fails_any : List Restriction → Scope → List Node → Kept → ℕ → Bool
fails_any types scope nodes k n = not (is_valid (is_of_type types) scope (visits nodes) k.entries (values_of k) n)

pub valid-unset : (types : List Restriction) (scope : Scope) (nodes : List Node) (k : Kept) (n : ℕ) → find (sets_on n Constraint) k.entries ≡ None → find (sets_on n Required) k.entries ≡ None → find (sets_on n Kind) k.entries ≡ None → fails_any types scope nodes k n ≡ false
valid-unset types scope nodes k n c r t =
    ap not (ap (λ a. (a && not (own (values_of k) Required false n && is_empty s)) && meets_kind (is_of_type types) (kind_of scope k.entries n) s) (own-not k n Constraint true refl c)
    ∙ ap (λ r. not (r && is_empty s) && meets_kind (is_of_type types) (kind_of scope k.entries n) s) (own-not k n Required false refl r)
    ∙ ap (λ o. meets_kind (is_of_type types) (option_and_then (λ e. option_and_then (λ r. r.kind) (slice_get scope.rules e.bind)) o) s) t)
  where
    s : List ℕ
    s = string_value n (visits nodes)

any-fails : (types : List Restriction) (scope : Scope) (nodes : List Node) (k : Kept) (n : ℕ)
    → list_any (λ (e : Entry). (n == e.node) && fails types scope nodes k n e.property) k.entries ≡ fails_any types scope nodes k n
any-fails types scope nodes k n =
    any-by c r t n k.entries
    ∙ ap (λ b. b || ((list_any (sets_on n Required) k.entries && r) || (list_any (sets_on n Kind) k.entries && t))) (set-or n Constraint k.entries c (λ h. ap not (own-not k n Constraint true refl h)))
    ∙ ap (λ b. c || (b || (list_any (sets_on n Kind) k.entries && t))) (set-or n Required k.entries r (λ h. ap (λ b. b && is_empty s) (own-not k n Required false refl h)))
    ∙ ap (λ b. c || (r || b)) (set-or n Kind k.entries t (λ h. ap (λ o. not (meets_kind (is_of_type types) (option_and_then (λ e. option_and_then (λ r. r.kind) (slice_get scope.rules e.bind)) o) s)) h))
    ∙ told (own (values_of k) Constraint true n) r (meets_kind (is_of_type types) (kind_of scope k.entries n) s)
  where
    s : List ℕ
    s = string_value n (visits nodes)

    c : Bool
    c = not (own (values_of k) Constraint true n)

    r : Bool
    r = own (values_of k) Required false n && is_empty s

    t : Bool
    t = not (meets_kind (is_of_type types) (kind_of scope k.entries n) s)

    told : (c r t : Bool) → (not c || (r || not t)) ≡ not ((c && not r) && t)
    told true true t = refl
    told true false t = refl
    told false r t = refl

has-failed : (types : List Restriction) (scope : Scope) (nodes : List Node) (roots : List ℕ) (k : Kept) (n : ℕ)
    → has n (failed_among types scope nodes roots k k.entries) ≡ (is_under nodes roots n && fails_any types scope nodes k n)
has-failed types scope nodes roots k n = has-one (is_under nodes roots) (fails types scope nodes k) n k.entries ∙ ap (λ b. is_under nodes roots n && b) (any-fails types scope nodes k n)

-- ---- in document order

filter-visits : (p q : ℕ → Bool) (above xs : List Node) → ((n : ℕ) → has_number n xs ≡ true → p n ≡ q n) → filter (λ (v : Visit). p v.number) (visits_from above xs) ≡ filter (λ (v : Visit). q v.number) (visits_from above xs)
filter-visits p q above [] h = refl
filter-visits p q above (x ∷ xs) h =
    ap (λ b. cond b (visit above x ∷ filter (λ (v : Visit). p v.number) (visits_from (x ∷ still_above x.depth above) xs)) (filter (λ (v : Visit). p v.number) (visits_from (x ∷ still_above x.depth above) xs)))
    (h x.number (ap (λ b. b || has_number x.number xs) (same x.number)))
    ∙ ap (λ l. cond (q x.number) (visit above x ∷ l) l) (filter-visits p q (x ∷ still_above x.depth above) xs (λ n i. h n (right (x.number == n) (has_number n xs) i)))
  where
    right : (a b : Bool) → b ≡ true → (a || b) ≡ true
    right true b h = refl
    right false b h = h

pub invalid-found : (types : List Restriction) (scope : Scope) (instances : List Instance) (nodes : List Node) (k : Kept) → are_apart nodes ≡ true
    → in_order (visits nodes) (failed_among types scope nodes (roots_from scope.model nodes 0 instances) k k.entries) ≡ invalid_in types scope instances nodes k
invalid-found types scope instances nodes k a =
    ap (map (λ (v : Visit). v.number)) (filter-visits (λ n. has n (failed_among types scope nodes roots k k.entries)) (is_invalid types scope instances nodes k) [] nodes at)
  where
    roots : List ℕ
    roots = roots_from scope.model nodes 0 instances

    at : (n : ℕ) → has_number n nodes ≡ true → has n (failed_among types scope nodes roots k k.entries) ≡ is_invalid types scope instances nodes k n
    at n live =
        has-failed types scope nodes roots k n ∙ ap (λ b. (b && has (top_of n (visits nodes)) roots) && fails_any types scope nodes k n) live
        ∙ ap (λ b. b && fails_any types scope nodes k n) (roots-held (top_of n (visits nodes)) scope.model nodes instances a)

-- ---- in the tree of a root

pub under-none : {b : Bool} (a : Bool) → b ≡ false → false ≡ (a && b)
under-none a h = sym (ap (λ b. a && b) h ∙ and-none a)

pub under-outside : (nodes : List Node) (roots : List ℕ) (n : ℕ) (b : Bool) → has (top_of n (visits nodes)) roots ≡ false → false ≡ (is_under nodes roots n && b)
under-outside nodes roots n b h = sym (ap (λ u. (has_number n nodes && u) && b) h ∙ ap (λ u. u && b) (and-none (has_number n nodes)))

pub under-inside : (nodes : List Node) (roots : List ℕ) (n : ℕ) → has_number n nodes ≡ true → has (top_of n (visits nodes)) roots ≡ true → true ≡ is_under nodes roots n
under-inside nodes roots n h i = sym (ap (λ u. has_number n nodes && u) i ∙ ap (λ u. u && true) h)

-- ---- for loops over entries and instances

pub failed-step : (types : List Restriction) (scope : Scope) (nodes : List Node) (roots : List ℕ) (k : Kept) (es : List Entry) (at : ℕ)
    → failed_at types scope nodes roots k (slice_get es at) ++ failed_among types scope nodes roots k (drop (suc at) es) ≡ failed_among types scope nodes roots k (drop at es)
failed-step types scope nodes roots k [] zero = refl
failed-step types scope nodes roots k [] (suc at) = refl
failed-step types scope nodes roots k (x ∷ xs) zero = refl
failed-step types scope nodes roots k (x ∷ xs) (suc at) = failed-step types scope nodes roots k xs at

pub failed-more : (types : List Restriction) (scope : Scope) (nodes : List Node) (roots : List ℕ) (k : Kept) (es : List Entry) (at : ℕ) (old new : List ℕ)
    → old ++ failed_among types scope nodes roots k (drop at es) ≡ failed_among types scope nodes roots k es → new ≡ old ++ failed_at types scope nodes roots k (slice_get es at)
    → new ++ failed_among types scope nodes roots k (drop (at + 1) es) ≡ failed_among types scope nodes roots k es
failed-more types scope nodes roots k es at old new so_far added =
    ap (λ j. new ++ failed_among types scope nodes roots k (drop j es)) (let e : at + 1 ≡ suc at = omega arith in e)
    ∙ ap (λ l. l ++ failed_among types scope nodes roots k (drop (suc at) es)) added
    ∙ append_assoc old (failed_at types scope nodes roots k (slice_get es at)) (failed_among types scope nodes roots k (drop (suc at) es))
    ∙ ap (λ l. old ++ l) (failed-step types scope nodes roots k es at) ∙ so_far

pub drop-get : {X : Type 0} (xs : List X) (i : ℕ) (x : X) → slice_get xs i ≡ Some x → drop i xs ≡ x ∷ drop (i + 1) xs
drop-get [] i x e = cc e
drop-get (y ∷ ys) zero x e = let is : y ≡ x = cc e in ap (λ z. z ∷ ys) is
drop-get (y ∷ ys) (suc i) x e = drop-get ys i x e ∙ ap (λ l. x ∷ l) (let s : i + 1 ≡ suc i = omega arith in ap (λ j. drop j ys) s ∙ next i)
  where
    next : (i : ℕ) → drop (suc i) ys ≡ drop (suc i + 1) (y ∷ ys)
    next i = let s : suc i + 1 ≡ suc (suc i) = omega arith in rw s refl

drop-past : {X : Type 0} (xs : List X) (at : ℕ) → length xs ≤ at → drop at xs ≡ []
drop-past [] zero h = refl
drop-past [] (suc at) h = refl
drop-past (x ∷ xs) zero h = absurd (let z : suc (length xs) ≤ 0 = h in omega (arith, z))
drop-past (x ∷ xs) (suc at) h = drop-past xs at (let z : suc (length xs) ≤ suc at = h in omega (arith, z))

pub failed-all : (types : List Restriction) (scope : Scope) (nodes : List Node) (roots : List ℕ) (k : Kept) (es : List Entry) (at : ℕ) (found : List ℕ)
    → found ++ failed_among types scope nodes roots k (drop at es) ≡ failed_among types scope nodes roots k es → length es ≤ at → found ≡ failed_among types scope nodes roots k es
failed-all types scope nodes roots k es at found so_far past =
    sym (append-nil found) ∙ ap (λ l. found ++ failed_among types scope nodes roots k l) (sym (drop-past es at past)) ∙ so_far

pub roots-more : (model : ℕ) (nodes : List Node) (is : List Instance) (place : ℕ) (x : Instance) (old new all : List ℕ) → place < length is → x ≡ get_or is place x
    → old ++ roots_from model nodes place (drop place is) ≡ all → new ≡ old ++ cond (x.model == model) (as_list (root_of place nodes)) []
    → new ++ roots_from model nodes (place + 1) (drop (place + 1) is) ≡ all
roots-more model nodes is place x old new all within here so_far added =
    ap (λ l. l ++ roots_from model nodes (place + 1) (drop (place + 1) is)) added
    ∙ append_assoc old (cond (x.model == model) (as_list (root_of place nodes)) []) (roots_from model nodes (place + 1) (drop (place + 1) is))
    ∙ ap (λ j. old ++ (cond (x.model == model) (as_list (root_of place nodes)) [] ++ roots_from model nodes j (drop (place + 1) is))) (let e : place + 1 ≡ suc place = omega arith in e)
    ∙ ap (λ l. old ++ roots_from model nodes place l) (sym (drop-get is place x (slice_get_read is (length is) place x refl within here)))
    ∙ so_far

pub roots-all : (model : ℕ) (nodes : List Node) (is : List Instance) (place : ℕ) (roots all : List ℕ) → length is ≤ place → roots ++ roots_from model nodes place (drop place is) ≡ all → roots ≡ all
roots-all model nodes is place roots all past so_far = sym (append-nil roots) ∙ ap (λ l. roots ++ roots_from model nodes place l) (sym (drop-past is place past)) ∙ so_far

-- what follows from an Ok
pub on-ok : {A E : Type 0} (r : Result A E) (P Q : Type 0) → (P → Q) → OnOk r P → OnOk r Q
on-ok (Ok x) P Q f h = f h
on-ok (Err e) P Q f h = h

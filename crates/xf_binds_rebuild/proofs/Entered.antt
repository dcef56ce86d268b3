-- The entries that binds apply: each at a node of the shape, no property of a node twice.
use Rattle.std.proofs.Common.{◌≡◌, ℕ, zero, suc, ◌==◌, Bool, true, false, cond, ◌&&◌, ◌||◌, List, [], ◌∷◌, ◌++◌, map, Option, Some, None, unwrap_or, Result, Ok, Err, refl, sym, ap, ◌∙◌, subst}
use Rattle.std.specs.Prelude.{filter, if◌then◌else◌}
use Rattle.std.specs.List.{list_any, flat_map}
use Rattle.xf_def_forest.specs.Visit.{Visit, has}
use Rattle.xf_def_forest.specs.Shape.{has_elements}
use Rattle.xf_def_xpath.specs.Agree.{numbers_of}
use Rattle.xf_def_xpath.specs.Setting.{in_order, joined}
use Rattle.xf_def_xpath.proofs.VisitFacts.{no, none-some, self-same, turned, or-left, or-right}
use Rattle.xf_def_model.specs.declared.property.Property.{Property}
use Rattle.xf_def_model.specs.Rules.{Rule, Scope}
use Rattle.xf_def_model.specs.Nested.{sets_of}
use Rattle.xf_def_model.specs.Applied.{Entry, Exception, twice, on_parent, place_of, is_property, properties_of, standing_in, entry_of, entries_at, entries_on, entries_by, entries_from, all_entries, is_calculate, sets_same, exception_at, or_later, exception_from, unless, applied_over}
use Rattle.xf_def_model.specs.Pertinent.{AllOf}
use Rattle.xf_def_model.proofs.EachLemmas.{each_then}

-- ---- at nodes of the shape

all-append : {X : Type 0} (P : X → Type 0) (xs ys : List X) → AllOf P xs → AllOf P ys → AllOf P (xs ++ ys)
all-append P [] ys h k = k
all-append P (x ∷ xs) ys h k = (h.0, all-append P xs ys h.1 k)

all-flat : {X Y : Type 0} (P : Y → Type 0) (f : X → List Y) (xs : List X) → ((x : X) → AllOf P (f x)) → AllOf P (flat_map f xs)
all-flat P f [] h = tt
all-flat P f (x ∷ xs) h = all-append P (f x) (flat_map f xs) (h x) (all-flat P f xs h)

all-numbers : (P : Entry → Type 0) (f : ℕ → List Entry) (ns : List ℕ) → ((n : ℕ) → has n ns ≡ true → AllOf P (f n)) → AllOf P (flat_map f ns)
all-numbers P f [] h = tt
all-numbers P f (n ∷ ns) h = all-append P (f n) (flat_map f ns) (h n (or-left (n == n) (has n ns) (self-same n))) (all-numbers P f ns (λ k i. h k (or-right (k == n) (has k ns) i)))

all-map : {X Y : Type 0} (P : Y → Type 0) (f : X → Y) → ((x : X) → P (f x)) → (xs : List X) → AllOf P (map f xs)
all-map P f h [] = tt
all-map P f h (x ∷ xs) = (h x, all-map P f h xs)

order-there : (ns : List ℕ) (all : List Visit) (n : ℕ) → has n (in_order all ns) ≡ true → has n (numbers_of all) ≡ true
order-there ns [] n h = h
order-there ns (x ∷ xs) n h = by (has x.number ns) h (order-there ns xs n)
  where
    cases : (a b c : Bool) → (b ≡ true → c ≡ true) → (a || b) ≡ true → (a || c) ≡ true
    cases true b c h i = refl
    cases false b c h i = h i

    by : (b : Bool) → has n (map (λ (y : Visit). y.number) (cond b (x ∷ filter (λ y. has y.number ns) xs) (filter (λ y. has y.number ns) xs))) ≡ true
        → (has n (in_order xs ns) ≡ true → has n (numbers_of xs) ≡ true) → (n == x.number || has n (numbers_of xs)) ≡ true
    by true i rest = cases (n == x.number) (has n (in_order xs ns)) (has n (numbers_of xs)) rest i
    by false i rest = or-right (n == x.number) (has n (numbers_of xs)) (rest i)

module _ (scope : Scope) (all : List Visit) where
  abbrev IsThere : Entry → Type 0
  IsThere e = has e.node (numbers_of all) ≡ true

  on-there : (bind : ℕ) (sets : List (List ℕ)) (properties : List Property) (ns : List ℕ) → ((n : ℕ) → has n ns ≡ true → has n (numbers_of all) ≡ true) → AllOf (λ e. has e.node (numbers_of all) ≡ true) (entries_on bind sets properties ns)
  on-there bind sets properties ns h =
      all-numbers (λ e. has e.node (numbers_of all) ≡ true) (λ n. flat_map (entries_at bind sets n) properties) ns (λ n i.
      all-flat (λ e. has e.node (numbers_of all) ≡ true) (entries_at bind sets n) properties (λ p.
      all-map (λ e. has e.node (numbers_of all) ≡ true) (entry_of bind p n) (λ s. h n i) (flat_map (standing_in n) sets)))

  from-there : (bind : ℕ) (rs : List Rule) → AllOf (λ e. has e.node (numbers_of all) ≡ true) (entries_from scope all bind rs)
  from-there bind [] = tt
  from-there bind (r ∷ rs) = all-append _ (if r.model == scope.model then entries_by scope all bind r else []) (entries_from scope all (suc bind) rs) (by (r.model == scope.model)) (from-there (suc bind) rs)
    where
      by : (b : Bool) → AllOf (λ e. has e.node (numbers_of all) ≡ true) (if b then entries_by scope all bind r else [])
      by true =
          let sets = unwrap_or (sets_of None scope all r) [] in
          on-there bind sets (properties_of r) (in_order all (joined sets)) (order-there (joined sets) all)
      by false = tt

-- ---- no property of a node twice

abbrev pub NoneTwice : List Entry → Type 0
NoneTwice [] = Unit {0}
NoneTwice (e ∷ es) = (list_any (sets_same e) es ≡ false) × NoneTwice es

either-none : (a b : Bool) → (a || b) ≡ false → (a ≡ false) × (b ≡ false)
either-none true b h = no (sym h)
either-none false b h = (refl, h)

same-turned : (e other : Entry) → sets_same e other ≡ sets_same other e
same-turned e other = ap (λ b. b && is_property e.property other.property) (turned e.node other.node) ∙ ap (λ b. (other.node == e.node) && b) (turned (place_of e.property) (place_of other.property))

first-none : (o p : Option Exception) → or_later o p ≡ None → (o ≡ None) × (p ≡ None)
first-none None p h = (refl, h)
first-none (Some x) p h = none-some (sym h)

not-earlier : (all : List Visit) (earlier : List Entry) (e : Entry) → exception_at all earlier e ≡ None → list_any (sets_same e) earlier ≡ false
not-earlier all earlier e h = by (list_any (sets_same e) earlier) h
  where
    by : (b : Bool) → (if b then Some (twice e.node) else if is_calculate e && has_elements all e.node then Some (on_parent e.node) else None) ≡ None → b ≡ false
    by true i = none-some (sym i)
    by false i = refl

none-like : (e : Entry) (es : List Entry) → AllOf (λ x. sets_same x e ≡ false) es → list_any (sets_same e) es ≡ false
none-like e [] h = refl
none-like e (x ∷ xs) h = ap (λ b. b || list_any (sets_same e) xs) (same-turned e x ∙ h.0) ∙ none-like e xs h.1

split-all : (e : Entry) (earlier es : List Entry) → AllOf (λ x. list_any (sets_same x) (e ∷ earlier) ≡ false) es → AllOf (λ x. sets_same x e ≡ false) es × AllOf (λ x. list_any (sets_same x) earlier ≡ false) es
split-all e earlier [] h = (tt, tt)
split-all e earlier (x ∷ xs) h =
    let here = either-none (sets_same x e) (list_any (sets_same x) earlier) h.0 in
    let rest = split-all e earlier xs h.1 in
    ((here.0, rest.0), (here.1, rest.1))

apart-from : (all : List Visit) (earlier es : List Entry) → exception_from all earlier es ≡ None → AllOf (λ x. list_any (sets_same x) earlier ≡ false) es × NoneTwice es
apart-from all earlier [] h = (tt, tt)
apart-from all earlier (e ∷ es) h =
    let parts = first-none (exception_at all earlier e) (exception_from all (e ∷ earlier) es) h in
    let rest = apart-from all (e ∷ earlier) es parts.1 in
    let both = split-all e earlier es rest.0 in
    ((not-earlier all earlier e parts.0, both.1), (none-like e es both.0, rest.1))

-- ---- of what is applied

unless-ok : {X : Type 0} (o : Option Exception) (x y : X) → unless o x ≡ Ok y → (o ≡ None) × (x ≡ y)
unless-ok None x y h = (refl, cc h)
unless-ok (Some o) x y h = cc h

pub applied-there : (scope : Scope) (all : List Visit) (entries : List Entry) → applied_over scope all ≡ Ok entries → AllOf (λ e. has e.node (numbers_of all) ≡ true) entries
applied-there scope all entries h =
    let parts = unless-ok (exception_from all [] (all_entries scope all)) (all_entries scope all) entries h in
    subst (λ es. AllOf (λ e. has e.node (numbers_of all) ≡ true) es) parts.1 (from-there scope all 0 scope.rules)

pub applied-apart : (scope : Scope) (all : List Visit) (entries : List Entry) → applied_over scope all ≡ Ok entries → NoneTwice entries
applied-apart scope all entries h =
    let parts = unless-ok (exception_from all [] (all_entries scope all)) (all_entries scope all) entries h in
    subst NoneTwice parts.1 (apart-from all [] (all_entries scope all) parts.0).1

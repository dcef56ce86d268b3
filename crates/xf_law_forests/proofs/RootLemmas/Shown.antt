-- Nodes below others tell nothing of where roots stand: what is left without them has the same roots, in front or not.
use Rattle.std.proofs.Common.{◌≡◌, ◌==◌, Bool, true, false, not, cond, ◌&&◌, List, [], ◌∷◌, ◌++◌, map, refl, sym, ap, ◌∙◌}
use Rattle.std.specs.Prelude.{filter}
use Rattle.std.specs.List.{list_all}
use Rattle.std.proofs.lemmas.List.{map-append}
use Rattle.std.proofs.lemmas.List.Elements.{filter-append}
use Rattle.xf_def_forest.specs.declared.content.Node.{Node}
use Rattle.xf_def_forest.specs.Forest.{is_root}
use Rattle.xf_def_forest.specs.Changes.{is_detached_top, in_instances, in_detached}
use Rattle.xf_def_forest.proofs.BackLaws.{and-true}
use Rattle.xf_law_forests.specs.Root.Roots.{AreAhead, roots_in, RootsStay}

abbrev pub rootless : List Node → Bool
rootless xs = list_all (λ y. not (is_root y.content)) xs

-- a node that is no root and no top
abbrev pub deep : Node → Bool
deep x = not (is_root x.content) && not (x.depth == 0)

abbrev pub all_deep : List Node → Bool
all_deep xs = list_all deep xs

abbrev pub shown : List Node → List Node
shown xs = filter (λ x. not (deep x)) xs

pub both : (a b : Bool) → a ≡ true → b ≡ true → (a && b) ≡ true
both true b h i = i
both false b h i = h

-- ---- lists

pub rootless-append : (xs ys : List Node) → rootless xs ≡ true → rootless ys ≡ true → rootless (xs ++ ys) ≡ true
rootless-append [] ys h i = i
rootless-append (x ∷ xs) ys h i =
    let parts = and-true (not (is_root x.content)) (rootless xs) h in both (not (is_root x.content)) (rootless (xs ++ ys)) parts.0 (rootless-append xs ys parts.1 i)

pub deep-append : (xs ys : List Node) → all_deep xs ≡ true → all_deep ys ≡ true → all_deep (xs ++ ys) ≡ true
deep-append [] ys h i = i
deep-append (x ∷ xs) ys h i = let parts = and-true (deep x) (all_deep xs) h in both (deep x) (all_deep (xs ++ ys)) parts.0 (deep-append xs ys parts.1 i)

pub deep-filter : (p : Node → Bool) (xs : List Node) → all_deep xs ≡ true → all_deep (filter p xs) ≡ true
deep-filter p [] h = refl
deep-filter p (x ∷ xs) h = by (p x) (deep-filter p xs parts.1)
  where
    parts : (deep x ≡ true) × (all_deep xs ≡ true)
    parts = and-true (deep x) (all_deep xs) h

    by : (b : Bool) → all_deep (filter p xs) ≡ true → all_deep (cond b (x ∷ filter p xs) (filter p xs)) ≡ true
    by true i = both (deep x) (all_deep (filter p xs)) parts.0 i
    by false i = i

pub roots-append : (xs ys : List Node) → roots_in (xs ++ ys) ≡ roots_in xs ++ roots_in ys
roots-append xs ys = ap (map (λ (x : Node). x.number)) (filter-append (λ x. is_root x.content) xs ys) ∙ map-append (λ (x : Node). x.number) (filter (λ x. is_root x.content) xs) (filter (λ x. is_root x.content) ys)

pub none-rooted : (xs : List Node) → rootless xs ≡ true → roots_in xs ≡ []
none-rooted [] h = refl
none-rooted (x ∷ xs) h = by (is_root x.content) (and-true (not (is_root x.content)) (rootless xs) h).0 (none-rooted xs (and-true (not (is_root x.content)) (rootless xs) h).1)
  where
    by : (b : Bool) → not b ≡ true → roots_in xs ≡ [] → map (λ (y : Node). y.number) (cond b (x ∷ filter (λ y. is_root y.content) xs) (filter (λ y. is_root y.content) xs)) ≡ []
    by true i f = cc i
    by false i f = f

-- ---- without the nodes below others

pub shown-same : (x : Node) (xs ys : List Node) → shown xs ≡ shown ys → shown (x ∷ xs) ≡ shown (x ∷ ys)
shown-same x xs ys h = ap (λ l. cond (not (deep x)) (x ∷ l) l) h

pub shown-skip : (zs ys : List Node) → all_deep zs ≡ true → shown (zs ++ ys) ≡ shown ys
shown-skip [] ys h = refl
shown-skip (z ∷ zs) ys h =
    let parts = and-true (deep z) (all_deep zs) h in
    ap (λ b. cond (not b) (z ∷ shown (zs ++ ys)) (shown (zs ++ ys))) parts.0 ∙ shown-skip zs ys parts.1

top-shown : (x : Node) → is_detached_top x ≡ true → deep x ≡ false
top-shown x h = by (x.depth == 0) (is_root x.content) h
  where
    by : (a b : Bool) → (a && not b) ≡ true → (not b && not a) ≡ false
    by true true i = refl
    by true false i = refl
    by false true i = refl
    by false false i = cc i

pub detached-shown : (xs : List Node) → in_detached (shown xs) ≡ shown (in_detached xs)
detached-shown [] = refl
detached-shown (x ∷ xs) = by (is_detached_top x) refl (deep x) refl (detached-shown xs)
  where
    by : (a : Bool) → is_detached_top x ≡ a → (b : Bool) → deep x ≡ b → in_detached (shown xs) ≡ shown (in_detached xs) →
        in_detached (cond (not b) (x ∷ shown xs) (shown xs)) ≡ shown (cond a (x ∷ xs) (in_detached xs))
    by true e true i f = cc (sym i ∙ top-shown x e)
    by true e false i f = ap (λ c. cond c (x ∷ shown xs) (in_detached (shown xs))) e ∙ sym (ap (λ c. cond (not c) (x ∷ shown xs) (shown xs)) i)
    by false e true i f = f
    by false e false i f = ap (λ c. cond c (x ∷ shown xs) (in_detached (shown xs))) e ∙ f

rootless-shown : (xs : List Node) → rootless (shown xs) ≡ rootless xs
rootless-shown [] = refl
rootless-shown (x ∷ xs) = by (is_root x.content) (x.depth == 0) refl (rootless-shown xs)
  where
    by : (a b : Bool) → is_root x.content ≡ a → rootless (shown xs) ≡ rootless xs → rootless (cond (not (not a && not b)) (x ∷ shown xs) (shown xs)) ≡ (not a && rootless xs)
    by true b e f = ap (λ c. not c && rootless (shown xs)) e
    by false true e f = ap (λ c. not c && rootless (shown xs)) e ∙ f
    by false false e f = f

roots-shown : (xs : List Node) → roots_in (shown xs) ≡ roots_in xs
roots-shown [] = refl
roots-shown (x ∷ xs) = by (is_root x.content) (x.depth == 0) refl (roots-shown xs)
  where
    by : (a b : Bool) → is_root x.content ≡ a → roots_in (shown xs) ≡ roots_in xs →
        roots_in (cond (not (not a && not b)) (x ∷ shown xs) (shown xs)) ≡ map (λ (y : Node). y.number) (cond a (x ∷ filter (λ y. is_root y.content) xs) (filter (λ y. is_root y.content) xs))
    by true b e f = ap (λ c. map (λ (y : Node). y.number) (cond c (x ∷ filter (λ y. is_root y.content) (shown xs)) (filter (λ y. is_root y.content) (shown xs)))) e ∙ ap (λ l. x.number ∷ l) f
    by false true e f = ap (λ c. map (λ (y : Node). y.number) (cond c (x ∷ filter (λ y. is_root y.content) (shown xs)) (filter (λ y. is_root y.content) (shown xs)))) e ∙ f
    by false false e f = f

-- so roots are where they were
pub ahead-by : (xs ys : List Node) → shown ys ≡ shown xs → AreAhead xs → AreAhead ys
ahead-by xs ys h i =
    sym (rootless-shown (in_detached ys)) ∙ ap rootless (sym (detached-shown ys) ∙ ap in_detached h ∙ detached-shown xs) ∙ rootless-shown (in_detached xs) ∙ i

pub roots-by : (xs ys : List Node) → shown ys ≡ shown xs → roots_in ys ≡ roots_in xs
roots-by xs ys h = sym (roots-shown ys) ∙ ap roots_in h ∙ roots-shown xs

pub stay-by : (xs ys : List Node) → shown ys ≡ shown xs → RootsStay xs ys
stay-by xs ys h = record { ahead = ahead-by xs ys h; same = roots-by xs ys h }

-- ---- instances, then detached trees

pub rootless-ahead : (xs : List Node) → rootless xs ≡ true → AreAhead xs
rootless-ahead [] h = refl
rootless-ahead (x ∷ xs) h = by (is_detached_top x) (rootless-ahead xs (and-true (not (is_root x.content)) (rootless xs) h).1)
  where
    by : (b : Bool) → AreAhead xs → rootless (cond b (x ∷ xs) (in_detached xs)) ≡ true
    by true f = h
    by false f = f

pub ahead-append : (xs ys : List Node) → AreAhead xs → rootless ys ≡ true → AreAhead (xs ++ ys)
ahead-append [] ys h i = rootless-ahead ys i
ahead-append (x ∷ xs) ys h i = by (is_detached_top x) h (λ f. ahead-append xs ys f i)
  where
    by : (b : Bool) → rootless (cond b (x ∷ xs) (in_detached xs)) ≡ true → (AreAhead xs → AreAhead (xs ++ ys)) → rootless (cond b (x ∷ xs ++ ys) (in_detached (xs ++ ys))) ≡ true
    by true j f = rootless-append (x ∷ xs) ys j i
    by false j f = f j

pub front-ahead : (xs ys : List Node) → AreAhead ys → AreAhead (in_instances xs ++ ys)
front-ahead [] ys h = h
front-ahead (x ∷ xs) ys h = by (is_detached_top x) refl (front-ahead xs ys h)
  where
    by : (b : Bool) → is_detached_top x ≡ b → AreAhead (in_instances xs ++ ys) → AreAhead (cond b [] (x ∷ in_instances xs) ++ ys)
    by true e f = h
    by false e f = ap (λ c. rootless (cond c (x ∷ in_instances xs ++ ys) (in_detached (in_instances xs ++ ys)))) e ∙ f

pub parts : (xs : List Node) → xs ≡ in_instances xs ++ in_detached xs
parts [] = refl
parts (x ∷ xs) = by (is_detached_top x) (parts xs)
  where
    by : (b : Bool) → xs ≡ in_instances xs ++ in_detached xs → x ∷ xs ≡ cond b [] (x ∷ in_instances xs) ++ cond b (x ∷ xs) (in_detached xs)
    by true h = refl
    by false h = ap (λ l. x ∷ l) h

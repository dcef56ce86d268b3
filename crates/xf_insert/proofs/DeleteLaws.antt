-- What a delete takes, told by a set of numbers in place of a list of them, and by the axis of ancestors.
use Rattle.std.proofs.Common.{◌≡◌, ℕ, ◌==◌, Bool, true, false, not, cond, ◌&&◌, ◌||◌, List, [], ◌∷◌, ◌++◌, map, Option, Some, None, refl, sym, ap, ◌∙◌, arith, ◌⊎◌, inl, inr}
use Rattle.std.specs.Prelude.{filter, find, reverse}
use Rattle.std.specs.List.{list_any}
use Rattle.std.proofs.lemmas.Bool.Decides.{nat_tests}
use Rattle.std.proofs.lemmas.List.Folds.{list_any-append}
use Rattle.std.proofs.lemmas.List.{reverse-append}
use Rattle.indexmap.specs.IndexSet.{insert_key}
use Rattle.xf_name.specs.declared.axis.Axis.TheVariants.{Ancestor}
use Rattle.xf_def_forest.specs.declared.content.Node.{Node}
use Rattle.xf_def_forest.specs.Axis.{axis_from, axis_of}
use Rattle.xf_def_forest.specs.Visit.{Visit, above_in, ancestors_of, has, parent_of, visits}
use Rattle.xf_def_forest.proofs.LiveLaws.{ancestors-live}
use Rattle.xf_def_forest.proofs.OrderLaws.{seen-has}
use Rattle.xf_def_forest.proofs.BackLaws.{or-false}
use Rattle.xf_def_xpath.proofs.VisitFacts.{or-right}
use Rattle.xf_def_model.specs.Taken.{is_apart, is_open, taken_from}

abbrev Alike : List ℕ → List ℕ → Type 0
Alike one other = (n : ℕ) → has n one ≡ has n other

any-alike : (one other ms : List ℕ) → Alike one other → list_any (λ m. has m one) ms ≡ list_any (λ m. has m other) ms
any-alike one other [] h = refl
any-alike one other (m ∷ ms) h = ap (λ b. b || list_any (λ k. has k one) ms) (h m) ∙ ap (λ b. has m other || b) (any-alike one other ms h)

pub taken-alike : (all : List Visit) (closed one other : List ℕ) → Alike one other → (ns : List ℕ) → taken_from all closed one ns ≡ taken_from all closed other ns
taken-alike all closed one other h [] = refl
taken-alike all closed one other h (n ∷ ns) =
    ap (λ b. cond (is_open all closed (parent_of n all) && not b) (n ∷ taken_from all closed (n ∷ one) ns) (taken_from all closed one ns)) (any-alike one other (ancestors_of n all) h)
    ∙ ap (λ l. cond (is_open all closed (parent_of n all) && is_apart all other n) (n ∷ l) (taken_from all closed one ns)) (taken-alike all closed (n ∷ one) (n ∷ other) (λ m. ap (λ b. (m == n) || b) (h m)) ns)
    ∙ ap (λ l. cond (is_open all closed (parent_of n all) && is_apart all other n) (n ∷ taken_from all closed (n ∷ other) ns) l) (taken-alike all closed one other h ns)

-- ---- a number comes into a set

or-last : (a b : Bool) → (a || (b || false)) ≡ (b || a)
or-last true true = refl
or-last true false = refl
or-last false true = refl
or-last false false = refl

pub inserted-alike : (keys keys2 : List ℕ) (k : ℕ) → keys2 ≡ insert_key (λ x y. x == y) keys k → Alike keys2 (k ∷ keys)
inserted-alike keys keys2 k made n = by (list_any (λ m. k == m) keys) refl made
  where
    by : (b : Bool) → has k keys ≡ b → keys2 ≡ cond b keys (keys ++ k ∷ []) → has n keys2 ≡ ((n == k) || has n keys)
    by true e is = ap (has n) is ∙ here (n == k) refl
      where
        here : (c : Bool) → (n == k) ≡ c → has n keys ≡ (c || has n keys)
        here true f = let same : n ≡ k = grind (arith, nat_tests, f) in ap (λ m. has m keys) same ∙ e
        here false f = refl
    by false e is = ap (has n) is ∙ list_any-append (λ m. n == m) keys (k ∷ []) ∙ or-last (has n keys) (n == k)

-- ---- ancestors

any-reverse : {X : Type 0} (p : X → Bool) (xs : List X) → list_any p (reverse xs) ≡ list_any p xs
any-reverse p [] = refl
any-reverse p (x ∷ xs) =
    ap (list_any p) (reverse-append (x ∷ []) xs) ∙ list_any-append p (reverse xs) (x ∷ [])
    ∙ ap (λ b. b || list_any p (x ∷ [])) (any-reverse p xs) ∙ or-last (list_any p xs) (p x)

any-map : (p : ℕ → Bool) (ys : List Visit) → list_any p (map (λ (y : Visit). y.number) ys) ≡ list_any (λ (y : Visit). p y.number) ys
any-map p [] = refl
any-map p (y ∷ ys) = ap (λ b. p y.number || b) (any-map p ys)

any-filter : (p q : Visit → Bool) (ys : List Visit) → list_any p (filter q ys) ≡ list_any (λ (y : Visit). q y && p y) ys
any-filter p q [] = refl
any-filter p q (y ∷ ys) = by (q y) (any-filter p q ys)
  where
    by : (b : Bool) → list_any p (filter q ys) ≡ list_any (λ (z : Visit). q z && p z) ys → list_any p (cond b (y ∷ filter q ys) (filter q ys)) ≡ ((b && p y) || list_any (λ (z : Visit). q z && p z) ys)
    by true h = ap (λ b. p y || b) h
    by false h = h

shuffle : (a b c d e : Bool) → (((a || b) && c) || (d || e)) ≡ (((a && c) || d) || ((b && c) || e))
shuffle true b true d e = refl
shuffle true true false true e = refl
shuffle true true false false e = refl
shuffle true false false true e = refl
shuffle true false false false e = refl
shuffle false true true true e = refl
shuffle false true true false e = refl
shuffle false true false true e = refl
shuffle false true false false e = refl
shuffle false false c true e = refl
shuffle false false c false e = refl

any-split : (a b c : Visit → Bool) (ys : List Visit) → list_any (λ y. (a y || b y) && c y) ys ≡ (list_any (λ y. a y && c y) ys || list_any (λ y. b y && c y) ys)
any-split a b c [] = refl
any-split a b c (y ∷ ys) =
    ap (λ o. ((a y || b y) && c y) || o) (any-split a b c ys)
    ∙ shuffle (a y) (b y) (c y) (list_any (λ z. a z && c z) ys) (list_any (λ z. b z && c z) ys)

none-on : (c : Visit → Bool) (ys : List Visit) → list_any (λ (y : Visit). false && c y) ys ≡ false
none-on c [] = refl
none-on c (y ∷ ys) = none-on c ys

at-number : (p : ℕ → Bool) (m : ℕ) (ys : List Visit) → has m (map (λ (y : Visit). y.number) ys) ≡ true → list_any (λ (y : Visit). (y.number == m) && p y.number) ys ≡ p m
at-number p m [] h = absurd (no h)
  where
    no : false ≡ true → ⊥
    no e = cc e
at-number p m (y ∷ ys) h = by (y.number == m) refl (at-number p m ys)
  where
    turned : (m == y.number) ≡ (y.number == m)
    turned = grind (arith, nat_tests)

    or-self : (b : Bool) → (b || b) ≡ b
    or-self true = refl
    or-self false = refl

    later-or : (o : Bool) → list_any (λ (z : Visit). (z.number == m) && p z.number) ys ≡ o → (o ≡ p m) ⊎ (o ≡ false) → (p m || o) ≡ p m
    later-or o e (inl i) = ap (λ b. p m || b) i ∙ or-self (p m)
    later-or o e (inr i) = ap (λ b. p m || b) i ∙ or-none (p m)
      where
        or-none : (b : Bool) → (b || false) ≡ b
        or-none true = refl
        or-none false = refl

    either : (has m (map (λ (z : Visit). z.number) ys) ≡ true → list_any (λ (z : Visit). (z.number == m) && p z.number) ys ≡ p m)
        → (list_any (λ (z : Visit). (z.number == m) && p z.number) ys ≡ p m) ⊎ (list_any (λ (z : Visit). (z.number == m) && p z.number) ys ≡ false)
    either f = of (has m (map (λ (z : Visit). z.number) ys)) refl
      where
        of : (b : Bool) → has m (map (λ (z : Visit). z.number) ys) ≡ b → (list_any (λ (z : Visit). (z.number == m) && p z.number) ys ≡ p m) ⊎ (list_any (λ (z : Visit). (z.number == m) && p z.number) ys ≡ false)
        of true e = inl (f e)
        of false e = inr (none-at ys e)
          where
            none-at : (zs : List Visit) → has m (map (λ (z : Visit). z.number) zs) ≡ false → list_any (λ (z : Visit). (z.number == m) && p z.number) zs ≡ false
            none-at [] g = refl
            none-at (z ∷ zs) g =
                let ps = or-false (m == z.number) (has m (map (λ (v : Visit). v.number) zs)) g in
                let e2 : (z.number == m) ≡ false = let f2 : (m == z.number) ≡ false = ps.0 in grind (arith, nat_tests, f2) in
                ap (λ b. (b && p z.number) || list_any (λ (v : Visit). (v.number == m) && p v.number) zs) e2 ∙ none-at zs ps.1

    by : (b : Bool) → (y.number == m) ≡ b → (has m (map (λ (z : Visit). z.number) ys) ≡ true → list_any (λ (z : Visit). (z.number == m) && p z.number) ys ≡ p m)
        → ((b && p y.number) || list_any (λ (z : Visit). (z.number == m) && p z.number) ys) ≡ p m
    by true e f =
        let same : y.number ≡ m = grind (arith, nat_tests, e) in
        ap (λ k. p k || list_any (λ (z : Visit). (z.number == m) && p z.number) ys) same ∙ later-or _ refl (either f)
    by false e f = f (ap (λ b. b || has m (map (λ (z : Visit). z.number) ys)) (sym (turned ∙ e)) ∙ h)

any-above : (p : ℕ → Bool) (all : List Visit) (ms : List ℕ) → ((m : ℕ) → has m ms ≡ true → has m (map (λ (y : Visit). y.number) all) ≡ true)
    → list_any (λ (y : Visit). has y.number ms && p y.number) all ≡ list_any p ms
any-above p all [] h = none-on (λ y. p y.number) all
any-above p all (m ∷ ms) h =
    any-split (λ y. y.number == m) (λ y. has y.number ms) (λ y. p y.number) all
    ∙ ap (λ b. b || list_any (λ (y : Visit). has y.number ms && p y.number) all) (at-number p m all (h m (ap (λ b. b || has m ms) (self m))))
    ∙ ap (λ b. p m || b) (any-above p all ms (λ k e. h k (or-right (k == m) (has k ms) e)))
  where
    self : (n : ℕ) → (n == n) ≡ true
    self n = grind (arith, nat_tests)

pub any-ancestor : (p : ℕ → Bool) (n : ℕ) (nodes : List Node) → list_any p (axis_of Ancestor n (visits nodes)) ≡ list_any p (ancestors_of n (visits nodes))
any-ancestor p n nodes = by (find (λ (x : Visit). x.number == n) (visits nodes)) refl
  where
    by : (o : Option Visit) → find (λ (x : Visit). x.number == n) (visits nodes) ≡ o
        → list_any p (map (λ (x : Visit). x.number) (axis_from Ancestor (visits nodes) o)) ≡ list_any p (above_in o)
    by None e = refl
    by (Some x) e =
        any-map p (reverse (filter (λ (y : Visit). has y.number x.above) (visits nodes)))
        ∙ any-reverse (λ (y : Visit). p y.number) (filter (λ (y : Visit). has y.number x.above) (visits nodes))
        ∙ any-filter (λ y. p y.number) (λ y. has y.number x.above) (visits nodes)
        ∙ any-above p (visits nodes) x.above (λ m h. seen-has m [] nodes ∙ ancestors-live n m nodes (ap (λ o. has m (above_in o)) e ∙ h))

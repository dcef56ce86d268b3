-- Entries that come one by one behind others: how their exceptions follow one another.
use Rattle.std.proofs.Common.{◌≡◌, ℕ, suc, ◌+◌, ◌<◌, ◌≤◌, Bool, true, false, ◌&&◌, ◌||◌, List, [], ◌∷◌, ◌++◌, take, drop, length, get_or, Option, Some, None, refl, sym, ap, ◌∙◌, subst, arith, append_assoc, take-suc}
use Rattle.std.specs.Prelude.{if◌then◌else◌}
use Rattle.std.specs.List.{flat_map, list_any}
use Rattle.std.proofs.lemmas.Grind.{flat_map-append}
use Rattle.std.proofs.lemmas.List.{take-append-drop, at_drop_more, take_all}
use Rattle.std.proofs.lemmas.List.Concat.{flat_map-cons}
use Rattle.std.proofs.lemmas.List.Folds.{list_any-append}
use Rattle.xf_def_forest.specs.Visit.{Visit}
use Rattle.xf_def_forest.specs.Shape.{has_elements}
use Rattle.xf_def_model.specs.Applied.{Entry, Exception, twice, on_parent, exception_at, exception_from, is_calculate, or_later, sets_same}
use Rattle.xf_eval.proofs.Lists.{append-none}
use Rattle.xf_binds_apply.specs.declared.fault.BindFault.{BindFault}
use Rattle.xf_binds_apply.specs.declared.fault.BindFault.TheVariants.{Twice, OnParent, Memory}
use Rattle.xf_binds_apply.specs.Adding.{Added, Tells, exception_after}

-- ---- exceptions

later-none : (m : Option Exception) → or_later m None ≡ m
later-none None = refl
later-none (Some x) = refl

later-three : (a b c : Option Exception) → or_later a (or_later b c) ≡ or_later (or_later a b) c
later-three None b c = refl
later-three (Some x) b c = refl

pub after-append : (all : List Visit) (done xs ys : List Entry) → exception_after all done (xs ++ ys) ≡ or_later (exception_after all done xs) (exception_after all (done ++ xs) ys)
after-append all done [] ys = ap (λ l. exception_after all l ys) (sym (append-none done))
after-append all done (x ∷ xs) ys =
    ap (or_later (exception_at all done x)) (after-append all (done ++ x ∷ []) xs ys)
    ∙ later-three (exception_at all done x) (exception_after all (done ++ x ∷ []) xs) (exception_after all ((done ++ x ∷ []) ++ xs) ys)
    ∙ ap (λ l. or_later (exception_after all done (x ∷ xs)) (exception_after all l ys)) (append_assoc done (x ∷ []) xs)

turned : (a b : Bool) → (a || (b || false)) ≡ (b || a)
turned true true = refl
turned true false = refl
turned false true = refl
turned false false = refl

-- the order of the earlier ones does not count
after-from : (all : List Visit) (done earlier es : List Entry) → ((e : Entry) → list_any (sets_same e) done ≡ list_any (sets_same e) earlier) → exception_after all done es ≡ exception_from all earlier es
after-from all done earlier [] h = refl
after-from all done earlier (e ∷ es) h =
    ap (λ b. or_later (if b then Some (twice e.node) else if is_calculate e && has_elements all e.node then Some (on_parent e.node) else None) (exception_after all (done ++ e ∷ []) es)) (h e)
    ∙ ap (or_later (exception_at all earlier e)) (after-from all (done ++ e ∷ []) (e ∷ earlier) es
    (λ o. list_any-append (sets_same o) done (e ∷ []) ∙ ap (λ b. b || (sets_same o e || false)) (h o) ∙ turned (list_any (sets_same o) earlier) (sets_same o e)))

pub after-whole : (all : List Visit) (es : List Entry) → exception_after all [] es ≡ exception_from all [] es
after-whole all es = after-from all [] [] es (λ e. refl)

-- ---- what comes in parts

-- a fault that tells the first exception tells it whatever comes later
tells-later : (fault : BindFault) (x y : Option Exception) → Tells fault x → Tells fault (or_later x y)
tells-later (Twice node) x y h = ap (λ m. or_later m y) h
tells-later (OnParent node) x y h = ap (λ m. or_later m y) h
tells-later Memory x y h = tt

pub tells-more : (all : List Visit) (done more rest : List Entry) (fault : BindFault) → Tells fault (exception_after all done more) → Tells fault (exception_after all done (more ++ rest))
tells-more all done more rest fault h = subst (Tells fault) (sym (after-append all done more rest)) (tells-later fault _ (exception_after all (done ++ more) rest) h)

pub tells-behind : (all : List Visit) (done before now more : List Entry) (fault : BindFault) → Added all done before now → Tells fault (exception_after all now more) → Tells fault (exception_after all done (before ++ more))
tells-behind all done before now more fault a h =
    subst (Tells fault) (ap (λ l. exception_after all l more) a.0 ∙ sym (after-append all done before more ∙ ap (λ m. or_later m (exception_after all (done ++ before) more)) a.1)) h

pub added-both : (all : List Visit) (done before now more after : List Entry) → Added all done before now → Added all now more after → Added all done (before ++ more) after
added-both all done before now more after a b = (
  b.0 ∙ ap (λ l. l ++ more) a.0 ∙ append_assoc done before more,
  after-append all done before more ∙ ap (λ m. or_later m (exception_after all (done ++ before) more)) a.1 ∙ ap (λ l. exception_after all l more) (sym a.0) ∙ b.1,
)

pub added-none : (all : List Visit) (done : List Entry) → Added all done [] done
added-none all done = (sym (append-none done), refl)

-- ---- a list of items, each with its entries

module _ {X : Type 0} (f : X → List Entry) (all : List Visit) (xs : List X) (i : ℕ) (d : X) (done now : List Entry) where
  abbrev item : X
  item = get_or xs i d

  taken : i < length xs → flat_map f (take (i + 1) xs) ≡ flat_map f (take i xs) ++ f item
  taken l =
      let more : i + 1 ≡ suc i = omega arith in
      ap (λ j. flat_map f (take j xs)) more
      ∙ ap (flat_map f) (take-suc xs i d l)
      ∙ flat_map-append f (take i xs) (item ∷ [])
      ∙ ap (λ l. flat_map f (take i xs) ++ l) (flat_map-cons f item [] ∙ append-none (f item))

  split : i < length xs → flat_map f xs ≡ flat_map f (take i xs) ++ (f item ++ flat_map f (drop (i + 1) xs))
  split l =
      ap (flat_map f) (sym (take-append-drop i xs))
      ∙ flat_map-append f (take i xs) (drop i xs)
      ∙ ap (λ l. flat_map f (take i xs) ++ l) (at_drop_more (flat_map f) xs i d l ∙ flat_map-cons f item (drop (i + 1) xs))

  pub added-next : (after : List Entry) → i < length xs → Added all done (flat_map f (take i xs)) now → Added all now (f item) after → Added all done (flat_map f (take (i + 1) xs)) after
  added-next after l a b = subst (λ m. Added all done m after) (sym (taken l)) (added-both all done (flat_map f (take i xs)) now (f item) after a b)

  pub added-stop : (fault : BindFault) → i < length xs → Added all done (flat_map f (take i xs)) now → Tells fault (exception_after all now (f item)) → Tells fault (exception_after all done (flat_map f xs))
  added-stop fault l a h =
      subst (λ m. Tells fault (exception_after all done m)) (sym (split l))
      (tells-behind all done (flat_map f (take i xs)) now (f item ++ flat_map f (drop (i + 1) xs)) fault a (tells-more all now (f item) (flat_map f (drop (i + 1) xs)) fault h))

  pub added-all : length xs ≤ i → Added all done (flat_map f (take i xs)) now → Added all done (flat_map f xs) now
  added-all l a = subst (λ m. Added all done m now) (ap (flat_map f) (take_all i xs l)) a

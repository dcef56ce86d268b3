-- Contents in the order of their written names.
use Rattle.std.proofs.Common.{◌≡◌, ℕ, ◌+◌, ◌-◌, ◌<◌, ◌≤◌, true, false, List, [], ◌∷◌, ◌++◌, length, take, drop, reverse, get_or, refl, sym, ap, ◌∙◌, subst, inl, inr, arith, append_assoc}
use Rattle.std.specs.Prelude.{Result, Ok, Err}
use Rattle.std.specs.List.{filter_map, cons_option}
use Rattle.std.proofs.lemmas.Bool.{cases_Bool}
use Rattle.std.proofs.lemmas.List.{take-append-drop, reverse-append, reverse-reverse, take_more}
use Rattle.xf_name.specs.declared.lit.Pair.{Pair}
use Rattle.xf_name.specs.declared.qname.QName.{QName}
use Rattle.xf_name.specs.declared.fault.NameFault.{NameFault}
use Rattle.xf_name.specs.Bindings.{Bindings, resolved}
use Rattle.xf_name.specs.Part.{Kind, no_declaration, of_default, of_prefix, kind_of}
use Rattle.xf_def_forest.specs.declared.content.Content.{Content}
use Rattle.xf_def_forest.specs.Forest.{is_attribute}
use Rattle.xf_def_forest.specs.Plant.{is_less, written_of, in_place, in_order, attribute_in, attribute_by}
use Rattle.xf_tree_walks.proofs.FirstLemmas.{AllAttributes}
use Rattle.xf_tree_literals.specs.Contents.{AllLess, EndsNotLess}

-- ---- a content in its place

ends-snoc : (c x : Content) (xs : List Content) → is_less (written_of x) (written_of c) ≡ false → EndsNotLess c (xs ++ (x ∷ []))
ends-snoc c x [] h = h
ends-snoc c x (y ∷ []) h = h
ends-snoc c x (y ∷ (z ∷ zs)) h = ends-snoc c x (z ∷ zs) h

pub ends-at : (c x : Content) (xs : List Content) (at : ℕ) → 0 < at → at ≤ length xs → x ≡ get_or xs (at - 1) x → is_less (written_of x) (written_of c) ≡ false → EndsNotLess c (take at xs)
ends-at c x xs at some h is less =
    let i = at - 1 in
    let sum : i + 1 ≡ at = omega arith in
    let in_xs : i < length xs = omega arith in
    subst (EndsNotLess c) (sym (take_more xs i x in_xs ∙ ap (λ y. take i xs ++ (y ∷ [])) (sym is)) ∙ ap (λ k. take k xs) sum) (ends-snoc c x (take i xs) less)

pub less-snoc : (c : Content) (xs : List Content) (x : Content) → AllLess c xs → is_less (written_of x) (written_of c) ≡ true → AllLess c (xs ++ (x ∷ []))
less-snoc c [] x all h = (h, tt)
less-snoc c (y ∷ ys) x all h = (all.0, less-snoc c ys x all.1 h)

less-reverse : (c : Content) (xs : List Content) → AllLess c xs → AllLess c (reverse xs)
less-reverse c [] all = tt
less-reverse c (x ∷ xs) all = subst (AllLess c) (sym (reverse-append (x ∷ []) xs)) (less-snoc c (reverse xs) x (less-reverse c xs all.1) all.0)

-- past contents that come before it
skip-less : (c : Content) (xs ys : List Content) → AllLess c xs → in_place c (xs ++ ys) ≡ xs ++ in_place c ys
skip-less c [] ys all = refl
skip-less c (x ∷ xs) ys all = rw all.0 (ap (λ l. x ∷ l) (skip-less c xs ys all.1))

ends-more : (c x : Content) (xs : List Content) → EndsNotLess c (xs ++ (x ∷ [])) → is_less (written_of x) (written_of c) ≡ false
ends-more c x [] e = e
ends-more c x (y ∷ []) e = e
ends-more c x (y ∷ (z ∷ zs)) e = ends-more c x (z ∷ zs) e

place-front : (c : Content) (xs : List Content) → EndsNotLess c xs → in_place c (reverse xs) ≡ c ∷ reverse xs
place-front c [] e = refl
place-front c (x ∷ xs) e =
    let front = reverse (reverse (x ∷ xs)) in
    last_first (reverse (x ∷ xs)) (subst (EndsNotLess c) (sym (reverse-reverse (x ∷ xs))) e)
  where
    last_first : (zs : List Content) → EndsNotLess c (reverse zs) → in_place c zs ≡ c ∷ zs
    last_first [] h = refl
    last_first (z ∷ zs) h = rw (ends-more c z (reverse zs) (subst (EndsNotLess c) (reverse-append (z ∷ []) zs) h)) refl

-- the greatest first: in its place from behind
pub insert-place : (c : Content) (ys : List Content) (at : ℕ) → AllLess c (drop at ys) → EndsNotLess c (take at ys)
    → reverse (take at ys ++ (c ∷ drop at ys)) ≡ in_place c (reverse ys)
insert-place c ys at less ends =
    let us = take at ys in
    let vs = drop at ys in
    let left = reverse-append us (c ∷ vs) ∙ ap (λ l. l ++ reverse us) (reverse-append (c ∷ []) vs) ∙ append_assoc (reverse vs) (c ∷ []) (reverse us) in
    let right = ap (λ l. in_place c (reverse l)) (sym (take-append-drop at ys)) ∙ ap (in_place c) (reverse-append us vs) ∙ skip-less c (reverse vs) (reverse us) (less-reverse c vs less) ∙ ap (λ l. reverse vs ++ l) (place-front c us ends) in
    left ∙ sym right

-- ---- attributes are no roots

place-attributes : (c : Content) (xs : List Content) → is_attribute c ≡ true → AllAttributes xs → AllAttributes (in_place c xs)
place-attributes c [] h all = (h, tt)
place-attributes c (x ∷ xs) h all = elim (cases_Bool (is_less (written_of x) (written_of c))) [
  | inl e ↦ rw e (all.0, place-attributes c xs h all.1)
  | inr e ↦ rw e (h, all)
]

pub order-attributes : (xs : List Content) → AllAttributes xs → AllAttributes (in_order xs)
order-attributes [] all = tt
order-attributes (x ∷ xs) all = place-attributes x (in_order xs) all.0 (order-attributes xs all.1)

by-attributes : (b : Bindings) (k : Kind) (text : List ℕ) (name : Result QName NameFault) (cs : List Content) → AllAttributes cs → AllAttributes (cons_option (attribute_by b k text name) cs)
by-attributes b no_declaration text (Ok name) cs all = (refl, all)
by-attributes b no_declaration text (Err e) cs all = all
by-attributes b of_default text name cs all = all
by-attributes b (of_prefix p) text name cs all = all

pub all-attributes : (b : Bindings) (ps : List Pair) → AllAttributes (in_order (filter_map (attribute_in b) ps))
all-attributes b ps = order-attributes (filter_map (attribute_in b) ps) (each ps)
  where
    each : (ps : List Pair) → AllAttributes (filter_map (attribute_in b) ps)
    each [] = tt
    each (p ∷ ps) = by-attributes b (kind_of p.name) p.text (resolved b p.name 0) (filter_map (attribute_in b) ps) (each ps)

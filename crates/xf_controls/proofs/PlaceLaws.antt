-- The places of a plain form: each control or container stands once, in no row.
use Rattle.std.proofs.Common.{◌≡◌, ℕ, zero, suc, Bool, true, false, ◌||◌, ◌&&◌, List, [], ◌∷◌, ◌++◌, get_or, Option, Some, option_map, refl, ap, ◌∙◌}
use Rattle.std.specs.List.{flat_map, list_all}
use Rattle.std.proofs.lemmas.Bool.{and_parts}
use Rattle.std.proofs.lemmas.List.Folds.{flat_map-map}
use Rattle.xf_def_syntax.specs.declared.element.Part.{Part}
use Rattle.xf_def_syntax.specs.declared.element.Part.TheVariants as part
use Rattle.xf_def_syntax.specs.Ordered.{child_in, is_none, numbered_from}
use Rattle.xf_def_ui.specs.Interface.{Sort, Element, Interface, repeated}
use Rattle.xf_def_ui.specs.Elements.{element_at, no_element, children, is_control}
use Rattle.xf_def_ui.specs.Around.{Around}
use Rattle.xf_def_ui.specs.Places.{Places, places_at, places_by, places_in, all_places, if_control}
use Rattle.xf_controls.specs.Plain.{are_children, is_plain, is_plain_sort, is_top, stands_plainly}
use Rattle.xf_controls.specs.Below.{shows, some_shown}
use Rattle.xf_controls.proofs.OptionLaws.{each-some}

pub stand-all : (f : Interface) → is_plain f ≡ true → list_all (stands_plainly f) (numbered_from 0 f.elements) ≡ true
stand-all f h =
    let all = list_all (stands_plainly f) (numbered_from 0 f.elements) in
    (and_parts (is_none f.repeats) all (and_parts (is_top (element_at f 0).parent) (is_none f.repeats && all) h).1).1

-- each element is plain, also one that does not stand in the form
plain-among : (f : Interface) (k : ℕ) (es : List Element) (n : ℕ) → list_all (stands_plainly f) (numbered_from k es) ≡ true → is_plain_sort (get_or es n no_element).sort ≡ true
plain-among f k [] n h = refl
plain-among f k (e ∷ es) zero h =
    let own : stands_plainly f (k, e) ≡ true = (and_parts (stands_plainly f (k, e)) (list_all (stands_plainly f) (numbered_from (suc k) es)) h).0 in
    (and_parts (is_plain_sort e.sort) (are_children f k (flat_map child_in e.parts)) own).0
plain-among f k (e ∷ es) (suc n) h = plain-among f (suc k) es n (and_parts (stands_plainly f (k, e)) (list_all (stands_plainly f) (numbered_from (suc k) es)) h).1

pub plain-at : (f : Interface) (n : ℕ) → is_plain f ≡ true → is_plain_sort (element_at f n).sort ≡ true
plain-at f n h = plain-among f 0 f.elements n (stand-all f h)

-- ---- places

abbrev pub places_below : ℕ → Interface → ℕ → Places
places_below zero f n = []
places_below (suc most) f n = if_control (is_control (element_at f n).sort) n [] (flat_map (places_below most f) (children f n))

places_by-plain : (f : Interface) (a : Around) (further : List ℕ → ℕ → Option Places) (n : ℕ) (sort : Sort) → is_plain_sort sort ≡ true → places_by f a further [] n sort ≡ places_in further (children f n) []
places_by-plain f a further n (repeated k start) h = cc h
places_by-plain f a further n sort h = refl

pub places-plain : (f : Interface) (a : Around) → is_plain f ≡ true → (most n : ℕ) → places_at most f a [] n ≡ Some (places_below most f n)
places-plain f a plain zero n = refl
places-plain f a plain (suc most) n =
    let sort = (element_at f n).sort in
    ap (option_map (if_control (is_control sort) n [])) (
    places_by-plain f a (places_at most f a) n sort (plain-at f n plain)
    ∙ ap (option_map all_places) (each-some (places_at most f a []) (places_below most f) (places-plain f a plain most) (children f n))
    ∙ ap Some (flat_map-map (λ places. places) (places_below most f) (children f n)))

-- ---- where nothing is shown, there is none

or-left : (x y : Bool) → (x || y) ≡ false → x ≡ false
or-left true y h = h
or-left false y h = refl

or-right : (x y : Bool) → (x || y) ≡ false → y ≡ false
or-right true y h = cc h
or-right false y h = h

none-among : (further : ℕ → Bool) (places : ℕ → Places) → ((n : ℕ) → further n ≡ false → places n ≡ []) → (ps : List Part) → some_shown further ps ≡ false → flat_map places (flat_map child_in ps) ≡ []
none-among further places h [] e = refl
none-among further places h (part.Text text ∷ ps) e = none-among further places h ps e
none-among further places h (part.Element n ∷ ps) e =
    ap (λ l. l ++ flat_map places (flat_map child_in ps)) (h n (or-left (further n) (some_shown further ps) e))
    ∙ none-among further places h ps (or-right (further n) (some_shown further ps) e)

pub none-shown : (f : Interface) (most n : ℕ) → shows most f n ≡ false → places_below most f n ≡ []
none-shown f zero n h = refl
none-shown f (suc most) n h =
    let e = element_at f n in
    let own : is_control e.sort ≡ false = or-left (is_control e.sort) (some_shown (shows most f) e.parts) h in
    ap (λ b. if_control b n [] (flat_map (places_below most f) (children f n))) own
    ∙ none-among (shows most f) (places_below most f) (none-shown f most) e.parts (or-right (is_control e.sort) (some_shown (shows most f) e.parts) h)

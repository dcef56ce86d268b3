-- What a plain form gives: each child has its element as parent, the first element has none, and no repeat is listed.
use Rattle.std.proofs.Common.{◌≡◌, ℕ, zero, suc, ◌+◌, true, ◌&&◌, List, [], ◌∷◌, get_or, Option, Some, None, refl, sym, ap, subst, arith}
use Rattle.std.specs.List.{flat_map, list_all}
use Rattle.std.proofs.lemmas.Bool.{and_parts}
use Rattle.std.proofs.lemmas.Bool.Decides.{nat_tests}
use Rattle.xf_def_syntax.specs.declared.element.Part.{Part}
use Rattle.xf_def_syntax.specs.declared.element.Part.TheVariants as part
use Rattle.xf_def_syntax.specs.Ordered.{child_in, is_none, is_parent, numbered_from}
use Rattle.xf_def_ui.specs.Interface.{Element, Interface}
use Rattle.xf_def_ui.specs.Elements.{element_at, no_element}
use Rattle.xf_controls.specs.Plain.{are_children, is_plain, is_plain_sort, is_top, stands_plainly}
use Rattle.xf_controls.proofs.PlaceLaws.{stand-all}
use Rattle.xf_controls.proofs.BelowLaws.{EachChild, Parents}

-- ---- parents

parent-is : (n : ℕ) (p : Option ℕ) → is_parent n p ≡ true → p ≡ Some n
parent-is n None h = cc h
parent-is n (Some m) h = let same : n ≡ m = grind (arith, nat_tests, h) in ap Some (sym same)

children-are : (f : Interface) (n : ℕ) (ps : List Part) → are_children f n (flat_map child_in ps) ≡ true → EachChild (λ m. (element_at f m).parent ≡ Some n) ps
children-are f n [] h = tt
children-are f n (part.Text text ∷ ps) h = children-are f n ps h
children-are f n (part.Element m ∷ ps) h =
    let both = and_parts (is_parent n (element_at f m).parent) (are_children f n (flat_map child_in ps)) h in
    (parent-is n (element_at f m).parent both.0, children-are f n ps both.1)

children-among : (f : Interface) (k : ℕ) (es : List Element) (n : ℕ) → list_all (stands_plainly f) (numbered_from k es) ≡ true → EachChild (λ m. (element_at f m).parent ≡ Some (k + n)) (get_or es n no_element).parts
children-among f k [] n h = tt
children-among f k (e ∷ es) zero h =
    let same : k ≡ k + 0 = omega arith in
    let own : stands_plainly f (k, e) ≡ true = (and_parts (stands_plainly f (k, e)) (list_all (stands_plainly f) (numbered_from (suc k) es)) h).0 in
    subst (λ j. EachChild (λ m. (element_at f m).parent ≡ Some j) e.parts) same (children-are f k e.parts (and_parts (is_plain_sort e.sort) (are_children f k (flat_map child_in e.parts)) own).1)
children-among f k (e ∷ es) (suc n) h =
    let same : suc k + n ≡ k + suc n = omega arith in
    subst (λ j. EachChild (λ m. (element_at f m).parent ≡ Some j) (get_or es n no_element).parts) same
    (children-among f (suc k) es n (and_parts (stands_plainly f (k, e)) (list_all (stands_plainly f) (numbered_from (suc k) es)) h).1)

pub parents-in : (f : Interface) → is_plain f ≡ true → Parents f
parents-in f h n =
    let same : 0 + n ≡ n = omega arith in
    subst (λ j. EachChild (λ m. (element_at f m).parent ≡ Some j) (element_at f n).parts) same (children-among f 0 f.elements n (stand-all f h))

-- ---- the first element, and repeats

top-none : (p : Option ℕ) → is_top p ≡ true → p ≡ None
top-none None h = refl
top-none (Some n) h = cc h

none-listed : (ns : List ℕ) → is_none ns ≡ true → ns ≡ []
none-listed [] h = refl
none-listed (n ∷ ns) h = cc h

pub first-alone : (f : Interface) → is_plain f ≡ true → (element_at f 0).parent ≡ None
first-alone f h = top-none (element_at f 0).parent (and_parts (is_top (element_at f 0).parent) (is_none f.repeats && list_all (stands_plainly f) (numbered_from 0 f.elements)) h).0

pub repeats-none : (f : Interface) → is_plain f ≡ true → f.repeats ≡ []
repeats-none f h =
    let all = list_all (stands_plainly f) (numbered_from 0 f.elements) in
    none-listed f.repeats (and_parts (is_none f.repeats) all (and_parts (is_top (element_at f 0).parent) (is_none f.repeats && all) h).1).0

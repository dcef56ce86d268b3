-- Where each element stands in the one that it has as parent, each child has its element as parent, and the first element has none.
use Rattle.std.proofs.Common.{◌≡◌, ℕ, zero, suc, ◌+◌, true, List, [], ◌∷◌, get_or, Option, Some, None, refl, sym, ap, subst, arith}
use Rattle.std.specs.List.{flat_map, list_all}
use Rattle.std.proofs.lemmas.Bool.{and_parts}
use Rattle.std.proofs.lemmas.Bool.Decides.{nat_tests}
use Rattle.xf_def_syntax.specs.declared.element.Part.{Part}
use Rattle.xf_def_syntax.specs.declared.element.Part.TheVariants as part
use Rattle.xf_def_syntax.specs.Ordered.{child_in, is_parent, numbered_from}
use Rattle.xf_def_ui.specs.Interface.{Element, Interface}
use Rattle.xf_def_ui.specs.Elements.{element_at, no_element}
use Rattle.xf_controls.specs.Plain.{are_children, is_top}
use Rattle.xf_controls.proofs.BelowLaws.{EachChild, Parents}
use Rattle.xf_controls_copies.specs.Parents.{are_parents, has_children}

parent-is : (n : ℕ) (p : Option ℕ) → is_parent n p ≡ true → p ≡ Some n
parent-is n None h = cc h
parent-is n (Some m) h = let same : n ≡ m = grind (arith, nat_tests, h) in ap Some (sym same)

children-are : (f : Interface) (n : ℕ) (ps : List Part) → are_children f n (flat_map child_in ps) ≡ true → EachChild (λ m. (element_at f m).parent ≡ Some n) ps
children-are f n [] h = tt
children-are f n (part.Text text ∷ ps) h = children-are f n ps h
children-are f n (part.Element m ∷ ps) h =
    let both = and_parts (is_parent n (element_at f m).parent) (are_children f n (flat_map child_in ps)) h in
    (parent-is n (element_at f m).parent both.0, children-are f n ps both.1)

children-among : (f : Interface) (k : ℕ) (es : List Element) (n : ℕ) → list_all (has_children f) (numbered_from k es) ≡ true → EachChild (λ m. (element_at f m).parent ≡ Some (k + n)) (get_or es n no_element).parts
children-among f k [] n h = tt
children-among f k (e ∷ es) zero h =
    let same : k ≡ k + 0 = omega arith in
    subst (λ j. EachChild (λ m. (element_at f m).parent ≡ Some j) e.parts) same (children-are f k e.parts (and_parts (has_children f (k, e)) (list_all (has_children f) (numbered_from (suc k) es)) h).0)
children-among f k (e ∷ es) (suc n) h =
    let same : suc k + n ≡ k + suc n = omega arith in
    subst (λ j. EachChild (λ m. (element_at f m).parent ≡ Some j) (get_or es n no_element).parts) same
    (children-among f (suc k) es n (and_parts (has_children f (k, e)) (list_all (has_children f) (numbered_from (suc k) es)) h).1)

pub parents-in : (f : Interface) → are_parents f ≡ true → Parents f
parents-in f h n =
    let same : 0 + n ≡ n = omega arith in
    subst (λ j. EachChild (λ m. (element_at f m).parent ≡ Some j) (element_at f n).parts) same
    (children-among f 0 f.elements n (and_parts (is_top (element_at f 0).parent) (list_all (has_children f) (numbered_from 0 f.elements)) h).1)

top-none : (p : Option ℕ) → is_top p ≡ true → p ≡ None
top-none None h = refl
top-none (Some n) h = cc h

pub first-alone : (f : Interface) → are_parents f ≡ true → (element_at f 0).parent ≡ None
first-alone f h = top-none (element_at f 0).parent (and_parts (is_top (element_at f 0).parent) (list_all (has_children f) (numbered_from 0 f.elements)) h).0

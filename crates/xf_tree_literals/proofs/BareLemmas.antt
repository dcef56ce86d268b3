-- Literal trees with resolved names, level by level: their elements, the first fault of these, and their contents.
use Rattle.std.proofs.Common.{◌≡◌, ℕ, ◌+◌, ◌<◌, ◌==◌, ◌||◌, not, Bool, true, false, cond, List, [], ◌∷◌, ◌++◌, map, flat_map, length, drop, get_or, codes, Option, Some, None, option_map, refl, sym, ap, ◌∙◌, inl, inr, arith}
use Rattle.std.specs.List.{list_any}
use Rattle.std.specs.Str.{bytes_eq}
use Rattle.std.proofs.lemmas.Bool.{cases_Bool}
use Rattle.std.proofs.lemmas.Bool.Decides.{nat_tests}
use Rattle.std.proofs.lemmas.List.{drop_more}
use Rattle.indexmap.specs.IndexSet.{insert_key}
use Rattle.xf_name.specs.Bindings.{Bindings}
use Rattle.xf_name.specs.Part.{kind_of, kind_by, at_colon}
use Rattle.xf_name.specs.Faults.{is_same_name}
use Rattle.xf_name.proofs.DoubleLemmas.{Name, Key, doubles, name_shown, same_key}
use Rattle.xf_def_forest.specs.declared.bare.Bare.{Bare}
use Rattle.xf_def_forest.specs.declared.bare.Bare.TheFolds.{fold_out-BareElement}
use Rattle.xf_def_forest.specs.declared.bare.BareElement.{BareElement}
use Rattle.xf_def_forest.specs.declared.bare.BareAttribute.{BareAttribute}
use Rattle.xf_def_forest.specs.Forest.{written_with}
use Rattle.xf_def_forest.specs.Planted.{Elements, elements_of_bare, bare_elements, bare_element_elements, bare_fault, first_fault, or_later, is_declaration}
use Rattle.xf_tree_literals.specs.Contents.{elements_of_element, elements_of_all}
use Rattle.xf_tree_literals.proofs.FaultLemmas.{first-append}

-- ---- elements

all-elements : (xs : List Bare) → flat_map (λ child. child) (map elements_of_bare xs) ≡ elements_of_all xs
all-elements [] = refl
all-elements (x ∷ xs) = ap (λ es. elements_of_bare x ++ es) (all-elements xs)

elements_of_element-is : (e : BareElement) → elements_of_element e ≡ (e.name, e.attributes) ∷ elements_of_all e.children
elements_of_element-is e = fold_out-BareElement Elements Elements bare_elements bare_element_elements e ∙ ap (λ es. (e.name, e.attributes) ∷ es) (all-elements e.children)

-- ---- the first fault

pub first-of_element : (b : Bindings) (e : BareElement) → first_fault (bare_fault b) (elements_of_element e) ≡ or_later (bare_fault b (e.name, e.attributes)) (first_fault (bare_fault b) (elements_of_all e.children))
first-of_element b e = ap (first_fault (bare_fault b)) (elements_of_element-is e)

pub first-of_all : (b : Bindings) (x : Bare) (xs : List Bare) → first_fault (bare_fault b) (elements_of_all (x ∷ xs)) ≡ or_later (first_fault (bare_fault b) (elements_of_bare x)) (first_fault (bare_fault b) (elements_of_all xs))
first-of_all b x xs = first-append (bare_fault b) (elements_of_bare x) (elements_of_all xs)

-- ---- names that would declare

abbrev with_more : Option (List ℕ × List ℕ) → List ℕ → List ℕ → Option (List ℕ × List ℕ)
with_more None p l = Some (p, l)
with_more (Some (before, after)) p l = Some (before, after ++ (58 ∷ l))

colon-append : (p l : List ℕ) → at_colon (p ++ (58 ∷ l)) ≡ with_more (at_colon p) p l
colon-append [] l = refl
colon-append (c ∷ cs) l = elim (cases_Bool (c == 58)) [
  | inl e ↦ rw e refl
  | inr e ↦ rw e (ap (option_map (λ (q : List ℕ × List ℕ). (c ∷ q.0, q.1))) (colon-append cs l) ∙ more (at_colon cs))
]
  where
    more : (o : Option (List ℕ × List ℕ)) → option_map (λ (q : List ℕ × List ℕ). (c ∷ q.0, q.1)) (with_more o cs l) ≡ with_more (option_map (λ (q : List ℕ × List ℕ). (c ∷ q.0, q.1)) o) (c ∷ cs) l
    more None = refl
    more (Some (before, after)) = refl

declares-by : (p l w : List ℕ) (o : Option (List ℕ × List ℕ)) → is_declaration (kind_by p o) ≡ is_declaration (kind_by w (with_more o p l))
declares-by p l w None = elim (cases_Bool (bytes_eq p (codes "xmlns"))) [ inl e ↦ rw e refl | inr e ↦ rw e refl ]
declares-by p l w (Some (before, after)) = elim (cases_Bool (bytes_eq before (codes "xmlns"))) [ inl e ↦ rw e refl | inr e ↦ rw e refl ]

-- with a prefix, the prefix alone tells
pub declares-with : (p l : List ℕ) → 0 < length p → is_declaration (kind_of p) ≡ is_declaration (kind_of (written_with p l))
declares-with [] l h = absurd (omega arith)
declares-with (c ∷ cs) l h =
    let w = (c ∷ cs) ++ (58 ∷ l) in
    declares-by (c ∷ cs) l w (at_colon (c ∷ cs)) ∙ ap (λ o. is_declaration (kind_by w o)) (sym (colon-append (c ∷ cs) l))

pub not-zero : (n : ℕ) → (n == 0) ≡ false → 0 < n
not-zero n e = grind (arith, nat_tests)

-- ---- names that stand twice

abbrev name_of : BareAttribute → Name
name_of a = (a.name.space, a.name.local)

any-shown : (x : Key) (keys : List Key) → list_any (same_key x) keys ≡ list_any (is_same_name (name_shown x)) (map name_shown keys)
any-shown x [] = refl
any-shown x (k ∷ ks) = ap (λ t. same_key x k || t) (any-shown x ks)

map-push : (xs : List Key) (x : Key) → map name_shown (xs ++ (x ∷ [])) ≡ map name_shown xs ++ (name_shown x ∷ [])
map-push [] x = refl
map-push (y ∷ ys) x = ap (λ l. name_shown y ∷ l) (map-push ys x)

looked : (whole : Bool) (attributes : List BareAttribute) (i : ℕ) (a : BareAttribute) (keys : List Key) (x : Key) → i < length attributes → a ≡ get_or attributes i a → whole ≡ doubles (map name_shown keys) (map name_of (drop i attributes)) → name_shown x ≡ name_of a
    → whole ≡ (list_any (same_key x) keys || doubles (map name_shown keys ++ (name_shown x ∷ [])) (map name_of (drop (i + 1) attributes)))
looked whole attributes i a keys x within is so_far found =
    let here : drop i attributes ≡ a ∷ drop (i + 1) attributes = drop_more attributes i a within ∙ ap (λ y. y ∷ drop (i + 1) attributes) (sym is) in
    so_far ∙ ap (λ l. doubles (map name_shown keys) (map name_of l)) here
    ∙ ap (λ n. list_any (is_same_name n) (map name_shown keys) || doubles (map name_shown keys ++ (n ∷ [])) (map name_of (drop (i + 1) attributes))) (sym found)
    ∙ ap (λ t. t || doubles (map name_shown keys ++ (name_shown x ∷ [])) (map name_of (drop (i + 1) attributes))) (sym (any-shown x keys))

not-false : (t : Bool) → not t ≡ false → t ≡ true
not-false true h = refl
not-false false h = cc

not-true : (t : Bool) → not t ≡ true → t ≡ false
not-true true h = cc
not-true false h = refl

pub bare-doubled : (whole : Bool) (attributes : List BareAttribute) (i : ℕ) (a : BareAttribute) (keys : List Key) (x : Key) → i < length attributes → a ≡ get_or attributes i a → whole ≡ doubles (map name_shown keys) (map name_of (drop i attributes)) → name_shown x ≡ name_of a
    → (added : Bool) → added ≡ not (list_any (same_key x) keys) → added ≡ false → true ≡ whole
bare-doubled whole attributes i a keys x within is so_far found added told old =
    sym (looked whole attributes i a keys x within is so_far found ∙ ap (λ t. t || doubles (map name_shown keys ++ (name_shown x ∷ [])) (map name_of (drop (i + 1) attributes))) (not-false (list_any (same_key x) keys) (sym told ∙ old)))

pub bare-more : (whole : Bool) (attributes : List BareAttribute) (i : ℕ) (a : BareAttribute) (keys new : List Key) (x : Key) → i < length attributes → a ≡ get_or attributes i a → whole ≡ doubles (map name_shown keys) (map name_of (drop i attributes)) → name_shown x ≡ name_of a
    → (added : Bool) → added ≡ not (list_any (same_key x) keys) → added ≡ true → new ≡ insert_key same_key keys x → whole ≡ doubles (map name_shown new) (map name_of (drop (i + 1) attributes))
bare-more whole attributes i a keys new x within is so_far found added told fresh made =
    let absent : list_any (same_key x) keys ≡ false = not-true (list_any (same_key x) keys) (sym told ∙ fresh) in
    let last : new ≡ keys ++ (x ∷ []) = made ∙ ap (λ t. cond t keys (keys ++ (x ∷ []))) absent in
    looked whole attributes i a keys x within is so_far found ∙ ap (λ t. t || doubles (map name_shown keys ++ (name_shown x ∷ [])) (map name_of (drop (i + 1) attributes))) absent
    ∙ ap (λ l. doubles l (map name_of (drop (i + 1) attributes))) (sym (ap (map name_shown) last ∙ map-push keys x))

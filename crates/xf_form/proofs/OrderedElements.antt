-- The elements of a form stand in document order: their trees say so.
use Rattle.std.proofs.Common.{◌≡◌, ◌≤◌, ℕ, suc, ◌+◌, Bool, true, false, ◌&&◌, cond, List, [], ◌∷◌, ◌++◌, map, filter, length, bytes_eq, None, refl, ap, ap₂, sym, ◌∙◌, subst, append_assoc, append-nil, length-append, arith, inl, inr, ◌⊎◌}
use Rattle.std.specs.Prelude.{option_map}
use Rattle.std.specs.List.{list_all}
use Rattle.xf_def_syntax.specs.Ordered.{children, numbered_from, numbered, are_later, is_parent, has_its_children, may_follow, still_around, are_in_order}
use Rattle.xf_def_syntax.specs.declared.element.Element.{Element}
use Rattle.xf_name.specs.Bindings.{Bindings}
use Rattle.xf_form_refusals.specs.declared.classes.Class.TheVariants as class
use Rattle.xf_form_refusals.specs.Classes.{is_of}
use Rattle.xf_form_refusals.specs.Rows.{Seen}
use Rattle.xf_form_refusals.specs.Tally.{one_where}
use Rattle.xf_form.specs.Numbers.{number_of}
use Rattle.xf_form.specs.Tables.{each_from, element_at, form_with}
use Rattle.xf_form.proofs.ElementTrees.{Trees, none, tree, size, Told, told_from, told_later, later_told, kids_of, told_children, children_told, told_order, order_root}
use Rattle.xf_form.proofs.FormTrees.{cnt, numbers_in, told_of, told_in, cnt_cons, cnt_push, num_at, FormTells}

abbrev pub view : ℕ × Element → Told
view e = (e.0, (e.1.parent, children e.1))

-- ---- the elements that are numbered are those that the trees tell

pub length_push : (before : List Seen) (r : Seen) → length (before ++ r ∷ []) ≡ suc (length before)
length_push before r = let sum = length-append before (r ∷ []) in omega (arith, sum)

viewed_one : (d : ℕ) (b : Bindings) (all before : List Seen) (r : Seen) (rs : List Seen) (c : Bool) → is_of class.Numbered r ≡ c → number_of all (length before) ≡ cnt before
    → ((k n : ℕ) → cnt (before ++ r ∷ []) ≡ k → suc (length before) ≡ n → map view (numbered_from k (each_from class.Numbered (element_at d b all) n rs)) ≡ told_in all n rs)
    → map view (numbered_from (cnt before) (each_from class.Numbered (element_at d b all) (length before) (r ∷ rs))) ≡ told_in all (length before) (r ∷ rs)
viewed_one d b all before r rs true kind own rest =
    let k = cnt before in
    let n = length before in
    let x = element_at d b all n r in
    let later = each_from class.Numbered (element_at d b all) (suc n) rs in
    let more : cnt (before ++ r ∷ []) ≡ suc k = let sum = cnt_push before r in let one = ap one_where kind in omega (arith, sum, one) in
    let here : view (k, x) ≡ told_of all n r = ap (λ m. (m, (option_map (number_of all) r.standing.parent, numbers_in all r.parts))) (sym own) in
    ap (λ c. map view (numbered_from k (cond c (x ∷ []) [] ++ later))) kind ∙ ap (λ t. t ∷ map view (numbered_from (suc k) later)) here
    ∙ ap (λ l. told_of all n r ∷ l) (rest (suc k) (suc n) more refl) ∙ sym (ap (λ c. cond c (told_of all n r ∷ []) [] ++ told_in all (suc n) rs) kind)
viewed_one d b all before r rs false kind own rest =
    let k = cnt before in
    let n = length before in
    let x = element_at d b all n r in
    let later = each_from class.Numbered (element_at d b all) (suc n) rs in
    let same : cnt (before ++ r ∷ []) ≡ k = let sum = cnt_push before r in let one = ap one_where kind in omega (arith, sum, one) in
    ap (λ c. map view (numbered_from k (cond c (x ∷ []) [] ++ later))) kind ∙ rest k (suc n) same refl ∙ sym (ap (λ c. cond c (told_of all n r ∷ []) [] ++ told_in all (suc n) rs) kind)

pub viewed : (d : ℕ) (b : Bindings) (all before rs : List Seen) → before ++ rs ≡ all → map view (numbered_from (cnt before) (each_from class.Numbered (element_at d b all) (length before) rs)) ≡ told_in all (length before) rs
viewed d b all before [] is = refl
viewed d b all before (r ∷ rs) is =
    let place : (before ++ r ∷ []) ++ rs ≡ all = append_assoc before (r ∷ []) rs ∙ is in
    viewed_one d b all before r rs (is_of class.Numbered r) refl (num_at all before (r ∷ rs) is)
    (λ k n counted long.
    let far : length (before ++ r ∷ []) ≡ n = length_push before r ∙ long in
    subst (λ m. map view (numbered_from k (each_from class.Numbered (element_at d b all) m rs)) ≡ told_in all m rs) far
    (subst (λ m. map view (numbered_from m (each_from class.Numbered (element_at d b all) (length (before ++ r ∷ [])) rs)) ≡ told_in all (length (before ++ r ∷ [])) rs) counted
    (viewed d b all (before ++ r ∷ []) rs place)))

-- ---- the tests, by what the trees tell

all_viewed : (p : ℕ × Element → Bool) (q : Told → Bool) → ((e : ℕ × Element) → p e ≡ q (view e)) → (es : List (ℕ × Element)) → list_all p es ≡ list_all q (map view es)
all_viewed p q same [] = refl
all_viewed p q same (e ∷ es) = ap₂ (λ x y. x && y) (same e) (all_viewed p q same es)

kept_one : (c : Bool) (x : ℕ × Element) (xs : List (ℕ × Element)) (ys : List Told) → map (λ y. y.0) xs ≡ map (λ y. y.0) ys → map (λ y. y.0) (cond c (x ∷ xs) xs) ≡ map (λ y. y.0) (cond c (view x ∷ ys) ys)
kept_one true x xs ys same = ap (λ l. x.0 ∷ l) same
kept_one false x xs ys same = same

kids_viewed : (n : ℕ) (es : List (ℕ × Element)) → map (λ x. x.0) (filter (λ x. is_parent n x.1.parent) es) ≡ kids_of n (map view es)
kids_viewed n [] = refl
kids_viewed n (e ∷ es) = kept_one (is_parent n e.1.parent) e (filter (λ x. is_parent n x.1.parent) es) (filter (λ x. is_parent n x.1.0) (map view es)) (kids_viewed n es)

order_viewed : (around : List ℕ) (es : List (ℕ × Element)) → are_in_order around es ≡ told_order around (map view es)
order_viewed around [] = refl
order_viewed around (e ∷ es) = ap (λ x. may_follow around e.1.parent && x) (order_viewed (e.0 ∷ still_around around e.1.parent) es)

one_long : {X : Type 0} (c : Bool) (x : X) → length (cond c (x ∷ []) []) ≡ one_where c
one_long true x = refl
one_long false x = refl

each_length : {X : Type 0} (f : ℕ → Seen → X) (n : ℕ) (rs : List Seen) → length (each_from class.Numbered f n rs) ≡ cnt rs
each_length f n [] = refl
each_length f n (r ∷ rs) =
    let sum = length-append (cond (is_of class.Numbered r) (f n r ∷ []) []) (each_from class.Numbered f (suc n) rs) in
    let one = one_long (is_of class.Numbered r) (f n r) in
    let rest = each_length f (suc n) rs in
    let counted = cnt_cons r rs in
    omega (arith, sum, one, rest, counted)

-- ---- a whole form

pub form_viewed : (d : ℕ) (b : Bindings) (all : List Seen) (tells : FormTells all) → map view (numbered (form_with d b all)) ≡ told_from 0 None tells.ts
form_viewed d b all tells = viewed d b all [] all refl ∙ tells.told

pub form_later : (d : ℕ) (b : Bindings) (all : List Seen) → FormTells all → list_all (are_later (length (form_with d b all).elements)) (numbered (form_with d b all)) ≡ true
form_later d b all tells =
    let whole = length (form_with d b all).elements in
    let long : whole ≡ cnt all = each_length (element_at d b all) 0 all in
    let fits : 0 + size tells.ts ≤ whole = omega (arith, long, tells.sized) in
    all_viewed (are_later whole) (told_later whole) (λ e. refl) (numbered (form_with d b all)) ∙ ap (list_all (told_later whole)) (form_viewed d b all tells) ∙ later_told whole 0 None tells.ts fits

pub form_children : (d : ℕ) (b : Bindings) (all : List Seen) → FormTells all → list_all (has_its_children (numbered (form_with d b all))) (numbered (form_with d b all)) ≡ true
form_children d b all tells =
    let es = numbered (form_with d b all) in
    let told = told_from 0 None tells.ts in
    let alone : told ≡ [] ++ (told ++ []) = sym (append-nil told) in
    all_viewed (has_its_children es) (told_children (map view es)) (λ e. ap (bytes_eq (children e.1)) (kids_viewed e.0 es)) es
    ∙ ap (λ l. list_all (told_children l) l) (form_viewed d b all tells)
    ∙ children_told told [] [] 0 None tells.ts alone (λ n low. refl) (λ n low high. refl) (λ n low high. refl)

alone_in_order : (ts : Trees) → ((ts ≡ none) ⊎ ((kids : Trees) × (ts ≡ tree kids none))) → told_order [] (told_from 0 None ts) ≡ true
alone_in_order ts (inl is) = ap (λ t. told_order [] (told_from 0 None t)) is
alone_in_order ts (inr is) = ap (λ t. told_order [] (told_from 0 None t)) is.1 ∙ order_root is.0

pub form_order : (d : ℕ) (b : Bindings) (all : List Seen) → FormTells all → are_in_order [] (numbered (form_with d b all)) ≡ true
form_order d b all tells = order_viewed [] (numbered (form_with d b all)) ∙ ap (told_order []) (form_viewed d b all tells) ∙ alone_in_order tells.ts tells.single

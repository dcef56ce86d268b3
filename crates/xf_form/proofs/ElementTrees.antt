-- Elements of a form as trees, told in document order: each by its number, the number of the element around it, and those of its children.
use Rattle.std.proofs.Common.{◌≡◌, ◌≤◌, ◌<◌, ℕ, suc, ◌+◌, nat_lt, Bool, true, false, ◌&&◌, ◌==◌, List, [], ◌∷◌, ◌++◌, map, filter, bytes_eq, Option, Some, None, refl, ap, sym, ◌∙◌, append_assoc, append-nil, arith, inl, inr, ◌⊎◌, rules}
use Rattle.std.specs.List.{list_all, list_any}
use Rattle.std.proofs.lemmas.Bool.{and_from, and_parts, lt-ltb, ltb-true, ne_eqb, or_left, or_right, cond-true, cond-false}
use Rattle.std.proofs.lemmas.List.{map-append}
use Rattle.std.proofs.lemmas.List.Elements.{filter-append}
use Rattle.std.proofs.lemmas.List.Folds.{list_all-append}
use Rattle.std.proofs.lemmas.Slice.Eq.{bytes_eq-Decides}
use Rattle.xf_def_syntax.specs.Ordered.{is_parent, still_around, may_follow}

-- none, or an element with the trees in it, and the trees beside it
pub data Trees : Type 0 where
  none : Trees
  tree : Trees → Trees → Trees

abbrev pub size : Trees → ℕ
size none = 0
size (tree kids rest) = suc (size kids + size rest)

-- the numbers of those that stand in no other, where the first of all has this one
abbrev pub roots : ℕ → Trees → List ℕ
roots k none = []
roots k (tree kids rest) = k ∷ roots (suc k + size kids) rest

abbrev pub Told : Type 0
Told = ℕ × (Option ℕ × List ℕ)

abbrev pub told_from : ℕ → Option ℕ → Trees → List Told
told_from k parent none = []
told_from k parent (tree kids rest) = (k, (parent, roots (suc k) kids)) ∷ (told_from (suc k) (Some k) kids ++ told_from (suc k + size kids) parent rest)

-- ---- trees beside others

abbrev pub beside : Trees → Trees → Trees
beside none us = us
beside (tree kids rest) us = tree kids (beside rest us)

pub size_beside : (ts us : Trees) → size (beside ts us) ≡ size ts + size us
size_beside none us = omega arith
size_beside (tree kids rest) us = omega (arith, size_beside rest us)

pub roots_beside : (k : ℕ) (ts us : Trees) → roots k (beside ts us) ≡ roots k ts ++ roots (k + size ts) us
roots_beside k none us = let same : k ≡ k + 0 = omega arith in ap (λ n. roots n us) same
roots_beside k (tree kids rest) us =
    let same : suc k + size kids + size rest ≡ k + suc (size kids + size rest) = omega arith in
    ap (λ l. k ∷ l) (roots_beside (suc k + size kids) rest us ∙ ap (λ n. roots (suc k + size kids) rest ++ roots n us) same)

pub told_beside : (k : ℕ) (parent : Option ℕ) (ts us : Trees) → told_from k parent (beside ts us) ≡ told_from k parent ts ++ told_from (k + size ts) parent us
told_beside k parent none us = let same : k ≡ k + 0 = omega arith in ap (λ n. told_from n parent us) same
told_beside k parent (tree kids rest) us =
    let m = suc k + size kids in
    let same : suc k + size kids + size rest ≡ k + suc (size kids + size rest) = omega arith in
    let inner = told_from (suc k) (Some k) kids in
    ap (λ l. (k, (parent, roots (suc k) kids)) ∷ (inner ++ l)) (told_beside m parent rest us ∙ ap (λ n. told_from m parent rest ++ told_from n parent us) same)
    ∙ ap (λ l. (k, (parent, roots (suc k) kids)) ∷ l) (sym (append_assoc inner (told_from m parent rest) (told_from (k + suc (size kids + size rest)) parent us)))

-- ---- a child stands later than its element

abbrev pub told_later : ℕ → Told → Bool
told_later whole t = list_all (λ n. nat_lt t.0 n && nat_lt n whole) t.1.1

roots_within : (low high k : ℕ) (ts : Trees) → low < k → k + size ts ≤ high → list_all (λ n. nat_lt low n && nat_lt n high) (roots k ts) ≡ true
roots_within low high k none above below = refl
roots_within low high k (tree kids rest) above below =
    and_from (nat_lt low k && nat_lt k high) _ (and_from (nat_lt low k) (nat_lt k high) (lt-ltb low k above) (lt-ltb k high (omega arith)))
    (roots_within low high (suc k + size kids) rest (omega arith) (omega arith))

all_append : {X : Type 0} (p : X → Bool) (xs ys : List X) → list_all p xs ≡ true → list_all p ys ≡ true → list_all p (xs ++ ys) ≡ true
all_append p xs ys first second = list_all-append p xs ys ∙ and_from (list_all p xs) (list_all p ys) first second

pub later_told : (whole k : ℕ) (parent : Option ℕ) (ts : Trees) → k + size ts ≤ whole → list_all (told_later whole) (told_from k parent ts) ≡ true
later_told whole k parent none within = refl
later_told whole k parent (tree kids rest) within =
    let m = suc k + size kids in
    and_from (told_later whole (k, (parent, roots (suc k) kids))) _ (roots_within k whole (suc k) kids (omega arith) (omega arith))
    (all_append (told_later whole) (told_from (suc k) (Some k) kids) (told_from m parent rest) (later_told whole (suc k) (Some k) kids (omega arith)) (later_told whole m parent rest (omega arith)))

-- ---- its children are those that have it as parent

abbrev pub kids_of : ℕ → List Told → List ℕ
kids_of n all = map (λ x. x.0) (filter (λ x. is_parent n x.1.0) all)

abbrev pub told_children : List Told → Told → Bool
told_children all t = bytes_eq t.1.1 (kids_of t.0 all)

kids_append : (n : ℕ) (xs ys : List Told) → kids_of n (xs ++ ys) ≡ kids_of n xs ++ kids_of n ys
kids_append n xs ys = ap (map (λ x. x.0)) (filter-append (λ x. is_parent n x.1.0) xs ys) ∙ map-append (λ x. x.0) (filter (λ x. is_parent n x.1.0) xs) (filter (λ x. is_parent n x.1.0) ys)

kids_skip : (n : ℕ) (t : Told) (ts : List Told) → is_parent n t.1.0 ≡ false → kids_of n (t ∷ ts) ≡ kids_of n ts
kids_skip n t ts apart = ap (map (λ x. x.0)) (cond-false (is_parent n t.1.0) (t ∷ filter (λ x. is_parent n x.1.0) ts) (filter (λ x. is_parent n x.1.0) ts) apart)

kids_take : (n : ℕ) (t : Told) (ts : List Told) → is_parent n t.1.0 ≡ true → kids_of n (t ∷ ts) ≡ t.0 ∷ kids_of n ts
kids_take n t ts holds = ap (map (λ x. x.0)) (cond-true (is_parent n t.1.0) (t ∷ filter (λ x. is_parent n x.1.0) ts) (filter (λ x. is_parent n x.1.0) ts) holds)

-- a number past them, or before them, that is not the parent's
pub kids_none : (n k : ℕ) (parent : Option ℕ) (ts : Trees) → (n < k) ⊎ (k + size ts ≤ n) → is_parent n parent ≡ false → kids_of n (told_from k parent ts) ≡ []
kids_none n k parent none stands around = refl
kids_none n k parent (tree kids rest) stands around =
    let m = suc k + size kids in
    let inner = told_from (suc k) (Some k) kids in
    let after = told_from m parent rest in
    let other : (n == k) ≡ false = ne_eqb n k (λ same. elim stands [ inl before ↦ omega arith | inr past ↦ omega arith ]) in
    let in_kids : (n < suc k) ⊎ (suc k + size kids ≤ n) = elim stands [ inl before ↦ inl (omega arith) | inr past ↦ inr (omega arith) ] in
    let in_rest : (n < m) ⊎ (m + size rest ≤ n) = elim stands [ inl before ↦ inl (omega arith) | inr past ↦ inr (omega arith) ] in
    kids_skip n (k, (parent, roots (suc k) kids)) (inner ++ after) around ∙ kids_append n inner after
    ∙ ap (λ l. l ++ kids_of n after) (kids_none n (suc k) (Some k) kids in_kids other) ∙ kids_none n m parent rest in_rest around

pub kids_own : (n k : ℕ) (ts : Trees) → n < k → kids_of n (told_from k (Some n) ts) ≡ roots k ts
kids_own n k none before = refl
kids_own n k (tree kids rest) before =
    let m = suc k + size kids in
    let inner = told_from (suc k) (Some k) kids in
    let after = told_from m (Some n) rest in
    let same : (n == n) ≡ true = search rules in
    let other : (n == k) ≡ false = ne_eqb n k (λ equal. omega arith) in
    kids_take n (k, (Some n, roots (suc k) kids)) (inner ++ after) same
    ∙ ap (λ l. k ∷ l) (kids_append n inner after ∙ ap (λ l. l ++ kids_of n after) (kids_none n (suc k) (Some k) kids (inl (omega arith)) other) ∙ kids_own n m rest (omega arith))

-- what stands before and after has no parent among these numbers
abbrev Quiet : List Told → ℕ → ℕ → Type 0
Quiet told low high = (n : ℕ) → low ≤ n → n < high → kids_of n told ≡ []

abbrev IsBelow : Option ℕ → ℕ → Type 0
IsBelow parent k = (n : ℕ) → k ≤ n → is_parent n parent ≡ false

pub children_told : (whole before after : List Told) (k : ℕ) (parent : Option ℕ) (ts : Trees) → whole ≡ before ++ (told_from k parent ts ++ after) → IsBelow parent k → Quiet before k (k + size ts) → Quiet after k (k + size ts)
    → list_all (told_children whole) (told_from k parent ts) ≡ true
children_told whole before after k parent none is below first last = refl
children_told whole before after k parent (tree kids rest) is below first last =
    let m = suc k + size kids in
    let head : Told = (k, (parent, roots (suc k) kids)) in
    let inner = told_from (suc k) (Some k) kids in
    let beyond = told_from m parent rest in
    let in_kids : kids_of k inner ≡ roots (suc k) kids = kids_own k (suc k) kids (omega arith) in
    let in_rest : kids_of k beyond ≡ [] = kids_none k m parent rest (inl (omega arith)) (below k (omega arith)) in
    let own : kids_of k whole ≡ roots (suc k) kids =
    ap (kids_of k) is ∙ kids_append k before ((head ∷ (inner ++ beyond)) ++ after)
    ∙ ap (λ l. l ++ kids_of k ((head ∷ (inner ++ beyond)) ++ after)) (first k (omega arith) (omega arith))
    ∙ kids_append k (head ∷ (inner ++ beyond)) after ∙ ap (λ l. kids_of k (head ∷ (inner ++ beyond)) ++ l) (last k (omega arith) (omega arith))
    ∙ append-nil (kids_of k (head ∷ (inner ++ beyond))) ∙ kids_skip k head (inner ++ beyond) (below k (omega arith)) ∙ kids_append k inner beyond
    ∙ ap (λ l. l ++ kids_of k beyond) in_kids ∙ ap (λ l. roots (suc k) kids ++ l) in_rest ∙ append-nil (roots (suc k) kids) in
    let at_kids : whole ≡ (before ++ head ∷ []) ++ (inner ++ (beyond ++ after)) =
    is ∙ ap (λ l. before ++ head ∷ l) (append_assoc inner beyond after) ∙ sym (append_assoc before (head ∷ []) (inner ++ (beyond ++ after))) in
    let at_rest : whole ≡ (before ++ head ∷ inner) ++ (beyond ++ after) =
    is ∙ ap (λ l. before ++ head ∷ l) (append_assoc inner beyond after) ∙ sym (append_assoc before (head ∷ inner) (beyond ++ after)) in
    let kids_first : Quiet (before ++ head ∷ []) (suc k) (suc k + size kids) = λ n low high.
    kids_append n before (head ∷ []) ∙ ap (λ l. l ++ kids_of n (head ∷ [])) (first n (omega arith) (omega arith)) ∙ kids_skip n head [] (below n (omega arith)) in
    let kids_last : Quiet (beyond ++ after) (suc k) (suc k + size kids) = λ n low high.
    kids_append n beyond after ∙ ap (λ l. l ++ kids_of n after) (kids_none n m parent rest (inl (omega arith)) (below n (omega arith))) ∙ last n (omega arith) (omega arith) in
    let rest_first : Quiet (before ++ head ∷ inner) m (m + size rest) = λ n low high.
    kids_append n before (head ∷ inner) ∙ ap (λ l. l ++ kids_of n (head ∷ inner)) (first n (omega arith) (omega arith))
    ∙ kids_skip n head inner (below n (omega arith)) ∙ kids_none n (suc k) (Some k) kids (inr (omega arith)) (ne_eqb n k (λ same. omega arith)) in
    let rest_last : Quiet after m (m + size rest) = λ n low high. last n (omega arith) (omega arith) in
    and_from (told_children whole head) _ ((bytes_eq-Decides (roots (suc k) kids) (kids_of k whole)).1 (sym own))
    (all_append (told_children whole) inner beyond
    (children_told whole (before ++ head ∷ []) (beyond ++ after) (suc k) (Some k) kids at_kids (λ n low. ne_eqb n k (λ same. omega arith)) kids_first kids_last)
    (children_told whole (before ++ head ∷ inner) after m parent rest at_rest (λ n low. below n (omega arith)) rest_first rest_last))

-- ---- document order

abbrev pub told_order : List ℕ → List Told → Bool
told_order around [] = true
told_order around (t ∷ ts) = may_follow around t.1.0 && told_order (t.0 ∷ still_around around t.1.0) ts

-- the element and those around it are the last of these, behind later ones
record Ends (p : ℕ) (ns around : List ℕ) : Type 0 where
  front : List ℕ
  is : around ≡ front ++ p ∷ ns
  above : list_all (nat_lt p) front ≡ true

follows : (p : ℕ) (ns front : List ℕ) → list_any (λ n. n == p) (front ++ p ∷ ns) ≡ true
follows p ns [] = or_left (p == p) (list_any (λ n. n == p) ns) (search rules)
follows p ns (x ∷ xs) = or_right (x == p) (list_any (λ n. n == p) (xs ++ p ∷ ns)) (follows p ns xs)

stays : (p : ℕ) (ns front : List ℕ) → list_all (nat_lt p) front ≡ true → still_around (front ++ p ∷ ns) (Some p) ≡ p ∷ ns
stays p ns [] above = cond-true (p == p) (p ∷ ns) (still_around ns (Some p)) (search rules)
stays p ns (x ∷ xs) above =
    let parts = and_parts (nat_lt p x) (list_all (nat_lt p) xs) above in
    let later : p < x = ltb-true p x parts.0 in
    cond-false (x == p) (x ∷ (xs ++ p ∷ ns)) (still_around (xs ++ p ∷ ns) (Some p)) (ne_eqb x p (λ same. omega arith)) ∙ stays p ns xs parts.1

later_still : (p k : ℕ) (xs : List ℕ) → p < k → list_all (nat_lt k) xs ≡ true → list_all (nat_lt p) xs ≡ true
later_still p k [] less above = refl
later_still p k (x ∷ xs) less above =
    let parts = and_parts (nat_lt k x) (list_all (nat_lt k) xs) above in
    let later : k < x = ltb-true k x parts.0 in
    and_from (nat_lt p x) (list_all (nat_lt p) xs) (lt-ltb p x (omega arith)) (later_still p k xs less parts.1)

widened : (p k : ℕ) (ns around : List ℕ) → p < k → Ends k (p ∷ ns) around → Ends p ns around
widened p k ns around less ends = record {
  front = ends.front ++ k ∷ [];
  is = ends.is ∙ sym (append_assoc ends.front (k ∷ []) (p ∷ ns));
  above = all_append (nat_lt p) ends.front (k ∷ []) (later_still p k ends.front less ends.above) (and_from (nat_lt p k) true (lt-ltb p k less) refl);
}

order_told : (p k : ℕ) (ns around : List ℕ) (ts : Trees) (rest : List Told) → p < k → Ends p ns around → ((later : List ℕ) → Ends p ns later → told_order later rest ≡ true) → told_order around (told_from k (Some p) ts ++ rest) ≡ true
order_told p k ns around none rest less ends next = next around ends
order_told p k ns around (tree kids us) rest less ends next =
    let m = suc k + size kids in
    let inner = told_from (suc k) (Some k) kids in
    let beyond = told_from m (Some p) us in
    let may : may_follow around (Some p) ≡ true = ap (list_any (λ n. n == p)) ends.is ∙ follows p ns ends.front in
    let still : still_around around (Some p) ≡ p ∷ ns = ap (λ a. still_around a (Some p)) ends.is ∙ stays p ns ends.front ends.above in
    let own : Ends k (p ∷ ns) (k ∷ (p ∷ ns)) = record { front = []; is = refl; above = refl } in
    let within : told_order (k ∷ (p ∷ ns)) (inner ++ (beyond ++ rest)) ≡ true =
    order_told k (suc k) (p ∷ ns) (k ∷ (p ∷ ns)) kids (beyond ++ rest) (omega arith) own
    (λ later h. order_told p m ns later us rest (omega arith) (widened p k ns later less h) next) in
    and_from (may_follow around (Some p)) _ may
    (ap (λ a. told_order (k ∷ a) ((inner ++ beyond) ++ rest)) still ∙ ap (told_order (k ∷ (p ∷ ns))) (append_assoc inner beyond rest) ∙ within)

-- one tree by itself
pub order_root : (kids : Trees) → told_order [] (told_from 0 None (tree kids none)) ≡ true
order_root kids =
    let own : Ends 0 [] (0 ∷ []) = record { front = []; is = refl; above = refl } in
    order_told 0 1 [] (0 ∷ []) kids [] (omega arith) own (λ later h. refl)

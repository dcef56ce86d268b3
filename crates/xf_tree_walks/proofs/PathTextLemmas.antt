-- A path put together step by step.
use Rattle.std.proofs.Common.{◌≡◌, ℕ, ◌<◌, ◌==◌, true, false, List, [], ◌∷◌, ◌++◌, Result, Ok, Err, map, length, take, drop, get_or, reverse, Option, Some, None, refl, sym, ap, ◌∙◌, subst, arith, append_assoc}
use Rattle.std.specs.Prelude.{IfSome, OnOk}
use Rattle.std.specs.List.{flat_map}
use Rattle.std.proofs.lemmas.Bool.Decides.{nat_tests}
use Rattle.std.proofs.lemmas.List.{map-append, reverse-append}
use Rattle.xf_def_forest.specs.Path.{or_slash}
use Rattle.xf_tree_rows.specs.declared.rows.Row.{Row}
use Rattle.xf_tree_rows.specs.Rows.{parent_row_of, top_depth, no_row}
use Rattle.xf_tree_walks.specs.Walks.{ancestor_rows}
use Rattle.xf_tree_walks.specs.Siblings.{rows_up, AllPlaces}
use Rattle.xf_tree_walks.proofs.WalkLemmas.{climbed-first, climbed-none}

-- ---- the places up to the top

ancestors-up : (rows : List Row) (place : ℕ) (above : Option ℕ) → above ≡ parent_row_of rows place → ancestor_rows rows place ≡ rows_up rows above
ancestors-up rows place None e = climbed-none (top_depth (drop place rows)) (reverse (take place rows)) e
ancestors-up rows place (Some above) e = climbed-first (top_depth (drop place rows)) above place rows e

pub places-more : (rows : List Row) (old new : List ℕ) (place : ℕ) (next above : Option ℕ) (whole : List Row) → new ≡ old ++ (place ∷ []) → next ≡ Some place → above ≡ parent_row_of rows place
    → map (λ p. get_or rows p no_row) old ++ rows_up rows next ≡ whole → map (λ p. get_or rows p no_row) new ++ rows_up rows above ≡ whole
places-more rows old new place next above whole e is up so_far =
    let row = λ (p : ℕ). get_or rows p no_row in
    ap (λ l. map row l ++ rows_up rows above) e ∙ ap (λ l. l ++ rows_up rows above) (map-append row old (place ∷ []))
    ∙ append_assoc (map row old) (row place ∷ []) (rows_up rows above) ∙ ap (λ l. map row old ++ (row place ∷ l)) (sym (ancestors-up rows place above up))
    ∙ ap (λ o. map row old ++ rows_up rows o) (sym is) ∙ so_far

pub all-snoc : (rows : List Row) (old : List ℕ) (place : ℕ) → AllPlaces rows old → place < length rows → AllPlaces rows (old ++ (place ∷ []))
all-snoc rows [] place all h = (h, tt)
all-snoc rows (p ∷ ps) place all h = (all.0, all-snoc rows ps place all.1 h)

pub all-front : (rows : List Row) (new : List ℕ) (place : ℕ) → AllPlaces rows (new ++ (place ∷ [])) → AllPlaces rows new × (place < length rows)
all-front rows [] place all = (tt, all.0)
all-front rows (p ∷ ps) place all = let i = all-front rows ps place all.1 in ((all.0, i.0), i.1)

pub still-within : (next : Option ℕ) (place n : ℕ) → IfSome next (λ p. p < place) → place < n → IfSome next (λ p. p < n)
still-within None place n h l = tt
still-within (Some p) place n h l = omega arith

pub here-within : (next : Option ℕ) (place n : ℕ) → IfSome next (λ p. p < n) → next ≡ Some place → place < n
here-within next place n h e = subst (λ (o : Option ℕ). IfSome o (λ p. p < n)) e h

-- ---- the steps down to the node

pub steps-more : (f : ℕ → List ℕ) (g : ℕ → ℕ) (text more whole : List ℕ) (old new : List ℕ) (place : ℕ) → old ≡ new ++ (place ∷ []) → more ≡ text ++ f (g place)
    → text ++ flat_map f (reverse (map g old)) ≡ whole → more ++ flat_map f (reverse (map g new)) ≡ whole
steps-more f g text more whole old new place e is so_far =
    let back : reverse (map g old) ≡ g place ∷ reverse (map g new) = ap (λ l. reverse (map g l)) e ∙ ap reverse (map-append g new (place ∷ [])) ∙ reverse-append (map g new) (g place ∷ []) in
    ap (λ l. l ++ flat_map f (reverse (map g new))) is ∙ append_assoc text (f (g place)) (flat_map f (reverse (map g new)))
    ∙ ap (λ l. text ++ flat_map f l) (sym back) ∙ so_far

pub joined : (text one two three first name index : List ℕ) → one ≡ text ++ first → two ≡ one ++ name → three ≡ two ++ index → three ≡ text ++ (first ++ (name ++ index))
joined text one two three first name index a b c =
    c ∙ ap (λ l. l ++ index) (b ∙ ap (λ l. l ++ name) a) ∙ append_assoc (text ++ first) name index ∙ append_assoc text first (name ++ index)

pub joined-two : (text one two first name : List ℕ) → one ≡ text ++ first → two ≡ one ++ name → two ≡ text ++ (first ++ name)
joined-two text one two first name a b = b ∙ ap (λ l. l ++ name) a ∙ append_assoc text first name

-- what follows where a call succeeds
pub on-ok : {A E P Q : Type 0} (r : Result A E) → (P → Q) → OnOk r P → OnOk r Q
on-ok (Ok a) more holds = more holds
on-ok (Err e) more holds = holds

-- ---- a root alone

zero-from : (n : ℕ) → (n == 0) ≡ true → n ≡ 0
zero-from n e = grind (arith, nat_tests)

some-from : (n : ℕ) → (n == 0) ≡ false → 0 < n
some-from n e = grind (arith, nat_tests)

pub slash-none : (size : ℕ) (text more : List ℕ) → size ≡ length text → (size == 0) ≡ true → more ≡ text ++ (47 ∷ []) → more ≡ or_slash text
slash-none size [] more e is m = m
slash-none size (c ∷ cs) more e is m = absurd (let z = zero-from size is in omega arith)

pub slash-some : (size : ℕ) (text : List ℕ) → size ≡ length text → (size == 0) ≡ false → text ≡ or_slash text
slash-some size [] e other = absurd (let z = some-from size other in omega arith)
slash-some size (c ∷ cs) e other = refl

-- The elements of a form that have numbers, as trees: the walk of a form tells each of them once, in document order.
use Rattle.std.proofs.Common.{◌≡◌, ℕ, suc, ◌+◌, Bool, true, false, not, ◌&&◌, cond, List, [], ◌∷◌, ◌++◌, map, length, take, slice_get, Option, Some, None, refl, ap, sym, ◌∙◌, subst, append_assoc, append-nil, length-append, arith, inl, inr, ◌⊎◌}
use Rattle.std.specs.Prelude.{option_map, flat_map}
use Rattle.std.proofs.lemmas.Bool.{cases_Bool, and_parts, cond-true, cond-false, true≢false}
use Rattle.std.proofs.lemmas.Grind.{flat_map-append}
use Rattle.std.proofs.lemmas.List.{take_at}
use Rattle.std.proofs.lemmas.List.Sums.{sum_by-append}
use Rattle.xf_def_syntax.specs.Ordered.{child_in}
use Rattle.xf_def_syntax.specs.declared.element.Part.{Part}
use Rattle.xf_def_syntax.specs.declared.element.Part.TheVariants as part
use Rattle.xf_name.specs.Bindings.{Bindings}
use Rattle.xf_name.specs.declared.lit.Lit.{Lit}
use Rattle.xf_name.specs.declared.lit.Lit.TheOpen.{Lit-F, LitElement-F}
use Rattle.xf_name.specs.declared.lit.Lit.TheFolds.{map-Lit, ind-Lit}
use Rattle.xf_name.specs.declared.lit.Lit.TheViews.{roll-Lit, roll-LitElement}
use Rattle.xf_name.specs.declared.lit.Lit.TheVariants.{Text, Element, rolls-Text, rolls-Element}
use Rattle.xf_name.specs.declared.lit.LitElement.{LitElement}
use Rattle.xf_form_refusals.specs.declared.classes.Class.TheVariants as class
use Rattle.xf_form_refusals.specs.declared.standing.Standing.{Standing}
use Rattle.xf_form_refusals.specs.declared.standing.Zone.{Zone}
use Rattle.xf_form_refusals.specs.declared.standing.Zone.TheVariants as zone
use Rattle.xf_form_refusals.specs.Classes.{is_of}
use Rattle.xf_form_refusals.specs.Limits.{count_of}
use Rattle.xf_form_refusals.specs.Rows.{Seen, is_numbered}
use Rattle.xf_form_refusals.specs.Standing.{is_outside, is_annotation, is_instance, is_schema, zone_in, zone_in_schema, zone_below, at_root}
use Rattle.xf_form_refusals.specs.Tally.{one_where}
use Rattle.xf_form_refusals.specs.Walk.{Piece, text, element, piece_of, walk_of, rows_in, rows_from, parts_from, text_if, keeps, rows_of}
use Rattle.xf_form_refusals.proofs.WalkLemmas.{piece_of-Text, piece_of-Element, walk_of-is, head, inside}
use Rattle.xf_form_vocabulary.specs.Classes.{is_passed_over}
use Rattle.xf_form_vocabulary.specs.declared.tag.Tag.{Tag}
use Rattle.xf_form.specs.Elements.{has_number, part_of, parts_of}
use Rattle.xf_form.specs.Numbers.{number_of}
use Rattle.xf_form.specs.Tables.{each_from}
use Rattle.xf_form.proofs.ElementTrees.{Trees, none, tree, size, roots, Told, told_from, beside, size_beside, roots_beside, told_beside}

abbrev pub cnt : List Seen → ℕ
cnt rows = count_of class.Numbered rows

abbrev pub numbers_in : List Seen → List Part → List ℕ
numbers_in all ps = flat_map child_in (parts_of all ps)

abbrev pub told_of : List Seen → ℕ → Seen → Told
told_of all place r = (number_of all place, (option_map (number_of all) r.standing.parent, numbers_in all r.parts))

abbrev pub told_in : List Seen → ℕ → List Seen → List Told
told_in all place rows = each_from class.Numbered (told_of all) place rows

-- ---- lists

pub each_append : {X : Type 0} (f : ℕ → Seen → X) (n : ℕ) (xs ys : List Seen) → each_from class.Numbered f n (xs ++ ys) ≡ each_from class.Numbered f n xs ++ each_from class.Numbered f (n + length xs) ys
each_append f n [] ys = let same : n ≡ n + 0 = omega arith in ap (λ m. each_from class.Numbered f m ys) same
each_append f n (x ∷ xs) ys =
    let one = cond (is_of class.Numbered x) (f n x ∷ []) [] in
    let same : suc n + length xs ≡ n + suc (length xs) = omega arith in
    ap (λ l. one ++ l) (each_append f (suc n) xs ys ∙ ap (λ m. each_from class.Numbered f (suc n) xs ++ each_from class.Numbered f m ys) same)
    ∙ sym (append_assoc one (each_from class.Numbered f (suc n) xs) (each_from class.Numbered f (n + suc (length xs)) ys))

pub cnt_append : (xs ys : List Seen) → cnt (xs ++ ys) ≡ cnt xs + cnt ys
cnt_append xs ys = sum_by-append (λ r. one_where (is_of class.Numbered r)) xs ys

cnt_one : (row : Seen) → cnt (row ∷ []) ≡ one_where (is_of class.Numbered row)
cnt_one row = omega arith

pub cnt_cons : (row : Seen) (rows : List Seen) → cnt (row ∷ rows) ≡ one_where (is_of class.Numbered row) + cnt rows
cnt_cons row rows = cnt_append (row ∷ []) rows ∙ ap (λ n. n + cnt rows) (cnt_one row)

-- with one element more
pub cnt_push : (before : List Seen) (row : Seen) → cnt (before ++ row ∷ []) ≡ cnt before + one_where (is_of class.Numbered row)
cnt_push before row = cnt_append before (row ∷ []) ∙ ap (λ n. cnt before + n) (cnt_one row)

pub get_at : (xs ys : List Seen) (y : Seen) → slice_get (xs ++ y ∷ ys) (length xs) ≡ Some y
get_at [] ys y = refl
get_at (x ∷ xs) ys y = get_at xs ys y

pub num_at : (all before rest : List Seen) → before ++ rest ≡ all → number_of all (length before) ≡ cnt before
num_at all before rest is = ap (λ l. cnt (take (length before) l)) (sym is) ∙ ap cnt (take_at before rest (length before) refl)

numbers_append : (all : List Seen) (ps qs : List Part) → numbers_in all (ps ++ qs) ≡ numbers_in all ps ++ numbers_in all qs
numbers_append all ps qs = ap (flat_map child_in) (flat_map-append (part_of all) ps qs) ∙ flat_map-append child_in (parts_of all ps) (parts_of all qs)

-- ---- rows as trees

pub record Tells (all rows : List Seen) (numbers : List ℕ) (place k : ℕ) (parent : Option ℕ) (ts : Trees) : Type 0 where
  pub told : told_in all place rows ≡ told_from k parent ts
  pub roots_are : numbers ≡ roots k ts
  pub sized : cnt rows ≡ size ts

tells_beside : (all rows more : List Seen) (numbers others : List ℕ) (place k : ℕ) (parent : Option ℕ) (ts us : Trees) → Tells all rows numbers place k parent ts → Tells all more others (place + length rows) (k + size ts) parent us
    → Tells all (rows ++ more) (numbers ++ others) place k parent (beside ts us)
tells_beside all rows more numbers others place k parent ts us first last = record {
  told =
      each_append (told_of all) place rows more ∙ ap (λ l. l ++ told_in all (place + length rows) more) first.told ∙ ap (λ l. told_from k parent ts ++ l) last.told
      ∙ sym (told_beside k parent ts us);
  roots_are = ap (λ l. l ++ others) first.roots_are ∙ ap (λ l. roots k ts ++ l) last.roots_are ∙ sym (roots_beside k ts us);
  sized = cnt_append rows more ∙ ap (λ n. n + cnt more) first.sized ∙ ap (λ n. size ts + n) last.sized ∙ sym (size_beside ts us);
}

-- ---- elements

pub record ElementTells (b : Bindings) (all : List Seen) (e : LitElement) (s : Standing) (at : ℕ) (before : List Seen) : Type 0 where
  pub ts : Trees
  pub tells : Tells all (walk_of b e s at (length before)) (numbers_in all (part.Element (length before) ∷ [])) (length before) (cnt before) (option_map (number_of all) s.parent) ts
  pub hidden : is_outside s.zone ≡ false → ts ≡ none
  pub single : (ts ≡ none) ⊎ ((kids : Trees) × (ts ≡ tree kids none))

abbrev pub ElementFits : Bindings → LitElement → Type 0
ElementFits b e = (all : List Seen) (s : Standing) (at : ℕ) (before after : List Seen) → before ++ (walk_of b e s at (length before) ++ after) ≡ all → ElementTells b all e s at before

abbrev pub Fits : Bindings → Lit → Type 0
Fits b x = ((t : List ℕ) × (x ≡ Text t)) ⊎ ((e : LitElement) × (x ≡ Element e) × ElementFits b e)

abbrev Child : Bindings → Type 0
Child b = (x : Lit) × Fits b x

abbrev pieces : (b : Bindings) → List (Child b) → List Piece
pieces b ys = map (piece_of b) (map (λ y. y.0) ys)

record PiecesTell (b : Bindings) (all : List Seen) (ps : List Piece) (inside : Standing) (keep : Bool) (at : ℕ) (before : List Seen) : Type 0 where
  ts : Trees
  tells : Tells all (rows_from inside at (length before) ps) (numbers_in all (parts_from keep inside at (length before) ps)) (length before) (cnt before) (option_map (number_of all) inside.parent) ts
  hidden : is_outside inside.zone ≡ false → ts ≡ none

-- ---- what stands in an element

no_number : (all : List Seen) (keep : Bool) (t : List ℕ) (ps : List Part) → numbers_in all (text_if keep t ++ ps) ≡ numbers_in all ps
no_number all true t ps = refl
no_number all false t ps = refl

text_rows : (ps : List Piece) (p : Piece) (t : List ℕ) (s : Standing) (at n : ℕ) → p ≡ text t → rows_from s at n (p ∷ ps) ≡ rows_from s (at + 1) n ps
text_rows ps p t s at n is = let same : n + 0 ≡ n = omega arith in ap (λ q. rows_from s at n (q ∷ ps)) is ∙ ap (λ m. rows_from s (at + 1) m ps) same

text_parts : (ps : List Piece) (p : Piece) (t : List ℕ) (keep : Bool) (s : Standing) (at n : ℕ) → p ≡ text t → parts_from keep s at n (p ∷ ps) ≡ text_if keep t ++ parts_from keep s (at + 1) n ps
text_parts ps p t keep s at n is =
    let same : n + 0 ≡ n = omega arith in
    ap (λ q. parts_from keep s at n (q ∷ ps)) is ∙ ap (λ m. text_if keep t ++ parts_from keep s (at + 1) m ps) same

after_text : (b : Bindings) (all : List Seen) (ps : List Piece) (p : Piece) (t : List ℕ) (s : Standing) (keep : Bool) (at : ℕ) (before : List Seen) → p ≡ text t → PiecesTell b all ps s keep (at + 1) before → PiecesTell b all (p ∷ ps) s keep at before
after_text b all ps p t s keep at before is rest =
    let n = length before in
    let rows = text_rows ps p t s at n is in
    record {
      ts = rest.ts;
      tells = record {
        told = ap (told_in all n) rows ∙ rest.tells.told;
        roots_are = ap (numbers_in all) (text_parts ps p t keep s at n is) ∙ no_number all keep t (parts_from keep s (at + 1) n ps) ∙ rest.tells.roots_are;
        sized = ap cnt rows ∙ rest.tells.sized;
      };
      hidden = rest.hidden;
    }

after_element : (b : Bindings) (all : List Seen) (ps : List Piece) (p : Piece) (e : LitElement) (s : Standing) (keep : Bool) (at : ℕ) (before : List Seen) → p ≡ element (walk_of b e) → ElementTells b all e s at before
    → PiecesTell b all ps s keep (at + 1) (before ++ walk_of b e s at (length before)) → PiecesTell b all (p ∷ ps) s keep at before
after_element b all ps p e s keep at before is first rest =
    let n = length before in
    let walk = walk_of b e s at n in
    let long : length (before ++ walk) ≡ n + length walk = length-append before walk in
    let more : cnt (before ++ walk) ≡ cnt before + size first.ts = cnt_append before walk ∙ ap (λ m. cnt before + m) first.tells.sized in
    let parent = option_map (number_of all) s.parent in
    let rows_are : rows_from s at n (p ∷ ps) ≡ walk ++ rows_from s (at + 1) (length (before ++ walk)) ps =
    ap (λ q. rows_from s at n (q ∷ ps)) is ∙ ap (λ m. walk ++ rows_from s (at + 1) m ps) (sym long) in
    let parts_are : parts_from keep s at n (p ∷ ps) ≡ (part.Element n ∷ []) ++ parts_from keep s (at + 1) (length (before ++ walk)) ps =
    ap (λ q. parts_from keep s at n (q ∷ ps)) is ∙ ap (λ m. (part.Element n ∷ []) ++ parts_from keep s (at + 1) m ps) (sym long) in
    let others = rows_from s (at + 1) (length (before ++ walk)) ps in
    let other_numbers = numbers_in all (parts_from keep s (at + 1) (length (before ++ walk)) ps) in
    let last : Tells all others other_numbers (n + length walk) (cnt before + size first.ts) parent rest.ts =
    subst (λ k. Tells all others other_numbers (n + length walk) k parent rest.ts) more (subst (λ m. Tells all others other_numbers m (cnt (before ++ walk)) parent rest.ts) long rest.tells) in
    let both = tells_beside all walk others (numbers_in all (part.Element n ∷ [])) other_numbers n (cnt before) parent first.ts rest.ts first.tells last in
    record {
      ts = beside first.ts rest.ts;
      tells = record {
        told = ap (told_in all n) rows_are ∙ both.told;
        roots_are = ap (numbers_in all) parts_are ∙ numbers_append all (part.Element n ∷ []) (parts_from keep s (at + 1) (length (before ++ walk)) ps) ∙ both.roots_are;
        sized = ap cnt rows_are ∙ both.sized;
      };
      hidden = λ h. ap (λ x. beside x rest.ts) (first.hidden h) ∙ rest.hidden h;
    }

pieces_tell : (b : Bindings) (all : List Seen) (s : Standing) (keep : Bool) (at : ℕ) (before after : List Seen) (ys : List (Child b)) → before ++ (rows_from s at (length before) (pieces b ys) ++ after) ≡ all
    → PiecesTell b all (pieces b ys) s keep at before
pieces_tell b all s keep at before after [] is = record { ts = none; tells = record { told = refl; roots_are = refl; sized = refl }; hidden = λ h. refl }
pieces_tell b all s keep at before after (y ∷ ys) is =
    let n = length before in
    let ps = pieces b ys in
    elim y.1 [
      | inl h ↦
          let told : piece_of b y.0 ≡ text h.0 = ap (piece_of b) h.1 ∙ piece_of-Text b h.0 in
          after_text b all ps (piece_of b y.0) h.0 s keep at before told
          (pieces_tell b all s keep (at + 1) before after ys (ap (λ l. before ++ (l ++ after)) (sym (text_rows ps (piece_of b y.0) h.0 s at n told)) ∙ is))
      | inr h ↦
          let told : piece_of b y.0 ≡ element (walk_of b h.0) = ap (piece_of b) h.1 ∙ piece_of-Element b h.0 in
          let walk = walk_of b h.0 s at n in
          let long : length (before ++ walk) ≡ n + length walk = length-append before walk in
          let others = rows_from s (at + 1) (n + length walk) ps in
          let place : before ++ ((walk ++ others) ++ after) ≡ all = ap (λ q. before ++ (rows_from s at n (q ∷ ps) ++ after)) (sym told) ∙ is in
          let here : before ++ (walk ++ (others ++ after)) ≡ all = ap (λ l. before ++ l) (sym (append_assoc walk others after)) ∙ place in
          let there : (before ++ walk) ++ (rows_from s (at + 1) (length (before ++ walk)) ps ++ after) ≡ all =
          ap (λ m. (before ++ walk) ++ (rows_from s (at + 1) m ps ++ after)) long ∙ append_assoc before walk (others ++ after) ∙ here in
          after_element b all ps (piece_of b y.0) h.0 s keep at before told (h.2 all s at before (others ++ after) here)
          (pieces_tell b all s keep (at + 1) (before ++ walk) after ys there)
    ]

-- ---- an element with what stands in it

passed_below : (t : Tag) → not (is_passed_over t) ≡ false → is_outside (zone_in t) ≡ false
passed_below t h = by (is_instance t) (is_schema t) (is_passed_over t) h
  where
    by : (i s p : Bool) → not p ≡ false → is_outside (cond i zone.Data (cond s zone.Schema (cond p zone.Passed zone.Outside))) ≡ false
    by true s p h = refl
    by false true p h = refl
    by false false true h = refl
    by false false false h = cc h

schema_below : (t : Tag) → is_outside (zone_in_schema t) ≡ false
schema_below t = by (is_annotation t)
  where
    by : (a : Bool) → is_outside (cond a zone.Passed zone.Schema) ≡ false
    by true = refl
    by false = refl

below_hidden : (z : Zone) (t : Tag) → (is_outside z && not (is_passed_over t)) ≡ false → is_outside (zone_below z t) ≡ false
below_hidden zone.Outside t h = passed_below t h
below_hidden zone.Data t h = refl
below_hidden zone.Schema t h = schema_below t
below_hidden zone.Passed t h = refl

and_true : (x : Bool) → (x && true) ≡ x
and_true true = refl
and_true false = refl

-- an element that has a number
numbered_tells : (b : Bindings) (all : List Seen) (e : LitElement) (s i : Standing) (at : ℕ) (before after : List Seen) (ps : List Piece) (row : Seen) → walk_of b e s at (length before) ≡ row ∷ rows_from i 0 (length before + 1) ps
    → row.standing ≡ s → row.parts ≡ parts_from (keeps i) i 0 (length before + 1) ps → i.parent ≡ Some (length before) → before ++ (walk_of b e s at (length before) ++ after) ≡ all
    → is_numbered row ≡ true → PiecesTell b all ps i (keeps i) 0 (before ++ row ∷ []) → ElementTells b all e s at before
numbered_tells b all e s i at before after ps row walk stands parts above is holds inner =
    let n = length before in
    let k = cnt before in
    let rows = rows_from i 0 (n + 1) ps in
    let kind : is_of class.Numbered row ≡ true = and_true (is_numbered row) ∙ holds in
    let long : length (before ++ row ∷ []) ≡ n + 1 = length-append before (row ∷ []) in
    let next : suc n ≡ n + 1 = omega arith in
    let one : cnt (row ∷ []) ≡ 1 = cnt_one row ∙ ap one_where kind in
    let more : cnt (before ++ row ∷ []) ≡ suc k = let sum = cnt_append before (row ∷ []) in omega (arith, sum, one) in
    let place : before ++ (row ∷ (rows ++ after)) ≡ all = ap (λ l. before ++ (l ++ after)) (sym walk) ∙ is in
    let own : number_of all n ≡ k = num_at all before (row ∷ (rows ++ after)) place in
    let got : slice_get all n ≡ Some row = ap (λ l. slice_get l n) (sym place) ∙ get_at before (rows ++ after) row in
    let parent_is : option_map (number_of all) i.parent ≡ Some k = ap (option_map (number_of all)) above ∙ ap Some own in
    let told : told_in all (suc n) rows ≡ told_from (suc k) (Some k) inner.ts =
    ap (λ m. told_in all m rows) next ∙ ap (λ m. told_in all m (rows_from i 0 m ps)) (sym long) ∙ inner.tells.told ∙ ap (λ m. told_from m (option_map (number_of all) i.parent) inner.ts) more
    ∙ ap (λ p. told_from (suc k) p inner.ts) parent_is in
    let inside_numbers : numbers_in all row.parts ≡ roots (suc k) inner.ts =
    ap (numbers_in all) parts ∙ ap (λ m. numbers_in all (parts_from (keeps i) i 0 m ps)) (sym long) ∙ inner.tells.roots_are ∙ ap (λ m. roots m inner.ts) more in
    let sized : cnt rows ≡ size inner.ts = ap (λ m. cnt (rows_from i 0 m ps)) (sym long) ∙ inner.tells.sized in
    let parent = option_map (number_of all) s.parent in
    let first : told_of all n row ≡ (k, (parent, roots (suc k) inner.ts)) =
    ap (λ m. (m, (option_map (number_of all) row.standing.parent, numbers_in all row.parts))) own ∙ ap (λ x. (k, (option_map (number_of all) x.parent, numbers_in all row.parts))) stands ∙ ap (λ l. (k, (parent, l))) inside_numbers in
    record {
      ts = tree inner.ts none;
      tells = record {
        told =
            ap (told_in all n) walk ∙ ap (λ l. l ++ told_in all (suc n) rows) (cond-true (is_of class.Numbered row) (told_of all n row ∷ []) [] kind)
            ∙ ap (λ x. x ∷ told_in all (suc n) rows) first ∙ ap (λ l. (k, (parent, roots (suc k) inner.ts)) ∷ l) (told ∙ sym (append-nil (told_from (suc k) (Some k) inner.ts)));
        roots_are =
            ap (λ c. flat_map child_in (cond c (part.Element (number_of all n) ∷ []) [] ++ [])) (ap has_number got ∙ holds) ∙ ap (λ m. m ∷ []) own;
        sized =
            let whole : cnt (row ∷ rows) ≡ one_where (is_of class.Numbered row) + cnt rows = cnt_cons row rows in
            let single : one_where (is_of class.Numbered row) ≡ 1 = ap one_where kind in
            let walked : cnt (walk_of b e s at n) ≡ cnt (row ∷ rows) = ap cnt walk in
            omega (arith, whole, single, walked, sized);
      };
      hidden = λ h.
          let seen : (is_outside row.standing.zone && not (is_passed_over row.tag)) ≡ true = holds in
          let out : is_outside row.standing.zone ≡ true = (and_parts (is_outside row.standing.zone) (not (is_passed_over row.tag)) seen).0 in
          absurd (true≢false (sym out ∙ ap (λ x. is_outside x.zone) stands ∙ h));
      single = inr (inner.ts, refl);
    }

-- one that has none: nothing in it has
hidden_tells : (b : Bindings) (all : List Seen) (e : LitElement) (s i : Standing) (at : ℕ) (before after : List Seen) (ps : List Piece) (row : Seen) → walk_of b e s at (length before) ≡ row ∷ rows_from i 0 (length before + 1) ps
    → i.zone ≡ zone_below row.standing.zone row.tag → before ++ (walk_of b e s at (length before) ++ after) ≡ all
    → is_numbered row ≡ false → PiecesTell b all ps i (keeps i) 0 (before ++ row ∷ []) → ElementTells b all e s at before
hidden_tells b all e s i at before after ps row walk zoned is holds inner =
    let n = length before in
    let rows = rows_from i 0 (n + 1) ps in
    let kind : is_of class.Numbered row ≡ false = and_true (is_numbered row) ∙ holds in
    let long : length (before ++ row ∷ []) ≡ n + 1 = length-append before (row ∷ []) in
    let next : suc n ≡ n + 1 = omega arith in
    let place : before ++ (row ∷ (rows ++ after)) ≡ all = ap (λ l. before ++ (l ++ after)) (sym walk) ∙ is in
    let got : slice_get all n ≡ Some row = ap (λ l. slice_get l n) (sym place) ∙ get_at before (rows ++ after) row in
    let nothing : inner.ts ≡ none = inner.hidden (ap is_outside zoned ∙ below_hidden row.standing.zone row.tag holds) in
    let told : told_in all (suc n) rows ≡ [] =
    ap (λ m. told_in all m rows) next ∙ ap (λ m. told_in all m (rows_from i 0 m ps)) (sym long) ∙ inner.tells.told ∙ ap (told_from (cnt (before ++ row ∷ [])) (option_map (number_of all) i.parent)) nothing in
    let sized : cnt rows ≡ 0 = ap (λ m. cnt (rows_from i 0 m ps)) (sym long) ∙ inner.tells.sized ∙ ap size nothing in
    record {
      ts = none;
      tells = record {
        told = ap (told_in all n) walk ∙ ap (λ l. l ++ told_in all (suc n) rows) (cond-false (is_of class.Numbered row) (told_of all n row ∷ []) [] kind) ∙ told;
        roots_are = ap (λ c. flat_map child_in (cond c (part.Element (number_of all n) ∷ []) [] ++ [])) (ap has_number got ∙ holds);
        sized =
            let whole : cnt (row ∷ rows) ≡ one_where (is_of class.Numbered row) + cnt rows = cnt_cons row rows in
            let single : one_where (is_of class.Numbered row) ≡ 0 = ap one_where kind in
            let walked : cnt (walk_of b e s at n) ≡ cnt (row ∷ rows) = ap cnt walk in
            omega (arith, whole, single, walked, sized);
      };
      hidden = λ h. refl;
      single = inl refl;
    }

element_fits : (b : Bindings) (e : LitElement) (ys : List (Child b)) → map (piece_of b) e.children ≡ pieces b ys → ElementFits b e
element_fits b e ys same all s at before after is =
    let n = length before in
    let i = inside b e s n in
    let ps = pieces b ys in
    let row : Seen = head b e s at (parts_from (keeps i) i 0 (n + 1) ps) in
    let walk : walk_of b e s at n ≡ row ∷ rows_from i 0 (n + 1) ps =
    walk_of-is b e s at n ∙ ap (λ qs. head b e s at (parts_from (keeps i) i 0 (n + 1) qs) ∷ rows_from i 0 (n + 1) qs) same in
    let long : length (before ++ row ∷ []) ≡ n + 1 = length-append before (row ∷ []) in
    let there : (before ++ row ∷ []) ++ (rows_from i 0 (length (before ++ row ∷ [])) ps ++ after) ≡ all =
    ap (λ m. (before ++ row ∷ []) ++ (rows_from i 0 m ps ++ after)) long ∙ append_assoc before (row ∷ []) (rows_from i 0 (n + 1) ps ++ after)
    ∙ ap (λ l. before ++ (l ++ after)) (sym walk) ∙ is in
    let inner = pieces_tell b all i (keeps i) 0 (before ++ row ∷ []) after ys there in
    elim (cases_Bool (is_numbered row)) [
      | inl t ↦ numbered_tells b all e s i at before after ps row walk refl refl refl is t inner
      | inr f ↦ hidden_tells b all e s i at before after ps row walk refl is f inner
    ]

-- ---- the whole form

abbrev Level : Bindings → Type 0
Level b = LitElement-F (Child b) ((e : LitElement) × ElementFits b e)

level_fits : (b : Bindings) (y : Level b) → ElementFits b (roll-LitElement (record { name = y.name; attributes = y.attributes; children = map (λ c. c.0) y.children }))
level_fits b y = element_fits b (roll-LitElement (record { name = y.name; attributes = y.attributes; children = map (λ c. c.0) y.children })) y.children refl

lit_fits : (b : Bindings) (y : Lit-F (Child b) ((e : LitElement) × ElementFits b e)) → Fits b (roll-Lit (map-Lit (Child b) ((e : LitElement) × ElementFits b e) Lit LitElement (λ c. c.0) (λ c. c.0) y))
lit_fits b (Lit-F.Text t) = inl (t, rolls-Text t)
lit_fits b (Lit-F.Element e) = inr (e.0, rolls-Element e.0, e.1)

fits : (b : Bindings) (x : Lit) → Fits b x
fits b = ind-Lit (Fits b) (ElementFits b) (λ x y is. subst (λ z. Fits b (roll-Lit z)) is (lit_fits b y)) (λ x y is. subst (λ z. ElementFits b (roll-LitElement z)) is (level_fits b y))

pub record FormTells (all : List Seen) : Type 0 where
  pub ts : Trees
  pub told : told_in all 0 all ≡ told_from 0 None ts
  pub sized : cnt all ≡ size ts
  pub single : (ts ≡ none) ⊎ ((kids : Trees) × (ts ≡ tree kids none))

of_element : (b : Bindings) (e : LitElement) (all : List Seen) → all ≡ walk_of b e at_root 0 0 → ElementFits b e → FormTells all
of_element b e all is fit =
    let whole : [] ++ (walk_of b e at_root 0 0 ++ []) ≡ all = append-nil (walk_of b e at_root 0 0) ∙ sym is in
    let tells = fit all at_root 0 [] [] whole in
    record { ts = tells.ts; told = ap (told_in all 0) is ∙ tells.tells.told; sized = ap cnt is ∙ tells.tells.sized; single = tells.single }

of_lit : (b : Bindings) (lit : Lit) (all : List Seen) → all ≡ rows_of b lit → Fits b lit → FormTells all
of_lit b lit all is (inl h) =
    let nothing : all ≡ [] = is ∙ ap (λ p. rows_in p at_root 0 0) (ap (piece_of b) h.1 ∙ piece_of-Text b h.0) in
    record { ts = none; told = ap (told_in all 0) nothing; sized = ap cnt nothing; single = inl refl }
of_lit b lit all is (inr h) = of_element b h.0 all (is ∙ ap (λ p. rows_in p at_root 0 0) (ap (piece_of b) h.1 ∙ piece_of-Element b h.0)) h.2

-- the elements of a form are trees
pub form_tells : (b : Bindings) (lit : Lit) → FormTells (rows_of b lit)
form_tells b lit = of_lit b lit (rows_of b lit) refl (fits b lit)

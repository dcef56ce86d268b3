-- The rows below an element without element children, with other texts among them.
use Rattle.std.proofs.Common.{◌≡◌, ℕ, suc, ◌+◌, ◌-◌, ◌<◌, ◌≤◌, ◌^◌, Bool, List, [], ◌∷◌, ◌++◌, map, length, take, drop, reverse, refl, sym, ap, ◌∙◌, subst, inl, inr, arith, append_assoc, append-nil, length-take, length-append}
use Rattle.std.specs.Prelude.{filter}
use Rattle.std.specs.List.{All}
use Rattle.std.proofs.lemmas.Bool.{cases_lt, cases_Bool}
use Rattle.std.proofs.lemmas.List.{take-append-drop, reverse-append, reverse-reverse, length-map, take_at, drop_at, drop-drop, get_or-take}
use Rattle.slab.specs.Slab.{Slab}
use Rattle.xf_def_forest.specs.declared.node.NodeId.{NodeId}
use Rattle.xf_tree_rows.specs.declared.rows.Row.{Row}
use Rattle.xf_tree_rows.specs.Rows.{deeper, Sized, tree_of, grown, shrunk}
use Rattle.xf_tree_rows.proofs.SizedLemmas.{lt-true, lt-false, grown-sized, shrunk-sized}
use Rattle.xf_tree_rows.proofs.CutLemmas.{size-at, tree-within, sized-take, sized-drop, stops-after}
use Rattle.xf_tree_contents.specs.Slot.{Slot}
use Rattle.xf_tree_walks.proofs.PlaceLemmas.{tree-size}
use Rattle.xf_tree_changes.specs.Trees.{unsized}
use Rattle.xf_tree_changes.specs.Texts.{attributes, children, is_attribute_row, text_row, AreAt, depth_at, run_of, after_run, with_text_rows, settled}
use Rattle.xf_tree_changes.proofs.MapLemmas.{IgnoresSize, map-shrunk, map-grown}

-- ---- sizes that do not change

pub shrunk-none : (d : ℕ) (ys tail : List Row) → shrunk 0 d ys tail ≡ reverse ys ++ tail
shrunk-none d [] tail = refl
shrunk-none d (y ∷ ys) tail =
    let turn : reverse (y ∷ ys) ++ tail ≡ reverse ys ++ (y ∷ tail) = ap (λ l. l ++ tail) (reverse-append (y ∷ []) ys) ∙ append_assoc (reverse ys) (y ∷ []) tail in
    let same : y.size - 0 ≡ y.size = omega arith in
    elim (cases_lt y.depth d) [
      | inl h ↦ rw (lt-true y.depth d h) (shrunk-none y.depth ys (record { key = y.key; size = y.size - 0; depth = y.depth } ∷ tail)
          ∙ ap (λ n. reverse ys ++ (record { key = y.key; size = n; depth = y.depth } ∷ tail)) same ∙ sym turn)
      | inr h ↦ rw (lt-false y.depth d h) (shrunk-none d ys (y ∷ tail) ∙ sym turn)
    ]

pub settled-more : (had now d : ℕ) (ys tail : List Row) → had < now → settled had now d ys tail ≡ grown (now - had) d ys tail
settled-more had now d ys tail h = rw (lt-true had now h) refl

pub settled-less : (had now d : ℕ) (ys tail : List Row) → now ≤ had → settled had now d ys tail ≡ shrunk (had - now) d ys tail
settled-less had now d ys tail h = rw (lt-false had now h) refl

pub settled-same : (had now d at : ℕ) (rows : List Row) → had ≡ now → rows ≡ settled had now d (reverse (take at rows)) (drop at rows)
settled-same had now d at rows e =
    let least : now ≤ had = omega arith in
    let none : had - now ≡ 0 = omega arith in
    sym (settled-less had now d (reverse (take at rows)) (drop at rows) least
    ∙ ap (λ n. shrunk n d (reverse (take at rows)) (drop at rows)) none
    ∙ shrunk-none d (reverse (take at rows)) (drop at rows)
    ∙ ap (λ l. l ++ drop at rows) (reverse-reverse (take at rows))
    ∙ take-append-drop at rows)

pub map-settled : {X : Type 0} (g : Row → X) → IgnoresSize g → (had now d : ℕ) (us tail : List Row) → map g (settled had now d (reverse us) tail) ≡ map g (us ++ tail)
map-settled g same had now d us tail =
    let turned = ap (λ l. map g (l ++ tail)) (reverse-reverse us) in
    elim (cases_lt had now) [
      | inl h ↦ ap (map g) (settled-more had now d (reverse us) tail h) ∙ map-grown g same (now - had) d (reverse us) tail ∙ turned
      | inr h ↦ ap (map g) (settled-less had now d (reverse us) tail h) ∙ map-shrunk g same (had - now) d (reverse us) tail ∙ turned
    ]

-- ---- what stands behind is left as it is

grown-apart : (by d : ℕ) (ys xs zs : List Row) → grown by d ys (xs ++ zs) ≡ grown by d ys xs ++ zs
grown-apart by d [] xs zs = refl
grown-apart by d (y ∷ ys) xs zs =
    elim (cases_lt y.depth d) [
      | inl h ↦ rw (lt-true y.depth d h) (grown-apart by y.depth ys (record { key = y.key; size = y.size + by; depth = y.depth } ∷ xs) zs)
      | inr h ↦ rw (lt-false y.depth d h) (grown-apart by d ys (y ∷ xs) zs)
    ]

shrunk-apart : (by d : ℕ) (ys xs zs : List Row) → shrunk by d ys (xs ++ zs) ≡ shrunk by d ys xs ++ zs
shrunk-apart by d [] xs zs = refl
shrunk-apart by d (y ∷ ys) xs zs =
    elim (cases_lt y.depth d) [
      | inl h ↦ rw (lt-true y.depth d h) (shrunk-apart by y.depth ys (record { key = y.key; size = y.size - by; depth = y.depth } ∷ xs) zs)
      | inr h ↦ rw (lt-false y.depth d h) (shrunk-apart by d ys (y ∷ xs) zs)
    ]

settled-apart : (had now d : ℕ) (ys tail : List Row) → settled had now d ys tail ≡ settled had now d ys [] ++ tail
settled-apart had now d ys tail =
    elim (cases_lt had now) [
      | inl h ↦ settled-more had now d ys tail h ∙ grown-apart (now - had) d ys [] tail ∙ ap (λ l. l ++ tail) (sym (settled-more had now d ys [] h))
      | inr h ↦ settled-less had now d ys tail h ∙ shrunk-apart (had - now) d ys [] tail ∙ ap (λ l. l ++ tail) (sym (settled-less had now d ys [] h))
    ]

settled-long : (had now d : ℕ) (us tail : List Row) → length (settled had now d (reverse us) tail) ≡ length (us ++ tail)
settled-long had now d us tail =
    sym (length-map (settled had now d (reverse us) tail) unsized)
    ∙ ap length (map-settled unsized (λ r size. refl) had now d us tail)
    ∙ length-map (us ++ tail) unsized

pub settled-length : (had now d at : ℕ) (rows : List Row) → length (settled had now d (reverse (take at rows)) (drop at rows)) ≡ length rows
settled-length had now d at rows = settled-long had now d (take at rows) (drop at rows) ∙ ap length (take-append-drop at rows)

-- ---- rows of one depth with nothing below them

abbrev pub AreFlat : ℕ → List Row → Type 0
AreFlat d [] = Unit {0}
AreFlat d (x ∷ xs) = (x.depth ≡ suc d) × (x.size ≡ 1) × AreFlat d xs

flat-append : (d : ℕ) (xs ys : List Row) → AreFlat d xs → AreFlat d ys → AreFlat d (xs ++ ys)
flat-append d [] ys a b = b
flat-append d (x ∷ xs) ys a b = (a.0, a.1, flat-append d xs ys a.2 b)

flat-filter : (d : ℕ) (p : Row → Bool) (xs : List Row) → AreFlat d xs → AreFlat d (filter p xs)
flat-filter d p [] a = tt
flat-filter d p (x ∷ xs) a = let i = flat-filter d p xs a.2 in elim (cases_Bool (p x)) [ inl e ↦ rw e (a.0, a.1, i) | inr e ↦ rw e i ]

flat-texts : (d : ℕ) (texts : List NodeId) → AreFlat d (map (text_row (suc d)) texts)
flat-texts d [] = tt
flat-texts d (t ∷ ts) = (refl, refl, flat-texts d ts)

-- one of these rows has none of the others below it
flat-shut : (d e : ℕ) (xs ds : List Row) → suc d ≤ e → AreFlat d xs → deeper d ds ≡ 0 → deeper e (xs ++ ds) ≡ 0
flat-shut d e [] ds h a stops = low ds stops
  where
    low : (ys : List Row) → deeper d ys ≡ 0 → deeper e ys ≡ 0
    low [] z = refl
    low (y ∷ ys) z = elim (cases_lt d y.depth) [
      | inl l ↦ absurd (let w : suc (deeper d ys) ≡ 0 = rw (lt-true d y.depth l) at z in omega arith)
      | inr l ↦ let m : y.depth ≤ e = omega arith in rw (lt-false e y.depth m) refl
    ]
flat-shut d e (x ∷ xs) ds h a stops = let m : x.depth ≤ e = omega (arith, a.0) in rw (lt-false e x.depth m) refl

flat-open : (d e : ℕ) (xs ds : List Row) → e < suc d → AreFlat d xs → deeper e (xs ++ ds) ≡ deeper e ds + length xs
flat-open d e [] ds h a = omega arith
flat-open d e (x ∷ xs) ds h a = let m : e < x.depth = omega (arith, a.0) in rw (lt-true e x.depth m) (omega (arith, flat-open d e xs ds h a.2))

flat-sized : (d : ℕ) (xs ds : List Row) → AreFlat d xs → deeper d ds ≡ 0 → Sized ds → Sized (xs ++ ds)
flat-sized d [] ds a stops sized = sized
flat-sized d (x ∷ xs) ds a stops sized =
    let none = flat-shut d x.depth xs ds (omega (arith, a.0)) a.2 stops in
    (omega (arith, a.1, none), flat-sized d xs ds a.2 stops sized)

-- rows of one depth that nothing deeper follows
at-flat : (d : ℕ) (xs ds : List Row) → AreAt (d + 1) xs → deeper d ds ≡ 0 → Sized (xs ++ ds) → AreFlat d xs
at-flat d [] ds a stops sized = tt
at-flat d (x ∷ xs) ds a stops sized =
    let i = at-flat d xs ds a.1 stops sized.1 in
    let none = flat-shut d x.depth xs ds (omega (arith, a.0)) i stops in
    (omega (arith, a.0), omega (arith, sized.0, none), i)

drop-run : (d : ℕ) (xs : List Row) → Sized xs → Sized (drop (deeper d xs) xs)
drop-run d xs s = sized-drop (deeper d xs) xs s

both-counted : (s : Slab Slot) (xs : List Row) → length (attributes s xs) + length (children s xs) ≡ length xs
both-counted s [] = refl
both-counted s (x ∷ xs) = let i = both-counted s xs in elim (cases_Bool (is_attribute_row s x)) [ inl e ↦ rw e (omega (arith, i)) | inr e ↦ rw e (omega (arith, i)) ]

module _ (s : Slab Slot) (at : ℕ) (texts : List NodeId) (rows : List Row) (within : at < length rows) (sized : Sized rows) (flat : AreAt (depth_at at rows + 1) (run_of at rows)) where
  abbrev d : ℕ
  d = depth_at at rows

  abbrev run : List Row
  run = run_of at rows

  abbrev ds : List Row
  ds = after_run at rows

  abbrev news : List Row
  news = map (text_row (depth_at at rows + 1)) texts

  whole : run ++ ds ≡ drop (at + 1) rows
  whole = take-append-drop (deeper d (drop (at + 1) rows)) (drop (at + 1) rows)

  stops : deeper d ds ≡ 0
  stops = stops-after d (drop (at + 1) rows)

  sized-rest : Sized (drop (at + 1) rows)
  sized-rest = sized-drop (at + 1) rows sized

  flat-run : AreFlat d run
  flat-run = at-flat d run ds flat stops (subst Sized (sym whole) sized-rest)

  flat-news : AreFlat d news
  flat-news = let e : suc d ≡ d + 1 = omega arith in subst (λ n. AreFlat d (map (text_row n) texts)) e (flat-texts d texts)

  flat-now : AreFlat d (attributes s run ++ news)
  flat-now = flat-append d (attributes s run) news (flat-filter d (is_attribute_row s) run flat-run) flat-news

  assoc : (attributes s run ++ news) ++ ds ≡ attributes s run ++ (news ++ ds)
  assoc = append_assoc (attributes s run) news ds

  sized-now : Sized (attributes s run ++ (news ++ ds))
  sized-now = subst Sized assoc (flat-sized d (attributes s run ++ news) ds flat-now stops (drop-run d (drop (at + 1) rows) sized-rest))

  now-open : (e : ℕ) → e < suc d → deeper e (attributes s run ++ (news ++ ds)) ≡ deeper e ds + (length (attributes s run) + length texts)
  now-open e h =
      let a = ap (deeper e) (sym assoc) ∙ flat-open d e (attributes s run ++ news) ds h flat-now in
      omega (arith, a, length-append (attributes s run) news, length-map texts (text_row (depth_at at rows + 1)))

  was-open : (e : ℕ) → e < suc d → deeper e (drop (at + 1) rows) ≡ deeper e ds + length run
  was-open e h = ap (deeper e) (sym whole) ∙ flat-open d e run ds h flat-run

  now-shut : (e : ℕ) → suc d ≤ e → deeper e (attributes s run ++ (news ++ ds)) ≡ 0
  now-shut e h = ap (deeper e) (sym assoc) ∙ flat-shut d e (attributes s run ++ news) ds h flat-now stops

  was-shut : (e : ℕ) → suc d ≤ e → deeper e (drop (at + 1) rows) ≡ 0
  was-shut e h = ap (deeper e) (sym whole) ∙ flat-shut d e run ds h flat-run stops

  pub texts-sized : (had : ℕ) → length (attributes s run) + had ≡ length run
      → Sized (settled had (length texts) (d + 1) (reverse (take (at + 1) rows)) (attributes s run ++ (news ++ ds)))
  texts-sized had sum =
      let ys = reverse (take (at + 1) rows) in
      let first = drop (at + 1) rows in
      let second = attributes s run ++ (news ++ ds) in
      let before = sized-take (at + 1) rows sized in
      let n = length texts in
      elim (cases_lt had n) [
        | inl h ↦
            subst Sized (sym (settled-more had n (d + 1) ys second h))
            (grown-sized (n - had) (d + 1) ys first second (record {
              is_open = λ e l. omega (arith, now-open e (omega arith), was-open e (omega arith));
              shut = λ e l. now-shut e (omega arith) ∙ sym (was-shut e (omega arith));
            }) before sized-now)
        | inr h ↦
            subst Sized (sym (settled-less had n (d + 1) ys second h))
            (shrunk-sized (had - n) (d + 1) ys first second (record {
              is_open = λ e l. omega (arith, now-open e (omega arith), was-open e (omega arith));
              shut = λ e l. was-shut e (omega arith) ∙ sym (now-shut e (omega arith));
            }) before sized-now)
      ]

  -- ---- the steps of the change, with where the attributes end, where the run did, and how many of it are no attributes

  module _ (from end had : ℕ) (now packed full : List Row) (is_end : end ≡ at + length (tree_of (drop at rows)))
      (is_had : had ≡ length (children s (take (end - (at + 1)) (drop (at + 1) rows))))
      (is_now : now ≡ settled had (length texts) (d + 1) (reverse (take (at + 1) rows)) (drop (at + 1) rows))
      (front : take from packed ≡ take (at + 1) now ++ attributes s (take (end - (at + 1)) (drop (at + 1) now))) (rest : drop end packed ≡ drop end now)
      (is_full : full ≡ take from packed ++ (news ++ drop end packed)) where
    abbrev count : ℕ
    count = deeper d (drop (at + 1) rows)

    abbrev us : List Row
    us = take (at + 1) rows

    -- the rows before the run, with their sizes settled
    abbrev top : List Row
    top = settled had (length texts) (d + 1) (reverse us) []

    long : end ≡ at + 1 + count
    long = omega (arith, is_end, tree-size at rows within)

    run-is : take (end - (at + 1)) (drop (at + 1) rows) ≡ run
    run-is = let e : end - (at + 1) ≡ count = omega (arith, long) in ap (λ n. take n (drop (at + 1) rows)) e

    top-long : length top ≡ at + 1
    top-long = settled-long had (length texts) (d + 1) us [] ∙ ap length (append-nil us) ∙ omega (arith, length-take (at + 1) rows)

    now-is : now ≡ top ++ drop (at + 1) rows
    now-is = is_now ∙ settled-apart had (length texts) (d + 1) (reverse us) (drop (at + 1) rows)

    now-front : take (at + 1) now ≡ top
    now-front = ap (take (at + 1)) now-is ∙ take_at top (drop (at + 1) rows) (at + 1) top-long

    now-rest : drop (at + 1) now ≡ drop (at + 1) rows
    now-rest = ap (drop (at + 1)) now-is ∙ drop_at top (drop (at + 1) rows) (at + 1) top-long

    now-end : drop end now ≡ ds
    now-end = ap (λ n. drop n now) long ∙ sym (drop-drop count (at + 1) now) ∙ ap (drop count) now-rest

    front-is : take from packed ≡ top ++ attributes s run
    front-is =
        front ∙ ap (λ l. l ++ attributes s (take (end - (at + 1)) (drop (at + 1) now))) now-front
        ∙ ap (λ l. top ++ attributes s (take (end - (at + 1)) l)) now-rest ∙ ap (λ l. top ++ attributes s l) run-is

    full-is : full ≡ settled had (length texts) (d + 1) (reverse us) (attributes s run ++ (news ++ ds))
    full-is =
        is_full ∙ ap (λ l. l ++ (news ++ drop end packed)) front-is ∙ ap (λ l. (top ++ attributes s run) ++ (news ++ l)) (rest ∙ now-end)
        ∙ append_assoc top (attributes s run) (news ++ ds)
        ∙ sym (settled-apart had (length texts) (d + 1) (reverse us) (attributes s run ++ (news ++ ds)))

    had-is : length (attributes s run) + had ≡ length run
    had-is = omega (arith, is_had, ap (λ l. length (children s l)) run-is, both-counted s run)

    pub change-sized : Sized full
    change-sized = subst Sized (sym full-is) (texts-sized had had-is)

    pub change-rows : map unsized full ≡ map unsized (with_text_rows s at texts rows)
    change-rows = ap (map unsized) full-is ∙ map-settled unsized (λ r size. refl) had (length texts) (d + 1) us (attributes s run ++ (news ++ ds))

pub room-more : (to n : ℕ) (rows : List Row) → Sized rows → length rows + n < 2 ^ 32 → All (λ (r : Row). r.size + n < 2 ^ 64) (take to rows)
room-more to n rows sized few = λ k d h.
    let in_to : k < to = omega (arith, length-take to rows) in
    let in_rows : k < length rows = omega (arith, length-take to rows) in
    let e = get_or-take to rows k d in_to in
    let b = size-at k rows d in_rows sized in
    let w = tree-within k rows in_rows in
    rw e (omega arith)

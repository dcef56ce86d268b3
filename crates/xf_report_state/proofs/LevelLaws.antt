-- Levels: as many as are kept, one more, and the numbers of their rows.
use Rattle.std.proofs.Common.{◌≡◌, ℕ, zero, suc, ◌+◌, ◌<◌, Bool, true, false, List, [], ◌∷◌, ◌++◌, map, length, take, get_or, Option, Some, None, refl, sym, ap, ◌∙◌, subst, append_assoc, append-nil, arith, length-append}
use Rattle.std.specs.Prelude.{◌==◌, ◌&&◌, min, slice_get, unwrap_or}
use Rattle.std.proofs.Math.Seq.{take-length}
use Rattle.std.proofs.lemmas.Bool.{eqb-true}
use Rattle.std.proofs.lemmas.List.{length-map, length-take-le, map-append, take_more}
use Rattle.std.proofs.lemmas.Option.{get_or_from_slice_get, slice_get_within}
use Rattle.xf_def_ui.specs.Around.{Around}
use Rattle.xf_def_ui.specs.Interface.{Interface}
use Rattle.xf_def_ui.specs.Rows.{rows_of}
use Rattle.xf_def_machine.specs.ControlText.{number_in}
use Rattle.xf_report_state.specs.declared.levels.Level.{Level}
use Rattle.xf_report_state.specs.Levels.{AreLevels, Starts, is_at, numbers_under, row_of}

-- ---- what they tell

module _ (f : Interface) (a : Around) where
  abbrev shown : List ℕ → ℕ → List ℕ
  shown chain r = unwrap_or (rows_of f a chain r) []

  pub levels-kept : (chain : List ℕ) (ls : List Level) (k : ℕ) → AreLevels f a chain ls → AreLevels f a chain (take k ls)
  levels-kept chain [] zero h = tt
  levels-kept chain [] (suc k) h = tt
  levels-kept chain (l ∷ ls) zero h = tt
  levels-kept chain (l ∷ ls) (suc k) h = (h.0, h.1, levels-kept (chain ++ row_of l ∷ []) ls k h.2)

  pub levels-more : (chain : List ℕ) (ls : List Level) (l : Level) → AreLevels f a chain ls → l.rows ≡ shown (chain ++ map row_of ls) l.repeat → l.number ≡ number_in l.rows (row_of l)
      → AreLevels f a chain (ls ++ l ∷ [])
  levels-more chain [] l h rows number = (rows ∙ ap (λ c. shown c l.repeat) (append-nil chain), number, tt)
  levels-more chain (m ∷ ls) l h rows number =
      (h.0, h.1, levels-more (chain ++ row_of m ∷ []) ls l h.2 (rows ∙ ap (λ c. shown c l.repeat) (sym (append_assoc chain (row_of m ∷ []) (map row_of ls)))) number)

  -- the rows of a level are those of its repeat under the rows before it
  pub level-there : (chain : List ℕ) (ls : List Level) (k : ℕ) (l : Level) → AreLevels f a chain ls → slice_get ls k ≡ Some l → l.rows ≡ shown (chain ++ map row_of (take k ls)) l.repeat
  level-there chain [] k l h e = cc e
  level-there chain (m ∷ ls) zero l h e =
      let same : m ≡ l = cc e in
      subst (λ (x : Level). x.rows ≡ shown (chain ++ []) x.repeat) same (h.0 ∙ ap (λ c. shown c m.repeat) (sym (append-nil chain)))
  level-there chain (m ∷ ls) (suc k) l h e =
      level-there (chain ++ row_of m ∷ []) ls k l h.2 e ∙ ap (λ c. shown c l.repeat) (append_assoc chain (row_of m ∷ []) (map row_of (take k ls)))

  -- ---- the numbers of their rows

  numbers-are : (chain : List ℕ) (ls : List Level) → AreLevels f a chain ls → map (λ l. l.number) ls ≡ numbers_under f a chain (map (λ l. l.repeat) ls) (map row_of ls)
  numbers-are chain [] h = refl
  numbers-are chain (l ∷ ls) h =
      ap (λ k. k ∷ map (λ m. m.number) ls) (h.1 ∙ ap (λ rows. number_in rows (row_of l)) h.0)
      ∙ ap (λ ks. number_in (shown chain l.repeat) (row_of l) ∷ ks) (numbers-are (chain ++ row_of l ∷ []) ls h.2)

  -- where there are fewer rows than repeats, or more, the shorter list tells
  numbers-taken : (chain rs ns : List ℕ) (k : ℕ) → k ≡ min (length rs) (length ns) → numbers_under f a chain (take k rs) (take k ns) ≡ numbers_under f a chain rs ns
  numbers-taken chain [] ns zero h = refl
  numbers-taken chain [] ns (suc k) h = refl
  numbers-taken chain (r ∷ rs) [] zero h = refl
  numbers-taken chain (r ∷ rs) [] (suc k) h = refl
  numbers-taken chain (r ∷ rs) (n ∷ ns) zero h = absurd (omega (arith, h))
  numbers-taken chain (r ∷ rs) (n ∷ ns) (suc k) h = ap (λ l. number_in (shown chain r) n ∷ l) (numbers-taken (chain ++ n ∷ []) rs ns k (omega (arith, h)))

  pub numbers-told : (ls : List Level) (k : ℕ) (rs ns : List ℕ) → AreLevels f a [] ls → Starts ls k rs ns → k ≡ min (length rs) (length ns)
      → map (λ l. l.number) (take k ls) ≡ numbers_under f a [] rs ns
  numbers-told ls k rs ns h s e =
      numbers-are [] (take k ls) (levels-kept [] ls k h)
      ∙ ap (λ x. numbers_under f a [] x (map row_of (take k ls))) s.repeats
      ∙ ap (λ x. numbers_under f a [] (take k rs) x) s.rows
      ∙ numbers-taken [] rs ns k e

  -- without rows there are no numbers
  pub no-numbers : (chain rs ns : List ℕ) → ns ≡ [] → numbers_under f a chain rs ns ≡ []
  no-numbers chain [] ns h = refl
  no-numbers chain (r ∷ rs) ns h = ap (λ x. numbers_under f a chain (r ∷ rs) x) h

-- ---- the first of them

starts-more : (ls : List Level) (k : ℕ) (rs ns : List ℕ) (l : Level) → Starts ls k rs ns → k < length rs → k < length ns → slice_get ls k ≡ Some l → l.repeat ≡ get_or rs k 0 → row_of l ≡ get_or ns k 0
    → Starts ls (k + 1) rs ns
starts-more ls k rs ns l s i j e repeat row =
    let next : take (k + 1) ls ≡ take k ls ++ l ∷ [] = take_more ls k l (slice_get_within ls k l e) ∙ ap (λ x. take k ls ++ x ∷ []) (get_or_from_slice_get ls k l l e) in
    record {
      repeats = ap (map (λ (x : Level). x.repeat)) next ∙ map-append (λ (x : Level). x.repeat) (take k ls) (l ∷ []) ∙ ap (λ x. x ++ l.repeat ∷ []) s.repeats
          ∙ ap (λ r. take k rs ++ r ∷ []) repeat ∙ sym (take_more rs k 0 i);
      rows = ap (map row_of) next ∙ map-append row_of (take k ls) (l ∷ []) ∙ ap (λ x. x ++ row_of l ∷ []) s.rows
          ∙ ap (λ n. take k ns ++ n ∷ []) row ∙ sym (take_more ns k 0 j);
    }

both : (x y : Bool) → (x && y) ≡ true → (x ≡ true) × (y ≡ true)
both true y h = (refl, h)
both false y h = cc h

-- the next one is there already
pub starts-there : (ls : List Level) (k : ℕ) (rs ns : List ℕ) → Starts ls k rs ns → k < length rs → k < length ns → is_at (get_or rs k 0) (get_or ns k 0) (slice_get ls k) ≡ true
    → Starts ls (k + 1) rs ns
starts-there ls k rs ns s i j h = by (slice_get ls k) refl h
  where
    by : (o : Option Level) → slice_get ls k ≡ o → is_at (get_or rs k 0) (get_or ns k 0) o ≡ true → Starts ls (k + 1) rs ns
    by None e g = cc g
    by (Some l) e g =
        let p = both (l.repeat == get_or rs k 0) (row_of l == get_or ns k 0) g in
        starts-more ls k rs ns l s i j e (eqb-true l.repeat (get_or rs k 0) p.0) (eqb-true (row_of l) (get_or ns k 0) p.1)

-- the next one comes behind them
pub starts-pushed : (ls : List Level) (k : ℕ) (rs ns : List ℕ) (l : Level) → Starts ls k rs ns → k < length rs → k < length ns → l.repeat ≡ get_or rs k 0 → row_of l ≡ get_or ns k 0
    → Starts (take k ls ++ l ∷ []) (k + 1) rs ns
starts-pushed ls k rs ns l s i j repeat row =
    let all = take k ls ++ l ∷ [] in
    let front : length (take k ls) ≡ k =
    sym (length-map (take k ls) (λ (x : Level). x.repeat)) ∙ ap (λ x. length x) s.repeats ∙ length-take-le k rs (omega (arith, i)) in
    let size : length all ≡ k + 1 = omega (arith, length-append (take k ls) (l ∷ []), front) in
    let whole : take (k + 1) all ≡ all = ap (λ n. take n all) (sym size) ∙ take-length all in
    record {
      repeats = ap (map (λ (x : Level). x.repeat)) whole ∙ map-append (λ (x : Level). x.repeat) (take k ls) (l ∷ []) ∙ ap (λ x. x ++ l.repeat ∷ []) s.repeats
          ∙ ap (λ r. take k rs ++ r ∷ []) repeat ∙ sym (take_more rs k 0 i);
      rows = ap (map row_of) whole ∙ map-append row_of (take k ls) (l ∷ []) ∙ ap (λ x. x ++ row_of l ∷ []) s.rows
          ∙ ap (λ n. take k ns ++ n ∷ []) row ∙ sym (take_more ns k 0 j);
    }

-- the next one is found, and comes behind them
pub entered : (f : Interface) (a : Around) (ls mid new : List Level) (k : ℕ) (rs ns : List ℕ) (x : Level) → AreLevels f a [] ls → Starts ls k rs ns → k < length rs → k < length ns → mid ≡ take k ls → new ≡ mid ++ x ∷ []
    → x.repeat ≡ get_or rs k 0 → row_of x ≡ get_or ns k 0 → x.rows ≡ unwrap_or (rows_of f a (take k ns) x.repeat) [] → x.number ≡ number_in x.rows (row_of x)
    → AreLevels f a [] new × Starts new (k + 1) rs ns
entered f a ls mid new k rs ns x h s i j left more repeat row rows number =
    let is : new ≡ take k ls ++ x ∷ [] = more ∙ ap (λ l. l ++ x ∷ []) left in (
      subst (AreLevels f a []) (sym is) (levels-more f a [] (take k ls) x (levels-kept f a [] ls k h) (rows ∙ ap (λ c. unwrap_or (rows_of f a c x.repeat) []) (sym s.rows)) number),
      subst (λ l. Starts l (k + 1) rs ns) (sym is) (starts-pushed ls k rs ns x s i j repeat row),
    )

-- Indexes that are placed among rows over all data have nodes in the instances, the outermost first; so they are placed over the instances.
use Rattle.std.proofs.Common.{◌≡◌, ℕ, zero, suc, ◌+◌, ◌<◌, ◌==◌, Bool, true, false, ◌&&◌, List, [], ◌∷◌, length, get_or, slice_get, Option, Some, None, refl, sym, ap, ◌∙◌, subst, inl, inr, arith}
use Rattle.std.specs.Prelude.{◌≤◌}
use Rattle.std.specs.List.{list_all}
use Rattle.std.proofs.lemmas.Bool.{cases_Bool}
use Rattle.std.proofs.lemmas.Bool.Decides.{nat_tests}
use Rattle.xf_def_xpath.specs.Setting.{◌>>=◌, each}
use Rattle.xf_def_model.specs.Pertinent.{AllOf}
use Rattle.xf_def_ui.specs.Around.{Around}
use Rattle.xf_def_ui.specs.Elements.{element_at, repeats_around}
use Rattle.xf_def_ui.specs.Index.{Index, unset, index_of, indexed_rows, number_of, rows_now, rows_under, seeing}
use Rattle.xf_def_ui.specs.Interface.{Interface}
use Rattle.xf_def_ui.specs.Rows.{row_at}
use Rattle.xf_def_machine.specs.AtRest.{is_placed_in}
use Rattle.xf_def_machine.specs.Program.{Program}
use Rattle.xf_def_machine.specs.Surround.{interface, quiet}
use Rattle.xf_law_sessions.proofs.StepLemmas.ChangesAlike.{has-form}
use Rattle.xf_law_recalculation.proofs.WithinLemmas.Told.{Told, Agree}
use Rattle.xf_law_recalculation.proofs.WithinLemmas.Within.{In}
use Rattle.xf_law_sessions.specs.Outcome.Indexes.{IsNumbered}
use Rattle.xf_law_sessions.specs.Outcome.Repeats.{StandInTurn}
use Rattle.xf_law_sessions.proofs.OutcomeLemmas.Placed.{HasRow, placed-in, all-at, ended, past-end}
use Rattle.xf_law_sessions.proofs.OutcomeLemmas.Repeats.{repeats_in_turn}
use Rattle.xf_law_sessions.specs.Shown.Shown.{dropped, PlacedOfInstances}
use Rattle.xf_law_sessions.proofs.ShownLemmas.AroundPart.{IsSeen, over, OneIn, rows-agree}
use Rattle.xf_law_sessions.proofs.ShownLemmas.CopiesPart.{seen-with}
use Rattle.xf_law_sessions.proofs.ShownLemmas.ElementsPart.{elements-keep}
use Rattle.xf_law_sessions.proofs.ShownLemmas.LabelsPart.{ElementKeeps}
use Rattle.xf_law_sessions.proofs.ShownLemmas.State.{q, small, is-seen, around-is}

and-true : (a b : Bool) → (a && b) ≡ true → (a ≡ true) × (b ≡ true)
and-true true b h = (refl, h)
and-true false b h = cc

equal : (m n : ℕ) → (m == n) ≡ true → m ≡ n
equal m n h = grind (arith, nat_tests, h)

all-same : (f g : ℕ → Bool) → ((n : ℕ) → f n ≡ g n) → (ns : List ℕ) → list_all f ns ≡ list_all g ns
all-same f g h [] = refl
all-same f g h (n ∷ ns) = ap (λ b. b && list_all f ns) (h n) ∙ ap (λ b. g n && b) (all-same f g h ns)

module _ (p : ℕ → Bool) where
  row-in : (rows : List ℕ) (k : ℕ) → In p rows → OneIn p (row_at rows k)
  row-in rows zero i = tt
  row-in [] (suc k) i = tt
  row-in (n ∷ ns) (suc zero) i = i.0
  row-in (n ∷ ns) (suc (suc k)) i = row-in ns (suc k) i.1

  -- the nodes of these are in the part
  chain-in : (node : ℕ → Option ℕ) (rs : List ℕ) → AllOf (λ r. OneIn p (node r)) rs → Told (In p) (each node rs)
  chain-in node [] i = tt
  chain-in node (r ∷ rs) i = by (node r) i.0 (each node rs) (chain-in node rs i.1)
    where
      by : (o : Option ℕ) → OneIn p o → (l : Option (List ℕ)) → Told (In p) l → Told (In p) (o >>= λ y. l >>= λ ys. Some (y ∷ ys))
      by None j l k = tt
      by (Some n) j None k = tt
      by (Some n) j (Some ns) k = (j, k)

  module _ (form : Interface) (keeps : (n : ℕ) → ElementKeeps p (element_at form n)) (turns : StandInTurn form) (a : Around) (small : ℕ → Option (List ℕ)) (h : IsSeen p a small) (is : List Index) where
    abbrev b : Around
    b = over p a small

    -- the nodes at the indexes of these repeats are in the part
    abbrev Below : ℕ → Type 0
    Below bound = (k : ℕ) → k < bound → OneIn p (get_or is k unset).node

    around-in : (bound : ℕ) → Below bound → (rs : List ℕ) → AllOf (λ r. number_of form r < bound) rs → AllOf (λ r. OneIn p (index_of form is r).node) rs
    around-in bound below [] low = tt
    around-in bound below (r ∷ rs) low = (below (number_of form r) low.0, around-in bound below rs low.1)

    under-agrees : (r : ℕ) (o : Option (List ℕ)) → Told (In p) o → Agree (In p) (rows_under form (seeing form is b) r o) (rows_under form (seeing form is a) r o)
    under-agrees r None i = record { same = refl; told = tt }
    under-agrees r (Some outer) i = rows-agree p (seeing form is a) small (seen-with p form keeps a small h is) form (λ n. (keeps n).binding) outer i r

    now-agrees : (bound r : ℕ) → Below bound → AllOf (λ m. number_of form m < bound) (repeats_around form r) → Agree (In p) (rows_now form b is r) (rows_now form a is r)
    now-agrees bound r below low =
        under-agrees r (indexed_rows form is r) (chain-in (λ m. (index_of form is m).node) (repeats_around form r) (around-in bound below (repeats_around form r) low))

    module _ (length-is : length is ≡ length form.repeats) (placed : (k r : ℕ) → slice_get form.repeats k ≡ Some r → HasRow (rows_now form a is r) (index_of form is r)) where
      told-rows : (o : Option (List ℕ)) (rows : List ℕ) → o ≡ Some rows → Told (In p) o → In p rows
      told-rows None rows e i = cc e
      told-rows (Some ns) rows e i = let same : ns ≡ rows = cc e in subst (In p) same i

      step : (k : ℕ) → Below k → OneIn p (get_or is k unset).node
      step k below = by (slice_get form.repeats k) refl
        where
          by : (o : Option ℕ) → slice_get form.repeats k ≡ o → OneIn p (get_or is k unset).node
          by (Some r) e =
              let row = placed k r e in
              let agrees = now-agrees k r below (turns k r e).around in
              let at : OneIn p (index_of form is r).node =
              subst (OneIn p) (sym row.node) (row-in row.rows (index_of form is r).index (told-rows (rows_now form a is r) row.rows row.is agrees.told)) in
              subst (λ n. OneIn p (get_or is n unset).node) (turns k r e).is at
          by None e =
              let past : length form.repeats ≤ k = ended form.repeats k e in
              let last : length is ≤ k = omega (arith, past, length-is) in
              subst (λ (i : Index). OneIn p i.node) (sym (past-end is k last)) tt

      all-below : (bound : ℕ) → Below bound
      all-below zero k less = let no : ⊥ = omega (arith, less) in absurd no
      all-below (suc bound) k less =
          let earlier = all-below bound in
          elim (cases_Bool (k == bound)) [
            | inl e ↦ let same : bound ≡ k = sym (equal k bound e) in subst (λ n. OneIn p (get_or is n unset).node) same (step bound earlier)
            | inr e ↦ earlier k (grind (arith, nat_tests, e, less))
          ]

      -- a bound of all these numbers
      abbrev most : List ℕ → ℕ
      most [] = 0
      most (r ∷ rs) = suc (number_of form r + most rs)

      raised : (j k : ℕ) (rs : List ℕ) → AllOf (λ r. number_of form r < j) rs → j ≤ k → AllOf (λ r. number_of form r < k) rs
      raised j k [] low less = tt
      raised j k (r ∷ rs) low less = (let one : number_of form r < j = low.0 in omega (arith, one, less), raised j k rs low.1 less)

      bounded : (rs : List ℕ) → AllOf (λ r. number_of form r < most rs) rs
      bounded [] = tt
      bounded (r ∷ rs) =
          let first : number_of form r < suc (number_of form r + most rs) = omega arith in
          let more : most rs ≤ suc (number_of form r + most rs) = omega arith in
          (first, raised (most rs) (suc (number_of form r + most rs)) rs (bounded rs) more)

      pub rows-same : (r : ℕ) → rows_now form b is r ≡ rows_now form a is r
      rows-same r = (now-agrees (most (repeats_around form r)) r (all-below (most (repeats_around form r))) (bounded (repeats_around form r))).same

pub in-turn : (form : Program) → IsNumbered form → StandInTurn form.interface
in-turn form h = subst (λ (x : Program). StandInTurn x.interface) (sym h.of_form.is) (repeats_in_turn h.of_form.form h.ordered)

pub placed_law : PlacedOfInstances
placed_law p s form trees ahead h =
    let f = interface s in
    let has = has-form s form.of_form in
    let test : Around → ℕ → Bool = λ a r. is_placed_in (rows_now f a s.indexes r) (index_of f s.indexes r) in
    let parts = and-true (length s.indexes == length f.repeats) (list_all (test (quiet p s)) f.repeats) h in
    let rows = rows-same (q s trees ahead) f (elements-keep (q s trees ahead) s has) (in-turn s.form form) (quiet p s) (small s trees ahead p has) (is-seen s trees ahead p has) s.indexes
    (equal (length s.indexes) (length f.repeats) parts.0)
    (λ k r e. placed-in (rows_now f (quiet p s) s.indexes r) (index_of f s.indexes r) (all-at (test (quiet p s)) f.repeats k r parts.1 e)) in
    let same : list_all (test (quiet p (dropped s))) f.repeats ≡ list_all (test (quiet p s)) f.repeats =
    all-same (test (quiet p (dropped s))) (test (quiet p s))
    (λ r. ap (λ o. is_placed_in o (index_of f s.indexes r)) (ap (λ a. rows_now f a s.indexes r) (around-is s trees ahead p has) ∙ rows r)) f.repeats in
    ap (λ b. (length s.indexes == length f.repeats) && b) same ∙ h

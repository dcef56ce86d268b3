-- The indexes of states at rest are the same but for numbers where their numbers and the nodes are: the rows of a repeat go over into each other once
-- the indexes of the repeats around it do.
use Rattle.std.proofs.Common.{◌≡◌, ℕ, zero, suc, ◌<◌, ◌==◌, Bool, true, false, ◌&&◌, List, map, length, get_or, slice_get, Option, Some, None, option_map, refl, sym, ap, ◌∙◌, subst, inl, inr, arith}
use Rattle.std.specs.Prelude.{◌≤◌}
use Rattle.std.specs.List.{list_all}
use Rattle.std.proofs.lemmas.Bool.{cases_Bool}
use Rattle.std.proofs.lemmas.Bool.Decides.{nat_tests}
use Rattle.xf_def_forest.specs.Same.{IsRenumbering, renumbered}
use Rattle.xf_def_xpath.specs.Given.{Given}
use Rattle.xf_def_ui.specs.Around.{Around}
use Rattle.xf_def_ui.specs.Elements.{element_at}
use Rattle.xf_def_ui.specs.Index.{Index, unset, index_of, indexed_rows, named_indexes, number_of, rows_now, rows_under, seeing}
use Rattle.xf_def_ui.specs.Interface.{Interface}
use Rattle.xf_def_ui.specs.Rows.{row_at}
use Rattle.xf_def_machine.specs.Profile.{Profile}
use Rattle.xf_def_machine.specs.Program.{Program}
use Rattle.xf_def_machine.specs.State.{State}
use Rattle.xf_def_machine.specs.Surround.{interface, quiet}
use Rattle.xf_def_machine.specs.AtRest.{are_placed, is_placed_in}
use Rattle.xf_def_machine.specs.Same.{renumbered_index}
use Rattle.xf_law_sessions.specs.Same.Controls.{GoesAround}
use Rattle.xf_law_sessions.proofs.SameLemmas.AroundGoes.{BoundGoes}
use Rattle.xf_law_sessions.proofs.SameLemmas.ForestGoes.{map-length}
use Rattle.xf_law_sessions.proofs.SameLemmas.IndexGoes.{index-at, now-goes, row-at}
use Rattle.xf_law_sessions.proofs.SameLemmas.StateGoes.{around-goes, elements-go}
use Rattle.xf_law_sessions.proofs.StepLemmas.ChangesAlike.{has-form}
use Rattle.xf_law_sessions.specs.Outcome.Indexes.{IsNumbered, IndexesAreFixed}
use Rattle.xf_law_sessions.specs.Outcome.Repeats.{StandInTurn}
use Rattle.xf_law_sessions.proofs.OutcomeLemmas.Placed.{HasRow, placed-in, all-at, ended, past-end, equal-lists, index_numbers, same-numbers, named-same, rows-same}
use Rattle.xf_law_sessions.proofs.OutcomeLemmas.Repeats.{repeats_in_turn}

and-true : (a b : Bool) → (a && b) ≡ true → (a ≡ true) × (b ≡ true)
and-true true b h = (refl, h)
and-true false b h = cc

equal : (m n : ℕ) → (m == n) ≡ true → m ≡ n
equal m n h = grind (arith, nat_tests, h)

-- each repeat of these has its index placed
abbrev ArePlaced : Interface → Around → List Index → Type 0
ArePlaced form a is = (k r : ℕ) → slice_get form.repeats k ≡ Some r → HasRow (rows_now form a is r) (index_of form is r)

-- ---- over one interface

module _ (f : ℕ → ℕ) (same : IsRenumbering f) (form : Interface) (bindings : (n : ℕ) → BoundGoes f (element_at form n).binding) (turns : StandInTurn form) where
  module _ (a b : Around) (goes : GoesAround f a b) (is js : List Index) (numbers : index_numbers is ≡ index_numbers js) (one : ArePlaced form a is) (two : ArePlaced form b js) where
    abbrev ks : List Index
    ks = map (renumbered_index f) is

    number-same : (k : ℕ) → (get_or js k unset).index ≡ (get_or ks k unset).index
    number-same k = sym (same-numbers is js numbers k) ∙ ap (λ (i : Index). i.index) (sym (index-at f k is))

    seen : seeing form js b ≡ seeing form ks b
    seen = ap {B = Around} (λ l. record b { given = record b.given { indexes = l; event = None } }) (named-same form js ks number-same form.repeats)

    -- where those of lesser numbers go over into each other
    abbrev Below : ℕ → Type 0
    Below bound = (k : ℕ) → k < bound → get_or js k unset ≡ get_or ks k unset

    module _ (k r : ℕ) (h : slice_get form.repeats k ≡ Some r) (below : Below k) where
      rows-go : rows_now form b js r ≡ option_map (map f) (rows_now form a is r)
      rows-go =
          ap (λ x. rows_under form x r (indexed_rows form js r)) seen
          ∙ ap (rows_under form (seeing form ks b) r) (rows-same form js ks k below _ (turns k r h).around)
          ∙ now-goes f same form bindings a b goes is r

      some-same : (xs ys : List ℕ) → ◌≡◌ {A = Option (List ℕ)} (Some xs) (Some ys) → xs ≡ ys
      some-same xs ys q = cc q

      node-goes : (index_of form js r).node ≡ (index_of form ks r).node
      node-goes =
          let x = one k r h in
          let y = two k r h in
          let rows : y.rows ≡ map f x.rows = some-same y.rows (map f x.rows) (sym y.is ∙ rows-go ∙ ap (option_map (map f)) x.is) in
          y.node ∙ ap (λ l. row_at l (index_of form js r).index) rows
          ∙ ap (row_at (map f x.rows)) (sym (same-numbers is js numbers (number_of form r)))
          ∙ row-at f x.rows (index_of form is r).index ∙ ap (option_map f) (sym x.node)
          ∙ ap (λ (i : Index). i.node) (sym (index-at f (number_of form r) is))

      same-index : (i j : Index) → i.index ≡ j.index → i.node ≡ j.node → i ≡ j
      same-index i j p q = ap {A = ℕ} {B = Index} (λ n. record { index = n; node = i.node }) p ∙ ap {A = Option ℕ} {B = Index} (λ o. record { index = j.index; node = o }) q

      index-goes : get_or js k unset ≡ get_or ks k unset
      index-goes =
          subst (λ n. get_or js n unset ≡ get_or ks n unset) (turns k r h).is
          (same-index (index_of form js r) (index_of form ks r) (number-same (number_of form r)) node-goes)

    module _ (length-one : length is ≡ length form.repeats) (length-two : length js ≡ length form.repeats) where
      step : (k : ℕ) → Below k → get_or js k unset ≡ get_or ks k unset
      step k below = by (slice_get form.repeats k) refl
        where
          by : (o : Option ℕ) → slice_get form.repeats k ≡ o → get_or js k unset ≡ get_or ks k unset
          by (Some r) h = index-goes k r h below
          by None h =
              let past : length form.repeats ≤ k = ended form.repeats k h in
              let ks-length : length ks ≡ length is = map-length (renumbered_index f) is in
              past-end js k (omega (arith, past, length-two)) ∙ sym (past-end ks k (omega (arith, past, length-one, ks-length)))

      all-below : (bound : ℕ) → Below bound
      all-below zero k less = let no : ⊥ = omega (arith, less) in absurd no
      all-below (suc bound) k less =
          let earlier = all-below bound in
          elim (cases_Bool (k == bound)) [
            | inl p ↦ let e : bound ≡ k = sym (equal k bound p) in subst (λ n. get_or js n unset ≡ get_or ks n unset) e (step bound earlier)
            | inr p ↦ earlier k (grind (arith, nat_tests, p, less))
          ]

      pub all-go : ks ≡ js
      all-go =
          let ks-length : length ks ≡ length is = map-length (renumbered_index f) is in
          equal-lists ks js (omega (arith, ks-length, length-one, length-two)) (λ k. sym (all-below (suc k) k (omega arith)))

-- ---- over states

placed-all : (p : Profile) (s : State) → are_placed p s ≡ true → (length s.indexes ≡ length (interface s).repeats) × ArePlaced (interface s) (quiet p s) s.indexes
placed-all p s h =
    let test : ℕ → Bool = λ r. is_placed_in (rows_now (interface s) (quiet p s) s.indexes r) (index_of (interface s) s.indexes r) in
    let parts = and-true (length s.indexes == length (interface s).repeats) (list_all test (interface s).repeats) h in (
      equal (length s.indexes) (length (interface s).repeats) parts.0,
      λ k r q. placed-in (rows_now (interface s) (quiet p s) s.indexes r) (index_of (interface s) s.indexes r) (all-at test (interface s).repeats k r parts.1 q),
    )

in-turn : (form : Program) → IsNumbered form → StandInTurn form.interface
in-turn form h = subst (λ (x : Program). StandInTurn x.interface) (sym h.of_form.is) (repeats_in_turn h.of_form.form h.ordered)

pub indexes_fixed : IndexesAreFixed
indexes_fixed p f s t form d h q =
    let with_form : are_placed p (record t { form = s.form }) ≡ true = subst (λ (x : Program). are_placed p (record t { form = x }) ≡ true) (sym d.form) q in
    let with_nodes : are_placed p (record t { form = s.form; forest = record { nodes = map (renumbered f) s.forest.nodes; next = t.forest.next } }) ≡ true =
    subst (λ x. are_placed p (record t { form = s.form; forest = record { nodes = x; next = t.forest.next } }) ≡ true) (sym d.nodes) with_form in
    let u : State = record t { form = s.form; forest = record { nodes = map (renumbered f) s.forest.nodes; next = t.forest.next } } in
    let has = has-form s form.of_form in
    let own = around-goes p f d.renumbers 0 s has None in
    let ks = map (renumbered_index f) s.indexes in
    let named : named_indexes (interface s) t.indexes ≡ named_indexes (interface s) ks =
    named-same (interface s) t.indexes ks (λ k. sym (same-numbers s.indexes t.indexes d.indexes k) ∙ ap (λ (i : Index). i.index) (sym (index-at f k s.indexes))) (interface s).repeats in
    let goes : GoesAround f (quiet p s) (quiet p u) = record {
      functions = own.functions;
      most = own.most;
      given = ap {B = Given} (λ l. record (quiet p u).given { indexes = l }) named ∙ own.given;
      all = own.all;
      bound = own.bound;
    } in
    let one = placed-all p s h in
    let two = placed-all p u with_nodes in
    all-go f d.renumbers (interface s) (λ n. (elements-go f d.renumbers s has n).binding) (in-turn s.form form) (quiet p s) (quiet p u) goes s.indexes t.indexes d.indexes one.1 two.1 one.0 two.0

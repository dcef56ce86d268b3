-- The place of a row among the rows.
use Rattle.std.proofs.Common.{◌≡◌, ℕ, suc, ◌+◌, Bool, true, false, cond, not, ◌||◌, ◌==◌, List, [], ◌∷◌, length, Some, None, inl, inr, refl, sym, ap, ◌∙◌, arith}
use Rattle.std.specs.Prelude.{nat_lt, if◌then◌else◌}
use Rattle.std.specs.List.{position, position_or_len}
use Rattle.std.proofs.lemmas.Bool.{cases_order, lt-ltb, le-ltb}
use Rattle.xf_graph.proofs.HasLemmas.{==-turned}
use Rattle.xf_def_forest.specs.Visit.{has}
use Rattle.xf_def_xpath.specs.Setting.{Focus}
use Rattle.xf_def_ui.specs.Around.{alone}
use Rattle.xf_def_ui.specs.Context.{standing_in}

abbrev pub place : ℕ → List ℕ → ℕ
place n ns = position_or_len (λ m. m == n) ns

next-lt : (a b : ℕ) → nat_lt (1 + a) (suc b) ≡ nat_lt a b
next-lt a b =
    elim (cases_order a b) [
      | inl e ↦ le-ltb (1 + a) (suc b) (omega (arith, e)) ∙ sym (le-ltb a b (omega (arith, e)))
      | inr (inl l) ↦ lt-ltb (1 + a) (suc b) (omega (arith, l)) ∙ sym (lt-ltb a b l)
      | inr (inr l) ↦ le-ltb (1 + a) (suc b) (omega (arith, l)) ∙ sym (le-ltb a b (omega (arith, l)))
    ]

pub has-place : (n : ℕ) (ns : List ℕ) → has n ns ≡ nat_lt (place n ns) (length ns)
has-place n [] = refl
has-place n (m ∷ ms) = by (has-place n ms) (m == n) refl
  where
    by : has n ms ≡ nat_lt (place n ms) (length ms) → (b : Bool) → (m == n) ≡ b → ((n == m) || has n ms) ≡ nat_lt (cond (not b) (1 + place n ms) 0) (suc (length ms))
    by h true e = ap (λ t. t || has n ms) (==-turned n m ∙ e) ∙ sym (lt-ltb 0 (suc (length ms)) (omega arith))
    by h false e = ap (λ t. t || has n ms) (==-turned n m ∙ e) ∙ h ∙ sym (next-lt (place n ms) (length ms))

abbrev row_at_place : ℕ → List ℕ → ℕ → Focus
row_at_place n ns k = record { node = n; position = suc k; size = length ns }

abbrev stands : Bool → ℕ → List ℕ → Focus
stands b n ns = if b then row_at_place n ns (place n ns) else alone n

pub placed : (n : ℕ) (ns : List ℕ) (k : ℕ) → Some k ≡ position (λ m. m == n) ns → standing_in n ns ≡ record { node = n; position = suc k; size = length ns }
placed n ns k h = by (nat_lt (place n ns) (length ns)) (has-place n ns) h
  where
    by : (b : Bool) → has n ns ≡ b → Some k ≡ cond b (Some (place n ns)) None → standing_in n ns ≡ row_at_place n ns k
    by true e i = let same : place n ns ≡ k = cc i in ap (λ t. stands t n ns) e ∙ ap (row_at_place n ns) same
    by false e i = cc i

pub unplaced : (n : ℕ) (ns : List ℕ) → None ≡ position (λ m. m == n) ns → standing_in n ns ≡ alone n
unplaced n ns h = by (nat_lt (place n ns) (length ns)) (has-place n ns) h
  where
    by : (b : Bool) → has n ns ≡ b → None ≡ cond b (Some (place n ns)) None → standing_in n ns ≡ alone n
    by true e i = cc i
    by false e i = ap (λ t. stands t n ns) e

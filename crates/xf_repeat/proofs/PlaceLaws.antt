-- The place of a node among the rows, from 1.
use Rattle.std.proofs.Common.{◌≡◌, ℕ, suc, Bool, true, false, cond, List, length, Option, Some, None, sym, ap, ◌∙◌}
use Rattle.std.specs.Prelude.{◌==◌, nat_lt, if◌then◌else◌}
use Rattle.std.specs.List.{position}
use Rattle.xf_def_forest.specs.Visit.{has}
use Rattle.xf_def_ui.specs.Index.{place_in}
use Rattle.xf_eval_context.proofs.RowPlaces.{has-place, place}

abbrev placed_where : Bool → ℕ → Option ℕ
placed_where b k = if b then Some (suc k) else None

pub kept-some : (n : ℕ) (ns : List ℕ) (k : ℕ) → Some k ≡ position (λ m. m == n) ns → Some (suc k) ≡ place_in ns n
kept-some n ns k h = by (nat_lt (place n ns) (length ns)) (has-place n ns) h
  where
    by : (b : Bool) → has n ns ≡ b → Some k ≡ cond b (Some (place n ns)) None → Some (suc k) ≡ place_in ns n
    by true e i = let same : k ≡ place n ns = cc i in ap (λ p. Some (suc p)) same ∙ sym (ap (λ t. placed_where t (place n ns)) e)
    by false e i = cc i

pub kept-none : (n : ℕ) (ns : List ℕ) → None ≡ position (λ m. m == n) ns → None ≡ place_in ns n
kept-none n ns h = by (nat_lt (place n ns) (length ns)) (has-place n ns) h
  where
    by : (b : Bool) → has n ns ≡ b → None ≡ cond b (Some (place n ns)) None → None ≡ place_in ns n
    by true e i = cc i
    by false e i = sym (ap (λ t. placed_where t (place n ns)) e)

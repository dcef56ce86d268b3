-- A tally of names, one name more.
use Rattle.std.proofs.Common.{◌≡◌, ℕ, ◌+◌, List, Some, true, false, cond, ap, sym, ◌∙◌, arith, inl, inr}
use Rattle.std.specs.Prelude.{String, string_bytes, unwrap_or}
use Rattle.std.specs.HashMap.{HashMap, UpdatesBy}
use Rattle.std.specs.Str.{bytes_eq}
use Rattle.std.specs.String.{string_eq}
use Rattle.std.proofs.lemmas.Map.Text.{hash_map_updates_text}
use Rattle.std.proofs.lemmas.Slice.Eq.{bytes_eq-Decides}
use Rattle.std.proofs.lemmas.Bool.{cases_Bool, cond-true, cond-false, false_from_ne_true, both_ways}
use Rattle.xf_tree_paths.specs.Family.{tallied}

pub tally-more : {Y S : Type 0} (name : List ℕ) (m n : HashMap (String Y) ℕ S) (next : ℕ) → UpdatesBy string_eq (λ k. bytes_eq name (string_bytes k)) m n (Some next)
    → next ≡ tallied m name + 1 → (q : List ℕ) → tallied n q ≡ cond {A = ℕ} (bytes_eq q name) 1 0 + tallied m q
tally-more name m n next h e q =
    let found = hash_map_updates_text name m n (Some next) h q in
    elim (cases_Bool (bytes_eq name q)) [
      | inl t ↦
          let same : name ≡ q = (bytes_eq-Decides name q).0 t in
          let back : bytes_eq q name ≡ true = (bytes_eq-Decides q name).1 (sym same) in
          let new : tallied n q ≡ tallied m q + 1 = ap (λ o. unwrap_or o 0) (found ∙ cond-true _ _ _ t) ∙ e ∙ ap (λ b. tallied m b + 1) same in
          let one : cond {A = ℕ} (bytes_eq q name) 1 0 ≡ 1 = ap (λ b. cond {A = ℕ} b 1 0) back in
          omega (arith, new, one)
      | inr f ↦
          let apart : bytes_eq q name ≡ false = false_from_ne_true _ (λ t. both_ways _ f ((bytes_eq-Decides name q).1 (sym ((bytes_eq-Decides q name).0 t)))) in
          let old : tallied n q ≡ tallied m q = ap (λ o. unwrap_or o 0) (found ∙ cond-false _ _ _ f) in
          let none : cond {A = ℕ} (bytes_eq q name) 1 0 ≡ 0 = ap (λ b. cond {A = ℕ} b 1 0) apart in
          omega (arith, old, none)
    ]

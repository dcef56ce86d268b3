-- A node that does not stand in the forest has nothing above it.
use Rattle.std.proofs.Common.{◌≡◌, ℕ, Bool, true, false, cond, List, [], ◌∷◌, Some, None, refl, sym, ap, ◌∙◌}
use Rattle.std.specs.Prelude.{find, ◌==◌, ◌||◌, ◌&&◌}
use Rattle.std.specs.List.{list_all, list_any}
use Rattle.xf_def_forest.specs.declared.content.Node.{Node}
use Rattle.xf_def_forest.specs.Forest.{has_number}
use Rattle.xf_def_forest.specs.Visit.{Visit, visit, visits, visits_from, still_above, above_in, ancestors_of}
use Rattle.xf_def_model.specs.declared.property.Property.TheVariants.{Relevant}
use Rattle.xf_def_model.specs.Properties.{own, own_readonly}
use Rattle.xf_binds.specs.Kept.{Kept, values_in}
use Rattle.xf_valid.specs.Nodes.{relevant_in, readonly_in}

none-found : (n : ℕ) (above xs : List Node) → has_number n xs ≡ false → find (λ (v : Visit). v.number == n) (visits_from above xs) ≡ None
none-found n above [] h = refl
none-found n above (x ∷ xs) h = by (none-found n (x ∷ still_above x.depth above) xs) (x.number == n) h
  where
    by : (has_number n xs ≡ false → find (λ (v : Visit). v.number == n) (visits_from (x ∷ still_above x.depth above) xs) ≡ None)
        → (b : Bool) → (b || has_number n xs) ≡ false → cond b (Some (visit above x)) (find (λ (v : Visit). v.number == n) (visits_from (x ∷ still_above x.depth above) xs)) ≡ None
    by later true i = cc i
    by later false i = later i

none-above : (n : ℕ) (nodes : List Node) → has_number n nodes ≡ false → ancestors_of n (visits nodes) ≡ []
none-above n nodes h = ap above_in (none-found n [] nodes h)

and-true : (b : Bool) → (b && true) ≡ b
and-true true = refl
and-true false = refl

or-false : (b : Bool) → (b || false) ≡ b
or-false true = refl
or-false false = refl

pub relevant-dead : (table : List Kept) (nodes : List Node) (n : ℕ) → has_number n nodes ≡ false → relevant_in table nodes n ≡ own (values_in table) Relevant true n
relevant-dead table nodes n h =
    ap (λ ns. list_all (own (values_in table) Relevant true) (n ∷ ns)) (none-above n nodes h) ∙ and-true (own (values_in table) Relevant true n)

pub readonly-dead : (table : List Kept) (nodes : List Node) (n : ℕ) → has_number n nodes ≡ false → readonly_in table nodes n ≡ own_readonly (values_in table) n
readonly-dead table nodes n h =
    ap (λ ns. list_any (own_readonly (values_in table)) (n ∷ ns)) (none-above n nodes h) ∙ or-false (own_readonly (values_in table) n)

pub not-live : (there told : Bool) → (there ≡ true → told ≡ true) → told ≡ false → there ≡ false
not-live true told tells h = sym (tells refl) ∙ h
not-live false told tells h = refl

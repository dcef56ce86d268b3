-- What the calculate of a node asks, found by the place of its entry; and the calculates among entries.
use Rattle.std.proofs.Common.{◌≡◌, ℕ, zero, suc, ◌+◌, Bool, true, false, cond, List, [], ◌∷◌, ◌++◌, map, take, Option, Some, None, option_map, slice_get, refl, sym, ap, ◌∙◌, arith}
use Rattle.std.specs.Prelude.{filter}
use Rattle.xf_def_xpath.proofs.VisitFacts.{none-some, some-same}
use Rattle.xf_def_model.specs.declared.property.Property.TheVariants.{Calculate}
use Rattle.xf_def_model.specs.Applied.{Entry, is_calculate}
use Rattle.xf_def_model.specs.Properties.{sets_on}
use Rattle.xf_binds.specs.declared.web.Asks.{Asks}
use Rattle.xf_binds.specs.Held.{place_on}
use Rattle.xf_binds_rebuild.specs.Web.{no_asks}
use Rattle.xf_binds_rebuild.specs.Links.{asks_on, calculated_nodes}
use Rattle.xf_binds_rebuild.specs.Found.{asks_or, calculated_at, node_if}

moved : (asks : Asks) (web : List Asks) (k : ℕ) (o : Option ℕ) (found : Asks) → option_map suc o ≡ Some k → ((j : ℕ) → o ≡ Some j → asks_or (slice_get web j) ≡ found)
    → asks_or (slice_get (asks ∷ web) k) ≡ found
moved asks web k None found h later = none-some h
moved asks web k (Some j) found h later = ap (λ i. asks_or (slice_get (asks ∷ web) i)) (sym (some-same h)) ∙ later j refl

pub asks-some : (entries : List Entry) (web : List Asks) (n k : ℕ) → place_on entries n Calculate ≡ Some k → asks_or (slice_get web k) ≡ asks_on entries web n
asks-some [] web n k h = none-some h
asks-some (e ∷ es) [] n k h = refl
asks-some (e ∷ es) (asks ∷ web) n k h = by (sets_on n Calculate e) h (asks-some es web n)
  where
    by : (b : Bool) → cond b (Some 0) (option_map suc (place_on es n Calculate)) ≡ Some k → ((j : ℕ) → place_on es n Calculate ≡ Some j → asks_or (slice_get web j) ≡ asks_on es web n)
        → asks_or (slice_get (asks ∷ web) k) ≡ cond b asks (asks_on es web n)
    by true i later = ap (λ j. asks_or (slice_get (asks ∷ web) j)) (sym (some-same i))
    by false i later = moved asks web k (place_on es n Calculate) (asks_on es web n) i later

pub asks-none : (entries : List Entry) (web : List Asks) (n : ℕ) → place_on entries n Calculate ≡ None → no_asks ≡ asks_on entries web n
asks-none [] web n h = refl
asks-none (e ∷ es) [] n h = refl
asks-none (e ∷ es) (asks ∷ web) n h = by (sets_on n Calculate e) h (asks-none es web n)
  where
    some : (o : Option ℕ) → option_map suc o ≡ None → o ≡ None
    some None i = refl
    some (Some k) i = none-some (sym i)

    by : (b : Bool) → cond b (Some 0) (option_map suc (place_on es n Calculate)) ≡ None → (place_on es n Calculate ≡ None → no_asks ≡ asks_on es web n) → no_asks ≡ cond b asks (asks_on es web n)
    by true i later = none-some (sym i)
    by false i later = later (some (place_on es n Calculate) i)

-- ---- entry by entry

next-calculated : (i : ℕ) (es : List Entry) → calculated_nodes (take (suc i) es) ≡ calculated_nodes (take i es) ++ calculated_at (slice_get es i)
next-calculated zero [] = refl
next-calculated (suc i) [] = refl
next-calculated zero (e ∷ es) = by (is_calculate e)
  where
    by : (b : Bool) → map (λ (x : Entry). x.node) (cond b (e ∷ []) []) ≡ node_if b e.node
    by true = refl
    by false = refl
next-calculated (suc i) (e ∷ es) = by (is_calculate e) (next-calculated i es)
  where
    by : (b : Bool) → calculated_nodes (take (suc i) es) ≡ calculated_nodes (take i es) ++ calculated_at (slice_get es i)
        → map (λ (x : Entry). x.node) (cond b (e ∷ filter is_calculate (take (suc i) es)) (filter is_calculate (take (suc i) es)))
        ≡ map (λ (x : Entry). x.node) (cond b (e ∷ filter is_calculate (take i es)) (filter is_calculate (take i es))) ++ calculated_at (slice_get es i)
    by true h = ap (λ l. e.node ∷ l) h
    by false h = h

pub calculated-next : (i : ℕ) (es : List Entry) → calculated_nodes (take (i + 1) es) ≡ calculated_nodes (take i es) ++ calculated_at (slice_get es i)
calculated-next i es = ap (λ j. calculated_nodes (take j es)) (let e : i + 1 ≡ suc i = omega arith in e) ∙ next-calculated i es

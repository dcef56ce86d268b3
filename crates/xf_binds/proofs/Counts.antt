-- What is asked, counted as far as 64 bits go.
use Rattle.std.proofs.Common.{◌≡◌, ℕ, zero, suc, ◌+◌, ◌-◌, ◌^◌, ◌<◌, min, List, [], ◌∷◌, ◌++◌, take, length, get_or, refl, sym, ap, ◌∙◌, arith}
use Rattle.std.specs.Prelude.{fold, slice_set, slice_index_or}
use Rattle.std.proofs.lemmas.List.Sums.{sum_by_more}
use Rattle.std.proofs.lemmas.List.{get_or-set_other}
use Rattle.std.proofs.lemmas.Grind.{get_or-set_at}
use Rattle.xf_binds.specs.declared.web.Asks.{Asks}
use Rattle.xf_binds.specs.Asked.{asked_in, asked_of, asked_by_all, asking}
use Rattle.xf_binds.specs.Kept.{Kept, no_kept}
use Rattle.xf_binds.specs.Table.{kept_at}

abbrev pub most : ℕ
most = 2 ^ 64 - 1

pub min-sum : (s a one other : ℕ) → one ≡ min s (2 ^ 64 - 1) → other ≡ min a (2 ^ 64 - 1) → min (one + other) (2 ^ 64 - 1) ≡ min (s + a) (2 ^ 64 - 1)
min-sum s a one other e f = omega (arith, e, f)

fold-more : {X : Type 0} (f : X → ℕ) (n : ℕ) (xs : List X) (x : X) → fold (λ a y. a + f y) n (xs ++ x ∷ []) ≡ fold (λ a y. a + f y) n xs + f x
fold-more f n [] x = refl
fold-more f n (y ∷ ys) x = fold-more f (n + f y) ys x

pub counted-push : (web : List Asks) (asks : Asks) (asked more : ℕ) → asked ≡ min (asked_of web) (2 ^ 64 - 1) → more ≡ min (asked_in asks) (2 ^ 64 - 1)
    → min (asked + more) (2 ^ 64 - 1) ≡ min (asked_of (web ++ asks ∷ [])) (2 ^ 64 - 1)
counted-push web asks asked more e f =
    min-sum (asked_of web) (asked_in asks) asked more e f ∙ ap (λ n. min n (2 ^ 64 - 1)) (sym (fold-more asked_in 0 web asks))

-- ---- model by model

pub sum-more : (ks : List Kept) (at sum one : ℕ) → at < length ks → sum ≡ min (asked_by_all (take at ks)) (2 ^ 64 - 1)
    → one ≡ min (asked_of (slice_index_or ks at no_kept).asks) (2 ^ 64 - 1)
    → min (sum + one) (2 ^ 64 - 1) ≡ min (asked_by_all (take (at + 1) ks)) (2 ^ 64 - 1)
sum-more ks at sum one within e f =
    min-sum (asked_by_all (take at ks)) (asked_of (slice_index_or ks at no_kept).asks) sum one e f
    ∙ ap (λ n. min n (2 ^ 64 - 1)) (sym (sum_by_more (λ (k : Kept). asked_of k.asks) ks at no_kept within))

pub asked-here : (ks : List Kept) (model at : ℕ) (web : List Asks) → at ≡ model → at < length ks → (slice_index_or (asking ks model web) at no_kept).asks ≡ web
asked-here ks model at web same within = ap (λ (k : Kept). k.asks) (get_or-set_at ks model at (record (kept_at ks model) { asks = web }) no_kept same (omega (arith, same)))

pub asked-there : (ks : List Kept) (model at : ℕ) (web : List Asks) → (at ≡ model → ⊥) → (slice_index_or (asking ks model web) at no_kept).asks ≡ (get_or ks at no_kept).asks
asked-there ks model at web ne = ap (λ (k : Kept). k.asks) (get_or-set_other ks model at (record (kept_at ks model) { asks = web }) no_kept ne)

set-length : (ks : List Kept) (model : ℕ) (k : Kept) → length (slice_set ks model k) ≡ length ks
set-length [] model k = refl
set-length (y ∷ ys) zero k = refl
set-length (y ∷ ys) (suc model) k = ap suc (set-length ys model k)

pub asking-length : (ks : List Kept) (model : ℕ) (web : List Asks) → length (asking ks model web) ≡ length ks
asking-length ks model web = set-length ks model (record (kept_at ks model) { asks = web })

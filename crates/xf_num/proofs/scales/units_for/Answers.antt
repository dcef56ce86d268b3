use Rattle.std.proofs.Common.{◌≡◌, ◌≤◌, ℕ, zero, suc, [], ◌∷◌, slice_index_or, refl, arith}
use Rattle.xf_num.specs.Number.{scale}
use Rattle.xf_num.proofs.scales.units_for.Goals as goal

tabled : (d : ℕ) → d ≤ 9 → slice_index_or (1 ∷ 10 ∷ 100 ∷ 1000 ∷ 10000 ∷ 100000 ∷ 1000000 ∷ 10000000 ∷ 100000000 ∷ 1000000000 ∷ []) d 0 ≡ scale d
unfolding scale
tabled zero h = refl
tabled (suc zero) h = refl
tabled (suc (suc zero)) h = refl
tabled (suc (suc (suc zero))) h = refl
tabled (suc (suc (suc (suc zero)))) h = refl
tabled (suc (suc (suc (suc (suc zero))))) h = refl
tabled (suc (suc (suc (suc (suc (suc zero)))))) h = refl
tabled (suc (suc (suc (suc (suc (suc (suc zero))))))) h = refl
tabled (suc (suc (suc (suc (suc (suc (suc (suc zero)))))))) h = refl
tabled (suc (suc (suc (suc (suc (suc (suc (suc (suc zero))))))))) h = refl
tabled (suc (suc (suc (suc (suc (suc (suc (suc (suc (suc d)))))))))) h = absurd (omega arith)

pub returns-clause-value : goal.returns-clause-value
returns-clause-value c = tabled c.args.decimals c.requires

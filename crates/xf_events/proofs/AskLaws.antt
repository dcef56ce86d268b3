-- What an insert asks for, by the nodes of a set: the last one of it, and what is told as the place.
use Rattle.std.proofs.Common.{◌≡◌, ◌-◌, ℕ, ℤ, zero, suc, List, [], ◌∷◌, length, Option, Some, refl, ap}
use Rattle.std.specs.Prelude.{slice_get}
use Rattle.xf_def_xpath.specs.Binding.{as_list}
use Rattle.xf_def_xpath.specs.Setting.{Focus}
use Rattle.xf_def_model.specs.Places.{held}
use Rattle.xf_def_machine.specs.Insert as ins

pub last-is : (ns : List ℕ) (n k : ℕ) → length ns ≡ suc k → slice_get ns k ≡ Some n → ins.last_one ns ≡ n ∷ []
last-is [] n k h e = cc h
last-is (m ∷ []) n zero h e = let same : m ≡ n = cc e in ap (λ x. x ∷ []) same
last-is (m ∷ []) n (suc k) h e = cc h
last-is (m ∷ p ∷ ns) n zero h e = cc h
last-is (m ∷ p ∷ ns) n (suc k) h e = let less : length (p ∷ ns) ≡ suc k = cc h in last-is (p ∷ ns) n k less e

-- ---- what is told as the place of an insert

module _ (at : Option ℤ) (c : Focus) where
  pub location-empty : (ns : List ℕ) → length ns ≡ 0 → ins.location_of at c ns ≡ c.node ∷ []
  location-empty [] h = refl
  location-empty (n ∷ ns) h = cc h

  pub location-named : (ns : List ℕ) (k : ℕ) → length ns ≡ suc k → ins.location_of at c ns ≡ as_list (slice_get ns (held (length ns) at - 1))
  location-named [] k h = cc h
  location-named (n ∷ ns) k h = refl

-- A node that does not stand in the shape has no ancestors there.
use Rattle.std.proofs.Common.{◌≡◌, ℕ, ◌^◌, ◌<◌, ◌==◌, Bool, true, false, cond, nat_lt, List, [], ◌∷◌, map, Some, refl, sym, ap, ◌∙◌, arith}
use Rattle.std.proofs.lemmas.Bool.{false≢true}
use Rattle.std.proofs.lemmas.Bool.Decides.{nat_tests}
use Rattle.xf_def_forest.specs.Forest.{Forest, has_number}
use Rattle.xf_def_forest.specs.Shape.{erased, shape_of}
use Rattle.xf_def_forest.specs.Visit.{Visit, above_in, ancestors_of, has, visits}
use Rattle.xf_def_xpath.specs.Asked.{found}
use Rattle.xf_def_xpath.specs.Agree.{numbers_of}
use Rattle.xf_eval_shape.specs.Sound.{Sound}
use Rattle.xf_eval_shape.specs.Spots.{stands}
use Rattle.xf_eval_shape.proofs.Shapes.{absent-found}
use Rattle.xf_binds_rebuild.proofs.Shown.{shown-above, shown-live}

numbers-erased : (xs : List Visit) → numbers_of (map erased xs) ≡ numbers_of xs
numbers-erased [] = refl
numbers-erased (x ∷ xs) = ap (λ l. x.number ∷ l) (numbers-erased xs)

above-erased : (n : ℕ) (xs : List Visit) → above_in (found n (map erased xs)) ≡ above_in (found n xs)
above-erased n [] = refl
above-erased n (x ∷ xs) = by (x.number == n) (above-erased n xs)
  where
    by : (b : Bool) → above_in (found n (map erased xs)) ≡ above_in (found n xs) → above_in (cond b (Some (erased x)) (found n (map erased xs))) ≡ above_in (cond b (Some x) (found n xs))
    by true h = refl
    by false h = h

pub not-live : (h b : Bool) → (h ≡ true → b ≡ true) → b ≡ false → h ≡ false
not-live true b g e = absurd (false≢true (sym e ∙ g refl))
not-live false b g e = refl

pub small : (n : ℕ) → n < 2 ^ 128 → nat_lt n (2 ^ 128) ≡ true
small n h = grind (arith, nat_tests, h)

module _ (forest : Forest) (sound : Sound forest) (n : ℕ) (low : n < 2 ^ 128) where
  there : stands forest.nodes n ≡ true → has n (numbers_of (shape_of forest.nodes)) ≡ true
  there h = ap (has n) (sym (numbers-erased (shape_of forest.nodes))) ∙ h

  pub standing-live : stands forest.nodes n ≡ true → has_number n forest.nodes ≡ true
  standing-live h = shown-live forest sound n (there h, small n low)

  pub standing-above : stands forest.nodes n ≡ true → ancestors_of n (visits forest.nodes) ≡ ancestors_of n (shape_of forest.nodes)
  standing-above h = sym (shown-above forest sound n (there h, small n low))

  pub absent-above : stands forest.nodes n ≡ false → [] ≡ ancestors_of n (shape_of forest.nodes)
  absent-above h = ap above_in (sym (absent-found forest sound n h)) ∙ above-erased n (shape_of forest.nodes)

  pub dead-absent : has_number n forest.nodes ≡ false → false ≡ stands forest.nodes n
  dead-absent h = by (stands forest.nodes n) refl
    where
      by : (b : Bool) → stands forest.nodes n ≡ b → false ≡ b
      by true e = absurd (false≢true (sym h ∙ standing-live e))
      by false e = refl

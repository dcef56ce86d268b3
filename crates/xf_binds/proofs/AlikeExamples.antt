-- Which values give nodes the same properties, on a few entries.
use Rattle.std.proofs.Common.{ℕ, true, false, [], ◌∷◌, Some, None, refl, codes}
use Rattle.xf_def_xpath.specs.declared.value.Value.{Value}
use Rattle.xf_def_xpath.specs.declared.value.Value.TheVariants.{Text, Truth}
use Rattle.xf_def_model.specs.declared.property.Property.{Property}
use Rattle.xf_def_model.specs.declared.property.Property.TheVariants.{Calculate, Readonly, Relevant, Constraint}
use Rattle.xf_def_model.specs.Applied.{Entry}
use Rattle.xf_def_model.specs.Settled.{Valued}
use Rattle.xf_binds.specs.Alike.{AreAlike}

abbrev entry : ℕ → Property → Entry
entry node property = record { node = node; property = property; bind = 0; position = 1; size = 1 }

abbrev valued : ℕ → Property → Value → Valued
valued node property value = record { entry = entry node property; value = Some value }

-- ---- alike

-- a node stays readonly, whatever another is calculated to be
another_text_is_calculated :
    AreAlike (valued 2 Calculate (Text (codes "1")) ∷ valued 3 Readonly (Truth true) ∷ []) (valued 2 Calculate (Text (codes "2")) ∷ valued 3 Readonly (Truth true) ∷ [])
another_text_is_calculated = (record { entry = refl; truth = λ shown. cc shown }, (record { entry = refl; truth = λ shown. refl }, tt))

-- a constraint tells by the validity of its node alone
a_constraint_is_not_shown : AreAlike (valued 2 Constraint (Truth true) ∷ []) (valued 2 Constraint (Truth false) ∷ [])
a_constraint_is_not_shown = (record { entry = refl; truth = λ shown. cc shown }, tt)

-- a text counts by whether it is empty
another_text_of_the_same_truth : AreAlike (valued 2 Relevant (Text (codes "a")) ∷ []) (valued 2 Relevant (Truth true) ∷ [])
another_text_of_the_same_truth = (record { entry = refl; truth = λ shown. refl }, tt)

-- ---- not alike

another_readonly : AreAlike (valued 3 Readonly (Truth true) ∷ []) (valued 3 Readonly (Truth false) ∷ []) → ⊥
another_readonly a = cc (a.0.truth refl)

a_first_value : AreAlike (record { entry = entry 2 Relevant; value = None } ∷ []) (valued 2 Relevant (Truth true) ∷ []) → ⊥
a_first_value a = cc (a.0.truth refl)

-- a node that has no calculate any more
a_calculate_that_went : AreAlike (valued 2 Calculate (Text (codes "1")) ∷ []) [] → ⊥
a_calculate_that_went a = a

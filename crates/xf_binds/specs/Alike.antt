-- Values by which nodes have the same properties, validity apart (XForms 1.1, section 6.1).
use Rattle.std.specs.Prelude.{◌≡◌, Bool, true, false, List, [], ◌∷◌, option_map}
use Rattle.xf_def_xpath.specs.Conversions.{truth_of}
use Rattle.xf_def_model.specs.declared.property.Property.{Property}
use Rattle.xf_def_model.specs.declared.property.Property.TheVariants.{Kind, Calculate, Relevant, Readonly, Required, Constraint}
use Rattle.xf_def_model.specs.Settled.{Valued}

-- the properties that are told of a node beside its validity; a calculate tells by being there
abbrev pub is_shown : Property → Bool
is_shown Relevant = true
is_shown Readonly = true
is_shown Required = true
is_shown Kind = false
is_shown Calculate = false
is_shown Constraint = false

-- of the same entry, and of the same truth where its property is shown
pub record IsAlike (before after : Valued) : Type 0 where
  pub entry : after.entry ≡ before.entry
  pub truth : is_shown before.entry.property ≡ true → option_map truth_of after.value ≡ option_map truth_of before.value

abbrev pub AreAlike : List Valued → List Valued → Type 0
AreAlike [] [] = Unit {0}
AreAlike [] (w ∷ ws) = ⊥
AreAlike (v ∷ vs) [] = ⊥
AreAlike (v ∷ vs) (w ∷ ws) = IsAlike v w × AreAlike vs ws

mod WordLaws
mod LabelLaws
mod ItemLaws
mod SetLaws

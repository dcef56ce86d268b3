-- The numbers of nodes do not count: two forests that agree but for these give an expression one text.
use Rattle.std.proofs.Common.{◌≡◌, ℕ, map, Option, Some, None, option_map, refl, ap, ◌∙◌}
use Rattle.xf_def_syntax.specs.declared.expr.Expr.{Expr}
use Rattle.xf_def_forest.specs.Forest.{Forest}
use Rattle.xf_def_forest.specs.Visit.{visits}
use Rattle.xf_def_forest.specs.StringValue.{string_value}
use Rattle.xf_def_forest.specs.Same.{IsRenumbering, renumbered}
use Rattle.xf_def_forest.proofs.RenumberLaws.{visits-renumbered, string_value-renumbered}
use Rattle.xf_def_xpath.specs.Given.{Given}
use Rattle.xf_def_values.specs.Functions.{Functions}
use Rattle.xf_def_xpath.specs.Setting.{Setting, Focus, ◌>>=◌, setting_over}
use Rattle.xf_def_xpath.specs.Conversions.{string_of}
use Rattle.xf_def_xpath.specs.Meaning.{meaning}
use Rattle.xf_def_xpath.specs.Same.{renumbered_value, renumbered_document, renumbered_property, renumbered_given, renumbered_focus}
use Rattle.xf_def_xpath.proofs.RenumberLaws.{string_of-renumbered}
use Rattle.xf_def_xpath.proofs.ForestLaws.{worth-of_renumbered}
use Rattle.xf_law_recalculation.specs.Agree.Forests.{text_over, over_second, renumbered_forest, TwoForestsButNumbers}
use Rattle.xf_law_recalculation.proofs.AgreeLemmas.ForestsMeet.{two_forests}

then-same : {A B C : Type 0} (g : A → B) (m : Option A) (k : A → Option C) (k' : B → Option C) → ((a : A) → k' (g a) ≡ k a) → (option_map g m >>= k') ≡ (m >>= k)
then-same g None k k' h = refl
then-same g (Some a) k k' h = h a

module _ (f : ℕ → ℕ) (same : IsRenumbering f) (functions : Functions) (most : Option ℕ) (given : Given) (model current : ℕ) (forest : Forest) where
  abbrev over : Setting
  over = setting_over functions most given (visits forest.nodes) model current

  abbrev other : Setting
  other = setting_over functions most (renumbered_given f given) (visits (map (renumbered f) forest.nodes)) model (f current)

  -- a node has the string value that it had
  strings : (n : ℕ) → other.strings (f n) ≡ over.strings n
  strings n = ap (string_value (f n)) (visits-renumbered f same forest.nodes) ∙ string_value-renumbered f same n (visits forest.nodes)

  pub text-renumbered : (expr : Expr) (c : Focus) → text_over other expr (renumbered_focus f c) ≡ text_over over expr c
  text-renumbered expr c =
      ap (λ m. m >>= string_of other) (worth-of_renumbered f same functions most given model current expr forest.nodes c)
      ∙ then-same (renumbered_value f) (meaning expr over c) (string_of over) (string_of other) (λ v. string_of-renumbered f same over other.strings strings v)

pub two_forests_but_numbers : TwoForestsButNumbers
two_forests_but_numbers most scope documents indexes event first second f known reads looks expr current c same around agree covered here node r l =
    two_forests most scope (map (renumbered_document f) documents) indexes (option_map (map (renumbered_property f)) event) first (renumbered_forest f second) known reads looks expr (f current) (renumbered_focus f c) around agree covered here node r l
    ∙ text-renumbered f same scope.functions (Some most) (over_second scope documents indexes event).given scope.model current second expr c

-- The induction over expressions for three folds at once: a fact that each three levels keep holds of the three folds.
use Rattle.std.proofs.Common.{sym, ap, ◌∙◌, subst}
use Rattle.xf_def_syntax.specs.declared.expr.Expr.{Expr}
use Rattle.xf_def_syntax.specs.declared.expr.Step.{Step}
use Rattle.xf_def_syntax.specs.declared.expr.Link.{Link}
use Rattle.xf_def_syntax.specs.declared.expr.Expr.TheOpen.{Expr-F, Link-F, Step-F}
use Rattle.xf_def_syntax.specs.declared.expr.Expr.TheFolds.{fold-Expr, fold-Link, fold-Step, fold-roll-Expr, fold-roll-Link, fold-roll-Step, map-Expr, map-Link, map-Step, ind-Expr}
use Rattle.xf_def_syntax.specs.declared.expr.Expr.TheViews.{roll-Expr, roll-Link, roll-Step}
use Rattle.xf_def_xpath.proofs.Keeps.{fuse-Expr, fuse-Link, fuse-Step}

module _ (A A' A'' : Type 0) (step : Expr-F A A' A'' → A) (step' : Link-F A A' A'' → A') (step'' : Step-F A A' A'' → A'')
    (B B' B'' : Type 0) (other : Expr-F B B' B'' → B) (other' : Link-F B B' B'' → B') (other'' : Step-F B B' B'' → B'')
    (C C' C'' : Type 0) (third : Expr-F C C' C'' → C) (third' : Link-F C C' C'' → C') (third'' : Step-F C C' C'' → C'')
    (P : A → B → C → Type 0) (P' : A' → B' → C' → Type 0) (P'' : A'' → B'' → C'' → Type 0) where
  abbrev one : Expr → A
  one = fold-Expr A A' A'' step step' step''

  abbrev one_link : Link → A'
  one_link = fold-Link A A' A'' step step' step''

  abbrev one_step : Step → A''
  one_step = fold-Step A A' A'' step step' step''

  abbrev two : Expr → B
  two = fold-Expr B B' B'' other other' other''

  abbrev two_link : Link → B'
  two_link = fold-Link B B' B'' other other' other''

  abbrev two_step : Step → B''
  two_step = fold-Step B B' B'' other other' other''

  abbrev three : Expr → C
  three = fold-Expr C C' C'' third third' third''

  abbrev three_link : Link → C'
  three_link = fold-Link C C' C'' third third' third''

  abbrev three_step : Step → C''
  three_step = fold-Step C C' C'' third third' third''

  abbrev pub Triple : Type 0
  Triple = (a : A) × (b : B) × (c : C) × P a b c

  abbrev pub LinkTriple : Type 0
  LinkTriple = (a : A') × (b : B') × (c : C') × P' a b c

  abbrev pub StepTriple : Type 0
  StepTriple = (a : A'') × (b : B'') × (c : C'') × P'' a b c

  abbrev SuchExpr : Type 0
  SuchExpr = (e : Expr) × P (one e) (two e) (three e)

  abbrev SuchLink : Type 0
  SuchLink = (e : Link) × P' (one_link e) (two_link e) (three_link e)

  abbrev SuchStep : Type 0
  SuchStep = (e : Step) × P'' (one_step e) (two_step e) (three_step e)

  abbrev to : SuchExpr → Triple
  to e = (one e.0, two e.0, three e.0, e.1)

  abbrev to_link : SuchLink → LinkTriple
  to_link e = (one_link e.0, two_link e.0, three_link e.0, e.1)

  abbrev to_step : SuchStep → StepTriple
  to_step e = (one_step e.0, two_step e.0, three_step e.0, e.1)

  abbrev bare : Expr-F SuchExpr SuchLink SuchStep → Expr-F Expr Link Step
  bare y = map-Expr SuchExpr SuchLink SuchStep Expr Link Step (λ e. e.0) (λ e. e.0) (λ e. e.0) y

  abbrev bare_link : Link-F SuchExpr SuchLink SuchStep → Link-F Expr Link Step
  bare_link y = map-Link SuchExpr SuchLink SuchStep Expr Link Step (λ e. e.0) (λ e. e.0) (λ e. e.0) y

  abbrev bare_step : Step-F SuchExpr SuchLink SuchStep → Step-F Expr Link Step
  bare_step y = map-Step SuchExpr SuchLink SuchStep Expr Link Step (λ e. e.0) (λ e. e.0) (λ e. e.0) y

  module _ (keeps : (y : Expr-F Triple LinkTriple StepTriple) → P (step (map-Expr Triple LinkTriple StepTriple A A' A'' (λ e. e.0) (λ e. e.0) (λ e. e.0) y)) (other (map-Expr Triple LinkTriple StepTriple B B' B'' (λ e. e.1) (λ e. e.1) (λ e. e.1) y)) (third (map-Expr Triple LinkTriple StepTriple C C' C'' (λ e. e.2) (λ e. e.2) (λ e. e.2) y)))
      (keeps' : (y : Link-F Triple LinkTriple StepTriple) → P' (step' (map-Link Triple LinkTriple StepTriple A A' A'' (λ e. e.0) (λ e. e.0) (λ e. e.0) y)) (other' (map-Link Triple LinkTriple StepTriple B B' B'' (λ e. e.1) (λ e. e.1) (λ e. e.1) y)) (third' (map-Link Triple LinkTriple StepTriple C C' C'' (λ e. e.2) (λ e. e.2) (λ e. e.2) y)))
      (keeps'' : (y : Step-F Triple LinkTriple StepTriple) → P'' (step'' (map-Step Triple LinkTriple StepTriple A A' A'' (λ e. e.0) (λ e. e.0) (λ e. e.0) y)) (other'' (map-Step Triple LinkTriple StepTriple B B' B'' (λ e. e.1) (λ e. e.1) (λ e. e.1) y)) (third'' (map-Step Triple LinkTriple StepTriple C C' C'' (λ e. e.2) (λ e. e.2) (λ e. e.2) y)))
    where
      at_expr : (y : Expr-F SuchExpr SuchLink SuchStep) → P (one (roll-Expr (bare y))) (two (roll-Expr (bare y))) (three (roll-Expr (bare y)))
      at_expr y =
          subst (λ a. P a (two (roll-Expr (bare y))) (three (roll-Expr (bare y)))) (sym (fold-roll-Expr A A' A'' step step' step'' (bare y) ∙ ap step (fuse-Expr {X = SuchExpr} {X' = SuchLink} {X'' = SuchStep} (λ e. e.0) (λ e. e.0) (λ e. e.0) one one_link one_step y ∙ sym (fuse-Expr to to_link to_step (λ e. e.0) (λ e. e.0) (λ e. e.0) y))))
          (subst (λ b. P (step (map-Expr Triple LinkTriple StepTriple A A' A'' (λ e. e.0) (λ e. e.0) (λ e. e.0) (map-Expr SuchExpr SuchLink SuchStep Triple LinkTriple StepTriple to to_link to_step y))) b (three (roll-Expr (bare y)))) (sym (fold-roll-Expr B B' B'' other other' other'' (bare y) ∙ ap other (fuse-Expr {X = SuchExpr} {X' = SuchLink} {X'' = SuchStep} (λ e. e.0) (λ e. e.0) (λ e. e.0) two two_link two_step y ∙ sym (fuse-Expr to to_link to_step (λ e. e.1) (λ e. e.1) (λ e. e.1) y))))
          (subst (λ c. P (step (map-Expr Triple LinkTriple StepTriple A A' A'' (λ e. e.0) (λ e. e.0) (λ e. e.0) (map-Expr SuchExpr SuchLink SuchStep Triple LinkTriple StepTriple to to_link to_step y))) (other (map-Expr Triple LinkTriple StepTriple B B' B'' (λ e. e.1) (λ e. e.1) (λ e. e.1) (map-Expr SuchExpr SuchLink SuchStep Triple LinkTriple StepTriple to to_link to_step y))) c) (sym (fold-roll-Expr C C' C'' third third' third'' (bare y) ∙ ap third (fuse-Expr {X = SuchExpr} {X' = SuchLink} {X'' = SuchStep} (λ e. e.0) (λ e. e.0) (λ e. e.0) three three_link three_step y ∙ sym (fuse-Expr to to_link to_step (λ e. e.2) (λ e. e.2) (λ e. e.2) y))))
          (keeps (map-Expr SuchExpr SuchLink SuchStep Triple LinkTriple StepTriple to to_link to_step y))))

      at_link : (y : Link-F SuchExpr SuchLink SuchStep) → P' (one_link (roll-Link (bare_link y))) (two_link (roll-Link (bare_link y))) (three_link (roll-Link (bare_link y)))
      at_link y =
          subst (λ a. P' a (two_link (roll-Link (bare_link y))) (three_link (roll-Link (bare_link y)))) (sym (fold-roll-Link A A' A'' step step' step'' (bare_link y) ∙ ap step' (fuse-Link {X = SuchExpr} {X' = SuchLink} {X'' = SuchStep} (λ e. e.0) (λ e. e.0) (λ e. e.0) one one_link one_step y ∙ sym (fuse-Link to to_link to_step (λ e. e.0) (λ e. e.0) (λ e. e.0) y))))
          (subst (λ b. P' (step' (map-Link Triple LinkTriple StepTriple A A' A'' (λ e. e.0) (λ e. e.0) (λ e. e.0) (map-Link SuchExpr SuchLink SuchStep Triple LinkTriple StepTriple to to_link to_step y))) b (three_link (roll-Link (bare_link y)))) (sym (fold-roll-Link B B' B'' other other' other'' (bare_link y) ∙ ap other' (fuse-Link {X = SuchExpr} {X' = SuchLink} {X'' = SuchStep} (λ e. e.0) (λ e. e.0) (λ e. e.0) two two_link two_step y ∙ sym (fuse-Link to to_link to_step (λ e. e.1) (λ e. e.1) (λ e. e.1) y))))
          (subst (λ c. P' (step' (map-Link Triple LinkTriple StepTriple A A' A'' (λ e. e.0) (λ e. e.0) (λ e. e.0) (map-Link SuchExpr SuchLink SuchStep Triple LinkTriple StepTriple to to_link to_step y))) (other' (map-Link Triple LinkTriple StepTriple B B' B'' (λ e. e.1) (λ e. e.1) (λ e. e.1) (map-Link SuchExpr SuchLink SuchStep Triple LinkTriple StepTriple to to_link to_step y))) c) (sym (fold-roll-Link C C' C'' third third' third'' (bare_link y) ∙ ap third' (fuse-Link {X = SuchExpr} {X' = SuchLink} {X'' = SuchStep} (λ e. e.0) (λ e. e.0) (λ e. e.0) three three_link three_step y ∙ sym (fuse-Link to to_link to_step (λ e. e.2) (λ e. e.2) (λ e. e.2) y))))
          (keeps' (map-Link SuchExpr SuchLink SuchStep Triple LinkTriple StepTriple to to_link to_step y))))

      at_step : (y : Step-F SuchExpr SuchLink SuchStep) → P'' (one_step (roll-Step (bare_step y))) (two_step (roll-Step (bare_step y))) (three_step (roll-Step (bare_step y)))
      at_step y =
          subst (λ a. P'' a (two_step (roll-Step (bare_step y))) (three_step (roll-Step (bare_step y)))) (sym (fold-roll-Step A A' A'' step step' step'' (bare_step y) ∙ ap step'' (fuse-Step {X = SuchExpr} {X' = SuchLink} {X'' = SuchStep} (λ e. e.0) (λ e. e.0) (λ e. e.0) one one_link one_step y ∙ sym (fuse-Step to to_link to_step (λ e. e.0) (λ e. e.0) (λ e. e.0) y))))
          (subst (λ b. P'' (step'' (map-Step Triple LinkTriple StepTriple A A' A'' (λ e. e.0) (λ e. e.0) (λ e. e.0) (map-Step SuchExpr SuchLink SuchStep Triple LinkTriple StepTriple to to_link to_step y))) b (three_step (roll-Step (bare_step y)))) (sym (fold-roll-Step B B' B'' other other' other'' (bare_step y) ∙ ap other'' (fuse-Step {X = SuchExpr} {X' = SuchLink} {X'' = SuchStep} (λ e. e.0) (λ e. e.0) (λ e. e.0) two two_link two_step y ∙ sym (fuse-Step to to_link to_step (λ e. e.1) (λ e. e.1) (λ e. e.1) y))))
          (subst (λ c. P'' (step'' (map-Step Triple LinkTriple StepTriple A A' A'' (λ e. e.0) (λ e. e.0) (λ e. e.0) (map-Step SuchExpr SuchLink SuchStep Triple LinkTriple StepTriple to to_link to_step y))) (other'' (map-Step Triple LinkTriple StepTriple B B' B'' (λ e. e.1) (λ e. e.1) (λ e. e.1) (map-Step SuchExpr SuchLink SuchStep Triple LinkTriple StepTriple to to_link to_step y))) c) (sym (fold-roll-Step C C' C'' third third' third'' (bare_step y) ∙ ap third'' (fuse-Step {X = SuchExpr} {X' = SuchLink} {X'' = SuchStep} (λ e. e.0) (λ e. e.0) (λ e. e.0) three three_link three_step y ∙ sym (fuse-Step to to_link to_step (λ e. e.2) (λ e. e.2) (λ e. e.2) y))))
          (keeps'' (map-Step SuchExpr SuchLink SuchStep Triple LinkTriple StepTriple to to_link to_step y))))

      pub triple_keeps : (e : Expr) → P (one e) (two e) (three e)
      triple_keeps = ind-Expr (λ e. P (one e) (two e) (three e)) (λ l. P' (one_link l) (two_link l) (three_link l)) (λ s. P'' (one_step s) (two_step s) (three_step s))
          (λ x y is. subst (λ z. P (one (roll-Expr z)) (two (roll-Expr z)) (three (roll-Expr z))) is (at_expr y))
          (λ x y is. subst (λ z. P' (one_link (roll-Link z)) (two_link (roll-Link z)) (three_link (roll-Link z))) is (at_link y))
          (λ x y is. subst (λ z. P'' (one_step (roll-Step z)) (two_step (roll-Step z)) (three_step (roll-Step z))) is (at_step y))

-- The induction over expressions: a fact that each level keeps holds of the whole fold.
use Rattle.std.proofs.Common.{◌≡◌, List, [], ◌∷◌, map, refl, sym, ap, ◌∙◌, subst}
use Rattle.xf_def_syntax.specs.declared.expr.Expr.{Expr}
use Rattle.xf_def_syntax.specs.declared.expr.Step.{Step}
use Rattle.xf_def_syntax.specs.declared.expr.Link.{Link}
use Rattle.xf_def_syntax.specs.declared.expr.Expr.TheOpen.{Expr-F, Link-F, Step-F}
use Rattle.xf_def_syntax.specs.declared.expr.Expr.TheFolds.{fold-Expr, fold-Link, fold-Step, fold-roll-Expr, fold-roll-Link, fold-roll-Step, map-Expr, map-Link, map-Step, ind-Expr}
use Rattle.xf_def_syntax.specs.declared.expr.Expr.TheViews.{roll-Expr, roll-Link, roll-Step}

pub map-twice : {X Y Z : Type 0} (f : X → Y) (g : Y → Z) (xs : List X) → map g (map f xs) ≡ map (λ x. g (f x)) xs
map-twice f g [] = refl
map-twice f g (x ∷ xs) = ap (λ ys. g (f x) ∷ ys) (map-twice f g xs)

module _ {X X' X'' Y Y' Y'' Z Z' Z'' : Type 0} (f : X → Y) (f' : X' → Y') (f'' : X'' → Y'') (g : Y → Z) (g' : Y' → Z') (g'' : Y'' → Z'') where
  pub fuse-Expr : (level : Expr-F X X' X'') →
      map-Expr Y Y' Y'' Z Z' Z'' g g' g'' (map-Expr X X' X'' Y Y' Y'' f f' f'' level)
      ≡ map-Expr X X' X'' Z Z' Z'' (λ x. g (f x)) (λ x. g' (f' x)) (λ x. g'' (f'' x)) level
  fuse-Expr (Expr-F.Number place k) = refl
  fuse-Expr (Expr-F.Literal place text) = refl
  fuse-Expr (Expr-F.Call place code args) = ap (Expr-F.Call place code) (map-twice f g args)
  fuse-Expr (Expr-F.Negated place signs operand) = refl
  fuse-Expr (Expr-F.Chain first links) = ap (Expr-F.Chain (g (f first))) (map-twice f' g' links)
  fuse-Expr (Expr-F.Filter first predicates) = ap (Expr-F.Filter (g (f first))) (map-twice f g predicates)
  fuse-Expr (Expr-F.Path place start steps) = ap (Expr-F.Path place start) (map-twice f'' g'' steps)
  fuse-Expr (Expr-F.From first steps) = ap (Expr-F.From (g (f first))) (map-twice f'' g'' steps)

  pub fuse-Link : (level : Link-F X X' X'') →
      map-Link Y Y' Y'' Z Z' Z'' g g' g'' (map-Link X X' X'' Y Y' Y'' f f' f'' level)
      ≡ map-Link X X' X'' Z Z' Z'' (λ x. g (f x)) (λ x. g' (f' x)) (λ x. g'' (f'' x)) level
  fuse-Link level = refl

  pub fuse-Step : (level : Step-F X X' X'') →
      map-Step Y Y' Y'' Z Z' Z'' g g' g'' (map-Step X X' X'' Y Y' Y'' f f' f'' level)
      ≡ map-Step X X' X'' Z Z' Z'' (λ x. g (f x)) (λ x. g' (f' x)) (λ x. g'' (f'' x)) level
  fuse-Step level = ap (λ ps. record { place = level.place; is_below = level.is_below; is_written = level.is_written; axis = level.axis; test = level.test; predicates = ps }) (map-twice f g level.predicates)

module _ (A A' A'' : Type 0) (step : Expr-F A A' A'' → A) (step' : Link-F A A' A'' → A') (step'' : Step-F A A' A'' → A'') where
  abbrev whole : Expr → A
  whole = fold-Expr A A' A'' step step' step''

  abbrev whole_link : Link → A'
  whole_link = fold-Link A A' A'' step step' step''

  abbrev whole_step : Step → A''
  whole_step = fold-Step A A' A'' step step' step''

  module _ (P : A → Type 0) (P' : A' → Type 0) (P'' : A'' → Type 0)
      (keeps : (y : Expr-F ((a : A) × P a) ((a : A') × P' a) ((a : A'') × P'' a)) → P (step (map-Expr ((a : A) × P a) ((a : A') × P' a) ((a : A'') × P'' a) A A' A'' (λ e. e.0) (λ e. e.0) (λ e. e.0) y)))
      (keeps' : (y : Link-F ((a : A) × P a) ((a : A') × P' a) ((a : A'') × P'' a)) → P' (step' (map-Link ((a : A) × P a) ((a : A') × P' a) ((a : A'') × P'' a) A A' A'' (λ e. e.0) (λ e. e.0) (λ e. e.0) y)))
      (keeps'' : (y : Step-F ((a : A) × P a) ((a : A') × P' a) ((a : A'') × P'' a)) → P'' (step'' (map-Step ((a : A) × P a) ((a : A') × P' a) ((a : A'') × P'' a) A A' A'' (λ e. e.0) (λ e. e.0) (λ e. e.0) y)))
    where
      abbrev SuchExpr : Type 0
      SuchExpr = (e : Expr) × P (whole e)

      abbrev SuchLink : Type 0
      SuchLink = (e : Link) × P' (whole_link e)

      abbrev SuchStep : Type 0
      SuchStep = (e : Step) × P'' (whole_step e)

      abbrev to_expr : SuchExpr → (a : A) × P a
      to_expr e = (whole e.0, e.1)

      abbrev to_link : SuchLink → (a : A') × P' a
      to_link e = (whole_link e.0, e.1)

      abbrev to_step : SuchStep → (a : A'') × P'' a
      to_step e = (whole_step e.0, e.1)

      at_expr : (y : Expr-F SuchExpr SuchLink SuchStep) → P (whole (roll-Expr (map-Expr SuchExpr SuchLink SuchStep Expr Link Step (λ e. e.0) (λ e. e.0) (λ e. e.0) y)))
      at_expr y =
          subst P (sym (fold-roll-Expr A A' A'' step step' step'' (map-Expr SuchExpr SuchLink SuchStep Expr Link Step (λ e. e.0) (λ e. e.0) (λ e. e.0) y)
          ∙ ap step (fuse-Expr {X = SuchExpr} {X' = SuchLink} {X'' = SuchStep} (λ e. e.0) (λ e. e.0) (λ e. e.0) whole whole_link whole_step y
          ∙ sym (fuse-Expr to_expr to_link to_step (λ e. e.0) (λ e. e.0) (λ e. e.0) y))))
          (keeps (map-Expr SuchExpr SuchLink SuchStep ((a : A) × P a) ((a : A') × P' a) ((a : A'') × P'' a) to_expr to_link to_step y))

      at_link : (y : Link-F SuchExpr SuchLink SuchStep) → P' (whole_link (roll-Link (map-Link SuchExpr SuchLink SuchStep Expr Link Step (λ e. e.0) (λ e. e.0) (λ e. e.0) y)))
      at_link y =
          subst P' (sym (fold-roll-Link A A' A'' step step' step'' (map-Link SuchExpr SuchLink SuchStep Expr Link Step (λ e. e.0) (λ e. e.0) (λ e. e.0) y)
          ∙ ap step' (fuse-Link {X = SuchExpr} {X' = SuchLink} {X'' = SuchStep} (λ e. e.0) (λ e. e.0) (λ e. e.0) whole whole_link whole_step y
          ∙ sym (fuse-Link to_expr to_link to_step (λ e. e.0) (λ e. e.0) (λ e. e.0) y))))
          (keeps' (map-Link SuchExpr SuchLink SuchStep ((a : A) × P a) ((a : A') × P' a) ((a : A'') × P'' a) to_expr to_link to_step y))

      at_step : (y : Step-F SuchExpr SuchLink SuchStep) → P'' (whole_step (roll-Step (map-Step SuchExpr SuchLink SuchStep Expr Link Step (λ e. e.0) (λ e. e.0) (λ e. e.0) y)))
      at_step y =
          subst P'' (sym (fold-roll-Step A A' A'' step step' step'' (map-Step SuchExpr SuchLink SuchStep Expr Link Step (λ e. e.0) (λ e. e.0) (λ e. e.0) y)
          ∙ ap step'' (fuse-Step {X = SuchExpr} {X' = SuchLink} {X'' = SuchStep} (λ e. e.0) (λ e. e.0) (λ e. e.0) whole whole_link whole_step y
          ∙ sym (fuse-Step to_expr to_link to_step (λ e. e.0) (λ e. e.0) (λ e. e.0) y))))
          (keeps'' (map-Step SuchExpr SuchLink SuchStep ((a : A) × P a) ((a : A') × P' a) ((a : A'') × P'' a) to_expr to_link to_step y))

      pub fold_keeps : (e : Expr) → P (whole e)
      fold_keeps = ind-Expr (λ e. P (whole e)) (λ l. P' (whole_link l)) (λ s. P'' (whole_step s))
          (λ x y is. subst (λ z. P (whole (roll-Expr z))) is (at_expr y))
          (λ x y is. subst (λ z. P' (whole_link (roll-Link z))) is (at_link y))
          (λ x y is. subst (λ z. P'' (whole_step (roll-Step z))) is (at_step y))

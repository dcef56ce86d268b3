use Rattle.std.proofs.Common.{◌≡◌, refl, sym, ap, subst, inl, inr}
use Rattle.std.proofs.lemmas.Result.{IfOk-weaker}
use Rattle.xf_def_syntax.specs.declared.expr.Operator.{Operator}
use Rattle.xf_def_syntax.specs.declared.expr.Operator.TheVariants.{Or, And, Equal, NotEqual, Less, LessOrEqual, Greater, GreaterOrEqual, Add, Subtract, Multiply, Divide, Modulo, Union}
use Rattle.xf_def_xpath.specs.Asked.{Asked, as_truth, both}
use Rattle.xf_def_xpath.specs.AskedCalls.{asked_by_both, computed, link_asked}
use Rattle.xf_def_xpath.specs.Setting.{Setting}
use Rattle.xf_eval_dependencies.specs.Asked.Tells.{Tells}
use Rattle.xf_eval_dependencies.proofs.expression.operated.Goals as goal

comparison-asks : (o : Operator) (s : Setting) (a b : Asked) → (o ≡ Or → ⊥) → (o ≡ And → ⊥) → (o ≡ Add → ⊥) → (o ≡ Subtract → ⊥) → (o ≡ Multiply → ⊥) → (o ≡ Divide → ⊥) → (o ≡ Modulo → ⊥) → (o ≡ Union → ⊥) → link_asked o s a b ≡ asked_by_both s a b
comparison-asks Or s a b c d e f g h i j = absurd (c refl)
comparison-asks And s a b c d e f g h i j = absurd (d refl)
comparison-asks Add s a b c d e f g h i j = absurd (e refl)
comparison-asks Subtract s a b c d e f g h i j = absurd (f refl)
comparison-asks Multiply s a b c d e f g h i j = absurd (g refl)
comparison-asks Divide s a b c d e f g h i j = absurd (h refl)
comparison-asks Modulo s a b c d e f g h i j = absurd (i refl)
comparison-asks Union s a b c d e f g h i j = absurd (j refl)
comparison-asks Equal s a b c d e f g h i j = refl
comparison-asks NotEqual s a b c d e f g h i j = refl
comparison-asks Less s a b c d e f g h i j = refl
comparison-asks LessOrEqual s a b c d e f g h i j = refl
comparison-asks Greater s a b c d e f g h i j = refl
comparison-asks GreaterOrEqual s a b c d e f g h i j = refl

pub returns-in_ok-both-in-Or-clause-tells : goal.returns-in_ok-both-in-Or-clause-tells
returns-in_ok-both-in-Or-clause-tells c =
    let nodes = c.args.forest.now.forest.nodes in
    λ s all a b t u.
    let same : link_asked c.args.operator s a b ≡ as_truth (both a b) =
    elim c.in-Or.is [
      | inl h ↦ ap (λ o. link_asked o s a b) h
      | inr h ↦ ap (λ o. link_asked o s a b) h
    ] in
    subst (Tells nodes c.as_truth.result) (sym same) (c.as_truth.ensures.tells nodes _ (c.in_ok-both-in-Or.ensures.tells nodes a b t u))

pub returns-in-Add-clause-tells : goal.returns-in-Add-clause-tells
returns-in-Add-clause-tells c =
    let nodes = c.args.forest.now.forest.nodes in
    IfOk-weaker c.computed.result _ _
    (λ told h s all a b t u.
    let same : link_asked c.args.operator s a b ≡ computed s a b =
    elim c.in-Add.is [
      | inl i ↦ ap (λ o. link_asked o s a b) i
      | inr r ↦ elim r [
        | inl i ↦ ap (λ o. link_asked o s a b) i
        | inr r ↦ elim r [
          | inl i ↦ ap (λ o. link_asked o s a b) i
          | inr r ↦ elim r [
            | inl i ↦ ap (λ o. link_asked o s a b) i
            | inr i ↦ ap (λ o. link_asked o s a b) i
          ]
        ]
      ]
    ] in
    subst (Tells nodes told) (sym same) (h s all a b t u))
    c.computed.ensures.tells

pub returns-in-Union-clause-tells : goal.returns-in-Union-clause-tells
returns-in-Union-clause-tells c =
    let nodes = c.args.forest.now.forest.nodes in
    IfOk-weaker c.either.result _ _ (λ told h s all a b t u. subst (λ o. Tells nodes told (link_asked o s a b)) (sym c.in-Union.is) (h s all a b t u)) c.either.ensures.tells

pub returns-in_default-clause-tells : goal.returns-in_default-clause-tells
returns-in_default-clause-tells c =
    let nodes = c.args.forest.now.forest.nodes in
    let d = c.in_default in
    IfOk-weaker c.compared.result _ _
    (λ told h s all a b t u. subst (Tells nodes told) (sym (comparison-asks c.args.operator s a b d.not-Or d.not-And d.not-Add d.not-Subtract d.not-Multiply d.not-Divide d.not-Modulo d.not-Union)) (h s all a b t u))
    c.compared.ensures.tells

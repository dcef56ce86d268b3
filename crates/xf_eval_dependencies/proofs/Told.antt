-- What is told of a call tells what is asked, where this is what is made of its parts.
use Rattle.std.proofs.Common.{◌≡◌, List, subst}
use Rattle.std.specs.Prelude.{Result, Ok, Err, IfOk}
use Rattle.xf_def_forest.specs.declared.content.Node.{Node}
use Rattle.xf_def_forest.specs.Visit.{Visit}
use Rattle.xf_def_xpath.specs.Asked.{Asked}
use Rattle.xf_def_xpath.specs.Setting.{Setting}
use Rattle.xf_eval_dependencies.specs.declared.asked.asked.Asked.{Asked as Told}
use Rattle.xf_eval_dependencies.specs.Asked.Tells.{Tells}

module _ (nodes : List Node) where
  abbrev Is : {E : Type 0} → Result Told E → Asked → Type 0
  Is r a = IfOk r (λ t. Tells nodes t a)

  pub tells-same : {E : Type 0} (r : Result Told E) (a b : Asked) → a ≡ b → Is r a → Is r b
  tells-same (Ok t) a b e h = subst (Tells nodes t) e h
  tells-same (Err x) a b e h = tt

  -- of one part
  pub tells-of : {E : Type 0} (r : Result Told E) (part : Told) (word : Asked → Asked) (a b : Asked) → word a ≡ b → Tells nodes part a →
      IfOk r (λ t. (x : Asked) → Tells nodes part x → Tells nodes t (word x)) → Is r b
  tells-of (Ok t) part word a b e p h = subst (Tells nodes t) e (h a p)
  tells-of (Err x) part word a b e p h = tt

  -- of one part in a setting
  pub tells-in : {E : Type 0} (r : Result Told E) (part : Told) (word : Setting → Asked → Asked) (s : Setting) (all : List Visit) (a b : Asked) → s.all ≡ all → word s a ≡ b → Tells nodes part a →
      IfOk r (λ t. (z : Setting) → z.all ≡ all → (x : Asked) → Tells nodes part x → Tells nodes t (word z x)) → Is r b
  tells-in (Ok t) part word s all a b i e p h = subst (Tells nodes t) e (h s i a p)
  tells-in (Err x) part word s all a b i e p h = tt

  -- of two parts
  pub tells-two : {E : Type 0} (r : Result Told E) (one other : Told) (word : Setting → Asked → Asked → Asked) (s : Setting) (all : List Visit) (a b : Asked) → s.all ≡ all → Tells nodes one a → Tells nodes other b →
      IfOk r (λ t. (z : Setting) → z.all ≡ all → (x y : Asked) → Tells nodes one x → Tells nodes other y → Tells nodes t (word z x y)) → Is r (word s a b)
  tells-two (Ok t) one other word s all a b i p q h = h s i a b p q
  tells-two (Err x) one other word s all a b i p q h = tt

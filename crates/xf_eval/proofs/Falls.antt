-- The parts of an expression are less deep than the whole.
use Rattle.std.proofs.Common.{◌≡◌, ◌<◌, List, [], ◌∷◌, rules}
use denote.Param.Weighed.{most}
use Rattle.xf_def_syntax.specs.declared.expr.Expr.{Expr, size-Expr, the_lemmas}
use Rattle.xf_def_syntax.specs.declared.expr.Expr.TheVariants.{Chain, Filter, From}
use Rattle.xf_def_syntax.specs.declared.expr.Link.{Link, size-Link}
use Rattle.xf_def_syntax.specs.declared.expr.Step.{Step, size-Step}

pub chain-falls : (e first : Expr) (links ls : List Link) → e ≡ Chain first links → ls ≡ links → most size-Link ls < size-Expr e
chain-falls e first links ls h i = search (rules, the_lemmas)

pub filter-falls : (e first : Expr) (predicates ps : List Expr) → e ≡ Filter first predicates → ps ≡ predicates → most size-Expr ps < size-Expr e
filter-falls e first predicates ps h i = search (rules, the_lemmas)

pub from-falls : (e first : Expr) (steps ss : List Step) → e ≡ From first steps → ss ≡ steps → most size-Step ss < size-Expr e
from-falls e first steps ss h i = search (rules, the_lemmas)

pub only-falls : (e first : Expr) (links ls : List Link) (l : Link) → e ≡ Chain first links → ls ≡ links → ls ≡ l ∷ [] → size-Link l < size-Expr e
only-falls e first links ls l h i j = search (rules, the_lemmas)

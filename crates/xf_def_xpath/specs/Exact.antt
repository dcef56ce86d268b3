-- The expressions of which the law is proved that they have one value over two forests that agree: no set in them is loose, and predicates
-- go by position alone, as in every computed expression.
use Rattle.std.specs.Prelude.{Bool, true, false, not, ◌&&◌, ◌||◌, List, [], ◌∷◌}
use Rattle.std.specs.List.{list_all}
use Rattle.xf_name.specs.declared.axis.Axis.{Axis}
use Rattle.xf_name.specs.declared.axis.Axis.TheVariants.{FollowingSibling, PrecedingSibling}
use Rattle.xf_def_syntax.specs.declared.expr.Expr.{Expr}
use Rattle.xf_def_syntax.specs.declared.expr.Expr.TheOpen.{Expr-F, Link-F, Step-F}
use Rattle.xf_def_syntax.specs.declared.expr.Expr.TheFolds.{fold-Expr}
use Rattle.xf_def_syntax.specs.declared.expr.Operator.{Operator}
use Rattle.xf_def_syntax.specs.declared.expr.Operator.TheVariants.{Union}
use Rattle.xf_def_syntax.specs.declared.expr.Test.{Test}
use Rattle.xf_def_xpath.specs.AskedSteps.{is_kind, meets_texts, goes_up}
use Rattle.xf_def_xpath.specs.Table.{Function, function_at}
use Rattle.xf_def_xpath.specs.Table as of

pub record Facts : Type 0 where
  -- the value depends on position and size alone
  pub is_placed : Bool
  -- the value is no set of nodes
  pub is_plain : Bool
  pub is_exact : Bool

pub record LinkFacts : Type 0 where
  pub operator : Operator
  pub right : Facts

abbrev pub facts : Bool → Bool → Bool → Facts
facts is_placed is_plain is_exact = record { is_placed = is_placed; is_plain = is_plain; is_exact = is_exact }

abbrev pub is_union : Operator → Bool
is_union Union = true
is_union operator = false

abbrev pub all_placed : List Facts → Bool
all_placed xs = list_all (λ x. x.is_placed) xs

abbrev pub all_exact : List Facts → Bool
all_exact xs = list_all (λ x. x.is_exact) xs

abbrev pub are_filled : List Facts → Bool
are_filled [] = false
are_filled (x ∷ xs) = true

-- the branches of `choose`, behind its condition
abbrev pub branches : List Facts → List Facts
branches [] = []
branches (x ∷ xs) = xs

-- of a function: whether it asks nothing but its arguments, which are written; whether it gives no nodes; whether the law covers it
abbrev pub call_facts : Function → List Facts → Facts
call_facts of.asking xs = facts (all_placed xs) true (all_exact xs)
call_facts of.plainly xs = facts (all_placed xs) true (all_exact xs)
call_facts of.owning xs = facts (are_filled xs && all_placed xs) true (all_exact xs)
call_facts of.boolean xs = facts (all_placed xs) true (all_exact xs)
call_facts of.not xs = facts (all_placed xs) true (all_exact xs)
call_facts (of.truth b) xs = facts true true true
call_facts of.choosing xs = facts (all_placed xs) true (all_exact xs && list_all (λ x. x.is_plain) (branches xs))
call_facts of.branching xs = facts (all_placed xs) true (all_exact xs)
call_facts of.number xs = facts (are_filled xs && all_placed xs) true (all_exact xs)
call_facts of.string xs = facts (are_filled xs && all_placed xs) true (all_exact xs)
call_facts of.last xs = facts true true true
call_facts of.position xs = facts true true true
call_facts of.current xs = facts false false true
call_facts of.instance xs = facts false false (all_placed xs)
call_facts of.event xs = facts false false false
call_facts of.index xs = facts false true false
call_facts function xs = facts false true (all_exact xs)

abbrev pub links_placed : List LinkFacts → Bool
links_placed links = list_all (λ l. l.right.is_placed && not (is_union l.operator)) links

abbrev pub links_plain : Bool → List LinkFacts → Bool
links_plain first [] = first
links_plain first (l ∷ ls) = links_plain (not (is_union l.operator)) ls

abbrev pub links_exact : List LinkFacts → Bool
links_exact links = list_all (λ l. l.right.is_exact) links

abbrev pub is_sibling : Axis → Bool
is_sibling FollowingSibling = true
is_sibling PrecedingSibling = true
is_sibling axis = false

-- a step that meets no texts, with predicates by position; after `//` one that goes down
abbrev pub step_exact : Bool → Axis → Test → List Facts → Bool
step_exact is_below axis test predicates =
    not (is_kind test && meets_texts axis) && not (is_below && (goes_up axis || is_sibling axis)) && all_placed predicates

abbrev pub expr_facts : Expr-F Facts LinkFacts Bool → Facts
expr_facts (Expr-F.Number place k) = facts true true true
expr_facts (Expr-F.Literal place text) = facts true true true
expr_facts (Expr-F.Call place code xs) = call_facts (function_at code) xs
expr_facts (Expr-F.Negated place signs x) = facts x.is_placed true x.is_exact
expr_facts (Expr-F.Chain first links) = facts (first.is_placed && links_placed links) (links_plain first.is_plain links) (first.is_exact && links_exact links)
expr_facts (Expr-F.Filter first xs) = facts false false (first.is_exact && all_placed xs)
expr_facts (Expr-F.Path place start steps) = facts false false (list_all (λ b. b) steps)
expr_facts (Expr-F.From first steps) = facts false false (first.is_exact && list_all (λ b. b) steps)

abbrev pub link_facts : Link-F Facts LinkFacts Bool → LinkFacts
link_facts link = record { operator = link.operator; right = link.right }

abbrev pub step_facts : Step-F Facts LinkFacts Bool → Bool
step_facts step = step_exact step.is_below step.axis step.test step.predicates

abbrev pub facts_of : Expr → Facts
facts_of = fold-Expr Facts LinkFacts Bool expr_facts link_facts step_facts

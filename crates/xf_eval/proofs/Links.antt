-- A chain of one operator, which compares: of what stands on its two sides.
use Rattle.std.proofs.Common.{◌≡◌, true, List, [], ◌∷◌, Option, Some, None, option_map, refl, ap, ◌∙◌}
use Rattle.xf_def_forest.specs.declared.content.Node.{Node}
use Rattle.xf_def_syntax.specs.declared.expr.Link.{Link}
use Rattle.xf_def_syntax.specs.declared.expr.Operator.{Operator}
use Rattle.xf_def_syntax.specs.declared.expr.Operator.TheVariants.{Or, And, Equal, NotEqual, Less, LessOrEqual, Greater, GreaterOrEqual, Add, Subtract, Multiply, Divide, Modulo, Union}
use Rattle.xf_funcs.specs.Called.{called}
use Rattle.xf_def_xpath.specs.declared.context.Context.{Context}
use Rattle.xf_def_xpath.specs.declared.value.Value.{Value}
use Rattle.xf_def_xpath.specs.declared.value.Value.TheVariants.{Truth}
use Rattle.xf_def_xpath.specs.Comparisons.{compared}
use Rattle.xf_def_xpath.specs.Given.{Given}
use Rattle.xf_def_xpath.specs.Setting.{Focus, Meaning, Setting, ◌>>=◌}
use Rattle.xf_def_xpath.specs.Meaning.{meaning, meaning_of_link, setting_of}
use Rattle.xf_def_xpath.specs.Operators.{chained, linked}
use Rattle.xf_eval.specs.Answered.{compares}
use Rattle.xf_eval.specs.Worth.{setting_in}
use Rattle.xf_eval.proofs.Runs.{chain-goes}
use Rattle.xf_eval.proofs.Settings.{compared-same}

linked-compares : (o : Operator) (left : Value) (m : Meaning) (s : Setting) (c : Focus) → compares o ≡ true → linked o left m s c ≡ (m s c >>= λ right. option_map Truth (compared s o left right))
linked-compares Equal left m s c h = refl
linked-compares NotEqual left m s c h = refl
linked-compares Less left m s c h = refl
linked-compares LessOrEqual left m s c h = refl
linked-compares Greater left m s c h = refl
linked-compares GreaterOrEqual left m s c h = refl
linked-compares Or left m s c h = cc h
linked-compares And left m s c h = cc h
linked-compares Add left m s c h = cc h
linked-compares Subtract left m s c h = cc h
linked-compares Multiply left m s c h = cc h
linked-compares Divide left m s c h = cc h
linked-compares Modulo left m s c h = cc h
linked-compares Union left m s c h = cc h

itself : (m : Option Value) → (m >>= λ v. Some v) ≡ m
itself None = refl
itself (Some v) = refl

pub link-compares : (link : Link) (left : Value) (s : Setting) (c : Focus) → compares link.operator ≡ true →
    chained (meaning_of_link link ∷ []) left s c ≡ (meaning link.right s c >>= λ right. option_map Truth (compared s link.operator left right))
link-compares link left s c h = chain-goes s c link [] left ∙ itself (linked link.operator left (meaning link.right) s c) ∙ linked-compares link.operator left (meaning link.right) s c h

pub link-compared : (link : Link) (left right : Value) (given : Given) (nodes : List Node) (context : Context) (c : Focus) → compares link.operator ≡ true → meaning link.right (setting_of called given nodes context) c ≡ Some right →
    chained (meaning_of_link link ∷ []) left (setting_of called given nodes context) c ≡ option_map Truth (compared (setting_in given.decimals nodes) link.operator left right)
link-compared link left right given nodes context c h e =
    let s = setting_of called given nodes context in
    link-compares link left s c h ∙ ap (λ m. m >>= λ r. option_map Truth (compared s link.operator left r)) e ∙ ap (option_map Truth) (compared-same given nodes context link.operator left right)

-- a right side that is too long
pub link-long : (link : Link) (left : Value) (s : Setting) (c : Focus) → compares link.operator ≡ true → meaning link.right s c ≡ None → chained (meaning_of_link link ∷ []) left s c ≡ None
link-long link left s c h e = link-compares link left s c h ∙ ap (λ m. m >>= λ r. option_map Truth (compared s link.operator left r)) e

use Rattle.std.proofs.Common.{◌≡◌, ℕ, ◌<◌, ◌≤◌, List, [], ◌∷◌, length, map, get_or, ap, ◌∙◌, refl, zero, suc, arith, rules, tests}
use Rattle.xf_def_xpath.specs.Table.{Function, function_at, functions}
use Rattle.xf_def_xpath.specs.Table as of
use Rattle.xf_eval.specs.declared.kinds.Kind.{Kind}
use Rattle.xf_eval.specs.declared.kinds.TheConstants.{KINDS}
use Rattle.xf_eval.specs.Kinds.{function_in}
use Rattle.xf_eval.proofs.kinds.kind_of.Goals as goal

within : (kinds : List Kind) (place : ℕ) (other : Kind) → place < length kinds → function_in (get_or kinds place other) ≡ get_or (map function_in kinds) place of.plainly
within [] place other h = absurd (omega arith)
within (kind ∷ kinds) zero other h = refl
within (kind ∷ kinds) (suc place) other h = within kinds place other (omega arith)

past : (fs : List Function) (at : ℕ) → length fs ≤ at → of.plainly ≡ get_or fs at of.plainly
past [] at h = refl
past (f ∷ fs) zero h = absurd (omega arith)
past (f ∷ fs) (suc at) h = past fs at (omega arith)

pub returns-in-Some : goal.returns-in-Some
returns-in-Some c =
    let small : c.args.code < 45 = search (rules, tests) in
    ap function_in c.in-Some.ensures.lookup.1 ∙ within KINDS c.args.code c.in-Some.kind.now small

pub returns-in-None : goal.returns-in-None
returns-in-None c =
    let large : 45 ≤ c.args.code = omega (arith, c.in-None.ensures.lookup.3) in
    past functions c.args.code large

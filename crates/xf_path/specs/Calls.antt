-- Function calls (XPath 1.0, section 3.2): which functions there are, and what they take, is in the table of functions; b are the
-- bindings of the form.
use Rattle.std.specs.Prelude.{ℕ, zero, suc, ◌||◌, ◌&&◌, ◌==◌, not, nat_le, Bool, true, false, if◌then◌else◌, List, [], ◌∷◌, ◌++◌, length, codes, Option, Some, None, Result, Ok, Err}
use Rattle.std.specs.List.{list_all}
use Rattle.std.specs.Str.{bytes_eq}
use Rattle.xf_base.specs.Limits.{expression_limit}
use Rattle.xf_table.specs.Rows.{Entry, code_of}
use Rattle.xf_table.specs.Contents.{function_entries}
use Rattle.xf_name.specs.Bindings.{Bindings, resolved}
use Rattle.xf_name.specs.declared.qname.QName.{QName}
use Rattle.xf_name.specs.declared.fault.NameFault.{NameFault}
use Rattle.xf_name.specs.declared.fault.NameFault.TheVariants as name
use Rattle.xf_def_syntax.specs.declared.expr.Operator.{Operator}
use Rattle.xf_def_syntax.specs.declared.expr.Operator.TheVariants as o
use Rattle.xf_def_syntax.specs.declared.expr.Expr.{Expr}
use Rattle.xf_def_syntax.specs.declared.expr.Expr.TheVariants as e
use Rattle.xf_def_syntax.specs.declared.expr.Expr.TheOpen.{Expr-F, Link-F}
use Rattle.xf_def_syntax.specs.declared.expr.Expr.TheFolds.{fold-Expr, fold-Link}
use Rattle.xf_def_syntax.specs.declared.expr.Link.{Link}
use Rattle.xf_path.specs.declared.fault.ExprKind.{ExprKind}
use Rattle.xf_path.specs.declared.fault.ExprKind.TheVariants as kind
use Rattle.xf_path.specs.declared.token.Kind.{Kind}
use Rattle.xf_path.specs.declared.token.Kind.TheVariants as k
use Rattle.xf_path.specs.Reading.{Rule, place_of, text_of, ◌>>=◌, ◌>>◌, pure, next_kind, pass_next, close, refuse, refuse_at}

-- ---- the table

-- the entry with a code
abbrev pub entry_at : List Entry → ℕ → Option Entry
entry_at [] code = None
entry_at (entry ∷ entries) zero = Some entry
entry_at (entry ∷ entries) (suc code) = entry_at entries code

-- what a name is that the table has not: one whose answer hangs on the clock or on chance (XForms 1.1, sections 7.7 and 7.9), or unknown
abbrev pub is_clock : List ℕ → Bool
is_clock text = bytes_eq text (codes "now") || bytes_eq text (codes "local-date") || bytes_eq text (codes "local-dateTime") || bytes_eq text (codes "random")

abbrev pub unresolved : Result QName NameFault → ExprKind
unresolved (Ok name) = kind.UnknownFunction
unresolved (Err name.PrefixUnknown) = kind.Prefix
unresolved (Err _) = kind.Syntax

abbrev pub unknown : Bindings → List ℕ → ExprKind
unknown b text = if is_clock text then kind.ClockOrRandom else unresolved (resolved b text 0)

-- ---- kinds of arguments, by their syntax

abbrev pub is_union : Operator → Bool
is_union o.Union = true
is_union _ = false

-- an entry of this mark: 1 takes a node set, 2 may give nodes
abbrev pub is_marked : ℕ → Option Entry → Bool
is_marked mark None = false
is_marked mark (Some entry) = entry.marks == mark

-- whether one of the links is of the union
abbrev pub any_union : List Bool → Bool
any_union [] = false
any_union (union ∷ unions) = union || any_union unions

-- whether the expression may give nodes, as a path, a union and a call of a function of nodes
abbrev pub expr_may_give : Expr-F Bool Bool Bool → Bool
expr_may_give (Expr-F.Number place number) = false
expr_may_give (Expr-F.Literal place text) = false
expr_may_give (Expr-F.Call place code arguments) = is_marked 2 (entry_at function_entries code)
expr_may_give (Expr-F.Negated place signs inner) = false
expr_may_give (Expr-F.Chain first unions) = any_union unions
expr_may_give (Expr-F.Filter first predicates) = true
expr_may_give (Expr-F.Path place start steps) = true
expr_may_give (Expr-F.From first steps) = true

abbrev pub link_is_union : Link-F Bool Bool Bool → Bool
link_is_union link = is_union link.operator

abbrev pub may_give_nodes : Expr → Bool
may_give_nodes = fold-Expr Bool Bool Bool expr_may_give link_is_union (λ step. true)

abbrev pub is_union_link : Link → Bool
is_union_link = fold-Link Bool Bool Bool expr_may_give link_is_union (λ step. true)

-- ---- arguments

-- so many arguments as the function takes; where it takes nodes, each may give nodes
abbrev pub takes : Option Entry → List Expr → Bool
takes None arguments = false
takes (Some entry) arguments =
    nat_le entry.least (length arguments) && nat_le (length arguments) entry.most && (not (entry.marks == 1) || list_all may_give_nodes arguments)

abbrev pub is_comma : Kind → Bool
is_comma k.Comma = true
is_comma _ = false

-- one more argument behind a comma
abbrev pub more_by : Rule (List Expr) → List Expr → Bool → Rule (List Expr)
more_by more found true = pass_next >> more
more_by more found false = pure found

-- [17] Argument: those that follow the ones found
unfoldable pub more_arguments : Rule Expr → ℕ → List Expr → Rule (List Expr)
more_arguments inside zero found = pure found
more_arguments inside (suc most) found = next_kind >>= (λ kind. more_by (inside >>= (λ next. more_arguments inside most (found ++ next ∷ []))) found (is_comma kind))

abbrev pub ended : List Expr → Rule (List Expr)
ended found = close >> pure found

-- the arguments and the end of the call
abbrev pub arguments_by : Rule Expr → Kind → Rule (List Expr)
arguments_by inside k.Close = pass_next >> pure []
arguments_by inside _ = inside >>= (λ first. more_arguments inside expression_limit (first ∷ [])) >>= ended

unfoldable pub arguments : Rule Expr → Rule (List Expr)
arguments inside = next_kind >>= arguments_by inside

-- ---- calls

-- a call whose arguments are none that the function takes is at fault at its name
abbrev pub checked : ℕ → ℕ → List Expr → Bool → Rule Expr
checked place code found true = pure (e.Call place code found)
checked place code found false = refuse_at place kind.Arity

unfoldable pub called : Rule (Unit {0}) → Rule Expr → ℕ → ℕ → Rule Expr
called opened inside place code = pass_next >> opened >> arguments inside >>= (λ found. checked place code found (takes (entry_at function_entries code) found))

abbrev pub call_by : Bindings → Rule (Unit {0}) → Rule Expr → ℕ → List ℕ → Option ℕ → Rule Expr
call_by b opened inside place text None = refuse (unknown b text)
call_by b opened inside place text (Some code) = called opened inside place code

-- [16] FunctionCall: its bracket is read by the rule `opened`, an argument by the rule `inside`
unfoldable pub call : Bindings → Rule (Unit {0}) → Rule Expr → Rule Expr
call b opened inside = λ ts. call_by b opened inside (place_of ts) (text_of ts) (code_of (text_of ts) function_entries) ts

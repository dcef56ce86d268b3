-- What operators and functions ask: both sides and all branches.
use Rattle.std.specs.Prelude.{ℕ, zero, suc, Bool, true, false, ◌||◌, List, [], ◌∷◌, ◌++◌, map, Option, Some, None}
use Rattle.std.specs.List.{flat_map}
use Rattle.xf_def_syntax.specs.declared.expr.Operator.{Operator}
use Rattle.xf_def_syntax.specs.declared.expr.Operator.TheVariants.{Or, And, Add, Subtract, Multiply, Divide, Modulo, Union}
use Rattle.xf_def_xpath.specs.declared.value.Value.{Value}
use Rattle.xf_def_xpath.specs.Setting.{Setting, Focus, Meaning, in_order}
use Rattle.xf_def_xpath.specs.Conversions.{nodes_of}
use Rattle.xf_def_xpath.specs.Functions.{called}
use Rattle.xf_def_xpath.specs.Table.{Function}
use Rattle.xf_def_xpath.specs.Table as of
use Rattle.xf_def_xpath.specs.Asked.{Asked, Trace, LinkTrace, list_around, plainly, tightly, both, as_truth, as_plain, all_read, converted}

-- ---- operators

-- beside a truth a set is no more than empty or not; else all its nodes are asked
abbrev pub beside : Setting → Bool → Asked → Asked
beside s true a = a
beside s false a = all_read s a

abbrev pub asked_by_both : Setting → Asked → Asked → Asked
asked_by_both s a b = as_truth (both (beside s b.is_truth a) (beside s a.is_truth b))

abbrev pub computed : Setting → Asked → Asked → Asked
computed s a b = both (converted s a) (converted s b)

-- of two sets: one of them, or both together
abbrev pub either : Setting → Asked → Asked → Asked
either s a b = record {
  set = in_order s.all (a.set ++ b.set);
  is_loose = a.is_loose || b.is_loose;
  is_truth = false;
  reads = a.reads ++ b.reads;
  looks = a.looks ++ b.looks;
}

abbrev pub link_asked : Operator → Setting → Asked → Asked → Asked
link_asked Or s a b = as_truth (both a b)
link_asked And s a b = as_truth (both a b)
link_asked Add s a b = computed s a b
link_asked Subtract s a b = computed s a b
link_asked Multiply s a b = computed s a b
link_asked Divide s a b = computed s a b
link_asked Modulo s a b = computed s a b
link_asked Union s a b = either s a b
link_asked comparison s a b = asked_by_both s a b

abbrev pub links_asked : List LinkTrace → Setting → Focus → Asked → Asked
links_asked [] s c a = a
links_asked (link ∷ links) s c a = links_asked links s c (link_asked link.operator s a (link.right.asked s c))

-- ---- arguments

abbrev pub argument : ℕ → List Trace → Setting → Focus → Asked
argument at [] s c = plainly [] []
argument zero (t ∷ ts) s c = t.asked s c
argument (suc at) (t ∷ ts) s c = argument at ts s c

abbrev pub own_argument : List Trace → Setting → Focus → Asked
own_argument [] s c = tightly (c.node ∷ [])
own_argument (t ∷ ts) s c = t.asked s c

abbrev pub all_converted : List Trace → Setting → Focus → Asked
all_converted [] s c = plainly [] []
all_converted (t ∷ ts) s c = both (converted s (t.asked s c)) (all_converted ts s c)

-- ---- functions

abbrev pub nodes_if : Option Value → List ℕ
nodes_if None = []
nodes_if (Some value) = nodes_of value

-- the nodes that the function gives, for which the arguments are asked
abbrev pub with_nodes : List ℕ → List ℕ → Asked → Asked
with_nodes ns looks a = record (as_plain a) { set = ns; looks = a.looks ++ looks }

abbrev pub meanings : List Trace → List Meaning
meanings ts = map (λ t. t.meaning) ts

abbrev pub call_asked : Function → ℕ → List Trace → Setting → Focus → Asked
call_asked of.asking code ts s c = as_truth (all_converted ts s c)
call_asked of.plainly code ts s c = all_converted ts s c
call_asked of.owning code ts s c = converted s (own_argument ts s c)
call_asked of.boolean code ts s c = as_truth (argument 0 ts s c)
call_asked of.not code ts s c = as_truth (argument 0 ts s c)
call_asked (of.truth b) code ts s c = as_truth (plainly [] [])
call_asked of.choosing code ts s c = either s (as_plain (argument 0 ts s c)) (either s (argument 1 ts s c) (argument 2 ts s c))
call_asked of.branching code ts s c = both (argument 0 ts s c) (computed s (argument 1 ts s c) (argument 2 ts s c))
call_asked of.counting code ts s c = as_plain (argument 0 ts s c)
call_asked of.counting_filled code ts s c = all_read s (argument 0 ts s c)
call_asked of.adding code ts s c = all_read s (argument 0 ts s c)
call_asked of.averaging code ts s c = all_read s (argument 0 ts s c)
call_asked of.greatest code ts s c = all_read s (argument 0 ts s c)
call_asked of.least code ts s c = all_read s (argument 0 ts s c)
call_asked of.local_name code ts s c = as_plain (own_argument ts s c)
call_asked of.name code ts s c = as_plain (own_argument ts s c)
call_asked of.namespace code ts s c = as_plain (own_argument ts s c)
call_asked of.number code ts s c = converted s (own_argument ts s c)
call_asked of.string code ts s c = converted s (own_argument ts s c)
call_asked of.current code ts s c = tightly (s.current ∷ [])
call_asked of.event code ts s c = with_nodes (nodes_if (called of.event code (meanings ts) s c)) [] (all_converted ts s c)
call_asked of.index code ts s c = all_converted ts s c
call_asked of.instance code ts s c =
    let ns = nodes_if (called of.instance code (meanings ts) s c) in with_nodes ns (flat_map (list_around s.all) ns) (all_converted ts s c)
call_asked of.last code ts s c = plainly [] []
call_asked of.position code ts s c = plainly [] []

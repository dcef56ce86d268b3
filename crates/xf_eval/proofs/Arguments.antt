-- What a call is worth from what its arguments gave: branches, and lists of plain values.
use Rattle.std.proofs.Common.{◌≡◌, ℕ, ◌+◌, ◌<◌, ◌≤◌, Bool, true, false, List, [], ◌∷◌, ◌++◌, map, drop, length, get_or, Option, Some, None, option_map, sym, ap, ◌∙◌}
use Rattle.std.proofs.lemmas.List.{at_drop_more, at_drop_all}
use Rattle.xf_def_syntax.specs.declared.expr.Expr.{Expr}
use Rattle.xf_def_forest.specs.declared.content.Node.{Node}
use Rattle.xf_def_values.specs.declared.plain.Plain.{Plain}
use Rattle.xf_funcs.specs.Called.{called}
use Rattle.xf_def_xpath.specs.declared.context.Context.{Context}
use Rattle.xf_def_xpath.specs.declared.value.Value.{Value}
use Rattle.xf_def_xpath.specs.Given.{Given}
use Rattle.xf_def_xpath.specs.Setting.{Focus, Meaning, Setting, ◌>>=◌, each}
use Rattle.xf_def_xpath.specs.Conversions.{plain_of, truth_of}
use Rattle.xf_def_xpath.specs.Functions.{argument, branch, branched, plain_arguments}
use Rattle.xf_def_xpath.specs.Meaning.{focus_of, meaning, setting_of}
use Rattle.xf_eval.specs.ByKind.{argument_or}
use Rattle.xf_eval.specs.First.{counted}
use Rattle.xf_eval.specs.Worth.{bare_setting}
use Rattle.xf_eval.proofs.Called.{argument-none}
use Rattle.xf_eval.proofs.Firsts.{branch-made, branch-none, plain-made, plain-none}
use Rattle.xf_eval.proofs.Lists.{onto, onto-end, onto-more, onto-none}
use Rattle.xf_eval.proofs.Settings.{plain-same}

-- ---- branches

-- a condition that is too long
pub branched-long : (ms : List Meaning) (s : Setting) (c : Focus) → option_map (counted true) (argument_or 0 [] ms s c) ≡ None → branched ms s c ≡ None
branched-long ms s c h = branch-none ms s c (argument 0 ms s c) (ap (option_map (counted true)) (argument-none 0 ms s c) ∙ h)

branch-is : (ms : List Meaning) (s : Setting) (c : Focus) (v : Value) (b : Bool) → option_map (counted true) (argument_or 0 [] ms s c) ≡ Some (counted true v) → truth_of v ≡ b → branched ms s c ≡ branch b ms s c
branch-is ms s c v b h e = branch-made ms s c (argument 0 ms s c) v (ap (option_map (counted true)) (argument-none 0 ms s c) ∙ h) ∙ ap (λ t. branch t ms s c) e

-- the first branch, and the second one
pub branched-then : (ms : List Meaning) (s : Setting) (c : Focus) (v : Value) → option_map (counted true) (argument_or 0 [] ms s c) ≡ Some (counted true v) → truth_of v ≡ true → branched ms s c ≡ argument_or 1 [] ms s c
branched-then ms s c v h e = branch-is ms s c v true h e ∙ argument-none 1 ms s c

pub branched-else : (ms : List Meaning) (s : Setting) (c : Focus) (v : Value) → option_map (counted true) (argument_or 0 [] ms s c) ≡ Some (counted true v) → truth_of v ≡ false → branched ms s c ≡ argument_or 2 [] ms s c
branched-else ms s c v h e = branch-is ms s c v false h e ∙ argument-none 2 ms s c

-- ---- plain values

abbrev pub one_plain : Setting → Focus → Meaning → Option Plain
one_plain s c m = m s c >>= plain_of s

abbrev left : Setting → Focus → List Plain → List Expr → Option (List Plain)
left s c done es = onto done (each (one_plain s c) (map meaning es))

-- one argument, of which the first node counts
pub plain-long : (given : Given) (nodes : List Node) (context : Context) (e : Expr) → option_map (counted true) (meaning e (setting_of called given nodes context) (focus_of context)) ≡ None →
    one_plain (setting_of called given nodes context) (focus_of context) (meaning e) ≡ None
plain-long given nodes context e h = plain-none (setting_of called given nodes context) (meaning e (setting_of called given nodes context) (focus_of context)) h

pub plain-of-value : (given : Given) (nodes : List Node) (context : Context) (e : Expr) (v : Value) → option_map (counted true) (meaning e (setting_of called given nodes context) (focus_of context)) ≡ Some (counted true v) →
    one_plain (setting_of called given nodes context) (focus_of context) (meaning e) ≡ plain_of (bare_setting nodes) v
plain-of-value given nodes context e v h = plain-made (setting_of called given nodes context) (meaning e (setting_of called given nodes context) (focus_of context)) v h ∙ plain-same given nodes context v

-- one that is none is none of the whole
pub plains-stuck : (s : Setting) (c : Focus) (done : List Plain) (es : List Expr) (i : ℕ) (d : Expr) → left s c done (drop i es) ≡ each (one_plain s c) (map meaning es) → i < length es →
    one_plain s c (meaning (get_or es i d)) ≡ None → plain_arguments (map meaning es) s c ≡ None
plains-stuck s c done es i d inv l h =
    sym inv ∙ at_drop_more (left s c done) es i d l ∙ onto-none (one_plain s c) done (meaning (get_or es i d)) (map meaning (drop (i + 1) es)) h

pub plains-more : (s : Setting) (c : Focus) (done : List Plain) (es : List Expr) (i : ℕ) (d : Expr) (p : Plain) → left s c done (drop i es) ≡ each (one_plain s c) (map meaning es) → i < length es →
    one_plain s c (meaning (get_or es i d)) ≡ Some p → left s c (done ++ p ∷ []) (drop (i + 1) es) ≡ each (one_plain s c) (map meaning es)
plains-more s c done es i d p inv l h =
    sym (at_drop_more (left s c done) es i d l ∙ onto-more (one_plain s c) done (meaning (get_or es i d)) (map meaning (drop (i + 1) es)) p h) ∙ inv

pub plains-done : (s : Setting) (c : Focus) (done : List Plain) (es : List Expr) (i : ℕ) → left s c done (drop i es) ≡ each (one_plain s c) (map meaning es) → length es ≤ i →
    plain_arguments (map meaning es) s c ≡ Some done
plains-done s c done es i inv l = sym inv ∙ at_drop_all (left s c done) es i l ∙ onto-end done

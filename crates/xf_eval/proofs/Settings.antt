-- What asks nothing of what surrounds an expression is the same in every setting of a forest.
use Rattle.std.proofs.Common.{◌≡◌, List, [], ◌∷◌, Some, option_map, refl, ap, ◌∙◌}
use Rattle.xf_base.specs.Limits.{string_limit}
use Rattle.xf_def_forest.specs.declared.content.Node.{Node}
use Rattle.xf_def_syntax.specs.declared.expr.Operator.{Operator}
use Rattle.xf_def_syntax.specs.declared.expr.Operator.TheVariants.{Or, And, Equal, NotEqual, Less, LessOrEqual, Greater, GreaterOrEqual, Add, Subtract, Multiply, Divide, Modulo, Union}
use Rattle.xf_def_values.specs.Bounded.{capped}
use Rattle.xf_def_values.specs.Conversions.{Decimal, number_in, text_in}
use Rattle.xf_funcs.specs.Called.{called}
use Rattle.xf_def_xpath.specs.Meaning.{setting_of}
use Rattle.xf_def_xpath.specs.declared.context.Context.{Context}
use Rattle.xf_def_xpath.specs.declared.value.Value.{Value}
use Rattle.xf_def_xpath.specs.declared.value.Value.TheVariants.{Nodes, Text, Number, Truth}
use Rattle.xf_def_xpath.specs.Given.{Given}
use Rattle.xf_def_xpath.specs.Setting.{◌>>=◌}
use Rattle.xf_def_xpath.specs.Conversions.{number_of, plain_of, string_of}
use Rattle.xf_def_xpath.specs.Comparisons.{compared, holds, pairs_hold, plains_of, some_pair}
use Rattle.xf_def_xpath.specs.Operators.{computed}
use Rattle.xf_eval.specs.Answered.{answered}
use Rattle.xf_eval.specs.Worth.{bare_setting, setting_in}

pub plain-same : (given : Given) (nodes : List Node) (context : Context) (v : Value) → plain_of (setting_of called given nodes context) v ≡ plain_of (bare_setting nodes) v
plain-same given nodes context (Nodes []) = refl
plain-same given nodes context (Nodes (n ∷ ns)) = refl
plain-same given nodes context (Text text) = refl
plain-same given nodes context (Number k) = refl
plain-same given nodes context (Truth b) = refl

pub number-same : (given : Given) (nodes : List Node) (context : Context) (v : Value) → number_of (setting_of called given nodes context) v ≡ number_of (setting_in given.decimals nodes) v
number-same given nodes context v = ap (option_map (number_in given.decimals)) (plain-same given nodes context v)

pub string-same : (given : Given) (nodes : List Node) (context : Context) (v : Value) → string_of (setting_of called given nodes context) v ≡ string_of (setting_in given.decimals nodes) v
string-same given nodes context v = ap (λ m. m >>= λ p. capped (Some string_limit) (text_in given.decimals p)) (plain-same given nodes context v)

-- ---- operators

plains-same : (given : Given) (nodes : List Node) (context : Context) (v : Value) → plains_of (setting_of called given nodes context) v ≡ plains_of (setting_in given.decimals nodes) v
plains-same given nodes context (Nodes ns) = refl
plains-same given nodes context (Text text) = refl
plains-same given nodes context (Number k) = refl
plains-same given nodes context (Truth b) = refl

pairs-same : (given : Given) (nodes : List Node) (context : Context) (o : Operator) (a b : Value) → pairs_hold (setting_of called given nodes context) o a b ≡ pairs_hold (setting_in given.decimals nodes) o a b
pairs-same given nodes context o a b =
    ap (λ m. m >>= λ lefts. plains_of (setting_of called given nodes context) b >>= λ rights. Some (some_pair (holds given.decimals o) lefts rights)) (plains-same given nodes context a)
    ∙ ap (λ m. plains_of (setting_in given.decimals nodes) a >>= λ lefts. m >>= λ rights. Some (some_pair (holds given.decimals o) lefts rights)) (plains-same given nodes context b)

pub compared-same : (given : Given) (nodes : List Node) (context : Context) (o : Operator) (a b : Value) → compared (setting_of called given nodes context) o a b ≡ compared (setting_in given.decimals nodes) o a b
compared-same given nodes context o (Nodes ns) (Nodes ms) = pairs-same given nodes context o (Nodes ns) (Nodes ms)
compared-same given nodes context o (Nodes ns) (Text text) = pairs-same given nodes context o (Nodes ns) (Text text)
compared-same given nodes context o (Nodes ns) (Number k) = pairs-same given nodes context o (Nodes ns) (Number k)
compared-same given nodes context o (Nodes ns) (Truth b) = refl
compared-same given nodes context o (Truth a) (Nodes ns) = refl
compared-same given nodes context o (Truth a) (Text text) = pairs-same given nodes context o (Truth a) (Text text)
compared-same given nodes context o (Truth a) (Number k) = pairs-same given nodes context o (Truth a) (Number k)
compared-same given nodes context o (Truth a) (Truth b) = pairs-same given nodes context o (Truth a) (Truth b)
compared-same given nodes context o (Text text) b = pairs-same given nodes context o (Text text) b
compared-same given nodes context o (Number k) b = pairs-same given nodes context o (Number k) b

computed-same : (given : Given) (nodes : List Node) (context : Context) (f : Decimal → Decimal → Decimal) (a b : Value) → computed (setting_of called given nodes context) f a b ≡ computed (setting_in given.decimals nodes) f a b
computed-same given nodes context f a b =
    ap (λ m. m >>= λ j. number_of (setting_of called given nodes context) b >>= λ k. Some (Number (f j k))) (number-same given nodes context a)
    ∙ ap (λ m. number_of (setting_in given.decimals nodes) a >>= λ j. m >>= λ k. Some (Number (f j k))) (number-same given nodes context b)

comparison-same : (given : Given) (nodes : List Node) (context : Context) (o : Operator) (a b : Value) → option_map Truth (compared (setting_of called given nodes context) o a b) ≡ option_map Truth (compared (setting_in given.decimals nodes) o a b)
comparison-same given nodes context o a b = ap (option_map Truth) (compared-same given nodes context o a b)

pub answered-same : (given : Given) (nodes : List Node) (context : Context) (o : Operator) (a b : Value) → answered o (setting_of called given nodes context) a b ≡ answered o (setting_in given.decimals nodes) a b
answered-same given nodes context Or a b = refl
answered-same given nodes context And a b = refl
answered-same given nodes context Equal a b = comparison-same given nodes context Equal a b
answered-same given nodes context NotEqual a b = comparison-same given nodes context NotEqual a b
answered-same given nodes context Less a b = comparison-same given nodes context Less a b
answered-same given nodes context LessOrEqual a b = comparison-same given nodes context LessOrEqual a b
answered-same given nodes context Greater a b = comparison-same given nodes context Greater a b
answered-same given nodes context GreaterOrEqual a b = comparison-same given nodes context GreaterOrEqual a b
answered-same given nodes context Add a b = computed-same given nodes context _ a b
answered-same given nodes context Subtract a b = computed-same given nodes context _ a b
answered-same given nodes context Multiply a b = computed-same given nodes context _ a b
answered-same given nodes context Divide a b = computed-same given nodes context _ a b
answered-same given nodes context Modulo a b = computed-same given nodes context _ a b
answered-same given nodes context Union a b = refl

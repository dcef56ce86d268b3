-- The value of a call as the evaluator tells functions apart is what the table of functions says.
use Rattle.std.proofs.Common.{◌≡◌, ℕ, zero, suc, List, [], ◌∷◌, Option, Some, None, option_map, refl, ap, ◌∙◌}
use Rattle.std.specs.Prelude.{option_and_then, unwrap_or}
use Rattle.xf_base.specs.Limits.{string_limit}
use Rattle.xf_def_forest.specs.declared.content.Node.{Node}
use Rattle.xf_def_forest.specs.declared.content.Name.{Name}
use Rattle.xf_def_forest.specs.Forest.{name_in, written_in}
use Rattle.xf_def_values.specs.declared.plain.Plain.{Plain}
use Rattle.xf_def_values.specs.Bounded.{◌>>=◌, capped}
use Rattle.xf_funcs.specs.Called as funcs
use Rattle.xf_def_xpath.specs.declared.context.Context.{Context}
use Rattle.xf_def_xpath.specs.declared.value.Value.{Value}
use Rattle.xf_def_xpath.specs.declared.value.Value.TheVariants.{Nodes, Text, Number, Truth}
use Rattle.xf_def_xpath.specs.Given.{Given, beside, document_of, property_of}
use Rattle.xf_def_xpath.specs.Setting.{Focus, Meaning, Setting}
use Rattle.xf_def_xpath.specs.Binding.{as_list}
use Rattle.xf_def_xpath.specs.Conversions.{nodes_of, number_of, plain_of, string_of, truth_of, value_of_plain}
use Rattle.xf_def_xpath.specs.Functions.{argument, branched, index_number, instance_id, local_part, namespace_of, own_argument, plain_arguments, set_of}
use Rattle.xf_def_xpath.specs.Functions as functions
use Rattle.xf_def_xpath.specs.Meaning.{focus_of, setting_of}
use Rattle.xf_eval.specs.declared.kinds.Kind.{Kind}
use Rattle.xf_eval.specs.declared.kinds.Kind.TheVariants as kind
use Rattle.xf_eval.specs.Kinds.{function_in}
use Rattle.xf_eval.specs.Worth.{seen, setting_in}
use Rattle.xf_eval.specs.OfNodes.{first_content}
use Rattle.xf_eval.specs.OfOne.{one_worth, own_worth, plain_worth}
use Rattle.xf_eval.specs.ByKind.{argument_or, by_kind}
use Rattle.xf_eval.proofs.Erased.{name-seen}
use Rattle.xf_eval.proofs.Settings.{number-same, plain-same, string-same}

map-then : {A B C : Type 0} (f : B → C) (m : Option A) (k : A → Option B) → option_map f (m >>= k) ≡ (m >>= λ x. option_map f (k x))
map-then f None k = refl
map-then f (Some x) k = refl

-- what is made of the value is the same at each value
at-each : {A B : Type 0} (m : Option A) (f g : A → Option B) → ((x : A) → f x ≡ g x) → (m >>= f) ≡ (m >>= g)
at-each None f g h = refl
at-each (Some x) f g h = h x

plain-call : (d code : ℕ) (m : Option (List Plain)) → option_map value_of_plain (m >>= funcs.called (Some string_limit) d code) ≡ (m >>= plain_worth d code)
plain-call d code None = refl
plain-call d code (Some given) = refl

own-call : (code : ℕ) (given : Given) (nodes : List Node) (context : Context) (m : Option Value) →
    option_map value_of_plain (m >>= plain_of (setting_of funcs.called given nodes context) >>= λ p. funcs.called (Some string_limit) given.decimals code (p ∷ [])) ≡ (m >>= own_worth given.decimals kind.Owning code given nodes)
own-call code given nodes context None = refl
own-call code given nodes context (Some v) =
    map-then value_of_plain (plain_of (setting_of funcs.called given nodes context) v) (λ p. funcs.called (Some string_limit) given.decimals code (p ∷ []))
    ∙ ap (λ m. m >>= λ p. plain_worth given.decimals code (p ∷ [])) (plain-same given nodes context v)

text-call : (given : Given) (nodes : List Node) (context : Context) (f : List ℕ → Value) (m : Option Value) →
    option_map f (m >>= string_of (setting_of funcs.called given nodes context)) ≡ (m >>= λ v. option_map f (string_of (setting_in given.decimals nodes) v))
text-call given nodes context f None = refl
text-call given nodes context f (Some v) = ap (option_map f) (string-same given nodes context v)

branch-call : (given : Given) (nodes : List Node) (context : Context) (m : Option Value) →
    option_map Text (m >>= string_of (setting_of funcs.called given nodes context)) ≡ option_map Text (m >>= string_of (setting_in given.decimals nodes))
branch-call given nodes context None = refl
branch-call given nodes context (Some v) = ap (option_map Text) (string-same given nodes context v)

number-call : (given : Given) (nodes : List Node) (context : Context) (m : Option Value) →
    option_map Number (m >>= number_of (setting_of funcs.called given nodes context)) ≡ (m >>= λ v. option_map Number (number_of (setting_in given.decimals nodes) v))
number-call given nodes context None = refl
number-call given nodes context (Some v) = ap (option_map Number) (number-same given nodes context v)

truth-call : (f : Value → Value) (m : Option Value) → option_map f m ≡ (m >>= λ v. Some (f v))
truth-call f None = refl
truth-call f (Some v) = refl

name-call : (nodes : List Node) (part : Option Name → List ℕ) (v : Value) →
    option_map Text (capped (Some string_limit) (part (functions.first_name (seen nodes) (nodes_of v)))) ≡ option_map Text (capped (Some string_limit) (part (option_and_then name_in (first_content nodes (nodes_of v)))))
name-call nodes part v = ap (λ name. option_map Text (capped (Some string_limit) (part name))) (name-seen nodes (nodes_of v))

-- ---- an argument, and what stands for one that is not written

pub argument-none : (at : ℕ) (ms : List Meaning) (s : Setting) (c : Focus) → argument at ms s c ≡ argument_or at [] ms s c
argument-none at [] s c = refl
argument-none zero (m ∷ ms) s c = refl
argument-none (suc at) (m ∷ ms) s c = argument-none at ms s c

argument-own : (ms : List Meaning) (s : Setting) (c : Focus) → own_argument ms s c ≡ argument_or 0 (c.node ∷ []) ms s c
argument-own [] s c = refl
argument-own (m ∷ ms) s c = refl

one-argument : (k : Kind) (given : Given) (nodes : List Node) (context : Context) (ms : List Meaning) (s : Setting) (c : Focus) →
    (argument 0 ms s c >>= one_worth given.decimals k context.model given nodes) ≡ (argument_or 0 [] ms s c >>= one_worth given.decimals k context.model given nodes)
one-argument k given nodes context ms s c = ap (λ m. m >>= one_worth given.decimals k context.model given nodes) (argument-none 0 ms s c)

own-argument : (k : Kind) (code : ℕ) (given : Given) (nodes : List Node) (ms : List Meaning) (s : Setting) (c : Focus) →
    (own_argument ms s c >>= own_worth given.decimals k code given nodes) ≡ (argument_or 0 (c.node ∷ []) ms s c >>= own_worth given.decimals k code given nodes)
own-argument k code given nodes ms s c = ap (λ m. m >>= own_worth given.decimals k code given nodes) (argument-own ms s c)

-- ---- the document element of an instance

set-listed : (m : Option ℕ) → set_of m ≡ Nodes (as_list m)
set-listed None = refl
set-listed (Some n) = refl

map-same : {A B : Type 0} (f g : A → B) → ((x : A) → f x ≡ g x) → (m : Option A) → option_map f m ≡ option_map g m
map-same f g h None = refl
map-same f g h (Some x) = ap Some (h x)

instance-call : (given : Given) (nodes : List Node) (context : Context) (v : Value) →
    option_map (λ id. set_of (document_of context.model id given.documents)) (string_of (setting_of funcs.called given nodes context) v) ≡ one_worth given.decimals kind.Instance context.model given nodes v
instance-call given nodes context v =
    ap (option_map (λ id. set_of (document_of context.model id given.documents))) (string-same given nodes context v)
    ∙ map-same (λ id. set_of (document_of context.model id given.documents)) (λ id. Nodes (as_list (document_of context.model id given.documents))) (λ id. set-listed (document_of context.model id given.documents)) (string_of (setting_in given.decimals nodes) v)

instance-each : (given : Given) (nodes : List Node) (context : Context) (m : Option Value) →
    option_map (λ id. set_of (document_of context.model id given.documents)) (m >>= string_of (setting_of funcs.called given nodes context)) ≡ (m >>= one_worth given.decimals kind.Instance context.model given nodes)
instance-each given nodes context None = refl
instance-each given nodes context (Some v) = instance-call given nodes context v

instance-kind : (given : Given) (nodes : List Node) (context : Context) (ms : List Meaning) →
    option_map (λ id. set_of (document_of context.model id given.documents)) (instance_id ms (setting_of funcs.called given nodes context) (focus_of context)) ≡ (argument_or 0 [] ms (setting_of funcs.called given nodes context) (focus_of context) >>= one_worth given.decimals kind.Instance context.model given nodes)
instance-kind given nodes context [] = instance-call given nodes context (Nodes [])
instance-kind given nodes context (m ∷ ms) = instance-each given nodes context (m (setting_of funcs.called given nodes context) (focus_of context))

pub by-kind : (k : Kind) (code : ℕ) (given : Given) (nodes : List Node) (context : Context) (ms : List Meaning) →
    functions.called (function_in k) code ms (setting_of funcs.called given nodes context) (focus_of context) ≡ by_kind k code given nodes context ms
by-kind kind.Asking code given nodes context ms = plain-call given.decimals code (plain_arguments ms (setting_of funcs.called given nodes context) (focus_of context))
by-kind kind.Plainly code given nodes context ms = plain-call given.decimals code (plain_arguments ms (setting_of funcs.called given nodes context) (focus_of context))
by-kind kind.Owning code given nodes context ms =
    own-call code given nodes context (own_argument ms (setting_of funcs.called given nodes context) (focus_of context))
    ∙ own-argument kind.Owning code given nodes ms (setting_of funcs.called given nodes context) (focus_of context)
by-kind kind.Boolean code given nodes context ms =
    truth-call (λ v. Truth (truth_of v)) (argument 0 ms (setting_of funcs.called given nodes context) (focus_of context))
    ∙ one-argument kind.Boolean given nodes context ms (setting_of funcs.called given nodes context) (focus_of context)
by-kind kind.Not code given nodes context ms =
    truth-call _ (argument 0 ms (setting_of funcs.called given nodes context) (focus_of context))
    ∙ one-argument kind.Not given nodes context ms (setting_of funcs.called given nodes context) (focus_of context)
by-kind (kind.Truth b) code given nodes context ms = refl
by-kind kind.Choosing code given nodes context ms = refl
by-kind kind.Branching code given nodes context ms = branch-call given nodes context (branched ms (setting_of funcs.called given nodes context) (focus_of context))
by-kind kind.Counting code given nodes context ms =
    at-each (argument 0 ms (setting_of funcs.called given nodes context) (focus_of context)) _ _ (λ v. refl)
    ∙ one-argument kind.Counting given nodes context ms (setting_of funcs.called given nodes context) (focus_of context)
by-kind kind.CountingFilled code given nodes context ms =
    at-each (argument 0 ms (setting_of funcs.called given nodes context) (focus_of context)) _ _ (λ v. refl)
    ∙ one-argument kind.CountingFilled given nodes context ms (setting_of funcs.called given nodes context) (focus_of context)
by-kind kind.Adding code given nodes context ms =
    at-each (argument 0 ms (setting_of funcs.called given nodes context) (focus_of context)) _ _ (λ v. refl)
    ∙ one-argument kind.Adding given nodes context ms (setting_of funcs.called given nodes context) (focus_of context)
by-kind kind.Averaging code given nodes context ms =
    at-each (argument 0 ms (setting_of funcs.called given nodes context) (focus_of context)) _ _ (λ v. refl)
    ∙ one-argument kind.Averaging given nodes context ms (setting_of funcs.called given nodes context) (focus_of context)
by-kind kind.Greatest code given nodes context ms =
    at-each (argument 0 ms (setting_of funcs.called given nodes context) (focus_of context)) _ _ (λ v. refl)
    ∙ one-argument kind.Greatest given nodes context ms (setting_of funcs.called given nodes context) (focus_of context)
by-kind kind.Least code given nodes context ms =
    at-each (argument 0 ms (setting_of funcs.called given nodes context) (focus_of context)) _ _ (λ v. refl)
    ∙ one-argument kind.Least given nodes context ms (setting_of funcs.called given nodes context) (focus_of context)
by-kind kind.LocalName code given nodes context ms =
    at-each (own_argument ms (setting_of funcs.called given nodes context) (focus_of context)) _ _ (name-call nodes local_part)
    ∙ own-argument kind.LocalName code given nodes ms (setting_of funcs.called given nodes context) (focus_of context)
by-kind kind.Name code given nodes context ms =
    at-each (own_argument ms (setting_of funcs.called given nodes context) (focus_of context)) _ _ (name-call nodes written_in)
    ∙ own-argument kind.Name code given nodes ms (setting_of funcs.called given nodes context) (focus_of context)
by-kind kind.Namespace code given nodes context ms =
    at-each (own_argument ms (setting_of funcs.called given nodes context) (focus_of context)) _ _ (name-call nodes (namespace_of given.bindings))
    ∙ own-argument kind.Namespace code given nodes ms (setting_of funcs.called given nodes context) (focus_of context)
by-kind kind.Number code given nodes context ms =
    number-call given nodes context (own_argument ms (setting_of funcs.called given nodes context) (focus_of context))
    ∙ own-argument kind.Number code given nodes ms (setting_of funcs.called given nodes context) (focus_of context)
by-kind kind.Text code given nodes context ms =
    text-call given nodes context Text (own_argument ms (setting_of funcs.called given nodes context) (focus_of context))
    ∙ own-argument kind.Text code given nodes ms (setting_of funcs.called given nodes context) (focus_of context)
by-kind kind.Current code given nodes context ms = refl
by-kind kind.Event code given nodes context ms =
    text-call given nodes context (λ name. unwrap_or (property_of name given.event) (Nodes [])) (argument 0 ms (setting_of funcs.called given nodes context) (focus_of context))
    ∙ one-argument kind.Event given nodes context ms (setting_of funcs.called given nodes context) (focus_of context)
by-kind kind.Index code given nodes context ms =
    text-call given nodes context (λ id. Number (index_number given.decimals (beside id given.indexes))) (argument 0 ms (setting_of funcs.called given nodes context) (focus_of context))
    ∙ one-argument kind.Index given nodes context ms (setting_of funcs.called given nodes context) (focus_of context)
by-kind kind.Instance code given nodes context ms = instance-kind given nodes context ms
by-kind kind.Last code given nodes context ms = refl
by-kind kind.Position code given nodes context ms = refl

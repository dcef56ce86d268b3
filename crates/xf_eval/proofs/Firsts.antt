-- The first node of a set alone: what is converted of it, what operators make of it, and where the walk of a path may stop.
use Rattle.std.proofs.Common.{◌≡◌, ℕ, zero, suc, ◌≤◌, true, false, not, List, [], ◌∷◌, map, take, length, get_or, Option, Some, None, option_map, refl, sym, ap, ◌∙◌, arith, slice_get}
use Rattle.std.specs.Prelude.{option_and_then, unwrap_or}
use denote.Param.Weighed.{most}
use Rattle.xf_base.specs.Limits.{string_limit}
use Rattle.xf_name.specs.Bindings.{Bindings}
use Rattle.xf_name.specs.declared.axis.Axis.{Axis}
use Rattle.xf_def_syntax.specs.declared.expr.Expr.{Expr}
use Rattle.xf_def_syntax.specs.declared.expr.Expr.TheVariants as expr
use Rattle.xf_def_syntax.specs.declared.expr.Link.{Link}
use Rattle.xf_def_syntax.specs.declared.expr.Operator.{Operator}
use Rattle.xf_def_syntax.specs.declared.expr.Operator.TheVariants.{Or, And, Equal, NotEqual, Less, LessOrEqual, Greater, GreaterOrEqual, Add, Subtract, Multiply, Divide, Modulo, Union}
use Rattle.xf_def_syntax.specs.declared.expr.Step.{Step}
use Rattle.xf_def_syntax.specs.declared.expr.Test.{Test}
use Rattle.xf_def_forest.specs.declared.content.Node.{Node}
use Rattle.xf_def_forest.specs.Axis.{is_reverse}
use Rattle.xf_def_forest.specs.Forest.{name_in}
use Rattle.xf_def_forest.specs.Texts.{Keeping}
use Rattle.xf_def_forest.specs.WellFormed.{AreTrees}
use Rattle.xf_def_values.specs.Bounded.{capped}
use Rattle.xf_def_values.specs.Conversions.{Decimal, number_in, text_in}
use Rattle.xf_funcs.specs.Called.{called}
use Rattle.xf_def_xpath.specs.declared.context.Context.{Context}
use Rattle.xf_def_xpath.specs.declared.value.Value.{Value}
use Rattle.xf_def_xpath.specs.declared.value.Value.TheVariants.{Nodes, Text, Number, Truth}
use Rattle.xf_def_xpath.specs.Binding.{as_list}
use Rattle.xf_def_xpath.specs.Given.{Given, beside, document_of, property_of}
use Rattle.xf_def_xpath.specs.Conversions.{nodes_of, number_of, plain_of, string_of, truth_of}
use Rattle.xf_def_xpath.specs.Functions.{branch, index_number}
use Rattle.xf_def_xpath.specs.Meaning.{focus_of, meaning, meaning_of_link, setting_of, walk_of}
use Rattle.xf_def_xpath.specs.Operators.{and_then, chained, combined, computed, linked, or_else}
use Rattle.xf_def_xpath.specs.Setting.{Focus, Meaning, Setting, ◌>>=◌, in_order}
use Rattle.xf_def_xpath.specs.Steps.{from_one, reached, walked}
use Rattle.xf_def_xpath.proofs.Equations.{meaning-Chain}
use Rattle.xf_eval.specs.declared.kinds.Kind.{Kind}
use Rattle.xf_eval.specs.declared.kinds.Kind.TheVariants as kind
use Rattle.xf_eval.specs.Answered.{answered}
use Rattle.xf_eval.specs.OfNodes.{first_content, name_part, name_worth}
use Rattle.xf_eval.specs.OfOne.{one_worth, own_worth, plain_worth}
use Rattle.xf_eval.specs.First.{converts, counted, first_alone, first_node, leads, takes_plain}
use Rattle.xf_eval.specs.Taken.{taken}
use Rattle.xf_eval.specs.Worth.{bare_setting, seen, setting_in}
use Rattle.xf_eval.proofs.Ordered.{forward-in_order, taken-one}
use Rattle.xf_eval.proofs.Runs.{chain-goes}

-- ---- what may be too long

pub map-none : {A B : Type 0} (f : A → B) (m : Option A) → option_map f m ≡ None → m ≡ None
map-none f None e = refl
map-none f (Some x) e = cc e

-- ---- conversions see no more than the first node

plain-first : (s : Setting) (v : Value) → plain_of s (first_alone v) ≡ plain_of s v
plain-first s (Nodes []) = refl
plain-first s (Nodes (n ∷ ns)) = refl
plain-first s (Text text) = refl
plain-first s (Number k) = refl
plain-first s (Truth b) = refl

truth-first : (v : Value) → truth_of (first_alone v) ≡ truth_of v
truth-first (Nodes []) = refl
truth-first (Nodes (n ∷ ns)) = refl
truth-first (Text text) = refl
truth-first (Number k) = refl
truth-first (Truth b) = refl

pub plain-alike : (s : Setting) (v w : Value) → first_alone v ≡ first_alone w → plain_of s v ≡ plain_of s w
plain-alike s v w e = sym (plain-first s v) ∙ ap (plain_of s) e ∙ plain-first s w

pub number-alike : (s : Setting) (v w : Value) → first_alone v ≡ first_alone w → number_of s v ≡ number_of s w
number-alike s v w e = ap (option_map (number_in s.given.decimals)) (plain-alike s v w e)

pub truth-alike : (v w : Value) → first_alone v ≡ first_alone w → truth_of v ≡ truth_of w
truth-alike v w e = sym (truth-first v) ∙ ap truth_of e ∙ truth-first w

-- what is made of a value by its conversion
made-first : {B : Type 0} (f : Value → Option B) → ((v w : Value) → first_alone v ≡ first_alone w → f v ≡ f w) → (m : Option Value) (v : Value) →
    option_map (counted true) m ≡ Some (counted true v) → (m >>= f) ≡ f v
made-first f h None v e = cc e
made-first f h (Some w) v e = let i : first_alone w ≡ first_alone v = cc e in h w v i

made-none : {B : Type 0} (f : Value → Option B) (m : Option Value) → option_map (counted true) m ≡ None → (m >>= f) ≡ None
made-none f m e = ap (λ x. x >>= f) (map-none (counted true) m e)

pub plain-made : (s : Setting) (m : Option Value) (v : Value) → option_map (counted true) m ≡ Some (counted true v) → (m >>= plain_of s) ≡ plain_of s v
plain-made s = made-first (plain_of s) (plain-alike s)

pub plain-none : (s : Setting) (m : Option Value) → option_map (counted true) m ≡ None → (m >>= plain_of s) ≡ None
plain-none s = made-none (plain_of s)

pub string-alike : (s : Setting) (v w : Value) → first_alone v ≡ first_alone w → string_of s v ≡ string_of s w
string-alike s v w e = ap (λ m. m >>= λ p. capped s.most (text_in s.given.decimals p)) (plain-alike s v w e)

pub string-made : (s : Setting) (m : Option Value) (v : Value) → option_map (counted true) m ≡ Some (counted true v) → (m >>= string_of s) ≡ string_of s v
string-made s = made-first (string_of s) (string-alike s)

-- ---- functions

content-first : (nodes : List Node) (v : Value) → first_content nodes (nodes_of (first_alone v)) ≡ first_content nodes (nodes_of v)
content-first nodes (Nodes []) = refl
content-first nodes (Nodes (n ∷ ns)) = refl
content-first nodes (Text text) = refl
content-first nodes (Number k) = refl
content-first nodes (Truth b) = refl

name-alike : (k : Kind) (bindings : Bindings) (nodes : List Node) (v w : Value) → first_alone v ≡ first_alone w → name_worth k bindings nodes (nodes_of v) ≡ name_worth k bindings nodes (nodes_of w)
name-alike k bindings nodes v w e =
    ap (λ c. option_map Text (capped (Some string_limit) (name_part k bindings (option_and_then name_in c))))
    (sym (content-first nodes v) ∙ ap (λ u. first_content nodes (nodes_of u)) e ∙ content-first nodes w)

own-alike : (d : ℕ) (k : Kind) (code : ℕ) (given : Given) (nodes : List Node) (v w : Value) → first_alone v ≡ first_alone w → own_worth d k code given nodes v ≡ own_worth d k code given nodes w
own-alike d kind.Number code given nodes v w e = ap (option_map Number) (number-alike (setting_in d nodes) v w e)
own-alike d kind.Text code given nodes v w e = ap (option_map Text) (string-alike (setting_in d nodes) v w e)
own-alike d kind.Owning code given nodes v w e = ap (λ m. m >>= λ p. plain_worth d code (p ∷ [])) (plain-alike (bare_setting nodes) v w e)
own-alike d other code given nodes v w e = name-alike other given.bindings nodes v w e

pub own-made : (d : ℕ) (k : Kind) (code : ℕ) (given : Given) (nodes : List Node) (m : Option Value) (v : Value) → option_map (counted true) m ≡ Some (counted true v) → (m >>= own_worth d k code given nodes) ≡ own_worth d k code given nodes v
own-made d k code given nodes = made-first (own_worth d k code given nodes) (own-alike d k code given nodes)

one-alike : (d : ℕ) (k : Kind) (model : ℕ) (given : Given) (nodes : List Node) (v w : Value) → counted (takes_plain k) v ≡ counted (takes_plain k) w → one_worth d k model given nodes v ≡ one_worth d k model given nodes w
one-alike d kind.Boolean model given nodes v w e = ap (λ b. Some (Truth b)) (truth-alike v w e)
one-alike d kind.Not model given nodes v w e = ap (λ b. Some (Truth (not b))) (truth-alike v w e)
one-alike d kind.Event model given nodes v w e = ap (option_map (λ name. unwrap_or (property_of name given.event) (Nodes []))) (string-alike (setting_in d nodes) v w e)
one-alike d kind.Index model given nodes v w e = ap (option_map (λ id. Number (index_number d (beside id given.indexes)))) (string-alike (setting_in d nodes) v w e)
one-alike d kind.Instance model given nodes v w e = ap (option_map (λ id. Nodes (as_list (document_of model id given.documents)))) (string-alike (setting_in d nodes) v w e)
one-alike d other model given nodes v w e = ap (one_worth d other model given nodes) e

pub one-made : (d : ℕ) (k : Kind) (model : ℕ) (given : Given) (nodes : List Node) (m : Option Value) (v : Value) → option_map (counted (takes_plain k)) m ≡ Some (counted (takes_plain k) v) →
    (m >>= one_worth d k model given nodes) ≡ one_worth d k model given nodes v
one-made d k model given nodes None v e = cc e
one-made d k model given nodes (Some w) v e = let i : counted (takes_plain k) w ≡ counted (takes_plain k) v = cc e in one-alike d k model given nodes w v i

-- the branch that a condition chooses
pub branch-made : (ms : List Meaning) (s : Setting) (c : Focus) (m : Option Value) (v : Value) → option_map (counted true) m ≡ Some (counted true v) →
    (m >>= λ u. branch (truth_of u) ms s c) ≡ branch (truth_of v) ms s c
branch-made ms s c = made-first (λ u. branch (truth_of u) ms s c) (λ v w e. ap (λ b. branch b ms s c) (truth-alike v w e))

pub branch-none : (ms : List Meaning) (s : Setting) (c : Focus) (m : Option Value) → option_map (counted true) m ≡ None → (m >>= λ u. branch (truth_of u) ms s c) ≡ None
branch-none ms s c = made-none (λ u. branch (truth_of u) ms s c)

-- ---- operators

computed-right : (s : Setting) (f : Decimal → Decimal → Decimal) (left v w : Value) → first_alone v ≡ first_alone w → computed s f left v ≡ computed s f left w
computed-right s f left v w e = ap (λ m. number_of s left >>= λ j. m >>= λ k. Some (Number (f j k))) (number-alike s v w e)

computed-left : (s : Setting) (f : Decimal → Decimal → Decimal) (v w right : Value) → first_alone v ≡ first_alone w → computed s f v right ≡ computed s f w right
computed-left s f v w right e = ap (λ m. m >>= λ j. number_of s right >>= λ k. Some (Number (f j k))) (number-alike s v w e)

-- values that count alike on the right
pub right-alike : (o : Operator) (s : Setting) (left v w : Value) → counted (converts o) v ≡ counted (converts o) w → answered o s left v ≡ answered o s left w
right-alike Or s left v w e = ap (λ b. Some (Truth b)) (truth-alike v w e)
right-alike And s left v w e = ap (λ b. Some (Truth b)) (truth-alike v w e)
right-alike Add s left v w e = computed-right s _ left v w e
right-alike Subtract s left v w e = computed-right s _ left v w e
right-alike Multiply s left v w e = computed-right s _ left v w e
right-alike Divide s left v w e = computed-right s _ left v w e
right-alike Modulo s left v w e = computed-right s _ left v w e
right-alike Union s left v w e = ap (answered Union s left) e
right-alike Equal s left v w e = ap (answered Equal s left) e
right-alike NotEqual s left v w e = ap (answered NotEqual s left) e
right-alike Less s left v w e = ap (answered Less s left) e
right-alike LessOrEqual s left v w e = ap (answered LessOrEqual s left) e
right-alike Greater s left v w e = ap (answered Greater s left) e
right-alike GreaterOrEqual s left v w e = ap (answered GreaterOrEqual s left) e

at-each : {A B : Type 0} (m : Option A) (f g : A → Option B) → ((x : A) → f x ≡ g x) → (m >>= f) ≡ (m >>= g)
at-each None f g h = refl
at-each (Some x) f g h = h x

-- and on the left
pub left-alike : (o : Operator) (v w : Value) (m : Meaning) (s : Setting) (c : Focus) → counted (converts o) v ≡ counted (converts o) w → linked o v m s c ≡ linked o w m s c
left-alike Or v w m s c e = ap (λ b. or_else b (m s c)) (truth-alike v w e)
left-alike And v w m s c e = ap (λ b. and_then b (m s c)) (truth-alike v w e)
left-alike Add v w m s c e = at-each (m s c) (combined Add s v) (combined Add s w) (λ r. computed-left s _ v w r e)
left-alike Subtract v w m s c e = at-each (m s c) (combined Subtract s v) (combined Subtract s w) (λ r. computed-left s _ v w r e)
left-alike Multiply v w m s c e = at-each (m s c) (combined Multiply s v) (combined Multiply s w) (λ r. computed-left s _ v w r e)
left-alike Divide v w m s c e = at-each (m s c) (combined Divide s v) (combined Divide s w) (λ r. computed-left s _ v w r e)
left-alike Modulo v w m s c e = at-each (m s c) (combined Modulo s v) (combined Modulo s w) (λ r. computed-left s _ v w r e)
left-alike Union v w m s c e = ap (λ u. linked Union u m s c) e
left-alike Equal v w m s c e = ap (λ u. linked Equal u m s c) e
left-alike NotEqual v w m s c e = ap (λ u. linked NotEqual u m s c) e
left-alike Less v w m s c e = ap (λ u. linked Less u m s c) e
left-alike LessOrEqual v w m s c e = ap (λ u. linked LessOrEqual u m s c) e
left-alike Greater v w m s c e = ap (λ u. linked Greater u m s c) e
left-alike GreaterOrEqual v w m s c e = ap (λ u. linked GreaterOrEqual u m s c) e

pub right-made : (o : Operator) (s : Setting) (left v : Value) (m : Option Value) → option_map (counted (converts o)) m ≡ Some (counted (converts o) v) → (m >>= answered o s left) ≡ answered o s left v
right-made o s left v None e = cc e
right-made o s left v (Some w) e = let i : counted (converts o) w ≡ counted (converts o) v = cc e in right-alike o s left w v i

-- ---- chains

chain-alike : (links : List Link) (v w : Value) (s : Setting) (c : Focus) → counted (leads links) v ≡ counted (leads links) w → chained (map meaning_of_link links) v s c ≡ chained (map meaning_of_link links) w s c
chain-alike [] v w s c e = ap Some e
chain-alike (l ∷ ls) v w s c e =
    chain-goes s c l ls v ∙ ap (λ m. m >>= λ u. chained (map meaning_of_link ls) u s c) (left-alike l.operator v w (meaning l.right) s c e) ∙ sym (chain-goes s c l ls w)

pub chain-made : (links : List Link) (m : Option Value) (v : Value) (s : Setting) (c : Focus) → option_map (counted (leads links)) m ≡ Some (counted (leads links) v) →
    (m >>= λ u. chained (map meaning_of_link links) u s c) ≡ chained (map meaning_of_link links) v s c
chain-made links None v s c e = cc e
chain-made links (Some w) v s c e = let i : counted (leads links) w ≡ counted (leads links) v = cc e in chain-alike links w v s c i

-- ---- paths

-- a chain of steps is all but its last one, and that one
walked-one : (m : Option (List ℕ)) (s : Setting) → (m >>= walked s []) ≡ m
walked-one None s = refl
walked-one (Some ns) s = refl

pub walked-last : (s : Setting) (steps : List Step) (other : Step) (k : ℕ) (from nodes : List ℕ) → length steps ≡ suc k → walked s (map walk_of (take k steps)) from ≡ Some nodes →
    walked s (map walk_of steps) from ≡ walk_of (get_or steps k other) s nodes
walked-last s [] other k from nodes l e = absurd (omega (arith, l))
walked-last s (x ∷ []) other zero from nodes l e = let i : from ≡ nodes = cc e in walked-one (walk_of x s from) s ∙ ap (walk_of x s) i
walked-last s (x ∷ y ∷ ys) other zero from nodes l e = absurd (omega (arith, l))
walked-last s (x ∷ xs) other (suc k) from nodes l e = by (λ ns i. walked-last s xs other k ns nodes (omega (arith, l)) i) (walk_of x s from) e
  where
    by : ((ns : List ℕ) → walked s (map walk_of (take k xs)) ns ≡ Some nodes → walked s (map walk_of xs) ns ≡ walk_of (get_or xs k other) s nodes) → (m : Option (List ℕ)) →
        (m >>= walked s (map walk_of (take k xs))) ≡ Some nodes → (m >>= walked s (map walk_of xs)) ≡ walk_of (get_or xs k other) s nodes
    by later None i = cc i
    by later (Some ns) i = later ns i

pub walked-part : (s : Setting) (steps : List Step) (k : ℕ) (from : List ℕ) → walked s (map walk_of (take k steps)) from ≡ None → walked s (map walk_of steps) from ≡ None
walked-part s [] zero from e = e
walked-part s [] (suc k) from e = e
walked-part s (x ∷ xs) zero from e = cc e
walked-part s (x ∷ xs) (suc k) from e = by (λ ns i. walked-part s xs k ns i) (walk_of x s from) e
  where
    by : ((ns : List ℕ) → walked s (map walk_of (take k xs)) ns ≡ None → walked s (map walk_of xs) ns ≡ None) → (m : Option (List ℕ)) →
        (m >>= walked s (map walk_of (take k xs))) ≡ None → (m >>= walked s (map walk_of xs)) ≡ None
    by later None i = refl
    by later (Some ns) i = later ns i

-- none of the first steps is deeper than the deepest
pub most-take : {X : Type 0} (size : X → ℕ) (k : ℕ) (xs : List X) → most size (take k xs) ≤ most size xs
most-take size zero xs = omega arith
most-take size (suc k) [] = omega arith
most-take size (suc k) (x ∷ xs) = let h : most size (take k xs) ≤ most size xs = most-take size k xs in omega arith

-- ---- the first node on a forward axis

nearest : (ns : List ℕ) → first_node ns ≡ first_node (as_list (slice_get ns 0))
nearest [] = refl
nearest (n ∷ ns) = refl

pub taken-first : (axis : Axis) (t : Test) (s : Setting) (n : ℕ) (found : List ℕ) (k : Keeping) → AreTrees k → s.all ≡ seen k.forest.nodes → is_reverse axis ≡ false →
    found ≡ as_list (slice_get (reached axis t (seen k.forest.nodes) n) 0) → option_map first_node (taken axis t [] s (n ∷ [])) ≡ Some (first_node found)
taken-first axis t s n found k sound all forward e =
    let ns = reached axis t s.all n in
    let whole : from_one axis t [] s n ≡ Some ns = refl in
    ap (option_map first_node) (taken-one axis t [] s n ns whole)
    ∙ ap (λ a. Some (first_node (in_order a ns))) all
    ∙ ap (λ l. Some (first_node l)) (forward-in_order axis t [] s n ns k sound all whole forward)
    ∙ ap Some (nearest ns)
    ∙ ap (λ a. Some (first_node (as_list (slice_get (reached axis t a n) 0)))) all
    ∙ ap (λ l. Some (first_node l)) (sym e)

-- ---- whole expressions

module _ (given : Given) (nodes : List Node) (context : Context) where
  abbrev setting : Setting
  setting = setting_of called given nodes context

  abbrev focus : Focus
  focus = focus_of context

  pub chain-meaning : (e first : Expr) (links ls : List Link) → e ≡ expr.Chain first links → ls ≡ links → meaning e setting focus ≡ (meaning first setting focus >>= λ v. chained (map meaning_of_link ls) v setting focus)
  chain-meaning e first links ls h i =
      ap (λ x. meaning x setting focus) h ∙ ap (λ m. m setting focus) (meaning-Chain first links)
      ∙ ap (λ l. meaning first setting focus >>= λ v. chained (map meaning_of_link l) v setting focus) (sym i)

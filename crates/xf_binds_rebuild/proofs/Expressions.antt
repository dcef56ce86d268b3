-- The expressions of entries.
use Rattle.std.proofs.Common.{◌≡◌, ℕ, zero, suc, ◌+◌, Bool, true, false, not, ◌&&◌, List, [], ◌∷◌, ◌++◌, map, take, Option, Some, None, option_map, slice_get, refl, sym, ap, ◌∙◌, arith}
use Rattle.std.specs.Prelude.{option_and_then}
use Rattle.std.specs.List.{list_all}
use Rattle.xf_def_syntax.specs.declared.expr.Expr.{Expr}
use Rattle.xf_def_syntax.specs.declared.form.Bind.{Bind}
use Rattle.xf_def_forest.specs.Visit.{Visit, ancestors_of}
use Rattle.xf_def_forest.proofs.BackLaws.{and-true}
use Rattle.xf_def_xpath.proofs.VisitFacts.{no, none-some, some-same}
use Rattle.xf_def_xpath.specs.Reads.{reads_in, looks_in, trace}
use Rattle.xf_def_model.specs.declared.property.Property.{Property}
use Rattle.xf_def_model.specs.declared.property.Property.TheVariants.{Kind, Calculate, Relevant, Readonly, Required, Constraint}
use Rattle.xf_def_model.specs.Rules.{Rule, Computed, Scope, computed_of, rule_of}
use Rattle.xf_def_model.specs.Nested.{setting_for}
use Rattle.xf_def_model.specs.Applied.{Entry, is_property}
use Rattle.xf_def_model.specs.Entries.{expression_in, expression_of, focus_of, is_computed, reads_by, looks_by}
use Rattle.xf_eval_shape.specs.Fixed.{is_fixed}
use Rattle.xf_binds.specs.declared.web.Asks.{Asks}
use Rattle.xf_binds_rebuild.specs.Static.{AreFixed, expr_in, fixed_if, is_fixed_bind}
use Rattle.xf_binds_rebuild.specs.Found.{asks_at, holds_at}
use Rattle.xf_binds_rebuild.specs.Web.{asks_by, asks_of, no_asks}

rule-expression : (bind : Bind) (p : Property) → expression_in (rule_of bind) p ≡ option_map computed_of (expr_in bind.properties p)
rule-expression bind Kind = refl
rule-expression bind Calculate = refl
rule-expression bind Relevant = refl
rule-expression bind Readonly = refl
rule-expression bind Required = refl
rule-expression bind Constraint = refl

mapped-twice : {X Y Z : Type 0} (g : Y → Z) (f : X → Y) (o : Option X) → option_map (λ x. g (f x)) o ≡ option_map g (option_map f o)
mapped-twice g f None = refl
mapped-twice g f (Some x) = refl

got-map : {X Y : Type 0} (f : X → Y) (xs : List X) (i : ℕ) → slice_get (map f xs) i ≡ option_map f (slice_get xs i)
got-map f [] i = refl
got-map f (x ∷ xs) zero = refl
got-map f (x ∷ xs) (suc i) = got-map f xs i

pub expression-some : {X : Type 0} (now : X → Expr) (binds : List Bind) (k : ℕ) (bind : Bind) (p : Property) (found : Option X) → Some bind ≡ slice_get binds k → option_map now found ≡ expr_in bind.properties p
    → option_map (λ x. computed_of (now x)) found ≡ option_and_then (λ r. expression_in r p) (slice_get (map rule_of binds) k)
expression-some now binds k bind p found h e =
    mapped-twice computed_of now found
    ∙ ap (option_map computed_of) e
    ∙ sym (rule-expression bind p)
    ∙ ap (λ o. option_and_then (λ r. expression_in r p) (option_map rule_of o)) h
    ∙ ap (option_and_then (λ r. expression_in r p)) (sym (got-map rule_of binds k))

pub expression-none : (binds : List Bind) (k : ℕ) (p : Property) → None ≡ slice_get binds k → None ≡ option_and_then (λ (r : Rule). expression_in r p) (slice_get (map rule_of binds) k)
expression-none binds k p h =
    ap (λ o. option_and_then (λ r. expression_in r p) (option_map rule_of o)) h ∙ ap (option_and_then (λ r. expression_in r p)) (sym (got-map rule_of binds k))

-- ---- fixed

-- one of six
part : (a b c d e f : Bool) → (a && b && c && d && e && f) ≡ true → (a ≡ true) × (b ≡ true) × (c ≡ true) × (d ≡ true) × (e ≡ true) × (f ≡ true)
part true true true true true true h = (refl, refl, refl, refl, refl, refl)
part false b c d e f h = no h
part true false c d e f h = no h
part true true false d e f h = no h
part true true true false e f h = no h
part true true true true false f h = no h
part true true true true true false h = no h

bind-parts : (bind : Bind) → is_fixed_bind bind ≡ true → (is_fixed bind.node_set ≡ true) × (fixed_if bind.properties.calculate ≡ true) × (fixed_if bind.properties.relevant ≡ true)
    × (fixed_if bind.properties.readonly ≡ true) × (fixed_if bind.properties.required ≡ true) × (fixed_if bind.properties.constraint ≡ true)
bind-parts bind h =
    part (is_fixed bind.node_set) (fixed_if bind.properties.calculate) (fixed_if bind.properties.relevant) (fixed_if bind.properties.readonly) (fixed_if bind.properties.required)
    (fixed_if bind.properties.constraint) h

bind-fixed : (bind : Bind) (p : Property) → is_fixed_bind bind ≡ true → fixed_if (expr_in bind.properties p) ≡ true
bind-fixed bind Kind h = refl
bind-fixed bind Calculate h = (bind-parts bind h).1
bind-fixed bind Relevant h = (bind-parts bind h).2
bind-fixed bind Readonly h = (bind-parts bind h).3
bind-fixed bind Required h = (bind-parts bind h).4
bind-fixed bind Constraint h = (bind-parts bind h).5

pub fixed-in : (binds : List Bind) (k : ℕ) (bind : Bind) (p : Property) → AreFixed binds → Some bind ≡ slice_get binds k → fixed_if (expr_in bind.properties p) ≡ true
fixed-in [] k bind p fixed h = none-some (sym h)
fixed-in (x ∷ xs) zero bind p fixed h = bind-fixed bind p (ap is_fixed_bind (some-same h) ∙ (and-true (is_fixed_bind x) (list_all is_fixed_bind xs) fixed).0)
fixed-in (x ∷ xs) (suc k) bind p fixed h = fixed-in xs k bind p (and-true (is_fixed_bind x) (list_all is_fixed_bind xs) fixed).1 h

pub node-sets : (binds : List Bind) → AreFixed binds → list_all (λ (b : Bind). is_fixed b.node_set) binds ≡ true
node-sets [] h = refl
node-sets (x ∷ xs) h =
    let parts = and-true (is_fixed_bind x) (list_all is_fixed_bind xs) h in
    ap (λ b. b && list_all (λ (b : Bind). is_fixed b.node_set) xs) (bind-parts x parts.0).0 ∙ node-sets xs parts.1

-- ---- what is asked

module _ (scope : Scope) (all : List Visit) (e : Entry) where
  pub asks-type : is_property e.property Kind ≡ true → no_asks ≡ asks_of scope all e
  asks-type h = ap (λ b. asks_by scope all e (not b)) (sym h)

  pub asks-some : (expr : Expr) (reads looks above : List ℕ) → is_property e.property Kind ≡ false → expression_of scope e ≡ Some (computed_of expr)
      → reads ≡ reads_in (trace expr) (setting_for None scope all e.node) (focus_of e) → looks ≡ looks_in (trace expr) (setting_for None scope all e.node) (focus_of e) → above ≡ ancestors_of e.node all
      → record { reads = reads; looks = looks; above = above } ≡ asks_of scope all e
  asks-some expr reads looks above kind h r l a =
      ap (λ ns. record { reads = ns; looks = looks; above = above }) (r ∙ ap (reads_by scope all e) (sym h))
      ∙ ap (λ ns. record { reads = reads_by scope all e (expression_of scope e); looks = ns; above = above }) (l ∙ ap (looks_by scope all e) (sym h))
      ∙ ap (λ ns. record { reads = reads_by scope all e (expression_of scope e); looks = looks_by scope all e (expression_of scope e); above = ns }) a
      ∙ ap (λ b. asks_by scope all e (not b)) (sym kind)

  pub asks-none : (above : List ℕ) → is_property e.property Kind ≡ false → expression_of scope e ≡ None → above ≡ ancestors_of e.node all
      → record { reads = []; looks = []; above = above } ≡ asks_of scope all e
  asks-none above kind h a =
      ap (λ ns. record { reads = ns; looks = []; above = above }) (ap (reads_by scope all e) (sym h))
      ∙ ap (λ ns. record { reads = reads_by scope all e (expression_of scope e); looks = ns; above = above }) (ap (looks_by scope all e) (sym h))
      ∙ ap (λ ns. record { reads = reads_by scope all e (expression_of scope e); looks = looks_by scope all e (expression_of scope e); above = ns }) a
      ∙ ap (λ b. asks_by scope all e (not b)) (sym kind)

-- ---- entry by entry

next-is : (i : ℕ) → i + 1 ≡ suc i
next-is i = omega arith

more : (scope : Scope) (all : List Visit) (i : ℕ) (es : List Entry) → map (asks_of scope all) (take (suc i) es) ≡ map (asks_of scope all) (take i es) ++ asks_at scope all (slice_get es i)
more scope all zero [] = refl
more scope all (suc i) [] = refl
more scope all zero (e ∷ es) = refl
more scope all (suc i) (e ∷ es) = ap (λ l. asks_of scope all e ∷ l) (more scope all i es)

pub web-next : (scope : Scope) (all : List Visit) (i : ℕ) (es : List Entry) → map (asks_of scope all) (take (i + 1) es) ≡ map (asks_of scope all) (take i es) ++ asks_at scope all (slice_get es i)
web-next scope all i es = ap (λ j. map (asks_of scope all) (take j es)) (next-is i) ∙ more scope all i es

more-all : (test : Entry → Bool) (i : ℕ) (es : List Entry) → list_all test (take i es) ≡ true → holds_at test (slice_get es i) ≡ true → list_all test (take (suc i) es) ≡ true
more-all test zero [] h k = refl
more-all test (suc i) [] h k = refl
more-all test zero (e ∷ es) h k = ap (λ b. b && true) k
more-all test (suc i) (e ∷ es) h k =
    let parts = and-true (test e) (list_all test (take i es)) h in
    ap (λ b. b && list_all test (take (suc i) es)) parts.0 ∙ more-all test i es parts.1 k

pub all-next : (test : Entry → Bool) (i : ℕ) (es : List Entry) → list_all test (take i es) ≡ true → holds_at test (slice_get es i) ≡ true → list_all test (take (i + 1) es) ≡ true
all-next test i es h k = ap (λ j. list_all test (take j es)) (next-is i) ∙ more-all test i es h k

pub all-at : (test : Entry → Bool) (i : ℕ) (es : List Entry) → list_all test es ≡ true → holds_at test (slice_get es i) ≡ true
all-at test i [] h = refl
all-at test zero (e ∷ es) h = (and-true (test e) (list_all test es) h).0
all-at test (suc i) (e ∷ es) h = all-at test i es (and-true (test e) (list_all test es) h).1

pub append-none : {X : Type 0} (xs : List X) → xs ++ [] ≡ xs
append-none [] = refl
append-none (x ∷ xs) = ap (λ l. x ∷ l) (append-none xs)

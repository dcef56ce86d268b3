-- The entries of the binds, bind by bind, node by node and property by property.
use Rattle.std.proofs.Common.{◌≡◌, ℕ, suc, ◌+◌, ◌<◌, ◌≤◌, ◌==◌, Bool, true, false, cond, not, ◌&&◌, ◌||◌, List, [], ◌∷◌, ◌++◌, map, filter, take, drop, length, get_or, Option, Some, None, Ok, Err, option_map, is_some, refl, sym, ap, ◌∙◌, subst, arith, append_assoc, take-suc}
use Rattle.std.specs.Prelude.{if◌then◌else◌}
use Rattle.std.specs.List.{flat_map, list_any}
use Rattle.std.proofs.lemmas.Bool.Decides.{nat_tests}
use Rattle.std.proofs.lemmas.List.{take-append-drop, at_drop_more, take_all, map-append, length-map, length-take}
use Rattle.std.proofs.lemmas.List.Concat.{flat_map-cons}
use Rattle.xf_def_syntax.specs.declared.expr.Expr.{Expr}
use Rattle.xf_def_syntax.specs.declared.form.Bind.{Bind}
use Rattle.xf_def_forest.specs.declared.node.NodeId.{NodeId}
use Rattle.xf_def_forest.specs.Shape.{has_elements}
use Rattle.xf_def_forest.specs.Visit.{Visit}
use Rattle.xf_def_model.specs.declared.property.Property.{Property}
use Rattle.xf_def_model.specs.declared.property.Property.TheVariants.{Kind, Calculate, Relevant, Readonly, Required, Constraint}
use Rattle.xf_def_model.specs.Applied.{Entry, Exception, entries_at, entries_by, entries_from, entry_of, exception_from, is_calculate, is_property, on_parent, or_later, properties_of, sets, sets_same, standing_in, twice, unless}
use Rattle.xf_def_model.specs.Rules.{Rule, Scope, computed_of, rule_of}
use Rattle.xf_binds.specs.Held.{Held, entries_in}
use Rattle.xf_eval.proofs.Lists.{append-none}
use Rattle.xf_binds_apply.specs.declared.fault.BindFault.{BindFault}
use Rattle.xf_binds_apply.specs.declared.fault.BindFault.TheVariants.{Twice, OnParent, Memory}
use Rattle.xf_binds_apply.specs.Adding.{Added, Tells, exception_after, if_set}
use Rattle.xf_binds_apply.specs.Fault.{IsApplied}
use Rattle.xf_binds_apply.specs.Standing.{first_standing, is_more}
use Rattle.xf_binds_apply.proofs.AddLaws.{added-both, after-whole, tells-behind, tells-more}
use Rattle.xf_binds_apply.proofs.StandingLaws.{numbers}

no : {A : Type 0} → false ≡ true → A
no h = cc h

pub free : (is_new taken : Bool) → is_new ≡ not taken → is_new ≡ true → taken ≡ false
free is_new true h k = no (sym h ∙ k)
free is_new false h k = refl

-- ---- one entry, which may come again at once

module _ (all : List Visit) (done : List Entry) (e : Entry) (es : List Entry) where
  at-end : Bool → Bool → Option Exception
  at-end taken parent = if taken then Some (twice e.node) else if parent then Some (on_parent e.node) else None

  -- its property is set already
  pub tells-taken : list_any (sets_same e) done ≡ true → exception_after all done (e ∷ es) ≡ Some (twice e.node)
  tells-taken h = ap (λ b. or_later (if b then Some (twice e.node) else if is_calculate e && has_elements all e.node then Some (on_parent e.node) else None) (exception_after all (done ++ e ∷ []) es)) h

  -- a calculate on a parent
  pub tells-parent : list_any (sets_same e) done ≡ false → (is_calculate e && has_elements all e.node) ≡ true → exception_after all done (e ∷ es) ≡ Some (on_parent e.node)
  tells-parent h k =
      ap (λ b. or_later (if b then Some (twice e.node) else if is_calculate e && has_elements all e.node then Some (on_parent e.node) else None) (exception_after all (done ++ e ∷ []) es)) h
      ∙ ap (λ b. or_later (if b then Some (on_parent e.node) else None) (exception_after all (done ++ e ∷ []) es)) k

  pub tells-none : list_any (sets_same e) done ≡ false → (is_calculate e && has_elements all e.node) ≡ false → exception_after all done (e ∷ es) ≡ exception_after all (done ++ e ∷ []) es
  tells-none h k =
      ap (λ b. or_later (if b then Some (twice e.node) else if is_calculate e && has_elements all e.node then Some (on_parent e.node) else None) (exception_after all (done ++ e ∷ []) es)) h
      ∙ ap (λ b. or_later (if b then Some (on_parent e.node) else None) (exception_after all (done ++ e ∷ []) es)) k

same-property : (p : Property) → is_property p p ≡ true
same-property Kind = refl
same-property Calculate = refl
same-property Relevant = refl
same-property Readonly = refl
same-property Required = refl
same-property Constraint = refl

same-number : (n : ℕ) → (n == n) ≡ true
same-number n = grind (arith, nat_tests)

any-last : (done : List Entry) (e o : Entry) → sets_same o e ≡ true → list_any (sets_same o) (done ++ e ∷ []) ≡ true
any-last [] e o h = ap (λ b. b || false) h
any-last (x ∷ done) e o h = by (sets_same o x) (any-last done e o h)
  where
    by : (b : Bool) → list_any (sets_same o) (done ++ e ∷ []) ≡ true → (b || list_any (sets_same o) (done ++ e ∷ [])) ≡ true
    by true i = refl
    by false i = i

-- the same property of the same node once more
pub tells-double : (all : List Visit) (done : List Entry) (bind : ℕ) (p : Property) (n : ℕ) (s : ℕ × ℕ) (others : List (ℕ × ℕ)) → true ≡ is_more others
    → exception_after all (done ++ entry_of bind p n s ∷ []) (map (entry_of bind p n) others) ≡ Some (twice n)
tells-double all done bind p n s [] h = cc h
tells-double all done bind p n s (o ∷ others) h =
    tells-taken all (done ++ entry_of bind p n s ∷ []) (entry_of bind p n o) (map (entry_of bind p n) others)
    (any-last done (entry_of bind p n s) (entry_of bind p n o) (ap (λ b. b && is_property p p) (same-number n) ∙ same-property p))

pub none-more : (others : List (ℕ × ℕ)) → false ≡ is_more others → others ≡ []
none-more [] h = refl
none-more (o ∷ others) h = cc h

-- ---- the properties that a bind sets

filter-next : (p : Property → Bool) (x : Property) (xs : List Property) → if_set (p x) x ++ filter p xs ≡ filter p (x ∷ xs)
filter-next p x xs = by (p x)
  where
    by : (b : Bool) → if_set b x ++ filter p xs ≡ cond b (x ∷ filter p xs) (filter p xs)
    by true = refl
    by false = refl

computed-some : (m : Option Expr) → is_some (option_map computed_of m) ≡ is_some m
computed-some None = refl
computed-some (Some e) = refl

pub properties-are : (b : Bind) → (((((([] ++ if_set (is_some b.properties.kind) Kind) ++ if_set (is_some b.properties.calculate) Calculate) ++ if_set (is_some b.properties.relevant) Relevant) ++ if_set (is_some b.properties.readonly) Readonly)
    ++ if_set (is_some b.properties.required) Required) ++ if_set (is_some b.properties.constraint) Constraint) ≡ properties_of (rule_of b)
properties-are b =
    let q : Property → Bool = sets (rule_of b) in
    let k : List Property = if_set (is_some b.properties.kind) Kind in
    let c : List Property = if_set (is_some b.properties.calculate) Calculate in
    let r : List Property = if_set (is_some b.properties.relevant) Relevant in
    let o : List Property = if_set (is_some b.properties.readonly) Readonly in
    let u : List Property = if_set (is_some b.properties.required) Required in
    let t : List Property = if_set (is_some b.properties.constraint) Constraint in
    append_assoc (((k ++ c) ++ r) ++ o) u t
    ∙ append_assoc ((k ++ c) ++ r) o (u ++ t)
    ∙ append_assoc (k ++ c) r (o ++ (u ++ t))
    ∙ append_assoc k c (r ++ (o ++ (u ++ t)))
    ∙ ap (λ l. k ++ (c ++ (r ++ (o ++ (u ++ l))))) (sym (append-none t) ∙ ap (λ b. if_set b Constraint ++ []) (sym (computed-some b.properties.constraint)) ∙ filter-next q Constraint [])
    ∙ ap (λ l. k ++ (c ++ (r ++ (o ++ l)))) (ap (λ b. if_set b Required ++ filter q (Constraint ∷ [])) (sym (computed-some b.properties.required)) ∙ filter-next q Required (Constraint ∷ []))
    ∙ ap (λ l. k ++ (c ++ (r ++ l))) (ap (λ b. if_set b Readonly ++ filter q (Required ∷ Constraint ∷ [])) (sym (computed-some b.properties.readonly)) ∙ filter-next q Readonly (Required ∷ Constraint ∷ []))
    ∙ ap (λ l. k ++ (c ++ l)) (ap (λ b. if_set b Relevant ++ filter q (Readonly ∷ Required ∷ Constraint ∷ [])) (sym (computed-some b.properties.relevant)) ∙ filter-next q Relevant (Readonly ∷ Required ∷ Constraint ∷ []))
    ∙ ap (λ l. k ++ l) (ap (λ b. if_set b Calculate ++ filter q (Relevant ∷ Readonly ∷ Required ∷ Constraint ∷ [])) (sym (computed-some b.properties.calculate)) ∙ filter-next q Calculate (Relevant ∷ Readonly ∷ Required ∷ Constraint ∷ []))
    ∙ filter-next q Kind (Calculate ∷ Relevant ∷ Readonly ∷ Required ∷ Constraint ∷ [])

pub pushed : (old now acc : List Property) (is_set flag : Bool) (p : Property) → now ≡ old ++ if_set is_set p → old ≡ acc → is_set ≡ flag → now ≡ acc ++ if_set flag p
pushed old now acc is_set flag p n o f = n ∙ ap (λ l. l ++ if_set is_set p) o ∙ ap (λ b. acc ++ if_set b p) f

-- ---- the nodes of a bind

-- those that stand in no set have nothing
flat-none : {A : Type 0} (f : Property → List A) (ps : List Property) → ((p : Property) → f p ≡ []) → flat_map f ps ≡ []
flat-none f [] h = refl
flat-none f (p ∷ ps) h = flat_map-cons f p ps ∙ ap (λ l. l ++ flat_map f ps) (h p) ∙ flat-none f ps h

no-standing : (ss : List (ℕ × ℕ)) → None ≡ first_standing ss → ss ≡ []
no-standing [] h = refl
no-standing (s ∷ ss) h = cc h

pub stands-nowhere : (bind : ℕ) (given : List (List ℕ)) (n : ℕ) (ps : List Property) → None ≡ first_standing (flat_map (standing_in n) given) → flat_map (entries_at bind given n) ps ≡ []
stands-nowhere bind given n ps h = flat-none (entries_at bind given n) ps (λ p. ap (map (entry_of bind p n)) (no-standing (flat_map (standing_in n) given) h))

pub by-numbers : {A : Type 0} (f : ℕ → List A) (ids : List NodeId) → flat_map (λ (i : NodeId). f i.number) ids ≡ flat_map f (numbers ids)
by-numbers f [] = refl
by-numbers f (i ∷ ids) = flat_map-cons (λ (i : NodeId). f i.number) i ids ∙ ap (λ l. f i.number ++ l) (by-numbers f ids) ∙ sym (flat_map-cons f i.number (numbers ids))

-- ---- the binds of a model

abbrev pub of_model : Scope → List Visit → ℕ → Rule → List Entry
of_model scope all bind r = if r.model == scope.model then entries_by scope all bind r else []

from-append : (scope : Scope) (all : List Visit) (k : ℕ) (rs qs : List Rule) → entries_from scope all k (rs ++ qs) ≡ entries_from scope all k rs ++ entries_from scope all (k + length rs) qs
from-append scope all k [] qs = ap (λ j. entries_from scope all j qs) (let e : k ≡ k + 0 = omega arith in e)
from-append scope all k (r ∷ rs) qs =
    ap (λ l. of_model scope all k r ++ l) (from-append scope all (suc k) rs qs)
    ∙ sym (append_assoc (of_model scope all k r) (entries_from scope all (suc k) rs) (entries_from scope all (suc k + length rs) qs))
    ∙ ap (λ j. entries_from scope all k (r ∷ rs) ++ entries_from scope all j qs) (let e : suc k + length rs ≡ k + suc (length rs) = omega arith in e)

module _ (scope : Scope) (all : List Visit) (bs : List Bind) where
  abbrev pub before : ℕ → List Entry
  before i = entries_from scope all 0 (map rule_of (take i bs))

  module _ (i : ℕ) (b : Bind) (within : i < length bs) (here : get_or bs i b ≡ b) where
    many : 0 + length (map rule_of (take i bs)) ≡ i
    many = omega (arith, length-map (take i bs) rule_of, length-take i bs)

    taken : before (i + 1) ≡ before i ++ of_model scope all i (rule_of b)
    taken =
        ap (λ j. before j) (let e : i + 1 ≡ suc i = omega arith in e)
        ∙ ap (λ l. entries_from scope all 0 (map rule_of l)) (take-suc bs i b within ∙ ap (λ x. take i bs ++ x ∷ []) here)
        ∙ ap (entries_from scope all 0) (map-append rule_of (take i bs) (b ∷ []))
        ∙ from-append scope all 0 (map rule_of (take i bs)) (rule_of b ∷ [])
        ∙ ap (λ j. before i ++ entries_from scope all j (rule_of b ∷ [])) many
        ∙ ap (λ l. before i ++ l) (append-none (of_model scope all i (rule_of b)))

    split : entries_from scope all 0 (map rule_of bs) ≡ before i ++ (of_model scope all i (rule_of b) ++ entries_from scope all (suc i) (map rule_of (drop (i + 1) bs)))
    split =
        ap (λ l. entries_from scope all 0 (map rule_of l)) (sym (take-append-drop i bs))
        ∙ ap (entries_from scope all 0) (map-append rule_of (take i bs) (drop i bs))
        ∙ from-append scope all 0 (map rule_of (take i bs)) (map rule_of (drop i bs))
        ∙ ap (λ j. before i ++ entries_from scope all j (map rule_of (drop i bs))) many
        ∙ ap (λ l. before i ++ l) (at_drop_more (λ l. entries_from scope all i (map rule_of l)) bs i b within ∙ ap (λ x. entries_from scope all i (map rule_of (x ∷ drop (i + 1) bs))) here)

    pub bind-other : (done now : List Entry) → (b.model == scope.model) ≡ false → Added all done (before i) now → Added all done (before (i + 1)) now
    bind-other done now other a =
        subst (λ l. Added all done l now) (sym (taken ∙ ap (λ c. before i ++ (if c then entries_by scope all i (rule_of b) else [])) other ∙ append-none (before i))) a

    pub bind-added : (done now after : List Entry) → (b.model == scope.model) ≡ true → Added all done (before i) now → Added all now (entries_by scope all i (rule_of b)) after → Added all done (before (i + 1)) after
    bind-added done now after own a h =
        subst (λ l. Added all done l after) (sym (taken ∙ ap (λ c. before i ++ (if c then entries_by scope all i (rule_of b) else [])) own))
        (added-both all done (before i) now (entries_by scope all i (rule_of b)) after a h)

    pub bind-stopped : (done now : List Entry) (fault : BindFault) → (b.model == scope.model) ≡ true → Added all done (before i) now → Tells fault (exception_after all now (entries_by scope all i (rule_of b)))
        → Tells fault (exception_after all done (entries_from scope all 0 (map rule_of bs)))
    bind-stopped done now fault own a h =
        subst (λ l. Tells fault (exception_after all done l)) (sym split)
        (tells-behind all done (before i) now _ fault a
        (tells-more all now (of_model scope all i (rule_of b)) (entries_from scope all (suc i) (map rule_of (drop (i + 1) bs))) fault
        (subst (λ l. Tells fault (exception_after all now l)) (sym (ap (λ c. if c then entries_by scope all i (rule_of b) else []) own)) h)))

  pub all-before : (i : ℕ) → length bs ≤ i → before i ≡ entries_from scope all 0 (map rule_of bs)
  all-before i h = ap (λ l. entries_from scope all 0 (map rule_of l)) (take_all i bs h)

-- ---- the answer

pub answers-all : (all : List Visit) (entries : List Entry) (held : List Held) → Added all [] entries (entries_in held) → unless (exception_from all [] entries) entries ≡ Ok (entries_in held)
answers-all all entries held a = ap (λ m. unless m entries) (sym (after-whole all entries) ∙ a.1) ∙ ap Ok (sym a.0)

pub answers-fault : (all : List Visit) (entries : List Entry) (fault : BindFault) → Tells fault (exception_after all [] entries) → IsApplied (Err fault) (unless (exception_from all [] entries) entries)
answers-fault all entries (Twice node) h = ap (λ m. unless m entries) (sym (after-whole all entries) ∙ h)
answers-fault all entries (OnParent node) h = ap (λ m. unless m entries) (sym (after-whole all entries) ∙ h)
answers-fault all entries Memory h = tt

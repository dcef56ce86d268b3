-- What the entries of a node ask of it decides whether it is valid.
use Rattle.std.proofs.Common.{◌≡◌, ℕ, Bool, true, false, cond, not, ◌&&◌, ◌||◌, List, [], ◌∷◌, map, filter, Result, Ok, Err, IfOk, Option, Some, None, find, option_and_then, option_map, slice_get, refl, sym, ap, ◌∙◌}
use Rattle.std.proofs.lemmas.Option.{slice_get-map}
use Rattle.xf_num.specs.Written.{is_empty}
use Rattle.xf_schema.specs.declared.written.Restriction.{Restriction}
use Rattle.xf_schema.specs.Facets.{is_of_type}
use Rattle.xf_def_syntax.specs.declared.form.Bind.{Bind}
use Rattle.xf_def_syntax.specs.declared.form.Instance.{Instance}
use Rattle.xf_def_forest.specs.declared.content.Node.{Node}
use Rattle.xf_def_forest.specs.StringValue.{string_value}
use Rattle.xf_def_forest.specs.Visit.{Visit, visits}
use Rattle.xf_def_model.specs.declared.property.Property.{Property}
use Rattle.xf_def_model.specs.declared.property.Property.TheVariants.{Kind, Calculate, Relevant, Readonly, Required, Constraint}
use Rattle.xf_def_model.specs.Applied.{Entry, is_property}
use Rattle.xf_def_model.specs.Rules.{Rule, Scope, rule_of}
use Rattle.xf_def_model.specs.Properties.{kind_of, meets_kind, own, sets_on}
use Rattle.xf_binds.specs.Held.{AreSingle, is_set}
use Rattle.xf_binds.specs.Kept.{Kept, truth_at, truth_from, truth_if, values_of}
use Rattle.xf_binds.specs.Table.{truth_told}
use Rattle.xf_binds.proofs.Singles.{first-single}
use Rattle.xf_binds.proofs.Truths.{own-in}
use Rattle.xf_binds.proofs.Unset.{set-on-none}
use Rattle.xf_valid.specs.Failed.{asks_any, by_property, can_fail, failed_at, fails, fails_told, is_under, kind_in}
use Rattle.xf_valid.specs.Invalid.{invalid_in, is_held, is_invalid}
use Rattle.xf_valid.proofs.InvalidLemmas.{and-none, valid-unset}

-- ---- what an entry says is what its node has, since no property of a node is set twice

module _ (types : List Restriction) (scope : Scope) (nodes : List Node) (k : Kept) (at : ℕ) (e : Entry) (binds : List Bind) (rules : scope.rules ≡ map rule_of binds) (single : AreSingle k.entries) (there : slice_get k.entries at ≡ Some e) where
  abbrev s : List ℕ
  s = string_value e.node (visits nodes)

  found : (p : Property) → e.property ≡ p → find (sets_on e.node p) k.entries ≡ Some e
  found p h = ap (λ q. find (sets_on e.node q) k.entries) (sym h) ∙ first-single k.entries single at e there

  truth-is : (p : Property) → e.property ≡ p → is_property p Kind ≡ false → truth_at k at ≡ truth_from k.stood e
  truth-is p h c = ap (option_and_then (truth_if k.stood)) there ∙ ap (λ b. cond b (truth_from k.stood e) None) (ap (λ q. not (is_property q Kind)) h ∙ ap not c)

  own-told : (p : Property) (d : Bool) → e.property ≡ p → is_property p Kind ≡ false → truth_told d (Some (truth_at k at)) ≡ own (values_of k) p d e.node
  own-told p d h c =
      sym (own-in k e.node p d c ∙ ap (λ o. truth_told d (option_map (truth_from k.stood) o)) (found p h) ∙ ap (λ t. truth_told d (Some t)) (sym (truth-is p h c)))

  kind-told : e.property ≡ Kind → kind_in binds e.bind ≡ kind_of scope k.entries e.node
  kind-told h =
      sym (ap (λ o. option_and_then (λ (x : Entry). option_and_then (λ (r : Rule). r.kind) (slice_get scope.rules x.bind)) o) (found Kind h)
      ∙ ap (λ rs. option_and_then (λ (r : Rule). r.kind) (slice_get rs e.bind)) rules
      ∙ ap (option_and_then (λ (r : Rule). r.kind)) (slice_get-map rule_of binds e.bind)
      ∙ given (slice_get binds e.bind))
    where
      given : (o : Option Bind) → option_and_then (λ (r : Rule). r.kind) (option_map rule_of o) ≡ option_and_then (λ (b : Bind). b.properties.kind) o
      given None = refl
      given (Some b) = refl

  fails-told : fails_told types binds e (truth_at k at) s ≡ fails types scope nodes k e.node e.property
  fails-told = by e.property refl
    where
      by : (p : Property) → e.property ≡ p
          → by_property (not (truth_told true (Some (truth_at k at)))) (truth_told false (Some (truth_at k at)) && is_empty s) (not (meets_kind (is_of_type types) (kind_in binds e.bind) s)) p
          ≡ fails types scope nodes k e.node p
      by Constraint h = ap not (own-told Constraint true h refl)
      by Required h = ap (λ b. b && is_empty s) (own-told Required false h refl)
      by Kind h = ap (λ o. not (meets_kind (is_of_type types) o s)) (kind-told h)
      by Calculate h = refl
      by Relevant h = refl
      by Readonly h = refl

pub failed-entry : (types : List Restriction) (scope : Scope) (nodes : List Node) (roots : List ℕ) (k : Kept) (at : ℕ) (e : Entry) (binds : List Bind) (failed : Bool) (truth : Option Bool)
    → scope.rules ≡ map rule_of binds → AreSingle k.entries → slice_get k.entries at ≡ Some e → truth ≡ truth_at k at
    → failed ≡ (is_under nodes roots e.node && fails_told types binds e truth (string_value e.node (visits nodes)))
    → cond failed (e.node ∷ []) [] ≡ failed_at types scope nodes roots k (slice_get k.entries at)
failed-entry types scope nodes roots k at e binds failed truth rules single there is fails-is =
    ap (λ b. cond b (e.node ∷ []) [])
    (fails-is ∙ ap (λ t. is_under nodes roots e.node && fails_told types binds e t (string_value e.node (visits nodes))) is
    ∙ ap (λ b. is_under nodes roots e.node && b) (fails-told types scope nodes k at e binds rules single there))
    ∙ sym (ap (failed_at types scope nodes roots k) there)

pub told-not : (types : List Restriction) (binds : List Bind) (e : Entry) (truth : Option Bool) (text : List ℕ) → can_fail e.property truth ≡ false → fails_told types binds e truth text ≡ false
told-not types binds e truth text h = by e.property h
  where
    by : (p : Property) → can_fail p truth ≡ false
        → by_property (not (truth_told true (Some truth))) (truth_told false (Some truth) && is_empty text) (not (meets_kind (is_of_type types) (kind_in binds e.bind) text)) p ≡ false
    by Constraint h = h
    by Required h = ap (λ b. b && is_empty text) h
    by Kind h = cc h
    by Calculate h = refl
    by Relevant h = refl
    by Readonly h = refl

-- ---- where it is asked nothing

filter-none : {X : Type 0} (test : X → Bool) (xs : List X) → ((x : X) → test x ≡ false) → filter test xs ≡ []
filter-none test [] h = refl
filter-none test (x ∷ xs) h = ap (λ b. cond b (x ∷ filter test xs) (filter test xs)) (h x) ∙ filter-none test xs h

pub invalid-nothing : (types : List Restriction) (scope : Scope) (instances : List Instance) (nodes : List Node) (k : Kept) → asks_any k.entries ≡ false → invalid_in types scope instances nodes k ≡ []
invalid-nothing types scope instances nodes k h =
    ap (map (λ (v : Visit). v.number)) (filter-none (λ (v : Visit). is_invalid types scope instances nodes k v.number) (visits nodes) (λ v.
    ap (λ b. is_held instances scope.model nodes v.number && b) (valid-unset types scope nodes k v.number (none Constraint (first c r t h) v.number) (none Required (second c r t h) v.number) (none Kind (third c r t h) v.number))
    ∙ and-none (is_held instances scope.model nodes v.number)))
  where
    c : Bool
    c = is_set Constraint k.entries

    r : Bool
    r = is_set Required k.entries

    t : Bool
    t = is_set Kind k.entries

    none : (p : Property) → is_set p k.entries ≡ false → (n : ℕ) → find (sets_on n p) k.entries ≡ None
    none p e n = set-on-none p k.entries e n

    first : (a b c : Bool) → (a || b || c) ≡ false → a ≡ false
    first true b c e = cc e
    first false b c e = refl

    second : (a b c : Bool) → (a || b || c) ≡ false → b ≡ false
    second true b c e = cc e
    second false true c e = cc e
    second false false c e = refl

    third : (a b c : Bool) → (a || b || c) ≡ false → c ≡ false
    third true b c e = cc e
    third false true c e = cc e
    third false false c e = e

-- what follows from a value
pub if-ok : {A E : Type 0} (r : Result A E) (P Q : A → Type 0) → ((x : A) → P x → Q x) → IfOk r P → IfOk r Q
if-ok (Ok x) P Q f h = f x h
if-ok (Err e) P Q f h = h

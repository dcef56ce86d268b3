-- Where no entry sets a property, those above a node change nothing.
use Rattle.std.proofs.Common.{◌≡◌, ℕ, ◌<◌, length, Bool, true, false, not, ◌&&◌, ◌||◌, List, [], ◌∷◌, Option, Some, None, option_map, is_some, refl, sym, ap, ◌∙◌, arith}
use Rattle.std.specs.Bool.{OnFalse}
use Rattle.std.specs.List.{list_all, list_any}
use Rattle.std.proofs.lemmas.Bool.{OnFalse_from}
use Rattle.xf_def_forest.specs.declared.content.Node.{Node}
use Rattle.xf_def_forest.specs.declared.node.NodeId.{NodeId}
use Rattle.xf_def_forest.specs.Forest.{has_number}
use Rattle.xf_def_forest.specs.Visit.{Visit, visits, ancestors_of, parent_of}
use Rattle.xf_def_forest.specs.WellFormed.{are_apart}
use Rattle.xf_def_model.specs.declared.property.Property.{Property}
use Rattle.xf_def_model.specs.declared.property.Property.TheVariants.{Kind, Calculate, Relevant, Readonly}
use Rattle.xf_def_model.specs.Applied.{is_property}
use Rattle.xf_def_model.specs.Properties.{has_own, own, own_readonly}
use Rattle.xf_binds.specs.Held.{is_set}
use Rattle.xf_binds.specs.Kept.{Kept, values_in}
use Rattle.xf_binds.specs.Table.{truth_told}
use Rattle.xf_binds.proofs.Truths.{has-among, own-among}
use Rattle.xf_binds.proofs.Unset.{set-among-none}
use Rattle.xf_valid.specs.declared.above.Looks.{Looks}
use Rattle.xf_valid.specs.declared.above.Inherited.{Inherited}
use Rattle.xf_valid.specs.Looks.{AreLooks, IsUnset, is_open}
use Rattle.xf_valid.proofs.Chains.{no-parent, parent-chain}

pub unset-from : (b : Bool) (table : List Kept) (p : Property) → b ≡ list_any (λ (k : Kept). is_set p k.entries) table → OnFalse b (IsUnset table p)
unset-from b table p is = OnFalse_from b _ (λ e. set-among-none table p (sym is ∙ e))

pub own-unset : (table : List Kept) (p : Property) (d : Bool) (n : ℕ) → is_property p Kind ≡ false → IsUnset table p → own (values_in table) p d n ≡ d
own-unset table p d n c h = own-among table n p d c ∙ ap (truth_told d) (h n)

pub has-unset : (table : List Kept) (n : ℕ) → IsUnset table Calculate → has_own (values_in table) Calculate n ≡ false
has-unset table n h = has-among table n Calculate refl ∙ ap is_some (h n)

readonly-unset : (table : List Kept) (n : ℕ) → IsUnset table Readonly → IsUnset table Calculate → own_readonly (values_in table) n ≡ false
readonly-unset table n r c = own-unset table Readonly (has_own (values_in table) Calculate n) n refl r ∙ has-unset table n c

-- ---- nothing changes any more

all-true : (test : ℕ → Bool) → ((n : ℕ) → test n ≡ true) → (ns : List ℕ) → list_all test ns ≡ true
all-true test h [] = refl
all-true test h (n ∷ ns) = ap (λ b. b && list_all test ns) (h n) ∙ all-true test h ns

any-false : (test : ℕ → Bool) → ((n : ℕ) → test n ≡ false) → (ns : List ℕ) → list_any test ns ≡ false
any-false test h [] = refl
any-false test h (n ∷ ns) = ap (λ b. b || list_any test ns) (h n) ∙ any-false test h ns

or-left : (a b : Bool) → (a || b) ≡ false → a ≡ false
or-left true b h = cc h
or-left false b h = refl

or-right : (a b : Bool) → (a || b) ≡ false → b ≡ false
or-right true b h = cc h
or-right false b h = h

pub closed-relevant : (table : List Kept) (l : Looks) (i : Inherited) (ns : List ℕ) → AreLooks table l → is_open l i ≡ false → (i.relevant && list_all (own (values_in table) Relevant true) ns) ≡ i.relevant
closed-relevant table l i ns looks closed = by l.relevant i.relevant looks.0 (or-left (l.relevant && i.relevant) ((l.readonly || l.calculate) && not i.readonly) closed)
  where
    by : (a b : Bool) → OnFalse a (IsUnset table Relevant) → (a && b) ≡ false → (b && list_all (own (values_in table) Relevant true) ns) ≡ b
    by a false h e = refl
    by true true h e = cc e
    by false true h e = all-true (own (values_in table) Relevant true) (λ n. own-unset table Relevant true n refl h) ns

pub closed-readonly : (table : List Kept) (l : Looks) (i : Inherited) (ns : List ℕ) → AreLooks table l → is_open l i ≡ false → (i.readonly || list_any (own_readonly (values_in table)) ns) ≡ i.readonly
closed-readonly table l i ns looks closed =
    by l.readonly l.calculate i.readonly looks.1 looks.2 (or-right (l.relevant && i.relevant) ((l.readonly || l.calculate) && not i.readonly) closed)
  where
    by : (a b r : Bool) → OnFalse a (IsUnset table Readonly) → OnFalse b (IsUnset table Calculate) → ((a || b) && not r) ≡ false → (r || list_any (own_readonly (values_in table)) ns) ≡ r
    by a b true h g e = refl
    by true b false h g e = cc e
    by false true false h g e = cc e
    by false false false h g e = any-false (own_readonly (values_in table)) (λ n. readonly-unset table n h g) ns

-- ---- one step up

and-group : (a b c : Bool) → ((a && b) && c) ≡ (a && (b && c))
and-group true b c = refl
and-group false b c = refl

or-group : (a b c : Bool) → ((a || b) || c) ≡ (a || (b || c))
or-group true b c = refl
or-group false b c = refl

pub relevant-here : (table : List Kept) (at : ℕ) (above : List ℕ) (was now all : Bool) → now ≡ (was && own (values_in table) Relevant true at)
    → (was && list_all (own (values_in table) Relevant true) (at ∷ above)) ≡ all → (now && list_all (own (values_in table) Relevant true) above) ≡ all
relevant-here table at above was now all is so_far =
    ap (λ b. b && list_all (own (values_in table) Relevant true) above) is ∙ and-group was (own (values_in table) Relevant true at) (list_all (own (values_in table) Relevant true) above) ∙ so_far

pub readonly-here : (table : List Kept) (at : ℕ) (above : List ℕ) (was now any : Bool) → now ≡ (was || own_readonly (values_in table) at)
    → (was || list_any (own_readonly (values_in table)) (at ∷ above)) ≡ any → (now || list_any (own_readonly (values_in table)) above) ≡ any
readonly-here table at above was now any is so_far =
    ap (λ b. b || list_any (own_readonly (values_in table)) above) is ∙ or-group was (own_readonly (values_in table) at) (list_any (own_readonly (values_in table)) above) ∙ so_far

-- a node and those above it
abbrev pub path : Option ℕ → List Visit → List ℕ
path None all = []
path (Some n) all = n ∷ ancestors_of n all

pub path-up : (nodes : List Node) (at : ℕ) (next : Option ℕ) → are_apart nodes ≡ true → has_number at nodes ≡ true → next ≡ parent_of at (visits nodes) → path next (visits nodes) ≡ ancestors_of at (visits nodes)
path-up nodes at None a live e = sym (no-parent (visits nodes) at (sym e))
path-up nodes at (Some p) a live e = sym (parent-chain nodes at p a live (sym e))

pub path-shorter : (nodes : List Node) (at : ℕ) (next : Option ℕ) → are_apart nodes ≡ true → has_number at nodes ≡ true → next ≡ parent_of at (visits nodes) → length (path next (visits nodes)) < length (path (Some at) (visits nodes))
path-shorter nodes at next a live e =
    let same : length (path next (visits nodes)) ≡ length (ancestors_of at (visits nodes)) = ap length (path-up nodes at next a live e) in
    omega (arith, same)

-- ---- what holds of the next node, where it is known which it is

abbrev pub number_of : Option NodeId → Option ℕ
number_of next = option_map (λ (i : NodeId). i.number) next

pub relevant-at : (table : List Kept) (all : List Visit) (next is : Option NodeId) (was told : Bool) → next ≡ is
    → (was && list_all (own (values_in table) Relevant true) (path (number_of next) all)) ≡ told → (was && list_all (own (values_in table) Relevant true) (path (number_of is) all)) ≡ told
relevant-at table all next is was told e so_far = sym (ap (λ o. was && list_all (own (values_in table) Relevant true) (path (number_of o) all)) e) ∙ so_far

pub readonly-at : (table : List Kept) (all : List Visit) (next is : Option NodeId) (was told : Bool) → next ≡ is
    → (was || list_any (own_readonly (values_in table)) (path (number_of next) all)) ≡ told → (was || list_any (own_readonly (values_in table)) (path (number_of is) all)) ≡ told
readonly-at table all next is was told e so_far = sym (ap (λ o. was || list_any (own_readonly (values_in table)) (path (number_of o) all)) e) ∙ so_far

pub and-true : (b : Bool) → (b && true) ≡ b
and-true true = refl
and-true false = refl

pub or-false : (b : Bool) → (b || false) ≡ b
or-false true = refl
or-false false = refl

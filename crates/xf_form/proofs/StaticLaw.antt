-- The computed expressions of a form that is not refused were read, and are static.
use Rattle.std.proofs.Common.{◌≡◌, ℕ, suc, Bool, true, false, not, ◌&&◌, ◌==◌, List, [], ◌∷◌, ◌++◌, cond, codes, Option, Some, None, Result, Ok, Err, is_some, is_ok, refl, ap, sym, ◌∙◌, subst, inl, inr}
use Rattle.std.specs.Prelude.{option_map, unwrap_or}
use Rattle.std.specs.List.{list_any}
use Rattle.std.proofs.lemmas.Bool.{cases_Bool, and_parts, or_parts, eqb-true, cond-true, cond-false}
use Rattle.std.specs.Str.{chars}
use lib.Utf8.{encode}
use Rattle.xf_num.specs.Number.{scale}
use Rattle.xf_path.specs.Tokens.{kind_of_name}
use Rattle.xf_path.specs.Steps.{axis_called, axis_rule, type_called, target, node_test, predicate, more_predicates, abbreviated, written, step}
use Rattle.xf_path.specs.Paths.{more_steps, steps, path}
use Rattle.xf_path.specs.Calls.{more_arguments, arguments, called, call}
use Rattle.xf_path.specs.Primary.{number, unquoted, literal, primary, grouped, onward, filtered, operand}
use Rattle.xf_path.specs.Operators.{operator_of, more_links, chain}
use Rattle.xf_path.specs.Grammar.{unary_by, ranked, signed}
use Rattle.xf_def_syntax.specs.declared.expr.Expr.{Expr}
use Rattle.xf_def_syntax.specs.declared.expr.Expr.TheFolds.{fold-roll-Expr, fold_out-Step}
use Rattle.xf_def_syntax.specs.declared.expr.Expr.TheOpen.{Expr-F}
use Rattle.xf_def_syntax.specs.declared.expr.Expr.TheVariants as e
use Rattle.xf_def_syntax.specs.declared.expr.Expr.TheVariants.{rolls-Path}
use Rattle.xf_def_syntax.specs.declared.expr.Start.TheVariants as start
use Rattle.xf_def_syntax.specs.declared.expr.Step.{Step, roll-Step}
use Rattle.xf_def_syntax.specs.declared.expr.Test.TheVariants as test
use Rattle.xf_name.specs.declared.axis.Axis.TheVariants as axis
use Rattle.xf_def_syntax.specs.declared.form.Bind.{Bind}
use Rattle.xf_name.specs.Bindings.{Bindings}
use Rattle.xf_name.specs.declared.fault.NameFault.{NameFault}
use Rattle.xf_path.specs.Grammar.{parsed}
use Rattle.xf_path.specs.Static.{static_fault, static_of, static_of_step, expr_static, link_static, step_static}
use Rattle.xf_path.specs.StaticParts.{Static, LinkStatic}
use Rattle.xf_path.specs.declared.fault.ParseFault.{ParseFault}
use Rattle.xf_form_vocabulary.specs.Attributes.{Shown, known_in, text_in}
use Rattle.xf_form_vocabulary.specs.Classes.{has_properties}
use Rattle.xf_form_vocabulary.specs.Faults.{is_readable, is_moving, is_bad_expression, is_moving_expression, is_moving_by}
use Rattle.xf_form_vocabulary.specs.Rules.{is_expression, is_computed, is_property}
use Rattle.xf_form_vocabulary.specs.declared.attribute.TheConstants as at
use Rattle.xf_form_vocabulary.specs.declared.tag.Tag.{Tag}
use Rattle.xf_form_vocabulary.specs.declared.tag.Tag.TheVariants as tag
use Rattle.xf_form_refusals.specs.declared.classes.Class.TheVariants as class
use Rattle.xf_form_refusals.specs.declared.refusals.Refusal.{Refusal}
use Rattle.xf_form_refusals.specs.Classes.{is_of}
use Rattle.xf_form_refusals.specs.Decimals.{decimals_of}
use Rattle.xf_form_refusals.specs.Refusals.{refusal_at, own_refusal, own_by, or_later, first_from, first_refusal, first_model, lacks_model, unless_fault}
use Rattle.xf_form_refusals.specs.Refused.{by_element, refusal_of}
use Rattle.xf_form_refusals.specs.Rows.{Seen, is_numbered}
use Rattle.xf_form_refusals.specs.Walk.{rows_of}
use Rattle.xf_form_refusals.specs.Standing.{is_outside}
use Rattle.xf_form.specs.Computed.{IsReadStatic, AreReadStatic, AllReadStatic, LoadedStatic}
use Rattle.xf_form.specs.Models.{bind_of, bind_by}
use Rattle.xf_form.specs.Tables.{each_from, binds_of}
use Rattle.xf_form.proofs.LoadedLemmas.{came_by}
use Rattle.xf_form.specs.Written.{expr_of, expr_or_here, expr_at}

-- ---- an attribute that has no fault

attribute_is : (k : Shown) (code : ℕ) (text : List ℕ) (p : Shown → Bool) → (k.0 == code) ≡ true → Some k.1 ≡ Some text → p k ≡ false → p (code, text) ≡ false
attribute_is k code text p same found none =
    let numbered : k.0 ≡ code = eqb-true k.0 code same in
    let told : k.1 ≡ text = cc in
    sym (ap (λ n. p (n, k.1)) numbered ∙ ap (λ t. p (code, t)) told) ∙ none

none_at : (p : Shown → Bool) (known : List Shown) (code : ℕ) (text : List ℕ) → list_any p known ≡ false → text_in code known ≡ Some text → p (code, text) ≡ false
none_at p [] code text none found = cc
none_at p (k ∷ ks) code text none found =
    let parts = or_parts (p k) (list_any p ks) none in
    elim (cases_Bool (k.0 == code)) [
      | inl t ↦ attribute_is k code text p t (sym (cond-true (k.0 == code) (Some k.1) (text_in code ks) t) ∙ found) parts.0
      | inr f ↦ none_at p ks code text parts.1 (sym (cond-false (k.0 == code) (Some k.1) (text_in code ks) f) ∙ found)
    ]

-- ---- an expression that was read

none_of : (o : Option ℕ) → is_some o ≡ false → o ≡ None
none_of None h = refl
none_of (Some n) h = cc

by_parse : (d : ℕ) (b : Bindings) (text : List ℕ) (r : Result Expr ParseFault) → parsed d b text ≡ r → is_ok r ≡ true → is_moving_by r ≡ false → IsReadStatic d b (Some (expr_or_here r))
by_parse d b text (Ok expr) is reads still = (text, is, none_of (static_fault expr) still)
by_parse d b text (Err fault) is reads still = absurd (cc)

read_static : (d : ℕ) (b : Bindings) (text : List ℕ) → is_readable d b text ≡ true → is_moving d b text ≡ false → IsReadStatic d b (Some (expr_of d b text))
read_static d b text reads still = by_parse d b text (parsed d b text) refl reads still

not_false : (c : Bool) → not c ≡ false → c ≡ true
not_false true h = refl
not_false false h = cc

if_first : (c d : Bool) → c ≡ true → (c && d) ≡ false → d ≡ false
if_first true d holds none = none
if_first false d holds none = cc

record HasNoFault (d : ℕ) (b : Bindings) (t : Tag) (known : List Shown) : Type 0 where
  good : list_any (is_bad_expression d b t) known ≡ false
  still : list_any (is_moving_expression d b t) known ≡ false

by_text : (d : ℕ) (b : Bindings) (t : Tag) (known : List Shown) (code : ℕ) (o : Option (List ℕ)) → text_in code known ≡ o → is_expression t code ≡ true → is_computed t code ≡ true → HasNoFault d b t known → IsReadStatic d b (option_map (expr_of d b) o)
by_text d b t known code None is asks counts fine = tt
by_text d b t known code (Some text) is asks counts fine =
    read_static d b text
    (not_false (is_readable d b text) (if_first (is_expression t code) (not (is_readable d b text)) asks (none_at (is_bad_expression d b t) known code text fine.good is)))
    (if_first (is_computed t code) (is_moving d b text) counts (none_at (is_moving_expression d b t) known code text fine.still is))

-- the computed expressions of a bind
is_asked : (t : Tag) (code : ℕ) → has_properties t ≡ true → is_property code ≡ true → is_expression t code ≡ true
is_asked tag.Bind code h p = p
is_asked t code h p = cc

is_counted : (t : Tag) (code : ℕ) → has_properties t ≡ true → is_property code ≡ true → is_computed t code ≡ true
is_counted tag.Bind code h p = p
is_counted t code h p = cc

attribute_static : (d : ℕ) (b : Bindings) (t : Tag) (known : List Shown) (code : ℕ) → has_properties t ≡ true → is_property code ≡ true → HasNoFault d b t known → IsReadStatic d b (expr_at d b known code)
attribute_static d b t known code h p fine = by_text d b t known code (text_in code known) refl (is_asked t code h p) (is_counted t code h p) fine

dot_reads : (d : ℕ) (b : Bindings) → is_readable d b (codes ".") ≡ true
unfolding chars scale encode kind_of_name axis_called axis_rule type_called target node_test predicate more_predicates abbreviated written step more_steps steps path more_arguments arguments called call number unquoted literal primary grouped onward filtered operand operator_of more_links chain unary_by ranked signed
dot_reads d b = refl

-- the step that `.` is
abbrev self_step : Step
self_step = roll-Step (record { place = 0; is_below = false; is_written = false; axis = axis.Self_; test = test.Node; predicates = [] })

dot_is : (d : ℕ) (b : Bindings) → parsed d b (codes ".") ≡ Ok (e.Path 0 start.Context (self_step ∷ []))
unfolding chars scale encode kind_of_name axis_called axis_rule type_called target node_test predicate more_predicates abbreviated written step more_steps steps path more_arguments arguments called call number unquoted literal primary grouped onward filtered operand operator_of more_links chain unary_by ranked signed
dot_is d b = refl

step_plain : static_of_step self_step ≡ None
step_plain = fold_out-Step Static LinkStatic (Option ℕ) expr_static link_static step_static self_step

path_plain : static_of (e.Path 0 start.Context (self_step ∷ [])) ≡ expr_static (Expr-F.Path 0 start.Context (static_of_step self_step ∷ []))
path_plain =
    ap static_of (sym (rolls-Path 0 start.Context (self_step ∷ [])))
    ∙ fold-roll-Expr Static LinkStatic (Option ℕ) expr_static link_static step_static (Expr-F.Path 0 start.Context (self_step ∷ []))

dot_still : (d : ℕ) (b : Bindings) → is_moving d b (codes ".") ≡ false
dot_still d b =
    ap is_moving_by (dot_is d b) ∙ ap (λ x. is_some x.fault) path_plain ∙ ap (λ x. is_some (expr_static (Expr-F.Path 0 start.Context (x ∷ []))).fault) step_plain

node_set_static : (d : ℕ) (b : Bindings) (t : Tag) (known : List Shown) (o : Option (List ℕ)) → text_in at.NODESET known ≡ o → has_properties t ≡ true → HasNoFault d b t known → IsReadStatic d b (Some (expr_of d b (unwrap_or o (codes "."))))
node_set_static d b t known None is h fine = read_static d b (codes ".") (dot_reads d b) (dot_still d b)
node_set_static d b t known (Some text) is h fine = by_text d b t known at.NODESET (Some text) is (is_asked t at.NODESET h refl) (is_counted t at.NODESET h refl) fine

bind_static : (d : ℕ) (b : Bindings) (all : List Seen) (place : ℕ) (r : Seen) (known : List Shown) → has_properties r.tag ≡ true → HasNoFault d b r.tag known → AreReadStatic d b (bind_by d b all place r known)
bind_static d b all place r known h fine = record {
  node_set = node_set_static d b r.tag known (text_in at.NODESET known) refl h fine;
  calculate = attribute_static d b r.tag known at.CALCULATE h refl fine;
  relevant = attribute_static d b r.tag known at.RELEVANT h refl fine;
  readonly = attribute_static d b r.tag known at.READONLY h refl fine;
  required = attribute_static d b r.tag known at.REQUIRED h refl fine;
  constraint = attribute_static d b r.tag known at.CONSTRAINT h refl fine;
}

-- ---- an element that is not refused

pub unless_none : (o : Option NameFault) (x : Option ℕ) → unless_fault o x ≡ None → x ≡ None
unless_none None x h = h
unless_none (Some fault) x h = cc

pub if_none : (c : Bool) (n : ℕ) (rest : Option ℕ) → cond c (Some n) rest ≡ None → (c ≡ false) × (rest ≡ None)
if_none false n rest h = (refl, h)
if_none true n rest h = (cc, cc)

own_fine : (d : ℕ) (b : Bindings) (all : List Seen) (m : Option ℕ) (place : ℕ) (r : Seen) (known : List Shown) → own_by d b all m place r known ≡ None → HasNoFault d b r.tag known
own_fine d b all m place r known none =
    let model = if_none (lacks_model all m place r) 6 _ none in
    let good = if_none (list_any (is_bad_expression d b r.tag) known) 7 _ model.1 in
    let still = if_none (list_any (is_moving_expression d b r.tag) known) 8 _ good.1 in
    record { good = good.0; still = still.0 }

row_fine : (d : ℕ) (b : Bindings) (all : List Seen) (m : Option ℕ) (place : ℕ) (r : Seen) → refusal_at d b all m place r ≡ None → is_of class.Bind r ≡ true → AreReadStatic d b (bind_of d b all place r)
row_fine d b all m place r none holds =
    let kind = and_parts (is_numbered r) (has_properties r.tag) holds in
    let outside = and_parts (is_outside r.standing.zone) _ kind.0 in
    let own : own_refusal d b all m place r ≡ None = sym (cond-true (is_outside r.standing.zone) (own_refusal d b all m place r) None outside.0) ∙ unless_none _ _ none in
    bind_static d b all place r (known_in b r.attributes) kind.1 (own_fine d b all m place r (known_in b r.attributes) own)

-- ---- all of them

pub later_none : (place : ℕ) (o : Option ℕ) (later : Option Refusal) → or_later place o later ≡ None → (o ≡ None) × (later ≡ None)
later_none place None later h = (refl, h)
later_none place (Some n) later h = (cc, cc)

joined : (d : ℕ) (b : Bindings) (c : Bool) (x : Bind) (rest : List Bind) → (c ≡ true → AreReadStatic d b x) → AllReadStatic d b rest → AllReadStatic d b (cond c (x ∷ []) [] ++ rest)
joined d b true x rest one more = (one refl, more)
joined d b false x rest one more = more

pub binds_static : (d : ℕ) (b : Bindings) (all : List Seen) (m : Option ℕ) (place : ℕ) (rs : List Seen) → first_from d b all m place rs ≡ None → AllReadStatic d b (each_from class.Bind (bind_of d b all) place rs)
binds_static d b all m place [] none = tt
binds_static d b all m place (r ∷ rs) none =
    let parts = later_none place (refusal_at d b all m place r) (first_from d b all m (suc place) rs) none in
    joined d b (is_of class.Bind r) (bind_of d b all place r) (each_from class.Bind (bind_of d b all) (suc place) rs) (row_fine d b all m place r parts.0) (binds_static d b all m (suc place) rs parts.1)

-- ---- a form that is loaded

pub none_said : (all : List Seen) (o : Option Refusal) → by_element all o ≡ None → o ≡ None
none_said all None h = refl
none_said all (Some r) h = cc

unrefused : (b : Bindings) (all : List Seen) → refusal_of b all ≡ None → AllReadStatic (decimals_of b all) b (binds_of (decimals_of b all) b all)
unrefused b all none = binds_static (decimals_of b all) b all (first_model all) 0 all (none_said all (first_refusal b all) none)

pub loaded_static : LoadedStatic
loaded_static bytes loaded is =
    let came = came_by bytes loaded is in
    subst (λ f. AllReadStatic f.decimals loaded.prefixes f.tables.binds) (sym came.form) (unrefused loaded.prefixes (rows_of loaded.prefixes loaded.lit) came.unrefused)

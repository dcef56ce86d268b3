use Rattle.std.proofs.Common.{ℕ, List, ◌≡◌, Some, option_map, ◌∙◌, sym, ap, arith}
use Rattle.std.proofs.lemmas.Bool.Decides.{nat_tests}
use Rattle.serde_json.specs.View.{items_view}
use Rattle.xf_line.specs.declared.event.Event.TheVariants.{Set}
use Rattle.xf_line.specs.Line.{rows_in}
use Rattle.xf_line.proofs.Arrays.{set_unless, set_when}
use Rattle.xf_line.proofs.reading.set_in.Goals as goal

pub returns-in_default : goal.returns-in_default
returns-in_default c = sym (set_unless c.args.rest.now (λ e. grind (arith, nat_tests)))

pub returns-in_ok-from_str-in-Some-2 : goal.returns-in_ok-from_str-in-Some-2
returns-in_ok-from_str-in-Some-2 c =
    let id : List ℕ = c.in-Some-Some-Some.id.now in
    let text : List ℕ = c.in-Some-Some-Some.text.now in
    let found = set_when c.args.rest.now c.id-item.result c.rows-item.result c.text-item.result id text (items_view c.in-Some-Some-Some.rows.now.items) (omega arith) c.id-item.is c.rows-item.is c.text-item.is in
    let rows : rows_in (items_view c.in-Some-Some-Some.rows.now.items) ≡ Some c.in-Some.rows = ap (λ vs. rows_in (items_view vs)) (sym c.deref.ensures.value) ∙ sym c.in_ok-rows.ensures ∙ c.in-Some.is in
    let meant = found c.in-Some-Some-Some.ensures c.in-Some-Some-Some.ensures' c.in-Some-Some-Some.ensures'' ∙ ap (option_map (λ r. Set id r text)) rows in
    ap (λ x. Some (Set x c.rows.inside.items.items c.in_ok-from_str-in-Some-2.field-0)) c.in_ok-from_str-in-Some.ensures
    ∙ ap (λ x. Some (Set id c.rows.inside.items.items x)) c.in_ok-from_str-in-Some-2.ensures
    ∙ ap (λ x. Some (Set id x text)) c.rows.view_is
    ∙ sym meant

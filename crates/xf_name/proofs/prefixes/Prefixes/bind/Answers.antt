use Rattle.std.proofs.Common.{◌≡◌, ◌∙◌, ap, sym, rules, tests, length, nat_eq, true, false, is_some, map, unwrap_or}
use Rattle.xf_name.specs.Part.{is_part}
use Rattle.xf_name.specs.Bindings.{Bindings, space_number, prefix_numbers}
use Rattle.xf_name.proofs.TableLemmas.{prefix_added, entry_view}
use Rattle.xf_name.proofs.prefixes.Prefixes.bind.Goals as goal

pub returns : goal.returns
returns c =
    let b = c.args.self.now in
    let now = c.add_space.new.self in
    let q = c.args.prefix.now in
    let uri = c.args.uri.now in
    let some : nat_eq (length uri) 0 ≡ false = search (rules, tests) in
    let part : is_part q ≡ true = search (rules, tests) in
    let none : is_some (prefix_numbers b q) ≡ false = ap is_some (sym c.prefix_numbers.ensures) ∙ sym c.if-is_some.ensures in
    let bound : c.unwrap_or-space.result ≡ unwrap_or (space_number now uri) 0 = search (rules, tests) in
    let with_entries : Bindings → Bindings = λ x. record x { prefixes = map entry_view c.insert.new.self.entries } in
    ap with_entries c.self.view_is
    ∙ prefix_added b now q uri c.self.inside.prefixes.entries c.insert.new.self.entries c.in_ok-from_str.field-0 c.unwrap_or-space.result (ap (λ x. x.prefixes) c.self.view_is) c.in_ok-add_space.ensures c.in_ok-from_str.ensures.ok some
    part none bound c.in_ok-insert.ensures.entries

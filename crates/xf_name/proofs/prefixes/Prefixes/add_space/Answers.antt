use Rattle.std.proofs.Common.{◌≡◌, ◌∙◌, ap, sym, rules, tests, length, nat_eq, false, is_some, map, string_bytes}
use Rattle.xf_name.specs.Bindings.{Bindings, space_number}
use Rattle.xf_name.proofs.TableLemmas.{space_added}
use Rattle.xf_name.proofs.prefixes.Prefixes.add_space.Goals as goal

pub returns : goal.returns
returns c =
    let b = c.args.self.now in
    let some : nat_eq (length c.args.uri.now) 0 ≡ false = search (rules, tests) in
    let none : is_some (space_number b c.args.uri.now) ≡ false = ap is_some (sym c.space_of.ensures) ∙ sym c.if-is_some.ensures in
    let with_keys : Bindings → Bindings = λ x. record x { spaces = map string_bytes c.insert.new.self.keys } in
    ap with_keys c.self.view_is
    ∙ space_added b c.args.uri.now c.self.inside.spaces.keys c.insert.new.self.keys c.in_ok-from_str.field-0 (ap (λ x. x.spaces) c.self.view_is) c.in_ok-from_str.ensures.ok some none c.in_ok-insert.ensures.keys

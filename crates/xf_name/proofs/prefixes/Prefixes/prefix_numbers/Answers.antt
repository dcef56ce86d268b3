use Rattle.std.proofs.Common.{Some, None, ap, sym, ◌∙◌}
use Rattle.xf_name.proofs.TableLemmas.{prefix_found, found_at}
use Rattle.xf_name.proofs.prefixes.Prefixes.prefix_numbers.Goals as goal

pub returns-in-Some : goal.returns-in-Some
returns-in-Some c =
    let h = c.in-Some.ensures in
    let es = c.self.inside.prefixes.entries in
    sym (found_at c.in-Some.at es c.in-Some.field-0-1.now c.in-Some.space.now h.entry) ∙ prefix_found c.args.self.now c.args.prefix.now es (Some c.in-Some.at) (ap (λ b. b.prefixes) c.self.view_is) c.if-eq.ensures h.index

pub returns-in-None : goal.returns-in-None
returns-in-None c = prefix_found c.args.self.now c.args.prefix.now c.self.inside.prefixes.entries None (ap (λ b. b.prefixes) c.self.view_is) c.if-eq.ensures c.in-None.ensures.index

use Rattle.std.proofs.Common.{Some, ap, ◌∙◌, option_map}
use Rattle.xf_name.proofs.TableLemmas.{prefix_space-is, Entry}
use Rattle.xf_name.proofs.prefixes.Prefixes.space_of_prefix.Goals as goal

pub returns-in-Some : goal.returns-in-Some
returns-in-Some c =
    ap (option_map {T = Entry} (λ e. e.1)) c.in-Some.ensures.entry
    ∙ prefix_space-is c.args.self.now c.args.prefix c.self.inside.prefixes.entries (ap (λ b. b.prefixes) c.self.view_is) c.if-prefix-eq-XML_NUMBER.false c.if-prefix-eq0.false

pub returns-in-None : goal.returns-in-None
returns-in-None c =
    ap (option_map {T = Entry} (λ e. e.1)) c.in-None.ensures.entry
    ∙ prefix_space-is c.args.self.now c.args.prefix c.self.inside.prefixes.entries (ap (λ b. b.prefixes) c.self.view_is) c.if-prefix-eq-XML_NUMBER.false c.if-prefix-eq0.false

use Rattle.std.proofs.Common.{Some, ap, ◌∙◌, option_map, string_bytes}
use Rattle.xf_name.proofs.TableLemmas.{prefix_text-is, Entry}
use Rattle.xf_name.proofs.prefixes.Prefixes.prefix_text.Goals as goal

pub returns-in-Some : goal.returns-in-Some
returns-in-Some c =
    ap Some c.as_str.ensures.value ∙ ap (option_map {T = Entry} (λ e. string_bytes e.0)) c.in-Some.ensures.entry
    ∙ prefix_text-is c.args.self.now c.args.prefix c.self.inside.prefixes.entries (ap (λ b. b.prefixes) c.self.view_is) c.if-prefix-eq-XML_NUMBER.false c.if-prefix-eq0.false

pub returns-in-None : goal.returns-in-None
returns-in-None c =
    ap (option_map {T = Entry} (λ e. string_bytes e.0)) c.in-None.ensures.entry
    ∙ prefix_text-is c.args.self.now c.args.prefix c.self.inside.prefixes.entries (ap (λ b. b.prefixes) c.self.view_is) c.if-prefix-eq-XML_NUMBER.false c.if-prefix-eq0.false

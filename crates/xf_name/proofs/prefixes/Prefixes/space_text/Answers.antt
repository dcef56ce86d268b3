use Rattle.std.proofs.Common.{Some, ap, ◌∙◌, option_map, string_bytes}
use Rattle.xf_name.proofs.TableLemmas.{space_text-is}
use Rattle.xf_name.proofs.prefixes.Prefixes.space_text.Goals as goal

pub returns-in-Some : goal.returns-in-Some
returns-in-Some c =
    ap Some c.as_str.ensures.value ∙ ap (option_map string_bytes) c.in-Some.ensures.key
    ∙ space_text-is c.args.self.now c.args.space c.self.inside.spaces.keys (ap (λ b. b.spaces) c.self.view_is) c.if-space-eq-XML_NUMBER.false c.if-space-eq0.false

pub returns-in-None : goal.returns-in-None
returns-in-None c =
    ap (option_map string_bytes) c.in-None.ensures.key ∙ space_text-is c.args.self.now c.args.space c.self.inside.spaces.keys (ap (λ b. b.spaces) c.self.view_is) c.if-space-eq-XML_NUMBER.false c.if-space-eq0.false

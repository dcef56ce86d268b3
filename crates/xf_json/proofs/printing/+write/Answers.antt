use Rattle.std.proofs.Common.{◌∙◌, ◌++◌, ◌∷◌, [], ap}
use Rattle.std.proofs.lemmas.Result.{on_ok_weaker}
use Rattle.json.specs.Token.{string}
use Rattle.xf_json.specs.Tokens.{tokens_of_element, tokens_of_object, tokens_of_children}
use Rattle.xf_json.proofs.Written.{element_tokens, written}
use Rattle.xf_json.proofs.printing.+write.Goals as goal

pub write_element-returns-clause-ok : goal.write_element-returns-clause-ok
write_element-returns-clause-ok t c =
    let e = c.args.element.now in
    let named = c.in_ok-string.ensures.ok ∙ ap (λ name. c.begin_array.new.self.tokens ++ string name ∷ []) c.as_str.ensures in
    let object = c.in_ok-write_object.ensures.ok ∙ ap (λ ps. c.string.new.self.tokens ++ tokens_of_object ps) c.as_slice.ensures in
    let children = c.in_ok-write_children.ensures.ok ∙ ap (λ xs. c.write_object.new.out.tokens ++ tokens_of_children xs) c.as_slice-2.ensures in
    on_ok_weaker c.end_array.result (λ ended.
    written c.args.out.now.tokens c.begin_array.new.self.tokens c.string.new.self.tokens c.write_object.new.out.tokens c.write_children.new.out.tokens c.end_array.new.self.tokens e.name (tokens_of_object e.attributes)
    (tokens_of_children e.children) (tokens_of_element e) c.in_ok-begin_array.ensures.ok named object children ended (element_tokens e)) c.end_array.ensures.ok

use Rattle.std.proofs.Common.{◌∙◌, ◌++◌, ◌∷◌, [], ap, sym, append_assoc}
use Rattle.std.proofs.lemmas.Result.{on_ok_weaker}
use Rattle.json.specs.Token.{end_object}
use Rattle.xf_json.specs.Tokens.{tokens_in_order}
use Rattle.xf_json.proofs.Sorted.{tokens_of_pairs-in_order}
use Rattle.xf_json.proofs.printing.write_members.Goals as goal

pub returns-then-is_in_order-clause-ok : goal.returns-then-is_in_order-clause-ok
returns-then-is_in_order-clause-ok c =
    let ps = c.args.attributes.now in
    on_ok_weaker c.write_in_order.result (λ e.
    ap (λ ts. ts ++ end_object ∷ []) e ∙ append_assoc _ (tokens_in_order ps) (end_object ∷ []) ∙ ap (λ ts. c.args.out.now.tokens ++ ts) (sym (tokens_of_pairs-in_order ps (sym c.if-is_in_order.ensures)))) c.write_in_order.ensures.ok

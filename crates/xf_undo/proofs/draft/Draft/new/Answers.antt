use Rattle.std.proofs.Common.{◌≡◌, sym, ap, ◌∙◌}
use Rattle.xf_def_forest.specs.Texts.{Keeping, without_detached}
use Rattle.xf_def_forest.specs.Undo.{kept_at}
use Rattle.xf_undo.specs.Draft.{draft_of}
use Rattle.xf_law_forests.proofs.RollbackLemmas.MadeLemmas.{keeps}
use Rattle.xf_undo.proofs.DraftLemmas.{made-as, trees-as, kept-draft, none-free}
use Rattle.xf_undo.proofs.draft.Draft.new.Goals as goal

pub invariant_of-result : goal.invariant_of-result
invariant_of-result c =
    let trees = trees-as c.are_trees.ensures (sym c.drop_detached.ensures) in
    record {
      start = without_detached c.args.forest;
      made = made-as (keeps c.args.forest trees) (c.new-ledger.ensures ∙ ap (λ (k : Keeping). kept_at k.forest) c.drop_detached.ensures) c.drop_detached.ensures;
      free = none-free _ _ c.drop_detached.new.self c.next_number-first.ensures;
    }

pub returns : goal.returns
returns c =
    let trees = trees-as c.are_trees.ensures (sym c.drop_detached.ensures) in
    let first = c.next_number-first.result in
    let used = c.new-used.result.items in
    let next : first ≡ (without_detached c.args.forest).forest.next = c.next_number-first.ensures ∙ ap (λ (k : Keeping). k.forest.next) c.drop_detached.ensures in
    ap (λ l. draft_of l c.drop_detached.new.self first used) c.new-ledger.ensures ∙ ap (λ (k : Keeping). draft_of (kept_at k.forest) k first used) c.drop_detached.ensures
    ∙ kept-draft (without_detached c.args.forest) (keeps c.args.forest trees) trees next c.new-used.ensures.items

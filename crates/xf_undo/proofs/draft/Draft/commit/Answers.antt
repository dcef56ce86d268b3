use Rattle.std.proofs.Common.{◌≡◌, sym, ap, ◌∙◌}
use Rattle.xf_def_forest.specs.Texts.{Keeping, without_detached}
use Rattle.xf_def_forest.specs.Undo.{kept_at}
use Rattle.xf_undo.specs.Draft.{Draft, draft_of, kept_as, alone}
use Rattle.xf_law_forests.proofs.RollbackLemmas.MadeLemmas.{keeps}
use Rattle.xf_undo.proofs.DraftLemmas.{made-as, trees-as, kept-draft, none-free}
use Rattle.xf_undo.proofs.draft.Draft.commit.Goals as goal

pub invariant_of-self : goal.invariant_of-self
invariant_of-self c =
    let trees = trees-as c.are_trees.ensures (sym c.drop_detached.ensures) in
    record {
      start = without_detached c.self.inside.forest;
      made = made-as (keeps c.self.inside.forest trees) (c.commit.ensures ∙ ap (λ (k : Keeping). kept_at k.forest) c.drop_detached.ensures) c.drop_detached.ensures;
      free = none-free _ _ c.drop_detached.new.self c.give_up_numbers.ensures.first;
    }

pub returns : goal.returns
returns c =
    let trees = trees-as c.are_trees.ensures (sym c.drop_detached.ensures) in
    let first = c.give_up_numbers.new.first in
    let used = c.give_up_numbers.new.used.items in
    let next : first ≡ (without_detached c.self.inside.forest).forest.next = c.give_up_numbers.ensures.first ∙ ap (λ (k : Keeping). k.forest.next) c.drop_detached.ensures in
    ap (λ l. draft_of l c.drop_detached.new.self first used) c.commit.ensures ∙ ap (λ (k : Keeping). draft_of (kept_at k.forest) k first used) c.drop_detached.ensures
    ∙ kept-draft (without_detached c.self.inside.forest) (keeps c.self.inside.forest trees) trees next c.give_up_numbers.ensures.used ∙ ap (λ (d : Draft). kept_as (without_detached (alone d.now)).forest) c.self.view_is

use Rattle.std.proofs.Common.{length, sym, subst}
use Rattle.xf_def_forest.specs.Limits.{limits}
use Rattle.xf_def_forest.specs.Needs.{IsSettable}
use Rattle.xf_def_forest.specs.Texts.{new_texts}
use Rattle.xf_def_forest.specs.Undo.{of_text}
use Rattle.xf_undo.specs.Draft.{Draft}
use Rattle.xf_law_forests.specs.Rollback.Made.{noted}
use Rattle.xf_undo.proofs.DraftLemmas.{made-as, set-kept, set-is, text-made, text-drafted, none-free, free-as}
use Rattle.xf_undo.proofs.draft.Draft.set_text.Goals as goal

-- a refused text is a note
pub invariant_of-self-in_err-before : goal.invariant_of-self-in_err-before
invariant_of-self-in_err-before c = record {
  start = c.self.invariant.start;
  made = made-as (noted (of_text c.args.node.number) c.self.invariant.made) c.in_ok-note.ensures.ok c.in_err-before.ensures.err;
  free = free-as _ _ c.self.invariant.free c.in_err-before.ensures.err;
}

pub fill_text-requires : goal.fill_text-requires
fill_text-requires c = set-kept limits c.args.node.number c.args.text.now c.self.inside.forest c.set_text.new.self c.in_ok-before.before c.in_ok-before.ensures.answer

pub invariant_of-self-2 : goal.invariant_of-self-2
invariant_of-self-2 c =
    let n = c.args.node.number in
    let k = c.self.inside.forest in
    let may = subst (λ (d : Draft). IsSettable n d.now) (sym c.self.view_is) c.requires.may in
    record {
      start = c.self.invariant.start;
      made = text-made k.forest.next (length (new_texts n c.args.text.now k.forest)) n c.args.text.now c.in_ok-before.before c.self.invariant.made c.are_trees.ensures may
          (set-is n c.args.text.now k c.set_text.new.self c.in_ok-before.before c.in_ok-before.ensures.answer) c.in_ok-note.ensures.ok c.fill_text.ensures;
      free = none-free _ _ c.fill_text.new.forest c.give_up_numbers.ensures.first;
    }

pub returns-clause-answer : goal.returns-clause-answer
returns-clause-answer c =
    let n = c.args.node.number in
    let may = subst (λ (d : Draft). IsSettable n d.now) (sym c.self.view_is) c.requires.may in
    text-drafted c.args.self.now n c.args.text.now c.in_ok-before.before c.self.view_is c.self.invariant.made c.are_trees.ensures may c.in_ok-before.ensures.answer c.in_ok-note.ensures.ok c.fill_text.ensures c.are_trees-2.ensures c.give_up_numbers.ensures.first c.give_up_numbers.ensures.used

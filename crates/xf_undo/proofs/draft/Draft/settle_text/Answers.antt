use Rattle.std.proofs.Common.{◌≡◌, ◌++◌, ◌∷◌, [], sym, ap, ◌∙◌, subst}
use Rattle.xf_def_forest.specs.Needs.{IsSettable}
use Rattle.xf_def_forest.specs.Undo.{of_text}
use Rattle.xf_undo.specs.Draft.{Draft, IsUnused, AreFree}
use Rattle.xf_law_forests.specs.Rollback.Made.{noted}
use Rattle.xf_undo.proofs.DraftLemmas.{made-as, free-as, settled-is, settled-kept, settled-free, settled-draft, text-made}
use Rattle.xf_undo.proofs.draft.Draft.settle_text.Goals.{After-push_reserved}
use Rattle.xf_undo.proofs.draft.Draft.settle_text.Goals as goal

pub settle_text-requires-clause-number : goal.settle_text-requires-clause-number
settle_text-requires-clause-number c =
    let unused = subst (IsUnused c.args.number) (sym c.self.view_is) c.requires.number in
    c.self.invariant.free c.args.number unused.least unused.less unused.unused

-- the number is used then
used-in : (c : After-push_reserved) → c.push_reserved.new.self.items ≡ c.self.inside.used.items ++ c.args.number ∷ []
used-in c = c.push_reserved.ensures.items ∙ ap (λ us. us ++ c.args.number ∷ []) c.reserve.ensures.items

-- a text without memory is a note
pub invariant_of-self-in_err-before : goal.invariant_of-self-in_err-before
invariant_of-self-in_err-before c = record {
  start = c.self.invariant.start;
  made = made-as (noted (of_text c.args.node.number) c.self.invariant.made) c.in_ok-note.ensures.ok c.in_err-before.ensures.err;
  free = free-as _ _ (subst (λ us. AreFree c.self.inside.first us c.self.inside.forest) (sym c.reserve.ensures.items) c.self.invariant.free) c.in_err-before.ensures.err;
}

pub fill_text-requires : goal.fill_text-requires
fill_text-requires c = settled-kept c.args.number c.args.node.number c.args.text.now c.self.inside.forest c.settle_text.new.self c.in_ok-before.before c.in_ok-before.ensures.ok

pub invariant_of-self-2 : goal.invariant_of-self-2
invariant_of-self-2 c =
    let n = c.args.node.number in
    let number = c.args.number in
    let text = c.args.text.now in
    let k = c.self.inside.forest in
    let may = subst (λ (d : Draft). IsSettable n d.now) (sym c.self.view_is) c.requires.may in
    record {
      start = c.self.invariant.start;
      made = text-made number 0 n text c.in_ok-before.before c.self.invariant.made c.are_trees.ensures may (c.in_ok-before.ensures.ok ∙ settled-is number n text k) c.in_ok-note.ensures.ok c.fill_text.ensures;
      free = subst (λ us. AreFree c.self.inside.first us c.fill_text.new.forest) (sym (used-in (goal.at.invariant_of-self-2 c).After-push_reserved))
          (settled-free c.self.inside.first c.self.inside.used.items number n text c.in_ok-before.before c.self.invariant.free c.in_ok-before.ensures.ok c.in_ok-note.ensures.ok c.fill_text.ensures);
    }

pub returns-clause-ok : goal.returns-clause-ok
returns-clause-ok c =
    let n = c.args.node.number in
    let may = subst (λ (d : Draft). IsSettable n d.now) (sym c.self.view_is) c.requires.may in
    settled-draft c.args.self.now c.args.number n c.args.text.now c.in_ok-before.before c.self.view_is c.self.invariant.made c.are_trees.ensures may c.in_ok-before.ensures.ok c.in_ok-note.ensures.ok
    c.fill_text.ensures c.are_trees-2.ensures (used-in (goal.at.returns-clause-ok c).After-push_reserved)

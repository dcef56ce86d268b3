use Rattle.std.proofs.Common.{◌≡◌, ◌∙◌, ◌-◌, ◌++◌, ◌∷◌, [], List, Some, sym, subst, rules}
use Rattle.std.specs.Option.{option_map}
use Rattle.xf_store.specs.declared.answers.Answer.{Answer}
use Rattle.xf_journal.specs.Entry.{answer_in, these_answers}
use Rattle.xf_journal.proofs.EntryLemmas.{answers_on}
use Rattle.xf_journal.proofs.answers.these_answers.Goals as goal

pub loop-left-preserved : goal.loop-left-preserved
loop-left-preserved c =
    let is : answer_in c.loop-left.rest.now ≡ Some (c.in-Some.answer, c.in-Some.behind.now) = search rules in
    let pushed : c.push.new.self.items ≡ c.loop-left.answers.items ++ c.in-Some.answer ∷ [] = search rules in
    subst (λ (items : List Answer). option_map (λ more. items ++ more) (these_answers (c.loop-left.left - 1) c.in-Some.behind.now) ≡ these_answers c.args.count c.args.bytes.now) (sym pushed)
    (answers_on c.loop-left.answers.items c.in-Some.answer c.loop-left.left c.loop-left.rest.now c.in-Some.behind.now c.loop-left-test.true is ∙ c.loop-left.invariant)

-- The answers to the lines of a session that nothing keeps are those by its state alone.
use Rattle.std.proofs.Common.{◌≡◌, ◌∙◌, ℕ, List, [], Option, Some, None, refl, ap, sym, subst}
use Rattle.std.specs.declared.option.Option.{Option as Known}
use Rattle.xf_cli_stream.specs.Answers as lines
use Rattle.xf_cli_stream.specs.declared.answering.AnswerFault.TheVariants as fault
use Rattle.xf_cli_stream.specs.declared.lines.Ending.{Ending}
use Rattle.xf_cli_stream.specs.declared.lines.Ending.TheVariants as ending
use Rattle.xf_journal.specs.declared.journal.Journal.{Journal}
use Rattle.xf_store.specs.Called.{Called, Told}
use Rattle.xf_def_machine.specs.State.{State}
use Rattle.xf_session.specs.declared.session.Session.{Session}
use Rattle.xf_cli_commands.specs.declared.line_session.LineSession.{LineSession}
use Rattle.xf_cli_commands.specs.Kept.{Views, At, AnswersBy, LeavesBy, LineTried, TryLacking, SessionAnswers, SessionLeaves}
use Rattle.xf_cli_commands.specs.Replies.{Answers, IsReply, Leaves}
use Rattle.xf_cli_commands.proofs.Steps as steps

module _ {P D : Type 0} (views : Views P D) where
  abbrev Held : Type 0
  Held = LineSession P × (Told × D)

  abbrev seen : Held → At P D
  seen a = (a.0.session, a.1)

  abbrev answers : lines.Replies Held
  answers a line text next = SessionAnswers views (seen a) line text (seen next)

  abbrev leaves : lines.Leaves Held
  leaves f a line next = SessionLeaves views f (seen a) line (seen next)

  -- its state, and what the store tells
  abbrev of : Held → State × Told
  of a = (views.state a.0.session.processor, a.1.0)

  record Alone (a : Held) (b : State × Told) : Type 0 where
    same : b ≡ of a
    unkept : a.0.session.journal ≡ None

  step-by : (j : Option Journal) (a : Held) (b : State × Told) (line text : List ℕ) (next : Held) → j ≡ None → b ≡ of a → AnswersBy views j (seen a) line text (seen next)
      → (c : State × Told) × Alone next c × Answers b line text c
  step-by None a b line text next none same h =
      (of next, record { same = refl; unkept = h.unkept }, subst (λ (x : State × Told). IsReply x.0 line text (views.state next.0.session.processor) x.1 next.1.0) (sym same) h.replied)
  step-by (Some journal) a b line text next none same h = cc

  step : (a : Held) (b : State × Told) (line text : List ℕ) (next : Held) → Alone a b → answers a line text next → (c : State × Told) × Alone next c × Answers b line text c
  step a b line text next h k = step-by a.0.session.journal a b line text next h.unkept h.same k

  wants-by : (j : Option Journal) (a : Held) (b : State × Told) (line : List ℕ) (next : Held) → j ≡ None → b ≡ of a → LeavesBy views j fault.Memory (seen a) line (seen next)
      → (c : State × Told) × Alone next c × Leaves fault.Memory b line c
  wants-by None a b line next none same h =
      (of next, record { same = refl; unkept = h.unkept }, (h.same ∙ ap (λ (x : State × Told). x.0) (sym same), (h.made, subst (λ (x : State × Told). Called x.1 next.1.0 [] h.made) (sym same) h.called)))
  wants-by (Some journal) a b line next none same h = cc

  wants : (a : Held) (b : State × Told) (line : List ℕ) (next : Held) → Alone a b → leaves fault.Memory a line next → (c : State × Told) × Alone next c × Leaves fault.Memory b line c
  wants a b line next h k = wants-by a.0.session.journal a b line next h.unkept h.same k

  never-by : {X : Type 0} (j : Option Journal) (a : Held) (line : List ℕ) (next : Held) → j ≡ None → LeavesBy views j fault.Disk (seen a) line (seen next) → X
  never-by None a line next none h = absurd h
  never-by (Some journal) a line next none h = cc

  stops : (a : Held) (b : State × Told) (line : List ℕ) (next : Held) → Alone a b → leaves fault.Disk a line next → (c : State × Told) × Alone next c × Leaves fault.Disk b line c
  stops a b line next h k = never-by a.0.session.journal a line next h.unkept k

  tried : (e : Ending) (first last : Held) (events left text : List ℕ) → first.0.session.journal ≡ None → lines.Answers answers leaves e first events left text last
      → (c : State × Told) × (c.1 ≡ last.1.0) × lines.Answers Answers Leaves e (of first) events left text c
  tried e first last events left text unkept h =
      let r = steps.answers answers leaves Answers Leaves Alone Alone step wants stops e first (of first) events left text last (record { same = refl; unkept = unkept }) h in
      (r.0, ap (λ (x : State × Told). x.1) (ended e last r.0 r.1), r.2)
    where
      ended : (e : Ending) (last : Held) (c : State × Told) → steps.Ends answers leaves Answers Leaves Alone Alone step wants stops e last c → c ≡ of last
      ended ending.Done last c h = h.same
      ended ending.ReadFault last c h = h.same
      ended ending.SinkFault last c h = h.same
      ended ending.TooMuch last c h = h.same
      ended ending.DiskFault last c h = h.same
      ended ending.Memory last c h = h.same

  -- where the source tells its bytes
  pub tried-known : (e : Ending) (first last : Held) (before after : Known (List ℕ)) (text : List ℕ) → first.0.session.journal ≡ None
      → lines.AnswersKnown answers leaves e first before after text last
      → (c : State × Told) × (c.1 ≡ last.1.0) × lines.AnswersKnown Answers Leaves e (of first) before after text c
  tried-known e first last None after text unkept h = (of last, refl, tt)
  tried-known e first last (Some events) None text unkept h = absurd h
  tried-known e first last (Some events) (Some left) text unkept h = tried e first last events left text unkept h

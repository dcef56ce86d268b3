-- The answers to lines, one after the other over a store, are the form machine's replies with the calls of the store in them.
use Rattle.std.proofs.Common.{ℕ, ◌≡◌, ◌≤◌, ◌<◌, ◌+◌, Bool, true, false, List, [], ◌∷◌, ◌++◌, length, take, drop, codes, nat_lt, Some, None, refl, ap, sym, ◌∙◌, subst, arith, ◌⊎◌, inl, inr, append-nil, append_assoc, length-append}
use Rattle.std.specs.declared.option.Option.{Option as Known}
use Rattle.std.proofs.lemmas.List.{take-append-drop}
use Rattle.xf_base.specs.Limits.{line_limit, stream_limit}
use Rattle.xf_io.specs.Ahead.{most_ahead}
use Rattle.xf_io.specs.Lines.{lines_of, ended_lines}
use Rattle.xf_cli_stream.specs.Answers as lines
use Rattle.xf_cli_stream.specs.declared.answering.AnswerFault.TheVariants as fault
use Rattle.xf_cli_stream.specs.declared.lines.Ending.{Ending}
use Rattle.xf_cli_stream.specs.declared.lines.Ending.TheVariants.{Done, ReadFault, SinkFault, DiskFault, TooMuch, Memory}
use Rattle.xf_store.specs.declared.call.StoreCall.{StoreCall}
use Rattle.xf_store.specs.Called.{Called, Told}
use Rattle.xf_store.proofs.CalledLaws.{called-none, called-on}
use Rattle.xf_def_machine.specs.State.{State}
use Rattle.xf_def_machine.specs.Replies.{Replies, answers_in, reply}
use Rattle.xf_def_machine.specs.Written.{AsFarAs, HaveBegun, IsFront}
use Rattle.xf_def_form.specs.Formed.{profile}
use Rattle.xf_cli_commands.specs.Replies.{Answers, IsReply, Leaves}
use Rattle.xf_cli_commands.specs.Answered.{AnswersTold, EndsSo, StopsIn, answering_of}
use Rattle.xf_cli_commands.proofs.ReplyLaws.{long_reply}

-- a state, and what a store tells
abbrev At : Type 0
At = State × Told

-- ---- a line

one-by : (b : Bool) (first after : At) (line text : List ℕ) → nat_lt line_limit (length line) ≡ b
    → lines.takes_by b ((text ≡ lines.too_long_reply) × (after ≡ first)) (Answers first line text after) → IsReply first.0 line text after.0 first.1 after.1
one-by false first after line text e h = h
one-by true first after line text e h =
    subst (λ (a : At). IsReply first.0 line text a.0 first.1 a.1) (sym h.1) (long_reply first.0 line text first.1 e h.0)

one : (first after : At) (line text : List ℕ) → lines.Takes Answers first line text after → IsReply first.0 line text after.0 first.1 after.1
one first after line text h = one-by (nat_lt line_limit (length line)) first after line text refl h

-- ---- calls that follow one another

onto : (a b : Told) (own more : List StoreCall) → Called a b [] more → Called a b own (own ++ more)
onto a b own more h = record { made = h.made; grown = ap (λ calls. own ++ calls) h.grown; calls = h.calls; answers = h.answers }

both : (a b c : Told) (own more : List StoreCall) → Called a b [] own → Called b c [] more → Called a c [] (own ++ more)
both a b c own more h k = called-on a b c [] own (own ++ more) h (onto b c own more k)

none-more : (a b : Told) (calls : List StoreCall) → Called a b [] calls → Called a b [] (calls ++ [])
none-more a b calls h = subst (λ c. Called a b [] c) (sym (append-nil calls)) h

-- ---- lines

-- these lines have these replies, with some calls
abbrev AllReplied : At → List (List ℕ) → List ℕ → At → Type 0
AllReplied first ls written last =
    (calls : List StoreCall) × Called first.1 last.1 [] calls × Replies profile true first.0 ls calls written last.0

all-of : (first after last : At) (line : List ℕ) (ls : List (List ℕ)) (text rest written : List ℕ)
    → IsReply first.0 line text after.0 first.1 after.1 → AllReplied after ls rest last → written ≡ text ++ rest → AllReplied first (line ∷ ls) written last
all-of first after last line ls text rest written h k e =
    let own = h.made in
    let next = subst (λ (s : State). Replies profile true s ls k.0 rest last.0) (sym h.gives.after) k.2 in
    (own ++ k.0, both first.1 after.1 last.1 own k.0 h.called k.1, (own, k.0, text, rest, h.gives.calls, h.gives.text, next, refl, e))

all : (first last : At) (ls : List (List ℕ)) (written : List ℕ) → lines.TakesAll Answers first ls written last → AllReplied first ls written last
all first last [] written h = (
  [],
  subst (λ (a : At). Called first.1 a.1 [] []) (sym h.1) (called-none first.1 []),
  (refl, h.0, ap (λ (a : At). a.0) h.1),
)
all first last (line ∷ ls) written h =
    all-of first h.2 last line ls h.0 h.1 written (one first h.2 line h.0 h.3) (all h.2 last ls h.1 h.4) h.5

-- the replies of lines, and then those of more lines
on : (s mid last : State) (ls more : List (List ℕ)) (calls next : List StoreCall) (text rest : List ℕ) → Replies profile true s ls calls text mid → Replies profile true mid more next rest last
    → Replies profile true s (ls ++ more) (calls ++ next) (text ++ rest) last
on s mid last [] more calls next text rest h k =
    let here = subst (λ (m : State). Replies profile true m more next rest last) h.2 k in
    let called = subst (λ (c : List StoreCall). Replies profile true s more (c ++ next) rest last) (sym h.0) here in
    subst (λ (t : List ℕ). Replies profile true s more (calls ++ next) (t ++ rest) last) (sym h.1) called
on s mid last (line ∷ ls) more calls next text rest h k = (
  h.0,
  h.1 ++ next,
  h.2,
  h.3 ++ rest,
  h.4,
  h.5,
  on (reply profile true s (answers_in h.0) line).after mid last ls more h.1 next h.3 rest h.6 k,
  ap (λ (c : List StoreCall). c ++ next) h.7 ∙ append_assoc h.0 h.1 next,
  ap (λ (t : List ℕ). t ++ rest) h.8 ∙ append_assoc h.2 h.3 rest,
)

-- ---- a line that is begun

-- the calls are those of some first lines, which are whole
abbrev WholeOf : State → List (List ℕ) → List StoreCall → Type 0
WholeOf s ls calls = (whole more : List (List ℕ)) × (text : List ℕ) × (last : State) × (ls ≡ whole ++ more) × Replies profile true s whole calls text last

abbrev BegunSo : At → List (List ℕ) → List ℕ → At → Type 0
BegunSo now ls part last =
    (begun : List StoreCall) × Called now.1 last.1 [] begun × HaveBegun profile true now.0 ls begun part × WholeOf now.0 ls begun

begun-of : (now last : At) (line : List ℕ) (ls : List (List ℕ)) (text part : List ℕ) → IsReply now.0 line text last.0 now.1 last.1
    → IsFront part text → BegunSo now (line ∷ ls) part last
begun-of now last line ls text part h front =
    let own = h.made in
    let after = (reply profile true now.0 (answers_in own) line).after in
    let begun : HaveBegun profile true now.0 (line ∷ ls) own part = (own, text, h.gives.calls, h.gives.text, ([], sym (append-nil own)), front, inr refl) in
    let whole : WholeOf now.0 (line ∷ ls) own =
    (line ∷ [], ls, text, after, refl, (own, [], text, [], h.gives.calls, h.gives.text, (refl, refl, refl), sym (append-nil own), sym (append-nil text))) in
    (own, h.called, begun, whole)

begun : (now last : At) (ls : List (List ℕ)) (part : List ℕ) → lines.IsBegun Answers now ls part last → BegunSo now ls part last
begun now last [] part h =
    let none : Called now.1 last.1 [] [] = subst (λ (a : At). Called now.1 a.1 [] []) (sym h.1) (called-none now.1 []) in
    ([], none, (refl, h.0), ([], [], [], now.0, refl, (refl, refl, refl)))
begun now last (line ∷ ls) part h = begun-of now last line ls h.0 part (one now last line h.0 h.1) h.2

-- ---- how the lines end

-- what is written behind the notes
behind_notes : (notes rest done part : List ℕ) → rest ≡ done ++ part → notes ++ rest ≡ (notes ++ done) ++ part
behind_notes notes rest done part e = ap (λ t. notes ++ t) e ∙ sym (append_assoc notes done part)

abbrev Told_by : List ℕ → Ending → At → At → List ℕ → List ℕ → List ℕ → Type 0
Told_by notes e first last events left rest =
    (calls more : List StoreCall) × Called first.1 last.1 [] (calls ++ more) × EndsSo e (answering_of notes first.0 events left (notes ++ rest) calls) more

longer : (given left events : List ℕ) → events ≡ given ++ left → length given ≤ stream_limit → length events ≤ length left + stream_limit
longer given left events e h = omega (arith, h, ap length e, length-append given left)

-- the lines that were answered before memory was wanting
stops-by : (notes : List ℕ) (first now last : At) (events left rest taken ahead : List ℕ) (ls : List (List ℕ)) → events ≡ taken ++ (ahead ++ left) → length taken ≤ stream_limit
    → length ahead ≤ most_ahead → (ended_lines taken ≡ ls) ⊎ ((line : List ℕ) × (ended_lines taken ≡ ls ++ line ∷ []))
    → lines.TakesAll Answers first ls rest now → (more : List StoreCall) → Called now.1 last.1 [] more → Told_by notes Memory first last events left rest
stops-by notes first now last events left rest taken ahead ls e within buffered most h more called =
    let k = all first now ls rest h in
    let replied : StopsIn (answering_of notes first.0 events left (notes ++ rest) k.0) = record { taken = taken; ahead = ahead; bytes = e; within = within; buffered = buffered; lines = ls; most = most; replied = (rest, now.0, k.2, refl) } in
    (k.0, more, both first.1 now.1 last.1 k.0 more k.1 called, replied)

-- the line in work, where memory was wanting, is ended or not, and may have made some calls
last-most : (taken rest : List ℕ) (ls : List (List ℕ)) (line : List ℕ) → lines.IsLastLine taken rest ls line → (ended_lines taken ≡ ls) ⊎ ((line : List ℕ) × (ended_lines taken ≡ ls ++ line ∷ []))
last-most taken rest ls line (inl h) = inr (line, h)
last-most taken rest ls line (inr h) = inl h.0

left-calls : (now last : At) (line : List ℕ) → lines.IsLeft Leaves now line last → (more : List StoreCall) × Called now.1 last.1 [] more
left-calls now last line (inl same) = ([], subst (λ (a : At). Called now.1 a.1 [] []) (sym same) (called-none now.1 []))
left-calls now last line (inr h) = h.1

stops : (notes : List ℕ) (first now last : At) (events left rest taken ahead : List ℕ) (ls : List (List ℕ)) → events ≡ taken ++ (ahead ++ left) → length taken ≤ stream_limit
    → length ahead ≤ most_ahead → lines.TakesAll Answers first ls rest now → lines.InWork Leaves fault.Memory taken (ahead ++ left) ls now last → Told_by notes Memory first last events left rest
stops notes first now last events left rest taken ahead ls e within buffered h (inl work) =
    stops-by notes first now last events left rest taken ahead ls e within buffered (inl work.0) h [] (subst (λ (a : At). Called now.1 a.1 [] []) (sym work.1) (called-none now.1 []))
stops notes first now last events left rest taken ahead ls e within buffered h (inr work) =
    let made = left-calls now last work.0 work.2 in
    stops-by notes first now last events left rest taken ahead ls e within buffered (last-most taken (ahead ++ left) ls work.0 work.1) h made.0 made.1

-- the lines are answered up to a front of a reply
abbrev FarSo : List ℕ → At → At → List ℕ → List ℕ → List (List ℕ) → List ℕ → List ℕ → List StoreCall → Type 0
FarSo notes first last events left ls part rest calls =
    Called first.1 last.1 [] (calls ++ []) × AsFarAs profile (answering_of notes first.0 events left (notes ++ rest) calls) ls part × WholeOf first.0 ls calls

far : (notes : List ℕ) (first now last : At) (events left : List ℕ) (ls : List (List ℕ)) (part done rest : List ℕ) (count : ℕ)
    → AllReplied first (take count ls) done now → BegunSo now (drop count ls) part last → rest ≡ done ++ part
    → (calls : List StoreCall) × FarSo notes first last events left ls part rest calls
far notes first now last events left ls part done rest count h k e =
    let calls = h.0 ++ k.0 in
    let w = k.3 in
    let cut : ls ≡ (take count ls ++ w.0) ++ w.1 = sym (take-append-drop count ls) ∙ ap (λ more. take count ls ++ more) w.4 ∙ sym (append_assoc (take count ls) w.0 w.1) in
    let whole : WholeOf first.0 ls calls =
    (take count ls ++ w.0, w.1, done ++ w.2, w.3, cut, on first.0 now.0 w.3 (take count ls) w.0 h.0 k.0 done w.2 h.2 w.5) in
    let so_far : AsFarAs profile (answering_of notes first.0 events left (notes ++ rest) calls) ls part =
    (count, done, now.0, h.0, k.0, h.2, k.2, refl, behind_notes notes rest done part e) in
    (calls, (none-more first.1 last.1 calls (both first.1 now.1 last.1 h.0 k.0 h.1 k.1), so_far, whole))

ended : (notes : List ℕ) (e : Ending) (first last : At) (events left rest : List ℕ) → lines.Answers Answers Leaves e first events left rest last
    → Told_by notes e first last events left rest
ended notes Done first last events left rest h =
    let k = all first last (lines_of events) rest h.2 in
    (k.0, [], none-more first.1 last.1 k.0 k.1, ((h.0, h.1, (rest, last.0, k.2, refl)), refl))
ended notes ReadFault first last events left rest h =
    let k = all first last (ended_lines h.0) rest h.3 in
    (k.0, [], none-more first.1 last.1 k.0 k.1, ((h.0, h.1, (rest, last.0, k.2, refl)), longer h.0 left events h.1 h.2, refl))
ended notes SinkFault first last events left rest h =
    let ls = lines.answered_lines events in
    let f = h.1 in
    let k = far notes first f.2 last events left ls h.0 f.1 rest f.0 (all first f.2 (take f.0 ls) f.1 f.3) (begun f.2 last (drop f.0 ls) h.0 f.4) f.5 in
    (k.0, [], k.1.0, (inr (h.0, k.1.1), k.1.2, refl))
ended notes DiskFault first last events left rest h = absurd h.8.2
ended notes TooMuch first last events left rest h =
    let k = all first last (ended_lines (take stream_limit events)) rest h.1 in
    (k.0, [], none-more first.1 last.1 k.0 k.1, ((h.0, (rest, last.0, k.2, refl)), refl))
ended notes Memory first last events left rest h =
    stops notes first h.6 last events left rest h.0 h.1 h.5 h.2 h.3 h.4 h.7 h.8

-- where the source tells its bytes
pub told_so : (notes : List ℕ) (e : Ending) (first last : At) (before after : Known (List ℕ)) (rest : List ℕ)
    → lines.AnswersKnown Answers Leaves e first before after rest last → AnswersTold notes e first last.1 before after (notes ++ rest)
told_so notes e first last None after rest h = (rest, refl)
told_so notes e first last (Some events) None rest h = absurd h
told_so notes e first last (Some events) (Some left) rest h = ended notes e first last events left rest h

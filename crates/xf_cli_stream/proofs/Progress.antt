-- How far the answers to the lines have come, and how they end.
use Rattle.std.specs.declared.alloc.Global.{Global}
use Rattle.std.specs.declared.option.Option.{Option}
use Rattle.std.proofs.Common.{String, string_bytes, ◌≡◌, ◌<◌, ◌≤◌, ◌+◌, ◌-◌, ◌⊎◌, ℕ, List, [], ◌∷◌, ◌++◌, length, take, drop, nat_lt, Bool, true, false, Some, None, refl, ap, sym, subst, ◌∙◌, arith, inl, inr, length-append, append_assoc, append-nil, if◌then◌else◌}
use Rattle.std.proofs.lemmas.Bool.{ltb-true}
use Rattle.std.proofs.lemmas.List.{append_cancel_right}
use Rattle.std.proofs.Math.Seq.{take-append_seam, drop-append_seam, take-append-add}
use Rattle.std.specs.Io.KnownBytes.{Appends, prepend_known}
use Rattle.std.proofs.KnownBytes.{Appends-trans}
use Rattle.xf_base.specs.Limits.{stream_limit}
use Rattle.xf_io.specs.Ahead.{Ahead, most_ahead}
use Rattle.xf_io.specs.Front.{AppendsFront}
use Rattle.xf_io.specs.Lines.{lines_of, ended_lines, CutsLine, LosesPart, CountsBytes}
use Rattle.xf_io.proofs.Parts.{lines_of-ended, lines_of-last, ended_lines-ended, ended_lines-open}
use Rattle.xf_cli_stream.specs.declared.answering.AnswerFault.{AnswerFault}
use Rattle.xf_cli_stream.specs.declared.answering.AnswerFault.TheVariants as fault
use Rattle.xf_cli_stream.specs.declared.lines.Ending.{Ending}
use Rattle.xf_cli_stream.specs.declared.lines.Ending.TheVariants.{Done, ReadFault, SinkFault, TooMuch, DiskFault, Memory}
use Rattle.xf_cli_stream.specs.declared.lines.Next.TheVariants.{Reply, Ends}
use Rattle.xf_cli_stream.specs.Answers.{Replies, Leaves, Takes, TakesAll, IsBegun, IsLastLine, AsFarAs, InWork, StopsAt, answered_lines, Answers, AnswersKnown}
use Rattle.xf_cli_stream.specs.Answering.{EndsOf, NextKnown, Answered}
use Rattle.xf_cli_stream.proofs.Said.{takes-more}

-- these lines are answered: all are ended, or the last one ends with the bytes
pub record Progress {A : Type 0} (replies : Replies A) (first now : A) (all rest : List ℕ) (ended : Bool) (count : ℕ) (done : List ℕ) : Type 0 where
  pub lines : List (List ℕ)
  pub given : List ℕ
  pub taken : all ≡ given ++ rest
  pub counted : count ≡ length given
  pub said : TakesAll replies first lines done now
  pub split : lines_of all ≡ lines ++ lines_of rest
  pub ended_split : ((more : List ℕ) → ended_lines (given ++ more) ≡ lines ++ ended_lines more) ⊎ ((ended ≡ true) × (rest ≡ []))

abbrev pub ProgressKnown : {A : Type 0} → Replies A → A → A → Option (List ℕ) → Option (List ℕ) → Ahead → List ℕ → Type 0
ProgressKnown replies first now None rest ahead done = Unit {0}
ProgressKnown replies first now (Some all) None ahead done = ⊥
ProgressKnown replies first now (Some all) (Some rest) ahead done = Progress replies first now all rest ahead.ended ahead.given done

begun_of : {A : Type 0} (replies : Replies A) (first : A) (all : List ℕ) (ended : Bool) (count : ℕ) → count ≡ 0 → Progress replies first first all all ended count []
begun_of replies first all ended count none = record {
  lines = [];
  given = [];
  taken = refl;
  counted = none;
  said = (refl, refl);
  split = refl;
  ended_split = inl (λ more. refl);
}

known_begun : {A : Type 0} (replies : Replies A) (first : A) (left : Option (List ℕ)) (rest : Option (List ℕ)) (ahead : Ahead)
    → rest ≡ left → ahead.given ≡ 0 → ProgressKnown replies first first left rest ahead []
known_begun replies first None rest ahead e none = tt
known_begun replies first (Some all) None ahead e none = cc
known_begun replies first (Some all) (Some rest) ahead e none =
    let same : rest ≡ all = cc in subst (λ r. Progress replies first first all r ahead.ended ahead.given []) (sym same) (begun_of replies first all ahead.ended ahead.given none)

none_ahead : (left : Option (List ℕ)) (bytes : List ℕ) → bytes ≡ [] → prepend_known bytes left ≡ left
none_ahead None bytes e = refl
none_ahead (Some xs) bytes e = ap (λ b. Some (b ++ xs)) e

pub begun : {A : Type 0} (replies : Replies A) (first : A) (left : Option (List ℕ)) (ahead : Ahead)
    → ahead.bytes ≡ [] → ahead.given ≡ 0 → ProgressKnown replies first first left (prepend_known ahead.bytes left) ahead []
begun replies first left ahead none count = known_begun replies first left (prepend_known ahead.bytes left) ahead (none_ahead left ahead.bytes none) count

-- ---- one line more

cut_lines : (rest new line : List ℕ) (ended : Bool) → CutsLine rest new ended line → lines_of rest ≡ line ∷ lines_of new
cut_lines rest new line ended cut = elim cut.ends [
  | inl fed ↦ ap lines_of fed ∙ lines_of-ended line new cut.without_line_feed
  | inr last ↦ ap lines_of last.all ∙ lines_of-last line cut.without_line_feed last.some ∙ ap (λ n. line ∷ lines_of n) (sym last.none_left)
]

pub true_false : {X : Type 0} (b : Bool) → b ≡ true → b ≡ false → X
true_false true e f = absurd (cc)
true_false false e f = absurd (cc)

fed_split : (rest new line bytes given : List ℕ) (lines : List (List ℕ)) (ended : Bool) (cut : CutsLine rest new ended line) → rest ≡ line ++ 10 ∷ new → rest ≡ bytes ++ new
    → ((more : List ℕ) → ended_lines (given ++ more) ≡ lines ++ ended_lines more)
    → (more : List ℕ) → ended_lines ((given ++ bytes) ++ more) ≡ (lines ++ line ∷ []) ++ ended_lines more
fed_split rest new line bytes given lines ended cut fed taken before more =
    let same : bytes ≡ line ++ 10 ∷ [] = append_cancel_right bytes (line ++ 10 ∷ []) new (sym taken ∙ fed ∙ sym (append_assoc line (10 ∷ []) new)) in
    ap ended_lines (append_assoc given bytes more) ∙ before (bytes ++ more)
    ∙ ap (λ b. lines ++ ended_lines (b ++ more)) same ∙ ap (λ b. lines ++ ended_lines b) (append_assoc line (10 ∷ []) more)
    ∙ ap (λ l. lines ++ l) (ended_lines-ended line more cut.without_line_feed) ∙ sym (append_assoc lines (line ∷ []) (ended_lines more))

cut_split : (rest new line bytes given : List ℕ) (lines : List (List ℕ)) (old_ended ended : Bool) → CutsLine rest new ended line → old_ended ≡ false → rest ≡ bytes ++ new
    → ((more : List ℕ) → ended_lines (given ++ more) ≡ lines ++ ended_lines more) ⊎ ((old_ended ≡ true) × (rest ≡ []))
    → ((more : List ℕ) → ended_lines ((given ++ bytes) ++ more) ≡ (lines ++ line ∷ []) ++ ended_lines more) ⊎ ((ended ≡ true) × (new ≡ []))
cut_split rest new line bytes given lines old_ended ended cut running taken before = elim before [
  | inl splits ↦ elim cut.ends [
    | inl fed ↦ inl (fed_split rest new line bytes given lines ended cut fed taken splits)
    | inr last ↦ inr (last.at_end, last.none_left)
  ]
  | inr over ↦ true_false old_ended over.0 running
]

-- one line more is answered
more_of : {A : Type 0} (replies : Replies A) (first now after : A) (all rest new : List ℕ) (old_ended ended : Bool) (old_count count : ℕ) (done reply line bytes : List ℕ)
    → Progress replies first now all rest old_ended old_count done → CutsLine rest new ended line → Takes replies now line reply after → old_ended ≡ false
    → rest ≡ bytes ++ new → count ≡ old_count + length bytes → Progress replies first after all new ended count (done ++ reply)
more_of replies first now after all rest new old_ended ended old_count count done reply line bytes so_far cut is running taken counted = record {
  lines = so_far.lines ++ line ∷ [];
  given = so_far.given ++ bytes;
  taken = so_far.taken ∙ ap (λ r. so_far.given ++ r) taken ∙ sym (append_assoc so_far.given bytes new);
  counted = omega (arith, counted, so_far.counted, length-append so_far.given bytes);
  said = takes-more replies first now after so_far.lines line done reply so_far.said is;
  split = so_far.split ∙ ap (λ l. so_far.lines ++ l) (cut_lines rest new line ended cut) ∙ sym (append_assoc so_far.lines (line ∷ []) (lines_of new));
  ended_split = cut_split rest new line bytes so_far.given so_far.lines old_ended ended cut running taken so_far.ended_split;
}

pub one_more : {A : Type 0} (replies : Replies A) (leaves : Leaves A) (first now after : A) (all rest new : Option (List ℕ)) (before ahead : Ahead) (done reply : List ℕ) (text : String Global)
    → ProgressKnown replies first now all rest before done → NextKnown replies leaves now after rest new ahead (Reply text) → string_bytes text ≡ reply → before.ended ≡ false
    → CountsBytes rest new before.given ahead.given → ProgressKnown replies first after all new ahead (done ++ reply)
one_more replies leaves first now after None rest new before ahead done reply text so_far next is running counts = tt
one_more replies leaves first now after (Some all) None new before ahead done reply text so_far next is running counts = absurd so_far
one_more replies leaves first now after (Some all) (Some rest) None before ahead done reply text so_far next is running counts = absurd next
one_more replies leaves first now after (Some all) (Some rest) (Some new) before ahead done reply text so_far next is running counts =
    more_of replies first now after all rest new before.ended ahead.ended before.given ahead.given done reply next.line counts.bytes so_far next.cut
    (subst (λ r. Takes replies now next.line r after) is next.answered) running counts.taken counts.counted

-- ---- the lines that are answered stand first among those that would be

-- the front of this length
front_size : (k : ℕ) (given rest : List ℕ) → length given ≤ k → take k (given ++ rest) ≡ given ++ take (k - length given) rest
front_size k given rest h =
    let same : k ≡ length given + (k - length given) = omega (arith, h) in ap (λ n. take n (given ++ rest)) same ∙ take-append-add given rest (k - length given)

ended_by : (all rest given : List ℕ) (lines : List (List ℕ)) → all ≡ given ++ rest → length given ≤ stream_limit
    → ((more : List ℕ) → ended_lines (given ++ more) ≡ lines ++ ended_lines more)
    → ended_lines (take stream_limit all) ≡ lines ++ ended_lines (take (stream_limit - length given) rest)
ended_by all rest given lines taken within splits =
    ap (λ a. ended_lines (take stream_limit a)) taken ∙ ap ended_lines (front_size stream_limit given rest within) ∙ splits (take (stream_limit - length given) rest)

abbrev Begins : List (List ℕ) → List (List ℕ) → Type 0
Begins lines all = (more : List (List ℕ)) × (all ≡ lines ++ more)

begins_by : {A : Type 0} (replies : Replies A) (first now : A) (all rest : List ℕ) (ended : Bool) (count : ℕ) (done : List ℕ) (so_far : Progress replies first now all rest ended count done)
    → count ≤ stream_limit → (b : Bool) → nat_lt stream_limit (length all) ≡ b → Begins so_far.lines (if b then ended_lines (take stream_limit all) else lines_of all)
begins_by replies first now all rest ended count done so_far within false over = (lines_of rest, so_far.split)
begins_by replies first now all rest ended count done so_far within true over = elim so_far.ended_split [
  | inl splits ↦ (
    ended_lines (take (stream_limit - length so_far.given) rest),
    ended_by all rest so_far.given so_far.lines so_far.taken (let h : length so_far.given ≤ stream_limit = omega (arith, within, so_far.counted) in h) splits,
  )
  | inr none ↦
      let size : length all ≡ length so_far.given = ap length (so_far.taken ∙ ap (λ r. so_far.given ++ r) none.1 ∙ append-nil so_far.given) in
      let long : stream_limit < length all = ltb-true stream_limit (length all) over in absurd (omega (arith, within, so_far.counted, size, long))
]

begins : {A : Type 0} (replies : Replies A) (first now : A) (all rest : List ℕ) (ended : Bool) (count : ℕ) (done : List ℕ) (so_far : Progress replies first now all rest ended count done)
    → count ≤ stream_limit → Begins so_far.lines (answered_lines all)
begins replies first now all rest ended count done so_far within = begins_by replies first now all rest ended count done so_far within (nat_lt stream_limit (length all)) refl

-- so many lines of these are answered, and the next one is begun
as_far : {A : Type 0} (replies : Replies A) (first now last : A) (all lines more : List (List ℕ)) (done part : List ℕ) → all ≡ lines ++ more → TakesAll replies first lines done now
    → IsBegun replies now more part last → AsFarAs replies first all part (done ++ part) last
as_far replies first now last all lines more done part split said next = (
  length lines,
  done,
  now,
  subst (λ ls. TakesAll replies first ls done now) (sym (ap (take (length lines)) split ∙ take-append_seam lines more)) said,
  subst (λ ls. IsBegun replies now ls part last) (sym (ap (drop (length lines)) split ∙ drop-append_seam lines more)) next,
  refl,
)

-- ---- the ends

no_rest : (xs ys : List ℕ) → xs ++ ys ≡ [] → ys ≡ []
no_rest [] ys e = e
no_rest (x ∷ xs) ys e = absurd (cc)

ends_done : {A : Type 0} (replies : Replies A) (leaves : Leaves A) (first now : A) (all ahead left : List ℕ) (ended : Bool) (count : ℕ) (done : List ℕ)
    → Progress replies first now all [] ended count done → ahead ++ left ≡ [] → count ≤ stream_limit → Answers replies leaves Done first all left done now
ends_done replies leaves first now all ahead left ended count done so_far none within = (
  no_rest ahead left none,
  omega (arith, within, so_far.counted, ap length so_far.taken, length-append so_far.given []),
  subst (λ ls. TakesAll replies first ls done now) (sym (so_far.split ∙ append-nil so_far.lines)) so_far.said,
)

still_open : {A : Type 0} (replies : Replies A) (first now : A) (all rest : List ℕ) (ended : Bool) (count : ℕ) (done : List ℕ) (so_far : Progress replies first now all rest ended count done)
    → ended ≡ false → (more : List ℕ) → ended_lines (so_far.given ++ more) ≡ so_far.lines ++ ended_lines more
still_open replies first now all rest ended count done so_far running = elim so_far.ended_split [
  | inl splits ↦ splits
  | inr over ↦ true_false ended over.0 running
]

given_part : {A : Type 0} (replies : Replies A) (first now : A) (all rest new part : List ℕ) (ended : Bool) (count : ℕ) (done : List ℕ) (so_far : Progress replies first now all rest ended count done)
    → ended ≡ false → LosesPart rest new part → (all ≡ (so_far.given ++ part) ++ new) × TakesAll replies first (ended_lines (so_far.given ++ part)) done now
given_part replies first now all rest new part ended count done so_far running lost = (
  so_far.taken ∙ ap (λ r. so_far.given ++ r) lost.taken ∙ sym (append_assoc so_far.given part new),
  subst (λ ls. TakesAll replies first ls done now)
      (sym (still_open replies first now all rest ended count done so_far running part ∙ ap (λ l. so_far.lines ++ l) (ended_lines-open part lost.without_line_feed) ∙ append-nil so_far.lines))
      so_far.said,
)

ends_fault : {A : Type 0} (replies : Replies A) (leaves : Leaves A) (first now : A) (all rest left part : List ℕ) (ended : Bool) (count : ℕ) (done : List ℕ)
    → Progress replies first now all rest ended count done → ended ≡ false → LosesPart rest left part → count + length part ≤ stream_limit → Answers replies leaves ReadFault first all left done now
ends_fault replies leaves first now all rest left part ended count done so_far running lost within =
    let parts = given_part replies first now all rest left part ended count done so_far running lost in
    (so_far.given ++ part, parts.0, omega (arith, within, so_far.counted, length-append so_far.given part), parts.1)

ends_much : {A : Type 0} (replies : Replies A) (leaves : Leaves A) (first now : A) (all rest new part : List ℕ) (ended : Bool) (count total : ℕ) (left done : List ℕ)
    → Progress replies first now all rest ended count done → ended ≡ false → LosesPart rest new part → 0 < length new → total ≡ stream_limit → total ≡ count + length part
    → Answers replies leaves TooMuch first all left done now
ends_much replies leaves first now all rest new part ended count total left done so_far running lost some limit counted =
    let parts = given_part replies first now all rest new part ended count done so_far running lost in
    let given = so_far.given ++ part in
    let size : length given ≡ stream_limit = omega (arith, limit, counted, so_far.counted, length-append so_far.given part) in
    let front : take stream_limit all ≡ given = ap (take stream_limit) parts.0 ∙ ap (λ n. take n (given ++ new)) (sym size) ∙ take-append_seam given new in (
      omega (arith, ap length parts.0, length-append given new, size, some),
      subst (λ g. TakesAll replies first (ended_lines g) done now) (sym front) parts.1,
    )

-- the line in work is the last of the bytes taken
last_line : {A : Type 0} (replies : Replies A) (first now : A) (all rest new bytes line : List ℕ) (ended cut_ended : Bool) (count : ℕ) (done : List ℕ) (so_far : Progress replies first now all rest ended count done)
    → ended ≡ false → CutsLine rest new cut_ended line → rest ≡ bytes ++ new → IsLastLine (so_far.given ++ bytes) new so_far.lines line
last_line replies first now all rest new bytes line ended cut_ended count done so_far running cut taken =
    let splits = still_open replies first now all rest ended count done so_far running in
    elim cut.ends [
      | inl fed ↦
          let same : bytes ≡ line ++ 10 ∷ [] = append_cancel_right bytes (line ++ 10 ∷ []) new (sym taken ∙ fed ∙ sym (append_assoc line (10 ∷ []) new)) in
          inl (splits bytes ∙ ap (λ l. so_far.lines ++ l) (ap ended_lines same ∙ ended_lines-ended line [] cut.without_line_feed))
      | inr last ↦
          let same : rest ≡ bytes = taken ∙ ap (λ n. bytes ++ n) last.none_left ∙ append-nil bytes in
          let whole : bytes ≡ line = sym same ∙ last.all in
          inr (
            splits bytes ∙ ap (λ l. so_far.lines ++ l) (ap ended_lines whole ∙ ended_lines-open line cut.without_line_feed) ∙ append-nil so_far.lines,
            ap lines_of (ap (λ b. so_far.given ++ b) (sym same) ∙ sym so_far.taken) ∙ so_far.split
                ∙ ap (λ l. so_far.lines ++ l) (cut_lines rest new line cut_ended cut ∙ ap (λ n. line ∷ lines_of n) last.none_left),
            last.none_left,
          )
    ]

-- the lines stop in this one
stops : {A : Type 0} (replies : Replies A) (leaves : Leaves A) (fault : AnswerFault) (first now after : A) (all rest left bytes : List ℕ) (ended : Bool) (count : ℕ) (ahead : Ahead) (done : List ℕ)
    (so_far : Progress replies first now all rest ended count done) → rest ≡ bytes ++ (ahead.bytes ++ left) → count + length bytes ≤ stream_limit → length ahead.bytes ≤ most_ahead
    → InWork leaves fault (so_far.given ++ bytes) (ahead.bytes ++ left) so_far.lines now after → StopsAt replies leaves fault first all left done after
stops replies leaves fault first now after all rest left bytes ended count ahead done so_far taken within few work = (
  so_far.given ++ bytes,
  ahead.bytes,
  so_far.taken ∙ ap (λ r. so_far.given ++ r) taken ∙ sym (append_assoc so_far.given bytes (ahead.bytes ++ left)),
  omega (arith, within, so_far.counted, length-append so_far.given bytes),
  few,
  so_far.lines,
  now,
  so_far.said,
  work,
)

work_of_disk : {A : Type 0} (replies : Replies A) (leaves : Leaves A) (first now after : A) (all rest new bytes : List ℕ) (ended : Bool) (count : ℕ) (ahead : Ahead) (done : List ℕ)
    (so_far : Progress replies first now all rest ended count done) → ended ≡ false → EndsOf leaves now after rest new ahead DiskFault → rest ≡ bytes ++ new
    → InWork leaves fault.Disk (so_far.given ++ bytes) new so_far.lines now after
work_of_disk replies leaves first now after all rest new bytes ended count ahead done so_far running ends taken =
    (ends.0, last_line replies first now all rest new bytes ends.0 ended ahead.ended count done so_far running ends.1 taken, ends.2)

work_of_memory : {A : Type 0} (replies : Replies A) (leaves : Leaves A) (first now after : A) (all rest new bytes : List ℕ) (ended : Bool) (count : ℕ) (ahead : Ahead) (done : List ℕ)
    (so_far : Progress replies first now all rest ended count done) → ended ≡ false → EndsOf leaves now after rest new ahead Memory → rest ≡ bytes ++ new
    → InWork leaves fault.Memory (so_far.given ++ bytes) new so_far.lines now after
work_of_memory replies leaves first now after all rest new bytes ended count ahead done so_far running (inl lost) taken =
    let part : List ℕ = lost.0 in
    let none : ended_lines bytes ≡ [] = ap ended_lines (append_cancel_right bytes part new (sym taken ∙ lost.1.taken)) ∙ ended_lines-open part lost.1.without_line_feed in
    inl (still_open replies first now all rest ended count done so_far running bytes ∙ ap (λ l. so_far.lines ++ l) none ∙ append-nil so_far.lines, lost.2)
work_of_memory replies leaves first now after all rest new bytes ended count ahead done so_far running (inr cut) taken =
    inr (cut.0, last_line replies first now all rest new bytes cut.0 ended ahead.ended count done so_far running cut.1 taken, cut.2)

-- ---- the same where the source tells its bytes, and not else

running : (ended : Bool) (ending : Ending) → (ended ≡ true → Ends ending ≡ Ends Done) → (ending ≡ Done → ⊥) → ended ≡ false
running true ending h other = absurd (other (ends_same ending Done (h refl)))
  where
    ends_same : (a b : Ending) → Ends a ≡ Ends b → a ≡ b
    ends_same a b e = cc
running false ending h other = refl

pub running_reply : (ended : Bool) (text : String Global) → (ended ≡ true → Reply text ≡ Ends Done) → ended ≡ false
running_reply true text h = let never : Reply text ≡ Ends Done = h refl in absurd (cc)
running_reply false text h = refl

same_length : (bytes part new : List ℕ) → bytes ++ new ≡ part ++ new → length bytes ≡ length part
same_length bytes part new e = ap length (append_cancel_right bytes part new e)

ends_of : {A : Type 0} (replies : Replies A) (leaves : Leaves A) (ending : Ending) (first now after : A) (all rest left : List ℕ) (before ahead : Ahead) (done : List ℕ)
    → Progress replies first now all rest before.ended before.given done
    → EndsOf leaves now after rest (ahead.bytes ++ left) ahead ending
    → (before.ended ≡ true → Ends ending ≡ Ends Done) → CountsBytes (Some rest) (Some (ahead.bytes ++ left)) before.given ahead.given
    → before.given ≤ stream_limit → length ahead.bytes ≤ most_ahead → Answers replies leaves ending first all left done after
ends_of replies leaves Done first now after all rest left before ahead done so_far ends stays counts within few =
    subst (λ a. Answers replies leaves Done first all left done a) (sym ends.2)
    (ends_done replies leaves first now all ahead.bytes left before.ended before.given done (subst (λ r. Progress replies first now all r before.ended before.given done) ends.0 so_far) ends.1 within)
ends_of replies leaves ReadFault first now after all rest left before ahead done so_far ends stays counts within few =
    let part : List ℕ = ends.0 in
    let size : length counts.bytes ≡ length part = same_length counts.bytes part (ahead.bytes ++ left) (sym counts.taken ∙ ends.1.taken) in
    subst (λ a. Answers replies leaves ReadFault first all left done a) (sym ends.3)
    (ends_fault replies leaves first now all rest left part before.ended before.given done so_far (running before.ended ReadFault stays (λ e. cc))
    (subst (λ b. LosesPart rest (b ++ left) part) ends.2 ends.1) (omega (arith, counts.counted, counts.within, size)))
ends_of replies leaves SinkFault first now after all rest left before ahead done so_far ends stays counts within few = absurd ends
ends_of replies leaves TooMuch first now after all rest left before ahead done so_far ends stays counts within few =
    let part : List ℕ = ends.0 in
    let size : length counts.bytes ≡ length part = same_length counts.bytes part (ahead.bytes ++ left) (sym counts.taken ∙ ends.1.taken) in
    subst (λ a. Answers replies leaves TooMuch first all left done a) (sym ends.4)
    (ends_much replies leaves first now all rest (ahead.bytes ++ left) part before.ended before.given ahead.given left done so_far (running before.ended TooMuch stays (λ e. cc)) ends.1 ends.2 ends.3
    (counts.counted ∙ ap (λ n. before.given + n) size))
ends_of replies leaves DiskFault first now after all rest left before ahead done so_far ends stays counts within few =
    let total : before.given + length counts.bytes ≤ stream_limit = omega (arith, counts.counted, counts.within) in
    stops replies leaves fault.Disk first now after all rest left counts.bytes before.ended before.given ahead done so_far counts.taken total few
    (work_of_disk replies leaves first now after all rest (ahead.bytes ++ left) counts.bytes before.ended before.given ahead done so_far (running before.ended DiskFault stays (λ e. cc)) ends counts.taken)
ends_of replies leaves Memory first now after all rest left before ahead done so_far ends stays counts within few =
    let total : before.given + length counts.bytes ≤ stream_limit = omega (arith, counts.counted, counts.within) in
    stops replies leaves fault.Memory first now after all rest left counts.bytes before.ended before.given ahead done so_far counts.taken total few
    (work_of_memory replies leaves first now after all rest (ahead.bytes ++ left) counts.bytes before.ended before.given ahead done so_far (running before.ended Memory stays (λ e. cc)) ends counts.taken)

pub ends_known : {A : Type 0} (replies : Replies A) (leaves : Leaves A) (ending : Ending) (first now after : A) (all rest left : Option (List ℕ)) (before ahead : Ahead) (done : List ℕ)
    → ProgressKnown replies first now all rest before done → NextKnown replies leaves now after rest (prepend_known ahead.bytes left) ahead (Ends ending)
    → (before.ended ≡ true → Ends ending ≡ Ends Done) → CountsBytes rest (prepend_known ahead.bytes left) before.given ahead.given → before.given ≤ stream_limit
    → length ahead.bytes ≤ most_ahead → AnswersKnown replies leaves ending first all left done after
ends_known replies leaves ending first now after None rest left before ahead done so_far next stays counts within few = tt
ends_known replies leaves ending first now after (Some all) None left before ahead done so_far next stays counts within few = absurd so_far
ends_known replies leaves ending first now after (Some all) (Some rest) None before ahead done so_far next stays counts within few = absurd next
ends_known replies leaves ending first now after (Some all) (Some rest) (Some left) before ahead done so_far next stays counts within few =
    ends_of replies leaves ending first now after all rest left before ahead done so_far next stays counts within few

-- ---- a reply of which only a front is written

cut_of : {A : Type 0} (replies : Replies A) (leaves : Leaves A) (first now after : A) (all rest new left : List ℕ) (old_ended ended : Bool) (old_count count : ℕ) (done reply front back line bytes : List ℕ)
    → Progress replies first now all rest old_ended old_count done → CutsLine rest new ended line → Takes replies now line reply after → old_ended ≡ false
    → rest ≡ bytes ++ new → count ≡ old_count + length bytes → count ≤ stream_limit → reply ≡ front ++ back → Answers replies leaves SinkFault first all left (done ++ front) after
unfolding more_of
cut_of replies leaves first now after all rest new left old_ended ended old_count count done reply front back line bytes so_far cut is runs taken counted within parts =
    let more = more_of replies first now after all rest new old_ended ended old_count count done reply line bytes so_far cut is runs taken counted in
    let b = begins replies first after all new ended count (done ++ reply) more within in (
      front,
      as_far replies first now after (answered_lines all) so_far.lines (line ∷ b.0) done front (b.1 ∙ append_assoc so_far.lines (line ∷ []) b.0) so_far.said
          (reply, is, (back, parts)),
    )

cut_known : {A : Type 0} (replies : Replies A) (leaves : Leaves A) (first now after : A) (all rest left : Option (List ℕ)) (before ahead : Ahead) (done : List ℕ) (text : String Global) (front back : List ℕ)
    → ProgressKnown replies first now all rest before done → NextKnown replies leaves now after rest (prepend_known ahead.bytes left) ahead (Reply text) → before.ended ≡ false
    → CountsBytes rest (prepend_known ahead.bytes left) before.given ahead.given → string_bytes text ≡ front ++ back → AnswersKnown replies leaves SinkFault first all left (done ++ front) after
cut_known replies leaves first now after None rest left before ahead done text front back so_far next running counts parts = tt
cut_known replies leaves first now after (Some all) None left before ahead done text front back so_far next running counts parts = absurd so_far
cut_known replies leaves first now after (Some all) (Some rest) None before ahead done text front back so_far next running counts parts = absurd next
cut_known replies leaves first now after (Some all) (Some rest) (Some left) before ahead done text front back so_far next running counts parts =
    cut_of replies leaves first now after all rest (ahead.bytes ++ left) left before.ended ahead.ended before.given ahead.given done (string_bytes text) front back next.line counts.bytes
    so_far next.cut next.answered running counts.taken counts.counted counts.within parts

pub answers_cut : {A : Type 0} (replies : Replies A) (leaves : Leaves A) (first now after : A) (all rest left : Option (List ℕ)) (before ahead : Ahead) (done : List ℕ) (text : String Global) (old mid new : Option (List ℕ))
    → ProgressKnown replies first now all rest before done → NextKnown replies leaves now after rest (prepend_known ahead.bytes left) ahead (Reply text) → before.ended ≡ false
    → CountsBytes rest (prepend_known ahead.bytes left) before.given ahead.given → Appends old mid done → AppendsFront mid new (string_bytes text)
    → Answered replies leaves SinkFault first after all left old new
answers_cut replies leaves first now after all rest left before ahead done text old mid new so_far next running counts wrote cut =
    (done ++ cut.0, cut_known replies leaves first now after all rest left before ahead done text cut.0 cut.1 so_far next running counts cut.2, Appends-trans old mid new done cut.0 wrote cut.3)

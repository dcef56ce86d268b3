-- One step of the reader of lines, on the bytes ahead and on those with what the source has left.
use Rattle.std.proofs.Common.{◌≡◌, ◌≢◌, ◌<◌, ◌≤◌, ◌-◌, ◌+◌, ℕ, List, [], ◌∷◌, ◌++◌, take, drop, length, Some, None, ap, sym, ◌∙◌, arith, subst, length-append, length-take, append-nil, append_assoc, min, get_or, inl, inr, Bool, true}
use Rattle.std.proofs.lemmas.List.{take_more, drop-take, drop-drop, length-take-le, take-append-drop, take-take}
use Rattle.std.specs.declared.option.Option.{Option}
use Rattle.std.specs.Io.KnownBytes.{Consumes, Keeps, IsAtEnd, prepend_known}
use Rattle.std.proofs.KnownBytes.{Consumes-kept, Consumes-trans}
use Rattle.xf_base.specs.Limits.{line_limit, stream_limit}
use Rattle.xf_io.specs.Ahead.{Ahead}
use Rattle.xf_io.specs.Lines.{IsOpen, GivesLine, CutsLine, LosesPart, CountsBytes}
use Rattle.xf_io.specs.Part.{Grows, IsFeedAt, IsLine, IsLastLine, StepTakes, StepsOn, StepsToEnd}
use Rattle.xf_io.specs.declared.part.Part.{Part}
use Rattle.xf_io.specs.declared.lines.Line.{Line}
use Rattle.xf_io.specs.declared.lines.Line.TheVariants as given
use Rattle.xf_io.specs.declared.lines.Step.{Step}
use Rattle.xf_io.specs.declared.lines.Step.TheVariants as step
use Rattle.xf_io.proofs.Parts.{open-append}

pub open_more : (bs : List ℕ) (at : ℕ) → at < length bs → IsOpen (take at bs) → get_or bs at 0 ≢ 10 → IsOpen (take (at + 1) bs)
open_more bs at within so_far other = subst IsOpen (sym (take_more bs at 0 within)) (open-append (take at bs) (get_or bs at 0 ∷ []) so_far (other, tt))

-- dropping more of a piece that is taken from a place on
pub skip_more : (count size start : ℕ) (bs : List ℕ) → count ≤ size → take (size - count) (drop (start + count) bs) ≡ drop count (take size (drop start bs))
skip_more count size start bs within =
    let whole : size ≡ count + (size - count) = omega (arith, within) in
    ap (take (size - count)) (sym (drop-drop count start bs)) ∙ sym (drop-take count (size - count) (drop start bs)) ∙ ap (λ n. drop count (take n (drop start bs))) (sym whole)

pub skip_seen : (count start end : ℕ) (buffer bytes : List ℕ) → take (end - start) (drop start buffer) ≡ bytes → count ≤ length bytes
    → take (end - (start + count)) (drop (start + count) buffer) ≡ drop count bytes
skip_seen count start end buffer bytes seen within =
    let size : count ≤ end - start = omega (arith, within, ap length seen, length-take (end - start) (drop start buffer)) in
    let rest : end - (start + count) ≡ end - start - count = omega arith in
    ap (λ n. take n (drop (start + count) buffer)) rest ∙ skip_more count (end - start) start buffer size ∙ ap (drop count) seen

-- a line feed within the piece of the bytes ahead that may be given
pub cut_ended : (place room before : ℕ) (bytes : List ℕ) (ahead : Ahead) (part more : Part) → IsFeedAt (take room bytes) place → place < length (take room bytes)
    → Grows part more (take place (take room bytes)) → ahead.bytes ≡ drop (place + 1) bytes → ahead.given ≡ before + (place + 1)
    → StepsToEnd (Some bytes) (Some ahead.bytes) before ahead part more
cut_ended place room before bytes ahead part more feed there grows after given =
    let piece = take room bytes in
    let size : length piece ≡ min room (length bytes) = length-take room bytes in
    let front : take (place + 1) bytes ≡ take place piece ++ 10 ∷ [] = sym (take-take (place + 1) room bytes (omega (arith, there, size))) ∙ feed.there there in
    record {
      bytes = take place piece;
      taken = sym (take-append-drop (place + 1) bytes) ∙ ap (λ l. l ++ drop (place + 1) bytes) front ∙ ap (λ l. (take place piece ++ 10 ∷ []) ++ l) (sym after);
      counted = omega (arith, given, length-take-le place piece (omega (arith, there)));
      grows = grows;
    }

-- none within it, and all of it is taken
pub cut_more : (place room before : ℕ) (bytes : List ℕ) (ahead : Ahead) (part more : Part) → IsFeedAt (take room bytes) place → length (take room bytes) ≤ place
    → 0 < length (take room bytes) → Grows part more (take place (take room bytes)) → ahead.bytes ≡ drop place bytes → ahead.given ≡ before + place
    → StepsOn (Some bytes) (Some ahead.bytes) before ahead part more
cut_more place room before bytes ahead part more feed there some grows after given =
    let piece = take room bytes in
    let size : length piece ≡ min room (length bytes) = length-take room bytes in
    let whole : length (take place piece) ≡ place = length-take-le place piece feed.within in
    record {
      bytes = take place piece;
      some = omega (arith, some, there, whole);
      taken = sym (take-append-drop place bytes) ∙ ap (λ l. l ++ drop place bytes) (sym (take-take place room bytes (omega (arith, size, feed.within)))) ∙ ap (λ l. take place piece ++ l) (sym after);
      counted = omega (arith, given, whole);
      grows = grows;
    }

-- the bytes ahead with those that are left
lifted : (left : Option (List ℕ)) (old new bytes : List ℕ) → old ≡ bytes ++ new → Consumes (prepend_known old left) (prepend_known new left) bytes
lifted None old new bytes e = tt
lifted (Some rest) old new bytes e = ap (λ l. l ++ rest) e ∙ append_assoc bytes new rest

kept_lifted : (left : Option (List ℕ)) (old new : List ℕ) → new ≡ old → Keeps (prepend_known old left) (prepend_known new left)
kept_lifted None old new e = tt
kept_lifted (Some rest) old new e = ap (λ l. l ++ rest) e

none_ahead : {X : Type 0} (old new : List ℕ) → 0 < length old → new ≡ old → new ≡ [] → X
none_ahead old new some same none = absurd (omega (arith, ap length same, ap length none))

-- a step on the bytes ahead is a step on all of them
pub step_lifted : (left : Option (List ℕ)) (old : List ℕ) (before : ℕ) (ahead : Ahead) (part more : Part) (s : Step) → 0 < length old
    → StepTakes (Some old) (Some ahead.bytes) before ahead part more s → StepTakes (prepend_known old left) (prepend_known ahead.bytes left) before ahead part more s
step_lifted left old before ahead part more step.More some h = record { bytes = h.bytes; some = h.some; taken = lifted left old ahead.bytes h.bytes h.taken; counted = h.counted; grows = h.grows }
step_lifted left old before ahead part more step.Ended some h = record { bytes = h.bytes; taken = lifted left old ahead.bytes (h.bytes ++ 10 ∷ []) h.taken; counted = h.counted; grows = h.grows }
step_lifted left old before ahead part more step.End some h = none_ahead old ahead.bytes some h.0 h.1
step_lifted left old before ahead part more step.Fault some h = none_ahead old ahead.bytes some h.0 h.1
step_lifted left old before ahead part more step.TooMuch some h = (kept_lifted left old ahead.bytes h.0, h.1, h.2, h.3)
step_lifted left old before ahead part more step.Memory some h = (kept_lifted left old ahead.bytes h.0, h.1)

consumes_after : (a b c : Option (List ℕ)) (bytes : List ℕ) → Keeps a b → Consumes b c bytes → Consumes a c bytes
consumes_after None b c bytes p q = tt
consumes_after (Some x) None c bytes p q = absurd p
consumes_after (Some x) (Some y) None bytes p q = absurd q
consumes_after (Some x) (Some y) (Some z) bytes p q = sym p ∙ q

keeps_after : (a b c : Option (List ℕ)) → Keeps a b → Keeps b c → Keeps a c
keeps_after None b c p q = tt
keeps_after (Some x) None c p q = absurd p
keeps_after (Some x) (Some y) None p q = absurd q
keeps_after (Some x) (Some y) (Some z) p q = q ∙ p

-- a step after a read that keeps the bytes
pub step_after : (a b c : Option (List ℕ)) (before : ℕ) (ahead : Ahead) (part more : Part) (s : Step) → Keeps a b → StepTakes b c before ahead part more s → StepTakes a c before ahead part more s
step_after a b c before ahead part more step.More k h = record { bytes = h.bytes; some = h.some; taken = consumes_after a b c h.bytes k h.taken; counted = h.counted; grows = h.grows }
step_after a b c before ahead part more step.Ended k h = record { bytes = h.bytes; taken = consumes_after a b c (h.bytes ++ 10 ∷ []) k h.taken; counted = h.counted; grows = h.grows }
step_after a b c before ahead part more step.End k h = (keeps_after a b c k h.0, h.1, h.2, h.3, h.4)
step_after a b c before ahead part more step.Fault k h = (keeps_after a b c k h.0, h.1, h.2)
step_after a b c before ahead part more step.TooMuch k h = (keeps_after a b c k h.0, h.1, h.2, h.3)
step_after a b c before ahead part more step.Memory k h = (keeps_after a b c k h.0, h.1)

-- ---- what comes of a part

cut : (old new line : List ℕ) (ended : Bool) → IsOpen line → old ≡ line ++ 10 ∷ new → CutsLine old new ended line
cut old new line ended free e = record { without_line_feed = free; ends = inl e }

last : (old new line : List ℕ) (ended : Bool) → IsOpen line → old ≡ line → new ≡ [] → 0 < length line → ended ≡ true → CutsLine old new ended line
last old new line ended free e n some end = record { without_line_feed = free; ends = inr record { all = e; none_left = n; some = some; at_end = end } }

line_of : (old new line : List ℕ) (ahead : Ahead) (result : Line) → IsOpen line → old ≡ line ++ 10 ∷ new → IsLine line result → GivesLine (Some old) (Some new) ahead result
line_of old new line ahead (given.Text kept) free e whole =
    (subst (CutsLine old new ahead.ended) (sym whole.0) (cut old new line ahead.ended free e), subst (λ l. length l ≤ line_limit) (sym whole.0) whole.1)
line_of old new line ahead given.TooLong free e whole = (line, cut old new line ahead.ended free e, whole)
line_of old new line ahead given.End free e whole = absurd whole
line_of old new line ahead given.ReadFault free e whole = absurd whole
line_of old new line ahead given.TooMuch free e whole = absurd whole
line_of old new line ahead given.Memory free e whole = absurd whole

-- a part and more of it, ended by a line feed
pub gives_ended : (a b c : Option (List ℕ)) (bytes more : List ℕ) (ahead : Ahead) (result : Line) → IsOpen (bytes ++ more)
    → Consumes a b bytes → Consumes b c (more ++ 10 ∷ []) → IsLine (bytes ++ more) result → GivesLine a c ahead result
gives_ended None b c bytes more ahead result free p q whole = tt
gives_ended (Some x) None c bytes more ahead result free p q whole = absurd p
gives_ended (Some x) (Some y) None bytes more ahead result free p q whole = absurd q
gives_ended (Some x) (Some y) (Some z) bytes more ahead result free p q whole =
    line_of x z (bytes ++ more) ahead result free
    (p ∙ ap (λ l. bytes ++ l) (q ∙ append_assoc more (10 ∷ []) z) ∙ sym (append_assoc bytes more (10 ∷ z))) whole

last_of : (old new line : List ℕ) (ahead : Ahead) (result : Line) → IsOpen line → old ≡ line → new ≡ [] → ahead.ended ≡ true → IsLastLine line result → GivesLine (Some old) (Some new) ahead result
last_of old new line ahead (given.Text kept) free e n end whole =
    (subst (CutsLine old new ahead.ended) (sym whole.0) (last old new line ahead.ended free e n whole.2 end), subst (λ l. length l ≤ line_limit) (sym whole.0) whole.1)
last_of old new line ahead given.TooLong free e n end whole = (line, last old new line ahead.ended free e n (omega (arith, whole)) end, whole)
last_of old new line ahead given.End free e n end whole = (e ∙ whole, n, end)
last_of old new line ahead given.ReadFault free e n end whole = absurd whole
last_of old new line ahead given.TooMuch free e n end whole = absurd whole
last_of old new line ahead given.Memory free e n end whole = absurd whole

-- a part that the end of the input ends
pub gives_last : (a b c : Option (List ℕ)) (bytes : List ℕ) (ahead : Ahead) (result : Line) → IsOpen bytes
    → Consumes a b bytes → Keeps b c → IsAtEnd c → ahead.ended ≡ true → IsLastLine bytes result → GivesLine a c ahead result
gives_last None b c bytes ahead result free p q n end whole = tt
gives_last (Some x) None c bytes ahead result free p q n end whole = absurd p
gives_last (Some x) (Some y) None bytes ahead result free p q n end whole = absurd q
gives_last (Some x) (Some y) (Some z) bytes ahead result free p q n end whole =
    last_of x z bytes ahead result free (p ∙ ap (λ l. bytes ++ l) (sym q ∙ n) ∙ append-nil bytes) n end whole

losing : (old new bytes : List ℕ) → IsOpen bytes → old ≡ bytes ++ new → LosesPart old new bytes
losing old new bytes free e = record { without_line_feed = free; taken = e }

pub gives_fault : (a b c : Option (List ℕ)) (bytes : List ℕ) (ahead : Ahead) → IsOpen bytes → Consumes a b bytes → Keeps b c → ahead.bytes ≡ [] → GivesLine a c ahead given.ReadFault
gives_fault None b c bytes ahead free p q n = tt
gives_fault (Some x) None c bytes ahead free p q n = absurd p
gives_fault (Some x) (Some y) None bytes ahead free p q n = absurd q
gives_fault (Some x) (Some y) (Some z) bytes ahead free p q n = (bytes, losing x z bytes free (p ∙ ap (λ l. bytes ++ l) (sym q)), n)

pub gives_memory : (a b c : Option (List ℕ)) (bytes : List ℕ) (ahead : Ahead) → IsOpen bytes → Consumes a b bytes → Keeps b c → GivesLine a c ahead given.Memory
gives_memory None b c bytes ahead free p q = tt
gives_memory (Some x) None c bytes ahead free p q = absurd p
gives_memory (Some x) (Some y) None bytes ahead free p q = absurd q
gives_memory (Some x) (Some y) (Some z) bytes ahead free p q = (bytes, losing x z bytes free (p ∙ ap (λ l. bytes ++ l) (sym q)))

-- the count of the bytes taken in a call
pub counts_ended : (a b c : Option (List ℕ)) (before mid after : ℕ) (bytes more : List ℕ) → Consumes a b bytes → Consumes b c (more ++ 10 ∷ []) → mid ≡ before + length bytes
    → after ≡ mid + (length more + 1) → after ≤ stream_limit → CountsBytes a c before after
counts_ended a b c before mid after bytes more p q m n within = record {
  bytes = bytes ++ (more ++ 10 ∷ []);
  taken = Consumes-trans a b c bytes (more ++ 10 ∷ []) p q;
  counted = omega (arith, m, n, length-append bytes (more ++ 10 ∷ []), length-append more (10 ∷ []));
  within = within;
}

pub counts_kept : (a b c : Option (List ℕ)) (before mid after : ℕ) (bytes : List ℕ) → Consumes a b bytes → Keeps b c → mid ≡ before + length bytes
    → after ≡ mid → after ≤ stream_limit → CountsBytes a c before after
counts_kept a b c before mid after bytes p q m n within = record { bytes = bytes; taken = Consumes-kept a b c bytes p q; counted = n ∙ m; within = within }

pub gives_much : (a b left : Option (List ℕ)) (bytes : List ℕ) (ahead : Ahead) → IsOpen bytes → Consumes a b bytes → Keeps b (prepend_known ahead.bytes left)
    → 0 < length ahead.bytes → ahead.given ≡ stream_limit → GivesLine a (prepend_known ahead.bytes left) ahead given.TooMuch
gives_much None b left bytes ahead free p q some n = tt
gives_much (Some x) None left bytes ahead free p q some n = absurd p
gives_much (Some x) (Some y) None bytes ahead free p q some n = absurd q
gives_much (Some x) (Some y) (Some rest) bytes ahead free p q some n =
    (bytes, losing x (ahead.bytes ++ rest) bytes free (p ∙ ap (λ l. bytes ++ l) (sym q)), omega (arith, length-append ahead.bytes rest, some), n)

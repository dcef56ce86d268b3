-- What slots that keep a session open to, and what calls of the journal leave of it.
use Rattle.std.proofs.Common.{ℕ, zero, suc, ◌+◌, ◌≡◌, ◌≤◌, ◌⊎◌, inl, inr, Bool, true, false, if◌then◌else◌, ◌==◌, ◌&&◌, List, [], ◌∷◌, ◌++◌, length, Option, Some, None, Result, Ok, Err, refl, sym, ap, ◌∙◌, subst, arith, le_refl}
use Rattle.std.proofs.lemmas.Bool.Decides.{nat_tests}
use Rattle.xf_disk.specs.declared.slot.Slot.TheVariants.{A, B}
use Rattle.xf_disk.specs.Image.{Image, in_slot}
use Rattle.xf_disk.specs.Crash.{IsSettled, LeavesAll, LeavesOnly}
use Rattle.xf_line.specs.declared.event.Event.{Event}
use Rattle.xf_line.specs.declared.event.Asked.TheVariants as asked
use Rattle.xf_line.specs.Line.{asked_by}
use Rattle.xf_store.specs.declared.answers.Answer.{Answer}
use Rattle.xf_journal.specs.declared.entry.Accepted.{Accepted}
use Rattle.std.specs.Prelude.{nat_lt, option_map}
use Rattle.xf_journal.specs.declared.fault.JournalFault.{JournalFault}
use Rattle.xf_journal.specs.declared.fault.JournalFault.TheVariants.{Damaged}
use Rattle.xf_journal.specs.declared.journal.Journal.{Journal}
use Rattle.xf_journal.specs.Entry.{written_bytes, is_within, answers_in}
use Rattle.xf_journal.specs.Held.{Log, held, held_in, some_log, chosen, log_of}
use Rattle.xf_journal.specs.Layout.{open_epoch}
use Rattle.xf_journal.specs.Scanned.{IsAtRest, IsReady, MayCreate, HoldsEither, HoldsOldOr, with_accepted, new_log}
use Rattle.std.specs.List.{list_all}
use Rattle.xf_store.specs.Replies.{is_short}
use Rattle.xf_journal.proofs.EntryLemmas.{all_written}
use Rattle.xf_journal.proofs.WithinLemmas.{AnswersWithin, answers_within}
use Rattle.xf_def_machine.specs.Program.{Program}
use Rattle.xf_def_machine.specs.State.{State}
use Rattle.xf_def_machine.specs.Run.{if_exact}
use Rattle.xf_def_machine.specs.Start.{start}
use Rattle.xf_def_machine.specs.Step.{step}
use Rattle.xf_def_form.specs.Formed.{profile}
use Rattle.xf_def_sessions.specs.Sessions as history
use Rattle.xf_def_sessions.specs.Sessions.{fresh_session}
use Rattle.xf_def_sessions.specs.History.{after_event}
use Rattle.xf_def_sessions.specs.Runs.{Item, line, adopt, undo, redo, Accepts, Goes, began, began_with, after_line}
use Rattle.xf_def_sessions.specs.Images.{item_by, item_of, items_of, answers_at_base, StandsForNone}
use Rattle.xf_def_sessions.specs.Opening.{opened, difference_from, first_gate, at_cut, state_after, then_entries, replayed}
use Rattle.xf_def_sessions.specs.Usual.{usual}
use Rattle.xf_def_sessions.proofs.RunLaws.{IsLine, AreLines, ran-on, one-more, mapped}
use Rattle.xf_def_sessions.proofs.EntryLaws.{joined-items, items-lines, items-more}
use Rattle.xf_session.specs.Opening.{start_with, opening_from, opening_form, counts_wrongly, opening_counted, opening_held, opening, begins_start}
use Rattle.xf_session.specs.Keeping.{LogKeeps, KeepsAt, Keeps, KeepsOne, KeepsNoItem, RestsAs}
use Rattle.xf_session.specs.Replaying.{start_image}

-- ---- what is kept opens

same-bytes : (at b : ℕ) (bs : List ℕ) → difference_from (suc at) bs bs ≡ None → difference_from at (b ∷ bs) (b ∷ bs) ≡ None
same-bytes at b bs rest = by (b == b) (grind (arith, nat_tests))
  where
    by : (t : Bool) → t ≡ true → (if t then difference_from (suc at) bs bs else Some at) ≡ None
    by true e = rest
    by false e = cc

pub no-difference : (at : ℕ) (bs : List ℕ) → difference_from at bs bs ≡ None
no-difference at [] = refl
no-difference at (b ∷ bs) = same-bytes at b bs (no-difference (suc at) bs)

-- an item of an entry
item-taken : (s next : history.Session) (item : Item) → IsLine item → Accepts usual s item next → state_after profile s.state (Some item) ≡ Some next.state
item-taken s next (line event given) is e =
    let found = mapped (after_event usual s) (if_exact given (step profile s.state event given)) next e in
    found.1 ∙ ap (λ (x : history.Session). Some x.state) found.2
item-taken s next (adopt bytes) is e = absurd is
item-taken s next undo is e = absurd is
item-taken s next redo is e = absurd is

entries-find : (log : Log) (entries : List Accepted) (items : List Item) (s last : history.Session) (at : ℕ) → items_of entries ≡ Some items → AreLines items → Goes usual s items last
    → replayed profile log entries at s.state ≡ at_cut log.kept.slot log.cut (fresh_session log.kept.form log.kept.adoptions last.state)
entries-find log [] items s last at e lines goes =
    let none : items ≡ [] = cc in
    let same : s ≡ last = subst (λ is. Goes usual s is last) none goes in
    ap (λ (x : history.Session). at_cut log.kept.slot log.cut (fresh_session log.kept.form log.kept.adoptions x.state)) same
entries-find log (entry ∷ entries) items s last at e lines goes =
    let parts = joined-items (item_of entry) (items_of entries) items e in
    let more : Goes usual s (parts.0 ∷ parts.1) last = subst (λ is. Goes usual s is last) parts.4 goes in
    let all : AreLines (parts.0 ∷ parts.1) = subst AreLines parts.4 lines in
    let next = at + length (written_bytes entry.line entry.answers) in
    let after = item-taken s more.0 parts.0 all.0 more.1 in
    ap (λ o. then_entries log at (replayed profile log entries next) (state_after profile s.state o)) parts.2
    ∙ ap (then_entries log at (replayed profile log entries next)) after
    ∙ entries-find log entries parts.1 more.0 last next parts.3 all.1 more.2

-- the start of the run is that of the base
record Starts (bytes : List ℕ) (program : Program) (answers : List Answer) (first : history.Session) : Type 0 where
  is : if_exact answers (start profile program answers) ≡ Some first.state

starts : (bytes : List ℕ) (program : Program) (answers : List Answer) (first : history.Session) → usual.form_in bytes ≡ Some program → began usual bytes answers ≡ Some first → Starts bytes program answers first
starts bytes program answers first form begun =
    let with = sym (ap (began_with usual bytes answers) form) ∙ begun in
    let found = mapped (fresh_session bytes 0) (if_exact answers (start profile program answers)) first with in
    record { is = found.1 ∙ ap (λ (x : history.Session). Some x.state) found.2 }

pub log-opens : (bytes : List ℕ) (program : Program) (answers : List Answer) (items : List Item) (last : history.Session) (log : Log) → usual.form_in bytes ≡ Some program
    → LogKeeps bytes answers items last log → opening_form profile program log (difference_from 0 log.kept.form bytes) ≡ opened (fresh_session bytes 0 last.state)
log-opens bytes program answers items last log form keeps =
    let ran = keeps.start.ran in
    let begun = starts bytes program answers ran.first form ran.begun in
    let same : difference_from 0 log.kept.form bytes ≡ None = ap (λ (bs : List ℕ). difference_from 0 bs bytes) keeps.form ∙ no-difference 0 bytes in
    ap (opening_form profile program log) same
    ∙ ap (λ o. opening_from profile log (start_with profile program o)) keeps.start.base
    ∙ ap (opening_from profile log) begun.is
    ∙ entries-find log log.kept.entries items ran.first last (first_gate log) keeps.start.entries (items-lines log.kept.entries items keeps.start.entries) ran.goes
    ∙ ap (λ o. at_cut log.kept.slot o (fresh_session log.kept.form log.kept.adoptions last.state)) keeps.whole
    ∙ (λ i. opened (fresh_session (keeps.form i) (keeps.adoptions i) last.state))

-- no adoption is counted
counts-right : (log : Log) → log.kept.adoptions ≡ 0 → counts_wrongly log ≡ false
counts-right log e = ap (λ n. nat_lt 0 n && begins_start log.kept.base) e

-- slots that keep a session open to it
pub keeps-opens : (bytes : List ℕ) (program : Program) (answers : List Answer) (items : List Item) (last : history.Session) (image : Image) → usual.form_in bytes ≡ Some program
    → KeepsAt bytes answers items last image → opening profile bytes program image ≡ opened (fresh_session bytes 0 last.state)
keeps-opens bytes program answers items last image form at =
    ap (opening_held profile bytes program) at.1 ∙ ap (opening_counted profile bytes program at.0) (counts-right at.0 at.2.adoptions)
    ∙ log-opens bytes program answers items last at.0 form at.2

-- the answers of a base are short
short-in : (bytes : List ℕ) (o : Option (List Answer)) (answers : List Answer) → AnswersWithin o → o ≡ Some answers → list_all is_short answers ≡ true
short-in bytes None answers within h = cc
short-in bytes (Some given) answers within h = subst (λ (l : List Answer). list_all is_short l ≡ true) (some-one given answers h) within.1
  where
    some-one : (x y : List Answer) → Some x ≡ Some y → x ≡ y
    some-one x y i = cc

pub base-short : (base : List ℕ) (answers : List Answer) → answers_at_base base ≡ Some answers → list_all is_short answers ≡ true
base-short [] answers h = cc
base-short (zero ∷ bytes) answers h = short-in bytes (answers_in bytes) answers (answers_within bytes) h
base-short (suc n ∷ bytes) answers h = cc

-- ---- what is written

-- one event more
pub appended-keeps : (bytes : List ℕ) (answers : List Answer) (items : List Item) (s t : history.Session) (log : Log) (text : List ℕ) (event : Event) (given : List Answer)
    → LogKeeps bytes answers items s log → asked_by text ≡ Ok (asked.Event event) → after_line usual s event given ≡ Some t
    → LogKeeps bytes answers (items ++ line event given ∷ []) t (with_accepted log text given)
appended-keeps bytes answers items s t log text event given h e k = record {
  whole = refl;
  form = h.form;
  adoptions = h.adoptions;
  start = record {
    ran = ran-on usual bytes answers items (line event given ∷ []) s t h.start.ran (one-more usual (line event given) s t k);
    base = h.start.base;
    entries = items-more log.kept.entries items (record { line = text; answers = given }) (line event given) h.start.entries (ap (λ r. item_by r given) e);
  };
}

-- a session that has only started
pub begun-keeps : (bytes : List ℕ) (program : Program) (answers : List Answer) (s : State) → usual.form_in bytes ≡ Some program → is_within [] answers ≡ true
    → if_exact answers (start profile program answers) ≡ Some s → LogKeeps bytes answers [] (fresh_session bytes 0 s) (new_log A 1 (start_image bytes answers))
begun-keeps bytes program answers s form within exact = record {
  whole = refl;
  form = refl;
  adoptions = refl;
  start = record {
    ran = record {
      first = fresh_session bytes 0 s;
      begun = ap (began_with usual bytes answers) form ∙ ap (option_map (fresh_session bytes 0)) exact;
      goes = refl;
    };
    base = all_written [] answers within;
    entries = refl;
  };
}

-- ---- closed slots

no-log : (r : Result Log JournalFault) → some_log r ≡ Ok None → ⊥
no-log (Ok log) h = cc
no-log (Err fault) h = cc

may-create : (image : Image) (a b : Option ℕ) → held_in image (chosen a b) ≡ Ok None → MayCreate 1 a b
may-create image None None h = tt
may-create image (Some a) None h = absurd (no-log (log_of A (in_slot A image)) h)
may-create image None (Some b) h = absurd (no-log (log_of B (in_slot B image)) h)
may-create image (Some a) (Some b) h = absurd (by (a == b) h)
  where
    by : (t : Bool) → held_in image (if t then Err (Damaged B 5) else Ok (Some (if nat_lt b a then A else B))) ≡ Ok None → ⊥
    by true k = cc
    by false k = no-log (log_of (if nat_lt b a then A else B) (in_slot (if nat_lt b a then A else B) image)) k

-- the first journal may be written into slot A
pub ready : {D : Type 0} (seen : D → Image) (may_leave : D → Image → Type 0) (disk : D) → StandsForNone (seen disk) → IsSettled (seen disk) (may_leave disk) → IsReady seen may_leave A 1 0 disk
ready seen may_leave disk none settled = record {
  small = omega arith;
  few = omega arith;
  may = may-create (seen disk) (open_epoch (seen disk).a) (open_epoch (seen disk).b) none;
  settled = settled;
}

-- ---- disks

module _ {D : Type 0} (moment : D → ℕ) (left_since : D → ℕ → Image → Type 0) where
  -- what has P has Q
  pub widened : (old new : D) (P Q : Image → Type 0) → LeavesOnly moment left_since old new P → ((image : Image) → P image → Q image) → LeavesOnly moment left_since old new Q
  widened old new P Q run wider = record {
    later = run.later;
    each = λ image left. wider image (run.each image left);
    before = λ t image le left. by image (run.before t image le left);
  }
    where
      by : {W : Type 0} (image : Image) → W ⊎ P image → W ⊎ Q image
      by image (inl was) = inl was
      by image (inr has) = inr (wider image has)

  -- several calls, one behind the other
  pub runs-on : (old mid new : D) (P : Image → Type 0) → LeavesOnly moment left_since old mid P → LeavesOnly moment left_since mid new P → LeavesOnly moment left_since old new P
  runs-on old mid new P first more = record {
    later = omega (arith, first.later, more.later);
    each = λ image left. by image (λ since. first.each image since) (more.before (moment old) image first.later left);
    before = λ t image le left. earlier t image le (more.before t image (omega (arith, le, first.later)) left);
  }
    where
      by : {W : Type 0} (image : Image) → (W → P image) → W ⊎ P image → P image
      by image has (inl was) = has was
      by image has (inr now) = now

      earlier : (t : ℕ) (image : Image) → t ≤ moment old → left_since mid t image ⊎ P image → left_since old t image ⊎ P image
      earlier t image le (inl was) = first.before t image le was
      earlier t image le (inr now) = inr now

  -- no call was made
  pub stays : (may_leave : D → Image → Type 0) (only_now : (disk : D) (image : Image) → left_since disk (moment disk) image → may_leave disk image) (disk : D) (P : Image → Type 0)
      → LeavesAll (may_leave disk) P → LeavesOnly moment left_since disk disk P
  stays may_leave only_now disk P all = record {
    later = le_refl (moment disk);
    each = λ image left. all image (only_now disk image left);
    before = λ t image le left. inl left;
  }

-- between calls the slots keep what the journal in hand does
pub rest-keeps : {D : Type 0} (seen : D → Image) (may_leave : D → Image → Type 0) (bytes : List ℕ) (answers : List Answer) (items : List Item) (last : history.Session) (journal : Journal) (log : Log) (disk : D)
    → IsAtRest seen may_leave journal log disk → LogKeeps bytes answers items last log → LeavesAll (may_leave disk) (Keeps bytes answers items)
rest-keeps seen may_leave bytes answers items last journal log disk rest keeps image left = (last, (log, ap held (rest.settled image left) ∙ rest.holds, keeps))

pub rests-keep : {D : Type 0} (seen : D → Image) (may_leave : D → Image → Type 0) (bytes : List ℕ) (answers : List Answer) (items : List Item) (last : history.Session) (journal : Option Journal) (log : Log) (disk : D)
    → RestsAs seen may_leave journal log disk → LogKeeps bytes answers items last log → LeavesAll (may_leave disk) (Keeps bytes answers items)
rests-keep seen may_leave bytes answers items last None log disk rest keeps = absurd rest
rests-keep seen may_leave bytes answers items last (Some journal) log disk rest keeps = rest-keeps seen may_leave bytes answers items last journal log disk rest keeps

-- one of two journals keeps one of two lists
pub either-keeps : (bytes : List ℕ) (answers : List Answer) (items others : List Item) (s t : history.Session) (before after : Log) → LogKeeps bytes answers items s before → LogKeeps bytes answers others t after
    → (image : Image) → HoldsEither before after image → KeepsOne bytes answers items others image
either-keeps bytes answers items others s t before after h k image (inl e) = inl (s, (before, e, h))
either-keeps bytes answers items others s t before after h k image (inr e) = inr (t, (after, e, k))

-- closed slots, or the first journal
pub first-keeps : (bytes : List ℕ) (answers : List Answer) (s : history.Session) (old : Image) (log : Log) → StandsForNone old → LogKeeps bytes answers [] s log
    → (image : Image) → HoldsOldOr old log image → KeepsNoItem bytes image
first-keeps bytes answers s old log none keeps image (inl e) = inl (e ∙ none)
first-keeps bytes answers s old log none keeps image (inr e) = inr (answers, (s, (log, e, keeps)))

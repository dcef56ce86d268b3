-- Opening finds the session.
use Rattle.std.proofs.Common.{ℕ, suc, ◌+◌, ◌^◌, ◌≡◌, ◌<◌, ◌⊎◌, inl, inr, Bool, true, false, if◌then◌else◌, ◌==◌, List, [], ◌∷◌, ◌++◌, length, Some, None, Ok, refl, sym, ap, ◌∙◌, subst, arith}
use Rattle.std.proofs.lemmas.Bool.Decides.{nat_tests}
use Rattle.std.proofs.lemmas.List.{length-append}
use Rattle.xf_disk.specs.Image.{Image}
use Rattle.xf_store.specs.declared.answers.Answer.{Answer}
use Rattle.xf_journal.specs.declared.entry.Accepted.{Accepted}
use Rattle.xf_journal.specs.Entry.{written_bytes}
use Rattle.xf_journal.specs.Held.{Log, held}
use Rattle.xf_def_machine.specs.Program.{Program}
use Rattle.xf_def_machine.specs.State.{State}
use Rattle.xf_def_machine.specs.Start.{start}
use Rattle.xf_def_machine.specs.Run.{if_exact}
use Rattle.xf_def_sessions.specs.Sessions.{Machine, IsSessionState, Session, snap_of, fresh_session}
use Rattle.xf_def_sessions.specs.Runs.{Item, line, adopt, undo, redo, Accepts, Goes, Ran}
use Rattle.xf_def_sessions.specs.Images.{item_of, items_of, answers_at_base, snap_at_base, FromStart, FromSnap, LogStands}
use Rattle.xf_def_sessions.specs.Opening.{Opened, difference_from, first_gate, base_limit, Gives, state_after, at_cut, then_entries, replayed, OpensBase, OpensForm, OpensHeld, Opens}
use Rattle.xf_def_sessions.specs.Counts.{FormsAreFilled}
use Rattle.xf_def_sessions.specs.Alike.{AreAlike, GoesAlike}
use Rattle.xf_def_sessions.specs.Finding.{FindsIn, AreFew, StandingOpens, OpeningFinds, FindingLaws}
use Rattle.xf_def_sessions.proofs.RunLaws.{IsLine, AreLines, lines-form}
use Rattle.xf_def_sessions.proofs.EntryLaws.{joined-items, items-lines}
use Rattle.xf_def_sessions.proofs.Counted.{HasForm, IsOneMore, line-more, goes-counts, runs_count}
use Rattle.xf_def_sessions.proofs.OneImage.{one-option, not-both}
use Rattle.xf_def_sessions.proofs.RestLaws.{alike-itself, is-begun, begun-rests, begun-form, begun-count, line-alike, runs_rest}

-- ---- one form

same-bytes : (at b : ℕ) (bs : List ℕ) → difference_from (suc at) bs bs ≡ None → difference_from at (b ∷ bs) (b ∷ bs) ≡ None
same-bytes at b bs rest = by (b == b) (grind (arith, nat_tests))
  where
    by : (t : Bool) → t ≡ true → (if t then difference_from (suc at) bs bs else Some at) ≡ None
    by true e = rest
    by false e = cc

no-difference : (at : ℕ) (bs : List ℕ) → difference_from at bs bs ≡ None
no-difference at [] = refl
no-difference at (b ∷ bs) = same-bytes at b bs (no-difference (suc at) bs)

-- ---- the entries

abbrev Finds : Machine → Log → State → Opened → Type 0
Finds m log last result =
    (r : State) × (result ≡ at_cut log.kept.slot log.cut (fresh_session log.kept.form log.kept.adoptions r)) × AreAlike m.profile r last

-- an item of an entry
item-alike : (m : Machine) (s next : Session) (item : Item) (found : State) → FormsAreFilled m → GoesAlike m → HasForm m s → s.state.accepted < 2 ^ 62 → IsLine item
    → Accepts m s item next → AreAlike m.profile found s.state
    → (r : State) × (state_after m.profile found (Some item) ≡ Some r) × AreAlike m.profile r next.state × IsOneMore m s next
item-alike m s next (line event given) found f laws h few is e alike =
    let after = line-alike m s next event given found laws h few e alike in
    (after.0, after.1, after.2, line-more m s next event given f h e)
item-alike m s next (adopt bytes) found f laws h few is e alike = absurd is
item-alike m s next undo found f laws h few is e alike = absurd is
item-alike m s next redo found f laws h few is e alike = absurd is

entries-find : (m : Machine) (log : Log) (entries : List Accepted) (items : List Item) (s last : Session) (found : State) (at : ℕ) → FormsAreFilled m → GoesAlike m
    → HasForm m s → length items + s.state.accepted < 2 ^ 62 → items_of entries ≡ Some items → AreLines items → Goes m s items last → AreAlike m.profile found s.state
    → Finds m log last.state (replayed m.profile log entries at found)
entries-find m log [] items s last found at f laws h few e lines goes alike =
    let none : items ≡ [] = cc in
    let same : s ≡ last = subst (λ is. Goes m s is last) none goes in
    (found, refl, subst (λ (x : Session). AreAlike m.profile found x.state) same alike)
entries-find m log (entry ∷ entries) items s last found at f laws h few e lines goes alike =
    let parts = joined-items (item_of entry) (items_of entries) items e in
    let more : Goes m s (parts.0 ∷ parts.1) last = subst (λ is. Goes m s is last) parts.4 goes in
    let all : AreLines (parts.0 ∷ parts.1) = subst AreLines parts.4 lines in
    let size = ap length parts.4 in
    let now : s.state.accepted < 2 ^ 62 = omega (arith, size, few) in
    let after = item-alike m s more.0 parts.0 found f laws h now all.0 more.1 alike in
    let one = after.3.count in
    let later : length parts.1 + more.0.state.accepted < 2 ^ 62 = omega (arith, size, one, few) in
    let next = at + length (written_bytes entry.line entry.answers) in
    let rest = entries-find m log entries parts.1 more.0 last after.0 next f laws after.3.form later parts.3 all.1 more.2 after.2 in
    let here_ : replayed m.profile log (entry ∷ entries) at found ≡ replayed m.profile log entries next after.0
    = ap (λ o. then_entries log at (replayed m.profile log entries next) (state_after m.profile found o)) parts.2 ∙ ap (then_entries log at (replayed m.profile log entries next)) after.1 in
    (rest.0, here_ ∙ rest.1, rest.2)

-- ---- the base

-- the session at the base of a journal
pub record HasBase (m : Machine) (items : List Item) (last : Session) (log : Log) : Type 0 where
  pub base : Session
  pub since : List Item
  pub form : HasForm m base
  pub rest : IsSessionState m.profile base.state
  pub few : length since + base.state.accepted < 2 ^ 62
  pub same_form : base.form ≡ last.form
  pub entries : items_of log.kept.entries ≡ Some since
  pub lines : AreLines since
  pub goes : Goes m base since last
  pub gives : Gives m.profile last.state.form log.kept.base base.state
  pub gives_alike : (s : State) → Gives m.profile last.state.form log.kept.base s → AreAlike m.profile s base.state

snap-few : (items before after : List Item) (s : Session) → items ≡ before ++ after → AreFew items → s.state.accepted ≡ length before → (snap_of s.state).accepted < base_limit
unfolding snap_of
snap-few items before after s split few count = let sum = ap length split ∙ length-append before after in omega (arith, sum, count, few)

module _ (m : Machine) (bytes : List ℕ) (answers : List Answer) (items : List Item) (last : Session) (log : Log) (f : FormsAreFilled m) (laws : GoesAlike m) (few : AreFew items) where
  -- the program of the session at the base is that of the last one
  same-program : (base : Session) → HasForm m base → HasForm m last → base.form ≡ last.form → base.state.form ≡ last.state.form
  same-program base h k e = one-option (m.form_in base.form) base.state.form last.state.form h (ap m.form_in e ∙ k)

  from-start : Ran m bytes answers items last → FromStart m bytes answers items last log → HasBase m items last log
  from-start ran a =
      let first = a.ran.first in
      let begun = is-begun m bytes answers first a.ran.begun in
      let lines = items-lines log.kept.entries items a.entries in
      let forms = (lines-form m items first last lines a.ran.goes).0 in
      let form = begun-form m bytes answers first f a.ran.begun in
      let last_form = (runs_count m bytes answers items last f a.ran).form in
      let program : begun.program ≡ last.state.form = one-option (m.form_in bytes) begun.program last.state.form begun.read (ap m.form_in (sym begun.form ∙ forms) ∙ last_form) in
      let rest = begun-rests m bytes answers first laws begun in
      let started : if_exact answers (start m.profile last.state.form answers) ≡ Some first.state
      = ap (λ (x : Program). if_exact answers (start m.profile x answers)) (sym program) ∙ begun.started in
      record {
        base = first;
        since = items;
        form = form;
        rest = rest;
        few = let none = begun-count m bytes answers first f a.ran.begun in omega (arith, none, few);
        same_form = forms;
        entries = a.entries;
        lines = lines;
        goes = a.ran.goes;
        gives = inl (answers, a.base, started);
        gives_alike = λ s g. start-alike first a.base started rest s g;
      }
    where
      start-alike : (first : Session) → answers_at_base log.kept.base ≡ Some answers → if_exact answers (start m.profile last.state.form answers) ≡ Some first.state
          → IsSessionState m.profile first.state → (s : State) → Gives m.profile last.state.form log.kept.base s → AreAlike m.profile s first.state
      start-alike first base started rest s (inl (others, e, k)) =
          let same : others ≡ answers = one-option (answers_at_base log.kept.base) others answers e base in
          let there : if_exact answers (start m.profile last.state.form answers) ≡ Some s = ap (λ (x : List Answer). if_exact x (start m.profile last.state.form x)) (sym same) ∙ k in
          let one : first.state ≡ s = one-option (if_exact answers (start m.profile last.state.form answers)) first.state s started there in
          subst (λ (x : State). AreAlike m.profile x first.state) one (alike-itself m.profile first.state rest)
      start-alike first base started rest s (inr (snap, e, k)) = absurd (not-both log.kept.base answers snap base e)

  from-snap : FromSnap m bytes answers items last log → HasBase m items last log
  from-snap b =
      let lines = items-lines log.kept.entries b.after b.entries in
      let forms = (lines-form m b.after b.between last lines b.goes).0 in
      let counted = runs_count m bytes answers b.before b.between f b.ran in
      let last_form = (goes-counts m b.after b.between last f counted.form b.goes).1 in
      let sum = ap length b.split ∙ length-append b.before b.after in
      let rest = runs_rest m bytes answers b.before b.between f laws (omega (arith, sum, few)) b.ran in
      let program = same-program b.between counted.form last_form forms in
      record {
        base = b.between;
        since = b.after;
        form = counted.form;
        rest = rest;
        few = let count = counted.accepted in omega (arith, sum, count, few);
        same_form = forms;
        entries = b.entries;
        lines = lines;
        goes = b.goes;
        gives = inr (snap_of b.between.state, b.base, record { few = snap-few items b.before b.after b.between b.split few counted.accepted; stands = rest; form = program; snap = refl });
        gives_alike = λ s g. snap-alike b.between b.base program rest s g;
      }
    where
      snap-alike : (base : Session) → snap_at_base log.kept.base ≡ Some (snap_of base.state) → base.state.form ≡ last.state.form → IsSessionState m.profile base.state
          → (s : State) → Gives m.profile last.state.form log.kept.base s → AreAlike m.profile s base.state
      snap-alike base e program rest s (inl (others, k, i)) = absurd (not-both log.kept.base others (snap_of base.state) k e)
      snap-alike base e program rest s (inr (snap, k, restored)) = record {
        one = restored.stands;
        other = rest;
        form = restored.form ∙ sym program;
        snap = restored.snap ∙ one-option (snap_at_base log.kept.base) snap (snap_of base.state) k e;
      }

  has-base : LogStands m bytes answers items last log → HasBase m items last log
  has-base h = by h.stands
    where
      by : FromStart m bytes answers items last log ⊎ FromSnap m bytes answers items last log → HasBase m items last log
      by (inl a) = from-start a.ran a
      by (inr b) = from-snap b

  -- ---- the whole

  found-in : (whole : log.cut ≡ None) → log.kept.form ≡ last.form → log.kept.adoptions ≡ last.adoptions → (result : Opened) → Finds m log last.state result → FindsIn m last result
  found-in whole form adoptions result (r, e, alike) = (
    fresh_session log.kept.form log.kept.adoptions r,
    e ∙ ap (λ cut. at_cut log.kept.slot cut (fresh_session log.kept.form log.kept.adoptions r)) whole,
    record { form = form; adoptions = adoptions; state = alike },
  )

  base-finds : LogStands m bytes answers items last log → (s : State) → Gives m.profile last.state.form log.kept.base s
      → FindsIn m last (replayed m.profile log log.kept.entries (first_gate log) s)
  base-finds h s g =
      let b = has-base h in
      found-in h.whole h.form h.adoptions _
      (entries-find m log log.kept.entries b.since b.base last s (first_gate log) f laws b.form b.few b.entries b.lines b.goes (b.gives_alike s g))

  opens-base : LogStands m bytes answers items last log → (result : Opened) × OpensBase m.profile last.state.form log result × FindsIn m last result
  opens-base h =
      let b = has-base h in
      (replayed m.profile log log.kept.entries (first_gate log) b.base.state, inl (b.base.state, b.gives, refl), base-finds h b.base.state b.gives)

  finds-base : LogStands m bytes answers items last log → (result : Opened) → OpensBase m.profile last.state.form log result → FindsIn m last result
  finds-base h result (inl (s, g, e)) = subst (FindsIn m last) (sym e) (base-finds h s g)
  finds-base h result (inr (none, e)) = let b = has-base h in absurd (none b.base.state b.gives)

  same-form : LogStands m bytes answers items last log → difference_from 0 log.kept.form last.form ≡ None
  same-form h = ap (λ bs. difference_from 0 bs last.form) h.form ∙ no-difference 0 last.form

-- what an image gives is what its journal gives
opens-held : (m : Machine) (last : Session) (log : Log) (image : Image) (result : Opened) → held image ≡ Ok (Some log) → difference_from 0 log.kept.form last.form ≡ None
    → Opens m.profile last.form last.state.form image result ≡ OpensBase m.profile last.state.form log result
opens-held m last log image result e same =
    ap (λ r. OpensHeld m.profile last.form last.state.form r result) e ∙ ap (λ o. OpensForm m.profile last.state.form log o result) same

transported : {X Y : Type 0} → X ≡ Y → X → Y
transported e x = subst (λ Z. Z) e x

pub standing_opens : StandingOpens
standing_opens m bytes answers items last image f laws few (log, e, h) =
    let made = opens-base m bytes answers items last log f laws few h in
    let same = opens-held m last log image made.0 e (same-form m bytes answers items last log f laws few h) in
    (made.0, transported (sym same) made.1, made.2)

pub opening_finds : OpeningFinds
opening_finds m bytes answers items last image result f laws few (log, e, h) opens =
    finds-base m bytes answers items last log f laws few h result
    (transported (opens-held m last log image result e (same-form m bytes answers items last log f laws few h)) opens)

pub finding_laws : FindingLaws
finding_laws = record { rests = runs_rest; opens = standing_opens; finds = opening_finds }

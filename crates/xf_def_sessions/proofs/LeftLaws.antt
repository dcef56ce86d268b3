-- What the calls of a journal leave stands for what the session took.
use Rattle.std.proofs.Common.{ℕ, ◌≡◌, ◌≤◌, ◌⊎◌, inl, inr, List, [], ◌∷◌, ◌++◌, refl, sym, subst, ap, ◌∙◌, Some, Ok}
use Rattle.std.proofs.lemmas.List.{append_assoc, append-nil}
use Rattle.xf_disk.specs.Image.{Image}
use Rattle.xf_disk.specs.Crash.{LeavesAll}
use Rattle.xf_line.specs.declared.event.Event.{Event}
use Rattle.xf_line.specs.declared.event.Asked.TheVariants as asked
use Rattle.xf_line.specs.Line.{asked_by}
use Rattle.xf_store.specs.declared.answers.Answer.{Answer}
use Rattle.xf_journal.specs.Held.{Log, held}
use Rattle.xf_journal.specs.Scanned.{HoldsEither, with_accepted}
use Rattle.xf_def_sessions.specs.Sessions.{Machine, Session}
use Rattle.xf_def_sessions.specs.Runs.{Item, line, Goes, Ran}
use Rattle.xf_def_sessions.specs.Images.{item_by, item_of, FromStart, FromSnap, LogStands, Stands}
use Rattle.xf_def_sessions.specs.Left.{AppendedStands, RenewedStands, BegunStands, StandingRan, StandsForOne, RestStands, MomentsStand, LeftStands, SettledStands, LeftLaws}
use Rattle.xf_def_sessions.proofs.RunLaws.{goes-on, ran-on, one-more, line-form, line-adoptions}
use Rattle.xf_def_sessions.proofs.EntryLaws.{items-more}

-- ---- journals

asked-item : (text : List ℕ) (event : Event) (given : List Answer) → asked_by text ≡ Ok (asked.Event event) → item_of (record { line = text; answers = given }) ≡ Some (line event given)
asked-item text event given h = ap (λ r. item_by r given) h

pub standing_ran : StandingRan
standing_ran m bytes answers items s log h = by h.stands
  where
    by : FromStart m bytes answers items s log ⊎ FromSnap m bytes answers items s log → Ran m bytes answers items s
    by (inl first) = first.ran
    by (inr snap) = subst (λ is. Ran m bytes answers is s) (sym snap.split) (ran-on m bytes answers snap.before snap.after snap.between s snap.ran snap.goes)

pub appended_stands : AppendedStands
appended_stands m bytes answers items s t log text event given h e k = record {
  whole = refl;
  form = h.form ∙ line-form m s t event given k;
  adoptions = h.adoptions ∙ line-adoptions m s t event given k;
  stands = by h.stands;
}
  where
    item : Item
    item = line event given

    more : Goes m s (item ∷ []) t
    more = one-more m item s t k

    by : FromStart m bytes answers items s log ⊎ FromSnap m bytes answers items s log
        → FromStart m bytes answers (items ++ item ∷ []) t (with_accepted log text given) ⊎ FromSnap m bytes answers (items ++ item ∷ []) t (with_accepted log text given)
    by (inl first) = inl (record {
      ran = ran-on m bytes answers items (item ∷ []) s t first.ran more;
      base = first.base;
      entries = items-more log.kept.entries items _ item first.entries (asked-item text event given e);
    })
    by (inr snap) = inr (record {
      before = snap.before;
      after = snap.after ++ item ∷ [];
      split = ap (λ is. is ++ item ∷ []) snap.split ∙ append_assoc snap.before snap.after (item ∷ []);
      between = snap.between;
      ran = snap.ran;
      goes = goes-on m snap.after (item ∷ []) snap.between s t snap.goes more;
      base = snap.base;
      entries = items-more log.kept.entries snap.after _ item snap.entries (asked-item text event given e);
    })

pub renewed_stands : RenewedStands
renewed_stands m bytes answers items s slot epoch image ran h = record {
  whole = refl;
  form = h.form;
  adoptions = h.adoptions;
  stands = inr (record { before = items; after = []; split = sym (append-nil items); between = s; ran = ran; goes = refl; base = h.base; entries = refl });
}

pub begun_stands : BegunStands
begun_stands m bytes answers s slot epoch image ran form adoptions base = record {
  whole = refl;
  form = form;
  adoptions = adoptions;
  stands = inl (record { ran = ran; base = base; entries = refl });
}

pub left_laws : LeftLaws
left_laws = record { appended = appended_stands; renewed = renewed_stands; begun = begun_stands; ran = standing_ran }

-- ---- disks

stood : (m : Machine) (bytes : List ℕ) (answers : List Answer) (items : List Item) (s : Session) (log : Log) (image : Image)
    → LogStands m bytes answers items s log → held image ≡ Ok (Some log) → Stands m bytes answers items image
stood m bytes answers items s log image h e = (s, (log, e, h))

pub rest_stands : {D : Type 0} (seen : D → Image) (may_leave : D → Image → Type 0) → RestStands seen may_leave
rest_stands seen may_leave m bytes answers items s journal disk h image left =
    stood m bytes answers items s h.log image h.stands (ap held (h.rest.settled image left) ∙ h.rest.holds)

pub moments_stand : {D : Type 0} (moment : D → ℕ) (left_since : D → ℕ → Image → Type 0) → MomentsStand moment left_since
moments_stand moment left_since m bytes answers items others s t before after old new h k leaves = record {
  later = leaves.later;
  each = λ image left. by image (leaves.each image left);
  before = λ at image le left. earlier at image (leaves.before at image le left);
}
  where
    by : (image : Image) → HoldsEither before after image → StandsForOne m bytes answers items others image
    by image (inl e) = inl (stood m bytes answers items s before image h e)
    by image (inr e) = inr (stood m bytes answers others t after image k e)

    earlier : (at : ℕ) (image : Image) → left_since old at image ⊎ HoldsEither before after image → left_since old at image ⊎ StandsForOne m bytes answers items others image
    earlier at image (inl left) = inl left
    earlier at image (inr e) = inr (by image e)

pub left_stands : {D : Type 0} (moment : D → ℕ) (may_leave : D → Image → Type 0) (left_since : D → ℕ → Image → Type 0)
    → ((disk : D) (t : ℕ) (image : Image) → t ≤ moment disk → may_leave disk image → left_since disk t image) → LeftStands moment may_leave left_since
left_stands moment may_leave left_since now m bytes answers items others old new leaves image left = leaves.each image (now new (moment old) image leaves.later left)

pub settled_stands : {D : Type 0} (seen : D → Image) (may_leave : D → Image → Type 0) → SettledStands seen may_leave
settled_stands seen may_leave m bytes answers items others disk stands all settled = by (all (seen disk) stands)
  where
    by : StandsForOne m bytes answers items others (seen disk)
        → LeavesAll (may_leave disk) (Stands m bytes answers items) ⊎ LeavesAll (may_leave disk) (Stands m bytes answers others)
    by (inl h) = inl (λ image left. subst (Stands m bytes answers items) (sym (settled image left)) h)
    by (inr h) = inr (λ image left. subst (Stands m bytes answers others) (sym (settled image left)) h)

-- What one image fixes.
use Rattle.std.proofs.Common.{ℕ, zero, suc, ◌≡◌, ◌⊎◌, inl, inr, List, [], ◌∷◌, ◌++◌, length, Option, Some, Result, Ok, refl, sym, ap, ◌∙◌, subst, arith}
use Rattle.std.proofs.lemmas.List.{length-append}
use Rattle.xf_store.specs.declared.answers.Answer.{Answer}
use Rattle.xf_journal.specs.declared.fault.JournalFault.{JournalFault}
use Rattle.xf_journal.specs.Held.{Log, held}
use Rattle.xf_snap.specs.declared.snap.Snap.{Snap}
use Rattle.xf_def_sessions.specs.Sessions.{Machine, Session, Kept, snap_of, kept_of}
use Rattle.xf_def_sessions.specs.Runs.{Item, began, Goes}
use Rattle.xf_def_sessions.specs.Images.{items_of, answers_at_base, snap_at_base, FromStart, FromSnap, LogStands}
use Rattle.xf_def_sessions.specs.Counts.{FormsAreFilled}
use Rattle.xf_def_sessions.specs.OneImage.{CameAlike, AreOne, ImagesFix, NoneStandsForBoth, OneImageLaws}
use Rattle.xf_def_sessions.proofs.RunLaws.{lines-form}
use Rattle.xf_def_sessions.proofs.EntryLaws.{items-lines}
use Rattle.xf_def_sessions.proofs.Counted.{runs_count}
use Rattle.xf_def_sessions.proofs.LeftLaws.{standing_ran}

pub one-option : {X : Type 0} (o : Option X) (x y : X) → o ≡ Some x → o ≡ Some y → x ≡ y
one-option o x y h k = cc

pub one-log : (r : Result (Option Log) JournalFault) (x y : Log) → r ≡ Ok (Some x) → r ≡ Ok (Some y) → x ≡ y
one-log r x y h k = cc

-- a base is that of a start or a snapshot
pub not-both : (base : List ℕ) (answers : List Answer) (snap : Snap) → answers_at_base base ≡ Some answers → snap_at_base base ≡ Some snap → ⊥
not-both [] answers snap h k = cc
not-both (zero ∷ bytes) answers snap h k = cc
not-both (suc kind ∷ bytes) answers snap h k = cc

-- ---- how two sessions came by one journal

module _ (m : Machine) (bytes : List ℕ) (answers : List Answer) (items others : List Item) (s t : Session) (log : Log) where
  both-start : FromStart m bytes answers items s log → FromStart m bytes answers others t log → CameAlike m bytes answers items others s t
  both-start a b =
      let same : items ≡ others = one-option (items_of log.kept.entries) items others a.entries b.entries in
      let first : a.ran.first ≡ b.ran.first = one-option (began m bytes answers) a.ran.first b.ran.first a.ran.begun b.ran.begun in
      record {
        before = [];
        earlier = [];
        after = items;
        split = refl;
        split_other = sym same;
        between = a.ran.first;
        other = b.ran.first;
        ran = record { first = a.ran.first; begun = a.ran.begun; goes = refl };
        ran_other = record { first = b.ran.first; begun = b.ran.begun; goes = refl };
        kept = ap kept_of first;
        goes = a.ran.goes;
        goes_other = subst (λ is. Goes m b.ran.first is t) (sym same) b.ran.goes;
      }

  both-snap : log.kept.form ≡ s.form → log.kept.form ≡ t.form → log.kept.adoptions ≡ s.adoptions → log.kept.adoptions ≡ t.adoptions
      → FromSnap m bytes answers items s log → FromSnap m bytes answers others t log → CameAlike m bytes answers items others s t
  both-snap form other_form adoptions other_adoptions a b =
      let same : a.after ≡ b.after = one-option (items_of log.kept.entries) a.after b.after a.entries b.entries in
      let snap : snap_of a.between.state ≡ snap_of b.between.state = one-option (snap_at_base log.kept.base) _ _ a.base b.base in
      let kept_form = lines-form m a.after a.between s (items-lines log.kept.entries a.after a.entries) a.goes in
      let other_kept = lines-form m b.after b.between t (items-lines log.kept.entries b.after b.entries) b.goes in
      let forms : a.between.form ≡ b.between.form = kept_form.0 ∙ sym form ∙ other_form ∙ sym other_kept.0 in
      let counts : a.between.adoptions ≡ b.between.adoptions = kept_form.1 ∙ sym adoptions ∙ other_adoptions ∙ sym other_kept.1 in
      record {
        before = a.before;
        earlier = b.before;
        after = a.after;
        split = a.split;
        split_other = b.split ∙ ap (λ is. b.before ++ is) (sym same);
        between = a.between;
        other = b.between;
        ran = a.ran;
        ran_other = b.ran;
        kept = same-kept a.between b.between forms counts snap;
        goes = a.goes;
        goes_other = subst (λ is. Goes m b.between is t) (sym same) b.goes;
      }
    where
      same-kept : (x y : Session) → x.form ≡ y.form → x.adoptions ≡ y.adoptions → snap_of x.state ≡ snap_of y.state → kept_of x ≡ kept_of y
      same-kept x y f a p = cc

  came : log.kept.form ≡ s.form → log.kept.form ≡ t.form → log.kept.adoptions ≡ s.adoptions → log.kept.adoptions ≡ t.adoptions
      → FromStart m bytes answers items s log ⊎ FromSnap m bytes answers items s log → FromStart m bytes answers others t log ⊎ FromSnap m bytes answers others t log
      → CameAlike m bytes answers items others s t
  came f g h k (inl a) (inl b) = both-start a b
  came f g h k (inl a) (inr b) = absurd (not-both log.kept.base answers (snap_of b.between.state) a.base b.base)
  came f g h k (inr a) (inl b) = absurd (not-both log.kept.base answers (snap_of a.between.state) b.base a.base)
  came f g h k (inr a) (inr b) = both-snap f g h k a b

-- ---- the counts

same-length : (before earlier after items others : List Item) → items ≡ before ++ after → others ≡ earlier ++ after → length before ≡ length earlier → length items ≡ length others
same-length before earlier after items others h k e =
    let a = ap length h ∙ length-append before after in
    let b = ap length k ∙ length-append earlier after in
    omega (arith, a, b, e)

came-accepted : (m : Machine) (bytes : List ℕ) (answers : List Answer) (items others : List Item) (s t : Session) (c : CameAlike m bytes answers items others s t)
    → c.between.state.accepted ≡ c.other.state.accepted
unfolding snap_of
came-accepted m bytes answers items others s t c = ap (λ (k : Kept). k.snap.accepted) c.kept

one-of : (m : Machine) (bytes : List ℕ) (answers : List Answer) (items others : List Item) (s t : Session) (log : Log) → FormsAreFilled m
    → LogStands m bytes answers items s log → LogStands m bytes answers others t log → AreOne m bytes answers items others s t
one-of m bytes answers items others s t log f h k =
    let c = came m bytes answers items others s t log h.form k.form h.adoptions k.adoptions h.stands k.stands in
    let counted = runs_count m bytes answers items s f (standing_ran m bytes answers items s log h) in
    let other = runs_count m bytes answers others t f (standing_ran m bytes answers others t log k) in
    let between = runs_count m bytes answers c.before c.between f c.ran in
    let earlier = runs_count m bytes answers c.earlier c.other f c.ran_other in
    let same = sym between.accepted ∙ came-accepted m bytes answers items others s t c ∙ earlier.accepted in
    let lengths = same-length c.before c.earlier c.after items others c.split c.split_other same in
    let forms : s.form ≡ t.form = sym h.form ∙ k.form in
    record {
      lengths = lengths;
      form = forms;
      adoptions = sym h.adoptions ∙ k.adoptions;
      program = one-option (m.form_in s.form) s.state.form t.state.form counted.form (ap m.form_in forms ∙ other.form);
      accepted = counted.accepted ∙ lengths ∙ sym other.accepted;
      came = c;
    }

pub images_fix : ImagesFix
images_fix m bytes answers items others s t image f (log, e, h) (other, d, k) =
    one-of m bytes answers items others s t log f h (subst (LogStands m bytes answers others t) (one-log (held image) other log d e) k)

-- ---- one item more

longer : (items : List Item) (item : Item) → length items ≡ length (items ++ item ∷ []) → ⊥
longer items item h = let more = length-append items (item ∷ []) in omega (arith, h, more)

pub none_stands_for_both : NoneStandsForBoth
none_stands_for_both m bytes answers items item image f (s, h) (t, k) = longer items item (images_fix m bytes answers items (items ++ item ∷ []) s t image f h k).lengths

pub one_image_laws : OneImageLaws
one_image_laws = record { fix = images_fix; apart = none_stands_for_both }

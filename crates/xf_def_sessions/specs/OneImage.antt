-- What one image fixes: where it stands for two lists of items of one start, these are of one length, and what is kept of their sessions is one.
use Rattle.std.specs.Prelude.{ℕ, ◌≡◌, List, [], ◌∷◌, ◌++◌, length}
use Rattle.xf_disk.specs.Image.{Image}
use Rattle.xf_store.specs.declared.answers.Answer.{Answer}
use Rattle.xf_def_sessions.specs.Sessions.{Machine, Session, kept_of}
use Rattle.xf_def_sessions.specs.Runs.{Item, Goes, Ran}
use Rattle.xf_def_sessions.specs.Images.{StandsAt, Stands}
use Rattle.xf_def_sessions.specs.Counts.{FormsAreFilled}

-- two sessions of one start came by the same last items from sessions of which the same is kept
pub record CameAlike (m : Machine) (bytes : List ℕ) (answers : List Answer) (items others : List Item) (s t : Session) : Type 0 where
  pub before : List Item
  pub earlier : List Item
  pub after : List Item
  pub split : items ≡ before ++ after
  pub split_other : others ≡ earlier ++ after
  pub between : Session
  pub other : Session
  pub ran : Ran m bytes answers before between
  pub ran_other : Ran m bytes answers earlier other
  pub kept : kept_of between ≡ kept_of other
  pub goes : Goes m between after s
  pub goes_other : Goes m other after t

-- the two lists are of one length, and the sessions have one form, as many adoptions, and as many accepted events
pub record AreOne (m : Machine) (bytes : List ℕ) (answers : List Answer) (items others : List Item) (s t : Session) : Type 0 where
  pub lengths : length items ≡ length others
  pub form : s.form ≡ t.form
  pub adoptions : s.adoptions ≡ t.adoptions
  pub program : s.state.form ≡ t.state.form
  pub accepted : s.state.accepted ≡ t.state.accepted
  pub came : CameAlike m bytes answers items others s t

abbrev pub ImagesFix : Type 0
ImagesFix = (m : Machine) (bytes : List ℕ) (answers : List Answer) (items others : List Item) (s t : Session) (image : Image)
    → FormsAreFilled m → StandsAt m bytes answers items s image → StandsAt m bytes answers others t image → AreOne m bytes answers items others s t

-- so none stands for a list and for the same with one item more
abbrev pub NoneStandsForBoth : Type 0
NoneStandsForBoth = (m : Machine) (bytes : List ℕ) (answers : List Answer) (items : List Item) (item : Item) (image : Image)
    → FormsAreFilled m → Stands m bytes answers items image → Stands m bytes answers (items ++ item ∷ []) image → ⊥

pub record OneImageLaws : Type 0 where
  pub fix : ImagesFix
  pub apart : NoneStandsForBoth

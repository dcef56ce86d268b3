-- Runs of items, one behind the other.
use Rattle.std.proofs.Common.{ℕ, ◌≡◌, List, [], ◌∷◌, ◌++◌, refl, sym, ap, ◌∙◌, subst, Option, Some, None}
use Rattle.std.specs.Prelude.{option_map}
use Rattle.xf_line.specs.declared.event.Event.{Event}
use Rattle.xf_store.specs.declared.answers.Answer.{Answer}
use Rattle.xf_def_sessions.specs.Sessions.{Machine, Session}
use Rattle.xf_def_machine.specs.Run.{if_exact}
use Rattle.xf_def_machine.specs.Step.{step}
use Rattle.xf_def_sessions.specs.History.{after_event}
use Rattle.xf_def_sessions.specs.Runs.{Item, line, adopt, undo, redo, after_line, Accepts, Goes, Ran}

pub goes-on : (m : Machine) (items more : List Item) (s t u : Session) → Goes m s items t → Goes m t more u → Goes m s (items ++ more) u
goes-on m [] more s t u h k = subst (λ x. Goes m x more u) (sym h) k
goes-on m (item ∷ items) more s t u h k = (h.0, h.1, goes-on m items more h.0 t u h.2 k)

pub ran-on : (m : Machine) (bytes : List ℕ) (answers : List Answer) (items more : List Item) (s t : Session) → Ran m bytes answers items s → Goes m s more t
    → Ran m bytes answers (items ++ more) t
ran-on m bytes answers items more s t h k = record { first = h.first; begun = h.begun; goes = goes-on m items more h.first s t h.goes k }

pub one-more : (m : Machine) (item : Item) (s t : Session) → Accepts m s item t → Goes m s (item ∷ []) t
one-more m item s t h = (t, h, refl)

-- ---- an event keeps the form and the adoptions

pub mapped : {X Y : Type 0} (f : X → Y) (o : Option X) (y : Y) → option_map f o ≡ Some y → (x : X) × (o ≡ Some x) × (f x ≡ y)
mapped f None y h = cc
mapped f (Some x) y h = (x, refl, cc)

pub line-form : (m : Machine) (s t : Session) (event : Event) (given : List Answer) → after_line m s event given ≡ Some t → s.form ≡ t.form
line-form m s t event given h = let found = mapped (after_event m s) (if_exact given (step m.profile s.state event given)) t h in ap (λ (x : Session). x.form) found.2

pub line-adoptions : (m : Machine) (s t : Session) (event : Event) (given : List Answer) → after_line m s event given ≡ Some t → s.adoptions ≡ t.adoptions
line-adoptions m s t event given h = let found = mapped (after_event m s) (if_exact given (step m.profile s.state event given)) t h in ap (λ (x : Session). x.adoptions) found.2

abbrev pub IsLine : Item → Type 0
IsLine (line event answers) = Unit {0}
IsLine (adopt bytes) = ⊥
IsLine undo = ⊥
IsLine redo = ⊥

abbrev pub AreLines : List Item → Type 0
AreLines [] = Unit {0}
AreLines (item ∷ items) = IsLine item × AreLines items

item-form : (m : Machine) (item : Item) (s t : Session) → IsLine item → Accepts m s item t → (s.form ≡ t.form) × (s.adoptions ≡ t.adoptions)
item-form m (line event given) s t l h = (line-form m s t event given h, line-adoptions m s t event given h)
item-form m (adopt bytes) s t l h = absurd l
item-form m undo s t l h = absurd l
item-form m redo s t l h = absurd l

pub lines-form : (m : Machine) (items : List Item) (s t : Session) → AreLines items → Goes m s items t → (s.form ≡ t.form) × (s.adoptions ≡ t.adoptions)
lines-form m [] s t l h = (ap (λ (x : Session). x.form) h, ap (λ (x : Session). x.adoptions) h)
lines-form m (item ∷ items) s t l h =
    let first = item-form m item s h.0 l.0 h.1 in
    let rest = lines-form m items h.0 t l.1 h.2 in
    (first.0 ∙ rest.0, first.1 ∙ rest.1)

-- The work of an action is what it changes, and then the events told one after the other.
use Rattle.std.proofs.Common.{ℕ, ◌≡◌, List, [], ◌∷◌, map, zip, Bool, true, false, Option, Ok, refl, sym, ◌∙◌, ◌==◌, get_or, codes, if◌then◌else◌}
use Rattle.xf_def_xpath.specs.Setting.{Focus}
use Rattle.xf_def_model.specs.Places.{Place, planned_insert}
use Rattle.xf_def_model.specs.Taken.{planned_delete}
use Rattle.xf_def_values.specs.Conversions.{Decimal}
use Rattle.xf_def_ui.specs.Elements.{element_at}
use Rattle.xf_def_ui.specs.Cases.{place_of_case}
use Rattle.xf_def_machine.specs.Program.{Work, InsertBy, DeleteBy}
use Rattle.xf_def_machine.specs.Program as work
use Rattle.xf_def_machine.specs.Profile.{Profile}
use Rattle.xf_def_machine.specs.State.{State}
use Rattle.xf_def_machine.specs.Flow.{Run, ◌>>=◌, where_some, in_turn}
use Rattle.xf_def_machine.specs.Surround.{Told, interface, instance_holding}
use Rattle.xf_def_machine.specs.Primitives.{detach}
use Rattle.xf_def_machine.specs.Update.{reindex}
use Rattle.xf_def_machine.specs.Events.{Tell}
use Rattle.xf_def_machine.specs.Acting.{Acting}
use Rattle.xf_def_machine.specs.Act.{done_by}
use Rattle.xf_def_machine.specs.Insert as machine
use Rattle.xf_def_machine.specs.Delete as deletes
use Rattle.xf_def_machine.specs.Choose as choose
use Rattle.xf_actions.specs.Told.{Telling, told, quietly, where_told}
use Rattle.xf_actions.specs.Inserting.{Inserting, planned}
use Rattle.xf_actions.specs.TreeChanges.{tells_instance, inserted, inserted_by, insert_at, insert, deleted, delete_at, delete}
use Rattle.xf_actions.specs.Changed.{toggled, toggle_in, toggle, changed}
use Rattle.xf_actions.specs.Parts.{is_block}
use Rattle.xf_actions.proofs.Flow.{bind-assoc, then-same}
use Rattle.xf_actions.proofs.Telling.{untold-told, where-told, one-told, two-told}

-- ---- insert and delete

pub instance-told : (tell : Tell) (name : List ℕ) (properties : State → Told) (place : Option ℕ) (s : State)
    → machine.tell_instance tell name properties place s ≡ tells_instance name properties place s >>= told tell
instance-told tell name properties place s = where-told tell _ _ place s (λ i t. one-told tell _ t)

pub inserted-told : (p : Profile) (tell : Tell) (is_before : Bool) (location : List ℕ) (places : List Place) (s : State)
    → machine.inserted p tell is_before location places s ≡ inserted p is_before location places s >>= told tell
inserted-told p tell is_before location [] s = refl
inserted-told p tell is_before location (place ∷ places) s =
    let origins = map (λ (q : Place). q.origin) (place ∷ places) in
    let all_put = λ (made : List ℕ × State). in_turn (machine.put_copy p made.0) (zip (place ∷ places) made.0) made.1 >>= reindex p made.0 in
    then-same (machine.copies_of p origins s) _ _ (λ made.
    then-same (all_put made) _ _
    (λ t. instance-told tell (codes "xforms-insert") (λ u. machine.insert_told u is_before made.0 origins location) (instance_holding s place.parent) t)
    ∙ sym (bind-assoc (all_put made) _ (told tell)))
    ∙ sym (bind-assoc (machine.copies_of p origins s) _ (told tell))

pub insert_at-told : (p : Profile) (tell : Tell) (x : Acting) (w : InsertBy) (c : Focus) (s : State)
    → machine.insert_at p tell x w c s ≡ insert_at p x w c s >>= told tell
insert_at-told p tell x w c s =
    let next = λ (i : Inserting). inserted_by p i s >>= told tell in
    then-same (machine.set_asked p x c s) _ _ (λ set.
    then-same (machine.origin_asked p x c w.origin set s) _ _ (λ origin.
    then-same (machine.place_asked p x w.at origin set s) _ _ (λ at.
    inserted-told p tell w.is_before (machine.location_of at c set) (planned_insert s.forest.nodes (machine.asked_with w s c set origin at)) s)
    ∙ sym (bind-assoc (machine.place_asked p x w.at origin set s) _ next))
    ∙ sym (bind-assoc (machine.origin_asked p x c w.origin set s) _ next))
    ∙ sym (bind-assoc (machine.set_asked p x c s) _ next)
    ∙ sym (bind-assoc (planned p x w c s) (λ i. inserted_by p i s) (told tell))

pub insert-told : (p : Profile) (tell : Tell) (x : Acting) (w : InsertBy) (s : State)
    → machine.insert p tell x w s ≡ insert p x w s >>= told tell
insert-told p tell x w s =
    then-same (machine.moved_focus p x w.context s) _ _ (λ c. where-told tell _ _ c s (λ f t. insert_at-told p tell x w f t))
    ∙ sym (bind-assoc (machine.moved_focus p x w.context s) _ (told tell))

pub deleted-told : (p : Profile) (tell : Tell) (location : Decimal) (ns : List ℕ) (s : State)
    → deletes.deleted p tell location ns s ≡ deleted p location ns s >>= told tell
deleted-told p tell location [] s = refl
deleted-told p tell location (n ∷ ns) s =
    let all_cut = in_turn (λ m t. Ok (detach m t)) (n ∷ ns) s >>= reindex p [] in
    then-same all_cut _ _
    (λ t. instance-told tell (codes "xforms-delete") (λ u. deletes.delete_told u (n ∷ ns) location) (instance_holding s n) t)
    ∙ sym (bind-assoc all_cut _ (told tell))

pub delete_at-told : (p : Profile) (tell : Tell) (x : Acting) (w : DeleteBy) (c : Focus) (s : State)
    → deletes.delete_at p tell x w c s ≡ delete_at p x w c s >>= told tell
delete_at-told p tell x w c s =
    then-same (machine.set_asked p x c s) _ _ (λ set.
    then-same (deletes.at_asked p x w.at set s) _ _ (λ at.
    deleted-told p tell (deletes.location_of s.form.decimals set at) (planned_delete s.forest.nodes (deletes.asked_with s set at)) s)
    ∙ sym (bind-assoc (deletes.at_asked p x w.at set s) _ (told tell)))
    ∙ sym (bind-assoc (machine.set_asked p x c s) _ (told tell))

pub delete-told : (p : Profile) (tell : Tell) (x : Acting) (w : DeleteBy) (s : State)
    → deletes.delete p tell x w s ≡ delete p x w s >>= told tell
delete-told p tell x w s =
    then-same (machine.moved_focus p x w.context s) _ _ (λ c. where-told tell _ _ c s (λ f t. delete_at-told p tell x w f t))
    ∙ sym (bind-assoc (machine.moved_focus p x w.context s) _ (told tell))

-- ---- toggle

pub toggled-told : (tell : Tell) (model k place one : ℕ) (rows : List ℕ) (s : State)
    → choose.toggled tell model k place one rows s ≡ toggled model k place one rows s >>= told tell
toggled-told tell model k place one rows s = two-told tell _ _ _

pub unless-told : (tell : Tell) (b : Bool) (run : Run) (change : Telling) (s : State)
    → run s ≡ change s >>= told tell → choose.unless_same b run s ≡ (if b then Ok (quietly s) else change s) >>= told tell
unless-told tell true run change s e = refl
unless-told tell false run change s e = e

pub toggle_in-told : (tell : Tell) (model one parent : ℕ) (s : State)
    → choose.toggle_in tell model one parent s ≡ toggle_in model one parent s >>= told tell
toggle_in-told tell model one parent s =
    let k = choose.switch_number (element_at (interface s) parent).sort in
    let place = place_of_case (interface s) parent one in
    unless-told tell (place == get_or s.cases k 0)
    (λ t. where_some (choose.named_copy t one) (choose.toggled tell model k place one) t)
    (λ t. where_told (choose.named_copy t one) (toggled model k place one) t) s
    (where-told tell (choose.toggled tell model k place one) (toggled model k place one) (choose.named_copy s one) s
    (λ rows t. toggled-told tell model k place one rows t))

pub toggle-told : (tell : Tell) (model one : ℕ) (s : State) → choose.toggle tell model one s ≡ toggle model one s >>= told tell
toggle-told tell model one s = where-told tell _ _ (element_at (interface s) one).parent s (λ parent t. toggle_in-told tell model one parent t)

-- ---- every work but that of a block

pub work-told : (p : Profile) (tell : Tell) (inner : ℕ → Run) (x : Acting) (w : Work) (s : State)
    → is_block w ≡ false → done_by p tell inner x w s ≡ changed p x w s >>= told tell
work-told p tell inner x work.all_in_it s e = cc
work-told p tell inner x (work.set_value value) s e = untold-told tell _
work-told p tell inner x (work.insert w) s e = insert-told p tell x w s
work-told p tell inner x (work.delete w) s e = delete-told p tell x w s
work-told p tell inner x (work.set_index k m) s e = untold-told tell _
work-told p tell inner x (work.toggle one) s e = toggle-told tell x.model one s
work-told p tell inner x (work.set_focus n) s e = untold-told tell _
work-told p tell inner x (work.dispatch w) s e = where-told tell _ _ (choose.named_copy s w.target) s (λ rows t. one-told tell _ t)
work-told p tell inner x (work.send target) s e = where-told tell _ _ target s (λ k t. one-told tell _ t)
work-told p tell inner x (work.load resource) s e = untold-told tell _
work-told p tell inner x work.message s e = untold-told tell _
work-told p tell inner x (work.on_model name) s e = one-told tell _ s

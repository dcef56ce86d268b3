-- Deletes and inserts, step by step.
use Rattle.std.proofs.Common.{ℕ, zero, suc, ◌≡◌, ◌+◌, ◌≤◌, ◌<◌, List, [], ◌∷◌, ◌++◌, map, zip, length, drop, get_or, slice_get, Bool, Option, Some, None, option_map, unwrap_or, Result, Ok, Err, ℤ, refl, ap, sym, ◌∙◌, codes}
use Rattle.std.proofs.lemmas.List.{at_drop_more, at_drop_all, get_or-map, get_or_default, length-map, append_assoc, append-nil}
use Rattle.std.proofs.lemmas.Option.{slice_get_within, get_or_from_slice_get, unwrap_or-slice_get}
use Rattle.xf_store.specs.declared.call.StoreCall.{StoreCall}
use Rattle.xf_def_xpath.specs.Setting.{Focus}
use Rattle.xf_def_model.specs.Places.{Place, planned_insert}
use Rattle.xf_def_model.specs.Taken.{planned_delete}
use Rattle.xf_def_values.specs.Conversions.{Decimal}
use Rattle.xf_def_machine.specs.Program.{Program, InsertBy, DeleteBy}
use Rattle.xf_def_machine.specs.Profile.{Profile}
use Rattle.xf_def_machine.specs.State.{State}
use Rattle.xf_def_machine.specs.Refusal.{Refusal, Refused}
use Rattle.xf_def_machine.specs.Flow.{Run, ◌>>=◌, in_turn}
use Rattle.xf_def_machine.specs.Surround.{instance_holding}
use Rattle.xf_def_machine.specs.Primitives.{copy}
use Rattle.xf_def_machine.specs.Update.{reindex}
use Rattle.xf_def_machine.specs.Acting.{Acting}
use Rattle.xf_def_machine.specs.Events.{Fired}
use Rattle.xf_def_machine.specs.Insert.{moved_focus, set_asked, origin_asked, place_asked, location_of, asked_with, copies_of, put_copy, insert_told}
use Rattle.xf_def_machine.specs.Delete as del
use Rattle.xf_def_machine.specs.Delete.{delete_told}
use Rattle.xf_actions.specs.Performs.{Refuses}
use Rattle.xf_actions.specs.Inserting.{Inserting, planned}
use Rattle.xf_actions.specs.Told.{Telling, quietly, where_told, tells}
use Rattle.xf_actions.specs.TreeChanges.{instance_event, tells_instance, cut, deleted_from, deleted, delete_at, delete, inserted_in, inserted, inserted_by, insert_at, insert}
use Rattle.xf_actions.proofs.Flow.{fine, bind-assoc, then-same, in_turn-next, refuses-then, same-refuses, told-step, told-stop}

-- ---- a delete

pub delete-stops : (p : Profile) (x : Acting) (w : DeleteBy) (s : State) (why : Option Refusal) (calls : List StoreCall)
    → Refuses why calls (moved_focus p x w.context s) → Refuses why calls (delete p x w s)
delete-stops p x w s why calls r = refuses-then why calls (moved_focus p x w.context s) (λ c. where_told c (delete_at p x w) s) r

abbrev deleted_by : Profile → Acting → DeleteBy → State → List ℕ → Telling
deleted_by p x w s set t =
    del.at_asked p x w.at set s >>= λ at. deleted p (del.location_of s.form.decimals set at) (planned_delete s.forest.nodes (del.asked_with s set at)) t

pub delete_at-stops : (p : Profile) (x : Acting) (w : DeleteBy) (c : Focus) (s : State) (why : Option Refusal) (calls : List StoreCall)
    → Refuses why calls (set_asked p x c s) → Refuses why calls (delete_at p x w c s)
delete_at-stops p x w c s why calls r = refuses-then why calls (set_asked p x c s) (λ set. deleted_by p x w s set s) r

pub delete_at-unread : (p : Profile) (x : Acting) (w : DeleteBy) (c : Focus) (s : State) (set : List ℕ) (why : Option Refusal) (calls : List StoreCall)
    → set_asked p x c s ≡ Ok set → Refuses why calls (del.at_asked p x w.at set s) → Refuses why calls (delete_at p x w c s)
delete_at-unread p x w c s set why calls e r =
    same-refuses why calls _ _ (ap (λ g. g >>= λ ns. deleted_by p x w s ns s) e)
    (refuses-then why calls (del.at_asked p x w.at set s) (λ at. deleted p (del.location_of s.form.decimals set at) (planned_delete s.forest.nodes (del.asked_with s set at)) s) r)

pub deleted-none : (p : Profile) (location : Decimal) (ns : List ℕ) (s : State) → slice_get ns 0 ≡ None → deleted p location ns s ≡ fine (quietly s)
deleted-none p location [] s h = refl
deleted-none p location (n ∷ ns) s h = cc

pub deleted-some : (p : Profile) (location : Decimal) (ns : List ℕ) (n : ℕ) (s : State)
    → slice_get ns 0 ≡ Some n → deleted p location ns s ≡ deleted_from p location n ns s
deleted-some p location [] n s h = cc
deleted-some p location (m ∷ ns) n s h = let e : m ≡ n = cc in ap (λ k. deleted_from p location k (m ∷ ns) s) e

abbrev delete_tells : Decimal → List ℕ → Option ℕ → State → Result (List Fired × State) Refused
delete_tells location ns instance t = tells_instance (codes "xforms-delete") (λ u. delete_told u ns location) instance t

pub deleted-cut_stops : (p : Profile) (location : Decimal) (n : ℕ) (ns : List ℕ) (s : State) (why : Option Refusal) (calls : List StoreCall)
    → Refuses why calls (in_turn cut ns s) → Refuses why calls (deleted_from p location n ns s)
deleted-cut_stops p location n ns s why calls r =
    refuses-then why calls (in_turn cut ns s >>= reindex p []) (delete_tells location ns (instance_holding s n))
    (refuses-then why calls (in_turn cut ns s) (reindex p []) r)

pub deleted-reindex_stops : (p : Profile) (location : Decimal) (n : ℕ) (ns : List ℕ) (s t : State) (why : Option Refusal) (calls : List StoreCall)
    → in_turn cut ns s ≡ Ok t → Refuses why calls (reindex p [] t) → Refuses why calls (deleted_from p location n ns s)
deleted-reindex_stops p location n ns s t why calls e r =
    same-refuses why calls _ _ (ap (λ g. g >>= reindex p [] >>= delete_tells location ns (instance_holding s n)) e)
    (refuses-then why calls (reindex p [] t) (delete_tells location ns (instance_holding s n)) r)

pub deleted-tells : (p : Profile) (location : Decimal) (n : ℕ) (ns : List ℕ) (s t u : State) (instance : Option ℕ)
    → in_turn cut ns s ≡ Ok t → reindex p [] t ≡ Ok u → instance ≡ instance_holding s n
    → deleted_from p location n ns s ≡ tells_instance (codes "xforms-delete") (λ v. delete_told v ns location) instance u
deleted-tells p location n ns s t u instance e r i =
    ap (λ g. g >>= reindex p [] >>= delete_tells location ns (instance_holding s n)) e
    ∙ ap (λ g. g >>= delete_tells location ns (instance_holding s n)) r
    ∙ ap (λ o. delete_tells location ns o u) (sym i)

pub deleted-quiet : (p : Profile) (location : Decimal) (n : ℕ) (ns : List ℕ) (s t u : State) (instance : Option ℕ)
    → in_turn cut ns s ≡ Ok t → reindex p [] t ≡ Ok u → instance ≡ instance_holding s n → instance ≡ None
    → deleted_from p location n ns s ≡ fine (quietly u)
deleted-quiet p location n ns s t u instance e r i h =
    deleted-tells p location n ns s t u instance e r i ∙ ap (λ o. delete_tells location ns o u) h

-- the form is what it was, and so are the decimals of the place that is told
pub deleted-told : (p : Profile) (set : List ℕ) (at : Option ℤ) (n : ℕ) (ns : List ℕ) (s t u : State) (instance : Option ℕ) (place : ℕ)
    → in_turn cut ns s ≡ Ok t → reindex p [] t ≡ Ok u → u.form ≡ s.form → instance ≡ instance_holding s n → instance ≡ Some place
    → deleted_from p (del.location_of s.form.decimals set at) n ns s
    ≡ fine (tells (instance_event (codes "xforms-delete") (delete_told u ns (del.location_of u.form.decimals set at)) place u) u)
deleted-told p set at n ns s t u instance place e r same i h =
    deleted-tells p (del.location_of s.form.decimals set at) n ns s t u instance e r i
    ∙ ap (λ o. delete_tells (del.location_of s.form.decimals set at) ns o u) h
    ∙ ap (λ (f : Program). fine (tells (instance_event (codes "xforms-delete") (delete_told u ns (del.location_of f.decimals set at)) place u) u)) (sym same)

-- ---- an insert

pub insert-stops : (p : Profile) (x : Acting) (w : InsertBy) (s : State) (why : Option Refusal) (calls : List StoreCall)
    → Refuses why calls (moved_focus p x w.context s) → Refuses why calls (insert p x w s)
insert-stops p x w s why calls r = refuses-then why calls (moved_focus p x w.context s) (λ c. where_told c (insert_at p x w) s) r

pub insert_at-stops : (p : Profile) (x : Acting) (w : InsertBy) (c : Focus) (s : State) (why : Option Refusal) (calls : List StoreCall)
    → Refuses why calls (planned p x w c s) → Refuses why calls (insert_at p x w c s)
insert_at-stops p x w c s why calls r = refuses-then why calls (planned p x w c s) (λ i. inserted_by p i s) r

abbrev inserting_with : InsertBy → Focus → State → List ℕ → List ℕ → Option ℤ → Inserting
inserting_with w c s set origin at = record {
  is_before = w.is_before;
  location = location_of at c set;
  places = planned_insert s.forest.nodes (asked_with w s c set origin at);
}

abbrev planned_at : Profile → Acting → InsertBy → Focus → State → List ℕ → List ℕ → Result Inserting Refused
planned_at p x w c s set origin = place_asked p x w.at origin set s >>= λ at. Ok (inserting_with w c s set origin at)

abbrev planned_of : Profile → Acting → InsertBy → Focus → State → List ℕ → Result Inserting Refused
planned_of p x w c s set = origin_asked p x c w.origin set s >>= planned_at p x w c s set

pub planned-stops : (p : Profile) (x : Acting) (w : InsertBy) (c : Focus) (s : State) (why : Option Refusal) (calls : List StoreCall)
    → Refuses why calls (set_asked p x c s) → Refuses why calls (planned p x w c s)
planned-stops p x w c s why calls r = refuses-then why calls (set_asked p x c s) (planned_of p x w c s) r

pub planned-no_origin : (p : Profile) (x : Acting) (w : InsertBy) (c : Focus) (s : State) (set : List ℕ) (why : Option Refusal) (calls : List StoreCall)
    → set_asked p x c s ≡ Ok set → Refuses why calls (origin_asked p x c w.origin set s) → Refuses why calls (planned p x w c s)
planned-no_origin p x w c s set why calls e r =
    same-refuses why calls _ _ (ap (λ g. g >>= planned_of p x w c s) e)
    (refuses-then why calls (origin_asked p x c w.origin set s) (planned_at p x w c s set) r)

pub planned-no_place : (p : Profile) (x : Acting) (w : InsertBy) (c : Focus) (s : State) (set origin : List ℕ) (why : Option Refusal) (calls : List StoreCall)
    → set_asked p x c s ≡ Ok set → origin_asked p x c w.origin set s ≡ Ok origin
    → Refuses why calls (place_asked p x w.at origin set s) → Refuses why calls (planned p x w c s)
planned-no_place p x w c s set origin why calls e h r =
    same-refuses why calls _ _ (ap (λ g. g >>= planned_of p x w c s) e ∙ ap (λ g. g >>= planned_at p x w c s set) h)
    (refuses-then why calls (place_asked p x w.at origin set s) (λ at. Ok (inserting_with w c s set origin at)) r)

pub planned-done : (p : Profile) (x : Acting) (w : InsertBy) (c : Focus) (s : State) (set origin : List ℕ) (at : Option ℤ)
    → set_asked p x c s ≡ Ok set → origin_asked p x c w.origin set s ≡ Ok origin → place_asked p x w.at origin set s ≡ Ok at
    → planned p x w c s ≡ fine (inserting_with w c s set origin at)
planned-done p x w c s set origin at e h k =
    ap (λ g. g >>= planned_of p x w c s) e ∙ ap (λ g. g >>= planned_at p x w c s set) h
    ∙ ap (λ g. g >>= λ k. Ok (inserting_with w c s set origin k)) k

pub inserted-none : (p : Profile) (is_before : Bool) (location : List ℕ) (qs : List Place) (s : State)
    → slice_get qs 0 ≡ None → inserted p is_before location qs s ≡ fine (quietly s)
inserted-none p is_before location [] s h = refl
inserted-none p is_before location (q ∷ qs) s h = cc

pub inserted-some : (p : Profile) (is_before : Bool) (location : List ℕ) (qs : List Place) (q : Place) (s : State)
    → slice_get qs 0 ≡ Some q → inserted p is_before location qs s ≡ inserted_in p is_before location q.parent qs s
inserted-some p is_before location [] q s h = cc
inserted-some p is_before location (r ∷ qs) q s h =
    let e : r ≡ q = cc in ap (λ (k : Place). inserted_in p is_before location k.parent (r ∷ qs) s) e

abbrev origins_of : List Place → List ℕ
origins_of qs = map (λ q. q.origin) qs

abbrev insert_tells : Bool → List ℕ → List ℕ → List ℕ → Option ℕ → State → Result (List Fired × State) Refused
insert_tells is_before tops origins location instance t =
    tells_instance (codes "xforms-insert") (λ u. insert_told u is_before tops origins location) instance t

abbrev inserted_of : Profile → Bool → List ℕ → List Place → Option ℕ → List ℕ × State → Result (List Fired × State) Refused
inserted_of p is_before location qs instance made =
    in_turn (put_copy p made.0) (zip qs made.0) made.1 >>= reindex p made.0 >>= insert_tells is_before made.0 (origins_of qs) location instance

pub inserted-uncopied : (p : Profile) (is_before : Bool) (location : List ℕ) (parent : ℕ) (qs : List Place) (s : State)
    (why : Option Refusal) (calls : List StoreCall)
    → Refuses why calls (copies_of p (map (λ q. q.origin) qs) s) → Refuses why calls (inserted_in p is_before location parent qs s)
inserted-uncopied p is_before location parent qs s why calls r =
    refuses-then why calls (copies_of p (origins_of qs) s) (inserted_of p is_before location qs (instance_holding s parent)) r

pub inserted-unput : (p : Profile) (is_before : Bool) (location : List ℕ) (parent : ℕ) (qs : List Place) (s t : State) (tops : List ℕ)
    (why : Option Refusal) (calls : List StoreCall)
    → copies_of p (map (λ q. q.origin) qs) s ≡ Ok (tops, t) → Refuses why calls (in_turn (put_copy p tops) (zip qs tops) t)
    → Refuses why calls (inserted_in p is_before location parent qs s)
inserted-unput p is_before location parent qs s t tops why calls e r =
    same-refuses why calls _ _ (ap (λ g. g >>= inserted_of p is_before location qs (instance_holding s parent)) e)
    (refuses-then why calls (in_turn (put_copy p tops) (zip qs tops) t >>= reindex p tops) (insert_tells is_before tops (origins_of qs) location (instance_holding s parent))
    (refuses-then why calls (in_turn (put_copy p tops) (zip qs tops) t) (reindex p tops) r))

inserted-put : (p : Profile) (is_before : Bool) (location : List ℕ) (parent : ℕ) (qs : List Place) (s t u : State) (tops : List ℕ)
    → copies_of p (map (λ q. q.origin) qs) s ≡ Ok (tops, t) → in_turn (put_copy p tops) (zip qs tops) t ≡ Ok u
    → inserted_in p is_before location parent qs s
    ≡ reindex p tops u >>= insert_tells is_before tops (map (λ q. q.origin) qs) location (instance_holding s parent)
inserted-put p is_before location parent qs s t u tops e h =
    ap (λ g. g >>= inserted_of p is_before location qs (instance_holding s parent)) e
    ∙ ap (λ g. g >>= reindex p tops >>= insert_tells is_before tops (origins_of qs) location (instance_holding s parent)) h

pub inserted-reindex_stops : (p : Profile) (is_before : Bool) (location : List ℕ) (parent : ℕ) (qs : List Place) (s t u : State) (tops : List ℕ)
    (why : Option Refusal) (calls : List StoreCall)
    → copies_of p (map (λ q. q.origin) qs) s ≡ Ok (tops, t) → in_turn (put_copy p tops) (zip qs tops) t ≡ Ok u
    → Refuses why calls (reindex p tops u) → Refuses why calls (inserted_in p is_before location parent qs s)
inserted-reindex_stops p is_before location parent qs s t u tops why calls e h r =
    same-refuses why calls _ _ (inserted-put p is_before location parent qs s t u tops e h)
    (refuses-then why calls (reindex p tops u) (insert_tells is_before tops (origins_of qs) location (instance_holding s parent)) r)

pub inserted-tells : (p : Profile) (is_before : Bool) (location : List ℕ) (parent : ℕ) (qs : List Place) (s t u v : State) (tops : List ℕ) (instance : Option ℕ)
    → copies_of p (map (λ q. q.origin) qs) s ≡ Ok (tops, t) → in_turn (put_copy p tops) (zip qs tops) t ≡ Ok u → reindex p tops u ≡ Ok v
    → instance ≡ instance_holding s parent
    → inserted_in p is_before location parent qs s
    ≡ tells_instance (codes "xforms-insert") (λ y. insert_told y is_before tops (map (λ q. q.origin) qs) location) instance v
inserted-tells p is_before location parent qs s t u v tops instance e h r i =
    inserted-put p is_before location parent qs s t u tops e h
    ∙ ap (λ g. g >>= insert_tells is_before tops (origins_of qs) location (instance_holding s parent)) r
    ∙ ap (λ o. insert_tells is_before tops (origins_of qs) location o v) (sym i)

pub inserted-quiet : (p : Profile) (is_before : Bool) (location : List ℕ) (parent : ℕ) (qs : List Place) (s t u v : State) (tops : List ℕ) (instance : Option ℕ)
    → copies_of p (map (λ q. q.origin) qs) s ≡ Ok (tops, t) → in_turn (put_copy p tops) (zip qs tops) t ≡ Ok u → reindex p tops u ≡ Ok v
    → instance ≡ instance_holding s parent → instance ≡ None
    → inserted_in p is_before location parent qs s ≡ fine (quietly v)
inserted-quiet p is_before location parent qs s t u v tops instance e h r i o =
    inserted-tells p is_before location parent qs s t u v tops instance e h r i
    ∙ ap (λ k. insert_tells is_before tops (origins_of qs) location k v) o

pub inserted-told : (p : Profile) (is_before : Bool) (location : List ℕ) (parent : ℕ) (qs : List Place) (s t u v : State) (tops : List ℕ) (instance : Option ℕ) (place : ℕ)
    → copies_of p (map (λ q. q.origin) qs) s ≡ Ok (tops, t) → in_turn (put_copy p tops) (zip qs tops) t ≡ Ok u → reindex p tops u ≡ Ok v
    → instance ≡ instance_holding s parent → instance ≡ Some place
    → inserted_in p is_before location parent qs s
    ≡ fine (tells (instance_event (codes "xforms-insert") (insert_told v is_before tops (map (λ q. q.origin) qs) location) place v) v)
inserted-told p is_before location parent qs s t u v tops instance place e h r i o =
    inserted-tells p is_before location parent qs s t u v tops instance e h r i
    ∙ ap (λ k. insert_tells is_before tops (origins_of qs) location k v) o

-- ---- the copies, one after the other: those that are made stand before those of what is left

abbrev pub behind : List ℕ → List ℕ × State → Result (List ℕ × State) Refused
behind tops more = Ok (tops ++ more.0, more.1)

begins : (g : Result (List ℕ × State) Refused) → g ≡ g >>= behind []
begins (Err r) = refl
begins (Ok (tops, s)) = refl

pub copies-begin : (g : Result (List ℕ × State) Refused) (tops : List ℕ) → tops ≡ [] → g ≡ g >>= behind tops
copies-begin g tops h = begins g ∙ ap (λ (ms : List ℕ). g >>= behind ms) (sym h)

copies-next : (p : Profile) (tops : List ℕ) (n top : ℕ) (ns : List ℕ) (s t : State)
    → copy p n s ≡ Ok (top, t) → copies_of p (n ∷ ns) s >>= behind tops ≡ copies_of p ns t >>= behind (tops ++ top ∷ [])
copies-next p tops n top ns s t e =
    ap (λ (g : Result (ℕ × State) Refused). (g >>= λ one. copies_of p ns one.1 >>= λ more. Ok (one.0 ∷ more.0, more.1)) >>= behind tops) e
    ∙ bind-assoc (copies_of p ns t) (λ more. Ok (top ∷ more.0, more.1)) (behind tops)
    ∙ then-same (copies_of p ns t) _ _ (λ (more : List ℕ × State). ap (λ ms. fine (ms, more.1)) (sym (append_assoc tops (top ∷ []) more.0)))

copies-step : {A : Type 0} (p : Profile) (f : A → ℕ) (xs : List A) (i : ℕ) (x : A) (tops : List ℕ) (top : ℕ) (s t : State)
    → i < length xs → x ≡ get_or xs i x → copy p (f x) s ≡ Ok (top, t)
    → copies_of p (drop i (map f xs)) s >>= behind tops ≡ copies_of p (drop (i + 1) (map f xs)) t >>= behind (tops ++ top ∷ [])
copies-step p f xs i x tops top s t h is e =
    at_drop_more (λ ns. copies_of p ns s >>= behind tops) (map f xs) i (f x) (rw (length-map xs f) h)
    ∙ copies-next p tops (get_or (map f xs) i (f x)) top (drop (i + 1) (map f xs)) s t
    (ap (λ n. copy p n s) (get_or-map f xs i x (f x) h ∙ ap f (sym is)) ∙ e)

copies-stop : {A : Type 0} (p : Profile) (f : A → ℕ) (xs : List A) (i : ℕ) (x : A) (tops : List ℕ) (s : State) (why : Option Refusal) (calls : List StoreCall)
    → i < length xs → x ≡ get_or xs i x → Refuses why calls (copy p (f x) s)
    → Refuses why calls (copies_of p (drop i (map f xs)) s >>= behind tops)
copies-stop p f xs i x tops s why calls h is r =
    same-refuses why calls _ _ (at_drop_more (λ ns. copies_of p ns s >>= behind tops) (map f xs) i (f x) (rw (length-map xs f) h))
    (refuses-then why calls (copies_of p (get_or (map f xs) i (f x) ∷ drop (i + 1) (map f xs)) s) (behind tops)
    (refuses-then why calls (copy p (get_or (map f xs) i (f x)) s) (λ one. copies_of p (drop (i + 1) (map f xs)) one.1 >>= λ more. Ok (one.0 ∷ more.0, more.1))
    (same-refuses why calls _ _ (ap (λ n. copy p n s) (get_or-map f xs i x (f x) h ∙ ap f (sym is))) r)))

copies-end : (p : Profile) (ns : List ℕ) (i : ℕ) (tops : List ℕ) (s : State)
    → length ns ≤ i → copies_of p (drop i ns) s >>= behind tops ≡ fine (tops, s)
copies-end p ns i tops s h =
    at_drop_all (λ ms. copies_of p ms s >>= behind tops) ns i h ∙ ap (λ ms. fine (ms, s)) (append-nil tops)

-- the same over what places stand for
item-seen : {A B : Type 0} (v : A → B) (xs : List A) (i : ℕ) (x : A) → i < length xs → x ≡ get_or xs i x → v x ≡ get_or (map v xs) i (v x)
item-seen v xs i x h is = ap v is ∙ sym (get_or-map v xs i x (v x) h)

copies-placed : {A : Type 0} (p : Profile) (v : A → Place) (xs : List A) (i : ℕ) (x : A) (tops more : List ℕ) (top : ℕ) (s t : State)
    → i < length xs → x ≡ get_or xs i x → copy p (v x).origin s ≡ Ok (top, t) → more ≡ tops ++ top ∷ []
    → copies_of p (drop i (map (λ q. q.origin) (map v xs))) s >>= behind tops ≡ copies_of p (drop (i + 1) (map (λ q. q.origin) (map v xs))) t >>= behind more
copies-placed p v xs i x tops more top s t h is e m =
    copies-step p (λ (q : Place). q.origin) (map v xs) i (v x) tops top s t (rw (length-map xs v) h) (item-seen v xs i x h is) e
    ∙ ap (λ (ms : List ℕ). copies_of p (drop (i + 1) (map (λ q. q.origin) (map v xs))) t >>= behind ms) (sym m)

copies-placed_stop : {A : Type 0} (p : Profile) (v : A → Place) (xs : List A) (i : ℕ) (x : A) (tops : List ℕ) (s : State) (why : Option Refusal) (calls : List StoreCall)
    → i < length xs → x ≡ get_or xs i x → Refuses why calls (copy p (v x).origin s)
    → Refuses why calls (copies_of p (drop i (map (λ q. q.origin) (map v xs))) s >>= behind tops)
copies-placed_stop p v xs i x tops s why calls h is r =
    copies-stop p (λ (q : Place). q.origin) (map v xs) i (v x) tops s why calls (rw (length-map xs v) h) (item-seen v xs i x h is) r

pub copies-placed_all : {A : Type 0} (p : Profile) (v : A → Place) (xs : List A) (i : ℕ) (tops : List ℕ) (s : State)
    → length xs ≤ i → copies_of p (drop i (map (λ q. q.origin) (map v xs))) s >>= behind tops ≡ fine (tops, s)
copies-placed_all p v xs i tops s h =
    copies-end p (map (λ (q : Place). q.origin) (map v xs)) i tops s (rw (length-map (map v xs) (λ (q : Place). q.origin)) (rw (length-map xs v) h))

-- ---- each copy with its place

put-here : (run : Place × ℕ → Run) (qs : List Place) (ns : List ℕ) (i : ℕ) (q : Place) (n : ℕ) (s : State)
    → i < length qs → get_or qs i q ≡ q → slice_get ns i ≡ Some n
    → in_turn run (zip (drop i qs) (drop i ns)) s ≡ in_turn run ((q, n) ∷ zip (drop (i + 1) qs) (drop (i + 1) ns)) s
put-here run qs ns i q n s h is e =
    at_drop_more (λ ps. in_turn run (zip ps (drop i ns)) s) qs i q h
    ∙ at_drop_more (λ ms. in_turn run (zip (get_or qs i q ∷ drop (i + 1) qs) ms) s) ns i n (slice_get_within ns i n e)
    ∙ ap (λ (k : Place). in_turn run ((k, get_or ns i n) ∷ zip (drop (i + 1) qs) (drop (i + 1) ns)) s) is
    ∙ ap (λ (m : ℕ). in_turn run ((q, m) ∷ zip (drop (i + 1) qs) (drop (i + 1) ns)) s) (get_or_from_slice_get ns i n n e)

drop-none : (ns : List ℕ) (i : ℕ) → slice_get ns i ≡ None → drop i ns ≡ []
drop-none [] zero h = refl
drop-none [] (suc i) h = refl
drop-none (n ∷ ns) zero h = cc
drop-none (n ∷ ns) (suc i) h = drop-none ns i h

put-none : (run : Place × ℕ → Run) (qs : List Place) (s : State) → in_turn run (zip qs []) s ≡ fine s
put-none run [] s = refl
put-none run (q ∷ qs) s = refl

put-step : {A : Type 0} (run : Place × ℕ → Run) (f : A → Place) (xs : List A) (ns : List ℕ) (i : ℕ) (x : A) (n : ℕ) (s t : State)
    → i < length xs → x ≡ get_or xs i x → slice_get ns i ≡ Some n → run (f x, n) s ≡ Ok t
    → in_turn run (zip (drop i (map f xs)) (drop i ns)) s ≡ in_turn run (zip (drop (i + 1) (map f xs)) (drop (i + 1) ns)) t
put-step run f xs ns i x n s t h is e r =
    put-here run (map f xs) ns i (f x) n s (rw (length-map xs f) h) (get_or-map f xs i x (f x) h ∙ ap f (sym is)) e
    ∙ in_turn-next run (f x, n) (zip (drop (i + 1) (map f xs)) (drop (i + 1) ns)) s t r

put-stop : {A : Type 0} (run : Place × ℕ → Run) (f : A → Place) (xs : List A) (ns : List ℕ) (i : ℕ) (x : A) (n : ℕ) (s : State)
    (why : Option Refusal) (calls : List StoreCall)
    → i < length xs → x ≡ get_or xs i x → slice_get ns i ≡ Some n → Refuses why calls (run (f x, n) s)
    → Refuses why calls (in_turn run (zip (drop i (map f xs)) (drop i ns)) s)
put-stop run f xs ns i x n s why calls h is e r =
    same-refuses why calls _ _ (put-here run (map f xs) ns i (f x) n s (rw (length-map xs f) h) (get_or-map f xs i x (f x) h ∙ ap f (sym is)) e)
    (refuses-then why calls (run (f x, n) s) (in_turn run (zip (drop (i + 1) (map f xs)) (drop (i + 1) ns))) r)

pub put-short : (run : Place × ℕ → Run) (qs : List Place) (ns : List ℕ) (i : ℕ) (s : State)
    → slice_get ns i ≡ None → in_turn run (zip qs (drop i ns)) s ≡ fine s
put-short run qs ns i s h = ap (λ (ms : List ℕ). in_turn run (zip qs ms) s) (drop-none ns i h) ∙ put-none run qs s

pub put-end : {A : Type 0} (run : Place × ℕ → Run) (f : A → Place) (xs : List A) (ns : List ℕ) (i : ℕ) (s : State)
    → length xs ≤ i → in_turn run (zip (drop i (map f xs)) ns) s ≡ fine s
put-end run f xs ns i s h = at_drop_all (λ ps. in_turn run (zip ps ns) s) (map f xs) i (rw (length-map xs f) h)

-- ---- the same, of what is read at a place

read-again : {A : Type 0} (xs : List A) (i : ℕ) (d : A) → i < length xs → get_or xs i d ≡ get_or xs i (get_or xs i d)
read-again xs i d h = get_or_default xs i d (get_or xs i d) h

pub cut-step : {A : Type 0} (f : A → ℕ) (xs : List A) (i : ℕ) (d : A) (s t : State)
    → i < length xs → cut (f (get_or xs i d)) s ≡ Ok t → in_turn cut (drop i (map f xs)) s ≡ in_turn cut (drop (i + 1) (map f xs)) t
cut-step f xs i d s t h e = told-step cut f xs i (get_or xs i d) s t h (read-again xs i d h) e

pub cut-stop : {A : Type 0} (f : A → ℕ) (xs : List A) (i : ℕ) (d : A) (s : State) (why : Option Refusal) (calls : List StoreCall)
    → i < length xs → Refuses why calls (cut (f (get_or xs i d)) s) → Refuses why calls (in_turn cut (drop i (map f xs)) s)
cut-stop f xs i d s why calls h r = told-stop cut f xs i (get_or xs i d) s why calls h (read-again xs i d h) r

pub copies-read : {A : Type 0} (p : Profile) (v : A → Place) (xs : List A) (i : ℕ) (d : A) (tops more : List ℕ) (top : ℕ) (s t : State)
    → i < length xs → copy p (v (get_or xs i d)).origin s ≡ Ok (top, t) → more ≡ tops ++ top ∷ []
    → copies_of p (drop i (map (λ q. q.origin) (map v xs))) s >>= behind tops ≡ copies_of p (drop (i + 1) (map (λ q. q.origin) (map v xs))) t >>= behind more
copies-read p v xs i d tops more top s t h e m = copies-placed p v xs i (get_or xs i d) tops more top s t h (read-again xs i d h) e m

pub copies-read_stop : {A : Type 0} (p : Profile) (v : A → Place) (xs : List A) (i : ℕ) (d : A) (tops : List ℕ) (s : State) (why : Option Refusal) (calls : List StoreCall)
    → i < length xs → Refuses why calls (copy p (v (get_or xs i d)).origin s)
    → Refuses why calls (copies_of p (drop i (map (λ q. q.origin) (map v xs))) s >>= behind tops)
copies-read_stop p v xs i d tops s why calls h r = copies-placed_stop p v xs i (get_or xs i d) tops s why calls h (read-again xs i d h) r

pub put-read : {A : Type 0} (run : Place × ℕ → Run) (f : A → Place) (xs : List A) (ns : List ℕ) (i : ℕ) (d : A) (n : ℕ) (s t : State)
    → i < length xs → slice_get ns i ≡ Some n → run (f (get_or xs i d), n) s ≡ Ok t
    → in_turn run (zip (drop i (map f xs)) (drop i ns)) s ≡ in_turn run (zip (drop (i + 1) (map f xs)) (drop (i + 1) ns)) t
put-read run f xs ns i d n s t h e r = put-step run f xs ns i (get_or xs i d) n s t h (read-again xs i d h) e r

pub put-read_stop : {A : Type 0} (run : Place × ℕ → Run) (f : A → Place) (xs : List A) (ns : List ℕ) (i : ℕ) (d : A) (n : ℕ) (s : State)
    (why : Option Refusal) (calls : List StoreCall)
    → i < length xs → slice_get ns i ≡ Some n → Refuses why calls (run (f (get_or xs i d), n) s)
    → Refuses why calls (in_turn run (zip (drop i (map f xs)) (drop i ns)) s)
put-read_stop run f xs ns i d n s why calls h e r = put-stop run f xs ns i (get_or xs i d) n s why calls h (read-again xs i d h) e r

-- past the end of the copies
pub earlier-none : (ns : List ℕ) (o : Option ℕ) (at : ℕ) → o ≡ Some at → slice_get ns at ≡ None → Some 0 ≡ option_map (λ k. get_or ns k 0) o
earlier-none ns o at e h =
    ap (λ (k : ℕ). Some k) (ap (λ (x : Option ℕ). unwrap_or x 0) (sym h) ∙ unwrap_or-slice_get ns at 0)
    ∙ ap (option_map (λ k. get_or ns k 0)) (sym e)

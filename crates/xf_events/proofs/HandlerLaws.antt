-- Handlers that are found one after the other.
use Rattle.std.proofs.Common.{◌≡◌, ℕ, suc, ◌+◌, ◌<◌, ◌-◌, Bool, true, false, cond, List, [], ◌∷◌, ◌++◌, map, length, take, drop, get_or, refl, sym, ap, ◌∙◌, subst, append_assoc, length-drop, arith}
use Rattle.std.specs.Prelude.{◌&&◌, ◌||◌, filter, reverse, if◌then◌else◌}
use Rattle.std.specs.List.{flat_map, list_any}
use Rattle.std.proofs.lemmas.List.{append-nil, drop_more, map-append, reverse-append, take_all}
use Rattle.std.proofs.lemmas.List.Elements.{filter-append}
use Rattle.xf_def_syntax.specs.declared.action.Handler.{Handler}
use Rattle.xf_def_syntax.specs.declared.action.Phase.{Phase}
use Rattle.xf_def_syntax.specs.declared.action.Phase.TheVariants.{Capture, Default}
use Rattle.xf_def_syntax.specs.declared.element.Element.{Element}
use Rattle.xf_def_syntax.specs.declared.form.Tables.{Tables}
use Rattle.xf_def_syntax.specs.Ordered.{numbered_from}
use Rattle.xf_def_ui.specs.Calls.{Event, handlers, handlers_of, heard_at, hears, is_element, is_phase, may_have, reached, stops}
use Rattle.xf_def_ui.specs.Elements.{ancestors, path_to}
use Rattle.xf_def_ui.specs.Interface.{Interface, element_of, sort_of}
use Rattle.xf_events.specs.declared.handlers.Stage.{Stage}
use Rattle.xf_events.specs.declared.handlers.Stop.{Stop}
use Rattle.xf_events.specs.declared.listeners.Listener.{Listener}
use Rattle.xf_events.specs.Handlers.{Adds, IsWay, Reaches, cancels, none_yet, one_where, stages_at, stops_at}
use Rattle.xf_events.specs.Listeners.{is_named, named_from, named_in, seen_listener}

-- ---- truths

or-false : (b : Bool) → (b || false) ≡ b
or-false true = refl
or-false false = refl

or-more : (a b c : Bool) → ((a || b) || c) ≡ (a || (b || c))
or-more true b c = refl
or-more false b c = refl

any-append : (p : ℕ × Handler → Bool) (xs ys : List (ℕ × Handler)) → list_any p (xs ++ ys) ≡ (list_any p xs || list_any p ys)
any-append p [] ys = refl
any-append p (x ∷ xs) ys = ap (λ b. p x || b) (any-append p xs ys) ∙ sym (or-more (p x) (list_any p xs) (list_any p ys))

-- ---- handlers behind others

pub adds-none : (a : Stage) → Adds a a []
adds-none a = record {
  handlers = sym (append-nil a.handlers);
  stops = sym (or-false a.stops);
  cancels = sym (or-false a.cancels);
}

pub adds-one : (a b : Stage) (n : ℕ) (h : Handler) → b.handlers ≡ a.handlers ++ n ∷ [] → b.stops ≡ (a.stops || h.stops) → b.cancels ≡ (a.cancels || h.cancels) → Adds a b ((n, h) ∷ [])
adds-one a b n h e f g = record {
  handlers = e;
  stops = f ∙ ap (λ c. a.stops || c) (sym (or-false h.stops));
  cancels = g ∙ ap (λ c. a.cancels || c) (sym (or-false h.cancels));
}

pub adds-then : (a b c : Stage) (hs ks : List (ℕ × Handler)) → Adds a b hs → Adds b c ks → Adds a c (hs ++ ks)
adds-then a b c hs ks one other = record {
  handlers =
      other.handlers ∙ ap (λ l. l ++ map (λ h. h.0) ks) one.handlers ∙ append_assoc a.handlers (map (λ h. h.0) hs) (map (λ h. h.0) ks)
      ∙ ap (λ l. a.handlers ++ l) (sym (map-append (λ (h : ℕ × Handler). h.0) hs ks));
  stops = other.stops ∙ ap (λ t. t || stops ks) one.stops ∙ or-more a.stops (stops hs) (stops ks) ∙ ap (λ t. a.stops || t) (sym (any-append (λ h. h.1.stops) hs ks));
  cancels = other.cancels ∙ ap (λ t. t || cancels ks) one.cancels ∙ or-more a.cancels (cancels hs) (cancels ks) ∙ ap (λ t. a.cancels || t) (sym (any-append (λ h. h.1.cancels) hs ks));
}

-- ---- the handlers of one name

filter-more : (p : ℕ × Handler → Bool) (x : ℕ × Handler) (xs : List (ℕ × Handler)) → filter p (x ∷ xs) ≡ one_where (p x) x ++ filter p xs
filter-more p x xs = by (p x)
  where
    by : (b : Bool) → cond b (x ∷ filter p xs) (filter p xs) ≡ one_where b x ++ filter p xs
    by true = refl
    by false = refl

-- one more of them
pub adds-next : (p : ℕ × Handler → Bool) (old mid new : Stage) (some : List Listener) (i : ℕ) (x : Listener) → i < length some → x ≡ get_or some i x
    → Adds old mid (one_where (p (seen_listener x)) (seen_listener x)) → Adds mid new (filter p (map seen_listener (drop (i + 1) some))) → Adds old new (filter p (map seen_listener (drop i some)))
adds-next p old mid new some i x l is one rest =
    let later = map seen_listener (drop (i + 1) some) in
    subst (λ xs. Adds old new (filter p (map seen_listener xs))) (sym (drop_more some i x l ∙ ap (λ y. y ∷ drop (i + 1) some) (sym is)))
    (subst (Adds old new) (sym (filter-more p (seen_listener x) later)) (adds-then old mid new (one_where (p (seen_listener x)) (seen_listener x)) (filter p later) one rest))

-- where all that pass the first test pass the second
module _ (p q : ℕ × Handler → Bool) (only : (h : ℕ × Handler) → q h ≡ false → p h ≡ false) where
  keeps : (h : ℕ × Handler) (hs rest : List (ℕ × Handler)) (b : Bool) → q h ≡ b → filter p rest ≡ filter p hs → filter p (cond b (h ∷ rest) rest) ≡ filter p (h ∷ hs)
  keeps h hs rest true e same = ap (λ l. cond (p h) (h ∷ l) l) same
  keeps h hs rest false e same = same ∙ sym (ap (λ b. cond b (h ∷ filter p hs) (filter p hs)) (only h e))

  of-those : (hs : List (ℕ × Handler)) → filter p (filter q hs) ≡ filter p hs
  of-those [] = refl
  of-those (h ∷ hs) = keeps h hs (filter q hs) (q h) refl (of-those hs)

-- what hears an event is a handler of its name
pub heard-of-named : (f : Interface) (e : Event) (phase : Phase) (observer : ℕ) (hs : List (ℕ × Handler)) → hs ≡ filter (is_named e.name) (handlers f)
    → filter (λ (h : ℕ × Handler). hears e phase observer h.1) hs ≡ heard_at f e phase observer
heard-of-named f e phase observer hs is =
    ap (filter (λ (h : ℕ × Handler). hears e phase observer h.1)) is
    ∙ of-those (λ (h : ℕ × Handler). hears e phase observer h.1) (is_named e.name)
    (λ h other. ap (λ b. b && is_element h.1.observer observer && is_phase h.1.phase phase && may_have h.1.target e.target) other) (handlers f)

-- those of one element more
pub named-next : (name : List ℕ) (n i : ℕ) (tables : Tables) (es : List Element) (x : Element) (old new : List (ℕ × Handler)) → i < length es → x ≡ get_or es i x
    → new ≡ old ++ named_in name n (sort_of x.kind) → new ++ named_from name (n + 1) tables (drop (i + 1) es) ≡ old ++ named_from name n tables (drop i es)
named-next name n i tables es x old new l is more =
    let rest = named_from name (n + 1) tables (drop (i + 1) es) in
    let next : n + 1 ≡ suc n = omega arith in
    ap (λ hs. hs ++ rest) more ∙ append_assoc old (named_in name n (sort_of x.kind)) rest
    ∙ ap (λ hs. old ++ hs)
    (ap (λ k. named_in name n (sort_of x.kind) ++ named_from name k tables (drop (i + 1) es)) next
    ∙ sym (filter-append (is_named name) (handlers_of n (sort_of x.kind)) (flat_map (λ y. handlers_of y.0 y.1.sort) (numbered_from (suc n) (map (element_of tables) (drop (i + 1) es)))))
    ∙ sym (ap (named_from name n tables) (drop_more es i x l ∙ ap (λ y. y ∷ drop (i + 1) es) (sym is))))

-- ---- the way

pub way-is : (f : Interface) (e : Event) (way : List Stop) → way ≡ (stops_at Capture (path_to f e.target) ++ record { phase = Default; observer = e.target } ∷ []) ++ (if e.bubbles then stops_at Default (ancestors f e.target) else [])
    → IsWay f e way
way-is f e way h = ap (stages_at f e) h ∙ by e.bubbles
  where
    at_stops : (phase : Phase) (ns : List ℕ) → stages_at f e (stops_at phase ns) ≡ map (heard_at f e phase) ns
    at_stops phase [] = refl
    at_stops phase (n ∷ ns) = ap (λ l. heard_at f e phase n ∷ l) (at_stops phase ns)

    here : Stop
    here = record { phase = Default; observer = e.target }

    up : Bool → List Stop
    up b = if b then stops_at Default (ancestors f e.target) else []

    back : (b : Bool) → stages_at f e (up b) ≡ (if b then map (heard_at f e Default) (ancestors f e.target) else [])
    back true = at_stops Default (ancestors f e.target)
    back false = refl

    by : (b : Bool) → stages_at f e ((stops_at Capture (path_to f e.target) ++ here ∷ []) ++ up b) ≡ map (heard_at f e Capture) (path_to f e.target) ++ heard_at f e Default e.target ∷ (if b then map (heard_at f e Default) (ancestors f e.target) else [])
    by b =
        ap (stages_at f e) (append_assoc (stops_at Capture (path_to f e.target)) (here ∷ []) (up b))
        ∙ map-append (λ (stop : Stop). heard_at f e stop.phase stop.observer) (stops_at Capture (path_to f e.target)) (here ∷ up b)
        ∙ ap (λ l. l ++ heard_at f e Default e.target ∷ stages_at f e (up b)) (at_stops Capture (path_to f e.target))
        ∙ ap (λ l. map (heard_at f e Capture) (path_to f e.target) ++ heard_at f e Default e.target ∷ l) (back b)

pub down-more : (n : ℕ) (ns : List ℕ) → stops_at Capture (reverse (n ∷ ns)) ≡ stops_at Capture (reverse ns) ++ record { phase = Capture; observer = n } ∷ []
down-more n ns = ap (stops_at Capture) (reverse-append (n ∷ []) ns) ∙ map-append (λ m. record { phase = Capture; observer = m }) (reverse ns) (n ∷ [])

-- ---- the first of a list

pub list-first : {X : Type 0} (xs : List X) (x : X) → 0 < length xs → x ≡ get_or xs 0 x → xs ≡ x ∷ drop 1 xs
list-first [] x h e = absurd (omega (arith, h))
list-first (y ∷ ys) x h e = ap (λ z. z ∷ ys) (sym e)

pub rest-is : {X : Type 0} (xs : List X) → take (length xs - 1) (drop 1 xs) ≡ drop 1 xs
rest-is xs = take_all (length xs - 1) (drop 1 xs) (omega (arith, length-drop 1 xs))

-- ---- what is reached

module _ (f : Interface) (e : Event) (old own new : Stage) (way : List Stop) (stop : Stop) (some : 0 < length way) (here : stop ≡ get_or way 0 stop)
    (adds : Adds none_yet own (heard_at f e stop.phase stop.observer)) where
  abbrev hs : List (ℕ × Handler)
  hs = heard_at f e stop.phase stop.observer

  abbrev more : List (ℕ × Handler)
  more = reached (stages_at f e (drop 1 way))

  reached-is : (b : Bool) → own.stops ≡ b → reached (stages_at f e way) ≡ hs ++ (if b then [] else more)
  reached-is b h =
      ap (λ l. reached (stages_at f e l)) (list-first way stop some here)
      ∙ ap (λ c. hs ++ (if c then [] else more)) (sym adds.stops ∙ h)

  pub reaches-stop : new.handlers ≡ old.handlers ++ own.handlers → new.cancels ≡ (old.cancels || own.cancels) → own.stops ≡ true → Reaches old new (reached (stages_at f e way))
  reaches-stop g k h =
      subst (Reaches old new) (sym (reached-is true h ∙ append-nil hs)) (record {
        handlers = g ∙ ap (λ l. old.handlers ++ l) adds.handlers;
        cancels = k ∙ ap (λ c. old.cancels || c) adds.cancels;
      })

  pub reaches-on : (mid : Stage) (rest : List Stop) → rest ≡ drop 1 way → mid.handlers ≡ old.handlers ++ own.handlers → mid.cancels ≡ (old.cancels || own.cancels) → own.stops ≡ false
      → Reaches mid new (reached (stages_at f e rest)) → Reaches old new (reached (stages_at f e way))
  reaches-on mid rest s g k h r =
      let later : Reaches mid new more = subst (λ l. Reaches mid new (reached (stages_at f e l))) s r in
      subst (Reaches old new) (sym (reached-is false h)) (record {
        handlers =
            later.handlers ∙ ap (λ l. l ++ map (λ (x : ℕ × Handler). x.0) more) (g ∙ ap (λ l. old.handlers ++ l) adds.handlers)
            ∙ append_assoc old.handlers (map (λ (x : ℕ × Handler). x.0) hs) (map (λ (x : ℕ × Handler). x.0) more)
            ∙ ap (λ l. old.handlers ++ l) (sym (map-append (λ (x : ℕ × Handler). x.0) hs more));
        cancels =
            later.cancels ∙ ap (λ c. c || cancels more) (k ∙ ap (λ c. old.cancels || c) adds.cancels)
            ∙ or-more old.cancels (cancels hs) (cancels more) ∙ ap (λ c. old.cancels || c) (sym (any-append (λ x. x.1.cancels) hs more));
      })

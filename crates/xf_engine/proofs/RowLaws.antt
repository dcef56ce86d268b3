-- The copies that events from outside name by rows.
use Rattle.std.proofs.Common.{ℕ, ◌≡◌, ◌<◌, List, [], ◌∷◌, ◌++◌, ◌-◌, length, take, drop, get_or, Option, None, Result, Ok, refl, ap, sym, ◌∙◌, arith}
use Rattle.std.proofs.lemmas.List.{length-drop, take_all}
use Rattle.std.specs.Prelude.{slice_get, zip}
use Rattle.xf_def_syntax.specs.declared.form.Form.{Form}
use Rattle.xf_store.specs.declared.call.StoreCall.{StoreCall}
use Rattle.xf_def_ui.specs.Context.{scope_of}
use Rattle.xf_def_ui.specs.Elements.{element_at, elements_on, path_to}
use Rattle.xf_def_ui.specs.Interface as ui
use Rattle.xf_def_ui.specs.Interface.{Interface, host, interface_of}
use Rattle.xf_form_elements.proofs.ElementLemmas.{no-element}
use Rattle.xf_form_elements.specs.Scope.{model_along, model_at}
use Rattle.xf_def_machine.specs.Choose.{set_index}
use Rattle.xf_def_machine.specs.Flow.{◌>>=◌, in_turn}
use Rattle.xf_def_machine.specs.Refusal.{Refusal, Refused}
use Rattle.xf_def_machine.specs.State.{State}
use Rattle.xf_def_machine.specs.Surround.{interface}
use Rattle.xf_def_machine.specs.Targets.{model_around, scope_through}
use Rattle.xf_actions.specs.Performs.{Refuses}
use Rattle.xf_actions.specs.Seen.{IsProgram}
use Rattle.xf_actions.proofs.Flow.{refuses-then, same-refuses}
use Rattle.xf_def_form.specs.Formed.{profile}
use Rattle.xf_engine.specs.Rows.{row_taken}
use Rattle.xf_engine.proofs.Then.{then-next}

-- ---- the model in scope

around-along : (f : Interface) (ns : List ℕ) (n outer : ℕ)
    → scope_through f outer (elements_on f (ns ++ n ∷ [])) ≡ scope_of f (model_along f ns outer) (element_at f n)
around-along f [] n outer = refl
around-along f (m ∷ ns) n outer = around-along f ns n (scope_of f outer (element_at f m))

-- that of an element is the one that its path gives
around-at : (f : Interface) (n : ℕ) → model_around f n ≡ model_at f n
around-at f n = around-along f (path_to f n) n 0

pub around-as : (form : Form) (s : State) (n model : ℕ) → IsProgram form s.form → model ≡ model_at (interface_of form) n → model_around (interface s) n ≡ model
around-as form s n model h e = around-at (interface s) n ∙ ap (λ (f : Interface). model_at f n) h.interface ∙ sym e

-- ---- the rows that become the indexed ones

pub none-left : (s : State) (repeats numbers : List ℕ) → length repeats ≡ 0 → in_turn (row_taken profile) (zip repeats numbers) s ≡ Ok s
none-left s [] numbers h = refl
none-left s (r ∷ rs) numbers h = absurd (omega (arith, h))

pub none-named : (s : State) (repeats numbers : List ℕ) → length numbers ≡ 0 → in_turn (row_taken profile) (zip repeats numbers) s ≡ Ok s
none-named s [] numbers h = refl
none-named s (r ∷ rs) [] h = refl
none-named s (r ∷ rs) (k ∷ ks) h = absurd (omega (arith, h))

rest-is : {X : Type 0} (xs : List X) → take (length xs - 1) (drop 1 xs) ≡ drop 1 xs
rest-is xs = take_all (length xs - 1) (drop 1 xs) (omega (arith, length-drop 1 xs))

-- those that are left
abbrev taken_after : List ℕ → List ℕ → State → Result State Refused
taken_after repeats numbers t =
    in_turn (row_taken profile) (zip (take (length repeats - 1) (drop 1 repeats)) (take (length numbers - 1) (drop 1 numbers))) t

-- the first of them, in the model around it
first-taken : (s : State) (repeats numbers : List ℕ) (d e model : ℕ) → 0 < length repeats → 0 < length numbers → model_around (interface s) (get_or repeats 0 d) ≡ model
    → in_turn (row_taken profile) (zip repeats numbers) s ≡ set_index profile model (get_or repeats 0 d) (get_or numbers 0 e) s >>= taken_after repeats numbers
first-taken s [] numbers d e model h i m = absurd (omega (arith, h))
first-taken s (r ∷ rs) [] d e model h i m = absurd (omega (arith, i))
first-taken s (r ∷ rs) (k ∷ ks) d e model h i m =
    ap (λ x. set_index profile x r k s >>= in_turn (row_taken profile) (zip rs ks)) m
    ∙ ap (λ xs. set_index profile model r k s >>= in_turn (row_taken profile) (zip xs ks)) (sym (rest-is (r ∷ rs)))
    ∙ ap (λ xs. set_index profile model r k s >>= in_turn (row_taken profile) (zip (take (length (r ∷ rs) - 1) (drop 1 (r ∷ rs))) xs)) (sym (rest-is (k ∷ ks)))

pub untaken-refuses : (s : State) (repeats numbers : List ℕ) (d e model : ℕ) (why : Option Refusal) (calls : List StoreCall) → 0 < length repeats → 0 < length numbers
    → model_around (interface s) (get_or repeats 0 d) ≡ model → Refuses why calls (set_index profile model (get_or repeats 0 d) (get_or numbers 0 e) s)
    → Refuses why calls (in_turn (row_taken profile) (zip repeats numbers) s)
untaken-refuses s repeats numbers d e model why calls h i m q =
    same-refuses why calls _ _ (first-taken s repeats numbers d e model h i m)
    (refuses-then why calls (set_index profile model (get_or repeats 0 d) (get_or numbers 0 e) s) (taken_after repeats numbers) q)

pub one-taken : (s t : State) (repeats numbers : List ℕ) (d e model : ℕ) → 0 < length repeats → 0 < length numbers → model_around (interface s) (get_or repeats 0 d) ≡ model
    → set_index profile model (get_or repeats 0 d) (get_or numbers 0 e) s ≡ Ok t
    → in_turn (row_taken profile) (zip repeats numbers) s
    ≡ in_turn (row_taken profile) (zip (take (length repeats - 1) (drop 1 repeats)) (take (length numbers - 1) (drop 1 numbers))) t
one-taken s t repeats numbers d e model h i m q =
    first-taken s repeats numbers d e model h i m
    ∙ then-next (set_index profile model (get_or repeats 0 d) (get_or numbers 0 e) s) (taken_after repeats numbers) t q

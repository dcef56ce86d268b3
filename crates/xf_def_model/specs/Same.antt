-- What is the same but for the numbers of nodes: each definition goes with a renumbering.
use Rattle.std.specs.Prelude.{ℕ, List, map, option_map, Result, Ok, Err}
use Rattle.xf_def_xpath.specs.Same.{renumbered_value, renumbered_given}
use Rattle.xf_def_model.specs.declared.asked.InsertAsked.{InsertAsked}
use Rattle.xf_def_model.specs.declared.asked.DeleteAsked.{DeleteAsked}
use Rattle.xf_def_model.specs.Rules.{Scope}
use Rattle.xf_def_model.specs.Applied.{Entry, Exception, twice, on_parent}
use Rattle.xf_def_model.specs.Circular.{Reader}
use Rattle.xf_def_model.specs.Settled.{Valued, Contents, Passed, long}
use Rattle.xf_def_model.specs.Pertinent.{Changes, Asking}
use Rattle.xf_def_model.specs.Places.{Place}
use Rattle.xf_def_model.specs.Submitted.{Submitted, left, no_data, invalid}

abbrev pub renumbered_entry : (ℕ → ℕ) → Entry → Entry
renumbered_entry f e = record e { node = f e.node }

abbrev pub renumbered_exception : (ℕ → ℕ) → Exception → Exception
renumbered_exception f (twice n) = twice (f n)
renumbered_exception f (on_parent n) = on_parent (f n)

abbrev pub renumbered_place : (ℕ → ℕ) → Place → Place
renumbered_place f p = record p { origin = f p.origin; parent = f p.parent; replaces = option_map f p.replaces }

abbrev pub renumbered_insert : (ℕ → ℕ) → InsertAsked → InsertAsked
renumbered_insert f asked = record asked {
  set = map f asked.set;
  context = record { number = f asked.context.number; place = asked.context.place };
  origin = map f asked.origin;
  closed = map f asked.closed;
}

abbrev pub renumbered_delete : (ℕ → ℕ) → DeleteAsked → DeleteAsked
renumbered_delete f asked = record asked { set = map f asked.set; closed = map f asked.closed }

abbrev pub renumbered_submitted : (ℕ → ℕ) → Submitted → Submitted
renumbered_submitted f (left n ns) = left (f n) (map f ns)
renumbered_submitted f no_data = no_data
renumbered_submitted f (invalid n) = invalid (f n)

-- the surroundings hold node numbers, the binds none
abbrev pub renumbered_scope : (ℕ → ℕ) → Scope → Scope
renumbered_scope f scope = record scope { given = renumbered_given f scope.given }

abbrev pub renumbered_applied : (ℕ → ℕ) → Result (List Entry) Exception → Result (List Entry) Exception
renumbered_applied f (Ok entries) = Ok (map (renumbered_entry f) entries)
renumbered_applied f (Err x) = Err (renumbered_exception f x)

abbrev pub renumbered_valued : (ℕ → ℕ) → Valued → Valued
renumbered_valued f v = record { entry = renumbered_entry f v.entry; value = option_map (renumbered_value f) v.value }

abbrev pub renumbered_reader : (ℕ → ℕ) → Reader → Reader
renumbered_reader f r = record { node = f r.node; reads = map f r.reads }

abbrev pub renumbered_contents : (ℕ → ℕ) → Contents → Contents
renumbered_contents f contents = map (λ p. (f p.0, p.1)) contents

abbrev pub renumbered_passed : (ℕ → ℕ) → Passed → Passed
renumbered_passed f (long n) = long (f n)
renumbered_passed f word = word

abbrev pub renumbered_changes : (ℕ → ℕ) → Changes → Changes
renumbered_changes f changes = record { texts = map f changes.texts; lists = map f changes.lists; stood = map (renumbered_entry f) changes.stood }

abbrev pub renumbered_asking : (ℕ → ℕ) → Asking → Asking
renumbered_asking f a = record { entry = renumbered_entry f a.entry; is_placed = a.is_placed; reads = map f a.reads; looks = map f a.looks }

use Rattle.std.proofs.Common.{◌≡◌, ◌++◌, map, drop}
use Rattle.xf_def_syntax.specs.declared.form.Tables.{Tables}
use Rattle.xf_events.specs.Listeners.{named_from, seen_listener}
use Rattle.xf_events.proofs.listeners.listeners_among.Given as goal

abbrev pub invariant-loop-element : goal.invariant-loop-element
invariant-loop-element l =
    (tables : Tables) → map seen_listener l.all.items ++ named_from l.name l.number tables (drop l.element-index l.elements) ≡ named_from l.name 0 tables l.elements

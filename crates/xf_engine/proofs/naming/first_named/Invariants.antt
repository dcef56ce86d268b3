use Rattle.std.proofs.Common.{◌≡◌, drop}
use Rattle.xf_engine.specs.Naming.{named_from}
use Rattle.xf_engine.proofs.naming.first_named.Given as goal

-- those before have not this id, or are not wanted
abbrev pub invariant-loop-element : goal.invariant-loop-element
invariant-loop-element l = record {
  rest : named_from l.wanted l.id 0 l.elements ≡ named_from l.wanted l.id l.number (drop l.element-index l.elements);
  number : l.number ≡ l.element-index;
}

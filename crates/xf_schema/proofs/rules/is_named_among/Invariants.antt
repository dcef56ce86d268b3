use Rattle.std.proofs.Common.{◌≡◌, drop}
use Rattle.std.specs.List.{list_any}
use Rattle.xf_schema.specs.Types.{is_named}
use Rattle.xf_schema.proofs.rules.is_named_among.Given as goal

abbrev pub invariant-loop-other : goal.invariant-loop-other
invariant-loop-other l =
    list_any (λ b. is_named l.restriction.name.space l.restriction.name.local b.name) l.before
    ≡ list_any (λ b. is_named l.restriction.name.space l.restriction.name.local b.name) (drop l.other-index l.before)

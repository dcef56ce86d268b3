-- Lists in which each element has one copy at most, in document order.
use Rattle.std.specs.Prelude.{ℕ, suc, nat_lt, Bool, true, not, ◌&&◌, List, [], ◌∷◌}
use Rattle.xf_controls.specs.declared.copy.ControlCopy.{ControlCopy}

-- from this number on
abbrev pub rises_from : ℕ → List ControlCopy → Bool
rises_from least [] = true
rises_from least (c ∷ cs) = not (nat_lt c.element least) && rises_from (suc c.element) cs

abbrev pub is_rising : List ControlCopy → Bool
is_rising copies = rises_from 0 copies

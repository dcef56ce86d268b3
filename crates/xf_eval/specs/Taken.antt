-- What a step takes from nodes, once it is known where it begins (XPath 1.0, section 2.1).
use Rattle.std.specs.Prelude.{ℕ, List, Option, option_map}
use Rattle.xf_name.specs.declared.axis.Axis.{Axis}
use Rattle.xf_def_syntax.specs.declared.expr.Test.{Test}
use Rattle.xf_def_xpath.specs.Setting.{Setting, Meaning, each, in_order, joined}
use Rattle.xf_def_xpath.specs.Steps.{from_one}

-- in document order, each once
abbrev pub taken : Axis → Test → List Meaning → Setting → List ℕ → Option (List ℕ)
taken axis test predicates s from = option_map (λ sets. in_order s.all (joined sets)) (each (from_one axis test predicates s) from)

use Rattle.std.proofs.Common.{◌≡◌, ℕ, List, ◌++◌, map, drop}
use Rattle.xf_name.specs.Shown.{shown_by, shown, walk_of_all}
use Rattle.xf_name.proofs.form_names.+elements.Given as goal

abbrev pub invariant-push_all-loop-lit : goal.invariant-push_all-loop-lit
invariant-push_all-loop-lit l = (above : List ℕ) (depth : ℕ)
    → map shown_by l.elements.items ++ map shown (walk_of_all (drop l.lit-index l.lits) above depth) ≡ map shown_by l.fn.elements.items ++ map shown (walk_of_all l.lits above depth)

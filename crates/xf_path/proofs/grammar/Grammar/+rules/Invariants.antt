use Rattle.std.proofs.Common.{◌≡◌, ◌+◌, ◌-◌, ◌*◌, ◌≤◌, []}
use Rattle.xf_path.specs.Steps.{more_predicates}
use Rattle.xf_path.specs.Paths.{steps, more_steps}
use Rattle.xf_path.specs.Calls.{more_arguments}
use Rattle.xf_path.specs.Operators.{more_links}
use Rattle.xf_path.specs.Grammar.{side, nested, inside}
use Rattle.xf_path.proofs.Ladder.{climb}
use Rattle.xf_path.proofs.grammar.Grammar.+rules.Given as goal

-- ---- measures: within a level of nesting, what is called is below its caller

abbrev pub decreases-inside : goal.decreases-inside
decreases-inside l = 128 * l.depth

abbrev pub decreases-nested : goal.decreases-nested
decreases-nested l = 128 * l.depth + 1

abbrev pub decreases-grouped : goal.decreases-grouped
decreases-grouped l = 128 * l.depth + 2

abbrev pub decreases-predicate : goal.decreases-predicate
decreases-predicate l = 128 * l.depth + 2

abbrev pub decreases-some_predicates : goal.decreases-some_predicates
decreases-some_predicates l = 128 * l.depth + 3

abbrev pub decreases-predicates : goal.decreases-predicates
decreases-predicates l = 128 * l.depth + 4

abbrev pub decreases-written : goal.decreases-written
decreases-written l = 128 * l.depth + 5

abbrev pub decreases-step : goal.decreases-step
decreases-step l = 128 * l.depth + 6

abbrev pub decreases-steps : goal.decreases-steps
decreases-steps l = 128 * l.depth + 7

abbrev pub decreases-path : goal.decreases-path
decreases-path l = 128 * l.depth + 8

abbrev pub decreases-more_arguments : goal.decreases-more_arguments
decreases-more_arguments l = 128 * l.depth + 1

abbrev pub decreases-arguments : goal.decreases-arguments
decreases-arguments l = 128 * l.depth + 2

abbrev pub decreases-called : goal.decreases-called
decreases-called l = 128 * l.depth + 3

abbrev pub decreases-call : goal.decreases-call
decreases-call l = 128 * l.depth + 4

abbrev pub decreases-primary : goal.decreases-primary
decreases-primary l = 128 * l.depth + 5

abbrev pub decreases-filtered : goal.decreases-filtered
decreases-filtered l = 128 * l.depth + 6

abbrev pub decreases-onward : goal.decreases-onward
decreases-onward l = 128 * l.depth + 8

abbrev pub decreases-operand : goal.decreases-operand
decreases-operand l = 128 * l.depth + 9

abbrev pub decreases-side : goal.decreases-side
decreases-side l = 128 * l.depth + 8 * l.rank + 16

abbrev pub decreases-links : goal.decreases-links
decreases-links l = 128 * l.depth + 8 * l.rank + 17

abbrev pub decreases-union : goal.decreases-union
decreases-union l = 128 * l.depth + 18

abbrev pub decreases-signed : goal.decreases-signed
decreases-signed l = 128 * l.depth + 19

abbrev pub decreases-unary : goal.decreases-unary
decreases-unary l = 128 * l.depth + 20

-- ---- loops

-- what the ranks from `least` on read behind the tree is what is read
abbrev pub invariant-side-loop-next : goal.invariant-side-loop-next
invariant-side-loop-next l = record {
  least : l.least ≤ l.rank;
  read : side l.self.decimals l.self.prefixes.now l.depth l.rank l.fn.tokens ≡ climb (side l.self.decimals l.self.prefixes.now l.depth) l.least (l.rank - l.least) l.tree l.tokens;
}

abbrev pub decreases-side-loop-next : goal.decreases-side-loop-next
decreases-side-loop-next l = l.rank - l.least

abbrev pub invariant-links-loop-turn : goal.invariant-links-loop-turn
invariant-links-loop-turn l =
    more_links (side l.self.decimals l.self.prefixes.now l.depth l.rank) l.rank 4096 [] l.fn.tokens
    ≡ more_links (side l.self.decimals l.self.prefixes.now l.depth l.rank) l.rank (4096 - l._turn) l.found l.tokens

abbrev pub invariant-some_predicates-loop-turn : goal.invariant-some_predicates-loop-turn
invariant-some_predicates-loop-turn l =
    more_predicates (nested l.self.decimals l.self.prefixes.now l.depth) 4096 [] l.fn.tokens
    ≡ more_predicates (nested l.self.decimals l.self.prefixes.now l.depth) (4096 - l._turn) l.found l.tokens

abbrev pub invariant-more_arguments-loop-turn : goal.invariant-more_arguments-loop-turn
invariant-more_arguments-loop-turn l =
    more_arguments (inside l.self.decimals l.self.prefixes.now l.depth) 4096 l.fn.found l.fn.tokens
    ≡ more_arguments (inside l.self.decimals l.self.prefixes.now l.depth) (4096 - l._turn) l.found l.tokens

abbrev pub invariant-steps-loop-turn : goal.invariant-steps-loop-turn
invariant-steps-loop-turn l =
    steps l.self.prefixes.now (nested l.self.decimals l.self.prefixes.now l.depth) l.fn.is_below l.fn.tokens
    ≡ more_steps l.self.prefixes.now (nested l.self.decimals l.self.prefixes.now l.depth) (4096 - l._turn) l.found l.tokens

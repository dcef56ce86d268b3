use Rattle.std.proofs.Common.{◌≡◌, ℕ, ◌+◌, ◌-◌, ◌<◌, ◌≤◌, ◌∙◌, [], Some, None, Ok, option_map, true, false, refl, sym, ap, rules, tests, arith}
use Rattle.std.proofs.lemmas.Grind.{common_steps}
use Rattle.xf_table.specs.Rows.{code_of}
use Rattle.xf_table.specs.Contents.{function_entries}
use Rattle.xf_path.specs.Reading.{kind_of, place_of, text_of, and_then, pure}
use Rattle.xf_path.specs.Steps.{opens_predicate, more_predicates}
use Rattle.xf_path.specs.Paths.{more_steps}
use Rattle.xf_path.specs.Calls.{is_comma, more_arguments}
use Rattle.xf_path.specs.Primary.{begins_primary, filtered, onward}
use Rattle.xf_path.specs.Operators.{operator_of, operator_at, rank_of, more_links, chain, chain_of}
use Rattle.xf_path.specs.Grammar.{negated, signed, sign_by, unary_by, side, inside, nested}
use Rattle.xf_path.specs.Grammar as spec
use Rattle.xf_path.proofs.Turns.{one_turn, no_turn, deeper}
use Rattle.xf_path.proofs.GrammarLemmas.{behind_sign, signed_is, side_zero, inside_none, inside_some, operand_path, operand_primary, call_some, call_none, Reads-same, Reads-fault, links_end, links_go_on, predicates_end, predicates_go_on, arguments_end, arguments_go_on}
use Rattle.xf_def_syntax.specs.declared.expr.Expr.{Expr}
use Rattle.xf_path.proofs.Ladder.{climb, side_climbs, climb_none, climb_done, climb_on, chain_alone, no_sign}
use Rattle.xf_path.proofs.grammar.Grammar.+rules.Goals.{side-in-Some+then-next-least, side-then-next-least-via-then-next-least, side-then-next-least-via-else-next-least+then-rank-next, side-in_default}
use Rattle.xf_path.proofs.grammar.Grammar.+rules.Goals as goal

-- ---- ranks

pub side-returns-then-rank-eq0 : goal.side-returns-then-rank-eq0
side-returns-then-rank-eq0 t c =
    let none : c.args.rank ≡ 0 = omega arith in
    Reads-same _ _ c.operand.result c.operand.new.tokens (side_zero c.args.self.now.decimals c.args.self.now.prefixes.now c.args.depth c.args.rank c.args.tokens.now none) c.operand.ensures

pub side-returns-in_err-tree : goal.side-returns-in_err-tree
side-returns-in_err-tree t c =
    let some : 0 < c.args.rank = omega arith in
    let e = side_climbs c.args.self.now.decimals c.args.self.now.prefixes.now c.args.depth c.args.rank c.args.tokens.now some in
    first_of (search rules, grind (arith, common_steps))

pub side-loop-next-init : goal.side-loop-next-init
side-loop-next-init t c =
    let some : 0 < c.args.rank = omega arith in
    let read : unary_by (signed c.args.self.now.decimals c.args.self.now.prefixes.now c.args.depth) c.args.tokens.now ≡ Ok (c.in_ok-tree.tree, c.unary.new.tokens) = search rules in
    record {
      least = omega arith;
      read = side_climbs c.args.self.now.decimals c.args.self.now.prefixes.now c.args.depth c.args.rank c.args.tokens.now some
          ∙ ap (λ o. and_then o (climb (side c.args.self.now.decimals c.args.self.now.prefixes.now c.args.depth) 1 (c.args.rank - 1))) read;
    }

pub side-returns-in_err-found : goal.side-returns-in_err-found
side-returns-in_err-found t c =
    let next : option_map rank_of (operator_of (kind_of c.loop-next.tokens) (text_of c.loop-next.tokens)) ≡ Some c.in-Some.next = search rules in
    let above : c.loop-next.least ≤ c.in-Some.next = omega arith in
    let below : c.in-Some.next < c.args.rank = omega arith in
    let on = c.loop-next.invariant.read ∙ climb_on (side c.args.self.now.decimals c.args.self.now.prefixes.now c.args.depth) c.loop-next.least c.args.rank c.in-Some.next c.loop-next.tree c.loop-next.tokens next above below in
    first_of (search rules, grind (arith, common_steps))

pub side-loop-next-preserved : goal.side-loop-next-preserved
side-loop-next-preserved t c =
    let rule = side c.args.self.now.decimals c.args.self.now.prefixes.now c.args.depth in
    let next : option_map rank_of (operator_of (kind_of c.loop-next.tokens) (text_of c.loop-next.tokens)) ≡ Some c.in-Some.next = search rules in
    let above : c.loop-next.least ≤ c.in-Some.next = omega arith in
    let below : c.in-Some.next < c.args.rank = omega arith in
    let found : more_links (side c.args.self.now.decimals c.args.self.now.prefixes.now c.args.depth c.in-Some.next) c.in-Some.next 4096 [] c.loop-next.tokens ≡ Ok (c.in_ok-found.found, c.links.new.tokens) = search rules in
    let tree : c.in_ok-tree-2.tree ≡ chain_of c.loop-next.tree c.in_ok-found.found = search rules in
    record {
      least = omega arith;
      read = c.loop-next.invariant.read
          ∙ climb_on rule c.loop-next.least c.args.rank c.in-Some.next c.loop-next.tree c.loop-next.tokens next above below
          ∙ ap (λ o. and_then o (λ links. climb rule (c.in-Some.next + 1) (c.args.rank - (c.in-Some.next + 1)) (chain_of c.loop-next.tree links))) found
          ∙ ap (λ made. climb rule (c.in-Some.next + 1) (c.args.rank - (c.in-Some.next + 1)) made c.links.new.tokens) (sym tree);
    }

pub side-returns : goal.side-returns
side-returns t c =
    let rule = side c.args.self.now.decimals c.args.self.now.prefixes.now c.args.depth in
    elim c.match-next_rank.branch [
      | side-in-Some+then-next-least w ↦
          (let next : option_map rank_of (operator_of (kind_of c.loop-next.tokens) (text_of c.loop-next.tokens)) ≡ Some w.in-Some.next = search rules in
          elim w.then-next-least.branch [
            | side-then-next-least-via-then-next-least w' ↦
                c.loop-next.invariant.read ∙ climb_done rule c.loop-next.least c.args.rank w.in-Some.next c.loop-next.tree c.loop-next.tokens next (λ l m. omega (arith, l, w'.if-next-least.true))
            | side-then-next-least-via-else-next-least+then-rank-next w' ↦
                c.loop-next.invariant.read ∙ climb_done rule c.loop-next.least c.args.rank w.in-Some.next c.loop-next.tree c.loop-next.tokens next (λ l m. omega (arith, m, w'.if-rank-next.true))
          ])
      | side-in_default w ↦
          (let none : option_map rank_of (operator_of (kind_of c.loop-next.tokens) (text_of c.loop-next.tokens)) ≡ None = search rules in
          c.loop-next.invariant.read ∙ climb_none rule c.loop-next.least (c.args.rank - c.loop-next.least) c.loop-next.tree c.loop-next.tokens none)
    ]

-- ---- signs and unions

pub unary-returns-in_default : goal.unary-returns-in_default
unfolding unary_by
unary-returns-in_default t c =
    let b = c.args.self.now.prefixes.now in
    let ts = c.args.tokens.now in
    let plain : sign_by (behind_sign c.args.self.now.decimals c.args.self.now.prefixes.now c.args.depth) (chain (side c.args.self.now.decimals c.args.self.now.prefixes.now c.args.depth 0) 0) (kind_of c.args.tokens.now) c.args.tokens.now
    ≡ and_then {A = Expr} {B = ℕ × Expr} (chain (side c.args.self.now.decimals c.args.self.now.prefixes.now c.args.depth 0) 0 c.args.tokens.now) (λ inner. pure (0, inner)) = search rules in
    Reads-same _ _ c.union.result c.union.new.tokens
    (ap (λ o. and_then o (λ found. pure (negated (place_of ts) found.0 found.1))) (signed_is c.args.self.now.decimals b c.args.depth ts ∙ plain)
    ∙ no_sign (place_of ts) (chain (side c.args.self.now.decimals b c.args.depth 0) 0 ts))
    c.union.ensures

pub union-returns-then-is_none : goal.union-returns-then-is_none
union-returns-then-is_none t c =
    let read : spec.operand c.args.self.now.decimals c.args.self.now.prefixes.now c.args.depth c.args.tokens.now ≡ Ok (c.in_ok-first.first, c.operand.new.tokens) = search rules in
    let none : operator_at 0 (kind_of c.operand.new.tokens) (text_of c.operand.new.tokens) ≡ None = first_of (search (rules, tests), grind (arith, common_steps)) in
    chain_alone (side c.args.self.now.decimals c.args.self.now.prefixes.now c.args.depth 0) 0 c.args.tokens.now c.operand.new.tokens c.in_ok-first.first
    (side_zero c.args.self.now.decimals c.args.self.now.prefixes.now c.args.depth 0 c.args.tokens.now refl ∙ read) none

-- ---- brackets

pub inside-returns-then-depth-eq0 : goal.inside-returns-then-depth-eq0
inside-returns-then-depth-eq0 t c =
    let none : c.args.depth ≡ 0 = omega arith in
    let e = inside_none c.args.self.now.decimals c.args.self.now.prefixes.now c.args.depth c.args.tokens.now none in
    first_of (search rules, grind (arith, common_steps))

pub inside-returns : goal.inside-returns
inside-returns t c =
    let some : 0 < c.args.depth = omega arith in
    Reads-same _ _ c.side.result c.side.new.tokens (inside_some c.args.self.now.decimals c.args.self.now.prefixes.now c.args.depth c.args.tokens.now some) c.side.ensures

-- ---- operands

pub operand-returns-then-not-begins_primary : goal.operand-returns-then-not-begins_primary
operand-returns-then-not-begins_primary t c =
    let no : begins_primary (kind_of c.args.tokens.now) (text_of c.args.tokens.now) ≡ false = search rules in
    Reads-same _ _ c.path.result c.path.new.tokens (operand_path c.args.self.now.decimals c.args.self.now.prefixes.now c.args.depth c.args.tokens.now no) c.path.ensures

pub operand-returns-in_err-first : goal.operand-returns-in_err-first
operand-returns-in_err-first t c =
    let yes : begins_primary (kind_of c.args.tokens.now) (text_of c.args.tokens.now) ≡ true = search rules in
    let e = operand_primary c.args.self.now.decimals c.args.self.now.prefixes.now c.args.depth c.args.tokens.now yes in
    first_of (search rules, grind (arith, common_steps))

pub operand-returns : goal.operand-returns
operand-returns t c =
    let yes : begins_primary (kind_of c.args.tokens.now) (text_of c.args.tokens.now) ≡ true = search rules in
    let e = operand_primary c.args.self.now.decimals c.args.self.now.prefixes.now c.args.depth c.args.tokens.now yes in
    let read : filtered c.args.self.now.decimals (nested c.args.self.now.decimals c.args.self.now.prefixes.now c.args.depth) (spec.called c.args.self.now.decimals c.args.self.now.prefixes.now c.args.depth) c.args.tokens.now ≡ Ok (c.in_ok-first.first, c.filtered.new.tokens) = search rules in
    Reads-same _ _ c.onward.result c.onward.new.tokens (e ∙ ap (λ o. and_then o (onward c.args.self.now.prefixes.now (nested c.args.self.now.decimals c.args.self.now.prefixes.now c.args.depth))) read) c.onward.ensures

-- ---- calls

pub call-returns-in-Some : goal.call-returns-in-Some
call-returns-in-Some t c =
    let found : code_of (text_of c.args.tokens.now) function_entries ≡ Some c.in-Some.code = first_of (cc, search rules, grind (arith, common_steps)) in
    Reads-same _ _ c.called.result c.called.new.tokens (call_some c.args.self.now.decimals c.args.self.now.prefixes.now c.args.depth c.in-Some.code c.args.tokens.now found) c.called.ensures

pub call-returns-in-None : goal.call-returns-in-None
call-returns-in-None t c =
    let found : code_of (text_of c.args.tokens.now) function_entries ≡ None = first_of (cc, search rules, grind (arith, common_steps)) in
    Reads-fault _ _ _ c.unknown.result c.args.tokens.now (call_none c.args.self.now.decimals c.args.self.now.prefixes.now c.args.depth c.args.tokens.now found) c.unknown.ensures

-- ---- links

pub links-returns-in_default : goal.links-returns-in_default
links-returns-in_default t c =
    let e = one_turn (λ n. more_links (side c.args.self.now.decimals c.args.self.now.prefixes.now c.args.depth c.args.rank) c.args.rank n c.loop-turn.found c.loop-turn.tokens) 4096 c.loop-turn._turn c.loop-turn-test.true c.loop-turn.invariant in
    let none : operator_at c.args.rank (kind_of c.loop-turn.tokens) (text_of c.loop-turn.tokens) ≡ None = search rules in
    let ends = e ∙ links_end (side c.args.self.now.decimals c.args.self.now.prefixes.now c.args.depth c.args.rank) c.args.rank (4096 - (c.loop-turn._turn + 1)) c.loop-turn.found c.loop-turn.tokens none in
    first_of (search rules, grind (arith, common_steps))

pub links-returns-in_err-right : goal.links-returns-in_err-right
links-returns-in_err-right t c =
    let e = one_turn (λ n. more_links (side c.args.self.now.decimals c.args.self.now.prefixes.now c.args.depth c.args.rank) c.args.rank n c.loop-turn.found c.loop-turn.tokens) 4096 c.loop-turn._turn c.loop-turn-test.true c.loop-turn.invariant in
    let some : operator_at c.args.rank (kind_of c.loop-turn.tokens) (text_of c.loop-turn.tokens) ≡ Some c.in-Some.operator = search rules in
    let goes = e ∙ links_go_on (side c.args.self.now.decimals c.args.self.now.prefixes.now c.args.depth c.args.rank) c.args.rank (4096 - (c.loop-turn._turn + 1)) c.loop-turn.found c.loop-turn.tokens c.in-Some.operator some in
    first_of (search rules, grind (arith, common_steps))

pub links-loop-turn-preserved : goal.links-loop-turn-preserved
links-loop-turn-preserved t c =
    let e = one_turn (λ n. more_links (side c.args.self.now.decimals c.args.self.now.prefixes.now c.args.depth c.args.rank) c.args.rank n c.loop-turn.found c.loop-turn.tokens) 4096 c.loop-turn._turn c.loop-turn-test.true c.loop-turn.invariant in
    let some : operator_at c.args.rank (kind_of c.loop-turn.tokens) (text_of c.loop-turn.tokens) ≡ Some c.in-Some.operator = search rules in
    let goes = e ∙ links_go_on (side c.args.self.now.decimals c.args.self.now.prefixes.now c.args.depth c.args.rank) c.args.rank (4096 - (c.loop-turn._turn + 1)) c.loop-turn.found c.loop-turn.tokens c.in-Some.operator some in
    first_of (search rules, grind (arith, common_steps))

pub links-returns : goal.links-returns
unfolding more_links
links-returns t c =
    let e = no_turn (λ n. more_links (side c.args.self.now.decimals c.args.self.now.prefixes.now c.args.depth c.args.rank) c.args.rank n c.loop-turn.found c.loop-turn.tokens) 4096 c.loop-turn._turn c.loop-turn-test.false c.loop-turn.invariant in
    first_of (search rules, grind (arith, common_steps))

-- ---- predicates

pub predicates-returns-then-not-opens_predicate : goal.predicates-returns-then-not-opens_predicate
predicates-returns-then-not-opens_predicate t c =
    let test : opens_predicate (kind_of c.args.tokens.now) ≡ false = search rules in
    let ends = predicates_end (nested c.args.self.now.decimals c.args.self.now.prefixes.now c.args.depth) 4095 [] c.args.tokens.now test in
    first_of (search rules, grind (arith, common_steps))

pub some_predicates-returns-then-not-opens_predicate : goal.some_predicates-returns-then-not-opens_predicate
some_predicates-returns-then-not-opens_predicate t c =
    let e = one_turn (λ n. more_predicates (nested c.args.self.now.decimals c.args.self.now.prefixes.now c.args.depth) n c.loop-turn.found c.loop-turn.tokens) 4096 c.loop-turn._turn c.loop-turn-test.true c.loop-turn.invariant in
    let test : opens_predicate (kind_of c.loop-turn.tokens) ≡ false = search rules in
    let goes = e ∙ predicates_end (nested c.args.self.now.decimals c.args.self.now.prefixes.now c.args.depth) (4096 - (c.loop-turn._turn + 1)) c.loop-turn.found c.loop-turn.tokens test in
    first_of (search rules, grind (arith, common_steps))

pub some_predicates-returns-in_err-next : goal.some_predicates-returns-in_err-next
some_predicates-returns-in_err-next t c =
    let e = one_turn (λ n. more_predicates (nested c.args.self.now.decimals c.args.self.now.prefixes.now c.args.depth) n c.loop-turn.found c.loop-turn.tokens) 4096 c.loop-turn._turn c.loop-turn-test.true c.loop-turn.invariant in
    let test : opens_predicate (kind_of c.loop-turn.tokens) ≡ true = search rules in
    let goes = e ∙ predicates_go_on (nested c.args.self.now.decimals c.args.self.now.prefixes.now c.args.depth) (4096 - (c.loop-turn._turn + 1)) c.loop-turn.found c.loop-turn.tokens test in
    first_of (search rules, grind (arith, common_steps))

pub some_predicates-loop-turn-preserved : goal.some_predicates-loop-turn-preserved
some_predicates-loop-turn-preserved t c =
    let e = one_turn (λ n. more_predicates (nested c.args.self.now.decimals c.args.self.now.prefixes.now c.args.depth) n c.loop-turn.found c.loop-turn.tokens) 4096 c.loop-turn._turn c.loop-turn-test.true c.loop-turn.invariant in
    let test : opens_predicate (kind_of c.loop-turn.tokens) ≡ true = search rules in
    let goes = e ∙ predicates_go_on (nested c.args.self.now.decimals c.args.self.now.prefixes.now c.args.depth) (4096 - (c.loop-turn._turn + 1)) c.loop-turn.found c.loop-turn.tokens test in
    first_of (search rules, grind (arith, common_steps))

pub some_predicates-returns : goal.some_predicates-returns
unfolding more_predicates
some_predicates-returns t c =
    let e = no_turn (λ n. more_predicates (nested c.args.self.now.decimals c.args.self.now.prefixes.now c.args.depth) n c.loop-turn.found c.loop-turn.tokens) 4096 c.loop-turn._turn c.loop-turn-test.false c.loop-turn.invariant in
    first_of (search rules, grind (arith, common_steps))

-- ---- steps

pub steps-returns-in_default : goal.steps-returns-in_default
unfolding more_steps
steps-returns-in_default t c =
    let e = one_turn (λ n. more_steps c.args.self.now.prefixes.now (nested c.args.self.now.decimals c.args.self.now.prefixes.now c.args.depth) n c.loop-turn.found c.loop-turn.tokens) 4096 c.loop-turn._turn c.loop-turn-test.true c.loop-turn.invariant in
    first_of (search rules, grind (arith, common_steps))

pub steps-returns-in_err-next : goal.steps-returns-in_err-next
unfolding more_steps
steps-returns-in_err-next t c =
    let e = one_turn (λ n. more_steps c.args.self.now.prefixes.now (nested c.args.self.now.decimals c.args.self.now.prefixes.now c.args.depth) n c.loop-turn.found c.loop-turn.tokens) 4096 c.loop-turn._turn c.loop-turn-test.true c.loop-turn.invariant in
    first_of (search rules, grind (arith, common_steps))

pub steps-loop-turn-preserved : goal.steps-loop-turn-preserved
unfolding more_steps
steps-loop-turn-preserved t c =
    let e = one_turn (λ n. more_steps c.args.self.now.prefixes.now (nested c.args.self.now.decimals c.args.self.now.prefixes.now c.args.depth) n c.loop-turn.found c.loop-turn.tokens) 4096 c.loop-turn._turn c.loop-turn-test.true c.loop-turn.invariant in
    first_of (search rules, grind (arith, common_steps))

pub steps-returns : goal.steps-returns
unfolding more_steps
steps-returns t c =
    let e = no_turn (λ n. more_steps c.args.self.now.prefixes.now (nested c.args.self.now.decimals c.args.self.now.prefixes.now c.args.depth) n c.loop-turn.found c.loop-turn.tokens) 4096 c.loop-turn._turn c.loop-turn-test.false c.loop-turn.invariant in
    first_of (search rules, grind (arith, common_steps))

-- ---- more_arguments

pub more_arguments-returns-then-not-is_comma : goal.more_arguments-returns-then-not-is_comma
more_arguments-returns-then-not-is_comma t c =
    let e = one_turn (λ n. more_arguments (inside c.args.self.now.decimals c.args.self.now.prefixes.now c.args.depth) n c.loop-turn.found c.loop-turn.tokens) 4096 c.loop-turn._turn c.loop-turn-test.true c.loop-turn.invariant in
    let test : is_comma (kind_of c.loop-turn.tokens) ≡ false = search rules in
    let goes = e ∙ arguments_end (inside c.args.self.now.decimals c.args.self.now.prefixes.now c.args.depth) (4096 - (c.loop-turn._turn + 1)) c.loop-turn.found c.loop-turn.tokens test in
    first_of (search rules, grind (arith, common_steps))

pub more_arguments-returns-in_err-next : goal.more_arguments-returns-in_err-next
more_arguments-returns-in_err-next t c =
    let e = one_turn (λ n. more_arguments (inside c.args.self.now.decimals c.args.self.now.prefixes.now c.args.depth) n c.loop-turn.found c.loop-turn.tokens) 4096 c.loop-turn._turn c.loop-turn-test.true c.loop-turn.invariant in
    let test : is_comma (kind_of c.loop-turn.tokens) ≡ true = search rules in
    let goes = e ∙ arguments_go_on (inside c.args.self.now.decimals c.args.self.now.prefixes.now c.args.depth) (4096 - (c.loop-turn._turn + 1)) c.loop-turn.found c.loop-turn.tokens test in
    first_of (search rules, grind (arith, common_steps))

pub more_arguments-loop-turn-preserved : goal.more_arguments-loop-turn-preserved
more_arguments-loop-turn-preserved t c =
    let e = one_turn (λ n. more_arguments (inside c.args.self.now.decimals c.args.self.now.prefixes.now c.args.depth) n c.loop-turn.found c.loop-turn.tokens) 4096 c.loop-turn._turn c.loop-turn-test.true c.loop-turn.invariant in
    let test : is_comma (kind_of c.loop-turn.tokens) ≡ true = search rules in
    let goes = e ∙ arguments_go_on (inside c.args.self.now.decimals c.args.self.now.prefixes.now c.args.depth) (4096 - (c.loop-turn._turn + 1)) c.loop-turn.found c.loop-turn.tokens test in
    first_of (search rules, grind (arith, common_steps))

pub more_arguments-returns : goal.more_arguments-returns
unfolding more_arguments
more_arguments-returns t c =
    let e = no_turn (λ n. more_arguments (inside c.args.self.now.decimals c.args.self.now.prefixes.now c.args.depth) n c.loop-turn.found c.loop-turn.tokens) 4096 c.loop-turn._turn c.loop-turn-test.false c.loop-turn.invariant in
    first_of (search rules, grind (arith, common_steps))

-- ---- signs

pub signed-returns-then-depth-eq0-clause-reads : goal.signed-returns-then-depth-eq0-clause-reads
signed-returns-then-depth-eq0-clause-reads t c =
    let none : c.args.depth ≡ 0 = omega arith in
    let e = signed_is c.args.self.now.decimals c.args.self.now.prefixes.now c.args.depth c.args.tokens.now in
    let f = ap (λ n. behind_sign c.args.self.now.decimals c.args.self.now.prefixes.now n) none in
    first_of (search rules, grind (arith, common_steps))

pub signed-returns-in_err-signs-in-Minus-clause-reads : goal.signed-returns-in_err-signs-in-Minus-clause-reads
signed-returns-in_err-signs-in-Minus-clause-reads t c =
    let some : 0 < c.args.depth = omega arith in
    let e = signed_is c.args.self.now.decimals c.args.self.now.prefixes.now c.args.depth c.args.tokens.now in
    let f = deeper (λ n. behind_sign c.args.self.now.decimals c.args.self.now.prefixes.now n) c.args.depth some in
    first_of (search rules, grind (arith, common_steps))

pub signed-returns-in_ok-signs-in-Minus-clause-reads : goal.signed-returns-in_ok-signs-in-Minus-clause-reads
signed-returns-in_ok-signs-in-Minus-clause-reads t c =
    let some : 0 < c.args.depth = omega arith in
    let e = signed_is c.args.self.now.decimals c.args.self.now.prefixes.now c.args.depth c.args.tokens.now in
    let f = deeper (λ n. behind_sign c.args.self.now.decimals c.args.self.now.prefixes.now n) c.args.depth some in
    first_of (search rules, grind (arith, common_steps))

pub signed-returns-in_err-inner-in_default : goal.signed-returns-in_err-inner-in_default
signed-returns-in_err-inner-in_default t c =
    let e = signed_is c.args.self.now.decimals c.args.self.now.prefixes.now c.args.depth c.args.tokens.now in
    first_of (search rules, grind (arith, common_steps))

pub signed-returns-in_ok-inner-in_default : goal.signed-returns-in_ok-inner-in_default
signed-returns-in_ok-inner-in_default t c =
    let e = signed_is c.args.self.now.decimals c.args.self.now.prefixes.now c.args.depth c.args.tokens.now in
    first_of (search rules, grind (arith, common_steps))

use Rattle.std.proofs.Common.{◌≡◌, ℕ, ◌+◌, ◌||◌, length, drop, ap, sym, ◌∙◌, arith}
use Rattle.std.specs.List.{list_any}
use Rattle.xf_items.specs.Words.{is_other, is_word, parts_after}
use Rattle.xf_items.proofs.WordLaws.{part_to, words-are, at-space, within-part, at-start, at-end, whole-rest}
use Rattle.xf_items.proofs.words.has_other.Goals as goal
use Rattle.xf_items.proofs.words.has_other.Goals.{then-is_space+else-is_other, else-is_space}

pub loop-at-init : goal.loop-at-init
loop-at-init c = record { order = omega arith; rest = at-start (is_other c.args.items.now) c.args.text.now }

pub loop-at-preserved : goal.loop-at-preserved
loop-at-preserved c =
    let word = is_other c.args.items.now in
    let value = c.args.text.now in
    let start = c.loop-at.start in
    let at = c.loop-at.at in
    let old = c.loop-at.invariant in
    let within = c.loop-at-test.true in
    let later = λ (k : ℕ). list_any (is_word word) (parts_after (part_to value k (at + 1)) (drop (at + 1) value)) in
    record {
      order = elim c.if-is_space.branch [ then-is_space+else-is_other w ↦ omega (arith, w.start-is) | else-is_space w ↦ omega (arith, w.start-is, old.order) ];
      rest = elim c.if-is_space.branch [
        | then-is_space+else-is_other w ↦
            ap later w.start-is
            ∙ sym (at-space word value start at within (sym c.is_space.ensures ∙ w.if-is_space.true) ∙ ap (λ b. b || later (at + 1)) (sym w.is_other.ensures ∙ w.if-is_other.false))
            ∙ old.rest
        | else-is_space w ↦ ap later w.start-is ∙ sym (within-part word value start at old.order within (sym c.is_space.ensures ∙ w.if-is_space.false)) ∙ old.rest
      ];
    }

pub returns-then-is_other : goal.returns-then-is_other
returns-then-is_other c =
    let word = is_other c.args.items.now in
    let value = c.args.text.now in
    let at = c.loop-at.at in
    let later = list_any (is_word word) (parts_after (part_to value (at + 1) (at + 1)) (drop (at + 1) value)) in
    sym (words-are word value ∙ sym c.loop-at.invariant.rest ∙ at-space word value c.loop-at.start at c.loop-at-test.true (sym c.is_space.ensures ∙ c.if-is_space.true)
    ∙ ap (λ b. b || later) (sym c.is_other.ensures ∙ c.if-is_other.true))

pub returns : goal.returns
returns c =
    let word = is_other c.args.items.now in
    let value = c.args.text.now in
    let end : c.loop-at.at ≡ length value = omega arith in
    c.is_other-2.ensures ∙ ap (is_word word) (whole-rest value c.loop-at.start)
    ∙ sym (at-end word value c.loop-at.start c.loop-at.at c.loop-at.invariant.order end) ∙ c.loop-at.invariant.rest ∙ sym (words-are word value)

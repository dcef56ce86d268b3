use Rattle.std.proofs.Common.{◌≡◌, ◌≤◌, true, false, length, ap, sym, ◌∙◌, arith}
use Rattle.std.proofs.lemmas.Bool.{OnFalse_at, OnTrue_at}
use Rattle.std.proofs.lemmas.Bool.Decides.{nat_tests}
use Rattle.std.proofs.lemmas.List.{length-map}
use Rattle.xf_binds.specs.Held.{Held}
use Rattle.xf_binds.proofs.Alikes.{alike-keeps, keeps-all, keeps-alike, keeps-next}
use Rattle.xf_binds.proofs.kept.Kept.keeps_properties.Goals as goal

pub loop-at-preserved : goal.loop-at-preserved
loop-at-preserved c =
    let kept : c.keeps_property.result ≡ true = grind (arith, nat_tests, c.if-not-keeps_property.false) in
    keeps-next c.args.self.now c.args.truths.now c.loop-at.at c.loop-at.invariant (OnTrue_at kept c.keeps_property.ensures.alike)

pub returns-clause-alike : goal.returns-clause-alike
returns-clause-alike c =
    let k = c.args.self.now in
    let same : length c.present.result.now ≡ length k.entries = sym (length-map c.present.result.now (λ (h : Held). h.entry)) ∙ ap length c.present.ensures in
    let past : length k.entries ≤ c.loop-at.at = omega (arith, c.loop-at-test.false, c.len-at-end.ensures, same) in
    keeps-alike k c.args.truths.now c.is_single.ensures (keeps-all k c.args.truths.now c.loop-at.at past c.loop-at.invariant)

pub returns-then-not-keeps_property-clause-differs : goal.returns-then-not-keeps_property-clause-differs
returns-then-not-keeps_property-clause-differs c =
    let other : c.keeps_property.result ≡ false = grind (arith, nat_tests, c.if-not-keeps_property.true) in
    λ alike. OnFalse_at other c.keeps_property.ensures.differs (alike-keeps c.args.self.now c.args.truths.now c.is_single.ensures alike c.loop-at.at)

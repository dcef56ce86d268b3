-- Two forests that meet give a covered expression one value and one text.
use Rattle.std.proofs.Common.{◌≡◌, true, sym, ap, ◌∙◌}
use Rattle.xf_def_syntax.specs.declared.expr.Expr.{Expr}
use Rattle.xf_def_xpath.specs.Setting.{Focus, ◌>>=◌}
use Rattle.xf_def_xpath.specs.Conversions.{string_of}
use Rattle.xf_def_xpath.specs.Meaning.{meaning}
use Rattle.xf_def_xpath.specs.Asked.{Asked, converted}
use Rattle.xf_def_xpath.specs.Reads.{trace}
use Rattle.xf_def_xpath.proofs.TraceKeeps.{meaning-of_trace}
use Rattle.xf_def_xpath.proofs.Comparison.{Comparison, other, over_shape, Solid}
use Rattle.xf_def_xpath.proofs.ValueAgree.{string-of_same}
use Rattle.xf_def_xpath.proofs.AgreeCalls.{Standing}
use Rattle.xf_law_recalculation.specs.Agree.Covered.{is_covered}
use Rattle.xf_law_recalculation.proofs.AgreeLemmas.Alike.{alike-is}
use Rattle.xf_law_recalculation.proofs.AgreeLemmas.Meeting.{Meeting, Asks}
use Rattle.xf_law_recalculation.proofs.AgreeLemmas.LooseValues.{in-converted, made}
use Rattle.xf_law_recalculation.proofs.AgreeLemmas.LooseLaw.{meeting}

module _ {w : Comparison} (m : Meeting w) (stand : Standing w) (x : Expr) (covered : is_covered x ≡ true) (c : Focus) (node : Solid w c.node) where
  abbrev asked : Asked
  asked = (trace x).asked (over_shape w) c

  pub value-same : Asks m asked → meaning x w.setting c ≡ meaning x (other w) c
  value-same p = ap (λ v. v w.setting c) (sym (meaning-of_trace x)) ∙ alike-is (meeting m stand x covered c node p) ∙ ap (λ v. v (other w) c) (meaning-of_trace x)

  pub text-same : Asks m (converted (over_shape w) asked) → (meaning x w.setting c >>= string_of w.setting) ≡ (meaning x (other w) c >>= string_of (other w))
  text-same p =
      ap (λ v. v w.setting c >>= string_of w.setting) (sym (meaning-of_trace x))
      ∙ alike-is (made m (string_of w.setting) (string_of (other w)) (string-of_same w) asked _ _ (meeting m stand x covered c node (in-converted m asked p)) p)
      ∙ ap (λ v. v (other w) c >>= string_of (other w)) (meaning-of_trace x)

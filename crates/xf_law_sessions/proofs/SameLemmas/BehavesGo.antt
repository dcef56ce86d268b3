-- The behaviours of a model go with a renumbering.
use Rattle.xf_law_sessions.specs.Same.Behaving.{BehavioursGo}
use Rattle.xf_law_sessions.proofs.SameLemmas.RebuildGoes.{rebuild-goes}
use Rattle.xf_law_sessions.proofs.SameLemmas.RecalculateGoes.{recalculate-goes}
use Rattle.xf_law_sessions.proofs.SameLemmas.RevalidateGoes.{revalidate-goes}

pub behaviours_go : BehavioursGo
behaviours_go p f first second r = record {
  rebuild = rebuild-goes p f first second r;
  recalculate = recalculate-goes p f first second r;
  revalidate = revalidate-goes p f first second r;
}

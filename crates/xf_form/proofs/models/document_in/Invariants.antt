use Rattle.std.proofs.Common.{◌≡◌, drop}
use Rattle.xf_form.specs.Models.{document_in}
use Rattle.xf_form.proofs.models.document_in.Given as goal

abbrev pub invariant-loop-part : goal.invariant-loop-part
invariant-loop-part l = document_in l.parts ≡ document_in (drop l.part-index l.parts)

use Rattle.std.proofs.Common.{◌++◌, ◌∙◌, get_or, ap, sym, take_all}
use Rattle.std.specs.Prelude.{slice_get}
use Rattle.xf_def_xpath.specs.Binding.{as_list}
use Rattle.xf_binds_rebuild.specs.Links.{nodes_in}
use Rattle.xf_binds_rebuild.proofs.Linked.{flat-next}
use Rattle.xf_binds_rebuild.proofs.ring.nodes_at.Goals as goal

pub loop-place-preserved : goal.loop-place-preserved
loop-place-preserved c =
    c.in_ok-push_at.ensures
    ∙ ap (λ l. l ++ as_list (slice_get c.args.nodes.now (get_or c.args.places.now c.loop-place.place-index 0))) c.loop-place.invariant
    ∙ sym (flat-next (λ place. as_list (slice_get c.args.nodes.now place)) c.args.places.now c.loop-place.place-index 0 c.loop-place-test.true)

pub returns : goal.returns
returns c = c.loop-place.invariant ∙ ap (nodes_in c.args.nodes.now) (take_all c.loop-place.place-index c.args.places.now c.loop-place-test.false)

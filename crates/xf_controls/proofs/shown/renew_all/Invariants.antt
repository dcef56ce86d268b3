use Rattle.std.proofs.Common.{◌≡◌, map}
use Rattle.xf_controls.specs.Former.{put_back}
use Rattle.xf_controls.specs.Seen.{seen_notification}
use Rattle.xf_controls.proofs.ShownLaws.{IsRenewed}
use Rattle.xf_controls.proofs.shown.renew_all.Given as goal

abbrev pub invariant-loop-place : goal.invariant-loop-place
invariant-loop-place l = IsRenewed l.forest.forest.nodes l.place (map seen_notification l.all) l.initial.list l.list × (put_back l.list l.former.items ≡ put_back l.initial.list l.initial.former.items)

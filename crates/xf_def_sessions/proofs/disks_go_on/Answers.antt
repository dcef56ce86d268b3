use Rattle.xf_def_sessions.proofs.LeftLaws.{rest_stands, moments_stand, left_stands, settled_stands}
use Rattle.xf_def_sessions.proofs.disks_go_on.Goals as goal

pub returns : goal.returns
returns g c =
    let disk = g.D.Disk in
    record {
      rest = rest_stands disk.seen disk.may_leave;
      moments = moments_stand disk.moment disk.left_since;
      left = left_stands disk.moment disk.may_leave disk.left_since g.met.D.Disk.counts_now;
      settled = settled_stands disk.seen disk.may_leave;
    }

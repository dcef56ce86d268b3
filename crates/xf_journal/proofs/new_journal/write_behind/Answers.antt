use Rattle.std.proofs.Common.{◌≡◌, ℕ, ◌+◌, List, [], ◌∷◌, ◌++◌, length, ◌∙◌, ap}
use Rattle.xf_disk.specs.Image.{Image, in_slot}
use Rattle.xf_disk.specs.Marks.{spliced}
use Rattle.xf_journal.specs.Layout.{header_bytes}
use Rattle.xf_journal.specs.Moments.{MightStep, SameGate}
use Rattle.xf_journal.proofs.RunLemmas.{runs_on, goes_on}
use Rattle.xf_journal.proofs.SpliceLemmas.{might_twice, behind_written, on_any}
use Rattle.xf_journal.proofs.new_journal.write_behind.Goals as goal

pub returns-clause-each_moment : goal.returns-clause-each_moment
returns-clause-each_moment g c =
    let disk = g.D.Disk in
    let P = MightStep c.args.slot SameGate (disk.may_leave c.args.disk.now) in
    let Q = MightStep c.args.slot SameGate (disk.may_leave c.write_both.new.disk) in
    let first = c.write_both.ensures.crash in
    let wider : (image : Image) → Q image → P image = might_twice c.args.slot _ _ Q first (λ image left. left) in
    let both = runs_on disk.moment disk.left_since c.args.disk.now c.write_both.new.disk c.write_both-2.new.disk P Q c.write_both.ensures.each_moment c.write_both-2.ensures.each_moment wider in
    goes_on disk.moment disk.left_since c.args.disk.now c.write_both-2.new.disk c.sync.new.self P _ both c.sync.ensures.time (λ image left. wider image (c.write_both-2.ensures.crash image (c.sync.ensures.crash image left)))

pub returns-clause-written : goal.returns-clause-written
returns-clause-written g c = λ told.
    let disk = g.D.Disk in
    let old = in_slot c.args.slot (disk.seen c.args.disk.now) in
    let mid = in_slot c.args.slot (disk.seen c.write_both.new.disk) in
    let end = in_slot c.args.slot (disk.seen c.write_both-2.new.disk) in
    let image = c.args.image.now in
    let form : c.as_slice.result.now ≡ image.form = c.as_slice.ensures in
    let base : c.as_slice-2.result.now ≡ image.base = c.as_slice-2.ensures in
    let header = c.header_of-header.result in
    let header_is : header ≡ header_bytes c.args.epoch (length image.form) (length image.base) image.adoptions =
    c.header_of-header.ensures ∙ (λ i. header_bytes c.args.epoch (length (form i)) (length (base i)) image.adoptions) in
    let first : mid ≡ spliced 1 (header ++ image.form) old = c.in_ok-write_both.ensures.written told ∙ ap (λ (l : List ℕ). spliced 1 (header ++ l) old) form in
    let second : end ≡ spliced (25 + length image.form) (image.base ++ 0 ∷ []) mid =
    c.in_ok-write_both-2.ensures.written (c.in_ok-write_both.ensures.tells ∙ told) ∙ (λ i. spliced (25 + length (form i)) (base i ++ 0 ∷ []) mid) in
    let all = behind_written c.args.epoch image header old mid end header_is (c.requires.stands told) first second in
    on_any c.sync.result _ (ap (λ (s : Image). in_slot c.args.slot s) c.sync.ensures.seen ∙ all)

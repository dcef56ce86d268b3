use Rattle.std.proofs.Common.{◌≤◌, ◌≡◌, ◌^◌, arith, rules, length, ap}
use Rattle.xf_journal.specs.Entry.{body_bytes, written_bytes}
use Rattle.xf_journal.proofs.EntryLemmas.{length-body_bytes, is_entry, spelled_written}
use Rattle.xf_journal.proofs.entry.make_entry.Goals as goal

pub overflow_cast-len : goal.overflow_cast-len
overflow_cast-len c =
    let size : length (body_bytes c.args.line.now c.args.answers.now) ≤ 2 ^ 26 = length-body_bytes c.args.line.now c.args.answers.now c.requires in
    let put : c.put_body.new.bytes.items ≡ body_bytes c.args.line.now c.args.answers.now = search rules in
    let same = ap length put in
    record { fits = omega (arith, size, same, c.len-2.ensures, c.put_body.new.bytes.ok) }

pub invariant_of-result : goal.invariant_of-result
invariant_of-result c =
    let is : c.from_vec.result ≡ written_bytes c.args.line.now c.args.answers.now = search rules in
    is_entry c.args.line.now c.args.answers.now c.requires c.from_vec.result is

pub returns : goal.returns
returns c =
    let is : c.from_vec.result ≡ written_bytes c.args.line.now c.args.answers.now = search rules in
    spelled_written c.args.line.now c.args.answers.now c.requires c.from_vec.result is

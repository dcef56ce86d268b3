-- What sources and sinks in memory hold, and what each of their calls answers and leaves.
use Rattle.std.specs.Prelude.{ℕ, ◌+◌, min, List, ◌++◌, length, take, drop, Bool, ◌&&◌, ◌||◌, ◌==◌, nat_le, nat_lt, if◌then◌else◌, Option, Some, None}
use Rattle.xf_io.specs.Failing.{Failing, fails_next, after_call, one_more}

-- the bytes that are left, the most that a read gives, which reads fail, and how often one failed
pub record HeldSource : Type 0 where
  pub left : List ℕ
  pub piece : ℕ
  pub calls : Failing
  pub faults : ℕ

-- how many bytes a read gives that has room for so many; none where its number is listed
abbrev pub read_count : HeldSource → ℕ → Option ℕ
read_count source room = if fails_next source.calls then None else Some (min (min (length source.left) room) source.piece)

-- the source after a read that gave so many
abbrev pub after_read : HeldSource → Option ℕ → HeldSource
after_read source None = record source { calls = after_call source.calls; faults = one_more source.faults }
after_read source (Some count) = record source { left = drop count source.left; calls = after_call source.calls }

-- the bytes that were taken, how many of them are flushed, the room for all, the most that a write takes, which
-- calls fail, and how often one failed
pub record HeldSink : Type 0 where
  pub taken : List ℕ
  pub flushed : ℕ
  pub room : ℕ
  pub piece : ℕ
  pub calls : Failing
  pub faults : ℕ

-- a write of so many bytes is taken: its number is not listed, some of it fits into a piece, and that has room
abbrev pub takes_some : HeldSink → ℕ → Bool
takes_some sink size = (nat_lt 0 sink.piece || (size == 0)) && nat_le (length sink.taken + min size sink.piece) sink.room

abbrev pub write_count : HeldSink → ℕ → Option ℕ
write_count sink size = if fails_next sink.calls then None else if takes_some sink size then Some (min size sink.piece) else None

-- the sink after a call that failed
abbrev pub after_fault : HeldSink → HeldSink
after_fault sink = record sink { calls = after_call sink.calls; faults = one_more sink.faults }

-- the sink after a write that took so many
abbrev pub after_write : HeldSink → List ℕ → Option ℕ → HeldSink
after_write sink bytes None = after_fault sink
after_write sink bytes (Some count) = record sink { taken = sink.taken ++ take count bytes; calls = after_call sink.calls }

-- the sink after a flush, which fails exactly where its number is listed
abbrev pub after_flush : HeldSink → HeldSink
after_flush sink = if fails_next sink.calls then after_fault sink else record sink { flushed = length sink.taken; calls = after_call sink.calls }

-- What is written is flushed, one part after another.
use Rattle.std.proofs.Common.{◌≡◌, ◌≤◌, ℕ, arith, inl, inr, subst, sym}
use Rattle.xf_cli_stream.specs.declared.lines.Ending.{Ending}
use Rattle.xf_cli_stream.specs.declared.lines.Ending.TheVariants.{Done, ReadFault, SinkFault, TooMuch, DiskFault, Memory}
use Rattle.xf_cli_stream.specs.Out.{Taken, IsOut, IsOutOrFailed, IsAllOut, IsSteady}

pub out_again : (first mid last : Taken) → IsOut first mid → IsOut mid last → IsOut first last
out_again first mid last before (inl same) = subst (IsOut first) (sym same) before
out_again first mid last before (inr flushed) = inr flushed

-- and where the sink failed in one of them, it has counted it
pub out_or_failed : (first mid last : Taken) (a b c : ℕ) → a ≤ b → b ≤ c → IsOutOrFailed first mid (a, b) → IsOutOrFailed mid last (b, c) → IsOutOrFailed first last (a, c)
out_or_failed first mid last a b c before after (inl is_out) (inl goes_on) = inl (out_again first mid last is_out goes_on)
out_or_failed first mid last a b c before after (inl is_out) (inr failed) = inr (omega (arith, before, failed))
out_or_failed first mid last a b c before after (inr failed) more = inr (omega (arith, after, failed))

-- ---- however the answers end

pub all_out : (ending : Ending) (before after : Taken) → IsOut before after → IsAllOut ending before after
all_out Done before after h = h
all_out ReadFault before after h = h
all_out SinkFault before after h = tt
all_out TooMuch before after h = h
all_out DiskFault before after h = h
all_out Memory before after h = h

pub steady : (ending : Ending) (before after : ℕ) → after ≡ before → IsSteady ending before after
steady Done before after h = h
steady ReadFault before after h = h
steady SinkFault before after h = tt
steady TooMuch before after h = h
steady DiskFault before after h = h
steady Memory before after h = h

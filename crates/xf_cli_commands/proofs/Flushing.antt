-- What is written is flushed, one part after another.
use Rattle.std.proofs.Common.{◌≡◌, ◌≤◌, ◌∙◌, ℕ, arith, inl, inr, refl, subst, sym}
use Rattle.xf_base.specs.Faults.{Rose}
use Rattle.xf_cli_stream.specs.declared.lines.Ending.{Ending}
use Rattle.xf_cli_stream.specs.declared.lines.Ending.TheVariants.{Done, ReadFault, SinkFault, DiskFault, TooMuch, Memory}
use Rattle.xf_cli_stream.specs.Out.{Taken, IsAllOut, IsOut, IsOutOrFailed, IsSteady}

pub out_again : (first mid last : Taken) → IsOut first mid → IsOut mid last → IsOut first last
out_again first mid last before (inl same) = subst (IsOut first) (sym same) before
out_again first mid last before (inr flushed) = inr flushed

-- and where the sink failed in one of them, it has counted it
pub out_or_failed : (first mid last : Taken) (a b c : ℕ) → a ≤ b → b ≤ c → IsOutOrFailed first mid (a, b) → IsOutOrFailed mid last (b, c) → IsOutOrFailed first last (a, c)
out_or_failed first mid last a b c before after (inl is_out) (inl goes_on) = inl (out_again first mid last is_out goes_on)
out_or_failed first mid last a b c before after (inl is_out) (inr failed) = inr (omega (arith, before, failed))
out_or_failed first mid last a b c before after (inr failed) more = inr (omega (arith, after, failed))

-- by how the answers end
pub out_by : (ending : Ending) (before after : Taken) (a b : ℕ) → IsAllOut ending before after → (ending ≡ SinkFault → Rose a b) → IsOutOrFailed before after (a, b)
out_by Done before after a b h failed = inl h
out_by ReadFault before after a b h failed = inl h
out_by SinkFault before after a b h failed = inr (failed refl)
out_by DiskFault before after a b h failed = inl h
out_by TooMuch before after a b h failed = inl h
out_by Memory before after a b h failed = inl h

-- where no call failed before, none has failed by then either
pub steady_on : (ending : Ending) (before mid after : ℕ) → mid ≡ before → IsSteady ending mid after → IsSteady ending before after
steady_on Done before mid after e h = h ∙ e
steady_on ReadFault before mid after e h = h ∙ e
steady_on SinkFault before mid after e h = tt
steady_on DiskFault before mid after e h = h ∙ e
steady_on TooMuch before mid after e h = h ∙ e
steady_on Memory before mid after e h = h ∙ e

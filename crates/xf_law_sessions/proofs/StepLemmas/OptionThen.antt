-- What is made of what is given, by a name beside that of changes that follow one another.
use Rattle.std.proofs.Common.{Option}
use Rattle.xf_def_xpath.specs.Setting.{◌>>=◌}

abbrev pub and_then : {A B : Type 0} → Option A → (A → Option B) → Option B
and_then o k = o >>= k

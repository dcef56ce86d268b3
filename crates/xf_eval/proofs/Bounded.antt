-- A call that is the whole of what is to be given, or a part of it.
use Rattle.std.proofs.Common.{◌≡◌, ◌⊎◌, inl, inr, Option, None, Result, subst}
use Rattle.xf_def_values.specs.Bounded.{GivesBounded}

pub gives-same : {X Y E : Type 0} (memory long : E) (view : X → Y) (r : Result X E) (m w : Option Y) → m ≡ w → GivesBounded memory long view r m → GivesBounded memory long view r w
gives-same memory long view r m w e h = subst (GivesBounded memory long view r) e h

-- where a part is too long, so is the whole
pub part-long : {A B E : Type 0} (memory long fault : E) (part : Option A) (worth : Option B) → (fault ≡ memory) ⊎ ((fault ≡ long) × (part ≡ None)) → (part ≡ None → worth ≡ None) →
    (fault ≡ memory) ⊎ ((fault ≡ long) × (worth ≡ None))
part-long memory long fault part worth (inl e) f = inl e
part-long memory long fault part worth (inr e) f = inr (e.0, f e.1)

-- The definitions at a few values.
use Rattle.std.proofs.Common.{◌≡◌, [], ◌∷◌, List, Some, None, refl}
use Rattle.xf_store.specs.declared.answers.Answer.TheVariants as answer
use Rattle.xf_store.specs.declared.call.Named.{Named}
use Rattle.xf_store.specs.Held.{found, put_under}
use Rattle.xf_store.specs.Replies.{answer_for}
use Rattle.xf_store.specs.Replay.{fits_put, fits_get, answer_at}

abbrev held : List Named
held = record { name = 97 ∷ []; bytes = 1 ∷ [] } ∷ record { name = 98 ∷ []; bytes = [] } ∷ []

found_first : found (97 ∷ []) held ≡ Some (1 ∷ [])
found_first = refl

found_none : found (99 ∷ []) held ≡ None
found_none = refl

put_over : put_under (97 ∷ []) (2 ∷ []) held ≡ record { name = 97 ∷ []; bytes = 2 ∷ [] } ∷ record { name = 98 ∷ []; bytes = [] } ∷ []
put_over = refl

put_anew : found (99 ∷ []) (put_under (99 ∷ []) (3 ∷ []) held) ≡ Some (3 ∷ [])
put_anew = refl

put_beside : found (97 ∷ []) (put_under (99 ∷ []) (3 ∷ []) held) ≡ Some (1 ∷ [])
put_beside = refl

absent : answer_for None ≡ answer.Absent
absent = refl

short : answer_for (Some (1 ∷ [])) ≡ answer.Found (1 ∷ [])
short = refl

put_fits : answer_at fits_put (answer.PutDone ∷ answer.Absent ∷ []) 0 ≡ answer.PutDone
put_fits = refl

get_does_not : answer_at fits_get (answer.PutDone ∷ answer.Absent ∷ []) 0 ≡ answer.Failed
get_does_not = refl

the_next_goes_on : answer_at fits_get (answer.PutDone ∷ answer.Absent ∷ []) 1 ≡ answer.Absent
the_next_goes_on = refl

none_behind_the_last : answer_at fits_get (answer.PutDone ∷ []) 1 ≡ answer.Failed
none_behind_the_last = refl

-- What some lines ask for.
use Rattle.std.proofs.Common.{◌≡◌, ℕ, zero, suc, List, [], ◌∷◌, ◌++◌, Ok, Err, codes, refl}
use Rattle.std.specs.Str.{is_utf8, chars}
use Rattle.serde_json.proofs.OnLiterals.{serde_json_on_literals}
use Rattle.xf_line.specs.declared.event.Event.TheVariants.{Set, Activate, Index, Send, Dispatch, Reset}
use Rattle.xf_line.specs.declared.event.Asked.TheVariants as asked
use Rattle.xf_line.specs.declared.fault.LineFault.TheVariants.{NotJson, NotEvent}
use Rattle.xf_line.specs.Line.{asked_by}

-- so many arrays, each in the one before
abbrev nested : ℕ → List ℕ
nested zero = []
nested (suc n) = codes "[" ++ nested n ++ codes "]"

no_value : asked_by (codes "{") ≡ Err NotJson
unfolding asked_by serde_json_on_literals is_utf8 chars
no_value = refl

no_utf8 : asked_by (34 ∷ 255 ∷ 34 ∷ []) ≡ Err NotJson
unfolding asked_by serde_json_on_literals is_utf8 chars
no_utf8 = refl

set_alone : asked_by (codes "[\"set\"]") ≡ Err NotEvent
unfolding asked_by serde_json_on_literals is_utf8 chars
set_alone = refl

set_no_rows : asked_by (codes "[\"set\",\"a\",[],\"2\"]") ≡ Ok (asked.Event (Set (codes "a") [] (codes "2")))
unfolding asked_by serde_json_on_literals is_utf8 chars
set_no_rows = refl

set_two_rows : asked_by (codes "[\"set\",\"q\",[1,2],\"\"]") ≡ Ok (asked.Event (Set (codes "q") (1 ∷ 2 ∷ []) []))
unfolding asked_by serde_json_on_literals is_utf8 chars
set_two_rows = refl

set_and_more : asked_by (codes "[\"set\",\"a\",[],\"2\",\"x\"]") ≡ Err NotEvent
unfolding asked_by serde_json_on_literals is_utf8 chars
set_and_more = refl

activate_one_row : asked_by (codes "[\"activate\",\"add\",[0]]") ≡ Ok (asked.Event (Activate (codes "add") (0 ∷ [])))
unfolding asked_by serde_json_on_literals is_utf8 chars
activate_one_row = refl

index_first : asked_by (codes "[\"index\",\"r\",1]") ≡ Ok (asked.Event (Index (codes "r") 1))
unfolding asked_by serde_json_on_literals is_utf8 chars
index_first = refl

index_last : asked_by (codes "[\"index\",\"r\",18446744073709551615]") ≡ Ok (asked.Event (Index (codes "r") 18446744073709551615))
unfolding asked_by serde_json_on_literals is_utf8 chars
index_last = refl

index_past : asked_by (codes "[\"index\",\"r\",18446744073709551616]") ≡ Err NotEvent
unfolding asked_by serde_json_on_literals is_utf8 chars
index_past = refl

index_with_a_point : asked_by (codes "[\"index\",\"r\",1.0]") ≡ Err NotEvent
unfolding asked_by serde_json_on_literals is_utf8 chars
index_with_a_point = refl

index_with_an_exponent : asked_by (codes "[\"index\",\"r\",1e0]") ≡ Err NotEvent
unfolding asked_by serde_json_on_literals is_utf8 chars
index_with_an_exponent = refl

index_below_zero : asked_by (codes "[\"index\",\"r\",-1]") ≡ Err NotEvent
unfolding asked_by serde_json_on_literals is_utf8 chars
index_below_zero = refl

index_minus_zero : asked_by (codes "[\"index\",\"r\",-0]") ≡ Err NotEvent
unfolding asked_by serde_json_on_literals is_utf8 chars
index_minus_zero = refl

index_past_all_floats : asked_by (codes "[\"index\",\"r\",1e999]") ≡ Err NotJson
unfolding asked_by serde_json_on_literals is_utf8 chars
index_past_all_floats = refl

send_one : asked_by (codes "[\"send\",\"s\"]") ≡ Ok (asked.Event (Send (codes "s")))
unfolding asked_by serde_json_on_literals is_utf8 chars
send_one = refl

dispatch_one : asked_by (codes "[\"dispatch\",\"ping\",\"x\"]") ≡ Ok (asked.Event (Dispatch (codes "ping") (codes "x")))
unfolding asked_by serde_json_on_literals is_utf8 chars
dispatch_one = refl

dispatch_no_name : asked_by (codes "[\"dispatch\",\"\",\"\"]") ≡ Err NotEvent
unfolding asked_by serde_json_on_literals is_utf8 chars
dispatch_no_name = refl

reset_first : asked_by (codes "[\"reset\",\"\"]") ≡ Ok (asked.Event (Reset []))
unfolding asked_by serde_json_on_literals is_utf8 chars
reset_first = refl

show_alone : asked_by (codes "[\"show\"]") ≡ Ok asked.Show
unfolding asked_by serde_json_on_literals is_utf8 chars
show_alone = refl

show_and_more : asked_by (codes "[\"show\",1]") ≡ Err NotEvent
unfolding asked_by serde_json_on_literals is_utf8 chars
show_and_more = refl

nested_127 : asked_by (nested 127) ≡ Err NotEvent
unfolding asked_by serde_json_on_literals is_utf8 chars
nested_127 = refl

nested_128 : asked_by (nested 128) ≡ Err NotJson
unfolding asked_by serde_json_on_literals is_utf8 chars
nested_128 = refl

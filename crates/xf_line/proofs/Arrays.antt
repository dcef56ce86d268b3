-- What stands behind a word, by how many values there are.
use Rattle.std.proofs.Common.{◌≡◌, ℕ, List, [], ◌∷◌, length, get_or, Some, None, option_map, refl, ap, ◌∙◌, arith}
use Rattle.serde_json.specs.Data.{Data, Items, unsigned, number, string, array, no_items, item}
use Rattle.serde_json.specs.Find.{as_str, as_array}
use Rattle.serde_json.specs.View.{view, items_view}
use Rattle.serde_json.specs.declared.value.Value.{Value}
use Rattle.xf_line.specs.declared.event.Event.TheVariants.{Set}
use Rattle.xf_line.specs.Line.{rows_in, set_in, activate_in, index_in, send_in, dispatch_in, reset_in, show_in}

set_one : (a : Data) → set_in (item a no_items) ≡ None
set_one (string id) = refl
set_one a = refl

set_two : (a b : Data) → set_in (item a (item b no_items)) ≡ None
set_two (string id) (array rows) = refl
set_two (string id) b = refl
set_two a b = refl

set_four : (a b c d : Data) (rest : Items) → set_in (item a (item b (item c (item d rest)))) ≡ None
set_four (string id) (array rows) (string text) d rest = refl
set_four (string id) (array rows) c d rest = refl
set_four (string id) b c d rest = refl
set_four a b c d rest = refl

pub set_unless : (vs : List Value) → (length vs ≡ 3 → ⊥) → set_in (items_view vs) ≡ None
set_unless [] h = refl
set_unless (a ∷ []) h = set_one (view a)
set_unless (a ∷ b ∷ []) h = set_two (view a) (view b)
set_unless (a ∷ b ∷ c ∷ []) h = absurd (h refl)
set_unless (a ∷ b ∷ c ∷ d ∷ vs) h = set_four (view a) (view b) (view c) (view d) (items_view vs)

str_is : (value : Data) (s : List ℕ) → Some s ≡ as_str value → value ≡ string s
str_is (string t) s e = let same : t ≡ s = cc in ap string same
str_is value s e = cc

array_is : (value : Data) (a : Items) → Some a ≡ as_array value → value ≡ array a
array_is (array b) a e = let same : b ≡ a = cc in ap array same
array_is value a e = cc

three : (vs : List Value) (a b c : Value) → length vs ≡ 3 → a ≡ get_or vs 0 a → b ≡ get_or vs 1 b → c ≡ get_or vs 2 c → vs ≡ a ∷ b ∷ c ∷ []
three [] a b c n x y z = absurd (omega arith)
three (u ∷ []) a b c n x y z = absurd (omega arith)
three (u ∷ v ∷ []) a b c n x y z = absurd (omega arith)
three (u ∷ v ∷ w ∷ []) a b c n x y z = cc
three (u ∷ v ∷ w ∷ t ∷ ts) a b c n x y z = absurd (omega arith)

set_of : (a b c : Data) (id text : List ℕ) (rows : Items) → Some id ≡ as_str a → Some rows ≡ as_array b → Some text ≡ as_str c
    → set_in (item a (item b (item c no_items))) ≡ option_map (λ r. Set id r text) (rows_in rows)
set_of a b c id text rows i r t =
    ap (λ x. set_in (item x (item b (item c no_items)))) (str_is a id i)
    ∙ ap (λ x. set_in (item (string id) (item x (item c no_items)))) (array_is b rows r)
    ∙ ap (λ x. set_in (item (string id) (item (array rows) (item x no_items)))) (str_is c text t)

pub set_when : (vs : List Value) (a b c : Value) (id text : List ℕ) (rows : Items) → length vs ≡ 3 → a ≡ get_or vs 0 a → b ≡ get_or vs 1 b → c ≡ get_or vs 2 c
    → Some id ≡ as_str (view a) → Some rows ≡ as_array (view b) → Some text ≡ as_str (view c) → set_in (items_view vs) ≡ option_map (λ r. Set id r text) (rows_in rows)
set_when vs a b c id text rows n x y z i r t = ap (λ v. set_in (items_view v)) (three vs a b c n x y z) ∙ set_of (view a) (view b) (view c) id text rows i r t

activate_one : (a : Data) → activate_in (item a no_items) ≡ None
activate_one (string id) = refl
activate_one a = refl

activate_three : (a b c : Data) (rest : Items) → activate_in (item a (item b (item c rest))) ≡ None
activate_three (string id) (array rows) c rest = refl
activate_three (string id) b c rest = refl
activate_three a b c rest = refl

pub activate_unless : (vs : List Value) → (length vs ≡ 2 → ⊥) → activate_in (items_view vs) ≡ None
activate_unless [] h = refl
activate_unless (a ∷ []) h = activate_one (view a)
activate_unless (a ∷ b ∷ []) h = absurd (h refl)
activate_unless (a ∷ b ∷ c ∷ vs) h = activate_three (view a) (view b) (view c) (items_view vs)

index_one : (a : Data) → index_in (item a no_items) ≡ None
index_one (string id) = refl
index_one a = refl

index_three : (a b c : Data) (rest : Items) → index_in (item a (item b (item c rest))) ≡ None
index_three (string id) (number (unsigned n)) c rest = refl
index_three (string id) b c rest = refl
index_three a b c rest = refl

pub index_unless : (vs : List Value) → (length vs ≡ 2 → ⊥) → index_in (items_view vs) ≡ None
index_unless [] h = refl
index_unless (a ∷ []) h = index_one (view a)
index_unless (a ∷ b ∷ []) h = absurd (h refl)
index_unless (a ∷ b ∷ c ∷ vs) h = index_three (view a) (view b) (view c) (items_view vs)

dispatch_one : (a : Data) → dispatch_in (item a no_items) ≡ None
dispatch_one (string id) = refl
dispatch_one a = refl

dispatch_three : (a b c : Data) (rest : Items) → dispatch_in (item a (item b (item c rest))) ≡ None
dispatch_three (string name) (string id) c rest = refl
dispatch_three (string name) b c rest = refl
dispatch_three a b c rest = refl

pub dispatch_unless : (vs : List Value) → (length vs ≡ 2 → ⊥) → dispatch_in (items_view vs) ≡ None
dispatch_unless [] h = refl
dispatch_unless (a ∷ []) h = dispatch_one (view a)
dispatch_unless (a ∷ b ∷ []) h = absurd (h refl)
dispatch_unless (a ∷ b ∷ c ∷ vs) h = dispatch_three (view a) (view b) (view c) (items_view vs)

send_two : (a b : Data) (rest : Items) → send_in (item a (item b rest)) ≡ None
send_two (string id) b rest = refl
send_two a b rest = refl

pub send_unless : (vs : List Value) → (length vs ≡ 1 → ⊥) → send_in (items_view vs) ≡ None
send_unless [] h = refl
send_unless (a ∷ []) h = absurd (h refl)
send_unless (a ∷ b ∷ vs) h = send_two (view a) (view b) (items_view vs)

reset_two : (a b : Data) (rest : Items) → reset_in (item a (item b rest)) ≡ None
reset_two (string id) b rest = refl
reset_two a b rest = refl

pub reset_unless : (vs : List Value) → (length vs ≡ 1 → ⊥) → reset_in (items_view vs) ≡ None
reset_unless [] h = refl
reset_unless (a ∷ []) h = absurd (h refl)
reset_unless (a ∷ b ∷ vs) h = reset_two (view a) (view b) (items_view vs)

pub show_unless : (vs : List Value) → (length vs ≡ 0 → ⊥) → show_in (items_view vs) ≡ None
show_unless [] h = absurd (h refl)
show_unless (v ∷ vs) h = refl

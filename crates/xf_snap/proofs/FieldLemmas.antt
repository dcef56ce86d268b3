-- Texts, names and attributes are read as they were written, and written as they were read.
use Rattle.std.proofs.Common.{◌≡◌, ◌≤◌, ◌<◌, ℕ, suc, ◌+◌, ◌-◌, ◌^◌, List, [], ◌∷◌, ◌++◌, length, take, drop, Option, Some, None, refl, sym, ◌∙◌, ap, subst, arith, append_assoc, take-append-drop, length-append, length-take}
use Rattle.std.specs.Prelude.{Bool, true, false, ◌&&◌, nat_le, nat_lt, if◌then◌else◌}
use Rattle.std.specs.Str.{IsUtf8, is_utf8}
use Rattle.std.proofs.lemmas.Str.{is_utf8-from_IsUtf8, IsUtf8-from_is_utf8}
use Rattle.std.proofs.lemmas.Bool.{leb-true, le-leb, and_parts, and_from}
use Rattle.std.proofs.lemmas.List.{take_at, drop_at, take_rest}
use Rattle.xf_base.specs.Limits.{part_limit}
use Rattle.xf_name.specs.declared.qname.QName.{QName}
use Rattle.xf_def_forest.specs.declared.bare.BareAttribute.{BareAttribute}
use Rattle.xf_def_forest.specs.Limits.{limits}
use Rattle.xf_snap.specs.Numbers.{two, four, from_two, from_four}
use Rattle.xf_snap.specs.Spelling.{text_bytes, name_bytes, attribute_bytes}
use Rattle.xf_snap.specs.Within.{is_fit_name, is_fit_attribute, is_typed_name, is_typed_attribute}
use Rattle.xf_snap.specs.Reading.{◌>>=◌, Front, two_at, four_at, byte_at, text_of, text_at, name_at, attribute_at}
use Rattle.xf_snap.proofs.NumberLemmas.{IsBytes, bytes-drop, Takes, bind_some, guard_some, guard_met, wide_two, wide_four, number_takes, number_again}
use Rattle.xf_snap.proofs.SeveralLemmas.{takes_then}

pub some_is : {X : Type 0} (x y : X) → Some x ≡ Some y → x ≡ y
some_is x y e = cc

pub guard_then : {A : Type 0} (b : Bool) (o : Option A) (y : A) → (if b then o else None) ≡ Some y → (b ≡ true) × (o ≡ Some y)
guard_then true o y e = (refl, e)
guard_then false o y e = cc

-- ---- texts

text_of_takes : (size : ℕ) (bytes : List ℕ) (x : List ℕ × List ℕ) → IsBytes bytes → text_of size bytes ≡ Some x → Takes bytes x.0 x.1 × (length x.0 ≡ size) × (is_utf8 x.0 ≡ true)
text_of_takes size bytes x fits is =
    let g = guard_some (nat_le size (length bytes) && is_utf8 (take size bytes)) (take size bytes, drop size bytes) x is in
    let both = and_parts (nat_le size (length bytes)) (is_utf8 (take size bytes)) g.0 in
    let long : size ≤ length bytes = leb-true size (length bytes) both.0 in
    let made : Takes bytes (take size bytes) (drop size bytes) = record { parts = sym (take-append-drop size bytes); rest_fits = bytes-drop size bytes fits } in
    subst (λ (y : List ℕ × List ℕ). Takes bytes y.0 y.1 × (length y.0 ≡ size) × (is_utf8 y.0 ≡ true)) g.1 (made, omega (arith, long, length-take size bytes), both.1)

text_of_again : (text rest : List ℕ) → is_utf8 text ≡ true → text_of (length text) (text ++ rest) ≡ Some (text, rest)
text_of_again text rest typed =
    let front : take (length text) (text ++ rest) ≡ text = take_at text rest (length text) refl in
    let behind : drop (length text) (text ++ rest) ≡ rest = drop_at text rest (length text) refl in
    let long : nat_le (length text) (length (text ++ rest)) ≡ true = le-leb (length text) (length (text ++ rest)) (omega (arith, length-append text rest)) in
    let met : (nat_le (length text) (length (text ++ rest)) && is_utf8 (take (length text) (text ++ rest))) ≡ true =
    and_from (nat_le (length text) (length (text ++ rest))) (is_utf8 (take (length text) (text ++ rest))) long (ap is_utf8 front ∙ typed) in
    guard_met _ (Some (take (length text) (text ++ rest), drop (length text) (text ++ rest))) met ∙ (λ i. Some (front i, behind i))

-- what a piece of bytes gives as a text
pub text_found : (size : ℕ) (bytes word part : List ℕ) → size ≤ length bytes → part ≡ take size bytes → IsUtf8 (take size bytes) → word ≡ part → Some (word, take (length bytes - size) (drop size bytes)) ≡ text_of size bytes
text_found size bytes word part fits is typed same =
    let met : (nat_le size (length bytes) && is_utf8 (take size bytes)) ≡ true =
    and_from (nat_le size (length bytes)) (is_utf8 (take size bytes)) (le-leb size (length bytes) fits) (is_utf8-from_IsUtf8 (take size bytes) typed) in
    (λ i. Some ((same ∙ is) i, take_rest bytes size i)) ∙ sym (guard_met (nat_le size (length bytes) && is_utf8 (take size bytes)) (Some (take size bytes, drop size bytes)) met)

lost : (b c : Bool) (text : List ℕ) (x : List ℕ × List ℕ) → is_utf8 text ≡ c → (IsUtf8 text → ⊥) → None ≡ (if b && c then Some x else None)
lost true true text x is not_text = absurd (not_text (IsUtf8-from_is_utf8 text is))
lost true false text x is not_text = refl
lost false c text x is not_text = refl

pub text_lost : (size : ℕ) (bytes : List ℕ) → (IsUtf8 (take size bytes) → ⊥) → None ≡ text_of size bytes
text_lost size bytes not_text = lost (nat_le size (length bytes)) (is_utf8 (take size bytes)) (take size bytes) (take size bytes, drop size bytes) refl not_text

abbrev pub IsText : List ℕ → Type 0
IsText text = (nat_le (length text) limits.text ≡ true) × (is_utf8 text ≡ true)

pub text_takes : (bytes : List ℕ) (x : List ℕ × List ℕ) → IsBytes bytes → text_at bytes ≡ Some x → Takes bytes (text_bytes x.0) x.1 × IsText x.0
unfolding text_at
text_takes bytes x fits is =
    let a = bind_some (four_at bytes) (λ size. if nat_le size.0 limits.text then text_of size.0 size.1 else None) x is in
    let t = number_takes 4 four from_four (2 ^ 32) wide_four bytes a.0 fits a.1 in
    let g = guard_then (nat_le a.0.0 limits.text) (text_of a.0.0 a.0.1) x a.2 in
    let u = text_of_takes a.0.0 a.0.1 x t.0.rest_fits g.1 in
    let size : a.0.0 ≡ length x.0 = sym u.1 in
    let both = takes_then bytes (four a.0.0) a.0.1 x.0 x.1 t.0 u.0 in
    (subst (λ (n : ℕ). Takes bytes (four n ++ x.0) x.1) size both, (ap (λ (n : ℕ). nat_le n limits.text) (sym size) ∙ g.0, u.2))

pub text_again : (text rest : List ℕ) → IsText text → text_at (text_bytes text ++ rest) ≡ Some (text, rest)
unfolding text_at
text_again text rest is =
    let short : length text ≤ limits.text = leb-true (length text) limits.text is.0 in
    let split : text_bytes text ++ rest ≡ four (length text) ++ (text ++ rest) = append_assoc (four (length text)) text rest in
    let size : four_at (text_bytes text ++ rest) ≡ Some (length text, text ++ rest) =
    ap four_at split ∙ number_again 4 four from_four (2 ^ 32) wide_four (length text) (text ++ rest) (omega (arith, short)) in
    ap (λ (o : Front ℕ). o >>= λ n. if nat_le n.0 limits.text then text_of n.0 n.1 else None) size
    ∙ guard_met (nat_le (length text) limits.text) (text_of (length text) (text ++ rest)) is.0
    ∙ text_of_again text rest is.1

-- ---- names

byte_takes : (bytes : List ℕ) (x : ℕ × List ℕ) → IsBytes bytes → byte_at bytes ≡ Some x → Takes bytes (x.0 ∷ []) x.1 × (x.0 < 256)
byte_takes [] x fits is = cc
byte_takes (byte ∷ bytes) x fits is =
    let same : (byte, bytes) ≡ x = some_is (byte, bytes) x is in
    subst (λ (y : ℕ × List ℕ). Takes (byte ∷ bytes) (y.0 ∷ []) y.1 × (y.0 < 256)) same (record { parts = refl; rest_fits = bytes-drop 1 (byte ∷ bytes) fits }, fits 0)

abbrev pub IsName : QName → Type 0
IsName name = (is_fit_name name ≡ true) × (is_typed_name name ≡ true)

pub name_takes : (bytes : List ℕ) (x : QName × List ℕ) → IsBytes bytes → name_at bytes ≡ Some x → Takes bytes (name_bytes x.0) x.1 × IsName x.0
unfolding name_at
name_takes bytes x fits is =
    let a = bind_some (two_at bytes) (λ space. two_at space.1 >>= λ prefix. byte_at prefix.1 >>= λ size. text_of size.0 size.1 >>= λ local. Some (record { space = space.0; prefix = prefix.0; local = local.0 }, local.1)) x is in
    let b = bind_some (two_at a.0.1) (λ prefix. byte_at prefix.1 >>= λ size. text_of size.0 size.1 >>= λ local. Some (record { space = a.0.0; prefix = prefix.0; local = local.0 }, local.1)) x a.2 in
    let c = bind_some (byte_at b.0.1) (λ size. text_of size.0 size.1 >>= λ local. Some (record { space = a.0.0; prefix = b.0.0; local = local.0 }, local.1)) x b.2 in
    let d = bind_some (text_of c.0.0 c.0.1) (λ local. Some (record { space = a.0.0; prefix = b.0.0; local = local.0 }, local.1)) x c.2 in
    let t = number_takes 2 two from_two (2 ^ 16) wide_two bytes a.0 fits a.1 in
    let u = number_takes 2 two from_two (2 ^ 16) wide_two a.0.1 b.0 t.0.rest_fits b.1 in
    let v = byte_takes b.0.1 c.0 u.0.rest_fits c.1 in
    let w = text_of_takes c.0.0 c.0.1 d.0 v.0.rest_fits d.1 in
    let local = d.0.0 in
    let size : c.0.0 ≡ length local = sym w.1 in
    let vw = takes_then b.0.1 (c.0.0 ∷ []) c.0.1 local d.0.1 v.0 w.0 in
    let uvw = takes_then a.0.1 (two b.0.0) b.0.1 (c.0.0 ∷ local) d.0.1 u.0 vw in
    let all = takes_then bytes (two a.0.0) a.0.1 (two b.0.0 ++ (c.0.0 ∷ local)) d.0.1 t.0 uvw in
    let whole : Takes bytes (two a.0.0 ++ (two b.0.0 ++ (length local ∷ local))) d.0.1 = subst (λ (n : ℕ). Takes bytes (two a.0.0 ++ (two b.0.0 ++ (n ∷ local))) d.0.1) size all in
    let name : QName = record { space = a.0.0; prefix = b.0.0; local = local } in
    let fit : is_fit_name name ≡ true = le-leb (length local) part_limit (omega (arith, v.1, size)) in
    let typed : is_typed_name name ≡ true =
    and_from (nat_lt a.0.0 (2 ^ 16) && nat_lt b.0.0 (2 ^ 16)) (is_utf8 local) (and_from (nat_lt a.0.0 (2 ^ 16)) (nat_lt b.0.0 (2 ^ 16)) (le-leb (suc a.0.0) (2 ^ 16) t.1) (le-leb (suc b.0.0) (2 ^ 16) u.1)) w.2 in
    subst (λ (y : QName × List ℕ). Takes bytes (name_bytes y.0) y.1 × IsName y.0) (some_is (name, d.0.1) x d.2) (whole, (fit, typed))

pub name_again : (name : QName) (rest : List ℕ) → IsName name → name_at (name_bytes name ++ rest) ≡ Some (name, rest)
unfolding name_at
name_again name rest is =
    let local = name.local in
    let behind = length local ∷ (local ++ rest) in
    let parts = and_parts (nat_lt name.space (2 ^ 16) && nat_lt name.prefix (2 ^ 16)) (is_utf8 local) is.1 in
    let numbers = and_parts (nat_lt name.space (2 ^ 16)) (nat_lt name.prefix (2 ^ 16)) parts.0 in
    let split : name_bytes name ++ rest ≡ two name.space ++ (two name.prefix ++ behind) =
    append_assoc (two name.space) (two name.prefix ++ (length local ∷ local)) rest ∙ ap (λ (l : List ℕ). two name.space ++ l) (append_assoc (two name.prefix) (length local ∷ local) rest) in
    let first : two_at (name_bytes name ++ rest) ≡ Some (name.space, two name.prefix ++ behind) =
    ap two_at split ∙ number_again 2 two from_two (2 ^ 16) wide_two name.space (two name.prefix ++ behind) (leb-true (suc name.space) (2 ^ 16) numbers.0) in
    let second : two_at (two name.prefix ++ behind) ≡ Some (name.prefix, behind) = number_again 2 two from_two (2 ^ 16) wide_two name.prefix behind (leb-true (suc name.prefix) (2 ^ 16) numbers.1) in
    ap (λ (o : Front ℕ). o >>= λ space. two_at space.1 >>= λ prefix. byte_at prefix.1 >>= λ size. text_of size.0 size.1 >>= λ l. Some (record { space = space.0; prefix = prefix.0; local = l.0 }, l.1)) first
    ∙ ap (λ (o : Front ℕ). o >>= λ prefix. byte_at prefix.1 >>= λ size. text_of size.0 size.1 >>= λ l. Some (record { space = name.space; prefix = prefix.0; local = l.0 }, l.1)) second
    ∙ ap (λ (o : Front (List ℕ)). o >>= λ l. Some (record { space = name.space; prefix = name.prefix; local = l.0 }, l.1)) (text_of_again local rest parts.1)

-- ---- attributes

abbrev pub IsAttribute : BareAttribute → Type 0
IsAttribute attribute = (is_fit_attribute attribute ≡ true) × (is_typed_attribute attribute ≡ true)

pub attribute_takes : (bytes : List ℕ) (x : BareAttribute × List ℕ) → IsBytes bytes → attribute_at bytes ≡ Some x → Takes bytes (attribute_bytes x.0) x.1 × IsAttribute x.0
unfolding attribute_at
attribute_takes bytes x fits is =
    let a = bind_some (name_at bytes) (λ name. text_at name.1 >>= λ text. Some (record { name = name.0; text = text.0 }, text.1)) x is in
    let b = bind_some (text_at a.0.1) (λ text. Some (record { name = a.0.0; text = text.0 }, text.1)) x a.2 in
    let t = name_takes bytes a.0 fits a.1 in
    let u = text_takes a.0.1 b.0 t.0.rest_fits b.1 in
    let all = takes_then bytes (name_bytes a.0.0) a.0.1 (text_bytes b.0.0) b.0.1 t.0 u.0 in
    let made : BareAttribute = record { name = a.0.0; text = b.0.0 } in
    let fit : is_fit_attribute made ≡ true = and_from (is_fit_name a.0.0) (nat_le (length b.0.0) limits.text) t.1.0 u.1.0 in
    let typed : is_typed_attribute made ≡ true = and_from (is_typed_name a.0.0) (is_utf8 b.0.0) t.1.1 u.1.1 in
    subst (λ (y : BareAttribute × List ℕ). Takes bytes (attribute_bytes y.0) y.1 × IsAttribute y.0) (some_is (made, b.0.1) x b.2) (all, (fit, typed))

pub attribute_again : (attribute : BareAttribute) (rest : List ℕ) → IsAttribute attribute → attribute_at (attribute_bytes attribute ++ rest) ≡ Some (attribute, rest)
unfolding attribute_at
attribute_again attribute rest is =
    let fit = and_parts (is_fit_name attribute.name) (nat_le (length attribute.text) limits.text) is.0 in
    let typed = and_parts (is_typed_name attribute.name) (is_utf8 attribute.text) is.1 in
    let split : attribute_bytes attribute ++ rest ≡ name_bytes attribute.name ++ (text_bytes attribute.text ++ rest) = append_assoc (name_bytes attribute.name) (text_bytes attribute.text) rest in
    let first : name_at (attribute_bytes attribute ++ rest) ≡ Some (attribute.name, text_bytes attribute.text ++ rest) = ap name_at split ∙ name_again attribute.name (text_bytes attribute.text ++ rest) (fit.0, typed.0) in
    ap (λ (o : Front QName). o >>= λ name. text_at name.1 >>= λ text. Some (record { name = name.0; text = text.0 }, text.1)) first
    ∙ ap (λ (o : Front (List ℕ)). o >>= λ text. Some (record { name = attribute.name; text = text.0 }, text.1)) (text_again attribute.text rest (fit.1, typed.1))

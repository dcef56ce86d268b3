-- Names, one after the other, and the steps of a way.
use Rattle.std.proofs.Common.{◌≡◌, ℕ, zero, suc, ◌+◌, ◌-◌, ◌<◌, List, ◌∷◌, length, get_or, drop, Option, Some, None, refl, sym, ap, ◌∙◌, arith}
use Rattle.std.specs.Prelude.{false, if◌then◌else◌, is_some}
use Rattle.std.proofs.lemmas.List.{drop_more}
use Rattle.xf_schema.specs.declared.spaces.Space.{Space}
use Rattle.xf_schema.specs.declared.written.Restriction.{Restriction}
use Rattle.xf_schema.specs.declared.written.TypeName.{TypeName}
use Rattle.xf_schema.specs.declared.written.NamedType.{NamedType}
use Rattle.xf_schema.specs.declared.written.NamedType.TheVariants.{BuiltIn, Declared}
use Rattle.xf_schema.specs.Types.{built_in_at, declared_at, declared_from, end_from, end_of, is_named, way, way_from}

pub declared-more : (names : List TypeName) (i : ℕ) (r : TypeName) (space local : List ℕ) → i < length names → r ≡ get_or names i r
    → declared_from i (drop i names) space local ≡ (if is_named space local r then Some i else declared_from (i + 1) (drop (i + 1) names) space local)
declared-more names i r space local l is =
    ap (λ rs. declared_from i rs space local) (drop_more names i r l ∙ ap (λ x. x ∷ drop (i + 1) names) (sym is))
    ∙ ap (λ k. if is_named space local r then Some i else declared_from k (drop (i + 1) names) space local) (let j : suc i ≡ i + 1 = omega arith in j)

-- ---- one step of a way

one-less : (most : ℕ) → suc most - 1 ≡ most
one-less most = omega arith

pub end-here : (types : List Restriction) (base : Option NamedType) (most : ℕ) → 0 < most → declared_at types base ≡ None → end_of most types base ≡ built_in_at base
end-here types base zero m h = absurd (omega arith)
end-here types None (suc most) m h = refl
end-here types (Some (BuiltIn type)) (suc most) m h = refl
end-here types (Some (Declared n)) (suc most) m h = ap (end_from (end_of most types)) h

pub end-further : (types : List Restriction) (base : Option NamedType) (r : Restriction) (most : ℕ) → 0 < most → declared_at types base ≡ Some r
    → end_of most types base ≡ end_of (most - 1) types r.base
end-further types base r zero m h = absurd (omega arith)
end-further types None r (suc most) m h = absurd (cc)
end-further types (Some (BuiltIn type)) r (suc most) m h = absurd (cc)
end-further types (Some (Declared n)) r (suc most) m h = ap (end_from (end_of most types)) h ∙ ap (λ k. end_of k types r.base) (sym (one-less most))

pub way-further : (types : List Restriction) (base : Option NamedType) (r : Restriction) (most : ℕ) → 0 < most → declared_at types base ≡ Some r
    → way most types base ≡ r ∷ way (most - 1) types r.base
way-further types base r zero m h = absurd (omega arith)
way-further types None r (suc most) m h = absurd (cc)
way-further types (Some (BuiltIn type)) r (suc most) m h = absurd (cc)
way-further types (Some (Declared n)) r (suc most) m h = ap (way_from (way most types)) h ∙ ap (λ k. r ∷ way k types r.base) (sym (one-less most))

-- ---- white space

pub no-rule : (rule : Option Space) → is_some rule ≡ false → rule ≡ None
no-rule None h = refl
no-rule (Some space) h = absurd (cc)

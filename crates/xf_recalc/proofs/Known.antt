-- What is known of calculates, by their places: nothing before the first turn, and in each turn one truth more.
use Rattle.std.proofs.Common.{◌≡◌, ℕ, zero, suc, Bool, true, false, cond, List, [], ◌∷◌, length, take, Option, Some, None, option_map, get_or, slice_get, slice_set, refl, sym, ap, ◌∙◌, subst, inl, inr}
use Rattle.std.specs.Prelude.{◌⊎◌, not, option_and_then, replicate}
use Rattle.xf_base.specs.Limits.{string_limit}
use Rattle.xf_def_forest.specs.Visit.{Visit}
use Rattle.xf_def_xpath.specs.declared.value.Value.{Value}
use Rattle.xf_def_xpath.specs.Conversions.{truth_of}
use Rattle.xf_def_xpath.proofs.VisitFacts.{no, none-some, some-same}
use Rattle.xf_def_model.specs.declared.property.Property.{Property}
use Rattle.xf_def_model.specs.declared.property.Property.TheVariants.{Kind, Calculate, Relevant, Readonly, Required, Constraint}
use Rattle.xf_def_model.specs.Rules.{Scope}
use Rattle.xf_def_model.specs.Applied.{Entry, is_calculate, is_property}
use Rattle.xf_def_model.specs.Entries.{is_computed, value_of}
use Rattle.xf_def_model.specs.Settled.{calculates}
use Rattle.xf_binds.specs.Kept.{IsAlone, Kept, truth_at, truth_from, truth_if as kept_if}
use Rattle.xf_recalc.specs.Known.{AreKnown, IsKnown, known_at}
use Rattle.xf_recalc.specs.Passes.{AreTrue, IsKept, IsKnownBy, is_passed}
use Rattle.xf_recalc.specs.Turns.{truth_if}

abbrev nothing : Option Bool
nothing = None

none-told : (count k : ℕ) → get_or (replicate count nothing) k nothing ≡ nothing
none-told zero k = refl
none-told (suc count) zero = refl
none-told (suc count) (suc k) = none-told count k

-- one that is told is at its place, and the others stay
got-told : (known : List (Option Bool)) (place k : ℕ) (truth : Option Bool) →
    (get_or (slice_set known place truth) k None ≡ get_or known k None) ⊎ ((place ≡ k) × (get_or (slice_set known place truth) k None ≡ truth))
got-told [] place k truth = inl refl
got-told (t ∷ ts) zero zero truth = inr (refl, refl)
got-told (t ∷ ts) zero (suc k) truth = inl refl
got-told (t ∷ ts) (suc place) zero truth = inl refl
got-told (t ∷ ts) (suc place) (suc k) truth = elim (got-told ts place k truth) [ inl h ↦ inl h | inr h ↦ inr (ap suc h.0, h.1) ]

pub calculate-computed : (p : Property) → is_property p Calculate ≡ true → not (is_property p Kind) ≡ true
calculate-computed Kind h = no h
calculate-computed Calculate h = refl
calculate-computed Relevant h = no h
calculate-computed Readonly h = no h
calculate-computed Required h = no h
calculate-computed Constraint h = no h

-- a calculate has its place among these
pub calculate-at : (es : List Entry) (k : ℕ) (e : Entry) → slice_get es k ≡ Some e → is_calculate e ≡ true → slice_get (calculates es) (length (calculates (take k es))) ≡ Some e
calculate-at [] k e h is = none-some h
calculate-at (f ∷ es) zero e h is =
    let same : f ≡ e = some-same h in
    ap (λ b. slice_get (cond b (f ∷ calculates es) (calculates es)) 0) (ap is_calculate same ∙ is) ∙ ap Some same
calculate-at (f ∷ es) (suc k) e h is = by (is_calculate f) (calculate-at es k e h is)
  where
    by : (b : Bool) → slice_get (calculates es) (length (calculates (take k es))) ≡ Some e →
        slice_get (cond b (f ∷ calculates es) (calculates es)) (length (cond b (f ∷ calculates (take k es)) (calculates (take k es)))) ≡ Some e
    by true i = i
    by false i = i

module _ (scope : Scope) (all : List Visit) (entries : List Entry) where
  pub none-known : (count : ℕ) → AreKnown scope all entries (replicate count None)
  none-known count k e b h i = none-some (sym (none-told count k) ∙ i)

  pub one-known : (known : List (Option Bool)) (place : ℕ) (e : Entry) (b : Bool) → AreKnown scope all entries known → slice_get (calculates entries) place ≡ Some e →
      option_map truth_of (value_of (Some string_limit) scope all e) ≡ Some b → AreKnown scope all entries (slice_set known place (Some b))
  one-known known place e b old there is k f c h i = elim (got-told known place k (Some b)) [
    | inl stays ↦ old k f c h (sym stays ∙ i)
    | inr told ↦
        let same : e ≡ f = some-same (sym there ∙ ap (slice_get (calculates entries)) told.0 ∙ h) in
        let truth : b ≡ c = some-same (sym told.1 ∙ i) in
        ap (λ g. option_map truth_of (value_of (Some string_limit) scope all g)) (sym same) ∙ is ∙ ap Some truth
  ]

  mapped : (o : Option Value) (b : Bool) → option_map truth_of o ≡ Some b → option_map (λ value. Some (truth_of value)) o ≡ Some (Some b)
  mapped None b h = none-some h
  mapped (Some v) b h = ap (λ t. Some (Some t)) (some-same h)

  pub is-known : (known : List (Option Bool)) → AreKnown scope all entries known → (k : ℕ) → IsKnown scope all (slice_get entries k) (known_at (slice_get entries k) known (length (calculates (take k entries))))
  is-known known are k = by (slice_get entries k) refl
    where
      place : ℕ
      place = length (calculates (take k entries))

      by : (o : Option Entry) → slice_get entries k ≡ o → IsKnown scope all o (known_at o known (length (calculates (take k entries))))
      by None h = tt
      by (Some e) h = of (is_calculate e) refl (get_or known (length (calculates (take k entries))) None) refl
        where
          of : (c : Bool) → is_calculate e ≡ c → (t : Option Bool) → get_or known (length (calculates (take k entries))) None ≡ t → IsKnown scope all (Some e) (cond c t None)
          of false i t j = tt
          of true i None j = tt
          of true i (Some b) j =
              ap (truth_if scope all e) (calculate-computed e.property i)
              ∙ mapped (value_of (Some string_limit) scope all e) b (are (length (calculates (take k entries))) e b (calculate-at entries k e h i) j)

-- what is known of the entry at a place, be it passed over or not
pub known-by : (scope : Scope) (all : List Visit) (kept : Kept) (marks : List Bool) (known : List (Option Bool)) → AreKnown scope all kept.entries known → AreTrue scope all kept marks → (at : ℕ) (t : Option Bool) →
    IsKnownBy (is_passed marks at) kept known (length (calculates (take at kept.entries))) (slice_get kept.entries at) t → IsKnown scope all (slice_get kept.entries at) t
known-by scope all kept marks known are so at t h = by (is_passed marks at) refl h
  where
    of : is_passed marks at ≡ true → (o : Option Entry) → slice_get kept.entries at ≡ o → (u : Option Bool) → IsKept kept o u → IsKnown scope all o u
    of i None e u k = tt
    of i (Some e) s None k = tt
    of i (Some e) s (Some b) k = so at e b s i k

    by : (b : Bool) → is_passed marks at ≡ b → IsKnownBy b kept known (length (calculates (take at kept.entries))) (slice_get kept.entries at) t → IsKnown scope all (slice_get kept.entries at) t
    by false i k = subst (IsKnown scope all (slice_get kept.entries at)) (sym k) (is-known scope all kept.entries known are at)
    by true i k = of i (slice_get kept.entries at) refl t k

-- the truth that is kept at a place is that of an entry that stands alone
pub kept-at : (k : Kept) (at : ℕ) (t : Option Bool) → t ≡ truth_at k at → ((e : Entry) → slice_get k.entries at ≡ Some e → is_computed e ≡ true → IsAlone k e) → IsKept k (slice_get k.entries at) t
kept-at k at t is alone = by (slice_get k.entries at) refl t is
  where
    of : (e : Entry) → slice_get k.entries at ≡ Some e → (c : Bool) → is_computed e ≡ c → (u : Option Bool) → u ≡ cond c (truth_from k.stood e) None → IsKept k (Some e) u
    of e h c g None j = tt
    of e h false g (Some b) j = none-some (sym j)
    of e h true g (Some b) j = (g, (alone e h g).only, ap (option_map (truth_from k.stood)) (alone e h g).first ∙ ap Some (sym j))

    by : (o : Option Entry) → slice_get k.entries at ≡ o → (u : Option Bool) → u ≡ option_and_then (kept_if k.stood) o → IsKept k o u
    by None h u j = tt
    by (Some e) h u j = of e h (is_computed e) refl u j

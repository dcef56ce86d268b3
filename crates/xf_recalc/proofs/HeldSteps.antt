-- The entries of a model, one after the other, and the truths of their values.
use Rattle.std.proofs.Common.{◌≡◌, ℕ, zero, suc, ◌+◌, Bool, true, false, cond, ◌&&◌, ◌||◌, List, [], ◌∷◌, ◌++◌, map, length, take, drop, Option, Some, None, option_map, slice_get, refl, sym, ap, ◌∙◌, arith}
use Rattle.std.specs.Prelude.{filter, is_none}
use Rattle.std.specs.List.{list_all, list_any}
use Rattle.xf_def_forest.specs.declared.content.Node.{Node}
use Rattle.xf_def_forest.specs.Visit.{Visit}
use Rattle.xf_def_forest.proofs.BackLaws.{and-true}
use Rattle.xf_def_values.specs.Bounded.{◌>>=◌}
use Rattle.xf_base.specs.Limits.{string_limit}
use Rattle.xf_def_xpath.specs.declared.value.Value.{Value}
use Rattle.xf_def_xpath.specs.Conversions.{truth_of}
use Rattle.xf_def_xpath.proofs.VisitFacts.{no, none-some, some-same}
use Rattle.xf_def_machine.specs.Behave.{truly}
use Rattle.xf_def_model.specs.Entries.{is_computed, text_of, value_of}
use Rattle.xf_def_model.specs.Pertinent.{AllOf}
use Rattle.xf_def_model.specs.Rules.{Scope}
use Rattle.xf_def_model.specs.Applied.{Entry, is_calculate}
use Rattle.xf_def_model.specs.Settled.{Valued, bounds, calculates, is_long, values_over}
use Rattle.xf_binds.specs.Held.{Held, held_by}
use Rattle.xf_binds.specs.Kept.{valued_in, valued_of}
use Rattle.xf_recalc.specs.Turns.{found_if, found_over, found_step, is_there, is_there_at, truth_if}

plus-one : (k : ℕ) → k + 1 ≡ suc k
plus-one k = omega arith

pub there-at : (nodes : List Node) (es : List Entry) (k : ℕ) → list_all (is_there nodes) es ≡ true → is_there_at nodes (slice_get es k) ≡ true
there-at nodes [] k h = refl
there-at nodes (e ∷ es) zero h = (and-true (is_there nodes e) (list_all (is_there nodes) es) h).0
there-at nodes (e ∷ es) (suc k) h = there-at nodes es k (and-true (is_there nodes e) (list_all (is_there nodes) es) h).1

append-none : {X : Type 0} (xs : List X) → xs ++ [] ≡ xs
append-none [] = refl
append-none (x ∷ xs) = ap (λ l. x ∷ l) (append-none xs)

append-one : {X : Type 0} (xs : List X) (x : X) (ys : List X) → (xs ++ x ∷ []) ++ ys ≡ xs ++ x ∷ ys
append-one [] x ys = refl
append-one (y ∷ xs) x ys = ap (λ l. y ∷ l) (append-one xs x ys)

-- ---- a step

module _ (scope : Scope) (all : List Visit) where
  step-suc : (found : List (Option Bool)) (es : List Entry) (k : ℕ) → found_over found scope all (drop k es) ≡ (found_step found scope all (slice_get es k) >>= λ more. found_over more scope all (drop (suc k) es))
  step-suc found [] zero = refl
  step-suc found [] (suc k) = refl
  step-suc found (e ∷ es) zero = refl
  step-suc found (e ∷ es) (suc k) = step-suc found es k

  step-is : (found : List (Option Bool)) (es : List Entry) (k : ℕ) → found_over found scope all (drop k es) ≡ (found_step found scope all (slice_get es k) >>= λ more. found_over more scope all (drop (k + 1) es))
  step-is found es k = step-suc found es k ∙ ap (λ j. found_step found scope all (slice_get es k) >>= λ more. found_over more scope all (drop j es)) (sym (plus-one k))

  pub step-none : (found : List (Option Bool)) (es : List Entry) (k : ℕ) (whole : Option (List (Option Bool))) → found_over found scope all (drop k es) ≡ whole → found_step found scope all (slice_get es k) ≡ None → whole ≡ None
  step-none found es k whole h e = sym h ∙ step-is found es k ∙ ap (λ o. o >>= λ more. found_over more scope all (drop (k + 1) es)) e

  pub step-some : (found more : List (Option Bool)) (es : List Entry) (k : ℕ) (whole : Option (List (Option Bool))) → found_over found scope all (drop k es) ≡ whole → found_step found scope all (slice_get es k) ≡ Some more →
      found_over more scope all (drop (k + 1) es) ≡ whole
  step-some found more es k whole h e = sym (ap (λ o. o >>= λ next. found_over next scope all (drop (k + 1) es)) e) ∙ sym (step-is found es k) ∙ h

-- ---- all entries

module _ (scope : Scope) (all : List Visit) where
  abbrev worth : Entry → Option Value
  worth e = value_of (Some string_limit) scope all e

  pub record Outcome (found : List (Option Bool)) (es : List Entry) (h : List (Option Bool)) : Type 0 where
    pub rest : List (Option Bool)
    pub is : h ≡ found ++ rest
    pub values : valued_in (held_by es rest) ≡ map truly (values_over bounds scope es all)
    pub given : AllOf (λ e. is_computed e ≡ true → is_none (worth e) ≡ false) es

  abbrev one : Entry → Valued
  one e = record { entry = e; value = worth e }

  abbrev with_truth : Entry → Option Bool → Held
  with_truth e truth = record { entry = e; truth = truth }

  one-more : (found : List (Option Bool)) (e : Entry) (es : List Entry) (h : List (Option Bool)) (truth : Option Bool) (c : Bool) → is_computed e ≡ c →
      (c ≡ true → valued_of (with_truth e truth) ≡ truly (one e)) → (is_computed e ≡ true → is_none (worth e) ≡ false) → Outcome (found ++ truth ∷ []) es h → Outcome found (e ∷ es) h
  one-more found e es h truth c i own some o = record {
    rest = truth ∷ o.rest;
    is = o.is ∙ append-one found truth o.rest;
    values = by c i own;
    given = (some, o.given);
  }
    where
      others : List Held
      others = filter (λ (x : Held). is_computed x.entry) (held_by es o.rest)

      by : (b : Bool) → is_computed e ≡ b → (b ≡ true → valued_of (with_truth e truth) ≡ truly (one e)) → valued_in (held_by (e ∷ es) (truth ∷ o.rest)) ≡ map truly (values_over bounds scope (e ∷ es) all)
      by true j k =
          ap (λ b. map valued_of (cond b (with_truth e truth ∷ others) others)) j
          ∙ ap (λ v. v ∷ valued_in (held_by es o.rest)) (k refl) ∙ ap (λ l. truly (one e) ∷ l) o.values
          ∙ ap (λ b. map truly (map one (cond b (e ∷ filter is_computed es) (filter is_computed es)))) (sym j)
      by false j k =
          ap (λ b. map valued_of (cond b (with_truth e truth ∷ others) others)) j ∙ o.values
          ∙ ap (λ b. map truly (map one (cond b (e ∷ filter is_computed es) (filter is_computed es)))) (sym j)

  pub outcome : (found : List (Option Bool)) (es : List Entry) (h : List (Option Bool)) → found_over found scope all es ≡ Some h → Outcome found es h
  outcome found [] h e = let same = some-same e in record { rest = []; is = sym same ∙ sym (append-none found); values = refl; given = tt }
  outcome found (e ∷ es) h i = by (is_computed e) refl (worth e) refl i (λ more j. outcome more es h j)
    where
      by : (c : Bool) → is_computed e ≡ c → (o : Option Value) → worth e ≡ o → (found_if found (truth_if scope all e (is_computed e)) >>= λ more. found_over more scope all es) ≡ Some h →
          ((more : List (Option Bool)) → found_over more scope all es ≡ Some h → Outcome more es h) → Outcome found (e ∷ es) h
      by false j o k l later =
          one-more found e es h None false j (λ n. no n) (λ n. no (sym j ∙ n))
          (later (found ++ None ∷ []) (sym (ap (λ b. found_if found (truth_if scope all e b) >>= λ more. found_over more scope all es) j) ∙ l))
      by true j None k l later =
          none-some (sym (ap (λ b. found_if found (truth_if scope all e b) >>= λ more. found_over more scope all es) j
          ∙ ap (λ v. found_if found (option_map (λ value. Some (truth_of value)) v) >>= λ more. found_over more scope all es) k) ∙ l)
      by true j (Some v) k l later =
          one-more found e es h (Some (truth_of v)) true j
          (λ n. ap (λ w. truly (record { entry = e; value = w })) (sym k)) (λ n. ap is_none k)
          (later (found ++ Some (truth_of v) ∷ []) (sym (ap (λ b. found_if found (truth_if scope all e b) >>= λ more. found_over more scope all es) j
          ∙ ap (λ w. found_if found (option_map (λ value. Some (truth_of value)) w) >>= λ more. found_over more scope all es) k) ∙ l))

  -- where one has none, its string is too long
  pub none-long : (found : List (Option Bool)) (es : List Entry) → found_over found scope all es ≡ None → list_any (is_long bounds scope all) (filter is_computed es) ≡ true
  none-long found [] i = none-some (sym i)
  none-long found (e ∷ es) i = by (is_computed e) refl (worth e) refl i (λ more j. none-long more es j)
    where
      or-right : (a b : Bool) → b ≡ true → (a || b) ≡ true
      or-right true b h = refl
      or-right false b h = h

      by : (c : Bool) → is_computed e ≡ c → (o : Option Value) → worth e ≡ o → (found_if found (truth_if scope all e (is_computed e)) >>= λ more. found_over more scope all es) ≡ None →
          ((more : List (Option Bool)) → found_over more scope all es ≡ None → list_any (is_long bounds scope all) (filter is_computed es) ≡ true) →
          list_any (is_long bounds scope all) (cond c (e ∷ filter is_computed es) (filter is_computed es)) ≡ true
      by false j o k l later = later (found ++ None ∷ []) (sym (ap (λ b. found_if found (truth_if scope all e b) >>= λ more. found_over more scope all es) j) ∙ l)
      by true j None k l later =
          ap (λ w. (is_none w || (is_calculate e && is_none (text_of (Some string_limit) scope all e))) || list_any (is_long bounds scope all) (filter is_computed es)) k
      by true j (Some v) k l later =
          or-right (is_long bounds scope all e) (list_any (is_long bounds scope all) (filter is_computed es))
          (later (found ++ Some (truth_of v) ∷ []) (sym (ap (λ b. found_if found (truth_if scope all e b) >>= λ more. found_over more scope all es) j
          ∙ ap (λ w. found_if found (option_map (λ value. Some (truth_of value)) w) >>= λ more. found_over more scope all es) k) ∙ l))

-- The entry that is passed over in a turn: the calculate of its node.
use Rattle.std.proofs.Common.{◌≡◌, ℕ, suc, ◌==◌, Bool, true, false, cond, List, [], ◌∷◌, length, take, Option, Some, None, option_map, slice_get, refl, sym, ap, ◌∙◌}
use Rattle.xf_def_forest.proofs.BackLaws.{and-true}
use Rattle.xf_def_xpath.proofs.VisitFacts.{no, none-some, some-same}
use Rattle.xf_def_model.specs.declared.property.Property.TheVariants.{Calculate}
use Rattle.xf_def_model.specs.Applied.{Entry, is_calculate}
use Rattle.xf_def_model.specs.Entries.{is_computed}
use Rattle.xf_def_model.specs.Settled.{calculates}
use Rattle.xf_def_model.specs.Properties.{sets_on}
use Rattle.xf_law_recalculation.specs.Agree.InTurn.{AreSingle}
use Rattle.xf_law_recalculation.proofs.AgreeLemmas.TurnLists.{at-stands, got-stands, only-one}
use Rattle.xf_binds.specs.Held.{place_on}
use Rattle.xf_recalc.specs.Passes.{is_passed, passed_at, passed_on}
use Rattle.xf_recalc.proofs.Known.{calculate-at, calculate-computed}

-- ---- where the calculate of a node stands

record IsPlaced (es : List Entry) (n place : ℕ) : Type 0 where
  pub entry : Entry
  pub got : slice_get es place ≡ Some entry
  pub sets : sets_on n Calculate entry ≡ true

placed : (es : List Entry) (n place : ℕ) → place_on es n Calculate ≡ Some place → IsPlaced es n place
placed [] n place h = none-some h
placed (e ∷ es) n place h = by (sets_on n Calculate e) refl h (placed es n)
  where
    later : (o : Option ℕ) → option_map suc o ≡ Some place → ((k : ℕ) → o ≡ Some k → IsPlaced es n k) → IsPlaced (e ∷ es) n place
    later None i rest = none-some i
    later (Some k) i rest =
        let p = rest k refl in
        record { entry = p.entry; got = ap (slice_get (e ∷ es)) (sym (some-same i)) ∙ p.got; sets = p.sets }

    by : (b : Bool) → sets_on n Calculate e ≡ b → cond b (Some 0) (option_map suc (place_on es n Calculate)) ≡ Some place → ((k : ℕ) → place_on es n Calculate ≡ Some k → IsPlaced es n k) →
        IsPlaced (e ∷ es) n place
    by true i j rest = record { entry = e; got = ap (slice_get (e ∷ es)) (sym (some-same j)); sets = i }
    by false i j rest = later (place_on es n Calculate) j rest

pub record IsPassedAt (es : List Entry) (marks : List Bool) (e : Entry) : Type 0 where
  pub place : ℕ
  pub got : slice_get es place ≡ Some e
  pub passed : is_passed marks place ≡ true
  pub computed : is_computed e ≡ true

pub passed-place : (es : List Entry) (marks : List Bool) (k : ℕ) (e : Entry) → AreSingle (calculates es) → slice_get (calculates es) k ≡ Some e → passed_on es marks e.node ≡ true → IsPassedAt es marks e
passed-place es marks k e single at h = by (place_on es e.node Calculate) refl h
  where
    by : (o : Option ℕ) → place_on es e.node Calculate ≡ o → passed_at marks o ≡ true → IsPassedAt es marks e
    by None i j = no j
    by (Some place) i j =
        let p = placed es e.node place i in
        let sets = and-true (p.entry.node == e.node) (is_calculate p.entry) p.sets in
        let same : p.entry ≡ e = at-stands (λ (f : Entry). (f.node == e.node) ≡ true → f ≡ e) (calculates es) (length (calculates (take place es))) p.entry
        (only-one (calculates es) single k e (got-stands (calculates es) k e at))
        (got-stands (calculates es) (length (calculates (take place es))) p.entry (calculate-at es place p.entry p.got sets.1)) sets.0 in
        record {
          place = place;
          got = p.got ∙ ap Some same;
          passed = j;
          computed = ap is_computed (sym same) ∙ calculate-computed p.entry.property sets.1;
        }

-- Calls by position alone, whatever forests are compared.
use Rattle.std.proofs.Common.{◌≡◌, ℕ, Bool, true, not, ◌&&◌, List, [], ◌∷◌, map, refl, ap, ◌∙◌, subst}
use Rattle.std.specs.Prelude as std
use Rattle.xf_def_forest.proofs.BackLaws.{and-true}
use Rattle.xf_def_xpath.specs.declared.value.Value.TheVariants.{Number}
use Rattle.xf_def_xpath.specs.Setting.{Setting, Focus, Meaning, ◌>>=◌}
use Rattle.xf_def_xpath.specs.Conversions.{value_of_plain}
use Rattle.xf_def_xpath.specs.Functions.{called}
use Rattle.xf_def_xpath.specs.Table.{Function, function_at}
use Rattle.xf_def_xpath.specs.Table as of
use Rattle.xf_def_xpath.specs.Asked.{Trace, LinkTrace, WalkTrace}
use Rattle.xf_def_xpath.specs.Reads.{meaning_in}
use Rattle.xf_def_xpath.specs.Exact.{Facts, LinkFacts, all_placed, are_filled, call_facts}
use Rattle.xf_def_xpath.proofs.VisitFacts.{no}
use Rattle.xf_def_xpath.proofs.Comparison.{Comparison, other, over_shape}
use Rattle.xf_def_xpath.proofs.Gives.{both, gives-then, gives-same}
use Rattle.xf_def_xpath.proofs.PlacedLaws.{Placed, strings, numbers, texts, plains, mapped, truths, argument-placed, plains-placed, answers, branched-placed, plain-without}
use Rattle.xf_law_recalculation.proofs.AgreeLemmas.Alike.{ByPlace, Placing, meanings_of, at_one, at-plain}
use Rattle.xf_law_recalculation.proofs.AgreeLemmas.Meeting.{Meeting}
use Rattle.xf_law_recalculation.proofs.AgreeLemmas.LooseCalls.{MeetLaw}
use Rattle.xf_law_recalculation.proofs.AgreeLemmas.LoosePaths.{WalkMeets}

-- ---- what the induction keeps

pub record Lawful {w : Comparison} (m : Meeting w) (f : Facts) (x : Trace) : Type 0 where
  pub placed : f.is_placed ≡ true → ByPlace x.meaning
  pub exact : f.is_exact ≡ true → MeetLaw m x
  pub plain : f.is_plain ≡ true → f.is_exact ≡ true → (c : Focus) → (x.asked (over_shape w) c).set ≡ []

pub record LinkLawful {w : Comparison} (m : Meeting w) (l : LinkFacts) (x : LinkTrace) : Type 0 where
  pub operator : x.operator ≡ l.operator
  pub right : Lawful m l.right x.right

abbrev pub StepLawful : {w : Comparison} → Meeting w → Bool → WalkTrace → Type 0
StepLawful m b x = b ≡ true → WalkMeets m x

module _ {w : Comparison} (m : Meeting w) where
  abbrev pub Part : Type 0
  Part = (f : Facts) × (x : Trace) × Lawful m f x

  abbrev pub facts_in : List Part → List Facts
  facts_in ks = map (λ (k : Part). k.0) ks

  abbrev pub traces_in : List Part → List Trace
  traces_in ks = map (λ (k : Part). k.1) ks

  pub placings : (ks : List Part) → all_placed (facts_in ks) ≡ true → (ps : List Placing) × (meanings_of ps ≡ map meaning_in (traces_in ks))
  placings [] h = ([], refl)
  placings (k ∷ ks) h = let rest = placings ks (and-true _ _ h).1 in ((k.1.meaning, k.2.placed (and-true _ _ h).0) ∷ rest.0, ap (λ l. k.1.meaning ∷ l) rest.1)

module _ (w : Comparison) where
  abbrev s : Setting
  s = w.setting

  abbrev t : Setting
  t = other w

  abbrev u : Setting
  u = over_shape w

  abbrev Here : Type 0
  Here = (p : Meaning) × Placed w p

  abbrev same : List Here → List Meaning
  same ps = map (λ (p : Here). p.0) ps

  pub placed-of : (g : Function) (code : ℕ) → (call_facts g []).is_placed ≡ true → (ps : List Here) → Placed w (called g code (same ps))
  placed-of of.asking code h ps = λ n n' n'' position size. answers w n n' n'' position size code _ _ _ (plains-placed w n n' n'' position size ps)
  placed-of of.plainly code h ps = λ n n' n'' position size. answers w n n' n'' position size code _ _ _ (plains-placed w n n' n'' position size ps)
  placed-of of.boolean code h ps = λ n n' n'' position size. truths w n n' n'' position size (λ b. b) _ _ _ (argument-placed w n n' n'' position size 0 ps)
  placed-of of.not code h ps = λ n n' n'' position size. truths w n n' n'' position size std.not _ _ _ (argument-placed w n n' n'' position size 0 ps)
  placed-of (of.truth b) code h ps = λ n n' n'' position size. both (refl, refl)
  placed-of of.choosing code h ps = λ n n' n'' position size. branched-placed w n n' n'' position size ps
  placed-of of.branching code h ps = λ n n' n'' position size. texts w n n' n'' position size _ _ _ (strings w n n' n'' position size _ _ _ (branched-placed w n n' n'' position size ps))
  placed-of of.last code h ps = λ n n' n'' position size. both (refl, refl)
  placed-of of.position code h ps = λ n n' n'' position size. both (refl, refl)
  placed-of of.owning code h ps = no h
  placed-of of.number code h ps = no h
  placed-of of.string code h ps = no h
  placed-of of.counting code h ps = no h
  placed-of of.counting_filled code h ps = no h
  placed-of of.adding code h ps = no h
  placed-of of.averaging code h ps = no h
  placed-of of.greatest code h ps = no h
  placed-of of.least code h ps = no h
  placed-of of.local_name code h ps = no h
  placed-of of.name code h ps = no h
  placed-of of.namespace code h ps = no h
  placed-of of.current code h ps = no h
  placed-of of.event code h ps = no h
  placed-of of.index code h ps = no h
  placed-of of.instance code h ps = no h

  -- those that need their argument written
  pub owning-placed : (code : ℕ) (p : Here) (rest : List Here) → Placed w (called of.owning code (p.0 ∷ same rest))
  owning-placed code p rest n n' n'' position size =
      mapped w n n' n'' position size _ _ _ value_of_plain
      (gives-then (λ q. s.functions code (q ∷ [])) (λ q. s.functions code (q ∷ [])) (plains w n n' n'' position size _ _ _ (p.1 n n' n'' position size)) (λ q e.
      gives-same (s.functions code (q ∷ [])) (s.functions code (q ∷ [])) refl (λ r j. ap (λ m. m >>= λ x. w.functions code (x ∷ [])) e ∙ w.extend code (q ∷ []) r j))) plain-without

  pub number-placed : (code : ℕ) (p : Here) (rest : List Here) → Placed w (called of.number code (p.0 ∷ same rest))
  number-placed code p rest n n' n'' position size = mapped w n n' n'' position size _ _ _ Number (numbers w n n' n'' position size _ _ _ (p.1 n n' n'' position size)) (λ k. refl)

  pub string-placed : (code : ℕ) (p : Here) (rest : List Here) → Placed w (called of.string code (p.0 ∷ same rest))
  string-placed code p rest n n' n'' position size = texts w n n' n'' position size _ _ _ (strings w n n' n'' position size _ _ _ (p.1 n n' n'' position size))

module _ {w : Comparison} (m : Meeting w) (y : Comparison) where
  written : (g : Function) (code : ℕ) → ((p : (p : Meaning) × Placed y p) (rest : List ((p : Meaning) × Placed y p)) → Placed y (called g code (p.0 ∷ map (λ (p : (p : Meaning) × Placed y p). p.0) rest))) →
      (ks : List (Part m)) → (are_filled (facts_in m ks) && all_placed (facts_in m ks)) ≡ true → Placed y (called g code (map meaning_in (traces_in m ks)))
  written g code h [] i = no i
  written g code h (k ∷ ks) i =
      let rest = placings m ks (and-true k.0.is_placed (all_placed (facts_in m ks)) i).1 in
      subst (λ ms. Placed y (called g code (k.1.meaning ∷ ms))) (at-plain y rest.0 ∙ rest.1) (h (k.1.meaning, k.2.placed (and-true k.0.is_placed (all_placed (facts_in m ks)) i).0 y) (at_one y rest.0))

  unwritten : (g : Function) (code : ℕ) → (call_facts g []).is_placed ≡ true → (ks : List (Part m)) → all_placed (facts_in m ks) ≡ true → Placed y (called g code (map meaning_in (traces_in m ks)))
  unwritten g code i ks h = let ps = placings m ks h in subst (λ ms. Placed y (called g code ms)) (at-plain y ps.0 ∙ ps.1) (placed-of y g code i (at_one y ps.0))

  call-placed_at : (g : Function) (code : ℕ) (ks : List (Part m)) → (call_facts g (facts_in m ks)).is_placed ≡ true → Placed y (called g code (map meaning_in (traces_in m ks)))
  call-placed_at of.asking code ks h = unwritten of.asking code refl ks h
  call-placed_at of.plainly code ks h = unwritten of.plainly code refl ks h
  call-placed_at of.boolean code ks h = unwritten of.boolean code refl ks h
  call-placed_at of.not code ks h = unwritten of.not code refl ks h
  call-placed_at of.choosing code ks h = unwritten of.choosing code refl ks h
  call-placed_at of.branching code ks h = unwritten of.branching code refl ks h
  call-placed_at (of.truth b) code ks h = λ n n' n'' position size. both (refl, refl)
  call-placed_at of.last code ks h = λ n n' n'' position size. both (refl, refl)
  call-placed_at of.position code ks h = λ n n' n'' position size. both (refl, refl)
  call-placed_at of.owning code ks h = written of.owning code (owning-placed y code) ks h
  call-placed_at of.number code ks h = written of.number code (number-placed y code) ks h
  call-placed_at of.string code ks h = written of.string code (string-placed y code) ks h
  call-placed_at of.counting code ks h = no h
  call-placed_at of.counting_filled code ks h = no h
  call-placed_at of.adding code ks h = no h
  call-placed_at of.averaging code ks h = no h
  call-placed_at of.greatest code ks h = no h
  call-placed_at of.least code ks h = no h
  call-placed_at of.local_name code ks h = no h
  call-placed_at of.name code ks h = no h
  call-placed_at of.namespace code ks h = no h
  call-placed_at of.current code ks h = no h
  call-placed_at of.event code ks h = no h
  call-placed_at of.index code ks h = no h
  call-placed_at of.instance code ks h = no h

pub call-placed : {w : Comparison} (m : Meeting w) (g : Function) (code : ℕ) (ks : List (Part m)) → (call_facts g (facts_in m ks)).is_placed ≡ true → ByPlace (called g code (map meaning_in (traces_in m ks)))
call-placed m g code ks h y = call-placed_at m y g code ks h

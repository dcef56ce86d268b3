-- Where what stands in both of two lists of visits is the same, and keeps its order with the texts that are known, it does so without texts.
use Rattle.std.proofs.Common.{◌≡◌, ℕ, Bool, true, false, not, cond, ◌&&◌, List, [], ◌∷◌, Some, refl, sym, ap, ◌∙◌}
use Rattle.std.specs.Prelude.{filter}
use Rattle.xf_def_forest.specs.Forest.{is_text}
use Rattle.xf_def_forest.specs.Visit.{Visit, has}
use Rattle.xf_def_forest.proofs.BackLaws.{and-true}
use Rattle.xf_def_forest.proofs.RenumberLaws.{filter-through}
use Rattle.xf_def_xpath.specs.Asked.{found}
use Rattle.xf_def_xpath.specs.Agree.{numbers_of, untexted, AreVisits, HaveOneFrame}
use Rattle.xf_def_xpath.proofs.VisitFacts.{or-left, filter-and, filter-within, found-number, present, found-in, found-out}
use Rattle.xf_def_xpath.proofs.SameKept.{region}
use Rattle.xf_def_xpath.proofs.UntextedLaws.{solid-found}
use Rattle.xf_def_xpath.proofs.ForestVisits.{Each, each-map, each-filter, self-found}
use Rattle.xf_law_recalculation.specs.Agree.Kept.{is_known, keeps, kept}
use Rattle.xf_law_recalculation.proofs.AgreeLemmas.Parts.{part-apart}
use Rattle.xf_law_recalculation.proofs.MarksLemmas.TextLists.{standing-at}

filter-each : (p q : Visit → Bool) (xs : List Visit) → Each (λ y. p y ≡ q y) xs → filter p xs ≡ filter q xs
filter-each p q [] e = refl
filter-each p q (x ∷ xs) e = ap (λ b. cond b (x ∷ filter p xs) (filter p xs)) e.0 ∙ ap (λ l. cond (q x) (x ∷ l) l) (filter-each p q xs e.1)

module _ (known : ℕ → Bool) (A B : List Visit) (va : AreVisits A) (vb : AreVisits B) (stay : (n : ℕ) (x y : Visit) → found n A ≡ Some x → found n B ≡ Some y → x ≡ y)
    (order : filter (λ n. has n (numbers_of (kept known B))) (numbers_of (kept known A)) ≡ filter (λ n. has n (numbers_of (kept known A))) (numbers_of (kept known B))) where
  abbrev is_solid : Visit → Bool
  is_solid y = not (is_text y.content)

  abbrev in_both : Visit → Bool
  in_both y = is_solid y && (has y.number (numbers_of (untexted A)) && has y.number (numbers_of (untexted B)))

  solid-kept : (X : List Visit) → AreVisits X → (k : ℕ) (z : Visit) → found k (untexted X) ≡ Some z → found k (kept known X) ≡ Some z
  solid-kept X v k z e = let out = solid-found X v k z e in found-in (keeps known) k X z v.apart out.0 (or-left (is_solid z) (is_known known z.above) out.1)

  there : (k : ℕ) (y : Visit) → found k (kept known A) ≡ Some y → in_both y ≡ true → found k (kept known B) ≡ Some y
  there k y e h =
      let z = standing-at k (untexted B) (ap (λ n. has n (numbers_of (untexted B))) (sym (found-number k (kept known A) y e)) ∙ (and-true _ _ (and-true _ _ h).1).1) in
      solid-kept B vb k z.0 z.1 ∙ ap Some (sym (stay k y z.0 (found-out (keeps known) k A y va.apart e).0 (solid-found B vb k z.0 z.1).0))

  back : (k : ℕ) (y : Visit) → found k (kept known B) ≡ Some y → in_both y ≡ true → found k (kept known A) ≡ Some y
  back k y e h =
      let z = standing-at k (untexted A) (ap (λ n. has n (numbers_of (untexted A))) (sym (found-number k (kept known B) y e)) ∙ (and-true _ _ (and-true _ _ h).1).0) in
      solid-kept A va k z.0 z.1 ∙ ap Some (stay k z.0 y (solid-found A va k z.0 z.1).0 (found-out (keeps known) k B y vb.apart e).0)

  -- the numbers without texts that a test keeps, by one that asks of the nodes that are no texts what holds of them
  tested : (X : List Visit) → AreVisits X → (q : ℕ → Bool) → ((y : Visit) → found y.number X ≡ Some y → (is_solid y && q y.number) ≡ in_both y) → filter q (numbers_of (untexted X)) ≡ numbers_of (filter in_both (kept known X))
  tested X v q h =
      filter-through (λ (x : Visit). x.number) q (λ x. q x.number) (λ x. refl) (untexted X)
      ∙ ap (λ l. numbers_of (filter (λ (y : Visit). q y.number) l)) (sym (filter-within is_solid (keeps known) (λ y i. or-left (is_solid y) (is_known known y.above) i) X))
      ∙ ap numbers_of (sym (filter-and (λ (y : Visit). q y.number) is_solid (kept known X)))
      ∙ ap numbers_of (filter-each (λ y. is_solid y && q y.number) in_both (kept known X)
      (each-map (λ y. found y.number X ≡ Some y) (λ y. (is_solid y && q y.number) ≡ in_both y) (kept known X) h (each-filter (λ y. found y.number X ≡ Some y) (keeps known) X (self-found X v.apart))))

  own-number : (X : List Visit) → AreVisits X → (y : Visit) → found y.number X ≡ Some y → is_solid y ≡ true → has y.number (numbers_of (untexted X)) ≡ true
  own-number X v y e h = present y.number (untexted X) y (found-in is_solid y.number X y v.apart e h)

  first-test : (y : Visit) → found y.number A ≡ Some y → (is_solid y && has y.number (numbers_of (untexted B))) ≡ in_both y
  first-test y e = by (is_solid y) refl
    where
      by : (b : Bool) → is_solid y ≡ b → (b && has y.number (numbers_of (untexted B))) ≡ (b && (has y.number (numbers_of (untexted A)) && has y.number (numbers_of (untexted B))))
      by true h = ap (λ a. a && has y.number (numbers_of (untexted B))) (sym (own-number A va y e h))
      by false h = refl

  second-test : (y : Visit) → found y.number B ≡ Some y → (is_solid y && has y.number (numbers_of (untexted A))) ≡ in_both y
  second-test y e = by (is_solid y) refl
    where
      and-all : (a : Bool) → a ≡ (a && true)
      and-all true = refl
      and-all false = refl

      by : (b : Bool) → is_solid y ≡ b → (b && has y.number (numbers_of (untexted A))) ≡ (b && (has y.number (numbers_of (untexted A)) && has y.number (numbers_of (untexted B))))
      by true h = and-all (has y.number (numbers_of (untexted A))) ∙ ap (λ a. has y.number (numbers_of (untexted A)) && a) (sym (own-number B vb y e h))
      by false h = refl

  pub one_frame : HaveOneFrame A B
  one_frame = record {
    order = tested A va (λ n. has n (numbers_of (untexted B))) first-test
        ∙ region (kept known A) (kept known B) (part-apart (keeps known) A va.apart) (part-apart (keeps known) B vb.apart) order in_both there back
        ∙ sym (tested B vb (λ n. has n (numbers_of (untexted A))) second-test);
    contents = λ n x y h k. ap (λ (z : Visit). z.content) (stay n x y h k);
  }

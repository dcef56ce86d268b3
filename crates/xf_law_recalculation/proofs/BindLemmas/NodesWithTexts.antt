-- From what is told of the nodes of now and of before, with their marks, to what a bind asks of their texts.
use Rattle.std.proofs.Common.{◌≡◌, ℕ, Bool, true, false, not, ◌&&◌, ◌||◌, List, [], ◌∷◌, Some, refl, sym, ap, ◌∙◌}
use Rattle.std.specs.Prelude.{filter}
use Rattle.xf_def_forest.specs.Forest.{Forest, is_text}
use Rattle.xf_def_forest.specs.Visit.{Visit, visits, has, is_first}
use Rattle.xf_def_forest.proofs.BackLaws.{and-true}
use Rattle.xf_def_forest.proofs.RenumberLaws.{filter-through}
use Rattle.xf_def_xpath.specs.Asked.{found}
use Rattle.xf_def_xpath.specs.Agree.{numbers_of, AreVisits}
use Rattle.xf_def_xpath.proofs.VisitFacts.{self-same, or-right, found-number, found-in, found-out, present}
use Rattle.xf_def_xpath.proofs.SameKept.{region}
use Rattle.xf_def_xpath.proofs.ForestVisits.{Each, each-map, self-found, forest-visits}
use Rattle.xf_def_model.specs.Rules.{Scope}
use Rattle.xf_law_recalculation.specs.Agree.Kept.{is_known, keeps, kept}
use Rattle.xf_law_recalculation.specs.Agree.Forests.{bare}
use Rattle.xf_law_recalculation.proofs.AgreeLemmas.Parts.{part-apart}
use Rattle.xf_law_recalculation.specs.Marks.Marks.{is_unmarked, SameNodes}
use Rattle.xf_law_recalculation.specs.Marks.Binds.{SameStructure}
use Rattle.xf_law_recalculation.proofs.MarksLemmas.TextLists.{standing-at, headed, within-each}
use Rattle.xf_law_recalculation.specs.Bind.WithTexts.{HaveOwnTexts, WithTextsOfNodes}
use Rattle.xf_law_recalculation.proofs.BindLemmas.Pair.{filter-each, both-true}

module _ (texts lists : List ℕ) (scope : Scope) (now before : Forest) (structure : SameStructure lists scope now before) (nodes : SameNodes texts lists (visits now.nodes) (visits before.nodes)) (own : HaveOwnTexts texts now before) where
  abbrev A : List Visit
  A = bare now

  abbrev B : List Visit
  B = bare before

  abbrev known : ℕ → Bool
  known = is_unmarked texts

  va : AreVisits A
  va = forest-visits now structure.trees

  vb : AreVisits B
  vb = forest-visits before structure.trees_before

  abbrev in_both : Visit → Bool
  in_both y = has y.number (numbers_of A) && has y.number (numbers_of B)

  -- a node of both is known
  keeps-both : (y : Visit) → found y.number A ≡ Some y → has y.number (numbers_of B) ≡ true → keeps known y ≡ true
  keeps-both y e h = by (is_text y.content) y.above refl refl
    where
      by : (b : Bool) (ns : List ℕ) → is_text y.content ≡ b → y.above ≡ ns → (not b || is_known known ns) ≡ true
      by false ns t a = refl
      by true [] t a = refl
      by true (q ∷ qs) t a = ap not (own y.number q y e h t (ap (is_first q) a ∙ self-same q))

  first-keeps : (y : Visit) → found y.number A ≡ Some y → in_both y ≡ true → keeps known y ≡ true
  first-keeps y e h = keeps-both y e (and-true (has y.number (numbers_of A)) (has y.number (numbers_of B)) h).1

  other : (y : Visit) → found y.number B ≡ Some y → in_both y ≡ true → found y.number A ≡ Some y
  other y e h =
      let x = standing-at y.number A (and-true (has y.number (numbers_of A)) (has y.number (numbers_of B)) h).0 in
      x.1 ∙ ap Some (nodes.stay y.number x.0 y x.1 e)

  second-keeps : (y : Visit) → found y.number B ≡ Some y → in_both y ≡ true → keeps known y ≡ true
  second-keeps y e h = first-keeps y (other y e h) h

  there : (k : ℕ) (y : Visit) → found k (kept known A) ≡ Some y → in_both y ≡ true → found k (kept known B) ≡ Some y
  there k y e h =
      let out = found-out (keeps known) k A y va.apart e in
      let z = standing-at y.number B (and-true (has y.number (numbers_of A)) (has y.number (numbers_of B)) h).1 in
      let named = found-number k A y out.0 in
      let one : y ≡ z.0 = nodes.stay y.number y z.0 (ap (λ n. found n A) named ∙ out.0) z.1 in
      found-in (keeps known) k B y vb.apart (ap (λ n. found n B) (sym named) ∙ z.1 ∙ ap Some (sym one)) out.1

  back : (k : ℕ) (y : Visit) → found k (kept known B) ≡ Some y → in_both y ≡ true → found k (kept known A) ≡ Some y
  back k y e h =
      let out = found-out (keeps known) k B y vb.apart e in
      let named = found-number k B y out.0 in
      found-in (keeps known) k A y va.apart (ap (λ n. found n A) (sym named) ∙ other y (ap (λ n. found n B) named ∙ out.0) h) out.1

  common : numbers_of (filter in_both A) ≡ numbers_of (filter in_both B)
  common =
      ap numbers_of (sym (within-each in_both (keeps known) A (each-map (λ y. found y.number A ≡ Some y) (λ y. in_both y ≡ true → keeps known y ≡ true) A first-keeps (self-found A va.apart))))
      ∙ region (kept known A) (kept known B) (part-apart (keeps known) A va.apart) (part-apart (keeps known) B vb.apart) nodes.order in_both there back
      ∙ ap numbers_of (within-each in_both (keeps known) B (each-map (λ y. found y.number B ≡ Some y) (λ y. in_both y ≡ true → keeps known y ≡ true) B second-keeps (self-found B vb.apart)))

  order : filter (λ n. has n (numbers_of B)) (numbers_of A) ≡ filter (λ n. has n (numbers_of A)) (numbers_of B)
  order =
      filter-through (λ (x : Visit). x.number) (λ n. has n (numbers_of B)) (λ x. has x.number (numbers_of B)) (λ x. refl) A
      ∙ ap numbers_of (filter-each (λ x. has x.number (numbers_of B)) in_both A (each-map (λ y. found y.number A ≡ Some y) (λ y. has y.number (numbers_of B) ≡ in_both y) A
      (λ y e. sym (ap (λ b. b && has y.number (numbers_of B)) (present y.number A y e))) (self-found A va.apart)))
      ∙ common
      ∙ ap numbers_of (filter-each in_both (λ x. has x.number (numbers_of A)) B (each-map (λ y. found y.number B ≡ Some y) (λ y. in_both y ≡ has y.number (numbers_of A)) B
      (λ y e. ap (λ b. has y.number (numbers_of A) && b) (present y.number B y e) ∙ both-true (has y.number (numbers_of A))) (self-found B vb.apart)))
      ∙ sym (filter-through (λ (x : Visit). x.number) (λ n. has n (numbers_of A)) (λ x. has x.number (numbers_of A)) (λ x. refl) B)

  -- the texts in a node that is not marked are known
  unmarked-list : (n : ℕ) → has n texts ≡ false → (all : List Visit) → filter (λ y. is_first n y.above) (kept known all) ≡ filter (λ y. is_first n y.above) all
  unmarked-list n h all = within-each (λ y. is_first n y.above) (keeps known) all (each-any all)
    where
      keeps-in : (y : Visit) → is_first n y.above ≡ true → keeps known y ≡ true
      keeps-in y f = or-right (not (is_text y.content)) (is_known known y.above) (ap (is_known known) (headed n y.above f).1 ∙ ap not h)

      each-any : (ys : List Visit) → Each (λ y. is_first n y.above ≡ true → keeps known y ≡ true) ys
      each-any [] = tt
      each-any (y ∷ ys) = (keeps-in y, each-any ys)

pub with_texts_of_nodes : WithTextsOfNodes
with_texts_of_nodes texts lists scope now before structure nodes own = record {
  structure = structure;
  order = order texts lists scope now before structure nodes own;
  mixed = λ n both free elements.
      let h = nodes.mixed n both elements free in
      sym (unmarked-list texts lists scope now before structure nodes own n h (bare now)) ∙ nodes.listed n both free ∙ unmarked-list texts lists scope now before structure nodes own n h (bare before);
}

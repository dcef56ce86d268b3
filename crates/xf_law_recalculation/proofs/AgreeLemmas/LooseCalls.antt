-- Operators over two forests that meet.
use Rattle.std.proofs.Common.{◌≡◌, ℕ, Bool, true, false, List, Option, option_map, refl, ap}
use Rattle.xf_num.specs.Number.{sum, difference, product, quotient, remainder}
use Rattle.xf_def_syntax.specs.declared.expr.Operator.{Operator}
use Rattle.xf_def_syntax.specs.declared.expr.Operator.TheVariants.{Or, And, Equal, NotEqual, Less, LessOrEqual, Greater, GreaterOrEqual, Add, Subtract, Multiply, Divide, Modulo, Union}
use Rattle.xf_def_xpath.specs.declared.value.Value.{Value}
use Rattle.xf_def_xpath.specs.declared.value.Value.TheVariants.{Truth}
use Rattle.xf_def_values.specs.Conversions.{Decimal}
use Rattle.xf_def_xpath.specs.Setting.{Setting, Focus, Meaning, ◌>>=◌}
use Rattle.xf_def_xpath.specs.Conversions.{nodes_of, truth_of}
use Rattle.xf_def_xpath.specs.Comparisons.{compared}
use Rattle.xf_def_xpath.specs.Operators.{or_else, and_then, computed, combined, linked}
use Rattle.xf_def_xpath.specs.Asked.{Asked, Trace, plainly, both, as_truth, converted}
use Rattle.xf_def_xpath.specs.AskedCalls as asked
use Rattle.xf_def_xpath.proofs.VisitFacts.{no}
use Rattle.xf_def_xpath.proofs.Comparison.{Comparison, other, over_shape, Solid}
use Rattle.xf_def_xpath.proofs.PlacedLaws.{WithoutNodes}
use Rattle.xf_def_xpath.proofs.ValueAgree.{IsTruth}
use Rattle.xf_law_recalculation.proofs.AgreeLemmas.Alike.{Alike, both as gives, alike-map, alike-then, alike-weaker, alike-at}
use Rattle.xf_law_recalculation.proofs.AgreeLemmas.Meeting.{Meeting, Asks}
use Rattle.xf_law_recalculation.proofs.AgreeLemmas.LooseValues.{Fits, Agreed, tight-fits, none-solid, left-both, right-both, in-converted, in-beside, judged, calculated, unites}

pub plain-mapped : {A : Type 0} {P : A → Type 0} {v v' : Option A} (f : A → Value) → Alike P v v' → ((x : A) → WithoutNodes (f x)) → Alike WithoutNodes (option_map f v) (option_map f v')
plain-mapped f h k = alike-map f h (λ x p. k x)

pub truly-given : {P : Value → Type 0} (g : Bool → Bool) {v v' : Option Value} → Alike P v v' → Alike IsTruth (option_map (λ v. Truth (g (truth_of v))) v) (option_map (λ v. Truth (g (truth_of v))) v')
truly-given g h = alike-map (λ v. Truth (g (truth_of v))) h (λ v p. (g (truth_of v), refl))

abbrev pub MeetLaw : {w : Comparison} → Meeting w → Trace → Type 0
MeetLaw {w} m x = (c : Focus) → Solid w c.node → Asks m (x.asked (over_shape w) c) → Agreed m (x.asked (over_shape w) c) (x.meaning w.setting c) (x.meaning (other w) c)

module _ {w : Comparison} (m : Meeting w) where
  abbrev s : Setting
  s = w.setting

  abbrev t : Setting
  t = other w

  abbrev u : Setting
  u = over_shape w

  -- ---- what is given

  pub plain-agreed : (reads looks : List ℕ) (v v' : Option Value) → Alike WithoutNodes v v' → Agreed m (plainly reads looks) v v'
  plain-agreed reads looks v v' h = alike-weaker h (λ x e. tight-fits m (plainly reads looks) x e (none-solid m) (λ i. no i))

  truth-fits : (a : Asked) (v : Value) → IsTruth v → Fits m (as_truth a) v
  truth-fits a v h = tight-fits m (as_truth a) v (ap nodes_of h.1) (none-solid m) (λ i. h)

  pub truth-agreed : (a : Asked) (v v' : Option Value) → Alike IsTruth v v' → Agreed m (as_truth a) v v'
  truth-agreed a v v' h = alike-weaker h (truth-fits a)

  -- ---- operators

  pub in-left : (o : Operator) (a b : Asked) → Asks m (asked.link_asked o u a b) → Asks m a
  in-left Or a b p = left-both m a b (record { reads = p.reads; looks = p.looks })
  in-left And a b p = left-both m a b (record { reads = p.reads; looks = p.looks })
  in-left Equal a b p = in-beside m b.is_truth a (left-both m (asked.beside u b.is_truth a) (asked.beside u a.is_truth b) (record { reads = p.reads; looks = p.looks }))
  in-left NotEqual a b p = in-beside m b.is_truth a (left-both m (asked.beside u b.is_truth a) (asked.beside u a.is_truth b) (record { reads = p.reads; looks = p.looks }))
  in-left Less a b p = in-beside m b.is_truth a (left-both m (asked.beside u b.is_truth a) (asked.beside u a.is_truth b) (record { reads = p.reads; looks = p.looks }))
  in-left LessOrEqual a b p = in-beside m b.is_truth a (left-both m (asked.beside u b.is_truth a) (asked.beside u a.is_truth b) (record { reads = p.reads; looks = p.looks }))
  in-left Greater a b p = in-beside m b.is_truth a (left-both m (asked.beside u b.is_truth a) (asked.beside u a.is_truth b) (record { reads = p.reads; looks = p.looks }))
  in-left GreaterOrEqual a b p = in-beside m b.is_truth a (left-both m (asked.beside u b.is_truth a) (asked.beside u a.is_truth b) (record { reads = p.reads; looks = p.looks }))
  in-left Add a b p = in-converted m a (left-both m (converted u a) (converted u b) p)
  in-left Subtract a b p = in-converted m a (left-both m (converted u a) (converted u b) p)
  in-left Multiply a b p = in-converted m a (left-both m (converted u a) (converted u b) p)
  in-left Divide a b p = in-converted m a (left-both m (converted u a) (converted u b) p)
  in-left Modulo a b p = in-converted m a (left-both m (converted u a) (converted u b) p)
  in-left Union a b p = left-both m a b (record { reads = p.reads; looks = p.looks })

  pub in-right : (o : Operator) (a b : Asked) → Asks m (asked.link_asked o u a b) → Asks m b
  in-right Or a b p = right-both m a b (record { reads = p.reads; looks = p.looks })
  in-right And a b p = right-both m a b (record { reads = p.reads; looks = p.looks })
  in-right Equal a b p = in-beside m a.is_truth b (right-both m (asked.beside u b.is_truth a) (asked.beside u a.is_truth b) (record { reads = p.reads; looks = p.looks }))
  in-right NotEqual a b p = in-beside m a.is_truth b (right-both m (asked.beside u b.is_truth a) (asked.beside u a.is_truth b) (record { reads = p.reads; looks = p.looks }))
  in-right Less a b p = in-beside m a.is_truth b (right-both m (asked.beside u b.is_truth a) (asked.beside u a.is_truth b) (record { reads = p.reads; looks = p.looks }))
  in-right LessOrEqual a b p = in-beside m a.is_truth b (right-both m (asked.beside u b.is_truth a) (asked.beside u a.is_truth b) (record { reads = p.reads; looks = p.looks }))
  in-right Greater a b p = in-beside m a.is_truth b (right-both m (asked.beside u b.is_truth a) (asked.beside u a.is_truth b) (record { reads = p.reads; looks = p.looks }))
  in-right GreaterOrEqual a b p = in-beside m a.is_truth b (right-both m (asked.beside u b.is_truth a) (asked.beside u a.is_truth b) (record { reads = p.reads; looks = p.looks }))
  in-right Add a b p = in-converted m b (right-both m (converted u a) (converted u b) p)
  in-right Subtract a b p = in-converted m b (right-both m (converted u a) (converted u b) p)
  in-right Multiply a b p = in-converted m b (right-both m (converted u a) (converted u b) p)
  in-right Divide a b p = in-converted m b (right-both m (converted u a) (converted u b) p)
  in-right Modulo a b p = in-converted m b (right-both m (converted u a) (converted u b) p)
  in-right Union a b p = right-both m a b (record { reads = p.reads; looks = p.looks })

  at-right : {A : Type 0} (a : Asked) (k k' : A → Option Value) {v v' n n' : Option A} → Agreed m a (v >>= k) (v' >>= k') → n ≡ v → n' ≡ v' → Agreed m a (n >>= k) (n' >>= k')
  at-right a k k' h e i = alike-at (ap (λ x. x >>= k) e) (ap (λ x. x >>= k') i) h

  or-given : {P : Value → Type 0} (b : Bool) {v v' : Option Value} → Alike P v v' → Alike IsTruth (or_else b v) (or_else b v')
  or-given true h = gives (true, refl)
  or-given false h = truly-given (λ b. b) h

  and-given : {P : Value → Type 0} (b : Bool) {v v' : Option Value} → Alike P v v' → Alike IsTruth (and_then b v) (and_then b v')
  and-given true h = truly-given (λ b. b) h
  and-given false h = gives (false, refl)

  module _ (a b : Asked) (v : Value) (fits : Fits m a v) (y y' : Option Value) (r : Agreed m b y y') where
    comparing : (o : Operator) → Asks m (asked.asked_by_both u a b) → Agreed m (asked.asked_by_both u a b) (y >>= λ x. option_map Truth (compared s o v x)) (y' >>= λ x. option_map Truth (compared t o v x))
    comparing o p = alike-then (λ x. option_map Truth (compared s o v x)) (λ x. option_map Truth (compared t o v x)) r (λ x f. judged m a b v fits o x f p)

    computing : (operation : Decimal → Decimal → Decimal) → Asks m (asked.computed u a b) → Agreed m (asked.computed u a b) (y >>= computed s operation v) (y' >>= computed t operation v)
    computing operation p = alike-then (computed s operation v) (computed t operation v) r (λ x f. calculated m a b v fits operation x f p)

    pub link-agreed : (o : Operator) (right : Meaning) (c : Focus) → right s c ≡ y → right t c ≡ y' → Asks m (asked.link_asked o u a b) → Agreed m (asked.link_asked o u a b) (linked o v right s c) (linked o v right t c)
    link-agreed Or right c e i p = truth-agreed (both a b) _ _ (alike-at (ap (or_else (truth_of v)) e) (ap (or_else (truth_of v)) i) (or-given (truth_of v) r))
    link-agreed And right c e i p = truth-agreed (both a b) _ _ (alike-at (ap (and_then (truth_of v)) e) (ap (and_then (truth_of v)) i) (and-given (truth_of v) r))
    link-agreed Equal right c e i p = at-right (asked.asked_by_both u a b) (combined Equal s v) (combined Equal t v) (comparing Equal p) e i
    link-agreed NotEqual right c e i p = at-right (asked.asked_by_both u a b) (combined NotEqual s v) (combined NotEqual t v) (comparing NotEqual p) e i
    link-agreed Less right c e i p = at-right (asked.asked_by_both u a b) (combined Less s v) (combined Less t v) (comparing Less p) e i
    link-agreed LessOrEqual right c e i p = at-right (asked.asked_by_both u a b) (combined LessOrEqual s v) (combined LessOrEqual t v) (comparing LessOrEqual p) e i
    link-agreed Greater right c e i p = at-right (asked.asked_by_both u a b) (combined Greater s v) (combined Greater t v) (comparing Greater p) e i
    link-agreed GreaterOrEqual right c e i p = at-right (asked.asked_by_both u a b) (combined GreaterOrEqual s v) (combined GreaterOrEqual t v) (comparing GreaterOrEqual p) e i
    link-agreed Add right c e i p = at-right (asked.computed u a b) (combined Add s v) (combined Add t v) (computing sum p) e i
    link-agreed Subtract right c e i p = at-right (asked.computed u a b) (combined Subtract s v) (combined Subtract t v) (computing difference p) e i
    link-agreed Multiply right c e i p = at-right (asked.computed u a b) (combined Multiply s v) (combined Multiply t v) (computing (product s.given.decimals) p) e i
    link-agreed Divide right c e i p = at-right (asked.computed u a b) (combined Divide s v) (combined Divide t v) (computing (quotient s.given.decimals) p) e i
    link-agreed Modulo right c e i p = at-right (asked.computed u a b) (combined Modulo s v) (combined Modulo t v) (computing remainder p) e i
    link-agreed Union right c e i p = alike-at (ap (λ x. x >>= combined Union s v) e) (ap (λ x. x >>= combined Union t v) i) (alike-then (combined Union s v) (combined Union t v) r (λ x f. unites m a b v fits x f))

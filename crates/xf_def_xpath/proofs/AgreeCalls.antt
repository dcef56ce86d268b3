-- Operators and functions over two forests that agree on what is read and looked at.
use Rattle.std.proofs.Common.{◌≡◌, ℕ, Bool, true, false, ◌||◌, List, Option, Some, None, option_map, refl, ap, ◌∙◌}
use Rattle.xf_num.specs.Number.{sum, difference, product, quotient, remainder}
use Rattle.xf_def_syntax.specs.declared.expr.Operator.{Operator}
use Rattle.xf_def_syntax.specs.declared.expr.Operator.TheVariants.{Or, And, Equal, NotEqual, Less, LessOrEqual, Greater, GreaterOrEqual, Add, Subtract, Multiply, Divide, Modulo, Union}
use Rattle.xf_def_xpath.specs.declared.value.Value.{Value}
use Rattle.xf_def_xpath.specs.declared.value.Value.TheVariants.{Truth}
use Rattle.xf_def_xpath.specs.Given.{document_of}
use Rattle.xf_def_values.specs.declared.plain.Plain.{Plain}
use Rattle.xf_def_values.specs.Conversions.{Decimal, whole}
use Rattle.xf_def_values.specs.declared.plain.Plain.TheVariants as plain
use Rattle.xf_def_xpath.specs.Setting.{Setting, Focus, Meaning, ◌>>=◌}
use Rattle.xf_def_xpath.specs.Conversions.{nodes_of, truth_of}
use Rattle.xf_def_xpath.specs.Comparisons.{compared}
use Rattle.xf_def_xpath.specs.Operators.{or_else, and_then, computed, combined, linked}
use Rattle.xf_def_xpath.specs.Table.{Function, function_at}
use Rattle.xf_def_xpath.specs.Table as of
use Rattle.xf_def_xpath.specs.Asked.{Asked, Trace, plainly, both, as_truth, converted}
use Rattle.xf_def_xpath.specs.AskedCalls as asked
use Rattle.xf_def_xpath.proofs.VisitFacts.{no}
use Rattle.xf_def_xpath.proofs.Comparison.{Comparison, other, over_shape, Solid}
use Rattle.xf_def_xpath.proofs.Gives.{Gives, both as gives, gives-map, gives-then, gives-weaker, gives-at}
use Rattle.xf_def_xpath.proofs.PlacedLaws.{WithoutNodes}
use Rattle.xf_def_xpath.proofs.ValueAgree.{IsTruth, Premise, Fits, Agreed, none-solid, left-both, right-both, in-converted, in-beside, judged, calculated, unites}

-- what surrounds the expression is the same in both
pub record Standing (w : Comparison) : Type 0 where
  pub current : Solid w w.setting.current
  -- an instance that is not there is there in neither
  pub absent : (id : List ℕ) → document_of w.setting.model id w.shape_documents ≡ None → (document_of w.setting.model id w.setting.given.documents ≡ None) × (document_of w.setting.model id w.documents ≡ None)
  -- a function that gives a truth gives one
  pub truths : (code : ℕ) (ps : List Plain) (p : Plain) → function_at code ≡ of.asking → w.setting.functions code ps ≡ Some p → (b : Bool) × (p ≡ plain.Truth b)

abbrev pub ExactLaw : Comparison → Trace → Type 0
ExactLaw w x = (c : Focus) → Solid w c.node → Premise w (x.asked (over_shape w) c) → Agreed w (x.asked (over_shape w) c) (x.meaning w.setting c) (x.meaning (other w) c)

module _ (w : Comparison) where
  abbrev s : Setting
  s = w.setting

  abbrev t : Setting
  t = other w

  abbrev u : Setting
  u = over_shape w

  -- ---- what is given

  pub plain-agreed : (reads looks : List ℕ) (m m' : Option Value) → Gives WithoutNodes m m' → Agreed w (plainly reads looks) m m'
  plain-agreed reads looks m m' h = record { tight = refl; given = gives-weaker h (λ v e. (e, λ i. no i, none-solid w)) }

  truth-fits : (a : Asked) (v : Value) → IsTruth v → Fits w (as_truth a) v
  truth-fits a v h = (ap nodes_of h.1, λ i. h, none-solid w)

  pub truth-agreed : (a : Asked) (m m' : Option Value) → Gives IsTruth m m' → Agreed w (as_truth a) m m'
  truth-agreed a m m' h = record { tight = refl; given = gives-weaker h (truth-fits a) }

  pub plain-mapped : {A : Type 0} {P : A → Type 0} {m m' : Option A} (f : A → Value) → Gives P m m' → ((x : A) → WithoutNodes (f x)) → Gives WithoutNodes (option_map f m) (option_map f m')
  plain-mapped f h k = gives-map f h (λ x p. k x)

  pub truly-given : {P : Value → Type 0} (g : Bool → Bool) {m m' : Option Value} → Gives P m m' → Gives IsTruth (option_map (λ v. Truth (g (truth_of v))) m) (option_map (λ v. Truth (g (truth_of v))) m')
  truly-given g h = gives-map (λ v. Truth (g (truth_of v))) h (λ v p. (g (truth_of v), refl))

  -- ---- operators

  pub in-left : (o : Operator) (a b : Asked) → Premise w (asked.link_asked o u a b) → Premise w a
  in-left Or a b p = left-both w a b (record { lists = p.lists; strings = p.strings })
  in-left And a b p = left-both w a b (record { lists = p.lists; strings = p.strings })
  in-left Equal a b p = in-beside w b.is_truth a (left-both w (asked.beside u b.is_truth a) (asked.beside u a.is_truth b) (record { lists = p.lists; strings = p.strings }))
  in-left NotEqual a b p = in-beside w b.is_truth a (left-both w (asked.beside u b.is_truth a) (asked.beside u a.is_truth b) (record { lists = p.lists; strings = p.strings }))
  in-left Less a b p = in-beside w b.is_truth a (left-both w (asked.beside u b.is_truth a) (asked.beside u a.is_truth b) (record { lists = p.lists; strings = p.strings }))
  in-left LessOrEqual a b p = in-beside w b.is_truth a (left-both w (asked.beside u b.is_truth a) (asked.beside u a.is_truth b) (record { lists = p.lists; strings = p.strings }))
  in-left Greater a b p = in-beside w b.is_truth a (left-both w (asked.beside u b.is_truth a) (asked.beside u a.is_truth b) (record { lists = p.lists; strings = p.strings }))
  in-left GreaterOrEqual a b p = in-beside w b.is_truth a (left-both w (asked.beside u b.is_truth a) (asked.beside u a.is_truth b) (record { lists = p.lists; strings = p.strings }))
  in-left Add a b p = in-converted w a (left-both w (converted u a) (converted u b) p)
  in-left Subtract a b p = in-converted w a (left-both w (converted u a) (converted u b) p)
  in-left Multiply a b p = in-converted w a (left-both w (converted u a) (converted u b) p)
  in-left Divide a b p = in-converted w a (left-both w (converted u a) (converted u b) p)
  in-left Modulo a b p = in-converted w a (left-both w (converted u a) (converted u b) p)
  in-left Union a b p = left-both w a b (record { lists = p.lists; strings = p.strings })

  pub in-right : (o : Operator) (a b : Asked) → Premise w (asked.link_asked o u a b) → Premise w b
  in-right Or a b p = right-both w a b (record { lists = p.lists; strings = p.strings })
  in-right And a b p = right-both w a b (record { lists = p.lists; strings = p.strings })
  in-right Equal a b p = in-beside w a.is_truth b (right-both w (asked.beside u b.is_truth a) (asked.beside u a.is_truth b) (record { lists = p.lists; strings = p.strings }))
  in-right NotEqual a b p = in-beside w a.is_truth b (right-both w (asked.beside u b.is_truth a) (asked.beside u a.is_truth b) (record { lists = p.lists; strings = p.strings }))
  in-right Less a b p = in-beside w a.is_truth b (right-both w (asked.beside u b.is_truth a) (asked.beside u a.is_truth b) (record { lists = p.lists; strings = p.strings }))
  in-right LessOrEqual a b p = in-beside w a.is_truth b (right-both w (asked.beside u b.is_truth a) (asked.beside u a.is_truth b) (record { lists = p.lists; strings = p.strings }))
  in-right Greater a b p = in-beside w a.is_truth b (right-both w (asked.beside u b.is_truth a) (asked.beside u a.is_truth b) (record { lists = p.lists; strings = p.strings }))
  in-right GreaterOrEqual a b p = in-beside w a.is_truth b (right-both w (asked.beside u b.is_truth a) (asked.beside u a.is_truth b) (record { lists = p.lists; strings = p.strings }))
  in-right Add a b p = in-converted w b (right-both w (converted u a) (converted u b) p)
  in-right Subtract a b p = in-converted w b (right-both w (converted u a) (converted u b) p)
  in-right Multiply a b p = in-converted w b (right-both w (converted u a) (converted u b) p)
  in-right Divide a b p = in-converted w b (right-both w (converted u a) (converted u b) p)
  in-right Modulo a b p = in-converted w b (right-both w (converted u a) (converted u b) p)
  in-right Union a b p = right-both w a b (record { lists = p.lists; strings = p.strings })

  at-right : {A : Type 0} (a : Asked) (k k' : A → Option Value) {m m' n n' : Option A} → Agreed w a (m >>= k) (m' >>= k') → n ≡ m → n' ≡ m' → Agreed w a (n >>= k) (n' >>= k')
  at-right a k k' h e i = record { tight = h.tight; given = gives-at (ap (λ x. x >>= k) e) (ap (λ x. x >>= k') i) h.given }

  or-given : {P : Value → Type 0} (b : Bool) {m m' : Option Value} → Gives P m m' → Gives IsTruth (or_else b m) (or_else b m')
  or-given true h = gives (true, refl)
  or-given false h = truly-given (λ b. b) h

  and-given : {P : Value → Type 0} (b : Bool) {m m' : Option Value} → Gives P m m' → Gives IsTruth (and_then b m) (and_then b m')
  and-given true h = truly-given (λ b. b) h
  and-given false h = gives (false, refl)

  module _ (a b : Asked) (v : Value) (fits : Fits w a v) (tight : a.is_loose ≡ false) (m m' : Option Value) (r : Agreed w b m m') where
    comparing : (o : Operator) → Premise w (asked.asked_by_both u a b) → Agreed w (asked.asked_by_both u a b) (m >>= λ x. option_map Truth (compared s o v x)) (m' >>= λ x. option_map Truth (compared t o v x))
    comparing o p = record { tight = refl; given = gives-then _ _ r.given (λ x f. judged w a b v fits tight o x f p) }

    computing : (operation : Decimal → Decimal → Decimal) → Premise w (asked.computed u a b) → Agreed w (asked.computed u a b) (m >>= computed s operation v) (m' >>= computed t operation v)
    computing operation p = record { tight = refl; given = gives-then (computed s operation v) (computed t operation v) r.given (λ x f. calculated w a b v fits tight operation x f r.tight p) }

    pub link-agreed : (o : Operator) (right : Meaning) (c : Focus) → right s c ≡ m → right t c ≡ m' → Premise w (asked.link_asked o u a b) → Agreed w (asked.link_asked o u a b) (linked o v right s c) (linked o v right t c)
    link-agreed Or right c e i p = truth-agreed (both a b) _ _ (gives-at (ap (or_else (truth_of v)) e) (ap (or_else (truth_of v)) i) (or-given (truth_of v) r.given))
    link-agreed And right c e i p = truth-agreed (both a b) _ _ (gives-at (ap (and_then (truth_of v)) e) (ap (and_then (truth_of v)) i) (and-given (truth_of v) r.given))
    link-agreed Equal right c e i p = at-right (asked.asked_by_both u a b) (combined Equal s v) (combined Equal t v) (comparing Equal p) e i
    link-agreed NotEqual right c e i p = at-right (asked.asked_by_both u a b) (combined NotEqual s v) (combined NotEqual t v) (comparing NotEqual p) e i
    link-agreed Less right c e i p = at-right (asked.asked_by_both u a b) (combined Less s v) (combined Less t v) (comparing Less p) e i
    link-agreed LessOrEqual right c e i p = at-right (asked.asked_by_both u a b) (combined LessOrEqual s v) (combined LessOrEqual t v) (comparing LessOrEqual p) e i
    link-agreed Greater right c e i p = at-right (asked.asked_by_both u a b) (combined Greater s v) (combined Greater t v) (comparing Greater p) e i
    link-agreed GreaterOrEqual right c e i p = at-right (asked.asked_by_both u a b) (combined GreaterOrEqual s v) (combined GreaterOrEqual t v) (comparing GreaterOrEqual p) e i
    link-agreed Add right c e i p = at-right (asked.computed u a b) (combined Add s v) (combined Add t v) (computing sum p) e i
    link-agreed Subtract right c e i p = at-right (asked.computed u a b) (combined Subtract s v) (combined Subtract t v) (computing difference p) e i
    link-agreed Multiply right c e i p = at-right (asked.computed u a b) (combined Multiply s v) (combined Multiply t v) (computing (product s.given.decimals) p) e i
    link-agreed Divide right c e i p = at-right (asked.computed u a b) (combined Divide s v) (combined Divide t v) (computing (quotient s.given.decimals) p) e i
    link-agreed Modulo right c e i p = at-right (asked.computed u a b) (combined Modulo s v) (combined Modulo t v) (computing remainder p) e i
    link-agreed Union right c e i p = record {
      tight = ap (λ x. x || b.is_loose) tight ∙ r.tight;
      given = gives-at (ap (λ x. x >>= combined Union s v) e) (ap (λ x. x >>= combined Union t v) i) (gives-then (combined Union s v) (combined Union t v) r.given (λ x f. unites w a b v fits tight x f));
    }

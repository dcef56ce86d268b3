-- What an expression reads and looks at, from a node of the part, it reads and looks at over the whole list.
use Rattle.std.proofs.Common.{◌≡◌, ℕ, Bool, true, false, cond, List, [], ◌∷◌, refl, sym, ap, ◌∙◌}
use Rattle.std.specs.Prelude.{filter}
use Rattle.xf_def_forest.specs.Visit.{Visit}
use Rattle.xf_def_xpath.specs.Given.{Document}
use Rattle.xf_def_xpath.specs.Setting.{Setting, Focus, in_order}
use Rattle.xf_def_xpath.specs.Asked.{Asked, Trace, has_list, converted}
use Rattle.xf_def_xpath.specs.Reads.{listed, reads_in, looks_in}
use Rattle.xf_law_recalculation.specs.Within.Within.{kept, over_part}
use Rattle.xf_law_recalculation.proofs.WithinLemmas.Within.{In, ordered-same, ordered-in}
use Rattle.xf_law_recalculation.proofs.WithinLemmas.Seen.{Sees}
use Rattle.xf_law_recalculation.proofs.WithinLemmas.Asks.{AskedKeeps, TraceKeeps, converted-ok}

pub filter-swap : (q f : Visit → Bool) (ys : List Visit) → filter f (filter q ys) ≡ filter q (filter f ys)
filter-swap q f [] = refl
filter-swap q f (y ∷ ys) = by (q y) (f y) refl refl (filter-swap q f ys)
  where
    by : (a c : Bool) → q y ≡ a → f y ≡ c → filter f (filter q ys) ≡ filter q (filter f ys) →
        filter f (cond a (y ∷ filter q ys) (filter q ys)) ≡ filter q (cond c (y ∷ filter f ys) (filter f ys))
    by true true i j rest =
        ap (λ c. cond c (y ∷ filter f (filter q ys)) (filter f (filter q ys))) j ∙ ap (λ l. y ∷ l) rest ∙ sym (ap (λ a. cond a (y ∷ filter q (filter f ys)) (filter q (filter f ys))) i)
    by true false i j rest = ap (λ c. cond c (y ∷ filter f (filter q ys)) (filter f (filter q ys))) j ∙ rest
    by false true i j rest = rest ∙ sym (ap (λ a. cond a (y ∷ filter q (filter f ys)) (filter q (filter f ys))) i)
    by false false i j rest = rest

module _ (p : ℕ → Bool) (t : Trace) (keeps : TraceKeeps p t) (b : Setting) (strings : ℕ → List ℕ) (documents : List Document) (h : Sees p b strings documents) (c : Focus) (here : p c.node ≡ true) where
  asks : AskedKeeps p (converted (over_part p b strings documents) (t.asked (over_part p b strings documents) c)) (converted b (t.asked b c))
  asks = converted-ok p b strings documents h _ _ (keeps.asked b strings documents h c here)

  pub reads-same : reads_in t (over_part p b strings documents) c ≡ reads_in t b c
  reads-same = ap (λ (a : Asked). in_order (kept p b.all) a.reads) asks.same ∙ ordered-same p b.all (converted b (t.asked b c)).reads asks.inside.reads

  pub reads-inside : In p (reads_in t b c)
  reads-inside = ordered-in p b.all (converted b (t.asked b c)).reads asks.inside.reads

  pub looks-same : looks_in t (over_part p b strings documents) c ≡ looks_in t b c
  looks-same =
      ap (λ (a : Asked). listed (kept p b.all) a.looks) asks.same
      ∙ ap (λ ys. in_order ys (converted b (t.asked b c)).looks) (filter-swap (λ x. p x.number) (λ x. has_list x.content) b.all)
      ∙ ordered-same p (filter (λ x. has_list x.content) b.all) (converted b (t.asked b c)).looks asks.inside.looks

  pub looks-inside : In p (looks_in t b c)
  looks-inside = ordered-in p (filter (λ x. has_list x.content) b.all) (converted b (t.asked b c)).looks asks.inside.looks
